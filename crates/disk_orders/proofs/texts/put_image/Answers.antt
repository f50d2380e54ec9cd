use Rattle.std.proofs.Common.{◌++◌, codes, decimal}
use Rattle.disk_orders.specs.Texts.{image_text}
use Rattle.disk_orders.proofs.Pieces.{on_ok, line_on}
use Rattle.disk_orders.proofs.texts.put_image.Goals as goal

pub returns : goal.returns
unfolding image_text
returns c =
    on_ok c.extend.result _ _ (λ e. line_on c.args.out.now (codes "image refused at " ++ decimal c.args.at) c.put_number.new.out c.extend.new.self c.in_ok-put_number.ensures e) c.extend.ensures.ok
