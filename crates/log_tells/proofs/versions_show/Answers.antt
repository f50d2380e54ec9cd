use Rattle.std.specs.Prelude.{◌≡◌}
use Rattle.page_format.specs.Fields.{lrsn_of, width_in}
use Rattle.page_images.specs.Images.{zeros}
use Rattle.log_tells.proofs.versions_show.Goals as goal
use Rattle.log_tells.proofs.Numbers.{differ, shows}
use Rattle.log_tells.proofs.Redoing.{leads}

pub returns : goal.returns
returns c =
    let none : lrsn_of zeros ≡ 0 = c.header_laws.ensures.zeros.3 16 (width_in zeros) in
    record { shown = shows c.redo_laws.ensures.number; differ = differ c.redo_laws.ensures.number none; redo = leads c.redo_laws.ensures.number none }
