use Rattle.std.proofs.Common.{refl}
use Rattle.redone_pages.proofs.Kept.{after_one, left_out}
use Rattle.redone_pages.proofs.apply.apply_patch.Goals as goal

pub returns-then-not-has_page : goal.returns-then-not-has_page
returns-then-not-has_page c =
    left_out c.args.range.now c.args.pages.now.entries c.args.patch.now c.args.patch.now.page c.args.lrsn c.has_page.result refl c.has_page.ensures.fact (cc)

pub returns : goal.returns
returns c =
    after_one c.args.range.now c.args.pages.now.entries c.take_page.new.pages.entries c.insert.new.self.entries c.args.patch.now c.args.patch.now.page c.args.lrsn c.in_ok-page.page c.apply.new.self
    refl c.in_ok-page.ensures.page c.apply.ensures.bytes c.take_page.ensures.taken c.in_ok-insert.ensures.updates.0
