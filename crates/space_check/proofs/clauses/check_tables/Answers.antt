use Rattle.std.proofs.Common.{sym, subst, ◌∙◌}
use Rattle.ds_disk.specs.Contents.{Contents}
use Rattle.space_check.specs.declared.verdict.Verdict.{Verdict}
use Rattle.space_check.specs.Telling.{TellsTabled}
use Rattle.space_check.specs.Verdicts.{IsTold}
use Rattle.space_check.proofs.Reading.{no_read}
use Rattle.space_check.proofs.Steps.{tables_told}
use Rattle.space_check.proofs.clauses.check_tables.Goals as goal

pub returns-in-Some : goal.returns-in-Some
returns-in-Some g c =
    no_read _ _ (λ (v : Verdict) (d : Contents). TellsTabled c.args.ends.now c.args.great c.args.told.now v d) _
    (λ (d : Contents) logs behind is.
    subst (λ (v : Verdict). IsTold d behind v) (sym c.unsound.ensures)
    (tables_told c.page_laws.ensures.merged c.placing_laws.ensures.told c.unstood_laws.ensures.whole d c.args.ends.now c.args.great behind c.args.told.now logs c.in-Some.id (sym c.wrong_page-page.ensures ∙ c.in-Some.is) is))
