use Rattle.std.proofs.Common.{ℕ, sym, subst}
use Rattle.ds_disk.specs.Contents.{Contents}
use Rattle.ds_disk.specs.Pages.{page_at}
use Rattle.restart_plan.specs.Renewal.{must_renew}
use Rattle.sound_disk.specs.Versions.{merged}
use Rattle.space_check.specs.declared.told.RangeFound.{RangeFound}
use Rattle.space_check.specs.declared.verdict.Verdict.{Verdict}
use Rattle.space_check.specs.Tables.{IsAllTold}
use Rattle.space_check.specs.Telling.{TellsAsked, TellsTabled}
use Rattle.space_check.specs.Verdicts.{IsTold}
use Rattle.space_check.proofs.Reading.{no_read, reads_as}
use Rattle.space_check.proofs.Steps.{unplaced_told}
use Rattle.space_check.proofs.clauses.check_found.Goals as goal

pub returns-in-Unplaced : goal.returns-in-Unplaced
returns-in-Unplaced g c =
    no_read _ _ (λ (v : Verdict) (d : Contents). (behind : ℕ) → TellsAsked c.args.ends.now c.args.great behind c.args.found v d) _
    (λ (d : Contents) behind logs is.
    subst (λ (v : Verdict). IsTold d behind v) (sym c.unsound.ensures)
    (unplaced_told c.placing_laws.ensures.told d c.args.ends.now c.args.great behind logs c.in-Unplaced.id is.fit
    (subst (λ (f : RangeFound). IsAllTold (page_at d.pages) (merged logs) (must_renew logs) behind f) c.in-Unplaced.is is.told)))

pub returns-in-Told : goal.returns-in-Told
returns-in-Told g c =
    reads_as _ _ _ _ (λ (v : Verdict) (d : Contents). TellsTabled c.args.ends.now c.args.great c.in-Told.told v d) (λ (v : Verdict) (d : Contents). (behind : ℕ) → TellsAsked c.args.ends.now c.args.great behind c.args.found v d)
    c.check_tables.result c.check_tables.ensures
    (λ (d : Contents) (v : Verdict) told behind logs is.
    told logs behind (record { fit = is.fit; told = subst (λ (f : RangeFound). IsAllTold (page_at d.pages) (merged logs) (must_renew logs) behind f) c.in-Told.is is.told }))
