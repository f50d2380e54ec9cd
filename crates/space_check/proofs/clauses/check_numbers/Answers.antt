use Rattle.ds_disk.specs.Contents.{Contents}
use Rattle.disk_walk.specs.Whole.{OfWholeLogs}
use Rattle.fitting_records.specs.Telling.{IsSpotOf}
use Rattle.space_check.specs.declared.verdict.Clause.TheVariants as clause
use Rattle.space_check.specs.declared.verdict.Verdict.{Verdict}
use Rattle.space_check.specs.Telling.{TellsTabled}
use Rattle.space_check.proofs.Reading.{spot_read}
use Rattle.space_check.proofs.Steps.{not_left, numbers_told}
use Rattle.space_check.proofs.clauses.check_numbers.Goals as goal

pub returns : goal.returns
returns g c =
    let read = c.in_ok-found.ensures in
    spot_read _ _ _ _ (λ (d : Contents). OfWholeLogs c.args.ends.now (IsSpotOf c.args.great c.in_ok-found.found) d) (λ (v : Verdict) (d : Contents). TellsTabled c.args.ends.now c.args.great c.args.told.now v d)
    c.in_ok-found.found clause.Numbers c.unsound_at.result read.ok read.same read.later c.unsound_at.ensures.some c.unsound_at.ensures.told c.unsound_at.ensures.failed
    (λ (d : Contents) at some found logs behind is.
    numbers_told (record { merge = c.page_laws.ensures.merged; place = c.placing_laws.ensures.told; stand = c.unstood_laws.ensures.whole; out = c.turn_laws.ensures.out; open_of = c.turn_laws.ensures.open; rows_of = c.turn_laws.ensures.rows }) c.number_laws.ensures d c.args.ends.now c.args.great behind c.args.told.now logs c.in_ok-found.found at
    c.requires.tables c.requires.turns (not_left _ _ c.if-are_left.false c.are_left.ensures) (found logs is.fit.ended.whole is.fit.ended.ends_are) some is)
