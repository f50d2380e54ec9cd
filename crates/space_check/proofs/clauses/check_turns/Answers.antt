use Rattle.std.proofs.Common.{◌≡◌, ℕ, Option, ap, ◌∙◌}
use Rattle.ds_disk.specs.Contents.{Contents}
use Rattle.disk_spots.specs.Spots.{drawn_spot_of}
use Rattle.disk_walk.specs.Whole.{OfWholeLogs}
use Rattle.fitting_records.specs.Telling.{IsDrawnSpotOf}
use Rattle.space_check.specs.declared.verdict.Clause.TheVariants as clause
use Rattle.space_check.specs.declared.verdict.Verdict.{Verdict}
use Rattle.space_check.specs.Telling.{TellsTabled}
use Rattle.space_check.proofs.Reading.{spot_read}
use Rattle.space_check.proofs.Steps.{turns_told}
use Rattle.space_check.proofs.clauses.check_turns.Goals as goal

pub returns-in_ok-found-in-Some : goal.returns-in_ok-found-in-Some
returns-in_ok-found-in-Some g c =
    let read = c.in_ok-found-in-Some.ensures in
    spot_read _ _ _ _ (λ (d : Contents). OfWholeLogs c.args.ends.now (IsDrawnSpotOf c.number.result c.in_ok-found-in-Some.found) d) (λ (v : Verdict) (d : Contents). TellsTabled c.args.ends.now c.args.great c.args.told.now v d)
    c.in_ok-found-in-Some.found clause.Turns c.unsound_at.result read.ok read.same read.later c.unsound_at.ensures.some c.unsound_at.ensures.told c.unsound_at.ensures.failed
    (λ (d : Contents) at some found logs behind is.
    turns_told (record { merge = c.page_laws.ensures.merged; place = c.placing_laws.ensures.told; stand = c.unstood_laws.ensures.whole; out = c.turn_laws.ensures.out; open_of = c.turn_laws.ensures.open; rows_of = c.turn_laws.ensures.rows }) d c.args.ends.now c.args.great behind c.args.told.now logs c.in-Some.out c.in_ok-found-in-Some.found at
    c.requires.tables c.in-Some.is (found logs is.fit.ended.whole is.fit.ended.ends_are ∙ ap (λ (n : ℕ). drawn_spot_of n logs) c.number.ensures.value) some is)
