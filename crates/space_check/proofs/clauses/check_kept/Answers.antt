use Rattle.std.proofs.Common.{sym, subst}
use Rattle.ds_disk.specs.Contents.{Contents}
use Rattle.kept_pages.specs.Unkept.{IsKeptTold}
use Rattle.space_check.specs.declared.verdict.Verdict.{Verdict}
use Rattle.space_check.specs.Telling.{TellsTabled}
use Rattle.space_check.specs.Verdicts.{IsTold}
use Rattle.space_check.proofs.Reading.{one_read}
use Rattle.space_check.proofs.Steps.{kept_told, unkept_told}
use Rattle.space_check.proofs.clauses.check_kept.Goals as goal

pub returns-in-Some : goal.returns-in-Some
returns-in-Some g c =
    let read = c.in_ok-found.ensures in
    one_read _ _ _ _ (λ (d : Contents). IsKeptTold c.args.ends.now c.in_ok-found.found d) (λ (v : Verdict) (d : Contents). TellsTabled c.args.ends.now c.args.great c.args.told.now v d) _ read.ok read.same read.later
    (λ (d : Contents) kept logs behind is.
    subst (λ (v : Verdict). IsTold d behind v) (sym c.unsound.ensures)
    (unkept_told (record { merge = c.page_laws.ensures.merged; place = c.placing_laws.ensures.told; stand = c.unstood_laws.ensures.whole; out = c.turn_laws.ensures.out; open_of = c.turn_laws.ensures.open; rows_of = c.turn_laws.ensures.rows }) d c.args.ends.now c.args.great behind c.args.told.now logs c.in_ok-found.found c.in-Some.at
    c.requires.tables c.requires.turns c.requires.left c.in-Some.is (kept logs is.fit.ended.whole is.fit.ended.ends_are is.fit.transactions) is))

pub returns-in-None : goal.returns-in-None
returns-in-None g c =
    let read = c.in_ok-found.ensures in
    one_read _ _ _ _ (λ (d : Contents). IsKeptTold c.args.ends.now c.in_ok-found.found d) (λ (v : Verdict) (d : Contents). TellsTabled c.args.ends.now c.args.great c.args.told.now v d) _ read.ok read.same read.later
    (λ (d : Contents) kept logs behind is.
    kept_told (record { merge = c.page_laws.ensures.merged; place = c.placing_laws.ensures.told; stand = c.unstood_laws.ensures.whole; out = c.turn_laws.ensures.out; open_of = c.turn_laws.ensures.open; rows_of = c.turn_laws.ensures.rows }) d c.args.ends.now c.args.great behind c.args.told.now logs c.in_ok-found.found
    c.requires.tables c.requires.turns c.requires.left c.in-None.is (kept logs is.fit.ended.whole is.fit.ended.ends_are is.fit.transactions) is)
