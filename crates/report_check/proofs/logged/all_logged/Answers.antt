use Rattle.std.proofs.Common.{◌≡◌, ◌∙◌, ℕ, Bool, true, false, true≢false, List, sym, ap, subst, get_or}
use Rattle.std.specs.Prelude.{Decides}
use Rattle.ds_model.specs.declared.history.Entry.{Entry}
use Rattle.ds_model.specs.declared.log.LogRecord.{LogRecord}
use Rattle.ds_model.specs.Rows.{Rows}
use Rattle.ds_model.specs.History.{after_fate}
use Rattle.report_check.specs.Commits.{at_member, FateIsLogged, left_behind}
use Rattle.report_check.proofs.Noting.{queues, none_queued, none_queued_back}
use Rattle.report_check.proofs.Walking.{one_more, stops, ends}
use Rattle.report_check.proofs.logged.all_logged.Goals as goal

clash : {X : Type 0} (b : Bool) → b ≡ true → b ≡ false → X
clash true p q = absurd (true≢false q)
clash false p q = absurd (true≢false (sym p))

abbrev Fits : List (List LogRecord) → List (List ℕ) → Rows → Entry → Type 0
Fits logs commits rows e = FateIsLogged (at_member logs e.member) (at_member commits e.member) rows e.tran.ops e.fate

pub returns-then-not-branch : goal.returns-then-not-branch
returns-then-not-branch c = λ logs h.
    let rows : Rows = c.loop-entry.rows in
    let commits = queues c.loop-entry.commits in
    let all = c.args.entries.now in
    let fits : Decides c.in_ok-is_logged.field-0 (Fits logs commits rows (get_or all c.loop-entry.entry-index c.entry-item.result)) =
    subst (λ (e : Entry). Decides c.in_ok-is_logged.field-0 (Fits logs commits rows e)) c.entry-item.is (c.in_ok-is_logged.ensures.same logs h) in (
      λ e. absurd (true≢false (sym e)),
      λ whole. absurd (stops logs (queues c.args.commits.now) commits c.args.rows.now rows all c.loop-entry.entry-index c.entry-item.result (c.loop-entry.invariant.walks logs h) c.loop-entry-test.true
          (λ f. clash c.in_ok-is_logged.field-0 (fits.1 f) c.if-not-branch.true) whole),
    )

pub loop-entry-preserved : goal.loop-entry-preserved
loop-entry-preserved c = record {
  equal = c.in_ok-is_logged.ensures.logged c.if-not-branch.false;
  walks = λ logs h.
      let rows : Rows = c.loop-entry.rows in
      let commits = queues c.loop-entry.commits in
      let all = c.args.entries.now in
      let fits : Decides c.in_ok-is_logged.field-0 (Fits logs commits rows (get_or all c.loop-entry.entry-index c.entry-item.result)) =
      subst (λ (e : Entry). Decides c.in_ok-is_logged.field-0 (Fits logs commits rows e)) c.entry-item.is (c.in_ok-is_logged.ensures.same logs h) in
      one_more logs (queues c.args.commits.now) commits c.args.rows.now rows all c.loop-entry.entry-index c.entry-item.result (c.loop-entry.invariant.walks logs h) c.loop-entry-test.true
      (queues c.is_logged.new.commits) c.is_logged.new.rows (fits.0 c.if-not-branch.false)
      (c.in_ok-is_logged.ensures.left ∙ ap (λ (e : Entry). left_behind commits e.member e.fate) c.entry-item.is)
      (c.in_ok-is_logged.ensures.rows c.if-not-branch.false ∙ ap (λ (e : Entry). after_fate rows e.tran.ops e.fate) c.entry-item.is);
}

pub returns : goal.returns
returns c = λ logs h.
    let w = ends logs (queues c.args.commits.now) (queues c.loop-entry.commits) c.args.rows.now c.loop-entry.rows c.args.entries.now c.loop-entry.entry-index (c.loop-entry.invariant.walks logs h) c.loop-entry-test.false in
    (λ e. w.whole (none_queued c.loop-entry.commits (c.none_left.ensures.0 e)), λ a. c.none_left.ensures.1 (none_queued_back c.loop-entry.commits (w.needed a)))
