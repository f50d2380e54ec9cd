use Rattle.std.proofs.Common.{◌≡◌, ◌∙◌, true, false, true≢false, Bool, sym, ap, map}
use denote.Ref.{Bor}
use Rattle.ds_model.specs.declared.log.LogRecord.{LogRecord}
use Rattle.ds_model.specs.Rows.{Rows}
use Rattle.ds_model.specs.Logs.{after_records}
use Rattle.report_check.proofs.Touching.{one_effect, agree_ops, agree_records}
use Rattle.report_check.proofs.effect.have_one_effect.Goals as goal

clash : {X : Type 0} (b : Bool) → b ≡ true → b ≡ false → X
clash true p q = absurd (true≢false q)
clash false p q = absurd (true≢false (sym p))

pub returns-then-agree_at_ops-clause-logged : goal.returns-then-agree_at_ops-clause-logged
returns-then-agree_at_ops-clause-logged c =
    λ r. one_effect c.replay_tran.new.rows c.apply_all.new.rows c.args.rows.now c.args.logged.now c.args.ops.now c.args.items.now c.requires c.in_ok-replay_tran.ensures.rows c.in_ok-apply_all.ensures
    (c.agree_at_ops.ensures.0 c.if-agree_at_ops.true) (c.agree_at_records.ensures.0 r)

pub returns-then-agree_at_ops-clause-same : goal.returns-then-agree_at_ops-clause-same
returns-then-agree_at_ops-clause-same c =
    let a : Rows = c.replay_tran.new.rows in
    let b : Rows = c.apply_all.new.rows in
    let rs = c.args.items.now in
    let start : Rows = c.args.rows.now in
    let seen = map (λ (r : Bor LogRecord). r.now) rs in
    let is_b : b ≡ after_records start seen = c.in_ok-apply_all.ensures ∙ ap (λ (m : Rows). after_records m seen) c.requires in (
      λ r. sym is_b ∙ returns-then-agree_at_ops-clause-logged c r ∙ c.in_ok-replay_tran.ensures.rows,
      λ h. c.agree_at_records.ensures.1 (agree_records a b (c.in_ok-replay_tran.ensures.rows ∙ sym h ∙ sym is_b) rs),
    )

pub returns-else-agree_at_ops-clause-same : goal.returns-else-agree_at_ops-clause-same
returns-else-agree_at_ops-clause-same c =
    let a : Rows = c.replay_tran.new.rows in
    let b : Rows = c.apply_all.new.rows in
    let rs = c.args.items.now in
    let start : Rows = c.args.rows.now in
    let seen = map (λ (r : Bor LogRecord). r.now) rs in
    let is_b : b ≡ after_records start seen = c.in_ok-apply_all.ensures ∙ ap (λ (m : Rows). after_records m seen) c.requires in (
      λ r. clash c.agree_at_ops.result r c.if-agree_at_ops.false,
      λ h. c.agree_at_ops.ensures.1 (agree_ops a b (c.in_ok-replay_tran.ensures.rows ∙ sym h ∙ sym is_b) c.args.ops.now),
    )
