use Rattle.std.proofs.Common.{◌<◌, ℕ, ap, length, get_or, arith, ◌∙◌}
use Rattle.std.proofs.lemmas.List.{get_or_default}
use denote.Ref.{Bor}
use Rattle.ds_model.specs.declared.script.Tran.{Tran}
use Rattle.ds_model.specs.Transactions.{Placed}
use Rattle.report_check.proofs.Onces.{differ}
use Rattle.report_check.proofs.once.same_trans.Goals as goal

pub returns-then-not-same_played : goal.returns-then-not-same_played
returns-then-not-same_played c =
    let es = c.args.entries.now in
    let ts = c.args.trans.now in
    let i = c.loop-i.i in
    let d = c.index-entries-i.result in
    let e = c.index-trans-i.result in
    let under : i < length ts = omega arith in
    let below : i < length es = omega arith in
    let f = c.index-trans-i-in-loop-i.result in
    differ c.same_played.result es ts i d e below under
    (λ h. c.same_played.ensures.1 (h ∙ ap (λ (p : ℕ × Bor Tran). let it : Placed = ((get_or ts i e).0, p.1.now) in it) (get_or_default ts i e f under))) c.if-not-same_played.true
