use Rattle.std.proofs.Common.{◌≡◌, ◌∙◌, true, sym}
use Rattle.std.proofs.lemmas.Result.{IfOk-weaker}
use Rattle.opening_rows.proofs.WholeLogs.{borne_by}
use Rattle.opening_rows.proofs.whole.bear_out.Goals as goal

pub returns : goal.returns
returns c =
    let yes : c.same_rows.result ≡ true = cc in
    let same : c.args.left.now ≡ c.in_ok-rows.rows = sym c.as_slice.ensures ∙ c.same_rows.ensures.0 yes ∙ c.as_slice-2.ensures in
    IfOk-weaker c.are_logged.result _ _
    (λ found d. borne_by c.args.opening.now c.args.entries.now c.args.logs.now found c.args.left.now _ c.deref.ensures.value (same ∙ c.in_ok-rows.ensures.rows) d)
    c.are_logged.ensures
