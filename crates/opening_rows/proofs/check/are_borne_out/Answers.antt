use Rattle.std.proofs.Common.{◌≡◌, ◌∙◌, true, sym}
use Rattle.std.proofs.lemmas.Result.{IfOk-weaker}
use Rattle.opening_rows.proofs.Judged.{borne_out}
use Rattle.opening_rows.proofs.check.are_borne_out.Goals as goal

pub returns : goal.returns
returns c = λ logs k.
    let yes : c.same_rows.result ≡ true = cc in
    let same : c.args.left.now ≡ c.args.rows.now = sym c.as_slice.ensures ∙ c.same_rows.ensures.0 yes ∙ c.as_slice-2.ensures in
    IfOk-weaker c.are_logged.result _ _
    (λ found d. borne_out c.kept_laws.ensures.enough c.args.opening.now c.args.entries.now logs c.args.kept.now found c.args.left.now c.args.rows.now _ _ k same c.deref.ensures.value c.deref-2.ensures.value d)
    c.are_logged.ensures
