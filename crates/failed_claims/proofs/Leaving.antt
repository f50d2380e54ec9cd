-- What a failure leaves of the claims of its member.
use Rattle.std.proofs.Common.{◌≡◌, ℕ, refl, sym, ◌∙◌, ap, subst, Bool, true, false, Option, Some, None}
use Rattle.std.specs.Prelude.{◌==◌, if◌then◌else◌}
use Rattle.std.proofs.lemmas.Bool.{eq-eqb}
use Rattle.ds_model.specs.Rows.{Spot}
use Rattle.lock_names.specs.declared.mode.Mode.{Mode}
use Rattle.lock_names.specs.declared.mode.Mode.TheVariants.{IX, X}
use Rattle.lock_protocol.specs.Machine.{Covers, Record, World, failed, retained_claim}
use Rattle.lock_world.specs.Rollbacks.{row_of, space_of}
use Rattle.lock_world.specs.Tied.{ClaimTied}
use Rattle.failed_claims.specs.Failing.{FailureLeaves, RowsOutlive}
use Rattle.failed_claims.proofs.Handing.{left_row, left_space}

left_at : (w : World) (m o c : ℕ) → (failed w m).claims m o c ≡ retained_claim (w.claims m o c)
left_at w m o c = ap (λ (b : Bool). if b then retained_claim (w.claims m o c) else w.claims m o c) (eq-eqb m m refl)

-- the claims of a member that is up are those that it knows
claim_is : (x held : Option Mode) (r : Option Record) → ClaimTied x held r → (held ≡ None → x ≡ None) → x ≡ held
claim_is x None r tied up = up refl
claim_is x (Some mode) r tied up = tied

pub failure_leaves : FailureLeaves
failure_leaves w locks lists held s tied member up live knows o c =
    left_at w s.member o c
    ∙ ap (λ (z : Option Mode). retained_claim z) (claim_is (w.claims s.member o c) (held s.member o c) (w.records s.member c) (tied.claims s.member o c live) (tied.up s.member o c member up) ∙ knows o c)

pub rows_outlive : RowsOutlive
rows_outlive w m owner spot h = (
  subst (λ (z : Option Mode). Covers z IX) (sym (left_at w m owner (space_of spot))) (left_space (w.claims m owner (space_of spot)) h.0),
  subst (λ (z : Option Mode). Covers z X) (sym (left_at w m owner (row_of spot))) (left_row (w.claims m owner (row_of spot)) h.1),
)
