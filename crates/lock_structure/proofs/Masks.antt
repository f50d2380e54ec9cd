-- A member put into a mask, or taken out.
use Rattle.std.proofs.Common.{◌≡◌, ◌≢◌, ℕ, ◌-◌, ◌*◌, ◌%◌, ◌^◌, refl, true, false, inl, inr, w32, arith, if◌then◌else◌, ◌==◌}
use Rattle.std.specs.Prelude.{bit_or, bit_and}
use Rattle.std.proofs.lemmas.Bool.{cases_eq, cond-true, cond-false, eq-eqb, ne_eqb}
use Rattle.std.proofs.lemmas.Nat.Bits.{bit_at_set_same, bit_at_set_other, bit_at_clear_same, bit_at_clear_other}
use Rattle.ds_base.specs.Ids.{IsMember}
use Rattle.lock_structure.specs.Entries.{has_member}

apart : (k m : ℕ) → IsMember k → IsMember m → k ≢ m → (k - 1) ≢ (m - 1)
apart k m a b ne = λ e. ne (omega (arith, a.0, b.0, e))

pub put_in_mask : (mask n m k : ℕ) → n ≡ m → IsMember m → IsMember k → has_member (bit_or mask (1 * 2 ^ (n - 1) % 4294967296)) k ≡ (if k == m then true else has_member mask k)
put_in_mask mask n m k same hm hk =
    elim (cases_eq k m) [
      | inl e ↦ rw (same, e, bit_at_set_same w32 mask (m - 1) (omega (arith, hm.1, hm.0)), cond-true _ true (has_member mask m) (eq-eqb m m refl))
      | inr ne ↦ rw (same, bit_at_set_other w32 mask (m - 1) (omega (arith, hm.1, hm.0)) (k - 1) (apart k m hk hm ne), cond-false _ true (has_member mask k) (ne_eqb k m ne))
    ]

pub taken_from_mask : (mask n m k : ℕ) → n ≡ m → IsMember m → IsMember k → has_member (bit_and mask (4294967295 - 1 * 2 ^ (n - 1) % 4294967296)) k ≡ (if k == m then false else has_member mask k)
taken_from_mask mask n m k same hm hk =
    elim (cases_eq k m) [
      | inl e ↦ rw (same, e, bit_at_clear_same w32 mask (m - 1) (omega (arith, hm.1, hm.0)), cond-true _ false (has_member mask m) (eq-eqb m m refl))
      | inr ne ↦ rw (same, bit_at_clear_other w32 mask (m - 1) (omega (arith, hm.1, hm.0)) (k - 1) (omega (arith, hk.1, hk.0)) (apart k m hk hm ne), cond-false _ false (has_member mask k) (ne_eqb k m ne))
    ]
