-- No two claims of an owner are on one name.
use Rattle.std.proofs.Common.{◌≡◌, Bool, true, false, List, [], ◌∷◌, refl, sym, ◌∙◌, ap, arith}
use Rattle.std.specs.Prelude.{Some, None, if◌then◌else◌}
use Rattle.ds_model.specs.declared.lock.Name.{Name}
use Rattle.lock_names.specs.Names.{same_name}
use Rattle.lock_names.proofs.Names.{same_equal, same_turn}
use Rattle.lock_manager.specs.declared.claim.Claim.{Claim}
use Rattle.lock_manager.specs.Buckets.{AreDistinct}
use Rattle.lock_manager.specs.Claims.{mode_in, without}

other_case : (c : Claim) (cs : List Claim) (n m : Name) (b : Bool) → same_name c.name n ≡ b → same_name n m ≡ false → mode_in (without cs n) m ≡ mode_in cs m → mode_in (if b then cs else c ∷ without cs n) m ≡ mode_in (c ∷ cs) m
other_case c cs n m true s e ih = let other : same_name c.name m ≡ false = ap (λ z. same_name z m) (same_equal c.name n s) ∙ e in grind (arith, other)
other_case c cs n m false s e ih = grind (arith, ih)

-- the claims on other names stay
pub absent_other : (cs : List Claim) (n m : Name) → same_name n m ≡ false → mode_in (without cs n) m ≡ mode_in cs m
absent_other [] n m e = refl
absent_other (c ∷ cs) n m e = other_case c cs n m (same_name c.name n) refl e (absent_other cs n m e)

without_case : (c : Claim) (cs : List Claim) (n : Name) (b : Bool) → same_name c.name n ≡ b → AreDistinct (c ∷ cs) → AreDistinct (without cs n) × (mode_in (without cs n) n ≡ None)
    → AreDistinct (if b then cs else c ∷ without cs n) × (mode_in (if b then cs else c ∷ without cs n) n ≡ None)
without_case c cs n true s d ih = (d.1, ap (λ z. mode_in cs z) (sym (same_equal c.name n s)) ∙ d.0)
without_case c cs n false s d ih = ((absent_other cs n c.name (same_turn n c.name ∙ s) ∙ d.0, ih.0), ap (λ z. if z then Some c.mode else mode_in (without cs n) n) s ∙ ih.1)

-- a claim is taken out
pub distinct_without : (cs : List Claim) (n : Name) → AreDistinct cs → AreDistinct (without cs n) × (mode_in (without cs n) n ≡ None)
distinct_without [] n d = (tt, refl)
distinct_without (c ∷ cs) n d = without_case c cs n (same_name c.name n) refl d (distinct_without cs n d.1)

with_case : (c : Claim) (cs : List Claim) (n : Name) (b : Bool) → same_name c.name n ≡ b → AreDistinct (if b then cs else c ∷ without cs n) → mode_in (if b then cs else c ∷ without cs n) n ≡ None
    → (AreDistinct (without cs n) → mode_in (without cs n) n ≡ None → AreDistinct cs) → AreDistinct (c ∷ cs)
with_case c cs n true s d a ih = (ap (λ z. mode_in cs z) (same_equal c.name n s) ∙ a, d)
with_case c cs n false s d a ih = (sym (absent_other cs n c.name (same_turn n c.name ∙ s)) ∙ d.0, ih d.1 (sym (ap (λ z. if z then Some c.mode else mode_in (without cs n) n) s) ∙ a))

-- a claim is put in
pub distinct_with : (cs : List Claim) (n : Name) → AreDistinct (without cs n) → mode_in (without cs n) n ≡ None → AreDistinct cs
distinct_with [] n d a = tt
distinct_with (c ∷ cs) n d a = with_case c cs n (same_name c.name n) refl d a (distinct_with cs n)
