-- No two claims of an owner are on one name.
use Rattle.std.proofs.Common.{◌≡◌, ℕ, zero, suc, ◌+◌, Bool, true, false, List, [], ◌∷◌, length, drop, set, refl, sym, ◌∙◌, ap, subst, arith, if◌then◌else◌}
use Rattle.std.specs.Prelude.{Option, Some, None, is_some, ◌||◌}
use Rattle.ds_model.specs.declared.lock.Name.{Name}
use Rattle.lock_names.specs.declared.mode.Mode.{Mode}
use Rattle.lock_names.specs.Names.{same_name}
use Rattle.lock_names.proofs.Names.{same_equal, same_turn}
use Rattle.lock_manager.specs.declared.claim.Claim.{Claim}
use Rattle.lock_manager.specs.Claims.{mode_in, without}
use Rattle.lock_manager.specs.Holders.{is_held}
use Rattle.lock_manager.specs.Buckets.{AreDistinct}

other_case : (c : Claim) (cs : List Claim) (n m : Name) (b : Bool) → same_name c.name n ≡ b → same_name n m ≡ false → mode_in (without cs n) m ≡ mode_in cs m → mode_in (if b then cs else c ∷ without cs n) m ≡ mode_in (c ∷ cs) m
other_case c cs n m true s e ih = let other : same_name c.name m ≡ false = ap (λ z. same_name z m) (same_equal c.name n s) ∙ e in grind (arith, other)
other_case c cs n m false s e ih = grind (arith, ih)

-- the claims on other names stay
absent_other : (cs : List Claim) (n m : Name) → same_name n m ≡ false → mode_in (without cs n) m ≡ mode_in cs m
absent_other [] n m e = refl
absent_other (c ∷ cs) n m e = other_case c cs n m (same_name c.name n) refl e (absent_other cs n m e)

-- a claim is taken out
without_case : (c : Claim) (cs : List Claim) (n : Name) (b : Bool) → same_name c.name n ≡ b → AreDistinct (c ∷ cs) → AreDistinct (without cs n) × (mode_in (without cs n) n ≡ None)
    → AreDistinct (if b then cs else c ∷ without cs n) × (mode_in (if b then cs else c ∷ without cs n) n ≡ None)
without_case c cs n true s d ih = (d.1, ap (λ z. mode_in cs z) (sym (same_equal c.name n s)) ∙ d.0)
without_case c cs n false s d ih = ((absent_other cs n c.name (same_turn n c.name ∙ s) ∙ d.0, ih.0), ap (λ z. if z then Some c.mode else mode_in (without cs n) n) s ∙ ih.1)

pub distinct_without : (cs : List Claim) (n : Name) → AreDistinct cs → AreDistinct (without cs n) × (mode_in (without cs n) n ≡ None)
distinct_without [] n d = (tt, refl)
distinct_without (c ∷ cs) n d = without_case c cs n (same_name c.name n) refl d (distinct_without cs n d.1)

with_case : (c : Claim) (cs : List Claim) (n : Name) (b : Bool) → same_name c.name n ≡ b → AreDistinct (if b then cs else c ∷ without cs n) → mode_in (if b then cs else c ∷ without cs n) n ≡ None
    → (AreDistinct (without cs n) → mode_in (without cs n) n ≡ None → AreDistinct cs) → AreDistinct (c ∷ cs)
with_case c cs n true s d a ih = (ap (λ z. mode_in cs z) (same_equal c.name n s) ∙ a, d)
with_case c cs n false s d a ih = (sym (absent_other cs n c.name (same_turn n c.name ∙ s)) ∙ d.0, ih d.1 (sym (ap (λ z. if z then Some c.mode else mode_in (without cs n) n) s) ∙ a))

-- a claim is put in
pub distinct_with : (cs : List Claim) (n : Name) → AreDistinct (without cs n) → mode_in (without cs n) n ≡ None → AreDistinct cs
distinct_with [] n d a = tt
distinct_with (c ∷ cs) n d a = with_case c cs n (same_name c.name n) refl d a (distinct_with cs n)

-- all claims but the one on the name stay
pub distinct_changed : (old new : List Claim) (n : Name) → AreDistinct old → without new n ≡ without old n → AreDistinct new
distinct_changed old new n d w =
    let P : List Claim → Type 0 = λ z. AreDistinct z × (mode_in z n ≡ None) in
    let it = subst P (sym w) (distinct_without old n d) in
    distinct_with new n it.0 it.1

pub distinct_removed : (old new : List Claim) (n : Name) → AreDistinct old → new ≡ without old n → AreDistinct new
distinct_removed old new n d w = subst AreDistinct (sym w) (distinct_without old n d).0

pub distinct_popped : (old new : List Claim) (c : Claim) → AreDistinct old → old ≡ c ∷ new → AreDistinct new
distinct_popped old new c d w = (subst AreDistinct w d).1

distinct_drop : (cs : List Claim) (k : ℕ) → AreDistinct cs → AreDistinct (drop k cs)
distinct_drop [] zero d = d
distinct_drop [] (suc k) d = d
distinct_drop (c ∷ cs) zero d = d
distinct_drop (c ∷ cs) (suc k) d = distinct_drop cs k d.1

pub distinct_at : (cs : List Claim) (k : ℕ) (c : Claim) → AreDistinct cs → drop k cs ≡ c ∷ drop (k + 1) cs → mode_in (drop (k + 1) cs) c.name ≡ None
distinct_at cs k c d e = (subst AreDistinct e (distinct_drop cs k d)).0

-- what the owner has left doesn't hold the name
pub held_by_others : (hs : List (List Claim)) (o : ℕ) (left : List Claim) (n : Name) → mode_in left n ≡ None → is_held (set hs o left) n ≡ is_held (set hs o []) n
held_by_others [] o left n e = refl
held_by_others (c ∷ cs) zero left n e = ap (λ z. is_some z || is_held cs n) e
held_by_others (c ∷ cs) (suc o) left n e = ap (λ z. is_some (mode_in c n) || z) (held_by_others cs o left n e)

pub nothing_beyond : (cs : List Claim) (k beyond : ℕ) → k ≡ length cs + beyond → drop k cs ≡ []
nothing_beyond [] zero beyond e = refl
nothing_beyond [] (suc k) beyond e = refl
nothing_beyond (c ∷ cs) zero beyond e = absurd (omega (arith, e))
nothing_beyond (c ∷ cs) (suc k) beyond e = nothing_beyond cs k beyond (omega (arith, e))

none_there : (b : Option Mode) → is_some b ≡ false → b ≡ None
none_there None e = refl
none_there (Some m) e = cc

-- a claim comes before the others
pub distinct_more : (old new : List Claim) (c : Claim) → AreDistinct old → is_some (mode_in old c.name) ≡ false → new ≡ c ∷ old → AreDistinct new
distinct_more old new c d a w = subst AreDistinct (sym w) (none_there (mode_in old c.name) a, d)
