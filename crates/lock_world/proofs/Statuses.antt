-- The standing of a member behind a change of one.
use Rattle.std.proofs.Common.{◌≡◌, ℕ, zero, suc, ◌≤◌, refl, sym, ◌∙◌, ap, arith, inl, inr, List, [], ◌∷◌}
use Rattle.std.specs.Prelude.{◌≢◌, ◌⊎◌, ◌-◌, slice_index_or, slice_set}
use Rattle.ds_base.specs.Ids.{IsMember}
use Rattle.list_structure.specs.declared.standing.MemberStatus.{MemberStatus}
use Rattle.list_structure.specs.declared.standing.MemberStatus.TheVariants.{Down}
use Rattle.list_structure.specs.Standings.{status_of}

at_set : {A : Type 0} → (xs : List A) (i : ℕ) (a d : A) → (slice_index_or (slice_set xs i a) i d ≡ a) ⊎ (slice_index_or (slice_set xs i a) i d ≡ d)
at_set [] i a d = inr refl
at_set (x ∷ xs) zero a d = inl refl
at_set (x ∷ xs) (suc i) a d = at_set xs i a d

set_there : {A : Type 0} → (xs : List A) (i : ℕ) (a d : A) → slice_index_or xs i d ≢ d → slice_index_or (slice_set xs i a) i d ≡ a
set_there [] i a d ne = absurd (ne refl)
set_there (x ∷ xs) zero a d ne = refl
set_there (x ∷ xs) (suc i) a d ne = set_there xs i a d ne

pub set_apart : {A : Type 0} → (xs : List A) (i j : ℕ) (a d : A) → j ≢ i → slice_index_or (slice_set xs i a) j d ≡ slice_index_or xs j d
set_apart [] i j a d ne = refl
set_apart (x ∷ xs) zero zero a d ne = absurd (ne refl)
set_apart (x ∷ xs) zero (suc j) a d ne = refl
set_apart (x ∷ xs) (suc i) zero a d ne = refl
set_apart (x ∷ xs) (suc i) (suc j) a d ne = set_apart xs i j a d (λ e. ne (ap suc e))

less_apart : (k m : ℕ) → 1 ≤ k → 1 ≤ m → k ≢ m → k - 1 ≢ m - 1
less_apart k m a b ne e = ne (omega (arith, a, b, e))

-- another member's stays
pub status_apart : (ss : List MemberStatus) (k m : ℕ) (s : MemberStatus) → 1 ≤ k → 1 ≤ m → k ≢ m → status_of (slice_set ss (m - 1) s) k ≡ status_of ss k
status_apart ss k m s a b ne = set_apart ss (m - 1) (k - 1) s Down (less_apart k m a b ne)

-- the member's own is this now, where there is one
pub status_set : (ss : List MemberStatus) (m : ℕ) (s : MemberStatus) → status_of ss m ≢ Down → status_of (slice_set ss (m - 1) s) m ≡ s
status_set ss m s ne = set_there ss (m - 1) s Down ne

pub status_or : (ss : List MemberStatus) (m : ℕ) (s : MemberStatus) → (status_of (slice_set ss (m - 1) s) m ≡ s) ⊎ (status_of (slice_set ss (m - 1) s) m ≡ Down)
status_or ss m s = at_set ss (m - 1) s Down
