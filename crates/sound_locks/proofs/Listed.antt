-- Each claim in the list of a lock manager's is one that it has.
use Rattle.std.proofs.Common.{◌≡◌, ℕ, zero, suc, ◌+◌, ◌<◌, refl, sym, ap, subst, ◌∙◌, arith, Bool, true, false, List, [], ◌∷◌, ◌++◌, length, map, Option, Some, None}
use Rattle.std.specs.Prelude.{Contains, flat_map, if◌then◌else◌, slice_index_or}
use Rattle.std.specs.List.{AllByRecursion}
use Rattle.ds_model.specs.declared.lock.Name.{Name}
use Rattle.lock_names.specs.declared.mode.Mode.{Mode}
use Rattle.lock_names.specs.Names.{same_name}
use Rattle.lock_names.proofs.Names.{same_equal, same_itself}
use Rattle.lock_manager.specs.declared.claim.Claim.{Claim}
use Rattle.lock_manager.specs.Buckets.{AreDistinct}
use Rattle.lock_manager.specs.Claims.{mode_in}
use Rattle.lock_manager.specs.Managers.{Book}
use Rattle.lock_world.specs.Books.{IsBook}
use Rattle.lock_world.specs.Numbers.{number, name_at}
use Rattle.lock_world.specs.Views.{claim_in, claims_by}
use Rattle.lock_world.proofs.Numbers.{named}
use Rattle.lock_world.proofs.Owners.{each_owner}
use Rattle.sound_locks.specs.Claims.{LockClaim, as_claim, book_claims, owner_claims, owners_in}

-- ---- lists

pub all_join : {A : Type 0} → (P : A → Type 0) (xs ys : List A) → AllByRecursion P xs → AllByRecursion P ys → AllByRecursion P (xs ++ ys)
all_join P [] ys p q = q
all_join P (x ∷ xs) ys p q = (p.0, all_join P xs ys p.1 q)

pub all_map : {A B : Type 0} → (P : B → Type 0) (f : A → B) (xs : List A) → AllByRecursion (λ x. P (f x)) xs → AllByRecursion P (map f xs)
all_map P f [] p = tt
all_map P f (x ∷ xs) p = (p.0, all_map P f xs p.1)

pub all_weaker : {A : Type 0} → (P Q : A → Type 0) → ((x : A) → P x → Q x) → (xs : List A) → AllByRecursion P xs → AllByRecursion Q xs
all_weaker P Q f [] p = tt
all_weaker P Q f (x ∷ xs) p = (f x p.0, all_weaker P Q f xs p.1)

pub all_flat : {A B : Type 0} → (P : B → Type 0) (f : A → List B) → ((x : A) → AllByRecursion P (f x)) → (xs : List A) → AllByRecursion P (flat_map f xs)
all_flat P f each [] = tt
all_flat P f each (x ∷ xs) = all_join P (f x) (flat_map f xs) (each x) (all_flat P f each xs)

-- what holds of all holds of each that is one of them
each_at : {A : Type 0} → (P : A → Type 0) (xs : List A) (x : A) → AllByRecursion P xs → (k : ℕ) → k < length xs → slice_index_or xs k x ≡ x → P x
each_at P [] x all k lt e = absurd (omega (arith, lt))
each_at P (y ∷ ys) x all zero lt e = subst P e all.0
each_at P (y ∷ ys) x all (suc k) lt e = each_at P ys x all.1 k (omega (arith, lt)) e

pub each_in : {A : Type 0} → (P : A → Type 0) (xs : List A) (x : A) → AllByRecursion P xs → Contains xs x → P x
each_in P xs x all is = each_at P xs x all is.0 is.1 is.2

-- ---- one owner

pub none_some : (x : Option Mode) (a : Mode) → x ≡ None → x ≡ Some a → ⊥
none_some x a none some = cc

-- a claim behind another is on another name
behind : (cs : List Claim) (c x : Claim) → mode_in cs c.name ≡ None → mode_in cs x.name ≡ Some x.mode → mode_in (c ∷ cs) x.name ≡ Some x.mode
behind cs c x none some = by (same_name c.name x.name) refl
  where
    by : (b : Bool) → same_name c.name x.name ≡ b → (if same_name c.name x.name then Some c.mode else mode_in cs x.name) ≡ Some x.mode
    by true e = absurd (none_some (mode_in cs x.name) x.mode (subst (λ z. mode_in cs z ≡ None) (same_equal c.name x.name e) none) some)
    by false e = ap (λ (z : Bool). if z then Some c.mode else mode_in cs x.name) e ∙ some

each_mode : (cs : List Claim) → AreDistinct cs → AllByRecursion (λ (c : Claim). mode_in cs c.name ≡ Some c.mode) cs
each_mode [] d = tt
each_mode (c ∷ cs) d = (
  ap (λ (z : Bool). if z then Some c.mode else mode_in cs c.name) (same_itself c.name),
  all_weaker (λ (x : Claim). mode_in cs x.name ≡ Some x.mode) (λ (x : Claim). mode_in (c ∷ cs) x.name ≡ Some x.mode) (λ x some. behind cs c x d.0 some) cs (each_mode cs d.1),
)

-- the claim is the member's, and its lock manager has it
abbrev pub IsHeld : ℕ → Book → LockClaim → Type 0
IsHeld member b a = (a.member ≡ member) × (claim_in b a.owner (number a.name) ≡ Some a.mode)

owned : (member : ℕ) (b : Book) (o : ℕ) → IsBook b → AllByRecursion (IsHeld member b) (owner_claims member b o)
owned member b o is = all_map (IsHeld member b) (as_claim member o) (claims_by b o)
    (all_weaker (λ (c : Claim). mode_in (claims_by b o) c.name ≡ Some c.mode) (λ (c : Claim). IsHeld member b (as_claim member o c))
    (λ c some. (refl, ap (λ n. mode_in (claims_by b o) n) (named c.name) ∙ some)) (claims_by b o)
    (each_mode (claims_by b o) (each_owner AreDistinct b.holders b.rollbacks b.agents o tt is.once)))

pub book_held : (member : ℕ) (b : Book) → IsBook b → AllByRecursion (IsHeld member b) (book_claims member b)
book_held member b is = all_flat (IsHeld member b) (owner_claims member b) (λ o. owned member b o is) (owners_in b)
