-- The claims of a rollback that is adopted.
use Rattle.std.proofs.Common.{◌≡◌, ℕ, ◌+◌, ◌≤◌, ◌<◌, refl, sym, ◌∙◌, ap, subst, arith, Bool, true, false, inl, inr, List, [], ◌∷◌, ◌++◌, Option, Some, None}
use Rattle.std.specs.Prelude.{◌≢◌, ◌⊎◌, ◌==◌, ◌&&◌, if◌then◌else◌, is_some}
use Rattle.std.specs.List.{AllByRecursion}
use Rattle.std.proofs.lemmas.Bool.{cases_eq, cond-false, eq-eqb, ne_eqb}
use Rattle.ds_model.specs.Rows.{Spot}
use Rattle.ds_model.specs.declared.lock.Name.{Name}
use Rattle.ds_model.specs.declared.lock.Name.TheVariants as name
use Rattle.lock_names.specs.declared.mode.Mode.{Mode}
use Rattle.lock_names.specs.declared.mode.Mode.TheVariants.{IX, X}
use Rattle.lock_names.specs.Modes.{join_of}
use Rattle.lock_manager.specs.declared.claim.Rollback.{Rollback}
use Rattle.lock_manager.specs.Claims.{joined}
use Rattle.lock_manager.specs.Managers.{Book, given, held_by, is_postponed, place_in, with_claims}
use Rattle.member_marks.specs.Rollbacks.{claimed, claims_adopted, spot_claimed}
use Rattle.lock_protocol.specs.Machine.{Covers}
use Rattle.lock_world.specs.Books.{EndLeaves, GivenEnters, HasEntered, HasHandedOn, HasLeft, IsBook, PostponedHandsOn, SlotHas}
use Rattle.lock_world.specs.Numbers.{AreNumbered, name_at, number}
use Rattle.lock_world.specs.Rollbacks.{claimed_spot, claimed_spots, row_of, space_of}
use Rattle.lock_world.specs.Views.{claim_in, rollback_owner}

-- what the crates below say
pub record Facts : Type 0 where
  pub numbers : AreNumbered
  pub given : GivenEnters
  pub ended : EndLeaves
  pub slot : SlotHas
  pub handed : PostponedHandsOn

-- ---- modes
-- nothing, or this mode
abbrev pub IsJust : Mode → Option Mode → Type 0
IsJust m x = (x ≡ None) ⊎ (x ≡ Some m)

twice_ix : join_of IX IX ≡ IX
unfolding join_of
twice_ix = refl

twice_x : join_of X X ≡ X
unfolding join_of
twice_x = refl

joined_just : (m : Mode) (x : Option Mode) → join_of m m ≡ m → IsJust m x → joined x m ≡ m
joined_just m x twice (inl e) = ap (λ (z : Option Mode). joined z m) e
joined_just m x twice (inr e) = ap (λ (z : Option Mode). joined z m) e ∙ twice

chosen_just : (m : Mode) (b : Bool) (x : Option Mode) → IsJust m x → IsJust m (if b then Some m else x)
chosen_just m true x h = inr refl
chosen_just m false x h = h

-- ---- names
space_or_row : (s t : Spot) → name.Space s.0 ≡ name.Row t.0 t.1 → ⊥
space_or_row s t e = cc

apart : AreNumbered → (s t : Spot) → space_of s ≡ row_of t → ⊥
apart law s t e = space_or_row s t (sym (law.named (name.Space s.0)) ∙ ap (λ c. name_at c) e ∙ law.named (name.Row t.0 t.1))

-- ---- one row
-- slot 1 has table spaces in IX and rows in X
pub record HasSpots (b : Book) : Type 0 where
  pub spaces : (s : Spot) → IsJust IX (claim_in b 1 (space_of s))
  pub rows : (s : Spot) → IsJust X (claim_in b 1 (row_of s))

pub record Claimed (b d : Book) (ss : List Spot) : Type 0 where
  pub own : (c : ℕ) → claim_in d 1 c ≡ claimed_spots (claim_in b 1 c) ss c
  pub others : (o c : ℕ) → o ≢ 1 → claim_in d o c ≡ claim_in b o c
  pub book : IsBook d
  pub spots : HasSpots d
  pub rollbacks : d.rollbacks ≡ b.rollbacks
  pub agents : d.agents ≡ b.agents
  pub entries : d.entries ≡ b.entries

-- the claim of slot 1 in a name
own_given : (b : Book) (n : Name) (m x : Mode) → (e : HasEntered b (given b 1 n m) 1 n x) → x ≡ m → (c : ℕ) → claim_in (given b 1 n m) 1 c ≡ (if c == number n then Some m else claim_in b 1 c)
own_given b n m x e is c = e.own 1 c ∙ ap (λ (z : Mode). if c == number n then Some z else claim_in b 1 c) is

not_one : (o c n : ℕ) (x y : Option Mode) → o ≢ 1 → (if (o == 1) && (c == n) then x else y) ≡ y
not_one o c n x y ne = by (o == 1) (ne_eqb o 1 ne)
  where
    by : (b : Bool) → b ≡ false → (if b && (c == n) then x else y) ≡ y
    by true e = cc
    by false e = refl

spot_enters : Facts → (b : Book) (s : Spot) → IsBook b → 1 < b.agents + 1 → HasSpots b → Claimed b (spot_claimed b s) (s ∷ [])
spot_enters facts b s book there spots = record {
  own = own;
  others = λ o c ne. second.own o c ∙ not_one o c (row_of s) (Some (joined (held_by mid 1 (name.Row s.0 s.1)) X)) (claim_in mid o c) ne
      ∙ first.own o c ∙ not_one o c (space_of s) (Some (joined (held_by b 1 (name.Space s.0)) IX)) (claim_in b o c) ne;
  book = second.stands;
  spots = record {
    spaces = λ t. subst (λ z. IsJust IX z) (sym (own (space_of t))) (space_just t);
    rows = λ t. subst (λ z. IsJust X z) (sym (own (row_of t))) (row_just t);
  };
  rollbacks = refl;
  agents = refl;
  entries = refl;
}
  where
    mid : Book
    mid = given b 1 (name.Space s.0) IX

    first : HasEntered b mid 1 (name.Space s.0) (joined (held_by b 1 (name.Space s.0)) IX)
    first = facts.given b 1 (name.Space s.0) IX book there

    second : HasEntered mid (given mid 1 (name.Row s.0 s.1) X) 1 (name.Row s.0 s.1) (joined (held_by mid 1 (name.Row s.0 s.1)) X)
    second = facts.given mid 1 (name.Row s.0 s.1) X first.stands there

    in_ix : joined (held_by b 1 (name.Space s.0)) IX ≡ IX
    in_ix = ap (λ (z : Option Mode). joined z IX) (sym (facts.slot b 1 (name.Space s.0) book there)) ∙ joined_just IX (claim_in b 1 (space_of s)) twice_ix (spots.spaces s)

    own_mid : (c : ℕ) → claim_in mid 1 c ≡ (if c == space_of s then Some IX else claim_in b 1 c)
    own_mid = own_given b (name.Space s.0) IX (joined (held_by b 1 (name.Space s.0)) IX) first in_ix

    row_mid : claim_in mid 1 (row_of s) ≡ claim_in b 1 (row_of s)
    row_mid = own_mid (row_of s) ∙ cond-false (row_of s == space_of s) (Some IX) (claim_in b 1 (row_of s)) (ne_eqb (row_of s) (space_of s) (λ e. apart facts.numbers s s (sym e)))

    in_x : joined (held_by mid 1 (name.Row s.0 s.1)) X ≡ X
    in_x = ap (λ (z : Option Mode). joined z X) (sym (facts.slot mid 1 (name.Row s.0 s.1) first.stands there))
        ∙ joined_just X (claim_in mid 1 (row_of s)) twice_x (subst (λ z. IsJust X z) (sym row_mid) (spots.rows s))

    own : (c : ℕ) → claim_in (spot_claimed b s) 1 c ≡ claimed_spot (claim_in b 1 c) s c
    own c = own_given mid (name.Row s.0 s.1) X (joined (held_by mid 1 (name.Row s.0 s.1)) X) second in_x c ∙ ap (λ (z : Option Mode). if c == row_of s then Some X else z) (own_mid c)

    space_just : (t : Spot) → IsJust IX (claimed_spot (claim_in b 1 (space_of t)) s (space_of t))
    space_just t = subst (λ (z : Bool). IsJust IX (if z then Some X else if space_of t == space_of s then Some IX else claim_in b 1 (space_of t))) (sym (ne_eqb (space_of t) (row_of s) (apart facts.numbers t s)))
        (chosen_just IX (space_of t == space_of s) (claim_in b 1 (space_of t)) (spots.spaces t))

    row_just : (t : Spot) → IsJust X (claimed_spot (claim_in b 1 (row_of t)) s (row_of t))
    row_just t = chosen_just X (row_of t == row_of s) (if row_of t == space_of s then Some IX else claim_in b 1 (row_of t))
        (subst (λ (z : Bool). IsJust X (if z then Some IX else claim_in b 1 (row_of t))) (sym (ne_eqb (row_of t) (space_of s) (λ e. apart facts.numbers s t (sym e)))) (spots.rows t))

-- ---- all rows
all_enter : Facts → (b : Book) (ss : List Spot) → IsBook b → 1 < b.agents + 1 → HasSpots b → Claimed b (claimed b ss) ss
all_enter facts b [] book there spots = record { own = λ c. refl; others = λ o c ne. refl; book = book; spots = spots; rollbacks = refl; agents = refl; entries = refl }
all_enter facts b (s ∷ ss) book there spots =
    let first = spot_enters facts b s book there spots in
    let rest = all_enter facts (spot_claimed b s) ss first.book there first.spots in
    record {
      own = λ c. rest.own c ∙ ap (λ (z : Option Mode). claimed_spots z ss c) (first.own c);
      others = λ o c ne. rest.others o c ne ∙ first.others o c ne;
      book = rest.book;
      spots = rest.spots;
      rollbacks = rest.rollbacks;
      agents = rest.agents;
      entries = rest.entries;
    }

-- ---- one rollback
pub record Adopted (b d : Book) (id : ℕ) (ss : List Spot) : Type 0 where
  pub new : (c : ℕ) → claim_in b (rollback_owner id) c ≡ None
  pub given : (c : ℕ) → claim_in d (rollback_owner id) c ≡ claimed_spots None ss c
  pub rest : (o c : ℕ) → o ≢ rollback_owner id → claim_in d o c ≡ claim_in b o c
  pub book : IsBook d
  pub rollbacks : (by : ℕ) × (d.rollbacks ≡ b.rollbacks ++ record { id = id; by = by } ∷ [])
  pub agents : d.agents ≡ b.agents
  pub entries : d.entries ≡ b.entries

pub no_slot : (id : ℕ) → 1 ≢ rollback_owner id
no_slot id e = let never : 1 ≡ id + 17 = e in omega (arith, never)

same_rest : Facts → (b : Book) (id : ℕ) → (b1 b2 : Book) → ((c : ℕ) → claim_in b 1 c ≡ None) → ((o c : ℕ) → o ≢ 1 → claim_in b1 o c ≡ claim_in b o c) → HasHandedOn b1 b2 1 id → (o c : ℕ) → o ≢ rollback_owner id → claim_in b2 o c ≡ claim_in b o c
same_rest facts b id b1 b2 lends others handed o c ne = elim (cases_eq o 1) [
  | inl e ↦ subst (λ z. claim_in b2 z c ≡ claim_in b z c) (sym e) (handed.gone c ∙ sym (lends c))
  | inr apart ↦ handed.rest o c apart ne ∙ others o c apart
]

pub book_adopts : Facts → (b : Book) (id by : ℕ) (ss : List Spot) → IsBook b → 1 < b.agents + 1 → ((c : ℕ) → claim_in b 1 c ≡ None) → is_postponed b id ≡ false → Adopted b (claims_adopted b id by ss) id ss
book_adopts facts b id by ss book there lends free = record {
  new = λ c. sym (others (rollback_owner id) c (λ e. no_slot id (sym e))) ∙ handed.new c;
  given = λ c. handed.given c ∙ all.own c ∙ ap (λ (z : Option Mode). claimed_spots z ss c) (freed.1 c);
  rest = same_rest facts b id (claimed emptied ss) (claims_adopted b id by ss) lends others handed;
  book = handed.stands;
  rollbacks = (by, ap (λ (z : List Rollback). z ++ record { id = id; by = by } ∷ []) all.rollbacks);
  agents = all.agents;
  entries = all.entries;
}
  where
    emptied : Book
    emptied = with_claims b 1 []

    freed : HasLeft b emptied 1 × ((c : ℕ) → claim_in emptied 1 c ≡ None)
    freed = facts.ended b 1 book there

    all : Claimed emptied (claimed emptied ss) ss
    all = all_enter facts emptied ss freed.0.stands there (record { spaces = λ s. inl (freed.1 (space_of s)); rows = λ s. inl (freed.1 (row_of s)) })

    others : (o c : ℕ) → o ≢ 1 → claim_in (claimed emptied ss) o c ≡ claim_in b o c
    others o c ne = all.others o c ne ∙ freed.0.others o c ne

    free_still : is_postponed (claimed emptied ss) id ≡ false
    free_still = ap (λ (z : List Rollback). is_some (place_in z 0 id)) all.rollbacks ∙ free

    handed : HasHandedOn (claimed emptied ss) (claims_adopted b id by ss) 1 id
    handed = facts.handed (claimed emptied ss) 1 id by all.book (subst (λ z. 1 < z + 1) (sym all.agents) there) free_still

-- ---- it has what it needs
twice_as : (m : Mode) → join_of m m ≡ m → (x : Option Mode) → x ≡ Some m → Covers x m
twice_as m twice x e = subst (λ (z : Option Mode). Covers z m) (sym e) twice

space_stays : AreNumbered → (ss : List Spot) (s : Spot) (x : Option Mode) → x ≡ Some IX → claimed_spots x ss (space_of s) ≡ Some IX
space_stays law [] s x e = e
space_stays law (t ∷ ts) s x e = space_stays law ts s (claimed_spot x t (space_of s)) (ap (λ (z : Bool). if z then Some X else if space_of s == space_of t then Some IX else x) (ne_eqb (space_of s) (row_of t) (apart law s t)) ∙ by (space_of s == space_of t))
  where
    by : (b : Bool) → (if b then Some IX else x) ≡ Some IX
    by true = refl
    by false = e

row_stays : AreNumbered → (ss : List Spot) (s : Spot) (x : Option Mode) → x ≡ Some X → claimed_spots x ss (row_of s) ≡ Some X
row_stays law [] s x e = e
row_stays law (t ∷ ts) s x e = row_stays law ts s (claimed_spot x t (row_of s)) (by (row_of s == row_of t))
  where
    rest : (if row_of s == space_of t then Some IX else x) ≡ Some X
    rest = ap (λ (z : Bool). if z then Some IX else x) (ne_eqb (row_of s) (space_of t) (λ q. apart law t s (sym q))) ∙ e

    by : (b : Bool) → (if b then Some X else if row_of s == space_of t then Some IX else x) ≡ Some X
    by true = refl
    by false = rest

-- the table space in IX, and the row in X
abbrev pub Spotted : (ℕ → Option Mode) → Spot → Type 0
Spotted f s = (f (space_of s) ≡ Some IX) × (f (row_of s) ≡ Some X)

first_spotted : AreNumbered → (ss : List Spot) (s : Spot) (x y : Option Mode) → (claimed_spots x (s ∷ ss) (space_of s) ≡ Some IX) × (claimed_spots y (s ∷ ss) (row_of s) ≡ Some X)
first_spotted law ss s x y = (
  space_stays law ss s (claimed_spot x s (space_of s)) (ap (λ (z : Bool). if z then Some X else if space_of s == space_of s then Some IX else x) (ne_eqb (space_of s) (row_of s) (apart law s s)) ∙ ap (λ (z : Bool). if z then Some IX else x) (eq-eqb (space_of s) (space_of s) refl)),
  row_stays law ss s (claimed_spot y s (row_of s)) (ap (λ (z : Bool). if z then Some X else if row_of s == space_of s then Some IX else y) (eq-eqb (row_of s) (row_of s) refl)),
)

all_spotted : AreNumbered → (ss : List Spot) (f : ℕ → Option Mode) → AllByRecursion (λ (s : Spot). Spotted (λ c. claimed_spots (f c) ss c) s) ss
all_spotted law [] f = tt
all_spotted law (s ∷ ss) f = (first_spotted law ss s (f (space_of s)) (f (row_of s)), all_spotted law ss (λ c. claimed_spot (f c) s c))

pub spotted : AreNumbered → (b d : Book) (id : ℕ) (ss : List Spot) → Adopted b d id ss → AllByRecursion (λ (s : Spot). Covers (claim_in d (rollback_owner id) (space_of s)) IX × Covers (claim_in d (rollback_owner id) (row_of s)) X) ss
spotted law b d id ss a = all_as ss (all_spotted law ss (λ c. None))
  where
    all_as : (ts : List Spot) → AllByRecursion (λ (s : Spot). Spotted (λ c. claimed_spots None ss c) s) ts → AllByRecursion (λ (s : Spot). Covers (claim_in d (rollback_owner id) (space_of s)) IX × Covers (claim_in d (rollback_owner id) (row_of s)) X) ts
    all_as [] h = tt
    all_as (t ∷ ts) h = ((twice_as IX twice_ix (claim_in d (rollback_owner id) (space_of t)) (a.given (space_of t) ∙ h.0.0), twice_as X twice_x (claim_in d (rollback_owner id) (row_of t)) (a.given (row_of t) ∙ h.0.1)), all_as ts h.1)
