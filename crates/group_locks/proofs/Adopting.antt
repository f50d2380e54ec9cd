-- What a restart leaves open becomes rollbacks of its member, the last one first.
use Rattle.std.proofs.Common.{◌≡◌, ℕ, ◌+◌, ◌≤◌, ◌<◌, refl, sym, ◌∙◌, ap, subst, arith, Bool, true, false, inl, inr, List, [], ◌∷◌, ◌++◌, Option, Some, None}
use Rattle.std.specs.Prelude.{◌≢◌, ◌⊎◌, ◌==◌, ◌&&◌, if◌then◌else◌, is_some, nat_le, nat_lt, not}
use Rattle.std.proofs.lemmas.Bool.{and_parts, cases_eq, cond-false, cond-true, eq-eqb, leb-true, ne_eqb}
use Rattle.ds_model.specs.Rows.{Spot}
use Rattle.ds_model.specs.declared.log.RowChange.{RowChange}
use Rattle.ds_model.specs.declared.lock.Name.{Name}
use Rattle.ds_model.specs.declared.lock.Name.TheVariants as name
use Rattle.lock_names.specs.declared.mode.Mode.{Mode}
use Rattle.lock_names.specs.declared.mode.Mode.TheVariants.{IX, X}
use Rattle.lock_names.specs.Modes.{join_of}
use Rattle.lock_manager.specs.declared.claim.Rollback.{Rollback}
use Rattle.lock_manager.specs.Claims.{joined}
use Rattle.lock_manager.specs.Managers.{Book, given, held_by, is_postponed, place_in, with_claims}
use Rattle.log_trans.specs.declared.opened.OpenTran.{OpenTran}
use Rattle.facility.specs.States.{Held as Facility}
use Rattle.member_trans.specs.declared.fate.Change.{Change}
use Rattle.member_trans.specs.Trans.{is_empty, is_free, is_new}
use Rattle.member_marks.specs.Claims.{is_agent}
use Rattle.member_marks.specs.Rollbacks.{after_adopt, claimed, claims_adopted, may_adopt, spot_claimed, spots_of, with_rollback, with_room_of}
use Rattle.member_marks.specs.State.{MarksState, slot_tran}
use Rattle.member_resources.specs.Held.{Held}
use Rattle.group_member.specs.Adopting.{Adopts, AdoptsAll, changes_left, rows_left}
use Rattle.lock_protocol.specs.Machine.{Covers, World, entered}
use Rattle.lock_protocol.specs.Moves.{Run}
use Rattle.lock_protocol.specs.Own.{AreOf}
use Rattle.lock_protocol.proofs.Own.{both_are_of}
use Rattle.lock_world.specs.Books.{EndLeaves, GivenEnters, HasEntered, HasHandedOn, HasLeft, IsBook, PostponedHandsOn, SlotHas}
use Rattle.lock_world.specs.Numbers.{AreNumbered, name_at, number}
use Rattle.lock_world.specs.Rollbacks.{HasClaimed, TakesOver as OwnerTakesOver, TakesOverMoves, claimed_spot, claimed_spots, demotions, row_of, space_of}
use Rattle.lock_world.specs.Standing.{StaysTied}
use Rattle.lock_world.specs.Tied.{Claims, Moved, Tied}
use Rattle.lock_world.specs.Views.{claim_in, entry_in, rollback_owner}
use Rattle.marks_law.specs.Slots.{SlotsAdopt, SlotsStand}
use Rattle.group_locks.specs.Adopting.{AdoptionsGo, HaveClaimed, MayTakeOver, TakesOver, rows_of}
use Rattle.group_locks.proofs.Moved.{run_on}

-- what the crates below say
pub record Facts : Type 0 where
  pub numbers : AreNumbered
  pub given : GivenEnters
  pub ended : EndLeaves
  pub slot : SlotHas
  pub handed : PostponedHandsOn
  pub slots : SlotsAdopt
  pub takes_over : TakesOverMoves
  pub stay : StaysTied

-- ---- modes
-- nothing, or this mode
abbrev pub IsJust : Mode → Option Mode → Type 0
IsJust m x = (x ≡ None) ⊎ (x ≡ Some m)

twice_ix : join_of IX IX ≡ IX
unfolding join_of
twice_ix = refl

twice_x : join_of X X ≡ X
unfolding join_of
twice_x = refl

joined_just : (m : Mode) (x : Option Mode) → join_of m m ≡ m → IsJust m x → joined x m ≡ m
joined_just m x twice (inl e) = ap (λ (z : Option Mode). joined z m) e
joined_just m x twice (inr e) = ap (λ (z : Option Mode). joined z m) e ∙ twice

chosen_just : (m : Mode) (b : Bool) (x : Option Mode) → IsJust m x → IsJust m (if b then Some m else x)
chosen_just m true x h = inr refl
chosen_just m false x h = h

-- ---- names
space_or_row : (s t : Spot) → name.Space s.0 ≡ name.Row t.0 t.1 → ⊥
space_or_row s t e = cc

apart : AreNumbered → (s t : Spot) → space_of s ≡ row_of t → ⊥
apart law s t e = space_or_row s t (sym (law.named (name.Space s.0)) ∙ ap (λ c. name_at c) e ∙ law.named (name.Row t.0 t.1))

-- ---- one row
-- slot 1 has table spaces in IX and rows in X
pub record HasSpots (b : Book) : Type 0 where
  pub spaces : (s : Spot) → IsJust IX (claim_in b 1 (space_of s))
  pub rows : (s : Spot) → IsJust X (claim_in b 1 (row_of s))

pub record Claimed (b d : Book) (ss : List Spot) : Type 0 where
  pub own : (c : ℕ) → claim_in d 1 c ≡ claimed_spots (claim_in b 1 c) ss c
  pub others : (o c : ℕ) → o ≢ 1 → claim_in d o c ≡ claim_in b o c
  pub book : IsBook d
  pub spots : HasSpots d
  pub rollbacks : d.rollbacks ≡ b.rollbacks
  pub agents : d.agents ≡ b.agents
  pub entries : d.entries ≡ b.entries

-- the claim of slot 1 in a name
own_given : (b : Book) (n : Name) (m x : Mode) → (e : HasEntered b (given b 1 n m) 1 n x) → x ≡ m → (c : ℕ) → claim_in (given b 1 n m) 1 c ≡ (if c == number n then Some m else claim_in b 1 c)
own_given b n m x e is c = e.own 1 c ∙ ap (λ (z : Mode). if c == number n then Some z else claim_in b 1 c) is

not_one : (o c n : ℕ) (x y : Option Mode) → o ≢ 1 → (if (o == 1) && (c == n) then x else y) ≡ y
not_one o c n x y ne = by (o == 1) (ne_eqb o 1 ne)
  where
    by : (b : Bool) → b ≡ false → (if b && (c == n) then x else y) ≡ y
    by true e = cc
    by false e = refl

spot_enters : Facts → (b : Book) (s : Spot) → IsBook b → 1 < b.agents + 1 → HasSpots b → Claimed b (spot_claimed b s) (s ∷ [])
spot_enters facts b s book there spots = record {
  own = own;
  others = λ o c ne. second.own o c ∙ not_one o c (row_of s) (Some (joined (held_by mid 1 (name.Row s.0 s.1)) X)) (claim_in mid o c) ne
      ∙ first.own o c ∙ not_one o c (space_of s) (Some (joined (held_by b 1 (name.Space s.0)) IX)) (claim_in b o c) ne;
  book = second.stands;
  spots = record {
    spaces = λ t. subst (λ z. IsJust IX z) (sym (own (space_of t))) (space_just t);
    rows = λ t. subst (λ z. IsJust X z) (sym (own (row_of t))) (row_just t);
  };
  rollbacks = refl;
  agents = refl;
  entries = refl;
}
  where
    mid : Book
    mid = given b 1 (name.Space s.0) IX

    first : HasEntered b mid 1 (name.Space s.0) (joined (held_by b 1 (name.Space s.0)) IX)
    first = facts.given b 1 (name.Space s.0) IX book there

    second : HasEntered mid (given mid 1 (name.Row s.0 s.1) X) 1 (name.Row s.0 s.1) (joined (held_by mid 1 (name.Row s.0 s.1)) X)
    second = facts.given mid 1 (name.Row s.0 s.1) X first.stands there

    in_ix : joined (held_by b 1 (name.Space s.0)) IX ≡ IX
    in_ix = ap (λ (z : Option Mode). joined z IX) (sym (facts.slot b 1 (name.Space s.0) book there)) ∙ joined_just IX (claim_in b 1 (space_of s)) twice_ix (spots.spaces s)

    own_mid : (c : ℕ) → claim_in mid 1 c ≡ (if c == space_of s then Some IX else claim_in b 1 c)
    own_mid = own_given b (name.Space s.0) IX (joined (held_by b 1 (name.Space s.0)) IX) first in_ix

    row_mid : claim_in mid 1 (row_of s) ≡ claim_in b 1 (row_of s)
    row_mid = own_mid (row_of s) ∙ cond-false (row_of s == space_of s) (Some IX) (claim_in b 1 (row_of s)) (ne_eqb (row_of s) (space_of s) (λ e. apart facts.numbers s s (sym e)))

    in_x : joined (held_by mid 1 (name.Row s.0 s.1)) X ≡ X
    in_x = ap (λ (z : Option Mode). joined z X) (sym (facts.slot mid 1 (name.Row s.0 s.1) first.stands there))
        ∙ joined_just X (claim_in mid 1 (row_of s)) twice_x (subst (λ z. IsJust X z) (sym row_mid) (spots.rows s))

    own : (c : ℕ) → claim_in (spot_claimed b s) 1 c ≡ claimed_spot (claim_in b 1 c) s c
    own c = own_given mid (name.Row s.0 s.1) X (joined (held_by mid 1 (name.Row s.0 s.1)) X) second in_x c ∙ ap (λ (z : Option Mode). if c == row_of s then Some X else z) (own_mid c)

    space_just : (t : Spot) → IsJust IX (claimed_spot (claim_in b 1 (space_of t)) s (space_of t))
    space_just t = subst (λ (z : Bool). IsJust IX (if z then Some X else if space_of t == space_of s then Some IX else claim_in b 1 (space_of t))) (sym (ne_eqb (space_of t) (row_of s) (apart facts.numbers t s)))
        (chosen_just IX (space_of t == space_of s) (claim_in b 1 (space_of t)) (spots.spaces t))

    row_just : (t : Spot) → IsJust X (claimed_spot (claim_in b 1 (row_of t)) s (row_of t))
    row_just t = chosen_just X (row_of t == row_of s) (if row_of t == space_of s then Some IX else claim_in b 1 (row_of t))
        (subst (λ (z : Bool). IsJust X (if z then Some IX else claim_in b 1 (row_of t))) (sym (ne_eqb (row_of t) (space_of s) (λ e. apart facts.numbers s t (sym e)))) (spots.rows t))

-- ---- all rows
all_enter : Facts → (b : Book) (ss : List Spot) → IsBook b → 1 < b.agents + 1 → HasSpots b → Claimed b (claimed b ss) ss
all_enter facts b [] book there spots = record { own = λ c. refl; others = λ o c ne. refl; book = book; spots = spots; rollbacks = refl; agents = refl; entries = refl }
all_enter facts b (s ∷ ss) book there spots =
    let first = spot_enters facts b s book there spots in
    let rest = all_enter facts (spot_claimed b s) ss first.book there first.spots in
    record {
      own = λ c. rest.own c ∙ ap (λ (z : Option Mode). claimed_spots z ss c) (first.own c);
      others = λ o c ne. rest.others o c ne ∙ first.others o c ne;
      book = rest.book;
      spots = rest.spots;
      rollbacks = rest.rollbacks;
      agents = rest.agents;
      entries = rest.entries;
    }

-- ---- one rollback
pub record Adopted (b d : Book) (id : ℕ) (ss : List Spot) : Type 0 where
  pub new : (c : ℕ) → claim_in b (rollback_owner id) c ≡ None
  pub given : (c : ℕ) → claim_in d (rollback_owner id) c ≡ claimed_spots None ss c
  pub rest : (o c : ℕ) → o ≢ rollback_owner id → claim_in d o c ≡ claim_in b o c
  pub book : IsBook d
  pub rollbacks : (by : ℕ) × (d.rollbacks ≡ b.rollbacks ++ record { id = id; by = by } ∷ [])
  pub agents : d.agents ≡ b.agents
  pub entries : d.entries ≡ b.entries

no_slot : (id : ℕ) → 1 ≢ rollback_owner id
no_slot id e = let never : 1 ≡ id + 17 = e in omega (arith, never)

same_rest : Facts → (b : Book) (id : ℕ) → (b1 b2 : Book) → ((c : ℕ) → claim_in b 1 c ≡ None) → ((o c : ℕ) → o ≢ 1 → claim_in b1 o c ≡ claim_in b o c) → HasHandedOn b1 b2 1 id → (o c : ℕ) → o ≢ rollback_owner id → claim_in b2 o c ≡ claim_in b o c
same_rest facts b id b1 b2 lends others handed o c ne = elim (cases_eq o 1) [
  | inl e ↦ subst (λ z. claim_in b2 z c ≡ claim_in b z c) (sym e) (handed.gone c ∙ sym (lends c))
  | inr apart ↦ handed.rest o c apart ne ∙ others o c apart
]

book_adopts : Facts → (b : Book) (id by : ℕ) (ss : List Spot) → IsBook b → 1 < b.agents + 1 → ((c : ℕ) → claim_in b 1 c ≡ None) → is_postponed b id ≡ false → Adopted b (claims_adopted b id by ss) id ss
book_adopts facts b id by ss book there lends free = record {
  new = λ c. sym (others (rollback_owner id) c (λ e. no_slot id (sym e))) ∙ handed.new c;
  given = λ c. handed.given c ∙ all.own c ∙ ap (λ (z : Option Mode). claimed_spots z ss c) (freed.1 c);
  rest = same_rest facts b id (claimed emptied ss) (claims_adopted b id by ss) lends others handed;
  book = handed.stands;
  rollbacks = (by, ap (λ (z : List Rollback). z ++ record { id = id; by = by } ∷ []) all.rollbacks);
  agents = all.agents;
  entries = all.entries;
}
  where
    emptied : Book
    emptied = with_claims b 1 []

    freed : HasLeft b emptied 1 × ((c : ℕ) → claim_in emptied 1 c ≡ None)
    freed = facts.ended b 1 book there

    all : Claimed emptied (claimed emptied ss) ss
    all = all_enter facts emptied ss freed.0.stands there (record { spaces = λ s. inl (freed.1 (space_of s)); rows = λ s. inl (freed.1 (row_of s)) })

    others : (o c : ℕ) → o ≢ 1 → claim_in (claimed emptied ss) o c ≡ claim_in b o c
    others o c ne = all.others o c ne ∙ freed.0.others o c ne

    free_still : is_postponed (claimed emptied ss) id ≡ false
    free_still = ap (λ (z : List Rollback). is_some (place_in z 0 id)) all.rollbacks ∙ free

    handed : HasHandedOn (claimed emptied ss) (claims_adopted b id by ss) 1 id
    handed = facts.handed (claimed emptied ss) 1 id by all.book (subst (λ z. 1 < z + 1) (sym all.agents) there) free_still

-- ---- its marks
pub record MarksAdopt (s t : MarksState) (id : ℕ) (ss : List Spot) : Type 0 where
  pub adopted : Adopted s.locks t.locks id ss
  pub slots : SlotsStand t
  pub member : t.member ≡ s.member
  pub trans : t.trans.slots ≡ s.trans.slots
  pub free : is_postponed s.locks id ≡ false

-- what the test shows
may_parts : (s : MarksState) (id : ℕ) (cs : List Change) → may_adopt s id cs ≡ true → (is_agent s 1 ≡ true) × (is_postponed s.locks id ≡ false)
may_parts s id cs e =
    let a = and_parts (is_agent s 1) (is_free (slot_tran s 1).stage && (not (is_postponed s.locks id) && (not (is_empty cs) && is_new s.trans id))) e in
    let b = and_parts (is_free (slot_tran s 1).stage) (not (is_postponed s.locks id) && (not (is_empty cs) && is_new s.trans id)) a.1 in
    let c = and_parts (not (is_postponed s.locks id)) (not (is_empty cs) && is_new s.trans id) b.1 in (a.0, not_false (is_postponed s.locks id) c.0)
  where
    not_false : (b : Bool) → not b ≡ true → b ≡ false
    not_false true e = absurd cc
    not_false false e = refl

agent_there : (agents : ℕ) → (nat_lt 0 1 && nat_le 1 agents) ≡ true → 1 < agents + 1
agent_there agents e =
    let most : 1 ≤ agents = leb-true 1 agents (and_parts (nat_lt 0 1) (nat_le 1 agents) e).1 in
    omega (arith, most)

with_room : (b : Book) (spare room : ℕ) → IsBook b → IsBook (record b { spare = spare; room = room })
with_room b spare room k = record { owners = k.owners; few = k.few; once = k.once; apart = k.apart }

adopted_with_room : (b d : Book) (id spare room : ℕ) (ss : List Spot) → Adopted b d id ss → Adopted b (record d { spare = spare; room = room }) id ss
adopted_with_room b d id spare room ss a = record {
  new = a.new;
  given = a.given;
  rest = a.rest;
  book = with_room d spare room a.book;
  rollbacks = a.rollbacks;
  agents = a.agents;
  entries = a.entries;
}

slots_with_room : (s r : MarksState) → SlotsStand s → SlotsStand (with_room_of s r)
slots_with_room s r k = record { count = k.count; own = k.own; commits = k.commits }

marks_adopt : Facts → (s r : MarksState) (id by : ℕ) (cs : List Change) (rs : List RowChange) (ss : List Spot) → MayTakeOver s → may_adopt s id cs ≡ true → after_adopt s id by cs rs ≡ with_rollback s id by cs rs → ss ≡ spots_of cs rs
    → MarksAdopt s (with_room_of (with_rollback s id by cs rs) r) id ss
marks_adopt facts s r id by cs rs ss may e is spots =
    let parts = may_parts s id cs e in
    record {
      adopted = adopted_with_room s.locks (claims_adopted s.locks id by (spots_of cs rs)) id r.locks.spare r.locks.room ss
          (subst (λ (z : List Spot). Adopted s.locks (claims_adopted s.locks id by (spots_of cs rs)) id z) (sym spots) (book_adopts facts s.locks id by (spots_of cs rs) may.book (agent_there s.locks.agents parts.0) may.lends parts.1));
      slots = slots_with_room (with_rollback s id by cs rs) r (subst (λ (z : MarksState). SlotsStand z) is (facts.slots s id by cs rs may.slots));
      member = refl;
      trans = refl;
      free = parts.1;
    }

adopts : Facts → (h k : Held) (by : ℕ) (t : OpenTran) → MayTakeOver h.marks → Adopts h by t k → MarksAdopt h.marks k.marks t.id (rows_of t)
adopts facts h k by t may a =
    let is : after_adopt h.marks t.id by (changes_left t) (rows_left t) ≡ with_rollback h.marks t.id by (changes_left t) (rows_left t) =
    ap (λ (z : Bool). if z then with_rollback h.marks t.id by (changes_left t) (rows_left t) else h.marks) a.may in
    let marks : k.marks ≡ with_room_of (with_rollback h.marks t.id by (changes_left t) (rows_left t)) k.marks =
    ap (λ (z : Held). z.marks) a.holds ∙ ap (λ (z : MarksState). with_room_of z k.marks) is in
    subst (λ (z : MarksState). MarksAdopt h.marks z t.id (rows_of t)) (sym marks) (marks_adopt facts h.marks k.marks t.id by (changes_left t) (rows_left t) (rows_of t) may a.may is refl)

-- ---- what no demotion of the one changes of the others
pub record Apart (w v : World) (m owner : ℕ) : Type 0 where
  pub live : (k : ℕ) → v.live k ≡ w.live k
  pub claims : (o c : ℕ) → o ≢ owner → v.claims m o c ≡ w.claims m o c

apart_on : (w mid v : World) (m owner : ℕ) → Apart w mid m owner → Apart mid v m owner → Apart w v m owner
apart_on w mid v m owner a b = record { live = λ k. b.live k ∙ a.live k; claims = λ o c ne. b.claims o c ne ∙ a.claims o c ne }

entered_apart : (w v : World) (m owner n : ℕ) (x : Mode) → v ≡ entered w m owner n x → Apart w v m owner
entered_apart w v m owner n x e = record {
  live = λ k. ap (λ (z : World). z.live k) e;
  claims = λ o c ne. ap (λ (z : World). z.claims m o c) e ∙ by (m == m) (o == owner) (ne_eqb o owner ne) (c == n) (w.claims m o c);
}
  where
    by : (a b : Bool) → b ≡ false → (d : Bool) (y : Option Mode) → (if a && (b && d) then Some x else y) ≡ y
    by a true e d y = cc
    by true false e d y = refl
    by false false e d y = refl

demoted : (entry : ℕ → ℕ) (w v : World) (m owner : ℕ) (ss : List Spot) → Run entry w (demotions m owner ss) v → Apart w v m owner
demoted entry w v m owner [] run = subst (λ z. Apart w z m owner) (sym run) (record { live = λ k. refl; claims = λ o c ne. refl })
demoted entry w v m owner (s ∷ ss) run =
    let first = entered_apart w run.0 m owner (space_of s) IX run.1.1 in
    let second = entered_apart run.0 run.2.0 m owner (row_of s) X run.2.1.1 in
    apart_on w run.2.0 v m owner (apart_on w run.0 run.2.0 m owner first second) (demoted entry run.2.0 v m owner ss run.2.2)

still_claimed : (w v : World) (m owner : ℕ) (ss : List Spot) → ((c : ℕ) → v.claims m owner c ≡ w.claims m owner c) → HasClaimed w m owner ss → HasClaimed v m owner ss
still_claimed w v m owner [] same h = tt
still_claimed w v m owner (s ∷ ss) same h = (
  subst (λ z. Covers z IX) (sym (same (space_of s))) h.0,
  subst (λ z. Covers z X) (sym (same (row_of s))) h.1,
  still_claimed w v m owner ss same h.2,
)

-- ---- who is no rollback yet
before : (rs : List Rollback) (r : Rollback) (k id : ℕ) → is_some (place_in (rs ++ r ∷ []) k id) ≡ false → (is_some (place_in rs k id) ≡ false) × ((r.id == id) ≡ false)
before [] r k id e = (refl, last (r.id == id) e)
  where
    last : (b : Bool) → is_some (if b then Some k else None) ≡ false → b ≡ false
    last true e = absurd cc
    last false e = refl
before (x ∷ xs) r k id e = by (x.id == id) e (λ f. before xs r (k + 1) id f)
  where
    by : (b : Bool) → is_some (if b then Some k else place_in (xs ++ r ∷ []) (k + 1) id) ≡ false
        → (is_some (place_in (xs ++ r ∷ []) (k + 1) id) ≡ false → (is_some (place_in xs (k + 1) id) ≡ false) × ((r.id == id) ≡ false))
        → (is_some (if b then Some k else place_in xs (k + 1) id) ≡ false) × ((r.id == id) ≡ false)
    by true e rest = absurd cc
    by false e rest = rest e

-- ---- all of them
-- the claims once the member's are those of this lock manager
abbrev with_book : Claims → ℕ → Book → Claims
with_book held m b k o c = if k == m then claim_in b o c else held k o c

own_book : (held : Claims) (m : ℕ) (b : Book) (o c : ℕ) → with_book held m b m o c ≡ claim_in b o c
own_book held m b o c = cond-true (m == m) (claim_in b o c) (held m o c) (eq-eqb m m refl)

other_book : (held : Claims) (m : ℕ) (b : Book) (k o c : ℕ) → k ≢ m → with_book held m b k o c ≡ held k o c
other_book held m b k o c ne = cond-false (k == m) (claim_in b o c) (held k o c) (ne_eqb k m ne)

-- moves, and the world that they lead to; it has kept the claims of owners that are no rollbacks of the member
pub record Went (w : World) (f : Facility) (left : Claims) (m : ℕ) (s t : MarksState) : Type 0 where
  pub goes : TakesOver w f left m s t
  pub live : goes.moved.world.live m ≡ w.live m
  pub kept : (id : ℕ) → is_postponed t.locks id ≡ false → (c : ℕ) → goes.moved.world.claims m (rollback_owner id) c ≡ w.claims m (rollback_owner id) c

not_same : (a b : ℕ) → (a == b) ≡ false → rollback_owner b ≢ rollback_owner a
not_same a b e same =
    let plus : b + 17 ≡ a + 17 = same in
    let is : a ≡ b = omega (arith, plus) in
    let there : (a == b) ≡ true = eq-eqb a b is in
    let never : true ≡ false = sym there ∙ e in cc

no_zero : (id : ℕ) → rollback_owner id ≡ 0 → ⊥
no_zero id e = let is : id + 17 ≡ 0 = e in omega (arith, is)

low : (o id : ℕ) → o ≤ 16 → o ≢ rollback_owner id
low o id le e = let is : o ≡ id + 17 = e in omega (arith, le, is)

demotions_of : (m owner : ℕ) (ss : List Spot) → AreOf m (demotions m owner ss)
demotions_of m owner [] = tt
demotions_of m owner (s ∷ ss) = (refl, (refl, demotions_of m owner ss))

went_on : Facts → (w : World) (f : Facility) (held left : Claims) (h mid k : Held) (m by : ℕ) (t : OpenTran) → w.live m ≡ true → HasClaimed w m (rollback_owner t.id) (rows_of t) → Adopts mid by t k
    → ((j o c : ℕ) → j ≢ m → left j o c ≡ held j o c) → ((o c : ℕ) → left m o c ≡ claim_in k.marks.locks o c) → Went w f (with_book held m mid.marks.locks) m h.marks mid.marks → Went w f left m h.marks k.marks
went_on facts w f held left h mid k m by t live claimed_last adopts_last others own first = record {
  goes = record {
    moves = first.goes.moves ++ demotions m owner (rows_of t);
    by = both_are_of m first.goes.moves (demotions m owner (rows_of t)) first.goes.by (demotions_of m owner (rows_of t));
    moved = record {
      same = last.same;
      world = last.world;
      run = run_on (entry_in f.locks) w mid_world last.world first.goes.moves (demotions m owner (rows_of t)) first.goes.moved.run last.run;
      tied = last.tied;
    };
    took = record {
      stands = record { book = adopted.adopted.book; slots = adopted.slots; lends = λ c. adopted.adopted.rest 1 c (no_slot t.id) ∙ first.goes.took.stands.lends c };
      member = adopted.member ∙ first.goes.took.member;
      entries = adopted.adopted.entries ∙ first.goes.took.entries;
      agents = adopted.adopted.agents ∙ first.goes.took.agents;
      trans = adopted.trans ∙ first.goes.took.trans;
      own = λ o c le. adopted.adopted.rest o c (low o t.id le) ∙ first.goes.took.own o c le;
    };
  };
  live = after.live m ∙ first.live;
  kept = kept;
}
  where
    owner : ℕ
    owner = rollback_owner t.id

    between : Claims
    between = with_book held m mid.marks.locks

    mid_world : World
    mid_world = first.goes.moved.world

    adopted : MarksAdopt mid.marks k.marks t.id (rows_of t)
    adopted = adopts facts mid k by t first.goes.took.stands adopts_last

    takes : OwnerTakesOver between left m owner (rows_of t)
    takes = record {
      others = λ j o c ne. others j o c ne ∙ sym (other_book held m mid.marks.locks j o c ne);
      given = λ c. own owner c ∙ adopted.adopted.given c;
      rest = λ o c ne. own o c ∙ adopted.adopted.rest o c ne ∙ sym (own_book held m mid.marks.locks o c);
    }

    has : HasClaimed mid_world m owner (rows_of t)
    has = still_claimed w mid_world m owner (rows_of t) (first.kept t.id adopted.free) claimed_last

    last : Moved mid_world (demotions m owner (rows_of t)) f.locks f.locks f.lists left
    last = facts.takes_over mid_world f.locks f.lists between left m owner (rows_of t) first.goes.moved.tied (first.live ∙ live) (λ e. no_zero t.id e) (λ c. own_book held m mid.marks.locks owner c ∙ adopted.adopted.new c) has takes

    after : Apart mid_world last.world m owner
    after = demoted (entry_in f.locks) mid_world last.world m owner (rows_of t) last.run

    kept : (id : ℕ) → is_postponed k.marks.locks id ≡ false → (c : ℕ) → last.world.claims m (rollback_owner id) c ≡ w.claims m (rollback_owner id) c
    kept id free c =
        let old = before mid.marks.locks.rollbacks (record { id = t.id; by = adopted.adopted.rollbacks.0 }) 0 id (ap (λ (z : List Rollback). is_some (place_in z 0 id)) (sym adopted.adopted.rollbacks.1) ∙ free) in
        after.claims (rollback_owner id) c (not_same t.id id old.1) ∙ first.kept id old.0 c

went : Facts → (w : World) (f : Facility) (held left : Claims) (h k : Held) (m by : ℕ) (ts : List OpenTran)
    → Tied w f.locks f.lists held → w.live m ≡ true → MayTakeOver h.marks → HaveClaimed w m ts → ((o c : ℕ) → held m o c ≡ claim_in h.marks.locks o c)
    → AdoptsAll h by ts k → ((j o c : ℕ) → j ≢ m → left j o c ≡ held j o c) → ((o c : ℕ) → left m o c ≡ claim_in k.marks.locks o c)
    → Went w f left m h.marks k.marks
went facts w f held left h k m by [] tied live may has knows is others own = record {
  goes = record {
    moves = [];
    by = tt;
    moved = moved;
    took = record {
      stands = subst (λ (z : Held). MayTakeOver z.marks) (sym is) may;
      member = ap (λ (z : Held). z.marks.member) is;
      entries = ap (λ (z : Held). z.marks.locks.entries) is;
      agents = ap (λ (z : Held). z.marks.locks.agents) is;
      trans = ap (λ (z : Held). z.marks.trans.slots) is;
      own = λ o c le. ap (λ (z : Held). claim_in z.marks.locks o c) is;
    };
  };
  live = ap (λ (z : World). z.live m) moved.run;
  kept = λ id free c. ap (λ (z : World). z.claims m (rollback_owner id) c) moved.run;
}
  where
    same : (j o c : ℕ) → left j o c ≡ held j o c
    same j o c = elim (cases_eq j m) [
      | inl e ↦ subst (λ z. left z o c ≡ held z o c) (sym e) (own o c ∙ ap (λ (z : Held). claim_in z.marks.locks o c) is ∙ sym (knows o c))
      | inr ne ↦ others j o c ne
    ]

    moved : Moved w [] f.locks f.locks f.lists left
    moved = facts.stay w f.locks f.lists f.lists held left tied (record { cells = refl; statuses = refl; members = refl; claims = same })
went facts w f held left h k m by (t ∷ ts) tied live may has knows is others own =
    went_on facts w f held left h is.0 k m by t live has.0 is.2 others own
    (went facts w f held (with_book held m is.0.marks.locks) h is.0 m by ts tied live may has.1 knows is.1
    (λ j o c ne. other_book held m is.0.marks.locks j o c ne) (λ o c. own_book held m is.0.marks.locks o c))

pub adoptions_go : Facts → AdoptionsGo
adoptions_go facts w f held left h k m by ts tied live may claimed knows adopts others own = (went facts w f held left h k m by ts tied live may claimed knows adopts others own).goes
