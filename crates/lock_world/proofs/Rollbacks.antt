-- Claims that are handed on to a rollback.
use Rattle.std.proofs.Common.{◌≡◌, ℕ, ◌≤◌, refl, sym, ◌∙◌, ap, subst, Bool, true, false, inl, inr, List, [], ◌∷◌, Option, Some, None}
use Rattle.std.specs.Prelude.{◌≢◌, ◌==◌, ◌&&◌, if◌then◌else◌}
use Rattle.std.proofs.lemmas.Bool.{cond_both, cond-true, cond-false, cases_Bool, cases_eq, both_ways, and_parts, and_from, eqb-true, eq-eqb, ne_eqb}
use Rattle.ds_base.specs.Ids.{IsMember}
use Rattle.ds_model.specs.Rows.{Spot}
use Rattle.ds_model.specs.declared.lock.Name.{Name}
use Rattle.ds_model.specs.declared.lock.Name.TheVariants as name
use Rattle.lock_names.specs.declared.mode.Mode.{Mode}
use Rattle.lock_names.specs.declared.mode.Mode.TheVariants.{IX, X}
use Rattle.lock_names.specs.Modes.{join_of}
use Rattle.lock_structure.specs.Locks.{Locks}
use Rattle.list_structure.specs.declared.standing.MemberStatus.TheVariants.{Up}
use Rattle.list_structure.specs.Standings.{status_of, is_live}
use Rattle.list_structure.specs.States.{ListsState}
use Rattle.lock_protocol.specs.Functions.{put3}
use Rattle.lock_protocol.specs.Machine.{World, Record, Covers, handed_on, entered}
use Rattle.lock_protocol.specs.Moves.{Run}
use Rattle.lock_world.specs.Numbers.{number, name_at}
use Rattle.lock_world.specs.Views.{entry_in, version_in, interest_in, record_in, cell_in, is_live_in}
use Rattle.lock_world.specs.Tied.{Claims, IsOlder, ClaimTied, is_own, Tied, Moved}
use Rattle.lock_world.specs.Rollbacks.{HandsOn, PostponesMoves, space_of, row_of, claimed_spot, claimed_spots, TakesOver, HasClaimed, demotions, TakesOverMoves}
use Rattle.lock_world.proofs.Numbers.{named}

-- ---- a rollback is postponed
abbrev hands : World → ℕ → ℕ → ℕ → ℕ → ℕ → ℕ → Option Mode
hands w m owner to k o c = if (k == m) && (o == to) then w.claims m owner c else if (k == m) && (o == owner) then None else w.claims k o c

self : (m : ℕ) → (m == m) ≡ true
self m = eq-eqb m m refl

hand_to : (w : World) (m owner to c : ℕ) → hands w m owner to m to c ≡ w.claims m owner c
hand_to w m owner to c = cond-true ((m == m) && (to == to)) (w.claims m owner c) (if (m == m) && (to == owner) then None else w.claims m to c) (and_from (m == m) (to == to) (self m) (self to))

test_false : (a b : Bool) → b ≡ false → (a && b) ≡ false
test_false true b e = e
test_false false b e = refl

hand_from : (w : World) (m owner to c : ℕ) → owner ≢ to → hands w m owner to m owner c ≡ None
hand_from w m owner to c ne =
    cond-false ((m == m) && (owner == to)) (w.claims m owner c) (if (m == m) && (owner == owner) then None else w.claims m owner c) (test_false (m == m) (owner == to) (ne_eqb owner to ne))
    ∙ cond-true ((m == m) && (owner == owner)) None (w.claims m owner c) (and_from (m == m) (owner == owner) (self m) (self owner))

hand_rest : (w : World) (m owner to o c : ℕ) → o ≢ owner → o ≢ to → hands w m owner to m o c ≡ w.claims m o c
hand_rest w m owner to o c a b =
    cond-false ((m == m) && (o == to)) (w.claims m owner c) (if (m == m) && (o == owner) then None else w.claims m o c) (test_false (m == m) (o == to) (ne_eqb o to b))
    ∙ cond-false ((m == m) && (o == owner)) None (w.claims m o c) (test_false (m == m) (o == owner) (ne_eqb o owner a))

first_false : (a b : Bool) → a ≡ false → (a && b) ≡ false
first_false false b e = refl
first_false true b e = cc

hand_apart : (w : World) (m owner to k o c : ℕ) → k ≢ m → hands w m owner to k o c ≡ w.claims k o c
hand_apart w m owner to k o c ne =
    cond-false ((k == m) && (o == to)) (w.claims m owner c) (if (k == m) && (o == owner) then None else w.claims k o c) (first_false (k == m) (o == to) (ne_eqb k m ne))
    ∙ cond-false ((k == m) && (o == owner)) None (w.claims k o c) (first_false (k == m) (o == owner) (ne_eqb k m ne))

-- a claim of each owner, by who it is
by_owner : (w : World) (held left : Claims) (m owner to : ℕ) → owner ≢ to → HandsOn held left m owner to → (P : Option Mode → Option Mode → ℕ → ℕ → ℕ → Type 0)
    → ((c : ℕ) → P (w.claims m owner c) (held m owner c) m to c) → ((c : ℕ) → P None None m owner c) → ((k o c : ℕ) → P (w.claims k o c) (held k o c) k o c) → (k o c : ℕ) → P (hands w m owner to k o c) (left k o c) k o c
by_owner w held left m owner to apart r P given gone rest k o c = elim (cases_eq k m) [
  | inl e ↦ subst (λ z. P (hands w m owner to z o c) (left z o c) z o c) (sym e) (elim (cases_eq o to) [
    | inl f ↦ subst (λ z. P (hands w m owner to m z c) (left m z c) m z c) (sym f) (subst (λ z. P z (left m to c) m to c) (sym (hand_to w m owner to c)) (subst (λ z. P (w.claims m owner c) z m to c) (sym (r.given c)) (given c)))
    | inr other ↦ elim (cases_eq o owner) [
      | inl g ↦ subst (λ z. P (hands w m owner to m z c) (left m z c) m z c) (sym g) (subst (λ z. P z (left m owner c) m owner c) (sym (hand_from w m owner to c apart)) (subst (λ z. P None z m owner c) (sym (r.gone c)) (gone c)))
      | inr h ↦ subst (λ z. P z (left m o c) m o c) (sym (hand_rest w m owner to o c h other)) (subst (λ z. P (w.claims m o c) z m o c) (sym (r.rest o c h other)) (rest m o c))
    ]
  ])
  | inr ne ↦ subst (λ z. P z (left k o c) k o c) (sym (hand_apart w m owner to k o c ne)) (subst (λ z. P (w.claims k o c) z k o c) (sym (r.others k o c ne)) (rest k o c))
]

pub postpones : PostponesMoves
postpones w locks lists held left m owner to t x up slot apart free r =
    let v = handed_on w m owner to in
    record {
      same = refl;
      world = v;
      run = (v, (apart, (λ c. t.up m to c x up (free c)), refl), refl);
      tied = record {
        versions = t.versions;
        interest = t.interest;
        records = t.records;
        claims = by_owner w held left m owner to apart r (λ a b k o c. w.live k ≡ true → ClaimTied a b (w.records k c)) (λ c live. t.claims m owner c live) (λ c live. tt) (λ k o c live. t.claims k o c live);
        down = by_owner w held left m owner to apart r (λ a b k o c. w.live k ≡ false → b ≡ None) (λ c dead. t.down m owner c dead) (λ c dead. refl) (λ k o c dead. t.down k o c dead);
        up = by_owner w held left m owner to apart r (λ a b k o c. IsMember k → status_of lists.statuses k ≡ Up → b ≡ None → a ≡ None) (λ c member is_up none. t.up m owner c member is_up none) (λ c member is_up none. refl) (λ k o c member is_up none. t.up k o c member is_up none);
        own = by_owner w held left m owner to apart r (λ a b k o c. is_own (name_at c) ≡ true → o ≢ 0 → a ≡ None) (λ c own ne. t.own m owner c own slot) (λ c own ne. refl) (λ k o c own ne. t.own k o c own ne);
        cells = t.cells;
        live = t.live;
      };
    }

-- ---- a transaction is taken over
ix_itself : Covers (Some IX) IX
unfolding join_of
ix_itself = refl

x_itself : Covers (Some X) X
unfolding join_of
x_itself = refl

space_not_row : (s t : Spot) → space_of s ≡ row_of t → ⊥
space_not_row s t e = name_apart s t (sym (named (name.Space s.0)) ∙ ap (λ c. name_at c) e ∙ named (name.Row t.0 t.1))
  where
    name_apart : (s t : Spot) → name.Space s.0 ≡ name.Row t.0 t.1 → ⊥
    name_apart s t e = cc

-- the world once one row is done
abbrev spot_world : World → ℕ → ℕ → Spot → World
spot_world w m owner s = entered (entered w m owner (space_of s) IX) m owner (row_of s) X

-- what the owner has then
abbrev spot_claim : World → ℕ → ℕ → Spot → ℕ → ℕ → ℕ → Option Mode
spot_claim w m owner s k o c = if (k == m) && (o == owner) then claimed_spot (w.claims k o c) s c else w.claims k o c

spot_if : (a b p q : Bool) (x y z : Option Mode) → (if a && (b && q) then x else if a && (b && p) then y else z) ≡ (if a && b then (if q then x else if p then y else z) else z)
spot_if true true true p x y z = refl
spot_if true true false q x y z = if_same q
  where
    if_same : (q : Bool) → (if true && (true && q) then x else if true && (true && false) then y else z) ≡ (if true && true then (if q then x else if false then y else z) else z)
    if_same true = refl
    if_same false = refl
spot_if true false p q x y z = refl
spot_if false b p q x y z = refl

spot_is : (w : World) (m owner : ℕ) (s : Spot) (k o c : ℕ) → (spot_world w m owner s).claims k o c ≡ spot_claim w m owner s k o c
spot_is w m owner s k o c = spot_if (k == m) (o == owner) (c == space_of s) (c == row_of s) (Some X) (Some IX) (w.claims k o c)

own_spot : (w : World) (m owner : ℕ) (s : Spot) (c : ℕ) → (spot_world w m owner s).claims m owner c ≡ claimed_spot (w.claims m owner c) s c
own_spot w m owner s c = spot_is w m owner s m owner c ∙ cond-true ((m == m) && (owner == owner)) (claimed_spot (w.claims m owner c) s c) (w.claims m owner c) (and_from (m == m) (owner == owner) (self m) (self owner))

-- ---- the claims that are demoted later are still covered
covers_space : (x : Option Mode) (s t : Spot) → Covers x IX → Covers (claimed_spot x s (space_of t)) IX
covers_space x s t h = subst (λ b. Covers (if b then Some X else if space_of t == space_of s then Some IX else x) IX) (sym (ne_eqb (space_of t) (row_of s) (space_not_row t s)))
    (cond_both (space_of t == space_of s) (Some IX) x (λ z. Covers z IX) (λ e. ix_itself) (λ e. h))

covers_row : (x : Option Mode) (s t : Spot) → Covers x X → Covers (claimed_spot x s (row_of t)) X
covers_row x s t h = cond_both (row_of t == row_of s) (Some X) (if row_of t == space_of s then Some IX else x) (λ z. Covers z X) (λ e. x_itself)
    (λ e. subst (λ b. Covers (if b then Some IX else x) X) (sym (ne_eqb (row_of t) (space_of s) (λ f. space_not_row s t (sym f)))) h)

still_claimed : (w : World) (m owner : ℕ) (s : Spot) (ss : List Spot) → HasClaimed w m owner ss → HasClaimed (spot_world w m owner s) m owner ss
still_claimed w m owner s [] h = tt
still_claimed w m owner s (t ∷ ts) h = (
  subst (λ z. Covers z IX) (sym (own_spot w m owner s (space_of t))) (covers_space (w.claims m owner (space_of t)) s t h.0),
  subst (λ z. Covers z X) (sym (own_spot w m owner s (row_of t))) (covers_row (w.claims m owner (row_of t)) s t h.1),
  still_claimed w m owner s ts h.2,
)

-- the row's own claim isn't touched by its table space's
row_kept : (w : World) (m owner : ℕ) (s : Spot) → Covers (w.claims m owner (row_of s)) X → Covers ((entered w m owner (space_of s) IX).claims m owner (row_of s)) X
row_kept w m owner s h = subst (λ z. Covers z X) (sym (cond-false ((m == m) && ((owner == owner) && (row_of s == space_of s))) (Some IX) (w.claims m owner (row_of s))
    (test_false (m == m) ((owner == owner) && (row_of s == space_of s)) (test_false (owner == owner) (row_of s == space_of s) (ne_eqb (row_of s) (space_of s) (λ f. space_not_row s s (sym f))))))) h

-- ---- all of them
abbrev taken : World → ℕ → ℕ → List Spot → World
taken w m owner [] = w
taken w m owner (s ∷ ss) = taken (spot_world w m owner s) m owner ss

taken_run : (entry : ℕ → ℕ) (w : World) (m owner : ℕ) (spots : List Spot) → HasClaimed w m owner spots → Run entry w (demotions m owner spots) (taken w m owner spots)
taken_run entry w m owner [] h = refl
taken_run entry w m owner (s ∷ ss) h = (entered w m owner (space_of s) IX, (h.0, refl), (spot_world w m owner s, (row_kept w m owner s h.1, refl), taken_run entry (spot_world w m owner s) m owner ss (still_claimed w m owner s ss h.2)))

-- what isn't a claim of the owner stays
taken_rest : (w : World) (m owner : ℕ) (spots : List Spot) (k o c : ℕ) → ((k == m) && (o == owner)) ≡ false → (taken w m owner spots).claims k o c ≡ w.claims k o c
taken_rest w m owner [] k o c e = refl
taken_rest w m owner (s ∷ ss) k o c e = taken_rest (spot_world w m owner s) m owner ss k o c e ∙ spot_is w m owner s k o c ∙ cond-false ((k == m) && (o == owner)) (claimed_spot (w.claims k o c) s c) (w.claims k o c) e

taken_own : (w : World) (m owner : ℕ) (spots : List Spot) (c : ℕ) → (taken w m owner spots).claims m owner c ≡ claimed_spots (w.claims m owner c) spots c
taken_own w m owner [] c = refl
taken_own w m owner (s ∷ ss) c = taken_own (spot_world w m owner s) m owner ss c ∙ ap (λ z. claimed_spots z ss c) (own_spot w m owner s c)

abbrev SameRest : World → World → Type 0
SameRest w v = v ≡ record w { claims = v.claims }

taken_same : (w : World) (m owner : ℕ) (spots : List Spot) → SameRest w (taken w m owner spots)
taken_same w m owner [] = refl
taken_same w m owner (s ∷ ss) = taken_same (spot_world w m owner s) m owner ss

-- ---- what is named is known, and what isn't is as before
abbrev else_as : Option Mode → Option Mode → Option Mode
else_as None x = x
else_as (Some a) x = Some a

some_or : (z x : Option Mode) (m : Mode) → else_as z (Some m) ≡ else_as (else_as z (Some m)) x
some_or None x m = refl
some_or (Some a) x m = refl

spots_step : (x : Option Mode) (ss : List Spot) (c : ℕ) → ((y : Option Mode) → claimed_spots y ss c ≡ else_as (claimed_spots None ss c) y)
    → (p q : Bool) → claimed_spots (if p then Some X else if q then Some IX else x) ss c ≡ else_as (claimed_spots (if p then Some X else if q then Some IX else None) ss c) x
spots_step x ss c ih true q = ih (Some X) ∙ some_or (claimed_spots None ss c) x X ∙ ap (λ z. else_as z x) (sym (ih (Some X)))
spots_step x ss c ih false true = ih (Some IX) ∙ some_or (claimed_spots None ss c) x IX ∙ ap (λ z. else_as z x) (sym (ih (Some IX)))
spots_step x ss c ih false false = ih x

spots_or : (x : Option Mode) (spots : List Spot) (c : ℕ) → claimed_spots x spots c ≡ else_as (claimed_spots None spots c) x
spots_or x [] c = refl
spots_or x (s ∷ ss) c = spots_step x ss c (λ y. spots_or y ss c) (c == row_of s) (c == space_of s)

named_tied : (x y : Option Mode) (r : Option Record) → IsOlder x r → ClaimTied (else_as y x) y r
named_tied x None r h = h
named_tied x (Some a) r h = refl

older_from : (x y : Option Mode) (r : Option Record) → y ≡ None → ClaimTied x y r → IsOlder x r
older_from x y r e t = subst (λ z. ClaimTied x z r) e t

named_up : (x y : Option Mode) → x ≡ None → y ≡ None → else_as y x ≡ None
named_up x None a b = a
named_up x (Some m) a b = cc

-- a name that the member claims itself is none of these
no_own : (x : Option Mode) (spots : List Spot) (c : ℕ) → is_own (name_at c) ≡ true → claimed_spots x spots c ≡ x
no_own x [] c own = refl
no_own x (s ∷ ss) c own = ap (λ z. claimed_spots z ss c) (apart (c == row_of s) (c == space_of s) refl refl) ∙ no_own x ss c own
  where
    not_row : (c == row_of s) ≡ true → ⊥
    not_row e = both_ways (is_own (name_at c)) (ap (λ z. is_own (name_at z)) (eqb-true c (row_of s) e) ∙ ap is_own (named (name.Row s.0 s.1))) own

    not_space : (c == space_of s) ≡ true → ⊥
    not_space e = both_ways (is_own (name_at c)) (ap (λ z. is_own (name_at z)) (eqb-true c (space_of s) e) ∙ ap is_own (named (name.Space s.0))) own

    apart : (p q : Bool) → (c == row_of s) ≡ p → (c == space_of s) ≡ q → (if p then Some X else if q then Some IX else x) ≡ x
    apart true q a b = absurd (not_row a)
    apart false true a b = absurd (not_space b)
    apart false false a b = refl

by_taker : (w : World) (held left : Claims) (m owner : ℕ) (spots : List Spot) → TakesOver held left m owner spots → (P : Option Mode → Option Mode → ℕ → ℕ → ℕ → Type 0)
    → ((c : ℕ) → P (claimed_spots (w.claims m owner c) spots c) (claimed_spots None spots c) m owner c) → ((k o c : ℕ) → P (w.claims k o c) (held k o c) k o c) → (k o c : ℕ) → P ((taken w m owner spots).claims k o c) (left k o c) k o c
by_taker w held left m owner spots r P given rest k o c = elim (cases_eq k m) [
  | inl e ↦ subst (λ z. P ((taken w m owner spots).claims z o c) (left z o c) z o c) (sym e) (elim (cases_eq o owner) [
    | inl f ↦ subst (λ z. P ((taken w m owner spots).claims m z c) (left m z c) m z c) (sym f)
        (subst (λ z. P z (left m owner c) m owner c) (sym (taken_own w m owner spots c)) (subst (λ z. P (claimed_spots (w.claims m owner c) spots c) z m owner c) (sym (r.given c)) (given c)))
    | inr other ↦ subst (λ z. P z (left m o c) m o c) (sym (taken_rest w m owner spots m o c (test_false (m == m) (o == owner) (ne_eqb o owner other)))) (subst (λ z. P (w.claims m o c) z m o c) (sym (r.rest o c other)) (rest m o c))
  ])
  | inr ne ↦ subst (λ z. P z (left k o c) k o c) (sym (taken_rest w m owner spots k o c (first_false (k == m) (o == owner) (ne_eqb k m ne)))) (subst (λ z. P (w.claims k o c) z k o c) (sym (r.others k o c ne)) (rest k o c))
]

pub takes_over : TakesOverMoves
takes_over w locks lists held left m owner spots t live slot free had r =
    let v = taken w m owner spots in
    let same = taken_same w m owner spots in
    record {
      same = refl;
      world = v;
      run = taken_run (entry_in locks) w m owner spots had;
      tied = record {
        versions = subst (λ (z : World). (e : ℕ) → z.version e ≡ version_in locks e) (sym same) t.versions;
        interest = subst (λ (z : World). (k e : ℕ) → z.interest k e ≡ interest_in locks k e) (sym same) t.interest;
        records = subst (λ (z : World). (k c : ℕ) → z.records k c ≡ record_in locks k c) (sym same) t.records;
        claims = subst (λ (z : World). (k o c : ℕ) → z.live k ≡ true → ClaimTied (v.claims k o c) (left k o c) (z.records k c)) (sym same) (by_taker w held left m owner spots r (λ a b k o c. w.live k ≡ true → ClaimTied a b (w.records k c)) own_tied (λ k o c live. t.claims k o c live));
        down = subst (λ (z : World). (k o c : ℕ) → z.live k ≡ false → left k o c ≡ None) (sym same) (by_taker w held left m owner spots r (λ a b k o c. w.live k ≡ false → b ≡ None) (λ c dead. absurd (both_ways (w.live m) dead live)) (λ k o c dead. t.down k o c dead));
        up = by_taker w held left m owner spots r (λ a b k o c. IsMember k → status_of lists.statuses k ≡ Up → b ≡ None → a ≡ None)
            (λ c member is_up none. spots_or (w.claims m owner c) spots c ∙ named_up (w.claims m owner c) (claimed_spots None spots c) (t.up m owner c member is_up (free c)) none) (λ k o c member is_up none. t.up k o c member is_up none);
        own = by_taker w held left m owner spots r (λ a b k o c. is_own (name_at c) ≡ true → o ≢ 0 → a ≡ None) (λ c own ne. no_own (w.claims m owner c) spots c own ∙ t.own m owner c own ne) (λ k o c own ne. t.own k o c own ne);
        cells = subst (λ (z : World). (a o k : ℕ) → z.cells a o k ≡ cell_in lists a o k) (sym same) t.cells;
        live = subst (λ (z : World). (k : ℕ) → 1 ≤ k → k ≤ lists.members → z.live k ≡ is_live_in lists k) (sym same) t.live;
      };
    }
  where
    own_tied : (c : ℕ) → w.live m ≡ true → ClaimTied (claimed_spots (w.claims m owner c) spots c) (claimed_spots None spots c) (w.records m c)
    own_tied c alive = subst (λ z. ClaimTied z (claimed_spots None spots c) (w.records m c)) (sym (spots_or (w.claims m owner c) spots c))
        (named_tied (w.claims m owner c) (claimed_spots None spots c) (w.records m c) (older_from (w.claims m owner c) (held m owner c) (w.records m c) (free c) (t.claims m owner c alive)))
