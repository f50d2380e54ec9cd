-- Rows of desks.
use Rattle.std.proofs.Common.{◌≡◌, ℕ, zero, suc, ◌+◌, ◌<◌, List, [], ◌∷◌, length, map, slice_index_or, Bool, true, false, refl, sym, ap, ◌∙◌, subst, arith}
use Rattle.std.specs.Prelude.{◌==◌, Some}
use Rattle.std.proofs.Math.ListN.{length-set}
use Rattle.turn_gate.specs.Lists.{put_if, events_by}
use Rattle.turn_gate.specs.Known.{newcomers}
use Rattle.turn_gate.specs.Seated.{TurnId, Sat, sats, AreOf, HasAll, PartsReach, NoneEnded}
use Rattle.turn_story.specs.declared.step.Start.{Start}
use Rattle.turn_story.specs.declared.step.Step.{Step}
use Rattle.turn_story.specs.Chains.{part_of, with_part}
use Rattle.turn_story.specs.Histories.{number_of, parts_after}
use Rattle.turn_story.specs.Desks.{IsAt, AllAt, AllRan}

same_value : {P : Type 0} (q r : P) → Some q ≡ Some r → q ≡ r
same_value q r h = cc

module _ {D P : Type 0} where
  -- in this list of parts, those of the callers from the k-th on are the desks'
  abbrev pub HasParts : List P → List D → (D → P) → ℕ → Type 0
  HasParts qs [] part k = Unit {0}
  HasParts qs (d ∷ ds) part k = (part_of qs k ≡ Some (part d)) × HasParts qs ds part (suc k)

  less_first : (q : P) (qs : List P) (ds : List D) (part : D → P) (k : ℕ) → HasParts (q ∷ qs) ds part (suc (suc k)) → HasParts qs ds part (suc k)
  less_first q qs [] part k h = tt
  less_first q qs (d ∷ ds) part k h = (h.0, less_first q qs ds part (suc k) h.1)

  more_first : (q : P) (qs : List P) (ds : List D) (part : D → P) (k : ℕ) → HasParts qs ds part (suc k) → HasParts (q ∷ qs) ds part (suc (suc k))
  more_first q qs [] part k h = tt
  more_first q qs (d ∷ ds) part k h = (h.0, more_first q qs ds part (suc k) h.1)

  pub has_own : (ds : List D) (part : D → P) → HasParts (map part ds) ds part 1
  has_own [] part = tt
  has_own (d ∷ ds) part = (refl, more_first (part d) (map part ds) ds part 0 (has_own ds part))

  -- and where there are no more, they are the desks' parts
  pub parts_same : (qs : List P) (ds : List D) (part : D → P) → length qs ≡ length ds → HasParts qs ds part 1 → qs ≡ map part ds
  parts_same [] [] part l h = refl
  parts_same [] (d ∷ ds) part l h = absurd (omega arith)
  parts_same (q ∷ qs) [] part l h = absurd (omega arith)
  parts_same (q ∷ qs) (d ∷ ds) part l h =
      let less : length qs ≡ length ds = omega arith in
      let rest = parts_same qs ds part less (less_first q qs ds part 0 h.1) in
      λ i. same_value q (part d) h.0 i ∷ rest i

length-with_part : {P : Type 0} (ps : List P) (c : ℕ) (p : P) → length (with_part ps c p) ≡ length ps
length-with_part ps zero p = refl
length-with_part ps (suc k) p = length-set ps k p

module _ {M P : Type 0} (caller : ℕ → ℕ) where
  pub length-parts_after : (log : List (Step M P)) (ps : List P) → length (parts_after caller ps log) ≡ length ps
  length-parts_after [] ps = refl
  length-parts_after (x ∷ xs) ps = length-parts_after xs (with_part ps (caller x.event) x.part.value) ∙ length-with_part ps (caller x.event) x.part.value

  module _ (z : TurnId) (start : Start M P) {D : Type 0} where
    pub are_of : (ds : List D) (seat : D → Sat (Start M P) (Step M P)) (part : D → P) (k : ℕ) → AllAt caller z start ds seat part k → AreOf z (map seat ds)
    are_of [] seat part k h = tt
    are_of (d ∷ ds) seat part k h = (h.1.turn, are_of ds seat part (suc k) h.2)

    -- the seats that a turn begins with, each with its caller's part
    pub firsts_at : (ds : List D) (seat : D → Sat (Start M P) (Step M P)) (part : D → P) (k m : ℕ)
        → map seat ds ≡ sats z (newcomers (λ x. caller (number_of x)) start [] k m) → HasParts start.parts.value.items ds part k → AllAt caller z start ds seat part k
    firsts_at [] seat part k m e h = tt
    firsts_at (d ∷ ds) seat part k zero e h = cc
    firsts_at (d ∷ ds) seat part k (suc m) e h =
        let s : seat d ≡ record { turn = z; knows = record { caller = k; start = start; seen = []; own = []; ended = false } } = cc in
        let rest : map seat ds ≡ sats z (newcomers (λ x. caller (number_of x)) start [] (suc k) m) = cc in
        let here : ((seat d).knows.caller ≡ k) × IsAt caller z start (seat d) (part d) =
        subst (λ t. (t.knows.caller ≡ k) × IsAt caller z start t (part d)) (sym s) (refl, record { turn = refl; began = refl; part = λ _. h.0 }) in
        (here.0, here.1, firsts_at ds seat part (suc k) m rest h.1)

    -- each desk's part is its caller's after the whole journal
    pub has_parts : (log : List (Step M P)) (ds : List D) (seat : D → Sat (Start M P) (Step M P)) (part : D → P) (k : ℕ) → AllAt caller z start ds seat part k → NoneEnded (map seat ds)
        → PartsReach {P = P} (λ by p b l. part_of (parts_after caller b.parts.value.items l) by ≡ Some p) log (map seat ds)
        → HasParts (parts_after caller start.parts.value.items log) ds part k
    has_parts log [] seat part k at none reach = tt
    has_parts log (d ∷ ds) seat part k at none reach =
        let s = seat d in
        let began = at.1.began in
        let seen = subst (λ b. part_of (parts_after caller b.parts.value.items s.knows.seen) s.knows.caller ≡ Some (part d)) (sym began) (at.1.part none.0) in
        let all = subst (λ b. part_of (parts_after caller b.parts.value.items log) s.knows.caller ≡ Some (part d)) began (reach.0 (part d) seen) in
        (subst (λ j. part_of (parts_after caller start.parts.value.items log) j ≡ Some (part d)) at.0 all, has_parts log ds seat part (suc k) at.2 none.1 reach.1)

    -- the desk at each place
    pub at_place : (ds : List D) (seat : D → Sat (Start M P) (Step M P)) (part : D → P) (k i : ℕ) (d : D) → AllAt caller z start ds seat part k → i < length ds
        → ((seat (slice_index_or ds i d)).knows.caller ≡ i + k) × IsAt caller z start (seat (slice_index_or ds i d)) (part (slice_index_or ds i d))
    at_place [] seat part k i d h less = absurd (omega arith)
    at_place (x ∷ xs) seat part k zero d h less = let same : k ≡ 0 + k = omega arith in (h.0 ∙ same, h.1)
    at_place (x ∷ xs) seat part k (suc i) d h less =
        let fits : i < length xs = omega arith in
        let rest = at_place xs seat part (suc k) i d h.2 fits in
        let same : i + suc k ≡ suc i + k = omega arith in
        (rest.0 ∙ same, rest.1)

    -- where each is right, all are
    pub from_places : (ds : List D) (seat : D → Sat (Start M P) (Step M P)) (part : D → P) (k : ℕ)
        → ((i : ℕ) (d : D) → i < length ds → ((seat (slice_index_or ds i d)).knows.caller ≡ i + k) × IsAt caller z start (seat (slice_index_or ds i d)) (part (slice_index_or ds i d)))
        → AllAt caller z start ds seat part k
    from_places [] seat part k h = tt
    from_places (x ∷ xs) seat part k h =
        let here = h 0 x (omega arith) in
        let none : 0 + k ≡ k = omega arith in (
          here.0 ∙ none,
          here.1,
          from_places xs seat part (suc k) (λ i d less. let there = h (suc i) d (omega arith) in let same : suc i + k ≡ i + suc k = omega arith in (there.0 ∙ same, there.1)),
        )

  number_put : (b : Bool) (x : Step M P) (xs : List (Step M P)) → put_if b (number_of x) (map number_of xs) ≡ map number_of (put_if b x xs)
  number_put true x xs = refl
  number_put false x xs = refl

  events_by_number : (c : ℕ) (log : List (Step M P)) → events_by caller c (map number_of log) ≡ map number_of (events_by (λ x. caller (number_of x)) c log)
  events_by_number c [] = refl
  events_by_number c (x ∷ xs) = ap (put_if (caller x.event == c) x.event) (events_by_number c xs) ∙ number_put (caller x.event == c) x (events_by (λ y. caller (number_of y)) c xs)

  -- what the journal has of each desk's caller, by numbers
  pub all_ran : {D : Type 0} (ds : List D) (seat : D → Sat (Start M P) (Step M P)) (log : List (Step M P)) → HasAll (λ x. caller (number_of x)) log (map seat ds) → AllRan caller ds seat (map number_of log)
  all_ran [] seat log h = tt
  all_ran (d ∷ ds) seat log h = (events_by_number (seat d).knows.caller log ∙ ap (map number_of) h.0.0, all_ran ds seat log h.1)

-- what holds of one of two equals holds of the other
pub moved : {D : Type 0} (x y : D) → x ≡ y → (Q : D → Type 0) → Q x → Q y
moved x y same Q h = subst Q same h
