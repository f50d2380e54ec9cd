-- How the seats are dealt out, and taken back.
use Rattle.std.proofs.Common.{◌≡◌, ℕ, zero, suc, ◌+◌, ◌-◌, ◌<◌, ◌≤◌, List, [], ◌∷◌, ◌++◌, length, map, Bool, true, false, refl, sym, ap, ◌∙◌, subst, arith}
use Rattle.atomic_table.specs.Seated.{TableId}
use Rattle.turn_gate.specs.declared.view.Knowledge.{Knowledge}
use Rattle.turn_gate.specs.Lists.{total, when, events_by}
use Rattle.turn_gate.specs.Known.{IsSo, AllSo, newcomers}
use Rattle.turn_gate.specs.Ruled.{sits, kept_part, given_part}
use Rattle.turn_gate.specs.Places.{Place}
use Rattle.turn_gate.specs.Seated.{Sat, sole_seat, sat_of, IsSat, sats, AreOf, HasAll, PartsReach, NoneEnded, knowledge_of}
use Rattle.turn_gate.proofs.Takes.{My}
use Rattle.turn_gate.proofs.Reaches.{not_yet, reaches}

pub are_of_last : {B E : Type 0} (z : TableId) (l : List (Sat B E)) (s : Sat B E) → AreOf z (l ++ s ∷ []) → AreOf z l × (s.turn ≡ z)
are_of_last z [] s h = (tt, h.0)
are_of_last z (x ∷ xs) s h = let t = are_of_last z xs s h.1 in ((h.0, t.0), t.1)

-- what all seats know is so, seat by seat
pub has_all : {B E : Type 0} (caller : E → ℕ) (b : B) (log : List E) (o : Bool) (l : List (Sat B E)) → AllSo caller b log o (map knowledge_of l) → HasAll caller log l
has_all caller b log o [] h = tt
has_all caller b log o (s ∷ ss) h = ((h.0.has, h.0.begins, λ e. (h.0.over e).1), has_all caller b log o ss h.1)

-- and so each part reaches the journal
pub parts_reach : {P B E : Type 0} (caller : E → ℕ) (parted : ℕ → P → B → List E → Type 0) → ((by : ℕ) (e : E) (p : P) (b : B) (log : List E) → ¬ (caller e ≡ by) → parted by p b log → parted by p b (log ++ e ∷ [])) → (b : B) (log : List E) (o : Bool) (l : List (Sat B E))
    → AllSo caller b log o (map knowledge_of l) → PartsReach parted log l
parts_reach caller parted leaves b log o [] h = tt
parts_reach caller parted leaves b log o (s ∷ ss) h =
    let so : IsSo caller s.knows.start log o s.knows = subst (λ x. IsSo caller x log o s.knows) (sym h.0.began) h.0 in
    ((λ p was. reaches caller parted leaves log o s.knows p so was), parts_reach caller parted leaves b log o ss h.1)

-- where no seat knows of an end, there was none
pub none_ended : {B E : Type 0} (o : Bool) (l : List (Sat B E)) → when o 1 ≤ total (λ (k : Knowledge B E). when k.ended 1) (map knowledge_of l) → NoneEnded l → o ≡ false
none_ended {B} {E} o l told none = let z = nobody l none in is_false o (omega arith)
  where
    nobody : (m : List (Sat B E)) → NoneEnded m → total (λ (k : Knowledge B E). when k.ended 1) (map knowledge_of m) ≡ 0
    nobody [] h = refl
    nobody (s ∷ ss) h = let here : when s.knows.ended 1 ≡ 0 = ap (λ e. when e 1) h.0 in let ih = nobody ss h.1 in omega arith

    is_false : (p : Bool) → when p 1 ≤ 0 → p ≡ false
    is_false true h = absurd (omega arith)
    is_false false h = refl

-- where there was no end, no seat knows of one
pub none_knows : {B E : Type 0} (caller : E → ℕ) (b : B) (log : List E) (o : Bool) (l : List (Sat B E)) → AllSo caller b log o (map knowledge_of l) → o ≡ false → NoneEnded l
none_knows caller b log o [] h lasts = tt
none_knows caller b log o (s ∷ ss) h lasts = (not_yet s.knows.ended o (λ e. (h.0.over e).0) lasts, none_knows caller b log o ss h.1 lasts)

module _ {T B E : Type 0} where
  -- the seat of one caller
  pub sat_one : (b : B) (s : Place T B E) (k : Knowledge B E) → s.me ≡ (sits (k ∷ []), []) → IsSat b s × (sat_of b s ≡ record { turn = s.table_id; knows = k })
  sat_one b s k is = (is ∙ ap (λ m. (sits (sole_seat b m.0.seats ∷ []), [])) (sym is), λ i. record { turn = s.table_id; knows = sole_seat b (is i).0.seats })

module _ {B E : Type 0} (caller : E → ℕ) (b : B) (log : List E) where
  abbrev pub newcomer : ℕ → Knowledge B E
  newcomer k = record { caller = k; start = b; seen = log; own = events_by caller k log; ended = false }

  newcomers_push : (k m : ℕ) → newcomers caller b log k (suc m) ≡ newcomers caller b log k m ++ newcomer (k + m) ∷ []
  newcomers_push k zero = let e : k ≡ k + 0 = omega arith in ap (λ j. newcomer j ∷ []) e
  newcomers_push k (suc m) = let e : suc k + m ≡ k + suc m = omega arith in ap (λ l. newcomer k ∷ l) (newcomers_push (suc k) m ∙ ap (λ j. newcomers caller b log (suc k) m ++ newcomer j ∷ []) e)

  sats_push : (z : TableId) (l : List (Knowledge B E)) (k : Knowledge B E) → sats z (l ++ k ∷ []) ≡ sats z l ++ record { turn = z; knows = k } ∷ []
  sats_push z [] k = refl
  sats_push z (x ∷ xs) k = ap (λ l. record { turn = z; knows = x } ∷ l) (sats_push z xs k)

  -- one more than those before the k-th
  pub sats_more : (z : TableId) (k n : ℕ) → 1 ≤ k → n ≡ k → sats z (newcomers caller b log 1 n) ≡ sats z (newcomers caller b log 1 (k - 1)) ++ record { turn = z; knows = newcomer k } ∷ []
  sats_more z k n h e =
      let a : n ≡ suc (k - 1) = omega arith in
      let c : 1 + (k - 1) ≡ k = omega arith in
      ap (λ j. sats z (newcomers caller b log 1 j)) a ∙ (ap (sats z) (newcomers_push 1 (k - 1)) ∙ (sats_push z (newcomers caller b log 1 (k - 1)) (newcomer (1 + (k - 1))) ∙ ap (λ j. sats z (newcomers caller b log 1 (k - 1)) ++ record { turn = z; knows = newcomer j } ∷ []) c))

  pub length-first_seats : (z : TableId) (k m : ℕ) → length (sats z (newcomers caller b log k m)) ≡ m
  length-first_seats z k zero = refl
  length-first_seats z k (suc m) = ap suc (length-first_seats z (suc k) m)

  -- the callers from the k-th to the n-th
  newcomers_split : (k n : ℕ) → k < n → newcomers caller b log k (n + 1 - k) ≡ newcomer k ∷ newcomers caller b log (k + 1) (n + 1 - (k + 1))
  newcomers_split k n h = let a : n + 1 - k ≡ suc (n + 1 - (k + 1)) = omega arith in let c : suc k ≡ k + 1 = omega arith in
      ap (newcomers caller b log k) a ∙ ap (λ j. newcomer k ∷ newcomers caller b log j (n + 1 - (k + 1))) c

  pub newcomers_last : (k n : ℕ) → k ≡ n → newcomers caller b log k (n + 1 - k) ≡ newcomer k ∷ []
  newcomers_last k n h = let a : n + 1 - k ≡ suc 0 = omega arith in ap (newcomers caller b log k) a

  -- what a split leaves, and what it gives
  pub split_off : {T : Type 0} (m l r : My T B E) (k n : ℕ) → k < n → m ≡ (sits (newcomers caller b log k (n + 1 - k)), []) → l ≡ (kept_part m.0, m.1) → r ≡ (given_part m.0, [])
      → (l ≡ (sits (newcomer k ∷ []), [])) × (r ≡ (sits (newcomers caller b log (k + 1) (n + 1 - (k + 1))), []))
  split_off m l r k n h is left right =
      let now = is ∙ ap (λ o. (sits o, [])) (newcomers_split k n h) in
      (left ∙ (λ i. (kept_part (now i).0, (now i).1)), right ∙ (λ i. (given_part (now i).0, [])))
