-- How many of some transactions have a name, as one of them changes.
use Rattle.std.proofs.Common.{◌≡◌, ℕ, zero, suc, ◌+◌, ◌≤◌, refl, sym, ◌∙◌, ap, arith, Bool, true, false, List, [], ◌∷◌, ◌++◌, Some}
use Rattle.std.specs.Prelude.{◌≢◌, ◌==◌, ◌&&◌, if◌then◌else◌, is_some, remove, replicate, slice_index_or, slice_set}
use Rattle.std.proofs.lemmas.Bool.{eq-eqb, ne_eqb}
use Rattle.member_trans.specs.declared.fate.Stage.{Stage}
use Rattle.member_trans.specs.declared.fate.Stage.TheVariants as stage
use Rattle.member_trans.specs.Trans.{TranState, all_decided, decided_tran, free_tran, is_forward, is_free, place_in}
use Rattle.log_numbers.specs.Numbers.{NamesNone, forward_among, named_among, one_if}

-- a number that names none
pub none_named : (id : ℕ) → id ≢ 0 → one_if (0 == id) ≡ 0
none_named id some = ap one_if (ne_eqb 0 id (λ e. some (sym e)))

-- what was there gives way to another
pub set_named : (ts : List TranState) (slot : ℕ) (x : TranState) (id : ℕ) → id ≢ 0
    → named_among (slice_set ts slot x) id + one_if ((slice_index_or ts slot free_tran).first == id) ≤ named_among ts id + one_if (x.first == id)
set_named [] slot x id some = (let e = none_named id some in omega (arith, e))
set_named (t ∷ ts) zero x id some = omega arith
set_named (t ∷ ts) (suc slot) x id some = (let rest = set_named ts slot x id some in omega (arith, rest))

pub push_named : (ts : List TranState) (x : TranState) (id : ℕ) → named_among (ts ++ x ∷ []) id ≡ named_among ts id + one_if (x.first == id)
push_named [] x id = omega arith
push_named (t ∷ ts) x id = (let rest = push_named ts x id in omega (arith, rest))

pub removed_named : (ts : List TranState) (k id : ℕ) → named_among (remove ts k) id ≤ named_among ts id
removed_named [] zero id = omega arith
removed_named [] (suc k) id = omega arith
removed_named (t ∷ ts) zero id = omega arith
removed_named (t ∷ ts) (suc k) id = (let rest = removed_named ts k id in omega (arith, rest))

pub free_named : (n id : ℕ) → id ≢ 0 → named_among (replicate n free_tran) id ≡ 0
free_named zero id some = refl
free_named (suc n) id some = (let e = none_named id some in let rest = free_named n id some in omega (arith, e, rest))

-- one that is there counts
pub at_named : (ts : List TranState) (slot id : ℕ) → id ≢ 0 → one_if ((slice_index_or ts slot free_tran).first == id) ≤ named_among ts id
at_named [] slot id some = (let e = none_named id some in omega (arith, e))
at_named (t ∷ ts) zero id some = omega arith
at_named (t ∷ ts) (suc slot) id some = (let rest = at_named ts slot id some in omega (arith, rest))

-- ---- how many go forward

-- one that keeps its name, and goes forward only where it did
pub like_forward : (x t : TranState) (id : ℕ) → x.first ≡ t.first → (is_forward x.stage ≡ true → is_forward t.stage ≡ true) → one_if (is_forward x.stage && (x.first == id)) ≤ one_if (is_forward t.stage && (t.first == id))
like_forward x t id same on = by (is_forward x.stage) refl
  where
    by : (b : Bool) → is_forward x.stage ≡ b → one_if (b && (x.first == id)) ≤ one_if (is_forward t.stage && (t.first == id))
    by true goes =
        let q : one_if (is_forward t.stage && (t.first == id)) ≡ one_if (t.first == id) = ap (λ (b : Bool). one_if (b && (t.first == id))) (on goes) in
        let p : one_if (x.first == id) ≡ one_if (t.first == id) = ap (λ (z : ℕ). one_if (z == id)) same in
        omega (arith, p, q)
    by false rests = omega arith

pub none_forward : (t : TranState) (id : ℕ) → t.first ≡ 0 → id ≢ 0 → one_if (is_forward t.stage && (t.first == id)) ≡ 0
none_forward t id none some = ap (λ (z : ℕ). one_if (is_forward t.stage && (z == id))) none ∙ by (is_forward t.stage)
  where
    by : (b : Bool) → one_if (b && (0 == id)) ≡ 0
    by true = none_named id some
    by false = refl

pub set_forward : (ts : List TranState) (slot : ℕ) (x : TranState) (id : ℕ)
    → forward_among (slice_set ts slot x) id + one_if (is_forward (slice_index_or ts slot free_tran).stage && ((slice_index_or ts slot free_tran).first == id)) ≤ forward_among ts id + one_if (is_forward x.stage && (x.first == id))
set_forward [] slot x id = omega arith
set_forward (t ∷ ts) zero x id = omega arith
set_forward (t ∷ ts) (suc slot) x id = (let rest = set_forward ts slot x id in omega (arith, rest))

one_named : (t : TranState) (id : ℕ) → one_if (is_forward t.stage && (t.first == id)) ≤ one_if (t.first == id)
one_named t id = by (is_forward t.stage)
  where
    by : (b : Bool) → one_if (b && (t.first == id)) ≤ one_if (t.first == id)
    by true = omega arith
    by false = omega arith

pub forward_named : (ts : List TranState) (id : ℕ) → forward_among ts id ≤ named_among ts id
forward_named [] id = omega arith
forward_named (t ∷ ts) id = (let one = one_named t id in let rest = forward_named ts id in omega (arith, one, rest))

-- one that is there, and doesn't go forward, counts beside those that do
pub apart_named : (ts : List TranState) (slot id : ℕ) → id ≢ 0 → is_forward (slice_index_or ts slot free_tran).stage ≡ false
    → forward_among ts id + one_if ((slice_index_or ts slot free_tran).first == id) ≤ named_among ts id
apart_named [] slot id some rests = (let e = none_named id some in omega (arith, e))
apart_named (t ∷ ts) zero id some rests =
    let none : one_if (is_forward t.stage && (t.first == id)) ≡ 0 = ap (λ (b : Bool). one_if (b && (t.first == id))) rests in
    let rest = forward_named ts id in
    omega (arith, none, rest)
apart_named (t ∷ ts) (suc slot) id some rests = (let one = one_named t id in let rest = apart_named ts slot id some rests in omega (arith, one, rest))

-- and one that does
pub at_forward : (ts : List TranState) (slot id : ℕ) → is_forward (slice_index_or ts slot free_tran).stage ≡ true → (slice_index_or ts slot free_tran).first ≡ id → 1 ≤ forward_among ts id
at_forward [] slot id goes named = absurd cc
at_forward (t ∷ ts) zero id goes named =
    let one : one_if (is_forward t.stage && (t.first == id)) ≡ 1 = ap (λ (b : Bool). one_if (b && (t.first == id))) goes ∙ ap one_if (eq-eqb t.first id named) in
    omega (arith, one)
at_forward (t ∷ ts) (suc slot) id goes named = (let rest = at_forward ts slot id goes named in omega (arith, rest))

-- ---- those that aren't there

-- none of them has a name
abbrev pub AllNameNone : List TranState → Type 0
AllNameNone ts = (slot : ℕ) → NamesNone (slice_index_or ts slot free_tran)

pub set_none : (ts : List TranState) (at : ℕ) (x : TranState) → NamesNone x → AllNameNone ts → AllNameNone (slice_set ts at x)
set_none [] at x none all slot = all slot
set_none (t ∷ ts) zero x none all zero = none
set_none (t ∷ ts) zero x none all (suc slot) = all (suc slot)
set_none (t ∷ ts) (suc at) x none all zero = all zero
set_none (t ∷ ts) (suc at) x none all (suc slot) = set_none ts at x none (λ k. all (suc k)) slot

pub free_none : (n : ℕ) → AllNameNone (replicate n free_tran)
free_none zero slot free = refl
free_none (suc n) zero free = refl
free_none (suc n) (suc slot) free = free_none n slot free

pub decided_none : (ts : List TranState) (slots : List ℕ) → AllNameNone ts → AllNameNone (all_decided ts slots)
decided_none ts [] all = all
decided_none ts (slot ∷ slots) all =
    let x : TranState = decided_tran (slice_index_or ts slot free_tran) in
    decided_none (slice_set ts slot x) slots (set_none ts slot x (λ free. absurd cc) all)

-- what goes forward is there
pub forward_stands : (s : Stage) → is_forward s ≡ true → is_free s ≡ true → ⊥
forward_stands stage.Free goes free = cc
forward_stands stage.Forward goes free = cc
forward_stands stage.Drawn goes free = cc
forward_stands stage.Decided goes free = cc
forward_stands stage.Undoing goes free = cc
forward_stands stage.Postponed goes free = cc

-- where none of them is there, none has this name
pub none_there : (ts : List TranState) (id : ℕ) → id ≢ 0 → ((slot : ℕ) → is_free (slice_index_or ts slot free_tran).stage ≡ true) → AllNameNone ts → named_among ts id ≡ 0
none_there [] id some free all = refl
none_there (t ∷ ts) id some free all =
    let first : one_if (t.first == id) ≡ 0 = ap (λ (z : ℕ). one_if (z == id)) (all 0 (free 0)) ∙ none_named id some in
    let rest = none_there ts id some (λ k. free (suc k)) (λ k. all (suc k)) in
    omega (arith, first, rest)

-- nor where none is found by it
pub none_placed : (ts : List TranState) (k id : ℕ) → is_some (place_in ts k id) ≡ false → named_among ts id ≡ 0
none_placed [] k id none = refl
none_placed (t ∷ ts) k id none = by (t.first == id) (none_placed ts (k + 1) id) none
  where
    by : (b : Bool) → (is_some (place_in ts (k + 1) id) ≡ false → named_among ts id ≡ 0) → is_some (if b then Some k else place_in ts (k + 1) id) ≡ false → one_if b + named_among ts id ≡ 0
    by true rest e = absurd cc
    by false rest e = (let none = rest e in omega (arith, none))
