-- What a change of the transactions of a restart leaves closed.
use Rattle.std.proofs.Common.{◌≡◌, ℕ, zero, suc, ◌+◌, ◌<◌, ◌≤◌, refl, sym, ◌∙◌, ap, subst, arith, Bool, true, false, cond, inl, inr, List, [], ◌∷◌, ◌++◌, length, Option, Some, None}
use Rattle.std.specs.Prelude.{◌≢◌, ◌⊎◌, ◌-◌, ◌^◌, ◌==◌, min, nat_lt, map, IfSome, slice_get, slice_set}
use Rattle.std.specs.List.{AllByRecursion}
use Rattle.std.specs.Ordering.{nat_cmp, is_eq, match_ordering}
use Rattle.std.specs.declared.cmp.Ordering.{Ordering}
use Rattle.std.specs.declared.cmp.Ordering.TheVariants.{Less, Equal, Greater}
use Rattle.std.specs.BTreeMap.{is_at, insert_entry}
use Rattle.std.specs.Map.{lookup}
use Rattle.std.proofs.lemmas.Bool.{eqb-true}
use Rattle.std.proofs.lemmas.List.{length-append, length-set}
use Rattle.ds_model.specs.declared.log.LogRecord.{LogRecord}
use Rattle.log_opens.specs.Puts.{HasAllowed}
use Rattle.log_rows.specs.Rows.{BothTell, is_closed}
use Rattle.log_trans.specs.declared.opened.OpenTran.{OpenTran}
use Rattle.restart_records.specs.declared.trans.RestartStage.{RestartStage}
use Rattle.restart_records.specs.declared.trans.RestartStage.TheVariants as stage
use Rattle.restart_records.specs.declared.trans.RestartTran.{RestartTran}
use Rattle.restart_records.specs.Maps.{NumberPlaces, place_at, with_place}
use Rattle.restart_records.specs.Trans.{TransState, added, after_back, after_back_at, after_end, after_end_at, after_finish, after_finish_at, all_added, ended_from, is_open, is_open_stage, no_trans, over_from, taken_back_from, tran_at, tran_in}
use Rattle.restart_closing.specs.Closing.{HasEnd, IsClosedIn, IsOf, TranCloses, TransClose, left_among, one_left, trans_of}
use Rattle.restart_closing.proofs.Logs.{each, end_more}

-- ---- one of a list
pub same_some : {A : Type 0} → (a b : A) → Some a ≡ Some b → a ≡ b
same_some a b e = cc

pub none_some : {A : Type 0} → (a : A) → None ≡ Some a → ⊥
none_some a e = cc

pub at_place : (P : RestartTran → Type 0) (list : List RestartTran) (at : ℕ) (x : RestartTran) → slice_get list at ≡ Some x → AllByRecursion P list → P x
at_place P [] at x is h = absurd (none_some x is)
at_place P (z ∷ zs) zero x is h = subst P (same_some z x is) h.0
at_place P (z ∷ zs) (suc at) x is h = at_place P zs at x is h.1

all_set : (P : RestartTran → Type 0) (list : List RestartTran) (at : ℕ) (y : RestartTran) → P y → AllByRecursion P list → AllByRecursion P (slice_set list at y)
all_set P [] at y new h = h
all_set P (z ∷ zs) zero y new h = (new, h.1)
all_set P (z ∷ zs) (suc at) y new h = (h.0, all_set P zs at y new h.1)

-- what holds of the item in place holds of the one that is put there
set_keeps : (P : Option RestartTran → Type 0) (list : List RestartTran) (at k : ℕ) (x y : RestartTran) → slice_get list at ≡ Some x → (P (Some x) → P (Some y)) → P (slice_get list k) → P (slice_get (slice_set list at y) k)
set_keeps P [] at k x y is go h = h
set_keeps P (z ∷ zs) zero zero x y is go h = go (subst P is h)
set_keeps P (z ∷ zs) zero (suc k) x y is go h = h
set_keeps P (z ∷ zs) (suc at) zero x y is go h = h
set_keeps P (z ∷ zs) (suc at) (suc k) x y is go h = set_keeps P zs at k x y is go h

set_there : (P : RestartTran → Type 0) (list : List RestartTran) (at : ℕ) (y : RestartTran) → P y → IfSome (slice_get (slice_set list at y) at) P
set_there P [] at y new = tt
set_there P (z ∷ zs) zero y new = new
set_there P (z ∷ zs) (suc at) y new = set_there P zs at y new

set_trans : (list : List RestartTran) (at : ℕ) (x y : RestartTran) → slice_get list at ≡ Some x → y.tran ≡ x.tran → trans_of (slice_set list at y) ≡ trans_of list
set_trans [] at x y is same = refl
set_trans (z ∷ zs) zero x y is same = ap (λ (t : OpenTran). t ∷ trans_of zs) (same ∙ ap (λ (w : RestartTran). w.tran) (sym (same_some z x is)))
set_trans (z ∷ zs) (suc at) x y is same = ap (λ (ts : List OpenTran). z.tran ∷ ts) (set_trans zs at x y is same)

-- how many are left
set_left : (list : List RestartTran) (at : ℕ) (x y : RestartTran) → slice_get list at ≡ Some x → left_among (slice_set list at y) + one_left x.stage ≡ left_among list + one_left y.stage
set_left [] at x y is = absurd (none_some x is)
set_left (z ∷ zs) zero x y is = (let e = ap (λ (w : RestartTran). one_left w.stage) (same_some z x is) in omega (arith, e))
set_left (z ∷ zs) (suc at) x y is = (let rest = set_left zs at x y is in omega (arith, rest))

left_most : (list : List RestartTran) → left_among list ≤ length list
left_most [] = omega arith
left_most (x ∷ xs) = (let one = most x.stage in let rest = left_most xs in omega (arith, one, rest))
  where
    most : (s : RestartStage) → one_left s ≤ 1
    most stage.Open = omega arith
    most stage.Ended = omega arith
    most stage.Over = omega arith

left_push : (list : List RestartTran) (x : RestartTran) → left_among (list ++ x ∷ []) ≡ left_among list + one_left x.stage
left_push [] x = omega arith
left_push (z ∷ zs) x = (let rest = left_push zs x in omega (arith, rest))

-- ---- more records wait
pub trans_more : BothTell → (log : List ℕ) (pend new : List LogRecord) (t : TransState) → TransClose log pend t → TransClose log (pend ++ new) t
trans_more law log pend new t h = record {
  list = each (TranCloses log pend) (TranCloses log (pend ++ new)) more t.list h.list;
  places = h.places;
  ending = h.ending;
  left = h.left;
}
  where
    more : (x : RestartTran) → TranCloses log pend x → TranCloses log (pend ++ new) x
    more x c = record { named = c.named; has = c.has; ended = λ e. end_more law log pend new x.tran.id (c.ended e); over = c.over }

-- ---- one of them is another
put_in : (log : List ℕ) (pend : List LogRecord) (t : TransState) (at : ℕ) (x y : RestartTran) → slice_get t.list at ≡ Some x → y.tran ≡ x.tran → TranCloses log pend y
    → (ending : Option ℕ) → IfSome ending (λ (k : ℕ). IfSome (slice_get (slice_set t.list at y) k) (λ (z : RestartTran). z.stage ≡ stage.Ended))
    → (left : ℕ) → (length t.list < 2 ^ 64 → left_among (slice_set t.list at y) ≤ left) → TransClose log pend t → TransClose log pend (record { places = t.places; list = slice_set t.list at y; left = left; ending = ending })
put_in log pend t at x y is same new ending ends left few h = record {
  list = all_set (TranCloses log pend) t.list at y new h.list;
  places = λ id k there. set_keeps (IsOf id) t.list at k x y is (λ e. ap (λ (z : OpenTran). z.id) same ∙ e) (h.places id k there);
  ending = ends;
  left = λ short. few (let long = length-set t.list at y in omega (arith, short, long));
}

abbrev IsEnded : Option RestartTran → Type 0
IsEnded o = IfSome o (λ (x : RestartTran). x.stage ≡ stage.Ended)

still_ending : (list : List RestartTran) (at : ℕ) (x y : RestartTran) (o : Option ℕ) → slice_get list at ≡ Some x → (x.stage ≡ stage.Ended → y.stage ≡ stage.Ended) → IfSome o (λ (k : ℕ). IsEnded (slice_get list k)) → IfSome o (λ (k : ℕ). IsEnded (slice_get (slice_set list at y) k))
still_ending list at x y None is go h = h
still_ending list at x y (Some k) is go h = set_keeps IsEnded list at k x y is go h

-- ---- a change is taken back
back_from : (log : List ℕ) (pend : List LogRecord) (t : TransState) (at : ℕ) (o : Option RestartTran) → slice_get t.list at ≡ o → TransClose log pend t → TransClose log pend (taken_back_from t at o)
back_from log pend t at None is h = h
back_from log pend t at (Some x) is h =
    let c : TranCloses log pend x = at_place (TranCloses log pend) t.list at x is h.list in
    let y : RestartTran = record x { stands = x.stands - 1 } in
    put_in log pend t at x y is refl (record { named = c.named; has = c.has; ended = c.ended; over = c.over }) t.ending (still_ending t.list at x y t.ending is (λ e. e) h.ending) t.left (λ short. (let few = h.left short in let set = set_left t.list at x y is in omega (arith, few, set))) h

back_at : (log : List ℕ) (pend : List LogRecord) (t : TransState) (o : Option ℕ) → TransClose log pend t → TransClose log pend (after_back_at t o)
back_at log pend t None h = h
back_at log pend t (Some at) h = back_from log pend t at (slice_get t.list at) refl h

pub trans_back : (log : List ℕ) (pend : List LogRecord) (t : TransState) (id : ℕ) → TransClose log pend t → TransClose log pend (after_back t id)
trans_back log pend t id h = back_at log pend t (place_at t.places id) h

-- the transactions stay
back_same_from : (t : TransState) (at : ℕ) (o : Option RestartTran) → slice_get t.list at ≡ o → trans_of (taken_back_from t at o).list ≡ trans_of t.list
back_same_from t at None is = refl
back_same_from t at (Some x) is = set_trans t.list at x (record x { stands = x.stands - 1 }) is refl

back_same_at : (t : TransState) (o : Option ℕ) → trans_of (after_back_at t o).list ≡ trans_of t.list
back_same_at t None = refl
back_same_at t (Some at) = back_same_from t at (slice_get t.list at) refl

pub back_same : (t : TransState) (id : ℕ) → trans_of (after_back t id).list ≡ trans_of t.list
back_same t id = back_same_at t (place_at t.places id)

-- ---- an Ended record is put
-- the transaction of this number is open still
abbrev pub IsOpenAt : TransState → ℕ → Type 0
IsOpenAt t id = IfSome (tran_in t id) (λ (x : RestartTran). is_open x ≡ true)

open_left : (s : RestartStage) → is_open_stage s ≡ true → one_left s ≡ 1
open_left stage.Open e = refl
open_left stage.Ended e = absurd cc
open_left stage.Over e = absurd cc

end_from : (log : List ℕ) (pend : List LogRecord) (t : TransState) (id at : ℕ) (o : Option RestartTran) → slice_get t.list at ≡ o → IsOf id o → IfSome o (λ (x : RestartTran). is_open x ≡ true) → is_closed pend id ≡ true → TransClose log pend t → TransClose log pend (ended_from t at o)
end_from log pend t id at None is own goes closed h = absurd own
end_from log pend t id at (Some x) is own goes closed h =
    let c : TranCloses log pend x = at_place (TranCloses log pend) t.list at x is h.list in
    let y : RestartTran = record x { stage = stage.Ended } in
    let waits : is_closed pend x.tran.id ≡ true = ap (λ (n : ℕ). is_closed pend n) own ∙ closed in
    put_in log pend t at x y is refl (record { named = c.named; has = c.has; ended = λ e. inr waits; over = λ e. absurd (never e) }) (Some at) (set_there (λ (z : RestartTran). z.stage ≡ stage.Ended) t.list at y refl) t.left
    (λ short. (let few = h.left short in let set = set_left t.list at x y is in let one = open_left x.stage goes in omega (arith, few, set, one))) h
  where
    never : stage.Ended ≡ stage.Over → ⊥
    never e = cc

end_at : (log : List ℕ) (pend : List LogRecord) (t : TransState) (id : ℕ) (o : Option ℕ) → place_at t.places id ≡ o → IfSome (tran_at t o) (λ (x : RestartTran). is_open x ≡ true) → is_closed pend id ≡ true → TransClose log pend t → TransClose log pend (after_end_at t o)
end_at log pend t id None there goes closed h = h
end_at log pend t id (Some at) there goes closed h = end_from log pend t id at (slice_get t.list at) refl (h.places id at there) goes closed h

pub trans_ended : (log : List ℕ) (pend : List LogRecord) (t : TransState) (id : ℕ) → IsOpenAt t id → is_closed pend id ≡ true → TransClose log pend t → TransClose log pend (after_end t id)
trans_ended log pend t id goes closed h = end_at log pend t id (place_at t.places id) refl goes closed h

-- so it is behind a change that is taken back
back_goes : (t : TransState) (at : ℕ) (o : Option RestartTran) → slice_get t.list at ≡ o → IfSome o (λ (x : RestartTran). is_open x ≡ true) → IfSome (slice_get (taken_back_from t at o).list at) (λ (x : RestartTran). is_open x ≡ true)
back_goes t at None is goes = subst (λ (z : Option RestartTran). IfSome z (λ (x : RestartTran). is_open x ≡ true)) (sym is) goes
back_goes t at (Some x) is goes = set_there (λ (z : RestartTran). is_open z ≡ true) t.list at (record x { stands = x.stands - 1 }) goes

back_placed : (t : TransState) (at : ℕ) (o : Option RestartTran) → (taken_back_from t at o).places ≡ t.places
back_placed t at None = refl
back_placed t at (Some x) = refl

back_open_at : (t : TransState) (id : ℕ) (o : Option ℕ) → place_at t.places id ≡ o → IfSome (tran_at t o) (λ (x : RestartTran). is_open x ≡ true) → IsOpenAt (after_back_at t o) id
back_open_at t id None there goes = subst (λ (z : Option ℕ). IfSome (tran_at t z) (λ (x : RestartTran). is_open x ≡ true)) (sym there) goes
back_open_at t id (Some at) there goes =
    let u : TransState = taken_back_from t at (slice_get t.list at) in
    let placed : place_at u.places id ≡ Some at = ap (λ (z : NumberPlaces). place_at z id) (back_placed t at (slice_get t.list at)) ∙ there in
    subst (λ (z : Option ℕ). IfSome (tran_at u z) (λ (x : RestartTran). is_open x ≡ true)) (sym placed) (back_goes t at (slice_get t.list at) refl goes)

pub back_open : (t : TransState) (id : ℕ) → IsOpenAt t id → IsOpenAt (after_back t id) id
back_open t id goes = back_open_at t id (place_at t.places id) refl goes

end_same_from : (t : TransState) (at : ℕ) (o : Option RestartTran) → slice_get t.list at ≡ o → trans_of (ended_from t at o).list ≡ trans_of t.list
end_same_from t at None is = refl
end_same_from t at (Some x) is = set_trans t.list at x (record x { stage = stage.Ended }) is refl

end_same_at : (t : TransState) (o : Option ℕ) → trans_of (after_end_at t o).list ≡ trans_of t.list
end_same_at t None = refl
end_same_at t (Some at) = end_same_from t at (slice_get t.list at) refl

pub end_same : (t : TransState) (id : ℕ) → trans_of (after_end t id).list ≡ trans_of t.list
end_same t id = end_same_at t (place_at t.places id)

-- ---- the records that waited are on disk
forced_tran : (log now : List ℕ) (pend : List LogRecord) → ((id : ℕ) → HasEnd log pend id → IsClosedIn now id) → (x : RestartTran) → TranCloses log pend x → TranCloses now [] x
forced_tran log now pend go x c = record { named = c.named; has = c.has; ended = λ e. inl (go x.tran.id (c.ended e)); over = λ e. go x.tran.id (inl (c.over e)) }

over_place : (now : List ℕ) (t : TransState) (at : ℕ) (o : Option RestartTran) → slice_get t.list at ≡ o → IsEnded o → TransClose now [] t → TransClose now [] (over_from (record t { ending = None }) at o)
over_place now t at None is ends h = record { list = h.list; places = h.places; ending = tt; left = h.left }
over_place now t at (Some x) is ends h =
    let c : TranCloses now [] x = at_place (TranCloses now []) t.list at x is h.list in
    let y : RestartTran = record x { stage = stage.Over } in
    let shut : is_open x ≡ false = ap (λ (z : RestartStage). is_open_stage z) ends in
    let closed : IsClosedIn now x.tran.id = by x (c.ended shut) in
    put_in now [] t at x y is refl (record { named = c.named; has = c.has; ended = λ e. inl closed; over = λ e. closed }) None tt (t.left - 1) (λ short. (let few = h.left short in let set = set_left t.list at x y is in let one = open_ends x.stage ends in omega (arith, few, set, one))) h
  where
    never : false ≡ true → ⊥
    never e = cc

    open_ends : (s : RestartStage) → s ≡ stage.Ended → one_left s ≡ 1
    open_ends s e = ap one_left e

    by : (x : RestartTran) → HasEnd now [] x.tran.id → IsClosedIn now x.tran.id
    by x (inl closed) = closed
    by x (inr waits) = absurd (never waits)

finish_at : (now : List ℕ) (t : TransState) (o : Option ℕ) → IfSome o (λ (k : ℕ). IsEnded (slice_get t.list k)) → TransClose now [] t → TransClose now [] (after_finish_at t o)
finish_at now t None ends h = h
finish_at now t (Some at) ends h = over_place now t at (slice_get t.list at) refl ends h

pub trans_forced : (log now : List ℕ) (pend : List LogRecord) (t : TransState) → ((id : ℕ) → HasEnd log pend id → IsClosedIn now id) → TransClose log pend t → TransClose now [] (after_finish t)
trans_forced log now pend t go h =
    finish_at now t t.ending h.ending (record { list = each (TranCloses log pend) (TranCloses now []) (forced_tran log now pend go) t.list h.list; places = h.places; ending = h.ending; left = h.left })

over_same : (t : TransState) (at : ℕ) (o : Option RestartTran) → slice_get t.list at ≡ o → trans_of (over_from (record t { ending = None }) at o).list ≡ trans_of t.list
over_same t at None is = refl
over_same t at (Some x) is = set_trans t.list at x (record x { stage = stage.Over }) is refl

finish_same_at : (t : TransState) (o : Option ℕ) → trans_of (after_finish_at t o).list ≡ trans_of t.list
finish_same_at t None = refl
finish_same_at t (Some at) = over_same t at (slice_get t.list at) refl

pub finish_same : (t : TransState) → trans_of (after_finish t).list ≡ trans_of t.list
finish_same t = finish_same_at t t.ending

-- ---- the log is read
equal_is : (a b : Bool) (x y : ℕ) → (x == y) ≡ b → is_eq (cond a Less (cond b Equal Greater)) ≡ true → x ≡ y
equal_is true b x y e h = absurd cc
equal_is false true x y e h = eqb-true x y e
equal_is false false x y e h = absurd cc

same_key : (x y : ℕ) → is_eq (nat_cmp x y) ≡ true → x ≡ y
same_key x y h = equal_is (nat_lt x y) (x == y) x y refl h

abbrev Found : NumberPlaces → ℕ → ℕ → ℕ → ℕ → Type 0
Found es k v n at = ((n ≡ k) × (at ≡ v)) ⊎ (place_at es n ≡ Some at)

first_found : (b : Bool) (k v n at : ℕ) (rest : Option ℕ) (es : NumberPlaces) → is_eq (nat_cmp n k) ≡ b → (rest ≡ Some at → Found es k v n at) → cond b (Some v) rest ≡ Some at → Found es k v n at
first_found true k v n at rest es is go e = inl (same_key n k is, sym (same_some v at e))
first_found false k v n at rest es is go e = go e

found : (es : NumberPlaces) (k v n at : ℕ) → place_at (with_place es k v) n ≡ Some at → Found es k v n at
found [] k v n at e = first_found (is_eq (nat_cmp n k)) k v n at None [] refl (λ f. absurd (none_some at f)) e
found (e ∷ es) k v n at there = by (nat_cmp k e.0) refl (found es k v n at) there
  where
    passed : (b : Bool) → is_eq (nat_cmp n e.0) ≡ b → (rest : Option ℕ) → (rest ≡ Some at → Found es k v n at) → cond b (Some e.1) rest ≡ Some at → Found (e ∷ es) k v n at
    passed true is rest go f = inr (ap (λ (b : Bool). cond b (Some e.1) (place_at es n)) is ∙ f)
    passed false is rest go f = on (go f)
      where
        on : Found es k v n at → Found (e ∷ es) k v n at
        on (inl p) = inl p
        on (inr p) = inr (ap (λ (b : Bool). cond b (Some e.1) (place_at es n)) is ∙ p)

    same : k ≡ e.0 → (b : Bool) → is_eq (nat_cmp n e.0) ≡ b → cond b (Some v) (place_at es n) ≡ Some at → Found (e ∷ es) k v n at
    same own true is f = inl (same_key n e.0 is ∙ sym own, sym (same_some v at f))
    same own false is f = inr (ap (λ (b : Bool). cond b (Some e.1) (place_at es n)) is ∙ f)

    by : (o : Ordering) → nat_cmp k e.0 ≡ o → (place_at (with_place es k v) n ≡ Some at → Found es k v n at) → place_at (match_ordering o ((k, v) ∷ e ∷ es) ((e.0, v) ∷ es) (e ∷ with_place es k v)) n ≡ Some at → Found (e ∷ es) k v n at
    by Less is go f = first_found (is_eq (nat_cmp n k)) k v n at (place_at (e ∷ es) n) (e ∷ es) refl (λ g. inr g) f
    by Equal is go f = same (same_key k e.0 (ap is_eq is)) (is_eq (nat_cmp n e.0)) refl f
    by Greater is go f = passed (is_eq (nat_cmp n e.0)) refl (place_at (with_place es k v) n) go f

-- one more at the end
push_of : (list : List RestartTran) (x : RestartTran) (at id : ℕ) → IsOf id (slice_get list at) → IsOf id (slice_get (list ++ x ∷ []) at)
push_of [] x at id own = absurd own
push_of (z ∷ zs) x zero id own = own
push_of (z ∷ zs) x (suc at) id own = push_of zs x at id own

last_of : (list : List RestartTran) (x : RestartTran) → slice_get (list ++ x ∷ []) (length list) ≡ Some x
last_of [] x = refl
last_of (z ∷ zs) x = last_of zs x

push_all : (P : RestartTran → Type 0) (list : List RestartTran) (x : RestartTran) → AllByRecursion P list → P x → AllByRecursion P (list ++ x ∷ [])
push_all P [] x h new = (new, tt)
push_all P (z ∷ zs) x h new = (h.0, push_all P zs x h.1 new)

abbrev pub MayEnter : OpenTran → Type 0
MayEnter o = (o.id ≢ 0) × HasAllowed o

entered_one : (log : List ℕ) (pend : List LogRecord) (t : TransState) (o : OpenTran) → t.ending ≡ None → MayEnter o → TransClose log pend t → TransClose log pend (added t o)
entered_one log pend t o none new h = record {
  list = push_all (TranCloses log pend) t.list x h.list (record { named = new.0; has = new.1; ended = λ e. absurd (shut e); over = λ e. absurd (never e) });
  places = λ id at there. by id at (found t.places o.id (length t.list) id at there);
  ending = subst (λ (k : Option ℕ). IfSome k (λ (at : ℕ). IsEnded (slice_get (t.list ++ x ∷ []) at))) (sym none) tt;
  left = λ short.
      let long = length-append t.list (x ∷ []) in
      let few = h.left (omega (arith, short, long)) in
      let push = left_push t.list x in
      let most = left_most t.list in
      omega (arith, short, long, few, push, most);
}
  where
    x : RestartTran
    x = record { tran = o; stands = length o.undo; stage = stage.Open }

    shut : true ≡ false → ⊥
    shut e = cc

    never : stage.Open ≡ stage.Over → ⊥
    never e = cc

    by : (id at : ℕ) → Found t.places o.id (length t.list) id at → IsOf id (slice_get (t.list ++ x ∷ []) at)
    by id at (inl p) = subst (λ (k : ℕ). IsOf id (slice_get (t.list ++ x ∷ []) k)) (sym p.1) (subst (IsOf id) (sym (last_of t.list x)) (sym p.0))
    by id at (inr p) = push_of t.list x at id (h.places id at p)

entered_all : (log : List ℕ) (pend : List LogRecord) (t : TransState) (os : List OpenTran) → t.ending ≡ None → AllByRecursion MayEnter os → TransClose log pend t → TransClose log pend (all_added t os)
entered_all log pend t [] none new h = h
entered_all log pend t (o ∷ os) none new h = entered_all log pend (added t o) os none new.1 (entered_one log pend t o none new.0 h)

pub none_close : (log : List ℕ) (pend : List LogRecord) → TransClose log pend no_trans
none_close log pend = record { list = tt; places = λ id at there. absurd (none_some at there); ending = tt; left = λ short. omega arith }

pub trans_entered : (log : List ℕ) (pend : List LogRecord) (os : List OpenTran) → AllByRecursion MayEnter os → TransClose log pend (all_added no_trans os)
trans_entered log pend os new = entered_all log pend no_trans os refl new (none_close log pend)

-- they are those of the log
none_behind : (xs : List OpenTran) → xs ++ [] ≡ xs
none_behind [] = refl
none_behind (x ∷ xs) = ap (λ (z : List OpenTran). x ∷ z) (none_behind xs)

last_trans : (list : List RestartTran) (x : RestartTran) → trans_of (list ++ x ∷ []) ≡ trans_of list ++ x.tran ∷ []
last_trans [] x = refl
last_trans (z ∷ zs) x = ap (λ (ts : List OpenTran). z.tran ∷ ts) (last_trans zs x)

moved : (xs : List OpenTran) (o : OpenTran) (os : List OpenTran) → (xs ++ o ∷ []) ++ os ≡ xs ++ (o ∷ os)
moved [] o os = refl
moved (x ∷ xs) o os = ap (λ (z : List OpenTran). x ∷ z) (moved xs o os)

entered_same : (t : TransState) (os : List OpenTran) → trans_of (all_added t os).list ≡ trans_of t.list ++ os
entered_same t [] = sym (none_behind (trans_of t.list))
entered_same t (o ∷ os) = entered_same (added t o) os ∙ (ap (λ (z : List OpenTran). z ++ os) (last_trans t.list (record { tran = o; stands = length o.undo; stage = stage.Open })) ∙ moved (trans_of t.list) o os)

pub entered_trans : (os : List OpenTran) → trans_of (all_added no_trans os).list ≡ os
entered_trans os = entered_same no_trans os
