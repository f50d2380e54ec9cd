-- What leaves a member's numbers below the counter, and apart.
use Rattle.std.proofs.Common.{◌≡◌, ℕ, ◌+◌, ◌<◌, ◌≤◌, refl, sym, ap, subst, arith, Bool, true, false, List}
use Rattle.std.specs.Prelude.{◌≢◌, ◌==◌, if◌then◌else◌}
use Rattle.std.proofs.lemmas.Bool.{cond_both, eqb-true, ne_eqb}
use Rattle.lock_manager.specs.Managers.{Book}
use Rattle.member_log.specs.Buffers.{LogBuffer}
use Rattle.member_pool.specs.Heads.{HeadState}
use Rattle.member_trans.specs.Trans.{TranState, TransState}
use Rattle.member_marks.specs.Names.{NameSet}
use Rattle.member_marks.specs.State.{MarksState, with_heads, with_kept, with_locks, with_trans}
use Rattle.log_numbers.specs.Numbers.{AreCounted, CountedMore, forward_among, forward_in, named_among, named_in, one_if}
use Rattle.log_numbers.proofs.Lists.{AllNameNone}

-- ---- no number more, and none that goes forward
pub record Stays (s t : MarksState) : Type 0 where
  pub counted : (c : ℕ) → AreCounted c s → AreCounted c t
  pub forward : (id : ℕ) → id ≢ 0 → forward_in t.trans id ≤ forward_in s.trans id

pub record Fewer (s t : TransState) : Type 0 where
  pub named : (id : ℕ) → id ≢ 0 → named_in t id ≤ named_in s id
  pub forward : (id : ℕ) → id ≢ 0 → forward_in t id ≤ forward_in s id
  pub free : AllNameNone s.slots → AllNameNone t.slots

pub above_some : (c id : ℕ) → c < id → id ≢ 0
above_some c id h e = absurd (let q = e in omega (arith, h, q))

pub stays_itself : (s : MarksState) → Stays s s
stays_itself s = record { counted = λ c k. k; forward = λ id some. omega arith }

pub stays_as : (s t u : MarksState) → t ≡ u → Stays s u → Stays s t
stays_as s t u e k = subst (λ z. Stays s z) (sym e) k

pub stays_on : (s t u : MarksState) → Stays s t → Stays t u → Stays s u
stays_on s t u a b = record { counted = λ c k. b.counted c (a.counted c k); forward = λ id some. (let p = a.forward id some in let q = b.forward id some in omega (arith, p, q)) }

pub stays_if : (s x y : MarksState) (b : Bool) → Stays s x → Stays s y → Stays s (if b then x else y)
stays_if s x y b p q = cond_both b x y (λ z. Stays s z) (λ e. p) (λ e. q)

pub fewer_if : (s x y : TransState) (b : Bool) → Fewer s x → Fewer s y → Fewer s (if b then x else y)
fewer_if s x y b p q = cond_both b x y (λ z. Fewer s z) (λ e. p) (λ e. q)

pub fewer_itself : (s : TransState) → Fewer s s
fewer_itself s = record { named = λ id some. omega arith; forward = λ id some. omega arith; free = λ all. all }

-- where its lists stay
pub fewer_same : (s t : TransState) → t.slots ≡ s.slots → t.rollbacks ≡ s.rollbacks → Fewer s t
fewer_same s t slots rollbacks = record {
  named = λ id some. (let a = ap (λ (z : List TranState). named_among z id) slots in let b = ap (λ (z : List TranState). named_among z id) rollbacks in omega (arith, a, b));
  forward = λ id some. (let a = ap (λ (z : List TranState). forward_among z id) slots in omega (arith, a));
  free = subst AllNameNone (sym slots);
}

pub fewer_on : (s t u : TransState) → Fewer s t → Fewer t u → Fewer s u
fewer_on s t u a b = record {
  named = λ id some. (let p = a.named id some in let q = b.named id some in omega (arith, p, q));
  forward = λ id some. (let p = a.forward id some in let q = b.forward id some in omega (arith, p, q));
  free = λ all. b.free (a.free all);
}

pub none_more : (s t : TransState) (id : ℕ) → Fewer s t → id ≢ 0 → named_in s id ≡ 0 → named_in t id ≡ 0
none_more s t id few some none = (let p = few.named id some in omega (arith, p, none))

pub one_more : (s t : TransState) (id : ℕ) → Fewer s t → id ≢ 0 → named_in s id ≤ 1 → named_in t id ≤ 1
one_more s t id few some once = (let p = few.named id some in omega (arith, p, once))

-- where the log stays
pub stays_fewer : (s t : MarksState) → t.log ≡ s.log → Fewer s.trans t.trans → Stays s t
stays_fewer s t log few = record {
  counted = λ c k. record {
    last = subst (λ (z : LogBuffer). z.last ≤ c) (sym log) k.last;
    stable = subst (λ (z : LogBuffer). z.stable ≤ c) (sym log) k.stable;
    below = λ id above. none_more s.trans t.trans id few (above_some c id above) (k.below id above);
    once = λ id some. one_more s.trans t.trans id few some (k.once id some);
    free = few.free k.free;
  };
  forward = few.forward;
}

-- and the transactions too
pub stays_same : (s t : MarksState) → t.log ≡ s.log → t.trans ≡ s.trans → Stays s t
stays_same s t log trans = stays_fewer s t log (subst (λ (z : TransState). Fewer s.trans z) (sym trans) (fewer_itself s.trans))

pub stays_heads : (s : MarksState) (h : HeadState) → Stays s (with_heads s h)
stays_heads s h = stays_same s (with_heads s h) refl refl

pub stays_names : (s : MarksState) (k : NameSet) → Stays s (with_kept s k)
stays_names s k = stays_same s (with_kept s k) refl refl

pub stays_locks : (s : MarksState) (b : Book) → Stays s (with_locks s b)
stays_locks s b = stays_same s (with_locks s b) refl refl

pub stays_trans : (s : MarksState) (t : TransState) → Fewer s.trans t → Stays s (with_trans s t)
stays_trans s t few = stays_fewer s (with_trans s t) refl few

-- ---- the counter rises
pub counted_more : CountedMore
counted_more c d s le k = record {
  last = (let p = k.last in omega (arith, p, le));
  stable = (let p = k.stable in omega (arith, p, le));
  below = λ id above. k.below id (omega (arith, le, above));
  once = k.once;
  free = k.free;
}

-- ---- the next number is drawn, and put
pub record Draws (n : ℕ) (s t : MarksState) : Type 0 where
  pub counted : (c : ℕ) → n ≡ c + 1 → AreCounted c s → AreCounted n t
  pub forward : (id : ℕ) → id ≢ 0 → id ≢ n → forward_in t.trans id ≤ forward_in s.trans id

pub draws_stays : (n : ℕ) (s t : MarksState) → Stays s t → Draws n s t
draws_stays n s t k = record { counted = λ c next a. counted_more c n t (omega (arith, next)) (k.counted c a); forward = λ id some other. k.forward id some }

pub draws_as : (n : ℕ) (s t u : MarksState) → t ≡ u → Draws n s u → Draws n s t
draws_as n s t u e k = subst (λ z. Draws n s z) (sym e) k

pub draws_after : (n : ℕ) (s t u : MarksState) → Stays s t → Draws n t u → Draws n s u
draws_after n s t u a b = record {
  counted = λ c next k. b.counted c next (a.counted c k);
  forward = λ id some other. (let p = a.forward id some in let q = b.forward id some other in omega (arith, p, q));
}

pub draws_if : (n : ℕ) (s x y : MarksState) (b : Bool) → (b ≡ true → Draws n s x) → Draws n s y → Draws n s (if b then x else y)
draws_if n s x y b p q = cond_both b x y (λ z. Draws n s z) p (λ e. q)

-- at most one more transaction has it for its name
pub record OneMore (n : ℕ) (s t : TransState) : Type 0 where
  pub named : (id : ℕ) → id ≢ 0 → named_in t id ≤ named_in s id + one_if (n == id)
  pub forward : (id : ℕ) → id ≢ 0 → id ≢ n → forward_in t id ≤ forward_in s id
  pub free : AllNameNone s.slots → AllNameNone t.slots

pub fewer_one : (n : ℕ) (s t : TransState) → Fewer s t → OneMore n s t
fewer_one n s t few = record { named = λ id some. (let p = few.named id some in omega (arith, p)); forward = λ id some other. few.forward id some; free = few.free }

other_named : (n id : ℕ) → n < id → one_if (n == id) ≡ 0
other_named n id above = ap one_if (ne_eqb n id (λ e. absurd (let q = e in omega (arith, above, q))))

most_one : (b : Bool) → one_if b ≤ 1
most_one true = omega arith
most_one false = omega arith

once_named : (n c id : ℕ) (s t : TransState) → OneMore n s t → n ≡ c + 1 → id ≢ 0 → ((x : ℕ) → c < x → named_in s x ≡ 0) → named_in s id ≤ 1 → (b : Bool) → (n == id) ≡ b → named_in t id ≤ 1
once_named n c id s t more next some below once true same =
    let q = eqb-true n id same in
    let none = below id (omega (arith, next, q)) in
    let p = more.named id some in
    let one = most_one (n == id) in
    omega (arith, p, none, one)
once_named n c id s t more next some below once false other =
    let p = more.named id some in
    let none = ap one_if other in
    omega (arith, p, none, once)

pub draws_put : (n : ℕ) (s t : MarksState) → t.log.last ≡ n → t.log.stable ≡ s.log.stable → OneMore n s.trans t.trans → Draws n s t
draws_put n s t last stable more = record {
  counted = λ c next k. record {
    last = omega (arith, last);
    stable = (let p = k.stable in omega (arith, p, stable, next));
    below = λ id above.
        let p = more.named id (above_some n id above) in
        let none = k.below id (omega (arith, above, next)) in
        let other = other_named n id above in
        omega (arith, p, none, other);
    once = λ id some. once_named n c id s.trans t.trans more next some k.below (k.once id some) (n == id) refl;
    free = more.free k.free;
  };
  forward = more.forward;
}
