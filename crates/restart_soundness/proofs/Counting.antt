-- Two queues that fit the same logs are as long.
use Rattle.std.proofs.Common.{◌≡◌, ℕ, suc, ◌+◌, Bool, true, cond, List, [], ◌∷◌, ◌++◌, length, inl, inr, refl, sym, ap, subst, ◌∙◌, arith}
use Rattle.std.specs.Prelude.{◌⊎◌, ◌==◌, filter, reverse}
use Rattle.std.proofs.lemmas.Bool.{and_from, and_parts, both_ways, cases_Bool, eq-eqb, eqb-true}
use Rattle.std.proofs.lemmas.List.{length-append}
use Rattle.std.proofs.lemmas.List.Elements.{filter-append}
use Rattle.log_record.specs.declared.log.Log.{Log}
use Rattle.restart_plan.specs.declared.opened.Undo.{Undo}
use Rattle.ds_model.specs.declared.log.LogRecord.{LogRecord}
use Rattle.sound_plans.specs.Opens.{course_of}
use Rattle.sound_plans.specs.Queues.{records_for, undos, IsQueueOf, is_of, IsSettled, QueueFits}

-- ---- of each transaction they have the same

abbrev own : ℕ → ℕ → List Undo → List Undo
own m t us = filter (is_of m t) us

settled_none : (logs : List Log) (m t : ℕ) (us : List Undo) → IsSettled logs m t → IsQueueOf logs m t us → us ≡ []
settled_none logs m t us (inl e) q = absurd (both_ways (course_of (records_for logs m) t).is_committed q.uncommitted e)
settled_none logs m t us (inr e) q = q.is ∙ ap (λ (l : List LogRecord). reverse (undos m t true l)) e

abbrev Fits : List Log → ℕ → ℕ → List Undo → Type 0
Fits logs m t us = ((us ≡ []) × IsSettled logs m t) ⊎ IsQueueOf logs m t us

same_if : (logs : List Log) (m t : ℕ) (us vs : List Undo) → Fits logs m t us → Fits logs m t vs → us ≡ vs
same_if logs m t us vs (inl a) (inl b) = a.0 ∙ sym b.0
same_if logs m t us vs (inl a) (inr q) = a.0 ∙ sym (settled_none logs m t vs a.1 q)
same_if logs m t us vs (inr q) (inl b) = settled_none logs m t us b.1 q ∙ sym b.0
same_if logs m t us vs (inr p) (inr q) = p.is ∙ sym q.is

abbrev AreSame : List Undo → List Undo → Type 0
AreSame us vs = (m t : ℕ) → own m t us ≡ own m t vs

-- ---- the first of the one stands in the other

is_own : (u : Undo) → is_of u.member u.tran u ≡ true
is_own u = and_from (u.member == u.member) (u.tran == u.tran) (eq-eqb u.member u.member refl) (eq-eqb u.tran u.tran refl)

-- it is the first there of those for which the test holds
record IsFirst (test : Undo → Bool) (u : Undo) (rest vs : List Undo) : Type 0 where
  front : List Undo
  back : List Undo
  split : vs ≡ front ++ u ∷ back
  holds : test u ≡ true
  others : filter test front ≡ []
  left : filter test back ≡ rest

first_in : (test : Undo → Bool) (u : Undo) (rest vs : List Undo) → u ∷ rest ≡ filter test vs → IsFirst test u rest vs
first_in test u rest [] e = absurd cc
first_in test u rest (v ∷ vs) e = elim (cases_Bool (test v)) [
  | inl there ↦ (
      let is : u ∷ rest ≡ v ∷ filter test vs = e ∙ ap (λ (b : Bool). cond b (v ∷ filter test vs) (filter test vs)) there in
      let same : v ≡ u = cc in
      let left : filter test vs ≡ rest = cc in
      record { front = []; back = vs; split = ap (λ (x : Undo). x ∷ vs) same; holds = ap test (sym same) ∙ there; others = refl; left = left })
  | inr missing ↦ (
      let f = first_in test u rest vs (e ∙ ap (λ (b : Bool). cond b (v ∷ filter test vs) (filter test vs)) missing) in
      record {
        front = v ∷ f.front;
        back = f.back;
        split = ap (λ (x : List Undo). v ∷ x) f.split;
        holds = f.holds;
        others = ap (λ (b : Bool). cond b (v ∷ filter test f.front) (filter test f.front)) missing ∙ f.others;
        left = f.left;
      })
]

abbrev own_if : Bool → Undo → List Undo → List Undo
own_if b u us = cond b (u ∷ us) us

-- behind it they have the same still
rest_same : (u : Undo) (us vs : List Undo) → AreSame (u ∷ us) vs → (f : IsFirst (is_of u.member u.tran) u (own u.member u.tran us) vs) → AreSame us (f.front ++ f.back)
rest_same u us vs h f k s = elim (cases_Bool (is_of k s u)) as (λ _. own k s us ≡ own k s (f.front ++ f.back)) [
  | inl it ↦ (
      let p = and_parts (u.member == k) (u.tran == s) it in
      let here : own u.member u.tran us ≡ own u.member u.tran (f.front ++ f.back) =
      sym (filter-append (is_of u.member u.tran) f.front f.back ∙ ap (λ (l : List Undo). l ++ own u.member u.tran f.back) f.others ∙ f.left) in
      subst (λ (n : ℕ). own k n us ≡ own k n (f.front ++ f.back)) (eqb-true u.tran s p.1)
      (subst (λ (n : ℕ). own n u.tran us ≡ own n u.tran (f.front ++ f.back)) (eqb-true u.member k p.0) here))
  | inr other ↦ (
      let first : own k s (u ∷ us) ≡ own k s us = ap (λ (b : Bool). own_if b u (own k s us)) other in
      let behind : own k s (u ∷ f.back) ≡ own k s f.back = ap (λ (b : Bool). own_if b u (own k s f.back)) other in
      sym first ∙ h k s ∙ ap (own k s) f.split ∙ filter-append (is_of k s) f.front (u ∷ f.back)
      ∙ ap (λ (l : List Undo). own k s f.front ++ l) behind ∙ sym (filter-append (is_of k s) f.front f.back))
]

same_length : (us vs : List Undo) → AreSame us vs → length us ≡ length vs
same_length [] [] h = refl
same_length [] (v ∷ vs) h =
    let e : [] ≡ v ∷ own v.member v.tran vs = h v.member v.tran ∙ ap (λ (b : Bool). own_if b v (own v.member v.tran vs)) (is_own v) in
    absurd (let no : ⊥ = cc in no)
same_length (u ∷ us) vs h =
    let e : u ∷ own u.member u.tran us ≡ own u.member u.tran vs = sym (ap (λ (b : Bool). own_if b u (own u.member u.tran us)) (is_own u)) ∙ h u.member u.tran in
    let f = first_in (is_of u.member u.tran) u (own u.member u.tran us) vs e in
    let ih = same_length us (f.front ++ f.back) (rest_same u us vs h f) in
    let fewer : length (f.front ++ f.back) ≡ length f.front + length f.back = length-append f.front f.back in
    let all : length vs ≡ length f.front + suc (length f.back) = ap (λ (l : List Undo). length l) f.split ∙ length-append f.front (u ∷ f.back) in
    omega (arith, ih, fewer, all)

pub as_long : (logs : List Log) (us vs : List Undo) → QueueFits logs us → QueueFits logs vs → length us ≡ length vs
as_long logs us vs f g = same_length us vs (λ m t. same_if logs m t (own m t us) (own m t vs) (f m t) (g m t))
