-- Walks along the pairs, and what keeps them from coming back.
use Rattle.std.proofs.Common.{◌≡◌, ◌<◌, ◌≤◌, ℕ, Bool, true, false, List, [], ◌∷◌, ◌++◌, get_or, length, refl, sym, ap, subst, ◌∙◌, arith}
use Rattle.std.specs.Prelude.{◌&&◌, ◌||◌, slice_get, Some, nat_le}
use Rattle.std.specs.List.{list_all, list_any, IsDistinct}
use Rattle.std.specs.Cmp.{IsEquivalence}
use Rattle.std.proofs.lemmas.Map.Keys.{IsDistinct-push}
use Rattle.std.proofs.lemmas.List.Folds.{list_any-append}
use Rattle.ds_base.specs.declared.names.TranId.{TranId}
use Rattle.list_structure.specs.declared.wait.Wait.{Wait}
use Rattle.deadlock_cycle.specs.Cycles.{same_tran, waits_for, is_walk, IsCycle}
use Rattle.deadlock_cycle.specs.Steps.{step_at, no_step, GoesBack, GoesToFirst, IsFirst, LeadsTo}
use Rattle.std.proofs.lemmas.List.{get_or_default}
use Rattle.deadlock_cycle.specs.declared.step.Step.{Step}
use Rattle.deadlock_cycle.proofs.Lists.{same_self, same_is}

pub and_left : (a b : Bool) → (a && b) ≡ true → a ≡ true
and_left true b h = refl
and_left false b h = h

pub and_right : (a b : Bool) → (a && b) ≡ true → b ≡ true
and_right true b h = h
and_right false b h = cc

pub both : (a b : Bool) → a ≡ true → b ≡ true → (a && b) ≡ true
both true b h k = k
both false b h k = h

first_push : (xs : List TranId) (b c : TranId) → get_or (xs ++ b ∷ []) 0 c ≡ get_or xs 0 b
first_push [] b c = refl
first_push (x ∷ xs) b c = refl

pub walk_push : (waits : List Wait) (xs : List TranId) (b c : TranId) → is_walk waits xs b ≡ true → waits_for waits b c ≡ true → is_walk waits (xs ++ b ∷ []) c ≡ true
walk_push waits [] b c h e = both _ _ e refl
walk_push waits (x ∷ xs) b c h e =
    both _ _ (ap (waits_for waits x) (first_push xs b c) ∙ and_left _ _ h) (walk_push waits xs b c (and_right _ _ h) e)

pub below_push : (top : ℕ) (xs : List TranId) (b : TranId) → list_all (λ t. nat_le t.number top) xs ≡ true → nat_le b.number top ≡ true → list_all (λ t. nat_le t.number top) (xs ++ b ∷ []) ≡ true
below_push top [] b h e = both _ _ e refl
below_push top (x ∷ xs) b h e = both _ _ (and_left _ _ h) (below_push top xs b (and_right _ _ h) e)

pub begins_push : (xs : List TranId) (b t : TranId) → slice_get xs 0 ≡ Some t → slice_get (xs ++ b ∷ []) 0 ≡ Some t
begins_push [] b t h = cc
begins_push (x ∷ xs) b t h = h

-- a walk from `tran` to another transaction, over no higher number
pub record IsWalk (waits : List Wait) (tran : TranId) (walk : List TranId) (end : TranId) : Type 0 where
  pub begins : slice_get walk 0 ≡ Some tran
  pub goes : is_walk waits walk end ≡ true
  pub below : list_all (λ t. nat_le t.number tran.number) walk ≡ true

module _ (waits : List Wait) (tran : TranId) where
  pub first_walk : (end : TranId) → waits_for waits tran end ≡ true → IsWalk waits tran (tran ∷ []) end
  first_walk end h = record { begins = refl; goes = both _ _ h refl; below = grind arith }

  pub longer_walk : (walk : List TranId) (b c : TranId) → IsWalk waits tran walk b → waits_for waits b c ≡ true → nat_le b.number tran.number ≡ true → IsWalk waits tran (walk ++ b ∷ []) c
  longer_walk walk b c h e n = record {
    begins = begins_push walk b tran h.begins;
    goes = walk_push waits walk b c h.goes e;
    below = below_push tran.number walk b h.below n;
  }

  pub closed_walk : (walk : List TranId) (end : TranId) → end ≡ tran → IsWalk waits tran walk end → IsCycle waits tran walk
  closed_walk walk end e h = record { begins = h.begins; returns = subst (λ t. is_walk waits walk t ≡ true) e h.goes; highest = h.below }

  module _ (reached : TranId → Bool) (closed : (a b : TranId) → waits_for waits a b ≡ true → nat_le a.number tran.number ≡ true → reached b ≡ true → (reached a ≡ true) × (same_tran a tran ≡ false)) where
    -- what leads to a reached transaction is reached, and isn't `tran`
    along : (t : TranId) (rest : List TranId) (end : TranId) → reached end ≡ true → is_walk waits (t ∷ rest) end ≡ true → list_all (λ u. nat_le u.number tran.number) (t ∷ rest) ≡ true → (reached t ≡ true) × (same_tran t tran ≡ false)
    along t [] end i w h = closed t end (and_left _ _ w) (and_left _ _ h) i
    along t (u ∷ rest) end i w h = closed t u (and_left _ _ w) (and_left _ _ h) ((along u rest end i (and_right _ _ w) (and_right _ _ h)).0)

    pub no_cycle : reached tran ≡ true → (cycle : List TranId) → IsCycle waits tran cycle → ⊥
    no_cycle i [] c = let b = c.begins in cc
    no_cycle i (t ∷ rest) c =
        let e : t ≡ tran = let b = c.begins in cc in
        let no : same_tran t tran ≡ false = (along t rest tran i c.returns c.highest).1 in
        let yes : same_tran t tran ≡ true = subst (λ u. same_tran t u ≡ true) e (same_self t) in
        cc

-- one step further back
module _ (steps : List Step) (at : ℕ) (step : Step) (positive : 0 < at) (there : at < length steps) (is : step ≡ get_or steps at step) (back : GoesBack steps) where
  pub step_is : step_at steps at ≡ step
  step_is = get_or_default steps at no_step step there ∙ sym is

  pub step_back : step.next < at
  step_back = subst (λ s. s.next < at) step_is (back at positive there)

  pub step_walk : (waits : List Wait) (tran : TranId) (walk longer : List TranId) → longer ≡ walk ++ step.at ∷ [] → LeadsTo waits tran steps → IsWalk waits tran walk (step_at steps at).at → IsWalk waits tran longer (step_at steps step.next).at
  step_walk waits tran walk longer e leads h =
      subst (λ w. IsWalk waits tran w (step_at steps step.next).at) (sym e)
      (longer_walk waits tran walk step.at (step_at steps step.next).at
      (subst (λ s. IsWalk waits tran walk s.at) step_is h)
      (subst (λ s. waits_for waits s.at (step_at steps s.next).at ≡ true) step_is (leads.waits_on at positive there))
      (subst (λ s. nat_le s.at.number tran.number ≡ true) step_is (leads.below at positive there)))

-- ---- no transaction twice

same_swap : (a b : TranId) → same_tran a b ≡ same_tran b a
same_swap a b = grind arith

same_follows : (a b c : TranId) → same_tran a b ≡ true → same_tran a c ≡ same_tran b c
same_follows a b c h = ap (λ t. same_tran t c) (same_is a b h)

same_laws : IsEquivalence same_tran
same_laws = record { refl = same_self; symm = same_swap; congr = same_follows }

-- the first steps up to this one are of transactions that aren't in the list
abbrev pub NotYet : List Step → ℕ → List TranId → Type 0
NotYet steps at walk = (n : ℕ) → 0 < n → n ≤ at → IsFirst steps n → list_any (same_tran (step_at steps n).at) walk ≡ false

alone : (t : TranId) → IsDistinct same_tran (t ∷ [])
unfolding IsDistinct
alone t = (tt, tt)

not_yet_start : (steps : List Step) (from : ℕ) → NotYet steps from ((step_at steps 0).at ∷ [])
not_yet_start steps from n p h first = ap (λ s. s || false) (same_swap (step_at steps n).at (step_at steps 0).at ∙ first 0 p)

walk_start : (steps : List Step) (from : ℕ) (waits : List Wait) (tran : TranId) → LeadsTo waits tran steps → waits_for waits tran (step_at steps from).at ≡ true → IsWalk waits tran ((step_at steps 0).at ∷ []) (step_at steps from).at
walk_start steps from waits tran leads h =
    subst (λ t. IsWalk waits tran (t ∷ []) (step_at steps from).at) (sym leads.first) (first_walk waits tran (step_at steps from).at h)

-- what the loop that reads the steps keeps
pub record IsRead (steps : List Step) (from at : ℕ) (walk : List TranId) : Type 0 where
  pub there : at < length steps
  pub first : IsFirst steps at
  pub not_yet : NotYet steps at walk
  pub once : IsDistinct same_tran walk
  pub walks : (waits : List Wait) (tran : TranId) → LeadsTo waits tran steps → waits_for waits tran (step_at steps from).at ≡ true → IsWalk waits tran walk (step_at steps at).at

pub read_start : (steps : List Step) (from : ℕ) (walk : List TranId) → from < length steps → IsFirst steps from → walk ≡ (step_at steps 0).at ∷ [] → IsRead steps from from walk
read_start steps from walk there first e =
    subst (IsRead steps from from) (sym e)
    (record { there = there; first = first; not_yet = not_yet_start steps from; once = alone (step_at steps 0).at; walks = walk_start steps from })

both_false : (a b : Bool) → a ≡ false → b ≡ false → (a || b) ≡ false
both_false false b h k = k
both_false true b h k = cc

pub not_yet_next : (steps : List Step) (at next : ℕ) (t : TranId) (walk longer : List TranId) → next < at → t ≡ (step_at steps at).at → longer ≡ walk ++ t ∷ [] → IsFirst steps at → NotYet steps at walk → NotYet steps next longer
not_yet_next steps at next t walk longer lower is e first not_yet n p h own =
    ap (list_any (same_tran (step_at steps n).at)) e
    ∙ list_any-append (same_tran (step_at steps n).at) walk (t ∷ [])
    ∙ both_false _ _ (not_yet n p (omega arith) own) (both_false _ _ (ap (same_tran (step_at steps n).at) is ∙ first n (omega arith)) refl)

pub distinct_next : (steps : List Step) (at : ℕ) (t : TranId) (walk longer : List TranId) → 0 < at → t ≡ (step_at steps at).at → longer ≡ walk ++ t ∷ [] → IsFirst steps at → NotYet steps at walk → IsDistinct same_tran walk → IsDistinct same_tran longer
distinct_next steps at t walk longer p is e first not_yet h =
    subst (IsDistinct same_tran) (sym e) (IsDistinct-push same_laws walk t h (ap (λ u. list_any (same_tran u) walk) is ∙ not_yet at p (omega arith) first))

pub read_next : (steps : List Step) (from at : ℕ) (step : Step) (walk longer : List TranId) → 0 < at → step ≡ get_or steps at step → GoesBack steps → GoesToFirst steps → longer ≡ walk ++ step.at ∷ [] → IsRead steps from at walk → IsRead steps from step.next longer
read_next steps from at step walk longer positive read back firsts e k =
    let is : step ≡ step_at steps at = sym (step_is steps at step positive k.there read back) in
    let lower : step.next < at = step_back steps at step positive k.there read back in
    record {
      there = omega (arith, k.there, lower);
      first = subst (λ s. IsFirst steps s.next) (sym is) (firsts at positive k.there);
      not_yet = not_yet_next steps at step.next step.at walk longer lower (ap (λ s. s.at) is) e k.first k.not_yet;
      once = distinct_next steps at step.at walk longer positive (ap (λ s. s.at) is) e k.first k.not_yet k.once;
      walks = λ waits tran leads h. step_walk steps at step positive k.there read back waits tran walk longer e leads (k.walks waits tran leads h);
    }
