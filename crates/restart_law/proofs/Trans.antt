-- The transactions that are left open, as they come and go.
use Rattle.std.proofs.Common.{◌≡◌, ℕ, zero, suc, ◌+◌, ◌-◌, ◌≤◌, refl, sym, ◌∙◌, ap, subst, arith, Bool, true, false, List, [], ◌∷◌, ◌++◌, length, Option, Some, None}
use Rattle.std.specs.Prelude.{map, ◌^◌, ◌&&◌, ◌==◌, not, min, IfSome, if◌then◌else◌, slice_get, slice_set}
use Rattle.std.specs.List.{AllByRecursion}
use Rattle.std.proofs.lemmas.Bool.{both_ways}
use Rattle.ds_model.specs.declared.lock.Name.{Name}
use Rattle.ds_model.specs.declared.log.LogRecord.{LogRecord}
use Rattle.log_trans.specs.declared.opened.OpenTran.{OpenTran}
use Rattle.log_rows.specs.Rows.{IsOpenIn}
use Rattle.restart_records.specs.declared.trans.RestartStage.{RestartStage}
use Rattle.restart_records.specs.declared.trans.RestartStage.TheVariants as stage
use Rattle.restart_records.specs.declared.trans.RestartTran.{RestartTran}
use Rattle.restart_records.specs.Maps.{place_at, with_place}
use Rattle.restart_records.specs.Trans.{TransState, added, after_back, after_back_at, after_end, after_end_at, after_finish, after_finish_at, all_added, ended_at, ended_from, ending_in, is_open, is_open_stage, no_trans, over_at, over_from, taken_back, taken_back_from, tran_at, tran_in}
use Rattle.restart_law.specs.Opens.{GoOn, IsEnding, is_over, needs_among, needs_by, needs_left, needs_still}

same_some : (a b : RestartTran) → Some a ≡ Some b → a ≡ b
same_some a b e = cc

-- the list beside the records that were read
abbrev pub AreFrom : List LogRecord → List RestartTran → Type 0
AreFrom records list = AllByRecursion (λ (x : RestartTran). IsOpenIn records x.tran) list

-- what is left needs no name more often, and is from the log still
pub record Less (records : List LogRecord) (t u : TransState) : Type 0 where
  pub needs : (n : Name) → needs_left n u.list ≤ needs_left n t.list
  pub from_log : AreFrom records t.list → AreFrom records u.list
  pub ending : IsEnding t → IsEnding u
  pub goes : GoOn t.list u.list

pub go_on : (list : List RestartTran) → GoOn list list
go_on [] = tt
go_on (x ∷ xs) = ((refl, λ e. e), go_on xs)

pub go_on_on : (a b c : List RestartTran) → GoOn a b → GoOn b c → GoOn a c
go_on_on [] [] [] p q = tt
go_on_on [] [] (z ∷ zs) p q = q
go_on_on [] (y ∷ ys) c p q = absurd p
go_on_on (x ∷ xs) [] c p q = absurd p
go_on_on (x ∷ xs) (y ∷ ys) [] p q = absurd q
go_on_on (x ∷ xs) (y ∷ ys) (z ∷ zs) p q = ((q.0.0 ∙ p.0.0, λ e. q.0.1 (p.0.1 e)), go_on_on xs ys zs p.1 q.1)

set_goes : (list : List RestartTran) (at : ℕ) (x y : RestartTran) → slice_get list at ≡ Some x → y.tran ≡ x.tran → (is_over x.stage ≡ true → is_over y.stage ≡ true) → GoOn list (slice_set list at y)
set_goes [] at x y is same over = tt
set_goes (z ∷ zs) zero x y is same over = ((same ∙ sym (ap (λ (w : RestartTran). w.tran) (same_some z x is)), λ e. over (ap (λ (w : RestartTran). is_over w.stage) (sym (same_some z x is)) ∙ e)), go_on zs)
set_goes (z ∷ zs) (suc at) x y is same over = ((refl, λ e. e), set_goes zs at x y is same over)

pub less : (records : List LogRecord) (t : TransState) → Less records t t
less records t = record { needs = λ n. omega arith; from_log = λ f. f; ending = λ e. e; goes = go_on t.list }

pub less_on : (records : List LogRecord) (t u v : TransState) → Less records t u → Less records u v → Less records t v
less_on records t u v a b = record {
  needs = λ n. let p = a.needs n in let q = b.needs n in omega arith;
  from_log = λ f. b.from_log (a.from_log f);
  ending = λ e. b.ending (a.ending e);
  goes = go_on_on t.list u.list v.list a.goes b.goes;
}

-- ---- one of them is changed
set_needs : (n : Name) (list : List RestartTran) (at : ℕ) (x y : RestartTran) → slice_get list at ≡ Some x → needs_still n y + needs_left n list ≡ needs_still n x + needs_left n (slice_set list at y)
set_needs n [] at x y is = absurd cc
set_needs n (z ∷ zs) zero x y is = let e : z ≡ x = same_some z x is in subst (λ (w : RestartTran). needs_still n y + (needs_still n z + needs_left n zs) ≡ needs_still n w + (needs_still n y + needs_left n zs)) e (omega arith)
set_needs n (z ∷ zs) (suc at) x y is = let rest = set_needs n zs at x y is in omega arith

set_from : (records : List LogRecord) (list : List RestartTran) (at : ℕ) (x y : RestartTran) → slice_get list at ≡ Some x → y.tran ≡ x.tran → AreFrom records list → AreFrom records (slice_set list at y)
set_from records [] at x y is same f = f
set_from records (z ∷ zs) zero x y is same f = (subst (λ (w : OpenTran). IsOpenIn records w) (ap (λ (w : RestartTran). w.tran) (same_some z x is) ∙ sym same) f.0, f.1)
set_from records (z ∷ zs) (suc at) x y is same f = (f.0, set_from records zs at x y is same f.1)

abbrev NotOver : RestartTran → Type 0
NotOver x = is_over x.stage ≡ false

set_get : (list : List RestartTran) (at k : ℕ) (y : RestartTran) → NotOver y → IfSome (slice_get list k) NotOver → IfSome (slice_get (slice_set list at y) k) NotOver
set_get [] at k y new old = old
set_get (z ∷ zs) zero zero y new old = new
set_get (z ∷ zs) zero (suc k) y new old = old
set_get (z ∷ zs) (suc at) zero y new old = old
set_get (z ∷ zs) (suc at) (suc k) y new old = set_get zs at k y new old

set_ending : (list : List RestartTran) (o : Option ℕ) (at : ℕ) (y : RestartTran) → NotOver y → IfSome o (λ k. IfSome (slice_get list k) NotOver) → IfSome o (λ k. IfSome (slice_get (slice_set list at y) k) NotOver)
set_ending list None at y new old = old
set_ending list (Some k) at y new old = set_get list at k y new old

-- one that needs as much as before, or less
changed : (records : List LogRecord) (t u : TransState) (at : ℕ) (x y : RestartTran) → slice_get t.list at ≡ Some x → y.tran ≡ x.tran → ((n : Name) → needs_still n y ≤ needs_still n x) → (is_over x.stage ≡ true → is_over y.stage ≡ true) → u.list ≡ slice_set t.list at y
    → (IsEnding t → IsEnding u) → Less records t u
changed records t u at x y is same fewer over e ending = record {
  needs = λ n. subst (λ (z : List RestartTran). needs_left n z ≤ needs_left n t.list) (sym e) (let p = set_needs n t.list at x y is in let q = fewer n in omega arith);
  from_log = λ f. subst (λ (z : List RestartTran). AreFrom records z) (sym e) (set_from records t.list at x y is same f);
  ending = ending;
  goes = subst (λ (z : List RestartTran). GoOn t.list z) (sym e) (set_goes t.list at x y is same over);
}

-- ---- a change of it is taken back
back_from : (records : List LogRecord) (t : TransState) (at : ℕ) (o : Option RestartTran) → slice_get t.list at ≡ o → Less records t (taken_back_from t at o)
back_from records t at None is = less records t
back_from records t at (Some x) is = record {
  needs = λ n. let p = set_needs n t.list at x (record x { stands = x.stands - 1 }) is in omega arith;
  from_log = set_from records t.list at x (record x { stands = x.stands - 1 }) is refl;
  ending = λ e. by_stage e;
  goes = set_goes t.list at x (record x { stands = x.stands - 1 }) is refl (λ e. e);
}
  where
    in_place : (list : List RestartTran) (k : ℕ) → slice_get list k ≡ Some x → (j : ℕ) → IfSome (slice_get list j) NotOver → IfSome (slice_get (slice_set list k (record x { stands = x.stands - 1 })) j) NotOver
    in_place [] k there j old = old
    in_place (z ∷ zs) zero there zero old = subst (λ (w : RestartTran). NotOver w) (same_some z x there) old
    in_place (z ∷ zs) zero there (suc j) old = old
    in_place (z ∷ zs) (suc k) there zero old = old
    in_place (z ∷ zs) (suc k) there (suc j) old = in_place zs k there j old

    by_option : (o : Option ℕ) → IfSome o (λ j. IfSome (slice_get t.list j) NotOver) → IfSome o (λ j. IfSome (slice_get (slice_set t.list at (record x { stands = x.stands - 1 })) j) NotOver)
    by_option None old = old
    by_option (Some j) old = in_place t.list at is j old

    by_stage : IsEnding t → IsEnding (taken_back_from t at (Some x))
    by_stage e = by_option t.ending e

back_at : (records : List LogRecord) (t : TransState) (o : Option ℕ) → Less records t (after_back_at t o)
back_at records t None = less records t
back_at records t (Some at) = back_from records t at (slice_get t.list at) refl

pub back : (records : List LogRecord) (t : TransState) (id : ℕ) → Less records t (after_back t id)
back records t id = back_at records t (place_at t.places id)

-- ---- its Ended record waits
open_stands : (x : RestartStage) → is_open_stage x ≡ true → is_over x ≡ false
open_stands stage.Open e = refl
open_stands stage.Ended e = absurd cc
open_stands stage.Over e = absurd cc

ended_needs : (n : Name) (x : RestartTran) → is_open x ≡ true → needs_still n (record x { stage = stage.Ended }) ≤ needs_still n x
ended_needs n x opened = subst (λ (b : Bool). needs_by n x.tran ≤ (if b then 0 else needs_by n x.tran)) (sym (open_stands x.stage opened)) (omega arith)

at_place : (list : List RestartTran) (at : ℕ) (y : RestartTran) → NotOver y → IfSome (slice_get (slice_set list at y) at) NotOver
at_place [] at y new = tt
at_place (z ∷ zs) zero y new = new
at_place (z ∷ zs) (suc at) y new = at_place zs at y new

ended_at_place : (records : List LogRecord) (t : TransState) (at : ℕ) (o : Option RestartTran) → slice_get t.list at ≡ o → IfSome o (λ x. is_open x ≡ true) → Less records t (ended_from t at o)
ended_at_place records t at None is opened = less records t
ended_at_place records t at (Some x) is opened =
    changed records t (ended_from t at (Some x)) at x (record x { stage = stage.Ended }) is refl (λ n. ended_needs n x opened) (λ e. absurd (both_ways (is_over x.stage) (open_stands x.stage opened) e)) refl
    (λ e. at_place t.list at (record x { stage = stage.Ended }) refl)

ended_in : (records : List LogRecord) (t : TransState) (o : Option ℕ) → IfSome (tran_at t o) (λ x. is_open x ≡ true) → Less records t (after_end_at t o)
ended_in records t None opened = less records t
ended_in records t (Some at) opened = ended_at_place records t at (slice_get t.list at) refl opened

-- of a transaction that is open
pub ends : (records : List LogRecord) (t : TransState) (id : ℕ) → IfSome (tran_in t id) (λ x. is_open x ≡ true) → Less records t (after_end t id)
ends records t id opened = ended_in records t (place_at t.places id) opened

-- one whose change was taken back is as open as it was
back_gets : (list : List RestartTran) (at k : ℕ) (x : RestartTran) → slice_get list at ≡ Some x → IfSome (slice_get list k) (λ z. is_open z ≡ true) → IfSome (slice_get (slice_set list at (record x { stands = x.stands - 1 })) k) (λ z. is_open z ≡ true)
back_gets [] at k x there old = old
back_gets (z ∷ zs) zero zero x there old = subst (λ (w : RestartTran). is_open w ≡ true) (same_some z x there) old
back_gets (z ∷ zs) zero (suc k) x there old = old
back_gets (z ∷ zs) (suc at) zero x there old = old
back_gets (z ∷ zs) (suc at) (suc k) x there old = back_gets zs at k x there old

open_from : (t : TransState) (at k : ℕ) (o : Option RestartTran) → slice_get t.list at ≡ o → IfSome (slice_get t.list k) (λ z. is_open z ≡ true) → IfSome (slice_get (taken_back_from t at o).list k) (λ z. is_open z ≡ true)
open_from t at k None is old = old
open_from t at k (Some x) is old = back_gets t.list at k x is old

open_at : (t : TransState) (o : Option ℕ) → IfSome (tran_at t o) (λ z. is_open z ≡ true) → IfSome (tran_at (after_back_at t o) o) (λ z. is_open z ≡ true)
open_at t None old = old
open_at t (Some at) old = open_from t at at (slice_get t.list at) refl old

back_places : (t : TransState) (at : ℕ) (o : Option RestartTran) → (taken_back_from t at o).places ≡ t.places
back_places t at None = refl
back_places t at (Some x) = refl

back_places_at : (t : TransState) (o : Option ℕ) → (after_back_at t o).places ≡ t.places
back_places_at t None = refl
back_places_at t (Some at) = back_places t at (slice_get t.list at)

pub still_open : (t : TransState) (id : ℕ) → IfSome (tran_in t id) (λ z. is_open z ≡ true) → IfSome (tran_in (after_back t id) id) (λ z. is_open z ≡ true)
still_open t id old = subst (λ (o : Option ℕ). IfSome (tran_at (after_back t id) o) (λ z. is_open z ≡ true)) (sym (ap (λ z. place_at z id) (back_places_at t (place_at t.places id)))) (open_at t (place_at t.places id) old)

-- ---- it is over
-- what is freed with it
abbrev pub freed_by : Name → Option RestartTran → ℕ
freed_by n None = 0
freed_by n (Some x) = needs_by n x.tran

-- is what it needed
pub record Frees (records : List LogRecord) (t u : TransState) (o : Option RestartTran) : Type 0 where
  pub needs : (n : Name) → needs_left n u.list + freed_by n o ≤ needs_left n t.list
  pub from_log : AreFrom records t.list → AreFrom records u.list
  pub ending : IsEnding u
  pub goes : GoOn t.list u.list

over_needs : (n : Name) (x : RestartTran) → NotOver x → needs_still n x ≡ needs_by n x.tran
over_needs n x e = ap (λ (b : Bool). if b then 0 else needs_by n x.tran) e

over_place : (records : List LogRecord) (t : TransState) (at : ℕ) (o : Option RestartTran) → slice_get t.list at ≡ o → IfSome o NotOver → Frees records t (over_from (record t { ending = None }) at o) o
over_place records t at None is stands = record { needs = λ n. omega arith; from_log = λ f. f; ending = tt; goes = go_on t.list }
over_place records t at (Some x) is stands = record {
  needs = λ n. let p = set_needs n t.list at x (record x { stage = stage.Over }) is in let q = over_needs n x stands in omega arith;
  from_log = set_from records t.list at x (record x { stage = stage.Over }) is refl;
  ending = tt;
  goes = set_goes t.list at x (record x { stage = stage.Over }) is refl (λ e. refl);
}

finish_at : (records : List LogRecord) (t : TransState) (o : Option ℕ) → t.ending ≡ o → IfSome o (λ at. IfSome (slice_get t.list at) NotOver) → Frees records t (after_finish_at t o) (tran_at t o)
finish_at records t None is stands = record { needs = λ n. omega arith; from_log = λ f. f; ending = subst (λ (z : Option ℕ). IfSome z (λ at. IfSome (slice_get t.list at) NotOver)) (sym is) tt; goes = go_on t.list }
finish_at records t (Some at) is stands = over_place records t at (slice_get t.list at) refl stands

pub finish : (records : List LogRecord) (t : TransState) → IsEnding t → Frees records t (after_finish t) (ending_in t)
finish records t stands = finish_at records t t.ending refl stands

-- ---- the log is read
last_needs : (n : Name) (list : List RestartTran) (x : RestartTran) → needs_left n (list ++ x ∷ []) ≡ needs_left n list + needs_still n x
last_needs n [] x = omega arith
last_needs n (z ∷ zs) x = let rest = last_needs n zs x in omega arith

last_from : (records : List LogRecord) (list : List RestartTran) (x : RestartTran) → AreFrom records list → IsOpenIn records x.tran → AreFrom records (list ++ x ∷ [])
last_from records [] x f new = (new, tt)
last_from records (z ∷ zs) x f new = (f.0, last_from records zs x f.1 new)

pub added_needs : (n : Name) (t : TransState) (os : List OpenTran) → needs_left n (all_added t os).list ≡ needs_left n t.list + needs_among n os
added_needs n t [] = omega arith
added_needs n t (o ∷ os) =
    let rest = added_needs n (added t o) os in
    let one = last_needs n t.list (record { tran = o; stands = length o.undo; stage = stage.Open }) in
    omega arith

pub added_from : (records : List LogRecord) (t : TransState) (os : List OpenTran) → AreFrom records t.list → AllByRecursion (IsOpenIn records) os → AreFrom records (all_added t os).list
added_from records t [] f new = f
added_from records t (o ∷ os) f new = added_from records (added t o) os (last_from records t.list (record { tran = o; stands = length o.undo; stage = stage.Open }) f new.0) new.1

pub added_ending : (t : TransState) (os : List OpenTran) → (all_added t os).ending ≡ t.ending
added_ending t [] = refl
added_ending t (o ∷ os) = added_ending (added t o) os

-- the transactions of the list are those of the log
pub added_are : (t : TransState) (os : List OpenTran) → map (λ (x : RestartTran). x.tran) (all_added t os).list ≡ map (λ (x : RestartTran). x.tran) t.list ++ os
added_are t [] = sym (none_behind (map (λ (x : RestartTran). x.tran) t.list))
  where
    none_behind : (xs : List OpenTran) → xs ++ [] ≡ xs
    none_behind [] = refl
    none_behind (x ∷ xs) = ap (λ (z : List OpenTran). x ∷ z) (none_behind xs)
added_are t (o ∷ os) = added_are (added t o) os ∙ (ap (λ (z : List OpenTran). z ++ os) (last_is t.list) ∙ moved (map (λ (x : RestartTran). x.tran) t.list))
  where
    last_is : (list : List RestartTran) → map (λ (x : RestartTran). x.tran) (list ++ record { tran = o; stands = length o.undo; stage = stage.Open } ∷ []) ≡ map (λ (x : RestartTran). x.tran) list ++ o ∷ []
    last_is [] = refl
    last_is (x ∷ xs) = ap (λ (z : List OpenTran). x.tran ∷ z) (last_is xs)

    moved : (xs : List OpenTran) → (xs ++ o ∷ []) ++ os ≡ xs ++ (o ∷ os)
    moved [] = refl
    moved (x ∷ xs) = ap (λ (z : List OpenTran). x ∷ z) (moved xs)
