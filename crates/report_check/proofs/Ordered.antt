-- Entries in order: a front of committed ones, and the others behind it.
use Rattle.std.proofs.Common.{◌≡◌, ℕ, suc, ◌+◌, ◌<◌, ◌≤◌, Bool, true, false, cond, List, [], ◌∷◌, ◌++◌, length, get_or, take, drop, map, refl, sym, ap, subst, ◌∙◌, arith}
use Rattle.std.proofs.lemmas.List.{drop_more, drop_all, drop_at, take-append-drop}
use Rattle.std.specs.List.{AllByRecursion}
use Rattle.ds_model.specs.declared.history.Entry.{Entry}
use Rattle.ds_model.specs.History.{is_committed, RiseAbove, IsInOrder}
use Rattle.report_check.specs.Order.{front_of, AreOthers}

-- from this number and these entries on it goes on to the answer
pub record GoesOn (all : List Entry) (last : ℕ) (left : List Entry) : Type 0 where
  pub whole : AreOthers last left → AreOthers 0 all
  pub needed : AreOthers 0 all → AreOthers last left

pub begins : (all : List Entry) → GoesOn all 0 all
begins all = record { whole = λ h. h; needed = λ h. h }

pub one_more : (all : List Entry) (last i : ℕ) (d : Entry) → GoesOn all last (drop i all) → i < length all → is_committed (get_or all i d).fate ≡ false → last < (get_or all i d).tran.number
    → GoesOn all (get_or all i d).tran.number (drop (i + 1) all)
one_more all last i d g below other rises =
    let here : GoesOn all last (get_or all i d ∷ drop (i + 1) all) = subst (GoesOn all last) (drop_more all i d below) g in
    record { whole = λ rest. here.whole (other, rises, rest); needed = λ whole. (here.needed whole).2 }

pub stops : (all : List Entry) (last i : ℕ) (d : Entry) → GoesOn all last (drop i all) → i < length all → (is_committed (get_or all i d).fate ≡ false → last < (get_or all i d).tran.number → ⊥) → AreOthers 0 all → ⊥
stops all last i d g below wrong whole =
    let here : GoesOn all last (get_or all i d ∷ drop (i + 1) all) = subst (GoesOn all last) (drop_more all i d below) g in
    wrong (here.needed whole).0 (here.needed whole).1

pub ends : (all : List Entry) (last i : ℕ) → GoesOn all last (drop i all) → length all ≤ i → AreOthers 0 all
ends all last i g past = let over : GoesOn all last [] = subst (GoesOn all last) (drop_all i all past) g in over.whole tt

-- ---- against the model

abbrev Done : List Entry → Type 0
Done es = AllByRecursion (λ (e : Entry). is_committed e.fate ≡ true) es

abbrev Others : List Entry → Type 0
Others es = AllByRecursion (λ (e : Entry). is_committed e.fate ≡ false) es

abbrev numbers : List Entry → List ℕ
numbers es = map (λ (e : Entry). e.tran.number) es

others_are : (low : ℕ) (es : List Entry) → Others es → RiseAbove low (numbers es) → AreOthers low es
others_are low [] h r = tt
others_are low (e ∷ es) h r = (h.0, r.0, others_are e.tran.number es h.1 r.1)

are_none : (low : ℕ) (es : List Entry) → AreOthers low es → Others es
are_none low [] h = tt
are_none low (e ∷ es) h = (h.0, are_none e.tran.number es h.2)

they_rise : (low : ℕ) (es : List Entry) → AreOthers low es → RiseAbove low (numbers es)
they_rise low [] h = tt
they_rise low (e ∷ es) h = (h.1, they_rise e.tran.number es h.2)

front_when : (b : Bool) (e : Entry) (es : List Entry) → is_committed e.fate ≡ b → Done (take (front_of es) es) → Done (take (cond b (suc (front_of es)) 0) (e ∷ es))
front_when true e es is h = (is, h)
front_when false e es is h = tt

front_is_done : (es : List Entry) → Done (take (front_of es) es)
front_is_done [] = tt
front_is_done (e ∷ es) = front_when (is_committed e.fate) e es refl (front_is_done es)

one_longer : (d : Entry) (l : List Entry) → suc (length l) ≡ length (d ∷ l)
one_longer d l = grind arith

-- committed ones before others are the front
front_whole : (ds os : List Entry) → Done ds → Others os → front_of (ds ++ os) ≡ length ds
front_whole [] [] h g = refl
front_whole [] (o ∷ os) h g = ap (λ b. cond b (suc (front_of os)) 0) g.0
front_whole (d ∷ ds) os h g = ap (λ b. cond b (suc (front_of (ds ++ os))) 0) h.0 ∙ ap suc (front_whole ds os h.1 g) ∙ one_longer d ds

pub in_order_yes : (es : List Entry) → AreOthers 0 (drop (front_of es) es) → IsInOrder es
in_order_yes es h = record {
  committed = take (front_of es) es;
  others = drop (front_of es) es;
  whole = sym (take-append-drop (front_of es) es);
  first = front_is_done es;
  last = are_none 0 (drop (front_of es) es) h;
  by_number = they_rise 0 (drop (front_of es) es) h;
}

pub in_order_needs : (es : List Entry) → IsInOrder es → AreOthers 0 (drop (front_of es) es)
in_order_needs es h =
    let n : front_of es ≡ length h.committed = ap front_of h.whole ∙ front_whole h.committed h.others h.first h.last in
    let rest : drop (front_of es) es ≡ h.others = ap (λ m. drop m es) n ∙ ap (drop (length h.committed)) h.whole ∙ drop_at h.committed h.others (length h.committed) refl in
    subst (AreOthers 0) (sym rest) (others_are 0 h.others h.last h.by_number)
