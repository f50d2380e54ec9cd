-- The spelling of records, one list behind the other.
use Rattle.std.proofs.Common.{◌≡◌, ℕ, ◌+◌, ◌-◌, ◌<◌, ◌≤◌, refl, sym, ◌∙◌, ap, arith, inl, inr, List, [], ◌∷◌, ◌++◌, append_assoc, length, take, drop, Result, Ok, Err, length-append}
use Rattle.std.specs.Prelude.{◌⊎◌}
use Rattle.std.specs.List.{AllByRecursion}
use Rattle.std.proofs.lemmas.Bool.{cases_lt}
use Rattle.std.proofs.lemmas.List.{append_cancel_left, drop_at, take-append-le, take_all, take_at}
use Rattle.std.proofs.lemmas.List.Concat.{flat_map-append}
use Rattle.std.proofs.Math.Seq.{take-add}
use Rattle.ds_model.specs.Logs.{IsTorn}
use Rattle.ds_model.specs.RecordBytes.{IsAllowed, log_bytes, record_bytes}
use Rattle.ds_model.specs.declared.log.LogRecord.{LogRecord}
use Rattle.log_record.specs.Reading.{record_in}
use Rattle.log_record.specs.declared.fault.RecordFault.{RecordFault}
use Rattle.log_record.specs.declared.fault.RecordFault.TheVariants.{NotWhole}
use Rattle.log_head.specs.Laws.{NothingIsShort}
use Rattle.log_appends.specs.Appends.{AppendsAreWhole}

-- every spelling is read, whatever follows it; a front of one isn't whole
abbrev pub ReadAgain : Type 0
ReadAgain = (r : LogRecord) (rest : List ℕ) → IsAllowed r → record_in (record_bytes r ++ rest) ≡ Ok (r, length (record_bytes r))

abbrev pub FrontIsCut : Type 0
FrontIsCut = (r : LogRecord) (n : ℕ) → IsAllowed r → n < length (record_bytes r) → record_in (take n (record_bytes r)) ≡ Err NotWhole

-- ---- lists
pub both_all : {A : Type 0} → (P : A → Type 0) (xs ys : List A) → AllByRecursion P xs → AllByRecursion P ys → AllByRecursion P (xs ++ ys)
both_all P [] ys h k = k
both_all P (x ∷ xs) ys h k = (h.0, both_all P xs ys h.1 k)

pub front_all : {A : Type 0} → (P : A → Type 0) (xs ys : List A) → AllByRecursion P (xs ++ ys) → AllByRecursion P xs
front_all P [] ys h = tt
front_all P (x ∷ xs) ys h = (h.0, front_all P xs ys h.1)

pub back_all : {A : Type 0} → (P : A → Type 0) (xs ys : List A) → AllByRecursion P (xs ++ ys) → AllByRecursion P ys
back_all P [] ys h = h
back_all P (x ∷ xs) ys h = back_all P xs ys h.1

pub both_bytes : (a b : List LogRecord) → log_bytes (a ++ b) ≡ log_bytes a ++ log_bytes b
both_bytes a b = flat_map-append record_bytes a b

pub whole_again : AppendsAreWhole
whole_again log new whole allowed = record {
  records = whole.records ++ new;
  spelled = ap (λ (z : List ℕ). z ++ log_bytes new) whole.spelled ∙ sym (both_bytes whole.records new);
  allowed = both_all IsAllowed whole.records new whole.allowed allowed;
}

-- ---- what stops inside
pub torn_short : FrontIsCut → NothingIsShort → (t : List ℕ) → IsTorn t → record_in t ≡ Err NotWhole
torn_short cut none t (inl e) = ap record_in e ∙ none
torn_short cut none t (inr (r, allowed, n, less, e)) = ap record_in e ∙ cut r n allowed less

-- the first records of a front of spelled records, and what is left of one more
pub record Front (new : List LogRecord) (n : ℕ) : Type 0 where
  pub front : List LogRecord
  pub rest : List LogRecord
  pub tail : List ℕ
  pub split : new ≡ front ++ rest
  pub bytes : take n (log_bytes new) ≡ log_bytes front ++ tail
  pub torn : IsTorn tail
  pub all : length (log_bytes new) ≤ n → front ≡ new

more_front : (r : LogRecord) (new : List LogRecord) (n k : ℕ) → n ≡ length (record_bytes r) + k → Front new k → Front (r ∷ new) n
more_front r new n k at f = record {
  front = r ∷ f.front;
  rest = f.rest;
  tail = f.tail;
  split = ap (λ (z : List LogRecord). r ∷ z) f.split;
  bytes = ap (λ (z : ℕ). take z (record_bytes r ++ log_bytes new)) at
      ∙ take_past (record_bytes r) (log_bytes new) k
      ∙ ap (λ (z : List ℕ). record_bytes r ++ z) f.bytes
      ∙ sym (append_assoc (record_bytes r) (log_bytes f.front) f.tail);
  torn = f.torn;
  all = λ le. ap (λ (z : List LogRecord). r ∷ z) (f.all (let long = length-append (record_bytes r) (log_bytes new) in omega (arith, le, long, at)));
}
  where
    take_past : (a b : List ℕ) (k : ℕ) → take (length a + k) (a ++ b) ≡ a ++ take k b
    take_past a b k = take-add (length a) k (a ++ b) ∙ ap (λ (z : List ℕ). z ++ take k (drop (length a) (a ++ b))) (take_at a b (length a) refl) ∙ ap (λ (z : List ℕ). a ++ take k z) (drop_at a b (length a) refl)

-- the first record isn't whole, or it is
one_front : (r : LogRecord) (new : List LogRecord) (n : ℕ) → IsAllowed r → Front new (n - length (record_bytes r)) → (n < length (record_bytes r)) ⊎ (length (record_bytes r) ≤ n) → Front (r ∷ new) n
one_front r new n allowed f (inl less) = record {
  front = [];
  rest = r ∷ new;
  tail = take n (record_bytes r);
  split = refl;
  bytes = take-append-le n (record_bytes r) (log_bytes new) (omega (arith, less));
  torn = inr (r, allowed, n, less, refl);
  all = λ le. absurd (let long = length-append (record_bytes r) (log_bytes new) in omega (arith, le, long, less));
}
one_front r new n allowed f (inr more) = more_front r new n (n - length (record_bytes r)) (omega (arith, more)) f

pub front_of : (new : List LogRecord) (n : ℕ) → AllByRecursion IsAllowed new → Front new n
front_of [] n allowed = record { front = []; rest = []; tail = []; split = refl; bytes = take_all n [] (omega arith); torn = inl refl; all = λ _. refl }
front_of (r ∷ new) n allowed = one_front r new n allowed.0 (front_of new (n - length (record_bytes r)) allowed.1) (cases_lt n (length (record_bytes r)))

-- ---- one spelling behind another
abbrev first_in : LogRecord → Result (LogRecord × ℕ) RecordFault → LogRecord
first_in other (Ok x) = x.0
first_in other (Err fault) = other

pub same_first : (x : Result (LogRecord × ℕ) RecordFault) (r q : LogRecord) (n m : ℕ) → x ≡ Ok (r, n) → x ≡ Ok (q, m) → r ≡ q
same_first x r q n m e f = ap (λ (z : Result (LogRecord × ℕ) RecordFault). first_in r z) (sym e ∙ f)

never_both : (x : LogRecord × ℕ) → Ok x ≡ Err NotWhole → ⊥
never_both x e = cc

-- where whole records and a rest spell what other whole records and what is none do, these begin with those, and the rest has what is left
pub record Behind (records first : List LogRecord) (tail left : List ℕ) : Type 0 where
  pub behind : List LogRecord
  pub split : records ≡ first ++ behind
  pub bytes : left ≡ log_bytes behind ++ tail

module _ (again : ReadAgain) (cut : FrontIsCut) (none : NothingIsShort) where
  pub split_off : (first records : List LogRecord) (tail left : List ℕ)
      → AllByRecursion IsAllowed first → AllByRecursion IsAllowed records → record_in tail ≡ Err NotWhole → log_bytes records ++ tail ≡ log_bytes first ++ left → Behind records first tail left
  split_off [] records tail left a b short e = record { behind = records; split = refl; bytes = sym e }
  split_off (r ∷ first) [] tail left a b short e =
      let whole : record_in tail ≡ Ok (r, length (record_bytes r)) =
      ap record_in (e ∙ append_assoc (record_bytes r) (log_bytes first) left) ∙ again r (log_bytes first ++ left) a.0 in
      absurd (never_both (r, length (record_bytes r)) (sym whole ∙ short))
  split_off (r ∷ first) (q ∷ records) tail left a b short e =
      let e2 : record_bytes q ++ (log_bytes records ++ tail) ≡ record_bytes r ++ (log_bytes first ++ left) =
      sym (append_assoc (record_bytes q) (log_bytes records) tail) ∙ e ∙ append_assoc (record_bytes r) (log_bytes first) left in
      let same : q ≡ r = same_first (record_in (record_bytes q ++ (log_bytes records ++ tail))) q r (length (record_bytes q)) (length (record_bytes r))
      (again q (log_bytes records ++ tail) b.0) (ap record_in e2 ∙ again r (log_bytes first ++ left) a.0) in
      let e3 : record_bytes r ++ (log_bytes records ++ tail) ≡ record_bytes r ++ (log_bytes first ++ left) =
      ap (λ (z : LogRecord). record_bytes z ++ (log_bytes records ++ tail)) (sym same) ∙ e2 in
      next same (split_off first records tail left a.1 b.1 short (append_cancel_left (record_bytes r) (log_bytes records ++ tail) (log_bytes first ++ left) e3))
    where
      next : q ≡ r → Behind records first tail left → Behind (q ∷ records) (r ∷ first) tail left
      next same k = record {
        behind = k.behind;
        split = ap (λ (z : LogRecord). z ∷ records) same ∙ ap (λ (z : List LogRecord). r ∷ z) k.split;
        bytes = k.bytes;
      }

  -- spelled records, and what is none, begin with a record only if there is one, and then with that
  pub begins_with : (records : List LogRecord) (tail : List ℕ) (made : LogRecord) (size : ℕ)
      → AllByRecursion IsAllowed records → record_in tail ≡ Err NotWhole → record_in (log_bytes records ++ tail) ≡ Ok (made, size)
      → (more : List LogRecord) × (records ≡ made ∷ more)
  begins_with [] tail made size a short e = absurd (never_both (made, size) (sym e ∙ short))
  begins_with (r ∷ records) tail made size a short e =
      let here : record_in (record_bytes r ++ log_bytes records ++ tail) ≡ Ok (r, length (record_bytes r)) =
      ap record_in (append_assoc (record_bytes r) (log_bytes records) tail) ∙ again r (log_bytes records ++ tail) a.0 in
      (records, ap (λ (z : LogRecord). z ∷ records) (same_first (record_in (record_bytes r ++ log_bytes records ++ tail)) r made (length (record_bytes r)) size here e))

  -- no record is without bytes
  pub some_bytes : (r : LogRecord) (records : List LogRecord) → IsAllowed r → log_bytes (r ∷ records) ≡ [] → ⊥
  some_bytes r records allowed e = never_both (r, length (record_bytes r)) (sym (again r (log_bytes records) allowed) ∙ ap record_in e ∙ none)
