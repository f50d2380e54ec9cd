-- The records that were taken of each log of all, and those that are left of it.
use Rattle.std.proofs.Common.{◌≡◌, ℕ, zero, suc, ◌<◌, max, Bool, false, List, [], ◌∷◌, ◌++◌, length, map, get_or, set, refl, sym, ap, ◌∙◌, arith, append_assoc}
use Rattle.std.specs.List.{AllByRecursion}
use Rattle.std.proofs.lemmas.List.{append-nil}
use Rattle.ds_model.specs.declared.log.LogRecord.{LogRecord}
use Rattle.log_heads.specs.Logs.{together}
use Rattle.log_trans.specs.Numbers.{greatest}
use Rattle.disk_walk.specs.Walks.{AreRead}
use Rattle.fitting_records.specs.Passed.{list_at, all_of, with_record}

-- ---- the records that were taken of each log, and those that are left

abbrev pub AreJoined : List (List LogRecord) → List (List LogRecord) → List (List LogRecord) → Type 0
AreJoined [] [] [] = Unit {0}
AreJoined [] [] (a ∷ all) = ⊥
AreJoined [] (l ∷ left) all = ⊥
AreJoined (w ∷ walked) [] all = ⊥
AreJoined (w ∷ walked) (l ∷ left) [] = ⊥
AreJoined (w ∷ walked) (l ∷ left) (a ∷ all) = (a ≡ w ++ l) × AreJoined walked left all

abbrev pub emptied : List (List LogRecord) → List (List LogRecord)
emptied [] = []
emptied (l ∷ ls) = [] ∷ emptied ls

pub joined_start : (all : List (List LogRecord)) → AreJoined (emptied all) all all
joined_start [] = tt
joined_start (l ∷ ls) = (refl, joined_start ls)

pub empty_start : (all : List (List LogRecord)) → AllByRecursion (λ (l : List LogRecord). l ≡ []) (emptied all)
empty_start [] = tt
empty_start (l ∷ ls) = (refl, empty_start ls)

pub joined_end : (walked left all : List (List LogRecord)) → AreJoined walked left all → AreRead left → walked ≡ all
joined_end [] [] [] j r = refl
joined_end [] [] (a ∷ all) j r = absurd j
joined_end [] (l ∷ left) all j r = absurd j
joined_end (w ∷ walked) [] all j r = absurd j
joined_end (w ∷ walked) (l ∷ left) [] j r = absurd j
joined_end (w ∷ walked) (l ∷ left) (a ∷ all) j r =
    let one : w ≡ a = sym (append-nil w) ∙ ap (λ (x : List LogRecord). w ++ x) (sym r.0) ∙ sym j.0 in
    ap (λ (x : List LogRecord). x ∷ walked) one ∙ ap (λ (xs : List (List LogRecord)). a ∷ xs) (joined_end walked left all j.1 r.1)

-- one record more of a log, which is the first that is left of it
pub joined_on : (walked left all : List (List LogRecord)) (k : ℕ) (r : LogRecord) (rest : List LogRecord) → AreJoined walked left all → get_or left k [] ≡ r ∷ rest → AreJoined (with_record walked k r) (set left k rest) all × (k < length walked)
joined_on [] [] [] k r rest j e = absurd cc
joined_on [] [] (a ∷ all) k r rest j e = absurd j
joined_on [] (l ∷ left) all k r rest j e = absurd j
joined_on (w ∷ walked) [] all k r rest j e = absurd j
joined_on (w ∷ walked) (l ∷ left) [] k r rest j e = absurd j
joined_on (w ∷ walked) (l ∷ left) (a ∷ all) zero r rest j e = ((j.0 ∙ ap (λ (x : List LogRecord). w ++ x) e ∙ sym (append_assoc w (r ∷ []) rest), j.1), omega arith)
joined_on (w ∷ walked) (l ∷ left) (a ∷ all) (suc k) r rest j e =
    let more = joined_on walked left all k r rest j.1 e in
    let lt = more.1 in
    ((j.0, more.0), omega (arith, lt))

pub none_left : (lists : List (List LogRecord)) → AreRead lists → together lists ≡ []
none_left [] h = refl
none_left (l ∷ ls) h = ap (λ (x : List LogRecord). x ++ together ls) h.0 ∙ none_left ls h.1

-- ---- what all of them come to

pub greatest_more : (xs ys : List LogRecord) → greatest (xs ++ ys) ≡ max (greatest xs) (greatest ys)
greatest_more [] ys = omega arith
greatest_more (x ∷ xs) ys = let ih = greatest_more xs ys in omega (arith, ih)

pub greatest_with : (lists : List (List LogRecord)) (k : ℕ) (r : LogRecord) → k < length lists → greatest (all_of (with_record lists k r)) ≡ max (greatest (all_of lists)) r.lrsn
greatest_with [] k r lt = absurd (omega (arith, lt))
greatest_with (l ∷ ls) zero r lt =
    let all = greatest_more (l ++ r ∷ []) (all_of ls) in
    let front = greatest_more l (r ∷ []) in
    let old = greatest_more l (all_of ls) in
    omega (arith, all, front, old)
greatest_with (l ∷ ls) (suc k) r lt =
    let ih = greatest_with ls k r (omega (arith, lt)) in
    let new = greatest_more l (all_of (with_record ls k r)) in
    let old = greatest_more l (all_of ls) in
    omega (arith, ih, new, old)

pub greatest_none : (lists : List (List LogRecord)) → AllByRecursion (λ (l : List LogRecord). l ≡ []) lists → greatest (all_of lists) ≡ 0
greatest_none [] h = refl
greatest_none (l ∷ ls) h =
    let all = greatest_more l (all_of ls) in
    let here : greatest l ≡ 0 = ap greatest h.0 in
    let rest = greatest_none ls h.1 in
    omega (arith, all, here, rest)

-- ---- what is noted of each log

pub noted_with : (f : List LogRecord → Bool) (lists : List (List LogRecord)) (k : ℕ) (r : LogRecord) → map f (with_record lists k r) ≡ set (map f lists) k (f (list_at lists k ++ r ∷ []))
noted_with f [] k r = refl
noted_with f (l ∷ ls) zero r = refl
noted_with f (l ∷ ls) (suc k) r = ap (λ (bs : List Bool). f l ∷ bs) (noted_with f ls k r)

pub noted_at : (f : List LogRecord → Bool) (lists : List (List LogRecord)) (k : ℕ) → k < length lists → get_or (map f lists) k false ≡ f (list_at lists k)
noted_at f [] k lt = absurd (omega (arith, lt))
noted_at f (l ∷ ls) zero lt = refl
noted_at f (l ∷ ls) (suc k) lt = noted_at f ls k (omega (arith, lt))

-- nothing is noted of logs of which no record was taken
pub noted_none : (f : List LogRecord → Bool) (bs : List Bool) (lists : List (List LogRecord)) → f [] ≡ false → length bs ≡ length lists → ((n : ℕ) → get_or bs n false ≡ false) → AllByRecursion (λ (l : List LogRecord). l ≡ []) lists → bs ≡ map f lists
noted_none f [] [] e long none h = refl
noted_none f [] (l ∷ ls) e long none h = absurd (omega (arith, long))
noted_none f (b ∷ bs) [] e long none h = absurd (omega (arith, long))
noted_none f (b ∷ bs) (l ∷ ls) e long none h =
    let here : b ≡ f l = none zero ∙ sym e ∙ ap f (sym h.0) in
    ap (λ (x : Bool). x ∷ bs) here ∙ ap (λ (xs : List Bool). f l ∷ xs) (noted_none f bs ls e (omega (arith, long)) (λ n. none (suc n)) h.1)
