-- What passing all records of logs comes to.
use Rattle.std.proofs.Common.{◌≡◌, ◌⊎◌, inl, inr, ℕ, zero, suc, ◌≤◌, Bool, true, false, List, [], ◌∷◌, ◌++◌, Some, refl, sym, ap, subst, ◌∙◌, arith}
use Rattle.std.specs.Prelude.{◌==◌, not, ◌||◌, map}
use Rattle.std.specs.List.{AllByRecursion}
use Rattle.std.specs.Ordering.{nat_cmp}
use Rattle.std.specs.FinMap.{get, get-empty}
use Rattle.ds_model.specs.declared.log.LogRecord.{LogRecord}
use Rattle.ds_model.specs.Logs.{has_commit}
use Rattle.log_record.specs.declared.log.Log.{Log}
use Rattle.log_merge.specs.Merging.{all_records}
use Rattle.log_trans.specs.Numbers.{greatest}
use Rattle.sound_disk.specs.Transactions.{drawn_numbers, is_among, all_differ, speak_of, stands_apart, stand_apart, EachFollows, AreTransactions}
use Rattle.fitting_records.specs.declared.passing.OpenTran.{OpenTran}
use Rattle.fitting_records.specs.declared.passing.Passing.{Passing}
use Rattle.fitting_records.specs.Passings.{nothing_passed}
use Rattle.fitting_records.specs.Passed.{list_at, all_of, ArePassed}
use Rattle.fitting_records.proofs.Taking.{and_both}
use Rattle.fitting_records.proofs.Knowing.{speak_more}
use Rattle.fitting_records.proofs.Going.{or_cases, or_left, or_right, false_unless, itself, some_number, no_value}

-- ---- at first

abbrev AreEmpty : List (List LogRecord) → Type 0
AreEmpty lists = AllByRecursion (λ (l : List LogRecord). l ≡ []) lists

none_of : (lists : List (List LogRecord)) → AreEmpty lists → all_of lists ≡ []
none_of [] h = refl
none_of (l ∷ ls) h = ap (λ (x : List LogRecord). x ++ all_of ls) h.0 ∙ none_of ls h.1

none_at : (lists : List (List LogRecord)) (i : ℕ) → AreEmpty lists → list_at lists i ≡ []
none_at [] i h = refl
none_at (l ∷ ls) zero h = h.0
none_at (l ∷ ls) (suc i) h = none_at ls i h.1

follow_none : (lists : List (List LogRecord)) → AreEmpty lists → AllByRecursion (EachFollows []) lists
follow_none [] h = tt
follow_none (l ∷ ls) h = (subst (EachFollows []) (sym h.0) tt, follow_none ls h.1)

no_speech : (t i : ℕ) (lists : List (List LogRecord)) → AreEmpty lists → speak_of t (list_at lists i) ≡ true → ⊥
no_speech t i lists h e = let none : speak_of t (list_at lists i) ≡ false = ap (speak_of t) (none_at lists i h) in cc

no_number : (n : ℕ) (lists : List (List LogRecord)) → AreEmpty lists → is_among n (drawn_numbers (all_of lists)) ≡ true → ⊥
no_number n lists h e = let none : is_among n (drawn_numbers (all_of lists)) ≡ false = ap (λ (l : List LogRecord). is_among n (drawn_numbers l)) (none_of lists h) in cc

none_open : (t : ℕ) (o : OpenTran) → get nothing_passed.trans t ≡ Some o → ⊥
none_open t o e = no_value (get nothing_passed.trans t) o (get-empty {X = OpenTran} nat_cmp t) e

pub passed_none : (lists : List (List LogRecord)) → AreEmpty lists → ArePassed nothing_passed [] lists
passed_none lists h = record {
  differ = ap (λ (l : List LogRecord). all_differ (0 ∷ drawn_numbers l)) (none_of lists h);
  last_is = λ n e. absurd (no_number n lists h e);
  greatest_is = (let none : greatest (all_of lists) ≡ 0 = ap greatest (none_of lists h) in omega arith);
  known = λ t i e. absurd (no_speech t i lists h e);
  homes = λ t i j some e f. absurd (no_speech t i lists h e);
  opened = λ t o e. absurd (none_open t o e);
  follow = follow_none lists h;
  commits = λ t e. absurd (none_committed t e);
  early = refl;
}
  where
    none_committed : (t : ℕ) → has_commit [] t ≡ true → ⊥
    none_committed t e = cc

-- ---- at the end

abbrev records_in : List Log → List (List LogRecord)
records_in logs = map (λ (l : Log). l.records) logs

all_in : (logs : List Log) → all_of (records_in logs) ≡ all_records logs
all_in [] = refl
all_in (l ∷ ls) = ap (λ (x : List LogRecord). l.records ++ x) (all_in ls)

-- one log speaks of it
record Where (t : ℕ) (logs : List Log) : Type 0 where
  place : ℕ
  speaks : speak_of t (list_at (records_in logs) place) ≡ true

found_by : (t : ℕ) (l : Log) (ls : List Log) → (speak_of t l.records ≡ true) ⊎ (speak_of t (all_records ls) ≡ true) → (speak_of t (all_records ls) ≡ true → Where t ls) → Where t (l ∷ ls)
found_by t l ls (inl p) more = record { place = zero; speaks = p }
found_by t l ls (inr p) more = let found = more p in record { place = suc found.place; speaks = found.speaks }

found_in : (t : ℕ) (logs : List Log) → speak_of t (all_records logs) ≡ true → Where t logs
found_in t [] h = absurd cc
found_in t (l ∷ ls) h = found_by t l ls (or_cases (speak_of t l.records) (speak_of t (all_records ls)) (sym (speak_more t l.records (all_records ls)) ∙ h)) (found_in t ls)

apart_by : (rs others : List LogRecord) → ((t : ℕ) → 1 ≤ t → speak_of t rs ≡ true → speak_of t others ≡ false) → stands_apart rs others ≡ true
apart_by [] others h = refl
apart_by (r ∷ rs) others h =
    and_both ((r.tran == 0) || not (speak_of r.tran others)) (stands_apart rs others) (one (r.tran == 0) refl) (apart_by rs others (λ t some e. h t some (or_right (r.tran == t) (speak_of t rs) e)))
  where
    one : (z : Bool) → (r.tran == 0) ≡ z → (z || not (speak_of r.tran others)) ≡ true
    one true e = refl
    one false e = ap not (h r.tran (some_number r.tran e) (or_left (r.tran == r.tran) (speak_of r.tran rs) (itself r.tran)))

pub all_apart : (logs : List Log) → ((t i j : ℕ) → 1 ≤ t → speak_of t (list_at (records_in logs) i) ≡ true → speak_of t (list_at (records_in logs) j) ≡ true → i ≡ j) → stand_apart logs ≡ true
all_apart [] h = refl
all_apart (l ∷ ls) h =
    and_both (stands_apart l.records (all_records ls)) (stand_apart ls)
    (apart_by l.records (all_records ls) (λ t some e. false_unless (speak_of t (all_records ls)) (λ q. let more = found_in t ls q in let same : zero ≡ suc more.place = h t zero (suc more.place) some e more.speaks in absurd (omega (arith, same)))))
    (all_apart ls (λ t i j some e f. let same : suc i ≡ suc j = h t (suc i) (suc j) some e f in omega (arith, same)))

each_in : (logs : List Log) → AllByRecursion (EachFollows []) (records_in logs) → AllByRecursion (λ (l : Log). EachFollows [] l.records) logs
each_in [] h = tt
each_in (l ∷ ls) h = (h.0, each_in ls h.1)

pub passed_all : (s : Passing) (walked : List LogRecord) (logs : List Log) → ArePassed s walked (map (λ (l : Log). l.records) logs) → AreTransactions logs
passed_all s walked logs p = record {
  numbers = ap (λ (l : List LogRecord). all_differ (0 ∷ drawn_numbers l)) (sym (all_in logs)) ∙ p.differ;
  homes = all_apart logs p.homes;
  follow = each_in logs p.follow;
}
