-- Records of all logs that are taken one after the other, and what they come to.
use Rattle.std.proofs.Common.{◌≡◌, ℕ, suc, ◌+◌, ◌-◌, ◌<◌, ◌≤◌, max, Bool, true, false, List, [], ◌∷◌, ◌++◌, length, map, take, get_or, set, slice_get, Option, Some, refl, sym, ap, subst, ◌∙◌, arith, append_assoc}
use Rattle.std.specs.Prelude.{◌||◌, ◌&&◌, not}
use Rattle.std.specs.List.{AllByRecursion}
use Rattle.std.proofs.lemmas.List.{append-nil, take_at, length-append}
use Rattle.std.proofs.lemmas.List.Folds.{list_any-append}
use Rattle.ds_disk.specs.Contents.{Contents, WhenTold, Becomes, Same}
use Rattle.ds_model.specs.declared.log.LogRecord.{LogRecord}
use Rattle.ds_model.specs.Logs.{by_lrsn}
use Rattle.ds_model.specs.RecordBytes.{log_bytes}
use Rattle.log_record.specs.declared.log.Log.{Log}
use Rattle.log_head.specs.Heads.{HeadState}
use Rattle.log_heads.specs.Logs.{left, together, NoneFalls, IsTaken}
use Rattle.log_merge.specs.Merging.{all_records}
use Rattle.log_trans.specs.Numbers.{greatest}
use Rattle.restart_plan.specs.Opened.{is_end}
use Rattle.restart_plan.specs.Renewal.{is_old, is_ended, must_renew}
use Rattle.sound_disk.specs.Whole_logs.{IsWholeLog, AreWholeLogs}
use Rattle.disk_walk.specs.declared.walk.Next.{Next}
use Rattle.disk_walk.specs.declared.walk.Next.TheVariants as next
use Rattle.disk_walk.specs.Walks.{Stand, AreRead, IsNextOfAll, IsUpTo, AreUpTo, Begins}
use Rattle.disk_walk.proofs.Reading.{told_before, told_all, told_by, told_by_both}
use Rattle.fitting_records.specs.declared.passing.Passing.{Passing}
use Rattle.fitting_records.specs.declared.sums.Sums.{Sums}
use Rattle.fitting_records.specs.declared.summary.Summary.{Summary}
use Rattle.fitting_records.specs.Passed.{list_at, all_of, with_record, are_early, ArePassed, NothingIsPassed, PassingGoesOn, PassedAreTransactions}
use Rattle.fitting_records.specs.Summed.{any_asks, has_old, has_ended, IsNothing, IsAdded, AreSummed, AreSummedOf, IsSummedUp}
use Rattle.disk_walk.specs.Whole.{OfWholeLogs}
use Rattle.fitting_records.specs.Telling.{IsSummary}
use Rattle.fitting_records.proofs.Joined.{AreJoined, emptied, joined_start, empty_start, joined_end, joined_on, none_left, greatest_with, greatest_none, noted_with, noted_at, noted_none}

-- ---- so far

-- these records were taken, log by log these, and the others are left
pub record IsSoFar (logs : List (List ℕ)) (start now : List HeadState) (s : Sums) : Type 0 where
  pub stand : Stand logs now
  pub none : NoneFalls (left logs now)
  pub walked : List LogRecord
  pub lists : List (List LogRecord)
  pub rest : by_lrsn (together (left logs start)) ≡ walked ++ by_lrsn (together (left logs now))
  pub joined : AreJoined lists (left logs now) (left logs start)
  pub sums : AreSummed s walked lists

abbrev pub SumsTo : List HeadState → List HeadState → Sums → Contents → Type 0
SumsTo start now s c = Stand c.logs start → NoneFalls (left c.logs start) → length (left c.logs start) ≡ 32 → IsSoFar c.logs start now s

-- ---- at first

emptied_long : (lists : List (List LogRecord)) → length (emptied lists) ≡ length lists
emptied_long [] = refl
emptied_long (l ∷ ls) = ap suc (emptied_long ls)

summed_none : NothingIsPassed → (s : Sums) (lists : List (List LogRecord)) → IsNothing s → length lists ≡ 32 → AllByRecursion (λ (l : List LogRecord). l ≡ []) lists → AreSummed s [] lists
summed_none law s lists n long h = record {
  passed = λ fits. subst (λ (p : Passing). ArePassed p [] lists) (sym n.passing_is) (law lists h);
  greatest_is = n.greatest_is ∙ sym (greatest_none lists h);
  olds_are = noted_none has_old s.olds.items lists refl (n.olds_count ∙ sym long) n.olds h;
  ends_are = noted_none has_ended s.ends.items lists refl (n.ends_count ∙ sym long) n.ends h;
}

pub sum_starts : NothingIsPassed → (a : Option Contents) (start : List HeadState) (s : Sums) → IsNothing s → WhenTold a (SumsTo start start s)
sum_starts law a start s n = told_all a (SumsTo start start s) (λ c stand none long. record {
  stand = stand;
  none = none;
  walked = [];
  lists = emptied (left c.logs start);
  rest = refl;
  joined = joined_start (left c.logs start);
  sums = summed_none law s (emptied (left c.logs start)) n (emptied_long (left c.logs start) ∙ long) (empty_start (left c.logs start));
})

-- ---- one record more

or_none : (a : Bool) → (a || false) ≡ a
or_none true = refl
or_none false = refl

old_more : (l : List LogRecord) (r : LogRecord) → has_old (l ++ r ∷ []) ≡ (has_old l || is_old r)
old_more l r = list_any-append (λ (x : LogRecord). is_old x) l (r ∷ []) ∙ ap (λ (b : Bool). has_old l || b) (or_none (is_old r))

last_of : (l : List LogRecord) (r : LogRecord) → slice_get (l ++ r ∷ []) (length l) ≡ Some r
last_of [] r = refl
last_of (x ∷ xs) r = last_of xs r

ended_more : (l : List LogRecord) (r : LogRecord) → has_ended (l ++ r ∷ []) ≡ is_end r
ended_more l r =
    let one : length (r ∷ []) ≡ 1 = refl in
    let count : length (l ++ r ∷ []) - 1 ≡ length l = (let long = length-append l (r ∷ []) in omega (arith, long, one)) in
    ap (λ (n : ℕ). is_ended (slice_get (l ++ r ∷ []) n)) count ∙ ap is_ended (last_of l r)

summed_more : PassingGoesOn → (old new : Sums) (walked : List LogRecord) (lists : List (List LogRecord)) (member : ℕ) (r : LogRecord) → member ≤ length lists → AreSummed old walked lists → IsAdded old new member r
    → AreSummed new (walked ++ r ∷ []) (with_record lists (member - 1) r)
summed_more law old new walked lists member r most is on =
    let k : ℕ = member - 1 in
    let lt : member - 1 < length lists = (let some = on.some in omega (arith, some, most)) in
    record {
      passed = λ fits.
          let p = on.passed_on fits in
          subst (λ (x : Passing). ArePassed x (walked ++ r ∷ []) (with_record lists (member - 1) r)) (sym p.passing_is) (law old.passing walked lists member r (is.passed (on.fitted fits)) p.may on.some most);
      greatest_is = on.greatest_is ∙ ap (λ (n : ℕ). max n r.lrsn) is.greatest_is ∙ sym (greatest_with lists (member - 1) r lt);
      olds_are =
          on.olds_are ∙ ap (λ (bs : List Bool). set bs (member - 1) (get_or bs (member - 1) false || is_old r)) is.olds_are
          ∙ ap (λ (b : Bool). set (map has_old lists) (member - 1) (b || is_old r)) (noted_at has_old lists (member - 1) lt)
          ∙ ap (λ (b : Bool). set (map has_old lists) (member - 1) b) (sym (old_more (list_at lists (member - 1)) r))
          ∙ sym (noted_with has_old lists (member - 1) r);
      ends_are =
          on.ends_are ∙ ap (λ (bs : List Bool). set bs (member - 1) (is_end r)) is.ends_are
          ∙ ap (λ (b : Bool). set (map has_ended lists) (member - 1) b) (sym (ended_more (list_at lists (member - 1)) r))
          ∙ sym (noted_with has_ended lists (member - 1) r);
    }

far_more : PassingGoesOn → (logs : List (List ℕ)) (start old now : List HeadState) (s t : Sums) (member : ℕ) (r : LogRecord) → IsSoFar logs start old s → Stand logs now → IsTaken member r (left logs old) (left logs now) → IsAdded s t member r
    → IsSoFar logs start now t
far_more law logs start old now s t member r far stand taken on =
    let j = joined_on far.lists (left logs old) (left logs start) (member - 1) r (get_or (left logs now) (member - 1) []) far.joined taken.first in
    let lt = j.1 in
    record {
      stand = stand;
      none = taken.rises far.none;
      walked = far.walked ++ r ∷ [];
      lists = with_record far.lists (member - 1) r;
      rest = far.rest ∙ ap (λ (l : List LogRecord). far.walked ++ l) (taken.lowest far.none) ∙ sym (append_assoc far.walked (r ∷ []) (by_lrsn (together (left logs now))));
      joined = subst (λ (ls : List (List LogRecord)). AreJoined (with_record far.lists (member - 1) r) ls (left logs start)) (sym taken.others) j.0;
      sums = summed_more law s t far.walked far.lists member r (omega (arith, lt)) far.sums on;
    }

abbrev pub NextOf : List HeadState → List HeadState → Next → Contents → Type 0
NextOf old now n c = Stand c.logs old → Stand c.logs now × IsNextOfAll (left c.logs old) n (left c.logs now)

pub sum_goes : PassingGoesOn → (a b : Option Contents) (start old now : List HeadState) (s t : Sums) (n : Next) (member : ℕ) (r : LogRecord) → WhenTold a (SumsTo start old s) → Becomes a b Same → WhenTold b (NextOf old now n) → n ≡ next.Record member r
    → IsAdded s t member r → WhenTold a (SumsTo start now t)
sum_goes law a b start old now s t n member r far same came is on =
    told_by_both a (SumsTo start old s) (NextOf old now n) (SumsTo start now t)
    (λ c sums goes stand none long.
    let so_far = sums stand none long in
    let next_is = goes so_far.stand in
    far_more law c.logs start old now s t member r so_far next_is.0 (subst (λ (m : Next). IsNextOfAll (left c.logs old) m (left c.logs now)) is next_is.1) on)
    far (told_before a b (NextOf old now n) same came)

-- ---- at the end

far_end : (logs : List (List ℕ)) (start old : List HeadState) (s : Sums) → IsSoFar logs start old s → AreRead (left logs old) → AreSummed s (by_lrsn (together (left logs start))) (left logs start)
far_end logs start old s far read =
    let all : by_lrsn (together (left logs start)) ≡ far.walked = far.rest ∙ ap (λ (l : List LogRecord). far.walked ++ by_lrsn l) (none_left (left logs old) read) ∙ append-nil far.walked in
    let lists : far.lists ≡ left logs start = joined_end far.lists (left logs old) (left logs start) far.joined read in
    subst (λ (rs : List LogRecord). AreSummed s rs (left logs start)) (sym all) (subst (AreSummed s far.walked) lists far.sums)

pub sum_ends : (a b : Option Contents) (start old now : List HeadState) (s : Sums) (n : Next) → WhenTold a (SumsTo start old s) → Becomes a b Same → WhenTold b (NextOf old now n) → n ≡ next.End
    → WhenTold a (λ (c : Contents). AreSummedOf c.logs start s)
sum_ends a b start old now s n far same came is =
    told_by_both a (SumsTo start old s) (NextOf old now n) (λ (c : Contents). AreSummedOf c.logs start s)
    (λ c sums goes stand none long.
    let so_far = sums stand none long in
    let next_is = goes so_far.stand in
    far_end c.logs start old s so_far (subst (λ (m : Next). IsNextOfAll (left c.logs old) m (left c.logs now)) is next_is.1))
    far (told_before a b (NextOf old now n) same came)

-- ---- of whole logs

up_to : (member : ℕ) (bytes : List (List ℕ)) (logs : List Log) → AreWholeLogs member bytes logs → AreUpTo bytes (map (λ (l : Log). l.length) logs) (map (λ (l : Log). l.records) logs)
up_to member [] [] h = tt
up_to member [] (l ∷ ls) h = absurd h
up_to member (b ∷ bs) [] h = absurd h
up_to member (b ∷ bs) (l ∷ ls) h = (one h.0, up_to (member + 1) bs ls h.1)
  where
    one : IsWholeLog member b l → IsUpTo b l.length l.records
    one is =
        let tail = is.tail_is in
        record {
          within = omega (arith, tail);
          spelled = ap (λ (n : ℕ). take n b) is.length_is ∙ ap (take (length (log_bytes l.records))) is.records_are.whole ∙ take_at (log_bytes l.records) is.records_are.tail (length (log_bytes l.records)) refl;
          allowed = is.records_are.allowed;
        }

rising : (member : ℕ) (bytes : List (List ℕ)) (logs : List Log) → AreWholeLogs member bytes logs → NoneFalls (map (λ (l : Log). l.records) logs)
rising member [] [] h = tt
rising member [] (l ∷ ls) h = absurd h
rising member (b ∷ bs) [] h = absurd h
rising member (b ∷ bs) (l ∷ ls) h = (h.0.rising, rising (member + 1) bs ls h.1)

all_is : (logs : List Log) → all_of (map (λ (l : Log). l.records) logs) ≡ all_records logs
all_is [] = refl
all_is (l ∷ ls) = ap (λ (x : List LogRecord). l.records ++ x) (all_is ls)

together_is : (logs : List Log) → together (map (λ (l : Log). l.records) logs) ≡ all_records logs
together_is [] = refl
together_is (l ∷ ls) = ap (λ (x : List LogRecord). l.records ++ x) (together_is ls)

asks_is : (logs : List Log) → any_asks (map has_old (map (λ (l : Log). l.records) logs)) (map has_ended (map (λ (l : Log). l.records) logs)) ≡ must_renew logs
asks_is [] = refl
asks_is (l ∷ ls) = ap (λ (b : Bool). (has_old l.records && not (has_ended l.records)) || b) (asks_is ls)

counted : {A B : Type 0} (f : A → B) (xs : List A) → length (map f xs) ≡ length xs
counted f [] = refl
counted f (x ∷ xs) = ap suc (counted f xs)

summary_when : PassedAreTransactions → (logs : List Log) (walked : List LogRecord) (s : Sums) (it : Summary) → IsSummedUp s it → walked ≡ by_lrsn (all_records logs) → AreSummed s walked (map (λ (l : Log). l.records) logs) → IsSummary it logs
summary_when law logs walked s it up all sums = record {
  fit = λ fits. law s.passing walked logs (sums.passed (sym up.fits_is ∙ fits));
  early = λ fits. ap (are_early []) (sym all) ∙ (sums.passed (sym up.fits_is ∙ fits)).early;
  greatest_is = up.greatest_is ∙ sums.greatest_is ∙ ap greatest (all_is logs);
  renews_is = up.renews_is ∙ ap (λ (bs : List Bool). any_asks bs s.ends.items) sums.olds_are ∙ ap (any_asks (map has_old (map (λ (l : Log). l.records) logs))) sums.ends_are ∙ asks_is logs;
}

summary_of : PassedAreTransactions → (ends : List ℕ) (start : List HeadState) (s : Sums) (it : Summary) (c : Contents) → length ends ≡ 32 → ((logs : List (List ℕ)) (lists : List (List LogRecord)) → AreUpTo logs ends lists → Begins logs start lists)
    → IsSummedUp s it → AreSummedOf c.logs start s → OfWholeLogs ends (IsSummary it) c
summary_of law ends start s it c long begin up sums logs whole is =
    let b = begin c.logs (map (λ (l : Log). l.records) logs) (subst (λ (es : List ℕ). AreUpTo c.logs es (map (λ (l : Log). l.records) logs)) (sym is) (up_to 1 c.logs logs whole)) in
    let none : NoneFalls (left c.logs start) = subst NoneFalls (sym b.left_is) (rising 1 c.logs logs whole) in
    let count : length (left c.logs start) ≡ 32 =
    ap length b.left_is ∙ counted (λ (l : Log). l.records) logs ∙ sym (counted (λ (l : Log). l.length) logs) ∙ sym (ap length is) ∙ long in
    summary_when law logs (by_lrsn (together (left c.logs start))) s it up (ap (λ (ls : List (List LogRecord)). by_lrsn (together ls)) b.left_is ∙ ap by_lrsn (together_is logs)) (subst (AreSummed s (by_lrsn (together (left c.logs start)))) b.left_is (sums b.stand none count))

pub summary_told : PassedAreTransactions → (a : Option Contents) (ends : List ℕ) (start : List HeadState) (s : Sums) (it : Summary) → length ends ≡ 32 → ((logs : List (List ℕ)) (lists : List (List LogRecord)) → AreUpTo logs ends lists → Begins logs start lists)
    → IsSummedUp s it → WhenTold a (λ (c : Contents). AreSummedOf c.logs start s) → WhenTold a (OfWholeLogs ends (IsSummary it))
summary_told law a ends start s it long begin up told = told_by a (λ (c : Contents). AreSummedOf c.logs start s) (OfWholeLogs ends (IsSummary it)) (λ c sums. summary_of law ends start s it c long begin up sums) told
