-- Logs of which the first records are left out are those of transactions still.
use Rattle.std.proofs.Common.{◌≡◌, ℕ, ◌+◌, ◌≤◌, Bool, true, false, cond, List, [], ◌∷◌, ◌++◌, length, refl, sym, ap, subst, ◌∙◌, append_assoc, arith}
use Rattle.std.specs.Prelude.{◌==◌, not, ◌||◌, ◌&&◌}
use Rattle.std.specs.List.{AllByRecursion}
use Rattle.std.proofs.lemmas.Bool.{and_parts, and_from, or_parts, not-true}
use Rattle.std.proofs.lemmas.List.Folds.{list_any-append, list_all-append}
use Rattle.ds_model.specs.declared.log.LogRecord.{LogRecord}
use Rattle.ds_model.specs.RecordBytes.{IsAllowed, log_bytes}
use Rattle.log_record.specs.declared.log.Log.{Log}
use Rattle.log_record.specs.Changes.{is_drawn}
use Rattle.log_merge.specs.Merging.{all_records, RisesFrom}
use Rattle.sound_disk.specs.Transactions.{drawn_numbers, is_among, all_differ, speak_of, stands_apart, stand_apart, EachFollows, AreTransactions}
use Rattle.sound_disk.specs.Whole_logs.{AreWholeLogs}
use Rattle.sound_reads.specs.Reads.{IsReadOf, AreReadOf}
use Rattle.sound_reads.proofs.Apart.{rest_away, rest_follows, IsAway}

-- ---- parts of records

each_rest : (P : LogRecord → Type 0) (xs ys : List LogRecord) → AllByRecursion P (xs ++ ys) → AllByRecursion P ys
each_rest P [] ys h = h
each_rest P (x ∷ xs) ys h = each_rest P xs ys h.1

rises_low : (low n : ℕ) (rs : List LogRecord) → n ≤ low → RisesFrom low rs → RisesFrom n rs
rises_low low n [] le h = tt
rises_low low n (r ∷ rs) le h = (let one = h.0 in omega (arith, one, le), h.1)

pub rises_rest : (low : ℕ) (xs ys : List LogRecord) → RisesFrom low (xs ++ ys) → RisesFrom 0 ys
rises_rest low [] ys h = rises_low low 0 ys (omega arith) h
rises_rest low (x ∷ xs) ys h = rises_rest x.lrsn xs ys h.1

-- ---- one log

-- what holds of the log of which this was read
pub record IsSoundRead (log read : Log) : Type 0 where
  pub is : IsReadOf log read
  pub allowed : AllByRecursion IsAllowed read.records
  pub rises : RisesFrom 0 read.records
  pub follow : EachFollows [] read.records
  pub away : AllByRecursion (IsAway is.front) read.records

one_sound : (log read : Log) → IsReadOf log read → AllByRecursion IsAllowed log.records → RisesFrom 0 log.records → EachFollows [] log.records → IsSoundRead log read
one_sound log read h allowed rises follow =
    let each : AllByRecursion IsAllowed read.records = each_rest IsAllowed h.front read.records (subst (AllByRecursion IsAllowed) h.records_are allowed) in
    let up : RisesFrom 0 (h.front ++ read.records) = subst (RisesFrom 0) h.records_are rises in
    let on : EachFollows [] (h.front ++ read.records) = subst (EachFollows []) h.records_are follow in
    let away = rest_away (length (log_bytes h.front)) h.front read.records up on each h.begins in
    record { is = h; allowed = each; rises = rises_rest 0 h.front read.records up; follow = rest_follows h.front read.records each away on; away = away }

abbrev pub AreSoundReads : List Log → List Log → Type 0
AreSoundReads [] [] = Unit {0}
AreSoundReads [] (read ∷ reads) = ⊥
AreSoundReads (log ∷ logs) [] = ⊥
AreSoundReads (log ∷ logs) (read ∷ reads) = IsSoundRead log read × AreSoundReads logs reads

pub all_sound : (member : ℕ) (bytes : List (List ℕ)) (logs reads : List Log) → AreWholeLogs member bytes logs → AllByRecursion (λ (l : Log). EachFollows [] l.records) logs → AreReadOf logs reads → AreSoundReads logs reads
all_sound member [] [] [] whole follow h = tt
all_sound member [] [] (r ∷ rs) whole follow h = absurd h
all_sound member [] (l ∷ ls) reads whole follow h = absurd whole
all_sound member (b ∷ bs) [] reads whole follow h = absurd whole
all_sound member (b ∷ bs) (l ∷ ls) [] whole follow h = absurd h
all_sound member (b ∷ bs) (l ∷ ls) (r ∷ rs) whole follow h = (one_sound l r h.0 whole.0.records_are.allowed whole.0.rising follow.0, all_sound (member + 1) bs ls rs whole.1 follow.1 h.1)

pub reads_follow : (logs reads : List Log) → AreSoundReads logs reads → AllByRecursion (λ (l : Log). EachFollows [] l.records) reads
reads_follow [] [] h = tt
reads_follow [] (r ∷ rs) h = absurd h
reads_follow (l ∷ ls) [] h = absurd h
reads_follow (l ∷ ls) (r ∷ rs) h = (h.0.follow, reads_follow ls rs h.1)

pub reads_rise : (logs reads : List Log) → AreSoundReads logs reads → AllByRecursion (λ (l : Log). RisesFrom 0 l.records) reads
reads_rise [] [] h = tt
reads_rise [] (r ∷ rs) h = absurd h
reads_rise (l ∷ ls) [] h = absurd h
reads_rise (l ∷ ls) (r ∷ rs) h = (h.0.rises, reads_rise ls rs h.1)

-- ---- transactions

or_second : (a b : Bool) → (a || b) ≡ false → b ≡ false
or_second true b h = absurd cc
or_second false b h = h

or_on : (a b d : Bool) → (a || b) ≡ false → (b ≡ false → d ≡ false) → (a || d) ≡ false
or_on true b d h f = h
or_on false b d h f = f h

-- a transaction that has no record in the logs has none in what was read
fewer_spoken : (t : ℕ) (logs reads : List Log) → AreReadOf logs reads → speak_of t (all_records logs) ≡ false → speak_of t (all_records reads) ≡ false
fewer_spoken t [] [] h e = refl
fewer_spoken t [] (r ∷ rs) h e = absurd h
fewer_spoken t (l ∷ ls) [] h e = absurd h
fewer_spoken t (l ∷ ls) (r ∷ rs) h e =
    let both : (speak_of t l.records || speak_of t (all_records ls)) ≡ false = sym (list_any-append (λ (x : LogRecord). x.tran == t) l.records (all_records ls)) ∙ e in
    let p = or_parts (speak_of t l.records) (speak_of t (all_records ls)) both in
    let own : (speak_of t h.0.front || speak_of t r.records) ≡ false =
    sym (list_any-append (λ (x : LogRecord). x.tran == t) h.0.front r.records) ∙ ap (speak_of t) (sym h.0.records_are) ∙ p.0 in
    list_any-append (λ (x : LogRecord). x.tran == t) r.records (all_records rs)
    ∙ ap (λ (b : Bool). b || speak_of t (all_records rs)) (or_second (speak_of t h.0.front) (speak_of t r.records) own)
    ∙ fewer_spoken t ls rs h.1 p.1

not_false : (b : Bool) → b ≡ false → not b ≡ true
not_false true h = absurd cc
not_false false h = refl

apart_one : (z b d : Bool) → (z || not b) ≡ true → (b ≡ false → d ≡ false) → (z || not d) ≡ true
apart_one true b d h f = refl
apart_one false b d h f = not_false d (f (not-true b h))

fewer_others : (xs ys zs : List LogRecord) → ((t : ℕ) → speak_of t ys ≡ false → speak_of t zs ≡ false) → stands_apart xs ys ≡ true → stands_apart xs zs ≡ true
fewer_others [] ys zs f h = refl
fewer_others (x ∷ xs) ys zs f h =
    let p = and_parts ((x.tran == 0) || not (speak_of x.tran ys)) (stands_apart xs ys) h in
    and_from ((x.tran == 0) || not (speak_of x.tran zs)) (stands_apart xs zs) (apart_one (x.tran == 0) (speak_of x.tran ys) (speak_of x.tran zs) p.0 (f x.tran)) (fewer_others xs ys zs f p.1)

reads_apart : (logs reads : List Log) → AreReadOf logs reads → stand_apart logs ≡ true → stand_apart reads ≡ true
reads_apart [] [] h e = refl
reads_apart [] (r ∷ rs) h e = absurd h
reads_apart (l ∷ ls) [] h e = absurd h
reads_apart (l ∷ ls) (r ∷ rs) h e =
    let p = and_parts (stands_apart l.records (all_records ls)) (stand_apart ls) e in
    let test = λ (x : LogRecord). (x.tran == 0) || not (speak_of x.tran (all_records ls)) in
    let own : (stands_apart h.0.front (all_records ls) && stands_apart r.records (all_records ls)) ≡ true =
    sym (list_all-append (λ (x : LogRecord). (x.tran == 0) || not (speak_of x.tran (all_records ls))) h.0.front r.records) ∙ ap (λ (xs : List LogRecord). stands_apart xs (all_records ls)) (sym h.0.records_are) ∙ p.0 in
    let one = (and_parts (stands_apart h.0.front (all_records ls)) (stands_apart r.records (all_records ls)) own).1 in
    and_from (stands_apart r.records (all_records rs)) (stand_apart rs) (fewer_others r.records (all_records ls) (all_records rs) (λ t. fewer_spoken t ls rs h.1) one) (reads_apart ls rs h.1 p.1)

-- ---- numbers

drawn_when : (b : Bool) (n : ℕ) (xs ys zs : List ℕ) → xs ≡ ys ++ zs → cond b (n ∷ xs) xs ≡ cond b (n ∷ ys) ys ++ zs
drawn_when true n xs ys zs e = ap (λ (l : List ℕ). n ∷ l) e
drawn_when false n xs ys zs e = e

drawn_more : (xs ys : List LogRecord) → drawn_numbers (xs ++ ys) ≡ drawn_numbers xs ++ drawn_numbers ys
drawn_more [] ys = refl
drawn_more (x ∷ xs) ys = drawn_when (is_drawn x.body) x.lrsn (drawn_numbers (xs ++ ys)) (drawn_numbers xs) (drawn_numbers ys) (drawn_more xs ys)

-- the first numbers differ, and each that is none of the second ones is none of them
record AreFewer (fewer all : List ℕ) : Type 0 where
  among : (n : ℕ) → is_among n all ≡ false → is_among n fewer ≡ false
  differ : all_differ all ≡ true → all_differ fewer ≡ true

behind_among : (n : ℕ) (xs ys : List ℕ) → is_among n (xs ++ ys) ≡ false → is_among n ys ≡ false
behind_among n xs ys e = or_second (is_among n xs) (is_among n ys) (sym (list_any-append (λ m. m == n) xs ys) ∙ e)

behind_differ : (xs ys : List ℕ) → all_differ (xs ++ ys) ≡ true → all_differ ys ≡ true
behind_differ [] ys e = e
behind_differ (x ∷ xs) ys e = behind_differ xs ys (and_parts (not (is_among x (xs ++ ys))) (all_differ (xs ++ ys)) e).1

fewer_before : (xs fewer all : List ℕ) → AreFewer fewer all → AreFewer (xs ++ fewer) (xs ++ all)
fewer_before [] fewer all h = record { among = h.among; differ = h.differ }
fewer_before (x ∷ xs) fewer all h =
    let more = fewer_before xs fewer all h in
    record {
      among = λ n e. or_on (x == n) (is_among n (xs ++ all)) (is_among n (xs ++ fewer)) e (more.among n);
      differ = λ e.
          let p = and_parts (not (is_among x (xs ++ all))) (all_differ (xs ++ all)) e in
          and_from (not (is_among x (xs ++ fewer))) (all_differ (xs ++ fewer)) (not_false (is_among x (xs ++ fewer)) (more.among x (not-true (is_among x (xs ++ all)) p.0))) (more.differ p.1);
    }

fewer_behind : (xs fewer all : List ℕ) → AreFewer fewer all → AreFewer fewer (xs ++ all)
fewer_behind xs fewer all h = record {
  among = λ n e. h.among n (behind_among n xs all e);
  differ = λ e. h.differ (behind_differ xs all e);
}

fewer_drawn : (logs reads : List Log) → AreReadOf logs reads → AreFewer (drawn_numbers (all_records reads)) (drawn_numbers (all_records logs))
fewer_drawn [] [] h = record { among = λ n e. e; differ = λ e. e }
fewer_drawn [] (r ∷ rs) h = absurd h
fewer_drawn (l ∷ ls) [] h = absurd h
fewer_drawn (l ∷ ls) (r ∷ rs) h =
    let more = fewer_drawn ls rs h.1 in
    let all : drawn_numbers h.0.front ++ (drawn_numbers r.records ++ drawn_numbers (all_records ls)) ≡ drawn_numbers (l.records ++ all_records ls) =
    sym (append_assoc (drawn_numbers h.0.front) (drawn_numbers r.records) (drawn_numbers (all_records ls)))
    ∙ ap (λ (ns : List ℕ). ns ++ drawn_numbers (all_records ls)) (sym (drawn_more h.0.front r.records) ∙ ap drawn_numbers (sym h.0.records_are))
    ∙ sym (drawn_more l.records (all_records ls)) in
    subst (λ (ns : List ℕ). AreFewer ns (drawn_numbers (l.records ++ all_records ls))) (sym (drawn_more r.records (all_records rs)))
    (subst (λ (ns : List ℕ). AreFewer (drawn_numbers r.records ++ drawn_numbers (all_records rs)) ns) all
    (fewer_behind (drawn_numbers h.0.front) (drawn_numbers r.records ++ drawn_numbers (all_records rs)) (drawn_numbers r.records ++ drawn_numbers (all_records ls))
    (fewer_before (drawn_numbers r.records) (drawn_numbers (all_records rs)) (drawn_numbers (all_records ls)) more)))

reads_differ : (fewer all : List ℕ) → AreFewer fewer all → all_differ (0 ∷ all) ≡ true → all_differ (0 ∷ fewer) ≡ true
reads_differ fewer all h e = (fewer_before (0 ∷ []) fewer all h).differ e

-- ---- all logs

pub are_transactions : (logs reads : List Log) → AreReadOf logs reads → AreSoundReads logs reads → AreTransactions logs → AreTransactions reads
are_transactions logs reads h sound t = record {
  numbers = reads_differ (drawn_numbers (all_records reads)) (drawn_numbers (all_records logs)) (fewer_drawn logs reads h) t.numbers;
  homes = reads_apart logs reads h t.homes;
  follow = reads_follow logs reads sound;
}
