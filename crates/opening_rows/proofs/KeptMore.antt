-- What is kept of one log more.
use Rattle.std.proofs.Common.{◌≡◌, ℕ, suc, ◌+◌, ◌-◌, ◌<◌, Bool, true, cond, List, [], ◌∷◌, ◌++◌, length, take, get_or, Option, Some, None, Ok, refl, sym, ap, subst, ◌∙◌, arith}
use Rattle.std.specs.Prelude.{Decides, IsErrOf}
use Rattle.std.specs.BTreeSet as set
use Rattle.std.specs.Ordering.{nat_cmp}
use Rattle.std.proofs.lemmas.List.{map-append, take_all, take_more, length-take-le}
use Rattle.ds_disk.specs.Contents.{Contents, log_of, WhenTold}
use Rattle.ds_model.specs.declared.log.LogRecord.{LogRecord}
use Rattle.log_record.specs.declared.log.Log.{Log}
use Rattle.log_record.specs.Logs.{IsLogOf}
use Rattle.report_check.specs.Records.{records_of}
use Rattle.opening_rows.specs.declared.fault.LogsFault.{LogsFault}
use Rattle.opening_rows.specs.declared.fault.LogsFault.TheVariants.{Failed, Damaged}
use Rattle.opening_rows.specs.Reading.{AreLogsOf, HasDamage, ReadsBy}
use Rattle.opening_rows.specs.declared.reading.LogRead.{LogRead}
use Rattle.opening_rows.specs.declared.kept.Kept.{Kept}
use Rattle.opening_rows.specs.declared.kept.KeptLogs.{KeptLogs}
use Rattle.opening_rows.specs.declared.keeps.Keeps.{Keeps}
use Rattle.opening_rows.specs.declared.keeps.Keeps.TheVariants as which
use Rattle.opening_rows.specs.Kept.{keeps_of, kept_by, is_new, told_of, told_before, all_told, all_before, AreWhole, IsKept, AreKept}
use Rattle.opening_rows.specs.LogReads.{IsRead, IsReadOf}
use Rattle.opening_rows.proofs.Told.{reads_on, reads_to, told_all, same_at}
use Rattle.opening_rows.proofs.LogTaken.{read_as}

-- ---- a log that was read twice

same_kept : (f g : ℕ → Bool) (rs : List LogRecord) → ((tran : ℕ) → f tran ≡ g tran) → kept_by f rs ≡ kept_by g rs
same_kept f g [] e = refl
same_kept f g (r ∷ rs) e =
    ap (λ (l : List LogRecord). cond (f r.tran) (r ∷ l) l) (same_kept f g rs e) ∙ ap (λ (b : Bool). cond b (r ∷ kept_by g rs) (kept_by g rs)) (e r.tran)

kept_one : (keeps : ℕ → Bool) (had : ℕ) (log : Log) (first second : LogRead) (kept : Kept) → IsRead keeps had log first → IsRead (set.contains nat_cmp first.taken.commits) had log second
    → kept.records.items ≡ second.taken.records.items → kept.before ≡ second.taken.before → kept.tail ≡ second.tail → IsKept had log kept
kept_one keeps had log first second kept one two records before tail =
    let now : ℕ → Bool = set.contains nat_cmp first.taken.commits in
    let same : (tran : ℕ) → now tran ≡ is_new had log.records tran = one.taken.commits_are in
    record {
      records_are = records ∙ two.taken.records_are ∙ same_kept now (is_new had log.records) log.records same;
      before_is = before ∙ two.taken.before_is ∙ ap length (same_kept now (is_new had log.records) (take had log.records) same);
      tail_is = tail ∙ two.tail_is;
    }

abbrev pub ReadAs : ℕ → (ℕ → Bool) → ℕ → LogRead → Contents → Type 0
ReadAs member keeps had read c = IsReadOf keeps had (log_of c.logs member) read

abbrev KeptAs : ℕ → ℕ → Kept → Contents → Type 0
KeptAs member had kept c = (log : Log) → IsLogOf (log_of c.logs member) log → IsKept had log kept

told_twice : (a b e : Option Contents) (n k m member had : ℕ) (keeps : ℕ → Bool) (first second : LogRead) (kept : Kept) → ReadsBy a b n k (ReadAs member keeps had) HasDamage (Ok first)
    → ReadsBy b e k m (ReadAs member (set.contains nat_cmp first.taken.commits) had) HasDamage (Ok second)
    → kept.records.items ≡ second.taken.records.items → kept.before ≡ second.taken.before → kept.tail ≡ second.tail → ReadsBy a e n m (KeptAs member had) HasDamage (Ok kept)
told_twice a b e n k m member had keeps first second kept p q records before tail =
    let now : ℕ → Bool = set.contains nat_cmp first.taken.commits in
    let on : ReadsBy a e n m (λ (r : LogRead) c. r ≡ second → KeptAs member had kept c) HasDamage (Ok second) =
    reads_on a b e n k m (ReadAs member keeps had) HasDamage first (ReadAs member now had) (λ (r : LogRead) c. r ≡ second → KeptAs member had kept c) HasDamage HasDamage (Ok second) p q
    (λ r c one two is log of. kept_one keeps had log first second kept (read_as keeps had (log_of c.logs member) first log one of) (subst (λ (x : LogRead). IsRead now had log x) is (read_as now had (log_of c.logs member) r log two of)) records before tail) (λ i l c one bad. bad) in
    reads_to a e n m (λ (r : LogRead) c. r ≡ second → KeptAs member had kept c) HasDamage second (KeptAs member had) HasDamage (Ok kept) on (λ c is. is refl) (λ i l h. absurd (no_error i l h)) (λ h. no_failure h)
  where
    no_error : (i l : ℕ) → IsErrOf {T = Kept} {E = LogsFault} (Ok kept) (Damaged i l) → ⊥
    no_error i l h = cc

    no_failure : IsErrOf {T = Kept} {E = LogsFault} (Ok kept) Failed → ⊥
    no_failure h = cc

pub kept_told : (a b e : Option Contents) (n k m member had : ℕ) (keeps : ℕ → Bool) (first second : LogRead) (these : Keeps) (kept : Kept) → ReadsBy a b n k (ReadAs member keeps had) HasDamage (Ok first) → these ≡ which.These first.taken.commits
    → ReadsBy b e k m (ReadAs member (keeps_of these) had) HasDamage (Ok second)
    → kept.records.items ≡ second.taken.records.items → kept.before ≡ second.taken.before → kept.tail ≡ second.tail → ReadsBy a e n m (KeptAs member had) HasDamage (Ok kept)
kept_told a b e n k m member had keeps first second these kept p is q records before tail =
    told_twice a b e n k m member had keeps first second kept p (subst (λ (it : Keeps). ReadsBy b e k m (ReadAs member (keeps_of it) had) HasDamage (Ok second)) is q) records before tail

-- ---- one log more

told_push : (had : List ℕ) (logs : List (List LogRecord)) (log : List LogRecord) → all_told had (logs ++ log ∷ []) ≡ all_told had logs ++ told_of (get_or had (length logs) 0) log ∷ []
told_push [] [] log = refl
told_push (n ∷ had) [] log = refl
told_push [] (l ∷ logs) log = ap (λ (x : List (List LogRecord)). told_of 0 l ∷ x) (told_push [] logs log)
told_push (n ∷ had) (l ∷ logs) log = ap (λ (x : List (List LogRecord)). told_of n l ∷ x) (told_push had logs log)

before_push : (had : List ℕ) (logs : List (List LogRecord)) (log : List LogRecord) → all_before had (logs ++ log ∷ []) ≡ all_before had logs ++ told_before (get_or had (length logs) 0) log ∷ []
before_push [] [] log = refl
before_push (n ∷ had) [] log = refl
before_push [] (l ∷ logs) log = ap (λ (x : List ℕ). told_before 0 l ∷ x) (before_push [] logs log)
before_push (n ∷ had) (l ∷ logs) log = ap (λ (x : List ℕ). told_before n l ∷ x) (before_push had logs log)

whole_more : (logs : List Log) (log : Log) → AreWhole logs → log.tail ≡ 0 → AreWhole (logs ++ log ∷ [])
whole_more [] log h is = (is, tt)
whole_more (l ∷ logs) log h is = (h.0, whole_more logs log h.1 is)

whole_front : (logs : List Log) (log : Log) → AreWhole (logs ++ log ∷ []) → AreWhole logs
whole_front [] log h = tt
whole_front (l ∷ logs) log h = (h.0, whole_front logs log h.1)

whole_last : (logs : List Log) (log : Log) → AreWhole (logs ++ log ∷ []) → log.tail ≡ 0
whole_last [] log h = h.0
whole_last (l ∷ logs) log h = whole_last logs log h.1

count_of : (logs : List Log) → length (records_of logs) ≡ length logs
count_of [] = refl
count_of (l ∷ ls) = ap suc (count_of ls)

keeps_more : (had : List ℕ) (logs : List Log) (log : Log) (old new : KeptLogs) (kept : Kept) → AreKept had logs old → IsKept (get_or had (length logs) 0) log kept
    → records_of new.logs.items ≡ records_of old.logs.items ++ kept.records.items ∷ [] → new.had.items ≡ old.had.items ++ kept.before ∷ [] → Decides new.are_whole ((old.are_whole ≡ true) × (kept.tail ≡ 0)) → AreKept had (logs ++ log ∷ []) new
keeps_more had logs log old new kept h k records before whole =
    let lists : List (List LogRecord) = records_of logs in
    let count : length lists ≡ length logs = count_of logs in
    let split : records_of (logs ++ log ∷ []) ≡ lists ++ log.records ∷ [] = map-append (λ (l : Log). l.records) logs (log ∷ []) in
    let n : ℕ = get_or had (length logs) 0 in
    record {
      records_are = records ∙ ap (λ (x : List (List LogRecord)). x ++ kept.records.items ∷ []) h.records_are ∙ ap (λ (x : List LogRecord). all_told had lists ++ x ∷ []) k.records_are
          ∙ ap (λ (i : ℕ). all_told had lists ++ told_of (get_or had i 0) log.records ∷ []) (sym count) ∙ sym (told_push had lists log.records) ∙ ap (all_told had) (sym split);
      before_are = before ∙ ap (λ (x : List ℕ). x ++ kept.before ∷ []) h.before_are ∙ ap (λ (x : ℕ). all_before had lists ++ x ∷ []) k.before_is
          ∙ ap (λ (i : ℕ). all_before had lists ++ told_before (get_or had i 0) log.records ∷ []) (sym count) ∙ sym (before_push had lists log.records) ∙ ap (all_before had) (sym split);
      whole = (
        λ e. whole_more logs log (h.whole.0 (whole.0 e).0) (sym k.tail_is ∙ (whole.0 e).1),
        λ all. whole.1 (h.whole.1 (whole_front logs log all), k.tail_is ∙ whole_last logs log all),
      );
    }

abbrev pub KeepsNext : ℕ → List ℕ → KeptLogs → KeptLogs → Contents → Type 0
KeepsNext n had old new c = (log : Log) (logs : List Log) → IsLogOf (log_of c.logs (n + 1)) log → length logs ≡ n → AreKept had logs old → AreKept had (logs ++ log ∷ []) new

pub keeps_next : {Y : Type 0} (a b : Option Contents) (m k n member count : ℕ) (had : List ℕ) (old new : KeptLogs) (kept : Kept) (y : Y) → ReadsBy a b m k (KeptAs member count) HasDamage (Ok kept) → member ≡ n + 1 → count ≡ get_or had n 0
    → records_of new.logs.items ≡ records_of old.logs.items ++ kept.records.items ∷ [] → new.had.items ≡ old.had.items ++ kept.before ∷ [] → Decides new.are_whole ((old.are_whole ≡ true) × (kept.tail ≡ 0))
    → ReadsBy a b m k (λ (x : Y) c. KeepsNext n had old new c) HasDamage (Ok y)
keeps_next {Y} a b m k n member count had old new kept y p its had_is records before whole =
    reads_to a b m k (KeptAs member count) HasDamage kept (λ (x : Y) c. KeepsNext n had old new c) HasDamage (Ok y) p
    (λ c told log logs of long are.
    let is : IsKept count log kept = told log (subst (λ (i : ℕ). IsLogOf (log_of c.logs i) log) (sym its) of) in
    let at : count ≡ get_or had (length logs) 0 = had_is ∙ ap (λ (i : ℕ). get_or had i 0) (sym long) in
    keeps_more had logs log old new kept are (subst (λ (i : ℕ). IsKept i log kept) at is) records before whole)
    (λ i l h. absurd (no_error i l h)) (λ h. no_failure h)
  where
    no_error : (i l : ℕ) → IsErrOf {T = Y} {E = LogsFault} (Ok y) (Damaged i l) → ⊥
    no_error i l h = cc

    no_failure : IsErrOf {T = Y} {E = LogsFault} (Ok y) Failed → ⊥
    no_failure h = cc

-- ---- all logs

-- the last of them apart
pub record Split (bss : List (List ℕ)) (bs : List ℕ) (logs : List Log) : Type 0 where
  pub front : List Log
  pub last : Log
  pub is : logs ≡ front ++ last ∷ []
  pub are : AreLogsOf bss front
  pub of : IsLogOf bs last
  pub long : length front ≡ length bss

split_last : (bss : List (List ℕ)) (bs : List ℕ) (logs : List Log) → AreLogsOf (bss ++ bs ∷ []) logs → Split bss bs logs
split_last [] bs [] h = absurd h
split_last [] bs (l ∷ []) h = record { front = []; last = l; is = refl; are = tt; of = h.0; long = refl }
split_last [] bs (l ∷ m ∷ logs) h = absurd h.1
split_last (b ∷ bss) bs [] h = absurd h
split_last (b ∷ bss) bs (l ∷ logs) h =
    let s = split_last bss bs logs h.1 in
    record { front = l ∷ s.front; last = s.last; is = ap (λ (x : List Log). l ∷ x) s.is; are = (h.0, s.are); of = s.of; long = ap suc s.long }

taken_long : (n : ℕ) (bss : List (List ℕ)) → n < length bss → length (take n bss) ≡ n
taken_long n bss lt = length-take-le n bss (omega (arith, lt))

at_place : (n : ℕ) → n + 1 - 1 ≡ n
at_place n = omega arith

-- what is kept of the first logs
abbrev pub KeepsFirst : ℕ → List ℕ → KeptLogs → Contents → Type 0
KeepsFirst n had kept c = length c.logs ≡ 32 → (logs : List Log) → AreLogsOf (take n c.logs) logs → AreKept had logs kept

pub first_more : (n : ℕ) (had : List ℕ) (old new : KeptLogs) (c : Contents) → n < 32 → KeepsFirst n had old c → KeepsNext n had old new c → KeepsFirst (n + 1) had new c
first_more n had old new c lt first next = λ long logs are.
    let bytes : List ℕ = get_or c.logs n [] in
    let below : n < length c.logs = omega (arith, lt, long) in
    let s : Split (take n c.logs) bytes logs = split_last (take n c.logs) bytes logs (subst (λ (bss : List (List ℕ)). AreLogsOf bss logs) (take_more c.logs n [] below) are) in
    let of : IsLogOf (log_of c.logs (n + 1)) s.last = subst (λ (i : ℕ). IsLogOf (get_or c.logs i []) s.last) (sym (at_place n)) s.of in
    subst (λ (x : List Log). AreKept had x new) (sym s.is) (next s.last s.front of (s.long ∙ taken_long n c.logs below) (first long s.front s.are))

pub none_kept : (had : List ℕ) (kept : KeptLogs) (c : Contents) → kept.logs.items ≡ [] → kept.had.items ≡ [] → kept.are_whole ≡ true → KeepsFirst 0 had kept c
none_kept had kept c logs_are had_is whole = λ long logs are. none_of had logs are
  where
    none_of : (had : List ℕ) (logs : List Log) → AreLogsOf [] logs → AreKept had logs kept
    none_of [] [] h = record { records_are = ap records_of logs_are; before_are = had_is; whole = (λ e. tt, λ h. whole) }
    none_of (n ∷ had) [] h = record { records_are = ap records_of logs_are; before_are = had_is; whole = (λ e. tt, λ h. whole) }
    none_of had (l ∷ logs) h = absurd h

pub all_kept : (n : ℕ) (had : List ℕ) (kept : KeptLogs) (c : Contents) → n ≡ 32 → length c.logs ≡ 32 → KeepsFirst n had kept c → (logs : List Log) → AreLogsOf c.logs logs → AreKept had logs kept
all_kept n had kept c is long first = λ logs are. first long logs (subst (λ (bss : List (List ℕ)). AreLogsOf bss logs) (sym (take_all n c.logs (omega (arith, is, long)))) are)

-- ---- of a disk

no_fault : (i : ℕ) (f : LogsFault) → IsErrOf {T = ℕ} {E = LogsFault} (Ok i) f → ⊥
no_fault i f h = cc

-- nothing is kept yet
pub keeps_start : (a : Option Contents) (k : ℕ) (had : List ℕ) (kept : KeptLogs) → kept.logs.items ≡ [] → kept.had.items ≡ [] → kept.are_whole ≡ true → ReadsBy a a k k (λ (n : ℕ) c. KeepsFirst n had kept c) (λ m at c. ⊥) (Ok 0)
keeps_start a k had kept logs_are had_is whole = record {
  ok = told_all a (KeepsFirst 0 had kept) (λ c. none_kept had kept c logs_are had_is whole);
  damaged = λ m at h. absurd (no_fault 0 (Damaged m at) h);
  failed = λ h. absurd (no_fault 0 Failed h);
  same = same_at a;
  later = omega arith;
}

pub keeps_on : {Y : Type 0} (a b e : Option Contents) (i k m n : ℕ) (had : List ℕ) (old new : KeptLogs) (y : Y) → n < 32 → ReadsBy a b i k (λ (n : ℕ) c. KeepsFirst n had old c) (λ m at c. ⊥) (Ok n)
    → ReadsBy b e k m (λ (x : Y) c. KeepsNext n had old new c) HasDamage (Ok y) → ReadsBy a e i m (λ (n : ℕ) c. KeepsFirst n had new c) (λ m at c. ⊥) (Ok (n + 1))
keeps_on {Y} a b e i k m n had old new y lt p q =
    let on : ReadsBy a e i m (λ (x : Y) c. KeepsFirst (n + 1) had new c) HasDamage (Ok y) =
    reads_on a b e i k m (λ (n : ℕ) c. KeepsFirst n had old c) (λ m at c. ⊥) n (λ (x : Y) c. KeepsNext n had old new c) (λ (x : Y) c. KeepsFirst (n + 1) had new c) HasDamage HasDamage (Ok y) p q
    (λ x c first next. first_more n had old new c lt first next) (λ j at c first bad. bad) in
    reads_to a e i m (λ (x : Y) c. KeepsFirst (n + 1) had new c) HasDamage y (λ (n : ℕ) c. KeepsFirst n had new c) (λ m at c. ⊥) (Ok (n + 1)) on (λ c is. is) (λ j at h. absurd (no_fault (n + 1) (Damaged j at) h)) (λ h. no_fault (n + 1) Failed h)

all_told_of : (a : Option Contents) (n : ℕ) (had : List ℕ) (kept : KeptLogs) → n ≡ 32 → ((c : Contents) → a ≡ Some c → length c.logs ≡ 32) → WhenTold a (KeepsFirst n had kept) → WhenTold a (λ c. (logs : List Log) → AreLogsOf c.logs logs → AreKept had logs kept)
all_told_of None n had kept is law p = tt
all_told_of (Some c) n had kept is law p = all_kept n had kept c is (law c refl) p

pub keeps_all : (a b : Option Contents) (i k n : ℕ) (had : List ℕ) (kept : KeptLogs) → n ≡ 32 → ((c : Contents) → a ≡ Some c → length c.logs ≡ 32) → ReadsBy a b i k (λ (n : ℕ) c. KeepsFirst n had kept c) (λ m at c. ⊥) (Ok n)
    → ReadsBy a b i k (λ (x : KeptLogs) c. (logs : List Log) → AreLogsOf c.logs logs → AreKept had logs x) HasDamage (Ok kept)
keeps_all a b i k n had kept is law p = record {
  ok = all_told_of a n had kept is law p.ok;
  damaged = λ m at h. absurd (no_error m at h);
  failed = λ h. absurd (no_failure h);
  same = p.same;
  later = p.later;
}
  where
    no_error : (m at : ℕ) → IsErrOf {T = KeptLogs} {E = LogsFault} (Ok kept) (Damaged m at) → ⊥
    no_error m at h = cc

    no_failure : IsErrOf {T = KeptLogs} {E = LogsFault} (Ok kept) Failed → ⊥
    no_failure h = cc
