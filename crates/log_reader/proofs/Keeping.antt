-- What is kept of a log that is read on.
use Rattle.std.proofs.Common.{◌≡◌, ℕ, get_or, ◌+◌, ◌-◌, ◌<◌, ◌≤◌, Bool, true, List, [], ◌∷◌, ◌++◌, length, take, drop, Result, Ok, Err, refl, sym, ap, subst, ◌∙◌, append_assoc, arith, lit<, inl, inr}
use Rattle.std.specs.Prelude.{nat_lt, ◌||◌}
use Rattle.std.specs.List.{AllByRecursion}
use Rattle.std.proofs.lemmas.Bool.{cond_both, cases_lt}
use Rattle.std.proofs.lemmas.Grind.{flat_map-append}
use Rattle.std.proofs.lemmas.List.{append-nil, length-append, length-drop, length-take-le, take-append-le, take-take, take_all, drop-drop, drop-take, take-append-drop, get_or-drop, get_or_past}
use Rattle.std.proofs.Math.ListN.{get_or-append}
use Rattle.std.proofs.Math.Seq.{take-add, get_or-append_right}
use Rattle.ds_model.specs.declared.log.LogRecord.{LogRecord}
use Rattle.ds_model.specs.RecordBytes.{IsAllowed, record_bytes, log_bytes}
use Rattle.log_record.specs.declared.fault.RecordFault.{RecordFault}
use Rattle.log_record.specs.Reading.{Found, record_in}
use Rattle.log_record.specs.declared.log.Log.{Log}
use Rattle.log_record.specs.Logs.{Parts, parts_in, parts_of, behind}
use Rattle.log_head.specs.Laws.{FirstIsWhole, NoneIsWhole, PartsGoOn}
use Rattle.log_head.specs.Whole.{whole_records}
use Rattle.log_reader.specs.declared.held.Mark.{Mark}
use Rattle.log_reader.specs.Held.{HeldState, nothing_held, held_from, begins_at, begun_at, gone_on, marked_one, marked_all, first_mark, with_mark, settled, grown}
use Rattle.log_reader.specs.Readers.{ReaderState, IsLogRead, parts_behind}
use Rattle.log_reader.proofs.Marks.{one_behind}
use Rattle.log_reader.specs.Keeping.{AreBytes, AreWhole, IsOf, HasLastOf}

-- a record that is read in bytes stands there
abbrev pub FoundInBytes : Type 0
FoundInBytes = (bytes : List ℕ) (r : LogRecord) (n : ℕ) → AreBytes bytes → record_in bytes ≡ Ok (r, n) → Found bytes r n

-- and one that stands at the front is read, whatever follows it
abbrev pub ReadAgain : Type 0
ReadAgain = (r : LogRecord) (rest : List ℕ) → IsAllowed r → record_in (record_bytes r ++ rest) ≡ Ok (r, length (record_bytes r))

-- ---- whole records

pub none_whole : AreWhole []
none_whole = record { records = []; spelled = refl; allowed = tt }

each_append : (P : LogRecord → Type 0) (xs ys : List LogRecord) → AllByRecursion P xs → AllByRecursion P ys → AllByRecursion P (xs ++ ys)
each_append P [] ys h k = k
each_append P (x ∷ xs) ys h k = (h.0, each_append P xs ys h.1 k)

pub both_whole : (a b : List ℕ) → AreWhole a → AreWhole b → AreWhole (a ++ b)
both_whole a b x y = record {
  records = x.records ++ y.records;
  spelled = ap (λ (t : List ℕ). t ++ b) x.spelled ∙ ap (λ (t : List ℕ). log_bytes x.records ++ t) y.spelled ∙ sym (flat_map-append record_bytes x.records y.records);
  allowed = each_append IsAllowed x.records y.records x.allowed y.allowed;
}

pub as_whole : (a b : List ℕ) → a ≡ b → AreWhole b → AreWhole a
as_whole a b e is = subst AreWhole (sym e) is

one_whole : (bytes : List ℕ) (r : LogRecord) (n : ℕ) → Found bytes r n → AreWhole (take n bytes)
one_whole bytes r n f = record { records = r ∷ []; spelled = f.spelled ∙ sym (append-nil (record_bytes r)); allowed = (f.allowed, tt) }

-- ---- bytes

pub drop_bytes : (k : ℕ) (bytes : List ℕ) → AreBytes bytes → AreBytes (drop k bytes)
drop_bytes k bytes h i = subst (λ (b : ℕ). b < 256) (sym (get_or-drop k bytes i 0)) (h (k + i))

both_bytes : (a b : List ℕ) → AreBytes a → AreBytes b → AreBytes (a ++ b)
both_bytes a b h k i = elim (cases_lt i (length a)) [
  | inl less ↦ subst (λ (x : ℕ). x < 256) (sym (get_or-append a b 0 i less)) (h i)
  | inr more ↦ subst (λ (x : ℕ). x < 256) (sym (get_or-append_right a b i 0 more)) (k (i - length a))
]

pub take_bytes : (n : ℕ) (bytes : List ℕ) → AreBytes bytes → AreBytes (take n bytes)
take_bytes n bytes h i = elim (cases_lt i (length (take n bytes))) [
  | inl less ↦ subst (λ (x : ℕ). x < 256) (get_or-append (take n bytes) (drop n bytes) 0 i less) (subst (λ (t : List ℕ). get_or t i 0 < 256) (sym (take-append-drop n bytes)) (h i))
  | inr more ↦ subst (λ (x : ℕ). x < 256) (sym (get_or_past (take n bytes) i 0 more)) (lit< tt)
]

-- ---- marks

-- the bytes before the mark are whole records, and so are those from it on up to where they were looked at
pub record IsMark (bytes : List ℕ) (m : Mark) : Type 0 where
  pub order : m.from ≤ m.to
  pub within : m.to ≤ length bytes
  pub front : AreWhole (take m.from bytes)
  pub looked : AreWhole (take (m.to - m.from) (drop m.from bytes))

up_to : (bytes : List ℕ) (m : Mark) → IsMark bytes m → AreWhole (take m.to bytes)
up_to bytes m is =
    let split : m.to ≡ m.from + (m.to - m.from) = omega (arith, is.order) in
    as_whole (take m.to bytes) (take m.from bytes ++ take (m.to - m.from) (drop m.from bytes)) (ap (λ (n : ℕ). take n bytes) split ∙ take-add m.from (m.to - m.from) bytes) (both_whole (take m.from bytes) (take (m.to - m.from) (drop m.from bytes)) is.front is.looked)

module _ (found : FoundInBytes) (first : FirstIsWhole) (none : NoneIsWhole) where
  -- the next record
  one_more : (start : ℕ) (bytes : List ℕ) (m : Mark) (r : LogRecord) (n : ℕ) → IsMark bytes m → Found (drop m.to bytes) r n → n ≡ length (record_bytes r) → IsMark bytes (marked_one start m r)
  one_more start bytes m r n is f size =
      let left = length-drop m.to bytes in
      let long : length (record_bytes r) ≤ length bytes - m.to = omega (arith, f.within, left, size) in
      let new : AreWhole (take (length (record_bytes r)) (drop m.to bytes)) = subst (λ (k : ℕ). AreWhole (take k (drop m.to bytes))) size (one_whole (drop m.to bytes) r n f) in
      let all : m.to + length (record_bytes r) - m.to ≡ length (record_bytes r) = omega arith in
      let behind : m.from + (m.to - m.from) ≡ m.to = omega (arith, is.order) in
      let more : m.to + length (record_bytes r) - m.from ≡ (m.to - m.from) + length (record_bytes r) = omega (arith, is.order) in
      let joined : take (m.to + length (record_bytes r) - m.from) (drop m.from bytes) ≡ take (m.to - m.from) (drop m.from bytes) ++ take (length (record_bytes r)) (drop m.to bytes) =
      ap (λ (k : ℕ). take k (drop m.from bytes)) more ∙ take-add (m.to - m.from) (length (record_bytes r)) (drop m.from bytes)
      ∙ ap (λ (t : List ℕ). take (m.to - m.from) (drop m.from bytes) ++ take (length (record_bytes r)) t) (drop-drop (m.to - m.from) m.from bytes ∙ ap (λ (k : ℕ). drop k bytes) behind) in
      cond_both (begins_at (start + m.to) r) (begun_at m r) (gone_on (start + m.to) m r) (IsMark bytes)
      (λ _. record { order = omega arith; within = omega (arith, long, is.within); front = up_to bytes m is; looked = subst (λ (k : ℕ). AreWhole (take k (drop m.to bytes))) (sym all) new })
      (λ _. record {
        order = omega (arith, is.order);
        within = omega (arith, long, is.within);
        front = is.front;
        looked = as_whole (take (m.to + length (record_bytes r) - m.from) (drop m.from bytes)) (take (m.to - m.from) (drop m.from bytes) ++ take (length (record_bytes r)) (drop m.to bytes)) joined
            (both_whole (take (m.to - m.from) (drop m.from bytes)) (take (length (record_bytes r)) (drop m.to bytes)) is.looked new);
      })

  pub size_is : (bytes : List ℕ) (r : LogRecord) (n : ℕ) → Found bytes r n → n ≡ length (record_bytes r)
  size_is bytes r n f = sym (length-take-le n bytes f.within) ∙ ap (λ (t : List ℕ). length t) f.spelled

  -- what is known of the records behind this one
  abbrev MarksRest : ℕ → List ℕ → List LogRecord → Type 0
  MarksRest start bytes rs = (m : Mark) → IsMark bytes m → whole_records (drop m.to bytes) ≡ rs → IsMark bytes (marked_all start m rs)

  pub no_more : (x : LogRecord) (xs : List LogRecord) → x ∷ xs ≡ [] → ⊥
  no_more x xs e = cc

  read_marked : (start : ℕ) (bytes : List ℕ) (m : Mark) (r : LogRecord) (rs : List LogRecord) (f : Result (LogRecord × ℕ) RecordFault) → AreBytes bytes → IsMark bytes m → whole_records (drop m.to bytes) ≡ r ∷ rs → record_in (drop m.to bytes) ≡ f → MarksRest start bytes rs
      → IsMark bytes (marked_all start (marked_one start m r) rs)
  read_marked start bytes m r rs (Err fault) h is e read rest = absurd (no_more r rs (sym e ∙ none (drop m.to bytes) fault read))
  read_marked start bytes m r rs (Ok (x, n)) h is e read rest =
      let both : x ∷ whole_records (drop n (drop m.to bytes)) ≡ r ∷ rs = sym (first (drop m.to bytes) x n read) ∙ e in
      let same : x ≡ r = cc in
      let behind : whole_records (drop n (drop m.to bytes)) ≡ rs = cc in
      let f : Found (drop m.to bytes) r n = subst (λ (y : LogRecord). Found (drop m.to bytes) y n) same (found (drop m.to bytes) x n (drop_bytes m.to bytes h) read) in
      let size = size_is (drop m.to bytes) r n f in
      let at : (marked_one start m r).to ≡ m.to + n = (one_behind start m r).to ∙ ap (λ (k : ℕ). m.to + k) (sym size) in
      let left : whole_records (drop (marked_one start m r).to bytes) ≡ rs = ap (λ (k : ℕ). whole_records (drop k bytes)) at ∙ ap whole_records (sym (drop-drop n m.to bytes)) ∙ behind in
      rest (marked_one start m r) (one_more start bytes m r n is f size) left

  pub all_marked : (start : ℕ) (bytes : List ℕ) (rs : List LogRecord) → AreBytes bytes → MarksRest start bytes rs
  all_marked start bytes [] h = λ m is e. is
  all_marked start bytes (r ∷ rs) h = λ m is e. read_marked start bytes m r rs (record_in (drop m.to bytes)) h is e refl (all_marked start bytes rs h)

  -- ---- what is kept

  pub nothing_is : (log : List ℕ) (keeps_all : Bool) → IsOf log (nothing_held keeps_all)
  nothing_is log keeps_all = record { within = omega arith; ends = refl; told = refl; bytes = λ i. subst (λ (x : ℕ). x < 256) (sym (get_or_past [] i 0 (omega arith))) (lit< tt); passed = omega arith; before = none_whole; looked = none_whole }

  pub beginning_is : (log : List ℕ) (place : ℕ) → place ≤ length log → AreWhole (take place log) → IsOf log (held_from place)
  beginning_is log place within whole =
      record { within = within; ends = omega arith; told = refl; bytes = λ i. subst (λ (x : ℕ). x < 256) (sym (get_or_past [] i 0 (omega arith))) (lit< tt); passed = omega arith; before = whole; looked = none_whole }

  -- from the mark on
  from_mark : (log : List ℕ) (h : HeldState) (m : Mark) → IsOf log h → IsMark h.bytes m → IsOf log (record { start = h.start + m.from; end = h.end; bytes = drop m.from h.bytes; passed = m.to - m.from; low = m.low; keeps_all = h.keeps_all; has_old = m.has_old })
  from_mark log h m is mark =
      let left = length-drop m.from h.bytes in
      let split : length h.bytes ≡ m.from + length (drop m.from h.bytes) = omega (arith, left, mark.order, mark.within) in
      let here : take m.from h.bytes ≡ take m.from (drop h.start log) = ap (take m.from) is.told ∙ take-take m.from (length h.bytes) (drop h.start log) (omega (arith, mark.order, mark.within)) in
      record {
        within = is.within;
        ends = omega (arith, is.ends, split);
        told = ap (drop m.from) is.told ∙ ap (λ (k : ℕ). drop m.from (take k (drop h.start log))) split ∙ drop-take m.from (length (drop m.from h.bytes)) (drop h.start log)
            ∙ ap (take (length (drop m.from h.bytes))) (drop-drop m.from h.start log);
        bytes = drop_bytes m.from h.bytes is.bytes;
        passed = omega (arith, left, mark.order, mark.within);
        before = as_whole (take (h.start + m.from) log) (take h.start log ++ take m.from h.bytes) (take-add h.start m.from log ∙ ap (λ (t : List ℕ). take h.start log ++ t) (sym here)) (both_whole (take h.start log) (take m.from h.bytes) is.before mark.front);
        looked = mark.looked;
      }

  with_mark_is : (log : List ℕ) (h : HeldState) (m : Mark) → IsOf log h → IsMark h.bytes m → IsOf log (with_mark h m)
  with_mark_is log h m is mark = cond_both m.wants_all (nothing_held true) (record { start = h.start + m.from; end = h.end; bytes = drop m.from h.bytes; passed = m.to - m.from; low = m.low; keeps_all = h.keeps_all; has_old = m.has_old }) (IsOf log) (λ _. nothing_is log true) (λ _. from_mark log h m is mark)

  pub first_is : (h : HeldState) (log : List ℕ) → IsOf log h → IsMark h.bytes (first_mark h.passed h.low h.has_old)
  first_is h log is =
      let all : h.passed - 0 ≡ h.passed = omega arith in
      record { order = omega arith; within = is.passed; front = none_whole; looked = subst (λ (k : ℕ). AreWhole (take k h.bytes)) (sym all) is.looked }

  settled_is : (log : List ℕ) (h : HeldState) → IsOf log h → IsOf log (settled h)
  unfolding settled
  settled_is log h is = cond_both (h.keeps_all || nat_lt (length h.bytes) h.passed) h (with_mark h (marked_all h.start (first_mark h.passed h.low h.has_old) (whole_records (drop h.passed h.bytes)))) (IsOf log)
      (λ _. is)
      (λ _. with_mark_is log h (marked_all h.start (first_mark h.passed h.low h.has_old) (whole_records (drop h.passed h.bytes))) is (all_marked h.start h.bytes (whole_records (drop h.passed h.bytes)) is.bytes (first_mark h.passed h.low h.has_old) (first_is h log is) refl))

  pub more_is : (log : List ℕ) (h : HeldState) (more : List ℕ) → IsOf log h → AreBytes more → h.end + length more ≤ length log → more ≡ take (length more) (drop h.end log) → IsOf log (record { start = h.start; end = h.end + length more; bytes = h.bytes ++ more; passed = h.passed; low = h.low; keeps_all = h.keeps_all; has_old = h.has_old })
  more_is log h more is are within next =
      let long = length-append h.bytes more in
      record {
        within = within;
        ends = omega (arith, is.ends, long);
        told = ap (λ (t : List ℕ). t ++ more) is.told ∙ ap (λ (t : List ℕ). take (length h.bytes) (drop h.start log) ++ t) (next ∙ ap (λ (k : ℕ). take (length more) (drop k log)) (sym is.ends) ∙ ap (take (length more)) (sym (drop-drop (length h.bytes) h.start log)))
            ∙ sym (take-add (length h.bytes) (length more) (drop h.start log)) ∙ ap (λ (k : ℕ). take k (drop h.start log)) (sym long);
        bytes = both_bytes h.bytes more is.bytes are;
        passed = omega (arith, is.passed, long);
        before = is.before;
        looked = as_whole (take h.passed (h.bytes ++ more)) (take h.passed h.bytes) (take-append-le h.passed h.bytes more is.passed) is.looked;
      }

  pub keeping_is : (log : List ℕ) (h : HeldState) (keeps_all : Bool) → IsOf log h → IsOf log (record h { keeps_all = keeps_all })
  keeping_is log h keeps_all is = record { within = is.within; ends = is.ends; told = is.told; bytes = is.bytes; passed = is.passed; before = is.before; looked = is.looked }

  pub grown_is : (log : List ℕ) (h : HeldState) (block : List ℕ) (n : ℕ) → IsOf log h → AreBytes block → h.end + n ≤ length log → take n block ≡ take n (drop h.end log) → IsOf log (grown h (take n block))
  grown_is log h block n is are within next =
      let more : List ℕ = take n block in
      let left = length-drop h.end log in
      let long : length more ≡ n = ap (λ (t : List ℕ). length t) next ∙ length-take-le n (drop h.end log) (omega (arith, left, within)) in
      settled_is log (record { start = h.start; end = h.end + length more; bytes = h.bytes ++ more; passed = h.passed; low = h.low; keeps_all = h.keeps_all; has_old = h.has_old })
      (more_is log h more is (take_bytes n block are) (omega (arith, within, long)) (next ∙ ap (λ (k : ℕ). take k (drop h.end log)) (sym long)))

-- ---- what is read

-- the parts of whole records, and then those of what follows them
abbrev pub prefixed : List LogRecord → Result Parts ℕ → Result Parts ℕ
prefixed [] q = q
prefixed (r ∷ rs) q = behind r (length (record_bytes r)) (prefixed rs q)

pub drop_first : (xs ys : List ℕ) → drop (length xs) (xs ++ ys) ≡ ys
drop_first [] ys = refl
drop_first (x ∷ xs) ys = drop_first xs ys

pub front_parts : ReadAgain → PartsGoOn → (front : List LogRecord) (rest : List ℕ) → AllByRecursion IsAllowed front → parts_in (log_bytes front ++ rest) ≡ prefixed front (parts_in rest)
front_parts again goes [] rest h = refl
front_parts again goes (r ∷ rs) rest h =
    let b = record_bytes r in
    let joined : log_bytes (r ∷ rs) ++ rest ≡ b ++ (log_bytes rs ++ rest) = append_assoc b (log_bytes rs) rest in
    ap parts_in joined
    ∙ goes (b ++ (log_bytes rs ++ rest)) r (length b) (again r (log_bytes rs ++ rest) h.0)
    ∙ ap (λ (t : List ℕ). behind r (length b) (parts_in t)) (drop_first b (log_bytes rs ++ rest))
    ∙ ap (behind r (length b)) (front_parts again goes rs rest h.1)

pub front_ok : (front : List LogRecord) (p : Parts) → prefixed front (Ok p) ≡ Ok (record { records = front ++ p.records; size = length (log_bytes front) + p.size; tail = p.tail })
front_ok [] p =
    let none : p.size ≡ 0 + p.size = omega arith in
    ap (λ (n : ℕ). Ok (record { records = p.records; size = n; tail = p.tail })) none
front_ok (r ∷ rs) p =
    let b = record_bytes r in
    let long : length b + (length (log_bytes rs) + p.size) ≡ length (b ++ log_bytes rs) + p.size = omega (arith, length-append b (log_bytes rs)) in
    ap (behind r (length b)) (front_ok rs p) ∙ ap (λ (n : ℕ). Ok (record { records = r ∷ (rs ++ p.records); size = n; tail = p.tail })) long

-- the parts that were read are those of the bytes
pub record AreParts (start : ℕ) (q : Result Parts ℕ) (log : Log) : Type 0 where
  pub size : ℕ
  pub is : q ≡ Ok (record { records = log.records; size = size; tail = log.tail })
  pub length_is : log.length ≡ start + size

pub parts_are : (start : ℕ) (q : Result Parts ℕ) (log : Log) → parts_behind start q ≡ Ok (parts_of log) → AreParts start q log
parts_are start (Err at) log e = absurd cc
parts_are start (Ok p) log e =
    let moved : Parts = record { records = p.records; size = start + p.size; tail = p.tail } in
    let same : moved ≡ parts_of log = cc in
    record {
      size = p.size;
      is = ap (λ (z : Parts). Ok (record { records = z.records; size = p.size; tail = z.tail })) same;
      length_is = sym (ap (λ (z : Parts). z.size) same);
    }

split_log : (bytes : List ℕ) (h : HeldState) → IsOf bytes h → length bytes ≤ h.end → bytes ≡ take h.start bytes ++ h.bytes
split_log bytes h is whole =
    let left = length-drop h.start bytes in
    let all : h.bytes ≡ drop h.start bytes = is.told ∙ take_all (length h.bytes) (drop h.start bytes) (omega (arith, left, is.ends, whole)) in
    sym (take-append-drop h.start bytes) ∙ ap (λ (t : List ℕ). take h.start bytes ++ t) (sym all)

take_behind : (k n : ℕ) (xs ys : List ℕ) → length xs ≡ k → k ≤ n → take n (xs ++ ys) ≡ xs ++ take (n - k) ys
take_behind k n xs ys long le =
    let split : n ≡ length xs + (n - k) = omega (arith, long, le) in
    ap (λ (m : ℕ). take m (xs ++ ys)) split ∙ take-add (length xs) (n - k) (xs ++ ys)
    ∙ ap (λ (t : List ℕ). t ++ take (n - k) (drop (length xs) (xs ++ ys))) (take-append-le (length xs) xs ys (omega arith) ∙ take_all (length xs) xs (omega arith))
    ∙ ap (λ (t : List ℕ). xs ++ take (n - k) t) (drop_first xs ys)

pub read_last : ReadAgain → PartsGoOn → (bytes : List ℕ) (r : ReaderState) (log : Log) → IsOf bytes r.held → length bytes ≤ r.held.end → IsLogRead r log → HasLastOf bytes log
read_last again goes bytes r log is whole read =
    let h = r.held in
    let front = is.before.records in
    let p = parts_are h.start (parts_in h.bytes) log read.is_read in
    let whole_log : bytes ≡ log_bytes front ++ h.bytes = split_log bytes h is whole ∙ ap (λ (t : List ℕ). t ++ h.bytes) is.before.spelled in
    let begin : length (log_bytes front) ≡ h.start = ap (λ (t : List ℕ). length t) (sym is.before.spelled) ∙ length-take-le h.start bytes (omega (arith, is.within, is.ends)) in
    let size : length (log_bytes front) + p.size ≡ log.length = omega (arith, begin, p.length_is) in
    let parts : parts_in bytes ≡ Ok (record { records = front ++ log.records; size = log.length; tail = log.tail }) =
    ap parts_in whole_log ∙ front_parts again goes front h.bytes is.before.allowed ∙ ap (prefixed front) p.is ∙ front_ok front (record { records = log.records; size = p.size; tail = log.tail })
    ∙ ap (λ (n : ℕ). Ok (record { records = front ++ log.records; size = n; tail = log.tail })) size in
    record {
      front = front;
      is = record {
        is_read = parts;
        spelled = ap (take log.length) whole_log ∙ take_behind h.start log.length (log_bytes front) h.bytes begin read.begins ∙ ap (λ (t : List ℕ). log_bytes front ++ t) read.spelled ∙ sym (flat_map-append record_bytes front log.records);
        allowed = each_append IsAllowed front log.records is.before.allowed read.allowed;
        whole = omega (arith, read.whole, is.ends, is.within, whole);
      };
    }
