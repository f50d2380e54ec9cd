-- Whether a record of version 1 was noted, of a log that is read on.
use Rattle.std.proofs.Common.{◌≡◌, ℕ, ◌+◌, ◌-◌, ◌≤◌, Bool, true, false, List, [], ◌∷◌, ◌++◌, length, take, drop, Result, Ok, Err, refl, sym, ap, subst, ◌∙◌, append_assoc, arith}
use Rattle.std.specs.Prelude.{nat_lt, not, ◌||◌}
use Rattle.std.specs.List.{AllByRecursion}
use Rattle.std.proofs.lemmas.Bool.{and_parts, cond_both}
use Rattle.std.proofs.lemmas.List.{append-nil, length-append, length-drop, length-take, take-take, drop-take, take-append-drop, drop-drop}
use Rattle.std.proofs.lemmas.List.Folds.{list_any-append}
use Rattle.std.proofs.Math.Seq.{take-add}
use Rattle.ds_model.specs.declared.log.LogRecord.{LogRecord}
use Rattle.ds_model.specs.RecordBytes.{IsAllowed, is_written, record_bytes, log_bytes}
use Rattle.log_record.specs.declared.fault.RecordFault.{RecordFault}
use Rattle.log_record.specs.declared.fault.RecordFault.TheVariants.{NotWhole}
use Rattle.log_record.specs.Reading.{Found, record_in}
use Rattle.log_record.specs.declared.log.Log.{Log}
use Rattle.log_record.specs.Logs.{Parts, parts_in, behind}
use Rattle.log_head.specs.Laws.{FirstIsWhole, NoneIsWhole, NothingIsShort, PartsAreWhole, PartsGoOn}
use Rattle.log_head.specs.Whole.{whole_records}
use Rattle.log_reader.specs.declared.held.Mark.{Mark}
use Rattle.log_reader.specs.Held.{HeldState, names, is_old, begins_at, begun_at, gone_on, marked_one, marked_all, first_mark, nothing_held, with_mark, settled, grown}
use Rattle.log_reader.specs.Readers.{ReaderState, IsLogRead}
use Rattle.log_reader.specs.Keeping.{AreBytes, AreWhole, IsOf, HasLastOf, any_old, IsNoted}
use Rattle.log_reader.proofs.Marks.{one_behind}
use Rattle.log_reader.proofs.Keeping.{FoundInBytes, ReadAgain, both_whole, as_whole, drop_bytes, take_bytes, no_more, size_is, IsMark, all_marked, first_is, more_is, prefixed, drop_first, front_parts, parts_are}

-- ---- tests

or_false : (a : Bool) → a ≡ (a || false)
or_false true = refl
or_false false = refl

or_more : (a b c : Bool) → ((a || b) || c) ≡ (a || (b || c))
or_more true b c = refl
or_more false b c = refl

-- what is among the last ones anyway adds nothing
or_again : (a b c : Bool) → (a || (b || c)) ≡ ((a || b) || (b || c))
or_again true b c = refl
or_again false true c = refl
or_again false false c = refl

both_old : (xs ys : List LogRecord) → any_old (xs ++ ys) ≡ (any_old xs || any_old ys)
both_old xs ys = list_any-append (λ (r : LogRecord). is_old r) xs ys

-- ---- marks

one_noted : (start : ℕ) (m : Mark) (r : LogRecord) → (marked_one start m r).has_old ≡ (m.has_old || is_old r)
one_noted start m r = cond_both (begins_at (start + m.to) r) (begun_at m r) (gone_on (start + m.to) m r) (λ (z : Mark). z.has_old ≡ (m.has_old || is_old r))
    (λ e. or_false m.has_old ∙ ap (λ (w : Bool). m.has_old || not w) (sym (and_parts (is_written r.version) (names (start + m.to) r.body) e).0))
    (λ _. refl)

mark_noted : (start : ℕ) (m : Mark) (rs : List LogRecord) → (marked_all start m rs).has_old ≡ (m.has_old || any_old rs)
mark_noted start m [] = or_false m.has_old
mark_noted start m (r ∷ rs) = mark_noted start (marked_one start m r) rs ∙ ap (λ (b : Bool). b || any_old rs) (one_noted start m r) ∙ or_more m.has_old (is_old r) (any_old rs)

mark_to : (start : ℕ) (m : Mark) (rs : List LogRecord) → (marked_all start m rs).to ≡ m.to + length (log_bytes rs)
mark_to start m [] = omega arith
mark_to start m (r ∷ rs) =
    let rest = mark_to start (marked_one start m r) rs in
    let one = (one_behind start m r).to in
    omega (arith, rest, one, length-append (record_bytes r) (log_bytes rs))

-- ---- the whole records of bytes

module _ (again : ReadAgain) (first : FirstIsWhole) where
  front_whole : (front : List LogRecord) (rest : List ℕ) → AllByRecursion IsAllowed front → whole_records (log_bytes front ++ rest) ≡ front ++ whole_records rest
  front_whole [] rest h = refl
  front_whole (r ∷ rs) rest h =
      let b = record_bytes r in
      let joined : log_bytes (r ∷ rs) ++ rest ≡ b ++ (log_bytes rs ++ rest) = append_assoc b (log_bytes rs) rest in
      ap whole_records joined
      ∙ first (b ++ (log_bytes rs ++ rest)) r (length b) (again r (log_bytes rs ++ rest) h.0)
      ∙ ap (λ (t : List ℕ). r ∷ whole_records t) (drop_first b (log_bytes rs ++ rest))
      ∙ ap (λ (t : List LogRecord). r ∷ t) (front_whole rs rest h.1)

  module _ (none : NoneIsWhole) (empty : NothingIsShort) where
    all_whole : (bytes : List ℕ) (w : AreWhole bytes) → whole_records bytes ≡ w.records
    all_whole bytes w =
        ap whole_records (w.spelled ∙ sym (append-nil (log_bytes w.records))) ∙ front_whole w.records [] w.allowed ∙ ap (λ (t : List LogRecord). w.records ++ t) (none [] NotWhole empty) ∙ append-nil w.records

    both_records : (a b : List ℕ) → AreWhole a → whole_records (a ++ b) ≡ whole_records a ++ whole_records b
    both_records a b w =
        ap (λ (t : List ℕ). whole_records (t ++ b)) w.spelled ∙ front_whole w.records b w.allowed ∙ ap (λ (t : List LogRecord). t ++ whole_records b) (sym (all_whole a w))

    module _ (found : FoundInBytes) where
      abbrev IsFront : List LogRecord → List ℕ → Type 0
      IsFront rs bytes = (take (length (log_bytes rs)) bytes ≡ log_bytes rs) × AllByRecursion IsAllowed rs

      read_front : (r : LogRecord) (rs : List LogRecord) (bytes : List ℕ) (f : Result (LogRecord × ℕ) RecordFault) → AreBytes bytes → whole_records bytes ≡ r ∷ rs → record_in bytes ≡ f
          → ((rest : List ℕ) → AreBytes rest → whole_records rest ≡ rs → IsFront rs rest) → IsFront (r ∷ rs) bytes
      read_front r rs bytes (Err fault) h e read more = absurd (no_more found first none r rs (sym e ∙ none bytes fault read))
      read_front r rs bytes (Ok (x, n)) h e read more =
          let both : x ∷ whole_records (drop n bytes) ≡ r ∷ rs = sym (first bytes x n read) ∙ e in
          let same : x ≡ r = cc in
          let left : whole_records (drop n bytes) ≡ rs = cc in
          let f : Found bytes r n = subst (λ (y : LogRecord). Found bytes y n) same (found bytes x n h read) in
          let size = size_is found first none bytes r n f in
          let rest = more (drop n bytes) (drop_bytes n bytes h) left in
          let k = length (log_bytes rs) in
          let long : length (log_bytes (r ∷ rs)) ≡ n + k = omega (arith, size, length-append (record_bytes r) (log_bytes rs)) in (
            ap (λ (z : ℕ). take z bytes) long ∙ take-add n k bytes ∙ ap (λ (t : List ℕ). t ++ take k (drop n bytes)) f.spelled ∙ ap (λ (t : List ℕ). record_bytes r ++ t) rest.0,
            (f.allowed, rest.1),
          )

      are_front : (rs : List LogRecord) (bytes : List ℕ) → AreBytes bytes → whole_records bytes ≡ rs → IsFront rs bytes
      are_front [] bytes h e = (refl, tt)
      are_front (r ∷ rs) bytes h e = read_front r rs bytes (record_in bytes) h e refl (λ rest are is. are_front rs rest are is)

      -- ---- what is kept

      pub nothing_noted : (log : List ℕ) (keeps_all : Bool) → IsNoted log (nothing_held keeps_all)
      nothing_noted log keeps_all = ap any_old (sym (none [] NotWhole empty))

      -- all that was looked at are whole records
      looked_whole : (log : List ℕ) (h : HeldState) → IsOf log h → AreWhole (take h.start log ++ take h.passed h.bytes)
      looked_whole log h is = both_whole (take h.start log) (take h.passed h.bytes) is.before is.looked

      looked_at : (log : List ℕ) (h : HeldState) → IsOf log h → take (h.start + h.passed) log ≡ take h.start log ++ take h.passed h.bytes
      looked_at log h is =
          take-add h.start h.passed log ∙ ap (λ (t : List ℕ). take h.start log ++ t) (sym (ap (take h.passed) is.told ∙ take-take h.passed (length h.bytes) (drop h.start log) is.passed))

      -- the bytes that are kept and weren't looked at, as far as these
      next_at : (log : List ℕ) (h : HeldState) (n : ℕ) → IsOf log h → n ≤ length (drop h.passed h.bytes) → take n (drop (h.start + h.passed) log) ≡ take n (drop h.passed h.bytes)
      next_at log h n is few =
          let left = length-drop h.passed h.bytes in
          let rest = length h.bytes - h.passed in
          let split : length h.bytes ≡ h.passed + rest = omega (arith, is.passed) in
          let kept : drop h.passed h.bytes ≡ take rest (drop h.passed (drop h.start log)) =
          ap (drop h.passed) is.told ∙ ap (λ (k : ℕ). drop h.passed (take k (drop h.start log))) split ∙ drop-take h.passed rest (drop h.start log) in
          ap (take n) (sym (drop-drop h.passed h.start log)) ∙ sym (ap (take n) kept ∙ take-take n rest (drop h.passed (drop h.start log)) (omega (arith, few, left)))

      -- so many bytes more are these whole records
      more_noted : (log : List ℕ) (h : HeldState) (n : ℕ) → IsOf log h → IsNoted log h → n ≡ length (log_bytes (whole_records (drop h.passed h.bytes)))
          → (h.has_old || any_old (whole_records (drop h.passed h.bytes))) ≡ any_old (whole_records (take (h.start + h.passed + n) log))
      more_noted log h n is noted size =
          let left : List ℕ = drop h.passed h.bytes in
          let rs = whole_records left in
          let front = are_front rs left (drop_bytes h.passed h.bytes is.bytes) refl in
          let here : take n left ≡ log_bytes rs = ap (λ (k : ℕ). take k left) size ∙ front.0 in
          let few : n ≤ length left = omega (arith, size, length-take n left, ap (λ (t : List ℕ). length t) here) in
          let old : AreWhole (take (h.start + h.passed) log) = as_whole (take (h.start + h.passed) log) (take h.start log ++ take h.passed h.bytes) (looked_at log h is) (looked_whole log h is) in
          let new : AreWhole (take n left) = record { records = rs; spelled = here; allowed = front.1 } in
          let all : whole_records (take (h.start + h.passed + n) log) ≡ whole_records (take (h.start + h.passed) log) ++ rs =
          ap whole_records (take-add (h.start + h.passed) n log)
          ∙ both_records (take (h.start + h.passed) log) (take n (drop (h.start + h.passed) log)) old
          ∙ ap (λ (t : List ℕ). whole_records (take (h.start + h.passed) log) ++ whole_records t) (next_at log h n is few)
          ∙ ap (λ (t : List LogRecord). whole_records (take (h.start + h.passed) log) ++ t) (all_whole (take n left) new) in
          ap (λ (b : Bool). b || any_old rs) noted ∙ sym (ap any_old all ∙ both_old (whole_records (take (h.start + h.passed) log)) rs)

      marked_noted : (log : List ℕ) (h : HeldState) → IsOf log h → IsNoted log h → IsNoted log (with_mark h (marked_all h.start (first_mark h.passed h.low h.has_old) (whole_records (drop h.passed h.bytes))))
      marked_noted log h is noted =
          let rs = whole_records (drop h.passed h.bytes) in
          let f : Mark = first_mark h.passed h.low h.has_old in
          let m : Mark = marked_all h.start f rs in
          let mark : IsMark h.bytes m = all_marked found first none h.start h.bytes rs is.bytes f (first_is found first none h log is) refl in
          let n = length (log_bytes rs) in
          let to : m.to ≡ h.passed + n = mark_to h.start f rs in
          let at : h.start + m.from + (m.to - m.from) ≡ h.start + h.passed + n = omega (arith, mark.order, to) in
          cond_both m.wants_all (nothing_held true) (record { start = h.start + m.from; end = h.end; bytes = drop m.from h.bytes; passed = m.to - m.from; low = m.low; keeps_all = h.keeps_all; has_old = m.has_old }) (IsNoted log)
          (λ _. nothing_noted log true)
          (λ _. mark_noted h.start f rs ∙ more_noted log h n is noted refl ∙ ap (λ (k : ℕ). any_old (whole_records (take k log))) (sym at))

      settled_noted : (log : List ℕ) (h : HeldState) → IsOf log h → IsNoted log h → IsNoted log (settled h)
      unfolding settled
      settled_noted log h is noted = cond_both (h.keeps_all || nat_lt (length h.bytes) h.passed) h (with_mark h (marked_all h.start (first_mark h.passed h.low h.has_old) (whole_records (drop h.passed h.bytes)))) (IsNoted log)
          (λ _. noted) (λ _. marked_noted log h is noted)

      pub grown_noted : (log : List ℕ) (h : HeldState) (block : List ℕ) (n : ℕ) → IsOf log h → IsNoted log h → AreBytes block → h.end + n ≤ length log → take n block ≡ take n (drop h.end log) → IsNoted log (grown h (take n block))
      grown_noted log h block n is noted are within next =
          let more : List ℕ = take n block in
          let left = length-drop h.end log in
          let long : length more ≡ n = omega (arith, ap (λ (t : List ℕ). length t) next, length-take n (drop h.end log), left, within) in
          let whole : IsOf log (record { start = h.start; end = h.end + length more; bytes = h.bytes ++ more; passed = h.passed; low = h.low; keeps_all = h.keeps_all; has_old = h.has_old }) =
          more_is found first none log h more is (take_bytes n block are) (omega (arith, within, long)) (next ∙ ap (λ (k : ℕ). take k (drop h.end log)) (sym long)) in
          settled_noted log (record { start = h.start; end = h.end + length more; bytes = h.bytes ++ more; passed = h.passed; low = h.low; keeps_all = h.keeps_all; has_old = h.has_old }) whole noted

      -- ---- what is read

      -- the records that were looked at are the first of those that were read
      begin_with : (r : LogRecord) (n : ℕ) (rs : List LogRecord) (q : Result Parts ℕ) (p : Parts) → behind r n q ≡ Ok p → ((z : Parts) → q ≡ Ok z → (more : List LogRecord) × (z.records ≡ rs ++ more)) → (more : List LogRecord) × (p.records ≡ r ∷ (rs ++ more))
      begin_with r n rs (Err at) p e rest = absurd cc
      begin_with r n rs (Ok z) p e rest =
          let whole : Parts = record { records = r ∷ z.records; size = n + z.size; tail = z.tail } in
          let same : whole ≡ p = cc in
          let more = rest z refl in
          (more.0, sym (ap (λ (y : Parts). y.records) same) ∙ ap (λ (t : List LogRecord). r ∷ t) more.1)

      begins : (front : List LogRecord) (q : Result Parts ℕ) (p : Parts) → prefixed front q ≡ Ok p → (more : List LogRecord) × (p.records ≡ front ++ more)
      begins [] q p e = (p.records, refl)
      begins (r ∷ rs) q p e = begin_with r (length (record_bytes r)) rs (prefixed rs q) p e (λ z is. begins rs q z is)

      pub old_noted : PartsGoOn → PartsAreWhole → (bytes : List ℕ) (r : ReaderState) (log : Log) → IsOf bytes r.held → IsNoted bytes r.held → length bytes ≤ r.held.end → IsLogRead r log → (last : HasLastOf bytes log)
          → any_old (last.front ++ log.records) ≡ (r.held.has_old || any_old log.records)
      old_noted goes parts bytes r log is noted whole read last =
          let h = r.held in
          let p = parts_are h.start (parts_in h.bytes) log read.is_read in
          let q : Parts = record { records = log.records; size = p.size; tail = log.tail } in
          let here = parts h.bytes q p.is in
          let all = parts bytes (record { records = last.front ++ log.records; size = log.length; tail = log.tail }) last.is.is_read in
          let front : List LogRecord = is.before.records in
          let looked : List LogRecord = is.looked.records in
          -- the last records are those that were looked at, and more
          let split : h.bytes ≡ log_bytes looked ++ drop h.passed h.bytes = sym (take-append-drop h.passed h.bytes) ∙ ap (λ (t : List ℕ). t ++ drop h.passed h.bytes) is.looked.spelled in
          let more = begins looked (parts_in (drop h.passed h.bytes)) q (sym (ap parts_in split ∙ front_parts again goes looked (drop h.passed h.bytes) is.looked.allowed) ∙ p.is) in
          let rest : any_old log.records ≡ (any_old looked || any_old more.0) = ap any_old more.1 ∙ both_old looked more.0 in
          -- all records are those before the last ones, and the last ones
          let bytes_in : take log.length bytes ≡ take h.start bytes ++ take p.size h.bytes =
          ap (λ (k : ℕ). take k bytes) p.length_is ∙ take-add h.start p.size bytes ∙ ap (λ (t : List ℕ). take h.start bytes ++ t) (sym (ap (take p.size) is.told ∙ take-take p.size (length h.bytes) (drop h.start bytes) here.0)) in
          let records_in : last.front ++ log.records ≡ front ++ log.records =
          sym all.1 ∙ ap whole_records bytes_in ∙ both_records (take h.start bytes) (take p.size h.bytes) is.before
          ∙ ap (λ (t : List LogRecord). t ++ whole_records (take p.size h.bytes)) (all_whole (take h.start bytes) is.before) ∙ ap (λ (t : List LogRecord). front ++ t) here.1 in
          let looked_in : whole_records (take h.start bytes ++ take h.passed h.bytes) ≡ front ++ looked =
          both_records (take h.start bytes) (take h.passed h.bytes) is.before ∙ ap (λ (t : List LogRecord). t ++ whole_records (take h.passed h.bytes)) (all_whole (take h.start bytes) is.before)
          ∙ ap (λ (t : List LogRecord). front ++ t) (all_whole (take h.passed h.bytes) is.looked) in
          let old : h.has_old ≡ (any_old front || any_old looked) =
          noted ∙ ap (λ (t : List ℕ). any_old (whole_records t)) (looked_at bytes h is) ∙ ap any_old looked_in ∙ both_old front looked in
          ap any_old records_in ∙ both_old front log.records ∙ ap (λ (b : Bool). any_old front || b) rest ∙ or_again (any_old front) (any_old looked) (any_old more.0)
          ∙ sym (ap (λ (b : Bool). b || any_old log.records) old ∙ ap (λ (b : Bool). (any_old front || any_old looked) || b) rest)
