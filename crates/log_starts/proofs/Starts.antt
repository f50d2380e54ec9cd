-- Where a reader's records begin, as it reads on.
use Rattle.std.proofs.Common.{◌≡◌, ℕ, get_or, lit<, ◌+◌, ◌-◌, ◌<◌, refl, sym, ◌∙◌, ap, subst, arith, true, inl, inr, List, [], ◌∷◌, ◌++◌, length, take, drop, Result, Ok, Err}
use Rattle.std.specs.Prelude.{◌⊎◌, ◌||◌, nat_lt}
use Rattle.std.proofs.lemmas.Bool.{and_parts, cases_lt, cond_both}
use Rattle.std.proofs.lemmas.List.{drop-drop, drop-take, get_or-drop, get_or_past, length-append, length-drop, length-take-le, take-append-drop, take-append-le, take_all}
use Rattle.std.proofs.Math.ListN.{get_or-append}
use Rattle.std.proofs.Math.Seq.{get_or-append_right, take-add}
use Rattle.ds_model.specs.RecordBytes.{is_written, record_bytes}
use Rattle.ds_model.specs.declared.log.LogRecord.{LogRecord}
use Rattle.log_record.specs.declared.fault.RecordFault.{RecordFault}
use Rattle.log_record.specs.declared.fault.RecordFault.TheVariants.{NotWhole}
use Rattle.log_record.specs.Reading.{Found, record_in}
use Rattle.log_head.specs.Laws.{FirstIsWhole, FrontDecides, NoneIsWhole, RecordHasSize}
use Rattle.log_head.specs.Whole.{whole_records}
use Rattle.log_reader.specs.declared.held.Mark.{Mark}
use Rattle.log_reader.specs.Held.{HeldState, begins_at, begun_at, first_mark, gone_on, marked_all, marked_one, names, nothing_held, settled, with_mark}
use Rattle.log_reader.specs.Keeping.{AreBytes}
use Rattle.log_starts.specs.Starts.{BeginsAt, BeginsIn, GrownBegins, GrownBeginsIn, MayBegin, NamesOwn, NothingBegins}

-- a record that is read in bytes stands there
abbrev pub FoundInBytes : Type 0
FoundInBytes = (bytes : List ℕ) (r : LogRecord) (n : ℕ) → AreBytes bytes → record_in bytes ≡ Ok (r, n) → Found bytes r n

-- ---- bytes
drop_bytes : (k : ℕ) (bytes : List ℕ) → AreBytes bytes → AreBytes (drop k bytes)
drop_bytes k bytes h i = subst (λ (b : ℕ). b < 256) (sym (get_or-drop k bytes i 0)) (h (k + i))

both_bytes : (a b : List ℕ) → AreBytes a → AreBytes b → AreBytes (a ++ b)
both_bytes a b h k i = elim (cases_lt i (length a)) [
  | inl less ↦ subst (λ (x : ℕ). x < 256) (sym (get_or-append a b 0 i less)) (h i)
  | inr more ↦ subst (λ (x : ℕ). x < 256) (sym (get_or-append_right a b i 0 more)) (k (i - length a))
]

take_bytes : (n : ℕ) (bytes : List ℕ) → AreBytes bytes → AreBytes (take n bytes)
take_bytes n bytes h i = elim (cases_lt i (length (take n bytes))) [
  | inl less ↦ subst (λ (x : ℕ). x < 256) (get_or-append (take n bytes) (drop n bytes) 0 i less) (subst (λ (t : List ℕ). get_or t i 0 < 256) (sym (take-append-drop n bytes)) (h i))
  | inr more ↦ subst (λ (x : ℕ). x < 256) (sym (get_or_past (take n bytes) i 0 more)) (lit< tt)
]

-- ---- one that stands at the front is read, whatever follows
some_record : (x : LogRecord × ℕ) → Ok x ≡ Err NotWhole → ⊥
some_record x e = cc

front_whole : (a b : List ℕ) → take (length a) (a ++ b) ≡ a
front_whole a b = take-append-le (length a) a b (omega arith) ∙ take_all (length a) a (omega arith)

read_on : FrontDecides → (a b : List ℕ) (r : LogRecord) (n : ℕ) → record_in a ≡ Ok (r, n) → record_in (a ++ b) ≡ Ok (r, n)
read_on law a b r n e =
    let front : record_in (take (length a) (a ++ b)) ≡ Ok (r, n) = ap record_in (front_whole a b) ∙ e in
    law (a ++ b) (length a) (λ q. some_record (r, n) (sym front ∙ q)) ∙ front

pub read_front : FrontDecides → (bytes : List ℕ) (k : ℕ) (r : LogRecord) (n : ℕ) → record_in (take k bytes) ≡ Ok (r, n) → record_in bytes ≡ Ok (r, n)
read_front law bytes k r n e = law bytes k (λ q. some_record (r, n) (sym e ∙ q)) ∙ e

-- one that bytes of a log begin with, too
module _ (size : RecordHasSize) (front : FrontDecides) (log : List ℕ) (start from : ℕ) (bytes : List ℕ) where
  own_in_log : bytes ≡ take (length bytes) (drop start log) → NamesOwn (start + from) (drop from bytes) → NamesOwn (start + from) (drop (start + from) log)
  own_in_log told own =
      let has = size (drop from bytes) own.made own.size own.read in
      let k : ℕ = length bytes - from in
      let split : length bytes ≡ from + k = omega (arith, has.0, has.1, length-drop from bytes) in
      let same : take k (drop (start + from) log) ≡ drop from bytes =
      sym (ap (drop from) (told ∙ ap (λ (m : ℕ). take m (drop start log)) split) ∙ drop-take from k (drop start log) ∙ ap (take k) (drop-drop from start log)) in
      record { made = own.made; size = own.size; read = read_front front (drop (start + from) log) k own.made own.size (ap record_in same ∙ own.read); own = own.own }

-- ---- the mark from which bytes are kept
abbrev Named : ℕ → List ℕ → Mark → Type 0
Named start bytes m = (m.from ≡ 0) ⊎ NamesOwn (start + m.from) (drop m.from bytes)

one_behind : (start : ℕ) (m : Mark) (r : LogRecord) → (marked_one start m r).to ≡ m.to + length (record_bytes r)
one_behind start m r = cond_both (begins_at (start + m.to) r) (begun_at m r) (gone_on (start + m.to) m r)
    (λ (z : Mark). z.to ≡ m.to + length (record_bytes r)) (λ e. refl) (λ e. refl)

one_named : (start : ℕ) (bytes : List ℕ) (m : Mark) (r : LogRecord) (n : ℕ) → record_in (drop m.to bytes) ≡ Ok (r, n) → Named start bytes m → Named start bytes (marked_one start m r)
one_named start bytes m r n read named = cond_both (begins_at (start + m.to) r) (begun_at m r) (gone_on (start + m.to) m r)
    (λ (z : Mark). Named start bytes z) (λ e. inr (record { made = r; size = n; read = read; own = (and_parts (is_written r.version) (names (start + m.to) r.body) e).1 })) (λ e. named)

no_more : (x : LogRecord) (xs : List LogRecord) → x ∷ xs ≡ [] → ⊥
no_more x xs e = cc

size_is : (bytes : List ℕ) (r : LogRecord) (n : ℕ) → Found bytes r n → n ≡ length (record_bytes r)
size_is bytes r n f = sym (length-take-le n bytes f.within) ∙ ap (λ (t : List ℕ). length t) f.spelled

module _ (found : FoundInBytes) (first : FirstIsWhole) (none : NoneIsWhole) where
  abbrev NamesRest : ℕ → List ℕ → List LogRecord → Type 0
  NamesRest start bytes rs = (m : Mark) → Named start bytes m → whole_records (drop m.to bytes) ≡ rs → Named start bytes (marked_all start m rs)

  read_named : (start : ℕ) (bytes : List ℕ) (m : Mark) (r : LogRecord) (rs : List LogRecord) (f : Result (LogRecord × ℕ) RecordFault) → AreBytes bytes → Named start bytes m → whole_records (drop m.to bytes) ≡ r ∷ rs → record_in (drop m.to bytes) ≡ f → NamesRest start bytes rs
      → Named start bytes (marked_all start (marked_one start m r) rs)
  read_named start bytes m r rs (Err fault) h named e read rest = absurd (no_more r rs (sym e ∙ none (drop m.to bytes) fault read))
  read_named start bytes m r rs (Ok (x, n)) h named e read rest =
      let both : x ∷ whole_records (drop n (drop m.to bytes)) ≡ r ∷ rs = sym (first (drop m.to bytes) x n read) ∙ e in
      let same : x ≡ r = cc in
      let behind : whole_records (drop n (drop m.to bytes)) ≡ rs = cc in
      let here : record_in (drop m.to bytes) ≡ Ok (r, n) = read ∙ ap (λ (y : LogRecord). Ok (y, n)) same in
      let size = size_is (drop m.to bytes) r n (found (drop m.to bytes) r n (drop_bytes m.to bytes h) here) in
      let at : (marked_one start m r).to ≡ m.to + n = one_behind start m r ∙ ap (λ (k : ℕ). m.to + k) (sym size) in
      let left : whole_records (drop (marked_one start m r).to bytes) ≡ rs = ap (λ (k : ℕ). whole_records (drop k bytes)) at ∙ ap whole_records (sym (drop-drop n m.to bytes)) ∙ behind in
      rest (marked_one start m r) (one_named start bytes m r n here named) left

  all_named : (start : ℕ) (bytes : List ℕ) (rs : List LogRecord) → AreBytes bytes → NamesRest start bytes rs
  all_named start bytes [] h = λ m named e. named
  all_named start bytes (r ∷ rs) h = λ m named e. read_named start bytes m r rs (record_in (drop m.to bytes)) h named e refl (all_named start bytes rs h)

  -- ---- what is kept from there on
  from_mark : (h : HeldState) (m : Mark) → Named h.start h.bytes m → BeginsAt h → MayBegin (h.start + m.from) (drop m.from h.bytes)
  from_mark h m (inr own) begins = inr own
  from_mark h m (inl zero) (inl start) = inl (omega (arith, zero, start))
  from_mark h m (inl zero) (inr own) = inr (subst (λ (k : ℕ). NamesOwn k (drop m.from h.bytes)) (sym at) (subst (λ (k : ℕ). NamesOwn h.start (drop k h.bytes)) (sym zero) own))
    where
      at : h.start + m.from ≡ h.start
      at = omega (arith, zero)

  marked : (h : HeldState) (m : Mark) → Named h.start h.bytes m → BeginsAt h → BeginsAt (with_mark h m)
  marked h m named begins = cond_both m.wants_all (nothing_held true) (record { start = h.start + m.from; end = h.end; bytes = drop m.from h.bytes; passed = m.to - m.from; low = m.low; keeps_all = h.keeps_all; has_old = m.has_old }) BeginsAt (λ _. inl refl) (λ _. from_mark h m named begins)

  settled_begins : (h : HeldState) → AreBytes h.bytes → BeginsAt h → BeginsAt (settled h)
  unfolding settled
  settled_begins h are begins = cond_both (h.keeps_all || nat_lt (length h.bytes) h.passed) h (with_mark h (marked_all h.start (first_mark h.passed h.low h.has_old) (whole_records (drop h.passed h.bytes)))) BeginsAt
      (λ _. begins) (λ _. marked h (marked_all h.start (first_mark h.passed h.low h.has_old) (whole_records (drop h.passed h.bytes))) (all_named h.start h.bytes (whole_records (drop h.passed h.bytes)) are (first_mark h.passed h.low h.has_old) (inl refl) refl) begins)

  more_begins : FrontDecides → (h : HeldState) (more : List ℕ) → MayBegin h.start h.bytes → MayBegin h.start (h.bytes ++ more)
  more_begins law h more (inl start) = inl start
  more_begins law h more (inr own) = inr (record { made = own.made; size = own.size; read = read_on law h.bytes more own.made own.size own.read; own = own.own })

  pub grown_begins : FrontDecides → GrownBegins
  grown_begins law h more are new begins =
      settled_begins (record { start = h.start; end = h.end + length more; bytes = h.bytes ++ more; passed = h.passed; low = h.low; keeps_all = h.keeps_all; has_old = h.has_old }) (both_bytes h.bytes more are new) (more_begins law h more begins)

  -- ---- and of the log itself
  from_mark_in : RecordHasSize → FrontDecides → (log : List ℕ) (h : HeldState) (m : Mark) → h.bytes ≡ take (length h.bytes) (drop h.start log) → Named h.start h.bytes m → BeginsIn log h → MayBegin (h.start + m.from) (drop (h.start + m.from) log)
  from_mark_in size law log h m told (inr own) begins = inr (own_in_log size law log h.start m.from h.bytes told own)
  from_mark_in size law log h m told (inl zero) begins = subst (λ (k : ℕ). MayBegin k (drop k log)) (sym at) begins
    where
      at : h.start + m.from ≡ h.start
      at = omega (arith, zero)

  marked_in : RecordHasSize → FrontDecides → (log : List ℕ) (h : HeldState) (m : Mark) → h.bytes ≡ take (length h.bytes) (drop h.start log) → Named h.start h.bytes m → BeginsIn log h → BeginsIn log (with_mark h m)
  marked_in size law log h m told named begins = cond_both m.wants_all (nothing_held true) (record { start = h.start + m.from; end = h.end; bytes = drop m.from h.bytes; passed = m.to - m.from; low = m.low; keeps_all = h.keeps_all; has_old = m.has_old }) (BeginsIn log)
      (λ _. inl refl) (λ _. from_mark_in size law log h m told named begins)

  settled_in : RecordHasSize → FrontDecides → (log : List ℕ) (h : HeldState) → AreBytes h.bytes → h.bytes ≡ take (length h.bytes) (drop h.start log) → BeginsIn log h → BeginsIn log (settled h)
  unfolding settled
  settled_in size law log h are told begins = cond_both (h.keeps_all || nat_lt (length h.bytes) h.passed) h (with_mark h (marked_all h.start (first_mark h.passed h.low h.has_old) (whole_records (drop h.passed h.bytes)))) (BeginsIn log)
      (λ _. begins) (λ _. marked_in size law log h (marked_all h.start (first_mark h.passed h.low h.has_old) (whole_records (drop h.passed h.bytes))) told (all_named h.start h.bytes (whole_records (drop h.passed h.bytes)) are (first_mark h.passed h.low h.has_old) (inl refl) refl) begins)

  pub grown_in : RecordHasSize → FrontDecides → GrownBeginsIn
  grown_in size law log h block n is are within next begins =
      let more : List ℕ = take n block in
      let left = length-drop h.end log in
      let count : length more ≡ n = ap (λ (t : List ℕ). length t) next ∙ length-take-le n (drop h.end log) (omega (arith, left, within)) in
      let long = length-append h.bytes more in
      let next_more : more ≡ take (length more) (drop h.end log) = next ∙ ap (λ (k : ℕ). take k (drop h.end log)) (sym count) in
      let told : h.bytes ++ more ≡ take (length (h.bytes ++ more)) (drop h.start log) =
      ap (λ (t : List ℕ). t ++ more) is.told ∙ ap (λ (t : List ℕ). take (length h.bytes) (drop h.start log) ++ t) (next_more ∙ ap (λ (k : ℕ). take (length more) (drop k log)) (sym is.ends) ∙ ap (take (length more)) (sym (drop-drop (length h.bytes) h.start log)))
      ∙ sym (take-add (length h.bytes) (length more) (drop h.start log)) ∙ ap (λ (k : ℕ). take k (drop h.start log)) (sym long) in
      settled_in size law log (record { start = h.start; end = h.end + length more; bytes = h.bytes ++ more; passed = h.passed; low = h.low; keeps_all = h.keeps_all; has_old = h.has_old })
      (both_bytes h.bytes more is.bytes (take_bytes n block are)) told begins

pub nothing_begins : NothingBegins
nothing_begins keeps_all = inl refl
