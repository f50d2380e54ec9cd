-- What is kept of a log while it is read, and what was read of it in the end.
use Rattle.std.proofs.Common.{◌≡◌, ℕ, ◌+◌, ◌-◌, ◌<◌, ◌≤◌, Bool, true, false, cond, List, [], ◌∷◌, ◌++◌, length, take, drop, Result, Ok, Err, inl, inr, refl, sym, ap, subst, ◌∙◌, append_assoc, arith, lit<, get_or}
use Rattle.std.specs.Prelude.{◌⊎◌, ◌==◌, nat_lt, not, ◌||◌, ◌&&◌}
use Rattle.std.specs.List.{AllByRecursion, list_all}
use Rattle.std.proofs.lemmas.Bool.{cond_both, both_ways, and_parts, and_from, or_parts, ltb-true, not-false, cases_lt}
use Rattle.std.proofs.lemmas.Grind.{flat_map-append}
use Rattle.std.proofs.lemmas.List.{append-nil, length-append, length-drop, length-take-le, take-append-le, take-append-drop, drop-drop, get_or-drop, get_or_past}
use Rattle.std.proofs.lemmas.List.Folds.{list_all-append}
use Rattle.std.proofs.Math.ListN.{get_or-append}
use Rattle.std.proofs.Math.Seq.{take-add, get_or-append_right}
use Rattle.ds_model.specs.declared.log.LogRecord.{LogRecord}
use Rattle.ds_model.specs.declared.log.Body.{Body}
use Rattle.ds_model.specs.declared.log.Body.TheVariants as body
use Rattle.ds_model.specs.RecordBytes.{IsAllowed, is_written, record_bytes, log_bytes}
use Rattle.log_record.specs.declared.fault.RecordFault.{RecordFault}
use Rattle.log_record.specs.declared.fault.RecordFault.TheVariants.{NotWhole, Bad, NoMemory}
use Rattle.log_record.specs.Reading.{Found, record_in}
use Rattle.log_record.specs.declared.log.Log.{Log}
use Rattle.log_record.specs.Logs.{Parts, parts_in, parts_of, behind}
use Rattle.log_head.specs.Laws.{FirstIsWhole, NoneIsWhole, PartsGoOn, PartsEnd, PartsAreBad, RecordHasSize}
use Rattle.log_head.specs.Heads.{IsShort}
use Rattle.log_head.specs.Whole.{whole_records}
use Rattle.log_reader.specs.declared.held.Mark.{Mark}
use Rattle.log_reader.specs.Held.{HeldState, nothing_held, names, names_other, begins_at, is_earlier, begun_at, gone_on, marked_one, marked_all, first_mark, with_mark, settled}
use Rattle.log_reader.specs.Keeping.{AreBytes, IsOf, HasLastOf, ReadIsLast}
use Rattle.log_reader.specs.Readers.{ReaderState, IsLogRead, parts_behind}
use Rattle.log_reader.proofs.Marks.{one_behind}
use Rattle.checkpoint_offsets.specs.Offsets.{names_own, all_own}
use Rattle.sound_disk.specs.Laws.{AreRead}
use Rattle.sound_reads.specs.Reads.{MayBeginAt, BeginAt, IsKept}
use Rattle.sound_reads.specs.Laws.{NothingIsKept, LengthIsKept, GrownIsKept, LastIsRead}

abbrev FoundInBytes : Type 0
FoundInBytes = (bytes : List ℕ) (r : LogRecord) (n : ℕ) → AreBytes bytes → record_in bytes ≡ Ok (r, n) → Found bytes r n

abbrev ReadAgain : Type 0
ReadAgain = (r : LogRecord) (rest : List ℕ) → IsAllowed r → record_in (record_bytes r ++ rest) ≡ Ok (r, length (record_bytes r))

-- what is proved of reading
pub record ReadingLaws : Type 0 where
  pub found : FoundInBytes
  pub again : ReadAgain
  pub first : FirstIsWhole
  pub none : NoneIsWhole
  pub goes : PartsGoOn
  pub ends : PartsEnd
  pub bad : PartsAreBad
  pub size : RecordHasSize

-- ---- a Checkpoint at which reading begins, and records behind it

own_of : (place : ℕ) (b : Body) → names place b ≡ true → names_own place b ≡ true
own_of place (body.Checkpoint offset) h = h
own_of place (body.RowChange change) h = refl
own_of place (body.Compensation change undone) h = refl
own_of place (body.System patches) h = refl
own_of place body.Commit h = refl
own_of place body.Ended h = refl
own_of place body.RestartEnd h = refl

own_no_other : (place : ℕ) (b : Body) → names_other place b ≡ false → names_own place b ≡ true
own_no_other place (body.Checkpoint offset) h = not-false (offset == place) h
own_no_other place (body.RowChange change) h = refl
own_no_other place (body.Compensation change undone) h = refl
own_no_other place (body.System patches) h = refl
own_no_other place body.Commit h = refl
own_no_other place body.Ended h = refl
own_no_other place body.RestartEnd h = refl

own_more : (at : ℕ) (xs : List LogRecord) (r : LogRecord) → all_own at xs ≡ true → names_own (at + length (log_bytes xs)) r.body ≡ true → all_own at (xs ++ r ∷ []) ≡ true
own_more at [] r h e =
    let none : at + 0 ≡ at = omega arith in
    and_from (names_own at r.body) true (sym (ap (λ (n : ℕ). names_own n r.body) none) ∙ e) refl
own_more at (x ∷ xs) r h e =
    let both = length-append (record_bytes x) (log_bytes xs) in
    let place : at + length (record_bytes x ++ log_bytes xs) ≡ at + length (record_bytes x) + length (log_bytes xs) = omega (arith, both) in
    let p = and_parts (names_own at x.body) (all_own (at + length (record_bytes x)) xs) h in
    and_from (names_own at x.body) (all_own (at + length (record_bytes x)) (xs ++ r ∷ [])) p.0
    (own_more (at + length (record_bytes x)) xs r p.1 (sym (ap (λ (n : ℕ). names_own n r.body) place) ∙ e))

begin_one : (place : ℕ) (r : LogRecord) → begins_at place r ≡ true → BeginAt place r.lrsn (r ∷ [])
begin_one place r h = (
  record { begins = h; own = and_from (names_own place r.body) true (own_of place r.body (and_parts (is_written r.version) (names place r.body) h).1) refl; later = refl },
  refl,
)

not_is : (b : Bool) → b ≡ false → not b ≡ true
not_is true e = absurd cc
not_is false e = refl

begin_more : (place low : ℕ) (seen : List LogRecord) (r : LogRecord) → BeginAt place low seen → names_other (place + length (log_bytes seen)) r.body ≡ false → is_earlier low r ≡ false → BeginAt place low (seen ++ r ∷ [])
begin_more place low [] r h other earlier = absurd h.0
begin_more place low (x ∷ xs) r h other earlier =
    let same : is_earlier x.lrsn r ≡ false = sym (ap (λ (n : ℕ). is_earlier n r) h.1) ∙ earlier in (
      record {
        begins = h.0.begins;
        own = own_more place (x ∷ xs) r h.0.own (own_no_other (place + length (log_bytes (x ∷ xs))) r.body other);
        later = list_all-append (λ (s : LogRecord). not (is_earlier x.lrsn s)) xs (r ∷ [])
            ∙ and_from (list_all (λ (s : LogRecord). not (is_earlier x.lrsn s)) xs) (not (is_earlier x.lrsn r) && true) h.0.later (and_from (not (is_earlier x.lrsn r)) true (not_is (is_earlier x.lrsn r) same) refl);
      },
      h.1,
    )

-- ---- records that are marked

-- the records from the mark on, up to where they were looked at
record Seen (start : ℕ) (bytes : List ℕ) (m : Mark) (seen : List LogRecord) : Type 0 where
  order : m.from ≤ m.to
  within : m.to ≤ length bytes
  spelled : take (m.to - m.from) (drop m.from bytes) ≡ log_bytes seen
  allowed : AllByRecursion IsAllowed seen
  begins : m.wants_all ≡ false → (start + m.from ≡ 0) ⊎ BeginAt (start + m.from) m.low seen

each_more : (xs : List LogRecord) (r : LogRecord) → AllByRecursion IsAllowed xs → IsAllowed r → AllByRecursion IsAllowed (xs ++ r ∷ [])
each_more [] r h one = (one, tt)
each_more (x ∷ xs) r h one = (h.0, each_more xs r h.1 one)

seen_length : (start : ℕ) (bytes : List ℕ) (m : Mark) (seen : List LogRecord) → Seen start bytes m seen → length (log_bytes seen) ≡ m.to - m.from
seen_length start bytes m seen h =
    let left = length-drop m.from bytes in
    let one = h.order in
    let two = h.within in
    sym (ap (λ (t : List ℕ). length t) h.spelled) ∙ length-take-le (m.to - m.from) (drop m.from bytes) (omega (arith, left, one, two))

-- behind a Checkpoint at which reading begins
seen_begun : (start : ℕ) (bytes : List ℕ) (m : Mark) (seen : List LogRecord) (r : LogRecord) (n : ℕ) → Seen start bytes m seen → Found (drop m.to bytes) r n → n ≡ length (record_bytes r) → begins_at (start + m.to) r ≡ true
    → Seen start bytes (begun_at m r) (r ∷ [])
seen_begun start bytes m seen r n h f size e =
    let left = length-drop m.to bytes in
    let long : length (record_bytes r) ≤ length bytes - m.to = let w = f.within in omega (arith, w, left, size) in
    let two = h.within in
    let all : m.to + length (record_bytes r) - m.to ≡ n = omega (arith, size) in
    record {
      order = omega arith;
      within = omega (arith, long, two);
      spelled = ap (λ (k : ℕ). take k (drop m.to bytes)) all ∙ f.spelled ∙ sym (append-nil (record_bytes r));
      allowed = (f.allowed, tt);
      begins = λ _. inr (begin_one (start + m.to) r e);
    }

-- behind any other record
seen_on : (start : ℕ) (bytes : List ℕ) (m : Mark) (seen : List LogRecord) (r : LogRecord) (n : ℕ) → Seen start bytes m seen → Found (drop m.to bytes) r n → n ≡ length (record_bytes r)
    → Seen start bytes (gone_on (start + m.to) m r) (seen ++ r ∷ [])
seen_on start bytes m seen r n h f size =
    let left = length-drop m.to bytes in
    let long : length (record_bytes r) ≤ length bytes - m.to = let w = f.within in omega (arith, w, left, size) in
    let one = h.order in
    let two = h.within in
    let more : m.to + length (record_bytes r) - m.from ≡ (m.to - m.from) + n = omega (arith, one, size) in
    let behind : m.from + (m.to - m.from) ≡ m.to = omega (arith, one) in
    let count = seen_length start bytes m seen h in
    let place : start + m.from + length (log_bytes seen) ≡ start + m.to = omega (arith, count, one) in
    record {
      order = omega (arith, one);
      within = omega (arith, long, two);
      spelled = ap (λ (k : ℕ). take k (drop m.from bytes)) more ∙ take-add (m.to - m.from) n (drop m.from bytes)
          ∙ ap (λ (t : List ℕ). take (m.to - m.from) (drop m.from bytes) ++ take n t) (drop-drop (m.to - m.from) m.from bytes ∙ ap (λ (k : ℕ). drop k bytes) behind)
          ∙ ap (λ (t : List ℕ). t ++ take n (drop m.to bytes)) h.spelled ∙ ap (λ (t : List ℕ). log_bytes seen ++ t) (f.spelled ∙ sym (append-nil (record_bytes r)))
          ∙ sym (flat_map-append record_bytes seen (r ∷ []));
      allowed = each_more seen r h.allowed f.allowed;
      begins = λ e.
          let p = or_parts m.wants_all (names_other (start + m.to) r.body || is_earlier m.low r) e in
          let q = or_parts (names_other (start + m.to) r.body) (is_earlier m.low r) p.1 in
          elim (h.begins p.0) as (λ _. (start + m.from ≡ 0) ⊎ BeginAt (start + m.from) m.low (seen ++ r ∷ [])) [
            | inl zero ↦ inl zero
            | inr b ↦ inr (begin_more (start + m.from) m.low seen r b (ap (λ (k : ℕ). names_other k r.body) place ∙ q.0) q.1)
          ];
    }

abbrev IsSeen : ℕ → List ℕ → Mark → Type 0
IsSeen start bytes m = (seen : List LogRecord) × Seen start bytes m seen

seen_more : (start : ℕ) (bytes : List ℕ) (m : Mark) (r : LogRecord) (n : ℕ) → IsSeen start bytes m → Found (drop m.to bytes) r n → n ≡ length (record_bytes r) → IsSeen start bytes (marked_one start m r)
seen_more start bytes m r n s f size =
    cond_both (begins_at (start + m.to) r) (begun_at m r) (gone_on (start + m.to) m r) (IsSeen start bytes)
    (λ e. (r ∷ [], seen_begun start bytes m s.0 r n s.1 f size e))
    (λ _. (s.0 ++ r ∷ [], seen_on start bytes m s.0 r n s.1 f size))

size_is : (bytes : List ℕ) (r : LogRecord) (n : ℕ) → Found bytes r n → n ≡ length (record_bytes r)
size_is bytes r n f = sym (length-take-le n bytes f.within) ∙ ap (λ (t : List ℕ). length t) f.spelled

-- all records that are left are looked at
abbrev SeenAll : ℕ → List ℕ → Mark → Type 0
SeenAll start bytes m = IsSeen start bytes m × (whole_records (drop m.to bytes) ≡ [])

no_more : (x : LogRecord) (xs : List LogRecord) → x ∷ xs ≡ [] → ⊥
no_more x xs e = cc

drop_bytes : (k : ℕ) (bytes : List ℕ) → AreBytes bytes → AreBytes (drop k bytes)
drop_bytes k bytes h i = subst (λ (b : ℕ). b < 256) (sym (get_or-drop k bytes i 0)) (h (k + i))

walk_one : ReadingLaws → (start : ℕ) (bytes : List ℕ) (m : Mark) (r : LogRecord) (rs : List LogRecord) (f : Result (LogRecord × ℕ) RecordFault) → AreBytes bytes → IsSeen start bytes m → whole_records (drop m.to bytes) ≡ r ∷ rs → record_in (drop m.to bytes) ≡ f
    → ((next : Mark) → IsSeen start bytes next → whole_records (drop next.to bytes) ≡ rs → SeenAll start bytes (marked_all start next rs)) → SeenAll start bytes (marked_all start (marked_one start m r) rs)
walk_one k start bytes m r rs (Err fault) h s e read rest = absurd (no_more r rs (sym e ∙ k.none (drop m.to bytes) fault read))
walk_one k start bytes m r rs (Ok (x, n)) h s e read rest =
    let both : x ∷ whole_records (drop n (drop m.to bytes)) ≡ r ∷ rs = sym (k.first (drop m.to bytes) x n read) ∙ e in
    let same : x ≡ r = cc in
    let left : whole_records (drop n (drop m.to bytes)) ≡ rs = cc in
    let f : Found (drop m.to bytes) r n = subst (λ (y : LogRecord). Found (drop m.to bytes) y n) same (k.found (drop m.to bytes) x n (drop_bytes m.to bytes h) read) in
    let size = size_is (drop m.to bytes) r n f in
    let at : (marked_one start m r).to ≡ m.to + n = (one_behind start m r).to ∙ ap (λ (j : ℕ). m.to + j) (sym size) in
    rest (marked_one start m r) (seen_more start bytes m r n s f size)
    (ap (λ (j : ℕ). whole_records (drop j bytes)) at ∙ ap whole_records (sym (drop-drop n m.to bytes)) ∙ left)

walk : ReadingLaws → (start : ℕ) (bytes : List ℕ) (rs : List LogRecord) → AreBytes bytes → (m : Mark) → IsSeen start bytes m → whole_records (drop m.to bytes) ≡ rs → SeenAll start bytes (marked_all start m rs)
walk k start bytes [] h m s e = (s, e)
walk k start bytes (r ∷ rs) h m s e = walk_one k start bytes m r rs (record_in (drop m.to bytes)) h s e refl (walk k start bytes rs h)

-- ---- what is kept

pub nothing_is_kept : NothingIsKept
nothing_is_kept keeps_all = record { looked = []; spelled = refl; allowed = tt; from_start = λ _. refl; begins = inl refl }

pub length_is_kept : LengthIsKept
length_is_kept h keeps_all kept zero = record { looked = kept.looked; spelled = kept.spelled; allowed = kept.allowed; from_start = λ _. zero; begins = inl zero }

abbrev marked_from : HeldState → Mark → HeldState
marked_from h m = record { start = h.start + m.from; end = h.end; bytes = drop m.from h.bytes; passed = m.to - m.from; low = m.low; keeps_all = h.keeps_all; has_old = m.has_old }

from_mark : (h : HeldState) (m : Mark) → h.keeps_all ≡ false → m.wants_all ≡ false → SeenAll h.start h.bytes m → IsKept (marked_from h m)
from_mark h m not_all fits s =
    let one = s.0.1.order in
    let behind : m.from + (m.to - m.from) ≡ m.to = omega (arith, one) in
    let left : whole_records (drop (m.to - m.from) (drop m.from h.bytes)) ≡ [] =
    ap whole_records (drop-drop (m.to - m.from) m.from h.bytes ∙ ap (λ (k : ℕ). drop k h.bytes) behind) ∙ s.1 in
    record {
      looked = s.0.0;
      spelled = s.0.1.spelled;
      allowed = s.0.1.allowed;
      from_start = λ all. absurd (both_ways h.keeps_all not_all all);
      begins = elim (s.0.1.begins fits) as (λ _. (h.start + m.from ≡ 0) ⊎ (BeginAt (h.start + m.from) m.low s.0.0 × (whole_records (drop (m.to - m.from) (drop m.from h.bytes)) ≡ []))) [
        | inl zero ↦ inl zero
        | inr b ↦ inr (b, left)
      ];
    }

mark_kept : (h : HeldState) (m : Mark) → h.keeps_all ≡ false → SeenAll h.start h.bytes m → IsKept (with_mark h m)
mark_kept h m not_all s = cond_both m.wants_all (nothing_held true) (marked_from h m) IsKept (λ _. nothing_is_kept true) (λ e. from_mark h m not_all e s)

-- the records that were looked at are there still, and more bytes are
record IsGrown (h : HeldState) : Type 0 where
  looked : List LogRecord
  passed : h.passed ≤ length h.bytes
  spelled : take h.passed h.bytes ≡ log_bytes looked
  allowed : AllByRecursion IsAllowed looked
  from_start : h.keeps_all ≡ true → h.start ≡ 0
  begins : (h.start ≡ 0) ⊎ BeginAt h.start h.low looked

first_seen : (h : HeldState) → IsGrown h → IsSeen h.start h.bytes (first_mark h.passed h.low h.has_old)
first_seen h g =
    let all : h.passed - 0 ≡ h.passed = omega arith in
    let none : h.start + 0 ≡ h.start = omega arith in (
      g.looked,
      record {
        order = omega arith;
        within = g.passed;
        spelled = ap (λ (k : ℕ). take k h.bytes) all ∙ g.spelled;
        allowed = g.allowed;
        begins = λ _. subst (λ (k : ℕ). (k ≡ 0) ⊎ BeginAt k h.low g.looked) (sym none) g.begins;
      },
    )

all_kept : (h : HeldState) → IsGrown h → h.keeps_all ≡ true → IsKept h
all_kept h g e = record { looked = g.looked; spelled = g.spelled; allowed = g.allowed; from_start = g.from_start; begins = inl (g.from_start e) }

settled_kept : ReadingLaws → (h : HeldState) (b : Bool) → h.keeps_all ≡ b → AreBytes h.bytes → IsGrown h → IsKept (cond (b || nat_lt (length h.bytes) h.passed) h (with_mark h (marked_all h.start (first_mark h.passed h.low h.has_old) (whole_records (drop h.passed h.bytes)))))
settled_kept k h true e are g = all_kept h g e
settled_kept k h false e are g =
    cond_both (nat_lt (length h.bytes) h.passed) h (with_mark h (marked_all h.start (first_mark h.passed h.low h.has_old) (whole_records (drop h.passed h.bytes)))) IsKept
    (λ over. absurd (let lt = ltb-true (length h.bytes) h.passed over in let le = g.passed in let never : ⊥ = omega (arith, lt, le) in never))
    (λ _. mark_kept h (marked_all h.start (first_mark h.passed h.low h.has_old) (whole_records (drop h.passed h.bytes))) e (walk k h.start h.bytes (whole_records (drop h.passed h.bytes)) are (first_mark h.passed h.low h.has_old) (first_seen h g) refl))

settled_is : ReadingLaws → (h : HeldState) → AreBytes h.bytes → IsGrown h → IsKept (settled h)
unfolding settled
settled_is k h are g = settled_kept k h h.keeps_all refl are g

more_grown : (log : List ℕ) (h : HeldState) (more : List ℕ) → IsOf log h → IsKept h → IsGrown (record { start = h.start; end = h.end + length more; bytes = h.bytes ++ more; passed = h.passed; low = h.low; keeps_all = h.keeps_all; has_old = h.has_old })
more_grown log h more is kept =
    let long = length-append h.bytes more in
    let le = is.passed in
    record {
      looked = kept.looked;
      passed = omega (arith, long, le);
      spelled = take-append-le h.passed h.bytes more is.passed ∙ kept.spelled;
      allowed = kept.allowed;
      from_start = kept.from_start;
      begins = elim kept.begins as (λ _. (h.start ≡ 0) ⊎ BeginAt h.start h.low kept.looked) [
        | inl zero ↦ inl zero
        | inr b ↦ inr b.0
      ];
    }

both_bytes : (a b : List ℕ) → AreBytes a → AreBytes b → AreBytes (a ++ b)
both_bytes a b h k i = elim (cases_lt i (length a)) [
  | inl less ↦ subst (λ (x : ℕ). x < 256) (sym (get_or-append a b 0 i less)) (h i)
  | inr more ↦ subst (λ (x : ℕ). x < 256) (sym (get_or-append_right a b i 0 more)) (k (i - length a))
]

take_bytes : (n : ℕ) (bytes : List ℕ) → AreBytes bytes → AreBytes (take n bytes)
take_bytes n bytes h i = elim (cases_lt i (length (take n bytes))) [
  | inl less ↦ subst (λ (x : ℕ). x < 256) (get_or-append (take n bytes) (drop n bytes) 0 i less) (subst (λ (t : List ℕ). get_or t i 0 < 256) (sym (take-append-drop n bytes)) (h i))
  | inr more ↦ subst (λ (x : ℕ). x < 256) (sym (get_or_past (take n bytes) i 0 more)) (lit< tt)
]

pub grown_is_kept : ReadingLaws → GrownIsKept
grown_is_kept k log h block n is kept are within next =
    settled_is k (record { start = h.start; end = h.end + length (take n block); bytes = h.bytes ++ take n block; passed = h.passed; low = h.low; keeps_all = h.keeps_all; has_old = h.has_old })
    (both_bytes h.bytes (take n block) is.bytes (take_bytes n block are)) (more_grown log h (take n block) is kept)

-- ---- what was read

-- the parts of whole records, and then those of what follows them
abbrev prefixed : List LogRecord → Result Parts ℕ → Result Parts ℕ
prefixed [] q = q
prefixed (r ∷ rs) q = behind r (length (record_bytes r)) (prefixed rs q)

drop_first : (xs ys : List ℕ) → drop (length xs) (xs ++ ys) ≡ ys
drop_first [] ys = refl
drop_first (x ∷ xs) ys = drop_first xs ys

front_parts : ReadingLaws → (front : List LogRecord) (rest : List ℕ) → AllByRecursion IsAllowed front → parts_in (log_bytes front ++ rest) ≡ prefixed front (parts_in rest)
front_parts k [] rest h = refl
front_parts k (r ∷ rs) rest h =
    let b = record_bytes r in
    let joined : log_bytes (r ∷ rs) ++ rest ≡ b ++ (log_bytes rs ++ rest) = append_assoc b (log_bytes rs) rest in
    ap parts_in joined
    ∙ k.goes (b ++ (log_bytes rs ++ rest)) r (length b) (k.again r (log_bytes rs ++ rest) h.0)
    ∙ ap (λ (t : List ℕ). behind r (length b) (parts_in t)) (drop_first b (log_bytes rs ++ rest))
    ∙ ap (behind r (length b)) (front_parts k rs rest h.1)

abbrev HasNone : Result Parts ℕ → Type 0
HasNone (Ok p) = p.records ≡ []
HasNone (Err at) = Unit {0}

-- where no whole record is, no record is read
none_read : ReadingLaws → (bytes : List ℕ) (f : Result (LogRecord × ℕ) RecordFault) → record_in bytes ≡ f → whole_records bytes ≡ [] → HasNone (parts_in bytes)
none_read k bytes (Ok (r, n)) e none = absurd (no_more r (whole_records (drop n bytes)) (sym (k.first bytes r n e) ∙ none))
none_read k bytes (Err NotWhole) e none = subst HasNone (sym (k.ends bytes (subst IsShort (sym e) tt))) refl
none_read k bytes (Err NoMemory) e none = subst HasNone (sym (k.ends bytes (subst IsShort (sym e) tt))) refl
none_read k bytes (Err (Bad at)) e none = subst HasNone (sym (k.bad bytes at e)) tt

abbrev HasRecords : List LogRecord → Result Parts ℕ → Type 0
HasRecords records (Ok p) = p.records ≡ records
HasRecords records (Err at) = Unit {0}

one_more : (r : LogRecord) (rs : List LogRecord) (q : Result Parts ℕ) → HasRecords rs q → HasRecords (r ∷ rs) (behind r (length (record_bytes r)) q)
one_more r rs (Ok p) h = ap (λ (xs : List LogRecord). r ∷ xs) h
one_more r rs (Err at) h = tt

prefixed_has : (front : List LogRecord) (q : Result Parts ℕ) → HasNone q → HasRecords front (prefixed front q)
prefixed_has [] (Ok p) h = h
prefixed_has [] (Err at) h = tt
prefixed_has (r ∷ rs) q h = one_more r rs (prefixed rs q) (prefixed_has rs q h)

read_as : (records : List LogRecord) (start : ℕ) (q : Result Parts ℕ) (read : Log) → HasRecords records q → parts_behind start q ≡ Ok (parts_of read) → read.records ≡ records
read_as records start (Err at) read h e = absurd cc
read_as records start (Ok p) read h e =
    let moved : Parts = record { records = p.records; size = start + p.size; tail = p.tail } in
    let same : moved ≡ parts_of read = cc in
    sym (ap (λ (z : Parts). z.records) same) ∙ h

-- the records that were looked at are those that were read
looked_read : ReadingLaws → (h : HeldState) (read : Log) (looked : List LogRecord) → take h.passed h.bytes ≡ log_bytes looked → AllByRecursion IsAllowed looked → whole_records (drop h.passed h.bytes) ≡ [] → parts_behind h.start (parts_in h.bytes) ≡ Ok (parts_of read)
    → read.records ≡ looked
looked_read k h read looked spelled allowed none e =
    let rest : List ℕ = drop h.passed h.bytes in
    let split : h.bytes ≡ log_bytes looked ++ drop h.passed h.bytes = sym (take-append-drop h.passed h.bytes) ∙ ap (λ (t : List ℕ). t ++ drop h.passed h.bytes) spelled in
    let has : HasRecords looked (parts_in h.bytes) =
    subst (HasRecords looked) (sym (ap parts_in split ∙ front_parts k looked (drop h.passed h.bytes) allowed)) (prefixed_has looked (parts_in (drop h.passed h.bytes)) (none_read k (drop h.passed h.bytes) (record_in (drop h.passed h.bytes)) refl none)) in
    read_as looked h.start (parts_in h.bytes) read has e

no_bytes : ReadingLaws → (front : List LogRecord) → AllByRecursion IsAllowed front → length (log_bytes front) ≡ 0 → front ≡ []
no_bytes k [] h e = refl
no_bytes k (r ∷ rs) h e =
    absurd (let both = length-append (record_bytes r) (log_bytes rs) in let one = (k.size (record_bytes r ++ []) r (length (record_bytes r)) (k.again r [] h.0)).0 in let never : ⊥ = omega (arith, both, one, e) in never)

each_front : (xs ys : List LogRecord) → AllByRecursion IsAllowed (xs ++ ys) → AllByRecursion IsAllowed xs
each_front [] ys h = tt
each_front (x ∷ xs) ys h = (h.0, each_front xs ys h.1)

-- how many bytes stand before what was read
front_length : (bytes : List ℕ) (r : ReaderState) (read : Log) (front : List LogRecord) → IsLogRead r read → take read.length bytes ≡ log_bytes (front ++ read.records) → read.length ≤ length bytes → length (log_bytes front) ≡ r.held.start
front_length bytes r read front h spelled le =
    let all : length (log_bytes (front ++ read.records)) ≡ length (log_bytes front) + length (log_bytes read.records) =
    ap (λ (bs : List ℕ). length bs) (flat_map-append record_bytes front read.records) ∙ length-append (log_bytes front) (log_bytes read.records) in
    let one : length (log_bytes (front ++ read.records)) ≡ read.length = sym (ap (λ (bs : List ℕ). length bs) spelled) ∙ length-take-le read.length bytes le in
    let begins = h.begins in
    let whole = h.whole in
    let two : length (log_bytes read.records) ≡ read.length - r.held.start =
    sym (ap (λ (bs : List ℕ). length bs) h.spelled) ∙ length-take-le (read.length - r.held.start) r.held.bytes (omega (arith, begins, whole)) in
    omega (arith, all, one, two, begins)

pub same_parts : (bytes : List ℕ) (p q : Parts) → parts_in bytes ≡ Ok p → parts_in bytes ≡ Ok q → p ≡ q
same_parts bytes p q h k = cc

pub last_is_read : ReadingLaws → AreRead → ReadIsLast → LastIsRead
last_is_read k reads last member bytes log r read whole is kept all h m =
    let l : HasLastOf bytes read = last bytes r read is all h in
    let with_front : Log = record { member = read.member; records = l.front ++ read.records; length = read.length; tail = read.tail } in
    let same : parts_of log ≡ parts_of with_front = same_parts bytes (parts_of log) (parts_of with_front) (reads member bytes log whole) l.is.is_read in
    let room = l.is.whole in
    let place : length (log_bytes l.front) ≡ r.held.start = front_length bytes r read l.front h l.is.spelled (omega (arith, room)) in
    record {
      member_is = m ∙ sym whole.member_is;
      length_is = sym (ap (λ (p : Parts). p.size) same);
      tail_is = sym (ap (λ (p : Parts). p.tail) same);
      front = l.front;
      records_are = ap (λ (p : Parts). p.records) same;
      begins = elim kept.begins as (λ _. (l.front ≡ []) ⊎ MayBeginAt (length (log_bytes l.front)) read.records) [
        | inl zero ↦ inl (no_bytes k l.front (each_front l.front read.records l.is.allowed) (place ∙ zero))
        | inr b ↦
            let records : read.records ≡ kept.looked = looked_read k r.held read kept.looked kept.spelled kept.allowed b.1 h.is_read in
            inr (subst (λ (n : ℕ). MayBeginAt n read.records) (sym place) (subst (MayBeginAt r.held.start) (sym records) b.0.0))
      ];
    }
