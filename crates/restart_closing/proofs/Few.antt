-- How many transactions a log leaves open: no more than it has records.
use Rattle.std.proofs.Common.{◌≡◌, ℕ, zero, suc, ◌+◌, ◌<◌, ◌≤◌, refl, sym, ◌∙◌, ap, subst, arith, Bool, true, false, cond, List, [], ◌∷◌, length, drop, take, Option, Some, None, Result, Ok, Err}
use Rattle.std.specs.Prelude.{◌-◌, ◌==◌, ◌^◌, ◌&&◌, not, nat_le, nat_lt, if◌then◌else◌, map, filter}
use Rattle.std.proofs.lemmas.Bool.{and_parts, leb-true, ltb-false}
use Rattle.std.specs.List.{AllByRecursion}
use Rattle.std.proofs.lemmas.List.{length-drop}
use Rattle.std.specs.Ordering.{nat_cmp}
use Rattle.std.specs.Cmp.{nat_cmp_total}
use Rattle.std.specs.declared.cmp.Ordering.{Ordering}
use Rattle.std.specs.declared.cmp.Ordering.TheVariants.{Less, Equal, Greater}
use Rattle.std.specs.FinMap as finite
use Rattle.std.specs.FinMap.{entries, get, insert, entries-insert, len-empty, len-entries}
use Rattle.std.specs.FinMap.Entries.{by_order, put}
use Rattle.ds_model.specs.declared.log.LogRecord.{LogRecord}
use Rattle.log_record.specs.declared.fault.RecordFault.{RecordFault}
use Rattle.log_record.specs.declared.fault.RecordFault.TheVariants as fault
use Rattle.log_record.specs.Logs.{Parts, behind, parts_from, parts_in, parts_up_to}
use Rattle.log_record.specs.Fields.{◌>>=◌}
use Rattle.log_record.specs.Reading.{ends_at, fields_in, is_size, record_in, whole_in}
use Rattle.log_trans.specs.declared.course.Course.{Course}
use Rattle.log_trans.specs.Courses.{Courses, after_body, course_of, courses_from, courses_of, is_open, open_among, open_tran, open_trans, with_record}
use Rattle.log_trans.specs.declared.opened.OpenTran.{OpenTran}
use Rattle.restart_closing.specs.Leaving.{LogsLeaveBelow, LogsLeaveFew}

-- ---- transactions, of records
put_long : (k : ℕ) (v : Course) (es : List (ℕ × Course)) → length (put nat_cmp k v es) ≤ length es + 1
put_long k v [] = omega arith
put_long k v (e ∷ es) = by (put_long k v es) (nat_cmp k e.0)
  where
    by : length (put nat_cmp k v es) ≤ length es + 1 → (o : Ordering) → length (by_order o ((k, v) ∷ e ∷ es) ((e.0, v) ∷ es) (e ∷ put nat_cmp k v es)) ≤ length (e ∷ es) + 1
    by rest Less = omega arith
    by rest Equal = omega arith
    by rest Greater = omega (arith, rest)

record_long : (cs : Courses) (r : LogRecord) → length (entries (with_record cs r)) ≤ length (entries cs) + 1
record_long cs r = by (r.tran == 0)
  where
    next : Course
    next = after_body (course_of (get cs r.tran)) r r.body

    by : (b : Bool) → length (entries (if b then cs else insert cs r.tran next)) ≤ length (entries cs) + 1
    by true = omega arith
    by false = subst (λ (es : List (ℕ × Course)). length es ≤ length (entries cs) + 1) (sym (entries-insert nat_cmp_total cs r.tran next)) (put_long r.tran next (entries cs))

all_long : (cs : Courses) (rs : List LogRecord) → length (entries (courses_from cs rs)) ≤ length (entries cs) + length rs
all_long cs [] = omega arith
all_long cs (r ∷ rs) = let more = record_long cs r in let rest = all_long (with_record cs r) rs in omega (arith, more, rest)

among_long : (es : List (ℕ × Course)) → length (open_among es) ≤ length es
among_long [] = omega arith
among_long (e ∷ es) = by (is_open e.1) (among_long es)
  where
    rest : List (ℕ × Course)
    rest = filter (λ (x : ℕ × Course). is_open x.1) es

    by : (b : Bool) → length (open_among es) ≤ length es → length (map open_tran (cond b (e ∷ rest) rest)) ≤ length (e ∷ es)
    by true few = omega (arith, few)
    by false few = omega (arith, few)

opens_long : (records : List LogRecord) → length (open_trans records) ≤ length records
opens_long records =
    let none : length (entries finite.empty) ≡ 0 = sym (len-entries finite.empty) ∙ len-empty nat_cmp Course in
    let all = all_long finite.empty records in
    let among = among_long (entries (courses_of records)) in
    omega (arith, none, all, among)

-- ---- a log has no more records than bytes
abbrev Sized : List ℕ → Result (LogRecord × ℕ) RecordFault → Type 0
Sized bytes (Ok (r, n)) = (1 ≤ n) × (n ≤ length bytes)
Sized bytes (Err f) = Unit {0}

sized_if : (bytes : List ℕ) (b : Bool) (r : LogRecord) (n : ℕ) (f : RecordFault) → (1 ≤ n) × (n ≤ length bytes) → Sized bytes (if b then Ok (r, n) else Err f)
sized_if bytes true r n f h = h
sized_if bytes false r n f h = tt

sized_fields : (bytes : List ℕ) (size : ℕ) (x : Result (LogRecord × ℕ) RecordFault) → (1 ≤ size) × (size ≤ length bytes) → Sized bytes (x >>= λ found. if ends_at bytes size found.1 then Ok (found.0, size) else Err (fault.Bad found.1))
sized_fields bytes size (Ok found) h = sized_if bytes (ends_at bytes size found.1) found.0 size (fault.Bad found.1) h
sized_fields bytes size (Err f) h = tt

sized_whole : (bytes : List ℕ) (size : ℕ) → (1 ≤ size) × (size ≤ length bytes) → Sized bytes (whole_in bytes size)
unfolding whole_in
sized_whole bytes size h = sized_fields bytes size (fields_in (take (size - 4) bytes)) h

sized_by : (bytes : List ℕ) (size : ℕ) (few sized cut : Bool) → is_size size ≡ sized → nat_lt (length bytes) size ≡ cut
    → Sized bytes (if few then Err fault.NotWhole else if not sized then Err (fault.Bad 0) else if cut then Err fault.NotWhole else whole_in bytes size)
sized_by bytes size true sized cut s c = tt
sized_by bytes size false false cut s c = tt
sized_by bytes size false true true s c = tt
sized_by bytes size false true false s c =
    let long : 22 ≤ size = leb-true 22 size (and_parts (nat_le 22 size) (nat_le size 16384) s).0 in
    let within : size ≤ length bytes = ltb-false (length bytes) size c in
    sized_whole bytes size (omega (arith, long), within)

sized_of : (bytes : List ℕ) (size : ℕ) (few : Bool)
    → Sized bytes (if few then Err fault.NotWhole else if not (is_size size) then Err (fault.Bad 0) else if nat_lt (length bytes) size then Err fault.NotWhole else whole_in bytes size)
sized_of bytes size few = sized_by bytes size few (is_size size) (nat_lt (length bytes) size) refl refl

record_sized : (bytes : List ℕ) → Sized bytes (record_in bytes)
unfolding record_in
record_sized bytes = search (sized_of)

abbrev Few : ℕ → Result Parts ℕ → Type 0
Few most (Ok p) = length p.records ≤ most
Few most (Err at) = Unit {0}

few_behind : (less most : ℕ) (r : LogRecord) (n : ℕ) (x : Result Parts ℕ) → suc less ≤ most → Few less x → Few most (behind r n x)
few_behind less most r n (Ok p) more few = let count : length p.records ≤ less = few in omega (arith, count, more)
few_behind less most r n (Err at) more few = tt

few_from : (read_on : List ℕ → Result Parts ℕ) (bytes : List ℕ) → ((rest : List ℕ) → Few (length rest) (read_on rest)) → (x : Result (LogRecord × ℕ) RecordFault) → Sized bytes x → Few (length bytes) (parts_from read_on bytes x)
few_from read_on bytes few (Ok (r, n)) sized = let left = length-drop n bytes in few_behind (length (drop n bytes)) (length bytes) r n (read_on (drop n bytes)) (omega (arith, left, sized.0, sized.1)) (few (drop n bytes))
few_from read_on bytes few (Err fault.NotWhole) sized = omega arith
few_from read_on bytes few (Err fault.NoMemory) sized = omega arith
few_from read_on bytes few (Err (fault.Bad at)) sized = tt

few_up_to : (count : ℕ) (bytes : List ℕ) → Few (length bytes) (parts_up_to count bytes)
unfolding parts_up_to
few_up_to zero bytes = omega arith
few_up_to (suc count) bytes = few_from (λ rest. parts_up_to count rest) bytes (λ rest. few_up_to count rest) (record_in bytes) (record_sized bytes)

few_parts : (bytes : List ℕ) (p : Parts) → parts_in bytes ≡ Ok p → length p.records ≤ length bytes
unfolding parts_in
few_parts bytes p is = subst (λ (x : Result Parts ℕ). Few (length bytes) x) is (few_up_to (suc (length bytes)) bytes)

pub logs_leave_few : LogsLeaveFew
logs_leave_few log short start records last =
    let opened = opens_long records in
    let same : length records ≡ length last.parts.records = ap length last.are in
    let parts : length last.parts.records ≤ length (drop start log) = few_parts (drop start log) last.parts last.told in
    let left = length-drop start log in
    omega (arith, opened, same, parts, left, short)

-- ---- the numbers of transactions are those of records
put_below : (c k : ℕ) (v : Course) (es : List (ℕ × Course)) → k ≤ c → AllByRecursion (λ (e : ℕ × Course). e.0 ≤ c) es → AllByRecursion (λ (e : ℕ × Course). e.0 ≤ c) (put nat_cmp k v es)
put_below c k v [] low all = (low, tt)
put_below c k v (e ∷ es) low all = by (put_below c k v es low all.1) (nat_cmp k e.0)
  where
    by : AllByRecursion (λ (x : ℕ × Course). x.0 ≤ c) (put nat_cmp k v es) → (o : Ordering) → AllByRecursion (λ (x : ℕ × Course). x.0 ≤ c) (by_order o ((k, v) ∷ e ∷ es) ((e.0, v) ∷ es) (e ∷ put nat_cmp k v es))
    by rest Less = (low, (all.0, all.1))
    by rest Equal = (all.0, all.1)
    by rest Greater = (all.0, rest)

record_below : (c : ℕ) (cs : Courses) (r : LogRecord) → r.tran ≤ c → AllByRecursion (λ (e : ℕ × Course). e.0 ≤ c) (entries cs) → AllByRecursion (λ (e : ℕ × Course). e.0 ≤ c) (entries (with_record cs r))
record_below c cs r low all = by (r.tran == 0)
  where
    next : Course
    next = after_body (course_of (get cs r.tran)) r r.body

    by : (b : Bool) → AllByRecursion (λ (e : ℕ × Course). e.0 ≤ c) (entries (if b then cs else insert cs r.tran next))
    by true = all
    by false = subst (λ (es : List (ℕ × Course)). AllByRecursion (λ (e : ℕ × Course). e.0 ≤ c) es) (sym (entries-insert nat_cmp_total cs r.tran next)) (put_below c r.tran next (entries cs) low all)

all_below : (c : ℕ) (cs : Courses) (rs : List LogRecord) → AllByRecursion (λ (r : LogRecord). r.tran ≤ c) rs → AllByRecursion (λ (e : ℕ × Course). e.0 ≤ c) (entries cs) → AllByRecursion (λ (e : ℕ × Course). e.0 ≤ c) (entries (courses_from cs rs))
all_below c cs [] low all = all
all_below c cs (r ∷ rs) low all = all_below c (with_record cs r) rs low.1 (record_below c cs r low.0 all)

among_below : (c : ℕ) (es : List (ℕ × Course)) → AllByRecursion (λ (e : ℕ × Course). e.0 ≤ c) es → AllByRecursion (λ (t : OpenTran). t.id ≤ c) (open_among es)
among_below c [] all = tt
among_below c (e ∷ es) all = by (is_open e.1) (among_below c es all.1)
  where
    rest : List (ℕ × Course)
    rest = filter (λ (x : ℕ × Course). is_open x.1) es

    by : (b : Bool) → AllByRecursion (λ (t : OpenTran). t.id ≤ c) (open_among es) → AllByRecursion (λ (t : OpenTran). t.id ≤ c) (map open_tran (cond b (e ∷ rest) rest))
    by true few = (all.0, few)
    by false few = few

none_below : (c : ℕ) (es : List (ℕ × Course)) → length es ≡ 0 → AllByRecursion (λ (e : ℕ × Course). e.0 ≤ c) es
none_below c [] none = tt
none_below c (e ∷ es) none = absurd (omega (arith, none))

pub logs_leave_below : LogsLeaveBelow
logs_leave_below c records low =
    let none : length (entries finite.empty) ≡ 0 = sym (len-entries finite.empty) ∙ len-empty nat_cmp Course in
    among_below c (entries (courses_of records)) (all_below c finite.empty records low (none_below c (entries finite.empty) none))
