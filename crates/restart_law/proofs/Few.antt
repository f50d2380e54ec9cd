-- How often names are needed of what a log leaves open: no more often than there are records.
use Rattle.std.proofs.Common.{◌≡◌, ℕ, zero, suc, ◌+◌, ◌<◌, ◌≤◌, refl, sym, ◌∙◌, ap, subst, arith, inl, inr, Bool, true, false, cond, List, [], ◌∷◌, ◌++◌, length, length-append, take, drop, Option, Some, None, Result, Ok, Err}
use Rattle.std.specs.Prelude.{◌-◌, ◌==◌, ◌&&◌, T, not, nat_le, nat_lt, if◌then◌else◌, map, filter}
use Rattle.std.proofs.lemmas.Bool.{and_parts, cases_Bool, leb-true, ltb-false}
use Rattle.std.proofs.lemmas.List.{length-drop, length-take}
use Rattle.std.specs.Ordering.{eq_by_cmp, is_eq, is_lt, nat_cmp}
use Rattle.std.specs.Cmp.{nat_cmp_total, ranked}
use Rattle.std.specs.declared.cmp.Ordering.{Ordering}
use Rattle.std.specs.declared.cmp.Ordering.TheVariants.{Less, Equal, Greater}
use Rattle.std.specs.FinMap as finite
use Rattle.std.specs.FinMap.{entries, entries_sorted, find, get, insert, entries-insert, get-entries, is_sorted, len-empty, len-entries}
use Rattle.std.specs.FinMap.Entries.{below_all, by_order, put}
use Rattle.ds_model.specs.declared.lock.Name.{Name}
use Rattle.ds_model.specs.declared.lock.Name.TheVariants as name
use Rattle.ds_model.specs.declared.log.Body.{Body}
use Rattle.ds_model.specs.declared.log.Body.TheVariants as body
use Rattle.ds_model.specs.declared.log.LogRecord.{LogRecord}
use Rattle.ds_model.specs.declared.log.RowChange.{RowChange}
use Rattle.log_record.specs.declared.fault.RecordFault.{RecordFault}
use Rattle.log_record.specs.declared.fault.RecordFault.TheVariants as fault
use Rattle.log_record.specs.Logs.{Parts, behind, parts_from, parts_in, parts_up_to}
use Rattle.log_record.specs.Fields.{◌>>=◌}
use Rattle.log_record.specs.Reading.{ends_at, fields_in, is_size, record_in, whole_in}
use Rattle.log_trans.specs.declared.course.Course.{Course}
use Rattle.log_trans.specs.Courses.{Courses, after_body, course_of, courses_from, courses_of, is_next, is_open, open_among, open_tran, undone_one, with_record}
use Rattle.restart_law.specs.Few.{NeedsAreCounted, ShortLogsNeedFew}
use Rattle.restart_law.specs.Opens.{is_named, needs_among, needs_by, needs_in, needs_of, one_if}

-- ---- one course
weight : Course → ℕ
weight c = length c.undo + length c.undone

change_weighs : (c : Course) (r : LogRecord) (undo : List LogRecord) → undo ≡ c.undo ++ r ∷ [] → length undo + length c.undone ≤ (length c.undo + length c.undone) + 1
change_weighs c r undo is = let long = length-append c.undo (r ∷ []) in let same = ap length is in omega (arith, long, same)

undone_weighs : (undo undone : List LogRecord) → length (take (length undo - 1) undo) + length (undone ++ drop (length undo - 1) undo) ≤ (length undo + length undone) + 1
undone_weighs undo undone =
    let a = length-take (length undo - 1) undo in
    let b = length-drop (length undo - 1) undo in
    let c = length-append undone (drop (length undo - 1) undo) in
    omega (arith, a, b, c)

body_weighs : (c : Course) (r : LogRecord) (b : Body) → weight (after_body c r b) ≤ weight c + 1
unfolding weight
body_weighs c r (body.RowChange change) = change_weighs c _ (after_body c r (body.RowChange change)).undo refl
body_weighs c r (body.Compensation change undone) = by (is_next undone c.undo)
  where
    by : (b : Bool) → length (if b then undone_one c else c).undo + length (if b then undone_one c else c).undone ≤ (length c.undo + length c.undone) + 1
    by true = undone_weighs c.undo c.undone
    by false = omega arith
body_weighs c r (body.System patches) = omega arith
body_weighs c r body.Commit = omega arith
body_weighs c r body.Ended = omega arith
body_weighs c r (body.Checkpoint offset) = omega arith
body_weighs c r body.RestartEnd = omega arith

-- ---- all courses
total : List (ℕ × Course) → ℕ
total [] = 0
total (e ∷ es) = weight e.1 + total es

less : (o : Ordering) → T (is_lt o) → o ≡ Less
less Less h = refl
less Equal h = absurd h
less Greater h = absurd h

equal : (o : Ordering) → is_eq o ≡ true → o ≡ Equal
equal Less e = cc
equal Equal e = refl
equal Greater e = cc

first : (a b : Bool) → T (a && b) → T a
first true b h = tt
first false b h = absurd h

second : (a b : Bool) → T (a && b) → T b
second true b h = h
second false b h = absurd h

-- a key below all has none there
none_found : (k x : ℕ) (es : List (ℕ × Course)) → k < x → T (below_all nat_cmp x es) → find nat_cmp k es ≡ None
none_found k x [] less_than h = refl
none_found k x (e ∷ es) less_than h = elim (cases_Bool (eq_by_cmp nat_cmp k e.0)) [
  | inl same ↦ (
      let tied : k ≡ e.0 = ranked k e.0 Equal (sym (equal (nat_cmp k e.0) same)) in
      let above : x < e.0 = ranked x e.0 Less (sym (less (nat_cmp x e.0) (first _ _ h))) in
      absurd (omega (arith, tied, above, less_than))
      )
  | inr other ↦ ap (λ (b : Bool). cond b (Some e.1) (find nat_cmp k es)) other ∙ none_found k x es less_than (second _ _ h)
]

abbrev Adds : ℕ → Course → List (ℕ × Course) → Type 0
Adds k v es = weight v ≤ weight (course_of (find nat_cmp k es)) + 1

none_weighs : weight (course_of None) ≡ 0
unfolding weight
none_weighs = refl

put_weighs : (k : ℕ) (v : Course) (es : List (ℕ × Course)) → T (is_sorted nat_cmp es) → Adds k v es → total (put nat_cmp k v es) ≤ total es + 1
unfolding total
put_weighs k v [] sorted adds = let none = none_weighs in omega (arith, none, adds)
put_weighs k v (e ∷ es) sorted adds = by (put_weighs k v es (second _ _ sorted)) (nat_cmp k e.0) refl
  where
    found : (b : Bool) → eq_by_cmp nat_cmp k e.0 ≡ b → Adds k v (e ∷ es) → weight v ≤ weight (course_of (cond b (Some e.1) (find nat_cmp k es))) + 1
    found b is a = subst (λ (z : Bool). weight v ≤ weight (course_of (cond z (Some e.1) (find nat_cmp k es))) + 1) is a

    by : (Adds k v es → total (put nat_cmp k v es) ≤ total es + 1) → (o : Ordering) → nat_cmp k e.0 ≡ o → total (by_order o ((k, v) ∷ e ∷ es) ((e.0, v) ∷ es) (e ∷ put nat_cmp k v es)) ≤ total (e ∷ es) + 1
    by on Less is =
        let under : k < e.0 = ranked k e.0 Less (sym is) in
        let nothing : find nat_cmp k es ≡ None = none_found k e.0 es under (first _ _ sorted) in
        let light : weight v ≤ weight (course_of (find nat_cmp k es)) + 1 = found false (ap is_eq is) adds in
        let same : weight (course_of (find nat_cmp k es)) ≡ 0 = ap (λ (z : Option Course). weight (course_of z)) nothing ∙ none_weighs in
        omega (arith, light, same)
    by on Equal is = let light : weight v ≤ weight e.1 + 1 = found true (ap is_eq is) adds in omega (arith, light)
    by on Greater is =
        let light : weight v ≤ weight (course_of (find nat_cmp k es)) + 1 = found false (ap is_eq is) adds in
        let rest : total (put nat_cmp k v es) ≤ total es + 1 = on light in
        omega (arith, rest)

record_weighs : (cs : Courses) (r : LogRecord) → total (entries (with_record cs r)) ≤ total (entries cs) + 1
record_weighs cs r = by (r.tran == 0)
  where
    next : Course
    next = after_body (course_of (get cs r.tran)) r r.body

    by : (b : Bool) → total (entries (if b then cs else insert cs r.tran next)) ≤ total (entries cs) + 1
    by true = omega arith
    by false = subst (λ (es : List (ℕ × Course)). total es ≤ total (entries cs) + 1) (sym (entries-insert nat_cmp_total cs r.tran next))
        (put_weighs r.tran next (entries cs) (entries_sorted cs) (subst (λ (o : Option Course). weight next ≤ weight (course_of o) + 1) (get-entries cs r.tran) (body_weighs (course_of (get cs r.tran)) r r.body)))

all_weigh : (cs : Courses) (rs : List LogRecord) → total (entries (courses_from cs rs)) ≤ total (entries cs) + length rs
all_weigh cs [] = omega arith
all_weigh cs (r ∷ rs) = let more = record_weighs cs r in let rest = all_weigh (with_record cs r) rs in omega (arith, more, rest)

-- ---- what they need
one_most : (b : Bool) → one_if b ≤ 1
one_most true = omega arith
one_most false = omega arith

in_most : (n : Name) (b : Body) → needs_in n b ≤ 1
in_most n (body.RowChange c) = one_most (is_named n c)
in_most n (body.Compensation c undone) = omega arith
in_most n (body.System patches) = omega arith
in_most n body.Commit = omega arith
in_most n body.Ended = omega arith
in_most n (body.Checkpoint offset) = omega arith
in_most n body.RestartEnd = omega arith

of_most : (n : Name) (rs : List LogRecord) → needs_of n rs ≤ length rs
of_most n [] = omega arith
of_most n (r ∷ rs) = let one = in_most n r.body in let rest = of_most n rs in omega (arith, one, rest)

by_most : (n : Name) (e : ℕ × Course) → needs_by n (open_tran e) ≤ weight e.1
unfolding weight
by_most n e = let undo = of_most n e.1.undo in let undone = of_most n e.1.undone in omega (arith, undo, undone)

among_most : (n : Name) (es : List (ℕ × Course)) → needs_among n (open_among es) ≤ total es
unfolding total
among_most n [] = omega arith
among_most n (e ∷ es) = by (is_open e.1) (among_most n es)
  where
    rest : List (ℕ × Course)
    rest = filter (λ (x : ℕ × Course). is_open x.1) es

    by : (b : Bool) → needs_among n (open_among es) ≤ total es → needs_among n (map open_tran (cond b (e ∷ rest) rest)) ≤ weight e.1 + total es
    by true more = let first = by_most n e in omega (arith, first, more)
    by false more = omega (arith, more)

no_weight : (es : List (ℕ × Course)) → length es ≡ 0 → total es ≡ 0
unfolding total
no_weight [] none = refl
no_weight (e ∷ es) none = absurd (omega (arith, none))

pub needs_counted : NeedsAreCounted
needs_counted records n =
    let none : total (entries finite.empty) ≡ 0 = no_weight (entries finite.empty) (sym (len-entries finite.empty) ∙ len-empty nat_cmp Course) in
    let all = all_weigh finite.empty records in
    let among = among_most n (entries (courses_of records)) in
    omega (arith, none, all, among)

-- ---- a log has no more records than bytes
abbrev Sized : List ℕ → Result (LogRecord × ℕ) RecordFault → Type 0
Sized bytes (Ok (r, n)) = (1 ≤ n) × (n ≤ length bytes)
Sized bytes (Err f) = Unit {0}

sized_if : (bytes : List ℕ) (b : Bool) (r : LogRecord) (n : ℕ) (f : RecordFault) → (1 ≤ n) × (n ≤ length bytes) → Sized bytes (if b then Ok (r, n) else Err f)
sized_if bytes true r n f h = h
sized_if bytes false r n f h = tt

sized_fields : (bytes : List ℕ) (size : ℕ) (x : Result (LogRecord × ℕ) RecordFault) → (1 ≤ size) × (size ≤ length bytes) → Sized bytes (x >>= λ found. if ends_at bytes size found.1 then Ok (found.0, size) else Err (fault.Bad found.1))
sized_fields bytes size (Ok found) h = sized_if bytes (ends_at bytes size found.1) found.0 size (fault.Bad found.1) h
sized_fields bytes size (Err f) h = tt

sized_whole : (bytes : List ℕ) (size : ℕ) → (1 ≤ size) × (size ≤ length bytes) → Sized bytes (whole_in bytes size)
unfolding whole_in
sized_whole bytes size h = sized_fields bytes size (fields_in (take (size - 4) bytes)) h

sized_by : (bytes : List ℕ) (size : ℕ) (few sized cut : Bool) → is_size size ≡ sized → nat_lt (length bytes) size ≡ cut
    → Sized bytes (if few then Err fault.NotWhole else if not sized then Err (fault.Bad 0) else if cut then Err fault.NotWhole else whole_in bytes size)
sized_by bytes size true sized cut s c = tt
sized_by bytes size false false cut s c = tt
sized_by bytes size false true true s c = tt
sized_by bytes size false true false s c =
    let long : 22 ≤ size = leb-true 22 size (and_parts (nat_le 22 size) (nat_le size 16384) s).0 in
    let within : size ≤ length bytes = ltb-false (length bytes) size c in
    sized_whole bytes size (omega (arith, long), within)

sized_of : (bytes : List ℕ) (size : ℕ) (few : Bool)
    → Sized bytes (if few then Err fault.NotWhole else if not (is_size size) then Err (fault.Bad 0) else if nat_lt (length bytes) size then Err fault.NotWhole else whole_in bytes size)
sized_of bytes size few = sized_by bytes size few (is_size size) (nat_lt (length bytes) size) refl refl

record_sized : (bytes : List ℕ) → Sized bytes (record_in bytes)
unfolding record_in
record_sized bytes = search (sized_of)

abbrev Few : ℕ → Result Parts ℕ → Type 0
Few most (Ok p) = length p.records ≤ most
Few most (Err at) = Unit {0}

few_behind : (less most : ℕ) (r : LogRecord) (n : ℕ) (x : Result Parts ℕ) → suc less ≤ most → Few less x → Few most (behind r n x)
few_behind less most r n (Ok p) more few = let count : length p.records ≤ less = few in omega (arith, count, more)
few_behind less most r n (Err at) more few = tt

few_from : (read_on : List ℕ → Result Parts ℕ) (bytes : List ℕ) → ((rest : List ℕ) → Few (length rest) (read_on rest)) → (x : Result (LogRecord × ℕ) RecordFault) → Sized bytes x → Few (length bytes) (parts_from read_on bytes x)
few_from read_on bytes few (Ok (r, n)) sized = let left = length-drop n bytes in few_behind (length (drop n bytes)) (length bytes) r n (read_on (drop n bytes)) (omega (arith, left, sized.0, sized.1)) (few (drop n bytes))
few_from read_on bytes few (Err fault.NotWhole) sized = omega arith
few_from read_on bytes few (Err fault.NoMemory) sized = omega arith
few_from read_on bytes few (Err (fault.Bad at)) sized = tt

few_up_to : (count : ℕ) (bytes : List ℕ) → Few (length bytes) (parts_up_to count bytes)
unfolding parts_up_to
few_up_to zero bytes = omega arith
few_up_to (suc count) bytes = few_from (λ rest. parts_up_to count rest) bytes (λ rest. few_up_to count rest) (record_in bytes) (record_sized bytes)

few_parts : (bytes : List ℕ) (p : Parts) → parts_in bytes ≡ Ok p → length p.records ≤ length bytes
unfolding parts_in
few_parts bytes p is = subst (λ (x : Result Parts ℕ). Few (length bytes) x) is (few_up_to (suc (length bytes)) bytes)

pub short_logs_need_few : ShortLogsNeedFew
short_logs_need_few log short records last n =
    let counted = needs_counted records n in
    let same : length records ≡ length last.parts.records = ap length last.are in
    let parts : length last.parts.records ≤ length (drop last.start log) = few_parts (drop last.start log) last.parts last.told in
    let left = length-drop last.start log in
    omega (arith, counted, same, parts, left, short)
