-- A transaction of which what was read of a log has no record is settled: what stands before a Checkpoint needn't be read again.
use Rattle.std.proofs.Common.{◌≡◌, ℕ, ◌+◌, ◌-◌, ◌≤◌, Bool, true, false, cond, List, [], ◌∷◌, ◌++◌, length, take, inl, inr, refl, sym, ap, subst, ◌∙◌, arith}
use Rattle.std.specs.Prelude.{◌==◌, nat_lt, not, ◌||◌, ◌&&◌}
use Rattle.std.specs.List.{AllByRecursion, list_any, list_all}
use Rattle.std.proofs.lemmas.Bool.{and_parts, or_cases, or_parts, cases_Bool, cond_both, eqb-true, lt-ltb}
use Rattle.std.proofs.lemmas.List.{length-append}
use Rattle.ds_model.specs.declared.log.LogRecord.{LogRecord}
use Rattle.ds_model.specs.declared.log.Body.{Body}
use Rattle.ds_model.specs.declared.log.Body.TheVariants as body
use Rattle.ds_model.specs.RecordBytes.{IsAllowed, is_written, record_bytes, log_bytes}
use Rattle.log_record.specs.declared.log.Log.{Log}
use Rattle.log_reader.specs.Held.{names}
use Rattle.log_trans.specs.declared.course.Course.{Course}
use Rattle.log_trans.specs.Courses.{new_course, is_next, undone_one, after_body}
use Rattle.page_chain.specs.Chains.{changes_of}
use Rattle.page_images.specs.Images.{Images}
use Rattle.checkpoint_offsets.specs.Offsets.{names_own, all_own}
use Rattle.sound_disk.specs.Checkpoints.{next_place, offset_or, start_from, start_of, records_before, is_in_pages, is_done}
use Rattle.sound_disk.specs.Settled.{is_row_change, has_ended}
use Rattle.sound_disk.specs.Transactions.{speak_of, course_in}
use Rattle.sound_plans.specs.Opens.{course_of}
use Rattle.sound_plans.proofs.Members.{IsSoundLog}
use Rattle.sound_reads.specs.Reads.{MayBeginAt, IsReadOf}
use Rattle.sound_reads.proofs.Apart.{course_stays, course_more}
use Rattle.read_plans.specs.Courses.{Settles, EndedIsSettled}

never : false ≡ true → ⊥
never e = cc

-- ---- the byte from which the log is read on isn't before what was read

own_offset : (place start : ℕ) (b : Body) → names_own place b ≡ true → start ≤ place → (start ≤ offset_or start b) × (offset_or start b ≤ place)
own_offset place start (body.Checkpoint offset) h le = let e = eqb-true offset place h in (omega (arith, e, le), omega (arith, e))
own_offset place start (body.RowChange change) h le = (omega arith, le)
own_offset place start (body.Compensation change undone) h le = (omega arith, le)
own_offset place start (body.System patches) h le = (omega arith, le)
own_offset place start body.Commit h le = (omega arith, le)
own_offset place start body.Ended h le = (omega arith, le)
own_offset place start body.RestartEnd h le = (omega arith, le)

start_rises : (start at : ℕ) (rs : List LogRecord) → start ≤ at → all_own at rs ≡ true → start ≤ start_from start rs
start_rises start at [] le h = omega arith
start_rises start at (r ∷ rs) le h =
    let p = and_parts (names_own at r.body) (all_own (at + length (record_bytes r)) rs) h in
    let own = own_offset at start r.body p.0 le in
    let low = own.0 in
    let high = own.1 in
    let more = start_rises (offset_or start r.body) (at + length (record_bytes r)) rs (omega (arith, high)) p.1 in
    omega (arith, low, more)

start_append : (start : ℕ) (xs ys : List LogRecord) → start_from start (xs ++ ys) ≡ start_from (start_from start xs) ys
start_append start [] ys = refl
start_append start (x ∷ xs) ys = start_append (offset_or start x.body) xs ys

named_offset : (place start : ℕ) (w : Bool) (b : Body) → (w && names place b) ≡ true → offset_or start b ≡ place
named_offset place start w (body.Checkpoint offset) h = eqb-true offset place (and_parts w (offset == place) h).1
named_offset place start w (body.RowChange change) h = absurd (never (and_parts w false h).1)
named_offset place start w (body.Compensation change undone) h = absurd (never (and_parts w false h).1)
named_offset place start w (body.System patches) h = absurd (never (and_parts w false h).1)
named_offset place start w body.Commit h = absurd (never (and_parts w false h).1)
named_offset place start w body.Ended h = absurd (never (and_parts w false h).1)
named_offset place start w body.RestartEnd h = absurd (never (and_parts w false h).1)

begins_start : (place : ℕ) (front rest : List LogRecord) → MayBeginAt place rest → place ≤ start_of (front ++ rest)
begins_start place front [] h = absurd h
begins_start place front (r ∷ rs) h =
    let named : offset_or (start_from 0 front) r.body ≡ place = named_offset place (start_from 0 front) (is_written r.version) r.body h.begins in
    let own = (and_parts (names_own place r.body) (all_own (place + length (record_bytes r)) rs) h.own).1 in
    let more = start_rises place (place + length (record_bytes r)) rs (omega arith) own in
    let all : start_of (front ++ r ∷ rs) ≡ start_from place rs = start_append 0 front (r ∷ rs) ∙ ap (λ (n : ℕ). start_from n rs) named in
    omega (arith, more, all)

-- ---- so what was left out is done

-- a record has bytes
abbrev pub HasBytes : Type 0
HasBytes = (r : LogRecord) → IsAllowed r → 1 ≤ length (record_bytes r)

before_front : HasBytes → (f : LogRecord → Bool) (upto at : ℕ) (front rest : List LogRecord) → AllByRecursion IsAllowed front → at + length (log_bytes front) ≤ upto → list_all f (records_before upto at (front ++ rest)) ≡ true → AllByRecursion (λ (r : LogRecord). f r ≡ true) front
before_front some f upto at [] rest allowed le h = tt
before_front some f upto at (r ∷ rs) rest allowed le h =
    let both = length-append (record_bytes r) (log_bytes rs) in
    let one = some r allowed.0 in
    let lt : nat_lt at upto ≡ true = lt-ltb at upto (omega (arith, both, one, le)) in
    let all : list_all f (r ∷ records_before upto (next_place at r) (rs ++ rest)) ≡ true = ap (λ (b : Bool). list_all f (cond b (r ∷ records_before upto (next_place at r) (rs ++ rest)) [])) (sym lt) ∙ h in
    let p = and_parts (f r) (list_all f (records_before upto (next_place at r) (rs ++ rest))) all in
    (p.0, before_front some f upto (next_place at r) rs rest allowed.1 (omega (arith, both, le)) p.1)

each_front : (xs ys : List LogRecord) → AllByRecursion IsAllowed (xs ++ ys) → AllByRecursion IsAllowed xs
each_front [] ys h = tt
each_front (x ∷ xs) ys h = (h.0, each_front xs ys h.1)

abbrev AreDone : Images → List LogRecord → List LogRecord → Type 0
AreDone at records rs = AllByRecursion (λ (r : LogRecord). is_done at records r ≡ true) rs

front_done : HasBytes → (at : Images) (log read : Log) → AllByRecursion IsAllowed log.records → (h : IsReadOf log read) → list_all (is_done at log.records) (records_before (start_of log.records) 0 log.records) ≡ true → AreDone at log.records h.front
front_done some at log read allowed h before =
    elim h.begins as (λ _. AreDone at log.records h.front) [
      | inl e ↦ subst (AreDone at log.records) (sym e) tt
      | inr may ↦
          let le : length (log_bytes h.front) ≤ start_of log.records = subst (λ (rs : List LogRecord). length (log_bytes h.front) ≤ start_of rs) (sym h.records_are) (begins_start (length (log_bytes h.front)) h.front read.records may) in
          let there : list_all (is_done at log.records) (records_before (start_of log.records) 0 (h.front ++ read.records)) ≡ true =
          subst (λ (rs : List LogRecord). list_all (is_done at log.records) (records_before (start_of log.records) 0 rs) ≡ true) h.records_are before in
          before_front some (is_done at log.records) (start_of log.records) 0 h.front read.records (each_front h.front read.records (subst (AllByRecursion IsAllowed) h.records_are allowed)) (omega (arith, le)) there
    ]

-- ---- a transaction with a row change there has ended

-- one of the records is a row change of the transaction
abbrev makes : ℕ → List LogRecord → Bool
makes t rs = list_any (λ (r : LogRecord). is_row_change r.body && (r.tran == t)) rs

row_changes : (b : Body) → is_row_change b ≡ true → not (length (changes_of b) == 0) ≡ true
row_changes (body.RowChange change) h = refl
row_changes (body.Compensation change undone) h = absurd cc
row_changes (body.System patches) h = absurd cc
row_changes body.Commit h = absurd cc
row_changes body.Ended h = absurd cc
row_changes (body.Checkpoint offset) h = absurd cc
row_changes body.RestartEnd h = absurd cc

done_parts : (changes pages zero ended : Bool) → changes ≡ true → zero ≡ false → (not changes || (pages && (zero || ended))) ≡ true → ended ≡ true
done_parts true true true ended h k l = absurd cc
done_parts true true false ended h k l = l
done_parts true false zero ended h k l = absurd cc
done_parts false pages zero ended h k l = absurd cc

made_ended : (at : Images) (records rs : List LogRecord) (t : ℕ) → (t == 0) ≡ false → AreDone at records rs → makes t rs ≡ true → has_ended records t ≡ true
made_ended at records [] t some done is = absurd cc
made_ended at records (r ∷ rs) t some done is =
    elim (or_cases (is_row_change r.body && (r.tran == t)) (makes t rs) is) as (λ _. has_ended records t ≡ true) [
      | inl e ↦
          let p = and_parts (is_row_change r.body) (r.tran == t) e in
          let tran : r.tran ≡ t = eqb-true r.tran t p.1 in
          let its : has_ended records r.tran ≡ true =
          done_parts (not (length (changes_of r.body) == 0)) (is_in_pages at r) (r.tran == 0) (has_ended records r.tran) (row_changes r.body p.0) (ap (λ (n : ℕ). n == 0) tran ∙ some) done.0 in
          ap (has_ended records) (sym tran) ∙ its
      | inr e ↦ made_ended at records rs t some done.1 e
    ]

-- ---- of one without nothing is to be undone

body_leaves : (c : Course) (r : LogRecord) (b : Body) → c.undo ≡ [] → is_row_change b ≡ false → (after_body c r b).undo ≡ []
body_leaves c r (body.RowChange change) e h = absurd cc
body_leaves c r (body.Compensation change n) e h = cond_both (is_next n c.undo) (undone_one c) c (λ (d : Course). d.undo ≡ []) (λ is. ap (λ (us : List LogRecord). take (length us - 1) us) e) (λ is. e)
body_leaves c r (body.System patches) e h = e
body_leaves c r body.Commit e h = e
body_leaves c r body.Ended e h = e
body_leaves c r (body.Checkpoint offset) e h = e
body_leaves c r body.RestartEnd e h = e

not_first : (a b : Bool) → b ≡ true → (a && b) ≡ false → a ≡ false
not_first true true h k = absurd cc
not_first true false h k = absurd cc
not_first false b h k = refl

none_made : (t : ℕ) (c : Course) (rs : List LogRecord) → c.undo ≡ [] → makes t rs ≡ false → (course_in c t rs).undo ≡ []
none_made t c [] e h = e
none_made t c (r ∷ rs) e h =
    let p = or_parts (is_row_change r.body && (r.tran == t)) (makes t rs) h in
    none_made t (cond (r.tran == t) (after_body c r r.body) c) rs
    (cond_both (r.tran == t) (after_body c r r.body) c (λ (d : Course). d.undo ≡ []) (λ own. body_leaves c r r.body e (not_first (is_row_change r.body) (r.tran == t) own p.0)) (λ other. e)) p.1

-- ---- both

pub left_out_settles : HasBytes → EndedIsSettled → (at : Images) (log read : Log) (t : ℕ) → IsSoundLog log → IsReadOf log read → list_all (is_done at log.records) (records_before (start_of log.records) 0 log.records) ≡ true → (t == 0) ≡ false → speak_of t read.records ≡ false
    → Settles log.records t
left_out_settles some law at log read t s h before numbered silent =
    let course : course_of log.records t ≡ course_in new_course t h.front =
    ap (course_in new_course t) h.records_are ∙ course_more new_course t h.front read.records ∙ course_stays (course_in new_course t h.front) t read.records silent in
    elim (cases_Bool (makes t h.front)) as (λ _. Settles log.records t) [
      | inl e ↦ law log.records t s.follow s.differ (made_ended at log.records h.front t numbered (front_done some at log read s.allowed h before) e)
      | inr e ↦ inr (ap (λ (c : Course). c.undo) course ∙ none_made t new_course h.front refl e)
    ]
