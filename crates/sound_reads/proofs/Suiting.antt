-- The plan of what was read of the logs of a sound disk brings each of its pages forward.
use Rattle.std.proofs.Common.{◌≡◌, ℕ, ◌+◌, ◌≤◌, Bool, true, false, cond, List, [], ◌∷◌, ◌++◌, length, inl, inr, refl, sym, ap, subst, ◌∙◌, arith}
use Rattle.std.specs.Prelude.{◌==◌, nat_lt, nat_le, not, ◌||◌, ◌&&◌, filter}
use Rattle.std.specs.List.{AllByRecursion, list_any, list_all}
use Rattle.std.proofs.lemmas.Bool.{and_parts, cases_Bool, eqb-true, leb-true, lt-ltb, le-ltb, and_left, and_right, ne_eqb, not_from_false}
use Rattle.std.proofs.lemmas.List.{length-append}
use Rattle.ds_base.specs.Pages.{same_page}
use Rattle.ds_base.specs.declared.names.PageId.{PageId}
use Rattle.ds_disk.specs.Contents.{Contents}
use Rattle.ds_disk.specs.Pages.{page_at}
use Rattle.ds_model.specs.declared.log.LogRecord.{LogRecord}
use Rattle.ds_model.specs.declared.log.Body.{Body}
use Rattle.ds_model.specs.declared.log.Body.TheVariants as body
use Rattle.ds_model.specs.RecordBytes.{IsAllowed, is_written, record_bytes, log_bytes}
use Rattle.log_record.specs.declared.log.Log.{Log}
use Rattle.log_merge.specs.Merging.{all_records, in_order}
use Rattle.log_reader.specs.Held.{names}
use Rattle.log_trans.specs.Numbers.{greatest}
use Rattle.page_chain.specs.Chains.{changes_of, touches}
use Rattle.page_format.specs.Fields.{lrsn_of}
use Rattle.page_format.specs.declared.patch.Patch.{Patch}
use Rattle.page_images.specs.Images.{Images}
use Rattle.page_redo.specs.Forward.{brought_forward, NeedsItsOwn}
use Rattle.checkpoint_offsets.specs.Offsets.{names_own, all_own}
use Rattle.restart_plan.specs.Plans.{plan_of}
use Rattle.group_restart.specs.Course.{plan_read}
use Rattle.sound_disk.specs.Checkpoints.{next_place, offset_or, start_from, start_of, records_before, is_in_pages, changes_pages, is_done, AreCheckpointed}
use Rattle.sound_disk.specs.Settled.{has_ended}
use Rattle.sound_disk.specs.Versions.{merged, last_images}
use Rattle.sound_disk.specs.Whole_logs.{AreWholeLogs}
use Rattle.sound_restarts.specs.Redo.{IsSoundNow, IsBrought, BringsForward}
use Rattle.sound_restarts.proofs.Numbers.{greatest_is}
use Rattle.sound_restarts.proofs.Page_writes.{same_name}
use Rattle.sound_reads.specs.Reads.{MayBeginAt, IsReadOf, AreReadOf}
use Rattle.sound_reads.specs.Laws.{HaveGreatest, ReadsBring, PlanReadSuits}
use Rattle.sound_reads.proofs.Orders.{Rises, needed, needs_above, filter_order, filter_append, filter_nothing}

never : false ≡ true → ⊥
never e = cc

-- ---- the byte from which the log is read on isn't before the Checkpoint

own_offset : (place start : ℕ) (b : Body) → names_own place b ≡ true → start ≤ place → start ≤ offset_or start b
own_offset place start (body.Checkpoint offset) h le = let e = eqb-true offset place h in omega (arith, e, le)
own_offset place start (body.RowChange change) h le = omega arith
own_offset place start (body.Compensation change undone) h le = omega arith
own_offset place start (body.System patches) h le = omega arith
own_offset place start body.Commit h le = omega arith
own_offset place start body.Ended h le = omega arith
own_offset place start body.RestartEnd h le = omega arith

not_behind : (place start : ℕ) (b : Body) → names_own place b ≡ true → start ≤ place → offset_or start b ≤ place
not_behind place start (body.Checkpoint offset) h le = let e = eqb-true offset place h in omega (arith, e)
not_behind place start (body.RowChange change) h le = le
not_behind place start (body.Compensation change undone) h le = le
not_behind place start (body.System patches) h le = le
not_behind place start body.Commit h le = le
not_behind place start body.Ended h le = le
not_behind place start body.RestartEnd h le = le

start_rises : (start at : ℕ) (rs : List LogRecord) → start ≤ at → all_own at rs ≡ true → start ≤ start_from start rs
start_rises start at [] le h = omega arith
start_rises start at (r ∷ rs) le h =
    let p = and_parts (names_own at r.body) (all_own (at + length (record_bytes r)) rs) h in
    let one = own_offset at start r.body p.0 le in
    let two = not_behind at start r.body p.0 le in
    let more = start_rises (offset_or start r.body) (at + length (record_bytes r)) rs (omega (arith, two)) p.1 in
    omega (arith, one, more)

start_append : (start : ℕ) (xs ys : List LogRecord) → start_from start (xs ++ ys) ≡ start_from (start_from start xs) ys
start_append start [] ys = refl
start_append start (x ∷ xs) ys = start_append (offset_or start x.body) xs ys

named_offset : (place start : ℕ) (w : Bool) (b : Body) → (w && names place b) ≡ true → offset_or start b ≡ place
named_offset place start w (body.Checkpoint offset) h = eqb-true offset place (and_parts w (offset == place) h).1
named_offset place start w (body.RowChange change) h = absurd (never (and_parts w false h).1)
named_offset place start w (body.Compensation change undone) h = absurd (never (and_parts w false h).1)
named_offset place start w (body.System patches) h = absurd (never (and_parts w false h).1)
named_offset place start w body.Commit h = absurd (never (and_parts w false h).1)
named_offset place start w body.Ended h = absurd (never (and_parts w false h).1)
named_offset place start w body.RestartEnd h = absurd (never (and_parts w false h).1)

begins_start : (place : ℕ) (front rest : List LogRecord) → MayBeginAt place rest → place ≤ start_of (front ++ rest)
begins_start place front [] h = absurd h
begins_start place front (r ∷ rs) h =
    let named : offset_or (start_from 0 front) r.body ≡ place = named_offset place (start_from 0 front) (is_written r.version) r.body h.begins in
    let own = (and_parts (names_own place r.body) (all_own (place + length (record_bytes r)) rs) h.own).1 in
    let more = start_rises place (place + length (record_bytes r)) rs (omega arith) own in
    let all : start_of (front ++ r ∷ rs) ≡ start_from place rs = start_append 0 front (r ∷ rs) ∙ ap (λ (n : ℕ). start_from n rs) named in
    omega (arith, more, all)

-- ---- what stands before it is in the pages

-- a record has bytes
abbrev pub Some : Type 0
Some = (r : LogRecord) → IsAllowed r → 1 ≤ length (record_bytes r)

before_front : Some → (f : LogRecord → Bool) (upto at : ℕ) (front rest : List LogRecord) → AllByRecursion IsAllowed front → at + length (log_bytes front) ≤ upto → list_all f (records_before upto at (front ++ rest)) ≡ true → AllByRecursion (λ (r : LogRecord). f r ≡ true) front
before_front some f upto at [] rest allowed le h = tt
before_front some f upto at (r ∷ rs) rest allowed le h =
    let both = length-append (record_bytes r) (log_bytes rs) in
    let one = some r allowed.0 in
    let lt : nat_lt at upto ≡ true = lt-ltb at upto (omega (arith, both, one, le)) in
    let all : list_all f (r ∷ records_before upto (next_place at r) (rs ++ rest)) ≡ true = ap (λ (b : Bool). list_all f (cond b (r ∷ records_before upto (next_place at r) (rs ++ rest)) [])) (sym lt) ∙ h in
    let p = and_parts (f r) (list_all f (records_before upto (next_place at r) (rs ++ rest))) all in
    (p.0, before_front some f upto (next_place at r) rs rest allowed.1 (omega (arith, both, le)) p.1)

in_page : (at : Images) (n : ℕ) (ps : List Patch) (id : PageId) → list_all (λ (p : Patch). nat_le n (lrsn_of (at p.page))) ps ≡ true → list_any (λ (p : Patch). same_page p.page id) ps ≡ true → n ≤ lrsn_of (at id)
in_page at n [] id h e = absurd (never e)
in_page at n (p ∷ ps) id h e =
    let both = and_parts (nat_le n (lrsn_of (at p.page))) (list_all (λ (q : Patch). nat_le n (lrsn_of (at q.page))) ps) h in
    elim (cases_Bool (same_page p.page id)) as (λ _. n ≤ lrsn_of (at id)) [
      | inl s ↦ let le = leb-true n (lrsn_of (at p.page)) both.0 in subst (λ (q : PageId). n ≤ lrsn_of (at q)) (same_name p.page id s) le
      | inr o ↦ in_page at n ps id both.1 (sym (ap (λ (b : Bool). b || list_any (λ (q : Patch). same_page q.page id) ps) o) ∙ e)
    ]

some_changes : (ps : List Patch) (id : PageId) → list_any (λ (p : Patch). same_page p.page id) ps ≡ true → not (length ps == 0) ≡ true
some_changes [] id e = absurd (never e)
some_changes (p ∷ ps) id e =
    let some : (length (p ∷ ps) == 0) ≡ false = ne_eqb (length (p ∷ ps)) 0 (λ z. let none : ⊥ = omega (arith, z) in none) in
    not_from_false (length (p ∷ ps) == 0) some

or_rest : (a b : Bool) → a ≡ false → (a || b) ≡ true → b ≡ true
or_rest true b e h = absurd cc
or_rest false b e h = h

not_true : (b : Bool) → b ≡ true → not b ≡ false
not_true true e = refl
not_true false e = absurd cc

done_above : (at : Images) (records : List LogRecord) (r : LogRecord) (id : PageId) → is_done at records r ≡ true → needed id (at id) r ≡ false
done_above at records r id h =
    elim (cases_Bool (touches id r)) as (λ _. needed id (at id) r ≡ false) [
      | inl t ↦
          let some : not (changes_pages r) ≡ false = not_true (changes_pages r) (some_changes (changes_of r.body) id t) in
          let both = or_rest (not (changes_pages r)) (is_in_pages at r && ((r.tran == 0) || has_ended records r.tran)) some h in
          let le = in_page at r.lrsn (changes_of r.body) id (and_parts (is_in_pages at r) ((r.tran == 0) || has_ended records r.tran) both).0 t in
          and_right (touches id r) (nat_lt (lrsn_of (at id)) r.lrsn) (le-ltb (lrsn_of (at id)) r.lrsn le)
      | inr o ↦ and_left (touches id r) (nat_lt (lrsn_of (at id)) r.lrsn) o
    ]

all_done : (at : Images) (records rs : List LogRecord) (id : PageId) → AllByRecursion (λ (r : LogRecord). is_done at records r ≡ true) rs → AllByRecursion (λ (r : LogRecord). needed id (at id) r ≡ false) rs
all_done at records [] id h = tt
all_done at records (r ∷ rs) id h = (done_above at records r id h.0, all_done at records rs id h.1)

each_front : (xs ys : List LogRecord) → AllByRecursion IsAllowed (xs ++ ys) → AllByRecursion IsAllowed xs
each_front [] ys h = tt
each_front (x ∷ xs) ys h = (h.0, each_front xs ys h.1)

-- of the records that were left out none is needed
front_needless : Some → (at : Images) (log read : Log) (id : PageId) → AllByRecursion IsAllowed log.records → (h : IsReadOf log read) → list_all (is_done at log.records) (records_before (start_of log.records) 0 log.records) ≡ true
    → filter (needed id (at id)) h.front ≡ []
front_needless some at log read id allowed h before =
    elim h.begins as (λ _. filter (needed id (at id)) h.front ≡ []) [
      | inl e ↦ ap (filter (needed id (at id))) e
      | inr may ↦
          let le : length (log_bytes h.front) ≤ start_of log.records = subst (λ (rs : List LogRecord). length (log_bytes h.front) ≤ start_of rs) (sym h.records_are) (begins_start (length (log_bytes h.front)) h.front read.records may) in
          let none : 0 + length (log_bytes h.front) ≤ start_of log.records = omega (arith, le) in
          let there : list_all (is_done at log.records) (records_before (start_of log.records) 0 (h.front ++ read.records)) ≡ true =
          subst (λ (rs : List LogRecord). list_all (is_done at log.records) (records_before (start_of log.records) 0 rs) ≡ true) h.records_are before in
          filter_nothing (needed id (at id)) h.front
          (all_done at log.records h.front id
          (before_front some (is_done at log.records) (start_of log.records) 0 h.front read.records (each_front h.front read.records (subst (AllByRecursion IsAllowed) h.records_are allowed)) none there))
    ]

all_needed : Some → (at : Images) (id : PageId) (member : ℕ) (bytes : List (List ℕ)) (logs reads : List Log) → AreWholeLogs member bytes logs → AreReadOf logs reads → AreCheckpointed at logs
    → filter (needed id (at id)) (all_records logs) ≡ filter (needed id (at id)) (all_records reads)
all_needed some at id member [] [] [] whole h c = refl
all_needed some at id member [] [] (r ∷ rs) whole h c = absurd h
all_needed some at id member [] (l ∷ ls) reads whole h c = absurd whole
all_needed some at id member (b ∷ bs) [] reads whole h c = absurd whole
all_needed some at id member (b ∷ bs) (l ∷ ls) [] whole h c = absurd h
all_needed some at id member (b ∷ bs) (l ∷ ls) (r ∷ rs) whole h c =
    let none = front_needless some at l r id whole.0.records_are.allowed h.0 c.0.before in
    let one : filter (needed id (at id)) l.records ≡ filter (needed id (at id)) r.records =
    ap (filter (needed id (at id))) h.0.records_are ∙ filter_append (needed id (at id)) h.0.front r.records ∙ ap (λ (xs : List LogRecord). xs ++ filter (needed id (at id)) r.records) none in
    filter_append (needed id (at id)) l.records (all_records ls)
    ∙ ap (λ (xs : List LogRecord). xs ++ filter (needed id (at id)) (all_records ls)) one
    ∙ ap (λ (xs : List LogRecord). filter (needed id (at id)) r.records ++ xs) (all_needed some at id (member + 1) bs ls rs whole.1 h.1 c.1)
    ∙ sym (filter_append (needed id (at id)) r.records (all_records rs))

-- ---- the pages

same_brought : Rises → NeedsItsOwn → Some → (c : Contents) (logs reads : List Log) (id : PageId) → IsSoundNow c logs → AreReadOf logs reads
    → brought_forward id (page_at c.pages id) (merged reads) ≡ brought_forward id (page_at c.pages id) (merged logs)
same_brought rises own some c logs reads id h are =
    needs_above own id (page_at c.pages id) (merged reads) (rises (all_records reads))
    ∙ ap (brought_forward id (page_at c.pages id))
    (filter_order rises (needed id (page_at c.pages id)) (all_records reads)
    ∙ ap in_order (sym (all_needed some (page_at c.pages) id 1 c.logs logs reads h.sound.whole_logs are h.sound.checkpoints))
    ∙ sym (filter_order rises (needed id (page_at c.pages id)) (all_records logs)))
    ∙ sym (needs_above own id (page_at c.pages id) (merged logs) (rises (all_records logs)))

pub reads_bring : Rises → NeedsItsOwn → Some → BringsForward → ReadsBring
reads_bring rises own some brings c logs reads id h are =
    subst (IsBrought (page_at c.pages id) (last_images logs id)) (sym (same_brought rises own some c logs reads id h are)) (brings c logs id h)

read_number : (reads : List Log) → (plan_read reads).greatest.lrsn ≡ greatest (all_records reads)
unfolding plan_of
read_number reads = greatest_is reads

pub plan_read_suits : ReadsBring → HaveGreatest → PlanReadSuits
unfolding plan_of
plan_read_suits brings same c logs reads h are = record {
  pages_are = refl;
  brings = λ id. brings c logs reads id h are;
  number = greatest_is reads ∙ same c logs reads h.sound are;
}
