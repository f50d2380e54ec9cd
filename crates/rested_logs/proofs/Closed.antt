-- The logs of a group's members close what need not be read of them.
use Rattle.std.proofs.Common.{◌≡◌, ℕ, suc, zero, ◌+◌, ◌-◌, refl, sym, ◌∙◌, ap, subst, arith, Bool, true, false, cond, inl, inr, List, [], ◌∷◌, ◌++◌, length, take, drop, get_or, Option, Some, None, Result, Ok, Err}
use Rattle.std.specs.Prelude.{◌≢◌, ◌⊎◌, ◌==◌, ◌&&◌, ◌||◌, IfSome, not, slice_get}
use Rattle.std.specs.List.{AllByRecursion}
use Rattle.std.proofs.lemmas.Bool.{and_parts, both_ways, cases_Bool, eqb-true, or_cases, or_left, or_right}
use Rattle.std.proofs.lemmas.List.{append-nil, drop_at, take_at}
use Rattle.std.proofs.lemmas.List.Concat.{flat_map-append}
use Rattle.ds_disk.specs.Contents.{Contents, log_of}
use Rattle.ds_model.specs.Logs.{IsLog, is_commit}
use Rattle.ds_model.specs.RecordBytes.{IsAllowed, is_written, log_bytes, record_bytes}
use Rattle.ds_model.specs.Rows.{Spot}
use Rattle.ds_model.specs.declared.log.Body.{Body}
use Rattle.ds_model.specs.declared.log.Body.TheVariants as body
use Rattle.ds_model.specs.declared.log.LogRecord.{LogRecord}
use Rattle.log_record.specs.Logs.{ArePartsOf, Parts, parts_in}
use Rattle.log_record.specs.Reading.{record_in}
use Rattle.log_record.specs.declared.log.Log.{Log}
use Rattle.log_reader.specs.Held.{names}
use Rattle.log_reader.specs.Keeping.{AreWhole}
use Rattle.log_rows.specs.Rows.{IsOpenIn, OpenTell, has_changed, is_change_of, is_closed, touches}
use Rattle.log_trans.specs.Courses.{open_trans}
use Rattle.log_trans.specs.declared.opened.OpenTran.{OpenTran}
use Rattle.log_starts.specs.Starts.{NamesOwn}
use Rattle.log_appends.specs.Appends.{AllAreLast, AreLastFrom}
use Rattle.log_appends.specs.Rests.{NothingIsRest}
use Rattle.log_opens.specs.Opens.{has_opened}
use Rattle.sound_disk.specs.Settled.{is_row_change}
use Rattle.sound_disk.specs.Transactions.{speak_of}
use Rattle.sound_disk.specs.Whole_logs.{AreWholeLogs, IsWholeLog}
use Rattle.sound_plans.specs.Queues.{records_for}
use Rattle.sound_reads.specs.Reads.{MayBeginAt}
use Rattle.read_plans.specs.Ends.{IsLeftOut}
use Rattle.restart_soundness.specs.Left_out as out
use Rattle.restart_soundness.specs.Left_out.{LeavesOutClosed}
use Rattle.lock_protocol.specs.Machine.{World}
use Rattle.claimed_logs.specs.Given.{CrewState, LocksTied, Member}
use Rattle.claimed_logs.specs.Commits.{changes_for, changes_row, commits_last}
use Rattle.claimed_logs.specs.Courses.{LeavesAlike}
use Rattle.claimed_logs.specs.Logs.{ClosingLeaves, LogCloses, LogsClaimed, LogsLeave}
use Rattle.rested_logs.specs.Rests.{AlikeLeaveClosed, EmptyCloses, EmptyLeaveClosed, GroupsLeaveClosed, OthersClose}

pub record Facts : Type 0 where
  pub again : (r : LogRecord) (rest : List ℕ) → IsAllowed r → record_in (record_bytes r ++ rest) ≡ Ok (r, length (record_bytes r))
  pub sound : (bytes : List ℕ) (records : List LogRecord) → IsLog bytes records → parts_in bytes ≡ Ok (record { records = records; size = length (log_bytes records); tail = length bytes - length (log_bytes records) })
  pub parts : (bytes : List ℕ) (p : Parts) → ArePartsOf bytes p → parts_in bytes ≡ Ok p
  pub tell : OpenTell
  pub all : AllAreLast
  pub nothing : NothingIsRest

never : false ≡ true → ⊥
never e = cc

-- ---- the same words
change_is : (b : Body) → changes_row b ≡ is_row_change b
change_is (body.RowChange c) = refl
change_is (body.Compensation c undone) = refl
change_is (body.System patches) = refl
change_is body.Commit = refl
change_is body.Ended = refl
change_is (body.Checkpoint offset) = refl
change_is body.RestartEnd = refl

for_is : (records : List LogRecord) (id : ℕ) → changes_for records id ≡ out.changes_for id records
for_is [] id = refl
for_is (r ∷ rs) id = ap (λ (b : Bool). ((r.tran == id) && b) || changes_for rs id) (change_is r.body) ∙ ap (λ (b : Bool). ((r.tran == id) && is_row_change r.body) || b) (for_is rs id)

pub last_is : (records : List LogRecord) → commits_last records ≡ out.commits_last records
last_is [] = refl
last_is (r ∷ rs) = ap (λ (b : Bool). not (is_commit r.body && b) && commits_last rs) (for_is rs r.tran) ∙ ap (λ (b : Bool). not (is_commit r.body && out.changes_for r.tran rs) && b) (last_is rs)

-- ---- records that don't speak of a transaction
silent_changes : (records : List LogRecord) (id : ℕ) (spot : Spot) → speak_of id records ≡ false → has_changed records id spot ≡ true → ⊥
silent_changes [] id spot silent e = never e
silent_changes (r ∷ rs) id spot silent e = by (λ none. silent_changes rs id spot none) (or_cases ((r.tran == id) && is_change_of spot r.body) (has_changed rs id spot) e)
  where
    by : (speak_of id rs ≡ false → has_changed rs id spot ≡ true → ⊥) → (((r.tran == id) && is_change_of spot r.body) ≡ true) ⊎ (has_changed rs id spot ≡ true) → ⊥
    by rest (inl first) = both_ways (speak_of id (r ∷ rs)) silent (or_left (r.tran == id) (speak_of id rs) (and_parts (r.tran == id) (is_change_of spot r.body) first).0)
    by rest (inr more) = elim (cases_Bool (speak_of id rs)) [
      | inl spoken ↦ both_ways (speak_of id (r ∷ rs)) silent (or_right (r.tran == id) (speak_of id rs) spoken)
      | inr none ↦ rest none more
    ]

opened_changed : (records : List LogRecord) (id : ℕ) (spot : Spot) (ts : List OpenTran) → AllByRecursion (IsOpenIn records) ts → has_opened ts id spot ≡ true → has_changed records id spot ≡ true
opened_changed records id spot [] h e = absurd (never e)
opened_changed records id spot (t ∷ ts) h e = by (opened_changed records id spot ts h.1) (or_cases ((t.id == id) && touches t spot) (has_opened ts id spot) e)
  where
    by : (has_opened ts id spot ≡ true → has_changed records id spot ≡ true) → (((t.id == id) && touches t spot) ≡ true) ⊎ (has_opened ts id spot ≡ true) → has_changed records id spot ≡ true
    by rest (inl m) = let p = and_parts (t.id == id) (touches t spot) m in subst (λ (z : ℕ). has_changed records z spot ≡ true) (eqb-true t.id id p.0) (h.0.changed spot p.1)
    by rest (inr x) = rest x

-- ---- lists
front_all : (P : LogRecord → Type 0) (xs ys : List LogRecord) → AllByRecursion P (xs ++ ys) → AllByRecursion P xs
front_all P [] ys h = tt
front_all P (x ∷ xs) ys h = (h.0, front_all P xs ys h.1)

pub back_all : (P : LogRecord → Type 0) (xs ys : List LogRecord) → AllByRecursion P (xs ++ ys) → AllByRecursion P ys
back_all P [] ys h = h
back_all P (x ∷ xs) ys h = back_all P xs ys h.1

pub whole_log : (records : List LogRecord) → AllByRecursion IsAllowed records → IsLog (log_bytes records) records
whole_log records allowed = record { tail = []; whole = sym (append-nil (log_bytes records)); allowed = allowed; torn = inl refl }

pub same_records : (x : Result Parts ℕ) (p q : Parts) → x ≡ Ok p → x ≡ Ok q → p.records ≡ q.records
same_records x p q a b =
    let both : Ok p ≡ Ok q = sym a ∙ b in
    let same : p ≡ q = cc in
    ap (λ (z : Parts). z.records) same

-- ---- one log

-- what is said of its records
pub record ClosesOut (records : List LogRecord) : Type 0 where
  pub commits : out.commits_last records ≡ true
  pub closed : (tran : ℕ) (spot : Spot) → tran ≢ 0 → has_changed records tran spot ≡ true → IsLeftOut records tran → is_closed records tran ≡ true

module _ (facts : Facts) where
  -- its records are those of its whole bytes
  records_are : (k : ℕ) (bytes : List ℕ) (log : Log) → IsWholeLog k bytes log → (l : LeavesAlike bytes) → log.records ≡ l.are.records
  records_are k bytes log w l =
      same_records (parts_in bytes)
      (record { records = log.records; size = length (log_bytes log.records); tail = length bytes - length (log_bytes log.records) })
      (record { records = l.are.records; size = length (log_bytes l.are.records); tail = length l.rest })
      (facts.sound bytes log.records w.records_are)
      (facts.parts bytes (record { records = l.are.records; size = length (log_bytes l.are.records); tail = length l.rest }) (record {
        rest = l.rest;
        split = l.is ∙ ap (λ (z : List ℕ). z ++ l.rest) l.are.spelled;
        allowed = l.are.allowed;
        not_whole = l.is_rest;
        size_is = refl;
        tail_is = refl;
      }))

  -- what may be read from a Checkpoint on are last records
  begins_there : (start : ℕ) (back : List LogRecord) → AllByRecursion IsAllowed back → MayBeginAt start back → NamesOwn start (log_bytes back)
  begins_there start [] allowed may = absurd may
  begins_there start (r ∷ rs) allowed may = record {
    made = r;
    size = length (record_bytes r);
    read = facts.again r (log_bytes rs) allowed.0;
    own = (and_parts (is_written r.version) (names start r.body) may.begins).1;
  }

  last_from : (whole : List ℕ) → (are : AreWhole whole) → (tran : ℕ) → (out : IsLeftOut are.records tran) → AreLastFrom whole (length (log_bytes out.front)) out.back
  last_from whole are tran out = record {
    whole = record { records = out.front; spelled = ap (take start) split ∙ take_at (log_bytes out.front) (log_bytes out.back) start refl; allowed = front_all IsAllowed out.front out.back allowed };
    begins = inr (subst (NamesOwn start) (sym behind) (begins_there start out.back allowed_back out.begins));
    parts = record { records = out.back; size = length (log_bytes out.back); tail = length (log_bytes out.back) - length (log_bytes out.back) };
    told = ap parts_in behind ∙ facts.sound (log_bytes out.back) out.back (whole_log out.back allowed_back);
    are = refl;
  }
    where
      start : ℕ
      start = length (log_bytes out.front)

      allowed : AllByRecursion IsAllowed (out.front ++ out.back)
      allowed = subst (AllByRecursion IsAllowed) out.records_are are.allowed

      allowed_back : AllByRecursion IsAllowed out.back
      allowed_back = back_all IsAllowed out.front out.back allowed

      split : whole ≡ log_bytes out.front ++ log_bytes out.back
      split = are.spelled ∙ ap log_bytes out.records_are ∙ flat_map-append record_bytes out.front out.back

      behind : drop start whole ≡ log_bytes out.back
      behind = ap (drop start) split ∙ drop_at (log_bytes out.front) (log_bytes out.back) start refl

  closes_out : (bytes : List ℕ) → (l : LeavesAlike bytes) → ClosesOut l.are.records
  closes_out bytes l = record {
    commits = sym (last_is l.are.records) ∙ l.alike.commits 0 l.are.records every;
    closed = λ tran spot some changed out. by tran spot out (l.alike.opens (length (log_bytes out.front)) out.back (last_from l.whole l.are tran out) 0 l.are.records every tran spot some changed);
  }
    where
      every : AreLastFrom l.whole 0 l.are.records
      every = facts.all l.whole l.are

      by : (tran : ℕ) (spot : Spot) → (out : IsLeftOut l.are.records tran) → (is_closed l.are.records tran ≡ true) ⊎ (has_opened (open_trans out.back) tran spot ≡ true) → is_closed l.are.records tran ≡ true
      by tran spot out (inl closed) = closed
      by tran spot out (inr opened) = absurd (silent_changes out.back tran spot out.silent (opened_changed out.back tran spot (open_trans out.back) (facts.tell out.back) opened))

  -- ---- all logs
  none_out : ClosesOut []
  none_out = record { commits = refl; closed = λ tran spot some changed out. absurd (never changed) }

  of_either : (b : Bool) (xs ys : List LogRecord) → ClosesOut xs → ClosesOut ys → ClosesOut (cond b xs ys)
  of_either true xs ys h k = h
  of_either false xs ys h k = k

  for_all : (k : ℕ) (bs : List (List ℕ)) (logs : List Log) → AreWholeLogs k bs logs → ((i : ℕ) → LeavesAlike (get_or bs i [])) → (m : ℕ) → ClosesOut (records_for logs m)
  for_all k [] [] w each m = none_out
  for_all k [] (l ∷ ls) w each m = absurd w
  for_all k (b ∷ bs) [] w each m = absurd w
  for_all k (b ∷ bs) (l ∷ ls) w each m =
      of_either (l.member == m) l.records (records_for ls m) (subst ClosesOut (sym (records_are k b l w.0 (each 0))) (closes_out b (each 0))) (for_all (k + 1) bs ls w.1 (λ i. each (suc i)) m)

  pub alike_leave : AlikeLeaveClosed
  alike_leave c logs w each = record {
    logs = logs;
    whole = w;
    commits = λ m. (out_of m).commits;
    closed = λ m tran spot some changed out. (out_of m).closed tran spot some changed out;
  }
    where
      at : (i : ℕ) → LeavesAlike (get_or c.logs i [])
      at i = let same : i + 1 - 1 ≡ i = omega arith in subst (λ (z : ℕ). LeavesAlike (get_or c.logs z [])) same (each i)

      out_of : (m : ℕ) → ClosesOut (records_for logs m)
      out_of m = for_all 1 c.logs logs w at m

  pub groups_leave : LogsLeave → ClosingLeaves → GroupsLeaveClosed
  groups_leave leave closing c s w logs whole t l others = alike_leave c logs whole (λ at. on at (slice_get s.members at) refl (leave c s w t l at))
    where
      on : (at : ℕ) (o : Option Member) → slice_get s.members at ≡ o → IfSome o (λ (m : Member). LeavesAlike (log_of c.logs (at + 1))) → LeavesAlike (log_of c.logs (at + 1))
      on at None is h = closing (log_of c.logs (at + 1)) (others at is)
      on at (Some m) is h = h

  -- ---- empty logs
  drop_none : (start : ℕ) → drop {A = ℕ} start [] ≡ []
  drop_none zero = refl
  drop_none (suc start) = refl

  none_read : (start : ℕ) (back : List LogRecord) → AreLastFrom [] start back → back ≡ []
  none_read start back last =
      last.are ∙ same_records (parts_in (drop start [])) last.parts (record { records = []; size = 0; tail = 0 }) last.told (ap parts_in (drop_none start) ∙ facts.sound [] [] (whole_log [] tt))

  pub empty_closes : EmptyCloses
  empty_closes = record {
    whole = record { records = []; spelled = refl; allowed = tt };
    closed = λ start back last id spot some changed. absurd (never (subst (λ (z : List LogRecord). has_changed z id spot ≡ true) (none_read start back last) changed));
    commits = λ start back last. subst (λ (z : List LogRecord). commits_last z ≡ true) (sym (none_read start back last)) refl;
  }

  abbrev empty_logs : ℕ → List (List ℕ) → List Log
  empty_logs k [] = []
  empty_logs k (b ∷ bs) = record { member = k; records = []; length = 0; tail = 0 } ∷ empty_logs (k + 1) bs

  empty_whole : (k : ℕ) (bs : List (List ℕ)) → ((i : ℕ) → get_or bs i [] ≡ []) → AreWholeLogs k bs (empty_logs k bs)
  empty_whole k [] each = tt
  empty_whole k (b ∷ bs) each = (
    record { member_is = refl; records_are = subst (λ (z : List ℕ). IsLog z []) (sym (each 0)) (whole_log [] tt); length_is = refl; tail_is = ap length (sym (each 0)); rising = tt },
    empty_whole (k + 1) bs (λ i. each (suc i)),
  )

  pub empty_leave : ClosingLeaves → EmptyLeaveClosed
  empty_leave closing c none = alike_leave c (empty_logs 1 c.logs) (empty_whole 1 c.logs at) (λ i. closing (log_of c.logs (i + 1)) (subst LogCloses (sym (none i)) empty_closes))
    where
      at : (i : ℕ) → get_or c.logs i [] ≡ []
      at i = let same : i + 1 - 1 ≡ i = omega arith in ap (λ (z : ℕ). get_or c.logs z []) (sym same) ∙ none i
