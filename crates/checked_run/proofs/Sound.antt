-- Reports that were found sound.
use Rattle.std.proofs.Common.{◌≡◌, ◌≢◌, ◌⊎◌, inl, inr, ℕ, ◌≤◌, Bool, true, false, cond, List, [], ◌∷◌, map, Option, Some, None, Result, Ok, Err, IfOk, IsErr, refl, sym, ap, subst, ◌∙◌, arith}
use Rattle.std.proofs.lemmas.List.{append-nil, take_all}
use Rattle.std.specs.Prelude.{IsErrOf, IfSome}
use Rattle.std.specs.Bool.{Decides}
use Rattle.std.specs.Option.{SomeIff}
use Rattle.ds_base.specs.Causes.{Rose}
use Rattle.ds_base.specs.declared.row.Row.{Row}
use Rattle.ds_disk.specs.Contents.{Contents, WhenTold, Becomes}
use Rattle.ds_model.specs.declared.script.Script.{Script}
use Rattle.ds_model.specs.declared.report.Report.{Report}
use Rattle.ds_model.specs.declared.report.Trace.{Trace}
use Rattle.ds_model.specs.declared.history.Entry.{Entry}
use Rattle.ds_model.specs.Rows.{Rows, map_of, listed}
use Rattle.ds_model.specs.History.{replay}
use Rattle.ds_model.specs.Logs.{IsLog, AreLogs, rows_of_logs}
use Rattle.ds_model.specs.Told.{entry_of}
use Rattle.log_record.specs.declared.log.Log.{Log}
use Rattle.log_record.specs.Logs.{IsLogOf}
use Rattle.report_check.specs.Records.{records_of}
use Rattle.report_check.specs.Reports.{IsSoundAlone}
use Rattle.report_check.specs.Laws.{settled, TellsSoundAlone}
use Rattle.opening_rows.specs.Reading.{AreLogsOf, HasDamage}
use Rattle.opening_rows.specs.Kept.{AreWhole}
use Rattle.opening_rows.specs.Judging as Judging
use Rattle.checked_run.specs.declared.account.Account.{Account}
use Rattle.checked_run.specs.Accounts.{TellsTrace}
use Rattle.checked_run.specs.Back.{Holds, TellsDamage, RoseTwice}
use Rattle.checked_run.specs.Refuted.{LogsRefute, IsRefuted}
use Rattle.checked_run.specs.Settled.{Checks}
use Rattle.opening_rows.specs.declared.opening.Opening.{Opening}
use Rattle.opening_rows.specs.declared.fault.LogsFault.{LogsFault}
use Rattle.opening_rows.specs.declared.fault.LogsFault.TheVariants as reading
use Rattle.ds_base.specs.declared.fault.NoMemory.{NoMemory}
use Rattle.checked_run.specs.declared.ended.Ended.{Ended}
use Rattle.checked_run.specs.declared.ended.Ended.TheVariants as ended
use Rattle.checked_run.specs.Told.{IfTold, LogsStandFor, IsTold, IsAlone}

abbrev pub report_of : Script → List Entry → List Row → Trace → ℕ → Report
report_of script entries rows trace status = record { entries = map (entry_of script) entries; trace = trace; rows = rows; status = status }

pub alone : TellsSoundAlone → (script : Script) (opening : List Row) (entries : List Entry) (rows : List Row) (trace : Trace) (status : ℕ) (report : Report)
    → IsSoundAlone script (map_of opening) entries → rows ≡ listed (replay (map_of opening) entries) → report ≡ report_of script entries rows trace status → IsAlone script opening entries trace status report
alone law script opening entries rows trace status report is its e =
    let told = law script (map_of opening) entries is in
    let given : IsAlone script opening entries trace status (report_of script entries rows trace status) = record {
      entries_are = refl;
      trace_is = refl;
      status_is = refl;
      sound = record {
        history = settled (map_of opening) entries;
        sound = told.sound;
        tells = record { entries = sym told.told; rows = its ∙ ap listed (sym told.rows) };
        stands = told.rows;
      };
    } in
    subst (IsAlone script opening entries trace status) (sym e) given

pub alone_from : TellsSoundAlone → (script : Script) (opening : Opening) (entries : List Entry) (rows : Option (List Row)) (found : List Row) (trace : Trace) (status : ℕ) (report : Report)
    → IfSome rows (Judging.IsTold script opening entries) → rows ≡ Some found → report ≡ report_of script entries found trace status → IsAlone script opening.rows entries trace status report
alone_from law script opening entries rows found trace status report told is e =
    let its : Judging.IsTold script opening entries found = subst (λ (o : Option (List Row)). IfSome o (Judging.IsTold script opening entries)) is told in
    alone law script opening.rows entries found trace status report its.sound its.rows_are e

-- the same by what was asked
pub alone_by : TellsSoundAlone → (script : Script) (opening : List Row) (given entries : List Entry) (found : Option (List Row)) (rows : List Row) (trace : Trace) (status : ℕ) (report : Report)
    → given ≡ entries → SomeIff found (IsSoundAlone script (map_of opening) given) (listed (replay (map_of opening) given)) → found ≡ Some rows → report ≡ report_of script entries rows trace status → IsAlone script opening entries trace status report
alone_by law script opening given entries found rows trace status report same iff is e =
    let some : SomeIff (Some rows) (IsSoundAlone script (map_of opening) given) (listed (replay (map_of opening) given)) = subst (λ (o : Option (List Row)). SomeIff o (IsSoundAlone script (map_of opening) given) (listed (replay (map_of opening) given))) is iff in
    let its : SomeIff (Some rows) (IsSoundAlone script (map_of opening) entries) (listed (replay (map_of opening) entries)) = subst (λ (es : List Entry). SomeIff (Some rows) (IsSoundAlone script (map_of opening) es) (listed (replay (map_of opening) es))) same some in
    alone law script opening entries rows trace status report its.0 its.1 e

-- ---- the disk behind them

-- logs without tails are their records
whole_log : (bytes : List ℕ) (log : Log) → IsLogOf bytes log → log.tail ≡ 0 → IsLog bytes log.records
whole_log bytes log is short = record {
  tail = [];
  whole = sym (take_all log.length bytes (omega (arith, is.whole, short))) ∙ is.spelled ∙ sym (append-nil _);
  allowed = is.allowed;
  torn = inl refl;
}

whole_logs : (bss : List (List ℕ)) (logs : List Log) → AreLogsOf bss logs → AreWhole logs → AreLogs bss (records_of logs)
whole_logs [] [] are whole = tt
whole_logs [] (l ∷ logs) are whole = absurd are
whole_logs (bs ∷ bss) [] are whole = absurd are
whole_logs (bs ∷ bss) (l ∷ logs) are whole = (whole_log bs l are.0 whole.0, whole_logs bss logs are.1 whole.1)

abbrev pub JudgedAs : Script → Opening → List Entry → Option (List Row) → Contents → Type 0
JudgedAs script opening entries rows c = Judging.IsJudged script opening entries c rows

logs_stand : (before after : Option Contents) (script : Script) (opening : Opening) (entries : List Entry) (found : List Row) (rows : Rows) → before ≢ None → Becomes before after (Holds (JudgedAs script opening entries (Some found))) → rows ≡ replay (map_of opening.rows) entries → LogsStandFor after rows
logs_stand None after script opening entries found rows told p is = absurd (told refl)
logs_stand (Some c) None script opening entries found rows told p is = absurd p
logs_stand (Some c) (Some d) script opening entries found rows told p is =
    let j = p.1 in
    record { records = records_of j.logs; are = whole_logs d.logs j.logs j.are j.judges.0.whole; rows_are = sym (is ∙ j.judges.0.sound.ends.rows) }

abbrev code : Bool → ℕ
code failed = cond failed 5 0

zero_or_five : (failed : Bool) → (code failed ≡ 0) ⊎ (code failed ≡ 5)
zero_or_five true = inr refl
zero_or_five false = inl refl

caused : (failed : Bool) → code failed ≡ 5 → failed ≡ true
caused true e = refl
caused false e = absurd (omega (arith, e))

uncaused : (failed : Bool) → code failed ≡ 0 → failed ≡ false
uncaused true e = absurd (omega (arith, e))
uncaused false e = refl

pub unfailed_before : (failed now_failed : Bool) → (failed ≡ true → now_failed ≡ true) → now_failed ≡ false → failed ≡ false
unfailed_before true now_failed kept e = let f : true ≡ false = sym (kept refl) ∙ e in cc
unfailed_before false now_failed kept e = refl

pub told_with : (tells : Type 0) (script : Script) (opening : Opening) (traced failed : Bool) (trace : Trace) (before now : ℕ) (was after : Option Contents) (account : Account) (entries : List Entry) (found : List Row) (report : Report)
    → (tells → was ≢ None) → Becomes was after (Holds (JudgedAs script opening entries (Some found))) → (failed ≡ true → Rose before now) → (failed ≡ false → account.faults ≡ []) → TellsTrace script traced account.causes trace
    → IsAlone script opening.rows entries trace (cond failed 5 0) report → IsTold tells script traced opening.rows before now after account report
told_with tells script opening traced failed trace before now was after account entries found report told read rose none traces is =
    let stands : tells → LogsStandFor after (replay (map_of opening.rows) is.sound.history) = λ t. logs_stand was after script opening entries found (replay (map_of opening.rows) is.sound.history) (told t) read is.sound.stands in
    record {
      status = subst (λ n. (n ≡ 0) ⊎ (n ≡ 5)) (sym is.status_is) (zero_or_five failed);
      cause = λ e. rose (caused failed (sym is.status_is ∙ e));
      unfailed = λ e. none (uncaused failed (sym is.status_is ∙ e));
      trace = subst (TellsTrace script traced account.causes) (sym is.trace_is) traces;
      sound = record {
        history = is.sound.history;
        sound = is.sound.sound;
        tells = is.sound.tells;
        stands = record { whole = λ t e. stands t; failed = λ t not. stands t };
      };
    }

pub told_alone : (tells : Type 0) (script : Script) (opening : List Row) (traced : Bool) (trace : Trace) (before now : ℕ) (after : Option Contents) (account : Account) (entries : List Entry) (report : Report)
    → Rose before now → RoseTwice before now → TellsTrace script traced account.causes trace
    → IsAlone script opening entries trace 5 report → IsTold tells script traced opening before now after account report
told_alone tells script opening traced trace before now after account entries report rose twice traces is = record {
  status = inr is.status_is;
  cause = λ e. rose;
  unfailed = λ e. absurd (omega (arith, e, is.status_is));
  trace = subst (TellsTrace script traced account.causes) (sym is.trace_is) traces;
  sound = record {
    history = is.sound.history;
    sound = is.sound.sound;
    tells = is.sound.tells;
    stands = record {
      whole = λ t e. absurd (omega (arith, e, is.status_is));
      failed = λ t not. absurd (not twice);
    };
  };
}

pub if_told : (e : Ended) (P Q : Report → Type 0) → ((report : Report) → P report → Q report) → IfTold e P → IfTold e Q
if_told (ended.Told report) P Q f p = f report p
if_told (ended.Damaged volume at) P Q f p = tt
if_told (ended.Unsound event) P Q f p = tt
if_told ended.NoMemory P Q f p = tt

-- ---- the check

pub checks : (e : Ended) (P Q : Report → Type 0) (R S : Type 0) → ((report : Report) → P report → Q report) → (R → S) → Checks P R e → Checks Q S e
checks (ended.Told report) P Q R S f g p = f report p
checks (ended.Damaged volume at) P Q R S f g p = p
checks (ended.Unsound event) P Q R S f g p = (p.0, g p.1)
checks ended.NoMemory P Q R S f g p = p

-- of a report that keeps this, another fact
pub checks_told : (e : Ended) (P Q : Report → Type 0) (R : Type 0) → ((report : Report) → P report → Q report) → Checks P R e → IfTold e Q
checks_told (ended.Told report) P Q R f p = f report p
checks_told (ended.Damaged volume at) P Q R f p = tt
checks_told (ended.Unsound event) P Q R f p = tt
checks_told ended.NoMemory P Q R f p = tt

refuted_in : (was after : Option Contents) (script : Script) (opening : Opening) (entries : List Entry) → was ≢ None → Becomes was after (Holds (JudgedAs script opening entries None)) → WhenTold after (LogsRefute script opening entries)
refuted_in None after script opening entries told p = absurd (told refl)
refuted_in (Some c) None script opening entries told p = tt
refuted_in (Some c) (Some d) script opening entries told p = inr p.1

pub refuted : (tells : Type 0) (script : Script) (opening : Opening) (entries : List Entry) (before now : ℕ) (was after : Option Contents) → (tells → was ≢ None) → Becomes was after (Holds (JudgedAs script opening entries None)) → IsRefuted tells script opening entries before now after
refuted tells script opening entries before now was after told p = inl (λ t. refuted_in was after script opening entries (told t) p)

damaged_in : (was after : Option Contents) (script : Script) (opening : Opening) (entries : List Entry) (member at : ℕ) → was ≢ None → Becomes was after (Holds (HasDamage member at)) → WhenTold after (LogsRefute script opening entries)
damaged_in None after script opening entries member at told p = absurd (told refl)
damaged_in (Some c) None script opening entries member at told p = tt
damaged_in (Some c) (Some d) script opening entries member at told p = inl (member, (at, p.1))

pub damaged : (tells : Type 0) (script : Script) (opening : Opening) (entries : List Entry) (before now : ℕ) (was after : Option Contents) (member at : ℕ) → (tells → was ≢ None) → Becomes was after (Holds (HasDamage member at))
    → IsRefuted tells script opening entries before now after
damaged tells script opening entries before now was after member at told p = inl (λ t. damaged_in was after script opening entries member at (told t) p)

-- the same of an answer that may be want of memory
pub checks_ok : (answer : Result Ended NoMemory) (P : Report → Type 0) (R S : Type 0) → (R → S) → IfOk answer (Checks P R) → IfOk answer (Checks P S)
checks_ok (Err none) P R S g it = it
checks_ok (Ok e) P R S g it = checks e P P R S (λ report p. p) g it

pub told_ok : (answer : Result Ended NoMemory) (P Q : Report → Type 0) → ((report : Report) → P report → Q report) → IfOk answer (λ e. IfTold e P) → IfOk answer (λ e. IfTold e Q)
told_ok (Err none) P Q f it = it
told_ok (Ok e) P Q f it = if_told e P Q f it

-- what is known where a report was told, and where none was
abbrev pub HeldAs : Script → Opening → List Entry → Option (List Row) → Trace → ℕ → Ended → Type 0
HeldAs script opening entries rows trace status = Checks (λ report. ((found : List Row) × (rows ≡ Some found)) × IsAlone script opening.rows entries trace status report) (rows ≡ None)

pub held_told : (tells : Type 0) (script : Script) (opening : Opening) (traced failed : Bool) (trace : Trace) (status before now : ℕ) (was after : Option Contents) (account : Account) (entries given : List Entry) (rows : Option (List Row)) (answer : Result Ended NoMemory)
    → (tells → was ≢ None) → Becomes was after (Holds (JudgedAs script opening given rows)) → (failed ≡ true → Rose before now) → (failed ≡ false → account.faults ≡ []) → TellsTrace script traced account.causes trace → given ≡ entries → status ≡ cond failed 5 0
    → IfOk answer (HeldAs script opening entries rows trace status) → IfOk answer (Checks (IsTold tells script traced opening.rows before now after account) (IsRefuted tells script opening entries before now after))
held_told tells script opening traced failed trace status before now was after account entries given rows (Err none) told judged rose unfailed traces same is it = it
held_told tells script opening traced failed trace status before now was after account entries given rows (Ok e) told judged rose unfailed traces same is it =
    let at : Becomes was after (Holds (JudgedAs script opening entries rows)) = subst (λ (es : List Entry). Becomes was after (Holds (JudgedAs script opening es rows))) same judged in
    let its = subst (λ n. HeldAs script opening entries rows trace n e) is it in
    checks e (λ report. ((found : List Row) × (rows ≡ Some found)) × IsAlone script opening.rows entries trace (cond failed 5 0) report) (IsTold tells script traced opening.rows before now after account) (rows ≡ None) (IsRefuted tells script opening entries before now after)
    (λ report held. told_with tells script opening traced failed trace before now was after account entries held.0.0 report told
    (subst (λ (o : Option (List Row)). Becomes was after (Holds (JudgedAs script opening entries o))) held.0.1 at) rose unfailed traces held.1)
    (λ none. refuted tells script opening entries before now was after told (subst (λ (o : Option (List Row)). Becomes was after (Holds (JudgedAs script opening entries o))) none at)) its

pub alone_told : (tells : Type 0) (script : Script) (opening : Opening) (traced : Bool) (trace : Trace) (before now : ℕ) (after : Option Contents) (account : Account) (entries : List Entry) (answer : Result Ended NoMemory)
    → Rose before now → RoseTwice before now → TellsTrace script traced account.causes trace
    → IfOk answer (Checks (IsAlone script opening.rows entries trace 5) (IsSoundAlone script (map_of opening.rows) entries → ⊥))
    → IfOk answer (Checks (IsTold tells script traced opening.rows before now after account) (IsRefuted tells script opening entries before now after))
alone_told tells script opening traced trace before now after account entries (Err none) rose twice traces it = it
alone_told tells script opening traced trace before now after account entries (Ok e) rose twice traces it =
    checks e (IsAlone script opening.rows entries trace 5) (IsTold tells script traced opening.rows before now after account) (IsSoundAlone script (map_of opening.rows) entries → ⊥) (IsRefuted tells script opening entries before now after)
    (λ report is. told_alone tells script opening.rows traced trace before now after account entries report rose twice traces is) (λ not. inr (twice, not)) it

-- of what was held against logs or alone: which entries are told, and which status says that no call failed
pub held_entries : (script : Script) (opening : Opening) (failed now_failed : Bool) (trace : Trace) (status : ℕ) (entries : List Entry) (rows : Option (List Row)) (answer : Result Ended NoMemory)
    → (failed ≡ true → now_failed ≡ true) → status ≡ cond now_failed 5 0 → IfOk answer (HeldAs script opening entries rows trace status)
    → IfOk answer (λ e. IfTold e (λ report. (report.entries ≡ map (entry_of script) entries) × (report.status ≡ 0 → failed ≡ false)))
held_entries script opening failed now_failed trace status entries rows (Err none) kept is it = it
held_entries script opening failed now_failed trace status entries rows (Ok e) kept is it =
    checks_told e (λ report. ((found : List Row) × (rows ≡ Some found)) × IsAlone script opening.rows entries trace status report) (λ report. (report.entries ≡ map (entry_of script) entries) × (report.status ≡ 0 → failed ≡ false)) (rows ≡ None)
    (λ report held. (held.1.entries_are, λ zero. unfailed_before failed now_failed kept (uncaused now_failed (sym is ∙ (sym held.1.status_is ∙ zero))))) it

pub alone_entries : (script : Script) (opening : Opening) (failed : Bool) (trace : Trace) (entries : List Entry) (answer : Result Ended NoMemory)
    → IfOk answer (Checks (IsAlone script opening.rows entries trace 5) (IsSoundAlone script (map_of opening.rows) entries → ⊥))
    → IfOk answer (λ e. IfTold e (λ report. (report.entries ≡ map (entry_of script) entries) × (report.status ≡ 0 → failed ≡ false)))
alone_entries script opening failed trace entries (Err none) it = it
alone_entries script opening failed trace entries (Ok e) it =
    checks_told e (IsAlone script opening.rows entries trace 5) (λ report. (report.entries ≡ map (entry_of script) entries) × (report.status ≡ 0 → failed ≡ false)) (IsSoundAlone script (map_of opening.rows) entries → ⊥)
    (λ report is. (is.entries_are, λ zero. absurd (omega (arith, zero, is.status_is)))) it

none_ok : (answer : Result Ended NoMemory) (P : Ended → Type 0) → IsErr answer → IfOk answer P
none_ok (Err none) P wanting = tt
none_ok (Ok e) P wanting = let f : false ≡ true = wanting in cc

-- of logs that were not read
pub unread_told : {T : Type 0} (tells : Type 0) (script : Script) (opening : Opening) (traced failed : Bool) (trace : Trace) (before now : ℕ) (was after : Option Contents) (account : Account) (entries : List Entry) (read : Result T LogsFault) (why : LogsFault) (answer : Result Ended NoMemory)
    → (tells → was ≢ None) → read ≡ Err why → (failed ≡ true → Rose before now) → (IsErrOf read reading.Failed → RoseTwice before now × (failed ≡ true)) → TellsTrace script traced account.causes trace → TellsDamage was after read
    → (why ≡ reading.Failed → IfOk answer (Checks (IsAlone script opening.rows entries trace 5) (IsSoundAlone script (map_of opening.rows) entries → ⊥)))
    → ((member at : ℕ) → why ≡ reading.Damaged member at → answer ≡ Ok (ended.Unsound 0))
    → (why ≡ reading.NoMemory → IsErr answer)
    → IfOk answer (Checks (IsTold tells script traced opening.rows before now after account) (IsRefuted tells script opening entries before now after))
unread_told {T} tells script opening traced failed trace before now was after account entries read reading.Failed answer told is one two traces harm alone unsound wanting =
    let both : RoseTwice before now × (failed ≡ true) = two (subst (λ (r : Result T LogsFault). IsErrOf r reading.Failed) (sym is) refl) in
    alone_told tells script opening traced trace before now after account entries answer (one both.1) both.0 traces (alone refl)
unread_told {T} tells script opening traced failed trace before now was after account entries read (reading.Damaged member at) answer told is one two traces harm alone unsound wanting =
    subst (λ (a : Result Ended NoMemory). IfOk a (Checks (IsTold tells script traced opening.rows before now after account) (IsRefuted tells script opening entries before now after))) (sym (unsound member at refl))
    (refl, damaged tells script opening entries before now was after member at told (subst (λ (r : Result T LogsFault). TellsDamage was after r) is harm))
unread_told {T} tells script opening traced failed trace before now was after account entries read reading.NoMemory answer told is one two traces harm alone unsound wanting =
    none_ok answer (Checks (IsTold tells script traced opening.rows before now after account) (IsRefuted tells script opening entries before now after)) (wanting refl)

pub unread_entries : (script : Script) (opening : Opening) (failed : Bool) (trace : Trace) (entries : List Entry) (why : LogsFault) (answer : Result Ended NoMemory)
    → (why ≡ reading.Failed → IfOk answer (Checks (IsAlone script opening.rows entries trace 5) (IsSoundAlone script (map_of opening.rows) entries → ⊥)))
    → ((member at : ℕ) → why ≡ reading.Damaged member at → answer ≡ Ok (ended.Unsound 0))
    → (why ≡ reading.NoMemory → IsErr answer)
    → IfOk answer (λ e. IfTold e (λ report. (report.entries ≡ map (entry_of script) entries) × (report.status ≡ 0 → failed ≡ false)))
unread_entries script opening failed trace entries reading.Failed answer alone unsound wanting = alone_entries script opening failed trace entries answer (alone refl)
unread_entries script opening failed trace entries (reading.Damaged member at) answer alone unsound wanting =
    subst (λ (a : Result Ended NoMemory). IfOk a (λ e. IfTold e (λ report. (report.entries ≡ map (entry_of script) entries) × (report.status ≡ 0 → failed ≡ false)))) (sym (unsound member at refl)) tt
unread_entries script opening failed trace entries reading.NoMemory answer alone unsound wanting =
    none_ok answer (λ e. IfTold e (λ report. (report.entries ≡ map (entry_of script) entries) × (report.status ≡ 0 → failed ≡ false))) (wanting refl)

pub twice : (a b c : ℕ) → Rose a b → Rose b c → RoseTwice a c
twice a b c one two = omega arith

pub once : (a b c : ℕ) → a ≤ b → Rose b c → Rose a c
once a b c le rose = omega arith

pub still : (a b c : ℕ) → Rose a b → b ≤ c → Rose a c
still a b c rose le = omega arith
