-- What the logs of a disk say to the entries of a report.
use Rattle.std.proofs.Common.{◌≡◌, inl, ℕ, Bool, true, false, true≢false, List, [], ◌∷◌, map, Option, Result, Ok, refl, sym, ap, subst, ◌∙◌}
use Rattle.std.specs.Prelude.{IsErrOf, IsErrAnd, Decides, ⊤}
use Rattle.std.specs.FinMap as finite
use Rattle.ds_base.specs.declared.row.Row.{Row}
use Rattle.ds_disk.specs.Contents.{Contents}
use Rattle.ds_model.specs.declared.script.Script.{Script}
use Rattle.ds_model.specs.declared.history.Entry.{Entry}
use Rattle.ds_model.specs.declared.log.LogRecord.{LogRecord}
use Rattle.ds_model.specs.Rows.{Spot, Rows, map_of, listed, entry_of}
use Rattle.ds_model.specs.History.{replay}
use Rattle.ds_model.specs.Logs.{rows_of_logs}
use Rattle.log_record.specs.declared.log.Log.{Log}
use Rattle.report_check.specs.Records.{records_of}
use Rattle.report_check.specs.Commits.{new_commits, AreLogged}
use Rattle.report_check.specs.Reports.{IsSoundAlone}
use Rattle.opening_rows.specs.declared.fault.LogsFault.{LogsFault}
use Rattle.opening_rows.specs.declared.fault.LogsFault.TheVariants.{Failed, Damaged, NoMemory}
use Rattle.opening_rows.specs.declared.opening.Opening.{Opening}
use Rattle.opening_rows.specs.declared.kept.KeptLogs.{KeptLogs}
use Rattle.opening_rows.specs.Reading.{AreLogsOf, HasDamage, BreaksAt, ReadsBy}
use Rattle.opening_rows.specs.Opening.{stood_for, OpensAs}
use Rattle.opening_rows.specs.Kept.{AreKept, all_before}
use Rattle.opening_rows.specs.Judging.{BearOut, Judges, IsJudged, KeptIsEnough}
use Rattle.opening_rows.proofs.Told.{reads_on, reads_to, err_to}

-- ---- rows that are listed alike

abbrev row_of : Spot × List ℕ → Row
row_of e = record { table = e.0.0; key = e.0.1; value = e.1 }

back : (es : List (Spot × List ℕ)) → map entry_of (map row_of es) ≡ es
back [] = refl
back (e ∷ es) = ap (λ (l : List (Spot × List ℕ)). e ∷ l) (back es)

pub same_listed : (m n : Rows) → listed m ≡ listed n → m ≡ n
same_listed m n h = finite.same_entries_map m n (sym (back (finite.entries m)) ∙ ap (map entry_of) h ∙ back (finite.entries n))

-- ---- what is kept tells of the commits

abbrev LoggedIn : Opening → List Entry → List Log → Type 0
LoggedIn opening entries logs = AreLogged (records_of logs) (new_commits opening.had.items (records_of logs)) (map_of opening.rows) entries

abbrev LoggedBy : Opening → List Entry → KeptLogs → Type 0
LoggedBy opening entries kept = AreLogged (records_of kept.logs.items) (new_commits kept.had.items (records_of kept.logs.items)) (map_of opening.rows) entries

module _ (enough : KeptIsEnough) (opening : Opening) (entries : List Entry) (logs : List Log) (kept : KeptLogs) (k : AreKept opening.had.items logs kept) where
  same_commits : new_commits kept.had.items (records_of kept.logs.items) ≡ new_commits opening.had.items (records_of logs)
  same_commits =
      ap (λ (had : List ℕ). new_commits had (records_of kept.logs.items)) k.before_are ∙ ap (new_commits (all_before opening.had.items (records_of logs))) k.records_are
      ∙ (enough opening.had.items (records_of logs) (map_of opening.rows) entries).commits

  pub logged_whole : LoggedBy opening entries kept → LoggedIn opening entries logs
  logged_whole h =
      (enough opening.had.items (records_of logs) (map_of opening.rows) entries).whole
      (subst (λ (l : List (List LogRecord)). AreLogged l (new_commits opening.had.items (records_of logs)) (map_of opening.rows) entries) k.records_are
      (subst (λ (cs : List (List ℕ)). AreLogged (records_of kept.logs.items) cs (map_of opening.rows) entries) same_commits h))

  pub logged_kept : LoggedIn opening entries logs → LoggedBy opening entries kept
  logged_kept h =
      subst (λ (cs : List (List ℕ)). AreLogged (records_of kept.logs.items) cs (map_of opening.rows) entries) (sym same_commits)
      (subst (λ (l : List (List LogRecord)). AreLogged l (new_commits opening.had.items (records_of logs)) (map_of opening.rows) entries) (sym k.records_are)
      ((enough opening.had.items (records_of logs) (map_of opening.rows) entries).needed h))

pub borne_out : (enough : KeptIsEnough) (opening : Opening) (entries : List Entry) (logs : List Log) (kept : KeptLogs) (same : Bool) (left rows : List Row) (its : List Log) (had : List ℕ) → AreKept opening.had.items logs kept → left ≡ rows → its ≡ kept.logs.items → had ≡ kept.had.items
    → Decides same (AreLogged (records_of its) (new_commits had (records_of its)) (map_of opening.rows) entries) → Decides same ((left ≡ rows) × LoggedIn opening entries logs)
borne_out enough opening entries logs kept same left rows its had k is its_are had_is d =
    let e : Decides same (LoggedBy opening entries kept) =
    subst (λ (hs : List ℕ). Decides same (AreLogged (records_of kept.logs.items) (new_commits hs (records_of kept.logs.items)) (map_of opening.rows) entries)) had_is
    (subst (λ (ls : List Log). Decides same (AreLogged (records_of ls) (new_commits had (records_of ls)) (map_of opening.rows) entries)) its_are d) in
    (λ y. (is, logged_whole enough opening entries logs kept k (e.0 y)), λ h. e.1 (logged_kept enough opening entries logs kept k h.1))

pub not_borne : (opening : Opening) (entries : List Entry) (logs : List Log) (left rows : List Row) → (left ≡ rows → ⊥) → Decides false ((left ≡ rows) × LoggedIn opening entries logs)
not_borne opening entries logs left rows other = (λ e. absurd (true≢false (sym e)), λ h. absurd (other h.0))

-- ---- the judgement

pub torn : (script : Script) (opening : Opening) (entries : List Entry) (logs : List Log) (kept : KeptLogs) → AreKept opening.had.items logs kept → kept.are_whole ≡ false → BearOut script opening entries logs → ⊥
torn script opening entries logs kept k none b = true≢false (sym (k.whole.1 b.whole) ∙ none)

pub alone_of : (script : Script) (opening : Opening) (entries : List Entry) (logs : List Log) → BearOut script opening entries logs → IsSoundAlone script (map_of opening.rows) entries
alone_of script opening entries logs b = record { each_once = b.sound.each_once; order = b.sound.order; aborts_fit = b.sound.aborts_fit; legal = b.sound.ends.legal }

pub not_alone : (script : Script) (opening : Opening) (entries : List Entry) (logs : List Log) → (IsSoundAlone script (map_of opening.rows) entries → ⊥) → BearOut script opening entries logs → ⊥
not_alone script opening entries logs wrong b = wrong (alone_of script opening entries logs b)

module _ (script : Script) (opening : Opening) (entries : List Entry) (logs : List Log) (kept : KeptLogs) (left rows : List Row) (k : AreKept opening.had.items logs kept) (stood : rows ≡ stood_for logs)
    (left_is : left ≡ listed (replay (map_of opening.rows) entries)) where
  pub bears_out : kept.are_whole ≡ true → IsSoundAlone script (map_of opening.rows) entries → (left ≡ rows) × LoggedIn opening entries logs → BearOut script opening entries logs × (left ≡ stood_for logs)
  bears_out whole alone h =
      let same : replay (map_of opening.rows) entries ≡ rows_of_logs (records_of logs) = same_listed (replay (map_of opening.rows) entries) (rows_of_logs (records_of logs)) (sym left_is ∙ h.0 ∙ stood) in (
        record { whole = k.whole.0 whole; sound = record { each_once = alone.each_once; order = alone.order; logged = h.1; aborts_fit = alone.aborts_fit; ends = record { legal = alone.legal; rows = same } } },
        h.0 ∙ stood,
      )

  pub not_out : ((left ≡ rows) × LoggedIn opening entries logs → ⊥) → BearOut script opening entries logs → ⊥
  not_out wrong b = wrong (left_is ∙ ap listed b.sound.ends.rows ∙ sym stood, b.sound.logged)

-- ---- of a disk

abbrev KeptFrom : List ℕ → KeptLogs → Contents → Type 0
KeptFrom had kept c = (logs : List Log) → AreLogsOf c.logs logs → AreKept had logs kept

pub judged : (a b e : Option Contents) (n k m : ℕ) (script : Script) (opening now : Opening) (entries : List Entry) (kept : KeptLogs) (rows : Option (List Row)) (had : List ℕ) → had ≡ opening.had.items → ReadsBy a b n k (λ (o : Opening) c. OpensAs c o) BreaksAt (Ok now)
    → ReadsBy b e k m (KeptFrom had) HasDamage (Ok kept) → ((logs : List Log) → now.rows ≡ stood_for logs → AreKept opening.had.items logs kept → Judges script opening entries logs rows)
    → ReadsBy a e n m (λ (x : Option (List Row)) c. IsJudged script opening entries c x) BreaksAt (Ok rows)
judged a b e n k m script opening now entries kept rows had same p q judge =
    let on : ReadsBy a e n m (λ (x : KeptLogs) c. x ≡ kept → IsJudged script opening entries c rows) BreaksAt (Ok kept) =
    reads_on a b e n k m (λ (o : Opening) c. OpensAs c o) BreaksAt now (KeptFrom had) (λ (x : KeptLogs) c. x ≡ kept → IsJudged script opening entries c rows) HasDamage BreaksAt (Ok kept) p q
    (λ x c o told is. record { logs = o.logs; are = o.are; judges = judge o.logs o.is.rows_are (subst (λ (hs : List ℕ). AreKept hs o.logs kept) same (subst (λ (y : KeptLogs). AreKept had o.logs y) is (told o.logs o.are))) }) (λ i l c o bad. inl bad) in
    reads_to a e n m (λ (x : KeptLogs) c. x ≡ kept → IsJudged script opening entries c rows) BreaksAt kept (λ (x : Option (List Row)) c. IsJudged script opening entries c x) BreaksAt (Ok rows) on (λ c is. is refl)
    (λ i l h. absurd (no_error i l h)) (λ h. no_failure h)
  where
    no_error : (i l : ℕ) → IsErrOf {T = Option (List Row)} {E = LogsFault} (Ok rows) (Damaged i l) → ⊥
    no_error i l h = cc

    no_failure : IsErrOf {T = Option (List Row)} {E = LogsFault} (Ok rows) Failed → ⊥
    no_failure h = cc

-- memory was wanting
pub judged_not : {Y : Type 0} (a b e : Option Contents) (n k m : ℕ) (now : Opening) (had : List ℕ) (kept : KeptLogs) (IsR : Y → Contents → Type 0) (r : Result Y LogsFault) → ReadsBy a b n k (λ (o : Opening) c. OpensAs c o) BreaksAt (Ok now)
    → ReadsBy b e k m (KeptFrom had) HasDamage (Ok kept) → IsErrAnd r (λ (z : LogsFault). z ≡ NoMemory) → ReadsBy a e n m IsR BreaksAt r
judged_not a b e n k m now had kept IsR r p q is =
    err_to a e n m (λ (x : KeptLogs) c. ⊤) BreaksAt kept IsR BreaksAt NoMemory r is
    (reads_on a b e n k m (λ (o : Opening) c. OpensAs c o) BreaksAt now (KeptFrom had) (λ (x : KeptLogs) c. ⊤) HasDamage BreaksAt (Ok kept) p q (λ x c o told. tt) (λ i l c o bad. inl bad)) (λ i l h. absurd (no_damage i l h)) (λ h. no_failure h)
  where
    no_damage : (i l : ℕ) → NoMemory ≡ Damaged i l → ⊥
    no_damage i l h = cc

    no_failure : NoMemory ≡ Failed → ⊥
    no_failure h = cc
