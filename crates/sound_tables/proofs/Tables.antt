-- The pages after all records are tables still with a record that a restart appends.
use Rattle.std.proofs.Common.{◌≡◌, ℕ, ◌≤◌, Bool, true, false, cond, List, [], ◌∷◌, ◌++◌, refl, sym, ap, subst, ◌∙◌, arith, append_assoc}
use Rattle.std.specs.List.{AllByRecursion}
use Rattle.std.proofs.lemmas.List.{append-nil}
use Rattle.ds_model.specs.declared.log.LogRecord.{LogRecord}
use Rattle.ds_model.specs.declared.log.RowChange.{RowChange}
use Rattle.ds_model.specs.declared.log.Body.{Body}
use Rattle.ds_model.specs.declared.log.Body.TheVariants as body
use Rattle.ds_model.specs.RecordBytes.{IsAllowed, IsNumber, ChangeIsAllowed, BodyIsAllowed, TranFits, is_of_tran}
use Rattle.log_record.specs.declared.log.Log.{Log}
use Rattle.log_merge.specs.Merging.{is_merged}
use Rattle.page_chain.specs.Chains.{changes_of, images_of}
use Rattle.sound_disk.specs.Whole_logs.{AreWholeLogs}
use Rattle.sound_disk.specs.Transactions.{AreTransactions}
use Rattle.sound_disk.specs.Rows_there.{row_with, row_after, IsPlaceOf, Stood, BodyStood, BeforesAgree}
use Rattle.sound_disk.specs.Tables.{AreWholeTables, AreTables}
use Rattle.sound_disk.specs.Versions.{merged, last_images}
use Rattle.sound_appends.specs.Appends.{Compensates, IsNext, Appends}
use Rattle.sound_appends.proofs.Left.{undo_of}
use Rattle.sound_tables.specs.Keeping.{HasItsSlot, RowsStayInPlace, AreTableLogs}
use Rattle.sound_tables.proofs.Open_rows.{row_last, Last, each_of_last}
use Rattle.sound_tables.proofs.Last_rows.{IsLast, is_last, last_row}
use Rattle.sound_tables.proofs.Kept_tables.{count_stays, table_stays, change_stands}
use Rattle.sound_tables.proofs.Pages_behind.{Known, is_behind, no_index}
use Rattle.sound_tables.proofs.Places.{in_place}

-- ---- the rows before

befores_more : (earlier rs : List LogRecord) (r : LogRecord) → BeforesAgree earlier rs → BodyStood (earlier ++ rs) r.lrsn r.body → BeforesAgree earlier (rs ++ r ∷ [])
befores_more earlier [] r h s = (subst (λ (l : List LogRecord). BodyStood l r.lrsn r.body) (append-nil earlier) s, tt)
befores_more earlier (x ∷ rs) r h s = (h.0, befores_more (earlier ++ x ∷ []) rs r h.1 (subst (λ (l : List LogRecord). BodyStood l r.lrsn r.body) (sym (append_assoc earlier (x ∷ []) rs)) s))

-- ---- a compensation

-- what is known of the logs to which it is appended
record Undoes (logs : List Log) (r : LogRecord) (c : RowChange) : Type 0 where
  all : AllByRecursion IsAllowed (merged logs)
  change : ChangeIsAllowed c
  low : 1 ≤ r.lrsn
  slot : IsPlaceOf (last_images logs) c.table c.key c.place
  row : row_after (merged logs) c.table c.key ≡ c.before

has_tran : (b : Bool) (t : ℕ) → b ≡ true → TranFits b t → t ≡ 0 → ⊥
has_tran true t is h = h
has_tran false t is h = absurd cc

slot_of : (logs : List Log) (t : ℕ) (c : RowChange) → RowsStayInPlace logs → Last (undo_of (merged logs) t) c → IsPlaceOf (last_images logs) c.table c.key c.place
slot_of logs t c places l =
    let made : HasItsSlot (last_images logs) l.last.body = each_of_last (λ (s : LogRecord). HasItsSlot (last_images logs) s.body) (merged logs) t c places l in
    subst (λ (d : RowChange). IsPlaceOf (last_images logs) d.table d.key d.place) (sym l.inverts) (subst (HasItsSlot (last_images logs)) l.changes made)

undoing : Known → (bytes : List (List ℕ)) (logs after : List Log) (r : LogRecord) (c : RowChange) (n : ℕ) → (h : Appends logs r after) → AreTableLogs bytes logs → r.body ≡ body.Compensation c n → Compensates logs h.log r c n → Undoes logs r c
undoing k bytes logs after r c n h s is m =
    let whole = subst (AreWholeLogs 1 bytes) h.logs_are s.whole in
    let trans = subst AreTransactions h.logs_are s.transactions in
    let some : r.tran ≡ 0 → ⊥ = has_tran (is_of_tran r.body) r.tran (ap is_of_tran is) h.allowed.tran_fits in
    let last : IsLast logs r.tran c = subst (λ (ls : List Log). IsLast ls r.tran c) (sym h.logs_are) (is_last bytes h.front h.log h.back r.tran c m.made whole trans some m.last m.inverts m.uncommitted) in
    let fits : ChangeIsAllowed c × IsNumber r.version n = subst (BodyIsAllowed r.version) is h.allowed.body_is in
    let next = m.next in
    record {
      all = (k.merged bytes logs s.whole s.transactions).0;
      change = fits.0;
      low = omega (arith, next);
      slot = slot_of logs r.tran c (in_place k bytes logs s.whole s.transactions s.tables) last.left;
      row = last_row k.merged bytes logs r.tran c (record { whole = s.whole; transactions = s.transactions; turns = s.turns; befores = s.tables.befores }) last;
    }

undone_stands : (logs : List Log) (r : LogRecord) (c : RowChange) → AreTables logs → Undoes logs r c → Stood (merged logs) c
undone_stands logs r c t u = change_stands (merged logs) c u.change u.slot (t.tables c.table u.change.table_in) u.row

undone_tables : Known → (logs : List Log) (r : LogRecord) (c : RowChange) (n : ℕ) → r.body ≡ body.Compensation c n → IsAllowed r → AreTables logs → Undoes logs r c → AreWholeTables (merged logs ++ r ∷ [])
undone_tables k logs r c n is allowed t u =
    let rs = merged logs in
    let pages = is_behind k rs r c (ap changes_of is) u.all allowed u.change u.low in
    record {
      tables = λ table in_range. table_stays k.page (images_of rs) (images_of (rs ++ r ∷ [])) c r.lrsn pages u.slot table in_range.0 rs (rs ++ r ∷ [])
          (λ m. count_stays table m rs r (no_index k r c n table m is u.change))
          (λ key. row_last table key rs r ∙ ap (row_with table key (row_after rs table key)) is)
          (t.tables table in_range);
      befores = befores_more [] rs r t.befores (subst (BodyStood rs r.lrsn) (sym is) (undone_stands logs r c t u));
    }

-- ---- any record that a restart appends

-- one that isn't merged
same_merged : Known → (logs after : List Log) (r : LogRecord) → Appends logs r after → is_merged r.body ≡ false → merged after ≡ merged logs
same_merged k logs after r h none =
    k.behind logs after r h ∙ ap (λ (b : Bool). merged logs ++ cond b (r ∷ []) []) none ∙ append-nil (merged logs)

one_merged : Known → (logs after : List Log) (r : LogRecord) → Appends logs r after → is_merged r.body ≡ true → merged after ≡ merged logs ++ r ∷ []
one_merged k logs after r h is = k.behind logs after r h ∙ ap (λ (b : Bool). merged logs ++ cond b (r ∷ []) []) is

tables_same : Known → (logs after : List Log) (r : LogRecord) → Appends logs r after → is_merged r.body ≡ false → AreTables logs → AreTables after
tables_same k logs after r h none t = subst AreWholeTables (sym (same_merged k logs after r h none)) t

tables_by : Known → (bytes : List (List ℕ)) (logs after : List Log) (r : LogRecord) (h : Appends logs r after) → AreTableLogs bytes logs → (b : Body) → r.body ≡ b → IsNext logs h.log r b → AreTables after
tables_by k bytes logs after r h s (body.RowChange change) is next = absurd next
tables_by k bytes logs after r h s (body.Compensation c n) is next =
    let u = undoing k bytes logs after r c n h s is next in
    subst AreWholeTables (sym (one_merged k logs after r h (ap is_merged is))) (undone_tables k logs r c n is h.allowed s.tables u)
tables_by k bytes logs after r h s (body.System patches) is next = absurd next
tables_by k bytes logs after r h s body.Commit is next = absurd next
tables_by k bytes logs after r h s body.Ended is next = tables_same k logs after r h (ap is_merged is) s.tables
tables_by k bytes logs after r h s (body.Checkpoint offset) is next = tables_same k logs after r h (ap is_merged is) s.tables
tables_by k bytes logs after r h s body.RestartEnd is next = tables_same k logs after r h (ap is_merged is) s.tables

pub keeps_tables : Known → (bytes : List (List ℕ)) (logs after : List Log) (r : LogRecord) → Appends logs r after → AreTableLogs bytes logs → AreTables after
keeps_tables k bytes logs after r h s = tables_by k bytes logs after r h s r.body refl h.next

meets_by : Known → (bytes : List (List ℕ)) (logs after : List Log) (r : LogRecord) (h : Appends logs r after) → AreTableLogs bytes logs → (b : Body) → r.body ≡ b → IsNext logs h.log r b → BodyStood (merged logs) r.lrsn b
meets_by k bytes logs after r h s (body.RowChange change) is next = absurd next
meets_by k bytes logs after r h s (body.Compensation c n) is next = undone_stands logs r c s.tables (undoing k bytes logs after r c n h s is next)
meets_by k bytes logs after r h s (body.System patches) is next = absurd next
meets_by k bytes logs after r h s body.Commit is next = tt
meets_by k bytes logs after r h s body.Ended is next = tt
meets_by k bytes logs after r h s (body.Checkpoint offset) is next = tt
meets_by k bytes logs after r h s body.RestartEnd is next = tt

pub meets_its_row : Known → (bytes : List (List ℕ)) (logs after : List Log) (r : LogRecord) → Appends logs r after → AreTableLogs bytes logs → BodyStood (merged logs) r.lrsn r.body
meets_its_row k bytes logs after r h s = meets_by k bytes logs after r h s r.body refl h.next
