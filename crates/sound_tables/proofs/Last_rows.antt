-- The row of an open change that is the last of its transaction.
use Rattle.std.proofs.Common.{◌≡◌, ℕ, ◌-◌, Bool, true, false, cond, List, [], ◌∷◌, ◌++◌, length, Some, None, inl, inr, refl, sym, ap, subst, ◌∙◌}
use Rattle.std.specs.Prelude.{◌==◌, slice_get}
use Rattle.std.proofs.lemmas.Bool.{cases_Bool, or_parts, ne_eqb}
use Rattle.ds_model.specs.declared.log.LogRecord.{LogRecord}
use Rattle.ds_model.specs.declared.log.RowChange.{RowChange}
use Rattle.ds_model.specs.declared.log.Body.{Body}
use Rattle.ds_model.specs.declared.log.Body.TheVariants as body
use Rattle.log_record.specs.declared.log.Log.{Log}
use Rattle.log_record.specs.Changes.{inverse}
use Rattle.log_trans.specs.declared.course.Course.{Course}
use Rattle.log_trans.specs.Courses.{new_course, after_body}
use Rattle.sound_disk.specs.Whole_logs.{AreWholeLogs}
use Rattle.sound_disk.specs.Transactions.{speak_of, course_in, InvertsBody, EachFollows, AreTransactions}
use Rattle.sound_disk.specs.Rows_there.{row_after}
use Rattle.sound_disk.specs.Versions.{merged}
use Rattle.sound_disk.specs.Laws.{AreMerged}
use Rattle.sound_appends.specs.Appends.{course_of}
use Rattle.sound_appends.proofs.Left.{undo_of}
use Rattle.sound_tables.specs.Keeping.{AreRowLogs, IsLastOpen}
use Rattle.sound_tables.proofs.Drawn.{merged_drawn}
use Rattle.sound_tables.proofs.Following.{calm, merged_follow, merged_course}
use Rattle.sound_tables.proofs.Open_rows.{Last, last_of, rows_of, row_of_last}

pub merged_follows : AreMerged → (bytes : List (List ℕ)) (logs : List Log) → AreWholeLogs 1 bytes logs → AreTransactions logs → EachFollows [] (merged logs)
merged_follows are bytes logs w t = merged_follow bytes logs w t (are bytes logs w t).0

-- a transaction with an open change has records in its log
silent : (c : Course) (t : ℕ) (rs : List LogRecord) → speak_of t rs ≡ false → course_in c t rs ≡ c
silent c t [] h = refl
silent c t (r ∷ rs) h =
    let p = or_parts (r.tran == t) (speak_of t rs) h in
    ap (λ (b : Bool). course_in (cond b (after_body c r r.body) c) t rs) p.0 ∙ silent c t rs p.1

speaks : (log : Log) (t : ℕ) (made : LogRecord) → slice_get (course_of log t).undo (length (course_of log t).undo - 1) ≡ Some made → speak_of t log.records ≡ true
speaks log t made last = elim (cases_Bool (speak_of t log.records)) [
  | inl is ↦ is
  | inr none ↦ (
      let nothing : slice_get (course_of log t).undo (length (course_of log t).undo - 1) ≡ None = ap (λ (c : Course). slice_get c.undo (length c.undo - 1)) (silent new_course t log.records none) in
      absurd cc)
]

inverse_is : (c : RowChange) (b : Body) → b ≡ body.RowChange c → InvertsBody (inverse c) b
inverse_is c b is = subst (InvertsBody (inverse c)) (sym is) refl

-- the change that takes it back, of which the merged records leave the same to be undone
pub record IsLast (logs : List Log) (tran : ℕ) (change : RowChange) : Type 0 where
  pub left : Last (undo_of (merged logs) tran) change
  pub uncommitted : (course_in new_course tran (merged logs)).is_committed ≡ false

pub is_last : (bytes : List (List ℕ)) (front : List Log) (log : Log) (back : List Log) (tran : ℕ) (change : RowChange) (made : LogRecord) → AreWholeLogs 1 bytes (front ++ log ∷ back) → AreTransactions (front ++ log ∷ back)
    → (tran ≡ 0 → ⊥) → slice_get (course_of log tran).undo (length (course_of log tran).undo - 1) ≡ Some made → InvertsBody change made.body → (course_of log tran).is_committed ≡ false → IsLast (front ++ log ∷ back) tran change
is_last bytes front log back tran change made w t some last inverts un =
    let rs = merged (front ++ log ∷ back) in
    let same : calm (course_of log tran) ≡ course_in new_course tran rs = merged_course bytes front log back tran (ne_eqb tran 0 some) (speaks log tran made last) w t in
    let undo : (course_of log tran).undo ≡ (course_in new_course tran rs).undo = ap (λ (c : Course). c.undo) same in
    let there : slice_get (course_in new_course tran rs).undo (length (course_in new_course tran rs).undo - 1) ≡ Some made = ap (λ (us : List LogRecord). slice_get us (length us - 1)) (sym undo) ∙ last in
    record {
      left = last_of (course_in new_course tran rs).undo change (Some made) there inverts;
      uncommitted = sym (ap (λ (c : Course). c.is_committed) same) ∙ un;
    }

pub last_row : AreMerged → (bytes : List (List ℕ)) (logs : List Log) (tran : ℕ) (change : RowChange) → AreRowLogs bytes logs → IsLast logs tran change → row_after (merged logs) change.table change.key ≡ change.before
last_row are bytes logs tran change s l =
    row_of_last (merged logs) tran change
    (rows_of change.table change.key (merged logs) (merged_follows are bytes logs s.whole s.transactions) s.befores s.turns (merged_drawn logs s.transactions)) l.uncommitted l.left

pub last_stands : AreMerged → (bytes : List (List ℕ)) (front : List Log) (log : Log) (back : List Log) (tran : ℕ) (change : RowChange) → AreRowLogs bytes (front ++ log ∷ back) → (tran ≡ 0 → ⊥) → IsLastOpen log tran change
    → row_after (merged (front ++ log ∷ back)) change.table change.key ≡ change.after
last_stands are bytes front log back tran change s some l =
    last_row are bytes (front ++ log ∷ back) tran (inverse change) s
    (is_last bytes front log back tran (inverse change) l.made s.whole s.transactions some l.last (inverse_is change l.made.body l.changes) l.uncommitted)
