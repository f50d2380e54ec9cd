-- What is left out of the logs of a disk stays closed, wherever a group restart ends.
use Rattle.std.proofs.Common.{◌≡◌, ◌≢◌, ℕ, ◌+◌, Bool, true, false, List, [], ◌∷◌, ◌++◌, length, inl, inr, refl, sym, ap, subst, ◌∙◌}
use Rattle.std.specs.Prelude.{◌==◌, ◌&&◌, ◌||◌, not}
use Rattle.std.specs.List.{list_all}
use Rattle.std.proofs.lemmas.Bool.{both_ways, and_parts, and_from, or_left, or_parts}
use Rattle.std.proofs.lemmas.List.Folds.{list_any-append}
use Rattle.ds_disk.specs.Contents.{Contents}
use Rattle.ds_model.specs.RecordBytes.{is_written, record_bytes, log_bytes}
use Rattle.ds_model.specs.Rows.{Spot}
use Rattle.ds_model.specs.declared.log.LogRecord.{LogRecord}
use Rattle.ds_model.specs.declared.log.Body.{Body}
use Rattle.ds_model.specs.declared.log.Body.TheVariants as body
use Rattle.log_record.specs.declared.log.Log.{Log}
use Rattle.log_rows.specs.Rows.{has_changed, is_closed}
use Rattle.log_reader.specs.Held.{names, is_earlier}
use Rattle.checkpoint_offsets.specs.Offsets.{names_own, all_own}
use Rattle.disk_restart.specs.Keeping.{KeepsRecords}
use Rattle.sound_disk.specs.Sound.{IsSoundWith}
use Rattle.sound_disk.specs.Transactions.{speak_of}
use Rattle.sound_disk.specs.Whole_logs.{AreWholeLogs}
use Rattle.sound_plans.specs.Ends.{is_checkpoint, has_checkpoint}
use Rattle.sound_plans.specs.Queues.{records_for}
use Rattle.sound_reads.specs.Reads.{BeginThere, MayBeginAt, AreReadOf}
use Rattle.sound_steps.specs.Grown.{HaveEnded}
use Rattle.read_plans.specs.Ends.{IsLeftOut, OpensAreTaken}
use Rattle.restart_soundness.specs.Left_out.{LeavesOutClosed}
use Rattle.restart_soundness.specs.Soundness.{to_end, HasKept}
use Rattle.restart_soundness.proofs.Closed.{closed_behind}
use Rattle.restart_soundness.proofs.Closes.{LogLaws, same_members, last_again, changed_before, closed_again}

-- ---- where the records may be read from, if no Checkpoint is among those that they have grown by

never : false ≡ true → ⊥
never e = cc

named_checkpoint : (place : ℕ) (w : Bool) (b : Body) → (w && names place b) ≡ true → is_checkpoint b ≡ true
named_checkpoint place w (body.Checkpoint offset) h = refl
named_checkpoint place w (body.RowChange change) h = absurd (never (and_parts w false h).1)
named_checkpoint place w (body.Compensation change undone) h = absurd (never (and_parts w false h).1)
named_checkpoint place w (body.System patches) h = absurd (never (and_parts w false h).1)
named_checkpoint place w body.Commit h = absurd (never (and_parts w false h).1)
named_checkpoint place w body.Ended h = absurd (never (and_parts w false h).1)
named_checkpoint place w body.RestartEnd h = absurd (never (and_parts w false h).1)

own_front : (place : ℕ) (xs ys : List LogRecord) → all_own place (xs ++ ys) ≡ true → all_own place xs ≡ true
own_front place [] ys h = refl
own_front place (x ∷ xs) ys h =
    let p = and_parts (names_own place x.body) (all_own (place + length (record_bytes x)) (xs ++ ys)) h in
    and_from (names_own place x.body) (all_own (place + length (record_bytes x)) xs) p.0 (own_front (place + length (record_bytes x)) xs ys p.1)

all_front : (f : LogRecord → Bool) (xs ys : List LogRecord) → list_all f (xs ++ ys) ≡ true → list_all f xs ≡ true
all_front f [] ys h = refl
all_front f (x ∷ xs) ys h = let p = and_parts (f x) (list_all f (xs ++ ys)) h in and_from (f x) (list_all f xs) p.0 (all_front f xs ys p.1)

begins_front : (place : ℕ) (r : LogRecord) (rs more : List LogRecord) → BeginThere place r (rs ++ more) → BeginThere place r rs
begins_front place r rs more b = record {
  begins = b.begins;
  own = own_front place (r ∷ rs) more b.own;
  later = all_front (λ (x : LogRecord). not (is_earlier r.lrsn x)) rs more b.later;
}

-- the first records go on behind the record
record GoesOn (old front rs more : List LogRecord) (r : LogRecord) : Type 0 where
  rest : List LogRecord
  first : old ≡ front ++ r ∷ rest
  behind : rs ≡ rest ++ more

head_is : (x y : LogRecord) (xs ys : List LogRecord) → x ∷ xs ≡ y ∷ ys → (x ≡ y) × (xs ≡ ys)
head_is x y xs ys e = (cc, cc)

split_at : (old more front rs : List LogRecord) (r : LogRecord) → old ++ more ≡ front ++ r ∷ rs → has_checkpoint more ≡ false → is_checkpoint r.body ≡ true → GoesOn old front rs more r
split_at [] more front rs r e none is =
    let there : has_checkpoint more ≡ (has_checkpoint front || (is_checkpoint r.body || has_checkpoint rs)) = ap has_checkpoint e ∙ list_any-append (λ (x : LogRecord). is_checkpoint x.body) front (r ∷ rs) in
    let parts = or_parts (has_checkpoint front) (is_checkpoint r.body || has_checkpoint rs) (sym there ∙ none) in
    absurd (both_ways (is_checkpoint r.body) (or_parts (is_checkpoint r.body) (has_checkpoint rs) parts.1).0 is)
split_at (x ∷ old) more [] rs r e none is =
    let p = head_is x r (old ++ more) rs e in
    record { rest = old; first = ap (λ (y : LogRecord). y ∷ old) p.0; behind = sym p.1 }
split_at (x ∷ old) more (f ∷ front) rs r e none is =
    let p = head_is x f (old ++ more) (front ++ r ∷ rs) e in
    let g = split_at old more front rs r p.1 none is in
    record { rest = g.rest; first = ap (λ (y : LogRecord). y ∷ old) p.0 ∙ ap (λ (l : List LogRecord). f ∷ l) g.first; behind = g.behind }

-- so one that is left out of them was so before
out_before : (old more records front back : List LogRecord) (t : ℕ) → records ≡ old ++ more → has_checkpoint more ≡ false → records ≡ front ++ back → MayBeginAt (length (log_bytes front)) back → speak_of t back ≡ false → IsLeftOut old t
out_before old more records front [] t are none split may silent = absurd may
out_before old more records front (r ∷ rs) t are none split may silent =
    let place = length (log_bytes front) in
    let g = split_at old more front rs r (sym are ∙ split) none (named_checkpoint place (is_written r.version) r.body may.begins) in
    let quiet : speak_of t ((r ∷ g.rest) ++ more) ≡ false = subst (λ (l : List LogRecord). speak_of t (r ∷ l) ≡ false) g.behind silent in
    record {
      front = front;
      back = r ∷ g.rest;
      records_are = g.first;
      begins = begins_front place r g.rest more (subst (BeginThere place r) g.behind may);
      silent = (or_parts (speak_of t (r ∷ g.rest)) (speak_of t more) (sym (list_any-append (λ (x : LogRecord). x.tran == t) (r ∷ g.rest) more) ∙ quiet)).0;
    }

-- ---- the disk

module _ (l : LogLaws) (opens : OpensAreTaken) (c d : Contents) (first : List Log) (sound : IsSoundWith c first) (as_many : length c.logs ≡ length d.logs) (keeps : KeepsRecords c d) (before : LeavesOutClosed c) where
  -- where nothing was appended
  same_closed : AreWholeLogs 1 d.logs first → LeavesOutClosed d
  same_closed whole =
      let same : (m : ℕ) → records_for before.logs m ≡ records_for first m = same_members l.reads 1 c.logs before.logs first before.whole sound.whole_logs in
      record {
        logs = first;
        whole = whole;
        commits = last_again l c d as_many keeps before first whole;
        closed = λ m t s numbered changed out.
            ap (λ (rs : List LogRecord). is_closed rs t) (sym (same m)) ∙ before.closed m t s numbered (changed_before l c d as_many keeps before first whole m t s changed) (subst (λ (rs : List LogRecord). IsLeftOut rs t) (sym (same m)) out);
      }

  -- where no Checkpoint was
  plain_closed : (logs : List Log) (whole : AreWholeLogs 1 d.logs logs) (m : ℕ) (more : List LogRecord) → records_for logs m ≡ records_for first m ++ more → has_checkpoint more ≡ false
      → (t : ℕ) (s : Spot) → t ≢ 0 → has_changed (records_for logs m) t s ≡ true → IsLeftOut (records_for logs m) t → is_closed (records_for logs m) t ≡ true
  plain_closed logs whole m more are none t s numbered changed out =
      let same : records_for before.logs m ≡ records_for first m = same_members l.reads 1 c.logs before.logs first before.whole sound.whole_logs m in
      let was : IsLeftOut (records_for first m) t = out_before (records_for first m) more (records_for logs m) out.front out.back t are none out.records_are out.begins out.silent in
      let shut : is_closed (records_for first m) t ≡ true =
      ap (λ (rs : List LogRecord). is_closed rs t) (sym same) ∙ before.closed m t s numbered (changed_before l c d as_many keeps before logs whole m t s changed) (subst (λ (rs : List LogRecord). IsLeftOut rs t) (sym same) was) in
      ap (λ (rs : List LogRecord). is_closed rs t) are ∙ l.both.closed (records_for first m) more t ∙ or_left (is_closed (records_for first m) t) (is_closed more t) shut

  -- where all that were to end have ended
  ended_closed : (logs reads : List Log) → AreWholeLogs 1 d.logs logs → AreReadOf first reads → HaveEnded (to_end first reads) logs → (m t : ℕ) (s : Spot) → t ≢ 0 → has_changed (records_for logs m) t s ≡ true → is_closed (records_for logs m) t ≡ true
  ended_closed logs reads whole are ends m t s numbered changed =
      closed_again l c d as_many keeps before logs whole m t s numbered changed (closed_behind l.reads opens c d first logs reads sound whole are as_many keeps ends m t s numbered changed)

  pub kept_closed : HasKept first d → LeavesOutClosed d
  kept_closed (inl whole) = same_closed whole
  kept_closed (inr g) = record {
    logs = g.grown.logs;
    whole = g.grown.whole;
    commits = last_again l c d as_many keeps before g.grown.logs g.grown.whole;
    closed = λ m t s numbered changed out. elim (g.grown.each m).until as (λ _. is_closed (records_for g.grown.logs m) t ≡ true) [
      | inl none ↦ plain_closed g.grown.logs g.grown.whole m (g.grown.each m).more (g.grown.each m).are none t s numbered changed out
      | inr ends ↦ ended_closed g.grown.logs g.reads g.grown.whole g.are_read ends m t s numbered changed
    ];
  }
