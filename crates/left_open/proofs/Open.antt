-- What the last records of a log leave open, behind a failure.
use Rattle.std.proofs.Common.{◌≡◌, ℕ, refl, subst, false, List, [], ◌∷◌, ◌++◌, take}
use Rattle.std.specs.List.{AllByRecursion}
use Rattle.ds_model.specs.declared.log.Body.{Body}
use Rattle.ds_model.specs.declared.log.Body.TheVariants as body
use Rattle.ds_model.specs.declared.log.LogRecord.{LogRecord}
use Rattle.log_reader.specs.Held.{names}
use Rattle.log_rows.specs.Rows.{IsOpenIn, OpenTell}
use Rattle.log_trans.specs.Courses.{open_trans}
use Rattle.log_trans.specs.declared.opened.OpenTran.{OpenTran}
use Rattle.log_appends.specs.Appends.{AllAreLast, AreBehind, AreLastFrom, LastAreBehind, NoneNames}
use Rattle.row_claims.specs.Given.{ArePlain, is_checkpoint}
use Rattle.row_claims.specs.Rows.{RowsBegin, RowsLocked, RowsOpen, RowsReach}
use Rattle.left_open.specs.Logs.{HasAllLocked, LeftIsLocked, LockedBegins, LockedReaches}

-- ---- records that are no Checkpoint name no place
plain_body : (place : ℕ) (b : Body) → is_checkpoint b ≡ false → names place b ≡ false
plain_body place (body.RowChange c) e = refl
plain_body place (body.Compensation c undone) e = refl
plain_body place (body.System patches) e = refl
plain_body place body.Commit e = refl
plain_body place body.Ended e = refl
plain_body place (body.Checkpoint offset) e = absurd cc
plain_body place body.RestartEnd e = refl

pub none_names : (records : List LogRecord) → ArePlain records → NoneNames records
none_names [] plain place = tt
none_names (r ∷ rs) plain place = (plain_body place r.body plain.0, none_names rs plain.1 place)

-- ---- all of a list
each : {A : Type 0} → (P Q : A → Type 0) → ((x : A) → P x → Q x) → (xs : List A) → AllByRecursion P xs → AllByRecursion Q xs
each P Q go [] h = tt
each P Q go (x ∷ xs) h = (go x h.0, each P Q go xs h.1)

pub left_is_locked : LastAreBehind → OpenTell → RowsOpen → LeftIsLocked
left_is_locked behind opens tell log pend s n start records l last = each (IsOpenIn records) (HasAllLocked s) locked (open_trans records) (opens records)
  where
    are : AreBehind log pend n start records
    are = behind log pend n start records l.whole l.allowed (none_names pend l.plain) (subst (λ (z : List ℕ). AreLastFrom (log ++ take n z) start records) l.spelled last)

    rows : RowsLocked are.back (are.front ++ are.rest) s
    rows = subst (λ (z : List LogRecord). RowsLocked are.back z s) are.split (l.locked start are.back are.last)

    locked : (t : OpenTran) → IsOpenIn records t → HasAllLocked s t
    locked t is = record {
      named = is.numbered;
      rows = λ spot touched. tell are.back are.front are.rest s t rows (subst (λ (z : List LogRecord). IsOpenIn z t) are.are is) spot touched;
    }

-- ---- where it begins, and local moves
pub locked_begins : RowsBegin → AllAreLast → LockedBegins
locked_begins starts last_all log member sizes h whole book fresh closed = record {
  whole = whole;
  spelled = (at 0 whole.records (last_all log whole)).closes.spelled;
  allowed = tt;
  plain = tt;
  locked = at;
}
  where
    at : (start : ℕ) (back : List LogRecord) → AreLastFrom log start back → RowsLocked back [] h.marks
    at start back last = starts back member sizes h (closed start back last) book fresh

pub locked_reaches : RowsReach → AllAreLast → LockedReaches
locked_reaches reach last_all log pend s t moves l = record {
  whole = l.whole;
  spelled = (at 0 l.whole.records (last_all log l.whole)).closes.spelled;
  allowed = l.allowed;
  plain = l.plain;
  locked = at;
}
  where
    at : (start : ℕ) (back : List LogRecord) → AreLastFrom log start back → RowsLocked back pend t
    at start back last = reach back pend s t moves (l.locked start back last)
