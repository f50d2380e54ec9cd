-- What a restart has left open, beside the log that it has read, and the names that this needs.
use Rattle.std.specs.Prelude.{◌≡◌, ◌≢◌, ℕ, ◌+◌, ◌-◌, ◌^◌, ◌≤◌, ◌==◌, nat_lt, ◌&&◌, Bool, true, false, List, [], ◌∷◌, length, map, IfSome, None, Ok, slice_get, if◌then◌else◌}
use Rattle.std.specs.List.{AllByRecursion}
use Rattle.ds_model.specs.Rows.{Spot}
use Rattle.ds_model.specs.declared.lock.Name.{Name}
use Rattle.ds_model.specs.declared.lock.Name.TheVariants as name
use Rattle.ds_model.specs.declared.log.Body.{Body}
use Rattle.ds_model.specs.declared.log.Body.TheVariants as body
use Rattle.ds_model.specs.declared.log.LogRecord.{LogRecord}
use Rattle.ds_model.specs.declared.log.RowChange.{RowChange}
use Rattle.log_trans.specs.declared.opened.OpenTran.{OpenTran}
use Rattle.log_trans.specs.Courses.{open_trans}
use Rattle.log_rows.specs.Rows.{IsOpenIn, touches}
use Rattle.member_intents.specs.declared.outcome.Answered.{Answered}
use Rattle.restart_records.specs.declared.trans.RestartStage.{RestartStage}
use Rattle.restart_records.specs.declared.trans.RestartStage.TheVariants as stage
use Rattle.restart_records.specs.declared.trans.RestartTran.{RestartTran}
use Rattle.restart_records.specs.Names.{NameState, mark_of, no_names}
use Rattle.restart_records.specs.Trans.{TransState, no_trans, open_of, opened_among}
use Rattle.restart_marks.specs.declared.intent.RestartIntent.TheVariants as intent
use Rattle.restart_marks.specs.declared.intent.RestartSent.{RestartSent}
use Rattle.restart_marks.specs.Adopt.{adopted_after}
use Rattle.restart_marks.specs.Needs.{need_of}
use Rattle.restart_marks.specs.State.{IsFresh, RestartState}
use Rattle.restart_resources.specs.Events.{Happens, World}
use Rattle.restart_resources.specs.Held.{Held}

-- ---- how often a name is needed

-- it is that of the changed row, or of its table space
abbrev pub is_named : Name → RowChange → Bool
is_named (name.Space t) c = c.table == t
is_named (name.Row t k) c = (c.table == t) && (c.key == k)
is_named (name.Page p) c = false
is_named (name.Set n) c = false

abbrev pub one_if : Bool → ℕ
one_if true = 1
one_if false = 0

abbrev pub needs_in : Name → Body → ℕ
needs_in n (body.RowChange c) = one_if (is_named n c)
needs_in n (body.Compensation c undone) = 0
needs_in n (body.System patches) = 0
needs_in n body.Commit = 0
needs_in n body.Ended = 0
needs_in n (body.Checkpoint offset) = 0
needs_in n body.RestartEnd = 0

abbrev pub needs_of : Name → List LogRecord → ℕ
needs_of n [] = 0
needs_of n (r ∷ rs) = needs_in n r.body + needs_of n rs

abbrev pub needs_by : Name → OpenTran → ℕ
needs_by n t = needs_of n t.undo + needs_of n t.undone

abbrev pub needs_among : Name → List OpenTran → ℕ
needs_among n [] = 0
needs_among n (t ∷ ts) = needs_by n t + needs_among n ts

-- a transaction that is over needs nothing more
abbrev pub is_over : RestartStage → Bool
is_over stage.Open = false
is_over stage.Ended = false
is_over stage.Over = true

abbrev pub needs_still : Name → RestartTran → ℕ
needs_still n x = if is_over x.stage then 0 else needs_by n x.tran

abbrev pub needs_left : Name → List RestartTran → ℕ
needs_left n [] = 0
needs_left n (x ∷ xs) = needs_still n x + needs_left n xs

-- the needs of each name can be counted with 64 bits, as those of all logs of fewer bytes can
abbrev pub FewNeeds : List LogRecord → Type 0
FewNeeds records = (n : Name) → needs_among n (open_trans records) ≤ 2 ^ 64 - 1

-- ---- what stands

-- of rows and of table spaces marks are kept
abbrev pub IsMarked : NameState → Name → Type 0
IsMarked names (name.Space t) = nat_lt t (length names.spaces) ≡ true
IsMarked names (name.Row t k) = Unit {0}
IsMarked names (name.Page p) = ⊥
IsMarked names (name.Set n) = ⊥

-- each name is known to be needed at least as often as it is
abbrev pub AreNeeded : NameState → List RestartTran → Type 0
AreNeeded names list = (n : Name) → IsMarked names n → needs_left n list ≤ (mark_of names n).needed

-- the transaction whose Ended record waits isn't over yet
abbrev pub IsEnding : TransState → Type 0
IsEnding t = IfSome t.ending (λ at. IfSome (slice_get t.list at) (λ x. is_over x.stage ≡ false))

-- Before the log is read nothing is open and no name is needed. Then each transaction is one that the log leaves open.
pub record OpensStand (s : RestartState) : Type 0 where
  pub none_needed : s.own.is_read ≡ false → s.names ≡ no_names
  pub none_open : s.own.is_read ≡ false → s.trans ≡ no_trans
  pub reader : s.own.is_read ≡ true → s.own.reader ≡ None
  pub from_log : AllByRecursion (λ (x : RestartTran). IsOpenIn s.own.records x.tran) s.trans.list
  pub needed : FewNeeds s.own.records → AreNeeded s.names s.trans.list
  pub ending : IsEnding s.trans

-- ---- how the list of them goes on

-- each is the same transaction, and one that is over stays so
abbrev pub GoOn : List RestartTran → List RestartTran → Type 0
GoOn [] [] = Unit {0}
GoOn [] (y ∷ ys) = ⊥
GoOn (x ∷ xs) [] = ⊥
GoOn (x ∷ xs) (y ∷ ys) = ((y.tran ≡ x.tran) × (is_over x.stage ≡ true → is_over y.stage ≡ true)) × GoOn xs ys

-- ---- the laws

abbrev pub OpensBegin : Type 0
OpensBegin = (member : ℕ) (s : RestartState) → IsFresh member s → OpensStand s

abbrev pub OpensStay : Type 0
OpensStay = (u v : World) (h k : Held) (x : RestartSent) (a : Answered) → Happens u h x a v k → OpensStand h.marks → OpensStand k.marks

abbrev pub OpensHand : Type 0
OpensHand = (s : RestartState) → OpensStand s → OpensStand (adopted_after s)

abbrev pub OpensTell : Type 0
OpensTell = (s : RestartState) → OpensStand s → AllByRecursion (IsOpenIn s.own.records) (opened_among s.trans.list)

-- what is handed over of a transaction has no rows but those that the transaction has changed
abbrev pub OpensTouch : Type 0
OpensTouch = (x : RestartTran) (s : Spot) → touches (open_of x) s ≡ true → touches x.tran s ≡ true

-- the name is neither a row's that the transaction has changed nor that of its table space
abbrev pub IsSpared : Name → OpenTran → Type 0
IsSpared n t = (s : Spot) → touches t s ≡ true → (n ≢ name.Space s.0) × (n ≢ name.Row s.0 s.1)

abbrev pub PurgesSpare : Type 0
PurgesSpare = (s : RestartState) (n : Name) (x : RestartSent) → OpensStand s → FewNeeds s.own.records → need_of s (intent.Purge n) ≡ Ok x → AllByRecursion (IsSpared n) (opened_among s.trans.list)

-- The same of all transactions that aren't over. In the event in which the log is read they are those that it leaves open; behind any other
-- they are the same.
abbrev pub PurgesSpareLeft : Type 0
PurgesSpareLeft = (s : RestartState) (n : Name) (x : RestartSent) → OpensStand s → FewNeeds s.own.records → need_of s (intent.Purge n) ≡ Ok x → AllByRecursion (λ (y : RestartTran). is_over y.stage ≡ false → IsSpared n y.tran) s.trans.list

pub record ListGoes (s t : RestartState) : Type 0 where
  pub read : s.own.is_read ≡ true → GoOn s.trans.list t.trans.list
  pub records : s.own.is_read ≡ true → t.own.records ≡ s.own.records
  pub still_read : s.own.is_read ≡ true → t.own.is_read ≡ true
  pub reads : s.own.is_read ≡ false → t.own.is_read ≡ true → map (λ (y : RestartTran). y.tran) t.trans.list ≡ open_trans t.own.records

abbrev pub ListsGo : Type 0
ListsGo = (u v : World) (h k : Held) (x : RestartSent) (a : Answered) → Happens u h x a v k → OpensStand h.marks → ListGoes h.marks k.marks
