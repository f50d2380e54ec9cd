-- The commands of the lock structure.
use Rattle.std.specs.Prelude.{ℕ, zero, suc, ◌≡◌, Bool, true, false, cond, ◌&&◌, List, [], ◌∷◌, ◌++◌, Option, Some, None, slice_get}
use Rattle.lock_names.specs.Given.{Name}
use Rattle.lock_names.specs.declared.mode.Mode.{Mode}
use Rattle.lock_names.specs.declared.mode.Interest.{Interest}
use Rattle.lock_names.specs.Modes.{is_same}
use Rattle.lock_structure.specs.declared.replies.Obtained.TheVariants as obtained
use Rattle.lock_structure.specs.declared.replies.GrantReply.TheVariants as grant
use Rattle.lock_structure.specs.Locks.{Locks, Obtains, Grants, IsReleased, IsPurged, retained_in}
use Rattle.lock_names.specs.Names.{same_name}
use Rattle.list_structure.specs.declared.query.Cell.{Cell}
use Rattle.list_structure.specs.declared.query.Cell.TheVariants.{Answered}
use Rattle.list_structure.specs.declared.query.CellAnswer.TheVariants.{Clean}
use Rattle.list_structure.specs.Askers.{slot_of}
use Rattle.list_structure.specs.Cells.{AreCells, cell_of, emptied}
use Rattle.facility.specs.declared.command.Reply.{Reply}
use Rattle.facility.specs.declared.command.Reply.TheVariants as reply
use Rattle.facility.specs.States.{Held, ring}

-- ---- obtain

abbrev pub ObtainAnswers : Locks → ℕ → Name → Mode → Reply → Locks → Type 0
ObtainAnswers w m n mode (reply.Granted version) v = Obtains w m n mode (obtained.Granted version) v
ObtainAnswers w m n mode (reply.Retained by) v = Obtains w m n mode (obtained.Retained by) v
ObtainAnswers w m n mode (reply.RecordsFull limit) v = Obtains w m n mode (obtained.RecordsFull limit) v
ObtainAnswers w m n mode (reply.Contention share exclusive version) v = Obtains w m n mode (obtained.Contention share exclusive version) v
ObtainAnswers w m n mode _ v = ⊥

abbrev pub ObtainsLock : Held → ℕ → Name → Mode → Reply → Held → Type 0
ObtainsLock w m n mode answer v = ObtainAnswers w.locks m n mode answer v.locks × (v ≡ record w { locks = v.locks })

-- ---- grant

-- whether the answer is to a query about this name and mode
abbrev pub is_about : Name → Mode → Name → Mode → Bool
is_about n mode asked_name asked_mode = same_name asked_name n && is_same asked_mode mode

-- the version at which the cell's member had nothing in the way of this name and mode, if it answered so
abbrev pub clean_version : Name → Mode → Cell → Option ℕ
clean_version n mode (Answered asked_name asked_mode Clean version event) = cond (is_about n mode asked_name asked_mode) (Some version) None
clean_version n mode _ = None

abbrev pub stamped : ℕ → Option ℕ → List (ℕ × ℕ)
stamped k None = []
stamped k (Some version) = (k, version) ∷ []

-- the first so many members that have nothing in the way, each with the version of its answer
unfoldable pub clean_among : (ℕ → Option ℕ) → ℕ → List (ℕ × ℕ)
clean_among version zero = []
clean_among version (suc k) = clean_among version k ++ stamped (suc k) (version (suc k))

-- what the others have answered to the member's queries of the slot about this name and mode
abbrev pub clean_answers : List Cell → ℕ → ℕ → Name → Mode → List (ℕ × ℕ)
clean_answers cells m slot n mode = clean_among (λ k. clean_version n mode (cell_of cells (slot_of m slot) k)) 32

abbrev pub GrantAnswers : Locks → ℕ → Name → Mode → List (ℕ × ℕ) → Reply → Locks → Type 0
GrantAnswers w m n mode clean (reply.Granted version) v = Grants w m n mode clean (grant.Granted version) v
GrantAnswers w m n mode clean (reply.Retained by) v = Grants w m n mode clean (grant.Retained by) v
GrantAnswers w m n mode clean (reply.RecordsFull limit) v = Grants w m n mode clean (grant.RecordsFull limit) v
GrantAnswers w m n mode clean (reply.Moved version) v = Grants w m n mode clean (grant.Moved version) v
GrantAnswers w m n mode clean _ v = ⊥

-- whatever the reply, the asker's cells are emptied
abbrev pub GrantsLock : Held → ℕ → ℕ → Name → Mode → Reply → Held → Type 0
GrantsLock w m slot n mode answer v =
    GrantAnswers w.locks m n mode (clean_answers w.lists.cells m slot n mode) answer v.locks
    × AreCells v.lists.cells (emptied w.lists.cells (slot_of m slot))
    × (v ≡ record w { locks = v.locks; lists = record w.lists { cells = v.lists.cells } })

-- ---- release, purge, retained-at

abbrev pub ReleasesLock : Held → ℕ → Name → Interest → Reply → Held → Type 0
ReleasesLock w m n keeps answer v =
    (answer ≡ reply.Done) × IsReleased w.locks m n keeps v.locks × (v ≡ record w { locks = v.locks; lists = ring w.lists })

abbrev pub PurgesLock : Held → ℕ → Name → Reply → Held → Type 0
PurgesLock w m n answer v =
    (answer ≡ reply.Done) × IsPurged w.locks m n v.locks × (v ≡ record w { locks = v.locks; lists = ring w.lists })

abbrev pub retained_reply : Option (Name × Mode) → Reply
retained_reply None = reply.Nothing
retained_reply (Some x) = reply.RetainedLock x.0 x.1

abbrev pub ReadsRetained : Held → ℕ → ℕ → Reply → Held → Type 0
ReadsRetained w m n answer v = (answer ≡ retained_reply (slice_get (retained_in w.locks m) n)) × (v ≡ w)
