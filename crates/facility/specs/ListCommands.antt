-- The commands of the list structure.
use Rattle.std.specs.Prelude.{ℕ, ◌≡◌, ◌-◌, ◌≤◌, Bool, true, false, List, map, slice_set, Option, Some, None, if◌then◌else◌}
use Rattle.ds_base.specs.declared.names.TranId.{TranId}
use Rattle.lock_names.specs.Given.{Name}
use Rattle.lock_names.specs.declared.mode.Mode.{Mode}
use Rattle.lock_structure.specs.Locks.{entry_for}
use Rattle.list_structure.specs.declared.query.Asker.{Asker}
use Rattle.list_structure.specs.declared.query.Cell.{Cell}
use Rattle.list_structure.specs.declared.query.Cell.TheVariants.{Asked, Answered}
use Rattle.list_structure.specs.declared.query.CellAnswer.{CellAnswer}
use Rattle.list_structure.specs.declared.standing.MemberStatus.{MemberStatus}
use Rattle.list_structure.specs.declared.standing.ClaimReply.{ClaimReply}
use Rattle.list_structure.specs.declared.standing.ClaimReply.TheVariants as claim
use Rattle.list_structure.specs.declared.wait.Wait.{Wait}
use Rattle.list_structure.specs.Askers.{slot_of}
use Rattle.list_structure.specs.Cells.{AreCells, cell_of, with_cell, IsNextQuery}
use Rattle.list_structure.specs.Flags.{flag_of, raised_by, with_raised}
use Rattle.list_structure.specs.Standings.{claim_reply, rebuilder_after, rebuilder_without, status_of}
use Rattle.list_structure.specs.States.{ListsState, is_settled}
use Rattle.list_structure.specs.Waits.{wait_for, with_wait, without_flag, without_tran, without_waiter}
use Rattle.facility.specs.declared.command.Reply.{Reply}
use Rattle.facility.specs.declared.command.Reply.TheVariants as reply
use Rattle.facility.specs.States.{Held, ring}

-- ---- queries

-- only the cells change, and each becomes what the function says
abbrev pub SetsCells : Held → (Asker → ℕ → Cell) → Held → Type 0
SetsCells w f v = AreCells v.lists.cells f × (v ≡ record w { lists = record w.lists { cells = v.lists.cells } })

abbrev pub AsksMember : Held → ℕ → ℕ → ℕ → Name → Mode → Reply → Held → Type 0
AsksMember w m slot to n mode answer v =
    (answer ≡ reply.Done) × SetsCells w (with_cell w.lists.cells (slot_of m slot) to (Asked n mode)) v

abbrev pub IsQueryReply : List Cell → ℕ → Option Asker → Reply → Type 0
IsQueryReply cells m after reply.Nothing = IsNextQuery cells m after None
IsQueryReply cells m after (reply.Query query) = IsNextQuery cells m after (Some query)
IsQueryReply cells m after _ = ⊥

abbrev pub TakesQuery : Held → ℕ → Option Asker → Reply → Held → Type 0
TakesQuery w m after answer v = IsQueryReply w.lists.cells m after answer × (v ≡ w)

-- the cell of a member that answers, stamped with the version of the name's entry
abbrev pub answered_cell : Held → Name → Mode → CellAnswer → ℕ → Cell
answered_cell w n mode answer event = Answered n mode answer (entry_for w.locks n).version event

abbrev pub AnswersQuery : Held → ℕ → Asker → Name → Mode → CellAnswer → ℕ → Reply → Held → Type 0
AnswersQuery w m asker n mode answer event reply.Done v =
    (cell_of w.lists.cells asker m ≡ Asked n mode)
    × SetsCells w (with_cell w.lists.cells asker m (answered_cell w n mode answer event)) v
AnswersQuery w m asker n mode answer event reply.Gone v = (¬ (cell_of w.lists.cells asker m ≡ Asked n mode)) × (v ≡ w)
AnswersQuery w m asker n mode answer event _ v = ⊥

abbrev pub ReadsCells : Held → Reply → Held → Type 0
ReadsCells w answer v = (answer ≡ reply.Cells) × (v ≡ w)

-- ---- waits and flags

-- the reply is `done`, and only the lists change
abbrev pub DoesLists : Held → ListsState → Reply → Held → Type 0
DoesLists w lists answer v = (answer ≡ reply.Done) × (v ≡ record w { lists = lists })

-- nothing to wait for, or a wait that is known, changes nothing
abbrev pub waiting : ListsState → Wait → ListsState
waiting lists wait = if is_settled lists wait then lists else ring (record lists { waits = with_wait lists.waits wait })

abbrev pub Waits : Held → TranId → TranId → ℕ → Reply → Held → Type 0
Waits w tran holder flag = DoesLists w (waiting w.lists (wait_for tran holder flag))

abbrev pub WaitsNoMore : Held → TranId → Reply → Held → Type 0
WaitsNoMore w tran = DoesLists w (record w.lists { waits = without_waiter w.lists.waits tran })

abbrev pub ReadsWaits : Held → Reply → Held → Type 0
ReadsWaits w answer v = (answer ≡ reply.Waits) × (v ≡ w)

abbrev pub EndsTran : Held → TranId → Reply → Held → Type 0
EndsTran w tran = DoesLists w (ring (record w.lists { waits = without_tran w.lists.waits tran; flags = map (raised_by tran) w.lists.flags }))

abbrev pub RaisesFlag : Held → ℕ → Reply → Held → Type 0
RaisesFlag w flag = DoesLists w (ring (record w.lists { waits = without_flag w.lists.waits flag; flags = with_raised w.lists.flags flag }))

abbrev pub ReadsFlag : Held → ℕ → Reply → Held → Type 0
ReadsFlag w flag answer v =
    (answer ≡ (if (flag_of w.lists.flags flag).raised then reply.Raised else reply.NotRaised)) × (v ≡ w)

-- ---- members

abbrev pub SetsStatus : Held → ℕ → MemberStatus → Reply → Held → Type 0
SetsStatus w m status = DoesLists w (ring (record w.lists { statuses = slice_set w.lists.statuses (m - 1) status }))

abbrev pub ReadsStatus : Held → ℕ → Reply → Held → Type 0
ReadsStatus w member answer v = (answer ≡ reply.Status (status_of w.lists.statuses member)) × (v ≡ w)

abbrev pub reply_to_claim : ClaimReply → Reply
reply_to_claim claim.NotLost = reply.NotLost
reply_to_claim (claim.Taken by) = reply.ClaimTaken by
reply_to_claim claim.Claimed = reply.Claimed

-- what the lists answer to the member, where the cache is lost or isn't
abbrev pub claim_of : Held → ℕ → ClaimReply
claim_of w m = claim_reply w.directory.lost w.lists.rebuilder m w.lists.statuses

abbrev pub ClaimsRebuild : Held → ℕ → Reply → Held → Type 0
ClaimsRebuild w m answer v =
    (answer ≡ reply_to_claim (claim_of w m))
    × (v ≡ record w { lists = record w.lists { rebuilder = rebuilder_after (claim_of w m) m w.lists.rebuilder } })

abbrev pub GivesUpRebuild : Held → ℕ → Reply → Held → Type 0
GivesUpRebuild w m = DoesLists w (ring (record w.lists { rebuilder = rebuilder_without m w.lists.rebuilder }))

abbrev pub EndsPhase : Held → ℕ → Reply → Held → Type 0
EndsPhase w m = DoesLists w (ring (record w.lists { done = slice_set w.lists.done (m - 1) true }))
