-- Claims of locks, and answers about them.
use Rattle.std.specs.Prelude.{ℕ, Bool, true, false, not, ◌||◌, if◌then◌else◌, Option, Some, None, Result, Err}
use Rattle.ds_model.specs.declared.lock.Name.{Name}
use Rattle.ds_model.specs.declared.lock.Name.TheVariants as name
use Rattle.lock_names.specs.declared.mode.Mode.{Mode}
use Rattle.lock_names.specs.declared.mode.Mode.TheVariants.{IS, IX, S, U, SIX, X}
use Rattle.lock_names.specs.Modes.{is_covering}
use Rattle.list_structure.specs.declared.query.Asker.{Asker}
use Rattle.member_intents.specs.Given.command_variants as command
use Rattle.member_intents.specs.declared.outcome.Sent.{Sent}
use Rattle.member_intents.specs.declared.outcome.Sent.TheVariants as sent
use Rattle.member_intents.specs.declared.test.Test.{Test}
use Rattle.member_intents.specs.declared.test.Test.TheVariants.{NotForward, NotOfSlot, NotOfMember, NotJoined, PagesFull, StillClaimed}
use Rattle.member_intents.specs.Cells.{cell_slot}
use Rattle.member_trans.specs.declared.fate.Owner.{Owner}
use Rattle.member_trans.specs.declared.fate.Owner.TheVariants as owner
use Rattle.member_trans.specs.Trans.{is_forward}
use Rattle.member_marks.specs.State.{MarksState, slot_tran}
use Rattle.member_marks.specs.Claims.{is_for_agents, mode_held, has_page, has_page_room, answer_to}
use Rattle.member_needs.specs.Tested.{Tested, passed, when, sends}

abbrev pub is_x : Mode → Bool
is_x IS = false
is_x IX = false
is_x S = false
is_x U = false
is_x SIX = false
is_x X = true

-- whether the mode covers what the owner holds
abbrev pub is_joined : Option Mode → Mode → Bool
is_joined None m = true
is_joined (Some held) m = is_covering m held

-- a slot's transaction goes forward, and claims the name in the join of the modes that it needs
abbrev pub slot_test : MarksState → ℕ → Name → Mode → Tested
slot_test s slot n m =
    when (is_forward (slot_tran s slot).stage) NotForward
    (when (is_joined (mode_held s (owner.Slot slot) n) m) NotJoined passed)

-- table spaces and rows are claimed by the transactions of slots alone
abbrev pub agent_test : MarksState → Owner → Name → Mode → Tested
agent_test s (owner.Slot slot) n m = slot_test s slot n m
agent_test s (owner.Rollback id) n m = Err NotOfSlot

-- the member claims pages in X, as many as there is room for
abbrev pub page_test : MarksState → Name → Mode → Tested
page_test s (name.Page p) m = when (is_x m) NotOfMember (when (has_page_room s || has_page s p) PagesFull passed)
page_test s (name.Space t) m = Err NotOfMember
page_test s (name.Row t k) m = Err NotOfMember
page_test s (name.Set n) m = Err NotOfMember

-- whose need it is claims a table space or row, and the member claims a page for it
abbrev pub claim_test : MarksState → Owner → Name → Mode → Tested
claim_test s o n m = if is_for_agents n then agent_test s o n m else page_test s n m

abbrev pub obtain_need : MarksState → Owner → Name → Mode → Result Sent Test
obtain_need s o n m = sends (claim_test s o n m) (sent.Command (command.Obtain n m))

abbrev pub grant_need : MarksState → Owner → Name → Mode → Result Sent Test
grant_need s o n m = sends (claim_test s o n m) (sent.Command (command.Grant (cell_slot o n) n m))

abbrev pub ask_need : Owner → ℕ → Name → Mode → Sent
ask_need o to n m = sent.Command (command.Ask (cell_slot o n) to n m)

abbrev pub answers_need : Owner → Name → Sent
answers_need o n = sent.Command (command.Answers (cell_slot o n))

-- ---- answers

-- whether the name is that of a page that the member claims
abbrev pub is_page_claimed : MarksState → Name → Bool
is_page_claimed s (name.Page p) = has_page s p
is_page_claimed s (name.Space t) = false
is_page_claimed s (name.Row t k) = false
is_page_claimed s (name.Set n) = false

-- what the claims say is answered, but for a page that is claimed
abbrev pub answer_need : MarksState → Asker → Name → Mode → ℕ → Result Sent Test
answer_need s asker n m place =
    sends (when (not (is_page_claimed s n)) StillClaimed passed) (sent.Command (command.Answer asker n m (answer_to s n m) place))
