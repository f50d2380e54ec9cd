-- Waits of transactions for one another.
use Rattle.std.specs.Prelude.{ℕ, ◌==◌, not, Result}
use Rattle.ds_base.specs.declared.names.TranId.{TranId}
use Rattle.member_intents.specs.Given.command_variants as command
use Rattle.member_intents.specs.declared.outcome.Sent.{Sent}
use Rattle.member_intents.specs.declared.outcome.Sent.TheVariants as sent
use Rattle.member_intents.specs.declared.test.Test.{Test}
use Rattle.member_intents.specs.declared.test.Test.TheVariants.{NoTransaction}
use Rattle.member_marks.specs.State.{MarksState, slot_id}
use Rattle.member_needs.specs.Tested.{Tested, passed, when, sends}

-- the slot has a transaction
abbrev pub tran_test : MarksState → ℕ → Tested
tran_test s slot = when (not ((slot_id s slot).number == 0)) NoTransaction passed

abbrev pub wait_need : MarksState → ℕ → TranId → ℕ → Result Sent Test
wait_need s slot holder flag = sends (tran_test s slot) (sent.Command (command.Wait (slot_id s slot) holder flag))

abbrev pub unwait_need : MarksState → ℕ → Result Sent Test
unwait_need s slot = sends (tran_test s slot) (sent.Command (command.Unwait (slot_id s slot)))
