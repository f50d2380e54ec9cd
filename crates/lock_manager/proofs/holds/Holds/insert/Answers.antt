use Rattle.lock_manager.proofs.Places.{inserted_mode, inserted_rest}
use Rattle.lock_manager.proofs.holds.Holds.insert.Goals as goal

pub returns-then-is_first-clause-mode : goal.returns-then-is_first-clause-mode
returns-then-is_first-clause-mode c = inserted_mode c.args.claim c.args.self.now c.insert_first.new.self c.insert_first.ensures
