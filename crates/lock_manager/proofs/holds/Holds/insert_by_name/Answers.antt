use Rattle.std.proofs.Common.{arith}
use Rattle.lock_manager.proofs.Places.{inserted_mode}
use Rattle.lock_manager.proofs.holds.Holds.insert_by_name.Goals.{in-Few, in-Many}
use Rattle.lock_manager.proofs.holds.Holds.insert_by_name.Goals as goal

pub returns-clause-mode : goal.returns-clause-mode
returns-clause-mode c = elim c.match-self.branch [
  | in-Few w ↦ let it = inserted_mode c.args.claim _ w.insert.new.self w.insert.ensures in grind (arith, it, w.self-inside-is)
  | in-Many w ↦ grind (arith, w.insert-in-Many.ensures, w.self-inside-is)
]
