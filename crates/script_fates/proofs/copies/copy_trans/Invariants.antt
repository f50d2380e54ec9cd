use Rattle.std.proofs.Common.{◌≡◌, take}
use Rattle.script_fates.proofs.copies.copy_trans.Given as goal

abbrev pub invariant-loop-tran : goal.invariant-loop-tran
invariant-loop-tran l = l.copies ≡ take l.tran-index l.trans
