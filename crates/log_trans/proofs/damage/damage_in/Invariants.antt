use Rattle.std.proofs.Common.{◌≡◌, drop}
use Rattle.log_trans.specs.Damage.{damage_from}
use Rattle.log_trans.proofs.damage.damage_in.Given as goal

abbrev pub invariant-loop-record : goal.invariant-loop-record
invariant-loop-record l = damage_from l.member l.known l.low l.at (drop l.record-index l.records) ≡ damage_from l.member l.fn.known 0 0 l.records
