use Rattle.std.proofs.Common.{◌≡◌, drop}
use Rattle.log_trans.specs.Damage.{damage_among, log_damage}
use Rattle.log_trans.proofs.damage.find_log_damage.Given as goal

abbrev pub invariant-loop-log : goal.invariant-loop-log
invariant-loop-log l = damage_among l.known (drop l.log-index l.logs) ≡ log_damage l.logs
