use Rattle.std.proofs.Common.{◌≡◌, true}
use Rattle.torn_records.specs.Fronts.{IsSystemIn}
use Rattle.torn_records.proofs.Systems.{other_size}
use Rattle.torn_records.proofs.Telling.{told_none}
use Rattle.torn_records.proofs.system.is_front_at.Goals as goal

pub returns-else-begins : goal.returns-else-begins
returns-else-begins c =
    told_none c.args.bytes.now (IsSystemIn c.args.version c.args.size)
    (other_size c.args.version c.args.size c.args.bytes.now (λ e. let begins : c.begins_with-begins.result ≡ true = c.begins_with-begins.ensures.1 e in cc))
