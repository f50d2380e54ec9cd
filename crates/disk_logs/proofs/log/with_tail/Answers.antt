use Rattle.disk_logs.proofs.Members.{not_torn}
use Rattle.disk_logs.proofs.log.with_tail.Goals as goal

pub returns-else-torn : goal.returns-else-torn
returns-else-torn c =
    let bytes = c.args.bytes.now in
    let log = c.args.log in
    c.tail_laws.ensures.broken log.member bytes log c.requires (not_torn bytes log.length c.is_torn.result c.in_ok-torn.torn c.is_torn.ensures (cc) c.if-torn.false)
