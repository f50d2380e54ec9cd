use Rattle.disk_heads.proofs.Next.{past_told, next_told}
use Rattle.disk_heads.proofs.records.next_record.Goals as goal

pub returns-clause-past : goal.returns-clause-past
returns-clause-past g c = past_told c.args.head.now c.fill_up.new.head c.take_next.new.head c.take_next.result c.in_ok-fill_up.ensures.further c.requires.sound c.take_next.ensures.moved

pub returns-clause-next : goal.returns-clause-next
returns-clause-next g c =
    next_told _ _ _ _ _ c.args.head.now c.fill_up.new.head c.take_next.new.head _ _ c.take_next.result c.in_ok-fill_up.ensures.kept c.in_ok-fill_up.ensures.further c.requires.sound
    c.take_next.ensures.next c.take_next.ensures.damaged c.take_next.ensures.never
