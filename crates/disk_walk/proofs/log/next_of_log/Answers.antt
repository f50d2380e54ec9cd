use Rattle.disk_walk.proofs.One.{next_told, sound_told}
use Rattle.disk_walk.proofs.log.next_of_log.Goals as goal

pub returns-clause-sound : goal.returns-clause-sound
returns-clause-sound g c = sound_told _ _ c.next_record.result c.left_by.result c.left_by.ensures c.next_record.ensures.past

pub returns-clause-next : goal.returns-clause-next
returns-clause-next g c = next_told c.whole_laws.ensures.first c.whole_laws.ensures.none _ _ _ _ c.args.member _ _ c.next_record.result c.left_by.result c.left_by.ensures c.next_record.ensures.next
