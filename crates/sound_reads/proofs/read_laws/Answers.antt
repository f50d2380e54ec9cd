use Rattle.sound_reads.proofs.Undamaged.{reads_stand_apart, finds_no_damage, have_greatest}
use Rattle.sound_reads.proofs.read_laws.Goals as goal

pub returns-clause-apart : goal.returns-clause-apart
returns-clause-apart c = reads_stand_apart

pub returns-clause-damage : goal.returns-clause-damage
returns-clause-damage c = finds_no_damage c.transaction_laws.ensures

pub returns-clause-greatest : goal.returns-clause-greatest
returns-clause-greatest c = have_greatest
