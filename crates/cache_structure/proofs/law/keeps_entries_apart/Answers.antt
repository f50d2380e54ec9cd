use Rattle.cache_structure.proofs.Sound as sound
use Rattle.cache_structure.proofs.law.keeps_entries_apart.Goals as goal

pub returns-clause-empty : goal.returns-clause-empty
returns-clause-empty c = sound.empty

pub returns-clause-read : goal.returns-clause-read
returns-clause-read c = sound.read

pub returns-clause-write : goal.returns-clause-write
returns-clause-write c = sound.write

pub returns-clause-unregister : goal.returns-clause-unregister
returns-clause-unregister c = sound.unregister

pub returns-clause-castout_read : goal.returns-clause-castout_read
returns-clause-castout_read c = sound.castout_read

pub returns-clause-castout_done : goal.returns-clause-castout_done
returns-clause-castout_done c = sound.castout_done

pub returns-clause-fail : goal.returns-clause-fail
returns-clause-fail c = sound.fail

pub returns-clause-lose : goal.returns-clause-lose
returns-clause-lose c = sound.lose

pub returns-clause-rebuilt : goal.returns-clause-rebuilt
returns-clause-rebuilt c = sound.rebuilt
