use Rattle.sound_restarts.proofs.Undamaged.{finds_no_damage, plans_all, goes_to_tails}
use Rattle.sound_restarts.proofs.damage_laws.Goals as goal

pub returns-clause-damage : goal.returns-clause-damage
returns-clause-damage c = finds_no_damage c.transaction_laws.ensures

pub returns-clause-plan : goal.returns-clause-plan
returns-clause-plan c = plans_all

pub returns-clause-tails : goal.returns-clause-tails
returns-clause-tails c = goes_to_tails (finds_no_damage c.transaction_laws.ensures) plans_all
