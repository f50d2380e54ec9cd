use Rattle.std.proofs.Common.{None, refl}
use Rattle.space_check.proofs.Adding.{nothing}
use Rattle.space_check.proofs.told.TablesTold.new.Goals as goal

pub returns : goal.returns
returns c = nothing c.placing_laws.ensures.none c.unstood_laws.ensures.none (record { pages = 0; unwhole = None; unstood = None; turns = c.none.result }) refl refl refl c.none.ensures
