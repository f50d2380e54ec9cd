use Rattle.page_chain.specs.Chains.{images_of}
use Rattle.index_places.proofs.Told.{AreWholeTo}
use Rattle.index_places.proofs.tables.find_unwhole.Given as goal

abbrev pub invariant-loop-number : goal.invariant-loop-number
invariant-loop-number l = AreWholeTo (images_of l.records.records) l.records.records l.records.range l.number
