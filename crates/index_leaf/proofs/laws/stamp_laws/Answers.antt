use Rattle.index_leaf.proofs.Stamps.{length_stamp, stamp_reads, stamped_once}
use Rattle.index_leaf.proofs.Taken.{reads_look, reads_node}
use Rattle.index_leaf.proofs.laws.stamp_laws.Goals as goal

pub returns-clause-whole : goal.returns-clause-whole
returns-clause-whole c = λ page lrsn l. length_stamp page lrsn l

pub returns-clause-fields : goal.returns-clause-fields
returns-clause-fields c = λ page lrsn l. stamp_reads page lrsn l

pub returns-clause-search : goal.returns-clause-search
returns-clause-search c = λ page new key h. reads_look page new key h

pub returns-clause-node : goal.returns-clause-node
returns-clause-node c = λ page new l h n. reads_node page new l h n

pub returns-clause-once : goal.returns-clause-once
returns-clause-once c = λ lrsn page p ps l h. stamped_once lrsn page p ps l h
