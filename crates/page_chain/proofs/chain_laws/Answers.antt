use Rattle.std.specs.Prelude.{[], ◌∷◌}
use Rattle.page_images.specs.Images.{zeros}
use Rattle.page_chain.proofs.Others.{others_stay}
use Rattle.page_chain.proofs.Order.{version-append}
use Rattle.page_chain.proofs.chain_laws.Goals as goal

pub returns-clause-grows : goal.returns-clause-grows
returns-clause-grows c = λ records r id. version-append records (r ∷ []) id zeros

pub returns-clause-others : goal.returns-clause-others
returns-clause-others c = λ r id page e. others_stay c.written_laws.ensures.free r id page e
