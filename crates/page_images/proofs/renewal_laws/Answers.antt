use Rattle.page_images.proofs.Renewals.{renewed_kept, renewed_header}
use Rattle.page_images.proofs.renewal_laws.Goals as goal

pub returns-clause-header : goal.returns-clause-header
returns-clause-header c = λ page id whole old low. renewed_header page id whole old low

pub returns-clause-kept : goal.returns-clause-kept
returns-clause-kept c = λ page at width whole free. renewed_kept page at width whole free
