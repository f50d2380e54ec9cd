-- The pages that a record changes.
use Rattle.std.specs.Prelude.{Bool, if◌then◌else◌, List, [], ◌∷◌, ◌++◌}
use Rattle.std.specs.List.{list_any}
use Rattle.ds_base.specs.declared.names.PageId.{PageId}
use Rattle.ds_model.specs.declared.log.LogRecord.{LogRecord}
use Rattle.page_format.specs.declared.patch.Patch.{Patch}
use Rattle.ds_base.specs.Pages.{same_page}
use Rattle.page_chain.specs.Chains.{changes_of}

abbrev pub has_page : List PageId → PageId → Bool
has_page pages id = list_any (λ (p : PageId). same_page p id) pages

-- the page behind these, unless it is one of them
abbrev pub with_page : List PageId → PageId → List PageId
with_page pages id = if has_page pages id then pages else pages ++ id ∷ []

-- these pages, and then those of the patches that aren't among them, each once, in the order of the patches
abbrev pub pages_from : List PageId → List Patch → List PageId
pages_from pages [] = pages
pages_from pages (p ∷ ps) = pages_from (with_page pages p.page) ps

abbrev pub pages_of : LogRecord → List PageId
pages_of r = pages_from [] (changes_of r.body)
