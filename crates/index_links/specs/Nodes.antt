-- What the branches and leaves of an index say beside their entries.
use Rattle.std.specs.Prelude.{ℕ, zero, suc, ◌+◌, List, [], ◌∷◌}
use Rattle.ds_base.specs.Pages.{index_page}
use Rattle.index_leaf.specs.Entries.{low_of, high_of, right_field}
use Rattle.index_leaf.specs.Search.{is_branch}
use Rattle.page_images.specs.Images.{Images}
use Rattle.index_links.specs.declared.nodes.Node.{Node}

abbrev pub node_of : List ℕ → Node
node_of page = record { is_branch = is_branch page; low = low_of page; high = high_of page; right = right_field page }

-- of so many pages from the first number on
abbrev pub nodes_from : Images → ℕ → ℕ → ℕ → List Node
nodes_from at table first zero = []
nodes_from at table first (suc n) = node_of (at (index_page table first)) ∷ nodes_from at table (first + 1) n
