-- What a node of the tree is seen as, and what holds of it.
use Rattle.std.specs.Prelude.{◌≡◌, true, false, List, [], ◌∷◌, ◌++◌}
use Rattle.ds_base.specs.declared.names.PageId.{PageId}
use Rattle.page_tree.specs.declared.tree.Node.{Node}
use Rattle.page_tree.specs.declared.tree.Node.TheVariants.{Leaf, Fork}
use Rattle.page_tree.specs.Order.{comes_before}
use Rattle.page_tree.specs.Pages.{is_in}

-- the least page, and then those of the two sides
abbrev pub pages_in : Node → List PageId
pages_in Leaf = []
pages_in (Fork least middle l r) = least ∷ (l.value ++ r.value)

-- the least page is before all others, and the middle lies between the sides
pub record IsSplit (least middle : PageId) (l r : List PageId) : Type 0 where
  pub lower : (q : PageId) → is_in q l ≡ true → (comes_before least q ≡ true) × (comes_before q middle ≡ true)
  pub upper : (q : PageId) → is_in q r ≡ true → (comes_before least q ≡ true) × (comes_before q middle ≡ false)

abbrev pub IsOrdered : Node → Type 0
IsOrdered Leaf = Unit {0}
IsOrdered (Fork least middle l r) = IsSplit least middle l.value r.value
