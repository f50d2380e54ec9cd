-- How the page of a frame is lent.
use Rattle.std.specs.Prelude.{ℕ, List, slice_set}
use Rattle.std.specs.Borrow.{Lends, MutBor, Fml}
use Rattle.page_format.specs.contracts.page.Page.{the_row as page_row}
use Rattle.member_pool.specs.contracts.pool.Pool.{the_row}
use Rattle.member_pool.specs.Pools.{PoolState}

-- the pool ends with the page that is left behind the reference
abbrev pub LendsPage : MutBor PoolState → ℕ → MutBor (List ℕ) → Fml
LendsPage pool f page = Lends the_row page_row pool page (λ last. record pool.now { pages = slice_set pool.now.pages f last })
