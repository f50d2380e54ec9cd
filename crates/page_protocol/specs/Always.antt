-- What every list of moves keeps.
use Rattle.std.specs.Prelude.{◌≡◌, ℕ, ◌<◌, ◌≤◌, Bool, true, false, List}
use Rattle.page_protocol.specs.Page.{Page, Group}
use Rattle.page_protocol.specs.Moves.{World, Move, Step, Run, start}
use Rattle.page_protocol.specs.Coherent.{Coherent}
use Rattle.page_protocol.specs.Down.{Grounded}

abbrev pub Stands : Bool → Group → Page → Type 0
Stands true g p = Grounded g p
Stands false g p = Coherent g p

-- a log has the changes of a page in the chain's order
abbrev pub Ordered : Page → Type 0
Ordered p = (i j : ℕ) → i < j → j < p.last → p.author i ≡ p.author j → p.place i < p.place j

-- the numbers rise along the chain
pub record Numbered (g : Group) (p : Page) : Type 0 where
  pub rise : (i j : ℕ) → i < j → j < p.last → p.lrsn i < p.lrsn j
  pub drawn : (i : ℕ) → i < p.last → p.lrsn i ≤ g.counter
  pub positive : (i : ℕ) → i < p.last → 0 < p.lrsn i

pub record Good (w : World) : Type 0 where
  pub stands : (n : ℕ) → Stands w.down w.group (w.pages n)
  pub ordered : (n : ℕ) → Ordered (w.pages n)
  pub numbered : (n : ℕ) → Numbered w.group (w.pages n)

abbrev pub StartsGood : Type 0
StartsGood = Good start

abbrev pub KeepsGood : Type 0
KeepsGood = (set : ℕ → ℕ) (w v : World) (e : Move) → Good w → Step set w e v → Good v

abbrev pub AlwaysGood : Type 0
AlwaysGood = (set : ℕ → ℕ) (moves : List Move) (w v : World) → Good w → Run set w moves v → Good v
