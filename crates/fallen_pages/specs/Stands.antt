-- The pages of a group that has failed as a whole, by where its restart stands.
use Rattle.std.specs.Prelude.{◌≡◌, ℕ, ◌+◌, ◌==◌, ◌||◌, Bool, true, false, List}
use Rattle.std.specs.List.{list_any}
use Rattle.page_format.specs.Fields.{lrsn_of}
use Rattle.restart_plan.specs.Given.{PageRecords}
use Rattle.group_restart.specs.declared.stage.Stage.{Stage}
use Rattle.group_restart.specs.declared.stage.Stage.TheVariants as stage
use Rattle.group_restart.specs.Machine.{Restart}
use Rattle.page_protocol.specs.Moves.{Move, Run, World}
use Rattle.page_world.specs.Groups.{Remains}
use Rattle.page_world.specs.Numbers.{page_number, set_of}
use Rattle.page_recoveries.specs.Given.{Drive, Fallen, Shows}

-- ---- which pages may still be older than their last version

-- those that are yet to be brought forward
abbrev pub is_among : List PageRecords → ℕ → Bool
is_among pages n = list_any (λ (p : PageRecords). page_number p.page == n) pages

-- By the stage: any page as long as logs are read; then those that they name, as far as they weren't brought forward; and behind that the one that a
-- compensation has changed, until it is written.
abbrev pub is_left : Stage → List PageRecords → ℕ → Bool
is_left stage.ReadLog pages n = true
is_left (stage.CutTail tail) pages n = is_among pages n
is_left (stage.RedoRead page) pages n = (page_number page == n) || is_among pages n
is_left (stage.RedoWrite page) pages n = (page_number page == n) || is_among pages n
is_left (stage.CloseAppend member) pages n = false
is_left (stage.UndoRead page) pages n = false
is_left (stage.UndoAppend member page) pages n = false
is_left (stage.UndoWrite page) pages n = page_number page == n
is_left (stage.RenewRead page) pages n = false
is_left (stage.RenewWrite page) pages n = false
is_left (stage.EndAppend member) pages n = false
is_left stage.End pages n = false

-- each page on disk is its last version, but for those that are left
abbrev pub OthersLast : World → (ℕ → Bool) → Type 0
OthersLast w left = (n : ℕ) → left n ≡ false → (w.pages n).disk ≡ (w.pages n).last

-- ---- the counter

-- all pages are brought forward, and the greatest number is known
abbrev pub is_counted : Stage → Bool
is_counted stage.ReadLog = false
is_counted (stage.CutTail tail) = false
is_counted (stage.RedoRead page) = false
is_counted (stage.RedoWrite page) = false
is_counted (stage.CloseAppend member) = true
is_counted (stage.UndoRead page) = true
is_counted (stage.UndoAppend member page) = true
is_counted (stage.UndoWrite page) = true
is_counted (stage.RenewRead page) = true
is_counted (stage.RenewWrite page) = true
is_counted (stage.EndAppend member) = true
is_counted stage.End = true

-- from then on it is the last number that was drawn; a compensation that is to be appended has the next one already
abbrev pub CounterIs : Stage → ℕ → ℕ → Type 0
CounterIs stage.ReadLog counter drawn = Unit {0}
CounterIs (stage.CutTail tail) counter drawn = Unit {0}
CounterIs (stage.RedoRead page) counter drawn = Unit {0}
CounterIs (stage.RedoWrite page) counter drawn = Unit {0}
CounterIs (stage.CloseAppend member) counter drawn = counter ≡ drawn
CounterIs (stage.UndoRead page) counter drawn = counter ≡ drawn
CounterIs (stage.UndoAppend member page) counter drawn = counter ≡ drawn + 1
CounterIs (stage.UndoWrite page) counter drawn = counter ≡ drawn
CounterIs (stage.RenewRead page) counter drawn = counter ≡ drawn
CounterIs (stage.RenewWrite page) counter drawn = counter ≡ drawn
CounterIs (stage.EndAppend member) counter drawn = counter ≡ drawn
CounterIs stage.End counter drawn = counter ≡ drawn

-- ---- the page at hand

abbrev pub IsLast : World → (ℕ → ℕ → List ℕ) → ℕ → List ℕ → Type 0
IsLast w content n bytes = bytes ≡ content n (w.pages n).last

-- where it is written next it is the last version of its page, or shows the number that the page on disk shows; and where a compensation is appended
-- next, it shows the number of that
abbrev pub HandIs : Stage → List ℕ → World → Remains → (ℕ → ℕ → List ℕ) → Type 0
HandIs stage.ReadLog bytes w r content = Unit {0}
HandIs (stage.CutTail tail) bytes w r content = Unit {0}
HandIs (stage.RedoRead page) bytes w r content = Unit {0}
HandIs (stage.RedoWrite page) bytes w r content = IsLast w content (page_number page) bytes
HandIs (stage.CloseAppend member) bytes w r content = Unit {0}
HandIs (stage.UndoRead page) bytes w r content = Unit {0}
HandIs (stage.UndoAppend member page) bytes w r content = lrsn_of bytes ≡ r.counter + 1
HandIs (stage.UndoWrite page) bytes w r content = IsLast w content (page_number page) bytes
HandIs (stage.RenewRead page) bytes w r content = Unit {0}
HandIs (stage.RenewWrite page) bytes w r content = lrsn_of bytes ≡ lrsn_of (r.disk (page_number page))
HandIs (stage.EndAppend member) bytes w r content = Unit {0}
HandIs stage.End bytes w r content = Unit {0}

-- ---- the invariant, while a group restart is in hand

pub record StandsAt (k : Restart) (w : World) (r : Remains) (content : ℕ → ℕ → List ℕ) : Type 0 where
  pub last : OthersLast w (is_left k.stage k.plan.pages)
  pub counter : CounterIs k.stage k.counter r.counter
  pub hand : HandIs k.stage k.page w r content

-- a good world stands beside the disk alone, as far as the restart has come
pub record FallenPages (k : Restart) (d : Drive) (w : World) : Type 0 where
  pub remains : Remains
  pub versions : ℕ → ℕ → List ℕ
  pub fallen : Fallen w remains versions
  pub drive : Shows d remains.disk
  pub at : StandsAt k w remains versions

-- moves lead to where that is so
pub record FallenMoves (k : Restart) (e : Drive) (w : World) : Type 0 where
  pub moves : List Move
  pub world : World
  pub run : Run set_of w moves world
  pub stands : FallenPages k e world
