-- What each end of a lane knows.
use Rattle.std.specs.Prelude.{◌≡◌, Some, None}
use Rattle.std.specs.Arc.{arc_value}
use Rattle.crossbeam_queue.specs.Passes.{view, IsPassOf}
use Rattle.standing_threads.specs.declared.message.Message.{Message}
use Rattle.standing_threads.specs.declared.message.Side.TheVariants as side
use Rattle.standing_threads.specs.declared.lead.Lead.{Lead}
use Rattle.standing_threads.specs.declared.post.Post.{Post}

module _ {T : Type 0} where
  -- nothing is out
  abbrev pub IsHome : Lead T → Type 0
  IsHome e = IsPassOf (arc_value e.lane).row e.pass × (view e.pass ≡ side.Leads None)

  -- this value is out
  abbrev pub IsAway : Lead T → T → Type 0
  IsAway e x = IsPassOf (arc_value e.lane).row e.pass × (view e.pass ≡ side.Leads (Some x))

  -- nothing is in hand
  abbrev pub HasNone : Post T → Type 0
  HasNone e = IsPassOf (arc_value e.lane).row e.pass × (view e.pass ≡ side.Stands None)

  -- this is in hand
  abbrev pub HasOne : Post T → Message T → Type 0
  HasOne e m = IsPassOf (arc_value e.lane).row e.pass × (view e.pass ≡ side.Stands (Some m))
