-- What a reply of the facility makes of what is held.
use Rattle.std.specs.Prelude.{◌≡◌}
use Rattle.facility.specs.declared.command.Reply.{Reply}
use Rattle.facility.specs.declared.command.Reply.TheVariants as reply
use Rattle.rebuild_resources.specs.declared.intent.RebuildIntent.{RebuildIntent}
use Rattle.rebuild_resources.specs.declared.intent.RebuildIntent.TheVariants as intent
use Rattle.rebuild_resources.specs.declared.told.RebuildTold.{RebuildTold}
use Rattle.rebuild_resources.specs.declared.told.RebuildTold.TheVariants as told
use Rattle.rebuild_resources.specs.State.{RebuildState, Begins, given_up}

-- nothing is changed but what the policy is told
abbrev pub Says : RebuildTold → RebuildState → RebuildTold → RebuildState → Type 0
Says it h said k = (said ≡ it) × (k ≡ h)

abbrev pub TakesClaim : RebuildState → Reply → RebuildTold → RebuildState → Type 0
TakesClaim h reply.Claimed said k = (said ≡ told.Claimed) × Begins h k
TakesClaim h (reply.ClaimTaken by) said k = Says (told.Taken by) h said k
TakesClaim h reply.NotLost said k = Says told.NotLost h said k
TakesClaim h _ said k = Says told.Stepped h said k

abbrev pub Settles : RebuildState → RebuildIntent → Reply → RebuildTold → RebuildState → Type 0
Settles h intent.Claim answer said k = TakesClaim h answer said k
Settles h intent.Rebuilt answer said k = Says told.Rebuilt (given_up h) said k
Settles h intent.Unclaim answer said k = Says told.Unclaimed (given_up h) said k
Settles h _ answer said k = Says told.Stepped h said k
