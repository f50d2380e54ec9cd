-- How a run of events has ended.
use Rattle.std.specs.Prelude.{◌≡◌, ℕ, Bool, true, false}
use Rattle.group_core.specs.declared.group.Group.{Group}
use Rattle.group_core.specs.declared.schedule.RunEnd.{RunEnd}
use Rattle.group_core.specs.declared.schedule.RunEnd.TheVariants as ends
use Rattle.group_core.specs.Events.{TakesNone, is_over, takes}

-- how the run stands: it is over; it isn't, and no event is ready; or an event is ready
abbrev pub Ends : {C D P : Type 0} → RunEnd → Group D C P → Type 0
Ends {C} {D} {P} ends.Over group = is_over group ≡ true
Ends {C} {D} {P} ends.Stalled group = (is_over group ≡ false) × TakesNone group
Ends {C} {D} {P} ends.Spent group = (is_over group ≡ false) × ((event : ℕ) × (takes group event ≡ true))
