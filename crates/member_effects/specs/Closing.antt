-- Locks that were given up, records that were freed, and transactions that have ended.
use Rattle.std.specs.Prelude.{Option, Some, None}
use Rattle.ds_base.specs.declared.names.PageId.{PageId}
use Rattle.ds_model.specs.declared.lock.Name.{Name}
use Rattle.lock_names.specs.declared.mode.Interest.{Interest}
use Rattle.facility.specs.declared.command.Reply.{Reply}
use Rattle.facility.specs.declared.command.Reply.TheVariants as reply
use Rattle.member_trans.specs.declared.fate.Owner.{Owner}
use Rattle.member_needs.specs.Given.{without_name}
use Rattle.member_needs.specs.Given.{MarksState, with_kept}
use Rattle.member_needs.specs.Given.{after_release_of, released_told as given_up, after_release_page, after_end_of}
use Rattle.member_effects.specs.declared.told.Told.{Told}
use Rattle.member_effects.specs.declared.told.Told.TheVariants as told

abbrev pub released_after : MarksState → Owner → Reply → MarksState
released_after s o reply.Done = after_release_of s o
released_after s o _ = s

abbrev pub released_name : Option (Name × Interest) → Option Name
released_name None = None
released_name (Some x) = Some x.0

abbrev pub released_told : MarksState → Owner → Reply → Told
released_told s o reply.Done = told.Released (released_name (given_up s o))
released_told s o _ = told.Stepped

abbrev pub page_released_after : MarksState → PageId → Reply → MarksState
page_released_after s page reply.Done = after_release_page s page
page_released_after s page _ = s

abbrev pub page_released_told : Reply → Told
page_released_told reply.Done = told.Released None
page_released_told _ = told.Stepped

-- the record is known as retained no more
abbrev pub purged_after : MarksState → Name → Reply → MarksState
purged_after s n reply.Done = with_kept s (without_name s.kept n)
purged_after s n _ = s

abbrev pub purged_told : Reply → Told
purged_told reply.Done = told.Purged
purged_told _ = told.Stepped

abbrev pub ended_after : MarksState → Owner → Reply → MarksState
ended_after s o reply.Done = after_end_of s o
ended_after s o _ = s

abbrev pub ended_told : Reply → Told
ended_told reply.Done = told.Ended
ended_told _ = told.Stepped
