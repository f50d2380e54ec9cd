-- Given out again: what the crates above take from those below this one.
pub use Rattle.page_groups.specs.Falls.{Fallen, AreDrawnTo, FallsTo, GroupsFall, remains}
pub use Rattle.lock_events.specs.Quiet.{CommandsStay, is_quiet}
pub use Rattle.page_members.specs.Members.{Group, SameOthers, Shows, FailuresGo, GroupGoes, RestartsGo, ToldGoes, IsRecorded, OthersStayUp, page_named, page_taken, Beside, EventGoes, Leads}
pub use Rattle.page_intents.specs.Castouts.{cast_of, HasCast, LeavesMember}
pub use Rattle.page_intents.specs.Numbers.{AreNumbered as PagesNumbered}
pub use Rattle.page_intents.specs.Stands.{copy_in, copy_of, AreBehind, IsUp}
pub use Rattle.group_member.specs.Members.{Member, member_of}
pub use Rattle.group_member.specs.Happening.{Restarts, Makes, Breaks, Steps, GoesOn, HandsOver, RestartEnds, RestartGoesOn, Takes, Tells, as_restarting, Acts, Comes, RebuildEnds, RebuildGoesOn, as_rebuilding, Rebuilds}
pub use Rattle.group_member.specs.declared.stepped.Stepped.{Stepped}
pub use Rattle.group_member.specs.Stepping.{is_over, has_failed, is_failure, is_fail}
pub use Rattle.group_member.specs.declared.restarting.Restarting.{Restarting as RestartHeld}
pub use Rattle.group_member.specs.Resting.{frees_claimed, changes_locks, touches_pages}
pub use Rattle.group_member.specs.Entering.{told_once, Enters}
pub use Rattle.group_member.specs.declared.part.MemberPart.{MemberPart}
pub use Rattle.member_resources.specs.Events.{Drive, World as Resources, world_of, Happens, Runs, holder_in}
pub use Rattle.member_resources.specs.Held.{Held, begun}
pub use Rattle.member_resources.specs.Settled.{kept_of}
pub use Rattle.needs_law.specs.Lawful.{SendsLawfully, Lawful, MayClaim}
pub use Rattle.page_policies.specs.Locals.{OwnClaimsStay}
pub use Rattle.group_member.specs.declared.rebuilding.Rebuilding.{Rebuilding}
pub use Rattle.member_resources.specs.Prepared.{HasSpare, Reserves, setting_of, is_holder}
pub use Rattle.member_resources.specs.Lending.{lent_bytes, lent_of}
pub use Rattle.member_effects.specs.declared.told.Told.{Told}
pub use Rattle.member_effects.specs.Claims.{Claims as SettlesClaims}
pub use Rattle.member_needs.specs.declared.needs.Setting.{Setting}
pub use Rattle.member_needs.specs.declared.plans.Plan.{Plan}
pub use Rattle.member_needs.specs.Castout.{done as cast_done}
pub use Rattle.group_member.specs.declared.stepped.Stepped.TheVariants as stepped_variants
