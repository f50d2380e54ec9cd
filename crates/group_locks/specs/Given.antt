-- Given out again: what the crates above take from those below this one.
pub use Rattle.lock_members.specs.Known.{LeadsTo, known_of, or_else, restart_claim, KnowsOwn}
pub use Rattle.lock_members.specs.Members.{FailuresGo, MemberIsUp, StepsGo}
pub use Rattle.group_core.specs.Given.{CrewState}
