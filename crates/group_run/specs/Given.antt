-- Given out again: what a crate above takes from those below this one.
pub use Rattle.checked_run.specs.declared.account.Account.{Account}
pub use Rattle.checked_run.specs.declared.ended.Ended.{Ended}
pub use Rattle.checked_run.specs.declared.ended.Ended.TheVariants as ended
pub use Rattle.checked_run.specs.Leading.{Came, ComesTo, Kind, Leads, RunEnd, kind_of}
pub use Rattle.checked_run.specs.Outcomes.{RunFault}
pub use Rattle.member_core.specs.declared.member.Member.{Member as AnyMember}
