-- Given out again: what the crates above take from those below this one.
pub use Rattle.group_pages.specs.Events.{PageMoves}
pub use Rattle.group_pages.specs.Given.{AreDrawnTo, Drive, Fallen, HasCast, Held, IsUp, LocksTied, Member, MemberStands, OwnInX, PagesNumbered, Shows, kept_of}
pub use Rattle.group_pages.specs.Stands.{CrewPages, HoldsPages, MemberPages, PagesTied, UpPages}
