-- What a group is made of, given out again for the lemmas that its types may go to other threads.
pub use Rattle.trace_words.proofs.line.Line.TheSendSync.{the_send as line}
pub use Rattle.group_crew.proofs.Crossing.{known_ends, rebuilding, restarting, sizes_field}
pub use Rattle.group_crew.proofs.Crossing.Resources as Resources
pub use Rattle.group_crew.proofs.Crossing.MemberPart as MemberPart
pub use Rattle.group_crew.specs.contracts.crew.Crew as Crew
