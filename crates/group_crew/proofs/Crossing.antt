-- What a crew is made of, given out again for the lemmas that the types of a group may go to other threads.
pub use Rattle.checkpoint_reader.proofs.ends.KnownEnds.TheSendSync.{the_send as known_ends}
pub use Rattle.group_member.proofs.rebuilding.Rebuilding.TheSendSync.{the_send as rebuilding}
pub use Rattle.group_member.proofs.restarting.Restarting.TheSendSync.{the_send as restarting}
pub use Rattle.group_member.proofs.sizes.GroupSizes.TheSendSync.{the_field_send as sizes_field}
pub use Rattle.group_member.proofs.Crossing.Resources as Resources
pub use Rattle.group_member.specs.contracts.part.MemberPart as MemberPart
