-- What a member is made of, given out again for the lemmas that the types of a group may go to other threads.
pub use Rattle.member_resources.specs.contracts.resources.Resources as Resources
