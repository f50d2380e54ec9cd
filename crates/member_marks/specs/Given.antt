-- Given out again: what the crates above take from those below this one.
pub use Rattle.member_log.specs.Buffers.{room_of, is_above}
pub use Rattle.member_pool.specs.Frames.{find_page}
pub use Rattle.member_pool.specs.declared.frame.Frame.{Frame}
pub use Rattle.member_pool.specs.Heads.{is_first_to_write}
