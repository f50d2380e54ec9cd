-- Given out again: what the crates above take from those below this one.
pub use Rattle.member_intents.specs.declared.intent.Intent.{Intent}
pub use Rattle.member_intents.specs.declared.outcome.Answered.{Answered}
pub use Rattle.member_intents.specs.declared.intent.Frames.{Frames}
pub use Rattle.member_intents.specs.declared.intent.Intent.TheVariants as intent_variants
pub use Rattle.member_intents.specs.declared.outcome.Answered.TheVariants as answered_variants
pub use Rattle.member_marks.specs.State.{MarksState, with_kept, slot_tran, slot_id, tran_of}
pub use Rattle.member_marks.specs.Claims.{offered, is_for_agents, may_enter_page, PageEntered, after_enter, enter_told, after_release_of, released_told, after_release_page, after_end_of}
pub use Rattle.member_marks.specs.Frames.{frame_in, after_registered, after_marked, after_filled, after_written, after_unregister, is_placed}
pub use Rattle.member_marks.specs.Records.{after_change, after_system, after_undo, after_commit, back_record, both_fit, commit_record, ended_record, fits_in, is_at_row, may_back, row_record, may_change, may_undo_as}
pub use Rattle.member_marks.specs.declared.trial.Trial.{Trial}
pub use Rattle.member_marks.specs.declared.trial.Trial.TheVariants as trial_variants
pub use Rattle.member_marks.specs.Names.{without_name}
