use Rattle.sound_steps.proofs.Joined.{PartLaws, course_begins}
use Rattle.sound_steps.proofs.Steps.{StepLaws, call_leaves_sound, answer_goes_on}
use Rattle.sound_steps.proofs.Grown.{grown_in, call_grows}
use Rattle.sound_steps.proofs.step_laws.Goals as goal

pub returns : goal.returns
returns c =
    let parts : PartLaws = record {
      cuts = c.bring_laws.ensures.begins;
      undo = c.undo_laws.ensures.begins;
      renewal = c.renewal_laws.ensures.begins;
      reads = c.renewal_laws.ensures.reads;
      writes = c.renewal_laws.ensures.writes;
      ending = c.ending_laws.ensures.begins;
    } in
    let l : StepLaws = record {
      parts = parts;
      cut = c.bring_laws.ensures.cut;
      redo_read = c.bring_laws.ensures.reads;
      redo_write = c.bring_laws.ensures.writes;
      closing = c.undo_laws.ensures.closing;
      undo_read = c.undo_laws.ensures.reads;
      undo_append = c.undo_laws.ensures.appends;
      undo_write = c.undo_laws.ensures.writes;
      ending = c.ending_laws.ensures.goes;
    } in
    record { begins = course_begins parts; leaves = call_leaves_sound l; answer = answer_goes_on l; before = grown_in; grows = call_grows (record { reads = c.log_laws.ensures.sound; cuts = c.whole_laws.ensures.cut }) }
