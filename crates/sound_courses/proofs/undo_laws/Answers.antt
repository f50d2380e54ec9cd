use Rattle.sound_courses.proofs.Undoing.{UndoLaws, undo_begins, closing_goes, undo_reads, undo_appends, undo_writes}
use Rattle.sound_courses.proofs.undo_laws.Goals as goal

pub returns : goal.returns
returns c =
    let l : UndoLaws = record {
      appends = record { whole = c.whole_laws.ensures.append; all = c.stop_laws.ensures.all; stop = c.stop_laws.ensures.stop };
      meets = c.table_laws.ensures.meets;
      keeps = c.redo_laws.ensures.last;
      makes = c.undo_laws.ensures.makes;
      others = c.undo_laws.ensures.others;
      unmerged = c.undo_laws.ensures.unmerged;
      reads = c.undo_laws.ensures.reads;
      fits = c.course_laws.ensures.undo;
    } in
    record { begins = undo_begins; closing = closing_goes l; reads = undo_reads l; appends = undo_appends l; writes = undo_writes l }
