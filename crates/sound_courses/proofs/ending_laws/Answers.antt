use Rattle.std.specs.Prelude.{ℕ, ◌==◌}
use Rattle.std.proofs.Common.{ap}
use Rattle.page_format.specs.Fields.{lrsn_at, version_at, width_in}
use Rattle.page_images.specs.Images.{zeros}
use Rattle.sound_courses.proofs.Ending.{EndLaws, ending_begins, ending_goes}
use Rattle.sound_courses.proofs.ending_laws.Goals as goal

pub returns : goal.returns
returns c =
    let l : EndLaws = record {
      appends = record { whole = c.whole_laws.ensures.append; all = c.stop_laws.ensures.all; stop = c.stop_laws.ensures.stop };
      unmerged = c.undo_laws.ensures.unmerged;
      fits = c.course_laws.ensures.ending;
      empty = c.queue_laws.ensures.empty;
      done = c.queue_laws.ensures.done;
      versions = record {
        grows = c.chain_laws.ensures.grows;
        others = c.chain_laws.ensures.others;
        number = c.redo_laws.ensures.number;
        zero = c.header_laws.ensures.zeros.3 lrsn_at (width_in zeros);
        whole = c.front_laws.ensures.all_whole;
        zeros_whole = c.header_laws.ensures.zeros.1;
        zeros_new = ap (λ (n : ℕ). n == 1) (c.header_laws.ensures.zeros.2 version_at);
      };
      orders = c.merging_laws.ensures.orders;
      merged = c.page_laws.ensures.merged;
    } in
    record { begins = ending_begins; goes = ending_goes l }
