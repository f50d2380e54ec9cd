use Rattle.fallen_pages.proofs.groups_begin.Goals as goal
use Rattle.fallen_pages.proofs.Anew.{Laws, begins_anew, starts_go}

pub returns : goal.returns
returns c =
    let laws : Laws = record {
      always = c.coherent_pages.ensures.run;
      starts = c.coherent_pages.ensures.start;
      rises = c.groups_begin.ensures.rises;
      begin = c.groups_start.ensures.members;
      in_x = c.pages_in_x.ensures.begin;
      empty = c.keeps_entries_apart.ensures.empty;
    } in
    record { anew = begins_anew laws; starts = starts_go laws }
