use Rattle.std.specs.Prelude.{◌≡◌}
use Rattle.page_format.specs.Fields.{lrsn_of, width_in}
use Rattle.page_images.specs.Images.{zeros}
use Rattle.told_pages.proofs.events_tell.Goals as goal
use Rattle.told_pages.proofs.Events.{Laws, event_tells, told_tells}

pub returns : goal.returns
returns c =
    let none : lrsn_of zeros ≡ 0 = c.header_laws.ensures.zeros.3 16 (width_in zeros) in
    let laws : Laws = record {
      lawful = c.sends_lawfully.ensures;
      puts = c.events_put.ensures;
      stays = c.logs_tell.ensures.told;
      keeps = c.coherent_pages.ensures.step;
      always = c.coherent_pages.ensures.run;
      zero = none;
      quiet = c.runs_tell.ensures.quiet;
      draws = c.runs_tell.ensures.draws;
      appends = c.runs_tell.ensures.appends;
      local = c.resting_puts_none.ensures.local;
    } in
    record { event = event_tells laws; told = told_tells laws }
