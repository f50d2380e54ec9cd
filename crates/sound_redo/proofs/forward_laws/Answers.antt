use Rattle.ds_disk.specs.Pages.{page_at}
use Rattle.page_format.specs.Fields.{lrsn_at, width_in}
use Rattle.page_images.specs.Images.{zeros}
use Rattle.sound_disk.specs.Versions.{merged}
use Rattle.sound_redo.proofs.Forwards.{redo_finds_nothing}
use Rattle.sound_redo.proofs.forward_laws.Goals as goal

pub returns : goal.returns
returns c = λ d logs id h new.
    redo_finds_nothing
    (record {
      grows = c.chain_laws.ensures.grows;
      others = c.chain_laws.ensures.others;
      number = c.redo_laws.ensures.number;
      zero = c.header_laws.ensures.zeros.3 lrsn_at (width_in zeros);
    })
    id (page_at d.pages id) (merged logs) (c.page_laws.ensures.merged d.logs logs h.whole_logs h.transactions) h.tables.befores (h.versions id).header (h.versions id).version new
