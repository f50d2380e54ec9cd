use Rattle.page_restarts.proofs.hands_brought_forward.Goals as goal
use Rattle.page_restarts.proofs.Bringing.{bring_goes, reads_on, tests_on}

pub returns : goal.returns
returns c =
    let good = c.coherent_pages.ensures.run in
    let bring = bring_goes c.forwards_go.ensures.forward in
    record { bring = bring; read = reads_on good c.keeps_entries_apart.ensures.read c.reads_go.ensures.read bring; test = tests_on good c.forwards_go.ensures.test bring }
