use Rattle.told_pages.proofs.runs_tell.Goals as goal
use Rattle.told_pages.proofs.Failing.{fails}
use Rattle.told_pages.proofs.Runs.{starts, quiet, draws, appends}

pub returns : goal.returns
returns c =
    let pages = c.coherent_pages.ensures in
    let logs = c.logs_tell.ensures in
    let buffers = c.buffers_tell.ensures in
    record { start = starts logs.start; quiet = quiet logs.told pages.step; draws = draws logs.told pages.step logs.logs buffers.draws; appends = appends logs.told pages.step pages.run logs.logs buffers.forces; fails = fails logs.told pages.step pages.run logs.logs buffers.forces }
