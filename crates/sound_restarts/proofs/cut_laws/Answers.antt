use Rattle.sound_restarts.proofs.Cutting.{same_records, cut_keeps}
use Rattle.sound_restarts.proofs.cut_laws.Goals as goal

pub returns-clause-same : goal.returns-clause-same
returns-clause-same c = same_records c.append_laws.ensures.same

pub returns-clause-cut : goal.returns-clause-cut
returns-clause-cut c = cut_keeps c.whole_laws.ensures.cut (same_records c.append_laws.ensures.same)
