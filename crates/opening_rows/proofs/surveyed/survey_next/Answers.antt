use Rattle.opening_rows.proofs.Steps.{surveyed_on}
use Rattle.opening_rows.proofs.surveyed.survey_next.Goals as goal

pub returns-clause-surveyed : goal.returns-clause-surveyed
returns-clause-surveyed g c =
    surveyed_on _ _ _ _ c.args.n c.member_behind.result _ _ c.in_ok-found.found _ _ _ _ _ c.requires.member c.member_behind.ensures c.in_ok-found.ensures c.in_ok-put.ensures.ends c.in_ok-put.ensures.had
