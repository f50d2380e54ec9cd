use Rattle.std.specs.BTreeSet as set
use Rattle.std.specs.Ordering.{nat_cmp}
use Rattle.opening_rows.proofs.Told.{err_on}
use Rattle.opening_rows.proofs.Steps.{survey_starts, survey_ends}
use Rattle.opening_rows.proofs.survey.survey_log.Goals as goal

pub loop-more-init : goal.loop-more-init
loop-more-init g c = survey_starts _ _ _ _ c.args.member c.in_ok-length.length c.new.result _ c.in_ok-length.ensures c.new.ensures

pub returns-in_err-more : goal.returns-in_err-more
returns-in_err-more g c =
    err_on _ _ _ _ _ _ _ _ c.loop-more.more _ _ _ _ c.in_err-more.field-0.0 c.from_residual-in_err-more.result c.from_residual-in_err-more.ensures.1 c.loop-more.invariant.0 c.in_err-more.ensures.passed
    (λ m at x p q. q (set.contains nat_cmp c.args.pending.now) p.passed)

pub returns : goal.returns
returns g c = survey_ends c.whole_laws.ensures.ends _ _ _ _ c.args.member c.loop-more.survey.head _ _ _ _ c.loop-more.more _ c.loop-more.invariant.0 c.loop-more-test.false (cc) (cc)
