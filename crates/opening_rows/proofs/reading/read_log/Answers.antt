use Rattle.std.proofs.Common.{◌∙◌, ◌≤◌, sym, ap, subst, arith}
use Rattle.log_head.specs.Heads.{HeadState}
use Rattle.opening_rows.proofs.Told.{err_on}
use Rattle.opening_rows.proofs.ReadOn.{read_starts, read_goes, read_ends}
use Rattle.opening_rows.proofs.reading.read_log.Goals as goal

pub loop-more-init : goal.loop-more-init
loop-more-init g c =
    let s = read_starts _ _ _ _ c.args.member c.in_ok-length.length c.new-head.result _ _ c.nothing-taken.result c.in_ok-length.ensures c.new-head.ensures c.nothing-taken.ensures in
    (s.0, s.1, ap (λ (h : HeadState). h.end) c.new-head.ensures, subst (λ (h : HeadState). h.at ≤ h.end) (sym c.new-head.ensures) (omega arith))

pub loop-more-preserved : goal.loop-more-preserved
loop-more-preserved g c =
    let past = c.in_ok-more.ensures.past in (
      read_goes _ _ _ _ _ _ c.args.member c.in_ok-length.length c.loop-more.head c.take_next.new.head _ _ c.loop-more.taken c.take_next.new.taken c.loop-more.more c.in_ok-more.more c.loop-more.invariant.0 c.in_ok-more.ensures.taken,
      past.sound,
      past.end_is ∙ c.loop-more.invariant.2,
      past.within,
    )

pub returns-in_err-more : goal.returns-in_err-more
returns-in_err-more g c =
    err_on _ _ _ _ _ _ _ _ c.loop-more.more _ _ _ _ c.in_err-more.field-0.0 c.from_residual-in_err-more.result c.from_residual-in_err-more.ensures.1 c.loop-more.invariant.0 c.in_err-more.ensures.taken
    (λ m at x p q. q p.1.read)

pub returns : goal.returns
returns g c = read_ends c.whole_laws.ensures.ends _ _ _ _ c.args.member c.in_ok-length.length c.loop-more.head _ _ _ c.loop-more.more _ c.loop-more.invariant.0 c.loop-more-test.false (cc) (cc)
