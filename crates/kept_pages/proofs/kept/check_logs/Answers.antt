use Rattle.std.proofs.Common.{ℕ, ◌+◌, refl, arith}
use Rattle.kept_pages.proofs.Members.{member_is}
use Rattle.kept_pages.proofs.Telling.{keep_starts, keep_goes, keep_stops, keep_ends}
use Rattle.kept_pages.proofs.kept.check_logs.Goals as goal

pub loop-index-init : goal.loop-index-init
loop-index-init g c = keep_starts _ _ c.args.ends.now

pub loop-index-preserved : goal.loop-index-preserved
loop-index-preserved g c =
    keep_goes c.whole_laws.ensures.parts c.log_laws.ensures.read _ _ _ _ _ _ c.args.ends.now c.loop-index.index c.in-Some.member _ c.loop-index.first c.in-Fits.page c.in_ok-at.field-0 c.requires.ends (omega arith)
    (member_is c.new.result (c.loop-index.index + 1) c.in-Some.member c.new.ensures (cc)) refl c.in-Fits.is c.loop-index.invariant c.in_ok-at.ensures

pub returns-in-Bad : goal.returns-in-Bad
returns-in-Bad g c =
    keep_stops c.whole_laws.ensures.parts c.log_laws.ensures.read _ _ _ _ _ _ c.args.ends.now c.loop-index.index c.in-Some.member _ c.in-Bad.at c.loop-index.first c.in_ok-at.field-0 c.requires.ends (omega arith)
    (member_is c.new.result (c.loop-index.index + 1) c.in-Some.member c.new.ensures (cc)) refl c.in-Bad.is c.loop-index.invariant c.in_ok-at.ensures

pub returns : goal.returns
returns g c = keep_ends c.needs_laws.ensures.met c.needs_laws.ensures.tell _ _ _ _ c.args.ends.now c.loop-index.index c.loop-index.first c.page_spot.result c.requires.ends (omega arith) c.page_spot.ensures c.loop-index.invariant
