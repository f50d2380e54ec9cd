use Rattle.std.proofs.Common.{◌+◌, List, Some, None, refl, arith}
use Rattle.log_record.specs.declared.log.Log.{Log}
use Rattle.disk_spots.specs.declared.spot.Spot.TheVariants as spot
use Rattle.disk_walk.proofs.Whole.{logs_start, logs_more, logs_stop, logs_end}
use Rattle.fitting_records.specs.Sought.{IsPlaceOf}
use Rattle.fitting_records.proofs.Members.{member_is}
use Rattle.fitting_records.proofs.Seeking.{spots, log_by, log_stops}
use Rattle.fitting_records.proofs.spots.find_sought.Goals as goal

pub loop-index-init : goal.loop-index-init
loop-index-init g c = logs_start (spots c.args.drawn c.args.number) _ _ c.args.ends.now 0

pub loop-index-preserved : goal.loop-index-preserved
loop-index-preserved g c =
    let member = member_is c.new.result (c.loop-index.index + 1) c.in-Some.member c.new.ensures (cc) in
    logs_more (spots c.args.drawn c.args.number) c.whole_laws.ensures.parts c.log_laws.ensures.read _ _ _ _ _ _ c.args.ends.now c.loop-index.index c.in-Some.member _ 0 0 0
    (IsPlaceOf c.args.drawn c.args.number) c.in_ok-at.field-0 c.requires.ends (omega arith) member refl
    (λ (log : Log) (rest : List Log) is holds. log_by c.args.drawn c.args.number c.in-Some.member c.in_ok-at.field-0 log rest c.in-None.is is holds) c.loop-index.invariant c.in_ok-at.ensures

pub returns-in-Some-2 : goal.returns-in-Some-2
returns-in-Some-2 g c =
    let member = member_is c.new.result (c.loop-index.index + 1) c.in-Some.member c.new.ensures (cc) in
    logs_stop (spots c.args.drawn c.args.number) c.whole_laws.ensures.parts c.log_laws.ensures.read _ _ _ _ _ _ c.args.ends.now c.loop-index.index c.in-Some.member _ 0 0
    (IsPlaceOf c.args.drawn c.args.number) c.in_ok-at.field-0 (Some (spot.Log c.in-Some.member c.in-Some-2.at)) c.requires.ends (omega arith) member refl
    (λ (log : Log) (rest : List Log) is holds. log_stops c.args.drawn c.args.number c.in-Some.member c.in-Some-2.at c.in_ok-at.field-0 log rest c.in-Some-2.is is holds) c.loop-index.invariant c.in_ok-at.ensures

pub returns : goal.returns
returns g c = logs_end (spots c.args.drawn c.args.number) _ _ _ _ c.args.ends.now c.loop-index.index 0 0 None c.requires.ends (omega arith) refl c.loop-index.invariant
