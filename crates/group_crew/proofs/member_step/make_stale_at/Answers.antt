use Rattle.std.proofs.Common.{◌-◌, ◌<◌, length, refl, arith}
use Rattle.group_crew.specs.States.{known_by}
use Rattle.group_crew.proofs.Parts.{map_set}
use Rattle.group_crew.proofs.member_step.make_stale_at.Goals as goal

pub returns-then-at-parts-clause-known : goal.returns-then-at-parts-clause-known
returns-then-at-parts-clause-known g c =
    let within : c.number.result - 1 < length c.args.parts.now = omega arith in
    map_set (known_by {P = g.row.P.Denot}) c.args.parts.now (c.number.result - 1) c.index-parts-at.result _ within refl
