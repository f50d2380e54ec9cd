use Rattle.std.proofs.Common.{rules, ◌≡◌, suc, ◌+◌, ◌≤◌, ◌++◌, length, map, vec_capacity, sym, ap, subst, ◌∙◌, arith}
use Rattle.std.specs.Arc.{arc_value}
use Rattle.std.proofs.lemmas.List.{length_push}
use mathlib.Core.List.{reverse}
use Rattle.group_threads.specs.Errands.{StandAt}
use Rattle.group_threads.proofs.Staffed.{put_first}
use Rattle.group_threads.proofs.Handed.{stand_more}
use Rattle.group_threads.proofs.phase.staff.Goals as goal

pub loop-desk-preserved : goal.loop-desk-preserved
loop-desk-preserved g c =
    let z = arc_value c.args.stage.now in
    let rest = c.pop.new.self.items in
    let less : length c.loop-desk.desks.items ≡ length rest + 1 = ap length c.in-Some.ensures.items ∙ length_push rest c.in-Some.desk in
    let count : c.len.result ≡ length rest = search rules in
    let number : c.len.result + 1 ≡ length rest + 1 = omega (arith, count) in
    let next : length c.loop-desk.desks.items + 1 ≡ suc (length rest + 1) = omega (arith, less) in
    let more : length c.push_reserved.new.self.items ≡ length c.loop-desk.errands.items + 1 = ap length c.push_reserved.ensures.items ∙ length_push c.loop-desk.errands.items _ in
    let room : vec_capacity c.push_reserved.new.self ≡ vec_capacity c.loop-desk.errands = c.push_reserved.ensures.capacity in
    let fits : length c.loop-desk.desks.items + length c.loop-desk.errands.items ≤ vec_capacity c.loop-desk.errands = c.loop-desk.invariant.1 in
    let all : length rest + length c.push_reserved.new.self.items ≤ vec_capacity c.push_reserved.new.self = omega (arith, less, more, room, fits) in (
      subst (λ l. c.args.desks.now.items ≡ rest ++ map (λ e. e.worker.desk) (reverse l)) (sym c.push_reserved.ensures.items)
          (put_first (λ e. e.worker.desk) _ _ rest c.loop-desk.errands.items _ c.in-Some.desk c.loop-desk.invariant.0 c.in-Some.ensures.items c.new.ensures),
      all,
      c.in-Some.ensures.capacity ∙ c.loop-desk.invariant.2,
      subst (λ l. StandAt z (length rest + 1) (reverse l)) (sym c.push_reserved.ensures.items)
          (stand_more z (length rest + 1) (length c.loop-desk.desks.items + 1) c.loop-desk.errands.items _ number c.share.ensures next c.loop-desk.invariant.3),
    )

pub returns-clause-stage : goal.returns-clause-stage
returns-clause-stage g c =
    let z = arc_value c.args.stage.now in
    let none : length c.loop-desk.desks.items + 1 ≡ 1 = omega (arith, c.in_default.ensures.cases) in
    subst (λ l. StandAt z 1 l) (sym c.reverse.ensures.items) (subst (λ n. StandAt z n (reverse c.loop-desk.errands.items)) none c.loop-desk.invariant.3)
