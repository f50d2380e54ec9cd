use Rattle.std.proofs.Common.{◌≡◌, ◌+◌, ◌≤◌, [], ◌∷◌, ◌++◌, length, map, vec_capacity, sym, ap, ◌∙◌, arith}
use mathlib.Core.List.{reverse}
use Rattle.std.proofs.lemmas.List.{length_push}
use Rattle.group_threads.proofs.Staffed.{put_back}
use Rattle.group_threads.proofs.phase.dismiss.Goals as goal

pub loop-errand-preserved : goal.loop-errand-preserved
loop-errand-preserved g c =
    let w = c.in-Some.errand in
    let before = c.loop-errand.desks.items in
    let rest = c.pop.new.self.items in
    let more : length c.push_reserved.new.self.items ≡ length before + 1 = ap length c.push_reserved.ensures.items ∙ length_push before c.into_desk.result in
    let less : length c.loop-errand.errands.items ≡ length rest + 1 = ap length c.in-Some.ensures.items ∙ length_push rest w in
    let room : vec_capacity c.push_reserved.new.self ≡ vec_capacity c.loop-errand.desks = c.push_reserved.ensures.capacity in
    let fits : length before + length c.loop-errand.errands.items ≤ vec_capacity c.loop-errand.desks = c.loop-errand.invariant.1 in
    let all : length c.push_reserved.new.self.items + length rest ≤ vec_capacity c.push_reserved.new.self = omega (arith, more, less, room, fits) in (
      put_back (λ x. x.worker.desk) c.args.errands.items c.loop-errand.errands.items rest before w c.loop-errand.invariant.0 c.in-Some.ensures.items
          ∙ (ap (λ d. (before ++ d ∷ []) ++ map (λ x. x.worker.desk) (reverse rest)) (sym c.into_desk.ensures)
          ∙ ap (λ l. l ++ map (λ x. x.worker.desk) (reverse rest)) (sym c.push_reserved.ensures.items)),
      all,
    )
