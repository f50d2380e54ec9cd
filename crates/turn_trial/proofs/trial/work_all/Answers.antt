use Rattle.std.proofs.Common.{rules, ◌≡◌, ◌+◌, ◌<◌, length, slice_index_or, sym, ap, ◌∙◌, subst, arith}
use Rattle.turn_trial.specs.Fresh.{IsFresh}
use Rattle.turn_trial.proofs.Seats.{fresh_at, all_of}
use Rattle.turn_trial.proofs.trial.work_all.Goals as goal

pub for_each_mut-requires-send-T : goal.for_each_mut-requires-send-T
unfolding types.Keyed.entry denote.Memory.part_of
for_each_mut-requires-send-T g c κs within = search rules

pub for_each_mut-requires-clause-accepts : goal.for_each_mut-requires-clause-accepts
for_each_mut-requires-clause-accepts g c κs within i p less is =
    let z = c.args.turn.now.id in
    let n = length c.args.seats.now in
    let few : n < 64 = c.requires.range.1 in
    let at = fresh_at z 1 n i p.now less in
    (omega arith, c.requires.range.2, subst (IsFresh z (i + 1)) (ap (λ l. slice_index_or l i p.now) (sym c.requires.fresh) ∙ sym is) at)

pub returns : goal.returns
returns g c =
    let z = c.args.turn.now.id in
    let same : length c.for_each_mut.new.s ≡ length c.args.seats.now = search rules in (
      all_of z c.for_each_mut.new.s (λ i d less. let h = (c.for_each_mut.ensures i d (subst (λ n. i < n) same less)).1 in ap (λ s. s.turn) (sym h.left) ∙ h.call),
      same,
    )
