use Rattle.std.proofs.Common.{rules, [], ◌∷◌, Some, ap, ◌∙◌}
use Rattle.atomic_table.specs.Table.{rest}
use Rattle.turn_gate.specs.Known.{hears}
use Rattle.turn_gate.specs.Ruled.{sits, holder}
use Rattle.turn_gate.specs.Told.{Good, ended_of}
use Rattle.turn_gate.proofs.Moves.{passes}
use Rattle.turn_gate.proofs.steps.pass.Goals as goal

pub fetch_add-requires : goal.fetch_add-requires
fetch_add-requires g c =
    let M = g.M.Machine in
    let v = c.requires.value in
    let me = c.args.place.now.me in
    (search rules, search rules, passes (Good M.event_of M.start M.story M.sound) ended_of (λ x. M.caller (M.event_of x)) _ _ _ _ me _ v.0 (Some v.1) (ap (λ m. m.0) v.2 ∙ ap (holder me.0.ticket) v.3) (ap (λ m. m.1) v.2) v.4 v.5)

pub returns-clause-idle : goal.returns-clause-idle
returns-clause-idle g c k y has seats =
    let slot = ap (λ m. m.1) has in
    c.fetch_add.ensures.2 k (Some y) seats slot ∙ ap (λ l. (sits (hears y.ended k ∷ []), rest l)) slot
