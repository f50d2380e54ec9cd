use Rattle.std.proofs.Common.{rules, [], ◌∷◌, Some, ap, ◌∙◌}
use Rattle.turn_gate.specs.Known.{adds}
use Rattle.turn_gate.specs.Ruled.{holder}
use Rattle.turn_gate.specs.Told.{Good, ended_of}
use Rattle.turn_gate.proofs.Moves.{raises}
use Rattle.turn_gate.proofs.Takes.{functional, counted}
use Rattle.turn_gate.proofs.steps.raise.Goals as goal

pub store-requires : goal.store-requires
store-requires g c =
    let M = g.M.Machine in
    let v = c.requires.value in
    let me = c.args.place.now.me in
    let more = counted M.event_of M.start M.story M.sound v.2 v.0.start v.0.seen v.1 _ v.7 v.8 in
    (search rules, search rules, raises (Good M.event_of M.start M.story M.sound) ended_of (λ x. M.caller (M.event_of x)) _ _ _ _ me _ v.0 v.1 (Some v.2) _ (functional M.event_of M.start M.story M.sound) (ap (λ m. m.0) v.3 ∙ ap (holder me.0.ticket) v.4) (ap (λ m. m.1) v.3) v.7 v.5 v.6 more)

pub returns-clause-seen : goal.returns-clause-seen
returns-clause-seen g c k e y has seats whose good =
    let slot = ap (λ m. m.1) has in
    c.store.ensures.2 k e (Some y) whose seats slot good ∙ ap (λ l. (holder c.args.place.now.me.0.ticket (adds e k ∷ []), l)) slot
