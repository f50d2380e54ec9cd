use Rattle.std.proofs.Common.{◌≡◌, ◌⊎◌, ℕ, [], ◌∷◌, sym, ap, ◌∙◌, subst}
use Rattle.turn_gate.specs.Ruled.{sits}
use Rattle.turn_gate.specs.Seated.{sole_seat}
use Rattle.turn_gate.specs.Turns.{IfRan, IfRefused, is_refused, Follows, HasRun}
use Rattle.turn_gate.proofs.Reaches.{ran_then}
use Rattle.turn_gate.proofs.seat.Seat.take_turn.Goals as goal

pub run_in_turn-turned-requires-clause-idle : goal.run_in_turn-turned-requires-clause-idle
run_in_turn-turned-requires-clause-idle g c =
    let k = c.args.self.now.knows in
    (k, c.self.invariant ∙ ap (λ s. (sits (s.knows ∷ []), [])) c.self.view_is, c.requires.mine, c.requires.part)

pub invariant_of-self : goal.invariant_of-self
invariant_of-self g c =
    let b = g.M.Machine.start c.self.inside.about.value.value in
    let done = c.run_in_turn-turned.ensures.done c.args.self.now.knows (c.self.invariant ∙ ap (λ s. (sits (s.knows ∷ []), [])) c.self.view_is) in
    done.1 ∙ ap (λ m. (sits (sole_seat b m.0.seats ∷ []), [])) (sym done.1)

pub returns-clause-knows : goal.returns-clause-knows
returns-clause-knows g c =
    let b = g.M.Machine.start c.self.inside.about.value.value in
    let done = c.run_in_turn-turned.ensures.done c.args.self.now.knows (c.self.invariant ∙ ap (λ s. (sits (s.knows ∷ []), [])) c.self.view_is) in
    subst (Follows c.args.self.now.knows) (ap (λ m. sole_seat b m.0.seats) (sym done.1)) done.2

pub returns-clause-ended : goal.returns-clause-ended
returns-clause-ended g c =
    let b = g.M.Machine.start c.self.inside.about.value.value in
    let done = c.run_in_turn-turned.ensures.done c.args.self.now.knows (c.self.invariant ∙ ap (λ s. (sits (s.knows ∷ []), [])) c.self.view_is) in
    subst (λ q. q.ended ≡ is_refused c.run_in_turn-turned.result) (ap (λ m. sole_seat b m.0.seats) (sym done.1)) done.3

pub returns-clause-ran : goal.returns-clause-ran
returns-clause-ran g c =
    let M = g.M.Machine in
    let b = M.start c.self.inside.about.value.value in
    let old = c.args.self.now.knows in
    let done = c.run_in_turn-turned.ensures.done old (c.self.invariant ∙ ap (λ s. (sits (s.knows ∷ []), [])) c.self.view_is) in
    subst (λ q. IfRan c.run_in_turn-turned.result (λ place. HasRun M.event_of old q c.args.event place)) (ap (λ m. sole_seat b m.0.seats) (sym done.1)) (ran_then c.run_in_turn-turned.result _ _ (λ place h. h.0) done.4)

pub returns-clause-part : goal.returns-clause-part
returns-clause-part g c =
    let M = g.M.Machine in
    let b = M.start c.self.inside.about.value.value in
    let old = c.args.self.now.knows in
    let done = c.run_in_turn-turned.ensures.done old (c.self.invariant ∙ ap (λ s. (sits (s.knows ∷ []), [])) c.self.view_is) in
    subst (λ q. IfRan c.run_in_turn-turned.result (λ place. M.parted q.caller c.run_in_turn-turned.new.part q.start q.seen)) (ap (λ m. sole_seat b m.0.seats) (sym done.1)) (ran_then c.run_in_turn-turned.result _ _ (λ place h. h.1) done.4)

pub returns-clause-refused : goal.returns-clause-refused
returns-clause-refused g c =
    let M = g.M.Machine in
    let b = M.start c.self.inside.about.value.value in
    let old = c.args.self.now.knows in
    let done = c.run_in_turn-turned.ensures.done old (c.self.invariant ∙ ap (λ s. (sits (s.knows ∷ []), [])) c.self.view_is) in
    subst (λ q. IfRefused c.run_in_turn-turned.result (((q.own ≡ old.own) × (c.run_in_turn-turned.new.part ≡ c.args.part.now)) ⊎ ((place : ℕ) × HasRun M.event_of old q c.args.event place))) (ap (λ m. sole_seat b m.0.seats) (sym done.1)) done.5

pub returns-clause-lasts : goal.returns-clause-lasts
returns-clause-lasts g c =
    let done = c.run_in_turn-turned.ensures.done c.args.self.now.knows (c.self.invariant ∙ ap (λ s. (sits (s.knows ∷ []), [])) c.self.view_is) in
    done.6
