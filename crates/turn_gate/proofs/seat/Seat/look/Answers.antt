use Rattle.std.proofs.Common.{◌≡◌, [], ◌∷◌, false, true, sym, ap, ◌∙◌, subst}
use Rattle.turn_gate.specs.declared.answer.Look.TheVariants as looked
use Rattle.turn_gate.specs.Ruled.{sits}
use Rattle.turn_gate.specs.Seated.{sole_seat}
use Rattle.turn_gate.specs.Turns.{Follows}
use Rattle.turn_gate.proofs.seat.Seat.look.Goals as goal

pub look_in_turn-found-requires-clause-idle : goal.look_in_turn-found-requires-clause-idle
look_in_turn-found-requires-clause-idle g c =
    let k = c.args.self.now.knows in
    (k, c.self.invariant ∙ ap (λ s. (sits (s.knows ∷ []), [])) c.self.view_is, c.requires.part)

pub invariant_of-self : goal.invariant_of-self
invariant_of-self g c =
    let b = g.M.Machine.start c.self.inside.about.value.value in
    let done = c.look_in_turn-found.ensures.done c.args.self.now.knows (c.self.invariant ∙ ap (λ s. (sits (s.knows ∷ []), [])) c.self.view_is) in
    done.1 ∙ ap (λ m. (sits (sole_seat b m.0.seats ∷ []), [])) (sym done.1)

pub returns-clause-knows : goal.returns-clause-knows
returns-clause-knows g c =
    let b = g.M.Machine.start c.self.inside.about.value.value in
    let done = c.look_in_turn-found.ensures.done c.args.self.now.knows (c.self.invariant ∙ ap (λ s. (sits (s.knows ∷ []), [])) c.self.view_is) in
    subst (Follows c.args.self.now.knows) (ap (λ m. sole_seat b m.0.seats) (sym done.1)) done.2

pub returns-clause-own : goal.returns-clause-own
returns-clause-own g c =
    let b = g.M.Machine.start c.self.inside.about.value.value in
    let done = c.look_in_turn-found.ensures.done c.args.self.now.knows (c.self.invariant ∙ ap (λ s. (sits (s.knows ∷ []), [])) c.self.view_is) in
    subst (λ q. q.own ≡ c.args.self.now.knows.own) (ap (λ m. sole_seat b m.0.seats) (sym done.1)) done.3

pub returns-clause-over : goal.returns-clause-over
returns-clause-over g c =
    let b = g.M.Machine.start c.self.inside.about.value.value in
    let done = c.look_in_turn-found.ensures.done c.args.self.now.knows (c.self.invariant ∙ ap (λ s. (sits (s.knows ∷ []), [])) c.self.view_is) in
    subst (λ q. q.ended ≡ true → c.look_in_turn-found.result ≡ looked.Over) (ap (λ m. sole_seat b m.0.seats) (sym done.1)) done.4

pub returns-clause-answer : goal.returns-clause-answer
returns-clause-answer g c =
    let b = g.M.Machine.start c.self.inside.about.value.value in
    let done = c.look_in_turn-found.ensures.done c.args.self.now.knows (c.self.invariant ∙ ap (λ s. (sits (s.knows ∷ []), [])) c.self.view_is) in
    subst (λ q. q.ended ≡ false → g.M.Machine.answers q.start q.seen c.args.part.now c.args.from c.look_in_turn-found.result) (ap (λ m. sole_seat b m.0.seats) (sym done.1)) (λ lasts. (done.5 lasts).0)

pub returns-clause-part : goal.returns-clause-part
returns-clause-part g c =
    let b = g.M.Machine.start c.self.inside.about.value.value in
    let done = c.look_in_turn-found.ensures.done c.args.self.now.knows (c.self.invariant ∙ ap (λ s. (sits (s.knows ∷ []), [])) c.self.view_is) in
    subst (λ q. q.ended ≡ false → g.M.Machine.parted q.caller c.args.part.now q.start q.seen) (ap (λ m. sole_seat b m.0.seats) (sym done.1)) (λ lasts. (done.5 lasts).1)
