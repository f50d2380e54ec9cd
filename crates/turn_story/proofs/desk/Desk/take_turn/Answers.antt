use Rattle.std.proofs.Common.{◌≡◌, sym, ◌∙◌, subst}
use Rattle.std.specs.Prelude.{Some}
use Rattle.turn_gate.proofs.Reaches.{ran_only}
use Rattle.turn_story.specs.Chains.{part_of}
use Rattle.turn_story.specs.Histories.{parts_after}
use Rattle.turn_story.proofs.desk.Desk.take_turn.Goals as goal

pub take_turn-requires-clause-part : goal.take_turn-requires-clause-part
take_turn-requires-clause-part g c lasts =
    let M = g.M.Stepping in
    let s = c.args.self.now.seat in
    let at = c.requires.at in
    let mine = subst (λ b. part_of (parts_after M.caller b.parts.value.items s.knows.seen) s.knows.caller ≡ Some c.args.self.now.part) (sym at.began) (at.part lasts) in
    subst (λ p. part_of (parts_after M.caller s.knows.start.parts.value.items s.knows.seen) s.knows.caller ≡ Some p) (sym c.get_mut.ensures.value) mine

pub returns-clause-at : goal.returns-clause-at
returns-clause-at g c =
    let M = g.M.Stepping in
    let s = c.take_turn.new.self in
    let at = c.requires.at in
    let began = c.take_turn.ensures.knows.start ∙ at.began in
    record {
      turn = c.take_turn.ensures.turn ∙ at.turn;
      began = began;
      part = λ lasts. subst (λ b. part_of (parts_after M.caller b.parts.value.items s.knows.seen) s.knows.caller ≡ Some c.take_turn.new.part) began (ran_only c.take_turn.result _ _ (λ place h. h) c.take_turn.ensures.part (sym c.take_turn.ensures.ended ∙ lasts));
    }
