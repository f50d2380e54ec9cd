use Rattle.std.proofs.Common.{◌≡◌, sym, ◌∙◌, subst}
use Rattle.std.specs.Prelude.{Some}
use Rattle.turn_story.specs.Chains.{part_of}
use Rattle.turn_story.specs.Histories.{value_after, parts_after}
use Rattle.turn_story.proofs.desk.Desk.look.Goals as goal

pub look-requires-clause-part : goal.look-requires-clause-part
look-requires-clause-part g c lasts =
    let M = g.M.Stepping in
    let s = c.args.self.now.seat in
    let at = c.requires.at in
    let mine = subst (λ b. part_of (parts_after M.caller b.parts.value.items s.knows.seen) s.knows.caller ≡ Some c.args.self.now.part) (sym at.began) (at.part lasts) in
    subst (λ p. part_of (parts_after M.caller s.knows.start.parts.value.items s.knows.seen) s.knows.caller ≡ Some p) (sym c.get.ensures) mine

pub returns-clause-at : goal.returns-clause-at
returns-clause-at g c =
    let M = g.M.Stepping in
    let s = c.look.new.self in
    let at = c.requires.at in
    let began = c.look.ensures.knows.start ∙ at.began in
    record {
      turn = c.look.ensures.turn ∙ at.turn;
      began = began;
      part = λ lasts.
          let mine = subst (λ p. part_of (parts_after M.caller s.knows.start.parts.value.items s.knows.seen) s.knows.caller ≡ Some p) c.get.ensures (c.look.ensures.part lasts) in
          subst (λ b. part_of (parts_after M.caller b.parts.value.items s.knows.seen) s.knows.caller ≡ Some c.args.self.now.part) began mine;
    }

pub returns-clause-answer : goal.returns-clause-answer
returns-clause-answer g c lasts =
    let M = g.M.Stepping in
    let s = c.look.new.self in
    let mine = subst (λ p. M.looks (value_after s.knows.start.value.value s.knows.seen) p c.args.from c.look.result) c.get.ensures (c.look.ensures.answer lasts) in
    subst (λ b. M.looks (value_after b.value.value s.knows.seen) c.args.self.now.part c.args.from c.look.result) (c.look.ensures.knows.start ∙ c.requires.at.began) mine
