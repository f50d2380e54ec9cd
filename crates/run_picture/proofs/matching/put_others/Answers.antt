use Rattle.std.proofs.Common.{◌≡◌, ℕ, ◌+◌, ◌++◌, List, [], ◌∷◌, filter, sym, ap, ◌∙◌, arith}
use Rattle.std.proofs.lemmas.Grind.{common_steps}
use Rattle.std.proofs.lemmas.List.{append-nil}
use Rattle.run_picture.specs.Matches.{below, is_other_of}
use Rattle.run_picture.proofs.Taking.{kept_more, kept_less, kept_none}
use Rattle.run_picture.proofs.matching.put_others.Goals.{then-is_other_of+in_ok-push_back, else-is_other_of}
use Rattle.run_picture.proofs.matching.put_others.Goals as goal

pub loop-number-init : goal.loop-number-init
loop-number-init c = sym (ap (λ (l : List ℕ). c.args.queue.now.items ++ l) (kept_none (is_other_of c.args.spans.now c.args.member)) ∙ append-nil c.args.queue.now.items)

pub loop-number-preserved : goal.loop-number-preserved
loop-number-preserved c = elim c.if-is_other_of.branch [
  | then-is_other_of+in_ok-push_back w ↦
      let more : filter (is_other_of c.args.spans.now c.args.member) (below (c.loop-number.number + 1)) ≡ filter (is_other_of c.args.spans.now c.args.member) (below c.loop-number.number) ++ c.loop-number.number ∷ [] = kept_more (is_other_of c.args.spans.now c.args.member) c.loop-number.number (sym c.is_other_of.ensures ∙ w.if-is_other_of.true) in
      grind (arith, common_steps, more)
  | else-is_other_of w ↦
      let same : filter (is_other_of c.args.spans.now c.args.member) (below (c.loop-number.number + 1)) ≡ filter (is_other_of c.args.spans.now c.args.member) (below c.loop-number.number) = kept_less (is_other_of c.args.spans.now c.args.member) c.loop-number.number (sym c.is_other_of.ensures ∙ w.if-is_other_of.false) in
      grind (arith, common_steps, same)
]
