use Rattle.std.proofs.Common.{◌≡◌, List, length, sym, subst, ap, ◌∙◌}
use Rattle.std.specs.List.{AllByRecursion}
use Rattle.log_heads.specs.Heads.{IsFew}
use Rattle.log_heads.proofs.Fills.{few_new, length_new}
use Rattle.log_heads.proofs.heads.Heads.new.Goals as goal

pub invariant_of-result : goal.invariant_of-result
invariant_of-result c = (
  c.in_ok-heads.heads.ok.0 ∙ ap length c.in_ok-heads.ensures ∙ length_new c.args.starts.now c.args.lengths.now (c.requires.starts ∙ sym c.requires.lengths) ∙ c.requires.starts,
  c.requires.some,
  subst (AllByRecursion (IsFew c.args.block)) (sym c.in_ok-heads.ensures) (few_new c.args.block c.args.starts.now c.args.lengths.now),
)
