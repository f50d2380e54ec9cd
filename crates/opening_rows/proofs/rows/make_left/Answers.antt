use Rattle.std.proofs.Common.{refl, ◌∙◌}
use Rattle.std.specs.BTreeSet as set
use Rattle.std.specs.Ordering.{nat_cmp}
use Rattle.opening_rows.proofs.Taking.{made_begin, made_more, made_over}
use Rattle.opening_rows.proofs.rows.make_left.Goals as goal

pub loop-init : goal.loop-init
loop-init g c =
    (made_begin _ _ (set.contains nat_cmp c.args.pending.now) (set.contains nat_cmp c.args.committed.now) c.args.heads.now.heads c.nothing-made.result 0 (c.nothing-made.ensures (set.contains nat_cmp c.args.pending.now) (set.contains nat_cmp c.args.committed.now)), refl)

pub loop-preserved : goal.loop-preserved
loop-preserved g c = (
  made_more _ _ _ _ _ _ (set.contains nat_cmp c.args.pending.now) (set.contains nat_cmp c.args.committed.now) c.args.heads.now.heads c.loop.heads.heads c.next_of_all.new.heads.heads c.loop.made c.take_in.new.made
      c.in_ok-next_of_all.field-0 c.in-Some.it _ _ 0 0 c.loop.invariant.0 c.in_ok-next_of_all.ensures.next c.in-Some.is c.in_ok-take_in-in-Some.ensures,
  c.in_ok-next_of_all.ensures.block ∙ c.loop.invariant.1,
)

pub returns-in-None : goal.returns-in-None
returns-in-None g c = made_over _ _ _ _ _ _ _ _ c.args.heads.now.heads _ _ c.loop.made c.in_ok-next_of_all.field-0 _ _ _ _ c.loop.invariant.0 c.in_ok-next_of_all.ensures.next c.in-None.is
