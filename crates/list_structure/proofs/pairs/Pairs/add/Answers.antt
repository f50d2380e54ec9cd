use Rattle.std.proofs.Common.{◌≡◌, ℕ, List, ◌++◌, ◌∷◌, [], subst, sym, ap, ◌∙◌, not, length, filter, vec_capacity, arith}
use Rattle.list_structure.specs.declared.wait.Wait.{Wait}
use Rattle.list_structure.specs.Waits.{FitsWaits, is_replaced, with_wait}
use Rattle.list_structure.specs.Kept.{PairsState, IsKept}
use Rattle.list_structure.proofs.Room.{IsKept-add, room_to_add}
use Rattle.list_structure.proofs.pairs.Pairs.add.Goals as goal

pub push_reserved-requires : goal.push_reserved-requires
push_reserved-requires c =
    let f = subst (λ (s : PairsState). FitsWaits (with_wait s.waits c.args.wait) c.args.wait.waiter.member s.agents) (sym c.self.view_is) c.requires in
    let k = IsKept-add c.self.inside.waits.items c.self.inside.agents (vec_capacity c.self.inside.waits) c.args.wait c.self.invariant c.number-waiter.ensures.range c.number-holder.ensures.range f in
    let l = room_to_add c.self.inside.waits.items c.self.inside.agents (vec_capacity c.self.inside.waits) c.args.wait k in
    omega (arith, l, ap length c.drop_replaced.ensures.items, c.drop_replaced.new.waits.ok.0, c.drop_replaced.ensures.room)

pub invariant_of-self : goal.invariant_of-self
invariant_of-self c =
    let f = subst (λ (s : PairsState). FitsWaits (with_wait s.waits c.args.wait) c.args.wait.waiter.member s.agents) (sym c.self.view_is) c.requires in
    let k = IsKept-add c.self.inside.waits.items c.self.inside.agents (vec_capacity c.self.inside.waits) c.args.wait c.self.invariant c.number-waiter.ensures.range c.number-holder.ensures.range f in
    let e : c.push_reserved.new.self.items ≡ with_wait c.self.inside.waits.items c.args.wait = c.push_reserved.ensures.items ∙ ap (λ (ws : List Wait). ws ++ c.args.wait ∷ []) c.drop_replaced.ensures.items in
    subst (λ (r : ℕ). IsKept c.push_reserved.new.self.items c.self.inside.agents r) (sym (c.push_reserved.ensures.capacity ∙ c.drop_replaced.ensures.room)) (subst (λ (ws : List Wait). IsKept ws c.self.inside.agents (vec_capacity c.self.inside.waits)) (sym e) k)
