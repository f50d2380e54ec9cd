use Rattle.std.proofs.Common.{arith}
use Rattle.lock_structure.proofs.Counts.{put_room_at, insert_room_at, free_at}
use Rattle.lock_structure.proofs.buckets.Buckets.enter.Goals as goal

pub invariant_of-self : goal.invariant_of-self
invariant_of-self c = put_room_at _ _ _ _ c.args.at c.args.member c.args.name.now c.joined-lock.result c.index_mut.result.now _ (grind (arith, c.requires.at, c.self.view_is)) c.index_mut.ensures.value c.put.ensures c.self.invariant

pub index_mut-requires-else-is_some : goal.index_mut-requires-else-is_some
index_mut-requires-else-is_some c = let n = c.self.invariant.count in let b = c.area_of.ensures.range in let ok = c.self.inside.areas.ok in grind (arith, n, b, ok)

pub take-cell-requires : goal.take-cell-requires
take-cell-requires c = free_at c.self.inside.chains.items c.self.inside.areas.items c.self.inside.records c.self.inside.pages c.area_of.result c.index_mut-else-is_some.result.now c.area_of.ensures.range c.index_mut-else-is_some.ensures.value c.self.invariant (grind (arith, c.requires.room, c.self.view_is, c.area_of.ensures.area, c.find-found.ensures, c.if-is_some.false, c.is_some.ensures))

pub invariant_of-self-else-is_some : goal.invariant_of-self-else-is_some
invariant_of-self-else-is_some c = insert_room_at c.self.inside.chains.items c.self.inside.areas.items _ _ c.args.at c.area_of.result (record { member = c.args.member; name = c.args.name.now; lock = c.joined-lock.result }) c.index_mut-else-is_some-2.result.now _ c.index_mut-else-is_some.result.now _ (grind (arith, c.requires.at, c.self.view_is)) c.area_of.ensures.area c.area_of.ensures.range c.index_mut-else-is_some-2.ensures.value c.insert.ensures c.index_mut-else-is_some.ensures.value c.take-cell.ensures.free c.take-cell.ensures.size c.self.invariant
