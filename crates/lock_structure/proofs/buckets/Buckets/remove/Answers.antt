use Rattle.std.proofs.Common.{◌≡◌, true, false, arith}
use Rattle.std.specs.Prelude.{is_some}
use Rattle.lock_structure.specs.Records.{record_in}
use Rattle.lock_structure.proofs.Counts.{remove_room_at, absent_room_at, some_used_at}
use Rattle.lock_structure.proofs.buckets.Buckets.remove.Goals as goal

pub give_back-requires : goal.give_back-requires
give_back-requires c =
    let st : is_some (record_in c.index_mut.result.now c.args.member c.args.name.now) ≡ true = grind (arith, c.remove.ensures.cell, c.in-Some.is) in
    some_used_at c.self.inside.chains.items c.self.inside.areas.items c.self.inside.records c.self.inside.pages c.args.at c.args.member c.area_of.result c.args.name.now c.index_mut.result.now c.index_mut-in-Some.result.now (grind (arith, c.requires, c.self.view_is)) c.area_of.ensures.area c.area_of.ensures.range st c.index_mut.ensures.value c.index_mut-in-Some.ensures.value c.self.invariant

pub invariant_of-self : goal.invariant_of-self
invariant_of-self c =
    let st : is_some (record_in c.index_mut.result.now c.args.member c.args.name.now) ≡ true = grind (arith, c.remove.ensures.cell, c.in-Some.is) in
    remove_room_at c.self.inside.chains.items c.self.inside.areas.items _ _ c.args.at c.args.member c.area_of.result c.args.name.now c.index_mut.result.now _ c.index_mut-in-Some.result.now _ (grind (arith, c.requires, c.self.view_is)) c.area_of.ensures.area c.area_of.ensures.range st c.index_mut.ensures.value c.remove.ensures.chain c.index_mut-in-Some.ensures.value c.give_back.ensures.free c.give_back.ensures.size c.self.invariant

pub invariant_of-self-in_default : goal.invariant_of-self-in_default
invariant_of-self-in_default c =
    let st : is_some (record_in c.index_mut.result.now c.args.member c.args.name.now) ≡ false = grind (arith, c.remove.ensures.cell, c.in_default.not-Some) in
    absent_room_at c.self.inside.chains.items c.self.inside.areas.items _ _ c.args.at c.args.member c.args.name.now c.index_mut.result.now _ (grind (arith, c.requires, c.self.view_is)) st c.index_mut.ensures.value c.remove.ensures.chain c.self.invariant
