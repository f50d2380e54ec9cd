use Rattle.std.proofs.Common.{◌≡◌, None, true, length, nat_lt, sym, subst}
use Rattle.cache_structure.specs.Slots.{entries_in, page_in}
use Rattle.cache_structure.specs.State.{CacheState}
use Rattle.cache_structure.proofs.Making.{made_free}
use Rattle.cache_structure.proofs.cache.Cache.make.Goals as goal

pub returns-in-Some-clause-made : goal.returns-in-Some-clause-made
returns-in-Some-clause-made c =
    let free = subst (λ (w : CacheState). true ≡ nat_lt (length (entries_in w.table)) (length w.table.slots)) c.self.view_is c.in-Some.ensures.place in
    let none = subst (λ (w : CacheState). page_in w.table.slots c.in-Some.at ≡ None) c.self.view_is c.in-Some.ensures.free.2 in
    made_free c.args.self.now c.place.new.self c.args.id c.in-Some.at (sym free) none c.place.ensures.entries c.place.ensures.registered c.place.ensures.size c.place.ensures.lost c.place.ensures.frames
