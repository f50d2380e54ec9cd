use Rattle.std.proofs.Common.{◌≡◌, subst}
use Rattle.std.specs.Option.{option_map_or}
use Rattle.cache_structure.specs.Bound.{registered_by}
use Rattle.cache_structure.specs.Frames.{page_dropped}
use Rattle.cache_structure.specs.Slots.{page_in}
use Rattle.cache_structure.specs.State.{CacheState, directory_of}
use Rattle.cache_structure.proofs.Binding.{placed}
use Rattle.cache_structure.proofs.cache.Cache.place.Goals as goal

pub returns-clause-registered : goal.returns-clause-registered
returns-clause-registered c =
    let r = c.self.inside in
    subst (λ (w : CacheState). registered_by (page_in c.make.new.self.slots) c.drop_slot.new.self ≡ option_map_or (page_dropped (directory_of w).registered) (page_in w.table.slots c.args.at) (directory_of w).registered) c.self.view_is
    (placed (page_in r.table.slots) c.pages_are_apart.ensures.apart (page_in c.make.new.self.slots) r.registrations c.drop_slot.new.self c.args.at c.args.id c.drop_slot.ensures.at c.make.ensures.pages)
