use Rattle.std.proofs.Common.{rules}
use Rattle.std.proofs.lemmas.List.{with_items_is, places}
use Rattle.member_resources.specs.Held.{Held}
use Rattle.member_resources.proofs.Settling.{kept_back}
use Rattle.member_resources.proofs.resources.Resources.settle_undone.Goals as goal

pub returns-clause-after : goal.returns-clause-after
returns-clause-after c =
    let r = c.self.inside in
    let h : Held = record { marks = r.marks; pages = r.pages.items; cast = r.cast; buffer = r.buffer; spare = r.spare; limit = r.limit } in
    rw (← c.self.view_is, with_items_is r.pages c.undone.new.pages (search (rules, places)))
    (kept_back h _ _ _ (rw c.as_mut_slice.ensures.value at c.undone.ensures.after))
