-- The end of a restart whose member owns no page.
use Rattle.std.proofs.Common.{◌≡◌, refl, sym, ◌∙◌, ap, subst, arith, false, inl, inr, List, [], ◌∷◌, length, Ok}
use Rattle.std.proofs.lemmas.Bool.{both_ways}
use Rattle.std.proofs.lemmas.Option.{none-some}
use Rattle.ds_base.specs.declared.names.PageId.{PageId}
use Rattle.lock_structure.specs.Records.{is_retained}
use Rattle.restart_records.specs.declared.queue.TurnKey.{TurnKey}
use Rattle.restart_marks.specs.Needs.{need_of}
use Rattle.page_world.specs.Numbers.{page_at}
use Rattle.page_restarts.specs.Events.{EndGoes}
use Rattle.page_restarts.proofs.Ending.{ups}
use Rattle.restart_owners.specs.Ends.{EndsFree, EndsGo}
use Rattle.restart_owners.specs.Listing.{is_among}

nothing_among : (keys : List TurnKey) (p : PageId) → length keys ≡ 0 → is_among keys p ≡ false
nothing_among [] p e = refl
nothing_among (key ∷ keys) p e = absurd (omega (arith, e))

pub ends_free : EndsFree
ends_free f owner s x l o e n owned =
    let last = ups s x e in
    elim (o.retained n owned) [
      | inl claimed ↦ none-some (page_at n) (sym last.unclaimed ∙ claimed)
      | inr retained ↦ both_ways (is_among s.pages (page_at n)) (nothing_among s.pages (page_at n) last.none) (l.all (page_at n) last.listed (ap is_retained retained.has))
    ]

pub ends_go : EndGoes → EndsGo
ends_go law w u v g content forced h k s a b l o happens is_up =
    law w u v g content forced h k s a b happens is_up (ends_free u.facility g.owner h.marks s l o (subst (λ i. need_of h.marks i ≡ Ok s) is_up happens.lawful))
