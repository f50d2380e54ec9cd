-- A restart draws no number before all retained pages are recovered.
use Rattle.std.proofs.Common.{◌≡◌, sym, ◌∙◌, ap, subst, true, false, inl, inr}
use Rattle.std.specs.Prelude.{is_some}
use Rattle.std.proofs.lemmas.Bool.{both_ways, cases_Bool}
use Rattle.std.proofs.lemmas.Option.{none-some}
use Rattle.ds_base.specs.declared.names.PageId.{PageId}
use Rattle.restart_marks.specs.Moves.{is_recovered}
use Rattle.restart_marks.specs.State.{RestartState}
use Rattle.restart_resources.specs.Held.{Held}
use Rattle.lock_restarts.specs.Sent.{SendsLawfully}
use Rattle.page_world.specs.Numbers.{page_at, page_number}
use Rattle.page_restarts.specs.Beside.{as_restarting}
use Rattle.retained_pages.specs.Retained.{CommandsSpare}
use Rattle.restart_owners.specs.Undrawn.{UndrawnBegins, UndrawnCasts, UndrawnGoes, UndrawnStays, UndrawnTells}
use Rattle.restart_owners.proofs.Courses.{by_intent}
use Rattle.restart_owners.proofs.Following.{HandIs, Keyed, KnowsOn, keyed_unrecovered}
use Rattle.restart_owners.proofs.Going.{stepped}

pub undrawn_begins : UndrawnBegins
undrawn_begins g m s fresh level = record {
  keyed = λ key e. absurd (none-some key (sym (ap (λ (z : RestartState). z.hand.key) fresh.rest) ∙ e));
  level = λ _. subst (λ z. g.stable z ≡ g.written z) (sym (ap (λ (z : RestartState). z.member) fresh.rest)) (sym level);
}

pub undrawn_stays : UndrawnStays
undrawn_stays g left forced force m s same ne d = record { keyed = d.keyed; level = λ open_still. same.stable s.member ne ∙ d.level open_still ∙ sym (same.written s.member ne) }

pub undrawn_casts : UndrawnCasts
undrawn_casts g left s own d = record { keyed = d.keyed; level = λ open_still. own.stable ∙ d.level open_still ∙ sym own.written }

-- where they aren't recovered behind it, they weren't before
was_not : (s t : RestartState) → KnowsOn s t → HandIs s → Keyed s → is_recovered t ≡ false → is_recovered s ≡ false
was_not s t on is has left = elim (cases_Bool (is_recovered s)) [
  | inl all ↦ absurd (both_ways (is_recovered t) left (on.recovered is has all))
  | inr e ↦ e
]

pub undrawn_goes : ((p : PageId) → page_at (page_number p) ≡ p) → CommandsSpare → SendsLawfully → UndrawnGoes
undrawn_goes named spare lawful w u v g content forced h k s a listing d happens leads =
    let on : KnowsOn h.marks k.marks = (stepped named spare lawful (as_restarting u) (as_restarting v) h k s a happens).knows in
    record {
      keyed = on.keyed listing.hand d.keyed;
      level = λ open_still. (let before = was_not h.marks k.marks on listing.hand d.keyed open_still in subst (λ z. leads.left.stable z ≡ leads.left.written z) (sym leads.same) (leads.level before (d.level before)));
    }

pub undrawn_tells : ((p : PageId) → page_at (page_number p) ≡ p) → CommandsSpare → SendsLawfully → UndrawnTells
undrawn_tells named spare lawful u v g h k s a listing d happens = record { unrecovered = λ _ some. before some; level = λ _ some. d.level (before some) }
  where
    mid : Held
    mid = happens.after

    on : KnowsOn h.marks mid.marks
    on = (by_intent named spare lawful (as_restarting u) (as_restarting v) h happens.after a happens.said happens.intent s happens.lawful happens.runs).knows

    before : is_some happens.after.marks.hand.key ≡ true → is_recovered h.marks ≡ false
    before some = was_not h.marks mid.marks on listing.hand d.keyed (keyed_unrecovered mid.marks (on.keyed listing.hand d.keyed) some)
