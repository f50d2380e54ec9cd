-- The state in which all begins anew.
use Rattle.std.proofs.Common.{◌≡◌, ℕ, All, List, [], ◌∷◌, None, Result, Ok, Err, OnOk, map, refl, sym, ap, subst, ◌∙◌}
use Rattle.std.proofs.lemmas.List.Elements.{All-map}
use Rattle.cache_structure.specs.Directory.{Directory}
use Rattle.facility.specs.States.{IsReset, held}
use Rattle.group_member.specs.declared.part.MemberPart.{MemberPart}
use Rattle.group_member.specs.Members.{IsDown, member_of}
use Rattle.group_crew.specs.declared.crew.Crew.{Crew}
use Rattle.group_crew.specs.Ends.{AllKnowEnds, AreEndsIn}
use Rattle.group_crew.specs.Failing.{BeginsAnew, id_of}
use Rattle.group_crew.specs.States.{crew_state, known_by}

ids : {P : Type 0} (parts : List (MemberPart P)) → map id_of (map member_of parts) ≡ map (λ part. part.id) parts
ids [] = refl
ids (part ∷ parts) = ap (λ its. part.id ∷ its) (ids parts)

pub on_ok_both : {T E A B C : Type 0} (r : Result T E) → (A → B → C) → OnOk r A → OnOk r B → OnOk r C
on_ok_both (Ok x) f a b = f a b
on_ok_both (Err e) f a b = tt

pub begins_anew : {C P : Type 0} (directory : C → Directory) (counter : ℕ) (old new : Crew C P) (news : List (MemberPart P))
    → IsReset (held directory old.facility) counter (held directory new.facility) → AllKnowEnds old.restart news → new.parts.items ≡ news → map (λ part. part.id) news ≡ map (λ part. part.id) old.parts.items
    → new ≡ record old { facility = new.facility; parts = new.parts; restart = None; is_own_stale = new.is_own_stale; was_half = new.was_half }
    → All (λ part. IsDown old.sizes.sizes (member_of part)) news → BeginsAnew counter (crew_state directory old) (crew_state directory new)
begins_anew {C} {P} directory counter old new news facility known are same rest down = record {
  facility = facility;
  members = subst (λ (its : List (MemberPart P)). All (IsDown old.sizes.sizes) (map member_of its)) (sym are) (All-map (IsDown old.sizes.sizes) (member_of {P = P}) news down);
  same = ids new.parts.items ∙ (ap (map (λ (part : MemberPart P). part.id)) are ∙ (same ∙ sym (ids old.parts.items)));
  known = subst (λ (its : List (MemberPart P)). All (AreEndsIn old.restart) (map known_by its)) (sym are) (All-map (AreEndsIn old.restart) (known_by {P = P}) news known);
  rest = ap (crew_state directory) rest;
}
