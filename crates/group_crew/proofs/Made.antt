-- A crew that is made, and one that was looked at since.
use Rattle.std.proofs.Common.{◌≡◌, ℕ, zero, suc, ◌+◌, List, [], ◌∷◌, ◌++◌, length, map, Option, None, All, IfSome, refl, sym, ap, subst, ◌∙◌, arith}
use Rattle.std.proofs.lemmas.List.{length-append}
use Rattle.ds_base.specs.declared.names.Sizes.{Sizes}
use Rattle.cache_structure.specs.Directory.{Directory}
use Rattle.facility.specs.States.{IsMade, held}
use Rattle.script_fates.specs.Fated.{no_fates}
use Rattle.group_member.specs.declared.part.MemberPart.{MemberPart}
use Rattle.group_member.specs.Members.{IsDown, Member, member_of}
use Rattle.group_crew.specs.declared.crew.Crew.{Crew}
use Rattle.group_crew.specs.Crews.{Looks, unlooked}
use Rattle.group_crew.specs.Happening.{member_at}
use Rattle.group_crew.specs.Making.{IsNewCrew}

down_at : {P : Type 0} (sizes : Sizes) (parts : List (MemberPart P)) (k : ℕ) → All (λ part. IsDown sizes (member_of part)) parts → IfSome (member_at parts k) (IsDown sizes)
down_at sizes [] k all = tt
down_at sizes (part ∷ parts) zero all = all 0 part (omega arith)
down_at sizes (part ∷ parts) (suc k) all = down_at sizes parts k (λ i d within. all (suc i) d (omega arith))

-- ---- members that are numbered in their order, by any count

pub number_next : {P : Type 0} (count : ℕ → ℕ) (parts : List (MemberPart P)) (part : MemberPart P) → ((k : ℕ) → IfSome (member_at parts k) (λ m. m.id ≡ count k)) → part.id ≡ count (length parts)
    → (k : ℕ) → IfSome (member_at (parts ++ part ∷ []) k) (λ m. m.id ≡ count k)
number_next count [] part numbered next zero = next
number_next count [] part numbered next (suc k) = tt
number_next count (x ∷ xs) part numbered next zero = numbered 0
number_next count (x ∷ xs) part numbered next (suc k) = number_next (λ j. count (suc j)) xs part (λ j. numbered (suc j)) next k

pub number_long : {A : Type 0} → (xs : List A) (x : A) (n : ℕ) → n ≡ length xs + 1 → n ≡ length (xs ++ x ∷ [])
number_long xs x n is = let long = length-append xs (x ∷ []) in omega (arith, is, long)

-- ---- the crew

pub made_crew : {C P : Type 0} (directory : C → Directory) (counter : ℕ) (crew : Crew C P) → IsMade crew.sizes.sizes counter (held directory crew.facility) → All (λ part. IsDown crew.sizes.sizes (member_of part)) crew.parts.items
    → ((k : ℕ) → IfSome (member_at crew.parts.items k) (λ m. m.id ≡ k + 1)) → crew.progress.begun ≡ 0 → crew.progress.groupfails ≡ 0 → crew.restart ≡ None → crew.fates ≡ no_fates → IsNewCrew directory crew
made_crew directory counter crew made down numbered unplayed groupfails unfailed unfated = record {
  facility = record { locks_empty = made.locks_empty; directory_empty = made.directory_empty; lists_new = made.lists_new; counter_at = refl };
  members = λ k. down_at crew.sizes.sizes crew.parts.items k down;
  numbered = numbered;
  unplayed = unplayed;
  groupfails = groupfails;
  unfailed = unfailed;
  unfated = unfated;
}

member_unlooked : {P : Type 0} (parts : List (MemberPart P)) (k : ℕ) → member_at parts k ≡ member_at (map unlooked parts) k
member_unlooked [] k = refl
member_unlooked (part ∷ parts) zero = refl
member_unlooked (part ∷ parts) (suc k) = member_unlooked parts k

same_member : {P : Type 0} (mid new : List (MemberPart P)) (k : ℕ) → map unlooked new ≡ map unlooked mid → member_at mid k ≡ member_at new k
same_member mid new k looks = member_unlooked mid k ∙ (ap (λ parts. member_at parts k) (sym looks) ∙ sym (member_unlooked new k))

pub looked_new : {C P : Type 0} (directory : C → Directory) (mid new : Crew C P) → IsNewCrew directory mid → Looks mid new → IsNewCrew directory new
looked_new {C} {P} directory mid new made looks = record {
  facility = subst (λ (crew : Crew C P). IsMade crew.sizes.sizes crew.facility.counter (held directory crew.facility)) (sym looks.rest) made.facility;
  members = λ k.
      subst (λ (o : Option Member). IfSome o (IsDown new.sizes.sizes)) (same_member mid.parts.items new.parts.items k looks.parts)
      (subst (λ (crew : Crew C P). IfSome (member_at mid.parts.items k) (IsDown crew.sizes.sizes)) (sym looks.rest) (made.members k));
  numbered = λ k. subst (λ (o : Option Member). IfSome o (λ m. m.id ≡ k + 1)) (same_member mid.parts.items new.parts.items k looks.parts) (made.numbered k);
  unplayed = ap (λ (crew : Crew C P). crew.progress.begun) looks.rest ∙ made.unplayed;
  groupfails = ap (λ (crew : Crew C P). crew.progress.groupfails) looks.rest ∙ made.groupfails;
  unfailed = ap (λ (crew : Crew C P). crew.restart) looks.rest ∙ made.unfailed;
  unfated = ap (λ (crew : Crew C P). crew.fates) looks.rest ∙ made.unfated;
}
