-- What members know of the logs.
use Rattle.std.proofs.Common.{◌≡◌, ℕ, ◌+◌, ◌-◌, ◌<◌, ◌≤◌, inl, inr, List, Option, length, map, slice_index_or, slice_set, sym, ap, subst, ◌∙◌, arith}
use Rattle.std.proofs.Math.ListN.{get_or-map}
use Rattle.std.proofs.lemmas.Bool.{cases_eq}
use Rattle.std.proofs.lemmas.Grind.{get_or-set_at}
use Rattle.std.proofs.lemmas.List.{get_or-set_other}
use Rattle.std.proofs.lemmas.List.Elements.{All-weaker}
use Rattle.group_member.specs.declared.part.MemberPart.{MemberPart}
use Rattle.group_restart.specs.Machine.{Restart}
use Rattle.group_crew.specs.Crews.{unlooked}
use Rattle.group_crew.specs.Ends.{AllKnow, AllKnowEnds, AreEndsIn}
use Rattle.group_crew.proofs.Parts.{same_length}

-- the end of one more log is known
pub one_more : (known : List ℕ) (ends : ℕ → ℕ) (n end : ℕ) → 1 ≤ n → n ≤ 32 → length known ≡ 32 → end ≡ ends n
    → ((member : ℕ) → 1 ≤ member → member < n → slice_index_or known (member - 1) 0 ≡ ends member)
    → (member : ℕ) → 1 ≤ member → member < n + 1 → slice_index_or (slice_set known (n - 1) end) (member - 1) 0 ≡ ends member
one_more known ends n end from within long is before member first below = elim (cases_eq member n) [
  | inl same ↦ get_or-set_at known (n - 1) (member - 1) end 0 (omega arith) (omega arith) ∙ (is ∙ ap ends (sym same))
  | inr other ↦ get_or-set_other known (n - 1) (member - 1) end 0 (omega arith) ∙ before member first (omega arith)
]

pub all_ends : {P : Type 0} (restart : Option Restart) (known : List ℕ) (parts : List (MemberPart P)) → AreEndsIn restart known → AllKnow known parts → AllKnowEnds restart parts
all_ends {P} restart known parts are all =
    All-weaker (λ (part : MemberPart P). part.known ≡ known) (λ (part : MemberPart P). AreEndsIn restart part.known) (λ part is. subst (AreEndsIn restart) (sym is) are) parts all

-- a look for ready choices leaves it as it is
pub looked_know : {P : Type 0} (known : List ℕ) (mid new : List (MemberPart P)) → map unlooked new ≡ map unlooked mid → AllKnow known mid → AllKnow known new
looked_know {P} known mid new same all = λ i d within.
    let long : length new ≡ length mid = same_length (unlooked {P = P}) new mid same in
    let here : unlooked (slice_index_or new i d) ≡ unlooked (slice_index_or mid i d) =
    sym (get_or-map (unlooked {P = P}) new i d) ∙ (ap (λ (its : List (MemberPart P)). slice_index_or its i (unlooked d)) same ∙ get_or-map (unlooked {P = P}) mid i d) in
    ap (λ (part : MemberPart P). part.known) here ∙ all i d (omega arith)
