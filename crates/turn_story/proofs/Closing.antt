-- What a phase leaves.
use Rattle.std.proofs.Common.{◌≡◌, ℕ, List, length, map, sym, ◌∙◌, subst}
use Rattle.std.specs.Prelude.{Some}
use Rattle.turn_gate.specs.Seated.{TurnId, Sat, PartsReach, NoneEnded}
use Rattle.turn_story.specs.declared.step.Start.{Start}
use Rattle.turn_story.specs.declared.step.Step.{Step}
use Rattle.turn_story.specs.Chains.{part_of, Leads}
use Rattle.turn_story.specs.Histories.{number_of, parts_after, IsTold}
use Rattle.turn_story.specs.Desks.{AllAt}
use Rattle.turn_story.proofs.Rows.{parts_same, has_parts, length-parts_after}

-- the journal's events lead from the start to the value, and to the desks' parts
pub closes : {M P D : Type 0} (caller : ℕ → ℕ) (steps : M → P → ℕ → M → P → Type 0) (z : TurnId) (start : Start M P) (ds : List D) (seat : D → Sat (Start M P) (Step M P)) (part : D → P) (log : List (Step M P)) (now : M)
    → length ds ≡ length start.parts.value.items → AllAt caller z start ds seat part 1 → NoneEnded (map seat ds)
    → PartsReach {P = P} (λ by p b l. part_of (parts_after caller b.parts.value.items l) by ≡ Some p) log (map seat ds)
    → IsTold caller steps start.value.value start.parts.value.items log now
    → Leads caller steps start.value.value start.parts.value.items (map number_of log) now (map part ds)
closes caller steps z start ds seat part log now count at none reach told =
    let qs = parts_after caller start.parts.value.items log in
    let same = parts_same qs ds part (length-parts_after caller log start.parts.value.items ∙ sym count) (has_parts caller z start log ds seat part 1 at none reach) in
    subst (Leads caller steps start.value.value start.parts.value.items (map number_of log) now) same told.leads
