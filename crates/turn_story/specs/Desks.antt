-- Seats with their callers' parts.
use Rattle.std.specs.Prelude.{◌≡◌, ℕ, suc, List, [], ◌∷◌, Some, false, map}
use Rattle.turn_gate.specs.Lists.{events_by}
use Rattle.turn_gate.specs.Seated.{TurnId, Sat}
use Rattle.turn_story.specs.declared.step.Start.{Start}
use Rattle.turn_story.specs.declared.step.Step.{Step}
use Rattle.turn_story.specs.Chains.{part_of}
use Rattle.turn_story.specs.Histories.{number_of, parts_after}

module _ {M P : Type 0} (caller : ℕ → ℕ) where
  -- The seat is of the turn z, which began so. Unless the turn has ended, the part is what the caller's last event that the seat has seen left
  pub record IsAt (z : TurnId) (start : Start M P) (s : Sat (Start M P) (Step M P)) (p : P) : Type 0 where
    pub turn : s.turn ≡ z
    pub began : s.knows.start ≡ start
    pub part : s.knows.ended ≡ false → part_of (parts_after caller start.parts.value.items s.knows.seen) s.knows.caller ≡ Some p

  module _ {D : Type 0} where
    -- these desks are those of the callers from the k-th on, each with its seat and its part
    abbrev pub AllAt : TurnId → Start M P → List D → (D → Sat (Start M P) (Step M P)) → (D → P) → ℕ → Type 0
    AllAt z start [] seat part k = Unit {0}
    AllAt z start (d ∷ ds) seat part k = ((seat d).knows.caller ≡ k) × IsAt z start (seat d) (part d) × AllAt z start ds seat part (suc k)

    -- the journal has the events of each desk's caller, once and in their order, and no others of it
    abbrev pub AllRan : List D → (D → Sat (Start M P) (Step M P)) → List ℕ → Type 0
    AllRan [] seat journal = Unit {0}
    AllRan (d ∷ ds) seat journal = (events_by caller (seat d).knows.caller journal ≡ map number_of (seat d).knows.own) × AllRan ds seat journal
