-- The desks of members.
use Rattle.std.specs.Prelude.{◌≡◌, ℕ, ◌%◌, List}
use Rattle.turn_gate.specs.Seated.{Gate, Sat}
use Rattle.turn_gate.specs.declared.answer.Look.{Look}
use Rattle.turn_gate.specs.declared.answer.Look.TheVariants as looked
use Rattle.turn_story.specs.declared.step.Start.{Start}
use Rattle.turn_story.specs.declared.step.Step.{Step}
use Rattle.turn_story.specs.Desks.{IsAt, AllAt}

-- whose event it is
abbrev pub member_in : ℕ → ℕ
member_in event = event % 64

-- the seat is that of the member with this number, in this turn, and the part is the member's
abbrev pub IsMemberAt : {M P : Type 0} → Gate (Start M P) → ℕ → Sat (Start M P) (Step M P) → P → Type 0
IsMemberAt {M} {P} turn number seat part = (seat.knows.caller ≡ number) × IsAt member_in turn.id turn.start seat part

-- these are the seats of the members from the first one on, with their parts
abbrev pub AreMembersAt : {M P D : Type 0} → Gate (Start M P) → List D → (D → Sat (Start M P) (Step M P)) → (D → P) → Type 0
AreMembersAt {M} {P} {D} turn desks seat part = AllAt member_in turn.id turn.start desks seat part 1

-- where a look answers an event, this holds of its number
abbrev pub IfReady : Look → (ℕ → Type 0) → Type 0
IfReady (looked.Ready event) Holds = Holds event
IfReady looked.NotYet Holds = Unit {0}
IfReady looked.Over Holds = Unit {0}
