-- What a turn does to what its seat knows.
use Rattle.std.specs.Prelude.{◌≡◌, ℕ, List, [], ◌∷◌, ◌++◌, Bool, true, false, length}
use Rattle.turn_gate.specs.declared.answer.Turned.{Turned}
use Rattle.turn_gate.specs.declared.answer.Turned.TheVariants as turned
use Rattle.turn_gate.specs.declared.view.Knowledge.{Knowledge}
use Rattle.turn_gate.specs.Lists.{Begins}

-- where the event was run, P of its place
abbrev pub IfRan : Turned → (ℕ → Type 0) → Type 0
IfRan (turned.Ran place) P = P place
IfRan turned.NoMemory P = Unit {0}

abbrev pub IfRefused : Turned → Type 0 → Type 0
IfRefused (turned.Ran place) P = Unit {0}
IfRefused turned.NoMemory P = P

abbrev pub is_refused : Turned → Bool
is_refused (turned.Ran place) = false
is_refused turned.NoMemory = true

module _ {B E : Type 0} where
  -- It is the same seat, and what it had seen is the beginning of what it has seen now. After the end it sees nothing new
  pub record Follows (old new : Knowledge B E) : Type 0 where
    pub caller : new.caller ≡ old.caller
    pub start : new.start ≡ old.start
    pub seen : Begins old.seen new.seen
    pub lasts : old.ended ≡ true → new ≡ old

  -- The event was run at this place of the journal. Before it stands all that the seat had seen, and it is one more of the seat's own
  pub record HasRun (event_of : E → ℕ) (old new : Knowledge B E) (event place : ℕ) : Type 0 where
    pub before : List E
    pub entry : E
    pub knew : Begins old.seen before
    pub counts : place ≡ length before
    pub number : event_of entry ≡ event
    pub seen : new.seen ≡ before ++ entry ∷ []
    pub own : new.own ≡ old.own ++ entry ∷ []
