-- What a seat knows of the journal, and when that is so.
use Rattle.std.specs.Prelude.{◌≡◌, ℕ, zero, suc, List, [], ◌∷◌, ◌++◌, Bool, true, false}
use Rattle.turn_gate.specs.declared.view.Knowledge.{Knowledge}
use Rattle.turn_gate.specs.Lists.{Begins, events_by}

module _ {B E : Type 0} where
  -- the same seat, once it has seen these events, and whether the machine has ended
  abbrev pub sees : List E → Bool → Knowledge B E → Knowledge B E
  sees seen ended k = record { caller = k.caller; start = k.start; seen = seen; own = k.own; ended = ended }

  -- the same seat, after an event of its caller
  abbrev pub adds : E → Knowledge B E → Knowledge B E
  adds e k = record { caller = k.caller; start = k.start; seen = k.seen ++ e ∷ []; own = k.own ++ e ∷ []; ended = k.ended }

  -- the same seat, once it knows whether the machine has ended
  abbrev pub hears : Bool → Knowledge B E → Knowledge B E
  hears ended k = sees k.seen ended k

  -- what the holder of the slot knows is all that there is
  abbrev pub AllAware : List E → Bool → List (Knowledge B E) → Type 0
  AllAware log ended [] = Unit {0}
  AllAware log ended (k ∷ ks) = (k.seen ≡ log) × (k.ended ≡ ended) × AllAware log ended ks

module _ {B E : Type 0} (caller : E → ℕ) where
  -- The machine began so, these are its events so far, and `ended` says whether it has ended. The seat knows nothing else
  pub record IsSo (start : B) (log : List E) (ended : Bool) (k : Knowledge B E) : Type 0 where
    pub began : k.start ≡ start
    -- the journal begins with what the seat has seen
    pub begins : Begins k.seen log
    -- the seat's own events are its caller's in what it has seen, and in the journal
    pub had : events_by caller k.caller k.seen ≡ k.own
    pub has : events_by caller k.caller log ≡ k.own
    -- no event comes after the end
    pub over : k.ended ≡ true → (ended ≡ true) × (k.seen ≡ log)

  abbrev pub AllSo : B → List E → Bool → List (Knowledge B E) → Type 0
  AllSo start log ended [] = Unit {0}
  AllSo start log ended (k ∷ ks) = IsSo start log ended k × AllSo start log ended ks

  -- what the callers from the k-th on, m of them, know at the start
  abbrev pub newcomers : B → List E → ℕ → ℕ → List (Knowledge B E)
  newcomers start log k zero = []
  newcomers start log k (suc m) = record { caller = k; start = start; seen = log; own = events_by caller k log; ended = false } ∷ newcomers start log (suc k) m
