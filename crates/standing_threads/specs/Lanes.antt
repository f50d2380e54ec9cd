-- A lane between the leading thread and a standing one.
use Rattle.std.specs.Prelude.{◌≡◌, ◌⊎◌, List, [], ◌∷◌, Option, Some, None}
use Rattle.standing_threads.specs.declared.message.Message.{Message}
use Rattle.standing_threads.specs.declared.message.Message.TheVariants as said
use Rattle.standing_threads.specs.declared.message.Side.{Side}
use Rattle.standing_threads.specs.declared.message.Side.TheVariants as side

-- what the leading thread knows once it has sent this
abbrev pub sent : {T : Type 0} → Message T → Side T
sent {T} (said.ToDo x) = side.Leads (Some x)
sent {T} (said.Done y) = side.Leads (Some y)

-- a value to work on may be worked on
abbrev pub MayWork : {T : Type 0} → (T → Type 0) → Message T → Type 0
MayWork {T} ready (said.ToDo x) = ready x
MayWork {T} ready (said.Done y) = Unit {0}

module _ {T : Type 0} (ready : T → Type 0) (leaves : T → T → Type 0) where
  -- the message stands for the value x: this is to be worked on, or it is what work left of it
  abbrev pub Meets : T → Message T → Type 0
  Meets x (said.ToDo z) = (z ≡ x) × ready z
  Meets x (said.Done y) = leaves x y

  -- whatever the one stands for, the other does
  abbrev pub Follows : Message T → Message T → Type 0
  Follows m n = (x : T) → Meets x m → Meets x n

  -- Of a value that was sent and isn't back one message stands in the queue or in the hand of the standing thread. Else there is none
  abbrev pub IsOut : Option T → List (Message T) → Option (Message T) → Type 0
  IsOut None items hand = (items ≡ []) × (hand ≡ None)
  IsOut (Some x) items hand = (m : Message T) × Meets x m × (((items ≡ m ∷ []) × (hand ≡ None)) ⊎ ((items ≡ []) × (hand ≡ Some m)))

  -- what the queue holds fits what its two ends know
  abbrev pub IsLane : List (Message T) → List (Side T) → Type 0
  IsLane items views = ((items ≡ []) × (views ≡ side.Both ∷ []))
      ⊎ ((out : Option T) × (hand : Option (Message T)) × (views ≡ side.Leads out ∷ side.Stands hand ∷ []) × IsOut out items hand)

  -- the leading thread has got back what it had sent
  abbrev pub IsBack : Side T → Message T → Side T → Type 0
  IsBack v m w = (x : T) → v ≡ side.Leads (Some x) → (w ≡ side.Leads None) × Meets x m
