-- What contracts see of a turn and of its seats.
use Rattle.std.specs.Prelude.{◌≡◌, ℕ, List, [], ◌∷◌, Bool, true, false, refl}
use Rattle.std.specs.Coded.{Coded, code_by, coded×, coded_ℕ, coded_list, coded_bool}
use Rattle.atomic_table.specs.Seated.{TableId, table_id_coded}
use Rattle.turn_gate.specs.declared.view.Knowledge.{Knowledge}
use Rattle.turn_gate.specs.Lists.{Begins, events_by}
use Rattle.turn_gate.specs.Known.{newcomers}
use Rattle.turn_gate.specs.Ruled.{sits}
use Rattle.turn_gate.specs.Places.{Place}

-- which turn it is, among all
abbrev pub TurnId : Type 0
TurnId = TableId

-- which turn it is, how many seats it has, and what stood before the machine's first event
pub record Gate (B : Type 0) : Type 0 where
  pub id : TurnId
  pub seats : ℕ
  pub start : B

abbrev pub gate_code : {B : Type 0} → Coded B → Coded (Gate B)
gate_code {B} c = code_by (TableId × (ℕ × B)) (coded× table_id_coded (coded× coded_ℕ c)) (λ g. (g.id, (g.seats, g.start))) (λ p. record { id = p.0; seats = p.1.0; start = p.1.1 }) (λ _. refl)

-- the turn that the seat is of, and what the seat knows
pub record Sat (B E : Type 0) : Type 0 where
  pub turn : TurnId
  pub knows : Knowledge B E

abbrev pub sat_code : {B E : Type 0} → Coded B → Coded E → Coded (Sat B E)
sat_code {B} {E} b e =
    code_by (TableId × (ℕ × (B × (List E × (List E × Bool))))) (coded× table_id_coded (coded× coded_ℕ (coded× b (coded× (coded_list e) (coded× (coded_list e) coded_bool)))))
    (λ s. (s.turn, (s.knows.caller, (s.knows.start, (s.knows.seen, (s.knows.own, s.knows.ended))))))
    (λ p. record { turn = p.0; knows = record { caller = p.1.0; start = p.1.1.0; seen = p.1.1.1.0; own = p.1.1.1.1.0; ended = p.1.1.1.1.1 } })
    (λ _. refl)

-- A seat of a turn is one caller's. Where there is none, which no turn makes, it knows the start
abbrev pub sole_seat : {B E : Type 0} → B → List (Knowledge B E) → Knowledge B E
sole_seat b [] = record { caller = 0; start = b; seen = []; own = []; ended = false }
sole_seat b (k ∷ ks) = k

abbrev pub sat_of : {T B E : Type 0} → B → Place T B E → Sat B E
sat_of b s = record { turn = s.table_id; knows = sole_seat b s.me.0.seats }

-- the seat is one caller's, and between two turns
abbrev pub IsSat : {T B E : Type 0} → B → Place T B E → Type 0
IsSat b s = s.me ≡ (sits (sole_seat b s.me.0.seats ∷ []), [])

-- the seats of the turn z, with this knowledge
abbrev pub sats : {B E : Type 0} → TurnId → List (Knowledge B E) → List (Sat B E)
sats z [] = []
sats z (k ∷ ks) = record { turn = z; knows = k } ∷ sats z ks

-- the seats that a turn begins with: one for each of n callers, from 1 on, that has seen this journal
abbrev pub first_seats : {B E : Type 0} → (E → ℕ) → TurnId → B → List E → ℕ → List (Sat B E)
first_seats caller z start log n = sats z (newcomers caller start log 1 n)

-- each of these seats is of the turn z
abbrev pub AreOf : {B E : Type 0} → TurnId → List (Sat B E) → Type 0
AreOf z [] = Unit {0}
AreOf z (s ∷ ss) = (s.turn ≡ z) × AreOf z ss

-- The journal has the seat's own events, once and in their order, and no others of its caller. It begins with what the seat has seen, and this is all where the seat knows of the end
abbrev pub HasAllOf : {B E : Type 0} → (E → ℕ) → List E → Knowledge B E → Type 0
HasAllOf caller log k = (events_by caller k.caller log ≡ k.own) × Begins k.seen log × (k.ended ≡ true → k.seen ≡ log)

abbrev pub HasAll : {B E : Type 0} → (E → ℕ) → List E → List (Sat B E) → Type 0
HasAll caller log [] = Unit {0}
HasAll caller log (s ∷ ss) = HasAllOf caller log s.knows × HasAll caller log ss

-- no turn of these seats was refused
abbrev pub NoneEnded : {B E : Type 0} → List (Sat B E) → Type 0
NoneEnded [] = Unit {0}
NoneEnded (s ∷ ss) = (s.knows.ended ≡ false) × NoneEnded ss

abbrev pub knowledge_of : {B E : Type 0} → Sat B E → Knowledge B E
knowledge_of s = s.knows

-- a part that was its caller's after what the seat has seen is its caller's after this journal too
abbrev pub PartsReach : {P B E : Type 0} → (ℕ → P → B → List E → Type 0) → List E → List (Sat B E) → Type 0
PartsReach parted log [] = Unit {0}
PartsReach {P} parted log (s ∷ ss) = ((p : P) → parted s.knows.caller p s.knows.start s.knows.seen → parted s.knows.caller p s.knows.start log) × PartsReach parted log ss
