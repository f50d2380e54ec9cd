-- The rule of the turn, and what each step tells.
use Rattle.std.specs.Prelude.{◌≡◌, ◌≢◌, ℕ, ◌+◌, ◌*◌, ◌%◌, ◌^◌, ◌<◌, ◌≤◌, List, [], ◌∷◌, ◌++◌, Bool, length, map}
use mathlib.Core.Option.{none, some}
use mathlib.Core.Option as maybe
use lib.ListN.{get_elem?}
use Rattle.atomic_table.specs.Table.{State, Me, Step, rest}
use Rattle.turn_gate.specs.declared.view.Knowledge.{Knowledge}
use Rattle.turn_gate.specs.declared.view.View.{View}
use Rattle.turn_gate.specs.Lists.{total, when, only, first_of, others_of}
use Rattle.turn_gate.specs.Known.{sees, adds, hears, AllAware, AllSo}

module _ {B E : Type 0} where
  -- a seat between two turns
  abbrev pub sits : List (Knowledge B E) → View B E
  sits ks = record { waits = 0; ticket = 0; has = 0; seats = ks }

  -- a seat with the ticket k, whose turn it is not known to be
  abbrev pub waits : ℕ → List (Knowledge B E) → View B E
  waits k ks = record { waits = 1; ticket = k; has = 0; seats = ks }

  -- a seat with the ticket k, which has taken the slot
  abbrev pub holder : ℕ → List (Knowledge B E) → View B E
  holder k ks = record { waits = 1; ticket = k; has = 1; seats = ks }

  -- the view keeps its first seat, and the new one has the others
  abbrev pub kept_part : View B E → View B E
  kept_part v = sits (first_of v.seats)

  abbrev pub given_part : View B E → View B E
  given_part v = sits (others_of v.seats)

  -- the view of the seats of both
  abbrev pub both : View B E → View B E → View B E
  both v w = sits (v.seats ++ w.seats)

  abbrev pub spent : View B E
  spent = sits []

  abbrev pub has_ticket : View B E → ℕ
  has_ticket v = v.waits

  -- 1 where the view has the ticket k
  abbrev pub at_ticket : ℕ → View B E → ℕ
  at_ticket k v = only k v.ticket * v.waits

  -- how many seats the view stands for
  abbrev pub seat_count : View B E → ℕ
  seat_count v = length v.seats

  -- how many of them are the caller's
  abbrev pub for_caller : ℕ → View B E → ℕ
  for_caller c v = total (λ (k : Knowledge B E). only c k.caller) v.seats

  -- how many of them know that the machine has ended
  abbrev pub enders : View B E → ℕ
  enders v = total (λ (k : Knowledge B E). when k.ended 1) v.seats

-- `Good y start log`: the slot's value y began so, and stands for this journal
module _ {S B E : Type 0} (Good : S → B → List E → Type 0) (ended_of : S → Bool) (caller : E → ℕ) where
  pub record Fits (serving ticket : ℕ) (start : B) (log : List E) (over : Bool) (home : maybe.Option S) (v : View B E) : Type 0 where
    pub one : v.waits ≤ 1
    pub may : v.waits ≤ length v.seats
    -- its ticket is one of those that wait
    pub range : v.waits ≡ 1 → (serving ≤ v.ticket) × (v.ticket < ticket)
    -- the slot is out with the view whose ticket is served, and this view has seen the whole journal
    pub holds : v.has ≡ 1 → (v.waits ≡ 1) × (v.ticket ≡ serving) × (home ≡ none) × AllAware log over v.seats
    pub knows : AllSo caller start log over v.seats

  pub record Ruled (n : ℕ) (start : B) (s : State S (View B E)) : Type 0 where
    pub ticket : ℕ
    pub serving : ℕ
    pub log : List E
    pub over : Bool
    pub home : maybe.Option S
    -- the words are the ticket that is next, the ticket that is served, and the count of the journal
    pub words : s.words ≡ ticket % 2 ^ 64 ∷ serving % 2 ^ 64 ∷ length log ∷ []
    pub homes : s.homes ≡ home ∷ []
    -- the tickets in the views are those from serving up to before ticket, each in one view
    pub given : ticket ≡ serving + total has_ticket s.views
    pub once : (k : ℕ) → total (at_ticket k) s.views ≤ 1
    -- the views stand for n seats, at most one a caller
    pub few : n ≤ 2 ^ 32
    pub parts : total seat_count s.views ≡ n
    pub apart : (c : ℕ) → total (for_caller c) s.views ≤ 1
    -- what each view knows is so
    pub fits : (j : ℕ) (v : View B E) → get_elem? s.views j ≡ some v → Fits serving ticket start log over home v
    -- the slot is out with a view
    pub out : home ≡ none → (j : ℕ) × (v : View B E) × (get_elem? s.views j ≡ some v) × (v.has ≡ 1)
    -- at home it has a value, which stands for the journal
    pub inside : (y : S) → home ≡ some y → Good y start log × (ended_of y ≡ over)
    -- that the machine has ended is known to a seat
    pub told : when over 1 ≤ total enders s.views

  -- a ticket was drawn
  abbrev pub Drawn : Step S → Me S (View B E) → ℕ → Me S (View B E) → Type 0
  Drawn st m n m' = (k : ℕ) × (k % 2 ^ 64 ≡ n) × (m' ≡ (waits k m.0.seats, m.1))

  -- where the ticket is served, the slot was taken, and the whole journal seen
  abbrev pub Looked : Step S → Me S (View B E) → ℕ → Me S (View B E) → Type 0
  Looked st m n m' =
      (m.0.ticket % 2 ^ 64 ≢ n → m' ≡ m)
      × (m.0.ticket % 2 ^ 64 ≡ n → (start : B) × (log : List E) × (y : S) × Good y start log × AllSo caller start log (ended_of y) m.0.seats
      × (m' ≡ (holder m.0.ticket (map (sees log (ended_of y)) m.0.seats), (0, y) ∷ m.1)))

  -- the count was raised, by an event of the one caller
  abbrev pub Raised : Step S → Me S (View B E) → ℕ → Me S (View B E) → Type 0
  Raised st m n m' = (k : Knowledge B E) (e : E) (y : S) → caller e ≡ k.caller → m.0.seats ≡ k ∷ [] → m.1 ≡ (0, y) ∷ [] → Good y k.start (k.seen ++ e ∷ [])
      → m' ≡ (holder m.0.ticket (adds e k ∷ []), m.1)

  -- the turn was passed, and the slot given back
  abbrev pub Passed : Step S → Me S (View B E) → ℕ → Me S (View B E) → Type 0
  Passed st m n m' = (k : Knowledge B E) (y : S) → m.0.seats ≡ k ∷ [] → m.1 ≡ (0, y) ∷ [] → m' ≡ (sits (hears (ended_of y) k ∷ []), rest m.1)
