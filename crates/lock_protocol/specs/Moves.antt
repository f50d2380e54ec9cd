-- The moves of the locks, each with what must hold before it.
use Rattle.std.specs.Prelude.{◌≡◌, ◌≢◌, ◌⊎◌, ℕ, Bool, true, false, if◌then◌else◌, List, [], ◌∷◌, Some, None}
use Rattle.lock_names.specs.declared.mode.Mode.{Mode}
use Rattle.lock_names.specs.declared.mode.Interest.{Interest}
use Rattle.lock_names.specs.Modes.{class_of}
use Rattle.lock_protocol.specs.Machine.{World, Clean, Asked, Conflict, blocks, backs, allows, Covers, RetainedCovers, RetainedAllows, IsClear, wanted, granted, entered, cleared, told, released, given_up, handed_on, failed, restarted, purged, start}

-- The first numbers of a move are a member and one of its owners, then a name and the mode that is needed. A grant
-- says whether the claim was entered too, or only the facility granted the name. What is given up is told by owner and
-- name.
pub data Move : Type 0 where
  Obtain : ℕ → ℕ → ℕ → Mode → Bool → Move
  Grant : ℕ → ℕ → ℕ → Mode → Bool → Move
  Refuse : ℕ → ℕ → Move
  Local : ℕ → ℕ → ℕ → Mode → Move
  Ask : ℕ → ℕ → ℕ → ℕ → Mode → Move
  AnswerClean : ℕ → ℕ → ℕ → ℕ → Mode → Move
  AnswerConflict : ℕ → ℕ → ℕ → ℕ → Mode → Move
  Release : ℕ → ℕ → ℕ → Interest → Move
  GiveUp : ℕ → (ℕ → ℕ → Bool) → Move
  Demote : ℕ → ℕ → ℕ → Mode → Move
  Postpone : ℕ → ℕ → ℕ → Move
  Fail : ℕ → Move
  Restart : ℕ → Move
  Purge : ℕ → ℕ → Move
  GroupFail : Move

-- the mode that an owner asks for: its claim joined with its need
abbrev pub asked : World → ℕ → ℕ → ℕ → Mode → Mode
asked w m owner name need = wanted (w.claims m owner name) need

-- no other member has a retained record of the name that is in the way
abbrev pub NotRetained : World → ℕ → ℕ → Mode → Type 0
NotRetained w m name mode = (k : ℕ) → k ≢ m → RetainedAllows (w.records k name) mode

-- no other live member has interest in the entry that is in the way
abbrev pub NoContention : (ℕ → ℕ) → World → ℕ → ℕ → Mode → Type 0
NoContention entry w m name mode = (k : ℕ) → k ≢ m → w.live k ≡ true → blocks (class_of mode) (w.interest k (entry name)) ≡ false

-- each other live member with such interest has answered that it has no such claim, and nothing was granted in the entry since
abbrev pub AllClean : (ℕ → ℕ) → World → ℕ → ℕ → ℕ → Mode → Type 0
AllClean entry w m owner name mode = (k : ℕ) → k ≢ m → w.live k ≡ true
    → (blocks (class_of mode) (w.interest k (entry name)) ≡ false) ⊎ (w.cells m owner k ≡ Clean name mode (w.version (entry name)))

-- no other owner of the member has a claim in the way
abbrev pub NoLocalConflict : World → ℕ → ℕ → ℕ → Mode → Type 0
NoLocalConflict w m owner name mode = (q : ℕ) → q ≢ owner → allows (w.claims m q name) mode ≡ true

-- each claim of the member on another name of the entry has the interest that is kept, or a retained record, behind it
abbrev pub KeepsInterest : (ℕ → ℕ) → World → ℕ → ℕ → Interest → Type 0
KeepsInterest entry w m name keeps = (q n : ℕ) (x : Mode) → n ≢ name → entry n ≡ entry name → w.claims m q n ≡ Some x
    → (backs (class_of x) keeps ≡ true) ⊎ RetainedCovers (w.records m n) x

-- no owner of the member has a claim on the name
abbrev pub NoClaim : World → ℕ → ℕ → Type 0
NoClaim w m name = (q : ℕ) → w.claims m q name ≡ None

abbrev pub enter_if : Bool → World → ℕ → ℕ → ℕ → Mode → World
enter_if b w m owner name mode = if b then entered w m owner name mode else w

abbrev pub Step : (ℕ → ℕ) → World → Move → World → Type 0
Step entry w (Obtain m owner name need b) v =
    let mode = asked w m owner name need in
    (w.live m ≡ true) × NotRetained w m name mode × NoContention entry w m name mode
    × (b ≡ true → NoLocalConflict w m owner name mode)
    × (v ≡ enter_if b (granted entry w m name mode) m owner name mode)
Step entry w (Grant m owner name need b) v =
    let mode = asked w m owner name need in
    (w.live m ≡ true) × NotRetained w m name mode × AllClean entry w m owner name mode
    × (b ≡ true → NoLocalConflict w m owner name mode)
    × (v ≡ enter_if b (cleared (granted entry w m name mode) m owner) m owner name mode)
Step entry w (Refuse m owner) v = v ≡ cleared w m owner
Step entry w (Local m owner name need) v =
    let mode = asked w m owner name need in
    (w.live m ≡ true) × ((q : ℕ) × Covers (w.claims m q name) mode) × NoLocalConflict w m owner name mode
    × (v ≡ entered w m owner name mode)
Step entry w (Ask m owner k name mode) v = v ≡ told w m owner k (Asked name mode)
Step entry w (AnswerClean k m owner name mode) v =
    ((q : ℕ) → IsClear (w.claims k q name) (w.records k name) mode) × (v ≡ told w m owner k (Clean name mode (w.version (entry name))))
Step entry w (AnswerConflict k m owner name mode) v = v ≡ told w m owner k (Conflict name mode)
Step entry w (Release m owner name keeps) v =
    ((q : ℕ) → q ≢ owner → w.claims m q name ≡ None) × KeepsInterest entry w m name keeps
    × (v ≡ released entry w m owner name keeps)
Step entry w (GiveUp m which) v = v ≡ given_up w m which
Step entry w (Demote m owner name mode) v = Covers (w.claims m owner name) mode × (v ≡ entered w m owner name mode)
Step entry w (Postpone m owner to) v = (owner ≢ to) × ((n : ℕ) → w.claims m to n ≡ None) × (v ≡ handed_on w m owner to)
Step entry w (Fail m) v = v ≡ failed w m
Step entry w (Restart m) v = v ≡ restarted w m
Step entry w (Purge m name) v = NoClaim w m name × (v ≡ purged w m name)
Step entry w GroupFail v = v ≡ start

abbrev pub Run : (ℕ → ℕ) → World → List Move → World → Type 0
Run entry w [] v = v ≡ w
Run entry w (e ∷ es) v = (mid : World) × Step entry w e mid × Run entry mid es v
