-- What soundness gives to the layers above, each fact by its name.
use Rattle.std.specs.Prelude.{◌≡◌, ◌≢◌, ◌⊎◌, ℕ, true, false, Some, None}
use Rattle.lock_names.specs.declared.mode.Mode.{Mode}
use Rattle.lock_names.specs.declared.mode.Mode.TheVariants.{X}
use Rattle.lock_names.specs.Modes.{are_compatible, class_of, is_recorded, join_of}
use Rattle.lock_protocol.specs.Machine.{World, backs, RetainedCovers, failed}
use Rattle.lock_protocol.specs.Sound.{Sound}

-- owners of two members, or two owners of one
abbrev pub AreOthers : ℕ → ℕ → ℕ → ℕ → Type 0
AreOthers k o l q = k ≡ l → o ≢ q

-- the claim is on a name in whose entry its live member has the interest, or for which it has a retained record
abbrev pub HasCover : (ℕ → ℕ) → World → ℕ → ℕ → Mode → Type 0
HasCover entry w k n a = ((w.live k ≡ true) × (backs (class_of a) (w.interest k (entry n)) ≡ true)) ⊎ RetainedCovers (w.records k n) a

pub record Gives (entry : ℕ → ℕ) (w : World) : Type 0 where
  pub compatible : (k l o q n : ℕ) (a b : Mode) → AreOthers k o l q → w.claims k o n ≡ Some a → w.claims l q n ≡ Some b → are_compatible a b ≡ true
  -- who has a name in X has it alone: so a page, which members lock in X, has one owner at most
  pub alone : (k l o q n : ℕ) → AreOthers k o l q → w.claims k o n ≡ Some X → w.claims l q n ≡ None
  pub one_holder : (k l o n : ℕ) → w.claims k o n ≡ Some X → w.claims l o n ≡ Some X → k ≡ l
  pub covered : (k o n : ℕ) (a : Mode) → w.claims k o n ≡ Some a → HasCover entry w k n a
  -- each claim of a failed member is retained
  pub retained : (k o n : ℕ) (a : Mode) → w.live k ≡ false → w.claims k o n ≡ Some a → RetainedCovers (w.records k n) a
  -- a recorded claim outlives a failure of its member, and is retained then
  pub outlives : (k o n : ℕ) (a : Mode) → w.claims k o n ≡ Some a → is_recorded a ≡ true → ((failed w k).claims k o n ≡ Some a) × RetainedCovers ((failed w k).records k n) a

abbrev pub SoundGives : Type 0
SoundGives = (entry : ℕ → ℕ) (w : World) → Sound entry w → Gives entry w

-- the join of claims that don't conflict is one of them
abbrev pub JoinIsOne : Type 0
JoinIsOne = (a b : Mode) → are_compatible a b ≡ true → (join_of a b ≡ a) ⊎ (join_of a b ≡ b)
