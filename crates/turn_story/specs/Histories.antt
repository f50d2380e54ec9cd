-- What a history says of the value and of the parts.
use Rattle.std.specs.Prelude.{◌≡◌, ℕ, List, [], ◌∷◌, map}
use Rattle.turn_story.specs.declared.step.Step.{Step}
use Rattle.turn_story.specs.Chains.{with_part, Leads}

module _ {M P : Type 0} where
  -- the number of the event
  abbrev pub number_of : Step M P → ℕ
  number_of x = x.event

  -- what the history's last event left, or the value m
  abbrev pub value_after : M → List (Step M P) → M
  value_after m [] = m
  value_after m (x ∷ xs) = value_after x.value.value xs

  module _ (caller : ℕ → ℕ) where
    -- the parts after the history, each as its caller's last event left it
    abbrev pub parts_after : List P → List (Step M P) → List P
    parts_after parts [] = parts
    parts_after parts (x ∷ xs) = parts_after (with_part parts (caller x.event) x.part.value) xs

    module _ (steps : M → P → ℕ → M → P → Type 0) where
      -- the history's events lead from the value m and these parts to the value now
      pub record IsTold (m : M) (parts : List P) (log : List (Step M P)) (now : M) : Type 0 where
        pub last : now ≡ value_after m log
        pub leads : Leads caller steps m parts (map number_of log) now (parts_after parts log)
