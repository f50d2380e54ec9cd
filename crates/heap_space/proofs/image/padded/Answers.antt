use Rattle.std.proofs.Common.{◌≡◌, ℕ, List, ◌++◌, length, drop, replicate, ap, ◌∙◌}
use Rattle.std.proofs.lemmas.List.{drop-replicate}
use Rattle.heap_space.specs.Slots.{padded}
use Rattle.heap_space.proofs.image.padded.Goals as goal

filled_by : (put bytes : List ℕ) → put ≡ bytes → put ++ drop (length bytes) (replicate 112 0) ≡ padded bytes
filled_by put bytes is = ap (λ (l : List ℕ). l ++ drop (length bytes) (replicate 112 0)) is ∙ ap (λ (l : List ℕ). bytes ++ l) (drop-replicate (length bytes) 112 0)

pub returns : goal.returns
returns c = filled_by _ c.args.value.now c.copy_from_slice.ensures.after
