use Rattle.std.proofs.Common.{◌≡◌, ℕ, List, ◌++◌, length, drop, replicate, ap, ◌∙◌}
use Rattle.std.proofs.lemmas.List.{drop-replicate}
use Rattle.ds_base.specs.Values.{image}
use Rattle.ds_base.proofs.value.image_of.Goals as goal

filled_by : (put bytes : List ℕ) → put ≡ bytes → put ++ drop (length bytes) (replicate 100 0) ≡ image bytes
filled_by put bytes is = ap (λ (l : List ℕ). l ++ drop (length bytes) (replicate 100 0)) is ∙ ap (λ (l : List ℕ). bytes ++ l) (drop-replicate (length bytes) 100 0)

pub returns : goal.returns
returns c = filled_by _ c.args.bytes.now c.copy_from_slice.ensures.after
