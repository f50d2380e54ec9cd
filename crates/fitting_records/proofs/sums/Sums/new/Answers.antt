use Rattle.std.proofs.Common.{◌≡◌, ◌∙◌, false, refl, ap, length, replicate}
use Rattle.std.specs.Prelude.{slice_index_or}
use Rattle.fitting_records.proofs.Asking.{none_noted, count_32}
use Rattle.fitting_records.proofs.sums.Sums.new.Goals as goal

pub returns-clause-nothing : goal.returns-clause-nothing
returns-clause-nothing c =
    let olds : c.in_ok-vec.field-0.items ≡ replicate 32 false = c.in_ok-vec.ensures.items_if_clones_equal (λ y h. h) in
    let ends : c.in_ok-vec-2.field-0.items ≡ replicate 32 false = c.in_ok-vec-2.ensures.items_if_clones_equal (λ y h. h) in
    record {
      passing_is = c.new.ensures;
      greatest_is = refl;
      olds = λ n. ap (λ l. slice_index_or l n false) olds ∙ none_noted 32 n;
      ends = λ n. ap (λ l. slice_index_or l n false) ends ∙ none_noted 32 n;
      olds_count = ap length olds ∙ count_32;
      ends_count = ap length ends ∙ count_32;
    }
