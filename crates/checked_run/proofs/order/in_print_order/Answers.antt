use Rattle.std.proofs.Common.{◌≡◌, rules}
use Rattle.std.proofs.lemmas.List.Sorted.{answers_always}
use Rattle.checked_run.specs.Printed.{print_key}
use Rattle.checked_run.proofs.order.in_print_order.Goals as goal

pub returns : goal.returns
returns c =
    let computes = answers_always _ (λ a r. r ≡ print_key a.0.now) _ (λ f a r g k. search rules) in
    record {
      same = c.in_ok-sort_by_key.ensures.permutation;
      sorted = c.in_ok-sort_by_key.ensures.sorted print_key computes;
      stable = c.in_ok-sort_by_key.ensures.stable print_key computes;
    }
