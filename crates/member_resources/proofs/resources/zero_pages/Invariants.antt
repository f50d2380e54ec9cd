use Rattle.std.proofs.Common.{◌≡◌, replicate}
use Rattle.page_format.specs.Fields.{page_size}
use Rattle.member_resources.proofs.resources.zero_pages.Given as goal

abbrev pub invariant-loop : goal.invariant-loop
invariant-loop l = l.pages.items ≡ replicate l.counter (replicate page_size 0)
