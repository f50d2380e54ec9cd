-- What begins doesn't end before, and what a reading answers.
use Rattle.std.specs.Prelude.{◌≡◌, ◌≤◌}
use Rattle.std.specs.List.{All}
use Rattle.run_spans.specs.declared.span.Span.{Span}
use Rattle.run_spans.specs.declared.span.Wait.{Wait}
use Rattle.run_spans.specs.declared.spans.Spans.{Spans}
use Rattle.run_spans.specs.Runs.{Known}

abbrev pub IsReach : Span → Type 0
IsReach s = s.first ≤ s.last

abbrev pub IsWaiting : Wait → Type 0
IsWaiting w = w.from ≤ w.to

pub record AreReaches (read : Spans) : Type 0 where
  pub spans : All IsReach read.spans.items
  pub waits : All IsWaiting read.waits.items

-- the transactions, waits and pages that are known
pub record IsRead (read : Spans) (k : Known) : Type 0 where
  pub spans : read.spans.items ≡ k.spans
  pub commits : read.commits.items ≡ k.commits
  pub waits : read.waits.items ≡ k.waits
  pub pages : read.pages.items ≡ k.pages
