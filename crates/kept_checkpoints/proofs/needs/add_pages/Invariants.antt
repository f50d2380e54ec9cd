use Rattle.std.proofs.Common.{◌≡◌, ◌++◌, map, drop}
use Rattle.kept_checkpoints.specs.Needs.{need_of}
use Rattle.kept_checkpoints.proofs.needs.add_pages.Given as goal

abbrev pub invariant-loop-page : goal.invariant-loop-page
invariant-loop-page l = l.needs ++ map (need_of l.is_open l.lrsn) (drop l.page-index l.pages) ≡ l.fn.needs ++ map (need_of l.is_open l.lrsn) l.pages
