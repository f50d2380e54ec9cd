use Rattle.std.proofs.Common.{◌≡◌, ◌≤◌, Bool}
use Rattle.ds_disk.specs.Contents.{Becomes, Same}
use Rattle.redone_pages.specs.declared.range.TableRange.{TableRange}
use Rattle.space_check.specs.Scans.{IsScan}
use Rattle.space_check.proofs.Scanning.{HasScanned}
use Rattle.space_check.proofs.walk.scan_left.Given as goal

-- the records so far were scanned
abbrev pub invariant-loop : goal.invariant-loop
invariant-loop g l = record {
  scan : (range : TableRange) (early : Bool) → IsScan range early l.fn.scan → IsScan range early l.scan;
  range : l.scan.met.made.range ≡ l.scan.standing.rows.range;
  scanned : HasScanned (g.D.Disk.contents l.fn.disk) l.fn.heads.heads l.heads.heads l.fn.scan l.scan;
  block : l.heads.block ≡ l.fn.heads.block;
  same : Becomes (g.D.Disk.contents l.fn.disk) (g.D.Disk.contents l.disk) Same;
  later : g.D.Disk.faults l.fn.disk ≤ g.D.Disk.faults l.disk;
}
