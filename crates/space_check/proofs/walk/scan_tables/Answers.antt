use Rattle.std.proofs.Common.{◌≤◌, arith}
use Rattle.ds_disk.specs.Contents.{Contents}
use Rattle.ds_disk.specs.Pages.{page_at}
use Rattle.disk_walk.proofs.Reading.{told_by}
use Rattle.space_check.specs.Scans.{ScansLeft, IsScanOf}
use Rattle.space_check.proofs.Scanning.{scan_of}
use Rattle.space_check.proofs.walk.scan_tables.Goals as goal

pub returns-clause-scanned : goal.returns-clause-scanned
returns-clause-scanned g c =
    let read = c.in_ok-scan_left.ensures.scanned in
    record {
      ok =
          told_by (g.D.Disk.contents c.args.disk.now) (λ (d : Contents). ScansLeft d c.in_ok-heads.heads.heads c.new-scan.result c.scan_left.new.scan) (IsScanOf c.args.ends.now c.scan_left.new.scan)
          (λ d left. scan_of c.merged_laws.ensures d c.args.ends.now c.in_ok-heads.heads.heads c.new-scan.result c.scan_left.new.scan c.in_ok-heads.ensures.begin (c.new-scan.ensures.scanned (page_at d.pages)) left) read.ok;
      failed = λ e. absurd cc;
      same = read.same;
      later = read.later;
    }

pub returns-clause-scan : goal.returns-clause-scan
returns-clause-scan g c = c.in_ok-scan_left.ensures.scan c.args.range c.args.is_early c.new-scan.ensures.scan
