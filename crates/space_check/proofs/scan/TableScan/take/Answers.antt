use Rattle.space_check.proofs.Scanning.{scans_by}
use Rattle.space_check.proofs.scan.TableScan.take.Goals as goal

pub returns-clause-scanned : goal.returns-clause-scanned
returns-clause-scanned g c =
    scans_by (g.D.Disk.contents c.args.disk.now) (g.D.Disk.contents c.take-3.new.disk) (g.D.Disk.faults c.args.disk.now) (g.D.Disk.faults c.take-3.new.disk) c.args.it.now c.args.self.now
    (record { met = c.take-3.new.self; standing = c.take.new.self; turns = c.take-2.new.self }) c.take-3.result c.take-3.ensures.met c.take-3.ensures.records
