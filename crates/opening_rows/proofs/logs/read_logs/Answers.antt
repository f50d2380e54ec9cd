use Rattle.std.proofs.Common.{◌+◌, List, sym, subst, arith}
use Rattle.ds_disk.specs.Contents.{WhenTold}
use Rattle.log_record.specs.declared.log.Log.{Log}
use Rattle.opening_rows.proofs.Told.{AreFirst, held_before, same_on, more_first}
use Rattle.opening_rows.proofs.logs.read_logs.Goals as goal

pub loop-n-preserved : goal.loop-n-preserved
loop-n-preserved g c =
    let start = g.D.Disk.contents c.args.disk.now in
    let read = c.in_ok-log.ensures in
    let found = held_before start _ _ c.loop-n.invariant.1 read.ok in
    let more = more_first start c.loop-n.n c.member_behind.result c.loop-n.logs.items c.in_ok-log.log c.loop-n-test.true c.member_behind.ensures (g.D.Disk.has_logs c.args.disk.now) c.loop-n.invariant.0 found in (
      subst (λ (logs : List Log). WhenTold start (AreFirst (c.loop-n.n + 1) logs)) (sym c.in_ok-put.ensures) more,
      same_on _ _ _ c.loop-n.invariant.1 read.same,
      omega (arith, c.loop-n.invariant.2, read.later),
    )
