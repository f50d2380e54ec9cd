use Rattle.std.proofs.lemmas.Grind.{common_steps}
use Rattle.std.proofs.Common.{arith}
use Rattle.ds_disk.proofs.Writes.{written_stays}
use Rattle.ds_disk.proofs.page_map.PageMap.write_all.Goals as goal

pub loop-id-preserved : goal.loop-id-preserved
loop-id-preserved c = record {
  put = grind (arith, common_steps);
  bytes = λ h. written_stays _ _ _ _ c.in_ok-write.ensures.ok c.in_ok-write.ensures.bytes (c.loop-id.invariant.bytes h);
}
