use Rattle.std.proofs.Common.{◌≡◌, ◌*◌, ◌≤◌, length, take}
use Rattle.std.specs.List.{flat_map}
use Rattle.ds_model.specs.RecordBytes.{patch_bytes}
use Rattle.page_plans.proofs.patches.sum_of.Given as goal

abbrev pub invariant-loop-patch : goal.invariant-loop-patch
invariant-loop-patch l = (l.total ≡ length (flat_map patch_bytes (take l.patch-index l.patches))) × (l.total ≤ 4074 * l.patch-index)
