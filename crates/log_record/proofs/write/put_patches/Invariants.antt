use Rattle.std.proofs.Common.{◌≡◌, ◌+◌, ◌≤◌, ◌++◌, length, take, drop}
use Rattle.std.specs.List.{flat_map}
use Rattle.log_record.specs.Kept.{SameFrom}
use Rattle.ds_model.specs.RecordBytes.{patch_bytes}
use Rattle.log_record.proofs.write.put_patches.Given as goal

abbrev pub invariant-loop-patch : goal.invariant-loop-patch
invariant-loop-patch l = record {
  next : l.at ≡ l.start + length (flat_map patch_bytes (take l.patch-index l.patches));
  front : take l.at l.into ≡ take l.start l.initial.into ++ flat_map patch_bytes (take l.patch-index l.patches);
  back : SameFrom l.at l.initial.into l.into;
  room : l.at + length (flat_map patch_bytes (drop l.patch-index l.patches)) ≤ length l.into;
}
