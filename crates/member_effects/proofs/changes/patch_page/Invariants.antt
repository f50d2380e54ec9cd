use Rattle.std.proofs.Common.{◌≡◌, drop}
use Rattle.std.specs.List.{AllByRecursion}
use Rattle.ds_model.specs.RecordBytes.{PatchIsAllowed}
use Rattle.heap_space.specs.Written.{written}
use Rattle.member_effects.proofs.changes.patch_page.Given as goal

abbrev pub invariant-loop-patch : goal.invariant-loop-patch
invariant-loop-patch l = record {
  rest : written l.id l.lrsn (drop l.patch-index l.patches) l.page ≡ written l.id l.lrsn l.patches l.fn.page;
  allowed : AllByRecursion PatchIsAllowed (drop l.patch-index l.patches);
}
