use Rattle.std.proofs.Common.{◌≡◌, ℕ, drop}
use Rattle.std.specs.Prelude.{find, not}
use Rattle.cache_structure.specs.Directory.{bit}
use Rattle.facility.proofs.facility.Facility.first_stale.Given as goal

abbrev pub invariant-loop-index : goal.invariant-loop-index
invariant-loop-index g l =
    let is_stale = λ (i : ℕ). not (bit (g.C.CacheFace.directory l.self.cache) l.member i) in
    find is_stale (drop l.index-index l.frames) ≡ find is_stale l.frames
