-- Whether a disk of files still answers, and how often it has failed.
use Rattle.std.specs.Prelude.{ℕ, Bool, false}
use Rattle.ds_disk.specs.Conditions.{one_more}

pub record Condition : Type 0 where
  pub alive : Bool
  pub faults : ℕ

abbrev pub failed : Condition → Condition
failed h = record h { faults = one_more h.faults }

abbrev pub died : Condition → Condition
died h = record (failed h) { alive = false }
