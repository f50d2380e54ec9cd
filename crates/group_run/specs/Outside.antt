-- What the source and the disk tell at a moment, and how often each has failed.
use Rattle.std.specs.Prelude.{◌≡◌, ℕ, Bool, List, Option}
use Rattle.ds_disk.specs.Contents.{Contents}

pub record Outside : Type 0 where
  pub left : Option (List ℕ)
  pub source_faults : ℕ
  pub contents : Option Contents
  pub alive : Bool
  pub disk_faults : ℕ

abbrev pub outside : Option (List ℕ) → ℕ → Option Contents → Bool → ℕ → Outside
outside left source_faults contents alive disk_faults = record { left = left; source_faults = source_faults; contents = contents; alive = alive; disk_faults = disk_faults }

-- no call of the disk was made
abbrev pub DiskIsUntouched : Outside → Outside → Type 0
DiskIsUntouched before after = (after.contents ≡ before.contents) × (after.alive ≡ before.alive) × (after.disk_faults ≡ before.disk_faults)
