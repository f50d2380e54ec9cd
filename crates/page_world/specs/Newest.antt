-- What copies are worth: a valid copy, and what is on disk.
use Rattle.std.specs.Prelude.{◌≡◌, ℕ, true, false, List, unwrap_or}
use Rattle.cache_structure.specs.Directory.{bit, bytes_of, is_changed}
use Rattle.page_protocol.specs.Moves.{World}
use Rattle.page_protocol.specs.Always.{Good}
use Rattle.page_world.specs.Numbers.{page_at}
use Rattle.page_world.specs.Holdings.{Holdings}
use Rattle.page_world.specs.Tied.{Tied}
use Rattle.page_world.specs.Cache.{HasFrame}

-- the cache structure's bytes, or else the disk's page
abbrev pub group_bytes : Holdings → ℕ → List ℕ
group_bytes g n = unwrap_or (bytes_of g.facility.directory (page_at n)) (g.disk n)

-- a copy that isn't changed, in a frame that a test finds valid, is the group's
abbrev pub ValidIsNewest : Type 0
ValidIsNewest = (w : World) (g : Holdings) (content : ℕ → ℕ → List ℕ) (m n index : ℕ)
    → Good w → Tied w g content → HasFrame g m n index → (g.copies m n).noted ≡ true → (g.copies m n).filled ≡ true → (g.copies m n).marked ≡ false → bit g.facility.directory m index ≡ true
    → (g.copies m n).bytes ≡ group_bytes g n

-- what isn't changed in the cache structure is on disk
abbrev pub CleanIsOnDisk : Type 0
CleanIsOnDisk = (w : World) (g : Holdings) (content : ℕ → ℕ → List ℕ) (n : ℕ) → Good w → Tied w g content → is_changed g.facility.directory (page_at n) ≡ false → group_bytes g n ≡ g.disk n
