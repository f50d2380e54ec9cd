-- Replies behind which the facility is as it was.
use Rattle.std.specs.Prelude.{◌≡◌, ◌⊎◌, ℕ, List}
use Rattle.ds_base.specs.declared.names.PageId.{PageId}
use Rattle.facility.specs.declared.command.Reply.{Reply}
use Rattle.facility.specs.declared.command.Reply.TheVariants as reply
use Rattle.facility.specs.States.{Held}
use Rattle.facility.specs.CacheCommands.{ReadsPage, WritesPage}

-- the cache structure is full, or lost
abbrev pub ReadRefused : Type 0
ReadRefused = (f v : Held) (m index : ℕ) (id : PageId) (page bytes : List ℕ) (answer : Reply)
    → (answer ≡ reply.CacheFull) ⊎ (answer ≡ reply.Lost) → ReadsPage f m id index page answer v bytes → (v ≡ f) × (bytes ≡ page)

abbrev pub WriteRefused : Type 0
WriteRefused = (f v : Held) (m index : ℕ) (id : PageId) (page : List ℕ) (answer : Reply)
    → (answer ≡ reply.CacheFull) ⊎ (answer ≡ reply.Lost) → WritesPage f m id index page answer v → v ≡ f
