-- The commands of the cache leave the count of frames as it is.
use Rattle.std.proofs.Common.{◌≡◌, ℕ, List, refl}
use Rattle.std.specs.Prelude.{Bool, true, false, Option, Some, None, if◌then◌else◌}
use Rattle.std.specs.Option.{option_map, option_map_or}
use Rattle.ds_base.specs.declared.names.PageId.{PageId}
use Rattle.cache_structure.specs.Entries.{Entry, fresh, entry_of}
use Rattle.cache_structure.specs.Directory.{Directory, has_free_place, reclaimable, reclaimed, with_newest, made, with_entry, registers, written_by, after_read, after_write}

-- what there is of it has so many frames
abbrev Has : ℕ → Option Directory → Type 0
Has n None = Unit {0}
Has n (Some d) = d.frames ≡ n

made_when : (b : Bool) (r : Option Entry) (d : Directory) (id : PageId) → Has d.frames (if b then Some (with_newest d (fresh id)) else option_map (λ e. with_newest (reclaimed d e) (fresh id)) r)
made_when true r d id = refl
made_when false None d id = tt
made_when false (Some e) d id = refl

entry_when : (e : Option Entry) (d : Directory) (id : PageId) → Has d.frames (option_map_or (λ e. Some (with_newest d e)) e (made d id))
entry_when None d id = made_when (has_free_place d) (reclaimable d) d id
entry_when (Some e) d id = refl

entry_has : (d : Directory) (id : PageId) → Has d.frames (with_entry d id)
entry_has d id = entry_when (entry_of d.entries id) d id

read_when : (b : Bool) (o : Option Directory) (d : Directory) (member : ℕ) (id : PageId) (index : ℕ) → Has d.frames o
    → (if b then d else option_map_or (λ made. registers made member id index) o d).frames ≡ d.frames
read_when true o d member id index h = refl
read_when false None d member id index h = refl
read_when false (Some made) d member id index h = h

pub read_frames : (d : Directory) (member : ℕ) (id : PageId) (index : ℕ) → (after_read d member id index).frames ≡ d.frames
read_frames d member id index = read_when d.lost (with_entry d id) d member id index (entry_has d id)

write_when : (b : Bool) (o : Option Directory) (d : Directory) (member : ℕ) (id : PageId) (index : ℕ) (bytes : List ℕ) → Has d.frames o
    → (if b then d else option_map_or (λ made. registers (written_by made member id bytes) member id index) o d).frames ≡ d.frames
write_when true o d member id index bytes h = refl
write_when false None d member id index bytes h = refl
write_when false (Some made) d member id index bytes h = h

pub write_frames : (d : Directory) (member : ℕ) (id : PageId) (index : ℕ) (bytes : List ℕ) → (after_write d member id index bytes).frames ≡ d.frames
write_frames d member id index bytes = write_when d.lost (with_entry d id) d member id index bytes (entry_has d id)
