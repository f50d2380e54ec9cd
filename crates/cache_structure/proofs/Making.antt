-- An entry that is made in a free slot.
use Rattle.std.proofs.Common.{◌≡◌, ℕ, true, List, length, Option, Some, None, sym, ap, ◌∙◌, arith}
use Rattle.std.specs.Prelude.{nat_lt, slice_get, if◌then◌else◌}
use Rattle.std.specs.Option.{option_map_or, option_map}
use Rattle.ds_base.specs.declared.names.PageId.{PageId}
use Rattle.cache_structure.specs.declared.slot.Slot.{Slot}
use Rattle.cache_structure.specs.Entries.{Entry, fresh, newest, without}
use Rattle.cache_structure.specs.Frames.{page_dropped}
use Rattle.cache_structure.specs.Slots.{entry_in, entry_at, entries_in, page_in, slot_at}
use Rattle.cache_structure.specs.State.{CacheState, directory_of}
use Rattle.cache_structure.specs.Directory.{made, reclaimable, reclaimed, with_newest}

no_entry : (slot : Slot) (bytes : Option (List ℕ)) → slot.page ≡ None → entry_in slot bytes ≡ None
no_entry slot bytes is = grind arith

pub made_free : (w v : CacheState) (id : PageId) (at : ℕ) → nat_lt (length (entries_in w.table)) (length w.table.slots) ≡ true → page_in w.table.slots at ≡ None
    → entries_in v.table ≡ newest (fresh id) (option_map_or (λ (e : Entry). without e.page (entries_in w.table)) (entry_at w.table at) (entries_in w.table))
    → (directory_of v).registered ≡ option_map_or (page_dropped (directory_of w).registered) (page_in w.table.slots at) (directory_of w).registered
    → length v.table.slots ≡ length w.table.slots → v.lost ≡ w.lost → v.bound.frames ≡ w.bound.frames
    → made (directory_of w) id ≡ Some (directory_of v)
made_free w v id at free none entries registered size lost frames =
    let d = directory_of w in
    let before = entries ∙ ap (λ o. newest (fresh id) (option_map_or (λ (e : Entry). without e.page (entries_in w.table)) o (entries_in w.table))) (no_entry (slot_at w.table.slots at) (slice_get w.table.pages at) none) in
    let frames_before = registered ∙ ap (λ o. option_map_or (page_dropped d.registered) o d.registered) none in
    ap (λ b. if b then Some (with_newest d (fresh id)) else option_map (λ e. with_newest (reclaimed d e) (fresh id)) (reclaimable d)) free
    ∙ sym (λ i. Some (record { entries = before i; registered = frames_before i; lost = lost i; size = size i; frames = frames i }))
