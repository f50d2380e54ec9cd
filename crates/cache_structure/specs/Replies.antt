-- What the commands of a cache structure answer.
use Rattle.std.specs.Prelude.{ℕ, Bool, List, Option, is_some, unwrap_or, if◌then◌else◌}
use Rattle.std.specs.Option.{option_map_or}
use Rattle.ds_base.specs.declared.names.PageId.{PageId}
use Rattle.cache_structure.specs.Entries.{Entry, entry_of}
use Rattle.cache_structure.specs.Directory.{Directory, bytes_of, is_full_for, may_cast, is_taken, holds_castout}
use Rattle.cache_structure.specs.declared.face.ReadReply.{ReadReply}
use Rattle.cache_structure.specs.declared.face.ReadReply.TheVariants as read
use Rattle.cache_structure.specs.declared.face.WriteReply.{WriteReply}
use Rattle.cache_structure.specs.declared.face.WriteReply.TheVariants as write
use Rattle.cache_structure.specs.declared.face.CastReply.{CastReply}
use Rattle.cache_structure.specs.declared.face.CastReply.TheVariants as cast
use Rattle.cache_structure.specs.declared.face.DoneReply.{DoneReply}
use Rattle.cache_structure.specs.declared.face.DoneReply.TheVariants as done

abbrev pub read_reply : Directory → PageId → ReadReply
read_reply d id =
    if d.lost then read.Lost
    else if is_full_for d id then read.CacheFull
    else if is_some (bytes_of d id) then read.Found
    else read.NoData

-- the bytes that a read or a castout leaves in the buffer: the page's, where there are any
abbrev pub read_into : Directory → PageId → List ℕ → List ℕ
read_into d id before = if d.lost then before else unwrap_or (bytes_of d id) before

abbrev pub write_reply : Directory → PageId → WriteReply
write_reply d id =
    if d.lost then write.Lost
    else if is_full_for d id then write.CacheFull
    else write.Written

-- the member takes the castout lock of a changed page, unless another member holds it
abbrev pub cast_reply_for : ℕ → Bool → Option ℕ → CastReply
cast_reply_for member changed castout =
    if may_cast member changed castout then cast.Taken
    else if changed then cast.Locked (unwrap_or castout member)
    else cast.NotChanged

abbrev pub cast_reply_at : ℕ → Entry → CastReply
cast_reply_at member e = cast_reply_for member e.changed e.castout

abbrev pub cast_reply : Directory → ℕ → PageId → CastReply
cast_reply d member id =
    if d.lost then cast.Lost else option_map_or (cast_reply_at member) (entry_of d.entries id) cast.NotChanged

abbrev pub cast_into : Directory → ℕ → PageId → List ℕ → List ℕ
cast_into d member id before = if is_taken d member id then read_into d id before else before

abbrev pub done_reply : Directory → ℕ → PageId → DoneReply
done_reply d member id =
    if d.lost then done.Lost
    else if holds_castout d member id then done.Done
    else done.NotHeld
