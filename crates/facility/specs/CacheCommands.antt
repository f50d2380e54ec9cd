-- The commands of the cache structure.
use Rattle.std.specs.Prelude.{ℕ, ◌≡◌, Bool, true, false, List, Option, Some, None, if◌then◌else◌}
use Rattle.ds_base.specs.declared.names.PageId.{PageId}
use Rattle.cache_structure.specs.declared.face.ReadReply.{ReadReply}
use Rattle.cache_structure.specs.declared.face.ReadReply.TheVariants as read
use Rattle.cache_structure.specs.declared.face.WriteReply.{WriteReply}
use Rattle.cache_structure.specs.declared.face.WriteReply.TheVariants as write
use Rattle.cache_structure.specs.declared.face.CastReply.{CastReply}
use Rattle.cache_structure.specs.declared.face.CastReply.TheVariants as cast
use Rattle.cache_structure.specs.declared.face.DoneReply.{DoneReply}
use Rattle.cache_structure.specs.declared.face.DoneReply.TheVariants as done
use Rattle.cache_structure.specs.Directory.{Directory, IsNextChanged, bit, after_read, after_write, after_unregister, after_castout_read, after_castout_done, after_lose, after_rebuilt}
use Rattle.cache_structure.specs.Replies.{read_reply, read_into, write_reply, cast_reply, cast_into, done_reply}
use Rattle.list_structure.specs.States.{ListsState}
use Rattle.facility.specs.declared.command.Reply.{Reply}
use Rattle.facility.specs.declared.command.Reply.TheVariants as reply
use Rattle.facility.specs.States.{Held, ring}

abbrev pub reply_to_read : ReadReply → Reply
reply_to_read read.Found = reply.Found
reply_to_read read.NoData = reply.NoData
reply_to_read read.CacheFull = reply.CacheFull
reply_to_read read.Lost = reply.Lost

abbrev pub reply_to_write : WriteReply → Reply
reply_to_write write.Written = reply.Written
reply_to_write write.CacheFull = reply.CacheFull
reply_to_write write.Lost = reply.Lost

abbrev pub reply_to_cast : CastReply → Reply
reply_to_cast cast.Taken = reply.Taken
reply_to_cast cast.NotChanged = reply.NotChanged
reply_to_cast (cast.Locked by) = reply.Locked by
reply_to_cast cast.Lost = reply.Lost

abbrev pub reply_to_done : DoneReply → Reply
reply_to_done done.Done = reply.Done
reply_to_done done.NotHeld = reply.NotHeld
reply_to_done done.Lost = reply.Lost

-- all bells ring at the end of a castout that was the member's
abbrev pub lists_after_done : DoneReply → ListsState → ListsState
lists_after_done done.Done lists = ring lists
lists_after_done done.NotHeld lists = lists
lists_after_done done.Lost lists = lists

-- the page's new bytes stand last
abbrev pub ReadsPage : Held → ℕ → PageId → ℕ → List ℕ → Reply → Held → List ℕ → Type 0
ReadsPage w m id index page answer v after =
    (answer ≡ reply_to_read (read_reply w.directory id))
    × (v ≡ record w { directory = after_read w.directory m id index })
    × (after ≡ read_into w.directory id page)

abbrev pub WritesPage : Held → ℕ → PageId → ℕ → List ℕ → Reply → Held → Type 0
WritesPage w m id index page answer v =
    (answer ≡ reply_to_write (write_reply w.directory id))
    × (v ≡ record w { directory = after_write w.directory m id index page })

abbrev pub UnregistersFrame : Held → ℕ → ℕ → Reply → Held → Type 0
UnregistersFrame w m index answer v =
    (answer ≡ reply.Done) × (v ≡ record w { directory = after_unregister w.directory m index })

abbrev pub TestsFrame : Held → ℕ → ℕ → Reply → Held → Type 0
TestsFrame w m index answer v =
    (answer ≡ (if bit w.directory m index then reply.Valid else reply.Invalid)) × (v ≡ w)

abbrev pub BeginsCastout : Held → ℕ → PageId → List ℕ → Reply → Held → List ℕ → Type 0
BeginsCastout w m id page answer v after =
    (answer ≡ reply_to_cast (cast_reply w.directory m id))
    × (v ≡ record w { directory = after_castout_read w.directory m id })
    × (after ≡ cast_into w.directory m id page)

abbrev pub EndsCastout : Held → ℕ → PageId → Reply → Held → Type 0
EndsCastout w m id answer v =
    (answer ≡ reply_to_done (done_reply w.directory m id))
    × (v ≡ record w { directory = after_castout_done w.directory m id; lists = lists_after_done (done_reply w.directory m id) w.lists })

abbrev pub IsChangedReply : Directory → Option PageId → Reply → Type 0
IsChangedReply d after reply.Nothing = IsNextChanged d after None
IsChangedReply d after (reply.ChangedPage page) = IsNextChanged d after (Some page)
IsChangedReply d after _ = ⊥

abbrev pub FindsChanged : Held → Option PageId → Reply → Held → Type 0
FindsChanged w after answer v = IsChangedReply w.directory after answer × (v ≡ w)

abbrev pub LosesCache : Held → Reply → Held → Type 0
LosesCache w answer v = (answer ≡ reply.Done) × (v ≡ record w { directory = after_lose w.directory })

abbrev pub HasRebuilt : Held → Reply → Held → Type 0
HasRebuilt w answer v = (answer ≡ reply.Done) × (v ≡ record w { directory = after_rebuilt w.directory; lists = ring w.lists })
