-- What is kept of a log while the replies are the log's, and what is read of it in the end.
use Rattle.std.specs.Prelude.{◌≡◌, ℕ, ◌+◌, ◌≤◌, List, length, take, drop, Some, IfSome}
use Rattle.log_checkpoint.specs.declared.found.Found.TheVariants as found
use Rattle.log_checkpoint.specs.Backwards.{told_of}
use Rattle.log_checkpoint.specs.Passed as search
use Rattle.log_reader.specs.Keeping.{AreBytes, AreWhole, IsOf, HasLastOf}
use Rattle.log_reader.specs.declared.calls.LogCall.{LogCall}
use Rattle.log_reader.specs.declared.calls.LogCall.TheVariants as call
use Rattle.log_reader.specs.declared.calls.LogReply.{LogReply}
use Rattle.log_reader.specs.declared.calls.LogReply.TheVariants as reply
use Rattle.log_reader.specs.declared.calls.LogRead.TheVariants as read
use Rattle.log_record.specs.declared.log.Log.{Log}
use Rattle.checkpoint_reader.specs.declared.reader.Looking.{Looking}
use Rattle.checkpoint_reader.specs.Readers.{ReaderState, IsNew, next_call, after_reply, IsRead}

-- the search is one of this log, from this end of whole records, and wants these bytes
pub record LooksIn (log : List ℕ) (known : ℕ) (l : Looking) : Type 0 where
  pub of : search.IsOf log known l.search
  pub wants : told_of l.search ≡ Some (found.Wants l.at l.count)

-- what is kept is this log's, and so is what the search has
pub record Stands (log : List ℕ) (r : ReaderState) : Type 0 where
  pub kept : IsOf log r.held
  pub looks : IfSome r.looking (LooksIn log r.known)

-- so many of the log's bytes stand in the block, from the one on that was asked for
abbrev pub HasRead : List ℕ → LogCall → ℕ → List ℕ → Type 0
HasRead log call.Length n block = ⊥
HasRead log (call.Read at count) n block = (at + n ≤ length log) × (take n block ≡ take n (drop at log)) × AreBytes block

-- what the log replies to what is asked of it
abbrev pub IsReply : List ℕ → ReaderState → LogReply → Type 0
IsReply log r (reply.Length long) = long ≡ length log
IsReply log r (reply.Count n) = HasRead log (next_call r) n r.block

-- ---- laws

abbrev pub NothingStands : Type 0
NothingStands = (log : List ℕ) (member : ℕ) (r : ReaderState) → IsNew member r → Stands log r

-- up to where the log is known to be whole records it is
abbrev pub RepliesStand : Type 0
RepliesStand = (log : List ℕ) (r : ReaderState) (x : LogReply) → AreWhole (take r.known log) → IsReply log r x → Stands log r → Stands log (after_reply r x)

-- all of the log is read
abbrev pub ReadIsLast : Type 0
ReadIsLast = (bytes : List ℕ) (r : ReaderState) (log : Log) → Stands bytes r → length bytes ≤ r.held.end → IsRead r (read.Whole log) → HasLastOf bytes log
