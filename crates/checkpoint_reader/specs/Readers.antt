-- A log that is read from its last checkpoint on.
use Rattle.std.specs.Prelude.{◌≡◌, ℕ, ◌==◌, ◌&&◌, nat_lt, nat_le, Bool, true, false, if◌then◌else◌, List, [], take, Option, None, Some, Result, Err}
use Rattle.log_checkpoint.specs.declared.found.Found.{Found}
use Rattle.log_checkpoint.specs.declared.found.Found.TheVariants as found
use Rattle.log_checkpoint.specs.Backwards.{SearchState, told_of, searched, filled}
use Rattle.log_reader.specs.Held.{HeldState, nothing_held, held_from}
use Rattle.log_reader.specs.Readers.{block_size}
use Rattle.log_reader.specs.Readers as reader
use Rattle.log_reader.specs.declared.calls.LogCall.{LogCall}
use Rattle.log_reader.specs.declared.calls.LogCall.TheVariants as call
use Rattle.log_reader.specs.declared.calls.LogReply.{LogReply}
use Rattle.log_reader.specs.declared.calls.LogReply.TheVariants as reply
use Rattle.log_reader.specs.declared.calls.LogRead.{LogRead}
use Rattle.log_reader.specs.declared.calls.LogRead.TheVariants as read
use Rattle.log_record.specs.Logs.{Parts}
use Rattle.checkpoint_reader.specs.declared.reader.Looking.{Looking}

-- whose log it is; up to where it is known to be whole records; the search for the last checkpoint of these, while it goes on; the log's length where it is known; what is
-- kept of the log; and the block into which the next bytes are read
pub record ReaderState : Type 0 where
  pub member : ℕ
  pub known : ℕ
  pub looking : Option Looking
  pub length_told : Option ℕ
  pub held : HeldState
  pub block : List ℕ

abbrev pub state_of : ℕ → Option Looking → reader.ReaderState → ReaderState
state_of known looking r = record { member = r.member; known = known; looking = looking; length_told = r.length_told; held = r.held; block = r.block }

-- what reads the log forward
abbrev pub forward : ReaderState → reader.ReaderState
forward r = record { member = r.member; length_told = r.length_told; held = r.held; block = r.block }

abbrev pub with_forward : ReaderState → reader.ReaderState → ReaderState
with_forward r f = state_of r.known r.looking f

-- nothing is read yet; what the block has doesn't matter
pub record IsNew (member : ℕ) (r : ReaderState) : Type 0 where
  pub member_is : r.member ≡ member
  pub not_looking : r.looking ≡ None
  pub length_unknown : r.length_told ≡ None
  pub nothing : r.held ≡ nothing_held false

-- ---- calls

abbrev pub call_by : Option Looking → LogCall → LogCall
call_by None other = other
call_by (Some l) other = call.Read l.at l.count

-- the log's length is asked first; then come the bytes before those that the search has, while it goes on, and then the next ones of the log
abbrev pub next_call : ReaderState → LogCall
next_call r = call_by r.looking (reader.next_call (forward r))

-- ---- replies

-- the search wants bytes; or the log is read from its last checkpoint on, if that names its own place, and else from its first byte
abbrev pub led_by : ReaderState → SearchState → Option Found → ReaderState
led_by r s None = r
led_by r s (Some (found.Wants at count)) = record r { looking = Some (record { search = s; at = at; count = count }) }
led_by r s (Some (found.At at offset)) = if at == offset then record r { held = held_from at } else r
led_by r s (Some found.Missing) = r
led_by r s (Some found.Broken) = r

abbrev pub led : ReaderState → SearchState → ReaderState
led r s = led_by r (searched s) (told_of (searched s))

-- a log that is longer than a block, and of which something is known
abbrev pub looks_back : ReaderState → ℕ → Bool
looks_back r long = nat_lt block_size long && (nat_lt 0 r.known && nat_le r.known long)

abbrev pub told_long : ReaderState → ℕ → ReaderState
told_long r long = with_forward r (reader.after_length (forward r) long)

abbrev pub after_length : ReaderState → ℕ → ReaderState
after_length r long = if looks_back r long then led (told_long r long) (record { block = block_size; low = r.known; hand = [] }) else told_long r long

-- so many bytes were wanted, and no more than a block
abbrev pub are_wanted : Option Found → ℕ → Bool
are_wanted None n = false
are_wanted (Some (found.Wants at count)) n = (n == count) && nat_le n block_size
are_wanted (Some (found.At at offset)) n = false
are_wanted (Some found.Missing) n = false
are_wanted (Some found.Broken) n = false

abbrev pub after_wanted : ReaderState → SearchState → ℕ → ReaderState
after_wanted r s n = if are_wanted (told_of s) n then led r (filled s (take n r.block)) else r

-- where other bytes come than are wanted, the log is read from its first byte
abbrev pub after_looking : ReaderState → SearchState → LogReply → ReaderState
after_looking r s (reply.Length long) = r
after_looking r s (reply.Count n) = after_wanted r (searched s) n

abbrev pub after_forward : ReaderState → LogReply → ReaderState
after_forward r (reply.Length long) = after_length r long
after_forward r (reply.Count n) = with_forward r (reader.after_count (forward r) n)

abbrev pub after_by : ReaderState → Option Looking → LogReply → ReaderState
after_by r None x = after_forward r x
after_by r (Some l) x = after_looking (record r { looking = None }) l.search x

abbrev pub after_reply : ReaderState → LogReply → ReaderState
after_reply r x = after_by r r.looking x

-- ---- the end

abbrev pub is_whole_by : Option Looking → Bool → Bool
is_whole_by None whole = whole
is_whole_by (Some l) whole = false

-- all bytes of the log are read
abbrev pub is_whole : ReaderState → Bool
is_whole r = is_whole_by r.looking (reader.is_whole (forward r))

-- the records that are kept, where the whole records of the log end, and how many bytes follow; or the byte of the log where the first field begins that isn't allowed
abbrev pub parts_read : ReaderState → Result Parts ℕ
parts_read r = reader.parts_read (forward r)

-- what is told of a log that is read
abbrev pub IsRead : ReaderState → LogRead → Type 0
IsRead r read.More = is_whole r ≡ false
IsRead r (read.Whole log) = (is_whole r ≡ true) × (log.member ≡ r.member) × reader.IsLogRead (forward r) log
IsRead r (read.Bad at) = (is_whole r ≡ true) × (parts_read r ≡ Err at)
