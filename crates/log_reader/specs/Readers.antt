-- A log that is read block by block.
use Rattle.std.specs.Prelude.{◌≡◌, ℕ, ◌+◌, ◌-◌, ◌≤◌, ◌==◌, nat_le, min, Bool, true, false, if◌then◌else◌, List, length, take, Option, None, Some, Result, Ok, Err}
use Rattle.std.specs.List.{AllByRecursion}
use Rattle.ds_model.specs.RecordBytes.{IsAllowed, log_bytes}
use Rattle.log_record.specs.declared.log.Log.{Log}
use Rattle.log_record.specs.Logs.{Parts, parts_in, parts_of}
use Rattle.log_reader.specs.Held.{HeldState, nothing_held, held_from, grown}
use Rattle.log_reader.specs.declared.calls.LogCall.{LogCall}
use Rattle.log_reader.specs.declared.calls.LogCall.TheVariants as call
use Rattle.log_reader.specs.declared.calls.LogReply.{LogReply}
use Rattle.log_reader.specs.declared.calls.LogReply.TheVariants as reply
use Rattle.log_reader.specs.declared.calls.LogRead.{LogRead}
use Rattle.log_reader.specs.declared.calls.LogRead.TheVariants as read

-- how many bytes a block has
abbrev pub block_size : ℕ
block_size = 65536

-- whose log it is, its length where it is known, what is kept of it, and the block into which the next bytes are read
pub record ReaderState : Type 0 where
  pub member : ℕ
  pub length_told : Option ℕ
  pub held : HeldState
  pub block : List ℕ

-- nothing is read yet; what the block has doesn't matter
pub record IsNew (member : ℕ) (r : ReaderState) : Type 0 where
  pub member_is : r.member ≡ member
  pub length_unknown : r.length_told ≡ None
  pub nothing : r.held ≡ nothing_held false

-- ---- calls

-- the next bytes, a block of them at most
abbrev pub read_of : ℕ → ℕ → LogCall
read_of at long = call.Read at (min (long - at) block_size)

abbrev pub call_by : ℕ → Option ℕ → LogCall
call_by at None = call.Length
call_by at (Some long) = read_of at long

-- the log's length is asked first
abbrev pub next_call : ReaderState → LogCall
next_call r = call_by r.held.end r.length_told

-- the log is read from this byte on, as if nothing of it was
abbrev pub read_from : ReaderState → ℕ → ReaderState
read_from r place = record { member = r.member; length_told = r.length_told; held = held_from place; block = r.block }

-- ---- replies

-- of a log that is no longer than a block nothing is left out
abbrev pub after_length : ReaderState → ℕ → ReaderState
after_length r long = record { member = r.member; length_told = Some long; held = record r.held { keeps_all = nat_le long block_size }; block = r.block }

-- a log of which no more bytes come ends here
abbrev pub after_count : ReaderState → ℕ → ReaderState
after_count r n =
    if n == 0 then record { member = r.member; length_told = Some r.held.end; held = r.held; block = r.block }
    else record { member = r.member; length_told = r.length_told; held = grown r.held (take (min n block_size) r.block); block = r.block }

abbrev pub after_reply : ReaderState → LogReply → ReaderState
after_reply r (reply.Length long) = after_length r long
after_reply r (reply.Count n) = after_count r n

-- ---- the end

abbrev pub is_long : ℕ → Option ℕ → Bool
is_long n None = false
is_long n (Some long) = nat_le long n

-- all bytes of the log are read
abbrev pub is_whole : ReaderState → Bool
is_whole r = is_long r.held.end r.length_told

-- parts of bytes that begin at this byte of a log: they end, or are damaged, so many bytes behind it
abbrev pub parts_behind : ℕ → Result Parts ℕ → Result Parts ℕ
parts_behind start (Ok p) = Ok (record { records = p.records; size = start + p.size; tail = p.tail })
parts_behind start (Err at) = Err (start + at)

-- the records from the last Checkpoint on, where the whole records of the log end, and how many bytes follow; or the byte of the log where the first field begins that
-- isn't allowed
abbrev pub parts_read : ReaderState → Result Parts ℕ
parts_read r = parts_behind r.held.start (parts_in r.held.bytes)

-- the log has them
pub record IsLogRead (r : ReaderState) (log : Log) : Type 0 where
  pub is_read : parts_read r ≡ Ok (parts_of log)
  pub allowed : AllByRecursion IsAllowed log.records
  pub spelled : take (log.length - r.held.start) r.held.bytes ≡ log_bytes log.records
  pub begins : r.held.start ≤ log.length
  pub whole : r.held.start + length r.held.bytes ≡ log.length + log.tail

-- what is told of a log that is read
abbrev pub IsRead : ReaderState → LogRead → Type 0
IsRead r read.More = is_whole r ≡ false
IsRead r (read.Whole log) = (is_whole r ≡ true) × (log.member ≡ r.member) × IsLogRead r log
IsRead r (read.Bad at) = (is_whole r ≡ true) × (parts_read r ≡ Err at)
