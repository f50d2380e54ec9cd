-- Where the records begin that a reader has kept of a log: at its first byte, or at a Checkpoint that names its own place.
use Rattle.std.specs.Prelude.{◌≡◌, ◌⊎◌, ℕ, ◌+◌, ◌≤◌, Bool, true, List, length, take, drop, Ok}
use Rattle.ds_model.specs.declared.log.LogRecord.{LogRecord}
use Rattle.log_record.specs.Reading.{record_in}
use Rattle.log_reader.specs.Held.{HeldState, grown, names, nothing_held}
use Rattle.log_reader.specs.Keeping.{AreBytes, IsOf}
use Rattle.log_reader.specs.declared.calls.LogCall.TheVariants as call
use Rattle.log_reader.specs.declared.calls.LogReply.{LogReply}
use Rattle.checkpoint_reader.specs.Keeping.{IsReply, Stands}
use Rattle.checkpoint_reader.specs.Readers.{ReaderState, after_reply, next_call}

-- the bytes, which begin at this one of a log, begin with a Checkpoint that names it
pub record NamesOwn (start : ℕ) (bytes : List ℕ) : Type 0 where
  pub made : LogRecord
  pub size : ℕ
  pub read : record_in bytes ≡ Ok (made, size)
  pub own : names start made.body ≡ true

abbrev pub MayBegin : ℕ → List ℕ → Type 0
MayBegin start bytes = (start ≡ 0) ⊎ NamesOwn start bytes

abbrev pub BeginsAt : HeldState → Type 0
BeginsAt h = MayBegin h.start h.bytes

-- ---- so it is where nothing is kept yet, and of what more bytes make of it

abbrev pub NothingBegins : Type 0
NothingBegins = (keeps_all : Bool) → BeginsAt (nothing_held keeps_all)

abbrev pub GrownBegins : Type 0
GrownBegins = (h : HeldState) (more : List ℕ) → AreBytes h.bytes → AreBytes more → BeginsAt h → BeginsAt (grown h more)

-- ---- so it is of the log, of which a reader that begins at a Checkpoint has nothing yet

abbrev pub BeginsIn : List ℕ → HeldState → Type 0
BeginsIn log h = MayBegin h.start (drop h.start log)

-- the next bytes of the log, which begin a block
abbrev pub GrownBeginsIn : Type 0
GrownBeginsIn = (log : List ℕ) (h : HeldState) (block : List ℕ) (n : ℕ)
    → IsOf log h → AreBytes block → h.end + n ≤ length log → take n block ≡ take n (drop h.end log) → BeginsIn log h → BeginsIn log (grown h (take n block))

-- a reply of the log to a reader that looks for the last Checkpoint first
abbrev pub RepliesBegin : Type 0
RepliesBegin = (log : List ℕ) (r : ReaderState) (x : LogReply) → IsReply log r x → Stands log r → BeginsIn log r.held → BeginsIn log (after_reply r x).held

-- what it asks for doesn't begin behind the log's end
abbrev pub AsksWithin : Type 0
AsksWithin = (log : List ℕ) (r : ReaderState) (at count : ℕ) → Stands log r → next_call r ≡ call.Read at count → at ≤ length log
