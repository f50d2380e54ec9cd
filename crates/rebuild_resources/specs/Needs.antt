-- The test of each intent, and what it sends.
use Rattle.std.specs.Prelude.{ℕ, ◌==◌, Bool, if◌then◌else◌, length, slice_get, is_some, is_none, Option, Some, None, Result, Ok, Err}
use Rattle.ds_base.specs.declared.names.PageId.{PageId}
use Rattle.facility.specs.declared.command.Command.TheVariants as command
use Rattle.log_reader.specs.declared.calls.LogCall.{LogCall}
use Rattle.log_reader.specs.declared.calls.LogCall.TheVariants as call
use Rattle.checkpoint_reader.specs.Readers.{next_call}
use Rattle.page_records.specs.declared.places.PageRecords.{PageRecords}
use Rattle.rebuild_resources.specs.declared.intent.RebuildIntent.{RebuildIntent}
use Rattle.rebuild_resources.specs.declared.intent.RebuildIntent.TheVariants as intent
use Rattle.rebuild_resources.specs.declared.intent.RebuildSent.{RebuildSent}
use Rattle.rebuild_resources.specs.declared.intent.RebuildSent.TheVariants as sent
use Rattle.rebuild_resources.specs.declared.intent.RebuildTest.{RebuildTest}
use Rattle.rebuild_resources.specs.declared.intent.RebuildTest.TheVariants.{NotClaimed, NotRead, AlreadyRead, NotBrought, AlreadyBrought, NotWritten, NotChanged}
use Rattle.rebuild_resources.specs.State.{RebuildState}

-- what is sent, or the test that fails
abbrev pub Need : Type 0
Need = Result RebuildSent RebuildTest

-- this must hold, and then the rest counts
abbrev pub when : Bool → RebuildTest → Need → Need
when holds test rest = if holds then rest else Err test

-- ---- logs

abbrev pub call_sent : ℕ → LogCall → RebuildSent
call_sent m call.Length = sent.LogLength m
call_sent m (call.Read at count) = sent.ReadLog m at count

abbrev pub read_log_need : RebuildState → Need
read_log_need h = when h.claimed NotClaimed (when (is_none h.merged) AlreadyRead (Ok (call_sent h.reader.member (next_call h.reader))))

-- ---- pages

abbrev pub first_sent : Option PageRecords → Need
first_sent None = Err AlreadyBrought
first_sent (Some p) = Ok (sent.ReadPage p.page)

-- the first page that is left
abbrev pub read_page_need : RebuildState → Need
read_page_need h = when h.claimed NotClaimed (when (is_some h.merged) NotRead (when (is_none h.hand) NotWritten (first_sent (slice_get h.pages 0))))

abbrev pub hand_sent : Option PageId → Need
hand_sent None = Err NotChanged
hand_sent (Some page) = Ok (sent.WritePage page)

abbrev pub write_page_need : RebuildState → Need
write_page_need h = when h.claimed NotClaimed (hand_sent h.hand)

-- ---- the claim

-- all logs are read, each page that they name is brought forward, and each that was changed by that is written
abbrev pub rebuilt_need : RebuildState → Need
rebuilt_need h =
    when h.claimed NotClaimed
    (when (is_some h.merged) NotRead (when (length h.pages == 0) NotBrought (when (is_none h.hand) NotWritten (Ok (sent.Command command.Rebuilt)))))

abbrev pub need_of : RebuildState → RebuildIntent → Need
need_of h intent.Step = Ok sent.None
need_of h intent.Claim = Ok (sent.Command command.Claim)
need_of h intent.ReadLog = read_log_need h
need_of h intent.ReadPage = read_page_need h
need_of h intent.WritePage = write_page_need h
need_of h intent.Rebuilt = rebuilt_need h
need_of h intent.Unclaim = Ok (sent.Command command.Unclaim)
