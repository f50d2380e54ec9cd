-- The statuses by number, and what is written for those without a report.
use Rattle.std.specs.Prelude.{ℕ, List, [], ◌++◌, codes, decimal}
use Rattle.ds_model.specs.declared.script.FaultKind.{FaultKind}
use Rattle.ds_model.specs.declared.script.FaultKind.TheVariants as fault
use Rattle.ds_model.specs.declared.script.ScriptFault.{ScriptFault}
use Rattle.ds_model.specs.ScriptText.{line}
use Rattle.ds_base.specs.declared.names.Volume.{Volume}
use Rattle.ds_base.specs.declared.names.Volume.TheVariants as volume
use Rattle.disk_orders.specs.Texts.{sound_text, breach_text, image_text, recovered_text}
use Rattle.group_run.specs.declared.status.Status.{Status}
use Rattle.group_run.specs.declared.status.Status.TheVariants as status

abbrev pub number_of : Status → ℕ
number_of status.Done = 0
number_of status.WordsRefused = 1
number_of (status.ScriptRefused f) = 2
number_of status.SourceFailed = 3
number_of status.SinkFailed = 4
number_of status.DiskFailed = 5
number_of status.NoMemory = 6
number_of (status.Damaged v at) = 7
number_of (status.Sound pages rows) = 0
number_of (status.Unsound breach) = 10
number_of (status.Recovered table pages) = 0
number_of (status.ImageRefused at) = 9
number_of (status.SelfCheckFailed event) = 11

abbrev pub kind_word : FaultKind → List ℕ
kind_word fault.TooLong = codes "too-long"
kind_word fault.Word = codes "word"
kind_word fault.Number = codes "number"
kind_word fault.Value = codes "value"
kind_word fault.Member = codes "member"
kind_word fault.Name = codes "name"
kind_word fault.Restart = codes "restart"
kind_word fault.Flag = codes "flag"
kind_word fault.End = codes "end"

unfoldable pub place_text : ℕ → List ℕ
place_text number = codes "script refused line " ++ decimal number

abbrev pub fault_text : ScriptFault → List ℕ
fault_text f = line (place_text f.line ++ codes " " ++ kind_word f.kind)

unfoldable pub volume_text : Volume → List ℕ
volume_text (volume.Log member) = codes "damaged log M" ++ decimal member
volume_text (volume.Page id) = codes "damaged page " ++ decimal id.set ++ codes " " ++ decimal id.number

-- the byte that can't stand there
abbrev pub damage_text : Volume → ℕ → List ℕ
damage_text v at = line (volume_text v ++ codes " at " ++ decimal at)

-- the event that was refused, or 0 for the report
unfoldable pub check_text : ℕ → List ℕ
check_text event = line (codes "self check failed at " ++ decimal event)

-- the text where there is no report
abbrev pub short_text : Status → List ℕ
short_text status.Done = []
short_text status.WordsRefused = line (codes "words refused")
short_text (status.ScriptRefused f) = fault_text f
short_text status.SourceFailed = line (codes "source failed")
short_text status.SinkFailed = []
short_text status.DiskFailed = line (codes "disk failed")
short_text status.NoMemory = []
short_text (status.Damaged v at) = damage_text v at
short_text (status.Sound pages rows) = sound_text pages rows
short_text (status.Unsound breach) = breach_text breach
short_text (status.Recovered table pages) = recovered_text table pages
short_text (status.ImageRefused at) = image_text at
short_text (status.SelfCheckFailed event) = check_text event
