-- The number of each status, and the text of one without a picture.
use Rattle.std.specs.Prelude.{ℕ, List, [], ◌++◌, codes, decimal}
use Rattle.ds_model.specs.ScriptText.{line}
use Rattle.picture_call.specs.declared.status.Status.{Status}
use Rattle.picture_call.specs.declared.status.Status.TheVariants as status

abbrev pub number_of : Status → ℕ
number_of status.Done = 0
number_of status.WordsRefused = 1
number_of (status.ReportRefused at) = 2
number_of (status.ScriptRefused at) = 2
number_of (status.NotOfScript place) = 2
number_of status.NoTrace = 2
number_of status.NoTransaction = 2
number_of status.SourceFailed = 3
number_of status.SinkFailed = 4
number_of status.NoMemory = 6

unfoldable pub place_text : ℕ → List ℕ
place_text at = codes "report refused line " ++ decimal at

abbrev pub refused_text : ℕ → List ℕ
refused_text at = line (place_text at)

unfoldable pub script_place_text : ℕ → List ℕ
script_place_text at = codes "script refused line " ++ decimal at

unfoldable pub parting_text : ℕ → List ℕ
parting_text place = codes "trace not of script from event " ++ decimal place

abbrev pub status_text : Status → List ℕ
status_text status.WordsRefused = line (codes "words refused")
status_text (status.ReportRefused at) = refused_text at
status_text (status.ScriptRefused at) = line (script_place_text at)
status_text (status.NotOfScript place) = line (parting_text place)
status_text status.NoTrace = line (codes "no trace")
status_text status.NoTransaction = line (codes "no transaction")
status_text status.SourceFailed = line (codes "source failed")
status_text _ = []
