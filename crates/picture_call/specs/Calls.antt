-- How a call ends, and what it writes.
use Rattle.std.specs.Prelude.{◌≡◌, ℕ, ◌-◌, ◌<◌, Bool, true, false, List, [], ◌∷◌, ◌++◌, length, map, take, Option, Some, None, Ok, Err}
use Rattle.std.specs.Io.KnownBytes.{Appends}
use Rattle.ds_base.specs.Causes.{Rose}
use Rattle.ds_model.specs.declared.report.Report.{Report}
use Rattle.picture_text.specs.declared.picture.Picture.{Picture}
use Rattle.picture_text.specs.Svg.{picture_text}
use Rattle.report_text.specs.Steps.{report_of}
use Rattle.run_picture.specs.Places.{is_whole, scale_of}
use Rattle.run_picture.specs.Seen.{IsSeen}
use Rattle.run_story.specs.Names.{has_name, number_named as number_in}
use Rattle.run_story.specs.Stories.{story_named}
use Rattle.lock_sights.specs.Rosters.{number_named, trans_in}
use Rattle.run_replay.specs.Beginning.{IsFateless, Parts, Replays}
use Rattle.script_text.specs.Reading.{script_of}
use Rattle.ds_base.specs.declared.names.Sizes.{Sizes}
use Rattle.ds_model.specs.declared.script.Script.{Script}
use Rattle.ds_model.specs.declared.script.ScriptFault.{ScriptFault}
use Rattle.whole_streams.specs.Input.{WasRead}
use Rattle.run_picture.specs.declared.cut.Cut.{Cut}
use Rattle.picture_call.specs.declared.order.Order.{Order}
use Rattle.picture_call.specs.declared.order.Order.TheVariants as orders
use Rattle.picture_call.specs.Inputs.{or_all, report_in}
use Rattle.picture_call.specs.Orders.{name_in, order_of}
use Rattle.picture_call.specs.declared.status.Status.{Status}
use Rattle.picture_call.specs.declared.status.Status.TheVariants as status
use Rattle.picture_call.specs.Statuses.{status_text}

-- the bytes of the longest report that is read
abbrev pub report_limit : ℕ
report_limit = 1073741824

-- a text is the spelling of a picture with the shapes of a report; where all of it is drawn, with one bar for each transaction
pub record IsDrawn (cut : Cut) (report : Report) (text : List ℕ) : Type 0 where
  pub style : List ℕ
  pub picture : Picture
  pub spelling : text ≡ picture_text style picture
  pub seen : IsSeen (scale_of cut (length report.trace.events)) report picture
  pub bars : is_whole cut ≡ true → map (λ b. b.label) picture.bars ≡ map (λ e. e.name) report.entries

-- a status that names what is wrong is written as its text
abbrev pub IsNamed : Status → List ℕ → Type 0
IsNamed met text = (met ≡ status.Done → ⊥) → text ≡ status_text met

-- neither source nor sink have failed
abbrev pub IsUnhindered : Status → Type 0
IsUnhindered met = (met ≡ status.SourceFailed → ⊥) × (met ≡ status.SinkFailed → ⊥)

-- the sink hasn't failed
abbrev pub IsWritable : Status → Type 0
IsWritable met = met ≡ status.SinkFailed → ⊥

-- the source failed only where it counted
abbrev pub IsCaused : Status → ℕ → ℕ → Type 0
IsCaused met faults faults_now = met ≡ status.SourceFailed → Rose faults faults_now

-- the sink took the whole text; or it failed, as it counted, and took a front of it
pub record Tells (met ended : Status) (text : List ℕ) (taken taken_now : Option (List ℕ)) (faults faults_now : ℕ) : Type 0 where
  pub whole : (ended ≡ status.SinkFailed → ⊥) → (ended ≡ met) × Appends taken taken_now text
  pub front : ended ≡ status.SinkFailed → Rose faults faults_now × ((n : ℕ) × (n < length text) × Appends taken taken_now (take n text))

-- ---- what stands in the input

-- the report: where a story is ordered, from its first line on, if one is there
abbrev pub report_part : Order → List ℕ → List ℕ
report_part (orders.Draw cut) bytes = bytes
report_part (orders.Why sizes) bytes = or_all (report_in true bytes) bytes

-- the script, before it
abbrev pub script_part : Order → List ℕ → List ℕ
script_part order bytes = take (length bytes - length (report_part order bytes)) bytes

-- ---- what is answered

abbrev pub is_of_replay : Status → Bool
is_of_replay status.Done = true
is_of_replay status.NoTransaction = true
is_of_replay (status.NotOfScript place) = true
is_of_replay status.WordsRefused = false
is_of_replay (status.ReportRefused at) = false
is_of_replay (status.ScriptRefused at) = false
is_of_replay status.NoTrace = false
is_of_replay status.SourceFailed = false
is_of_replay status.SinkFailed = false
is_of_replay status.NoMemory = false

-- the story of a transaction, and behind it what a replay of the script tells
pub record IsReplayed (script : Script) (report : Report) (name text : List ℕ) : Type 0 where
  pub story : List ℕ
  pub named : story_named report (number_in name report.entries) ≡ Some story
  pub seen : List ℕ
  pub replays : Replays script report.trace.events name seen
  pub whole : text ≡ story ++ seen

-- that; or why a replay tells nothing
pub record ToldOf (script : Script) (report : Report) (name : List ℕ) (met : Status) (text : List ℕ) : Type 0 where
  pub kind : is_of_replay met ≡ true
  pub done : met ≡ status.Done → IsReplayed script report name text
  pub fateless : met ≡ status.NoTransaction → IsFateless script report.trace.events (number_named (trans_in script) name)
  pub parted : (place : ℕ) → met ≡ status.NotOfScript place → Parts script report.trace.events place

-- The text in front of the report is no script, or this is told of it. Where it is empty, the story is told.
pub record ToldBy (members : ℕ) (script : List ℕ) (report : Report) (name : List ℕ) (met : Status) (text : List ℕ) : Type 0 where
  pub alone : length script ≡ 0 → (met ≡ status.Done) × (story_named report (number_in name report.entries) ≡ Some text)
  pub refused : (f : ScriptFault) → 0 < length script → script_of members script ≡ Err f → met ≡ status.ScriptRefused f.line
  pub read : (s : Script) → 0 < length script → script_of members script ≡ Ok s → ToldOf s report name met text

-- what an order over this script and this report is answered with
pub record AnsweredBy (order : Order) (name script report : List ℕ) (met : Status) (text : List ℕ) : Type 0 where
  pub refused : (at : ℕ) → report_of report ≡ Err at → met ≡ status.ReportRefused at
  pub untraced : (r : Report) → report_of report ≡ Ok r → length r.trace.events ≡ 0 → met ≡ status.NoTrace
  pub unknown : (r : Report) (sizes : Sizes) → report_of report ≡ Ok r → order ≡ orders.Why sizes → 0 < length r.trace.events → has_name name r.entries ≡ false → met ≡ status.NoTransaction
  pub told : (r : Report) (sizes : Sizes) → report_of report ≡ Ok r → order ≡ orders.Why sizes → 0 < length r.trace.events → has_name name r.entries ≡ true → ToldBy sizes.members script r name met text
  pub drawn : (r : Report) (cut : Cut) → report_of report ≡ Ok r → order ≡ orders.Draw cut → 0 < length r.trace.events → (met ≡ status.Done) × IsDrawn cut r text

-- what an order over these bytes is answered with
abbrev pub Answered : Order → List ℕ → List ℕ → Status → List ℕ → Type 0
Answered order name bytes met text = AnsweredBy order name (script_part order bytes) (report_part order bytes) met text

-- the source's bytes were answered
pub record Reads (order : Order) (name : List ℕ) (left left_now : Option (List ℕ)) (met : Status) (text : List ℕ) : Type 0 where
  pub bytes : List ℕ
  pub was : WasRead report_limit left left_now bytes
  pub answered : Answered order name bytes met text

-- how words, and the source where they are an order, are answered, but for want of memory
pub record Meets (words : List (List ℕ)) (left left_now : Option (List ℕ)) (met : Status) (text : List ℕ) : Type 0 where
  pub wrong : order_of words ≡ None → met ≡ status.WordsRefused
  pub read : (order : Order) → order_of words ≡ Some order → (met ≡ status.SourceFailed → ⊥) → Reads order (name_in words) left left_now met text
