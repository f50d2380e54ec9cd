-- What the policy is told of an event.
use Rattle.std.specs.Prelude.{◌≡◌, ℕ, List}
use Rattle.restart_marks.specs.declared.told.RestartTold.{RestartTold}
use Rattle.restart_marks.specs.declared.told.RestartTold.TheVariants as told
use Rattle.restart_resources.specs.declared.outcome.RestartOutcome.{RestartOutcome}
use Rattle.restart_resources.specs.declared.outcome.RestartOutcome.TheVariants as outcome

-- the page is lent where its copy is found valid
abbrev pub LendsReady : List ℕ → RestartOutcome → Type 0
LendsReady page (outcome.Ready lent) = lent.now ≡ page
LendsReady page _ = ⊥

-- or where a change was taken back in it
abbrev pub LendsUndone : List ℕ → RestartOutcome → Type 0
LendsUndone page (outcome.Undone lent) = lent.now ≡ page
LendsUndone page _ = ⊥

-- and nowhere else
abbrev pub Tells : List ℕ → RestartTold → RestartOutcome → Type 0
Tells page told.Stepped said = said ≡ outcome.Stepped
Tells page told.LogBlock said = said ≡ outcome.LogBlock
Tells page told.LogWhole said = said ≡ outcome.LogWhole
Tells page told.TailCut said = said ≡ outcome.TailCut
Tells page (told.Record name) said = said ≡ outcome.Record name
Tells page told.NoRecord said = said ≡ outcome.NoRecord
Tells page told.Purged said = said ≡ outcome.Purged
Tells page told.ToFill said = said ≡ outcome.ToFill
Tells page told.Filled said = said ≡ outcome.Filled
Tells page told.Invalid said = said ≡ outcome.Invalid
Tells page told.Ready said = LendsReady page said
Tells page told.Written said = said ≡ outcome.Written
Tells page told.Lost said = said ≡ outcome.Lost
Tells page told.CacheFull said = said ≡ outcome.CacheFull
Tells page told.Granted said = said ≡ outcome.Granted
Tells page (told.Retained by) said = said ≡ outcome.Retained by
Tells page told.RecordsFull said = said ≡ outcome.RecordsFull
Tells page (told.Contention share exclusive) said = said ≡ outcome.Contention share exclusive
Tells page told.Moved said = said ≡ outcome.Moved
Tells page (told.Cells is_open is_emptied) said = said ≡ outcome.Cells is_open is_emptied
Tells page (told.Status status) said = said ≡ outcome.Status status
Tells page told.Released said = said ≡ outcome.Released
Tells page told.Undone said = LendsUndone page said
Tells page told.Stale said = said ≡ outcome.Stale
Tells page told.Forced said = said ≡ outcome.Forced
Tells page told.Up said = said ≡ outcome.Up
Tells page told.Failed said = said ≡ outcome.Failed
Tells page (told.Damaged volume at) said = said ≡ outcome.Damaged volume at
