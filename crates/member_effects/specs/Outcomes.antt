-- What a policy is told.
use Rattle.std.specs.Prelude.{◌≡◌, ℕ, List, slice_get, Option, Some, None}
use Rattle.ds_base.specs.declared.names.Volume.TheVariants as volume
use Rattle.member_needs.specs.Plans.{Outcome}
use Rattle.member_needs.specs.Plans.outcome as outcome
use Rattle.member_effects.specs.declared.told.Told.{Told}
use Rattle.member_effects.specs.declared.told.Told.TheVariants as told

-- these bytes are lent
abbrev pub Lends : List ℕ → Outcome → Type 0
Lends page (outcome.Valid lent) = lent.now ≡ page
Lends page _ = ⊥

abbrev pub LendsAt : Option (List ℕ) → Outcome → Type 0
LendsAt None said = said ≡ outcome.Invalid
LendsAt (Some page) said = Lends page said

-- the bytes of a page are lent where its test was answered as valid, and nowhere else
abbrev pub Tells : List (List ℕ) → Told → Outcome → Type 0
Tells pages told.Stepped said = said ≡ outcome.Stepped
Tells pages told.Granted said = said ≡ outcome.Granted
Tells pages (told.Conflict by) said = said ≡ outcome.Conflict by
Tells pages told.Refused said = said ≡ outcome.Refused
Tells pages (told.Contention share exclusive) said = said ≡ outcome.Contention share exclusive
Tells pages told.Moved said = said ≡ outcome.Moved
Tells pages (told.Cells is_open is_emptied) said = said ≡ outcome.Cells is_open is_emptied
Tells pages (told.Query query) said = said ≡ outcome.Query query
Tells pages told.NoQuery said = said ≡ outcome.NoQuery
Tells pages (told.Status status) said = said ≡ outcome.Status status
Tells pages (told.Raised is_raised) said = said ≡ outcome.Raised is_raised
Tells pages (told.Deadlock slot) said = said ≡ outcome.Deadlock slot
Tells pages told.NoCycle said = said ≡ outcome.NoCycle
Tells pages (told.Released name) said = said ≡ outcome.Released name
Tells pages told.Purged said = said ≡ outcome.Purged
Tells pages told.Ended said = said ≡ outcome.Ended
Tells pages told.Filled said = said ≡ outcome.Filled
Tells pages told.ToFill said = said ≡ outcome.ToFill
Tells pages told.Invalid said = said ≡ outcome.Invalid
Tells pages (told.Valid at) said = LendsAt (slice_get pages at) said
Tells pages told.Written said = said ≡ outcome.Written
Tells pages told.Lost said = said ≡ outcome.Lost
Tells pages told.CacheFull said = said ≡ outcome.CacheFull
Tells pages told.Drawn said = said ≡ outcome.Drawn
Tells pages (told.Stale frame) said = said ≡ outcome.Stale frame
Tells pages told.Forced said = said ≡ outcome.Forced
Tells pages (told.ChangedPage page) said = said ≡ outcome.ChangedPage page
Tells pages told.NoChangedPage said = said ≡ outcome.NoChangedPage
Tells pages told.Taken said = said ≡ outcome.Taken
Tells pages told.NotTaken said = said ≡ outcome.NotTaken
Tells pages told.CastoutWritten said = said ≡ outcome.CastoutWritten
Tells pages told.CastoutOver said = said ≡ outcome.CastoutOver
Tells pages told.Failed said = said ≡ outcome.Failed
Tells pages (told.Damaged page at) said = said ≡ outcome.Damaged (volume.Page page) at
