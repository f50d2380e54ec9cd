-- What is told of some pages, and of others, is told of both.
use Rattle.std.specs.Prelude.{◌≡◌, ◌≤◌, Bool, true, false, ◌||◌, List, Option, None}
use Rattle.std.specs.List.{AllByRecursion}
use Rattle.ds_base.specs.declared.names.PageId.{PageId}
use Rattle.ds_model.specs.declared.log.LogRecord.{LogRecord}
use Rattle.ds_model.specs.RecordBytes.{IsAllowed, page_sets}
use Rattle.stood_rows.specs.declared.unstood.Unstood.{Unstood}
use Rattle.stood_rows.specs.Standing.{AreTold}
use Rattle.stood_rows.specs.Found.{AreFound, sooner, page_in}

abbrev pub NoneAreFound : Type 0
NoneAreFound = (records : List LogRecord) → AreFound (λ id. false) records None

abbrev pub BothAreFound : Type 0
BothAreFound = (p q : PageId → Bool) (records : List LogRecord) (a b : Option Unstood) → AreFound p records a → AreFound q records b → AreFound (λ id. p id || q id) records (sooner a b)

-- tests that agree
abbrev pub SameAreFound : Type 0
SameAreFound = (p q : PageId → Bool) (records : List LogRecord) (found : Option Unstood) → ((id : PageId) → p id ≡ q id) → AreFound p records found → AreFound q records found

-- what is told of all page sets
abbrev pub FoundAreTold : Type 0
FoundAreTold = (has : PageId → Bool) (records : List LogRecord) (found : Option Unstood) → AllByRecursion IsAllowed records → ((id : PageId) → 1 ≤ id.set → id.set ≤ page_sets → has id ≡ true) → AreFound has records found → AreTold records (page_in found)
