-- The steps of a call before a disk is touched.
use Rattle.std.specs.Prelude.{◌≡◌, ℕ, Bool, false, List, String, Option, Some, None, Err}
use Rattle.std.specs.declared.alloc.Global.{Global}
use Rattle.ds_base.specs.Causes.{Rose}
use Rattle.ds_base.specs.declared.names.Sizes.{Sizes}
use Rattle.ds_model.specs.declared.script.ScriptFault.{ScriptFault}
use Rattle.script_text.specs.Reading.{script_of}
use Rattle.group_words.specs.Orders.{AreSizes, order_of, texts}
use Rattle.group_words.specs.declared.order.Order.{Order}
use Rattle.group_words.specs.declared.order.Order.TheVariants as order
use Rattle.group_run.specs.declared.status.Status.{Status}
use Rattle.group_run.specs.declared.status.Status.TheVariants as status
use Rattle.group_run.specs.declared.prepare.Setting.{Setting}
use Rattle.group_run.specs.declared.prepare.Prepared.{Prepared}
use Rattle.group_run.specs.declared.prepare.Prepared.TheVariants as prepared
use Rattle.whole_streams.specs.Input.{WasRead}
use Rattle.group_run.specs.Read.{IsRead, script_limit}

-- what the words order, if they order anything
abbrev pub ordered : List (String Global) → Option Order
ordered words = order_of (texts words)

-- how a script is to be played
abbrev pub setting_of : Sizes → Option ℕ → Bool → Setting
setting_of sizes seed trace = record { sizes = sizes; seed = seed; trace = trace }

-- the bytes that were read make no script for so many members
abbrev pub ReadsAFault : ℕ → Option (List ℕ) → Option (List ℕ) → ScriptFault → Type 0
ReadsAFault members left left_now fault = (bytes : List ℕ) × WasRead script_limit left left_now bytes × (script_of members bytes ≡ Err fault)

-- what holds where a source, by what was and is left of it and by how often it has failed, gives no script that is ready
abbrev pub MetBySource : ℕ → Status → Option (List ℕ) → Option (List ℕ) → ℕ → ℕ → Type 0
MetBySource members status.Done left left_now faults faults_now = ⊥
MetBySource members status.WordsRefused left left_now faults faults_now = ⊥
MetBySource members (status.ScriptRefused fault) left left_now faults faults_now = ReadsAFault members left left_now fault
MetBySource members status.SourceFailed left left_now faults faults_now = Rose faults faults_now
MetBySource members status.SinkFailed left left_now faults faults_now = ⊥
MetBySource members status.DiskFailed left left_now faults faults_now = ⊥
MetBySource members status.NoMemory left left_now faults faults_now = ⊥
MetBySource members (status.Damaged volume at) left left_now faults faults_now = ⊥
MetBySource members (status.Sound pages rows) left left_now faults faults_now = ⊥
MetBySource members (status.Unsound breach) left left_now faults faults_now = ⊥
MetBySource members (status.Recovered table pages) left left_now faults faults_now = ⊥
MetBySource members (status.ImageRefused at) left left_now faults faults_now = ⊥
MetBySource members (status.SelfCheckFailed event) left left_now faults faults_now = ⊥

abbrev pub IsPreparedToPlay : Setting → Prepared → Option (List ℕ) → Option (List ℕ) → ℕ → ℕ → Type 0
IsPreparedToPlay setting (prepared.Play script given) left left_now faults faults_now = IsRead setting.sizes.members left left_now script × (given ≡ setting) × AreSizes setting.sizes
IsPreparedToPlay setting prepared.Show left left_now faults faults_now = ⊥
IsPreparedToPlay setting (prepared.Make n) left left_now faults faults_now = ⊥
IsPreparedToPlay setting (prepared.Work n given) left left_now faults faults_now = ⊥
IsPreparedToPlay setting prepared.Check left left_now faults faults_now = ⊥
IsPreparedToPlay setting (prepared.Copy table) left left_now faults faults_now = ⊥
IsPreparedToPlay setting (prepared.Recover table) left left_now faults faults_now = ⊥
IsPreparedToPlay setting (prepared.Ended met) left left_now faults faults_now = MetBySource setting.sizes.members met left left_now faults faults_now

-- what is ready to run by what the words order
abbrev pub IsPrepared : Option Order → Prepared → Option (List ℕ) → Option (List ℕ) → ℕ → ℕ → Type 0
IsPrepared None p left left_now faults faults_now = p ≡ prepared.Ended status.WordsRefused
IsPrepared (Some (order.Play sizes seed trace)) p left left_now faults faults_now = IsPreparedToPlay (setting_of sizes seed trace) p left left_now faults faults_now
IsPrepared (Some order.Show) p left left_now faults faults_now = p ≡ prepared.Show
IsPrepared (Some (order.Make n)) p left left_now faults faults_now = p ≡ prepared.Make n
IsPrepared (Some (order.Work n sizes)) p left left_now faults faults_now = (p ≡ prepared.Work n (setting_of sizes (Some n) false)) × AreSizes sizes
IsPrepared (Some order.Check) p left left_now faults faults_now = p ≡ prepared.Check
IsPrepared (Some (order.Copy table)) p left left_now faults faults_now = p ≡ prepared.Copy table
IsPrepared (Some (order.Recover table)) p left left_now faults faults_now = p ≡ prepared.Recover table

-- the order is one for which nothing is read
abbrev pub ReadsNothing : Option Order → Type 0
ReadsNothing None = Unit {0}
ReadsNothing (Some (order.Play sizes seed trace)) = ⊥
ReadsNothing (Some order.Show) = Unit {0}
ReadsNothing (Some (order.Make n)) = Unit {0}
ReadsNothing (Some (order.Work n sizes)) = Unit {0}
ReadsNothing (Some order.Check) = Unit {0}
ReadsNothing (Some (order.Copy table)) = Unit {0}
ReadsNothing (Some (order.Recover table)) = ⊥

-- for a recovery the source is left as it was until the disk is touched
abbrev pub LeavesSource : Option Order → Option (List ℕ) → Option (List ℕ) → ℕ → ℕ → Type 0
LeavesSource o left left_now faults faults_now = (table : ℕ) → o ≡ Some (order.Recover table) → (left_now ≡ left) × (faults_now ≡ faults)

-- what is ready to run has allowed sizes, and the work of a number its seed and no trace
abbrev pub IsAllowed : Prepared → Type 0
IsAllowed (prepared.Play script setting) = AreSizes setting.sizes
IsAllowed prepared.Show = Unit {0}
IsAllowed (prepared.Make n) = Unit {0}
IsAllowed (prepared.Work n setting) = AreSizes setting.sizes × (setting.trace ≡ false) × (setting.seed ≡ Some n)
IsAllowed prepared.Check = Unit {0}
IsAllowed (prepared.Copy table) = Unit {0}
IsAllowed (prepared.Recover table) = Unit {0}
IsAllowed (prepared.Ended met) = Unit {0}

-- the table of which an image is to be written, if one is
abbrev pub table_to_copy : Prepared → Option ℕ
table_to_copy (prepared.Play script setting) = None
table_to_copy prepared.Show = None
table_to_copy (prepared.Make n) = None
table_to_copy (prepared.Work n setting) = None
table_to_copy prepared.Check = None
table_to_copy (prepared.Copy table) = Some table
table_to_copy (prepared.Recover table) = None
table_to_copy (prepared.Ended met) = None

-- the table that is to be recovered, if one is
abbrev pub table_to_recover : Prepared → Option ℕ
table_to_recover (prepared.Play script setting) = None
table_to_recover prepared.Show = None
table_to_recover (prepared.Make n) = None
table_to_recover (prepared.Work n setting) = None
table_to_recover prepared.Check = None
table_to_recover (prepared.Copy table) = None
table_to_recover (prepared.Recover table) = Some table
table_to_recover (prepared.Ended met) = None
