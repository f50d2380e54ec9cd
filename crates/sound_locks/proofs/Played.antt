-- The run of which a call tells that has opened a disk.
use Rattle.std.proofs.Common.{◌≡◌, inl, inr, ℕ, refl, Bool, true, false, List, Option, Some, None}
use Rattle.std.specs.Prelude.{◌≢◌}
use Rattle.ds_base.specs.declared.row.Row.{Row}
use Rattle.ds_disk.specs.Contents.{Contents, WhenTold}
use Rattle.ds_model.specs.declared.history.Entry.{Entry}
use Rattle.ds_model.specs.declared.report.Report.{Report}
use Rattle.ds_model.specs.declared.script.Script.{Script}
use Rattle.group_words.specs.declared.order.Order.{Order}
use Rattle.group_words.specs.declared.order.Order.TheVariants as order
use Rattle.group_run.specs.declared.status.Status.{Status}
use Rattle.group_run.specs.declared.status.Status.TheVariants as status
use Rattle.group_run.specs.Ends.{Meets, PlaysFrom, PlaysNothing, RanBy, RunsTo}
use Rattle.group_run.specs.Given.{Account, AnyMember, Came, ComesTo, Ended, Kind, Leads, RunEnd, RunFault, kind_of}
use Rattle.group_run.specs.Given.ended as ended
use Rattle.group_run.specs.Outside.{Outside}
use Rattle.rested_logs.specs.Given.{IsSoundDisk, LeavesOutClosed}
use Rattle.sound_locks.specs.Plays.{LedKeepLocks, PlaysKeepLocks, TellsLocked}

-- ---- the run that is told

record Told (kind : Kind) (was : Option Contents) (account : Account) : Type 0 where
  pub script : Script
  pub seed : Option ℕ
  pub end : RunEnd
  pub why : Option RunFault
  pub entries : List Entry
  pub leads : kind.leads was script seed account end why entries

came_of : (L : RunEnd → Option RunFault → List Entry → Type 0) (S : RunEnd → Option RunFault → List Entry → Ended → Type 0) (out : Ended) → out ≢ ended.NoMemory → ComesTo L S out → Came L S out
came_of L S out some (inl none) = absurd (some none)
came_of L S out some (inr came) = came

played : (kind : Kind) (script : Script) (seed : Option ℕ) (trace : Bool) (before after : Outside) (account : Account) (rows : List Row) (out : Ended)
    → out ≢ ended.NoMemory → PlaysFrom kind script seed trace before after account rows out → Told kind before.contents account
played kind script seed trace before after account rows out some plays =
    let came = came_of _ _ out some plays.comes in
    record { script = script; seed = seed; end = came.end; why = came.why; entries = came.entries; leads = came.leads }

by_status : (kind : Kind) (script : Script) (seed : Option ℕ) (trace : Bool) (before after : Outside) (account : Account) (rows : List Row) (met : Status) (report : Report)
    → met ≢ status.NoMemory → RunsTo (PlaysFrom kind script seed trace before after account rows) met report → Told kind before.contents account
by_status kind script seed trace before after account rows status.Done report some ran = played kind script seed trace before after account rows (ended.Told report) (λ e. cc) ran.0
by_status kind script seed trace before after account rows status.WordsRefused report some ran = absurd ran
by_status kind script seed trace before after account rows (status.ScriptRefused fault) report some ran = absurd ran
by_status kind script seed trace before after account rows status.SourceFailed report some ran = absurd ran
by_status kind script seed trace before after account rows status.SinkFailed report some ran = absurd ran
by_status kind script seed trace before after account rows status.DiskFailed report some ran = played kind script seed trace before after account rows (ended.Told report) (λ e. cc) ran.0
by_status kind script seed trace before after account rows status.NoMemory report some ran = absurd (some refl)
by_status kind script seed trace before after account rows (status.Damaged volume at) report some ran = played kind script seed trace before after account rows (ended.Damaged volume at) (λ e. cc) ran.0
by_status kind script seed trace before after account rows (status.Sound pages n) report some ran = absurd ran
by_status kind script seed trace before after account rows (status.Unsound breach) report some ran = absurd ran
by_status kind script seed trace before after account rows (status.Recovered table pages) report some ran = absurd ran
by_status kind script seed trace before after account rows (status.ImageRefused at) report some ran = absurd ran
by_status kind script seed trace before after account rows (status.SelfCheckFailed event) report some ran = played kind script seed trace before after account rows (ended.Unsound event) (λ e. cc) ran.0

by_order : (kind : Kind) (o : Option Order) (met : Status) (before after : Outside) (rows : List Row) (account : Account) (report : Report)
    → (PlaysNothing o → ⊥) → met ≢ status.NoMemory → RanBy kind o met before after rows account report → Told kind before.contents account
by_order kind None met before after rows account report plays some ran = absurd ran
by_order kind (Some (order.Play sizes seed trace)) met before after rows account report plays some ran = by_status kind ran.0 seed trace before after account rows met report some ran.2
by_order kind (Some order.Show) met before after rows account report plays some ran = absurd (plays tt)
by_order kind (Some (order.Make n)) met before after rows account report plays some ran = absurd ran
by_order kind (Some (order.Work n sizes)) met before after rows account report plays some ran = by_status kind _ (Some n) false before after account rows met report some ran
by_order kind (Some order.Check) met before after rows account report plays some ran = absurd ran
by_order kind (Some (order.Copy table)) met before after rows account report plays some ran = absurd ran
by_order kind (Some (order.Recover table)) met before after rows account report plays some ran = absurd ran

-- ---- and its locks

when_told : (was : Option Contents) (P : Contents → Type 0) → ((c : Contents) → was ≡ Some c → P c) → WhenTold was P
when_told None P is = tt
when_told (Some c) P is = is c refl

pub plays_keep : {D : Type 0} (alive : D → Bool) (contents : D → Option Contents) (count : D → ℕ) → LedKeepLocks AnyMember alive contents count → PlaysKeepLocks alive contents count
plays_keep {D} alive contents count law o before after met text opening account report meets plays some =
    let told : Told (kind_of AnyMember alive contents count) before.contents account = by_order (kind_of AnyMember alive contents count) o met before after opening account report plays some (meets.ran refl) in
    when_told before.contents (λ c. IsSoundDisk c → LeavesOutClosed c → TellsLocked alive contents count before.contents account) (λ c is sound closed. record {
      script = told.script;
      seed = told.seed;
      end = told.end;
      why = told.why;
      entries = told.entries;
      leads = told.leads;
      keeps = law before.contents told.script told.seed account told.end told.why told.entries c is sound closed told.leads;
    })
