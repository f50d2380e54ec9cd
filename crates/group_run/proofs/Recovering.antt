-- What the recovery of a table meets, and where it was not begun.
use Rattle.std.proofs.Common.{◌≡◌, inl, ℕ, arith, List, [], Option, Some, None, Result, Ok, Err, refl, sym, ap, subst, ◌∙◌}
use Rattle.ds_base.specs.declared.names.PageId.{PageId}
use Rattle.ds_disk.specs.Contents.{Contents, Becomes}
use Rattle.disk_restart.specs.Keeping.{KeepsRecords}
use Rattle.disk_orders.specs.Copying.{CopyFault}
use Rattle.disk_orders.specs.Copying.fault as copy_fault
use Rattle.disk_orders.specs.Restarting.{Restarts}
use Rattle.disk_orders.specs.Recovering.{SourceAround, Recovers, BecomesBy, IsBegun, EndsIn, IsRestarted, GoesOn, RecoversTable}
use Rattle.group_run.specs.declared.status.Status.{Status}
use Rattle.group_run.specs.declared.status.Status.TheVariants as status
use Rattle.group_run.specs.Outside.{Outside, DiskIsUntouched}
use Rattle.group_run.specs.Tellings.{recovered_status}
use Rattle.group_run.specs.Ends.{with_source, FinishesRecovery}

-- ---- no failed sink is met

restart_no_sink : (pages : ℕ) (between after : SourceAround) (result : Result ℕ CopyFault) → IsRestarted pages between after result → result ≡ Err copy_fault.Sink → ⊥
restart_no_sink pages between after result is e = go is.done is.restarts is.ends
  where
    go : (done : Result (Unit {0}) CopyFault) → Restarts between.contents after.contents between.disk_faults after.disk_faults done → EndsIn pages done result → ⊥
    go (Ok u) restarts ends = let f : Ok pages ≡ Err copy_fault.Sink = sym ends ∙ e in cc
    go (Err why) restarts ends = let same : why ≡ copy_fault.Sink = (let f : Err why ≡ Err copy_fault.Sink = sym ends ∙ e in cc) in restarts.no_sink (ap (λ (x : CopyFault). Err x) same)

recovery_no_sink : (table : ℕ) (before after : SourceAround) (result : Result ℕ CopyFault) → RecoversTable table before after result → result ≡ Err copy_fault.Sink → ⊥
recovery_no_sink table before after result is e = go is.made is.recovers is.goes
  where
    go : (made : Result ℕ CopyFault) → Recovers table before is.between made → GoesOn made is.between after result → ⊥
    go (Ok pages) recovers goes = restart_no_sink pages is.between after result goes e
    go (Err why) recovers goes = recovers.no_sink (sym goes.0 ∙ e)

sink_of : (table : ℕ) (came : Result ℕ CopyFault) → recovered_status table came ≡ status.SinkFailed → came ≡ Err copy_fault.Sink
sink_of table (Ok pages) e = cc
sink_of table (Err copy_fault.Source) e = cc
sink_of table (Err copy_fault.Sink) e = refl
sink_of table (Err copy_fault.Disk) e = cc
sink_of table (Err (copy_fault.Damaged volume at)) e = cc
sink_of table (Err (copy_fault.Image at)) e = cc
sink_of table (Err copy_fault.NoMemory) e = cc

pub unsunk_recovery : (table : ℕ) (before after : SourceAround) (came : Result ℕ CopyFault) → RecoversTable table before after came → recovered_status table came ≡ status.SinkFailed → ⊥
unsunk_recovery table before after came recovers e = recovery_no_sink table before after came recovers (sink_of table came e)

-- ---- the source as it was before

-- a disk, and a source of which this is left
abbrev pub with_left : Outside → Option (List ℕ) → ℕ → SourceAround
with_left o left faults = record { contents = o.contents; disk_faults = o.disk_faults; left = left; source_faults = faults }

pub its_recovery : (n k : ℕ) (before after : Outside) (left : Option (List ℕ)) (count : ℕ) (ended : Status) (taken taken_now : Option (List ℕ)) (faults faults_now : ℕ) → n ≡ k → (left ≡ before.left) × (count ≡ before.source_faults)
    → FinishesRecovery n (with_left before left count) (with_source after) taken taken_now faults faults_now ended → FinishesRecovery k (with_source before) (with_source after) taken taken_now faults faults_now ended
its_recovery n k before after left count ended taken taken_now faults faults_now e same does =
    let by_left = subst (λ (l : Option (List ℕ)). FinishesRecovery n (with_left before l count) (with_source after) taken taken_now faults faults_now ended) same.0 does in
    let by_count = subst (λ (c : ℕ). FinishesRecovery n (with_left before before.left c) (with_source after) taken taken_now faults faults_now ended) same.1 by_left in
    subst (λ (i : ℕ). FinishesRecovery i (with_source before) (with_source after) taken taken_now faults faults_now ended) e by_count

-- ---- where memory was wanting for the words

-- each page and each log is as it was
nothing_begun : (a : Option Contents) (left : Option (List ℕ)) (table : ℕ) → BecomesBy a a left (λ c d image. IsBegun c d image table)
nothing_begun None left table = tt
nothing_begun (Some c) None table = ([], record { logs_stay = refl; each = λ (id : PageId). inl refl })
nothing_begun (Some c) (Some bytes) table = record { logs_stay = refl; each = λ (id : PageId). inl refl }

keeps_all : (a : Option Contents) → Becomes a a KeepsRecords
keeps_all None = tt
keeps_all (Some c) = λ member. refl

nothing_done : (table : ℕ) (at : SourceAround) → RecoversTable table at at (Err copy_fault.NoMemory)
nothing_done table at = record {
  between = at;
  made = Err copy_fault.NoMemory;
  recovers = record {
    ok = tt;
    image = λ n e. cc;
    damaged = λ v n e. cc;
    log_damaged = λ member n e. cc;
    source_failed = λ e. cc;
    disk_failed = λ e. cc;
    no_sink = λ e. cc;
    begun = nothing_begun at.contents at.left table;
    disk_later = omega arith;
    source_later = omega arith;
  };
  goes = (refl, refl);
  keeps = keeps_all at.contents;
}

same_around : (before after : Outside) → DiskIsUntouched before after → (after.left ≡ before.left) × (after.source_faults ≡ before.source_faults) → with_source before ≡ with_source after
same_around before after untouched leaves = cc

pub not_begun : (table : ℕ) (before after : Outside) → DiskIsUntouched before after → (after.left ≡ before.left) × (after.source_faults ≡ before.source_faults) → RecoversTable table (with_source before) (with_source after) (Err copy_fault.NoMemory)
not_begun table before after untouched leaves = subst (λ (at : SourceAround). RecoversTable table (with_source before) at (Err copy_fault.NoMemory)) (same_around before after untouched leaves) (nothing_done table (with_source before))
