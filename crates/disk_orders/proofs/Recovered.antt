-- What a recovery and the group restart behind it come to.
use Rattle.std.proofs.Common.{◌≡◌, ℕ, List, Option, Some, None, Result, Ok, Err, refl, ap, ◌∙◌}
use Rattle.ds_disk.specs.Contents.{Contents, Becomes, log_of}
use Rattle.disk_restart.specs.Keeping.{lasting, KeepsRecords}
use Rattle.copy_recover.specs.Recovering.{BecomesBy, IsRecovered, IsBegun}
use Rattle.table_copy.specs.declared.fault.CopyFault.{CopyFault}
use Rattle.disk_orders.specs.Restarting.{Restarts}
use Rattle.disk_orders.specs.Recovering.{Recovers, SourceAround, EndsIn, RecoversTable}

abbrev pub around : Option Contents → ℕ → Option (List ℕ) → ℕ → SourceAround
around contents disk_faults left source_faults = record { contents = contents; disk_faults = disk_faults; left = left; source_faults = source_faults }

-- ---- the logs

keeps_by : (c d : Contents) → d.logs ≡ c.logs → KeepsRecords c d
keeps_by c d e = λ member. ap (λ (logs : List (List ℕ)). lasting (log_of logs member)) e

-- a recovery changes none
logs_kept : (a b : Option Contents) (left : Option (List ℕ)) (P : Contents → Contents → List ℕ → Type 0) → ((c d : Contents) (bytes : List ℕ) → P c d bytes → d.logs ≡ c.logs) → BecomesBy a b left P → Becomes a b KeepsRecords
logs_kept None b left P stay h = tt
logs_kept (Some c) None left P stay h = absurd h
logs_kept (Some c) (Some d) None P stay h = keeps_by c d (stay c d h.0 h.1)
logs_kept (Some c) (Some d) (Some bytes) P stay h = keeps_by c d (stay c d bytes h)

keeps_on : (a b c : Option Contents) → Becomes a b KeepsRecords → Becomes b c KeepsRecords → Becomes a c KeepsRecords
keeps_on None b c h k = tt
keeps_on (Some x) None c h k = absurd h
keeps_on (Some x) (Some y) None h k = absurd k
keeps_on (Some x) (Some y) (Some z) h k = λ member. k member ∙ h member

-- ---- the call

-- the recovery was not done, and no restart
pub not_recovered : (table : ℕ) (before after : SourceAround) (why : CopyFault) → Recovers table before after (Err why) → RecoversTable table before after (Err why)
not_recovered table before after why h = record {
  between = after;
  made = Err why;
  recovers = h;
  goes = (refl, refl);
  keeps = logs_kept before.contents after.contents before.left (λ c d image. IsBegun c d image table) (λ c d image is. is.logs_stay) h.begun;
}

-- it was, and then the restart ended so
pub recovered : (table pages : ℕ) (before : SourceAround) (a b : Option Contents) (f g : ℕ) (left : Option (List ℕ)) (faults : ℕ) (done : Result (Unit {0}) CopyFault) (result : Result ℕ CopyFault)
    → Recovers table before (around a f left faults) (Ok pages) → Restarts a b f g done → EndsIn pages done result → RecoversTable table before (around b g left faults) result
recovered table pages before a b f g left faults done result made h ends = record {
  between = around a f left faults;
  made = Ok pages;
  recovers = made;
  goes = record { done = done; restarts = h; ends = ends; left = refl; source_faults = refl };
  keeps = keeps_on before.contents a b (logs_kept before.contents a before.left (λ c d image. IsRecovered c d image table pages) (λ c d image is. is.logs_stay) made.ok) h.keeps;
}
