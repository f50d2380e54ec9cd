-- The group restart before a copy, and the greatest number of the logs behind it.
use Rattle.std.proofs.Common.{◌≡◌, ℕ, ◌≤◌, Option, Some, None, Result, Ok, Err, arith}
use Rattle.ds_disk.specs.Contents.{Contents, WhenTold, Becomes, Same}
use Rattle.ds_base.specs.declared.names.Volume.{Volume}
use Rattle.disk_restart.specs.Keeping.{KeepsRecords}
use Rattle.table_copy.specs.Looking.{Looks}
use Rattle.table_copy.specs.declared.fault.CopyFault.{CopyFault}
use Rattle.table_copy.specs.declared.fault.CopyFault.TheVariants as fault
use Rattle.disk_orders.specs.Numbers.{IsGreatest, IsBrokenAt}
use Rattle.disk_orders.specs.Restarting.{Restarts, Opens}
use Rattle.disk_orders.proofs.Told.{as_err, stays_on, told_behind, rose_on}

-- the restart was not done
pub not_opened : (a b : Option Contents) (f g : ℕ) (why : CopyFault) → Restarts a b f g (Err why) → Opens a b f g (Err why)
not_opened a b f g why h = record {
  greatest = tt;
  disk_failed = λ is. h.disk_failed (as_err why fault.Disk is);
  no_source = λ is. h.no_source (as_err why fault.Source is);
  no_sink = λ is. h.no_sink (as_err why fault.Sink is);
  no_image = λ at is. h.no_image at (as_err why (fault.Image at) is);
  keeps = h.keeps;
  later = h.later;
}

-- it was, and then the logs were read
pub opened : (a b c : Option Contents) (f g k : ℕ) (result : Result ℕ CopyFault) → Restarts a b f g (Ok tt)
    → Looks b c g k (λ (lrsn : ℕ) (x : Contents). IsGreatest x lrsn) (λ (v : Volume) (at : ℕ) (x : Contents). IsBrokenAt x v at) result → Opens a c f k result
opened a b c f g k (Ok lrsn) h looks = record {
  greatest = stays_on a b c (λ was x. IsGreatest x lrsn) (told_behind a b KeepsRecords (λ x. IsGreatest x lrsn) h.keeps looks.ok) looks.same;
  disk_failed = λ is. rose_on f g k h.later (looks.failed is);
  no_source = looks.no_source;
  no_sink = looks.no_sink;
  no_image = looks.no_image;
  keeps = stays_on a b c KeepsRecords h.keeps looks.same;
  later = omega (arith, h.later, looks.later);
}
opened a b c f g k (Err why) h looks = record {
  greatest = tt;
  disk_failed = λ is. rose_on f g k h.later (looks.failed is);
  no_source = looks.no_source;
  no_sink = looks.no_sink;
  no_image = looks.no_image;
  keeps = stays_on a b c KeepsRecords h.keeps looks.same;
  later = omega (arith, h.later, looks.later);
}
