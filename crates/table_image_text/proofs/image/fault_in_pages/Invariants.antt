use Rattle.std.proofs.Common.{◌≡◌, ◌-◌}
use Rattle.table_image_text.specs.Faults.{fault_in_pages}
use Rattle.table_image_text.proofs.image.fault_in_pages.Given as goal

abbrev pub invariant-loop-n : goal.invariant-loop-n
invariant-loop-n l = fault_in_pages l.bytes l.table l.greatest l.heap 0 l.count ≡ fault_in_pages l.bytes l.table l.greatest l.heap l.n (l.count - l.n)
