use Rattle.std.proofs.Common.{◌≤◌, arith}
use Rattle.page_format.specs.Header.{slots_per_page}
use Rattle.sound_disk.specs.Layouts.{count_in}
use Rattle.heap_rows.proofs.Heaps.{within}
use Rattle.heap_rows.proofs.heap.page_has.Goals as goal

pub slot_has-requires-clause-slot : goal.slot_has-requires-clause-slot
slot_has-requires-clause-slot c =
    let few : count_in c.args.page.now ≤ slots_per_page = within c.args.id c.args.page.now c.requires in
    omega arith
