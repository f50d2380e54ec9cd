use Rattle.std.proofs.Common.{◌≡◌, ◌<◌, ◌+◌, arith, length, refl, ◌++◌, replicate, drop, set}
use Rattle.lock_structure.specs.Entries.{blank}
use Rattle.lock_structure.proofs.Emptied.{fill_more}
use Rattle.lock_structure.proofs.structure.clear_all.Goals as goal

pub loop-entry-preserved : goal.loop-entry-preserved
loop-entry-preserved c =
    let old = c.args.entries.now.items in
    let at = c.loop-entry.entry-index in
    let within : at < length old = grind (arith, c.loop-entry-test.true, c.loop-entry.auto.entry-index-end, c.deref_mut-entry-items.ensures.value, c.deref_mut-entry-items.ensures.len) in
    let was : c.loop-entry.entry-items ≡ replicate at blank ++ drop at old = c.loop-entry.invariant in
    let now : set c.loop-entry.entry-items at blank ≡ replicate (at + 1) blank ++ drop (at + 1) old = rw (was, fill_more blank old at within) refl in
    now
