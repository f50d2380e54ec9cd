use Rattle.std.proofs.Common.{◌≡◌, ◌<◌, arith, subst, drop, length, slice_set, [], get_or}
use Rattle.lock_names.specs.declared.mode.Interest.{Interest}
use Rattle.lock_names.specs.declared.mode.Class.TheVariants.{Share, Exclusive}
use Rattle.lock_names.specs.Entries.{entry_number}
use Rattle.lock_manager.specs.Holders.{kept}
use Rattle.lock_manager.specs.Managers.{Book, claims_of}
use Rattle.lock_manager.proofs.Tallies.{needed_after, both}
use Rattle.lock_manager.proofs.manager.LockManager.interest_after.Goals as goal

pub returns : goal.returns
returns c =
    let hs = c.self.inside.holders.items in
    let n = c.self.inside.entries in
    let e = entry_number c.args.name.now n in
    let at = c.self.invariant.2.tally.0 in
    let there : c.args.owner < length hs = grind (arith, c.requires, c.self.view_is) in
    let P : Book → Type 0 = λ b. ◌≡◌ {A = Interest} (record { share = c.is_above.result; exclusive = c.is_above-2.result }) (kept b.entries (slice_set b.holders c.args.owner (drop c.args.gone (claims_of b c.args.owner))) (entry_number c.args.name.now b.entries)) in
    subst P c.self.view_is (both n (slice_set hs c.args.owner (drop c.args.gone (get_or hs c.args.owner []))) e c.is_above.result c.is_above-2.result
    (needed_after n hs c.self.inside.tally Share e c.args.owner c.args.gone c.count_first-share.result c.index-holder.result.now c.is_above.result c.self.invariant.2.tally there c.index-holder.ensures (grind (arith, c.count_first-share.ensures, c.entry_of-entry.ensures.hash)) (grind (arith, c.is_above.ensures, at)))
    (needed_after n hs c.self.inside.tally Exclusive e c.args.owner c.args.gone c.count_first-exclusive.result c.index-holder.result.now c.is_above-2.result c.self.invariant.2.tally there c.index-holder.ensures (grind (arith, c.count_first-exclusive.ensures, c.entry_of-entry.ensures.hash)) (grind (arith, c.is_above-2.ensures, at))))
