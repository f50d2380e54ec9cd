use Rattle.std.proofs.Common.{◌≡◌, arith, subst}
use Rattle.lock_names.specs.declared.mode.Interest.{Interest}
use Rattle.lock_names.specs.declared.mode.Class.TheVariants.{Share, Exclusive}
use Rattle.lock_names.specs.Entries.{entry_number}
use Rattle.lock_manager.specs.Holders.{kept}
use Rattle.lock_manager.specs.Managers.{Book}
use Rattle.lock_manager.proofs.Tallies.{needed, both}
use Rattle.lock_manager.proofs.manager.LockManager.interest.Goals as goal

pub returns : goal.returns
returns c =
    let e = entry_number c.args.name.now c.self.inside.entries in
    let at = c.self.invariant.2.tally.0 in
    let P : Book → Type 0 = λ b. ◌≡◌ {A = Interest} c.interest.result (kept b.entries b.holders (entry_number c.args.name.now b.entries)) in
    subst P c.self.view_is (both c.self.inside.entries c.self.inside.holders.items e c.interest.result.share c.interest.result.exclusive
    (needed c.self.inside.entries c.self.inside.holders.items c.self.inside.tally Share e c.interest.result.share c.self.invariant.2.tally (grind (arith, c.interest.ensures.share, at)))
    (needed c.self.inside.entries c.self.inside.holders.items c.self.inside.tally Exclusive e c.interest.result.exclusive c.self.invariant.2.tally (grind (arith, c.interest.ensures.exclusive, at))))
