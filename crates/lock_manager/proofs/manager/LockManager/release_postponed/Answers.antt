use Rattle.std.proofs.Common.{◌≡◌, false, arith, ◌<◌, ◌+◌, length}
use Rattle.std.specs.Prelude.{is_some}
use Rattle.lock_manager.specs.Managers.{slots}
use Rattle.lock_manager.proofs.Releases.{nothing_left}
use Rattle.lock_manager.proofs.manager.LockManager.release_postponed.Goals as goal

pub end-requires-clause-done : goal.end-requires-clause-done
end-requires-clause-done c =
    let none : is_some c.release_at-told.result ≡ false = grind (arith, c.is_none.ensures, c.if-is_none.true) in
    let place : c.slots.result + c.in_ok-at.at ≡ slots c.args.self.now + c.in_ok-at.at = grind (arith, c.slots.ensures.slots) in
    let there : c.slots.result + c.in_ok-at.at < length c.args.self.now.holders = grind (arith, c.slots.ensures, c.in_ok-at.ensures, c.as_slice.ensures, c.self.view_is) in
    nothing_left c.args.self.now c.release_at-told.new.self (c.slots.result + c.in_ok-at.at) c.in_ok-at.at c.release_at-told.result place there c.release_at-told.ensures.left c.release_at-told.ensures.told none
