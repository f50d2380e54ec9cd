use Rattle.std.proofs.Common.{◌≡◌, arith, subst, slice_set, ◌<◌, length}
use Rattle.std.specs.Prelude.{nat_lt}
use Rattle.lock_names.specs.Entries.{entry_number}
use Rattle.lock_manager.specs.Claims.{without}
use Rattle.lock_manager.specs.Holders.{any_needs}
use Rattle.lock_manager.specs.Managers.{Book, claims_of, held_by}
use Rattle.lock_manager.specs.Tallies.{counted_mode, tallied}
use Rattle.lock_manager.proofs.Tallies.{needed_without_name, gone_one, gone_none}
use Rattle.lock_manager.proofs.manager.LockManager.is_needed_without.Goals.{in-Some, in_default-2, in_default}
use Rattle.lock_manager.proofs.manager.LockManager.is_needed_without.Goals as goal

pub returns : goal.returns
returns c =
    let e = entry_number c.args.name.now c.self.inside.entries in
    let gone : c.match-held.gone ≡ counted_mode c.self.inside.entries e c.args.needed c.args.name.now c.args.held =
    elim c.match-held.branch [
      | in-Some w ↦ gone_one c.self.inside.entries c.args.needed w.class.result c.args.name.now w.in-Some.mode c.args.held w.is_class.result c.match-held.gone w.in-Some.is w.class.ensures.table w.is_class.ensures (grind (arith, w.gone-is, w.if-is_class.true))
      | in_default-2 w ↦ gone_one c.self.inside.entries c.args.needed w.class.result c.args.name.now w.in-Some.mode c.args.held w.is_class.result c.match-held.gone w.in-Some.is w.class.ensures.table w.is_class.ensures (grind (arith, w.gone-is, w.if-is_class.false))
      | in_default w ↦ gone_none c.self.inside.entries c.args.needed c.args.name.now c.args.held c.match-held.gone w.in_default.is w.gone-is
    ] in
    let P : Book → Type 0 = λ b. c.args.held ≡ held_by b 0 c.args.name.now → c.is_above.result ≡ any_needs b.entries (entry_number c.args.name.now b.entries) c.args.needed (slice_set b.holders 0 (without (claims_of b 0) c.args.name.now)) in
    let there : 0 < length c.self.inside.holders.items = grind (arith, c.requires.owner, c.self.view_is) in
    let entries_are = c.self.invariant.2.tally.0 in
    let told : c.is_above.result ≡ nat_lt c.match-held.gone (tallied c.self.inside.tally c.args.needed e) = grind (arith, c.is_above.ensures, entries_are) in
    subst P c.self.view_is (λ held. needed_without_name c.self.inside.entries c.self.inside.holders.items c.self.inside.tally c.args.needed c.args.name.now c.args.held c.match-held.gone c.is_above.result c.self.invariant.2.tally there held gone told) c.requires.held
