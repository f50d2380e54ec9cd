use Rattle.std.proofs.Common.{◌≡◌, ℕ, false, subst}
use Rattle.std.proofs.lemmas.Bool.{iff_false}
use Rattle.list_structure.specs.Bells.{CanRing}
use Rattle.group_member.specs.Restarting.{KnowsTo}
use Rattle.group_crew.proofs.begin.begin_restart.Goals as goal

pub returns-then-not-can_ring-clause-refused : goal.returns-then-not-can_ring-clause-refused
returns-then-not-can_ring-clause-refused g c = λ is.
    let off : c.can_ring.result ≡ false = cc in
    iff_false {b = c.can_ring.result} {P = CanRing c.args.lists.now.bells} c.can_ring.ensures off

pub returns-clause-known : goal.returns-clause-known
returns-clause-known g c = λ begins yes. subst (λ (known : ℕ). KnowsTo known c.in_ok-new.field-0.resources) c.of.ensures c.in_ok-new.ensures.known
