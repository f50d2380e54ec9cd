use Rattle.std.proofs.Common.{◌≡◌, ◌∙◌, ap, sym}
use Rattle.std.proofs.lemmas.Result.{err_from_is_err_and}
use Rattle.std.specs.Prelude.{None}
use Rattle.std.specs.FinMap as finite
use Rattle.spot_map.proofs.Spots.{get_spot, one_set}
use Rattle.spot_map.proofs.map.SpotMap.insert.Goals as goal

pub returns-clause-ok : goal.returns-clause-ok
returns-clause-ok g c = one_set c.self.inside.spots.entries c.insert.new.self.entries (c.args.table, c.args.key) c.args.value c.in_ok-insert.ensures.updates.0 ∙ ap (λ m. finite.insert m (c.args.table, c.args.key) c.args.value) c.self.view_is

pub returns-in_err-insert-clause-absent : goal.returns-in_err-insert-clause-absent
returns-in_err-insert-clause-absent g c =
    let none : finite.get c.args.self.now (c.args.table, c.args.key) ≡ None = sym (ap (λ m. finite.get m (c.args.table, c.args.key)) c.self.view_is) ∙ get_spot c.self.inside.spots.entries (c.args.table, c.args.key) ∙ c.in_err-insert.ensures.absent in
    let p = err_from_is_err_and c.from_residual.result c.from_residual.ensures.1 in rw (p.1) none
