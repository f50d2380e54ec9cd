use Rattle.std.proofs.Common.{refl}
use Rattle.std.specs.BTreeSet as set
use Rattle.std.specs.Ordering.{nat_cmp}
use Rattle.opening_rows.proofs.Told.{reads_err, err_on}
use Rattle.opening_rows.proofs.Opens.{surveyed_as, opened}
use Rattle.opening_rows.proofs.opening.read_opening.Goals as goal

pub returns-in_err-all-clause-opening : goal.returns-in_err-all-clause-opening
returns-in_err-all-clause-opening g c = reads_err _ _ _ _ _ _ _ _ c.in_err-all.field-0.0 c.from_residual-in_err-all.result c.from_residual-in_err-all.ensures.1 c.in_err-all.ensures.surveyed (λ m at x b. b)

pub returns-in_err-rows-clause-opening : goal.returns-in_err-rows-clause-opening
returns-in_err-rows-clause-opening g c =
    err_on _ _ _ _ _ _ _ _ c.in_ok-all.all _ _ _ _ c.in_err-rows.field-0.0 c.from_residual-in_err-rows.result c.from_residual-in_err-rows.ensures.1 c.in_ok-all.ensures.surveyed c.in_err-rows.ensures.rows
    (λ m at x s bad. absurd (bad s.logs (surveyed_as _ _ _ _ s)))

pub returns-clause-opening : goal.returns-clause-opening
returns-clause-opening g c =
    opened _ _ _ _ _ _ _ c.in_ok-all.all c.in_ok-all.all.ends.items c.in_ok-all.all.had.items (set.contains nat_cmp c.in_ok-all.all.pending) c.in_ok-rows.rows _ _ _ _
    c.in_ok-all.ensures.surveyed (λ x s. s) c.in_ok-rows.ensures.rows refl refl
