use Rattle.std.proofs.Common.{◌≡◌, true, List, subst}
use Rattle.std.specs.Prelude.{Option, Some}
use Rattle.std.specs.Option.{SomeIff}
use Rattle.ds_base.specs.declared.row.Row.{Row}
use Rattle.ds_model.specs.Rows.{map_of, listed}
use Rattle.ds_model.specs.History.{replay}
use Rattle.report_check.specs.Reports.{IsSoundAlone}
use Rattle.opening_rows.proofs.Judged.{bears_out}
use Rattle.opening_rows.proofs.check.judge.Goals as goal

pub returns-then-branch-clause-judges : goal.returns-then-branch-clause-judges
returns-then-branch-clause-judges c = λ logs stood k.
    let script = c.args.script.now in
    let opening = c.args.opening.now in
    let entries = c.args.entries.now in
    let found : SomeIff (Some c.in-Some.left) (IsSoundAlone script (map_of opening.rows) entries) (listed (replay (map_of opening.rows) entries)) =
    subst (λ (o : Option (List Row)). SomeIff o (IsSoundAlone script (map_of opening.rows) entries) (listed (replay (map_of opening.rows) entries))) c.in-Some.is c.in_ok-sound_rows.ensures in
    let whole : c.args.kept.now.are_whole ≡ true = cc in
    let yes : c.in_ok-are_borne_out-in-Some.field-0 ≡ true = cc in
    bears_out script opening entries logs c.args.kept.now c.in-Some.left c.args.rows.now k stood found.1 whole found.0 ((c.in_ok-are_borne_out-in-Some.ensures logs k).0 yes)
