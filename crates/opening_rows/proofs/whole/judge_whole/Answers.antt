use Rattle.std.proofs.Common.{◌≡◌, true, false, List, subst}
use Rattle.std.specs.Prelude.{Option, Some}
use Rattle.std.specs.Option.{SomeIff}
use Rattle.ds_base.specs.declared.row.Row.{Row}
use Rattle.ds_model.specs.Rows.{map_of, listed}
use Rattle.ds_model.specs.History.{replay}
use Rattle.report_check.specs.Reports.{IsSoundAlone}
use Rattle.opening_rows.proofs.WholeLogs.{not_whole, whole_bears}
use Rattle.opening_rows.proofs.whole.judge_whole.Goals as goal

pub returns-then-not-are_whole-clause-judges : goal.returns-then-not-are_whole-clause-judges
returns-then-not-are_whole-clause-judges c =
    let no : c.are_whole.result ≡ false = cc in
    not_whole c.args.script.now c.args.opening.now c.args.entries.now c.args.logs.now c.are_whole.result c.are_whole.ensures no

pub returns-then-branch-clause-judges : goal.returns-then-branch-clause-judges
returns-then-branch-clause-judges c =
    let script = c.args.script.now in
    let opening = c.args.opening.now in
    let entries = c.args.entries.now in
    let found : SomeIff (Some c.in-Some.left) (IsSoundAlone script (map_of opening.rows) entries) (listed (replay (map_of opening.rows) entries)) =
    subst (λ (o : Option (List Row)). SomeIff o (IsSoundAlone script (map_of opening.rows) entries) (listed (replay (map_of opening.rows) entries))) c.in-Some.is c.in_ok-sound_rows.ensures in
    let whole : c.are_whole.result ≡ true = cc in
    let yes : c.in_ok-bear_out-in-Some.field-0 ≡ true = cc in
    whole_bears script opening entries c.args.logs.now c.in-Some.left found.1 (c.are_whole.ensures.0 whole) found.0 (c.in_ok-bear_out-in-Some.ensures.0 yes)
