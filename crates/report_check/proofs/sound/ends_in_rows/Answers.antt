use Rattle.std.proofs.Common.{subst}
use Rattle.std.specs.Prelude.{Option, Some}
use Rattle.std.specs.Option.{SomeIff}
use Rattle.std.proofs.Common.{List}
use Rattle.ds_base.specs.declared.row.Row.{Row}
use Rattle.ds_model.specs.Rows.{map_of, listed}
use Rattle.ds_model.specs.History.{replay, ArePrintsLegal}
use Rattle.report_check.specs.Records.{records_of}
use Rattle.report_check.proofs.Ending.{compared}
use Rattle.report_check.proofs.sound.ends_in_rows.Goals as goal

pub returns-in_ok-rows_of-in-Some : goal.returns-in_ok-rows_of-in-Some
returns-in_ok-rows_of-in-Some c =
    let opening = map_of c.args.opening.now in
    let entries = c.args.entries.now in
    let told : SomeIff (Some c.in-Some.rows) (ArePrintsLegal opening entries) (listed (replay opening entries)) =
    subst (λ (o : Option (List Row)). SomeIff o (ArePrintsLegal opening entries) (listed (replay opening entries))) c.in-Some.is c.in_ok-replay_entries.ensures in
    compared c.same_rows.result c.as_slice.result.now c.as_slice-in-Some-2.result.now c.in-Some.rows c.in_ok-rows_of-in-Some.field-0 opening entries (records_of c.args.logs.now)
    c.same_rows.ensures c.as_slice.ensures c.as_slice-in-Some-2.ensures told.0 told.1 c.in_ok-rows_of-in-Some.ensures.rows
