use Rattle.std.proofs.Common.{◌≡◌, ℕ, List, ◌∙◌, sym, ap, map, rules}
use Rattle.std.specs.Prelude.{filter}
use Rattle.std.specs.Vec.{vec_items}
use Rattle.std.specs.BTreeMap.Range.{entries_between}
use Rattle.std.specs.declared.ops.Bound.TheVariants.{Included}
use Rattle.std.proofs.lemmas.Result.{IfOk-at_ok}
use Rattle.std.proofs.lemmas.Iterator.{items_from_collect, YieldsList-from_map}
use Rattle.std.proofs.lemmas.Iterator.Consumers.{YieldsList-at, YieldsList-from_rest}
use borrow.Author.Tests.{tests}
use Rattle.ds_model.specs.Rows.{Spot, Rows, spot_cmp, listed, scanned}
use Rattle.spot_map.proofs.Spots.{kept}
use Rattle.spot_map.proofs.Scans.{is_read, read_between, read_none, row_of}
use Rattle.spot_map.proofs.map.SpotMap+Value.scan.Goals as goal

pub returns-then-low-high : goal.returns-then-low-high
returns-then-low-high c = c.new.ensures ∙ sym (read_none c.args.table c.args.low c.args.high c.if-low-high.true (listed c.args.self.now))

pub returns : goal.returns
returns c =
    let all = c.self.inside.spots.entries in
    let within : List (Spot × List ℕ) = entries_between spot_cmp (Included (c.args.table, c.args.low)) (Included (c.args.table, c.args.high)) all in
    let ranged : c.range.result ≡ within = c.range.ensures.between c.new-2.ensures.exhausted ∙ (λ i. entries_between spot_cmp (Included (c.new-2.ensures.start i)) (Included (c.new-2.ensures.end i)) all) in
    let gives = items_from_collect _ c.collect.ensures.ran (YieldsList-from_map _ row_of (YieldsList-at c.map.ensures.source (YieldsList-from_rest within ranged)) c.map.ensures.closure (λ x r q k. search (rules, tests))) in
    let collected : vec_items c.in_ok-rows.rows ≡ map row_of within = IfOk-at_ok (λ w. vec_items w ≡ map row_of within) c.in_ok-rows.was gives in
    let read : map row_of within ≡ filter (is_read c.args.table c.args.low c.args.high) (map row_of all) = read_between c.args.table c.args.low c.args.high all in
    c.from_vec.ensures ∙ collected ∙ read ∙ ap (λ es. filter (is_read c.args.table c.args.low c.args.high) (map row_of es)) (sym (kept all c.range.ensures.ordered)) ∙ ap (λ (rows : Rows). scanned rows c.args.table c.args.low c.args.high) c.self.view_is
