use Rattle.std.proofs.Common.{◌≡◌, ℕ, ◌+◌, length, List, ap, sym, ◌∙◌, arith, Ok}
use Rattle.script_text.specs.declared.draft.Draft.{Draft}
use Rattle.script_text.specs.TextLines.{TextLine, line_of, lines_behind, pieces}
use Rattle.script_text.specs.Reading.{read_lines, script_of, step}
use Rattle.script_text.proofs.Loops.{goes_on, grown, short}
use Rattle.script_text.proofs.read.read_text.Goals as goal

pub loop-rest-init : goal.loop-rest-init
unfolding script_of
loop-rest-init c =
    let groupfails : c.new-reader.result.draft.groupfails ≡ 0 = ap (λ (d : Draft). d.groupfails) c.new-reader.ensures.draft in
    let count : c.new-reader.result.draft.count ≡ 0 = ap (λ (d : Draft). d.count) c.new-reader.ensures.draft in
    record {
      same = ap (λ (d : Draft). read_lines c.args.members 1 d (lines_behind 0 (pieces c.args.bytes.now))) c.new-reader.ensures.draft;
      indexed = c.new-reader.ensures.indexed;
      within = omega arith;
      numbered = omega arith;
      groupfails = omega arith;
      counted = omega arith;
      whole = omega arith;
    }

pub loop-rest-preserved : goal.loop-rest-preserved
loop-rest-preserved c =
    let end = c.loop-rest.end + length c.cut_line.result.0.now in
    let line : TextLine = record { bytes = line_of c.cut_line.result.0.now; end = c.loop-rest.end + length c.cut_line.result.0.now } in
    let taken : step c.args.members c.loop-rest.reader.draft (record { bytes = line_of c.cut_line.result.0.now; end = c.loop-rest.end + length c.cut_line.result.0.now }) ≡ Ok c.read_piece.new.reader.draft = c.in-Ok.ensures.next in
    let first = ap (λ (ps : List (List ℕ)). read_lines c.args.members c.loop-rest.number c.loop-rest.reader.draft (lines_behind c.loop-rest.end ps)) (sym c.cut_line.ensures.pieces) ∙ c.loop-rest.invariant.same in
    let more = grown c.args.members c.loop-rest.reader.draft line c.read_piece.new.reader.draft taken in
    let low = short c.args.members c.loop-rest.reader.draft line c.read_piece.new.reader.draft taken in
    record {
      same = goes_on c.args.members c.loop-rest.number c.loop-rest.reader.draft line (lines_behind (c.loop-rest.end + length c.cut_line.result.0.now) (pieces c.cut_line.result.1.now)) c.read_piece.new.reader.draft _ taken first;
      indexed = c.in-Ok.ensures.indexed;
      within = low;
      numbered = omega (arith, c.loop-rest.invariant.numbered, c.cut_line.ensures.some);
      groupfails = omega (arith, more.groupfails_by_one, c.loop-rest.invariant.groupfails, c.cut_line.ensures.some);
      counted = omega (arith, more.count_by_one, c.loop-rest.invariant.counted, c.cut_line.ensures.some);
      whole = omega (arith, c.loop-rest.invariant.whole, c.cut_line.ensures.whole);
    }
