use Rattle.std.proofs.Common.{arith, ◌≡◌, ◌∙◌, ap, ◌<◌, ◌+◌, length, slice_index_or}
use Rattle.std.proofs.lemmas.List.{get_or_read}
use Rattle.list_structure.specs.declared.query.Cell.TheVariants.{Empty}
use Rattle.facility.specs.LockCommands.{clean_version}
use Rattle.facility.proofs.Answers.{clean_kept}
use Rattle.facility.proofs.clean.Clean.among.Goals as goal

pub loop-at-preserved : goal.loop-at-preserved
loop-at-preserved c =
    let cells = c.args.cells.now in
    let at = c.loop-at.at in
    let name = c.args.name.now in
    let inside : at < length cells = grind (arith, c.loop-at.auto.at-end, c.loop-at-test.true, c.requires) in
    let member : c.unwrap-member.result ≡ at + 1 = grind (arith, c.new.ensures, c.unwrap-member.ensures) in
    let cell : c.index-cells-at.result ≡ slice_index_or cells at Empty = get_or_read cells at c.index-cells-at.result inside c.index-cells-at.is Empty in
    let version : c.clean_version.result ≡ clean_version name c.args.mode (slice_index_or cells at Empty) = c.clean_version.ensures ∙ ap (clean_version name c.args.mode) cell in
    (clean_kept cells name c.args.mode at c.unwrap-member.result c.clean_version.result c.loop-at.clean c.note.new.self c.loop-at.invariant.0 member version c.note.ensures.list, grind (arith, c.loop-at.invariant, c.note.ensures.length))
