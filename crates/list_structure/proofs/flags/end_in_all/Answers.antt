use Rattle.std.proofs.Common.{◌≡◌, ◌∙◌, ap, ◌<◌, length, slice_set, slice_index_or, arith}
use Rattle.std.proofs.lemmas.List.{get_or_default}
use Rattle.std.proofs.lemmas.List.Edits.{map_over_more}
use Rattle.list_structure.specs.declared.flags.Flag.{Flag}
use Rattle.list_structure.specs.Flags.{raised_by}
use Rattle.list_structure.proofs.flags.end_in_all.Goals as goal

pub loop-flag-preserved : goal.loop-flag-preserved
loop-flag-preserved c =
    let l : c.loop-flag.flag-index < length c.args.flags.now = omega arith in
    let m : c.loop-flag.flag-index < length c.loop-flag.flags = omega arith in
    let x = slice_index_or c.loop-flag.flags c.loop-flag.flag-index c.flag-item.result in
    let e = map_over_more (raised_by c.args.tran.now) c.args.flags.now c.loop-flag.flags c.loop-flag.flag-index x l c.loop-flag.invariant (get_or_default c.loop-flag.flags c.loop-flag.flag-index c.flag-item.result x m) in
    ap (λ (y : Flag). slice_set c.loop-flag.flags c.loop-flag.flag-index y) c.after_end.ensures ∙ e
