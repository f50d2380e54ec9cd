use Rattle.std.proofs.Common.{◌≡◌, true, false, arith}
use Rattle.page_chain.specs.Chains.{images_of}
use Rattle.redone_pages.specs.Ranges.{has_page}
use Rattle.stood_rows.proofs.Scanning.{patch_told, more_stay, all_stay}
use Rattle.stood_rows.proofs.parts.find_in_patches.Goals as goal

pub loop-k-init : goal.loop-k-init
loop-k-init c = λ j lt. absurd (omega (arith, lt))

pub returns-then-not-stay : goal.returns-then-not-stay
returns-then-not-stay c =
    let fails : c.in_ok-stay.stay ≡ false = cc in
    patch_told (has_page c.args.made.now.range) c.args.made.now.records c.args.at c.args.lrsn c.args.patches.now c.loop-k.k c.index-patches-k.result c.in_ok-stay.stay (omega arith) c.index-patches-k.is c.in_ok-stay.ensures fails c.loop-k.invariant

pub loop-k-preserved : goal.loop-k-preserved
loop-k-preserved c =
    let holds : c.in_ok-stay.stay ≡ true = cc in
    more_stay (has_page c.args.made.now.range) (images_of c.args.made.now.records) c.args.lrsn c.args.patches.now c.loop-k.k c.index-patches-k.result c.in_ok-stay.stay (omega arith) c.index-patches-k.is c.in_ok-stay.ensures holds c.loop-k.invariant

pub returns : goal.returns
returns c = all_stay (has_page c.args.made.now.range) (images_of c.args.made.now.records) c.args.lrsn c.args.patches.now c.loop-k.k (omega arith) c.loop-k.invariant
