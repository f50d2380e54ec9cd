use Rattle.redone_pages.specs.Ranges.{has_page}
use Rattle.heap_rows.specs.Left.{AreLeft}
use Rattle.stood_rows.proofs.Scanning.{patches_told}
use Rattle.stood_rows.proofs.scan.find.Goals as goal

pub returns-in-System : goal.returns-in-System
returns-in-System c =
    patches_told (has_page c.args.made.now.range) c.args.made.now.records c.args.at c.args.it.now.lrsn c.args.it.now.body c.in-System.patches c.as_slice.result.now c.find_in_patches.result (AreLeft c.args.made.now.records c.args.rows.now)
    c.in-System.is (cc) c.find_in_patches.ensures
