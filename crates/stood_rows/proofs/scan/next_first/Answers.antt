use Rattle.redone_pages.specs.Ranges.{has_page}
use Rattle.stood_rows.proofs.Scanning.{still, next_told}
use Rattle.stood_rows.proofs.scan.next_first.Goals as goal

pub returns-in-Some : goal.returns-in-Some
returns-in-Some c = λ s. still (has_page c.args.it.now.rows.range) c.args.made.now.records c.args.next.now c.args.it.now.first c.in-Some.field-0 c.in-Some.is s.found

pub returns-in-None : goal.returns-in-None
returns-in-None c = next_told c.args.made.now.range c.args.made.now.records c.args.next.now c.args.it.now c.find.result c.requires.range c.in-None.is c.find.ensures
