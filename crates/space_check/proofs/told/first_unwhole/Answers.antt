use Rattle.page_chain.specs.Chains.{images_of}
use Rattle.space_check.proofs.Adding.{rows_of_scan, whole_found, unwhole_stays}
use Rattle.space_check.proofs.told.first_unwhole.Goals as goal

pub find_unwhole-requires : goal.find_unwhole-requires
find_unwhole-requires c = rows_of_scan c.args.scan.now.met.made.range c.args.scan.now.turns.is_early c.args.scan.now c.requires

pub returns-in-Some : goal.returns-in-Some
returns-in-Some c = λ n first before. unwhole_stays (images_of c.args.scan.now.met.made.records) c.args.scan.now.met.made.records n c.args.scan.now.met.made.range.last c.args.before c.in-Some.id c.in-Some.is before

pub returns-in-None : goal.returns-in-None
returns-in-None c = whole_found c.args.scan.now c.args.before c.find_unwhole.result c.in-None.is c.find_unwhole.ensures
