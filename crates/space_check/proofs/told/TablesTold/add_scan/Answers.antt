use Rattle.space_check.proofs.Adding.{stood_of_scan, turns_of_scan}
use Rattle.space_check.proofs.told.TablesTold.add_scan.Goals as goal

pub returns : goal.returns
returns c = record {
  pages_are = c.in_ok-pages.ensures;
  whole = c.in_ok-unwhole.ensures;
  stood = λ n first before.
      stood_of_scan c.unstood_laws.ensures.both c.args.scan.now.met.made.range c.args.scan.now.turns.is_early c.args.scan.now n c.args.self.now.unstood c.sooner-unstood.result c.sooner-unstood.ensures first c.requires.scan before;
  turns = λ n first orderly before.
      turns_of_scan c.args.scan.now.met.made.range c.args.scan.now n c.args.self.now.turns c.in_ok-told.told c.in_ok-turns.turns first c.requires.range c.requires.scan c.in_ok-told.ensures c.in_ok-turns.ensures orderly before;
}
