use Rattle.std.proofs.Common.{◌≡◌, ◌<◌, ◌+◌, arith, length, refl, [], ◌++◌, replicate, drop}
use Rattle.lock_structure.proofs.Emptied.{fill_more}
use Rattle.lock_structure.proofs.buckets.Buckets.clear.Goals as goal

pub loop-at-preserved : goal.loop-at-preserved
loop-at-preserved c =
    let old = c.args.self.now in
    let within : c.loop-at.at < length old.chains = grind (arith, c.loop-at-test.true, c.len-at-end.ensures, c.self.inside.chains.ok, c.self.view_is) in
    let was : c.loop-at.self ≡ record old { chains = replicate c.loop-at.at [] ++ drop c.loop-at.at old.chains } = c.loop-at.invariant in
    let now : c.empty.new.self ≡ record old { chains = replicate (c.loop-at.at + 1) [] ++ drop (c.loop-at.at + 1) old.chains } = rw (c.empty.ensures, was, fill_more [] old.chains c.loop-at.at within) refl in
    now
