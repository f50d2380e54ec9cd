use Rattle.std.proofs.Common.{◌+◌}
use Rattle.torn_records.proofs.Sizes.{none_put, patches_put, rest_from}
use Rattle.torn_records.proofs.system.+put_patches.Goals as goal

pub returns-then-count-eq0-clause-text : goal.returns-then-count-eq0-clause-text
returns-then-count-eq0-clause-text t c = none_put c.args.text.now c.args.here.now c.args.count c.args.left c.if-count-eq0.true

pub returns-clause-text : goal.returns-clause-text
returns-clause-text t c =
    let here = c.args.here.now in
    let size = c.next_size-size.result in
    patches_put c.args.text.now _ _ here _ c.args.count c.args.left size c.saturating_sub.result c.if-count-eq0.false c.next_size-size.ensures.size
    c.in_ok-put_patch.ensures c.in_ok-put_patches.ensures.text (rest_from here (10 + size) c.min-behind.result c.min-behind.ensures) c.saturating_sub.ensures
