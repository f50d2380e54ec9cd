use Rattle.std.proofs.Common.{◌≡◌, ◌∙◌, ap, arith, ◌<◌, length}
use Rattle.lock_names.specs.Entries.{entry_number}
use Rattle.lock_manager.proofs.Places.{changed_mode, changed_length, inserted_mode}
use Rattle.lock_manager.proofs.buckets.Buckets.insert.Goals as goal

pub returns-clause-mode : goal.returns-clause-mode
returns-clause-mode c =
    let count : c.len.result ≡ length c.self.inside.chains.items = grind (arith, c.len.ensures, c.self.inside.chains.ok) in
    let there : c.entry_of-at.result < length c.self.inside.chains.items = grind (arith, c.entry_of-at.ensures.range, count) in
    let e : c.entry_of-at.result ≡ entry_number c.args.claim.name (length c.self.inside.chains.items) = c.entry_of-at.ensures.hash ∙ ap (λ z. entry_number c.args.claim.name z) count in
    changed_mode c.self.inside.chains.items c.entry_of-at.result c.insert.new.self c.args.claim.name c.self.invariant e there ∙ inserted_mode c.args.claim c.index_mut.result.now c.insert.new.self c.insert.ensures

pub returns-clause-length : goal.returns-clause-length
returns-clause-length c =
    let count : c.len.result ≡ length c.self.inside.chains.items = grind (arith, c.len.ensures, c.self.inside.chains.ok) in
    let there : c.entry_of-at.result < length c.self.inside.chains.items = grind (arith, c.entry_of-at.ensures.range, count) in
    let long = changed_length c.self.inside.chains.items c.entry_of-at.result c.index_mut.result.now c.insert.new.self there c.index_mut.ensures.value in
    let more = ap (λ z. length z) c.insert.ensures in
    let seen = ap (λ z. length z) c.self.view_is in
    omega (arith, long, more, seen)
