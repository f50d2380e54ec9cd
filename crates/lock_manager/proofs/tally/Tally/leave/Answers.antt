use Rattle.std.proofs.Common.{◌≡◌, ◌∙◌, sym, subst, arith, ◌<◌, ℕ, ◌+◌, ◌-◌, length, slice_set}
use Rattle.lock_names.specs.Entries.{entry_number}
use Rattle.lock_names.specs.declared.mode.Class.{Class}
use Rattle.lock_names.specs.declared.mode.Class.TheVariants.{Share, Exclusive}
use Rattle.lock_names.specs.Modes.{class_of}
use Rattle.lock_manager.specs.Tallies.{Tallied, tallied, counted}
use Rattle.lock_manager.proofs.Tallies.{lowered_share, lowered_exclusive, share_counted, exclusive_counted}
use Rattle.lock_manager.proofs.tally.Tally.leave.Goals as goal

pub returns-in-Share-clause-counts : goal.returns-in-Share-clause-counts
returns-in-Share-clause-counts c =
    let before : Tallied = record { entries = c.self.inside.entries; share = c.self.inside.share.items; exclusive = c.self.inside.exclusive.items } in
    let after : Tallied = record before { share = slice_set before.share c.entry_of-at.result (c.index_mut.result.now - 1) } in
    let at : c.entry_of-at.result ≡ entry_number c.args.claim.now.name before.entries = c.entry_of-at.ensures.hash in
    let there : c.entry_of-at.result < length before.share = grind (arith, c.entry_of-at.ensures.range, c.self.invariant) in
    let class_is : Share ≡ class_of c.args.claim.now.mode = sym c.in-Share.is ∙ c.class.ensures.table in
    let some : 0 < c.index_mut.result.now = share_counted before c.args.self.now c.args.claim.now c.entry_of-at.result c.index_mut.result.now c.self.view_is class_is at there c.index_mut.ensures.value c.requires in
    let P : Tallied → Type 0 = λ z. (class : Class) (entry : ℕ) → tallied after class entry + counted z.entries entry class c.args.claim.now ≡ tallied z class entry in
    subst P c.self.view_is (lowered_share before c.args.claim.now c.entry_of-at.result c.index_mut.result.now class_is at there c.index_mut.ensures.value some)

pub returns-in-Exclusive-clause-counts : goal.returns-in-Exclusive-clause-counts
returns-in-Exclusive-clause-counts c =
    let before : Tallied = record { entries = c.self.inside.entries; share = c.self.inside.share.items; exclusive = c.self.inside.exclusive.items } in
    let after : Tallied = record before { exclusive = slice_set before.exclusive c.entry_of-at.result (c.index_mut-in-Exclusive.result.now - 1) } in
    let at : c.entry_of-at.result ≡ entry_number c.args.claim.now.name before.entries = c.entry_of-at.ensures.hash in
    let there : c.entry_of-at.result < length before.exclusive = grind (arith, c.entry_of-at.ensures.range, c.self.invariant) in
    let class_is : Exclusive ≡ class_of c.args.claim.now.mode = sym c.in-Exclusive.is ∙ c.class.ensures.table in
    let some : 0 < c.index_mut-in-Exclusive.result.now = exclusive_counted before c.args.self.now c.args.claim.now c.entry_of-at.result c.index_mut-in-Exclusive.result.now c.self.view_is class_is at there c.index_mut-in-Exclusive.ensures.value c.requires in
    let P : Tallied → Type 0 = λ z. (class : Class) (entry : ℕ) → tallied after class entry + counted z.entries entry class c.args.claim.now ≡ tallied z class entry in
    subst P c.self.view_is (lowered_exclusive before c.args.claim.now c.entry_of-at.result c.index_mut-in-Exclusive.result.now class_is at there c.index_mut-in-Exclusive.ensures.value some)
