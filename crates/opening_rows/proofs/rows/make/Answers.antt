use Rattle.std.proofs.Common.{◌≡◌, ap, ◌∙◌}
use Rattle.std.specs.BTreeSet as set
use Rattle.std.specs.Ordering.{nat_cmp}
use Rattle.log_heads.specs.Heads.{HeadsState, heads_of}
use Rattle.opening_rows.proofs.RowsTold.{starts_32, within_32, made_told, made_bad}
use Rattle.opening_rows.proofs.rows.make.Goals as goal

pub new-requires-clause-within : goal.new-requires-clause-within
new-requires-clause-within g c = within_32 c.deref.result.now

pub returns-in_err-made : goal.returns-in_err-made
returns-in_err-made g c =
    let heads : c.in_ok-heads.heads.heads ≡ heads_of starts_32 c.args.all.now.ends.items = ap (λ (s : HeadsState). s.heads) c.in_ok-heads.ensures ∙ ap (heads_of starts_32) c.deref.ensures.value in
    made_bad c.whole_laws.ensures.parts _ _ _ _ c.args.all.now.ends.items (set.contains nat_cmp c.args.all.now.pending) c.in_ok-heads.heads.heads _ _ c.in_err-made.field-0.0 c.from_residual-in_err-made.result
    c.requires.ends heads c.from_residual-in_err-made.ensures.1 c.in_err-made.ensures

pub returns : goal.returns
returns g c =
    let heads : c.in_ok-heads.heads.heads ≡ heads_of starts_32 c.args.all.now.ends.items = ap (λ (s : HeadsState). s.heads) c.in_ok-heads.ensures ∙ ap (heads_of starts_32) c.deref.ensures.value in
    made_told c.whole_laws.ensures.parts _ _ _ _ c.args.all.now.ends.items (set.contains nat_cmp c.args.all.now.pending) (set.contains nat_cmp c.args.committed.now) c.in_ok-heads.heads.heads c.in_ok-made.made _ _
    c.requires.ends heads c.in_ok-made.ensures
