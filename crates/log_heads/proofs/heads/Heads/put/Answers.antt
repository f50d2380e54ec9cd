use Rattle.std.proofs.Common.{◌≡◌, ℕ, ◌-◌, List, length, ap, ◌∙◌}
use Rattle.log_heads.proofs.Fills.{wanted_at, put_few}
use Rattle.log_heads.proofs.Takes.{state}
use Rattle.log_heads.proofs.heads.Heads.put.Goals as goal

pub fill_at-requires-clause-short : goal.fill_at-requires-clause-short
fill_at-requires-clause-short c =
    let it = wanted_at c.self.inside.block c.deref_mut.result.now c.args.self.now c.args.member (c.number.result - 1) (length c.args.bytes.now) (ap (state c.self.inside.block) c.deref_mut.ensures.value ∙ c.self.view_is)
    (ap (λ (k : ℕ). k - 1) c.number.ensures.value) c.requires in
    it.short

pub fill_at-requires-clause-room : goal.fill_at-requires-clause-room
fill_at-requires-clause-room c =
    let it = wanted_at c.self.inside.block c.deref_mut.result.now c.args.self.now c.args.member (c.number.result - 1) (length c.args.bytes.now) (ap (state c.self.inside.block) c.deref_mut.ensures.value ∙ c.self.view_is)
    (ap (λ (k : ℕ). k - 1) c.number.ensures.value) c.requires in
    it.room

pub invariant_of-self-2 : goal.invariant_of-self-2
invariant_of-self-2 c =
    let it = wanted_at c.self.inside.block c.deref_mut.result.now c.args.self.now c.args.member (c.number.result - 1) (length c.args.bytes.now) (ap (state c.self.inside.block) c.deref_mut.ensures.value ∙ c.self.view_is)
    (ap (λ (k : ℕ). k - 1) c.number.ensures.value) c.requires in (
      c.self.invariant.0,
      c.self.invariant.1,
      put_few c.self.inside.block c.self.inside.heads.len c.deref_mut.result.now c.self.inside.heads.items c.fill_at.new.heads (c.number.result - 1) c.args.bytes.now c.deref_mut.ensures.value c.in_ok-fill_at.ensures.ok
          c.self.inside.heads.ok.0 c.self.invariant.2 it.few c.in_ok-fill_at.ensures.few,
    )

pub returns-clause-few : goal.returns-clause-few
returns-clause-few c =
    let it = wanted_at c.self.inside.block c.deref_mut.result.now c.args.self.now c.args.member (c.number.result - 1) (length c.args.bytes.now) (ap (state c.self.inside.block) c.deref_mut.ensures.value ∙ c.self.view_is)
    (ap (λ (k : ℕ). k - 1) c.number.ensures.value) c.requires in
    put_few c.self.inside.block c.self.inside.heads.len c.deref_mut.result.now c.self.inside.heads.items c.fill_at.new.heads (c.number.result - 1) c.args.bytes.now c.deref_mut.ensures.value c.in_ok-fill_at.ensures.ok
    c.self.inside.heads.ok.0 c.self.invariant.2 it.few c.in_ok-fill_at.ensures.few
