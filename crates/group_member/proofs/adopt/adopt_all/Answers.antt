use Rattle.std.proofs.Common.{◌≡◌, ℕ, zero, suc, false, ◌+◌, ◌-◌, ◌<◌, ◌∙◌, List, [], ◌∷◌, inl, inr, length, drop, slice_index_or, ap, sym, subst, arith, drop-cons}
use Rattle.log_trans.specs.declared.opened.OpenTran.{OpenTran}
use Rattle.member_resources.specs.Held.{Held}
use Rattle.group_member.specs.declared.part.MemberPart.{MemberPart}
use Rattle.member_marks.specs.Rollbacks.{may_adopt}
use Rattle.group_member.specs.Adopting.{Adopts, AdoptsAll, MayNotAdopt, changes_left}
use Rattle.group_member.proofs.adopt.adopt_all.Goals as goal

-- one more, from the end
more : (h mid k : Held) (by : ℕ) (ts : List OpenTran) (done : ℕ) (d : OpenTran) → done < length ts
    → AdoptsAll h by (drop (length ts - done) ts) mid → Adopts mid by (slice_index_or ts (length ts - 1 - done) d) k
    → AdoptsAll h by (drop (length ts - (done + 1)) ts) k
more h mid k by ts done d within before adopts =
    let at : length ts - (done + 1) ≡ length ts - 1 - done = omega arith in
    let next : suc (length ts - 1 - done) ≡ length ts - done = omega arith in
    let there : length ts - 1 - done < length ts = omega arith in
    let earlier : AdoptsAll h by (drop (suc (length ts - 1 - done)) ts) mid = subst (λ n. AdoptsAll h by (drop n ts) mid) (sym next) before in
    rw (at, drop-cons ts (length ts - 1 - done) d) (mid, earlier, adopts)

-- one of the last ones may not be adopted
not_all : (h : Held) (by : ℕ) (ts : List OpenTran) (n : ℕ) → MayNotAdopt h by (drop n ts) → MayNotAdopt h by ts
not_all h by [] zero fails = fails
not_all h by [] (suc n) fails = fails
not_all h by (t ∷ ts) zero fails = fails
not_all h by (t ∷ ts) (suc n) fails = inl (not_all h by ts n fails)

-- the next one may not be
fails_at : (h mid : Held) (by : ℕ) (ts : List OpenTran) (done : ℕ) (d : OpenTran) → done < length ts
    → AdoptsAll h by (drop (length ts - done) ts) mid
    → may_adopt mid.marks (slice_index_or ts (length ts - 1 - done) d).id (changes_left (slice_index_or ts (length ts - 1 - done) d)) ≡ false
    → MayNotAdopt h by ts
fails_at h mid by ts done d within before fails =
    let next : suc (length ts - 1 - done) ≡ length ts - done = omega arith in
    let there : length ts - 1 - done < length ts = omega arith in
    let earlier : AdoptsAll h by (drop (suc (length ts - 1 - done)) ts) mid = subst (λ n. AdoptsAll h by (drop n ts) mid) (sym next) before in
    not_all h by ts (length ts - 1 - done) (rw (drop-cons ts (length ts - 1 - done) d) (inr (mid, earlier, fails)))

pub returns-in_err-adopt_one-clause-unlawful : goal.returns-in_err-adopt_one-clause-unlawful
returns-in_err-adopt_one-clause-unlawful g c = λ so.
    let within : c.loop-done.done < length c.as_slice-trans.result.now = omega arith in
    let fails = c.in_err-adopt_one.ensures.unlawful (grind (arith, so, c.from_residual.ensures)) in
    subst (λ (ts : List OpenTran). MayNotAdopt c.args.part.now.resources c.args.left.now.by ts) c.as_slice-trans.ensures
    (fails_at c.args.part.now.resources c.loop-done.part.resources c.args.left.now.by c.as_slice-trans.result.now c.loop-done.done c.index-trans-trans.result within c.loop-done.invariant.0
    (subst (λ (t : OpenTran). may_adopt c.loop-done.part.resources.marks t.id (changes_left t) ≡ false) c.index-trans-trans.is fails))

-- src/adopt.rt:115:5
pub loop-done-preserved : goal.loop-done-preserved
loop-done-preserved g c =
    let within : c.loop-done.done < length c.as_slice-trans.result.now = omega arith in (
      more c.args.part.now.resources c.loop-done.part.resources c.adopt_one.new.part.resources c.args.left.now.by c.as_slice-trans.result.now c.loop-done.done c.index-trans-trans.result within
          c.loop-done.invariant.0 (subst (λ (t : OpenTran). Adopts c.loop-done.part.resources c.args.left.now.by t c.adopt_one.new.part.resources) c.index-trans-trans.is c.in_ok-adopt_one.ensures.adopts),
      c.adopt_one.ensures.rest ∙ ap (λ (part : MemberPart g.row.P.Denot). record part { resources = c.adopt_one.new.part.resources; policy = c.adopt_one.new.part.policy }) c.loop-done.invariant.1,
    )
