use Rattle.std.proofs.Common.{◌≡◌, ℕ, ◌<◌, Bool, if◌then◌else◌, length, slice_index_or, refl, subst, rules, ap, ◌∙◌, arith}
use Rattle.group_member.specs.declared.part.MemberPart.{MemberPart}
use Rattle.group_crew.specs.Beginning.{Rang, begins_restart, kept_by, restarting}
use Rattle.group_crew.proofs.Parts.{map_set}
use Rattle.group_crew.proofs.Restarts.{same_more, restart_made, lists_made, restarts_more, part_knows, knows_more, rang_more, none_rang, cannot_ring}
use Rattle.group_crew.proofs.begin.begin_restarts.Goals as goal

-- src/begin.rt:63:13
pub returns-in_err-begin_restart-clause-kept : goal.returns-in_err-begin_restart-clause-kept
returns-in_err-begin_restart-clause-kept g c =
    let within : c.loop-part.part-index < length c.loop-part.part-items = omega arith in
    map_set kept_by c.loop-part.part-items c.loop-part.part-index c.part-item.result c.begin_restart.new.part within (ap kept_by c.begin_restart.ensures.rest) ∙ c.loop-part.invariant.0

-- src/begin.rt:64:13
pub returns-then-not-branch-clause-kept : goal.returns-then-not-branch-clause-kept
returns-then-not-branch-clause-kept g c =
    let within : c.loop-part.part-index < length c.loop-part.part-items = omega arith in
    map_set kept_by c.loop-part.part-items c.loop-part.part-index c.part-item.result c.begin_restart.new.part within (ap kept_by c.begin_restart.ensures.rest) ∙ c.loop-part.invariant.0

pub returns-then-not-branch-clause-refused : goal.returns-then-not-branch-clause-refused
returns-then-not-branch-clause-refused g c = λ is.
    cannot_ring c.args.lists.now.bells c.loop-part.part-index (length c.args.parts.now) c.loop-part.lists.bells c.loop-part.invariant.3 (omega arith) (c.in_ok-begin_restart.ensures.refused cc)

-- src/begin.rt:62:5
pub loop-part-preserved : goal.loop-part-preserved
loop-part-preserved g c =
    let within : c.loop-part.part-index < length c.args.parts.now = omega arith in
    let there : c.loop-part.part-index < length c.loop-part.part-items = omega arith in
    let old : MemberPart g.row.P.Denot = slice_index_or c.loop-part.part-items c.loop-part.part-index c.part-item.result in
    let begins : Bool = begins_restart c.args.phase.now c.loop-part.lists.statuses old.id in
    let lists : c.begin_restart.new.lists ≡ (if begins then restarting c.loop-part.lists old.id else c.loop-part.lists) =
    lists_made begins old c.begin_restart.new.part c.loop-part.lists c.begin_restart.new.lists
    (λ no. let same = c.in_ok-begin_restart.ensures.same no in (same.0, same.1)) (λ yes. c.in_ok-begin_restart.ensures.begun yes c.if-not-branch.false) in (
      map_set kept_by c.loop-part.part-items c.loop-part.part-index c.part-item.result c.begin_restart.new.part there (ap kept_by c.begin_restart.ensures.rest) ∙ c.loop-part.invariant.0,
      same_more c.loop-part.part-index c.loop-part.part-items c.args.parts.now c.begin_restart.new.part c.loop-part.invariant.1,
      restarts_more c.args.phase.now c.args.lists.now c.loop-part.lists c.begin_restart.new.lists c.args.parts.now c.loop-part.part-items c.loop-part.part-index c.part-item.result c.begin_restart.new.part
          within there c.loop-part.invariant.1 c.loop-part.invariant.2
          (restart_made begins old c.begin_restart.new.part c.loop-part.lists c.begin_restart.new.lists c.begin_restart.ensures.rest
          (λ no. let same = c.in_ok-begin_restart.ensures.same no in (same.0, same.1)) (λ yes. c.in_ok-begin_restart.ensures.begun yes c.if-not-branch.false))
          lists,
      rang_more begins c.args.lists.now.bells c.loop-part.part-index old.id c.loop-part.lists c.begin_restart.new.lists lists c.loop-part.invariant.3,
      knows_more c.args.parts.now c.loop-part.part-items c.loop-part.part-index c.part-item.result c.begin_restart.new.part within there c.loop-part.invariant.1 c.loop-part.invariant.4
          (part_knows begins old c.begin_restart.new.part (λ no. (c.in_ok-begin_restart.ensures.same no).0) (λ yes. c.in_ok-begin_restart.ensures.known yes c.if-not-branch.false)),
    )

pub loop-part-init : goal.loop-part-init
loop-part-init g c = (search rules, (λ k d above. refl), search rules, none_rang c.args.lists.now.bells 0, search rules)

pub returns-clause-rang : goal.returns-clause-rang
returns-clause-rang g c = λ yes.
    let all : c.loop-part.part-index ≡ length c.args.parts.now = omega arith in
    subst (λ (i : ℕ). Rang c.args.lists.now.bells i c.loop-part.lists.bells) all c.loop-part.invariant.3
