use Rattle.std.proofs.Common.{◌≡◌, ℕ, ◌+◌, false, List, ◌∙◌, length, map, Some, slice_get, rules, refl, sym, ap, subst, arith}
use Rattle.std.specs.List.{AllZip}
use Rattle.std.proofs.lemmas.Bool.{iff_false}
use Rattle.std.proofs.lemmas.Option.{slice_get_read}
use Rattle.ds_model.specs.declared.script.Phase.{Phase}
use Rattle.list_structure.specs.declared.standing.MemberStatus.{MemberStatus}
use Rattle.list_structure.specs.Bells.{CanRing}
use Rattle.facility.specs.States.{held}
use Rattle.group_member.specs.declared.part.MemberPart.{MemberPart}
use Rattle.group_member.specs.Members.{member_of}
use Rattle.group_crew.specs.declared.crew.Crew.{Crew}
use Rattle.group_crew.specs.Beginning.{AllRestart, AreRaisers, CannotRing, PartStaysOrKnows, kept_by}
use Rattle.group_crew.specs.States.{CrewState, crew_state, known_by}
use Rattle.group_crew.proofs.Begun.{begun_members, begun_state, phase_begins, stopped_next}
use Rattle.group_crew.proofs.Parts.{both, kept_stale, known_same}
use Rattle.group_crew.proofs.Restarts.{cannot_begin, cannot_ring, stay_or_know}
use Rattle.group_crew.proofs.crew.Crew.begin_phase.Given.{Over}
use Rattle.group_crew.proofs.crew.Crew.begin_phase.Goals as goal

-- the phase that begins
next : (g : Over) (c : goal.After-make_all_stale g) → slice_get c.args.self.now.script.phases c.args.self.now.progress.begun ≡ Some c.in-Some.phase.now
next g c =
    let got = c.in-Some.ensures.lookup in
    subst (λ (phases : List Phase). slice_get phases c.args.self.now.progress.begun ≡ Some c.in-Some.phase.now) c.as_slice.ensures
    (slice_get_read c.as_slice.result.now (length c.as_slice.result.now) c.args.self.now.progress.begun c.in-Some.phase.now refl got.3.0 got.1)

pub returns-clause-members : goal.returns-clause-members
returns-clause-members g c =
    ap (map (kept_by {P = g.row.P.Denot})) c.make_all_stale.ensures.parts
    ∙ (kept_stale _
    ∙ both (kept_by {P = g.row.P.Denot}) c.args.self.now.parts.len c.args.self.now.parts.items c.begin_restarts.new.parts c.begin_in_all.new.parts
    (sym c.args.self.now.parts.ok.0) (c.begin_restarts.ensures.kept ∙ ap (map (kept_by {P = g.row.P.Denot})) c.deref_mut.ensures.value)
    (c.begin_in_all.ensures.kept ∙ ap (map (kept_by {P = g.row.P.Denot})) c.deref_mut-2.ensures.value))

pub returns-in_err-begin_in_all-clause-members : goal.returns-in_err-begin_in_all-clause-members
returns-in_err-begin_in_all-clause-members g c =
    both (kept_by {P = g.row.P.Denot}) c.args.self.now.parts.len c.args.self.now.parts.items c.begin_restarts.new.parts c.begin_in_all.new.parts
    (sym c.args.self.now.parts.ok.0) (c.begin_restarts.ensures.kept ∙ ap (map (kept_by {P = g.row.P.Denot})) c.deref_mut.ensures.value)
    (c.begin_in_all.ensures.kept ∙ ap (map (kept_by {P = g.row.P.Denot})) c.deref_mut-2.ensures.value)

pub returns-clause-happens : goal.returns-clause-happens
returns-clause-happens g c = λ yes.
    let items : List (MemberPart g.row.P.Denot) = c.args.self.now.parts.items in
    let parts : List (MemberPart g.row.P.Denot) = c.begin_restarts.new.parts in
    let phase : Phase = c.in-Some.phase.now in
    let statuses : List MemberStatus = c.args.self.now.facility.lists.statuses in
    let old : CrewState = crew_state g.C.CacheFace.directory c.args.self.now in
    let kept : map kept_by parts ≡ map kept_by items = c.begin_restarts.ensures.kept ∙ ap (map (kept_by {P = g.row.P.Denot})) c.deref_mut.ensures.value in
    let same : map member_of c.make_all_stale.new.self.parts.items ≡ map member_of parts =
    begun_members c.args.self.now.parts.len items parts c.begin_in_all.new.parts c.make_all_stale.new.self.parts.items (sym c.args.self.now.parts.ok.0) kept
    (c.begin_in_all.ensures.members ∙ ap (map (member_of {P = g.row.P.Denot})) c.deref_mut-2.ensures.value) c.make_all_stale.ensures.parts in
    let known : map known_by c.make_all_stale.new.self.parts.items ≡ map known_by items = known_same c.make_all_stale.new.self.parts.items items (returns-clause-members g c) in
    let raised : AreRaisers phase statuses c.raisers_of-raisers.result = record { many = search rules; each = c.raisers_of-raisers.ensures } in
    phase_begins phase old (crew_state g.C.CacheFace.directory c.make_all_stale.new.self) c.begin_restarts.new.lists (map member_of parts) c.raisers_of-raisers.result
    (held g.C.CacheFace.directory c.begin_phase.new.self) c.stop_left_out.new.fates (next g c)
    (begun_state g.C.CacheFace.directory (record c.args.self.now { facility = c.begin_phase.new.self; progress = c.begin_phase-2.new.self; fates = c.stop_left_out.new.fates }) c.make_all_stale.new.self
    (map member_of parts) (c.args.self.now.progress.begun + 1) c.make_all_stale.ensures.rest same known c.begin_phase-2.ensures)
    (subst (λ (its : List (MemberPart g.row.P.Denot)). AllRestart phase c.args.self.now.facility.lists (map member_of its) (map member_of parts) c.begin_restarts.new.lists) c.deref_mut.ensures.value
    (c.in_ok-begin_restarts.ensures.each c.if-not-branch.false))
    (stay_or_know items parts (subst (λ (its : List (MemberPart g.row.P.Denot)). AllZip PartStaysOrKnows its parts) c.deref_mut.ensures.value (c.in_ok-begin_restarts.ensures.knows c.if-not-branch.false)))
    raised c.begin_phase.ensures c.stop_left_out.ensures

pub returns-clause-stopped : goal.returns-clause-stopped
returns-clause-stopped g c =
    stopped_next (slice_get c.args.self.now.script.phases c.args.self.now.progress.begun) c.in-Some.phase.now c.args.self.now.facility.lists.statuses c.args.self.now.fates c.stop_left_out.new.fates
    c.make_all_stale.new.self.fates (next g c)
    (ap (λ (crew : Crew g.row.C.Denot g.row.P.Denot). crew.fates) c.make_all_stale.ensures.rest) c.stop_left_out.ensures

pub returns-then-not-branch-clause-refused : goal.returns-then-not-branch-clause-refused
returns-then-not-branch-clause-refused g c = λ is.
    let bells : List ℕ = c.args.self.now.facility.lists.bells in
    cannot_begin (slice_get c.args.self.now.script.phases c.args.self.now.progress.begun) bells (length c.args.self.now.parts.items)
    (subst (λ (n : ℕ). CannotRing bells n) (ap length c.deref_mut.ensures.value) (c.in_ok-begin_restarts.ensures.refused cc))

pub returns-then-not-can_ring-clause-refused : goal.returns-then-not-can_ring-clause-refused
returns-then-not-can_ring-clause-refused g c = λ is.
    let bells : List ℕ = c.args.self.now.facility.lists.bells in
    let off : c.can_ring.result ≡ false = cc in
    let silent : ¬ CanRing c.begin_restarts.new.lists.bells = iff_false {b = c.can_ring.result} {P = CanRing c.begin_restarts.new.lists.bells} c.can_ring.ensures off in
    cannot_begin (slice_get c.args.self.now.script.phases c.args.self.now.progress.begun) bells (length c.args.self.now.parts.items)
    (subst (λ (n : ℕ). CannotRing bells n) (ap length c.deref_mut.ensures.value)
    (cannot_ring bells (length c.deref_mut.result.now) (length c.deref_mut.result.now) c.begin_restarts.new.lists.bells (c.in_ok-begin_restarts.ensures.rang c.if-not-branch.false) (omega arith) silent))
