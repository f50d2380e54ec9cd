-- The state in which a phase has begun, and the one that a look for ready choices leaves.
use Rattle.std.proofs.Common.{◌≡◌, ℕ, ◌+◌, true, false, List, ◌++◌, length, map, take, drop, Option, Some, IfSome, IsSomeAnd, slice_get, refl, sym, ap, subst, ◌∙◌}
use Rattle.ds_base.specs.declared.names.TranId.{TranId}
use Rattle.ds_model.specs.declared.script.Phase.{Phase}
use Rattle.cache_structure.specs.Directory.{Directory}
use Rattle.list_structure.specs.declared.standing.MemberStatus.{MemberStatus}
use Rattle.list_structure.specs.States.{ListsState}
use Rattle.facility.specs.States.{Held, PhaseBegun}
use Rattle.script_fates.specs.Fated.{FatesState, StopsOnly}
use Rattle.group_member.specs.declared.part.MemberPart.{MemberPart}
use Rattle.group_member.specs.Members.{Member, member_of}
use Rattle.group_crew.specs.declared.crew.Crew.{Crew}
use Rattle.script_phases.specs.declared.progress.Progress.{Progress}
use Rattle.group_crew.specs.Beginning.{AllRestart, AreRaisers, BeginsNext, PhaseBegins, StaysOrKnows, is_left_out_in, kept_by}
use Rattle.group_crew.specs.Crews.{Looks, stale}
use Rattle.group_crew.specs.Ends.{known_at}
use Rattle.group_crew.specs.States.{CrewState, crew_state, known_by}
use Rattle.group_crew.proofs.Parts.{known_looked, members_looked, members_stale, once, same_length, whole}

-- restarts have begun, then each has its part, and all are stale
pub begun_members : {P : Type 0} (n : ℕ) (items ys zs news : List (MemberPart P)) → length items ≡ n → map kept_by ys ≡ map kept_by items
    → map member_of zs ≡ map member_of (take n (ys ++ drop (length ys) items)) → news ≡ map stale (take n (zs ++ drop (length zs) (take n (ys ++ drop (length ys) items))))
    → map member_of news ≡ map member_of ys
begun_members {P} n items ys zs news long kept same are =
    let mid : List (MemberPart P) = take n (ys ++ drop (length ys) items) in
    let ys_long : length ys ≡ n = same_length (kept_by {P = P}) ys items kept ∙ long in
    let is : mid ≡ ys = whole n items ys long ys_long in
    ap (map (member_of {P = P})) are
    ∙ (members_stale (take n (zs ++ drop (length zs) mid)) ∙ (once (member_of {P = P}) n mid zs (ap length is ∙ ys_long) same ∙ ap (map (member_of {P = P})) is))

pub begun_state : {C P : Type 0} (directory : C → Directory) (before new : Crew C P) (members : List Member) (begun : ℕ)
    → new ≡ record before { parts = new.parts; is_own_stale = true; was_half = new.was_half } → map member_of new.parts.items ≡ members
    → map known_by new.parts.items ≡ map known_by before.parts.items → before.progress ≡ record { begun = begun; groupfails = 0; is_idle = false }
    → crew_state directory new ≡ record (crew_state directory before) { members = members; begun = begun; groupfails = 0 }
begun_state {C} {P} directory before new members begun rest are known progress =
    ap (crew_state directory) rest
    ∙ ((λ i. record (crew_state directory before) { members = are i; known = known i })
    ∙ ap (λ (p : Progress). record (crew_state directory before) { members = members; begun = p.begun; groupfails = p.groupfails }) progress)

pub phase_begins : (phase : Phase) (old new : CrewState) (lists : ListsState) (members : List Member) (raisers : List (Option TranId)) (facility : Held) (fates : FatesState)
    → slice_get old.script.phases old.begun ≡ Some phase → new ≡ record old { facility = facility; members = members; begun = old.begun + 1; groupfails = 0; fates = fates }
    → AllRestart phase old.facility.lists old.members members lists
    → ((at : ℕ) → IfSome (slice_get old.members at) (λ (m : Member). IfSome (slice_get members at) (StaysOrKnows (known_at old.known at) m))) → AreRaisers phase old.facility.lists.statuses raisers → PhaseBegun (record old.facility { lists = lists }) raisers facility
    → StopsOnly (is_left_out_in phase old.facility.lists.statuses) old.fates fates → BeginsNext old new
phase_begins phase old new lists members raisers facility fates next is restarts knows raised begun stopped =
    subst (λ (o : Option Phase). IsSomeAnd o (λ p. PhaseBegins p old new)) (sym next)
    (subst (λ (s : CrewState). PhaseBegins phase old s) (sym is)
    (record { lists = lists; restarts = restarts; knows = knows; raisers = raisers; raised = raised; facility = begun; stopped = stopped; rest = refl }))

-- of the phase that begins some are stopped
pub stopped_next : (o : Option Phase) (phase : Phase) (statuses : List MemberStatus) (old mid new : FatesState)
    → o ≡ Some phase → new ≡ mid → StopsOnly (is_left_out_in phase statuses) old mid → IfSome o (λ p. StopsOnly (is_left_out_in p statuses) old new)
stopped_next o phase statuses old mid new is same stopped =
    subst (λ (q : Option Phase). IfSome q (λ p. StopsOnly (is_left_out_in p statuses) old new)) (sym is)
    (subst (λ (f : FatesState). StopsOnly (is_left_out_in phase statuses) old f) (sym same) stopped)

-- a look for ready choices changes nothing of it
pub looked_state : {C P : Type 0} (directory : C → Directory) (old new : Crew C P) → Looks old new → crew_state directory new ≡ crew_state directory old
looked_state {C} {P} directory old new looks =
    let members = members_looked new.parts.items old.parts.items looks.parts in
    let known = known_looked new.parts.items old.parts.items looks.parts in
    ap (crew_state directory) looks.rest ∙ (λ i. record (crew_state directory old) { members = members i; known = known i })
