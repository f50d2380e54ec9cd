-- A restart makes an event in its group.
use Rattle.std.proofs.Common.{◌≡◌, ℕ, zero, suc, ◌+◌, ◌≤◌, ◌<◌, refl, sym, ◌∙◌, ap, subst, arith, Bool, true, false, inl, inr, List, [], ◌∷◌, ◌++◌, length, Option, Some, None}
use Rattle.std.specs.Prelude.{◌≢◌, ◌⊎◌, ◌-◌, ◌==◌, ◌&&◌, if◌then◌else◌, IfSome, is_none, is_some, nat_le, nat_lt, slice_get, slice_index_or, slice_set}
use Rattle.std.proofs.lemmas.Bool.{cases_Bool, cases_eq, cond-false, cond-true, eq-eqb, le-leb, ltb-true, ne_eqb}
use Rattle.std.proofs.lemmas.Option.{slice_get_within}
use Rattle.ds_base.specs.Ids.{IsMember}
use Rattle.ds_base.specs.declared.names.PageId.{PageId}
use Rattle.ds_base.specs.declared.names.Sizes.{Sizes}
use Rattle.ds_model.specs.Rows.{Spot}
use Rattle.ds_model.specs.declared.lock.Name.TheVariants as name
use Rattle.lock_names.specs.declared.mode.Mode.{Mode}
use Rattle.lock_names.specs.declared.mode.Mode.TheVariants.{IX, X}
use Rattle.lock_structure.specs.Locks.{Locks}
use Rattle.list_structure.specs.declared.standing.MemberStatus.{MemberStatus}
use Rattle.list_structure.specs.declared.standing.MemberStatus.TheVariants.{Down, Restarting, Up}
use Rattle.list_structure.specs.Standings.{is_live, status_of}
use Rattle.list_structure.specs.States.{ListsState}
use Rattle.lock_manager.specs.declared.claim.Claim.{Claim}
use Rattle.lock_manager.specs.Claims.{mode_in}
use Rattle.lock_manager.specs.Managers.{Book}
use Rattle.facility.specs.declared.command.Command.TheVariants as command
use Rattle.facility.specs.States.{Held as Facility}
use Rattle.log_trans.specs.declared.opened.OpenTran.{OpenTran}
use Rattle.member_trans.specs.Trans.{TransState, TranState, after_event, free_tran, is_free}
use Rattle.member_marks.specs.Claims.{is_agent}
use Rattle.member_marks.specs.State.{MarksState}
use Rattle.member_resources.specs.Events as resources
use Rattle.member_resources.specs.Held.{Held, begun}
use Rattle.restart_marks.specs.Adopt.{adopted_after, adopted_as, adopted_by, adopted_told, may_adopt}
use Rattle.restart_marks.specs.declared.adopt.Adopted.{Adopted}
use Rattle.restart_marks.specs.declared.intent.RestartSent.{RestartSent}
use Rattle.restart_marks.specs.declared.intent.RestartSent.TheVariants as sent
use Rattle.restart_marks.specs.declared.marks.KeptBy.{KeptBy}
use Rattle.restart_marks.specs.State.{RestartState, with_trans}
use Rattle.restart_records.specs.Trans.{TransState as Trans, no_trans, opened_among, page_undone}
use Rattle.group_member.specs.declared.restarting.Restarting.{Restarting as RestartHeld}
use Rattle.group_member.specs.declared.stepped.Stepped.TheVariants as steps
use Rattle.group_member.specs.Adopting.{AdoptsAll}
use Rattle.group_member.specs.Entering.{told_once}
use Rattle.group_member.specs.Happening.{AdoptsLeft, GoesOn, HandsOver, RestartEnds, RestartGoesOn, Restarts, Takes, Tells, as_restarting}
use Rattle.group_member.specs.Members.{Member}
use Rattle.group_member.specs.Resting.{NoneInSlots, frees_claimed}
use Rattle.group_core.specs.Given.{CrewState}
use Rattle.lock_protocol.specs.Machine.{Covers, World}
use Rattle.lock_protocol.specs.Moves.{Move, Run}
use Rattle.lock_protocol.specs.Own.{AreOf}
use Rattle.lock_protocol.proofs.Own.{both_are_of}
use Rattle.lock_protocol.specs.Sound.{RunKeepsSound, Sound}
use Rattle.lock_world.specs.Books.{IsBook, NobodyHolds, RollbackWaits}
use Rattle.lock_world.specs.Numbers.{AreNumbered, name_at, number}
use Rattle.lock_world.specs.Rollbacks.{HasClaimed, row_of, space_of}
use Rattle.lock_world.specs.Standing.{StaysTied}
use Rattle.lock_world.specs.Tied.{Claims, Moved, Tied, is_own}
use Rattle.lock_world.specs.Views.{claim_in, entry_in, rollback_owner}
use Rattle.lock_intents.specs.Stands.{Goes as UpGoes, IsUp, Leads as UpLeads}
use Rattle.lock_members.specs.Given.{ToldGoes}
use Rattle.marks_law.specs.Free.{FreeHoldNothing}
use Rattle.marks_law.specs.Slots.{AreSlots, SlotsReach, SlotsStand, SlotsTell, has_own}
use Rattle.lock_members.specs.Known.{known_of, or_else, page_claim, restart_claim}
use Rattle.lock_members.specs.Members.{StepsKeepFree}
use Rattle.put_records.specs.Resting.{LocalsLeave}
use Rattle.lock_restarts.specs.Courses.{Follows, HasHandedOver, IsInOrder, RestartsFollow, Sets, StandingsFollow}
use Rattle.lock_restarts.specs.Changes.{gone_by}
use Rattle.lock_restarts.specs.Events.{EventsGo, FreesSent}
use Rattle.lock_restarts.specs.Stands as restart
use Rattle.lock_restarts.specs.Stands.{IsRestarting, Leads, Spares, known_with}
use Rattle.group_locks.specs.Adopting.{AdoptionsGo, HaveClaimed, MayTakeOver, TakesOver, rows_of}
use Rattle.group_locks.specs.Restarts.{RestartStepsMove, freed_world}
use Rattle.group_locks.specs.Stands.{ClaimsNothing, MemberStands, RestartInHand, RestartStands, known, known_by}
use Rattle.group_locks.proofs.Idle.{left_log, pending_same}
use Rattle.group_locks.proofs.Moved.{run_on, same_entries, stands_on, still_sound}
use Rattle.group_locks.proofs.Resting.{SameOwn, all_free, locals_rest}
use Rattle.group_locks.proofs.Whole.{within}

-- what the crates below say
pub record Facts : Type 0 where
  pub numbers : AreNumbered
  pub run : RunKeepsSound
  pub stay : StaysTied
  pub nobody : NobodyHolds
  pub waits : RollbackWaits
  pub tell : SlotsTell
  pub reach : SlotsReach
  pub told : ToldGoes
  pub events : EventsGo
  pub follow : RestartsFollow
  pub standings : StandingsFollow
  pub adopt : AdoptionsGo
  pub keep : StepsKeepFree
  pub leave : LocalsLeave

never : true ≡ false → ⊥
never e = cc

-- ---- what the event has freed
frees_as : NobodyHolds → (s : MarksState) (x : RestartSent) → frees_claimed s x ≡ false → FreesSent (λ o c. claim_in s.locks o c) x
frees_as law s (sent.Command (command.Obtain n mode)) keeps = tt
frees_as law s (sent.Command (command.Grant slot n mode)) keeps = tt
frees_as law s (sent.Command (command.Release n interest)) keeps = tt
frees_as law s (sent.Command (command.Purge n)) keeps = law s.locks n keeps
frees_as law s (sent.Command (command.RetainedAt n)) keeps = tt
frees_as law s (sent.Command (command.Read page index)) keeps = tt
frees_as law s (sent.Command (command.Write page index)) keeps = tt
frees_as law s (sent.Command (command.Unregister index)) keeps = tt
frees_as law s (sent.Command (command.Test index)) keeps = tt
frees_as law s (sent.Command (command.CastoutRead page)) keeps = tt
frees_as law s (sent.Command (command.CastoutDone page)) keeps = tt
frees_as law s (sent.Command (command.NextChanged past)) keeps = tt
frees_as law s (sent.Command command.Lose) keeps = tt
frees_as law s (sent.Command command.Rebuilt) keeps = tt
frees_as law s (sent.Command (command.Ask slot to n mode)) keeps = tt
frees_as law s (sent.Command (command.Take past)) keeps = tt
frees_as law s (sent.Command (command.Answer asker n mode said event)) keeps = tt
frees_as law s (sent.Command (command.Answers slot)) keeps = tt
frees_as law s (sent.Command (command.Wait tran holder flag)) keeps = tt
frees_as law s (sent.Command (command.Unwait tran)) keeps = tt
frees_as law s (sent.Command command.Waits) keeps = tt
frees_as law s (sent.Command (command.End tran)) keeps = tt
frees_as law s (sent.Command (command.Raise flag)) keeps = tt
frees_as law s (sent.Command (command.Flag flag)) keeps = tt
frees_as law s (sent.Command (command.SetStatus status)) keeps = tt
frees_as law s (sent.Command (command.Status member)) keeps = tt
frees_as law s (sent.Command command.Claim) keeps = tt
frees_as law s (sent.Command command.Unclaim) keeps = tt
frees_as law s (sent.Command command.PhaseDone) keeps = tt
frees_as law s (sent.Command (command.Draw indexes)) keeps = tt
frees_as law s (sent.Command (command.DrawUndo indexes)) keeps = tt
frees_as law s sent.None keeps = tt
frees_as law s sent.LogLength keeps = tt
frees_as law s (sent.ReadLog at count) keeps = tt
frees_as law s (sent.CutLog long) keeps = tt
frees_as law s sent.AppendLog keeps = tt
frees_as law s (sent.ReadPage page) keeps = tt

-- ---- the claims of a member with a restart in hand
same_page : (x : Option PageId) (c : ℕ) → page_claim x c ≡ restart.page_claim x c
same_page None c = refl
same_page (Some p) c = refl

same_else : (x y : Option Mode) → or_else x y ≡ restart.or_else x y
same_else None y = refl
same_else (Some m) y = refl

or_none : (x : Option Mode) → or_else x None ≡ x
or_none None = refl
or_none (Some m) = refl

same_test : (b : Bool) (x y : Option Mode) → x ≡ y → (if b then x else None) ≡ (if b then y else None)
same_test true x y e = e
same_test false x y e = refl

known_as : (m : Member) (q : RestartHeld) → m.restart ≡ Some q → (o c : ℕ) → known_of m o c ≡ known_with (λ o c. claim_in m.holds.marks.locks o c) q.resources.marks.claim o c
known_as m q had o c =
    ap (λ (z : Option RestartHeld). or_else (claim_in m.holds.marks.locks o c) (restart_claim z o c)) had
    ∙ same_else (claim_in m.holds.marks.locks o c) (if o == 0 then page_claim q.resources.marks.claim c else None)
    ∙ ap (λ (z : Option Mode). restart.or_else (claim_in m.holds.marks.locks o c) z) (same_test (o == 0) (page_claim q.resources.marks.claim c) (restart.page_claim q.resources.marks.claim c) (same_page q.resources.marks.claim c))

known_alone : (m : Member) → m.restart ≡ None → (o c : ℕ) → known_of m o c ≡ claim_in m.holds.marks.locks o c
known_alone m e o c = ap (λ (z : Option RestartHeld). or_else (claim_in m.holds.marks.locks o c) (restart_claim z o c)) e ∙ or_none (claim_in m.holds.marks.locks o c)

-- without a page lock these are those of its lock manager
without_page : (own : ℕ → ℕ → Option Mode) (claim : Option PageId) → claim ≡ None → (o c : ℕ) → known_with own claim o c ≡ own o c
without_page own claim e o c = ap (λ (z : Option PageId). known_with own z o c) e ∙ by (o == 0) (own o c)
  where
    by : (b : Bool) (x : Option Mode) → restart.or_else x (if b then restart.page_claim None c else None) ≡ x
    by true None = refl
    by true (Some m) = refl
    by false None = refl
    by false (Some m) = refl

-- the claims once the member's are these
abbrev with_own : Claims → ℕ → (ℕ → ℕ → Option Mode) → Claims
with_own held m own k o c = if k == m then own o c else held k o c

own_there : (held : Claims) (m : ℕ) (own : ℕ → ℕ → Option Mode) (o c : ℕ) → with_own held m own m o c ≡ own o c
own_there held m own o c = cond-true (m == m) (own o c) (held m o c) (eq-eqb m m refl)

own_apart : (held : Claims) (m : ℕ) (own : ℕ → ℕ → Option Mode) (k o c : ℕ) → k ≢ m → with_own held m own k o c ≡ held k o c
own_apart held m own k o c ne = cond-false (k == m) (own o c) (held k o c) (ne_eqb k m ne)

-- ---- statuses
set_live : (xs : List MemberStatus) (i : ℕ) (a : MemberStatus) → slice_index_or xs i Down ≡ Restarting → slice_index_or (slice_set xs i a) i Down ≡ a
set_live [] i a e = cc
set_live (x ∷ xs) zero a e = refl
set_live (x ∷ xs) (suc i) a e = set_live xs i a e

set_apart : (xs : List MemberStatus) (i j : ℕ) (a : MemberStatus) → j ≢ i → slice_index_or (slice_set xs i a) j Down ≡ slice_index_or xs j Down
set_apart [] i j a ne = refl
set_apart (x ∷ xs) zero zero a ne = absurd (ne refl)
set_apart (x ∷ xs) zero (suc j) a ne = refl
set_apart (x ∷ xs) (suc i) zero a ne = refl
set_apart (x ∷ xs) (suc i) (suc j) a ne = set_apart xs i j a (λ e. ne (ap suc e))

both_up : (s : MemberStatus) → s ≡ Up → s ≡ Restarting → ⊥
both_up s a b = cc

live_status : (s x : MemberStatus) → s ≡ x → is_live x ≡ true → is_live s ≡ false → ⊥
live_status s x a live b = never (sym live ∙ ap is_live (sym a) ∙ b)

-- ---- what the restart leaves open still has its claims
space_free : AreNumbered → (t : ℕ) → is_own (name_at (number (name.Space t))) ≡ false
space_free law t = ap (λ z. is_own z) (law.named (name.Space t))

row_free : AreNumbered → (t k : ℕ) → is_own (name_at (number (name.Row t k))) ≡ false
row_free law t k = ap (λ z. is_own z) (law.named (name.Row t k))

covers_still : (gone : Bool) (x y : Option Mode) (m : Mode) → (gone ≡ false → y ≡ x) → Covers (if gone then None else x) m → Covers y m
covers_still true x y m same h = absurd h
covers_still false x y m same h = subst (λ z. Covers z m) (sym (same refl)) h

freed_claim : (w : World) (m : ℕ) (x : RestartSent) (o c : ℕ) → (freed_world w m x).claims m o c ≡ (if gone_by x c then None else w.claims m o c)
freed_claim w m x o c = by (m == m) (eq-eqb m m refl) (gone_by x c)
  where
    by : (a : Bool) → a ≡ true → (b : Bool) → (if a && b then None else w.claims m o c) ≡ (if b then None else w.claims m o c)
    by true e b = refl
    by false e b = absurd (never (sym e))

spots_still : AreNumbered → (w v : World) (m owner : ℕ) (x : RestartSent) (ss : List Spot) → owner ≢ 0 → Spares w v m (λ c. gone_by x c) → HasClaimed (freed_world w m x) m owner ss → HasClaimed v m owner ss
spots_still law w v m owner x [] ne spares h = tt
spots_still law w v m owner x (s ∷ ss) ne spares h = (
  covers_still (gone_by x (space_of s)) (w.claims m owner (space_of s)) (v.claims m owner (space_of s)) IX (λ e. spares owner (space_of s) ne (space_free law s.0) e) (subst (λ z. Covers z IX) (freed_claim w m x owner (space_of s)) h.0),
  covers_still (gone_by x (row_of s)) (w.claims m owner (row_of s)) (v.claims m owner (row_of s)) X (λ e. spares owner (row_of s) ne (row_free law s.0 s.1) e) (subst (λ z. Covers z X) (freed_claim w m x owner (row_of s)) h.1),
  spots_still law w v m owner x ss ne spares h.2,
)

no_zero : (id : ℕ) → rollback_owner id ≢ 0
no_zero id e = let is : id + 17 ≡ 0 = e in omega (arith, is)

all_still : AreNumbered → (w v : World) (m : ℕ) (x : RestartSent) (ts : List OpenTran) → Spares w v m (λ c. gone_by x c) → HaveClaimed (freed_world w m x) m ts → HaveClaimed v m ts
all_still law w v m x [] spares h = tt
all_still law w v m x (t ∷ ts) spares h = (spots_still law w v m (rollback_owner t.id) x (rows_of t) (no_zero t.id) spares h.0, all_still law w v m x ts spares h.1)

-- ---- what it hands over
none_claimed : (a b c d : Bool) → (a && b && c && d) ≡ true → c ≡ true
none_claimed a b true d e = refl
none_claimed true true false d e = absurd (never (sym e))
none_claimed true false false d e = absurd (never (sym e))
none_claimed false b false d e = absurd (never (sym e))

is_nothing : {T : Type 0} → (x : Option T) → is_none x ≡ true → x ≡ None
is_nothing None e = refl
is_nothing (Some x) e = absurd (never (sym e))

unclaimed : (s : RestartState) → may_adopt s ≡ true → s.claim ≡ None
unclaimed s e = is_nothing s.claim (none_claimed (s.names.missing == 0) (is_none s.hand.page) (is_none s.claim) (length s.log.pending == 0) e)

abbrev handed_as : RestartState → ℕ → Adopted
handed_as s by = record { by = by; trans = opened_among s.trans.list }

-- nothing; or all that it has left open, where it waits for this member and needs no page lock
record Handed (s : RestartState) : Type 0 where
  pub by : ℕ
  pub told : adopted_told s ≡ Some (handed_as s by)
  pub after : adopted_after s ≡ with_trans s no_trans
  pub unclaimed : s.claim ≡ None
  pub kept : is_some s.kept ≡ true

record HandsNothing (s : RestartState) : Type 0 where
  pub told : adopted_told s ≡ None
  pub after : adopted_after s ≡ s

hands : (s : RestartState) → HandsNothing s ⊎ Handed s
hands s = by_kept s.kept refl
  where
    by_test : (k : KeptBy) → s.kept ≡ Some k → (b : Bool) → may_adopt s ≡ b → HandsNothing s ⊎ Handed s
    by_test k is true e = inr (record {
      by = k.by;
      told = ap (λ (z : Option KeptBy). adopted_by s z) is ∙ ap (λ (z : Bool). if z then Some (handed_as s k.by) else None) e;
      after = ap (λ (z : Option KeptBy). adopted_as s z) is ∙ ap (λ (z : Bool). if z then with_trans s no_trans else s) e;
      unclaimed = unclaimed s e;
      kept = ap (λ (z : Option KeptBy). is_some z) is;
    })
    by_test k is false e = inl (record {
      told = ap (λ (z : Option KeptBy). adopted_by s z) is ∙ ap (λ (z : Bool). if z then Some (handed_as s k.by) else None) e;
      after = ap (λ (z : Option KeptBy). adopted_as s z) is ∙ ap (λ (z : Bool). if z then with_trans s no_trans else s) e;
    })

    by_kept : (x : Option KeptBy) → s.kept ≡ x → HandsNothing s ⊎ Handed s
    by_kept None is = inl (record { told = ap (λ (z : Option KeptBy). adopted_by s z) is; after = ap (λ (z : Option KeptBy). adopted_as s z) is })
    by_kept (Some k) is = by_test k is (may_adopt s) refl

-- ---- the restart goes on: what it leaves to the member
record Leaves (w : World) (f : Facility) (held : Claims) (id : ℕ) (m : MarksState) (h : Held) (s : RestartState) : Type 0 where
  pub moves : List Move
  pub by : AreOf id moves
  pub moved : Moved w moves f.locks f.locks f.lists (with_own held id (known_with (λ o c. claim_in h.marks.locks o c) s.claim))
  pub stands : MayTakeOver h.marks
  pub member : h.marks.member ≡ m.member
  pub entries : h.marks.locks.entries ≡ m.locks.entries
  pub agents : h.marks.locks.agents ≡ m.locks.agents
  pub trans : h.marks.trans.slots ≡ m.trans.slots
  pub own : (o c : ℕ) → o ≤ 16 → claim_in h.marks.locks o c ≡ claim_in m.locks o c
  pub order : IsInOrder s
  pub left : ClaimsNothing h.marks.locks ⊎ HasHandedOver s
  pub still : (moved.world ≡ w) ⊎ HasHandedOver s

-- all that it has in hand is in order
record Stands (w : World) (f : Facility) (held : Claims) (id : ℕ) (h : Held) (s : RestartState) : Type 0 where
  pub tied : Tied w f.locks f.lists (with_own held id (known_with (λ o c. claim_in h.marks.locks o c) s.claim))
  pub live : w.live id ≡ true
  pub may : MayTakeOver h.marks
  pub order : IsInOrder s
  pub left : ClaimsNothing h.marks.locks ⊎ HasHandedOver s
  pub claimed : is_some (adopted_told s) ≡ true → HaveClaimed w id (opened_among s.trans.list)

-- nothing is handed over
keeps_all : Facts → (w : World) (f : Facility) (held : Claims) (id : ℕ) (h k : Held) (s : RestartState) → Stands w f held id h s → k ≡ h → Leaves w f held id h.marks k s
keeps_all facts w f held id h k s st e = subst (λ (z : Held). Leaves w f held id h.marks z s) (sym e) (record {
  moves = [];
  by = tt;
  moved = moved;
  stands = st.may;
  member = refl;
  entries = refl;
  agents = refl;
  trans = refl;
  own = λ o c le. refl;
  order = st.order;
  left = st.left;
  still = inl moved.run;
})
  where
    moved : Moved w [] f.locks f.locks f.lists (with_own held id (known_with (λ o c. claim_in h.marks.locks o c) s.claim))
    moved = facts.stay w f.locks f.lists f.lists (with_own held id (known_with (λ o c. claim_in h.marks.locks o c) s.claim)) (with_own held id (known_with (λ o c. claim_in h.marks.locks o c) s.claim)) st.tied
        (record { cells = refl; statuses = refl; members = refl; claims = λ k o c. refl })

-- all is handed over
hands_all : Facts → (w : World) (f : Facility) (held : Claims) (id : ℕ) (h k : Held) (s : RestartState) (handed : Handed s) → Stands w f held id h s → AdoptsAll h handed.by (opened_among s.trans.list) k → Leaves w f held id h.marks k (with_trans s no_trans)
hands_all facts w f held id h k s handed st adopts = record {
  moves = takes.moves;
  by = takes.by;
  moved = takes.moved;
  stands = takes.took.stands;
  member = takes.took.member;
  entries = takes.took.entries;
  agents = takes.took.agents;
  trans = takes.took.trans;
  own = takes.took.own;
  order = record { reader = st.order.reader; listed = st.order.listed; kept = st.order.kept };
  left = inr over;
  still = inr over;
}
  where
    over : HasHandedOver (with_trans s no_trans)
    over = record { read = st.order.kept handed.kept; unclaimed = handed.unclaimed; none_open = refl }

    before : Claims
    before = with_own held id (known_with (λ o c. claim_in h.marks.locks o c) s.claim)

    after : Claims
    after = with_own held id (known_with (λ o c. claim_in k.marks.locks o c) s.claim)

    takes : TakesOver w f after id h.marks k.marks
    takes = facts.adopt w f before after h k id handed.by (opened_among s.trans.list) st.tied st.live st.may (st.claimed (ap (λ (z : Option Adopted). is_some z) handed.told))
        (λ o c. own_there held id (known_with (λ o c. claim_in h.marks.locks o c) s.claim) o c ∙ without_page (λ o c. claim_in h.marks.locks o c) s.claim handed.unclaimed o c) adopts
        (λ j o c ne. own_apart held id (known_with (λ o c. claim_in k.marks.locks o c) s.claim) j o c ne ∙ sym (own_apart held id (known_with (λ o c. claim_in h.marks.locks o c) s.claim) j o c ne))
        (λ o c. own_there held id (known_with (λ o c. claim_in k.marks.locks o c) s.claim) o c ∙ without_page (λ o c. claim_in k.marks.locks o c) s.claim handed.unclaimed o c)

left_none : (left : Option Adopted) (h k : Held) → left ≡ None → AdoptsLeft left h k → k ≡ h
left_none None h k e a = a
left_none (Some x) h k e a = cc

left_some : (left : Option Adopted) (x : Adopted) (h k : Held) → left ≡ Some x → AdoptsLeft left h k → AdoptsAll h x.by x.trans k
left_some left x h k e a = subst (λ (z : Option Adopted). AdoptsLeft z h k) e a

-- the restart that is left, and what it has left to the member
record HandedOn (w : World) (f : Facility) (held : Claims) (id : ℕ) (m : MarksState) (h : Held) (r : RestartHeld) (s : RestartState) : Type 0 where
  pub leaves : Leaves w f held id m h r.resources.marks
  pub member : r.resources.marks.member ≡ s.member
  pub up : r.resources.marks.is_up ≡ s.is_up

leaves_as : (w : World) (f : Facility) (held : Claims) (id : ℕ) (m : MarksState) (h : Held) (r : RestartHeld) (s t : RestartState) → r.resources.marks ≡ t → t.member ≡ s.member → t.is_up ≡ s.is_up → Leaves w f held id m h t → HandedOn w f held id m h r s
leaves_as w f held id m h r s t e member up leaves = record {
  leaves = subst (λ (z : RestartState). Leaves w f held id m h z) (sym e) leaves;
  member = ap (λ (z : RestartState). z.member) e ∙ member;
  up = ap (λ (z : RestartState). z.is_up) e ∙ up;
}

marks_of : (q r : RestartHeld) → r ≡ q → r.resources.marks ≡ q.resources.marks
marks_of q r e = ap (λ (z : RestartHeld). z.resources.marks) e

hands_over : Facts → (w : World) (f : Facility) (held : Claims) (id : ℕ) (h k : Held) (q : RestartHeld) (x : Option RestartHeld) → Stands w f held id h q.resources.marks → (o : HandsOver q h x k) → HandedOn w f held id h.marks k o.rest q.resources.marks
hands_over facts w f held id h k q x st o = by o.takes
  where
    s : RestartState
    s = q.resources.marks

    by_hands : o.left ≡ adopted_told s → o.rest.resources.marks ≡ adopted_after s → HandsNothing s ⊎ Handed s → HandedOn w f held id h.marks k o.rest s
    by_hands told rest (inl none) = leaves_as w f held id h.marks k o.rest s s (rest ∙ none.after) refl refl (keeps_all facts w f held id h k s st (left_none o.left h k (told ∙ none.told) o.adopts))
    by_hands told rest (inr handed) =
        leaves_as w f held id h.marks k o.rest s (with_trans s no_trans) (rest ∙ handed.after) refl refl
        (hands_all facts w f held id h k s handed st (left_some o.left (handed_as s handed.by) h k (told ∙ handed.told) o.adopts))

    by : Takes q o.left o.rest → HandedOn w f held id h.marks k o.rest s
    by (inl none) = leaves_as w f held id h.marks k o.rest s s (marks_of q o.rest none.1) refl refl (keeps_all facts w f held id h k s st (left_none o.left h k none.0 o.adopts))
    by (inr all) = by_hands all.0 (ap (λ (z : RestartHeld). z.resources.marks) all.1) (hands s)

-- ---- slots
kept_slots : (t u : TransState) (agents : ℕ) → AreSlots t agents → u.slots ≡ t.slots → u.commits ≡ t.commits → AreSlots u agents
kept_slots t u agents h slots commits = record {
  count = subst (λ (z : List TranState). length z ≡ agents + 1) (sym slots) h.count;
  own = subst (λ (z : List TranState). is_free (slice_index_or z 0 free_tran).stage ≡ true) (sym slots) h.own;
  commits = subst (λ z. has_own z ≡ false) (sym commits) h.commits;
}

begun_slots : (h : Held) (place : ℕ) → SlotsStand h.marks → SlotsStand (begun h place).marks
begun_slots h place k = kept_slots h.marks.trans (after_event h.marks.trans place) h.marks.locks.agents k refl refl

told_slots : (s : MarksState) (h : Held) → s ≡ (told_once h).marks → SlotsStand h.marks → SlotsStand s
told_slots s h e k = subst (λ (z : MarksState). SlotsStand z) (sym e) (kept_slots h.marks.trans (told_once h).marks.trans h.marks.locks.agents k refl refl)

told_none : (s : MarksState) (h : Held) → s ≡ (told_once h).marks → NoneInSlots h.marks → NoneInSlots s
told_none s h e none = subst (λ (z : MarksState). NoneInSlots z) (sym e) none

-- slot 1 claims nothing, whether it is an agent's or isn't there
slot_lends : (s : MarksState) → FreeHoldNothing s → NoneInSlots s → (c : ℕ) → claim_in s.locks 1 c ≡ None
slot_lends s free none c = elim (cases_Bool (nat_lt 1 (s.locks.agents + 1))) [
  | inl e ↦
      let agent : is_agent s 1 ≡ true = there s.locks.agents (ltb-true 1 (s.locks.agents + 1) e) in
      ap (λ (b : Bool). mode_in (if b then slice_index_or s.locks.holders 1 [] else []) (name_at c)) e ∙ ap (λ (z : List Claim). mode_in z (name_at c)) (free.none 1 agent (none 1 agent))
  | inr e ↦ ap (λ (b : Bool). mode_in (if b then slice_index_or s.locks.holders 1 [] else []) (name_at c)) e
]
  where
    there : (agents : ℕ) → 1 < agents + 1 → (nat_lt 0 1 && nat_le 1 agents) ≡ true
    there agents lt = le-leb 1 agents (omega (arith, lt))

-- ---- one after the other
abbrev moved_on : (w : World) (xs ys : List Move) (before locks : Locks) (lists : ListsState) (mid left : Claims) (a : Moved w xs before locks lists mid) → Moved a.world ys locks locks lists left → Moved w (xs ++ ys) before locks lists left
moved_on w xs ys before locks lists mid left a b = record {
  same = a.same;
  world = b.world;
  run = run_on (entry_in before) w a.world b.world xs ys a.run (subst (λ (z : ℕ → ℕ). Run z a.world ys b.world) (same_entries before locks a.same) b.run);
  tied = b.tied;
}

numbered : (ms : List Member) (k : ℕ) (x : Member) → slice_get ms k ≡ Some x → k + 1 ≤ length ms
numbered ms k x h = let a : k < length ms = slice_get_within ms k x h in omega (arith, a)

-- what is behind the event of the restart, and what its member made of it
record Landed (w : World) (new : CrewState) (at id : ℕ) (n : Member) : Type 0 where
  pub moves : List Move
  pub by : AreOf id moves
  pub moved : Moved w moves new.facility.locks new.facility.locks new.facility.lists (known new.members)
  pub here : MemberStands new.facility (at + 1) n
  pub still : IfSome n.restart (λ q. (moved.world ≡ w) ⊎ HasHandedOver q.resources.marks)

pub restart_steps : Facts → RestartStepsMove
restart_steps facts old new at m n w t e = record {
  moves = record {
    entries = moved.same;
    moves = event.moves ++ landed.moves;
    are = both_are_of m.id event.moves landed.moves (subst (λ z. AreOf z event.moves) own_member event.own) landed.by;
    world = moved.world;
    run = moved.run;
    tied = record {
      sound = still_sound facts.run w (event.moves ++ landed.moves) old.facility.locks new.facility.locks new.facility.lists (known new.members) t.sound moved;
      tied = moved.tied;
      count = e.count ∙ t.count ∙ sym sets.members;
      few = few;
      agents = subst (λ (z : Sizes). z.agents ≤ 16) (sym e.sizes) t.agents;
      entries = event.moved.same ∙ t.entries ∙ ap (λ (z : Sizes). z.locks) (sym e.sizes);
      stands = stands_at;
    };
  };
  spares = spared n.restart landed.still;
}
  where
    u : resources.World
    u = record { facility = old.facility; drive = e.drive }

    v : resources.World
    v = record { facility = new.facility; drive = e.left }

    mid : Member
    mid = e.made.mid

    made : Restarts m u e.place e.sent e.answered v mid
    made = e.made.makes

    q : RestartHeld
    q = made.makes.before

    r : RestartHeld
    r = made.reached

    s : RestartState
    s = q.resources.marks

    now : RestartState
    now = r.resources.marks

    marks : MarksState
    marks = m.holds.marks

    held : Claims
    held = known old.members

    -- ---- the member
    stood : MemberStands old.facility (at + 1) m
    stood = subst (λ (z : Option Member). IfSome z (MemberStands old.facility (at + 1))) e.had (t.stands at)

    still_free : FreeHoldNothing n.holds.marks
    still_free = facts.keep m n u v old.fates new.fates e.place (steps.Restart e.sent e.answered) e.made stood.free

    standing : RestartStands (at + 1) m s
    standing = subst (λ (z : Option RestartHeld). RestartInHand (at + 1) m z) made.makes.had stood.restart

    is_member : IsMember (at + 1)
    is_member = within old.members at m old.facility.lists.members e.had t.count t.few

    among : at + 1 ≤ old.facility.lists.members
    among = subst (λ z. at + 1 ≤ z) t.count (numbered old.members at m e.had)

    next : (k : ℕ) → k ≡ at → suc k ≡ m.id
    next k same = let id = stood.id in omega (arith, same, id)

    own_member : s.member ≡ m.id
    own_member = standing.member ∙ sym stood.id

    marks_member : marks.member ≡ m.id
    marks_member = stood.member ∙ sym stood.id

    none : NoneInSlots marks
    none = stood.rests (ap (λ (z : Option RestartHeld). is_some z) made.makes.had)

    own : ℕ → ℕ → Option Mode
    own o c = claim_in marks.locks o c

    old_known : (o c : ℕ) → held m.id o c ≡ known_of m o c
    old_known o c = ap (λ z. held z o c) (sym (next at refl)) ∙ ap (λ (z : Option Member). known_by z o c) e.had

    new_known : (o c : ℕ) → known new.members m.id o c ≡ known_of n o c
    new_known o c = ap (λ z. known new.members z o c) (sym (next at refl)) ∙ ap (λ (z : Option Member). known_by z o c) e.has

    new_others : (k o c : ℕ) → k ≢ m.id → known new.members k o c ≡ held k o c
    new_others zero o c ne = refl
    new_others (suc k) o c ne = ap (λ (z : Option Member). known_by z o c) (e.others k (λ same. ne (next k same)))

    -- ---- the event of its restart
    restarts : IsRestarting old.facility own s
    restarts = record {
      member = subst IsMember (sym standing.member) is_member;
      among = subst (λ z. z ≤ old.facility.lists.members) (sym standing.member) among;
      few = t.few;
      restarts = ap (λ z. status_of old.facility.lists.statuses z) own_member ∙ e.restarting;
      pages = standing.own;
      left = elim standing.left [
        | inl nothing ↦ inl nothing
        | inr h ↦ inr (h.unclaimed, λ id. ap (λ (z : Trans). page_undone z id) h.none_open)
      ];
    }

    knows : restart.Knows held own s
    knows o c = ap (λ z. held z o c) own_member ∙ old_known o c ∙ known_as m q made.makes.had o c

    left : Claims
    left = with_own held m.id (known_with own now.claim)

    leads : Leads held left own s now
    leads = record {
      others = λ k o c ne. own_apart held m.id (known_with own now.claim) k o c (λ z. ne (z ∙ sym own_member));
      knows = λ o c. ap (λ z. left z o c) own_member ∙ own_there held m.id (known_with own now.claim) o c;
    }

    event : restart.Goes w old.facility new.facility left s.member (λ c. gone_by e.sent c)
    event = facts.events w (as_restarting u) (as_restarting v) held left own q.resources r.resources e.sent e.answered t.tied restarts knows (frees_as facts.nobody marks e.sent made.keeps) made.makes.happens leads

    follows : Follows s now
    follows = facts.follow (as_restarting u) (as_restarting v) q.resources r.resources e.sent e.answered made.makes.happens

    sets : Sets old.facility.lists new.facility.lists s now
    sets = facts.standings (as_restarting u) (as_restarting v) q.resources r.resources e.sent e.answered made.makes.happens

    few : new.facility.lists.members ≤ 32
    few = subst (λ z. z ≤ 32) (sym sets.members) t.few

    sound : Sound (entry_in new.facility.locks) event.moved.world
    sound = still_sound facts.run w event.moves old.facility.locks new.facility.locks new.facility.lists left t.sound event.moved

    -- ---- what its member makes of it
    ends : RestartGoesOn r m e.place mid
    ends = subst (λ (b : Bool). RestartEnds b r m e.place mid) e.unfailed made.ends

    mid_holds : mid.holds ≡ ends.after
    mid_holds = ap (λ (z : Member). z.holds) ends.member

    id : n.id ≡ at + 1
    id = ap (λ (z : Member). z.id) e.made.enters.member ∙ ap (λ (z : Member). z.id) ends.member ∙ stood.id

    n_restart : n.restart ≡ mid.restart
    n_restart = ap (λ (z : Member). z.restart) e.made.enters.member

    n_marks : n.holds.marks ≡ (told_once ends.after).marks
    n_marks = ap (λ (z : Member). z.holds.marks) e.made.enters.member ∙ ap (λ (z : Held). (told_once z).marks) mid_holds

    n_locks : n.holds.marks.locks ≡ ends.after.marks.locks
    n_locks = ap (λ (z : MarksState). z.locks) n_marks

    -- ---- it is up
    up_claim : now.is_up ≡ true → (now.claim ≡ None) × (new.facility.lists.statuses ≡ slice_set old.facility.lists.statuses (s.member - 1) Up)
    up_claim up = elim sets.statuses [
      | inl x ↦ absurd (never (sym up ∙ x.0 ∙ standing.on))
      | inr x ↦ (x.1, x.2)
    ]

    landed_up : now.is_up ≡ true → (mid.restart ≡ None) × (ends.left ≡ m.holds) → Landed event.moved.world new at m.id n
    landed_up up over = record {
      moves = goes.moves;
      by = subst (λ z. AreOf z goes.moves) marks_member goes.own;
      moved = goes.moved;
      here = record {
        id = id;
        member = ap (λ (z : MarksState). z.member) n_marks ∙ goes.same ∙ stood.member;
        size = ap (λ (z : Book). z.entries) n_locks ∙ goes.stands.size;
        book = subst IsBook (sym n_locks) goes.stands.book;
        slots = told_slots n.holds.marks ends.after n_marks (facts.reach (begun m.holds e.place).marks ends.after.marks tells.0 (begun_slots m.holds e.place stood.slots));
        free = still_free;
        up = λ _. no_restart;
        restarts = λ z. absurd (both_up (status_of new.facility.lists.statuses (at + 1)) now_up z);
        rests = λ z. absurd (never (sym z ∙ ap (λ (x : Option RestartHeld). is_some x) no_restart));
        restart = subst (λ (z : Option RestartHeld). RestartInHand (at + 1) n z) (sym no_restart) tt;
        down = λ z. absurd (live_status (status_of new.facility.lists.statuses (at + 1)) Up now_up refl z);
      };
      still = subst (λ (z : Option RestartHeld). IfSome z (λ y. (goes.moved.world ≡ event.moved.world) ⊎ HasHandedOver y.resources.marks)) (sym no_restart) tt;
    }
      where
        facts_up : (now.claim ≡ None) × (new.facility.lists.statuses ≡ slice_set old.facility.lists.statuses (s.member - 1) Up)
        facts_up = up_claim up

        no_restart : n.restart ≡ None
        no_restart = n_restart ∙ over.0

        now_up : status_of new.facility.lists.statuses (at + 1) ≡ Up
        now_up = ap (λ z. status_of new.facility.lists.statuses z) (sym standing.member) ∙ ap (λ (z : List MemberStatus). status_of z s.member) facts_up.1
            ∙ set_live old.facility.lists.statuses (s.member - 1) Up (ap (λ z. status_of old.facility.lists.statuses z) own_member ∙ e.restarting)

        is_up : IsUp new.facility marks
        is_up = record {
          member = subst IsMember (sym stood.member) is_member;
          among = subst (λ z. z ≤ new.facility.lists.members) (sym stood.member) (subst (λ z. at + 1 ≤ z) (sym sets.members) among);
          few = few;
          up = ap (λ z. status_of new.facility.lists.statuses z) stood.member ∙ now_up;
          size = stood.size ∙ sym event.moved.same;
          book = stood.book;
        }

        knows_up : (o c : ℕ) → left marks.member o c ≡ claim_in marks.locks o c
        knows_up o c = ap (λ z. left z o c) marks_member ∙ own_there held m.id (known_with own now.claim) o c ∙ without_page own now.claim facts_up.0 o c

        leads_up : UpLeads left (known new.members) marks ends.after.marks
        leads_up = record {
          others = λ k o c ne. new_others k o c (λ z. ne (z ∙ sym marks_member)) ∙ sym (own_apart held m.id (known_with own now.claim) k o c (λ z. ne (z ∙ sym marks_member)));
          own = λ o c. ap (λ z. known new.members z o c) marks_member ∙ new_known o c ∙ known_alone n no_restart o c ∙ ap (λ (z : Book). claim_in z o c) n_locks;
        }

        tells : Tells m.holds e.place ends.after
        tells = subst (λ (z : Held). Tells z e.place ends.after) over.1 ends.tells

        goes : UpGoes event.moved.world new.facility new.facility (known new.members) marks ends.after.marks
        goes = facts.told event.moved.world v left (known new.members) m.holds ends.after e.place sound event.moved.tied is_up knows_up tells leads_up

    -- ---- it restarts on
    on_status : now.is_up ≡ false → new.facility.lists.statuses ≡ old.facility.lists.statuses
    on_status on = elim sets.statuses [
      | inl x ↦ x.1
      | inr x ↦ absurd (never (sym x.0 ∙ on))
    ]

    landed_on : now.is_up ≡ false → HandsOver r m.holds mid.restart ends.left → Landed event.moved.world new at m.id n
    landed_on on over = record {
      moves = handed.leaves.moves;
      by = handed.leaves.by;
      moved = record {
        same = refl;
        world = handed.leaves.moved.world;
        run = handed.leaves.moved.run;
        tied = subst (λ (z : World). Tied z new.facility.locks new.facility.lists (known new.members)) still.run still.tied;
      };
      here = record {
        id = id;
        member = ap (λ (z : MarksState). z.member) n_marks ∙ rests.member ∙ handed.leaves.member ∙ stood.member;
        size = ap (λ (z : Book). z.entries) n_locks ∙ rests.entries ∙ handed.leaves.entries ∙ stood.size ∙ sym event.moved.same;
        book = subst IsBook (sym n_locks) rests.book;
        slots = told_slots n.holds.marks ends.after n_marks slots_after;
        free = still_free;
        up = λ z. absurd (both_up (status_of new.facility.lists.statuses (at + 1)) z still_restarts);
        restarts = λ _. ap (λ (z : Option RestartHeld). is_some z) some_restart;
        rests = λ _. told_none n.holds.marks ends.after n_marks none_after;
        restart = subst (λ (z : Option RestartHeld). RestartInHand (at + 1) n z) (sym some_restart) (record {
          member = handed.member ∙ follows.member ∙ standing.member;
          on = handed.up ∙ on;
          order = handed.leaves.order;
          own = λ c. same_claims 0 c ∙ handed.leaves.own 0 c (omega arith) ∙ standing.own c;
          left = elim handed.leaves.left [
            | inl nothing ↦ inl (λ o c. same_claims o c ∙ nothing o c)
            | inr h ↦ inr h
          ];
          idle = pending_same m.holds.marks n.holds.marks left_same ∙ standing.idle;
        });
        down = λ z. absurd (live_status (status_of new.facility.lists.statuses (at + 1)) Restarting still_restarts refl z);
      };
      still = subst (λ (z : Option RestartHeld). IfSome z (λ y. (handed.leaves.moved.world ≡ event.moved.world) ⊎ HasHandedOver y.resources.marks)) (sym some_restart) handed.leaves.still;
    }
      where
        some_restart : n.restart ≡ Some over.rest
        some_restart = n_restart ∙ over.restart

        still_restarts : status_of new.facility.lists.statuses (at + 1) ≡ Restarting
        still_restarts = ap (λ (z : List MemberStatus). status_of z (at + 1)) (on_status on) ∙ ap (λ z. status_of old.facility.lists.statuses z) (sym stood.id) ∙ e.restarting

        live : event.moved.world.live m.id ≡ true
        live = event.moved.tied.live m.id (subst (λ z. 1 ≤ z) (sym stood.id) is_member.0) (subst (λ z. z ≤ new.facility.lists.members) (sym stood.id) (subst (λ z. at + 1 ≤ z) (sym sets.members) among))
            ∙ ap is_live (ap (λ z. status_of new.facility.lists.statuses z) stood.id ∙ still_restarts)

        stands : Stands event.moved.world new.facility held m.id m.holds now
        stands = record {
          tied = event.moved.tied;
          live = live;
          may = record { book = stood.book; slots = stood.slots; lends = slot_lends marks stood.free none };
          order = follows.order standing.order;
          left = elim standing.left [
            | inl nothing ↦ inl nothing
            | inr h ↦ inr (follows.handed standing.order h)
          ];
          claimed = λ hands. all_still facts.numbers w event.moved.world m.id e.sent (opened_among now.trans.list) (subst (λ z. Spares w event.moved.world z (λ c. gone_by e.sent c)) own_member event.spares) (e.opened on hands);
        }

        handed : HandedOn event.moved.world new.facility held m.id marks ends.left over.rest now
        handed = hands_over facts event.moved.world new.facility held m.id m.holds ends.left r mid.restart stands over

        slots_left : SlotsStand (begun ends.left e.place).marks
        slots_left = begun_slots ends.left e.place handed.leaves.stands.slots

        slots_after : SlotsStand ends.after.marks
        slots_after = facts.reach (begun ends.left e.place).marks ends.after.marks ends.tells.0 slots_left

        none_after : NoneInSlots ends.after.marks
        none_after = subst (λ (z : Held). NoneInSlots z.marks) mid_holds (e.made.idle (ap (λ (z : Option RestartHeld). is_some z) over.restart))

        rests : SameOwn (begun ends.left e.place).marks ends.after.marks
        rests = locals_rest facts.waits (begun ends.left e.place).marks ends.after.marks ends.tells.0 handed.leaves.stands.book
            (λ i. ap (λ (z : List TranState). is_free (slice_index_or z i free_tran).stage) handed.leaves.trans ∙ all_free facts.tell marks stood.slots none i)
            (all_free facts.tell ends.after.marks slots_after none_after)

        left_same : n.holds.marks.log ≡ m.holds.marks.log
        left_same = ap (λ (z : MarksState). z.log) n_marks ∙ facts.leave (begun ends.left e.place).marks ends.after.marks ends.tells.0 ∙ left_log over.left m.holds ends.left over.adopts

        same_claims : (o c : ℕ) → claim_in n.holds.marks.locks o c ≡ claim_in ends.left.marks.locks o c
        same_claims o c = ap (λ (z : Book). claim_in z o c) n_locks ∙ rests.claims o c

        after : Claims
        after = with_own held m.id (known_with (λ o c. claim_in ends.left.marks.locks o c) over.rest.resources.marks.claim)

        claims : (k o c : ℕ) → known new.members k o c ≡ after k o c
        claims k o c = elim (cases_eq k m.id) [
          | inl same ↦ subst (λ z. known new.members z o c ≡ after z o c) (sym same)
              (new_known o c ∙ known_as n over.rest some_restart o c
              ∙ ap (λ (z : Option Mode). restart.or_else z (if o == 0 then restart.page_claim over.rest.resources.marks.claim c else None)) (same_claims o c)
              ∙ sym (own_there held m.id (known_with (λ o c. claim_in ends.left.marks.locks o c) over.rest.resources.marks.claim) o c))
          | inr ne ↦ new_others k o c ne ∙ sym (own_apart held m.id (known_with (λ o c. claim_in ends.left.marks.locks o c) over.rest.resources.marks.claim) k o c ne)
        ]

        still : Moved handed.leaves.moved.world [] new.facility.locks new.facility.locks new.facility.lists (known new.members)
        still = facts.stay handed.leaves.moved.world new.facility.locks new.facility.lists new.facility.lists after (known new.members) handed.leaves.moved.tied
            (record { cells = refl; statuses = refl; members = refl; claims = claims })

    by_end : (b : Bool) → now.is_up ≡ b → GoesOn b r m.holds mid.restart ends.left → Landed event.moved.world new at m.id n
    by_end true up over = landed_up up over
    by_end false on over = landed_on on over

    landed : Landed event.moved.world new at m.id n
    landed = by_end now.is_up refl ends.goes_on

    moved : Moved w (event.moves ++ landed.moves) old.facility.locks new.facility.locks new.facility.lists (known new.members)
    moved = moved_on w event.moves landed.moves old.facility.locks new.facility.locks new.facility.lists left (known new.members) event.moved landed.moved

    -- ---- the claims of its rollbacks
    spares : Spares w event.moved.world m.id (λ c. gone_by e.sent c)
    spares = subst (λ (z : ℕ). Spares w event.moved.world z (λ c. gone_by e.sent c)) own_member event.spares

    spared : (x : Option RestartHeld) → IfSome x (λ y. (landed.moved.world ≡ event.moved.world) ⊎ HasHandedOver y.resources.marks)
        → IfSome x (λ y. Spares w moved.world m.id (λ c. gone_by e.sent c) ⊎ HasHandedOver y.resources.marks)
    spared None h = tt
    spared (Some y) (inl same) = inl (subst (λ (z : World). Spares w z m.id (λ c. gone_by e.sent c)) (sym same) spares)
    spared (Some y) (inr over) = inr over

    -- ---- the other members
    index : (k : ℕ) → k + 1 - 1 ≡ k
    index k = omega arith

    own_index : s.member - 1 ≡ at
    own_index = ap (λ z. z - 1) standing.member ∙ index at

    apart : (k : ℕ) → k ≢ at → status_of new.facility.lists.statuses (k + 1) ≡ status_of old.facility.lists.statuses (k + 1)
    apart k ne = elim sets.statuses [
      | inl x ↦ ap (λ (z : List MemberStatus). status_of z (k + 1)) x.1
      | inr x ↦ ap (λ (z : List MemberStatus). status_of z (k + 1)) x.2 ∙ set_apart old.facility.lists.statuses (s.member - 1) (k + 1 - 1) Up (λ same. ne (sym (index k) ∙ same ∙ own_index))
    ]

    on : (k : ℕ) (x : Option Member) → k ≢ at → IfSome x (MemberStands old.facility (k + 1)) → IfSome x (MemberStands new.facility (k + 1))
    on k None ne h = tt
    on k (Some x) ne h = stands_on old.facility new.facility (k + 1) x h event.moved.same (apart k ne)

    stands_at : (k : ℕ) → IfSome (slice_get new.members k) (MemberStands new.facility (k + 1))
    stands_at k = elim (cases_eq k at) [
      | inl same ↦ subst (λ z. IfSome (slice_get new.members z) (MemberStands new.facility (z + 1))) (sym same) (subst (λ (z : Option Member). IfSome z (MemberStands new.facility (at + 1))) (sym e.has) landed.here)
      | inr ne ↦ subst (λ (z : Option Member). IfSome z (MemberStands new.facility (k + 1))) (sym (e.others k ne)) (on k (slice_get old.members k) ne (t.stands k))
    ]
