-- A member of a group fails, and what it had locked is handed over.
use Rattle.std.proofs.Common.{◌≡◌, ℕ, zero, suc, ◌+◌, ◌≤◌, ◌<◌, refl, sym, ◌∙◌, ap, subst, arith, Bool, true, false, List, [], ◌∷◌, length, Option, Some, None}
use Rattle.std.specs.Prelude.{◌≢◌, if◌then◌else◌, IfSome}
use Rattle.std.proofs.lemmas.Bool.{eq-eqb}
use Rattle.std.proofs.lemmas.Option.{slice_get_within}
use Rattle.ds_base.specs.Ids.{IsMember}
use Rattle.lock_names.specs.Entries.{entry_number}
use Rattle.lock_names.specs.declared.mode.Mode.{Mode}
use Rattle.list_structure.specs.Standings.{is_live, status_of}
use Rattle.group_member.specs.declared.restarting.Restarting.{Restarting as RestartHeld}
use Rattle.group_member.specs.Members.{Member}
use Rattle.group_locks.specs.Given.{CrewState}
use Rattle.lock_protocol.specs.Machine.{World, failed}
use Rattle.lock_protocol.specs.Moves.{Fail, Move, Run}
use Rattle.lock_protocol.specs.Own.{AreOf}
use Rattle.lock_protocol.specs.Sound.{RunKeepsSound, Sound}
use Rattle.lock_world.specs.Numbers.{name_at}
use Rattle.lock_world.specs.Tied.{Moved, Tied}
use Rattle.lock_world.specs.Views.{claim_in, entry_in, rollback_owner}
use Rattle.group_locks.specs.Given.{LeadsTo, known_of, or_else, restart_claim}
use Rattle.group_locks.specs.Given.{FailuresGo}
use Rattle.failed_claims.specs.Failing.{FailureLeaves, HandedOver, HandsOver, HoldsRow, IsLeft}
use Rattle.group_locks.specs.Events.{Moves, OfMember}
use Rattle.group_locks.specs.Stands.{LocksTied, MemberStands, known, known_by}
use Rattle.group_locks.specs.Whole.{FailsAt, MemberFailsMoves}
use Rattle.failed_logs.specs.Failures.{UpHandsOver}
use Rattle.failed_logs.proofs.Tied.{OnlyClaims, still_tied}

-- ---- the failure as a move
pub record FailFacts : Type 0 where
  pub run : RunKeepsSound
  pub fails : FailuresGo
  pub go : MemberFailsMoves

-- moves lead to this world
pub record GoesTo (old new : CrewState) (w : World) (m : Member) (v : World) : Type 0 where
  pub moves : Moves (OfMember m.id) old new w
  pub there : moves.world ≡ v

module _ (facts : FailFacts) (old new : CrewState) (at : ℕ) (m n : Member) (w : World) (t : LocksTied old w) (f : FailsAt old new at m n) where
  pub stood : MemberStands old.facility (at + 1) m
  stood = subst (λ (z : Option Member). IfSome z (MemberStands old.facility (at + 1))) f.had (t.stands at)

  pub own : m.holds.marks.member ≡ m.id
  own = stood.member ∙ sym stood.id

  among : at + 1 ≤ old.facility.lists.members
  among = let there : at < length old.members = slice_get_within old.members at m f.had in let count = t.count in omega (arith, there, count)

  from_one : 1 ≤ m.id
  from_one = let id = stood.id in omega (arith, id)

  pub most : m.id ≤ old.facility.lists.members
  most = let id = stood.id in let a = among in omega (arith, id, a)

  pub is_member : IsMember m.id
  is_member = let le = most in let few = t.few in let one = from_one in (one, omega (arith, le, few))

  next : (k : ℕ) → k ≡ at → suc k ≡ m.id
  next k e = let id = stood.id in omega (arith, e, id)

  others : (k o c : ℕ) → k ≢ m.id → known new.members k o c ≡ known old.members k o c
  others zero o c ne = refl
  others (suc k) o c ne = ap (λ (z : Option Member). known_by z o c) (f.others k (λ e. ne (next k e)))

  leads : LeadsTo (known old.members) (known new.members) m n
  leads = record {
    others = others;
    own = λ o c. ap (λ (z : ℕ). known new.members z o c) (sym (next at refl)) ∙ ap (λ (z : Option Member). known_by z o c) f.has;
  }

  -- what the member knew
  pub knew : (o c : ℕ) → known old.members m.id o c ≡ known_of m o c
  knew o c = ap (λ (z : ℕ). known old.members z o c) (sym (next at refl)) ∙ ap (λ (z : Option Member). known_by z o c) f.had

  moved : Moved w (Fail m.id ∷ []) old.facility.locks new.facility.locks new.facility.lists (known new.members)
  moved = facts.fails w old.facility new.facility (known old.members) (known new.members) m n old.sizes t.tied is_member t.few f.failed f.down leads

  behind : moved.world ≡ failed w m.id
  behind = let r = moved.run in r.2 ∙ r.1

  tied : Tied (failed w m.id) new.facility.locks new.facility.lists (known new.members)
  tied = subst (λ (z : World). Tied z new.facility.locks new.facility.lists (known new.members)) behind moved.tied

  -- ---- it isn't live then
  pub dead : (failed w m.id).live m.id ≡ false
  dead = ap (λ (b : Bool). if b then false else w.live m.id) (eq-eqb m.id m.id refl)

  stands : Moves (OfMember m.id) old new w
  stands = facts.go old new at m n w t f

  down : is_live (status_of new.facility.lists.statuses m.id) ≡ false
  down =
      let before = t.count in
      let count = f.count in
      let after = stands.tied.count in
      let few = most in
      sym (tied.live m.id from_one (omega (arith, few, before, count, after))) ∙ dead

  -- ---- further moves of it, which change its claims alone
  pub go_on : (v : World) (moves : List Move) → AreOf m.id moves → Run (entry_in old.facility.locks) (failed w m.id) moves v → OnlyClaims (failed w m.id) v m.id → GoesTo old new w m v
  go_on v moves own_moves run only = record {
    moves = record {
      entries = moved.same;
      moves = Fail m.id ∷ moves;
      are = (refl, own_moves);
      world = v;
      run = whole;
      tied = record {
        sound = subst (λ (z : ℕ). Sound (λ c. entry_number (name_at c) z) v) (sym moved.same) (facts.run (entry_in old.facility.locks) (Fail m.id ∷ moves) w v t.sound whole);
        tied = still_tied (failed w m.id) v new.facility.locks new.facility.lists (known new.members) m.id tied only dead down;
        count = stands.tied.count;
        few = stands.tied.few;
        agents = stands.tied.agents;
        entries = stands.tied.entries;
        stands = stands.tied.stands;
      };
    };
    there = refl;
  }
    where
      whole : Run (entry_in old.facility.locks) w (Fail m.id ∷ moves) v
      whole = (failed w m.id, refl, run)

-- ---- a member that was up
pub record Facts : Type 0 where
  pub run : RunKeepsSound
  pub fails : FailuresGo
  pub go : MemberFailsMoves
  pub leaves : FailureLeaves
  pub hands : HandsOver

pub up_hands_over : Facts → UpHandsOver
up_hands_over facts old new at counter m n w t f is_up counted = record {
  moves = goes.moves;
  rows = λ id spot some l. subst (λ (z : World). HoldsRow z m.id (rollback_owner id) spot) (sym goes.there) (subst (λ (k : ℕ). HoldsRow handed.world k (rollback_owner id) spot) same (handed.rows id spot some l));
}
  where
    base : FailFacts
    base = record { run = facts.run; fails = facts.fails; go = facts.go }

    stood_so : MemberStands old.facility (at + 1) m
    stood_so = stood base old new at m n w t f

    same : m.holds.marks.member ≡ m.id
    same = own base old new at m n w t f

    live : w.live m.id ≡ true
    live = t.tied.live m.id (is_member base old new at m n w t f).0 (most base old new at m n w t f) ∙ ap is_live is_up

    no_restart : m.restart ≡ None
    no_restart = stood_so.up (ap (λ (z : ℕ). status_of old.facility.lists.statuses z) (sym stood_so.id) ∙ is_up)

    knows : (o c : ℕ) → known old.members m.holds.marks.member o c ≡ claim_in m.holds.marks.locks o c
    knows o c =
        ap (λ (z : ℕ). known old.members z o c) same ∙ knew base old new at m n w t f o c
        ∙ ap (λ (z : Option RestartHeld). or_else (claim_in m.holds.marks.locks o c) (restart_claim z o c)) no_restart ∙ nothing_else (claim_in m.holds.marks.locks o c)
      where
        nothing_else : (x : Option Mode) → or_else x None ≡ x
        nothing_else None = refl
        nothing_else (Some x) = refl

    left : IsLeft (failed w m.id) m.holds.marks
    left = subst (λ (k : ℕ). IsLeft (failed w k) m.holds.marks) same
        (facts.leaves w old.facility.locks old.facility.lists (known old.members) m.holds.marks t.tied (subst IsMember (sym same) (is_member base old new at m n w t f))
        (ap (λ (z : ℕ). status_of old.facility.lists.statuses z) same ∙ is_up) (ap (λ (z : ℕ). w.live z) same ∙ live) knows)

    handed : HandedOver (entry_in old.facility.locks) (failed w m.id) m.holds.marks
    handed = facts.hands (entry_in old.facility.locks) (failed w m.id) m.holds.marks counter counted stood_so.book left

    by_it : AreOf m.id handed.moves
    by_it = subst (λ (k : ℕ). AreOf k handed.moves) same handed.own

    only : OnlyClaims (failed w m.id) handed.world m.id
    only = subst (λ (k : ℕ). OnlyClaims (failed w m.id) handed.world k) same (record { same = handed.same; others = handed.others; free = handed.free })

    goes : GoesTo old new w m handed.world
    goes = go_on base old new at m n w t f handed.world handed.moves by_it handed.run only
