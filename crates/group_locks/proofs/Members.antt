-- A member that is up makes an event.
use Rattle.std.proofs.Common.{◌≡◌, ℕ, zero, suc, ◌+◌, ◌≤◌, ◌<◌, refl, sym, ◌∙◌, ap, subst, arith, true, false, inl, inr, List, length, Option, Some, None}
use Rattle.std.specs.Prelude.{◌≢◌, IfSome, is_some, slice_get}
use Rattle.std.proofs.lemmas.Bool.{cases_eq}
use Rattle.std.proofs.lemmas.Option.{slice_get_within}
use Rattle.ds_base.specs.Ids.{IsMember}
use Rattle.ds_base.specs.declared.names.Sizes.{Sizes}
use Rattle.list_structure.specs.declared.standing.MemberStatus.{MemberStatus}
use Rattle.list_structure.specs.declared.standing.MemberStatus.TheVariants.{Restarting, Up}
use Rattle.list_structure.specs.Standings.{is_live, status_of}
use Rattle.group_member.specs.declared.restarting.Restarting.{Restarting as RestartHeld}
use Rattle.group_member.specs.Members.{Member}
use Rattle.lock_protocol.specs.Sound.{RunKeepsSound}
use Rattle.lock_members.specs.Known.{KnowsOwn, LeadsTo}
use Rattle.lock_members.specs.Members.{MemberGoes, MemberIsUp, StepsGo, StepsKeepFree}
use Rattle.group_locks.specs.Members.{MemberStepsMoves}
use Rattle.group_locks.specs.Stands.{MemberStands, RestartInHand, known, known_by}
use Rattle.group_locks.proofs.Moved.{stands_on, still_sound}
use Rattle.group_locks.proofs.Whole.{within}

pub record Facts : Type 0 where
  pub run : RunKeepsSound
  pub steps : StepsGo
  pub keep : StepsKeepFree

both_up : (s : MemberStatus) → s ≡ Up → s ≡ Restarting → ⊥
both_up s a b = cc

live_up : (s : MemberStatus) → s ≡ Up → is_live s ≡ false → ⊥
live_up s a b = let live : is_live s ≡ true = ap is_live a in let never : true ≡ false = sym live ∙ b in cc

none_some : (x : Option RestartHeld) → x ≡ None → is_some x ≡ true → ⊥
none_some x a b = let none : is_some x ≡ false = ap (λ (z : Option RestartHeld). is_some z) a in let never : false ≡ true = sym none ∙ b in cc

numbered : (ms : List Member) (k : ℕ) (x : Member) → slice_get ms k ≡ Some x → k + 1 ≤ length ms
numbered ms k x h = let a : k < length ms = slice_get_within ms k x h in omega (arith, a)

pub member_steps : Facts → MemberStepsMoves
member_steps facts old new at m n w t e = record {
  entries = goes.moved.same;
  moves = goes.moves;
  are = goes.own;
  world = goes.moved.world;
  run = goes.moved.run;
  tied = record {
    sound = still_sound facts.run w goes.moves old.facility.locks new.facility.locks new.facility.lists (known new.members) t.sound goes.moved;
    tied = goes.moved.tied;
    count = e.count ∙ t.count ∙ sym goes.standings.members;
    few = subst (λ z. z ≤ 32) (sym goes.standings.members) t.few;
    agents = subst (λ (z : Sizes). z.agents ≤ 16) (sym e.sizes) t.agents;
    entries = goes.moved.same ∙ t.entries ∙ ap (λ (z : Sizes). z.locks) (sym e.sizes);
    stands = stands_at;
  };
}
  where
    stood : MemberStands old.facility (at + 1) m
    stood = subst (λ (z : Option Member). IfSome z (MemberStands old.facility (at + 1))) e.had (t.stands at)

    is_member : IsMember (at + 1)
    is_member = within old.members at m old.facility.lists.members e.had t.count t.few

    among : at + 1 ≤ old.facility.lists.members
    among = subst (λ z. at + 1 ≤ z) t.count (numbered old.members at m e.had)

    next : (k : ℕ) → k ≡ at → suc k ≡ m.id
    next k same = let id = stood.id in omega (arith, same, id)

    is_up : MemberIsUp old.facility m
    is_up = record {
      up = record {
        member = subst IsMember (sym stood.member) is_member;
        among = subst (λ z. z ≤ old.facility.lists.members) (sym stood.member) among;
        few = t.few;
        up = ap (λ z. status_of old.facility.lists.statuses z) (stood.member ∙ sym stood.id) ∙ e.up;
        size = stood.size;
        book = stood.book;
      };
      id = stood.member ∙ sym stood.id;
      slots = stood.slots;
      rests = stood.up (ap (λ z. status_of old.facility.lists.statuses z) (sym stood.id) ∙ e.up);
    }

    knows : KnowsOwn (known old.members) m
    knows o c = ap (λ z. known old.members z o c) (sym (next at refl)) ∙ ap (λ (z : Option Member). known_by z o c) e.had

    others : (k o c : ℕ) → k ≢ m.id → known new.members k o c ≡ known old.members k o c
    others zero o c ne = refl
    others (suc k) o c ne = ap (λ (z : Option Member). known_by z o c) (e.others k (λ same. ne (next k same)))

    leads : LeadsTo (known old.members) (known new.members) m n
    leads = record {
      others = others;
      own = λ o c. ap (λ z. known new.members z o c) (sym (next at refl)) ∙ ap (λ (z : Option Member). known_by z o c) e.has;
    }

    goes : MemberGoes w old.facility new.facility (known new.members) m n
    goes = facts.steps w (record { facility = old.facility; drive = e.drive }) (record { facility = new.facility; drive = e.left }) (known old.members) (known new.members) m n old.fates new.fates e.place e.stepped t.sound t.tied is_up knows e.steps leads

    statuses : (k : ℕ) → status_of new.facility.lists.statuses k ≡ status_of old.facility.lists.statuses k
    statuses k = ap (λ (z : List MemberStatus). status_of z k) goes.standings.statuses

    id : n.id ≡ at + 1
    id = goes.same ∙ stood.id

    now_up : status_of new.facility.lists.statuses (at + 1) ≡ Up
    now_up = ap (λ z. status_of new.facility.lists.statuses z) (sym (goes.stands.id ∙ id)) ∙ goes.stands.up.up

    here : MemberStands new.facility (at + 1) n
    here = record {
      id = id;
      member = goes.stands.id ∙ id;
      size = goes.stands.up.size;
      book = goes.stands.up.book;
      slots = goes.stands.slots;
      free = facts.keep m n (record { facility = old.facility; drive = e.drive }) (record { facility = new.facility; drive = e.left }) old.fates new.fates e.place e.stepped e.steps stood.free;
      up = λ _. goes.stands.rests;
      restarts = λ s. absurd (both_up (status_of new.facility.lists.statuses (at + 1)) now_up s);
      rests = λ s. absurd (none_some n.restart goes.stands.rests s);
      restart = subst (λ (z : Option RestartHeld). RestartInHand (at + 1) n z) (sym goes.stands.rests) tt;
      down = λ s. absurd (live_up (status_of new.facility.lists.statuses (at + 1)) now_up s);
    }

    on : (k : ℕ) (x : Option Member) → IfSome x (MemberStands old.facility (k + 1)) → IfSome x (MemberStands new.facility (k + 1))
    on k None h = tt
    on k (Some x) h = stands_on old.facility new.facility (k + 1) x h goes.moved.same (statuses (k + 1))

    stands_at : (k : ℕ) → IfSome (slice_get new.members k) (MemberStands new.facility (k + 1))
    stands_at k = elim (cases_eq k at) [
      | inl same ↦ subst (λ z. IfSome (slice_get new.members z) (MemberStands new.facility (z + 1))) (sym same) (subst (λ (z : Option Member). IfSome z (MemberStands new.facility (at + 1))) (sym e.has) here)
      | inr ne ↦ subst (λ (z : Option Member). IfSome z (MemberStands new.facility (k + 1))) (sym (e.others k ne)) (on k (slice_get old.members k) (t.stands k))
    ]
