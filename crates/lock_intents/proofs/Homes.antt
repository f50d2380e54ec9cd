-- A lock that is tried at home.
use Rattle.std.proofs.Common.{◌≡◌, ℕ, ◌+◌, ◌≤◌, ◌<◌, refl, sym, ◌∙◌, ap, subst, arith, Bool, true, false, inl, inr, [], ◌∷◌, Option, Some, None}
use Rattle.std.specs.Prelude.{◌≢◌, ◌==◌, ◌&&◌, nat_le, nat_lt, if◌then◌else◌}
use Rattle.std.proofs.lemmas.Bool.{and_parts}
use Rattle.ds_model.specs.declared.lock.Name.{Name}
use Rattle.ds_model.specs.declared.lock.Name.TheVariants as name
use Rattle.ds_model.specs.declared.fate.Refusal.TheVariants as refusal
use Rattle.lock_names.specs.declared.mode.Mode.{Mode}
use Rattle.lock_names.specs.Modes.{join_of}
use Rattle.list_structure.specs.declared.standing.MemberStatus.{MemberStatus}
use Rattle.list_structure.specs.declared.standing.MemberStatus.TheVariants.{Up}
use Rattle.list_structure.specs.Standings.{status_of, is_live}
use Rattle.lock_manager.specs.declared.claim.Ask.{Ask}
use Rattle.lock_manager.specs.declared.claim.Ask.TheVariants as ask
use Rattle.lock_manager.specs.Claims.{joined, is_in_way}
use Rattle.lock_manager.specs.Managers.{Book, slots, held_by, ask_of, given}
use Rattle.facility.specs.States.{Held}
use Rattle.member_trans.specs.declared.fate.Owner.TheVariants as owner
use Rattle.member_trans.specs.Trans.{is_forward, after_offer}
use Rattle.member_marks.specs.State.{MarksState, slot_tran, slot_id, with_locks, with_trans}
use Rattle.member_marks.specs.Claims.{is_agent, is_for_agents, may_claim, offered_held, offered_retained, offered_memory}
use Rattle.member_marks.specs.Local.{given_with, entered_at_home, tried_as, after_claim}
use Rattle.lock_protocol.specs.Machine.{World, Covers, both_allowed, wanted}
use Rattle.lock_protocol.specs.Moves.{Local}
use Rattle.lock_protocol.specs.Sound.{Sound}
use Rattle.lock_world.specs.Books.{IsBook, SlotHas, HomeTells, Covered, GivenEnters}
use Rattle.lock_world.specs.Claims.{LocalMoves}
use Rattle.lock_world.specs.Grants.{MayEnter, NoneInWay, EntersIf}
use Rattle.lock_world.specs.Numbers.{number}
use Rattle.lock_world.specs.Standing.{StaysTied}
use Rattle.lock_world.specs.Tied.{Claims, ClaimTied, is_own, Tied, Moved}
use Rattle.lock_world.specs.Views.{entry_in, claim_in}
use Rattle.lock_intents.specs.Stands.{Knows, Leads, IsUp, Goes}
use Rattle.lock_intents.specs.Homes.{ClaimGoes}
use Rattle.lock_intents.proofs.Stands.{SameClaims, HasClaim, enters_claim, Keeps, keeps_itself, keeps_as, still_up, quiet_same, quiet_goes}
use Rattle.lock_intents.proofs.Claiming.{SameLocks, as_trans, as_same, same_claims, same_keeps, not_own, agent_below}

-- what the crates below say
pub record Facts : Type 0 where
  pub local : LocalMoves
  pub stay : StaysTied
  pub slot : SlotHas
  pub home : HomeTells
  pub given : GivenEnters

-- ---- claims of owners of the member don't conflict
exact : (c x : Option Mode) → ((m : Mode) → x ≡ Some m → c ≡ Some m) → (x ≡ None → c ≡ None) → c ≡ x
exact c None h g = g refl
exact c (Some m) h g = h m refl

live_up : (s : MemberStatus) → s ≡ Up → is_live s ≡ true
live_up s e = subst (λ z. is_live z ≡ true) (sym e) refl

known : (w : World) (f : Held) (held : Claims) (s : MarksState) → Tied w f.locks f.lists held → IsUp f s → Knows held s → (o c : ℕ) → w.claims s.member o c ≡ claim_in s.locks o c
known w f held s tied up knows o c = exact (w.claims s.member o c) (held s.member o c)
    (λ m e. subst (λ z. ClaimTied (w.claims s.member o c) z (w.records s.member c)) e (tied.claims s.member o c (tied.live s.member up.member.0 up.among ∙ live_up (status_of f.lists.statuses s.member) up.up)))
    (tied.up s.member o c up.member up.up) ∙ knows o c

apart : (w : World) (f : Held) (held : Claims) (s : MarksState) → Sound (entry_in f.locks) w → Tied w f.locks f.lists held → IsUp f s → Knows held s → (o q c : ℕ) → o ≢ q → both_allowed (claim_in s.locks o c) (claim_in s.locks q c) ≡ true
apart w f held s sound tied up knows o q c ne =
    subst (λ z. both_allowed z (claim_in s.locks q c) ≡ true) (known w f held s tied up knows o c) (subst (λ z. both_allowed (w.claims s.member o c) z ≡ true) (known w f held s tied up knows q c) (sound.within s.member o q c ne))

-- ---- a claim that the member's own cover
join_again : (a m : Mode) → join_of a (join_of a m) ≡ join_of a m
unfolding join_of
join_again a m = grind arith

wanted_again : (held : Option Mode) (m : Mode) → wanted held (joined held m) ≡ joined held m
wanted_again None m = refl
wanted_again (Some a) m = join_again a m

home_goes : Facts → (w : World) (f : Held) (held left : Claims) (s t : MarksState) (slot : ℕ) (n : Name) (m : Mode) (spare : ℕ) → Sound (entry_in f.locks) w → Tied w f.locks f.lists held → IsUp f s → Knows held s → Leads held left s t
    → is_agent s slot ≡ true → is_for_agents n ≡ true → ask_of s.locks slot n m ≡ ask.Local → t ≡ with_locks s (given_with s.locks spare slot n m) → Goes w f f left s t
home_goes facts w f held left s t slot n m spare sound tied up knows leads agent for_agents told e =
    let lt = agent_below s slot agent in
    let mode = joined (held_by s.locks slot n) m in
    let cover = facts.home s.locks slot n m up.book lt (apart w f held s sound tied up knows) told in
    let has = facts.given s.locks slot n m up.book lt in
    let claims : HasClaim s t slot n mode = λ o c. ap (λ (z : MarksState). claim_in z.locks o c) e ∙ has.own o c in
    let kept : Keeps s t = keeps_as s t (with_locks s (given_with s.locks spare slot n m)) e (record { member = refl; entries = refl; book = record { owners = has.stands.owners; few = has.stands.few; once = has.stands.once; apart = has.stands.apart } }) in
    let may : MayEnter f.lists held s.member slot n mode = record {
      member = up.member;
      among = up.among;
      stands = inl up.up;
      owners = λ own. absurd (not_own n for_agents own);
      joined = subst (λ z. wanted z mode ≡ mode) (sym (knows slot (number n) ∙ facts.slot s.locks slot n up.book lt)) (wanted_again (held_by s.locks slot n) m);
    } in
    record {
      moves = Local s.member slot (number n) mode ∷ [];
      own = (refl, tt);
      moved = facts.local w f.locks f.lists held left s.member slot n mode tied may
          ((λ is_true is_agent q ne. subst (λ z. is_in_way z mode ≡ false) (sym (knows q (number n))) (cover.free q ne)), enters_claim held left s t slot n mode knows leads claims)
          (cover.covers.0, subst (λ z. Covers z mode) (sym (knows cover.covers.0 (number n))) cover.covers.1);
      same = kept.member;
      stands = still_up f f s t up kept refl refl refl;
    }

quiet : Facts → (w : World) (f : Held) (held left : Claims) (s t : MarksState) → Tied w f.locks f.lists held → IsUp f s → Knows held s → Leads held left s t → SameLocks s t → Goes w f f left s t
quiet facts w f held left s t tied up knows leads e = quiet_goes facts.stay w f f held left s t tied up knows leads (quiet_same f f refl) (same_claims s t e) (same_keeps s t up.book e)

-- there was no memory, and there may be other room
full_goes : Facts → (w : World) (f : Held) (held left : Claims) (s t : MarksState) (slot event spare : ℕ) → Tied w f.locks f.lists held → IsUp f s → Knows held s → Leads held left s t
    → t ≡ offered_memory (with_locks s (record s.locks { spare = spare })) slot event → Goes w f f left s t
full_goes facts w f held left s t slot event spare tied up knows leads e = quiet_goes facts.stay w f f held left s t tied up knows leads (quiet_same f f refl) (λ o c. ap (λ (z : MarksState). claim_in z.locks o c) e)
    (keeps_as s t (offered_memory (with_locks s (record s.locks { spare = spare })) slot event) e (record { member = refl; entries = refl; book = record { owners = up.book.owners; few = up.book.few; once = up.book.once; apart = up.book.apart } }))

tried_goes : Facts → (w : World) (f : Held) (held left : Claims) (s t : MarksState) (slot : ℕ) (n : Name) (m : Mode) (event : ℕ) (has_memory : Bool) (spare : ℕ) → Sound (entry_in f.locks) w → Tied w f.locks f.lists held → IsUp f s → Knows held s → Leads held left s t
    → is_agent s slot ≡ true → is_for_agents n ≡ true → (a : Ask) → ask_of s.locks slot n m ≡ a → t ≡ tried_as s slot n m event has_memory spare a → Goes w f f left s t
tried_goes facts w f held left s t slot n m event has_memory spare sound tied up knows leads agent for_agents ask.Have told e = quiet facts w f held left s t tied up knows leads (as_same s t e)
tried_goes facts w f held left s t slot n m event has_memory spare sound tied up knows leads agent for_agents (ask.Conflict by) told e = quiet facts w f held left s t tied up knows leads (as_trans s t (after_offer s.trans (owner.Slot slot) (refusal.Held n (slot_id s by)) event) e)
tried_goes facts w f held left s t slot n m event has_memory spare sound tied up knows leads agent for_agents (ask.Postponed by) told e = quiet facts w f held left s t tied up knows leads (as_trans s t (after_offer s.trans (owner.Slot slot) (refusal.Retained n by) event) e)
tried_goes facts w f held left s t slot n m event true spare sound tied up knows leads agent for_agents ask.Local told e = home_goes facts w f held left s t slot n m spare sound tied up knows leads agent for_agents told e
tried_goes facts w f held left s t slot n m event false spare sound tied up knows leads agent for_agents ask.Local told e = full_goes facts w f held left s t slot event spare tied up knows leads e
tried_goes facts w f held left s t slot n m event has_memory spare sound tied up knows leads agent for_agents (ask.Facility more) told e = quiet facts w f held left s t tied up knows leads (as_same s t e)

pub claim_goes : Facts → ClaimGoes
claim_goes facts w f held left s t slot n m event has_memory spare sound tied up knows e leads = by (may_claim s slot n) refl e
  where
    by : (b : Bool) → may_claim s slot n ≡ b → t ≡ (if b then tried_as s slot n m event has_memory spare (ask_of s.locks slot n m) else s) → Goes w f f left s t
    by true may h =
        let p = and_parts (is_agent s slot) (is_forward (slot_tran s slot).stage && is_for_agents n) may in
        let q = and_parts (is_forward (slot_tran s slot).stage) (is_for_agents n) p.1 in
        tried_goes facts w f held left s t slot n m event has_memory spare sound tied up knows leads p.0 q.1 (ask_of s.locks slot n m) refl h
    by false other h = quiet facts w f held left s t tied up knows leads (as_same s t h)
