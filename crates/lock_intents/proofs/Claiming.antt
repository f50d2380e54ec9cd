-- A lock that is asked for.
use Rattle.std.proofs.Common.{◌≡◌, ℕ, ◌+◌, ◌≤◌, ◌<◌, refl, sym, ◌∙◌, ap, subst, arith, Bool, true, false, inl, inr, [], ◌∷◌, length, Option, Some, None}
use Rattle.std.specs.Prelude.{◌≢◌, ◌⊎◌, ◌==◌, ◌&&◌, nat_le, nat_lt, if◌then◌else◌}
use Rattle.std.proofs.lemmas.Bool.{cond-true, cases_Bool, both_ways, and_parts, eqb-true, leb-true}
use Rattle.ds_base.specs.declared.names.PageId.{PageId}
use Rattle.ds_model.specs.declared.lock.Name.{Name}
use Rattle.ds_model.specs.declared.lock.Name.TheVariants as name
use Rattle.ds_model.specs.declared.fate.Refusal.TheVariants as refusal
use Rattle.lock_names.specs.declared.mode.Mode.{Mode}
use Rattle.lock_names.specs.declared.mode.Mode.TheVariants.{IS, IX, S, U, SIX, X}
use Rattle.lock_names.specs.Modes.{is_covering, is_same, join_of}
use Rattle.lock_structure.specs.declared.replies.Obtained.TheVariants as obtained
use Rattle.lock_structure.specs.declared.replies.GrantReply.TheVariants as grant
use Rattle.lock_structure.specs.Locks.{Locks, IsLowest, IsGranted, Obtains, Grants, entry_for, keeps_out, stands}
use Rattle.list_structure.specs.Askers.{slot_of}
use Rattle.list_structure.specs.Cells.{AreCells, emptied}
use Rattle.list_structure.specs.States.{ListsState}
use Rattle.lock_manager.specs.declared.claim.Ask.{Ask}
use Rattle.lock_manager.specs.declared.claim.Ask.TheVariants as ask
use Rattle.lock_manager.specs.Claims.{joined, is_covered, is_in_way}
use Rattle.lock_manager.specs.Managers.{slots, held_by, held_by_member, waited_for, ask_of, ask_among, given, IsGiven}
use Rattle.lock_manager.specs.Holders.{first_in_way}
use Rattle.facility.specs.declared.command.Reply.{Reply}
use Rattle.facility.specs.declared.command.Reply.TheVariants as reply
use Rattle.facility.specs.States.{Held}
use Rattle.facility.specs.LockCommands.{ObtainsLock, GrantsLock, clean_answers}
use Rattle.member_intents.specs.Cells.{cell_slot}
use Rattle.member_trans.specs.declared.fate.Owner.{Owner}
use Rattle.member_trans.specs.declared.fate.Owner.TheVariants as owner
use Rattle.member_trans.specs.Trans.{TransState, is_forward, after_offer}
use Rattle.member_marks.specs.State.{MarksState, agents_of, slot_tran, with_locks, with_trans}
use Rattle.member_marks.specs.Claims.{is_agent, is_for_agents, may_claim, mode_held, has_spare, may_enter_page, PageEntered, entered, entered_as, after_enter, offered_held, offered_retained, offered_memory}
use Rattle.member_effects.specs.Claims.{Claims as SettlesClaims, Enters as SettlesEnters}
use Rattle.member_needs.specs.Locks.{is_x, is_joined}
use Rattle.needs_law.specs.Lawful.{MayClaim, SlotClaims}
use Rattle.lock_protocol.specs.Machine.{World, wanted}
use Rattle.lock_protocol.specs.Moves.{Obtain, Grant, Refuse}
use Rattle.lock_world.specs.Books.{IsBook, SlotHas, FreeAtHome, FacilityTells, GivenEnters, PageEnters}
use Rattle.lock_world.specs.Cells.{RefusesMoves}
use Rattle.lock_world.specs.Grants.{MayEnter, NoneInWay, EntersIf, ObtainsMoves, GrantsMoves}
use Rattle.lock_world.specs.Numbers.{AreNumbered, number}
use Rattle.lock_world.specs.Standing.{StaysTied}
use Rattle.lock_world.specs.Tied.{Claims, Tied, Moved, is_own}
use Rattle.lock_world.specs.Views.{claim_in}
use Rattle.lock_intents.specs.Stands.{Knows, Leads, IsUp, Goes}
use Rattle.lock_intents.specs.Intents.{IsAgent, ObtainGoes, GrantGoes}
use Rattle.lock_intents.proofs.Stands.{SameClaims, HasClaim, stay_claims, enters_claim, enters_none, Keeps, keeps_itself, keeps_as, still_up, quiet_same, quiet_goes, relabelled}

-- what the crates below say
pub record Facts : Type 0 where
  pub obtain : ObtainsMoves
  pub grant : GrantsMoves
  pub refuse : RefusesMoves
  pub stay : StaysTied
  pub slot : SlotHas
  pub home : FreeAtHome
  pub far : FacilityTells
  pub given : GivenEnters
  pub page : PageEnters

no_way : false ≡ true → ⊥
no_way e = cc

yes_way : true ≡ false → ⊥
yes_way e = cc

-- ---- the lock manager stays
pub record SameLocks (s t : MarksState) : Type 0 where
  pub locks : t.locks ≡ s.locks
  pub member : t.member ≡ s.member

pub as_trans : (s t : MarksState) (x : TransState) → t ≡ with_trans s x → SameLocks s t
as_trans s t x e = record { locks = ap (λ (z : MarksState). z.locks) e; member = ap (λ (z : MarksState). z.member) e }

pub as_same : (s t : MarksState) → t ≡ s → SameLocks s t
as_same s t e = record { locks = ap (λ (z : MarksState). z.locks) e; member = ap (λ (z : MarksState). z.member) e }

pub same_claims : (s t : MarksState) → SameLocks s t → SameClaims s t
same_claims s t e o c = ap (λ z. claim_in z o c) e.locks

pub same_keeps : (s t : MarksState) → IsBook s.locks → SameLocks s t → Keeps s t
same_keeps s t b e = record { member = e.member; entries = ap (λ z. z.entries) e.locks; book = subst (λ z. IsBook z) (sym e.locks) b }

unchanged : (f g : Held) → g ≡ record f { locks = g.locks } → g.locks ≡ f.locks → g ≡ f
unchanged f g a b = a ∙ ap (λ z. record f { locks = z }) b

refused : Facts → (w : World) (f g : Held) (held left : Claims) (s t : MarksState) → Tied w f.locks f.lists held → IsUp f s → Knows held s → Leads held left s t → g ≡ f → SameLocks s t → Goes w f g left s t
refused facts w f g held left s t tied up knows leads same e = quiet_goes facts.stay w f g held left s t tied up knows leads (quiet_same f g same) (same_claims s t e) (same_keeps s t up.book e)

-- ---- modes
same_mode : (a b : Mode) → is_same a b ≡ true → a ≡ b
unfolding is_same
same_mode IS IS h = refl
same_mode IS IX h = absurd (no_way h)
same_mode IS S h = absurd (no_way h)
same_mode IS U h = absurd (no_way h)
same_mode IS SIX h = absurd (no_way h)
same_mode IS X h = absurd (no_way h)
same_mode IX IS h = absurd (no_way h)
same_mode IX IX h = refl
same_mode IX S h = absurd (no_way h)
same_mode IX U h = absurd (no_way h)
same_mode IX SIX h = absurd (no_way h)
same_mode IX X h = absurd (no_way h)
same_mode S IS h = absurd (no_way h)
same_mode S IX h = absurd (no_way h)
same_mode S S h = refl
same_mode S U h = absurd (no_way h)
same_mode S SIX h = absurd (no_way h)
same_mode S X h = absurd (no_way h)
same_mode U IS h = absurd (no_way h)
same_mode U IX h = absurd (no_way h)
same_mode U S h = absurd (no_way h)
same_mode U U h = refl
same_mode U SIX h = absurd (no_way h)
same_mode U X h = absurd (no_way h)
same_mode SIX IS h = absurd (no_way h)
same_mode SIX IX h = absurd (no_way h)
same_mode SIX S h = absurd (no_way h)
same_mode SIX U h = absurd (no_way h)
same_mode SIX SIX h = refl
same_mode SIX X h = absurd (no_way h)
same_mode X IS h = absurd (no_way h)
same_mode X IX h = absurd (no_way h)
same_mode X S h = absurd (no_way h)
same_mode X U h = absurd (no_way h)
same_mode X SIX h = absurd (no_way h)
same_mode X X h = refl

join_turn : (a b : Mode) → join_of a b ≡ join_of b a
unfolding join_of
join_turn a b = grind arith

join_x : (a : Mode) → join_of a X ≡ X
unfolding join_of
join_x a = grind arith

is_x_mode : (m : Mode) → is_x m ≡ true → m ≡ X
is_x_mode IS h = absurd (no_way h)
is_x_mode IX h = absurd (no_way h)
is_x_mode S h = absurd (no_way h)
is_x_mode U h = absurd (no_way h)
is_x_mode SIX h = absurd (no_way h)
is_x_mode X h = refl

-- a mode with what is held in it
joined_mode : (held : Option Mode) (m : Mode) → is_joined held m ≡ true → joined held m ≡ m
joined_mode None m h = refl
joined_mode (Some a) m h = join_turn a m ∙ same_mode (join_of m a) m h

covered_mode : (held : Option Mode) (m : Mode) → is_covered held m ≡ true → held ≡ Some (joined held m)
covered_mode None m h = absurd (no_way h)
covered_mode (Some a) m h = ap Some (sym (same_mode (join_of a m) a h))

wanted_mode : (held : Option Mode) (m : Mode) → wanted held m ≡ joined held m
wanted_mode None m = refl
wanted_mode (Some a) m = refl

joined_x : (held : Option Mode) → joined held X ≡ X
joined_x None = refl
joined_x (Some a) = join_x a

-- ---- names
pub not_own : (n : Name) → is_for_agents n ≡ true → is_own n ≡ true → ⊥
not_own (name.Space t) a b = no_way b
not_own (name.Row t k) a b = no_way b
not_own (name.Page p) a b = no_way a
not_own (name.Set s) a b = no_way a

-- ---- what becomes of the claims of a slot
abbrev pub Comes : Claims → MarksState → MarksState → ℕ → Name → Mode → Type 0
Comes held s t owner n m = SameClaims s t ⊎ (HasClaim s t owner n m × NoneInWay held s.member owner n m)

given_claims : Facts → (s : MarksState) (slot : ℕ) (n : Name) (m : Mode) → IsBook s.locks → slot < slots s.locks → joined (held_by s.locks slot n) m ≡ m → HasClaim s (with_locks s (given s.locks slot n m)) slot n m
given_claims facts s slot n m book lt same o c = (facts.given s.locks slot n m book lt).own o c ∙ ap (λ z. if (o == slot) && (c == number n) then Some z else claim_in s.locks o c) same

given_keeps : Facts → (s : MarksState) (slot : ℕ) (n : Name) (m : Mode) → IsBook s.locks → slot < slots s.locks → Keeps s (with_locks s (given s.locks slot n m))
given_keeps facts s slot n m book lt = record { member = refl; entries = refl; book = (facts.given s.locks slot n m book lt).stands }

-- by whether there is room
entered_comes : Facts → (held : Claims) (s : MarksState) (slot : ℕ) (n : Name) (m : Mode) (place : ℕ) → IsBook s.locks → slot < slots s.locks → joined (held_by s.locks slot n) m ≡ m → NoneInWay held s.member slot n m
    → Comes held s (entered s slot n m place) slot n m × Keeps s (entered s slot n m place)
entered_comes facts held s slot n m place book lt same free = by (has_spare s)
  where
    by : (b : Bool) → Comes held s (if b then with_locks s (given s.locks slot n m) else offered_memory s slot place) slot n m × Keeps s (if b then with_locks s (given s.locks slot n m) else offered_memory s slot place)
    by true = (inr (given_claims facts s slot n m book lt same, free), given_keeps facts s slot n m book lt)
    by false = (inl (λ o c. refl), record { member = refl; entries = refl; book = book })

-- a claim that is there already
have_comes : Facts → (held : Claims) (s : MarksState) (slot : ℕ) (n : Name) (m : Mode) (place : ℕ) → IsBook s.locks → slot < slots s.locks → joined (held_by s.locks slot n) m ≡ m → is_covered (held_by s.locks slot n) m ≡ true
    → Comes held s (entered s slot n m place) slot n m × Keeps s (entered s slot n m place)
have_comes facts held s slot n m place book lt same covered = by (has_spare s)
  where
    is_there : claim_in s.locks slot (number n) ≡ Some m
    is_there = facts.slot s.locks slot n book lt ∙ covered_mode (held_by s.locks slot n) m covered ∙ ap Some same

    already : (o c : ℕ) → (if (o == slot) && (c == number n) then Some m else claim_in s.locks o c) ≡ claim_in s.locks o c
    already o c = elim (cases_Bool ((o == slot) && (c == number n))) [
      | inl t ↦
          let p = and_parts (o == slot) (c == number n) t in
          cond-true ((o == slot) && (c == number n)) (Some m) (claim_in s.locks o c) t ∙ sym (ap (λ z. claim_in s.locks z c) (eqb-true o slot p.0) ∙ ap (λ z. claim_in s.locks slot z) (eqb-true c (number n) p.1) ∙ is_there)
      | inr f ↦ ap (λ (z : Bool). if z then Some m else claim_in s.locks o c) f
    ]

    by : (b : Bool) → Comes held s (if b then with_locks s (given s.locks slot n m) else offered_memory s slot place) slot n m × Keeps s (if b then with_locks s (given s.locks slot n m) else offered_memory s slot place)
    by true = (inl (λ o c. given_claims facts s slot n m book lt same o c ∙ already o c), given_keeps facts s slot n m book lt)
    by false = (inl (λ o c. refl), record { member = refl; entries = refl; book = book })

is_have : (s : MarksState) (slot : ℕ) (n : Name) (m : Mode) → ask_of s.locks slot n m ≡ ask.Have → is_covered (held_by s.locks slot n) m ≡ true
is_have s slot n m e = by (is_covered (held_by s.locks slot n) m) refl e
  where
    found : Option ℕ
    found = first_in_way s.locks.holders 0 (Some slot) n (joined (held_by s.locks slot n) m)

    local_have : ask.Local ≡ ask.Have → ⊥
    local_have h = cc

    far_have : ask.Facility (joined (held_by s.locks slot n) m) ≡ ask.Have → ⊥
    far_have h = cc

    held_have : (k : ℕ) → ask.Conflict k ≡ ask.Have → ⊥
    held_have k h = cc

    waits_have : (k : ℕ) → ask.Postponed k ≡ ask.Have → ⊥
    waits_have k h = cc

    never_home : (b : Bool) → (if b then ask.Local else ask.Facility (joined (held_by s.locks slot n) m)) ≡ ask.Have → ⊥
    never_home true h = local_have h
    never_home false h = far_have h

    never_other : (b : Bool) (k j : ℕ) → (if b then ask.Conflict k else ask.Postponed j) ≡ ask.Have → ⊥
    never_other true k j h = held_have k h
    never_other false k j h = waits_have j h

    never : (o : Option ℕ) → ask_among s.locks n (joined (held_by s.locks slot n) m) o ≡ ask.Have → ⊥
    never None h = never_home (is_covered (held_by_member s.locks n) (joined (held_by s.locks slot n) m)) h
    never (Some k) h = never_other (nat_lt k (slots s.locks)) k (waited_for s.locks k) h

    by : (b : Bool) → is_covered (held_by s.locks slot n) m ≡ b → (if b then ask.Have else ask_among s.locks n (joined (held_by s.locks slot n) m) found) ≡ ask.Have → is_covered (held_by s.locks slot n) m ≡ true
    by true t h = t
    by false f h = absurd (never found h)

-- what the owner was told
told_comes : Facts → (held : Claims) (s : MarksState) (slot : ℕ) (n : Name) (m : Mode) (place : ℕ) → Knows held s → IsBook s.locks → slot < slots s.locks → joined (held_by s.locks slot n) m ≡ m → (a : Ask) → ask_of s.locks slot n m ≡ a
    → Comes held s (entered_as s slot n m place a) slot n m × Keeps s (entered_as s slot n m place a)
told_comes facts held s slot n m place knows book lt same ask.Have e = have_comes facts held s slot n m place book lt same (is_have s slot n m e)
told_comes facts held s slot n m place knows book lt same (ask.Conflict by) e = (inl (λ o c. refl), record { member = refl; entries = refl; book = book })
told_comes facts held s slot n m place knows book lt same (ask.Postponed by) e = (inl (λ o c. refl), record { member = refl; entries = refl; book = book })
told_comes facts held s slot n m place knows book lt same ask.Local e = entered_comes facts held s slot n m place book lt same
    (λ agent q ne. subst (λ z. is_in_way z m ≡ false) (sym (knows q (number n))) (subst (λ z. is_in_way (claim_in s.locks q (number n)) z ≡ false) same (facts.home s.locks slot n m lt e q ne)))
told_comes facts held s slot n m place knows book lt same (ask.Facility more) e = entered_comes facts held s slot n m place book lt same
    (λ agent q ne. subst (λ z. is_in_way z m ≡ false) (sym (knows q (number n))) (subst (λ z. is_in_way (claim_in s.locks q (number n)) z ≡ false) same (facts.far s.locks slot n m more lt e q ne)))

pub agent_below : (s : MarksState) (slot : ℕ) → is_agent s slot ≡ true → slot < slots s.locks
agent_below s slot a = let p = and_parts (nat_lt 0 slot) (nat_le slot (agents_of s)) a in let le = leb-true slot (agents_of s) p.1 in omega (arith, le)

agent_joined : (s : MarksState) (slot : ℕ) (n : Name) (m : Mode) → is_agent s slot ≡ true → is_joined (mode_held s (owner.Slot slot) n) m ≡ true → joined (held_by s.locks slot n) m ≡ m
agent_joined s slot n m a j = joined_mode (held_by s.locks slot n) m (subst (λ (z : Bool). is_joined (if z then held_by s.locks slot n else None) m ≡ true) (and_parts (nat_lt 0 slot) (nat_le slot (agents_of s)) a).1 j)

agent_comes : Facts → (held : Claims) (s : MarksState) (slot : ℕ) (n : Name) (m : Mode) (place : ℕ) → Knows held s → IsBook s.locks → SlotClaims s slot n m → Comes held s (after_enter s slot n m place) slot n m × Keeps s (after_enter s slot n m place)
agent_comes facts held s slot n m place knows book may = by (may_claim s slot n) refl
  where
    by : (b : Bool) → may_claim s slot n ≡ b → Comes held s (if b then entered_as s slot n m place (ask_of s.locks slot n m) else s) slot n m × Keeps s (if b then entered_as s slot n m place (ask_of s.locks slot n m) else s)
    by true t =
        let agent = (and_parts (is_agent s slot) (is_forward (slot_tran s slot).stage && is_for_agents n) t).0 in
        told_comes facts held s slot n m place knows book (agent_below s slot agent) (agent_joined s slot n m agent may.joined) (ask_of s.locks slot n m) refl
    by false f = (inl (λ o c. refl), keeps_itself s book)

-- ---- a page
page_comes : Facts → (held : Claims) (s t : MarksState) (p : PageId) → IsBook s.locks → PageEntered (may_enter_page s p) s p t → Comes held s t 0 (name.Page p) X × Keeps s t
page_comes facts held s t p book enters = by (may_enter_page s p) enters
  where
    no_agent : is_own (name.Page p) ≡ false → ⊥
    no_agent e = yes_way e

    by : (b : Bool) → PageEntered b s p t → Comes held s t 0 (name.Page p) X × Keeps s t
    by true h =
        let e = facts.page s.locks t.locks (name.Page p) X book h.0 in (
          inr ((λ o c. e.own o c ∙ ap (λ z. if (o == 0) && (c == number (name.Page p)) then Some z else claim_in s.locks o c) (joined_x (held_by s.locks 0 (name.Page p)))), (λ agent q ne. absurd (no_agent agent))),
          record { member = ap (λ (z : MarksState). z.member) h.1; entries = ap (λ z. z.entries) h.0.rest; book = e.stands },
        )
    by false h = (inl (λ o c. ap (λ (z : MarksState). claim_in z.locks o c) h), keeps_as s t s h (keeps_itself s book))

-- ---- the move
may_enter : (f : Held) (held : Claims) (s : MarksState) (owner : ℕ) (n : Name) (m : Mode) → IsUp f s → (is_own n ≡ true → owner ≡ 0) → wanted (held s.member owner (number n)) m ≡ m → MayEnter f.lists held s.member owner n m
may_enter f held s owner n m up owners joined = record { member = up.member; among = up.among; stands = inl up.up; owners = owners; joined = joined }

enters_if : (held left : Claims) (s t : MarksState) (owner : ℕ) (n : Name) (m : Mode) → Knows held s → Leads held left s t → Comes held s t owner n m → (b : Bool) × EntersIf held left s.member owner n m b
enters_if held left s t owner n m knows leads (inl same) = (false, ((λ e. absurd (no_way e)), enters_none held left s t owner n m knows leads same))
enters_if held left s t owner n m knows leads (inr has) = (true, ((λ e. has.1), enters_claim held left s t owner n m knows leads has.0))

obtain_goes_as : Facts → (w : World) (f g : Held) (held left : Claims) (s t : MarksState) (owner : ℕ) (n : Name) (m : Mode) → Tied w f.locks f.lists held → IsUp f s → Knows held s → Leads held left s t → (is_own n ≡ true → owner ≡ 0) → wanted (held s.member owner (number n)) m ≡ m
    → Comes held s t owner n m → Keeps s t → IsLowest (keeps_out f.locks s.member n m) None → IsLowest (stands (entry_for f.locks n) s.member m []) None → IsGranted f.locks s.member n m g.locks → g ≡ record f { locks = g.locks } → Goes w f g left s t
obtain_goes_as facts w f g held left s t owner n m tied up knows leads owners joined comes keeps kept stood is same =
    let e = enters_if held left s t owner n m knows leads comes in
    record {
      moves = Obtain s.member owner (number n) m e.0 ∷ [];
      own = (refl, tt);
      moved = subst (λ (z : ListsState). Moved w (Obtain s.member owner (number n) m e.0 ∷ []) f.locks g.locks z left) (sym (ap (λ (z : Held). z.lists) same)) (facts.obtain w f.locks g.locks f.lists held left s.member owner n m e.0 tied (may_enter f held s owner n m up owners joined) e.1 kept stood is);
      same = keeps.member;
      stands = still_up f g s t up keeps (ap (λ (z : Held). z.lists.members) same) (ap (λ (z : Held). z.lists.statuses) same) is.same;
    }

grant_goes_as : Facts → (w : World) (f g : Held) (held left : Claims) (s t : MarksState) (owner : ℕ) (n : Name) (m : Mode) → Tied w f.locks f.lists held → IsUp f s → Knows held s → Leads held left s t → (is_own n ≡ true → owner ≡ 0) → wanted (held s.member owner (number n)) m ≡ m → owner ≤ 16
    → Comes held s t owner n m → Keeps s t → IsLowest (keeps_out f.locks s.member n m) None → IsLowest (stands (entry_for f.locks n) s.member m (clean_answers f.lists.cells s.member owner n m)) None → IsGranted f.locks s.member n m g.locks
    → AreCells g.lists.cells (emptied f.lists.cells (slot_of s.member owner)) → g ≡ record f { locks = g.locks; lists = record f.lists { cells = g.lists.cells } } → Goes w f g left s t
grant_goes_as facts w f g held left s t owner n m tied up knows leads owners joined few comes keeps kept stood is are same =
    let e = enters_if held left s t owner n m knows leads comes in
    record {
      moves = Grant s.member owner (number n) m e.0 ∷ [];
      own = (refl, tt);
      moved = facts.grant w f.locks g.locks f.lists g.lists held left s.member owner n m e.0 tied (may_enter f held s owner n m up owners joined) e.1 few kept stood is are (ap (λ (z : Held). z.lists) same);
      same = keeps.member;
      stands = still_up f g s t up keeps (ap (λ (z : Held). z.lists.members) same) (ap (λ (z : Held). z.lists.statuses) same) is.same;
    }

-- ---- whose need it is
agent_wants : Facts → (held : Claims) (s : MarksState) (slot : ℕ) (n : Name) (m : Mode) → Knows held s → IsBook s.locks → is_agent s slot ≡ true → is_joined (mode_held s (owner.Slot slot) n) m ≡ true → wanted (held s.member slot (number n)) m ≡ m
agent_wants facts held s slot n m knows book agent j =
    ap (λ z. wanted z m) (knows slot (number n) ∙ facts.slot s.locks slot n book (agent_below s slot agent)) ∙ wanted_mode (held_by s.locks slot n) m ∙ agent_joined s slot n m agent j

page_wants : (held : Claims) (s : MarksState) (n : Name) → wanted (held s.member 0 (number n)) X ≡ X
page_wants held s n = wanted_mode (held s.member 0 (number n)) X ∙ joined_x (held s.member 0 (number n))

-- ---- granted
granted_by : Facts → (w : World) (f g : Held) (held left : Claims) (s t : MarksState) (o : Owner) (n : Name) (m : Mode) (version place : ℕ) → Tied w f.locks f.lists held → IsUp f s → Knows held s → IsAgent s o → MayClaim s o n m
    → Obtains f.locks s.member n m (obtained.Granted version) g.locks → g ≡ record f { locks = g.locks } → SettlesEnters (is_for_agents n) s o n m place t → Leads held left s t → Goes w f g left s t
granted_by facts w f g held left s t (owner.Slot slot) (name.Space table) m version place tied up knows agent may gives same enters leads =
    let c = agent_comes facts held s slot (name.Space table) m place knows up.book may in
    obtain_goes_as facts w f g held left s t slot (name.Space table) m tied up knows leads (λ own. absurd (not_own (name.Space table) refl own)) (agent_wants facts held s slot (name.Space table) m knows up.book agent may.joined)
    (subst (λ z. Comes held s z slot (name.Space table) m) (sym enters) c.0) (keeps_as s t (after_enter s slot (name.Space table) m place) enters c.1) gives.0 gives.2 gives.4 same
granted_by facts w f g held left s t (owner.Rollback id) (name.Space table) m version place tied up knows agent may gives same enters leads = absurd may
granted_by facts w f g held left s t (owner.Slot slot) (name.Row table key) m version place tied up knows agent may gives same enters leads =
    let c = agent_comes facts held s slot (name.Row table key) m place knows up.book may in
    obtain_goes_as facts w f g held left s t slot (name.Row table key) m tied up knows leads (λ own. absurd (not_own (name.Row table key) refl own)) (agent_wants facts held s slot (name.Row table key) m knows up.book agent may.joined)
    (subst (λ z. Comes held s z slot (name.Row table key) m) (sym enters) c.0) (keeps_as s t (after_enter s slot (name.Row table key) m place) enters c.1) gives.0 gives.2 gives.4 same
granted_by facts w f g held left s t (owner.Rollback id) (name.Row table key) m version place tied up knows agent may gives same enters leads = absurd may
granted_by facts w f g held left s t o (name.Set set) m version place tied up knows agent may gives same enters leads = absurd may
granted_by facts w f g held left s t o (name.Page p) m version place tied up knows agent may gives same enters leads =
    let c = page_comes facts held s t p up.book enters in
    let x = is_x_mode m may.in_x in
    obtain_goes_as facts w f g held left s t 0 (name.Page p) m tied up knows leads (λ own. refl) (subst (λ z. wanted (held s.member 0 (number (name.Page p))) z ≡ z) (sym x) (page_wants held s (name.Page p)))
    (subst (λ z. Comes held s t 0 (name.Page p) z) (sym x) c.0) c.1 gives.0 gives.2 gives.4 same

answered_by : Facts → (w : World) (f g : Held) (held left : Claims) (s t : MarksState) (o : Owner) (n : Name) (m : Mode) (version place : ℕ) → Tied w f.locks f.lists held → IsUp f s → Knows held s → IsAgent s o → MayClaim s o n m → cell_slot o n ≤ 16
    → Grants f.locks s.member n m (clean_answers f.lists.cells s.member (cell_slot o n) n m) (grant.Granted version) g.locks → AreCells g.lists.cells (emptied f.lists.cells (slot_of s.member (cell_slot o n)))
    → g ≡ record f { locks = g.locks; lists = record f.lists { cells = g.lists.cells } } → SettlesEnters (is_for_agents n) s o n m place t → Leads held left s t → Goes w f g left s t
answered_by facts w f g held left s t (owner.Slot slot) (name.Space table) m version place tied up knows agent may few gives are same enters leads =
    let c = agent_comes facts held s slot (name.Space table) m place knows up.book may in
    grant_goes_as facts w f g held left s t slot (name.Space table) m tied up knows leads (λ own. absurd (not_own (name.Space table) refl own)) (agent_wants facts held s slot (name.Space table) m knows up.book agent may.joined) few
    (subst (λ z. Comes held s z slot (name.Space table) m) (sym enters) c.0) (keeps_as s t (after_enter s slot (name.Space table) m place) enters c.1) gives.0 gives.2 gives.4 are same
answered_by facts w f g held left s t (owner.Rollback id) (name.Space table) m version place tied up knows agent may few gives are same enters leads = absurd may
answered_by facts w f g held left s t (owner.Slot slot) (name.Row table key) m version place tied up knows agent may few gives are same enters leads =
    let c = agent_comes facts held s slot (name.Row table key) m place knows up.book may in
    grant_goes_as facts w f g held left s t slot (name.Row table key) m tied up knows leads (λ own. absurd (not_own (name.Row table key) refl own)) (agent_wants facts held s slot (name.Row table key) m knows up.book agent may.joined) few
    (subst (λ z. Comes held s z slot (name.Row table key) m) (sym enters) c.0) (keeps_as s t (after_enter s slot (name.Row table key) m place) enters c.1) gives.0 gives.2 gives.4 are same
answered_by facts w f g held left s t (owner.Rollback id) (name.Row table key) m version place tied up knows agent may few gives are same enters leads = absurd may
answered_by facts w f g held left s t o (name.Set set) m version place tied up knows agent may few gives are same enters leads = absurd may
answered_by facts w f g held left s t (owner.Slot slot) (name.Page p) m version place tied up knows agent may few gives are same enters leads =
    let c = page_comes facts held s t p up.book enters in
    let x = is_x_mode m may.in_x in
    grant_goes_as facts w f g held left s t 0 (name.Page p) m tied up knows leads (λ own. refl) (subst (λ z. wanted (held s.member 0 (number (name.Page p))) z ≡ z) (sym x) (page_wants held s (name.Page p))) few
    (subst (λ z. Comes held s t 0 (name.Page p) z) (sym x) c.0) c.1 gives.0 gives.2 gives.4 are same
answered_by facts w f g held left s t (owner.Rollback id) (name.Page p) m version place tied up knows agent may few gives are same enters leads =
    let c = page_comes facts held s t p up.book enters in
    let x = is_x_mode m may.in_x in
    grant_goes_as facts w f g held left s t 0 (name.Page p) m tied up knows leads (λ own. refl) (subst (λ z. wanted (held s.member 0 (number (name.Page p))) z ≡ z) (sym x) (page_wants held s (name.Page p))) few
    (subst (λ z. Comes held s t 0 (name.Page p) z) (sym x) c.0) c.1 gives.0 gives.2 gives.4 are same

-- ---- not granted, and the cells are emptied
emptied_by : Facts → (w : World) (f g : Held) (held left : Claims) (s t : MarksState) (o : Owner) (n : Name) → Tied w f.locks f.lists held → IsUp f s → Knows held s → Leads held left s t → cell_slot o n ≤ 16
    → g.locks ≡ f.locks → AreCells g.lists.cells (emptied f.lists.cells (slot_of s.member (cell_slot o n))) → g ≡ record f { locks = g.locks; lists = record f.lists { cells = g.lists.cells } } → SameLocks s t → Goes w f g left s t
emptied_by facts w f g held left s t o n tied up knows leads few locks are same e =
    let lists : g.lists ≡ record f.lists { cells = g.lists.cells } = ap (λ (z : Held). z.lists) same in
    let moves = Refuse s.member (cell_slot o n) ∷ [] in
    let keeps = same_keeps s t up.book e in
    record {
      moves = moves;
      own = (refl, tt);
      moved = subst (λ (z : Locks). Moved w moves f.locks z g.lists left) (sym locks)
          (relabelled facts.stay w moves f.locks f.locks g.lists g.lists held left (facts.refuse w f.locks f.lists g.lists held s.member (cell_slot o n) tied up.member few are lists) refl refl refl (stay_claims held left s t knows leads (same_claims s t e)));
      same = e.member;
      stands = still_up f g s t up keeps (ap (λ (z : ListsState). z.members) lists) (ap (λ (z : ListsState). z.statuses) lists) (ap (λ (z : Locks). length z.entries) locks);
    }

-- ---- all replies
obtains_by : Facts → (w : World) (f g : Held) (held left : Claims) (s t : MarksState) (o : Owner) (n : Name) (m : Mode) (answer : Reply) (place : ℕ) → Tied w f.locks f.lists held → IsUp f s → Knows held s → IsAgent s o → MayClaim s o n m
    → ObtainsLock f s.member n m answer g → SettlesClaims s o n m answer place t → Leads held left s t → Goes w f g left s t
obtains_by facts w f g held left s t o n m (reply.Granted version) place tied up knows agent may gives settles leads = granted_by facts w f g held left s t o n m version place tied up knows agent may gives.0 gives.1 settles leads
obtains_by facts w f g held left s t o n m (reply.Retained by) place tied up knows agent may gives settles leads = refused facts w f g held left s t tied up knows leads (unchanged f g gives.1 gives.0.1) (as_trans s t (after_offer s.trans o (refusal.Retained n by) place) settles)
obtains_by facts w f g held left s t o n m (reply.RecordsFull limit) place tied up knows agent may gives settles leads = refused facts w f g held left s t tied up knows leads (unchanged f g gives.1 gives.0.3) (as_trans s t (after_offer s.trans o (refusal.RecordsFull limit) place) settles)
obtains_by facts w f g held left s t o n m (reply.Contention share exclusive version) place tied up knows agent may gives settles leads = refused facts w f g held left s t tied up knows leads (unchanged f g gives.1 gives.0.6) (as_same s t settles)
obtains_by facts w f g held left s t o n m (reply.Moved version) place tied up knows agent may gives settles leads = absurd gives.0
obtains_by facts w f g held left s t o n m (reply.RetainedLock name mode) place tied up knows agent may gives settles leads = absurd gives.0
obtains_by facts w f g held left s t o n m reply.Done place tied up knows agent may gives settles leads = absurd gives.0
obtains_by facts w f g held left s t o n m reply.Nothing place tied up knows agent may gives settles leads = absurd gives.0
obtains_by facts w f g held left s t o n m reply.Found place tied up knows agent may gives settles leads = absurd gives.0
obtains_by facts w f g held left s t o n m reply.NoData place tied up knows agent may gives settles leads = absurd gives.0
obtains_by facts w f g held left s t o n m reply.CacheFull place tied up knows agent may gives settles leads = absurd gives.0
obtains_by facts w f g held left s t o n m reply.Lost place tied up knows agent may gives settles leads = absurd gives.0
obtains_by facts w f g held left s t o n m reply.Written place tied up knows agent may gives settles leads = absurd gives.0
obtains_by facts w f g held left s t o n m reply.Valid place tied up knows agent may gives settles leads = absurd gives.0
obtains_by facts w f g held left s t o n m reply.Invalid place tied up knows agent may gives settles leads = absurd gives.0
obtains_by facts w f g held left s t o n m reply.Taken place tied up knows agent may gives settles leads = absurd gives.0
obtains_by facts w f g held left s t o n m reply.NotChanged place tied up knows agent may gives settles leads = absurd gives.0
obtains_by facts w f g held left s t o n m (reply.Locked by) place tied up knows agent may gives settles leads = absurd gives.0
obtains_by facts w f g held left s t o n m reply.NotHeld place tied up knows agent may gives settles leads = absurd gives.0
obtains_by facts w f g held left s t o n m (reply.ChangedPage page) place tied up knows agent may gives settles leads = absurd gives.0
obtains_by facts w f g held left s t o n m (reply.Query query) place tied up knows agent may gives settles leads = absurd gives.0
obtains_by facts w f g held left s t o n m reply.Gone place tied up knows agent may gives settles leads = absurd gives.0
obtains_by facts w f g held left s t o n m reply.Cells place tied up knows agent may gives settles leads = absurd gives.0
obtains_by facts w f g held left s t o n m reply.Waits place tied up knows agent may gives settles leads = absurd gives.0
obtains_by facts w f g held left s t o n m reply.Raised place tied up knows agent may gives settles leads = absurd gives.0
obtains_by facts w f g held left s t o n m reply.NotRaised place tied up knows agent may gives settles leads = absurd gives.0
obtains_by facts w f g held left s t o n m (reply.Status status) place tied up knows agent may gives settles leads = absurd gives.0
obtains_by facts w f g held left s t o n m reply.NotLost place tied up knows agent may gives settles leads = absurd gives.0
obtains_by facts w f g held left s t o n m (reply.ClaimTaken by) place tied up knows agent may gives settles leads = absurd gives.0
obtains_by facts w f g held left s t o n m reply.Claimed place tied up knows agent may gives settles leads = absurd gives.0
obtains_by facts w f g held left s t o n m (reply.Drawn lrsn) place tied up knows agent may gives settles leads = absurd gives.0
obtains_by facts w f g held left s t o n m (reply.Stale index) place tied up knows agent may gives settles leads = absurd gives.0
obtains_by facts w f g held left s t o n m (reply.LrsnEnd at) place tied up knows agent may gives settles leads = absurd gives.0

pub obtain_goes : Facts → ObtainGoes
obtain_goes facts w f g held left s t o n m answer place tied up knows agent may gives settles leads = obtains_by facts w f g held left s t o n m answer place tied up knows agent may gives settles leads

grants_by : Facts → (w : World) (f g : Held) (held left : Claims) (s t : MarksState) (o : Owner) (n : Name) (m : Mode) (answer : Reply) (place : ℕ) → Tied w f.locks f.lists held → IsUp f s → Knows held s → IsAgent s o → MayClaim s o n m → cell_slot o n ≤ 16
    → GrantsLock f s.member (cell_slot o n) n m answer g → SettlesClaims s o n m answer place t → Leads held left s t → Goes w f g left s t
grants_by facts w f g held left s t o n m (reply.Granted version) place tied up knows agent may few gives settles leads = answered_by facts w f g held left s t o n m version place tied up knows agent may few gives.0 gives.1 gives.2 settles leads
grants_by facts w f g held left s t o n m (reply.Retained by) place tied up knows agent may few gives settles leads = emptied_by facts w f g held left s t o n tied up knows leads few gives.0.1 gives.1 gives.2 (as_trans s t (after_offer s.trans o (refusal.Retained n by) place) settles)
grants_by facts w f g held left s t o n m (reply.RecordsFull limit) place tied up knows agent may few gives settles leads = emptied_by facts w f g held left s t o n tied up knows leads few gives.0.3 gives.1 gives.2 (as_trans s t (after_offer s.trans o (refusal.RecordsFull limit) place) settles)
grants_by facts w f g held left s t o n m (reply.Contention share exclusive version) place tied up knows agent may few gives settles leads = absurd gives.0
grants_by facts w f g held left s t o n m (reply.Moved version) place tied up knows agent may few gives settles leads = emptied_by facts w f g held left s t o n tied up knows leads few gives.0.4 gives.1 gives.2 (as_same s t settles)
grants_by facts w f g held left s t o n m (reply.RetainedLock name mode) place tied up knows agent may few gives settles leads = absurd gives.0
grants_by facts w f g held left s t o n m reply.Done place tied up knows agent may few gives settles leads = absurd gives.0
grants_by facts w f g held left s t o n m reply.Nothing place tied up knows agent may few gives settles leads = absurd gives.0
grants_by facts w f g held left s t o n m reply.Found place tied up knows agent may few gives settles leads = absurd gives.0
grants_by facts w f g held left s t o n m reply.NoData place tied up knows agent may few gives settles leads = absurd gives.0
grants_by facts w f g held left s t o n m reply.CacheFull place tied up knows agent may few gives settles leads = absurd gives.0
grants_by facts w f g held left s t o n m reply.Lost place tied up knows agent may few gives settles leads = absurd gives.0
grants_by facts w f g held left s t o n m reply.Written place tied up knows agent may few gives settles leads = absurd gives.0
grants_by facts w f g held left s t o n m reply.Valid place tied up knows agent may few gives settles leads = absurd gives.0
grants_by facts w f g held left s t o n m reply.Invalid place tied up knows agent may few gives settles leads = absurd gives.0
grants_by facts w f g held left s t o n m reply.Taken place tied up knows agent may few gives settles leads = absurd gives.0
grants_by facts w f g held left s t o n m reply.NotChanged place tied up knows agent may few gives settles leads = absurd gives.0
grants_by facts w f g held left s t o n m (reply.Locked by) place tied up knows agent may few gives settles leads = absurd gives.0
grants_by facts w f g held left s t o n m reply.NotHeld place tied up knows agent may few gives settles leads = absurd gives.0
grants_by facts w f g held left s t o n m (reply.ChangedPage page) place tied up knows agent may few gives settles leads = absurd gives.0
grants_by facts w f g held left s t o n m (reply.Query query) place tied up knows agent may few gives settles leads = absurd gives.0
grants_by facts w f g held left s t o n m reply.Gone place tied up knows agent may few gives settles leads = absurd gives.0
grants_by facts w f g held left s t o n m reply.Cells place tied up knows agent may few gives settles leads = absurd gives.0
grants_by facts w f g held left s t o n m reply.Waits place tied up knows agent may few gives settles leads = absurd gives.0
grants_by facts w f g held left s t o n m reply.Raised place tied up knows agent may few gives settles leads = absurd gives.0
grants_by facts w f g held left s t o n m reply.NotRaised place tied up knows agent may few gives settles leads = absurd gives.0
grants_by facts w f g held left s t o n m (reply.Status status) place tied up knows agent may few gives settles leads = absurd gives.0
grants_by facts w f g held left s t o n m reply.NotLost place tied up knows agent may few gives settles leads = absurd gives.0
grants_by facts w f g held left s t o n m (reply.ClaimTaken by) place tied up knows agent may few gives settles leads = absurd gives.0
grants_by facts w f g held left s t o n m reply.Claimed place tied up knows agent may few gives settles leads = absurd gives.0
grants_by facts w f g held left s t o n m (reply.Drawn lrsn) place tied up knows agent may few gives settles leads = absurd gives.0
grants_by facts w f g held left s t o n m (reply.Stale index) place tied up knows agent may few gives settles leads = absurd gives.0
grants_by facts w f g held left s t o n m (reply.LrsnEnd at) place tied up knows agent may few gives settles leads = absurd gives.0

pub grant_goes : Facts → GrantGoes
grant_goes facts w f g held left s t o n m answer place tied up knows agent may few gives settles leads = grants_by facts w f g held left s t o n m answer place tied up knows agent may few gives settles leads
