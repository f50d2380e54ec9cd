-- A lock that is taken: whatever an owner had, it still has.
use Rattle.std.proofs.Common.{◌≡◌, ℕ, ◌<◌, refl, sym, ap, subst, arith, Bool, true, false, Option, Some, None}
use Rattle.std.specs.Prelude.{◌==◌, ◌&&◌, nat_le, nat_lt, if◌then◌else◌}
use Rattle.std.proofs.lemmas.Bool.{and_parts, eqb-true, leb-true}
use Rattle.ds_base.specs.declared.names.PageId.{PageId}
use Rattle.ds_model.specs.declared.fate.Refusal.{Refusal}
use Rattle.ds_model.specs.declared.fate.Refusal.TheVariants as refusal
use Rattle.ds_model.specs.declared.lock.Name.{Name}
use Rattle.ds_model.specs.declared.lock.Name.TheVariants as name
use Rattle.lock_names.specs.declared.mode.Mode.{Mode}
use Rattle.lock_names.specs.declared.mode.Mode.TheVariants.{X}
use Rattle.lock_names.specs.Modes.{join_of}
use Rattle.lock_manager.specs.declared.claim.Ask.{Ask}
use Rattle.lock_manager.specs.declared.claim.Ask.TheVariants as ask
use Rattle.lock_manager.specs.Claims.{joined}
use Rattle.lock_manager.specs.Managers.{Book, ask_of, given, held_by, slots}
use Rattle.facility.specs.declared.command.Reply.{Reply}
use Rattle.facility.specs.declared.command.Reply.TheVariants as reply
use Rattle.member_trans.specs.declared.fate.Owner.{Owner}
use Rattle.member_trans.specs.declared.fate.Owner.TheVariants as owner
use Rattle.member_trans.specs.Trans.{after_offer, is_forward}
use Rattle.member_marks.specs.State.{MarksState, agents_of, slot_id, slot_tran, with_locks}
use Rattle.member_marks.specs.Claims.{PageEntered, entered, entered_as, has_spare, is_agent, is_for_agents, may_claim, may_enter_page, offered, offered_memory}
use Rattle.member_marks.specs.Local.{after_claim, entered_at_home, given_with, tried_as}
use Rattle.member_effects.specs.Claims.{Claims, Enters, EntersPage, agent_entered, refused_after}
use Rattle.marks_law.proofs.Staying.{stay_itself, stay_same}
use Rattle.lock_protocol.specs.Machine.{Covers}
use Rattle.lock_world.specs.Books.{GivenEnters, HasEntered, IsBook, PageEnters, SlotHas}
use Rattle.lock_world.specs.Numbers.{number}
use Rattle.lock_world.specs.Views.{claim_in}
use Rattle.strict_locking.specs.Keeping.{KeepsAll}
use Rattle.strict_locking.proofs.Keeping.{CoversStay, all_as, all_if, all_itself, all_trans, keeps_all}

-- what the crates below say
pub record Facts : Type 0 where
  pub slot : SlotHas
  pub given : GivenEnters
  pub page : PageEnters

-- ---- modes
joined_covers : (c m x : Mode) → join_of c x ≡ c → join_of (join_of c m) x ≡ join_of c m
unfolding join_of
joined_covers c m x h = grind (arith, h)

covers_more : (held : Option Mode) (m x : Mode) → Covers held x → Covers (Some (joined held m)) x
covers_more None m x h = absurd h
covers_more (Some c) m x h = joined_covers c m x h

-- ---- a claim is entered
entered_covers : Facts → (b after : Book) (own : ℕ) (n : Name) (m : Mode) → IsBook b → own < slots b → HasEntered b after own n (joined (held_by b own n) m) → CoversStay b after
entered_covers facts b after own n m book lt has o c x h = subst (λ z. Covers z x) (sym (has.own o c)) (by ((o == own) && (c == number n)) refl)
  where
    here : o ≡ own → c ≡ number n → Covers (held_by b own n) x
    here a e = subst (λ z. Covers z x) (facts.slot b own n book lt) (subst (λ z. Covers (claim_in b own z) x) e (subst (λ z. Covers (claim_in b z c) x) a h))

    by : (t : Bool) → ((o == own) && (c == number n)) ≡ t → Covers (if t then Some (joined (held_by b own n) m) else claim_in b o c) x
    by true e = let p = and_parts (o == own) (c == number n) e in covers_more (held_by b own n) m x (here (eqb-true o own p.0) (eqb-true c (number n) p.1))
    by false e = h

pub agent_below : (s : MarksState) (slot : ℕ) → is_agent s slot ≡ true → slot < slots s.locks
agent_below s slot a = let p = and_parts (nat_lt 0 slot) (nat_le slot (agents_of s)) a in let le = leb-true slot (agents_of s) p.1 in omega (arith, le)

claims_agent : (s : MarksState) (slot : ℕ) (n : Name) → may_claim s slot n ≡ true → slot < slots s.locks
claims_agent s slot n may = agent_below s slot (and_parts (is_agent s slot) (is_forward (slot_tran s slot).stage && is_for_agents n) may).0

all_given : Facts → (s : MarksState) (slot : ℕ) (n : Name) (m : Mode) → IsBook s.locks → slot < slots s.locks → KeepsAll s (with_locks s (given s.locks slot n m))
all_given facts s slot n m book lt =
    let has = facts.given s.locks slot n m book lt in
    keeps_all s (with_locks s (given s.locks slot n m)) (record { book = has.stands; agents = refl; trans = stay_itself s.trans; covers = entered_covers facts s.locks (given s.locks slot n m) slot n m book lt has })

pub all_offered : (s : MarksState) (o : Owner) (r : Refusal) (place : ℕ) → IsBook s.locks → KeepsAll s (offered s o r place)
all_offered s o r place book = all_trans s (after_offer s.trans o r place) book (stay_same s.trans (after_offer s.trans o r place) refl refl)

-- ---- by the reply
all_entered : Facts → (s : MarksState) (slot : ℕ) (n : Name) (m : Mode) (place : ℕ) → IsBook s.locks → slot < slots s.locks → KeepsAll s (entered s slot n m place)
all_entered facts s slot n m place book lt = all_if s (with_locks s (given s.locks slot n m)) (offered_memory s slot place) (has_spare s) (λ e. all_given facts s slot n m book lt) (λ e. all_offered s (owner.Slot slot) refusal.Memory place book)

entered_by : Facts → (s : MarksState) (slot : ℕ) (n : Name) (m : Mode) (place : ℕ) (a : Ask) → IsBook s.locks → slot < slots s.locks → KeepsAll s (entered_as s slot n m place a)
entered_by facts s slot n m place ask.Have book lt = all_entered facts s slot n m place book lt
entered_by facts s slot n m place (ask.Conflict by) book lt = all_offered s (owner.Slot slot) (refusal.Held n (slot_id s by)) place book
entered_by facts s slot n m place (ask.Postponed by) book lt = all_offered s (owner.Slot slot) (refusal.Retained n by) place book
entered_by facts s slot n m place ask.Local book lt = all_entered facts s slot n m place book lt
entered_by facts s slot n m place (ask.Facility more) book lt = all_entered facts s slot n m place book lt

agent_keeps : Facts → (s : MarksState) (o : Owner) (n : Name) (m : Mode) (place : ℕ) → IsBook s.locks → KeepsAll s (agent_entered s o n m place)
agent_keeps facts s (owner.Slot slot) n m place book = all_if s (entered_as s slot n m place (ask_of s.locks slot n m)) s (may_claim s slot n)
    (λ e. entered_by facts s slot n m place (ask_of s.locks slot n m) book (claims_agent s slot n e)) (λ e. all_itself s book)
agent_keeps facts s (owner.Rollback id) n m place book = all_itself s book

page_keeps : Facts → (s t : MarksState) (p : PageId) (b : Bool) → IsBook s.locks → PageEntered b s p t → KeepsAll s t
page_keeps facts s t p true book e =
    let has = facts.page s.locks t.locks (name.Page p) X book e.0 in
    all_as s t (with_locks s t.locks) e.1 (keeps_all s (with_locks s t.locks) (record {
      book = has.stands;
      agents = ap (λ (z : Book). z.agents) e.0.rest;
      trans = stay_itself s.trans;
      covers = entered_covers facts s.locks t.locks 0 (name.Page p) X book (omega arith) has;
    }))
page_keeps facts s t p false book e = all_as s t s e (all_itself s book)

enters_page : Facts → (s t : MarksState) (n : Name) → IsBook s.locks → EntersPage s n t → KeepsAll s t
enters_page facts s t (name.Space table) book e = all_as s t s e (all_itself s book)
enters_page facts s t (name.Row table k) book e = all_as s t s e (all_itself s book)
enters_page facts s t (name.Page p) book e = page_keeps facts s t p (may_enter_page s p) book e
enters_page facts s t (name.Set k) book e = all_as s t s e (all_itself s book)

enters : Facts → (s t : MarksState) (b : Bool) (o : Owner) (n : Name) (m : Mode) (place : ℕ) → IsBook s.locks → Enters b s o n m place t → KeepsAll s t
enters facts s t true o n m place book e = all_as s t (agent_entered s o n m place) e (agent_keeps facts s o n m place book)
enters facts s t false o n m place book e = enters_page facts s t n book e

refused : (s : MarksState) (o : Owner) (n : Name) (answer : Reply) (place : ℕ) → IsBook s.locks → KeepsAll s (refused_after s o n answer place)
refused s o n (reply.Granted version) place book = all_itself s book
refused s o n (reply.Retained by) place book = all_offered s o (refusal.Retained n by) place book
refused s o n (reply.RecordsFull limit) place book = all_offered s o (refusal.RecordsFull limit) place book
refused s o n (reply.Contention share exclusive version) place book = all_itself s book
refused s o n (reply.Moved version) place book = all_itself s book
refused s o n (reply.RetainedLock other mode) place book = all_itself s book
refused s o n reply.Done place book = all_itself s book
refused s o n reply.Nothing place book = all_itself s book
refused s o n reply.Found place book = all_itself s book
refused s o n reply.NoData place book = all_itself s book
refused s o n reply.CacheFull place book = all_itself s book
refused s o n reply.Lost place book = all_itself s book
refused s o n reply.Written place book = all_itself s book
refused s o n reply.Valid place book = all_itself s book
refused s o n reply.Invalid place book = all_itself s book
refused s o n reply.Taken place book = all_itself s book
refused s o n reply.NotChanged place book = all_itself s book
refused s o n (reply.Locked by) place book = all_itself s book
refused s o n reply.NotHeld place book = all_itself s book
refused s o n (reply.ChangedPage page) place book = all_itself s book
refused s o n (reply.Query query) place book = all_itself s book
refused s o n reply.Gone place book = all_itself s book
refused s o n reply.Cells place book = all_itself s book
refused s o n reply.Waits place book = all_itself s book
refused s o n reply.Raised place book = all_itself s book
refused s o n reply.NotRaised place book = all_itself s book
refused s o n (reply.Status status) place book = all_itself s book
refused s o n reply.NotLost place book = all_itself s book
refused s o n (reply.ClaimTaken by) place book = all_itself s book
refused s o n reply.Claimed place book = all_itself s book
refused s o n (reply.Drawn lrsn) place book = all_itself s book
refused s o n (reply.Stale index) place book = all_itself s book
refused s o n (reply.LrsnEnd at) place book = all_itself s book

pub all_claimed : Facts → (s t : MarksState) (o : Owner) (n : Name) (m : Mode) (answer : Reply) (place : ℕ) → IsBook s.locks → Claims s o n m answer place t → KeepsAll s t
all_claimed facts s t o n m (reply.Granted version) place book e = enters facts s t (is_for_agents n) o n m place book e
all_claimed facts s t o n m (reply.Retained by) place book e = all_as s t (refused_after s o n (reply.Retained by) place) e (refused s o n (reply.Retained by) place book)
all_claimed facts s t o n m (reply.RecordsFull limit) place book e = all_as s t (refused_after s o n (reply.RecordsFull limit) place) e (refused s o n (reply.RecordsFull limit) place book)
all_claimed facts s t o n m (reply.Contention share exclusive version) place book e = all_as s t (refused_after s o n (reply.Contention share exclusive version) place) e (refused s o n (reply.Contention share exclusive version) place book)
all_claimed facts s t o n m (reply.Moved version) place book e = all_as s t (refused_after s o n (reply.Moved version) place) e (refused s o n (reply.Moved version) place book)
all_claimed facts s t o n m (reply.RetainedLock other mode) place book e = all_as s t (refused_after s o n (reply.RetainedLock other mode) place) e (refused s o n (reply.RetainedLock other mode) place book)
all_claimed facts s t o n m reply.Done place book e = all_as s t (refused_after s o n reply.Done place) e (refused s o n reply.Done place book)
all_claimed facts s t o n m reply.Nothing place book e = all_as s t (refused_after s o n reply.Nothing place) e (refused s o n reply.Nothing place book)
all_claimed facts s t o n m reply.Found place book e = all_as s t (refused_after s o n reply.Found place) e (refused s o n reply.Found place book)
all_claimed facts s t o n m reply.NoData place book e = all_as s t (refused_after s o n reply.NoData place) e (refused s o n reply.NoData place book)
all_claimed facts s t o n m reply.CacheFull place book e = all_as s t (refused_after s o n reply.CacheFull place) e (refused s o n reply.CacheFull place book)
all_claimed facts s t o n m reply.Lost place book e = all_as s t (refused_after s o n reply.Lost place) e (refused s o n reply.Lost place book)
all_claimed facts s t o n m reply.Written place book e = all_as s t (refused_after s o n reply.Written place) e (refused s o n reply.Written place book)
all_claimed facts s t o n m reply.Valid place book e = all_as s t (refused_after s o n reply.Valid place) e (refused s o n reply.Valid place book)
all_claimed facts s t o n m reply.Invalid place book e = all_as s t (refused_after s o n reply.Invalid place) e (refused s o n reply.Invalid place book)
all_claimed facts s t o n m reply.Taken place book e = all_as s t (refused_after s o n reply.Taken place) e (refused s o n reply.Taken place book)
all_claimed facts s t o n m reply.NotChanged place book e = all_as s t (refused_after s o n reply.NotChanged place) e (refused s o n reply.NotChanged place book)
all_claimed facts s t o n m (reply.Locked by) place book e = all_as s t (refused_after s o n (reply.Locked by) place) e (refused s o n (reply.Locked by) place book)
all_claimed facts s t o n m reply.NotHeld place book e = all_as s t (refused_after s o n reply.NotHeld place) e (refused s o n reply.NotHeld place book)
all_claimed facts s t o n m (reply.ChangedPage page) place book e = all_as s t (refused_after s o n (reply.ChangedPage page) place) e (refused s o n (reply.ChangedPage page) place book)
all_claimed facts s t o n m (reply.Query query) place book e = all_as s t (refused_after s o n (reply.Query query) place) e (refused s o n (reply.Query query) place book)
all_claimed facts s t o n m reply.Gone place book e = all_as s t (refused_after s o n reply.Gone place) e (refused s o n reply.Gone place book)
all_claimed facts s t o n m reply.Cells place book e = all_as s t (refused_after s o n reply.Cells place) e (refused s o n reply.Cells place book)
all_claimed facts s t o n m reply.Waits place book e = all_as s t (refused_after s o n reply.Waits place) e (refused s o n reply.Waits place book)
all_claimed facts s t o n m reply.Raised place book e = all_as s t (refused_after s o n reply.Raised place) e (refused s o n reply.Raised place book)
all_claimed facts s t o n m reply.NotRaised place book e = all_as s t (refused_after s o n reply.NotRaised place) e (refused s o n reply.NotRaised place book)
all_claimed facts s t o n m (reply.Status status) place book e = all_as s t (refused_after s o n (reply.Status status) place) e (refused s o n (reply.Status status) place book)
all_claimed facts s t o n m reply.NotLost place book e = all_as s t (refused_after s o n reply.NotLost place) e (refused s o n reply.NotLost place book)
all_claimed facts s t o n m (reply.ClaimTaken by) place book e = all_as s t (refused_after s o n (reply.ClaimTaken by) place) e (refused s o n (reply.ClaimTaken by) place book)
all_claimed facts s t o n m reply.Claimed place book e = all_as s t (refused_after s o n reply.Claimed place) e (refused s o n reply.Claimed place book)
all_claimed facts s t o n m (reply.Drawn lrsn) place book e = all_as s t (refused_after s o n (reply.Drawn lrsn) place) e (refused s o n (reply.Drawn lrsn) place book)
all_claimed facts s t o n m (reply.Stale index) place book e = all_as s t (refused_after s o n (reply.Stale index) place) e (refused s o n (reply.Stale index) place book)
all_claimed facts s t o n m (reply.LrsnEnd at) place book e = all_as s t (refused_after s o n (reply.LrsnEnd at) place) e (refused s o n (reply.LrsnEnd at) place book)

-- ---- at home
all_home : Facts → (s : MarksState) (slot : ℕ) (n : Name) (m : Mode) (event : ℕ) (has_memory : Bool) (spare : ℕ) → IsBook s.locks → slot < slots s.locks → KeepsAll s (entered_at_home s slot n m event has_memory spare)
all_home facts s slot n m event has_memory spare book lt =
    all_if s (with_locks s (given_with s.locks spare slot n m)) (offered_memory (with_locks s (record s.locks { spare = spare })) slot event) has_memory (λ e. has) (λ e. wanting)
  where
    has : KeepsAll s (with_locks s (given_with s.locks spare slot n m))
    has =
        let new = facts.given s.locks slot n m book lt in
        keeps_all s (with_locks s (given_with s.locks spare slot n m)) (record {
          book = record { owners = new.stands.owners; few = new.stands.few; once = new.stands.once; apart = new.stands.apart };
          agents = refl;
          trans = stay_itself s.trans;
          covers = entered_covers facts s.locks (given s.locks slot n m) slot n m book lt new;
        })

    wanting : KeepsAll s (offered_memory (with_locks s (record s.locks { spare = spare })) slot event)
    wanting = keeps_all s (offered_memory (with_locks s (record s.locks { spare = spare })) slot event) (record {
      book = record { owners = book.owners; few = book.few; once = book.once; apart = book.apart };
      agents = refl;
      trans = stay_same s.trans (after_offer s.trans (owner.Slot slot) refusal.Memory event) refl refl;
      covers = λ o c x h. h;
    })

tried : Facts → (s : MarksState) (slot : ℕ) (n : Name) (m : Mode) (event : ℕ) (has_memory : Bool) (spare : ℕ) (a : Ask) → IsBook s.locks → slot < slots s.locks → KeepsAll s (tried_as s slot n m event has_memory spare a)
tried facts s slot n m event has_memory spare ask.Have book lt = all_itself s book
tried facts s slot n m event has_memory spare (ask.Conflict by) book lt = all_offered s (owner.Slot slot) (refusal.Held n (slot_id s by)) event book
tried facts s slot n m event has_memory spare (ask.Postponed by) book lt = all_offered s (owner.Slot slot) (refusal.Retained n by) event book
tried facts s slot n m event has_memory spare ask.Local book lt = all_home facts s slot n m event has_memory spare book lt
tried facts s slot n m event has_memory spare (ask.Facility more) book lt = all_itself s book

pub all_tried : Facts → (s : MarksState) (slot : ℕ) (n : Name) (m : Mode) (event : ℕ) (has_memory : Bool) (spare : ℕ) → IsBook s.locks → KeepsAll s (after_claim s slot n m event has_memory spare)
all_tried facts s slot n m event has_memory spare book = all_if s (tried_as s slot n m event has_memory spare (ask_of s.locks slot n m)) s (may_claim s slot n)
    (λ e. tried facts s slot n m event has_memory spare (ask_of s.locks slot n m) book (claims_agent s slot n e)) (λ e. all_itself s book)
