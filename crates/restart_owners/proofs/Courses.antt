-- Any part of an event of a restart, by its intent: what it leaves of the page lock that the restart has, and of what it knows of retained pages.
use Rattle.std.proofs.Common.{◌≡◌, ◌≢◌, ◌⊎◌, ℕ, ◌+◌, refl, sym, ◌∙◌, ap, subst, Bool, true, false, inl, inr, List, [], ◌∷◌, length, Option, Some, None, Result, Ok, Err}
use Rattle.std.specs.Prelude.{◌==◌, ◌&&◌, ◌||◌, ◌^◌, ◌-◌, not, if◌then◌else◌, is_none, is_some, slice_get}
use Rattle.std.proofs.lemmas.Bool.{and_from, and_parts, both_ways, cond-false, cond-true, eq-eqb, ne_eqb}
use Rattle.std.proofs.lemmas.Option.{none-some}
use Rattle.ds_base.specs.declared.names.PageId.{PageId}
use Rattle.ds_disk.specs.declared.disk.DiskError.{DiskError}
use Rattle.ds_disk.specs.declared.disk.DiskError.TheVariants.{Failed, NoMemory}
use Rattle.log_reader.specs.declared.calls.LogCall.{LogCall}
use Rattle.log_reader.specs.declared.calls.LogCall.TheVariants as call
use Rattle.log_reader.specs.declared.calls.LogReply.TheVariants as logged
use Rattle.restart_records.specs.Given.{ReaderState}
use Rattle.lock_names.specs.Given.{Name}
use Rattle.lock_names.specs.Given.name_variants as name
use Rattle.lock_names.specs.declared.mode.Mode.{Mode}
use Rattle.lock_names.specs.declared.mode.Mode.TheVariants.{X}
use Rattle.lock_structure.specs.Locks.{retained_in}
use Rattle.cache_structure.specs.Directory.{bit}
use Rattle.cache_structure.specs.Replies.{read_reply, write_reply}
use Rattle.facility.specs.declared.command.Command.{Command}
use Rattle.facility.specs.declared.command.Command.TheVariants as command
use Rattle.facility.specs.declared.command.Reply.{Reply}
use Rattle.facility.specs.declared.command.Reply.TheVariants as reply
use Rattle.facility.specs.Counting.{drawn as number_drawn, first_stale}
use Rattle.facility.specs.LockCommands.{retained_reply}
use Rattle.facility.specs.States.{Held as Facility}
use Rattle.list_structure.specs.declared.standing.MemberStatus.TheVariants.{Up}
use Rattle.member_intents.specs.declared.outcome.Answered.{Answered}
use Rattle.restart_records.specs.declared.queue.TurnKey.{TurnKey}
use Rattle.restart_records.specs.Names.{mark_of}
use Rattle.restart_records.specs.Queue.{taken_out}
use Rattle.restart_records.specs.Own.{next_in}
use Rattle.restart_records.specs.Trans.{newest, page_undone}
use Rattle.restart_marks.specs.declared.intent.RestartIntent.{RestartIntent}
use Rattle.restart_marks.specs.declared.intent.RestartIntent.TheVariants as intent
use Rattle.restart_marks.specs.declared.intent.RestartSent.{RestartSent}
use Rattle.restart_marks.specs.declared.intent.RestartSent.TheVariants as sent
use Rattle.restart_marks.specs.declared.intent.RestartTest.TheVariants as test
use Rattle.restart_marks.specs.declared.told.RestartTold.{RestartTold}
use Rattle.restart_marks.specs.Listing.{page_freed, record_after}
use Rattle.restart_marks.specs.Locks.{claim_after}
use Rattle.restart_marks.specs.LockNeeds.{undo_command}
use Rattle.restart_marks.specs.Moves.{is_claimed_as, is_same}
use Rattle.restart_marks.specs.Needs.{need_of}
use Rattle.restart_marks.specs.OwnNeeds.{call_sent, is_end_listed, recovered_test}
use Rattle.restart_marks.specs.State.{RestartState}
use Rattle.restart_marks.specs.Tested.{Tested, after, passed, when}
use Rattle.restart_resources.specs.declared.calls.Got.{Got}
use Rattle.restart_resources.specs.declared.calls.Got.TheVariants as got
use Rattle.restart_resources.specs.Calls.{Calls, Drive, ReadsBy, RunsCall, Stores, done_after, got_after}
use Rattle.restart_resources.specs.Events as event
use Rattle.restart_resources.specs.Events.{OnlyCalls, Runs, RunsCommand}
use Rattle.restart_resources.specs.Held.{Held, with_marks}
use Rattle.restart_resources.specs.Lending.{is_hand, lent_bytes, with_bytes}
use Rattle.restart_resources.specs.Settled.{settle_undo_after, settled}
use Rattle.retained_pages.specs.Retained.{CommandsSpare, KeepsOwn}
use Rattle.restart_owners.specs.Listing.{IsListing}
use Rattle.restart_owners.proofs.Following.{Follows, Keyed, KnowsOn, Near, draws, follows_on, kin, knows_on, near, no_keys, reads, reads_on, stales, tests, writes}
use Rattle.restart_owners.proofs.Listing.{entered_pages, entered_rest, frees_hand, goes_listed, goes_near, lists_next, spares_same}
use Rattle.restart_owners.proofs.Keys.{is_itself, same_page}
use Rattle.lock_restarts.specs.Sent.{SendsLawfully}
use Rattle.page_world.specs.Numbers.{page_at, page_number}
use Rattle.page_restarts.specs.Events.{asks_page, frees_page, gives_page, is_granted, takes_page}
use Rattle.page_restarts.proofs.Ending.{ups}
use Rattle.page_restarts.proofs.Events.{no_page, unasked, ungranted}
use Rattle.page_restarts.proofs.Needs.{after_first, after_rest, after_tests, asks_page as asks_page_of, err_ok, fills_hand, just_as, passes, purges_hand, reads_hand, releases_page, sent_as, tests_hand, undoes_hand, when_first, when_rest, writes_hand}

-- ---- the page lock
pub data ClaimGoes (s t : RestartState) (x : RestartSent) (a : Answered) : Type 0 where
  Stays : t.claim ≡ s.claim → ((n : ℕ) → takes_page x a n ≡ false) → ((p : PageId) → s.claim ≡ Some p → gives_page x (page_number p) ≡ false) → ClaimGoes s t x a
  Takes : (p : PageId) → t.claim ≡ Some p → (s.claim ≡ None) ⊎ (s.claim ≡ Some p) → ((n : ℕ) → takes_page x a n ≡ (n == page_number p)) → ((n : ℕ) → gives_page x n ≡ false) → ClaimGoes s t x a
  Gives : (p : PageId) → s.claim ≡ Some p → t.claim ≡ None → ((n : ℕ) → takes_page x a n ≡ false) → gives_page x (page_number p) ≡ true → ClaimGoes s t x a

-- with what it knows; and it draws a number only where all retained pages are recovered
pub record Step (f g : Facility) (s t : RestartState) (x : RestartSent) (a : Answered) : Type 0 where
  pub listing : IsListing f s → IsListing g t
  pub claim : ClaimGoes s t x a
  pub member : t.member ≡ s.member
  pub knows : KnowsOn s t

step_as : (f g : Facility) (s t : RestartState) (x y : RestartSent) (a : Answered) → x ≡ y → Step f g s t y a → Step f g s t x a
step_as f g s t x y a e step = subst (λ z. Step f g s t z a) (sym e) step

-- ---- a call of the disk
done_near : (t : Held) (x : RestartSent) → Near t.marks (done_after t x).marks
done_near t sent.None = near t.marks
done_near t (sent.Command c) = near t.marks
done_near t sent.LogLength = near t.marks
done_near t (sent.ReadLog at count) = near t.marks
done_near t (sent.CutLog long) = kin t.marks _ t.marks.claim refl refl refl refl refl refl refl
done_near t sent.AppendLog = kin t.marks _ t.marks.claim refl refl refl refl refl refl refl
done_near t (sent.ReadPage page) = kin t.marks _ t.marks.claim refl refl refl refl refl refl refl

got_near : (t : Held) (x : RestartSent) (g : Got) → Near t.marks (got_after t x g).marks
got_near t x got.Done = done_near t x
got_near t x (got.Length n) = reads_on t.marks (logged.Length n)
got_near t x (got.Count n) = reads_on t.marks (logged.Count n)

stored_near : (t k : Held) (x : RestartSent) (done : Result Got DiskError) (a : Answered) (said : RestartTold) → Stores t x done a said k → Near t.marks k.marks
stored_near t k x (Ok g) a said e = subst (λ (z : Held). Near t.marks z.marks) (sym e.2) (got_near t x g)
stored_near t k x (Err Failed) a said e = subst (λ (z : Held). Near t.marks z.marks) (sym e.2) (near t.marks)
stored_near t k x (Err NoMemory) a said e = absurd e

held_near : (h t : Held) → t ≡ h → Near h.marks t.marks
held_near h t e = subst (λ (z : Held). Near h.marks z.marks) (sym e) (near h.marks)

read_near : (w v : Drive) (h t : Held) (at count : ℕ) (done : Result Got DiskError) (o : Option ReaderState) → ReadsBy o w h at count done v t → Near h.marks t.marks
read_near w v h t at count done None e = held_near h t e.2
read_near w v h t at count done (Some r) e = subst (λ (z : Held). Near h.marks z.marks) (sym e.held) (kin h.marks _ h.marks.claim refl refl refl refl refl refl refl)

called_near : (w v : Drive) (h t : Held) (x : RestartSent) (done : Result Got DiskError) → Calls w h x done v t → Near h.marks t.marks
called_near w v h t sent.None done e = held_near h t e.2
called_near w v h t (sent.Command c) done e = held_near h t e.2
called_near w v h t sent.LogLength done e = held_near h t e.1
called_near w v h t (sent.ReadLog at count) done e = read_near w v h t at count done h.marks.own.reader e
called_near w v h t (sent.CutLog long) done e = held_near h t e.1
called_near w v h t sent.AppendLog done e = held_near h t e.1
called_near w v h t (sent.ReadPage page) done e = subst (λ (z : Held). Near h.marks z.marks) (sym e.1) (near h.marks)

calls_near : (w v : Drive) (h k : Held) (x : RestartSent) (a : Answered) (said : RestartTold) → RunsCall w h x a said v k → Near h.marks k.marks
calls_near w v h k x a said r = follows_on h.marks r.after.marks k.marks h.marks.claim (called_near w v h r.after x r.done r.calls) (stored_near r.after k x r.done a said r.stores)

-- ---- a lock that is asked for
abbrev granted_claim : RestartState → ℕ → Reply → Option PageId
granted_claim s id answer = if is_granted answer then page_undone s.trans id else s.claim

claimed_by : (s : RestartState) (id : ℕ) (answer : Reply) → Follows s (claim_after s id answer) (granted_claim s id answer)
claimed_by s id (reply.Granted version) = kin s (claim_after s id (reply.Granted version)) (granted_claim s id (reply.Granted version)) refl refl refl refl refl refl refl
claimed_by s id (reply.Retained by) = kin s (claim_after s id (reply.Retained by)) (granted_claim s id (reply.Retained by)) refl refl refl refl refl refl refl
claimed_by s id (reply.RecordsFull limit) = kin s (claim_after s id (reply.RecordsFull limit)) (granted_claim s id (reply.RecordsFull limit)) refl refl refl refl refl refl refl
claimed_by s id (reply.Contention share exclusive version) = kin s (claim_after s id (reply.Contention share exclusive version)) (granted_claim s id (reply.Contention share exclusive version)) refl refl refl refl refl refl refl
claimed_by s id (reply.Moved version) = kin s (claim_after s id (reply.Moved version)) (granted_claim s id (reply.Moved version)) refl refl refl refl refl refl refl
claimed_by s id (reply.RetainedLock n mode) = kin s (claim_after s id (reply.RetainedLock n mode)) (granted_claim s id (reply.RetainedLock n mode)) refl refl refl refl refl refl refl
claimed_by s id reply.Done = kin s (claim_after s id reply.Done) (granted_claim s id reply.Done) refl refl refl refl refl refl refl
claimed_by s id reply.Nothing = kin s (claim_after s id reply.Nothing) (granted_claim s id reply.Nothing) refl refl refl refl refl refl refl
claimed_by s id reply.Found = kin s (claim_after s id reply.Found) (granted_claim s id reply.Found) refl refl refl refl refl refl refl
claimed_by s id reply.NoData = kin s (claim_after s id reply.NoData) (granted_claim s id reply.NoData) refl refl refl refl refl refl refl
claimed_by s id reply.CacheFull = kin s (claim_after s id reply.CacheFull) (granted_claim s id reply.CacheFull) refl refl refl refl refl refl refl
claimed_by s id reply.Lost = kin s (claim_after s id reply.Lost) (granted_claim s id reply.Lost) refl refl refl refl refl refl refl
claimed_by s id reply.Written = kin s (claim_after s id reply.Written) (granted_claim s id reply.Written) refl refl refl refl refl refl refl
claimed_by s id reply.Valid = kin s (claim_after s id reply.Valid) (granted_claim s id reply.Valid) refl refl refl refl refl refl refl
claimed_by s id reply.Invalid = kin s (claim_after s id reply.Invalid) (granted_claim s id reply.Invalid) refl refl refl refl refl refl refl
claimed_by s id reply.Taken = kin s (claim_after s id reply.Taken) (granted_claim s id reply.Taken) refl refl refl refl refl refl refl
claimed_by s id reply.NotChanged = kin s (claim_after s id reply.NotChanged) (granted_claim s id reply.NotChanged) refl refl refl refl refl refl refl
claimed_by s id (reply.Locked by) = kin s (claim_after s id (reply.Locked by)) (granted_claim s id (reply.Locked by)) refl refl refl refl refl refl refl
claimed_by s id reply.NotHeld = kin s (claim_after s id reply.NotHeld) (granted_claim s id reply.NotHeld) refl refl refl refl refl refl refl
claimed_by s id (reply.ChangedPage other) = kin s (claim_after s id (reply.ChangedPage other)) (granted_claim s id (reply.ChangedPage other)) refl refl refl refl refl refl refl
claimed_by s id (reply.Query query) = kin s (claim_after s id (reply.Query query)) (granted_claim s id (reply.Query query)) refl refl refl refl refl refl refl
claimed_by s id reply.Gone = kin s (claim_after s id reply.Gone) (granted_claim s id reply.Gone) refl refl refl refl refl refl refl
claimed_by s id reply.Cells = kin s (claim_after s id reply.Cells) (granted_claim s id reply.Cells) refl refl refl refl refl refl refl
claimed_by s id reply.Waits = kin s (claim_after s id reply.Waits) (granted_claim s id reply.Waits) refl refl refl refl refl refl refl
claimed_by s id reply.Raised = kin s (claim_after s id reply.Raised) (granted_claim s id reply.Raised) refl refl refl refl refl refl refl
claimed_by s id reply.NotRaised = kin s (claim_after s id reply.NotRaised) (granted_claim s id reply.NotRaised) refl refl refl refl refl refl refl
claimed_by s id (reply.Status status) = kin s (claim_after s id (reply.Status status)) (granted_claim s id (reply.Status status)) refl refl refl refl refl refl refl
claimed_by s id reply.NotLost = kin s (claim_after s id reply.NotLost) (granted_claim s id reply.NotLost) refl refl refl refl refl refl refl
claimed_by s id (reply.ClaimTaken by) = kin s (claim_after s id (reply.ClaimTaken by)) (granted_claim s id (reply.ClaimTaken by)) refl refl refl refl refl refl refl
claimed_by s id reply.Claimed = kin s (claim_after s id reply.Claimed) (granted_claim s id reply.Claimed) refl refl refl refl refl refl refl
claimed_by s id (reply.Drawn lrsn) = kin s (claim_after s id (reply.Drawn lrsn)) (granted_claim s id (reply.Drawn lrsn)) refl refl refl refl refl refl refl
claimed_by s id (reply.Stale index) = kin s (claim_after s id (reply.Stale index)) (granted_claim s id (reply.Stale index)) refl refl refl refl refl refl refl
claimed_by s id (reply.LrsnEnd at) = kin s (claim_after s id (reply.LrsnEnd at)) (granted_claim s id (reply.LrsnEnd at)) refl refl refl refl refl refl refl

free_claim : (claim : Option PageId) (p : PageId) → (is_none claim || is_claimed_as claim p) ≡ true → (claim ≡ None) ⊎ (claim ≡ Some p)
free_claim None p e = inl refl
free_claim (Some q) p e = inr (ap Some (same_page q p e))

-- ---- the bytes that are lent
pub same_marks : (h t : Held) (b : Bool) (page : List ℕ) → t ≡ with_bytes h b page → t.marks ≡ h.marks
same_marks h t true page e = ap (λ (z : Held). z.marks) e
same_marks h t false page e = ap (λ (z : Held). z.marks) e

pub granted_all : (b c : Bool) → c ≡ true → (b && c) ≡ b
granted_all true c e = e
granted_all false c e = refl

not_either : (a b : Bool) → not (a || b) ≡ true → a ≡ false
not_either true b e = absurd (both_ways false refl e)
not_either false b e = refl

never_other : (p q : PageId) → is_same p q ≡ false → p ≢ q
never_other p q e same = both_ways (is_same p q) e (subst (λ (z : PageId). is_same p z ≡ true) same (is_itself p))

undoes : (h : Held) (id : ℕ) (answer : Reply) (o : Option ℕ) (counter : ℕ) → answer ≡ number_drawn o counter → Near h.marks (settle_undo_after h id answer).marks
undoes h id answer None counter e = subst (λ z. Near h.marks (settle_undo_after h id z).marks) (sym e) (draws h id (counter + 1))
undoes h id answer (Some index) counter e = subst (λ z. Near h.marks (settle_undo_after h id z).marks) (sym e) (stales h id index)

-- ---- what it knows of its pages
entered_on : (s : RestartState) (n : Name) → Keyed s → Keyed (record_after s (reply.RetainedLock n X))
entered_on s n has key e = let rest = entered_rest s n in entered_pages s n key.page (has key (sym rest.key ∙ e))

listed_on : (s : RestartState) (o : Option (Name × Mode)) → s.is_listed ≡ false → KnowsOn s (record_after s (retained_reply o))
listed_on s None unlisted = record { hand = λ is. is; keyed = λ is has. has; recovered = λ is has e. absurd (both_ways s.is_listed unlisted (and_parts s.is_listed (length s.pages == 0) e).0) }
listed_on s (Some x) unlisted =
    let rest = entered_rest s x.0 in
    record {
      hand = λ is key e. rest.page ∙ is key (sym rest.key ∙ e);
      keyed = λ is has. entered_on s x.0 has;
      recovered = λ is has e. absurd (both_ways s.is_listed unlisted (and_parts s.is_listed (length s.pages == 0) e).0);
    }

freed_on : (s : RestartState) (o : Option TurnKey) → KnowsOn s (page_freed s o)
freed_on s None = record { hand = λ is. is; keyed = λ is has. has; recovered = λ is has e. e }
freed_on s (Some key) = record {
  hand = λ is k e. absurd (none-some k e);
  keyed = λ is has k e. absurd (none-some k e);
  recovered = λ is has e. (let both = and_parts s.is_listed (length s.pages == 0) e in
      and_from s.is_listed (length (taken_out s.pages key) == 0) both.0 (subst (λ (z : List TurnKey). (length (taken_out z key) == 0) ≡ true) (sym (no_keys s.pages both.1)) refl));
}

-- ---- any part of an event
module _ (named : (p : PageId) → page_at (page_number p) ≡ p) (spare : CommandsSpare) (lawful : SendsLawfully) (u v : event.World) (h k : Held) (a : Answered) (said : RestartTold) where
  abbrev Goes : RestartSent → Type 0
  Goes x = Step u.facility v.facility h.marks k.marks x a

  -- nothing of the facility changes
  quietly : (x : RestartSent) → ((n : ℕ) → takes_page x a n ≡ false) → ((n : ℕ) → gives_page x n ≡ false) → v.facility ≡ u.facility → Near h.marks k.marks → Goes x
  quietly x takes gives same n = record { listing = goes_near u.facility v.facility h.marks k.marks h.marks.claim (spares_same u.facility v.facility h.marks.member same) n; claim = Stays n.claimed takes (λ p _. gives (page_number p)); member = n.member; knows = knows_on h.marks k.marks h.marks.claim n }

  calling : (x : RestartSent) → ((n : ℕ) → takes_page x a n ≡ false) → ((n : ℕ) → gives_page x n ≡ false) → OnlyCalls u h x a said v k → Goes x
  calling x takes gives r = quietly x takes gives r.1 (calls_near u.drive v.drive h k x a said r.0)

  -- ---- a command
  after_marks : (i : RestartIntent) (c : Command) (r : RunsCommand u.facility h i c a said v.facility k) → r.after.marks ≡ h.marks
  after_marks i c r = same_marks h r.after (is_hand h c) (lent_bytes r.after (is_hand h c)) r.gives.executed.back

  spares : (i : RestartIntent) (c : Command) (r : RunsCommand u.facility h i c a said v.facility k) → KeepsOwn u.facility v.facility h.marks.member c
  spares i c r = (spare u.facility v.facility h.marks.member c (lent_bytes h (is_hand h c)) (lent_bytes r.after (is_hand h c)) r.answer r.gives.executed.executes).1

  -- what is made of its reply
  settled_as : (i : RestartIntent) (c : Command) (r : RunsCommand u.facility h i c a said v.facility k) (claim : RestartState → Option PageId) → Follows r.after.marks (settled r.after i r.answer).marks (claim r.after.marks) → Follows h.marks k.marks (claim h.marks)
  settled_as i c r claim n = subst (λ (z : RestartState). Follows z k.marks (claim z)) (after_marks i c r) (subst (λ (z : Held). Follows r.after.marks z.marks (claim r.after.marks)) (sym r.settles) n)

  asks_nothing : (c : Command) → ((n : ℕ) → asks_page c n ≡ false) → (n : ℕ) → takes_page (sent.Command c) a n ≡ false
  asks_nothing c asks n = unasked c a n (asks n)

  commands : (i : RestartIntent) (c : Command) → ((n : ℕ) → asks_page c n ≡ false) → ((n : ℕ) → frees_page c n ≡ false) → ((n : Name) → c ≢ command.Purge n) → (r : RunsCommand u.facility h i c a said v.facility k)
      → Near r.after.marks (settled r.after i r.answer).marks → Goes (sent.Command c)
  commands i c asks frees other r n =
      let own = spares i c r in
      let follows = settled_as i c r (λ s. s.claim) n in
      record {
        listing = goes_near u.facility v.facility h.marks k.marks h.marks.claim (record { names = own.names other; retained = own.retained }) follows;
        claim = Stays follows.claimed (asks_nothing c asks) (λ p _. frees (page_number p));
        member = follows.member;
        knows = knows_on h.marks k.marks h.marks.claim follows;
      }

  -- ---- retained records
  lists : (r : RunsCommand u.facility h intent.RetainedAt (command.RetainedAt h.marks.listed) a said v.facility k) → h.marks.is_listed ≡ false → Goes (sent.Command (command.RetainedAt h.marks.listed))
  lists r unlisted =
      let done = r.gives.executed.executes.0 in
      let answer = retained_reply (slice_get (retained_in u.facility.locks h.marks.member) h.marks.listed) in
      let is : k.marks ≡ record_after h.marks answer =
      ap (λ (z : Held). z.marks) r.settles ∙ ap (λ (z : RestartState). record_after z r.answer) (after_marks intent.RetainedAt (command.RetainedAt h.marks.listed) r) ∙ ap (record_after h.marks) done.0 in
      let e = recorded h.marks (slice_get (retained_in u.facility.locks h.marks.member) h.marks.listed) in
      record {
        listing = lists_next u.facility v.facility h.marks k.marks unlisted done.1 is;
        claim = Stays (ap (λ (z : RestartState). z.claim) is ∙ e.1) (asks_nothing (command.RetainedAt h.marks.listed) (λ n. refl)) (λ p _. refl);
        member = ap (λ (z : RestartState). z.member) is ∙ e.0;
        knows = subst (λ (z : RestartState). KnowsOn h.marks z) (sym is) (listed_on h.marks (slice_get (retained_in u.facility.locks h.marks.member) h.marks.listed) unlisted);
      }
    where
      recorded : (s : RestartState) (o : Option (Name × Mode)) → ((record_after s (retained_reply o)).member ≡ s.member) × ((record_after s (retained_reply o)).claim ≡ s.claim)
      recorded s None = (refl, refl)
      recorded s (Some x) = let e = entered_rest s x.0 in (e.member, e.claim)

  purges_page : (p : PageId) → (r : RunsCommand u.facility h intent.PurgePage (command.Purge (name.Page p)) a said v.facility k) → h.marks.hand.page ≡ Some p → is_some h.marks.hand.key ≡ true → h.marks.is_listed ≡ true → is_claimed_as h.marks.claim p ≡ false → Goes (sent.Command (command.Purge (name.Page p)))
  purges_page p r placed some listed unclaimed =
      let c = command.Purge (name.Page p) in
      let own = spares intent.PurgePage c r in
      let is : k.marks ≡ page_freed h.marks h.marks.hand.key =
      ap (λ (z : Held). z.marks) (r.settles ∙ ap (settled r.after intent.PurgePage) r.gives.executed.executes.0.0) ∙ ap (λ (z : RestartState). page_freed z z.hand.key) (after_marks intent.PurgePage c r) in
      let e = freed h.marks h.marks.hand.key in
      record {
        listing = λ l. subst (λ (z : RestartState). IsListing v.facility z) (sym is) (frees_hand u.facility v.facility h.marks p h.marks.hand.key refl some placed listed own.retained (own.freed (name.Page p) refl) l);
        claim = Stays (ap (λ (z : RestartState). z.claim) is ∙ e.1) (asks_nothing c (λ n. refl)) (λ q claimed. ne_eqb (page_number q) (page_number p)
            (λ same. never_other q p (ap (λ o. is_claimed_as o p) (sym claimed) ∙ unclaimed) (sym (named q) ∙ ap (λ z. page_at z) same ∙ named p)));
        member = ap (λ (z : RestartState). z.member) is ∙ e.0;
        knows = subst (λ (z : RestartState). KnowsOn h.marks z) (sym is) (freed_on h.marks h.marks.hand.key);
      }
    where
      freed : (s : RestartState) (o : Option TurnKey) → ((page_freed s o).member ≡ s.member) × ((page_freed s o).claim ≡ s.claim)
      freed s None = (refl, refl)
      freed s (Some key) = (refl, refl)

  purges_name : (n : Name) → (r : RunsCommand u.facility h (intent.Purge n) (command.Purge n) a said v.facility k) → h.marks.is_listed ≡ true → ((j : ℕ) → frees_page (command.Purge n) j ≡ false) → Goes (sent.Command (command.Purge n))
  purges_name n r listed frees =
      let c = command.Purge n in
      let own = spares (intent.Purge n) c r in
      let follows = settled_as (intent.Purge n) c r (λ s. s.claim)
      (subst (λ z. Near r.after.marks (settled r.after (intent.Purge n) z).marks) (sym r.gives.executed.executes.0.0) (kin r.after.marks _ r.after.marks.claim refl refl refl refl refl refl refl)) in
      record {
        listing = goes_listed u.facility v.facility h.marks k.marks h.marks.claim listed own.retained follows;
        claim = Stays follows.claimed (asks_nothing c (λ j. refl)) (λ p _. frees (page_number p));
        member = follows.member;
        knows = knows_on h.marks k.marks h.marks.claim follows;
      }

  -- ---- the page's lock
  asks : (i : RestartIntent) (c : Command) (id : ℕ) (p : PageId) → ((n : ℕ) → asks_page c n ≡ (n == page_number p)) → ((n : ℕ) → frees_page c n ≡ false) → ((n : Name) → c ≢ command.Purge n) → (r : RunsCommand u.facility h i c a said v.facility k)
      → settled r.after i r.answer ≡ with_marks r.after (claim_after r.after.marks id r.answer) → page_undone h.marks.trans id ≡ Some p → (is_none h.marks.claim || is_claimed_as h.marks.claim p) ≡ true → Goes (sent.Command c)
  asks i c id p asked frees other r is undone free =
      let own = spares i c r in
      let follows = settled_as i c r (λ s. granted_claim s id r.answer) (subst (λ (z : Held). Follows r.after.marks z.marks (granted_claim r.after.marks id r.answer)) (sym is) (claimed_by r.after.marks id r.answer)) in
      record {
        listing = goes_near u.facility v.facility h.marks k.marks (granted_claim h.marks id r.answer) (record { names = own.names other; retained = own.retained }) follows;
        claim = by (is_granted r.answer) refl follows.claimed;
        member = follows.member;
        knows = knows_on h.marks k.marks (granted_claim h.marks id r.answer) follows;
      }
    where
      by : (b : Bool) → is_granted r.answer ≡ b → k.marks.claim ≡ granted_claim h.marks id r.answer → ClaimGoes h.marks k.marks (sent.Command c) a
      by true e claimed =
          Takes p (claimed ∙ cond-true (is_granted r.answer) (page_undone h.marks.trans id) h.marks.claim e ∙ undone) (free_claim h.marks.claim p free)
          (λ n. ap (λ z. takes_page (sent.Command c) z n) r.is ∙ granted_all (asks_page c n) (is_granted r.answer) e ∙ asked n) frees
      by false e claimed =
          Stays (claimed ∙ cond-false (is_granted r.answer) (page_undone h.marks.trans id) h.marks.claim e)
          (λ n. ap (λ z. takes_page (sent.Command c) z n) r.is ∙ ungranted (asks_page c n) (is_granted r.answer) e) (λ q _. frees (page_number q))

  releases : (p : PageId) → (r : RunsCommand u.facility h intent.ReleasePage (command.Release (name.Page p) (record { share = false; exclusive = false })) a said v.facility k) → h.marks.claim ≡ Some p → Goes (sent.Command (command.Release (name.Page p) (record { share = false; exclusive = false })))
  releases p r claimed =
      let c = command.Release (name.Page p) (record { share = false; exclusive = false }) in
      let own = spares intent.ReleasePage c r in
      let follows = settled_as intent.ReleasePage c r (λ s. None)
      (subst (λ z. Follows r.after.marks (settled r.after intent.ReleasePage z).marks None) (sym r.gives.executed.executes.0.0) (kin r.after.marks _ None refl refl refl refl refl refl refl)) in
      record {
        listing = goes_near u.facility v.facility h.marks k.marks None (record { names = own.names (λ n z. cc); retained = own.retained }) follows;
        claim = Gives p claimed follows.claimed (asks_nothing c (λ n. refl)) (eq-eqb (page_number p) (page_number p) refl);
        member = follows.member;
        knows = knows_on h.marks k.marks None follows;
      }

  -- ---- by intent
  ran : (i : RestartIntent) (x y : RestartSent) → x ≡ y → Runs u h i x a said v k → Runs u h i y a said v k
  ran i x y e r = subst (λ z. Runs u h i z a said v k) e r

  as_sent : (x y : RestartSent) → x ≡ y → Goes y → Goes x
  as_sent x y e step = step_as u.facility v.facility h.marks k.marks x y a e step

  read_call : (x : RestartSent) (o : Option LogCall) → call_sent o ≡ Ok x → Runs u h intent.ReadLog x a said v k → Goes x
  read_call x None e r = absurd (err_ok test.AlreadyRead x (Err test.AlreadyRead) refl e)
  read_call x (Some call.Length) e r = let is = just_as sent.LogLength x e in as_sent x sent.LogLength is (calling sent.LogLength (λ n. refl) (λ n. refl) (ran intent.ReadLog x sent.LogLength is r))
  read_call x (Some (call.Read at count)) e r = let is = just_as (sent.ReadLog at count) x e in as_sent x (sent.ReadLog at count) is (calling (sent.ReadLog at count) (λ n. refl) (λ n. refl) (ran intent.ReadLog x (sent.ReadLog at count) is r))

  pub by_intent : (i : RestartIntent) (x : RestartSent) → need_of h.marks i ≡ Ok x → Runs u h i x a said v k → Goes x
  by_intent intent.Step x e r =
      let is = just_as sent.None x e in
      let q = ran intent.Step x sent.None is r in
      as_sent x sent.None is (quietly sent.None (λ n. refl) (λ n. refl) (ap (λ (z : event.World). z.facility) q.world) (held_near h k q.held))
  by_intent intent.ReadLog x e r = read_call x (next_in h.marks.own.reader) (after_rest (when (not h.marks.own.is_read) test.AlreadyRead passed) (call_sent (next_in h.marks.own.reader)) x e) r
  by_intent intent.CutTail x e r =
      let is = sent_as (when h.marks.own.is_read test.NotRead (when (not (h.marks.own.tail == 0)) test.NoTail passed)) (sent.CutLog h.marks.own.long) x e in
      as_sent x (sent.CutLog h.marks.own.long) is (calling (sent.CutLog h.marks.own.long) (λ n. refl) (λ n. refl) (ran intent.CutTail x (sent.CutLog h.marks.own.long) is r))
  by_intent intent.RetainedAt x e r =
      let c = command.RetainedAt h.marks.listed in
      let more : Tested = when (not (is_end_listed h.marks)) test.AlreadyListed passed in
      let tests : Tested = when h.marks.own.is_read test.NotRead more in
      let is = sent_as tests (sent.Command c) x e in
      let unlisted : h.marks.is_listed ≡ false =
      not_either h.marks.is_listed (h.marks.listed == 2 ^ 32 - 1) (when_first (not (is_end_listed h.marks)) test.AlreadyListed passed (when_rest h.marks.own.is_read test.NotRead more (after_first tests (Ok (sent.Command c)) x e))) in
      as_sent x (sent.Command c) is (lists (ran intent.RetainedAt x (sent.Command c) is r).0 unlisted)
  by_intent intent.Read x e r =
      let y = reads_hand h.marks x h.marks.hand.page refl e in
      let c = command.Read y.page 0 in
      let q = (ran intent.Read x (sent.Command c) y.is r).0 in
      as_sent x (sent.Command c) y.is (commands intent.Read c (λ n. refl) (λ n. refl) (λ n z. cc) q (reads q.after q.answer (read_reply u.facility.directory y.page) q.gives.executed.executes.0))
  by_intent intent.ReadPage x e r =
      let y = fills_hand h.marks x h.marks.hand.page refl e in
      as_sent x (sent.ReadPage y.page) y.is (calling (sent.ReadPage y.page) (λ n. refl) (λ n. refl) (ran intent.ReadPage x (sent.ReadPage y.page) y.is r))
  by_intent intent.Test x e r =
      let y = tests_hand h.marks x h.marks.hand.page refl e in
      let c = command.Test 0 in
      let q = (ran intent.Test x (sent.Command c) y.is r).0 in
      as_sent x (sent.Command c) y.is (commands intent.Test c (λ n. refl) (λ n. refl) (λ n z. cc) q (tests q.after q.answer (bit u.facility.directory h.marks.member 0) q.gives.executed.executes.0.0))
  by_intent intent.WritePage x e r =
      let y = writes_hand h.marks x h.marks.hand.page refl e in
      let c = command.Write y.page 0 in
      let q = (ran intent.WritePage x (sent.Command c) y.is r).0 in
      as_sent x (sent.Command c) y.is (commands intent.WritePage c (λ n. refl) (λ n. refl) (λ n z. cc) q (writes q.after q.answer (write_reply u.facility.directory y.page) q.gives.executed.executes.0.0))
  by_intent intent.PurgePage x e r =
      let y = purges_hand h.marks x h.marks.hand.page refl e in
      let c = command.Purge (name.Page y.page) in
      as_sent x (sent.Command c) y.is (purges_page y.page (ran intent.PurgePage x (sent.Command c) y.is r).0 y.placed y.retained y.listed y.unclaimed)
  by_intent (intent.Purge n) x e r =
      let c = command.Purge n in
      let needed : Tested = when ((mark_of h.marks.names n).needed == 0) test.StillNeeded passed in
      let marked : Tested = when (mark_of h.marks.names n).retained test.NotRetained needed in
      let clean : Tested = when (not h.marks.hand.changed) test.StillChanged (when (length h.marks.log.pending == 0) test.StillPending passed) in
      let recovered : Tested = when (length h.marks.pages == 0) test.PagesLeft passed in
      let rest : Tested = after (recovered_test h.marks) clean in
      let first = after_first (after marked rest) (Ok (sent.Command c)) x e in
      let is = sent_as (after marked rest) (sent.Command c) x e in
      as_sent x (sent.Command c) is (purges_name n (ran (intent.Purge n) x (sent.Command c) is r).0
      (when_first h.marks.is_listed test.NotListed recovered (passes (recovered_test h.marks) clean (after_tests marked rest first))) (λ j. no_page h.marks n j (when_first (mark_of h.marks.names n).retained test.NotRetained needed (passes marked rest first))))
  by_intent intent.Append x e r =
      let is = sent_as (when (not (length h.marks.log.pending == 0)) test.NonePending (when (h.marks.own.tail == 0) test.HasTail passed)) sent.AppendLog x e in
      as_sent x sent.AppendLog is (calling sent.AppendLog (λ n. refl) (λ n. refl) (ran intent.Append x sent.AppendLog is r))
  by_intent (intent.Obtain id) x e r =
      let y = lawful h.marks (intent.Obtain id) x e in
      let c = command.Obtain (name.Page y.0) X in
      as_sent x (sent.Command c) y.1 (asks (intent.Obtain id) c id y.0 (λ n. refl) (λ n. refl) (λ n z. cc) (ran (intent.Obtain id) x (sent.Command c) y.1 r).0 refl y.2 y.3)
  by_intent (intent.Ask id to) x e r =
      let y = asks_page_of (λ page. command.Ask 0 to (name.Page page) X) x (page_undone h.marks.trans id) e in
      let c = command.Ask 0 to (name.Page y.0) X in
      as_sent x (sent.Command c) y.1 (commands (intent.Ask id to) c (λ n. refl) (λ n. refl) (λ n z. cc) (ran (intent.Ask id to) x (sent.Command c) y.1 r).0 (near _))
  by_intent (intent.Answers id asked) x e r =
      let y = asks_page_of (λ page. command.Answers 0) x (page_undone h.marks.trans id) e in
      let c = command.Answers 0 in
      as_sent x (sent.Command c) y.1 (commands (intent.Answers id asked) c (λ n. refl) (λ n. refl) (λ n z. cc) (ran (intent.Answers id asked) x (sent.Command c) y.1 r).0 (near _))
  by_intent (intent.Grant id) x e r =
      let y = lawful h.marks (intent.Grant id) x e in
      let c = command.Grant 0 (name.Page y.0) X in
      as_sent x (sent.Command c) y.1 (asks (intent.Grant id) c id y.0 (λ n. refl) (λ n. refl) (λ n z. cc) (ran (intent.Grant id) x (sent.Command c) y.1 r).0 refl y.2 y.3)
  by_intent (intent.Status m) x e r =
      let c = command.Status m in
      let is = just_as (sent.Command c) x e in
      as_sent x (sent.Command c) is (commands (intent.Status m) c (λ n. refl) (λ n. refl) (λ n z. cc) (ran (intent.Status m) x (sent.Command c) is r).0 (near _))
  by_intent (intent.Undo id) x e r =
      let y = undoes_hand h.marks x (newest h.marks.trans id) e in
      let q = (ran (intent.Undo id) x (sent.Command undo_command) y.is r).0 in
      as_sent x (sent.Command undo_command) y.is (commands (intent.Undo id) undo_command (λ n. refl) (λ n. refl) (λ n z. cc) q
      (undoes q.after id q.answer (first_stale u.facility.directory h.marks.member (0 ∷ [])) u.facility.counter q.gives.executed.executes.0.0))
  by_intent intent.ReleasePage x e r =
      let y = releases_page h.marks x h.marks.claim refl e in
      let c = command.Release (name.Page y.page) (record { share = false; exclusive = false }) in
      as_sent x (sent.Command c) y.is (releases y.page (ran intent.ReleasePage x (sent.Command c) y.is r).0 y.claimed)
  by_intent intent.Unregister x e r =
      let c = command.Unregister 0 in
      let is = sent_as (when (is_none h.marks.hand.page) test.StillPlaced passed) (sent.Command c) x e in
      as_sent x (sent.Command c) is (commands intent.Unregister c (λ n. refl) (λ n. refl) (λ n z. cc) (ran intent.Unregister x (sent.Command c) is r).0 (near _))
  by_intent intent.Up x e r =
      let c = command.SetStatus Up in
      let is = (ups h.marks x e).is in
      let q = (ran intent.Up x (sent.Command c) is r).0 in
      as_sent x (sent.Command c) is (commands intent.Up c (λ n. refl) (λ n. refl) (λ n z. cc) q
      (subst (λ z. Near q.after.marks (settled q.after intent.Up z).marks) (sym q.gives.executed.executes.0.0) (kin q.after.marks _ q.after.marks.claim refl refl refl refl refl refl refl)))
