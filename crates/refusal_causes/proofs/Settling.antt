-- What the answer to an intent refuses, or allows to be refused.
use Rattle.std.proofs.Common.{◌≡◌, inl, inr, ℕ, Bool, true, false, List, Option, Some, None, refl, sym, subst}
use Rattle.std.specs.Prelude.{IfSome, if◌then◌else◌}
use Rattle.std.proofs.lemmas.Bool.{and_parts}
use Rattle.ds_base.specs.declared.names.PageId.{PageId}
use Rattle.ds_base.specs.declared.names.TranId.{TranId}
use Rattle.ds_model.specs.declared.fate.Refusal.TheVariants as refusal
use Rattle.ds_model.specs.declared.lock.Name.{Name}
use Rattle.ds_model.specs.declared.lock.Name.TheVariants as name
use Rattle.lock_names.specs.declared.mode.Mode.{Mode}
use Rattle.lock_manager.specs.declared.claim.Ask.{Ask}
use Rattle.lock_manager.specs.declared.claim.Ask.TheVariants as ask
use Rattle.lock_manager.specs.Managers.{ask_of}
use Rattle.list_structure.specs.declared.query.Cell.{Cell}
use Rattle.list_structure.specs.declared.wait.Wait.{Wait}
use Rattle.facility.specs.declared.command.Reply.{Reply}
use Rattle.facility.specs.declared.command.Reply.TheVariants as reply
use Rattle.deadlock_cycle.specs.Cycles.{IsCycle}
use Rattle.member_intents.specs.declared.intent.Frames.{Frames}
use Rattle.member_intents.specs.declared.intent.Intent.{Intent}
use Rattle.member_intents.specs.declared.intent.Intent.TheVariants as intent
use Rattle.member_trans.specs.declared.fate.Owner.{Owner}
use Rattle.member_trans.specs.declared.fate.Owner.TheVariants as owner
use Rattle.member_trans.specs.Trans.{is_forward}
use Rattle.member_marks.specs.State.{MarksState, slot_id, slot_tran}
use Rattle.member_marks.specs.Claims.{is_for_agents, may_claim, may_enter_page, has_spare, PageEntered, entered, entered_as}
use Rattle.member_marks.specs.Frames.{after_registered}
use Rattle.member_marks.specs.Records.{after_commit}
use Rattle.member_needs.specs.declared.plans.Plan.{Plan}
use Rattle.member_effects.specs.declared.told.Told.{Told}
use Rattle.member_effects.specs.Claims.{Claims, Enters, EntersPage, agent_entered}
use Rattle.member_effects.specs.Changes.{back_by, changed_by, committed_after}
use Rattle.member_effects.specs.Cycles.{Finds, cycle_after}
use Rattle.member_effects.specs.Frames.{full_at, valid_after, tested_after}
use Rattle.member_resources.specs.Held.{Held}
use Rattle.member_resources.specs.Settled.{drawn, undone, cast_read, kept_of, unsent, stored}
use Rattle.member_resources.specs.Events.{SettlesAs, waits_in}
use Rattle.refusal_causes.proofs.Either.{either}
use Rattle.refusal_causes.proofs.Effects.{IsEndKnown, released_quiet, page_released_quiet, purged_quiet, ended_after_quiet, after_end_quiet, registered_quiet, filled_quiet, read_quiet, written_quiet, unregistered_quiet, changed_quiet, back_by_quiet, commit_quiet, undrawn_known}
use Rattle.refusal_causes.proofs.Known.{Claim, KnownIn, HomeKnown, QuietIn, begun_forward, claims_begun, quiet_known, unmade_known}
use Rattle.refusal_causes.proofs.Telling.{AreCellsKnown, answered_known}

-- ---- a claim

-- what is to be known where a claim was refused
abbrev pub IsRefusalKnown : Claim → Name → Reply → ℕ → Type 0
IsRefusalKnown K n (reply.Retained by) place = (number : ℕ) → K number (refusal.Retained n by) place
IsRefusalKnown K n (reply.RecordsFull limit) place = (number : ℕ) → K number (refusal.RecordsFull limit) place
IsRefusalKnown K n _ place = Unit {0}

-- the claim is entered, or the memory for it is wanting
has_entered : (K : Claim) (s : MarksState) (slot : ℕ) (n : Name) (m : Mode) (place : ℕ) → ((number : ℕ) → K number refusal.Memory place) → QuietIn place s → KnownIn K place (entered s slot n m place)
has_entered K s slot n m place memory quiet = either (KnownIn K place) (has_spare s) _ _ (quiet_known K place s.trans quiet) (memory, unmade_known K place s.trans quiet, quiet.2)

-- where another owner is in the way of a granted lock, what is known of trials at home behind that says it
enters_as : (K : Claim) (s : MarksState) (slot : ℕ) (n : Name) (m : Mode) (place : ℕ) (a : Ask) → may_claim s slot n ≡ true → ask_of s.locks slot n m ≡ a → HomeKnown K place (entered_as s slot n m place a) → QuietIn place s → KnownIn K place (entered_as s slot n m place a)
enters_as K s slot n m place ask.Have may is home quiet = has_entered K s slot n m place home.memory quiet
enters_as K s slot n m place (ask.Conflict by) may is home quiet = (inr (claims_begun s slot n may, home.held slot n m by may is), unmade_known K place s.trans quiet, quiet.2)
enters_as K s slot n m place (ask.Postponed by) may is home quiet = (inr (claims_begun s slot n may, home.retained slot n m by may is), unmade_known K place s.trans quiet, quiet.2)
enters_as K s slot n m place ask.Local may is home quiet = has_entered K s slot n m place home.memory quiet
enters_as K s slot n m place (ask.Facility more) may is home quiet = has_entered K s slot n m place home.memory quiet

enters_by : (K : Claim) (s : MarksState) (slot : ℕ) (n : Name) (m : Mode) (place : ℕ) (may : Bool) (t : MarksState) → may_claim s slot n ≡ may → (if may then entered_as s slot n m place (ask_of s.locks slot n m) else s) ≡ t → HomeKnown K place t → QuietIn place s → KnownIn K place t
enters_by K s slot n m place true t is e home quiet =
    subst (KnownIn K place) e (enters_as K s slot n m place (ask_of s.locks slot n m) is refl (subst (HomeKnown K place) (sym e) home) quiet)
enters_by K s slot n m place false t is e home quiet = subst (KnownIn K place) e (quiet_known K place s.trans quiet)

enters_agent : (K : Claim) (s : MarksState) (o : Owner) (n : Name) (m : Mode) (place : ℕ) (t : MarksState) → agent_entered s o n m place ≡ t → HomeKnown K place t → QuietIn place s → KnownIn K place t
enters_agent K s (owner.Slot slot) n m place t e home quiet = enters_by K s slot n m place (may_claim s slot n) t refl e home quiet
enters_agent K s (owner.Rollback id) n m place t e home quiet = subst (KnownIn K place) e (quiet_known K place s.trans quiet)

page_entered : (K : Claim) (place : ℕ) (may : Bool) (s : MarksState) (page : PageId) (t : MarksState) → PageEntered may s page t → QuietIn place s → KnownIn K place t
page_entered K place true s page t e quiet = subst (KnownIn K place) (sym e.1) (quiet_known K place s.trans quiet)
page_entered K place false s page t e quiet = subst (KnownIn K place) (sym e) (quiet_known K place s.trans quiet)

enters_page : (K : Claim) (place : ℕ) (s : MarksState) (n : Name) (t : MarksState) → EntersPage s n t → QuietIn place s → KnownIn K place t
enters_page K place s (name.Page page) t e quiet = page_entered K place (may_enter_page s page) s page t e quiet
enters_page K place s (name.Space table) t e quiet = subst (KnownIn K place) (sym e) (quiet_known K place s.trans quiet)
enters_page K place s (name.Row table key) t e quiet = subst (KnownIn K place) (sym e) (quiet_known K place s.trans quiet)
enters_page K place s (name.Set number) t e quiet = subst (KnownIn K place) (sym e) (quiet_known K place s.trans quiet)

enters : (K : Claim) (agents : Bool) (s : MarksState) (o : Owner) (n : Name) (m : Mode) (place : ℕ) (t : MarksState) → Enters agents s o n m place t → HomeKnown K place t → QuietIn place s → KnownIn K place t
enters K true s o n m place t e home quiet = enters_agent K s o n m place t (sym e) home quiet
enters K false s o n m place t e home quiet = enters_page K place s n t e quiet

claimed : (K : Claim) (s : MarksState) (o : Owner) (n : Name) (m : Mode) (answer : Reply) (place : ℕ) (t : MarksState) → Claims s o n m answer place t → IsRefusalKnown K n answer place → HomeKnown K place t → QuietIn place s → KnownIn K place t
claimed K s o n m (reply.Granted version) place t e holds home quiet = enters K (is_for_agents n) s o n m place t e home quiet
claimed K s o n m (reply.Retained by) place t e holds home quiet = subst (KnownIn K place) (sym e) (inl holds, unmade_known K place s.trans quiet, quiet.2)
claimed K s o n m (reply.RecordsFull limit) place t e holds home quiet = subst (KnownIn K place) (sym e) (holds, unmade_known K place s.trans quiet, quiet.2)
claimed K s o n m _ place t e holds home quiet = subst (KnownIn K place) (sym e) (quiet_known K place s.trans quiet)

-- ---- a test

abbrev pub IsSpaceKnown : Claim → Option (ℕ × ℕ) → ℕ → Type 0
IsSpaceKnown K full place = IfSome full (λ it. (number : ℕ) → K number (refusal.SpaceFull it.0 it.1) place)

-- what is to be known where the copy in a frame is valid, and a slot was to be given
abbrev pub IsTestKnown : Claim → Held → ℕ → Option ℕ → Reply → ℕ → Type 0
IsTestKnown K h at gives reply.Valid place = IsSpaceKnown K (full_at h.pages at gives h.limit) place
IsTestKnown K h at gives _ place = Unit {0}

valid : (K : Claim) (s : MarksState) (slot place : ℕ) (full : Option (ℕ × ℕ)) → IsSpaceKnown K full place → QuietIn place s → KnownIn K place (valid_after s slot place full)
valid K s slot place None space quiet = quiet_known K place s.trans quiet
valid K s slot place (Some it) space quiet = (space, unmade_known K place s.trans quiet, quiet.2)

tested : (K : Claim) (h : Held) (at slot : ℕ) (gives : Option ℕ) (answer : Reply) (place : ℕ) → IsTestKnown K h at gives answer place → QuietIn place h.marks → KnownIn K place (tested_after h.marks h.pages at slot gives h.limit answer place)
tested K h at slot gives reply.Valid place test quiet =
    valid K (after_registered h.marks at true) slot place (full_at h.pages at gives h.limit) test (registered_quiet place h.marks at true quiet)
tested K h at slot gives _ place test quiet = quiet_known K place (after_registered h.marks at false).trans (registered_quiet place h.marks at false quiet)

-- ---- a look for a cycle

abbrev pub AreWaitsKnown : Claim → List Wait → ℕ → Type 0
AreWaitsKnown K waits place = (tran : TranId) (cycle : List TranId) → IsCycle waits tran cycle → K tran.number (refusal.Deadlock cycle) place

cycles : (K : Claim) (s : MarksState) (waits : List Wait) (slots place : ℕ) (found : Option (ℕ × List TranId)) → Finds s waits slots found → AreWaitsKnown K waits place → QuietIn place s → KnownIn K place (cycle_after s place found)
cycles K s waits slots place None finds waits_known quiet = quiet_known K place s.trans quiet
cycles K s waits slots place (Some it) finds waits_known quiet =
    let forward : is_forward (slot_tran s it.0).stage ≡ true = (and_parts _ _ finds.looked).1 in
    ((begun_forward (slot_tran s it.0).stage forward, waits_known (slot_id s it.0) it.1 finds.is_cycle), unmade_known K place s.trans quiet, quiet.2)

-- ---- changes

changes : (K : Claim) (h : Held) (slot : ℕ) (frames : Frames) (p : Plan) (answer : Reply) (place : ℕ) → IsEndKnown K answer place → QuietIn place h.marks → KnownIn K place (drawn h slot frames p answer place).marks
changes K h slot frames p (reply.Drawn lrsn) place ends quiet = quiet_known K place (changed_by (kept_of h) slot frames p lrsn).marks.trans (changed_quiet place (kept_of h) slot frames p lrsn quiet)
changes K h slot frames p (reply.Stale index) place ends quiet = undrawn_known K h.marks (owner.Slot slot) (reply.Stale index) place ends quiet
changes K h slot frames p (reply.LrsnEnd at) place ends quiet = undrawn_known K h.marks (owner.Slot slot) (reply.LrsnEnd at) place ends quiet
changes K h slot frames p _ place ends quiet = quiet_known K place h.marks.trans quiet

undoes : (K : Claim) (h : Held) (o : Owner) (at : ℕ) (p : Plan) (answer : Reply) (place : ℕ) → IsEndKnown K answer place → QuietIn place h.marks → KnownIn K place (undone h o at p answer place).marks
undoes K h o at p (reply.Drawn lrsn) place ends quiet = quiet_known K place (back_by (kept_of h) o at p lrsn).marks.trans (back_by_quiet place (kept_of h) o at p lrsn quiet)
undoes K h o at p (reply.Stale index) place ends quiet = undrawn_known K h.marks o (reply.Stale index) place ends quiet
undoes K h o at p (reply.LrsnEnd end) place ends quiet = undrawn_known K h.marks o (reply.LrsnEnd end) place ends quiet
undoes K h o at p _ place ends quiet = quiet_known K place h.marks.trans quiet

commits : (K : Claim) (s : MarksState) (slot : ℕ) (answer : Reply) (place : ℕ) → IsEndKnown K answer place → QuietIn place s → KnownIn K place (committed_after s slot answer place)
commits K s slot (reply.Drawn lrsn) place ends quiet = quiet_known K place (after_commit s slot lrsn).trans (commit_quiet place s slot lrsn quiet)
commits K s slot (reply.Stale index) place ends quiet = undrawn_known K s (owner.Slot slot) (reply.Stale index) place ends quiet
commits K s slot (reply.LrsnEnd at) place ends quiet = undrawn_known K s (owner.Slot slot) (reply.LrsnEnd at) place ends quiet
commits K s slot _ place ends quiet = quiet_known K place s.trans quiet

casts : (place : ℕ) (h : Held) (page : PageId) (answer : Reply) → QuietIn place h.marks → QuietIn place (cast_read h page answer).marks
casts place h page reply.Taken quiet = quiet
casts place h page _ quiet = quiet

-- ---- all intents

-- what is to be known of the answer to an intent
abbrev pub IsIntentKnown : Claim → Held → Intent → List Wait → List Cell → Reply → ℕ → Type 0
IsIntentKnown K h (intent.Obtain o n m) waits cells answer place = IsRefusalKnown K n answer place
IsIntentKnown K h (intent.Grant o n m) waits cells answer place = IsRefusalKnown K n answer place
IsIntentKnown K h (intent.Answers o n m asked) waits cells answer place = AreCellsKnown K n m cells
IsIntentKnown K h (intent.Waits slots) waits cells answer place = AreWaitsKnown K waits place
IsIntentKnown K h (intent.Test frame slot gives) waits cells answer place = IsTestKnown K h frame gives answer place
IsIntentKnown K h (intent.Change slot action frames) waits cells answer place = IsEndKnown K answer place
IsIntentKnown K h (intent.Undo o frame) waits cells answer place = IsEndKnown K answer place
IsIntentKnown K h (intent.Commit slot) waits cells answer place = IsEndKnown K answer place
IsIntentKnown K h _ waits cells answer place = Unit {0}

abbrev KnownHeld : Claim → ℕ → Held → Type 0
KnownHeld K place h = KnownIn K place h.marks

-- nothing is refused by what it comes to
calm : (K : Claim) (place : ℕ) (k l : Held) → k ≡ l → QuietIn place l.marks → KnownIn K place k.marks
calm K place k l e quiet = subst (KnownHeld K place) (sym e) (quiet_known K place l.marks.trans quiet)

pub settled_known : (K : Claim) (h : Held) (i : Intent) (p : Plan) (waits : List Wait) (cells : List Cell) (answer : Reply) (place : ℕ) (said : Told) (k : Held) → IsIntentKnown K h i waits cells answer place → HomeKnown K place k.marks → QuietIn place h.marks → SettlesAs (waits_in i) h i p waits cells answer place said k → KnownIn K place k.marks
settled_known K h (intent.Obtain o n m) p waits cells answer place said k holds home quiet e = claimed K h.marks o n m answer place k.marks e.1.0 holds home quiet
settled_known K h (intent.Grant o n m) p waits cells answer place said k holds home quiet e = claimed K h.marks o n m answer place k.marks e.1.0 holds home quiet
settled_known K h (intent.Answers o n m asked) p waits cells answer place said k holds home quiet e = subst (KnownHeld K place) (sym e.1) (answered_known K place h.marks o n m asked cells holds quiet)
settled_known K h (intent.ReleaseLock o) p waits cells answer place said k holds home quiet e = calm K place k _ e.1 (released_quiet place h.marks o answer quiet)
settled_known K h (intent.ReleasePage page) p waits cells answer place said k holds home quiet e = calm K place k _ e.1 (page_released_quiet place h.marks page answer quiet)
settled_known K h (intent.Purge n) p waits cells answer place said k holds home quiet e = calm K place k _ e.1 (purged_quiet place h.marks n answer quiet)
settled_known K h (intent.End o) p waits cells answer place said k holds home quiet e = calm K place k _ e.1 (ended_after_quiet place h.marks o answer quiet)
settled_known K h (intent.Read frame) p waits cells answer place said k holds home quiet e = calm K place k _ e.1 (read_quiet place h.marks frame answer quiet)
settled_known K h (intent.Test frame slot gives) p waits cells answer place said k holds home quiet e = subst (KnownHeld K place) (sym e.1) (tested K h frame slot gives answer place holds quiet)
settled_known K h (intent.WritePage frame) p waits cells answer place said k holds home quiet e = calm K place k _ e.1 (written_quiet place h.marks frame answer quiet)
settled_known K h (intent.Unregister frame) p waits cells answer place said k holds home quiet e = calm K place k _ e.1 (unregistered_quiet place h.marks frame answer quiet)
settled_known K h (intent.Change slot action frames) p waits cells answer place said k holds home quiet e = subst (KnownHeld K place) (sym e.1) (changes K h slot frames p answer place holds quiet)
settled_known K h (intent.Undo o frame) p waits cells answer place said k holds home quiet e = subst (KnownHeld K place) (sym e.1) (undoes K h o frame p answer place holds quiet)
settled_known K h (intent.Commit slot) p waits cells answer place said k holds home quiet e = subst (KnownHeld K place) (sym e.1) (commits K h.marks slot answer place holds quiet)
settled_known K h (intent.Waits slots) p waits cells answer place said k holds home quiet e =
    let r = e.0 in
    subst (KnownIn K place) (sym r.3) (cycles K h.marks waits slots place r.0 r.1 holds quiet)
settled_known K h (intent.CastoutRead page) p waits cells answer place said k holds home quiet e = calm K place k _ e.1 (casts place h page answer quiet)
settled_known K h intent.CastoutWrite p waits cells answer place said k holds home quiet e = calm K place k _ e.1 quiet
settled_known K h intent.CastoutDone p waits cells answer place said k holds home quiet e = calm K place k _ e.1 quiet
settled_known K h _ p waits cells answer place said k holds home quiet e = calm K place k _ e.1 quiet

-- ---- events without a reply

pub unsent_quiet : (place : ℕ) (h : Held) (i : Intent) → QuietIn place h.marks → QuietIn place (unsent h i).marks
unsent_quiet place h (intent.End o) quiet = after_end_quiet place h.marks o quiet
unsent_quiet place h _ quiet = quiet

pub stored_quiet : (place : ℕ) (h : Held) (i : Intent) → QuietIn place h.marks → QuietIn place (stored h i).marks
stored_quiet place h (intent.ReadPage frame) quiet = filled_quiet place h.marks frame true quiet
stored_quiet place h intent.Append quiet = quiet
stored_quiet place h intent.CastoutWrite quiet = quiet
stored_quiet place h _ quiet = quiet
