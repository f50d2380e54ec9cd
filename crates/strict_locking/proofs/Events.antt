-- Any event of a member, by its intent: what is run and settled, and then the policy's local moves.
use Rattle.std.proofs.Common.{◌≡◌, ℕ, refl, ◌∙◌, ap, subst, Bool, true, false, Option, Some, Result, Ok, Err}
use Rattle.std.specs.Prelude.{◌==◌, if◌then◌else◌}
use Rattle.ds_base.specs.declared.names.PageId.{PageId}
use Rattle.ds_model.specs.declared.lock.Name.{Name}
use Rattle.lock_names.specs.declared.mode.Interest.{Interest}
use Rattle.lock_names.specs.declared.mode.Mode.{Mode}
use Rattle.facility.specs.declared.command.Command.TheVariants as command
use Rattle.member_intents.specs.Cells.{cell_slot}
use Rattle.member_intents.specs.declared.intent.Intent.{Intent}
use Rattle.member_intents.specs.declared.intent.Intent.TheVariants as intent
use Rattle.member_intents.specs.declared.outcome.Answered.{Answered}
use Rattle.member_intents.specs.declared.outcome.Sent.{Sent}
use Rattle.member_intents.specs.declared.outcome.Sent.TheVariants as sent
use Rattle.member_intents.specs.declared.test.Test.{Test}
use Rattle.member_trans.specs.declared.fate.Owner.{Owner}
use Rattle.member_trans.specs.declared.fate.Owner.TheVariants as owner
use Rattle.member_trans.specs.Trans.{was_postponed}
use Rattle.member_marks.specs.State.{MarksState, id_of, tran_of}
use Rattle.member_marks.specs.Claims.{after_end_of, releasing}
use Rattle.member_needs.specs.Closing.{end_sent}
use Rattle.member_needs.specs.Needs.{need_of}
use Rattle.member_needs.specs.Plans.{intent_plan}
use Rattle.member_needs.specs.declared.needs.Setting.{Setting}
use Rattle.member_needs.specs.declared.plans.Plan.{Plan}
use Rattle.member_effects.specs.declared.told.Told.{Told}
use Rattle.member_effects.specs.Claims.{Claims as SettlesClaims}
use Rattle.member_effects.specs.Closing.{ended_after, page_released_after, released_after}
use Rattle.needs_law.specs.Lawful.{Lawful, MayEnd, SendsLawfully}
use Rattle.marks_law.specs.Given.{Prepared}
use Rattle.marks_law.specs.Given.{Runs, World, holder_in}
use Rattle.marks_law.specs.Given.{Held, begun, with_marks, with_spare}
use Rattle.marks_law.specs.Given.{Reserves, needed, setting_of}
use Rattle.marks_law.specs.Claims.{changes_claims}
use Rattle.marks_law.specs.Transactions.{EventsStay}
use Rattle.marks_law.proofs.Staying.{stay_same}
use Rattle.lock_world.specs.Books.{IsBook}
use Rattle.strict_locking.specs.Keeping.{EventsKeep, KeepsAll, KeepsOpen, MovesKeep}
use Rattle.strict_locking.specs.Rows.{IsTaken, is_over, name_of}
use Rattle.strict_locking.proofs.Keeping.{all_locks, all_on, keeps_all, open_all, open_as, open_on}
use Rattle.strict_locking.proofs.Leaving as leaving
use Rattle.strict_locking.proofs.Leaving.{all_page_released, may_end, open_ended, open_released, open_unsent}
use Rattle.strict_locking.proofs.Taking as taking
use Rattle.strict_locking.proofs.Taking.{all_claimed}

-- what the crates below say, and of local moves
pub record Facts : Type 0 where
  pub taking : taking.Facts
  pub leaving : leaving.Facts
  pub event : EventsStay
  pub moves : MovesKeep
  pub lawful : SendsLawfully

-- ---- the member as a reply finds it: what an owner has is as it was
abbrev new : Held → ℕ → MarksState
new h place = (begun h place).marks

abbrev asking : Held → ℕ → ℕ → MarksState
asking h spare place = (begun (with_spare h spare) place).marks

asking_keeps : (h : Held) (spare place : ℕ) → IsBook h.marks.locks → KeepsAll h.marks (asking h spare place)
asking_keeps h spare place book = keeps_all h.marks (asking h spare place) (record {
  book = record { owners = book.owners; few = book.few; once = book.once; apart = book.apart };
  agents = refl;
  trans = stay_same h.marks.trans (asking h spare place).trans refl refl;
  covers = λ o c x has. has;
})

taken_new : (h : Held) (place : ℕ) (o : Owner) → IsTaken h.marks o → IsTaken (new h place) o
taken_new h place (owner.Slot slot) taken = taken
taken_new h place (owner.Rollback id) taken = taken

taken_old : (h : Held) (place : ℕ) (o : Owner) → IsTaken (new h place) o → IsTaken h.marks o
taken_old h place (owner.Slot slot) taken = taken
taken_old h place (owner.Rollback id) taken = taken

named_new : (h : Held) (place : ℕ) (o : Owner) (id : ℕ) → name_of h.marks o ≡ id → name_of (new h place) o ≡ id
named_new h place (owner.Slot slot) id e = e
named_new h place (owner.Rollback old) id e = e

over_new : (h : Held) (place : ℕ) (o : Owner) (b : Bool) → is_over h.marks o ≡ b → is_over (new h place) o ≡ b
over_new h place (owner.Slot slot) b e = e
over_new h place (owner.Rollback id) b e = e

releasing_new : (h : Held) (place : ℕ) (o : Owner) (x : Option (Name × Interest)) → releasing h.marks o ≡ x → releasing (new h place) o ≡ x
releasing_new h place (owner.Slot slot) x e = e
releasing_new h place (owner.Rollback id) x e = e

from_new : (h : Held) (place : ℕ) (t : MarksState) → KeepsOpen (new h place) t → KeepsOpen h.marks t
from_new h place t k = record {
  book = k.book;
  rows = λ id spot ne l going. k.rows id spot ne (record { by = l.by; taken = taken_new h place l.by l.taken; named = named_new h place l.by id l.named; space = l.space; row = l.row }) (over_new h place l.by false going);
}

-- what is settled is settled of the marks that the reply found
settled_of : (h : Held) (place : ℕ) (after k : Held) (f : MarksState → MarksState) → after.marks ≡ new h place → k ≡ with_marks after (f after.marks) → k.marks ≡ f (new h place)
settled_of h place after k f same e = ap (λ (z : Held). z.marks) e ∙ ap f same

-- ---- intents by which no lock is taken or given up
quiet_run : Facts → (w v : World) (h ready k : Held) (i : Intent) (s : Sent) (p : Plan) (place : ℕ) (a : Answered) (told : Told) → IsBook h.marks.locks → changes_claims i ≡ false → Reserves i h ready → Runs w (begun ready place) i s p place a told v k
    → KeepsOpen h.marks k.marks
quiet_run facts w v h ready k i s p place a told book quiet e r =
    let stays = facts.event w v h ready k i s p place a told quiet e r in
    open_all h.marks k.marks (all_locks h.marks k.marks book stays.locks stays.trans)

-- ---- a lock is asked for
obtain_run : Facts → (w v : World) (h k : Held) (spare : ℕ) (o : Owner) (n : Name) (m : Mode) (p : Plan) (place : ℕ) (a : Answered) (told : Told)
    → IsBook h.marks.locks → Runs w (begun (with_spare h spare) place) (intent.Obtain o n m) (sent.Command (command.Obtain n m)) p place a told v k → KeepsOpen h.marks k.marks
obtain_run facts w v h k spare o n m p place a told book r =
    let same : r.0.after.marks ≡ asking h spare place = ap (λ (z : Held). z.marks) r.0.gives.executed.back in
    let first = asking_keeps h spare place book in
    open_all h.marks k.marks (all_on h.marks (asking h spare place) k.marks first
    (all_claimed facts.taking (asking h spare place) k.marks o n m r.0.answer place first.book (subst (λ z. SettlesClaims z o n m r.0.answer place k.marks) same r.0.settles.1.0)))

grant_run : Facts → (w v : World) (h k : Held) (spare : ℕ) (o : Owner) (n : Name) (m : Mode) (p : Plan) (place : ℕ) (a : Answered) (told : Told)
    → IsBook h.marks.locks → Runs w (begun (with_spare h spare) place) (intent.Grant o n m) (sent.Command (command.Grant (cell_slot o n) n m)) p place a told v k → KeepsOpen h.marks k.marks
grant_run facts w v h k spare o n m p place a told book r =
    let same : r.0.after.marks ≡ asking h spare place = ap (λ (z : Held). z.marks) r.0.gives.executed.back in
    let first = asking_keeps h spare place book in
    open_all h.marks k.marks (all_on h.marks (asking h spare place) k.marks first
    (all_claimed facts.taking (asking h spare place) k.marks o n m r.0.answer place first.book (subst (λ z. SettlesClaims z o n m r.0.answer place k.marks) same r.0.settles.1.0)))

-- ---- a lock is given up
new_book : (h : Held) (place : ℕ) → IsBook h.marks.locks → IsBook (new h place).locks
new_book h place book = book

release_run : Facts → (w v : World) (h k : Held) (o : Owner) (x : Name × Interest) (p : Plan) (place : ℕ) (a : Answered) (told : Told)
    → IsBook h.marks.locks → is_over h.marks o ≡ true → releasing h.marks o ≡ Some x → Runs w (begun h place) (intent.ReleaseLock o) (sent.Command (command.Release x.0 x.1)) p place a told v k → KeepsOpen h.marks k.marks
release_run facts w v h k o x p place a told book over next r =
    from_new h place k.marks (open_as (new h place) k.marks (released_after (new h place) o r.0.answer)
    (settled_of h place r.0.after k (λ z. released_after z o r.0.answer) (ap (λ (z : Held). z.marks) r.0.gives.executed.back) r.0.settles.1)
    (open_released facts.leaving (new h place) o x r.0.answer (new_book h place book) (λ taken. over_new h place o true over) (releasing_new h place o (Some x) next)))

page_run : (w v : World) (h k : Held) (page : PageId) (x : Name × Interest) (p : Plan) (place : ℕ) (a : Answered) (told : Told)
    → IsBook h.marks.locks → Runs w (begun h place) (intent.ReleasePage page) (sent.Command (command.Release x.0 x.1)) p place a told v k → KeepsOpen h.marks k.marks
page_run w v h k page x p place a told book r =
    from_new h place k.marks (open_as (new h place) k.marks (page_released_after (new h place) page r.0.answer)
    (settled_of h place r.0.after k (λ z. page_released_after z page r.0.answer) (ap (λ (z : Held). z.marks) r.0.gives.executed.back) r.0.settles.1)
    (open_all (new h place) (page_released_after (new h place) page r.0.answer) (all_page_released (new h place) page r.0.answer (new_book h place book))))

-- ---- a transaction ends
new_over : (h : Held) (place : ℕ) (o : Owner) → MayEnd (was_postponed (tran_of h.marks o).stage) h.marks o → IsTaken (new h place) o → is_over (new h place) o ≡ true
new_over h place o may taken = over_new h place o true (may_end h.marks o may (taken_old h place o taken))

end_run : Facts → (w v : World) (h k : Held) (o : Owner) (p : Plan) (place : ℕ) (a : Answered) (told : Told)
    → IsBook h.marks.locks → MayEnd (was_postponed (tran_of h.marks o).stage) h.marks o → Runs w (begun h place) (intent.End o) (end_sent h.marks o) p place a told v k → KeepsOpen h.marks k.marks
end_run facts w v h k o p place a told book may r = by ((id_of h.marks o).number == 0) r
  where
    by : (b : Bool) → Runs w (begun h place) (intent.End o) (if b then sent.None else sent.Command (command.End (id_of h.marks o))) p place a told v k → KeepsOpen h.marks k.marks
    by true x = from_new h place k.marks (open_as (new h place) k.marks (after_end_of (new h place) o) (ap (λ (z : Held). z.marks) x.held) (open_unsent facts.leaving (new h place) o (new_book h place book) (new_over h place o may)))
    by false x = from_new h place k.marks (open_as (new h place) k.marks (ended_after (new h place) o x.0.answer)
        (settled_of h place x.0.after k (λ z. ended_after z o x.0.answer) (ap (λ (z : Held). z.marks) x.0.gives.executed.back) x.0.settles.1)
        (open_ended facts.leaving (new h place) o x.0.answer (new_book h place book) (new_over h place o may)))

-- ---- any intent
run_keeps : Facts → (w v : World) (h ready k : Held) (c : Setting) (i : Intent) (s : Sent) (p : Plan) (place : ℕ) (a : Answered) (told : Told)
    → IsBook h.marks.locks → Lawful h.marks h.pages c i s → Reserves i h ready → Runs w (begun ready place) i s p place a told v k → KeepsOpen h.marks k.marks
run_keeps facts w v h ready k c intent.Step s p place a told book lawful e r = quiet_run facts w v h ready k intent.Step s p place a told book refl e r
run_keeps facts w v h ready k c (intent.Obtain o n m) s p place a told book lawful e r =
    obtain_run facts w v h k ready.marks.locks.spare o n m p place a told book
    (subst (λ z. Runs w (begun z place) (intent.Obtain o n m) (sent.Command (command.Obtain n m)) p place a told v k) e.2 (subst (λ z. Runs w (begun ready place) (intent.Obtain o n m) z p place a told v k) lawful.is r))
run_keeps facts w v h ready k c (intent.Grant o n m) s p place a told book lawful e r =
    grant_run facts w v h k ready.marks.locks.spare o n m p place a told book
    (subst (λ z. Runs w (begun z place) (intent.Grant o n m) (sent.Command (command.Grant (cell_slot o n) n m)) p place a told v k) e.2 (subst (λ z. Runs w (begun ready place) (intent.Grant o n m) z p place a told v k) lawful.is r))
run_keeps facts w v h ready k c (intent.Ask o to n m) s p place a told book lawful e r = quiet_run facts w v h ready k (intent.Ask o to n m) s p place a told book refl e r
run_keeps facts w v h ready k c (intent.Answers o n m asked) s p place a told book lawful e r = quiet_run facts w v h ready k (intent.Answers o n m asked) s p place a told book refl e r
run_keeps facts w v h ready k c (intent.Status member) s p place a told book lawful e r = quiet_run facts w v h ready k (intent.Status member) s p place a told book refl e r
run_keeps facts w v h ready k c (intent.Take past) s p place a told book lawful e r = quiet_run facts w v h ready k (intent.Take past) s p place a told book refl e r
run_keeps facts w v h ready k c (intent.Answer asker n m) s p place a told book lawful e r = quiet_run facts w v h ready k (intent.Answer asker n m) s p place a told book refl e r
run_keeps facts w v h ready k c (intent.ReleaseLock o) s p place a told book lawful e r =
    release_run facts w v h k o lawful.told p place a told book lawful.may.over lawful.next
    (subst (λ z. Runs w (begun z place) (intent.ReleaseLock o) (sent.Command (command.Release lawful.told.0 lawful.told.1)) p place a told v k) e (subst (λ z. Runs w (begun ready place) (intent.ReleaseLock o) z p place a told v k) lawful.is r))
run_keeps facts w v h ready k c (intent.ReleasePage page) s p place a told book lawful e r =
    page_run w v h k page lawful.told p place a told book
    (subst (λ z. Runs w (begun z place) (intent.ReleasePage page) (sent.Command (command.Release lawful.told.0 lawful.told.1)) p place a told v k) e (subst (λ z. Runs w (begun ready place) (intent.ReleasePage page) z p place a told v k) lawful.is r))
run_keeps facts w v h ready k c (intent.Purge n) s p place a told book lawful e r = quiet_run facts w v h ready k (intent.Purge n) s p place a told book refl e r
run_keeps facts w v h ready k c (intent.End o) s p place a told book lawful e r =
    end_run facts w v h k o p place a told book lawful.may
    (subst (λ z. Runs w (begun z place) (intent.End o) (end_sent h.marks o) p place a told v k) e (subst (λ z. Runs w (begun ready place) (intent.End o) z p place a told v k) lawful.is r))
run_keeps facts w v h ready k c (intent.Wait slot holder flag) s p place a told book lawful e r = quiet_run facts w v h ready k (intent.Wait slot holder flag) s p place a told book refl e r
run_keeps facts w v h ready k c (intent.Unwait slot) s p place a told book lawful e r = quiet_run facts w v h ready k (intent.Unwait slot) s p place a told book refl e r
run_keeps facts w v h ready k c (intent.Waits bits) s p place a told book lawful e r = quiet_run facts w v h ready k (intent.Waits bits) s p place a told book refl e r
run_keeps facts w v h ready k c (intent.Flag flag) s p place a told book lawful e r = quiet_run facts w v h ready k (intent.Flag flag) s p place a told book refl e r
run_keeps facts w v h ready k c (intent.Raise flag) s p place a told book lawful e r = quiet_run facts w v h ready k (intent.Raise flag) s p place a told book refl e r
run_keeps facts w v h ready k c intent.LoseCache s p place a told book lawful e r = quiet_run facts w v h ready k intent.LoseCache s p place a told book refl e r
run_keeps facts w v h ready k c (intent.Read at) s p place a told book lawful e r = quiet_run facts w v h ready k (intent.Read at) s p place a told book refl e r
run_keeps facts w v h ready k c (intent.ReadPage at) s p place a told book lawful e r = quiet_run facts w v h ready k (intent.ReadPage at) s p place a told book refl e r
run_keeps facts w v h ready k c (intent.Test at slot gives) s p place a told book lawful e r = quiet_run facts w v h ready k (intent.Test at slot gives) s p place a told book refl e r
run_keeps facts w v h ready k c (intent.WritePage at) s p place a told book lawful e r = quiet_run facts w v h ready k (intent.WritePage at) s p place a told book refl e r
run_keeps facts w v h ready k c (intent.Unregister at) s p place a told book lawful e r = quiet_run facts w v h ready k (intent.Unregister at) s p place a told book refl e r
run_keeps facts w v h ready k c (intent.Change slot action frames) s p place a told book lawful e r = quiet_run facts w v h ready k (intent.Change slot action frames) s p place a told book refl e r
run_keeps facts w v h ready k c (intent.Undo o at) s p place a told book lawful e r = quiet_run facts w v h ready k (intent.Undo o at) s p place a told book refl e r
run_keeps facts w v h ready k c (intent.Commit slot) s p place a told book lawful e r = quiet_run facts w v h ready k (intent.Commit slot) s p place a told book refl e r
run_keeps facts w v h ready k c intent.Append s p place a told book lawful e r = quiet_run facts w v h ready k intent.Append s p place a told book refl e r
run_keeps facts w v h ready k c (intent.NextChanged past) s p place a told book lawful e r = quiet_run facts w v h ready k (intent.NextChanged past) s p place a told book refl e r
run_keeps facts w v h ready k c (intent.CastoutRead page) s p place a told book lawful e r = quiet_run facts w v h ready k (intent.CastoutRead page) s p place a told book refl e r
run_keeps facts w v h ready k c intent.CastoutWrite s p place a told book lawful e r = quiet_run facts w v h ready k intent.CastoutWrite s p place a told book refl e r
run_keeps facts w v h ready k c intent.CastoutDone s p place a told book lawful e r = quiet_run facts w v h ready k intent.CastoutDone s p place a told book refl e r
run_keeps facts w v h ready k c intent.PhaseDone s p place a told book lawful e r = quiet_run facts w v h ready k intent.PhaseDone s p place a told book refl e r

-- what is sent passed its tests
abbrev pub sent_in : Result Prepared Test → Result Sent Test
sent_in (Ok x) = Ok x.sent
sent_in (Err test) = Err test

pub needs_sent : (x : Result Sent Test) (y : Result Plan Test) (s : Sent) (p : Plan) → needed x y ≡ Ok (record { sent = s; plan = p }) → x ≡ Ok s
needs_sent (Err test) y s p e = absurd cc
needs_sent (Ok t) (Err test) s p e = absurd cc
needs_sent (Ok t) (Ok q) s p e = ap sent_in e

pub events_keep : Facts → EventsKeep
events_keep facts w v h k i place s a book happens =
    let c : Setting = setting_of h (holder_in w.facility h.cast) place in
    let may : Lawful h.marks h.pages c i s = facts.lawful h.marks h.pages c i s (needs_sent (need_of h.marks h.pages c i) (intent_plan h.marks h.pages h.limit i) s happens.plan happens.lawful) in
    let first = run_keeps facts w v h happens.ready happens.after c i s happens.plan place a happens.said book may happens.reserves happens.runs in
    open_on h.marks happens.after.marks k.marks first (facts.moves happens.after.marks k.marks first.book happens.ends.0)
