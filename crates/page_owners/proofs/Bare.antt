-- A member whose restart is in hand has nothing in its frames, and no record to write.
use Rattle.std.proofs.Common.{◌≡◌, ◌<◌, ◌≤◌, ℕ, zero, suc, refl, sym, ◌∙◌, ap, subst, Bool, true, false, inl, inr, List, [], ◌∷◌, length, Option, Some, None, Result, Ok, Err, replicate, slice_set}
use Rattle.std.specs.Prelude.{◌+◌, ◌-◌, if◌then◌else◌, is_none, is_some}
use Rattle.std.proofs.lemmas.Bool.{cases_lt}
use Rattle.std.proofs.lemmas.List.{length-set, set_past}
use Rattle.std.proofs.lemmas.Option.{none-some}
use Rattle.ds_base.specs.declared.names.PageId.{PageId}
use Rattle.ds_base.specs.declared.names.TranId.{TranId}
use Rattle.ds_disk.specs.declared.disk.DiskError.{DiskError}
use Rattle.ds_disk.specs.declared.disk.DiskError.TheVariants.{Failed, NoMemory}
use Rattle.ds_model.specs.declared.lock.Name.{Name}
use Rattle.page_index.specs.Places.{AreApart, page_at}
use Rattle.page_index.proofs.CallerLemmas.{apart_less, apart_put}
use Rattle.lock_names.specs.declared.mode.Mode.{Mode}
use Rattle.lock_manager.specs.declared.claim.Ask.{Ask}
use Rattle.lock_manager.specs.declared.claim.Ask.TheVariants as ask
use Rattle.lock_manager.specs.Managers.{ask_of, is_postponed}
use Rattle.list_structure.specs.declared.query.Cell.{Cell}
use Rattle.list_structure.specs.declared.query.CellAnswer.{CellAnswer}
use Rattle.list_structure.specs.declared.query.CellAnswer.TheVariants as answer
use Rattle.list_structure.specs.declared.wait.Wait.{Wait}
use Rattle.facility.specs.declared.command.Reply.{Reply}
use Rattle.facility.specs.declared.command.Reply.TheVariants as reply
use Rattle.log_trans.specs.declared.opened.OpenTran.{OpenTran}
use Rattle.member_intents.specs.declared.intent.Intent.{Intent}
use Rattle.member_intents.specs.declared.intent.Intent.TheVariants as intent
use Rattle.member_intents.specs.declared.outcome.Answered.{Answered}
use Rattle.member_intents.specs.declared.outcome.Sent.{Sent}
use Rattle.member_intents.specs.declared.outcome.Sent.TheVariants as sent
use Rattle.member_pool.specs.declared.frame.Frame.{Frame}
use Rattle.member_pool.specs.Frames.{find_page, frame_at, free_frame, holding, is_unpinned, page_of}
use Rattle.member_pool.specs.Heads.{HeadState, free_in, head_of, pinned_to, placed_in, with_head}
use Rattle.member_trans.specs.declared.fate.Owner.{Owner}
use Rattle.member_trans.specs.declared.fate.Owner.TheVariants as owner
use Rattle.member_trans.specs.Trans.{may_begin}
use Rattle.member_marks.specs.State.{MarksState, with_heads, with_trans}
use Rattle.member_marks.specs.Claims.{may_claim}
use Rattle.member_marks.specs.Frames.{after_pin, after_unpin, frame_in, may_pin, may_unpin, placed_at}
use Rattle.member_marks.specs.Local.{Local, Claim as TryClaim, Begin, Refuse, Abort, RefuseForMemory, Place, Pin, Unpin, Postpone, WaitFor, Reaches, after_begin, after_claim, all_moved, begun_with, moved, tried_as, with_lock_room}
use Rattle.member_marks.specs.Rollbacks.{after_adopt, after_postpone, after_wait, can_postpone, may_adopt, postponed_for_member, retainer, waiting_for, with_rollback}
use Rattle.member_needs.specs.declared.plans.Plan.{Plan}
use Rattle.member_effects.specs.declared.told.Told.{Told}
use Rattle.member_effects.specs.declared.answers.Said.{Said}
use Rattle.member_effects.specs.declared.answers.Said.TheVariants as said
use Rattle.member_effects.specs.Answers.{answered_after, found_after, in_the_way_after, nothing, summed}
use Rattle.member_effects.specs.Cycles.{cycle_after}
use Rattle.member_resources.specs.declared.lending.Lent.{Lent}
use Rattle.member_resources.specs.declared.lending.Lent.TheVariants as lent
use Rattle.member_resources.specs.Held.{Held, begun, with_cast, with_marks, zeros}
use Rattle.member_resources.specs.Events as event
use Rattle.member_resources.specs.Events.{Calls, Ends, ReadsAs, Runs, RunsCall, SettlesAs, Stores, frame_read, waits_in}
use Rattle.member_resources.specs.Lending.{lent_bytes, lent_of, with_bytes, with_page}
use Rattle.member_resources.specs.Prepared.{Reserves}
use Rattle.member_resources.specs.Settled.{cast_read, stored, unsent}
use Rattle.page_intents.proofs.Heads.{placed_is}
use Rattle.restart_marks.specs.declared.adopt.Adopted.{Adopted}
use Rattle.group_member.specs.declared.rebuilding.Rebuilding.{Rebuilding}
use Rattle.group_member.specs.declared.restarting.Restarting.{Restarting}
use Rattle.group_member.specs.declared.stepped.Stepped.{Stepped}
use Rattle.group_member.specs.declared.stepped.Stepped.TheVariants as steps
use Rattle.group_member.specs.Adopting.{Adopts, AdoptsAll, changes_left, rows_left}
use Rattle.group_member.specs.Happening.{Acts, AdoptsLeft, GoesOn, Makes, RebuildEnds, RestartEnds, Tells}
use Rattle.group_member.specs.Members.{Member}
use Rattle.group_member.specs.Resting.{changes_locks, touches_pages}
use Rattle.group_member.specs.Stepping.{is_failure}
use Rattle.page_owners.specs.Resting.{DownIsBare, IsBare, IsEmpty, RestsBare}

-- ---- frames and log as they were
record Same (s t : MarksState) : Type 0 where
  heads : t.heads ≡ s.heads
  log : t.log ≡ s.log

itself : (s : MarksState) → Same s s
itself s = record { heads = refl; log = refl }

if_same : (b : Bool) (s t : MarksState) → Same s t → Same s (if b then t else s)
if_same true s t a = a
if_same false s t a = itself s

-- and as many frames with bytes
record Stays (h k : Held) : Type 0 where
  marks : Same h.marks k.marks
  size : length k.pages ≡ length h.pages

stays : (h : Held) → Stays h h
stays h = record { marks = itself h.marks; size = refl }

stays_as : (h k l : Held) → l ≡ k → Stays h k → Stays h l
stays_as h k l e a = subst (λ (z : Held). Stays h z) (sym e) a

with_same : (h : Held) (s : MarksState) → Same h.marks s → Stays h (with_marks h s)
with_same h s a = record { marks = a; size = refl }

stays_on : (h k l : Held) → Stays h k → Stays k l → Stays h l
stays_on h k l a b = record { marks = record { heads = b.marks.heads ∙ a.marks.heads; log = b.marks.log ∙ a.marks.log }; size = b.size ∙ a.size }

stays_bare : (h k : Held) → Stays h k → IsBare h → IsBare k
stays_bare h k a b = record {
  frames = λ at. subst (λ z. IsEmpty (frame_in z at)) (sym a.marks.heads) (b.frames at);
  apart = subst (λ (z : HeadState). AreApart page_of z.frames) (sym a.marks.heads) b.apart;
  each = a.size ∙ b.each ∙ sym (ap (λ (z : HeadState). length z.frames) a.marks.heads);
  log = a.marks.log ∙ b.log;
}

-- ---- local moves
tried_same : (s : MarksState) (slot : ℕ) (n : Name) (m : Mode) (place : ℕ) (has_memory : Bool) (spare : ℕ) (a : Ask) → Same s (tried_as s slot n m place has_memory spare a)
tried_same s slot n m place has_memory spare ask.Have = itself s
tried_same s slot n m place has_memory spare (ask.Conflict by) = record { heads = refl; log = refl }
tried_same s slot n m place has_memory spare (ask.Postponed by) = record { heads = refl; log = refl }
tried_same s slot n m place true spare ask.Local = record { heads = refl; log = refl }
tried_same s slot n m place false spare ask.Local = record { heads = refl; log = refl }
tried_same s slot n m place has_memory spare (ask.Facility more) = itself s

postponed_same : (s : MarksState) (slot : ℕ) (o : Option ℕ) → Same s (postponed_for_member s slot o)
postponed_same s slot None = itself s
postponed_same s slot (Some by) = record { heads = refl; log = refl }

waiting_same : (s : MarksState) (id : ℕ) (o : Option ℕ) → Same s (waiting_for s id o)
waiting_same s id None = itself s
waiting_same s id (Some by) = record { heads = refl; log = refl }

-- a frame in which a page was just placed is empty, and so it stays however often it is pinned
set_empty : (xs : List Frame) (i : ℕ) (x : Frame) → IsEmpty x → ((at : ℕ) → IsEmpty (frame_at xs at)) → (at : ℕ) → IsEmpty (frame_at (slice_set xs i x) at)
set_empty [] i x new old at = old at
set_empty (y ∷ ys) zero x new old zero = new
set_empty (y ∷ ys) zero x new old (suc at) = old (suc at)
set_empty (y ∷ ys) (suc i) x new old zero = old zero
set_empty (y ∷ ys) (suc i) x new old (suc at) = set_empty ys i x new (λ k. old (suc k)) at

-- a page that no frame has is in one then, and the frame that is pinned has its page
within : (xs : List Frame) (i : ℕ) (x : Frame) → (i < length xs → AreApart page_of (slice_set xs i x)) → AreApart page_of xs → AreApart page_of (slice_set xs i x)
within xs i x put old = elim (cases_lt i (length xs)) [
  | inl l ↦ put l
  | inr past ↦ subst (λ (z : List Frame). AreApart page_of z) (sym (set_past xs i x past)) old
]

put_apart : (xs : List Frame) (i : ℕ) (p : PageId) → find_page xs p ≡ None → AreApart page_of xs → AreApart page_of (slice_set xs i (holding p))
put_apart xs i p none old = within xs i (holding p) (λ l. apart_put page_of xs i (holding p) p l refl old (λ g e. absurd (none-some g (sym none ∙ e)))) old

pin_apart : (xs : List Frame) (i pins : ℕ) → AreApart page_of xs → AreApart page_of (slice_set xs i (record (frame_at xs i) { pins = pins }))
pin_apart xs i pins old = within xs i (record (frame_at xs i) { pins = pins }) (λ l. apart_less page_of xs i (record (frame_at xs i) { pins = pins }) l old (λ id e. placed_is xs i ∙ e)) old

module _ (h : Held) where
  abbrev At : MarksState → Type 0
  At s = IsBare (with_marks h s)

  if_bare : (b : Bool) (s t : MarksState) → At s → At t → At (if b then t else s)
  if_bare true s t old new = new
  if_bare false s t old new = old

  same_bare : (s t : MarksState) → Same s t → At s → At t
  same_bare s t a b = stays_bare (with_marks h s) (with_marks h t) (record { marks = a; size = refl }) b

  placed_bare : (s : MarksState) (p : PageId) (o : Option ℕ) → find_page s.heads.frames p ≡ None → At s → At (placed_at s p o)
  placed_bare s p None none b = b
  placed_bare s p (Some at) none b =
      if_bare (is_unpinned (head_of s.heads at)) s (with_heads s (placed_in s.heads at p)) b
      (record {
        frames = set_empty s.heads.frames at (holding p) (record { unfilled = refl; unregistered = refl; unchanged = refl }) b.frames;
        apart = put_apart s.heads.frames at p none b.apart;
        each = b.each ∙ sym (length-set s.heads.frames at (holding p));
        log = b.log;
      })

  place_bare : (s : MarksState) (p : PageId) (o : Option ℕ) → find_page s.heads.frames p ≡ o → At s → At (if is_none o then placed_at s p (free_in s.heads) else s)
  place_bare s p None none b = placed_bare s p (free_in s.heads) none b
  place_bare s p (Some at) found b = b

  pinned : (s : MarksState) (at pins : ℕ) → At s → At (with_heads s (with_head s.heads at (record (head_of s.heads at) { pins = pins })))
  pinned s at pins b =
      let x = b.frames at in
      let head : Frame = record (head_of s.heads at) { pins = pins } in
      record {
        frames = set_empty s.heads.frames at head (record { unfilled = x.unfilled; unregistered = x.unregistered; unchanged = x.unchanged }) b.frames;
        apart = pin_apart s.heads.frames at pins b.apart;
        each = b.each ∙ sym (length-set s.heads.frames at head);
        log = b.log;
      }

  pinned_bare : (s : MarksState) (at : ℕ) → At s → At (after_pin s at)
  pinned_bare s at b =
      let pins = (head_of s.heads at).pins + 1 in
      let new = pinned s at pins b in
      if_bare (may_pin s.heads at) s (with_heads s (pinned_to s.heads at pins)) b (record { frames = new.frames; apart = new.apart; each = new.each; log = new.log })

  unpinned_bare : (s : MarksState) (at : ℕ) → At s → At (after_unpin s at)
  unpinned_bare s at b =
      let pins = (head_of s.heads at).pins - 1 in
      if_bare (may_unpin s.heads at) s (with_heads s (with_head s.heads at (record (head_of s.heads at) { pins = pins }))) b (pinned s at pins b)

  moved_bare : (x : Local) (s : MarksState) → At s → At (moved x s)
  moved_bare (TryClaim slot n m has_memory spare) s b =
      same_bare s (after_claim s slot n m s.trans.place has_memory spare)
      (if_same (may_claim s slot n) s (tried_as s slot n m s.trans.place has_memory spare (ask_of s.locks slot n m)) (tried_same s slot n m s.trans.place has_memory spare (ask_of s.locks slot n m))) b
  moved_bare (Begin slot n has_memory lock_room room) s b =
      same_bare s (after_begin s slot n has_memory lock_room room) (if_same (may_begin s.trans slot) s (with_trans (with_lock_room s lock_room) (begun_with s.trans slot n has_memory room)) (record { heads = refl; log = refl })) b
  moved_bare (Refuse slot) s b = same_bare s (moved (Refuse slot) s) (record { heads = refl; log = refl }) b
  moved_bare (Abort slot) s b = same_bare s (moved (Abort slot) s) (record { heads = refl; log = refl }) b
  moved_bare (RefuseForMemory slot) s b = same_bare s (moved (RefuseForMemory slot) s) (record { heads = refl; log = refl }) b
  moved_bare (Place p) s b = place_bare s p (find_page s.heads.frames p) refl b
  moved_bare (Pin at) s b = pinned_bare s at b
  moved_bare (Unpin at) s b = unpinned_bare s at b
  moved_bare (Postpone slot) s b =
      same_bare s (after_postpone s slot) (if_same (can_postpone s slot) s (postponed_for_member s slot (retainer s (owner.Slot slot))) (postponed_same s slot (retainer s (owner.Slot slot)))) b
  moved_bare (WaitFor id) s b = same_bare s (after_wait s id) (if_same (is_postponed s.locks id) s (waiting_for s id (retainer s (owner.Rollback id))) (waiting_same s id (retainer s (owner.Rollback id)))) b

  all_bare : (xs : List Local) (s : MarksState) → At s → At (all_moved xs s)
  all_bare [] s b = b
  all_bare (x ∷ xs) s b = all_bare xs (moved x s) (moved_bare x s b)

  reaches_bare : (s t : MarksState) → Reaches s t → At s → At t
  unfolding Reaches
  reaches_bare s t r b = subst (λ (z : MarksState). At z) (sym r.1) (all_bare r.0 s b)

ends_bare : (h k : Held) → Ends h k → IsBare h → IsBare k
ends_bare h k e b = subst (λ (z : Held). IsBare z) (sym e.1) (reaches_bare h h.marks k.marks e.0 (record { frames = b.frames; apart = b.apart; each = b.each; log = b.log }))

begun_stays : (h : Held) (place : ℕ) → Stays h (begun h place)
begun_stays h place = with_same h (begun h place).marks (record { heads = refl; log = refl })

told_bare : (h k : Held) (place : ℕ) → Tells h place k → IsBare h → IsBare k
told_bare h k place t b = ends_bare (begun h place) k t (stays_bare h (begun h place) (begun_stays h place) b)

-- ---- what is settled
way_same : (s : MarksState) (o : Owner) (n : Name) (a : CellAnswer) (at : ℕ) → Same s (in_the_way_after s o n a at)
way_same s o n answer.Clean at = itself s
way_same s o n (answer.Conflict by) at = record { heads = refl; log = refl }
way_same s o n (answer.Postponed m) at = record { heads = refl; log = refl }

found_same : (s : MarksState) (o : Owner) (n : Name) (x : Said) → Same s (found_after s o n x)
found_same s o n said.Clean = itself s
found_same s o n said.Empty = itself s
found_same s o n said.Open = itself s
found_same s o n (said.InTheWay a at) = way_same s o n a at

cycle_same : (s : MarksState) (place : ℕ) (o : Option (ℕ × List TranId)) → Same s (cycle_after s place o)
cycle_same s place None = itself s
cycle_same s place (Some x) = record { heads = refl; log = refl }

cast_stays : (h : Held) (page : PageId) (answer : Reply) → Stays h (cast_read h page answer)
cast_stays h page (reply.Granted version) = stays h
cast_stays h page (reply.Retained by) = stays h
cast_stays h page (reply.RecordsFull limit) = stays h
cast_stays h page (reply.Contention share exclusive version) = stays h
cast_stays h page (reply.Moved version) = stays h
cast_stays h page (reply.RetainedLock named mode) = stays h
cast_stays h page reply.Done = stays h
cast_stays h page reply.Nothing = stays h
cast_stays h page reply.Found = stays h
cast_stays h page reply.NoData = stays h
cast_stays h page reply.CacheFull = stays h
cast_stays h page reply.Lost = stays h
cast_stays h page reply.Written = stays h
cast_stays h page reply.Valid = stays h
cast_stays h page reply.Invalid = stays h
cast_stays h page reply.Taken = record { marks = itself h.marks; size = refl }
cast_stays h page reply.NotChanged = stays h
cast_stays h page (reply.Locked by) = stays h
cast_stays h page reply.NotHeld = stays h
cast_stays h page (reply.ChangedPage other) = stays h
cast_stays h page (reply.Query query) = stays h
cast_stays h page reply.Gone = stays h
cast_stays h page reply.Cells = stays h
cast_stays h page reply.Waits = stays h
cast_stays h page reply.Raised = stays h
cast_stays h page reply.NotRaised = stays h
cast_stays h page (reply.Status status) = stays h
cast_stays h page reply.NotLost = stays h
cast_stays h page (reply.ClaimTaken by) = stays h
cast_stays h page reply.Claimed = stays h
cast_stays h page (reply.Drawn lrsn) = stays h
cast_stays h page (reply.Stale index) = stays h
cast_stays h page (reply.LrsnEnd at) = stays h

never : {A : Type 0} → true ≡ false → A
never e = absurd (cc e)

-- an intent that changes no locks, and touches no pages
record Still (i : Intent) : Type 0 where
  unsent : (h : Held) → Stays h (unsent h i)
  stored : (h : Held) → Stays h (stored h i)
  unread : frame_read i ≡ None
  reserves : (h k : Held) → Reserves i h k → k ≡ h
  settles : (h k : Held) (p : Plan) (waits : List Wait) (cells : List Cell) (answer : Reply) (place : ℕ) (told : Told) → SettlesAs (waits_in i) h i p waits cells answer place told k → Stays h k

still : (i : Intent) → changes_locks i ≡ false → touches_pages i ≡ false → Still i
still intent.Step a b = record { unsent = λ h. stays h; stored = λ h. stays h; unread = refl; reserves = λ h k e. e; settles = λ h k p waits cells answer place said e. stays_as h h k e.1 (stays h) }
still (intent.Obtain o n m) a b = never a
still (intent.Grant o n m) a b = never a
still (intent.Ask o to n m) a b = record { unsent = λ h. stays h; stored = λ h. stays h; unread = refl; reserves = λ h k e. e; settles = λ h k p waits cells answer place said e. stays_as h h k e.1 (stays h) }
still (intent.Answers o n m asked) a b = record {
  unsent = λ h. stays h;
  stored = λ h. stays h;
  unread = refl;
  reserves = λ h k e. e;
  settles = λ h k p waits cells answer place said e. stays_as h (with_marks h (answered_after h.marks o n m asked cells)) k e.1 (with_same h (answered_after h.marks o n m asked cells) (found_same h.marks o n (summed cells 0 asked n m nothing).found));
}
still (intent.Status member) a b = record { unsent = λ h. stays h; stored = λ h. stays h; unread = refl; reserves = λ h k e. e; settles = λ h k p waits cells answer place said e. stays_as h h k e.1 (stays h) }
still (intent.Take past) a b = record { unsent = λ h. stays h; stored = λ h. stays h; unread = refl; reserves = λ h k e. e; settles = λ h k p waits cells answer place said e. stays_as h h k e.1 (stays h) }
still (intent.Answer asker n m) a b = record { unsent = λ h. stays h; stored = λ h. stays h; unread = refl; reserves = λ h k e. e; settles = λ h k p waits cells answer place said e. stays_as h h k e.1 (stays h) }
still (intent.ReleaseLock o) a b = never a
still (intent.ReleasePage page) a b = never a
still (intent.Purge n) a b = never a
still (intent.End o) a b = never a
still (intent.Wait slot by flag) a b = record { unsent = λ h. stays h; stored = λ h. stays h; unread = refl; reserves = λ h k e. e; settles = λ h k p waits cells answer place said e. stays_as h h k e.1 (stays h) }
still (intent.Unwait slot) a b = record { unsent = λ h. stays h; stored = λ h. stays h; unread = refl; reserves = λ h k e. e; settles = λ h k p waits cells answer place said e. stays_as h h k e.1 (stays h) }
still (intent.Waits slots) a b = record {
  unsent = λ h. stays h;
  stored = λ h. stays h;
  unread = refl;
  reserves = λ h k e. e;
  settles = λ h k p waits cells answer place said e. stays_as h (with_marks h k.marks) k e.1 (with_same h k.marks (subst (λ (z : MarksState). Same h.marks z) (sym e.0.3) (cycle_same h.marks place e.0.0)));
}
still (intent.Flag flag) a b = record { unsent = λ h. stays h; stored = λ h. stays h; unread = refl; reserves = λ h k e. e; settles = λ h k p waits cells answer place said e. stays_as h h k e.1 (stays h) }
still (intent.Raise flag) a b = record { unsent = λ h. stays h; stored = λ h. stays h; unread = refl; reserves = λ h k e. e; settles = λ h k p waits cells answer place said e. stays_as h h k e.1 (stays h) }
still intent.LoseCache a b = never b
still (intent.Read at) a b = never b
still (intent.ReadPage at) a b = never b
still (intent.Test at slot gives) a b = never b
still (intent.WritePage at) a b = never b
still (intent.Unregister at) a b = never b
still (intent.Change slot action frames) a b = never b
still (intent.Undo o at) a b = never b
still (intent.Commit slot) a b = never b
still intent.Append a b = never b
still (intent.NextChanged past) a b = record { unsent = λ h. stays h; stored = λ h. stays h; unread = refl; reserves = λ h k e. e; settles = λ h k p waits cells answer place said e. stays_as h h k e.1 (stays h) }
still (intent.CastoutRead page) a b = record {
  unsent = λ h. stays h;
  stored = λ h. stays h;
  unread = refl;
  reserves = λ h k e. e;
  settles = λ h k p waits cells answer place said e. stays_as h (cast_read h page answer) k e.1 (cast_stays h page answer);
}
still intent.CastoutWrite a b = record { unsent = λ h. stays h; stored = λ h. record { marks = itself h.marks; size = refl }; unread = refl; reserves = λ h k e. e; settles = λ h k p waits cells answer place said e. stays_as h (with_cast h None) k e.1 (record { marks = itself h.marks; size = refl }) }
still intent.CastoutDone a b = record { unsent = λ h. stays h; stored = λ h. stays h; unread = refl; reserves = λ h k e. e; settles = λ h k p waits cells answer place said e. stays_as h (with_cast h None) k e.1 (record { marks = itself h.marks; size = refl }) }
still intent.PhaseDone a b = record { unsent = λ h. stays h; stored = λ h. stays h; unread = refl; reserves = λ h k e. e; settles = λ h k p waits cells answer place said e. stays_as h h k e.1 (stays h) }

-- ---- what is run
back_stays : (h k : Held) (l : Lent) (page : List ℕ) → k ≡ with_bytes h l page → Stays h k
back_stays h k (lent.Frame at) page e = stays_as h (with_page h at page) k e (record { marks = itself h.marks; size = length-set h.pages at page })
back_stays h k lent.Buffer page e = stays_as h (record h { buffer = page }) k e (record { marks = itself h.marks; size = refl })
back_stays h k lent.Spare page e = stays_as h (record h { spare = page }) k e (record { marks = itself h.marks; size = refl })

module _ (i : Intent) (x : Still i) where
  stored_stays : (h k : Held) (done : Result (Unit {0}) DiskError) (a : Answered) (told : Told) → Stores h i done a told k → Stays h k
  stored_stays h k (Ok d) a told e = stays_as h (stored h i) k e.2 (x.stored h)
  stored_stays h k (Err Failed) a told e = stays_as h h k e.2 (stays h)
  stored_stays h k (Err NoMemory) a told e = absurd e

  called_same : (w v : event.Drive) (h k : Held) (s : Sent) (done : Result (Unit {0}) DiskError) → Calls w h i s done v k → k ≡ h
  called_same w v h k sent.None done e = e.2
  called_same w v h k (sent.Command c) done e = e.2
  called_same w v h k sent.AppendLog done e = e.1
  called_same w v h k (sent.ReadPage page) done e = (subst (λ o. ReadsAs o w h page done v k) x.unread e).2
  called_same w v h k (sent.WritePage page) done e = e.1

  calls_stay : (w v : event.Drive) (h k : Held) (s : Sent) (a : Answered) (told : Told) → RunsCall w h i s a told v k → Stays h k
  calls_stay w v h k s a told r = subst (λ (z : Held). Stays z k) (called_same w v h r.after s r.done r.calls) (stored_stays r.after k r.done a told r.stores)

  ran_stays : (u v : event.World) (h k : Held) (s : Sent) (p : Plan) (place : ℕ) (a : Answered) (told : Told) → Runs u h i s p place a told v k → Stays h k
  ran_stays u v h k sent.None p place a told r = stays_as h (unsent h i) k r.held (x.unsent h)
  ran_stays u v h k (sent.Command c) p place a told r =
      let q = r.0 in
      stays_on h q.after k (back_stays h q.after (lent_of h c) (lent_bytes q.after (lent_of h c)) q.gives.executed.back) (x.settles q.after k p _ _ q.answer place told q.settles)
  ran_stays u v h k sent.AppendLog p place a told r = calls_stay u.drive v.drive h k sent.AppendLog a told r.0
  ran_stays u v h k (sent.ReadPage page) p place a told r = calls_stay u.drive v.drive h k (sent.ReadPage page) a told r.0
  ran_stays u v h k (sent.WritePage page) p place a told r = calls_stay u.drive v.drive h k (sent.WritePage page) a told r.0

-- ---- each kind of event
acts_bare : (m n : Member) (u v : event.World) (place : ℕ) (s : Sent) (a : Answered) → is_some m.restart ≡ true → Acts m u place s a v n → IsBare m.holds → IsBare n.holds
acts_bare m n u v place s a rests acts b =
    let i = acts.intent in
    let e = acts.happens in
    let x = still i (acts.rests rests) (acts.leaves rests) in
    let now = begun e.ready place in
    let ready : Stays m.holds now = subst (λ (z : Held). Stays m.holds (begun z place)) (sym (x.reserves m.holds e.ready e.reserves)) (begun_stays m.holds place) in
    let ran : Stays now e.after = ran_stays i x u v now e.after s e.plan place a e.said e.runs in
    let left : IsBare acts.after = ends_bare e.after acts.after e.ends (stays_bare m.holds e.after (stays_on m.holds now e.after ready ran) b) in
    subst (λ (z : Member). IsBare z.holds) (sym acts.member) left

adopts_bare : (h k : Held) (by : ℕ) (t : OpenTran) → Adopts h by t k → IsBare h → IsBare k
adopts_bare h k by t e b =
    let s = h.marks in
    let adopted : Same s (after_adopt s t.id by (changes_left t) (rows_left t)) = if_same (may_adopt s t.id (changes_left t)) s (with_rollback s t.id by (changes_left t) (rows_left t)) (record { heads = refl; log = refl }) in
    stays_bare h k (subst (λ (z : Held). Stays h z) (sym e.holds) (record { marks = record { heads = adopted.heads; log = adopted.log }; size = refl })) b

adopts_all_bare : (h k : Held) (by : ℕ) (ts : List OpenTran) → AdoptsAll h by ts k → IsBare h → IsBare k
adopts_all_bare h k by [] e b = subst (λ (z : Held). IsBare z) (sym e) b
adopts_all_bare h k by (t ∷ ts) e b = adopts_bare e.0 k by t e.2 (adopts_all_bare h e.0 by ts e.1 b)

left_bare : (o : Option Adopted) (h k : Held) → AdoptsLeft o h k → IsBare h → IsBare k
left_bare None h k e b = subst (λ (z : Held). IsBare z) (sym e) b
left_bare (Some left) h k e b = adopts_all_bare h k left.by left.trans e b

on_bare : (up : Bool) (q : Restarting) (h k : Held) (r : Option Restarting) → GoesOn up q h r k → IsBare h → IsBare k
on_bare true q h k r e b = subst (λ (z : Held). IsBare z) (sym e.1) b
on_bare false q h k r e b = left_bare e.left h k e.adopts b

restart_bare : (failed : Bool) (q : Restarting) (m n : Member) (place : ℕ) → RestartEnds failed q m place n → IsBare m.holds → IsBare n.holds
restart_bare true q m n place e b = subst (λ (z : Member). IsBare z.holds) (sym e) b
restart_bare false q m n place e b =
    let left = on_bare q.resources.marks.is_up q m.holds e.left n.restart e.goes_on b in
    subst (λ (z : Member). IsBare z.holds) (sym e.member) (told_bare e.left e.after place e.tells left)

rebuild_bare : (failed : Bool) (q : Rebuilding) (m n : Member) (place : ℕ) → RebuildEnds failed q m place n → IsBare m.holds → IsBare n.holds
rebuild_bare true q m n place e b = subst (λ (z : Member). IsBare z.holds) (sym e) b
rebuild_bare false q m n place e b = subst (λ (z : Member). IsBare z.holds) (sym e.member) (told_bare m.holds e.after place e.tells b)

makes_bare : (stepped : Stepped) (m n : Member) (u v : event.World) (place : ℕ) → is_some m.restart ≡ true → Makes m u place stepped v n → IsBare m.holds → IsBare n.holds
makes_bare (steps.Sent s a) m n u v place rests e b = acts_bare m n u v place s a rests e b
makes_bare (steps.Restart s a) m n u v place rests e b = restart_bare (is_failure a) e.reached m n place e.ends b
makes_bare (steps.Rebuild s a) m n u v place rests e b = rebuild_bare (is_failure a) e.reached m n place e.ends b
makes_bare steps.Failed m n u v place rests e b = absurd e

pub rests_bare : RestsBare
rests_bare m n u v f g place stepped rests e b = subst (λ (z : Member). IsBare z.holds) (sym e.enters.member) (record { frames = mid.frames; apart = mid.apart; each = mid.each; log = mid.log })
  where
    mid : IsBare e.mid.holds
    mid = makes_bare stepped m e.mid u v place rests e.makes b

-- ---- the begin
all_free_empty : (n at : ℕ) → IsEmpty (frame_at (replicate n free_frame) at)
all_free_empty zero at = record { unfilled = refl; unregistered = refl; unchanged = refl }
all_free_empty (suc n) zero = record { unfilled = refl; unregistered = refl; unchanged = refl }
all_free_empty (suc n) (suc at) = all_free_empty n at

free_at : (n at : ℕ) → page_at page_of (replicate n free_frame) at ≡ None
free_at zero at = refl
free_at (suc n) zero = refl
free_at (suc n) (suc at) = free_at n at

all_free_apart : (n : ℕ) → AreApart page_of (replicate n free_frame)
all_free_apart n p q id x y = absurd (none-some id (sym (free_at n p) ∙ x))

as_many : {A B : Type 0} → (n : ℕ) (a : A) (b : B) → length (replicate n a) ≡ length (replicate n b)
as_many zero a b = refl
as_many (suc n) a b = ap suc (as_many n a b)

pub down_is_bare : DownIsBare
down_is_bare sizes m down = record {
  frames = λ at. subst (λ z. IsEmpty (frame_in z at)) (sym down.holds.marks.heads) (all_free_empty sizes.pool at);
  apart = subst (λ (z : HeadState). AreApart page_of z.frames) (sym down.holds.marks.heads) (all_free_apart sizes.pool);
  each = ap (λ (z : List (List ℕ)). length z) down.holds.pages ∙ as_many sizes.pool zeros free_frame ∙ sym (ap (λ (z : HeadState). length z.frames) down.holds.marks.heads);
  log = down.holds.marks.log;
}
