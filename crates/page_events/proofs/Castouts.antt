-- A castout: its page is read under the castout lock, written to disk, and the castout ends.
use Rattle.std.proofs.Common.{◌≡◌, ◌≢◌, ℕ, refl, sym, ◌∙◌, ap, subst, Bool, true, false, inl, inr, List, Option, Some, None, arith}
use Rattle.std.specs.Prelude.{◌⊎◌, not, ◌||◌}
use Rattle.std.specs.FinMap.{insert}
use Rattle.std.proofs.lemmas.Bool.{both_ways, eqb-true, eq-eqb, or_cases}
use Rattle.ds_base.specs.declared.names.PageId.{PageId}
use Rattle.ds_disk.specs.Contents.{Contents}
use Rattle.cache_structure.specs.Directory.{Directory, after_castout_done, after_castout_read, castout_of}
use Rattle.cache_structure.specs.Sound.{IsSound}
use Rattle.cache_structure.specs.declared.face.CastReply.{CastReply}
use Rattle.cache_structure.specs.declared.face.CastReply.TheVariants as cast
use Rattle.cache_structure.specs.declared.face.DoneReply.{DoneReply}
use Rattle.cache_structure.specs.declared.face.DoneReply.TheVariants as done
use Rattle.cache_structure.specs.Replies.{cast_reply, done_reply}
use Rattle.facility.specs.declared.command.Command.TheVariants as command
use Rattle.facility.specs.CacheCommands.{lists_after_done, reply_to_cast}
use Rattle.facility.specs.States.{Held as Facility, castout_member}
use Rattle.member_intents.specs.declared.intent.Intent.{Intent}
use Rattle.member_intents.specs.declared.intent.Intent.TheVariants as intent
use Rattle.member_intents.specs.declared.outcome.Answered.{Answered}
use Rattle.member_intents.specs.declared.outcome.Answered.TheVariants as answered
use Rattle.member_intents.specs.declared.outcome.Sent.TheVariants as sent
use Rattle.member_needs.specs.declared.castout.Cast.{Cast}
use Rattle.member_needs.specs.declared.plans.Plan.{Plan}
use Rattle.member_effects.specs.declared.told.Told.{Told}
use Rattle.member_resources.specs.Held.{Held, with_cast}
use Rattle.member_resources.specs.Prepared.{is_holder}
use Rattle.member_resources.specs.Settled.{cast_read, kept_of, written_cast}
use Rattle.member_resources.specs.Events as event
use Rattle.member_resources.specs.Events.{Drive, RunsCall, RunsCommand, WritesPage, holder_in}
use Rattle.page_protocol.specs.Page.{put}
use Rattle.page_protocol.specs.Moves.{World}
use Rattle.page_world.specs.Numbers.{page_number}
use Rattle.page_world.specs.Holdings.{Holdings}
use Rattle.page_intents.specs.Castouts.{cast_behind, taken_cast}
use Rattle.page_events.specs.Beside.{Leads}
use Rattle.page_events.proofs.Facts.{Facts}
use Rattle.page_events.proofs.Made.{KeepsStandings, Now, cast_left, cast_stays, made, others_cast, standings_same}
use Rattle.page_events.proofs.Calls.{shows_put, was_done, went_on}
use Rattle.page_events.proofs.Frames.{directory_sound, directory_standings, drive_on}

-- ---- the page is read
taken_by : (h : Held) (page : PageId) (x : CastReply) → cast_read h page (reply_to_cast x) ≡ with_cast h (taken_cast h.cast page (reply_to_cast x))
taken_by h page cast.Taken = refl
taken_by h page cast.NotChanged = refl
taken_by h page (cast.Locked by) = refl
taken_by h page cast.Lost = refl

pub cast_read_leads : Facts → (w : World) (g : Holdings) (content : ℕ → ℕ → List ℕ) (forced : ℕ → ℕ) (h k : Held) (d : Drive) (v : event.World) (page : PageId) (p : Plan) (place : ℕ) (a : Answered) (told : Told)
    → Now w g content forced h d → v.drive ≡ d → RunsCommand g.facility h (intent.CastoutRead page) (command.CastoutRead page) p place a told v.facility k → Leads w v g content forced h k
cast_read_leads facts w g content forced h k d v page p place a told b drive r =
    let m = h.marks.member in
    let it = r.gives.executed in
    let buffer = r.after.buffer in
    let hand = taken_cast h.cast page r.answer in
    let end = with_cast (record h { buffer = buffer }) hand in
    let taken : cast_read r.after page r.answer ≡ with_cast r.after (taken_cast r.after.cast page r.answer) =
    subst (λ x. cast_read r.after page x ≡ with_cast r.after (taken_cast r.after.cast page x)) (sym it.executes.0) (taken_by r.after page (cast_reply g.facility.directory m page)) in
    let is : k ≡ end = r.settles.1 ∙ taken ∙ ap (λ (z : Held). with_cast z (taken_cast z.cast page r.answer)) it.back in
    subst (λ z. Leads w v g content forced h z) (sym is)
    (made facts.good w v g (cast_behind g v.facility m hand buffer) content content forced forced h end b.begins
    (facts.cast_read w g content forced (kept_of h) h.cast h.buffer buffer page r.answer v.facility b.begins b.cast it.executes)
    refl (drive_on d v.drive g.disk drive b.drive) (cast_left g v.facility m hand buffer)
    (directory_sound g.facility v.facility (after_castout_read g.facility.directory m page) it.executes.1 (facts.sound.castout_read g.facility.directory m page b.begins.sound))
    (others_cast g v.facility forced m hand buffer g.disk (directory_standings g.facility v.facility (after_castout_read g.facility.directory m page) it.executes.1)) (λ n i l. refl))

-- ---- the castout ends
done_standings : (f : Facility) (x : Directory) (r : DoneReply) → KeepsStandings f (record f { directory = x; lists = lists_after_done r f.lists })
done_standings f x done.Done = record { members = refl; statuses = refl; counter = omega arith }
done_standings f x done.NotHeld = record { members = refl; statuses = refl; counter = omega arith }
done_standings f x done.Lost = record { members = refl; statuses = refl; counter = omega arith }

-- by an intent that leaves no castout in hand
pub cast_over : Facts → (w : World) (g : Holdings) (content : ℕ → ℕ → List ℕ) (forced : ℕ → ℕ) (h k : Held) (d : Drive) (v : event.World) (hand : Cast) (i : Intent) (p : Plan) (place : ℕ) (a : Answered) (told : Told)
    → Now w g content forced h d → h.cast ≡ Some hand → (hand.is_written ≡ true) ⊎ (castout_member g.facility hand.page ≢ Some h.marks.member) → v.drive ≡ d
    → (r : RunsCommand g.facility h i (command.CastoutDone hand.page) p place a told v.facility k) → k ≡ with_cast r.after None → Leads w v g content forced h k
cast_over facts w g content forced h k d v hand i p place a told b taken over drive r left =
    let m = h.marks.member in
    let it = r.gives.executed in
    let x = after_castout_done g.facility.directory m hand.page in
    let end = with_cast (record h { spare = r.after.spare }) None in
    let is : k ≡ end = left ∙ ap (λ (z : Held). with_cast z None) it.back in
    subst (λ z. Leads w v g content forced h z) (sym is)
    (made facts.good w v g (cast_behind g v.facility m None h.buffer) content content forced forced h end b.begins
    (facts.cast_done w g content forced (kept_of h) hand h.buffer r.answer v.facility b.begins (cast_stays g m h.cast (Some hand) h.buffer h.buffer (sym taken) refl b.cast) over it.executes.0)
    refl (drive_on d v.drive g.disk drive b.drive) (cast_left g v.facility m None h.buffer)
    (subst (λ (z : Facility). IsSound z.directory) (sym it.executes.0.1) (facts.sound.castout_done g.facility.directory m hand.page b.begins.sound))
    (others_cast g v.facility forced m None h.buffer g.disk (subst (λ z. KeepsStandings g.facility z) (sym it.executes.0.1) (done_standings g.facility x (done_reply g.facility.directory m hand.page)))) (λ n i l. refl))

-- ---- who has the castout lock
held_by : (h : Held) (f : Facility) (hand : Cast) → h.cast ≡ Some hand → is_holder h (holder_in f h.cast) ≡ true → castout_member f hand.page ≡ Some h.marks.member
held_by h f hand taken e = by (castout_of f.directory hand.page) refl (subst (λ z. is_holder h (holder_in f z) ≡ true) taken e)
  where
    by : (o : Option ℕ) → castout_of f.directory hand.page ≡ o → is_holder h o ≡ true → castout_member f hand.page ≡ Some h.marks.member
    by None is x = absurd (cc x)
    by (Some q) is x = is ∙ ap Some (eqb-true q h.marks.member x)

pub not_held : (h : Held) (f : Facility) (hand : Cast) → h.cast ≡ Some hand → is_holder h (holder_in f h.cast) ≡ false → castout_member f hand.page ≢ Some h.marks.member
not_held h f hand taken e own = both_ways (is_holder h (holder_in f h.cast)) e (ap (λ z. is_holder h (holder_in f z)) taken ∙ ap (is_holder h) own ∙ eq-eqb h.marks.member h.marks.member refl)

pub may_end : (h : Held) (f : Facility) (hand : Cast) → h.cast ≡ Some hand → (hand.is_written || not (is_holder h (holder_in f h.cast))) ≡ true → (hand.is_written ≡ true) ⊎ (castout_member f hand.page ≢ Some h.marks.member)
may_end h f hand taken e = elim (or_cases hand.is_written (not (is_holder h (holder_in f h.cast))) e) [
  | inl written ↦ inl written
  | inr other ↦ inr (not_held h f hand taken (turned (is_holder h (holder_in f h.cast)) other))
]
  where
    turned : (x : Bool) → not x ≡ true → x ≡ false
    turned true e = absurd (cc e)
    turned false e = refl

-- ---- the page is written
pub cast_write_leads : Facts → (w : World) (g : Holdings) (content : ℕ → ℕ → List ℕ) (forced : ℕ → ℕ) (h k : Held) (d : Drive) (v : event.World) (hand : Cast) (a : Answered) (told : Told)
    → Now w g content forced h d → h.cast ≡ Some hand → is_holder h (holder_in g.facility h.cast) ≡ true → a ≢ answered.Failed → v.facility ≡ g.facility
    → RunsCall d h intent.CastoutWrite (sent.WritePage hand.page) a told v.drive k → Leads w v g content forced h k
cast_write_leads facts w g content forced h k d v hand a told b taken holds works same r =
    let m = h.marks.member in
    let finished = was_done r.after k intent.CastoutWrite r.done a told works r.stores in
    let calls = subst (λ z. WritesPage d h hand.page z v.drive r.after) finished.0 r.calls in
    let next = went_on d v.drive g.disk b.drive (λ x y. y ≡ record x { pages = insert x.pages hand.page h.buffer }) calls.0.ok.2 in
    let sent = record hand { is_written = true } in
    let end = with_cast h (Some sent) in
    let is : k ≡ end = finished.1 ∙ ap (λ (z : Held). with_cast z (written_cast z.cast)) calls.1 ∙ ap (λ z. with_cast h (written_cast z)) taken in
    let pages = record (cast_behind g g.facility m (Some sent) h.buffer) { disk = put g.disk (page_number hand.page) h.buffer } in
    subst (λ z. Leads w v g content forced h z) (sym is)
    (made facts.good w v g pages content content forced forced h end b.begins
    (facts.cast_write w g content forced (kept_of h) hand h.buffer b.begins (cast_stays g m h.cast (Some hand) h.buffer h.buffer (sym taken) refl b.cast) (held_by h g.facility hand taken holds))
    (sym same) (shows_put facts.numbers d v.drive g.disk b.drive next.0 hand.page h.buffer next.1 (ap (λ (z : Contents). z.pages) next.2)) (cast_left g g.facility m (Some sent) h.buffer) b.begins.sound
    (others_cast g g.facility forced m (Some sent) h.buffer (put g.disk (page_number hand.page) h.buffer) (standings_same g.facility)) (λ n i l. refl))
