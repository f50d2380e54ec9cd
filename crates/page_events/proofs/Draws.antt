-- Numbers that are drawn for log records, and draws that are refused.
use Rattle.std.proofs.Common.{◌≡◌, ◌≢◌, ℕ, zero, suc, ◌+◌, ◌<◌, ◌≤◌, refl, sym, ◌∙◌, ap, subst, Bool, true, false, List, [], ◌∷◌, Option, Some, None, take, arith}
use Rattle.std.specs.Prelude.{◌==◌, ◌&&◌, if◌then◌else◌, nat_lt, not, find, slice_get}
use Rattle.std.proofs.lemmas.Bool.{and_parts, cond-false, cond-true, eqb-true, false_from_ne_true, lt-ltb, ne_eqb}
use Rattle.std.proofs.lemmas.Option.{none-some, same_Some}
use Rattle.ds_base.specs.declared.names.PageId.{PageId}
use Rattle.ds_model.specs.declared.fate.Refusal.{Refusal}
use Rattle.ds_model.specs.declared.fate.Refusal.TheVariants as refusal
use Rattle.cache_structure.specs.Directory.{bit}
use Rattle.cache_structure.specs.Sound.{IsSound}
use Rattle.facility.specs.declared.command.Command.TheVariants as command
use Rattle.facility.specs.declared.command.Reply.{Reply}
use Rattle.facility.specs.declared.command.Reply.TheVariants as reply
use Rattle.facility.specs.Counting.{DrawsNumber, DrawsUndo, counter_after, draw_reply, drawn as number_drawn, drawn_to, first_stale, given, limit}
use Rattle.list_structure.specs.Standings.{status_of}
use Rattle.facility.specs.States.{Held as Facility}
use Rattle.page_plans.specs.declared.action.Action.{Action}
use Rattle.member_intents.specs.declared.intent.Frames.{Frames}
use Rattle.member_intents.specs.declared.intent.Intent.TheVariants as intent
use Rattle.member_intents.specs.declared.outcome.Answered.{Answered}
use Rattle.member_intents.specs.declared.outcome.Answered.TheVariants as answered
use Rattle.member_intents.specs.declared.outcome.Sent.{Sent}
use Rattle.member_trans.specs.declared.fate.Owner.{Owner}
use Rattle.member_trans.specs.declared.fate.Owner.TheVariants as owner
use Rattle.member_marks.specs.State.{MarksState}
use Rattle.member_marks.specs.Claims.{offered}
use Rattle.member_marks.specs.Frames.{after_registered}
use Rattle.member_needs.specs.declared.plans.Plan.{Plan}
use Rattle.member_needs.specs.Records.{change_page, frame_of, indexes_of}
use Rattle.member_effects.specs.Kept.{Kept}
use Rattle.member_effects.specs.Changes.{committed_after, drawn_after, undone_after, with_marks as kept_with}
use Rattle.member_effects.specs.declared.told.Told.{Told}
use Rattle.needs_law.specs.Lawful.{Changes, Commits, HoldsNth, HoldsPage, Undoes}
use Rattle.member_resources.specs.Held.{Held, with_marks}
use Rattle.member_resources.specs.Settled.{drawn, kept_of, undone, with_kept}
use Rattle.member_resources.specs.Events as event
use Rattle.member_resources.specs.Events.{Drive, RunsCommand}
use Rattle.page_protocol.specs.Moves.{World}
use Rattle.page_world.specs.Draws.{content_behind}
use Rattle.page_world.specs.Holdings.{Holdings, KeepsPages}
use Rattle.page_intents.specs.Stands.{behind, copy_of, Goes}
use Rattle.page_intents.specs.Draws.{IsPut, ShowNumber, changes_in, drawn_behind, is_frame, new_bytes, touched_in}
use Rattle.page_intents.specs.Owners.{LeavesPages}
use Rattle.page_events.specs.Beside.{Leads, SameOthers}
use Rattle.page_events.specs.Events.{IsRecorded}
use Rattle.page_events.proofs.Facts.{Facts}
use Rattle.page_events.proofs.Made.{KeepsStandings, Now, behind_leads, made, put_other, stay_leads}
use Rattle.page_events.proofs.Calls.{same_standings}
use Rattle.page_events.proofs.Frames.{drive_on}
use Rattle.page_events.proofs.Quiet.{keeps_itself}
use Rattle.page_events.proofs.Recorded.{commit_put}

-- ---- a number is drawn
others_drawn : (g : Holdings) (f : Facility) (forced : ℕ → ℕ) (m : ℕ) (t : Kept) → KeepsStandings g.facility f → SameOthers g (drawn_behind g f m t) forced forced m
others_drawn g f forced m t s = record {
  members = s.members;
  statuses = λ k l ne. ap (λ z. status_of z k) s.statuses;
  counter = s.counter;
  log = λ k ne. refl;
  stable = λ k ne. refl;
  written = λ k ne. put_other g.written m k (g.written m + 1) ne;
  copies = λ k n ne. cond-false (k == m) (copy_of t.marks.heads t.pages n) (g.copies k n) (ne_eqb k m ne);
  casts = λ k n ne. refl;
  keeps = λ k n ne e. e;
  takes = λ k n ne e. e;
}

counter_standings : (f v : Facility) (c : ℕ) → f.counter ≤ c → v ≡ record f { counter = c } → KeepsStandings f v
counter_standings f v c l e = subst (λ z. KeepsStandings f z) (sym e) (record { members = refl; statuses = refl; counter = l })

-- behind the record these are the marks and the frames
drawn_leads : Facts → (w : World) (g : Holdings) (content versions : ℕ → ℕ → List ℕ) (forced : ℕ → ℕ) (h k : Held) (d : Drive) (v : event.World) (t : Kept) (spare : List ℕ)
    → Now w g content forced h d → Goes w versions forced (drawn_behind g v.facility h.marks.member t) h.marks t → v.facility ≡ record g.facility { counter = g.facility.counter + 1 } → v.drive ≡ d
    → k ≡ with_kept (record h { spare = spare }) t → ((n i : ℕ) → i ≤ (w.pages n).last → versions n i ≡ content n i) → Leads w v g content forced h k
drawn_leads facts w g content versions forced h k d v t spare b goes counted drive is kept =
    let m = h.marks.member in
    let end = with_kept (record h { spare = spare }) t in
    subst (λ z. Leads w v g content forced h z) (sym is)
    (made facts.good w v g (drawn_behind g v.facility m t) content versions forced forced h end b.begins goes
    refl (drive_on d v.drive g.disk drive b.drive) b.cast (subst (λ (f : Facility). IsSound f.directory) (sym counted) b.begins.sound)
    (others_drawn g v.facility forced m t (counter_standings g.facility v.facility (g.facility.counter + 1) (omega arith) counted)) kept)

old_version : (w : World) (touched : ℕ → Bool) (bytes : ℕ → List ℕ) (content : ℕ → ℕ → List ℕ) (n i : ℕ) → i ≤ (w.pages n).last → content_behind w touched bytes content n i ≡ content n i
old_version w touched bytes content n i l =
    cond-false (touched n && (i == (w.pages n).last + 1)) (bytes n) (content n i)
    (false_from_ne_true (touched n && (i == (w.pages n).last + 1)) (λ e. above (eqb-true i ((w.pages n).last + 1) (and_parts (touched n) (i == (w.pages n).last + 1) e).1)))
  where
    above : i ≡ (w.pages n).last + 1 → ⊥
    above e = omega (arith, l, e)

-- ---- a copy isn't valid
stale_leads : Facts → (w : World) (g : Holdings) (content : ℕ → ℕ → List ℕ) (forced : ℕ → ℕ) (h k : Held) (d : Drive) (v : event.World) (at : ℕ) (page : PageId) (spare : List ℕ)
    → Now w g content forced h d → HoldsPage h.marks at page → v.facility ≡ g.facility → v.drive ≡ d → k ≡ with_marks (record h { spare = spare }) (after_registered h.marks at false) → Leads w v g content forced h k
stale_leads facts w g content forced h k d v at page spare b holds same drive is =
    let end = with_marks (record h { spare = spare }) (after_registered h.marks at false) in
    subst (λ z. Leads w v g content forced h z) (sym is)
    (behind_leads facts w g content forced h end d v b
    (subst (λ f. Goes w content forced (behind g f h.marks.member (kept_of end)) h.marks (kept_of end)) (sym same) (facts.stale w g content forced (kept_of h) at page b.begins holds))
    (same_standings g.facility v.facility same) (subst (λ (f : Facility). IsSound f.directory) (sym same) b.begins.sound) (drive_on d v.drive g.disk drive b.drive) refl refl)

-- ---- there is no number left
late_leads : Facts → (w : World) (g : Holdings) (content : ℕ → ℕ → List ℕ) (forced : ℕ → ℕ) (h k : Held) (d : Drive) (v : event.World) (o : Owner) (r : Refusal) (place : ℕ) (spare : List ℕ)
    → Now w g content forced h d → v.facility ≡ g.facility → v.drive ≡ d → k ≡ with_marks (record h { spare = spare }) (offered h.marks o r place) → Leads w v g content forced h k
late_leads facts w g content forced h k d v o r place spare b same drive is =
    stay_leads facts w g content forced h k d v b (subst (λ z. KeepsPages g.facility z) (sym same) (keeps_itself g.facility)) drive
    (record {
      leaves = subst (λ (z : Held). LeavesPages h.marks z.marks) (sym is) (facts.leave.offers h.marks o r place);
      pages = ap (λ (z : Held). z.pages) is;
      cast = ap (λ (z : Held). z.cast) is;
      buffer = ap (λ (z : Held). z.buffer) is;
    })

-- ---- which frame it is
find_case : (f : ℕ → Bool) (x : ℕ) (xs : List ℕ) (i : ℕ) (b : Bool) → ((find f xs ≡ Some i) → (j : ℕ) × (slice_get xs j ≡ Some i)) → (if b then Some x else find f xs) ≡ Some i → (j : ℕ) × (slice_get (x ∷ xs) j ≡ Some i)
find_case f x xs i true ih e = (0, e)
find_case f x xs i false ih e = let it = ih e in (suc it.0, it.1)

found_at : (f : ℕ → Bool) (xs : List ℕ) (i : ℕ) → find f xs ≡ Some i → (j : ℕ) × (slice_get xs j ≡ Some i)
found_at f [] i e = absurd (cc e)
found_at f (x ∷ xs) i e = find_case f x xs i (f x) (found_at f xs i) e

taken_at : (count : ℕ) (xs : List ℕ) (j i : ℕ) → slice_get (take count xs) j ≡ Some i → (j < count) × (slice_get xs j ≡ Some i)
taken_at zero xs j i e = absurd (cc e)
taken_at (suc count) [] j i e = absurd (cc e)
taken_at (suc count) (x ∷ xs) zero i e = (omega arith, e)
taken_at (suc count) (x ∷ xs) (suc j) i e = let it = taken_at count xs j i e in let l = it.0 in (omega (arith, l), it.1)

-- one that the frames of a change have
holds_as : (s : MarksState) (o : Option ℕ) (page : Option PageId) (i : ℕ) → o ≡ Some i → HoldsNth s o page → (p : PageId) × HoldsPage s i p
holds_as s None page i e holds = absurd (none-some i e)
holds_as s (Some at) None i e holds = absurd holds
holds_as s (Some at) (Some p) i e holds = (p, subst (λ z. HoldsPage s z p) (same_Some at i e) holds)

nth_frame : (frames : Frames) (j i : ℕ) → j < frames.count → slice_get frames.at j ≡ Some i → frame_of frames j ≡ Some i
nth_frame frames j i l e = cond-true (nat_lt j frames.count) (slice_get frames.at j) None (lt-ltb j frames.count l) ∙ e

holds_by : (s : MarksState) (pages : List (List ℕ)) (most slot : ℕ) (a : Action) (frames : Frames) (out : Sent) (j i : ℕ) → Changes s pages most slot a frames out → frame_of frames j ≡ Some i → j ≤ 2 → (p : PageId) × HoldsPage s i p
holds_by s pages most slot a frames out zero i lawful e l = holds_as s (frame_of frames 0) _ i e lawful.holds.first
holds_by s pages most slot a frames out (suc zero) i lawful e l = holds_as s (frame_of frames 1) _ i e lawful.holds.second
holds_by s pages most slot a frames out (suc (suc zero)) i lawful e l = holds_as s (frame_of frames 2) _ i e lawful.holds.third
holds_by s pages most slot a frames out (suc (suc (suc j))) i lawful e l = absurd (omega (arith, l))

holds_stale : (s : MarksState) (pages : List (List ℕ)) (most slot : ℕ) (a : Action) (frames : Frames) (out : Sent) (f : ℕ → Bool) (i : ℕ) → Changes s pages most slot a frames out → frames.count ≤ 3 → find f (take frames.count frames.at) ≡ Some i → (p : PageId) × HoldsPage s i p
holds_stale s pages most slot a frames out f i lawful few e =
    let it = found_at f (take frames.count frames.at) i e in
    let at = taken_at frames.count frames.at it.0 i it.1 in
    let l = at.0 in
    holds_by s pages most slot a frames out it.0 i lawful (nth_frame frames it.0 i at.0 at.1) (omega (arith, l, few))

-- ---- a change
pub change_leads : Facts → (w : World) (g : Holdings) (content : ℕ → ℕ → List ℕ) (forced : ℕ → ℕ) (h k : Held) (d : Drive) (v : event.World) (slot : ℕ) (act : Action) (frames : Frames) (out : Sent) (p : Plan) (place : ℕ) (a : Answered) (told : Told)
    → Now w g content forced h d → Changes h.marks h.pages h.limit slot act frames out → ((number : ℕ) → a ≡ answered.Reply (reply.Drawn number) → IsPut h.marks slot p number × ShowNumber (drawn_after (kept_of h) slot frames p (reply.Drawn number) place) (changes_in p frames) number) → v.drive ≡ d
    → RunsCommand g.facility h (intent.Change slot act frames) (command.Draw (indexes_of frames)) p place a told v.facility k → Leads w v g content forced h k
change_leads facts w g content forced h k d v slot act frames out p place a told b lawful recorded drive r = by (first_stale g.facility.directory h.marks.member (given (indexes_of frames))) refl
  where
    draws : DrawsNumber g.facility h.marks.member (indexes_of frames) r.answer v.facility
    draws = r.gives.executed.executes.0

    is : (x : Reply) → r.answer ≡ x → k ≡ drawn (record h { spare = r.after.spare }) slot frames p x place
    is x e = r.settles.1 ∙ ap (λ (z : Held). drawn z slot frames p r.answer place) r.gives.executed.back ∙ ap (λ z. drawn (record h { spare = r.after.spare }) slot frames p z place) e

    counted : (b : Bool) → nat_lt g.facility.counter limit ≡ b → first_stale g.facility.directory h.marks.member (given (indexes_of frames)) ≡ None → Leads w v g content forced h k
    counted true l e =
        let number = g.facility.counter + 1 in
        let answer : r.answer ≡ reply.Drawn number = draws.0 ∙ ap (λ z. draw_reply z g.facility.counter) e ∙ cond-true (nat_lt g.facility.counter limit) (reply.Drawn number) (reply.LrsnEnd g.facility.counter) l in
        let so : v.facility ≡ record g.facility { counter = number } = draws.1 ∙ ap (λ z. record g.facility { counter = drawn_to z g.facility.counter }) e ∙ ap (λ z. record g.facility { counter = z }) (cond-true (nat_lt g.facility.counter limit) number g.facility.counter l) in
        let t = drawn_after (kept_of h) slot frames p (reply.Drawn number) place in
        let known = recorded number (r.is ∙ ap answered.Reply answer) in
        let touched = touched_in g h.marks.member (changes_in p frames) in
        drawn_leads facts w g content (content_behind w touched (new_bytes t) content) forced h k d v t r.after.spare b
        (facts.change w g content forced (kept_of h) h.limit slot act frames p number place out v.facility b.begins lawful known.0 known.1 (subst (λ z. DrawsNumber g.facility h.marks.member (indexes_of frames) z v.facility) answer draws))
        so drive (is (reply.Drawn number) answer) (λ n i l. old_version w touched (new_bytes t) content n i l)
    counted false l e =
        let answer : r.answer ≡ reply.LrsnEnd g.facility.counter = draws.0 ∙ ap (λ z. draw_reply z g.facility.counter) e ∙ cond-false (nat_lt g.facility.counter limit) (reply.Drawn (g.facility.counter + 1)) (reply.LrsnEnd g.facility.counter) l in
        let so : v.facility ≡ g.facility = draws.1 ∙ ap (λ z. record g.facility { counter = drawn_to z g.facility.counter }) e ∙ ap (λ z. record g.facility { counter = z }) (cond-false (nat_lt g.facility.counter limit) (g.facility.counter + 1) g.facility.counter l) in
        late_leads facts w g content forced h k d v (owner.Slot slot) (refusal.LrsnEnd g.facility.counter) place r.after.spare b so drive (is (reply.LrsnEnd g.facility.counter) answer)

    by : (x : Option ℕ) → first_stale g.facility.directory h.marks.member (given (indexes_of frames)) ≡ x → Leads w v g content forced h k
    by None e = counted (nat_lt g.facility.counter limit) refl e
    by (Some i) e =
        let answer : r.answer ≡ reply.Stale i = draws.0 ∙ ap (λ z. draw_reply z g.facility.counter) e in
        let so : v.facility ≡ g.facility = draws.1 ∙ ap (λ z. record g.facility { counter = drawn_to z g.facility.counter }) e in
        let holds = holds_stale h.marks h.pages h.limit slot act frames out _ i lawful r.gives.can.few e in
        stale_leads facts w g content forced h k d v i holds.0 r.after.spare b holds.1 so drive (is (reply.Stale i) answer)

-- ---- a compensation
pub undo_leads : Facts → (w : World) (g : Holdings) (content : ℕ → ℕ → List ℕ) (forced : ℕ → ℕ) (h k : Held) (d : Drive) (v : event.World) (o : Owner) (at : ℕ) (out : Sent) (p : Plan) (place : ℕ) (a : Answered) (told : Told)
    → Now w g content forced h d → (lawful : Undoes h.marks o at out) → ((number : ℕ) → a ≡ answered.Reply (reply.Drawn number) → IsRecorded h (intent.Undo o at) p number place) → v.drive ≡ d
    → RunsCommand g.facility h (intent.Undo o at) (command.DrawUndo (record { count = 1; at = at ∷ 0 ∷ 0 ∷ [] })) p place a told v.facility k → Leads w v g content forced h k
undo_leads facts w g content forced h k d v o at out p place a told b lawful recorded drive r = by (first_stale g.facility.directory h.marks.member (given (record { count = 1; at = at ∷ 0 ∷ 0 ∷ [] }))) refl
  where
    draws : DrawsUndo g.facility h.marks.member (record { count = 1; at = at ∷ 0 ∷ 0 ∷ [] }) r.answer v.facility
    draws = r.gives.executed.executes.0

    is : (x : Reply) → r.answer ≡ x → k ≡ undone (record h { spare = r.after.spare }) o at p x place
    is x e = r.settles.1 ∙ ap (λ (z : Held). undone z o at p r.answer place) r.gives.executed.back ∙ ap (λ z. undone (record h { spare = r.after.spare }) o at p z place) e

    only : (j i : ℕ) → slice_get (at ∷ []) j ≡ Some i → at ≡ i
    only zero i e = same_Some at i e
    only (suc j) i e = absurd (none-some i e)

    by : (x : Option ℕ) → first_stale g.facility.directory h.marks.member (given (record { count = 1; at = at ∷ 0 ∷ 0 ∷ [] })) ≡ x → Leads w v g content forced h k
    by None e =
        let number = g.facility.counter + 1 in
        let answer : r.answer ≡ reply.Drawn number = draws.0 ∙ ap (λ z. number_drawn z g.facility.counter) e in
        let so : v.facility ≡ record g.facility { counter = number } = draws.1 ∙ ap (λ z. record g.facility { counter = counter_after z g.facility.counter }) e in
        let t = undone_after (kept_of h) o at p (reply.Drawn number) place in
        let known = recorded number (r.is ∙ ap answered.Reply answer) in
        let touched = touched_in g h.marks.member (is_frame (Some at)) in
        drawn_leads facts w g content (content_behind w touched (new_bytes t) content) forced h k d v t r.after.spare b
        (facts.undo w g content forced (kept_of h) o at p number place out v.facility b.begins lawful known.0 known.1 (subst (λ z. DrawsUndo g.facility h.marks.member (record { count = 1; at = at ∷ 0 ∷ 0 ∷ [] }) z v.facility) answer draws))
        so drive (is (reply.Drawn number) answer) (λ n i l. old_version w touched (new_bytes t) content n i l)
    by (Some i) e =
        let answer : r.answer ≡ reply.Stale i = draws.0 ∙ ap (λ z. number_drawn z g.facility.counter) e in
        let so : v.facility ≡ g.facility = draws.1 ∙ ap (λ z. record g.facility { counter = counter_after z g.facility.counter }) e in
        let found = found_at (λ index. not (bit g.facility.directory h.marks.member index)) (at ∷ []) i e in
        stale_leads facts w g content forced h k d v i (change_page lawful.newest.change) r.after.spare b (subst (λ z. HoldsPage h.marks z (change_page lawful.newest.change)) (only found.0 i found.1) lawful.holds) so drive (is (reply.Stale i) answer)

-- ---- a commit
above : (n : ℕ) → n + 1 ≢ 0
above n e = omega (arith, e)

pub commit_leads : Facts → (w : World) (g : Holdings) (content : ℕ → ℕ → List ℕ) (forced : ℕ → ℕ) (h k : Held) (d : Drive) (v : event.World) (slot : ℕ) (out : Sent) (p : Plan) (place : ℕ) (a : Answered) (told : Told)
    → Now w g content forced h d → Commits h.marks slot out → v.drive ≡ d
    → RunsCommand g.facility h (intent.Commit slot) (command.Draw (record { count = 0; at = 0 ∷ 0 ∷ 0 ∷ [] })) p place a told v.facility k → Leads w v g content forced h k
commit_leads facts w g content forced h k d v slot out p place a told b lawful drive r = by (nat_lt g.facility.counter limit) refl
  where
    draws : DrawsNumber g.facility h.marks.member (record { count = 0; at = 0 ∷ 0 ∷ 0 ∷ [] }) r.answer v.facility
    draws = r.gives.executed.executes.0

    is : (x : Reply) → r.answer ≡ x → k ≡ with_marks (record h { spare = r.after.spare }) (committed_after h.marks slot x place)
    is x e = r.settles.1 ∙ ap (λ (z : Held). with_marks z (committed_after z.marks slot r.answer place)) r.gives.executed.back
        ∙ ap (λ z. with_marks (record h { spare = r.after.spare }) (committed_after h.marks slot z place)) e

    by : (x : Bool) → nat_lt g.facility.counter limit ≡ x → Leads w v g content forced h k
    by true l =
        let number = g.facility.counter + 1 in
        let answer : r.answer ≡ reply.Drawn number = draws.0 ∙ cond-true (nat_lt g.facility.counter limit) (reply.Drawn number) (reply.LrsnEnd g.facility.counter) l in
        let so : v.facility ≡ record g.facility { counter = number } = draws.1 ∙ ap (λ z. record g.facility { counter = z }) (cond-true (nat_lt g.facility.counter limit) number g.facility.counter l) in
        let t = kept_with (kept_of h) (committed_after h.marks slot (reply.Drawn number) place) in
        drawn_leads facts w g content content forced h k d v t r.after.spare b
        (facts.commit w g content forced (kept_of h) slot number place out v.facility b.begins lawful (commit_put h.marks slot number out lawful (above g.facility.counter)) (subst (λ z. DrawsNumber g.facility h.marks.member (record { count = 0; at = 0 ∷ 0 ∷ 0 ∷ [] }) z v.facility) answer draws))
        so drive (is (reply.Drawn number) answer) (λ n i l. refl)
    by false l =
        let answer : r.answer ≡ reply.LrsnEnd g.facility.counter = draws.0 ∙ cond-false (nat_lt g.facility.counter limit) (reply.Drawn (g.facility.counter + 1)) (reply.LrsnEnd g.facility.counter) l in
        let so : v.facility ≡ g.facility = draws.1 ∙ ap (λ z. record g.facility { counter = z }) (cond-false (nat_lt g.facility.counter limit) (g.facility.counter + 1) g.facility.counter l) in
        late_leads facts w g content forced h k d v (owner.Slot slot) (refusal.LrsnEnd g.facility.counter) place r.after.spare b so drive (is (reply.LrsnEnd g.facility.counter) answer)
