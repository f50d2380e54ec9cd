-- Any event, by its intent: what is run and settled, and then the policy's local moves.
use Rattle.std.proofs.Common.{◌≡◌, ◌≢◌, ℕ, refl, sym, ◌∙◌, ap, subst, Bool, true, false, inr, List, [], ◌∷◌, Result, Ok, Err}
use Rattle.std.specs.Prelude.{◌==◌}
use Rattle.std.proofs.lemmas.Bool.{cond-false, cond-true}
use Rattle.ds_model.specs.declared.lock.Name.{Name}
use Rattle.lock_names.specs.declared.mode.Mode.{Mode}
use Rattle.facility.specs.declared.command.Command.{Command}
use Rattle.facility.specs.declared.command.Command.TheVariants as command
use Rattle.facility.specs.Commands.{cells_for}
use Rattle.facility.specs.States.{Held as Facility}
use Rattle.member_intents.specs.declared.intent.Intent.{Intent}
use Rattle.member_intents.specs.declared.intent.Intent.TheVariants as intent
use Rattle.member_intents.specs.declared.outcome.Answered.{Answered}
use Rattle.member_intents.specs.declared.outcome.Answered.TheVariants as answered
use Rattle.member_intents.specs.declared.outcome.Sent.{Sent}
use Rattle.member_intents.specs.declared.outcome.Sent.TheVariants as sent
use Rattle.member_intents.specs.declared.test.Test.{Test}
use Rattle.member_intents.specs.Cells.{cell_slot}
use Rattle.member_trans.specs.declared.fate.Owner.{Owner}
use Rattle.member_marks.specs.Claims.{after_end_of, after_release_of, answer_to}
use Rattle.member_marks.specs.Names.{without_name}
use Rattle.member_marks.specs.State.{MarksState, id_of, slot_id, with_kept}
use Rattle.member_needs.specs.declared.plans.Plan.{Plan}
use Rattle.member_needs.specs.Castout.{done}
use Rattle.member_needs.specs.Needs.{need_of}
use Rattle.member_needs.specs.Plans.{intent_plan}
use Rattle.member_needs.specs.Records.{indexes_of}
use Rattle.member_effects.specs.Answers.{answered_after}
use Rattle.member_effects.specs.Closing.{ended_after, purged_after, released_after}
use Rattle.member_effects.specs.Cycles.{cycle_after}
use Rattle.member_effects.specs.declared.told.Told.{Told}
use Rattle.needs_law.specs.Lawful.{Lawful, Releases, WritesCast, EndsCast, EndsTran, Purges}
use Rattle.member_resources.specs.declared.prepared.Prepared.{Prepared}
use Rattle.member_resources.specs.Events as event
use Rattle.member_resources.specs.Events.{Drive, Runs, RunsCommand, holder_in}
use Rattle.member_resources.specs.Held.{Held, begun, with_marks, with_spare}
use Rattle.member_resources.specs.Prepared.{Reserves, is_holder, needed, setting_of, with_change_room}
use Rattle.page_protocol.specs.Moves.{World}
use Rattle.page_world.specs.Holdings.{Holdings, KeepsPages}
use Rattle.page_intents.specs.Owners.{LeavesPages}
use Rattle.page_events.specs.Beside.{Leads, SameOthers}
use Rattle.page_events.specs.Events.{EventGoes, IsRecorded, Supplied, ToldGoes}
use Rattle.page_events.specs.Quiet.{leaves_pages}
use Rattle.page_events.proofs.Facts.{Facts}
use Rattle.page_events.proofs.Made.{Now, Stays, ended, stay_leads}
use Rattle.page_events.proofs.Calls.{append_leads, fill_leads}
use Rattle.page_events.proofs.Frames.{free_leads, read_leads, test_leads, write_leads}
use Rattle.page_events.proofs.Castouts.{cast_over, cast_read_leads, cast_write_leads, may_end, not_held}
use Rattle.page_events.proofs.Draws.{change_leads, commit_leads, undo_leads}
use Rattle.page_events.proofs.Locks.{answered_leaves, cycle_leaves, grant_leads, leaves_itself, lose_leads, obtain_leads, quiet_leads, release_leads, stays_as}
use Rattle.page_events.proofs.Begun.{appends_on, changes_on, claims_on, commits_on, fills_on, frees_on, now_begun, now_room, now_spare, reads_on, tests_on, undoes_on, writes_on}
use Rattle.page_events.proofs.Quiet.{keeps_itself}
use Rattle.page_events.proofs.Recorded.{change_put}

-- ---- what is sent passed its tests
abbrev sent_in : Result Prepared Test → Result Sent Test
sent_in (Ok x) = Ok x.sent
sent_in (Err test) = Err test

needs_sent : (x : Result Sent Test) (y : Result Plan Test) (s : Sent) (p : Plan) → needed x y ≡ Ok (record { sent = s; plan = p }) → x ≡ Ok s
needs_sent (Err test) y s p e = absurd cc
needs_sent (Ok t) (Err test) s p e = absurd cc
needs_sent (Ok t) (Ok q) s p e = ap sent_in e

abbrev plan_in : Result Prepared Test → Result Plan Test
plan_in (Ok x) = Ok x.plan
plan_in (Err test) = Err test

needs_plan : (x : Result Sent Test) (y : Result Plan Test) (s : Sent) (p : Plan) → needed x y ≡ Ok (record { sent = s; plan = p }) → y ≡ Ok p
needs_plan (Err test) y s p e = absurd cc
needs_plan (Ok t) (Err test) s p e = absurd cc
needs_plan (Ok t) (Ok q) s p e = ap plan_in e

-- ---- the member as the event finds it
rebased : (w : World) (v : event.World) (g : Holdings) (content : ℕ → ℕ → List ℕ) (forced : ℕ → ℕ) (h now k : Held) → now.marks.member ≡ h.marks.member → Leads w v g content forced now k → Leads w v g content forced h k
rebased w v g content forced h now k e a = record {
  moves = a.moves;
  world = a.world;
  run = a.run;
  plain = a.plain;
  left = a.left;
  versions = a.versions;
  force = a.force;
  beside = a.beside;
  same = a.same ∙ e;
  others = subst (λ z. SameOthers g a.left forced a.force z) e a.others;
  kept = a.kept;
}

keeps_same : (f v : Facility) → v ≡ f → KeepsPages f v
keeps_same f v e = subst (λ z. KeepsPages f z) (sym e) (keeps_itself f)

abbrev there : Holdings → Drive → event.World
there g d = record { facility = g.facility; drive = d }

-- what is run is this, of the member that has what it needs
ran : (u v : event.World) (h ready k : Held) (i : Intent) (s t : Sent) (p : Plan) (place : ℕ) (a : Answered) (told : Told) → ready ≡ h → s ≡ t → Runs u (begun ready place) i s p place a told v k → Runs u (begun h place) i t p place a told v k
ran u v h ready k i s t p place a told e is r = subst (λ z. Runs u (begun h place) i z p place a told v k) is (subst (λ z. Runs u (begun z place) i s p place a told v k) e r)

-- the marks are as they were
still : (g : Holdings) (h k : Held) (v : event.World) (i : Intent) (c : Command) (p : Plan) (place : ℕ) (a : Answered) (told : Told) (r : RunsCommand g.facility h i c p place a told v.facility k)
    → k ≡ r.after → r.after ≡ record h { spare = r.after.spare } → Stays h k
still g h k v i c p place a told r left back = stays_as h k h.marks r.after.spare (left ∙ back) (leaves_itself h.marks)

module _ (facts : Facts) (w : World) (g : Holdings) (content : ℕ → ℕ → List ℕ) (forced : ℕ → ℕ) (h ready k : Held) (d : Drive) (v : event.World) (s : Sent) (p : Plan) (place : ℕ) (a : Answered) (told : Told) (b : Now w g content forced h d) where
  abbrev now : Held
  now = begun h place

  abbrev u : event.World
  u = there g d

  here : Now w g content forced now d
  here = now_begun w g content forced h place d b

  back : Leads w v g content forced now k → Leads w v g content forced h k
  back a = rebased w v g content forced h now k refl a

  -- ---- nothing is sent
  nothing : v ≡ u → Stays now k → Leads w v g content forced now k
  nothing e stays = stay_leads facts w g content forced now k d v here (keeps_same g.facility v.facility (ap (λ (z : event.World). z.facility) e)) (ap (λ (z : event.World). z.drive) e) stays

  step_goes : s ≡ sent.None → ready ≡ h → Runs u (begun ready place) intent.Step s p place a told v k → Leads w v g content forced h k
  step_goes is e r =
      let x = ran u v h ready k intent.Step s sent.None p place a told e is r in
      back (nothing x.world (stays_as now k now.marks now.spare x.held (leaves_itself now.marks)))

  -- ---- a command that leaves the marks
  quiet_goes : (i : Intent) (c : Command) → leaves_pages c ≡ true → (r : RunsCommand g.facility now i c p place a told v.facility k) → v.drive ≡ d → k ≡ r.after → r.after ≡ record now { spare = r.after.spare } → Leads w v g content forced h k
  quiet_goes i c quiet r drive left spare = back (quiet_leads facts w g content forced now k d v i c p place a told here quiet drive r (still g now k v i c p place a told r left spare))

  -- ---- one that leaves the pages
  marks_go : (i : Intent) (c : Command) (t : MarksState) → leaves_pages c ≡ true → (r : RunsCommand g.facility now i c p place a told v.facility k) → v.drive ≡ d → k ≡ with_marks (record now { spare = r.after.spare }) t → LeavesPages now.marks t
      → Leads w v g content forced h k
  marks_go i c t quiet r drive is leaves = back (quiet_leads facts w g content forced now k d v i c p place a told here quiet drive r (stays_as now k t r.after.spare is leaves))

  release_goes : (o : Owner) → (lawful : Releases h.marks o s) → ready ≡ h → Runs u (begun ready place) (intent.ReleaseLock o) s p place a told v k → Leads w v g content forced h k
  release_goes o lawful e x =
      let q = ran u v h ready k (intent.ReleaseLock o) s (sent.Command (command.Release lawful.told.0 lawful.told.1)) p place a told e lawful.is x in
      let r = q.0 in
      marks_go (intent.ReleaseLock o) (command.Release lawful.told.0 lawful.told.1) (after_release_of now.marks o) refl r q.1
      (r.settles.1 ∙ ap (λ z. with_marks r.after (released_after r.after.marks o z)) r.gives.executed.executes.0.0 ∙ ap (λ (z : Held). with_marks z (after_release_of z.marks o)) r.gives.executed.back)
      (facts.leave.releases now.marks o)

  purge_goes : (n : Name) → Purges h.marks n s → ready ≡ h → Runs u (begun ready place) (intent.Purge n) s p place a told v k → Leads w v g content forced h k
  purge_goes n lawful e x =
      let q = ran u v h ready k (intent.Purge n) s (sent.Command (command.Purge n)) p place a told e lawful.is x in
      let r = q.0 in
      marks_go (intent.Purge n) (command.Purge n) (with_kept now.marks (without_name now.marks.kept n)) refl r q.1
      (r.settles.1 ∙ ap (λ z. with_marks r.after (purged_after r.after.marks n z)) r.gives.executed.executes.0.0 ∙ ap (λ (z : Held). with_marks z (with_kept z.marks (without_name z.marks.kept n))) r.gives.executed.back)
      (record { member = refl; heads = refl; log = refl; claims = λ page. refl })

  end_goes : (o : Owner) → EndsTran h.marks o s → ready ≡ h → Runs u (begun ready place) (intent.End o) s p place a told v k → Leads w v g content forced h k
  end_goes o lawful e x = by ((id_of h.marks o).number == 0) refl
    where
      by : (z : Bool) → ((id_of h.marks o).number == 0) ≡ z → Leads w v g content forced h k
      by true y =
          let q = ran u v h ready k (intent.End o) s sent.None p place a told e (lawful.is ∙ cond-true ((id_of h.marks o).number == 0) sent.None (sent.Command (command.End (id_of h.marks o))) y) x in
          back (nothing q.world (stays_as now k (after_end_of now.marks o) now.spare q.held (facts.leave.ends now.marks o)))
      by false y =
          let q = ran u v h ready k (intent.End o) s (sent.Command (command.End (id_of h.marks o))) p place a told e (lawful.is ∙ cond-false ((id_of h.marks o).number == 0) sent.None (sent.Command (command.End (id_of h.marks o))) y) x in
          let r = q.0 in
          marks_go (intent.End o) (command.End (id_of h.marks o)) (after_end_of now.marks o) refl r q.1
          (r.settles.1 ∙ ap (λ z. with_marks r.after (ended_after r.after.marks o z)) r.gives.executed.executes.0.0 ∙ ap (λ (z : Held). with_marks z (after_end_of z.marks o)) r.gives.executed.back)
          (facts.leave.ends now.marks o)

  answers_go : (o : Owner) (n : Name) (m : Mode) (asked : ℕ) → s ≡ sent.Command (command.Answers (cell_slot o n)) → ready ≡ h → Runs u (begun ready place) (intent.Answers o n m asked) s p place a told v k → Leads w v g content forced h k
  answers_go o n m asked is e x =
      let q = ran u v h ready k (intent.Answers o n m asked) s (sent.Command (command.Answers (cell_slot o n))) p place a told e is x in
      let r = q.0 in
      let cells = cells_for v.facility.lists.cells r.after.marks.member (command.Answers (cell_slot o n)) in
      marks_go (intent.Answers o n m asked) (command.Answers (cell_slot o n)) (answered_after now.marks o n m asked cells) refl r q.1
      (r.settles.1 ∙ ap (λ (z : Held). with_marks z (answered_after z.marks o n m asked cells)) r.gives.executed.back) (answered_leaves facts.leave now.marks o n m asked cells)

  waits_go : (slots : ℕ) → s ≡ sent.Command command.Waits → ready ≡ h → Runs u (begun ready place) (intent.Waits slots) s p place a told v k → Leads w v g content forced h k
  waits_go slots is e x =
      let q = ran u v h ready k (intent.Waits slots) s (sent.Command command.Waits) p place a told e is x in
      let r = q.0 in
      let found = r.settles.0.0 in
      marks_go (intent.Waits slots) command.Waits (cycle_after now.marks place found) refl r q.1
      (r.settles.1 ∙ ap (λ z. with_marks r.after z) r.settles.0.3 ∙ ap (λ (z : Held). with_marks z (cycle_after z.marks place found)) r.gives.executed.back) (cycle_leaves facts.leave now.marks place found)

  -- ---- castouts
  cast_write_goes : WritesCast (setting_of h (holder_in g.facility h.cast) place) s → a ≢ answered.Failed → ready ≡ h → Runs u (begun ready place) intent.CastoutWrite s p place a told v k → Leads w v g content forced h k
  cast_write_goes lawful works e x = by (is_holder h (holder_in g.facility h.cast)) refl
    where
      by : (z : Bool) → is_holder h (holder_in g.facility h.cast) ≡ z → Leads w v g content forced h k
      by true y =
          let hand = lawful.cast in
          let q = ran u v h ready k intent.CastoutWrite s (sent.WritePage hand.page) p place a told e (lawful.is ∙ cond-true (is_holder h (holder_in g.facility h.cast)) (sent.WritePage hand.page) (done hand.page) y) x in
          back (cast_write_leads facts w g content forced now k d v hand a told here lawful.taken y works q.1 q.0)
      by false y =
          let hand = lawful.cast in
          let q = ran u v h ready k intent.CastoutWrite s (sent.Command (command.CastoutDone hand.page)) p place a told e (lawful.is ∙ cond-false (is_holder h (holder_in g.facility h.cast)) (sent.WritePage hand.page) (done hand.page) y) x in
          back (cast_over facts w g content forced now k d v hand intent.CastoutWrite p place a told here lawful.taken (inr (not_held now g.facility hand lawful.taken y)) q.1 q.0 q.0.settles.1)

  cast_done_goes : EndsCast (setting_of h (holder_in g.facility h.cast) place) s → ready ≡ h → Runs u (begun ready place) intent.CastoutDone s p place a told v k → Leads w v g content forced h k
  cast_done_goes lawful e x =
      let hand = lawful.cast in
      let q = ran u v h ready k intent.CastoutDone s (sent.Command (command.CastoutDone hand.page)) p place a told e lawful.is x in
      back (cast_over facts w g content forced now k d v hand intent.CastoutDone p place a told here lawful.taken (may_end now g.facility hand lawful.taken lawful.ends) q.1 q.0 q.0.settles.1)

  -- ---- any intent
  run_leads : (i : Intent) → intent_plan h.marks h.pages h.limit i ≡ Ok p → Lawful h.marks h.pages (setting_of h (holder_in g.facility h.cast) place) i s → Reserves i h ready → Supplied g h ready i p place a → Runs u (begun ready place) i s p place a told v k → Leads w v g content forced h k
  run_leads intent.Step planned lawful e sup x = step_goes lawful e x
  run_leads (intent.Obtain o n m) planned lawful e sup x =
      let spare = ready.marks.locks.spare in
      let q = ran u v (with_spare h spare) ready k (intent.Obtain o n m) s (sent.Command (command.Obtain n m)) p place a told e.2 lawful.is x in
      let start = now_begun w g content forced (with_spare h spare) place d (now_spare w g content forced h spare d b) in
      rebased w v g content forced h (begun (with_spare h spare) place) k refl
      (obtain_leads facts w g content forced (begun (with_spare h spare) place) k d v start q.1 o n m p place a told (claims_on h spare place o n m lawful.lawful) sup.free q.0)
  run_leads (intent.Grant o n m) planned lawful e sup x =
      let spare = ready.marks.locks.spare in
      let q = ran u v (with_spare h spare) ready k (intent.Grant o n m) s (sent.Command (command.Grant (cell_slot o n) n m)) p place a told e.2 lawful.is x in
      let start = now_begun w g content forced (with_spare h spare) place d (now_spare w g content forced h spare d b) in
      rebased w v g content forced h (begun (with_spare h spare) place) k refl
      (grant_leads facts w g content forced (begun (with_spare h spare) place) k d v start q.1 o n m p place a told (claims_on h spare place o n m lawful.lawful) sup.free q.0)
  run_leads (intent.Ask o to n m) planned lawful e sup x =
      let q = ran u v h ready k (intent.Ask o to n m) s (sent.Command (command.Ask (cell_slot o n) to n m)) p place a told e lawful x in
      quiet_goes (intent.Ask o to n m) (command.Ask (cell_slot o n) to n m) refl q.0 q.1 q.0.settles.1 q.0.gives.executed.back
  run_leads (intent.Answers o n m asked) planned lawful e sup x = answers_go o n m asked lawful e x
  run_leads (intent.Status member) planned lawful e sup x =
      let q = ran u v h ready k (intent.Status member) s (sent.Command (command.Status member)) p place a told e lawful x in
      quiet_goes (intent.Status member) (command.Status member) refl q.0 q.1 q.0.settles.1 q.0.gives.executed.back
  run_leads (intent.Take past) planned lawful e sup x =
      let q = ran u v h ready k (intent.Take past) s (sent.Command (command.Take past)) p place a told e lawful x in
      quiet_goes (intent.Take past) (command.Take past) refl q.0 q.1 q.0.settles.1 q.0.gives.executed.back
  run_leads (intent.Answer asker n m) planned lawful e sup x =
      let q = ran u v h ready k (intent.Answer asker n m) s (sent.Command (command.Answer asker n m (answer_to h.marks n m) place)) p place a told e lawful.is x in
      quiet_goes (intent.Answer asker n m) (command.Answer asker n m (answer_to h.marks n m) place) refl q.0 q.1 q.0.settles.1 q.0.gives.executed.back
  run_leads (intent.ReleaseLock o) planned lawful e sup x = release_goes o lawful e x
  run_leads (intent.ReleasePage page) planned lawful e sup x =
      let q = ran u v h ready k (intent.ReleasePage page) s (sent.Command (command.Release lawful.told.0 lawful.told.1)) p place a told e lawful.is x in
      back (release_leads facts w g content forced now k d v here q.1 page s p place a told sup.distinct (record { told = lawful.told; next = lawful.next; unchanged = lawful.unchanged; is = lawful.is }) q.0)
  run_leads (intent.Purge n) planned lawful e sup x = purge_goes n lawful e x
  run_leads (intent.End o) planned lawful e sup x = end_goes o lawful e x
  run_leads (intent.Wait slot holder flag) planned lawful e sup x =
      let q = ran u v h ready k (intent.Wait slot holder flag) s (sent.Command (command.Wait (slot_id h.marks slot) holder flag)) p place a told e lawful.is x in
      quiet_goes (intent.Wait slot holder flag) (command.Wait (slot_id h.marks slot) holder flag) refl q.0 q.1 q.0.settles.1 q.0.gives.executed.back
  run_leads (intent.Unwait slot) planned lawful e sup x =
      let q = ran u v h ready k (intent.Unwait slot) s (sent.Command (command.Unwait (slot_id h.marks slot))) p place a told e lawful.is x in
      quiet_goes (intent.Unwait slot) (command.Unwait (slot_id h.marks slot)) refl q.0 q.1 q.0.settles.1 q.0.gives.executed.back
  run_leads (intent.Waits slots) planned lawful e sup x = waits_go slots lawful e x
  run_leads (intent.Flag flag) planned lawful e sup x =
      let q = ran u v h ready k (intent.Flag flag) s (sent.Command (command.Flag flag)) p place a told e lawful x in
      quiet_goes (intent.Flag flag) (command.Flag flag) refl q.0 q.1 q.0.settles.1 q.0.gives.executed.back
  run_leads (intent.Raise flag) planned lawful e sup x =
      let q = ran u v h ready k (intent.Raise flag) s (sent.Command (command.Raise flag)) p place a told e lawful x in
      quiet_goes (intent.Raise flag) (command.Raise flag) refl q.0 q.1 q.0.settles.1 q.0.gives.executed.back
  run_leads intent.LoseCache planned lawful e sup x =
      let q = ran u v h ready k intent.LoseCache s (sent.Command command.Lose) p place a told e lawful x in
      back (lose_leads facts w g content forced now k d v here q.1 p place a told q.0)
  run_leads (intent.Read at) planned lawful e sup x =
      let q = ran u v h ready k (intent.Read at) s (sent.Command (command.Read lawful.page at)) p place a told e lawful.is x in
      back (read_leads facts w g content forced now k d v at s p place a told here (reads_on h place at s lawful) q.1 q.0)
  run_leads (intent.ReadPage at) planned lawful e sup x =
      let q = ran u v h ready k (intent.ReadPage at) s (sent.ReadPage lawful.page) p place a told e lawful.is x in
      back (fill_leads facts w g content forced now k d v at s a told here (fills_on h place at s lawful) sup.works q.1 q.0)
  run_leads (intent.Test at slot gives) planned lawful e sup x =
      let q = ran u v h ready k (intent.Test at slot gives) s (sent.Command (command.Test at)) p place a told e lawful.is x in
      back (test_leads facts w g content forced now k d v at slot gives s p place a told here (tests_on h place at slot gives s lawful) q.1 q.0)
  run_leads (intent.WritePage at) planned lawful e sup x =
      let q = ran u v h ready k (intent.WritePage at) s (sent.Command (command.Write lawful.page at)) p place a told e lawful.is x in
      back (write_leads facts w g content forced now k d v at s p place a told here (writes_on h place at s lawful) q.1 q.0)
  run_leads (intent.Unregister at) planned lawful e sup x =
      let q = ran u v h ready k (intent.Unregister at) s (sent.Command (command.Unregister at)) p place a told e lawful.is x in
      back (free_leads facts w g content forced now k d v at s p place a told here (frees_on h place at s lawful) q.1 q.0)
  run_leads (intent.Change slot action frames) planned lawful e sup x =
      let room = with_change_room h slot in
      let q = ran u v room ready k (intent.Change slot action frames) s (sent.Command (command.Draw (indexes_of frames))) p place a told e lawful.is x in
      let start = now_begun w g content forced room place d (now_room w g content forced h slot d b) in
      rebased w v g content forced h (begun room place) k refl
      (change_leads facts w g content forced (begun room place) k d v slot action frames s p place a told start (changes_on h place h.limit slot action frames s lawful)
      (λ number y.
      let known = subst (λ z. IsRecorded (begun z place) (intent.Change slot action frames) p number place) e (sup.recorded number y) in
      (change_put h.marks (begun room place).marks h.pages h.limit slot number action frames p refl planned known.0, known.1)) q.1 q.0)
  run_leads (intent.Undo o at) planned lawful e sup x =
      let q = ran u v h ready k (intent.Undo o at) s (sent.Command (command.DrawUndo (record { count = 1; at = at ∷ 0 ∷ 0 ∷ [] }))) p place a told e lawful.is x in
      back (undo_leads facts w g content forced now k d v o at s p place a told here (undoes_on h place o at s lawful)
      (λ number y. subst (λ z. IsRecorded (begun z place) (intent.Undo o at) p number place) e (sup.recorded number y)) q.1 q.0)
  run_leads (intent.Commit slot) planned lawful e sup x =
      let q = ran u v h ready k (intent.Commit slot) s (sent.Command (command.Draw (record { count = 0; at = 0 ∷ 0 ∷ 0 ∷ [] }))) p place a told e lawful.is x in
      back (commit_leads facts w g content forced now k d v slot s p place a told here (commits_on h place slot s lawful) q.1 q.0)
  run_leads intent.Append planned lawful e sup x =
      let q = ran u v h ready k intent.Append s sent.AppendLog p place a told e lawful.is x in
      back (append_leads facts w g content forced now k d v s a told here (appends_on h place s lawful) sup.works q.1 q.0)
  run_leads (intent.NextChanged past) planned lawful e sup x =
      let q = ran u v h ready k (intent.NextChanged past) s (sent.Command (command.NextChanged past)) p place a told e lawful x in
      quiet_goes (intent.NextChanged past) (command.NextChanged past) refl q.0 q.1 q.0.settles.1 q.0.gives.executed.back
  run_leads (intent.CastoutRead page) planned lawful e sup x =
      let q = ran u v h ready k (intent.CastoutRead page) s (sent.Command (command.CastoutRead page)) p place a told e lawful x in
      back (cast_read_leads facts w g content forced now k d v page p place a told here q.1 q.0)
  run_leads intent.CastoutWrite planned lawful e sup x = cast_write_goes lawful sup.works e x
  run_leads intent.CastoutDone planned lawful e sup x = cast_done_goes lawful e x
  run_leads intent.PhaseDone planned lawful e sup x =
      let q = ran u v h ready k intent.PhaseDone s (sent.Command command.PhaseDone) p place a told e lawful x in
      quiet_goes intent.PhaseDone command.PhaseDone refl q.0 q.1 q.0.settles.1 q.0.gives.executed.back

-- ---- and then the policy
pub events_go : Facts → EventGoes
events_go facts w u v g content forced h k i place s a b happens sup =
    let now : Now w g content forced h u.drive = record { begins = b.begins; drive = b.drive; cast = b.cast } in
    let sent = needs_sent (need_of h.marks h.pages (setting_of h (holder_in u.facility h.cast) place) i) (intent_plan h.marks h.pages h.limit i) s happens.plan happens.lawful in
    let planned = needs_plan (need_of h.marks h.pages (setting_of h (holder_in u.facility h.cast) place) i) (intent_plan h.marks h.pages h.limit i) s happens.plan happens.lawful in
    let may : Lawful h.marks h.pages (setting_of h (holder_in g.facility h.cast) place) i s =
    subst (λ f. Lawful h.marks h.pages (setting_of h (holder_in f h.cast) place) i s) (sym b.facility) (facts.lawful h.marks h.pages (setting_of h (holder_in u.facility h.cast) place) i s sent) in
    let runs : Runs (there g u.drive) (begun happens.ready place) i s happens.plan place a happens.said v happens.after =
    subst (λ f. Runs (record { facility = f; drive = u.drive }) (begun happens.ready place) i s happens.plan place a happens.said v happens.after) (sym b.facility) happens.runs in
    ended facts w v g content forced h happens.after k
    (run_leads facts w g content forced h happens.ready happens.after u.drive v s happens.plan place a happens.said now i planned may happens.reserves sup runs) happens.ends.0 happens.ends.1

pub told_goes : Facts → ToldGoes
told_goes facts w u g content forced h k place b ends =
    let now : Now w g content forced h u.drive = record { begins = b.begins; drive = b.drive; cast = b.cast } in
    ended facts w u g content forced h (begun h place) k
    (stay_leads facts w g content forced h (begun h place) u.drive u now (keeps_same g.facility u.facility (sym b.facility)) refl
    (record { leaves = record { member = refl; heads = refl; log = refl; claims = λ page. refl }; pages = refl; cast = refl; buffer = refl })) ends.0 ends.1
