-- Any event, by its intent: what is run and settled, and then the policy's local moves.
use Rattle.std.proofs.Common.{◌≡◌, ℕ, refl, sym, ap, subst, Bool, true, false, Option, Some, None, Result, Ok, Err}
use Rattle.std.specs.Prelude.{if◌then◌else◌}
use Rattle.std.proofs.lemmas.Bool.{cond_both}
use Rattle.ds_base.specs.declared.names.PageId.{PageId}
use Rattle.facility.specs.States.{Held as Facility}
use Rattle.facility.specs.declared.command.Command.TheVariants as command
use Rattle.member_intents.specs.declared.intent.Intent.{Intent}
use Rattle.member_intents.specs.declared.intent.Intent.TheVariants as intent
use Rattle.member_intents.specs.declared.outcome.Answered.{Answered}
use Rattle.member_intents.specs.declared.outcome.Sent.{Sent}
use Rattle.member_intents.specs.declared.outcome.Sent.TheVariants as sent
use Rattle.member_intents.specs.declared.test.Test.{Test}
use Rattle.member_intents.specs.Cells.{cell_slot}
use Rattle.member_marks.specs.Claims.{answer_to}
use Rattle.member_marks.specs.State.{MarksState}
use Rattle.member_needs.specs.Castout.{done}
use Rattle.member_needs.specs.Closing.{end_sent}
use Rattle.member_needs.specs.Needs.{need_of}
use Rattle.member_needs.specs.Plans.{intent_plan}
use Rattle.member_needs.specs.declared.needs.Setting.{Setting}
use Rattle.member_needs.specs.declared.plans.Plan.{Plan}
use Rattle.member_effects.specs.declared.told.Told.{Told}
use Rattle.needs_law.specs.Lawful.{Lawful, SendsLawfully}
use Rattle.member_resources.specs.declared.prepared.Prepared.{Prepared}
use Rattle.member_resources.specs.Events as event
use Rattle.member_resources.specs.Events.{Happens, Runs, asked_for, holder_in}
use Rattle.member_resources.specs.Held.{Held, begun, with_spare}
use Rattle.member_resources.specs.Prepared.{Reserves, needed, planned, setting_of}
use Rattle.marks_law.specs.Claims.{SameClaims}
use Rattle.marks_law.specs.Slots.{SlotsStand}
use Rattle.lock_protocol.specs.Machine.{World}
use Rattle.lock_protocol.specs.Sound.{RunKeepsSound}
use Rattle.lock_world.specs.Tied.{Claims}
use Rattle.lock_intents.specs.Homes.{ReachesGoes}
use Rattle.lock_intents.specs.Stands.{Leads, Goes}
use Rattle.lock_events.specs.Events.{EventGoes, ToldGoes}
use Rattle.lock_events.proofs.Intents.{Facts, QuietSent, Stands, over_agent, quiet_as, quiet_run, same_itself}
use Rattle.lock_events.proofs.Locking.{obtain_run, grant_run, ask_run, answer_run, release_run, page_run, purge_run, end_run, new_leads, new_stands}
use Rattle.lock_events.proofs.Stands.{with_marks_of, goes_from, goes_on, knows_own, leads_on, leads_to, sound_after}

-- ---- what is sent passed its tests
abbrev sent_in : Result Prepared Test → Result Sent Test
sent_in (Ok x) = Ok x.sent
sent_in (Err test) = Err test

pub needs_sent : (x : Result Sent Test) (y : Result Plan Test) (s : Sent) (p : Plan) → needed x y ≡ Ok (record { sent = s; plan = p }) → x ≡ Ok s
needs_sent (Err test) y s p e = absurd cc
needs_sent (Ok t) (Err test) s p e = absurd cc
needs_sent (Ok t) (Ok q) s p e = ap sent_in e

-- ---- what is run and settled
run_goes : Facts → (w : World) (u v : event.World) (held left : Claims) (h ready k : Held) (c : Setting) (i : Intent) (s : Sent) (p : Plan) (place : ℕ) (a : Answered) (told : Told)
    → Stands w u.facility held h.marks → SlotsStand h.marks → Lawful h.marks h.pages c i s → Reserves i h ready → Runs u (begun ready place) i s p place a told v k → Leads held left h.marks k.marks → Goes w u.facility v.facility left h.marks k.marks
run_goes facts w u v held left h ready k c intent.Step s p place a told st slots lawful e r leads = quiet_run facts w u v held left h ready k intent.Step s p place a told st (same_itself h ready e) (quiet_as s _ lawful tt) refl r leads
run_goes facts w u v held left h ready k c (intent.Obtain o n m) s p place a told st slots lawful e r leads =
    obtain_run facts w u v held left h k ready.marks.locks.spare o n m p place a told st slots lawful.lawful
    (subst (λ z. Runs u (begun z place) (intent.Obtain o n m) (sent.Command (command.Obtain n m)) p place a told v k) e.2 (subst (λ z. Runs u (begun ready place) (intent.Obtain o n m) z p place a told v k) lawful.is r)) leads
run_goes facts w u v held left h ready k c (intent.Grant o n m) s p place a told st slots lawful e r leads =
    grant_run facts w u v held left h k ready.marks.locks.spare o n m p place a told st slots lawful.lawful
    (subst (λ z. Runs u (begun z place) (intent.Grant o n m) (sent.Command (command.Grant (cell_slot o n) n m)) p place a told v k) e.2 (subst (λ z. Runs u (begun ready place) (intent.Grant o n m) z p place a told v k) lawful.is r)) leads
run_goes facts w u v held left h ready k c (intent.Ask o to n m) s p place a told st slots lawful e r leads =
    ask_run facts w u v held left h k o to n m p place a told st
    (subst (λ z. Runs u (begun z place) (intent.Ask o to n m) (sent.Command (command.Ask (cell_slot o n) to n m)) p place a told v k) e (subst (λ z. Runs u (begun ready place) (intent.Ask o to n m) z p place a told v k) lawful r)) leads
run_goes facts w u v held left h ready k c (intent.Answers o n m asked) s p place a told st slots lawful e r leads = quiet_run facts w u v held left h ready k (intent.Answers o n m asked) s p place a told st (same_itself h ready e) (quiet_as s _ lawful refl) refl r leads
run_goes facts w u v held left h ready k c (intent.Status member) s p place a told st slots lawful e r leads = quiet_run facts w u v held left h ready k (intent.Status member) s p place a told st (same_itself h ready e) (quiet_as s _ lawful refl) refl r leads
run_goes facts w u v held left h ready k c (intent.Take past) s p place a told st slots lawful e r leads = quiet_run facts w u v held left h ready k (intent.Take past) s p place a told st (same_itself h ready e) (quiet_as s _ lawful refl) refl r leads
run_goes facts w u v held left h ready k c (intent.Answer asker n m) s p place a told st slots lawful e r leads =
    answer_run facts w u v held left h k asker n m c.place p place a told st
    (subst (λ z. Runs u (begun z place) (intent.Answer asker n m) (sent.Command (command.Answer asker n m (answer_to h.marks n m) c.place)) p place a told v k) e (subst (λ z. Runs u (begun ready place) (intent.Answer asker n m) z p place a told v k) lawful.is r)) leads
run_goes facts w u v held left h ready k c (intent.ReleaseLock o) s p place a told st slots lawful e r leads =
    release_run facts w u v held left h k o lawful.told p place a told st (over_agent facts h.marks o slots lawful.may.over) lawful.next
    (subst (λ z. Runs u (begun z place) (intent.ReleaseLock o) (sent.Command (command.Release lawful.told.0 lawful.told.1)) p place a told v k) e (subst (λ z. Runs u (begun ready place) (intent.ReleaseLock o) z p place a told v k) lawful.is r)) leads
run_goes facts w u v held left h ready k c (intent.ReleasePage page) s p place a told st slots lawful e r leads =
    page_run facts w u v held left h k page lawful.told p place a told st lawful.next
    (subst (λ z. Runs u (begun z place) (intent.ReleasePage page) (sent.Command (command.Release lawful.told.0 lawful.told.1)) p place a told v k) e (subst (λ z. Runs u (begun ready place) (intent.ReleasePage page) z p place a told v k) lawful.is r)) leads
run_goes facts w u v held left h ready k c (intent.Purge n) s p place a told st slots lawful e r leads =
    purge_run facts w u v held left h k n p place a told st lawful.unclaimed
    (subst (λ z. Runs u (begun z place) (intent.Purge n) (sent.Command (command.Purge n)) p place a told v k) e (subst (λ z. Runs u (begun ready place) (intent.Purge n) z p place a told v k) lawful.is r)) leads
run_goes facts w u v held left h ready k c (intent.End o) s p place a told st slots lawful e r leads =
    end_run facts w u v held left h k o p place a told st
    (subst (λ z. Runs u (begun z place) (intent.End o) (end_sent h.marks o) p place a told v k) e (subst (λ z. Runs u (begun ready place) (intent.End o) z p place a told v k) lawful.is r)) leads
run_goes facts w u v held left h ready k c (intent.Wait slot holder flag) s p place a told st slots lawful e r leads = quiet_run facts w u v held left h ready k (intent.Wait slot holder flag) s p place a told st (same_itself h ready e) (quiet_as s _ lawful.is refl) refl r leads
run_goes facts w u v held left h ready k c (intent.Unwait slot) s p place a told st slots lawful e r leads = quiet_run facts w u v held left h ready k (intent.Unwait slot) s p place a told st (same_itself h ready e) (quiet_as s _ lawful.is refl) refl r leads
run_goes facts w u v held left h ready k c (intent.Waits bits) s p place a told st slots lawful e r leads = quiet_run facts w u v held left h ready k (intent.Waits bits) s p place a told st (same_itself h ready e) (quiet_as s _ lawful refl) refl r leads
run_goes facts w u v held left h ready k c (intent.Flag flag) s p place a told st slots lawful e r leads = quiet_run facts w u v held left h ready k (intent.Flag flag) s p place a told st (same_itself h ready e) (quiet_as s _ lawful refl) refl r leads
run_goes facts w u v held left h ready k c (intent.Raise flag) s p place a told st slots lawful e r leads = quiet_run facts w u v held left h ready k (intent.Raise flag) s p place a told st (same_itself h ready e) (quiet_as s _ lawful refl) refl r leads
run_goes facts w u v held left h ready k c intent.LoseCache s p place a told st slots lawful e r leads = quiet_run facts w u v held left h ready k intent.LoseCache s p place a told st (same_itself h ready e) (quiet_as s _ lawful refl) refl r leads
run_goes facts w u v held left h ready k c (intent.Read at) s p place a told st slots lawful e r leads = quiet_run facts w u v held left h ready k (intent.Read at) s p place a told st (same_itself h ready e) (quiet_as s _ lawful.is refl) refl r leads
run_goes facts w u v held left h ready k c (intent.ReadPage at) s p place a told st slots lawful e r leads = quiet_run facts w u v held left h ready k (intent.ReadPage at) s p place a told st (same_itself h ready e) (quiet_as s _ lawful.is tt) refl r leads
run_goes facts w u v held left h ready k c (intent.Test at slot gives) s p place a told st slots lawful e r leads = quiet_run facts w u v held left h ready k (intent.Test at slot gives) s p place a told st (same_itself h ready e) (quiet_as s _ lawful.is refl) refl r leads
run_goes facts w u v held left h ready k c (intent.WritePage at) s p place a told st slots lawful e r leads = quiet_run facts w u v held left h ready k (intent.WritePage at) s p place a told st (same_itself h ready e) (quiet_as s _ lawful.is refl) refl r leads
run_goes facts w u v held left h ready k c (intent.Unregister at) s p place a told st slots lawful e r leads = quiet_run facts w u v held left h ready k (intent.Unregister at) s p place a told st (same_itself h ready e) (quiet_as s _ lawful.is refl) refl r leads
run_goes facts w u v held left h ready k c (intent.Change slot action frames) s p place a told st slots lawful e r leads = quiet_run facts w u v held left h ready k (intent.Change slot action frames) s p place a told st (record { locks = ap (λ (z : Held). z.marks.locks) e; member = ap (λ (z : Held). z.marks.member) e }) (quiet_as s _ lawful.is refl) refl r leads
run_goes facts w u v held left h ready k c (intent.Undo o at) s p place a told st slots lawful e r leads = quiet_run facts w u v held left h ready k (intent.Undo o at) s p place a told st (same_itself h ready e) (quiet_as s _ lawful.is refl) refl r leads
run_goes facts w u v held left h ready k c (intent.Commit slot) s p place a told st slots lawful e r leads = quiet_run facts w u v held left h ready k (intent.Commit slot) s p place a told st (same_itself h ready e) (quiet_as s _ lawful.is refl) refl r leads
run_goes facts w u v held left h ready k c intent.Append s p place a told st slots lawful e r leads = quiet_run facts w u v held left h ready k intent.Append s p place a told st (same_itself h ready e) (quiet_as s _ lawful.is tt) refl r leads
run_goes facts w u v held left h ready k c (intent.NextChanged past) s p place a told st slots lawful e r leads = quiet_run facts w u v held left h ready k (intent.NextChanged past) s p place a told st (same_itself h ready e) (quiet_as s _ lawful refl) refl r leads
run_goes facts w u v held left h ready k c (intent.CastoutRead page) s p place a told st slots lawful e r leads = quiet_run facts w u v held left h ready k (intent.CastoutRead page) s p place a told st (same_itself h ready e) (quiet_as s _ lawful refl) refl r leads
run_goes facts w u v held left h ready k c intent.CastoutWrite s p place a told st slots lawful e r leads = quiet_run facts w u v held left h ready k intent.CastoutWrite s p place a told st (same_itself h ready e) (quiet_as s _ lawful.is (cond_both c.is_holder (sent.WritePage lawful.cast.page) (done lawful.cast.page) (λ z. QuietSent z) (λ f. tt) (λ f. refl))) refl r leads
run_goes facts w u v held left h ready k c intent.CastoutDone s p place a told st slots lawful e r leads = quiet_run facts w u v held left h ready k intent.CastoutDone s p place a told st (same_itself h ready e) (quiet_as s _ lawful.is refl) refl r leads
run_goes facts w u v held left h ready k c intent.PhaseDone s p place a told st slots lawful e r leads = quiet_run facts w u v held left h ready k intent.PhaseDone s p place a told st (same_itself h ready e) (quiet_as s _ lawful refl) refl r leads

-- ---- and then the policy
pub events_go : SendsLawfully → RunKeepsSound → ReachesGoes → Facts → EventGoes
events_go lawful law reaches facts w u v held left h k i place s a sound tied up slots knows happens leads =
    let st : Stands w u.facility held h.marks = record { tied = tied; up = up; knows = knows } in
    let c : Setting = setting_of h (holder_in u.facility h.cast) place in
    let may : Lawful h.marks h.pages c i s = lawful h.marks h.pages c i s (needs_sent (need_of h.marks h.pages c i) (intent_plan h.marks h.pages h.limit i) s happens.plan happens.lawful) in
    let mid = happens.after.marks in
    let between = with_marks_of held h.marks.member mid in
    let first : Goes w u.facility v.facility between h.marks mid = run_goes facts w u v held between h happens.ready happens.after c i s happens.plan place a happens.said st slots may happens.reserves happens.runs (leads_to held h.marks mid) in
    goes_on w u.facility v.facility between left h.marks mid k.marks first
    (reaches first.moved.world v.facility between left mid k.marks (sound_after law w u.facility v.facility between h.marks mid first sound) first.moved.tied first.stands (knows_own held h.marks.member mid first.same) happens.ends.0 (leads_on held left h.marks mid k.marks first.same leads))

pub told_goes : ReachesGoes → ToldGoes
told_goes reaches w u held left h k place sound tied up knows ends leads =
    let st : Stands w u.facility held (begun h place).marks = new_stands w u.facility held h place (record { tied = tied; up = up; knows = knows }) in
    goes_from w u.facility u.facility left h.marks (begun h place).marks k.marks refl (reaches w u.facility held left (begun h place).marks k.marks sound st.tied st.up st.knows ends.0 (new_leads held left h place k.marks leads))
