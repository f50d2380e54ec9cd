-- What an event of a member refuses, and the fates that it enters.
use Rattle.std.proofs.lemmas.Bool.{or_parts}
use Rattle.std.proofs.Common.{◌≡◌, ◌∙◌, inl, inr, ℕ, Bool, true, false, Option, Some, None, refl, sym, ap, subst}
use Rattle.ds_base.specs.declared.names.Sizes.{Sizes}
use Rattle.ds_model.specs.declared.fate.Refusal.{Refusal}
use Rattle.ds_model.specs.declared.fate.Refusal.TheVariants as refusal
use Rattle.ds_model.specs.declared.script.Script.{Script}
use Rattle.member_intents.specs.declared.outcome.Answered.{Answered}
use Rattle.member_intents.specs.declared.outcome.Sent.{Sent}
use Rattle.member_marks.specs.State.{MarksState, slot_id, slot_tran}
use Rattle.member_marks.specs.Local.{Reaches}
use Rattle.member_resources.specs.Held.{Held, begun, with_marks}
use Rattle.member_resources.specs.Events.{World}
use Rattle.needs_law.specs.Lawful.{SendsLawfully}
use Rattle.rebuild_resources.specs.declared.intent.RebuildSent.{RebuildSent}
use Rattle.restart_marks.specs.declared.intent.RestartSent.{RestartSent}
use Rattle.script_fates.specs.Fated.{FatesState}
use Rattle.group_member.specs.declared.stepped.Stepped.{Stepped}
use Rattle.group_member.specs.declared.stepped.Stepped.TheVariants as steps
use Rattle.group_member.specs.Entering.{told_once}
use Rattle.group_member.specs.Failing.{is_in_hand}
use Rattle.group_member.specs.Happening.{Acts, Comes, Makes, RebuildEnds, RebuildGoesOn, Rebuilds, RestartEnds, RestartGoesOn, Restarts, Steps, Tells}
use Rattle.group_member.specs.Members.{Member}
use Rattle.group_member.specs.Stepping.{has_failed, is_failure, is_over}
use Rattle.refusal_causes.specs.Causes.{CauseHolds}
use Rattle.refusal_causes.specs.Moments.{AllCaused, Passes}
use Rattle.refusal_causes.proofs.Answering.{EventKnown}
use Rattle.refusal_causes.proofs.Fates.{answers_one_known, commits_known, refuses_one_known, stops_only_known}
use Rattle.refusal_causes.proofs.InTheWay.{conflict_claims, postponed_claims}
use Rattle.refusal_causes.proofs.Known.{Claim, KnownIn, HomeKnown}
use Rattle.refusal_causes.proofs.Moving.{Between, reaches_known}
use Rattle.refusal_causes.proofs.Sending.{happens_known}

-- ---- what is known of an event

-- whatever cause holds in the event is known
abbrev pub Closed : Claim → Member → World → ℕ → World → Member → Type 0
Closed K m w place v n = (number : ℕ) (why : Refusal) (named : ℕ) → CauseHolds w.facility m.holds (Passes m w place v n) place number why named → K number why named

event_known : (K : Claim) (m : Member) (w : World) (place : ℕ) (v : World) (n : Member) → Closed K m w place v n → EventKnown K w.facility m.holds place
event_known K m w place v n closed = record {
  retained = λ name by is number. closed number (refusal.Retained name by) place (inl (refl, inl is));
  full = λ most is number. closed number (refusal.RecordsFull most) place (refl, is);
  ends = λ at is above number. closed number (refusal.LrsnEnd at) place (refl, is, above);
  cycles = λ number cycle is. closed number (refusal.Deadlock cycle) place (refl, is);
  space = λ table pages is number. closed number (refusal.SpaceFull table pages) place (refl, is);
  held = λ name by event is number. closed number (refusal.Held name by) event (inr is);
  kept = λ name by event is number. closed number (refusal.Retained name by) event (inr is);
}

home_known : (K : Claim) (m : Member) (w : World) (place : ℕ) (v : World) (n : Member) → Closed K m w place v n → (s : MarksState) → Passes m w place v n s → HomeKnown K place s
home_known K m w place v n closed s passes = record {
  held = λ slot name mode by may is. closed (slot_tran s slot).number (refusal.Held name (slot_id s by)) place (inl (refl, (s, passes, conflict_claims s slot name mode by may is)));
  retained = λ slot name mode by may is. closed (slot_tran s slot).number (refusal.Retained name by) place (inl (refl, inr (s, passes, postponed_claims s slot name mode by may is)));
  memory = λ number. closed number refusal.Memory place refl;
  aborted = λ number. closed number refusal.Aborted place refl;
}

-- ---- events that tell the member of what befell it

tells_known : (K : Claim) (place : ℕ) (h k : Held) → Tells h place k → ((u : MarksState) → Between (begun h place).marks k.marks u → HomeKnown K place u) → KnownIn K place k.marks
tells_known K place h k t home = reaches_known K place (begun h place).marks k.marks t.0 home (tt, tt, refl)

-- moves up to here would have told it so too
tells_here : (h : Held) (place : ℕ) (u : MarksState) → Reaches (begun h place).marks u → Tells h place (with_marks (begun h place) u)
tells_here h place u r = (r, refl)

-- ---- an event, by what it was

module _ (law : SendsLawfully) (K : Claim) (m : Member) (w : World) (place : ℕ) (v : World) (n : Member) (closed : Closed K m w place v n) where
  acts_known : (sent : Sent) (answered : Answered) (mid : Member) → n.holds ≡ told_once mid.holds → Acts m w place sent answered v mid → KnownIn K place mid.holds.marks
  acts_known sent answered mid told a =
      let held : mid.holds ≡ a.after = ap (λ (x : Member). x.holds) a.member in
      let left : n.holds ≡ told_once a.after = told ∙ ap told_once held in
      let home = λ (u : MarksState) (b : Between a.happens.after.marks a.after.marks u).
      home_known K m w place v n closed u (record {
        stepped = steps.Sent sent answered;
        here = record m { holds = with_marks a.happens.after u };
        makes = record {
          intent = a.intent;
          after = with_marks a.happens.after u;
          keeps = a.keeps;
          rests = a.rests;
          leaves = a.leaves;
          happens = record {
            plan = a.happens.plan;
            ready = a.happens.ready;
            said = a.happens.said;
            after = a.happens.after;
            lawful = a.happens.lawful;
            reserves = a.happens.reserves;
            runs = a.happens.runs;
            ends = (b.0, refl);
            allowed = a.happens.allowed;
          };
          member = refl;
        };
        is = refl;
        left = a.after;
        goes_on = b.1;
        told = left;
      }) in
      let known : KnownIn K place a.after.marks = happens_known law K w v m.holds a.after a.intent place sent answered a.happens (event_known K m w place v n closed) home in
      subst (λ (x : Held). KnownIn K place x.marks) (sym held) known

  restart_known : (sent : RestartSent) (answered : Answered) (mid : Member) → n.holds ≡ told_once mid.holds → (r : Restarts m w place sent answered v mid) → (failed : Bool) → is_failure answered ≡ failed → RestartEnds failed r.reached m place mid → failed ≡ false → KnownIn K place mid.holds.marks
  restart_known sent answered mid told r true is ends e = cc
  restart_known sent answered mid told r false is ends e =
      let held : mid.holds ≡ ends.after = ap (λ (x : Member). x.holds) ends.member in
      let left : n.holds ≡ told_once ends.after = told ∙ ap told_once held in
      let home = λ (u : MarksState) (b : Between (begun ends.left place).marks ends.after.marks u).
      (let here : Member = record m { holds = with_marks (begun ends.left place) u; restart = mid.restart } in
      let goes_on : RestartGoesOn r.reached m place here = record { left = ends.left; after = with_marks (begun ends.left place) u; goes_on = ends.goes_on; tells = tells_here ends.left place u b.0; member = refl } in
      home_known K m w place v n closed u (record {
        stepped = steps.Restart sent answered;
        here = here;
        makes = record { keeps = r.keeps; reached = r.reached; makes = r.makes; ends = subst (λ (f : Bool). RestartEnds f r.reached m place here) (sym is) goes_on };
        is = refl;
        left = ends.after;
        goes_on = b.1;
        told = left;
      })) in
      subst (λ (x : Held). KnownIn K place x.marks) (sym held) (tells_known K place ends.left ends.after ends.tells home)

  rebuild_known : (sent : RebuildSent) (answered : Answered) (mid : Member) → n.holds ≡ told_once mid.holds → (r : Rebuilds m w place sent answered v mid) → (failed : Bool) → is_failure answered ≡ failed → RebuildEnds failed r.reached m place mid → failed ≡ false → KnownIn K place mid.holds.marks
  rebuild_known sent answered mid told r true is ends e = cc
  rebuild_known sent answered mid told r false is ends e =
      let held : mid.holds ≡ ends.after = ap (λ (x : Member). x.holds) ends.member in
      let left : n.holds ≡ told_once ends.after = told ∙ ap told_once held in
      let home = λ (u : MarksState) (b : Between (begun m.holds place).marks ends.after.marks u).
      (let here : Member = record m { holds = with_marks (begun m.holds place) u; rebuild = mid.rebuild } in
      let goes_on : RebuildGoesOn r.reached m place here = record { after = with_marks (begun m.holds place) u; goes_on = ends.goes_on; tells = tells_here m.holds place u b.0; member = refl } in
      home_known K m w place v n closed u (record {
        stepped = steps.Rebuild sent answered;
        here = here;
        makes = record { reached = r.reached; makes = r.makes; ends = subst (λ (f : Bool). RebuildEnds f r.reached m place here) (sym is) goes_on };
        is = refl;
        left = ends.after;
        goes_on = b.1;
        told = left;
      })) in
      subst (λ (x : Held). KnownIn K place x.marks) (sym held) (tells_known K place m.holds ends.after ends.tells home)

  makes_known : (stepped : Stepped) (mid : Member) → has_failed stepped ≡ false → n.holds ≡ told_once mid.holds → Makes m w place stepped v mid → KnownIn K place mid.holds.marks
  makes_known (steps.Sent sent answered) mid goes told makes = acts_known sent answered mid told makes
  makes_known (steps.Restart sent answered) mid goes told makes = restart_known sent answered mid told makes (is_failure answered) refl makes.ends goes
  makes_known (steps.Rebuild sent answered) mid goes told makes = rebuild_known sent answered mid told makes (is_failure answered) refl makes.ends goes
  makes_known steps.Failed mid goes told makes = absurd makes

  steps_known : (stepped : Stepped) (f g : FatesState) → has_failed stepped ≡ false → Steps m w f place stepped n v g → AllCaused K f → AllCaused K g
  steps_known stepped f g goes s known =
      let told : n.holds ≡ told_once s.mid.holds = ap (λ (x : Member). x.holds) s.enters.member in
      let made : KnownIn K place s.mid.holds.marks = makes_known stepped s.mid goes told s.makes in
      let committed = commits_known K s.mid.holds.marks s.mid.holds.marks.trans.decided f s.enters.committed s.enters.commits known in
      let refused = refuses_one_known K s.mid.holds.marks.trans.refused s.enters.committed s.enters.refused made.1 s.enters.refuses committed in
      answers_one_known K s.mid.holds.marks.trans.answered s.enters.refused g s.enters.answers refused

  comes_by : (script : Script) (begun_phases : ℕ) (sizes : Sizes) (choice : ℕ) (stepped : Stepped) (f g : FatesState) → Comes script begun_phases sizes choice m w f place stepped n v g → (over : Bool) → is_over stepped ≡ over → AllCaused K f → AllCaused K g
  comes_by script begun_phases sizes choice stepped f g c true e known = stops_only_known K (is_in_hand script begun_phases m.id) f g (c.stops e) known
  comes_by script begun_phases sizes choice stepped f g c false e known = steps_known stepped f g (or_parts (has_failed stepped) _ e).0 (c.steps e) known

  pub comes_known : (script : Script) (begun_phases : ℕ) (sizes : Sizes) (choice : ℕ) (stepped : Stepped) (f g : FatesState) → Comes script begun_phases sizes choice m w f place stepped n v g → AllCaused K f → AllCaused K g
  comes_known script begun_phases sizes choice stepped f g c known = comes_by script begun_phases sizes choice stepped f g c (is_over stepped) refl known
