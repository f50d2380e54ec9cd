-- What a restart is that makes its member live.
use Rattle.std.proofs.Common.{◌≡◌, ℕ, refl, sym, ◌∙◌, ap, subst, Bool, true, false, inl, inr, List, [], ◌∷◌, Option, Some, None, Result, Ok, Err}
use Rattle.std.specs.Prelude.{◌≢◌, ◌⊎◌, ◌==◌, is_none, length}
use Rattle.std.specs.List.{AllByRecursion}
use Rattle.std.proofs.lemmas.Bool.{eqb-true}
use Rattle.ds_model.specs.declared.lock.Name.TheVariants as name
use Rattle.lock_names.specs.declared.mode.Mode.TheVariants.{X}
use Rattle.list_structure.specs.declared.standing.MemberStatus.TheVariants.{Up}
use Rattle.facility.specs.States.{Held as Facility}
use Rattle.facility.specs.declared.command.Command.TheVariants as command
use Rattle.log_rows.specs.Rows.{BothTell}
use Rattle.lock_protocol.specs.Machine.{no_interest}
use Rattle.member_intents.specs.declared.outcome.Answered.{Answered}
use Rattle.restart_records.specs.declared.trans.RestartStage.{RestartStage}
use Rattle.restart_records.specs.declared.trans.RestartStage.TheVariants as stage
use Rattle.restart_records.specs.declared.trans.RestartTran.{RestartTran}
use Rattle.restart_records.specs.Own.{OwnState}
use Rattle.restart_marks.specs.declared.intent.RestartIntent.{RestartIntent}
use Rattle.restart_marks.specs.declared.intent.RestartIntent.TheVariants as intent
use Rattle.restart_marks.specs.declared.intent.RestartSent.{RestartSent}
use Rattle.restart_marks.specs.declared.intent.RestartSent.TheVariants as sent
use Rattle.restart_marks.specs.declared.intent.RestartTest.TheVariants as test
use Rattle.restart_marks.specs.declared.told.RestartTold.{RestartTold}
use Rattle.restart_marks.specs.Needs.{need_of}
use Rattle.restart_marks.specs.OwnNeeds.{over_test, recovered_test, rest_test, up_need}
use Rattle.restart_marks.specs.State.{RestartState}
use Rattle.restart_marks.specs.Tested.{Tested, after, passed, when}
use Rattle.restart_law.specs.Opens.{GoOn, is_over}
use Rattle.restart_closing.proofs.Replies.{locals, settles}
use Rattle.restart_resources.specs.Events as event
use Rattle.restart_resources.specs.Events.{Runs}
use Rattle.restart_resources.specs.Held.{Held}
use Rattle.restart_resources.specs.Lending.{is_hand, lent_bytes}
use Rattle.lock_restarts.specs.Courses.{IsInOrder}
use Rattle.lock_restarts.specs.Sent.{IsStill, Sends, SendsLawfully}
use Rattle.lock_restarts.proofs.Sent.{after_first, holds, when_first, when_rest}
use Rattle.lock_restarts.proofs.Stands.{same_marks}
use Rattle.lock_restarts.proofs.Stills.{still_runs}
use Rattle.claimed_logs.specs.Steps.{EndsSo, EndsTell}

pub record Facts : Type 0 where
  pub both : BothTell
  pub lawful : SendsLawfully

never : false ≡ true → ⊥
never e = cc

-- ---- what was tested
both_first : (t rest : Tested) → holds (after t rest) ≡ true → holds t ≡ true
both_first (Ok x) rest h = refl
both_first (Err t) rest h = absurd (never h)

both_rest : (t rest : Tested) → holds (after t rest) ≡ true → holds rest ≡ true
both_rest (Ok x) rest h = h
both_rest (Err t) rest h = absurd (never h)

-- all of it is listed, no transaction is counted as left, and no rest follows the whole records
record Tests (s : RestartState) : Type 0 where
  listed : s.is_listed ≡ true
  left : s.trans.left ≡ 0
  tail : s.own.tail ≡ 0

tests_of : (s : RestartState) (x : RestartSent) → up_need s ≡ Ok x → Tests s
tests_of s x e =
    let over : Tested = after (over_test s) (rest_test s) in
    let all : holds (after (recovered_test s) (after (over_test s) (rest_test s))) ≡ true = after_first (after (recovered_test s) over) (Ok (sent.Command (command.SetStatus Up))) x e in
    let first = both_first (recovered_test s) over all in
    let rest = both_rest (recovered_test s) over all in
    let unheld : Tested = when (s.own.tail == 0) test.HasTail passed in
    let unwaited : Tested = when (length s.log.pending == 0) test.StillPending unheld in
    let unclaimed : Tested = when (is_none s.claim) test.StillClaimed unwaited in
    record {
      listed = when_first s.is_listed test.NotListed (when (length s.pages == 0) test.PagesLeft passed) first;
      left = eqb-true s.trans.left 0 (when_first (s.trans.left == 0) test.StillOpen (when (s.names.loose == 0) test.SomeLeft passed) (both_first (over_test s) (rest_test s) rest));
      tail = eqb-true s.own.tail 0 (when_first (s.own.tail == 0) test.HasTail passed
          (when_rest (length s.log.pending == 0) test.StillPending unheld (when_rest (is_none s.claim) test.StillClaimed unwaited (when_rest (is_none s.hand.page) test.StillPlaced unclaimed (both_rest (over_test s) (rest_test s) rest)))));
    }

-- ---- no other intent sets a standing
module _ (u v : event.World) (h k : Held) (a : Answered) (said : RestartTold) where
  stills : (i : RestartIntent) (x : RestartSent) → IsStill x → Runs u h i x a said v k → v.facility.lists.statuses ≡ u.facility.lists.statuses
  stills i x still r = (still_runs u v h k i x a said still r).statuses

  sets : (i : RestartIntent) (x : RestartSent) → Sends h.marks i x → Runs u h i x a said v k → (i ≡ intent.Up) ⊎ (v.facility.lists.statuses ≡ u.facility.lists.statuses)
  sets (intent.Obtain id) x sends r =
      let q : Runs u h (intent.Obtain id) (sent.Command (command.Obtain (name.Page sends.0) X)) a said v k = subst (λ (z : RestartSent). Runs u h (intent.Obtain id) z a said v k) sends.1 r in
      inr (ap (λ (z : Facility). z.lists.statuses) q.0.gives.executed.executes.0.1)
  sets (intent.Grant id) x sends r =
      let q : Runs u h (intent.Grant id) (sent.Command (command.Grant 0 (name.Page sends.0) X)) a said v k = subst (λ (z : RestartSent). Runs u h (intent.Grant id) z a said v k) sends.1 r in
      inr (ap (λ (z : Facility). z.lists.statuses) q.0.gives.executed.executes.0.2)
  sets (intent.Ask id to) x sends r =
      let q : Runs u h (intent.Ask id to) (sent.Command (command.Ask 0 to (name.Page sends.0) X)) a said v k = subst (λ (z : RestartSent). Runs u h (intent.Ask id to) z a said v k) sends.1 r in
      inr (ap (λ (z : Facility). z.lists.statuses) q.0.gives.executed.executes.0.1.1)
  sets intent.ReleasePage x sends r =
      let q : Runs u h intent.ReleasePage (sent.Command (command.Release (name.Page sends.0) no_interest)) a said v k = subst (λ (z : RestartSent). Runs u h intent.ReleasePage z a said v k) sends.1 r in
      inr (ap (λ (z : Facility). z.lists.statuses) q.0.gives.executed.executes.0.2)
  sets intent.PurgePage x sends r =
      let q : Runs u h intent.PurgePage (sent.Command (command.Purge (name.Page sends.0))) a said v k = subst (λ (z : RestartSent). Runs u h intent.PurgePage z a said v k) sends.1 r in
      inr (ap (λ (z : Facility). z.lists.statuses) q.0.gives.executed.executes.0.2)
  sets (intent.Purge n) x sends r =
      let q : Runs u h (intent.Purge n) (sent.Command (command.Purge n)) a said v k = subst (λ (z : RestartSent). Runs u h (intent.Purge n) z a said v k) sends.0 r in
      inr (ap (λ (z : Facility). z.lists.statuses) q.0.gives.executed.executes.0.2)
  sets intent.Up x sends r = inl refl
  sets intent.Step x sends r = inr (stills intent.Step x sends r)
  sets intent.ReadLog x sends r = inr (stills intent.ReadLog x sends r)
  sets intent.CutTail x sends r = inr (stills intent.CutTail x sends r)
  sets intent.RetainedAt x sends r = inr (stills intent.RetainedAt x sends r)
  sets intent.Read x sends r = inr (stills intent.Read x sends r)
  sets intent.ReadPage x sends r = inr (stills intent.ReadPage x sends r)
  sets intent.Test x sends r = inr (stills intent.Test x sends r)
  sets intent.WritePage x sends r = inr (stills intent.WritePage x sends r)
  sets intent.Append x sends r = inr (stills intent.Append x sends r)
  sets (intent.Answers id asked) x sends r = inr (stills (intent.Answers id asked) x sends r)
  sets (intent.Status who) x sends r = inr (stills (intent.Status who) x sends r)
  sets (intent.Undo id) x sends r = inr (stills (intent.Undo id) x sends r)
  sets intent.Unregister x sends r = inr (stills intent.Unregister x sends r)

  -- it leaves what is known of the log
  own_stays : BothTell → Runs u h intent.Up (sent.Command (command.SetStatus Up)) a said v k → k.marks.own ≡ h.marks.own
  own_stays law r =
      ap (λ (z : Held). z.marks.own) r.0.settles ∙ (settles law r.0.after intent.Up r.0.answer tt).own
      ∙ ap (λ (z : RestartState). z.own) (same_marks h r.0.after (is_hand h (command.SetStatus Up)) (lent_bytes r.0.after (is_hand h (command.SetStatus Up))) r.0.gives.executed.back)

pub ends_tell : Facts → EndsTell
ends_tell facts u v h k x a e order changed = by (sets u v h e.after a e.said e.intent x (facts.lawful h.marks e.intent x e.lawful) e.runs)
  where
    by : (e.intent ≡ intent.Up) ⊎ (v.facility.lists.statuses ≡ u.facility.lists.statuses) → EndsSo h.marks k.marks
    by (inr same) = absurd (changed same)
    by (inl up) = record {
      was = order.listed tests.listed;
      read = ap (λ (o : OwnState). o.is_read) own ∙ order.listed tests.listed;
      tail = ap (λ (o : OwnState). o.tail) own ∙ tests.tail;
      left = tests.left;
    }
      where
        lawful : need_of h.marks intent.Up ≡ Ok x
        lawful = subst (λ (i : RestartIntent). need_of h.marks i ≡ Ok x) up e.lawful

        tests : Tests h.marks
        tests = tests_of h.marks x lawful

        runs : Runs u h intent.Up (sent.Command (command.SetStatus Up)) a e.said v e.after
        runs = subst (λ (y : RestartSent). Runs u h intent.Up y a e.said v e.after) (facts.lawful h.marks intent.Up x lawful).0 (subst (λ (i : RestartIntent). Runs u h i x a e.said v e.after) up e.runs)

        own : k.marks.own ≡ h.marks.own
        own = (locals facts.both e.after.marks k.marks e.ends.0).own ∙ own_stays u v h e.after a e.said facts.both runs

-- ---- those that are over stay so
over_is : (s : RestartStage) → is_over s ≡ true → s ≡ stage.Over
over_is stage.Open e = absurd (never e)
over_is stage.Ended e = absurd (never e)
over_is stage.Over e = refl

pub all_over : (xs ys : List RestartTran) → GoOn xs ys → AllByRecursion (λ (x : RestartTran). x.stage ≡ stage.Over) xs → AllByRecursion (λ (x : RestartTran). x.stage ≡ stage.Over) ys
all_over [] [] go over = tt
all_over [] (y ∷ ys) go over = absurd go
all_over (x ∷ xs) [] go over = absurd go
all_over (x ∷ xs) (y ∷ ys) go over = (over_is y.stage (go.0.1 (ap is_over over.0)), all_over xs ys go.1 over.1)
