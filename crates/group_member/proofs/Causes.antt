-- Why an event is refused, by what refused it, and what a call of the disk that failed leaves as it was.
use Rattle.std.proofs.Common.{◌≡◌, ℕ, true, false, Option, Some, None, Result, Ok, Err, IsErrAnd, IsSomeAnd, inl, inr, subst}
use Rattle.list_structure.specs.Standings.{status_of, is_live}
use Rattle.member_intents.specs.declared.intent.Intent.{Intent}
use Rattle.member_intents.specs.declared.outcome.Answered.{Answered}
use Rattle.member_intents.specs.declared.outcome.Answered.TheVariants as answers
use Rattle.member_intents.specs.declared.outcome.Sent.{Sent}
use Rattle.member_intents.specs.declared.outcome.Sent.TheVariants as sent
use Rattle.member_intents.specs.declared.test.Test.{Test}
use Rattle.member_intents.specs.declared.test.StepFault.{StepFault}
use Rattle.member_intents.specs.declared.test.StepFault.TheVariants as stepping
use Rattle.member_resources.specs.Held.{Held}
use Rattle.member_resources.specs.Events.{Plan, Told, World, Runs, IsUnlawful, IsNotExecutable}
use Rattle.rebuild_resources.specs.Events as rebuilding
use Rattle.rebuild_resources.specs.State.{RebuildState}
use Rattle.rebuild_resources.specs.declared.intent.RebuildFault.{RebuildFault}
use Rattle.rebuild_resources.specs.declared.intent.RebuildFault.TheVariants as rebuild_faults
use Rattle.rebuild_resources.specs.declared.intent.RebuildIntent.{RebuildIntent}
use Rattle.rebuild_resources.specs.declared.intent.RebuildSent.{RebuildSent}
use Rattle.rebuild_resources.specs.declared.intent.RebuildSent.TheVariants as rebuild_sent
use Rattle.rebuild_resources.specs.declared.intent.RebuildTest.{RebuildTest}
use Rattle.rebuild_resources.specs.declared.told.RebuildTold.{RebuildTold}
use Rattle.restart_marks.specs.declared.intent.RestartFault.{RestartFault}
use Rattle.restart_marks.specs.declared.intent.RestartFault.TheVariants as restart_faults
use Rattle.restart_marks.specs.declared.intent.RestartIntent.{RestartIntent}
use Rattle.restart_marks.specs.declared.intent.RestartSent.{RestartSent}
use Rattle.restart_marks.specs.declared.intent.RestartSent.TheVariants as restart_sent
use Rattle.restart_marks.specs.declared.intent.RestartTest.{RestartTest}
use Rattle.restart_marks.specs.declared.told.RestartTold.{RestartTold}
use Rattle.member_restart.specs.Events as restarting
use Rattle.member_restart.specs.Held as held
use Rattle.group_member.specs.declared.fault.EventFault.{EventFault}
use Rattle.group_member.specs.declared.fault.EventFault.TheVariants as faults
use Rattle.group_member.specs.declared.rebuilding.Rebuilding.{Rebuilding}
use Rattle.group_member.specs.declared.restarting.Restarting.{Restarting}
use Rattle.group_member.specs.declared.stepped.Stepped.{Stepped}
use Rattle.group_member.specs.declared.stepped.Stepped.TheVariants as steps
use Rattle.group_member.specs.Faults.{rebuild_fault, restart_fault, step_fault}
use Rattle.group_member.specs.Happening.{IsInHand, Makes, RestartMakes, as_rebuilding, as_restarting}
use Rattle.group_member.specs.Members.{Member}
use Rattle.group_member.specs.Queries.{answers_held}
use Rattle.group_member.specs.Refusing.{Own, Restart, Rebuild, Adoption, Purge, Begin, Standing, IsRefused, OwnIsRefused, RestartIsRefused, RestartStepIsRefused, RebuildIsRefused}
use Rattle.group_member.specs.Resting.{RestsIdle, frees_claimed}
use Rattle.group_member.specs.Restarting.{LeftIsRefused, OpenIsRefused}
use Rattle.group_member.specs.Stepping.{has_failed}

-- ---- the fault that a `?` makes

pub fault_is : {X : Type 0} (result : Result X EventFault) (e f : EventFault) → IsErrAnd result (λ z. z ≡ e) → result ≡ Err f → e ≡ f
fault_is (Ok x) e f a h = absurd cc
fault_is (Err d) e f a h = let same : d ≡ e = a in cc

-- ---- the fault of what runs

pub own_refused : {X : Type 0} (m : Member) (w : World) (i : Intent) (place : ℕ) (v : World) (k : Held) (fault : StepFault) (r : Result X StepFault) → r ≡ Err fault → answers_held m.restart i ≡ false
    → ((test : Test) → r ≡ Err (stepping.Unlawful test) → IsUnlawful w m.holds i place test v k) → (r ≡ Err stepping.NotExecutable → IsNotExecutable w m.holds i place v)
    → step_fault fault ≡ faults.Unlawful → OwnIsRefused m w place v
own_refused m w i place v k (stepping.Unlawful test) r is keeps unlawful cannot so = record { intent = i; keeps = keeps; why = inl (test, k, unlawful test is) }
own_refused m w i place v k stepping.NotExecutable r is keeps unlawful cannot so = record { intent = i; keeps = keeps; why = inr (cannot is) }
own_refused m w i place v k stepping.NoMemory r is keeps unlawful cannot so = absurd cc

pub restart_refused : {X : Type 0} (m : Member) (w v : World) (before : Restarting) (k : held.Held) (fault : RestartFault) (r : Result X RestartFault) → r ≡ Err fault → m.restart ≡ Some before
    → ((test : RestartTest) → r ≡ Err (restart_faults.Unlawful test) → restarting.IsUnlawful (as_restarting w) before.resources test (as_restarting v) k)
    → (r ≡ Err restart_faults.NotExecutable → restarting.IsNotExecutable (as_restarting w) before.resources (as_restarting v) k)
    → restart_fault fault ≡ faults.Unlawful → RestartIsRefused m w v
restart_refused m w v before k (restart_faults.Unlawful test) r is had unlawful cannot so = record { before = before; after = k; had = had; why = inl (test, unlawful test is) }
restart_refused m w v before k restart_faults.NotExecutable r is had unlawful cannot so = record { before = before; after = k; had = had; why = inr (cannot is) }
restart_refused m w v before k restart_faults.NoMemory r is had unlawful cannot so = absurd cc

pub rebuild_refused : {X : Type 0} (m : Member) (w v : World) (before : Rebuilding) (k : RebuildState) (fault : RebuildFault) (r : Result X RebuildFault) → r ≡ Err fault → IsInHand m.id m.rebuild before
    → ((test : RebuildTest) → r ≡ Err (rebuild_faults.Unlawful test) → rebuilding.IsUnlawful (as_rebuilding w) before.resources test (as_rebuilding v) k)
    → (r ≡ Err rebuild_faults.NotExecutable → rebuilding.IsNotExecutable (as_rebuilding w) before.resources (as_rebuilding v) k)
    → rebuild_fault fault ≡ faults.Unlawful → RebuildIsRefused m w v
rebuild_refused m w v before k (rebuild_faults.Unlawful test) r is had unlawful cannot so = record { before = before; after = k; had = had; why = inl (test, unlawful test is) }
rebuild_refused m w v before k rebuild_faults.NotExecutable r is had unlawful cannot so = record { before = before; after = k; had = had; why = inr (cannot is) }
rebuild_refused m w v before k rebuild_faults.NoMemory r is had unlawful cannot so = absurd cc

-- a rebuild that is in hand
pub in_hand : (id : ℕ) (o : Option Rebuilding) (r : Rebuilding) → o ≡ Some r → IsInHand id o r
in_hand id None r is = absurd cc
in_hand id (Some q) r is = cc

-- what a restart has left open may not be adopted
pub adoption_refused : (m : Member) (w : World) (sent : RestartSent) (answered : Answered) (v : World) (r : Option Restarting) (h : Held) → IsSomeAnd r (RestartMakes m w sent answered v) → h ≡ m.holds → OpenIsRefused r h
    → RestartStepIsRefused m w v
adoption_refused m w sent answered v None h makes same left = absurd makes
adoption_refused m w sent answered v (Some q) h makes same left =
    inr (inl (record { sent = sent; answered = answered; reached = q; makes = makes; left = subst (λ (k : Held). LeftIsRefused q k) same left }))

-- a record was freed whose name the member claims
pub purge_refused : (m : Member) (w : World) (sent : RestartSent) (answered : Answered) (v : World) (r : Option Restarting) → IsSomeAnd r (RestartMakes m w sent answered v) → frees_claimed m.holds.marks sent ≡ true
    → RestartStepIsRefused m w v
purge_refused m w sent answered v None makes claimed = absurd makes
purge_refused m w sent answered v (Some q) makes claimed = inr (inr (record { sent = sent; answered = answered; reached = q; makes = makes; claimed = claimed }))

-- ---- the cause of the whole event

pub by_own : (m : Member) (w : World) (place : ℕ) (v : World) → OwnIsRefused m w place v → IsRefused m w place v
by_own m w place v it = record { cause = Own; because = it }

pub by_restart : (m : Member) (w : World) (place : ℕ) (v : World) → RestartStepIsRefused m w v → IsRefused m w place v
by_restart m w place v (inl it) = record { cause = Restart; because = it }
by_restart m w place v (inr (inl it)) = record { cause = Adoption; because = it }
by_restart m w place v (inr (inr it)) = record { cause = Purge; because = it }

pub by_rebuild : (m : Member) (w : World) (place : ℕ) (v : World) → RebuildIsRefused m w v → IsRefused m w place v
by_rebuild m w place v it = record { cause = Rebuild; because = it }

pub by_begin : (m : Member) (w : World) (place : ℕ) (v : World) (stepped : Stepped) (mid : Member) → Makes m w place stepped v mid → ¬ RestsIdle mid → IsRefused m w place v
by_begin m w place v stepped mid makes begun = record { cause = Begin; because = record { stepped = stepped; mid = mid; makes = makes; begun = begun } }

pub by_standing : (m : Member) (w : World) (place : ℕ) (v : World) → is_live (status_of w.facility.lists.statuses m.id) ≡ false → IsRefused m w place v
by_standing m w place v down = record { cause = Standing; because = down }

-- ---- a call of the disk that failed

own_kept : (w : World) (h : Held) (i : Intent) (s : Sent) (p : Plan) (place : ℕ) (said : Told) (v : World) (k : Held) → Runs w h i s p place answers.Failed said v k → v.facility ≡ w.facility
own_kept w h i sent.None p place said v k runs = let never : answers.Failed ≡ answers.None = runs.is in absurd cc
own_kept w h i (sent.Command c) p place said v k runs = let never : answers.Failed ≡ answers.Reply runs.0.answer = runs.0.is in absurd cc
own_kept w h i sent.AppendLog p place said v k runs = runs.1
own_kept w h i (sent.ReadPage page) p place said v k runs = runs.1
own_kept w h i (sent.WritePage page) p place said v k runs = runs.1

restart_kept : (w : restarting.World) (h : held.Held) (i : RestartIntent) (s : RestartSent) (said : RestartTold) (v : restarting.World) (k : held.Held)
    → restarting.Runs w h i s answers.Failed said v k → v.facility ≡ w.facility
restart_kept w h i restart_sent.None said v k runs = let never : answers.Failed ≡ answers.None = runs.is in absurd cc
restart_kept w h i (restart_sent.Command c) said v k runs = let never : answers.Failed ≡ answers.Reply runs.0.answer = runs.0.is in absurd cc
restart_kept w h i restart_sent.LogLength said v k runs = runs.1
restart_kept w h i (restart_sent.ReadLog at count) said v k runs = runs.1
restart_kept w h i (restart_sent.CutLog long) said v k runs = runs.1
restart_kept w h i restart_sent.AppendLog said v k runs = runs.1
restart_kept w h i (restart_sent.ReadPage page) said v k runs = runs.1

rebuild_kept : (w : rebuilding.World) (h : RebuildState) (i : RebuildIntent) (s : RebuildSent) (said : RebuildTold) (v : rebuilding.World) (k : RebuildState)
    → rebuilding.Runs w h i s answers.Failed said v k → v.facility ≡ w.facility
rebuild_kept w h i rebuild_sent.None said v k runs = let never : answers.Failed ≡ answers.None = runs.is in absurd cc
rebuild_kept w h i (rebuild_sent.Command c) said v k runs = let never : answers.Failed ≡ answers.Reply runs.0.answer = runs.0.is in absurd cc
rebuild_kept w h i (rebuild_sent.LogLength member) said v k runs = runs.1
rebuild_kept w h i (rebuild_sent.ReadLog member at count) said v k runs = runs.1
rebuild_kept w h i (rebuild_sent.ReadPage page) said v k runs = runs.1
rebuild_kept w h i (rebuild_sent.WritePage page) said v k runs = runs.1

-- it leaves the facility as it was
pub failed_kept : (m : Member) (w : World) (place : ℕ) (stepped : Stepped) (v : World) (n : Member) → Makes m w place stepped v n → has_failed stepped ≡ true → v.facility ≡ w.facility
failed_kept m w place (steps.Sent s answers.Failed) v n makes is = own_kept w _ makes.intent s _ place _ v _ makes.happens.runs
failed_kept m w place (steps.Sent s answers.None) v n makes is = absurd cc
failed_kept m w place (steps.Sent s (answers.Reply reply)) v n makes is = absurd cc
failed_kept m w place (steps.Sent s answers.Done) v n makes is = absurd cc
failed_kept m w place (steps.Restart s answers.Failed) v n makes is = restart_kept (as_restarting w) _ _ s _ (as_restarting v) _ makes.makes.happens.runs
failed_kept m w place (steps.Restart s answers.None) v n makes is = absurd cc
failed_kept m w place (steps.Restart s (answers.Reply reply)) v n makes is = absurd cc
failed_kept m w place (steps.Restart s answers.Done) v n makes is = absurd cc
failed_kept m w place (steps.Rebuild s answers.Failed) v n makes is = rebuild_kept (as_rebuilding w) _ _ s _ (as_rebuilding v) _ makes.makes.happens.runs
failed_kept m w place (steps.Rebuild s answers.None) v n makes is = absurd cc
failed_kept m w place (steps.Rebuild s (answers.Reply reply)) v n makes is = absurd cc
failed_kept m w place (steps.Rebuild s answers.Done) v n makes is = absurd cc
failed_kept m w place steps.Failed v n makes is = absurd makes
