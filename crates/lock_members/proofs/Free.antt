-- What an event of a member leaves of its agents without transactions: they have no claims.
use Rattle.std.proofs.Common.{◌≡◌, ℕ, sym, ap, subst, Bool, true, false, List, [], ◌∷◌, Option, Some, None}
use Rattle.log_trans.specs.declared.opened.OpenTran.{OpenTran}
use Rattle.member_intents.specs.declared.outcome.Answered.{Answered}
use Rattle.member_intents.specs.declared.outcome.Sent.{Sent}
use Rattle.member_resources.specs.Held.{Held, begun}
use Rattle.member_resources.specs.Events as event
use Rattle.restart_marks.specs.declared.adopt.Adopted.{Adopted}
use Rattle.group_member.specs.declared.rebuilding.Rebuilding.{Rebuilding}
use Rattle.group_member.specs.declared.restarting.Restarting.{Restarting}
use Rattle.group_member.specs.declared.stepped.Stepped.{Stepped}
use Rattle.group_member.specs.declared.stepped.Stepped.TheVariants as steps
use Rattle.group_member.specs.Adopting.{Adopts, AdoptsAll, changes_left, rows_left}
use Rattle.group_member.specs.Entering.{told_once}
use Rattle.group_member.specs.Happening.{Acts, AdoptsLeft, GoesOn, Makes, RebuildEnds, RestartEnds, Tells}
use Rattle.group_member.specs.Members.{Member}
use Rattle.group_member.specs.Stepping.{is_failure}
use Rattle.lock_events.specs.Given.{FreeAdopt, FreeHoldNothing, FreeReach, FreeStay}
use Rattle.lock_members.specs.Members.{StepsKeepFree}

pub record Facts : Type 0 where
  pub event : FreeStay
  pub local : FreeReach
  pub adopted : FreeAdopt

abbrev pub Free : Held → Type 0
Free h = FreeHoldNothing h.marks

same : (h k : Held) → k ≡ h → Free h → Free k
same h k e free = subst (λ (z : Held). Free z) (sym e) free

tells : Facts → (h : Held) (place : ℕ) (k : Held) → Tells h place k → Free h → Free k
tells facts h place k ends free = facts.local (begun h place).marks k.marks ends.0 (record { lists = free.lists; none = free.none })

-- ---- what a restart leaves open is taken over
adopts : Facts → (h : Held) (by : ℕ) (t : OpenTran) (k : Held) → Adopts h by t k → Free h → Free k
adopts facts h by t k a free =
    let after = facts.adopted h.marks t.id by (changes_left t) (rows_left t) free in
    subst (λ (z : Held). Free z) (sym a.holds) (record { lists = after.lists; none = after.none })

adopts_all : Facts → (h : Held) (by : ℕ) (ts : List OpenTran) (k : Held) → AdoptsAll h by ts k → Free h → Free k
adopts_all facts h by [] k e free = same h k e free
adopts_all facts h by (t ∷ ts) k a free = adopts facts a.0 by t k a.2 (adopts_all facts h by ts a.0 a.1 free)

adopts_left : Facts → (o : Option Adopted) (h k : Held) → AdoptsLeft o h k → Free h → Free k
adopts_left facts None h k e free = same h k e free
adopts_left facts (Some left) h k a free = adopts_all facts h left.by left.trans k a free

goes_on : Facts → (up : Bool) (q : Restarting) (h : Held) (r : Option Restarting) (k : Held) → GoesOn up q h r k → Free h → Free k
goes_on facts true q h r k e free = same h k e.1 free
goes_on facts false q h r k over free = adopts_left facts over.left h k over.adopts free

-- ---- an event, by what it was
restart_ends : Facts → (failed : Bool) (q : Restarting) (m : Member) (place : ℕ) (n : Member) → RestartEnds failed q m place n → Free m.holds → Free n.holds
restart_ends facts true q m place n e free = same m.holds n.holds (ap (λ (z : Member). z.holds) e) free
restart_ends facts false q m place n on free =
    same on.after n.holds (ap (λ (z : Member). z.holds) on.member)
    (tells facts on.left place on.after on.tells (goes_on facts q.resources.marks.is_up q m.holds n.restart on.left on.goes_on free))

rebuild_ends : Facts → (failed : Bool) (q : Rebuilding) (m : Member) (place : ℕ) (n : Member) → RebuildEnds failed q m place n → Free m.holds → Free n.holds
rebuild_ends facts true q m place n e free = same m.holds n.holds (ap (λ (z : Member). z.holds) e) free
rebuild_ends facts false q m place n on free = same on.after n.holds (ap (λ (z : Member). z.holds) on.member) (tells facts m.holds place on.after on.tells free)

acts : Facts → (m : Member) (w : event.World) (place : ℕ) (s : Sent) (a : Answered) (v : event.World) (n : Member) → Acts m w place s a v n → Free m.holds → Free n.holds
acts facts m w place s a v n it free = same it.after n.holds (ap (λ (z : Member). z.holds) it.member) (facts.event w v m.holds it.after it.intent place s a it.happens free)

makes : Facts → (m : Member) (w : event.World) (place : ℕ) (stepped : Stepped) (v : event.World) (n : Member) → Makes m w place stepped v n → Free m.holds → Free n.holds
makes facts m w place (steps.Sent s a) v n it free = acts facts m w place s a v n it free
makes facts m w place (steps.Restart s a) v n it free = restart_ends facts (is_failure a) it.reached m place n it.ends free
makes facts m w place (steps.Rebuild s a) v n it free = rebuild_ends facts (is_failure a) it.reached m place n it.ends free
makes facts m w place steps.Failed v n it free = absurd it

pub steps_keep_free : Facts → StepsKeepFree
steps_keep_free facts m n u v f g place stepped it free =
    let mid : Free it.mid.holds = makes facts m u place stepped v it.mid it.makes free in
    same (told_once it.mid.holds) n.holds (ap (λ (z : Member). z.holds) it.enters.member) (record { lists = mid.lists; none = mid.none })
