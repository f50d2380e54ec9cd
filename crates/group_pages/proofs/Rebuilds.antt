-- The event of a member's rebuild of the cache.
use Rattle.std.proofs.Common.{◌≡◌, ◌≢◌, ℕ, ◌+◌, ◌≤◌, refl, sym, ◌∙◌, ap, subst, arith, Bool, true, false, List, length, Option, Some, None, Ok, Err}
use Rattle.std.specs.Prelude.{◌==◌, IfSome, is_none, is_some, slice_get}
use Rattle.ds_base.specs.declared.names.PageId.{PageId}
use Rattle.lock_structure.specs.Locks.{Locks, record_of, retained_in}
use Rattle.lock_structure.specs.Records.{names_of}
use Rattle.list_structure.specs.Standings.{status_of}
use Rattle.log_reader.specs.declared.calls.LogCall.{LogCall}
use Rattle.log_reader.specs.declared.calls.LogCall.TheVariants as call
use Rattle.checkpoint_reader.specs.Readers.{next_call}
use Rattle.page_records.specs.declared.places.PageRecords.{PageRecords}
use Rattle.facility.specs.States.{Held as Facility}
use Rattle.member_intents.specs.declared.outcome.Answered.{Answered}
use Rattle.member_intents.specs.declared.outcome.Answered.TheVariants as answered
use Rattle.page_owners.specs.Given.{CommandsStay, Drive, Enters, Held, Member, RebuildEnds, RebuildGoesOn, Rebuilding, Resources, Tells, as_rebuilding, is_failure, is_quiet, told_once}
use Rattle.rebuild_resources.specs.Events as rebuilding
use Rattle.rebuild_resources.specs.Needs.{Need, call_sent, first_sent, hand_sent, need_of, when}
use Rattle.rebuild_resources.specs.State.{RebuildState}
use Rattle.rebuild_resources.specs.declared.intent.RebuildIntent.{RebuildIntent}
use Rattle.rebuild_resources.specs.declared.intent.RebuildIntent.TheVariants as intent
use Rattle.rebuild_resources.specs.declared.intent.RebuildSent.{RebuildSent}
use Rattle.rebuild_resources.specs.declared.intent.RebuildSent.TheVariants as sent
use Rattle.rebuild_resources.specs.declared.intent.RebuildTest.{RebuildTest}
use Rattle.rebuild_resources.specs.declared.told.RebuildTold.{RebuildTold}
use Rattle.script_fates.specs.Fated.{FatesState}
use Rattle.page_protocol.specs.Moves.{Move, Run, World}
use Rattle.page_world.specs.Holdings.{Holdings}
use Rattle.page_world.specs.Numbers.{set_of}
use Rattle.page_rebuilds.specs.Rebuilds.{EventsGo, RebuildGoes}
use Rattle.retained_pages.specs.Retained.{SparesOthers}
use Rattle.group_pages.specs.Members.{LogsLead}
use Rattle.group_pages.specs.Stands.{CrewPages}
use Rattle.group_pages.proofs.Carry.{IsNamed, all_carried}
use Rattle.group_pages.proofs.Carry as carrying

-- ---- nothing that it sends changes locks
abbrev QuietSent : RebuildSent → Type 0
QuietSent sent.None = Unit {0}
QuietSent (sent.Command c) = is_quiet c ≡ true
QuietSent (sent.LogLength member) = Unit {0}
QuietSent (sent.ReadLog member at count) = Unit {0}
QuietSent (sent.ReadPage page) = Unit {0}
QuietSent (sent.WritePage page) = Unit {0}

abbrev QuietNeed : Need → Type 0
QuietNeed (Ok s) = QuietSent s
QuietNeed (Err test) = Unit {0}

quiet_when : (b : Bool) (test : RebuildTest) (rest : Need) → QuietNeed rest → QuietNeed (when b test rest)
quiet_when true test rest q = q
quiet_when false test rest q = tt

quiet_call : (m : ℕ) (c : LogCall) → QuietSent (call_sent m c)
quiet_call m call.Length = tt
quiet_call m (call.Read at count) = tt

quiet_first : (o : Option PageRecords) → QuietNeed (first_sent o)
quiet_first None = tt
quiet_first (Some p) = tt

quiet_hand : (o : Option PageId) → QuietNeed (hand_sent o)
quiet_hand None = tt
quiet_hand (Some page) = tt

quiet_need : (h : RebuildState) (i : RebuildIntent) → QuietNeed (need_of h i)
quiet_need h intent.Step = tt
quiet_need h intent.Claim = refl
quiet_need h intent.ReadLog = quiet_when h.claimed _ _ (quiet_when (is_none h.merged) _ _ (quiet_call h.reader.member (next_call h.reader)))
quiet_need h intent.ReadPage = quiet_when h.claimed _ _ (quiet_when (is_some h.merged) _ _ (quiet_when (is_none h.hand) _ _ (quiet_first (slice_get h.pages 0))))
quiet_need h intent.WritePage = quiet_when h.claimed _ _ (quiet_hand h.hand)
quiet_need h intent.Rebuilt = quiet_when h.claimed _ _ (quiet_when (is_some h.merged) _ _ (quiet_when (length h.pages == 0) _ _ (quiet_when (is_none h.hand) _ _ refl)))
quiet_need h intent.Unclaim = refl

quiet_runs : CommandsStay → (u v : rebuilding.World) (h k : RebuildState) (i : RebuildIntent) (s : RebuildSent) (a : Answered) (said : RebuildTold) → QuietSent s → rebuilding.Runs u h i s a said v k → v.facility.locks ≡ u.facility.locks
quiet_runs law u v h k i sent.None a said q r = ap (λ (z : rebuilding.World). z.facility.locks) r.world
quiet_runs law u v h k i (sent.Command c) a said q r = (law u.facility v.facility h.member c h.page r.0.after.page r.0.answer q r.0.gives.executes).locks
quiet_runs law u v h k i (sent.LogLength member) a said q r = ap (λ (z : Facility). z.locks) r.1
quiet_runs law u v h k i (sent.ReadLog member at count) a said q r = ap (λ (z : Facility). z.locks) r.1
quiet_runs law u v h k i (sent.ReadPage page) a said q r = ap (λ (z : Facility). z.locks) r.1
quiet_runs law u v h k i (sent.WritePage page) a said q r = ap (λ (z : Facility). z.locks) r.1

locks_stay : CommandsStay → (u v : rebuilding.World) (h k : RebuildState) (s : RebuildSent) (a : Answered) → rebuilding.Happens u h s a v k → v.facility.locks ≡ u.facility.locks
locks_stay law u v h k s a x = quiet_runs law u v h k x.intent s a x.said (subst (λ z. QuietNeed z) x.lawful (quiet_need h x.intent)) x.runs

pub spares_locks : (f v : Facility) (m : ℕ) → v.locks ≡ f.locks → SparesOthers f v m
spares_locks f v m e = record { records = λ k n ne. ap (λ (z : Locks). record_of z k n) e; names = λ k ne. ap (λ (z : Locks). names_of (retained_in z k)) e }

-- ---- all members beside what it left
pub record RebuildLeft (e : Drive) (v : Facility) (ms : List Member) (w : World) (g : Holdings) (content : ℕ → ℕ → List ℕ) (forced : ℕ → ℕ) : Type 0 where
  pub moves : List Move
  pub world : World
  pub run : Run set_of w moves world
  pub left : Holdings
  pub pages : CrewPages e v ms world left content forced
  pub statuses : (k : ℕ) → 1 ≤ k → status_of left.facility.lists.statuses k ≡ status_of g.facility.lists.statuses k

pub rebuilt : EventsGo → CommandsStay → carrying.Facts → (u v : Resources) (ms : List Member) (w : World) (g : Holdings) (content : ℕ → ℕ → List ℕ) (forced : ℕ → ℕ) (h k : RebuildState) (s : RebuildSent) (a : Answered)
    → ((j : ℕ) → IfSome (slice_get ms j) (IsNamed (j + 1))) → CrewPages u.drive u.facility ms w g content forced → rebuilding.Happens (as_rebuilding u) h s a (as_rebuilding v) k → is_failure a ≡ false → LogsLead w g content h s → RebuildLeft v.drive v.facility ms w g content forced
rebuilt law stay others u v ms w g content forced h k s a stands p happens unfailed lead = record {
  moves = goes.goes.moves;
  world = goes.goes.world;
  run = goes.goes.run;
  left = goes.left;
  pages = all_carried others u.drive v.drive u.facility v.facility ms w goes.goes.world g goes.left content content forced forced stands p goes.goes.stands goes.facility goes.drive goes.goes.others spared owned;
  statuses = λ j least. goes.goes.others.statuses j least (not_zero j least);
}
  where
    not_zero : (j : ℕ) → 1 ≤ j → j ≢ 0
    not_zero j least e = omega (arith, least, e)

    works : a ≢ answered.Failed
    works is = let failed : is_failure a ≡ true = ap is_failure is in let never : true ≡ false = sym failed ∙ unfailed in cc

    goes : RebuildGoes w v g content forced
    goes = law w u v g content forced h k s a p.group p.facility p.drive happens (record { written = lead.written; rebuilt = lead.rebuilt; works = works })

    spared : SparesOthers g.facility goes.left.facility 0
    spared = spares_locks g.facility goes.left.facility 0
        (ap (λ (z : Facility). z.locks) goes.facility ∙ locks_stay stay (as_rebuilding u) (as_rebuilding v) h k s a happens ∙ ap (λ (z : Facility). z.locks) (sym p.facility))

    owned : (j q : ℕ) → goes.left.owner j ≡ Some q → (1 ≤ q) × (q ≤ goes.left.facility.lists.members)
    owned j q e = let y = p.owned j q (sym (ap (λ f. f j) goes.owner) ∙ e) in (y.0, subst (λ z. q ≤ z) (sym goes.goes.others.members) y.1)

-- ---- what its member holds behind it
pub record ToldBehind (m : Member) (place : ℕ) (n : Member) : Type 0 where
  pub after : Held
  pub tells : Tells m.holds place after
  pub holds : n.holds ≡ told_once after
  pub restart : n.restart ≡ m.restart

pub told_behind : (m mid n : Member) (place : ℕ) (q : Rebuilding) (b : Bool) (f g : FatesState) → b ≡ false → RebuildEnds b q m place mid → Enters mid f n g → ToldBehind m place n
told_behind m mid n place q b f g is ends enters = record {
  after = on.after;
  tells = on.tells;
  holds = ap (λ (z : Member). z.holds) enters.member ∙ ap (λ (z : Member). told_once z.holds) on.member;
  restart = ap (λ (z : Member). z.restart) enters.member ∙ ap (λ (z : Member). z.restart) on.member;
}
  where
    on : RebuildGoesOn q m place mid
    on = subst (λ z. RebuildEnds z q m place mid) is ends
