-- The end of a restart.
use Rattle.std.proofs.Common.{◌≡◌, ◌≢◌, ℕ, zero, suc, ◌≤◌, refl, sym, ◌∙◌, ap, subst, arith, true, List, [], ◌∷◌, None, Ok, slice_set}
use Rattle.std.specs.Prelude.{◌-◌, ◌==◌, is_none, length, slice_index_or}
use Rattle.std.proofs.lemmas.Bool.{eqb-true}
use Rattle.std.proofs.lemmas.List.{get_or-set_other}
use Rattle.list_structure.specs.declared.standing.MemberStatus.TheVariants as standing
use Rattle.list_structure.specs.Standings.{status_of}
use Rattle.facility.specs.declared.command.Command.TheVariants as command
use Rattle.facility.specs.States.{Held as Facility}
use Rattle.restart_marks.specs.declared.intent.RestartSent.{RestartSent}
use Rattle.restart_marks.specs.declared.intent.RestartSent.TheVariants as sent
use Rattle.restart_marks.specs.declared.intent.RestartTest.TheVariants as test
use Rattle.restart_marks.specs.Needs.{need_of}
use Rattle.restart_marks.specs.OwnNeeds.{over_test, recovered_test, up_need}
use Rattle.restart_marks.specs.State.{RestartState}
use Rattle.restart_marks.specs.Tested.{Tested, after, passed, when}
use Rattle.restart_resources.specs.Calls as calls
use Rattle.restart_resources.specs.Events.{Runs}
use Rattle.page_world.specs.Holdings.{StandsAs}
use Rattle.page_members.specs.Members.{OpensGo}
use Rattle.page_restarts.specs.Beside.{as_restarting}
use Rattle.page_restarts.specs.Events.{EndGoes}
use Rattle.page_restarts.proofs.Needs.{after_first, after_tests, is_nothing, passes, sent_as, when_first, when_rest}
use Rattle.page_restarts.proofs.Standing.{copy_none}

-- ---- what is lawful
pub record IsLast (s : RestartState) (x : RestartSent) : Type 0 where
  pub placed : s.hand.page ≡ None
  pub listed : s.is_listed ≡ true
  pub none : length s.pages ≡ 0
  pub unclaimed : s.claim ≡ None
  pub is : x ≡ sent.Command (command.SetStatus standing.Up)

pub ups : (s : RestartState) (x : RestartSent) → up_need s ≡ Ok x → IsLast s x
ups s x e =
    let claimed : Tested = when (is_none s.claim) test.StillClaimed (when (length s.log.pending == 0) test.StillPending (when (s.own.tail == 0) test.HasTail passed)) in
    let rest : Tested = when (is_none s.hand.page) test.StillPlaced claimed in
    let over : Tested = after (over_test s) rest in
    let tests : Tested = after (recovered_test s) over in
    let first = after_first tests (Ok (sent.Command (command.SetStatus standing.Up))) x e in
    let recovered : Tested = when (length s.pages == 0) test.PagesLeft passed in
    let known = passes (recovered_test s) over first in
    let last = after_tests (over_test s) rest (after_tests (recovered_test s) over first) in
    let pending : Tested = when (length s.log.pending == 0) test.StillPending (when (s.own.tail == 0) test.HasTail passed) in
    record {
      placed = is_nothing s.hand.page (when_first (is_none s.hand.page) test.StillPlaced claimed last);
      listed = when_first s.is_listed test.NotListed recovered known;
      none = eqb-true (length s.pages) 0 (when_first (length s.pages == 0) test.PagesLeft passed (when_rest s.is_listed test.NotListed recovered known));
      unclaimed = is_nothing s.claim (when_first (is_none s.claim) test.StillClaimed pending (when_rest (is_none s.hand.page) test.StillPlaced claimed last));
      is = sent_as tests (sent.Command (command.SetStatus standing.Up)) x e;
    }

-- ---- standings
set_there : {A : Type 0} → (xs : List A) (i : ℕ) (a d : A) → slice_index_or xs i d ≢ d → slice_index_or (slice_set xs i a) i d ≡ a
set_there [] i a d ne = absurd (ne refl)
set_there (x ∷ xs) zero a d ne = refl
set_there (x ∷ xs) (suc i) a d ne = set_there xs i a d ne

other_place : (m k : ℕ) → 1 ≤ m → 1 ≤ k → k ≢ m → k - 1 ≢ m - 1
other_place m k a b ne e = ne (omega (arith, a, b, e))

up_now : (f v : Facility) (m : ℕ) → 1 ≤ m → status_of f.lists.statuses m ≡ standing.Restarting → v.directory ≡ f.directory → v.counter ≡ f.counter → v.lists.members ≡ f.lists.members → v.lists.statuses ≡ slice_set f.lists.statuses (m - 1) standing.Up → StandsAs f v m standing.Up
up_now f v m least was directory counter members statuses = record {
  directory = directory;
  counter = counter;
  members = members;
  own = ap (λ z. status_of z m) statuses ∙ set_there f.lists.statuses (m - 1) standing.Up standing.Down (λ e. down (sym was ∙ e));
  others = λ k l ne. ap (λ z. status_of z k) statuses ∙ get_or-set_other f.lists.statuses (m - 1) (k - 1) standing.Up standing.Down (other_place m k least l ne);
}
  where
    down : standing.Restarting ≡ standing.Down → ⊥
    down e = cc e

pub end_goes : OpensGo → EndGoes
end_goes law w u v g content forced h k s a b happens is_up free =
    let x = ups h.marks s (subst (λ i. need_of h.marks i ≡ Ok s) is_up happens.lawful) in
    let r = subst (λ z. Runs (as_restarting u) h happens.intent z a happens.said (as_restarting v) happens.after) x.is happens.runs in
    let does = r.0.gives.executed.executes.0.1 in
    let there = b.facility in
    let stands : StandsAs g.facility v.facility h.marks.member standing.Up =
    subst (λ (z : Facility). StandsAs z v.facility h.marks.member standing.Up) (sym there)
    (up_now u.facility v.facility h.marks.member b.begins.restarts.least (subst (λ (z : Facility). status_of z.lists.statuses h.marks.member ≡ standing.Restarting) there b.begins.restarts.restarts)
    (ap (λ (z : Facility). z.directory) does) (ap (λ (z : Facility). z.counter) does) (ap (λ (z : Facility). z.lists.members) does) (ap (λ (z : Facility). z.lists.statuses) does)) in
    record {
      goes = law w g content forced h.marks.member v.facility (record { good = b.begins.good; tied = b.begins.tied; numbered = b.begins.numbered; sound = b.begins.sound }) b.begins.restarts.least b.begins.restarts.among b.begins.restarts.restarts free stands;
      drive = record { contents = b.drive.contents; told = ap (λ (z : calls.Drive). z.contents) r.1 ∙ b.drive.told; each = b.drive.each };
      copies = λ n. b.begins.restarts.copies n ∙ copy_none h n x.placed;
    }
