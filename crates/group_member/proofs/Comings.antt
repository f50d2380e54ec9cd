-- What an event of a member comes to, from its parts.
use Rattle.std.proofs.Common.{◌≡◌, ℕ, Bool, true, false, ◌||◌, is_some, refl, sym, subst}
use Rattle.ds_base.specs.declared.names.Sizes.{Sizes}
use Rattle.ds_model.specs.declared.script.Script.{Script}
use Rattle.facility.specs.States as facility
use Rattle.facility.specs.States.{MemberFailed}
use Rattle.list_structure.specs.Bells.{CanRing}
use Rattle.list_structure.specs.Standings.{status_of, is_live}
use Rattle.member_resources.specs.Events.{World}
use Rattle.script_fates.specs.Fated.{FatesState, StopsOnly}
use Rattle.group_member.specs.declared.stepped.Stepped.{Stepped}
use Rattle.group_member.specs.declared.stepped.Stepped.TheVariants as steps
use Rattle.group_member.specs.Entering.{Enters}
use Rattle.group_member.specs.Failing.{is_in_hand}
use Rattle.group_member.specs.Happening.{Comes, Makes}
use Rattle.group_member.specs.Members.{Member, IsDown}
use Rattle.group_member.specs.Refusing.{Bells, IsRefused}
use Rattle.group_member.specs.Resting.{RestsIdle}
use Rattle.group_member.specs.Stepping.{has_failed, is_fail, is_of, is_over, kind_for}
use Rattle.group_member.proofs.Causes.{failed_kept}

-- an event that was made is none in which the member was to fail
pub no_fail : (m : Member) (w : World) (place : ℕ) (stepped : Stepped) (v : World) (n : Member) → Makes m w place stepped v n → is_fail stepped ≡ false
no_fail m w place (steps.Sent s a) v n makes = refl
no_fail m w place (steps.Restart s a) v n makes = refl
no_fail m w place (steps.Rebuild s a) v n makes = refl
no_fail m w place steps.Failed v n makes = absurd makes

or_false : (a b : Bool) → a ≡ false → b ≡ false → (a || b) ≡ false
or_false false false p q = refl
or_false true b p q = absurd cc
or_false false true p q = absurd cc

never : (b : Bool) → b ≡ false → b ≡ true → ⊥
never b isnt is = cc

answered : (script : Script) (begun : ℕ) (sizes : Sizes) (choice : ℕ) (m : Member) (w : World) (f : FatesState) (place : ℕ) (stepped : Stepped) (mid n : Member) (u v : World) (g : FatesState)
    → is_live (status_of w.facility.lists.statuses m.id) ≡ true → Makes m w place stepped u mid → RestsIdle mid → is_of (kind_for choice (is_some m.restart)) stepped ≡ true → has_failed stepped ≡ false
    → n.id ≡ m.id → Enters mid f n g → v.facility ≡ u.facility → v.drive ≡ u.drive → Comes script begun sizes choice m w f place stepped n v g
answered script begun sizes choice m w f place stepped mid n u v g live makes idle kind whole keeps enters kept drives =
    let whole_too : is_fail stepped ≡ false = no_fail m w place stepped u mid makes in
    let alive : is_over stepped ≡ false = or_false (has_failed stepped) (is_fail stepped) whole whole_too in
    let same : u ≡ v = λ i. record { facility = sym kept i; drive = sym drives i } in record {
      live = live;
      same = keeps;
      kind = λ _. kind;
      steps = λ _. record { mid = mid; makes = subst (λ (x : World). Makes m w place stepped x mid) same makes; idle = idle; enters = enters };
      breaks = λ so. absurd (never (has_failed stepped) whole so);
      silent = λ so. absurd (never (is_fail stepped) whole_too so);
      fails = λ so. absurd (never (is_over stepped) alive so);
      down = λ so. absurd (never (is_over stepped) alive so);
      stops = λ so. absurd (never (is_over stepped) alive so);
    }

or_true : (a b : Bool) → a ≡ true → (a || b) ≡ true
or_true true b p = refl
or_true false b p = absurd cc

broken : (script : Script) (begun : ℕ) (sizes : Sizes) (choice : ℕ) (m : Member) (w : World) (f : FatesState) (place : ℕ) (stepped : Stepped) (mid n : Member) (u v : World) (g : FatesState)
    → is_live (status_of w.facility.lists.statuses m.id) ≡ true → Makes m w place stepped u mid → is_of (kind_for choice (is_some m.restart)) stepped ≡ true → has_failed stepped ≡ true → v.drive ≡ u.drive → mid.id ≡ m.id → n.id ≡ m.id
    → MemberFailed u.facility mid.id v.facility → IsDown sizes n → StopsOnly (is_in_hand script begun mid.id) f g → Comes script begun sizes choice m w f place stepped n v g
broken script begun sizes choice m w f place stepped mid n u v g live makes kind failed drives id keeps fails down stops =
    let whole_too : is_fail stepped ≡ false = no_fail m w place stepped u mid makes in
    let over : is_over stepped ≡ true = or_true (has_failed stepped) (is_fail stepped) failed in
    let kept : u.facility ≡ w.facility = failed_kept m w place stepped u mid makes failed in
    let to : World = record v { facility = w.facility } in
    let same : u ≡ to = λ i. record { facility = kept i; drive = sym drives i } in
    let fell : MemberFailed w.facility mid.id v.facility = subst (λ (x : facility.Held). MemberFailed x mid.id v.facility) kept fails in record {
      live = live;
      same = keeps;
      kind = λ _. kind;
      steps = λ so. absurd (never (is_over stepped) so over);
      breaks = λ _. record { mid = mid; makes = subst (λ (x : World). Makes m w place stepped x mid) same makes };
      silent = λ so. absurd (never (is_fail stepped) whole_too so);
      fails = λ _. subst (λ (k : ℕ). MemberFailed w.facility k v.facility) id fell;
      down = λ _. down;
      stops = λ _. subst (λ (k : ℕ). StopsOnly (is_in_hand script begun k) f g) id stops;
    }

pub comes : (b : Bool) (script : Script) (begun : ℕ) (sizes : Sizes) (choice : ℕ) (m : Member) (w : World) (f : FatesState) (place : ℕ) (stepped : Stepped) (mid n : Member) (u v : World) (g : FatesState)
    → is_live (status_of w.facility.lists.statuses m.id) ≡ true → has_failed stepped ≡ b → Makes m w place stepped u mid → RestsIdle mid → is_of (kind_for choice (is_some m.restart)) stepped ≡ true → v.drive ≡ u.drive → mid.id ≡ m.id → n.id ≡ m.id
    → (has_failed stepped ≡ false → Enters mid f n g) → (has_failed stepped ≡ false → v.facility ≡ u.facility)
    → (has_failed stepped ≡ true → MemberFailed u.facility mid.id v.facility) → (has_failed stepped ≡ true → IsDown sizes n)
    → (has_failed stepped ≡ true → StopsOnly (is_in_hand script begun mid.id) f g) → Comes script begun sizes choice m w f place stepped n v g
comes false script begun sizes choice m w f place stepped mid n u v g live is makes idle kind drives id keeps enters stays fails down stops =
    answered script begun sizes choice m w f place stepped mid n u v g live makes idle kind is keeps (enters is) (stays is) drives
comes true script begun sizes choice m w f place stepped mid n u v g live is makes idle kind drives id keeps enters stays fails down stops =
    broken script begun sizes choice m w f place stepped mid n u v g live makes kind is drives id keeps (fails is) (down is) (stops is)

-- ---- the member fails in place of its event

pub comes_down : (script : Script) (begun : ℕ) (sizes : Sizes) (choice : ℕ) (m : Member) (w : World) (f : FatesState) (place : ℕ) (n : Member) (v : World) (g : FatesState)
    → is_live (status_of w.facility.lists.statuses m.id) ≡ true → n.id ≡ m.id → v.drive ≡ w.drive → MemberFailed w.facility m.id v.facility → IsDown sizes n → StopsOnly (is_in_hand script begun m.id) f g → Comes script begun sizes choice m w f place steps.Failed n v g
comes_down script begun sizes choice m w f place n v g live keeps drives fails down stops = record {
  live = live;
  same = keeps;
  kind = λ so. absurd cc;
  steps = λ so. absurd cc;
  breaks = λ so. absurd cc;
  silent = λ _. drives;
  fails = λ _. fails;
  down = λ _. down;
  stops = λ _. stops;
}

-- ---- the bells

pub by_bells : (m : Member) (w : World) (place : ℕ) (v : World) → ¬ CanRing w.facility.lists.bells → IsRefused m w place v
by_bells m w place v ends = record { cause = Bells; because = ends }

pub by_bells_then : (m : Member) (w : World) (place : ℕ) (stepped : Stepped) (u v : World) (mid : Member) → Makes m w place stepped u mid → has_failed stepped ≡ true → ¬ CanRing u.facility.lists.bells
    → IsRefused m w place v
by_bells_then m w place stepped u v mid makes failed ends =
    by_bells m w place v (subst (λ (x : facility.Held). ¬ CanRing x.lists.bells) (failed_kept m w place stepped u mid makes failed) ends)
