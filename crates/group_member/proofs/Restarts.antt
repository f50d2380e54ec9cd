-- The event of a restart or a rebuild, from its parts.
use Rattle.std.proofs.Common.{◌≡◌, ◌⊎◌, ℕ, Bool, true, false, Option, Some, None, Result, Ok, Err, IfOk, OnOk, IsSomeAnd, inr, refl, sym, ap, subst, ◌∙◌}
use Rattle.member_intents.specs.declared.outcome.Answered.{Answered}
use Rattle.member_resources.specs.Held.{Held}
use Rattle.member_resources.specs.Events.{World}
use Rattle.rebuild_resources.specs.declared.intent.RebuildSent.{RebuildSent}
use Rattle.restart_marks.specs.Adopt.{adopted_told, adopted_after}
use Rattle.restart_marks.specs.declared.adopt.Adopted.{Adopted}
use Rattle.restart_marks.specs.declared.intent.RestartSent.{RestartSent}
use Rattle.member_restart.specs.Held as held
use Rattle.group_member.specs.declared.rebuilding.Rebuilding.{Rebuilding}
use Rattle.group_member.specs.declared.restarting.Restarting.{Restarting}
use Rattle.group_member.specs.Happening.{AdoptsLeft, GoesOn, IsInHand, RebuildEnds, RebuildMakes, Rebuilds, RestartEnds, RestartMakes, Restarts, Takes, Tells}
use Rattle.group_member.specs.Members.{Member}
use Rattle.group_member.specs.Resting.{frees_claimed}
use Rattle.group_member.specs.Restarting.{GoesOnFrom, HandsOverFrom, TakesFrom}
use Rattle.group_member.specs.Stepping.{is_failure}

-- ---- what a restart has left open is taken out

pub takes_open : {E : Type 0} (result : Result (Option Adopted) E) (q : Restarting) (h : held.Held) → IfOk result (λ left. left ≡ adopted_told q.resources.marks)
    → OnOk result (h ≡ held.with_marks q.resources (adopted_after q.resources.marks)) → IfOk result (λ left. Takes q left (record q { resources = h }))
takes_open (Err e) q h told after = tt
takes_open (Ok left) q h told after = inr (told, ap (λ (k : held.Held). record q { resources = k }) after)

-- ---- the event of a restart

broken_at : (m : Member) (w : World) (place : ℕ) (sent : RestartSent) (answered : Answered) (v : World) (n : Member) (r : Option Restarting) → frees_claimed m.holds.marks sent ≡ false → n.restart ≡ r → IsSomeAnd r (RestartMakes m w sent answered v)
    → n ≡ record m { restart = n.restart } → is_failure answered ≡ true → Restarts m w place sent answered v n
broken_at m w place sent answered v n None keeps is makes same fails = absurd makes
broken_at m w place sent answered v n (Some q) keeps is makes same fails = record {
  keeps = keeps;
  reached = q;
  makes = makes;
  ends = subst (λ (b : Bool). RestartEnds b q m place n) (sym fails) (same ∙ ap (λ (r : Option Restarting). record m { restart = r }) is);
}

pub restart_broken : (m : Member) (w : World) (place : ℕ) (sent : RestartSent) (answered : Answered) (v : World) (n : Member) → frees_claimed m.holds.marks sent ≡ false → IsSomeAnd n.restart (RestartMakes m w sent answered v)
    → n ≡ record m { restart = n.restart } → is_failure answered ≡ true → Restarts m w place sent answered v n
restart_broken m w place sent answered v n keeps makes same fails = broken_at m w place sent answered v n n.restart keeps refl makes same fails

pub restart_goes_on : (m : Member) (w : World) (place : ℕ) (sent : RestartSent) (answered : Answered) (u v : World) (r s : Option Restarting) (h left after : Held) (n : Member)
    → frees_claimed m.holds.marks sent ≡ false → IsSomeAnd r (RestartMakes m w sent answered u) → h ≡ m.holds → GoesOnFrom r h s left → Tells left place after → n ≡ record m { holds = after; restart = s } → v ≡ u → is_failure answered ≡ false
    → Restarts m w place sent answered v n
restart_goes_on m w place sent answered u v None s h left after n keeps makes same goes tells n_is v_is whole = absurd makes
restart_goes_on m w place sent answered u v (Some q) s h left after n keeps makes same goes tells n_is v_is whole =
    let restart : s ≡ n.restart = sym (ap (λ (k : Member). k.restart) n_is) in
    let from : GoesOn q.resources.marks.is_up q m.holds s left = subst (λ (k : Held). GoesOn q.resources.marks.is_up q k s left) same goes in record {
      keeps = keeps;
      reached = q;
      makes = subst (λ (x : World). RestartMakes m w sent answered x q) (sym v_is) makes;
      ends = subst (λ (b : Bool). RestartEnds b q m place n) (sym whole) (record {
        left = left;
        after = after;
        goes_on = subst (λ (r : Option Restarting). GoesOn q.resources.marks.is_up q m.holds r left) restart from;
        tells = tells;
        member = n_is ∙ ap (λ (r : Option Restarting). record m { holds = after; restart = r }) restart;
      });
    }

-- ---- the event of a rebuild

-- the rebuild that has begun is in hand
in_hand_before : (id ids : ℕ) (o k : Option Rebuilding) (before : Rebuilding) → IsSomeAnd k (IsInHand id o) → IsInHand ids k before → IsInHand id o before
in_hand_before id ids o None before begun had = absurd begun
in_hand_before id ids o (Some q) before begun had = subst (λ (r : Rebuilding). IsInHand id o r) (sym had) begun

pub rebuild_goes_on : (m b : Member) (w : World) (place : ℕ) (sent : RebuildSent) (answered : Answered) (u v : World) (r s : Option Rebuilding) (h after : Held) (n : Member)
    → IsSomeAnd b.rebuild (IsInHand m.id m.rebuild) → IsSomeAnd r (RebuildMakes b w sent answered u) → (s ≡ r) ⊎ (s ≡ None) → h ≡ m.holds → Tells h place after → n ≡ record m { holds = after; rebuild = s } → v ≡ u
    → is_failure answered ≡ false → Rebuilds m w place sent answered v n
rebuild_goes_on m b w place sent answered u v None s h after n begun makes goes same tells n_is v_is whole = absurd makes
rebuild_goes_on m b w place sent answered u v (Some q) s h after n begun makes goes same tells n_is v_is whole =
    let rebuild : s ≡ n.rebuild = sym (ap (λ (k : Member). k.rebuild) n_is) in
    let own : RebuildMakes m w sent answered u q = record { before = makes.before; had = in_hand_before m.id b.id m.rebuild b.rebuild makes.before begun makes.had; happens = makes.happens } in record {
      reached = q;
      makes = subst (λ (x : World). RebuildMakes m w sent answered x q) (sym v_is) own;
      ends = subst (λ (b : Bool). RebuildEnds b q m place n) (sym whole) (record {
        after = after;
        goes_on = subst (λ (t : Option Rebuilding). (t ≡ Some q) ⊎ (t ≡ None)) rebuild goes;
        tells = subst (λ (k : Held). Tells k place after) same tells;
        member = n_is ∙ ap (λ (t : Option Rebuilding). record m { holds = after; rebuild = t }) rebuild;
      });
    }

-- ---- what was taken out is taken over

pub hands_over : (o : Option Restarting) (left : Option Adopted) (r : Option Restarting) (h k : Held) → TakesFrom o left r → AdoptsLeft left h k → HandsOverFrom o h r k
hands_over None left r h k takes adopts = (takes.1, subst (λ (l : Option Adopted). AdoptsLeft l h k) takes.0 adopts)
hands_over (Some q) left None h k takes adopts = absurd takes
hands_over (Some q) left (Some p) h k takes adopts = record { left = left; rest = p; takes = takes; restart = refl; adopts = adopts }

pub where_ok : {A E : Type 0} (result : Result A E) (P Q : Type 0) → OnOk result P → (P → Q) → OnOk result Q
where_ok (Err e) P Q holds so = tt
where_ok (Ok x) P Q holds so = so holds
