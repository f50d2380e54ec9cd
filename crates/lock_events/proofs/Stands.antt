-- Claims that stay, events behind which a member is still up, and moves one after the other.
use Rattle.std.proofs.Common.{◌≡◌, ℕ, ◌≤◌, refl, sym, ◌∙◌, ap, subst, Bool, true, false, inl, inr, List, [], ◌∷◌, ◌++◌, length, Option}
use Rattle.std.specs.Prelude.{◌≢◌, ◌==◌, if◌then◌else◌}
use Rattle.std.proofs.lemmas.Bool.{cases_eq, cond-true, cond-false, eq-eqb, ne_eqb}
use Rattle.ds_base.specs.Ids.{IsMember}
use Rattle.lock_names.specs.declared.mode.Mode.{Mode}
use Rattle.lock_names.specs.Entries.{entry_number}
use Rattle.lock_structure.specs.Locks.{Locks}
use Rattle.lock_manager.specs.Managers.{Book}
use Rattle.list_structure.specs.Standings.{status_of}
use Rattle.list_structure.specs.States.{ListsState}
use Rattle.facility.specs.States.{Held}
use Rattle.member_marks.specs.State.{MarksState}
use Rattle.lock_protocol.specs.Machine.{World}
use Rattle.lock_protocol.specs.Moves.{Move, Run}
use Rattle.lock_protocol.specs.Own.{AreOf}
use Rattle.lock_protocol.proofs.Own.{both_are_of}
use Rattle.lock_protocol.specs.Sound.{Sound, RunKeepsSound}
use Rattle.lock_world.specs.Books.{IsBook}
use Rattle.lock_world.specs.Numbers.{name_at}
use Rattle.lock_world.specs.Standing.{StaysTied}
use Rattle.lock_world.specs.Tied.{Claims, Tied, Moved}
use Rattle.lock_world.specs.Views.{entry_in, claim_in}
use Rattle.lock_intents.specs.Stands.{Knows, Leads, IsUp, Goes}
use Rattle.marks_law.specs.Claims.{SameClaims}
use Rattle.lock_events.specs.Quiet.{GoesStay, Quiet}

-- ---- the claims of all members once one member's are those of these marks
abbrev pub with_marks_of : Claims → ℕ → MarksState → Claims
with_marks_of held m t k o c = if k == m then claim_in t.locks o c else held k o c

pub knows_own : (held : Claims) (m : ℕ) (t : MarksState) → t.member ≡ m → Knows (with_marks_of held m t) t
knows_own held m t e o c = cond-true (t.member == m) (claim_in t.locks o c) (held t.member o c) (eq-eqb t.member m e)

pub leads_to : (held : Claims) (s t : MarksState) → Leads held (with_marks_of held s.member t) s t
leads_to held s t = record {
  others = λ k o c ne. cond-false (k == s.member) (claim_in t.locks o c) (held k o c) (ne_eqb k s.member ne);
  own = λ o c. cond-true (s.member == s.member) (claim_in t.locks o c) (held s.member o c) (eq-eqb s.member s.member refl);
}

-- those of the same event, behind the first part of it
pub leads_on : (held left : Claims) (s mid t : MarksState) → mid.member ≡ s.member → Leads held left s t → Leads (with_marks_of held s.member mid) left mid t
leads_on held left s mid t e leads = record {
  others = λ k o c ne. leads.others k o c (λ z. ne (z ∙ sym e)) ∙ sym (cond-false (k == s.member) (claim_in mid.locks o c) (held k o c) (ne_eqb k s.member (λ z. ne (z ∙ sym e))));
  own = λ o c. ap (λ z. left z o c) e ∙ leads.own o c;
}

stay_claims : (held left : Claims) (s t : MarksState) → Knows held s → Leads held left s t → SameClaims s t → (k o c : ℕ) → left k o c ≡ held k o c
stay_claims held left s t knows leads same k o c = elim (cases_eq k s.member) [
  | inl e ↦ subst (λ z. left z o c ≡ held z o c) (sym e) (leads.own o c ∙ ap (λ (z : Book). claim_in z o c) same.locks ∙ sym (knows o c))
  | inr ne ↦ leads.others k o c ne
]

-- ---- the member is still up
pub up_as : (f g : Held) (s t : MarksState) → IsUp f s → SameClaims s t → g.lists.members ≡ f.lists.members → g.lists.statuses ≡ f.lists.statuses → length g.locks.entries ≡ length f.locks.entries → IsUp g t
up_as f g s t up same members statuses size = record {
  member = subst IsMember (sym same.member) up.member;
  among = subst (λ z. z ≤ g.lists.members) (sym same.member) (subst (λ z. s.member ≤ z) (sym members) up.among);
  few = subst (λ z. z ≤ 32) (sym members) up.few;
  up = ap (λ z. status_of z t.member) statuses ∙ ap (λ z. status_of f.lists.statuses z) same.member ∙ up.up;
  size = ap (λ (z : Book). z.entries) same.locks ∙ up.size ∙ sym size;
  book = subst IsBook (sym same.locks) up.book;
}

-- ---- no move
pub quiet_goes : StaysTied → (w : World) (f g : Held) (held left : Claims) (s t : MarksState) → Tied w f.locks f.lists held → IsUp f s → Knows held s → Leads held left s t → Quiet f g → SameClaims s t → Goes w f g left s t
quiet_goes law w f g held left s t tied up knows leads q same = record {
  moves = [];
  own = tt;
  moved = subst (λ z. Moved w [] f.locks z g.lists left) (sym q.locks) (law w f.locks f.lists g.lists held left tied (record { cells = q.lists.cells; statuses = q.lists.statuses; members = q.lists.members; claims = stay_claims held left s t knows leads same }));
  same = same.member;
  stands = up_as f g s t up same q.lists.members q.lists.statuses (ap (λ (z : Locks). length z.entries) q.locks);
}

-- ---- what is left has the same claims
pub leads_as : (held left : Claims) (s t u : MarksState) → SameClaims t u → Leads held left s u → Leads held left s t
leads_as held left s t u same leads = record { others = leads.others; own = λ o c. leads.own o c ∙ ap (λ (z : Book). claim_in z o c) same.locks }

pub goes_as : (w : World) (f g : Held) (left : Claims) (s t u : MarksState) → SameClaims t u → Goes w f g left s t → Goes w f g left s u
goes_as w f g left s t u same goes = record {
  moves = goes.moves;
  own = goes.own;
  moved = goes.moved;
  same = same.member ∙ goes.same;
  stands = up_as g g t u goes.stands same refl refl refl;
}

-- what was before has the same claims and tests
pub goes_from : (w : World) (f g : Held) (left : Claims) (r s t : MarksState) → s.member ≡ r.member → Goes w f g left s t → Goes w f g left r t
goes_from w f g left r s t e goes = record { moves = goes.moves; own = subst (λ z. AreOf z goes.moves) e goes.own; moved = goes.moved; same = goes.same ∙ e; stands = goes.stands }

-- ---- one after the other
run_on : (entry : ℕ → ℕ) (w mid v : World) (xs ys : List Move) → Run entry w xs mid → Run entry mid ys v → Run entry w (xs ++ ys) v
run_on entry w mid v [] ys a b = subst (λ z. Run entry z ys v) a b
run_on entry w mid v (x ∷ xs) ys a b = (a.0, a.1, run_on entry a.0 mid v xs ys a.2 b)

-- the entries of names depend on the size of the lock table alone
pub same_entries : (f g : Locks) → length g.entries ≡ length f.entries → entry_in g ≡ entry_in f
same_entries f g e =
    let entries : ℕ → ℕ → ℕ = λ n c. entry_number (name_at c) n in ap entries e

-- local moves behind what is done
pub goes_on : (w : World) (f g : Held) (mid left : Claims) (s t u : MarksState) (a : Goes w f g mid s t) → Goes a.moved.world g g left t u → Goes w f g left s u
goes_on w f g mid left s t u a b = record {
  moves = a.moves ++ b.moves;
  own = both_are_of s.member a.moves b.moves a.own (subst (λ z. AreOf z b.moves) a.same b.own);
  moved = record {
    same = a.moved.same;
    world = b.moved.world;
    run = run_on (entry_in f.locks) w a.moved.world b.moved.world a.moves b.moves a.moved.run (subst (λ z. Run z a.moved.world b.moves b.moved.world) (same_entries f.locks g.locks a.moved.same) b.moved.run);
    tied = b.moved.tied;
  };
  same = b.same ∙ a.same;
  stands = b.stands;
}

pub sound_after : RunKeepsSound → (w : World) (f g : Held) (left : Claims) (s t : MarksState) (a : Goes w f g left s t) → Sound (entry_in f.locks) w → Sound (entry_in g.locks) a.moved.world
sound_after law w f g left s t a sound = subst (λ z. Sound z a.moved.world) (sym (same_entries f.locks g.locks a.moved.same)) (law (entry_in f.locks) a.moves w a.moved.world sound a.moved.run)

-- ---- nothing but quiet parts of the facility differs
pub goes_to : StaysTied → GoesStay
goes_to law w f g now left s t q a =
    let n = law a.moved.world g.locks g.lists now.lists left left a.moved.tied (record { cells = q.lists.cells; statuses = q.lists.statuses; members = q.lists.members; claims = λ k o c. refl }) in
    let tied : Tied a.moved.world g.locks now.lists left = subst (λ z. Tied z g.locks now.lists left) n.run n.tied in record {
      moves = a.moves;
      own = a.own;
      moved = record {
        same = ap (λ (z : Locks). length z.entries) q.locks ∙ a.moved.same;
        world = a.moved.world;
        run = a.moved.run;
        tied = subst (λ z. Tied a.moved.world z now.lists left) (sym q.locks) tied;
      };
      same = a.same;
      stands = up_as g now t t a.stands (record { locks = refl; member = refl }) q.lists.members q.lists.statuses (ap (λ (z : Locks). length z.entries) q.locks);
    }
