-- Claims that stay, claims that are entered, and events behind which a member is still up.
use Rattle.std.proofs.Common.{◌≡◌, ℕ, ◌≤◌, refl, sym, ◌∙◌, ap, subst, Bool, true, false, inl, inr, List, [], length, Option, Some, None}
use Rattle.std.specs.Prelude.{◌≢◌, ◌==◌, ◌&&◌, if◌then◌else◌}
use Rattle.std.proofs.lemmas.Bool.{cases_eq}
use Rattle.ds_base.specs.Ids.{IsMember}
use Rattle.ds_model.specs.declared.lock.Name.{Name}
use Rattle.lock_names.specs.declared.mode.Mode.{Mode}
use Rattle.lock_structure.specs.Locks.{Locks}
use Rattle.list_structure.specs.Standings.{status_of}
use Rattle.list_structure.specs.States.{ListsState}
use Rattle.facility.specs.States.{Held}
use Rattle.member_marks.specs.State.{MarksState}
use Rattle.lock_protocol.specs.Machine.{World}
use Rattle.lock_protocol.specs.Moves.{Move}
use Rattle.lock_world.specs.Books.{IsBook}
use Rattle.lock_world.specs.Grants.{Enters}
use Rattle.lock_world.specs.Numbers.{number}
use Rattle.lock_world.specs.Standing.{StaysTied}
use Rattle.lock_world.specs.Tied.{Claims, Tied, Moved}
use Rattle.lock_world.specs.Views.{claim_in}
use Rattle.lock_intents.specs.Stands.{Knows, Leads, IsUp, Goes}

-- ---- the claims of a member
abbrev pub SameClaims : MarksState → MarksState → Type 0
SameClaims s t = (o c : ℕ) → claim_in t.locks o c ≡ claim_in s.locks o c

abbrev pub HasClaim : MarksState → MarksState → ℕ → Name → Mode → Type 0
HasClaim s t owner n mode = (o c : ℕ) → claim_in t.locks o c ≡ (if (o == owner) && (c == number n) then Some mode else claim_in s.locks o c)

pub stay_claims : (held left : Claims) (s t : MarksState) → Knows held s → Leads held left s t → SameClaims s t → (k o c : ℕ) → left k o c ≡ held k o c
stay_claims held left s t knows leads same k o c = elim (cases_eq k s.member) [
  | inl e ↦ subst (λ z. left z o c ≡ held z o c) (sym e) (leads.own o c ∙ same o c ∙ sym (knows o c))
  | inr ne ↦ leads.others k o c ne
]

pub enters_claim : (held left : Claims) (s t : MarksState) (owner : ℕ) (n : Name) (mode : Mode) → Knows held s → Leads held left s t → HasClaim s t owner n mode → Enters held left s.member owner n mode true
enters_claim held left s t owner n mode knows leads has = record {
  others = leads.others;
  own = λ o c. leads.own o c ∙ has o c ∙ ap (λ (z : Option Mode). if (o == owner) && (c == number n) then Some mode else z) (sym (knows o c));
}

pub enters_none : (held left : Claims) (s t : MarksState) (owner : ℕ) (n : Name) (mode : Mode) → Knows held s → Leads held left s t → SameClaims s t → Enters held left s.member owner n mode false
enters_none held left s t owner n mode knows leads same = record {
  others = leads.others;
  own = λ o c. stay_claims held left s t knows leads same s.member o c;
}

-- ---- what an event of the member keeps of its marks
pub record Keeps (s t : MarksState) : Type 0 where
  pub member : t.member ≡ s.member
  pub entries : t.locks.entries ≡ s.locks.entries
  pub book : IsBook t.locks

pub keeps_itself : (s : MarksState) → IsBook s.locks → Keeps s s
keeps_itself s b = record { member = refl; entries = refl; book = b }

pub keeps_as : (s t u : MarksState) → t ≡ u → Keeps s u → Keeps s t
keeps_as s t u e k = subst (λ z. Keeps s z) (sym e) k

-- the member is still up
pub still_up : (f g : Held) (s t : MarksState) → IsUp f s → Keeps s t → g.lists.members ≡ f.lists.members → g.lists.statuses ≡ f.lists.statuses → length g.locks.entries ≡ length f.locks.entries → IsUp g t
still_up f g s t up k members statuses size = record {
  member = subst IsMember (sym k.member) up.member;
  among = subst (λ z. z ≤ g.lists.members) (sym k.member) (subst (λ z. s.member ≤ z) (sym members) up.among);
  few = subst (λ z. z ≤ 32) (sym members) up.few;
  up = ap (λ z. status_of z t.member) statuses ∙ ap (λ z. status_of f.lists.statuses z) k.member ∙ up.up;
  size = k.entries ∙ up.size ∙ sym size;
  book = k.book;
}

-- ---- no move
pub record Quiet (f g : Held) : Type 0 where
  pub locks : g.locks ≡ f.locks
  pub cells : g.lists.cells ≡ f.lists.cells
  pub statuses : g.lists.statuses ≡ f.lists.statuses
  pub members : g.lists.members ≡ f.lists.members

pub quiet_same : (f g : Held) → g ≡ f → Quiet f g
quiet_same f g e = record { locks = ap (λ (z : Held). z.locks) e; cells = ap (λ (z : Held). z.lists.cells) e; statuses = ap (λ (z : Held). z.lists.statuses) e; members = ap (λ (z : Held). z.lists.members) e }

pub quiet_goes : StaysTied → (w : World) (f g : Held) (held left : Claims) (s t : MarksState) → Tied w f.locks f.lists held → IsUp f s → Knows held s → Leads held left s t → Quiet f g → SameClaims s t → Keeps s t → Goes w f g left s t
quiet_goes law w f g held left s t tied up knows leads q same k = record {
  moves = [];
  own = tt;
  moved = subst (λ z. Moved w [] f.locks z g.lists left) (sym q.locks) (law w f.locks f.lists g.lists held left tied (record { cells = q.cells; statuses = q.statuses; members = q.members; claims = stay_claims held left s t knows leads same }));
  same = k.member;
  stands = still_up f g s t up k q.members q.statuses (ap (λ (z : Locks). length z.entries) q.locks);
}

-- ---- the claims are told otherwise
pub relabelled : StaysTied → (w : World) (moves : List Move) (before locks : Locks) (lists now : ListsState) (held left : Claims) → Moved w moves before locks lists held
    → now.cells ≡ lists.cells → now.statuses ≡ lists.statuses → now.members ≡ lists.members → ((k o c : ℕ) → left k o c ≡ held k o c) → Moved w moves before locks now left
relabelled law w moves before locks lists now held left m cells statuses members same =
    let n = law m.world locks lists now held left m.tied (record { cells = cells; statuses = statuses; members = members; claims = same }) in
    record {
      same = m.same;
      world = m.world;
      run = m.run;
      tied = subst (λ z. Tied z locks now left) n.run n.tied;
    }
