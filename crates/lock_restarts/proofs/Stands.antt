-- Claims that stay behind an event of a restart, and moves behind which all else is as it was.
use Rattle.std.proofs.Common.{◌≡◌, ℕ, refl, sym, ◌∙◌, ap, subst, Bool, true, false, inl, inr, List, [], Option, Some, None}
use Rattle.std.specs.Prelude.{◌==◌, ◌&&◌, ◌||◌, if◌then◌else◌, is_none}
use Rattle.std.proofs.lemmas.Bool.{cases_eq, and_parts, eqb-true, ne_eqb}
use Rattle.ds_base.specs.declared.names.PageId.{PageId}
use Rattle.ds_model.specs.declared.lock.Name.TheVariants as name
use Rattle.lock_names.specs.declared.mode.Mode.{Mode}
use Rattle.lock_names.specs.declared.mode.Mode.TheVariants.{X}
use Rattle.lock_structure.specs.Locks.{Locks}
use Rattle.list_structure.specs.States.{ListsState}
use Rattle.facility.specs.States.{Held}
use Rattle.restart_marks.specs.Moves.{is_claimed_as, is_same}
use Rattle.restart_marks.specs.State.{RestartState}
use Rattle.restart_resources.specs.Held as resources
use Rattle.restart_resources.specs.Lending.{with_bytes}
use Rattle.lock_protocol.specs.Machine.{World}
use Rattle.lock_protocol.specs.Moves.{Move}
use Rattle.lock_world.specs.Numbers.{number}
use Rattle.lock_world.specs.Standing.{StaysTied}
use Rattle.lock_world.specs.Tied.{Claims, Tied, Moved}
use Rattle.lock_world.specs.Views.{entry_in}
use Rattle.lock_restarts.specs.Stands.{OwnClaims, Knows, Leads, Goes, known_with, or_else, page_claim}
use Rattle.lock_restarts.proofs.Spares.{no_move}

-- ---- marks behind the command, before it is settled
pub same_marks : (h k : resources.Held) (b : Bool) (page : List ℕ) → k ≡ with_bytes h b page → k.marks ≡ h.marks
same_marks h k true page e = ap (λ (z : resources.Held). z.marks) e
same_marks h k false page e = ap (λ (z : resources.Held). z.marks) e

-- ---- the claims stay
pub stay_claims : (held left : Claims) (own : OwnClaims) (s t : RestartState) → Knows held own s → Leads held left own s t → t.claim ≡ s.claim → (k o c : ℕ) → left k o c ≡ held k o c
stay_claims held left own s t knows leads same k o c = elim (cases_eq k s.member) [
  | inl e ↦ subst (λ z. left z o c ≡ held z o c) (sym e) (leads.knows o c ∙ ap (λ (z : Option PageId). known_with own z o c) same ∙ sym (knows o c))
  | inr ne ↦ leads.others k o c ne
]

-- ---- a world that stands beside all this stands beside what is told of it otherwise
pub ended : StaysTied → (w : World) (moves : List Move) (before locks : Locks) (lists : ListsState) (g : Held) (held left : Claims) → Moved w moves before locks lists held
    → g.locks ≡ locks → g.lists.cells ≡ lists.cells → g.lists.statuses ≡ lists.statuses → g.lists.members ≡ lists.members → ((k o c : ℕ) → left k o c ≡ held k o c) → Moved w moves before g.locks g.lists left
ended law w moves before locks lists g held left m same cells statuses members claims = subst (λ (z : Locks). Moved w moves before z g.lists left) (sym same) moved
  where
    moved : Moved w moves before locks g.lists left
    moved =
        let n = law m.world locks lists g.lists held left m.tied (record { cells = cells; statuses = statuses; members = members; claims = claims }) in
        record { same = m.same; world = m.world; run = m.run; tied = subst (λ z. Tied z locks g.lists left) n.run n.tied }

-- no move
pub quiet_goes : StaysTied → (w : World) (f g : Held) (held left : Claims) (m : ℕ) (gone : ℕ → Bool) → Tied w f.locks f.lists held → g ≡ f → ((k o c : ℕ) → left k o c ≡ held k o c) → Goes w f g left m gone
quiet_goes law w f g held left m gone tied same claims =
    let moved : Moved w [] f.locks g.locks g.lists left =
    ended law w [] f.locks f.locks f.lists g held left (law w f.locks f.lists f.lists held held tied (record { cells = refl; statuses = refl; members = refl; claims = λ k o c. refl }))
    (ap (λ (z : Held). z.locks) same) (ap (λ (z : Held). z.lists.cells) same) (ap (λ (z : Held). z.lists.statuses) same) (ap (λ (z : Held). z.lists.members) same) claims in
    record { moves = []; own = tt; moved = moved; spares = no_move (entry_in f.locks) w moved.world m gone moved.run }

-- ---- the page is claimed
same_page : (p q : PageId) → is_same p q ≡ true → p ≡ q
same_page p q e =
    let both = and_parts (p.set == q.set) (p.number == q.number) e in
    let sets : p.set ≡ q.set = eqb-true p.set q.set both.0 in
    let numbers : p.number ≡ q.number = eqb-true p.number q.number both.1 in
    λ i. record { set = sets i; number = numbers i }

twice : (b : Bool) → (if b then Some X else None) ≡ (if b then Some X else (if b then Some X else None))
twice true = refl
twice false = refl

page_entered : (claim : Option PageId) (page : PageId) → (is_none claim || is_claimed_as claim page) ≡ true → (c : ℕ) → page_claim (Some page) c ≡ (if c == number (name.Page page) then Some X else page_claim claim c)
page_entered None page free c = refl
page_entered (Some q) page free c =
    subst (λ (z : PageId). page_claim (Some page) c ≡ (if c == number (name.Page page) then Some X else page_claim (Some z) c)) (sym (same_page q page free)) (twice (c == number (name.Page page)))

pub claim_entered : (own : OwnClaims) (claim : Option PageId) (page : PageId) → ((c : ℕ) → own 0 c ≡ None) → (is_none claim || is_claimed_as claim page) ≡ true → (o c : ℕ)
    → known_with own (Some page) o c ≡ (if true && ((o == 0) && (c == number (name.Page page))) then Some X else known_with own claim o c)
claim_entered own claim page pages free o c = elim (cases_eq o 0) [
  | inl e ↦ subst (λ z. known_with own (Some page) z c ≡ (if true && ((z == 0) && (c == number (name.Page page))) then Some X else known_with own claim z c)) (sym e) here
  | inr ne ↦ there (o == 0) (ne_eqb o 0 ne)
]
  where
    alone : (x : Option PageId) → known_with own x 0 c ≡ page_claim x c
    alone x = ap (λ (z : Option Mode). or_else z (page_claim x c)) (pages c)

    here : known_with own (Some page) 0 c ≡ (if c == number (name.Page page) then Some X else known_with own claim 0 c)
    here = alone (Some page) ∙ page_entered claim page free c ∙ ap (λ (z : Option Mode). if c == number (name.Page page) then Some X else z) (sym (alone claim))

    there : (b : Bool) → b ≡ false
        → or_else (own o c) (if b then page_claim (Some page) c else None) ≡ (if b && (c == number (name.Page page)) then Some X else or_else (own o c) (if b then page_claim claim c else None))
    there true e = cc
    there false e = refl

-- ---- nothing is claimed
neither : (b : Bool) (c : ℕ) → (if b then page_claim None c else None) ≡ None
neither true c = refl
neither false c = refl

pub none_left : (own : OwnClaims) → ((o c : ℕ) → own o c ≡ None) → (o c : ℕ) → known_with own None o c ≡ None
none_left own none o c = ap (λ (z : Option Mode). or_else z (if o == 0 then page_claim None c else None)) (none o c) ∙ neither (o == 0) c
