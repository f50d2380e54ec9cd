-- Queries, also those to and of numbers that aren't members'.
use Rattle.std.proofs.Common.{◌≡◌, ℕ, ◌≤◌, refl, sym, ◌∙◌, ap, subst, arith, Bool, true, false, inl, inr, [], length}
use Rattle.std.specs.Prelude.{◌≢◌, ◌⊎◌, ◌==◌, ◌&&◌, leb, if◌then◌else◌}
use Rattle.std.proofs.lemmas.Bool.{and_from, and_left, and_parts, and_right, both_ways, cases_Bool, le-leb, cond-false, cond_both, leb-true, ne_eqb}
use Rattle.ds_base.specs.Ids.{IsMember}
use Rattle.ds_model.specs.declared.lock.Name.{Name}
use Rattle.lock_names.specs.declared.mode.Mode.{Mode}
use Rattle.lock_structure.specs.Locks.{Locks}
use Rattle.list_structure.specs.declared.query.Asker.{Asker}
use Rattle.list_structure.specs.declared.query.Cell.{Cell}
use Rattle.list_structure.specs.Askers.{same_asker, slot_of}
use Rattle.list_structure.specs.Cells.{AreCells, cell_of, with_cell}
use Rattle.list_structure.specs.Standings.{status_of, is_live}
use Rattle.list_structure.specs.States.{ListsState}
use Rattle.facility.specs.States.{Held}
use Rattle.member_marks.specs.State.{MarksState}
use Rattle.lock_protocol.specs.Machine.{World, Empty}
use Rattle.lock_world.specs.Tied.{Claims, Tied, Moved}
use Rattle.lock_world.specs.Views.{as_cell, cell_in, is_member, is_slot}
use Rattle.lock_world.specs.Standing.{StaysTied}
use Rattle.lock_intents.specs.Stands.{Knows, Leads, IsUp, Goes}
use Rattle.lock_events.proofs.Quiet.{quiet_same}
use Rattle.lock_events.proofs.Stands.{goes_to, quiet_goes, up_as}

-- ---- cells that stay
same_cells : (w : World) (locks : Locks) (lists now : ListsState) (held : Claims) → Tied w locks lists held → ((a o k : ℕ) → cell_in now a o k ≡ cell_in lists a o k) → now.statuses ≡ lists.statuses → now.members ≡ lists.members → Tied w locks now held
same_cells w locks lists now held t cells statuses members = record {
  versions = t.versions;
  interest = t.interest;
  records = t.records;
  claims = t.claims;
  down = t.down;
  up = λ k o c m e. t.up k o c m (ap (λ z. status_of z k) (sym statuses) ∙ e);
  own = t.own;
  cells = λ a o k. t.cells a o k ∙ sym (cells a o k);
  live = λ k one most. t.live k one (subst (λ z. k ≤ z) members most) ∙ ap (λ z. is_live (status_of z k)) (sym statuses);
}

-- a cell of or to a number that isn't a member's is none
is_within : (a o k : ℕ) → (is_member a && (is_slot o && is_member k)) ≡ true → IsMember a × ((o ≤ 16) × IsMember k)
is_within a o k e =
    let p = and_parts (is_member a) (is_slot o && is_member k) e in
    let q = and_parts (is_slot o) (is_member k) p.1 in
    let x = and_parts (leb 1 a) (leb a 32) p.0 in
    let y = and_parts (leb 1 k) (leb k 32) q.1 in
    ((leb-true 1 a x.0, leb-true a 32 x.1), (leb-true o 16 q.0, (leb-true 1 k y.0, leb-true k 32 y.1)))

cells_as : (before after : ListsState) (f : Asker → ℕ → Cell) → AreCells after.cells f → ((a : Asker) (k : ℕ) → IsMember a.member → IsMember k → f a k ≡ cell_of before.cells a k) → (a o k : ℕ) → cell_in after a o k ≡ cell_in before a o k
cells_as before after f are same a o k = cases (is_member a && (is_slot o && is_member k)) refl
  where
    cases : (b : Bool) → (is_member a && (is_slot o && is_member k)) ≡ b → (if b then as_cell (cell_of after.cells (slot_of a o) k) else Empty) ≡ (if b then as_cell (cell_of before.cells (slot_of a o) k) else Empty)
    cases false e = refl
    cases true e =
        let within = is_within a o k e in
        ap (λ z. as_cell z) (are (slot_of a o) k (within.0, within.1.0) within.1.1 ∙ same (slot_of a o) k within.0 within.1.1)

abbrev pub IsNone : Asker → ℕ → Type 0
IsNone asker to = ((a : Asker) (k : ℕ) → IsMember a.member → IsMember k → (same_asker a asker && (k == to)) ≡ false)

-- the query isn't between members, and nothing is told of it
pub strangers : StaysTied → (w : World) (f g : Held) (held left : Claims) (s : MarksState) (asker : Asker) (to : ℕ) (c : Cell) → Tied w f.locks f.lists held → IsUp f s → Knows held s → Leads held left s s → IsNone asker to
    → AreCells g.lists.cells (with_cell f.lists.cells asker to c) → g ≡ record f { lists = record f.lists { cells = g.lists.cells } } → Goes w f g left s s
strangers law w f g held left s asker to c tied up knows leads none are same =
    let lists : g.lists ≡ record f.lists { cells = g.lists.cells } = ap (λ (z : Held). z.lists) same in
    let locks : g.locks ≡ f.locks = ap (λ (z : Held). z.locks) same in
    let cells : (a o k : ℕ) → cell_in g.lists a o k ≡ cell_in f.lists a o k = cells_as f.lists g.lists (with_cell f.lists.cells asker to c) are (λ a k am km. cond-false (same_asker a asker && (k == to)) c (cell_of f.lists.cells a k) (none a k am km)) in
    let now : Tied w f.locks g.lists held = same_cells w f.locks f.lists g.lists held tied cells (ap (λ (z : ListsState). z.statuses) lists) (ap (λ (z : ListsState). z.members) lists) in
    let mid : Held = record f { lists = g.lists } in
    let first : Goes w mid mid left s s = quiet_goes law w mid mid held left s s now (up_as f mid s s up (record { locks = refl; member = refl }) (ap (λ (z : ListsState). z.members) lists) (ap (λ (z : ListsState). z.statuses) lists) refl) knows leads (quiet_same mid mid refl) (record { locks = refl; member = refl }) in
    let there : Goes w f mid left s s = record { moves = first.moves; own = first.own; moved = record { same = first.moved.same; world = first.moved.world; run = first.moved.run; tied = first.moved.tied }; same = first.same; stands = first.stands } in
    goes_to law w f mid g left s s (record { locks = locks; lists = record { cells = refl; statuses = refl; members = refl } }) there

-- ---- who is a member
pub member_or : (k : ℕ) → IsMember k ⊎ ((j : ℕ) → IsMember j → j ≢ k)
member_or k = elim (cases_Bool (is_member k)) [
  | inl is ↦ inl (let p = and_parts (leb 1 k) (leb k 32) is in (leb-true 1 k p.0, leb-true k 32 p.1))
  | inr isnt ↦ inr (λ j m e. both_ways (is_member k) isnt (subst (λ z. is_member z ≡ true) e (and_from (leb 1 j) (leb j 32) (le-leb 1 j m.0) (le-leb j 32 m.1))))
]

pub none_to : (asker : Asker) (to : ℕ) → ((j : ℕ) → IsMember j → j ≢ to) → IsNone asker to
none_to asker to other a k am km = and_right (same_asker a asker) (k == to) (ne_eqb k to (other k km))

pub none_of : (asker : Asker) (to : ℕ) → ((j : ℕ) → IsMember j → j ≢ asker.member) → IsNone asker to
none_of asker to other a k am km = and_left (same_asker a asker) (k == to) (and_left (a.member == asker.member) (a.slot == asker.slot) (ne_eqb a.member asker.member (other a.member am)))
