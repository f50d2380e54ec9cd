-- The cells in the world and in the group.
use Rattle.std.proofs.Common.{◌≡◌, ℕ, ◌≤◌, refl, sym, ◌∙◌, ap, subst, Bool, true, false, inl, inr, None}
use Rattle.std.specs.Prelude.{◌≢◌, ◌==◌, ◌&&◌, leb, if◌then◌else◌}
use Rattle.std.proofs.lemmas.Bool.{cond_both, cond-true, cond-false, cases_Bool, both_ways, and_parts, and_from, eqb-true, leb-true, le-leb}
use Rattle.ds_base.specs.Ids.{IsMember}
use Rattle.lock_structure.specs.Locks.{Locks}
use Rattle.list_structure.specs.declared.query.Asker.{Asker}
use Rattle.list_structure.specs.declared.query.Cell.{Cell as FacilityCell}
use Rattle.list_structure.specs.declared.query.Cell.TheVariants as cell
use Rattle.list_structure.specs.Askers.{IsAsker, slot_of}
use Rattle.list_structure.specs.Cells.{AreCells, cell_of, with_cell, emptied}
use Rattle.list_structure.specs.declared.standing.MemberStatus.TheVariants.{Up}
use Rattle.list_structure.specs.Standings.{status_of}
use Rattle.list_structure.specs.States.{ListsState}
use Rattle.lock_protocol.specs.Machine.{World, Cell, Empty, Asked, told, cleared}
use Rattle.lock_world.specs.Numbers.{number, name_at}
use Rattle.lock_world.specs.Views.{is_member, is_slot, as_cell, cell_in, is_live_in, version_in, interest_in, record_in}
use Rattle.lock_world.specs.Tied.{Claims, ClaimTied, is_own, Tied}
use Rattle.lock_world.specs.Cells.{AsksMoves, RefusesMoves}

abbrev pub CellsTied : World → ListsState → Type 0
CellsTied w lists = (a o k : ℕ) → w.cells a o k ≡ cell_in lists a o k

-- ---- which cells there are
abbrev pub is_there : ℕ → ℕ → ℕ → Bool
is_there a o k = is_member a && (is_slot o && is_member k)

pub member_is : (k : ℕ) → is_member k ≡ true → IsMember k
member_is k t = let p = and_parts (leb 1 k) (leb k 32) t in (leb-true 1 k p.0, leb-true k 32 p.1)

pub member_so : (k : ℕ) → IsMember k → is_member k ≡ true
member_so k m = and_from (leb 1 k) (leb k 32) (le-leb 1 k m.0) (le-leb k 32 m.1)

asker_of : (a o k : ℕ) → is_there a o k ≡ true → IsAsker (slot_of a o)
asker_of a o k t = let p = and_parts (is_member a) (is_slot o && is_member k) t in let q = and_parts (is_slot o) (is_member k) p.1 in (member_is a p.0, leb-true o 16 q.0)

member_of : (a o k : ℕ) → is_there a o k ≡ true → IsMember k
member_of a o k t = let p = and_parts (is_member a) (is_slot o && is_member k) t in let q = and_parts (is_slot o) (is_member k) p.1 in member_is k q.1

pub there_so : (a o k : ℕ) → IsMember a → o ≤ 16 → IsMember k → is_there a o k ≡ true
there_so a o k x y z = and_from (is_member a) (is_slot o && is_member k) (member_so a x) (and_from (is_slot o) (is_member k) (le-leb o 16 y) (member_so k z))

-- ---- cells that become what a function says
pub set_cells : (v : World) (after : ListsState) (f : Asker → ℕ → FacilityCell) → AreCells after.cells f
    → ((a o k : ℕ) → is_there a o k ≡ true → v.cells a o k ≡ as_cell (f (slot_of a o) k)) → ((a o k : ℕ) → is_there a o k ≡ false → v.cells a o k ≡ Empty) → CellsTied v after
set_cells v after f are inside outside a o k = cond_both (is_there a o k) (as_cell (cell_of after.cells (slot_of a o) k)) Empty (λ x. v.cells a o k ≡ x)
    (λ t. inside a o k t ∙ sym (ap as_cell (are (slot_of a o) k (asker_of a o k t) (member_of a o k t))))
    (λ t. outside a o k t)

pub was_there : (w : World) (lists : ListsState) (a o k : ℕ) → CellsTied w lists → is_there a o k ≡ true → w.cells a o k ≡ as_cell (cell_of lists.cells (slot_of a o) k)
was_there w lists a o k c t = c a o k ∙ cond-true (is_there a o k) (as_cell (cell_of lists.cells (slot_of a o) k)) Empty t

pub was_not : (w : World) (lists : ListsState) (a o k : ℕ) → CellsTied w lists → is_there a o k ≡ false → w.cells a o k ≡ Empty
was_not w lists a o k c t = c a o k ∙ cond-false (is_there a o k) (as_cell (cell_of lists.cells (slot_of a o) k)) Empty t

-- ---- one cell is set
chosen : (p q r : Bool) (x y : Cell) (u v : FacilityCell) → x ≡ as_cell u → y ≡ as_cell v → (if p && (q && r) then x else y) ≡ as_cell (if (p && q) && r then u else v)
chosen false q r x y u v e f = f
chosen true false r x y u v e f = f
chosen true true false x y u v e f = f
chosen true true true x y u v e f = e

not_here : (m slot to a o k : ℕ) → IsMember m → slot ≤ 16 → IsMember to → is_there a o k ≡ false → ((a == m) && ((o == slot) && (k == to))) ≡ false
not_here m slot to a o k x y z out = elim (cases_Bool ((a == m) && ((o == slot) && (k == to)))) [
  | inl t ↦ absurd (both_ways (is_there a o k) out (same t))
  | inr f ↦ f
]
  where
    same : ((a == m) && ((o == slot) && (k == to))) ≡ true → is_there a o k ≡ true
    same t =
        let p = and_parts (a == m) ((o == slot) && (k == to)) t in
        let q = and_parts (o == slot) (k == to) p.1 in
        there_so a o k (subst IsMember (sym (eqb-true a m p.0)) x) (subst (λ i. i ≤ 16) (sym (eqb-true o slot q.0)) y) (subst IsMember (sym (eqb-true k to q.1)) z)

pub set_cell : (w : World) (lists after : ListsState) (m slot to : ℕ) (c : FacilityCell) → CellsTied w lists → IsMember m → slot ≤ 16 → IsMember to
    → AreCells after.cells (with_cell lists.cells (slot_of m slot) to c) → CellsTied (told w m slot to (as_cell c)) after
set_cell w lists after m slot to c cells x y z are = set_cells (told w m slot to (as_cell c)) after (with_cell lists.cells (slot_of m slot) to c) are
    (λ a o k t. chosen (a == m) (o == slot) (k == to) (as_cell c) (w.cells a o k) c (cell_of lists.cells (slot_of a o) k) refl (was_there w lists a o k cells t))
    (λ a o k t. cond-false ((a == m) && ((o == slot) && (k == to))) (as_cell c) (w.cells a o k) (not_here m slot to a o k x y z t) ∙ was_not w lists a o k cells t)

-- ---- an asker's cells are emptied
cleared_at : (p q : Bool) (y : Cell) (v : FacilityCell) → y ≡ as_cell v → (if p && q then Empty else y) ≡ as_cell (if p && q then cell.Empty else v)
cleared_at false q y v f = f
cleared_at true false y v f = f
cleared_at true true y v f = refl

empty_both : (b : Bool) (y : Cell) → y ≡ Empty → (if b then Empty else y) ≡ Empty
empty_both false y e = e
empty_both true y e = refl

pub clear_cells : (w : World) (lists after : ListsState) (m slot : ℕ) → CellsTied w lists → AreCells after.cells (emptied lists.cells (slot_of m slot)) → CellsTied (cleared w m slot) after
clear_cells w lists after m slot cells are = set_cells (cleared w m slot) after (emptied lists.cells (slot_of m slot)) are
    (λ a o k t. cleared_at (a == m) (o == slot) (w.cells a o k) (cell_of lists.cells (slot_of a o) k) (was_there w lists a o k cells t))
    (λ a o k t. empty_both ((a == m) && (o == slot)) (w.cells a o k) (was_not w lists a o k cells t))

-- ---- the moves
abbrev pub SameLists : ListsState → ListsState → Type 0
SameLists lists after = after ≡ record lists { cells = after.cells }

-- a world whose cells alone have changed
pub still : (w v : World) (locks : Locks) (lists after : ListsState) (held : Claims) → Tied w locks lists held → v ≡ record w { cells = v.cells } → SameLists lists after → CellsTied v after → Tied v locks after held
still w v locks lists after held t same e cells = record {
  versions = subst (λ (x : World). (i : ℕ) → x.version i ≡ version_in locks i) (sym same) t.versions;
  interest = subst (λ (x : World). (k i : ℕ) → x.interest k i ≡ interest_in locks k i) (sym same) t.interest;
  records = subst (λ (x : World). (k c : ℕ) → x.records k c ≡ record_in locks k c) (sym same) t.records;
  claims = subst (λ (x : World). (k o c : ℕ) → x.live k ≡ true → ClaimTied (x.claims k o c) (held k o c) (x.records k c)) (sym same) t.claims;
  down = subst (λ (x : World). (k o c : ℕ) → x.live k ≡ false → held k o c ≡ None) (sym same) t.down;
  up = subst (λ (x : World). (k o c : ℕ) → IsMember k → status_of after.statuses k ≡ Up → held k o c ≡ None → x.claims k o c ≡ None) (sym same)
      (subst (λ (x : ListsState). (k o c : ℕ) → IsMember k → status_of x.statuses k ≡ Up → held k o c ≡ None → w.claims k o c ≡ None) (sym e) t.up);
  own = subst (λ (x : World). (k o c : ℕ) → is_own (name_at c) ≡ true → o ≢ 0 → x.claims k o c ≡ None) (sym same) t.own;
  cells = cells;
  live = subst (λ (x : World). (k : ℕ) → 1 ≤ k → k ≤ after.members → x.live k ≡ is_live_in after k) (sym same) (subst (λ (x : ListsState). (k : ℕ) → 1 ≤ k → k ≤ x.members → w.live k ≡ is_live_in x k) (sym e) t.live);
}

pub asks : AsksMoves
asks w locks lists after held m slot to n mode t x y z are e = record {
  same = refl;
  world = told w m slot to (Asked (number n) mode);
  run = (told w m slot to (Asked (number n) mode), refl, refl);
  tied = still w (told w m slot to (Asked (number n) mode)) locks lists after held t refl e (set_cell w lists after m slot to (cell.Asked n mode) t.cells x y z are);
}

pub refuses : RefusesMoves
refuses w locks lists after held m slot t x y are e = record {
  same = refl;
  world = cleared w m slot;
  run = (cleared w m slot, refl, refl);
  tied = still w (cleared w m slot) locks lists after held t refl e (clear_cells w lists after m slot t.cells are);
}
