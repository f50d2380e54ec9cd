-- What a member answers is true of the world's claims, but for those that retained records stand for.
use Rattle.std.proofs.Common.{◌≡◌, ℕ, ◌≤◌, refl, sym, ◌∙◌, ap, subst, Bool, true, false, inl, inr, Option, Some, None}
use Rattle.std.specs.Prelude.{◌≢◌, not}
use Rattle.std.proofs.lemmas.Bool.{both_ways}
use Rattle.ds_base.specs.Ids.{IsMember}
use Rattle.ds_model.specs.declared.lock.Name.{Name}
use Rattle.lock_names.specs.declared.mode.Mode.{Mode}
use Rattle.lock_names.specs.Modes.{are_compatible}
use Rattle.lock_structure.specs.Locks.{Locks, entry_at, entry_for}
use Rattle.list_structure.specs.declared.query.Cell.TheVariants as cell
use Rattle.list_structure.specs.declared.query.CellAnswer.{CellAnswer}
use Rattle.list_structure.specs.declared.query.CellAnswer.TheVariants as said
use Rattle.list_structure.specs.Askers.{slot_of}
use Rattle.list_structure.specs.Cells.{AreCells, with_cell}
use Rattle.list_structure.specs.States.{ListsState}
use Rattle.lock_manager.specs.Claims.{is_in_way}
use Rattle.lock_protocol.specs.Machine.{World, Record, IsClear, Clean, Conflict, told}
use Rattle.lock_world.specs.Numbers.{number}
use Rattle.lock_world.specs.Views.{entry_in, version_in, as_cell}
use Rattle.lock_world.specs.Tied.{Claims, ClaimTied}
use Rattle.lock_world.specs.Answers.{NoneInWay, AnswersClean, AnswersConflict}
use Rattle.lock_world.proofs.Records.{entry_of_number}
use Rattle.lock_world.proofs.Cells.{CellsTied, set_cell, still}

not_in_way : (b : Bool) → not b ≡ false → b ≡ true
not_in_way true e = refl
not_in_way false e = absurd (both_ways true e refl)

clear_same : (w : Option Mode) (b : Mode) (r : Option Record) (mode : Mode) → w ≡ Some b → are_compatible b mode ≡ true → IsClear w r mode
clear_same w b r mode e h = subst (λ x. IsClear x r mode) (sym e) (inl h)

clear_of : (w m : Option Mode) (r : Option Record) (mode : Mode) → ClaimTied w m r → is_in_way m mode ≡ false → IsClear w r mode
clear_of None None r mode t free = tt
clear_of (Some a) None r mode t free = inr t
clear_of None (Some b) r mode t free = tt
clear_of (Some a) (Some b) r mode t free = clear_same (Some a) b r mode t (not_in_way (are_compatible b mode) free)

clear_all : (w : World) (held : Claims) (k : ℕ) (n : Name) (mode : Mode) → ((q c : ℕ) → ClaimTied (w.claims k q c) (held k q c) (w.records k c)) → NoneInWay held k n mode
    → (q : ℕ) → IsClear (w.claims k q (number n)) (w.records k (number n)) mode
clear_all w held k n mode tied clean q = clear_of (w.claims k q (number n)) (held k q (number n)) (w.records k (number n)) mode (tied q (number n)) (clean q)

version_of : (w : World) (locks : Locks) (n : Name) → ((e : ℕ) → w.version e ≡ version_in locks e) → w.version (entry_in locks (number n)) ≡ (entry_for locks n).version
version_of w locks n tied = tied (entry_in locks (number n)) ∙ ap (λ e. (entry_at locks e).version) (entry_of_number locks n)

pub answers_clean : AnswersClean
answers_clean w locks lists after held k m slot event n mode t x y z live among clean are e =
    let stamp : as_cell (cell.Answered n mode said.Clean (entry_for locks n).version event) ≡ Clean (number n) mode (w.version (entry_in locks (number n))) = ap (λ x. Clean (number n) mode x) (sym (version_of w locks n t.versions)) in
    let v = told w m slot k (Clean (number n) mode (w.version (entry_in locks (number n)))) in
    record {
      same = refl;
      world = v;
      run = (v, (clear_all w held k n mode (λ q c. t.claims k q c (t.live k z.0 among ∙ live)) clean, refl), refl);
      tied = still w v locks lists after held t refl e (subst (λ c. CellsTied (told w m slot k c) after) stamp (set_cell w lists after m slot k (cell.Answered n mode said.Clean (entry_for locks n).version event) t.cells x y z are));
    }

conflict_cell : (w : World) (lists after : ListsState) (k m slot version event : ℕ) (n : Name) (mode : Mode) (a : CellAnswer) → CellsTied w lists → IsMember m → slot ≤ 16 → IsMember k → a ≢ said.Clean
    → AreCells after.cells (with_cell lists.cells (slot_of m slot) k (cell.Answered n mode a version event)) → CellsTied (told w m slot k (Conflict (number n) mode)) after
conflict_cell w lists after k m slot version event n mode said.Clean t x y z other are = absurd (other refl)
conflict_cell w lists after k m slot version event n mode (said.Conflict by) t x y z other are = set_cell w lists after m slot k (cell.Answered n mode (said.Conflict by) version event) t x y z are
conflict_cell w lists after k m slot version event n mode (said.Postponed by) t x y z other are = set_cell w lists after m slot k (cell.Answered n mode (said.Postponed by) version event) t x y z are

pub answers_conflict : AnswersConflict
answers_conflict w locks lists after held k m slot version event n mode a t x y z other are e = record {
  same = refl;
  world = told w m slot k (Conflict (number n) mode);
  run = (told w m slot k (Conflict (number n) mode), refl, refl);
  tied = still w (told w m slot k (Conflict (number n) mode)) locks lists after held t refl e (conflict_cell w lists after k m slot version event n mode a t.cells x y z other are);
}
