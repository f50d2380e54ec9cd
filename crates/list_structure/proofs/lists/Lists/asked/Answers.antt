use Rattle.std.proofs.Common.{◌≡◌, ◌∙◌, sym, ap, subst, ℕ, ◌+◌, ◌-◌, ◌*◌, ◌/◌, ◌%◌, ◌<◌, ◌≤◌, false, List, arith}
use Rattle.list_structure.specs.declared.query.Asker.{Asker}
use Rattle.list_structure.specs.declared.query.Cell.{Cell}
use Rattle.list_structure.specs.Askers.{IsAsker, place_of}
use Rattle.list_structure.specs.Cells.{NoneAsked, cell_at, is_asked}
use Rattle.list_structure.specs.States.{ListsState}
use Rattle.list_structure.proofs.lists.Lists.asked.Goals as goal

-- the asker at a place
asker_at : ℕ → Asker
asker_at i = record { member = i / 17 + 1; slot = i % 17 }

place_of-asker_at : (i : ℕ) → place_of (asker_at i) ≡ i
unfolding asker_at
place_of-asker_at i = omega arith

is_asker : (i : ℕ) → i < 544 → IsAsker (asker_at i)
unfolding asker_at
is_asker i l = ((omega arith, omega arith), omega arith)

place_range : (a : Asker) → IsAsker a → place_of a < 544
place_range a r = omega arith

by_place : (cells : List Cell) (m : ℕ) → NoneAsked cells m → (i : ℕ) → i < 544 → is_asked (cell_at cells i (m - 1)) ≡ false
by_place cells m h i l = subst (λ (k : ℕ). is_asked (cell_at cells k (m - 1)) ≡ false) (place_of-asker_at i) (h (asker_at i) (is_asker i l))

pub returns : goal.returns
returns c =
    let e : c.self.inside.cells ≡ c.args.self.now.cells = ap (λ (l : ListsState). l.cells) c.self.view_is in
    let inside = c.self.inside.cells in
    let to = c.args.member - 1 in (
      λ f a r. subst (λ (cells : List Cell). is_asked (cell_at cells (place_of a) to) ≡ false) e
          (subst (λ (t : ℕ). is_asked (cell_at inside (place_of a) t) ≡ false) c.index.ensures.place (c.has_asked.ensures.0 f (place_of a) (place_range a r))),
      λ n. c.has_asked.ensures.1 (λ i l. subst (λ (t : ℕ). is_asked (cell_at inside i t) ≡ false) (sym c.index.ensures.place)
          (subst (λ (cells : List Cell). is_asked (cell_at cells i to) ≡ false) (sym e) (by_place c.args.self.now.cells c.args.member n i l))),
    )
