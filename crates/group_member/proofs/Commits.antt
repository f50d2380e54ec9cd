-- Commits are entered one by one.
use Rattle.std.proofs.Common.{ℕ, ◌+◌, ◌<◌, List, [], ◌∷◌, ◌++◌, length, take, slice_index_or, refl, sym, subst}
use Rattle.std.proofs.lemmas.List.{take_more}
use Rattle.member_trans.specs.declared.fate.Owner.TheVariants as owner
use Rattle.member_marks.specs.State.{MarksState, id_of}
use Rattle.script_fates.specs.Fated.{FatesState}
use Rattle.group_member.specs.Entering.{Commits, CommitsOne}

behind : (s : MarksState) (slots : List ℕ) (slot : ℕ) (f g h : FatesState) → Commits s slots f g → CommitsOne (id_of s (owner.Slot slot)).number g h
    → Commits s (slots ++ slot ∷ []) f h
behind s [] slot f g h same one = (h, subst (λ (u : FatesState). CommitsOne (id_of s (owner.Slot slot)).number u h) same one, refl)
behind s (x ∷ xs) slot f g h before one = (before.0, before.1, behind s xs slot before.0 g h before.2 one)

-- one more
pub commits_more : (s : MarksState) (slots : List ℕ) (i : ℕ) (f g h : FatesState) → i < length slots → Commits s (take i slots) f g
    → CommitsOne (id_of s (owner.Slot (slice_index_or slots i 0))).number g h → Commits s (take (i + 1) slots) f h
commits_more s slots i f g h within before one =
    subst (λ (its : List ℕ). Commits s its f h) (sym (take_more slots i 0 within)) (behind s (take i slots) (slice_index_or slots i 0) f g h before one)
