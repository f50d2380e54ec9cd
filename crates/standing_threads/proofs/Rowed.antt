-- Rows, and the value at their end.
use Rattle.std.proofs.Common.{◌≡◌, suc, List, [], ◌∷◌, ◌++◌, length, ap, refl}
use Rattle.standing_threads.specs.Rows.{AllOf, LeavesEach}

module _ {T : Type 0} where
  pub all_front : (Holds : T → Type 0) (xs : List T) (x : T) → AllOf Holds (xs ++ x ∷ []) → AllOf Holds xs × Holds x
  all_front Holds [] x h = (tt, h.0)
  all_front Holds (y ∷ ys) x h = let rest = all_front Holds ys x h.1 in ((h.0, rest.0), rest.1)

  pub all_more : (Holds : T → Type 0) (xs : List T) (x : T) → AllOf Holds xs → Holds x → AllOf Holds (xs ++ x ∷ [])
  all_more Holds [] x h here = (here, tt)
  all_more Holds (y ∷ ys) x h here = (h.0, all_more Holds ys x h.1 here)

  pub each_more : (leaves : T → T → Type 0) (xs ys : List T) (x y : T) → LeavesEach leaves xs ys → leaves x y → LeavesEach leaves (xs ++ x ∷ []) (ys ++ y ∷ [])
  each_more leaves [] [] x y h here = (here, tt)
  each_more leaves [] (v ∷ vs) x y h here = absurd h
  each_more leaves (u ∷ us) [] x y h here = absurd h
  each_more leaves (u ∷ us) (v ∷ vs) x y h here = (h.0, each_more leaves us vs x y h.1 here)

  pub each_length : (leaves : T → T → Type 0) (xs ys : List T) → LeavesEach leaves xs ys → length ys ≡ length xs
  each_length leaves [] [] h = refl
  each_length leaves [] (v ∷ vs) h = absurd h
  each_length leaves (u ∷ us) [] h = absurd h
  each_length leaves (u ∷ us) (v ∷ vs) h = ap suc (each_length leaves us vs h.1)
