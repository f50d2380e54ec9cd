use Rattle.std.proofs.Common.{◌≡◌, ◌∙◌, ap, ℕ, List, slice_index_or, replicate, inl, inr, arith}
use Rattle.std.proofs.lemmas.Bool.{cases_lt}
use Rattle.std.proofs.lemmas.List.{get_or_past, get_or-replicate, length-replicate}
use Rattle.list_structure.proofs.copies.copies.Goals as goal

same_at : {A : Type 0} (n k : ℕ) (a : A) → slice_index_or (replicate n a) k a ≡ a
same_at n k a = elim (cases_lt k n) [ inl l ↦ get_or-replicate n k a a l | inr g ↦ get_or_past (replicate n a) k a (omega (arith, length-replicate n a)) ]

pub returns-clause-same : goal.returns-clause-same
returns-clause-same g c = λ k. ap (λ xs. slice_index_or xs k c.args.value) (c.loop-n.invariant.items) ∙ same_at c.loop-n.n k c.args.value
