-- What a transaction does depends on the rows that it touches.
use Rattle.std.proofs.Common.{◌≡◌, ℕ, refl, sym, ◌∙◌, arith, true, false, List, [], ◌∷◌, Option}
use Rattle.row_protocol.specs.Rows.{Op, Read, Wrote, rows_after, IsLegal, writes, touches}

pub after_unwritten : (ops : List Op) (rows : ℕ → Option ℕ) (q : ℕ) → writes ops q ≡ false → rows_after ops rows q ≡ rows q
after_unwritten [] rows q h = refl
after_unwritten (Read r v ∷ ops) rows q h = after_unwritten ops rows q h
after_unwritten (Wrote r v ∷ ops) rows q h = let ih = after_unwritten ops rows q in grind (arith, ih)

pub writes_touches : (ops : List Op) (q : ℕ) → writes ops q ≡ true → touches ops q ≡ true
writes_touches [] q h = h
writes_touches (Read r v ∷ ops) q h = let ih = writes_touches ops q h in grind (arith, ih)
writes_touches (Wrote r v ∷ ops) q h = let ih = writes_touches ops q in grind (arith, ih)

-- at a row where both agree
pub after_agree : (ops : List Op) (a b : ℕ → Option ℕ) (q : ℕ) → a q ≡ b q → rows_after ops a q ≡ rows_after ops b q
after_agree [] a b q h = h
after_agree (Read r v ∷ ops) a b q h = after_agree ops a b q h
after_agree (Wrote r v ∷ ops) a b q h = let ih = after_agree ops a b q h in grind (arith, ih)

pub legal_agree : (ops : List Op) (a b : ℕ → Option ℕ) → ((q : ℕ) → touches ops q ≡ true → a q ≡ b q) → IsLegal ops a → IsLegal ops b
legal_agree [] a b h l = l
legal_agree (Read r v ∷ ops) a b h l = (sym (after_agree ops a b r (h r (grind arith))) ∙ l.0, legal_agree ops a b (λ q t. h q (grind arith)) l.1)
legal_agree (Wrote r v ∷ ops) a b h l = legal_agree ops a b (λ q t. h q (grind arith)) l
