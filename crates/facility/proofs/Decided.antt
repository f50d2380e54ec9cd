-- Tests that say when something holds.
use Rattle.std.proofs.Common.{◌≡◌, ◌↔◌, Bool, true, false, ◌&&◌, refl, sym, true≢false}
use Rattle.std.specs.Prelude.{IsTrue}

-- both tests pass exactly where both facts hold
pub both : (a b : Bool) (A B : Type 0) → (IsTrue a ↔ A) → (IsTrue b ↔ B) → IsTrue (a && b) ↔ (A × B)
both true true A B p q = (λ t. (p.0 refl, q.0 refl), λ h. refl)
both true false A B p q = (λ t. absurd (true≢false (sym t)), λ h. q.1 h.1)
both false b A B p q = (λ t. absurd (true≢false (sym t)), λ h. p.1 h.0)
