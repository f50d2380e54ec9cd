-- Records that are passed from the end of what is in hand.
use Rattle.std.proofs.Common.{◌≡◌, ℕ, ◌≤◌, length, take, refl, sym, ap, ◌∙◌, arith}
use Rattle.std.proofs.lemmas.List.{length-take, length-take-le, take-take, take_all}
use Rattle.log_checkpoint.specs.Backwards.{SearchState}
use Rattle.log_checkpoint.specs.Passed.{HasPassed}

-- none
pub pass_none : (s : SearchState) → HasPassed s s
pass_none s = record { block = refl; low = refl; hand = sym (take_all (length s.hand) s.hand (omega arith)) }

-- the last of what is in hand, up to this place of it
pub pass_last : (s t : SearchState) (left : ℕ) → t.block ≡ s.block → t.low ≡ s.low → left ≤ length s.hand → t.hand ≡ take left s.hand → HasPassed s t
pass_last s t left block low le hand =
    let long : length t.hand ≡ left = ap length hand ∙ length-take-le left s.hand le in
    record { block = block; low = low; hand = hand ∙ ap (λ (k : ℕ). take k s.hand) (sym long) }

-- and then more
pub pass_more : (a b c : SearchState) → HasPassed a b → HasPassed b c → HasPassed a c
pass_more a b c h k =
    let cut = length-take (length c.hand) b.hand in
    let long : length c.hand ≡ length (take (length c.hand) b.hand) = ap length k.hand in
    record {
      block = k.block ∙ h.block;
      low = k.low ∙ h.low;
      hand = k.hand ∙ ap (take (length c.hand)) h.hand ∙ take-take (length c.hand) (length b.hand) a.hand (omega (arith, cut, long));
    }
