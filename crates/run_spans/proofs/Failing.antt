-- The seats of a member, one by one.
use Rattle.std.proofs.Common.{◌≡◌, ℕ, ◌+◌, refl, sym, ap, ◌∙◌, add-one}
use Rattle.run_spans.specs.declared.latest.At.{At}
use Rattle.run_spans.specs.Runs.{Known, seat_failed, seats_failed}

pub seats_none : (at : At) (k : Known) → seats_failed at 0 k ≡ k
unfolding seats_failed
seats_none at k = refl

pub seats_more : (at : At) (c : ℕ) (k : Known) → seats_failed at (c + 1) k ≡ seat_failed at (c + 1) (seats_failed at c k)
unfolding seats_failed
seats_more at c k = ap (λ n. seats_failed at n k) (add-one c) ∙ ap (λ n. seat_failed at n (seats_failed at c k)) (sym (add-one c))
