use Rattle.std.proofs.Common.{◌≡◌, ℕ, ◌+◌, ◌*◌, ◌/◌, ◌%◌, ◌^◌, ap, ◌∙◌}
use Rattle.std.proofs.Math.Nat.{mod-add-mod}
use Rattle.draw_generator.specs.Draws.{next_state, drawn}
use Rattle.draw_generator.proofs.generator.Generator.draw.Goals as goal

wrapped : (x : ℕ) → (x * 6364136223846793005 % 2 ^ 64 + 1442695040888963407) % 2 ^ 64 ≡ next_state x
unfolding next_state
wrapped x = mod-add-mod (x * 6364136223846793005) (2 ^ 64) 1442695040888963407

pub returns-clause-state : goal.returns-clause-state
returns-clause-state c = wrapped c.self.inside.state ∙ ap next_state c.self.view_is

pub returns-clause-number : goal.returns-clause-number
unfolding drawn
returns-clause-number c = ap (λ (x : ℕ). x / 2 ^ 33) (wrapped c.self.inside.state ∙ ap next_state c.self.view_is)
