use Rattle.std.proofs.Common.{rules, ◌∷◌, Some, ap, sym, ◌∙◌}
use Rattle.atomic_table.specs.Table.{rest}
use Rattle.turn_gate.proofs.steps.take_out.Goals as goal

pub exchange-requires : goal.exchange-requires
exchange-requires g c = let h = c.requires.has in let me = ap (λ m. m.1) h.1 in (search rules, (Some h.0, me ∙ ap (λ l. (0, Some h.0) ∷ rest l) (sym me)))
