use Rattle.std.proofs.Common.{◌==◌, ◌+◌, ◌-◌, ℕ, arith, sym, drop, length, length-drop}
use Rattle.std.proofs.lemmas.List.{take_all}
use Rattle.report_line.proofs.Parts.{split_found}
use Rattle.report_line.proofs.words.cut.Goals as goal

pub returns-in-Some-clause-parts : goal.returns-in-Some-clause-parts
returns-in-Some-clause-parts c =
    let at = c.in-Some.at in
    let text = c.args.text.now in
    rw (take_all (length text - (at + 1)) (drop (at + 1) text) (simp length-drop (omega arith))) (split_found (λ (b : ℕ). b == c.args.separator) text at (sym c.in-Some.ensures))
