use Rattle.std.proofs.Common.{arith, rules}
use Rattle.number_text.proofs.Digits.{read_wide_too_great}
use Rattle.number_text.proofs.wide.wide_number_of.Goals as goal

pub returns-in_err-checked_mul : goal.returns-in_err-checked_mul
returns-in_err-checked_mul c = rw (read_wide_too_great c.args.word.now c.loop-byte.byte-index c.loop-byte.number (search rules) (search rules) (omega (arith, c.in_err-checked_mul.ensures))) (search rules)
