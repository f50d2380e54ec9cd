use Rattle.std.proofs.Common.{◌≡◌, ◌<◌, ◌^◌, drop}
use Rattle.std.specs.Str.{all_ascii_digits}
use Rattle.number_text.specs.Numbers.{spelled, spelled_after}
use Rattle.number_text.proofs.wide.wide_number_of.Given as goal

abbrev pub invariant-loop-byte : goal.invariant-loop-byte
invariant-loop-byte l = (spelled_after l.number (drop l.byte-index l.word) ≡ spelled l.fn.word)
    × (all_ascii_digits (drop l.byte-index l.word) ≡ all_ascii_digits l.fn.word)
    × (l.number < 2 ^ 128)
