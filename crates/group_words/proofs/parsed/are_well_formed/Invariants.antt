use Rattle.std.proofs.Common.{◌≡◌}
use Rattle.std.specs.List.{list_all}
use Rattle.group_words.specs.Orders.{texts}
use Rattle.group_words.specs.Parsed.{is_well_formed}
use Rattle.group_words.proofs.Formed.{formed_from}
use Rattle.group_words.proofs.parsed.are_well_formed.Given as goal

abbrev pub invariant-loop-word : goal.invariant-loop-word
invariant-loop-word l = formed_from l.word-index l.words ≡ list_all is_well_formed (texts l.fn.words)
