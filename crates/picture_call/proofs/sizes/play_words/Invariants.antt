use Rattle.std.proofs.Common.{◌≡◌, ◌∷◌, take}
use Rattle.std.specs.Prelude.{codes}
use Rattle.picture_call.specs.Orders.{texts}
use Rattle.picture_call.proofs.sizes.play_words.Given as goal

abbrev pub invariant-loop-option : goal.invariant-loop-option
invariant-loop-option l = texts l.words.items ≡ codes "play" ∷ texts (take l.option-index l.options)
