use Rattle.std.proofs.Common.{◌≡◌, ◌++◌, take}
use Rattle.picture_text.specs.Svg.{shapes_text}
use Rattle.picture_text.proofs.write.put_shapes.Given as goal

abbrev pub invariant-loop-shape : goal.invariant-loop-shape
invariant-loop-shape l = l.out ≡ l.fn.out ++ shapes_text (take l.shape-index l.shapes)
