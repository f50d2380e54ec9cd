use Rattle.std.proofs.Common.{ap}
use Rattle.std.proofs.Math.Path.{fun_ext}
use Rattle.std.specs.Map.{lookup}
use Rattle.std.specs.Ordering.{is_eq, nat_cmp}
use Rattle.std.specs.Cmp.Lexicographic.{slice_cmp}
use Rattle.run_picture.specs.Names.{no_number, number_of}
use Rattle.run_picture.proofs.names.NameNumbers.new.Goals as goal

pub returns : goal.returns
unfolding number_of no_number
returns c = fun_ext (λ q. ap (lookup (λ k. is_eq (slice_cmp nat_cmp q k.items))) c.new.ensures.empty)
