use Rattle.std.proofs.Common.{cond, Some, ap, ◌∙◌, bytes_eq}
use Rattle.std.proofs.Math.Path.{fun_ext}
use Rattle.std.specs.Map.{lookup}
use Rattle.std.specs.Ordering.{is_eq, nat_cmp}
use Rattle.std.specs.Cmp.Lexicographic.{slice_cmp}
use Rattle.run_picture.specs.Names.{number_of, with_number}
use Rattle.run_picture.proofs.Entered.{entered}
use Rattle.run_picture.proofs.names.NameNumbers.put.Goals as goal

pub returns : goal.returns
unfolding number_of with_number
returns c = fun_ext (λ q.
    ap (lookup (λ k. is_eq (slice_cmp nat_cmp q k.items))) c.in_ok-insert.ensures.entries
    ∙ entered (λ k. k.items) q c.args.self.now.numbers.entries c.in_ok-from_slice.field-0 c.args.number
    ∙ ap (λ xs. cond (bytes_eq q xs) (Some c.args.number) (number_of c.args.self.now q)) c.in_ok-from_slice.ensures.items)
