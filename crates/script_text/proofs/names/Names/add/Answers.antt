use Rattle.std.proofs.Common.{◌≡◌, ℕ, List, ap, ◌∙◌, sym, bytes_eq, ◌||◌}
use Rattle.std.specs.List.{list_any}
use Rattle.std.specs.Ordering.{is_eq, nat_cmp}
use Rattle.std.specs.Cmp.Lexicographic.{slice_cmp}
use Rattle.script_text.specs.Indexes.{is_kept}
use Rattle.script_text.proofs.Inserted.{inserted}
use Rattle.script_text.proofs.names.Names.add.Goals as goal

pub returns : goal.returns
returns c = λ q.
    ap (list_any (λ k. is_eq (slice_cmp nat_cmp q k.items))) c.in_ok-insert.ensures.keys
    ∙ inserted (λ k. k.items) q c.args.self.now.kept.keys c.in_ok-from_slice.field-0
    ∙ ap (λ xs. is_kept c.args.self.now q || bytes_eq q xs) c.in_ok-from_slice.ensures.items
