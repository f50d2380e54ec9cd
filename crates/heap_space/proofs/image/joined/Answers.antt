use Rattle.std.proofs.Common.{◌≡◌, ◌≤◌, ℕ, List, ◌++◌, length, drop, ap, ◌∙◌, arith}
use Rattle.std.proofs.lemmas.List.{take_at, drop_at, drop_all, append-nil}
use borrow.Rule.Slice.PartMut.{put_mid}
use Rattle.heap_space.proofs.image.joined.Goals as goal

joined_by : (h zs r head rest : List ℕ) → h ≡ head → r ≡ rest → length h ≡ 16 → length zs ≤ 112 → put_mid 16 112 (h ++ zs) r ≡ head ++ rest
joined_by h zs r head rest is_head is_rest lh lz =
    ap (λ (l : List ℕ). l ++ (r ++ drop 112 (drop 16 (h ++ zs)))) (take_at h zs 16 lh ∙ is_head)
    ∙ ap (λ (l : List ℕ). head ++ (r ++ l)) (ap (λ (l : List ℕ). drop 112 l) (drop_at h zs 16 lh) ∙ drop_all 112 zs lz)
    ∙ ap (λ (l : List ℕ). head ++ l) (append-nil r ∙ is_rest)

pub returns : goal.returns
returns c = joined_by _ _ _ c.args.head.now c.args.rest.now c.copy_from_slice.ensures.after c.copy_from_slice-2.ensures.after c.copy_from_slice.ensures.len (omega arith)
