-- One byte more before the `=` of an option.
use Rattle.std.proofs.Common.{◌≡◌, ℕ, zero, suc, [], refl, arith, ◌+◌, ◌<◌, ◌==◌, if◌then◌else◌, add-one, List, ◌∷◌, length, take, drop, get_or, drop-cons, sym, ap, ◌∙◌}
use Rattle.std.proofs.lemmas.List.{take_more}
use Rattle.run_picture.specs.declared.cut.Cut.{Cut}
use Rattle.picture_call.specs.Inputs.{or_all}
use Rattle.picture_call.specs.Orders.{with_option, with_parted}

pub parted_step : (cut : Cut) (word : List ℕ) (at d : ℕ) → at < length word
    → with_parted cut (take at word) (drop at word) ≡ (if get_or word at d == 61 then with_option cut (take at word) (drop (at + 1) word) else with_parted cut (take (at + 1) word) (drop (at + 1) word))
parted_step cut word at d lt =
    ap (with_parted cut (take at word)) (drop-cons word at d lt ∙ ap (λ (k : ℕ). get_or word at d ∷ drop k word) (sym (add-one at)))
    ∙ ap (λ (front : List ℕ). if get_or word at d == 61 then with_option cut (take at word) (drop (at + 1) word) else with_parted cut front (drop (at + 1) word)) (sym (take_more word at d lt))

pub or_all_drop : (all bytes : List ℕ) (at : ℕ) → at < length bytes → or_all (drop at bytes) all ≡ drop at bytes
or_all_drop all [] at lt = absurd (omega arith)
or_all_drop all (b ∷ bytes) zero lt = refl
or_all_drop all (b ∷ bytes) (suc at) lt = or_all_drop all bytes at (omega arith)
