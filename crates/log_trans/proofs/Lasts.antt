-- The last item of a list.
use Rattle.std.proofs.Common.{◌≡◌, ℕ, ◌-◌, List, ◌++◌, length, take, drop, sym, ap, ◌∙◌, arith}
use Rattle.std.proofs.lemmas.List.{drop_at, length-take, length-take-le}

pub last_of : {X : Type 0} (xs ys zs : List X) → xs ≡ ys ++ zs → ys ≡ take (length xs - 1) xs → drop (length xs - 1) xs ≡ zs
last_of xs ys zs whole front =
    let long : length ys ≡ length xs - 1 = ap length front ∙ length-take-le (length xs - 1) xs (omega arith) in
    ap (λ (l : List _). drop (length xs - 1) l) whole ∙ drop_at ys zs (length xs - 1) long
