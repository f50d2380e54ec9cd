-- Four pieces that are put behind a text, one after the other.
use Rattle.std.proofs.Common.{◌≡◌, List, ◌++◌, ap, ◌∙◌}
use Rattle.std.proofs.lemmas.List.{append_assoc}

pub four : {A : Type 0} (out a b c d first second third fourth : List A) → first ≡ out ++ a → second ≡ first ++ b → third ≡ second ++ c → fourth ≡ third ++ d → fourth ≡ out ++ (a ++ (b ++ (c ++ d)))
four out a b c d first second third fourth is_first is_second is_third is_fourth =
    is_fourth ∙ (ap (λ it. it ++ d) (is_third ∙ ap (λ it. it ++ c) (is_second ∙ ap (λ it. it ++ b) is_first)) ∙ (append_assoc ((out ++ a) ++ b) c d ∙ (append_assoc (out ++ a) b (c ++ d) ∙ append_assoc out a (b ++ (c ++ d)))))
