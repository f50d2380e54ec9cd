-- A line that is put behind a text.
use Rattle.std.proofs.Common.{◌≡◌, ℕ, List, [], ◌∷◌, ◌++◌, Result, Ok, Err, OnOk, ap, ◌∙◌}
use Rattle.std.proofs.lemmas.List.{append_assoc}

pub on_ok : {T E : Type 0} (r : Result T E) (P Q : Type 0) → (P → Q) → OnOk r P → OnOk r Q
on_ok (Ok x) P Q f p = f p
on_ok (Err e) P Q f p = tt

-- its text, and then its end
pub line_on : (out text first second : List ℕ) → first ≡ out ++ text → second ≡ first ++ 10 ∷ [] → second ≡ out ++ (text ++ 10 ∷ [])
line_on out text first second is_first is_second = is_second ∙ (ap (λ it. it ++ 10 ∷ []) is_first ∙ append_assoc out text (10 ∷ []))
