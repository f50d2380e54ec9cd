-- A text that is read has at most as many bytes as a script may have.
use Rattle.std.proofs.Common.{◌≡◌, ℕ, ◌+◌, ◌≤◌, Bool, true, false, if◌then◌else◌, ◌==◌, nat_lt, List, [], ◌∷◌, length, Result, Ok, Err, arith, refl, ap, subst}
use Rattle.ds_model.specs.declared.script.Script.{Script}
use Rattle.ds_model.specs.declared.script.ScriptFault.{ScriptFault}
use Rattle.ds_model.specs.declared.script.FaultKind.{FaultKind}
use Rattle.ds_model.specs.declared.script.FaultKind.TheVariants as fault
use Rattle.script_text.specs.declared.draft.Draft.{Draft}
use Rattle.script_text.specs.TextLines.{onto, pieces, line_of, lines_behind}
use Rattle.script_text.specs.Drafts.{start}
use Rattle.script_text.specs.Reading.{step_bytes, go_on, read_lines, script_of}

-- how many bytes the pieces have
total : List (List ℕ) → ℕ
total [] = 0
total (p ∷ ps) = length p + total ps

total-onto : (b : ℕ) (ps : List (List ℕ)) → total (onto b ps) ≡ 1 + total ps
unfolding total
total-onto b [] = refl
total-onto b (p ∷ ps) = omega arith

one_more : (b : ℕ) (bs : List ℕ) (c : Bool) → total (pieces bs) ≡ length bs → total (if c then (b ∷ []) ∷ pieces bs else onto b (pieces bs)) ≡ 1 + length bs
unfolding total
one_more b bs true e = omega (arith, e)
one_more b bs false e = omega (arith, e, total-onto b (pieces bs))

total-pieces : (bs : List ℕ) → total (pieces bs) ≡ length bs
unfolding total
total-pieces [] = refl
total-pieces (b ∷ bs) = omega (arith, one_more b bs (b == 10) (total-pieces bs))

-- a line that is read ends before the limit
behind_test : {P : Type 0} (b : Bool) (n : ℕ) (more : Draft → Result Script ScriptFault) (r : Result Draft FaultKind) (s : Script)
    → go_on n more (if b then Err fault.TooLong else r) ≡ Ok s → (b ≡ false → (d : Draft) → more d ≡ Ok s → P) → P
behind_test true n more r s e k = cc
behind_test false n more (Ok d) s e k = k refl d e
behind_test false n more (Err kind) s e k = cc

fits : (a b : ℕ) → nat_lt a b ≡ false → b ≤ a
fits a b h = grind arith

read_short : (members n before : ℕ) (d : Draft) (ps : List (List ℕ)) (s : Script) → before ≤ 4194304
    → read_lines members n d (lines_behind before ps) ≡ Ok s → before + total ps ≤ 4194304
unfolding total
read_short members n before d [] s low e = omega arith
read_short members n before d (p ∷ ps) s low e =
    behind_test (nat_lt 4194304 (before + length p)) n (λ next. read_lines members (n + 1) next (lines_behind (before + length p) ps)) (step_bytes members d (line_of p)) s e
    (λ small next went. omega (arith, read_short members (n + 1) (before + length p) next ps s (fits 4194304 (before + length p) small) went))

pub short : (members : ℕ) (text : List ℕ) (s : Script) → script_of members text ≡ Ok s → length text ≤ 4194304
unfolding script_of
short members text s e =
    let sum = read_short members 1 0 start (pieces text) s (omega arith) e in
    let few : total (pieces text) ≤ 4194304 = omega (arith, sum) in
    subst (λ n. n ≤ 4194304) (total-pieces text) few
