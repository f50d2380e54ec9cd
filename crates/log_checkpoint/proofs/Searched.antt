-- The search goes on until something is told.
use Rattle.std.proofs.Common.{◌≡◌, ℕ, zero, suc, ◌-◌, ◌<◌, ◌≤◌, cond, length, take, drop, Option, Some, None, refl, sym, ap, subst, ◌∙◌, arith}
use Rattle.std.specs.Prelude.{is_none}
use Rattle.std.proofs.lemmas.List.{length-take-le}
use Rattle.log_head.specs.Laws.{RecordHasSize}
use Rattle.log_checkpoint.specs.declared.last.Last.{Last}
use Rattle.log_checkpoint.specs.declared.last.Last.TheVariants as last
use Rattle.log_checkpoint.specs.declared.found.Found.{Found}
use Rattle.log_checkpoint.specs.Backwards.{last_of, SearchState, told_by, told_of, passed_by, after_step, passed_on, searched}
use Rattle.log_checkpoint.proofs.Steps.{is_last}

-- ---- a record that is passed has bytes

less_by : RecordHasSize → (s : SearchState) (l : Last) → last_of s.hand ≡ l → told_by s l ≡ None → length (passed_by s l (told_by s l)).hand < length s.hand
less_by size s (last.Record r n) e none =
    let is = is_last s.hand r n e in
    let some : 1 ≤ n = (size (drop (length s.hand - n) s.hand) r n is.read).0 in
    subst (λ (o : Option Found). length (passed_by s (last.Record r n) o).hand < length s.hand) (sym none)
    (let long : length (take (length s.hand - n) s.hand) ≡ length s.hand - n = length-take-le (length s.hand - n) s.hand (omega arith) in omega (arith, long, is.within, some))
less_by size s last.Short e none = absurd cc
less_by size s last.Broken e none = absurd cc

less : RecordHasSize → (s : SearchState) → told_of s ≡ None → length (after_step s).hand < length s.hand
less size s none = less_by size s (last_of s.hand) refl none

-- where something is told, nothing is passed
stays_by : (s : SearchState) (l : Last) (found : Found) → told_by s l ≡ Some found → passed_by s l (told_by s l) ≡ s
stays_by s (last.Record r n) found e = ap (passed_by s (last.Record r n)) e
stays_by s last.Short found e = refl
stays_by s last.Broken found e = refl

stays : (s : SearchState) (found : Found) → told_of s ≡ Some found → after_step s ≡ s
stays s found e = stays_by s (last_of s.hand) found e

-- ---- as many as there are

told_on : (n : ℕ) (s : SearchState) (found : Found) → told_of s ≡ Some found → passed_on n s ≡ s
told_on zero s found e = refl
told_on (suc n) s found e = ap (λ (o : Option Found). cond (is_none o) (passed_on n (after_step s)) s) e

untold_on : (n : ℕ) (s : SearchState) → told_of s ≡ None → passed_on (suc n) s ≡ passed_on n (after_step s)
untold_on n s e = ap (λ (o : Option Found). cond (is_none o) (passed_on n (after_step s)) s) e

enough_by : RecordHasSize → (n m : ℕ) (s : SearchState) (o : Option Found) → told_of s ≡ o → length s.hand ≤ n → length s.hand ≤ m
    → ((k j : ℕ) → suc k ≡ n → length (after_step s).hand ≤ k → length (after_step s).hand ≤ j → passed_on k (after_step s) ≡ passed_on j (after_step s)) → passed_on n s ≡ passed_on m s
enough_by size n m s (Some found) e in_n in_m more = told_on n s found e ∙ sym (told_on m s found e)
enough_by size zero m s None e in_n in_m more = let l = less size s e in absurd (omega (arith, l, in_n))
enough_by size (suc n) zero s None e in_n in_m more = let l = less size s e in absurd (omega (arith, l, in_m))
enough_by size (suc n) (suc m) s None e in_n in_m more =
    let l = less size s e in
    untold_on n s e ∙ more n m refl (omega (arith, l, in_n)) (omega (arith, l, in_m)) ∙ sym (untold_on m s e)

enough : RecordHasSize → (n m : ℕ) (s : SearchState) → length s.hand ≤ n → length s.hand ≤ m → passed_on n s ≡ passed_on m s
enough size zero m s in_n in_m = enough_by size zero m s (told_of s) refl in_n in_m (λ k j e. absurd (omega (arith, e)))
enough size (suc n) m s in_n in_m =
    enough_by size (suc n) m s (told_of s) refl in_n in_m (λ k j e in_k in_j. let same : k ≡ n = omega (arith, e) in subst (λ (i : ℕ). passed_on i (after_step s) ≡ passed_on j (after_step s)) (sym same) (enough size n j (after_step s) (omega (arith, in_k, same)) in_j))

-- ---- the whole search

searched_is : (s : SearchState) → searched s ≡ passed_on (length s.hand) s
unfolding searched
searched_is s = refl

searched_by : RecordHasSize → (s : SearchState) (o : Option Found) → told_of s ≡ o → searched (after_step s) ≡ searched s
searched_by size s (Some found) e = ap searched (stays s found e)
searched_by size s None e =
    let l = less size s e in
    let k : ℕ = length s.hand - 1 in
    let all : suc k ≡ length s.hand = omega (arith, l) in
    searched_is (after_step s)
    ∙ enough size (length (after_step s).hand) k (after_step s) (omega arith) (omega (arith, l))
    ∙ sym (untold_on k s e)
    ∙ ap (λ (n : ℕ). passed_on n s) all
    ∙ sym (searched_is s)

-- one step more leads to the same
pub search_on : RecordHasSize → (s t : SearchState) → t ≡ after_step s → searched t ≡ searched s
search_on size s t e = ap searched e ∙ searched_by size s (told_of s) refl

-- and where something is told, that is it
pub search_ends : (s : SearchState) (found : Found) → told_of s ≡ Some found → searched s ≡ s
search_ends s found e = searched_is s ∙ told_on (length s.hand) s found e
