-- All claims go, one owner after the other.
use Rattle.std.proofs.Common.{◌≡◌, ℕ, zero, suc, ◌+◌, ◌-◌, ◌<◌, ◌≤◌, true, false, List, [], ◌∷◌, ◌++◌, length, take, set, get_or, replicate, refl, sym, ◌∙◌, ap, subst, arith, if◌then◌else◌, ◌==◌}
use Rattle.std.specs.Prelude.{Some}
use Rattle.std.specs.List.{remove}
use Rattle.std.proofs.lemmas.List.{get_or-set_same, length-set, take_all}
use Rattle.std.proofs.lemmas.List.Edits.{length-remove, get_or-remove_below}
use Rattle.std.proofs.lemmas.Grind.{common_steps}
use Rattle.lock_manager.specs.declared.claim.Claim.{Claim}
use Rattle.lock_manager.specs.Holders.{total}
use Rattle.lock_manager.specs.Managers.{Book, slots, claims_of, with_claims, ended, dropped, emptied}
use Rattle.lock_manager.proofs.Rooms.{total_set, total_remove, first_set, some_total, no_total}

turned_spare : (hs : List (List Claim)) (o s : ℕ) → o < length hs
    → (if o == 0 then s else s + length (get_or hs o []) - 0) + total (set hs o []) - length (get_or (set hs o []) 0 []) ≡ s + total hs - length (get_or hs 0 [])
turned_spare [] o s h = absurd (omega arith)
turned_spare (c ∷ cs) zero s h = omega arith
turned_spare (c ∷ cs) (suc o) s h = let sum = total_set cs o [] (omega (arith, h)) in grind (arith, sum)

-- an owner gives up all, and what is left when all do is the same
pub emptied_with : (b new : Book) (o : ℕ) → o < length b.holders → new ≡ with_claims b o [] → emptied new ≡ emptied b
emptied_with b new o h e = ap emptied e ∙ ap (λ z. record (emptied b) { spare = z }) (turned_spare b.holders o b.spare h)

ended_spare : (hs : List (List Claim)) (p s : ℕ) → p < length hs → 1 ≤ p → get_or hs p [] ≡ [] → s + total (remove hs p) - length (get_or (remove hs p) 0 []) ≡ s + total hs - length (get_or hs 0 [])
ended_spare hs p s h one none =
    let sum = total_remove hs p h in
    let first = ap (λ z. length z) (get_or-remove_below hs p [] 0 (omega (arith, one)) h) in
    let l = ap (λ z. length z) none in omega (arith, sum, first, l)

pub emptied_ended : (b : Book) (k : ℕ) → slots b + k < length b.holders → k < length b.rollbacks → claims_of b (slots b + k) ≡ [] → emptied (ended b k) ≡ emptied b
emptied_ended b k h r none =
    let spare = ended_spare b.holders (slots b + k) b.spare h (omega arith) none in
    let fewer = length-remove b.rollbacks k r in
    let room : b.room + 1 + length (remove b.rollbacks k) ≡ b.room + length b.rollbacks = omega (arith, fewer) in
    ap (λ z. record (emptied b) { spare = z; room = b.room + 1 + length (remove b.rollbacks k) }) spare ∙ ap (λ z. record (emptied b) { room = z }) room

pub nothing_at : (b mid : Book) (place k : ℕ) → place ≡ slots b + k → place < length b.holders → mid ≡ with_claims b place [] → claims_of mid (slots mid + k) ≡ []
nothing_at b mid place k p h e =
    ap (λ z. claims_of z (slots z + k)) e ∙ ap (λ z. get_or (set b.holders place []) z []) (sym p) ∙ get_or-set_same b.holders place [] [] h

pub emptied_dropped : (b new : Book) (k : ℕ) → slots b + k < length b.holders → k < length b.rollbacks → new ≡ dropped b (Some k) → emptied new ≡ emptied b
emptied_dropped b new k h r e =
    let mid : Book = with_claims b (slots b + k) [] in
    let same = length-set b.holders (slots b + k) [] in
    ap emptied e ∙ emptied_ended mid k (omega (arith, same, h)) r (get_or-set_same b.holders (slots b + k) [] [] h) ∙ emptied_with b mid (slots b + k) h refl

pub fewer_dropped : (b new : Book) (k : ℕ) → k < length b.rollbacks → new ≡ dropped b (Some k) → length new.rollbacks + 1 ≡ length b.rollbacks
fewer_dropped b new k r e = let n = ap (λ z. length z.rollbacks) e in let fewer = length-remove b.rollbacks k r in omega (arith, n, fewer)

none_set : (hs : List (List Claim)) (o : ℕ) → o < length hs → take o hs ≡ replicate o [] → take (suc o) (set hs o []) ≡ replicate (suc o) []
none_set [] o h e = absurd (omega arith)
none_set (c ∷ cs) zero h e = refl
none_set (c ∷ cs) (suc o) h e =
    let first : c ≡ [] = grind (arith, e) in
    let rest : take o cs ≡ replicate o [] = grind (arith, e) in
    ap (λ z. z ∷ take (suc o) (set cs o [])) first ∙ ap (λ z. [] ∷ z) (none_set cs o (omega (arith, h)) rest)

-- one owner more has nothing
pub none_more : (b new : Book) (o : ℕ) → o < length b.holders → new ≡ with_claims b o [] → take o b.holders ≡ replicate o [] → take (o + 1) new.holders ≡ replicate (o + 1) []
none_more b new o h e t =
    let next : suc o ≡ o + 1 = omega arith in
    ap (λ z. take (o + 1) z.holders) e ∙ subst (λ z. take z (set b.holders o []) ≡ replicate z []) next (none_set b.holders o h t)

-- nobody has a claim, so there is nothing to give up
pub emptied_all : (b : Book) (n : ℕ) → n ≡ slots b → length b.holders ≡ n → take n b.holders ≡ replicate n [] → b.rollbacks ≡ [] → b ≡ emptied b
emptied_all b n s l t r =
    let all : b.holders ≡ replicate (slots b) [] = sym (take_all n b.holders (omega (arith, l))) ∙ t ∙ ap (λ z. replicate z []) s in
    let sum = ap total all ∙ no_total (slots b) in
    let own = some_total b.holders 0 in
    let spare : b.spare ≡ b.spare + total b.holders - length (claims_of b 0) = omega (arith, sum, own) in
    let many = ap (λ z. length z) r in
    let room : b.room ≡ b.room + length b.rollbacks = omega (arith, many) in
    ap (λ z. record b { holders = z }) all
    ∙ ap (λ z. record b { holders = replicate (slots b) []; rollbacks = z }) r
    ∙ ap (λ z. record b { holders = replicate (slots b) []; rollbacks = []; spare = z }) spare
    ∙ ap (λ z. record (emptied b) { room = z }) room
