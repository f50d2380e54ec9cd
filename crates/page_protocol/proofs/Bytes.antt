-- Versions in bytes.
use Rattle.std.proofs.Common.{◌≡◌, ℕ, zero, suc, ◌+◌, ◌-◌, ◌<◌, ◌≤◌, refl, sym, ap, ◌∙◌, subst, arith, [], ◌∷◌, ◌++◌}
use Rattle.std.specs.Prelude.{filter, nat_lt}
use Rattle.std.proofs.lemmas.Bool.{cond-true, cond-false, lt-ltb, le-ltb, eq-eqb}
use Rattle.page_protocol.specs.Page.{Page, Group}
use Rattle.page_protocol.specs.Always.{Numbered}
use Rattle.page_protocol.specs.Redo.{Patch, Change, page_after, redone, Rise, is_of, AreOf, zeros}
use Rattle.page_protocol.specs.Bytes.{changes, version_bytes, AreRecordsOf, merged, RestartReachesLast, RebuildReachesRead, GroupRestartReachesLast}
use Rattle.page_protocol.proofs.Redo as redo
use Rattle.page_protocol.proofs.Steps.{no_earlier}

split : (c : ℕ → Change) (i a b : ℕ) → changes c i (a + b) ≡ changes c i a ++ changes c (i + a) b
split c i zero b = let e : 0 + b ≡ b = omega arith in ap (λ x. changes c i x) e ∙ ap (λ x. changes c x b) (omega arith)
split c i (suc a) b =
    let e : suc a + b ≡ suc (a + b) = omega arith in
    ap (λ x. changes c i x) e ∙ ap (λ xs. c i ∷ xs) (split c (suc i) a b ∙ ap (λ x. changes c (suc i) a ++ changes c x b) (omega arith))

front : (c : ℕ → Change) (n k : ℕ) → n ≤ k → changes c 0 k ≡ changes c 0 n ++ changes c n (k - n)
front c n k le = ap (λ x. changes c 0 x) (omega (arith, le)) ∙ split c 0 n (k - n) ∙ ap (λ x. changes c 0 n ++ changes c x (k - n)) (omega arith)

rises : (g : Group) (p : Page) (c : ℕ → Change) (i d n : ℕ) → Numbered g p → AreRecordsOf p c → i + d ≤ p.last → (i < p.last → n < p.lrsn i) → Rise n (changes c i d)
rises g p c i zero n o r le above = tt
rises g p c i (suc d) n o r le above =
    let here : i < p.last = omega (arith, le) in
    (subst (λ x. n < x) (sym (r.number i here)) (above here), subst (λ x. Rise x (changes c (suc i) d)) (sym (r.number i here)) (rises g p c (suc i) d (p.lrsn i) o r (omega (arith, le)) (λ lt. o.rise i (suc i) (omega arith) lt)))

all_rise : (g : Group) (p : Page) (c : ℕ → Change) (k : ℕ) → Numbered g p → AreRecordsOf p c → k ≤ p.last → Rise 0 (changes c 0 k)
all_rise g p c k o r le = rises g p c 0 k 0 o r (omega (arith, le)) (λ lt. o.positive 0 lt)

are_of : (p : Page) (c : ℕ → Change) (m i d : ℕ) → AreRecordsOf p c → i + d ≤ p.last → ((j : ℕ) → i ≤ j → j < p.last → p.author j ≡ m) → AreOf m (changes c i d)
are_of p c m i zero r le of = tt
are_of p c m i (suc d) r le of =
    let here : i < p.last = omega (arith, le) in
    (eq-eqb (c i).member m (r.member i here ∙ of i (omega arith) here), are_of p c m (suc i) d r (omega (arith, le)) (λ j a b. of j (omega (arith, a)) b))

pub restart : RestartReachesLast
restart patch g p c m s o r own =
    let e = front c p.shared p.last s.within in
    let rise = subst (Rise 0) e (all_rise g p c p.last o r (omega arith)) in
    let w = s.within in
    subst (λ xs. redone patch (version_bytes patch c p.shared) (filter (is_of m) xs) ≡ page_after patch zeros xs) (sym e)
    (redo.own patch (changes c 0 p.shared) (changes c p.shared (p.last - p.shared)) m rise (are_of p c m p.shared (p.last - p.shared) r (omega (arith, w)) (λ j a b. mine j a b)))
  where
    mine : (j : ℕ) → p.shared ≤ j → j < p.last → p.author j ≡ m
    mine j a b = let x = s.own j a b in cc

-- ---- the merged records are a front of the chain
merged_in : (p : Page) (c : ℕ → Change) (lengths : ℕ → ℕ) (i d : ℕ) → ((j : ℕ) → j < i + d → p.place j < lengths (p.author j)) → merged p c lengths i d ≡ changes c i d
merged_in p c lengths i zero has = refl
merged_in p c lengths i (suc d) has = cond-true (nat_lt (p.place i) (lengths (p.author i))) _ _ (lt-ltb _ _ (has i (omega arith))) ∙ ap (λ xs. c i ∷ xs) (merged_in p c lengths (suc i) d (λ j lt. has j (omega (arith, lt))))

merged_out : (p : Page) (c : ℕ → Change) (lengths : ℕ → ℕ) (i d : ℕ) → ((j : ℕ) → i ≤ j → j < i + d → lengths (p.author j) ≤ p.place j) → merged p c lengths i d ≡ []
merged_out p c lengths i zero lacks = refl
merged_out p c lengths i (suc d) lacks = cond-false (nat_lt (p.place i) (lengths (p.author i))) _ _ (le-ltb _ _ (lacks i (omega arith) (omega arith))) ∙ merged_out p c lengths (suc i) d (λ j a b. lacks j (omega (arith, a)) (omega (arith, b)))

merged_split : (p : Page) (c : ℕ → Change) (lengths : ℕ → ℕ) (i a b : ℕ) → ((j : ℕ) → j < i + a → p.place j < lengths (p.author j)) → ((j : ℕ) → i + a ≤ j → j < i + a + b → lengths (p.author j) ≤ p.place j) → merged p c lengths i (a + b) ≡ changes c i a
merged_split p c lengths i zero b has lacks = let e : 0 + b ≡ b = omega arith in ap (merged p c lengths i) e ∙ merged_out p c lengths i b (λ j x y. lacks j (omega (arith, x)) (omega (arith, y)))
merged_split p c lengths i (suc a) b has lacks =
    let e : suc a + b ≡ suc (a + b) = omega arith in
    ap (merged p c lengths i) e
    ∙ cond-true (nat_lt (p.place i) (lengths (p.author i))) _ _ (lt-ltb _ _ (has i (omega arith)))
    ∙ ap (λ xs. c i ∷ xs) (merged_split p c lengths (suc i) a b (λ j lt. has j (omega (arith, lt))) (λ j x y. lacks j (omega (arith, x)) (omega (arith, y))))

merged_is : (p : Page) (c : ℕ → Change) (lengths : ℕ → ℕ) (n : ℕ) → n ≤ p.last → ((i : ℕ) → i < n → p.place i < lengths (p.author i)) → ((i : ℕ) → n ≤ i → i < p.last → lengths (p.author i) ≤ p.place i) → merged p c lengths 0 p.last ≡ changes c 0 n
merged_is p c lengths n le has lacks =
    ap (merged p c lengths 0) (omega (arith, le)) ∙ merged_split p c lengths 0 n (p.last - n) (λ j lt. has j (omega (arith, lt))) (λ j x y. lacks j (omega (arith, x)) (omega (arith, y, le)))

reach : (patch : Patch) (g : Group) (p : Page) (c : ℕ → Change) (v n : ℕ) → Numbered g p → AreRecordsOf p c → v ≤ n → n ≤ p.last → redone patch (version_bytes patch c v) (changes c 0 n) ≡ version_bytes patch c n
reach patch g p c v n o r low high =
    let e = front c v n low in
    subst (λ xs. redone patch (version_bytes patch c v) xs ≡ page_after patch zeros xs) (sym e) (redo.merged patch [] (changes c 0 v) (changes c v (n - v)) (subst (Rise 0) e (all_rise g p c n o r high)))

pub rebuild : RebuildReachesRead
rebuild patch g p c n s o r lost has =
    let a = s.disk_old in let b = no_earlier g p n s lost has in
    ap (redone patch (version_bytes patch c p.disk)) (merged_is p c g.read n has.short has.has has.no_more)
    ∙ reach patch g p c p.disk n o r (omega (arith, a, b)) has.short

pub group_restart : GroupRestartReachesLast
group_restart patch g p c s o r =
    ap (redone patch (version_bytes patch c p.disk)) (merged_is p c g.stable p.last (omega arith) s.all_stable (λ i a b. absurd (none i a b)))
    ∙ reach patch g p c p.disk p.last o r s.within (omega arith)
  where
    none : (i : ℕ) → p.last ≤ i → i < p.last → ⊥
    none i a b = omega (arith, a, b)
