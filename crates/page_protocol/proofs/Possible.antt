-- What stands in logs of given lengths is a prefix of each chain, so failures and rebuilds are always possible.
use Rattle.std.proofs.Common.{◌≡◌, ℕ, zero, suc, ◌+◌, ◌-◌, ◌<◌, ◌≤◌, refl, sym, subst, arith, Bool, true, false, inl, inr}
use Rattle.std.proofs.lemmas.Bool.{cases_eq, cases_lt}
use Rattle.page_protocol.specs.Page.{Page, Group, put}
use Rattle.page_protocol.specs.Moves.{IsCut, IsWholeCut, AreDrawnBy}
use Rattle.page_protocol.specs.Coherent.{Coherent}
use Rattle.page_protocol.specs.Always.{Stands, Ordered, Numbered}
use Rattle.page_protocol.specs.Words.{FailureIsPossible, RebuildIsPossible, GroupFailureIsPossible}
use Rattle.page_protocol.proofs.Runs.{all_running}

-- the first n changes of the page are those that the logs of these lengths have
record IsPrefix (p : Page) (lengths : ℕ → ℕ) (base n : ℕ) : Type 0 where
  low : base ≤ n
  short : n ≤ p.last
  has : (i : ℕ) → i < n → p.place i < lengths (p.author i)
  no_more : (i : ℕ) → n ≤ i → i < p.last → lengths (p.author i) ≤ p.place i

abbrev OneAuthor : Page → ℕ → Type 0
OneAuthor p base = (i j : ℕ) → base ≤ i → i < p.last → base ≤ j → j < p.last → p.author i ≡ p.author j

abbrev Has : Page → (ℕ → ℕ) → ℕ → Type 0
Has p lengths n = (i : ℕ) → i < n → p.place i < lengths (p.author i)

abbrev Lacks : Page → (ℕ → ℕ) → ℕ → Type 0
Lacks p lengths n = (i : ℕ) → n ≤ i → i < p.last → lengths (p.author i) ≤ p.place i

-- where the log has a change of the one author, it has those before
has_front : (p : Page) (lengths : ℕ → ℕ) (base j : ℕ) → Ordered p → OneAuthor p base → Has p lengths base → base ≤ j → j < p.last → p.place j < lengths (p.author j) → Has p lengths (suc j)
has_front p lengths base j o one below le lt here i il = elim (cases_lt i base) [
  | inl low ↦ below i low
  | inr high ↦ elim (cases_eq i j) [
    | inl same ↦ subst (λ x. p.place x < lengths (p.author x)) (sym same) here
    | inr ne ↦
        let a = one i j high (omega (arith, il, lt)) le lt in
        let q = o i j (omega (arith, il, ne)) lt a in
        let h = subst (λ x. p.place j < lengths x) (sym a) here in
        omega (arith, q, h)
  ]
]

search_prefix : (p : Page) (lengths : ℕ → ℕ) (base d k : ℕ) → Ordered p → OneAuthor p base → Has p lengths base → k ≡ base + d → k ≤ p.last → Lacks p lengths k → (n : ℕ) × IsPrefix p lengths base n
search_prefix p lengths base zero k o one below e le lacks =
    (k, record { low = omega (arith, e); short = le; has = λ i il. below i (omega (arith, il, e)); no_more = lacks })
search_prefix p lengths base (suc d) k o one below e le lacks =
    let j = base + d in
    let jk : k ≡ suc j = omega (arith, e) in
    elim (cases_lt (p.place j) (lengths (p.author j))) [
      | inl stays ↦ (k, record { low = omega (arith, e); short = le; has = λ i il. has_front p lengths base j o one below (omega arith) (omega (arith, jk, le)) stays i (omega (arith, il, jk)); no_more = lacks })
      | inr lost ↦ search_prefix p lengths base d j o one below refl (omega (arith, jk, le)) (λ i a b. elim (cases_eq i j) [ inl q ↦ subst (λ x. lengths (p.author x) ≤ p.place x) (sym q) lost | inr ne ↦ lacks i (omega (arith, jk, a, ne)) b ])
    ]

prefix : (g : Group) (p : Page) (lengths : ℕ → ℕ) → Coherent g p → Ordered p → Has p lengths p.shared → (n : ℕ) × IsPrefix p lengths p.shared n
prefix g p lengths s o below =
    let w = s.within in
    search_prefix p lengths p.shared (p.last - p.shared) p.last o (one_author g p s) below (omega (arith, w)) (omega arith) (λ i a b. absurd (none i a b))
  where
    none : (i : ℕ) → p.last ≤ i → i < p.last → ⊥
    none i a b = omega (arith, a, b)

    one_author : (g : Group) (p : Page) → Coherent g p → OneAuthor p p.shared
    one_author g p s i j a b c d = let x = s.own i a b in let y = s.own j c d in cc

pub rebuild : RebuildIsPossible
rebuild w s up lost n =
    let c = all_running w up s n in
    let r = prefix w.group (w.pages n) w.group.read c (s.ordered n) (λ i lt. c.read_shared i lost lt) in
    (r.0, r.1.low, record { short = r.1.short; has = r.1.has; no_more = r.1.no_more })

whole : (b : Bool) (g : Group) (p : Page) → Stands b g p → Ordered p → (n : ℕ) × IsWholeCut g p n
whole true g p s o = (p.last, record { short = omega arith; kept = s.all_stable; gone = λ i a b. absurd (none i a b) })
  where
    none : (i : ℕ) → p.last ≤ i → i < p.last → ⊥
    none i a b = omega (arith, a, b)
whole false g p s o = let r = prefix g p g.stable s o s.stable in (r.0, record { short = r.1.short; kept = r.1.has; gone = r.1.no_more })

drawn_cut : (g : Group) (p : Page) (k : ℕ) → Numbered g p → IsWholeCut g p k → AreDrawnBy p k g.counter
drawn_cut g p k s cut i lt = let short = cut.short in s.drawn i (omega (arith, lt, short))

pub group_failure : GroupFailureIsPossible
group_failure w s n = let r = whole w.down w.group (w.pages n) (s.stands n) (s.ordered n) in (r.0, r.1, drawn_cut w.group (w.pages n) r.0 (s.numbered n) r.1)

-- the lengths of the logs after a failure of one member
abbrev cut_lengths : Group → ℕ → ℕ → ℕ
cut_lengths g m = put g.written m (g.stable m)

below_cut : (g : Group) (p : Page) (m i : ℕ) → Coherent g p → i < p.shared → p.place i < cut_lengths g m (p.author i)
below_cut g p m i s lt = let a = s.stable i lt in let b = s.forced (p.author i) in grind (arith, a, b)

cut_kept : (g : Group) (p : Page) (m i : ℕ) → p.place i < cut_lengths g m (p.author i) → p.author i ≡ m → p.place i < g.stable m
cut_kept g p m i h e = grind (arith, h, e)

cut_gone : (g : Group) (p : Page) (m i : ℕ) → p.place i < g.written (p.author i) → cut_lengths g m (p.author i) ≤ p.place i → (p.author i ≡ m) × (g.stable m ≤ p.place i)
cut_gone g p m i w h = grind (arith, w, h)

cut_of : (g : Group) (p : Page) (m : ℕ) → Coherent g p → Ordered p → (n : ℕ) × IsCut g m p n
cut_of g p m s o =
    let r = prefix g p (cut_lengths g m) s o (λ i lt. below_cut g p m i s lt) in
    (r.0, record { short = r.1.short; kept = λ i il e. cut_kept g p m i (r.1.has i il) e; gone = λ i a b. cut_gone g p m i (s.written i b) (r.1.no_more i a b) })

pub failure : FailureIsPossible
failure w m s up n = cut_of w.group (w.pages n) m (all_running w up s n) (s.ordered n)
