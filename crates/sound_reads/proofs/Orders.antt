-- A page is brought forward by those records alone that change it and are above its number; and these are among the merged records in the order of all.
use Rattle.std.proofs.Common.{◌≡◌, ℕ, ◌≤◌, ◌<◌, Bool, true, false, cond, List, [], ◌∷◌, ◌++◌, Result, Ok, Err, inl, inr, refl, sym, ap, ◌∙◌, arith}
use Rattle.std.specs.Prelude.{◌||◌, ◌&&◌, nat_lt, nat_le, filter}
use Rattle.std.specs.List.{AllByRecursion}
use Rattle.std.proofs.lemmas.Bool.{ltb-true, lt-ltb, leb-true, le-leb, cases_Bool}
use Rattle.ds_base.specs.declared.names.PageId.{PageId}
use Rattle.ds_model.specs.declared.log.LogRecord.{LogRecord}
use Rattle.ds_model.specs.Logs.{put_by_lrsn, by_lrsn}
use Rattle.log_merge.specs.Merging.{is_merged, kept, in_order, RisesFrom}
use Rattle.page_chain.specs.Chains.{touches}
use Rattle.page_format.specs.Fields.{lrsn_of}
use Rattle.page_format.specs.Header.{header_of}
use Rattle.page_format.specs.declared.header.Header.{Header}
use Rattle.page_format.specs.declared.header.NotAPage.{NotAPage}
use Rattle.page_redo.specs.Forward.{patches_of, has_patch, body_fault, Forward, unless, go_on, forward_from, headed, brought_forward, NeedsItsOwn}

abbrev pub above : ℕ → LogRecord → Bool
above n r = nat_lt n r.lrsn

-- ---- lists that rise

lower : (low high : ℕ) (rs : List LogRecord) → low ≤ high → AllByRecursion (λ (r : LogRecord). high ≤ r.lrsn) rs → AllByRecursion (λ (r : LogRecord). low ≤ r.lrsn) rs
lower low high [] le h = tt
lower low high (r ∷ rs) le h = (let one = h.0 in omega (arith, one, le), lower low high rs le h.1)

all_above : (low : ℕ) (rs : List LogRecord) → RisesFrom low rs → AllByRecursion (λ (r : LogRecord). low ≤ r.lrsn) rs
all_above low [] h = tt
all_above low (r ∷ rs) h = (h.0, lower low r.lrsn rs h.0 (all_above r.lrsn rs h.1))

each_if : (P : LogRecord → Type 0) (b : Bool) (xs ys : List LogRecord) → AllByRecursion P xs → AllByRecursion P ys → AllByRecursion P (cond b xs ys)
each_if P true xs ys h k = h
each_if P false xs ys h k = k

filter_each : (P : LogRecord → Type 0) (f : LogRecord → Bool) (rs : List LogRecord) → AllByRecursion P rs → AllByRecursion P (filter f rs)
filter_each P f [] h = tt
filter_each P f (r ∷ rs) h = each_if P (f r) (r ∷ filter f rs) (filter f rs) (h.0, filter_each P f rs h.1) (filter_each P f rs h.1)

rises_low : (low n : ℕ) (rs : List LogRecord) → n ≤ low → RisesFrom low rs → RisesFrom n rs
rises_low low n [] le h = tt
rises_low low n (r ∷ rs) le h = (let one = h.0 in omega (arith, one, le), h.1)

rises_if : (b : Bool) (low : ℕ) (r : LogRecord) (rs : List LogRecord) → low ≤ r.lrsn → RisesFrom r.lrsn rs → RisesFrom low (cond b (r ∷ rs) rs)
rises_if true low r rs le h = (le, h)
rises_if false low r rs le h = rises_low r.lrsn low rs le h

-- what is left of such a list rises
filter_rises : (f : LogRecord → Bool) (low : ℕ) (rs : List LogRecord) → RisesFrom low rs → RisesFrom low (filter f rs)
filter_rises f low [] h = tt
filter_rises f low (r ∷ rs) h = rises_if (f r) low r (filter f rs) h.0 (filter_rises f r.lrsn rs h.1)

-- ---- filters

filter_when : (f : LogRecord → Bool) (b : Bool) (r : LogRecord) (xs ys : List LogRecord) → f r ≡ b → xs ≡ ys → cond (f r) (r ∷ xs) xs ≡ cond b (r ∷ ys) ys
filter_when f b r xs ys e same = ap (λ (c : Bool). cond c (r ∷ xs) xs) e ∙ ap (λ (l : List LogRecord). cond b (r ∷ l) l) same

filter_whole : (f : LogRecord → Bool) (rs : List LogRecord) → AllByRecursion (λ (r : LogRecord). f r ≡ true) rs → filter f rs ≡ rs
filter_whole f [] h = refl
filter_whole f (r ∷ rs) h = filter_when f true r (filter f rs) rs h.0 (filter_whole f rs h.1)

pub filter_nothing : (f : LogRecord → Bool) (rs : List LogRecord) → AllByRecursion (λ (r : LogRecord). f r ≡ false) rs → filter f rs ≡ []
filter_nothing f [] h = refl
filter_nothing f (r ∷ rs) h = filter_when f false r (filter f rs) [] h.0 (filter_nothing f rs h.1)

append_if : (b : Bool) (x : LogRecord) (all xs ys : List LogRecord) → all ≡ xs ++ ys → cond b (x ∷ all) all ≡ cond b (x ∷ xs) xs ++ ys
append_if true x all xs ys e = ap (λ (l : List LogRecord). x ∷ l) e
append_if false x all xs ys e = e

pub filter_append : (f : LogRecord → Bool) (xs ys : List LogRecord) → filter f (xs ++ ys) ≡ filter f xs ++ filter f ys
filter_append f [] ys = refl
filter_append f (x ∷ xs) ys = append_if (f x) x (filter f (xs ++ ys)) (filter f xs) (filter f ys) (filter_append f xs ys)

twice_if : (f g : LogRecord → Bool) (b : Bool) (r : LogRecord) (xs ys : List LogRecord) → filter f xs ≡ ys → filter f (cond b (r ∷ xs) xs) ≡ cond (b && f r) (r ∷ ys) ys
twice_if f g true r xs ys e = ap (λ (l : List LogRecord). cond (f r) (r ∷ l) l) e
twice_if f g false r xs ys e = e

-- one filter behind another
pub filter_twice : (f g : LogRecord → Bool) (rs : List LogRecord) → filter f (filter g rs) ≡ filter (λ (r : LogRecord). g r && f r) rs
filter_twice f g [] = refl
filter_twice f g (r ∷ rs) = twice_if f g (g r) r (filter g rs) (filter (λ (s : LogRecord). g s && f s) rs) (filter_twice f g rs)

-- ---- the order of the merged ones

put_low : (x : LogRecord) (rs : List LogRecord) → AllByRecursion (λ (r : LogRecord). x.lrsn ≤ r.lrsn) rs → put_by_lrsn x rs ≡ x ∷ rs
put_low x [] h = refl
put_low x (r ∷ rs) h = ap (λ (b : Bool). cond b (x ∷ r ∷ rs) (r ∷ put_by_lrsn x rs)) (le-leb x.lrsn r.lrsn h.0)

behind_if : (a b : Bool) (x s : LogRecord) (rest : List LogRecord) → nat_le x.lrsn s.lrsn ≡ false
    → cond b (s ∷ cond a (put_by_lrsn x rest) rest) (cond a (put_by_lrsn x rest) rest) ≡ cond a (put_by_lrsn x (cond b (s ∷ rest) rest)) (cond b (s ∷ rest) rest)
behind_if true true x s rest e = sym (ap (λ (b : Bool). cond b (x ∷ s ∷ rest) (s ∷ put_by_lrsn x rest)) e)
behind_if true false x s rest e = refl
behind_if false true x s rest e = refl
behind_if false false x s rest e = refl

put_if : (f : LogRecord → Bool) (x s : LogRecord) (ss : List LogRecord) (b : Bool) → nat_le x.lrsn s.lrsn ≡ b → AllByRecursion (λ (r : LogRecord). s.lrsn ≤ r.lrsn) ss
    → filter f (put_by_lrsn x ss) ≡ cond (f x) (put_by_lrsn x (filter f ss)) (filter f ss)
    → filter f (cond b (x ∷ s ∷ ss) (s ∷ put_by_lrsn x ss)) ≡ cond (f x) (put_by_lrsn x (filter f (s ∷ ss))) (filter f (s ∷ ss))
put_if f x s ss true e rise more =
    let le = leb-true x.lrsn s.lrsn e in
    let first : AllByRecursion (λ (r : LogRecord). x.lrsn ≤ r.lrsn) (s ∷ ss) = (le, lower x.lrsn s.lrsn ss le rise) in
    ap (λ (l : List LogRecord). cond (f x) l (filter f (s ∷ ss))) (sym (put_low x (filter f (s ∷ ss)) (filter_each (λ (r : LogRecord). x.lrsn ≤ r.lrsn) f (s ∷ ss) first)))
put_if f x s ss false e rise more =
    ap (λ (l : List LogRecord). cond (f s) (s ∷ l) l) more ∙ behind_if (f x) (f s) x s (filter f ss) e

filter_put : (f : LogRecord → Bool) (x : LogRecord) (low : ℕ) (ss : List LogRecord) → RisesFrom low ss → filter f (put_by_lrsn x ss) ≡ cond (f x) (put_by_lrsn x (filter f ss)) (filter f ss)
filter_put f x low [] h = refl
filter_put f x low (s ∷ ss) h =
    put_if f x s ss (nat_le x.lrsn s.lrsn) refl (lower s.lrsn s.lrsn ss (omega arith) (all_above s.lrsn ss h.1)) (filter_put f x s.lrsn ss h.1)

abbrev pub Rises : Type 0
Rises = (records : List LogRecord) → RisesFrom 0 (in_order records)

merged_if : (a : Bool) (r : LogRecord) (rs : List LogRecord) → is_merged r.body ≡ true → cond a (put_by_lrsn r (in_order rs)) (in_order rs) ≡ in_order (cond a (r ∷ rs) rs)
merged_if true r rs e = sym (ap (λ (b : Bool). by_lrsn (cond b (r ∷ kept rs) (kept rs))) e)
merged_if false r rs e = refl

unmerged_if : (a : Bool) (r : LogRecord) (rs : List LogRecord) → is_merged r.body ≡ false → in_order rs ≡ in_order (cond a (r ∷ rs) rs)
unmerged_if true r rs e = sym (ap (λ (b : Bool). by_lrsn (cond b (r ∷ kept rs) (kept rs))) e)
unmerged_if false r rs e = refl

order_if : (f : LogRecord → Bool) (r : LogRecord) (rs : List LogRecord) (b : Bool) → is_merged r.body ≡ b
    → filter f (put_by_lrsn r (in_order rs)) ≡ cond (f r) (put_by_lrsn r (filter f (in_order rs))) (filter f (in_order rs))
    → filter f (in_order rs) ≡ in_order (filter f rs)
    → filter f (by_lrsn (cond b (r ∷ kept rs) (kept rs))) ≡ in_order (cond (f r) (r ∷ filter f rs) (filter f rs))
order_if f r rs true e put more =
    put ∙ ap (λ (l : List LogRecord). cond (f r) (put_by_lrsn r l) l) more ∙ merged_if (f r) r (filter f rs) e
order_if f r rs false e put more = more ∙ unmerged_if (f r) r (filter f rs) e

-- the merged ones of those that are left are those that are left of the merged ones
pub filter_order : Rises → (f : LogRecord → Bool) (rs : List LogRecord) → filter f (in_order rs) ≡ in_order (filter f rs)
filter_order rises f [] = refl
filter_order rises f (r ∷ rs) = order_if f r rs (is_merged r.body) refl (filter_put f r 0 (in_order rs) (rises rs)) (filter_order rises f rs)

-- ---- a page

abbrev left : List ℕ → Forward
left page = record { page = page; outcome = Ok false }

or_none : (b : Bool) → (b || false) ≡ b
or_none true = refl
or_none false = refl

passed_if : (a : Bool) (h : Bool) (f : Forward) (page : List ℕ) → a ≡ false → cond (a && h) f (left page) ≡ left page
passed_if true h f page e = absurd cc
passed_if false h f page e = refl

-- a record that isn't above its number is passed over
passes : (id : PageId) (page : List ℕ) (b : Bool) (r : LogRecord) (rs : List LogRecord) → above (lrsn_of page) r ≡ false → forward_from id page b (r ∷ rs) ≡ forward_from id page b rs
passes id page b r rs e =
    ap (λ (f : Forward). go_on (λ p a. forward_from id p a rs) b f.page f.outcome) (passed_if (nat_lt (lrsn_of page) r.lrsn) (has_patch id (patches_of r.body)) (unless (body_fault id page r.body) id page r) page e)
    ∙ ap (λ (a : Bool). forward_from id page a rs) (or_none b)

each_is_above : (n m : ℕ) (rs : List LogRecord) → n < m → AllByRecursion (λ (r : LogRecord). m ≤ r.lrsn) rs → AllByRecursion (λ (r : LogRecord). above n r ≡ true) rs
each_is_above n m [] lt h = tt
each_is_above n m (r ∷ rs) lt h = (let le = h.0 in lt-ltb n r.lrsn (omega (arith, le, lt)), each_is_above n m rs lt h.1)

above_alone : (id : PageId) (page : List ℕ) (b : Bool) (low : ℕ) (rs : List LogRecord) → RisesFrom low rs → forward_from id page b rs ≡ forward_from id page b (filter (above (lrsn_of page)) rs)
above_alone id page b low [] h = refl
above_alone id page b low (r ∷ rs) h =
    elim (cases_Bool (above (lrsn_of page) r)) as (λ _. forward_from id page b (r ∷ rs) ≡ forward_from id page b (filter (above (lrsn_of page)) (r ∷ rs))) [
      | inl e ↦
          let lt = ltb-true (lrsn_of page) r.lrsn e in
          ap (forward_from id page b) (sym (filter_whole (above (lrsn_of page)) (r ∷ rs) (e, each_is_above (lrsn_of page) r.lrsn rs lt (all_above r.lrsn rs h.1))))
      | inr e ↦
          passes id page b r rs e ∙ above_alone id page b r.lrsn rs h.1
          ∙ ap (λ (c : Bool). forward_from id page b (cond c (r ∷ filter (above (lrsn_of page)) rs) (filter (above (lrsn_of page)) rs))) (sym e)
    ]

headed_same : (id : PageId) (page : List ℕ) (rs ss : List LogRecord) (h : Result Header NotAPage) → forward_from id page false rs ≡ forward_from id page false ss → headed id page rs h ≡ headed id page ss h
headed_same id page rs ss (Ok h) e = e
headed_same id page rs ss (Err f) e = refl

abbrev pub needed : PageId → List ℕ → LogRecord → Bool
needed id page r = touches id r && above (lrsn_of page) r

pub needs_above : NeedsItsOwn → (id : PageId) (page : List ℕ) (rs : List LogRecord) → RisesFrom 0 rs → brought_forward id page rs ≡ brought_forward id page (filter (needed id page) rs)
needs_above own id page rs h =
    sym (own id page rs)
    ∙ headed_same id page (filter (touches id) rs) (filter (above (lrsn_of page)) (filter (touches id) rs)) (header_of page id) (above_alone id page false 0 (filter (touches id) rs) (filter_rises (touches id) 0 rs h))
    ∙ ap (brought_forward id page) (filter_twice (above (lrsn_of page)) (touches id) rs)
