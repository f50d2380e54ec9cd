-- What entries take from the queues of their members.
use Rattle.std.proofs.Common.{◌≡◌, ℕ, suc, ◌+◌, ◌<◌, ◌≤◌, Bool, true, false, cond, List, [], ◌∷◌, ◌++◌, map, length, get_or, set, drop, filter, Option, Some, None, refl, sym, ap, ap₂, ◌∙◌, subst, add-one}
use Rattle.std.specs.List.{position_from}
use Rattle.std.specs.declared.collections.VecDeque.{VecDeque}
use Rattle.std.proofs.Math.Seq.{drop-cons}
use Rattle.std.proofs.lemmas.Bool.{cond-true, cond-false}
use Rattle.std.proofs.lemmas.List.{map-set, map_push, get_or-map, set_past, get_or_past, length-map, append-nil, drop_all}
use Rattle.std.proofs.lemmas.List.Elements.{filter-append}
use Rattle.ds_model.specs.declared.report.ReportEntry.{ReportEntry}
use Rattle.ds_model.specs.declared.report.Told.{Told}
use Rattle.run_spans.specs.declared.span.Span.{Span}
use Rattle.run_picture.specs.Matches.{below, queues_to, numbers_of, first_place, first_of, without_first, next_of, left_behind}

-- ---- the first that passes, from a place on

pub found_there : (p : ℕ → Bool) (xs : List ℕ) (i : ℕ) → i < length xs → p (get_or xs i 0) ≡ true → position_from p i (drop i xs) ≡ Some i
found_there p xs i low here =
    ap (position_from p i) (drop-cons xs i 0 low)
    ∙ cond-true (p (get_or xs i 0)) (Some i) (position_from p (i + 1) (drop (suc i) xs)) here

pub passed : (p : ℕ → Bool) (xs : List ℕ) (i : ℕ) → i < length xs → p (get_or xs i 0) ≡ false → position_from p i (drop i xs) ≡ position_from p (i + 1) (drop (i + 1) xs)
passed p xs i low fails =
    ap (position_from p i) (drop-cons xs i 0 low)
    ∙ cond-false (p (get_or xs i 0)) (Some i) (position_from p (i + 1) (drop (suc i) xs)) fails
    ∙ ap (λ n. position_from p (i + 1) (drop n xs)) (sym (add-one i))

pub none_left : (p : ℕ → Bool) (xs : List ℕ) (i : ℕ) → length xs ≤ i → position_from p i (drop i xs) ≡ None
none_left p xs i high = ap (position_from p i) (drop_all i xs high)

-- ---- the numbers below one that are kept

below_more : (n : ℕ) → below (n + 1) ≡ below n ++ n ∷ []
unfolding below
below_more n = ap below (add-one n)

kept_with : (p : ℕ → Bool) (n : ℕ) → filter p (below (n + 1)) ≡ filter p (below n) ++ cond (p n) (n ∷ []) []
kept_with p n = ap (filter p) (below_more n) ∙ filter-append p (below n) (n ∷ [])

pub kept_more : (p : ℕ → Bool) (n : ℕ) → p n ≡ true → filter p (below (n + 1)) ≡ filter p (below n) ++ n ∷ []
kept_more p n here = kept_with p n ∙ ap (λ (l : List ℕ). filter p (below n) ++ l) (cond-true (p n) (n ∷ []) [] here)

pub kept_less : (p : ℕ → Bool) (n : ℕ) → p n ≡ false → filter p (below (n + 1)) ≡ filter p (below n)
kept_less p n fails = kept_with p n ∙ ap (λ (l : List ℕ). filter p (below n) ++ l) (cond-false (p n) (n ∷ []) [] fails) ∙ append-nil (filter p (below n))

pub kept_none : (p : ℕ → Bool) → filter p (below 0) ≡ []
unfolding below
kept_none p = refl

pub queues_more : (spans : List Span) (commits : List ℕ) (m : ℕ) → queues_to spans commits (m + 1) ≡ queues_to spans commits m ++ numbers_of spans commits m ∷ []
unfolding queues_to
queues_more spans commits m = ap (queues_to spans commits) (add-one m)

pub queues_none : (spans : List Span) (commits : List ℕ) → queues_to spans commits 0 ≡ []
unfolding queues_to
queues_none spans commits = refl

-- ---- queues

abbrev pub queues : {Z : Type 0} → List (VecDeque ℕ Z) → List (List ℕ)
queues {Z} all = map (λ (q : VecDeque ℕ Z). q.items) all

there : {Z : Type 0} (all : List (VecDeque ℕ Z)) (n m : ℕ) (d : VecDeque ℕ Z) → n ≡ m → n < length all → get_or (queues all) m [] ≡ (get_or all n d).items
there {Z} all n m d same low =
    ap (λ k. get_or (queues all) k []) (sym same) ∙ get_or-map (λ (x : VecDeque ℕ Z). x.items) all n d [] low

nowhere : {Z : Type 0} (all : List (VecDeque ℕ Z)) (n m : ℕ) → n ≡ m → length all ≤ n → get_or (queues all) m [] ≡ []
nowhere {Z} all n m same high = get_or_past (queues all) m [] (subst (λ k. length (queues all) ≤ k) same (subst (λ l. l ≤ n) (sym (length-map all (λ (x : VecDeque ℕ Z). x.items))) high))

pub next_taken : {Z : Type 0} (spans : List Span) (cause : ℕ) (all : List (VecDeque ℕ Z)) (e : ReportEntry) (n : ℕ) (d : VecDeque ℕ Z) (r : Option ℕ) → n ≡ e.member → n < length all → r ≡ first_of spans e.told cause (get_or all n d).items → r ≡ next_of spans cause (queues all) e
unfolding next_of
next_taken spans cause all e n d r same low is = is ∙ ap (first_of spans e.told cause) (sym (there all n e.member d same low))

pub left_taken : {Z : Type 0} (spans : List Span) (cause : ℕ) (all : List (VecDeque ℕ Z)) (e : ReportEntry) (n : ℕ) (d x : VecDeque ℕ Z) → n ≡ e.member → n < length all → x.items ≡ without_first spans e.told cause (get_or all n d).items → queues (set all n x) ≡ left_behind spans cause (queues all) e
unfolding left_behind
left_taken {Z} spans cause all e n d x same low is =
    map-set (λ (y : VecDeque ℕ Z). y.items) all n x
    ∙ ap (set (queues all) n) (is ∙ ap (without_first spans e.told cause) (sym (there all n e.member d same low)))
    ∙ ap (λ k. set (queues all) k (without_first spans e.told cause (get_or (queues all) e.member []))) same

none_first : (spans : List Span) (fate : Told) (cause : ℕ) → first_of spans fate cause [] ≡ None
unfolding first_of first_place
none_first spans fate cause = refl

pub next_none : {Z : Type 0} (spans : List Span) (cause : ℕ) (all : List (VecDeque ℕ Z)) (e : ReportEntry) (n : ℕ) → n ≡ e.member → length all ≤ n → None ≡ next_of spans cause (queues all) e
unfolding next_of
next_none spans cause all e n same high = sym (ap (first_of spans e.told cause) (nowhere all n e.member same high) ∙ none_first spans e.told cause)

pub left_none : {Z : Type 0} (spans : List Span) (cause : ℕ) (all : List (VecDeque ℕ Z)) (e : ReportEntry) (n : ℕ) → n ≡ e.member → length all ≤ n → queues all ≡ left_behind spans cause (queues all) e
unfolding left_behind
left_none {Z} spans cause all e n same high =
    sym (set_past (queues all) e.member (without_first spans e.told cause (get_or (queues all) e.member [])) (subst (λ k. length (queues all) ≤ k) same (subst (λ l. l ≤ n) (sym (length-map all (λ (x : VecDeque ℕ Z). x.items))) high)))

-- ---- one queue more

pub queues_push : {Z : Type 0} (spans : List Span) (commits : List ℕ) (m : ℕ) (all : List (VecDeque ℕ Z)) (q : VecDeque ℕ Z) (more : List (VecDeque ℕ Z)) → queues all ≡ queues_to spans commits m → q.items ≡ numbers_of spans commits m → more ≡ all ++ q ∷ [] → queues more ≡ queues_to spans commits (m + 1)
queues_push {Z} spans commits m all q more before one is =
    ap queues is
    ∙ map_push (λ (x : VecDeque ℕ Z). x.items) all q
    ∙ ap₂ (λ (a : List (List ℕ)) (b : List ℕ). a ++ b ∷ []) before one
    ∙ sym (queues_more spans commits m)
