-- The ready events as a list, and by their numbers.
use Rattle.std.proofs.Common.{◌≡◌, ◌⊎◌, inl, inr, ℕ, zero, suc, ◌+◌, ◌-◌, ◌*◌, ◌/◌, ◌%◌, ◌<◌, ◌≤◌, Bool, true, false, List, [], ◌∷◌, ◌++◌, length, map, take, drop, Option, Some, None, slice_get, slice_index_or, option_map, option_to_list, Contains, if◌then◌else◌, refl, sym, ap, subst, ◌∙◌, arith}
use Rattle.std.proofs.lemmas.Bool.{and_parts, cases_eq, cases_lt, eq-eqb, eqb-true, ltb-true}
use Rattle.std.proofs.lemmas.List.{at_drop_more, at_drop_all, get_or-map, length-append, length-map, length-take}
use Rattle.std.proofs.lemmas.List.Elements.{Contains-append_left, Contains-append_right}
use Rattle.std.proofs.lemmas.Option.{slice_get-map}
use Rattle.group_crew.specs.Happening.{MemberPart}
use Rattle.choice_bits.specs.Choices.{choices_from, choices_of, has_choice}
use Rattle.group_crew.specs.Ready.{is_ready, ready_at, ready_for}
use Rattle.group_core.specs.Events.{events_from}

-- ---- an item of two lists, of which one follows the other

get_first : {A : Type 0} (xs ys : List A) (n : ℕ) → n < length xs → slice_get (xs ++ ys) n ≡ slice_get xs n
get_first [] ys n within = absurd (omega arith)
get_first (x ∷ xs) ys zero within = refl
get_first (x ∷ xs) ys (suc n) within = get_first xs ys n (omega arith)

get_behind : {A : Type 0} (xs ys : List A) (n : ℕ) → length xs ≤ n → slice_get (xs ++ ys) n ≡ slice_get ys (n - length xs)
get_behind [] ys n within = (let e : n ≡ n - 0 = omega arith in ap (slice_get ys) e)
get_behind (x ∷ xs) ys zero within = absurd (omega arith)
get_behind (x ∷ xs) ys (suc n) within = (let e : n - length xs ≡ suc n - suc (length xs) = omega arith in get_behind xs ys n (omega arith) ∙ ap (slice_get ys) e)

pub get_none : {A : Type 0} (xs : List A) (n : ℕ) → slice_get xs n ≡ None → length xs ≤ n
get_none [] n none = omega arith
get_none (x ∷ xs) zero none = (let never : Some x ≡ None = none in cc)
get_none (x ∷ xs) (suc n) none = (let within : length xs ≤ n = get_none xs n none in omega arith)

get_taken : {A : Type 0} (xs : List A) (m n : ℕ) → n < m → slice_get (take m xs) n ≡ slice_get xs n
get_taken [] zero n within = absurd (omega arith)
get_taken [] (suc m) n within = refl
get_taken (x ∷ xs) zero n within = absurd (omega arith)
get_taken (x ∷ xs) (suc m) zero within = refl
get_taken (x ∷ xs) (suc m) (suc n) within = get_taken xs m n (omega arith)

-- ---- the events of members, one by one

length_more : (who ready : ℕ) (rest : List ℕ) → length (events_from who (ready ∷ rest)) ≡ length (choices_of ready) + length (events_from (who + 1) rest)
unfolding events_from
length_more who ready rest =
    let choices = map (λ (choice : ℕ). choice * 64 + who) (choices_of ready) in
    length-append choices (events_from (who + 1) rest) ∙ ap (λ n. n + length (events_from (who + 1) rest)) (length-map (choices_of ready) (λ (choice : ℕ). choice * 64 + who))

length_none : (who : ℕ) → length (events_from who []) ≡ 0
unfolding events_from
length_none who = refl

get_here : (who ready : ℕ) (rest : List ℕ) (n : ℕ) → n < length (choices_of ready) → slice_get (events_from who (ready ∷ rest)) n ≡ option_map (λ choice. choice * 64 + who) (slice_get (choices_of ready) n)
unfolding events_from
get_here who ready rest n within =
    let choices = map (λ (choice : ℕ). choice * 64 + who) (choices_of ready) in
    let long : length choices ≡ length (choices_of ready) = length-map (choices_of ready) (λ (choice : ℕ). choice * 64 + who) in
    get_first choices (events_from (who + 1) rest) n (omega (arith, long)) ∙ slice_get-map (λ (choice : ℕ). choice * 64 + who) (choices_of ready) n

get_later : (who ready : ℕ) (rest : List ℕ) (n : ℕ) → length (choices_of ready) ≤ n → slice_get (events_from who (ready ∷ rest)) n ≡ slice_get (events_from (who + 1) rest) (n - length (choices_of ready))
unfolding events_from
get_later who ready rest n within =
    let choices = map (λ (choice : ℕ). choice * 64 + who) (choices_of ready) in
    let long : length choices ≡ length (choices_of ready) = length-map (choices_of ready) (λ (choice : ℕ). choice * 64 + who) in
    get_behind choices (events_from (who + 1) rest) n (omega (arith, long)) ∙ ap (λ m. slice_get (events_from (who + 1) rest) (n - m)) long

get_nothing : (who n : ℕ) → slice_get (events_from who []) n ≡ None
unfolding events_from
get_nothing who n = refl

-- ---- the same over the members of a crew

abbrev pub left_ready : {P : Type 0} → List (MemberPart P) → List ℕ
left_ready {P} parts = map (λ part. part.ready) parts

pub counts_more : {P : Type 0} (parts : List (MemberPart P)) (i count chosen total : ℕ) (d : MemberPart P) → i < length parts → chosen ≡ length (choices_of (slice_index_or parts i d).ready)
    → count + length (events_from (i + 1) (left_ready (drop i parts))) ≡ total → (count + chosen) + length (events_from (i + 1 + 1) (left_ready (drop (i + 1) parts))) ≡ total
counts_more {P} parts i count chosen total d within is sum =
    let next = at_drop_more (λ (its : List (MemberPart P)). length (events_from (i + 1) (left_ready its))) parts i d within in
    let more = length_more (i + 1) (slice_index_or parts i d).ready (left_ready (drop (i + 1) parts)) in
    omega (arith, next, more, is, sum)

pub counts_all : {P : Type 0} (parts : List (MemberPart P)) (i count total : ℕ) → length parts ≤ i → count + length (events_from (i + 1) (left_ready (drop i parts))) ≡ total → count ≡ total
counts_all {P} parts i count total past sum =
    let none = at_drop_all (λ (its : List (MemberPart P)). length (events_from (i + 1) (left_ready its))) parts i past in
    let last = length_none (i + 1) in
    omega (arith, none, last, sum)

pub finds_here : {P : Type 0} (parts : List (MemberPart P)) (i left : ℕ) (d : MemberPart P) (e : Option ℕ) → i < length parts → left < length (choices_of (slice_index_or parts i d).ready)
    → e ≡ option_map (λ choice. choice * 64 + (i + 1)) (slice_get (choices_of (slice_index_or parts i d).ready) left) → e ≡ slice_get (events_from (i + 1) (left_ready (drop i parts))) left
finds_here {P} parts i left d e within few is =
    is ∙ (sym (get_here (i + 1) (slice_index_or parts i d).ready (left_ready (drop (i + 1) parts)) left few)
    ∙ sym (at_drop_more (λ (its : List (MemberPart P)). slice_get (events_from (i + 1) (left_ready its)) left) parts i d within))

pub finds_later : {P : Type 0} (parts : List (MemberPart P)) (i left count : ℕ) (d : MemberPart P) → i < length parts → count ≡ length (choices_of (slice_index_or parts i d).ready) → count ≤ left
    → slice_get (events_from (i + 1 + 1) (left_ready (drop (i + 1) parts))) (left - count) ≡ slice_get (events_from (i + 1) (left_ready (drop i parts))) left
finds_later {P} parts i left count d within is many =
    ap (λ n. slice_get (events_from (i + 1 + 1) (left_ready (drop (i + 1) parts))) (left - n)) is
    ∙ (sym (get_later (i + 1) (slice_index_or parts i d).ready (left_ready (drop (i + 1) parts)) left (omega (arith, is, many)))
    ∙ sym (at_drop_more (λ (its : List (MemberPart P)). slice_get (events_from (i + 1) (left_ready its)) left) parts i d within))

pub finds_none : {P : Type 0} (parts : List (MemberPart P)) (i left : ℕ) → length parts ≤ i → None ≡ slice_get (events_from (i + 1) (left_ready (drop i parts))) left
finds_none {P} parts i left past =
    sym (at_drop_all (λ (its : List (MemberPart P)). slice_get (events_from (i + 1) (left_ready its)) left) parts i past ∙ get_nothing (i + 1) left)

-- ---- what is in the list is ready

get_one : (b : Bool) (c : ℕ) (rest : List ℕ) (n x : ℕ) → slice_get ((if b then c ∷ [] else []) ++ rest) n ≡ Some x → ((b ≡ true) × (x ≡ c)) ⊎ ((m : ℕ) × (slice_get rest m ≡ Some x))
get_one true c rest zero x is = (let some : Some c ≡ Some x = is in inl (refl, cc))
get_one true c rest (suc n) x is = inr (n, is)
get_one false c rest n x is = inr (n, is)

chosen_from : (left choice ready n x : ℕ) → slice_get (choices_from left choice ready) n ≡ Some x → has_choice ready x ≡ true
unfolding choices_from
chosen_from zero choice ready n x is = (let never : None ≡ Some x = is in cc)
chosen_from (suc left) choice ready n x is = elim (get_one (has_choice ready choice) choice (choices_from left (choice + 1) ready) n x is) [
  | inl here ↦ subst (λ y. has_choice ready y ≡ true) (sym here.1) here.0
  | inr later ↦ chosen_from left (choice + 1) ready later.0 x later.1
]

chosen : (ready n x : ℕ) → slice_get (choices_of ready) n ≡ Some x → has_choice ready x ≡ true
unfolding choices_of
chosen ready n x is = chosen_from 23 0 ready n x is

mapped : (f : ℕ → ℕ) (o : Option ℕ) (e : ℕ) → option_map f o ≡ Some e → (x : ℕ) × (o ≡ Some x) × (e ≡ f x)
mapped f None e is = (let never : None ≡ Some e = is in cc)
mapped f (Some x) e is = (let some : Some (f x) ≡ Some e = is in (x, refl, cc))

-- it is the event of a choice that is ready of a member
record IsListed (who : ℕ) (readies : List ℕ) (e : ℕ) : Type 0 where
  at : ℕ
  choice : ℕ
  is : e ≡ choice * 64 + (who + at)
  ready : ready_at (slice_get readies at) choice ≡ true

listed : (who : ℕ) (readies : List ℕ) (n e : ℕ) → slice_get (events_from who readies) n ≡ Some e → IsListed who readies e
listed who [] n e is = (let never : None ≡ Some e = sym (get_nothing who n) ∙ is in cc)
listed who (ready ∷ rest) n e is = elim (cases_lt n (length (choices_of ready))) [
  | inl few ↦ (
      let found = mapped (λ choice. choice * 64 + who) (slice_get (choices_of ready) n) e (sym (get_here who ready rest n few) ∙ is) in
      record { at = 0; choice = found.0; is = (let it = found.2 in omega arith); ready = chosen ready n found.0 found.1 }
      )
  | inr many ↦ (
      let later = listed (who + 1) rest (n - length (choices_of ready)) e (sym (get_later who ready rest n many) ∙ is) in
      record { at = suc later.at; choice = later.choice; is = (let it = later.is in omega arith); ready = later.ready }
      )
]

no_choice : (readies : List ℕ) (at choice : ℕ) → ready_at (slice_get readies at) choice ≡ true → at < length readies
no_choice [] at choice is = (let never : false ≡ true = is in cc)
no_choice (ready ∷ rest) zero choice is = omega arith
no_choice (ready ∷ rest) (suc at) choice is = (let within : at < length rest = no_choice rest at choice is in omega arith)

member_ready : (own : Option ℕ) (readies : List ℕ) (n e : ℕ) → slice_get (events_from 1 (take 63 readies)) n ≡ Some e → is_ready false own readies e ≡ true
member_ready own readies n e is =
    let it = listed 1 (take 63 readies) n e is in
    let here : it.at < length (take 63 readies) = no_choice (take 63 readies) it.at it.choice it.ready in
    let few = length-take 63 readies in
    let within : it.at < 63 = omega arith in
    let same = it.is in
    let who : suc it.at ≡ e % 64 = omega arith in
    let choice : it.choice ≡ e / 64 = omega arith in
    subst (λ w. ready_for false own readies w (e / 64) ≡ true) who
    (subst (λ c. ready_for false own readies (suc it.at) c ≡ true) choice
    (subst (λ o. ready_at o it.choice ≡ true) (get_taken readies 63 it.at within) it.ready))

own_ready : (restarting : Bool) (own : Option ℕ) (readies : List ℕ) (e : ℕ) → option_map (λ choice. choice * 64) own ≡ Some e → is_ready restarting own readies e ≡ true
own_ready restarting None readies e is = (let never : None ≡ Some e = is in cc)
own_ready restarting (Some choice) readies e is =
    let some : Some (choice * 64) ≡ Some e = is in
    let same : choice * 64 ≡ e = cc in
    let who : 0 ≡ e % 64 = omega arith in
    let its : choice ≡ e / 64 = omega arith in
    subst (λ w. ready_for restarting (Some choice) readies w (e / 64) ≡ true) who (eq-eqb choice (e / 64) its)

-- the list of all, by what is ready
abbrev pub all_listed : Bool → Option ℕ → List ℕ → List ℕ
all_listed restarting own readies = option_to_list (option_map (λ choice. choice * 64) own) ++ (if restarting then [] else events_from 1 (take 63 readies))

pub all_ready : (restarting : Bool) (own : Option ℕ) (readies : List ℕ) (n e : ℕ) → slice_get (all_listed restarting own readies) n ≡ Some e → is_ready restarting own readies e ≡ true
all_ready true None readies n e is = (let never : None ≡ Some e = is in cc)
all_ready true (Some choice) readies zero e is = own_ready true (Some choice) readies e is
all_ready true (Some choice) readies (suc n) e is = (let never : None ≡ Some e = is in cc)
all_ready false None readies n e is = member_ready None readies n e is
all_ready false (Some choice) readies zero e is = own_ready false (Some choice) readies e is
all_ready false (Some choice) readies (suc n) e is = member_ready (Some choice) readies n e is

-- ---- what is ready is in the list

in_one : (b : Bool) (c : ℕ) (rest : List ℕ) → b ≡ true → Contains ((if b then c ∷ [] else []) ++ rest) c
in_one true c rest holds = (0, omega arith, refl)
in_one false c rest holds = cc

in_choices : (left choice ready x : ℕ) → choice ≤ x → x < choice + left → has_choice ready x ≡ true → Contains (choices_from left choice ready) x
unfolding choices_from
in_choices zero choice ready x above below holds = absurd (omega arith)
in_choices (suc left) choice ready x above below holds = elim (cases_eq x choice) [
  | inl same ↦ subst (λ y. Contains ((if has_choice ready choice then choice ∷ [] else []) ++ choices_from left (choice + 1) ready) y) (sym same)
      (in_one (has_choice ready choice) choice (choices_from left (choice + 1) ready) (subst (λ y. has_choice ready y ≡ true) same holds))
  | inr other ↦ Contains-append_right (if has_choice ready choice then choice ∷ [] else []) (choices_from left (choice + 1) ready) x
      (in_choices left (choice + 1) ready x (omega arith) (omega arith) holds)
]

contains_map : (f : ℕ → ℕ) (xs : List ℕ) (x : ℕ) → Contains xs x → Contains (map f xs) (f x)
contains_map f xs x has =
    let long = length-map xs f in
    let there = has.1 in
    (has.0, omega (arith, long, there), get_or-map f xs has.0 x (f x) there ∙ ap f has.2)

in_member : (who ready choice : ℕ) → has_choice ready choice ≡ true → Contains (map (λ c. c * 64 + who) (choices_of ready)) (choice * 64 + who)
unfolding choices_of
in_member who ready choice holds =
    let below : choice < 23 = ltb-true choice 23 (and_parts _ _ holds).0 in
    contains_map (λ c. c * 64 + who) (choices_from 23 0 ready) choice (in_choices 23 0 ready choice (omega arith) (omega arith) holds)

in_events : (who : ℕ) (readies : List ℕ) (at choice : ℕ) → ready_at (slice_get readies at) choice ≡ true → Contains (events_from who readies) (choice * 64 + (who + at))
unfolding events_from
in_events who [] at choice holds = (let never : false ≡ true = holds in cc)
in_events who (ready ∷ rest) zero choice holds =
    let same : choice * 64 + who ≡ choice * 64 + (who + 0) = omega arith in
    subst (λ e. Contains (map (λ c. c * 64 + who) (choices_of ready) ++ events_from (who + 1) rest) e) same
    (Contains-append_left (map (λ c. c * 64 + who) (choices_of ready)) (events_from (who + 1) rest) (choice * 64 + who) (in_member who ready choice holds))
in_events who (ready ∷ rest) (suc at) choice holds =
    let same : choice * 64 + (who + 1 + at) ≡ choice * 64 + (who + suc at) = omega arith in
    subst (λ e. Contains (map (λ c. c * 64 + who) (choices_of ready) ++ events_from (who + 1) rest) e) same
    (Contains-append_right (map (λ c. c * 64 + who) (choices_of ready)) (events_from (who + 1) rest) (choice * 64 + (who + 1 + at)) (in_events (who + 1) rest at choice holds))

in_all : (restarting : Bool) (own : Option ℕ) (readies : List ℕ) (who choice e : ℕ) → e ≡ choice * 64 + who → who < 64 → ready_for restarting own readies who choice ≡ true → Contains (all_listed restarting own readies) e
in_all restarting None readies zero choice e is below holds = (let never : false ≡ true = holds in cc)
in_all restarting (Some own) readies zero choice e is below holds =
    let its : own ≡ choice = eqb-true own choice holds in
    let same : own * 64 ≡ e = omega arith in
    (0, omega arith, same)
in_all true own readies (suc at) choice e is below holds = (let never : false ≡ true = holds in cc)
in_all false own readies (suc at) choice e is below holds =
    let same : choice * 64 + (1 + at) ≡ e = omega arith in
    let there : ready_at (slice_get (take 63 readies) at) choice ≡ true = subst (λ o. ready_at o choice ≡ true) (sym (get_taken readies 63 at (omega arith))) holds in
    Contains-append_right (option_to_list (option_map (λ choice. choice * 64) own)) (events_from 1 (take 63 readies)) e
    (subst (λ x. Contains (events_from 1 (take 63 readies)) x) same (in_events 1 (take 63 readies) at choice there))

pub all_contained : (restarting : Bool) (own : Option ℕ) (readies : List ℕ) (e : ℕ) → is_ready restarting own readies e ≡ true → Contains (all_listed restarting own readies) e
all_contained restarting own readies e holds = in_all restarting own readies (e % 64) (e / 64) e (omega arith) (omega arith) holds
