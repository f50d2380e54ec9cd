-- The retained pages that a restart knows, as one is put in or taken out.
use Rattle.std.proofs.Common.{◌≡◌, ◌⊎◌, refl, sym, ◌∙◌, ap, Bool, true, false, inl, inr, List, [], ◌∷◌, cond, Option, Some, None}
use Rattle.std.specs.Prelude.{◌==◌, ◌&&◌, ◌||◌, not}
use Rattle.std.specs.Ordering.{is_eq, match_ordering, nat_cmp, ordering_then}
use Rattle.std.specs.declared.cmp.Ordering.{Ordering}
use Rattle.std.specs.declared.cmp.Ordering.TheVariants.{Less, Equal, Greater}
use Rattle.std.proofs.lemmas.Bool.{and_from, and_parts, both_ways, cases_Bool, eq-eqb, eqb-true}
use Rattle.std.proofs.lemmas.Map.Lookups.{exact_unsigned}
use Rattle.ds_base.specs.declared.names.PageId.{PageId}
use Rattle.page_records.specs.Pages.{page_cmp}
use Rattle.write_order.specs.declared.rank.Rank.{Rank}
use Rattle.write_order.specs.declared.rank.Rank.TheVariants.{HeapPage, HeapHeader, Leaf, Branch, IndexHeader}
use Rattle.write_order.specs.Ranks.{rank_by_name}
use Rattle.restart_records.specs.declared.queue.TurnKey.{TurnKey}
use Rattle.restart_records.specs.Queue.{key_by_name, key_with, put_in, ranked_key, taken_out, turn_cmp, turn_of}
use Rattle.restart_marks.specs.Moves.{is_same}
use Rattle.restart_owners.specs.Listing.{is_among}

-- ---- pages
pub is_itself : (p : PageId) → is_same p p ≡ true
is_itself p = and_from (p.set == p.set) (p.number == p.number) (eq-eqb p.set p.set refl) (eq-eqb p.number p.number refl)

pub same_page : (p q : PageId) → is_same p q ≡ true → p ≡ q
same_page p q e =
    let both = and_parts (p.set == q.set) (p.number == q.number) e in
    let sets : p.set ≡ q.set = eqb-true p.set q.set both.0 in
    let numbers : p.number ≡ q.number = eqb-true p.number q.number both.1 in
    λ i. record { set = sets i; number = numbers i }

-- ---- keys that aren't told apart are of one page
both_Equal : (o r : Ordering) → ordering_then o r ≡ Equal → (o ≡ Equal) × (r ≡ Equal)
both_Equal Less r e = absurd (cc e)
both_Equal Equal r e = (refl, e)
both_Equal Greater r e = absurd (cc e)

pages_same : (p q : PageId) → page_cmp p q ≡ Equal → p ≡ q
pages_same p q e =
    let both = both_Equal (nat_cmp p.set q.set) (nat_cmp p.number q.number) e in
    let sets : p.set ≡ q.set = exact_unsigned p.set q.set both.0 in
    let numbers : p.number ≡ q.number = exact_unsigned p.number q.number both.1 in
    λ i. record { set = sets i; number = numbers i }

pub record SameKeys (a b : TurnKey) : Type 0 where
  pub turn : a.turn ≡ b.turn
  pub page : a.page ≡ b.page

pub same_keys : (a b : TurnKey) → turn_cmp a b ≡ Equal → SameKeys a b
same_keys a b e =
    let both = both_Equal (ordering_then (nat_cmp a.turn b.turn) (nat_cmp a.from_end b.from_end)) (page_cmp a.page b.page) e in
    record { turn = exact_unsigned a.turn b.turn (both_Equal (nat_cmp a.turn b.turn) (nat_cmp a.from_end b.from_end) both.0).0; page = pages_same a.page b.page both.1 }

-- ---- tests
or_right : (a b : Bool) → b ≡ true → (a || b) ≡ true
or_right true b e = refl
or_right false b e = e

or_left : (a b : Bool) → a ≡ true → (a || b) ≡ true
or_left true b e = refl
or_left false b e = absurd (both_ways false refl e)

or_on : (a b c : Bool) → (b ≡ true → c ≡ true) → (a || b) ≡ true → (a || c) ≡ true
or_on true b c f e = refl
or_on false b c f e = f e

-- ---- a test of some keys of the list
abbrev has : (TurnKey → Bool) → List TurnKey → Bool
has f [] = false
has f (key ∷ keys) = f key || has f keys

put_keeps : (f : TurnKey → Bool) (keys : List TurnKey) (k : TurnKey) → has f keys ≡ true → has f (put_in keys k) ≡ true
put_keeps f [] k e = absurd (both_ways false refl e)
put_keeps f (x ∷ keys) k e = by (turn_cmp k x) (put_keeps f keys k)
  where
    by : (r : Ordering) → (has f keys ≡ true → has f (put_in keys k) ≡ true) → has f (match_ordering r (k ∷ x ∷ keys) (x ∷ keys) (x ∷ put_in keys k)) ≡ true
    by Less ih = or_right (f k) (has f (x ∷ keys)) e
    by Equal ih = e
    by Greater ih = or_on (f x) (has f keys) (has f (put_in keys k)) ih e

-- a test that can't tell keys of one turn and page apart
put_has : (f : TurnKey → Bool) (keys : List TurnKey) (k : TurnKey) → ((x : TurnKey) → SameKeys k x → f k ≡ true → f x ≡ true) → f k ≡ true → has f (put_in keys k) ≡ true
put_has f [] k same e = or_left (f k) false e
put_has f (x ∷ keys) k same e = by (turn_cmp k x) refl (put_has f keys k same e)
  where
    by : (r : Ordering) → turn_cmp k x ≡ r → has f (put_in keys k) ≡ true → has f (match_ordering r (k ∷ x ∷ keys) (x ∷ keys) (x ∷ put_in keys k)) ≡ true
    by Less is ih = or_left (f k) (has f (x ∷ keys)) e
    by Equal is ih = or_left (f x) (has f keys) (same x (same_keys k x is) e)
    by Greater is ih = or_right (f x) (has f (put_in keys k)) ih

take_keeps : (f : TurnKey → Bool) (keys : List TurnKey) (k : TurnKey) → ((x : TurnKey) → SameKeys k x → f x ≡ false) → has f keys ≡ true → has f (taken_out keys k) ≡ true
take_keeps f [] k other e = e
take_keeps f (x ∷ keys) k other e = by (turn_cmp k x) refl (take_keeps f keys k other)
  where
    away : (a b : Bool) → a ≡ false → (a || b) ≡ true → b ≡ true
    away true b never y = absurd (both_ways true never refl)
    away false b is y = y

    by : (r : Ordering) → turn_cmp k x ≡ r → (has f keys ≡ true → has f (taken_out keys k) ≡ true) → has f (cond (is_eq r) keys (x ∷ taken_out keys k)) ≡ true
    by Less is ih = or_on (f x) (has f keys) (has f (taken_out keys k)) ih e
    by Equal is ih = away (f x) (has f keys) (other x (same_keys k x is)) e
    by Greater is ih = or_on (f x) (has f keys) (has f (taken_out keys k)) ih e

-- ---- the page of a key
abbrev of_page : PageId → TurnKey → Bool
of_page p key = is_same key.page p

among_has : (keys : List TurnKey) (p : PageId) → is_among keys p ≡ has (of_page p) keys
among_has [] p = refl
among_has (key ∷ keys) p = ap (λ z. is_same key.page p || z) (among_has keys p)

pub among_put : (keys : List TurnKey) (k : TurnKey) (p : PageId) → is_among keys p ≡ true → is_among (put_in keys k) p ≡ true
among_put keys k p e = among_has (put_in keys k) p ∙ put_keeps (of_page p) keys k (sym (among_has keys p) ∙ e)

pub among_new : (keys : List TurnKey) (k : TurnKey) → is_among (put_in keys k) k.page ≡ true
among_new keys k = among_has (put_in keys k) k.page ∙ put_has (of_page k.page) keys k (λ x same e. ap (λ z. is_same z k.page) (sym same.page) ∙ e) (is_itself k.page)

pub among_first : (key : TurnKey) (keys : List TurnKey) → is_among (key ∷ keys) key.page ≡ true
among_first key keys = or_left (is_same key.page key.page) (is_among keys key.page) (is_itself key.page)

pub among_left : (keys : List TurnKey) (k : TurnKey) (p : PageId) → is_same k.page p ≡ false → is_among keys p ≡ true → is_among (taken_out keys k) p ≡ true
among_left keys k p other e = among_has (taken_out keys k) p ∙ take_keeps (of_page p) keys k (λ x same. ap (λ z. is_same z p) (sym same.page) ∙ other) (sym (among_has keys p) ∙ e)

-- ---- one whose rank is known is put in for one whose rank isn't
abbrev ranked_of : PageId → TurnKey → Bool
ranked_of p key = not (key.turn == 0) && is_same key.page p

has_page : (p : PageId) (keys : List TurnKey) → has (ranked_of p) keys ≡ true → has (of_page p) keys ≡ true
has_page p [] e = e
has_page p (key ∷ keys) e = by (cases_Bool (ranked_of p key)) (has_page p keys)
  where
    by : (ranked_of p key ≡ true) ⊎ (ranked_of p key ≡ false) → (has (ranked_of p) keys ≡ true → has (of_page p) keys ≡ true) → (of_page p key || has (of_page p) keys) ≡ true
    by (inl is) ih = or_left (of_page p key) (has (of_page p) keys) (and_parts (not (key.turn == 0)) (is_same key.page p) is).1
    by (inr isnt) ih = or_right (of_page p key) (has (of_page p) keys) (ih (sym (ap (λ z. z || has (ranked_of p) keys) isnt) ∙ e))

turned : (r : Rank) → (turn_of r == 0) ≡ false
turned HeapPage = refl
turned HeapHeader = refl
turned (Leaf low) = refl
turned (Branch low) = refl
turned IndexHeader = refl

pub among_ranked : (keys : List TurnKey) (k : TurnKey) (p : PageId) (r : Rank) → (k.turn == 0) ≡ true → is_among (taken_out (put_in keys (ranked_key p r)) k) p ≡ true
among_ranked keys k p r unranked =
    among_has (taken_out (put_in keys new) k) p
    ∙ has_page p (taken_out (put_in keys new) k)
    (take_keeps (ranked_of p) (put_in keys new) k (λ x same. ap (λ z. not (z == 0) && is_same x.page p) (sym same.turn) ∙ ap (λ z. not z && is_same x.page p) unranked)
    (put_has (ranked_of p) keys new (λ x same e. ap (λ z. not (z == 0) && is_same x.page p) (sym same.turn) ∙ ap (λ (z : PageId). not (new.turn == 0) && is_same z p) (sym same.page) ∙ e)
    (and_from (not (new.turn == 0)) (is_same p p) (ap not (turned r)) (is_itself p))))
  where
    new : TurnKey
    new = ranked_key p r

pub named_page : (p : PageId) → (key_by_name p).page ≡ p
named_page p = by (rank_by_name p)
  where
    by : (o : Option Rank) → (key_with p o).page ≡ p
    by None = refl
    by (Some r) = refl
