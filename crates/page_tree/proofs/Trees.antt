-- What the moves of a tree make of its pages.
use Rattle.std.proofs.Common.{◌≡◌, ◌<◌, Bool, true, false, cond, not, ◌||◌, ◌&&◌, List, [], ◌∷◌, ◌++◌, length, drop, slice_get, Option, Some, None, Box, refl, sym, ap, subst, ◌∙◌, true≢false, arith, length-append}
use Rattle.std.specs.declared.alloc.Global.{Global}
use Rattle.std.specs.Option.{option_map_or}
use Rattle.std.proofs.lemmas.Bool.{both_ways, or_parts, or_right}
use Rattle.ds_base.specs.declared.names.PageId.{PageId}
use Rattle.page_tree.specs.declared.tree.Tree.{Tree}
use Rattle.page_tree.specs.declared.tree.Node.{Node}
use Rattle.page_tree.specs.declared.tree.Node.TheVariants.{Fork}
use Rattle.ds_base.specs.Pages.{same_page}
use Rattle.page_tree.specs.Order.{comes_before, is_past, IsNextAmong}
use Rattle.page_tree.specs.Pages.{is_in}
use Rattle.page_tree.specs.Nodes.{pages_in, IsSplit, IsOrdered}

-- ---- the order

pub same_is : (a b : PageId) → same_page a b ≡ true → a ≡ b
same_is a b h =
    let p : a.set ≡ b.set = grind arith in
    let q : a.number ≡ b.number = grind arith in
    λ i. record { set = p i; number = q i }

pub own : (a : PageId) → same_page a a ≡ true
own a = grind arith

flip : (a b : PageId) → same_page a b ≡ same_page b a
flip a b = grind arith

not_itself : (a : PageId) → comes_before a a ≡ false
not_itself a = grind arith

trans : (a b c : PageId) → comes_before a b ≡ true → comes_before b c ≡ true → comes_before a c ≡ true
trans a b c p q = grind arith

one_way : (a b : PageId) → comes_before a b ≡ true → comes_before b a ≡ false
one_way a b p = grind arith

other_way : (a b : PageId) → comes_before a b ≡ false → same_page a b ≡ false → comes_before b a ≡ true
other_way a b p q = grind arith

apart : (a m b : PageId) → comes_before a m ≡ true → comes_before b m ≡ false → comes_before a b ≡ true
apart a m b p q = grind arith

-- ---- tests

either : (a b : Bool) (P : Type 0) → (a || b) ≡ true → (a ≡ true → P) → (b ≡ true → P) → P
either true b P h f g = f refl
either false b P h f g = g h

decide : (b : Bool) (P : Type 0) → (b ≡ true → P) → (b ≡ false → P) → P
decide true P f g = f refl
decide false P f g = g refl

never : (b : Bool) → (b ≡ true → ⊥) → b ≡ false
never true f = absurd (f refl)
never false f = refl

-- ---- lists of pages

pub in_append : (q : PageId) (a b : List PageId) → is_in q (a ++ b) ≡ (is_in q a || is_in q b)
in_append q [] b = refl
in_append q (x ∷ a) b = let ih = in_append q a b in by (same_page q x) ih
  where
    by : (c : Bool) → is_in q (a ++ b) ≡ (is_in q a || is_in q b) → (c || is_in q (a ++ b)) ≡ ((c || is_in q a) || is_in q b)
    by true ih = refl
    by false ih = ih

-- ---- what is known of a tree's pages d once its node is a fork

pub record AtFork (d : List PageId) (least middle : PageId) (l r : List PageId) : Type 0 where
  pub is : d ≡ least ∷ (l ++ r)
  pub split : IsSplit least middle l r
  pub shorter : (length l < length d) × (length r < length d)

pub at_Fork : {n : Node} {d : List PageId} {l r : Box Tree Global} {least middle : PageId} → pages_in n ≡ d → IsOrdered n → n ≡ Fork least middle l r → AtFork d least middle l.value r.value
at_Fork {n} {d} {l} {r} {least} {middle} view_is ordered is =
    let e = sym view_is ∙ ap pages_in is in
    let long = ap length e in
    let sum = length-append l.value r.value in
    record { is = e; split = subst IsOrdered is ordered; shorter = (omega (arith, long, sum), omega (arith, long, sum)) }

module _ (d : List PageId) (least middle : PageId) (l r : List PageId) (f : AtFork d least middle l r) where
  -- a page of the tree is the least, or in one of the sides
  pub parts : (q : PageId) → is_in q d ≡ (same_page q least || (is_in q l || is_in q r))
  parts q = ap (is_in q) f.is ∙ ap (λ b. same_page q least || b) (in_append q l r)

  pub one_of : (q : PageId) (P : Type 0) → is_in q d ≡ true → (same_page q least ≡ true → P) → (is_in q l ≡ true → P) → (is_in q r ≡ true → P) → P
  one_of q P h a b c = either (same_page q least) (is_in q l || is_in q r) P (sym (parts q) ∙ h) a (λ h. either (is_in q l) (is_in q r) P h b c)

  after_least : (q : PageId) → is_in q (l ++ r) ≡ true → comes_before least q ≡ true
  after_least q h = either (is_in q l) (is_in q r) _ (sym (in_append q l r) ∙ h) (λ h. (f.split.lower q h).0) (λ h. (f.split.upper q h).0)

  some_is : (a b : PageId) → Some a ≡ Some b → a ≡ b
  some_is a b e = grind arith

  pub first_is : (g q : PageId) → Some least ≡ Some g → is_in q (drop 1 d) ≡ true → comes_before g q ≡ true
  first_is g q same h = subst (λ x. comes_before x q ≡ true) (some_is least g same) (after_least q (sym (ap (λ xs. is_in q (drop 1 xs)) f.is) ∙ h))

  in_d_least : is_in least d ≡ true
  in_d_least = parts least ∙ ap (λ b. b || (is_in least l || is_in least r)) (own least)

  in_d_lower : (q : PageId) → is_in q l ≡ true → is_in q d ≡ true
  in_d_lower q h = parts q ∙ ap (λ b. same_page q least || (b || is_in q r)) h ∙ or_right (same_page q least) true refl

  in_d_upper : (q : PageId) → is_in q r ≡ true → is_in q d ≡ true
  in_d_upper q h = parts q ∙ ap (λ b. same_page q least || (is_in q l || b)) h ∙ or_right (same_page q least) (is_in q l || true) (or_right (is_in q l) true refl)

  -- ---- the next page

  pub next_here : (after : Option PageId) → is_past after least ≡ true → IsNextAmong (λ q. is_in q d) after (Some least)
  next_here after p = (
    in_d_least,
    p,
    λ q h past. one_of q _ h
        (λ same. ap (λ x. comes_before x least) (same_is q least same) ∙ not_itself least)
        (λ h. one_way least q (f.split.lower q h).0)
        (λ h. one_way least q (f.split.upper q h).0),
  )

  not_least : (after : Option PageId) → is_past after least ≡ false → (q : PageId) → is_past after q ≡ true → same_page q least ≡ true → ⊥
  not_least after p q past same = true≢false (sym past ∙ ap (is_past after) (same_is q least same) ∙ p)

  beyond : (after : Option PageId) (q : PageId) → is_past after q ≡ true → comes_before q middle ≡ true → is_past after middle ≡ true
  beyond None q past h = refl
  beyond (Some a) q past h = trans a q middle past h

  pub next_upper : (after next : Option PageId) → is_past after least ≡ false → is_past after middle ≡ false → IsNextAmong (λ q. is_in q r) after next → IsNextAmong (λ q. is_in q d) after next
  next_upper after next p m n = by next n
    where
      only : (q : PageId) → is_in q d ≡ true → is_past after q ≡ true → is_in q r ≡ true
      only q h past = one_of q _ h
          (λ same. absurd (not_least after p q past same))
          (λ h. absurd (true≢false (sym (beyond after q past (f.split.lower q h).1) ∙ m)))
          (λ h. h)

      by : (next : Option PageId) → IsNextAmong (λ q. is_in q r) after next → IsNextAmong (λ q. is_in q d) after next
      by None n = λ q h. never (is_past after q) (λ past. true≢false (sym past ∙ n q (only q h past)))
      by (Some x) n = (in_d_upper x n.0, n.1, λ q h past. n.2 q (only q h past) past)

  pub next_lower : (after : Option PageId) (x : PageId) → is_past after least ≡ false → IsNextAmong (λ q. is_in q l) after (Some x) → IsNextAmong (λ q. is_in q d) after (Some x)
  next_lower after x p n = (
    in_d_lower x n.0,
    n.1,
    λ q h past. one_of q _ h
        (λ same. absurd (not_least after p q past same))
        (λ h. n.2 q h past)
        (λ h. one_way x q (apart x middle q (f.split.lower x n.0).1 (f.split.upper q h).1)),
  )

  past_middle : (after : Option PageId) → is_past after middle ≡ true → (q : PageId) → comes_before q middle ≡ false → is_past after q ≡ true
  past_middle None m q h = refl
  past_middle (Some a) m q h = apart a middle q m h

  pub next_first : (after next : Option PageId) → is_past after least ≡ false → is_past after middle ≡ true → IsNextAmong (λ q. is_in q l) after None
      → next ≡ slice_get r 0 → ((g q : PageId) → next ≡ Some g → is_in q (drop 1 r) ≡ true → comes_before g q ≡ true) → IsNextAmong (λ q. is_in q d) after next
  next_first after next p m none is least_of = by r refl
    where
      not_lower : (q : PageId) → is_in q l ≡ true → is_past after q ≡ true → ⊥
      not_lower q h past = true≢false (sym past ∙ none q h)

      by : (xs : List PageId) → r ≡ xs → IsNextAmong (λ q. is_in q d) after next
      by [] e =
          subst (IsNextAmong (λ q. is_in q d) after) (sym (is ∙ ap (λ xs. slice_get xs 0) e))
          (λ q h. never (is_past after q) (λ past. one_of q _ h (not_least after p q past) (λ h. not_lower q h past) (λ h. true≢false (sym h ∙ ap (is_in q) e))))
      by (x ∷ xs) e =
          let here : next ≡ Some x = is ∙ ap (λ xs. slice_get xs 0) e in
          let there : is_in x r ≡ true = ap (is_in x) e ∙ ap (λ b. b || is_in x xs) (own x) in
          subst (IsNextAmong (λ q. is_in q d) after) (sym here) (
            in_d_upper x there,
            past_middle after m x (f.split.upper x there).1,
            λ q h past. one_of q _ h
                (λ same. absurd (not_least after p q past same))
                (λ h. absurd (not_lower q h past))
                (λ h. either (same_page q x) (is_in q xs) _ (sym (ap (is_in q) e) ∙ h)
                (λ same. ap (λ y. comes_before y x) (same_is q x same) ∙ not_itself x)
                (λ h. one_way x q (least_of x q here (ap (λ ys. is_in q (drop 1 ys)) e ∙ h)))),
          )

  -- ---- a page is added

  in_least_lower : is_in least l ≡ false
  in_least_lower = never (is_in least l) (λ h. true≢false (sym (f.split.lower least h).0 ∙ not_itself least))

  in_least_upper : is_in least r ≡ false
  in_least_upper = never (is_in least r) (λ h. true≢false (sym (f.split.upper least h).0 ∙ not_itself least))

  module _ (id : PageId) (absent : is_in id d ≡ false) (p : PageId × PageId) (is : p ≡ cond (comes_before id least) (id, least) (least, id)) where
    parts_absent : (same_page id least ≡ false) × ((is_in id l ≡ false) × (is_in id r ≡ false))
    parts_absent =
        let a = or_parts (same_page id least) (is_in id l || is_in id r) (sym (parts id) ∙ absent) in
        (a.0, or_parts (is_in id l) (is_in id r) a.1)

    -- the earlier page is before all others, and both are there
    record Arranged (o : PageId × PageId) : Type 0 where
      ahead : comes_before o.0 o.1 ≡ true
      all : (q : PageId) → comes_before least q ≡ true → comes_before o.0 q ≡ true
      both : (q : PageId) → (same_page q o.0 || same_page q o.1) ≡ (same_page q id || same_page q least)
      lower : is_in o.1 l ≡ false
      upper : is_in o.1 r ≡ false

    swap : (a b : Bool) → (a || b) ≡ (b || a)
    swap true true = refl
    swap true false = refl
    swap false true = refl
    swap false false = refl

    arranged : Arranged p
    arranged =
        subst Arranged (sym is) (decide (comes_before id least) _
        (λ h. subst (λ b. Arranged (cond b (id, least) (least, id))) (sym h)
        (record { ahead = h; all = λ q g. trans id least q h g; both = λ q. refl; lower = in_least_lower; upper = in_least_upper }))
        (λ h. subst (λ b. Arranged (cond b (id, least) (least, id))) (sym h)
        (record { ahead = other_way id least h parts_absent.0; all = λ q g. g; both = λ q. swap (same_page q least) (same_page q id); lower = parts_absent.1.0; upper = parts_absent.1.1 })))

    pub absent_lower : is_in p.1 l ≡ false
    absent_lower = arranged.lower

    pub absent_upper : is_in p.1 r ≡ false
    absent_upper = arranged.upper

    ahead_of : (q : PageId) (side : List PageId) → ((x : PageId) → is_in x side ≡ true → comes_before least x ≡ true) → (same_page q p.1 || is_in q side) ≡ true → comes_before p.0 q ≡ true
    ahead_of q side behind h =
        either (same_page q p.1) (is_in q side) _ h
        (λ same. ap (comes_before p.0) (same_is q p.1 same) ∙ arranged.ahead)
        (λ h. arranged.all q (behind q h))

    pub split_lower : (now : List PageId) → comes_before p.1 middle ≡ true → ((q : PageId) → is_in q now ≡ (same_page q p.1 || is_in q l)) → IsSplit p.0 middle now r
    split_lower now m adds = record {
      lower = λ q h. (
        ahead_of q l (λ x g. (f.split.lower x g).0) (sym (adds q) ∙ h),
        either (same_page q p.1) (is_in q l) _ (sym (adds q) ∙ h) (λ same. ap (λ x. comes_before x middle) (same_is q p.1 same) ∙ m) (λ h. (f.split.lower q h).1),
      );
      upper = λ q h. (arranged.all q (f.split.upper q h).0, (f.split.upper q h).1);
    }

    pub split_upper : (now : List PageId) → comes_before p.1 middle ≡ false → ((q : PageId) → is_in q now ≡ (same_page q p.1 || is_in q r)) → IsSplit p.0 middle l now
    split_upper now m adds = record {
      lower = λ q h. (arranged.all q (f.split.lower q h).0, (f.split.lower q h).1);
      upper = λ q h. (
        ahead_of q r (λ x g. (f.split.upper x g).0) (sym (adds q) ∙ h),
        either (same_page q p.1) (is_in q r) _ (sym (adds q) ∙ h) (λ same. ap (λ x. comes_before x middle) (same_is q p.1 same) ∙ m) (λ h. (f.split.upper q h).1),
      );
    }

    lower_tests : (a b s t x y : Bool) → (a || b) ≡ (s || t) → (a || ((b || x) || y)) ≡ (s || (t || (x || y)))
    lower_tests true b true t x y e = refl
    lower_tests true b false true x y e = refl
    lower_tests true b false false x y e = absurd (true≢false e)
    lower_tests false true true t x y e = refl
    lower_tests false true false true x y e = refl
    lower_tests false true false false x y e = absurd (true≢false e)
    lower_tests false false true t x y e = absurd (true≢false (sym e))
    lower_tests false false false true x y e = absurd (true≢false (sym e))
    lower_tests false false false false x y e = refl

    upper_tests : (a b s t x y : Bool) → (a || b) ≡ (s || t) → (a || (x || (b || y))) ≡ (s || (t || (x || y)))
    upper_tests a b s t true y e = upper_tests_true a b s t y e
      where
        upper_tests_true : (a b s t y : Bool) → (a || b) ≡ (s || t) → (a || true) ≡ (s || (t || true))
        upper_tests_true true b true t y e = refl
        upper_tests_true true b false true y e = refl
        upper_tests_true true b false false y e = refl
        upper_tests_true false b true t y e = refl
        upper_tests_true false b false true y e = refl
        upper_tests_true false b false false y e = refl
    upper_tests a b s t false y e = ap (λ z. a || z) (or_none b y) ∙ lower_tests a b s t false y e
      where
        or_none : (b y : Bool) → (b || y) ≡ ((b || false) || y)
        or_none true y = refl
        or_none false y = refl

    pub added_lower : (now : List PageId) → ((q : PageId) → is_in q now ≡ (same_page q p.1 || is_in q l)) → (q : PageId) → is_in q (p.0 ∷ (now ++ r)) ≡ (same_page q id || is_in q d)
    added_lower now adds q =
        ap (λ b. same_page q p.0 || b) (in_append q now r ∙ ap (λ b. b || is_in q r) (adds q))
        ∙ lower_tests (same_page q p.0) (same_page q p.1) (same_page q id) (same_page q least) (is_in q l) (is_in q r) (arranged.both q)
        ∙ ap (λ b. same_page q id || b) (sym (parts q))

    pub added_upper : (now : List PageId) → ((q : PageId) → is_in q now ≡ (same_page q p.1 || is_in q r)) → (q : PageId) → is_in q (p.0 ∷ (l ++ now)) ≡ (same_page q id || is_in q d)
    added_upper now adds q =
        ap (λ b. same_page q p.0 || b) (in_append q l now ∙ ap (λ b. is_in q l || b) (adds q))
        ∙ upper_tests (same_page q p.0) (same_page q p.1) (same_page q id) (same_page q least) (is_in q l) (is_in q r) (arranged.both q)
        ∙ ap (λ b. same_page q id || b) (sym (parts q))

  -- ---- the first page goes

  record Taken (g : PageId) (now_l now_r : List PageId) : Type 0 where
    pub split : IsSplit g middle now_l now_r
    pub list : g ∷ (now_l ++ now_r) ≡ drop 1 d

  pub take_lower : (g : PageId) (now : List PageId) → Some g ≡ slice_get l 0 → ((a q : PageId) → Some g ≡ Some a → is_in q (drop 1 l) ≡ true → comes_before a q ≡ true) → now ≡ drop 1 l
      → IsSplit g middle now r × (g ∷ (now ++ r) ≡ drop 1 d)
  take_lower g now is behind dropped = by l refl
    where
      by : (xs : List PageId) → l ≡ xs → IsSplit g middle now r × (g ∷ (now ++ r) ≡ drop 1 d)
      by [] e = absurd (none (is ∙ ap (λ xs. slice_get xs 0) e))
        where
          none : Some g ≡ None → ⊥
          none e = grind arith
      by (x ∷ xs) e =
          let same : g ≡ x = some_is g x (is ∙ ap (λ xs. slice_get xs 0) e) in
          let rest : now ≡ xs = dropped ∙ ap (drop 1) e in
          let there : is_in g l ≡ true = ap (is_in g) e ∙ ap (λ y. same_page g y || is_in g xs) (sym same) ∙ ap (λ b. b || is_in g xs) (own g) in (
            record {
              lower = λ q h.
                  let old : is_in q l ≡ true = ap (is_in q) e ∙ ap (λ b. same_page q x || b) (sym (ap (is_in q) rest) ∙ h) ∙ or_right (same_page q x) true refl in
                  (behind g q refl (sym (ap (is_in q) dropped) ∙ h), (f.split.lower q old).1);
              upper = λ q h. (apart g middle q (f.split.lower g there).1 (f.split.upper q h).1, (f.split.upper q h).1);
            },
            (λ i. same i ∷ (rest i ++ r)) ∙ ap (λ ys. ys ++ r) (sym e) ∙ sym (ap (drop 1) f.is),
          )

  pub take_upper : (g : PageId) (now : List PageId) → slice_get l 0 ≡ None → Some g ≡ slice_get r 0 → ((a q : PageId) → Some g ≡ Some a → is_in q (drop 1 r) ≡ true → comes_before a q ≡ true) → now ≡ drop 1 r
      → IsSplit g middle l now × (g ∷ (l ++ now) ≡ drop 1 d)
  take_upper g now empty is behind dropped = by l r refl refl
    where
      by : (xs ys : List PageId) → l ≡ xs → r ≡ ys → IsSplit g middle l now × (g ∷ (l ++ now) ≡ drop 1 d)
      by (x ∷ xs) ys e u = absurd (some (sym (ap (λ xs. slice_get xs 0) e) ∙ empty))
        where
          some : Some x ≡ None → ⊥
          some e = grind arith
      by [] [] e u = absurd (none (is ∙ ap (λ xs. slice_get xs 0) u))
        where
          none : Some g ≡ None → ⊥
          none e = grind arith
      by [] (y ∷ ys) e u =
          let same : g ≡ y = some_is g y (is ∙ ap (λ xs. slice_get xs 0) u) in
          let rest : now ≡ ys = dropped ∙ ap (drop 1) u in (
            record {
              lower = λ q h. absurd (true≢false (sym h ∙ ap (is_in q) e));
              upper = λ q h.
                  let old : is_in q r ≡ true = ap (is_in q) u ∙ ap (λ b. same_page q y || b) (sym (ap (is_in q) rest) ∙ h) ∙ or_right (same_page q y) true refl in
                  (behind g q refl (sym (ap (is_in q) dropped) ∙ h), (f.split.upper q old).1);
            },
            (λ i. same i ∷ (e i ++ rest i)) ∙ sym u ∙ ap (λ xs. xs ++ r) (sym e) ∙ sym (ap (drop 1) f.is),
          )

  nothing : (xs : List PageId) → slice_get xs 0 ≡ None → xs ≡ []
  nothing [] e = refl
  nothing (x ∷ xs) e = absurd (some e)
    where
      some : Some x ≡ None → ⊥
      some e = grind arith

  pub take_only : slice_get l 0 ≡ None → slice_get r 0 ≡ None → (l ++ r ≡ []) × (drop 1 d ≡ [])
  take_only a b =
      let empty : l ++ r ≡ [] = (λ i. nothing l a i ++ nothing r b i) in
      (empty, ap (drop 1) f.is ∙ empty)

  -- ---- a page goes

  pub in_lower : (id : PageId) → is_in id d ≡ true → same_page id least ≡ false → comes_before id middle ≡ true → is_in id l ≡ true
  in_lower id h other m = one_of id _ h
      (λ same. absurd (both_ways (same_page id least) other same))
      (λ h. h)
      (λ h. absurd (true≢false (sym m ∙ (f.split.upper id h).1)))

  pub in_upper : (id : PageId) → is_in id d ≡ true → same_page id least ≡ false → comes_before id middle ≡ false → is_in id r ≡ true
  in_upper id h other m = one_of id _ h
      (λ same. absurd (both_ways (same_page id least) other same))
      (λ h. absurd (true≢false (sym (f.split.lower id h).1 ∙ m)))
      (λ h. h)

  and_right : (a b : Bool) → (not a && b) ≡ true → b ≡ true
  and_right true b h = absurd (true≢false (sym h))
  and_right false b h = h

  pub split_without_lower : (id : PageId) (now : List PageId) → ((q : PageId) → is_in q now ≡ (not (same_page q id) && is_in q l)) → IsSplit least middle now r
  split_without_lower id now drops = record {
    lower = λ q h. f.split.lower q (and_right (same_page q id) (is_in q l) (sym (drops q) ∙ h));
    upper = f.split.upper;
  }

  pub split_without_upper : (id : PageId) (now : List PageId) → ((q : PageId) → is_in q now ≡ (not (same_page q id) && is_in q r)) → IsSplit least middle l now
  split_without_upper id now drops = record {
    lower = f.split.lower;
    upper = λ q h. f.split.upper q (and_right (same_page q id) (is_in q r) (sym (drops q) ∙ h));
  }

  tests_same : (t x y : Bool) → t ≡ false → x ≡ false → y ≡ false → (t || (x || y)) ≡ false
  tests_same false false false a b c = refl
  tests_same true x y a b c = absurd (true≢false a)
  tests_same false true y a b c = absurd (true≢false b)
  tests_same false false true a b c = absurd (true≢false c)

  pub gone_lower : (id : PageId) (now : List PageId) → same_page id least ≡ false → comes_before id middle ≡ true → ((q : PageId) → is_in q now ≡ (not (same_page q id) && is_in q l))
      → (q : PageId) → is_in q (least ∷ (now ++ r)) ≡ (not (same_page q id) && is_in q d)
  gone_lower id now other m drops q =
      ap (λ b. same_page q least || b) (in_append q now r ∙ ap (λ b. b || is_in q r) (drops q))
      ∙ decide (same_page q id) _
      (λ h.
      ap (λ b. same_page q least || ((not b && is_in q l) || is_in q r)) h
      ∙ tests_same (same_page q least) false (is_in q r) (ap (λ x. same_page x least) (same_is q id h) ∙ other) refl (ap (λ x. is_in x r) (same_is q id h) ∙ never (is_in id r) (λ g. true≢false (sym m ∙ (f.split.upper id g).1)))
      ∙ sym (ap (λ b. not b && is_in q d) h))
      (λ h. ap (λ b. same_page q least || ((not b && is_in q l) || is_in q r)) h ∙ sym (parts q) ∙ sym (ap (λ b. not b && is_in q d) h))

  pub gone_upper : (id : PageId) (now : List PageId) → same_page id least ≡ false → comes_before id middle ≡ false → ((q : PageId) → is_in q now ≡ (not (same_page q id) && is_in q r))
      → (q : PageId) → is_in q (least ∷ (l ++ now)) ≡ (not (same_page q id) && is_in q d)
  gone_upper id now other m drops q =
      ap (λ b. same_page q least || b) (in_append q l now ∙ ap (λ b. is_in q l || b) (drops q))
      ∙ decide (same_page q id) _
      (λ h.
      ap (λ b. same_page q least || (is_in q l || (not b && is_in q r))) h
      ∙ tests_same (same_page q least) (is_in q l) false (ap (λ x. same_page x least) (same_is q id h) ∙ other) (ap (λ x. is_in x l) (same_is q id h) ∙ never (is_in id l) (λ g. true≢false (sym (f.split.lower id g).1 ∙ m))) refl
      ∙ sym (ap (λ b. not b && is_in q d) h))
      (λ h. ap (λ b. same_page q least || (is_in q l || (not b && is_in q r))) h ∙ sym (parts q) ∙ sym (ap (λ b. not b && is_in q d) h))

-- the page that comes first is gone, and it stands nowhere else
pub gone_first : (d : List PageId) (g id : PageId) → Some g ≡ slice_get d 0 → same_page id g ≡ true → ((a q : PageId) → Some g ≡ Some a → is_in q (drop 1 d) ≡ true → comes_before a q ≡ true)
    → (q : PageId) → is_in q (drop 1 d) ≡ (not (same_page q id) && is_in q d)
gone_first [] g id is same behind q = absurd (none is)
  where
    none : Some g ≡ None → ⊥
    none e = grind arith
gone_first (x ∷ xs) g id is same behind q = decide (same_page q id) _
    (λ h. never (is_in q xs) (λ t. true≢false (sym (behind g q refl t) ∙ ap (comes_before g) (same_is q id h ∙ same_is id g same) ∙ not_itself g)) ∙ sym (ap (λ b. not b && is_in q (x ∷ xs)) h))
    (λ h. sym (ap (λ b. not b && is_in q (x ∷ xs)) h ∙ ap (λ b. b || is_in q xs) (ap (same_page q) (sym (id_is)) ∙ h)))
  where
    some_of : (a b : PageId) → Some a ≡ Some b → a ≡ b
    some_of a b e = grind arith

    id_is : id ≡ x
    id_is = same_is id g same ∙ some_of g x is

-- what is known of the rest of a list behind its first page
pub behind_of : (g : PageId) (first : Option PageId) (seen xs : List PageId) → first ≡ Some g → seen ≡ xs → ((a q : PageId) → first ≡ Some a → is_in q (drop 1 seen) ≡ true → comes_before a q ≡ true)
    → (a q : PageId) → Some g ≡ Some a → is_in q (drop 1 xs) ≡ true → comes_before a q ≡ true
behind_of g first seen xs is same behind = λ a q e h. behind a q (is ∙ e) (ap (λ ys. is_in q (drop 1 ys)) same ∙ h)

-- the page that a list begins with
pub starts : (id : PageId) (xs : List PageId) (b : Bool) → b ≡ option_map_or (same_page id) (slice_get xs 0) false → (least : PageId) (l : List PageId) → xs ≡ least ∷ l → same_page id least ≡ b
starts id xs b is least l e = sym (is ∙ ap (λ ys. option_map_or (same_page id) (slice_get ys 0) false) e)
