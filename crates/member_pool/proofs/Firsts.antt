-- The changed frame of a table that is written first.
use Rattle.std.proofs.Common.{◌≡◌, ◌≢◌, ℕ, zero, suc, ◌<◌, ◌≤◌, Bool, true, false, cond, true≢false, inl, inr, not, ◌&&◌, List, [], ◌∷◌, length, get_or, Option, Some, None, refl, sym, ap, subst, ◌∙◌, arith, nat_eq, slice_get}
use Rattle.std.specs.Prelude.{nat_lt, is_some, position, unwrap_or}
use Rattle.std.specs.List.{list_any, position_or_len}
use Rattle.std.specs.List.Sorted.{IsPartitionPoint}
use Rattle.std.proofs.lemmas.Bool.{cases_eq, cases_lt, eqb-true, eq-eqb}
use Rattle.std.proofs.lemmas.List.Sums.{position_or_len_is}
use Rattle.std.proofs.lemmas.List.Quantifiers.{position-Some}
use Rattle.std.proofs.lemmas.Option.{none-some, slice_get_within}
use Rattle.write_order.specs.declared.key.WriteKey.{WriteKey}
use Rattle.write_order.specs.Keys.{table_of, is_before}
use Rattle.member_pool.specs.declared.frame.Frame.{Frame}
use Rattle.member_pool.specs.Frames.{free_frame, frame_at}
use Rattle.member_pool.specs.Marks.{entry_of, is_ahead, is_first, is_first_of, first_of}
use Rattle.member_pool.specs.Listed.{entry_in, is_earlier, table_in, IsListed}
use Rattle.member_pool.proofs.Listing.{IsStrict, place_in, earlier_table}

-- ---- frames

pub frame_is : (frames : List Frame) (f : ℕ) → frame_at frames f ≡ get_or frames f free_frame
frame_is [] f = refl
frame_is (x ∷ frames) zero = refl
frame_is (x ∷ frames) (suc f) = frame_is frames f

pub within_frames : (frames : List Frame) (f : ℕ) → is_some (entry_in frames f) ≡ true → f < length frames
within_frames frames f h = by (slice_get frames f) refl
  where
    by : (o : Option Frame) → slice_get frames f ≡ o → f < length frames
    by None e = absurd (true≢false (sym h ∙ ap (λ o. is_some (entry_of (unwrap_or o free_frame))) e))
    by (Some x) e = slice_get_within frames f x e

pub none_of : (q : Frame → Bool) (frames : List Frame) → ((g : ℕ) → g < length frames → q (frame_at frames g) ≡ false) → list_any q frames ≡ false
none_of q [] h = refl
none_of q (x ∷ frames) h = let here = h zero (omega arith) in let rest = none_of q frames (λ g l. h (suc g) (omega (arith, l))) in grind (arith, here, rest)

pub fails_at : (q : Frame → Bool) (frames : List Frame) (f : ℕ) → list_any q frames ≡ false → f < length frames → q (frame_at frames f) ≡ false
fails_at q [] f h l = absurd (omega (arith, l))
fails_at q (x ∷ frames) zero h l = grind arith
fails_at q (x ∷ frames) (suc f) h l = fails_at q frames f (grind arith) (omega (arith, l))

position_at : (p : Frame → Bool) (frames : List Frame) (f : ℕ) → f < length frames → p (frame_at frames f) ≡ true → ((g : ℕ) → g < f → p (frame_at frames g) ≡ false) → position p frames ≡ Some f
position_at p frames f l here before =
    let is : position_or_len p frames ≡ f =
    position_or_len_is p frames f free_frame (omega (arith, l)) (λ g lt. ap p (sym (frame_is frames g)) ∙ before g lt) (λ _. ap p (sym (frame_is frames f)) ∙ here) in
    ap (λ n. cond (nat_lt n (length frames)) (Some n) None) is ∙ (grind (arith, l))

no_position : (p : Frame → Bool) (frames : List Frame) → ((g : ℕ) → g < length frames → p (frame_at frames g) ≡ false) → position p frames ≡ None
no_position p frames none =
    let is : position_or_len p frames ≡ length frames =
    position_or_len_is p frames (length frames) free_frame (omega arith) (λ g lt. ap p (sym (frame_is frames g)) ∙ none g lt) (λ h. absurd (omega (arith, h))) in
    ap (λ n. cond (nat_lt n (length frames)) (Some n) None) is ∙ (grind arith)

not_true : (b : Bool) → not b ≡ true → b ≡ false
not_true true h = absurd (true≢false (sym h))
not_true false h = refl

and_both : (a b : Bool) → (a && b) ≡ true → (a ≡ true) × (b ≡ true)
and_both true true h = (refl, refl)
and_both true false h = absurd (true≢false (sym h))
and_both false b h = absurd (true≢false (sym h))

same_some : (a b : WriteKey) → Some a ≡ Some b → a ≡ b
same_some a b h = cc

-- ---- the first

module _ (frames : List Frame) (xs : List ℕ) (listed : IsListed (entry_in frames) xs) where
  -- of two listed pages of one table, the first in the list is ahead of the other
  not_both : (f g : ℕ) (key k : WriteKey) (i j : ℕ) → entry_in frames f ≡ Some key → entry_in frames g ≡ Some k → table_of k ≡ table_of key
      → get_or xs i 0 ≡ f → get_or xs j 0 ≡ g → i < j → j < length xs → is_first frames k ≡ true → ⊥
  not_both f g key k i j e h tables at there lt l first =
      let earlier : is_before key k ≡ true =
      sym (ap (λ o. is_earlier o (Some k)) e) ∙ sym (ap (is_earlier (entry_in frames f)) h)
      ∙ sym (ap (λ y. is_earlier (entry_in frames y) (entry_in frames g)) at) ∙ sym (ap (λ y. is_earlier (entry_in frames (get_or xs i 0)) (entry_in frames y)) there) ∙ listed.rising i j 0 lt l in
      let ahead : is_ahead k (entry_in frames f) ≡ true =
      ap (is_ahead k) e ∙ ap (λ b. b && is_before key k) (eq-eqb (table_of key) (table_of k) (sym tables)) ∙ earlier in
      true≢false (sym ahead ∙ fails_at (λ frame. is_ahead k (entry_of frame)) frames f (not_true _ first) (within_frames frames f (ap is_some e)))

  two_first : (f g : ℕ) (key k : WriteKey) → entry_in frames f ≡ Some key → entry_in frames g ≡ Some k → table_of k ≡ table_of key
      → is_first frames key ≡ true → is_first frames k ≡ true → g ≡ f
  two_first f g key k e h tables first second =
      let a = place_in f xs (listed.covers f (ap is_some e)) in
      let b = place_in g xs (listed.covers g (ap is_some h)) in
      elim (cases_eq b.0 a.0) [
        | inl is ↦ sym b.2 ∙ ap (λ n. get_or xs n 0) is ∙ a.2
        | inr ne ↦ elim (cases_lt b.0 a.0) [
          | inl lt ↦ absurd (not_both g f k key b.0 a.0 h e (sym tables) b.2 a.2 lt a.1 first)
          | inr le ↦ absurd (not_both f g key k a.0 b.0 e h tables a.2 b.2 (omega (arith, le, ne)) b.1 second)
        ]
      ]

  pub first_is : (f : ℕ) (key : WriteKey) → entry_in frames f ≡ Some key → is_first frames key ≡ true → first_of frames (table_of key) ≡ Some f
  first_is f key e first =
      position_at (λ frame. is_first_of frames (table_of key) (entry_of frame)) frames f (within_frames frames f (ap is_some e))
      (ap (is_first_of frames (table_of key)) e ∙ ap (λ b. b && is_first frames key) (eq-eqb (table_of key) (table_of key) refl) ∙ first)
      (λ g lt. fails g lt (entry_in frames g) refl)
    where
      fails : (g : ℕ) → g < f → (o : Option WriteKey) → entry_in frames g ≡ o → is_first_of frames (table_of key) (entry_in frames g) ≡ false
      fails g lt None h = ap (is_first_of frames (table_of key)) h
      fails g lt (Some k) h = by (is_first_of frames (table_of key) (entry_in frames g)) refl
        where
          by : (b : Bool) → is_first_of frames (table_of key) (entry_in frames g) ≡ b → is_first_of frames (table_of key) (entry_in frames g) ≡ false
          by false t = t
          by true t =
              let passes = and_both (nat_eq (table_of k) (table_of key)) (is_first frames k) (sym (ap (is_first_of frames (table_of key)) h) ∙ t) in
              let same : g ≡ f = two_first f g key k e h (eqb-true (table_of k) (table_of key) passes.0) first passes.1 in
              absurd (omega (arith, same, lt))

  pub first_then : (f table : ℕ) (key : WriteKey) → entry_in frames f ≡ Some key → first_of frames table ≡ Some f → is_first frames key ≡ true
  first_then f table key e h =
      let p = position-Some (λ frame. is_first_of frames table (entry_of frame)) frames f free_frame h in
      (and_both (nat_eq (table_of key) table) (is_first frames key) (sym (ap (is_first_of frames table) (sym (ap entry_of (frame_is frames f)) ∙ e)) ∙ p.1)).1

  -- what a search for the first tells of one frame
  pub told : (f first : ℕ) (key : WriteKey) → entry_in frames f ≡ Some key → first_of frames (table_of key) ≡ Some first → nat_eq first f ≡ is_first frames key
  told f first key e found = by (is_first frames key) refl
    where
      number_is : (a b : ℕ) → Some a ≡ Some b → a ≡ b
      number_is a b h = cc

      by : (b : Bool) → is_first frames key ≡ b → nat_eq first f ≡ is_first frames key
      by true h = eq-eqb first f (number_is first f (sym found ∙ first_is f key e h)) ∙ sym h
      by false h = apart (nat_eq first f) refl ∙ sym h
        where
          apart : (b : Bool) → nat_eq first f ≡ b → nat_eq first f ≡ false
          apart false t = t
          apart true t = absurd (true≢false (sym (first_then f (table_of key) key e (found ∙ ap (λ k. Some k) (eqb-true first f t))) ∙ h))

  pub told_none : (f : ℕ) (key : WriteKey) → entry_in frames f ≡ Some key → first_of frames (table_of key) ≡ None → false ≡ is_first frames key
  told_none f key e none = by (is_first frames key) refl
    where
      by : (b : Bool) → is_first frames key ≡ b → false ≡ is_first frames key
      by false h = sym h
      by true h = absurd (none-some f (sym none ∙ first_is f key e h))

  module _ (table i : ℕ) (point : IsPartitionPoint (λ g. nat_lt (table_in (entry_in frames g)) table ≡ true) (λ g. nat_lt (table_in (entry_in frames g)) table ≡ false) xs i) where
    -- a page of the table stands at the point or behind it
    from_point : (g : ℕ) (k : WriteKey) → entry_in frames g ≡ Some k → table_of k ≡ table → (j : ℕ) × (i ≤ j) × (j < length xs) × (get_or xs j 0 ≡ g)
    from_point g k h is =
        let p = place_in g xs (listed.covers g (ap is_some h)) in
        elim (cases_lt p.0 i) [
          | inl lt ↦ absurd (omega (arith, below (table_of k) table (sym (ap (λ o. nat_lt (table_in o) table) h) ∙ sym (ap (λ y. nat_lt (table_in (entry_in frames y)) table) p.2) ∙ point.0 p.0 0 (omega arith) lt), is))
          | inr le ↦ (p.0, le, p.1, p.2)
        ]
      where
        below : (a b : ℕ) → nat_lt a b ≡ true → a < b
        below a b t = grind arith

    no_first : ((g : ℕ) (k : WriteKey) → entry_in frames g ≡ Some k → table_of k ≢ table) → first_of frames table ≡ None
    no_first none = no_position (λ frame. is_first_of frames table (entry_of frame)) frames (λ g l. fails g (entry_in frames g) refl)
      where
        fails : (g : ℕ) (o : Option WriteKey) → entry_in frames g ≡ o → is_first_of frames table (entry_in frames g) ≡ false
        fails g None h = ap (is_first_of frames table) h
        fails g (Some k) h = ap (is_first_of frames table) h ∙ by (nat_eq (table_of k) table) refl
          where
            by : (b : Bool) → nat_eq (table_of k) table ≡ b → (nat_eq (table_of k) table && is_first frames k) ≡ false
            by true t = absurd (none g k h (eqb-true (table_of k) table t))
            by false t = ap (λ b. b && is_first frames k) t

    pub none_past : length xs ≤ i → first_of frames table ≡ None
    none_past le = no_first (λ g k h is. let p = from_point g k h is in omega (arith, p.1, p.2, le))

    pub none_here : i < length xs → table_in (entry_in frames (get_or xs i 0)) ≢ table → first_of frames table ≡ None
    none_here l ne = no_first (λ g k h is.
        let p = from_point g k h is in
        let least : table ≤ table_in (entry_in frames (get_or xs i 0)) = at_least (table_in (entry_in frames (get_or xs i 0))) table (point.1 i 0 (omega arith) l) in
        let own : table_in (entry_in frames (get_or xs p.0 0)) ≡ table = ap (λ y. table_in (entry_in frames y)) p.3 ∙ ap table_in h ∙ is in
        let most : table_in (entry_in frames (get_or xs i 0)) ≤ table_in (entry_in frames (get_or xs p.0 0)) = up p.0 p.1 p.2 in
        ne (omega (arith, least, most, own)))
      where
        at_least : (a b : ℕ) → nat_lt a b ≡ false → b ≤ a
        at_least a b t = grind arith

        up : (j : ℕ) → i ≤ j → j < length xs → table_in (entry_in frames (get_or xs i 0)) ≤ table_in (entry_in frames (get_or xs j 0))
        up j le m = elim (cases_eq i j) [
          | inl e ↦ subst (λ n. table_in (entry_in frames (get_or xs i 0)) ≤ table_in (entry_in frames (get_or xs n 0))) e (omega arith)
          | inr apart ↦ earlier_table (entry_in frames (get_or xs i 0)) (entry_in frames (get_or xs j 0)) (listed.rising i j 0 (omega (arith, le, apart)) m)
        ]

    pub first_here : IsStrict → (f : ℕ) → i < length xs → get_or xs i 0 ≡ f → is_some (entry_in frames f) ≡ true → table_in (entry_in frames f) ≡ table → first_of frames table ≡ Some f
    first_here s f l at some here = by (entry_in frames f) refl
      where
        self_not : (k : WriteKey) → is_before k k ≡ false
        self_not k = by (is_before k k) refl
          where
            by : (b : Bool) → is_before k k ≡ b → is_before k k ≡ false
            by true e = s k k e
            by false e = e

        by : (o : Option WriteKey) → entry_in frames f ≡ o → first_of frames table ≡ Some f
        by None e = absurd (true≢false (sym some ∙ ap is_some e))
        by (Some key) e =
            let own : table_of key ≡ table = sym (ap table_in e) ∙ here in
            ap (first_of frames) (sym own) ∙ first_is f key e (ap not (none_of (λ frame. is_ahead key (entry_of frame)) frames (λ g m. behind g (entry_in frames g) refl)))
          where
            behind : (g : ℕ) (o : Option WriteKey) → entry_in frames g ≡ o → is_ahead key (entry_in frames g) ≡ false
            behind g None h = ap (is_ahead key) h
            behind g (Some k) h = ap (is_ahead key) h ∙ by_table (nat_eq (table_of k) (table_of key)) refl
              where
                later : table_of k ≡ table → is_before k key ≡ false
                later is =
                    let p = from_point g k h is in
                    elim (cases_eq i p.0) [
                      | inl e' ↦
                          let same : Some k ≡ Some key = sym h ∙ sym (ap (entry_in frames) (sym at ∙ ap (λ n. get_or xs n 0) e' ∙ p.3)) ∙ e in
                          ap (λ x. is_before x key) (same_some k key same) ∙ self_not key
                      | inr apart ↦ s key k (sym (ap (λ o. is_earlier o (Some k)) e) ∙ sym (ap (is_earlier (entry_in frames f)) h)
                          ∙ sym (ap (λ y. is_earlier (entry_in frames y) (entry_in frames g)) at) ∙ sym (ap (λ y. is_earlier (entry_in frames (get_or xs i 0)) (entry_in frames y)) p.3)
                          ∙ listed.rising i p.0 0 (omega (arith, p.1, apart)) p.2)
                    ]

                by_table : (b : Bool) → nat_eq (table_of k) (table_of key) ≡ b → (nat_eq (table_of k) (table_of key) && is_before k key) ≡ false
                by_table false t = ap (λ b. b && is_before k key) t
                by_table true t = ap (λ b. b && is_before k key) t ∙ later (eqb-true (table_of k) (table_of key) t ∙ (sym (ap table_in e) ∙ here))
