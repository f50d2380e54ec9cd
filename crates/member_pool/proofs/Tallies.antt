-- How many changed frames there are, of all and by page set.
use Rattle.std.proofs.Common.{◌≡◌, ◌≢◌, ℕ, zero, suc, ◌+◌, ◌-◌, ◌<◌, ◌≤◌, ◌^◌, Bool, true, false, cond, true≢false, inl, inr, ◌&&◌, List, [], ◌∷◌, length, Some, None, refl, sym, ap, ◌∙◌, arith, nat_eq, slice_set}
use Rattle.std.specs.Prelude.{nat_lt, is_some, slice_index}
use Rattle.std.specs.List.{list_any}
use Rattle.std.proofs.lemmas.Bool.{cases_eq, cases_lt, eqb-true, eq-eqb}
use Rattle.std.proofs.lemmas.List.{get_or-set_same, get_or-set_other, length-set, get_or_past}
use Rattle.write_order.specs.declared.key.WriteKey.{WriteKey}
use Rattle.member_pool.specs.declared.frame.Frame.{Frame}
use Rattle.member_pool.specs.Frames.{frame_at}
use Rattle.member_pool.specs.Marks.{entry_of, is_of_set, is_page_set, has_changed_of}
use Rattle.member_pool.specs.Listed.{Entries, entry_in, with_entry, IsListed, AreMarked, tally}
use Rattle.member_pool.proofs.Listing.{entry_here, entry_else}
use Rattle.member_pool.proofs.Firsts.{fails_at}

tally_same : (p q : ℕ → Bool) (n : ℕ) → ((g : ℕ) → g < n → q g ≡ p g) → tally q n ≡ tally p n
tally_same p q zero h = refl
tally_same p q (suc n) h = let ih = tally_same p q n (λ g l. h g (omega (arith, l))) in let here = h n (omega arith) in grind (arith, ih, here)

tally_more : (p q : ℕ → Bool) (n f : ℕ) → f < n → p f ≡ false → q f ≡ true → ((g : ℕ) → g ≢ f → q g ≡ p g) → tally q n ≡ tally p n + 1
tally_more p q zero f l fails passes others = absurd (omega (arith, l))
tally_more p q (suc n) f l fails passes others =
    elim (cases_eq n f) [
      | inl e ↦
          let rest = tally_same p q n (λ g lt. others g (omega (arith, lt, e))) in
          let passes_here : q n ≡ true = ap q e ∙ passes in
          let fails_here : p n ≡ false = ap p e ∙ fails in
          grind (arith, rest, passes_here, fails_here)
      | inr ne ↦
          let ih = tally_more p q n f (omega (arith, l, ne)) fails passes others in
          let here = others n ne in
          grind (arith, ih, here)
    ]

pub tally_within : (p : ℕ → Bool) (n : ℕ) → tally p n ≤ n
tally_within p zero = omega arith
tally_within p (suc n) = let ih = tally_within p n in grind (arith, ih)

pub tally_below : (p : ℕ → Bool) (n f : ℕ) → f < n → p f ≡ false → tally p n < n
tally_below p zero f l fails = absurd (omega (arith, l))
tally_below p (suc n) f l fails =
    elim (cases_eq n f) [
      | inl e ↦ let fails_here : p n ≡ false = ap p e ∙ fails in let w = tally_within p n in grind (arith, fails_here, w)
      | inr ne ↦ let ih = tally_below p n f (omega (arith, l, ne)) fails in grind (arith, ih)
    ]

tally_none : (p : ℕ → Bool) (n : ℕ) → ((g : ℕ) → g < n → p g ≡ false) → tally p n ≡ 0
tally_none p zero h = refl
tally_none p (suc n) h = let ih = tally_none p n (λ g l. h g (omega (arith, l))) in let here = h n (omega arith) in grind (arith, ih, here)

tally_some : (p : ℕ → Bool) (n f : ℕ) → f < n → p f ≡ true → 0 < tally p n
tally_some p zero f l passes = absurd (omega (arith, l))
tally_some p (suc n) f l passes =
    elim (cases_eq n f) [
      | inl e ↦ let passes_here : p n ≡ true = ap p e ∙ passes in grind (arith, passes_here)
      | inr ne ↦ let ih = tally_some p n f (omega (arith, l, ne)) passes in grind (arith, ih)
    ]

found_of : (q : Frame → Bool) (frames : List Frame) → list_any q frames ≡ true → (g : ℕ) × (g < length frames) × (q (frame_at frames g) ≡ true)
found_of q [] h = absurd (true≢false (sym h))
found_of q (x ∷ frames) h = by (q x) refl (found_of q frames)
  where
    by : (b : Bool) → q x ≡ b → (list_any q frames ≡ true → (g : ℕ) × (g < length frames) × (q (frame_at frames g) ≡ true)) → (g : ℕ) × (g < length (x ∷ frames)) × (q (frame_at (x ∷ frames) g) ≡ true)
    by true e rest = (zero, omega arith, e)
    by false e rest = let r = rest (grind arith) in (suc r.0, omega (arith, r.1), r.2)

any_counted : (q : Frame → Bool) (frames : List Frame) → list_any q frames ≡ nat_lt 0 (tally (λ f. q (frame_at frames f)) (length frames))
any_counted q frames = by (list_any q frames) refl
  where
    by : (b : Bool) → list_any q frames ≡ b → list_any q frames ≡ nat_lt 0 (tally (λ f. q (frame_at frames f)) (length frames))
    by true e =
        let r = found_of q frames e in
        let some = tally_some (λ f. q (frame_at frames f)) (length frames) r.0 r.1 r.2 in
        let passes : nat_lt 0 (tally (λ f. q (frame_at frames f)) (length frames)) ≡ true = grind (arith, some) in
        e ∙ sym passes
    by false e = e ∙ sym (ap (nat_lt 0) (tally_none (λ f. q (frame_at frames f)) (length frames) (λ g l. fails_at q frames g e l)))

own_set : (key : WriteKey) → is_of_set key.page.set (Some key) ≡ true
own_set key = eq-eqb key.page.set key.page.set refl

module _ (entries : Entries) (n : ℕ) (listed counts : List ℕ) (marked : AreMarked entries n listed counts) where
  pub has_is : (frames : List Frame) → entries ≡ entry_in frames → n ≡ length frames → (set : ℕ) → (is_page_set set && nat_lt 0 (slice_index counts set)) ≡ has_changed_of frames set
  has_is frames same long set = by (is_page_set set) refl
    where
      by : (b : Bool) → is_page_set set ≡ b → (is_page_set set && nat_lt 0 (slice_index counts set)) ≡ has_changed_of frames set
      by false e = ap (λ b. b && nat_lt 0 (slice_index counts set)) e ∙ sym (ap (λ b. b && list_any (λ frame. is_of_set set (entry_of frame)) frames) e)
      by true e =
          let few : set < 129 = grind arith in
          ap (λ k. is_page_set set && nat_lt 0 k) (marked.counted set few ∙ (λ i. tally (λ f. is_of_set set (same i f)) (long i)))
          ∙ ap (λ b. is_page_set set && b) (sym (any_counted (λ frame. is_of_set set (entry_of frame)) frames))

  module _ (f : ℕ) (l : f < n) (key : WriteKey) where
    pub room_to_add : entries f ≡ None → n < 2 ^ 16 → slice_index counts key.page.set < 2 ^ 16 - 1
    room_to_add none small =
        elim (cases_lt key.page.set 129) [
          | inl h ↦
              let few = tally_below (λ g. is_of_set key.page.set (entries g)) n f l (ap (is_of_set key.page.set) none) in
              let is = marked.counted key.page.set h in
              omega (arith, few, is, small)
          | inr h ↦ let is : slice_index counts key.page.set ≡ 0 = get_or_past counts key.page.set 0 (omega (arith, h, marked.all)) in omega (arith, is)
        ]

    pub marked_more : entries f ≡ None → (listed' counts' : List ℕ) → IsListed (with_entry entries f (Some key)) listed' → length listed' ≡ length listed + 1
        → counts' ≡ slice_set counts key.page.set (slice_index counts key.page.set + 1) → AreMarked (with_entry entries f (Some key)) n listed' counts'
    marked_more none listed' counts' in_order longer is = record {
      in_order = in_order;
      long = longer ∙ ap (λ k. k + 1) marked.long ∙ sym (tally_more (λ g. is_some (entries g)) (λ g. is_some (with_entry entries f (Some key) g)) n f l (ap is_some none) (ap is_some (entry_here entries f (Some key)))
          (λ g ne. ap is_some (entry_else entries f g (Some key) (ne_test g ne))));
      all = ap length is ∙ length-set counts key.page.set (slice_index counts key.page.set + 1) ∙ marked.all;
      counted = λ s few. ap (λ c. slice_index c s) is ∙ by_set s few (nat_eq key.page.set s) refl;
    }
      where
        ne_test : (g : ℕ) → g ≢ f → nat_eq g f ≡ false
        ne_test g ne = by (nat_eq g f) refl
          where
            by : (b : Bool) → nat_eq g f ≡ b → nat_eq g f ≡ false
            by true e = absurd (ne (eqb-true g f e))
            by false e = e

        by_set : (s : ℕ) → s < 129 → (b : Bool) → nat_eq key.page.set s ≡ b
            → slice_index (slice_set counts key.page.set (slice_index counts key.page.set + 1)) s ≡ tally (λ g. is_of_set s (with_entry entries f (Some key) g)) n
        by_set s few true e =
            let same : key.page.set ≡ s = eqb-true key.page.set s e in
            let within : s < length counts = omega (arith, few, marked.all) in
            ap (λ k. slice_index (slice_set counts k (slice_index counts k + 1)) s) same
            ∙ get_or-set_same counts s (slice_index counts s + 1) 0 within
            ∙ ap (λ k. k + 1) (marked.counted s few)
            ∙ sym (tally_more (λ g. is_of_set s (entries g)) (λ g. is_of_set s (with_entry entries f (Some key) g)) n f l (ap (is_of_set s) none)
            (ap (is_of_set s) (entry_here entries f (Some key)) ∙ e) (λ g ne. ap (is_of_set s) (entry_else entries f g (Some key) (ne_test g ne))))
        by_set s few false e =
            get_or-set_other counts key.page.set s (slice_index counts key.page.set + 1) 0 (λ same. true≢false (sym (eq-eqb key.page.set s (sym same)) ∙ e))
            ∙ marked.counted s few
            ∙ sym (tally_same (λ g. is_of_set s (entries g)) (λ g. is_of_set s (with_entry entries f (Some key) g)) n (λ g lt. still g (nat_eq g f) refl))
          where
            still : (g : ℕ) (b : Bool) → nat_eq g f ≡ b → is_of_set s (with_entry entries f (Some key) g) ≡ is_of_set s (entries g)
            still g true t =
                ap (λ b. is_of_set s (cond b (Some key) (entries g))) t ∙ e
                ∙ sym (ap (λ y. is_of_set s (entries y)) (eqb-true g f t) ∙ ap (is_of_set s) none)
            still g false t = ap (is_of_set s) (entry_else entries f g (Some key) t)

    pub marked_less : entries f ≡ Some key → (listed' counts' : List ℕ) → IsListed (with_entry entries f None) listed' → length listed' + 1 ≡ length listed
        → counts' ≡ slice_set counts key.page.set (slice_index counts key.page.set - 1) → AreMarked (with_entry entries f None) n listed' counts'
    marked_less here listed' counts' in_order shorter is = record {
      in_order = in_order;
      long =
          let more = tally_more (λ g. is_some (with_entry entries f None g)) (λ g. is_some (entries g)) n f l (ap is_some (entry_here entries f None)) (ap is_some here)
          (λ g ne. sym (ap is_some (entry_else entries f g None (ne_test g ne)))) in
          omega (arith, more, shorter, marked.long);
      all = ap length is ∙ length-set counts key.page.set (slice_index counts key.page.set - 1) ∙ marked.all;
      counted = λ s few. ap (λ c. slice_index c s) is ∙ by_set s few (nat_eq key.page.set s) refl;
    }
      where
        ne_test : (g : ℕ) → g ≢ f → nat_eq g f ≡ false
        ne_test g ne = by (nat_eq g f) refl
          where
            by : (b : Bool) → nat_eq g f ≡ b → nat_eq g f ≡ false
            by true e = absurd (ne (eqb-true g f e))
            by false e = e

        by_set : (s : ℕ) → s < 129 → (b : Bool) → nat_eq key.page.set s ≡ b
            → slice_index (slice_set counts key.page.set (slice_index counts key.page.set - 1)) s ≡ tally (λ g. is_of_set s (with_entry entries f None g)) n
        by_set s few true e =
            let same : key.page.set ≡ s = eqb-true key.page.set s e in
            let within : s < length counts = omega (arith, few, marked.all) in
            let more = tally_more (λ g. is_of_set s (with_entry entries f None g)) (λ g. is_of_set s (entries g)) n f l (ap (is_of_set s) (entry_here entries f None)) (ap (is_of_set s) here ∙ e)
            (λ g ne. sym (ap (is_of_set s) (entry_else entries f g None (ne_test g ne)))) in
            let was = marked.counted s few in
            ap (λ k. slice_index (slice_set counts k (slice_index counts k - 1)) s) same
            ∙ get_or-set_same counts s (slice_index counts s - 1) 0 within
            ∙ (omega (arith, more, was))
        by_set s few false e =
            get_or-set_other counts key.page.set s (slice_index counts key.page.set - 1) 0 (λ same. true≢false (sym (eq-eqb key.page.set s (sym same)) ∙ e))
            ∙ marked.counted s few
            ∙ sym (tally_same (λ g. is_of_set s (entries g)) (λ g. is_of_set s (with_entry entries f None g)) n (λ g lt. still g (nat_eq g f) refl))
          where
            still : (g : ℕ) (b : Bool) → nat_eq g f ≡ b → is_of_set s (with_entry entries f None g) ≡ is_of_set s (entries g)
            still g true t =
                ap (λ b. is_of_set s (cond b None (entries g))) t
                ∙ sym (ap (λ y. is_of_set s (entries y)) (eqb-true g f t) ∙ ap (is_of_set s) here ∙ e)
            still g false t = ap (is_of_set s) (entry_else entries f g None t)

pub none_marked : (n : ℕ) (entries : Entries) (counts : List ℕ) → ((f : ℕ) → entries f ≡ None) → length counts ≡ 129 → ((s : ℕ) → slice_index counts s ≡ 0) → AreMarked entries n [] counts
none_marked n entries counts none all zeros = record {
  in_order = record {
    changed = refl;
    covers = λ f h. absurd (true≢false (sym h ∙ ap is_some (none f)));
    rising = λ a b d lt l. absurd (omega (arith, l));
  };
  long = sym (tally_none (λ g. is_some (entries g)) n (λ g l. ap is_some (none g)));
  all = all;
  counted = λ s few. zeros s ∙ sym (tally_none (λ g. is_of_set s (entries g)) n (λ g l. ap (is_of_set s) (none g)));
}
