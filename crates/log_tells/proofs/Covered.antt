-- What a page on disk has already, through moves.
use Rattle.std.proofs.Common.{◌≡◌, ℕ, ◌+◌, ◌-◌, ◌<◌, ◌≤◌, Bool, true, false, cond, List, [], ◌∷◌, refl, sym, ap, ◌∙◌, subst, arith, inl, inr}
use Rattle.std.specs.Prelude.{◌==◌}
use Rattle.std.proofs.lemmas.Bool.{cases_Bool, cases_eq, cases_lt}
use Rattle.ds_base.specs.declared.names.PageId.{PageId}
use Rattle.page_protocol.specs.Page.{Page, Group, put, change, compensate, owned_whole, given_up, lose, fail, all_fail, brought_forward, risen}
use Rattle.page_protocol.specs.Moves.{World, Move, At, Draw, Force, TakeSet, YieldSet, PurgeSet, Lose, ReadLog, Rebuilt, Fail, Restart, Open, GroupFail, Forward, Compensate, Append, Rise as RiseUp, Step, drawn, forced, failed, without_cache, log_read, with_cache, restarting, opened, all_failed, longer, all_up}
use Rattle.page_protocol.specs.Always.{Good}
use Rattle.page_protocol.specs.Words.{NeverGoesBack}
use Rattle.log_tells.specs.Told.{Told, IsTold}
use Rattle.log_tells.specs.Leads.{CoveredStays, ReadStays}
use Rattle.log_tells.proofs.Chains.{SameAt}
use Rattle.log_tells.proofs.Moving.{Cuts, Draws, Same, appends_in, coherent, compensates_in, draws_in, fails_in, forced_of, group_fails_in, itself, put_here, put_there, same_page, same_put, same_when}

-- changes that are there still, those that are new, and those that can't go; and logs on disk are no shorter
record GoesOn (w v : World) : Type 0 where
  old : (n j : ℕ) → j < (v.pages n).last → j < (w.pages n).last → SameAt (w.pages n) (v.pages n) j
  new : (n j : ℕ) → j < (v.pages n).last → (w.pages n).last ≤ j → w.group.stable ((v.pages n).author j) ≤ (v.pages n).place j
  keeps : (n j : ℕ) → j < (w.pages n).last → (w.pages n).place j < w.group.stable ((w.pages n).author j) → j < (v.pages n).last
  stable : (m : ℕ) → w.group.stable m ≤ v.group.stable m

none : (a b j : ℕ) → a ≡ b → j < a → b ≤ j → ⊥
none a b j e lt le = omega (arith, e, lt, le)

by_same : (w v : World) → ((n : ℕ) → Same (w.pages n) (v.pages n)) → ((m : ℕ) → w.group.stable m ≤ v.group.stable m) → GoesOn w v
by_same w v s h = record {
  old = λ n j lt was. (s n).each j;
  new = λ n j lt le. absurd (none (v.pages n).last (w.pages n).last j (s n).last lt le);
  keeps = λ n j lt on. subst (λ x. j < x) (sym (s n).last) lt;
  stable = h;
}

by_draw : (w v : World) (e : Move) (m at : ℕ) (changed : ℕ → Bool) → Draws w v e m at changed → w.group.stable m ≤ at → ((k : ℕ) → w.group.stable k ≤ v.group.stable k) → GoesOn w v
by_draw w v e m at changed d le h = record {
  old = λ n j lt was. elim (cases_Bool (changed n)) [ inl is ↦ (d.more n is).old j was | inr not ↦ (d.same n not).each j ];
  new = λ n j lt ge. elim (cases_Bool (changed n)) [ inl is ↦ behind n j is (same n j is lt ge) | inr not ↦ absurd (none (v.pages n).last (w.pages n).last j (d.same n not).last lt ge) ];
  keeps = λ n j lt on. elim (cases_Bool (changed n)) [ inl is ↦ longer_by n j is lt | inr not ↦ subst (λ x. j < x) (sym (d.same n not).last) lt ];
  stable = h;
}
  where
    same : (n j : ℕ) → changed n ≡ true → j < (v.pages n).last → (w.pages n).last ≤ j → j ≡ (w.pages n).last
    same n j is lt ge = let e = (d.more n is).last in omega (arith, e, lt, ge)

    longer_by : (n j : ℕ) → changed n ≡ true → j < (w.pages n).last → j < (v.pages n).last
    longer_by n j is lt = let e = (d.more n is).last in omega (arith, e, lt)

    behind : (n j : ℕ) → changed n ≡ true → j ≡ (w.pages n).last → w.group.stable ((v.pages n).author j) ≤ (v.pages n).place j
    behind n j is e = subst (λ x. w.group.stable ((v.pages n).author x) ≤ (v.pages n).place x) (sym e)
        (subst (λ x. w.group.stable x ≤ (v.pages n).place (w.pages n).last) (sym (d.more n is).author) (subst (λ x. w.group.stable m ≤ x) (sym (d.more n is).place) le))

by_cut : (w v : World) (lengths : ℕ → ℕ) → Cuts w v lengths → ((k : ℕ) → w.group.stable k ≤ lengths k) → ((k : ℕ) → w.group.stable k ≤ v.group.stable k) → GoesOn w v
by_cut w v lengths c le h = record {
  old = λ n j lt was. c.same n j;
  new = λ n j lt ge. absurd (shorter n j lt ge);
  keeps = λ n j lt on. elim (cases_lt j (v.pages n).last) [ inl x ↦ x | inr ge ↦ absurd (cut n j lt on ge) ];
  stable = h;
}
  where
    shorter : (n j : ℕ) → j < (v.pages n).last → (w.pages n).last ≤ j → ⊥
    shorter n j lt ge = let s = c.short n in omega (arith, lt, ge, s)

    cut : (n j : ℕ) → j < (w.pages n).last → (w.pages n).place j < w.group.stable ((w.pages n).author j) → (v.pages n).last ≤ j → ⊥
    cut n j lt on ge = let low = c.gone n j ge lt in let up = le ((w.pages n).author j) in omega (arith, on, low, up)

as_it_was : (stable : ℕ → ℕ) (m : ℕ) → stable m ≤ stable m
as_it_was stable m = omega arith

higher : (stable : ℕ → ℕ) (m k : ℕ) → stable m ≤ k → (j : ℕ) → stable j ≤ put stable m k j
higher stable m k le j = elim (cases_eq j m) [
  | inl e ↦ subst (λ x. stable x ≤ put stable m k x) (sym e) (subst (λ x. stable m ≤ x) (sym (put_here stable m k)) le)
  | inr ne ↦ subst (λ x. stable j ≤ x) (sym (put_there stable m j k ne)) (omega arith)
]

-- a failure cuts no log before its end on disk
cut_to : (w : World) → Good w → (m k : ℕ) → w.group.stable k ≤ (failed w.group m).written k
cut_to w good m k = elim (cases_eq k m) [
  | inl e ↦ subst (λ x. w.group.stable x ≤ put w.group.written m (w.group.stable m) x) (sym e) (subst (λ x. w.group.stable m ≤ x) (sym (put_here w.group.written m (w.group.stable m))) (omega arith))
  | inr ne ↦ subst (λ x. w.group.stable k ≤ x) (sym (put_there w.group.written m k (w.group.stable m) ne)) (forced_of w good k)
]

goes : (name : ℕ → PageId) (set : ℕ → ℕ) (w v : World) (content : ℕ → ℕ → List ℕ) (told : List Told) (e : Move) → Good w → IsTold name w content told → Step set w e v → GoesOn w v
goes name set w v content told (At n e) good t st = subst (GoesOn w) (sym st.1.2)
    (by_same w (record { down = false; group = w.group; pages = put w.pages n st.1.0 }) (same_put w.pages n st.1.0 (same_page w.group (w.pages n) st.1.0 e st.1.1)) (as_it_was w.group.stable))
goes name set w v content told (Draw m touched) good t st = subst (GoesOn w) (sym st.2)
    (by_draw w (record { down = false; group = drawn w.group m; pages = λ n. cond (touched n) (change (w.pages n) m (w.group.written m) (w.group.counter + 1)) (w.pages n) }) (Draw m touched) m (w.group.written m) touched
    (draws_in w m touched) (forced_of w good m) (as_it_was w.group.stable))
goes name set w v content told (Force m k) good t st = subst (GoesOn w) (sym st.3)
    (by_same w (record { down = false; group = forced w.group m k; pages = w.pages }) (λ n. itself (w.pages n)) (higher w.group.stable m k st.1))
goes name set w v content told (TakeSet s m) good t st = subst (GoesOn w) (sym st.3)
    (by_same w (record { down = false; group = w.group; pages = λ n. cond (set n == s) (owned_whole (w.pages n) m) (w.pages n) })
    (λ n. same_when (set n == s) (w.pages n) (owned_whole (w.pages n) m) (record { last = refl; each = λ j. record { author = refl; place = refl; lrsn = refl } })) (as_it_was w.group.stable))
goes name set w v content told (YieldSet s m) good t st = subst (GoesOn w) (sym st.2)
    (by_same w (record { down = false; group = w.group; pages = λ n. cond (set n == s) (given_up (w.pages n)) (w.pages n) })
    (λ n. same_when (set n == s) (w.pages n) (given_up (w.pages n)) (record { last = refl; each = λ j. record { author = refl; place = refl; lrsn = refl } })) (as_it_was w.group.stable))
goes name set w v content told (PurgeSet s m) good t st = subst (GoesOn w) (sym st.2)
    (by_same w (record { down = false; group = w.group; pages = λ n. cond (set n == s) (given_up (w.pages n)) (w.pages n) })
    (λ n. same_when (set n == s) (w.pages n) (given_up (w.pages n)) (record { last = refl; each = λ j. record { author = refl; place = refl; lrsn = refl } })) (as_it_was w.group.stable))
goes name set w v content told Lose good t st = subst (GoesOn w) (sym st.2)
    (by_same w (record { down = false; group = without_cache w.group; pages = λ n. lose (w.pages n) }) (λ n. record { last = refl; each = λ j. record { author = refl; place = refl; lrsn = refl } }) (as_it_was w.group.stable))
goes name set w v content told (ReadLog m) good t st = subst (GoesOn w) (sym st.2) (by_same w (record { down = false; group = log_read w.group m; pages = w.pages }) (λ n. itself (w.pages n)) (as_it_was w.group.stable))
goes name set w v content told Rebuilt good t st = subst (GoesOn w) (sym st.3) (by_same w (record { down = false; group = with_cache w.group; pages = w.pages }) (λ n. itself (w.pages n)) (as_it_was w.group.stable))
goes name set w v content told (Fail m cut) good t st = subst (GoesOn w) (sym st.2)
    (by_cut w (record { down = false; group = failed w.group m; pages = λ n. fail (w.pages n) m (cut n) }) (failed w.group m).written (fails_in w m cut good st.0 st.1) (cut_to w good m) (as_it_was w.group.stable))
goes name set w v content told (Restart m) good t st = subst (GoesOn w) (sym st.2) (by_same w (record { down = false; group = restarting w.group m; pages = w.pages }) (λ n. itself (w.pages n)) (as_it_was w.group.stable))
goes name set w v content told (Open m) good t st = subst (GoesOn w) (sym st.3) (by_same w (record { down = false; group = opened w.group m; pages = w.pages }) (λ n. itself (w.pages n)) (as_it_was w.group.stable))
goes name set w v content told (GroupFail cut counter) good t st = subst (GoesOn w) (sym st.2)
    (by_cut w (record { down = true; group = all_failed w.group counter; pages = λ n. all_fail (w.pages n) (cut n) }) w.group.stable (group_fails_in w cut counter good st.0) (as_it_was w.group.stable) (as_it_was w.group.stable))
goes name set w v content told (Forward n k) good t st = subst (GoesOn w) (sym st.3)
    (by_same w (record { down = true; group = w.group; pages = put w.pages n (brought_forward (w.pages n) k) })
    (same_put w.pages n (brought_forward (w.pages n) k) (record { last = refl; each = λ j. record { author = refl; place = refl; lrsn = refl } })) (as_it_was w.group.stable))
goes name set w v content told (Compensate n m) good t st = subst (GoesOn w) (sym st.1)
    (by_draw w (record { down = true; group = longer w.group m; pages = put w.pages n (compensate (w.pages n) m (w.group.stable m) (w.group.counter + 1)) }) (Compensate n m) m (w.group.stable m) (λ k. k == n)
    (compensates_in w n m (λ k. t.level k st.0)) (omega arith) (higher w.group.stable m (w.group.stable m + 1) (omega arith)))
goes name set w v content told (Append m) good t st = subst (GoesOn w) (sym st.1)
    (by_draw w (record { down = true; group = longer w.group m; pages = w.pages }) (Append m) m (w.group.stable m) (λ k. false)
    (appends_in w m (λ k. t.level k st.0)) (omega arith) (higher w.group.stable m (w.group.stable m + 1) (omega arith)))
goes name set w v content told RiseUp good t st = subst (GoesOn w) (sym st.2)
    (by_same w (record { down = false; group = all_up w.group; pages = λ n. risen (w.pages n) }) (λ n. record { last = refl; each = λ j. record { author = refl; place = refl; lrsn = refl } }) (as_it_was w.group.stable))

pub covered : NeverGoesBack → CoveredStays
covered back name set w v content told e from good t st on_disk = record {
  stable = λ m. let low = on_disk m in let up = on.stable m in omega (arith, low, up);
  each = λ n h i low lt. elim (cases_lt i (w.pages n).last) [
    | inl was ↦ let s = on.old n i lt was in subst (λ x. from x ≤ (v.pages n).place i) (sym s.author) (subst (λ x. from ((w.pages n).author i) ≤ x) (sym s.place) (h i (later n i low) was))
    | inr ge ↦ let le = on_disk ((v.pages n).author i) in let new = on.new n i lt ge in omega (arith, le, new)
  ];
}
  where
    on : GoesOn w v
    on = goes name set w v content told e good t st

    later : (n i : ℕ) → (v.pages n).disk ≤ i → (w.pages n).disk ≤ i
    later n i low = let d = (back set (e ∷ []) w v good (v, st, refl) n).disk in omega (arith, d, low)

pub read_stays : ReadStays
read_stays name set w v content told e n k good t st up lost same has = record {
  short = elim (cases_lt 0 k) [ inl some ↦ whole some | inr zero ↦ omega (arith, zero) ];
  has = λ i lt. let s = on.old n i (still i lt) (there i lt) in
      subst (λ x. (v.pages n).place i < v.group.read x) (sym s.author)
      (subst (λ x. (v.pages n).place i < x) (sym (same ((w.pages n).author i))) (subst (λ x. x < w.group.read ((w.pages n).author i)) (sym s.place) (has.has i lt)));
  no_more = λ i low lt. subst (λ x. x ≤ (v.pages n).place i) (sym (same ((v.pages n).author i))) (elim (cases_lt i (w.pages n).last) [
    | inl was ↦ let s = on.old n i lt was in subst (λ x. w.group.read x ≤ (v.pages n).place i) (sym s.author) (subst (λ x. w.group.read ((w.pages n).author i) ≤ x) (sym s.place) (has.no_more i low was))
    | inr ge ↦ let le = (coherent w good up n).read_stable ((v.pages n).author i) lost in let new = on.new n i lt ge in omega (arith, le, new)
  ]);
}
  where
    on : GoesOn w v
    on = goes name set w v content told e good t st

    there : (i : ℕ) → i < k → i < (w.pages n).last
    there i lt = let s = has.short in omega (arith, lt, s)

    on_disk : (i : ℕ) → i < k → (w.pages n).place i < w.group.stable ((w.pages n).author i)
    on_disk i lt = let r = has.has i lt in let le = (coherent w good up n).read_stable ((w.pages n).author i) lost in omega (arith, r, le)

    still : (i : ℕ) → i < k → i < (v.pages n).last
    still i lt = on.keeps n i (there i lt) (on_disk i lt)

    last_one : (a : ℕ) → 0 < k → a + 1 ≡ k → a < k
    last_one a some e = omega (arith, some, e)

    whole : 0 < k → k ≤ (v.pages n).last
    whole some = let e : (k - 1) + 1 ≡ k = omega (arith, some) in let lt = still (k - 1) (last_one (k - 1) some e) in omega (arith, lt, e, some)
