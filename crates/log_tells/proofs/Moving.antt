-- What was drawn, through each move of the world of pages.
use Rattle.std.proofs.Common.{◌≡◌, ℕ, ◌+◌, ◌<◌, ◌≤◌, Bool, true, false, cond, List, [], ◌∷◌, ◌++◌, length, take, refl, sym, ap, ◌∙◌, subst, arith, inl, inr}
use Rattle.std.specs.Prelude.{filter, ◌==◌, nat_lt}
use Rattle.std.specs.List.{AllByRecursion}
use Rattle.std.proofs.lemmas.Bool.{cases_Bool, cases_eq, cases_lt, cond-true, cond-false, eqb-true, eq-eqb, ne_eqb, lt-ltb, le-ltb, false≢true}
use Rattle.std.proofs.lemmas.List.{append-nil, length-take-le}
use Rattle.std.proofs.lemmas.List.Elements.{filter-append}
use Rattle.ds_base.specs.declared.names.PageId.{PageId}
use Rattle.ds_model.specs.declared.log.LogRecord.{LogRecord}
use Rattle.page_chain.specs.Chains.{touches, after_record}
use Rattle.page_protocol.specs.Page.{Page, Group, put, change, compensate, owned_whole, given_up, lose, fail, all_fail, brought_forward, risen}
use Rattle.page_protocol.specs.Moves.{World, PageMove, Move, Read, ReadDisk, Write, WriteDirect, CastoutRead, CastoutWrite, CastoutDone, Reclaim, DropFrame, Lock, Unlock, Redo, PutAside, Purge, Rebuild, At, Draw, Force, TakeSet, YieldSet, PurgeSet, Lose, ReadLog, Rebuilt, Fail, Restart, Open, GroupFail, Forward, Compensate, Append, Rise as RiseUp, PageStep, Step, IsCut, IsWholeCut, drawn, forced, failed, without_cache, log_read, with_cache, restarting, opened, all_failed, longer, all_up}
use Rattle.page_protocol.specs.Coherent.{Coherent}
use Rattle.page_protocol.specs.Always.{Good, Stands}
use Rattle.log_tells.specs.Told.{Told, IsDrawn, IsTold, is_of, chain_of, version_at, Fill, Rise, AreChanges}
use Rattle.log_tells.specs.Keeps.{told_at, told_after, is_within, IsNext, Fits, GoesOn, StaysTold, StartsTold}
use Rattle.log_tells.proofs.Lists.{filter-swap, all_filter, all_more, all_weaker, all_both}
use Rattle.log_tells.proofs.Places.{fill_more, fill_cut, of_within}
use Rattle.log_tells.proofs.Chains.{SameAt, OneMore, chain_length, changes_take, changes_same, changes_more, changes_front, rise_filter, rise_more, chain_more, chain_other, version_last, version_old, version_stays}

-- ---- the same changes

pub record Same (p q : Page) : Type 0 where
  pub last : q.last ≡ p.last
  pub each : (j : ℕ) → SameAt p q j

pub itself : (p : Page) → Same p p
itself p = record { last = refl; each = λ j. record { author = refl; place = refl; lrsn = refl } }

pub same_page : (g : Group) (p q : Page) (e : PageMove) → PageStep g p e q → Same p q
same_page g p q (Read m d) st = subst (Same p) (sym st.4) (record { last = refl; each = λ j. record { author = refl; place = refl; lrsn = refl } })
same_page g p q (ReadDisk m) st = subst (Same p) (sym st.3) (record { last = refl; each = λ j. record { author = refl; place = refl; lrsn = refl } })
same_page g p q (Write m) st = subst (Same p) (sym st.4) (record { last = refl; each = λ j. record { author = refl; place = refl; lrsn = refl } })
same_page g p q (WriteDirect m) st = subst (Same p) (sym st.4) (record { last = refl; each = λ j. record { author = refl; place = refl; lrsn = refl } })
same_page g p q (CastoutRead m v) st = subst (Same p) (sym st.4) (record { last = refl; each = λ j. record { author = refl; place = refl; lrsn = refl } })
same_page g p q (CastoutWrite m) st = subst (Same p) (sym st.1) (record { last = refl; each = λ j. record { author = refl; place = refl; lrsn = refl } })
same_page g p q (CastoutDone m) st = subst (Same p) (sym st.2) (record { last = refl; each = λ j. record { author = refl; place = refl; lrsn = refl } })
same_page g p q Reclaim st = subst (Same p) (sym st.2) (record { last = refl; each = λ j. record { author = refl; place = refl; lrsn = refl } })
same_page g p q (DropFrame m) st = subst (Same p) (sym st.1) (record { last = refl; each = λ j. record { author = refl; place = refl; lrsn = refl } })
same_page g p q (Lock m) st = subst (Same p) (sym st.2) (record { last = refl; each = λ j. record { author = refl; place = refl; lrsn = refl } })
same_page g p q (Unlock m) st = subst (Same p) (sym st.4) (record { last = refl; each = λ j. record { author = refl; place = refl; lrsn = refl } })
same_page g p q (Redo m) st = subst (Same p) (sym st.4) (record { last = refl; each = λ j. record { author = refl; place = refl; lrsn = refl } })
same_page g p q (PutAside m) st = subst (Same p) (sym st.3) (record { last = refl; each = λ j. record { author = refl; place = refl; lrsn = refl } })
same_page g p q (Purge m) st = subst (Same p) (sym st.5) (record { last = refl; each = λ j. record { author = refl; place = refl; lrsn = refl } })
same_page g p q (Rebuild n) st = subst (Same p) (sym st.2) (record { last = refl; each = λ j. record { author = refl; place = refl; lrsn = refl } })

pub same_when : (b : Bool) (p q : Page) → Same p q → Same p (cond b q p)
same_when true p q s = s
same_when false p q s = itself p

-- one page of all, and the pages that a test names
pub same_put : (pages : ℕ → Page) (n : ℕ) (q : Page) → Same (pages n) q → (k : ℕ) → Same (pages k) (put pages n q k)
same_put pages n q s k = elim (cases_eq k n) [
  | inl e ↦ subst (λ p. Same p (put pages n q k)) (ap pages (sym e)) (subst (Same (pages n)) (sym (cond-true (k == n) q (pages k) (eq-eqb k n e))) s)
  | inr ne ↦ subst (Same (pages k)) (sym (cond-false (k == n) q (pages k) (ne_eqb k n ne))) (itself (pages k))
]

pub same_told : (name : ℕ → PageId) (w v : World) (content after : ℕ → ℕ → List ℕ) (told : List Told)
    → IsTold name w content told → ((n : ℕ) → Same (w.pages n) (v.pages n)) → v.group.counter ≡ w.group.counter → ((m : ℕ) → v.group.written m ≡ w.group.written m) → ((m : ℕ) → v.down ≡ true → v.group.written m ≡ v.group.stable m)
    → ((n i : ℕ) → i ≤ (w.pages n).last → after n i ≡ content n i) → IsTold name v after told
same_told name w v content after told t same counter written level kept = record {
  each = subst (λ c. AllByRecursion (IsDrawn c) told) (sym counter) t.each;
  rise = t.rise;
  logs = λ m. subst (λ k. Fill 0 k (filter (is_of m) told)) (sym (written m)) (t.logs m);
  chains = λ n. changes_same (w.pages n) (v.pages n) 0 (chain_of (name n) told) (t.chains n) (same n).last (same n).each;
  versions = λ n i le. let low : i ≤ (w.pages n).last = subst (λ k. i ≤ k) (same n).last le in kept n i low ∙ t.versions n i low;
  level = level;
}

-- ---- one record more

pub record More (p q : Page) (m at number : ℕ) : Type 0 where
  pub last : q.last ≡ p.last + 1
  pub old : (j : ℕ) → j < p.last → SameAt p q j
  pub author : q.author p.last ≡ m
  pub place : q.place p.last ≡ at
  pub lrsn : q.lrsn p.last ≡ number

pub put_here : {A : Type 0} (f : ℕ → A) (k : ℕ) (x : A) → put f k x k ≡ x
put_here f k x = cond-true (k == k) x (f k) (eq-eqb k k refl)

pub put_there : {A : Type 0} (f : ℕ → A) (k j : ℕ) (x : A) → (j ≡ k → ⊥) → put f k x j ≡ f j
put_there f k j x ne = cond-false (j == k) x (f j) (ne_eqb j k ne)

apart : (j k : ℕ) → j < k → j ≡ k → ⊥
apart j k lt e = omega (arith, lt, e)

pub more_change : (p : Page) (m at number : ℕ) → More p (change p m at number) m at number
more_change p m at number = record {
  last = refl;
  old = λ j lt. record { author = put_there p.author p.last j m (apart j p.last lt); place = put_there p.place p.last j at (apart j p.last lt); lrsn = put_there p.lrsn p.last j number (apart j p.last lt) };
  author = put_here p.author p.last m;
  place = put_here p.place p.last at;
  lrsn = put_here p.lrsn p.last number;
}

pub more_compensate : (p : Page) (m at number : ℕ) → More p (compensate p m at number) m at number
more_compensate p m at number = record {
  last = refl;
  old = λ j lt. record { author = put_there p.author p.last j m (apart j p.last lt); place = put_there p.place p.last j at (apart j p.last lt); lrsn = put_there p.lrsn p.last j number (apart j p.last lt) };
  author = put_here p.author p.last m;
  place = put_here p.place p.last at;
  lrsn = put_here p.lrsn p.last number;
}

-- what a record that draws a number leaves of the world
pub record Draws (w v : World) (e : Move) (m at : ℕ) (changed : ℕ → Bool) : Type 0 where
  pub counter : v.group.counter ≡ w.group.counter + 1
  pub place : at ≡ w.group.written m
  pub own : v.group.written m ≡ at + 1
  pub others : (k : ℕ) → (k ≡ m → ⊥) → v.group.written k ≡ w.group.written k
  pub more : (n : ℕ) → changed n ≡ true → More (w.pages n) (v.pages n) m at (w.group.counter + 1)
  pub same : (n : ℕ) → changed n ≡ false → Same (w.pages n) (v.pages n)
  pub level : (k : ℕ) → v.down ≡ true → v.group.written k ≡ v.group.stable k

weaker : (c d : ℕ) → c ≤ d → (t : Told) → IsDrawn c t → IsDrawn d t
weaker c d le t h = record { allowed = h.allowed; own = h.own; number = let x = h.number in omega (arith, x, le) }

-- a log with one record more of its member, and all others
log_more : (w v : World) (e : Move) (m place : ℕ) (changed : ℕ → Bool) (r : LogRecord) (told : List Told) → Draws w v e m place changed → ((k : ℕ) → Fill 0 (w.group.written k) (filter (is_of k) told))
    → (k : ℕ) → Fill 0 (v.group.written k) (filter (is_of k) (told ++ told_at m place r ∷ []))
log_more w v e m place changed r told d h k = subst (Fill 0 (v.group.written k)) (sym (filter-append (is_of k) told (told_at m place r ∷ []))) (elim (cases_eq k m) [ inl is ↦ own is | inr ne ↦ other ne ])
  where
    own : k ≡ m → Fill 0 (v.group.written k) (filter (is_of k) told ++ filter (is_of k) (told_at m place r ∷ []))
    own is = subst (λ z. Fill 0 (v.group.written z) (filter (is_of z) told ++ filter (is_of z) (told_at m place r ∷ []))) (sym is)
        (subst (λ x. Fill 0 x (filter (is_of m) told ++ filter (is_of m) (told_at m place r ∷ []))) (sym d.own)
        (subst (λ us. Fill 0 (place + 1) (filter (is_of m) told ++ us)) (sym (cond-true (m == m) (told_at m place r ∷ []) [] (eq-eqb m m refl)))
        (fill_more 0 place (filter (is_of m) told) (told_at m place r) (subst (λ x. Fill 0 x (filter (is_of m) told)) (sym d.place) (h m)) refl)))

    other : (k ≡ m → ⊥) → Fill 0 (v.group.written k) (filter (is_of k) told ++ filter (is_of k) (told_at m place r ∷ []))
    other ne = subst (λ us. Fill 0 (v.group.written k) (filter (is_of k) told ++ us)) (sym (cond-false (m == k) (told_at m place r ∷ []) [] (ne_eqb m k (λ x. ne (sym x)))))
        (subst (Fill 0 (v.group.written k)) (sym (append-nil (filter (is_of k) told))) (subst (λ x. Fill 0 x (filter (is_of k) told)) (sym (d.others k ne)) (h k)))

pub more_told : (name : ℕ → PageId) (w v : World) (content after : ℕ → ℕ → List ℕ) (told : List Told) (e : Move) (m place : ℕ) (changed : ℕ → Bool) (r : LogRecord)
    → IsTold name w content told → Draws w v e m place changed → IsNext name w r changed → ((n i : ℕ) → i ≤ (w.pages n).last → after n i ≡ content n i)
    → ((n : ℕ) → changed n ≡ true → after n ((w.pages n).last + 1) ≡ after_record (name n) (content n (w.pages n).last) r) → IsTold name v after (told ++ told_at m place r ∷ [])
more_told name w v content after told e m place changed r t d next kept behind = record {
  each = all_more (IsDrawn v.group.counter) told (told_at m place r) (all_weaker (IsDrawn w.group.counter) (IsDrawn v.group.counter) told (weaker w.group.counter v.group.counter higher) t.each)
      (record { allowed = next.allowed; own = next.own; number = subst (λ c. r.lrsn ≤ c) (sym d.counter) (let is = next.number in omega (arith, is)) });
  rise = rise_more 0 w.group.counter told (told_at m place r) t.rise (all_weaker (IsDrawn w.group.counter) (λ (u : Told). u.it.lrsn ≤ w.group.counter) told (λ u h. h.number) t.each) (omega arith) (let is = next.number in omega (arith, is));
  logs = log_more w v e m place changed r told d t.logs;
  chains = λ n. elim (cases_Bool (changed n)) [ inl is ↦ chain_grows n is | inr not ↦ chain_stays n not ];
  versions = λ n i le. elim (cases_lt (w.pages n).last i) [ inl lt ↦ version_new n i le lt | inr low ↦ kept n i low ∙ t.versions n i low ∙ sym (version_stays (name n) told (told_at m place r) i (short n i low)) ];
  level = d.level;
}
  where
    higher : w.group.counter ≤ v.group.counter
    higher = let is = d.counter in omega (arith, is)

    short : (n i : ℕ) → i ≤ (w.pages n).last → i ≤ length (chain_of (name n) told)
    short n i le = subst (λ x. i ≤ x) (sym (chain_length (w.pages n) (chain_of (name n) told) (t.chains n))) le

    chain_grows : (n : ℕ) → changed n ≡ true → AreChanges (v.pages n) 0 (chain_of (name n) (told ++ told_at m place r ∷ []))
    chain_grows n is =
        let o = d.more n is in
        subst (AreChanges (v.pages n) 0) (sym (chain_more (name n) told (told_at m place r) (next.changes n ∙ is)))
        (changes_more (w.pages n) (v.pages n) 0 (chain_of (name n) told) (told_at m place r) (t.chains n)
        (record { last = o.last; old = o.old; author = sym o.author; place = sym o.place; lrsn = next.number ∙ sym o.lrsn }))

    chain_stays : (n : ℕ) → changed n ≡ false → AreChanges (v.pages n) 0 (chain_of (name n) (told ++ told_at m place r ∷ []))
    chain_stays n not =
        let s = d.same n not in
        subst (AreChanges (v.pages n) 0) (sym (chain_other (name n) told (told_at m place r) (next.changes n ∙ not)))
        (changes_same (w.pages n) (v.pages n) 0 (chain_of (name n) told) (t.chains n) s.last s.each)

    version_new : (n i : ℕ) → i ≤ (v.pages n).last → (w.pages n).last < i → after n i ≡ version_at (name n) (told ++ told_at m place r ∷ []) i
    version_new n i le lt = elim (cases_Bool (changed n)) [ inl is ↦ new n i is (top n i le lt is) | inr not ↦ absurd (none n i le lt not) ]
      where
        top : (n i : ℕ) → i ≤ (v.pages n).last → (w.pages n).last < i → changed n ≡ true → i ≡ (w.pages n).last + 1
        top n i le lt is = let e = (d.more n is).last in omega (arith, e, le, lt)

        none : (n i : ℕ) → i ≤ (v.pages n).last → (w.pages n).last < i → changed n ≡ false → ⊥
        none n i le lt not = let e = (d.same n not).last in omega (arith, e, le, lt)

        new : (n i : ℕ) → changed n ≡ true → i ≡ (w.pages n).last + 1 → after n i ≡ version_at (name n) (told ++ told_at m place r ∷ []) i
        new n i is e = subst (λ x. after n x ≡ version_at (name n) (told ++ told_at m place r ∷ []) x) (sym e)
            (behind n is
            ∙ ap (λ page. after_record (name n) page r) (t.versions n (w.pages n).last (omega arith))
            ∙ subst (λ x. after_record (name n) (version_at (name n) told x) r ≡ version_at (name n) (told ++ told_at m place r ∷ []) (x + 1)) (chain_length (w.pages n) (chain_of (name n) told) (t.chains n))
            (sym (version_last (name n) told (told_at m place r) (next.changes n ∙ is))))

-- ---- a failure

pub record Cuts (w v : World) (lengths : ℕ → ℕ) : Type 0 where
  pub written : (m : ℕ) → v.group.written m ≡ lengths m
  pub shorter : (m : ℕ) → lengths m ≤ w.group.written m
  pub short : (n : ℕ) → (v.pages n).last ≤ (w.pages n).last
  pub same : (n j : ℕ) → SameAt (w.pages n) (v.pages n) j
  pub kept : (n j : ℕ) → j < (v.pages n).last → (w.pages n).place j < lengths ((w.pages n).author j)
  pub gone : (n j : ℕ) → (v.pages n).last ≤ j → j < (w.pages n).last → lengths ((w.pages n).author j) ≤ (w.pages n).place j
  pub level : (m : ℕ) → v.down ≡ true → v.group.written m ≡ v.group.stable m

-- what is left of a chain are its first changes
pub chain_cut : (name : ℕ → PageId) (w v : World) (content : ℕ → ℕ → List ℕ) (told : List Told) (lengths : ℕ → ℕ) → IsTold name w content told → Cuts w v lengths → (n : ℕ)
    → chain_of (name n) (filter (is_within lengths) told) ≡ take (v.pages n).last (chain_of (name n) told)
chain_cut name w v content told lengths t c n =
    filter-swap (λ (u : Told). touches (name n) u.it) (is_within lengths) told
    ∙ changes_front (λ a p. nat_lt p (lengths a)) (w.pages n) (v.pages n).last (chain_of (name n) told) (t.chains n) (c.short n)
    (λ j high. lt-ltb ((w.pages n).place j) (lengths ((w.pages n).author j)) (c.kept n j high))
    (λ j low high. le-ltb ((w.pages n).place j) (lengths ((w.pages n).author j)) (c.gone n j low high))

pub cut_told : (name : ℕ → PageId) (w v : World) (content after : ℕ → ℕ → List ℕ) (told : List Told) (lengths : ℕ → ℕ)
    → IsTold name w content told → Cuts w v lengths → AllByRecursion (λ (u : Told). u.it.lrsn ≤ v.group.counter) (filter (is_within lengths) told) → ((n i : ℕ) → i ≤ (w.pages n).last → after n i ≡ content n i)
    → IsTold name v after (filter (is_within lengths) told)
cut_told name w v content after told lengths t c below kept = record {
  each = all_weaker (λ (u : Told). IsDrawn w.group.counter u × (u.it.lrsn ≤ v.group.counter)) (IsDrawn v.group.counter) (filter (is_within lengths) told) (λ u h. record { allowed = h.0.allowed; own = h.0.own; number = h.1 })
      (all_both (IsDrawn w.group.counter) (λ (u : Told). u.it.lrsn ≤ v.group.counter) (filter (is_within lengths) told) (all_filter (IsDrawn w.group.counter) (is_within lengths) told t.each) below);
  rise = rise_filter 0 (is_within lengths) told t.rise;
  logs = λ m. subst (λ k. Fill 0 k (filter (is_of m) (filter (is_within lengths) told))) (sym (c.written m))
      (subst (Fill 0 (lengths m)) (sym (of_within lengths m told)) (fill_cut 0 (w.group.written m) (lengths m) (filter (is_of m) told) (t.logs m) (omega arith) (c.shorter m)));
  chains = λ n. subst (AreChanges (v.pages n) 0) (sym (chain_cut name w v content told lengths t c n)) (changes_take (w.pages n) (v.pages n) 0 (v.pages n).last (chain_of (name n) told) (t.chains n) (omega arith) (c.short n) (λ j lt. c.same n j));
  versions = λ n i le. kept n i (lower n i le) ∙ t.versions n i (lower n i le) ∙ sym (version_old (name n) told (filter (is_within lengths) told) i (front n) (subst (λ x. i ≤ x) (sym (long n)) le));
  level = c.level;
}
  where
    lower : (n i : ℕ) → i ≤ (v.pages n).last → i ≤ (w.pages n).last
    lower n i le = let s = c.short n in omega (arith, le, s)

    long : (n : ℕ) → length (chain_of (name n) (filter (is_within lengths) told)) ≡ (v.pages n).last
    long n = ap (λ (us : List Told). length us) (chain_cut name w v content told lengths t c n)
        ∙ length-take-le (v.pages n).last (chain_of (name n) told) (subst (λ x. (v.pages n).last ≤ x) (sym (chain_length (w.pages n) (chain_of (name n) told) (t.chains n))) (c.short n))

    front : (n : ℕ) → chain_of (name n) (filter (is_within lengths) told) ≡ take (length (chain_of (name n) (filter (is_within lengths) told))) (chain_of (name n) told)
    front n = chain_cut name w v content told lengths t c n ∙ ap (λ x. take x (chain_of (name n) told)) (sym (long n))

-- ---- what is stable was written

forced_in : (b : Bool) (g : Group) (p : Page) → Stands b g p → (m : ℕ) → g.stable m ≤ g.written m
forced_in true g p s m = s.forced m
forced_in false g p s m = s.forced m

pub forced_of : (w : World) → Good w → (m : ℕ) → w.group.stable m ≤ w.group.written m
forced_of w good m = forced_in w.down w.group (w.pages 0) (good.stands 0) m

pub coherent : (w : World) → Good w → w.down ≡ false → (n : ℕ) → Coherent w.group (w.pages n)
coherent w good up n = subst (λ b. Stands b w.group (w.pages n)) up (good.stands n)

-- ---- each move

never : {A : Type 0} → false ≡ true → A
never e = absurd (false≢true e)

pub draws_in : (w : World) (m : ℕ) (touched : ℕ → Bool) → Draws w (record { down = false; group = record w.group { written = put w.group.written m (w.group.written m + 1); counter = w.group.counter + 1 }; pages = λ n. cond (touched n) (change (w.pages n) m (w.group.written m) (w.group.counter + 1)) (w.pages n) }) (Draw m touched) m (w.group.written m) touched
draws_in w m touched = record {
  counter = refl;
  place = refl;
  own = put_here w.group.written m (w.group.written m + 1);
  others = λ k ne. put_there w.group.written m k (w.group.written m + 1) ne;
  more = λ n is. subst (λ q. More (w.pages n) q m (w.group.written m) (w.group.counter + 1)) (sym (cond-true (touched n) (change (w.pages n) m (w.group.written m) (w.group.counter + 1)) (w.pages n) is))
      (more_change (w.pages n) m (w.group.written m) (w.group.counter + 1));
  same = λ n not. subst (Same (w.pages n)) (sym (cond-false (touched n) (change (w.pages n) m (w.group.written m) (w.group.counter + 1)) (w.pages n) not)) (itself (w.pages n));
  level = λ k e. never e;
}

level_longer : (w : World) (m : ℕ) → ((k : ℕ) → w.group.written k ≡ w.group.stable k) → (k : ℕ) → (longer w.group m).written k ≡ (longer w.group m).stable k
level_longer w m level k = elim (k == m) as (λ b. cond b (w.group.stable m + 1) (w.group.written k) ≡ cond b (w.group.stable m + 1) (w.group.stable k)) [ true ↦ refl | false ↦ level k ]

pub compensates_in : (w : World) (n m : ℕ) → ((k : ℕ) → w.group.written k ≡ w.group.stable k)
    → Draws w (record { down = true; group = longer w.group m; pages = put w.pages n (compensate (w.pages n) m (w.group.stable m) (w.group.counter + 1)) }) (Compensate n m) m (w.group.stable m) (λ k. k == n)
compensates_in w n m level = record {
  counter = refl;
  place = sym (level m);
  own = put_here w.group.written m (w.group.stable m + 1);
  others = λ k ne. put_there w.group.written m k (w.group.stable m + 1) ne;
  more = λ k is. subst (λ j. More (w.pages j) (put w.pages n next j) m (w.group.stable m) (w.group.counter + 1)) (sym (eqb-true k n is))
      (subst (λ q. More (w.pages n) q m (w.group.stable m) (w.group.counter + 1)) (sym (put_here w.pages n next)) (more_compensate (w.pages n) m (w.group.stable m) (w.group.counter + 1)));
  same = λ k not. subst (Same (w.pages k)) (sym (cond-false (k == n) next (w.pages k) not)) (itself (w.pages k));
  level = λ k e. level_longer w m level k;
}
  where
    next : Page
    next = compensate (w.pages n) m (w.group.stable m) (w.group.counter + 1)

pub appends_in : (w : World) (m : ℕ) → ((k : ℕ) → w.group.written k ≡ w.group.stable k) → Draws w (record { down = true; group = longer w.group m; pages = w.pages }) (Append m) m (w.group.stable m) (λ k. false)
appends_in w m level = record {
  counter = refl;
  place = sym (level m);
  own = put_here w.group.written m (w.group.stable m + 1);
  others = λ k ne. put_there w.group.written m k (w.group.stable m + 1) ne;
  more = λ k is. never is;
  same = λ k not. itself (w.pages k);
  level = λ k e. level_longer w m level k;
}

pub fails_in : (w : World) (m : ℕ) (cut : ℕ → ℕ) → Good w → w.down ≡ false → ((n : ℕ) → IsCut w.group m (w.pages n) (cut n))
    → Cuts w (record { down = false; group = failed w.group m; pages = λ n. fail (w.pages n) m (cut n) }) (failed w.group m).written
fails_in w m cut good up so = record {
  written = λ k. refl;
  shorter = λ k. elim (cases_eq k m) [
    | inl e ↦ subst (λ j. put w.group.written m (w.group.stable m) j ≤ w.group.written j) (sym e) (subst (λ x. x ≤ w.group.written m) (sym (put_here w.group.written m (w.group.stable m))) (forced_of w good m))
    | inr ne ↦ subst (λ x. x ≤ w.group.written k) (sym (put_there w.group.written m k (w.group.stable m) ne)) (omega arith)
  ];
  short = λ n. (so n).short;
  same = λ n j. record { author = refl; place = refl; lrsn = refl };
  kept = λ n j lt. elim (cases_eq ((w.pages n).author j) m) [
    | inl e ↦ subst (λ x. (w.pages n).place j < put w.group.written m (w.group.stable m) x) (sym e)
        (subst (λ x. (w.pages n).place j < x) (sym (put_here w.group.written m (w.group.stable m))) ((so n).kept j lt e))
    | inr ne ↦ subst (λ x. (w.pages n).place j < x) (sym (put_there w.group.written m ((w.pages n).author j) (w.group.stable m) ne)) ((coherent w good up n).written j (less n j lt))
  ];
  gone = λ n j low high. subst (λ x. put w.group.written m (w.group.stable m) x ≤ (w.pages n).place j) (sym ((so n).gone j low high).0)
      (subst (λ x. x ≤ (w.pages n).place j) (sym (put_here w.group.written m (w.group.stable m))) ((so n).gone j low high).1);
  level = λ k e. never e;
}
  where
    less : (n j : ℕ) → j < cut n → j < (w.pages n).last
    less n j lt = let s = (so n).short in omega (arith, lt, s)

pub group_fails_in : (w : World) (cut : ℕ → ℕ) (counter : ℕ) → Good w → ((n : ℕ) → IsWholeCut w.group (w.pages n) (cut n))
    → Cuts w (record { down = true; group = all_failed w.group counter; pages = λ n. all_fail (w.pages n) (cut n) }) w.group.stable
group_fails_in w cut counter good so = record {
  written = λ k. refl;
  shorter = forced_of w good;
  short = λ n. (so n).short;
  same = λ n j. record { author = refl; place = refl; lrsn = refl };
  kept = λ n j lt. (so n).kept j lt;
  gone = λ n j low high. (so n).gone j low high;
  level = λ k e. refl;
}

pub stays : StaysTold
stays name set w v (At n e) r content after told good t st f go =
    subst (λ z. IsTold name z after told) (sym st.1.2)
    (same_told name w (record { down = false; group = w.group; pages = put w.pages n st.1.0 }) content after told t (same_put w.pages n st.1.0 (same_page w.group (w.pages n) st.1.0 e st.1.1)) refl (λ m. refl) (λ m d. never d) go.kept)
stays name set w v (Draw m touched) r content after told good t st f go =
    subst (λ z. IsTold name z after (told ++ told_at m (w.group.written m) r ∷ [])) (sym st.2)
    (more_told name w (record { down = false; group = drawn w.group m; pages = λ n. cond (touched n) (change (w.pages n) m (w.group.written m) (w.group.counter + 1)) (w.pages n) }) content after told
    (Draw m touched) m (w.group.written m) touched r t (draws_in w m touched) f go.kept go.behind)
stays name set w v (Force m k) r content after told good t st f go =
    subst (λ z. IsTold name z after told) (sym st.3)
    (same_told name w (record { down = false; group = forced w.group m k; pages = w.pages }) content after told t (λ n. itself (w.pages n)) refl (λ m. refl) (λ m d. never d) go.kept)
stays name set w v (TakeSet s m) r content after told good t st f go =
    subst (λ z. IsTold name z after told) (sym st.3)
    (same_told name w (record { down = false; group = w.group; pages = λ n. cond (set n == s) (owned_whole (w.pages n) m) (w.pages n) }) content after told t
    (λ n. same_when (set n == s) (w.pages n) (owned_whole (w.pages n) m) (record { last = refl; each = λ j. record { author = refl; place = refl; lrsn = refl } })) refl (λ m. refl) (λ m d. never d) go.kept)
stays name set w v (YieldSet s m) r content after told good t st f go =
    subst (λ z. IsTold name z after told) (sym st.2)
    (same_told name w (record { down = false; group = w.group; pages = λ n. cond (set n == s) (given_up (w.pages n)) (w.pages n) }) content after told t
    (λ n. same_when (set n == s) (w.pages n) (given_up (w.pages n)) (record { last = refl; each = λ j. record { author = refl; place = refl; lrsn = refl } })) refl (λ m. refl) (λ m d. never d) go.kept)
stays name set w v (PurgeSet s m) r content after told good t st f go =
    subst (λ z. IsTold name z after told) (sym st.2)
    (same_told name w (record { down = false; group = w.group; pages = λ n. cond (set n == s) (given_up (w.pages n)) (w.pages n) }) content after told t
    (λ n. same_when (set n == s) (w.pages n) (given_up (w.pages n)) (record { last = refl; each = λ j. record { author = refl; place = refl; lrsn = refl } })) refl (λ m. refl) (λ m d. never d) go.kept)
stays name set w v Lose r content after told good t st f go =
    subst (λ z. IsTold name z after told) (sym st.2)
    (same_told name w (record { down = false; group = without_cache w.group; pages = λ n. lose (w.pages n) }) content after told t
    (λ n. record { last = refl; each = λ j. record { author = refl; place = refl; lrsn = refl } }) refl (λ m. refl) (λ m d. never d) go.kept)
stays name set w v (ReadLog m) r content after told good t st f go =
    subst (λ z. IsTold name z after told) (sym st.2)
    (same_told name w (record { down = false; group = log_read w.group m; pages = w.pages }) content after told t (λ n. itself (w.pages n)) refl (λ m. refl) (λ m d. never d) go.kept)
stays name set w v Rebuilt r content after told good t st f go =
    subst (λ z. IsTold name z after told) (sym st.3)
    (same_told name w (record { down = false; group = with_cache w.group; pages = w.pages }) content after told t (λ n. itself (w.pages n)) refl (λ m. refl) (λ m d. never d) go.kept)
stays name set w v (Fail m cut) r content after told good t st f go =
    subst (λ z. IsTold name z after (filter (is_within (failed w.group m).written) told)) (sym st.2)
    (cut_told name w (record { down = false; group = failed w.group m; pages = λ n. fail (w.pages n) m (cut n) }) content after told (failed w.group m).written t (fails_in w m cut good st.0 st.1)
    (all_filter (λ (u : Told). u.it.lrsn ≤ w.group.counter) (is_within (failed w.group m).written) told (all_weaker (IsDrawn w.group.counter) (λ (u : Told). u.it.lrsn ≤ w.group.counter) told (λ u h. h.number) t.each)) go.kept)
stays name set w v (Restart m) r content after told good t st f go =
    subst (λ z. IsTold name z after told) (sym st.2)
    (same_told name w (record { down = false; group = restarting w.group m; pages = w.pages }) content after told t (λ n. itself (w.pages n)) refl (λ m. refl) (λ m d. never d) go.kept)
stays name set w v (Open m) r content after told good t st f go =
    subst (λ z. IsTold name z after told) (sym st.3)
    (same_told name w (record { down = false; group = opened w.group m; pages = w.pages }) content after told t (λ n. itself (w.pages n)) refl (λ m. refl) (λ m d. never d) go.kept)
stays name set w v (GroupFail cut counter) r content after told good t st f go =
    subst (λ z. IsTold name z after (filter (is_within w.group.stable) told)) (sym st.2)
    (cut_told name w (record { down = true; group = all_failed w.group counter; pages = λ n. all_fail (w.pages n) (cut n) }) content after told w.group.stable t (group_fails_in w cut counter good st.0) f go.kept)
stays name set w v (Forward n k) r content after told good t st f go =
    subst (λ z. IsTold name z after told) (sym st.3)
    (same_told name w (record { down = true; group = w.group; pages = put w.pages n (brought_forward (w.pages n) k) }) content after told t
    (same_put w.pages n (brought_forward (w.pages n) k) (record { last = refl; each = λ j. record { author = refl; place = refl; lrsn = refl } })) refl (λ m. refl) (λ m d. t.level m st.0) go.kept)
stays name set w v (Compensate n m) r content after told good t st f go =
    subst (λ z. IsTold name z after (told ++ told_at m (w.group.stable m) r ∷ [])) (sym st.1)
    (more_told name w (record { down = true; group = longer w.group m; pages = put w.pages n (compensate (w.pages n) m (w.group.stable m) (w.group.counter + 1)) }) content after told
    (Compensate n m) m (w.group.stable m) (λ k. k == n) r t (compensates_in w n m (λ k. t.level k st.0)) f go.kept go.behind)
stays name set w v (Append m) r content after told good t st f go =
    subst (λ z. IsTold name z after (told ++ told_at m (w.group.stable m) r ∷ [])) (sym st.1)
    (more_told name w (record { down = true; group = longer w.group m; pages = w.pages }) content after told
    (Append m) m (w.group.stable m) (λ k. false) r t (appends_in w m (λ k. t.level k st.0)) f go.kept go.behind)
stays name set w v RiseUp r content after told good t st f go =
    subst (λ z. IsTold name z after told) (sym st.2)
    (same_told name w (record { down = false; group = all_up w.group; pages = λ n. risen (w.pages n) }) content after told t
    (λ n. record { last = refl; each = λ j. record { author = refl; place = refl; lrsn = refl } }) refl (λ m. refl) (λ m d. never d) go.kept)

-- ---- the start

pub starts : StartsTold
starts name content h = record {
  drawn = record {
    each = tt;
    rise = tt;
    logs = λ m. refl;
    chains = λ n. refl;
    versions = λ n v le. subst (λ k. content n k ≡ version_at (name n) [] k) (nought v le) (h n);
    level = λ m e. refl;
  };
  disk = λ m. refl;
}
  where
    nought : (v : ℕ) → v ≤ 0 → 0 ≡ v
    nought v le = omega (arith, le)
