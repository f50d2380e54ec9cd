-- Every run keeps the pointers between pages.
use Rattle.std.proofs.Common.{◌≡◌, ℕ, ◌+◌, ◌<◌, ◌≤◌, refl, sym, ap, ◌∙◌, subst, arith, Bool, true, false, inl, inr, ◌⊎◌, [], ◌∷◌, Option, Some, None}
use Rattle.std.specs.Prelude.{◌==◌, ◌&&◌, if◌then◌else◌}
use Rattle.std.proofs.lemmas.Bool.{cond_both, eqb-true, cases_eq, cases_lt, cases_Bool, both_ways, cond-true, cond-false, eq-eqb}
use Rattle.page_protocol.specs.Page.{Page, Group, Up, put, read, read_disk, write, write_direct, change, castout_read, castout_write, castout_done, reclaim, drop_frame, redo, rebuild, lose, fail, owned, owned_whole, given_up, brought_forward, compensate}
use Rattle.page_protocol.specs.Moves.{World, PageMove, Move, Read, ReadDisk, Write, WriteDirect, CastoutRead, CastoutWrite, CastoutDone, Reclaim, DropFrame, Lock, Unlock, Redo, PutAside, Purge, Rebuild, At, Draw, Force, TakeSet, YieldSet, PurgeSet, Lose, ReadLog, Rebuilt, Fail, Restart, Open, GroupFail, Forward, Compensate, Append, Rise, PageStep, Step, IsWritten}
use Rattle.page_protocol.specs.Coherent.{Coherent}
use Rattle.page_protocol.specs.Always.{Stands, Good}
use Rattle.page_protocol.specs.Words.{IsUsable, Gives}
use Rattle.page_protocol.specs.Links.{Link, Links, LinkHolds, Linked, MayLink, IsInOrder, PageLinkGuard, LinkGuard, links_after, AlwaysLinked, LinksLead}
use Rattle.page_protocol.proofs.Steps.{no_earlier}
use Rattle.page_protocol.proofs.Whole.{all_read}
use Rattle.page_protocol.proofs.Runs.{kept_step, all_running, all_fallen, behind}
use Rattle.page_protocol.proofs.Words.{gives}
use Rattle.page_protocol.proofs.Links.{IsNoLess, grown, no_less, old_link, new_link, cut_link, whole_cut_link, rebuilt_link, risen_link, compensated_link, regime_link}

within : (b : Bool) (g : Group) (p : Page) → Stands b g p → p.shared ≤ p.last
within true g p s = s.shared
within false g p s = s.within

-- ---- what a move of one page does to where pointers lead
less_write : (g : Group) (p : Page) (m : ℕ) → Coherent g p → (p.frame m).marked ≡ true → IsNoLess p (write p m)
less_write g p m s marked = record { last = refl; author = λ i. refl; place = λ i. refl; shared = let a = s.marked_last m marked in let b = s.within in omega (arith, a, b); sole = λ h. inl h }

less_direct : (g : Group) (p : Page) (m : ℕ) → Coherent g p → (p.frame m).marked ≡ true → IsNoLess p (write_direct p m)
less_direct g p m s marked = record { last = refl; author = λ i. refl; place = λ i. refl; shared = let a = s.marked_last m marked in let b = s.within in omega (arith, a, b); sole = λ h. inl h }

less_part : (p : Page) → p.sole ≡ false → IsNoLess p (given_up p)
less_part p part = record { last = refl; author = λ i. refl; place = λ i. refl; shared = omega arith; sole = λ h. absurd (both_ways p.sole part h) }

less_whole : (p : Page) → p.shared ≡ p.last → IsNoLess p (given_up p)
less_whole p e = record { last = refl; author = λ i. refl; place = λ i. refl; shared = omega arith; sole = λ h. inr e }

less_sole : (p : Page) (m : ℕ) → IsNoLess p (owned_whole p m)
less_sole p m = record { last = refl; author = λ i. refl; place = λ i. refl; shared = omega arith; sole = λ h. inl refl }

less_rebuild : (p : Page) (n : ℕ) → p.shared ≤ n → IsNoLess p (rebuild p n)
less_rebuild p n high = record { last = refl; author = λ i. refl; place = λ i. refl; shared = high; sole = λ h. inl h }

same : (p : Page) → IsNoLess p p
same p = no_less p p refl refl refl refl refl

less_page : (g : Group) (p q : Page) (e : PageMove) → Coherent g p → PageStep g p e q → IsNoLess p q
less_page g p q (Read m d) s st = subst (IsNoLess p) (sym st.4) (no_less p (read p m d) refl refl refl refl refl)
less_page g p q (ReadDisk m) s st = subst (IsNoLess p) (sym st.3) (no_less p (read_disk p m) refl refl refl refl refl)
less_page g p q (Write m) s st = subst (IsNoLess p) (sym st.4) (less_write g p m s st.2)
less_page g p q (WriteDirect m) s st = subst (IsNoLess p) (sym st.4) (less_direct g p m s st.2)
less_page g p q (CastoutRead m v) s st = subst (IsNoLess p) (sym st.4) (no_less p (castout_read p m v) refl refl refl refl refl)
less_page g p q (CastoutWrite m) s st = subst (IsNoLess p) (sym st.1) (no_less p (castout_write p) refl refl refl refl refl)
less_page g p q (CastoutDone m) s st = subst (IsNoLess p) (sym st.2) (no_less p (castout_done p) refl refl refl refl refl)
less_page g p q Reclaim s st = subst (IsNoLess p) (sym st.2) (no_less p (reclaim p) refl refl refl refl refl)
less_page g p q (DropFrame m) s st = subst (IsNoLess p) (sym st.1) (no_less p (drop_frame p m) refl refl refl refl refl)
less_page g p q (Lock m) s st = subst (IsNoLess p) (sym st.2) (no_less p (owned p m) refl refl refl refl refl)
less_page g p q (Unlock m) s st = subst (IsNoLess p) (sym st.4) (less_part p st.1)
less_page g p q (Redo m) s st = subst (IsNoLess p) (sym st.4) (no_less p (redo p m) refl refl refl refl refl)
less_page g p q (PutAside m) s st = subst (IsNoLess p) (sym st.3) (no_less p (drop_frame p m) refl refl refl refl refl)
less_page g p q (Purge m) s st = subst (IsNoLess p) (sym st.5) (less_part p st.1)
less_page g p q (Rebuild n) s st = subst (IsNoLess p) (sym st.2) (less_rebuild p n (no_earlier g p n s st.0 st.1))

less_at : (pages : ℕ → Page) (n : ℕ) (q : Page) → IsNoLess (pages n) q → (k : ℕ) → IsNoLess (pages k) (put pages n q k)
less_at pages n q new k = cond_both (k == n) q (pages k) (IsNoLess (pages k)) (λ e. subst (λ x. IsNoLess (pages x) q) (sym (eqb-true k n e)) new) (λ e. same (pages k))

-- ---- what becomes shared by a move of one page
abbrev Newly : World → ℕ → Page → Links → Type 0
Newly w n q links = (k i : ℕ) (l : Link) → links k i ≡ Some l → LinkHolds w.down w.group.lost (w.pages k) (w.pages l.page) i l.change → w.group.lost ≡ false
    → i < (put w.pages n q k).shared → (i < (w.pages k).shared) ⊎ (l.change < (put w.pages n q l.page).shared) ⊎ ((put w.pages n q l.page).sole ≡ true)

new_none : (w : World) (n : ℕ) (q : Page) (links : Links) → q.shared ≡ (w.pages n).shared → Newly w n q links
new_none w n q links e k i l is h lost lt = inl (grind (arith, e, lt))

new_lost : (w : World) (n : ℕ) (q : Page) (links : Links) → w.group.lost ≡ true → Newly w n q links
new_lost w n q links gone k i l is h lost lt = absurd (both_ways _ lost gone)

new_written : (w : World) (n : ℕ) (q : Page) (links : Links) → q.shared ≡ (w.pages n).last → q.sole ≡ (w.pages n).sole → IsInOrder links w n → Newly w n q links
new_written w n q links e f order k i l is h lost lt = elim (cases_eq k n) [
  | inl here ↦
      let low : i < (w.pages n).last = grind (arith, e, here, lt) in
      let there : l.change < (w.pages l.page).last = h.there (subst (λ x. i < (w.pages x).last) (sym here) low) in
      elim (cases_eq l.page n) [
        | inl self ↦ inr (inl (grind (arith, e, self, there)))
        | inr other ↦ inr (elim (order i l (subst (λ x. links x i ≡ Some l) here is) low other) [ inl a ↦ inl (grind (arith, other, a)) | inr a ↦ inr (grind (arith, other, a)) ])
      ]
  | inr ne ↦ inl (grind (arith, ne, lt))
]

last_written : (g : Group) (p : Page) (m : ℕ) → Coherent g p → (p.frame m).marked ≡ true → (p.frame m).version ≡ p.last
last_written g p m s marked = s.marked_last m marked

newly : (w : World) (n : ℕ) (q : Page) (e : PageMove) (links : Links) → Coherent w.group (w.pages n) → PageStep w.group (w.pages n) e q → PageLinkGuard links w n e → Newly w n q links
newly w n q (Read m d) links s st g = new_none w n q links (ap (λ (x : Page). x.shared) st.4)
newly w n q (ReadDisk m) links s st g = new_none w n q links (ap (λ (x : Page). x.shared) st.3)
newly w n q (Write m) links s st g = new_written w n q links (ap (λ (x : Page). x.shared) st.4 ∙ s.marked_last m st.2) (ap (λ (x : Page). x.sole) st.4) g
newly w n q (WriteDirect m) links s st g = new_written w n q links (ap (λ (x : Page). x.shared) st.4 ∙ s.marked_last m st.2) (ap (λ (x : Page). x.sole) st.4) g
newly w n q (CastoutRead m v) links s st g = new_none w n q links (ap (λ (x : Page). x.shared) st.4)
newly w n q (CastoutWrite m) links s st g = new_none w n q links (ap (λ (x : Page). x.shared) st.1)
newly w n q (CastoutDone m) links s st g = new_none w n q links (ap (λ (x : Page). x.shared) st.2)
newly w n q Reclaim links s st g = new_none w n q links (ap (λ (x : Page). x.shared) st.2)
newly w n q (DropFrame m) links s st g = new_none w n q links (ap (λ (x : Page). x.shared) st.1)
newly w n q (Lock m) links s st g = new_none w n q links (ap (λ (x : Page). x.shared) st.2)
newly w n q (Unlock m) links s st g = new_none w n q links (ap (λ (x : Page). x.shared) st.4)
newly w n q (Redo m) links s st g = new_none w n q links (ap (λ (x : Page). x.shared) st.4)
newly w n q (PutAside m) links s st g = new_none w n q links (ap (λ (x : Page). x.shared) st.3)
newly w n q (Purge m) links s st g = new_none w n q links (ap (λ (x : Page). x.shared) st.5)
newly w n q (Rebuild k) links s st g = new_lost w n q links st.0

-- ---- a move of several pages that shares nothing new
less_some : (pages : ℕ → Page) (touched : ℕ → Bool) (f : Page → Page) → ((n : ℕ) → touched n ≡ true → IsNoLess (pages n) (f (pages n))) → (n : ℕ) → IsNoLess (pages n) (if touched n then f (pages n) else pages n)
less_some pages touched f new n = cond_both (touched n) (f (pages n)) (pages n) (IsNoLess (pages n)) (new n) (λ e. same (pages n))

same_some : (pages : ℕ → Page) (touched : ℕ → Bool) (f : Page → Page) → ((n : ℕ) → (f (pages n)).shared ≡ (pages n).shared) → (n : ℕ) → (if touched n then f (pages n) else pages n).shared ≡ (pages n).shared
same_some pages touched f new n = cond_both (touched n) (f (pages n)) (pages n) (λ x. x.shared ≡ (pages n).shared) (λ e. new n) (λ e. refl)

written_whole : (g : Group) (p : Page) (m : ℕ) → Coherent g p → p.owner ≡ Some m → IsWritten g p m → p.shared ≡ p.last
written_whole g p m s own done = let n = s.own p.shared in let w = s.within in let d = done p.shared in let l = s.lost_copy in grind (arith, n, w, d, l, own)

pub clean_whole : (g : Group) (p : Page) (m : ℕ) → Coherent g p → p.owner ≡ Some m → g.status m ≡ Up → (p.frame m).marked ≡ false → p.shared ≡ p.last
clean_whole g p m s own up clean = let n = s.newest m own in let w = s.within in grind (arith, n, w, up, clean)

quiet : (w v : World) (links : Links) → Linked links w → v.down ≡ w.down → v.group.lost ≡ w.group.lost → ((n : ℕ) → IsNoLess (w.pages n) (v.pages n)) → ((n : ℕ) → (v.pages n).shared ≡ (w.pages n).shared) → ((n : ℕ) → (v.pages n).shared ≤ (v.pages n).last) → Linked links v
quiet w v links s d g less shared low n i l is =
    subst (λ b. LinkHolds b v.group.lost (v.pages n) (v.pages l.page) i l.change) (sym d) (subst (λ b. LinkHolds w.down b (v.pages n) (v.pages l.page) i l.change) (sym g)
    (grown w.down w.group.lost (w.pages n) (v.pages n) (w.pages l.page) (v.pages l.page) i l.change (less n) (less l.page) (λ _ lt. inl (let e = shared n in omega (arith, e, lt))) (low n) (s n i l is)))

unchanged : (w v : World) (links : Links) → Linked links w → v.down ≡ w.down → v.group.lost ≡ w.group.lost → v.pages ≡ w.pages → Linked links v
unchanged w v links s d g e n i l is =
    subst (λ b. LinkHolds b v.group.lost (v.pages n) (v.pages l.page) i l.change) (sym d) (subst (λ b. LinkHolds w.down b (v.pages n) (v.pages l.page) i l.change) (sym g)
    (subst (λ (f : ℕ → Page). LinkHolds w.down w.group.lost (f n) (f l.page) i l.change) (sym e) (s n i l is)))

low_after : (set : ℕ → ℕ) (w v : World) (e : Move) → Good w → Step set w e v → (n : ℕ) → (v.pages n).shared ≤ (v.pages n).last
low_after set w v e s st n = within v.down v.group (v.pages n) ((kept_step set w v e s st).stands n)

-- ---- one move of one page
link_at : (set : ℕ → ℕ) (w v : World) (n : ℕ) (e : PageMove) (links : Links) → Good w → Linked links w → Step set w (At n e) v → PageLinkGuard links w n e → Linked links v
link_at set w v n e links s k st guard a i l is =
    let low = low_after set w v (At n e) s st in
    let less = less_at w.pages n st.1.0 (less_page w.group (w.pages n) st.1.0 e (all_running w st.0 s n) st.1.1) in
    let low' : (put w.pages n st.1.0 a).shared ≤ (put w.pages n st.1.0 a).last = subst (λ (x : World). (x.pages a).shared ≤ (x.pages a).last) st.1.2 (low a) in
    subst (λ (x : World). LinkHolds x.down x.group.lost (x.pages a) (x.pages l.page) i l.change) (sym st.1.2)
    (subst (λ b. LinkHolds b w.group.lost (put w.pages n st.1.0 a) (put w.pages n st.1.0 l.page) i l.change) st.0
    (grown w.down w.group.lost (w.pages a) (put w.pages n st.1.0 a) (w.pages l.page) (put w.pages n st.1.0 l.page) i l.change (less a) (less l.page)
    (newly w n st.1.0 e links (all_running w st.0 s n) st.1.1 guard a i l is (k a i l is)) low' (k a i l is)))

-- ---- several pages, sharing nothing
link_some : (set : ℕ → ℕ) (w v : World) (e : Move) (links : Links) (touched : ℕ → Bool) (f : Page → Page) → Good w → Linked links w → Step set w e v → w.down ≡ false
    → v ≡ record { down = false; group = w.group; pages = λ n. if touched n then f (w.pages n) else w.pages n }
    → ((n : ℕ) → touched n ≡ true → IsNoLess (w.pages n) (f (w.pages n))) → ((n : ℕ) → (f (w.pages n)).shared ≡ (w.pages n).shared) → Linked links v
link_some set w v e links touched f s k st up is less shared =
    quiet w v links k (ap (λ (x : World). x.down) is ∙ sym up) (ap (λ (x : World). x.group.lost) is)
    (λ n. subst (λ (x : World). IsNoLess (w.pages n) (x.pages n)) (sym is) (less_some w.pages touched f less n))
    (λ n. subst (λ (x : World). (x.pages n).shared ≡ (w.pages n).shared) (sym is) (same_some w.pages touched f shared n))
    (low_after set w v e s st)

-- ---- a log record
at_last : (t a b : Bool) → (t && a) ≡ b → b ≡ false → t ≡ true → a ≡ false
at_last true a b e f h = e ∙ f
at_last false a b e f h = absurd (both_ways false refl h)

both_true : (t a : Bool) → (t && a) ≡ true → (t ≡ true) × (a ≡ true)
both_true true true h = (refl, refl)
both_true true false h = absurd (both_ways false refl h)
both_true false a h = absurd (both_ways false refl h)

drawn_link : (w : World) (m : ℕ) (touched : ℕ → Bool) (makes : ℕ → Option Link) (links : Links) (n i : ℕ) (l : Link) → Good w → w.down ≡ false → Linked links w
    → ((n : ℕ) (l : Link) → touched n ≡ true → makes n ≡ Some l → MayLink w m touched l)
    → links_after links w makes (Draw m touched) n i ≡ Some l
    → LinkHolds w.down w.group.lost (if touched n then change (w.pages n) m (w.group.written m) (w.group.counter + 1) else w.pages n) (if touched l.page then change (w.pages l.page) m (w.group.written m) (w.group.counter + 1) else w.pages l.page) i l.change
drawn_link w m touched makes links n i l s up k may is = elim (cases_Bool (touched n && (i == (w.pages n).last))) [
  | inl new ↦
      let b = both_true (touched n) (i == (w.pages n).last) new in
      let at : i ≡ (w.pages n).last = eqb-true i (w.pages n).last b.1 in
      let made : makes n ≡ Some l = sym (cond-true (touched n && (i == (w.pages n).last)) (makes n) (links n i) new) ∙ is in
      subst (λ x. LinkHolds w.down w.group.lost x (if touched l.page then change (w.pages l.page) m (w.group.written m) (w.group.counter + 1) else w.pages l.page) i l.change)
      (sym (cond-true (touched n) (change (w.pages n) m (w.group.written m) (w.group.counter + 1)) (w.pages n) b.0))
      (subst (λ x. LinkHolds w.down w.group.lost (change (w.pages n) m (w.group.written m) (w.group.counter + 1)) (if touched l.page then change (w.pages l.page) m (w.group.written m) (w.group.counter + 1) else w.pages l.page) x l.change) (sym at)
      (new_link w.down w.group.lost (w.pages n) (w.pages l.page) m (w.group.written m) (w.group.counter + 1) l.change (touched l.page) (all_running w up s n).within (behind w.group (w.pages l.page) m (all_running w up s l.page)) (may n l b.0 made)))
  | inr old ↦
      let was : links n i ≡ Some l = sym (cond-false (touched n && (i == (w.pages n).last)) (makes n) (links n i) old) ∙ is in
      old_link w.down w.group.lost (w.pages n) (w.pages l.page) m (w.group.written m) (w.group.counter + 1) i l.change (touched n) (touched l.page)
      (λ t e. both_ways _ (at_last (touched n) (i == (w.pages n).last) _ refl old t) (eq-eqb i (w.pages n).last e)) (all_running w up s n).within (all_running w up s l.page).within (k n i l was)
]

compensated : (w : World) (links : Links) (p m n i : ℕ) (l : Link) → Good w → w.down ≡ true → Linked links w
    → (if (n == p) && (i == (w.pages n).last) then None else links n i) ≡ Some l
    → LinkHolds true w.group.lost (if n == p then compensate (w.pages n) m (w.group.stable m) (w.group.counter + 1) else w.pages n) (if l.page == p then compensate (w.pages l.page) m (w.group.stable m) (w.group.counter + 1) else w.pages l.page) i l.change
compensated w links p m n i l s up k is = elim (cases_Bool ((n == p) && (i == (w.pages n).last))) [
  | inl new ↦ absurd (none (sym (cond-true ((n == p) && (i == (w.pages n).last)) None (links n i) new) ∙ is))
  | inr old ↦
      let was : links n i ≡ Some l = sym (cond-false ((n == p) && (i == (w.pages n).last)) None (links n i) old) ∙ is in
      compensated_link w.down w.group.lost true w.group.lost (w.pages n) (w.pages l.page) m (w.group.stable m) (w.group.counter + 1) i l.change (n == p) (l.page == p) refl
      (λ t e. both_ways _ (at_last (n == p) (i == (w.pages n).last) _ refl old t) (eq-eqb i (w.pages n).last e)) (all_fallen w up s l.page).shared (k n i l was)
]
  where
    none : None ≡ Some l → ⊥
    none e = cc

put_is : (pages : ℕ → Page) (p : ℕ) (f : Page → Page) (n : ℕ) → (if n == p then f (pages n) else pages n) ≡ put pages p (f (pages p)) n
put_is pages p f n = elim (cases_eq n p) [ inl e ↦ grind (arith, e) | inr ne ↦ grind (arith, ne) ]

stable_shared : (b : Bool) (g : Group) (p : Page) → Stands b g p → (j : ℕ) → j < p.shared → p.place j < g.stable (p.author j)
stable_shared true g p s j lt = let a = s.shared in s.all_stable j (omega (arith, a, lt))
stable_shared false g p s j lt = s.stable j lt

abbrev LinksAt : Links → World → ℕ → ℕ → Link → Type 0
LinksAt links x n i l = LinkHolds x.down x.group.lost (x.pages n) (x.pages l.page) i l.change

linked_step : (set : ℕ → ℕ) (w v : World) (links : Links) (makes : ℕ → Option Link) (e : Move) → Good w → Linked links w → Step set w e v → LinkGuard links w makes e → Linked (links_after links w makes e) v
linked_step set w v links makes (At n e) s k st g = link_at set w v n e links s k st g
linked_step set w v links makes (Draw m touched) s k st g = λ n i l is. subst (λ (x : World). LinksAt links x n i l) (sym st.2)
    (subst (λ b. LinkHolds b w.group.lost (if touched n then change (w.pages n) m (w.group.written m) (w.group.counter + 1) else w.pages n) (if touched l.page then change (w.pages l.page) m (w.group.written m) (w.group.counter + 1) else w.pages l.page) i l.change) st.0
    (drawn_link w m touched makes links n i l s st.0 k g is))
linked_step set w v links makes (Force m a) s k st g = unchanged w v links k (ap (λ (x : World). x.down) st.3 ∙ sym st.0) (ap (λ (x : World). x.group.lost) st.3) (ap (λ (x : World). x.pages) st.3)
linked_step set w v links makes (TakeSet t m) s k st g = link_some set w v (TakeSet t m) links (λ n. set n == t) (λ p. owned_whole p m) s k st st.0 st.3 (λ n is. less_sole (w.pages n) m) (λ n. refl)
linked_step set w v links makes (YieldSet t m) s k st g = link_some set w v (YieldSet t m) links (λ n. set n == t) given_up s k st st.0 st.2 (λ n is. less_whole (w.pages n) (clean_whole w.group (w.pages n) m (all_running w st.0 s n) (st.1 n is).own (st.1 n is).up (st.1 n is).clean)) (λ n. refl)
linked_step set w v links makes (PurgeSet t m) s k st g = link_some set w v (PurgeSet t m) links (λ n. set n == t) given_up s k st st.0 st.2 (λ n is. less_whole (w.pages n) (written_whole w.group (w.pages n) m (all_running w st.0 s n) (st.1 n is).own (st.1 n is).written)) (λ n. refl)
linked_step set w v links makes Lose s k st g = λ n i l is. subst (λ (x : World). LinksAt links x n i l) (sym st.2)
    (regime_link w.down w.group.lost false true (lose (w.pages n)) (lose (w.pages l.page)) i l.change (inr refl)
    (grown w.down w.group.lost (w.pages n) (lose (w.pages n)) (w.pages l.page) (lose (w.pages l.page)) i l.change (no_less _ _ refl refl refl refl refl) (no_less _ _ refl refl refl refl refl) (λ _ lt. inl lt) (all_running w st.0 s n).within (k n i l is)))
linked_step set w v links makes (ReadLog m) s k st g = unchanged w v links k (ap (λ (x : World). x.down) st.2 ∙ sym st.0) (ap (λ (x : World). x.group.lost) st.2) (ap (λ (x : World). x.pages) st.2)
linked_step set w v links makes Rebuilt s k st g = λ n i l is. subst (λ (x : World). LinksAt links x n i l) (sym st.3)
    (rebuilt_link w.down w.group.lost false false w.group (w.pages n) (w.pages l.page) i l.change (all_running w st.0 s n) (all_running w st.0 s l.page) st.1 (all_read w.group (w.pages l.page) (all_running w st.0 s l.page) st.1 (st.2 l.page)) (st.2 l.page) (k n i l is))
linked_step set w v links makes (Fail m cut) s k st g = λ n i l is. subst (λ (x : World). LinksAt links x n i l) (sym st.2)
    (subst (λ b. LinkHolds b w.group.lost (fail (w.pages n) m (cut n)) (fail (w.pages l.page) m (cut l.page)) i l.change) st.0
    (cut_link w.down w.group.lost w.group (w.pages n) (w.pages l.page) m (cut n) (cut l.page) i l.change (all_running w st.0 s l.page) (st.1 n) (st.1 l.page) (k n i l is)))
linked_step set w v links makes (Restart m) s k st g = unchanged w v links k (ap (λ (x : World). x.down) st.2 ∙ sym st.0) (ap (λ (x : World). x.group.lost) st.2) (ap (λ (x : World). x.pages) st.2)
linked_step set w v links makes (Open m) s k st g = unchanged w v links k (ap (λ (x : World). x.down) st.3 ∙ sym st.0) (ap (λ (x : World). x.group.lost) st.3) (ap (λ (x : World). x.pages) st.3)
linked_step set w v links makes (GroupFail cut counter) s k st g = λ n i l is. subst (λ (x : World). LinksAt links x n i l) (sym st.2)
    (whole_cut_link w.down w.group.lost true true w.group (w.pages n) (w.pages l.page) (cut n) (cut l.page) i l.change refl (stable_shared w.down w.group (w.pages l.page) (s.stands l.page)) (st.0 n) (st.0 l.page) (k n i l is))
linked_step set w v links makes (Forward p a) s k st g = quiet w v links k (ap (λ (x : World). x.down) st.3 ∙ sym st.0) (ap (λ (x : World). x.group.lost) st.3)
    (λ n. subst (λ (x : World). IsNoLess (w.pages n) (x.pages n)) (sym st.3) (less_at w.pages p (brought_forward (w.pages p) a) (no_less _ _ refl refl refl refl refl) n))
    (λ n. subst (λ (x : World). (x.pages n).shared ≡ (w.pages n).shared) (sym st.3) (same_put w.pages p (brought_forward (w.pages p) a) refl n))
    (low_after set w v (Forward p a) s st)
  where
    same_put : (pages : ℕ → Page) (p : ℕ) (q : Page) → q.shared ≡ (pages p).shared → (n : ℕ) → (put pages p q n).shared ≡ (pages n).shared
    same_put pages p q e n = elim (cases_eq n p) [ inl h ↦ grind (arith, e, h) | inr h ↦ grind (arith, e, h) ]
linked_step set w v links makes (Compensate p m) s k st g = λ n i l is. subst (λ (x : World). LinksAt links x n i l) (sym st.1)
    (subst (λ x. LinkHolds true w.group.lost x (put w.pages p (compensate (w.pages p) m (w.group.stable m) (w.group.counter + 1)) l.page) i l.change) (put_is w.pages p (λ q. compensate q m (w.group.stable m) (w.group.counter + 1)) n)
    (subst (λ x. LinkHolds true w.group.lost (if n == p then compensate (w.pages n) m (w.group.stable m) (w.group.counter + 1) else w.pages n) x i l.change) (put_is w.pages p (λ q. compensate q m (w.group.stable m) (w.group.counter + 1)) l.page)
    (compensated w links p m n i l s st.0 k is)))
linked_step set w v links makes (Append m) s k st g = unchanged w v links k (ap (λ (x : World). x.down) st.1 ∙ sym st.0) (ap (λ (x : World). x.group.lost) st.1) (ap (λ (x : World). x.pages) st.1)
linked_step set w v links makes Rise s k st g = λ n i l is. subst (λ (x : World). LinksAt links x n i l) (sym st.2)
    (risen_link w.down w.group.lost false false w.group (w.pages n) (w.pages l.page) i l.change (all_fallen w st.0 s l.page) (k n i l is))

pub always_linked : AlwaysLinked
always_linked set [] links ends w v s k run = λ n i l is. subst (λ (x : World). LinksAt links x n i l) (sym run.0) (k n i l (subst (λ (f : Links). f n i ≡ Some l) run.1 is))
always_linked set (a ∷ acts) links ends w v s k run = always_linked set acts (links_after links w a.makes a.move) ends run.0 v (kept_step set w run.0 a.move s run.1) (linked_step set w run.0 links a.makes a.move s k run.1 run.2) run.3

-- ---- where pointers lead
pub last_of_sole : (g : Group) (p : Page) (m : ℕ) → Coherent g p → g.status m ≡ Up → IsUsable g p m → p.sole ≡ true → (p.frame m).version ≡ p.last
last_of_sole g p m s up use-it sole =
    let a = s.alone_bit in let b = s.sole_valid m in let c = s.newest m in let d = s.marked_last m in let e = s.within in let f = s.unowned in
    elim (cases_Bool (p.frame m).marked) [
      | inl h ↦ d h
      | inr h ↦ let own : p.owner ≡ Some m = owner use-it.1 in b sole own up use-it.0 h ∙ whole own h
    ]
  where
    owner : (p.bit m ≡ true) ⊎ ((p.sole ≡ true) × (p.owner ≡ Some m) × (g.status m ≡ Up)) → p.owner ≡ Some m
    owner (inr h) = h.1
    owner (inl h) = held p.owner refl
      where
        held : (o : Option ℕ) → p.owner ≡ o → p.owner ≡ Some m
        held None e = absurd (both_ways p.sole (s.unowned e) sole)
        held (Some k) e = elim (cases_eq m k) [ inl q ↦ e ∙ ap Some (sym q) | inr ne ↦ absurd (both_ways (p.bit m) (s.alone_bit k m sole e ne) h) ]

    whole : p.owner ≡ Some m → (p.frame m).marked ≡ false → p.shared ≡ p.last
    whole own h = let n = s.newest m own in let w = s.within in grind (arith, n, w, h, up)

lead : (w : World) (m n i : ℕ) (l : Link) → Good w → w.down ≡ false → w.group.status m ≡ Up → IsUsable w.group (w.pages n) m → IsUsable w.group (w.pages l.page) m
    → LinkHolds w.down w.group.lost (w.pages n) (w.pages l.page) i l.change → i < ((w.pages n).frame m).version → l.change < ((w.pages l.page).frame m).version
lead w m n i l s up live from to k lt =
    let p = w.pages n in
    let q = w.pages l.page in
    let sp = all_running w up s n in
    let sq = all_running w up s l.page in
    let gp = gives w.group p sp in
    let gq = gives w.group q sq in
    let low : i < p.last = let x = gp.versions.frames m from.0 in omega (arith, x, lt) in
    let found = λ (h : (l.change < q.shared) ⊎ ((l.change < q.last) × (q.author l.change ≡ m))). gq.finds_own m l.change to live h in
    elim (cases_Bool q.sole) [
      | inl sole ↦ let e = last_of_sole w.group q m sq live to sole in let x = k.there low in omega (arith, e, x)
      | inr part ↦ elim (cases_lt i p.shared) [
        | inl is ↦ found (inl (reached (k.shared up (cached sq part to.1) is) part))
        | inr unshared ↦ elim (k.made low) [
          | inl is ↦ found (inl is)
          | inr same-one ↦ found (inr (k.there low, sym same-one.0 ∙ mine sp gp from unshared low lt))
        ]
      ]
    ]
  where
    reached : (l.change < (w.pages l.page).shared) ⊎ ((w.pages l.page).sole ≡ true) → (w.pages l.page).sole ≡ false → l.change < (w.pages l.page).shared
    reached (inl h) part = h
    reached (inr h) part = absurd (both_ways _ part h)

    cached : Coherent w.group (w.pages l.page) → (w.pages l.page).sole ≡ false → ((w.pages l.page).bit m ≡ true) ⊎ (((w.pages l.page).sole ≡ true) × ((w.pages l.page).owner ≡ Some m) × (w.group.status m ≡ Up)) → w.group.lost ≡ false
    cached sq part (inr h) = absurd (both_ways _ part h.0)
    cached sq part (inl h) = elim (cases_Bool w.group.lost) [ inl gone ↦ absurd (both_ways _ (sq.lost_bits m gone) h) | inr there ↦ there ]

    mine : Coherent w.group (w.pages n) → Gives w.group (w.pages n) → IsUsable w.group (w.pages n) m → (w.pages n).shared ≤ i → i < (w.pages n).last → i < ((w.pages n).frame m).version → (w.pages n).author i ≡ m
    mine sp gp from unshared low lt = elim (gp.newest_allowed m from) [
      | inl e ↦ absurd (let x : i < (w.pages n).shared = omega (arith, e, lt) in omega (arith, x, unshared))
      | inr h ↦ let a = sp.own i unshared low in let b = h.0 in cc
    ]

pub links_lead : LinksLead
links_lead links w m n i l s k up live from to is lt = lead w m n i l s up live from to (k n i l is) lt
