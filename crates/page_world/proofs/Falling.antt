-- A member that fails, restarts and is up again.
use Rattle.std.proofs.Common.{◌≡◌, ℕ, zero, suc, ◌+◌, ◌≤◌, refl, sym, ◌∙◌, ap, subst, arith, Bool, true, false, inl, inr, List, [], ◌∷◌, map, Option, Some, None}
use Rattle.std.specs.Prelude.{◌≢◌, ◌⊎◌, ◌-◌, ◌==◌, cond, if◌then◌else◌, is_some, unwrap_or, slice_index_or, slice_set}
use Rattle.std.specs.Option.{option_map, option_map_or}
use Rattle.std.proofs.lemmas.Bool.{both_ways, cond-true, cond-false, cases_eq, eq-eqb, ne_eqb}
use Rattle.list_structure.specs.declared.standing.MemberStatus.{MemberStatus}
use Rattle.list_structure.specs.declared.standing.MemberStatus.TheVariants as standing
use Rattle.list_structure.specs.States.{ListsState}
use Rattle.list_structure.specs.Standings.{status_of}
use Rattle.cache_structure.specs.Entries.{Entry, entry_of, is_locked_by, freed_of}
use Rattle.cache_structure.specs.Frames.{is_page, member_dropped}
use Rattle.cache_structure.specs.Directory.{Directory, after_fail}
use Rattle.facility.specs.States.{Held}
use Rattle.page_protocol.specs.Page.{Page, Frame, Failed, put, unfilled, fail}
use Rattle.page_protocol.specs.Moves.{World, failed, restarting, opened}
use Rattle.page_protocol.specs.Words.{FailureIsPossible}
use Rattle.page_world.specs.Numbers.{page_at}
use Rattle.page_world.specs.Holdings.{Copy, no_copy, Cast, no_cast, Holdings, PageHeld, held_of, StandsAs, with_facility, as_status}
use Rattle.page_world.specs.Tied.{PageTied, bit_in, AreApart, Tied}
use Rattle.page_world.specs.Failing.{without, FailsMoves, RestartsMoves, OpensMoves}
use Rattle.page_world.proofs.Slices.{alike_tied}
use Rattle.page_world.proofs.Entries.{map_entry}
use Rattle.page_world.proofs.Losing.{same_directory}

-- ---- standings
at_set : {A : Type 0} → (xs : List A) (i : ℕ) (a d : A) → (slice_index_or (slice_set xs i a) i d ≡ a) ⊎ (slice_index_or (slice_set xs i a) i d ≡ d)
at_set [] i a d = inr refl
at_set (x ∷ xs) zero a d = inl refl
at_set (x ∷ xs) (suc i) a d = at_set xs i a d

set_apart : {A : Type 0} → (xs : List A) (i j : ℕ) (a d : A) → j ≢ i → slice_index_or (slice_set xs i a) j d ≡ slice_index_or xs j d
set_apart [] i j a d ne = refl
set_apart (x ∷ xs) zero zero a d ne = absurd (ne refl)
set_apart (x ∷ xs) zero (suc j) a d ne = refl
set_apart (x ∷ xs) (suc i) zero a d ne = refl
set_apart (x ∷ xs) (suc i) (suc j) a d ne = set_apart xs i j a d (λ e. ne (ap suc e))

less_apart : (k m : ℕ) → 1 ≤ k → 1 ≤ m → k ≢ m → k - 1 ≢ m - 1
less_apart k m a b ne e = ne (omega (arith, a, b, e))

failed_status : (ss : List MemberStatus) (m : ℕ) → Failed ≡ as_status (status_of (slice_set ss (m - 1) standing.Failed) m)
failed_status ss m = elim (at_set ss (m - 1) standing.Failed standing.Down) [
  | inl e ↦ sym (ap as_status e)
  | inr e ↦ sym (ap as_status e)
]

-- ---- the entry of a page
freed_page : (m : ℕ) (e : Entry) → (freed_of m e).page ≡ e.page
freed_page m e = by (is_locked_by m e)
  where
    by : (b : Bool) → (cond b (record e { castout = None }) e).page ≡ e.page
    by true = refl
    by false = refl

freed_part : {A : Type 0} → (f : Entry → A) (d : A) → ((e : Entry) → f (record e { castout = None }) ≡ f e) → (m : ℕ) (o : Option Entry) → option_map_or f (option_map (freed_of m) o) d ≡ option_map_or f o d
freed_part f d same m None = refl
freed_part f d same m (Some e) = by (is_locked_by m e)
  where
    by : (b : Bool) → f (cond b (record e { castout = None }) e) ≡ f e
    by true = same e
    by false = refl

-- the castout lock, where it isn't the member's
abbrev left_lock : ℕ → Option ℕ → Option ℕ
left_lock m o = if (unwrap_or o (m + 1)) == m then None else o

none_left : (m : ℕ) → left_lock m None ≡ None
none_left m = by ((m + 1) == m)
  where
    by : (b : Bool) → ◌≡◌ {A = Option ℕ} (if b then None else None) None
    by true = refl
    by false = refl

freed_lock : (m : ℕ) (e : Entry) → (freed_of m e).castout ≡ left_lock m e.castout
freed_lock m e = by e.castout refl
  where
    at : (b : Bool) → (cond b (record e { castout = None }) e).castout ≡ (if b then None else e.castout)
    at true = refl
    at false = refl

    by : (o : Option ℕ) → e.castout ≡ o → (cond (option_map_or (λ by. by == m) e.castout false) (record e { castout = None }) e).castout ≡ left_lock m e.castout
    by None h = at (option_map_or (λ by. by == m) e.castout false) ∙ (λ i. if option_map_or (λ by. by == m) (h i) false then None else h i) ∙ sym (ap (left_lock m) h ∙ none_left m)
    by (Some k) h = at (option_map_or (λ by. by == m) e.castout false) ∙ (λ i. if option_map_or (λ by. by == m) (h i) false then None else h i) ∙ sym (ap (left_lock m) h)

freed_locks : (m : ℕ) (o : Option Entry) → option_map_or (λ (e : Entry). e.castout) (option_map (freed_of m) o) None ≡ left_lock m (option_map_or (λ (e : Entry). e.castout) o None)
freed_locks m None = sym (none_left m)
freed_locks m (Some e) = freed_lock m e

lock_was : (m k : ℕ) (o : Option ℕ) → left_lock m o ≡ Some k → o ≡ Some k
lock_was m k o = by ((unwrap_or o (m + 1)) == m)
  where
    by : (b : Bool) → (if b then None else o) ≡ Some k → o ≡ Some k
    by true e = absurd (let both : ◌≡◌ {A = Option ℕ} None (Some k) = e in cc both)
    by false e = e

no_copy_bit : (x : Bool) → bit_in no_copy x ≡ false
no_copy_bit x = refl

-- ---- one page
record IsWithout (a b : PageHeld) (m : ℕ) : Type 0 where
  bytes : b.bytes ≡ a.bytes
  changed : b.changed ≡ a.changed
  castout : b.castout ≡ left_lock m a.castout
  written : b.written ≡ a.written
  disk : b.disk ≡ a.disk
  bound : (k : ℕ) → k ≢ m → b.bound k ≡ a.bound k
  set : (k : ℕ) → k ≢ m → b.set k ≡ a.set k
  copy : b.copies m ≡ no_copy
  others : (k : ℕ) → k ≢ m → b.copies k ≡ a.copies k
  cast : b.casts m ≡ no_cast
  casts : (k : ℕ) → k ≢ m → b.casts k ≡ a.casts k
  owner : b.owner ≡ a.owner

by_either : (P : ℕ → Type 0) (m : ℕ) → P m → ((k : ℕ) → k ≢ m → P k) → (k : ℕ) → P k
by_either P m here there k = elim (cases_eq k m) [
  | inl e ↦ subst P (sym e) here
  | inr ne ↦ there k ne
]

here : {A : Type 0} → (f : ℕ → A) (m : ℕ) (x : A) → put f m x m ≡ x
here f m x = cond-true (m == m) x (f m) (eq-eqb m m refl)

there : {A : Type 0} → (f : ℕ → A) (m k : ℕ) (x : A) → k ≢ m → put f m x k ≡ f k
there f m k x ne = cond-false (k == m) x (f k) (ne_eqb k m ne)

failed_tied : (a b : PageHeld) (p : Page) (content : ℕ → List ℕ) (m n : ℕ) → PageTied a p content → IsWithout a b m → PageTied b (fail p m n) content
failed_tied a b p content m n t s = record {
  bytes = s.bytes ∙ t.bytes;
  changed = s.changed ∙ t.changed;
  there = t.there;
  castout = s.castout ∙ ap (left_lock m) t.castout;
  written = λ k e. s.written ∙ t.written k (lock_was m k p.castout e);
  disk = s.disk ∙ t.disk;
  bit = by_either (λ k. bit_in (b.copies k) (b.bound k) ≡ put p.bit m false k) m
      (ap (λ (c : Copy). bit_in c (b.bound m)) s.copy ∙ sym (here p.bit m false))
      (λ k ne. (λ i. bit_in (s.others k ne i) (s.bound k ne i)) ∙ t.bit k ∙ sym (there p.bit m k false ne));
  own = by_either (λ k. (b.copies k).placed ≡ true → (b.copies k).noted ≡ true → b.set k ≡ true → b.bound k ≡ true) m
      (λ x y z. absurd (both_ways false refl (sym (ap (λ (c : Copy). c.placed) s.copy) ∙ x)))
      (λ k ne x y z. s.bound k ne ∙ t.own k (sym (ap (λ (c : Copy). c.placed) (s.others k ne)) ∙ x) (sym (ap (λ (c : Copy). c.noted) (s.others k ne)) ∙ y) (sym (s.set k ne) ∙ z));
  filled = by_either (λ k. (b.copies k).filled ≡ (put p.frame m (unfilled 0 false) k).filled) m
      (ap (λ (c : Copy). c.filled) s.copy ∙ sym (ap (λ (f : Frame). f.filled) (here p.frame m (unfilled 0 false))))
      (λ k ne. ap (λ (c : Copy). c.filled) (s.others k ne) ∙ t.filled k ∙ sym (ap (λ (f : Frame). f.filled) (there p.frame m k (unfilled 0 false) ne)));
  marked = by_either (λ k. (b.copies k).marked ≡ (put p.frame m (unfilled 0 false) k).marked) m
      (ap (λ (c : Copy). c.marked) s.copy ∙ sym (ap (λ (f : Frame). f.marked) (here p.frame m (unfilled 0 false))))
      (λ k ne. ap (λ (c : Copy). c.marked) (s.others k ne) ∙ t.marked k ∙ sym (ap (λ (f : Frame). f.marked) (there p.frame m k (unfilled 0 false) ne)));
  same = by_either (λ k. (put p.frame m (unfilled 0 false) k).filled ≡ true → (b.copies k).bytes ≡ content (put p.frame m (unfilled 0 false) k).version) m
      (λ x. absurd (both_ways false refl (sym (ap (λ (f : Frame). f.filled) (here p.frame m (unfilled 0 false))) ∙ x)))
      (λ k ne x. ap (λ (c : Copy). c.bytes) (s.others k ne) ∙ t.same k (sym (ap (λ (f : Frame). f.filled) (there p.frame m k (unfilled 0 false) ne)) ∙ x) ∙ sym (ap (λ (f : Frame). content f.version) (there p.frame m k (unfilled 0 false) ne)));
  indirect = by_either (λ k. (put p.frame m (unfilled 0 false) k).direct ≡ false) m
      (ap (λ (f : Frame). f.direct) (here p.frame m (unfilled 0 false)))
      (λ k ne. ap (λ (f : Frame). f.direct) (there p.frame m k (unfilled 0 false) ne) ∙ t.indirect k);
  buffer = by_either (λ k. (b.casts k).taken ≡ true → left_lock m p.castout ≡ Some k → (b.casts k).bytes ≡ content p.buffer) m
      (λ x e. absurd (both_ways false refl (sym (ap (λ (c : Cast). c.taken) s.cast) ∙ x)))
      (λ k ne x e. ap (λ (c : Cast). c.bytes) (s.casts k ne) ∙ t.buffer k (sym (ap (λ (c : Cast). c.taken) (s.casts k ne)) ∙ x) (lock_was m k p.castout e));
  sent = by_either (λ k. (b.casts k).taken ≡ true → left_lock m p.castout ≡ Some k → (b.casts k).sent ≡ p.sent) m
      (λ x e. absurd (both_ways false refl (sym (ap (λ (c : Cast). c.taken) s.cast) ∙ x)))
      (λ k ne x e. ap (λ (c : Cast). c.sent) (s.casts k ne) ∙ t.sent k (sym (ap (λ (c : Cast). c.taken) (s.casts k ne)) ∙ x) (lock_was m k p.castout e));
  owner = t.owner ∙ sym s.owner;
  part = t.part;
}

without_page : (g : Holdings) (m n : ℕ) (v : Held) → v.directory ≡ after_fail g.facility.directory m → IsWithout (held_of g n) (held_of (with_facility (without g m) v) n) m
without_page g m n v e = subst (λ (d : Directory). IsWithout (held_of g n) (held_of (with_facility (without g m) (record v { directory = d })) n) m) (sym e) (record {
  bytes = ap (λ o. option_map_or (λ (y : Entry). y.bytes) o None) now ∙ freed_part (λ (y : Entry). y.bytes) None (λ y. refl) m before;
  changed = ap (λ o. option_map_or (λ (y : Entry). y.changed) o false) now ∙ freed_part (λ (y : Entry). y.changed) false (λ y. refl) m before;
  castout = ap (λ o. option_map_or (λ (y : Entry). y.castout) o None) now ∙ freed_locks m before;
  written = ap (λ o. option_map_or (λ (y : Entry). y.written) o false) now ∙ freed_part (λ (y : Entry). y.written) false (λ y. refl) m before;
  disk = refl;
  bound = λ k ne. ap (is_page (page_at n)) (at k ne);
  set = λ k ne. ap is_some (at k ne);
  copy = cond-true (m == m) no_copy (g.copies m n) (eq-eqb m m refl);
  others = λ k ne. other k ne;
  cast = cond-true (m == m) no_cast (g.casts m n) (eq-eqb m m refl);
  casts = λ k ne. cond-false (k == m) no_cast (g.casts k n) (ne_eqb k m ne);
  owner = refl;
})
  where
    before : Option Entry
    before = entry_of g.facility.directory.entries (page_at n)

    now : entry_of (map (freed_of m) g.facility.directory.entries) (page_at n) ≡ option_map (freed_of m) before
    now = map_entry (freed_of m) (freed_page m) (page_at n) g.facility.directory.entries

    other : (k : ℕ) → k ≢ m → (if k == m then no_copy else g.copies k n) ≡ g.copies k n
    other k ne = cond-false (k == m) no_copy (g.copies k n) (ne_eqb k m ne)

    at : (k : ℕ) → k ≢ m → member_dropped g.facility.directory.registered m k (if k == m then no_copy else g.copies k n).index ≡ g.facility.directory.registered k (g.copies k n).index
    at k ne =
        cond-false (k == m) None (g.facility.directory.registered k (if k == m then no_copy else g.copies k n).index) (ne_eqb k m ne)
        ∙ ap (λ (c : Copy). g.facility.directory.registered k c.index) (other k ne)

-- ---- the group
without_apart : (g : Holdings) (m : ℕ) (v : Held) → AreApart g → AreApart (with_facility (without g m) v)
without_apart g m v a k i j = by (k == m)
  where
    by : (b : Bool) → (if b then no_copy else g.copies k i).placed ≡ true → (if b then no_copy else g.copies k j).placed ≡ true → (if b then no_copy else g.copies k i).index ≡ (if b then no_copy else g.copies k j).index → i ≡ j
    by true x y e = absurd (both_ways false refl x)
    by false x y e = a k i j x y e

pub fails : FailureIsPossible → FailsMoves
fails possible w g content m v good t least r = (
  cut,
  record {
    world = world;
    run = (world, (t.running, (λ n. (possible w m good t.running n).1), refl), refl);
    tied = record {
      running = refl;
      lost = t.lost ∙ sym (ap (λ (d : Directory). d.lost) r.directory);
      counter = t.counter ∙ sym r.counter;
      status = λ k a b. subst (λ (x : ListsState). put w.group.status m Failed k ≡ as_status (status_of x.statuses k)) (sym r.lists.others) (status k a (subst (λ (x : ListsState). k ≤ x.members) r.lists.others b));
      stable = t.stable;
      written = λ k. elim (k == m) as (λ b. (if b then w.group.stable m else w.group.written k) ≡ (if b then g.stable m else g.written k)) [ true ↦ t.stable m | false ↦ t.written k ];
      apart = without_apart g m v t.apart;
      pages = λ n. failed_tied (held_of g n) (held_of (with_facility (without g m) v) n) (w.pages n) (content n) m (cut n) (t.pages n) (without_page g m n v r.directory);
    };
  },
)
  where
    cut : ℕ → ℕ
    cut n = (possible w m good t.running n).0

    world : World
    world = record { down = false; group = failed w.group m; pages = λ n. fail (w.pages n) m (cut n) }

    status : (k : ℕ) → 1 ≤ k → k ≤ g.facility.lists.members → put w.group.status m Failed k ≡ as_status (status_of (slice_set g.facility.lists.statuses (m - 1) standing.Failed) k)
    status k a b = elim (cases_eq k m) [
      | inl e ↦ subst (λ z. put w.group.status m Failed z ≡ as_status (status_of (slice_set g.facility.lists.statuses (m - 1) standing.Failed) z)) (sym e) (here w.group.status m Failed ∙ failed_status g.facility.lists.statuses m)
      | inr ne ↦ there w.group.status m k Failed ne ∙ t.status k a b ∙ sym (ap as_status (set_apart g.facility.lists.statuses (m - 1) (k - 1) standing.Failed standing.Down (less_apart k m a least ne)))
    ]

-- another standing of one member
stood : (w : World) (g : Holdings) (content : ℕ → ℕ → List ℕ) (m : ℕ) (v : Held) (s : MemberStatus) → Tied w g content → StandsAs g.facility v m s
    → Tied (record { down = false; group = record w.group { status = put w.group.status m (as_status s) }; pages = w.pages }) (with_facility g v) content
stood w g content m v s t r = record {
  running = refl;
  lost = t.lost ∙ sym (ap (λ (d : Directory). d.lost) r.directory);
  counter = t.counter ∙ sym r.counter;
  status = λ k a b. elim (cases_eq k m) [
    | inl e ↦ subst (λ z. put w.group.status m (as_status s) z ≡ as_status (status_of v.lists.statuses z)) (sym e) (here w.group.status m (as_status s) ∙ sym (ap as_status r.own))
    | inr ne ↦ there w.group.status m k (as_status s) ne ∙ t.status k a (subst (λ x. k ≤ x) r.members b) ∙ sym (ap as_status (r.others k a ne))
  ];
  stable = t.stable;
  written = t.written;
  apart = t.apart;
  pages = λ n. alike_tied (held_of g n) (held_of (with_facility g v) n) (w.pages n) (content n) (same_directory g v n r.directory) (t.pages n);
}

pub restarts : RestartsMoves
restarts w g content m v t least among down r = record {
  world = record { down = false; group = restarting w.group m; pages = w.pages };
  run = (record { down = false; group = restarting w.group m; pages = w.pages }, (t.running, t.status m least among ∙ ap as_status down, refl), refl);
  tied = stood w g content m v standing.Restarting t r;
}

pub opens : OpensMoves
opens w g content m v t least among restarting free r = record {
  world = record { down = false; group = opened w.group m; pages = w.pages };
  run = (record { down = false; group = opened w.group m; pages = w.pages }, (t.running, t.status m least among ∙ ap as_status restarting, (λ n e. free n (sym (t.pages n).owner ∙ e)), refl), refl);
  tied = stood w g content m v standing.Up t r;
}
