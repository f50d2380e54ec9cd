-- The group page by page: what an event changes of one page, and what it leaves alone.
use Rattle.std.proofs.Common.{◌≡◌, ℕ, ◌≤◌, refl, sym, ◌∙◌, ap, subst, Bool, true, false, inl, inr, List, [], ◌∷◌}
use Rattle.std.specs.Prelude.{◌≢◌, ◌==◌, ◌&&◌, if◌then◌else◌}
use Rattle.std.proofs.lemmas.Bool.{cond-true, cond-false, cases_eq, eq-eqb, ne_eqb}
use Rattle.list_structure.specs.Standings.{status_of}
use Rattle.page_protocol.specs.Page.{Page, put}
use Rattle.page_protocol.specs.Moves.{World, PageMove, At, PageStep}
use Rattle.page_world.specs.Holdings.{Copy, Cast, Holdings, PageHeld, held_of, as_status}
use Rattle.page_world.specs.Tied.{PageTied, bit_in, AreApart, Tied, Moved}

-- ---- a page that an event leaves alone: the registrations of frames that have it are the same, or are gone with another page
pub record Alike (a b : PageHeld) : Type 0 where
  pub bytes : b.bytes ≡ a.bytes
  pub changed : b.changed ≡ a.changed
  pub castout : b.castout ≡ a.castout
  pub written : b.written ≡ a.written
  pub disk : b.disk ≡ a.disk
  pub bound : (m : ℕ) → (b.copies m).placed ≡ true → (b.copies m).noted ≡ true → b.bound m ≡ a.bound m
  pub set : (m : ℕ) → (b.copies m).placed ≡ true → (b.copies m).noted ≡ true → b.set m ≡ true → a.set m ≡ true
  pub copies : (m : ℕ) → b.copies m ≡ a.copies m
  pub casts : (m : ℕ) → b.casts m ≡ a.casts m
  pub owner : b.owner ≡ a.owner

bit_same : (p q x y : Bool) → (p ≡ true → q ≡ true → x ≡ y) → (p && (q && x)) ≡ (p && (q && y))
bit_same true true x y h = h refl refl
bit_same true false x y h = refl
bit_same false q x y h = refl

pub alike_tied : (a b : PageHeld) (p : Page) (content : ℕ → List ℕ) → Alike a b → PageTied a p content → PageTied b p content
alike_tied a b p content s t = record {
  bytes = s.bytes ∙ t.bytes;
  changed = s.changed ∙ t.changed;
  there = t.there;
  castout = s.castout ∙ t.castout;
  written = λ m e. s.written ∙ t.written m e;
  disk = s.disk ∙ t.disk;
  bit = λ m. bit_same (b.copies m).placed (b.copies m).noted (b.bound m) (a.bound m) (s.bound m) ∙ ap (λ (c : Copy). bit_in c (a.bound m)) (s.copies m) ∙ t.bit m;
  own = λ m x y z. s.bound m x y ∙ t.own m (sym (ap (λ (c : Copy). c.placed) (s.copies m)) ∙ x) (sym (ap (λ (c : Copy). c.noted) (s.copies m)) ∙ y) (s.set m x y z);
  filled = λ m. ap (λ (c : Copy). c.filled) (s.copies m) ∙ t.filled m;
  marked = λ m. ap (λ (c : Copy). c.marked) (s.copies m) ∙ t.marked m;
  same = λ m f. ap (λ (c : Copy). c.bytes) (s.copies m) ∙ t.same m f;
  indirect = t.indirect;
  buffer = λ m x y. ap (λ (c : Cast). c.bytes) (s.casts m) ∙ t.buffer m (sym (ap (λ (c : Cast). c.taken) (s.casts m)) ∙ x) y;
  sent = λ m x y. ap (λ (c : Cast). c.sent) (s.casts m) ∙ t.sent m (sym (ap (λ (c : Cast). c.taken) (s.casts m)) ∙ x) y;
  owner = t.owner ∙ sym s.owner;
  part = t.part;
}

pub alike_on : (a b c : PageHeld) → Alike a b → Alike b c → Alike a c
alike_on a b c s t = record {
  bytes = t.bytes ∙ s.bytes;
  changed = t.changed ∙ s.changed;
  castout = t.castout ∙ s.castout;
  written = t.written ∙ s.written;
  disk = t.disk ∙ s.disk;
  bound = λ m x y. t.bound m x y ∙ s.bound m (sym (ap (λ (c : Copy). c.placed) (t.copies m)) ∙ x) (sym (ap (λ (c : Copy). c.noted) (t.copies m)) ∙ y);
  set = λ m x y z. s.set m (sym (ap (λ (c : Copy). c.placed) (t.copies m)) ∙ x) (sym (ap (λ (c : Copy). c.noted) (t.copies m)) ∙ y) (t.set m x y z);
  copies = λ m. t.copies m ∙ s.copies m;
  casts = λ m. t.casts m ∙ s.casts m;
  owner = t.owner ∙ s.owner;
}

-- ---- what is the same beside the pages
pub record Beside (g after : Holdings) : Type 0 where
  pub lost : after.facility.directory.lost ≡ g.facility.directory.lost
  pub counter : after.facility.counter ≡ g.facility.counter
  pub members : after.facility.lists.members ≡ g.facility.lists.members
  pub statuses : after.facility.lists.statuses ≡ g.facility.lists.statuses
  pub stable : (m : ℕ) → after.stable m ≡ g.stable m
  pub written : (m : ℕ) → after.written m ≡ g.written m
  pub apart : AreApart after

-- the same world with these pages
pub tied_by : (w : World) (g after : Holdings) (content : ℕ → ℕ → List ℕ) (pages : ℕ → Page)
    → Tied w g content → Beside g after → ((n : ℕ) → PageTied (held_of after n) (pages n) (content n)) → Tied (record { down = false; group = w.group; pages = pages }) after content
tied_by w g after content pages t b each = record {
  running = refl;
  lost = t.lost ∙ sym b.lost;
  counter = t.counter ∙ sym b.counter;
  status = λ m x y. t.status m x (subst (λ k. m ≤ k) b.members y) ∙ ap (λ s. as_status (status_of s m)) (sym b.statuses);
  stable = λ m. t.stable m ∙ sym (b.stable m);
  written = λ m. t.written m ∙ sym (b.written m);
  apart = b.apart;
  pages = each;
}

-- an event that is no move
pub none_moved : (w : World) (g after : Holdings) (content : ℕ → ℕ → List ℕ) → Tied w g content → Beside g after → ((n : ℕ) → PageTied (held_of after n) (w.pages n) (content n)) → Moved w [] after content
none_moved w g after content t b each =
    let e : record { down = false; group = w.group; pages = w.pages } ≡ w = (λ i. record { down = sym t.running i; group = w.group; pages = w.pages }) in
    record { world = w; run = refl; tied = subst (λ v. Tied v after content) e (tied_by w g after content w.pages t b each) }

pub all_alike : (w : World) (g after : Holdings) (content : ℕ → ℕ → List ℕ) → Tied w g content → ((n : ℕ) → Alike (held_of g n) (held_of after n)) → (n : ℕ) → PageTied (held_of after n) (w.pages n) (content n)
all_alike w g after content t alike n = alike_tied (held_of g n) (held_of after n) (w.pages n) (content n) (alike n) (t.pages n)

-- the pages where one is changed
pub put_tied : (w : World) (g after : Holdings) (content : ℕ → ℕ → List ℕ) (n : ℕ) (q : Page) → Tied w g content
    → PageTied (held_of after n) q (content n) → ((k : ℕ) → k ≢ n → Alike (held_of g k) (held_of after k)) → (k : ℕ) → PageTied (held_of after k) (put w.pages n q k) (content k)
put_tied w g after content n q t new others k = elim (cases_eq k n) [
  | inl e ↦ subst (λ j. PageTied (held_of after j) (put w.pages n q j) (content j)) (sym e) (subst (λ z. PageTied (held_of after n) z (content n)) (sym (cond-true (n == n) q (w.pages n) (eq-eqb n n refl))) new)
  | inr ne ↦ subst (λ z. PageTied (held_of after k) z (content k)) (sym (cond-false (k == n) q (w.pages k) (ne_eqb k n ne))) (alike_tied (held_of g k) (held_of after k) (w.pages k) (content k) (others k ne) (t.pages k))
]

-- an event at one page is a move of that page
pub one_moved : (w : World) (g after : Holdings) (content : ℕ → ℕ → List ℕ) (n : ℕ) (e : PageMove) (q : Page) → Tied w g content → Beside g after → PageStep w.group (w.pages n) e q
    → PageTied (held_of after n) q (content n) → ((k : ℕ) → k ≢ n → Alike (held_of g k) (held_of after k)) → Moved w (At n e ∷ []) after content
one_moved w g after content n e q t b step new others = record {
  world = record { down = false; group = w.group; pages = put w.pages n q };
  run = (record { down = false; group = w.group; pages = put w.pages n q }, (t.running, (q, step, refl)), refl);
  tied = tied_by w g after content (put w.pages n q) t b (put_tied w g after content n q t new others);
}

-- ---- one copy is another
pub put2_here : {A : Type 0} → (f : ℕ → ℕ → A) (a b : ℕ) (x : A) → (if (a == a) && (b == b) then x else f a b) ≡ x
put2_here f a b x = cond-true ((a == a) && (b == b)) x (f a b) (both (a == a) (b == b) (eq-eqb a a refl) (eq-eqb b b refl))
  where
    both : (p q : Bool) → p ≡ true → q ≡ true → (p && q) ≡ true
    both true true e f = refl
    both true false e f = f
    both false q e f = e

pub put2_other : {A : Type 0} → (f : ℕ → ℕ → A) (a b p q : ℕ) (x : A) → q ≢ b → (if (p == a) && (q == b) then x else f p q) ≡ f p q
put2_other f a b p q x ne = cond-false ((p == a) && (q == b)) x (f p q) (second (p == a) (q == b) (ne_eqb q b ne))
  where
    second : (r s : Bool) → s ≡ false → (r && s) ≡ false
    second true s e = e
    second false s e = refl

-- by member, at that page
pub put2_by : {A : Type 0} → (f : ℕ → ℕ → A) (a b p : ℕ) (x : A) → (if (p == a) && (b == b) then x else f p b) ≡ (if p == a then x else f p b)
put2_by f a b p x = ap (λ (t : Bool). if t then x else f p b) (right (p == a) (b == b) (eq-eqb b b refl))
  where
    right : (r s : Bool) → s ≡ true → (r && s) ≡ r
    right true s e = e
    right false s e = refl
