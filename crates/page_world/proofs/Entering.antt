-- An entry of the directory that is found, made in a free place, or made by the reclaim of another.
use Rattle.std.proofs.Common.{◌≡◌, ℕ, refl, sym, ◌∙◌, ap, subst, Bool, true, false, List, [], ◌∷◌, Option, Some, None}
use Rattle.std.specs.Prelude.{◌≢◌, ◌==◌, ◌||◌, if◌then◌else◌, is_some, cond}
use Rattle.std.specs.Option.{option_map, option_map_or}
use Rattle.std.proofs.lemmas.Bool.{cond-false, both_ways, or_parts, not-true, ne_eqb}
use Rattle.std.proofs.lemmas.Option.{same_Some}
use Rattle.ds_base.specs.declared.names.PageId.{PageId}
use Rattle.ds_base.specs.Pages.{same_page}
use Rattle.cache_structure.specs.Entries.{Entry, fresh, is_idle, entry_of, without, newest}
use Rattle.cache_structure.specs.Frames.{is_page, unless}
use Rattle.cache_structure.specs.Directory.{Directory, bytes_of, has_free_place, reclaimable, reclaimed, with_newest, made, with_entry}
use Rattle.cache_structure.specs.Sound.{IsSound}
use Rattle.page_protocol.specs.Page.{Page, reclaim, put}
use Rattle.page_protocol.specs.Moves.{World, Move, At, Reclaim, Run}
use Rattle.page_world.specs.Numbers.{page_number, page_at, set_of}
use Rattle.page_world.specs.Holdings.{Copy, Holdings, PageHeld, held_of, with_directory}
use Rattle.page_world.specs.Tied.{PageTied, bit_in, Tied}
use Rattle.page_world.specs.Cache.{reclaim_of, entry_moves}
use Rattle.page_world.proofs.Numbers.{named, numbered}
use Rattle.page_world.proofs.Entries.{page_is, page_self, page_apart, without_self, without_apart, newest_self, newest_apart, found_page, idle_found}
use Rattle.page_world.proofs.Slices.{Alike, Beside, tied_by, all_alike, put_tied}

-- ---- pages with other numbers are other pages
pub numbers_apart : (k n : ℕ) → k ≢ n → page_at k ≢ page_at n
numbers_apart k n ne e = ne (sym (numbered k) ∙ ap page_number e ∙ numbered n)

-- ---- an entry that says the same
pub record SameEntry (a b : Option Entry) : Type 0 where
  pub bytes : option_map_or (λ (e : Entry). e.bytes) b None ≡ option_map_or (λ (e : Entry). e.bytes) a None
  pub changed : option_map_or (λ (e : Entry). e.changed) b false ≡ option_map_or (λ (e : Entry). e.changed) a false
  pub castout : option_map_or (λ (e : Entry). e.castout) b None ≡ option_map_or (λ (e : Entry). e.castout) a None
  pub written : option_map_or (λ (e : Entry). e.written) b false ≡ option_map_or (λ (e : Entry). e.written) a false

pub entry_same : (a b : Option Entry) → b ≡ a → SameEntry a b
entry_same a b e = subst (λ x. SameEntry a x) (sym e) (record { bytes = refl; changed = refl; castout = refl; written = refl })

fresh_same : (a : Option Entry) (id : PageId) → a ≡ None → SameEntry a (Some (fresh id))
fresh_same a id e = subst (λ x. SameEntry x (Some (fresh id))) (sym e) (record { bytes = refl; changed = refl; castout = refl; written = refl })

newest_same : (es : List Entry) (e : Entry) (q : PageId) → SameEntry (entry_of es e.page) (Some e) → SameEntry (entry_of es q) (entry_of (newest e es) q)
newest_same es e q s = by (same_page q e.page) refl
  where
    by : (b : Bool) → same_page q e.page ≡ b → SameEntry (entry_of es q) (entry_of (newest e es) q)
    by true is = subst (λ z. SameEntry (entry_of es z) (entry_of (newest e es) z)) (sym (page_is q e.page is)) (subst (λ o. SameEntry (entry_of es e.page) o) (sym (newest_self e es)) s)
    by false is = entry_same (entry_of es q) (entry_of (newest e es) q) (newest_apart e q es (λ f. both_ways (same_page q e.page) is (subst (λ z. same_page z e.page ≡ true) (sym f) (page_self e.page))))

-- the pages beside a directory whose entries say the same, with the same registrations
pub entries_alike : (g : Holdings) (es : List Entry) (n : ℕ) → SameEntry (entry_of g.facility.directory.entries (page_at n)) (entry_of es (page_at n))
    → Alike (held_of g n) (held_of (with_directory g (record g.facility.directory { entries = es })) n)
entries_alike g es n s = record {
  bytes = s.bytes;
  changed = s.changed;
  castout = s.castout;
  written = s.written;
  disk = refl;
  bound = λ m x y. refl;
  set = λ m x y z. z;
  copies = λ m. refl;
  casts = λ m. refl;
  owner = refl;
}

-- a directory with the same standing
pub beside : (w : World) (g : Holdings) (content : ℕ → ℕ → List ℕ) (d : Directory) → Tied w g content → d.lost ≡ g.facility.directory.lost → Beside g (with_directory g d)
beside w g content d t e = record { lost = e; counter = refl; members = refl; statuses = refl; stable = λ m. refl; written = λ m. refl; apart = t.apart }

-- an entry becomes the newest
newest_pages : (w : World) (g : Holdings) (content : ℕ → ℕ → List ℕ) (e : Entry) → Tied w g content → SameEntry (entry_of g.facility.directory.entries e.page) (Some e)
    → (n : ℕ) → PageTied (held_of (with_directory g (with_newest g.facility.directory e)) n) (w.pages n) (content n)
newest_pages w g content e t s = all_alike w g (with_directory g (with_newest g.facility.directory e)) content t (λ n. entries_alike g (newest e g.facility.directory.entries) n (newest_same g.facility.directory.entries e (page_at n) s))

-- ---- an entry is reclaimed
pub dropped_bound : (id : PageId) (x : Option PageId) → is_page id (unless id x) ≡ false
dropped_bound id x = by (is_page id x) refl
  where
    by : (b : Bool) → is_page id x ≡ b → is_page id (cond b None x) ≡ false
    by true e = refl
    by false e = e

pub dropped_set : (id : PageId) (x : Option PageId) → (is_some x ≡ true → is_page id x ≡ true) → is_some (unless id x) ≡ false
dropped_set id None h = refl
dropped_set id (Some q) h = by (same_page id q) (h refl)
  where
    by : (b : Bool) → b ≡ true → is_some (cond b None (Some q)) ≡ false
    by true e = refl
    by false e = absurd (both_ways false refl e)

pub other_bound : (id q : PageId) (x : Option PageId) → q ≢ id → is_page q (unless id x) ≡ is_page q x
other_bound id q None ne = refl
other_bound id q (Some p) ne = by (same_page id p) refl
  where
    by : (b : Bool) → same_page id p ≡ b → is_page q (cond b None (Some p)) ≡ same_page q p
    by true e = sym (page_apart q p (λ f. ne (f ∙ sym (page_is id p e))))
    by false e = refl

pub other_set : (id : PageId) (x : Option PageId) → is_some (unless id x) ≡ true → is_some x ≡ true
other_set id None e = e
other_set id (Some p) e = refl

pub no_bit : (c : Copy) (x : Bool) → x ≡ false → bit_in c x ≡ false
no_bit c x e = ap (bit_in c) e ∙ none c.placed c.noted
  where
    none : (p q : Bool) → bit_in (record c { placed = p; noted = q }) false ≡ false
    none true true = refl
    none true false = refl
    none false q = refl

record IsReclaimed (a b : PageHeld) : Type 0 where
  bytes : b.bytes ≡ None
  changed : b.changed ≡ false
  castout : b.castout ≡ None
  disk : b.disk ≡ a.disk
  bound : (m : ℕ) → b.bound m ≡ false
  set : (m : ℕ) → (a.set m ≡ true → a.bound m ≡ true) → b.set m ≡ false
  copies : (m : ℕ) → b.copies m ≡ a.copies m
  casts : (m : ℕ) → b.casts m ≡ a.casts m
  owner : b.owner ≡ a.owner

reclaim_tied : (a b : PageHeld) (p : Page) (content : ℕ → List ℕ) → PageTied a p content → IsReclaimed a b → p.changed ≡ false → p.castout ≡ None → PageTied b (reclaim p) content
reclaim_tied a b p content t r clean free = record {
  bytes = r.bytes;
  changed = r.changed ∙ sym clean;
  there = λ e. absurd (both_ways p.changed clean e);
  castout = r.castout ∙ sym free;
  written = λ m e. absurd (none_held m e);
  disk = r.disk ∙ t.disk;
  bit = λ m. no_bit (b.copies m) (b.bound m) (r.bound m);
  own = λ m x y z. absurd (both_ways (b.set m) (r.set m (t.own m (sym (ap (λ (c : Copy). c.placed) (r.copies m)) ∙ x) (sym (ap (λ (c : Copy). c.noted) (r.copies m)) ∙ y))) z);
  filled = λ m. ap (λ (c : Copy). c.filled) (r.copies m) ∙ t.filled m;
  marked = λ m. ap (λ (c : Copy). c.marked) (r.copies m) ∙ t.marked m;
  same = λ m f. ap (λ (c : Copy). c.bytes) (r.copies m) ∙ t.same m f;
  indirect = t.indirect;
  buffer = λ m x e. absurd (none_held m e);
  sent = λ m x e. absurd (none_held m e);
  owner = t.owner ∙ sym r.owner;
  part = t.part;
}
  where
    none_held : (m : ℕ) → p.castout ≡ Some m → ⊥
    none_held m e = let both : ◌≡◌ {A = Option ℕ} None (Some m) = sym free ∙ e in cc both

-- the entry's parts, where it may be reclaimed
idle_parts : (e : Entry) → is_idle e ≡ true → (e.changed ≡ false) × (e.castout ≡ None)
idle_parts e i = let both = or_parts e.changed (is_some e.castout) (not-true (e.changed || is_some e.castout) i) in (both.0, none e.castout both.1)
  where
    none : (o : Option ℕ) → is_some o ≡ false → o ≡ None
    none None h = refl
    none (Some k) h = absurd (both_ways true h refl)

-- the page whose entry goes
gone_at : (x q : PageId) (es : List Entry) → q ≡ x → entry_of (without x es) q ≡ None
gone_at x q es e = subst (λ z. entry_of (without x es) z ≡ None) (sym e) (without_self x es)

reclaimed_at : (g : Holdings) (x : PageId) (n : ℕ) → page_at n ≡ x → IsReclaimed (held_of g n) (held_of (with_directory g (record g.facility.directory { entries = without x g.facility.directory.entries; registered = λ m i. unless x (g.facility.directory.registered m i) })) n)
reclaimed_at g x n e = record {
  bytes = ap (λ o. option_map_or (λ (y : Entry). y.bytes) o None) gone;
  changed = ap (λ o. option_map_or (λ (y : Entry). y.changed) o false) gone;
  castout = ap (λ o. option_map_or (λ (y : Entry). y.castout) o None) gone;
  disk = refl;
  bound = λ m. subst (λ z. is_page z (unless x (g.facility.directory.registered m (g.copies m n).index)) ≡ false) (sym e) (dropped_bound x (g.facility.directory.registered m (g.copies m n).index));
  set = λ m h. dropped_set x (g.facility.directory.registered m (g.copies m n).index) (subst (λ z. is_some (g.facility.directory.registered m (g.copies m n).index) ≡ true → is_page z (g.facility.directory.registered m (g.copies m n).index) ≡ true) e h);
  copies = λ m. refl;
  casts = λ m. refl;
  owner = refl;
}
  where
    gone : entry_of (without x g.facility.directory.entries) (page_at n) ≡ None
    gone = gone_at x (page_at n) g.facility.directory.entries e

reclaimed_beside : (g : Holdings) (x : PageId) (n : ℕ) → page_at n ≢ x → Alike (held_of g n) (held_of (with_directory g (record g.facility.directory { entries = without x g.facility.directory.entries; registered = λ m i. unless x (g.facility.directory.registered m i) })) n)
reclaimed_beside g x n ne =
    let s = entry_same (entry_of g.facility.directory.entries (page_at n)) (entry_of (without x g.facility.directory.entries) (page_at n)) (without_apart x (page_at n) g.facility.directory.entries ne) in
    record {
      bytes = s.bytes;
      changed = s.changed;
      castout = s.castout;
      written = s.written;
      disk = refl;
      bound = λ m y z. other_bound x (page_at n) (g.facility.directory.registered m (g.copies m n).index) ne;
      set = λ m y z h. other_set x (g.facility.directory.registered m (g.copies m n).index) h;
      copies = λ m. refl;
      casts = λ m. refl;
      owner = refl;
    }

-- the parts of an entry that is there
entry_changed : (es : List Entry) (q : PageId) (e : Entry) → entry_of es q ≡ Some e → option_map_or (λ (y : Entry). y.changed) (entry_of es q) false ≡ e.changed
entry_changed es q e h = ap (λ o. option_map_or (λ (y : Entry). y.changed) o false) h

entry_castout : (es : List Entry) (q : PageId) (e : Entry) → entry_of es q ≡ Some e → option_map_or (λ (y : Entry). y.castout) (entry_of es q) None ≡ e.castout
entry_castout es q e h = ap (λ o. option_map_or (λ (y : Entry). y.castout) o None) h

abbrev reclaimed_world : World → ℕ → World
reclaimed_world w r = record { down = false; group = w.group; pages = put w.pages r (reclaim (w.pages r)) }

reclaim_clean : (w : World) (g : Holdings) (content : ℕ → ℕ → List ℕ) (e : Entry) → Tied w g content → IsSound g.facility.directory → reclaimable g.facility.directory ≡ Some e
    → ((w.pages (page_number e.page)).changed ≡ false) × ((w.pages (page_number e.page)).castout ≡ None)
reclaim_clean w g content e t s h =
    let es = g.facility.directory.entries in
    let it = idle_found es e s.distinct h in
    let parts = idle_parts e it.1 in
    let there : entry_of es (page_at (page_number e.page)) ≡ Some e = subst (λ z. entry_of es z ≡ Some e) (sym (named e.page)) it.0 in (
      sym (t.pages (page_number e.page)).changed ∙ entry_changed es (page_at (page_number e.page)) e there ∙ parts.0,
      sym (t.pages (page_number e.page)).castout ∙ entry_castout es (page_at (page_number e.page)) e there ∙ parts.1,
    )

reclaim_world : (w : World) (g : Holdings) (content : ℕ → ℕ → List ℕ) (e : Entry) → Tied w g content → IsSound g.facility.directory → reclaimable g.facility.directory ≡ Some e
    → Tied (reclaimed_world w (page_number e.page)) (with_directory g (reclaimed g.facility.directory e)) content
reclaim_world w g content e t s h =
    let r = page_number e.page in
    let after = with_directory g (reclaimed g.facility.directory e) in
    let clean = reclaim_clean w g content e t s h in
    tied_by w g after content (put w.pages r (reclaim (w.pages r))) t (beside w g content (reclaimed g.facility.directory e) t refl)
    (put_tied w g after content r (reclaim (w.pages r)) t
    (reclaim_tied (held_of g r) (held_of after r) (w.pages r) (content r) (t.pages r) (reclaimed_at g e.page r (named e.page)) clean.0 clean.1)
    (λ k ne. reclaimed_beside g e.page k (λ f. ne (sym (numbered k) ∙ ap page_number f))))

-- ---- all three
pub record Entered (w : World) (g : Holdings) (content : ℕ → ℕ → List ℕ) (id : PageId) (d : Directory) : Type 0 where
  pub world : World
  pub run : Run set_of w (entry_moves g.facility.directory id) world
  pub tied : Tied world (with_directory g d) content
  pub group : world.group ≡ w.group
  pub page : world.pages (page_number id) ≡ w.pages (page_number id)
  pub bytes : bytes_of d id ≡ bytes_of g.facility.directory id
  pub lost : d.lost ≡ g.facility.directory.lost
  pub entry : Entry
  pub there : entry_of d.entries id ≡ Some entry

no_moves : (o : Option Entry) (b : Bool) (es : List Move) → is_some o ≡ true → (if is_some o || b then [] else es) ≡ []
no_moves None b es e = absurd (both_ways false refl e)
no_moves (Some x) b es e = refl

free_moves : (o : Option Entry) (b : Bool) (es : List Move) → b ≡ true → (if is_some o || b then [] else es) ≡ []
free_moves (Some x) b es e = refl
free_moves None true es e = refl
free_moves None false es e = absurd (both_ways false refl e)

all_moves : (o : Option Entry) (b : Bool) (es : List Move) → o ≡ None → b ≡ false → (if is_some o || b then [] else es) ≡ es
all_moves None true es e f = absurd (both_ways true f refl)
all_moves None false es e f = refl
all_moves (Some x) b es e f = absurd (let no : Some x ≡ None = e in cc no)

-- the entry becomes the newest, and there is no move
newest_entered : (w : World) (g : Holdings) (content : ℕ → ℕ → List ℕ) (id : PageId) (e : Entry) → Tied w g content → e.page ≡ id → SameEntry (entry_of g.facility.directory.entries e.page) (Some e) → entry_moves g.facility.directory id ≡ []
    → Entered w g content id (with_newest g.facility.directory e)
newest_entered w g content id e t of s none = record {
  world = record { down = false; group = w.group; pages = w.pages };
  run = subst (λ ms. Run set_of w ms (record { down = false; group = w.group; pages = w.pages })) (sym none) (λ i. record { down = sym t.running i; group = w.group; pages = w.pages });
  tied = tied_by w g (with_directory g (with_newest g.facility.directory e)) content w.pages t (beside w g content (with_newest g.facility.directory e) t refl) (newest_pages w g content e t s);
  group = refl;
  page = refl;
  bytes = (newest_same g.facility.directory.entries e id s).bytes;
  lost = refl;
  entry = e;
  there = subst (λ z. entry_of (newest e g.facility.directory.entries) z ≡ Some e) of (newest_self e g.facility.directory.entries);
}

-- one is made in the place of another
reclaim_entered : (w : World) (g : Holdings) (content : ℕ → ℕ → List ℕ) (id : PageId) (e : Entry) → Tied w g content → IsSound g.facility.directory → entry_of g.facility.directory.entries id ≡ None → has_free_place g.facility.directory ≡ false
    → reclaimable g.facility.directory ≡ Some e → Entered w g content id (with_newest (reclaimed g.facility.directory e) (fresh id))
reclaim_entered w g content id e t s none full h = record {
  world = reclaimed_world w r;
  run = subst (λ ms. Run set_of w ms (reclaimed_world w r)) (sym moves) (reclaimed_world w r, (t.running, (reclaim (w.pages r), (clean.0, clean.1, refl), refl)), refl);
  tied = tied_by (reclaimed_world w r) mid (with_directory mid (with_newest (reclaimed d e) (fresh id))) content (put w.pages r (reclaim (w.pages r))) u (beside (reclaimed_world w r) mid content (with_newest (reclaimed d e) (fresh id)) u refl)
      (newest_pages (reclaimed_world w r) mid content (fresh id) u gone);
  group = refl;
  page = cond-false (page_number id == r) (reclaim (w.pages r)) (w.pages (page_number id)) (ne_eqb (page_number id) r other);
  bytes = (newest_same (without e.page d.entries) (fresh id) id gone).bytes ∙ ap (λ o. option_map_or (λ (y : Entry). y.bytes) o None) (left ∙ sym none);
  lost = refl;
  entry = fresh id;
  there = newest_self (fresh id) (without e.page d.entries);
}
  where
    d : Directory
    d = g.facility.directory

    r : ℕ
    r = page_number e.page

    mid : Holdings
    mid = with_directory g (reclaimed d e)

    clean : ((w.pages r).changed ≡ false) × ((w.pages r).castout ≡ None)
    clean = reclaim_clean w g content e t s h

    u : Tied (reclaimed_world w r) mid content
    u = reclaim_world w g content e t s h

    apart : id ≢ e.page
    apart f = let both : ◌≡◌ {A = Option Entry} None (Some e) = sym none ∙ subst (λ z. entry_of d.entries z ≡ Some e) (sym f) (idle_found d.entries e s.distinct h).0 in cc both

    other : page_number id ≢ r
    other f = apart (sym (named id) ∙ ap page_at f ∙ named e.page)

    left : entry_of (without e.page d.entries) id ≡ None
    left = without_apart e.page id d.entries apart ∙ none

    gone : SameEntry (entry_of (without e.page d.entries) id) (Some (fresh id))
    gone = fresh_same (entry_of (without e.page d.entries) id) id left

    moves : entry_moves d id ≡ At r Reclaim ∷ []
    moves = all_moves (entry_of d.entries id) (has_free_place d) (reclaim_of (reclaimable d)) none full ∙ ap reclaim_of h

pub entered : (w : World) (g : Holdings) (content : ℕ → ℕ → List ℕ) (id : PageId) (made_to : Directory) → Tied w g content → IsSound g.facility.directory → with_entry g.facility.directory id ≡ Some made_to → Entered w g content id made_to
entered w g content id made_to t s is = by (entry_of d.entries id) refl is
  where
    d : Directory
    d = g.facility.directory

    to : (x : Directory) → Some x ≡ Some made_to → Entered w g content id x → Entered w g content id made_to
    to x e h = subst (λ y. Entered w g content id y) (same_Some x made_to e) h

    by_old : entry_of d.entries id ≡ None → has_free_place d ≡ false → (o : Option Entry) → reclaimable d ≡ o → option_map (λ e. with_newest (reclaimed d e) (fresh id)) o ≡ Some made_to → Entered w g content id made_to
    by_old none full None e h = absurd (cc h)
    by_old none full (Some x) e h = to (with_newest (reclaimed d x) (fresh id)) h (reclaim_entered w g content id x t s none full e)

    by_place : entry_of d.entries id ≡ None → (b : Bool) → has_free_place d ≡ b → (if b then Some (with_newest d (fresh id)) else option_map (λ e. with_newest (reclaimed d e) (fresh id)) (reclaimable d)) ≡ Some made_to → Entered w g content id made_to
    by_place none true free h =
        to (with_newest d (fresh id)) h
        (newest_entered w g content id (fresh id) t refl (fresh_same (entry_of d.entries id) id none) (free_moves (entry_of d.entries id) (has_free_place d) (reclaim_of (reclaimable d)) free))
    by_place none false full h = by_old none full (reclaimable d) refl h

    by : (o : Option Entry) → entry_of d.entries id ≡ o → option_map_or (λ e. Some (with_newest d e)) o (made d id) ≡ Some made_to → Entered w g content id made_to
    by None none h = by_place none (has_free_place d) refl h
    by (Some e) there h =
        let of = found_page id d.entries e there in
        to (with_newest d e) h
        (newest_entered w g content id e t of (entry_same (entry_of d.entries e.page) (Some e) (sym (subst (λ z. entry_of d.entries z ≡ Some e) (sym of) there)))
        (no_moves (entry_of d.entries id) (has_free_place d) (reclaim_of (reclaimable d)) (ap is_some there)))
