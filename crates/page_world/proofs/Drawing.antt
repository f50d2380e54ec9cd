-- A record that is drawn is a move, and each page that it touches has one version more.
use Rattle.std.proofs.Common.{◌≡◌, ℕ, ◌+◌, ◌<◌, ◌≤◌, refl, sym, ◌∙◌, ap, subst, arith, Bool, true, false, not, inl, inr, List, [], ◌∷◌, Option, Some, None}
use Rattle.std.specs.Prelude.{◌≢◌, ◌⊎◌, ◌==◌, ◌&&◌, ◌||◌, cond, if◌then◌else◌, find, nat_lt, is_some, unwrap_or}
use Rattle.std.specs.List.{list_any}
use Rattle.std.proofs.lemmas.Bool.{both_ways, cond-true, cond-false, cases_lt, eq-eqb, ne_eqb, eqb-true, and_left}
use Rattle.std.proofs.lemmas.Option.{same_Some}
use Rattle.list_structure.specs.declared.standing.MemberStatus.TheVariants as standing
use Rattle.list_structure.specs.Standings.{status_of}
use Rattle.cache_structure.specs.Directory.{bit}
use Rattle.facility.specs.declared.command.Reply.TheVariants as reply
use Rattle.facility.specs.States.{Held}
use Rattle.facility.specs.Counting.{given, limit, first_stale, draw_reply, drawn_to, counter_after}
use Rattle.facility.specs.Counting.{drawn as drawn_reply}
use Rattle.page_protocol.specs.Page.{Page, Group, Frame, Up, put, copy_before, change}
use Rattle.page_protocol.specs.Moves.{World, Draw, IsWritten}
use Rattle.page_protocol.specs.Moves.{MayChange as WorldMayChange, drawn as drawn_group}
use Rattle.page_protocol.specs.Coherent.{Coherent}
use Rattle.page_protocol.specs.Always.{Good}
use Rattle.cache_structure.specs.Frames.{is_page}
use Rattle.page_world.specs.Numbers.{page_at}
use Rattle.page_world.specs.Holdings.{Copy, Holdings, PageHeld, held_of, with_facility, as_status}
use Rattle.page_world.specs.Tied.{PageTied, content_of, bit_in, AreApart, Tied, Moved}
use Rattle.page_world.specs.Cache.{IsLive}
use Rattle.page_world.specs.Draws.{MayChange, changed_copy, drawn, content_behind, DrawsMoves, UndoesMoves}
use Rattle.page_world.proofs.Slices.{Alike, alike_tied}
use Rattle.page_world.proofs.Copies.{by_member, put_here, put_there}
use Rattle.page_world.proofs.Reading.{coherent, not_failed}

-- ---- the frames that were tested
none_stale : (p : ℕ → Bool) (xs : List ℕ) (i : ℕ) → (let o : Option ℕ = find (λ x. not (p x)) xs in o ≡ None) → list_any (λ j. j == i) xs ≡ true → p i ≡ true
none_stale p [] i none there = absurd (both_ways false refl there)
none_stale p (x ∷ xs) i none there = by (none_stale p xs i) (p x) refl (x == i) refl none there
  where
    by : ((let o : Option ℕ = find (λ x. not (p x)) xs in o ≡ None) → list_any (λ j. j == i) xs ≡ true → p i ≡ true)
        → (b : Bool) → p x ≡ b → (c : Bool) → (x == i) ≡ c → cond (not b) (Some x) (find (λ x. not (p x)) xs) ≡ None → (c || list_any (λ j. j == i) xs) ≡ true → p i ≡ true
    by ih false e c f none there = absurd (cc none)
    by ih true e true f none there = subst (λ z. p z ≡ true) (eqb-true x i f) e
    by ih true e false f none there = ih none there

draw_stale : (o : Option ℕ) (counter number : ℕ) (b : Bool) → reply.Drawn number ≡ (if b then reply.Drawn (counter + 1) else reply.LrsnEnd counter) → b ≡ true
draw_stale o counter number true e = refl
draw_stale o counter number false e = absurd (cc e)

drawn_parts : (o : Option ℕ) (counter number : ℕ) → reply.Drawn number ≡ draw_reply o counter → (o ≡ None) × (drawn_to o counter ≡ counter + 1)
drawn_parts None counter number e = (refl, cond-true (nat_lt counter limit) (counter + 1) counter (draw_stale None counter number (nat_lt counter limit) e))
drawn_parts (Some i) counter number e = absurd (cc e)

undone_parts : (o : Option ℕ) (counter number : ℕ) → reply.Drawn number ≡ drawn_reply o counter → (o ≡ None) × (counter_after o counter ≡ counter + 1)
undone_parts None counter number e = (refl, refl)
undone_parts (Some i) counter number e = absurd (cc e)

-- ---- the copy that is changed has the last version
last_version : (g : Group) (p : Page) (m : ℕ) → Coherent g p → p.owner ≡ Some m → (p.frame m).filled ≡ true → p.bit m ≡ true → (g.status m ≡ Up) ⊎ ((p.frame m).marked ≡ true) ⊎ IsWritten g p m → (p.frame m).version ≡ p.last
last_version g p m co own filled set newest = by (p.frame m).marked refl
  where
    there : (b : Bool) → g.lost ≡ b → g.lost ≡ false
    there true e = absurd (both_ways (p.bit m) (co.lost_bits m e) set)
    there false e = e

    never : (p.frame m).marked ≡ false → p.shared < p.last → (g.status m ≡ Up) ⊎ ((p.frame m).marked ≡ true) ⊎ IsWritten g p m → ⊥
    never clean lt (inl up) = both_ways (p.frame m).marked clean (co.newest m own lt up)
    never clean lt (inr (inl marked)) = both_ways (p.frame m).marked clean marked
    never clean lt (inr (inr written)) =
        let low : copy_before g p ≤ p.shared = subst (λ x. x ≤ p.shared) (sym (cond-false g.lost p.at_loss p.shared (there g.lost refl))) (omega arith) in
        written p.shared low lt (same_Some (p.author p.shared) m (sym (co.own p.shared (omega arith) lt) ∙ own))

    close : p.shared ≤ p.last → p.last ≤ p.shared → p.shared ≡ p.last
    close a b = omega (arith, a, b)

    all_shared : (p.frame m).marked ≡ false → p.shared ≡ p.last
    all_shared e = elim (cases_lt p.shared p.last) [
      | inl lt ↦ absurd (never e lt newest)
      | inr ge ↦ close co.within ge
    ]

    by : (b : Bool) → (p.frame m).marked ≡ b → (p.frame m).version ≡ p.last
    by true e = co.marked_last m e
    by false e = co.valid m filled set e ∙ all_shared e

-- ---- the versions that are there
abbrev new_content : (ℕ → List ℕ) → ℕ → List ℕ → ℕ → List ℕ
new_content content last bytes v = if v == last + 1 then bytes else content v

old_version : (content : ℕ → List ℕ) (last v : ℕ) (bytes : List ℕ) → v ≤ last → content v ≡ new_content content last bytes v
old_version content last v bytes le = sym (cond-false (v == last + 1) bytes (content v) (ne_eqb v (last + 1) (apart v last le)))
  where
    apart : (v last : ℕ) → v ≤ last → v ≢ last + 1
    apart v last le e = omega (arith, le, e)

new_version : (content : ℕ → List ℕ) (last v : ℕ) (bytes : List ℕ) → v ≡ last → bytes ≡ new_content content last bytes (v + 1)
new_version content last v bytes e = sym (cond-true (v + 1 == last + 1) bytes (content (v + 1)) (eq-eqb (v + 1) (last + 1) (ap (λ x. x + 1) e)))

old_content : (content : ℕ → List ℕ) (last : ℕ) (bytes : List ℕ) (o : Option ℕ) → ((v : ℕ) → o ≡ Some v → v ≤ last) → content_of content o ≡ content_of (new_content content last bytes) o
old_content content last bytes None low = refl
old_content content last bytes (Some v) low = ap Some (old_version content last v bytes (low v refl))

-- what is in the cache, on disk, in frames and in buffers
cached_low : (g : Group) (p : Page) → Coherent g p → (v : ℕ) → p.bytes ≡ Some v → v ≤ p.last
cached_low g p co v e = by g.lost refl
  where
    by : (b : Bool) → g.lost ≡ b → v ≤ p.last
    by true lost = absurd (let both : ◌≡◌ {A = Option ℕ} None (Some v) = sym (co.lost_bytes lost) ∙ e in cc both)
    by false here = let same : v ≡ p.shared = ap (λ o. unwrap_or o p.disk) (sym e) ∙ co.group here in let within = co.within in omega (arith, same, within)

disk_low : (g : Group) (p : Page) → Coherent g p → p.disk ≤ p.last
disk_low g p co = let old = co.disk_old in let within = co.within in omega (arith, old, within)

frame_low : (g : Group) (p : Page) → Coherent g p → (k : ℕ) → (p.frame k).filled ≡ true → (p.frame k).version ≤ p.last
frame_low g p co k filled = by (p.frame k).marked refl
  where
    by : (b : Bool) → (p.frame k).marked ≡ b → (p.frame k).version ≤ p.last
    by true e = let last = co.marked_last k e in omega (arith, last)
    by false e = let old = co.old k filled e in let within = co.within in omega (arith, old, within)

buffer_low : (g : Group) (p : Page) → Coherent g p → (k : ℕ) → p.castout ≡ Some k → p.buffer ≤ p.last
buffer_low g p co k e = let shared = (co.casting k e).shared in let within = co.within in omega (arith, shared, within)

-- ---- a page that is touched
touched_tied : (g : Group) (h : PageHeld) (p : Page) (content : ℕ → List ℕ) (m at number : ℕ) (bytes : List ℕ) → Coherent g p → PageTied h p content → (h.copies m).filled ≡ true → (p.frame m).version ≡ p.last
    → PageTied (record h { copies = put h.copies m (changed_copy (h.copies m) bytes) }) (change p m at number) (new_content content p.last bytes)
touched_tied g h p content m at number bytes co t filled last = record {
  bytes = t.bytes ∙ old_content content p.last bytes p.bytes (cached_low g p co);
  changed = t.changed;
  there = t.there;
  castout = t.castout;
  written = t.written;
  disk = t.disk ∙ old_version content p.last p.disk bytes (disk_low g p co);
  bit = by_member (λ k. bit_in (put h.copies m c k) (h.bound k) ≡ p.bit k) m
      (ap (λ (x : Copy). bit_in x (h.bound m)) (put_here h.copies m c) ∙ t.bit m)
      (λ k ne. ap (λ (x : Copy). bit_in x (h.bound k)) (put_there h.copies m k c ne) ∙ t.bit k);
  own = by_member (λ k. (put h.copies m c k).placed ≡ true → (put h.copies m c k).noted ≡ true → h.set k ≡ true → h.bound k ≡ true) m
      (subst (λ (x : Copy). x.placed ≡ true → x.noted ≡ true → h.set m ≡ true → h.bound m ≡ true) (sym (put_here h.copies m c)) (t.own m))
      (λ k ne. subst (λ (x : Copy). x.placed ≡ true → x.noted ≡ true → h.set k ≡ true → h.bound k ≡ true) (sym (put_there h.copies m k c ne)) (t.own k));
  filled = by_member (λ k. (put h.copies m c k).filled ≡ (put p.frame m f k).filled) m
      (ap (λ (x : Copy). x.filled) (put_here h.copies m c) ∙ t.filled m ∙ sym (ap (λ (x : Frame). x.filled) (put_here p.frame m f)))
      (λ k ne. ap (λ (x : Copy). x.filled) (put_there h.copies m k c ne) ∙ t.filled k ∙ sym (ap (λ (x : Frame). x.filled) (put_there p.frame m k f ne)));
  marked = by_member (λ k. (put h.copies m c k).marked ≡ (put p.frame m f k).marked) m
      (ap (λ (x : Copy). x.marked) (put_here h.copies m c) ∙ sym (ap (λ (x : Frame). x.marked) (put_here p.frame m f)))
      (λ k ne. ap (λ (x : Copy). x.marked) (put_there h.copies m k c ne) ∙ t.marked k ∙ sym (ap (λ (x : Frame). x.marked) (put_there p.frame m k f ne)));
  same = by_member (λ k. (put p.frame m f k).filled ≡ true → (put h.copies m c k).bytes ≡ new_content content p.last bytes (put p.frame m f k).version) m
      (λ x. ap (λ (y : Copy). y.bytes) (put_here h.copies m c) ∙ new_version content p.last (p.frame m).version bytes last ∙ sym (ap (λ (y : Frame). new_content content p.last bytes y.version) (put_here p.frame m f)))
      (λ k ne x.
      let full = sym (ap (λ (y : Frame). y.filled) (put_there p.frame m k f ne)) ∙ x in
      ap (λ (y : Copy). y.bytes) (put_there h.copies m k c ne) ∙ t.same k full ∙ old_version content p.last (p.frame k).version bytes (frame_low g p co k full) ∙ sym (ap (λ (y : Frame). new_content content p.last bytes y.version) (put_there p.frame m k f ne)));
  indirect = by_member (λ k. (put p.frame m f k).direct ≡ false) m
      (ap (λ (x : Frame). x.direct) (put_here p.frame m f) ∙ t.indirect m)
      (λ k ne. ap (λ (x : Frame). x.direct) (put_there p.frame m k f ne) ∙ t.indirect k);
  buffer = λ k x e. t.buffer k x e ∙ old_version content p.last p.buffer bytes (buffer_low g p co k e);
  sent = t.sent;
  owner = t.owner;
  part = t.part;
}
  where
    c : Copy
    c = changed_copy (h.copies m) bytes

    f : Frame
    f = record (p.frame m) { marked = true; version = (p.frame m).version + 1 }

-- ---- all pages
-- a copy is in the frame that it was in
same_place : (b : Bool) (c : Copy) (bytes : List ℕ) → (((if b then changed_copy c bytes else c).placed ≡ c.placed) × ((if b then changed_copy c bytes else c).index ≡ c.index)) × ((if b then changed_copy c bytes else c).noted ≡ c.noted)
same_place true c bytes = ((refl, refl), refl)
same_place false c bytes = ((refl, refl), refl)

drawn_apart : (g : Holdings) (m : ℕ) (touched : ℕ → Bool) (bytes : ℕ → List ℕ) → AreApart g → AreApart (drawn g m touched bytes)
drawn_apart g m touched bytes a k i j x y e =
    let p = same_place ((k == m) && touched i) (g.copies k i) (bytes i) in
    let q = same_place ((k == m) && touched j) (g.copies k j) (bytes j) in
    a k i j (sym p.0.0 ∙ x) (sym q.0.0 ∙ y) (sym p.0.1 ∙ e ∙ q.0.1)

-- the copies of one page
touched_copy : (g : Holdings) (m n k : ℕ) (touched : ℕ → Bool) (bytes : ℕ → List ℕ) → touched n ≡ true → (if (k == m) && touched n then changed_copy (g.copies k n) (bytes n) else g.copies k n) ≡ put (λ j. g.copies j n) m (changed_copy (g.copies m n) (bytes n)) k
touched_copy g m n k touched bytes e = by_member (λ k. (if (k == m) && touched n then changed_copy (g.copies k n) (bytes n) else g.copies k n) ≡ put (λ j. g.copies j n) m (changed_copy (g.copies m n) (bytes n)) k) m
    (cond-true ((m == m) && touched n) (changed_copy (g.copies m n) (bytes n)) (g.copies m n) (both (m == m) (touched n) (eq-eqb m m refl) e) ∙ sym (put_here (λ j. g.copies j n) m (changed_copy (g.copies m n) (bytes n))))
    (λ k ne. cond-false ((k == m) && touched n) (changed_copy (g.copies k n) (bytes n)) (g.copies k n) (and_left (k == m) (touched n) (ne_eqb k m ne)) ∙ sym (put_there (λ j. g.copies j n) m k (changed_copy (g.copies m n) (bytes n)) ne)) k
  where
    both : (p q : Bool) → p ≡ true → q ≡ true → (p && q) ≡ true
    both true q x y = y
    both false q x y = x

untouched_copy : (g : Holdings) (m n k : ℕ) (touched : ℕ → Bool) (bytes : ℕ → List ℕ) → touched n ≡ false → (if (k == m) && touched n then changed_copy (g.copies k n) (bytes n) else g.copies k n) ≡ g.copies k n
untouched_copy g m n k touched bytes e = cond-false ((k == m) && touched n) (changed_copy (g.copies k n) (bytes n)) (g.copies k n) (second (k == m) (touched n) e)
  where
    second : (p q : Bool) → q ≡ false → (p && q) ≡ false
    second true q x = x
    second false q x = refl

touched_alike : (g : Holdings) (m n counter : ℕ) (touched : ℕ → Bool) (bytes : ℕ → List ℕ) → touched n ≡ true
    → Alike (let h = held_of g n in record h { copies = put h.copies m (changed_copy (h.copies m) (bytes n)) }) (held_of (with_facility (drawn g m touched bytes) (record g.facility { counter = counter })) n)
touched_alike g m n counter touched bytes e = record {
  bytes = refl;
  changed = refl;
  castout = refl;
  written = refl;
  disk = refl;
  bound = λ k x y. ap (λ i. is_page (page_at n) (g.facility.directory.registered k i)) (same_place ((k == m) && touched n) (g.copies k n) (bytes n)).0.1;
  set = λ k x y z. ap (λ i. is_some (g.facility.directory.registered k i)) (sym (same_place ((k == m) && touched n) (g.copies k n) (bytes n)).0.1) ∙ z;
  copies = λ k. touched_copy g m n k touched bytes e;
  casts = λ k. refl;
  owner = refl;
}

untouched_alike : (g : Holdings) (m n counter : ℕ) (touched : ℕ → Bool) (bytes : ℕ → List ℕ) → touched n ≡ false
    → Alike (held_of g n) (held_of (with_facility (drawn g m touched bytes) (record g.facility { counter = counter })) n)
untouched_alike g m n counter touched bytes e = record {
  bytes = refl;
  changed = refl;
  castout = refl;
  written = refl;
  disk = refl;
  bound = λ k x y. ap (λ i. is_page (page_at n) (g.facility.directory.registered k i)) (same_place ((k == m) && touched n) (g.copies k n) (bytes n)).0.1;
  set = λ k x y z. ap (λ i. is_some (g.facility.directory.registered k i)) (sym (same_place ((k == m) && touched n) (g.copies k n) (bytes n)).0.1) ∙ z;
  copies = λ k. untouched_copy g m n k touched bytes e;
  casts = λ k. refl;
  owner = refl;
}

-- ---- the guard
-- a test of a frame that its member counts on finds the page's bit
bit_set : (c : Copy) (p : Page) (m : ℕ) (bound set : Bool) → c.placed ≡ true → c.noted ≡ true → (c.placed ≡ true → c.noted ≡ true → set ≡ true → bound ≡ true) → set ≡ true → bit_in c bound ≡ p.bit m → p.bit m ≡ true
bit_set c p m bound set placed noted own is tie = sym tie ∙ all_set c.placed c.noted bound placed noted (own placed noted is)
  where
    all_set : (x y z : Bool) → x ≡ true → y ≡ true → z ≡ true → (x && (y && z)) ≡ true
    all_set true true z a b c = c
    all_set true false z a b c = b
    all_set false y z a b c = a

record CanChange (w : World) (m n : ℕ) : Type 0 where
  may : WorldMayChange w.group (w.pages n) m
  last : ((w.pages n).frame m).version ≡ (w.pages n).last

can_change : (w : World) (g : Holdings) (content : ℕ → ℕ → List ℕ) (m n : ℕ) (frames : List ℕ) → Good w → Tied w g content → IsLive g m → (let o : Option ℕ = find (λ x. not (bit g.facility.directory m x)) frames in o ≡ None) → MayChange w g m n frames → CanChange w m n
can_change w g content m n frames good t live none s =
    let tp = t.pages n in
    let p = w.pages n in
    let owns : p.owner ≡ Some m = tp.owner ∙ s.own in
    let full : (p.frame m).filled ≡ true = sym (tp.filled m) ∙ s.filled in
    let set : p.bit m ≡ true =
    bit_set (g.copies m n) p m (is_page (page_at n) (g.facility.directory.registered m (g.copies m n).index)) (bit g.facility.directory m (g.copies m n).index) s.placed s.noted (tp.own m)
    (none_stale (bit g.facility.directory m) frames (g.copies m n).index none s.tested) (tp.bit m) in
    let new = newest s.newest in
    record {
      may = record { own = owns; live = not_failed w g content m t live; newest = new; filled = full; usable = inl set };
      last = last_version w.group p m (coherent w g content good t n) owns full set new;
    }
  where
    newest : (status_of g.facility.lists.statuses m ≡ standing.Up) ⊎ ((g.copies m n).marked ≡ true) ⊎ IsWritten w.group (w.pages n) m → (w.group.status m ≡ Up) ⊎ (((w.pages n).frame m).marked ≡ true) ⊎ IsWritten w.group (w.pages n) m
    newest (inl up) = inl (t.status m live.least live.among ∙ ap as_status up)
    newest (inr (inl marked)) = inr (inl (sym ((t.pages n).marked m) ∙ marked))
    newest (inr (inr written)) = inr (inr written)

-- ---- the move
abbrev drawn_world : World → ℕ → (ℕ → Bool) → World
drawn_world w m touched = record { down = false; group = drawn_group w.group m; pages = λ n. if touched n then change (w.pages n) m (w.group.written m) (w.group.counter + 1) else w.pages n }

draws_by : (w : World) (g : Holdings) (content : ℕ → ℕ → List ℕ) (m : ℕ) (touched : ℕ → Bool) (bytes : ℕ → List ℕ) (frames : List ℕ)
    → Good w → Tied w g content → IsLive g m → ((n : ℕ) → touched n ≡ true → MayChange w g m n frames) → (let o : Option ℕ = find (λ x. not (bit g.facility.directory m x)) frames in o ≡ None)
    → Moved w (Draw m touched ∷ []) (with_facility (drawn g m touched bytes) (record g.facility { counter = g.facility.counter + 1 })) (content_behind w touched bytes content)
draws_by w g content m touched bytes frames good t live may none = record {
  world = drawn_world w m touched;
  run = (drawn_world w m touched, (t.running, (λ n e. (can_change w g content m n frames good t live none (may n e)).may), refl), refl);
  tied = record {
    running = refl;
    lost = t.lost;
    counter = ap (λ x. x + 1) t.counter;
    status = t.status;
    stable = t.stable;
    written = λ k. elim (k == m) as (λ b. (if b then w.group.written m + 1 else w.group.written k) ≡ (if b then g.written m + 1 else g.written k)) [ true ↦ ap (λ x. x + 1) (t.written m) | false ↦ t.written k ];
    apart = drawn_apart g m touched bytes t.apart;
    pages = λ n. by n (touched n) refl;
  };
}
  where
    after : Holdings
    after = with_facility (drawn g m touched bytes) (record g.facility { counter = g.facility.counter + 1 })

    by : (n : ℕ) → (b : Bool) → touched n ≡ b → PageTied (held_of after n) (if b then change (w.pages n) m (w.group.written m) (w.group.counter + 1) else w.pages n) (λ v. if b && (v == (w.pages n).last + 1) then bytes n else content n v)
    by n true e =
        alike_tied (let h = held_of g n in record h { copies = put h.copies m (changed_copy (h.copies m) (bytes n)) }) (held_of after n) (change (w.pages n) m (w.group.written m) (w.group.counter + 1)) (new_content (content n) (w.pages n).last (bytes n))
        (touched_alike g m n (g.facility.counter + 1) touched bytes e)
        (touched_tied w.group (held_of g n) (w.pages n) (content n) m (w.group.written m) (w.group.counter + 1) (bytes n) (coherent w g content good t n) (t.pages n) (may n e).filled (can_change w g content m n frames good t live none (may n e)).last)
    by n false e = alike_tied (held_of g n) (held_of after n) (w.pages n) (content n) (untouched_alike g m n (g.facility.counter + 1) touched bytes e) (t.pages n)

pub draws : DrawsMoves
draws w g content m number touched bytes indexes v good t live may r =
    let parts = drawn_parts (first_stale g.facility.directory m (given indexes)) g.facility.counter number r.0 in
    subst (λ (x : Held). Moved w (Draw m touched ∷ []) (with_facility (drawn g m touched bytes) x) (content_behind w touched bytes content)) (sym (r.1 ∙ ap (λ (x : ℕ). record g.facility { counter = x }) parts.1))
    (draws_by w g content m touched bytes (given indexes) good t live may parts.0)

pub undoes : UndoesMoves
undoes w g content m number touched bytes indexes v good t live may r =
    let parts = undone_parts (first_stale g.facility.directory m (given indexes)) g.facility.counter number r.0 in
    subst (λ (x : Held). Moved w (Draw m touched ∷ []) (with_facility (drawn g m touched bytes) x) (content_behind w touched bytes content)) (sym (r.1 ∙ ap (λ (x : ℕ). record g.facility { counter = x }) parts.1))
    (draws_by w g content m touched bytes (given indexes) good t live may parts.0)
