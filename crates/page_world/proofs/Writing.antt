-- A write of a changed page is a move of it, behind one that reclaims an entry.
use Rattle.std.proofs.Common.{◌≡◌, ℕ, refl, sym, ◌∙◌, ap, subst, Bool, true, false, List, [], ◌∷◌, ◌++◌, Option, Some, None}
use Rattle.std.specs.Prelude.{◌≢◌, ◌==◌, ◌&&◌, cond, if◌then◌else◌, is_some, is_none}
use Rattle.std.specs.Option.{option_map, option_map_or}
use Rattle.std.proofs.lemmas.Bool.{both_ways, cond-false, eq-eqb, ne_eqb}
use Rattle.ds_base.specs.declared.names.PageId.{PageId}
use Rattle.cache_structure.specs.declared.face.WriteReply.TheVariants as write
use Rattle.cache_structure.specs.Entries.{Entry, entry_of, at_entry, written_with}
use Rattle.cache_structure.specs.Frames.{is_page, unless}
use Rattle.cache_structure.specs.Directory.{Directory, with_entry, registers, written_by, after_write}
use Rattle.facility.specs.declared.command.Reply.TheVariants as reply
use Rattle.facility.specs.States.{Held}
use Rattle.facility.specs.CacheCommands.{reply_to_write}
use Rattle.page_protocol.specs.Page.{Page, Group, Frame, Failed, put, holding, AllStable, write as page_write}
use Rattle.page_protocol.specs.Moves.{World, At, Write}
use Rattle.page_world.specs.Numbers.{page_number, page_at}
use Rattle.page_world.specs.Holdings.{Copy, Cast, Holdings, PageHeld, held_of, put2, with_directory}
use Rattle.page_world.specs.Tied.{PageTied, bit_in, Tied, Moved}
use Rattle.page_world.specs.Cache.{HasFrame, entry_moves, written_copy, WritesMoves}
use Rattle.page_world.proofs.Numbers.{named, numbered}
use Rattle.page_world.proofs.Entries.{at_apart, at_self}
use Rattle.page_world.proofs.Slices.{Alike, alike_tied, alike_on, one_moved}
use Rattle.page_world.proofs.Entering.{entry_same, entered, dropped_bound, dropped_set, other_bound, other_set, no_bit}
use Rattle.page_world.proofs.Copies.{moved_on, by_member, put_here, put_there, apart_put}
use Rattle.page_world.proofs.Reading.{coherent, not_failed, registered_here, registered_beside}

-- what a write leaves of its page
record IsWritten (a b : PageHeld) (m : ℕ) (c : Copy) (page : List ℕ) : Type 0 where
  bytes : b.bytes ≡ Some page
  changed : b.changed ≡ true
  castout : b.castout ≡ a.castout
  written : b.written ≡ true
  disk : b.disk ≡ a.disk
  bound : b.bound m ≡ true
  others_bound : (k : ℕ) → k ≢ m → b.bound k ≡ false
  others_set : (k : ℕ) → k ≢ m → (a.set k ≡ true → a.bound k ≡ true) → b.set k ≡ false
  copy : b.copies m ≡ c
  others_copies : (k : ℕ) → k ≢ m → b.copies k ≡ a.copies k
  casts : (k : ℕ) → b.casts k ≡ a.casts k
  owner : b.owner ≡ a.owner

-- the copy that was written
record IsClean (c : Copy) (version : ℕ) (content : ℕ → List ℕ) : Type 0 where
  placed : c.placed ≡ true
  noted : c.noted ≡ true
  filled : c.filled ≡ true
  marked : c.marked ≡ false
  bytes : c.bytes ≡ content version

all_set : (c : Copy) (x : Bool) → c.placed ≡ true → c.noted ≡ true → x ≡ true → bit_in c x ≡ true
all_set c x p n e = by c.placed c.noted x p n e
  where
    by : (p q x : Bool) → p ≡ true → q ≡ true → x ≡ true → (p && (q && x)) ≡ true
    by true true x a b c = c
    by true false x a b c = b
    by false q x a b c = a

written_tied : (a b : PageHeld) (p : Page) (content : ℕ → List ℕ) (m : ℕ) (c : Copy) (page : List ℕ) → PageTied a p content → IsWritten a b m c page → IsClean c (p.frame m).version content → page ≡ content (p.frame m).version
    → PageTied b (page_write p m) content
written_tied a b p content m c page t r clean same = record {
  bytes = r.bytes ∙ ap Some same;
  changed = r.changed;
  there = λ e. refl;
  castout = r.castout ∙ t.castout;
  written = λ k e. r.written;
  disk = r.disk ∙ t.disk;
  bit = by_member (λ k. bit_in (b.copies k) (b.bound k) ≡ (k == m)) m
      (ap (λ (x : Copy). bit_in x (b.bound m)) r.copy ∙ all_set c (b.bound m) clean.placed clean.noted r.bound ∙ sym (eq-eqb m m refl))
      (λ k ne. no_bit (b.copies k) (b.bound k) (r.others_bound k ne) ∙ sym (ne_eqb k m ne));
  own = by_member (λ k. (b.copies k).placed ≡ true → (b.copies k).noted ≡ true → b.set k ≡ true → b.bound k ≡ true) m
      (λ x y z. r.bound)
      (λ k ne x y z. absurd (both_ways (b.set k) (r.others_set k ne (t.own k (sym (ap (λ (c : Copy). c.placed) (r.others_copies k ne)) ∙ x) (sym (ap (λ (c : Copy). c.noted) (r.others_copies k ne)) ∙ y))) z));
  filled = by_member (λ k. (b.copies k).filled ≡ (put p.frame m (holding (p.frame m).version) k).filled) m
      (ap (λ (c : Copy). c.filled) r.copy ∙ clean.filled ∙ sym (ap (λ (f : Frame). f.filled) (put_here p.frame m (holding (p.frame m).version))))
      (λ k ne. ap (λ (c : Copy). c.filled) (r.others_copies k ne) ∙ t.filled k ∙ sym (ap (λ (f : Frame). f.filled) (put_there p.frame m k (holding (p.frame m).version) ne)));
  marked = by_member (λ k. (b.copies k).marked ≡ (put p.frame m (holding (p.frame m).version) k).marked) m
      (ap (λ (c : Copy). c.marked) r.copy ∙ clean.marked ∙ sym (ap (λ (f : Frame). f.marked) (put_here p.frame m (holding (p.frame m).version))))
      (λ k ne. ap (λ (c : Copy). c.marked) (r.others_copies k ne) ∙ t.marked k ∙ sym (ap (λ (f : Frame). f.marked) (put_there p.frame m k (holding (p.frame m).version) ne)));
  same = by_member (λ k. (put p.frame m (holding (p.frame m).version) k).filled ≡ true → (b.copies k).bytes ≡ content (put p.frame m (holding (p.frame m).version) k).version) m
      (λ x. ap (λ (c : Copy). c.bytes) r.copy ∙ clean.bytes ∙ sym (ap (λ (f : Frame). content f.version) (put_here p.frame m (holding (p.frame m).version))))
      (λ k ne x. ap (λ (c : Copy). c.bytes) (r.others_copies k ne) ∙ t.same k (sym (ap (λ (f : Frame). f.filled) (put_there p.frame m k (holding (p.frame m).version) ne)) ∙ x) ∙ sym (ap (λ (f : Frame). content f.version) (put_there p.frame m k (holding (p.frame m).version) ne)));
  indirect = by_member (λ k. (put p.frame m (holding (p.frame m).version) k).direct ≡ false) m
      (ap (λ (f : Frame). f.direct) (put_here p.frame m (holding (p.frame m).version)))
      (λ k ne. ap (λ (f : Frame). f.direct) (put_there p.frame m k (holding (p.frame m).version) ne) ∙ t.indirect k);
  buffer = λ k x y. ap (λ (c : Cast). c.bytes) (r.casts k) ∙ t.buffer k (sym (ap (λ (c : Cast). c.taken) (r.casts k)) ∙ x) y;
  sent = λ k x y. ap (λ (c : Cast). c.sent) (r.casts k) ∙ t.sent k (sym (ap (λ (c : Cast). c.taken) (r.casts k)) ∙ x) y;
  owner = t.owner ∙ sym r.owner;
  part = t.part;
}

-- ---- the directory
kept_page : (page : List ℕ) (e : Entry) → (written_with page e).page ≡ e.page
kept_page page e = refl

-- the registrations of the others are gone
bound_at : (k m : ℕ) (id q : PageId) (x : Option PageId) → q ≡ id → k ≢ m → is_page q (cond (k == m) x (unless id x)) ≡ false
bound_at k m id q x is ne = ap (is_page q) (cond-false (k == m) x (unless id x) (ne_eqb k m ne)) ∙ subst (λ z. is_page z (unless id x) ≡ false) (sym is) (dropped_bound id x)

set_at : (k m : ℕ) (id : PageId) (x : Option PageId) → k ≢ m → (is_some x ≡ true → is_page id x ≡ true) → is_some (cond (k == m) x (unless id x)) ≡ false
set_at k m id x ne h = ap is_some (cond-false (k == m) x (unless id x) (ne_eqb k m ne)) ∙ dropped_set id x h

either_bound : (b : Bool) (id q : PageId) (x : Option PageId) → q ≢ id → is_page q (cond b x (unless id x)) ≡ is_page q x
either_bound true id q x ne = refl
either_bound false id q x ne = other_bound id q x ne

either_set : (b : Bool) (id : PageId) (x : Option PageId) → is_some (cond b x (unless id x)) ≡ true → is_some x ≡ true
either_set true id x e = e
either_set false id x e = other_set id x e

-- another page
write_beside : (g : Holdings) (m j : ℕ) (id : PageId) (page : List ℕ) → page_at j ≢ id → Alike (held_of g j) (held_of (with_directory g (written_by g.facility.directory m id page)) j)
write_beside g m j id page ne =
    let es = g.facility.directory.entries in
    let s = entry_same (entry_of es (page_at j)) (entry_of (at_entry id (written_with page) es) (page_at j)) (at_apart id (page_at j) (written_with page) es (kept_page page) ne) in
    record {
      bytes = s.bytes;
      changed = s.changed;
      castout = s.castout;
      written = s.written;
      disk = refl;
      bound = λ k x y. either_bound (k == m) id (page_at j) (g.facility.directory.registered k (g.copies k j).index) ne;
      set = λ k x y e. either_set (k == m) id (g.facility.directory.registered k (g.copies k j).index) e;
      copies = λ k. refl;
      casts = λ k. refl;
      owner = refl;
    }

-- the page itself
write_here : (g : Holdings) (m n : ℕ) (id : PageId) (page : List ℕ) (e : Entry) (c : Copy) → page_at n ≡ id → entry_of g.facility.directory.entries id ≡ Some e
    → IsWritten (held_of g n) (let h = held_of (with_directory g (written_by g.facility.directory m id page)) n in record h { bound = put h.bound m true; set = put h.set m true; copies = put h.copies m c }) m c page
write_here g m n id page e c is there = record {
  bytes = ap (λ o. option_map_or (λ (y : Entry). y.bytes) o None) now;
  changed = ap (λ o. option_map_or (λ (y : Entry). y.changed) o false) now;
  castout = ap (λ o. option_map_or (λ (y : Entry). y.castout) o None) now ∙ sym (ap (λ o. option_map_or (λ (y : Entry). y.castout) o None) before);
  written = ap (λ o. option_map_or (λ (y : Entry). y.written) o false) now;
  disk = refl;
  bound = put_here (λ k. is_page (page_at n) (cond (k == m) (at k) (unless id (at k)))) m true;
  others_bound = λ k ne. put_there (λ k. is_page (page_at n) (cond (k == m) (at k) (unless id (at k)))) m k true ne ∙ bound_at k m id (page_at n) (at k) is ne;
  others_set = λ k ne h. put_there (λ k. is_some (cond (k == m) (at k) (unless id (at k)))) m k true ne ∙ set_at k m id (at k) ne (subst (λ z. is_some (at k) ≡ true → is_page z (at k) ≡ true) is h);
  copy = put_here (λ k. g.copies k n) m c;
  others_copies = λ k ne. put_there (λ k. g.copies k n) m k c ne;
  casts = λ k. refl;
  owner = refl;
}
  where
    at : ℕ → Option PageId
    at k = g.facility.directory.registered k (g.copies k n).index

    before : entry_of g.facility.directory.entries (page_at n) ≡ Some e
    before = subst (λ z. entry_of g.facility.directory.entries z ≡ Some e) (sym is) there

    now : entry_of (at_entry id (written_with page) g.facility.directory.entries) (page_at n) ≡ Some (written_with page e)
    now = subst (λ z. entry_of (at_entry id (written_with page) g.facility.directory.entries) z ≡ Some (written_with page e)) (sym is)
        (at_self id (written_with page) g.facility.directory.entries (kept_page page) ∙ ap (option_map (written_with page)) there)

-- the move, where the page has an entry
writes_there : (w : World) (g : Holdings) (content : ℕ → ℕ → List ℕ) (m index : ℕ) (id : PageId) (page : List ℕ) (e : Entry) (c : Copy)
    → Tied w g content → w.group.lost ≡ false → w.group.status m ≢ Failed → HasFrame g m (page_number id) index → entry_of g.facility.directory.entries id ≡ Some e
    → c.index ≡ (g.copies m (page_number id)).index → IsClean c ((w.pages (page_number id)).frame m).version (content (page_number id)) → page ≡ content (page_number id) ((w.pages (page_number id)).frame m).version
    → ((w.pages (page_number id)).frame m).marked ≡ true → AllStable w.group (w.pages (page_number id)) ((w.pages (page_number id)).frame m).version
    → Moved w (At (page_number id) (Write m) ∷ []) (record g { copies = put2 g.copies m (page_number id) c; facility = record g.facility { directory = registers (written_by g.facility.directory m id page) m id index } }) content
writes_there w g content m index id page e c t lost up at there same clean is marked stable =
    let n = page_number id in
    let p = w.pages n in
    let mid = with_directory g (written_by g.facility.directory m id page) in
    let after = record g { copies = put2 g.copies m n c; facility = record g.facility { directory = registers (written_by g.facility.directory m id page) m id index } } in
    let h = held_of mid n in
    let new = record h { bound = put h.bound m true; set = put h.set m true; copies = put h.copies m c } in
    one_moved w g after content n (Write m) (page_write p m) t
    (record { lost = refl; counter = refl; members = refl; statuses = refl; stable = λ m. refl; written = λ m. refl; apart = apart_put g m n c t.apart (clean.placed ∙ sym at.placed) same })
    (lost, up, marked, stable, refl)
    (alike_tied new (held_of after n) (page_write p m) (content n) (registered_here mid m n index id c (named id) (same ∙ at.at))
    (written_tied (held_of g n) new p (content n) m c page (t.pages n) (write_here g m n id page e c (named id) there) clean is))
    (λ j ne. alike_on (held_of g j) (held_of mid j) (held_of after j)
    (write_beside g m j id page (λ f. ne (sym (numbered j) ∙ ap page_number f)))
    (registered_beside mid m n index j id c t.apart at.placed at.at ne))

-- ---- what the reply says
record MayWrite (d : Directory) (id : PageId) : Type 0 where
  there : d.lost ≡ false
  made : Directory
  is : with_entry d id ≡ Some made

written_parts : (d : Directory) (id : PageId) (l : Bool) (o : Option Directory) → d.lost ≡ l → with_entry d id ≡ o
    → reply.Written ≡ reply_to_write (if l then write.Lost else if is_none o then write.CacheFull else write.Written) → MayWrite d id
written_parts d id true o x y e = absurd (cc e)
written_parts d id false None x y e = absurd (cc e)
written_parts d id false (Some made) x y e = record { there = x; made = made; is = y }

after_is : (d : Directory) (m : ℕ) (id : PageId) (index : ℕ) (page : List ℕ) (made : Directory) → d.lost ≡ false → with_entry d id ≡ Some made → after_write d m id index page ≡ registers (written_by made m id page) m id index
after_is d m id index page made lost is =
    cond-false d.lost d (option_map_or (λ x. registers (written_by x m id page) m id index) (with_entry d id) d) lost
    ∙ ap (λ o. option_map_or (λ x. registers (written_by x m id page) m id index) o d) is

pub writes : WritesMoves
writes w g content m index id page v good t sound live at marked own stable r =
    let d = g.facility.directory in
    let n = page_number id in
    let p = w.pages n in
    let tp = t.pages n in
    let co = coherent w g content good t n in
    let parts = written_parts d id d.lost (with_entry d id) refl refl r.0 in
    let made = parts.made in
    let en = entered w g content id made t sound parts.is in
    let c = written_copy (g.copies m n) in
    let is_marked = sym (tp.marked m) ∙ marked in
    let full = co.marked_filled m is_marked in
    let last = co.marked_last m is_marked in
    let own_bytes = tp.same m full in
    let to = record g { copies = put2 g.copies m n c; facility = record g.facility { directory = registers (written_by made m id page) m id index } } in
    let e : v ≡ record g.facility { directory = registers (written_by made m id page) m id index } = r.1 ∙ ap (λ (x : Directory). record g.facility { directory = x }) (after_is d m id index page made parts.there parts.is) in
    subst (λ (x : Held). Moved w (entry_moves d id ++ At n (Write m) ∷ []) (record g { copies = put2 g.copies m n c; facility = x }) content) (sym e)
    (moved_on w en.world to content (entry_moves d id) (At n (Write m) ∷ []) en.run
    (writes_there en.world (with_directory g made) content m index id page en.entry c en.tied (ap (λ (x : Group). x.lost) en.group ∙ t.lost ∙ parts.there) (λ f. not_failed w g content m t live (sym (ap (λ (x : Group). x.status m) en.group) ∙ f))
    (record { placed = at.placed; at = at.at }) en.there refl
    (subst (λ (q : Page). IsClean c (q.frame m).version (content n)) (sym en.page) (record { placed = at.placed; noted = refl; filled = tp.filled m ∙ full; marked = refl; bytes = own_bytes }))
    (subst (λ (q : Page). page ≡ content n (q.frame m).version) (sym en.page) (sym own ∙ own_bytes))
    (subst (λ (q : Page). (q.frame m).marked ≡ true) (sym en.page) is_marked)
    (subst (λ (q : Page). AllStable en.world.group q (q.frame m).version) (sym en.page) (subst (λ (x : Group). AllStable x p (p.frame m).version) (sym en.group) (subst (λ v. AllStable w.group p v) (sym last) stable)))))
