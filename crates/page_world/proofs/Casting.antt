-- The steps of a castout are moves.
use Rattle.std.proofs.Common.{◌≡◌, ℕ, refl, sym, ◌∙◌, ap, subst, arith, Bool, true, false, inl, inr, List, [], ◌∷◌, Option, Some, None}
use Rattle.std.specs.Prelude.{◌≢◌, ◌⊎◌, ◌==◌, ◌&&◌, if◌then◌else◌, is_some, unwrap_or}
use Rattle.std.specs.Option.{option_map, option_map_or}
use Rattle.std.proofs.lemmas.Bool.{both_ways, cond-true, cond-false, and_parts, eqb-true}
use Rattle.std.proofs.lemmas.Option.{same_Some}
use Rattle.ds_base.specs.declared.names.PageId.{PageId}
use Rattle.cache_structure.specs.declared.face.CastReply.TheVariants as cast
use Rattle.cache_structure.specs.declared.face.DoneReply.{DoneReply}
use Rattle.cache_structure.specs.declared.face.DoneReply.TheVariants as done
use Rattle.cache_structure.specs.Entries.{Entry, entry_of, at_entry, locked_by, cast_out, is_locked_by}
use Rattle.cache_structure.specs.Directory.{Directory, bytes_of, may_cast, is_castable, is_taken, holds_castout, after_castout_read, after_castout_done}
use Rattle.cache_structure.specs.Replies.{cast_reply_at, read_into, done_reply}
use Rattle.list_structure.specs.States.{ListsState}
use Rattle.facility.specs.declared.command.Reply.TheVariants as reply
use Rattle.facility.specs.States.{Held, ring}
use Rattle.facility.specs.CacheCommands.{reply_to_cast, reply_to_done, lists_after_done}
use Rattle.page_protocol.specs.Page.{Page, Group, put, castout_read, castout_write, castout_done}
use Rattle.page_protocol.specs.Moves.{At, CastoutRead, CastoutWrite, CastoutDone}
use Rattle.page_protocol.specs.Coherent.{Coherent}
use Rattle.page_world.specs.Numbers.{page_at}
use Rattle.page_world.specs.Holdings.{Cast, no_cast, Holdings, PageHeld, held_of, put2}
use Rattle.page_world.specs.Tied.{PageTied, content_of, Moved}
use Rattle.page_world.specs.Castouts.{taken_cast, BeginsMoves, sent_cast, CastsMoves, EndsMoves}
use Rattle.page_world.proofs.Entries.{at_apart, at_self}
use Rattle.page_world.proofs.Slices.{Alike, alike_tied, one_moved, put2_here, put2_other}
use Rattle.page_world.proofs.Entering.{entry_same, numbers_apart}
use Rattle.page_world.proofs.Copies.{by_member, put_here, put_there}
use Rattle.page_world.proofs.Reading.{coherent}

-- ---- another page, where the entries and the castouts of one are others
cast_beside : (g : Holdings) (m n j : ℕ) (c : Cast) (change : Entry → Entry) (lists : ListsState) → ((e : Entry) → (change e).page ≡ e.page) → j ≢ n
    → Alike (held_of g j) (held_of (record g { casts = put2 g.casts m n c; facility = record g.facility { directory = record g.facility.directory { entries = at_entry (page_at n) change g.facility.directory.entries }; lists = lists } }) j)
cast_beside g m n j c change lists keeps ne =
    let es = g.facility.directory.entries in
    let s = entry_same (entry_of es (page_at j)) (entry_of (at_entry (page_at n) change es) (page_at j)) (at_apart (page_at n) (page_at j) change es keeps (numbers_apart j n ne)) in
    record {
      bytes = s.bytes;
      changed = s.changed;
      castout = s.castout;
      written = s.written;
      disk = refl;
      bound = λ k x y. refl;
      set = λ k x y e. e;
      copies = λ k. refl;
      casts = λ k. put2_other g.casts m n k j c ne;
      owner = refl;
    }

-- ---- begun
record IsTaken (d : Directory) (m : ℕ) (id : PageId) : Type 0 where
  there : d.lost ≡ false
  entry : Entry
  is : entry_of d.entries id ≡ Some entry
  changed : entry.changed ≡ true
  free : (entry.castout ≡ None) ⊎ (entry.castout ≡ Some m)

free_for : (m : ℕ) (o : Option ℕ) → option_map_or (λ by. by == m) o true ≡ true → (o ≡ None) ⊎ (o ≡ Some m)
free_for m None h = inl refl
free_for m (Some k) h = inr (ap Some (eqb-true k m h))

castable : (m : ℕ) (b : Bool) (o : Option ℕ) (t : Bool) → may_cast m b o ≡ t → reply.Taken ≡ reply_to_cast (if t then cast.Taken else if b then cast.Locked (unwrap_or o m) else cast.NotChanged) → may_cast m b o ≡ true
castable m b o true h e = h
castable m true o false h e = absurd (cc e)
castable m false o false h e = absurd (cc e)

taken_parts : (d : Directory) (m : ℕ) (id : PageId) (l : Bool) (o : Option Entry) → d.lost ≡ l → entry_of d.entries id ≡ o
    → reply.Taken ≡ reply_to_cast (if l then cast.Lost else option_map_or (cast_reply_at m) o cast.NotChanged) → IsTaken d m id
taken_parts d m id true o x y e = absurd (cc e)
taken_parts d m id false None x y e = absurd (cc e)
taken_parts d m id false (Some entry) x y e =
    let both = and_parts entry.changed (option_map_or (λ by. by == m) entry.castout true) (castable m entry.changed entry.castout (may_cast m entry.changed entry.castout) refl e) in
    record { there = x; entry = entry; is = y; changed = both.0; free = free_for m entry.castout both.1 }

is_castable_for : (m : ℕ) (e : Entry) → e.changed ≡ true → (e.castout ≡ None) ⊎ (e.castout ≡ Some m) → is_castable m e ≡ true
is_castable_for m e changed (inl f) = ap (λ b. b && option_map_or (λ by. by == m) e.castout true) changed ∙ ap (λ o. option_map_or (λ by. by == m) o true) f
is_castable_for m e changed (inr f) = ap (λ b. b && option_map_or (λ by. by == m) e.castout true) changed ∙ ap (λ o. option_map_or (λ by. by == m) o true) f ∙ put_self m
  where
    put_self : (m : ℕ) → (m == m) ≡ true
    put_self m = grind arith

taken_is : (d : Directory) (m : ℕ) (id : PageId) (t : IsTaken d m id) → is_taken d m id ≡ true
taken_is d m id t = ap (λ o. option_map_or (is_castable m) o false) t.is ∙ is_castable_for m t.entry t.changed t.free

other_member : (m k : ℕ) → ◌≡◌ {A = Option ℕ} (Some m) (Some k) → k ≢ m → ⊥
other_member m k e ne = ne (sym (same_Some m k e))

-- the page
begun_tied : (a b : PageHeld) (p : Page) (content : ℕ → List ℕ) (m v : ℕ) (bytes : List ℕ) → PageTied a p content → b.bytes ≡ a.bytes → b.changed ≡ a.changed → b.castout ≡ Some m → b.written ≡ false → b.casts m ≡ taken_cast bytes → bytes ≡ content v
    → PageTied (record a { bytes = b.bytes; changed = b.changed; castout = b.castout; written = b.written; casts = b.casts }) (castout_read p m v) content
begun_tied a b p content m v bytes t same changed lock unwritten in_hand is = record {
  bytes = same ∙ t.bytes;
  changed = changed ∙ t.changed;
  there = t.there;
  castout = lock;
  written = λ k e. unwritten;
  disk = t.disk;
  bit = t.bit;
  own = t.own;
  filled = t.filled;
  marked = t.marked;
  same = t.same;
  indirect = t.indirect;
  buffer = λ k x e. ap (λ z. (b.casts z).bytes) (sym (same_Some m k e)) ∙ ap (λ (c : Cast). c.bytes) in_hand ∙ is;
  sent = λ k x e. ap (λ z. (b.casts z).sent) (sym (same_Some m k e)) ∙ ap (λ (c : Cast). c.sent) in_hand;
  owner = t.owner;
  part = t.part;
}

-- the same, of holdings
entry_alike : (a b : PageHeld) → b.disk ≡ a.disk → ((k : ℕ) → b.bound k ≡ a.bound k) → ((k : ℕ) → b.set k ≡ a.set k) → ((k : ℕ) → b.copies k ≡ a.copies k) → b.owner ≡ a.owner
    → Alike (record a { bytes = b.bytes; changed = b.changed; castout = b.castout; written = b.written; casts = b.casts }) b
entry_alike a b disk bound set copies owner = record {
  bytes = refl;
  changed = refl;
  castout = refl;
  written = refl;
  disk = disk;
  bound = λ k x y. bound k;
  set = λ k x y e. sym (set k) ∙ e;
  copies = copies;
  casts = λ k. refl;
  owner = owner;
}

locked_page : (m : ℕ) (e : Entry) → (locked_by m e).page ≡ e.page
locked_page m e = refl

pub begins : BeginsMoves
begins w g content m n page bytes v t r =
    let d = g.facility.directory in
    let id = page_at n in
    let p = w.pages n in
    let tp = t.pages n in
    let parts = taken_parts d m id d.lost (entry_of d.entries id) refl refl r.0 in
    let before = parts.is in
    let now : entry_of (at_entry id (locked_by m) d.entries) id ≡ Some (locked_by m parts.entry) = at_self id (locked_by m) d.entries (locked_page m) ∙ ap (option_map (locked_by m)) before in
    let changed : p.changed ≡ true = sym tp.changed ∙ ap (λ o. option_map_or (λ (y : Entry). y.changed) o false) before ∙ parts.changed in
    let version = content_of_some p.bytes (tp.there changed) in
    let taken = taken_is d m id parts in
    let read : bytes ≡ content n version.0 =
    r.2 ∙ cond-true (is_taken d m id) (read_into d id page) page taken ∙ cond-false d.lost page (unwrap_or (bytes_of d id) page) parts.there
    ∙ ap (λ o. unwrap_or o page) (tp.bytes ∙ ap (content_of (content n)) version.1) in
    let after = record g { casts = put2 g.casts m n (taken_cast bytes); facility = record g.facility { directory = record d { entries = at_entry id (locked_by m) d.entries } } } in
    let left : after_castout_read d m id ≡ record d { entries = at_entry id (locked_by m) d.entries } =
    cond-false d.lost d (if is_taken d m id then record d { entries = at_entry id (locked_by m) d.entries } else d) parts.there ∙ cond-true (is_taken d m id) (record d { entries = at_entry id (locked_by m) d.entries }) d taken in
    let e : v ≡ after.facility = r.1 ∙ ap (λ (x : Directory). record g.facility { directory = x }) left in
    let free : (p.castout ≡ None) ⊎ (p.castout ≡ Some m) = free_there p.castout parts.entry.castout (sym tp.castout ∙ ap (λ o. option_map_or (λ (y : Entry). y.castout) o None) before) parts.free in
    subst (λ z. Moved w (At n (CastoutRead m z) ∷ []) (record g { casts = put2 g.casts m n (taken_cast bytes); facility = v }) content) (sym (ap (λ o. unwrap_or o 0) version.1))
    (subst (λ (x : Held). Moved w (At n (CastoutRead m version.0) ∷ []) (record g { casts = put2 g.casts m n (taken_cast bytes); facility = x }) content) (sym e)
    (one_moved w g after content n (CastoutRead m version.0) (castout_read p m version.0) t
    (record { lost = refl; counter = refl; members = refl; statuses = refl; stable = λ m. refl; written = λ m. refl; apart = t.apart })
    (t.lost ∙ parts.there, changed, version.1, free, refl)
    (alike_tied (let a = held_of g n in let b = held_of after n in record a { bytes = b.bytes; changed = b.changed; castout = b.castout; written = b.written; casts = b.casts }) (held_of after n) (castout_read p m version.0) (content n)
    (entry_alike (held_of g n) (held_of after n) refl (λ k. refl) (λ k. refl) (λ k. refl) refl)
    (begun_tied (held_of g n) (held_of after n) p (content n) m version.0 bytes tp
    (ap (λ o. option_map_or (λ (y : Entry). y.bytes) o None) now ∙ sym (ap (λ o. option_map_or (λ (y : Entry). y.bytes) o None) before))
    (ap (λ o. option_map_or (λ (y : Entry). y.changed) o false) now ∙ sym (ap (λ o. option_map_or (λ (y : Entry). y.changed) o false) before))
    (ap (λ o. option_map_or (λ (y : Entry). y.castout) o None) now) (ap (λ o. option_map_or (λ (y : Entry). y.written) o false) now) (put2_here g.casts m n (taken_cast bytes)) read))
    (λ j ne. cast_beside g m n j (taken_cast bytes) (locked_by m) g.facility.lists (locked_page m) ne)))
  where
    content_of_some : (o : Option ℕ) → is_some o ≡ true → (v : ℕ) × (o ≡ Some v)
    content_of_some None e = absurd (both_ways false refl e)
    content_of_some (Some v) e = (v, refl)

    free_there : (o x : Option ℕ) → o ≡ x → (x ≡ None) ⊎ (x ≡ Some m) → (o ≡ None) ⊎ (o ≡ Some m)
    free_there o x e (inl f) = inl (e ∙ f)
    free_there o x e (inr f) = inr (e ∙ f)

-- ---- written to disk
pub casts : CastsMoves
casts w g content m n t look taken =
    let p = w.pages n in
    let tp = t.pages n in
    let c = sent_cast (g.casts m n) in
    let after = record g { casts = put2 g.casts m n c; disk = put g.disk n (g.casts m n).bytes } in
    let lock : p.castout ≡ Some m = sym tp.castout ∙ look in
    one_moved w g after content n (CastoutWrite m) (castout_write p) t
    (record { lost = refl; counter = refl; members = refl; statuses = refl; stable = λ m. refl; written = λ m. refl; apart = t.apart })
    (lock, refl)
    (record {
      bytes = tp.bytes;
      changed = tp.changed;
      there = tp.there;
      castout = tp.castout;
      written = tp.written;
      disk = put_here g.disk n (g.casts m n).bytes ∙ tp.buffer m taken lock;
      bit = tp.bit;
      own = tp.own;
      filled = tp.filled;
      marked = tp.marked;
      same = tp.same;
      indirect = tp.indirect;
      buffer = by_member (λ k. (put2 g.casts m n c k n).taken ≡ true → p.castout ≡ Some k → (put2 g.casts m n c k n).bytes ≡ content n p.buffer) m
          (λ x e. ap (λ (z : Cast). z.bytes) (put2_here g.casts m n c) ∙ tp.buffer m taken lock)
          (λ k ne x e. absurd (other_member m k (sym lock ∙ e) ne));
      sent = by_member (λ k. (put2 g.casts m n c k n).taken ≡ true → p.castout ≡ Some k → (put2 g.casts m n c k n).sent ≡ true) m
          (λ x e. ap (λ (z : Cast). z.sent) (put2_here g.casts m n c))
          (λ k ne x e. absurd (other_member m k (sym lock ∙ e) ne));
      owner = tp.owner;
      part = tp.part;
    })
    (λ j ne. record {
      bytes = refl;
      changed = refl;
      castout = refl;
      written = refl;
      disk = put_there g.disk n j (g.casts m n).bytes ne;
      bound = λ k x y. refl;
      set = λ k x y e. e;
      copies = λ k. refl;
      casts = λ k. put2_other g.casts m n k j c ne;
      owner = refl;
    })

-- ---- ended
record IsHeld (d : Directory) (m : ℕ) (id : PageId) : Type 0 where
  there : d.lost ≡ false
  holds : holds_castout d m id ≡ true
  entry : Entry
  is : entry_of d.entries id ≡ Some entry
  lock : entry.castout ≡ Some m

held_by : (d : Directory) (m : ℕ) (id : PageId) (o : Option Entry) → entry_of d.entries id ≡ o → option_map_or (is_locked_by m) o false ≡ true → (e : Entry) × (entry_of d.entries id ≡ Some e) × (is_locked_by m e ≡ true)
held_by d m id None x h = absurd (both_ways false refl h)
held_by d m id (Some e) x h = (e, x, h)

lock_by : (m : ℕ) (o : Option ℕ) → option_map_or (λ by. by == m) o false ≡ true → o ≡ Some m
lock_by m None h = absurd (both_ways false refl h)
lock_by m (Some k) h = ap Some (eqb-true k m h)

done_parts : (d : Directory) (m : ℕ) (id : PageId) (l h : Bool) → d.lost ≡ l → holds_castout d m id ≡ h → reply.Done ≡ reply_to_done (if l then done.Lost else if h then done.Done else done.NotHeld) → IsHeld d m id
done_parts d m id true h x y e = absurd (cc e)
done_parts d m id false false x y e = absurd (cc e)
done_parts d m id false true x y e =
    let it = held_by d m id (entry_of d.entries id) refl y in
    record { there = x; holds = y; entry = it.0; is = it.1; lock = lock_by m it.0.castout it.2 }

-- the reply of the structure
structure_done : (l h : Bool) → reply.Done ≡ reply_to_done (if l then done.Lost else if h then done.Done else done.NotHeld) → (let r : DoneReply = (if l then done.Lost else if h then done.Done else done.NotHeld) in r ≡ done.Done)
structure_done true h e = absurd (cc e)
structure_done false true e = refl
structure_done false false e = absurd (cc e)

out_page : (e : Entry) → (cast_out e).page ≡ e.page
out_page e = refl

ended_tied : (a b : PageHeld) (g : Group) (p : Page) (content : ℕ → List ℕ) (m : ℕ) → Coherent g p → PageTied a p content → p.castout ≡ Some m → b.bytes ≡ a.bytes → b.changed ≡ (a.changed && a.written) → b.castout ≡ None
    → PageTied (record a { bytes = b.bytes; changed = b.changed; castout = b.castout; written = b.written; casts = b.casts }) (castout_done p) content
ended_tied a b g p content m co t lock same changed free = record {
  bytes = same ∙ t.bytes;
  changed = changed ∙ ap (λ x. x && a.written) (t.changed ∙ (co.casting m lock).changed) ∙ t.written m lock;
  there = λ e. t.there (co.casting m lock).changed;
  castout = free;
  written = λ k e. absurd (let both : ◌≡◌ {A = Option ℕ} None (Some k) = e in cc both);
  disk = t.disk;
  bit = t.bit;
  own = t.own;
  filled = t.filled;
  marked = t.marked;
  same = t.same;
  indirect = t.indirect;
  buffer = λ k x e. absurd (let both : ◌≡◌ {A = Option ℕ} None (Some k) = e in cc both);
  sent = λ k x e. absurd (let both : ◌≡◌ {A = Option ℕ} None (Some k) = e in cc both);
  owner = t.owner;
  part = t.part;
}

pub ends : EndsMoves
ends w g content m n v good t taken sent r =
    let d = g.facility.directory in
    let id = page_at n in
    let p = w.pages n in
    let tp = t.pages n in
    let co = coherent w g content good t n in
    let parts = done_parts d m id d.lost (holds_castout d m id) refl refl r.0 in
    let before = parts.is in
    let now : entry_of (at_entry id cast_out d.entries) id ≡ Some (cast_out parts.entry) = at_self id cast_out d.entries out_page ∙ ap (option_map cast_out) before in
    let lists = ring g.facility.lists in
    let after = record g { casts = put2 g.casts m n no_cast; facility = record g.facility { directory = record d { entries = at_entry id cast_out d.entries }; lists = lists } } in
    let left : after_castout_done d m id ≡ record d { entries = at_entry id cast_out d.entries } =
    cond-false d.lost d (if holds_castout d m id then record d { entries = at_entry id cast_out d.entries } else d) parts.there ∙ cond-true (holds_castout d m id) (record d { entries = at_entry id cast_out d.entries }) d parts.holds in
    let rung : lists_after_done (done_reply d m id) g.facility.lists ≡ lists = ap (λ x. lists_after_done x g.facility.lists) (structure_done d.lost (holds_castout d m id) r.0) in
    let e : v ≡ after.facility = r.1 ∙ (λ i. record g.facility { directory = left i; lists = rung i }) in
    let lock : p.castout ≡ Some m = sym tp.castout ∙ ap (λ o. option_map_or (λ (y : Entry). y.castout) o None) before ∙ parts.lock in
    subst (λ (x : Held). Moved w (At n (CastoutDone m) ∷ []) (record g { casts = put2 g.casts m n no_cast; facility = x }) content) (sym e)
    (one_moved w g after content n (CastoutDone m) (castout_done p) t
    (record { lost = refl; counter = refl; members = refl; statuses = refl; stable = λ m. refl; written = λ m. refl; apart = t.apart })
    (lock, sym (tp.sent m taken lock) ∙ sent, refl)
    (alike_tied (let a = held_of g n in let b = held_of after n in record a { bytes = b.bytes; changed = b.changed; castout = b.castout; written = b.written; casts = b.casts }) (held_of after n) (castout_done p) (content n)
    (entry_alike (held_of g n) (held_of after n) refl (λ k. refl) (λ k. refl) (λ k. refl) refl)
    (ended_tied (held_of g n) (held_of after n) w.group p (content n) m co tp lock
    (ap (λ o. option_map_or (λ (y : Entry). y.bytes) o None) now ∙ sym (ap (λ o. option_map_or (λ (y : Entry). y.bytes) o None) before))
    (ap (λ o. option_map_or (λ (y : Entry). y.changed) o false) now
    ∙ sym (ap (λ o. option_map_or (λ (y : Entry). y.changed) o false && option_map_or (λ (y : Entry). y.written) o false) before))
    (ap (λ o. option_map_or (λ (y : Entry). y.castout) o None) now)))
    (λ j ne. cast_beside g m n j no_cast cast_out lists out_page ne))
