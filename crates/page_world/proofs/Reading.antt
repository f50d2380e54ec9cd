-- A read that registers a frame is a move of its page, behind one that reclaims an entry.
use Rattle.std.proofs.Common.{◌≡◌, ℕ, refl, sym, ◌∙◌, ap, subst, Bool, true, false, List, [], ◌∷◌, ◌++◌, Option, Some, None}
use Rattle.std.specs.Prelude.{◌≢◌, ◌&&◌, if◌then◌else◌, is_some, is_none, unwrap_or}
use Rattle.std.specs.Option.{option_map_or}
use Rattle.std.proofs.lemmas.Bool.{both_ways, cond-false}
use Rattle.ds_base.specs.declared.names.PageId.{PageId}
use Rattle.ds_base.specs.Pages.{same_page}
use Rattle.list_structure.specs.declared.standing.MemberStatus.{MemberStatus}
use Rattle.list_structure.specs.declared.standing.MemberStatus.TheVariants as standing
use Rattle.list_structure.specs.Standings.{status_of, is_live}
use Rattle.cache_structure.specs.declared.face.ReadReply.TheVariants as read
use Rattle.cache_structure.specs.Frames.{Registered, is_page, with_frame}
use Rattle.cache_structure.specs.Directory.{Directory, bytes_of, with_entry, registers, after_read}
use Rattle.facility.specs.declared.command.Reply.TheVariants as reply
use Rattle.facility.specs.States.{Held}
use Rattle.facility.specs.CacheCommands.{reply_to_read}
use Rattle.page_protocol.specs.Page.{Page, Group, Frame, Failed, put, holding, unfilled, after_read as frame_read, read as page_read}
use Rattle.page_protocol.specs.Moves.{World, At, Read, MayUse, MayBeDirect}
use Rattle.page_protocol.specs.Coherent.{Coherent}
use Rattle.page_protocol.specs.Always.{Good, Stands}
use Rattle.page_world.specs.Numbers.{page_number, page_at}
use Rattle.page_world.specs.Holdings.{Copy, Holdings, held_of, put2, with_directory, as_status}
use Rattle.page_world.specs.Tied.{content_of, AreApart, Tied, Moved}
use Rattle.page_world.specs.Cache.{IsLive, HasFrame, entry_moves, found_copy, empty_copy, FindsMoves, RegistersMoves}
use Rattle.page_world.proofs.Numbers.{named}
use Rattle.page_world.proofs.Entries.{page_self}
use Rattle.page_world.proofs.Slices.{Alike, alike_tied, one_moved, put2_here, put2_other, put2_by}
use Rattle.page_world.proofs.Entering.{Entered, entered}
use Rattle.page_world.proofs.Copies.{moved_on, by_member, put_here, put_there, FrameTied, frame_tied, apart_put, frame_here, frame_apart, frame_other}

-- ---- what coherence and the tie say
pub coherent : (w : World) (g : Holdings) (content : ℕ → ℕ → List ℕ) → Good w → Tied w g content → (n : ℕ) → Coherent w.group (w.pages n)
coherent w g content good t n = subst (λ b. Stands b w.group (w.pages n)) t.running (good.stands n)

live_status : (s : MemberStatus) → is_live s ≡ true → as_status s ≢ Failed
live_status standing.Up e f = cc f
live_status standing.Restarting e f = cc f
live_status standing.Failed e f = both_ways false refl e
live_status standing.Down e f = both_ways false refl e

pub not_failed : (w : World) (g : Holdings) (content : ℕ → ℕ → List ℕ) (m : ℕ) → Tied w g content → IsLive g m → w.group.status m ≢ Failed
not_failed w g content m t live f = live_status (status_of g.facility.lists.statuses m) live.live (sym (t.status m live.least live.among) ∙ f)

pub may_use : (p : Page) (m : ℕ) → p.sole ≡ false → MayUse p m
may_use p m part sole = absurd (both_ways p.sole part sole)

pub no_direct : (g : Group) (p : Page) (m : ℕ) → MayBeDirect g p m false
no_direct g p m e = absurd (both_ways false refl e)

-- ---- a frame that was read
found_frame : (c : Copy) (f : Frame) (v : ℕ) (content : ℕ → List ℕ) → c.filled ≡ f.filled → c.marked ≡ f.marked → (f.filled ≡ true → c.bytes ≡ content f.version) → f.direct ≡ false → (f.marked ≡ true → f.filled ≡ true)
    → FrameTied (found_copy c (content v)) (frame_read (Some v) false f) content
found_frame c f v content filled marked same direct full = by f.marked refl
  where
    by : (b : Bool) → f.marked ≡ b → FrameTied (record c { filled = true; noted = true; bytes = if c.marked then c.bytes else content v }) (if f.marked then f else holding v) content
    by true e = subst (λ z. FrameTied (record c { filled = true; noted = true; bytes = if c.marked then c.bytes else content v }) (if z then f else holding v) content) (sym e)
        (subst (λ z. FrameTied (record c { filled = true; noted = true; bytes = if z then c.bytes else content v }) f content) (sym (marked ∙ e))
        (record { filled = sym (full e); marked = marked; same = λ h. same (full e); indirect = direct }))
    by false e = subst (λ z. FrameTied (record c { filled = true; noted = true; bytes = if c.marked then c.bytes else content v }) (if z then f else holding v) content) (sym e)
        (subst (λ z. FrameTied (record c { filled = true; noted = true; bytes = if z then c.bytes else content v }) (holding v) content) (sym (marked ∙ e))
        (record { filled = refl; marked = marked ∙ e; same = λ h. refl; indirect = refl }))

empty_frame : (c : Copy) (f : Frame) (content : ℕ → List ℕ) → c.marked ≡ f.marked → (f.filled ≡ true → c.bytes ≡ content f.version) → (f.marked ≡ true → f.filled ≡ true)
    → FrameTied (empty_copy c) (frame_read None false f) content
empty_frame c f content marked same full = by f.marked refl
  where
    by : (b : Bool) → f.marked ≡ b → FrameTied (empty_copy c) (if f.marked then record f { direct = false } else unfilled f.version false) content
    by true e = subst (λ z. FrameTied (empty_copy c) (if z then record f { direct = false } else unfilled f.version false) content) (sym e)
        (record { filled = marked ∙ e ∙ sym (full e); marked = marked; same = same; indirect = refl })
    by false e = subst (λ z. FrameTied (empty_copy c) (if z then record f { direct = false } else unfilled f.version false) content) (sym e)
        (record { filled = marked ∙ e; marked = marked ∙ e; same = λ h. absurd (both_ways false refl h); indirect = refl })

-- ---- a frame is registered for its page
pub registered_here : (g : Holdings) (m n index : ℕ) (id : PageId) (c : Copy) → page_at n ≡ id → c.index ≡ index
    → Alike (let h = held_of g n in record h { bound = put h.bound m true; set = put h.set m true; copies = put h.copies m c })
    (held_of (record g { copies = put2 g.copies m n c; facility = record g.facility { directory = registers g.facility.directory m id index } }) n)
registered_here g m n index id c is at = record {
  bytes = refl;
  changed = refl;
  castout = refl;
  written = refl;
  disk = refl;
  bound = λ k x y. by_member (λ k. is_page (page_at n) (reg k (put2 g.copies m n c k n).index) ≡ put (λ m. is_page (page_at n) (g.facility.directory.registered m (g.copies m n).index)) m true k) m
      (ap (is_page (page_at n)) (now m refl) ∙ subst (λ z. same_page (page_at n) z ≡ true) is (page_self (page_at n)) ∙ sym (put_here (λ m. is_page (page_at n) (g.facility.directory.registered m (g.copies m n).index)) m true))
      (λ k ne. ap (is_page (page_at n)) (other k ne) ∙ sym (put_there (λ m. is_page (page_at n) (g.facility.directory.registered m (g.copies m n).index)) m k true ne)) k;
  set = λ k x y. by_member (λ k. is_some (reg k (put2 g.copies m n c k n).index) ≡ true → put (λ m. is_some (g.facility.directory.registered m (g.copies m n).index)) m true k ≡ true) m
      (λ e. put_here (λ m. is_some (g.facility.directory.registered m (g.copies m n).index)) m true)
      (λ k ne e. put_there (λ m. is_some (g.facility.directory.registered m (g.copies m n).index)) m k true ne ∙ ap is_some (sym (other k ne)) ∙ e) k;
  copies = λ k. put2_by g.copies m n k c;
  casts = λ k. refl;
  owner = refl;
}
  where
    reg : Registered
    reg = with_frame g.facility.directory.registered m index (Some id)

    now : (k : ℕ) → k ≡ m → reg k (put2 g.copies m n c k n).index ≡ Some id
    now k e = frame_here g.facility.directory.registered m index k (put2 g.copies m n c k n).index (Some id) e (subst (λ z. (put2 g.copies m n c z n).index ≡ index) (sym e) (ap (λ (c : Copy). c.index) (put2_here g.copies m n c) ∙ at))

    other : (k : ℕ) → k ≢ m → reg k (put2 g.copies m n c k n).index ≡ g.facility.directory.registered k (g.copies k n).index
    other k ne =
        frame_apart g.facility.directory.registered m index k (put2 g.copies m n c k n).index (Some id) (λ e f. ne e)
        ∙ ap (λ (c : Copy). g.facility.directory.registered k c.index) (put2_by g.copies m n k c ∙ put_there (λ k. g.copies k n) m k c ne)

pub registered_beside : (g : Holdings) (m n index j : ℕ) (id : PageId) (c : Copy) → AreApart g → (g.copies m n).placed ≡ true → (g.copies m n).index ≡ index → j ≢ n
    → Alike (held_of g j) (held_of (record g { copies = put2 g.copies m n c; facility = record g.facility { directory = registers g.facility.directory m id index } }) j)
registered_beside g m n index j id c apart placed at ne = record {
  bytes = refl;
  changed = refl;
  castout = refl;
  written = refl;
  disk = refl;
  bound = λ k x y. ap (is_page (page_at j)) (same k (sym (ap (λ (c : Copy). c.placed) (put2_other g.copies m n k j c ne)) ∙ x));
  set = λ k x y e. ap is_some (sym (same k (sym (ap (λ (c : Copy). c.placed) (put2_other g.copies m n k j c ne)) ∙ x))) ∙ e;
  copies = λ k. put2_other g.copies m n k j c ne;
  casts = λ k. refl;
  owner = refl;
}
  where
    same : (k : ℕ) → (g.copies k j).placed ≡ true → with_frame g.facility.directory.registered m index (Some id) k (put2 g.copies m n c k j).index ≡ g.facility.directory.registered k (g.copies k j).index
    same k there =
        ap (λ (c : Copy). with_frame g.facility.directory.registered m index (Some id) k c.index) (put2_other g.copies m n k j c ne)
        ∙ frame_apart g.facility.directory.registered m index k (g.copies k j).index (Some id) (λ e f. frame_other g m n j index k apart placed at ne there e f)

-- the move, where the page has an entry
reads : (w : World) (g : Holdings) (content : ℕ → ℕ → List ℕ) (m index : ℕ) (id : PageId) (c : Copy)
    → Tied w g content → w.group.lost ≡ false → w.group.status m ≢ Failed → HasFrame g m (page_number id) index → c.placed ≡ true → c.noted ≡ true → c.index ≡ (g.copies m (page_number id)).index
    → FrameTied c (frame_read (w.pages (page_number id)).bytes false ((w.pages (page_number id)).frame m)) (content (page_number id))
    → Moved w (At (page_number id) (Read m false) ∷ []) (record g { copies = put2 g.copies m (page_number id) c; facility = record g.facility { directory = registers g.facility.directory m id index } }) content
reads w g content m index id c t lost up at placed noted same frame =
    let n = page_number id in
    let p = w.pages n in
    let after = record g { copies = put2 g.copies m n c; facility = record g.facility { directory = registers g.facility.directory m id index } } in
    one_moved w g after content n (Read m false) (page_read p m false) t
    (record { lost = refl; counter = refl; members = refl; statuses = refl; stable = λ m. refl; written = λ m. refl; apart = apart_put g m n c t.apart (placed ∙ sym at.placed) same })
    (lost, up, may_use p m (t.pages n).part, no_direct w.group p m, refl)
    (alike_tied (let h = held_of g n in record h { bound = put h.bound m true; set = put h.set m true; copies = put h.copies m c }) (held_of after n) (page_read p m false) (content n)
    (registered_here g m n index id c (named id) (same ∙ at.at))
    (frame_tied (held_of g n) p (content n) m c true true true (frame_read p.bytes false (p.frame m)) (t.pages n) frame (bit c.placed c.noted placed noted) (λ x y z. refl)))
    (λ j ne. registered_beside g m n index j id c t.apart at.placed at.at ne)
  where
    bit : (p q : Bool) → p ≡ true → q ≡ true → (p && (q && true)) ≡ true
    bit true true x y = refl
    bit true false x y = y
    bit false q x y = x

-- ---- what the replies say
record IsRead (d : Directory) (id : PageId) (some : Bool) : Type 0 where
  there : d.lost ≡ false
  made : Directory
  is : with_entry d id ≡ Some made
  some_is : is_some (bytes_of d id) ≡ some

found_parts : (d : Directory) (id : PageId) (l : Bool) (o : Option Directory) (b : Bool) → d.lost ≡ l → with_entry d id ≡ o → is_some (bytes_of d id) ≡ b
    → reply.Found ≡ reply_to_read (if l then read.Lost else if is_none o then read.CacheFull else if b then read.Found else read.NoData) → IsRead d id true
found_parts d id true o b x y z e = absurd (cc e)
found_parts d id false None b x y z e = absurd (cc e)
found_parts d id false (Some made) false x y z e = absurd (cc e)
found_parts d id false (Some made) true x y z e = record { there = x; made = made; is = y; some_is = z }

empty_parts : (d : Directory) (id : PageId) (l : Bool) (o : Option Directory) (b : Bool) → d.lost ≡ l → with_entry d id ≡ o → is_some (bytes_of d id) ≡ b
    → reply.NoData ≡ reply_to_read (if l then read.Lost else if is_none o then read.CacheFull else if b then read.Found else read.NoData) → IsRead d id false
empty_parts d id true o b x y z e = absurd (cc e)
empty_parts d id false None b x y z e = absurd (cc e)
empty_parts d id false (Some made) true x y z e = absurd (cc e)
empty_parts d id false (Some made) false x y z e = record { there = x; made = made; is = y; some_is = z }

after_is : (d : Directory) (m : ℕ) (id : PageId) (index : ℕ) (made : Directory) → d.lost ≡ false → with_entry d id ≡ Some made → after_read d m id index ≡ registers made m id index
after_is d m id index made lost is = cond-false d.lost d (option_map_or (λ x. registers x m id index) (with_entry d id) d) lost ∙ ap (λ o. option_map_or (λ x. registers x m id index) o d) is

-- behind the entry that is found or made
read_behind : (w : World) (g : Holdings) (content : ℕ → ℕ → List ℕ) (m index : ℕ) (id : PageId) (v : Held) (c : Copy) (made : Directory)
    → Tied w g content → IsLive g m → HasFrame g m (page_number id) index → g.facility.directory.lost ≡ false → with_entry g.facility.directory id ≡ Some made → Entered w g content id made
    → v ≡ record g.facility { directory = after_read g.facility.directory m id index } → c.placed ≡ true → c.noted ≡ true → c.index ≡ (g.copies m (page_number id)).index
    → FrameTied c (frame_read (w.pages (page_number id)).bytes false ((w.pages (page_number id)).frame m)) (content (page_number id))
    → Moved w (entry_moves g.facility.directory id ++ At (page_number id) (Read m false) ∷ []) (record g { copies = put2 g.copies m (page_number id) c; facility = v }) content
read_behind w g content m index id v c made t live at lost is en left placed noted same frame =
    let n = page_number id in
    let to = record g { copies = put2 g.copies m n c; facility = record g.facility { directory = registers made m id index } } in
    let e : v ≡ record g.facility { directory = registers made m id index } = left ∙ ap (λ (x : Directory). record g.facility { directory = x }) (after_is g.facility.directory m id index made lost is) in
    subst (λ (x : Held). Moved w (entry_moves g.facility.directory id ++ At n (Read m false) ∷ []) (record g { copies = put2 g.copies m n c; facility = x }) content) (sym e)
    (moved_on w en.world to content (entry_moves g.facility.directory id) (At n (Read m false) ∷ []) en.run
    (reads en.world (with_directory g made) content m index id c en.tied (ap (λ (x : Group). x.lost) en.group ∙ t.lost ∙ lost) (λ f. not_failed w g content m t live (sym (ap (λ (x : Group). x.status m) en.group) ∙ f))
    (record { placed = at.placed; at = at.at }) placed noted same
    (subst (λ (p : Page). FrameTied c (frame_read p.bytes false (p.frame m)) (content n)) (sym en.page) frame)))

-- ---- the laws
content_some : (content : ℕ → List ℕ) (o : Option ℕ) → is_some (content_of content o) ≡ true → (v : ℕ) × (o ≡ Some v)
content_some content None e = absurd (both_ways false refl e)
content_some content (Some v) e = (v, refl)

content_none : (content : ℕ → List ℕ) (o : Option ℕ) → is_some (content_of content o) ≡ false → o ≡ None
content_none content None e = refl
content_none content (Some v) e = absurd (both_ways true e refl)

bytes_here : (w : World) (g : Holdings) (content : ℕ → ℕ → List ℕ) (id : PageId) → Tied w g content → bytes_of g.facility.directory id ≡ content_of (content (page_number id)) (w.pages (page_number id)).bytes
bytes_here w g content id t = subst (λ z. bytes_of g.facility.directory z ≡ content_of (content (page_number id)) (w.pages (page_number id)).bytes) (named id) (t.pages (page_number id)).bytes

pub finds : FindsMoves
finds w g content m index id page bytes v good t sound live at r =
    let d = g.facility.directory in
    let n = page_number id in
    let p = w.pages n in
    let tp = t.pages n in
    let co = coherent w g content good t n in
    let parts = found_parts d id d.lost (with_entry d id) (is_some (bytes_of d id)) refl refl refl r.0 in
    let there = bytes_here w g content id t in
    let version = content_some (content n) p.bytes (ap is_some (sym there) ∙ parts.some_is) in
    let is : bytes ≡ content n version.0 = r.2 ∙ cond-false d.lost page (unwrap_or (bytes_of d id) page) parts.there ∙ ap (λ o. unwrap_or o page) (there ∙ ap (content_of (content n)) version.1) in
    subst (λ b. Moved w (entry_moves d id ++ At n (Read m false) ∷ []) (record g { copies = put2 g.copies m n (found_copy (g.copies m n) b); facility = v }) content) (sym is)
    (read_behind w g content m index id v (found_copy (g.copies m n) (content n version.0)) parts.made t live at parts.there parts.is (entered w g content id parts.made t sound parts.is) r.1 at.placed refl refl
    (subst (λ o. FrameTied (found_copy (g.copies m n) (content n version.0)) (frame_read o false (p.frame m)) (content n)) (sym version.1)
    (found_frame (g.copies m n) (p.frame m) version.0 (content n) (tp.filled m) (tp.marked m) (tp.same m) (tp.indirect m) (co.marked_filled m))))

pub finds_none : RegistersMoves
finds_none w g content m index id page bytes v good t sound live at r =
    let d = g.facility.directory in
    let n = page_number id in
    let p = w.pages n in
    let tp = t.pages n in
    let co = coherent w g content good t n in
    let parts = empty_parts d id d.lost (with_entry d id) (is_some (bytes_of d id)) refl refl refl r.0 in
    let none = content_none (content n) p.bytes (ap is_some (sym (bytes_here w g content id t)) ∙ parts.some_is) in
    read_behind w g content m index id v (empty_copy (g.copies m n)) parts.made t live at parts.there parts.is (entered w g content id parts.made t sound parts.is) r.1 at.placed refl refl
    (subst (λ o. FrameTied (empty_copy (g.copies m n)) (frame_read o false (p.frame m)) (content n)) (sym none)
    (empty_frame (g.copies m n) (p.frame m) (content n) (tp.marked m) (tp.same m) (co.marked_filled m)))
