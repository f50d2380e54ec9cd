-- The page in hand is taken up, put aside, read, filled, tested, brought forward and written.
use Rattle.std.proofs.Common.{◌≡◌, ℕ, zero, suc, ◌+◌, ◌<◌, ◌≤◌, refl, sym, ap, subst, ◌∙◌, arith, Bool, true, false, inl, inr, List, [], ◌∷◌, Option, Some, None}
use Rattle.std.specs.Prelude.{◌⊎◌, ◌++◌, ◌==◌, ◌&&◌, ◌||◌, if◌then◌else◌, is_none, is_some, unwrap_or}
use Rattle.std.proofs.lemmas.Bool.{both_ways, cases_eq, cases_lt, cond-false}
use Rattle.std.proofs.lemmas.Option.{same_Some}
use Rattle.ds_base.specs.declared.names.PageId.{PageId}
use Rattle.page_format.specs.Fields.{lrsn_of}
use Rattle.write_order.specs.Ranks.{rank_of}
use Rattle.write_order.specs.declared.rank.Rank.{Rank}
use Rattle.cache_structure.specs.declared.face.ReadReply.{ReadReply}
use Rattle.cache_structure.specs.declared.face.ReadReply.TheVariants as read
use Rattle.cache_structure.specs.declared.face.WriteReply.{WriteReply}
use Rattle.cache_structure.specs.declared.face.WriteReply.TheVariants as write
use Rattle.cache_structure.specs.Directory.{Directory, bit, bytes_of, is_full_for, is_registered}
use Rattle.cache_structure.specs.Replies.{read_reply, write_reply}
use Rattle.facility.specs.declared.command.Reply.{Reply}
use Rattle.facility.specs.declared.command.Reply.TheVariants as reply
use Rattle.facility.specs.CacheCommands.{ReadsPage, WritesPage, reply_to_read, reply_to_write}
use Rattle.facility.specs.States.{Held as Facility}
use Rattle.restart_records.specs.declared.queue.TurnKey.{TurnKey}
use Rattle.restart_records.specs.Queue.{ranked_key}
use Rattle.restart_marks.specs.declared.hand.Hand.{Hand}
use Rattle.restart_marks.specs.Hands.{brought_after as hand_brought, filled_after, met, moved_to, noted_with, ranked_after, read_after, ready_after, written_after}
use Rattle.restart_marks.specs.Moves.{hand_with}
use Rattle.restart_marks.specs.State.{RestartState, no_hand, with_hand}
use Rattle.restart_resources.specs.Forward.{own_forward}
use Rattle.restart_resources.specs.Held.{Held, with_marks, with_page}
use Rattle.restart_resources.specs.Settled.{bring_after, brought_after, noted, read_in, tested_in}
use Rattle.page_protocol.specs.Page.{Page, Group, AllStable}
use Rattle.page_protocol.specs.Moves.{World, At, DropFrame, PutAside, Read, ReadDisk, Redo, Write}
use Rattle.page_protocol.specs.Always.{Stands}
use Rattle.page_protocol.specs.Coherent.{Coherent}
use Rattle.page_world.specs.Cache.{FindsMoves, RegistersMoves, WritesMoves, empty_copy, entry_moves, found_copy, written_copy}
use Rattle.page_world.specs.Frames.{AsideMoves, FillsMoves, LeavesMoves, PlacesStays, RedoesMoves, filled_copy, placed_copy, redone_copy}
use Rattle.page_world.specs.Holdings.{Copy, no_copy, Holdings, held_of, with_copy}
use Rattle.page_world.specs.Numbers.{page_at, page_number}
use Rattle.page_world.specs.Refusals.{ReadRefused, WriteRefused}
use Rattle.page_world.specs.Tied.{PageTied, Tied, bit_in}
use Rattle.page_restarts.specs.Stands.{Begins, GoesAlong, behind, hand_copy}
use Rattle.page_restarts.specs.Hands.{FillGoes, ForwardGoes, PutsDown, ReadGoes, TakesUp, TestGoes, WriteGoes}
use Rattle.page_restarts.specs.Locals.{PutsAside}
use Rattle.page_restarts.proofs.Chains.{at_entry, at_none, at_one}
use Rattle.page_restarts.proofs.Standing.{SameMembers, copy_here, copy_none, copy_there, goes_by, has_copy, has_frame, is_live_restarting, leaves_hand, quiet_by, same_members}

unchanged : (f : Facility) → SameMembers f f
unchanged f = record { members = refl; statuses = refl; counter = refl }

-- ---- bytes of a copy that isn't filled are nobody's
record Loose (a c : Copy) : Type 0 where
  pub placed : c.placed ≡ a.placed
  pub index : c.index ≡ a.index
  pub filled : c.filled ≡ a.filled
  pub marked : c.marked ≡ a.marked
  pub noted : c.noted ≡ a.noted
  pub bytes : a.filled ≡ true → c.bytes ≡ a.bytes

same_bit : (d : Directory) (id : PageId) (m : ℕ) (a c : Copy) → Loose a c → bit_in c (is_registered d id m c.index) ≡ bit_in a (is_registered d id m a.index)
same_bit d id m a c l =
    let placed = l.placed in
    let noted = l.noted in
    let index = l.index in
    λ i. placed i && (noted i && is_registered d id m (index i))

page_loose : (g : Holdings) (now : ℕ → ℕ → Copy) (n : ℕ) (p : Page) (content : ℕ → List ℕ) → ((m : ℕ) → Loose (g.copies m n) (now m n)) → PageTied (held_of g n) p content → PageTied (held_of (record g { copies = now }) n) p content
page_loose g now n p content loose t = record {
  bytes = t.bytes;
  changed = t.changed;
  there = t.there;
  castout = t.castout;
  written = t.written;
  disk = t.disk;
  bit = λ m. same_bit g.facility.directory (page_at n) m (g.copies m n) (now m n) (loose m) ∙ t.bit m;
  own = λ m x y z. (let l = loose m in ap (is_registered g.facility.directory (page_at n) m) l.index ∙ t.own m (sym l.placed ∙ x) (sym l.noted ∙ y) (sym (ap (bit g.facility.directory m) l.index) ∙ z));
  filled = λ m. (let l = loose m in l.filled ∙ t.filled m);
  marked = λ m. (let l = loose m in l.marked ∙ t.marked m);
  same = λ m f. (let l = loose m in l.bytes (t.filled m ∙ f) ∙ t.same m f);
  indirect = t.indirect;
  buffer = t.buffer;
  sent = t.sent;
  owner = t.owner;
  part = t.part;
}

tied_loose : (w : World) (g : Holdings) (content : ℕ → ℕ → List ℕ) (now : ℕ → ℕ → Copy) → Tied w g content → ((m n : ℕ) → Loose (g.copies m n) (now m n)) → Tied w (record g { copies = now }) content
tied_loose w g content now t loose = record {
  running = t.running;
  lost = t.lost;
  counter = t.counter;
  status = t.status;
  stable = t.stable;
  written = t.written;
  apart = λ m n j x y e. (let a = loose m n in let c = loose m j in t.apart m n j (sym a.placed ∙ x) (sym c.placed ∙ y) (sym a.index ∙ e ∙ c.index));
  pages = λ n. page_loose g now n (w.pages n) (content n) (λ m. loose m n) (t.pages n);
}

tight : (a c : Copy) → c ≡ a → Loose a c
tight a c e = subst (λ z. Loose a z) (sym e) (record { placed = refl; index = refl; filled = refl; marked = refl; noted = refl; bytes = λ _. refl })

-- ---- a page is taken up
now_loose : (g : Holdings) (m n : ℕ) (c d : Copy) → Loose c d → (p j : ℕ) → Loose ((with_copy g m n c).copies p j) ((with_copy g m n d).copies p j)
now_loose g m n c d l p j = by ((p == m) && (j == n))
  where
    by : (b : Bool) → Loose (if b then c else g.copies p j) (if b then d else g.copies p j)
    by true = l
    by false = tight (g.copies p j) (g.copies p j) refl

pub takes_up : PlacesStays → TakesUp
takes_up law w g content forced h p key b none =
    let m = h.marks.member in
    let n = page_number p in
    let t = with_marks h (with_hand h.marks (hand_with p key)) in
    let away : (j : ℕ) → g.copies m j ≡ no_copy = (λ j. b.restarts.copies j ∙ copy_none h j none) in
    let placed = law w g content m n 0 b.tied (away n) (λ j e. absurd (both_ways (g.copies m j).placed (ap (λ (c : Copy). c.placed) (away j)) e)) in
    let loose : Loose (placed_copy 0) (hand_copy (hand_with p key) h.page) = record { placed = refl; index = refl; filled = refl; marked = refl; noted = refl; bytes = λ e. absurd (cc e) } in
    goes_by w g content forced g.facility h t n (hand_copy (hand_with p key) h.page) [] b.numbered b.restarts
    (record {
      member = refl;
      log = refl;
      own = refl;
      full = λ e. absurd (cc e);
      shows = λ e. absurd (cc e);
      here = copy_here t p refl;
      there = λ j ne. copy_there t p j refl ne ∙ sym (copy_none h j none);
    }) (unchanged g.facility) at_none
    (record { world = placed.world; run = placed.run; tied = tied_loose placed.world (with_copy g m n (placed_copy 0)) content (with_copy g m n (hand_copy (hand_with p key) h.page)).copies placed.tied (now_loose g m n (placed_copy 0) (hand_copy (hand_with p key) h.page) loose) })

-- ---- and put aside
pub puts_down : LeavesMoves → PutsDown
puts_down law w g content forced h b clean = by h.marks.hand.page refl
  where
    t : Held
    t = with_marks h (with_hand h.marks no_hand)

    by : (o : Option PageId) → h.marks.hand.page ≡ o → GoesAlong w content forced (behind g g.facility h.marks.member t) h t
    by None e =
        quiet_by w g content forced g.facility h t 0 b.tied b.numbered b.restarts
        (record { member = refl; log = refl; own = refl; full = λ x. absurd (cc x); shows = λ x. absurd (cc x); here = sym (b.restarts.copies 0 ∙ copy_none h 0 e); there = λ j ne. sym (copy_none h j e) }) refl
    by (Some p) e =
        let m = h.marks.member in
        let n = page_number p in
        let c = has_copy g forced h p b.restarts e in
        goes_by w g content forced g.facility h t n no_copy (At n (DropFrame m) ∷ []) b.numbered b.restarts
        (record { member = refl; log = refl; own = refl; full = λ x. absurd (cc x); shows = λ x. absurd (cc x); here = refl; there = λ j ne. sym (copy_there h p j e ne) }) (unchanged g.facility) (at_one n (DropFrame m) refl)
        (law w g content m n b.tied (ap (λ (x : Copy). x.marked) c ∙ clean))

-- a changed one, where all records that its member has drawn are on disk
pub coherent : (g : Group) (p : Page) (b : Bool) → b ≡ false → Stands b g p → Coherent g p
coherent g p true e s = absurd (cc e)
coherent g p false e s = s

own_stable : (g : Group) (p : Page) (m : ℕ) → Coherent g p → (p.frame m).marked ≡ true → g.stable m ≡ g.written m → AllStable g p p.last
own_stable g p m co marked level i l = elim (cases_lt i p.shared) [
  | inl less ↦ co.stable i less
  | inr le ↦ (let own : p.author i ≡ m = same_Some (p.author i) m (sym (co.own i le l) ∙ co.marked_own m marked) in
      let there = co.written i l in
      subst (λ z. p.place i < z) (ap g.written own ∙ sym level ∙ sym (ap g.stable own)) there)
]

pub puts_aside : AsideMoves → PutsAside
puts_aside law w g content forced h b changed level = by h.marks.hand.page refl
  where
    m : ℕ
    m = h.marks.member

    t : Held
    t = with_marks h (with_hand h.marks no_hand)

    world_level : w.group.stable h.marks.member ≡ w.group.written h.marks.member
    world_level = b.tied.stable h.marks.member ∙ level ∙ sym (b.tied.written h.marks.member)

    by : (o : Option PageId) → h.marks.hand.page ≡ o → GoesAlong w content forced (behind g g.facility h.marks.member t) h t
    by None e =
        quiet_by w g content forced g.facility h t 0 b.tied b.numbered b.restarts
        (record { member = refl; log = refl; own = refl; full = λ x. absurd (cc x); shows = λ x. absurd (cc x); here = sym (b.restarts.copies 0 ∙ copy_none h 0 e); there = λ j ne. sym (copy_none h j e) }) refl
    by (Some p) e =
        let n = page_number p in
        let marked = ap (λ (x : Copy). x.marked) (has_copy g forced h p b.restarts e) ∙ changed in
        goes_by w g content forced g.facility h t n no_copy (At n (PutAside m) ∷ []) b.numbered b.restarts
        (record { member = refl; log = refl; own = refl; full = λ x. absurd (cc x); shows = λ x. absurd (cc x); here = refl; there = λ j ne. sym (copy_there h p j e ne) }) (unchanged g.facility) (at_one n (PutAside m) refl)
        (law w g content m n b.tied b.restarts.least b.restarts.among b.restarts.restarts marked
        (own_stable w.group (w.pages n) m (coherent w.group (w.pages n) w.down b.tied.running (b.good.stands n)) (sym ((b.tied.pages n).marked m) ∙ marked) world_level))

-- ---- it is read
kept_bytes : (b : Bool) (old page bytes : List ℕ) → bytes ≡ page → (b ≡ false → page ≡ old) → (if b then old else bytes) ≡ old
kept_bytes true old page bytes e h = refl
kept_bytes false old page bytes e h = e ∙ h refl

no_bytes : (page : List ℕ) (l full : Bool) (o : Option (List ℕ)) → (if l then read.Lost else if full then read.CacheFull else if is_some o then read.Found else read.NoData) ≡ read.NoData → (if l then page else unwrap_or o page) ≡ page
no_bytes page true full o e = absurd (cc e)
no_bytes page false true o e = absurd (cc e)
no_bytes page false false None e = refl
no_bytes page false false (Some x) e = absurd (cc e)

changed_shows : (b : Bool) (page bytes old : List ℕ) (last : ℕ) → (b ≡ true → lrsn_of old ≡ last) → page ≡ (if b then old else bytes) → b ≡ true → lrsn_of page ≡ last
changed_shows true page bytes old last shows e x = ap lrsn_of e ∙ shows refl
changed_shows false page bytes old last shows e x = absurd (cc x)

module _ (finds : FindsMoves) (registers : RegistersMoves) (refused : ReadRefused) (w : World) (g : Holdings) (content : ℕ → ℕ → List ℕ) (forced : ℕ → ℕ) (h after : Held) (p : PageId) (page bytes : List ℕ) (answer : Reply) (v : Facility) (b : Begins w g content forced h) (has : h.marks.hand.page ≡ Some p) (lent : h.marks.hand.changed ≡ false → page ≡ h.page)
    (r : ReadsPage g.facility h.marks.member p 0 page answer v bytes) (marks : after.marks ≡ h.marks) (left : after.page ≡ (if h.marks.hand.changed then h.page else bytes)) where
  abbrev Left : Reply → Type 0
  Left a = GoesAlong w content forced (behind g v h.marks.member (read_in after a)) h (read_in after a)

  so : (a : Reply) → answer ≡ a → Left a → Left answer
  so a e x = subst (λ z. Left z) (sym e) x

  -- the marks as they were
  abbrev now : Reply → Held
  now a = record { marks = with_hand h.marks (read_after h.marks.hand a); page = after.page; spare = after.spare }

  is_now : (a : Reply) → read_in after a ≡ now a
  is_now a = ap (λ (z : RestartState). record { marks = with_hand z (read_after z.hand a); page = after.page; spare = after.spare }) marks

  as_now : (a : Reply) → GoesAlong w content forced (behind g v h.marks.member (now a)) h (now a) → Left a
  as_now a x = subst (λ (z : Held). GoesAlong w content forced (behind g v h.marks.member z) h z) (sym (is_now a)) x

  n : ℕ
  n = page_number p

  m : ℕ
  m = h.marks.member

  c : g.copies h.marks.member (page_number p) ≡ hand_copy h.marks.hand h.page
  c = has_copy g forced h p b.restarts has

  shows_on : h.marks.hand.changed ≡ true → lrsn_of after.page ≡ h.marks.hand.last
  shows_on = changed_shows h.marks.hand.changed after.page bytes h.page h.marks.hand.last b.restarts.shows left

  refuse : (a : Reply) → answer ≡ a → (a ≡ reply.CacheFull) ⊎ (a ≡ reply.Lost) → read_after h.marks.hand a ≡ h.marks.hand → Left a
  refuse a e which same =
      let no = refused g.facility v h.marks.member 0 p page bytes answer (subst (λ z. (z ≡ reply.CacheFull) ⊎ (z ≡ reply.Lost)) (sym e) which) r in
      let old : after.page ≡ h.page = left ∙ kept_bytes h.marks.hand.changed h.page page bytes no.1 lent in
      let t : Held = record { marks = h.marks; page = after.page; spare = after.spare } in
      as_now a (subst (λ (z : Hand). GoesAlong w content forced (behind g v h.marks.member (record { marks = with_hand h.marks z; page = after.page; spare = after.spare })) h (record { marks = with_hand h.marks z; page = after.page; spare = after.spare })) (sym same)
      (quiet_by w g content forced v h t (page_number p) b.tied b.numbered b.restarts
      (leaves_hand h t p (g.copies h.marks.member (page_number p)) has has refl refl refl b.restarts.full shows_on (ap (hand_copy h.marks.hand) old ∙ sym c)) no.0))

  found : answer ≡ reply.Found → Left reply.Found
  found is =
      let t = now reply.Found in
      let hand = h.marks.hand in
      let copy : hand_copy t.marks.hand t.page ≡ found_copy (hand_copy hand h.page) bytes = ap (λ z. record (hand_copy hand h.page) { filled = true; noted = true; bytes = z }) left in
      as_now reply.Found
      (goes_by w g content forced v h t (page_number p) (found_copy (g.copies h.marks.member (page_number p)) bytes) (entry_moves g.facility.directory p ++ At (page_number p) (Read h.marks.member false) ∷ []) b.numbered b.restarts
      (leaves_hand h t p (found_copy (g.copies h.marks.member (page_number p)) bytes) has has refl refl refl (λ x. refl) shows_on (copy ∙ ap (λ (z : Copy). found_copy z bytes) (sym c)))
      (same_members g.facility v _ r.1 (record { members = refl; statuses = refl; counter = refl })) (at_entry g.facility.directory p (page_number p) (Read h.marks.member false) refl)
      (finds w g content h.marks.member 0 p page bytes v b.good b.tied b.sound (is_live_restarting g forced h b.restarts) (has_frame g forced h p b.restarts has) (subst (λ z. ReadsPage g.facility h.marks.member p 0 page z v bytes) is r)))

  empty : read_reply g.facility.directory p ≡ read.NoData → answer ≡ reply.NoData → Left reply.NoData
  empty e is =
      let t = now reply.NoData in
      let hand = h.marks.hand in
      let d = g.facility.directory in
      let old : after.page ≡ h.page = left ∙ kept_bytes hand.changed h.page page bytes (r.2 ∙ no_bytes page d.lost (is_full_for d p) (bytes_of d p) e) lent in
      let copy : hand_copy t.marks.hand t.page ≡ empty_copy (hand_copy hand h.page) = ap (λ z. record (hand_copy hand h.page) { filled = hand.changed; noted = true; bytes = z }) old in
      as_now reply.NoData
      (goes_by w g content forced v h t (page_number p) (empty_copy (g.copies h.marks.member (page_number p))) (entry_moves d p ++ At (page_number p) (Read h.marks.member false) ∷ []) b.numbered b.restarts
      (leaves_hand h t p (empty_copy (g.copies h.marks.member (page_number p))) has has refl refl refl (λ x. x) shows_on (copy ∙ ap empty_copy (sym c)))
      (same_members g.facility v _ r.1 (record { members = refl; statuses = refl; counter = refl })) (at_entry d p (page_number p) (Read h.marks.member false) refl)
      (registers w g content h.marks.member 0 p page bytes v b.good b.tied b.sound (is_live_restarting g forced h b.restarts) (has_frame g forced h p b.restarts has) (subst (λ z. ReadsPage g.facility h.marks.member p 0 page z v bytes) is r)))

  read_by : (x : ReadReply) → read_reply g.facility.directory p ≡ x → Left answer
  read_by read.Found e = let is : answer ≡ reply.Found = r.0 ∙ ap reply_to_read e in so reply.Found is (found is)
  read_by read.NoData e = let is : answer ≡ reply.NoData = r.0 ∙ ap reply_to_read e in so reply.NoData is (empty e is)
  read_by read.CacheFull e = let is : answer ≡ reply.CacheFull = r.0 ∙ ap reply_to_read e in so reply.CacheFull is (refuse reply.CacheFull is (inl refl) refl)
  read_by read.Lost e = let is : answer ≡ reply.Lost = r.0 ∙ ap reply_to_read e in so reply.Lost is (refuse reply.Lost is (inr refl) refl)

pub read_goes : FindsMoves → RegistersMoves → ReadRefused → ReadGoes
read_goes finds registers refused w g content forced h after p page bytes answer v b has lent r marks left =
    read_by finds registers refused w g content forced h after p page bytes answer v b has lent r marks left (read_reply g.facility.directory p) refl

-- ---- or filled from disk
or_first : (a b : Bool) → a ≡ true → (a || b) ≡ true
or_first true b e = refl
or_first false b e = absurd (cc e)

or_second : (a b : Bool) → b ≡ true → (a || b) ≡ true
or_second true b e = refl
or_second false b e = e

pub fill_goes : FillsMoves → FillGoes
fill_goes law w g content forced h p b has registered unfilled =
    let m = h.marks.member in
    let n = page_number p in
    let hand = h.marks.hand in
    let bytes = g.disk n in
    let t = with_marks (with_page h bytes) (with_hand h.marks (filled_after hand)) in
    let c = has_copy g forced h p b.restarts has in
    let noted : (hand.registered || true) ≡ (hand.registered || hand.filled) = or_first hand.registered true registered ∙ sym (or_first hand.registered hand.filled registered) in
    let clean : hand.changed ≡ true → hand.filled ≡ true = b.restarts.full in
    let copy : hand_copy t.marks.hand t.page ≡ filled_copy (hand_copy hand h.page) bytes = ap (λ z. record (hand_copy hand h.page) { filled = true; noted = z; bytes = bytes }) noted in
    goes_by w g content forced g.facility h t n (filled_copy (g.copies m n) bytes) (At n (ReadDisk m) ∷ []) b.numbered b.restarts
    (leaves_hand h t p (filled_copy (g.copies m n) bytes) has has refl refl refl (λ x. refl) (λ x. absurd (both_ways hand.filled unfilled (clean x))) (copy ∙ ap (λ (z : Copy). filled_copy z bytes) (sym c))) (unchanged g.facility) (at_one n (ReadDisk m) refl)
    (law w g content m n b.tied (is_live_restarting g forced h b.restarts) (ap (λ (z : Copy). z.filled) c ∙ unfilled))

-- ---- it is tested: a filled frame counts as registered all along
pub tested_copy : (hand : Hand) (page : List ℕ) (x : Bool) → hand.filled ≡ true → hand_copy (record hand { registered = x }) page ≡ hand_copy hand page
tested_copy hand page x filled =
    let noted : (x || hand.filled) ≡ (hand.registered || hand.filled) = or_second x hand.filled filled ∙ sym (or_second hand.registered hand.filled filled) in
    ap (λ z. record (hand_copy hand page) { noted = z }) noted

pub test_goes : TestGoes
test_goes w g content forced h p answer v b has filled r = by (bit g.facility.directory h.marks.member 0) r.0
  where
    left : (x : Bool) → (let t = with_marks h (with_hand h.marks (record h.marks.hand { registered = x })) in GoesAlong w content forced (behind g v h.marks.member t) h t)
    left x =
        let t = with_marks h (with_hand h.marks (record h.marks.hand { registered = x })) in
        quiet_by w g content forced v h t (page_number p) b.tied b.numbered b.restarts
        (leaves_hand h t p (g.copies h.marks.member (page_number p)) has has refl refl refl b.restarts.full b.restarts.shows (tested_copy h.marks.hand h.page x filled ∙ sym (has_copy g forced h p b.restarts has))) r.1

    by : (x : Bool) → answer ≡ (if x then reply.Valid else reply.Invalid) → GoesAlong w content forced (behind g v h.marks.member (tested_in h answer)) h (tested_in h answer)
    by true e = subst (λ a. GoesAlong w content forced (behind g v h.marks.member (tested_in h a)) h (tested_in h a)) (sym e) (left true)
    by false e = subst (λ a. GoesAlong w content forced (behind g v h.marks.member (tested_in h a)) h (tested_in h a)) (sym e) (left false)

-- ---- it is brought forward
record Raised (s t : RestartState) (p : PageId) (number : ℕ) : Type 0 where
  pub member : t.member ≡ s.member
  pub log : t.log ≡ s.log
  pub own : t.own ≡ s.own
  pub page : t.hand.page ≡ Some p
  pub filled : t.hand.filled ≡ s.hand.filled
  pub registered : t.hand.registered ≡ s.hand.registered
  pub changed : t.hand.changed ≡ true
  pub last : t.hand.last ≡ number

ranked_raised : (s : RestartState) (key ranked : TurnKey) (p : PageId) (number : ℕ) → s.hand.page ≡ Some p → Raised s (with_hand (ranked_after s key ranked) (hand_brought (ranked_after s key ranked).hand true number)) p number
ranked_raised s key ranked p number has = by (key.turn == 0)
  where
    by : (x : Bool) → (let u = if x then moved_to s key ranked else s in Raised s (with_hand u (hand_brought u.hand true number)) p number)
    by true = record { member = refl; log = refl; own = refl; page = has; filled = refl; registered = refl; changed = refl; last = refl }
    by false = record { member = refl; log = refl; own = refl; page = has; filled = refl; registered = refl; changed = refl; last = refl }

ready_raised : (s : RestartState) (key : TurnKey) (p : PageId) (number : ℕ) (rank : Rank) → s.hand.key ≡ Some key → s.hand.page ≡ Some p → Raised s (ready_after s true number rank) p number
ready_raised s key p number rank keyed has =
    let x = ranked_raised s key (ranked_key p rank) p number has in
    let is : noted_with s s.hand.key s.hand.page true number rank ≡ noted_with s (Some key) (Some p) true number rank = ap (λ o. noted_with s o s.hand.page true number rank) keyed ∙ ap (λ o. noted_with s (Some key) o true number rank) has in
    subst (λ (z : RestartState). Raised s (met z number) p number) (sym is) (record { member = x.member; log = x.log; own = x.own; page = x.page; filled = x.filled; registered = x.registered; changed = x.changed; last = x.last })

pub forward_goes : RedoesMoves → ForwardGoes
forward_goes law w g content forced h p key b has filled keyed valid outcome raises =
    subst (λ (z : Held). GoesAlong w content forced (behind g g.facility h.marks.member z) h z) (sym is)
    (goes_by w g content forced g.facility h t n (redone_copy (g.copies m n) (content n (w.pages n).last)) (At n (Redo m) ∷ []) b.numbered b.restarts
    (leaves_hand h t p (redone_copy (g.copies m n) (content n (w.pages n).last)) has x.page x.member x.log x.own (λ _. x.filled ∙ filled) (λ _. sym x.last) (copy ∙ ap (λ (z : Copy). redone_copy z (content n (w.pages n).last)) (sym c))) (unchanged g.facility) (at_one n (Redo m) refl)
    (law w g content m n 0 b.tied b.restarts.least b.restarts.among b.restarts.restarts raises.own (has_frame g forced h p b.restarts has) (ap (λ (z : Copy). z.noted) c ∙ or_second h.marks.hand.registered h.marks.hand.filled filled) (ap (λ (z : Copy). z.filled) c ∙ filled) valid))
  where
    m : ℕ
    m = h.marks.member

    n : ℕ
    n = page_number p

    page : List ℕ
    page = (own_forward p h.page h.marks).page

    t : Held
    t = with_marks (with_page h page) (ready_after h.marks true (lrsn_of page) (rank_of p page))

    x : Raised h.marks t.marks p (lrsn_of page)
    x = ready_raised h.marks key p (lrsn_of page) (rank_of p page) keyed has

    c : g.copies h.marks.member (page_number p) ≡ hand_copy h.marks.hand h.page
    c = has_copy g forced h p b.restarts has

    is : bring_after h p ≡ t
    is =
        cond-false (is_none h.marks.hand.key) (noted h p false) (brought_after (with_page h page) p (own_forward p h.page h.marks).outcome) (ap is_none keyed)
        ∙ ap (brought_after (with_page h page) p) outcome

    copy : hand_copy t.marks.hand t.page ≡ redone_copy (hand_copy h.marks.hand h.page) (content n (w.pages n).last)
    copy =
        let f : t.marks.hand.filled ≡ true = x.filled ∙ filled in
        let d = x.changed in
        let e = x.registered in
        let k : h.marks.hand.filled ≡ true = filled in
        let last = raises.last in
        let noted : (t.marks.hand.registered || t.marks.hand.filled) ≡ (h.marks.hand.registered || h.marks.hand.filled) = or_second t.marks.hand.registered t.marks.hand.filled f ∙ sym (or_second h.marks.hand.registered h.marks.hand.filled k) in
        λ i. record { placed = true; index = 0; filled = f i; marked = d i; noted = noted i; bytes = last i }

-- ---- it is written: its changes are stable
newest : (i last : ℕ) → i < last → (j : ℕ) × (last ≡ j + 1) × (i ≤ j)
newest i zero l = absurd (omega (arith, l))
newest i (suc j) l = (j, omega arith, omega (arith, l))

no_greater : (lrsn : ℕ → ℕ) (last i j : ℕ) → ((i j : ℕ) → i < j → j < last → lrsn i < lrsn j) → i ≤ j → j < last → lrsn i ≤ lrsn j
no_greater lrsn last i j rise le l = elim (cases_eq i j) [
  | inl e ↦ (let same : lrsn i ≡ lrsn j = ap lrsn e in omega (arith, same))
  | inr ne ↦ (let less = rise i j (omega (arith, le, ne)) l in omega (arith, less))
]

all_stable : (w : World) (g : Holdings) (content : ℕ → ℕ → List ℕ) (forced : ℕ → ℕ) (h : Held) (p : PageId) → Begins w g content forced h → h.marks.hand.page ≡ Some p → h.marks.hand.changed ≡ true → h.marks.hand.last ≤ h.marks.log.stable
    → AllStable w.group (w.pages (page_number p)) (w.pages (page_number p)).last
all_stable w g content forced h p b has changed stable i l = elim (cases_lt i q.shared) [
  | inl less ↦ co.stable i less
  | inr le ↦ b.numbered.stable n i l (subst (λ z. q.lrsn i ≤ forced z) (sym (author le)) (below le))
]
  where
    n : ℕ
    n = page_number p

    m : ℕ
    m = h.marks.member

    q : Page
    q = w.pages n

    co : Coherent w.group q
    co = coherent w.group q w.down b.tied.running (b.good.stands n)

    copy : g.copies m n ≡ hand_copy h.marks.hand h.page
    copy = has_copy g forced h p b.restarts has

    marked : (q.frame m).marked ≡ true
    marked = sym ((b.tied.pages n).marked m) ∙ ap (λ (z : Copy). z.marked) copy ∙ changed

    author : q.shared ≤ i → q.author i ≡ m
    author le = same_Some (q.author i) m (sym (co.own i le l) ∙ co.marked_own m marked)

    bytes : h.page ≡ content n q.last
    bytes = sym (ap (λ (z : Copy). z.bytes) copy) ∙ (b.tied.pages n).same m (co.marked_filled m marked) ∙ ap (content n) (co.marked_last m marked)

    below : q.shared ≤ i → q.lrsn i ≤ forced m
    below le =
        let j = newest i q.last l in
        let short : j.0 < q.last = omega (arith, j.1) in
        let shows : lrsn_of h.page ≡ q.lrsn j.0 = ap lrsn_of (bytes ∙ ap (content n) j.1) ∙ b.numbered.shown n j.0 short in
        let last = b.restarts.shows changed in
        let log = b.restarts.log in
        let least = no_greater q.lrsn q.last i j.0 (b.good.numbered n).rise j.2 short in
        omega (arith, shows, stable, least, last, log)

module _ (writes : WritesMoves) (refused : WriteRefused) (w : World) (g : Holdings) (content : ℕ → ℕ → List ℕ) (forced : ℕ → ℕ) (h : Held) (p : PageId) (answer : Reply) (v : Facility) (b : Begins w g content forced h) (has : h.marks.hand.page ≡ Some p) (changed : h.marks.hand.changed ≡ true) (stable : h.marks.hand.last ≤ h.marks.log.stable)
    (r : WritesPage g.facility h.marks.member p 0 h.page answer v) where
  abbrev Written : Reply → Type 0
  Written a = GoesAlong w content forced (behind g v h.marks.member (with_marks h (with_hand h.marks (written_after h.marks.hand a)))) h (with_marks h (with_hand h.marks (written_after h.marks.hand a)))

  written_as : (a : Reply) → answer ≡ a → Written a → Written answer
  written_as a e x = subst (λ z. Written z) (sym e) x

  not_written : (a : Reply) → answer ≡ a → (a ≡ reply.CacheFull) ⊎ (a ≡ reply.Lost) → written_after h.marks.hand a ≡ h.marks.hand → Written a
  not_written a e which same =
      let no = refused g.facility v h.marks.member 0 p h.page answer (subst (λ z. (z ≡ reply.CacheFull) ⊎ (z ≡ reply.Lost)) (sym e) which) r in
      subst (λ (z : Hand). GoesAlong w content forced (behind g v h.marks.member (with_marks h (with_hand h.marks z))) h (with_marks h (with_hand h.marks z))) (sym same)
      (quiet_by w g content forced v h h (page_number p) b.tied b.numbered b.restarts
      (leaves_hand h h p (g.copies h.marks.member (page_number p)) has has refl refl refl b.restarts.full b.restarts.shows (sym (has_copy g forced h p b.restarts has))) no)

  written_by : (x : WriteReply) → write_reply g.facility.directory p ≡ x → Written answer
  written_by write.Written e =
      let n = page_number p in
      let m = h.marks.member in
      let is : answer ≡ reply.Written = r.0 ∙ ap reply_to_write e in
      let c = has_copy g forced h p b.restarts has in
      let t = with_marks h (with_hand h.marks (written_after h.marks.hand reply.Written)) in
      written_as reply.Written is
      (goes_by w g content forced v h t n (written_copy (g.copies m n)) (entry_moves g.facility.directory p ++ At n (Write m) ∷ []) b.numbered b.restarts
      (leaves_hand h t p (written_copy (g.copies m n)) has has refl refl refl (λ x. absurd (cc x)) (λ x. absurd (cc x)) (ap written_copy (sym c)))
      (same_members g.facility v _ r.1 (record { members = refl; statuses = refl; counter = refl })) (at_entry g.facility.directory p n (Write m) refl)
      (writes w g content m 0 p h.page v b.good b.tied b.sound (is_live_restarting g forced h b.restarts) (has_frame g forced h p b.restarts has)
      (ap (λ (z : Copy). z.marked) c ∙ changed) (ap (λ (z : Copy). z.bytes) c) (all_stable w g content forced h p b has changed stable) (subst (λ z. WritesPage g.facility m p 0 h.page z v) is r)))
  written_by write.CacheFull e = let is : answer ≡ reply.CacheFull = r.0 ∙ ap reply_to_write e in written_as reply.CacheFull is (not_written reply.CacheFull is (inl refl) refl)
  written_by write.Lost e = let is : answer ≡ reply.Lost = r.0 ∙ ap reply_to_write e in written_as reply.Lost is (not_written reply.Lost is (inr refl) refl)

pub write_goes : WritesMoves → WriteRefused → WriteGoes
write_goes writes refused w g content forced h p answer v b has changed stable r = written_by writes refused w g content forced h p answer v b has changed stable r (write_reply g.facility.directory p) refl
