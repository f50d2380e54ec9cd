-- A page is cast out.
use Rattle.std.proofs.Common.{◌≡◌, ◌≢◌, ℕ, ◌≤◌, refl, sym, ap, subst, ◌∙◌, Bool, true, false, inl, inr, List, [], ◌∷◌, Option, Some, None}
use Rattle.std.specs.Prelude.{◌⊎◌, ◌==◌, ◌&&◌, if◌then◌else◌, unwrap_or}
use Rattle.std.specs.Option.{option_map_or}
use Rattle.std.proofs.lemmas.Bool.{cond-true, cond-false, both_ways, cases_eq, and_from, and_parts, eq-eqb, eqb-true, ne_eqb, false_from_ne_true}
use Rattle.ds_base.specs.declared.names.PageId.{PageId}
use Rattle.cache_structure.specs.declared.face.CastReply.{CastReply}
use Rattle.cache_structure.specs.declared.face.CastReply.TheVariants as cast
use Rattle.cache_structure.specs.declared.face.DoneReply.{DoneReply}
use Rattle.cache_structure.specs.declared.face.DoneReply.TheVariants as done
use Rattle.cache_structure.specs.Entries.{Entry, entry_of, at_entry, locked_by, cast_out, is_locked_by}
use Rattle.cache_structure.specs.Directory.{Directory, bytes_of, may_cast, is_castable, is_taken, after_castout_read, holds_castout, after_castout_done, castout_of}
use Rattle.cache_structure.specs.Replies.{read_into, cast_reply_at, cast_reply, cast_into, done_reply}
use Rattle.facility.specs.declared.command.Reply.{Reply}
use Rattle.facility.specs.declared.command.Reply.TheVariants as reply
use Rattle.facility.specs.States.{Held}
use Rattle.facility.specs.CacheCommands.{BeginsCastout, EndsCastout, reply_to_cast, reply_to_done, lists_after_done}
use Rattle.member_needs.specs.declared.castout.Cast.{Cast as InHand}
use Rattle.list_structure.specs.Standings.{status_of}
use Rattle.member_effects.specs.Kept.{Kept}
use Rattle.page_protocol.specs.Page.{Page, put}
use Rattle.page_protocol.specs.Moves.{World, Move, At, CastoutRead, CastoutWrite, CastoutDone}
use Rattle.page_world.specs.Numbers.{page_number, AreNumbered as Numbers}
use Rattle.page_world.specs.Holdings.{Cast, no_cast, Holdings, PageHeld, held_of, with_cast, with_facility}
use Rattle.page_world.specs.Tied.{PageTied, Tied, Moved}
use Rattle.page_world.specs.Castouts.{taken_cast as taken_bytes, sent_cast, cached, BeginsMoves, CastsMoves, EndsMoves}
use Rattle.page_intents.specs.Stands.{IsUp, Goes}
use Rattle.page_intents.specs.Numbers.{AreNumbered}
use Rattle.page_intents.specs.Plain.{none_waits}
use Rattle.page_intents.specs.Castouts.{cast_of, cast_behind, taken_cast, AnyDoneGoes, AnyReadGoes, AnyWriteGoes, CastDoneGoes, CastGoes, CastReadGoes, CastWriteGoes}
use Rattle.page_intents.proofs.Chains.{AtPages, at_one, at_none, numbered_on, plain_pages}
use Rattle.page_intents.proofs.Standing.{SameMembers, same_members}

-- ---- what a member has in hand of a castout may be forgotten
abbrev Fits : (ℕ → ℕ → Cast) → (ℕ → ℕ → Cast) → Type 0
Fits before now = (p j : ℕ) → (now p j ≡ before p j) ⊎ ((now p j).taken ≡ false)

page_forgets : (h : PageHeld) (p : Page) (content : ℕ → List ℕ) (now : ℕ → Cast) → PageTied h p content → ((m : ℕ) → (now m ≡ h.casts m) ⊎ ((now m).taken ≡ false)) → PageTied (record h { casts = now }) p content
page_forgets h p content now t fits = record {
  bytes = t.bytes;
  changed = t.changed;
  there = t.there;
  castout = t.castout;
  written = t.written;
  disk = t.disk;
  bit = t.bit;
  own = t.own;
  filled = t.filled;
  marked = t.marked;
  same = t.same;
  indirect = t.indirect;
  buffer = λ m x y. elim (fits m) [
    | inl e ↦ ap (λ (c : Cast). c.bytes) e ∙ t.buffer m (sym (ap (λ (c : Cast). c.taken) e) ∙ x) y
    | inr none ↦ absurd (both_ways (now m).taken none x)
  ];
  sent = λ m x y. elim (fits m) [
    | inl e ↦ ap (λ (c : Cast). c.sent) e ∙ t.sent m (sym (ap (λ (c : Cast). c.taken) e) ∙ x) y
    | inr none ↦ absurd (both_ways (now m).taken none x)
  ];
  owner = t.owner;
  part = t.part;
}

forgets : (w : World) (g : Holdings) (content : ℕ → ℕ → List ℕ) (now : ℕ → ℕ → Cast) → Tied w g content → Fits g.casts now → Tied w (record g { casts = now }) content
forgets w g content now t fits = record {
  running = t.running;
  lost = t.lost;
  counter = t.counter;
  status = t.status;
  stable = t.stable;
  written = t.written;
  apart = t.apart;
  pages = λ n. page_forgets (held_of g n) (w.pages n) (content n) (λ m. now m n) (t.pages n) (λ m. fits m n);
}

moved_forgets : (w : World) (moves : List Move) (g : Holdings) (content : ℕ → ℕ → List ℕ) (now : ℕ → ℕ → Cast) → Moved w moves g content → Fits g.casts now → Moved w moves (record g { casts = now }) content
moved_forgets w moves g content now m fits = record { world = m.world; run = m.run; tied = forgets m.world g content now m.tied fits }

-- the casts of one member
fits_by : (m : ℕ) (f : ℕ → Cast) (g before : ℕ → ℕ → Cast) → ((j : ℕ) → (f j ≡ before m j) ⊎ ((f j).taken ≡ false)) → ((p j : ℕ) → p ≢ m → g p j ≡ before p j) → Fits before (λ p j. if p == m then f j else g p j)
fits_by m f g before own others p j = elim (cases_eq p m) [
  | inl e ↦ subst (λ (z : Cast). (z ≡ before p j) ⊎ (z.taken ≡ false)) (sym (cond-true (p == m) (f j) (g p j) (eq-eqb p m e))) (subst (λ q. (f j ≡ before q j) ⊎ ((f j).taken ≡ false)) (sym e) (own j))
  | inr ne ↦ inl (cond-false (p == m) (f j) (g p j) (ne_eqb p m ne) ∙ others p j ne)
]

cast_other : (f : ℕ → ℕ → Cast) (m n p j : ℕ) (c : Cast) → p ≢ m → f p j ≡ (if (p == m) && (j == n) then c else f p j)
cast_other f m n p j c ne = sym (cond-false ((p == m) && (j == n)) c (f p j) (false_from_ne_true ((p == m) && (j == n)) (λ b. ne (eqb-true p m (and_parts (p == m) (j == n) b).0))))

cast_here : (f : ℕ → ℕ → Cast) (m n j : ℕ) (c : Cast) → j ≡ n → (if (m == m) && (j == n) then c else f m j) ≡ c
cast_here f m n j c e = cond-true ((m == m) && (j == n)) c (f m j) (and_from (m == m) (j == n) (eq-eqb m m refl) (eq-eqb j n e))

-- one page is in hand, and no other
own_cast : (f : ℕ → ℕ → Cast) (m n : ℕ) (c : Cast) (j : ℕ) → ((if j == n then c else no_cast) ≡ (if (m == m) && (j == n) then c else f m j)) ⊎ ((if j == n then c else no_cast).taken ≡ false)
own_cast f m n c j = elim (cases_eq j n) [
  | inl e ↦ inl (cond-true (j == n) c no_cast (eq-eqb j n e) ∙ sym (cast_here f m n j c e))
  | inr ne ↦ inr (ap (λ (z : Cast). z.taken) (cond-false (j == n) c no_cast (ne_eqb j n ne)))
]

in_hand : (g : Holdings) (m : ℕ) (c : InHand) (buffer : List ℕ) → ((n : ℕ) → g.casts m n ≡ cast_of (Some c) buffer n) → g.casts m (page_number c.page) ≡ record { taken = true; sent = c.is_written; bytes = buffer }
in_hand g m c buffer has =
    let n = page_number c.page in
    has n ∙ cond-true (n == n) (record { taken = true; sent = c.is_written; bytes = buffer }) no_cast (eq-eqb n n refl)

-- ---- the member is still up
pub up_beside : (g : Holdings) (forced : ℕ → ℕ) (k : Kept) (v : Held) (now : ℕ → ℕ → Cast) (disk : ℕ → List ℕ) → IsUp g forced k → SameMembers g.facility v → IsUp (record g { facility = v; casts = now; disk = disk }) forced k
up_beside g forced k v now disk up same = record {
  least = up.least;
  among = subst (λ z. k.marks.member ≤ z) (sym same.members) up.among;
  up = ap (λ z. status_of z k.marks.member) same.statuses ∙ up.up;
  log = up.log;
  last = subst (λ z. k.marks.log.last ≤ z) (sym same.counter) up.last;
  pending = up.pending;
  apart = up.apart;
  each = up.each;
  copies = up.copies;
  owns = up.owns;
  no_more = up.no_more;
}

goes_up : (w : World) (g : Holdings) (content : ℕ → ℕ → List ℕ) (forced : ℕ → ℕ) (k : Kept) (v : Held) (now : ℕ → ℕ → Cast) (disk : ℕ → List ℕ) → CastGoes w content forced (record g { facility = v; casts = now; disk = disk }) → IsUp g forced k → SameMembers g.facility v
    → Goes w content forced (record g { facility = v; casts = now; disk = disk }) k.marks k
goes_up w g content forced k v now disk c up same = record { moves = c.moves; moved = c.moved; plain = c.plain (none_waits k.marks.log.pending); numbered = c.numbered; same = refl; stands = up_beside g forced k v now disk up same }

casts : (w : World) (content : ℕ → ℕ → List ℕ) (forced : ℕ → ℕ) (left : Holdings) (moves : List Move) → AreNumbered w content forced → AtPages moves → Moved w moves left content → CastGoes w content forced left
casts w content forced left moves numbered pages moved = record { moves = moves; moved = moved; plain = λ appends. plain_pages appends moves pages; numbered = numbered_on w moved.world moves content forced pages moved.run numbered }

-- ---- the page is read
not_first : (b : Bool) (x : CastReply) → ((if b then cast.Taken else x) ≡ cast.Taken → ⊥) → b ≡ false
not_first true x never = absurd (never refl)
not_first false x never = refl

not_taken : (m : ℕ) (l : Bool) (o : Option Entry) → ((if l then cast.Lost else option_map_or (cast_reply_at m) o cast.NotChanged) ≡ cast.Taken → ⊥) → (l ≡ true) ⊎ (option_map_or (is_castable m) o false ≡ false)
not_taken m true o never = inl refl
not_taken m false None never = inr refl
not_taken m false (Some e) never = inr (not_first (may_cast m e.changed e.castout) (if e.changed then cast.Locked (unwrap_or e.castout m) else cast.NotChanged) never)

either : {A : Type 0} → (b : Bool) (x : A) → (if b then x else x) ≡ x
either true x = refl
either false x = refl

same_directory : (d : Directory) (m : ℕ) (id : PageId) → (d.lost ≡ true) ⊎ (is_taken d m id ≡ false) → after_castout_read d m id ≡ d
same_directory d m id (inl lost) = cond-true d.lost d (if is_taken d m id then record d { entries = at_entry id (locked_by m) d.entries } else d) lost
same_directory d m id (inr none) = ap (λ z. if d.lost then d else z) (cond-false (is_taken d m id) (record d { entries = at_entry id (locked_by m) d.entries }) d none) ∙ either d.lost d

same_buffer : (d : Directory) (m : ℕ) (id : PageId) (buffer : List ℕ) → (d.lost ≡ true) ⊎ (is_taken d m id ≡ false) → cast_into d m id buffer ≡ buffer
same_buffer d m id buffer (inl lost) = ap (λ z. if is_taken d m id then z else buffer) (cond-true d.lost buffer (unwrap_or (bytes_of d id) buffer) lost) ∙ either (is_taken d m id) buffer
same_buffer d m id buffer (inr none) = cond-false (is_taken d m id) (read_into d id buffer) buffer none

abbrev ReadLeft : World → Holdings → (ℕ → ℕ → List ℕ) → (ℕ → ℕ) → ℕ → Option InHand → List ℕ → PageId → Held → Reply → Type 0
ReadLeft w g content forced m hand bytes page v a = CastGoes w content forced (cast_behind g v m (taken_cast hand page a) bytes)

pub any_read_goes : Numbers → BeginsMoves → AnyReadGoes
any_read_goes numbers begins w g content forced m hand buffer bytes page answer v tied numbered has r = by (cast_reply d m page) refl
  where
    d : Directory
    d = g.facility.directory

    n : ℕ
    n = page_number page

    so : (a : Reply) → answer ≡ a → ReadLeft w g content forced m hand bytes page v a → ReadLeft w g content forced m hand bytes page v answer
    so a e h = subst (λ z. ReadLeft w g content forced m hand bytes page v z) (sym e) h

    refused : (x : CastReply) → cast_reply d m page ≡ x → (x ≡ cast.Taken → ⊥) → CastGoes w content forced (cast_behind g v m hand bytes)
    refused x e other =
        let why = not_taken m d.lost (entry_of d.entries page) (λ z. other (sym e ∙ z)) in
        let same : v ≡ g.facility = r.1 ∙ ap (λ (z : Directory). record g.facility { directory = z }) (same_directory d m page why) in
        let kept : bytes ≡ buffer = r.2 ∙ same_buffer d m page buffer why in
        let now = (cast_behind g v m hand bytes).casts in
        let fits : Fits g.casts now = fits_by m (cast_of hand bytes) g.casts g.casts (λ j. inl (ap (λ z. cast_of hand z j) kept ∙ sym (has j))) (λ p j ne. refl) in
        casts w content forced (cast_behind g v m hand bytes) [] numbered at_none
        (subst (λ z. Moved w [] (record g { facility = z; casts = now }) content) (sym same) (record { world = w; run = refl; tied = forgets w g content now tied fits }))

    by : (x : CastReply) → cast_reply d m page ≡ x → ReadLeft w g content forced m hand bytes page v answer
    by cast.Taken e =
        let is : answer ≡ reply.Taken = r.0 ∙ ap reply_to_cast e in
        let it : InHand = record { page = page; is_written = false } in
        let now = (cast_behind g v m (Some it) bytes).casts in
        let before = (with_cast g m n (taken_bytes bytes)).casts in
        let fits : Fits before now = fits_by m (cast_of (Some it) bytes) g.casts before (own_cast g.casts m n (taken_bytes bytes)) (λ p j ne. cast_other g.casts m n p j (taken_bytes bytes) ne) in
        so reply.Taken is
        (casts w content forced (cast_behind g v m (Some it) bytes) (At n (CastoutRead m (cached w n)) ∷ []) numbered (at_one n (CastoutRead m (cached w n)))
        (moved_forgets w (At n (CastoutRead m (cached w n)) ∷ []) (with_facility (with_cast g m n (taken_bytes bytes)) v) content now
        (begins w g content m n buffer bytes v tied (subst (λ z. BeginsCastout g.facility m z buffer reply.Taken v bytes) (sym (numbers.named page)) (subst (λ z. BeginsCastout g.facility m page buffer z v bytes) is r))) fits))
    by cast.NotChanged e = so reply.NotChanged (r.0 ∙ ap reply_to_cast e) (refused cast.NotChanged e (λ z. cc z))
    by (cast.Locked other) e = so (reply.Locked other) (r.0 ∙ ap reply_to_cast e) (refused (cast.Locked other) e (λ z. cc z))
    by cast.Lost e = so reply.Lost (r.0 ∙ ap reply_to_cast e) (refused cast.Lost e (λ z. cc z))

pub cast_read_goes : Numbers → BeginsMoves → CastReadGoes
cast_read_goes numbers begins w g content forced k hand buffer bytes page answer v b has r =
    let m = k.marks.member in
    let left = cast_behind g v m (taken_cast hand page answer) bytes in
    goes_up w g content forced k v left.casts g.disk (any_read_goes numbers begins w g content forced m hand buffer bytes page answer v b.tied b.numbered has r) b.up
    (same_members g.facility v _ r.1 (record { members = refl; statuses = refl; counter = refl }))

-- ---- the page is written
pub any_write_goes : Numbers → CastsMoves → AnyWriteGoes
any_write_goes numbers law w g content forced m hand buffer tied numbered has holder =
    let n = page_number hand.page in
    let it : InHand = record hand { is_written = true } in
    let c = in_hand g m hand buffer has in
    let left = record (cast_behind g g.facility m (Some it) buffer) { disk = put g.disk n buffer } in
    let sent : Cast = record { taken = true; sent = true; bytes = buffer } in
    let before = (with_cast g m n sent).casts in
    let fits : Fits before left.casts = fits_by m (cast_of (Some it) buffer) g.casts before (own_cast g.casts m n sent) (λ p j ne. cast_other g.casts m n p j sent ne) in
    let moved = law w g content m n tied (subst (λ z. castout_of g.facility.directory z ≡ Some m) (sym (numbers.named hand.page)) holder) (ap (λ (z : Cast). z.taken) c) in
    let so = subst (λ (z : Cast). Moved w (At n (CastoutWrite m) ∷ []) (record (with_cast g m n (sent_cast z)) { disk = put g.disk n z.bytes }) content) c moved in
    casts w content forced left (At n (CastoutWrite m) ∷ []) numbered (at_one n (CastoutWrite m))
    (moved_forgets w (At n (CastoutWrite m) ∷ []) (record (with_cast g m n sent) { disk = put g.disk n buffer }) content left.casts so fits)

pub cast_write_goes : Numbers → CastsMoves → CastWriteGoes
cast_write_goes numbers law w g content forced k hand buffer b has holder =
    let m = k.marks.member in
    let left = cast_behind g g.facility m (Some (record hand { is_written = true })) buffer in
    goes_up w g content forced k g.facility left.casts (put g.disk (page_number hand.page) buffer) (any_write_goes numbers law w g content forced m hand buffer b.tied b.numbered has holder) b.up
    (record { members = refl; statuses = refl; counter = refl })

-- ---- the castout is done
held_lock : (l h : Bool) → (if l then done.Lost else if h then done.Done else done.NotHeld) ≡ done.Done → h ≡ true
held_lock true h e = absurd (cc e)
held_lock false true e = refl
held_lock false false e = absurd (cc e)

stays_so : (l h : Bool) (d now : Directory) → ((if l then done.Lost else if h then done.Done else done.NotHeld) ≡ done.Done → ⊥) → (if l then d else if h then now else d) ≡ d
stays_so true h d now never = refl
stays_so false true d now never = absurd (never refl)
stays_so false false d now never = refl

by_lock : (m : ℕ) (o : Option ℕ) → option_map_or (λ by. by == m) o false ≡ true → o ≡ Some m
by_lock m None e = absurd (cc e)
by_lock m (Some by) e = ap Some (eqb-true by m e)

by_entry : (m : ℕ) (o : Option Entry) → option_map_or (is_locked_by m) o false ≡ true → option_map_or (λ (e : Entry). e.castout) o None ≡ Some m
by_entry m None e = absurd (cc e)
by_entry m (Some x) e = by_lock m x.castout e

same_done : (f : Held) (d : Directory) (x : DoneReply) → SameMembers f (record f { directory = d; lists = lists_after_done x f.lists })
same_done f d done.Done = record { members = refl; statuses = refl; counter = refl }
same_done f d done.NotHeld = record { members = refl; statuses = refl; counter = refl }
same_done f d done.Lost = record { members = refl; statuses = refl; counter = refl }

done_members : (g : Holdings) (m : ℕ) (hand : InHand) (answer : Reply) (v : Held) → EndsCastout g.facility m hand.page answer v → SameMembers g.facility v
done_members g m hand answer v r = same_members g.facility v _ r.1 (same_done g.facility (after_castout_done g.facility.directory m hand.page) (done_reply g.facility.directory m hand.page))

pub any_done_goes : Numbers → EndsMoves → AnyDoneGoes
any_done_goes numbers ends w g content forced m hand buffer answer v good tied numbered has may r = by (done_reply d m hand.page) refl
  where
    d : Directory
    d = g.facility.directory

    n : ℕ
    n = page_number hand.page

    left : Holdings
    left = cast_behind g v m None buffer

    over : (x : DoneReply) → done_reply d m hand.page ≡ x → (x ≡ done.Done → ⊥) → lists_after_done x g.facility.lists ≡ g.facility.lists → CastGoes w content forced left
    over x e other rung =
        let stays = stays_so d.lost (holds_castout d m hand.page) d (record d { entries = at_entry hand.page cast_out d.entries }) (λ z. other (sym e ∙ z)) in
        let lists = ap (λ z. lists_after_done z g.facility.lists) e ∙ rung in
        let same : v ≡ g.facility = r.1 ∙ (λ i. record g.facility { directory = stays i; lists = lists i }) in
        casts w content forced left [] numbered at_none
        (subst (λ z. Moved w [] (record g { facility = z; casts = left.casts }) content) (sym same) (record { world = w; run = refl; tied = forgets w g content left.casts tied (fits_by m (λ j. no_cast) g.casts g.casts (λ j. inr refl) (λ p j ne. refl)) }))

    lock : done_reply d m hand.page ≡ done.Done → castout_of d hand.page ≡ Some m
    lock e = by_entry m (entry_of d.entries hand.page) (held_lock d.lost (holds_castout d m hand.page) e)

    by : (x : DoneReply) → done_reply d m hand.page ≡ x → CastGoes w content forced left
    by done.Done e = elim may [
      | inl written ↦ (let is : answer ≡ reply.Done = r.0 ∙ ap reply_to_done e in
          let c = in_hand g m hand buffer has in
          casts w content forced left (At n (CastoutDone m) ∷ []) numbered (at_one n (CastoutDone m))
          (moved_forgets w (At n (CastoutDone m) ∷ []) (with_facility (with_cast g m n no_cast) v) content left.casts
          (ends w g content m n v good tied (ap (λ (z : Cast). z.taken) c) (ap (λ (z : Cast). z.sent) c ∙ written)
          (subst (λ z. EndsCastout g.facility m z reply.Done v) (sym (numbers.named hand.page)) (subst (λ z. EndsCastout g.facility m hand.page z v) is r)))
          (fits_by m (λ j. no_cast) g.casts (with_cast g m n no_cast).casts (λ j. inr refl) (λ p j ne. cast_other g.casts m n p j no_cast ne))))
      | inr not_mine ↦ absurd (not_mine (lock e))
    ]
    by done.NotHeld e = over done.NotHeld e (λ z. cc z) refl
    by done.Lost e = over done.Lost e (λ z. cc z) refl

pub cast_done_goes : Numbers → EndsMoves → CastDoneGoes
cast_done_goes numbers ends w g content forced k hand buffer answer v b has may r =
    let m = k.marks.member in
    let left = cast_behind g v m None buffer in
    goes_up w g content forced k v left.casts g.disk (any_done_goes numbers ends w g content forced m hand buffer answer v b.good b.tied b.numbered has may r) b.up
    (done_members g m hand answer v r)
