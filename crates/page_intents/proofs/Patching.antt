-- A change patches the pages in its frames, and its record is put.
use Rattle.std.proofs.Common.{◌≡◌, ◌≢◌, ℕ, zero, suc, ◌+◌, ◌<◌, refl, sym, ap, subst, ◌∙◌, Bool, true, false, inl, inr, List, [], ◌∷◌, ◌++◌, length, Option, Some, None, slice_get, slice_set, take, arith}
use Rattle.std.specs.Prelude.{◌==◌, ◌&&◌, ◌||◌, not, nat_lt, if◌then◌else◌}
use Rattle.std.specs.List.{list_any, flat_map, count_by}
use Rattle.std.proofs.lemmas.Grind.{common_steps, flat_map-append}
use Rattle.std.proofs.lemmas.Bool.{cond-true, cases_eq, eqb-true}
use Rattle.std.proofs.lemmas.List.{length-set, append-nil}
use Rattle.std.proofs.lemmas.List.Sums.{sum_by-append}
use Rattle.ds_base.specs.declared.names.PageId.{PageId}
use Rattle.ds_model.specs.declared.log.LogRecord.{LogRecord}
use Rattle.ds_model.specs.declared.log.RowChange.{RowChange}
use Rattle.ds_model.specs.RecordBytes.{record_bytes}
use Rattle.heap_space.specs.Written.{written}
use Rattle.page_format.specs.declared.patch.Patch.{Patch}
use Rattle.page_format.specs.Fields.{lrsn_of}
use Rattle.page_index.proofs.CallerLemmas.{same_name}
use Rattle.page_plans.specs.declared.action.Action.{Action}
use Rattle.page_plans.specs.Names.{action_page}
use Rattle.page_plans.specs.Rows.{after_row}
use Rattle.facility.specs.declared.command.Reply.TheVariants as reply
use Rattle.facility.specs.States.{Held}
use Rattle.facility.specs.declared.command.Indexes.{Indexes}
use Rattle.facility.specs.Counting.{given, limit, first_stale, draw_reply, drawn_to, DrawsNumber}
use Rattle.write_order.specs.declared.rank.Rank.{Rank}
use Rattle.write_order.specs.Ranks.{rank_of}
use Rattle.member_pool.specs.declared.frame.Frame.{Frame}
use Rattle.member_pool.specs.Heads.{HeadState, with_head, marked}
use Rattle.member_log.specs.Buffers.{LogBuffer, after_put}
use Rattle.member_intents.specs.declared.intent.Frames.{Frames}
use Rattle.member_trans.specs.Trans.{TransState, tran_of as tran_in}
use Rattle.member_trans.specs.declared.fate.Owner.TheVariants as owner
use Rattle.member_marks.specs.State.{MarksState, with_heads, slot_tran}
use Rattle.member_marks.specs.Claims.{has_page}
use Rattle.member_marks.specs.Frames.{frame_in, is_placed, after_marked}
use Rattle.member_marks.specs.Records.{fits_in, row_record, may_change, is_at_row, body_noted, row_noted}
use Rattle.member_needs.specs.declared.plans.Plan.TheVariants as plan
use Rattle.member_needs.specs.Records.{frame_of, indexes_of, place_by}
use Rattle.member_effects.specs.Kept.{Kept}
use Rattle.member_effects.specs.Changes.{bytes_at, with_marks, system_logged, row_logged, put_page, patched_page, patched_nth, patched_frames, row_page, row_nth, system_record, drawn_after}
use Rattle.member_intents.specs.declared.outcome.Sent.{Sent}
use Rattle.needs_law.specs.Lawful.{HoldsPage, HoldsNth, Changes}
use Rattle.page_world.specs.Holdings.{Holdings}
use Rattle.page_protocol.specs.Moves.{World}
use Rattle.page_world.specs.Draws.{content_behind, DrawsMoves}
use Rattle.log_record.specs.Changes.{is_drawn}
use Rattle.page_intents.specs.Stands.{AreBehind, Goes}
use Rattle.page_intents.specs.Frames.{Begins}
use Rattle.page_intents.specs.Draws.{is_frame, in_frames, touched_in, new_bytes, drawn_behind, ShowNumber, ChangeGoes}
use Rattle.page_intents.proofs.Heads.{Sets, sets_none, put_head, set_placed, within}
use Rattle.page_intents.proofs.Reading.{set_other}
use Rattle.page_intents.proofs.Standing.{is_live_up}
use Rattle.page_intents.proofs.Drawing.{Holds, Draws, may, draw_goes}

-- ---- some frames are changed, and all else of the member's marks is as before
pub record Changed (k u : Kept) (is : ℕ → Bool) : Type 0 where
  pub member : u.marks.member ≡ k.marks.member
  pub locks : u.marks.locks ≡ k.marks.locks
  pub log : u.marks.log ≡ k.marks.log
  pub trans : u.marks.trans ≡ k.marks.trans
  pub each : length u.pages ≡ length k.pages
  pub size : length u.marks.heads.frames ≡ length k.marks.heads.frames
  pub page : (q : ℕ) → (frame_in u.marks.heads q).page ≡ (frame_in k.marks.heads q).page
  pub filled : (q : ℕ) → (frame_in u.marks.heads q).filled ≡ (frame_in k.marks.heads q).filled
  pub registered : (q : ℕ) → (frame_in u.marks.heads q).registered ≡ (frame_in k.marks.heads q).registered
  pub changed : (q : ℕ) → is q ≡ true → (frame_in u.marks.heads q).changed ≡ true
  pub marks : (q : ℕ) → is q ≡ false → (frame_in u.marks.heads q).changed ≡ (frame_in k.marks.heads q).changed
  pub bytes : (q : ℕ) → is q ≡ false → bytes_at u.pages q ≡ bytes_at k.pages q

pub none_changed : (k : Kept) → Changed k k (λ q. false)
none_changed k = record {
  member = refl;
  locks = refl;
  log = refl;
  trans = refl;
  each = refl;
  size = refl;
  page = λ q. refl;
  filled = λ q. refl;
  registered = λ q. refl;
  changed = λ q e. absurd (cc e);
  marks = λ q e. refl;
  bytes = λ q e. refl;
}

-- ---- one frame more
abbrev marked_frame : Frame → Rank → Frame
marked_frame f rank = if f.changed then f else record f { changed = true; rank = rank }

marked_keeps : {X : Type 0} (x : Frame → X) (f : Frame) (rank : Rank) → ((f : Frame) → x (record f { changed = true; rank = rank }) ≡ x f) → x (marked_frame f rank) ≡ x f
marked_keeps x f rank same = by f.changed
  where
    by : (b : Bool) → x (if b then f else record f { changed = true; rank = rank }) ≡ x f
    by true = refl
    by false = same f

marked_changed : (f : Frame) (rank : Rank) → (marked_frame f rank).changed ≡ true
marked_changed f rank = by f.changed refl
  where
    by : (b : Bool) → f.changed ≡ b → (if b then f else record f { changed = true; rank = rank }).changed ≡ true
    by true e = e
    by false e = refl

sets_marked : (h : HeadState) (at : ℕ) (rank : Rank) → at < length h.frames → Sets h (marked h at rank) at (marked_frame (frame_in h at) rank)
sets_marked h at rank l = by (frame_in h at).changed
  where
    by : (b : Bool) → Sets h (if b then h else with_head h at (record (frame_in h at) { changed = true; rank = rank })) at (if b then frame_in h at else record (frame_in h at) { changed = true; rank = rank })
    by true = sets_none h at
    by false = put_head h at (record (frame_in h at) { changed = true; rank = rank }) l

pub all_same : {X : Type 0} (x : Frame → X) (h u : HeadState) (at : ℕ) (f : Frame) → Sets h u at f → x f ≡ x (frame_in h at) → (q : ℕ) → x (frame_in u q) ≡ x (frame_in h q)
all_same x h u at f s same q = elim (cases_eq q at) [
  | inl e ↦ ap (λ z. x (frame_in u z)) e ∙ ap x s.is ∙ same ∙ sym (ap (λ z. x (frame_in h z)) e)
  | inr ne ↦ ap x (s.others q ne)
]

or_parts : (a b : Bool) → (a || b) ≡ false → (a ≡ false) × (b ≡ false)
or_parts true b e = absurd (cc e)
or_parts false b e = (refl, e)

marks_else : (s : MarksState) (at : ℕ) (rank : Rank) → (let t = after_marked s at rank in (t.member ≡ s.member) × (t.locks ≡ s.locks) × (t.log ≡ s.log) × (t.trans ≡ s.trans))
marks_else s at rank = by (is_placed s.heads at)
  where
    by : (b : Bool) → (let t = if b then with_heads s (marked s.heads at rank) else s in (t.member ≡ s.member) × (t.locks ≡ s.locks) × (t.log ≡ s.log) × (t.trans ≡ s.trans))
    by true = (refl, refl, refl, refl)
    by false = (refl, refl, refl, refl)

apart_eq : (at q : ℕ) → (at == q) ≡ false → q ≢ at
apart_eq at q e z = absurd (let same : (at == q) ≡ true = grind (arith, z) in grind (arith, same, e))

put_changed : (k u : Kept) (is : ℕ → Bool) (at : ℕ) (id : PageId) (rank : Rank) (page : List ℕ) → Changed k u is → (frame_in u.marks.heads at).page ≡ Some id
    → Changed k (record { marks = after_marked u.marks at rank; pages = slice_set u.pages at page }) (λ q. is q || (at == q))
put_changed k u is at id rank page c placed =
    let h = u.marks.heads in
    let t = after_marked u.marks at rank in
    let f = marked_frame (frame_in h at) rank in
    let s = set_placed u.marks at (marked h at rank) f id placed (sets_marked h at rank (within h at id placed)) in
    let rest = marks_else u.marks at rank in
    record {
      member = rest.0 ∙ c.member;
      locks = rest.1 ∙ c.locks;
      log = rest.2 ∙ c.log;
      trans = rest.3 ∙ c.trans;
      each = length-set u.pages at page ∙ c.each;
      size = s.size ∙ c.size;
      page = λ q. all_same (λ (z : Frame). z.page) h t.heads at f s (marked_keeps (λ (z : Frame). z.page) (frame_in h at) rank (λ z. refl)) q ∙ c.page q;
      filled = λ q. all_same (λ (z : Frame). z.filled) h t.heads at f s (marked_keeps (λ (z : Frame). z.filled) (frame_in h at) rank (λ z. refl)) q ∙ c.filled q;
      registered = λ q. all_same (λ (z : Frame). z.registered) h t.heads at f s (marked_keeps (λ (z : Frame). z.registered) (frame_in h at) rank (λ z. refl)) q ∙ c.registered q;
      changed = λ q e. more q e;
      marks = λ q e. let parts = or_parts (is q) (at == q) e in ap (λ (z : Frame). z.changed) (s.others q (apart_eq at q parts.1)) ∙ c.marks q parts.0;
      bytes = λ q e. let parts = or_parts (is q) (at == q) e in set_other u.pages at q page (apart_eq at q parts.1) ∙ c.bytes q parts.0;
    }
  where
    more : (q : ℕ) → (is q || (at == q)) ≡ true → (frame_in (after_marked u.marks at rank).heads q).changed ≡ true
    more q e =
        let h = u.marks.heads in
        let f = marked_frame (frame_in h at) rank in
        let s = set_placed u.marks at (marked h at rank) f id placed (sets_marked h at rank (within h at id placed)) in
        elim (cases_eq q at) [
          | inl z ↦ ap (λ x. (frame_in (after_marked u.marks at rank).heads x).changed) z ∙ ap (λ (x : Frame). x.changed) s.is ∙ marked_changed (frame_in h at) rank
          | inr ne ↦ ap (λ (x : Frame). x.changed) (s.others q ne) ∙ c.changed q (left (is q) (at == q) e (λ z. ne (sym (eqb-true at q z))))
        ]
      where
        left : (a b : Bool) → (a || b) ≡ true → (b ≡ true → ⊥) → a ≡ true
        left true b e never = refl
        left false b e never = absurd (never e)

-- where the page isn't patched for want of a frame, nothing is: it is there
frame_changed : (k u : Kept) (is : ℕ → Bool) (at : ℕ) (id : PageId) (page : List ℕ) → Changed k u is → (frame_in u.marks.heads at).page ≡ Some id → at < length u.pages
    → Changed k (if nat_lt at (length u.pages) then put_page u at id page else u) (λ q. is q || (at == q))
frame_changed k u is at id page c placed l =
    subst (λ z. Changed k z (λ q. is q || (at == q))) (sym (cond-true (nat_lt at (length u.pages)) (put_page u at id page) u (grind (arith, common_steps, l))))
    (put_changed k u is at id (rank_of id (bytes_at (slice_set u.pages at page) at)) page c placed)

-- ---- the frames of the change
self : (at : ℕ) → (at == at) ≡ true
self at = grind arith

or_false : (b : Bool) → b ≡ (b || false)
or_false true = refl
or_false false = refl

as_false : (k u : Kept) (is : ℕ → Bool) → Changed k u is → Changed k u (λ q. is q || false)
as_false k u is c = subst (λ z. Changed k u z) (λ i q. or_false (is q) i) c

nth_changed : (k u : Kept) (is : ℕ → Bool) (o : Option ℕ) (patches : List Patch) (number : ℕ) → Changed k u is → length k.pages ≡ length k.marks.heads.frames → ((q : ℕ) → is_frame o q ≡ true → Holds k.marks q)
    → Changed k (patched_nth u o patches number) (λ q. is q || is_frame o q)
nth_changed k u is None patches number c each holds = as_false k u is c
nth_changed k u is (Some at) patches number c each holds =
    let h = holds at (self at) in
    let placed : (frame_in u.marks.heads at).page ≡ Some h.page = c.page at ∙ h.placed in
    let l : at < length u.pages = subst (λ z. at < z) (sym (c.each ∙ each)) (within k.marks.heads at h.page h.placed) in
    subst (λ z. Changed k (patched_page u at z patches number) (λ q. is q || (at == q))) (sym placed)
    (frame_changed k u is at h.page (written h.page number patches (bytes_at u.pages at)) c placed l)

pub row_changed : (k u : Kept) (is : ℕ → Bool) (o : Option ℕ) (x : RowChange) (number : ℕ) → Changed k u is → length k.pages ≡ length k.marks.heads.frames → ((q : ℕ) → is_frame o q ≡ true → Holds k.marks q)
    → Changed k (row_nth u o x number) (λ q. is q || is_frame o q)
row_changed k u is None x number c each holds = as_false k u is c
row_changed k u is (Some at) x number c each holds =
    let h = holds at (self at) in
    let placed : (frame_in u.marks.heads at).page ≡ Some h.page = c.page at ∙ h.placed in
    let l : at < length u.pages = subst (λ z. at < z) (sym (c.each ∙ each)) (within k.marks.heads at h.page h.placed) in
    subst (λ z. Changed k (row_page u at z x number) (λ q. is q || (at == q))) (sym placed)
    (frame_changed k u is at h.page (after_row number x (bytes_at u.pages at)) c placed l)

frames_changed : (k : Kept) (frames : Frames) (patches : List Patch) (number : ℕ) → length k.pages ≡ length k.marks.heads.frames → ((q : ℕ) → in_frames frames q ≡ true → Holds k.marks q)
    → Changed k (patched_frames k frames patches number) (in_frames frames)
frames_changed k frames patches number each holds =
    let o = frame_of frames 0 in
    let p = frame_of frames 1 in
    let r = frame_of frames 2 in
    let a = nth_changed k k (λ q. false) o patches number (none_changed k) each (λ q e. holds q (first (is_frame o q) (is_frame p q) (is_frame r q) e)) in
    let b = nth_changed k (patched_nth k o patches number) (λ q. is_frame o q) p patches number a each (λ q e. holds q (second (is_frame o q) (is_frame p q) (is_frame r q) e)) in
    nth_changed k (patched_nth (patched_nth k o patches number) p patches number) (λ q. is_frame o q || is_frame p q) r patches number b each (λ q e. holds q (third (is_frame o q || is_frame p q) (is_frame r q) e))
  where
    first : (a b c : Bool) → a ≡ true → ((a || b) || c) ≡ true
    first true b c e = refl
    first false b c e = absurd (cc e)

    second : (a b c : Bool) → b ≡ true → ((a || b) || c) ≡ true
    second true b c e = refl
    second false true c e = refl
    second false false c e = absurd (cc e)

    third : (a c : Bool) → c ≡ true → (a || c) ≡ true
    third true c e = refl
    third false c e = e

-- ---- what the tests of the change say of them
pub page_held : (s : MarksState) (at : ℕ) (page : PageId) → HoldsPage s at page → Holds s at
page_held s at page h = record {
  page = h.own;
  placed = h.placed;
  claimed = ap (has_page s) (same_name h.own page h.same) ∙ h.claimed;
  filled = h.filled;
}

nth_held : (s : MarksState) (o : Option ℕ) (page : Option PageId) (q : ℕ) → HoldsNth s o page → is_frame o q ≡ true → Holds s q
nth_held s None page q h e = absurd (cc e)
nth_held s (Some at) None q h e = absurd h
nth_held s (Some at) (Some page) q h e = subst (λ z. Holds s z) (eqb-true at q e) (page_held s at page h)

pub frames_held : (s : MarksState) (o p r : Option ℕ) (x y z : Option PageId) (q : ℕ) → HoldsNth s o x → HoldsNth s p y → HoldsNth s r z → ((is_frame o q || is_frame p q) || is_frame r q) ≡ true → Holds s q
frames_held s o p r x y z q a b c e = by (is_frame o q) (is_frame p q) refl refl e
  where
    by : (u v : Bool) → is_frame o q ≡ u → is_frame p q ≡ v → ((u || v) || is_frame r q) ≡ true → Holds s q
    by true v i j e = nth_held s o x q a i
    by false true i j e = nth_held s p y q b j
    by false false i j e = nth_held s r z q c e

or_right : (a b : Bool) → b ≡ true → (a || b) ≡ true
or_right true b e = refl
or_right false b e = e

no_frame : (b : Bool) (q : ℕ) → is_frame (if b then None else None) q ≡ true → ⊥
no_frame true q e = cc e
no_frame false q e = cc e

or_left : (a b : Bool) → a ≡ true → (a || b) ≡ true
or_left true b e = refl
or_left false b e = absurd (cc e)

-- the facility tests each of them
at_taken : (xs : List ℕ) (n c q : ℕ) → n < c → is_frame (slice_get xs n) q ≡ true → list_any (λ i. i == q) (take c xs) ≡ true
at_taken [] n c q l e = absurd (no_frame true q e)
at_taken (x ∷ xs) n zero q l e = absurd (omega (arith, l))
at_taken (x ∷ xs) zero (suc c) q l e = or_left (x == q) (list_any (λ i. i == q) (take c xs)) e
at_taken (x ∷ xs) (suc n) (suc c) q l e = or_right (x == q) (list_any (λ i. i == q) (take c xs)) (at_taken xs n c q (omega (arith, l)) e)

is_below : (n c : ℕ) → nat_lt n c ≡ true → n < c
is_below n c e = grind (arith, common_steps)

nth_given : (xs : List ℕ) (n c q : ℕ) → is_frame (if nat_lt n c then slice_get xs n else None) q ≡ true → list_any (λ i. i == q) (take c xs) ≡ true
nth_given xs n c q e = by (nat_lt n c) refl e
  where
    by : (b : Bool) → nat_lt n c ≡ b → is_frame (if b then slice_get xs n else None) q ≡ true → list_any (λ i. i == q) (take c xs) ≡ true
    by true l e = at_taken xs n c q (is_below n c l) e
    by false l e = absurd (no_frame true q e)

frame_given : (frames : Frames) (n q : ℕ) → is_frame (frame_of frames n) q ≡ true → list_any (λ i. i == q) (given (indexes_of frames)) ≡ true
frame_given frames n q e = nth_given frames.at n frames.count q e

frames_given : (frames : Frames) (q : ℕ) → in_frames frames q ≡ true → list_any (λ i. i == q) (given (indexes_of frames)) ≡ true
frames_given frames q e = by (is_frame (frame_of frames 0) q) (is_frame (frame_of frames 1) q) refl refl e
  where
    by : (u v : Bool) → is_frame (frame_of frames 0) q ≡ u → is_frame (frame_of frames 1) q ≡ v → ((u || v) || is_frame (frame_of frames 2) q) ≡ true → list_any (λ i. i == q) (given (indexes_of frames)) ≡ true
    by true v i j e = frame_given frames 0 q i
    by false true i j e = frame_given frames 1 q j
    by false false i j e = frame_given frames 2 q e

-- ---- one record more
pub one_more : (stable written : ℕ) (bytes : List ℕ) (r : LogRecord) → is_drawn r.body ≡ true → AreBehind stable written bytes → AreBehind stable (written + 1) (bytes ++ record_bytes r)
one_more stable count bytes r drawn b =
    let one : count_by (λ (x : LogRecord). is_drawn x.body) (r ∷ []) ≡ 1 = ap (λ z. 0 + (if z then 1 else 0)) drawn in
    let both : count_by (λ (x : LogRecord). is_drawn x.body) (b.records ++ r ∷ []) ≡ count_by (λ (x : LogRecord). is_drawn x.body) b.records + count_by (λ (x : LogRecord). is_drawn x.body) (r ∷ []) =
    sum_by-append (λ (x : LogRecord). if is_drawn x.body then 1 else 0) b.records (r ∷ []) in
    let before = b.counted in
    record {
      records = b.records ++ r ∷ [];
      spelled = ap (λ z. z ++ record_bytes r) b.spelled ∙ ap (λ z. flat_map record_bytes b.records ++ z) (sym (append-nil (record_bytes r))) ∙ sym (flat_map-append record_bytes b.records (r ∷ []));
      counted = omega (arith, one, both, before);
    }

-- ---- the number that was drawn
drawn_is : (b : Bool) (number counter : ℕ) → reply.Drawn number ≡ (if b then reply.Drawn (counter + 1) else reply.LrsnEnd counter) → (number ≡ counter + 1) × ((if b then counter + 1 else counter) ≡ counter + 1)
drawn_is true number counter e = (cc e, refl)
drawn_is false number counter e = absurd (cc e)

drawn_number : (number counter : ℕ) (o : Option ℕ) → reply.Drawn number ≡ draw_reply o counter → (number ≡ counter + 1) × (drawn_to o counter ≡ counter + 1)
drawn_number number counter None e = drawn_is (nat_lt counter limit) number counter e
drawn_number number counter (Some i) e = absurd (cc e)

-- ---- a frame's change with its record
pub logged_draws : (g : Holdings) (forced : ℕ → ℕ) (k u : Kept) (is : ℕ → Bool) (indexes : Indexes) (number : ℕ) (b : LogBuffer) (t : TransState) → Changed k u is → b.stable ≡ k.marks.log.stable → b.last ≡ number
    → AreBehind (g.stable k.marks.member) (g.written k.marks.member + 1) b.pending → ((q : ℕ) → is q ≡ true → Holds k.marks q) → ((q : ℕ) → is q ≡ true → list_any (λ i. i == q) (given indexes) ≡ true)
    → ((q : ℕ) → is q ≡ true → lrsn_of (bytes_at u.pages q) ≡ number) → Draws g k (with_marks u (record u.marks { log = b; trans = t })) is indexes number
logged_draws g forced k u is indexes number b t c stable last pending holds tested shows = record {
  member = c.member;
  locks = c.locks;
  each = c.each;
  size = c.size;
  page = c.page;
  filled = c.filled;
  registered = c.registered;
  changed = c.changed;
  marks = c.marks;
  bytes = c.bytes;
  holds = holds;
  tested = tested;
  shows = shows;
  stable = stable;
  last = last;
  pending = pending;
}

-- the buffer of the changed frames is that of before
pub pending_one : (g : Holdings) (k u : Kept) (is : ℕ → Bool) (r : LogRecord) → Changed k u is → is_drawn r.body ≡ true → AreBehind (g.stable k.marks.member) (g.written k.marks.member) k.marks.log.pending
    → AreBehind (g.stable k.marks.member) (g.written k.marks.member + 1) (after_put u.marks.log r).pending
pending_one g k u is r c drawn b = one_more (g.stable k.marks.member) (g.written k.marks.member) u.marks.log.pending r drawn (subst (λ (z : LogBuffer). AreBehind (g.stable k.marks.member) (g.written k.marks.member) z.pending) (sym c.log) b)

pub moves_by : DrawsMoves → (w : World) (g : Holdings) (content : ℕ → ℕ → List ℕ) (forced : ℕ → ℕ) (k t : Kept) (is : ℕ → Bool) (indexes : Indexes) (number : ℕ) (v : Held) → Begins w g content forced k → Draws g k t is indexes number
    → DrawsNumber g.facility k.marks.member indexes (reply.Drawn number) v → Goes w (content_behind w (touched_in g k.marks.member is) (new_bytes t) content) forced (drawn_behind g v k.marks.member t) k.marks t
moves_by law w g content forced k t is indexes number v b d r =
    let n = drawn_number number g.facility.counter (first_stale g.facility.directory k.marks.member (given indexes)) r.0 in
    draw_goes w g content forced k t is indexes number b d v (ap (λ (z : Held). z.lists.members) r.1) (ap (λ (z : Held). z.lists.statuses) r.1) (ap (λ (z : Held). z.counter) r.1 ∙ n.1 ∙ sym n.0) n.0
    (law w g content k.marks.member number (touched_in g k.marks.member is) (new_bytes t) indexes v b.good b.tied (is_live_up g forced k b.up) (may w g content forced k t is indexes number b d) r)

system_goes : DrawsMoves → (w : World) (g : Holdings) (content : ℕ → ℕ → List ℕ) (forced : ℕ → ℕ) (k : Kept) (most slot : ℕ) (a : Action) (frames : Frames) (patches : List Patch) (number place : ℕ) (out : Sent) (v : Held)
    → Begins w g content forced k → Changes k.marks k.pages most slot a frames out → fits_in k.marks.log (system_record patches number) ≡ true → ShowNumber (drawn_after k slot frames (plan.System patches) (reply.Drawn number) place) (in_frames frames) number
    → DrawsNumber g.facility k.marks.member (indexes_of frames) (reply.Drawn number) v
    → (let t = drawn_after k slot frames (plan.System patches) (reply.Drawn number) place in Goes w (content_behind w (touched_in g k.marks.member (in_frames frames)) (new_bytes t) content) forced (drawn_behind g v k.marks.member t) k.marks t)
system_goes law w g content forced k most slot a frames patches number place out v b lawful put shows r =
    let u = patched_frames k frames patches number in
    let it = system_record patches number in
    let held = (λ (q : ℕ) (e : in_frames frames q ≡ true). frames_held k.marks (frame_of frames 0) (frame_of frames 1) (frame_of frames 2) (action_page a 0 (place_by k.pages most a frames)) (action_page a 1 (place_by k.pages most a frames)) (action_page a 2 (place_by k.pages most a frames)) q lawful.holds.first lawful.holds.second lawful.holds.third e) in
    let c = frames_changed k frames patches number b.up.each held in
    let trans = body_noted u.marks.trans slot it.body in
    let is : system_logged u slot patches number ≡ with_marks u (record u.marks { log = after_put u.marks.log it; trans = trans }) =
    ap (with_marks u) (cond-true (fits_in u.marks.log it) (record u.marks { log = after_put u.marks.log it; trans = trans }) u.marks (ap (λ z. fits_in z it) c.log ∙ put)) in
    moves_by law w g content forced k (system_logged u slot patches number) (in_frames frames) (indexes_of frames) number v b
    (subst (λ z. Draws g k z (in_frames frames) (indexes_of frames) number) (sym is)
    (logged_draws g forced k u (in_frames frames) (indexes_of frames) number (after_put u.marks.log it) trans c (ap (λ (z : LogBuffer). z.stable) c.log) refl (pending_one g k u (in_frames frames) it c refl b.up.pending) held (frames_given frames) shows)) r

row_goes : DrawsMoves → (w : World) (g : Holdings) (content : ℕ → ℕ → List ℕ) (forced : ℕ → ℕ) (k : Kept) (most slot : ℕ) (a : Action) (frames : Frames) (x : RowChange) (number place : ℕ) (out : Sent) (v : Held)
    → Begins w g content forced k → Changes k.marks k.pages most slot a frames out → may_change k.marks slot number x ≡ true → ShowNumber (drawn_after k slot frames (plan.Row x) (reply.Drawn number) place) (is_frame (frame_of frames 0)) number
    → DrawsNumber g.facility k.marks.member (indexes_of frames) (reply.Drawn number) v
    → (let t = drawn_after k slot frames (plan.Row x) (reply.Drawn number) place in Goes w (content_behind w (touched_in g k.marks.member (is_frame (frame_of frames 0))) (new_bytes t) content) forced (drawn_behind g v k.marks.member t) k.marks t)
row_goes law w g content forced k most slot a frames x number place out v b lawful put shows r =
    let o = frame_of frames 0 in
    let u = row_nth k o x number in
    let held = (λ (q : ℕ) (e : is_frame o q ≡ true). nth_held k.marks o (action_page a 0 (place_by k.pages most a frames)) q lawful.holds.first e) in
    let c = row_changed k k (λ q. false) o x number (none_changed k) b.up.each held in
    let it = row_record (slot_tran u.marks slot) number x in
    let trans = row_noted u.marks.trans slot number x in
    let may_too : may_change u.marks slot number x ≡ may_change k.marks slot number x =
    (λ i. not (number == 0) && (is_at_row x && ((tran_in (c.trans i) (owner.Slot slot)).has_room && fits_in (c.log i) (row_record (tran_in (c.trans i) (owner.Slot slot)) number x)))) in
    let is : row_logged u slot x number ≡ with_marks u (record u.marks { log = after_put u.marks.log it; trans = trans }) =
    ap (with_marks u) (cond-true (may_change u.marks slot number x) (record u.marks { log = after_put u.marks.log it; trans = trans }) u.marks (may_too ∙ put)) in
    moves_by law w g content forced k (row_logged u slot x number) (is_frame o) (indexes_of frames) number v b
    (subst (λ z. Draws g k z (is_frame o) (indexes_of frames) number) (sym is)
    (logged_draws g forced k u (is_frame o) (indexes_of frames) number (after_put u.marks.log it) trans c (ap (λ (z : LogBuffer). z.stable) c.log) refl (pending_one g k u (is_frame o) it c refl b.up.pending) held (frame_given frames 0) shows)) r

pub change_goes : DrawsMoves → ChangeGoes
change_goes law w g content forced k most slot a frames plan.None number place out v b lawful put shows r = absurd put
change_goes law w g content forced k most slot a frames (plan.System patches) number place out v b lawful put shows r = system_goes law w g content forced k most slot a frames patches number place out v b lawful put shows r
change_goes law w g content forced k most slot a frames (plan.Row x) number place out v b lawful put shows r = row_goes law w g content forced k most slot a frames x number place out v b lawful put shows r
change_goes law w g content forced k most slot a frames (plan.Back x) number place out v b lawful put shows r = absurd put
change_goes law w g content forced k most slot a frames (plan.Fault page at) number place out v b lawful put shows r = absurd put
