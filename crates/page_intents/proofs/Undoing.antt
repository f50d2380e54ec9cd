-- A change is taken back, and a commit is drawn.
use Rattle.std.proofs.Common.{◌≡◌, ℕ, ◌+◌, refl, sym, ap, subst, ◌∙◌, Bool, true, false, List, [], ◌∷◌, ◌++◌, length, Option, Some, None, arith}
use Rattle.std.specs.Prelude.{◌==◌, ◌&&◌, ◌||◌, if◌then◌else◌}
use Rattle.std.specs.List.{list_any, flat_map, count_by}
use Rattle.std.proofs.lemmas.Grind.{flat_map-append}
use Rattle.std.proofs.lemmas.Bool.{cond-true, and_parts, eqb-true}
use Rattle.std.proofs.lemmas.List.{append-nil}
use Rattle.std.proofs.lemmas.List.Sums.{sum_by-append}
use Rattle.ds_base.specs.Pages.{heap_set}
use Rattle.ds_model.specs.declared.log.LogRecord.{LogRecord}
use Rattle.ds_model.specs.declared.log.RowChange.{RowChange}
use Rattle.ds_model.specs.RecordBytes.{record_bytes}
use Rattle.facility.specs.declared.command.Indexes.{Indexes}
use Rattle.facility.specs.declared.command.Reply.TheVariants as reply
use Rattle.facility.specs.States.{Held}
use Rattle.facility.specs.Counting.{given, first_stale, counter_after, DrawsNumber, DrawsUndo}
use Rattle.facility.specs.Counting.{drawn as drawn_reply}
use Rattle.member_log.specs.Buffers.{LogBuffer, after_put}
use Rattle.member_intents.specs.declared.outcome.Sent.{Sent}
use Rattle.member_trans.specs.declared.fate.Change.{Change}
use Rattle.member_trans.specs.declared.fate.Owner.{Owner}
use Rattle.member_trans.specs.Trans.{TranState, tran_of as tran_in, newest_of, after_draw}
use Rattle.member_marks.specs.State.{MarksState, tran_of, slot_tran}
use Rattle.member_marks.specs.Records.{both_fit, both_logged, may_back, back_record, ended_record, back_noted, after_back, undone_of, undone_as, may_undo_as, commit_record, may_commit, after_undo}
use Rattle.member_needs.specs.declared.plans.Plan.{Plan}
use Rattle.member_needs.specs.declared.plans.Plan.TheVariants as plan
use Rattle.member_needs.specs.Records.{change_page}
use Rattle.member_effects.specs.Kept.{Kept}
use Rattle.member_effects.specs.Changes.{bytes_at, with_marks, row_nth, back_logged, undone_after, committed_after}
use Rattle.needs_law.specs.Lawful.{Undoes, Commits}
use Rattle.page_protocol.specs.Moves.{World}
use Rattle.page_world.specs.Holdings.{Holdings}
use Rattle.page_world.specs.Draws.{content_behind, DrawsMoves, UndoesMoves}
use Rattle.log_record.specs.Changes.{is_drawn}
use Rattle.page_intents.specs.Stands.{AreBehind, Goes}
use Rattle.page_intents.specs.Frames.{Begins}
use Rattle.page_intents.specs.Draws.{is_frame, touched_in, new_bytes, drawn_behind, ShowNumber, UndoGoes, CommitGoes}
use Rattle.page_intents.proofs.Standing.{is_live_up}
use Rattle.page_intents.proofs.Drawing.{Holds, Draws, may, draw_goes}
use Rattle.page_intents.proofs.Patching.{Changed, none_changed, row_changed, page_held, one_more, pending_one, logged_draws, moves_by}

-- ---- two records
none_more : (stable count : ℕ) (bytes : List ℕ) (r : LogRecord) → is_drawn r.body ≡ false → AreBehind stable count bytes → AreBehind stable count (bytes ++ record_bytes r)
none_more stable count bytes r drawn b =
    let none : count_by (λ (x : LogRecord). is_drawn x.body) (r ∷ []) ≡ 0 = ap (λ z. 0 + (if z then 1 else 0)) drawn in
    let both : count_by (λ (x : LogRecord). is_drawn x.body) (b.records ++ r ∷ []) ≡ count_by (λ (x : LogRecord). is_drawn x.body) b.records + count_by (λ (x : LogRecord). is_drawn x.body) (r ∷ []) =
    sum_by-append (λ (x : LogRecord). if is_drawn x.body then 1 else 0) b.records (r ∷ []) in
    let before = b.counted in
    record {
      records = b.records ++ r ∷ [];
      spelled = ap (λ z. z ++ record_bytes r) b.spelled ∙ ap (λ z. flat_map record_bytes b.records ++ z) (sym (append-nil (record_bytes r))) ∙ sym (flat_map-append record_bytes b.records (r ∷ []));
      counted = omega (arith, none, both, before);
    }

both_stable : (b : LogBuffer) (r q : LogRecord) (x : Bool) → (both_logged b r q x).stable ≡ b.stable
both_stable b r q true = refl
both_stable b r q false = refl

both_last : (b : LogBuffer) (r q : LogRecord) (x : Bool) (number : ℕ) → r.lrsn ≡ number → q.lrsn ≡ number → (both_logged b r q x).last ≡ number
both_last b r q true number e f = f
both_last b r q false number e f = e

both_pending : (stable count : ℕ) (b : LogBuffer) (r q : LogRecord) (x : Bool) → is_drawn r.body ≡ true → is_drawn q.body ≡ false → AreBehind stable count b.pending → AreBehind stable (count + 1) (both_logged b r q x).pending
both_pending stable count b r q true e f a = none_more stable (count + 1) (b.pending ++ record_bytes r) q f (one_more stable count b.pending r e a)
both_pending stable count b r q false e f a = one_more stable count b.pending r e a

-- ---- the number of a compensation
undo_number : (number counter : ℕ) (o : Option ℕ) → reply.Drawn number ≡ drawn_reply o counter → (number ≡ counter + 1) × (counter_after o counter ≡ counter + 1)
undo_number number counter None e = (cc e, refl)
undo_number number counter (Some i) e = absurd (cc e)

undone_by : UndoesMoves → (w : World) (g : Holdings) (content : ℕ → ℕ → List ℕ) (forced : ℕ → ℕ) (k t : Kept) (is : ℕ → Bool) (indexes : Indexes) (number : ℕ) (v : Held) → Begins w g content forced k → Draws g k t is indexes number
    → DrawsUndo g.facility k.marks.member indexes (reply.Drawn number) v → Goes w (content_behind w (touched_in g k.marks.member is) (new_bytes t) content) forced (drawn_behind g v k.marks.member t) k.marks t
undone_by law w g content forced k t is indexes number v b d r =
    let n = undo_number number g.facility.counter (first_stale g.facility.directory k.marks.member (given indexes)) r.0 in
    draw_goes w g content forced k t is indexes number b d v (ap (λ (z : Held). z.lists.members) r.1) (ap (λ (z : Held). z.lists.statuses) r.1) (ap (λ (z : Held). z.counter) r.1 ∙ n.1 ∙ sym n.0) n.0
    (law w g content k.marks.member number (touched_in g k.marks.member is) (new_bytes t) indexes v b.good b.tied (is_live_up g forced k b.up) (may w g content forced k t is indexes number b d) r)

-- ---- the newest change is taken back
left_true : (b : Bool) → b ≡ true → (b || false) ≡ true
left_true true e = refl
left_true false e = e

back_goes : UndoesMoves → (w : World) (g : Holdings) (content : ℕ → ℕ → List ℕ) (forced : ℕ → ℕ) (k : Kept) (o : Owner) (at : ℕ) (x : RowChange) (number place : ℕ) (out : Sent) (v : Held)
    → Begins w g content forced k → Undoes k.marks o at out → may_undo_as k.marks o number (newest_of (tran_of k.marks o)) ≡ true → ShowNumber (undone_after k o at (plan.Back x) (reply.Drawn number) place) (is_frame (Some at)) number
    → DrawsUndo g.facility k.marks.member (record { count = 1; at = at ∷ 0 ∷ 0 ∷ [] }) (reply.Drawn number) v
    → (let t = undone_after k o at (plan.Back x) (reply.Drawn number) place in Goes w (content_behind w (touched_in g k.marks.member (is_frame (Some at))) (new_bytes t) content) forced (drawn_behind g v k.marks.member t) k.marks t)
back_goes law w g content forced k o at x number place out v b lawful put shows r =
    let u = row_nth k (Some at) x number in
    let it = lawful.newest in
    let indexes : Indexes = record { count = 1; at = at ∷ 0 ∷ 0 ∷ [] } in
    let held = (λ (q : ℕ) (e : is_frame (Some at) q ≡ true). subst (λ z. Holds k.marks z) (eqb-true at q e) (page_held k.marks at (change_page it.change) lawful.holds)) in
    let c : Changed k u (is_frame (Some at)) = row_changed k k (λ q. false) (Some at) x number (none_changed k) b.up.each held in
    let tran = tran_of u.marks o in
    let back = back_record tran number it in
    let ended = ended_record tran number in
    let last = length tran.changes == 1 in
    let log = both_logged u.marks.log back ended last in
    let trans = back_noted u.marks.trans o tran number (heap_set it.change.table) in
    let newest : newest_of tran ≡ Some it = ap (λ z. newest_of (tran_in z o)) c.trans ∙ lawful.stands in
    let may_too : may_undo_as u.marks o number (Some it) ≡ may_undo_as k.marks o number (Some it) =
    (λ i. may_back (tran_in (c.trans i) o) it && both_fit (c.log i) (back_record (tran_in (c.trans i) o) number it) (ended_record (tran_in (c.trans i) o) number)) in
    let parts = and_parts (may_back tran it) (both_fit u.marks.log back ended) (may_too ∙ ap (may_undo_as k.marks o number) (sym lawful.stands) ∙ put) in
    let is : back_logged u o number ≡ with_marks u (record u.marks { log = log; trans = trans }) =
    ap (λ z. with_marks u (undone_as u.marks o number z)) newest
    ∙ ap (with_marks u) (cond-true (may_back tran it) (after_back u.marks o number (heap_set it.change.table) back ended) u.marks parts.0
    ∙ cond-true (both_fit u.marks.log back ended) (record u.marks { log = log; trans = trans }) u.marks parts.1) in
    undone_by law w g content forced k (back_logged u o number) (is_frame (Some at)) indexes number v b
    (subst (λ z. Draws g k z (is_frame (Some at)) indexes number) (sym is)
    (logged_draws g forced k u (is_frame (Some at)) indexes number log trans c (both_stable u.marks.log back ended last ∙ ap (λ (z : LogBuffer). z.stable) c.log) (both_last u.marks.log back ended last number refl refl)
    (both_pending (g.stable k.marks.member) (g.written k.marks.member) u.marks.log back ended last refl refl (subst (λ (z : LogBuffer). AreBehind (g.stable k.marks.member) (g.written k.marks.member) z.pending) (sym c.log) b.up.pending))
    held (λ q e. left_true (at == q) e) shows)) r

pub undo_goes : UndoesMoves → UndoGoes
undo_goes law w g content forced k o at plan.None number place out v b lawful put shows r = absurd put
undo_goes law w g content forced k o at (plan.System patches) number place out v b lawful put shows r = absurd put
undo_goes law w g content forced k o at (plan.Row x) number place out v b lawful put shows r = absurd put
undo_goes law w g content forced k o at (plan.Back x) number place out v b lawful put shows r = back_goes law w g content forced k o at x number place out v b lawful put shows r
undo_goes law w g content forced k o at (plan.Fault page offset) number place out v b lawful put shows r = absurd put

-- ---- a commit changes no page
untouched : (x y : Bool) (a b : List ℕ) → (if (x && false) && y then a else b) ≡ b
untouched true y a b = refl
untouched false y a b = refl

pub commit_goes : DrawsMoves → CommitGoes
commit_goes law w g content forced k slot number place out v b lawful put r =
    let it = commit_record (slot_tran k.marks slot) number in
    let trans = after_draw k.marks.trans slot in
    let indexes : Indexes = record { count = 0; at = 0 ∷ 0 ∷ 0 ∷ [] } in
    let t = with_marks k (committed_after k.marks slot (reply.Drawn number) place) in
    let c = none_changed k in
    let is : t ≡ with_marks k (record k.marks { log = after_put k.marks.log it; trans = trans }) =
    ap (with_marks k) (cond-true (may_commit k.marks slot number) (record k.marks { log = after_put k.marks.log it; trans = trans }) k.marks put) in
    let same : content_behind w (touched_in g k.marks.member (λ q. false)) (new_bytes t) content ≡ content =
    (λ i n z. untouched (g.copies k.marks.member n).placed (z == (w.pages n).last + 1) (new_bytes t n) (content n z) i) in
    subst (λ z. Goes w z forced (drawn_behind g v k.marks.member t) k.marks t) same
    (moves_by law w g content forced k t (λ q. false) indexes number v b
    (subst (λ z. Draws g k z (λ q. false) indexes number) (sym is)
    (logged_draws g forced k k (λ q. false) indexes number (after_put k.marks.log it) trans c refl refl (pending_one g k k (λ q. false) it c refl b.up.pending) (λ q e. absurd (cc e)) (λ q e. absurd (cc e)) (λ q e. absurd (cc e)))) r)
