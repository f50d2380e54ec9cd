-- Every run keeps the records of each row in order.
use Rattle.std.proofs.Common.{◌≡◌, ℕ, ◌+◌, ◌≤◌, ◌<◌, refl, sym, ◌∙◌, subst, arith, Bool, true, false, List, [], ◌∷◌, Option, Some, None, inl, inr}
use Rattle.std.specs.Prelude.{◌≢◌, not, ◌&&◌, ◌==◌}
use Rattle.std.proofs.lemmas.Bool.{cases_Bool}
use Rattle.row_protocol.specs.Log.{Change, value, logged, has, drawn_by, compensated, without}
use Rattle.row_protocol.specs.Machine.{World, X, Forward, Undoing, is_committed, is_done, on_disk, row_now, changed, skipped, decided, forced, committed, undone, cut_off, group_failed, start}
use Rattle.row_protocol.specs.Moves.{Move, Begin, Get, Put, Skip, Decide, Force, Commit, Stop, Undo, End, Claims, Fail, GroupFail, Reopen, Step, Run, IsAlone}
use Rattle.row_protocol.specs.Legal.{Legal}
use Rattle.row_protocol.specs.Ordered.{is_after_commits, IsChained, marks_by, all_below, is_ordered, Ordered, AlwaysOrdered, OneIsOpen, UndoSetsBack, IsIn, LogsByLrsn}
use Rattle.row_protocol.proofs.Kept.{kept_start, decide_same, force_same, Commits, commit_same, commit_now, covered_now}
use Rattle.row_protocol.proofs.Failures.{cut_commit, cut_done}
use Rattle.row_protocol.proofs.Order.{follows_new, after_decided, after_compensated, after_without, Rises, is_whole, below_new, value_now, ordered_more, one_open, ordered_compensated, marks_more, marks_compensated, chained_compensated, undo_leaves, undo_finds, ordered_without, marks_without, marks_left, chained_without, whole_stand, whole_undone}
use Rattle.row_protocol.proofs.Runs.{kept_step}

-- ---- a change
put_others : (home : ℕ → ℕ) (opening : ℕ → Option ℕ) (w : World) (t r : ℕ) → Legal home opening w → IsAlone w.claim → w.down ≡ false → w.claim t r ≡ Some X → (u : ℕ) → has (w.changes r) u ≡ true → u ≢ t → is_done home w u ≡ true
put_others home opening w t r s alone up mine u h ne = let a = alone u t r ne in let k = s.held u r up h in grind (arith, a, k, mine)

put_ordered : (home : ℕ → ℕ) (opening : ℕ → Option ℕ) (w : World) (t r : ℕ) (x : Option ℕ) → Legal home opening w → Ordered home opening w → IsAlone w.claim → w.down ≡ false → w.claim t r ≡ Some X → (q : ℕ) → is_ordered ((changed opening w t r x).changes q) (λ u. is_done home w u) ≡ true
put_ordered home opening w t r x s o alone up mine q =
    let b = below_new (w.changes r) (record { lrsn = w.counter + 1; tran = t; before = row_now opening w r; after = x; undone = None }) (λ u. is_done home w u) w.counter (omega arith) refl (λ u. s.drawn u r) (o.marked r) (put_others home opening w t r s alone up mine) in
    let k = o.ordered q in let e = o.ordered r in grind (arith, b, k, e)

put_marked : (w : World) (opening : ℕ → Option ℕ) (t r : ℕ) (x : Option ℕ) → ((q : ℕ) → marks_by (w.changes q) w.counter ≡ true) → (q : ℕ) → marks_by ((changed opening w t r x).changes q) (w.counter + 1) ≡ true
put_marked w opening t r x h q = let k = marks_more (w.changes q) w.counter (w.counter + 1) (omega arith) (h q) in let e = marks_more (w.changes r) w.counter (w.counter + 1) (omega arith) (h r) in grind (arith, k, e)

put_chained : (w : World) (opening : ℕ → Option ℕ) (t r : ℕ) (x : Option ℕ) → ((q : ℕ) → marks_by (w.changes q) w.counter ≡ true) → ((q : ℕ) → IsChained (w.changes q) (opening q)) → (q : ℕ) → IsChained ((changed opening w t r x).changes q) (opening q)
put_chained w opening t r x m h q = let v = value_now (w.changes r) w.counter (w.counter + 1) (opening r) (m r) (omega arith) in let k = h q in let e = h r in grind (arith, v, k, e)

put_after : (home : ℕ → ℕ) (opening : ℕ → Option ℕ) (w : World) (t r : ℕ) (x : Option ℕ) → Legal home opening w → Ordered home opening w → (q : ℕ) → is_after_commits ((changed opening w t r x).changes q) w.commit ≡ true
put_after home opening w t r x s o q =
    let b = follows_new (w.changes r) (record { lrsn = w.counter + 1; tran = t; before = row_now opening w r; after = x; undone = None }) w.commit w.counter (omega arith) s.decided in
    let k = o.after_commits q in let e = o.after_commits r in grind (arith, b, k, e)

pub keeps_put : (home : ℕ → ℕ) (opening : ℕ → Option ℕ) (w : World) (t r : ℕ) (x : Option ℕ) → Legal home opening w → Ordered home opening w → IsAlone w.claim → w.down ≡ false → w.claim t r ≡ Some X → Ordered home opening (changed opening w t r x)
keeps_put home opening w t r x s o alone up mine = record { ordered = put_ordered home opening w t r x s o alone up mine; after_commits = put_after home opening w t r x s o; marked = put_marked w opening t r x o.marked; chained = put_chained w opening t r x o.marked o.chained }

-- ---- more transactions are done, or LRSNs drawn
abbrev Done : (ℕ → ℕ) → World → World → Type 0
Done home w v = (u : ℕ) → is_done home w u ≡ true → is_done home v u ≡ true

decide_done : (home : ℕ → ℕ) (opening : ℕ → Option ℕ) (w : World) (t : ℕ) → Legal home opening w → w.commit t ≡ None → Done home w (decided w t)
decide_done home opening w t s bare u = let e = decide_same home opening w t s bare u in grind (arith, e)

force_done : (home : ℕ → ℕ) (w : World) (m l : ℕ) → ((u : ℕ) → is_committed home (forced w m l) u ≡ is_committed home w u) → Done home w (forced w m l)
force_done home w m l same u = let e = same u in grind (arith, e)

commit_done : (home : ℕ → ℕ) (w : World) (t l : ℕ) → Commits home w t l → Done home w (committed home w t l)
commit_done home w t l g u = let e = commit_now home w t l g in let n = commit_same home w t l g u in grind (arith, e, n)

forward_open : (home : ℕ → ℕ) (w : World) (t : ℕ) → w.stage t ≡ Forward → w.commit t ≡ None → is_done home w t ≡ false
forward_open home w t go bare = grind (arith, go, bare)

keeps_skip : (home : ℕ → ℕ) (opening : ℕ → Option ℕ) (w : World) → Ordered home opening w → Ordered home opening (skipped w)
keeps_skip home opening w o = record { ordered = o.ordered; after_commits = o.after_commits; marked = λ r. marks_more (w.changes r) w.counter (w.counter + 1) (omega arith) (o.marked r); chained = o.chained }

pub keeps_decide : (home : ℕ → ℕ) (opening : ℕ → Option ℕ) (w : World) (t : ℕ) → Legal home opening w → Ordered home opening w → w.stage t ≡ Forward → w.commit t ≡ None → Ordered home opening (decided w t)
keeps_decide home opening w t s o go bare = record { ordered = λ r. ordered_more (w.changes r) _ _ (decide_done home opening w t s bare) (o.ordered r); after_commits = λ r. after_decided (w.changes r) (λ u. is_done home w u) w.commit t (w.counter + 1) (forward_open home w t go bare) (o.ordered r) (o.after_commits r); marked = λ r. marks_more (w.changes r) w.counter (w.counter + 1) (omega arith) (o.marked r); chained = o.chained }

pub keeps_force : (home : ℕ → ℕ) (opening : ℕ → Option ℕ) (w : World) (m l : ℕ) → Ordered home opening w → ((u : ℕ) → is_committed home (forced w m l) u ≡ is_committed home w u) → Ordered home opening (forced w m l)
keeps_force home opening w m l o same = record { ordered = λ r. ordered_more (w.changes r) _ _ (force_done home w m l same) (o.ordered r); after_commits = o.after_commits; marked = o.marked; chained = o.chained }

pub keeps_commit : (home : ℕ → ℕ) (opening : ℕ → Option ℕ) (w : World) (t l : ℕ) → Ordered home opening w → Commits home w t l → Ordered home opening (committed home w t l)
keeps_commit home opening w t l o g = record { ordered = λ r. ordered_more (w.changes r) _ _ (commit_done home w t l g) (o.ordered r); after_commits = o.after_commits; marked = o.marked; chained = o.chained }

-- the stages have changed, and those that had ended still have
pub keeps_stages : (home : ℕ → ℕ) (opening : ℕ → Option ℕ) (w v : World) → Ordered home opening w → Done home w v → v.changes ≡ w.changes → v.counter ≡ w.counter → v.commit ≡ w.commit → Ordered home opening v
keeps_stages home opening w v o done e k m = record {
  after_commits = λ r. subst (λ c. is_after_commits (c r) v.commit ≡ true) (sym e) (subst (λ c. is_after_commits (w.changes r) c ≡ true) (sym m) (o.after_commits r));
  ordered = λ r. subst (λ c. is_ordered (c r) (λ u. is_done home v u) ≡ true) (sym e) (ordered_more (w.changes r) _ _ done (o.ordered r));
  marked = λ r. subst (λ c. marks_by (c r) v.counter ≡ true) (sym e) (subst (λ n. marks_by (w.changes r) n ≡ true) (sym k) (o.marked r));
  chained = λ r. subst (λ c. IsChained (c r) (opening r)) (sym e) (o.chained r);
}

-- ---- undo
undoing_open : (home : ℕ → ℕ) (opening : ℕ → Option ℕ) (w : World) (t : ℕ) → Legal home opening w → w.stage t ≡ Undoing → is_done home w t ≡ false
undoing_open home opening w t s back = let d = s.deciding t in grind (arith, d)

undo_ordered : (home : ℕ → ℕ) (opening : ℕ → Option ℕ) (w : World) (t r : ℕ) → Ordered home opening w → is_done home w t ≡ false → (q : ℕ) → is_ordered ((undone w t r).changes q) (λ u. is_done home w u) ≡ true
undo_ordered home opening w t r o bare q = let k = o.ordered q in let e = ordered_compensated (w.changes q) (λ u. is_done home w u) t (w.counter + 1) w.counter bare (o.marked q) (omega arith) k in grind (arith, k, e)

undo_marked : (w : World) (t r : ℕ) → ((q : ℕ) → marks_by (w.changes q) w.counter ≡ true) → (q : ℕ) → marks_by ((undone w t r).changes q) (w.counter + 1) ≡ true
undo_marked w t r h q = let k = marks_more (w.changes q) w.counter (w.counter + 1) (omega arith) (h q) in let e = marks_compensated (w.changes q) t (w.counter + 1) k in grind (arith, k, e)

undo_chained : (w : World) (opening : ℕ → Option ℕ) (t r : ℕ) → ((u q : ℕ) → drawn_by (w.changes q) u w.counter ≡ true) → ((q : ℕ) → IsChained (w.changes q) (opening q)) → (q : ℕ) → IsChained ((undone w t r).changes q) (opening q)
undo_chained w opening t r d h q = let k = h q in let e = chained_compensated (w.changes q) t (w.counter + 1) w.counter (opening q) (omega arith) (λ u. d u q) k in grind (arith, k, e)

undo_after : (w : World) (t r : ℕ) → ((q : ℕ) → is_after_commits (w.changes q) w.commit ≡ true) → (q : ℕ) → is_after_commits ((undone w t r).changes q) w.commit ≡ true
undo_after w t r h q = let k = h q in let e = after_compensated (w.changes q) w.commit t (w.counter + 1) k in grind (arith, k, e)

pub keeps_undo : (home : ℕ → ℕ) (opening : ℕ → Option ℕ) (w : World) (t r : ℕ) → Legal home opening w → Ordered home opening w → w.stage t ≡ Undoing → Ordered home opening (undone w t r)
keeps_undo home opening w t r s o back = record { ordered = undo_ordered home opening w t r o (undoing_open home opening w t s back); after_commits = undo_after w t r o.after_commits; marked = undo_marked w t r o.marked; chained = undo_chained w opening t r s.drawn o.chained }

-- ---- failures
abbrev lost_of : (ℕ → ℕ) → World → (ℕ → Bool) → ℕ → ℕ → Bool
lost_of home w fails t l = fails (home t) && not (on_disk home w t l)

rises : (home : ℕ → ℕ) (w : World) (fails : ℕ → Bool) → Rises (lost_of home w fails)
rises home w fails t k l le h = grind arith

done_whole : (home : ℕ → ℕ) (opening : ℕ → Option ℕ) (w : World) (fails : ℕ → Bool) (r : ℕ) → Legal home opening w → (u : ℕ) → is_done home w u ≡ true → is_whole (w.changes r) u (lost_of home w fails) ≡ true
done_whole home opening w fails r s u d = elim (cases_Bool (is_committed home w u)) [
  | inl e ↦ whole_stand (w.changes r) u (w.flushed (home u)) (lost_of home w fails) (λ l le. grind (arith, le)) (covered_now home w r s.covered u e) (let k = s.deciding u in let g = s.standing u r in grind (arith, e, k, g))
  | inr e ↦ whole_undone (w.changes r) u (w.flushed (home u)) (lost_of home w fails) (λ l le. grind (arith, le)) (let k = s.ended u r in grind (arith, e, d, k))
]

cut_more : (home : ℕ → ℕ) (w : World) (fails : ℕ → Bool) → Done home w (cut_off home w fails)
cut_more home w fails u h = cut_done home w fails u ∙ h

pub keeps_cut : (home : ℕ → ℕ) (opening : ℕ → Option ℕ) (w : World) (fails : ℕ → Bool) → Legal home opening w → Ordered home opening w → Ordered home opening (cut_off home w fails)
keeps_cut home opening w fails s o = record {
  ordered = λ r. ordered_more (without (w.changes r) (lost_of home w fails)) _ _ (cut_more home w fails) (ordered_without (w.changes r) (λ u. is_done home w u) (lost_of home w fails) (rises home w fails) (o.ordered r));
  after_commits = λ r. after_without (w.changes r) (lost_of home w fails) w.commit (cut_off home w fails).commit (λ u l e. cut_commit home w fails u l e) (o.after_commits r);
  marked = λ r. marks_without (w.changes r) (lost_of home w fails) w.counter (o.marked r);
  chained = λ r. chained_without (w.changes r) (λ u. is_done home w u) (lost_of home w fails) (opening r) (rises home w fails) (o.ordered r) (done_whole home opening w fails r s) (o.chained r);
}

left_below : (home : ℕ → ℕ) (w : World) (counter : ℕ) → ((m : ℕ) → w.flushed m ≤ counter) → (t l : ℕ) → lost_of home w (λ k. true) t l ≡ false → l ≤ counter
left_below home w counter h t l e = let f = h (home t) in grind (arith, f, e)

pub keeps_group_failed : (home : ℕ → ℕ) (opening : ℕ → Option ℕ) (w : World) (counter : ℕ) → Legal home opening w → Ordered home opening w → ((m : ℕ) → w.flushed m ≤ counter) → Ordered home opening (group_failed home w counter)
keeps_group_failed home opening w counter s o top = let k : Ordered home opening (cut_off home w (λ k. true)) = keeps_cut home opening w (λ k. true) s o in record {
  ordered = k.ordered;
  after_commits = k.after_commits;
  marked = λ r. marks_left (w.changes r) (lost_of home w (λ k. true)) counter (left_below home w counter top);
  chained = k.chained;
}

-- ---- all moves
pub keeps_step : (home : ℕ → ℕ) (opening : ℕ → Option ℕ) (w v : World) (e : Move) → Legal home opening w → Ordered home opening w → IsAlone w.claim → Step home opening w e v → Ordered home opening v
keeps_step home opening w v (Begin t) s o alone st = subst (Ordered home opening) (sym st.2) (keeps_stages home opening w _ o (let wait = st.1 in grind (arith, wait)) refl refl refl)
keeps_step home opening w v (Get t r) s o alone st = subst (Ordered home opening) (sym st.4) (record { ordered = o.ordered; after_commits = o.after_commits; marked = o.marked; chained = o.chained })
keeps_step home opening w v (Put t r x) s o alone st = subst (Ordered home opening) (sym st.4) (keeps_put home opening w t r x s o alone st.0 st.3)
keeps_step home opening w v Skip s o alone st = subst (Ordered home opening) (sym st) (keeps_skip home opening w o)
keeps_step home opening w v (Decide t) s o alone st = subst (Ordered home opening) (sym st.2) (keeps_decide home opening w t s o st.0 st.1)
keeps_step home opening w v (Force m l) s o alone st = subst (Ordered home opening) (sym st.3) (keeps_force home opening w m l o (force_same home w m l st.0 st.2))
keeps_step home opening w v (Commit t l) s o alone st = subst (Ordered home opening) (sym st.3) (keeps_commit home opening w t l o (record { record_at = st.0; above = st.1; alone = st.2 }))
keeps_step home opening w v (Stop t) s o alone st = subst (Ordered home opening) (sym st.2) (keeps_stages home opening w _ o (let go = st.0 in grind (arith, go)) refl refl refl)
keeps_step home opening w v (Undo t r) s o alone st = subst (Ordered home opening) (sym st.1) (keeps_undo home opening w t r s o st.0)
keeps_step home opening w v (End t) s o alone st = subst (Ordered home opening) (sym st.2) (keeps_stages home opening w _ o (let back = st.0 in grind (arith, back)) refl refl refl)
keeps_step home opening w v (Claims claim) s o alone st = subst (Ordered home opening) (sym st.2) (record { ordered = o.ordered; after_commits = o.after_commits; marked = o.marked; chained = o.chained })
keeps_step home opening w v (Fail m) s o alone st = subst (Ordered home opening) (sym st) (keeps_cut home opening w (λ k. k == m) s o)
keeps_step home opening w v (GroupFail counter) s o alone st = subst (Ordered home opening) (sym st.1) (keeps_group_failed home opening w counter s o st.0)
keeps_step home opening w v Reopen s o alone st = subst (Ordered home opening) (sym st.1) (record { ordered = o.ordered; after_commits = o.after_commits; marked = o.marked; chained = o.chained })

pub keeps_start : (home : ℕ → ℕ) (opening : ℕ → Option ℕ) → Ordered home opening start
keeps_start home opening = grind arith

pub keeps_run : (home : ℕ → ℕ) (opening : ℕ → Option ℕ) (es : List Move) (w v : World) → Legal home opening w → Ordered home opening w → IsAlone w.claim → Run home opening w es v → Ordered home opening v
keeps_run home opening [] w v s o alone run = subst (Ordered home opening) (sym run) o
keeps_run home opening (e ∷ es) w v s o alone run = keeps_run home opening es run.0 v (kept_step home opening w run.0 e s alone run.1) (keeps_step home opening w run.0 e s o alone run.1) run.2 run.3

pub always_ordered : AlwaysOrdered
always_ordered home opening moves w run = keeps_run home opening moves start w (kept_start home opening) (keeps_start home opening) (λ t u r ne h. refl) run

-- ---- what it gives
pub one_is_open : OneIsOpen
one_is_open home opening w t u r o ne a b n = one_open (w.changes r) (λ x. is_done home w x) t u (o.ordered r) ne a b n

now_undone : (opening : ℕ → Option ℕ) (w : World) (t r : ℕ) → row_now opening (undone w t r) r ≡ value (compensated (w.changes r) t (w.counter + 1)) (opening r)
now_undone opening w t r = grind arith

pub undo_sets_back : UndoSetsBack
undo_sets_back home opening w t r c o n e = record {
  finds = undo_finds (w.changes r) (λ x. is_done home w x) t (opening r) c (o.ordered r) n e;
  leaves = now_undone opening w t r ∙ undo_leaves (w.changes r) (λ x. is_done home w x) t (w.counter + 1) (opening r) c (o.ordered r) (o.chained r) n e;
}

-- ---- the rows of the logs by LRSN
below_in : (cs : List Change) (c d : Change) (f : ℕ → Bool) → all_below cs c f ≡ true → IsIn cs d → d.lrsn < c.lrsn
below_in [] c d f h i = absurd i
below_in (e ∷ es) c d f h (inl p) = grind (arith, h, p)
below_in (e ∷ es) c d f h (inr i) = below_in es c d f (grind (arith, h)) i

greatest : (cs : List Change) (on : ℕ → ℕ → Bool) (done_by f : ℕ → Bool) (v : Option ℕ) (c : Change) → is_ordered cs f ≡ true → IsIn cs c → (on c.tran c.lrsn && done_by c.tran) ≡ true
    → ((d : Change) → IsIn cs d → (on d.tran d.lrsn && done_by d.tran) ≡ true → d.lrsn ≤ c.lrsn) → logged cs on done_by v ≡ c.after
greatest [] on done_by f v c o i k top = absurd i
greatest (d ∷ ds) on done_by f v c o (inl e) k top = grind (arith, e, k)
greatest (d ∷ ds) on done_by f v c o (inr i) k top =
    let low = below_in ds d c f (grind (arith, o)) i in
    let high = top d (inl refl) in
    let ih = greatest ds on done_by f v c (grind (arith, o)) i k (λ x j q. top x (inr j) q) in
    grind (arith, low, high, ih)

none_counts : (cs : List Change) (on : ℕ → ℕ → Bool) (done_by : ℕ → Bool) (v : Option ℕ) → ((d : Change) → IsIn cs d → (on d.tran d.lrsn && done_by d.tran) ≡ false) → logged cs on done_by v ≡ v
none_counts [] on done_by v h = refl
none_counts (d ∷ ds) on done_by v h = let e = h d (inl refl) in let ih = none_counts ds on done_by v (λ x j. h x (inr j)) in grind (arith, e, ih)

pub logs_by_lrsn : LogsByLrsn
logs_by_lrsn home opening w r o = record {
  greatest = λ c i k top. greatest (w.changes r) (λ t l. on_disk home w t l) (λ t. is_committed home w t) (λ t. is_done home w t) (opening r) c (o.ordered r) i k top;
  none = λ h. none_counts (w.changes r) (λ t l. on_disk home w t l) (λ t. is_committed home w t) (opening r) h;
}
