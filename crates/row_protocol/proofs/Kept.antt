-- What each move keeps.
use Rattle.std.proofs.Common.{◌≡◌, ℕ, ◌+◌, ◌≤◌, ◌<◌, refl, sym, ◌∙◌, arith, true, false, List, [], Option, Some, None, inl, inr}
use Rattle.std.specs.Prelude.{◌≢◌}
use Rattle.std.proofs.lemmas.Bool.{cases_eq, cases_Bool, cond-true, cond-false, eq-eqb, ne_eqb}
use Rattle.row_protocol.specs.Functions.{put}
use Rattle.row_protocol.specs.Rows.{rows_after, IsLegal, writes, touches, replay, is_listed}
use Rattle.row_protocol.specs.Log.{Change, has, is_top, all_stand, drawn_by, all_undone_by}
use Rattle.row_protocol.specs.Machine.{World, Mode, X, Waiting, Forward, Undoing, Ended, is_committed, is_stable, is_done, row_now, rows_of_logs, begun, got, changed, skipped, decided, forced, committed, stopped, undone, ended, reopened, start}
use Rattle.row_protocol.specs.Moves.{IsAlone, NoCommit, NoOtherCommit, KeepsClaims}
use Rattle.row_protocol.specs.Legal.{Legal}
use Rattle.row_protocol.proofs.Frames.{after_unwritten, writes_touches, after_agree, legal_agree}
use Rattle.row_protocol.proofs.Lists.{plain, whole, plain_agree, plain_compensated, settled, top_plain, top_has, top_compensated, value_compensated, has_compensated, stand_compensated, drawn_more, drawn_compensated, undone_more, undone_compensated, none_stand}

-- ---- the rows of the logs, by committed transactions alone
abbrev pub plain_now : (ℕ → ℕ) → (ℕ → Option ℕ) → World → ℕ → Option ℕ
plain_now home opening w r = plain (w.changes r) (λ t. is_committed home w t) (opening r)

abbrev pub IsCovered : World → Type 0
IsCovered w = (t r l : ℕ) → w.commit t ≡ Some l → drawn_by (w.changes r) t l ≡ true

covered_at : (cs : List Change) (t f : ℕ) (c : Option ℕ) → ((l : ℕ) → c ≡ Some l → drawn_by cs t l ≡ true) → is_stable c f ≡ true → drawn_by cs t f ≡ true
covered_at cs t f None h e = cc
covered_at cs t f (Some l) h e = let d = h l refl in let m = drawn_more cs t l f in grind (arith, d, m)

pub covered_now : (home : ℕ → ℕ) (w : World) (r : ℕ) → IsCovered w → (t : ℕ) → is_committed home w t ≡ true → drawn_by (w.changes r) t (w.flushed (home t)) ≡ true
covered_now home w r h t e = covered_at (w.changes r) t (w.flushed (home t)) (w.commit t) (λ l. h t r l) e

whole_now : (home : ℕ → ℕ) (opening : ℕ → Option ℕ) (w : World) (r : ℕ) → IsCovered w → rows_of_logs home opening w r ≡ plain_now home opening w r
whole_now home opening w r h = whole (w.changes r) (λ t. w.flushed (home t)) (λ t. is_committed home w t) (opening r) (covered_now home w r h)

pub stands_from : (home : ℕ → ℕ) (opening : ℕ → Option ℕ) (w : World) → IsCovered w → ((r : ℕ) → plain_now home opening w r ≡ replay w.history opening r) → (r : ℕ) → rows_of_logs home opening w r ≡ replay w.history opening r
stands_from home opening w h p r = whole_now home opening w r h ∙ p r

pub plain_stands : (home : ℕ → ℕ) (opening : ℕ → Option ℕ) (w : World) → Legal home opening w → (r : ℕ) → plain_now home opening w r ≡ replay w.history opening r
plain_stands home opening w s r = sym (whole_now home opening w r s.covered) ∙ s.stands r

-- ---- what a transaction with a claim on a row sees
seen_done : (home : ℕ → ℕ) (opening : ℕ → Option ℕ) (w : World) (t r : ℕ) → Legal home opening w → IsAlone w.claim → w.down ≡ false → w.stage t ≡ Forward → is_committed home w t ≡ false → w.claim t r ≢ None → writes (w.active t) r ≡ false
    → (u : ℕ) → has (w.changes r) u ≡ true → is_done home w u ≡ true
seen_done home opening w t r s alone up go still mine none u h = let a = alone u t r in let k = s.held u r in let o = s.only t r in grind (arith, a, k, o)

seen_standing : (home : ℕ → ℕ) (opening : ℕ → Option ℕ) (w : World) (r : ℕ) → Legal home opening w → (u : ℕ) → is_committed home w u ≡ true → all_stand (w.changes r) u ≡ true
seen_standing home opening w r s u e = let d = s.deciding u in let k = s.standing u r in grind (arith, d, k)

seen_undone : (home : ℕ → ℕ) (opening : ℕ → Option ℕ) (w : World) (r : ℕ) → Legal home opening w → (u : ℕ) → is_done home w u ≡ true → is_committed home w u ≡ false → all_undone_by (w.changes r) u (w.flushed (home u)) ≡ true
seen_undone home opening w r s u d e = let k = s.ended u r in grind (arith, k)

all_done : (home : ℕ → ℕ) (opening : ℕ → Option ℕ) (w : World) (r : ℕ) → Legal home opening w → ((u : ℕ) → has (w.changes r) u ≡ true → is_done home w u ≡ true) → row_now opening w r ≡ replay w.history opening r
all_done home opening w r s done = settled (w.changes r) (λ u. w.flushed (home u)) (λ u. is_committed home w u) (opening r) (λ u h e. seen_standing home opening w r s u e) (λ u h e. seen_undone home opening w r s u (done u h) e) ∙ plain_stands home opening w s r

pub sees : (home : ℕ → ℕ) (opening : ℕ → Option ℕ) (w : World) (t r : ℕ) → Legal home opening w → IsAlone w.claim → w.down ≡ false → w.stage t ≡ Forward → is_committed home w t ≡ false → w.claim t r ≢ None
    → row_now opening w r ≡ rows_after (w.active t) (replay w.history opening) r
sees home opening w t r s alone up go still mine = elim (cases_Bool (writes (w.active t) r)) [
  | inl h ↦ s.own t r h
  | inr h ↦ all_done home opening w r s (seen_done home opening w t r s alone up go still mine h) ∙ sym (after_unwritten (w.active t) _ r h)
]

-- ---- begin and get
pub kept_start : (home : ℕ → ℕ) (opening : ℕ → Option ℕ) → Legal home opening start
unfolding replay
kept_start home opening = grind arith

pub kept_begin : (home : ℕ → ℕ) (opening : ℕ → Option ℕ) (w : World) (t : ℕ) → Legal home opening w → w.stage t ≡ Waiting → Legal home opening (begun w t)
kept_begin home opening w t s wait = grind (arith, none_stand)

pub kept_get : (home : ℕ → ℕ) (opening : ℕ → Option ℕ) (w : World) (t r : ℕ) → Legal home opening w → IsAlone w.claim → w.down ≡ false → w.stage t ≡ Forward → w.commit t ≡ None → w.claim t r ≢ None → Legal home opening (got opening w t r)
kept_get home opening w t r s alone up go still mine = let see = sees home opening w t r s alone up go (grind arith) mine in grind (arith, see)

-- ---- a change
put_stands : (home : ℕ → ℕ) (opening : ℕ → Option ℕ) (w : World) (t r : ℕ) (x : Option ℕ) → Legal home opening w → (q : ℕ) → rows_of_logs home opening (changed opening w t r x) q ≡ replay w.history opening q
put_stands home opening w t r x s q = let f = s.flushed (home t) in let st = s.stands q in grind (arith, f, st)

put_own : (home : ℕ → ℕ) (opening : ℕ → Option ℕ) (w : World) (t r : ℕ) (x : Option ℕ) → Legal home opening w → IsAlone w.claim → w.claim t r ≡ Some X → (u q : ℕ) → writes ((changed opening w t r x).active u) q ≡ true
    → row_now opening (changed opening w t r x) q ≡ rows_after ((changed opening w t r x).active u) (replay w.history opening) q
put_own home opening w t r x s alone mine u q = let o = s.own u q in let k = s.written u q in let a = alone t u r in grind (arith, o, k, a)

put_last : (home : ℕ → ℕ) (opening : ℕ → Option ℕ) (w : World) (t r : ℕ) (x : Option ℕ) → Legal home opening w → IsAlone w.claim → w.claim t r ≡ Some X → (u q : ℕ) → writes ((changed opening w t r x).active u) q ≡ true
    → is_top ((changed opening w t r x).changes q) u ≡ true
put_last home opening w t r x s alone mine u q = let o = s.last u q in let k = s.written u q in let a = alone t u r in grind (arith, o, k, a)

put_drawn : (w : World) (opening : ℕ → Option ℕ) (t r : ℕ) (x : Option ℕ) → ((u q : ℕ) → drawn_by (w.changes q) u w.counter ≡ true) → (u q : ℕ) → drawn_by ((changed opening w t r x).changes q) u (w.counter + 1) ≡ true
put_drawn w opening t r x h u q = let d = h u q in let m = drawn_more (w.changes q) u w.counter (w.counter + 1) in grind (arith, d, m)

pub kept_put : (home : ℕ → ℕ) (opening : ℕ → Option ℕ) (w : World) (t r : ℕ) (x : Option ℕ) → Legal home opening w → IsAlone w.claim → w.down ≡ false → w.stage t ≡ Forward → w.commit t ≡ None → w.claim t r ≡ Some X → Legal home opening (changed opening w t r x)
kept_put home opening w t r x s alone up go bare mine = record {
  flushed = grind (arith, s.flushed);
  drawn = put_drawn w opening t r x s.drawn;
  decided = grind (arith, s.decided);
  covered = grind (arith, s.covered);
  deciding = s.deciding;
  fresh = grind (arith, s.fresh);
  running = grind (arith, s.running);
  unanswered = grind (arith, s.unanswered);
  touched = grind (arith, s.touched);
  written = grind (arith, s.written);
  held = grind (arith, s.held);
  standing = grind (arith, s.standing);
  only = grind (arith, s.only);
  last = put_last home opening w t r x s alone mine;
  own = put_own home opening w t r x s alone mine;
  ended = grind (arith, s.ended);
  listed = s.listed;
  once = s.once;
  legal = grind (arith, s.legal);
  history = s.history;
  stands = put_stands home opening w t r x s;
}

-- ---- an LRSN is drawn for another record
pub kept_skip : (home : ℕ → ℕ) (opening : ℕ → Option ℕ) (w : World) → Legal home opening w → Legal home opening (skipped w)
kept_skip home opening w s = record {
  flushed = grind (arith, s.flushed);
  drawn = λ t r. drawn_more (w.changes r) t w.counter (w.counter + 1) (omega arith) (s.drawn t r);
  decided = grind (arith, s.decided);
  covered = s.covered;
  deciding = s.deciding;
  fresh = s.fresh;
  running = s.running;
  unanswered = s.unanswered;
  touched = s.touched;
  written = s.written;
  held = s.held;
  standing = s.standing;
  only = s.only;
  last = s.last;
  own = s.own;
  ended = s.ended;
  listed = s.listed;
  once = s.once;
  legal = s.legal;
  history = s.history;
  stands = s.stands;
}

-- ---- the commit record is written
decide_covered : (home : ℕ → ℕ) (opening : ℕ → Option ℕ) (w : World) (t : ℕ) → Legal home opening w → IsCovered (decided w t)
decide_covered home opening w t s u r l = let d = s.drawn u r in let m = drawn_more (w.changes r) u w.counter (w.counter + 1) in let c = s.covered u r l in grind (arith, d, m, c)

pub decide_same : (home : ℕ → ℕ) (opening : ℕ → Option ℕ) (w : World) (t : ℕ) → Legal home opening w → w.commit t ≡ None → (u : ℕ) → is_committed home (decided w t) u ≡ is_committed home w u
decide_same home opening w t s bare u = let f = s.flushed (home u) in grind (arith, f)

pub kept_decide : (home : ℕ → ℕ) (opening : ℕ → Option ℕ) (w : World) (t : ℕ) → Legal home opening w → w.stage t ≡ Forward → w.commit t ≡ None → Legal home opening (decided w t)
kept_decide home opening w t s go bare = let same = decide_same home opening w t s bare in record {
  flushed = grind (arith, s.flushed);
  drawn = λ u r. drawn_more (w.changes r) u w.counter (w.counter + 1) (omega arith) (s.drawn u r);
  decided = grind (arith, s.decided);
  covered = decide_covered home opening w t s;
  deciding = grind (arith, s.deciding);
  fresh = s.fresh;
  running = s.running;
  unanswered = λ u r h. same u ∙ s.unanswered u r h;
  touched = s.touched;
  written = s.written;
  held = λ u r up h d. s.held u r up h (let e = same u in grind (arith, e, d));
  standing = s.standing;
  only = λ u r h g d. s.only u r h g (sym (same u) ∙ d);
  last = s.last;
  own = s.own;
  ended = s.ended;
  listed = λ u. s.listed u ∙ sym (same u);
  once = s.once;
  legal = s.legal;
  history = s.history;
  stands = stands_from home opening (decided w t) (decide_covered home opening w t s) (λ r. plain_agree (w.changes r) _ _ (opening r) (λ u h. same u) ∙ plain_stands home opening w s r);
}

-- ---- a log is on disk further, with no commit record among the new ones
pub force_same : (home : ℕ → ℕ) (w : World) (m l : ℕ) → w.flushed m ≤ l → NoCommit home w m l → (u : ℕ) → is_committed home (forced w m l) u ≡ is_committed home w u
force_same home w m l le none u = let n = none u in grind (arith, n)

force_ended : (home : ℕ → ℕ) (opening : ℕ → Option ℕ) (w : World) (m l : ℕ) → Legal home opening w → w.flushed m ≤ l → (t r : ℕ) → w.stage t ≡ Ended → all_undone_by (w.changes r) t ((forced w m l).flushed (home t)) ≡ true
force_ended home opening w m l s le t r h = undone_more (w.changes r) t (w.flushed (home t)) ((forced w m l).flushed (home t)) (grind arith) (s.ended t r h)

pub kept_force : (home : ℕ → ℕ) (opening : ℕ → Option ℕ) (w : World) (m l : ℕ) → Legal home opening w → w.flushed m ≤ l → l ≤ w.counter → NoCommit home w m l → Legal home opening (forced w m l)
kept_force home opening w m l s le top none = let same = force_same home w m l le none in record {
  flushed = grind (arith, s.flushed);
  drawn = s.drawn;
  decided = s.decided;
  covered = s.covered;
  deciding = s.deciding;
  fresh = s.fresh;
  running = s.running;
  unanswered = λ u r h. same u ∙ s.unanswered u r h;
  touched = s.touched;
  written = s.written;
  held = λ u r up h d. s.held u r up h (let e = same u in grind (arith, e, d));
  standing = s.standing;
  only = λ u r h g d. s.only u r h g (sym (same u) ∙ d);
  last = s.last;
  own = s.own;
  ended = force_ended home opening w m l s le;
  listed = λ u. s.listed u ∙ sym (same u);
  once = s.once;
  legal = s.legal;
  history = s.history;
  stands = stands_from home opening (forced w m l) s.covered (λ r. plain_agree (w.changes r) _ _ (opening r) (λ u h. same u) ∙ plain_stands home opening w s r);
}

-- ---- a commit record is on disk
pub record Commits (home : ℕ → ℕ) (w : World) (t l : ℕ) : Type 0 where
  pub record_at : w.commit t ≡ Some l
  pub above : w.flushed (home t) < l
  pub alone : NoOtherCommit home w (home t) t l

pub commit_same : (home : ℕ → ℕ) (w : World) (t l : ℕ) → Commits home w t l → (u : ℕ) → u ≢ t → is_committed home (committed home w t l) u ≡ is_committed home w u
commit_same home w t l g u ne = let n = g.alone u in let f = g.above in grind (arith, n, f)

pub commit_now : (home : ℕ → ℕ) (w : World) (t l : ℕ) → Commits home w t l → is_committed home (committed home w t l) t ≡ true
commit_now home w t l g = let e = g.record_at in grind (arith, e)

commit_not_yet : (home : ℕ → ℕ) (w : World) (t l : ℕ) → Commits home w t l → is_committed home w t ≡ false
commit_not_yet home w t l g = let e = g.record_at in let f = g.above in grind (arith, e, f)

other : (home : ℕ → ℕ) (w : World) (t l u : ℕ) → Commits home w t l → is_committed home (committed home w t l) u ≡ false → u ≢ t
other home w t l u g h e = let k = commit_now home w t l g in grind (arith, k)

apart : (home : ℕ → ℕ) (opening : ℕ → Option ℕ) (w : World) (t u q : ℕ) → Legal home opening w → IsAlone w.claim → u ≢ t → touches (w.active u) q ≡ true → writes (w.active t) q ≡ false
apart home opening w t u q s alone ne h = let a = s.touched u q h in let b = s.written t q in let c = alone t u q in grind (arith, a, b, c)

-- the rows of the history do not change where another transaction has touched
unmoved : (home : ℕ → ℕ) (opening : ℕ → Option ℕ) (w : World) (t u q : ℕ) → Legal home opening w → IsAlone w.claim → u ≢ t → touches (w.active u) q ≡ true → replay w.history opening q ≡ rows_after (w.active t) (replay w.history opening) q
unmoved home opening w t u q s alone ne h = sym (after_unwritten (w.active t) (replay w.history opening) q (apart home opening w t u q s alone ne h))

commit_legal : (home : ℕ → ℕ) (opening : ℕ → Option ℕ) (w : World) (t u : ℕ) → Legal home opening w → IsAlone w.claim → IsLegal (put w.active t [] u) (rows_after (w.active t) (replay w.history opening))
commit_legal home opening w t u s alone = elim (cases_eq u t) [
  | inl e ↦ rw (cond-true _ [] (w.active u) (eq-eqb u t e)) tt
  | inr ne ↦ rw (cond-false _ [] (w.active u) (ne_eqb u t ne)) (legal_agree (w.active u) (replay w.history opening) _ (λ q h. unmoved home opening w t u q s alone ne h) (s.legal u))
]

commit_own : (home : ℕ → ℕ) (opening : ℕ → Option ℕ) (w : World) (t u r : ℕ) → Legal home opening w → IsAlone w.claim → writes (put w.active t [] u) r ≡ true → row_now opening w r ≡ rows_after (put w.active t [] u) (rows_after (w.active t) (replay w.history opening)) r
commit_own home opening w t u r s alone = elim (cases_eq u t) [
  | inl e ↦ rw (cond-true _ [] (w.active u) (eq-eqb u t e)) (λ h. cc)
  | inr ne ↦ rw (cond-false _ [] (w.active u) (ne_eqb u t ne)) (λ h. s.own u r h ∙ after_agree (w.active u) _ _ r (unmoved home opening w t u r s alone ne (writes_touches (w.active u) r h)))
]

commit_has : (home : ℕ → ℕ) (opening : ℕ → Option ℕ) (w : World) (t l r : ℕ) → Legal home opening w → Commits home w t l → writes (w.active t) r ≡ false → (u : ℕ) → has (w.changes r) u ≡ true → is_committed home (committed home w t l) u ≡ is_committed home w u
commit_has home opening w t l r s g none u h = elim (cases_eq u t) [
  | inl e ↦ let o = s.only t r in let f = s.deciding t l g.record_at in let n = commit_not_yet home w t l g in grind (arith, o, f, n, e)
  | inr ne ↦ commit_same home w t l g u ne
]

commit_stands : (home : ℕ → ℕ) (opening : ℕ → Option ℕ) (w : World) (t l : ℕ) → Legal home opening w → Commits home w t l → (r : ℕ) → plain_now home opening (committed home w t l) r ≡ rows_after (w.active t) (replay w.history opening) r
commit_stands home opening w t l s g r = elim (cases_Bool (writes (w.active t) r)) [
  | inl h ↦ top_plain (w.changes r) t (λ u. is_committed home (committed home w t l) u) (opening r) (s.last t r h) (s.standing t r (s.deciding t l g.record_at)) (commit_now home w t l g) ∙ s.own t r h
  | inr h ↦ plain_agree (w.changes r) _ _ (opening r) (commit_has home opening w t l r s g h) ∙ plain_stands home opening w s r ∙ sym (after_unwritten (w.active t) _ r h)
]

commit_held : (home : ℕ → ℕ) (opening : ℕ → Option ℕ) (w : World) (t l : ℕ) → Legal home opening w → Commits home w t l → (u r : ℕ) → w.down ≡ false → has (w.changes r) u ≡ true → is_done home (committed home w t l) u ≡ false → w.claim u r ≡ Some X
commit_held home opening w t l s g u r up h d = let ne = other home w t l u g in let e = commit_same home w t l g u in let k = s.held u r up h in grind (arith, ne, e, k, d)

commit_only : (home : ℕ → ℕ) (opening : ℕ → Option ℕ) (w : World) (t l : ℕ) → Legal home opening w → Commits home w t l → (u r : ℕ) → has (w.changes r) u ≡ true → w.stage u ≡ Forward → is_committed home (committed home w t l) u ≡ false → writes (put w.active t [] u) r ≡ true
commit_only home opening w t l s g u r h go d = let ne = other home w t l u g d in let e = commit_same home w t l g u ne in let k = s.only u r h go in grind (arith, ne, e, k, d)

commit_unanswered : (home : ℕ → ℕ) (opening : ℕ → Option ℕ) (w : World) (t l : ℕ) → Legal home opening w → Commits home w t l → (u r : ℕ) → touches (put w.active t [] u) r ≡ true → is_committed home (committed home w t l) u ≡ false
commit_unanswered home opening w t l s g u r = let e = commit_same home w t l g u in let k = s.unanswered u r in grind (arith, e, k)

commit_ended : (home : ℕ → ℕ) (opening : ℕ → Option ℕ) (w : World) (t l : ℕ) → Legal home opening w → Commits home w t l → (u r : ℕ) → w.stage u ≡ Ended → all_undone_by (w.changes r) u ((committed home w t l).flushed (home u)) ≡ true
commit_ended home opening w t l s g u r h = undone_more (w.changes r) u (w.flushed (home u)) ((committed home w t l).flushed (home u)) (let f = g.above in grind (arith, f)) (s.ended u r h)

commit_listed : (home : ℕ → ℕ) (opening : ℕ → Option ℕ) (w : World) (t l : ℕ) → Legal home opening w → Commits home w t l → (u : ℕ) → is_listed (committed home w t l).history u ≡ is_committed home (committed home w t l) u
commit_listed home opening w t l s g u = let e = commit_now home w t l g in let n = commit_same home w t l g u in let k = s.listed u in grind (arith, e, n, k)

pub kept_commit : (home : ℕ → ℕ) (opening : ℕ → Option ℕ) (w : World) (t l : ℕ) → Legal home opening w → IsAlone w.claim → w.commit t ≡ Some l → w.flushed (home t) < l → NoOtherCommit home w (home t) t l → Legal home opening (committed home w t l)
unfolding replay
kept_commit home opening w t l s alone at above none = let g : Commits home w t l = record { record_at = at; above = above; alone = none } in record {
  flushed = let d = s.decided t l at in grind (arith, s.flushed, d);
  drawn = s.drawn;
  decided = s.decided;
  covered = s.covered;
  deciding = s.deciding;
  fresh = s.fresh;
  running = grind (arith, s.running);
  unanswered = commit_unanswered home opening w t l s g;
  touched = grind (arith, s.touched);
  written = grind (arith, s.written);
  held = commit_held home opening w t l s g;
  standing = s.standing;
  only = commit_only home opening w t l s g;
  last = grind (arith, s.last);
  own = λ u r. commit_own home opening w t u r s alone;
  ended = commit_ended home opening w t l s g;
  listed = commit_listed home opening w t l s g;
  once = let n = commit_not_yet home w t l g in let k = s.listed t in grind (arith, n, k, s.once);
  legal = λ u. commit_legal home opening w t u s alone;
  history = (s.legal t, s.history);
  stands = stands_from home opening (committed home w t l) s.covered (commit_stands home opening w t l s g);
}

-- ---- refusal, undo, the ended record, claims
pub kept_stop : (home : ℕ → ℕ) (opening : ℕ → Option ℕ) (w : World) (t : ℕ) → Legal home opening w → w.stage t ≡ Forward → w.commit t ≡ None → Legal home opening (stopped w t)
kept_stop home opening w t s go bare = record {
  flushed = s.flushed;
  drawn = s.drawn;
  decided = s.decided;
  covered = s.covered;
  deciding = grind (arith, s.deciding);
  fresh = grind (arith, s.fresh);
  running = grind (arith, s.running);
  unanswered = grind (arith, s.unanswered);
  touched = grind (arith, s.touched);
  written = grind (arith, s.written);
  held = grind (arith, s.held);
  standing = grind (arith, s.standing);
  only = grind (arith, s.only);
  last = grind (arith, s.last);
  own = grind (arith, s.own);
  ended = grind (arith, s.ended);
  listed = s.listed;
  once = s.once;
  legal = grind (arith, s.legal);
  history = s.history;
  stands = s.stands;
}

undo_own : (home : ℕ → ℕ) (opening : ℕ → Option ℕ) (w : World) (t r : ℕ) → Legal home opening w → w.stage t ≡ Undoing → (u q : ℕ) → writes (w.active u) q ≡ true → row_now opening (undone w t r) q ≡ row_now opening w q
undo_own home opening w t r s back u q h = let g = s.running u q (writes_touches (w.active u) q h) in let v = value_compensated (w.changes q) t u (w.counter + 1) (opening q) in let k = s.standing u q g in let l = s.last u q h in grind (arith, g, v, k, l)

undo_last : (home : ℕ → ℕ) (opening : ℕ → Option ℕ) (w : World) (t r : ℕ) → Legal home opening w → w.stage t ≡ Undoing → (u q : ℕ) → writes (w.active u) q ≡ true → is_top ((undone w t r).changes q) u ≡ true
undo_last home opening w t r s back u q h = let g = s.running u q (writes_touches (w.active u) q h) in let v = top_compensated (w.changes q) t u (w.counter + 1) in let l = s.last u q h in grind (arith, g, v, l)

undo_has : (w : World) (t r u q : ℕ) → has ((undone w t r).changes q) u ≡ has (w.changes q) u
undo_has w t r u q = let h = has_compensated (w.changes q) t u (w.counter + 1) in grind (arith, h)

undo_drawn : (w : World) (t r u q l : ℕ) → drawn_by ((undone w t r).changes q) u l ≡ drawn_by (w.changes q) u l
undo_drawn w t r u q l = let h = drawn_compensated (w.changes q) t u (w.counter + 1) l in grind (arith, h)

undo_standing : (home : ℕ → ℕ) (opening : ℕ → Option ℕ) (w : World) (t r : ℕ) → Legal home opening w → w.stage t ≡ Undoing → (u q : ℕ) → w.stage u ≡ Forward → all_stand ((undone w t r).changes q) u ≡ true
undo_standing home opening w t r s back u q go = let h = stand_compensated (w.changes q) t u (w.counter + 1) in let k = s.standing u q go in grind (arith, h, k)

undo_ended : (home : ℕ → ℕ) (opening : ℕ → Option ℕ) (w : World) (t r : ℕ) → Legal home opening w → w.stage t ≡ Undoing → (u q : ℕ) → w.stage u ≡ Ended → all_undone_by ((undone w t r).changes q) u (w.flushed (home u)) ≡ true
undo_ended home opening w t r s back u q go = let h = undone_compensated (w.changes q) t u (w.counter + 1) (w.flushed (home u)) in let k = s.ended u q go in grind (arith, h, k)

undo_plain : (home : ℕ → ℕ) (opening : ℕ → Option ℕ) (w : World) (t r q : ℕ) → plain_now home opening (undone w t r) q ≡ plain_now home opening w q
undo_plain home opening w t r q = let h = plain_compensated (w.changes q) t (w.counter + 1) (λ u. is_committed home w u) (opening q) in grind (arith, h)

pub kept_undo : (home : ℕ → ℕ) (opening : ℕ → Option ℕ) (w : World) (t r : ℕ) → Legal home opening w → w.stage t ≡ Undoing → Legal home opening (undone w t r)
kept_undo home opening w t r s back = record {
  flushed = grind (arith, s.flushed);
  drawn = λ u q. undo_drawn w t r u q (w.counter + 1) ∙ drawn_more (w.changes q) u w.counter (w.counter + 1) (omega arith) (s.drawn u q);
  decided = grind (arith, s.decided);
  covered = λ u q l e. undo_drawn w t r u q l ∙ s.covered u q l e;
  deciding = s.deciding;
  fresh = λ u q e. undo_has w t r u q ∙ s.fresh u q e;
  running = s.running;
  unanswered = s.unanswered;
  touched = s.touched;
  written = s.written;
  held = λ u q up h d. s.held u q up (sym (undo_has w t r u q) ∙ h) d;
  standing = undo_standing home opening w t r s back;
  only = λ u q h g d. s.only u q (sym (undo_has w t r u q) ∙ h) g d;
  last = undo_last home opening w t r s back;
  own = λ u q h. undo_own home opening w t r s back u q h ∙ s.own u q h;
  ended = undo_ended home opening w t r s back;
  listed = s.listed;
  once = s.once;
  legal = s.legal;
  history = s.history;
  stands = stands_from home opening (undone w t r) (λ u q l e. undo_drawn w t r u q l ∙ s.covered u q l e) (λ q. undo_plain home opening w t r q ∙ plain_stands home opening w s q);
}

pub kept_end : (home : ℕ → ℕ) (opening : ℕ → Option ℕ) (w : World) (t : ℕ) → Legal home opening w → w.stage t ≡ Undoing → ((r : ℕ) → all_undone_by (w.changes r) t (w.flushed (home t)) ≡ true) → Legal home opening (ended w t)
kept_end home opening w t s back all = record {
  flushed = s.flushed;
  drawn = s.drawn;
  decided = s.decided;
  covered = s.covered;
  deciding = grind (arith, s.deciding);
  fresh = grind (arith, s.fresh);
  running = grind (arith, s.running);
  unanswered = s.unanswered;
  touched = s.touched;
  written = s.written;
  held = grind (arith, s.held);
  standing = grind (arith, s.standing);
  only = grind (arith, s.only);
  last = s.last;
  own = s.own;
  ended = grind (arith, s.ended);
  listed = s.listed;
  once = s.once;
  legal = s.legal;
  history = s.history;
  stands = s.stands;
}

pub kept_claims : (home : ℕ → ℕ) (opening : ℕ → Option ℕ) (w : World) (claim : ℕ → ℕ → Option Mode) → Legal home opening w → KeepsClaims home w claim → Legal home opening (record w { claim = claim })
kept_claims home opening w claim s keeps = record {
  flushed = s.flushed;
  drawn = s.drawn;
  decided = s.decided;
  covered = s.covered;
  deciding = s.deciding;
  fresh = s.fresh;
  running = s.running;
  unanswered = s.unanswered;
  touched = keeps.0;
  written = λ t r h. keeps.1 t r (top_has (w.changes r) t (s.last t r h)) (let g = s.running t r (writes_touches (w.active t) r h) in let c = s.unanswered t r (writes_touches (w.active t) r h) in grind (arith, g, c));
  held = λ t r up h d. keeps.1 t r h d;
  standing = s.standing;
  only = s.only;
  last = s.last;
  own = s.own;
  ended = s.ended;
  listed = s.listed;
  once = s.once;
  legal = s.legal;
  history = s.history;
  stands = s.stands;
}

pub kept_reopen : (home : ℕ → ℕ) (opening : ℕ → Option ℕ) (w : World) → Legal home opening w → ((t r : ℕ) → has (w.changes r) t ≡ true → is_done home w t ≡ true) → Legal home opening (reopened w)
kept_reopen home opening w s all = record {
  flushed = s.flushed;
  drawn = s.drawn;
  decided = s.decided;
  covered = s.covered;
  deciding = s.deciding;
  fresh = s.fresh;
  running = s.running;
  unanswered = s.unanswered;
  touched = s.touched;
  written = s.written;
  held = λ t r up h d. let e = all t r h in grind (arith, e, d);
  standing = s.standing;
  only = s.only;
  last = s.last;
  own = s.own;
  ended = s.ended;
  listed = s.listed;
  once = s.once;
  legal = s.legal;
  history = s.history;
  stands = s.stands;
}
