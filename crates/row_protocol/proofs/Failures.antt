-- What failures keep.
use Rattle.std.proofs.Common.{◌≡◌, ℕ, ◌≤◌, refl, sym, ◌∙◌, arith, Bool, true, false, Option, Some, None}
use Rattle.std.specs.Prelude.{leb, not, ◌&&◌}
use Rattle.row_protocol.specs.Rows.{rows_after, writes, touches, replay}
use Rattle.row_protocol.specs.Log.{is_top, kept_mark}
use Rattle.row_protocol.specs.Machine.{World, Stage, Waiting, Forward, Undoing, Ended, stage_after, is_committed, is_stable, is_done, is_ended, row_now, on_disk, cut_off, group_failed}
use Rattle.row_protocol.specs.Legal.{Legal}
use Rattle.row_protocol.proofs.Frames.{writes_touches}
use Rattle.row_protocol.proofs.Lists.{plain_agree, plain_without, top_without, value_without, has_without, stand_without, drawn_without, drawn_left, undone_without}
use Rattle.row_protocol.proofs.Kept.{IsCovered, covered_now, plain_now, plain_stands, stands_from}

-- ---- a commit record
kept_stable : (c : Option ℕ) (f : ℕ) → is_stable (kept_mark c (λ l. not (leb l f))) f ≡ is_stable c f
kept_stable None f = refl
kept_stable (Some l) f = grind arith

kept_some : (c : Option ℕ) (lost : ℕ → Bool) (l : ℕ) → kept_mark c lost ≡ Some l → c ≡ Some l
kept_some None lost l e = e
kept_some (Some k) lost l e = grind arith

kept_on_disk : (c : Option ℕ) (f l : ℕ) → kept_mark c (λ l. not (leb l f)) ≡ Some l → l ≤ f
kept_on_disk None f l e = cc
kept_on_disk (Some k) f l e = grind arith

kept_is_stable : (c : Option ℕ) (f l : ℕ) → kept_mark c (λ l. not (leb l f)) ≡ Some l → is_stable c f ≡ true
kept_is_stable None f l e = cc
kept_is_stable (Some k) f l e = grind arith

-- ---- stages
stage_waiting : (s : Stage) (b : Bool) → stage_after s b ≡ Waiting → s ≡ Waiting
stage_waiting Waiting b e = e
stage_waiting Forward b e = grind arith
stage_waiting Undoing b e = e
stage_waiting Ended b e = e

stage_forward : (s : Stage) (b : Bool) → stage_after s b ≡ Forward → s ≡ Forward
stage_forward Waiting b e = e
stage_forward Forward b e = refl
stage_forward Undoing b e = e
stage_forward Ended b e = e

stage_kept : (s : Stage) (b : Bool) → stage_after s b ≡ Forward → b ≡ true
stage_kept Waiting b e = cc
stage_kept Forward b e = grind arith
stage_kept Undoing b e = cc
stage_kept Ended b e = cc

stage_ended : (s : Stage) (b : Bool) → stage_after s b ≡ Ended → s ≡ Ended
stage_ended Waiting b e = e
stage_ended Forward b e = grind arith
stage_ended Undoing b e = e
stage_ended Ended b e = e

ended_same : (s : Stage) (b : Bool) → is_ended (stage_after s b) ≡ is_ended s
ended_same Waiting b = refl
ended_same Forward b = grind arith
ended_same Undoing b = refl
ended_same Ended b = refl

-- ---- what is left
abbrev lost_of : (ℕ → ℕ) → World → (ℕ → Bool) → ℕ → ℕ → Bool
lost_of home w fails t l = fails (home t) && not (on_disk home w t l)

not_lost : (home : ℕ → ℕ) (w : World) (fails : ℕ → Bool) (t l : ℕ) → l ≤ w.flushed (home t) → lost_of home w fails t l ≡ false
not_lost home w fails t l le = grind arith

not_hit : (home : ℕ → ℕ) (w : World) (fails : ℕ → Bool) (t l : ℕ) → fails (home t) ≡ false → lost_of home w fails t l ≡ false
not_hit home w fails t l h = grind arith

pub cut_same : (home : ℕ → ℕ) (w : World) (fails : ℕ → Bool) (u : ℕ) → is_committed home (cut_off home w fails) u ≡ is_committed home w u
cut_same home w fails u = let k = kept_stable (w.commit u) (w.flushed (home u)) in grind (arith, k)

pub cut_commit : (home : ℕ → ℕ) (w : World) (fails : ℕ → Bool) (t l : ℕ) → (cut_off home w fails).commit t ≡ Some l → w.commit t ≡ Some l
cut_commit home w fails t l = let k = kept_some (w.commit t) (λ l. not (on_disk home w t l)) l in grind (arith, k)

cut_deciding : (home : ℕ → ℕ) (opening : ℕ → Option ℕ) (w : World) (fails : ℕ → Bool) → Legal home opening w → (t l : ℕ) → (cut_off home w fails).commit t ≡ Some l → (cut_off home w fails).stage t ≡ Forward
cut_deciding home opening w fails s t l e = let k = kept_is_stable (w.commit t) (w.flushed (home t)) l in let d = s.deciding t l (cut_commit home w fails t l e) in grind (arith, k, d, e)

cut_waiting : (home : ℕ → ℕ) (w : World) (fails : ℕ → Bool) (t : ℕ) → (cut_off home w fails).stage t ≡ Waiting → w.stage t ≡ Waiting
cut_waiting home w fails t = let k = stage_waiting (w.stage t) (is_committed home w t) in grind (arith, k)

cut_forward : (home : ℕ → ℕ) (w : World) (fails : ℕ → Bool) (t : ℕ) → (cut_off home w fails).stage t ≡ Forward → w.stage t ≡ Forward
cut_forward home w fails t = let k = stage_forward (w.stage t) (is_committed home w t) in grind (arith, k)

cut_ended : (home : ℕ → ℕ) (w : World) (fails : ℕ → Bool) (t : ℕ) → (cut_off home w fails).stage t ≡ Ended → w.stage t ≡ Ended
cut_ended home w fails t = let k = stage_ended (w.stage t) (is_committed home w t) in grind (arith, k)

cut_going : (home : ℕ → ℕ) (w : World) (fails : ℕ → Bool) (t : ℕ) → (cut_off home w fails).stage t ≡ Forward → is_committed home w t ≡ false → fails (home t) ≡ false
cut_going home w fails t e n = let k = stage_kept (w.stage t) (is_committed home w t) in grind (arith, k)

pub cut_done : (home : ℕ → ℕ) (w : World) (fails : ℕ → Bool) (t : ℕ) → is_done home (cut_off home w fails) t ≡ is_done home w t
cut_done home w fails t = let e = ended_same (w.stage t) (is_committed home w t) in let c = cut_same home w fails t in grind (arith, e, c)

cut_active : (home : ℕ → ℕ) (w : World) (fails : ℕ → Bool) (t r : ℕ) → touches ((cut_off home w fails).active t) r ≡ true → fails (home t) ≡ false
cut_active home w fails t r = grind arith

cut_own : (home : ℕ → ℕ) (opening : ℕ → Option ℕ) (w : World) (fails : ℕ → Bool) → Legal home opening w → (u r : ℕ) → fails (home u) ≡ false → writes (w.active u) r ≡ true → row_now opening (cut_off home w fails) r ≡ row_now opening w r
cut_own home opening w fails s u r away h = value_without (w.changes r) (lost_of home w fails) u (opening r) (λ l. not_hit home w fails u l away) (s.last u r h) (s.standing u r (s.running u r (writes_touches (w.active u) r h)))

cut_last : (home : ℕ → ℕ) (opening : ℕ → Option ℕ) (w : World) (fails : ℕ → Bool) → Legal home opening w → (u r : ℕ) → fails (home u) ≡ false → writes (w.active u) r ≡ true → is_top ((cut_off home w fails).changes r) u ≡ true
cut_last home opening w fails s u r away h = top_without (w.changes r) (lost_of home w fails) u (λ l. not_hit home w fails u l away) (s.last u r h)

cut_plain : (home : ℕ → ℕ) (opening : ℕ → Option ℕ) (w : World) (fails : ℕ → Bool) → Legal home opening w → (r : ℕ) → plain_now home opening (cut_off home w fails) r ≡ plain_now home opening w r
cut_plain home opening w fails s r = plain_agree ((cut_off home w fails).changes r) _ _ (opening r) (λ u h. cut_same home w fails u)
    ∙ plain_without (w.changes r) (lost_of home w fails) (λ t. w.flushed (home t)) (λ t. is_committed home w t) (opening r) (covered_now home w r s.covered) (λ t l le. not_lost home w fails t l le)

cut_covered : (home : ℕ → ℕ) (opening : ℕ → Option ℕ) (w : World) (fails : ℕ → Bool) → Legal home opening w → IsCovered (cut_off home w fails)
cut_covered home opening w fails s t r l e = drawn_without (w.changes r) (lost_of home w fails) t l (s.covered t r l (cut_commit home w fails t l e))

cut_writes : (home : ℕ → ℕ) (w : World) (fails : ℕ → Bool) (t r : ℕ) → writes ((cut_off home w fails).active t) r ≡ true → writes (w.active t) r ≡ true
cut_writes home w fails t r = grind arith

cut_away : (home : ℕ → ℕ) (w : World) (fails : ℕ → Bool) (t r : ℕ) → writes ((cut_off home w fails).active t) r ≡ true → fails (home t) ≡ false
cut_away home w fails t r h = cut_active home w fails t r (writes_touches ((cut_off home w fails).active t) r h)

cut_after : (home : ℕ → ℕ) (opening : ℕ → Option ℕ) (w : World) (fails : ℕ → Bool) → Legal home opening w → (t r : ℕ) → writes ((cut_off home w fails).active t) r ≡ true → row_now opening (cut_off home w fails) r ≡ rows_after ((cut_off home w fails).active t) (replay w.history opening) r
cut_after home opening w fails s t r h = cut_own home opening w fails s t r (cut_away home w fails t r h) (cut_writes home w fails t r h) ∙ (let away = cut_away home w fails t r h in let o = s.own t r (cut_writes home w fails t r h) in grind (arith, away, o))

pub kept_cut : (home : ℕ → ℕ) (opening : ℕ → Option ℕ) (w : World) (fails : ℕ → Bool) → Legal home opening w → Legal home opening (cut_off home w fails)
kept_cut home opening w fails s = record {
  flushed = s.flushed;
  drawn = λ t r. drawn_without (w.changes r) (lost_of home w fails) t w.counter (s.drawn t r);
  decided = λ t l e. s.decided t l (cut_commit home w fails t l e);
  covered = cut_covered home opening w fails s;
  deciding = cut_deciding home opening w fails s;
  fresh = λ t r e. let k = s.fresh t r (cut_waiting home w fails t e) in let h = has_without (w.changes r) (lost_of home w fails) t in grind (arith, k, h);
  running = λ t r h. let away = cut_active home w fails t r h in let k = s.running t r in grind (arith, away, k, h);
  unanswered = λ t r h. let away = cut_active home w fails t r h in let k = s.unanswered t r in let c = cut_same home w fails t in grind (arith, away, k, c, h);
  touched = λ t r h. let away = cut_active home w fails t r h in let k = s.touched t r in grind (arith, away, k, h);
  written = λ t r h. s.written t r (cut_writes home w fails t r h);
  held = λ t r up h d. s.held t r up (has_without (w.changes r) (lost_of home w fails) t h) (sym (cut_done home w fails t) ∙ d);
  standing = λ t r go. stand_without (w.changes r) (lost_of home w fails) t (s.standing t r (cut_forward home w fails t go));
  only = λ t r h go n. let m = sym (cut_same home w fails t) ∙ n in let away = cut_going home w fails t go m in let k = s.only t r (has_without (w.changes r) (lost_of home w fails) t h) (cut_forward home w fails t go) m in grind (arith, away, k);
  last = λ t r h. cut_last home opening w fails s t r (cut_away home w fails t r h) (cut_writes home w fails t r h);
  own = cut_after home opening w fails s;
  ended = λ t r e. undone_without (w.changes r) (lost_of home w fails) t (w.flushed (home t)) (λ l le. not_lost home w fails t l le) (s.ended t r (cut_ended home w fails t e));
  listed = λ t. s.listed t ∙ sym (cut_same home w fails t);
  once = s.once;
  legal = λ t. let k = s.legal t in grind (arith, k);
  history = s.history;
  stands = stands_from home opening (cut_off home w fails) (cut_covered home opening w fails s) (λ r. cut_plain home opening w fails s r ∙ plain_stands home opening w s r);
}

-- ---- the whole group
on_disk_all : (home : ℕ → ℕ) (w : World) (counter : ℕ) → ((m : ℕ) → w.flushed m ≤ counter) → (t l : ℕ) → lost_of home w (λ k. true) t l ≡ false → l ≤ counter
on_disk_all home w counter h t l e = let f = h (home t) in grind (arith, f, e)

pub kept_group_failed : (home : ℕ → ℕ) (opening : ℕ → Option ℕ) (w : World) (counter : ℕ) → Legal home opening w → ((m : ℕ) → w.flushed m ≤ counter) → Legal home opening (group_failed home w counter)
kept_group_failed home opening w counter s top = let k : Legal home opening (cut_off home w (λ k. true)) = kept_cut home opening w (λ k. true) s in record {
  flushed = top;
  drawn = λ t r. drawn_left (w.changes r) (lost_of home w (λ k. true)) t counter (λ l e. on_disk_all home w counter top t l e);
  decided = λ t l e. let d = kept_on_disk (w.commit t) (w.flushed (home t)) l e in let f = top (home t) in omega (arith, d, f);
  covered = k.covered;
  deciding = k.deciding;
  fresh = k.fresh;
  running = k.running;
  unanswered = k.unanswered;
  touched = λ t r h. cc;
  written = λ t r h. cc;
  held = λ t r up h d. cc;
  standing = k.standing;
  only = k.only;
  last = k.last;
  own = k.own;
  ended = k.ended;
  listed = k.listed;
  once = k.once;
  legal = k.legal;
  history = k.history;
  stands = k.stands;
}
