-- Every run keeps every page good.
use Rattle.std.proofs.Common.{◌≡◌, ℕ, ◌+◌, ◌<◌, refl, sym, subst, arith, Bool, true, false, [], ◌∷◌, Option, Some, None}
use Rattle.std.specs.Prelude.{◌≢◌, ◌==◌, if◌then◌else◌}
use Rattle.std.proofs.lemmas.Bool.{cond_both}
use Rattle.page_protocol.specs.Page.{Page, Group, Failed, put, read, change, owned_whole, given_up}
use Rattle.page_protocol.specs.Moves.{World, PageMove, Move, Read, ReadDisk, Write, WriteDirect, CastoutRead, CastoutWrite, CastoutDone, Reclaim, DropFrame, Lock, Unlock, Redo, PutAside, Purge, Rebuild, At, Draw, Force, TakeSet, YieldSet, PurgeSet, Lose, ReadLog, Rebuilt, Fail, Restart, Open, GroupFail, Forward, Compensate, Append, Rise, PageStep, Step, MayUse, MayBeDirect, IsWholeCut, drawn, all_failed, start}
use Rattle.page_protocol.specs.Page.{all_fail}
use Rattle.page_protocol.specs.Coherent.{Coherent}
use Rattle.page_protocol.specs.Down.{Grounded}
use Rattle.page_protocol.specs.Always.{Stands, Ordered, Numbered, Good, AlwaysGood}
use Rattle.page_protocol.proofs.Steps.{kept_read_none, kept_read_some, kept_read_disk, kept_write, kept_write_direct, kept_castout_read, kept_castout_write, kept_castout_done, kept_reclaim, kept_drop_frame, kept_lock, kept_unlock, kept_redo, kept_put_aside, kept_purge, no_earlier, kept_rebuild, kept_lose, kept_take_set, kept_yield_set, kept_purge_set}
use Rattle.page_protocol.proofs.Whole.{kept_force, kept_log_read, all_read, kept_rebuilt, kept_restart, kept_open, kept_change, kept_drawn, kept_fail, kept_start}
use Rattle.page_protocol.proofs.Down.{falls, falls_again, forwards, compensates, waits, rises}
use Rattle.page_protocol.proofs.Order.{ordered_change, ordered_compensate, ordered_fail, ordered_all_fail, numbered_change, numbered_drawn, numbered_compensate, numbered_longer, numbered_same, numbered_all_fail}

kept_read : (g : Group) (p : Page) (m : ℕ) (d : Bool) (o : Option ℕ) → p.bytes ≡ o → Coherent g p → g.lost ≡ false → g.status m ≢ Failed → MayUse p m → MayBeDirect g p m d → Coherent g (read p m d)
kept_read g p m d None e s there up may direct = kept_read_none g p m d s there up may direct e
kept_read g p m d (Some v) e s there up may direct = kept_read_some g p m v d s there up may e

kept_page : (g : Group) (p q : Page) (e : PageMove) → Coherent g p → PageStep g p e q → Coherent g q
kept_page g p q (Read m d) s st = subst (Coherent g) (sym st.4) (kept_read g p m d p.bytes refl s st.0 st.1 st.2 st.3)
kept_page g p q (ReadDisk m) s st = subst (Coherent g) (sym st.3) (kept_read_disk g p m s st.0 st.1 st.2)
kept_page g p q (Write m) s st = subst (Coherent g) (sym st.4) (kept_write g p m s st.0 st.1 st.2 st.3)
kept_page g p q (WriteDirect m) s st = subst (Coherent g) (sym st.4) (kept_write_direct g p m s st.0 st.1 st.2 st.3)
kept_page g p q (CastoutRead m v) s st = subst (Coherent g) (sym st.4) (kept_castout_read g p m v s st.0 st.1 st.2)
kept_page g p q (CastoutWrite m) s st = subst (Coherent g) (sym st.1) (kept_castout_write g p m s st.0)
kept_page g p q (CastoutDone m) s st = subst (Coherent g) (sym st.2) (kept_castout_done g p m s st.0 st.1)
kept_page g p q Reclaim s st = subst (Coherent g) (sym st.2) (kept_reclaim g p s st.0 st.1)
kept_page g p q (DropFrame m) s st = subst (Coherent g) (sym st.1) (kept_drop_frame g p m s st.0)
kept_page g p q (Lock m) s st = subst (Coherent g) (sym st.2) (kept_lock g p m s st.0 st.1)
kept_page g p q (Unlock m) s st = subst (Coherent g) (sym st.4) (kept_unlock g p m s st.0 st.1 st.2 st.3)
kept_page g p q (Redo m) s st = subst (Coherent g) (sym st.4) (kept_redo g p m s st.0 st.1)
kept_page g p q (PutAside m) s st = subst (Coherent g) (sym st.3) (kept_put_aside g p m s st.0 st.1 st.2)
kept_page g p q (Purge m) s st = subst (Coherent g) (sym st.5) (kept_purge g p m s st.0 st.1 st.2 st.3 st.4)
kept_page g p q (Rebuild n) s st = subst (Coherent g) (sym st.2) (kept_rebuild g p n s st.0 st.1 (no_earlier g p n s st.0 st.1))

ordered_page : (g : Group) (p q : Page) (e : PageMove) → Ordered p → PageStep g p e q → Ordered q
ordered_page g p q (Read m d) s st = subst Ordered (sym st.4) s
ordered_page g p q (ReadDisk m) s st = subst Ordered (sym st.3) s
ordered_page g p q (Write m) s st = subst Ordered (sym st.4) s
ordered_page g p q (WriteDirect m) s st = subst Ordered (sym st.4) s
ordered_page g p q (CastoutRead m v) s st = subst Ordered (sym st.4) s
ordered_page g p q (CastoutWrite m) s st = subst Ordered (sym st.1) s
ordered_page g p q (CastoutDone m) s st = subst Ordered (sym st.2) s
ordered_page g p q Reclaim s st = subst Ordered (sym st.2) s
ordered_page g p q (DropFrame m) s st = subst Ordered (sym st.1) s
ordered_page g p q (Lock m) s st = subst Ordered (sym st.2) s
ordered_page g p q (Unlock m) s st = subst Ordered (sym st.4) s
ordered_page g p q (Redo m) s st = subst Ordered (sym st.4) s
ordered_page g p q (PutAside m) s st = subst Ordered (sym st.3) s
ordered_page g p q (Purge m) s st = subst Ordered (sym st.5) s
ordered_page g p q (Rebuild n) s st = subst Ordered (sym st.2) s

numbered_page : (g : Group) (p q : Page) (e : PageMove) → Numbered g p → PageStep g p e q → Numbered g q
numbered_page g p q (Read m d) s st = subst (Numbered g) (sym st.4) (numbered_same g g p _ refl (omega arith) refl s)
numbered_page g p q (ReadDisk m) s st = subst (Numbered g) (sym st.3) (numbered_same g g p _ refl (omega arith) refl s)
numbered_page g p q (Write m) s st = subst (Numbered g) (sym st.4) (numbered_same g g p _ refl (omega arith) refl s)
numbered_page g p q (WriteDirect m) s st = subst (Numbered g) (sym st.4) (numbered_same g g p _ refl (omega arith) refl s)
numbered_page g p q (CastoutRead m v) s st = subst (Numbered g) (sym st.4) (numbered_same g g p _ refl (omega arith) refl s)
numbered_page g p q (CastoutWrite m) s st = subst (Numbered g) (sym st.1) (numbered_same g g p _ refl (omega arith) refl s)
numbered_page g p q (CastoutDone m) s st = subst (Numbered g) (sym st.2) (numbered_same g g p _ refl (omega arith) refl s)
numbered_page g p q Reclaim s st = subst (Numbered g) (sym st.2) (numbered_same g g p _ refl (omega arith) refl s)
numbered_page g p q (DropFrame m) s st = subst (Numbered g) (sym st.1) (numbered_same g g p _ refl (omega arith) refl s)
numbered_page g p q (Lock m) s st = subst (Numbered g) (sym st.2) (numbered_same g g p _ refl (omega arith) refl s)
numbered_page g p q (Unlock m) s st = subst (Numbered g) (sym st.4) (numbered_same g g p _ refl (omega arith) refl s)
numbered_page g p q (Redo m) s st = subst (Numbered g) (sym st.4) (numbered_same g g p _ refl (omega arith) refl s)
numbered_page g p q (PutAside m) s st = subst (Numbered g) (sym st.3) (numbered_same g g p _ refl (omega arith) refl s)
numbered_page g p q (Purge m) s st = subst (Numbered g) (sym st.5) (numbered_same g g p _ refl (omega arith) refl s)
numbered_page g p q (Rebuild n) s st = subst (Numbered g) (sym st.2) (numbered_same g g p _ refl (omega arith) refl s)

-- one page changes, and the others have what they had
at_page : (P : Page → Type 0) (pages : ℕ → Page) (n : ℕ) (q : Page) → P q → ((k : ℕ) → P (pages k)) → (k : ℕ) → P (put pages n q k)
at_page P pages n q new old k = cond_both (k == n) q (pages k) P (λ e. new) (λ e. old k)

-- several pages change
at_pages : (P : Page → Type 0) (pages : ℕ → Page) (touched : ℕ → Bool) (f : Page → Page) → ((n : ℕ) → touched n ≡ true → P (f (pages n))) → ((n : ℕ) → P (pages n)) → (n : ℕ) → P (if touched n then f (pages n) else pages n)
at_pages P pages touched f new old n = cond_both (touched n) (f (pages n)) (pages n) P (new n) (λ e. old n)

running : (b : Bool) (g : Group) (p : Page) → b ≡ false → Stands b g p → Coherent g p
running b g p e s = subst (λ x. Stands x g p) e s

fallen : (b : Bool) (g : Group) (p : Page) → b ≡ true → Stands b g p → Grounded g p
fallen b g p e s = subst (λ x. Stands x g p) e s

fall : (b : Bool) (g : Group) (p : Page) (n counter : ℕ) → Stands b g p → IsWholeCut g p n → Grounded (all_failed g counter) (all_fail p n)
fall true g p n counter s cut = falls_again g p n counter s cut
fall false g p n counter s cut = falls g p n counter s cut

pub all_running : (w : World) → w.down ≡ false → Good w → (n : ℕ) → Coherent w.group (w.pages n)
all_running w up s n = running w.down w.group (w.pages n) up (s.stands n)

pub all_fallen : (w : World) → w.down ≡ true → Good w → (n : ℕ) → Grounded w.group (w.pages n)
all_fallen w up s n = fallen w.down w.group (w.pages n) up (s.stands n)

-- a change stands behind all that its log has of the page
pub behind : (g : Group) (p : Page) (m : ℕ) → Coherent g p → (i : ℕ) → i < p.last → p.author i ≡ m → p.place i < g.written m
behind g p m s i lt e = subst (λ a. p.place i < g.written a) e (s.written i lt)

behind_stable : (g : Group) (p : Page) (m : ℕ) → Grounded g p → (i : ℕ) → i < p.last → p.author i ≡ m → p.place i < g.stable m
behind_stable g p m s i lt e = subst (λ a. p.place i < g.stable a) e (s.all_stable i lt)

pub kept_step : (set : ℕ → ℕ) (w v : World) (e : Move) → Good w → Step set w e v → Good v
kept_step set w v (At n e) s st = subst Good (sym st.1.2) (record {
  stands = at_page (Coherent w.group) w.pages n st.1.0 (kept_page w.group (w.pages n) st.1.0 e (all_running w st.0 s n) st.1.1) (all_running w st.0 s);
  ordered = at_page Ordered w.pages n st.1.0 (ordered_page w.group (w.pages n) st.1.0 e (s.ordered n) st.1.1) s.ordered;
  numbered = at_page (Numbered w.group) w.pages n st.1.0 (numbered_page w.group (w.pages n) st.1.0 e (s.numbered n) st.1.1) s.numbered;
})
kept_step set w v (Draw m touched) s st = subst Good (sym st.2) (record {
  stands = at_pages (Coherent (drawn w.group m)) w.pages touched (λ p. change p m (w.group.written m) (w.group.counter + 1)) (λ n t. kept_change w.group (w.pages n) m (all_running w st.0 s n) (st.1 n t)) (λ n. kept_drawn w.group (w.pages n) m (all_running w st.0 s n));
  ordered = at_pages Ordered w.pages touched (λ p. change p m (w.group.written m) (w.group.counter + 1)) (λ n t. ordered_change (w.pages n) m (w.group.written m) (w.group.counter + 1) (behind w.group (w.pages n) m (all_running w st.0 s n)) (s.ordered n)) s.ordered;
  numbered = at_pages (Numbered (drawn w.group m)) w.pages touched (λ p. change p m (w.group.written m) (w.group.counter + 1)) (λ n t. numbered_change w.group (w.pages n) m (w.group.written m) (s.numbered n)) (λ n. numbered_drawn w.group (w.pages n) m (s.numbered n));
})
kept_step set w v (Force m k) s st = subst Good (sym st.3) (record { stands = λ n. kept_force w.group (w.pages n) m k (all_running w st.0 s n) st.1 st.2; ordered = s.ordered; numbered = λ n. numbered_same w.group _ (w.pages n) _ refl (omega arith) refl (s.numbered n) })
kept_step set w v (TakeSet t m) s st = subst Good (sym st.3) (record {
  stands = at_pages (Coherent w.group) w.pages (λ n. set n == t) (λ p. owned_whole p m) (λ n is. kept_take_set w.group (w.pages n) m (all_running w st.0 s n) st.1 (st.2 n is)) (all_running w st.0 s);
  ordered = at_pages Ordered w.pages (λ n. set n == t) (λ p. owned_whole p m) (λ n is. s.ordered n) s.ordered;
  numbered = at_pages (Numbered w.group) w.pages (λ n. set n == t) (λ p. owned_whole p m) (λ n is. numbered_same w.group w.group (w.pages n) _ refl (omega arith) refl (s.numbered n)) s.numbered;
})
kept_step set w v (YieldSet t m) s st = subst Good (sym st.2) (record {
  stands = at_pages (Coherent w.group) w.pages (λ n. set n == t) given_up (λ n is. kept_yield_set w.group (w.pages n) m (all_running w st.0 s n) (st.1 n is)) (all_running w st.0 s);
  ordered = at_pages Ordered w.pages (λ n. set n == t) given_up (λ n is. s.ordered n) s.ordered;
  numbered = at_pages (Numbered w.group) w.pages (λ n. set n == t) given_up (λ n is. numbered_same w.group w.group (w.pages n) _ refl (omega arith) refl (s.numbered n)) s.numbered;
})
kept_step set w v (PurgeSet t m) s st = subst Good (sym st.2) (record {
  stands = at_pages (Coherent w.group) w.pages (λ n. set n == t) given_up (λ n is. kept_purge_set w.group (w.pages n) m (all_running w st.0 s n) (st.1 n is)) (all_running w st.0 s);
  ordered = at_pages Ordered w.pages (λ n. set n == t) given_up (λ n is. s.ordered n) s.ordered;
  numbered = at_pages (Numbered w.group) w.pages (λ n. set n == t) given_up (λ n is. numbered_same w.group w.group (w.pages n) _ refl (omega arith) refl (s.numbered n)) s.numbered;
})
kept_step set w v Lose s st = subst Good (sym st.2) (record { stands = λ n. kept_lose w.group (w.pages n) (all_running w st.0 s n); ordered = s.ordered; numbered = λ n. numbered_same w.group _ (w.pages n) _ refl (omega arith) refl (s.numbered n) })
kept_step set w v (ReadLog m) s st = subst Good (sym st.2) (record { stands = λ n. kept_log_read w.group (w.pages n) m (all_running w st.0 s n); ordered = s.ordered; numbered = λ n. numbered_same w.group _ (w.pages n) _ refl (omega arith) refl (s.numbered n) })
kept_step set w v Rebuilt s st = subst Good (sym st.3) (record {
  stands = λ n. kept_rebuilt w.group (w.pages n) (all_running w st.0 s n) st.1 (all_read w.group (w.pages n) (all_running w st.0 s n) st.1 (st.2 n));
  ordered = s.ordered;
  numbered = λ n. numbered_same w.group _ (w.pages n) _ refl (omega arith) refl (s.numbered n);
})
kept_step set w v (Fail m cut) s st = subst Good (sym st.2) (record {
  stands = λ n. kept_fail w.group (w.pages n) m (cut n) (all_running w st.0 s n) (st.1 n);
  ordered = λ n. ordered_fail (w.pages n) m (cut n) (st.1 n).short (s.ordered n);
  numbered = λ n. numbered_same w.group _ (w.pages n) _ refl (st.1 n).short refl (s.numbered n);
})
kept_step set w v (Restart m) s st = subst Good (sym st.2) (record { stands = λ n. kept_restart w.group (w.pages n) m (all_running w st.0 s n) st.1; ordered = s.ordered; numbered = λ n. numbered_same w.group _ (w.pages n) _ refl (omega arith) refl (s.numbered n) })
kept_step set w v (Open m) s st = subst Good (sym st.3) (record { stands = λ n. kept_open w.group (w.pages n) m (all_running w st.0 s n) st.1 (st.2 n); ordered = s.ordered; numbered = λ n. numbered_same w.group _ (w.pages n) _ refl (omega arith) refl (s.numbered n) })
kept_step set w v (GroupFail cut counter) s st = subst Good (sym st.2) (record {
  stands = λ n. fall w.down w.group (w.pages n) (cut n) counter (s.stands n) (st.0 n);
  ordered = λ n. ordered_all_fail (w.pages n) (cut n) (st.0 n).short (s.ordered n);
  numbered = λ n. numbered_all_fail w.group (w.pages n) (cut n) counter (st.0 n).short (st.1 n) (s.numbered n);
})
kept_step set w v (Forward n k) s st = subst Good (sym st.3) (record {
  stands = at_page (Grounded w.group) w.pages n _ (forwards w.group (w.pages n) k (all_fallen w st.0 s n) st.1 st.2) (all_fallen w st.0 s);
  ordered = at_page Ordered w.pages n _ (s.ordered n) s.ordered;
  numbered = at_page (Numbered w.group) w.pages n _ (numbered_same w.group w.group (w.pages n) _ refl (omega arith) refl (s.numbered n)) s.numbered;
})
kept_step set w v (Compensate n m) s st = subst Good (sym st.1) (record {
  stands = at_page (Grounded _) w.pages n _ (compensates w.group (w.pages n) m (all_fallen w st.0 s n)) (λ k. waits w.group (w.pages k) m (all_fallen w st.0 s k));
  ordered = at_page Ordered w.pages n _ (ordered_compensate (w.pages n) m (w.group.stable m) (w.group.counter + 1) (behind_stable w.group (w.pages n) m (all_fallen w st.0 s n)) (s.ordered n)) s.ordered;
  numbered = at_page (Numbered _) w.pages n _ (numbered_compensate w.group (w.pages n) m (w.group.stable m) (s.numbered n)) (λ k. numbered_longer w.group (w.pages k) m (s.numbered k));
})
kept_step set w v (Append m) s st = subst Good (sym st.1) (record { stands = λ n. waits w.group (w.pages n) m (all_fallen w st.0 s n); ordered = s.ordered; numbered = λ n. numbered_longer w.group (w.pages n) m (s.numbered n) })
kept_step set w v Rise s st = subst Good (sym st.2) (record { stands = λ n. rises w.group (w.pages n) (all_fallen w st.0 s n) (st.1 n); ordered = s.ordered; numbered = λ n. numbered_same w.group _ (w.pages n) _ refl (omega arith) refl (s.numbered n) })

pub always : AlwaysGood
always set [] w v s run = subst Good (sym run) s
always set (e ∷ es) w v s run = always set es run.0 v (kept_step set w run.0 e s run.1) run.2

pub starts : Good start
starts = record { stands = λ n. kept_start; ordered = λ n i j a b. absurd (none j b); numbered = λ n. record { rise = λ i j a b. absurd (none j b); drawn = λ i b. absurd (none i b); positive = λ i b. absurd (none i b) } }
  where
    none : (j : ℕ) → j < 0 → ⊥
    none j h = omega (arith, h)
