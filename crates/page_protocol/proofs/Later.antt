-- The shared version and the disk's never go back.
use Rattle.std.proofs.Common.{◌≡◌, ℕ, ◌+◌, ◌≤◌, refl, sym, ◌∙◌, subst, arith, Bool, true, [], ◌∷◌, Some}
use Rattle.std.specs.Prelude.{◌==◌, if◌then◌else◌}
use Rattle.std.proofs.lemmas.Bool.{cond_both, eqb-true}
use Rattle.page_protocol.specs.Page.{Page, Group, put, read, read_disk, write, write_direct, change, castout_read, castout_write, castout_done, reclaim, drop_frame, redo, rebuild, lose, fail, owned, owned_whole, given_up, all_fail, brought_forward, compensate, risen}
use Rattle.page_protocol.specs.Moves.{World, PageMove, Move, Read, ReadDisk, Write, WriteDirect, CastoutRead, CastoutWrite, CastoutDone, Reclaim, DropFrame, Lock, Unlock, Redo, PutAside, Purge, Rebuild, At, Draw, Force, TakeSet, YieldSet, PurgeSet, Lose, ReadLog, Rebuilt, Fail, Restart, Open, GroupFail, Forward, Compensate, Append, Rise, PageStep, Step}
use Rattle.page_protocol.specs.Coherent.{Coherent}
use Rattle.page_protocol.specs.Down.{Grounded}
use Rattle.page_protocol.specs.Always.{Good}
use Rattle.page_protocol.specs.Words.{IsLater, NeverGoesBack, NoEarlierCopy}
use Rattle.page_protocol.proofs.Steps.{no_earlier}
use Rattle.page_protocol.proofs.Runs.{kept_step, all_running, all_fallen, always}

same : (p : Page) → IsLater p p
same p = grind arith

later_trans : (p q r : Page) → IsLater p q → IsLater q r → IsLater p r
later_trans p q r a b = record {
  shared = let x = a.shared in let y = b.shared in omega (arith, x, y);
  disk = let x = a.disk in let y = b.disk in omega (arith, x, y);
  author = λ i lt. b.author i (let x = a.shared in omega (arith, x, lt)) ∙ a.author i lt;
  place = λ i lt. b.place i (let x = a.shared in omega (arith, x, lt)) ∙ a.place i lt;
  lrsn = λ i lt. b.lrsn i (let x = a.shared in omega (arith, x, lt)) ∙ a.lrsn i lt;
}

-- what doesn't touch the chain, the disk and the shared version
later_write : (g : Group) (p : Page) (m : ℕ) → Coherent g p → (p.frame m).marked ≡ true → IsLater p (write p m)
later_write g p m s marked = let a = s.marked_last m marked in let b = s.within in grind (arith, a, b)

later_direct : (g : Group) (p : Page) (m : ℕ) → Coherent g p → (p.frame m).marked ≡ true → IsLater p (write_direct p m)
later_direct g p m s marked = let a = s.marked_last m marked in let b = s.within in let c = s.disk_old in grind (arith, a, b, c)

later_castout : (g : Group) (p : Page) (m : ℕ) → Coherent g p → p.castout ≡ Some m → IsLater p (castout_write p)
later_castout g p m s held = let a = (s.casting m held).no_older in grind (arith, a)

later_rebuild : (g : Group) (p : Page) (n : ℕ) → Coherent g p → p.shared ≤ n → IsLater p (rebuild p n)
later_rebuild g p n s high = let c = s.disk_old in grind (arith, c, high)

later_change : (g : Group) (p : Page) (m at number : ℕ) → Coherent g p → IsLater p (change p m at number)
later_change g p m at number s = let b = s.within in grind (arith, b)

later_compensate : (g : Group) (p : Page) (m at number : ℕ) → Grounded g p → IsLater p (compensate p m at number)
later_compensate g p m at number s = let b = s.shared in grind (arith, b)

later_forward : (p : Page) (v : ℕ) → p.disk ≤ v → IsLater p (brought_forward p v)
later_forward p v low = grind (arith, low)

later_rise : (g : Group) (p : Page) → Grounded g p → IsLater p (risen p)
later_rise g p s = let b = s.shared in grind (arith, b)

later_same : (p q : Page) → q.shared ≡ p.shared → q.disk ≡ p.disk → q.author ≡ p.author → q.place ≡ p.place → q.lrsn ≡ p.lrsn → IsLater p q
later_same p q a b c d e = record { shared = omega (arith, a); disk = omega (arith, b); author = λ i lt. subst (λ f. f i ≡ p.author i) (sym c) refl; place = λ i lt. subst (λ f. f i ≡ p.place i) (sym d) refl; lrsn = λ i lt. subst (λ f. f i ≡ p.lrsn i) (sym e) refl }

later_page : (g : Group) (p q : Page) (e : PageMove) → Coherent g p → PageStep g p e q → IsLater p q
later_page g p q (Read m d) s st = subst (IsLater p) (sym st.4) (later_same p (read p m d) refl refl refl refl refl)
later_page g p q (ReadDisk m) s st = subst (IsLater p) (sym st.3) (later_same p (read_disk p m) refl refl refl refl refl)
later_page g p q (Write m) s st = subst (IsLater p) (sym st.4) (later_write g p m s st.2)
later_page g p q (WriteDirect m) s st = subst (IsLater p) (sym st.4) (later_direct g p m s st.2)
later_page g p q (CastoutRead m v) s st = subst (IsLater p) (sym st.4) (later_same p (castout_read p m v) refl refl refl refl refl)
later_page g p q (CastoutWrite m) s st = subst (IsLater p) (sym st.1) (later_castout g p m s st.0)
later_page g p q (CastoutDone m) s st = subst (IsLater p) (sym st.2) (later_same p (castout_done p) refl refl refl refl refl)
later_page g p q Reclaim s st = subst (IsLater p) (sym st.2) (later_same p (reclaim p) refl refl refl refl refl)
later_page g p q (DropFrame m) s st = subst (IsLater p) (sym st.1) (later_same p (drop_frame p m) refl refl refl refl refl)
later_page g p q (Lock m) s st = subst (IsLater p) (sym st.2) (later_same p (owned p m) refl refl refl refl refl)
later_page g p q (Unlock m) s st = subst (IsLater p) (sym st.4) (later_same p (given_up p) refl refl refl refl refl)
later_page g p q (Redo m) s st = subst (IsLater p) (sym st.4) (later_same p (redo p m) refl refl refl refl refl)
later_page g p q (PutAside m) s st = subst (IsLater p) (sym st.3) (later_same p (drop_frame p m) refl refl refl refl refl)
later_page g p q (Purge m) s st = subst (IsLater p) (sym st.5) (later_same p (given_up p) refl refl refl refl refl)
later_page g p q (Rebuild n) s st = subst (IsLater p) (sym st.2) (later_rebuild g p n s (no_earlier g p n s st.0 st.1))

at_page : (pages : ℕ → Page) (n : ℕ) (q : Page) → IsLater (pages n) q → (k : ℕ) → IsLater (pages k) (put pages n q k)
at_page pages n q new k = cond_both (k == n) q (pages k) (IsLater (pages k)) (λ e. subst (λ x. IsLater (pages x) q) (sym (eqb-true k n e)) new) (λ e. same (pages k))

at_pages : (pages : ℕ → Page) (touched : ℕ → Bool) (f : Page → Page) → ((n : ℕ) → IsLater (pages n) (f (pages n))) → (n : ℕ) → IsLater (pages n) (if touched n then f (pages n) else pages n)
at_pages pages touched f new n = cond_both (touched n) (f (pages n)) (pages n) (IsLater (pages n)) (λ e. new n) (λ e. same (pages n))

abbrev AllLater : World → World → Type 0
AllLater w v = (n : ℕ) → IsLater (w.pages n) (v.pages n)

later_step : (set : ℕ → ℕ) (w v : World) (e : Move) → Good w → Step set w e v → AllLater w v
later_step set w v (At n e) s st = subst (AllLater w) (sym st.1.2) (at_page w.pages n st.1.0 (later_page w.group (w.pages n) st.1.0 e (all_running w st.0 s n) st.1.1))
later_step set w v (Draw m touched) s st = subst (AllLater w) (sym st.2) (at_pages w.pages touched (λ p. change p m (w.group.written m) (w.group.counter + 1)) (λ n. later_change w.group (w.pages n) m (w.group.written m) (w.group.counter + 1) (all_running w st.0 s n)))
later_step set w v (Force m k) s st = subst (AllLater w) (sym st.3) (λ n. same (w.pages n))
later_step set w v (TakeSet t m) s st = subst (AllLater w) (sym st.3) (at_pages w.pages (λ n. set n == t) (λ p. owned_whole p m) (λ n. later_same (w.pages n) (owned_whole (w.pages n) m) refl refl refl refl refl))
later_step set w v (YieldSet t m) s st = subst (AllLater w) (sym st.2) (at_pages w.pages (λ n. set n == t) given_up (λ n. later_same (w.pages n) (given_up (w.pages n)) refl refl refl refl refl))
later_step set w v (PurgeSet t m) s st = subst (AllLater w) (sym st.2) (at_pages w.pages (λ n. set n == t) given_up (λ n. later_same (w.pages n) (given_up (w.pages n)) refl refl refl refl refl))
later_step set w v Lose s st = subst (AllLater w) (sym st.2) (λ n. later_same (w.pages n) (lose (w.pages n)) refl refl refl refl refl)
later_step set w v (ReadLog m) s st = subst (AllLater w) (sym st.2) (λ n. same (w.pages n))
later_step set w v Rebuilt s st = subst (AllLater w) (sym st.3) (λ n. same (w.pages n))
later_step set w v (Fail m cut) s st = subst (AllLater w) (sym st.2) (λ n. later_same (w.pages n) (fail (w.pages n) m (cut n)) refl refl refl refl refl)
later_step set w v (Restart m) s st = subst (AllLater w) (sym st.2) (λ n. same (w.pages n))
later_step set w v (Open m) s st = subst (AllLater w) (sym st.3) (λ n. same (w.pages n))
later_step set w v (GroupFail cut counter) s st = subst (AllLater w) (sym st.2) (λ n. later_same (w.pages n) (all_fail (w.pages n) (cut n)) refl refl refl refl refl)
later_step set w v (Forward n k) s st = subst (AllLater w) (sym st.3) (at_page w.pages n (brought_forward (w.pages n) k) (later_forward (w.pages n) k st.1))
later_step set w v (Compensate n m) s st = subst (AllLater w) (sym st.1) (at_page w.pages n (compensate (w.pages n) m (w.group.stable m) (w.group.counter + 1)) (later_compensate w.group (w.pages n) m (w.group.stable m) (w.group.counter + 1) (all_fallen w st.0 s n)))
later_step set w v (Append m) s st = subst (AllLater w) (sym st.1) (λ n. same (w.pages n))
later_step set w v Rise s st = subst (AllLater w) (sym st.2) (λ n. later_rise w.group (w.pages n) (all_fallen w st.0 s n))

pub never_back : NeverGoesBack
never_back set [] w v s run n = subst (λ x. IsLater (w.pages n) (x.pages n)) (sym run) (same (w.pages n))
never_back set (e ∷ es) w v s run n = later_trans (w.pages n) (run.0.pages n) (v.pages n) (later_step set w run.0 e s run.1 n) (never_back set es run.0 v (kept_step set w run.0 e s run.1) run.2 n)

pub no_earlier_copy : NoEarlierCopy
no_earlier_copy set es w v s run a b n =
    let x = (all_running w a.0 s n).group a.1 in
    let y = (all_running v b.0 (always set es w v s run) n).group b.1 in
    let z = (never_back set es w v s run n).shared in
    omega (arith, x, y, z)
