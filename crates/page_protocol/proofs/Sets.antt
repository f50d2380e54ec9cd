-- Every move keeps page sets whole.
use Rattle.std.proofs.Common.{◌≡◌, ℕ, ◌+◌, refl, sym, ◌∙◌, subst, arith, Bool, true, false, inl, inr, [], ◌∷◌, None}
use Rattle.std.specs.Prelude.{◌==◌, if◌then◌else◌}
use Rattle.std.proofs.lemmas.Bool.{cond_both, eqb-true, cases_Bool, both_ways}
use Rattle.page_protocol.specs.Page.{Page, Group, put, read, read_disk, write, write_direct, change, castout_read, castout_write, castout_done, reclaim, drop_frame, redo, rebuild, lose, fail, owned, owned_whole, given_up, brought_forward, compensate, risen}
use Rattle.page_protocol.specs.Moves.{World, PageMove, Move, Read, ReadDisk, Write, WriteDirect, CastoutRead, CastoutWrite, CastoutDone, Reclaim, DropFrame, Lock, Unlock, Redo, PutAside, Purge, Rebuild, At, Draw, Force, TakeSet, YieldSet, PurgeSet, Lose, ReadLog, Rebuilt, Fail, Restart, Open, GroupFail, Forward, Compensate, Append, Rise, PageStep, Step}
use Rattle.page_protocol.specs.Coherent.{Coherent}
use Rattle.page_protocol.specs.Always.{Good}
use Rattle.page_protocol.specs.Sets.{SetsAgree, AlwaysAgree}
use Rattle.page_protocol.proofs.Runs.{kept_step, all_running}

record IsHeldSame (p q : Page) : Type 0 where
  sole : q.sole ≡ p.sole
  owner : p.sole ≡ true → q.owner ≡ p.owner

held : (p q : Page) → q.sole ≡ p.sole → q.owner ≡ p.owner → IsHeldSame p q
held p q a b = record { sole = a; owner = λ _. b }

held_part : (p : Page) → p.sole ≡ false → IsHeldSame p (given_up p)
held_part p e = record { sole = sym e; owner = λ h. absurd (both_ways p.sole e h) }

held_lock : (g : Group) (p : Page) (m : ℕ) → Coherent g p → p.owner ≡ None → IsHeldSame p (owned p m)
held_lock g p m s free = record { sole = refl; owner = λ h. absurd (both_ways p.sole (s.unowned free) h) }

held_page : (g : Group) (p q : Page) (e : PageMove) → Coherent g p → PageStep g p e q → IsHeldSame p q
held_page g p q (Read m d) s st = subst (IsHeldSame p) (sym st.4) (held p (read p m d) refl refl)
held_page g p q (ReadDisk m) s st = subst (IsHeldSame p) (sym st.3) (held p (read_disk p m) refl refl)
held_page g p q (Write m) s st = subst (IsHeldSame p) (sym st.4) (held p (write p m) refl refl)
held_page g p q (WriteDirect m) s st = subst (IsHeldSame p) (sym st.4) (held p (write_direct p m) refl refl)
held_page g p q (CastoutRead m v) s st = subst (IsHeldSame p) (sym st.4) (held p (castout_read p m v) refl refl)
held_page g p q (CastoutWrite m) s st = subst (IsHeldSame p) (sym st.1) (held p (castout_write p) refl refl)
held_page g p q (CastoutDone m) s st = subst (IsHeldSame p) (sym st.2) (held p (castout_done p) refl refl)
held_page g p q Reclaim s st = subst (IsHeldSame p) (sym st.2) (held p (reclaim p) refl refl)
held_page g p q (DropFrame m) s st = subst (IsHeldSame p) (sym st.1) (held p (drop_frame p m) refl refl)
held_page g p q (Lock m) s st = subst (IsHeldSame p) (sym st.2) (held_lock g p m s st.0)
held_page g p q (Unlock m) s st = subst (IsHeldSame p) (sym st.4) (held_part p st.1)
held_page g p q (Redo m) s st = subst (IsHeldSame p) (sym st.4) (held p (redo p m) refl refl)
held_page g p q (PutAside m) s st = subst (IsHeldSame p) (sym st.3) (held p (drop_frame p m) refl refl)
held_page g p q (Purge m) s st = subst (IsHeldSame p) (sym st.5) (held_part p st.1)
held_page g p q (Rebuild n) s st = subst (IsHeldSame p) (sym st.2) (held p (rebuild p n) refl refl)

agree : (set : ℕ → ℕ) (w v : World) → SetsAgree set w → ((n : ℕ) → IsHeldSame (w.pages n) (v.pages n)) → SetsAgree set v
agree set w v s same n k e sole =
    let h = sym (same n).sole ∙ sole in
    let a = s n k e h in
    ((same k).sole ∙ a.0, (same k).owner a.0 ∙ a.1 ∙ sym ((same n).owner h))

held_at : (pages : ℕ → Page) (n : ℕ) (q : Page) → IsHeldSame (pages n) q → (k : ℕ) → IsHeldSame (pages k) (put pages n q k)
held_at pages n q new k = cond_both (k == n) q (pages k) (IsHeldSame (pages k)) (λ e. subst (λ x. IsHeldSame (pages x) q) (sym (eqb-true k n e)) new) (λ e. held (pages k) (pages k) refl refl)

held_some : (pages : ℕ → Page) (touched : ℕ → Bool) (f : Page → Page) → ((n : ℕ) → IsHeldSame (pages n) (f (pages n))) → (n : ℕ) → IsHeldSame (pages n) (if touched n then f (pages n) else pages n)
held_some pages touched f new n = cond_both (touched n) (f (pages n)) (pages n) (IsHeldSame (pages n)) (λ e. new n) (λ e. held (pages n) (pages n) refl refl)

-- all pages of one set change hands
whole_taken : (set : ℕ → ℕ) (w : World) (t m : ℕ) → SetsAgree set w → (n k : ℕ) → set n ≡ set k → (if set n == t then owned_whole (w.pages n) m else w.pages n).sole ≡ true
    → ((if set k == t then owned_whole (w.pages k) m else w.pages k).sole ≡ true) × ((if set k == t then owned_whole (w.pages k) m else w.pages k).owner ≡ (if set n == t then owned_whole (w.pages n) m else w.pages n).owner)
whole_taken set w t m s n k e sole = let a = s n k e in elim (cases_Bool (set n == t)) [ inl h ↦ grind (arith, h, e) | inr h ↦ grind (arith, h, e, a, sole) ]

whole_given : (set : ℕ → ℕ) (w : World) (t : ℕ) → SetsAgree set w → (n k : ℕ) → set n ≡ set k → (if set n == t then given_up (w.pages n) else w.pages n).sole ≡ true
    → ((if set k == t then given_up (w.pages k) else w.pages k).sole ≡ true) × ((if set k == t then given_up (w.pages k) else w.pages k).owner ≡ (if set n == t then given_up (w.pages n) else w.pages n).owner)
whole_given set w t s n k e sole = let a = s n k e in elim (cases_Bool (set n == t)) [ inl h ↦ grind (arith, h, e, sole) | inr h ↦ grind (arith, h, e, a, sole) ]

abbrev AllHeld : World → World → Type 0
AllHeld w v = (n : ℕ) → IsHeldSame (w.pages n) (v.pages n)

same_all : (w : World) → AllHeld w w
same_all w n = held (w.pages n) (w.pages n) refl refl

agree_step : (set : ℕ → ℕ) (w v : World) (e : Move) → Good w → SetsAgree set w → Step set w e v → SetsAgree set v
agree_step set w v (At n e) s k st = agree set w v k (subst (AllHeld w) (sym st.1.2) (held_at w.pages n st.1.0 (held_page w.group (w.pages n) st.1.0 e (all_running w st.0 s n) st.1.1)))
agree_step set w v (Draw m touched) s k st = agree set w v k (subst (AllHeld w) (sym st.2) (held_some w.pages touched (λ p. change p m (w.group.written m) (w.group.counter + 1)) (λ n. held _ _ refl refl)))
agree_step set w v (Force m a) s k st = agree set w v k (subst (AllHeld w) (sym st.3) (same_all w))
agree_step set w v (TakeSet t m) s k st = subst (SetsAgree set) (sym st.3) (whole_taken set w t m k)
agree_step set w v (YieldSet t m) s k st = subst (SetsAgree set) (sym st.2) (whole_given set w t k)
agree_step set w v (PurgeSet t m) s k st = subst (SetsAgree set) (sym st.2) (whole_given set w t k)
agree_step set w v Lose s k st = agree set w v k (subst (AllHeld w) (sym st.2) (λ n. held (w.pages n) (lose (w.pages n)) refl refl))
agree_step set w v (ReadLog m) s k st = agree set w v k (subst (AllHeld w) (sym st.2) (same_all w))
agree_step set w v Rebuilt s k st = agree set w v k (subst (AllHeld w) (sym st.3) (same_all w))
agree_step set w v (Fail m cut) s k st = agree set w v k (subst (AllHeld w) (sym st.2) (λ n. held (w.pages n) (fail (w.pages n) m (cut n)) refl refl))
agree_step set w v (Restart m) s k st = agree set w v k (subst (AllHeld w) (sym st.2) (same_all w))
agree_step set w v (Open m) s k st = agree set w v k (subst (AllHeld w) (sym st.3) (same_all w))
agree_step set w v (GroupFail cut counter) s k st = subst (SetsAgree set) (sym st.2) (λ n j e sole. absurd (both_ways false refl sole))
agree_step set w v (Forward n a) s k st = agree set w v k (subst (AllHeld w) (sym st.3) (held_at w.pages n (brought_forward (w.pages n) a) (held _ _ refl refl)))
agree_step set w v (Compensate n m) s k st = agree set w v k (subst (AllHeld w) (sym st.1) (held_at w.pages n (compensate (w.pages n) m (w.group.stable m) (w.group.counter + 1)) (held _ _ refl refl)))
agree_step set w v (Append m) s k st = agree set w v k (subst (AllHeld w) (sym st.1) (same_all w))
agree_step set w v Rise s k st = agree set w v k (subst (AllHeld w) (sym st.2) (λ n. held (w.pages n) (risen (w.pages n)) refl refl))

pub always_agree : AlwaysAgree
always_agree set [] w v s k run = subst (SetsAgree set) (sym run) k
always_agree set (e ∷ es) w v s k run = always_agree set es run.0 v (kept_step set w run.0 e s run.1) (agree_step set w run.0 e s k run.1) run.2
