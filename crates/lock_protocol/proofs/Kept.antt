-- What each change keeps.
use Rattle.std.proofs.Common.{◌≡◌, ℕ, refl, sym, ◌∙◌, arith, Bool, true, false, inl, inr, ◌⊎◌, Option, Some, None}
use Rattle.std.specs.Prelude.{◌≢◌, ◌==◌, ◌&&◌, if◌then◌else◌}
use Rattle.lock_names.specs.declared.mode.Mode.{Mode}
use Rattle.lock_names.specs.declared.mode.Interest.{Interest}
use Rattle.lock_names.specs.Modes.{class_of}
use Rattle.lock_protocol.specs.Functions.{put3}
use Rattle.lock_protocol.specs.Machine.{World, Record, Clean, Asked, Conflict, granted, entered, cleared, told, backs, blocks, with_class, recorded_as, allows, both_allowed, RetainedCovers, RetainedAllows, IsClear, released, given_up, handed_on, failed, restarted, purged, Covers, start}
use Rattle.lock_protocol.specs.Moves.{NoLocalConflict, NotRetained}
use Rattle.lock_protocol.specs.Sound.{Sound, IsCovered, IsRecorded}
use Rattle.lock_protocol.proofs.Modes.{compatible-sym, compatible-below, unblocked, join-keeps, join-covers, join-self, backs-with_class, backs_own, backs-below, recorded-below, join-through}

-- ---- moves that one call proves whole
pub kept_ask : (entry : ℕ → ℕ) (w : World) (m owner k name : ℕ) (mode : Mode) → Sound entry w → Sound entry (told w m owner k (Asked name mode))
kept_ask entry w m owner k name mode s = grind arith

pub kept_conflict : (entry : ℕ → ℕ) (w : World) (m owner k name : ℕ) (mode : Mode) → Sound entry w → Sound entry (told w m owner k (Conflict name mode))
kept_conflict entry w m owner k name mode s = grind arith

pub kept_clean : (entry : ℕ → ℕ) (w : World) (m owner k name : ℕ) (mode : Mode) → Sound entry w → ((q : ℕ) → IsClear (w.claims k q name) (w.records k name) mode) → Sound entry (told w m owner k (Clean name mode (w.version (entry name))))
kept_clean entry w m owner k name mode s ok = grind arith

pub kept_cleared : (entry : ℕ → ℕ) (w : World) (m owner : ℕ) → Sound entry w → Sound entry (cleared w m owner)
kept_cleared entry w m owner s = grind arith

pub kept_failed : (entry : ℕ → ℕ) (w : World) (m : ℕ) → Sound entry w → Sound entry (failed w m)
kept_failed entry w m s = grind arith

pub kept_restart : (entry : ℕ → ℕ) (w : World) (m : ℕ) → Sound entry w → Sound entry (restarted w m)
kept_restart entry w m s = grind arith

pub kept_purge : (entry : ℕ → ℕ) (w : World) (m name : ℕ) → Sound entry w → ((q : ℕ) → w.claims m q name ≡ None) → Sound entry (purged w m name)
kept_purge entry w m name s unused = grind arith

gone_both : (b c : Bool) (x y : Option Mode) → both_allowed x y ≡ true → both_allowed (if b then None else x) (if c then None else y) ≡ true
gone_both b true x y h = refl
gone_both true false x None h = refl
gone_both true false x (Some m) h = refl
gone_both false false x y h = h

gone : (b : Bool) (x : Option Mode) (P : Option Mode → Type 0) → P None → P x → P (if b then None else x)
gone true x P none h = none
gone false x P none h = h

pub kept_give_up : (entry : ℕ → ℕ) (w : World) (m : ℕ) (which : ℕ → ℕ → Bool) → Sound entry w → Sound entry (given_up w m which)
kept_give_up entry w m which s = record {
  across = λ k l o q n ne. gone_both ((k == m) && which o n) ((l == m) && which q n) (w.claims k o n) (w.claims l q n) (s.across k l o q n ne);
  within = λ k o q n ne. gone_both ((k == m) && which o n) ((k == m) && which q n) (w.claims k o n) (w.claims k q n) (s.within k o q n ne);
  covered = λ k o n. gone ((k == m) && which o n) (w.claims k o n) (λ c. IsCovered c (w.live k) (w.interest k (entry n)) (w.records k n)) tt (s.covered k o n);
  recorded = λ k o n. gone ((k == m) && which o n) (w.claims k o n) (λ c. IsRecorded c (w.records k n)) tt (s.recorded k o n);
  stamped = s.stamped;
  fresh = λ a o k q n v mode ne is now. gone ((k == m) && which q n) (w.claims k q n) (λ c. IsClear c (w.records k n) mode) tt (s.fresh a o k q n v mode ne is now);
}

pub kept_released : (entry : ℕ → ℕ) (w : World) (m owner name : ℕ) (keeps : Interest) → Sound entry w → ((q : ℕ) → q ≢ owner → w.claims m q name ≡ None)
    → ((q n : ℕ) (x : Mode) → n ≢ name → entry n ≡ entry name → w.claims m q n ≡ Some x → (backs (class_of x) keeps ≡ true) ⊎ RetainedCovers (w.records m n) x)
    → Sound entry (released entry w m owner name keeps)
kept_released entry w m owner name keeps s last kept = grind arith

handed_across : (w : World) (m owner to : ℕ) → ((k l o q n : ℕ) → k ≢ l → both_allowed (w.claims k o n) (w.claims l q n) ≡ true)
    → (k l o q n : ℕ) → k ≢ l → both_allowed ((handed_on w m owner to).claims k o n) ((handed_on w m owner to).claims l q n) ≡ true
handed_across w m owner to s k l o q n ne = grind arith

handed_within : (w : World) (m owner to : ℕ) → ((k o q n : ℕ) → o ≢ q → both_allowed (w.claims k o n) (w.claims k q n) ≡ true) → owner ≢ to → ((n : ℕ) → w.claims m to n ≡ None)
    → (k o q n : ℕ) → o ≢ q → both_allowed ((handed_on w m owner to).claims k o n) ((handed_on w m owner to).claims k q n) ≡ true
handed_within w m owner to s ne free k o q n apart = grind arith

pub kept_handed_on : (entry : ℕ → ℕ) (w : World) (m owner to : ℕ) → Sound entry w → owner ≢ to → ((n : ℕ) → w.claims m to n ≡ None) → Sound entry (handed_on w m owner to)
kept_handed_on entry w m owner to s ne free = record {
  across = handed_across w m owner to s.across;
  within = handed_within w m owner to s.within ne free;
  covered = grind arith;
  recorded = grind arith;
  stamped = s.stamped;
  fresh = grind arith;
}

pub kept_start : (entry : ℕ → ℕ) → Sound entry start
kept_start entry = grind arith

-- ---- a grant
cover_more : (c : Option Mode) (up : Bool) (i : Interest) (r : Option Record) (mode : Mode) → IsCovered c up i r → IsCovered c up (with_class (class_of mode) i) r
cover_more None up i r mode h = tt
cover_more (Some x) up i r mode h = elim h [ inl b ↦ inl (b.0, backs-with_class (class_of x) (class_of mode) i b.1) | inr q ↦ inr q ]

cover_joined : (c : Option Mode) (up : Bool) (i : Interest) (r : Option Record) (mode : Mode) → IsCovered c up i r → IsCovered c up i (recorded_as r mode)
cover_joined None up i r mode h = tt
cover_joined (Some x) up i None mode h = elim h [ inl b ↦ inl b | inr q ↦ absurd q ]
cover_joined (Some x) up i (Some r) mode h = grind (arith, join-keeps)

recorded_joined : (c : Option Mode) (r : Option Record) (mode : Mode) → IsRecorded c r → IsRecorded c (recorded_as r mode)
recorded_joined None r mode h = tt
recorded_joined (Some x) None mode h = λ e. absurd (h e)
recorded_joined (Some x) (Some r) mode h = grind (arith, join-keeps)

pub kept_granted : (entry : ℕ → ℕ) (w : World) (m name : ℕ) (mode : Mode) → Sound entry w → Sound entry (granted entry w m name mode)
kept_granted entry w m name mode s = grind (arith, cover_more, cover_joined, recorded_joined)

own_record : (r : Option Record) (mode : Mode) → IsRecorded (Some mode) (recorded_as r mode)
own_record None mode = λ e. rw e (join-self mode)
own_record (Some r) mode = λ e. rw e (join-covers r.mode mode)

pub own_cover : (entry : ℕ → ℕ) (w : World) (m name : ℕ) (mode : Mode) → w.live m ≡ true → IsCovered (Some mode) (w.live m) ((granted entry w m name mode).interest m (entry name)) ((granted entry w m name mode).records m name)
own_cover entry w m name mode up = grind (arith, backs_own)

pub own_recorded : (entry : ℕ → ℕ) (w : World) (m name : ℕ) (mode : Mode) → IsRecorded (Some mode) ((granted entry w m name mode).records m name)
own_recorded entry w m name mode = grind (arith, own_record)

abbrev pub Apart : World → ℕ → ℕ → Mode → Type 0
Apart w m name mode = (k q : ℕ) → k ≢ m → allows (w.claims k q name) mode ≡ true

apart_at : (c : Option Mode) (r : Option Record) (up : Bool) (i : Interest) (mode : Mode) → IsCovered c up i r → RetainedAllows r mode → (up ≡ true → (blocks (class_of mode) i ≡ false) ⊎ IsClear c r mode) → allows c mode ≡ true
apart_at None r up i mode cov free clean = refl
apart_at (Some c) None up i mode cov free clean = elim cov [ inl b ↦ elim (clean b.0) [ inl h ↦ unblocked c mode i b.1 h | inr h ↦ elim h [ inl a ↦ a | inr q ↦ absurd q ] ] | inr q ↦ absurd q ]
apart_at (Some c) (Some r) up i mode cov free clean = elim cov [ inl b ↦ elim (clean b.0) [ inl h ↦ unblocked c mode i b.1 h | inr h ↦ elim h [ inl a ↦ a | inr q ↦ compatible-below r.mode c mode q.1 (free q.0) ] ] | inr q ↦ compatible-below r.mode c mode q.1 (free q.0) ]

pub apart : (entry : ℕ → ℕ) (w : World) (m owner name : ℕ) (mode : Mode) → Sound entry w → NotRetained w m name mode
    → ((k : ℕ) → k ≢ m → w.live k ≡ true → (blocks (class_of mode) (w.interest k (entry name)) ≡ false) ⊎ (w.cells m owner k ≡ Clean name mode (w.version (entry name))))
    → Apart w m name mode
apart entry w m owner name mode s free clean k q ne = apart_at _ (w.records k name) (w.live k) (w.interest k (entry name)) mode (s.covered k q name) (free k ne)
    (λ up. elim (clean k ne up) [ inl h ↦ inl h | inr h ↦ inr (s.fresh m owner k q name _ mode (λ t. ne (sym t)) h refl) ])

-- ---- a new claim
e_across : (claims : ℕ → ℕ → ℕ → Option Mode) (m owner name : ℕ) (mode : Mode) → ((k l o q n : ℕ) → k ≢ l → both_allowed (claims k o n) (claims l q n) ≡ true) → ((k q : ℕ) → k ≢ m → allows (claims k q name) mode ≡ true)
    → (k l o q n : ℕ) → k ≢ l → both_allowed (put3 claims m owner name (Some mode) k o n) (put3 claims m owner name (Some mode) l q n) ≡ true
e_across claims m owner name mode s far k l o q n ne = grind (arith, compatible-sym)

e_within : (claims : ℕ → ℕ → ℕ → Option Mode) (m owner name : ℕ) (mode : Mode) → ((k o q n : ℕ) → o ≢ q → both_allowed (claims k o n) (claims k q n) ≡ true) → ((q : ℕ) → q ≢ owner → allows (claims m q name) mode ≡ true)
    → (k o q n : ℕ) → o ≢ q → both_allowed (put3 claims m owner name (Some mode) k o n) (put3 claims m owner name (Some mode) k q n) ≡ true
e_within claims m owner name mode s near k o q n ne = grind (arith, compatible-sym)

e_fresh : (entry : ℕ → ℕ) (w : World) (m owner name : ℕ) (mode : Mode) → ((a o k q n v : ℕ) (x : Mode) → a ≢ k → w.cells a o k ≡ Clean n x v → v ≡ w.version (entry n) → IsClear (w.claims k q n) (w.records k n) x)
    → ((a o v : ℕ) (x : Mode) → a ≢ m → w.cells a o m ≡ Clean name x v → v ≡ w.version (entry name) → IsClear (Some mode) (w.records m name) x)
    → (a o k q n v : ℕ) (x : Mode) → a ≢ k → w.cells a o k ≡ Clean n x v → v ≡ w.version (entry n) → IsClear (put3 w.claims m owner name (Some mode) k q n) (w.records k n) x
e_fresh entry w m owner name mode s still a o k q n v x = grind arith

e_covered : (entry : ℕ → ℕ) (w : World) (m owner name : ℕ) (mode : Mode) → ((k o n : ℕ) → IsCovered (w.claims k o n) (w.live k) (w.interest k (entry n)) (w.records k n)) → IsCovered (Some mode) (w.live m) (w.interest m (entry name)) (w.records m name)
    → (k o n : ℕ) → IsCovered (put3 w.claims m owner name (Some mode) k o n) (w.live k) (w.interest k (entry n)) (w.records k n)
e_covered entry w m owner name mode s new k o n = grind arith

e_recorded : (w : World) (m owner name : ℕ) (mode : Mode) → ((k o n : ℕ) → IsRecorded (w.claims k o n) (w.records k n)) → IsRecorded (Some mode) (w.records m name)
    → (k o n : ℕ) → IsRecorded (put3 w.claims m owner name (Some mode) k o n) (w.records k n)
e_recorded w m owner name mode s new k o n = grind arith

pub kept_enter : (entry : ℕ → ℕ) (w : World) (m owner name : ℕ) (mode : Mode) → Sound entry w → Apart w m name mode → NoLocalConflict w m owner name mode
    → IsCovered (Some mode) (w.live m) (w.interest m (entry name)) (w.records m name) → IsRecorded (Some mode) (w.records m name)
    → ((a o v : ℕ) (x : Mode) → a ≢ m → w.cells a o m ≡ Clean name x v → v ≡ w.version (entry name) → IsClear (Some mode) (w.records m name) x)
    → Sound entry (entered w m owner name mode)
kept_enter entry w m owner name mode s far near cover record_of still = record {
  across = e_across w.claims m owner name mode s.across far;
  within = e_within w.claims m owner name mode s.within near;
  covered = e_covered entry w m owner name mode s.covered cover;
  recorded = e_recorded w m owner name mode s.recorded record_of;
  stamped = s.stamped;
  fresh = e_fresh entry w m owner name mode s.fresh still;
}

pub still_clean : (entry : ℕ → ℕ) (w : World) (m name : ℕ) (mode : Mode) → Sound entry w → (a o v : ℕ) (x : Mode) → a ≢ m → w.cells a o m ≡ Clean name x v → v ≡ (granted entry w m name mode).version (entry name) → IsClear (Some mode) ((granted entry w m name mode).records m name) x
still_clean entry w m name mode s = grind arith

-- ---- a claim that the member's own cover
clear_below : (d : Option Mode) (c x : Mode) (r : Option Record) → Covers d c → IsClear d r x → IsClear (Some c) r x
clear_below None c x r h a = absurd h
clear_below (Some d) c x None h a = elim a [ inl b ↦ inl (compatible-below d c x h b) | inr q ↦ absurd q ]
clear_below (Some d) c x (Some r) h a = elim a [ inl b ↦ inl (compatible-below d c x h b) | inr q ↦ inr (q.0, join-through r.mode d c q.1 h) ]

both_below : (d e : Option Mode) (c : Mode) → Covers d c → both_allowed e d ≡ true → allows e c ≡ true
both_below None e c h a = absurd h
both_below (Some d) None c h a = refl
both_below (Some d) (Some e) c h a = compatible-sym e c ∙ compatible-below d c e h (compatible-sym d e ∙ a)

cover_below : (d : Option Mode) (c : Mode) (up : Bool) (i : Interest) (r : Option Record) → Covers d c → IsCovered d up i r → IsCovered (Some c) up i r
cover_below None c up i r h b = absurd h
cover_below (Some d) c up i None h b = elim b [ inl x ↦ inl (x.0, backs-below d c i h x.1) | inr q ↦ absurd q ]
cover_below (Some d) c up i (Some r) h b = elim b [ inl x ↦ inl (x.0, backs-below d c i h x.1) | inr q ↦ inr (q.0, join-through r.mode d c q.1 h) ]

record_below : (d : Option Mode) (c : Mode) (r : Option Record) → Covers d c → IsRecorded d r → IsRecorded (Some c) r
record_below None c r h b = absurd h
record_below (Some d) c None h b = λ e. absurd (b (recorded-below d c h e))
record_below (Some d) c (Some r) h b = λ e. join-through r.mode d c (b (recorded-below d c h e)) h

pub kept_local : (entry : ℕ → ℕ) (w : World) (m q owner name : ℕ) (mode : Mode) → Sound entry w → Covers (w.claims m q name) mode → NoLocalConflict w m owner name mode → Sound entry (entered w m owner name mode)
kept_local entry w m q owner name mode s h local = kept_enter entry w m owner name mode s
    (λ k o ne. both_below (w.claims m q name) (w.claims k o name) mode h (s.across k m o q name ne)) local
    (cover_below (w.claims m q name) mode _ _ (w.records m name) h (s.covered m q name))
    (record_below (w.claims m q name) mode (w.records m name) h (s.recorded m q name))
    (λ a o v x ne is e. clear_below (w.claims m q name) mode x (w.records m name) h (s.fresh a o m q name v x ne is e))

-- ---- an owner's claim becomes a lesser one
pub kept_demote : (entry : ℕ → ℕ) (w : World) (m owner name : ℕ) (mode : Mode) → Sound entry w → Covers (w.claims m owner name) mode → Sound entry (entered w m owner name mode)
kept_demote entry w m owner name mode s h = kept_local entry w m owner owner name mode s h (λ q ne. both_below (w.claims m owner name) (w.claims m q name) mode h (s.within m q owner name ne))
