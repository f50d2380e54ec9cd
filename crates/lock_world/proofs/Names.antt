-- A retained record is purged, and a lock is released.
use Rattle.std.proofs.Common.{◌≡◌, ℕ, refl, sym, ◌∙◌, ap, subst, Bool, true, false, inl, inr, ◌⊎◌, Option, Some, None}
use Rattle.std.specs.Prelude.{◌≢◌, ◌==◌, ◌&&◌, ◌||◌, if◌then◌else◌, slice_index_or, length}
use Rattle.std.proofs.lemmas.Bool.{cond-true, cond-false, cases_Bool, cases_eq, both_ways, and_parts, and_from, or_cases, or_parts, or_right, eqb-true, eq-eqb}
use Rattle.ds_model.specs.declared.lock.Name.{Name}
use Rattle.lock_names.specs.declared.mode.Mode.{Mode}
use Rattle.lock_names.specs.declared.mode.Interest.{Interest}
use Rattle.lock_names.specs.Modes.{class_of}
use Rattle.lock_structure.specs.Entries as entries
use Rattle.lock_structure.specs.Records.{after_purge, after_release}
use Rattle.lock_structure.specs.Locks.{Locks}
use Rattle.lock_protocol.specs.Functions.{alter2, put3}
use Rattle.lock_protocol.specs.Machine.{World, Record, RetainedCovers, backs, no_interest, given_up, purged, released, purged_record, released_record}
use Rattle.lock_protocol.specs.Moves.{NoClaim, KeepsInterest}
use Rattle.lock_world.specs.Numbers.{number}
use Rattle.lock_world.specs.Views.{is_member, entry_in, version_in, interest_in}
use Rattle.lock_world.specs.Tied.{Claims, IsOlder, ClaimTied}
use Rattle.lock_world.specs.Names.{on_name, PurgesMoves, Releases, KeepsForAll, ReleasesMoves}
use Rattle.lock_world.proofs.Records.{alters, purge_same, release_same, sets_interest}

-- ---- claims that are given up
pub gone_tied : (c x : Option Mode) (r : Option Record) → c ≡ None → x ≡ None → ClaimTied c x r
gone_tied c x r a b = subst (λ z. ClaimTied z x r) (sym a) (subst (λ z. ClaimTied None z r) (sym b) tt)

pub same_tied : (c d x y : Option Mode) (r s : Option Record) → d ≡ c → y ≡ x → s ≡ r → ClaimTied c x r → ClaimTied d y s
same_tied c d x y r s a b e t = subst (λ z. ClaimTied z y s) (sym a) (subst (λ z. ClaimTied c z s) (sym b) (subst (λ z. ClaimTied c x z) (sym e) t))

both_same : (m n : ℕ) → ((m == m) && (n == n)) ≡ true
both_same m n = and_from (m == m) (n == n) (eq-eqb m m refl) (eq-eqb n n refl)

-- ---- a purge
purge_claim : (w : World) (m n : ℕ) → NoClaim (given_up w m (on_name n)) m n
purge_claim w m n q = cond-true ((m == m) && (n == n)) None (w.claims m q n) (both_same m n)

purge_versions : (locks after : Locks) → after.entries ≡ locks.entries → (e : ℕ) → version_in locks e ≡ version_in after e
purge_versions locks after same e = ap (λ es. (slice_index_or es e entries.blank).version) (sym same)

purge_interest : (locks after : Locks) → after.entries ≡ locks.entries → (k e : ℕ) → interest_in locks k e ≡ interest_in after k e
purge_interest locks after same k e = ap (λ es. if is_member k then entries.interest_in (slice_index_or es e entries.blank) k else no_interest) (sym same)

purge_tied : (w : World) (held : Claims) (m n : ℕ) → ((o : ℕ) → held m o n ≡ None) → (k o c : ℕ) → ClaimTied (w.claims k o c) (held k o c) (w.records k c)
    → ClaimTied ((purged (given_up w m (on_name n)) m n).claims k o c) (held k o c) ((purged (given_up w m (on_name n)) m n).records k c)
purge_tied w held m n none k o c t = elim (cases_Bool ((k == m) && (c == n))) [
  | inl h ↦
      let p = and_parts (k == m) (c == n) h in
      gone_tied _ _ _ (cond-true ((k == m) && (c == n)) None (w.claims k o c) h)
      (subst (λ x. held x o c ≡ None) (sym (eqb-true k m p.0)) (subst (λ x. held m o x ≡ None) (sym (eqb-true c n p.1)) (none o)))
  | inr h ↦ same_tied _ _ _ _ _ _ (cond-false ((k == m) && (c == n)) None (w.claims k o c) h) refl (cond-false ((k == m) && (c == n)) (purged_record (w.records k c)) (w.records k c) h) t
]

pub still_none : (b : Bool) (x : Option Mode) → x ≡ None → (if b then None else x) ≡ None
still_none true x e = refl
still_none false x e = e

pub purges : PurgesMoves
purges w locks after lists held m n t x none is =
    let v = purged (given_up w m (on_name (number n))) m (number n) in
    record {
      same = ap length is.entries;
      world = v;
      run = (given_up w m (on_name (number n)), refl, (v, (purge_claim w m (number n), refl), refl));
      tied = record {
        versions = λ e. t.versions e ∙ purge_versions locks after is.entries e;
        interest = λ k e. t.interest k e ∙ purge_interest locks after is.entries k e;
        records = alters w locks after m n after_purge purged_record x purge_same t.records is.records;
        claims = λ k o c live. purge_tied w held m (number n) none k o c (t.claims k o c live);
        down = t.down;
        up = λ k o c member up free. still_none ((k == m) && (c == number n)) (w.claims k o c) (t.up k o c member up free);
        own = λ k o c own ne. still_none ((k == m) && (c == number n)) (w.claims k o c) (t.own k o c own ne);
        cells = t.cells;
        live = t.live;
      };
    }

-- ---- a release
abbrev leaves : ℕ → (ℕ → ℕ → Bool) → ℕ → ℕ → Bool
leaves n which o c = which o c || (c == n)

-- of another member, or a claim that stays
stays_at : (w : World) (m owner n k o c : ℕ) (which : ℕ → ℕ → Bool) → ((k == m) && leaves n which o c) ≡ false → ((k == m) && ((o == owner) && (c == n))) ≡ false → put3 (given_up w m (leaves n which)).claims m owner n None k o c ≡ w.claims k o c
stays_at w m owner n k o c which a b = cond-false ((k == m) && ((o == owner) && (c == n))) None ((given_up w m (leaves n which)).claims k o c) b ∙ cond-false ((k == m) && leaves n which o c) None (w.claims k o c) a

goes_at : (w : World) (m owner n k o c : ℕ) (which : ℕ → ℕ → Bool) → ((k == m) && leaves n which o c) ≡ true → put3 (given_up w m (leaves n which)).claims m owner n None k o c ≡ None
goes_at w m owner n k o c which a = still_none ((k == m) && ((o == owner) && (c == n))) ((given_up w m (leaves n which)).claims k o c) (cond-true ((k == m) && leaves n which o c) None (w.claims k o c) a)

not_leaving : (a b c d : Bool) → (a && (b || c)) ≡ false → (a && (d && c)) ≡ false
not_leaving false b c d h = refl
not_leaving true true c d h = absurd (both_ways true h refl)
not_leaving true false true d h = absurd (both_ways true h refl)
not_leaving true false false true h = refl
not_leaving true false false false h = refl

not_named : (a b c : Bool) → (a && (b || c)) ≡ false → (a && c) ≡ false
not_named false b c h = refl
not_named true true c h = absurd (both_ways true h refl)
not_named true false c h = h

-- the claim of the lock manager that is left
left_gone : (held left : Claims) (m : ℕ) (n : Name) (which : ℕ → ℕ → Bool) → Releases held left m n which → (k o c : ℕ) → ((k == m) && leaves (number n) which o c) ≡ true → left k o c ≡ None
left_gone held left m n which r k o c h =
    let p = and_parts (k == m) (leaves (number n) which o c) h in
    subst (λ x. left x o c ≡ None) (sym (eqb-true k m p.0)) (elim (or_cases (which o c) (c == number n) p.1) [
      | inl g ↦ r.own o c ∙ cond-true (which o c) None (held m o c) g
      | inr g ↦ subst (λ x. left m o x ≡ None) (sym (eqb-true c (number n) g)) (r.all o)
    ])

left_stays : (held left : Claims) (m : ℕ) (n : Name) (which : ℕ → ℕ → Bool) → Releases held left m n which → (k o c : ℕ) → ((k == m) && leaves (number n) which o c) ≡ false → left k o c ≡ held k o c
left_stays held left m n which r k o c h = elim (cases_eq k m) [
  | inl e ↦ subst (λ x. left x o c ≡ held x o c) (sym e) (r.own o c ∙ cond-false (which o c) None (held m o c) (not_which (which o c) (c == number n) (subst (λ x. ((x == m) && leaves (number n) which o c) ≡ false) e h)))
  | inr ne ↦ r.others k o c ne
]
  where
    own_test : (b : Bool) → ((m == m) && b) ≡ false → b ≡ false
    own_test true g = absurd (both_ways (m == m) (only (m == m) g) (eq-eqb m m refl))
      where
        only : (a : Bool) → (a && true) ≡ false → a ≡ false
        only true g = absurd (both_ways true g refl)
        only false g = refl
    own_test false g = refl

    not_which : (a b : Bool) → ((m == m) && (a || b)) ≡ false → a ≡ false
    not_which a b g = (or_parts a b (own_test (a || b) g)).0

release_tied : (w : World) (held left : Claims) (m owner : ℕ) (n : Name) (which : ℕ → ℕ → Bool) → Releases held left m n which → (k o c : ℕ) → ClaimTied (w.claims k o c) (held k o c) (w.records k c)
    → ClaimTied (put3 (given_up w m (leaves (number n) which)).claims m owner (number n) None k o c) (left k o c) (alter2 w.records m (number n) released_record k c)
release_tied w held left m owner n which r k o c t = elim (cases_Bool ((k == m) && leaves (number n) which o c)) [
  | inl h ↦ gone_tied _ _ _ (goes_at w m owner (number n) k o c which h) (left_gone held left m n which r k o c h)
  | inr h ↦ same_tied _ _ _ _ _ _ (stays_at w m owner (number n) k o c which h (not_leaving (k == m) (which o c) (c == number n) (o == owner) h)) (left_stays held left m n which r k o c h)
      (cond-false ((k == m) && (c == number n)) (released_record (w.records k c)) (w.records k c) (not_named (k == m) (which o c) (c == number n) h)) t
]

release_none : (w : World) (m owner n k o c : ℕ) (which : ℕ → ℕ → Bool) → w.claims k o c ≡ None → put3 (given_up w m (leaves n which)).claims m owner n None k o c ≡ None
release_none w m owner n k o c which e = still_none ((k == m) && ((o == owner) && (c == n))) ((given_up w m (leaves n which)).claims k o c) (still_none ((k == m) && leaves n which o c) (w.claims k o c) e)

keeps_at : (c b : Option Mode) (r : Option Record) (x : Mode) (keeps : Interest) → ClaimTied c b r → c ≡ Some x → (b ≡ Some x → backs (class_of x) keeps ≡ true) → (backs (class_of x) keeps ≡ true) ⊎ RetainedCovers r x
keeps_at c None r x keeps t e h = inr (subst (λ z. IsOlder z r) e t)
keeps_at c (Some y) r x keeps t e h = inl (h (sym t ∙ e))

some_none : (o : Option Mode) (x : Mode) → o ≡ None → o ≡ Some x → ⊥
some_none o x a b = cc

release_keeps : (w : World) (locks : Locks) (held left : Claims) (m : ℕ) (n : Name) (keeps : Interest) (which : ℕ → ℕ → Bool) → Releases held left m n which → KeepsForAll locks left m n keeps
    → ((o c : ℕ) → ClaimTied (w.claims m o c) (held m o c) (w.records m c)) → KeepsInterest (entry_in locks) (given_up w m (leaves (number n) which)) m (number n) keeps
release_keeps w locks held left m n keeps which r all tied q c x ne same is = elim (cases_Bool ((m == m) && leaves (number n) which q c)) [
  | inl h ↦ absurd (some_none ((given_up w m (leaves (number n) which)).claims m q c) x (cond-true ((m == m) && leaves (number n) which q c) None (w.claims m q c) h) is)
  | inr h ↦ keeps_at (w.claims m q c) (held m q c) (w.records m c) x keeps (tied q c) (sym (cond-false ((m == m) && leaves (number n) which q c) None (w.claims m q c) h) ∙ is)
      (λ e. all q c x ne same (left_stays held left m n which r m q c h ∙ e))
]

release_others : (w : World) (m owner n : ℕ) (which : ℕ → ℕ → Bool) → (q : ℕ) → q ≢ owner → (given_up w m (leaves n which)).claims m q n ≡ None
release_others w m owner n which q ne = cond-true ((m == m) && leaves n which q n) None (w.claims m q n) (and_from (m == m) (leaves n which q n) (eq-eqb m m refl) (or_right (which q n) (n == n) (eq-eqb n n refl)))

release_up : (w : World) (held left : Claims) (m owner : ℕ) (n : Name) (which : ℕ → ℕ → Bool) → Releases held left m n which → (k o c : ℕ) → (held k o c ≡ None → w.claims k o c ≡ None) → left k o c ≡ None
    → put3 (given_up w m (leaves (number n) which)).claims m owner (number n) None k o c ≡ None
release_up w held left m owner n which r k o c up free = elim (cases_Bool ((k == m) && leaves (number n) which o c)) [
  | inl h ↦ goes_at w m owner (number n) k o c which h
  | inr h ↦ release_none w m owner (number n) k o c which (up (sym (left_stays held left m n which r k o c h) ∙ free))
]

release_down : (held left : Claims) (m : ℕ) (n : Name) (which : ℕ → ℕ → Bool) → Releases held left m n which → (k o c : ℕ) → held k o c ≡ None → left k o c ≡ None
release_down held left m n which r k o c none = elim (cases_Bool ((k == m) && leaves (number n) which o c)) [
  | inl h ↦ left_gone held left m n which r k o c h
  | inr h ↦ left_stays held left m n which r k o c h ∙ none
]

pub releases : ReleasesMoves
releases w locks after lists held left m owner n keeps which t x among live r all is =
    let w1 = given_up w m (leaves (number n) which) in
    let v = released (entry_in locks) w1 m owner (number n) keeps in
    record {
      same = is.same;
      world = v;
      run = (w1, refl, (v, (release_others w m owner (number n) which, release_keeps w locks held left m n keeps which r all (λ o c. t.claims m o c (t.live m x.0 among ∙ live)), refl), refl));
      tied = record {
        versions = λ e. t.versions e ∙ sym (is.versions e);
        interest = sets_interest w locks after m n keeps x t.interest is.interest;
        records = alters w locks after m n after_release released_record x release_same t.records is.records;
        claims = λ k o c live. release_tied w held left m owner n which r k o c (t.claims k o c live);
        down = λ k o c dead. release_down held left m n which r k o c (t.down k o c dead);
        up = λ k o c member up free. release_up w held left m owner n which r k o c (t.up k o c member up) free;
        own = λ k o c own ne. release_none w m owner (number n) k o c which (t.own k o c own ne);
        cells = t.cells;
        live = t.live;
      };
    }
