-- Claims that ask nothing of the facility, and a restart.
use Rattle.std.proofs.Common.{◌≡◌, ℕ, ◌≤◌, refl, sym, ◌∙◌, ap, subst, arith, Bool, true, false, inl, inr, Option, Some, None}
use Rattle.std.specs.Prelude.{◌==◌, ◌&&◌, if◌then◌else◌}
use Rattle.std.proofs.lemmas.Bool.{cond-true, cond-false, cases_eq, both_ways, and_left, eq-eqb, ne_eqb}
use Rattle.ds_base.specs.Ids.{IsMember}
use Rattle.lock_names.specs.declared.mode.Mode.{Mode}
use Rattle.list_structure.specs.declared.standing.MemberStatus.{MemberStatus}
use Rattle.list_structure.specs.declared.standing.MemberStatus.TheVariants.{Up, Restarting}
use Rattle.list_structure.specs.Askers.{slot_of}
use Rattle.list_structure.specs.Cells.{cell_of}
use Rattle.list_structure.specs.Standings.{status_of, is_live}
use Rattle.lock_protocol.specs.Functions.{put}
use Rattle.lock_protocol.specs.Machine.{Record, Empty, Covers, RetainedCovers, given_up, entered, restarted}
use Rattle.lock_protocol.specs.Moves.{Local, NoLocalConflict, Step}
use Rattle.lock_protocol.specs.Words.{SoundGives}
use Rattle.lock_world.specs.Numbers.{number}
use Rattle.lock_world.specs.Views.{is_member, is_slot, entry_in, as_cell, is_live_in}
use Rattle.lock_world.specs.Tied.{Claims, IsOlder, ClaimTied}
use Rattle.lock_world.specs.Claims.{LocalMoves, Leaves, GivesUpMoves, RestartsMoves}
use Rattle.lock_world.proofs.Grants.{enters_at, enter_tied, enter_none, left_at, left_down, live_of, joined_of, own_none, no_conflict}
use Rattle.lock_world.proofs.Names.{still_none}

-- ---- a claim that one of the member covers
covers_of : (c x : Option Mode) (r : Option Record) (mode : Mode) → ClaimTied c x r → Covers x mode → Covers c mode
covers_of c None r mode t h = absurd h
covers_of c (Some y) r mode t h = subst (λ z. Covers z mode) (sym t) h

pub locals : LocalMoves
locals w locks lists held left m owner n mode t may r covers =
    let v = entered w m owner (number n) mode in
    record {
      same = refl;
      world = v;
      run = (v, step, refl);
      tied = record {
        versions = t.versions;
        interest = t.interest;
        records = t.records;
        claims = λ k o c live. subst (λ z. ClaimTied (if enters_at m owner (number n) true k o c then Some mode else w.claims k o c) z (w.records k c)) (sym (left_at held left m owner n mode true r.1 k o c))
            (enter_tied (enters_at m owner (number n) true k o c) (w.claims k o c) (held k o c) (w.records k c) mode (t.claims k o c live));
        down = left_down w locks lists held left m owner n mode true t may r.1;
        up = λ k o c member up free. enter_none (enters_at m owner (number n) true k o c) (w.claims k o c) (held k o c) mode (t.up k o c member up) (sym (left_at held left m owner n mode true r.1 k o c) ∙ free);
        own = λ k o c own ne. own_none w m owner n mode true may.owners k o c own ne (t.own k o c own ne);
        cells = t.cells;
        live = t.live;
      };
    }
  where
    live : w.live m ≡ true
    live = live_of w locks lists held m owner n mode t may

    step : Step (entry_in locks) w (Local m owner (number n) mode) (entered w m owner (number n) mode)
    step = subst (λ x. (w.live m ≡ true) × ((q : ℕ) × Covers (w.claims m q (number n)) x) × NoLocalConflict w m owner (number n) x × (entered w m owner (number n) mode ≡ entered w m owner (number n) x)) (sym (joined_of w locks lists held m owner n mode t may))
        (live, (covers.0, covers_of (w.claims m covers.0 (number n)) (held m covers.0 (number n)) (w.records m (number n)) mode (t.claims m covers.0 (number n) live) covers.1), no_conflict w locks lists held m owner n mode t may (r.0 refl), refl)

-- ---- claims that are given up
leaves_at : (held left : Claims) (m : ℕ) (which : ℕ → ℕ → Bool) → Leaves held left m which → (k o c : ℕ) → left k o c ≡ (if (k == m) && which o c then None else held k o c)
leaves_at held left m which r k o c = elim (cases_eq k m) [
  | inl e ↦ subst (λ x. left x o c ≡ (if (x == m) && which o c then None else held x o c)) (sym e) (r.own o c ∙ in_test (m == m) (which o c) (held m o c) (eq-eqb m m refl))
  | inr ne ↦ r.others k o c ne ∙ sym (cond-false ((k == m) && which o c) None (held k o c) (and_left (k == m) (which o c) (ne_eqb k m ne)))
]
  where
    in_test : (a b : Bool) (x : Option Mode) → a ≡ true → (if b then None else x) ≡ (if a && b then None else x)
    in_test true b x e = refl
    in_test false b x e = absurd (both_ways false refl e)

gone_or_same : (b : Bool) (x y : Option Mode) (r : Option Record) → ClaimTied x y r → ClaimTied (if b then None else x) (if b then None else y) r
gone_or_same true x y r t = tt
gone_or_same false x y r t = t

none_or_same : (b : Bool) (x y : Option Mode) → (y ≡ None → x ≡ None) → (if b then None else y) ≡ None → (if b then None else x) ≡ None
none_or_same true x y h e = refl
none_or_same false x y h e = h e

pub gives_up : GivesUpMoves
gives_up w locks lists held left m which t r =
    let v = given_up w m which in
    record {
      same = refl;
      world = v;
      run = (v, refl, refl);
      tied = record {
        versions = t.versions;
        interest = t.interest;
        records = t.records;
        claims = λ k o c live. subst (λ z. ClaimTied (if (k == m) && which o c then None else w.claims k o c) z (w.records k c)) (sym (leaves_at held left m which r k o c))
            (gone_or_same ((k == m) && which o c) (w.claims k o c) (held k o c) (w.records k c) (t.claims k o c live));
        down = λ k o c dead. leaves_at held left m which r k o c ∙ still_none ((k == m) && which o c) (held k o c) (t.down k o c dead);
        up = λ k o c member up free. none_or_same ((k == m) && which o c) (w.claims k o c) (held k o c) (t.up k o c member up) (sym (leaves_at held left m which r k o c) ∙ free);
        own = λ k o c own ne. still_none ((k == m) && which o c) (w.claims k o c) (t.own k o c own ne);
        cells = t.cells;
        live = t.live;
      };
    }

-- ---- a restart
older_of : (c : Option Mode) (r : Option Record) → ((a : Mode) → c ≡ Some a → RetainedCovers r a) → IsOlder c r
older_of None r h = tt
older_of (Some a) r h = h a refl

not_up : (s : MemberStatus) → s ≡ Restarting → s ≡ Up → ⊥
not_up s a b = cc

live_now : (s : MemberStatus) → s ≡ Restarting → true ≡ is_live s
live_now s e = subst (λ x. true ≡ is_live x) (sym e) refl

pub restarts : SoundGives → RestartsMoves
restarts law w locks lists after held left m s t member among dead r =
    let v = restarted w m in
    record {
      same = refl;
      world = v;
      run = (v, refl, refl);
      tied = record {
        versions = t.versions;
        interest = t.interest;
        records = t.records;
        claims = claims;
        down = down;
        up = up;
        own = t.own;
        cells = λ a o k. t.cells a o k ∙ ap (λ x. if is_member a && (is_slot o && is_member k) then as_cell (cell_of x (slot_of a o) k) else Empty) (sym r.cells);
        live = live;
      };
    }
  where
    older : (o c : ℕ) → ClaimTied (w.claims m o c) (left m o c) (w.records m c)
    older o c = subst (λ z. ClaimTied (w.claims m o c) z (w.records m c)) (sym (r.empty o c)) (older_of (w.claims m o c) (w.records m c) (λ a e. (law (entry_in locks) w s).retained m o c a (t.live m member.0 among ∙ dead) e))

    claims : (k o c : ℕ) → put w.live m true k ≡ true → ClaimTied (w.claims k o c) (left k o c) (w.records k c)
    claims k o c live = elim (cases_eq k m) [
      | inl e ↦ subst (λ x. ClaimTied (w.claims x o c) (left x o c) (w.records x c)) (sym e) (older o c)
      | inr ne ↦ subst (λ z. ClaimTied (w.claims k o c) z (w.records k c)) (sym (r.others k o c ne)) (t.claims k o c (sym (cond-false (k == m) true (w.live k) (ne_eqb k m ne)) ∙ live))
    ]

    down : (k o c : ℕ) → put w.live m true k ≡ false → left k o c ≡ None
    down k o c dead = elim (cases_eq k m) [
      | inl e ↦ subst (λ x. left x o c ≡ None) (sym e) (r.empty o c)
      | inr ne ↦ r.others k o c ne ∙ t.down k o c (sym (cond-false (k == m) true (w.live k) (ne_eqb k m ne)) ∙ dead)
    ]

    up : (k o c : ℕ) → IsMember k → status_of after.statuses k ≡ Up → left k o c ≡ None → w.claims k o c ≡ None
    up k o c member is free = elim (cases_eq k m) [
      | inl e ↦ absurd (not_up (status_of after.statuses m) r.status (subst (λ x. status_of after.statuses x ≡ Up) e is))
      | inr ne ↦ t.up k o c member (sym (r.statuses k ne member) ∙ is) (sym (r.others k o c ne) ∙ free)
    ]

    live : (k : ℕ) → 1 ≤ k → k ≤ after.members → put w.live m true k ≡ is_live_in after k
    live k a b = elim (cases_eq k m) [
      | inl e ↦ cond-true (k == m) true (w.live k) (subst (λ x. (x == m) ≡ true) (sym e) (eq-eqb m m refl)) ∙ subst (λ x. true ≡ is_live_in after x) (sym e) (live_now (status_of after.statuses m) r.status)
      | inr ne ↦ cond-false (k == m) true (w.live k) (ne_eqb k m ne) ∙ t.live k a (subst (λ x. k ≤ x) r.members b) ∙ ap is_live (sym (r.statuses k ne (a, omega (arith, b, r.most))))
    ]
