-- A member that is up again, and events that have no move.
use Rattle.std.proofs.Common.{◌≡◌, ℕ, ◌≤◌, refl, sym, ◌∙◌, ap, subst, Bool, true, false, inl, inr, List, Option, Some, None}
use Rattle.std.specs.Prelude.{◌≢◌, ◌==◌, ◌&&◌, ◌-◌, if◌then◌else◌, is_none, slice_set}
use Rattle.std.proofs.lemmas.Bool.{cond-false, cases_eq, and_left, eq-eqb, ne_eqb}
use Rattle.ds_base.specs.Ids.{IsMember}
use Rattle.lock_names.specs.declared.mode.Mode.{Mode}
use Rattle.list_structure.specs.declared.standing.MemberStatus.{MemberStatus}
use Rattle.list_structure.specs.declared.standing.MemberStatus.TheVariants.{Up, Down, Restarting}
use Rattle.list_structure.specs.declared.query.Cell.{Cell as FacilityCell}
use Rattle.list_structure.specs.Askers.{slot_of}
use Rattle.list_structure.specs.Cells.{cell_of}
use Rattle.list_structure.specs.Standings.{status_of, is_live}
use Rattle.list_structure.specs.States.{ListsState}
use Rattle.lock_protocol.specs.Machine.{Record, Empty, given_up}
use Rattle.lock_world.specs.Views.{is_member, is_slot, as_cell, is_live_in}
use Rattle.lock_world.specs.Tied.{Claims, ClaimTied, Tied}
use Rattle.lock_world.specs.Standing.{unknown, RisesMoves, StaysTied}
use Rattle.lock_world.proofs.Names.{still_none}
use Rattle.lock_world.proofs.Statuses.{status_apart, status_set}

-- ---- up
known_tied : (a : Bool) (x y : Option Mode) (r : Option Record) → ClaimTied x y r → ClaimTied (if a && is_none y then None else x) y r
known_tied false x y r t = t
known_tied true x None r t = tt
known_tied true x (Some m) r t = t

up_none : (a : Bool) (x y : Option Mode) → a ≡ true → y ≡ None → (if a && is_none y then None else x) ≡ None
up_none true x y a e = subst (λ (z : Option Mode). (if is_none z then None else x) ≡ None) (sym e) refl
up_none false x y a e = cc

not_down : (s : MemberStatus) → s ≡ Restarting → s ≡ Down → ⊥
not_down s a b = cc

live_both : (s t : MemberStatus) → s ≡ Restarting → t ≡ Up → is_live s ≡ is_live t
live_both s t a b = subst (λ x. is_live x ≡ is_live t) (sym a) (subst (λ x. true ≡ is_live x) (sym b) refl)

pub rises : RisesMoves
rises w locks lists now held m t x few before cells members statuses =
    let v = given_up w m (unknown held m) in
    record {
      same = refl;
      world = v;
      run = (v, refl, refl);
      tied = record {
        versions = t.versions;
        interest = t.interest;
        records = t.records;
        claims = claims;
        down = t.down;
        up = up;
        own = λ k o c own ne. still_none ((k == m) && unknown held m o c) (w.claims k o c) (t.own k o c own ne);
        cells = λ a o k. t.cells a o k ∙ ap (λ (z : List FacilityCell). if is_member a && (is_slot o && is_member k) then as_cell (cell_of z (slot_of a o) k) else Empty) (sym cells);
        live = live;
      };
    }
  where
    apart : (k : ℕ) → 1 ≤ k → k ≢ m → status_of now.statuses k ≡ status_of lists.statuses k
    apart k a ne = ap (λ s. status_of s k) statuses ∙ status_apart lists.statuses k m Up a x.0 ne

    now_up : status_of now.statuses m ≡ Up
    now_up = ap (λ s. status_of s m) statuses ∙ status_set lists.statuses m Up (not_down (status_of lists.statuses m) before)

    claims : (k o c : ℕ) → w.live k ≡ true → ClaimTied (if (k == m) && unknown held m o c then None else w.claims k o c) (held k o c) (w.records k c)
    claims k o c live = elim (cases_eq k m) [
      | inl e ↦ subst (λ z. ClaimTied (if (z == m) && unknown held m o c then None else w.claims z o c) (held z o c) (w.records z c)) (sym e) (known_tied (m == m) (w.claims m o c) (held m o c) (w.records m c) (t.claims m o c (subst (λ z. w.live z ≡ true) e live)))
      | inr ne ↦ subst (λ z. ClaimTied z (held k o c) (w.records k c)) (sym (cond-false ((k == m) && unknown held m o c) None (w.claims k o c) (and_left (k == m) (unknown held m o c) (ne_eqb k m ne)))) (t.claims k o c live)
    ]

    up : (k o c : ℕ) → IsMember k → status_of now.statuses k ≡ Up → held k o c ≡ None → (if (k == m) && unknown held m o c then None else w.claims k o c) ≡ None
    up k o c member is_up free = elim (cases_eq k m) [
      | inl e ↦ up_none (k == m) (w.claims k o c) (held m o c) (subst (λ z. (z == m) ≡ true) (sym e) (eq-eqb m m refl)) (subst (λ z. held z o c ≡ None) e free)
      | inr ne ↦ still_none ((k == m) && unknown held m o c) (w.claims k o c) (t.up k o c member (sym (apart k member.0 ne) ∙ is_up) free)
    ]

    live : (k : ℕ) → 1 ≤ k → k ≤ now.members → w.live k ≡ is_live_in now k
    live k a b = t.live k a (subst (λ z. k ≤ z) members b) ∙ elim (cases_eq k m) [
      | inl e ↦ subst (λ z. is_live_in lists z ≡ is_live_in now z) (sym e) (live_both (status_of lists.statuses m) (status_of now.statuses m) before now_up)
      | inr ne ↦ ap is_live (sym (apart k a ne))
    ]

-- ---- no move
pub stays : StaysTied
stays w locks lists now held left t s = record {
  same = refl;
  world = w;
  run = refl;
  tied = record {
    versions = t.versions;
    interest = t.interest;
    records = t.records;
    claims = λ k o c live. subst (λ z. ClaimTied (w.claims k o c) z (w.records k c)) (sym (s.claims k o c)) (t.claims k o c live);
    down = λ k o c dead. s.claims k o c ∙ t.down k o c dead;
    up = λ k o c member up free. t.up k o c member (ap (λ z. status_of z k) (sym s.statuses) ∙ up) (sym (s.claims k o c) ∙ free);
    own = t.own;
    cells = λ a o k. t.cells a o k ∙ ap (λ (z : List FacilityCell). if is_member a && (is_slot o && is_member k) then as_cell (cell_of z (slot_of a o) k) else Empty) (sym s.cells);
    live = λ k a b. t.live k a (subst (λ z. k ≤ z) s.members b) ∙ ap (λ z. is_live (status_of z k)) (sym s.statuses);
  };
}
