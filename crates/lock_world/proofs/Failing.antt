-- A failure in the world and in the group, and the start of both.
use Rattle.std.proofs.Common.{◌≡◌, ℕ, zero, suc, ◌≤◌, ◌<◌, refl, sym, ◌∙◌, ap, subst, arith, Bool, true, false, inl, inr, List, [], ◌∷◌, Option, Some, None}
use Rattle.std.specs.Prelude.{◌≢◌, ◌⊎◌, ◌==◌, ◌&&◌, ◌||◌, if◌then◌else◌, length, replicate, nat_le, nat_lt, slice_index_or}
use Rattle.std.proofs.lemmas.Bool.{cond_both, cond-true, cond-false, cases_Bool, cases_eq, both_ways, and_parts, or_left, or_right, eqb-true, eq-eqb, ne_eqb, leb-true, le-leb, ltb-true, ltb-false}
use Rattle.std.proofs.lemmas.List.{get_or_past, length-replicate}
use Rattle.std.proofs.lemmas.Nat.Bits.{bit_at-zero}
use Rattle.ds_base.specs.Ids.{IsMember}
use Rattle.lock_names.specs.declared.mode.Mode.{Mode}
use Rattle.lock_names.specs.declared.mode.Interest.{Interest}
use Rattle.lock_structure.specs.declared.entry.Entry.{Entry}
use Rattle.lock_structure.specs.declared.chain.Record.{Record as FacilityRecord}
use Rattle.lock_structure.specs.Entries as entries
use Rattle.lock_structure.specs.Records as records
use Rattle.lock_structure.specs.Locks.{Locks, HasFailed, empty_locks, entry_at, interest_of, record_of}
use Rattle.list_structure.specs.declared.query.Cell.{Cell as FacilityCell}
use Rattle.list_structure.specs.declared.query.Cell.TheVariants as cell
use Rattle.list_structure.specs.declared.standing.MemberStatus.{MemberStatus}
use Rattle.list_structure.specs.declared.standing.MemberStatus.TheVariants.{Up, Down, Failed}
use Rattle.list_structure.specs.Askers.{slot_of}
use Rattle.list_structure.specs.Cells.{AreCells, cell_of, without_member}
use Rattle.list_structure.specs.Standings.{status_of, is_live}
use Rattle.list_structure.specs.States.{ListsState, IsNew}
use Rattle.facility.specs.States.{ListsFailed}
use Rattle.lock_protocol.specs.Functions.{put}
use Rattle.lock_protocol.specs.Machine.{World, Record, Cell, Empty, no_interest, retained_record, retained_claim, failed, start}
use Rattle.lock_world.specs.Numbers.{name_at}
use Rattle.lock_world.specs.Views.{is_member, as_cell, as_record, cell_in, is_live_in, version_in, interest_in, record_in}
use Rattle.lock_world.specs.Tied.{Claims, ClaimTied, Tied}
use Rattle.lock_world.specs.Failing.{Forgets, KnowsNone, FailsMoves, StartsTied, BeginsAnew}
use Rattle.lock_world.proofs.Cells.{CellsTied, is_there, set_cells, was_there, was_not}
use Rattle.lock_world.proofs.Records.{not_member}
use Rattle.lock_world.proofs.Statuses.{status_apart, status_or}

-- ---- blank entries
none_in : (k : ℕ) → entries.has_member 0 k ≡ false
none_in k = ap (λ b. b == 1) (bit_at-zero _)

pub blank_interest : (k : ℕ) → entries.interest_in entries.blank k ≡ no_interest
blank_interest k = subst (λ (b : Bool). record { share = b; exclusive = b } ≡ no_interest) (sym (none_in k)) refl

-- ---- a failure
fail_interest : (w : World) (locks after : Locks) (m : ℕ) → IsMember m → ((k e : ℕ) → w.interest k e ≡ interest_in locks k e) → HasFailed locks m after → (k e : ℕ) → (if k == m then no_interest else w.interest k e) ≡ interest_in after k e
fail_interest w locks after m x tied is k e = cond_both (is_member k) (interest_of after k e) no_interest (λ y. (if k == m then no_interest else w.interest k e) ≡ y) inside outside
  where
    past : length locks.entries ≤ e → (entry_at locks e ≡ entries.blank) × (entry_at after e ≡ entries.blank)
    past le = (get_or_past locks.entries e entries.blank le, get_or_past after.entries e entries.blank (subst (λ n. n ≤ e) (sym is.same) le))

    was : is_member k ≡ true → w.interest k e ≡ interest_of locks k e
    was t = tied k e ∙ cond-true (is_member k) (interest_of locks k e) no_interest t

    kept_past : is_member k ≡ true → length locks.entries ≤ e → w.interest k e ≡ interest_of after k e
    kept_past t le = was t ∙ ap (λ (x : Entry). entries.interest_in x k) ((past le).0 ∙ sym (past le).1)

    gone_past : length locks.entries ≤ e → no_interest ≡ interest_of after k e
    gone_past le = sym (blank_interest k) ∙ ap (λ (x : Entry). entries.interest_in x k) (sym (past le).1)

    both_past : is_member k ≡ true → length locks.entries ≤ e → (b : Bool) → (if b then no_interest else w.interest k e) ≡ interest_of after k e
    both_past t le true = gone_past le
    both_past t le false = kept_past t le

    same_if : (b : Bool) (x : Interest) → w.interest k e ≡ x → (if b then no_interest else w.interest k e) ≡ (if b then entries.no_interest else x)
    same_if true x s = refl
    same_if false x s = s

    inside : is_member k ≡ true → (if k == m then no_interest else w.interest k e) ≡ interest_of after k e
    inside t = elim (cases_Bool (nat_lt e (length locks.entries))) [
      | inl lt ↦ same_if (k == m) (interest_of locks k e) (was t) ∙ sym (is.interest k e (leb-true 1 k (and_parts (nat_le 1 k) (nat_le k 32) t).0, leb-true k 32 (and_parts (nat_le 1 k) (nat_le k 32) t).1) (ltb-true e (length locks.entries) lt))
      | inr ge ↦ both_past t (ltb-false e (length locks.entries) ge) (k == m)
    ]

    outside : is_member k ≡ false → (if k == m then no_interest else w.interest k e) ≡ no_interest
    outside t = cond-false (k == m) no_interest (w.interest k e) (not_member k m x t) ∙ tied k e ∙ cond-false (is_member k) (interest_of locks k e) no_interest t

failed_same : (y : Option FacilityRecord) → retained_record (as_record y) ≡ as_record (records.after_failure y)
failed_same None = refl
failed_same (Some r) = refl

fail_pick : (b : Bool) (x : Option Record) (y : Option FacilityRecord) → x ≡ as_record y → (if b then retained_record x else x) ≡ as_record (if b then records.after_failure y else y)
fail_pick true x y e = ap retained_record e ∙ failed_same y
fail_pick false x y e = e

fail_records : (w : World) (locks after : Locks) (m : ℕ) → IsMember m → ((k c : ℕ) → w.records k c ≡ record_in locks k c) → HasFailed locks m after → (k c : ℕ) → (if k == m then retained_record (w.records k c) else w.records k c) ≡ record_in after k c
fail_records w locks after m x tied is k c = cond_both (is_member k) (as_record (record_of after k (name_at c))) None (λ y. (if k == m then retained_record (w.records k c) else w.records k c) ≡ y) inside outside
  where
    there : Option FacilityRecord
    there = record_of locks k (name_at c)

    inside : is_member k ≡ true → (if k == m then retained_record (w.records k c) else w.records k c) ≡ as_record (record_of after k (name_at c))
    inside t = fail_pick (k == m) (w.records k c) there (tied k c ∙ cond-true (is_member k) (as_record there) None t) ∙ ap as_record (sym (is.records.now k (name_at c)))

    outside : is_member k ≡ false → (if k == m then retained_record (w.records k c) else w.records k c) ≡ None
    outside t = cond-false (k == m) (retained_record (w.records k c)) (w.records k c) (not_member k m x t) ∙ tied k c ∙ cond-false (is_member k) (as_record there) None t

fail_cell : (b : Bool) (y : Cell) (v : FacilityCell) → y ≡ as_cell v → (if b then Empty else y) ≡ as_cell (if b then cell.Empty else v)
fail_cell true y v e = refl
fail_cell false y v e = e

fail_none : (b : Bool) (y : Cell) → y ≡ Empty → (if b then Empty else y) ≡ Empty
fail_none true y e = refl
fail_none false y e = e

fail_cells : (w : World) (lists now : ListsState) (m : ℕ) → CellsTied w lists → AreCells now.cells (without_member lists.cells m) → CellsTied (failed w m) now
fail_cells w lists now m cells are = set_cells (failed w m) now (without_member lists.cells m) are
    (λ a o k t. fail_cell ((a == m) || (k == m)) (w.cells a o k) (cell_of lists.cells (slot_of a o) k) (was_there w lists a o k cells t))
    (λ a o k t. fail_none ((a == m) || (k == m)) (w.cells a o k) (was_not w lists a o k cells t))

none_kept : (b : Bool) (x : Option Mode) → x ≡ None → (if b then retained_claim x else x) ≡ None
none_kept true x e = ap retained_claim e
none_kept false x e = e

is_dead : (s t : MemberStatus) → s ≡ t → is_live t ≡ false → false ≡ is_live s
is_dead s t e d = subst (λ x. false ≡ is_live x) (sym e) (sym d)

not_up : (s t : MemberStatus) → s ≡ t → is_live t ≡ false → s ≡ Up → ⊥
not_up s t a d b = both_ways (is_live s) (sym (is_dead s t a d)) (ap is_live b)

pub fails : FailsMoves
fails w locks after lists now held left m t x few is lost r =
    let v = failed w m in
    record {
      same = is.same;
      world = v;
      run = (v, refl, refl);
      tied = record {
        versions = λ e. t.versions e ∙ sym (is.versions e);
        interest = fail_interest w locks after m x t.interest is;
        records = fail_records w locks after m x t.records is;
        claims = claims;
        down = down;
        up = up;
        own = λ k o c own ne. none_kept (k == m) (w.claims k o c) (t.own k o c own ne);
        cells = fail_cells w lists now m t.cells lost.cells;
        live = live;
      };
    }
  where
    statuses : (k : ℕ) → 1 ≤ k → k ≢ m → status_of now.statuses k ≡ status_of lists.statuses k
    statuses k a ne = ap (λ (s : ListsState). status_of s.statuses k) lost.others ∙ status_apart lists.statuses k m Failed a x.0 ne

    status : (status_of now.statuses m ≡ Failed) ⊎ (status_of now.statuses m ≡ Down)
    status = subst (λ (s : ListsState). (status_of s.statuses m ≡ Failed) ⊎ (status_of s.statuses m ≡ Down)) (sym lost.others) (status_or lists.statuses m Failed)

    members : now.members ≡ lists.members
    members = ap (λ (s : ListsState). s.members) lost.others

    dead : put w.live m false m ≡ false
    dead = cond-true (m == m) false (w.live m) (eq-eqb m m refl)

    claims : (k o c : ℕ) → put w.live m false k ≡ true → ClaimTied (if k == m then retained_claim (w.claims k o c) else w.claims k o c) (left k o c) (if k == m then retained_record (w.records k c) else w.records k c)
    claims k o c live = elim (cases_eq k m) [
      | inl e ↦ absurd (both_ways (put w.live m false m) dead (subst (λ z. put w.live m false z ≡ true) e live))
      | inr ne ↦ subst (λ b. ClaimTied (if b then retained_claim (w.claims k o c) else w.claims k o c) (left k o c) (if b then retained_record (w.records k c) else w.records k c)) (sym (ne_eqb k m ne))
          (subst (λ z. ClaimTied (w.claims k o c) z (w.records k c)) (sym (r.others k o c ne)) (t.claims k o c (sym (cond-false (k == m) false (w.live k) (ne_eqb k m ne)) ∙ live)))
    ]

    down : (k o c : ℕ) → put w.live m false k ≡ false → left k o c ≡ None
    down k o c gone = elim (cases_eq k m) [
      | inl e ↦ subst (λ z. left z o c ≡ None) (sym e) (r.empty o c)
      | inr ne ↦ r.others k o c ne ∙ t.down k o c (sym (cond-false (k == m) false (w.live k) (ne_eqb k m ne)) ∙ gone)
    ]

    own_up : status_of now.statuses m ≡ Up → ⊥
    own_up up = elim status [
      | inl e ↦ not_up (status_of now.statuses m) Failed e refl up
      | inr e ↦ not_up (status_of now.statuses m) Down e refl up
    ]

    up : (k o c : ℕ) → IsMember k → status_of now.statuses k ≡ Up → left k o c ≡ None → (if k == m then retained_claim (w.claims k o c) else w.claims k o c) ≡ None
    up k o c member is_up free = elim (cases_eq k m) [
      | inl e ↦ absurd (own_up (subst (λ z. status_of now.statuses z ≡ Up) e is_up))
      | inr ne ↦ none_kept (k == m) (w.claims k o c) (t.up k o c member (sym (statuses k member.0 ne) ∙ is_up) (sym (r.others k o c ne) ∙ free))
    ]

    own_live : false ≡ is_live_in now m
    own_live = elim status [
      | inl e ↦ is_dead (status_of now.statuses m) Failed e refl
      | inr e ↦ is_dead (status_of now.statuses m) Down e refl
    ]

    live : (k : ℕ) → 1 ≤ k → k ≤ now.members → put w.live m false k ≡ is_live_in now k
    live k a b = elim (cases_eq k m) [
      | inl e ↦ subst (λ z. put w.live m false z ≡ is_live_in now z) (sym e) (dead ∙ own_live)
      | inr ne ↦ cond-false (k == m) false (w.live k) (ne_eqb k m ne) ∙ t.live k a (subst (λ z. k ≤ z) members b) ∙ ap is_live (sym (statuses k a ne))
    ]

-- ---- the start
same_each : {A : Type 0} → (n i : ℕ) (a : A) → slice_index_or (replicate n a) i a ≡ a
same_each zero i a = refl
same_each (suc n) zero a = refl
same_each (suc n) (suc i) a = same_each n i a

pub starts : StartsTied
starts entries_count record_room page_room agents lists held few new none = record {
  versions = λ e. ap (λ (x : Entry). x.version) (sym (same_each entries_count e entries.blank));
  interest = λ k e. cond_both (is_member k) (interest_of locks k e) no_interest (λ y. no_interest ≡ y) (λ t. sym (blank_interest k) ∙ ap (λ (x : Entry). entries.interest_in x k) (sym (same_each entries_count e entries.blank))) (λ t. refl);
  records = λ k c. cond_both (is_member k) (as_record (record_of locks k (name_at c))) None (λ y. None ≡ y) (λ t. refl) (λ t. refl);
  claims = λ k o c live. subst (λ z. ClaimTied None z None) (sym (none k o c)) tt;
  down = λ k o c dead. none k o c;
  up = λ k o c member up free. refl;
  own = λ k o c own ne. refl;
  cells = set_cells start lists (λ a m. cell.Empty) new.cells (λ a o k t. refl) (λ a o k t. refl);
  live = λ k a b. ap is_live (sym (new.statuses.each k (a, omega (arith, b, few)) ∙ cond-true (nat_le k lists.members) Up Down (le-leb k lists.members b)));
}
  where
    locks : Locks
    locks = empty_locks entries_count record_room page_room

pub begins_anew : BeginsAnew
begins_anew w before record_room page_room agents lists held few new none = record {
  same = length-replicate (length before.entries) entries.blank;
  world = start;
  run = (start, refl, refl);
  tied = starts (length before.entries) record_room page_room agents lists held few new none;
}
