-- A grant in the world and in the group.
use Rattle.std.proofs.Common.{◌≡◌, ℕ, zero, suc, ◌+◌, ◌≤◌, refl, sym, ◌∙◌, ap, subst, arith, Bool, true, false, inl, inr, List, [], ◌∷◌, ◌++◌, Option, Some, None}
use Rattle.std.specs.Prelude.{◌≢◌, ◌⊎◌, ◌==◌, ◌&&◌, not, cond, if◌then◌else◌}
use Rattle.std.proofs.lemmas.Bool.{cond_both, cond-true, cond-false, cases_Bool, cases_eq, both_ways, and_parts, or_cases, or_left, or_right, eqb-true, eq-eqb, ne_eqb}
use Rattle.ds_base.specs.Ids.{IsMember}
use Rattle.ds_model.specs.declared.lock.Name.{Name}
use Rattle.lock_names.specs.declared.mode.Mode.{Mode}
use Rattle.lock_names.specs.declared.mode.Mode.TheVariants.{IS, IX, S, U, SIX, X}
use Rattle.lock_names.specs.declared.mode.Class.{Class}
use Rattle.lock_names.specs.declared.mode.Class.TheVariants.{Share, Exclusive}
use Rattle.lock_names.specs.declared.mode.Interest.{Interest}
use Rattle.lock_names.specs.Modes.{are_compatible, is_same, join_of, class_of, is_recorded}
use Rattle.lock_names.specs.Names.{same_name}
use Rattle.lock_structure.specs.declared.chain.Record.{Record as FacilityRecord}
use Rattle.lock_structure.specs.Entries as entries
use Rattle.lock_structure.specs.Records as records
use Rattle.lock_structure.specs.Locks.{Locks, IsLowest, IsGranted, entry_for, place_of, interest_of, record_of, keeps_out, is_kept_out, is_clean, stands}
use Rattle.list_structure.specs.declared.query.Cell.{Cell as FacilityCell}
use Rattle.list_structure.specs.declared.query.Cell.TheVariants as cell
use Rattle.list_structure.specs.declared.query.CellAnswer.TheVariants as said
use Rattle.list_structure.specs.Askers.{slot_of}
use Rattle.list_structure.specs.Cells.{cell_of}
use Rattle.facility.specs.LockCommands.{is_about, clean_version, stamped, clean_among, clean_answers}
use Rattle.list_structure.specs.States.{ListsState}
use Rattle.list_structure.specs.Standings.{status_of, is_live}
use Rattle.list_structure.specs.declared.standing.MemberStatus.{MemberStatus}
use Rattle.list_structure.specs.declared.standing.MemberStatus.TheVariants.{Up, Restarting}
use Rattle.lock_manager.specs.Claims.{is_in_way}
use Rattle.lock_protocol.specs.Functions.{alter, alter2, put2}
use Rattle.lock_protocol.specs.Machine.{World, Record, RetainedCovers, RetainedAllows, no_interest, with_class, blocks, allows, wanted, joined, recorded_as, granted, entered, cleared, Clean, Empty}
use Rattle.lock_protocol.specs.Moves.{Obtain, Grant, NotRetained, NoContention, AllClean, NoLocalConflict, Step, enter_if}
use Rattle.lock_world.specs.Numbers.{number, name_at}
use Rattle.lock_world.specs.Views.{is_member, entry_in, version_in, interest_in, record_in, as_record, as_cell, cell_in, is_live_in}
use Rattle.lock_world.specs.Tied.{Claims, IsOlder, ClaimTied, is_own, Tied}
use Rattle.lock_world.specs.Grants.{Enters, EntersIf, MayEnter, NoneInWay, ObtainsMoves, GrantsMoves}
use Rattle.lock_world.proofs.Numbers.{named}
use Rattle.lock_world.proofs.Cells.{is_there, there_so, member_is, member_so, clear_cells, still}
use Rattle.lock_world.proofs.Records.{no_way, same_eq, alters, sets_interest, entry_of_number, if_as}

-- ---- the guards
compatible_if : (a b : Bool) → (a && not b) ≡ false → a ≡ true → b ≡ true
compatible_if true true h e = refl
compatible_if true false h e = absurd (both_ways true h refl)
compatible_if false b h e = absurd (both_ways false refl e)

allowed : (y : Option FacilityRecord) (mode : Mode) → is_kept_out y mode ≡ false → RetainedAllows (as_record y) mode
allowed None mode h = tt
allowed (Some r) mode h = compatible_if r.retained (are_compatible r.mode mode) h

other_test : (a b : Bool) → a ≡ false → (not a && b) ≡ false → b ≡ false
other_test false b e h = h
other_test true b e h = absurd (both_ways true e refl)

not_retained : (w : World) (locks : Locks) (m : ℕ) (n : Name) (mode : Mode) → ((k c : ℕ) → w.records k c ≡ record_in locks k c) → IsLowest (keeps_out locks m n mode) None → NotRetained w m (number n) mode
not_retained w locks m n mode tied lowest k ne = subst (λ r. RetainedAllows r mode) (sym (tied k (number n)))
    (cond_both (is_member k) (as_record (record_of locks k (name_at (number n)))) None (λ r. RetainedAllows r mode)
    (λ t. subst (λ x. RetainedAllows (as_record (record_of locks k x)) mode) (sym (named n)) (allowed (record_of locks k n) mode (other_test (k == m) (is_kept_out (record_of locks k n) mode) (ne_eqb k m ne) (lowest k (member_is k t)))))
    (λ t. tt))

same_blocks : (c : Class) (i : Interest) → blocks c i ≡ entries.blocks c i
unfolding blocks Rattle.lock_structure.specs.Entries.blocks
same_blocks Share i = refl
same_blocks Exclusive i = refl

none_blocks : (c : Class) → blocks c no_interest ≡ false
unfolding blocks
none_blocks Share = refl
none_blocks Exclusive = refl

and_true : (b : Bool) → (b && true) ≡ false → b ≡ false
and_true true h = absurd (both_ways true h refl)
and_true false h = refl

no_contention : (w : World) (locks : Locks) (m : ℕ) (n : Name) (mode : Mode) → ((k e : ℕ) → w.interest k e ≡ interest_in locks k e) → IsLowest (stands (entry_for locks n) m mode []) None → NoContention (entry_in locks) w m (number n) mode
no_contention w locks m n mode tied lowest k ne live = subst (λ i. blocks (class_of mode) i ≡ false) (sym (tied k (entry_in locks (number n))))
    (cond_both (is_member k) (interest_of locks k (entry_in locks (number n))) no_interest (λ i. blocks (class_of mode) i ≡ false)
    (λ t. subst (λ e. blocks (class_of mode) (interest_of locks k e) ≡ false) (sym (entry_of_number locks n)) (same_blocks (class_of mode) (interest_of locks k (place_of locks n)) ∙ in_entry t))
    (λ t. none_blocks (class_of mode)))
  where
    in_entry : is_member k ≡ true → entries.blocks (class_of mode) (interest_of locks k (place_of locks n)) ≡ false
    in_entry t = and_true (entries.blocks (class_of mode) (interest_of locks k (place_of locks n))) (other_test (k == m) (entries.blocks (class_of mode) (interest_of locks k (place_of locks n)) && true) (ne_eqb k m ne) (lowest k (member_is k t)))

compatible_of : (b : Bool) → not b ≡ false → b ≡ true
compatible_of true h = refl
compatible_of false h = absurd (both_ways true h refl)

allowed_claim : (c x : Option Mode) (r : Option Record) (mode : Mode) → ClaimTied c x r → (x ≡ None → c ≡ None) → is_in_way x mode ≡ false → allows c mode ≡ true
allowed_claim c None r mode t none free = subst (λ z. allows z mode ≡ true) (sym (none refl)) refl
allowed_claim c (Some m) r mode t none free = subst (λ z. allows z mode ≡ true) (sym t) (compatible_of (are_compatible m mode) free)

is_live_up : (s : MemberStatus) → s ≡ Up → is_live s ≡ true
is_live_up s e = subst (λ x. is_live x ≡ true) (sym e) refl

is_live_restarting : (s : MemberStatus) → s ≡ Restarting → is_live s ≡ true
is_live_restarting s e = subst (λ x. is_live x ≡ true) (sym e) refl

pub live_of : (w : World) (locks : Locks) (lists : ListsState) (held : Claims) (m owner : ℕ) (n : Name) (mode : Mode) → Tied w locks lists held → MayEnter lists held m owner n mode → w.live m ≡ true
live_of w locks lists held m owner n mode t may = t.live m may.member.0 may.among ∙ elim may.stands [
  | inl up ↦ is_live_up (status_of lists.statuses m) up
  | inr own ↦ is_live_restarting (status_of lists.statuses m) own.0
]

-- the claims of a member that is up are those that it knows of
pub exact : (c x : Option Mode) (r : Option Record) → ClaimTied c x r → (x ≡ None → c ≡ None) → c ≡ x
exact c None r t none = none refl
exact c (Some m) r t none = t

all_join : (a : Mode) → join_of a X ≡ X
unfolding join_of
all_join a = grind arith

wants_x : (c : Option Mode) (mode : Mode) → mode ≡ X → wanted c mode ≡ mode
wants_x None mode e = refl
wants_x (Some a) mode e = subst (λ m. join_of a m ≡ m) (sym e) (all_join a)

pub joined_of : (w : World) (locks : Locks) (lists : ListsState) (held : Claims) (m owner : ℕ) (n : Name) (mode : Mode) → Tied w locks lists held → MayEnter lists held m owner n mode → wanted (w.claims m owner (number n)) mode ≡ mode
joined_of w locks lists held m owner n mode t may = elim may.stands [
  | inl up ↦ ap (λ c. wanted c mode) (exact (w.claims m owner (number n)) (held m owner (number n)) (w.records m (number n)) (t.claims m owner (number n) (live_of w locks lists held m owner n mode t may)) (t.up m owner (number n) may.member up)) ∙ may.joined
  | inr own ↦ wants_x (w.claims m owner (number n)) mode own.2
]

own_free : (w : World) (locks : Locks) (lists : ListsState) (held : Claims) (m owner : ℕ) (n : Name) (mode : Mode) → Tied w locks lists held → MayEnter lists held m owner n mode → is_own n ≡ true → NoLocalConflict w m owner (number n) mode
own_free w locks lists held m owner n mode t may own q ne =
    subst (λ c. allows c mode ≡ true) (sym (t.own m q (number n) (subst (λ x. is_own x ≡ true) (sym (named n)) own) (λ e. ne (e ∙ sym (may.owners own))))) refl

not_both : {A : Type 0} (b : Bool) → b ≡ true → b ≡ false → A
not_both b x y = absurd (both_ways b y x)

agent_free : (w : World) (locks : Locks) (lists : ListsState) (held : Claims) (m owner : ℕ) (n : Name) (mode : Mode) → Tied w locks lists held → MayEnter lists held m owner n mode → NoneInWay held m owner n mode → is_own n ≡ false → NoLocalConflict w m owner (number n) mode
agent_free w locks lists held m owner n mode t may free agent q ne = elim may.stands [
  | inl up ↦ allowed_claim (w.claims m q (number n)) (held m q (number n)) (w.records m (number n)) mode (t.claims m q (number n) (live_of w locks lists held m owner n mode t may)) (t.up m q (number n) may.member up) (free agent q ne)
  | inr own ↦ not_both (is_own n) own.1 agent
]

pub no_conflict : (w : World) (locks : Locks) (lists : ListsState) (held : Claims) (m owner : ℕ) (n : Name) (mode : Mode) → Tied w locks lists held → MayEnter lists held m owner n mode → NoneInWay held m owner n mode → NoLocalConflict w m owner (number n) mode
no_conflict w locks lists held m owner n mode t may free = elim (cases_Bool (is_own n)) [
  | inl own ↦ own_free w locks lists held m owner n mode t may own
  | inr agent ↦ agent_free w locks lists held m owner n mode t may free agent
]

-- ---- what is left
with_class_same : (c : Class) (i : Interest) → with_class c i ≡ entries.with_class c i
with_class_same Share i = refl
with_class_same Exclusive i = refl

joined_same : (y : Option FacilityRecord) (mode : Mode) → Some (joined (as_record y) mode) ≡ as_record (Some (records.joined y mode))
joined_same None mode = refl
joined_same (Some r) mode = refl

if_same : {A : Type 0} (b : Bool) (x y z : A) → x ≡ y → (if b then x else z) ≡ (if b then y else z)
if_same true x y z e = e
if_same false x y z e = refl

grant_same : (mode : Mode) (y : Option FacilityRecord) → recorded_as (as_record y) mode ≡ as_record (records.after_grant mode y)
grant_same mode y = if_same (is_recorded mode) (Some (joined (as_record y) mode)) (as_record (Some (records.joined y mode))) (as_record y) (joined_same y mode) ∙ sym (if_as (is_recorded mode) (Some (records.joined y mode)) y)

raised : (b : Bool) (x y : ℕ) → x ≡ y → (if b then x + 1 else x) ≡ (if b then y + 1 else y)
raised true x y e = ap (λ z. z + 1) e
raised false x y e = e

grant_versions : (w : World) (locks after : Locks) (m : ℕ) (n : Name) (mode : Mode) → ((e : ℕ) → w.version e ≡ version_in locks e) → IsGranted locks m n mode after → (e : ℕ) → alter w.version (entry_in locks (number n)) (λ v. v + 1) e ≡ version_in after e
grant_versions w locks after m n mode tied is e =
    raised (e == entry_in locks (number n)) (w.version e) (version_in locks e) (tied e)
    ∙ ap (λ i. if e == i then version_in locks e + 1 else version_in locks e) (entry_of_number locks n)
    ∙ sym (is.versions e)

as_put : (f : ℕ → ℕ → Interest) (m at : ℕ) (g : Interest → Interest) (now : Interest) → g (f m at) ≡ now → (k e : ℕ) → alter2 f m at g k e ≡ put2 f m at now k e
as_put f m at g now is k e = elim (cases_Bool ((k == m) && (e == at))) [
  | inl t ↦
      let p = and_parts (k == m) (e == at) t in
      cond-true ((k == m) && (e == at)) (g (f k e)) (f k e) t
      ∙ (subst (λ x. g (f x e) ≡ now) (sym (eqb-true k m p.0)) (subst (λ y. g (f m y) ≡ now) (sym (eqb-true e at p.1)) is)
      ∙ sym (cond-true ((k == m) && (e == at)) now (f k e) t))
  | inr t ↦ cond-false ((k == m) && (e == at)) (g (f k e)) (f k e) t ∙ sym (cond-false ((k == m) && (e == at)) now (f k e) t)
]

grant_interest : (w : World) (locks after : Locks) (m : ℕ) (n : Name) (mode : Mode) → IsMember m → is_member m ≡ true → ((k e : ℕ) → w.interest k e ≡ interest_in locks k e) → IsGranted locks m n mode after
    → (k e : ℕ) → alter2 w.interest m (entry_in locks (number n)) (λ i. with_class (class_of mode) i) k e ≡ interest_in after k e
grant_interest w locks after m n mode x there tied is k e = as_put w.interest m (entry_in locks (number n)) (λ i. with_class (class_of mode) i) (entries.with_class (class_of mode) (interest_of locks m (place_of locks n))) now k e
    ∙ sets_interest w locks after m n (entries.with_class (class_of mode) (interest_of locks m (place_of locks n))) x tied is.interest k e
  where
    now : with_class (class_of mode) (w.interest m (entry_in locks (number n))) ≡ entries.with_class (class_of mode) (interest_of locks m (place_of locks n))
    now =
        ap (λ i. with_class (class_of mode) i) (tied m (entry_in locks (number n)) ∙ cond-true (is_member m) (interest_of locks m (entry_in locks (number n))) no_interest there ∙ ap (λ i. interest_of locks m i) (entry_of_number locks n))
        ∙ with_class_same (class_of mode) (interest_of locks m (place_of locks n))

-- claims of a failure stay behind a record that grows
join_keeps : (r c m : Mode) → join_of r c ≡ r → join_of (join_of r m) c ≡ join_of r m
unfolding join_of
join_keeps r c m e = grind arith

older_grown : (x : Option Mode) (r : Option Record) (mode : Mode) → IsOlder x r → IsOlder x (recorded_as r mode)
older_grown None r mode h = tt
older_grown (Some x) None mode h = absurd h
older_grown (Some x) (Some r) mode h = cond_both (is_recorded mode) (Some (joined (Some r) mode)) (Some r) (λ z. RetainedCovers z x) (λ t. (h.0, join_keeps r.mode x mode h.1)) (λ t. h)

grown : (x y : Option Mode) (r : Option Record) (mode : Mode) → ClaimTied x y r → ClaimTied x y (recorded_as r mode)
grown x None r mode h = older_grown x r mode h
grown x (Some m) r mode h = h

grown_at : (b : Bool) (x y : Option Mode) (r : Option Record) (mode : Mode) → ClaimTied x y r → ClaimTied x y (if b then recorded_as r mode else r)
grown_at true x y r mode h = grown x y r mode h
grown_at false x y r mode h = h

-- ---- the claim that is entered
abbrev pub enters_at : ℕ → ℕ → ℕ → Bool → ℕ → ℕ → ℕ → Bool
enters_at m owner n entered k o c = (k == m) && (entered && ((o == owner) && (c == n)))

pub enter_tied : (b : Bool) (x y : Option Mode) (r : Option Record) (mode : Mode) → ClaimTied x y r → ClaimTied (if b then Some mode else x) (if b then Some mode else y) r
enter_tied true x y r mode t = refl
enter_tied false x y r mode t = t

pub enter_none : (b : Bool) (x y : Option Mode) (mode : Mode) → (y ≡ None → x ≡ None) → (if b then Some mode else y) ≡ None → (if b then Some mode else x) ≡ None
enter_none true x y mode h e = e
enter_none false x y mode h e = h e

with_true : (a b : Bool) (x y : Option Mode) → a ≡ true → (if b then x else y) ≡ (if a && b then x else y)
with_true true b x y e = refl
with_true false b x y e = absurd (both_ways false refl e)

with_false : (a b : Bool) (x y : Option Mode) → a ≡ false → y ≡ (if a && b then x else y)
with_false false b x y e = refl
with_false true b x y e = absurd (both_ways true e refl)

pub left_at : (held left : Claims) (m owner : ℕ) (n : Name) (mode : Mode) (entered : Bool) → Enters held left m owner n mode entered
    → (k o c : ℕ) → left k o c ≡ (if enters_at m owner (number n) entered k o c then Some mode else held k o c)
left_at held left m owner n mode entered r k o c = elim (cases_eq k m) [
  | inl e ↦ subst (λ x. left x o c ≡ (if enters_at m owner (number n) entered x o c then Some mode else held x o c)) (sym e)
      (r.own o c ∙ with_true (m == m) (entered && ((o == owner) && (c == number n))) (Some mode) (held m o c) (eq-eqb m m refl))
  | inr ne ↦ r.others k o c ne ∙ with_false (k == m) (entered && ((o == owner) && (c == number n))) (Some mode) (held k o c) (ne_eqb k m ne)
]

pub own_none : (w : World) (m owner : ℕ) (n : Name) (mode : Mode) (entered : Bool) → (is_own n ≡ true → owner ≡ 0) → (k o c : ℕ) → is_own (name_at c) ≡ true → o ≢ 0 → w.claims k o c ≡ None
    → (if enters_at m owner (number n) entered k o c then Some mode else w.claims k o c) ≡ None
own_none w m owner n mode entered owners k o c own ne free = elim (cases_Bool (enters_at m owner (number n) entered k o c)) [
  | inl t ↦
      let p = and_parts (k == m) (entered && ((o == owner) && (c == number n))) t in
      let q = and_parts entered ((o == owner) && (c == number n)) p.1 in
      let s = and_parts (o == owner) (c == number n) q.1 in
      absurd (ne (eqb-true o owner s.0 ∙ owners (subst (λ x. is_own x ≡ true) (ap (λ x. name_at x) (eqb-true c (number n) s.1) ∙ named n) own)))
  | inr f ↦ cond-false (enters_at m owner (number n) entered k o c) (Some mode) (w.claims k o c) f ∙ free
]

-- nothing is known of members that aren't live
pub left_down : (w : World) (locks : Locks) (lists : ListsState) (held left : Claims) (m owner : ℕ) (n : Name) (mode : Mode) (entered : Bool)
    → Tied w locks lists held → MayEnter lists held m owner n mode → Enters held left m owner n mode entered → (k o c : ℕ) → w.live k ≡ false → left k o c ≡ None
left_down w locks lists held left m owner n mode entered t may r k o c dead = elim (cases_eq k m) [
  | inl e ↦ not_both (w.live m) (live_of w locks lists held m owner n mode t may) (subst (λ x. w.live x ≡ false) e dead)
  | inr ne ↦ r.others k o c ne ∙ t.down k o c dead
]

granted_tied : (w v : World) (locks after : Locks) (lists : ListsState) (held left : Claims) (m owner : ℕ) (n : Name) (mode : Mode) (entered : Bool)
    → Tied w locks lists held → MayEnter lists held m owner n mode → Enters held left m owner n mode entered → IsGranted locks m n mode after
    → v ≡ record (granted (entry_in locks) w m (number n) mode) { claims = v.claims }
    → ((k o c : ℕ) → v.claims k o c ≡ (if enters_at m owner (number n) entered k o c then Some mode else w.claims k o c)) → Tied v after lists left
granted_tied w v locks after lists held left m owner n mode entered t may r is same claims = record {
  versions = subst (λ (x : World). (e : ℕ) → x.version e ≡ version_in after e) (sym same) (grant_versions w locks after m n mode t.versions is);
  interest = subst (λ (x : World). (k e : ℕ) → x.interest k e ≡ interest_in after k e) (sym same) (grant_interest w locks after m n mode may.member (member_so m may.member) t.interest is);
  records = subst (λ (x : World). (k c : ℕ) → x.records k c ≡ record_in after k c) (sym same) (alters w locks after m n (records.after_grant mode) (λ z. recorded_as z mode) may.member (grant_same mode) t.records is.records);
  claims = subst (λ (x : World). (k o c : ℕ) → x.live k ≡ true → ClaimTied (v.claims k o c) (left k o c) (x.records k c)) (sym same) (λ k o c live.
      subst (λ z. ClaimTied z (left k o c) (grown_record k c)) (sym (claims k o c))
      (subst (λ z. ClaimTied (if enters_at m owner (number n) entered k o c then Some mode else w.claims k o c) z (grown_record k c)) (sym (left_at held left m owner n mode entered r k o c))
      (enter_tied (enters_at m owner (number n) entered k o c) (w.claims k o c) (held k o c) (grown_record k c) mode
      (grown_at ((k == m) && (c == number n)) (w.claims k o c) (held k o c) (w.records k c) mode (t.claims k o c live)))));
  down = λ k o c dead. left_down w locks lists held left m owner n mode entered t may r k o c (subst (λ (x : World). x.live k ≡ false) same dead);
  up = λ k o c member up free. claims k o c ∙ enter_none (enters_at m owner (number n) entered k o c) (w.claims k o c) (held k o c) mode (t.up k o c member up) (sym (left_at held left m owner n mode entered r k o c) ∙ free);
  own = λ k o c own ne. claims k o c ∙ own_none w m owner n mode entered may.owners k o c own ne (t.own k o c own ne);
  cells = subst (λ (x : World). (a o k : ℕ) → x.cells a o k ≡ cell_in lists a o k) (sym same) t.cells;
  live = subst (λ (x : World). (k : ℕ) → 1 ≤ k → k ≤ lists.members → x.live k ≡ is_live_in lists k) (sym same) t.live;
}
  where
    grown_record : ℕ → ℕ → Option Record
    grown_record k c = alter2 w.records m (number n) (λ z. recorded_as z mode) k c

-- ---- the move
obtain_step : (w : World) (locks : Locks) (lists : ListsState) (held : Claims) (m owner : ℕ) (n : Name) (mode : Mode) (b : Bool) → Tied w locks lists held → MayEnter lists held m owner n mode → (b ≡ true → NoneInWay held m owner n mode)
    → IsLowest (keeps_out locks m n mode) None → IsLowest (stands (entry_for locks n) m mode []) None
    → Step (entry_in locks) w (Obtain m owner (number n) mode b) (enter_if b (granted (entry_in locks) w m (number n) mode) m owner (number n) mode)
obtain_step w locks lists held m owner n mode b t may free kept stood =
    subst (λ x. (w.live m ≡ true) × NotRetained w m (number n) x × NoContention (entry_in locks) w m (number n) x × (b ≡ true → NoLocalConflict w m owner (number n) x)
    × (enter_if b (granted (entry_in locks) w m (number n) mode) m owner (number n) mode ≡ enter_if b (granted (entry_in locks) w m (number n) x) m owner (number n) x)) (sym (joined_of w locks lists held m owner n mode t may))
    (live_of w locks lists held m owner n mode t may, not_retained w locks m n mode t.records kept, no_contention w locks m n mode t.interest stood, (λ e. no_conflict w locks lists held m owner n mode t may (free e)), refl)

not_entered : (w : World) (m owner n k o c : ℕ) (mode : Mode) → w.claims k o c ≡ (if enters_at m owner n false k o c then Some mode else w.claims k o c)
not_entered w m owner n k o c mode = never (k == m)
  where
    never : (a : Bool) → w.claims k o c ≡ (if a && false then Some mode else w.claims k o c)
    never true = refl
    never false = refl

pub obtains : ObtainsMoves
obtains w locks after lists held left m owner n mode true t may r kept stood is =
    let v = entered (granted (entry_in locks) w m (number n) mode) m owner (number n) mode in
    record {
      same = is.same;
      world = v;
      run = (v, obtain_step w locks lists held m owner n mode true t may r.0 kept stood, refl);
      tied = granted_tied w v locks after lists held left m owner n mode true t may r.1 is refl (λ k o c. refl);
    }
obtains w locks after lists held left m owner n mode false t may r kept stood is =
    let v = granted (entry_in locks) w m (number n) mode in
    record {
      same = is.same;
      world = v;
      run = (v, obtain_step w locks lists held m owner n mode false t may r.0 kept stood, refl);
      tied = granted_tied w v locks after lists held left m owner n mode false t may r.1 is refl (λ k o c. not_entered w m owner (number n) k o c mode);
    }

-- ---- the answers of the others
clean_both : (xs ys : List (ℕ × ℕ)) (k v : ℕ) → is_clean (xs ++ ys) k v ≡ true → (is_clean xs k v ≡ true) ⊎ (is_clean ys k v ≡ true)
clean_both [] ys k v h = inr h
clean_both (c ∷ cs) ys k v h = elim (or_cases ((c.0 == k) && (c.1 == v)) (is_clean (cs ++ ys) k v) h) [
  | inl a ↦ inl (or_left ((c.0 == k) && (c.1 == v)) (is_clean cs k v) a)
  | inr b ↦ elim (clean_both cs ys k v b) [
    | inl a ↦ inl (or_right ((c.0 == k) && (c.1 == v)) (is_clean cs k v) a)
    | inr d ↦ inr d
  ]
]

stamp_is : (k : ℕ) (o : Option ℕ) (j v : ℕ) → is_clean (stamped k o) j v ≡ true → (k ≡ j) × (o ≡ Some v)
stamp_is k None j v h = absurd (no_way h)
stamp_is k (Some x) j v h = elim (or_cases ((k == j) && (x == v)) false h) [
  | inl a ↦ let p = and_parts (k == j) (x == v) a in (eqb-true k j p.0, ap Some (eqb-true x v p.1))
  | inr b ↦ absurd (no_way b)
]

among_is : (f : ℕ → Option ℕ) (count k v : ℕ) → is_clean (clean_among f count) k v ≡ true → f k ≡ Some v
unfolding clean_among
among_is f zero k v h = absurd (no_way h)
among_is f (suc j) k v h = elim (clean_both (clean_among f j) (stamped (suc j) (f (suc j))) k v h) [
  | inl a ↦ among_is f j k v a
  | inr b ↦ let p = stamp_is (suc j) (f (suc j)) k v b in subst (λ x. f x ≡ Some v) p.0 p.1
]

pub same_mode : (a b : Mode) → is_same a b ≡ true → a ≡ b
unfolding is_same
same_mode IS IS h = refl
same_mode IS IX h = absurd (no_way h)
same_mode IS S h = absurd (no_way h)
same_mode IS U h = absurd (no_way h)
same_mode IS SIX h = absurd (no_way h)
same_mode IS X h = absurd (no_way h)
same_mode IX IS h = absurd (no_way h)
same_mode IX IX h = refl
same_mode IX S h = absurd (no_way h)
same_mode IX U h = absurd (no_way h)
same_mode IX SIX h = absurd (no_way h)
same_mode IX X h = absurd (no_way h)
same_mode S IS h = absurd (no_way h)
same_mode S IX h = absurd (no_way h)
same_mode S S h = refl
same_mode S U h = absurd (no_way h)
same_mode S SIX h = absurd (no_way h)
same_mode S X h = absurd (no_way h)
same_mode U IS h = absurd (no_way h)
same_mode U IX h = absurd (no_way h)
same_mode U S h = absurd (no_way h)
same_mode U U h = refl
same_mode U SIX h = absurd (no_way h)
same_mode U X h = absurd (no_way h)
same_mode SIX IS h = absurd (no_way h)
same_mode SIX IX h = absurd (no_way h)
same_mode SIX S h = absurd (no_way h)
same_mode SIX U h = absurd (no_way h)
same_mode SIX SIX h = refl
same_mode SIX X h = absurd (no_way h)
same_mode X IS h = absurd (no_way h)
same_mode X IX h = absurd (no_way h)
same_mode X S h = absurd (no_way h)
same_mode X U h = absurd (no_way h)
same_mode X SIX h = absurd (no_way h)
same_mode X X h = refl

some_is : (a b : ℕ) → Some a ≡ Some b → a ≡ b
some_is a b e = cc

none_some : (a : ℕ) → None ≡ Some a → ⊥
none_some a e = cc

about_is : (n : Name) (mode : Mode) (p : Name) (q : Mode) (version v : ℕ) → (b : Bool) → is_about n mode p q ≡ b → cond b (Some version) None ≡ Some v → Clean (number p) q version ≡ Clean (number n) mode v
about_is n mode p q version v true about e =
    let both = and_parts (same_name p n) (is_same q mode) about in
    ap (λ x. Clean (number x) q version) (same_eq p n both.0) ∙ (ap (λ x. Clean (number n) x version) (same_mode q mode both.1) ∙ ap (λ x. Clean (number n) mode x) (some_is version v e))
about_is n mode p q version v false about e = absurd (none_some v e)

version_is : (n : Name) (mode : Mode) (c : FacilityCell) (v : ℕ) → clean_version n mode c ≡ Some v → as_cell c ≡ Clean (number n) mode v
version_is n mode cell.Empty v e = absurd (none_some v e)
version_is n mode (cell.Asked p q) v e = absurd (none_some v e)
version_is n mode (cell.Answered p q said.Clean version event) v e = about_is n mode p q version v (is_about n mode p q) refl e
version_is n mode (cell.Answered p q (said.Conflict by) version event) v e = absurd (none_some v e)
version_is n mode (cell.Answered p q (said.Postponed by) version event) v e = absurd (none_some v e)

clean_or : (x c : Bool) → (x && not c) ≡ false → (x ≡ false) ⊎ (c ≡ true)
clean_or false c h = inl refl
clean_or true true h = inr refl
clean_or true false h = absurd (both_ways true h refl)

all_clean : (w : World) (locks : Locks) (lists : ListsState) (held : Claims) (m owner : ℕ) (n : Name) (mode : Mode) → Tied w locks lists held → IsMember m → owner ≤ 16
    → IsLowest (stands (entry_for locks n) m mode (clean_answers lists.cells m owner n mode)) None → AllClean (entry_in locks) w m owner (number n) mode
all_clean w locks lists held m owner n mode t x few lowest k ne live = elim (cases_Bool (is_member k)) [
  | inl there ↦ elim (in_way there) [
    | inl free ↦ inl (subst (λ i. blocks (class_of mode) i ≡ false) (sym (interest there)) (same_blocks (class_of mode) (interest_of locks k (place_of locks n)) ∙ free))
    | inr clean ↦ inr (t.cells m owner k ∙ cond-true (is_there m owner k) (as_cell (cell_of lists.cells (slot_of m owner) k)) Empty (there_so m owner k x few (member_is k there)) ∙ answered clean)
  ]
  | inr out ↦ inl (subst (λ i. blocks (class_of mode) i ≡ false) (sym (t.interest k (entry_in locks (number n)) ∙ cond-false (is_member k) (interest_of locks k (entry_in locks (number n))) no_interest out)) (none_blocks (class_of mode)))
]
  where
    in_way : is_member k ≡ true → (entries.blocks (class_of mode) (interest_of locks k (place_of locks n)) ≡ false) ⊎ (is_clean (clean_answers lists.cells m owner n mode) k (entry_for locks n).version ≡ true)
    in_way there = clean_or (entries.blocks (class_of mode) (interest_of locks k (place_of locks n))) (is_clean (clean_answers lists.cells m owner n mode) k (entry_for locks n).version)
        (other_test (k == m) (entries.blocks (class_of mode) (interest_of locks k (place_of locks n)) && not (is_clean (clean_answers lists.cells m owner n mode) k (entry_for locks n).version)) (ne_eqb k m ne) (lowest k (member_is k there)))

    interest : is_member k ≡ true → w.interest k (entry_in locks (number n)) ≡ interest_of locks k (place_of locks n)
    interest there = t.interest k (entry_in locks (number n)) ∙ cond-true (is_member k) (interest_of locks k (entry_in locks (number n))) no_interest there ∙ ap (λ e. interest_of locks k e) (entry_of_number locks n)

    version : (entry_for locks n).version ≡ w.version (entry_in locks (number n))
    version = sym (t.versions (entry_in locks (number n)) ∙ ap (λ e. version_in locks e) (entry_of_number locks n))

    answered : is_clean (clean_answers lists.cells m owner n mode) k (entry_for locks n).version ≡ true → as_cell (cell_of lists.cells (slot_of m owner) k) ≡ Clean (number n) mode (w.version (entry_in locks (number n)))
    answered clean = version_is n mode (cell_of lists.cells (slot_of m owner) k) (entry_for locks n).version (among_is (λ j. clean_version n mode (cell_of lists.cells (slot_of m owner) j)) 32 k (entry_for locks n).version clean)
        ∙ ap (λ v. Clean (number n) mode v) version

-- ---- a grant behind them
grant_step : (w : World) (locks : Locks) (lists : ListsState) (held : Claims) (m owner : ℕ) (n : Name) (mode : Mode) (b : Bool) → Tied w locks lists held → MayEnter lists held m owner n mode → (b ≡ true → NoneInWay held m owner n mode) → owner ≤ 16
    → IsLowest (keeps_out locks m n mode) None → IsLowest (stands (entry_for locks n) m mode (clean_answers lists.cells m owner n mode)) None
    → Step (entry_in locks) w (Grant m owner (number n) mode b) (enter_if b (cleared (granted (entry_in locks) w m (number n) mode) m owner) m owner (number n) mode)
grant_step w locks lists held m owner n mode b t may free few kept stood =
    subst (λ x. (w.live m ≡ true) × NotRetained w m (number n) x × AllClean (entry_in locks) w m owner (number n) x × (b ≡ true → NoLocalConflict w m owner (number n) x)
    × (enter_if b (cleared (granted (entry_in locks) w m (number n) mode) m owner) m owner (number n) mode ≡ enter_if b (cleared (granted (entry_in locks) w m (number n) x) m owner) m owner (number n) x)) (sym (joined_of w locks lists held m owner n mode t may))
    (live_of w locks lists held m owner n mode t may, not_retained w locks m n mode t.records kept, all_clean w locks lists held m owner n mode t may.member few stood, (λ e. no_conflict w locks lists held m owner n mode t may (free e)), refl)

pub grants : GrantsMoves
grants w locks after lists now held left m owner n mode true t may r few kept stood is are same =
    let u = entered (granted (entry_in locks) w m (number n) mode) m owner (number n) mode in
    let v = entered (cleared (granted (entry_in locks) w m (number n) mode) m owner) m owner (number n) mode in
    let before : Tied u after lists left = granted_tied w u locks after lists held left m owner n mode true t may r.1 is refl (λ k o c. refl) in
    record {
      same = is.same;
      world = v;
      run = (v, grant_step w locks lists held m owner n mode true t may r.0 few kept stood, refl);
      tied = still u v after lists now left before refl same (clear_cells u lists now m owner before.cells are);
    }
grants w locks after lists now held left m owner n mode false t may r few kept stood is are same =
    let u = granted (entry_in locks) w m (number n) mode in
    let v = cleared (granted (entry_in locks) w m (number n) mode) m owner in
    let before : Tied u after lists left = granted_tied w u locks after lists held left m owner n mode false t may r.1 is refl (λ k o c. not_entered w m owner (number n) k o c mode) in
    record {
      same = is.same;
      world = v;
      run = (v, grant_step w locks lists held m owner n mode false t may r.0 few kept stood, refl);
      tied = still u v after lists now left before refl same (clear_cells u lists now m owner before.cells are);
    }
