-- What the answers of a lock manager say of its claims, and what its calls make of them.
use Rattle.std.proofs.Common.{◌≡◌, ℕ, zero, suc, ◌+◌, ◌≤◌, ◌<◌, refl, sym, ◌∙◌, ap, subst, arith, Bool, true, false, inl, inr, List, [], ◌∷◌, length, Option, Some, None}
use Rattle.std.specs.Prelude.{◌≢◌, ◌⊎◌, ◌-◌, ◌==◌, ◌&&◌, ◌||◌, not, if◌then◌else◌, drop, nat_lt, slice_index_or, slice_set, is_some, is_none}
use Rattle.std.proofs.lemmas.Bool.{cond_both, cond-true, cond-false, cases_Bool, cases_eq, both_ways, and_from, or_cases, or_left, or_right, or_parts, eqb-true, eq-eqb, ne_eqb, le-leb, lt-ltb}
use Rattle.ds_model.specs.declared.lock.Name.{Name}
use Rattle.lock_names.specs.declared.mode.Mode.{Mode}
use Rattle.lock_names.specs.declared.mode.Class.{Class}
use Rattle.lock_names.specs.declared.mode.Class.TheVariants.{Share, Exclusive}
use Rattle.lock_names.specs.declared.mode.Interest.{Interest}
use Rattle.lock_names.specs.Modes.{class_of}
use Rattle.lock_names.specs.Names.{same_name}
use Rattle.lock_names.specs.Entries.{entry_number}
use Rattle.lock_names.proofs.Names.{same_itself, same_equal, same_turn}
use Rattle.lock_manager.specs.declared.claim.Claim.{Claim}
use Rattle.lock_manager.specs.declared.claim.LockAnswer.TheVariants as answer
use Rattle.lock_manager.specs.Buckets.{AreDistinct}
use Rattle.lock_manager.specs.Claims.{mode_in, without, with_mode, entered, joined, is_in_way, same_class, needs, one_needs}
use Rattle.lock_manager.specs.Holders.{first_in_way, is_held, any_needs, kept, first_freed, left_after, told}
use Rattle.lock_manager.specs.Managers.{Book, IsGiven, slots, claims_of, held_by, answer_of, answer_among, waited_for, given, spare_after, with_claims, after_release, release_told, after_page_release, page_told}
use Rattle.lock_protocol.specs.Machine.{backs}
use Rattle.lock_world.specs.Numbers.{number, name_at}
use Rattle.lock_world.specs.Views.{is_slot, rollback_claims, claims_from, claims_by, claim_in}
use Rattle.lock_world.specs.Books.{IsBook, AnswersTell, SlotHas, NobodyHolds, HasEntered, GivenEnters, PageEnters, HasLeft, IsFreed, ReleaseFrees, PageFrees, EndLeaves}
use Rattle.lock_world.proofs.Numbers.{named}
use Rattle.lock_world.proofs.Records.{no_way, yes_way, same_number}
use Rattle.lock_world.proofs.Distinct.{absent_other, distinct_without, distinct_with}
use Rattle.lock_world.proofs.Owners.{each_owner, slot_set, slot_stands, set_same}

-- ---- no owner is in the way
not_some : (k : ℕ) → Some k ≡ None → ⊥
not_some k e = cc

first_of : (b : Bool) (k : ℕ) (rest : Option ℕ) → (if b then Some k else rest) ≡ None → (b ≡ false) × (rest ≡ None)
first_of true k rest e = absurd (not_some k e)
first_of false k rest e = (refl, e)

none_way : (hs : List (List Claim)) (k : ℕ) (n : Name) (m : Mode) → first_in_way hs k None n m ≡ None → (i : ℕ) → is_in_way (mode_in (slice_index_or hs i []) n) m ≡ false
none_way [] k n m e i = refl
none_way (cs ∷ rest) k n m e zero = (first_of (is_in_way (mode_in cs n) m) k (first_in_way rest (k + 1) None n m) e).0
none_way (cs ∷ rest) k n m e (suc i) = none_way rest (k + 1) n m (first_of (is_in_way (mode_in cs n) m) k (first_in_way rest (k + 1) None n m) e).1 i

clean_way : (b : Book) (o : Option ℕ) → answer_among b o ≡ answer.Clean → o ≡ None
clean_way b None e = refl
clean_way b (Some k) e = absurd (cond_both (nat_lt k (slots b)) (answer.Conflict k) (answer.Postponed (waited_for b k)) (λ x. x ≢ answer.Clean) (λ t h. cc) (λ t h. cc) e)

pub answers_tell : AnswersTell
answers_tell b n m e o = subst (λ x. is_in_way (mode_in (claims_by b o) x) m ≡ false) (sym (named n))
    (each_owner (λ cs. is_in_way (mode_in cs n) m ≡ false) b.holders b.rollbacks b.agents o refl (none_way b.holders 0 n m (clean_way b (first_in_way b.holders 0 None n m) e)))

-- ---- a claim that is entered
twice : (b : Bool) (x y z : Option Mode) → (if b then x else y) ≡ (if b then x else if b then z else y)
twice true x y z = refl
twice false x y z = refl

swapped : (d q : Bool) (x y z : Option Mode) → (d ≡ true → q ≡ true → ⊥) → (if d then x else if q then y else z) ≡ (if q then y else if d then x else z)
swapped true true x y z never = absurd (never refl refl)
swapped true false x y z never = refl
swapped false true x y z never = refl
swapped false false x y z never = refl

some_rest : (b : Bool) (x : Mode) (rest : Option Mode) → b ≡ false → is_some (if b then Some x else rest) ≡ true → is_some rest ≡ true
some_rest false x rest e h = h
some_rest true x rest e h = cc

with_mode_in : (cs : List Claim) (n p : Name) (m : Mode) → is_some (mode_in cs n) ≡ true → mode_in (with_mode cs n m) p ≡ (if same_name n p then Some m else mode_in cs p)
with_mode_in [] n p m some = absurd (no_way some)
with_mode_in (c ∷ cs) n p m some = by (λ h. with_mode_in cs n p m h) (same_name c.name n) refl
  where
    by : (is_some (mode_in cs n) ≡ true → mode_in (with_mode cs n m) p ≡ (if same_name n p then Some m else mode_in cs p)) → (b : Bool) → same_name c.name n ≡ b → mode_in (if b then record { name = c.name; mode = m } ∷ cs else c ∷ with_mode cs n m) p ≡ (if same_name n p then Some m else if same_name c.name p then Some c.mode else mode_in cs p)
    by ih true e = subst (λ z. (if same_name c.name p then Some m else mode_in cs p) ≡ (if same_name z p then Some m else if same_name c.name p then Some c.mode else mode_in cs p)) (same_equal c.name n e) (twice (same_name c.name p) (Some m) (mode_in cs p) (Some c.mode))
    by ih false e = ap (λ (z : Option Mode). if same_name c.name p then Some c.mode else z) (ih (some_rest (same_name c.name n) c.mode (mode_in cs n) e some))
        ∙ swapped (same_name c.name p) (same_name n p) (Some c.mode) (Some m) (mode_in cs p) (λ d q. both_ways (same_name c.name n) e (subst (λ z. same_name c.name z ≡ true) (same_equal c.name p d ∙ sym (same_equal n p q)) (same_itself c.name)))

pub entered_in : (cs : List Claim) (n p : Name) (m : Mode) → mode_in (entered cs n m) p ≡ (if same_name n p then Some m else mode_in cs p)
entered_in cs n p m = by (is_some (mode_in cs n)) refl
  where
    by : (b : Bool) → is_some (mode_in cs n) ≡ b → mode_in (if b then with_mode cs n m else record { name = n; mode = m } ∷ cs) p ≡ (if same_name n p then Some m else mode_in cs p)
    by true e = with_mode_in cs n p m e
    by false e = refl

with_mode_without : (cs : List Claim) (n : Name) (m : Mode) → without (with_mode cs n m) n ≡ without cs n
with_mode_without [] n m = refl
with_mode_without (c ∷ cs) n m = by (with_mode_without cs n m) (same_name c.name n) refl
  where
    by : without (with_mode cs n m) n ≡ without cs n → (b : Bool) → same_name c.name n ≡ b → without (if b then record { name = c.name; mode = m } ∷ cs else c ∷ with_mode cs n m) n ≡ (if same_name c.name n then cs else c ∷ without cs n)
    by ih true e = cond-true (same_name c.name n) cs (record { name = c.name; mode = m } ∷ without cs n) e ∙ sym (cond-true (same_name c.name n) cs (c ∷ without cs n) e)
    by ih false e = ap (λ (z : List Claim). if same_name c.name n then with_mode cs n m else c ∷ z) ih ∙ both (same_name c.name n) e
      where
        both : (b : Bool) → b ≡ false → (if b then with_mode cs n m else c ∷ without cs n) ≡ (if b then cs else c ∷ without cs n)
        both false e = refl
        both true e = cc

none_without : (cs : List Claim) (n : Name) → is_some (mode_in cs n) ≡ false → without cs n ≡ cs
none_without [] n e = refl
none_without (c ∷ cs) n e = by (λ h. none_without cs n h) (same_name c.name n) refl
  where
    some_none : (b : Bool) → b ≡ true → is_some (if b then Some c.mode else mode_in cs n) ≡ false → ⊥
    some_none true x h = yes_way h
    some_none false x h = no_way x

    rest : (b : Bool) → b ≡ false → is_some (if b then Some c.mode else mode_in cs n) ≡ false → is_some (mode_in cs n) ≡ false
    rest false x h = h
    rest true x h = cc

    by : (is_some (mode_in cs n) ≡ false → without cs n ≡ cs) → (b : Bool) → same_name c.name n ≡ b → (if b then cs else c ∷ without cs n) ≡ c ∷ cs
    by ih true x = absurd (some_none (same_name c.name n) x e)
    by ih false x = ap (λ z. c ∷ z) (ih (rest (same_name c.name n) x e))

entered_without : (cs : List Claim) (n : Name) (m : Mode) → without (entered cs n m) n ≡ without cs n
entered_without cs n m = by (is_some (mode_in cs n)) refl
  where
    by : (b : Bool) → is_some (mode_in cs n) ≡ b → without (if b then with_mode cs n m else record { name = n; mode = m } ∷ cs) n ≡ without cs n
    by true e = with_mode_without cs n m
    by false e = cond-true (same_name n n) cs (record { name = n; mode = m } ∷ without cs n) (same_itself n) ∙ sym (none_without cs n e)

-- with the same claims but the one on the name no two are on one name
distinct_same : (cs ds : List Claim) (n : Name) → AreDistinct cs → without ds n ≡ without cs n → AreDistinct ds
distinct_same cs ds n d e =
    let w = distinct_without cs n d in
    distinct_with ds n (subst (λ z. AreDistinct z) (sym e) w.0) (subst (λ z. mode_in z n ≡ None) (sym e) w.1)

distinct_entered : (cs : List Claim) (n : Name) (m : Mode) → AreDistinct cs → AreDistinct (entered cs n m)
distinct_entered cs n m d = distinct_same cs (entered cs n m) n d (entered_without cs n m)

-- the claims of an owner where those of one slot are others, by their modes
entered_at : (b : Book) (slot : ℕ) (cs : List Claim) (n : Name) (mode : Mode) → IsBook b → slot < slots b → ((p : Name) → mode_in cs p ≡ (if same_name n p then Some mode else mode_in (claims_from b.holders b.rollbacks b.agents slot) p))
    → (o c : ℕ) → mode_in (claims_from (slice_set b.holders slot cs) b.rollbacks b.agents o) (name_at c) ≡ (if (o == slot) && (c == number n) then Some mode else claim_in b o c)
entered_at b slot cs n mode s lt modes o c = ap (λ z. mode_in z (name_at c)) (slot_set b.holders b.rollbacks b.agents slot cs o s.few lt (omega (arith, lt, s.owners))) ∙ by (cases_eq o slot)
  where
    by : ((o ≡ slot) ⊎ (o ≢ slot)) → mode_in (if o == slot then cs else claims_by b o) (name_at c) ≡ (if (o == slot) && (c == number n) then Some mode else claim_in b o c)
    by (inl e) = subst (λ z. mode_in (if z == slot then cs else claims_by b z) (name_at c) ≡ (if (z == slot) && (c == number n) then Some mode else claim_in b z c)) (sym e) own
      where
        own : mode_in (if slot == slot then cs else claims_by b slot) (name_at c) ≡ (if (slot == slot) && (c == number n) then Some mode else claim_in b slot c)
        own = ap (λ (z : Bool). mode_in (if z then cs else claims_by b slot) (name_at c)) (eq-eqb slot slot refl)
            ∙ modes (name_at c)
            ∙ ap (λ (z : Bool). if z then Some mode else claim_in b slot c) (same_number n c)
            ∙ ap (λ (z : Bool). if z && (c == number n) then Some mode else claim_in b slot c) (sym (eq-eqb slot slot refl))
    by (inr ne) = ap (λ (z : Bool). mode_in (if z then cs else claims_by b o) (name_at c)) (ne_eqb o slot ne) ∙ ap (λ (z : Bool). if z && (c == number n) then Some mode else claim_in b o c) (sym (ne_eqb o slot ne))

-- a slot's claims are those at its place
pub slot_claims : (b : Book) (slot : ℕ) → IsBook b → slot < slots b → claims_by b slot ≡ claims_of b slot
slot_claims b slot s lt =
    cond-true (is_slot slot) (if nat_lt slot (b.agents + 1) then slice_index_or b.holders slot [] else []) (rollback_claims b.rollbacks (drop (b.agents + 1) b.holders) (slot - 17)) (le-leb slot 16 (omega (arith, lt, s.few)))
    ∙ cond-true (nat_lt slot (b.agents + 1)) (slice_index_or b.holders slot []) [] (lt-ltb slot (b.agents + 1) lt)

pub slot_has : SlotHas
slot_has b slot n s lt = ap (λ z. mode_in (claims_by b slot) z) (named n) ∙ ap (λ z. mode_in z n) (slot_claims b slot s lt)

pub given_enters : GivenEnters
given_enters b slot n m s lt = record {
  own = entered_at b slot (entered (claims_of b slot) n (joined (held_by b slot n) m)) n (joined (held_by b slot n) m) s lt
      (λ p. subst (λ z. mode_in (entered (claims_of b slot) n (joined (held_by b slot n) m)) p ≡ (if same_name n p then Some (joined (held_by b slot n) m) else mode_in z p)) (sym (slot_claims b slot s lt)) (entered_in (claims_of b slot) n p (joined (held_by b slot n) m)));
  stands = slot_stands b slot (spare_after b slot n) (entered (claims_of b slot) n (joined (held_by b slot n) m)) s (distinct_entered (claims_of b slot) n (joined (held_by b slot n) m) (s.once slot));
}

-- with the same claims on other names, and the name in this mode
given_in : (cs ds : List Claim) (n p : Name) (mode : Mode) → mode_in ds n ≡ Some mode → without ds n ≡ without cs n → mode_in ds p ≡ (if same_name n p then Some mode else mode_in cs p)
given_in cs ds n p mode has rest = by (same_name n p) refl
  where
    by : (b : Bool) → same_name n p ≡ b → mode_in ds p ≡ (if b then Some mode else mode_in cs p)
    by true e = subst (λ z. mode_in ds z ≡ Some mode) (same_equal n p e) has
    by false e = sym (absent_other ds n p e) ∙ ap (λ z. mode_in z p) rest ∙ absent_other cs n p e

book_as : (b after : Book) (P : Book → Type 0) → after ≡ b → P b → P after
book_as b after P e h = subst P (sym e) h

pub page_enters : PageEnters
page_enters b after n m s g = record {
  own = λ o c. book_as (record b { holders = slice_set b.holders 0 (claims_of after 0); spare = after.spare }) after (λ z. claim_in z o c ≡ (if (o == 0) && (c == number n) then Some (joined (held_by b 0 n) m) else claim_in b o c)) g.rest
      (entered_at b 0 (claims_of after 0) n (joined (held_by b 0 n) m) s (omega arith)
      (λ p. subst (λ z. mode_in (claims_of after 0) p ≡ (if same_name n p then Some (joined (held_by b 0 n) m) else mode_in z p)) (sym (slot_claims b 0 s (omega arith))) (given_in (claims_of b 0) (claims_of after 0) n p (joined (held_by b 0 n) m) g.mode g.others)) o c);
  stands = book_as (record b { holders = slice_set b.holders 0 (claims_of after 0); spare = after.spare }) after (λ z. IsBook z) g.rest (slot_stands b 0 after.spare (claims_of after 0) s (distinct_same (claims_of b 0) (claims_of after 0) n (s.once 0) g.others));
}

-- ---- claims that are given up
-- each claim that is left was there
abbrev pub IsPart : List Claim → List Claim → Type 0
IsPart ds cs = (p : Name) (x : Mode) → mode_in ds p ≡ Some x → mode_in cs p ≡ Some x

part_more : (c : Claim) (cs ds : List Claim) → mode_in cs c.name ≡ None → IsPart ds cs → IsPart ds (c ∷ cs)
part_more c cs ds none part p x h = by (same_name c.name p) refl
  where
    never : (y : Option Mode) → y ≡ None → y ≡ Some x → ⊥
    never y a b = cc

    by : (b : Bool) → same_name c.name p ≡ b → (if b then Some c.mode else mode_in cs p) ≡ Some x
    by true e = absurd (never (mode_in cs c.name) none (subst (λ z. mode_in cs z ≡ Some x) (sym (same_equal c.name p e)) (part p x h)))
    by false e = part p x h

pub left_part : (hs : List (List Claim)) (owner : ℕ) (cs : List Claim) → AreDistinct cs → IsPart (left_after hs owner cs) cs × AreDistinct (left_after hs owner cs)
left_part hs owner [] d = ((λ p x h. h), tt)
left_part hs owner (c ∷ cs) d =
    let ih = left_part hs owner cs d.1 in
    cond_both (is_held (slice_set hs owner cs) c.name) (left_after hs owner cs) cs (λ z. IsPart z (c ∷ cs) × AreDistinct z)
    (λ t. (part_more c cs (left_after hs owner cs) d.0 ih.0, ih.1))
    (λ t. (part_more c cs cs d.0 (λ p x h. h), d.1))

some_name : (a n : Name) → Some a ≡ Some n → a ≡ n
some_name a n e = cc

none_name : (n : Name) → None ≡ Some n → ⊥
none_name n e = cc

pub freed_free : (hs : List (List Claim)) (owner : ℕ) (cs : List Claim) (n : Name) → first_freed hs owner cs ≡ Some n → is_held (slice_set hs owner (left_after hs owner cs)) n ≡ false
freed_free hs owner [] n e = absurd (none_name n e)
freed_free hs owner (c ∷ cs) n e = by (λ f. freed_free hs owner cs n f) (is_held (slice_set hs owner cs) c.name) refl e
  where
    by : (first_freed hs owner cs ≡ Some n → is_held (slice_set hs owner (left_after hs owner cs)) n ≡ false) → (b : Bool) → is_held (slice_set hs owner cs) c.name ≡ b → (if b then first_freed hs owner cs else Some c.name) ≡ Some n → is_held (slice_set hs owner (if b then left_after hs owner cs else cs)) n ≡ false
    by ih true h f = ih f
    by ih false h f = subst (λ z. is_held (slice_set hs owner cs) z ≡ false) (some_name c.name n f) h

is_none_of : (x : Option Mode) → is_some x ≡ false → x ≡ None
is_none_of None e = refl
is_none_of (Some m) e = absurd (yes_way e)

pub not_held : (hs : List (List Claim)) (n : Name) → is_held hs n ≡ false → (i : ℕ) → mode_in (slice_index_or hs i []) n ≡ None
not_held [] n e i = refl
not_held (cs ∷ rest) n e zero = is_none_of (mode_in cs n) (or_parts (is_some (mode_in cs n)) (is_held rest n) e).0
not_held (cs ∷ rest) n e (suc i) = not_held rest n (or_parts (is_some (mode_in cs n)) (is_held rest n) e).1 i

same_itself_class : (c : Class) → same_class c c ≡ true
unfolding same_class
same_itself_class Share = refl
same_itself_class Exclusive = refl

some_mode : (a x : Mode) → Some a ≡ Some x → a ≡ x
some_mode a x e = cc

pub no_mode : (x : Mode) → None ≡ Some x → ⊥
no_mode x e = cc

one_needs_it : (entries entry : ℕ) (cs : List Claim) (p : Name) (x : Mode) → entry_number p entries ≡ entry → mode_in cs p ≡ Some x → one_needs entries entry (class_of x) cs ≡ true
one_needs_it entries entry [] p x at h = absurd (no_mode x h)
one_needs_it entries entry (c ∷ cs) p x at h = by (λ f. one_needs_it entries entry cs p x at f) (same_name c.name p) refl h
  where
    by : (mode_in cs p ≡ Some x → one_needs entries entry (class_of x) cs ≡ true) → (b : Bool) → same_name c.name p ≡ b → (if b then Some c.mode else mode_in cs p) ≡ Some x → one_needs entries entry (class_of x) (c ∷ cs) ≡ true
    by ih true e f = or_left (needs entries entry (class_of x) c) (one_needs entries entry (class_of x) cs)
        (and_from (entry_number c.name entries == entry) (same_class (class_of c.mode) (class_of x)) (eq-eqb (entry_number c.name entries) entry (ap (λ z. entry_number z entries) (same_equal c.name p e) ∙ at))
        (subst (λ z. same_class (class_of c.mode) (class_of z) ≡ true) (some_mode c.mode x f) (same_itself_class (class_of c.mode))))
    by ih false e f = or_right (needs entries entry (class_of x) c) (one_needs entries entry (class_of x) cs) (ih f)

any_needs_it : (entries entry : ℕ) (hs : List (List Claim)) (p : Name) (x : Mode) → entry_number p entries ≡ entry → (i : ℕ) → mode_in (slice_index_or hs i []) p ≡ Some x → any_needs entries entry (class_of x) hs ≡ true
any_needs_it entries entry [] p x at i h = absurd (no_mode x h)
any_needs_it entries entry (cs ∷ rest) p x at zero h = or_left (one_needs entries entry (class_of x) cs) (any_needs entries entry (class_of x) rest) (one_needs_it entries entry cs p x at h)
any_needs_it entries entry (cs ∷ rest) p x at (suc i) h = or_right (one_needs entries entry (class_of x) cs) (any_needs entries entry (class_of x) rest) (any_needs_it entries entry rest p x at i h)

backs_kept : (entries entry : ℕ) (hs : List (List Claim)) (c : Class) → any_needs entries entry c hs ≡ true → backs c (kept entries hs entry) ≡ true
unfolding backs
backs_kept entries entry hs Share h = or_left (any_needs entries entry Share hs) (any_needs entries entry Exclusive hs) h
backs_kept entries entry hs Exclusive h = h

pub nobody_holds : NobodyHolds
nobody_holds b n free o = subst (λ z. mode_in (claims_by b o) z ≡ None) (sym (named n)) (each_owner (λ cs. mode_in cs n ≡ None) b.holders b.rollbacks b.agents o refl (not_held b.holders n free))

-- ---- the two facts of a release
pub is_freed : (b : Book) (n : Name) → ((i : ℕ) → mode_in (slice_index_or b.holders i []) n ≡ None) → IsFreed b n (kept b.entries b.holders (entry_number n b.entries))
is_freed b n none = record {
  free = λ o. subst (λ z. mode_in (claims_by b o) z ≡ None) (sym (named n)) (each_owner (λ cs. mode_in cs n ≡ None) b.holders b.rollbacks b.agents o refl none);
  keeps = λ o c x at has. backs_kept b.entries (entry_number n b.entries) b.holders (class_of x)
      (each_owner (λ cs. mode_in cs (name_at c) ≡ Some x → any_needs b.entries (entry_number n b.entries) (class_of x) b.holders ≡ true) b.holders b.rollbacks b.agents o
      (λ h. absurd (no_mode x h)) (any_needs_it b.entries (entry_number n b.entries) b.holders (name_at c) x at) has);
}

pub part_same : (d c : Option Mode) → ((x : Mode) → d ≡ Some x → c ≡ Some x) → d ≡ (if is_none d then None else c)
part_same None c h = refl
part_same (Some x) c h = sym (h x refl)

pub has_left : (b : Book) (slot spare : ℕ) (cs : List Claim) → IsBook b → slot < slots b → IsPart cs (claims_of b slot) → AreDistinct cs → HasLeft b (record b { holders = slice_set b.holders slot cs; spare = spare }) slot
has_left b slot spare cs s lt part d = record {
  others = λ o c ne. ap (λ z. mode_in z (name_at c)) (slot_set b.holders b.rollbacks b.agents slot cs o s.few lt (omega (arith, lt, s.owners)) ∙ cond-false (o == slot) cs (claims_by b o) (ne_eqb o slot ne));
  own = λ c. subst (λ (z : List Claim). mode_in z (name_at c) ≡ (if is_none (mode_in z (name_at c)) then None else claim_in b slot c)) (sym here) (part_same (mode_in cs (name_at c)) (claim_in b slot c) (λ x h. subst (λ z. mode_in z (name_at c) ≡ Some x) (sym (slot_claims b slot s lt)) (part (name_at c) x h)));
  stands = slot_stands b slot spare cs s d;
}
  where
    here : claims_from (slice_set b.holders slot cs) b.rollbacks b.agents slot ≡ cs
    here = slot_set b.holders b.rollbacks b.agents slot cs slot s.few lt (omega (arith, lt, s.owners)) ∙ cond-true (slot == slot) cs (claims_by b slot) (eq-eqb slot slot refl)

no_pair : (x : Name × Interest) → None ≡ Some x → ⊥
no_pair x e = cc

pub told_as : (entries : ℕ) (hs : List (List Claim)) (o : Option Name) (n : Name) (keeps : Interest) → told entries hs o ≡ Some (n, keeps) → (o ≡ Some n) × (kept entries hs (entry_number n entries) ≡ keeps)
told_as entries hs None n keeps e = let said : Name × Interest = (n, keeps) in absurd (no_pair said e)
told_as entries hs (Some p) n keeps e =
    let here : Name × Interest = (p, kept entries hs (entry_number p entries)) in
    let said : Name × Interest = (n, keeps) in
    let pair : here ≡ said = some_pair here said e in
    let first : p ≡ n = ap (λ (z : Name × Interest). z.0) pair in
    (ap Some first, ap (λ z. kept entries hs (entry_number z entries)) (sym first) ∙ ap (λ (z : Name × Interest). z.1) pair)
  where
    some_pair : (a b : Name × Interest) → Some a ≡ Some b → a ≡ b
    some_pair a b e = cc

pub release_frees : ReleaseFrees
release_frees b slot n keeps s lt said =
    let cs = claims_of b slot in
    let left = left_after b.holders slot cs in
    let after = after_release b slot in
    let p = left_part b.holders slot cs (s.once slot) in
    let t = told_as b.entries after.holders (first_freed b.holders slot cs) n keeps said in
    (has_left b slot after.spare left s lt p.0 p.1, subst (λ k. IsFreed after n k) t.1 (is_freed after n (not_held after.holders n (freed_free b.holders slot cs n t.0))))

kept_first : (c : Claim) (cs ds : List Claim) → IsPart ds cs → IsPart (c ∷ ds) (c ∷ cs)
kept_first c cs ds part p x h = by (same_name c.name p) h
  where
    by : (b : Bool) → (if b then Some c.mode else mode_in ds p) ≡ Some x → (if b then Some c.mode else mode_in cs p) ≡ Some x
    by true f = f
    by false f = part p x f

without_part : (cs : List Claim) (n : Name) → AreDistinct cs → IsPart (without cs n) cs
without_part [] n d = λ p x h. h
without_part (c ∷ cs) n d = cond_both (same_name c.name n) cs (c ∷ without cs n) (λ z. IsPart z (c ∷ cs)) (λ t. part_more c cs cs d.0 (λ p x h. h)) (λ t. kept_first c cs (without cs n) (without_part cs n d.1))

pub page_frees : PageFrees
page_frees b n s alone =
    let cs = claims_of b 0 in
    let after = after_page_release b n in
    let w = distinct_without cs n (s.once 0) in
    let left = has_left b 0 after.spare (without cs n) s (omega arith) (without_part cs n (s.once 0)) w.0 in (
      left,
      record {
        free = free left;
        keeps = λ o c x at has. backs_kept b.entries (entry_number n b.entries) after.holders (class_of x)
            (each_owner (λ ds. mode_in ds (name_at c) ≡ Some x → any_needs b.entries (entry_number n b.entries) (class_of x) after.holders ≡ true) after.holders b.rollbacks b.agents o
            (λ h. absurd (no_mode x h)) (any_needs_it b.entries (entry_number n b.entries) after.holders (name_at c) x at) has);
      },
    )
  where
    own : claim_in (after_page_release b n) 0 (number n) ≡ None
    own = ap (λ z. mode_in z (name_at (number n))) (slot_set b.holders b.rollbacks b.agents 0 (without (claims_of b 0) n) 0 s.few (omega arith) (omega (arith, s.owners)))
        ∙ subst (λ z. mode_in (without (claims_of b 0) n) z ≡ None) (sym (named n)) (distinct_without (claims_of b 0) n (s.once 0)).1

    free : HasLeft b (after_page_release b n) 0 → (o : ℕ) → claim_in (after_page_release b n) o (number n) ≡ None
    free left o = elim (cases_eq o 0) [
      | inl e ↦ subst (λ z. claim_in (after_page_release b n) z (number n) ≡ None) (sym e) own
      | inr ne ↦ left.others o (number n) ne ∙ alone o ne
    ]

pub end_leaves : EndLeaves
end_leaves b slot s lt = (
  has_left b slot (with_claims b slot []).spare [] s lt (λ p x h. absurd (no_mode x h)) tt,
  λ c. ap (λ z. mode_in z (name_at c)) (slot_set b.holders b.rollbacks b.agents slot [] slot s.few lt (omega (arith, lt, s.owners)) ∙ cond-true (slot == slot) [] (claims_by b slot) (eq-eqb slot slot refl)),
)
