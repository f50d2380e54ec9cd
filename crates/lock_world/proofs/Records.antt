-- Records and interest in the world and in the lock structure.
use Rattle.std.proofs.Common.{◌≡◌, ℕ, refl, sym, ◌∙◌, ap, subst, Bool, true, false, inl, inr, Option, Some, None}
use Rattle.std.specs.Prelude.{◌==◌, ◌&&◌, if◌then◌else◌}
use Rattle.std.proofs.lemmas.Bool.{cond_both, cond-true, cond-false, cases_Bool, both_ways, and_parts, and_from, and_left, eqb-true, eq-eqb, false_from_ne_true}
use Rattle.ds_base.specs.declared.names.PageId.{PageId}
use Rattle.ds_base.specs.Ids.{IsMember}
use Rattle.ds_model.specs.declared.lock.Name.{Name}
use Rattle.ds_model.specs.declared.lock.Name.TheVariants as name
use Rattle.lock_names.specs.declared.mode.Interest.{Interest}
use Rattle.lock_names.specs.Names.{same_name}
use Rattle.lock_structure.specs.declared.chain.Record.{Record as FacilityRecord}
use Rattle.lock_structure.specs.Records.{Alters, after_purge, after_release}
use Rattle.lock_structure.specs.Locks.{Locks, record_of, interest_of, place_of, SetsInterest}
use Rattle.lock_protocol.specs.Functions.{alter2, put2}
use Rattle.lock_protocol.specs.Machine.{World, Record, no_interest, purged_record, released_record}
use Rattle.lock_world.specs.Numbers.{number, name_at}
use Rattle.lock_world.specs.Views.{is_member, entry_in, interest_in, as_record, record_in}
use Rattle.lock_world.proofs.Numbers.{named, numbered}
use Rattle.lock_world.proofs.Cells.{member_is, member_so}

-- ---- names and numbers
pub no_way : false ≡ true → ⊥
no_way e = cc

pub yes_way : true ≡ false → ⊥
yes_way e = cc

page_eq : (p q : PageId) → p.set ≡ q.set → p.number ≡ q.number → p ≡ q
page_eq p q a b = subst (λ x. p ≡ record { set = x; number = q.number }) a (subst (λ y. p ≡ record { set = p.set; number = y }) b refl)

pub same_eq : (a b : Name) → same_name a b ≡ true → a ≡ b
unfolding same_name
same_eq (name.Space t) (name.Space u) h = ap name.Space (eqb-true t u h)
same_eq (name.Row t k) (name.Row u l) h = let p = and_parts (t == u) (k == l) h in subst (λ x. name.Row t k ≡ name.Row x l) (eqb-true t u p.0) (ap (λ y. name.Row t y) (eqb-true k l p.1))
same_eq (name.Page p) (name.Page q) h = let s = and_parts (p.set == q.set) (p.number == q.number) h in ap name.Page (page_eq p q (eqb-true p.set q.set s.0) (eqb-true p.number q.number s.1))
same_eq (name.Set s) (name.Set t) h = ap name.Set (eqb-true s t h)
same_eq (name.Space t) (name.Row u l) h = absurd (no_way h)
same_eq (name.Space t) (name.Page q) h = absurd (no_way h)
same_eq (name.Space t) (name.Set u) h = absurd (no_way h)
same_eq (name.Row t k) (name.Space u) h = absurd (no_way h)
same_eq (name.Row t k) (name.Page q) h = absurd (no_way h)
same_eq (name.Row t k) (name.Set u) h = absurd (no_way h)
same_eq (name.Page p) (name.Space u) h = absurd (no_way h)
same_eq (name.Page p) (name.Row u l) h = absurd (no_way h)
same_eq (name.Page p) (name.Set u) h = absurd (no_way h)
same_eq (name.Set s) (name.Space u) h = absurd (no_way h)
same_eq (name.Set s) (name.Row u l) h = absurd (no_way h)
same_eq (name.Set s) (name.Page q) h = absurd (no_way h)

same_self : (a : Name) → same_name a a ≡ true
unfolding same_name
same_self (name.Space t) = eq-eqb t t refl
same_self (name.Row t k) = and_from (t == t) (k == k) (eq-eqb t t refl) (eq-eqb k k refl)
same_self (name.Page p) = and_from (p.set == p.set) (p.number == p.number) (eq-eqb p.set p.set refl) (eq-eqb p.number p.number refl)
same_self (name.Set s) = eq-eqb s s refl

pub same_number : (n : Name) (c : ℕ) → same_name n (name_at c) ≡ (c == number n)
same_number n c = elim (cases_Bool (c == number n)) [
  | inl t ↦ subst (λ x. same_name n x ≡ true) (sym (named n) ∙ ap (λ x. name_at x) (sym (eqb-true c (number n) t))) (same_self n) ∙ sym t
  | inr f ↦ false_from_ne_true (same_name n (name_at c)) (λ h. both_ways (c == number n) f (eq-eqb c (number n) (sym (numbered c) ∙ sym (ap (λ x. number x) (same_eq n (name_at c) h))))) ∙ sym f
]

pub entry_of_number : (locks : Locks) (n : Name) → entry_in locks (number n) ≡ place_of locks n
entry_of_number locks n = ap (λ x. place_of locks x) (named n)

-- who isn't a member is another than the member
pub not_member : (k m : ℕ) → IsMember m → is_member k ≡ false → (k == m) ≡ false
not_member k m x out = false_from_ne_true (k == m) (λ t. both_ways (is_member k) out (member_so k (subst IsMember (sym (eqb-true k m t)) x)))

-- ---- one record becomes what is said
pick : (b : Bool) (f : Option FacilityRecord → Option FacilityRecord) (g : Option Record → Option Record) (x : Option Record) (y : Option FacilityRecord) → x ≡ as_record y → g (as_record y) ≡ as_record (f y) → (if b then g x else x) ≡ as_record (if b then f y else y)
pick true f g x y e h = ap g e ∙ h
pick false f g x y e h = e

pub alters : (w : World) (locks after : Locks) (m : ℕ) (n : Name) (f : Option FacilityRecord → Option FacilityRecord) (g : Option Record → Option Record) → IsMember m
    → ((y : Option FacilityRecord) → g (as_record y) ≡ as_record (f y)) → ((k c : ℕ) → w.records k c ≡ record_in locks k c) → Alters m n f locks.book after.book
    → (k c : ℕ) → alter2 w.records m (number n) g k c ≡ record_in after k c
alters w locks after m n f g x same was a k c = cond_both (is_member k) (as_record (record_of after k (name_at c))) None (λ y. alter2 w.records m (number n) g k c ≡ y) inside outside
  where
    there : Option FacilityRecord
    there = record_of locks k (name_at c)

    inside : is_member k ≡ true → alter2 w.records m (number n) g k c ≡ as_record (record_of after k (name_at c))
    inside t =
        pick ((k == m) && (c == number n)) f g (w.records k c) there (was k c ∙ cond-true (is_member k) (as_record there) None t) (same there)
        ∙ ap (λ b. as_record (if (k == m) && b then f there else there)) (sym (same_number n c))
        ∙ ap as_record (sym (a.now k (name_at c)))

    outside : is_member k ≡ false → alter2 w.records m (number n) g k c ≡ None
    outside t =
        cond-false ((k == m) && (c == number n)) (g (w.records k c)) (w.records k c) (and_left (k == m) (c == number n) (not_member k m x t))
        ∙ was k c ∙ cond-false (is_member k) (as_record there) None t

pub if_as : (b : Bool) (x y : Option FacilityRecord) → as_record (if b then x else y) ≡ (if b then as_record x else as_record y)
if_as true x y = refl
if_as false x y = refl

pub purge_same : (y : Option FacilityRecord) → purged_record (as_record y) ≡ as_record (after_purge y)
purge_same None = refl
purge_same (Some r) = sym (if_as r.retained None (Some r))

pub release_same : (y : Option FacilityRecord) → released_record (as_record y) ≡ as_record (after_release y)
release_same None = refl
release_same (Some r) = sym (if_as r.retained (Some r) None)

-- ---- the interest in one entry becomes this
choose : (b : Bool) (now x y : Interest) → x ≡ y → (if b then now else x) ≡ (if b then now else y)
choose true now x y e = refl
choose false now x y e = e

pub sets_interest : (w : World) (locks after : Locks) (m : ℕ) (n : Name) (now : Interest) → IsMember m → ((k e : ℕ) → w.interest k e ≡ interest_in locks k e) → SetsInterest locks m (place_of locks n) now after
    → (k e : ℕ) → put2 w.interest m (entry_in locks (number n)) now k e ≡ interest_in after k e
sets_interest w locks after m n now x was sets k e = cond_both (is_member k) (interest_of after k e) no_interest (λ y. put2 w.interest m (entry_in locks (number n)) now k e ≡ y) inside outside
  where
    inside : is_member k ≡ true → put2 w.interest m (entry_in locks (number n)) now k e ≡ interest_of after k e
    inside t =
        choose ((k == m) && (e == entry_in locks (number n))) now (w.interest k e) (interest_of locks k e) (was k e ∙ cond-true (is_member k) (interest_of locks k e) no_interest t)
        ∙ ap (λ i. if (k == m) && (e == i) then now else interest_of locks k e) (entry_of_number locks n)
        ∙ sym (sets k e (member_is k t))

    outside : is_member k ≡ false → put2 w.interest m (entry_in locks (number n)) now k e ≡ no_interest
    outside t =
        cond-false ((k == m) && (e == entry_in locks (number n))) now (w.interest k e) (and_left (k == m) (e == entry_in locks (number n)) (not_member k m x t))
        ∙ was k e ∙ cond-false (is_member k) (interest_of locks k e) no_interest t
