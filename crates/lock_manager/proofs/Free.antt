-- A name in whose entry the member needs no interest is held by nobody.
use Rattle.std.proofs.Common.{◌≡◌, ℕ, zero, suc, ◌+◌, Bool, true, false, List, [], ◌∷◌, get_or, refl, sym, ◌∙◌, ap, arith, if◌then◌else◌, ◌==◌}
use Rattle.std.specs.Prelude.{Option, Some, None, is_some, ◌||◌, ◌&&◌, not}
use Rattle.ds_model.specs.declared.lock.Name.{Name}
use Rattle.lock_names.specs.declared.mode.Mode.{Mode}
use Rattle.lock_names.specs.declared.mode.Class.{Class}
use Rattle.lock_names.specs.declared.mode.Class.TheVariants.{Share, Exclusive}
use Rattle.lock_names.specs.declared.mode.Interest.{Interest}
use Rattle.lock_names.specs.Entries.{entry_number}
use Rattle.lock_names.specs.Modes.{class_of}
use Rattle.lock_names.specs.Names.{same_name}
use Rattle.lock_manager.specs.declared.claim.Claim.{Claim}
use Rattle.lock_manager.specs.declared.claim.Ask.{Ask}
use Rattle.lock_manager.specs.declared.claim.Ask.TheVariants as ask
use Rattle.lock_manager.specs.declared.claim.LockAnswer.{LockAnswer}
use Rattle.lock_manager.specs.declared.claim.LockAnswer.TheVariants as answer
use Rattle.lock_manager.specs.Claims.{same_class, mode_in, needs, one_needs, joined_both, is_in_way}
use Rattle.lock_manager.specs.Holders.{is_owner, first_in_way, mode_of_all, is_held, any_needs, kept}
use Rattle.lock_manager.specs.Managers.{Book, held_by, held_by_member, ask_of, answer_of}
use Rattle.lock_names.proofs.Names.{same_entry}

no_class : (k : Class) → same_class k Share ≡ false → same_class k Exclusive ≡ false → ⊥
unfolding same_class
no_class Share s x = cc
no_class Exclusive s x = cc

left_none : (a b : Bool) → (a || b) ≡ false → a ≡ false
left_none true b e = cc
left_none false b e = refl

right_none : (a b : Bool) → (a || b) ≡ false → b ≡ false
right_none true b e = cc
right_none false b e = e

-- the claim falls on another entry, so it is on another name
other_name : (entries : ℕ) (c : Claim) (n : Name) (b : Bool) → same_name c.name n ≡ b → needs entries (entry_number n entries) Share c ≡ false → needs entries (entry_number n entries) Exclusive c ≡ false → b ≡ false
other_name entries c n false e s x = refl
other_name entries c n true e s x =
    let same = same_entry c.name n entries e in
    let s2 : same_class (class_of c.mode) Share ≡ false = grind (arith, same, s) in
    let x2 : same_class (class_of c.mode) Exclusive ≡ false = grind (arith, same, x) in
    absurd (no_class (class_of c.mode) s2 x2)

free_in : (entries : ℕ) (cs : List Claim) (n : Name) → one_needs entries (entry_number n entries) Share cs ≡ false → one_needs entries (entry_number n entries) Exclusive cs ≡ false → mode_in cs n ≡ None
free_in entries [] n s x = refl
free_in entries (c ∷ cs) n s x =
    let here = other_name entries c n (same_name c.name n) refl (left_none _ _ s) (left_none _ _ x) in
    ap (λ z. if z then Some c.mode else mode_in cs n) here ∙ free_in entries cs n (right_none _ _ s) (right_none _ _ x)

pub free_name : (entries : ℕ) (hs : List (List Claim)) (n : Name) → any_needs entries (entry_number n entries) Share hs ≡ false → any_needs entries (entry_number n entries) Exclusive hs ≡ false → is_held hs n ≡ false
free_name entries [] n s x = refl
free_name entries (cs ∷ rest) n s x =
    ap (λ z. is_some z || is_held rest n) (free_in entries cs n (left_none _ _ s) (left_none _ _ x)) ∙ free_name entries rest n (right_none _ _ s) (right_none _ _ x)

-- no interest is kept in the entry
pub nothing_kept : (entries : ℕ) (hs : List (List Claim)) (n : Name) (interest : Interest) → interest ≡ kept entries hs (entry_number n entries) → interest.share ≡ false → interest.exclusive ≡ false → is_held hs n ≡ false
nothing_kept entries hs n interest k s x = free_name entries hs n (sym (ap (λ z. z.share) k) ∙ s) (sym (ap (λ z. z.exclusive) k) ∙ x)

not_some : (held : Option Mode) → is_some held ≡ false → held ≡ None
not_some None e = refl
not_some (Some m) e = cc

-- ---- what is answered about a name that nobody holds

free_way : (hs : List (List Claim)) (k : ℕ) (asker : Option ℕ) (n : Name) (m : Mode) → is_held hs n ≡ false → first_in_way hs k asker n m ≡ None
free_way [] k asker n m e = refl
free_way (cs ∷ rest) k asker n m e =
    let none = not_some (mode_in cs n) (left_none _ _ e) in
    let ih : first_in_way rest (k + 1) asker n m ≡ None = free_way rest (k + 1) asker n m (right_none (is_some (mode_in cs n)) (is_held rest n) e) in grind (arith, none, ih)

free_mode : (hs : List (List Claim)) (n : Name) → is_held hs n ≡ false → mode_of_all None hs n ≡ None
free_mode [] n e = refl
free_mode (cs ∷ rest) n e = ap (λ z. mode_of_all (joined_both None z) rest n) (not_some (mode_in cs n) (left_none _ _ e)) ∙ free_mode rest n (right_none _ _ e)

free_own : (hs : List (List Claim)) (o : ℕ) (n : Name) → is_held hs n ≡ false → mode_in (get_or hs o []) n ≡ None
free_own [] o n e = refl
free_own (cs ∷ rest) zero n e = not_some (mode_in cs n) (left_none _ _ e)
free_own (cs ∷ rest) (suc o) n e = free_own rest o n (right_none _ _ e)

pub free_asked : (b : Book) (o : ℕ) (n : Name) (m : Mode) → is_held b.holders n ≡ false → ask.Facility m ≡ ask_of b o n m
free_asked b o n m e =
    let own = free_own b.holders o n e in
    let way = free_way b.holders 0 (Some o) n m e in
    let all = free_mode b.holders n e in grind (arith, own, way, all)

pub free_answered : (b : Book) (n : Name) (m : Mode) → is_held b.holders n ≡ false → answer.Clean ≡ answer_of b n m
free_answered b n m e = let way = free_way b.holders 0 None n m e in grind (arith, way)

pub free_of_all : (b : Book) (n : Name) → is_held b.holders n ≡ false → None ≡ held_by_member b n
free_of_all b n e = sym (free_mode b.holders n e)

pub free_held : (b : Book) (o : ℕ) (n : Name) → is_held b.holders n ≡ false → None ≡ held_by b o n
free_held b o n e = sym (free_own b.holders o n e)
