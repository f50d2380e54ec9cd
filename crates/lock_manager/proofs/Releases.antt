-- Claims that are given up one by one.
use Rattle.std.proofs.Common.{◌≡◌, ℕ, zero, suc, drop, ◌+◌, ◌-◌, ◌<◌, ◌≤◌, Bool, true, false, List, [], ◌∷◌, length, set, get_or, refl, sym, subst, ◌∙◌, ap, arith, if◌then◌else◌, ◌==◌}
use Rattle.std.specs.Prelude.{Option, Some, None, is_some}
use Rattle.std.proofs.lemmas.List.{get_or-set_same, set-set}
use Rattle.ds_model.specs.declared.lock.Name.{Name}
use Rattle.lock_names.specs.declared.mode.Interest.{Interest}
use Rattle.lock_names.specs.Entries.{entry_number}
use Rattle.lock_manager.specs.declared.claim.Claim.{Claim}
use Rattle.lock_manager.specs.Holders.{is_held, kept, first_freed, left_after, told}
use Rattle.lock_manager.specs.Claims.{mode_in}
use Rattle.lock_manager.proofs.Rooms.{drop_next}
use Rattle.lock_manager.proofs.Distinct.{held_by_others}
use Rattle.lock_manager.specs.Managers.{Book, slots, claims_of, with_claims, after_release, release_told}

twice : (b : Book) (o : ℕ) (c : Claim) (ys : List Claim) → o < length b.holders → length ys + 1 ≤ length (claims_of b o) → with_claims (with_claims b o (c ∷ ys)) o ys ≡ with_claims b o ys
twice b o c ys h l =
    let mid : Book = with_claims b o (c ∷ ys) in
    let there : claims_of mid o ≡ c ∷ ys = get_or-set_same b.holders o (c ∷ ys) [] h in
    let long = ap (λ z. length z) there in
    let same = set-set b.holders o (c ∷ ys) ys in
    let spare : (if o == 0 then mid.spare else mid.spare + length (claims_of mid o) - length ys) ≡ (if o == 0 then b.spare else b.spare + length (claims_of b o) - length ys) = grind (arith, long, l) in
    ap (λ z. record b { holders = z; spare = if o == 0 then mid.spare else mid.spare + length (claims_of mid o) - length ys }) same
    ∙ ap (λ z. record b { holders = set b.holders o ys; spare = z }) spare

pub walked : (b mid next : Book) (o : ℕ) (c : Claim) → o < length b.holders → mid ≡ with_claims b o (claims_of mid o) → claims_of mid o ≡ c ∷ claims_of next o → next ≡ with_claims mid o (claims_of next o)
    → length (claims_of mid o) ≤ length (claims_of b o) → next ≡ with_claims b o (claims_of next o)
walked b mid next o c h e s f l =
    let long = ap (λ z. length z) s in
    let from : mid ≡ with_claims b o (c ∷ claims_of next o) = e ∙ ap (λ z. with_claims b o z) s in
    f ∙ ap (λ z. with_claims z o (claims_of next o)) from ∙ twice b o c (claims_of next o) h (omega (arith, long, l))

pub found : (b next : Book) (o : ℕ) (c : Claim) (before : List Claim) → next ≡ with_claims b o (claims_of next o) → before ≡ c ∷ claims_of next o → is_held next.holders c.name ≡ false
    → first_freed b.holders o before ≡ first_freed b.holders o (claims_of b o) → left_after b.holders o before ≡ left_after b.holders o (claims_of b o)
    → (Some (c.name, kept next.entries next.holders (entry_number c.name next.entries)) ≡ release_told b o) × (next ≡ after_release b o)
found b next o c before e s held f l =
    let here : is_held (set b.holders o (claims_of next o)) c.name ≡ false = ap (λ z. is_held z.holders c.name) (sym e) ∙ held in
    let first : first_freed b.holders o (claims_of b o) ≡ Some c.name = sym f ∙ ap (λ z. first_freed b.holders o z) s ∙ ap (λ z. if z then first_freed b.holders o (claims_of next o) else Some c.name) here in
    let left : left_after b.holders o (claims_of b o) ≡ claims_of next o = sym l ∙ ap (λ z. left_after b.holders o z) s ∙ ap (λ z. if z then left_after b.holders o (claims_of next o) else claims_of next o) here in
    let after : next ≡ after_release b o = e ∙ ap (λ z. with_claims b o z) (sym left) in
    let told_here : Some (c.name, kept next.entries next.holders (entry_number c.name next.entries)) ≡ told next.entries next.holders (Some c.name) = refl in
    (told_here ∙ ap (λ z. told z.entries z.holders (Some c.name)) after ∙ ap (λ z. told b.entries (after_release b o).holders z) (sym first), after)

pub passed : (b next : Book) (o : ℕ) (c : Claim) (before : List Claim) → next ≡ with_claims b o (claims_of next o) → before ≡ c ∷ claims_of next o → is_held next.holders c.name ≡ true
    → first_freed b.holders o before ≡ first_freed b.holders o (claims_of b o) → left_after b.holders o before ≡ left_after b.holders o (claims_of b o)
    → (first_freed b.holders o (claims_of next o) ≡ first_freed b.holders o (claims_of b o)) × (left_after b.holders o (claims_of next o) ≡ left_after b.holders o (claims_of b o))
passed b next o c before e s held f l =
    let here : is_held (set b.holders o (claims_of next o)) c.name ≡ true = ap (λ z. is_held z.holders c.name) (sym e) ∙ held in (
      sym (ap (λ z. if z then first_freed b.holders o (claims_of next o) else Some c.name) here) ∙ ap (λ z. first_freed b.holders o z) (sym s) ∙ f,
      sym (ap (λ z. if z then left_after b.holders o (claims_of next o) else claims_of next o) here) ∙ ap (λ z. left_after b.holders o z) (sym s) ∙ l,
    )

pub over : (b mid : Book) (o : ℕ) → mid ≡ with_claims b o (claims_of mid o) → claims_of mid o ≡ [] → left_after b.holders o (claims_of mid o) ≡ left_after b.holders o (claims_of b o) → mid ≡ after_release b o
over b mid o e s l =
    let left : left_after b.holders o (claims_of b o) ≡ claims_of mid o = sym l ∙ ap (λ z. left_after b.holders o z) s ∙ sym s in
    e ∙ ap (λ z. with_claims b o z) (sym left)

pub none_left : (hs : List (List Claim)) (o : ℕ) (cs : List Claim) → first_freed hs o cs ≡ None → left_after hs o cs ≡ []
none_left hs o [] e = refl
none_left hs o (c ∷ cs) e = let ih = none_left hs o cs in grind (arith, ih)

none_told : (entries : ℕ) (hs : List (List Claim)) (freed : Option Name) → is_some (told entries hs freed) ≡ false → freed ≡ None
none_told entries hs None e = refl
none_told entries hs (Some n) e = cc

pub nothing_left : (b next : Book) (o k : ℕ) (answer : Option (Name × Interest)) → o ≡ slots b + k → o < length b.holders → next ≡ after_release b o → answer ≡ release_told b o → is_some answer ≡ false
    → claims_of next (slots next + k) ≡ []
nothing_left b next o k answer place h e t without_answer =
    let freed = none_told b.entries (after_release b o).holders (first_freed b.holders o (claims_of b o)) (ap (λ z. is_some z) (sym t) ∙ without_answer) in
    let left = none_left b.holders o (claims_of b o) freed in
    ap (λ z. claims_of z (slots z + k)) e ∙ ap (λ z. get_or (after_release b o).holders z []) (sym place) ∙ get_or-set_same b.holders o (left_after b.holders o (claims_of b o)) [] h ∙ left

-- the claim whose name the member then holds no longer, where so many claims of the owner were passed
pub found_here : (b : Book) (o passed : ℕ) (c : Claim) (left rest : List Claim) (interest : Interest) → interest ≡ kept b.entries (set b.holders o (drop (passed + 1) (claims_of b o))) (entry_number c.name b.entries) → left ≡ c ∷ rest → drop passed (claims_of b o) ≡ left
    → is_held (set b.holders o rest) c.name ≡ false → first_freed b.holders o left ≡ first_freed b.holders o (claims_of b o) → left_after b.holders o left ≡ left_after b.holders o (claims_of b o) → Some (c.name, interest) ≡ release_told b o
found_here b o passed c left rest interest i s d held f l =
    let next : drop (passed + 1) (claims_of b o) ≡ rest = drop_next (claims_of b o) passed c rest (d ∙ s) in
    let first : first_freed b.holders o (claims_of b o) ≡ Some c.name = sym f ∙ ap (λ z. first_freed b.holders o z) s ∙ ap (λ z. if z then first_freed b.holders o rest else Some c.name) held in
    let after : left_after b.holders o (claims_of b o) ≡ rest = sym l ∙ ap (λ z. left_after b.holders o z) s ∙ ap (λ z. if z then left_after b.holders o rest else rest) held in
    let here : interest ≡ kept b.entries (set b.holders o (left_after b.holders o (claims_of b o))) (entry_number c.name b.entries) = i ∙ ap (λ z. kept b.entries (set b.holders o z) (entry_number c.name b.entries)) (next ∙ sym after) in
    ap (λ z. Some (c.name, z)) here ∙ ap (λ z. told b.entries (after_release b o).holders z) (sym first)

drop_some : (cs : List Claim) (k : ℕ) (c : Claim) (rest : List Claim) → drop k cs ≡ c ∷ rest → k + 1 ≤ length cs
drop_some [] zero c rest e = cc
drop_some [] (suc k) c rest e = cc
drop_some (x ∷ xs) zero c rest e = omega arith
drop_some (x ∷ xs) (suc k) c rest e = let ih = drop_some xs k c rest e in omega (arith, ih)

at_place : (b : Book) (o passed : ℕ) (c : Claim) (x : List Claim) → x ≡ claims_of b o → drop passed x ≡ c ∷ drop (passed + 1) x → drop passed (claims_of b o) ≡ c ∷ drop (passed + 1) (claims_of b o)
at_place b o passed c x xs s = subst (λ z. drop passed z ≡ c ∷ drop (passed + 1) z) xs s

pub found_at : (b : Book) (o passed : ℕ) (c : Claim) (x : List Claim) (interest : Interest) → x ≡ claims_of b o → drop passed x ≡ c ∷ drop (passed + 1) x
    → is_held (set b.holders o (drop (passed + 1) (claims_of b o))) c.name ≡ false → interest ≡ kept b.entries (set b.holders o (drop (passed + 1) (claims_of b o))) (entry_number c.name b.entries)
    → first_freed b.holders o (drop passed (claims_of b o)) ≡ first_freed b.holders o (claims_of b o) → left_after b.holders o (drop passed (claims_of b o)) ≡ left_after b.holders o (claims_of b o) → Some (c.name, interest) ≡ release_told b o
found_at b o passed c x interest xs s free i f l =
    found_here b o passed c (drop passed (claims_of b o)) (drop (passed + 1) (claims_of b o)) interest i (at_place b o passed c x xs s) refl free f l

pub passed_at : (b : Book) (o passed : ℕ) (c : Claim) (x : List Claim) → x ≡ claims_of b o → drop passed x ≡ c ∷ drop (passed + 1) x
    → is_held (set b.holders o (drop (passed + 1) (claims_of b o))) c.name ≡ true
    → first_freed b.holders o (drop passed (claims_of b o)) ≡ first_freed b.holders o (claims_of b o) → left_after b.holders o (drop passed (claims_of b o)) ≡ left_after b.holders o (claims_of b o)
    → (first_freed b.holders o (drop (passed + 1) (claims_of b o)) ≡ first_freed b.holders o (claims_of b o)) × (left_after b.holders o (drop (passed + 1) (claims_of b o)) ≡ left_after b.holders o (claims_of b o)) × (passed + 1 ≤ length (claims_of b o))
passed_at b o passed c x xs s still f l =
    let rest = drop (passed + 1) (claims_of b o) in
    let here = at_place b o passed c x xs s in (
      sym (ap (λ z. if z then first_freed b.holders o rest else Some c.name) still) ∙ ap (λ z. first_freed b.holders o z) (sym here) ∙ f,
      sym (ap (λ z. if z then left_after b.holders o rest else rest) still) ∙ ap (λ z. left_after b.holders o z) (sym here) ∙ l,
      drop_some (claims_of b o) passed c rest here,
    )
