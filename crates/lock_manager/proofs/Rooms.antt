-- The room that claims leave.
use Rattle.std.proofs.Common.{◌≡◌, ◌≢◌, ◌++◌, ap, subst, ℕ, zero, suc, ◌+◌, ◌<◌, ◌≤◌, true, false, List, [], ◌∷◌, length, set, get_or, drop, replicate, refl, sym, ◌∙◌, arith, if◌then◌else◌, ◌==◌, add-one}
use Rattle.std.specs.Prelude.{Option, Some, is_some, ◌||◌}
use Rattle.std.proofs.lemmas.List.{get_or_default, get_or-set_same, length-set, set-get_or, length-append}
use Rattle.std.proofs.lemmas.List.Edits.{length-remove, get_or-remove_below}
use Rattle.std.specs.List.{remove}
use Rattle.std.proofs.lemmas.Grind.{common_steps}
use Rattle.ds_model.specs.declared.lock.Name.{Name}
use Rattle.lock_names.specs.declared.mode.Mode.{Mode}
use Rattle.lock_manager.specs.declared.claim.Claim.{Claim}
use Rattle.lock_manager.specs.declared.claim.Rollback.{Rollback}
use Rattle.record_area.specs.Areas.{Room}
use Rattle.lock_manager.specs.Claims.{mode_in, without, with_mode, entered, joined}
use Rattle.lock_manager.specs.Holders.{total}
use Rattle.lock_manager.specs.Managers.{Book, HasRoom, IsGiven, claims_of, held_by, given, spare_after}

pub total_set : (hs : List (List Claim)) (at : ℕ) (ys : List Claim) → at < length hs → total (set hs at ys) + length (get_or hs at []) ≡ total hs + length ys
total_set [] at ys h = absurd (omega arith)
total_set (c ∷ cs) zero ys h = omega arith
total_set (c ∷ cs) (suc at) ys h = let ih = total_set cs at ys (omega (arith, h)) in omega (arith, ih)

-- an owner's claims become others, and the room changes by as much
pub moved_room : (hs : List (List Claim)) (rs : List Rollback) (agents at : ℕ) (old new : List Claim) (own others own_after others_after : Room) → at < length hs → old ≡ get_or hs at old
    → own_after.size ≡ own.size → others_after.size ≡ others.size
    → own_after.free + (if at == 0 then length new else 0) ≡ own.free + (if at == 0 then length old else 0)
    → others_after.free + (if at == 0 then 0 else length new) ≡ others.free + (if at == 0 then 0 else length old)
    → HasRoom hs rs agents own others → HasRoom (set hs at new) rs agents own_after others_after
moved_room [] rs agents at old new own others own_after others_after h e s t f g has = absurd (omega arith)
moved_room (c ∷ cs) rs agents zero old new own others own_after others_after h e s t f g has = record {
  owners = has.owners;
  pages = let p = has.pages in grind (arith, p, e, s, f);
  spare = let p = has.spare in grind (arith, p, e, t, g);
}
moved_room (c ∷ cs) rs agents (suc at) old new own others own_after others_after h e s t f g has =
    let there : old ≡ get_or cs at [] = e ∙ get_or_default cs at old [] (omega (arith, h)) in
    let sum = total_set cs at new (omega (arith, h)) in
    record {
      owners = let p = has.owners in grind (arith, p, common_steps);
      pages = let p = has.pages in grind (arith, p, s, f);
      spare = let p = has.spare in grind (arith, p, t, g, there, sum);
    }

pub no_total : (n : ℕ) → total (replicate n []) ≡ 0
no_total zero = refl
no_total (suc n) = omega (arith, no_total n)

one_more_replicate : (n : ℕ) → replicate {A = List Claim} (n + 1) [] ≡ [] ∷ replicate n []
one_more_replicate n = rw add-one refl

pub start_room : (agents : ℕ) (own others : Room) → own.free ≡ own.size → others.free ≡ others.size → HasRoom (replicate (agents + 1) []) [] agents own others
start_room agents own others s t = record {
  owners = grind (arith, common_steps);
  pages = let z = one_more_replicate agents in rw z (omega (arith, s));
  spare = let z = one_more_replicate agents in let n = no_total agents in rw z (omega (arith, t, n));
}

pub more_room : (hs : List (List Claim)) (rs : List Rollback) (agents : ℕ) (own others after : Room) → after.free ≡ others.free + 1 → after.size ≡ others.size + 1 → HasRoom hs rs agents own others → HasRoom hs rs agents own after
more_room hs rs agents own others after f s has = record {
  owners = has.owners;
  pages = has.pages;
  spare = let p = has.spare in omega (arith, f, s, p);
}

pub absent_without : (cs : List Claim) (n : Name) → is_some (mode_in cs n) ≡ false → without cs n ≡ cs
absent_without [] n e = refl
absent_without (c ∷ cs) n e = let ih = absent_without cs n in grind (arith, ih)

pub entered_new : (b : Book) (owner : ℕ) (n : Name) (m : Mode) (spare : ℕ) (new : List Claim) → owner < length b.holders → is_some (held_by b owner n) ≡ false → mode_in new n ≡ Some (joined (held_by b owner n) m) → without new n ≡ without (claims_of b owner) n
    → spare + (if owner == 0 then 0 else 1) ≡ b.spare → IsGiven b owner n m (record b { holders = set b.holders owner new; spare = spare })
entered_new b owner n m spare new h e a w s =
    let there : get_or (set b.holders owner new) owner [] ≡ new = get_or-set_same b.holders owner new [] h in
    record {
      mode = rw there a;
      others = rw there w;
      rest = rw there refl;
      spare = grind (arith, e, s);
    }

pub same_set : (hs : List (List Claim)) (i : ℕ) (x : List Claim) → x ≡ get_or hs i x → set hs i x ≡ hs
same_set hs i x e = let P : List Claim → Type 0 = λ z. set hs i z ≡ hs in subst P (sym e) (set-get_or hs i x)

pub some_total : (hs : List (List Claim)) (at : ℕ) → length (get_or hs at []) ≤ total hs
some_total [] at = omega arith
some_total (c ∷ cs) zero = omega arith
some_total (c ∷ cs) (suc at) = let ih = some_total cs at in omega (arith, ih)

pub others_used : (hs : List (List Claim)) (rs : List Rollback) (agents at : ℕ) (old : List Claim) (own others : Room) → at < length hs → old ≡ get_or hs at old → at ≢ 0 → 0 < length old
    → HasRoom hs rs agents own others → others.free < others.size
others_used [] rs agents at old own others h e ne l has = absurd (omega arith)
others_used (c ∷ cs) rs agents zero old own others h e ne l has = absurd (ne refl)
others_used (c ∷ cs) rs agents (suc at) old own others h e ne l has =
    let there : old ≡ get_or cs at [] = e ∙ get_or_default cs at old [] (omega (arith, h)) in
    let sum = some_total cs at in let p = has.spare in grind (arith, there, sum, p, l)

total_append : (xs ys : List (List Claim)) → total (xs ++ ys) ≡ total xs + total ys
total_append [] ys = omega arith
total_append (x ∷ xs) ys = let ih = total_append xs ys in omega (arith, ih)

first_append : (xs ys : List (List Claim)) → 0 < length xs → get_or (xs ++ ys) 0 [] ≡ get_or xs 0 []
first_append [] ys h = absurd (omega arith)
first_append (x ∷ xs) ys h = refl

pub first_set : (xs : List (List Claim)) (at : ℕ) (ys : List Claim) → 1 ≤ at → get_or (set xs at ys) 0 [] ≡ get_or xs 0 []
first_set [] at ys h = refl
first_set (x ∷ xs) zero ys h = absurd (omega arith)
first_set (x ∷ xs) (suc at) ys h = refl

pub postponed_room : (hs : List (List Claim)) (rs : List Rollback) (agents at : ℕ) (old : List Claim) (r : Rollback) (own others : Room) → 1 ≤ at → at < length hs → old ≡ get_or hs at old
    → HasRoom hs rs agents own others → HasRoom (set hs at [] ++ old ∷ []) (rs ++ r ∷ []) agents own others
postponed_room hs rs agents at old r own others one h e has =
    let there : old ≡ get_or hs at [] = e ∙ get_or_default hs at old [] h in
    let sum = total_set hs at [] h in
    let all = total_append (set hs at []) (old ∷ []) in
    let longer = length-append (set hs at []) (old ∷ []) in
    let more = length-append rs (r ∷ []) in
    let keeps = length-set hs at [] in
    let first : get_or (set hs at [] ++ old ∷ []) 0 [] ≡ get_or hs 0 [] = first_append (set hs at []) (old ∷ []) (omega (arith, keeps, h)) ∙ first_set hs at [] one in
    record {
      owners = let p = has.owners in omega (arith, p, longer, more, keeps);
      pages = let p = has.pages in rw first p;
      spare = let p = has.spare in let l = ap (λ z. length z) there in rw first (omega (arith, p, sum, all, l));
    }

pub total_remove : (hs : List (List Claim)) (k : ℕ) → k < length hs → total (remove hs k) + length (get_or hs k []) ≡ total hs
total_remove [] k h = absurd (omega arith)
total_remove (c ∷ cs) zero h = omega arith
total_remove (c ∷ cs) (suc k) h = let ih = total_remove cs k (omega (arith, h)) in omega (arith, ih)

pub ended_room : (hs : List (List Claim)) (rs : List Rollback) (agents k at : ℕ) (own others : Room) → k < length rs → at ≡ agents + 1 + k → get_or hs at [] ≡ []
    → HasRoom hs rs agents own others → HasRoom (remove hs at) (remove rs k) agents own others
ended_room hs rs agents k at own others h place none has =
    let o = has.owners in
    let there : at < length hs = omega (arith, o, h, place) in
    let sum = total_remove hs at there in
    let fewer = length-remove hs at there in
    let less = length-remove rs k h in
    let first = get_or-remove_below hs at [] 0 (omega (arith, place)) there in
    let l = ap (λ z. length z) none in
    record {
      owners = omega (arith, o, fewer, less);
      pages = let p = has.pages in rw first p;
      spare = let p = has.spare in rw first (omega (arith, p, sum, l));
    }

length_without : (cs : List Claim) (n : Name) → is_some (mode_in cs n) ≡ true → length (without cs n) + 1 ≡ length cs
length_without [] n e = cc
length_without (c ∷ cs) n e = let ih = length_without cs n in grind (arith, ih)

pub page_given_up : (cs after : List Claim) (n : Name) → after ≡ without cs n → is_some (mode_in cs n) ≡ true → length after + 1 ≡ length cs
page_given_up cs after n e s = rw e (length_without cs n s)

pub postponed_room_at : (hs : List (List Claim)) (rs : List Rollback) (agents at : ℕ) (old dest moved : List Claim) (hs_after : List (List Claim)) (r : Rollback) (rs_after : List Rollback) (own others : Room) → 1 ≤ at → at < length hs → old ≡ get_or hs at old
    → hs_after ≡ set hs at dest ++ moved ∷ [] → dest ≡ [] → moved ≡ old → rs_after ≡ rs ++ r ∷ []
    → HasRoom hs rs agents own others → HasRoom hs_after rs_after agents own others
postponed_room_at hs rs agents at old dest moved hs_after r rs_after own others one h e a d m b has = rw (a, d, m, b) (postponed_room hs rs agents at old r own others one h e has)

pub entered_at : (hs : List (List Claim)) (rs : List Rollback) (agents entries pages spare room : ℕ) (b : Book) (owner : ℕ) (n : Name) (m : Mode) (held : Option Mode) (mode : Mode) (x y new : List Claim) (pages_after spare_after : ℕ)
    → record { holders = hs; rollbacks = rs; agents = agents; entries = entries; pages = pages; spare = spare; room = room } ≡ b → owner < length hs
    → x ≡ get_or hs owner x → y ≡ get_or hs owner y → held ≡ mode_in x n → is_some held ≡ false → mode ≡ joined held m → mode_in new n ≡ Some mode → without new n ≡ without y n
    → pages_after ≡ pages → spare_after + (if owner == 0 then 0 else 1) ≡ spare
    → IsGiven b owner n m (record { holders = set hs owner new; rollbacks = rs; agents = agents; entries = entries; pages = pages_after; spare = spare_after; room = room })
entered_at hs rs agents entries pages spare room b owner n m held mode x y new pages_after spare_after view h xe ye he nh me ne nw pe se =
    let b0 : Book = record { holders = hs; rollbacks = rs; agents = agents; entries = entries; pages = pages; spare = spare; room = room } in
    let xs : x ≡ get_or hs owner [] = xe ∙ get_or_default hs owner x [] h in
    let ys : y ≡ get_or hs owner [] = ye ∙ get_or_default hs owner y [] h in
    let own : held ≡ held_by b0 owner n = he ∙ ap (λ z. mode_in z n) xs in
    let modes : mode ≡ joined (held_by b0 owner n) m = me ∙ ap (λ z. joined z m) own in
    let absent : is_some (held_by b0 owner n) ≡ false = sym (ap (λ z. is_some z) own) ∙ nh in
    let it = entered_new b0 owner n m spare_after new h absent (ne ∙ ap (λ z. Some z) modes) (nw ∙ ap (λ z. without z n) ys) se in
    let B : ℕ → Type 0 = λ z. IsGiven b0 owner n m (record b0 { holders = set hs owner new; pages = z; spare = spare_after }) in
    let C : Book → Type 0 = λ z. IsGiven z owner n m (record b0 { holders = set hs owner new; pages = pages_after; spare = spare_after }) in
    subst C view (subst B (sym pe) it)

pub drop_next : (cs : List Claim) (k : ℕ) (c : Claim) (rest : List Claim) → drop k cs ≡ c ∷ rest → drop (k + 1) cs ≡ rest
drop_next [] zero c rest e = cc
drop_next [] (suc k) c rest e = cc
drop_next (x ∷ xs) zero c rest e = cc
drop_next (x ∷ xs) (suc k) c rest e = let next : suc (k + 1) ≡ suc k + 1 = omega arith in subst (λ z. drop z (x ∷ xs) ≡ rest) next (drop_next xs k c rest e)

-- ---- a claim that an owner but slot 0 gets

absent_book : (b : Book) (owner : ℕ) (n : Name) (m mode : Mode) (new : List Claim) (spare : ℕ) → is_some (held_by b owner n) ≡ false → mode ≡ joined (held_by b owner n) m → new ≡ record { name = n; mode = mode } ∷ claims_of b owner → spare + 1 ≡ b.spare → owner ≢ 0
    → record b { holders = set b.holders owner new; spare = spare } ≡ given b owner n m
absent_book b owner n m mode new spare a e w s ne =
    let list : new ≡ entered (claims_of b owner) n (joined (held_by b owner n) m) = w ∙ ap (λ z. record { name = n; mode = z } ∷ claims_of b owner) e ∙ ap (λ z. if z then with_mode (claims_of b owner) n (joined (held_by b owner n) m) else record { name = n; mode = joined (held_by b owner n) m } ∷ claims_of b owner) (sym a) in
    let left : spare ≡ spare_after b owner n = grind (arith, a, s, ne) in
    ap (λ z. record b { holders = set b.holders owner z; spare = spare }) list ∙ ap (λ z. record (given b owner n m) { spare = z }) left

present_book : (b : Book) (owner : ℕ) (n : Name) (m mode : Mode) (new : List Claim) → is_some (held_by b owner n) ≡ true → mode ≡ joined (held_by b owner n) m → new ≡ with_mode (claims_of b owner) n mode
    → record b { holders = set b.holders owner new } ≡ given b owner n m
present_book b owner n m mode new a e w =
    let list : new ≡ entered (claims_of b owner) n (joined (held_by b owner n) m) = w ∙ ap (λ z. with_mode (claims_of b owner) n z) e ∙ ap (λ z. if z then with_mode (claims_of b owner) n (joined (held_by b owner n) m) else record { name = n; mode = joined (held_by b owner n) m } ∷ claims_of b owner) (sym a) in
    let left : b.spare ≡ spare_after b owner n = grind (arith, a) in
    ap (λ z. record b { holders = set b.holders owner z }) list ∙ ap (λ z. record (given b owner n m) { spare = z }) left

pub given_at : (hs : List (List Claim)) (rs : List Rollback) (agents entries pages spare room : ℕ) (b : Book) (owner : ℕ) (n : Name) (m : Mode) (held : Option Mode) (mode : Mode) (x y new : List Claim) (pages_after spare_after : ℕ)
    → record { holders = hs; rollbacks = rs; agents = agents; entries = entries; pages = pages; spare = spare; room = room } ≡ b → owner < length hs
    → x ≡ get_or hs owner x → y ≡ get_or hs owner y → held ≡ mode_in x n → is_some held ≡ false → mode ≡ joined held m → new ≡ record { name = n; mode = mode } ∷ y
    → pages_after ≡ pages → spare_after + 1 ≡ spare → owner ≢ 0
    → record { holders = set hs owner new; rollbacks = rs; agents = agents; entries = entries; pages = pages_after; spare = spare_after; room = room } ≡ given b owner n m
given_at hs rs agents entries pages spare room b owner n m held mode x y new pages_after spare_after view h xe ye he nh me ne pe se z =
    let b0 : Book = record { holders = hs; rollbacks = rs; agents = agents; entries = entries; pages = pages; spare = spare; room = room } in
    let own : held ≡ held_by b0 owner n = he ∙ ap (λ z. mode_in z n) (xe ∙ get_or_default hs owner x [] h) in
    let it = absent_book b0 owner n m mode new spare_after (sym (ap (λ z. is_some z) own) ∙ nh) (me ∙ ap (λ z. joined z m) own) (ne ∙ ap (λ z. record { name = n; mode = mode } ∷ z) (ye ∙ get_or_default hs owner y [] h)) se z in
    ap (λ z. record b0 { holders = set hs owner new; pages = z; spare = spare_after }) pe ∙ it ∙ ap (λ z. given z owner n m) view

pub changed_at : (hs : List (List Claim)) (rs : List Rollback) (agents entries pages spare room : ℕ) (b : Book) (owner : ℕ) (n : Name) (m : Mode) (held : Option Mode) (was mode : Mode) (x y new : List Claim)
    → record { holders = hs; rollbacks = rs; agents = agents; entries = entries; pages = pages; spare = spare; room = room } ≡ b → owner < length hs
    → x ≡ get_or hs owner x → y ≡ get_or hs owner y → held ≡ mode_in x n → held ≡ Some was → mode ≡ joined held m → new ≡ with_mode y n mode
    → record { holders = set hs owner new; rollbacks = rs; agents = agents; entries = entries; pages = pages; spare = spare; room = room } ≡ given b owner n m
changed_at hs rs agents entries pages spare room b owner n m held was mode x y new view h xe ye he nh me ne =
    let b0 : Book = record { holders = hs; rollbacks = rs; agents = agents; entries = entries; pages = pages; spare = spare; room = room } in
    let own : held ≡ held_by b0 owner n = he ∙ ap (λ z. mode_in z n) (xe ∙ get_or_default hs owner x [] h) in
    let it = present_book b0 owner n m mode new (ap (λ z. is_some z) (sym own ∙ nh)) (me ∙ ap (λ z. joined z m) own) (ne ∙ ap (λ z. with_mode z n mode) (ye ∙ get_or_default hs owner y [] h)) in
    it ∙ ap (λ z. given z owner n m) view
