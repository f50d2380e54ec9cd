-- A list of members of which one has changed, or all are stale.
use Rattle.std.proofs.Common.{◌≡◌, ◌≢◌, ℕ, zero, suc, ◌<◌, ◌≤◌, Option, None, Some, List, [], ◌∷◌, ◌++◌, map, length, take, drop, slice_get, slice_set, slice_index_or, option_map, refl, sym, ap, subst, ◌∙◌, arith}
use Rattle.std.proofs.lemmas.List.{append-nil, drop_all, take_all, length-map}
use Rattle.ds_base.specs.declared.names.Sizes.{Sizes}
use Rattle.ds_model.specs.declared.script.Script.{Script}
use Rattle.script_fates.specs.Fated.{FatesState}
use Rattle.group_member.specs.declared.part.MemberPart.{MemberPart}
use Rattle.group_member.specs.declared.stepped.Stepped.{Stepped}
use Rattle.group_member.specs.Happening.{Comes, World}
use Rattle.group_member.specs.Members.{Member, member_of}
use Rattle.group_member.specs.Refusing.{IsRefused}
use Rattle.group_crew.specs.Beginning.{Kept, kept_by}
use Rattle.group_crew.specs.States.{known_by}
use Rattle.group_crew.specs.Crews.{stale, unlooked}
use Rattle.group_crew.specs.Happening.{ComesAt, IsRefusedAt, member_at}

-- what is put in place of an item has the same value
pub map_set : {A B : Type 0} (f : A → B) (xs : List A) (i : ℕ) (d y : A) → i < length xs → f y ≡ f (slice_index_or xs i d) → map f (slice_set xs i y) ≡ map f xs
map_set f [] i d y within same = let never : ⊥ = omega arith in absurd never
map_set f (x ∷ xs) zero d y within same = ap (λ it. it ∷ map f xs) same
map_set f (x ∷ xs) (suc i) d y within same = ap (λ its. f x ∷ its) (map_set f xs i d y (omega arith) same)

pub kept_stale : {P : Type 0} (parts : List (MemberPart P)) → map kept_by (map stale parts) ≡ map kept_by parts
kept_stale [] = refl
kept_stale (part ∷ parts) = ap (λ its. kept_by part ∷ its) (kept_stale parts)

-- ---- what members are and hold

pub members_stale : {P : Type 0} (parts : List (MemberPart P)) → map member_of (map stale parts) ≡ map member_of parts
members_stale [] = refl
members_stale (part ∷ parts) = ap (λ its. member_of part ∷ its) (members_stale parts)

members_unlooked : {P : Type 0} (parts : List (MemberPart P)) → map member_of parts ≡ map member_of (map unlooked parts)
members_unlooked [] = refl
members_unlooked (part ∷ parts) = ap (λ its. member_of part ∷ its) (members_unlooked parts)

-- a look for ready choices leaves them as they are
pub members_looked : {P : Type 0} (xs ys : List (MemberPart P)) → map unlooked xs ≡ map unlooked ys → map member_of xs ≡ map member_of ys
members_looked xs ys same = members_unlooked xs ∙ (ap (map member_of) same ∙ sym (members_unlooked ys))

-- ---- what members know

abbrev known_in : Kept → List ℕ
known_in k = k.known

known_kept : {P : Type 0} (parts : List (MemberPart P)) → map known_by parts ≡ map known_in (map kept_by parts)
known_kept [] = refl
known_kept (part ∷ parts) = ap (λ its. known_by part ∷ its) (known_kept parts)

pub known_same : {P : Type 0} (xs ys : List (MemberPart P)) → map kept_by xs ≡ map kept_by ys → map known_by xs ≡ map known_by ys
known_same xs ys same = known_kept xs ∙ (ap (map known_in) same ∙ sym (known_kept ys))

pub known_stale : {P : Type 0} (parts : List (MemberPart P)) → map known_by (map stale parts) ≡ map known_by parts
known_stale [] = refl
known_stale (part ∷ parts) = ap (λ its. known_by part ∷ its) (known_stale parts)

known_unlooked : {P : Type 0} (parts : List (MemberPart P)) → map known_by parts ≡ map known_by (map unlooked parts)
known_unlooked [] = refl
known_unlooked (part ∷ parts) = ap (λ its. known_by part ∷ its) (known_unlooked parts)

-- a look for ready choices leaves it as it is
pub known_looked : {P : Type 0} (xs ys : List (MemberPart P)) → map unlooked xs ≡ map unlooked ys → map known_by xs ≡ map known_by ys
known_looked xs ys same = known_unlooked xs ∙ (ap (map known_by) same ∙ sym (known_unlooked ys))

-- ---- a list that is written back whole

pub same_length : {A B : Type 0} (f : A → B) (xs ys : List A) → map f xs ≡ map f ys → length xs ≡ length ys
same_length f xs ys same = simp length-map at (ap length same)

pub whole : {A : Type 0} (n : ℕ) (xs ys : List A) → length xs ≡ n → length ys ≡ n → take n (ys ++ drop (length ys) xs) ≡ ys
whole n xs ys long also = rw (drop_all (length ys) xs (omega arith), append-nil ys) (take_all n ys (omega arith))

-- f can't tell what is written
pub once : {A B : Type 0} (f : A → B) (n : ℕ) (xs ys : List A) → length xs ≡ n → map f ys ≡ map f xs → map f (take n (ys ++ drop (length ys) xs)) ≡ map f xs
once f n xs ys long first = ap (map f) (whole n xs ys long (same_length f ys xs first ∙ long)) ∙ first

-- nor the second time
pub both : {A B : Type 0} (f : A → B) (n : ℕ) (xs ys zs : List A)
    → length xs ≡ n → map f ys ≡ map f xs → map f zs ≡ map f (take n (ys ++ drop (length ys) xs))
    → map f (take n (zs ++ drop (length zs) (take n (ys ++ drop (length ys) xs)))) ≡ map f xs
both f n xs ys zs long first second =
    let ys_long : length ys ≡ n = same_length f ys xs first ∙ long in
    let mid : take n (ys ++ drop (length ys) xs) ≡ ys = whole n xs ys long ys_long in
    let zs_same : map f zs ≡ map f ys = second ∙ ap (map f) mid in
    let zs_long : length zs ≡ n = same_length f zs ys zs_same ∙ ys_long in
    let mid_long : length (take n (ys ++ drop (length ys) xs)) ≡ n = ap length mid ∙ ys_long in
    ap (map f) (whole n (take n (ys ++ drop (length ys) xs)) zs mid_long zs_long) ∙ (zs_same ∙ first)

-- ---- the member at a place

pub at_stale : {P : Type 0} (parts : List (MemberPart P)) (k : ℕ) → member_at (map stale parts) k ≡ member_at parts k
at_stale [] k = refl
at_stale (part ∷ parts) zero = refl
at_stale (part ∷ parts) (suc k) = at_stale parts k

pub at_set : {P : Type 0} (parts : List (MemberPart P)) (i : ℕ) (d part : MemberPart P) (k : ℕ) → member_of part ≡ member_of (slice_index_or parts i d) → member_at (slice_set parts i part) k ≡ member_at parts k
at_set [] i d part k same = refl
at_set (x ∷ xs) zero d part zero same = ap (λ (m : Member). Some m) same
at_set (x ∷ xs) zero d part (suc k) same = refl
at_set (x ∷ xs) (suc i) d part zero same = refl
at_set (x ∷ xs) (suc i) d part (suc k) same = at_set xs i d part k same

pub at_other : {P : Type 0} (parts : List (MemberPart P)) (i : ℕ) (part : MemberPart P) (k : ℕ) → k ≢ i → member_at (slice_set parts i part) k ≡ member_at parts k
at_other [] i part k other = refl
at_other (x ∷ xs) zero part zero other = absurd (other refl)
at_other (x ∷ xs) zero part (suc k) other = refl
at_other (x ∷ xs) (suc i) part zero other = refl
at_other (x ∷ xs) (suc i) part (suc k) other = at_other xs i part k (λ same. other (ap suc same))

-- its event is that of the member at the place
pub comes_at : {P : Type 0} (script : Script) (begun : ℕ) (sizes : Sizes) (choice : ℕ) (parts : List (MemberPart P)) (i : ℕ) (d part : MemberPart P) (w : World) (f : FatesState) (place : ℕ) (stepped : Stepped) (v : World) (g : FatesState)
    → i < length parts → Comes script begun sizes choice (member_of (slice_index_or parts i d)) w f place stepped (member_of part) v g
    → ComesAt script begun sizes choice (member_at parts i) w f place stepped (member_at (slice_set parts i part) i) v g
comes_at script begun sizes choice [] i d part w f place stepped v g within comes = let never : ⊥ = omega arith in absurd never
comes_at script begun sizes choice (x ∷ xs) zero d part w f place stepped v g within comes = comes
comes_at script begun sizes choice (x ∷ xs) (suc i) d part w f place stepped v g within comes = comes_at script begun sizes choice xs i d part w f place stepped v g (omega arith) comes

pub refused_at : {P : Type 0} (parts : List (MemberPart P)) (i : ℕ) (d : MemberPart P) (w : World) (place : ℕ) (v : World) → i < length parts → IsRefused (member_of (slice_index_or parts i d)) w place v
    → IsRefusedAt (member_at parts i) w place v
refused_at [] i d w place v within refused = let never : ⊥ = omega arith in absurd never
refused_at (x ∷ xs) zero d w place v within refused = refused
refused_at (x ∷ xs) (suc i) d w place v within refused = refused_at xs i d w place v (omega arith) refused

-- there is none
pub none_at : {P : Type 0} (parts : List (MemberPart P)) (i : ℕ) (w : World) (place : ℕ) (v : World) → length parts ≤ i → IsRefusedAt (member_at parts i) w place v
none_at [] i w place v beyond = tt
none_at (x ∷ xs) zero w place v beyond = let never : ⊥ = omega arith in absurd never
none_at (x ∷ xs) (suc i) w place v beyond = none_at xs i w place v (omega arith)

pub none_there : {P : Type 0} (parts : List (MemberPart P)) (i : ℕ) (w : World) (place : ℕ) (v : World) → slice_get parts i ≡ None → IsRefusedAt (member_at parts i) w place v
none_there {P} parts i w place v is = subst (λ (o : Option (MemberPart P)). IsRefusedAt (option_map member_of o) w place v) (sym is) tt

-- what the event came to, by other names
pub comes_then : (script : Script) (begun : ℕ) (sizes : Sizes) (choice : ℕ) (m : Option Member) (w : World) (f : FatesState) (place : ℕ) (stepped : Stepped) (n k : Option Member) (u v : World) (g h : FatesState)
    → k ≡ n → v ≡ u → h ≡ g → ComesAt script begun sizes choice m w f place stepped n u g → ComesAt script begun sizes choice m w f place stepped k v h
comes_then script begun sizes choice m w f place stepped n k u v g h there world fates comes =
    subst (λ (x : Option Member). ComesAt script begun sizes choice m w f place stepped x v h) (sym there)
    (subst (λ (x : World). ComesAt script begun sizes choice m w f place stepped n x h) (sym world)
    (subst (λ (x : FatesState). ComesAt script begun sizes choice m w f place stepped n u x) (sym fates) comes))

pub same_stale : {P : Type 0} (news parts : List (MemberPart P)) → news ≡ map stale parts → length news ≡ length parts
same_stale news parts are = ap length are ∙ length-map parts stale

-- where all are stale
pub at_all_stale : {P : Type 0} (parts news : List (MemberPart P)) (k : ℕ) → news ≡ map stale parts → member_at news k ≡ member_at parts k
at_all_stale {P} parts news k are = ap (λ (its : List (MemberPart P)). member_at its k) are ∙ at_stale parts k
