-- What is claimed doesn't depend on the room that there is for claims and rollbacks.
use Rattle.std.proofs.Common.{◌≡◌, ℕ, ◌-◌, Bool, true, if◌then◌else◌, List, [], ◌∷◌, length, refl, ap, sym, ◌∙◌}
use Rattle.std.specs.Prelude.{nat_lt}
use Rattle.ds_model.specs.declared.log.RowChange.{RowChange}
use Rattle.ds_model.specs.Rows.{Spot}
use Rattle.lock_manager.specs.Managers.{Book, with_claims, after_postpone}
use Rattle.member_trans.specs.declared.fate.Change.{Change}
use Rattle.member_trans.specs.Trans.{with_adopted}
use Rattle.member_marks.specs.Names.{NameSet, with_spots}
use Rattle.member_marks.specs.State.{MarksState}
use Rattle.member_marks.specs.Rollbacks.{spots_of, spot_claimed, claimed, claims_adopted, may_adopt, adopted_in, with_rollback, after_adopt, with_room_of}

abbrev roomy : Book → ℕ → ℕ → Book
roomy b spare room = record b { spare = spare; room = room }

claimed_with : (b : Book) (x y : ℕ) (ss : List Spot) → claimed (roomy b x y) ss ≡ roomy (claimed b ss) (claimed (roomy b x y) ss).spare y
claimed_with b x y [] = refl
claimed_with b x y (s ∷ ss) = claimed_with (spot_claimed b s) (spot_claimed (roomy b x y) s).spare y ss

claims_with : (b : Book) (x y id by : ℕ) (ss : List Spot)
    → claims_adopted (roomy b x y) id by ss ≡ roomy (claims_adopted b id by ss) (claims_adopted (roomy b x y) id by ss).spare (y - 1)
claims_with b x y id by ss = ap (λ c. after_postpone c 1 id by) (claimed_with (with_claims b 1 []) (with_claims (roomy b x y) 1 []).spare y ss)

own_room : (l m : Book) (x y : ℕ) → l ≡ roomy m x y → l ≡ roomy m l.spare l.room
own_room l m x y e = e ∙ ap (λ (c : Book). roomy m c.spare c.room) (sym e)

put_in : (s r : MarksState) (id by : ℕ) (cs : List Change) (u : Bool) (ss : List Spot) (k : NameSet) (l : Book) → l ≡ roomy (claims_adopted s.locks id by ss) l.spare l.room
    → record (with_room_of s r) { locks = l; trans = with_adopted (with_room_of s r).trans id cs u; kept = k }
    ≡ with_room_of (adopted_in s id by cs u ss k) (record (with_room_of s r) { locks = l; trans = with_adopted (with_room_of s r).trans id cs u; kept = k })
put_in s r id by cs u ss k l e = ap (λ b. record (with_room_of s r) { locks = b; trans = with_adopted (with_room_of s r).trans id cs u; kept = k }) e

room_aside : (s r : MarksState) (id by : ℕ) (cs : List Change) (u : Bool) (ss : List Spot) (k : NameSet)
    → adopted_in (with_room_of s r) id by cs u ss k ≡ with_room_of (adopted_in s id by cs u ss k) (adopted_in (with_room_of s r) id by cs u ss k)
room_aside s r id by cs u ss k =
    let l = claims_adopted (with_room_of s r).locks id by ss in
    put_in s r id by cs u ss k l (own_room l (claims_adopted s.locks id by ss) l.spare (r.locks.room - 1) (claims_with s.locks r.locks.spare r.locks.room id by ss))

adopted_with : (s r t : MarksState) (id by : ℕ) (cs : List Change) (u : Bool) (ss : List Spot) (k : NameSet) → r ≡ with_room_of s r → t ≡ adopted_in r id by cs u ss k
    → t ≡ with_room_of (adopted_in s id by cs u ss k) t
adopted_with s r t id by cs u ss k e f =
    let g : t ≡ adopted_in (with_room_of s r) id by cs u ss k = f ∙ ap (λ q. adopted_in q id by cs u ss k) e in
    g ∙ room_aside s r id by cs u ss k ∙ ap (with_room_of (adopted_in s id by cs u ss k)) (sym g)

same_rollback : (r : MarksState) (id by : ℕ) (cs : List Change) (u : Bool) (ss : List Spot) (k : NameSet) (v : Bool) (qs : List Spot) (q : NameSet)
    → u ≡ v → ss ≡ qs → k ≡ q → adopted_in r id by cs u ss k ≡ adopted_in r id by cs v qs q
same_rollback r id by cs u ss k v qs q a b c = λ i. adopted_in r id by cs (a i) (b i) (c i)

where_so : (b : Bool) (s w t : MarksState) → b ≡ true → t ≡ with_room_of w t → t ≡ with_room_of (if b then w else s) t
where_so b s w t h e = rw h e

pub adopted_when : (s r t : MarksState) (id by : ℕ) (cs : List Change) (us : List RowChange) (u : Bool) (ss : List Spot) (k : NameSet)
    → may_adopt s id cs ≡ true → r ≡ with_room_of s r → t ≡ adopted_in r id by cs u ss k
    → u ≡ nat_lt 0 (length us) → ss ≡ spots_of cs us → k ≡ with_spots s.kept ss
    → t ≡ with_room_of (after_adopt s id by cs us) t
adopted_when s r t id by cs us u ss k may e f a b c =
    let g : t ≡ with_room_of (with_rollback s id by cs us) t = adopted_with s r t id by cs (nat_lt 0 (length us)) (spots_of cs us) (with_spots s.kept (spots_of cs us)) e (f ∙ same_rollback r id by cs u ss k (nat_lt 0 (length us)) (spots_of cs us) (with_spots s.kept (spots_of cs us)) a b (c ∙ ap (with_spots s.kept) b)) in
    where_so (may_adopt s id cs) s (with_rollback s id by cs us) t may g
