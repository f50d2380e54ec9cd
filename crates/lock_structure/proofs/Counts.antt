-- How many records of an area stand, and what room that leaves.
use Rattle.std.proofs.Common.{◌≡◌, ℕ, zero, suc, ◌+◌, ◌<◌, ◌≤◌, true, false, List, [], ◌∷◌, length, map, set, get_or, refl, ap, ◌∙◌, arith, if◌then◌else◌, ◌==◌, replicate}
use Rattle.std.specs.Prelude.{is_some}
use Rattle.std.proofs.lemmas.List.{get_or_default}
use Rattle.std.proofs.lemmas.Grind.{common_steps}
use Rattle.lock_names.specs.Given.{Name}
use Rattle.lock_names.specs.Given.name_variants as name
use Rattle.lock_names.specs.Names.{same_name}
use Rattle.lock_names.proofs.Names.{same_equal}
use Rattle.lock_structure.specs.declared.chain.Record.{Record}
use Rattle.lock_structure.specs.declared.chain.Held.{Held}
use Rattle.record_area.specs.Areas.{Room}
use Rattle.lock_structure.specs.Records.{area_of, how_many, record_in, retained_by}
use Rattle.lock_structure.specs.Buckets.{put_in, without, count_in, no_room, all_free, HasRoom}

-- one name has one area
same_area : (a n : Name) (m : ℕ) → same_name a n ≡ true → area_of m a ≡ area_of m n
same_area a n m e = ap (λ z. area_of m z) (same_equal a n e)

pub put_count : (hs : List Held) (m : ℕ) (n : Name) (r : Record) (area : ℕ) → how_many area (put_in hs m n r) ≡ how_many area hs
put_count [] m n r area = refl
put_count (h ∷ hs) m n r area = let ih = put_count hs m n r area in grind (arith, ih)

pub absent_without : (hs : List Held) (m : ℕ) (n : Name) → is_some (record_in hs m n) ≡ false → without hs m n ≡ hs
absent_without [] m n e = refl
absent_without (h ∷ hs) m n e = let ih = absent_without hs m n in grind (arith, ih)

pub without_count : (hs : List Held) (m : ℕ) (n : Name) (area : ℕ) → is_some (record_in hs m n) ≡ true → how_many area hs ≡ how_many area (without hs m n) + (if area == area_of m n then 1 else 0)
without_count [] m n area e = cc
without_count (h ∷ hs) m n area e = let ih = without_count hs m n area in let s = same_area h.name n m in grind (arith, ih, s)

pub retained_count : (hs : List Held) (m area : ℕ) → how_many area (map (retained_by m) hs) ≡ how_many area hs
retained_count [] m area = refl
retained_count (h ∷ hs) m area = let ih = retained_count hs m area in grind (arith, ih)

pub all_retained_count : (cs : List (List Held)) (m area : ℕ) → count_in area (map (map (retained_by m)) cs) ≡ count_in area cs
all_retained_count [] m area = refl
all_retained_count (c ∷ cs) m area = let ih = all_retained_count cs m area in let here = retained_count c m area in grind (arith, ih, here)

-- a chain in the place of another
pub changed_count : (cs : List (List Held)) (at area : ℕ) (ys : List Held) → at < length cs → count_in area (set cs at ys) + how_many area (get_or cs at []) ≡ count_in area cs + how_many area ys
changed_count [] at area ys h = absurd (omega arith)
changed_count (c ∷ cs) zero area ys h = omega arith
changed_count (c ∷ cs) (suc at) area ys h = let ih = changed_count cs at area ys (omega (arith, h)) in omega (arith, ih)

pub put_room : (cs : List (List Held)) (areas : List Room) (records pages at m : ℕ) (n : Name) (r : Record) → at < length cs → HasRoom cs areas records pages
    → HasRoom (set cs at (put_in (get_or cs at []) m n r)) areas records pages
put_room cs areas records pages at m n r h room = record {
  count = room.count;
  size = room.size;
  free = λ k b. let c = changed_count cs at k (put_in (get_or cs at []) m n r) h in let p = put_count (get_or cs at []) m n r k in let f = room.free k b in omega (arith, c, p, f);
}

room_at : (areas : List Room) (at k : ℕ) (room d : Room) → at < length areas → get_or (set areas at room) k d ≡ (if k == at then room else get_or areas k d)
room_at areas at k room d h = grind (arith, common_steps)

pub insert_room : (cs : List (List Held)) (areas : List Room) (records pages at : ℕ) (x : Held) (room : Room) → at < length cs → area_of x.member x.name < 33
    → room.free + 1 ≡ (get_or areas (area_of x.member x.name) no_room).free → room.size ≡ (get_or areas (area_of x.member x.name) no_room).size → HasRoom cs areas records pages
    → HasRoom (set cs at (x ∷ get_or cs at [])) (set areas (area_of x.member x.name) room) records pages
insert_room cs areas records pages at x room h b f s has = record {
  count = grind (arith, common_steps, has.count);
  size = λ k l. let r = room_at areas (area_of x.member x.name) k room no_room (omega (arith, has.count)) in let z = has.size k l in grind (arith, r, z);
  free = λ k l. let r = room_at areas (area_of x.member x.name) k room no_room (omega (arith, has.count)) in let z = has.free k l in let c = changed_count cs at k (x ∷ get_or cs at []) h in grind (arith, r, z, c);
}

pub remove_room : (cs : List (List Held)) (areas : List Room) (records pages at m : ℕ) (n : Name) (room : Room) → at < length cs → area_of m n < 33
    → is_some (record_in (get_or cs at []) m n) ≡ true
    → room.free ≡ (get_or areas (area_of m n) no_room).free + 1 → room.size ≡ (get_or areas (area_of m n) no_room).size → HasRoom cs areas records pages
    → HasRoom (set cs at (without (get_or cs at []) m n)) (set areas (area_of m n) room) records pages
remove_room cs areas records pages at m n room h b e f s has = record {
  count = grind (arith, common_steps, has.count);
  size = λ k l. let r = room_at areas (area_of m n) k room no_room (omega (arith, has.count)) in let z = has.size k l in grind (arith, r, z);
  free = λ k l. let r = room_at areas (area_of m n) k room no_room (omega (arith, has.count)) in let z = has.free k l in let c = changed_count cs at k (without (get_or cs at []) m n) h in let w = without_count (get_or cs at []) m n k e in grind (arith, r, z, c, w);
}

pub absent_room : (cs : List (List Held)) (areas : List Room) (records pages at m : ℕ) (n : Name) → is_some (record_in (get_or cs at []) m n) ≡ false → at < length cs → HasRoom cs areas records pages
    → HasRoom (set cs at (without (get_or cs at []) m n)) areas records pages
absent_room cs areas records pages at m n e h has = record {
  count = has.count;
  size = has.size;
  free = λ k l. let a = absent_without (get_or cs at []) m n e in let c = changed_count cs at k (without (get_or cs at []) m n) h in let z = has.free k l in grind (arith, a, c, z);
}

-- where a record stands, the area isn't all free
pub some_used : (cs : List (List Held)) (areas : List Room) (records pages at m : ℕ) (n : Name) → at < length cs → area_of m n < 33 → is_some (record_in (get_or cs at []) m n) ≡ true → HasRoom cs areas records pages
    → (get_or areas (area_of m n) no_room).free < (get_or areas (area_of m n) no_room).size
some_used cs areas records pages at m n h b e has =
    let w = without_count (get_or cs at []) m n (area_of m n) e in
    let c = changed_count cs at (area_of m n) (without (get_or cs at []) m n) h in
    let f = has.free (area_of m n) b in
    let z = has.size (area_of m n) b in grind (arith, w, c, f, z)

pub retained_room : (cs : List (List Held)) (areas : List Room) (records pages m : ℕ) → HasRoom cs areas records pages → HasRoom (map (map (retained_by m)) cs) areas records pages
retained_room cs areas records pages m has = record {
  count = has.count;
  size = has.size;
  free = λ k l. let a = all_retained_count cs m k in let z = has.free k l in omega (arith, a, z);
}

pub area_range : (m : ℕ) (n : Name) → m ≤ 32 → area_of m n < 33
unfolding area_of
area_range m (name.Space t) h = omega arith
area_range m (name.Row t k) h = omega arith
area_range m (name.Page p) h = omega arith
area_range m (name.Set s) h = omega arith

-- the same, where the chain and the area were read by an index

pub put_room_at : (cs : List (List Held)) (areas : List Room) (records pages at m : ℕ) (n : Name) (r : Record) (chain new : List Held) → at < length cs → chain ≡ get_or cs at chain → new ≡ put_in chain m n r
    → HasRoom cs areas records pages → HasRoom (set cs at new) areas records pages
put_room_at cs areas records pages at m n r chain new h e p has = rw (p, e, get_or_default cs at chain [] h) (put_room cs areas records pages at m n r h has)

pub insert_room_at : (cs : List (List Held)) (areas : List Room) (records pages at k : ℕ) (x : Held) (chain new : List Held) (area room : Room) → at < length cs → k ≡ area_of x.member x.name → k < 33
    → chain ≡ get_or cs at chain → new ≡ x ∷ chain → area ≡ get_or areas k area
    → room.free + 1 ≡ area.free → room.size ≡ area.size → HasRoom cs areas records pages → HasRoom (set cs at new) (set areas k room) records pages
insert_room_at cs areas records pages at k x chain new area room h kk b e p a f s has =
    let same : chain ≡ get_or cs at [] = e ∙ get_or_default cs at chain [] h in
    let here : area ≡ get_or areas k no_room = a ∙ get_or_default areas k area no_room (omega (arith, has.count)) in
    let there : area ≡ get_or areas (area_of x.member x.name) no_room = here ∙ ap (λ q. get_or areas q no_room) kk in
    rw (p, same, kk) (insert_room cs areas records pages at x room h (rw (← kk) b) (f ∙ ap (λ q. q.free) there) (s ∙ ap (λ q. q.size) there) has)

pub remove_room_at : (cs : List (List Held)) (areas : List Room) (records pages at m k : ℕ) (n : Name) (chain new : List Held) (area room : Room) → at < length cs → k ≡ area_of m n → k < 33
    → is_some (record_in chain m n) ≡ true
    → chain ≡ get_or cs at chain → new ≡ without chain m n → area ≡ get_or areas k area
    → room.free ≡ area.free + 1 → room.size ≡ area.size → HasRoom cs areas records pages → HasRoom (set cs at new) (set areas k room) records pages
remove_room_at cs areas records pages at m k n chain new area room h kk b st e p a f s has =
    let same : chain ≡ get_or cs at [] = e ∙ get_or_default cs at chain [] h in
    let here : area ≡ get_or areas k no_room = a ∙ get_or_default areas k area no_room (omega (arith, has.count)) in
    let there : area ≡ get_or areas (area_of m n) no_room = here ∙ ap (λ q. get_or areas q no_room) kk in
    rw (p, same, kk) (remove_room cs areas records pages at m n room h (rw (← kk) b) (rw (← same) st) (f ∙ ap (λ q. q.free + 1) there) (s ∙ ap (λ q. q.size) there) has)

pub absent_room_at : (cs : List (List Held)) (areas : List Room) (records pages at m : ℕ) (n : Name) (chain new : List Held) → at < length cs → is_some (record_in chain m n) ≡ false → chain ≡ get_or cs at chain → new ≡ without chain m n
    → HasRoom cs areas records pages → HasRoom (set cs at new) areas records pages
absent_room_at cs areas records pages at m n chain new h st e p has =
    let same : chain ≡ get_or cs at [] = e ∙ get_or_default cs at chain [] h in
    rw (p, same) (absent_room cs areas records pages at m n (rw (← same) st) h has)

pub some_used_at : (cs : List (List Held)) (areas : List Room) (records pages at m k : ℕ) (n : Name) (chain : List Held) (area : Room) → at < length cs → k ≡ area_of m n → k < 33
    → is_some (record_in chain m n) ≡ true → chain ≡ get_or cs at chain → area ≡ get_or areas k area → HasRoom cs areas records pages → area.free < area.size
some_used_at cs areas records pages at m k n chain area h kk b st e a has =
    let same : chain ≡ get_or cs at [] = e ∙ get_or_default cs at chain [] h in
    let here : area ≡ get_or areas k no_room = a ∙ get_or_default areas k area no_room (omega (arith, has.count)) in
    let there : area ≡ get_or areas (area_of m n) no_room = here ∙ ap (λ q. get_or areas q no_room) kk in
    rw there (some_used cs areas records pages at m n h (rw (← kk) b) (rw (← same) st) has)

-- an area with fewer records than its size has room
pub free_at : (cs : List (List Held)) (areas : List Room) (records pages k : ℕ) (area : Room) → k < 33 → area ≡ get_or areas k area → HasRoom cs areas records pages
    → count_in k cs < (if k == 0 then records else pages) → 0 < area.free
free_at cs areas records pages k area b a has l =
    let here : area ≡ get_or areas k no_room = a ∙ get_or_default areas k area no_room (omega (arith, has.count)) in
    let f = has.free k b in rw here (omega (arith, f, l))

empty_count : (area n : ℕ) → count_in area (replicate n []) ≡ 0
empty_count area zero = refl
empty_count area (suc n) = let ih = empty_count area n in omega (arith, ih)

pub empty_room : (cs : List (List Held)) (areas : List Room) (buckets records pages : ℕ) → cs ≡ replicate buckets [] → length areas ≡ 33
    → ((k : ℕ) → k < 33 → get_or areas k no_room ≡ all_free (if k == 0 then records else pages)) → HasRoom cs areas records pages
empty_room cs areas buckets records pages e count free = record {
  count = count;
  size = λ k b. ap (λ q. q.size) (free k b);
  free = λ k b. let f = ap (λ q. q.free) (free k b) in let none = empty_count k buckets in rw e (omega (arith, f, none));
}
