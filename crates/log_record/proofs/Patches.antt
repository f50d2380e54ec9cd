-- The patches of pages: what is read is their spelling, and their spelling is read again.
use Rattle.std.proofs.Common.{◌≡◌, ℕ, zero, suc, ◌+◌, ◌^◌, ◌<◌, ◌≤◌, Bool, true, List, [], ◌∷◌, ◌++◌, length, Some, Result, Ok, Err, refl, sym, ap, subst, ◌∙◌, append_assoc, arith}
use Rattle.std.specs.Prelude.{nat_le, ◌&&◌}
use Rattle.std.specs.List.{flat_map, AllByRecursion}
use Rattle.std.specs.Int.{bytes_high_first}
use Rattle.std.proofs.lemmas.Bool.{leb-true, le-leb, and_parts, and_from}
use Rattle.std.proofs.lemmas.List.{append-nil}
use Rattle.ds_base.specs.declared.names.PageId.{PageId}
use Rattle.ds_model.specs.RecordBytes.{Patch, page_size, patch_bytes, page_sets, patches_limit, patch_limit, PatchIsAllowed}
use Rattle.log_record.specs.declared.fault.RecordFault.{RecordFault}
use Rattle.log_record.specs.Parts.{page_bytes}
use Rattle.log_record.specs.Fields.{◌>>=◌, set_at, number_in_set_at, start_at, size_at, content_at, page_id_at, patch_at, patches_from, patch_count_at, patches_at}
use Rattle.log_record.proofs.Numbers.{IsBytes, one_byte}
use Rattle.log_record.proofs.Steps.{bind_ok, ok_is, Takes, Takes-then, Takes-none, field_takes, number_takes, Left, Left-as, Reads, field_again, number_again}

-- ---- the patches so far, and those that are left

abbrev pub joined : List Patch → Result (List Patch × ℕ) RecordFault → Result (List Patch × ℕ) RecordFault
joined done r = r >>= λ more. Ok (done ++ more.0, more.1)

pub joined_none : (r : Result (List Patch × ℕ) RecordFault) → joined [] r ≡ r
joined_none (Ok r) = refl
joined_none (Err e) = refl

one_more : (done : List Patch) (p : Patch) (r : Result (List Patch × ℕ) RecordFault) → joined done (r >>= λ more. Ok (p ∷ more.0, more.1)) ≡ joined (done ++ p ∷ []) r
one_more done p (Ok r) = ap (λ (ps : List Patch). Ok (ps, r.1)) (sym (append_assoc done (p ∷ []) r.0))
one_more done p (Err e) = refl

pub joined_step : (done : List Patch) (n m : ℕ) (fields : List ℕ) (at : ℕ) (p : Patch) (next : ℕ) → n ≡ suc m → patch_at fields at ≡ Ok (p, next) → joined done (patches_from n fields at) ≡ joined (done ++ p ∷ []) (patches_from m fields next)
unfolding patches_from
joined_step done n m fields at p next s e = rw (s, e) (one_more done p (patches_from m fields next))

pub joined_err : (done : List Patch) (n m : ℕ) (fields : List ℕ) (at : ℕ) (e : RecordFault) → n ≡ suc m → patch_at fields at ≡ Err e → joined done (patches_from n fields at) ≡ Err e
unfolding patches_from
joined_err done n m fields at e s is = rw (s, is) refl

pub joined_end : (done : List Patch) (n : ℕ) (fields : List ℕ) (at : ℕ) → n ≡ 0 → joined done (patches_from n fields at) ≡ Ok (done, at)
unfolding patches_from
joined_end done n fields at s = rw s (ap (λ (ps : List Patch). Ok (ps, at)) (append-nil done))

-- ---- one patch

page_id_takes : (fields : List ℕ) (at : ℕ) (p : PageId) (next : ℕ) → IsBytes fields → page_id_at fields at ≡ Ok (p, next)
    → Takes fields at (page_bytes p) next × (1 ≤ p.set) × (p.set ≤ page_sets) × (p.number < 2 ^ 32)
unfolding page_id_at
page_id_takes fields at p next fits e =
    let a = bind_ok (set_at fields at) (λ set. number_in_set_at fields set.1 >>= λ number. Ok (record { set = set.0; number = number.0 }, number.1)) (p, next) e in
    let b = bind_ok (number_in_set_at fields a.0.1) (λ number. Ok (record { set = a.0.0; number = number.0 }, number.1)) (p, next) a.2 in
    let s = number_takes 2 (λ n. nat_le 1 n && nat_le n page_sets) fields at a.0.0 a.0.1 fits a.1 in
    let t = number_takes 4 (λ n. true) fields a.0.1 b.0.0 b.0.1 fits b.1 in
    let ranges = and_parts (nat_le 1 a.0.0) (nat_le a.0.0 page_sets) s.2 in
    let made : PageId = record { set = a.0.0; number = b.0.0 } in
    let both : Takes fields at (page_bytes made) b.0.1 = Takes-then fields at (bytes_high_first 2 a.0.0) a.0.1 (bytes_high_first 4 b.0.0) b.0.1 s.0 t.0 in
    subst (λ (z : PageId × ℕ). Takes fields at (page_bytes z.0) z.1 × (1 ≤ z.0.set) × (z.0.set ≤ page_sets) × (z.0.number < 2 ^ 32)) (ok_is (made, b.0.1) (p, next) b.2)
    (both, leb-true _ _ ranges.0, leb-true _ _ ranges.1, t.1)

page_id_again : (fields : List ℕ) (at : ℕ) (p : PageId) (rest : List ℕ) → 1 ≤ p.set → p.set ≤ page_sets → p.number < 2 ^ 32
    → Left fields at (bytes_high_first 2 p.set ++ (bytes_high_first 4 p.number ++ rest)) → Reads (page_id_at fields at) p fields rest
unfolding page_id_at
page_id_again fields at p rest from to is l =
    let in_range = and_from (nat_le 1 p.set) (nat_le p.set page_sets) (le-leb _ _ from) (le-leb _ _ to) in
    let a = number_again 2 (λ n. nat_le 1 n && nat_le n page_sets) fields at p.set (bytes_high_first 4 p.number ++ rest) (omega arith) in_range l in
    let b = number_again 4 (λ n. true) fields a.next p.number rest is refl a.left in
    record { next = b.next; is = rw (a.is, b.is) refl; left = b.left }

-- the test of a patch's size
abbrev is_size : ℕ → ℕ → Bool
is_size start n = nat_le 1 n && nat_le n patch_limit && nat_le (start + n) page_size

size_true : (start n : ℕ) → is_size start n ≡ true → (1 ≤ n) × (n ≤ patch_limit) × (start + n ≤ page_size)
size_true start n e =
    let p = and_parts (nat_le 1 n && nat_le n patch_limit) (nat_le (start + n) page_size) e in
    let q = and_parts (nat_le 1 n) (nat_le n patch_limit) p.0 in
    (leb-true _ _ q.0, leb-true _ _ q.1, leb-true _ _ p.1)

size_from : (start n : ℕ) → 1 ≤ n → n ≤ patch_limit → start + n ≤ page_size → is_size start n ≡ true
size_from start n a b c =
    and_from (nat_le 1 n && nat_le n patch_limit) (nat_le (start + n) page_size) (and_from (nat_le 1 n) (nat_le n patch_limit) (le-leb _ _ a) (le-leb _ _ b)) (le-leb _ _ c)

some_is : {X : Type 0} (x y : X) → Some x ≡ Some y → x ≡ y
some_is x y e = cc

patch_takes : (fields : List ℕ) (at : ℕ) (p : Patch) (next : ℕ) → IsBytes fields → patch_at fields at ≡ Ok (p, next) → Takes fields at (patch_bytes p) next × PatchIsAllowed p
unfolding patch_at
patch_takes fields at p next fits e =
    let g = bind_ok (page_id_at fields at) (λ page. start_at fields page.1 >>= λ start. size_at start.0 fields start.1 >>= λ size. content_at size.0 fields size.1 >>= λ content. Ok (record { page = page.0; offset = start.0; bytes = content.0 }, content.1)) (p, next) e in
    let o = bind_ok (start_at fields g.0.1) (λ start. size_at start.0 fields start.1 >>= λ size. content_at size.0 fields size.1 >>= λ content. Ok (record { page = g.0.0; offset = start.0; bytes = content.0 }, content.1)) (p, next) g.2 in
    let s = bind_ok (size_at o.0.0 fields o.0.1) (λ size. content_at size.0 fields size.1 >>= λ content. Ok (record { page = g.0.0; offset = o.0.0; bytes = content.0 }, content.1)) (p, next) o.2 in
    let b = bind_ok (content_at s.0.0 fields s.0.1) (λ content. Ok (record { page = g.0.0; offset = o.0.0; bytes = content.0 }, content.1)) (p, next) s.2 in
    let page = page_id_takes fields at g.0.0 g.0.1 fits g.1 in
    let start = number_takes 2 (λ n. true) fields g.0.1 o.0.0 o.0.1 fits o.1 in
    let size = number_takes 2 (is_size o.0.0) fields o.0.1 s.0.0 s.0.1 fits s.1 in
    let content = field_takes s.0.0 (λ bytes. Some bytes) fields s.0.1 b.0.0 b.0.1 fits b.1 in
    let text-is : content.text ≡ b.0.0 = some_is content.text b.0.0 content.means in
    let wide : s.0.0 ≡ length b.0.0 = sym content.wide ∙ ap length text-is in
    let ranges : (1 ≤ length b.0.0) × (length b.0.0 ≤ patch_limit) × (o.0.0 + length b.0.0 ≤ page_size) = rw wide at (size_true o.0.0 s.0.0 size.2) in
    let made : Patch = record { page = g.0.0; offset = o.0.0; bytes = b.0.0 } in
    let count : Takes fields o.0.1 (bytes_high_first 2 (length b.0.0)) s.0.1 = subst (λ (n : ℕ). Takes fields o.0.1 (bytes_high_first 2 n) s.0.1) wide size.0 in
    let bytes : Takes fields s.0.1 b.0.0 b.0.1 = subst (λ (text : List ℕ). Takes fields s.0.1 text b.0.1) text-is content.takes in
    let to_start = Takes-then fields at (page_bytes g.0.0) g.0.1 (bytes_high_first 2 o.0.0) o.0.1 page.0 start.0 in
    let to_size = Takes-then fields at (page_bytes g.0.0 ++ bytes_high_first 2 o.0.0) o.0.1 (bytes_high_first 2 (length b.0.0)) s.0.1 to_start count in
    let whole : Takes fields at (patch_bytes made) b.0.1 = Takes-then fields at (page_bytes g.0.0 ++ bytes_high_first 2 o.0.0 ++ bytes_high_first 2 (length b.0.0)) s.0.1 b.0.0 b.0.1 to_size bytes in
    let allowed : PatchIsAllowed made = record { set_from = page.1; set_to = page.2; page_in = page.3; some = ranges.0; few = ranges.1; within = ranges.2 } in
    subst (λ (z : Patch × ℕ). Takes fields at (patch_bytes z.0) z.1 × PatchIsAllowed z.0) (ok_is (made, b.0.1) (p, next) b.2) (whole, allowed)

patch_again : (fields : List ℕ) (at : ℕ) (p : Patch) (rest : List ℕ) → PatchIsAllowed p → Left fields at (patch_bytes p ++ rest) → Reads (patch_at fields at) p fields rest
unfolding patch_at
patch_again fields at p rest h l =
    let count = bytes_high_first 2 (length p.bytes) in
    let left : Left fields at (bytes_high_first 2 p.page.set ++ (bytes_high_first 4 p.page.number ++ (bytes_high_first 2 p.offset ++ (count ++ (p.bytes ++ rest))))) = Left-as fields at _ _ (append_assoc (page_bytes p.page ++ bytes_high_first 2 p.offset ++ count) p.bytes rest) l in
    let page = page_id_again fields at p.page (bytes_high_first 2 p.offset ++ (count ++ (p.bytes ++ rest))) h.set_from h.set_to h.page_in left in
    let start_in : p.offset < 256 ^ 2 = omega (arith, h.within) in
    let start = number_again 2 (λ n. true) fields page.next p.offset (count ++ (p.bytes ++ rest)) start_in refl page.left in
    let size_in : length p.bytes < 256 ^ 2 = omega (arith, h.few) in
    let size = number_again 2 (is_size p.offset) fields start.next (length p.bytes) (p.bytes ++ rest) size_in (size_from p.offset (length p.bytes) h.some h.few h.within) start.left in
    let content = field_again (length p.bytes) (λ bytes. Some bytes) fields size.next p.bytes rest p.bytes refl refl size.left in
    record { next = content.next; is = rw (page.is, start.is, size.is, content.is) refl; left = content.left }

-- ---- all patches

from_takes : (n : ℕ) (fields : List ℕ) (at : ℕ) (ps : List Patch) (next : ℕ) → IsBytes fields → at ≤ length fields → patches_from n fields at ≡ Ok (ps, next)
    → Takes fields at (flat_map patch_bytes ps) next × (length ps ≡ n) × AllByRecursion PatchIsAllowed ps
unfolding patches_from
from_takes zero fields at ps next fits le e =
    subst (λ (z : List Patch × ℕ). Takes fields at (flat_map patch_bytes z.0) z.1 × (length z.0 ≡ 0) × AllByRecursion PatchIsAllowed z.0) (ok_is ([], at) (ps, next) e)
    (Takes-none fields at le, refl, tt)
from_takes (suc n) fields at ps next fits le e =
    let a = bind_ok (patch_at fields at) (λ patch. patches_from n fields patch.1 >>= λ more. Ok (patch.0 ∷ more.0, more.1)) (ps, next) e in
    let b = bind_ok (patches_from n fields a.0.1) (λ more. Ok (a.0.0 ∷ more.0, more.1)) (ps, next) a.2 in
    let p = patch_takes fields at a.0.0 a.0.1 fits a.1 in
    let more = from_takes n fields a.0.1 b.0.0 b.0.1 fits p.0.within b.1 in
    let whole = Takes-then fields at (patch_bytes a.0.0) a.0.1 (flat_map patch_bytes b.0.0) b.0.1 p.0 more.0 in
    let count : length (a.0.0 ∷ b.0.0) ≡ suc n = ap suc more.1 in
    subst (λ (z : List Patch × ℕ). Takes fields at (flat_map patch_bytes z.0) z.1 × (length z.0 ≡ suc n) × AllByRecursion PatchIsAllowed z.0) (ok_is (a.0.0 ∷ b.0.0, b.0.1) (ps, next) b.2)
    (whole, count, (p.1, more.2))

from_again : (fields : List ℕ) (at : ℕ) (ps : List Patch) (rest : List ℕ) → AllByRecursion PatchIsAllowed ps → Left fields at (flat_map patch_bytes ps ++ rest)
    → Reads (patches_from (length ps) fields at) ps fields rest
unfolding patches_from
from_again fields at [] rest h l = record { next = at; is = refl; left = l }
from_again fields at (p ∷ ps) rest h l =
    let a = patch_again fields at p (flat_map patch_bytes ps ++ rest) h.0 (Left-as fields at _ _ (append_assoc (patch_bytes p) (flat_map patch_bytes ps) rest) l) in
    let b = from_again fields a.next ps rest h.1 a.left in
    record { next = b.next; is = rw (a.is, b.is) refl; left = b.left }

pub patches_takes : (fields : List ℕ) (at : ℕ) (ps : List Patch) (next : ℕ) → IsBytes fields → patches_at fields at ≡ Ok (ps, next)
    → Takes fields at (length ps ∷ flat_map patch_bytes ps) next × (1 ≤ length ps) × (length ps ≤ patches_limit) × AllByRecursion PatchIsAllowed ps
unfolding patches_at
patches_takes fields at ps next fits e =
    let a = bind_ok (patch_count_at fields at) (λ count. patches_from count.0 fields count.1) (ps, next) e in
    let c = number_takes 1 (λ n. nat_le 1 n && nat_le n patches_limit) fields at a.0.0 a.0.1 fits a.1 in
    let t = from_takes a.0.0 fields a.0.1 ps next fits c.0.within a.2 in
    let ranges = and_parts (nat_le 1 a.0.0) (nat_le a.0.0 patches_limit) c.2 in
    let from : 1 ≤ length ps = omega (arith, leb-true _ _ ranges.0, t.1) in
    let to : length ps ≤ patches_limit = omega (arith, leb-true _ _ ranges.1, t.1) in
    let text-is : bytes_high_first 1 a.0.0 ≡ length ps ∷ [] = ap (bytes_high_first 1) (sym t.1) ∙ one_byte (length ps) (omega arith) in
    let count : Takes fields at (length ps ∷ []) a.0.1 = subst (λ (text : List ℕ). Takes fields at text a.0.1) text-is c.0 in
    (Takes-then fields at (length ps ∷ []) a.0.1 (flat_map patch_bytes ps) next count t.0, from, to, t.2)

pub patches_again : (fields : List ℕ) (at : ℕ) (ps : List Patch) (rest : List ℕ) → 1 ≤ length ps → length ps ≤ patches_limit → AllByRecursion PatchIsAllowed ps
    → Left fields at (length ps ∷ (flat_map patch_bytes ps ++ rest)) → Reads (patches_at fields at) ps fields rest
unfolding patches_at
patches_again fields at ps rest from to h l =
    let in_range = and_from (nat_le 1 (length ps)) (nat_le (length ps) patches_limit) (le-leb _ _ from) (le-leb _ _ to) in
    let left : Left fields at (bytes_high_first 1 (length ps) ++ (flat_map patch_bytes ps ++ rest)) = Left-as fields at _ _ (ap (λ (t : List ℕ). t ++ (flat_map patch_bytes ps ++ rest)) (sym (one_byte (length ps) (omega arith)))) l in
    let c = number_again 1 (λ n. nat_le 1 n && nat_le n patches_limit) fields at (length ps) (flat_map patch_bytes ps ++ rest) (omega arith) in_range left in
    let b = from_again fields c.next ps rest h c.left in
    record { next = b.next; is = rw (c.is, b.is) refl; left = b.left }
