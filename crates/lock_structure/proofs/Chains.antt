-- What becomes of a chain's records, name by name.
use Rattle.std.proofs.Common.{◌≡◌, ℕ, true, List, [], ◌∷◌, map, refl, arith, if◌then◌else◌, ◌==◌}
use Rattle.std.specs.Prelude.{Some, None, is_some, ◌&&◌}
use Rattle.lock_names.specs.Given.{Name}
use Rattle.lock_names.specs.declared.mode.Mode.{Mode}
use Rattle.lock_names.specs.Names.{same_name}
use Rattle.lock_names.proofs.Names.{same_left, same_right}
use Rattle.lock_structure.specs.declared.chain.Record.{Record}
use Rattle.lock_structure.specs.declared.chain.Held.{Held}
use Rattle.lock_structure.specs.Records.{record_in, joined, after_grant, after_release, after_purge, after_failure, retained_by}
use Rattle.lock_structure.specs.Buckets.{IsUnique, put_in, without, recorded_in, released_in, purged_in}

-- one name has one record
pub same_record : (hs : List Held) (k : ℕ) (n p : Name) → same_name n p ≡ true → record_in hs k n ≡ record_in hs k p
same_record [] k n p e = refl
same_record (h ∷ hs) k n p e = let ih = same_record hs k n p e in let r = same_right h.name n p e in grind (arith, ih, r)

-- ---- a record written over

pub put_now : (hs : List Held) (m : ℕ) (n : Name) (r : Record) (k : ℕ) (p : Name) → record_in (put_in hs m n r) k p ≡ (if (k == m) && same_name n p then (if is_some (record_in hs m n) then Some r else None) else record_in hs k p)
put_now [] m n r k p = grind arith
put_now (h ∷ hs) m n r k p =
    let ih = put_now hs m n r k p in
    let left = same_left h.name n p in
    let right = same_right h.name n p in grind (arith, ih, left, right)

put_none : (hs : List Held) (m : ℕ) (n : Name) (r : Record) (k : ℕ) (p : Name) → record_in hs k p ≡ None → record_in (put_in hs m n r) k p ≡ None
put_none [] m n r k p e = e
put_none (h ∷ hs) m n r k p e = let ih = put_none hs m n r k p in grind (arith, ih, e)

pub put_unique : (hs : List Held) (m : ℕ) (n : Name) (r : Record) → IsUnique hs → IsUnique (put_in hs m n r)
put_unique [] m n r u = u
put_unique (h ∷ hs) m n r u = let ih = put_unique hs m n r u.1 in let none = put_none hs m n r h.member h.name u.0 in grind (arith, ih, none, u.0, u.1)

-- ---- a record taken out

pub without_now : (hs : List Held) (m : ℕ) (n : Name) (k : ℕ) (p : Name) → IsUnique hs → record_in (without hs m n) k p ≡ (if (k == m) && same_name n p then None else record_in hs k p)
without_now [] m n k p u = grind arith
without_now (h ∷ hs) m n k p u =
    let ih = without_now hs m n k p u.1 in
    let left = same_left h.name n p in
    let right = same_right h.name n p in
    let one = same_record hs k h.name p in grind (arith, ih, left, right, one, u.0)

without_none : (hs : List Held) (m : ℕ) (n : Name) (k : ℕ) (p : Name) → record_in hs k p ≡ None → record_in (without hs m n) k p ≡ None
without_none [] m n k p e = e
without_none (h ∷ hs) m n k p e = let ih = without_none hs m n k p in grind (arith, ih, e)

pub without_unique : (hs : List Held) (m : ℕ) (n : Name) → IsUnique hs → IsUnique (without hs m n)
without_unique [] m n u = u
without_unique (h ∷ hs) m n u = let ih = without_unique hs m n u.1 in let none = without_none hs m n h.member h.name u.0 in grind (arith, ih, none, u.0, u.1)

-- ---- a member's records retained

pub retained_now : (hs : List Held) (m k : ℕ) (p : Name) → record_in (map (retained_by m) hs) k p ≡ (if k == m then after_failure (record_in hs k p) else record_in hs k p)
retained_now [] m k p = grind arith
retained_now (h ∷ hs) m k p = let ih = retained_now hs m k p in grind (arith, ih)

retained_none : (hs : List Held) (m k : ℕ) (p : Name) → record_in hs k p ≡ None → record_in (map (retained_by m) hs) k p ≡ None
retained_none [] m k p e = e
retained_none (h ∷ hs) m k p e = let ih = retained_none hs m k p in grind (arith, ih, e)

pub retained_unique : (hs : List Held) (m : ℕ) → IsUnique hs → IsUnique (map (retained_by m) hs)
retained_unique [] m u = u
retained_unique (h ∷ hs) m u = let ih = retained_unique hs m u.1 in let none = retained_none hs m h.member h.name u.0 in grind (arith, ih, none)

-- ---- the same of a grant, a release and a purge

pub recorded_now : (hs : List Held) (m : ℕ) (n : Name) (mode : Mode) (k : ℕ) (p : Name) → record_in (recorded_in hs m n mode) k p ≡ (if (k == m) && same_name n p then after_grant mode (record_in hs k p) else record_in hs k p)
recorded_now hs m n mode k p =
    let put = put_now hs m n (joined (record_in hs m n) mode) k p in
    let one = same_record hs m n p in grind (arith, put, one)

pub recorded_unique : (hs : List Held) (m : ℕ) (n : Name) (mode : Mode) → IsUnique hs → IsUnique (recorded_in hs m n mode)
recorded_unique hs m n mode u = let put = put_unique hs m n (joined (record_in hs m n) mode) u in grind (arith, put, u)

pub released_now : (hs : List Held) (m : ℕ) (n : Name) (k : ℕ) (p : Name) → IsUnique hs → record_in (released_in hs m n) k p ≡ (if (k == m) && same_name n p then after_release (record_in hs k p) else record_in hs k p)
released_now hs m n k p u =
    let out = without_now hs m n k p u in
    let one = same_record hs m n p in grind (arith, out, one)

pub released_unique : (hs : List Held) (m : ℕ) (n : Name) → IsUnique hs → IsUnique (released_in hs m n)
released_unique hs m n u = let out = without_unique hs m n u in grind (arith, out, u)

pub purged_now : (hs : List Held) (m : ℕ) (n : Name) (k : ℕ) (p : Name) → IsUnique hs → record_in (purged_in hs m n) k p ≡ (if (k == m) && same_name n p then after_purge (record_in hs k p) else record_in hs k p)
purged_now hs m n k p u =
    let out = without_now hs m n k p u in
    let one = same_record hs m n p in grind (arith, out, one)

pub purged_unique : (hs : List Held) (m : ℕ) (n : Name) → IsUnique hs → IsUnique (purged_in hs m n)
purged_unique hs m n u = let out = without_unique hs m n u in grind (arith, out, u)
