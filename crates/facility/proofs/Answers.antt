-- The answers of the members, one after the other.
use Rattle.std.proofs.Common.{◌≡◌, ℕ, zero, suc, ◌+◌, ◌-◌, ◌≤◌, refl, arith, List, [], ◌∷◌, ◌++◌, slice_index_or, add-one, append-nil}
use Rattle.std.specs.Prelude.{Option, Some, None}
use Rattle.ds_base.specs.Ids.{IsMember}
use Rattle.lock_names.specs.Given.{Name}
use Rattle.lock_names.specs.declared.mode.Mode.{Mode}
use Rattle.list_structure.specs.declared.query.Cell.{Cell}
use Rattle.list_structure.specs.declared.query.Cell.TheVariants.{Empty}
use Rattle.facility.specs.LockCommands.{clean_among, clean_version, stamped}

pub clean_start : (f : ℕ → Option ℕ) → clean_among f 0 ≡ []
unfolding clean_among
clean_start f = refl

clean_suc : (f : ℕ → Option ℕ) (n : ℕ) → clean_among f (suc n) ≡ clean_among f n ++ stamped (suc n) (f (suc n))
unfolding clean_among
clean_suc f n = refl

clean_step : (f : ℕ → Option ℕ) (n : ℕ) → clean_among f (n + 1) ≡ clean_among f n ++ stamped (n + 1) (f (n + 1))
clean_step f n = rw add-one (clean_suc f n)

-- the versions in cells, by member
abbrev pub versions_in : List Cell → Name → Mode → ℕ → Option ℕ
versions_in cells name mode = λ k. clean_version name mode (slice_index_or cells (k - 1) Empty)

at_place : (cells : List Cell) (name : Name) (mode : Mode) (n : ℕ) → versions_in cells name mode (n + 1) ≡ clean_version name mode (slice_index_or cells n Empty)
at_place cells name mode n = let e : n + 1 - 1 ≡ n = omega arith in rw e refl

pub clean_next : (cells : List Cell) (name : Name) (mode : Mode) (n : ℕ) → clean_among (versions_in cells name mode) (n + 1) ≡ clean_among (versions_in cells name mode) n ++ stamped (n + 1) (clean_version name mode (slice_index_or cells n Empty))
clean_next cells name mode n =
    let s = clean_step (versions_in cells name mode) n in
    let p = at_place cells name mode n in
    grind (arith, s, p)

-- the same versions give the same answers
pub clean_same : (f g : ℕ → Option ℕ) (n : ℕ) → n ≤ 32 → ((k : ℕ) → IsMember k → f k ≡ g k) → clean_among f n ≡ clean_among g n
unfolding clean_among
clean_same f g zero h e = refl
clean_same f g (suc n) h e =
    let ih = clean_same f g n (omega arith) e in
    let at = e (suc n) (omega arith, omega arith) in
    rw (ih, at) refl

-- one cell more
pub clean_kept : (cells : List Cell) (name : Name) (mode : Mode) (n m : ℕ) (version : Option ℕ) (before after : List (ℕ × ℕ)) → before ≡ clean_among (versions_in cells name mode) n → m ≡ n + 1 → version ≡ clean_version name mode (slice_index_or cells n Empty) → after ≡ before ++ stamped m version → after ≡ clean_among (versions_in cells name mode) (n + 1)
clean_kept cells name mode n m version before after b i v a =
    let s = clean_next cells name mode n in
    grind (arith, s, b, i, v, a)
