-- Each move, over the keys of one leaf.
use Rattle.std.proofs.Common.{◌≡◌, ℕ, ◌<◌, ◌≤◌, arith, true, false, Bool, Some, None}
use Rattle.std.specs.Prelude.{◌≢◌}
use Rattle.index_protocol.specs.Index.{Rest, Page, Unmade, Leaf, Branch, beyond, with_place, split_left, split_right, given_rest, split_rest, entered_rest, written_rest, ended_rest, restarted_rest, failed_rest, failed_page, MayChange, MayGive, MaySplit}
use Rattle.index_protocol.specs.Whole.{Leaves}
use Rattle.index_protocol.proofs.Laws.{below, beyond_some}

-- the last version has each given key that it covers
abbrev pub HasLast : Rest → ℕ → Page → Type 0
HasLast g n p = (k x : ℕ) → g.kind n ≡ Leaf → g.given k ≡ Some x → g.low n ≤ k → beyond (p.link p.last) k ≡ false → p.entry p.last k ≡ Some x

pub leaves_give : (g : Rest) (m n : ℕ) (p : Page) (k x : ℕ) → Leaves g n p → MayGive g n p k → MayChange g m n p → g.given k ≡ None → 1 ≤ p.last → HasLast g n p → Leaves (given_rest g m n p k x) n (with_place p k x)
leaves_give g m n p k x s may alone free made all = record {
  given_leaf = grind (arith, may.leaf);
  given_from = grind arith;
  given_last = grind arith;
  given_low = grind (arith, may.from_low);
  given_covered = grind (arith, may.covered);
  place = grind arith;
  out_low = grind (arith, may.from_low);
  out_high = grind (arith, may.covered);
  has = grind arith;
  not_yet = grind arith;
  not_here = grind arith;
  finds = grind arith;
  unshown = grind arith;
}

pub leaves_give_other : (g : Rest) (m n q : ℕ) (p r : Page) (k x : ℕ) → Leaves g q r → g.given k ≡ None → q ≢ n
    → (g.kind q ≡ Leaf → g.parted_at q n ≤ p.last)
    → ((v : ℕ) → g.kind q ≡ Leaf → 1 ≤ v → g.shown q ≤ v → v ≤ r.last → g.low q ≤ k → beyond (r.link v) k ≡ false → g.writer q ≡ m)
    → Leaves (given_rest g m n p k x) q r
leaves_give_other g m n q p r k x s free ne path open' = record {
  given_leaf = grind arith;
  given_from = grind arith;
  given_last = grind arith;
  given_low = grind arith;
  given_covered = grind arith;
  place = grind arith;
  out_low = grind arith;
  out_high = grind arith;
  has = grind arith;
  not_yet = grind arith;
  not_here = grind arith;
  finds = grind arith;
  unshown = grind arith;
}

pub leaves_enter : (g : Rest) (m n : ℕ) (p : Page) (k c : ℕ) → Leaves g n p → g.kind n ≡ Branch → Leaves (entered_rest g m n) n (with_place p k c)
leaves_enter g m n p k c s branch = record {
  given_leaf = grind arith;
  given_from = grind arith;
  given_last = grind arith;
  given_low = grind arith;
  given_covered = grind arith;
  place = grind arith;
  out_low = grind arith;
  out_high = grind arith;
  has = grind arith;
  not_yet = grind arith;
  not_here = grind arith;
  finds = grind arith;
  unshown = grind arith;
}

pub leaves_enter_other : (g : Rest) (m n q : ℕ) (r : Page) → Leaves g q r → q ≢ n → Leaves (entered_rest g m n) q r
leaves_enter_other g m n q r s ne = grind arith

pub leaves_write : (g : Rest) (n q v : ℕ) (r : Page) → g.shown n ≤ v → Leaves g q r → Leaves (written_rest g n v) q r
leaves_write g n q v r le s = grind arith

pub leaves_end : (g : Rest) (m n : ℕ) (p : Page) (keys : ℕ → Bool) → Leaves g n p → HasLast g n p → ((k : ℕ) → keys k ≡ true → g.giver k ≡ Some m) → (g.writer n ≡ m → g.shown n ≡ p.last) → Leaves (ended_rest g keys) n p
leaves_end g m n p keys s all own shown = record {
  given_leaf = grind arith;
  given_from = grind arith;
  given_last = grind arith;
  given_low = grind arith;
  given_covered = grind arith;
  place = grind arith;
  out_low = grind arith;
  out_high = grind arith;
  has = grind arith;
  not_yet = grind arith;
  not_here = grind arith;
  finds = grind arith;
  unshown = grind arith;
}

pub leaves_left : (g : Rest) (m n : ℕ) (p : Page) (new low : ℕ) → Leaves g n p → MaySplit g n p new low → MayChange g m n p → n ≢ new → 1 ≤ p.last → HasLast g n p → Leaves (split_rest g m n p new low) n (split_left p new low)
leaves_left g m n p new low s may alone ne made all = rest may.above may.covered
  where
    rest : g.low n < low → beyond (p.link p.last) low ≡ false → Leaves (split_rest g m n p new low) n (split_left p new low)
    rest up covered = record {
      given_leaf = grind arith;
      given_from = grind arith;
      given_last = grind arith;
      given_low = grind arith;
      given_covered = grind arith;
      place = grind arith;
      out_low = grind arith;
      out_high = grind (arith, below, beyond_some);
      has = grind (arith, below, beyond_some);
      not_yet = grind arith;
      not_here = grind arith;
      finds = grind (arith, below, beyond_some);
      unshown = grind arith;
    }

pub leaves_right : (g : Rest) (m n : ℕ) (p : Page) (new low : ℕ) → Leaves g n p → g.low n < low → n ≢ new → 1 ≤ p.last → g.kind new ≡ Unmade → HasLast g n p
    → ((k x : ℕ) → g.given k ≡ Some x → g.given_in k ≢ new) → Leaves (split_rest g m n p new low) new (split_right p low)
leaves_right g m n p new low s up ne made fresh all given = record {
  given_leaf = grind arith;
  given_from = grind arith;
  given_last = grind arith;
  given_low = grind arith;
  given_covered = grind arith;
  place = grind arith;
  out_low = grind arith;
  out_high = grind arith;
  has = grind arith;
  not_yet = grind arith;
  not_here = grind arith;
  finds = grind arith;
  unshown = grind arith;
}

pub leaves_other : (g : Rest) (m n q : ℕ) (p r : Page) (new low : ℕ) → Leaves g q r → q ≢ n → q ≢ new → Leaves (split_rest g m n p new low) q r
leaves_other g m n q p r new low s ne ne' = record {
  given_leaf = grind arith;
  given_from = grind arith;
  given_last = grind arith;
  given_low = grind arith;
  given_covered = grind arith;
  place = grind arith;
  out_low = grind arith;
  out_high = grind arith;
  has = grind arith;
  not_yet = grind arith;
  not_here = grind arith;
  finds = grind arith;
  unshown = grind arith;
}

pub leaves_fail : (g : Rest) (c : ℕ → ℕ) (n : ℕ) (p : Page) → Leaves g n p → c n ≤ p.last → ((q : ℕ) → g.kind n ≢ Unmade → 1 ≤ c n → g.parted_at n q ≤ c q) → Leaves (failed_rest g c) n (failed_page p (c n))
leaves_fail g c n p s short stays = record {
  given_leaf = grind arith;
  given_from = grind arith;
  given_last = grind arith;
  given_low = grind arith;
  given_covered = grind arith;
  place = grind arith;
  out_low = grind arith;
  out_high = grind arith;
  has = grind arith;
  not_yet = grind arith;
  not_here = grind arith;
  finds = grind arith;
  unshown = grind arith;
}

pub leaves_restart : (g : Rest) (last : ℕ → ℕ) (n : ℕ) (p : Page) → Leaves g n p → HasLast g n p → last n ≡ p.last → Leaves (restarted_rest g last) n p
leaves_restart g last n p s all is = record {
  given_leaf = grind arith;
  given_from = grind arith;
  given_last = grind arith;
  given_low = grind arith;
  given_covered = grind arith;
  place = grind arith;
  out_low = grind arith;
  out_high = grind arith;
  has = grind arith;
  not_yet = grind arith;
  not_here = grind arith;
  finds = grind arith;
  unshown = grind arith;
}
