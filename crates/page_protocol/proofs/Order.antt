-- Each move keeps the order of a page's changes in each log.
use Rattle.std.proofs.Common.{◌≡◌, ℕ, ◌+◌, ◌<◌, ◌≤◌, sym, subst, arith}
use Rattle.page_protocol.specs.Page.{Page, Group, change, fail, all_fail, compensate}
use Rattle.page_protocol.specs.Moves.{AreDrawnBy, drawn, longer, all_failed}
use Rattle.page_protocol.specs.Always.{Ordered, Numbered}

pub ordered_change : (p : Page) (m at number : ℕ) → ((i : ℕ) → i < p.last → p.author i ≡ m → p.place i < at) → Ordered p → Ordered (change p m at number)
ordered_change p m at number after o = grind arith

pub ordered_compensate : (p : Page) (m at number : ℕ) → ((i : ℕ) → i < p.last → p.author i ≡ m → p.place i < at) → Ordered p → Ordered (compensate p m at number)
ordered_compensate p m at number after o = grind arith

pub ordered_fail : (p : Page) (m n : ℕ) → n ≤ p.last → Ordered p → Ordered (fail p m n)
ordered_fail p m n short o = grind arith

pub ordered_all_fail : (p : Page) (n : ℕ) → n ≤ p.last → Ordered p → Ordered (all_fail p n)
ordered_all_fail p n short o = grind arith

pub numbered_change : (g : Group) (p : Page) (m at : ℕ) → Numbered g p → Numbered (drawn g m) (change p m at (g.counter + 1))
numbered_change g p m at o = grind arith

pub numbered_drawn : (g : Group) (p : Page) (m : ℕ) → Numbered g p → Numbered (drawn g m) p
numbered_drawn g p m o = grind arith

pub numbered_compensate : (g : Group) (p : Page) (m at : ℕ) → Numbered g p → Numbered (longer g m) (compensate p m at (g.counter + 1))
numbered_compensate g p m at o = grind arith

pub numbered_longer : (g : Group) (p : Page) (m : ℕ) → Numbered g p → Numbered (longer g m) p
numbered_longer g p m o = grind arith

pub numbered_all_fail : (g : Group) (p : Page) (n counter : ℕ) → n ≤ p.last → AreDrawnBy p n counter → Numbered g p → Numbered (all_failed g counter) (all_fail p n)
numbered_all_fail g p n counter short by o = record {
  rise = λ i j lt below. o.rise i j lt (less j below);
  drawn = by;
  positive = λ i below. o.positive i (less i below);
}
  where
    less : (j : ℕ) → j < n → j < p.last
    less j below = omega (arith, below, short)

-- a move that leaves the numbers as they are, and a chain that is no longer
pub numbered_same : (g h : Group) (p q : Page) → h.counter ≡ g.counter → q.last ≤ p.last → q.lrsn ≡ p.lrsn → Numbered g p → Numbered h q
numbered_same g h p q a b c o = record {
  rise = λ i j lt below. subst (λ f. f i < f j) (sym c) (o.rise i j lt (omega (arith, b, below)));
  drawn = λ i below. subst (λ x. q.lrsn i ≤ x) (sym a) (subst (λ f. f i ≤ g.counter) (sym c) (o.drawn i (omega (arith, b, below))));
  positive = λ i below. subst (λ f. 0 < f i) (sym c) (o.positive i (omega (arith, b, below)));
}
