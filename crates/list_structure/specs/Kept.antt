-- What the list of pairs keeps.
use Rattle.std.specs.Prelude.{ℕ, ◌≡◌, ◌≤◌, ◌*◌, ◌==◌, Bool, true, false, ◌&&◌, List, [], ◌∷◌, nat_le, length, filter}
use Rattle.std.specs.List.{list_any, list_all}
use Rattle.list_structure.specs.declared.wait.Wait.{Wait}
use Rattle.list_structure.specs.Waits.{is_replaced}

-- the pairs, in the order in which they were added, and how many agents a member has
pub record PairsState : Type 0 where
  pub waits : List Wait
  pub agents : ℕ

-- no two pairs have one waiter, and holders of one member
abbrev pub AreApart : List Wait → Type 0
AreApart [] = Unit {0}
AreApart (w ∷ ws) = (list_any (is_replaced w) ws ≡ false) × AreApart ws

-- whether the pair has a waiter of one member and a holder of the other
abbrev pub is_between : ℕ → ℕ → Wait → Bool
is_between m h w = (w.waiter.member == m) && (w.holder.member == h)

abbrev pub in_range : Wait → Bool
in_range w = (nat_le 1 w.waiter.member && nat_le w.waiter.member 32) && (nat_le 1 w.holder.member && nat_le w.holder.member 32)

-- the pairs fit into the room for the waits of so many agents a member, and so does each pair that may be added
pub record IsKept (waits : List Wait) (agents room : ℕ) : Type 0 where
  pub apart : AreApart waits
  pub ranges : list_all in_range waits ≡ true
  pub few : (m h : ℕ) → length (filter (is_between m h) waits) ≤ agents
  pub fits : 1024 * agents ≤ room
