-- What transactions do to rows, and what a history of transactions stands for.
--
-- Rows, transactions and members are numbers; a row is absent or has a value. A list of operations and a history stand
-- newest first.
use Rattle.std.specs.Prelude.{◌≡◌, ℕ, Bool, true, false, ◌&&◌, ◌||◌, not, List, [], ◌∷◌, Option, ◌==◌}
use Rattle.row_protocol.specs.Functions.{put}

pub data Op : Type 0 where
  -- a row was read, with what the reader got
  Read : ℕ → Option ℕ → Op
  -- a row was given a value, or taken away
  Wrote : ℕ → Option ℕ → Op

-- the rows after the operations, from the rows before them
abbrev pub rows_after : List Op → (ℕ → Option ℕ) → ℕ → Option ℕ
rows_after [] rows = rows
rows_after (Read r v ∷ ops) rows = rows_after ops rows
rows_after (Wrote r v ∷ ops) rows = put (rows_after ops rows) r v

-- each read got what the rows had at its turn
abbrev pub IsLegal : List Op → (ℕ → Option ℕ) → Type 0
IsLegal [] rows = Unit {0}
IsLegal (Read r v ∷ ops) rows = (rows_after ops rows r ≡ v) × IsLegal ops rows
IsLegal (Wrote r v ∷ ops) rows = IsLegal ops rows

abbrev pub writes : List Op → ℕ → Bool
writes [] q = false
writes (Read r v ∷ ops) q = writes ops q
writes (Wrote r v ∷ ops) q = (q == r) || writes ops q

abbrev pub touches : List Op → ℕ → Bool
touches [] q = false
touches (Read r v ∷ ops) q = (q == r) || touches ops q
touches (Wrote r v ∷ ops) q = (q == r) || touches ops q

-- a transaction of the history, with all that it did
pub record Committed : Type 0 where
  pub tran : ℕ
  pub ops : List Op

-- the rows after the transactions of the history, run one after another
unfoldable pub replay : List Committed → (ℕ → Option ℕ) → ℕ → Option ℕ
replay [] rows = rows
replay (t ∷ ts) rows = rows_after t.ops (replay ts rows)

-- each read of each transaction got what one thread, which runs the history in its order, would get
abbrev pub IsLegalHistory : List Committed → (ℕ → Option ℕ) → Type 0
IsLegalHistory [] rows = Unit {0}
IsLegalHistory (t ∷ ts) rows = IsLegal t.ops (replay ts rows) × IsLegalHistory ts rows

abbrev pub is_listed : List Committed → ℕ → Bool
is_listed [] t = false
is_listed (c ∷ cs) t = (c.tran == t) || is_listed cs t

-- no transaction is listed twice
abbrev pub is_once : List Committed → Bool
is_once [] = true
is_once (c ∷ cs) = not (is_listed cs c.tran) && is_once cs
