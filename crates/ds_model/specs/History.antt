-- Histories: transactions with their fates, their replay, and when they are legal.
use Rattle.std.specs.Prelude.{◌≡◌, ℕ, ◌<◌, Bool, true, false, List, [], ◌∷◌, ◌++◌, map}
use Rattle.std.specs.List.{AllByRecursion}
use Rattle.ds_model.specs.declared.script.Op.{Op}
use Rattle.ds_model.specs.declared.history.Entry.{Entry}
use Rattle.ds_model.specs.declared.fate.Fate.{Fate}
use Rattle.ds_model.specs.declared.fate.Fate.TheVariants as fate
use Rattle.ds_model.specs.Rows.{Rows}
use Rattle.ds_model.specs.Effect.{after_tran, reads_of}
use Rattle.ds_model.specs.Transactions.{Placed}

abbrev pub played : Entry → Placed
played e = (e.member, e.tran)

abbrev pub is_committed : Fate → Bool
is_committed (fate.Committed answered reads) = true
is_committed (fate.Refused refusal) = false
is_committed fate.Stopped = false

-- the rows after a transaction of this fate: a committed one has its effect, and no other has any
abbrev pub after_fate : Rows → List Op → Fate → Rows
after_fate rows ops (fate.Committed answered reads) = after_tran rows ops
after_fate rows ops (fate.Refused refusal) = rows
after_fate rows ops fate.Stopped = rows

-- the reads of a committed one are the answers that its operations have on these rows
abbrev pub FateIsLegal : Rows → List Op → Fate → Type 0
FateIsLegal rows ops (fate.Committed answered reads) = reads ≡ reads_of rows ops
FateIsLegal rows ops (fate.Refused refusal) = Unit {0}
FateIsLegal rows ops fate.Stopped = Unit {0}

-- one thread runs the committed ones in the order of the list
abbrev pub replay : Rows → List Entry → Rows
replay rows [] = rows
replay rows (e ∷ es) = replay (after_fate rows e.tran.ops e.fate) es

abbrev pub IsLegal : Rows → List Entry → Type 0
IsLegal rows [] = Unit {0}
IsLegal rows (e ∷ es) = FateIsLegal rows e.tran.ops e.fate × IsLegal (after_fate rows e.tran.ops e.fate) es

-- the same for what is printed: a committed one that was not answered has told its reads to nobody
abbrev pub PrintIsLegal : Rows → List Op → Fate → Type 0
PrintIsLegal rows ops (fate.Committed true reads) = reads ≡ reads_of rows ops
PrintIsLegal rows ops (fate.Committed false reads) = Unit {0}
PrintIsLegal rows ops (fate.Refused refusal) = Unit {0}
PrintIsLegal rows ops fate.Stopped = Unit {0}

abbrev pub ArePrintsLegal : Rows → List Entry → Type 0
ArePrintsLegal rows [] = Unit {0}
ArePrintsLegal rows (e ∷ es) = PrintIsLegal rows e.tran.ops e.fate × ArePrintsLegal (after_fate rows e.tran.ops e.fate) es

-- the numbers rise, and are above this one
abbrev pub RiseAbove : ℕ → List ℕ → Type 0
RiseAbove low [] = Unit {0}
RiseAbove low (n ∷ ns) = (low < n) × RiseAbove n ns

-- committed ones stand first, and the others by their numbers
pub record IsInOrder (history : List Entry) : Type 0 where
  pub committed : List Entry
  pub others : List Entry
  pub whole : history ≡ committed ++ others
  pub first : AllByRecursion (λ (e : Entry). is_committed e.fate ≡ true) committed
  pub last : AllByRecursion (λ (e : Entry). is_committed e.fate ≡ false) others
  pub by_number : RiseAbove 0 (map (λ (e : Entry). e.tran.number) others)
