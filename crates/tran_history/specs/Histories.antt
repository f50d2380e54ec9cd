-- A history as its callers see it.
use Rattle.std.specs.Prelude.{ℕ, Bool, true, List, map, ◌==◌, ◌&&◌, if◌then◌else◌}
use Rattle.std.specs.List.{list_any}
use Rattle.ds_model.specs.declared.history.Entry.{Entry}
use Rattle.ds_model.specs.declared.fate.Fate.{Fate}
use Rattle.ds_model.specs.declared.fate.Fate.TheVariants as fate
use Rattle.ds_model.specs.History.{is_committed}

-- the entries, and how many there may be
pub record HistoryState : Type 0 where
  pub entries : List Entry
  pub room : ℕ

-- the transaction of this number has an entry
abbrev pub has_number : List Entry → ℕ → Bool
has_number entries n = list_any (λ (e : Entry). e.tran.number == n) entries

-- it stands as committed
abbrev pub has_committed : List Entry → ℕ → Bool
has_committed entries n = list_any (λ (e : Entry). (e.tran.number == n) && is_committed e.fate) entries

abbrev pub answered_fate : Fate → Fate
answered_fate (fate.Committed answered reads) = fate.Committed true reads
answered_fate (fate.Refused refusal) = fate.Refused refusal
answered_fate fate.Stopped = fate.Stopped

abbrev pub answered_entry : Entry → Entry
answered_entry e = record e { fate = answered_fate e.fate }

-- the entry of this number is marked as answered, and no other is changed
abbrev pub after_answer : List Entry → ℕ → List Entry
after_answer entries n = map (λ (e : Entry). if e.tran.number == n then answered_entry e else e) entries
