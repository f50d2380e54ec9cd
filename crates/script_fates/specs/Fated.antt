-- Fates as callers see them.
use Rattle.std.specs.Prelude.{◌≡◌, ℕ, ◌≤◌, ◌==◌, ◌&&◌, ◌⊎◌, Bool, true, false, not, List, [], ◌∷◌, ◌++◌, Option, Some, None, slice_index_or}
use Rattle.std.specs.List.{AllByRecursion, list_any}
use Rattle.ds_model.specs.declared.fate.Fate.{Fate}
use Rattle.ds_model.specs.declared.fate.Fate.TheVariants as fate
use Rattle.ds_model.specs.declared.fate.Refusal.{Refusal}
use Rattle.ds_model.specs.declared.fate.Refusal.TheVariants as refusal
use Rattle.ds_model.specs.declared.history.Entry.{Entry}
use Rattle.ds_model.specs.declared.script.Tran.{Tran}
use Rattle.ds_model.specs.declared.script.Part.{Part}
use Rattle.ds_model.specs.declared.script.Phase.{Phase}
use Rattle.tran_history.specs.Histories.{has_number}
use Rattle.script_fates.specs.declared.fates.Cause.{Cause}

-- the transactions with a fate, in the order of their fates, and the causes of the refused ones
pub record FatesState : Type 0 where
  pub entries : List Entry
  pub causes : List Cause

abbrev pub no_fates : FatesState
no_fates = record { entries = []; causes = [] }

abbrev pub is_there : {X : Type 0} → Option X → Bool
is_there {X} None = false
is_there {X} (Some x) = true

-- whether something stands at this place
abbrev pub waits_at : {X : Type 0} → List (Option X) → ℕ → Bool
waits_at {X} waiting i = is_there (slice_index_or waiting i None)

abbrev pub is_marked : List Bool → ℕ → Bool
is_marked marks i = slice_index_or marks i false

-- a transaction that waits for locks isn't refused since another one holds one
abbrev pub may_be_refused : Tran → Refusal → Bool
may_be_refused tran (refusal.Held n by) = not tran.wait
may_be_refused tran (refusal.Retained n by) = true
may_be_refused tran (refusal.Deadlock cycle) = true
may_be_refused tran (refusal.SpaceFull table pages) = true
may_be_refused tran (refusal.RecordsFull most) = true
may_be_refused tran (refusal.LrsnEnd at) = true
may_be_refused tran refusal.Memory = true
may_be_refused tran refusal.Aborted = true

abbrev pub may_have : Tran → Fate → Bool
may_have tran (fate.Committed answered reads) = true
may_have tran (fate.Refused why) = may_be_refused tran why
may_have tran fate.Stopped = true

-- a transaction of this number, which had none, has this fate now
abbrev pub Adds : List Entry → ℕ → Fate → List Entry → Type 0
Adds old number its new = (1 ≤ number) × (has_number old number ≡ false) × ((e : Entry) × (e.tran.number ≡ number) × (e.fate ≡ its) × (may_have e.tran its ≡ true) × (new ≡ old ++ e ∷ []))

-- it was so; or nothing changed
abbrev pub Ends : FatesState → ℕ → Fate → Bool → FatesState → Type 0
Ends old number its true new = Adds old.entries number its new.entries × (new.causes ≡ old.causes)
Ends old number its false new = new ≡ old

abbrev pub Fixes : FatesState → ℕ → Fate → FatesState → Type 0
Fixes old number its new = (new ≡ old) ⊎ (Adds old.entries number its new.entries × (new.causes ≡ old.causes))

-- and its cause stands last
abbrev pub Refuses : FatesState → ℕ → Refusal → ℕ → FatesState → Type 0
Refuses old number why place new =
    (new ≡ old) ⊎ (Adds old.entries number (fate.Refused why) new.entries × (new.causes ≡ old.causes ++ record { number = number; place = place } ∷ []))

-- one of these transactions has this number
abbrev pub has_tran : List Tran → ℕ → Bool
has_tran trans n = list_any (λ (t : Tran). t.number == n) trans

-- the phase has a transaction of this number
abbrev pub is_in_phase : Phase → ℕ → Bool
is_in_phase phase n = list_any (λ (p : Part). has_tran p.trans n) phase.parts

-- the member has a transaction of this number in the phase
abbrev pub is_in_part : Phase → ℕ → ℕ → Bool
is_in_part phase member n = list_any (λ (p : Part). (member == p.member) && has_tran p.trans n) phase.parts

-- stopped transactions, each with such a number, stand behind the others
abbrev pub StopsOnly : (ℕ → Bool) → FatesState → FatesState → Type 0
StopsOnly may old new =
    ((more : List Entry) × AllByRecursion (λ (e : Entry). (e.fate ≡ fate.Stopped) × (may e.tran.number ≡ true)) more × (new.entries ≡ old.entries ++ more))
    × (new.causes ≡ old.causes)

-- stopped transactions stand behind the others
abbrev pub Stops : FatesState → FatesState → Type 0
Stops old new = ((more : List Entry) × AllByRecursion (λ (e : Entry). e.fate ≡ fate.Stopped) more × (new.entries ≡ old.entries ++ more)) × (new.causes ≡ old.causes)
