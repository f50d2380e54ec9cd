-- The order of entries, from the front.
use Rattle.std.specs.Prelude.{◌≡◌, ℕ, suc, ◌<◌, false, List, [], ◌∷◌, if◌then◌else◌}
use Rattle.ds_model.specs.declared.history.Entry.{Entry}
use Rattle.ds_model.specs.History.{is_committed}

-- how many committed ones stand first
abbrev pub front_of : List Entry → ℕ
front_of [] = 0
front_of (e ∷ es) = if is_committed e.fate then suc (front_of es) else 0

-- none is committed, and the numbers rise above this one
abbrev pub AreOthers : ℕ → List Entry → Type 0
AreOthers low [] = Unit {0}
AreOthers low (e ∷ es) = (is_committed e.fate ≡ false) × (low < e.tran.number) × AreOthers e.tran.number es
