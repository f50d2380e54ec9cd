-- One number more.
use Rattle.std.proofs.Common.{◌≡◌, ℕ, ◌+◌, add-one, List, ap}
use Rattle.ds_model.specs.declared.script.Tran.{Tran}
use Rattle.lock_sights.specs.Rosters.{is_named, named_within, or_number}

pub named_more : (all : List Tran) (name : List ℕ) (n : ℕ) → named_within all name (n + 1) ≡ or_number (named_within all name n) (is_named all name (n + 1)) (n + 1)
unfolding named_within
named_more all name n = ap (named_within all name) (add-one n)
