-- Where no row change of any transaction is open, each is committed or taken back.
use Rattle.std.proofs.Common.{◌≡◌, ℕ, Bool, true, false, List, [], ◌∷◌, refl}
use Rattle.std.specs.Prelude.{◌==◌, not, ◌&&◌}
use Rattle.std.specs.List.{AllByRecursion, list_all}
use Rattle.std.proofs.lemmas.Bool.{and_parts, eq-eqb}
use Rattle.ds_model.specs.declared.log.LogRecord.{LogRecord}
use Rattle.sound_disk.specs.Settled.{is_row_change, is_settled, is_open}
use Rattle.restart_soundness.specs.Runs.{EndedAreSettled}

-- no row change of the transaction among these is open, in records of which they are some
abbrev is_no_open : List LogRecord → ℕ → LogRecord → Bool
is_no_open records tran r = not ((r.tran == tran) && is_open records r)

settled_if : (own change settled : Bool) → not (own && (change && not settled)) ≡ true → own ≡ true → change ≡ true → settled ≡ true
settled_if own change true h o c = refl
settled_if true true false h o c = absurd cc
settled_if true false false h o c = absurd cc
settled_if false change false h o c = absurd cc

each_settled : (records some : List LogRecord) → ((tran : ℕ) → list_all (is_no_open records tran) some ≡ true) → AllByRecursion (λ (r : LogRecord). is_row_change r.body ≡ true → is_settled records r ≡ true) some
each_settled records [] h = tt
each_settled records (r ∷ rs) h =
    let first : is_row_change r.body ≡ true → is_settled records r ≡ true =
    λ change. settled_if (r.tran == r.tran) (is_row_change r.body) (is_settled records r) (and_parts (is_no_open records r.tran r) (list_all (is_no_open records r.tran) rs) (h r.tran)).0 (eq-eqb r.tran r.tran refl) change in
    (first, each_settled records rs (λ tran. (and_parts (is_no_open records tran r) (list_all (is_no_open records tran) rs) (h tran)).1))

pub ended_are_settled : EndedAreSettled
ended_are_settled records h = each_settled records records h
