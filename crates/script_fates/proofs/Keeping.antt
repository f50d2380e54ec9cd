-- Numbers and commits of entries, where one is added or answered.
use Rattle.std.proofs.Common.{◌≡◌, ℕ, ◌==◌, ◌&&◌, Bool, true, false, List, [], ◌∷◌, refl, ap, if◌then◌else◌}
use Rattle.ds_model.specs.declared.fate.Fate.{Fate}
use Rattle.ds_model.specs.declared.fate.Fate.TheVariants as fate
use Rattle.ds_model.specs.declared.history.Entry.{Entry}
use Rattle.ds_model.specs.History.{is_committed}
use Rattle.tran_history.specs.Histories.{has_number, has_committed, answered_fate, answered_entry, after_answer}

abbrev number_is : ℕ → Entry → Bool
number_is n e = e.tran.number == n

abbrev commits_as : ℕ → Entry → Bool
commits_as n e = (e.tran.number == n) && is_committed e.fate

same_fate : (f : Fate) → is_committed (answered_fate f) ≡ is_committed f
same_fate (fate.Committed answered reads) = refl
same_fate (fate.Refused refusal) = refl
same_fate fate.Stopped = refl

same_number : (b : Bool) (e : Entry) (n : ℕ) → number_is n (if b then answered_entry e else e) ≡ number_is n e
same_number true e n = refl
same_number false e n = refl

same_commit : (b : Bool) (e : Entry) (n : ℕ) → commits_as n (if b then answered_entry e else e) ≡ commits_as n e
same_commit true e n = ap (λ (c : Bool). (e.tran.number == n) && c) (same_fate e.fate)
same_commit false e n = refl

pub answered_number : (es : List Entry) (n k : ℕ) → has_number (after_answer es n) k ≡ has_number es k
answered_number [] n k = refl
answered_number (e ∷ es) n k = rw (same_number (e.tran.number == n) e k, answered_number es n k) refl

pub answered_commit : (es : List Entry) (n k : ℕ) → has_committed (after_answer es n) k ≡ has_committed es k
answered_commit [] n k = refl
answered_commit (e ∷ es) n k = rw (same_commit (e.tran.number == n) e k, answered_commit es n k) refl
