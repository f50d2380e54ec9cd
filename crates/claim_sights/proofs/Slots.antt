-- One slot, or one rollback, more.
use Rattle.std.proofs.Common.{◌≡◌, ℕ, zero, suc, ◌+◌, ◌<◌, add-one, List, [], ◌∷◌, ◌++◌, length, map, take, drop, get_or, Option, option_map, slice_get, refl, ap, ◌∙◌, arith}
use Rattle.std.specs.List.{flat_map}
use Rattle.std.proofs.lemmas.List.{append-nil, map-append, take_more}
use Rattle.std.proofs.lemmas.List.Concat.{flat_map-append}
use native.Mathlib.Numerals.{unary_clauses}
use Rattle.std.proofs.lemmas.List.FromFn.{map-range_with_len_more}
use Rattle.ds_base.specs.declared.names.TranId.{TranId}
use Rattle.member_trans.specs.declared.fate.Owner.{Owner}
use Rattle.member_trans.specs.declared.fate.Owner.TheVariants as owner
use Rattle.member_trans.specs.Trans.{TranState}
use Rattle.member_marks.specs.Rollbacks.{with_member}
use Rattle.member_marks.specs.State.{MarksState}
use Rattle.claim_sights.specs.Grips.{or_end, rollback_owners, slot_owner, slot_owners}
use Rattle.claim_sights.specs.Seats.{is_seat, or_seat, seat_within}

pub seat_more : (marks : MarksState) (tran : TranId) (n : ℕ) → seat_within marks tran (n + 1) ≡ or_seat (seat_within marks tran n) (is_seat marks tran (n + 1)) (n + 1)
unfolding seat_within
seat_more marks tran n = ap (seat_within marks tran) (add-one n)

pub slots_more : (n : ℕ) → slot_owners (n + 1) ≡ slot_owners n ++ owner.Slot (n + 1) ∷ []
slots_more n = map-range_with_len_more slot_owner 0 n n (omega arith)

pub rollbacks_at : (marks : MarksState) (ts : List TranState) (at : ℕ)
    → rollback_owners marks (drop at ts) ≡ or_end (with_member marks (option_map (λ (t : TranState). t.first) (slice_get ts at))) (rollback_owners marks (drop (at + 1) ts))
rollbacks_at marks [] zero = refl
rollbacks_at marks [] (suc at) = refl
rollbacks_at marks (t ∷ ts) zero = refl
rollbacks_at marks (t ∷ ts) (suc at) = simp unary_clauses (simp unary_clauses at (rollbacks_at marks ts at))

-- the parts of one item more
pub parts_more : {A B X : Type 0} (f : X → List A) (v : B → X) (xs : List B) (i : ℕ) (d : B) → i < length xs → flat_map f (map v (take (i + 1) xs)) ≡ flat_map f (map v (take i xs)) ++ f (v (get_or xs i d))
parts_more f v xs i d lt =
    ap (λ ys. flat_map f (map v ys)) (take_more xs i d lt)
    ∙ (ap (flat_map f) (map-append v (take i xs) (get_or xs i d ∷ []))
    ∙ (flat_map-append f (map v (take i xs)) (v (get_or xs i d) ∷ []) ∙ ap (λ ys. flat_map f (map v (take i xs)) ++ ys) (append-nil (f (v (get_or xs i d))))))
