-- A member that holds nothing, and a slot with a transaction.
use Rattle.std.proofs.Common.{◌≡◌, ℕ, ◌+◌, sym, ◌∙◌, ap, subst, arith, true, List, [], inl, inr, length}
use Rattle.std.specs.Prelude.{nat_le, nat_lt, slice_index_or}
use Rattle.std.proofs.lemmas.Bool.{and_from, both_ways, cases_lt, le-leb, lt-ltb}
use Rattle.std.proofs.lemmas.List.{length-replicate}
use Rattle.lock_manager.specs.declared.claim.Claim.{Claim}
use Rattle.member_trans.specs.Trans.{TransState, is_free}
use Rattle.member_marks.specs.State.{MarksState, slot_tran}
use Rattle.marks_law.specs.Free.{FreeBegin}
use Rattle.marks_law.specs.Slots.{AreSlots, SlotsBegin, SlotsTell}
use Rattle.marks_law.proofs.Free.{none_in}
use Rattle.marks_law.proofs.Slots.{no_slots, past}

pub slots_begin : SlotsBegin
slots_begin member sizes h new =
    subst (λ (z : ℕ). AreSlots h.marks.trans z) (sym new.marks.sizes.0) (subst (λ (z : TransState). AreSlots z sizes.agents) (sym new.marks.trans) (no_slots sizes.agents))

pub free_begin : FreeBegin
free_begin member sizes h new =
    let few : h.marks.locks.agents ≡ sizes.agents = new.marks.sizes.0 in
    let long : length h.marks.locks.holders ≡ sizes.agents + 1 = ap length new.marks.holders ∙ length-replicate (sizes.agents + 1) [] in record {
      lists = omega (arith, few, long);
      none = λ slot a f. subst (λ (z : List (List Claim)). slice_index_or z slot [] ≡ []) (sym new.marks.holders) (none_in (sizes.agents + 1) slot);
    }

-- slot 0 and those past the last are free
free_own : (s : MarksState) (slot : ℕ) → AreSlots s.trans s.locks.agents → slot ≡ 0 → is_free (slot_tran s slot).stage ≡ true
free_own s slot h zero = subst (λ (z : ℕ). is_free (slot_tran s z).stage ≡ true) (sym zero) h.own

pub slots_tell : SlotsTell
slots_tell s slot h taken = and_from (nat_lt 0 slot) (nat_le slot s.locks.agents)
    (lt-ltb 0 slot (elim (cases_lt 0 slot) [
      | inl lt ↦ lt
      | inr le ↦ absurd (both_ways (is_free (slot_tran s slot).stage) taken (free_own s slot h (omega (arith, le))))
    ]))
    (le-leb slot s.locks.agents (elim (cases_lt slot (s.locks.agents + 1)) [
      | inl lt ↦ omega (arith, lt)
      | inr le ↦ absurd (both_ways (is_free (slot_tran s slot).stage) taken (past s.trans.slots slot (omega (arith, le, h.count))))
    ]))
