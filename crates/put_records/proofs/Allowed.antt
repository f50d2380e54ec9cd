-- Records of the buffer that are allowed.
use Rattle.std.proofs.Common.{◌≡◌, ℕ, sym, ◌∙◌, ap, Bool, true, false, List, [], ◌∷◌, ◌++◌}
use Rattle.std.specs.Prelude.{◌&&◌}
use Rattle.std.specs.List.{AllByRecursion}
use Rattle.std.proofs.lemmas.List.Concat.{flat_map-append}
use Rattle.ds_model.specs.RecordBytes.{IsAllowed, log_bytes, record_bytes}
use Rattle.ds_model.specs.declared.log.LogRecord.{LogRecord}
use Rattle.member_log.specs.Buffers.{LogBuffer}
use Rattle.member_marks.specs.State.{MarksState}
use Rattle.member_effects.specs.Puts.{event_records}
use Rattle.member_resources.specs.Held.{begun}
use Rattle.put_records.specs.Puts.{AllowedBegin, AllowedReach, AllowedStay, BufferIsAllowed, is_append, is_done, pending_after}
use Rattle.put_records.proofs.Events.{events_put}
use Rattle.put_records.proofs.Locals.{reach_stays}

both_all : (xs ys : List LogRecord) → AllByRecursion IsAllowed xs → AllByRecursion IsAllowed ys → AllByRecursion IsAllowed (xs ++ ys)
both_all [] ys h k = k
both_all (x ∷ xs) ys h k = (h.0, both_all xs ys h.1 k)

pub allowed_begin : AllowedBegin
allowed_begin member sizes h new = record { pend = []; spelled = ap (λ (z : LogBuffer). z.pending) new.marks.log; allowed = tt }

pub allowed_reach : AllowedReach
allowed_reach s t r k = record { pend = k.pend; spelled = ap (λ (z : LogBuffer). z.pending) (reach_stays s t r).log ∙ k.spelled; allowed = k.allowed }

-- behind what is put
left : (s t : MarksState) (new : List LogRecord) (b : Bool) → AllByRecursion IsAllowed new → BufferIsAllowed s → t.log.pending ≡ pending_after b s.log.pending new → BufferIsAllowed t
left s t new true allowed k e = record { pend = []; spelled = e; allowed = tt }
left s t new false allowed k e = record {
  pend = k.pend ++ new;
  spelled = e ∙ ap (λ (z : List ℕ). z ++ log_bytes new) k.spelled ∙ sym (flat_map-append record_bytes k.pend new);
  allowed = both_all k.pend new k.allowed allowed;
}

pub allowed_stay : AllowedStay
allowed_stay w v h k i place s a happens b =
    left h.marks k.marks (event_records (begun happens.ready place).marks i happens.plan a) (is_done a && is_append i) happens.allowed b (events_put w v h k i place s a happens)
