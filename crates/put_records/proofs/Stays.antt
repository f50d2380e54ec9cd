-- What leaves the log buffer as it is, and what puts records in it.
use Rattle.std.proofs.Common.{◌≡◌, refl, sym, ◌∙◌, ap, subst, Bool, List, [], ◌++◌}
use Rattle.std.specs.Prelude.{if◌then◌else◌}
use Rattle.std.proofs.lemmas.Bool.{cond_both}
use Rattle.std.proofs.lemmas.List.{append-nil}
use Rattle.ds_model.specs.RecordBytes.{log_bytes}
use Rattle.ds_model.specs.declared.log.LogRecord.{LogRecord}
use Rattle.lock_manager.specs.Managers.{Book}
use Rattle.member_log.specs.Buffers.{LogBuffer}
use Rattle.member_pool.specs.Heads.{HeadState}
use Rattle.member_trans.specs.Trans.{TransState}
use Rattle.member_marks.specs.Names.{NameSet}
use Rattle.member_marks.specs.State.{MarksState, with_heads, with_kept, with_locks, with_trans}

-- ---- the buffer stays
pub record Stays (s t : MarksState) : Type 0 where
  pub log : t.log ≡ s.log

pub stays_log : (s t : MarksState) → t.log ≡ s.log → Stays s t
stays_log s t e = record { log = e }

pub stays_itself : (s : MarksState) → Stays s s
stays_itself s = record { log = refl }

pub stays_as : (s t u : MarksState) → t ≡ u → Stays s u → Stays s t
stays_as s t u e k = subst (λ (z : MarksState). Stays s z) (sym e) k

pub stays_on : (s t u : MarksState) → Stays s t → Stays t u → Stays s u
stays_on s t u a b = record { log = b.log ∙ a.log }

pub stays_if : (s x y : MarksState) (b : Bool) → Stays s x → Stays s y → Stays s (if b then x else y)
stays_if s x y b p q = cond_both b x y (λ (z : MarksState). Stays s z) (λ e. p) (λ e. q)

pub stays_heads : (s : MarksState) (h : HeadState) → Stays s (with_heads s h)
stays_heads s h = stays_log s (with_heads s h) refl

pub stays_names : (s : MarksState) (k : NameSet) → Stays s (with_kept s k)
stays_names s k = stays_log s (with_kept s k) refl

pub stays_locks : (s : MarksState) (b : Book) → Stays s (with_locks s b)
stays_locks s b = stays_log s (with_locks s b) refl

pub stays_trans : (s : MarksState) (t : TransState) → Stays s (with_trans s t)
stays_trans s t = stays_log s (with_trans s t) refl

-- ---- records are put
pub record Puts (s t : MarksState) (new : List LogRecord) : Type 0 where
  pub pending : t.log.pending ≡ s.log.pending ++ log_bytes new

pub puts_none : (s t : MarksState) → Stays s t → Puts s t []
puts_none s t k = record { pending = ap (λ (z : LogBuffer). z.pending) k.log ∙ sym (append-nil s.log.pending) }

pub puts_itself : (s : MarksState) → Puts s s []
puts_itself s = puts_none s s (stays_itself s)

pub puts_as : (s t u : MarksState) (new : List LogRecord) → t ≡ u → Puts s u new → Puts s t new
puts_as s t u new e k = subst (λ (z : MarksState). Puts s z new) (sym e) k
