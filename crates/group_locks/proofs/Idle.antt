-- The log buffer of a member whose restart is in hand: nothing waits in it.
use Rattle.std.proofs.Common.{◌≡◌, ℕ, ◌+◌, refl, sym, ◌∙◌, ap, arith, Bool, true, false, List, [], ◌∷◌, Option, Some, None}
use Rattle.std.specs.Prelude.{IfSome, if◌then◌else◌, is_some, nat_lt, slice_get, slice_index_or}
use Rattle.std.proofs.lemmas.Bool.{cond_both, lt-ltb}
use Rattle.ds_base.specs.declared.names.PageId.{PageId}
use Rattle.ds_model.specs.declared.lock.Name.{Name}
use Rattle.ds_model.specs.declared.lock.Name.TheVariants as name
use Rattle.ds_model.specs.declared.log.RowChange.{RowChange}
use Rattle.lock_manager.specs.Claims.{mode_in}
use Rattle.log_trans.specs.declared.opened.OpenTran.{OpenTran}
use Rattle.member_trans.specs.declared.fate.Change.{Change}
use Rattle.member_marks.specs.Claims.{has_page}
use Rattle.member_marks.specs.Rollbacks.{after_adopt, may_adopt, with_rollback}
use Rattle.member_marks.specs.State.{MarksState}
use Rattle.member_resources.specs.Held.{Held}
use Rattle.restart_marks.specs.declared.adopt.Adopted.{Adopted}
use Rattle.group_member.specs.declared.restarting.Restarting.{Restarting as RestartHeld}
use Rattle.group_member.specs.Adopting.{AdoptsAll, changes_left, rows_left}
use Rattle.group_member.specs.Happening.{AdoptsLeft}
use Rattle.group_member.specs.Members.{Member}
use Rattle.group_core.specs.Given.{CrewState}
use Rattle.lock_world.specs.Numbers.{AreNumbered, name_at, number}
use Rattle.lock_world.specs.Views.{claim_in}
use Rattle.group_locks.specs.Stands.{LocksTied, MemberStands, RestartInHand, RestingsWaitNone, WaitsNone}

never : false ≡ true → ⊥
never e = cc

pub pending_same : (s t : MarksState) → t.log ≡ s.log → t.log.pending ≡ s.log.pending
pending_same s t e = λ i. (e i).pending

-- ---- what is taken over puts nothing
adopt_log : (s : MarksState) (id by : ℕ) (changes : List Change) (undone : List RowChange) → (after_adopt s id by changes undone).log ≡ s.log
adopt_log s id by changes undone = cond_both (may_adopt s id changes) (with_rollback s id by changes undone) s (λ (z : MarksState). z.log ≡ s.log) (λ e. refl) (λ e. refl)

adopts_log : (h k : Held) (by : ℕ) (ts : List OpenTran) → AdoptsAll h by ts k → k.marks.log ≡ h.marks.log
adopts_log h k by [] all = ap (λ (z : Held). z.marks.log) all
adopts_log h k by (t ∷ ts) all = ap (λ (z : Held). z.marks.log) all.2.holds ∙ (adopt_log all.0.marks t.id by (changes_left t) (rows_left t) ∙ adopts_log h all.0 by ts all.1)

pub left_log : (x : Option Adopted) (h k : Held) → AdoptsLeft x h k → k.marks.log ≡ h.marks.log
left_log None h k left = ap (λ (z : Held). z.marks.log) left
left_log (Some x) h k left = adopts_log h k x.by x.trans left

-- ---- the member claims no page
pub no_page : AreNumbered → (s : MarksState) → ((c : ℕ) → claim_in s.locks 0 c ≡ None) → (page : PageId) → has_page s page ≡ false
no_page law s none page =
    let c : ℕ = number (name.Page page) in
    let first : nat_lt 0 (s.locks.agents + 1) ≡ true = lt-ltb 0 (s.locks.agents + 1) (omega arith) in
    let own : claim_in s.locks 0 c ≡ mode_in (slice_index_or s.locks.holders 0 []) (name_at c) = ap (λ (b : Bool). mode_in (if b then slice_index_or s.locks.holders 0 [] else []) (name_at c)) first in
    ap (λ (n : Name). is_some (mode_in (slice_index_or s.locks.holders 0 []) n)) (sym (law.named (name.Page page))) ∙ ap is_some (sym own ∙ none c)

pub none_own : (k : ℕ) (m : Member) (x : Option RestartHeld) → is_some x ≡ true → RestartInHand k m x → (c : ℕ) → claim_in m.holds.marks.locks 0 c ≡ None
none_own k m None some hand c = absurd (never some)
none_own k m (Some q) some hand c = hand.own c

-- ---- in a group
waits_none : (k : ℕ) (m : Member) (x : Option RestartHeld) → RestartInHand k m x → IfSome x (λ q. m.holds.marks.log.pending ≡ [])
waits_none k m None hand = tt
waits_none k m (Some q) hand = hand.idle

pub restings_wait_none : RestingsWaitNone
restings_wait_none s w t at = on (slice_get s.members at) (t.stands at)
  where
    on : (x : Option Member) → IfSome x (MemberStands s.facility (at + 1)) → IfSome x WaitsNone
    on None h = tt
    on (Some m) h = waits_none (at + 1) m m.restart h.restart
