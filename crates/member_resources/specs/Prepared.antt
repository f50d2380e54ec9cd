-- Whether an event may happen, what it sends, and what it changes where a number is drawn.
use Rattle.std.specs.Prelude.{ℕ, ◌≡◌, ◌==◌, ◌≤◌, Bool, false, Option, Some, None, Result, Ok, Err}
use Rattle.member_intents.specs.declared.intent.Intent.{Intent}
use Rattle.member_intents.specs.declared.intent.Intent.TheVariants as intent
use Rattle.member_intents.specs.declared.outcome.Sent.{Sent}
use Rattle.member_intents.specs.declared.test.Test.{Test}
use Rattle.member_trans.specs.Trans.{with_tran, with_room}
use Rattle.member_marks.specs.State.{slot_tran, with_trans}
use Rattle.member_effects.specs.Given.{Setting}
use Rattle.member_effects.specs.Given.{Plan}
use Rattle.member_effects.specs.Given.{need_of}
use Rattle.member_effects.specs.Given.{intent_plan}
use Rattle.member_resources.specs.declared.prepared.Prepared.{Prepared}
use Rattle.member_resources.specs.Held.{Held, with_marks, with_spare}

-- whether the castout lock is the member's, where this one holds it
abbrev pub is_holder : Held → Option ℕ → Bool
is_holder h None = false
is_holder h (Some holder) = holder == h.marks.member

abbrev pub setting_of : Held → Option ℕ → ℕ → Setting
setting_of h holder place = record { limit = h.limit; cast = h.cast; is_holder = is_holder h holder; place = place }

abbrev pub planned : Sent → Result Plan Test → Result Prepared Test
planned sent (Err test) = Err test
planned sent (Ok plan) = Ok (record { sent = sent; plan = plan })

abbrev pub needed : Result Sent Test → Result Plan Test → Result Prepared Test
needed (Err test) plan = Err test
needed (Ok sent) plan = planned sent plan

-- what the intent comes to, or the first test that fails; `holder` has the castout lock of the page that the member casts out
abbrev pub wanted : Held → Option ℕ → ℕ → Intent → Result Prepared Test
wanted h holder place i = needed (need_of h.marks h.pages (setting_of h holder place) i) (intent_plan h.marks h.pages h.limit i)

-- ---- the memory is taken that settling it may need

abbrev pub HasSpare : Held → Held → Type 0
HasSpare h k = (1 ≤ k.marks.locks.spare) × (h.marks.locks.spare ≤ k.marks.locks.spare) × (k ≡ with_spare h k.marks.locks.spare)

abbrev pub with_change_room : Held → ℕ → Held
with_change_room h slot = with_marks h (with_trans h.marks (with_tran h.marks.trans slot (with_room (slot_tran h.marks slot))))

abbrev pub Reserves : Intent → Held → Held → Type 0
Reserves (intent.Obtain o n m) h k = HasSpare h k
Reserves (intent.Grant o n m) h k = HasSpare h k
Reserves (intent.Change slot action frames) h k = k ≡ with_change_room h slot
Reserves _ h k = k ≡ h
