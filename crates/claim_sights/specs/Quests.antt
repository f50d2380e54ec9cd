-- What a replay is to look for, by the fate that a run gives to a transaction.
use Rattle.std.specs.Prelude.{ℕ, ◌==◌, if◌then◌else◌, List, [], ◌∷◌, Option, Some, None}
use Rattle.ds_model.specs.declared.fate.Fate.{Fate}
use Rattle.ds_model.specs.declared.fate.Fate.TheVariants as fate
use Rattle.ds_model.specs.declared.fate.Refusal.{Refusal}
use Rattle.ds_model.specs.declared.fate.Refusal.TheVariants as refusal
use Rattle.ds_model.specs.declared.history.Entry.{Entry}
use Rattle.ds_base.specs.declared.names.TranId.{TranId}
use Rattle.ds_model.specs.declared.lock.Name.{Name}
use Rattle.script_fates.specs.declared.fates.Cause.{Cause}
use Rattle.claim_sights.specs.declared.quest.Quest.{Quest}

-- the event at which the refusal of a transaction was caused, or 0
abbrev pub cause_of : List Cause → ℕ → ℕ
cause_of [] number = 0
cause_of (cause ∷ causes) number = if cause.number == number then cause.place else cause_of causes number

abbrev pub no_quest : TranId → Quest
no_quest tran = record { tran = tran; others = []; cause = 0; name = None; retainer = None }

-- all but the first
abbrev pub others_of : List TranId → List TranId
others_of [] = []
others_of (first ∷ others) = others

-- of a cycle, for the others in it too
abbrev pub cycle_quest : TranId → List TranId → ℕ → Quest
cycle_quest tran cycle place = record { tran = tran; others = others_of cycle; cause = place; name = None; retainer = None }

abbrev pub lock_quest : TranId → Name → Option ℕ → ℕ → Quest
lock_quest tran name retainer place = record { tran = tran; others = []; cause = place; name = Some name; retainer = retainer }

-- by a refusal that was caused at this event
abbrev pub with_refusal : TranId → Refusal → ℕ → Quest
with_refusal tran (refusal.Deadlock cycle) place = cycle_quest tran cycle place
with_refusal tran (refusal.Held name by) place = lock_quest tran name None place
with_refusal tran (refusal.Retained name by) place = lock_quest tran name (Some by) place
with_refusal tran (refusal.SpaceFull table pages) place = no_quest tran
with_refusal tran (refusal.RecordsFull limit) place = no_quest tran
with_refusal tran (refusal.LrsnEnd at) place = no_quest tran
with_refusal tran refusal.Memory place = no_quest tran
with_refusal tran refusal.Aborted place = no_quest tran

abbrev pub with_fate : TranId → Fate → ℕ → Quest
with_fate tran (fate.Refused why) place = with_refusal tran why place
with_fate tran (fate.Committed answered reads) place = no_quest tran
with_fate tran fate.Stopped place = no_quest tran

abbrev pub tran_in : Entry → TranId
tran_in entry = record { member = entry.member; number = entry.tran.number }

abbrev pub quest_by : Entry → ℕ → Quest
quest_by entry place = with_fate (tran_in entry) entry.fate place

-- of the transaction with this number, where it has a fate
abbrev pub quest_of : ℕ → List Entry → List Cause → Option Quest
quest_of number [] causes = None
quest_of number (entry ∷ entries) causes = if entry.tran.number == number then Some (quest_by entry (cause_of causes number)) else quest_of number entries causes
