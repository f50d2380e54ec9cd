-- Records that an event puts are allowed.
use Rattle.std.proofs.Common.{◌≡◌, ℕ, ap, sym, subst, List, Some, Result, Ok, Err}
use Rattle.std.specs.Prelude.{IfOk, MatchResult}
use Rattle.std.specs.List.{AllByRecursion}
use Rattle.ds_disk.specs.declared.disk.DiskError.{DiskError}
use Rattle.ds_disk.specs.declared.disk.DiskError.TheVariants as disk_error
use Rattle.ds_model.specs.RecordBytes.{IsAllowed}
use Rattle.facility.specs.States.{Held as Facility}
use Rattle.facility.specs.declared.command.Command.{Command}
use Rattle.facility.specs.declared.command.Reply.{Reply}
use Rattle.member_intents.specs.declared.intent.Intent.{Intent}
use Rattle.member_intents.specs.declared.intent.Intent.TheVariants as intent
use Rattle.member_intents.specs.declared.outcome.Answered.{Answered}
use Rattle.member_intents.specs.declared.outcome.Answered.TheVariants as answered
use Rattle.member_intents.specs.declared.outcome.Sent.{Sent}
use Rattle.member_intents.specs.declared.test.StepFault.{StepFault}
use Rattle.member_intents.specs.declared.test.StepFault.TheVariants as faults
use Rattle.member_marks.specs.State.{MarksState}
use Rattle.member_effects.specs.Given.{Plan}
use Rattle.member_effects.specs.declared.told.Told.{Told}
use Rattle.member_effects.specs.Puts.{event_records, reply_records}
use Rattle.member_resources.specs.declared.lending.Lent.{Lent}
use Rattle.member_resources.specs.declared.lending.Lent.TheVariants as lent
use Rattle.member_resources.specs.Events.{Drive, RunsCall, Stores, waits_in}
use Rattle.member_resources.specs.Held.{Held}
use Rattle.member_resources.specs.Lending.{Gives, lent_of, with_bytes}

abbrev AreAllowed : MarksState → Intent → Plan → Answered → Type 0
AreAllowed s i p a = AllByRecursion IsAllowed (event_records s i p a)

-- a look at all waits puts none
pub waits_allowed : (s : MarksState) (i : Intent) (p : Plan) (r : Reply) (slots : ℕ) → waits_in i ≡ Some slots → AllByRecursion IsAllowed (reply_records s i p r)
waits_allowed s (intent.Change slot action frames) p r slots e = absurd cc
waits_allowed s (intent.Undo o at) p r slots e = absurd cc
waits_allowed s (intent.Commit slot) p r slots e = absurd cc
waits_allowed s _ p r slots e = tt

-- the command changes no marks
lent_same : (h k : Held) (l : Lent) (page : List ℕ) → k ≡ with_bytes h l page → k.marks ≡ h.marks
lent_same h k (lent.Frame at) page e = ap (λ (z : Held). z.marks) e
lent_same h k lent.Buffer page e = ap (λ (z : Held). z.marks) e
lent_same h k lent.Spare page e = ap (λ (z : Held). z.marks) e

pub given_allowed : (w v : Facility) (h k : Held) (i : Intent) (c : Command) (p : Plan) (r : Reply) → Gives h w c r k v → AllByRecursion IsAllowed (reply_records k.marks i p r) → AllByRecursion IsAllowed (reply_records h.marks i p r)
given_allowed w v h k i c p r gives all = subst (λ (z : MarksState). AllByRecursion IsAllowed (reply_records z i p r)) (lent_same h k (lent_of h c) _ gives.executed.back) all

-- a call of the disk puts none
as_answered : (s : MarksState) (i : Intent) (p : Plan) (a b : Answered) → a ≡ b → AreAllowed s i p b → AreAllowed s i p a
as_answered s i p a b e k = subst (λ (z : Answered). AreAllowed s i p z) (sym e) k

stored_allowed : (s : MarksState) (h k : Held) (i : Intent) (p : Plan) (done : Result (Unit {0}) DiskError) (a : Answered) (said : Told) → Stores h i done a said k → AreAllowed s i p a
stored_allowed s h k i p (Ok x) a said e = as_answered s i p a answered.Done e.0 tt
stored_allowed s h k i p (Err disk_error.Failed) a said e = as_answered s i p a answered.Failed e.0 tt
stored_allowed s h k i p (Err disk_error.NoMemory) a said e = absurd e

pub called_allowed : (w v : Drive) (s : MarksState) (h k : Held) (i : Intent) (sent : Sent) (p : Plan) (result : Result (Told × Answered) StepFault)
    → MatchResult result (λ r. RunsCall w h i sent r.1 r.0 v k) (λ fault. fault ≡ faults.NoMemory) → IfOk result (λ r. AreAllowed s i p r.1)
called_allowed w v s h k i sent p (Ok r) e = stored_allowed s e.after k i p e.done r.1 r.0 e.stores
called_allowed w v s h k i sent p (Err fault) e = tt
