-- Who has given the answers in cells, event by event.
use Rattle.std.proofs.Common.{◌≡◌, ◌∙◌, inl, inr, ℕ, ◌+◌, ◌-◌, ◌<◌, ◌≤◌, Bool, true, false, eqb, ltb, List, [], ◌∷◌, Option, Some, None, Result, Ok, Err, refl, sym, ap, subst}
use Rattle.std.specs.Prelude.{if◌then◌else◌}
use Rattle.std.proofs.lemmas.Bool.{ltb-true, ltb-false, or_parts}
use Rattle.ds_model.specs.declared.lock.Name.{Name}
use Rattle.lock_names.specs.declared.mode.Mode.{Mode}
use Rattle.lock_manager.specs.declared.claim.LockAnswer.{LockAnswer}
use Rattle.lock_manager.specs.Holders.{first_in_way}
use Rattle.lock_manager.specs.Managers.{slots, answer_among}
use Rattle.list_structure.specs.declared.query.Asker.{Asker}
use Rattle.list_structure.specs.declared.query.CellAnswer.{CellAnswer}
use Rattle.facility.specs.declared.command.Command.{Command}
use Rattle.facility.specs.declared.command.Command.TheVariants as command
use Rattle.facility.specs.States as facility
use Rattle.member_intents.specs.declared.intent.Intent.{Intent}
use Rattle.member_intents.specs.declared.intent.Intent.TheVariants as intent
use Rattle.member_intents.specs.declared.outcome.Answered.{Answered}
use Rattle.member_intents.specs.declared.outcome.Sent.{Sent}
use Rattle.member_intents.specs.declared.outcome.Sent.TheVariants as sent
use Rattle.member_marks.specs.State.{MarksState, id_of}
use Rattle.member_marks.specs.Claims.{answer_to, cell_for}
use Rattle.member_needs.specs.declared.needs.Setting.{Setting}
use Rattle.member_needs.specs.Closing.{end_sent}
use Rattle.member_needs.specs.declared.plans.Plan.{Plan}
use Rattle.member_needs.specs.Needs.{need_of}
use Rattle.member_effects.specs.declared.told.Told.{Told}
use Rattle.member_resources.specs.Held.{Held, begun}
use Rattle.member_resources.specs.Events.{World, Happens, Runs, holder_in}
use Rattle.member_resources.specs.Prepared.{setting_of}
use Rattle.needs_law.specs.Lawful.{SendsLawfully, Lawful}
use Rattle.refusal_causes.specs.Causes.{HasClaim, HasPostponed}
use Rattle.refusal_causes.specs.Answers.{AreGiven, Says}
use Rattle.refusal_causes.proofs.Cells.{Knowledge, executed_given, failed_given}
use Rattle.refusal_causes.proofs.Either.{either, either_by}
use Rattle.refusal_causes.proofs.InTheWay.{in_way}
use Rattle.refusal_causes.proofs.Sending.{member_kept, needs}

-- ---- what claims say

says_among : (s : MarksState) (n : Name) (m : Mode) (o : Option ℕ) → first_in_way s.locks.holders 0 None n m ≡ o → Says s n m (cell_for s (answer_among s.locks o))
says_among s n m None is = tt
says_among s n m (Some k) is =
    either_by (λ (a : LockAnswer). Says s n m (cell_for s a)) (ltb k (slots s.locks)) _ _
    (λ there. record { slot = k; is_slot = ltb-true k (slots s.locks) there; its = refl; in_way = in_way s.locks None n m k is })
    (λ behind. record { place = k; is_rollback = ltb-false k (slots s.locks) behind; waits = refl; in_way = in_way s.locks None n m k is })

-- the claims of a member say what it answers
says_so : (s : MarksState) (n : Name) (m : Mode) → Says s n m (answer_to s n m)
says_so s n m = says_among s n m (first_in_way s.locks.holders 0 None n m) refl

-- ---- who answers

-- what is sent is no answer, or that of these claims at this place
abbrev Answers : MarksState → ℕ → Sent → Type 0
Answers s place (sent.Command (command.Answer asker n m said event)) = (said ≡ answer_to s n m) × (event ≡ place)
Answers s place _ = Unit {0}

is_sent : (s : MarksState) (place : ℕ) (out x : Sent) → out ≡ x → Answers s place x → Answers s place out
is_sent s place out x e answers = subst (Answers s place) (sym e) answers

lawful_answers : (s : MarksState) (pages : List (List ℕ)) (c : Setting) (i : Intent) (out : Sent) → Lawful s pages c i out → Answers s c.place out
lawful_answers s pages c intent.Step out l = is_sent s c.place out _ l tt
lawful_answers s pages c (intent.Obtain o n m) out l = is_sent s c.place out _ l.is tt
lawful_answers s pages c (intent.Grant o n m) out l = is_sent s c.place out _ l.is tt
lawful_answers s pages c (intent.Ask o to n m) out l = is_sent s c.place out _ l tt
lawful_answers s pages c (intent.Answers o n m asked) out l = is_sent s c.place out _ l tt
lawful_answers s pages c (intent.Status member) out l = is_sent s c.place out _ l tt
lawful_answers s pages c (intent.Take past) out l = is_sent s c.place out _ l tt
lawful_answers s pages c (intent.Answer asker n m) out l = is_sent s c.place out _ l.is (refl, refl)
lawful_answers s pages c (intent.ReleaseLock o) out l = is_sent s c.place out _ l.is tt
lawful_answers s pages c (intent.ReleasePage page) out l = is_sent s c.place out _ l.is tt
lawful_answers s pages c (intent.Purge n) out l = is_sent s c.place out _ l.is tt
lawful_answers s pages c (intent.End o) out l = is_sent s c.place out (end_sent s o) l.is (either (Answers s c.place) (eqb (id_of s o).number 0) sent.None (sent.Command (command.End (id_of s o))) tt tt)
lawful_answers s pages c (intent.Wait slot holder flag) out l = is_sent s c.place out _ l.is tt
lawful_answers s pages c (intent.Unwait slot) out l = is_sent s c.place out _ l.is tt
lawful_answers s pages c (intent.Waits slots) out l = is_sent s c.place out _ l tt
lawful_answers s pages c (intent.Flag flag) out l = is_sent s c.place out _ l tt
lawful_answers s pages c (intent.Raise flag) out l = is_sent s c.place out _ l tt
lawful_answers s pages c intent.LoseCache out l = is_sent s c.place out _ l tt
lawful_answers s pages c (intent.Read frame) out l = is_sent s c.place out _ l.is tt
lawful_answers s pages c (intent.ReadPage frame) out l = is_sent s c.place out _ l.is tt
lawful_answers s pages c (intent.Test frame slot gives) out l = is_sent s c.place out _ l.is tt
lawful_answers s pages c (intent.WritePage frame) out l = is_sent s c.place out _ l.is tt
lawful_answers s pages c (intent.Unregister frame) out l = is_sent s c.place out _ l.is tt
lawful_answers s pages c (intent.Change slot action frames) out l = is_sent s c.place out _ l.is tt
lawful_answers s pages c (intent.Undo o frame) out l = is_sent s c.place out _ l.is tt
lawful_answers s pages c (intent.Commit slot) out l = is_sent s c.place out _ l.is tt
lawful_answers s pages c intent.Append out l = is_sent s c.place out _ l.is tt
lawful_answers s pages c (intent.NextChanged past) out l = is_sent s c.place out _ l tt
lawful_answers s pages c (intent.CastoutRead page) out l = is_sent s c.place out _ l tt
lawful_answers s pages c intent.CastoutWrite out l = is_sent s c.place out _ l.is (either (Answers s c.place) c.is_holder _ _ tt tt)
lawful_answers s pages c intent.CastoutDone out l = is_sent s c.place out _ l.is tt
lawful_answers s pages c intent.PhaseDone out l = is_sent s c.place out _ l tt

-- ---- an event of the member's own

-- the answer that these claims give is known
abbrev pub Said : Knowledge → MarksState → ℕ → Type 0
Said K s place = (n : Name) (m : Mode) (said : CellAnswer) → Says s n m said → K s.member n m said place

abbrev Given : Knowledge → facility.Held → Type 0
Given K w = AreGiven K w.lists.cells

is_known : (K : Knowledge) (s : MarksState) (m place : ℕ) (c : Command) → m ≡ s.member → Said K s place → Answers s place (sent.Command c) → (asker : Asker) (n : Name) (mode : Mode) (it : CellAnswer) (event : ℕ) → c ≡ command.Answer asker n mode it event → K m n mode it event
is_known K s m place c same said answers asker n mode it event e =
    let a : (it ≡ answer_to s n mode) × (event ≡ place) = subst (λ (x : Command). Answers s place (sent.Command x)) e answers in
    let says : Says s n mode it = subst (Says s n mode) (sym a.0) (says_so s n mode) in
    let here : K s.member n mode it place = said n mode it says in
    subst (λ (k : ℕ). K k n mode it event) (sym same) (subst (λ (k : ℕ). K s.member n mode it k) (sym a.1) here)

runs_given : (K : Knowledge) (w v : World) (h ready k : Held) (i : Intent) (s : Sent) (p : Plan) (place : ℕ) (a : Answered) (told : Told) → ready.marks.member ≡ h.marks.member → Said K h.marks place → Answers h.marks place s → Runs w (begun ready place) i s p place a told v k → Given K w.facility → Given K v.facility
runs_given K w v h ready k i sent.None p place a told same said answers r given = subst (Given K) (sym (ap (λ (x : World). x.facility) r.world)) given
runs_given K w v h ready k i (sent.Command c) p place a told same said answers r given =
    executed_given K w.facility v.facility ready.marks.member c _ _ r.0.answer (is_known K h.marks ready.marks.member place c same said answers) r.0.gives.executed.executes given
runs_given K w v h ready k i sent.AppendLog p place a told same said answers r given = subst (Given K) (sym r.1) given
runs_given K w v h ready k i (sent.ReadPage page) p place a told same said answers r given = subst (Given K) (sym r.1) given
runs_given K w v h ready k i (sent.WritePage page) p place a told same said answers r given = subst (Given K) (sym r.1) given

pub happens_given : SendsLawfully → (K : Knowledge) (w v : World) (h k : Held) (i : Intent) (place : ℕ) (s : Sent) (a : Answered) → Happens w h i place s a v k → Said K h.marks place → Given K w.facility → Given K v.facility
happens_given law K w v h k i place s a e said given =
    let c = setting_of h (holder_in w.facility h.cast) place in
    let need = needs (need_of h.marks h.pages c i) _ s e.plan e.lawful in
    runs_given K w v h e.ready e.after i s e.plan place a e.said (member_kept i h e.ready e.reserves) said (lawful_answers h.marks h.pages c i s (law h.marks h.pages c i s need)) e.runs given
