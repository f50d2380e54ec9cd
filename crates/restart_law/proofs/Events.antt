-- Any event of a restart.
use Rattle.std.proofs.Common.{◌≡◌, ℕ, refl, sym, ◌∙◌, ap, subst, Bool, true, false, Option, Some, None, Result, Ok, Err}
use Rattle.std.specs.Prelude.{not}
use Rattle.facility.specs.declared.command.Command.TheVariants as command
use Rattle.facility.specs.declared.command.Reply.{Reply}
use Rattle.log_rows.specs.Rows.{OpenTell}
use Rattle.member_intents.specs.declared.outcome.Answered.{Answered}
use Rattle.restart_marks.specs.declared.intent.RestartIntent.{RestartIntent}
use Rattle.restart_marks.specs.declared.intent.RestartIntent.TheVariants as intent
use Rattle.restart_marks.specs.declared.intent.RestartSent.{RestartSent}
use Rattle.restart_marks.specs.declared.intent.RestartSent.TheVariants as sent
use Rattle.restart_marks.specs.declared.intent.RestartTest.{RestartTest}
use Rattle.restart_marks.specs.declared.intent.RestartTest.TheVariants as test
use Rattle.restart_marks.specs.declared.told.RestartTold.{RestartTold}
use Rattle.restart_marks.specs.Needs.{need_of}
use Rattle.restart_marks.specs.OwnNeeds.{is_end_listed}
use Rattle.restart_marks.specs.State.{RestartState}
use Rattle.restart_marks.specs.Tested.{Tested, after, passed, when}
use Rattle.restart_resources.specs.Events.{Runs, World}
use Rattle.restart_resources.specs.Held.{Held}
use Rattle.restart_resources.specs.Lending.{is_hand, lent_bytes, with_bytes}
use Rattle.restart_resources.specs.Settled.{settled}
use Rattle.restart_law.specs.Opens.{OpensStand, OpensStay}
use Rattle.restart_law.proofs.Near.{claims, lists, locals, name_purged, page_purged, reads, releases, tests, undoes, ups, writes}
use Rattle.restart_law.proofs.Opens.{Keeps, Near, keeps, near, near_keeps}
use Rattle.restart_law.proofs.Reading.{calls}

-- ---- what the tests show
abbrev pub holds : Tested → Bool
holds (Ok x) = true
holds (Err t) = false

pub err_ok : {T : Type 0} → (t : RestartTest) (y : T) (x : Result T RestartTest) → x ≡ Err t → x ≡ Ok y → ⊥
err_ok t y x a b = cc

pub after_first : {T : Type 0} → (t : Tested) (r : Result T RestartTest) (y : T) → after t r ≡ Ok y → holds t ≡ true
after_first (Ok x) r y e = refl
after_first {T} (Err t) r y e = absurd (err_ok t y (Err t) refl e)

never : false ≡ true → ⊥
never e = cc

pub when_first : (b : Bool) (t : RestartTest) (rest : Tested) → holds (when b t rest) ≡ true → b ≡ true
when_first true t rest h = refl
when_first false t rest h = absurd (never h)

pub when_rest : (b : Bool) (t : RestartTest) (rest : Tested) → holds (when b t rest) ≡ true → holds rest ≡ true
when_rest true t rest h = h
when_rest false t rest h = absurd (never h)

lists_read : (s : RestartState) (x : RestartSent) → need_of s intent.RetainedAt ≡ Ok x → s.own.is_read ≡ true
lists_read s x e =
    let rest : Tested = when (not (is_end_listed s)) test.AlreadyListed passed in
    when_first s.own.is_read test.NotRead rest (after_first (when s.own.is_read test.NotRead rest) (Ok (sent.Command (command.RetainedAt s.listed))) x e)

-- ---- by intent
settles : (h : Held) (i : RestartIntent) (x : RestartSent) (answer : Reply) → need_of h.marks i ≡ Ok x → Near h.marks (settled h i answer).marks
settles h intent.Step x answer e = near h.marks
settles h intent.ReadLog x answer e = near h.marks
settles h intent.CutTail x answer e = near h.marks
settles h intent.RetainedAt x answer e = lists h.marks answer (lists_read h.marks x e)
settles h intent.Read x answer e = reads h answer
settles h intent.ReadPage x answer e = near h.marks
settles h intent.Test x answer e = tests h answer
settles h intent.WritePage x answer e = writes h.marks answer
settles h intent.PurgePage x answer e = page_purged h.marks answer
settles h (intent.Purge n) x answer e = name_purged h.marks n answer
settles h intent.Append x answer e = near h.marks
settles h (intent.Obtain id) x answer e = claims h.marks id answer
settles h (intent.Ask id to) x answer e = near h.marks
settles h (intent.Answers id asked) x answer e = near h.marks
settles h (intent.Grant id) x answer e = claims h.marks id answer
settles h (intent.Status m) x answer e = near h.marks
settles h (intent.Undo id) x answer e = undoes h id answer
settles h intent.ReleasePage x answer e = releases h.marks answer
settles h intent.Unregister x answer e = near h.marks
settles h intent.Up x answer e = ups h.marks answer

-- ---- any event
pub same_marks : (h k : Held) (b : Bool) (page : _) → k ≡ with_bytes h b page → k.marks ≡ h.marks
same_marks h k true page e = ap (λ (z : Held). z.marks) e
same_marks h k false page e = ap (λ (z : Held). z.marks) e

pub from_marks : (h k : Held) (i : RestartIntent) (x : RestartSent) (answer : Reply) → k.marks ≡ h.marks → need_of h.marks i ≡ Ok x → Near h.marks (settled k i answer).marks
from_marks h k i x answer same e = subst (λ (z : RestartState). Near z (settled k i answer).marks) same (settles k i x answer (ap (λ (z : RestartState). need_of z i) same ∙ e))

same_held : (h k : Held) → k ≡ h → Keeps h.marks k.marks
same_held h k e = subst (λ (z : Held). Keeps h.marks z.marks) (sym e) (keeps h.marks)

pub runs_keep : OpenTell → (u v : World) (h k : Held) (i : RestartIntent) (x : RestartSent) (a : Answered) (said : RestartTold) → need_of h.marks i ≡ Ok x → Runs u h i x a said v k → Keeps h.marks k.marks
runs_keep law u v h k i sent.None a said lawful r = same_held h k r.held
runs_keep law u v h k i (sent.Command c) a said lawful r =
    subst (λ (z : Held). Keeps h.marks z.marks) (sym r.0.settles)
    (near_keeps h.marks (settled r.0.after i r.0.answer).marks (from_marks h r.0.after i (sent.Command c) r.0.answer (same_marks h r.0.after (is_hand h c) (lent_bytes r.0.after (is_hand h c)) r.0.gives.executed.back) lawful))
runs_keep law u v h k i sent.LogLength a said lawful r = calls law u.drive v.drive h k sent.LogLength a said r.0
runs_keep law u v h k i (sent.ReadLog at count) a said lawful r = calls law u.drive v.drive h k (sent.ReadLog at count) a said r.0
runs_keep law u v h k i (sent.CutLog long) a said lawful r = calls law u.drive v.drive h k (sent.CutLog long) a said r.0
runs_keep law u v h k i sent.AppendLog a said lawful r = calls law u.drive v.drive h k sent.AppendLog a said r.0
runs_keep law u v h k i (sent.ReadPage page) a said lawful r = calls law u.drive v.drive h k (sent.ReadPage page) a said r.0

pub opens_stay : OpenTell → OpensStay
opens_stay law u v h k x a e o = near_keeps e.after.marks k.marks (locals e.after.marks k.marks e.ends.0) (runs_keep law u v h e.after e.intent x a e.said e.lawful e.runs o)
