-- What is left of the facility's conditions.
use Rattle.std.proofs.Common.{◌≡◌, sym, ap, subst, Result, Ok, Err}
use Rattle.facility.specs.Commands.{CanExecute}
use Rattle.member_intents.specs.declared.intent.Intent.{Intent}
use Rattle.member_intents.specs.declared.intent.Intent.TheVariants as intent
use Rattle.member_intents.specs.declared.outcome.Sent.{Sent}
use Rattle.member_intents.specs.declared.outcome.Sent.TheVariants as sent
use Rattle.member_intents.specs.declared.test.Test.{Test}
use Rattle.member_effects.specs.Given.{Plan, intent_plan, need_of}
use Rattle.needs_law.specs.Executing.{LawfulExecute}
use Rattle.needs_law.specs.Lawful.{Lawful, SendsLawfully}
use Rattle.member_resources.specs.declared.prepared.Prepared.{Prepared}
use Rattle.member_resources.specs.Events.{IsStopped, holder_in}
use Rattle.member_resources.specs.Held.{Held, begun}
use Rattle.member_resources.specs.Prepared.{Reserves, needed, setting_of}
use Rattle.rooms_stay.specs.Left.{IsRefusedRest, RefusalsTell}

-- ---- what is sent passed its tests
abbrev sent_in : Result Prepared Test → Result Sent Test
sent_in (Ok x) = Ok x.sent
sent_in (Err test) = Err test

needs_sent : (x : Result Sent Test) (y : Result Plan Test) (s : Sent) (p : Plan) → needed x y ≡ Ok (record { sent = s; plan = p }) → x ≡ Ok s
needs_sent (Err test) y s p e = absurd cc
needs_sent (Ok t) (Err test) s p e = absurd cc
needs_sent (Ok t) (Ok q) s p e = ap sent_in e

-- the memory that is taken changes no number
same_member : (i : Intent) (h k : Held) → Reserves i h k → k.marks.member ≡ h.marks.member
same_member intent.Step h k e = ap (λ (z : Held). z.marks.member) e
same_member (intent.Obtain o n m) h k e = ap (λ (z : Held). z.marks.member) e.2
same_member (intent.Grant o n m) h k e = ap (λ (z : Held). z.marks.member) e.2
same_member (intent.Ask o to n m) h k e = ap (λ (z : Held). z.marks.member) e
same_member (intent.Answers o n m asked) h k e = ap (λ (z : Held). z.marks.member) e
same_member (intent.Status member) h k e = ap (λ (z : Held). z.marks.member) e
same_member (intent.Take past) h k e = ap (λ (z : Held). z.marks.member) e
same_member (intent.Answer asker n m) h k e = ap (λ (z : Held). z.marks.member) e
same_member (intent.ReleaseLock o) h k e = ap (λ (z : Held). z.marks.member) e
same_member (intent.ReleasePage page) h k e = ap (λ (z : Held). z.marks.member) e
same_member (intent.Purge n) h k e = ap (λ (z : Held). z.marks.member) e
same_member (intent.End o) h k e = ap (λ (z : Held). z.marks.member) e
same_member (intent.Wait slot holder flag) h k e = ap (λ (z : Held). z.marks.member) e
same_member (intent.Unwait slot) h k e = ap (λ (z : Held). z.marks.member) e
same_member (intent.Waits slots) h k e = ap (λ (z : Held). z.marks.member) e
same_member (intent.Flag flag) h k e = ap (λ (z : Held). z.marks.member) e
same_member (intent.Raise flag) h k e = ap (λ (z : Held). z.marks.member) e
same_member intent.LoseCache h k e = ap (λ (z : Held). z.marks.member) e
same_member (intent.Read at) h k e = ap (λ (z : Held). z.marks.member) e
same_member (intent.ReadPage at) h k e = ap (λ (z : Held). z.marks.member) e
same_member (intent.Test at slot gives) h k e = ap (λ (z : Held). z.marks.member) e
same_member (intent.WritePage at) h k e = ap (λ (z : Held). z.marks.member) e
same_member (intent.Unregister at) h k e = ap (λ (z : Held). z.marks.member) e
same_member (intent.Change slot action frames) h k e = ap (λ (z : Held). z.marks.member) e
same_member (intent.Undo o at) h k e = ap (λ (z : Held). z.marks.member) e
same_member (intent.Commit slot) h k e = ap (λ (z : Held). z.marks.member) e
same_member intent.Append h k e = ap (λ (z : Held). z.marks.member) e
same_member (intent.NextChanged past) h k e = ap (λ (z : Held). z.marks.member) e
same_member (intent.CastoutRead page) h k e = ap (λ (z : Held). z.marks.member) e
same_member intent.CastoutWrite h k e = ap (λ (z : Held). z.marks.member) e
same_member intent.CastoutDone h k e = ap (λ (z : Held). z.marks.member) e
same_member intent.PhaseDone h k e = ap (λ (z : Held). z.marks.member) e

pub record Facts : Type 0 where
  pub lawful : SendsLawfully
  pub execute : LawfulExecute

pub refusals_tell : Facts → RefusalsTell
refusals_tell facts w v h i place room r = by r.sent r.stopped (needs_sent (need_of h.marks h.pages (setting_of h (holder_in w.facility h.cast) place) i) (intent_plan h.marks h.pages h.limit i) r.sent r.plan r.lawful)
  where
    by : (s : Sent) → IsStopped w (begun r.ready place) s v r.after → need_of h.marks h.pages (setting_of h (holder_in w.facility h.cast) place) i ≡ Ok s → IsRefusedRest w.facility h i place
    by sent.None stopped e = absurd stopped
    by (sent.Command c) stopped e =
        let may : Lawful h.marks h.pages (setting_of h (holder_in w.facility h.cast) place) i (sent.Command c) = facts.lawful h.marks h.pages (setting_of h (holder_in w.facility h.cast) place) i (sent.Command c) e in
        record {
          command = c;
          lawful = may;
          fails = λ left. stopped.0.cannot (subst (λ z. CanExecute w.facility z c) (sym (same_member i h r.ready r.reserves)) (facts.execute w.facility h.marks.member h.marks h.pages (setting_of h (holder_in w.facility h.cast) place) i c room may left));
        }
    by sent.AppendLog stopped e = absurd stopped
    by (sent.ReadPage page) stopped e = absurd stopped
    by (sent.WritePage page) stopped e = absurd stopped
