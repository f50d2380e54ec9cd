-- What a restart hands over has its claims.
use Rattle.std.proofs.Common.{◌≡◌, ℕ, ◌+◌, refl, sym, ◌∙◌, ap, subst, Bool, true, false, inl, inr, List, [], ◌∷◌, Option, Some, None}
use Rattle.std.specs.Prelude.{◌≢◌, ◌==◌, ◌&&◌, if◌then◌else◌, IfSome, is_some}
use Rattle.std.specs.List.{AllByRecursion}
use Rattle.std.proofs.lemmas.Bool.{cases_Bool}
use Rattle.ds_model.specs.declared.log.LogRecord.{LogRecord}
use Rattle.lock_names.specs.declared.mode.Mode.{Mode}
use Rattle.log_trans.specs.declared.opened.OpenTran.{OpenTran}
use Rattle.member_intents.specs.declared.outcome.Answered.{Answered}
use Rattle.restart_marks.specs.Adopt.{adopted_told}
use Rattle.restart_marks.specs.declared.intent.RestartSent.{RestartSent}
use Rattle.restart_marks.specs.State.{RestartState}
use Rattle.restart_records.specs.Trans.{opened_among}
use Rattle.restart_resources.specs.Events as event
use Rattle.restart_resources.specs.Events.{Happens}
use Rattle.restart_resources.specs.Held.{Held}
use Rattle.lock_protocol.specs.Machine.{World}
use Rattle.lock_world.specs.Rollbacks.{HasClaimed}
use Rattle.lock_world.specs.Views.{rollback_owner}
use Rattle.lock_restarts.specs.Changes.{gone_by}
use Rattle.lock_restarts.specs.Courses.{IsInOrder, RestartsFollow}
use Rattle.lock_restarts.specs.Stands.{Spares}
use Rattle.restart_law.specs.Opens.{ListGoes, ListsGo}
use Rattle.restart_law.specs.Reads.{AreLast, ReadsTrue}
use Rattle.restart_claims.specs.Claims.{ClaimsStay, OpensClaimed}
use Rattle.adopted_claims.specs.Rows.{AdoptedHave}
use Rattle.failed_logs.specs.Given.{Restarting}
use Rattle.failed_logs.specs.Given.{as_restarting}
use Rattle.failed_logs.specs.Given.{Member}
use Rattle.failed_logs.specs.Given.{HaveClaimed, rows_of}
use Rattle.failed_logs.specs.Given.{freed_world}
use Rattle.failed_logs.specs.Given.{MemberStands, RestartInHand, RestartStands}
use Rattle.claimed_logs.specs.Found.{AdoptionsFound, OpensFound, OpensKnown}
use Rattle.claimed_logs.proofs.Unread.{hands_nothing}

pub record Facts : Type 0 where
  pub lists : ListsGo
  pub follow : RestartsFollow
  pub stay : ClaimsStay
  pub have : AdoptedHave

never : true ≡ false → ⊥
never e = cc

-- ---- the names that the event hasn't freed
gone_or_not : (b c : Bool) (x : Option Mode) → c ≡ false → (if b && c then None else x) ≡ x
gone_or_not true true x e = absurd (never e)
gone_or_not true false x e = refl
gone_or_not false c x e = refl

pub freed_spares : (w : World) (m : ℕ) (x : RestartSent) → Spares w (freed_world w m x) m (gone_by x)
freed_spares w m x o c some own still = gone_or_not (m == m) (gone_by x c) (w.claims m o c) still

-- ---- as its member needs them
each_claimed : (w : World) (m : ℕ) (ts : List OpenTran) → AllByRecursion (λ (t : OpenTran). HasClaimed w m (rollback_owner t.id) (rows_of t)) ts → HaveClaimed w m ts
each_claimed w m [] h = tt
each_claimed w m (t ∷ ts) h = (h.0, each_claimed w m ts h.1)

-- ---- an event of a restart that knows this
found : Facts → (w z : World) (u v : event.World) (h k : Held) (x : RestartSent) (a : Answered) (m : ℕ) → Happens u h x a v k → IsInOrder h.marks → OpensKnown w h.marks → h.marks.member ≡ m
    → Spares w z m (gone_by x) → k.marks.is_up ≡ false → is_some (adopted_told k.marks) ≡ true → (b : Bool) → h.marks.own.is_read ≡ b → HaveClaimed z m (opened_among k.marks.trans.list)
found facts w z u v h k x a m e order known own spares on hands false was = absurd (hands_nothing u v h k x a e order was hands)
found facts w z u v h k x a m e order known own spares on hands true was =
    subst (λ (n : ℕ). HaveClaimed z n (opened_among k.marks.trans.list)) (member ∙ own) (each_claimed z k.marks.member (opened_among k.marks.trans.list) (facts.have there.bytes z k.marks claimed read on))
  where
    there : OpensFound w h.marks
    there = known.found was

    goes : ListGoes h.marks k.marks
    goes = facts.lists u v h k x a e known.stands

    member : k.marks.member ≡ h.marks.member
    member = (facts.follow u v h k x a e).member

    read : k.marks.own.is_read ≡ true
    read = goes.still_read was

    reads : ReadsTrue there.bytes k.marks
    reads = record {
      reading = λ unread. absurd (never (sym read ∙ unread));
      idle = λ unread. absurd (never (sym read ∙ unread));
      records = λ _. subst (λ (z : List LogRecord). AreLast there.bytes z) (sym (goes.records was)) there.last;
    }

    claimed : OpensClaimed there.bytes z k.marks
    claimed = facts.stay there.bytes w z u v h k x a e known.stands (λ _. there.few) order reads (subst (λ (n : ℕ). Spares w z n (gone_by x)) (sym own) spares) there.claimed

pub adoptions_found : Facts → AdoptionsFound
adoptions_found facts old new w t known at m n drive left place sent answered had made on hands =
    found facts w (freed_world w m.id sent) (as_restarting (record { facility = old.facility; drive = drive })) (as_restarting (record { facility = new.facility; drive = left })) before.resources made.makes.reached.resources sent answered m.id made.makes.makes.happens standing.order opens (standing.member ∙ sym stood.id)
    (freed_spares w m.id sent) on hands before.resources.marks.own.is_read refl
  where
    before : Restarting
    before = made.makes.makes.before

    there : m.restart ≡ Some before
    there = made.makes.makes.had

    stood : MemberStands old.facility (at + 1) m
    stood = subst (λ (z : Option Member). IfSome z (MemberStands old.facility (at + 1))) had (t.stands at)

    standing : RestartStands (at + 1) m before.resources.marks
    standing = subst (λ (z : Option Restarting). RestartInHand (at + 1) m z) there stood.restart

    opens : OpensKnown w before.resources.marks
    opens = subst (λ (z : Option Restarting). IfSome z (λ q. OpensKnown w q.resources.marks)) there
        (subst (λ (z : Option Member). IfSome z (λ (x : Member). IfSome x.restart (λ q. OpensKnown w q.resources.marks))) had (known at))
