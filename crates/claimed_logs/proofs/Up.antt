-- The log of a member that is up, behind an event of it.
use Rattle.std.proofs.Common.{◌≡◌, ℕ, ◌+◌, ◌≤◌, refl, sym, ◌∙◌, ap, subst, arith, Bool, true, false, inl, inr, List, [], ◌∷◌, ◌++◌, Option, Some, None}
use Rattle.std.specs.List.{AllByRecursion}
use Rattle.ds_model.specs.RecordBytes.{IsAllowed}
use Rattle.std.specs.Prelude.{◌≢◌, ◌⊎◌, ◌-◌, ◌&&◌, IfSome, nat_lt}
use Rattle.ds_disk.specs.Contents.{Becomes, Contents, log_of}
use Rattle.ds_model.specs.Rows.{Spot}
use Rattle.ds_model.specs.declared.log.LogRecord.{LogRecord}
use Rattle.facility.specs.States.{Held as Facility}
use Rattle.script_fates.specs.Fated.{FatesState}
use Rattle.log_appends.specs.Appends.{AreLastFrom}
use Rattle.log_numbers.specs.Numbers.{AreCounted, CommandsCount, CountedMore, CountedReach, CountedStay, ForwardReach, ForwardStay, RecordsAreNamed, RecordsName, StillCounted}
use Rattle.log_rows.specs.Rows.{has_changed, is_closed}
use Rattle.failed_logs.specs.Given.{SlotsStand}
use Rattle.member_intents.specs.declared.outcome.Answered.{Answered}
use Rattle.member_intents.specs.declared.outcome.Answered.TheVariants as answered
use Rattle.member_intents.specs.declared.outcome.Sent.{Sent}
use Rattle.member_trans.specs.declared.fate.Offer.{Offer}
use Rattle.member_trans.specs.declared.fate.Owner.{Owner}
use Rattle.member_trans.specs.declared.fate.Owner.TheVariants as owner
use Rattle.member_trans.specs.declared.fate.Refused.{Refused}
use Rattle.member_trans.specs.Trans.{TransState}
use Rattle.member_marks.specs.Local.{Reaches}
use Rattle.member_marks.specs.State.{MarksState, with_trans}
use Rattle.member_resources.specs.Events.{Drive, World}
use Rattle.member_resources.specs.Held.{Held, begun}
use Rattle.rebuild_resources.specs.declared.intent.RebuildIntent.{RebuildIntent}
use Rattle.rebuild_resources.specs.declared.intent.RebuildSent.{RebuildSent}
use Rattle.rebuild_resources.specs.declared.intent.RebuildSent.TheVariants as rebuild
use Rattle.rebuild_resources.specs.declared.told.RebuildTold.{RebuildTold}
use Rattle.rebuild_resources.specs.Events as rebuilding
use Rattle.rebuild_resources.specs.State.{RebuildState}
use Rattle.failed_logs.specs.Given.{HasLocked, IsTaken, name_of}
use Rattle.failed_logs.specs.Given.{IsUnfailed}
use Rattle.failed_logs.specs.Given.{RowsLocked}
use Rattle.failed_logs.specs.Given.{LockedReaches, LockedStay, LogLocked, LogStays, TellsLog, log_after, pend_after}
use Rattle.member_effects.specs.Puts.{event_records}
use Rattle.put_records.specs.Puts.{is_append, is_done}
use Rattle.failed_logs.specs.Given.{Restarting}
use Rattle.failed_logs.specs.Given.{Stepped}
use Rattle.failed_logs.specs.Given.stepped_variants as steps
use Rattle.failed_logs.specs.Given.{told_once}
use Rattle.failed_logs.specs.Given.{Acts, RebuildEnds, RebuildGoesOn, Rebuilds, Restarts, Steps}
use Rattle.failed_logs.specs.Given.{Member}
use Rattle.failed_logs.specs.Given.{is_failure}
use Rattle.group_logs.specs.Changes.{MadeGo}
use Rattle.group_logs.specs.Logs.{IsNumbered, LogGoes, OneGoes}
use Rattle.failed_logs.specs.Given.{ArePlain}
use Rattle.claimed_logs.specs.Logs.{FrontsAlike, LogBelow, UpLogged}
use Rattle.claimed_logs.specs.Steps.{StillLogged, UpStepsLogged}
use Rattle.claimed_logs.proofs.Alike.{Facts as AlikeFacts, fronts_forced, fronts_more}
use Rattle.claimed_logs.proofs.Forward.{all_below, below_after, forward_after, forward_on, puts_unclosed}
use Rattle.claimed_logs.specs.Commits.{commits_last}
use Rattle.claimed_logs.proofs.Commits.{event_last}

pub record Facts : Type 0 where
  pub alike : AlikeFacts
  pub event : CountedStay
  pub reach : CountedReach
  pub more : CountedMore
  pub commands : CommandsCount
  pub forward : ForwardStay
  pub reaches : ForwardReach
  pub names : RecordsAreNamed
  pub locked : LockedReaches
  pub stay : LockedStay
  pub made : MadeGo

never : true ≡ false → ⊥
never e = cc

-- ---- what an event is told, and what it tells, changes no row and no lock
abbrev telling : MarksState → List ℕ → Option Offer → Option Refused → Option ℕ → ℕ → MarksState
telling s decided offer refused done place = with_trans s (record s.trans { decided = decided; offer = offer; refused = refused; answered = done; place = place })

taken_still : (s : MarksState) (decided : List ℕ) (offer : Option Offer) (refused : Option Refused) (done : Option ℕ) (place : ℕ) (o : Owner) → IsTaken s o → IsTaken (telling s decided offer refused done place) o
taken_still s decided offer refused done place (owner.Slot slot) h = h
taken_still s decided offer refused done place (owner.Rollback id) h = h

named_still : (s : MarksState) (decided : List ℕ) (offer : Option Offer) (refused : Option Refused) (done : Option ℕ) (place : ℕ) (o : Owner) → name_of (telling s decided offer refused done place) o ≡ name_of s o
named_still s decided offer refused done place (owner.Slot slot) = refl
named_still s decided offer refused done place (owner.Rollback id) = refl

row_still : (s : MarksState) (decided : List ℕ) (offer : Option Offer) (refused : Option Refused) (done : Option ℕ) (place id : ℕ) (spot : Spot) (disk : List LogRecord)
    → (is_closed disk id ≡ true) ⊎ HasLocked s id spot → (is_closed disk id ≡ true) ⊎ HasLocked (telling s decided offer refused done place) id spot
row_still s decided offer refused done place id spot disk (inl e) = inl e
row_still s decided offer refused done place id spot disk (inr h) = inr (record {
  by = h.by;
  taken = taken_still s decided offer refused done place h.by h.taken;
  named = named_still s decided offer refused done place h.by ∙ h.named;
  space = h.space;
  row = h.row;
})

rows_still : (s : MarksState) (decided : List ℕ) (offer : Option Offer) (refused : Option Refused) (done : Option ℕ) (place : ℕ) (disk pend : List LogRecord) → RowsLocked disk pend s → RowsLocked disk pend (telling s decided offer refused done place)
rows_still s decided offer refused done place disk pend r = record {
  closes = record { spelled = r.closes.spelled; all = record { slots = r.closes.all.slots; rollbacks = r.closes.all.rollbacks; commits = r.closes.all.commits } };
  book = r.book;
  slots = record { count = r.slots.count; own = r.slots.own; commits = r.slots.commits };
  rows = λ id spot some changed. row_still s decided offer refused done place id spot disk (r.rows id spot some changed);
}

pub locked_still : (s : MarksState) (decided : List ℕ) (offer : Option Offer) (refused : Option Refused) (done : Option ℕ) (place : ℕ) (log : List ℕ) (pend : List LogRecord) → LogLocked log pend s → LogLocked log pend (telling s decided offer refused done place)
locked_still s decided offer refused done place log pend l = record {
  whole = l.whole;
  spelled = l.spelled;
  allowed = l.allowed;
  plain = l.plain;
  locked = λ start back last. rows_still s decided offer refused done place back pend (l.locked start back last);
}

pub counted_still : (s : MarksState) (decided : List ℕ) (offer : Option Offer) (refused : Option Refused) (done : Option ℕ) (place counter : ℕ) → AreCounted counter s → AreCounted counter (telling s decided offer refused done place)
counted_still s decided offer refused done place counter a = record { last = a.last; stable = a.stable; below = a.below; once = a.once; free = a.free }

begun_logged : (log : List ℕ) (counter : ℕ) (h : Held) (place : ℕ) → UpLogged log counter h.marks → UpLogged log counter (begun h place).marks
begun_logged log counter h place l = record {
  pend = l.pend;
  locked = locked_still h.marks [] None None None place log l.pend l.locked;
  counted = counted_still h.marks [] None None None place counter l.counted;
  alike = l.alike;
  forward = record { below = l.forward.below; unclosed = l.forward.unclosed };
}

told_logged : (log : List ℕ) (counter : ℕ) (h : Held) → UpLogged log counter h.marks → UpLogged log counter (told_once h).marks
told_logged log counter h l = record {
  pend = l.pend;
  locked = locked_still h.marks h.marks.trans.decided h.marks.trans.offer None None h.marks.trans.place log l.pend l.locked;
  counted = counted_still h.marks h.marks.trans.decided h.marks.trans.offer None None h.marks.trans.place counter l.counted;
  alike = l.alike;
  forward = record { below = l.forward.below; unclosed = l.forward.unclosed };
}

-- ---- its own event
pub is_unfailed : (a : Answered) → is_failure a ≡ false → IsUnfailed a
is_unfailed answered.None e = tt
is_unfailed (answered.Reply reply) e = tt
is_unfailed answered.Done e = tt
is_unfailed answered.Failed e = absurd (never e)

rest_all : (xs ys : List LogRecord) → ArePlain (xs ++ ys) → ArePlain ys
rest_all [] ys h = h
rest_all (x ∷ xs) ys h = rest_all xs ys h.1

fronts_after : AlikeFacts → (b : Bool) (log : List ℕ) (pend new : List LogRecord) (s t : MarksState) → LogLocked log pend s → AllByRecursion IsAllowed new → commits_last new ≡ true
    → ((start : ℕ) (back : List LogRecord) → AreLastFrom log start back → (id : ℕ) (spot : Spot) → id ≢ 0 → has_changed new id spot ≡ true → is_closed (back ++ pend) id ≡ false)
    → LogLocked (log_after b log pend) (pend_after b pend new) t → FrontsAlike log pend → FrontsAlike (log_after b log pend) (pend_after b pend new)
fronts_after facts true log pend new s t l allowed ordered unclosed now alike = fronts_forced facts log pend alike
fronts_after facts false log pend new s t l allowed ordered unclosed now alike =
    fronts_more facts log pend new l.whole l.allowed allowed l.plain (rest_all pend new now.plain) ordered unclosed alike

own_still : Facts → (log : List ℕ) (m mid : Member) (u v : World) (place : ℕ) (s : Sent) (a : Answered) → Acts m u place s a v mid → is_failure a ≡ false → TellsLog log u.drive m.holds.marks.member
    → LogBelow u.facility.counter log → UpLogged log u.facility.counter m.holds.marks → StillLogged v.drive u.facility.counter v.facility.counter mid.holds.marks
own_still facts log m mid u v place s a e ok tells low l = subst (λ (z : Member). StillLogged v.drive u.facility.counter v.facility.counter z.holds.marks) (sym e.member)
    (record {
      log = log_after (is_done a && is_append e.intent) log l.pend;
      tells = still.tells;
      logged = record {
        pend = pend_after (is_done a && is_append e.intent) l.pend (event_records (begun e.happens.ready place).marks e.intent e.happens.plan a);
        locked = still.locked;
        counted = counted.counted;
        alike = fronts_after facts.alike (is_done a && is_append e.intent) log l.pend (event_records (begun e.happens.ready place).marks e.intent e.happens.plan a) m.holds.marks e.after.marks l.locked e.happens.allowed
            (event_last (begun e.happens.ready place).marks e.intent e.happens.plan a)
            (puts_unclosed log l.pend (event_records (begun e.happens.ready place).marks e.intent e.happens.plan a) u.facility.counter v.facility.counter m.holds.marks e.after.marks low l.forward named) still.locked l.alike;
        forward = forward_after log l.pend (event_records (begun e.happens.ready place).marks e.intent e.happens.plan a) u.facility.counter v.facility.counter m.holds.marks e.after.marks low l.forward named facts.alike (is_done a && is_append e.intent)
            l.locked.whole l.locked.allowed l.locked.plain counted.rises (facts.forward u v m.holds e.after e.intent place s a e.happens);
      };
      rises = counted.rises;
      below = below_after log l.pend (event_records (begun e.happens.ready place).marks e.intent e.happens.plan a) u.facility.counter v.facility.counter m.holds.marks e.after.marks low l.forward named facts.alike (is_done a && is_append e.intent)
          l.locked.whole l.locked.allowed l.locked.plain counted.rises;
    })
  where
    still : LogStays (is_done a && is_append e.intent) log l.pend (event_records (begun e.happens.ready place).marks e.intent e.happens.plan a) v.drive e.after.marks
    still = facts.stay log l.pend u v m.holds e.after e.intent place s a e.happens (is_unfailed a ok) l.counted.stable tells l.locked

    named : RecordsName u.facility.counter v.facility.counter m.holds.marks e.after.marks (event_records (begun e.happens.ready place).marks e.intent e.happens.plan a)
    named = facts.names u v m.holds e.after e.intent place s a e.happens l.counted

    counted : StillCounted u.facility v.facility e.after.marks
    counted = facts.event u v m.holds e.after e.intent place s a e.happens l.counted

-- ---- that of its rebuild
at_most : (n k : ℕ) → k ≡ n → n ≤ k
at_most n k e = omega (arith, e)

pub rebuild_rises : CommandsCount → (w v : rebuilding.World) (h k : RebuildState) (i : RebuildIntent) (s : RebuildSent) (a : Answered) (said : RebuildTold) → rebuilding.Runs w h i s a said v k → w.facility.counter ≤ v.facility.counter
rebuild_rises law w v h k i rebuild.None a said e = at_most w.facility.counter v.facility.counter (ap (λ (z : rebuilding.World). z.facility.counter) e.world)
rebuild_rises law w v h k i (rebuild.Command c) a said e = law w.facility v.facility h.member c h.page e.0.after.page e.0.answer e.0.gives.executes
rebuild_rises law w v h k i (rebuild.LogLength member) a said e = at_most w.facility.counter v.facility.counter (ap (λ (z : Facility). z.counter) e.1)
rebuild_rises law w v h k i (rebuild.ReadLog member at count) a said e = at_most w.facility.counter v.facility.counter (ap (λ (z : Facility). z.counter) e.1)
rebuild_rises law w v h k i (rebuild.ReadPage page) a said e = at_most w.facility.counter v.facility.counter (ap (λ (z : Facility). z.counter) e.1)
rebuild_rises law w v h k i (rebuild.WritePage page) a said e = at_most w.facility.counter v.facility.counter (ap (λ (z : Facility). z.counter) e.1)

-- the disk tells the same log
told_same : (log : List ℕ) (member : ℕ) (u v : Drive) (Goes : List ℕ → List ℕ → Type 0) → ((old new : List ℕ) → Goes old new → new ≡ old) → TellsLog log u member → Becomes u.contents v.contents (OneGoes member Goes) → TellsLog log v member
told_same log member u v Goes stays tells goes = by v.contents refl (subst (λ (z : Option Contents). Becomes z v.contents (OneGoes member Goes)) tells.told goes)
  where
    by : (o : Option Contents) → v.contents ≡ o → Becomes (Some tells.contents) o (OneGoes member Goes) → TellsLog log v member
    by None is h = absurd h
    by (Some d) is h = record {
      contents = d;
      told = is;
      there = ap (λ (z : ℕ). nat_lt (member - 1) z) h.count ∙ tells.there;
      bytes = stays (log_of tells.contents.logs member) (log_of d.logs member) (h.own tells.there) ∙ tells.bytes;
    }

rebuild_still : Facts → (log : List ℕ) (m mid : Member) (u v : World) (place : ℕ) (s : RebuildSent) (a : Answered) → (e : Rebuilds m u place s a v mid) → RebuildGoesOn e.reached m place mid → m.restart ≡ None → 1 ≤ m.holds.marks.member
    → mid.holds.marks.member ≡ m.holds.marks.member → TellsLog log u.drive m.holds.marks.member → LogBelow u.facility.counter log → UpLogged log u.facility.counter m.holds.marks → StillLogged v.drive u.facility.counter v.facility.counter mid.holds.marks
rebuild_still facts log m mid u v place s a e on rests one same tells low l = record {
  log = log;
  tells = subst (λ (k : ℕ). TellsLog log v.drive k) (sym same) told;
  rises = rises;
  below = λ start back last. all_below u.facility.counter v.facility.counter back rises (low start back last);
  logged = subst (λ (z : Member). UpLogged log v.facility.counter z.holds.marks) (sym on.member) (record {
    pend = now.pend;
    locked = facts.locked log now.pend (begun m.holds place).marks on.after.marks on.tells.0 now.locked;
    counted = facts.more u.facility.counter v.facility.counter on.after.marks rises (facts.reach u.facility.counter (begun m.holds place).marks on.after.marks on.tells.0 now.counted);
    alike = now.alike;
    forward = forward_on log now.pend u.facility.counter v.facility.counter (begun m.holds place).marks on.after.marks rises (facts.reaches (begun m.holds place).marks on.after.marks on.tells.0) now.forward;
  });
}
  where
    now : UpLogged log u.facility.counter (begun m.holds place).marks
    now = begun_logged log u.facility.counter m.holds place l

    rises : u.facility.counter ≤ v.facility.counter
    rises = rebuild_rises facts.commands _ _ e.makes.before.resources e.reached.resources e.makes.happens.intent s a e.makes.happens.said e.makes.happens.runs

    numbered : IsNumbered m.holds.marks.member m
    numbered = record { own = refl; restart = subst (λ (z : Option Restarting). IfSome z (λ q. q.resources.marks.member ≡ m.holds.marks.member)) (sym rests) tt }

    told : TellsLog log v.drive m.holds.marks.member
    told = told_same log m.holds.marks.member u.drive v.drive (LogGoes m (steps.Rebuild s a)) (λ old new q. q) tells (facts.made m.holds.marks.member m mid u v place (steps.Rebuild s a) e one numbered)

-- ---- any event
entered : (m n : Member) (drive : Drive) (before counter : ℕ) → n ≡ record m { holds = told_once m.holds } → StillLogged drive before counter m.holds.marks → StillLogged drive before counter n.holds.marks
entered m n drive before counter e h = subst (λ (z : Member). StillLogged drive before counter z.holds.marks) (sym e) (record { log = h.log; tells = h.tells; logged = told_logged h.log counter m.holds h.logged; rises = h.rises; below = h.below })

no_restart : (x : Option Restarting) (q : Restarting) → x ≡ None → x ≡ Some q → ⊥
no_restart x q none some = cc

pub up_steps : Facts → UpStepsLogged
up_steps facts log m n u v f g place (steps.Sent s a) made ok rests one same tells low l =
    entered made.mid n v.drive u.facility.counter v.facility.counter made.enters.member
    (own_still facts log m made.mid u v place s a made.makes ok tells low l)
up_steps facts log m n u v f g place (steps.Restart s a) made ok rests one same tells low l = absurd (no_restart m.restart made.makes.makes.before rests made.makes.makes.had)
up_steps facts log m n u v f g place (steps.Rebuild s a) made ok rests one same tells low l =
    entered made.mid n v.drive u.facility.counter v.facility.counter made.enters.member
    (rebuild_still facts log m made.mid u v place s a made.makes (subst (λ (b : Bool). RebuildEnds b made.makes.reached m place made.mid) ok made.makes.ends) rests one
    (sym (ap (λ (z : Member). z.holds.marks.member) made.enters.member) ∙ same) tells low l)
up_steps facts log m n u v f g place steps.Failed made ok rests one same tells low l = absurd made.makes
