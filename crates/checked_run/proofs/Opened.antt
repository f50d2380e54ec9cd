-- A disk that was opened, and what became of it.
use Rattle.std.proofs.Common.{◌≡◌, inl, inr, ℕ, ◌≤◌, Bool, List, Option, Some, None, Result, Ok, Err, refl, sym, subst, arith}
use Rattle.std.specs.Prelude.{IfOk, IsErrOf}
use Rattle.ds_base.specs.Causes.{Rose}
use Rattle.ds_base.specs.declared.row.Row.{Row}
use Rattle.ds_disk.specs.Contents.{Contents, WhenTold, Becomes, Same}
use Rattle.ds_model.specs.declared.script.Script.{Script}
use Rattle.ds_model.specs.declared.report.Report.{Report}
use Rattle.ds_model.specs.declared.history.Entry.{Entry}
use Rattle.ds_model.specs.Rows.{AreSorted}
use Rattle.disk_restart.specs.Keeping.{KeepsRecords}
use Rattle.opening_rows.specs.declared.opening.Opening.{Opening}
use Rattle.opening_rows.specs.declared.fault.LogsFault.{LogsFault}
use Rattle.opening_rows.specs.declared.fault.LogsFault.TheVariants as reading
use Rattle.opening_rows.specs.Reading.{HasDamage, ReadsBy}
use Rattle.opening_rows.specs.Opening.{OpensAs, OpensWith}
use Rattle.checked_run.specs.Back.{Holds, TellsDamage, ReadsBack, RoseTwice}
use Rattle.checked_run.specs.declared.ended.Outcome.{Outcome}
use Rattle.checked_run.specs.declared.ended.Outcome.TheVariants as outcome
use Rattle.checked_run.specs.declared.account.Account.{Account}
use Rattle.checked_run.specs.declared.ended.Ended.{Ended}
use Rattle.checked_run.specs.declared.ended.Ended.TheVariants as ended
use Rattle.checked_run.specs.Told.{IsTold, DiskStandsFor}
use Rattle.checked_run.specs.Refuted.{IsRefuted}
use Rattle.checked_run.specs.Settled.{Settles}
use Rattle.checked_run.specs.Leading.{ComesTo}
use Rattle.checked_run.specs.Outcomes.{IsOpening, HasCause, IsLeft, Comes, ComesFrom, ShowsRows, Shows}
use Rattle.group_core.specs.declared.fault.RunFault.{RunFault}
use Rattle.group_core.specs.declared.schedule.RunEnd.{RunEnd}

-- ---- logs that were read

pub holds : (before after : Option Contents) (P : Contents → Type 0) → WhenTold before P → Becomes before after Same → Becomes before after (Holds P)
holds None after P is same = tt
holds (Some c) None P is same = absurd same
holds (Some c) (Some d) P is same = (same, subst P (sym same) is)

pub damage : {T : Type 0} (before after : Option Contents) (n k : ℕ) (Is : T → Contents → Type 0) (result : Result T LogsFault) → ReadsBy before after n k Is HasDamage result → TellsDamage before after result
damage before after n k Is (Ok x) reads = tt
damage before after n k Is (Err reading.Failed) reads = tt
damage before after n k Is (Err (reading.Damaged member at)) reads = holds before after (HasDamage member at) (reads.damaged member at refl) reads.same
damage before after n k Is (Err reading.NoMemory) reads = tt

-- a reading that was done again
pub holds_again : (a b c : Option Contents) (P : Contents → Type 0) → Becomes a b Same → Becomes b c (Holds P) → Becomes a c (Holds P)
holds_again None b c P p q = tt
holds_again (Some x) None c P p q = absurd p
holds_again (Some x) (Some y) None P p q = q
holds_again (Some x) (Some y) (Some z) P p q = (subst (λ (v : Contents). z ≡ v) p q.0, q.1)

pub damage_again : {T : Type 0} (a b c : Option Contents) (result : Result T LogsFault) → Becomes a b Same → TellsDamage b c result → TellsDamage a c result
damage_again a b c (Ok x) same tells = tt
damage_again a b c (Err reading.Failed) same tells = tt
damage_again a b c (Err (reading.Damaged member at)) same tells = holds_again a b c (HasDamage member at) same tells
damage_again a b c (Err reading.NoMemory) same tells = tt

if_holds : {T : Type 0} (a b : Option Contents) (Is : T → Contents → Type 0) (result : Result T LogsFault) → IfOk result (λ x. WhenTold a (Is x)) → Becomes a b Same → IfOk result (λ x. Becomes a b (Holds (Is x)))
if_holds a b Is (Ok x) is same = holds a b (Is x) is same
if_holds a b Is (Err e) is same = tt

if_again : {T : Type 0} (a b c : Option Contents) (Is : T → Contents → Type 0) (result : Result T LogsFault) → Becomes a b Same → IfOk result (λ x. Becomes b c (Holds (Is x))) → IfOk result (λ x. Becomes a c (Holds (Is x)))
if_again a b c Is (Ok x) same is = holds_again a b c (Is x) same is
if_again a b c Is (Err e) same is = tt

opens_with : (was : Option Contents) (opening : Opening) → WhenTold was (λ c. OpensAs c opening) → WhenTold was (λ c. OpensWith c opening.rows)
opens_with None opening is = tt
opens_with (Some c) opening is = record { logs = is.logs; are = is.are; rows_are = is.is.rows_are }

-- ---- counts that go on

pub earlier : (a b c : ℕ) → a ≤ b → Rose b c → Rose a c
earlier a b c le rose = omega arith

earlier_twice : (a b c : ℕ) → a ≤ b → RoseTwice b c → RoseTwice a c
earlier_twice a b c le rose = omega arith

stands_earlier : (tells : Type 0) (n a b c : ℕ) (after : Option Contents) (opening : List Row) (history : List Entry) → a ≤ b → DiskStandsFor tells n b c after opening history → DiskStandsFor tells n a c after opening history
stands_earlier tells n a b c after opening history le it = record {
  whole = it.whole;
  failed = λ t not. it.failed t (λ twice. not (earlier_twice a b c le twice));
}

-- what is told from a later moment on is told from an earlier one on
told_earlier : (tells : Type 0) (script : Script) (traced : Bool) (opening : List Row) (a b c : ℕ) (after : Option Contents) (account : Account) → a ≤ b → (report : Report) → IsTold tells script traced opening b c after account report → IsTold tells script traced opening a c after account report
told_earlier tells script traced opening a b c after account le report it = record {
  status = it.status;
  cause = λ e. earlier a b c le (it.cause e);
  unfailed = it.unfailed;
  trace = it.trace;
  sound = record {
    history = it.sound.history;
    sound = it.sound.sound;
    tells = it.sound.tells;
    stands = stands_earlier tells report.status a b c after opening it.sound.history le it.sound.stands;
  };
}

refuted_earlier : (tells : Type 0) (script : Script) (opening : Opening) (printed : List Entry) (a b c : ℕ) (after : Option Contents) → a ≤ b → IsRefuted tells script opening printed b c after → IsRefuted tells script opening printed a c after
refuted_earlier tells script opening printed a b c after le it = elim it [
  | inl logs ↦ inl logs
  | inr alone ↦ inr (earlier_twice a b c le alone.0, alone.1)
]

pub settles_earlier : (tells : Type 0) (script : Script) (traced : Bool) (opening : Opening) (a b c : ℕ) (after : Option Contents) (account : Account) → a ≤ b → (end : RunEnd) (why : Option RunFault) (entries : List Entry) (out : Ended)
    → Settles tells script traced opening b c after account end why entries out → Settles tells script traced opening a c after account end why entries out
settles_earlier tells script traced opening a b c after account le end why entries (ended.Told report) it = record {
  told = told_earlier tells script traced opening.rows a b c after account le report it.told;
  entries_are = it.entries_are;
  played = it.played;
  whole = it.whole;
}
settles_earlier tells script traced opening a b c after account le end why entries (ended.Damaged volume at) it = tt
settles_earlier tells script traced opening a b c after account le end why entries (ended.Unsound event) it = elim it [
  | inl stuck ↦ inl stuck
  | inr said ↦ inr (said.0, (said.1.0, (said.1.1.0, (said.1.1.1.0, refuted_earlier tells script opening said.1.1.0 a b c after le said.1.1.1.1))))
]
settles_earlier tells script traced opening a b c after account le end why entries ended.NoMemory it = tt

shows_rows_earlier : (a b c : ℕ) (rows : List Row) → a ≤ b → (report : Report) → ShowsRows b c rows report → ShowsRows a c rows report
shows_rows_earlier a b c rows le report it = record { report_is = it.report_is; status = it.status; cause = λ e. earlier a b c le (it.cause e) }

pub shows_earlier : (a b c : ℕ) (rows : List Row) → a ≤ b → (out : Ended) → Shows b c rows out → Shows a c rows out
shows_earlier a b c rows le (ended.Told report) it = shows_rows_earlier a b c rows le report it
shows_earlier a b c rows le (ended.Damaged volume at) it = tt
shows_earlier a b c rows le (ended.Unsound event) it = it
shows_earlier a b c rows le ended.NoMemory it = tt

-- ---- the end to which a journal leads

pub came_as : (L M : RunEnd → Option RunFault → List Entry → Type 0) (S T : RunEnd → Option RunFault → List Entry → Ended → Type 0) (out : Ended)
    → ((end : RunEnd) (why : Option RunFault) (entries : List Entry) → L end why entries → M end why entries)
    → ((end : RunEnd) (why : Option RunFault) (entries : List Entry) → S end why entries out → T end why entries out) → ComesTo L S out → ComesTo M T out
came_as L M S T out f g it = elim it [
  | inl none ↦ inl none
  | inr came ↦ inr (record {
    end = came.end;
    why = came.why;
    entries = came.entries;
    leads = f came.end came.why came.entries came.leads;
    settles = g came.end came.why came.entries came.settles;
  })
]

-- ---- from the reading of the logs on

-- what an earlier moment had is kept where the disk isn't opened
pub left_on : ((a b e : Option Contents) → Becomes a b KeepsRecords → Becomes b e KeepsRecords → Becomes a e KeepsRecords) → (a b e : Option Contents) (o : Outcome) → Becomes a b KeepsRecords → IsLeft o b e → IsLeft o a e
left_on on a b e (outcome.Unopened why) first second = on a b e first second
left_on on a b e (outcome.Opened opening end) first second = tt

cause_earlier : (a b c : ℕ) (why : RunFault) → a ≤ b → HasCause b c why → HasCause a c why
cause_earlier a b c why le it = record { failed = λ e. earlier a b c le (it.failed e); lawful = it.lawful }

pub comes : (was : Option Contents) (before mid now : ℕ) (account : Account) (opening : Opening) (P Q : List Row → Ended → Type 0) (o : Outcome)
    → before ≤ mid → AreSorted opening.rows → WhenTold was (λ c. OpensAs c opening) → ((out : Ended) → P opening.rows out → Q opening.rows out)
    → ComesFrom opening.rows mid now account P o → Comes was before now account Q o
comes was before mid now account opening P Q (outcome.Unopened why) le sorted opens f it = (cause_earlier before mid now why le it.0, it.1)
comes was before mid now account opening P Q (outcome.Opened rows end) le sorted opens f it =
    let is : IsOpening was opening.rows = (sorted, opens_with was opening opens) in
    subst (λ (x : List Row). IsOpening was x × Q x end) (sym it.0) (is, f end it.1)
