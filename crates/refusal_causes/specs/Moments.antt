-- The events of a run at which causes hold.
use Rattle.std.specs.Prelude.{◌≡◌, ◌⊎◌, ℕ, ◌-◌, ◌%◌, Bool, true, List, [], ◌∷◌, ◌++◌, length, Contains, Option, Some}
use Rattle.std.specs.List.{AllByRecursion}
use Rattle.ds_disk.specs.Contents.{Contents}
use Rattle.ds_model.specs.declared.fate.Fate.{Fate}
use Rattle.ds_model.specs.declared.fate.Fate.TheVariants as fate
use Rattle.ds_model.specs.declared.fate.Refusal.{Refusal}
use Rattle.ds_model.specs.declared.history.Entry.{Entry}
use Rattle.cache_structure.specs.Directory.{Directory}
use Rattle.member_marks.specs.State.{MarksState}
use Rattle.member_marks.specs.Local.{Reaches}
use Rattle.member_resources.specs.Held.{Held}
use Rattle.member_resources.specs.Events.{World, world_of}
use Rattle.script_fates.specs.declared.fates.Cause.{Cause}
use Rattle.ds_model.specs.declared.script.Tran.{Tran}
use Rattle.script_fates.specs.Fated.{FatesState, may_be_refused}
use Rattle.group_member.specs.declared.stepped.Stepped.{Stepped}
use Rattle.group_member.specs.Entering.{told_once}
use Rattle.group_member.specs.Happening.{Makes}
use Rattle.group_member.specs.Members.{Member}
use Rattle.group_core.specs.Given.{member_at}
use Rattle.group_core.specs.declared.group.Group.{Group}
use Rattle.group_core.specs.Takes.{Takes}
use Rattle.group_core.specs.Fresh.{RunsFresh}
use Rattle.refusal_causes.specs.Causes.{CauseHolds}

-- The member held this at some time in its event: the moves that its policy made in it led there, and on to what the member holds
-- behind it. Up to there they make an event too.
pub record Passes (m : Member) (w : World) (place : ℕ) (v : World) (n : Member) (s : MarksState) : Type 0 where
  pub stepped : Stepped
  pub here : Member
  pub makes : Makes m w place stepped v here
  pub is : here.holds.marks ≡ s
  pub left : Held
  pub goes_on : Reaches s left.marks
  pub told : n.holds ≡ told_once left

-- the world of a member in a group
abbrev pub world_in : {C D P : Type 0} → (C → Directory) → (D → Bool) → (D → Option Contents) → Group D C P → World
world_in {C} {D} {P} directory alive contents group = world_of directory alive contents group.crew.facility group.disk

-- The cause for which the transaction of this number is refused holds in this event of one of the members, whose place in the journal is how
-- long that is behind it.
pub record HoldsAt {C D P : Type 0} (directory : C → Directory) (alive : D → Bool) (contents : D → Option Contents) (old : Group D C P) (event : ℕ) (new : Group D C P) (number : ℕ) (why : Refusal) (named : ℕ) : Type 0 where
  pub before : Member
  pub after : Member
  pub was : member_at old.crew.parts.items (event % 64 - 1) ≡ Some before
  pub is : member_at new.crew.parts.items (event % 64 - 1) ≡ Some after
  pub cause : CauseHolds (world_in directory alive contents old).facility before.holds (Passes before (world_in directory alive contents old) (length new.journal.items) (world_in directory alive contents new) after) (length new.journal.items) number why named

-- it holds at an event of the journal, before which the run came to the one group, and behind it to the other
pub record HeldInRun {C D P : Type 0} (directory : C → Directory) (alive : D → Bool) (contents : D → Option Contents) (count : D → ℕ) (start : Group D C P) (journal : List ℕ) (last : Group D C P) (number : ℕ) (why : Refusal) (named : ℕ) : Type 0 where
  pub events : List ℕ
  pub event : ℕ
  pub rest : List ℕ
  pub before : Group D C P
  pub after : Group D C P
  pub splits : journal ≡ events ++ event ∷ rest
  pub leads : RunsFresh directory alive contents count start events before
  pub takes : Takes directory alive contents count before event after
  pub goes_on : RunsFresh directory alive contents count after rest last
  pub holds : HoldsAt directory alive contents before event after number why named

-- ---- fates

-- this place is told as that of the refusal's cause, which held there; and it may be refused for it
pub record IsCausedAt (K : ℕ → Refusal → ℕ → Type 0) (causes : List Cause) (tran : Tran) (why : Refusal) : Type 0 where
  pub place : ℕ
  pub told : Contains causes (record { number = tran.number; place = place })
  pub cause : K tran.number why place
  pub may : may_be_refused tran why ≡ true

-- a transaction that was refused has a cause that held, and its place is told
abbrev pub IsCaused : (ℕ → Refusal → ℕ → Type 0) → List Cause → Tran → Fate → Type 0
IsCaused K causes tran (fate.Committed answered reads) = Unit {0}
IsCaused K causes tran (fate.Refused why) = IsCausedAt K causes tran why
IsCaused K causes tran fate.Stopped = Unit {0}

abbrev pub HasCause : (ℕ → Refusal → ℕ → Type 0) → List Cause → Entry → Type 0
HasCause K causes e = IsCaused K causes e.tran e.fate

-- the transaction of this number was refused for this
abbrev pub WasRefused : List Entry → ℕ → Refusal → Type 0
WasRefused [] n why = ⊥
WasRefused (e ∷ es) n why = ((e.tran.number ≡ n) × (e.fate ≡ fate.Refused why)) ⊎ WasRefused es n why

-- the transaction was refused for what held, and this is the place that is told
pub record IsNamed (K : ℕ → Refusal → ℕ → Type 0) (entries : List Entry) (c : Cause) : Type 0 where
  pub why : Refusal
  pub refused : WasRefused entries c.number why
  pub cause : K c.number why c.place

-- each refused transaction has a cause that held where it is told, and each place that is told is that of one
pub record AllCaused (K : ℕ → Refusal → ℕ → Type 0) (f : FatesState) : Type 0 where
  pub entries : AllByRecursion (HasCause K f.causes) f.entries
  pub causes : AllByRecursion (IsNamed K f.entries) f.causes
