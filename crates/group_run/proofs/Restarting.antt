-- A call that lets nothing but group restarts write to the disk, and what it tells of damage.
use Rattle.std.proofs.Common.{◌≡◌, inl, inr, ℕ, Bool, true, false, cond, nat_eq, List, Option, Some, None, refl, sym, ap, subst, ◌∙◌}
use Rattle.ds_base.specs.declared.names.Volume.{Volume}
use Rattle.ds_base.specs.declared.row.Row.{Row}
use Rattle.ds_model.specs.declared.report.Report.{Report}
use Rattle.ds_disk.specs.Contents.{Contents, Becomes, Same}
use Rattle.checked_run.specs.Outcomes.{RunFault}
use Rattle.checked_run.specs.Outcomes.fault as fault
use Rattle.checked_run.specs.declared.ended.Ended.{Ended}
use Rattle.checked_run.specs.declared.ended.Ended.TheVariants as ending
use Rattle.checked_run.specs.declared.ended.Outcome.{Outcome}
use Rattle.checked_run.specs.declared.ended.Outcome.TheVariants as outcome
use Rattle.checked_run.specs.Restarted.{IfUnopened, IsLeftByRestarts, TellsDamageOf}
use Rattle.disk_orders.specs.declared.checks.Checked.{Checked}
use Rattle.disk_orders.specs.declared.checks.Checked.TheVariants as checked
use Rattle.group_words.specs.declared.order.Order.{Order}
use Rattle.group_words.specs.declared.order.Order.TheVariants as order
use Rattle.group_run.specs.declared.status.Status.{Status}
use Rattle.group_run.specs.declared.status.Status.TheVariants as status
use Rattle.group_run.specs.declared.prepare.Setting.{Setting}
use Rattle.group_run.specs.declared.prepare.Prepared.{Prepared}
use Rattle.group_run.specs.declared.prepare.Prepared.TheVariants as prepared
use Rattle.group_run.specs.declared.telling.Telling.{Telling}
use Rattle.group_run.specs.Prepares.{IsPrepared, IsPreparedToPlay, MetBySource, setting_of, table_to_copy, table_to_recover}
use Rattle.group_run.specs.Tellings.{short_telling, script_telling, met_by, telling_of, fault_status, checked_status, IsOrWanting, TellsOutcome}
use Rattle.group_run.specs.Ends.{RestartsAlone, Tells, TellsDamage}

-- ---- what tells of damage

fault_tells : (why : RunFault) (v : Volume) (at : ℕ) → TellsDamage (fault_status why) v at → why ≡ fault.Damaged v at
fault_tells fault.Failed v at e = let f : status.DiskFailed ≡ status.Damaged v at = e in cc
fault_tells (fault.Damaged u k) v at e = let f : status.Damaged u k ≡ status.Damaged v at = e in cc
fault_tells (fault.Unlawful place) v at e = let f : status.SelfCheckFailed place ≡ status.Damaged v at = e in cc
fault_tells fault.NoMemory v at e = let f : status.NoMemory ≡ status.Damaged v at = e in cc

report_tells : (is : Bool) (v : Volume) (at : ℕ) → cond is status.DiskFailed status.Done ≡ status.Damaged v at → ⊥
report_tells true v at e = let f : status.DiskFailed ≡ status.Damaged v at = e in cc
report_tells false v at e = let f : status.Done ≡ status.Damaged v at = e in cc

ended_tells : (work : Option ℕ) (end : Ended) (v : Volume) (at : ℕ) → TellsDamage (telling_of work end).status v at → end ≡ ending.Damaged v at
ended_tells work (ending.Told report) v at e = absurd (report_tells (nat_eq report.status 5) v at e)
ended_tells work (ending.Damaged u k) v at e = let f : status.Damaged u k ≡ status.Damaged v at = e in cc
ended_tells work (ending.Unsound event) v at e = let f : status.SelfCheckFailed event ≡ status.Damaged v at = e in cc
ended_tells work ending.NoMemory v at e = let f : status.NoMemory ≡ status.Damaged v at = e in cc

pub checked_tells : (came : Checked) (v : Volume) (at : ℕ) → TellsDamage (checked_status came) v at → ⊥
checked_tells (checked.Sound pages rows) v at e = let f : status.Sound pages rows ≡ status.Damaged v at = e in cc
checked_tells (checked.Unsound breach) v at e = let f : status.Unsound breach ≡ status.Damaged v at = e in cc
checked_tells checked.Failed v at e = let f : status.DiskFailed ≡ status.Damaged v at = e in cc
checked_tells checked.NoMemory v at e = let f : status.NoMemory ≡ status.Damaged v at = e in cc

pub wanting_tells : (v : Volume) (at : ℕ) → TellsDamage status.NoMemory v at → ⊥
wanting_tells v at e = let f : status.NoMemory ≡ status.Damaged v at = e in cc

-- it is what was to be told
pub wanted_tells : (wanted told : Telling) → IsOrWanting wanted told → (v : Volume) (at : ℕ) → TellsDamage told.status v at → TellsDamage wanted.status v at
wanted_tells wanted told is v at e = elim is [
  | inl same ↦ sym (ap (λ (t : Telling). t.status) same) ∙ e
  | inr none ↦ absurd (wanting_tells v at (sym (ap (λ (t : Telling). t.status) none) ∙ e))
]

pub outcome_tells : (work : Option ℕ) (o : Outcome) (opened : Bool) (opening : List Row) (t : Telling) → TellsOutcome work o opened opening t → (v : Volume) (at : ℕ) → TellsDamage t.status v at → TellsDamageOf o v at
outcome_tells work (outcome.Unopened why) opened opening t told v at e = fault_tells why v at (wanted_tells (short_telling (fault_status why)) t told.2 v at e)
outcome_tells work (outcome.Opened rows end) opened opening t told v at e = ended_tells work end v at (wanted_tells (telling_of work end) t told.2 v at e)

pub is_unopened : (work : Option ℕ) (o : Outcome) (opened : Bool) (opening : List Row) (t : Telling) (P : Type 0) → TellsOutcome work o opened opening t → opened ≡ false → IfUnopened o P → P
is_unopened work (outcome.Unopened why) opened opening t P told closed is = is
is_unopened work (outcome.Opened rows end) opened opening t P told closed is = let f : true ≡ false = sym told.0 ∙ closed in cc

-- the sink may have failed behind it
pub told_tells : (met ended : Status) (text : List ℕ) (taken taken_now : Option (List ℕ)) (f g : ℕ) → Tells met ended text taken taken_now f g → (v : Volume) (at : ℕ) → TellsDamage ended v at → TellsDamage met v at
told_tells met ended text taken taken_now f g told v at e =
    let other : ended ≡ status.SinkFailed → ⊥ = λ s. let clash : status.Damaged v at ≡ status.SinkFailed = sym e ∙ s in cc in
    sym (told.whole other).0 ∙ e

pub made_tells : (v : Volume) (at : ℕ) → TellsDamage status.Done v at → ⊥
made_tells v at e = let f : status.Done ≡ status.Damaged v at = e in cc

-- ---- what was written

pub same_self : (a : Option Contents) → Becomes a a Same
same_self None = tt
same_self (Some c) = refl

module _ {D : Type 0} (alive : D → Bool) (contents : D → Option Contents) where
  -- what is told of damage is no more than this
  pub left_as : (old new : D) (Tells Told : Volume → ℕ → Type 0) → ((v : Volume) (at : ℕ) → Told v at → Tells v at) → IsLeftByRestarts alive contents old Tells new → IsLeftByRestarts alive contents old Told new
  left_as old new Tells Told f is = elim is [
    | inl none ↦ inl (record { same = none.same; damaged = λ v at told. none.damaged v at (f v at told) })
    | inr some ↦ inr (record { came = some.came; run = some.run; named = λ v at told. some.named v at (f v at told) })
  ]

  -- nothing was written, and no damage is told of
  pub left_same : (old new : D) (Tells : Volume → ℕ → Type 0) → Becomes (contents old) (contents new) Same → ((v : Volume) (at : ℕ) → Tells v at → ⊥) → IsLeftByRestarts alive contents old Tells new
  left_same old new Tells same none = inl (record { same = same; damaged = λ v at tells. absurd (none v at tells) })

  pub left_by : (work : Option ℕ) (old new : D) (o : Outcome) (opened : Bool) (opening : List Row) (t : Telling) → TellsOutcome work o opened opening t → IsLeftByRestarts alive contents old (TellsDamageOf o) new → IsLeftByRestarts alive contents old (TellsDamage t.status) new
  left_by work old new o opened opening t told is = left_as old new (TellsDamageOf o) (TellsDamage t.status) (outcome_tells work o opened opening t told) is

  pub left_unopened : (work : Option ℕ) (old new : D) (o : Outcome) (opened : Bool) (opening : List Row) (t : Telling) → TellsOutcome work o opened opening t → IfUnopened o (IsLeftByRestarts alive contents old (TellsDamageOf o) new) → opened ≡ false
      → IsLeftByRestarts alive contents old (TellsDamage t.status) new
  left_unopened work old new o opened opening t told is closed =
      left_by work old new o opened opening t told (is_unopened work o opened opening t (IsLeftByRestarts alive contents old (TellsDamageOf o) new) told closed is)

-- ---- by what was prepared

-- no run opens where one may, no table is named, and a status that was met tells of no damage
abbrev pub IsAlone : Prepared → Bool → Type 0
IsAlone (prepared.Play script setting) opened = opened ≡ false
IsAlone prepared.Show opened = Unit {0}
IsAlone (prepared.Make n) opened = Unit {0}
IsAlone (prepared.Work n setting) opened = opened ≡ false
IsAlone prepared.Check opened = Unit {0}
IsAlone (prepared.Copy table) opened = ⊥
IsAlone (prepared.Recover table) opened = ⊥
IsAlone (prepared.Ended met) opened = (v : Volume) (at : ℕ) → TellsDamage met v at → ⊥

alone_play : (setting : Setting) (p : Prepared) (opened : Bool) (a b : Option (List ℕ)) (f g : ℕ) → IsPreparedToPlay setting p a b f g → opened ≡ false → IsAlone p opened
alone_play setting (prepared.Play script given) opened a b f g h closed = closed
alone_play setting prepared.Show opened a b f g h closed = tt
alone_play setting (prepared.Make n) opened a b f g h closed = tt
alone_play setting (prepared.Work n given) opened a b f g h closed = closed
alone_play setting prepared.Check opened a b f g h closed = tt
alone_play setting (prepared.Copy table) opened a b f g h closed = h
alone_play setting (prepared.Recover table) opened a b f g h closed = h
alone_play setting (prepared.Ended met) opened a b f g h closed = λ v at e. subst (λ (m : Status). MetBySource setting.sizes.members m a b f g) e h

refused_tells : (v : Volume) (at : ℕ) → TellsDamage status.WordsRefused v at → ⊥
refused_tells v at e = let f : status.WordsRefused ≡ status.Damaged v at = e in cc

pub alone : (o : Option Order) (p : Prepared) (opened : Bool) (a b : Option (List ℕ)) (f g : ℕ) → IsPrepared o p a b f g → RestartsAlone o opened → IsAlone p opened
alone None p opened a b f g h is = subst (λ (x : Prepared). IsAlone x opened) (sym h) refused_tells
alone (Some (order.Play sizes seed trace)) p opened a b f g h is = alone_play (setting_of sizes seed trace) p opened a b f g h is
alone (Some order.Show) p opened a b f g h is = subst (λ (x : Prepared). IsAlone x opened) (sym h) tt
alone (Some (order.Make n)) p opened a b f g h is = subst (λ (x : Prepared). IsAlone x opened) (sym h) tt
alone (Some (order.Work n sizes)) p opened a b f g h is = subst (λ (x : Prepared). IsAlone x opened) (sym h.0) is
alone (Some order.Check) p opened a b f g h is = subst (λ (x : Prepared). IsAlone x opened) (sym h) tt
alone (Some (order.Copy table)) p opened a b f g h is = absurd is
alone (Some (order.Recover table)) p opened a b f g h is = absurd is

pub alone_copies : (p : Prepared) (opened : Bool) (n : ℕ) → table_to_copy p ≡ Some n → IsAlone p opened → ⊥
alone_copies (prepared.Play script given) opened n e is = let f : None ≡ Some n = e in cc
alone_copies prepared.Show opened n e is = let f : None ≡ Some n = e in cc
alone_copies (prepared.Make k) opened n e is = let f : None ≡ Some n = e in cc
alone_copies (prepared.Work k given) opened n e is = let f : None ≡ Some n = e in cc
alone_copies prepared.Check opened n e is = let f : None ≡ Some n = e in cc
alone_copies (prepared.Copy table) opened n e is = is
alone_copies (prepared.Recover table) opened n e is = is
alone_copies (prepared.Ended met) opened n e is = let f : None ≡ Some n = e in cc

pub alone_recovers : (p : Prepared) (opened : Bool) (n : ℕ) → table_to_recover p ≡ Some n → IsAlone p opened → ⊥
alone_recovers (prepared.Play script given) opened n e is = let f : None ≡ Some n = e in cc
alone_recovers prepared.Show opened n e is = let f : None ≡ Some n = e in cc
alone_recovers (prepared.Make k) opened n e is = let f : None ≡ Some n = e in cc
alone_recovers (prepared.Work k given) opened n e is = let f : None ≡ Some n = e in cc
alone_recovers prepared.Check opened n e is = let f : None ≡ Some n = e in cc
alone_recovers (prepared.Copy table) opened n e is = is
alone_recovers (prepared.Recover table) opened n e is = is
alone_recovers (prepared.Ended met) opened n e is = let f : None ≡ Some n = e in cc
