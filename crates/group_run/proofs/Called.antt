-- What was prepared, or what became of a disk, is what a call meets.
use Rattle.std.proofs.Common.{◌≡◌, ◌⊎◌, inl, inr, ℕ, Bool, true, false, cond, nat_eq, List, [], Option, Some, None, refl, sym, ap, subst, ◌∙◌}
use Rattle.std.specs.Io.KnownBytes.{Appends}
use Rattle.ds_base.specs.declared.row.Row.{Row}
use Rattle.ds_disk.specs.Contents.{Contents, Becomes, Same}
use Rattle.ds_base.specs.declared.names.Sizes.{Sizes}
use Rattle.ds_model.specs.declared.script.Script.{Script}
use Rattle.ds_model.specs.declared.report.Report.{Report}
use Rattle.ds_model.specs.ScriptText.{script_text}
use Rattle.work_maker.specs.Made.{made}
use Rattle.checked_run.specs.Outcomes.fault as fault
use Rattle.checked_run.specs.declared.ended.Ended.{Ended}
use Rattle.checked_run.specs.declared.ended.Ended.TheVariants as ending
use Rattle.checked_run.specs.declared.ended.Outcome.{Outcome}
use Rattle.checked_run.specs.declared.ended.Outcome.TheVariants as outcome
use Rattle.checked_run.specs.Accounts.{no_account}
use Rattle.checked_run.specs.Leading.{Kind}
use Rattle.checked_run.specs.declared.account.Account.{Account}
use Rattle.checked_run.specs.Outcomes.{IsOpening, HasCause, Comes, RunFault, Shows}
use Rattle.disk_orders.specs.Checks.{Holds, IsChecked}
use Rattle.disk_orders.specs.declared.checks.Checked.{Checked}
use Rattle.disk_orders.specs.declared.checks.Checked.TheVariants as checked
use Rattle.group_words.specs.declared.order.Order.{Order}
use Rattle.group_words.specs.declared.order.Order.TheVariants as order
use Rattle.group_run.specs.declared.status.Status.{Status}
use Rattle.group_run.specs.declared.status.Status.TheVariants as status
use Rattle.group_run.specs.declared.prepare.Setting.{Setting}
use Rattle.group_run.specs.declared.prepare.Prepared.TheVariants as prepared
use Rattle.group_run.specs.declared.telling.Telling.{Telling}
use Rattle.group_run.specs.Outside.{Outside, DiskIsUntouched}
use Rattle.group_run.specs.Prepares.{IsPrepared, ReadsNothing, setting_of}
use Rattle.group_run.specs.Reports.{empty_report}
use Rattle.group_run.specs.Statuses.{short_text}
use Rattle.group_run.specs.Read.{IsRead}
use Rattle.group_run.specs.Tellings.{short_telling, script_telling, met_by, told_text, telling_of, fault_status, checked_status, IsOrWanting, TellsOutcome}
use Rattle.group_run.specs.Ends.{MetByDisk, MetByCheck, MetBy, RunsTo, PlaysFrom, RanBy, work_of, run_text, text_for, text_by, TouchesNoDisk, WritesNothing, PlaysNothing, Tells, Meets, Works, Checks}

-- ---- a call that opened no disk

no_text : (o : Option Order) → [] ≡ text_for o status.NoMemory
no_text None = refl
no_text (Some (order.Play sizes seed trace)) = refl
no_text (Some order.Show) = refl
no_text (Some (order.Make n)) = refl
no_text (Some (order.Work n sizes)) = refl
no_text (Some order.Check) = refl
no_text (Some (order.Copy table)) = refl
no_text (Some (order.Recover table)) = refl

as_before : (a b : Option Contents) → b ≡ a → Becomes a b Same
as_before None b e = tt
as_before (Some c) None e = cc
as_before (Some c) (Some d) e = cc

-- where no call of the disk was made, what it tells is as before
pub unmoved : (before after : Outside) → DiskIsUntouched before after → Becomes before.contents after.contents Same
unmoved before after untouched = as_before before.contents after.contents untouched.0

-- a status was met, and no disk opened
meets_short : (kind : Kind) (o : Option Order) (before after : Outside) (met : Status) (text : List ℕ) (n : ℕ)
    → ((met ≡ status.NoMemory → ⊥) → MetBy o met before after) → text ≡ text_for o met → (TouchesNoDisk o → DiskIsUntouched before after) → (WritesNothing o → Becomes before.contents after.contents Same) → (ReadsNothing o → after.left ≡ before.left)
    → Meets kind o before after met text false [] no_account (empty_report n)
meets_short kind o before after met text n is its untouched unwritten unread = record {
  ran = λ e. let f : false ≡ true = e in cc;
  short = λ e not. is not;
  text_is = its;
  opens = λ e. let f : false ≡ true = e in cc;
  unopened = λ e. (refl, (refl, refl));
  unfailed = λ done. refl;
  unplayed = λ none. refl;
  untouched = untouched;
  unwritten = unwritten;
  unread = unread;
}

pub meets_wanting : (kind : Kind) (o : Option Order) (before after : Outside) → (TouchesNoDisk o → DiskIsUntouched before after) → (WritesNothing o → Becomes before.contents after.contents Same) → (ReadsNothing o → after.left ≡ before.left)
    → Meets kind o before after status.NoMemory [] false [] no_account (empty_report 6)
meets_wanting kind o before after untouched unwritten unread = meets_short kind o before after status.NoMemory [] 6 (λ not. absurd (not refl)) (no_text o) untouched unwritten unread

-- what is told where no disk opened
abbrev pub MeetsUnopened : Kind → Option Order → Outside → Outside → Telling → Type 0
MeetsUnopened kind o before after t = Meets kind o before after t.status t.text false [] no_account t.report

meets_or_wanting : (kind : Kind) (o : Option Order) (before after : Outside) (wanted told : Telling) → (TouchesNoDisk o → DiskIsUntouched before after) → (WritesNothing o → Becomes before.contents after.contents Same) → (ReadsNothing o → after.left ≡ before.left)
    → MeetsUnopened kind o before after wanted → IsOrWanting wanted told → MeetsUnopened kind o before after told
meets_or_wanting kind o before after wanted told untouched unwritten unread meets is = elim is [
  | inl e ↦ subst (MeetsUnopened kind o before after) (sym e) meets
  | inr e ↦ subst (MeetsUnopened kind o before after) (sym e) (meets_wanting kind o before after untouched unwritten unread)
]

-- ---- by what was prepared

met_by_order : (o : Option Order) (met : Status) (before after : Outside) → IsPrepared o (prepared.Ended met) before.left after.left before.source_faults after.source_faults → DiskIsUntouched before after → MetBy o met before after
met_by_order None met before after h untouched = cc
met_by_order (Some (order.Play sizes seed trace)) met before after h untouched = inl (h, untouched)
met_by_order (Some order.Show) met before after h untouched = let f : prepared.Ended met ≡ prepared.Show = h in cc
met_by_order (Some (order.Make n)) met before after h untouched = let f : prepared.Ended met ≡ prepared.Make n = h in cc
met_by_order (Some (order.Work n sizes)) met before after h untouched = let f : prepared.Ended met ≡ prepared.Work n (setting_of sizes (Some n) false) = h.0 in cc
met_by_order (Some order.Check) met before after h untouched = let f : prepared.Ended met ≡ prepared.Check = h in cc
met_by_order (Some (order.Copy table)) met before after h untouched = let f : prepared.Ended met ≡ prepared.Copy table = h in cc
met_by_order (Some (order.Recover table)) met before after h untouched = let f : prepared.Ended met ≡ prepared.Recover table = h in cc

text_by_order : (o : Option Order) (met : Status) (a b : Option (List ℕ)) (f g : ℕ) → IsPrepared o (prepared.Ended met) a b f g → short_text met ≡ text_for o met
text_by_order None met a b f g h = refl
text_by_order (Some (order.Play sizes seed trace)) met a b f g h = refl
text_by_order (Some order.Show) met a b f g h = refl
text_by_order (Some (order.Make n)) met a b f g h = let f : prepared.Ended met ≡ prepared.Make n = h in cc
text_by_order (Some (order.Work n sizes)) met a b f g h = let f : prepared.Ended met ≡ prepared.Work n (setting_of sizes (Some n) false) = h.0 in cc
text_by_order (Some order.Check) met a b f g h = refl
text_by_order (Some (order.Copy table)) met a b f g h = refl
text_by_order (Some (order.Recover table)) met a b f g h = refl

pub ended : (kind : Kind) (o : Option Order) (before after : Outside) (met : Status) (told : Telling)
    → IsPrepared o (prepared.Ended met) before.left after.left before.source_faults after.source_faults → DiskIsUntouched before after → (ReadsNothing o → after.left ≡ before.left)
    → IsOrWanting (short_telling met) told → MeetsUnopened kind o before after told
ended kind o before after met told h untouched unread is =
    let meets : MeetsUnopened kind o before after (short_telling met) =
    meets_short kind o before after met (short_text met) _ (λ not. met_by_order o met before after h untouched) (text_by_order o met before.left after.left before.source_faults after.source_faults h) (λ t. untouched) (λ w. unmoved before after untouched) unread in
    meets_or_wanting kind o before after (short_telling met) told (λ t. untouched) (λ w. unmoved before after untouched) unread meets is

same_number : (n k : ℕ) → prepared.Make n ≡ prepared.Make k → n ≡ k
same_number n k e = cc

made_by : (o : Option Order) (n : ℕ) (before after : Outside) → IsPrepared o (prepared.Make n) before.left after.left before.source_faults after.source_faults → MetBy o status.Done before after × (script_text (made n) ≡ text_for o status.Done)
made_by None n before after h = let f : prepared.Make n ≡ prepared.Ended status.WordsRefused = h in cc
made_by (Some (order.Play sizes seed trace)) n before after h = absurd h
made_by (Some order.Show) n before after h = let f : prepared.Make n ≡ prepared.Show = h in cc
made_by (Some (order.Make k)) n before after h = (refl, ap (λ i. script_text (made i)) (same_number n k h))
made_by (Some (order.Work k sizes)) n before after h = let f : prepared.Make n ≡ prepared.Work k (setting_of sizes (Some k) false) = h.0 in cc
made_by (Some order.Check) n before after h = let f : prepared.Make n ≡ prepared.Check = h in cc
made_by (Some (order.Copy table)) n before after h = let f : prepared.Make n ≡ prepared.Copy table = h in cc
made_by (Some (order.Recover table)) n before after h = let f : prepared.Make n ≡ prepared.Recover table = h in cc

pub is_made : (kind : Kind) (o : Option Order) (before after : Outside) (n : ℕ) (told : Telling)
    → IsPrepared o (prepared.Make n) before.left after.left before.source_faults after.source_faults → DiskIsUntouched before after → (ReadsNothing o → after.left ≡ before.left)
    → IsOrWanting (script_telling n) told → MeetsUnopened kind o before after told
is_made kind o before after n told h untouched unread is =
    let by = made_by o n before after h in
    let meets : MeetsUnopened kind o before after (script_telling n) = meets_short kind o before after status.Done (script_text (made n)) 0 (λ not. by.0) by.1 (λ t. untouched) (λ w. unmoved before after untouched) unread in
    meets_or_wanting kind o before after (script_telling n) told (λ t. untouched) (λ w. unmoved before after untouched) unread meets is

-- ---- by what became of a disk

disk_met : (why : RunFault) (before after : Outside) → HasCause before.disk_faults after.disk_faults why → MetByDisk (fault_status why) before after
disk_met fault.Failed before after cause = cause.failed refl
disk_met (fault.Damaged volume at) before after cause = tt
disk_met (fault.Unlawful place) before after cause = cause.lawful place refl
disk_met fault.NoMemory before after cause = tt

-- a report of which this is known has one of two statuses
abbrev pub HasStatus : (Ended → Type 0) → Type 0
HasStatus Keeps = (report : Report) → Keeps (ending.Told report) → (report.status ≡ 0) ⊎ (report.status ≡ 5)

runs_told : (Keeps : Ended → Type 0) (report : Report) → HasStatus Keeps → Keeps (ending.Told report) → RunsTo Keeps (met_by report) report
runs_told Keeps report has it = elim (has report it) [
  | inl zero ↦ subst (λ n. RunsTo Keeps (cond (nat_eq n 5) status.DiskFailed status.Done) report) (sym zero) (it, zero)
  | inr five ↦ subst (λ n. RunsTo Keeps (cond (nat_eq n 5) status.DiskFailed status.Done) report) (sym five) (it, five)
]

runs_to : (Keeps : Ended → Type 0) (work : Option ℕ) (e : Ended) → HasStatus Keeps → Keeps e → (let t : Telling = telling_of work e in RunsTo Keeps t.status t.report)
runs_to Keeps work (ending.Told report) has it = runs_told Keeps report has it
runs_to Keeps work (ending.Damaged volume at) has it = (it, refl)
runs_to Keeps work (ending.Unsound event) has it = (it, refl)
runs_to Keeps work ending.NoMemory has it = refl

-- where the call is done, no call of the disk failed in the run
abbrev pub IsUnfailed : (Ended → Type 0) → Account → Type 0
IsUnfailed Keeps account = (report : Report) → Keeps (ending.Told report) → report.status ≡ 0 → account.faults ≡ []

unfailed : (Keeps : Ended → Type 0) (account : Account) (met : Status) (report : Report) → IsUnfailed Keeps account → RunsTo Keeps met report → met ≡ status.Done → account.faults ≡ []
unfailed Keeps account status.Done report is runs e = is report runs.0 runs.1
unfailed Keeps account status.WordsRefused report is runs e = absurd runs
unfailed Keeps account (status.ScriptRefused fault) report is runs e = absurd runs
unfailed Keeps account status.SourceFailed report is runs e = absurd runs
unfailed Keeps account status.SinkFailed report is runs e = absurd runs
unfailed Keeps account status.DiskFailed report is runs e = cc
unfailed Keeps account status.NoMemory report is runs e = cc
unfailed Keeps account (status.Damaged volume at) report is runs e = cc
unfailed Keeps account (status.Sound pages rows) report is runs e = absurd runs
unfailed Keeps account (status.Unsound breach) report is runs e = absurd runs
unfailed Keeps account (status.Recovered table pages) report is runs e = absurd runs
unfailed Keeps account (status.ImageRefused at) report is runs e = absurd runs
unfailed Keeps account (status.SelfCheckFailed event) report is runs e = cc

text_when : (work : Option ℕ) (b : Bool) (report : Report) → told_text work report ≡ run_text work (cond b status.DiskFailed status.Done) report
text_when work true report = refl
text_when work false report = refl

run_told : (work : Option ℕ) (e : Ended) → (let t : Telling = telling_of work e in t.text ≡ run_text work t.status t.report)
run_told work (ending.Told report) = text_when work (nat_eq report.status 5) report
run_told work (ending.Damaged volume at) = refl
run_told work (ending.Unsound event) = refl
run_told work ending.NoMemory = refl

-- an order by which a disk is opened, so that this is known of what came of it, by the rows before
record Opens (kind : Kind) (o : Option Order) (before after : Outside) (account : Account) (Keeps : List Row → Ended → Type 0) : Type 0 where
  met : (met : Status) → MetByDisk met before after → MetBy o met before after
  texts : (met : Status) → short_text met ≡ text_for o met
  runs : (rows : List Row) (met : Status) (report : Report) → RunsTo (Keeps rows) met report → RanBy kind o met before after rows account report
  has_status : (rows : List Row) → HasStatus (Keeps rows)
  unfailed : (rows : List Row) → IsUnfailed (Keeps rows) account
  unplayed : PlaysNothing o → account ≡ no_account
  touches : TouchesNoDisk o → ⊥
  writes : WritesNothing o → ⊥
  unread : ReadsNothing o → after.left ≡ before.left

abbrev MeetsOpened : Kind → Option Order → Outside → Outside → List Row → Account → Telling → Type 0
MeetsOpened kind o before after rows account t = Meets kind o before after t.status t.text true rows account t.report

meets_opened : (kind : Kind) (o : Option Order) (before after : Outside) (account : Account) (Keeps : List Row → Ended → Type 0) (rows : List Row) (t : Telling)
    → Opens kind o before after account Keeps → IsOpening before.contents rows → RunsTo (Keeps rows) t.status t.report → t.text ≡ run_text (work_of o) t.status t.report → MeetsOpened kind o before after rows account t
meets_opened kind o before after account Keeps rows t opens opening runs its = record {
  ran = λ e. opens.runs rows t.status t.report runs;
  short = λ e. let f : true ≡ false = e in cc;
  text_is = its;
  opens = λ e. opening;
  unopened = λ e. let f : true ≡ false = e in cc;
  unfailed = unfailed (Keeps rows) account t.status t.report (opens.unfailed rows) runs;
  unplayed = opens.unplayed;
  untouched = λ none. absurd (opens.touches none);
  unwritten = λ none. absurd (opens.writes none);
  unread = opens.unread;
}

of_outcome : (kind : Kind) (o : Option Order) (before after : Outside) (account : Account) (Keeps : List Row → Ended → Type 0) (out : Outcome) (opened : Bool) (opening : List Row) (t : Telling)
    → Opens kind o before after account Keeps → Comes before.contents before.disk_faults after.disk_faults account Keeps out → TellsOutcome (work_of o) out opened opening t
    → Meets kind o before after t.status t.text opened opening account t.report
of_outcome kind o before after account Keeps (outcome.Unopened why) opened opening t opens comes told =
    let untouched : TouchesNoDisk o → DiskIsUntouched before after = λ none. absurd (opens.touches none) in
    let unwritten : WritesNothing o → Becomes before.contents after.contents Same = λ none. absurd (opens.writes none) in
    let short : MeetsUnopened kind o before after (short_telling (fault_status why)) =
    meets_short kind o before after (fault_status why) (short_text (fault_status why)) _ (λ not. opens.met (fault_status why) (disk_met why before after comes.0)) (opens.texts (fault_status why)) untouched unwritten opens.unread in
    let meets : MeetsUnopened kind o before after t = meets_or_wanting kind o before after (short_telling (fault_status why)) t untouched unwritten opens.unread short told.2 in
    subst (λ (a : Account). Meets kind o before after t.status t.text opened opening a t.report) (sym comes.1)
    (subst (λ (rows : List Row). Meets kind o before after t.status t.text opened rows no_account t.report) (sym told.1) (subst (λ (b : Bool). Meets kind o before after t.status t.text b [] no_account t.report) (sym told.0) meets))
of_outcome kind o before after account Keeps (outcome.Opened rows end) opened opening t opens comes told =
    let work : Option ℕ = work_of o in
    let whole : MeetsOpened kind o before after rows account (telling_of work end) = meets_opened kind o before after account Keeps rows (telling_of work end) opens comes.0 (runs_to (Keeps rows) work end (opens.has_status rows) comes.1) (run_told work end) in
    let wanting : MeetsOpened kind o before after rows account (short_telling status.NoMemory) = meets_opened kind o before after account Keeps rows (short_telling status.NoMemory) opens comes.0 refl refl in
    let meets : MeetsOpened kind o before after rows account t = elim told.2 [
      | inl e ↦ subst (MeetsOpened kind o before after rows account) (sym e) whole
      | inr e ↦ subst (MeetsOpened kind o before after rows account) (sym e) wanting
    ] in
    subst (λ (x : List Row). Meets kind o before after t.status t.text opened x account t.report) (sym told.1) (subst (λ (b : Bool). Meets kind o before after t.status t.text b rows account t.report) (sym told.0) meets)

-- ---- what is known of a report that is told

played_status : (kind : Kind) (script : Script) (seed : Option ℕ) (trace : Bool) (before after : Outside) (account : Account) (rows : List Row) → HasStatus (PlaysFrom kind script seed trace before after account rows)
played_status kind script seed trace before after account rows report plays = elim plays.comes [
  | inl none ↦ (let f : ending.Told report ≡ ending.NoMemory = none in cc)
  | inr came ↦ came.settles.told.status
]

played_unfailed : (kind : Kind) (script : Script) (seed : Option ℕ) (trace : Bool) (before after : Outside) (account : Account) (rows : List Row) → IsUnfailed (PlaysFrom kind script seed trace before after account rows) account
played_unfailed kind script seed trace before after account rows report plays zero = elim plays.comes [
  | inl none ↦ (let f : ending.Told report ≡ ending.NoMemory = none in cc)
  | inr came ↦ came.settles.told.unfailed zero
]

-- ---- by what the words order

same_work : (n k : ℕ) (given setting : Setting) → prepared.Work n given ≡ prepared.Work k setting → n ≡ k
same_work n k given setting e = cc

play_opens : (kind : Kind) (sizes : Sizes) (seed : Option ℕ) (trace : Bool) (before after : Outside) (account : Account) (script : Script) → IsRead sizes.members before.left after.left script
    → Opens kind (Some (order.Play sizes seed trace)) before after account (PlaysFrom kind script seed trace before after account)
play_opens kind sizes seed trace before after account script ready = record {
  met = λ met is. inr ((script, ready), is);
  texts = λ met. refl;
  runs = λ rows met report run. (script, ready, run);
  has_status = played_status kind script seed trace before after account;
  unfailed = played_unfailed kind script seed trace before after account;
  unplayed = λ none. absurd none;
  touches = λ none. none;
  writes = λ none. none;
  unread = λ none. absurd none;
}

show_opens : (kind : Kind) (before after : Outside) (account : Account) → account ≡ no_account → after.left ≡ before.left → Opens kind (Some order.Show) before after account (Shows before.disk_faults after.disk_faults)
show_opens kind before after account none same = record {
  met = λ met is. is;
  texts = λ met. refl;
  runs = λ rows met report run. run;
  has_status = λ rows report is. is.status;
  unfailed = λ rows report is zero. ap (λ (a : Account). a.faults) none;
  unplayed = λ nothing. none;
  touches = λ none. none;
  writes = λ none. none;
  unread = λ none. same;
}

work_opens : (kind : Kind) (n : ℕ) (sizes : Sizes) (before after : Outside) (account : Account) → after.left ≡ before.left
    → Opens kind (Some (order.Work n sizes)) before after account (PlaysFrom kind (made n) (Some n) false before after account)
work_opens kind n sizes before after account same = record {
  met = λ met is. is;
  texts = λ met. refl;
  runs = λ rows met report run. run;
  has_status = played_status kind (made n) (Some n) false before after account;
  unfailed = played_unfailed kind (made n) (Some n) false before after account;
  unplayed = λ none. absurd none;
  touches = λ none. none;
  writes = λ none. none;
  unread = λ none. same;
}

-- what a script came to that was played, and how the disk has gone on
abbrev pub CameOf : Kind → Script → Option ℕ → Bool → Outside → Outside → Account → Outcome → Type 0
CameOf kind script seed trace before after account out = Comes before.contents before.disk_faults after.disk_faults account (PlaysFrom kind script seed trace before after account) out

pub plays : (kind : Kind) (o : Option Order) (before after : Outside) (account : Account) (script : Script) (given : Setting) (out : Outcome) (opened : Bool) (opening : List Row) (t : Telling)
    → IsPrepared o (prepared.Play script given) before.left after.left before.source_faults after.source_faults
    → CameOf kind script given.seed given.trace before after account out
    → TellsOutcome None out opened opening t → Meets kind o before after t.status t.text opened opening account t.report
plays kind None before after account script given out opened opening t h comes told = let f : prepared.Play script given ≡ prepared.Ended status.WordsRefused = h in cc
plays kind (Some (order.Play sizes seed trace)) before after account script given out opened opening t h comes told =
    let its = subst (λ (s : Setting). CameOf kind script s.seed s.trace before after account out) h.1 comes in
    of_outcome kind (Some (order.Play sizes seed trace)) before after account (PlaysFrom kind script seed trace before after account) out opened opening t (play_opens kind sizes seed trace before after account script h.0) its told
plays kind (Some order.Show) before after account script given out opened opening t h comes told = let f : prepared.Play script given ≡ prepared.Show = h in cc
plays kind (Some (order.Make n)) before after account script given out opened opening t h comes told = let f : prepared.Play script given ≡ prepared.Make n = h in cc
plays kind (Some (order.Work n sizes)) before after account script given out opened opening t h comes told = let f : prepared.Play script given ≡ prepared.Work n (setting_of sizes (Some n) false) = h.0 in cc
plays kind (Some order.Check) before after account script given out opened opening t h comes told = let f : prepared.Play script given ≡ prepared.Check = h in cc
plays kind (Some (order.Copy table)) before after account script given out opened opening t h comes told = let f : prepared.Play script given ≡ prepared.Copy table = h in cc
plays kind (Some (order.Recover table)) before after account script given out opened opening t h comes told = let f : prepared.Play script given ≡ prepared.Recover table = h in cc

pub shows : (kind : Kind) (o : Option Order) (before after : Outside) (account : Account) (out : Outcome) (opened : Bool) (opening : List Row) (t : Telling)
    → IsPrepared o prepared.Show before.left after.left before.source_faults after.source_faults → (ReadsNothing o → after.left ≡ before.left) → account ≡ no_account
    → Comes before.contents before.disk_faults after.disk_faults account (Shows before.disk_faults after.disk_faults) out
    → TellsOutcome None out opened opening t → Meets kind o before after t.status t.text opened opening account t.report
shows kind None before after account out opened opening t h unread none comes told = let f : prepared.Show ≡ prepared.Ended status.WordsRefused = h in cc
shows kind (Some (order.Play sizes seed trace)) before after account out opened opening t h unread none comes told = absurd h
shows kind (Some order.Show) before after account out opened opening t h unread none comes told =
    of_outcome kind (Some order.Show) before after account (Shows before.disk_faults after.disk_faults) out opened opening t (show_opens kind before after account none (unread tt)) comes told
shows kind (Some (order.Make n)) before after account out opened opening t h unread none comes told = let f : prepared.Show ≡ prepared.Make n = h in cc
shows kind (Some (order.Work n sizes)) before after account out opened opening t h unread none comes told = let f : prepared.Show ≡ prepared.Work n (setting_of sizes (Some n) false) = h.0 in cc
shows kind (Some order.Check) before after account out opened opening t h unread none comes told = let f : prepared.Show ≡ prepared.Check = h in cc
shows kind (Some (order.Copy table)) before after account out opened opening t h unread none comes told = let f : prepared.Show ≡ prepared.Copy table = h in cc
shows kind (Some (order.Recover table)) before after account out opened opening t h unread none comes told = let f : prepared.Show ≡ prepared.Recover table = h in cc

pub works : (kind : Kind) (o : Option Order) (before after : Outside) (account : Account) (n : ℕ) (given : Setting) (opened : Bool) (opening : List Row) (t : Telling)
    → IsPrepared o (prepared.Work n given) before.left after.left before.source_faults after.source_faults → (ReadsNothing o → after.left ≡ before.left)
    → Works kind n before.contents before.disk_faults after.disk_faults after.contents opened opening account t → Meets kind o before after t.status t.text opened opening account t.report
works kind None before after account n given opened opening t h unread does = let f : prepared.Work n given ≡ prepared.Ended status.WordsRefused = h in cc
works kind (Some (order.Play sizes seed trace)) before after account n given opened opening t h unread does = absurd h
works kind (Some order.Show) before after account n given opened opening t h unread does = let f : prepared.Work n given ≡ prepared.Show = h in cc
works kind (Some (order.Make k)) before after account n given opened opening t h unread does = let f : prepared.Work n given ≡ prepared.Make k = h in cc
works kind (Some (order.Work k sizes)) before after account n given opened opening t h unread does =
    let e = same_work n k given (setting_of sizes (Some k) false) h.0 in
    let its = subst (λ (i : ℕ). CameOf kind (made i) (Some i) false before after account does.outcome) e does.comes in
    let told = subst (λ (i : ℕ). TellsOutcome (Some i) does.outcome opened opening t) e does.told_is in
    of_outcome kind (Some (order.Work k sizes)) before after account (PlaysFrom kind (made k) (Some k) false before after account) does.outcome opened opening t (work_opens kind k sizes before after account (unread tt)) its told
works kind (Some order.Check) before after account n given opened opening t h unread does = let f : prepared.Work n given ≡ prepared.Check = h in cc
works kind (Some (order.Copy table)) before after account n given opened opening t h unread does = let f : prepared.Work n given ≡ prepared.Copy table = h in cc
works kind (Some (order.Recover table)) before after account n given opened opening t h unread does = let f : prepared.Work n given ≡ prepared.Recover table = h in cc

-- ---- by what the check of a disk came to

check_met : (came : Checked) (before after : Outside) → Holds before.contents before.disk_faults after.disk_faults came → MetByCheck (checked_status came) before after
check_met (checked.Sound pages rows) before after holds = holds
check_met (checked.Unsound breach) before after holds = holds
check_met checked.Failed before after holds = holds
check_met checked.NoMemory before after holds = tt

meets_checked : (kind : Kind) (before after : Outside) (came : Checked) (t : Telling) → after.left ≡ before.left
    → IsChecked before.contents after.contents before.disk_faults after.disk_faults came → IsOrWanting (short_telling (checked_status came)) t → MeetsUnopened kind (Some order.Check) before after t
meets_checked kind before after came t same is told =
    let o : Option Order = Some order.Check in
    let untouched : TouchesNoDisk o → DiskIsUntouched before after = λ none. absurd none in
    let meets : MeetsUnopened kind o before after (short_telling (checked_status came)) =
    meets_short kind o before after (checked_status came) (short_text (checked_status came)) _ (λ not. check_met came before after is.holds) refl untouched (λ w. is.same) (λ r. same) in
    meets_or_wanting kind o before after (short_telling (checked_status came)) t untouched (λ w. is.same) (λ r. same) meets told

pub checks : (kind : Kind) (o : Option Order) (before after : Outside) (t : Telling)
    → IsPrepared o prepared.Check before.left after.left before.source_faults after.source_faults → (ReadsNothing o → after.left ≡ before.left)
    → Checks before.contents after.contents before.disk_faults after.disk_faults t → MeetsUnopened kind o before after t
checks kind None before after t h unread does = let f : prepared.Check ≡ prepared.Ended status.WordsRefused = h in cc
checks kind (Some (order.Play sizes seed trace)) before after t h unread does = absurd h
checks kind (Some order.Show) before after t h unread does = let f : prepared.Check ≡ prepared.Show = h in cc
checks kind (Some (order.Make n)) before after t h unread does = let f : prepared.Check ≡ prepared.Make n = h in cc
checks kind (Some (order.Work n sizes)) before after t h unread does = let f : prepared.Check ≡ prepared.Work n (setting_of sizes (Some n) false) = h.0 in cc
checks kind (Some order.Check) before after t h unread does = meets_checked kind before after does.came t (unread tt) does.checked does.told_is
checks kind (Some (order.Copy table)) before after t h unread does = let f : prepared.Check ≡ prepared.Copy table = h in cc
checks kind (Some (order.Recover table)) before after t h unread does = let f : prepared.Check ≡ prepared.Recover table = h in cc

-- ---- no call meets a failed sink

short_no_sink : (o : Option Order) (before after : Outside) → MetBy o status.SinkFailed before after → ⊥
short_no_sink None before after h = let f : status.SinkFailed ≡ status.WordsRefused = h in cc
short_no_sink (Some (order.Play sizes seed trace)) before after h = elim h [ inl source ↦ source.0 | inr disk ↦ disk.1 ]
short_no_sink (Some order.Show) before after h = h
short_no_sink (Some (order.Make n)) before after h = let f : status.SinkFailed ≡ status.Done = h in cc
short_no_sink (Some (order.Work n sizes)) before after h = h
short_no_sink (Some order.Check) before after h = h
short_no_sink (Some (order.Copy table)) before after h = h
short_no_sink (Some (order.Recover table)) before after h = h

ran_no_sink : (kind : Kind) (o : Option Order) (before after : Outside) (opening : List Row) (account : Account) (report : Report) → RanBy kind o status.SinkFailed before after opening account report → ⊥
ran_no_sink kind None before after opening account report h = h
ran_no_sink kind (Some (order.Play sizes seed trace)) before after opening account report h = h.2
ran_no_sink kind (Some order.Show) before after opening account report h = h
ran_no_sink kind (Some (order.Make n)) before after opening account report h = h
ran_no_sink kind (Some (order.Work n sizes)) before after opening account report h = h
ran_no_sink kind (Some order.Check) before after opening account report h = h
ran_no_sink kind (Some (order.Copy table)) before after opening account report h = h
ran_no_sink kind (Some (order.Recover table)) before after opening account report h = h

pub no_sink : (kind : Kind) (o : Option Order) (before after : Outside) (met : Status) (text : List ℕ) (opened : Bool) (opening : List Row) (account : Account) (report : Report)
    → Meets kind o before after met text opened opening account report → met ≡ status.SinkFailed → ⊥
no_sink kind o before after met text true opening account report meets e = ran_no_sink kind o before after opening account report (subst (λ m. RanBy kind o m before after opening account report) e (meets.ran refl))
no_sink kind o before after met text false opening account report meets e =
    let sunk : status.SinkFailed ≡ status.NoMemory → ⊥ = λ n. cc in
    short_no_sink o before after (subst (λ m. MetBy o m before after) e (meets.short refl (λ n. sunk (sym e ∙ n))))

-- ---- what is written where memory is wanting

no_text_by : (o : Option Order) (opened : Bool) (report : Report) → text_by o opened status.NoMemory report ≡ []
no_text_by o true report = refl
no_text_by o false report = sym (no_text o)

pub nothing_written : (kind : Kind) (o : Option Order) (before after : Outside) (met ended : Status) (text : List ℕ) (opened : Bool) (opening : List Row) (account : Account) (report : Report) (taken taken_now : Option (List ℕ)) (f g : ℕ)
    → Meets kind o before after met text opened opening account report → Tells met ended text taken taken_now f g → ended ≡ status.NoMemory → Appends taken taken_now []
nothing_written kind o before after met ended text opened opening account report taken taken_now f g meets told e =
    let other : ended ≡ status.SinkFailed → ⊥ = λ s. let same : status.NoMemory ≡ status.SinkFailed = sym e ∙ s in cc in
    let whole = told.whole other in
    let none : text ≡ [] = meets.text_is ∙ ap (λ m. text_by o opened m report) (sym whole.0 ∙ e) ∙ no_text_by o opened report in
    subst (λ (t : List ℕ). Appends taken taken_now t) none whole.1
