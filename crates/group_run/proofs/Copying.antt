-- How a call ends by the order of its words, where that may be a copy of a table or its recovery.
use Rattle.std.proofs.Common.{◌≡◌, ◌≢◌, inl, ℕ, arith, Bool, false, List, [], Option, Some, None, Err, refl, sym, ap, subst, ◌∙◌}
use Rattle.std.proofs.lemmas.List.{append-nil}
use Rattle.std.specs.Io.KnownBytes.{Appends}
use Rattle.ds_base.specs.declared.row.Row.{Row}
use Rattle.ds_model.specs.declared.report.Report.{Report}
use Rattle.ds_model.specs.declared.script.Script.{Script}
use Rattle.ds_disk.specs.Contents.{Contents, Becomes}
use Rattle.disk_restart.specs.Keeping.{KeepsRecords}
use Rattle.checked_run.specs.Accounts.{no_account}
use Rattle.checked_run.specs.Leading.{Kind}
use Rattle.checked_run.specs.declared.account.Account.{Account}
use Rattle.disk_orders.specs.Copying.{CopyFault, SinkAround, ComesTo, IsCopied}
use Rattle.disk_orders.specs.Copying.fault as copy_fault
use Rattle.disk_orders.specs.declared.copies.Copied.{Copied}
use Rattle.disk_orders.specs.declared.copies.Copied.TheVariants as copied
use Rattle.group_words.specs.declared.order.Order.{Order}
use Rattle.group_words.specs.declared.order.Order.TheVariants as order
use Rattle.group_run.specs.declared.status.Status.{Status}
use Rattle.group_run.specs.declared.status.Status.TheVariants as status
use Rattle.group_run.specs.declared.prepare.Setting.{Setting}
use Rattle.group_run.specs.declared.prepare.Prepared.{Prepared}
use Rattle.group_run.specs.declared.prepare.Prepared.TheVariants as prepared
use Rattle.group_run.specs.Outside.{Outside, DiskIsUntouched}
use Rattle.group_run.specs.Prepares.{IsPrepared, IsPreparedToPlay, ReadsNothing, LeavesSource, setting_of, table_to_copy, table_to_recover}
use Rattle.group_run.specs.Reports.{empty_report}
use Rattle.group_run.specs.Tellings.{copy_status}
use Rattle.group_run.specs.Ends.{Tells, with_source, FinishesCopy, EndsCopy, FinishesRecovery, EndsRecovery, Ends, EndsBy}
use Rattle.group_run.proofs.Called.{meets_wanting, unmoved}
use Rattle.group_run.proofs.Recovering.{with_left, its_recovery, not_begun}

pub nothing_more : (taken : Option (List ℕ)) → Appends taken taken []
nothing_more None = tt
nothing_more (Some bytes) = sym (append-nil bytes)

kept : (a b : Option Contents) → b ≡ a → Becomes a b KeepsRecords
kept None b e = tt
kept (Some c) None e = cc
kept (Some c) (Some d) e = let same : d ≡ c = cc in subst (λ x. KeepsRecords c x) (sym same) (λ member. refl)

-- only a failed sink has the status of one
pub sink_status : (why : CopyFault) → copy_status why ≡ status.SinkFailed → why ≡ copy_fault.Sink
sink_status copy_fault.Source e = cc
sink_status copy_fault.Sink e = refl
sink_status copy_fault.Disk e = cc
sink_status (copy_fault.Damaged volume at) e = cc
sink_status (copy_fault.Image at) e = cc
sink_status copy_fault.NoMemory e = cc

-- what a copy came to that hadn't begun is no failed sink
pub unsunk : (table : ℕ) (before after : SinkAround) (came : Copied) (why : CopyFault) → IsCopied table before after came → came ≡ copied.Unopened why → why ≢ copy_fault.Sink
unsunk table before after came why is e = let comes = subst (ComesTo table before after) e is.comes in comes.1.0

-- where memory was wanting for the words nothing was done
nothing_told : (taken : Option (List ℕ)) (faults : ℕ) → Tells status.NoMemory status.NoMemory [] taken taken faults faults
nothing_told taken faults = record { whole = λ n. (refl, nothing_more taken); front = λ s. let f : status.NoMemory ≡ status.SinkFailed = s in cc }

wanting_copy : (table : ℕ) (before after : Outside) (taken : Option (List ℕ)) (faults : ℕ) → DiskIsUntouched before after → after.left ≡ before.left
    → EndsCopy table before after status.NoMemory false [] no_account (empty_report 6) taken taken faults faults
wanting_copy table before after taken faults untouched same = record {
  copies = record {
    came = copied.Unopened copy_fault.NoMemory;
    taken_by = taken;
    faults_by = faults;
    copied_is = record {
      comes = (tt, ((λ e. cc), (refl, refl)));
      keeps = kept before.contents after.contents untouched.0;
      disk_later = rw untouched.2 (omega arith);
      sink_later = omega arith;
    };
    told = inl (nothing_told taken faults);
  };
  unopened = (refl, refl, refl, refl);
  unread = same;
}

wanting_recovery : (table : ℕ) (before after : Outside) (taken : Option (List ℕ)) (faults : ℕ) → DiskIsUntouched before after → (after.left ≡ before.left) × (after.source_faults ≡ before.source_faults)
    → EndsRecovery table before after status.NoMemory false [] no_account (empty_report 6) taken taken faults faults
wanting_recovery table before after taken faults untouched leaves = record {
  recovers = record { came = Err copy_fault.NoMemory; recovers = not_begun table before after untouched leaves; told = inl (nothing_told taken faults) };
  unopened = (refl, refl, refl, refl);
}

wanting_run : (kind : Kind) (o : Option Order) (before after : Outside) (taken : Option (List ℕ)) (faults : ℕ) → DiskIsUntouched before after → (ReadsNothing o → after.left ≡ before.left)
    → Ends kind o before after status.NoMemory false [] no_account (empty_report 6) taken taken faults faults
wanting_run kind o before after taken faults untouched unread = record {
  met = status.NoMemory;
  text = [];
  meets = meets_wanting kind o before after (λ t. untouched) (λ w. unmoved before after untouched) unread;
  told = nothing_told taken faults;
  wanting = λ n. nothing_more taken;
}

pub wanting_ends : (kind : Kind) (o : Option Order) (before after : Outside) (taken : Option (List ℕ)) (faults : ℕ) → DiskIsUntouched before after → (ReadsNothing o → after.left ≡ before.left)
    → LeavesSource o before.left after.left before.source_faults after.source_faults → EndsBy kind o before after status.NoMemory false [] no_account (empty_report 6) taken taken faults faults
wanting_ends kind None before after taken faults untouched unread leaves = wanting_run kind None before after taken faults untouched unread
wanting_ends kind (Some (order.Play sizes seed trace)) before after taken faults untouched unread leaves = wanting_run kind (Some (order.Play sizes seed trace)) before after taken faults untouched unread
wanting_ends kind (Some order.Show) before after taken faults untouched unread leaves = wanting_run kind (Some order.Show) before after taken faults untouched unread
wanting_ends kind (Some (order.Make n)) before after taken faults untouched unread leaves = wanting_run kind (Some (order.Make n)) before after taken faults untouched unread
wanting_ends kind (Some (order.Work n sizes)) before after taken faults untouched unread leaves = wanting_run kind (Some (order.Work n sizes)) before after taken faults untouched unread
wanting_ends kind (Some order.Check) before after taken faults untouched unread leaves = wanting_run kind (Some order.Check) before after taken faults untouched unread
wanting_ends kind (Some (order.Recover table)) before after taken faults untouched unread leaves = wanting_recovery table before after taken faults untouched (leaves table refl)
wanting_ends kind (Some (order.Copy table)) before after taken faults untouched unread leaves = wanting_copy table before after taken faults untouched (unread tt)

-- what names no table isn't the order of one
no_table : (table_of : Prepared → Option ℕ) (p q : Prepared) (n : ℕ) → p ≡ q → table_of p ≡ Some n → table_of q ≡ None → ⊥
no_table table_of p q n same is none = let f : None ≡ Some n = sym none ∙ (ap table_of (sym same) ∙ is) in cc

its_table : (table_of : Prepared → Option ℕ) (p q : Prepared) (n k : ℕ) → p ≡ q → table_of p ≡ Some n → table_of q ≡ Some k → n ≡ k
its_table table_of p q n k same is its = let f : Some n ≡ Some k = sym is ∙ (ap table_of same ∙ its) in cc

-- nor is a script that is to be played, or a status that was met
record NamesNone (table_of : Prepared → Option ℕ) : Type 0 where
  played : (script : Script) (given : Setting) → table_of (prepared.Play script given) ≡ None
  ended : (met : Status) → table_of (prepared.Ended met) ≡ None

no_played : (table_of : Prepared → Option ℕ) (p : Prepared) (n : ℕ) (setting : Setting) (a b : Option (List ℕ)) (f g : ℕ) → NamesNone table_of → table_of p ≡ Some n → IsPreparedToPlay setting p a b f g → ⊥
no_played table_of (prepared.Play script given) n setting a b f g none e h = let f : None ≡ Some n = sym (none.played script given) ∙ e in cc
no_played table_of prepared.Show n setting a b f g none e h = h
no_played table_of (prepared.Make k) n setting a b f g none e h = h
no_played table_of (prepared.Work k given) n setting a b f g none e h = h
no_played table_of prepared.Check n setting a b f g none e h = h
no_played table_of (prepared.Copy table) n setting a b f g none e h = h
no_played table_of (prepared.Recover table) n setting a b f g none e h = h
no_played table_of (prepared.Ended met) n setting a b f g none e h = let f : None ≡ Some n = sym (none.ended met) ∙ e in cc

no_copy : NamesNone table_to_copy
no_copy = record { played = λ script given. refl; ended = λ met. refl }

no_recovery : NamesNone table_to_recover
no_recovery = record { played = λ script given. refl; ended = λ met. refl }

-- what was prepared is a copy of this table
pub copies : (kind : Kind) (o : Option Order) (before after : Outside) (p : Prepared) (n : ℕ) (ended : Status) (opened : Bool) (opening : List Row) (account : Account) (report : Report) (taken taken_now : Option (List ℕ)) (faults faults_now : ℕ)
    → table_to_copy p ≡ Some n → IsPrepared o p before.left after.left before.source_faults after.source_faults → (ReadsNothing o → after.left ≡ before.left)
    → FinishesCopy n before.contents after.contents before.disk_faults after.disk_faults taken taken_now faults faults_now ended
    → (opened ≡ false) × (opening ≡ []) × (account ≡ no_account) × (report.entries ≡ [])
    → EndsBy kind o before after ended opened opening account report taken taken_now faults faults_now
copies kind None before after p n ended opened opening account report taken taken_now faults faults_now e h unread does nothing = absurd (no_table table_to_copy p (prepared.Ended status.WordsRefused) n h e refl)
copies kind (Some (order.Play sizes seed trace)) before after p n ended opened opening account report taken taken_now faults faults_now e h unread does nothing = absurd (no_played table_to_copy p n (setting_of sizes seed trace) before.left after.left before.source_faults after.source_faults no_copy e h)
copies kind (Some order.Show) before after p n ended opened opening account report taken taken_now faults faults_now e h unread does nothing = absurd (no_table table_to_copy p prepared.Show n h e refl)
copies kind (Some (order.Make k)) before after p n ended opened opening account report taken taken_now faults faults_now e h unread does nothing = absurd (no_table table_to_copy p (prepared.Make k) n h e refl)
copies kind (Some (order.Work k sizes)) before after p n ended opened opening account report taken taken_now faults faults_now e h unread does nothing = absurd (no_table table_to_copy p (prepared.Work k (setting_of sizes (Some k) false)) n h.0 e refl)
copies kind (Some order.Check) before after p n ended opened opening account report taken taken_now faults faults_now e h unread does nothing = absurd (no_table table_to_copy p prepared.Check n h e refl)
copies kind (Some (order.Recover k)) before after p n ended opened opening account report taken taken_now faults faults_now e h unread does nothing = absurd (no_table table_to_copy p (prepared.Recover k) n h e refl)
copies kind (Some (order.Copy k)) before after p n ended opened opening account report taken taken_now faults faults_now e h unread does nothing = record {
  copies = subst (λ (i : ℕ). FinishesCopy i before.contents after.contents before.disk_faults after.disk_faults taken taken_now faults faults_now ended) (its_table table_to_copy p (prepared.Copy k) n k h e refl) does;
  unopened = nothing;
  unread = unread tt;
}

-- what was prepared is the recovery of this table, and the source was left as it was
pub recovers : (kind : Kind) (o : Option Order) (before after : Outside) (p : Prepared) (n : ℕ) (left_now : Option (List ℕ)) (source_now : ℕ) (ended : Status) (opened : Bool) (opening : List Row) (account : Account) (report : Report) (taken taken_now : Option (List ℕ)) (faults faults_now : ℕ)
    → table_to_recover p ≡ Some n → IsPrepared o p before.left left_now before.source_faults source_now → LeavesSource o before.left left_now before.source_faults source_now
    → FinishesRecovery n (with_left before left_now source_now) (with_source after) taken taken_now faults faults_now ended
    → (opened ≡ false) × (opening ≡ []) × (account ≡ no_account) × (report.entries ≡ [])
    → EndsBy kind o before after ended opened opening account report taken taken_now faults faults_now
recovers kind None before after p n left_now source_now ended opened opening account report taken taken_now faults faults_now e h leaves does nothing = absurd (no_table table_to_recover p (prepared.Ended status.WordsRefused) n h e refl)
recovers kind (Some (order.Play sizes seed trace)) before after p n left_now source_now ended opened opening account report taken taken_now faults faults_now e h leaves does nothing = absurd (no_played table_to_recover p n (setting_of sizes seed trace) before.left left_now before.source_faults source_now no_recovery e h)
recovers kind (Some order.Show) before after p n left_now source_now ended opened opening account report taken taken_now faults faults_now e h leaves does nothing = absurd (no_table table_to_recover p prepared.Show n h e refl)
recovers kind (Some (order.Make k)) before after p n left_now source_now ended opened opening account report taken taken_now faults faults_now e h leaves does nothing = absurd (no_table table_to_recover p (prepared.Make k) n h e refl)
recovers kind (Some (order.Work k sizes)) before after p n left_now source_now ended opened opening account report taken taken_now faults faults_now e h leaves does nothing = absurd (no_table table_to_recover p (prepared.Work k (setting_of sizes (Some k) false)) n h.0 e refl)
recovers kind (Some order.Check) before after p n left_now source_now ended opened opening account report taken taken_now faults faults_now e h leaves does nothing = absurd (no_table table_to_recover p prepared.Check n h e refl)
recovers kind (Some (order.Copy k)) before after p n left_now source_now ended opened opening account report taken taken_now faults faults_now e h leaves does nothing = absurd (no_table table_to_recover p (prepared.Copy k) n h e refl)
recovers kind (Some (order.Recover k)) before after p n left_now source_now ended opened opening account report taken taken_now faults faults_now e h leaves does nothing = record {
  recovers = its_recovery n k before after left_now source_now ended taken taken_now faults faults_now (its_table table_to_recover p (prepared.Recover k) n k h e refl) (leaves k refl) does;
  unopened = nothing;
}

-- what was prepared is neither
pub otherwise : (kind : Kind) (o : Option Order) (p : Prepared) (before after : Outside) (ended : Status) (opened : Bool) (opening : List Row) (account : Account) (report : Report) (taken taken_now : Option (List ℕ)) (faults faults_now : ℕ)
    → table_to_copy p ≡ None → table_to_recover p ≡ None → IsPrepared o p before.left after.left before.source_faults after.source_faults → Ends kind o before after ended opened opening account report taken taken_now faults faults_now
    → EndsBy kind o before after ended opened opening account report taken taken_now faults faults_now
otherwise kind None p before after ended opened opening account report taken taken_now faults faults_now copy recovery h ends = ends
otherwise kind (Some (order.Play sizes seed trace)) p before after ended opened opening account report taken taken_now faults faults_now copy recovery h ends = ends
otherwise kind (Some order.Show) p before after ended opened opening account report taken taken_now faults faults_now copy recovery h ends = ends
otherwise kind (Some (order.Make n)) p before after ended opened opening account report taken taken_now faults faults_now copy recovery h ends = ends
otherwise kind (Some (order.Work n sizes)) p before after ended opened opening account report taken taken_now faults faults_now copy recovery h ends = ends
otherwise kind (Some order.Check) p before after ended opened opening account report taken taken_now faults faults_now copy recovery h ends = ends
otherwise kind (Some (order.Recover table)) p before after ended opened opening account report taken taken_now faults faults_now copy recovery h ends = let f : None ≡ Some table = sym recovery ∙ ap table_to_recover h in cc
otherwise kind (Some (order.Copy table)) p before after ended opened opening account report taken taken_now faults faults_now copy recovery h ends = let f : None ≡ Some table = sym copy ∙ ap table_to_copy h in cc
