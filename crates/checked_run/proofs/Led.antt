-- Where the journal of a run leads.
use Rattle.std.proofs.Common.{◌≡◌, inl, inr, ℕ, ◌<◌, Bool, true, List, [], ◌++◌, length, Option, Some, None, Result, Ok, Err, IsErr, refl, sym, ap, subst, ◌∙◌, arith, length-append, ◌+◌}
use Rattle.std.specs.Prelude.{Vec, IfSome, IfOk, OnOk}
use Rattle.std.specs.declared.alloc.Global.{Global}
use Rattle.ds_base.specs.declared.fault.NoMemory.{NoMemory}
use Rattle.ds_disk.specs.Contents.{Contents}
use Rattle.cache_structure.specs.Directory.{Directory}
use Rattle.ds_model.specs.declared.script.Script.{Script}
use Rattle.ds_model.specs.declared.fate.Refusal.{Refusal}
use Rattle.ds_model.specs.declared.history.Entry.{Entry}
use Rattle.script_fates.specs.declared.fates.Cause.{Cause}
use Rattle.script_fates.specs.Fated.{FatesState}
use Rattle.group_core.specs.declared.close.Played.{Played}
use Rattle.group_core.specs.declared.group.Group.{Group}
use Rattle.group_core.specs.declared.fault.RunFault.{RunFault}
use Rattle.group_core.specs.declared.schedule.RunEnd.{RunEnd}
use Rattle.group_core.specs.Ends.{Ends}
use Rattle.group_core.specs.Goes.{Goes}
use Rattle.group_core.specs.Runs.{Draws, RunsOn}
use Rattle.group_core.specs.Fresh.{RunsFresh, RunsFrom}
use Rattle.group_core.specs.Starts.{IsFresh}
use Rattle.group_threads.proofs.Looked.{runs_plain}
use Rattle.refusal_causes.specs.Answers.{AnswersGiven}
use Rattle.refusal_causes.specs.Laws.{CausesHeld, is_lawful}
use Rattle.refusal_causes.specs.Moments.{AllCaused, HeldInRun}
use Rattle.checked_run.specs.declared.account.Account.{Account}
use Rattle.checked_run.specs.declared.ended.Ended.{Ended}
use Rattle.checked_run.specs.declared.ended.Ended.TheVariants as ended
use Rattle.checked_run.specs.Accounts.{account_of}
use Rattle.checked_run.specs.Leading.{Begins, IsCounted, LeadsFrom, OpensOver, RunsBy, Came, ComesTo}

-- a list in memory has fewer elements than an index can count
short : (v : Vec ℕ Global) → length v.items < 18446744073709551615
short v = omega (arith, v.ok.0, v.ok.1, v.small)

-- so no run takes all the events that can be counted
pub unspent : (v : Vec ℕ Global) (old events : List ℕ) → v.items ≡ old ++ events → length events ≡ 18446744073709551615 → ⊥
unspent v old events is all =
    let long : length v.items ≡ length old + length events = ap length is ∙ length-append old events in
    omega (arith, short v, long, all)

-- where there is a seed, each event was drawn by a generator with it
abbrev DrawnBy : {C D P : Type 0} → (C → Directory) → (D → Bool) → (D → Option Contents) → (D → ℕ) → Group D C P → Group D C P → List ℕ → Option ℕ → Type 0
DrawnBy {C} {D} {P} directory alive contents count old new events seed = IfSome seed (λ s. (after : ℕ) × Draws directory alive contents count old s events new after)

-- with a thread for each member there is none
pub by_threads : {C D P : Type 0} (directory : C → Directory) (alive : D → Bool) (contents : D → Option Contents) (count : D → ℕ) (old new : Group D C P) (seed : Option ℕ) (end : Result RunEnd NoMemory)
    → seed ≡ None → OnOk end (RunsFrom directory alive contents count old new) → OnOk end (RunsBy directory alive contents count old seed new)
by_threads {C} {D} {P} directory alive contents count old new seed (Ok e) none from = record {
  from = from;
  drawn = subst (DrawnBy directory alive contents count old new from.events) (sym none) tt;
}
by_threads {C} {D} {P} directory alive contents count old new seed (Err why) none from = tt

-- by the schedule of a seed
pub by_seed : {C D P : Type 0} (directory : C → Directory) (alive : D → Bool) (contents : D → Option Contents) (count : D → ℕ) (old new : Group D C P) (seed : Option ℕ) (s begun most after : ℕ) (end : Result RunEnd NoMemory)
    → seed ≡ Some s → begun ≡ s → Goes (count old.disk) old.faults.items old.fault (count new.disk) new.faults.items new.fault
    → IfOk end (λ e. RunsOn directory alive contents count old begun most e new after) → OnOk end (RunsBy directory alive contents count old seed new)
by_seed {C} {D} {P} directory alive contents count old new seed s begun most after (Ok e) is same goes ran = record {
  from = record {
    events = ran.events;
    journal = ran.journal;
    runs = runs_plain directory alive contents count ran.events old new ran.runs;
    goes = goes;
  };
  drawn = subst (DrawnBy directory alive contents count old new ran.events) (sym is) (after, subst (λ (n : ℕ). Draws directory alive contents count old n ran.events new after) same ran.draws);
}
by_seed {C} {D} {P} directory alive contents count old new seed s begun most after (Err why) is same goes ran = tt

-- what is known of the fates of a group is known of what is told of them
caused_told : (K : ℕ → Refusal → ℕ → Type 0) (f : FatesState) (entries : List Entry) (causes : List Cause) → f.entries ≡ entries → f.causes ≡ causes → AllCaused K f → AllCaused K (record { entries = entries; causes = causes })
caused_told K f entries causes same told known =
    let first : AllCaused K (record { entries = entries; causes = f.causes }) = subst (λ (es : List Entry). AllCaused K (record { entries = es; causes = f.causes })) same known in
    subst (λ (cs : List Cause). AllCaused K (record { entries = entries; causes = cs })) told first

-- what a group leaves is that of the group to which its journal leads
pub led : {C D P : Type 0} (directory : C → Directory) (alive : D → Bool) (contents : D → Option Contents) (count : D → ℕ) (script : Script) (start last : Group D C P) (seed : Option ℕ) (end : RunEnd) (account : Account) (played : Played)
    → Begins directory script start → RunsBy directory alive contents count start seed last → Ends end last → account ≡ account_of played
    → played.journal.items ≡ last.journal.items → played.faults.items ≡ last.faults.items → played.causes.items ≡ last.crew.fates.causes → played.entries.items ≡ last.crew.fates.entries → played.fault ≡ last.fault
    → CausesHeld P directory alive contents count → AnswersGiven P directory alive contents count → LeadsFrom directory alive contents count start seed account end played.fault played.entries.items
led {C} {D} {P} directory alive contents count script start last seed end account played begins ran ends same journal faults causes entries why held given =
    let events : account.journal ≡ ran.from.events = ap (λ (a : Account). a.journal) same ∙ (journal ∙ (ran.from.journal ∙ ap (λ (es : List ℕ). es ++ ran.from.events) begins.journal)) in
    let runs : RunsFresh directory alive contents count start account.journal last = subst (λ (es : List ℕ). RunsFresh directory alive contents count start es last) (sym events) ran.from.runs in
    let told : last.crew.fates.causes ≡ account.causes = sym causes ∙ sym (ap (λ (a : Account). a.causes) same) in
    record {
      last = last;
      runs = runs;
      draws = subst (λ (es : List ℕ). IfSome seed (λ s. (after : ℕ) × Draws directory alive contents count start s es last after)) (sym events) ran.drawn;
      ends = ends;
      fault_is = sym why;
      entries_are = sym entries;
      causes_are = told;
      faults_are = sym faults ∙ sym (ap (λ (a : Account). a.faults) same);
      caused = λ lawful. caused_told (HeldInRun directory alive contents count start account.journal last) last.crew.fates played.entries.items account.causes (sym entries) told
          (held start account.journal last begins.fresh runs (subst (λ (f : Option RunFault). is_lawful f ≡ true) why lawful));
      answers = λ events group run lawful. given start events group begins.fresh run lawful;
    }

-- by what the run answered
pub answered : (end : Result RunEnd NoMemory) (L : RunEnd → Option RunFault → List Entry → Type 0) (S : RunEnd → Option RunFault → List Entry → Ended → Type 0) (out : Ended)
    → ((e : RunEnd) → end ≡ Ok e → Came L S out) → (IsErr end → out ≡ ended.NoMemory) → ComesTo L S out
answered (Ok e) L S out came wanting = inr (came e refl)
answered (Err none) L S out came wanting = inl (wanting refl)

-- ---- a group that has just started

-- the same group, of which it is known that its members are counted
pub begins_counted : {C D P : Type 0} (directory : C → Directory) (script : Script) (old new : Group D C P) → new ≡ old → old.crew.script ≡ script → IsFresh directory old → old.journal.items ≡ [] → old.faults.items ≡ [] → old.fault ≡ None
    → IsCounted new → Begins directory script new
begins_counted {C} {D} {P} directory script old new same is fresh journal faults fault counted = record {
  script_is = ap (λ (z : Group D C P). z.crew.script) same ∙ is;
  fresh = subst (λ (z : Group D C P). IsFresh directory z) (sym same) fresh;
  journal = ap (λ (z : Group D C P). z.journal.items) same ∙ journal;
  faults = ap (λ (z : Group D C P). z.faults.items) same ∙ faults;
  fault = ap (λ (z : Group D C P). z.fault) same ∙ fault;
  counted = counted;
}

-- it keeps the lines of a trace from now on
pub begins_traced : {C D P : Type 0} (directory : C → Directory) (script : Script) (old new : Group D C P) → new ≡ record old { lines = new.lines } → Begins directory script old → Begins directory script new
begins_traced {C} {D} {P} directory script old new same begins =
    subst (λ (group : Group D C P). Begins directory script group) (sym same)
    (record {
      script_is = begins.script_is;
      fresh = begins.fresh;
      journal = begins.journal;
      faults = begins.faults;
      fault = begins.fault;
      counted = record { members = begins.counted.members; few = begins.counted.few; agents = begins.counted.agents };
    })

pub opens_traced : {C D P : Type 0} (alive : D → Bool) (contents : D → Option Contents) (opened : D) (old new : Group D C P) → new ≡ record old { lines = new.lines } → OpensOver alive contents opened old → OpensOver alive contents opened new
opens_traced {C} {D} {P} alive contents opened old new same opens =
    subst (λ (group : Group D C P). OpensOver alive contents opened group) (sym same) (record { restarts = opens.restarts; known = opens.known })
