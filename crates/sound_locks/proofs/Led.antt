-- The run to which a journal leads, cut at a front.
use Rattle.std.proofs.Common.{◌≡◌, ℕ, suc, ◌<◌, ◌+◌, refl, sym, ap, subst, ◌∙◌, arith, Bool, List, [], ◌∷◌, ◌++◌, length, Option, Some, None, append_assoc}
use Rattle.std.specs.Prelude.{◌≢◌, Contains, slice_index_or}
use Rattle.ds_disk.specs.Contents.{Becomes, Contents, Same}
use Rattle.cache_structure.specs.Directory.{Directory}
use Rattle.cache_structure.specs.State.{CacheState, directory_of}
use Rattle.ds_model.specs.declared.history.Entry.{Entry}
use Rattle.ds_model.specs.declared.script.Script.{Script}
use Rattle.group_run.specs.Given.{Account, Leads, RunEnd, RunFault}
use Rattle.rested_logs.specs.Given.{Group, IsLooked, IsSoundDisk, LeavesOutClosed, RunsFresh, crew_state}
use Rattle.rested_logs.specs.Given.fault_variants as fault
use Rattle.rested_logs.specs.Runs.{EndsLogged, FailsSound, LockedRunsStand, StartsOver}
use Rattle.sound_locks.specs.Claims.{TiedAreSound}
use Rattle.sound_locks.specs.Open.{LogsRetain}
use Rattle.sound_locks.specs.Plays.{KeepsLocks, LedKeepLocks, StandsAt, TellsRetained, UnfailedAreSound}

-- ---- a run in two

pub record Parted {C D P : Type 0} (directory : C → Directory) (alive : D → Bool) (contents : D → Option Contents) (count : D → ℕ) (old : Group D C P) (front rest : List ℕ) (new : Group D C P) : Type 0 where
  pub group : Group D C P
  pub here : RunsFresh directory alive contents count old front group
  pub on : RunsFresh directory alive contents count group rest new

looked_self : {C D P : Type 0} (group : Group D C P) → IsLooked group group
looked_self {C} {D} {P} group = record { rest = refl; crew = record { rest = refl; parts = refl } }

parted : {C D P : Type 0} (directory : C → Directory) (alive : D → Bool) (contents : D → Option Contents) (count : D → ℕ) (front rest : List ℕ) (old new : Group D C P)
    → RunsFresh directory alive contents count old (front ++ rest) new → Parted directory alive contents count old front rest new
parted {C} {D} {P} directory alive contents count [] rest old new runs = record { group = old; here = looked_self old; on = runs }
parted {C} {D} {P} directory alive contents count (event ∷ front) rest old new runs =
    let later : Parted directory alive contents count runs.0 front rest new = parted directory alive contents count front rest runs.0 new runs.2 in
    record { group = later.group; here = (runs.0, runs.1, later.here); on = later.on }

-- ---- failures of the whole group

fails_front : {C D P : Type 0} (directory : C → Directory) (alive : D → Bool) (contents : D → Option Contents) (count : D → ℕ) (start : Group D C P) (journal front rest : List ℕ)
    → journal ≡ front ++ rest → FailsSound directory alive contents count start journal → FailsSound directory alive contents count start front
fails_front {C} {D} {P} directory alive contents count start journal front rest is fails = λ early late group at run.
    fails early (late ++ rest) group (is ∙ ap (λ (es : List ℕ). es ++ rest) at ∙ append_assoc early (64 ∷ late) rest) run

-- an event behind a front is one of all
there : (front back : List ℕ) (event : ℕ) → Contains (front ++ event ∷ back) event
there [] back event = (0, omega arith, refl)
there (e ∷ front) back event = let later = there front back event in (suc later.0, omega (arith, later.1), later.2)

pub unfailed_sound : {D : Type 0} (P : Type 0) (alive : D → Bool) (contents : D → Option Contents) (count : D → ℕ) → UnfailedAreSound P alive contents count
unfailed_sound {D} P alive contents count start journal none = λ front back group is run. absurd (none (subst (λ (es : List ℕ). Contains es 64) (sym is) (there front back 64)))

-- ---- over the disk that was opened

told_as : (was now : Option Contents) (c : Contents) → was ≡ Some c → Becomes was now Same → now ≡ Some c
told_as None now c is same = cc
told_as (Some d) None c is same = absurd same
told_as (Some d) (Some e) c is same = ap Some same ∙ is

module _ {D : Type 0} (P : Type 0) (alive : D → Bool) (contents : D → Option Contents) (count : D → ℕ) (law : LockedRunsStand P directory_of alive contents count) (tied : TiedAreSound) (retain : LogsRetain)
    (was : Option Contents) (script : Script) (seed : Option ℕ) (account : Account) (end : RunEnd) (why : Option RunFault) (entries : List Entry) (c : Contents)
    (told : was ≡ Some c) (sound : IsSoundDisk c) (closed : LeavesOutClosed c) (leads : Leads P alive contents count was script seed account end why entries) where
  starts : StartsOver directory_of alive contents leads.opened c leads.start
  starts = record {
    told = told_as was (contents leads.opened) c told leads.told;
    sound = sound;
    closed = closed;
    opens = leads.opens.restarts;
    known = leads.opens.known;
    fresh = leads.begins.fresh;
    count = leads.begins.counted.members;
    few = leads.begins.counted.few;
    agents = leads.begins.counted.agents;
  }

  -- wherever these events lead
  ends : (events : List ℕ) (group : Group D CacheState P) → RunsFresh directory_of alive contents count leads.start events group → FailsSound directory_of alive contents count leads.start events
      → ((at : ℕ) → group.fault ≢ Some (fault.Unlawful at)) → EndsLogged directory_of contents group
  ends events group runs fails lawful = law leads.opened c leads.start events group starts runs fails lawful

  stands : FailsSound directory_of alive contents count leads.start account.journal → (front rest : List ℕ) → account.journal ≡ front ++ rest → StandsAt alive contents count leads.start front rest leads.leads.last
  stands fails front rest is =
      let cut : Parted directory_of alive contents count leads.start front rest leads.leads.last = parted directory_of alive contents count front rest leads.start leads.leads.last
      (subst (λ (es : List ℕ). RunsFresh directory_of alive contents count leads.start es leads.leads.last) is leads.leads.runs) in
      record {
        group = cut.group;
        here = cut.here;
        on = cut.on;
        sound = λ lawful.
            let safe = (ends front cut.group cut.here (fails_front directory_of alive contents count leads.start account.journal front rest is fails) lawful).safe in
            tied (crew_state directory_of cut.group.crew) safe.world safe.stands.tied;
        retained = λ lawful none.
            let told = (ends front cut.group cut.here (fails_front directory_of alive contents count leads.start account.journal front rest is fails) lawful).stands none in
            subst (λ (z : Option Contents). TellsRetained z (crew_state directory_of cut.group.crew)) (sym told.is) (retain told.told (crew_state directory_of cut.group.crew) told.world told.stands.tied told.logs);
      }

  pub keeps_locks : KeepsLocks P alive contents count leads.start account.journal leads.leads.last
  keeps_locks = record {
    stays = stands;
    leaves = λ fails lawful. (ends account.journal leads.leads.last leads.leads.runs fails lawful).leaves;
  }

pub led : {D : Type 0} (P : Type 0) (alive : D → Bool) (contents : D → Option Contents) (count : D → ℕ) → LockedRunsStand P directory_of alive contents count → TiedAreSound → LogsRetain → LedKeepLocks P alive contents count
led {D} P alive contents count law tied retain was script seed account end why entries c told sound closed leads = keeps_locks P alive contents count law tied retain was script seed account end why entries c told sound closed leads
