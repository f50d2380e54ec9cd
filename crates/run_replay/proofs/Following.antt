-- A run becomes longer by a line at its end, or stops there.
use Rattle.std.proofs.Common.{◌≡◌, ℕ, ◌+◌, ◌<◌, Bool, true, List, [], ◌∷◌, ◌++◌, length, take, drop, get_or, Option, Some, slice_get, Result, Ok, Err, IfErr, refl, sym, ap, subst, ◌∙◌, arith}
use Rattle.std.proofs.lemmas.Option.{slice_get-get_or}
use Rattle.std.proofs.lemmas.List.{append-nil, drop_all, take_all, take_more}
use Rattle.ds_disk.specs.Contents.{Contents}
use Rattle.cache_structure.specs.Directory.{Directory}
use Rattle.ds_model.specs.declared.report.EventLine.{EventLine}
use Rattle.ds_model.specs.declared.script.Tran.{Tran}
use Rattle.lock_sights.specs.declared.sight.Sight.{Sight}
use Rattle.claim_sights.specs.declared.quest.Quest.{Quest}
use Rattle.group_core.specs.declared.group.Group.{Group}
use Rattle.cache_structure.specs.State.{directory_of}
use Rattle.ds_disk.specs.Memory.{told}
use Rattle.ds_model.specs.declared.script.Script.{Script}
use Rattle.run_replay.specs.Beginning.{Begins, IsParted, IsUntold, Stage, alive, faults_of}
use Rattle.run_replay.specs.Follows.{Follows, FollowsAll, Stops, StopsIn}
use Rattle.run_replay.specs.Seen.{Dates, Looks, Runs}
use Rattle.run_replay.specs.declared.fault.ReplayFault.{ReplayFault}
use Rattle.run_replay.specs.declared.fault.ReplayFault.TheVariants as faults

follows_end : {C D P : Type 0} (directory : C → Directory) (alive : D → Bool) (contents : D → Option Contents) (count : D → ℕ) (old mid new : Group D C P) (events : List EventLine) (event : EventLine)
    → FollowsAll directory alive contents count old events mid → Follows directory alive contents count true mid event new → FollowsAll directory alive contents count old (events ++ event ∷ []) new
follows_end {C} {D} {P} directory alive contents count old mid new [] event follows next =
    (new, subst (λ (from : Group D C P). Follows directory alive contents count true from event new) follows next, refl)
follows_end directory alive contents count old mid new (first ∷ events) event follows next =
    (follows.0, follows.1, follows_end directory alive contents count follows.0 mid new events event follows.2 next)

pub follows_more : {C D P : Type 0} (directory : C → Directory) (alive : D → Bool) (contents : D → Option Contents) (count : D → ℕ) (old mid new : Group D C P) (events : List EventLine) (n : ℕ) (event : EventLine)
    → n < length events → FollowsAll directory alive contents count old (take n events) mid → Follows directory alive contents count true mid (get_or events n event) new
    → FollowsAll directory alive contents count old (take (n + 1) events) new
follows_more directory alive contents count old mid new events n event lt follows next =
    subst (λ (es : List EventLine). FollowsAll directory alive contents count old es new) (sym (take_more events n event lt))
    (follows_end directory alive contents count old mid new (take n events) (get_or events n event) follows next)

-- ---- with sights

runs_end : {C D P : Type 0} (Step : Group D C P → List Sight → EventLine → Group D C P → List Sight → Type 0) (old mid new : Group D C P) (sights more found : List Sight) (events : List EventLine) (event : EventLine)
    → Runs Step old sights events mid more → Step mid more event new found → Runs Step old sights (events ++ event ∷ []) new found
runs_end {C} {D} {P} Step old mid new sights more found [] event runs next = (
  new,
  found,
  subst (λ (from : Group D C P). Step from sights event new found) runs.0 (subst (λ (so_far : List Sight). Step mid so_far event new found) runs.1 next),
  (refl, refl),
)
runs_end Step old mid new sights more found (first ∷ events) event runs next =
    (runs.0, runs.1, runs.2, runs_end Step runs.0 mid new runs.1 more found events event runs.3 next)

pub runs_more : {C D P : Type 0} (Step : Group D C P → List Sight → EventLine → Group D C P → List Sight → Type 0) (old mid new : Group D C P) (sights more found : List Sight) (events : List EventLine) (n : ℕ) (event : EventLine)
    → n < length events → Runs Step old sights (take n events) mid more → Step mid more (get_or events n event) new found
    → Runs Step old sights (take (n + 1) events) new found
runs_more Step old mid new sights more found events n event lt runs next =
    subst (λ (es : List EventLine). Runs Step old sights es new found) (sym (take_more events n event lt))
    (runs_end Step old mid new sights more found (take n events) (get_or events n event) runs next)

-- a run with sights follows the lines, where each step does
runs_follow : {C D P : Type 0} (directory : C → Directory) (alive : D → Bool) (contents : D → Option Contents) (count : D → ℕ) (Step : Group D C P → List Sight → EventLine → Group D C P → List Sight → Type 0)
    → ((a : Group D C P) (s : List Sight) (e : EventLine) (b : Group D C P) (t : List Sight) → Step a s e b t → Follows directory alive contents count true a e b)
    → (old new : Group D C P) (sights found : List Sight) (events : List EventLine) → Runs Step old sights events new found → FollowsAll directory alive contents count old events new
runs_follow directory alive contents count Step is old new sights found [] runs = runs.0
runs_follow directory alive contents count Step is old new sights found (first ∷ events) runs =
    (runs.0, is old sights first runs.0 runs.1 runs.2, runs_follow directory alive contents count Step is runs.0 new runs.1 found events runs.3)

pub looks_follow : {C D P : Type 0} (directory : C → Directory) (alive : D → Bool) (contents : D → Option Contents) (count : D → ℕ) (roster : List Tran) (quest : Quest) (old new : Group D C P) (sights found : List Sight) (events : List EventLine)
    → Runs (Looks directory alive contents count roster quest) old sights events new found → FollowsAll directory alive contents count old events new
looks_follow directory alive contents count roster quest old new sights found events runs =
    runs_follow directory alive contents count (Looks directory alive contents count roster quest) (λ a s e b t step. step.follows) old new sights found events runs

pub dates_follow : {C D P : Type 0} (directory : C → Directory) (alive : D → Bool) (contents : D → Option Contents) (count : D → ℕ) (old new : Group D C P) (sights found : List Sight) (events : List EventLine)
    → Runs (Dates directory alive contents count) old sights events new found → FollowsAll directory alive contents count old events new
dates_follow directory alive contents count old new sights found events runs =
    runs_follow directory alive contents count (Dates directory alive contents count) (λ a s e b t step. step.follows) old new sights found events runs

-- ---- what can't be followed

pub stops_there : {C D P : Type 0} (directory : C → Directory) (alive : D → Bool) (contents : D → Option Contents) (count : D → ℕ) (start mid new : Group D C P) (events : List EventLine) (n : ℕ) (event : EventLine) (why : ReplayFault)
    → slice_get events n ≡ Some event → FollowsAll directory alive contents count start (take n events) mid → Stops directory alive contents count mid event new why
    → StopsIn directory alive contents count start events why
stops_there directory alive contents count start mid new events n event faults.NoMemory there follows stops = tt
stops_there directory alive contents count start mid new events n event faults.NoTransaction there follows stops = stops
stops_there directory alive contents count start mid new events n event (faults.Parted place) there follows stops = record {
  taken = n;
  group = mid;
  follows = follows;
  event = event;
  there = there;
  new = new;
  parts = stops.0;
  place_is = stops.1;
}

pub parted : (script : Script) (start : Stage) (events : List EventLine) (why : ReplayFault)
    → Begins script start → StopsIn directory_of alive told faults_of start events why → IsParted script events why
parted script start events faults.NoMemory begins stops = tt
parted script start events faults.NoTransaction begins stops = stops
parted script start events (faults.Parted place) begins stops = record { start = start; begins = begins; parts = stops }

pub untold : (script : Script) (events : List EventLine) (name : List ℕ) (why : ReplayFault) → IsParted script events why → IsUntold script events name why
untold script events name faults.NoMemory parts = tt
untold script events name faults.NoTransaction parts = absurd parts
untold script events name (faults.Parted place) parts = parts

-- an error that is handed on
pub carried : {X : Type 0} (r : Result X ReplayFault) (by : ReplayFault) (Q : ReplayFault → Type 0) → ((z : ReplayFault) → r ≡ Err z → by ≡ z) → Q by → IfErr r Q
carried (Ok x) by Q is holds = tt
carried (Err z) by Q is holds = subst Q (is z refl) holds

pub found_there : (events : List EventLine) (n : ℕ) (event : EventLine) → n < length events → event ≡ get_or events n event → slice_get events n ≡ Some event
found_there events n event lt is = slice_get-get_or events n event lt ∙ ap Some (sym is)

-- a whole list that was lent
pub kept_whole : (new items : List Sight) (n : ℕ) → length new ≡ length items → n ≡ length items → take n (new ++ drop (length new) items) ≡ new
kept_whole new items n same len =
    let none : drop (length new) items ≡ [] = drop_all (length new) items (omega arith) in
    ap (λ (rest : List Sight). take n (new ++ rest)) none ∙ (ap (take n) (append-nil new) ∙ take_all n new (omega arith))
