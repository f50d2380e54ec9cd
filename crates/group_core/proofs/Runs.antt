-- A run becomes longer by an event at its end.
use Rattle.std.proofs.Common.{◌≡◌, ℕ, ◌+◌, Bool, List, [], ◌∷◌, ◌++◌, length, Option, refl, sym, ap, subst, ◌∙◌, append_assoc}
use Rattle.std.proofs.lemmas.List.{append-nil, length_push}
use Rattle.ds_disk.specs.Contents.{Contents}
use Rattle.cache_structure.specs.Directory.{Directory}
use Rattle.draw_generator.specs.Draws.{next_state}
use Rattle.group_core.specs.declared.group.Group.{Group}
use Rattle.group_core.specs.Takes.{Takes}
use Rattle.group_core.specs.Runs.{Draws, IsDrawn, Runs}

-- so many events were drawn and taken so far
pub record SoFar {C D P : Type 0} (directory : C → Directory) (alive : D → Bool) (contents : D → Option Contents) (count : D → ℕ) (old : Group D C P) (seed taken : ℕ) (new : Group D C P) (after : ℕ) : Type 0 where
  pub events : List ℕ
  pub number : length events ≡ taken
  pub journal : new.journal.items ≡ old.journal.items ++ events
  pub runs : Runs directory alive contents count old events new
  pub draws : Draws directory alive contents count old seed events new after

pub begins : {C D P : Type 0} (directory : C → Directory) (alive : D → Bool) (contents : D → Option Contents) (count : D → ℕ) (old : Group D C P) (seed : ℕ) → SoFar directory alive contents count old seed 0 old seed
begins directory alive contents count old seed = record { events = []; number = refl; journal = sym (append-nil old.journal.items); runs = refl; draws = (refl, refl) }

runs_more : {C D P : Type 0} (directory : C → Directory) (alive : D → Bool) (contents : D → Option Contents) (count : D → ℕ) (old mid new : Group D C P) (events : List ℕ) (event : ℕ)
    → Runs directory alive contents count old events mid → Takes directory alive contents count mid event new → Runs directory alive contents count old (events ++ event ∷ []) new
runs_more {C} {D} {P} directory alive contents count old mid new [] event runs takes =
    (new, subst (λ (from : Group D C P). Takes directory alive contents count from event new) runs takes, refl)
runs_more directory alive contents count old mid new (first ∷ events) event runs takes =
    (runs.0, runs.1, runs_more directory alive contents count runs.0 mid new events event runs.2 takes)

draws_more : {C D P : Type 0} (directory : C → Directory) (alive : D → Bool) (contents : D → Option Contents) (count : D → ℕ) (old mid new : Group D C P) (seed reached : ℕ) (events : List ℕ) (event : ℕ)
    → Draws directory alive contents count old seed events mid reached → IsDrawn mid reached event → Takes directory alive contents count mid event new → Draws directory alive contents count old seed (events ++ event ∷ []) new (next_state reached)
draws_more {C} {D} {P} directory alive contents count old mid new seed reached [] event draws drawn takes = (
  new,
  subst (λ (at : ℕ). IsDrawn old at event) draws.1 (subst (λ (from : Group D C P). IsDrawn from reached event) draws.0 drawn),
  subst (λ (from : Group D C P). Takes directory alive contents count from event new) draws.0 takes,
  (refl, ap next_state draws.1),
)
draws_more directory alive contents count old mid new seed reached (first ∷ events) event draws drawn takes =
    (draws.0, draws.1, draws.2, draws_more directory alive contents count draws.0 mid new (next_state seed) reached events event draws.3 drawn takes)

pub goes_on : {C D P : Type 0} (directory : C → Directory) (alive : D → Bool) (contents : D → Option Contents) (count : D → ℕ) (old mid new : Group D C P) (seed reached taken event : ℕ)
    → SoFar directory alive contents count old seed taken mid reached → IsDrawn mid reached event → Takes directory alive contents count mid event new → SoFar directory alive contents count old seed (taken + 1) new (next_state reached)
goes_on directory alive contents count old mid new seed reached taken event far drawn takes = record {
  events = far.events ++ event ∷ [];
  number = length_push far.events event ∙ ap (λ n. n + 1) far.number;
  journal = takes.journal ∙ (ap (λ items. items ++ event ∷ []) far.journal ∙ append_assoc old.journal.items far.events (event ∷ []));
  runs = runs_more directory alive contents count old mid new far.events event far.runs takes;
  draws = draws_more directory alive contents count old mid new seed reached far.events event far.draws drawn takes;
}
