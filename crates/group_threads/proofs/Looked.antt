-- Runs in which what is ready may be found again, put together.
use Rattle.std.proofs.Common.{◌≡◌, ℕ, ◌≤◌, Bool, List, [], ◌∷◌, ◌++◌, Option, refl, sym, ap, subst, ◌∙◌, append_assoc}
use Rattle.std.proofs.lemmas.List.{append-nil}
use Rattle.ds_disk.specs.Contents.{Contents}
use Rattle.cache_structure.specs.Directory.{Directory}
use Rattle.group_core.specs.Given.{Crew}
use Rattle.group_core.specs.declared.group.Group.{Group}
use Rattle.group_core.specs.Goes.{Goes}
use Rattle.group_core.specs.Takes.{Takes}
use Rattle.group_core.specs.Runs.{Runs}
use Rattle.group_core.proofs.Going.{on, stays}
use Rattle.group_core.proofs.Taking.{goes_from}
use Rattle.group_core.specs.Fresh.{IsLooked, TakesFresh, RunsFresh, RunsFrom}

module _ {C D P : Type 0} where
  pub looked_same : (g : Group D C P) → IsLooked g g
  looked_same g = record { rest = refl; crew = record { rest = refl; parts = refl } }

  pub looked_twice : (a b c : Group D C P) → IsLooked a b → IsLooked b c → IsLooked a c
  looked_twice a b c first second = record {
    rest = second.rest ∙ ap (λ (g : Group D C P). record g { crew = c.crew }) first.rest;
    crew = record {
      rest = second.crew.rest ∙ ap (λ (w : Crew C P). record w { parts = c.crew.parts; progress = record w.progress { is_idle = c.crew.progress.is_idle }; is_own_stale = c.crew.is_own_stale }) first.crew.rest;
      parts = second.crew.parts ∙ first.crew.parts;
    };
  }

  module _ (directory : C → Directory) (alive : D → Bool) (contents : D → Option Contents) (count : D → ℕ) where
    pub takes_looked : (a b c : Group D C P) (event : ℕ) → IsLooked a b → TakesFresh directory alive contents count b event c → TakesFresh directory alive contents count a event c
    takes_looked a b c event looked taken = record { mid = taken.mid; looked = looked_twice a b taken.mid looked taken.looked; takes = taken.takes }

    pub runs_looked : (events : List ℕ) (a b c : Group D C P) → IsLooked a b → RunsFresh directory alive contents count b events c → RunsFresh directory alive contents count a events c
    runs_looked [] a b c looked runs = looked_twice a b c looked runs
    runs_looked (event ∷ events) a b c looked runs = (runs.0, takes_looked a b runs.0 event looked runs.1, runs.2)

    pub runs_on : (events later : List ℕ) (a b c : Group D C P) → RunsFresh directory alive contents count a events b → RunsFresh directory alive contents count b later c → RunsFresh directory alive contents count a (events ++ later) c
    runs_on [] later a b c first second = runs_looked later a b c first second
    runs_on (event ∷ events) later a b c first second = (first.0, first.1, runs_on events later first.0 b c first.2 second)

    -- events that were taken as they stood
    pub runs_plain : (events : List ℕ) (a b : Group D C P) → Runs directory alive contents count a events b → RunsFresh directory alive contents count a events b
    runs_plain [] a b runs = subst (IsLooked a) (sym runs) (looked_same a)
    runs_plain (event ∷ events) a b runs = (runs.0, record { mid = a; looked = looked_same a; takes = runs.1 }, runs_plain events runs.0 b runs.2)

    -- ---- with what the disk has counted

    abbrev GoesOn : Group D C P → Group D C P → Type 0
    GoesOn a b = Goes (count a.disk) a.faults.items a.fault (count b.disk) b.faults.items b.fault

    pub goes_looked : (a b : Group D C P) → IsLooked a b → GoesOn a b
    goes_looked a b looked = subst (GoesOn a) (sym looked.rest) (stays (count a.disk) a.faults.items a.fault)

    pub goes_fresh : (a b : Group D C P) (event : ℕ) → TakesFresh directory alive contents count a event b → count a.disk ≤ count b.disk → GoesOn a b
    goes_fresh a b event taken later =
        let m = taken.mid in
        let same : count m.disk ≡ count a.disk = ap (λ (g : Group D C P). count g.disk) taken.looked.rest in
        on (count a.disk) (count m.disk) (count b.disk) a.faults.items m.faults.items b.faults.items a.fault m.fault b.fault
        (goes_looked a m taken.looked)
        (goes_from directory alive contents count m event b taken.takes (subst (λ (n : ℕ). n ≤ count b.disk) (sym same) later))

    pub from_looked : (a b : Group D C P) → IsLooked a b → RunsFrom directory alive contents count a b
    from_looked a b looked = record {
      events = [];
      journal = ap (λ (g : Group D C P). g.journal.items) looked.rest ∙ sym (append-nil a.journal.items);
      runs = looked;
      goes = goes_looked a b looked;
    }

    -- one event that was taken as it stood
    pub from_one : (a b : Group D C P) (event : ℕ) → Takes directory alive contents count a event b → count a.disk ≤ count b.disk → RunsFrom directory alive contents count a b
    from_one a b event takes later = record {
      events = event ∷ [];
      journal = takes.journal;
      runs = (b, record { mid = a; looked = looked_same a; takes = takes }, looked_same b);
      goes = goes_from directory alive contents count a event b takes later;
    }

    pub from_on : (a b c : Group D C P) → RunsFrom directory alive contents count a b → RunsFrom directory alive contents count b c → RunsFrom directory alive contents count a c
    from_on a b c first second = record {
      events = first.events ++ second.events;
      journal = second.journal ∙ (ap (λ (l : List ℕ). l ++ second.events) first.journal ∙ append_assoc a.journal.items first.events second.events);
      runs = runs_on first.events second.events a b c first.runs second.runs;
      goes = on (count a.disk) (count b.disk) (count c.disk) a.faults.items b.faults.items c.faults.items a.fault b.fault c.fault first.goes second.goes;
    }
