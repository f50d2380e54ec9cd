-- What the events of members come to for the whole group.
use Rattle.std.proofs.Common.{◌≡◌, ℕ, zero, suc, Bool, List, [], ◌∷◌, ◌++◌, length, map, Option, refl, sym, ap, subst, ◌∙◌, append_assoc}
use Rattle.std.specs.Prelude.{vec_len}
use Rattle.std.specs.Global.{Vec}
use Rattle.std.proofs.lemmas.List.{append-nil, with_items_is}
use lib.ListN.{length-set, length-map}
use Rattle.ds_disk.specs.Contents.{Contents}
use Rattle.cache_structure.specs.Directory.{Directory}
use Rattle.group_member.specs.declared.part.MemberPart.{MemberPart}
use Rattle.group_core.specs.Given.{unlooked}
use Rattle.group_core.specs.declared.group.Group.{Group}
use Rattle.group_core.specs.Goes.{Goes}
use Rattle.group_core.proofs.Going.{on, stays}
use Rattle.turn_story.specs.Chains.{with_part, Leads}
use Rattle.group_threads.specs.declared.hand.Hand.{Hand}
use Rattle.group_threads.specs.declared.shared.Shared.{Shared}
use Rattle.group_threads.specs.Desks.{member_in}
use Rattle.group_core.specs.Fresh.{IsLooked, TakesFresh, RunsFresh, RunsFrom}
use Rattle.group_threads.specs.Wholes.{parts_in, whole, StepsHand}
use Rattle.group_threads.proofs.Looked.{looked_same, goes_fresh, goes_looked, runs_looked, runs_on}

length-with_part : {P : Type 0} (ps : List P) (c : ℕ) (p : P) → length (with_part ps c p) ≡ length ps
length-with_part ps zero p = refl
length-with_part ps (suc k) p = length-set ps k p

module _ {C D P : Type 0} (directory : C → Directory) (alive : D → Bool) (contents : D → Option Contents) (count : D → ℕ) (base : Vec (MemberPart P)) where
  abbrev Leading : Shared D C P → List (Hand P) → List ℕ → Shared D C P → List (Hand P) → Type 0
  Leading old hands events new left = Leads member_in (StepsHand directory alive contents count) old hands events new left

  -- the events of members that lead from what is shared and these hands to those, lead from the one whole group to the other
  pub chained : (events : List ℕ) (old new : Shared D C P) (hands left : List (Hand P)) → length hands ≡ vec_len base → Leading old hands events new left
      → RunsFresh directory alive contents count (whole base old hands) events (whole base new left)
  chained [] old new hands left long leads =
      subst (λ (t : Shared D C P × List (Hand P)). IsLooked (whole base old hands) (whole base t.0 t.1)) (λ i. (sym leads.0 i, sym leads.1 i)) (looked_same (whole base old hands))
  chained (event ∷ events) old new hands left long leads =
      let next = leads.1 in
      let goes = leads.2 in
      let same : length next ≡ vec_len base = ap length goes.left ∙ (length-with_part hands (member_in event) goes.has ∙ long) in (
        whole base leads.0 next,
        subst (λ (hs : List (Hand P)). TakesFresh directory alive contents count (whole base old hands) event (whole base leads.0 hs)) (sym goes.left) (goes.step.takes base hands long goes.mine),
        chained events leads.0 new next left same leads.3,
      )

  abbrev Counts : Shared D C P → Shared D C P → Type 0
  Counts old new = Goes (count old.group.disk) old.group.faults.items old.group.fault (count new.group.disk) new.group.faults.items new.group.fault

  pub counted : (events : List ℕ) (old new : Shared D C P) (hands left : List (Hand P)) → length hands ≡ vec_len base → Leading old hands events new left → Counts old new
  counted [] old new hands left long leads = subst (Counts old) (sym leads.0) (stays (count old.group.disk) old.group.faults.items old.group.fault)
  counted (event ∷ events) old new hands left long leads =
      let mid = leads.0 in
      let next = leads.1 in
      let goes = leads.2 in
      let same : length next ≡ vec_len base = ap length goes.left ∙ (length-with_part hands (member_in event) goes.has ∙ long) in
      let first : Counts old mid = goes_fresh directory alive contents count (whole base old hands) (whole base mid (with_part hands (member_in event) goes.has)) event (goes.step.takes base hands long goes.mine) goes.step.later in
      on (count old.group.disk) (count mid.group.disk) (count new.group.disk) old.group.faults.items mid.group.faults.items new.group.faults.items old.group.fault mid.group.fault new.group.fault
      first (counted events mid new next left same leads.3)

-- ---- taking apart and putting together

-- where nothing but the list of the members is another, and these but for what is ready are the same
pub looked_parts : {C D P : Type 0} (g h : Group D C P) → h ≡ record g { crew = record g.crew { parts = h.crew.parts } } → map unlooked h.crew.parts.items ≡ map unlooked g.crew.parts.items → IsLooked g h
looked_parts {C} {D} {P} g h same parts = record {
  rest = subst (λ (x : Group D C P). x ≡ record g { crew = x.crew }) (sym same) refl;
  crew = record {
    rest = subst (λ (x : Group D C P). x.crew ≡ record g.crew { parts = x.crew.parts; progress = record g.crew.progress { is_idle = x.crew.progress.is_idle }; is_own_stale = x.crew.is_own_stale }) (sym same) refl;
    parts = parts;
  };
}

-- the journal has the events
journal_of : {C D P : Type 0} (directory : C → Directory) (alive : D → Bool) (contents : D → Option Contents) (count : D → ℕ) (events : List ℕ) (a b : Group D C P)
    → RunsFresh directory alive contents count a events b → b.journal.items ≡ a.journal.items ++ events
journal_of {C} {D} {P} directory alive contents count [] a b looked = ap (λ (g : Group D C P). g.journal.items) looked.rest ∙ sym (append-nil a.journal.items)
journal_of {C} {D} {P} directory alive contents count (event ∷ events) a b runs =
    journal_of directory alive contents count events runs.0 b runs.2
    ∙ (ap (λ (l : List ℕ). l ++ events) (runs.1.takes.journal ∙ ap (λ (g : Group D C P). g.journal.items ++ event ∷ []) runs.1.looked.rest) ∙ append_assoc a.journal.items (event ∷ []) events)

-- a phase of a group that was taken apart for it, and put together again
pub phase_runs : {C D P : Type 0} (directory : C → Directory) (alive : D → Bool) (contents : D → Option Contents) (count : D → ℕ) (events : List ℕ) (old new : Group D C P) (shared value : Shared D C P) (hands left : List (Hand P))
    → shared.group ≡ record old { crew = record old.crew { parts = shared.group.crew.parts } } → parts_in hands ≡ old.crew.parts.items
    → Leads member_in (StepsHand directory alive contents count) shared hands events value left
    → length left ≡ length hands
    → new ≡ record value.group { crew = record value.group.crew { parts = new.crew.parts } } → map unlooked new.crew.parts.items ≡ map unlooked (parts_in left)
    → RunsFrom directory alive contents count old new
phase_runs {C} {D} {P} directory alive contents count events old new shared value hands left begins parts leads kept ends back =
    let base = old.crew.parts in
    let long : length hands ≡ vec_len base = sym (length-map hands (λ (h : Hand P). h.part)) ∙ (ap length parts ∙ sym base.ok.0) in
    let first = whole base shared hands in
    let last = whole base value left in
    let there : first.crew.parts.items ≡ old.crew.parts.items = with_items_is base (parts_in hands) (length-map hands (λ (h : Hand P). h.part) ∙ long) ∙ parts in
    let here : last.crew.parts.items ≡ parts_in left = with_items_is base (parts_in left) (length-map left (λ (h : Hand P). h.part) ∙ (kept ∙ long)) in
    let opened : IsLooked old first = looked_parts old first (ap (λ (g : Group D C P). record g { crew = record g.crew { parts = first.crew.parts } }) begins) (ap (map unlooked) there) in
    let closed : IsLooked last new = looked_parts last new ends (back ∙ ap (map unlooked) (sym here)) in
    let ran = chained directory alive contents count base events shared value hands left long leads in
    let runs = runs_looked directory alive contents count events old first last opened ran in
    let all : RunsFresh directory alive contents count old events new = subst (λ (l : List ℕ). RunsFresh directory alive contents count old l new) (append-nil events) (runs_on directory alive contents count events [] old last new runs closed) in
    let counts = counted directory alive contents count base events shared value hands left long leads in
    record {
      events = events;
      journal = journal_of directory alive contents count events old new all;
      runs = all;
      goes = on (count old.disk) (count shared.group.disk) (count new.disk) old.faults.items shared.group.faults.items new.faults.items old.fault shared.group.fault new.fault (goes_looked directory alive contents count old first opened)
          (on (count shared.group.disk) (count value.group.disk) (count new.disk) shared.group.faults.items value.group.faults.items new.faults.items shared.group.fault value.group.fault new.fault counts (goes_looked directory alive contents count last new closed));
    }
