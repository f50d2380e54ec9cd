-- The refusals of a run.
use Rattle.std.proofs.Common.{◌≡◌, ℕ, Bool, true, List, [], ◌∷◌, ◌++◌, Option, refl, sym, ap, subst}
use Rattle.ds_disk.specs.Contents.{Contents}
use Rattle.ds_model.specs.declared.fate.Refusal.{Refusal}
use Rattle.cache_structure.specs.Directory.{Directory}
use Rattle.needs_law.specs.Lawful.{SendsLawfully}
use Rattle.script_fates.specs.Fated.{FatesState, no_fates}
use Rattle.group_core.specs.Given.{Crew}
use Rattle.group_core.specs.declared.fault.RunFault.{RunFault}
use Rattle.group_core.specs.declared.group.Group.{Group}
use Rattle.group_core.specs.Fresh.{IsLooked, RunsFresh}
use Rattle.refusal_causes.specs.Laws.{CausesHeld, is_lawful}
use Rattle.refusal_causes.specs.Moments.{AllCaused, HeldInRun, HoldsAt}
use Rattle.refusal_causes.proofs.Known.{Claim}
use Rattle.refusal_causes.proofs.Taking.{GroupKnown, takes_known}

module _ {C D P : Type 0} (directory : C → Directory) (alive : D → Bool) (contents : D → Option Contents) (count : D → ℕ) (law : SendsLawfully) (K : Claim) where
  -- a look for what is ready changes no fate
  looked : (old new : Group D C P) → IsLooked old new → GroupKnown K old → GroupKnown K new
  looked old new l known lawful =
      let fates : new.crew.fates ≡ old.crew.fates = ap (λ (c : Crew C P). c.fates) l.crew.rest in
      let fault : new.fault ≡ old.fault = ap (λ (g : Group D C P). g.fault) l.rest in
      subst (AllCaused K) (sym fates) (known (subst (λ (why : Option RunFault). is_lawful why ≡ true) fault lawful))

  runs : (events : List ℕ) (old new : Group D C P) → ((number : ℕ) (why : Refusal) (named : ℕ) → HeldInRun directory alive contents count old events new number why named → K number why named) → RunsFresh directory alive contents count old events new → GroupKnown K old → GroupKnown K new
  runs [] old new closed r known = looked old new r known
  runs (event ∷ events) old new closed r known =
      let first = r.1 in
      let at_once = λ (number : ℕ) (why : Refusal) (named : ℕ) (h : HoldsAt directory alive contents first.mid event r.0 number why named).
      closed number why named (record {
        events = [];
        event = event;
        rest = events;
        before = first.mid;
        after = r.0;
        splits = refl;
        leads = first.looked;
        takes = first.takes;
        goes_on = r.2;
        holds = h;
      }) in
      let later = λ (number : ℕ) (why : Refusal) (named : ℕ) (h : HeldInRun directory alive contents count r.0 events new number why named).
      closed number why named (record {
        events = event ∷ h.events;
        event = h.event;
        rest = h.rest;
        before = h.before;
        after = h.after;
        splits = ap (λ (es : List ℕ). event ∷ es) h.splits;
        leads = (r.0, r.1, h.leads);
        takes = h.takes;
        goes_on = h.goes_on;
        holds = h.holds;
      }) in
      let here : GroupKnown K r.0 = takes_known directory alive contents count law K first.mid event r.0 at_once first.takes (looked old first.mid first.looked known) in
      runs events r.0 new later r.2 here

-- the cause of each refusal of a run held at one of its events
pub causes_held : {C D : Type 0} (P : Type 0) (directory : C → Directory) (alive : D → Bool) (contents : D → Option Contents) (count : D → ℕ) → SendsLawfully → CausesHeld P directory alive contents count
causes_held {C} {D} P directory alive contents count law start journal last fresh led lawful =
    let K = HeldInRun directory alive contents count start journal last in
    let none : AllCaused K no_fates = record { entries = tt; causes = tt } in
    let begins : AllCaused K start.crew.fates = subst (AllCaused K) (sym fresh.unfated) none in
    runs directory alive contents count law K journal start last (λ number why named h. h) led (λ is. begins) lawful
