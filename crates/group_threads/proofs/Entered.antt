-- What an event of one member comes to, step by step.
use Rattle.std.proofs.Common.{◌≡◌, ℕ, ◌/◌, ◌≤◌, Bool, true, false, [], ◌∷◌, ◌++◌, length, Option, Some, None, refl, sym, ap, subst, ◌∙◌}
use Rattle.ds_base.specs.Causes.{Rose}
use Rattle.ds_disk.specs.Contents.{Contents}
use Rattle.cache_structure.specs.Directory.{Directory}
use Rattle.group_member.specs.declared.part.MemberPart.{MemberPart}
use Rattle.group_member.specs.declared.stepped.Stepped.{Stepped}
use Rattle.group_member.specs.Happening.{Comes}
use Rattle.group_member.specs.Members.{Member, member_of}
use Rattle.group_member.specs.Refusing.{IsRefused}
use Rattle.group_member.specs.Stepping.{has_failed}
use Rattle.group_core.specs.Given.{unlooked}
use Rattle.group_core.specs.declared.fault.RunFault.{RunFault}
use Rattle.group_core.specs.declared.fault.RunFault.TheVariants as fault
use Rattle.group_core.specs.Goes.{noted}
use Rattle.group_core.specs.Takes.{is_read, world_of}
use Rattle.group_threads.specs.declared.hand.Hand.{Hand}
use Rattle.group_threads.specs.declared.shared.Shared.{Shared}
use Rattle.group_threads.specs.Happening.{ByFault, MadeAlone, RefusedAlone, TakesAlone, Leaves, takes_alone}
use Rattle.group_threads.specs.Wholes.{StepsHand}
use Rattle.group_threads.proofs.Alone.{Rest, Left, Made, steps_hand}

module _ {C D P : Type 0} (directory : C → Directory) (alive : D → Bool) (contents : D → Option Contents) where
  -- ---- an event that isn't taken

  pub untaken : (old new : Shared D C P) (p q : MemberPart P) (event place : ℕ) → takes_alone old p event ≡ false → new ≡ record old { group = record old.group { lines = new.group.lines } } → q ≡ p
      → TakesAlone directory alive contents old p event place new q false
  untaken old new p q event place fails same part = record {
    left = λ none. (same, part);
    missed = λ none. refl;
    rest = λ i. record new {
      group = record new.group {
        crew = record new.group.crew {
          parts = ap (λ (s : Shared D C P). s.group.crew.parts) same i;
          script = ap (λ (s : Shared D C P). s.group.crew.script) same i;
          progress = record new.group.crew.progress {
            begun = ap (λ (s : Shared D C P). s.group.crew.progress.begun) same i;
            groupfails = ap (λ (s : Shared D C P). s.group.crew.progress.groupfails) same i;
          };
          restart = ap (λ (s : Shared D C P). s.group.crew.restart) same i;
          is_own_stale = ap (λ (s : Shared D C P). s.group.crew.is_own_stale) same i;
          sizes = ap (λ (s : Shared D C P). s.group.crew.sizes) same i;
        };
        journal = ap (λ (s : Shared D C P). s.group.journal) same i;
        faults = ap (λ (s : Shared D C P). s.group.faults) same i;
      };
      count = ap (λ (s : Shared D C P). s.count) same i;
    };
    made = λ is_taken. (let never : false ≡ true = sym fails ∙ is_taken in cc);
  }

  -- ---- an event that is taken

  module _ (old mid new : Shared D C P) (leaves : Leaves old mid) (entered : new ≡ record mid { group = record mid.group { lines = new.group.lines; fault = new.group.fault }; stale = new.stale; listening = new.listening }) where
    left_rest : new ≡ record old { group = record old.group { disk = new.group.disk; crew = record old.group.crew { facility = new.group.crew.facility; fates = new.group.crew.fates; was_half = new.group.crew.was_half; progress = record old.group.crew.progress { is_idle = new.group.crew.progress.is_idle } }; lines = new.group.lines; fault = new.group.fault }; stale = new.stale; listening = new.listening }
    left_rest = λ i. record new {
      group = record new.group {
        crew = record new.group.crew {
          parts = (ap (λ (s : Shared D C P). s.group.crew.parts) entered ∙ ap (λ (s : Shared D C P). s.group.crew.parts) leaves.rest) i;
          script = (ap (λ (s : Shared D C P). s.group.crew.script) entered ∙ ap (λ (s : Shared D C P). s.group.crew.script) leaves.rest) i;
          progress = record new.group.crew.progress {
            begun = (ap (λ (s : Shared D C P). s.group.crew.progress.begun) entered ∙ ap (λ (s : Shared D C P). s.group.crew.progress.begun) leaves.rest) i;
            groupfails = (ap (λ (s : Shared D C P). s.group.crew.progress.groupfails) entered ∙ ap (λ (s : Shared D C P). s.group.crew.progress.groupfails) leaves.rest) i;
          };
          restart = (ap (λ (s : Shared D C P). s.group.crew.restart) entered ∙ ap (λ (s : Shared D C P). s.group.crew.restart) leaves.rest) i;
          is_own_stale = (ap (λ (s : Shared D C P). s.group.crew.is_own_stale) entered ∙ ap (λ (s : Shared D C P). s.group.crew.is_own_stale) leaves.rest) i;
          sizes = (ap (λ (s : Shared D C P). s.group.crew.sizes) entered ∙ ap (λ (s : Shared D C P). s.group.crew.sizes) leaves.rest) i;
        };
        journal = (ap (λ (s : Shared D C P). s.group.journal) entered ∙ ap (λ (s : Shared D C P). s.group.journal) leaves.rest) i;
        faults = (ap (λ (s : Shared D C P). s.group.faults) entered ∙ ap (λ (s : Shared D C P). s.group.faults) leaves.rest) i;
      };
      count = (ap (λ (s : Shared D C P). s.count) entered ∙ ap (λ (s : Shared D C P). s.count) leaves.rest) i;
    }

    -- what was wanted may not be done
    pub refused : (p q : MemberPart P) (event place : ℕ) → takes_alone old p event ≡ true → new.group.fault ≡ Some (fault.Unlawful place)
        → IsRefused (member_of p) (world_of directory alive contents old.group.crew.facility old.group.disk) place (world_of directory alive contents mid.group.crew.facility mid.group.disk)
        → TakesAlone directory alive contents old p event place new q false
    refused p q event place holds why cause = record {
      left = λ none. (let never : true ≡ false = sym holds ∙ none in cc);
      missed = λ none. refl;
      rest = left_rest;
      made = λ is_taken. subst (λ w. ByFault directory alive contents w old p (event / 64) place new q false) (sym why) (record {
        there = refl;
        unfailed = refl;
        cause = subst (λ (s : Shared D C P). IsRefused (member_of p) (world_of directory alive contents old.group.crew.facility old.group.disk) place (world_of directory alive contents s.group.crew.facility s.group.disk)) (sym entered) cause;
      });
    }

    read_by : (why : Option RunFault) (p q : MemberPart P) (choice place : ℕ) (failed : Bool) → is_read why ≡ true → MadeAlone directory alive contents old p choice place new q failed → ByFault directory alive contents why old p choice place new q failed
    read_by None p q choice place failed reads it = it
    read_by (Some fault.Failed) p q choice place failed reads it = cc
    read_by (Some (fault.Damaged volume at)) p q choice place failed reads it = it
    read_by (Some (fault.Unlawful refused)) p q choice place failed reads it = cc
    read_by (Some fault.NoMemory) p q choice place failed reads it = cc

    -- the step was made
    pub stepped_alone : (p m q : MemberPart P) (event place : ℕ) (stepped : Stepped) → takes_alone old p event ≡ true → is_read new.group.fault ≡ true → unlooked q ≡ unlooked m → m.known ≡ p.known
        → Comes old.group.crew.script old.group.crew.progress.begun old.group.crew.sizes.sizes (event / 64) (member_of p) (world_of directory alive contents old.group.crew.facility old.group.disk) old.group.crew.fates place stepped (member_of m) (world_of directory alive contents mid.group.crew.facility mid.group.disk) mid.group.crew.fates
        → TakesAlone directory alive contents old p event place new q (has_failed stepped)
    stepped_alone p m q event place stepped holds reads same known comes =
        let member : member_of m ≡ member_of q = sym (ap member_of same) in
        record {
          left = λ none. (let never : true ≡ false = sym holds ∙ none in cc);
          missed = λ none. (let never : true ≡ false = sym holds ∙ none in cc);
          rest = left_rest;
          made = λ is_taken. read_by new.group.fault p q (event / 64) place (has_failed stepped) reads (record {
            stepped = stepped;
            failure = refl;
            comes =
                subst (λ (s : Shared D C P). Comes old.group.crew.script old.group.crew.progress.begun old.group.crew.sizes.sizes (event / 64) (member_of p) (world_of directory alive contents old.group.crew.facility old.group.disk) old.group.crew.fates place stepped (member_of q) (world_of directory alive contents s.group.crew.facility s.group.disk) s.group.crew.fates) (sym entered)
                (subst (λ (n : Member). Comes old.group.crew.script old.group.crew.progress.begun old.group.crew.sizes.sizes (event / 64) (member_of p) (world_of directory alive contents old.group.crew.facility old.group.disk) old.group.crew.fates place stepped n (world_of directory alive contents mid.group.crew.facility mid.group.disk) mid.group.crew.fates) member comes);
            known = ap (λ (part : MemberPart P). part.known) same ∙ known;
          });
        }

  -- ---- the event with its number

  module _ (count : D → ℕ) (old mid after new : Shared D C P) (p q : Hand P) (fresh : MemberPart P) (event place : ℕ) (failed : Bool) (stands : place ≡ length mid.group.journal.items)
      (begins : mid ≡ record old { group = record old.group { journal = mid.group.journal; lines = mid.group.lines; faults = mid.group.faults }; stale = mid.stale })
      (takes : TakesAlone directory alive contents mid fresh event place after q.part failed)
      (ends : new ≡ record after { group = record after.group { faults = new.group.faults } }) where
    event_rest : Rest directory alive contents count old new p q event fresh failed
    event_rest = λ i. record new.group {
      crew = record new.group.crew {
        parts = (ap (λ (s : Shared D C P). s.group.crew.parts) ends ∙ (ap (λ (s : Shared D C P). s.group.crew.parts) takes.rest ∙ ap (λ (s : Shared D C P). s.group.crew.parts) begins)) i;
        script = (ap (λ (s : Shared D C P). s.group.crew.script) ends ∙ (ap (λ (s : Shared D C P). s.group.crew.script) takes.rest ∙ ap (λ (s : Shared D C P). s.group.crew.script) begins)) i;
        progress = record new.group.crew.progress {
          begun = (ap (λ (s : Shared D C P). s.group.crew.progress.begun) ends ∙ (ap (λ (s : Shared D C P). s.group.crew.progress.begun) takes.rest ∙ ap (λ (s : Shared D C P). s.group.crew.progress.begun) begins)) i;
          groupfails = (ap (λ (s : Shared D C P). s.group.crew.progress.groupfails) ends ∙ (ap (λ (s : Shared D C P). s.group.crew.progress.groupfails) takes.rest ∙ ap (λ (s : Shared D C P). s.group.crew.progress.groupfails) begins)) i;
        };
        restart = (ap (λ (s : Shared D C P). s.group.crew.restart) ends ∙ (ap (λ (s : Shared D C P). s.group.crew.restart) takes.rest ∙ ap (λ (s : Shared D C P). s.group.crew.restart) begins)) i;
        is_own_stale = (ap (λ (s : Shared D C P). s.group.crew.is_own_stale) ends ∙ (ap (λ (s : Shared D C P). s.group.crew.is_own_stale) takes.rest ∙ ap (λ (s : Shared D C P). s.group.crew.is_own_stale) begins)) i;
        sizes = (ap (λ (s : Shared D C P). s.group.crew.sizes) ends ∙ (ap (λ (s : Shared D C P). s.group.crew.sizes) takes.rest ∙ ap (λ (s : Shared D C P). s.group.crew.sizes) begins)) i;
      };
    }

    same_taken : takes_alone mid fresh event ≡ takes_alone old fresh event
    same_taken = ap (λ (s : Shared D C P). takes_alone s fresh event) begins

    same_journal : new.group.journal.items ≡ mid.group.journal.items
    same_journal = ap (λ (s : Shared D C P). s.group.journal.items) ends ∙ ap (λ (s : Shared D C P). s.group.journal.items) takes.rest

    there : place ≡ length new.group.journal.items
    there = stands ∙ ap length (sym same_journal)

    event_left : Left directory alive contents count old new p q event fresh failed
    event_left none =
        let left = takes.left (same_taken ∙ none) in (
          λ i. record new.group {
            disk = (ap (λ (s : Shared D C P). s.group.disk) ends ∙ (ap (λ (s : Shared D C P). s.group.disk) left.0 ∙ ap (λ (s : Shared D C P). s.group.disk) begins)) i;
            crew = (ap (λ (s : Shared D C P). s.group.crew) ends ∙ (ap (λ (s : Shared D C P). s.group.crew) left.0 ∙ ap (λ (s : Shared D C P). s.group.crew) begins)) i;
            fault = (ap (λ (s : Shared D C P). s.group.fault) ends ∙ (ap (λ (s : Shared D C P). s.group.fault) left.0 ∙ ap (λ (s : Shared D C P). s.group.fault) begins)) i;
          },
          left.1,
        )

    made_as : MadeAlone directory alive contents mid fresh (event / 64) place after q.part failed → MadeAlone directory alive contents old fresh (event / 64) place new q.part failed
    made_as it = record {
      stepped = it.stepped;
      failure = it.failure;
      comes =
          subst (λ (s : Shared D C P). Comes old.group.crew.script old.group.crew.progress.begun old.group.crew.sizes.sizes (event / 64) (member_of fresh) (world_of directory alive contents old.group.crew.facility old.group.disk) old.group.crew.fates place it.stepped (member_of q.part) (world_of directory alive contents s.group.crew.facility s.group.disk) s.group.crew.fates) (sym ends)
          (subst (λ (s : Shared D C P). Comes s.group.crew.script s.group.crew.progress.begun s.group.crew.sizes.sizes (event / 64) (member_of fresh) (world_of directory alive contents s.group.crew.facility s.group.disk) s.group.crew.fates place it.stepped (member_of q.part) (world_of directory alive contents after.group.crew.facility after.group.disk) after.group.crew.fates) begins it.comes);
      known = it.known;
    }

    refused_as : (refused : ℕ) → RefusedAlone directory alive contents mid fresh place refused after failed → RefusedAlone directory alive contents old fresh place refused new failed
    refused_as refused it = record {
      there = it.there;
      unfailed = it.unfailed;
      cause =
          subst (λ (s : Shared D C P). IsRefused (member_of fresh) (world_of directory alive contents old.group.crew.facility old.group.disk) place (world_of directory alive contents s.group.crew.facility s.group.disk)) (sym ends)
          (subst (λ (s : Shared D C P). IsRefused (member_of fresh) (world_of directory alive contents s.group.crew.facility s.group.disk) place (world_of directory alive contents after.group.crew.facility after.group.disk)) begins it.cause);
    }

    by_fault_as : (why : Option RunFault) → ByFault directory alive contents why mid fresh (event / 64) place after q.part failed → ByFault directory alive contents why old fresh (event / 64) place new q.part failed
    by_fault_as None it = made_as it
    by_fault_as (Some (fault.Damaged volume at)) it = made_as it
    by_fault_as (Some (fault.Unlawful refused)) it = refused_as refused it
    by_fault_as (Some fault.Failed) it = absurd it
    by_fault_as (Some fault.NoMemory) it = absurd it

    event_made : Made directory alive contents count old new p q event fresh failed
    event_made is_taken =
        let why : after.group.fault ≡ new.group.fault = sym (ap (λ (s : Shared D C P). s.group.fault) ends) in
        subst (λ w. ByFault directory alive contents w old fresh (event / 64) (length new.group.journal.items) new q.part failed) why
        (subst (λ (n : ℕ). ByFault directory alive contents after.group.fault old fresh (event / 64) n new q.part failed) there
        (by_fault_as after.group.fault (takes.made (same_taken ∙ is_taken))))

    -- what is left is what a member's event comes to
    pub event_steps : unlooked fresh ≡ unlooked p.part → mid.group.journal.items ≡ old.group.journal.items ++ event ∷ [] → mid.group.faults.items ≡ old.group.faults.items
        → new.group.faults.items ≡ noted after.group.faults.items place failed → count mid.group.disk ≤ count after.group.disk → (failed ≡ true → Rose (count mid.group.disk) (count after.group.disk))
        → StepsHand directory alive contents count old p event new q
    event_steps looked journal none faults later rose =
        let before : count mid.group.disk ≡ count old.group.disk = ap (λ (s : Shared D C P). count s.group.disk) begins in
        let behind : count after.group.disk ≡ count new.group.disk = sym (ap (λ (s : Shared D C P). count s.group.disk) ends) in
        let was : after.group.faults.items ≡ old.group.faults.items = ap (λ (s : Shared D C P). s.group.faults.items) takes.rest ∙ none in
        let noted_as : new.group.faults.items ≡ noted old.group.faults.items (length new.group.journal.items) failed = faults ∙ (λ i. noted (was i) (there i) failed) in
        steps_hand directory alive contents count old new p q event fresh failed event_rest looked (same_journal ∙ journal) noted_as
        (λ has. subst (λ n. Rose n (count new.group.disk)) before (subst (Rose (count mid.group.disk)) behind (rose has)))
        event_left (λ none_taken. takes.missed (same_taken ∙ none_taken)) event_made
        (subst (λ n. n ≤ count new.group.disk) before (subst (λ n. count mid.group.disk ≤ n) behind later))
