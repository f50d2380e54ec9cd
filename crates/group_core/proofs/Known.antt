-- Where the logs of a disk end that a group restart has opened.
use Rattle.std.proofs.Common.{◌≡◌, ℕ, List, Option, Some, None, Result, Ok, Err, IfOk, sym, subst}
use Rattle.std.proofs.lemmas.List.Elements.{All-weaker}
use Rattle.ds_disk.specs.Contents.{Becomes, Contents, log_of}
use Rattle.disk_restart.specs.Ends.{EndsAt, EndsBehind}
use Rattle.group_restart.specs.Machine.{Restart}
use Rattle.group_restart.specs.declared.calls.State.{State}
use Rattle.group_restart.specs.declared.calls.State.TheVariants as state
use Rattle.group_crew.specs.Ends.{AllKnow, AreEndsOf}
use Rattle.group_crew.specs.Happening.{MemberPart}
use Rattle.group_core.specs.declared.fault.RunFault.{RunFault}
use Rattle.group_core.specs.declared.start.Opened.{Opened}
use Rattle.group_core.specs.Starts.{AllKnowDisk, EndsKnown}

pub known_ends : (before now : Option Contents) (restart : Restart) (known : List ℕ) → AreEndsOf restart known → Becomes before now (λ _ c. EndsBehind restart c) → Becomes before now (λ _ c. EndsKnown known c)
known_ends None now restart known are ends = tt
known_ends (Some o) None restart known are ends = ends
known_ends (Some o) (Some c) restart known are ends = λ member first last. subst (λ (end : ℕ). EndsAt end (log_of c.logs member)) (sym (are member first last)) (ends member)

pub opened_ends : (before now : Option Contents) (restart : Restart) (ended : State) (result : Result Opened RunFault) → IfOk result (λ opened. ended ≡ state.Done opened.counter) → IfOk result (λ opened. AreEndsOf restart opened.known)
    → ((counter : ℕ) → ended ≡ state.Done counter → Becomes before now (λ _ c. EndsBehind restart c)) → IfOk result (λ opened. Becomes before now (λ _ c. EndsKnown opened.known c))
opened_ends before now restart ended (Ok opened) done are ends = known_ends before now restart opened.known are (ends opened.counter done)
opened_ends before now restart ended (Err why) done are ends = tt

pub all_know : {P : Type 0} (before now : Option Contents) (known : List ℕ) (parts : List (MemberPart P)) → Becomes before now (λ _ c. EndsKnown known c) → AllKnow known parts → AllKnowDisk before now parts
all_know {P} before now known parts ends all =
    All-weaker (λ (part : MemberPart P). part.known ≡ known) (λ (part : MemberPart P). Becomes before now (λ _ c. EndsKnown part.known c)) (λ part is. subst (λ (k : List ℕ). Becomes before now (λ _ c. EndsKnown k c)) (sym is) ends) parts all
