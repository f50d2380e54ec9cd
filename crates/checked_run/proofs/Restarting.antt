-- A disk to which nothing but group restarts has written.
use Rattle.std.proofs.Common.{◌≡◌, inl, inr, ℕ, Bool, List, [], ◌∷◌, Option, Some, None, Result, Ok, Err, IfErr, refl, sym, subst, ◌∙◌}
use Rattle.std.specs.Result.{IsErrAnd}
use Rattle.ds_base.specs.declared.fault.NoMemory.{NoMemory}
use Rattle.ds_base.specs.declared.names.Volume.{Volume}
use Rattle.ds_base.specs.declared.names.Volume.TheVariants as volume
use Rattle.ds_base.specs.declared.row.Row.{Row}
use Rattle.ds_disk.specs.Contents.{Contents, WhenTold, Becomes, Same}
use Rattle.group_core.specs.declared.fault.RunFault.{RunFault}
use Rattle.group_core.specs.declared.fault.StartFault.{StartFault}
use Rattle.group_core.specs.declared.fault.RunFault.TheVariants as fault
use Rattle.group_core.specs.Starts.{IsOpened, IsOpenedTo, IsUnopened, State, StopsBy}
use Rattle.group_core.specs.Starts.state as state
use Rattle.opening_rows.specs.Reading.{BreaksAt}
use Rattle.opening_rows.specs.declared.fault.LogsFault.{LogsFault}
use Rattle.opening_rows.specs.declared.fault.LogsFault.TheVariants as reading
use Rattle.checked_run.specs.declared.ended.Ended.{Ended}
use Rattle.checked_run.specs.declared.ended.Ended.TheVariants as ended
use Rattle.checked_run.specs.declared.ended.Outcome.{Outcome}
use Rattle.checked_run.specs.declared.ended.Outcome.TheVariants as outcome
use Rattle.restarted_disks.specs.Restarted.{AreRun, IsLeftByRestarts, IsRestarted, IsUnwritten, LogBreaksAt, Restarts}
use Rattle.checked_run.specs.Outcomes.{IsShown}
use Rattle.checked_run.specs.Restarted.{fault_by, IfUnopened, TellsDamageOf}

-- ---- contents that don't change

pub same_self : (a : Option Contents) → Becomes a a Same
same_self None = tt
same_self (Some c) = refl

pub same_on : (a b e : Option Contents) → Becomes a b Same → Becomes b e Same → Becomes a e Same
same_on None b e p q = tt
same_on (Some x) None e p q = absurd p
same_on (Some x) (Some y) None p q = q
same_on (Some x) (Some y) (Some z) p q = q ∙ p

-- ---- one group restart, and one behind another

module _ {D : Type 0} (alive : D → Bool) (contents : D → Option Contents) where
  -- memory was wanting for it
  pub wanting : (old : D) (e : NoMemory) → IsUnopened alive contents old fault.NoMemory old
  wanting old e = record { came = Err e; run = inr (refl, tt); stops = tt }

  -- or the group that was started wasn't taken
  pub untaken : (old new : D) (counter : ℕ) → IsOpenedTo alive contents old counter new → IsUnopened alive contents old fault.NoMemory new
  untaken old new counter run = record { came = Ok (state.Done counter); run = run; stops = tt }

  pub untaken_by : {A : Type 0} (old new : D) (counter : ℕ) (f : StartFault D) (result : Result A (StartFault D)) → IsErrAnd result (λ (x : StartFault D). x ≡ f) → f ≡ record { disk = new; why = fault.NoMemory }
      → IsOpenedTo alive contents old counter new → IfErr result (λ (x : StartFault D). IsUnopened alive contents old x.why x.disk)
  untaken_by {A} old new counter f (Ok a) is left run = tt
  untaken_by {A} old new counter f (Err x) is left run = subst (λ (z : StartFault D). IsUnopened alive contents old z.why z.disk) (sym (is ∙ left)) (untaken old new counter run)

  run_once : (old new : D) (came : Result State NoMemory) → Restarts alive contents old came new → AreRun alive contents old (came ∷ []) new
  run_once old new came run = (old, (new, (same_self (contents old), (run, same_self (contents new)))))

  pub unopened : (old new : D) (why : RunFault) → IsUnopened alive contents old why new → IsRestarted alive contents old (λ v at. why ≡ fault.Damaged v at) new
  unopened old new why it = record {
    came = it.came ∷ [];
    run = run_once old new it.came it.run;
    named = λ v at e. inl (subst (λ w. StopsBy w it.came) e it.stops);
  }

  -- a disk was opened, and group restarts have gone on from there
  pub opened : (old mid new : D) (Tells : Volume → ℕ → Type 0) → IsOpened alive contents old mid → IsRestarted alive contents mid Tells new → IsRestarted alive contents old Tells new
  opened old mid new Tells opens it = record {
    came = Ok (state.Done opens.0) ∷ it.came;
    run = (old, (mid, (same_self (contents old), (opens.1, it.run))));
    named = λ v at tells. inr (it.named v at tells);
  }

  -- it was done, and tells of no damage
  pub closed : (old new : D) (Tells : Volume → ℕ → Type 0) → IsOpened alive contents old new → ((v : Volume) (at : ℕ) → Tells v at → ⊥) → IsRestarted alive contents old Tells new
  closed old new Tells opens none = record {
    came = Ok (state.Done opens.0) ∷ [];
    run = run_once old new (Ok (state.Done opens.0)) opens.1;
    named = λ v at tells. absurd (none v at tells);
  }

  -- what is told of damage is no more than this
  pub restarted_as : (old new : D) (Tells Told : Volume → ℕ → Type 0) → ((v : Volume) (at : ℕ) → Told v at → Tells v at) → IsRestarted alive contents old Tells new → IsRestarted alive contents old Told new
  restarted_as old new Tells Told f it = record { came = it.came; run = it.run; named = λ v at told. it.named v at (f v at told) }

  -- ---- behind the reading of the logs

  run_from : (old read new : D) (came : List (Result State NoMemory)) → Becomes (contents old) (contents read) Same → AreRun alive contents read came new → AreRun alive contents old came new
  run_from old read new [] same run = same_on (contents old) (contents read) (contents new) same run
  run_from old read new (one ∷ more) same run = (run.0, (run.1.0, (same_on (contents old) (contents read) (contents run.0) same run.1.1.0, run.1.1.1)))

  pub restarted_from : (old read new : D) (Tells : Volume → ℕ → Type 0) → Becomes (contents old) (contents read) Same → IsRestarted alive contents read Tells new → IsRestarted alive contents old Tells new
  restarted_from old read new Tells same it = record { came = it.came; run = run_from old read new it.came same it.run; named = it.named }

  pub left_from : (old read new : D) (o : Outcome) → Becomes (contents old) (contents read) Same → IfUnopened o (IsRestarted alive contents read (TellsDamageOf o) new) → IfUnopened o (IsLeftByRestarts alive contents old (TellsDamageOf o) new)
  left_from old read new (outcome.Unopened why) same it = inr (restarted_from old read new (TellsDamageOf (outcome.Unopened why)) same it)
  left_from old read new (outcome.Opened opening end) same it = tt

-- what is shown tells of no damage
pub shown_whole : (rows : List Row) (status : ℕ) (out : Ended) → IsShown rows status out → (v : Volume) (at : ℕ) → out ≡ ended.Damaged v at → ⊥
shown_whole rows status out is v at e = subst (IsShown rows status) e is

-- ---- logs that were not read

broken : (was : Option Contents) (why : LogsFault) → ((member at : ℕ) → why ≡ reading.Damaged member at → WhenTold was (BreaksAt member at)) → (v : Volume) (at : ℕ) → fault_by why ≡ fault.Damaged v at → WhenTold was (LogBreaksAt v at)
broken was reading.Failed damaged v at e = let f : fault.Failed ≡ fault.Damaged v at = e in cc
broken was (reading.Damaged member k) damaged v at e =
    let its : volume.Log member ≡ v = cc in
    let there : k ≡ at = cc in
    subst (λ (u : Volume). WhenTold was (LogBreaksAt u at)) its (subst (λ (j : ℕ). WhenTold was (BreaksAt member j)) there (damaged member k refl))
broken was reading.NoMemory damaged v at e = let f : fault.NoMemory ≡ fault.Damaged v at = e in cc

pub unread : {D : Type 0} (contents : D → Option Contents) (old new : D) (why : LogsFault) → ((member at : ℕ) → why ≡ reading.Damaged member at → WhenTold (contents old) (BreaksAt member at)) → Becomes (contents old) (contents new) Same
    → IsUnwritten contents old (λ v at. fault_by why ≡ fault.Damaged v at) new
unread {D} contents old new why damaged same = record { same = same; damaged = broken (contents old) why damaged }
