-- Group restarts that were run over a sound disk, one after the other.
use Rattle.std.proofs.Common.{◌≡◌, inl, inr, ℕ, Bool, List, [], ◌∷◌, Option, Some, None, Result, Ok, IfOk, refl, sym, subst, ◌∙◌}
use Rattle.ds_base.specs.declared.fault.NoMemory.{NoMemory}
use Rattle.ds_base.specs.declared.names.Volume.{Volume}
use Rattle.ds_disk.specs.Contents.{Contents, WhenTold, Becomes, Same}
use Rattle.ds_model.specs.Rows.{Rows}
use Rattle.group_restart.specs.declared.calls.State.{State}
use Rattle.group_restart.specs.declared.calls.State.TheVariants as state
use Rattle.restarted_disks.specs.Restarted.{AreRun, IsLeftByRestarts, IsNamed, IsRestarted, IsUnwritten, LogBreaksAt}
use Rattle.sound_disk.specs.Sound.{IsSoundDisk}
use Rattle.restart_soundness.specs.Runs.{EndsWith, IsLeft, KeepsRows, LeftDisksAreSound, RestartsLeaveDisksSound}
use Rattle.sound_plays.specs.Plays.{StaysSound}
use Rattle.sound_plays.proofs.Unbroken.{Readings, unbroken}

-- the disk has stayed sound, and none of these group restarts has named damage
record Stays (came : List (Result State NoMemory)) (c d : Contents) : Type 0 where
  sound : IsSoundDisk d
  rows : KeepsRows c d
  none : (v : Volume) (at : ℕ) → IsNamed came v at → ⊥

-- ---- one after the other

same_stays : (a b : Option Contents) → Becomes a b Same → Becomes a b (λ c d. IsSoundDisk c → Stays [] c d)
same_stays None b same = tt
same_stays (Some c) None same = absurd same
same_stays (Some c) (Some d) same = λ sound. subst (λ (x : Contents). Stays [] c x) (sym same) (record { sound = sound; rows = λ rows stand. stand; none = λ v at named. named })

one_none : (came : Result State NoMemory) (c d : Contents) → IfOk came (λ s. EndsWith c s d) → (v : Volume) (at : ℕ) → came ≡ Ok (state.Damaged v at) → ⊥
one_none came c d ends v at e = subst (λ (r : Result State NoMemory). IfOk r (λ s. EndsWith c s d)) e ends

more_stay : LeftDisksAreSound → (came : Result State NoMemory) (more : List (Result State NoMemory)) (c d e : Contents) → IsLeft came c d → (IsSoundDisk d → Stays more d e) → Stays (came ∷ more) c e
more_stay left came more c d e is on =
    let rest = on (left d is.sound) in
    record {
      sound = rest.sound;
      rows = λ rows stand. rest.rows rows (is.rows rows stand);
      none = λ v at named. elim named [ inl here ↦ one_none came c d is.ends v at here | inr there ↦ rest.none v at there ];
    }

joined : LeftDisksAreSound → (came : Result State NoMemory) (more : List (Result State NoMemory)) (a b m n : Option Contents) → Becomes a b Same → Becomes b m (λ c d. IsSoundDisk c → IsLeft came c d) → Becomes m n (λ c d. IsSoundDisk c → Stays more c d)
    → Becomes a n (λ c d. IsSoundDisk c → Stays (came ∷ more) c d)
joined left came more None b m n same one rest = tt
joined left came more (Some c) None m n same one rest = absurd same
joined left came more (Some c) (Some d) None n same one rest = absurd one
joined left came more (Some c) (Some d) (Some e) None same one rest = absurd rest
joined left came more (Some c) (Some d) (Some e) (Some f) same one rest = λ sound. more_stay left came more c e f (subst (λ (x : Contents). IsSoundDisk x → IsLeft came x e) same one sound) rest

-- ---- a whole call

named_by : (Tells : Volume → ℕ → Type 0) (came : List (Result State NoMemory)) (a b : Option Contents) → ((v : Volume) (at : ℕ) → Tells v at → IsNamed came v at) → Becomes a b (λ c d. IsSoundDisk c → Stays came c d)
    → Becomes a b (λ c d. IsSoundDisk c → StaysSound Tells c d)
named_by Tells came None b named h = tt
named_by Tells came (Some c) None named h = absurd h
named_by Tells came (Some c) (Some d) named h = λ sound. record { sound = (h sound).sound; rows = (h sound).rows; whole = λ v at tells. (h sound).none v at (named v at tells) }

unwritten : Readings → (Tells : Volume → ℕ → Type 0) (a b : Option Contents) → Becomes a b Same → ((v : Volume) (at : ℕ) → Tells v at → WhenTold a (LogBreaksAt v at)) → Becomes a b (λ c d. IsSoundDisk c → StaysSound Tells c d)
unwritten k Tells None b same damaged = tt
unwritten k Tells (Some c) None same damaged = absurd same
unwritten k Tells (Some c) (Some d) same damaged = λ sound.
    subst (λ (x : Contents). StaysSound Tells c x) (sym same) (record { sound = sound; rows = λ rows stand. stand; whole = λ v at tells. unbroken k c sound v at (damaged v at tells) })

module _ {D : Type 0} (alive : D → Bool) (contents : D → Option Contents) (left : LeftDisksAreSound) (restarts : RestartsLeaveDisksSound alive contents) where
  run_stays : (old new : D) (came : List (Result State NoMemory)) → AreRun alive contents old came new → Becomes (contents old) (contents new) (λ c d. IsSoundDisk c → Stays came c d)
  run_stays old new [] run = same_stays (contents old) (contents new) run
  run_stays old new (one ∷ more) run =
      joined left one more (contents old) (contents run.0) (contents run.1.0) (contents new) run.1.1.0 (restarts run.0 run.1.0 one run.1.1.1.0) (run_stays run.1.0 new more run.1.1.1.1)

  restarted : (old new : D) (Tells : Volume → ℕ → Type 0) → IsRestarted alive contents old Tells new → Becomes (contents old) (contents new) (λ c d. IsSoundDisk c → StaysSound Tells c d)
  restarted old new Tells is = named_by Tells is.came (contents old) (contents new) is.named (run_stays old new is.came is.run)

  pub leaves_sound : Readings → (old new : D) (Tells : Volume → ℕ → Type 0) → IsLeftByRestarts alive contents old Tells new → Becomes (contents old) (contents new) (λ c d. IsSoundDisk c → StaysSound Tells c d)
  leaves_sound k old new Tells is = elim is [
    | inl none ↦ unwritten k Tells (contents old) (contents new) none.same none.damaged
    | inr some ↦ restarted old new Tells some
  ]
