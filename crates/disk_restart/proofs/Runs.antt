-- A run of a group restart, one step longer.
use Rattle.std.proofs.Common.{◌≡◌, ℕ, zero, suc, Result, Ok, inl, refl, subst}
use Rattle.ds_base.specs.declared.fault.NoMemory.{NoMemory}
use Rattle.group_restart.specs.declared.calls.State.{State}
use Rattle.group_restart.specs.declared.calls.State.TheVariants as state
use Rattle.group_restart.specs.Disk.{Drive}
use Rattle.group_restart.specs.Machine.{Restart}
use Rattle.group_restart.specs.Steps.{Steps}
use Rattle.disk_restart.specs.Runs.{AllGo, HasGone, IsRun}

go_further : (n : ℕ) (w mid v : Drive) (h between k : Restart) → AllGo n w h mid between → Steps mid between (Ok state.Going) v k → AllGo (suc n) w h v k
go_further zero w mid v h between k all step =
    let from : Steps w between (Ok state.Going) v k = subst (λ (z : Drive). Steps z between (Ok state.Going) v k) all.0 step in
    let first : Steps w h (Ok state.Going) v k = subst (λ (z : Restart). Steps w z (Ok state.Going) v k) all.1 from in
    (v, (k, (first, (refl, refl))))
go_further (suc n) w mid v h between k all step =
    (all.0, (all.1.0, (all.1.1.0, go_further n all.0 mid v all.1.0 between k all.1.1.1 step)))

pub none_gone : (w : Drive) (h : Restart) → HasGone w h w h
none_gone w h = record { count = zero; go = (refl, refl) }

pub one_more : (w mid v : Drive) (h between k : Restart) (result : Result State NoMemory) → HasGone w h mid between → Steps mid between result v k → result ≡ Ok state.Going → HasGone w h v k
one_more w mid v h between k result gone step going =
    record { count = suc gone.count; go = go_further gone.count w mid v h between k gone.go (subst (λ (r : Result State NoMemory). Steps mid between r v k) going step) }

pub ends_by : (w mid v : Drive) (h between k : Restart) (last result : Result State NoMemory) → HasGone w h mid between → Steps mid between last v k → last ≡ result → IsRun w h result v k
ends_by w mid v h between k last result gone step same = inl (record { mid = mid; between = between; gone = gone; last = subst (λ (r : Result State NoMemory). Steps mid between r v k) same step })
