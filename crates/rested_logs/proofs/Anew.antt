-- The logs behind a group restart that is done, and the group that begins anew beside them.
use Rattle.std.proofs.Common.{◌≡◌, ℕ, zero, suc, ◌+◌, ◌-◌, ◌≤◌, ◌<◌, refl, sym, ◌∙◌, ap, subst, arith, inl, inr, List, [], ◌∷◌, length, get_or, Option, Some, None, Ok}
use Rattle.std.specs.Prelude.{◌⊎◌, All, IfSome, slice_get}
use Rattle.ds_disk.specs.Contents.{Contents, log_of}
use Rattle.ds_base.specs.declared.names.Sizes.{Sizes}
use Rattle.group_restart.specs.declared.calls.State.TheVariants as state
use Rattle.group_restart.specs.Machine.{Restart}
use Rattle.disk_restart.specs.Ends.{EndsBehind}
use Rattle.restart_soundness.specs.Closing.{ClosesAll, RestsClose, RestsClosed}
use Rattle.restart_soundness.specs.Left_out.{LeavesOutClosed}
use Rattle.restart_soundness.specs.Runs.{IsLeft}
use Rattle.claimed_logs.specs.Given.{AnewKnow, CrewState, IsDown, Member}
use Rattle.claimed_logs.specs.Logs.{FreshLogged, LogCloses}
use Rattle.rested_logs.specs.Rests.{ClosingCloses, EmptyCloses, GroupsStandAnew, RestsLogged, StandsAnew}
use Rattle.rested_logs.proofs.Closed.{last_is}

pub record AnewFacts : Type 0 where
  pub empty : EmptyCloses
  pub rests : RestsClose
  pub know : AnewKnow
  pub fresh : FreshLogged

pub closing_closes : ClosingCloses
closing_closes log closes = record { whole = closes.whole; closed = closes.closed; commits = λ start back last. last_is back ∙ closes.commits start back last }

-- a log that the disk hasn't is empty
beyond : (bs : List (List ℕ)) (i : ℕ) → length bs ≤ i → get_or bs i [] ≡ []
beyond [] zero h = refl
beyond [] (suc i) h = refl
beyond (b ∷ bs) zero h = absurd (omega (arith, h))
beyond (b ∷ bs) (suc i) h = beyond bs i (omega (arith, h))

-- one of the two
least : (n i : ℕ) → (i < n) ⊎ (n ≤ i)
least zero i = inr (omega arith)
least (suc n) zero = inl (omega arith)
least (suc n) (suc i) = by (least n i)
  where
    by : (i < n) ⊎ (n ≤ i) → (suc i < suc n) ⊎ (suc n ≤ suc i)
    by (inl low) = inl (omega (arith, low))
    by (inr high) = inr (omega (arith, high))

pub rests_logged : AnewFacts → RestsLogged
rests_logged facts c d counter many before left at = by (least (length d.logs) at)
  where
    closed : RestsClosed d
    closed = facts.rests c d counter many before left

    by : (at < length d.logs) ⊎ (length d.logs ≤ at) → LogCloses (log_of d.logs (at + 1))
    by (inl there) = closing_closes (log_of d.logs (at + 1)) (closed.logs at there)
    by (inr none) =
        let same : at + 1 - 1 ≡ at = omega arith in
        subst LogCloses (sym (ap (λ (z : ℕ). get_or d.logs z []) same ∙ beyond d.logs at none)) facts.empty

-- ---- the members
all_at : {A : Type 0} → (P : A → Type 0) (xs : List A) → All P xs → (at : ℕ) → IfSome (slice_get xs at) P
all_at P [] all zero = tt
all_at P [] all (suc at) = tt
all_at P (x ∷ xs) all zero = all 0 x (omega arith)
all_at P (x ∷ xs) all (suc at) = all_at P xs (λ k d low. all (suc k) d (omega (arith, low))) at

pub groups_stand_anew : AnewFacts → GroupsStandAnew
groups_stand_anew facts c d counter restart old new w t begins in_hand ends few_c few_d before left below = record {
  logs = record { claimed = facts.fresh d new w t down there (λ at. close at (slice_get new.members at)) below; ends = facts.know d counter restart old new begins in_hand ends };
  others = λ at none. closes at;
}
  where
    closes : (at : ℕ) → LogCloses (log_of d.logs (at + 1))
    closes = rests_logged facts c d counter (few_c ∙ sym few_d) before left

    close : (at : ℕ) (o : Option Member) → IfSome o (λ (m : Member). LogCloses (log_of d.logs (at + 1)))
    close at None = tt
    close at (Some m) = closes at

    sizes : new.sizes ≡ old.sizes
    sizes = ap (λ (z : CrewState). z.sizes) begins.rest

    down : (at : ℕ) → IfSome (slice_get new.members at) (IsDown new.sizes)
    down at = subst (λ (z : Sizes). IfSome (slice_get new.members at) (IsDown z)) (sym sizes) (all_at (IsDown old.sizes) new.members begins.members at)

    there : length new.members ≤ length d.logs
    there = let count = t.count in let most = t.few in omega (arith, count, most, few_d)
