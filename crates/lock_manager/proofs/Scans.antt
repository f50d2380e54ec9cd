-- One owner after the other.
use Rattle.std.proofs.Common.{◌≡◌, ℕ, ◌+◌, ◌<◌, List, length, drop, set, get_or, arith, if◌then◌else◌, ◌==◌}
use Rattle.std.specs.Prelude.{not, ◌&&◌, ◌||◌, Option, Some, is_some}
use Rattle.std.proofs.lemmas.List.{at_drop_more}
use Rattle.std.proofs.lemmas.Grind.{common_steps}
use Rattle.ds_model.specs.declared.lock.Name.{Name}
use Rattle.lock_names.specs.declared.mode.Mode.{Mode}
use Rattle.lock_manager.specs.declared.claim.Claim.{Claim}
use Rattle.lock_manager.specs.declared.claim.Rollback.{Rollback}
use Rattle.lock_manager.specs.Managers.{place_in}
use Rattle.lock_manager.specs.Claims.{mode_in, joined_both, is_in_way}
use Rattle.lock_manager.specs.Holders.{is_owner, first_in_way, mode_of_all, is_held}

pub way_step : (hs : List (List Claim)) (i : ℕ) (d : List Claim) (k : ℕ) (a : Option ℕ) (n : Name) (m : Mode) → i < length hs
    → first_in_way (drop i hs) k a n m ≡ (if not (is_owner a k) && is_in_way (mode_in (get_or hs i d) n) m then Some k else first_in_way (drop (i + 1) hs) (k + 1) a n m)
way_step hs i d k a n m h = at_drop_more (λ z. first_in_way z k a n m) hs i d h

pub mode_step : (hs : List (List Claim)) (i : ℕ) (d : List Claim) (held : Option Mode) (n : Name) → i < length hs
    → mode_of_all held (drop i hs) n ≡ mode_of_all (joined_both held (mode_in (get_or hs i d) n)) (drop (i + 1) hs) n
mode_step hs i d held n h = at_drop_more (λ z. mode_of_all held z n) hs i d h

replaced : (hs : List (List Claim)) (o : ℕ) (left : List Claim) (i : ℕ) (d : List Claim) → i < length hs → get_or (set hs o left) i d ≡ (if i == o then left else get_or hs i d)
replaced hs o left i d h = grind (arith, common_steps)

pub held_step : (hs : List (List Claim)) (o : ℕ) (left : List Claim) (i : ℕ) (d : List Claim) (n : Name) → i < length hs
    → is_held (drop i (set hs o left)) n ≡ (is_some (mode_in (if i == o then left else get_or hs i d) n) || is_held (drop (i + 1) (set hs o left)) n)
held_step hs o left i d n h = let same = replaced hs o left i d h in let it = at_drop_more (λ z. is_held z n) (set hs o left) i d (grind (arith, common_steps)) in rw (← same) it

pub place_step : (rs : List Rollback) (i : ℕ) (d : Rollback) (k id : ℕ) → i < length rs → place_in (drop i rs) k id ≡ (if (get_or rs i d).id == id then Some k else place_in (drop (i + 1) rs) (k + 1) id)
place_step rs i d k id h = at_drop_more (λ z. place_in z k id) rs i d h
