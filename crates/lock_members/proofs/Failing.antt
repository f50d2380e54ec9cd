-- A member that fails holds nothing any more.
use Rattle.std.proofs.Common.{◌≡◌, ℕ, zero, suc, ◌+◌, refl, sym, ◌∙◌, ap, subst, Bool, true, false, List, [], ◌∷◌, Option, None}
use Rattle.std.specs.Prelude.{◌-◌, if◌then◌else◌, drop, nat_lt, replicate, slice_index_or}
use Rattle.ds_base.specs.declared.names.Sizes.{Sizes}
use Rattle.lock_names.specs.declared.mode.Mode.{Mode}
use Rattle.lock_manager.specs.declared.claim.Claim.{Claim}
use Rattle.lock_manager.specs.declared.claim.Rollback.{Rollback}
use Rattle.lock_manager.specs.Claims.{mode_in}
use Rattle.group_member.specs.declared.restarting.Restarting.{Restarting}
use Rattle.group_member.specs.Members.{IsDown, Member}
use Rattle.lock_world.specs.Failing.{FailsMoves, Forgets}
use Rattle.lock_world.specs.Numbers.{name_at}
use Rattle.lock_world.specs.Views.{claims_from, is_slot}
use Rattle.lock_members.specs.Known.{known_of, or_else, restart_claim}
use Rattle.lock_members.specs.Members.{FailuresGo}

abbrev pub nothing : List Claim
nothing = []

none_at : (n o : ℕ) → slice_index_or (replicate n nothing) o [] ≡ nothing
none_at zero o = refl
none_at (suc n) zero = refl
none_at (suc n) (suc o) = none_at n o

no_claims : (n agents o : ℕ) → claims_from (replicate n nothing) [] agents o ≡ nothing
no_claims n agents o = by (is_slot o) (nat_lt o (agents + 1))
  where
    by : (b d : Bool) → (if b then (if d then slice_index_or (replicate n nothing) o [] else []) else []) ≡ nothing
    by true true = none_at n o
    by true false = refl
    by false d = refl

none_known : (m : Member) (sizes : Sizes) → IsDown sizes m → (o c : ℕ) → known_of m o c ≡ None
none_known m sizes down o c =
    let claims : claims_from m.holds.marks.locks.holders m.holds.marks.locks.rollbacks m.holds.marks.locks.agents o ≡ nothing =
    ap (λ (z : List (List Claim)). claims_from z m.holds.marks.locks.rollbacks m.holds.marks.locks.agents o) down.holds.marks.holders
    ∙ ap (λ (z : List Rollback). claims_from (replicate (sizes.agents + 1) nothing) z m.holds.marks.locks.agents o) down.holds.marks.rollbacks
    ∙ no_claims (sizes.agents + 1) m.holds.marks.locks.agents o in
    ap (λ (z : List Claim). or_else (mode_in z (name_at c)) (restart_claim m.restart o c)) claims ∙ ap (λ (z : Option Restarting). restart_claim z o c) down.rests

pub failures_go : FailsMoves → FailuresGo
failures_go law w f g held left m n sizes tied member few failed down leads =
    law w f.locks g.locks f.lists g.lists held left m.id tied member few failed.locks failed.lists (record {
      empty = λ o c. leads.own o c ∙ none_known n sizes down o c;
      others = leads.others;
    })
