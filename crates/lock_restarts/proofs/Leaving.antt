-- What a restart gives up, and its end.
use Rattle.std.proofs.Common.{◌≡◌, ℕ, refl, sym, ◌∙◌, ap, subst, Bool, true, false, inl, inr, [], ◌∷◌, Option, Some, None}
use Rattle.std.specs.Prelude.{◌⊎◌, ◌||◌, ◌==◌, if◌then◌else◌}
use Rattle.ds_base.specs.declared.names.PageId.{PageId}
use Rattle.ds_model.specs.declared.lock.Name.TheVariants as name
use Rattle.lock_names.specs.declared.mode.Mode.{Mode}
use Rattle.lock_names.specs.declared.mode.Mode.TheVariants.{X}
use Rattle.list_structure.specs.declared.standing.MemberStatus.{MemberStatus}
use Rattle.list_structure.specs.declared.standing.MemberStatus.TheVariants.{Restarting}
use Rattle.list_structure.specs.Standings.{is_live, status_of}
use Rattle.list_structure.specs.States.{ListsState}
use Rattle.facility.specs.States.{Held, ring}
use Rattle.restart_records.specs.Trans.{page_undone}
use Rattle.restart_marks.specs.Locks.{released_after}
use Rattle.restart_marks.specs.State.{RestartState}
use Rattle.lock_protocol.specs.Machine.{no_interest}
use Rattle.lock_protocol.specs.Moves.{GiveUp, Purge, Release}
use Rattle.lock_world.specs.Names.{on_name, PurgesMoves, ReleasesMoves}
use Rattle.lock_world.specs.Numbers.{AreNumbered, number}
use Rattle.lock_world.specs.Standing.{RisesMoves, StaysTied, unknown}
use Rattle.lock_world.specs.Tied.{Moved}
use Rattle.lock_world.specs.Views.{entry_in}
use Rattle.lock_restarts.specs.Intents.{PurgeGoes, ReleaseGoes, UpGoes}
use Rattle.lock_restarts.specs.Stands.{OwnClaims, known_with, or_else, page_claim}
use Rattle.lock_restarts.proofs.Stands.{ended, none_left, stay_claims}
use Rattle.lock_restarts.proofs.Spares.{all_gone, purge_spares, release_spares}

-- what the crates below say
pub record Facts : Type 0 where
  pub numbers : AreNumbered
  pub release : ReleasesMoves
  pub purge : PurgesMoves
  pub rises : RisesMoves
  pub stay : StaysTied

live_as : (s : MemberStatus) → s ≡ Restarting → is_live s ≡ true
live_as s e = subst (λ z. is_live z ≡ true) (sym e) refl

-- the member has a page lock, so its lock manager has nothing
owns_none : (own : OwnClaims) (s : RestartState) (page : PageId) → s.claim ≡ Some page → ((o c : ℕ) → own o c ≡ None) ⊎ ((s.claim ≡ None) × ((id : ℕ) → page_undone s.trans id ≡ None)) → (o c : ℕ) → own o c ≡ None
owns_none own s page claimed (inl none) = none
owns_none own s page claimed (inr rest) = let never : Some page ≡ None = sym claimed ∙ rest.0 in cc

some_none : (x : Option Mode) (m : Mode) → x ≡ None → x ≡ Some m → ⊥
some_none x m a b = cc

either_none : (b : Bool) → (if b then (if false then Some X else None) else None) ≡ None
either_none true = refl
either_none false = refl

-- only the claims on the page's name go
pub release_goes : Facts → ReleaseGoes
release_goes facts w f g held left own s t page answer tied r knows claimed gives is leads = record {
  moves = GiveUp s.member which ∷ Release s.member 0 n no_interest ∷ [];
  own = (refl, (refl, tt));
  moved = moved;
  spares = release_spares facts.numbers (entry_in f.locks) w moved.world s.member page moved.run;
}
  where
    n : ℕ
    n = number (name.Page page)

    which : ℕ → ℕ → Bool
    which o c = on_name n o c || (c == n)

    lists : g.lists ≡ ring f.lists
    lists = ap (λ (z : Held). z.lists) gives.2

    unclaimed : t.claim ≡ None
    unclaimed = ap (λ (z : RestartState). z.claim) (is ∙ ap (λ z. released_after s z) gives.0)

    none : (o c : ℕ) → own o c ≡ None
    none = owns_none own s page claimed r.left

    gone : (o c : ℕ) → left s.member o c ≡ None
    gone o c = leads.knows o c ∙ ap (λ (z : Option PageId). known_with own z o c) unclaimed ∙ none_left own none o c

    -- of other names it has known none
    before : (o c : ℕ) → (c == n) ≡ false → held s.member o c ≡ None
    before o c e =
        knows o c ∙ ap (λ (z : Option PageId). known_with own z o c) claimed ∙ ap (λ (z : Option Mode). or_else z (if o == 0 then page_claim (Some page) c else None)) (none o c)
        ∙ ap (λ (z : Bool). if o == 0 then (if z then Some X else None) else None) e ∙ either_none (o == 0)

    left_as : (o c : ℕ) → left s.member o c ≡ (if on_name n o c then None else held s.member o c)
    left_as o c = gone o c ∙ by (c == n) refl
      where
        by : (b : Bool) → (c == n) ≡ b → None ≡ (if b then None else held s.member o c)
        by true e = refl
        by false e = sym (before o c e)

    moved : Moved w (GiveUp s.member which ∷ Release s.member 0 n no_interest ∷ []) f.locks g.locks g.lists left
    moved = ended facts.stay w (GiveUp s.member which ∷ Release s.member 0 n no_interest ∷ []) f.locks g.locks f.lists g left left
        (facts.release w f.locks g.locks f.lists held left s.member 0 (name.Page page) no_interest (on_name n) tied r.member r.among (live_as (status_of f.lists.statuses s.member) r.restarts)
        (record { others = leads.others; own = left_as; all = λ o. gone o n }) (λ o c x _ _ has. absurd (some_none (left s.member o c) x (gone o c) has)) gives.1)
        refl (ap (λ (z : ListsState). z.cells) lists) (ap (λ (z : ListsState). z.statuses) lists) (ap (λ (z : ListsState). z.members) lists) (λ k o c. refl)

pub purge_goes : Facts → PurgeGoes
purge_goes facts w f g held left own s t n answer tied r knows none gives claim leads =
    let lists : g.lists ≡ ring f.lists = ap (λ (z : Held). z.lists) gives.2 in
    let moved : Moved w (GiveUp s.member (on_name (number n)) ∷ Purge s.member (number n) ∷ []) f.locks g.locks g.lists left =
    ended facts.stay w (GiveUp s.member (on_name (number n)) ∷ Purge s.member (number n) ∷ []) f.locks g.locks f.lists g held left (facts.purge w f.locks g.locks f.lists held s.member n tied r.member none gives.1)
    refl (ap (λ (z : ListsState). z.cells) lists) (ap (λ (z : ListsState). z.statuses) lists) (ap (λ (z : ListsState). z.members) lists) (stay_claims held left own s t knows leads claim) in
    record {
      moves = GiveUp s.member (on_name (number n)) ∷ Purge s.member (number n) ∷ [];
      own = (refl, (refl, tt));
      moved = moved;
      spares = purge_spares (entry_in f.locks) w moved.world s.member (number n) moved.run;
    }

pub up_goes : Facts → UpGoes
up_goes facts w f g held left own s t answer tied r knows gives claim leads =
    let moved : Moved w (GiveUp s.member (unknown held s.member) ∷ []) f.locks g.locks g.lists left =
    ended facts.stay w (GiveUp s.member (unknown held s.member) ∷ []) f.locks f.locks g.lists g held left
    (facts.rises w f.locks f.lists g.lists held s.member tied r.member r.few r.restarts (ap (λ (z : Held). z.lists.cells) gives.1) (ap (λ (z : Held). z.lists.members) gives.1) (ap (λ (z : Held). z.lists.statuses) gives.1))
    (ap (λ (z : Held). z.locks) gives.1) refl refl refl (stay_claims held left own s t knows leads claim) in
    record { moves = GiveUp s.member (unknown held s.member) ∷ []; own = (refl, tt); moved = moved; spares = all_gone w moved.world s.member }
