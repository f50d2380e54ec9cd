-- The rows that a failed member's log leaves open are nobody's.
use Rattle.std.proofs.Common.{◌≡◌, ℕ, zero, suc, ◌+◌, ◌≤◌, ◌<◌, refl, sym, ap, subst, ◌∙◌, arith, Bool, true, false, List, [], ◌∷◌, length, Option, Some, None}
use Rattle.std.specs.Prelude.{◌≢◌, Contains, IfSome, slice_get}
use Rattle.ds_disk.specs.Contents.{Contents, log_of}
use Rattle.ds_model.specs.Rows.{Spot}
use Rattle.ds_model.specs.declared.lock.Name.{Name}
use Rattle.ds_model.specs.declared.lock.Name.TheVariants as name
use Rattle.lock_names.specs.declared.mode.Mode.{Mode}
use Rattle.lock_names.specs.declared.mode.Mode.TheVariants.{IS, IX, S, U, SIX, X}
use Rattle.lock_names.specs.Modes.{join_of}
use Rattle.list_structure.specs.Standings.{is_live, status_of}
use Rattle.lock_protocol.specs.Machine.{Covers, Record, RetainedCovers, World}
use Rattle.lock_protocol.specs.Words.{Gives, SoundGives}
use Rattle.lock_structure.specs.Locks.{record_of}
use Rattle.lock_world.specs.Numbers.{number}
use Rattle.lock_world.specs.Rollbacks.{row_of, space_of}
use Rattle.lock_world.specs.Views.{as_record, entry_in, rollback_owner}
use Rattle.log_rows.specs.Rows.{touches}
use Rattle.log_trans.specs.Courses.{open_trans}
use Rattle.log_trans.specs.declared.opened.OpenTran.{OpenTran}
use Rattle.rested_logs.specs.Given.{CrewState, LocksTied, LogsStand, Member, MemberLogged, known}
use Rattle.sound_locks.specs.Claims.{LockClaim, claims_in}
use Rattle.sound_locks.specs.Open.{AreRetained, FailedAreRetained, IsRetained, LogsRetain}
use Rattle.sound_locks.proofs.Known.{IsTold}
use Rattle.sound_locks.proofs.Listed.{all_weaker, none_some}
use Rattle.sound_locks.proofs.Sound.{gives, in_world, recorded_at, retains, told}

-- ---- X is covered by X alone

x_joins : (m : Mode) → join_of m X ≡ X
unfolding join_of
x_joins IS = refl
x_joins IX = refl
x_joins S = refl
x_joins U = refl
x_joins SIX = refl
x_joins X = refl

covers_x : (claim : Option Mode) → Covers claim X → claim ≡ Some X
covers_x None covers = absurd covers
covers_x (Some m) covers = ap Some (sym covers ∙ x_joins m)

below : {A : Type 0} (xs : List A) (at : ℕ) (x : A) → slice_get xs at ≡ Some x → at < length xs
below [] at x is = cc
below (y ∷ ys) zero x is = omega arith
below (y ∷ ys) (suc at) x is = let lt = below ys at x is in omega (arith, lt)

-- ---- a claim of a member that isn't live

module _ (law : SoundGives) (s : CrewState) (w : World) (t : LocksTied s w) (k : ℕ) (least : 1 ≤ k) (most : k ≤ length s.members) (dead : is_live (status_of s.facility.lists.statuses k) ≡ false) where
  down : w.live k ≡ false
  down = t.tied.live k least (omega (arith, most, t.count)) ∙ dead

  -- whoever has a claim is another
  another : (a : LockClaim) → IsTold s.members a → k ≡ a.member → ⊥
  another a is same = none_some (known s.members a.member a.owner (number a.name)) a.mode
      (t.tied.down a.member a.owner (number a.name) (subst (λ (z : ℕ). w.live z ≡ false) same down)) is.knows

  in_x : (owner : ℕ) (n : Name) → w.claims k owner (number n) ≡ Some X → IsRetained s k n
  in_x owner n has = record {
    free = λ a is same.
        let known_of_it = told law s w t a is in
        let none : w.claims a.member a.owner (number n) ≡ None = (gives law s w t).alone k a.member owner a.owner (number n) (λ e. absurd (another a known_of_it e)) has in
        none_some (w.claims a.member a.owner (number n)) a.mode none (subst (λ (z : Name). w.claims a.member a.owner (number z) ≡ Some a.mode) same (in_world law s w t a known_of_it));
    retained = retains (record_of s.facility.locks k n) X
        (subst (λ (z : Option Record). RetainedCovers z X) (recorded_at law s w t k n least most) ((gives law s w t).retained k owner (number n) X down has));
  }

-- ---- all that its log leaves open

-- the rollback of the transaction claims each row that it has changed, and its table space, in these modes or in greater ones
abbrev HasRows : World → ℕ → OpenTran → Type 0
HasRows w m t = (spot : Spot) → touches t spot ≡ true → Covers (w.claims m (rollback_owner t.id) (space_of spot)) IX × Covers (w.claims m (rollback_owner t.id) (row_of spot)) X

pub logs_retain : SoundGives → LogsRetain
logs_retain law c s w t logs at m is dead records last =
    let most : at + 1 ≤ length s.members = let lt = below s.members at m is in omega (arith, lt) in
    let logged : MemberLogged s.facility w (at + 1) (log_of c.logs (at + 1)) m = subst (λ (z : Option Member). IfSome z (MemberLogged s.facility w (at + 1) (log_of c.logs (at + 1)))) is (logs.claimed.each at) in
    all_weaker (HasRows w (at + 1)) (AreRetained s (at + 1))
    (λ (x : OpenTran) has spot touched. in_x law s w t (at + 1) (omega arith) most dead (rollback_owner x.id) (name.Row spot.0 spot.1) (covers_x (w.claims (at + 1) (rollback_owner x.id) (row_of spot)) (has spot touched).1))
    (open_trans records) ((logged.down dead).claimed records last)
