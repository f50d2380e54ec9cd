-- How the claims of what a restart leaves open begin, and what it hands over.
use Rattle.std.proofs.Common.{◌≡◌, ℕ, refl, sym, ap, subst, Bool, true, false, cond, List, [], ◌∷◌, Option, Some, None}
use Rattle.std.specs.Prelude.{if◌then◌else◌, filter, is_some, map}
use Rattle.std.specs.List.{AllByRecursion}
use Rattle.std.proofs.lemmas.Bool.{both_ways}
use Rattle.ds_model.specs.Rows.{Spot}
use Rattle.log_rows.specs.Rows.{touches}
use Rattle.log_trans.specs.declared.opened.OpenTran.{OpenTran}
use Rattle.log_trans.specs.Courses.{open_trans}
use Rattle.lock_protocol.specs.Machine.{World}
use Rattle.lock_world.specs.Rollbacks.{HasClaimed}
use Rattle.lock_world.specs.Views.{rollback_owner}
use Rattle.restart_records.specs.declared.trans.RestartStage.{RestartStage}
use Rattle.restart_records.specs.declared.trans.RestartStage.TheVariants as stage
use Rattle.restart_records.specs.declared.trans.RestartTran.{RestartTran}
use Rattle.restart_records.specs.Own.{OwnState}
use Rattle.restart_records.specs.Trans.{is_open, is_open_stage, no_trans, open_of, opened_among}
use Rattle.restart_marks.specs.declared.adopt.Adopted.{Adopted}
use Rattle.restart_marks.specs.declared.marks.KeptBy.{KeptBy}
use Rattle.restart_marks.specs.Adopt.{adopted_as, adopted_by, may_adopt}
use Rattle.restart_marks.specs.State.{RestartState, with_trans}
use Rattle.restart_law.specs.Opens.{OpensTouch, is_over}
use Rattle.restart_claims.specs.Claims.{ClaimsBegin, ClaimsHand, ClaimsTell, HasRow, HasRows, LeftHas, OpensClaimed, SpotsClaimed}

never : false ≡ true → ⊥
never e = cc

-- ---- the begin
pub claims_begin : ClaimsBegin
claims_begin bytes w member s fresh has = record {
  unread = λ unread records last. subst (λ (n : ℕ). AllByRecursion (HasRows w n) (open_trans records)) (sym (ap (λ (z : RestartState). z.member) fresh.rest)) (has records last);
  left = λ read up. absurd (both_ways s.own.is_read (ap (λ (z : OwnState). z.is_read) fresh.own.rest) read);
}

-- ---- nothing is left
abbrev handed : RestartState → KeptBy → Bool → Option Adopted
handed s kept b = if b then Some (record { by = kept.by; trans = opened_among s.trans.list }) else None

abbrev rest_of : RestartState → Bool → RestartState
rest_of s b = if b then with_trans s no_trans else s

hands : (bytes : List ℕ) (w : World) (s : RestartState) (o : Option KeptBy) → s.own.is_read ≡ true → is_some (adopted_by s o) ≡ true → OpensClaimed bytes w (adopted_as s o)
hands bytes w s None read told = absurd (never told)
hands bytes w s (Some kept) read told = taken (may_adopt s) told
  where
    taken : (b : Bool) → is_some (handed s kept b) ≡ true → OpensClaimed bytes w (rest_of s b)
    taken true told = record { unread = λ unread records last. absurd (both_ways s.own.is_read unread read); left = λ read up. tt }
    taken false told = absurd (never told)

pub claims_hand : ClaimsHand
claims_hand bytes w s read told = hands bytes w s s.kept read told

-- ---- what is handed over
stage_left : (x : RestartStage) → is_open_stage x ≡ true → is_over x ≡ false
stage_left stage.Open e = refl
stage_left stage.Ended e = refl
stage_left stage.Over e = absurd (never e)

one_tells : OpensTouch → (w : World) (m : ℕ) (x : RestartTran) → is_open x ≡ true → LeftHas w m x → HasRows w m (open_of x)
one_tells law w m x lives has spot touched = has (stage_left x.stage lives) spot (law x spot touched)

among : OpensTouch → (w : World) (m : ℕ) (xs : List RestartTran) → AllByRecursion (LeftHas w m) xs → AllByRecursion (HasRows w m) (opened_among xs)
among law w m [] a = tt
among law w m (x ∷ xs) a = by (among law w m xs a.1) (is_open x) refl
  where
    by : AllByRecursion (HasRows w m) (opened_among xs) → (b : Bool) → is_open x ≡ b → AllByRecursion (HasRows w m) (map open_of (cond b (x ∷ filter is_open xs) (filter is_open xs)))
    by rest true is = (one_tells law w m x is a.0, rest)
    by rest false is = rest

pub claims_tell : OpensTouch → ClaimsTell
claims_tell law bytes w s claimed read up = among law w s.member s.trans.list (claimed.left read up)

-- ---- row by row
pub spots_claimed : SpotsClaimed
spots_claimed w m t [] has all = tt
spots_claimed w m t (s ∷ ss) has all =
    let row : HasRow w m (rollback_owner t.id) s = has s all.0 in
    let rest : HasClaimed w m (rollback_owner t.id) ss = spots_claimed w m t ss has all.1 in
    (row.0, row.1, rest)
