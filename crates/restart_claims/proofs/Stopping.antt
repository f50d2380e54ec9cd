-- The claims of what isn't over are those of what the log leaves open.
use Rattle.std.proofs.Common.{◌≡◌, ℕ, refl, subst, Bool, true, false, inl, inr, List, [], ◌∷◌, ◌++◌, take}
use Rattle.std.specs.Prelude.{◌⊎◌, ◌==◌, ◌&&◌, ◌||◌}
use Rattle.std.specs.List.{AllByRecursion}
use Rattle.std.proofs.lemmas.Bool.{and_parts, eqb-true, or_cases}
use Rattle.ds_model.specs.Rows.{Spot}
use Rattle.ds_model.specs.declared.log.LogRecord.{LogRecord}
use Rattle.lock_protocol.specs.Machine.{World}
use Rattle.lock_world.specs.Views.{rollback_owner}
use Rattle.log_appends.specs.Appends.{AreLastFrom}
use Rattle.log_rows.specs.Rows.{touches}
use Rattle.log_trans.specs.Courses.{open_trans}
use Rattle.log_trans.specs.declared.opened.OpenTran.{OpenTran}
use Rattle.restart_records.specs.declared.trans.RestartStage.{RestartStage}
use Rattle.restart_records.specs.declared.trans.RestartStage.TheVariants as stage
use Rattle.restart_records.specs.declared.trans.RestartTran.{RestartTran}
use Rattle.restart_marks.specs.State.{RestartState}
use Rattle.restart_law.specs.Opens.{is_over}
use Rattle.restart_law.specs.Reads.{AreLast}
use Rattle.restart_claims.specs.Claims.{HasRow, HasRows, LeftHas, OpensClaimed}
use Rattle.restart_closing.specs.Leaving.{IsOfLeft, RestsOpen, StopsOpen, has_left, is_left}
use Rattle.restart_claims.specs.Stops.{RestsClaimed, StopsClaimed}

left_goes : (x : RestartStage) → is_left x ≡ true → is_over x ≡ false
left_goes stage.Open e = refl
left_goes stage.Ended e = refl
left_goes stage.Over e = absurd cc

never : false ≡ true → ⊥
never e = cc

left_has : (w : World) (m id : ℕ) (s : Spot) (list : List RestartTran) → AllByRecursion (LeftHas w m) list → has_left list id s ≡ true → HasRow w m (rollback_owner id) s
left_has w m id s [] has e = absurd (never e)
left_has w m id s (x ∷ xs) has e = by (or_cases (is_left x.stage && ((x.tran.id == id) && touches x.tran s)) (has_left xs id s) e) (left_has w m id s xs has.1)
  where
    by : ((is_left x.stage && ((x.tran.id == id) && touches x.tran s)) ≡ true) ⊎ (has_left xs id s ≡ true) → (has_left xs id s ≡ true → HasRow w m (rollback_owner id) s) → HasRow w m (rollback_owner id) s
    by (inl f) go =
        let p = and_parts (is_left x.stage) ((x.tran.id == id) && touches x.tran s) f in
        let q = and_parts (x.tran.id == id) (touches x.tran s) p.1 in
        subst (λ (n : ℕ). HasRow w m (rollback_owner n) s) (eqb-true x.tran.id id q.0) (has.0 (left_goes x.stage p.0) s q.1)
    by (inr f) go = go f

all_have : (w : World) (m : ℕ) (list : List RestartTran) (ts : List OpenTran) → AllByRecursion (LeftHas w m) list → AllByRecursion (IsOfLeft list) ts → AllByRecursion (HasRows w m) ts
all_have w m list [] has left = tt
all_have w m list (t ∷ ts) has left = (λ s touched. left_has w m t.id s list has (left.0 s touched), all_have w m list ts has left.1)

as_from : (bytes : List ℕ) (records : List LogRecord) → (last : AreLast bytes records) → AreLastFrom bytes last.start records
as_from bytes records last = record { whole = last.whole; begins = last.begins; parts = last.parts; told = last.told; are = last.are }

pub stops_claimed : StopsOpen → StopsClaimed
stops_claimed law bytes log rest pend w s n records read up claimed c last =
    all_have w s.member s.trans.list (open_trans records) (claimed.left read up) (law log rest pend s n last.start records read c (as_from (log ++ take n s.log.pending) records last))

pub rests_claimed : RestsOpen → RestsClaimed
rests_claimed law bytes log rest pend w s records read up claimed c last =
    all_have w s.member s.trans.list (open_trans records) (claimed.left read up) (law log rest pend s last.start records read c (as_from (log ++ rest) records last))
