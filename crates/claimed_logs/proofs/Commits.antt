-- Records in which no transaction changes a row behind its Commit, and others behind them.
use Rattle.std.proofs.Common.{◌≡◌, ℕ, refl, sym, ◌∙◌, ap, subst, Bool, true, false, inl, inr, List, [], ◌∷◌, ◌++◌, length, Option, Some, None}
use Rattle.std.specs.Prelude.{◌≢◌, ◌⊎◌, ◌==◌, ◌&&◌, ◌||◌, not}
use Rattle.std.specs.List.{AllByRecursion}
use Rattle.std.proofs.lemmas.Bool.{and_from, and_parts, cases_Bool, eq-eqb, eqb-true, or_cases, or_left, or_parts, or_right}
use Rattle.ds_model.specs.Logs.{is_commit}
use Rattle.ds_model.specs.RecordBytes.{IsAllowed, TranFits, is_of_tran}
use Rattle.ds_model.specs.Rows.{Spot}
use Rattle.ds_model.specs.declared.log.Body.{Body}
use Rattle.ds_model.specs.declared.log.Body.TheVariants as body
use Rattle.ds_model.specs.declared.log.LogRecord.{LogRecord}
use Rattle.facility.specs.declared.command.Reply.{Reply}
use Rattle.facility.specs.declared.command.Reply.TheVariants as reply
use Rattle.log_rows.specs.Rows.{has_changed, is_change_of, is_closed, is_end}
use Rattle.member_effects.specs.Changes.{system_record}
use Rattle.member_effects.specs.Given.{Plan}
use Rattle.member_effects.specs.Given.plan_variants as plan
use Rattle.member_effects.specs.Puts.{back_records, both_if, change_records, commit_records, drawn_by, event_records, one_if, reply_records, undo_records}
use Rattle.member_intents.specs.declared.intent.Intent.{Intent}
use Rattle.member_intents.specs.declared.intent.Intent.TheVariants as intent
use Rattle.member_intents.specs.declared.outcome.Answered.{Answered}
use Rattle.member_intents.specs.declared.outcome.Answered.TheVariants as answered
use Rattle.member_marks.specs.Records.{back_record, both_fit, commit_record, ended_record, fits_in, is_at_row, may_back, row_record}
use Rattle.member_marks.specs.State.{MarksState, slot_tran, tran_of}
use Rattle.member_trans.specs.Trans.{TranState, is_forward, newest_of}
use Rattle.member_trans.specs.declared.fate.Change.{Change}
use Rattle.restart_closing.specs.Closing.{is_back}
use Rattle.claimed_logs.specs.Commits.{changes_for, changes_row, commits_last}

never : false ≡ true → ⊥
never e = cc

-- ---- a record that changes a row
pub record ChangedAt (records : List LogRecord) (id : ℕ) : Type 0 where
  pub spot : Spot
  pub some : id ≢ 0
  pub changed : has_changed records id spot ≡ true

change_at : (b : Body) → changes_row b ≡ true → (spot : Spot) × (is_change_of spot b ≡ true)
change_at (body.RowChange c) e = ((c.table, c.key), and_from (c.table == c.table) (c.key == c.key) (eq-eqb c.table c.table refl) (eq-eqb c.key c.key refl))
change_at (body.Compensation c undone) e = absurd (never e)
change_at (body.System patches) e = absurd (never e)
change_at body.Commit e = absurd (never e)
change_at body.Ended e = absurd (never e)
change_at (body.Checkpoint offset) e = absurd (never e)
change_at body.RestartEnd e = absurd (never e)

has_tran : (b : Body) (tran : ℕ) → changes_row b ≡ true → TranFits (is_of_tran b) tran → tran ≢ 0
has_tran (body.RowChange c) tran e fits = fits
has_tran (body.Compensation c undone) tran e fits = absurd (never e)
has_tran (body.System patches) tran e fits = absurd (never e)
has_tran body.Commit tran e fits = absurd (never e)
has_tran body.Ended tran e fits = absurd (never e)
has_tran (body.Checkpoint offset) tran e fits = absurd (never e)
has_tran body.RestartEnd tran e fits = absurd (never e)

changed_at : (records : List LogRecord) (id : ℕ) → AllByRecursion IsAllowed records → changes_for records id ≡ true → ChangedAt records id
changed_at [] id allowed e = absurd (never e)
changed_at (r ∷ rs) id allowed e = by (changed_at rs id allowed.1) (or_cases ((r.tran == id) && changes_row r.body) (changes_for rs id) e)
  where
    by : (changes_for rs id ≡ true → ChangedAt rs id) → (((r.tran == id) && changes_row r.body) ≡ true) ⊎ (changes_for rs id ≡ true) → ChangedAt (r ∷ rs) id
    by rest (inl first) =
        let p = and_parts (r.tran == id) (changes_row r.body) first in
        let at = change_at r.body p.1 in
        record {
          spot = at.0;
          some = λ zero. has_tran r.body r.tran p.1 allowed.0.tran_fits (eqb-true r.tran id p.0 ∙ zero);
          changed = or_left ((r.tran == id) && is_change_of at.0 r.body) (has_changed rs id at.0) (and_from (r.tran == id) (is_change_of at.0 r.body) p.0 at.1);
        }
    by rest (inr e) = let x = rest e in record { spot = x.spot; some = x.some; changed = or_right ((r.tran == id) && is_change_of x.spot r.body) (has_changed rs id x.spot) x.changed }

-- ---- two lists of records
or_assoc : (a b c : Bool) → (a || (b || c)) ≡ ((a || b) || c)
or_assoc true b c = refl
or_assoc false b c = refl

for_both : (xs ys : List LogRecord) (id : ℕ) → changes_for (xs ++ ys) id ≡ (changes_for xs id || changes_for ys id)
for_both [] ys id = refl
for_both (r ∷ rs) ys id = ap (λ (b : Bool). ((r.tran == id) && changes_row r.body) || b) (for_both rs ys id) ∙ or_assoc ((r.tran == id) && changes_row r.body) (changes_for rs id) (changes_for ys id)

not_true : (a : Bool) → not a ≡ true → a ≡ false
not_true true h = cc
not_true false h = refl

neither : (a b : Bool) → a ≡ false → b ≡ false → (a || b) ≡ false
neither true b p q = absurd (never (sym p))
neither false b p q = q

ends_tran : (b : Body) → is_commit b ≡ true → is_end b ≡ true
ends_tran (body.RowChange c) e = absurd (never e)
ends_tran (body.Compensation c undone) e = absurd (never e)
ends_tran (body.System patches) e = absurd (never e)
ends_tran body.Commit e = refl
ends_tran body.Ended e = absurd (never e)
ends_tran (body.Checkpoint offset) e = absurd (never e)
ends_tran body.RestartEnd e = absurd (never e)

-- a front of them
pub front_last : (front rest : List LogRecord) → commits_last (front ++ rest) ≡ true → commits_last front ≡ true
front_last [] rest h = refl
front_last (r ∷ rs) rest h = and_from (not (is_commit r.body && changes_for rs r.tran)) (commits_last rs) (less (is_commit r.body) p.0) (front_last rs rest p.1)
  where
    p : (not (is_commit r.body && changes_for (rs ++ rest) r.tran) ≡ true) × (commits_last (rs ++ rest) ≡ true)
    p = and_parts (not (is_commit r.body && changes_for (rs ++ rest) r.tran)) (commits_last (rs ++ rest)) h

    less : (b : Bool) → not (b && changes_for (rs ++ rest) r.tran) ≡ true → not (b && changes_for rs r.tran) ≡ true
    less true e = ap not (or_parts (changes_for rs r.tran) (changes_for rest r.tran) (sym (for_both rs rest r.tran) ∙ not_true (changes_for (rs ++ rest) r.tran) e)).0
    less false e = refl

-- what stands behind a front of them
pub back_last : (front rest : List LogRecord) → commits_last (front ++ rest) ≡ true → commits_last rest ≡ true
back_last [] rest h = h
back_last (r ∷ rs) rest h = back_last rs rest (and_parts (not (is_commit r.body && changes_for (rs ++ rest) r.tran)) (commits_last (rs ++ rest)) h).1

-- behind records none of which changes a row for a transaction that these close
pub both_last : (back new : List LogRecord) → AllByRecursion IsAllowed new → ((id : ℕ) (spot : Spot) → id ≢ 0 → has_changed new id spot ≡ true → is_closed back id ≡ false)
    → commits_last back ≡ true → commits_last new ≡ true → commits_last (back ++ new) ≡ true
both_last [] new allowed unclosed before last = last
both_last (r ∷ rs) new allowed unclosed before last =
    and_from (not (is_commit r.body && changes_for (rs ++ new) r.tran)) (commits_last (rs ++ new)) (more (is_commit r.body) refl p.0)
    (both_last rs new allowed (λ id spot some changed. (or_parts ((r.tran == id) && is_end r.body) (is_closed rs id) (unclosed id spot some changed)).1) p.1 last)
  where
    p : (not (is_commit r.body && changes_for rs r.tran) ≡ true) × (commits_last rs ≡ true)
    p = and_parts (not (is_commit r.body && changes_for rs r.tran)) (commits_last rs) before

    none : is_commit r.body ≡ true → changes_for new r.tran ≡ false
    none is = elim (cases_Bool (changes_for new r.tran)) [
      | inl e ↦ (
          let x = changed_at new r.tran allowed e in
          let its : ((r.tran == r.tran) && is_end r.body) ≡ false = (or_parts ((r.tran == r.tran) && is_end r.body) (is_closed rs r.tran) (unclosed r.tran x.spot x.some x.changed)).0 in
          absurd (never (sym its ∙ and_from (r.tran == r.tran) (is_end r.body) (eq-eqb r.tran r.tran refl) (ends_tran r.body is))))
      | inr e ↦ e
    ]

    more : (b : Bool) → is_commit r.body ≡ b → not (b && changes_for rs r.tran) ≡ true → not (b && changes_for (rs ++ new) r.tran) ≡ true
    more true is e = ap not (for_both rs new r.tran ∙ neither (changes_for rs r.tran) (changes_for new r.tran) (not_true (changes_for rs r.tran) e) (none is))
    more false is e = refl

-- ---- those that a restart puts
no_commit : (b : Body) → is_back b ≡ true → is_commit b ≡ false
no_commit (body.RowChange c) e = absurd (never e)
no_commit (body.Compensation c undone) e = refl
no_commit (body.System patches) e = absurd (never e)
no_commit body.Commit e = absurd (never e)
no_commit body.Ended e = refl
no_commit (body.Checkpoint offset) e = absurd (never e)
no_commit body.RestartEnd e = absurd (never e)

pub undone_last : (records : List LogRecord) → AllByRecursion (λ (r : LogRecord). is_back r.body ≡ true) records → commits_last records ≡ true
undone_last [] back = refl
undone_last (r ∷ rs) back = and_from (not (is_commit r.body && changes_for rs r.tran)) (commits_last rs) (ap (λ (b : Bool). not (b && changes_for rs r.tran)) (no_commit r.body back.0)) (undone_last rs back.1)

-- ---- those that an event of a member puts
alone : (b : Bool) → (not (b && false) && true) ≡ true
alone true = refl
alone false = refl

one_last : (b : Bool) (r : LogRecord) → commits_last (one_if b r) ≡ true
one_last true r = alone (is_commit r.body)
one_last false r = refl

change_last : (s : MarksState) (t : TranState) (p : Plan) (n : ℕ) → commits_last (change_records s.log t p n) ≡ true
change_last s t plan.None n = refl
change_last s t (plan.System patches) n = one_last (fits_in s.log (system_record patches n)) (system_record patches n)
change_last s t (plan.Row c) n = one_last (not (n == 0) && (is_at_row c && (t.has_room && fits_in s.log (row_record t n c)))) (row_record t n c)
change_last s t (plan.Back c) n = refl
change_last s t (plan.Fault page at) n = refl

pair_last : (a b : Bool) (t : TranState) (n : ℕ) (it : Change) → commits_last (both_if a b (back_record t n it) (ended_record t n)) ≡ true
pair_last true true t n it = refl
pair_last true false t n it = refl
pair_last false b t n it = refl

newest_last : (s : MarksState) (t : TranState) (n : ℕ) (x : Option Change) → commits_last (back_records s.log t n x) ≡ true
newest_last s t n None = refl
newest_last s t n (Some it) = pair_last (may_back t it && both_fit s.log (back_record t n it) (ended_record t n)) (length t.changes == 1) t n it

undo_last : (s : MarksState) (t : TranState) (p : Plan) (n : ℕ) → commits_last (undo_records s.log t p n) ≡ true
undo_last s t plan.None n = refl
undo_last s t (plan.System patches) n = refl
undo_last s t (plan.Row c) n = refl
undo_last s t (plan.Back c) n = newest_last s t n (newest_of t)
undo_last s t (plan.Fault page at) n = refl

commit_last : (s : MarksState) (t : TranState) (n : ℕ) → commits_last (commit_records s.log t n) ≡ true
commit_last s t n = one_last (not (n == 0) && (is_forward t.stage && fits_in s.log (commit_record t n))) (commit_record t n)

drawn_last : (r : Reply) (records : ℕ → List LogRecord) → ((n : ℕ) → commits_last (records n) ≡ true) → commits_last (drawn_by r records) ≡ true
drawn_last (reply.Drawn n) records each = each n
drawn_last _ records each = refl

reply_last : (s : MarksState) (i : Intent) (p : Plan) (r : Reply) → commits_last (reply_records s i p r) ≡ true
reply_last s (intent.Change slot action frames) p r = drawn_last r (change_records s.log (slot_tran s slot) p) (change_last s (slot_tran s slot) p)
reply_last s (intent.Undo o at) p r = drawn_last r (undo_records s.log (tran_of s o) p) (undo_last s (tran_of s o) p)
reply_last s (intent.Commit slot) p r = drawn_last r (commit_records s.log (slot_tran s slot)) (commit_last s (slot_tran s slot))
reply_last s _ p r = refl

pub event_last : (s : MarksState) (i : Intent) (p : Plan) (a : Answered) → commits_last (event_records s i p a) ≡ true
event_last s i p answered.None = refl
event_last s i p (answered.Reply r) = reply_last s i p r
event_last s i p answered.Done = refl
event_last s i p answered.Failed = refl
