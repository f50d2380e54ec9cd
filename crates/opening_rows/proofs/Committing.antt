-- Which transactions count as committed.
use Rattle.std.proofs.Common.{◌≡◌, ℕ, eqb, Bool, true, false, ◌||◌, cond, List, [], ◌∷◌, ◌++◌, refl, sym, ap, ◌∙◌, true≢false, arith}
use Rattle.std.specs.Prelude.{◌==◌, ◌&&◌, not}
use Rattle.std.specs.List.{list_any}
use Rattle.ds_model.specs.declared.log.LogRecord.{LogRecord}
use Rattle.ds_model.specs.declared.log.Body.{Body}
use Rattle.ds_model.specs.declared.log.Body.TheVariants as body
use Rattle.ds_model.specs.Logs.{is_commit, has_commit}
use Rattle.opening_rows.specs.Pending.{pending_behind, pending_by, is_pending}
use Rattle.opening_rows.specs.Rows.{counts}

-- ---- pending transactions

pub pending_more : (tran : ℕ) (was : Bool) (rs ss : List LogRecord) → is_pending tran was (rs ++ ss) ≡ is_pending tran (is_pending tran was rs) ss
pending_more tran was [] ss = refl
pending_more tran was (r ∷ rs) ss = pending_more tran (pending_by tran was r) rs ss

abbrev pub is_change : Body → Bool
is_change body.Commit = false
is_change (body.RowChange change) = true
is_change (body.Compensation change undone) = false
is_change (body.System patches) = false
is_change body.Ended = false
is_change (body.Checkpoint offset) = false
is_change body.RestartEnd = false

-- the transaction has a row change among these
abbrev pub has_change : List LogRecord → ℕ → Bool
has_change records tran = list_any (λ (r : LogRecord). is_change r.body && (r.tran == tran)) records

no_first : (a b : Bool) → (a || b) ≡ false → a ≡ false
no_first true b e = e
no_first false b e = refl

no_second : (a b : Bool) → (a || b) ≡ false → b ≡ false
no_second true b e = absurd (true≢false e)
no_second false b e = e

-- one that is pending stays it without a Commit
stays_by : (b : Body) (same : Bool) → (is_commit b && same) ≡ false → cond same (pending_behind b true) true ≡ true
stays_by body.Commit true e = absurd (true≢false e)
stays_by body.Commit false e = refl
stays_by (body.RowChange change) true e = refl
stays_by (body.RowChange change) false e = refl
stays_by (body.Compensation change undone) true e = refl
stays_by (body.Compensation change undone) false e = refl
stays_by (body.System patches) true e = refl
stays_by (body.System patches) false e = refl
stays_by body.Ended true e = refl
stays_by body.Ended false e = refl
stays_by (body.Checkpoint offset) true e = refl
stays_by (body.Checkpoint offset) false e = refl
stays_by body.RestartEnd true e = refl
stays_by body.RestartEnd false e = refl

stays : (tran : ℕ) (rs : List LogRecord) → has_commit rs tran ≡ false → is_pending tran true rs ≡ true
stays tran [] e = refl
stays tran (r ∷ rs) e =
    ap (λ (b : Bool). is_pending tran b rs) (stays_by r.body (r.tran == tran) (no_first (is_commit r.body && (r.tran == tran)) (has_commit rs tran) e))
    ∙ stays tran rs (no_second (is_commit r.body && (r.tran == tran)) (has_commit rs tran) e)

-- and one that has changed a row is pending
becomes_by : (b : Body) (same was : Bool) → (is_change b && same) ≡ true → cond same (pending_behind b was) was ≡ true
becomes_by body.Commit same was e = absurd (true≢false (sym e))
becomes_by (body.RowChange change) true was e = refl
becomes_by (body.RowChange change) false was e = absurd (true≢false (sym e))
becomes_by (body.Compensation change undone) same was e = absurd (true≢false (sym e))
becomes_by (body.System patches) same was e = absurd (true≢false (sym e))
becomes_by body.Ended same was e = absurd (true≢false (sym e))
becomes_by (body.Checkpoint offset) same was e = absurd (true≢false (sym e))
becomes_by body.RestartEnd same was e = absurd (true≢false (sym e))

pending_when : (x : Bool) (tran : ℕ) (was : Bool) (r : LogRecord) (rs : List LogRecord) → (is_change r.body && (r.tran == tran)) ≡ x → has_commit (r ∷ rs) tran ≡ false → (x || has_change rs tran) ≡ true
    → (has_commit rs tran ≡ false → has_change rs tran ≡ true → is_pending tran (pending_by tran was r) rs ≡ true) → is_pending tran was (r ∷ rs) ≡ true
pending_when true tran was r rs is none has more =
    ap (λ (b : Bool). is_pending tran b rs) (becomes_by r.body (r.tran == tran) was is) ∙ stays tran rs (no_second (is_commit r.body && (r.tran == tran)) (has_commit rs tran) none)
pending_when false tran was r rs is none has more = more (no_second (is_commit r.body && (r.tran == tran)) (has_commit rs tran) none) has

pub changed_pending : (tran : ℕ) (was : Bool) (rs : List LogRecord) → has_commit rs tran ≡ false → has_change rs tran ≡ true → is_pending tran was rs ≡ true
changed_pending tran was [] none has = absurd (true≢false (sym has))
changed_pending tran was (r ∷ rs) none has =
    pending_when (is_change r.body && (r.tran == tran)) tran was r rs refl none has (λ n h. changed_pending tran (pending_by tran was r) rs n h)

-- ---- those that count

counts_when : (p c commit : Bool) → c ≡ (p && commit) → (commit ≡ false → p ≡ true) → (not p || c) ≡ commit
counts_when true c commit is h = is
counts_when false c true is h = refl
counts_when false c false is h = absurd (true≢false (sym (h refl)))

-- the row changes of a transaction with such a change count where it has a Commit record
pub counts_right : (pending committed : ℕ → Bool) (rs : List LogRecord) (tran : ℕ) → pending tran ≡ is_pending tran false rs → committed tran ≡ (pending tran && has_commit rs tran) → has_change rs tran ≡ true
    → counts pending committed tran ≡ has_commit rs tran
counts_right pending committed rs tran is found has = counts_when (pending tran) (committed tran) (has_commit rs tran) found (λ none. is ∙ changed_pending tran false rs none has)

-- ---- records that change rows

eqb_self : (n : ℕ) → eqb n n ≡ true
eqb_self n = grind arith

or_true : (a b : Bool) → b ≡ true → (a || b) ≡ true
or_true true b e = refl
or_true false b e = e

here_by : (a b more : Bool) → a ≡ true → b ≡ true → ((a && b) || more) ≡ true
here_by true true more p q = refl
here_by true false more p q = absurd (true≢false (sym q))
here_by false b more p q = absurd (true≢false (sym p))

-- the transaction of a row change has one
pub change_at : (pre rs : List LogRecord) (r : LogRecord) → is_change r.body ≡ true → has_change (pre ++ r ∷ rs) r.tran ≡ true
change_at [] rs r e = here_by (is_change r.body) (eqb r.tran r.tran) (has_change rs r.tran) e (eqb_self r.tran)
change_at (p ∷ pre) rs r e = or_true (is_change p.body && (p.tran == r.tran)) (has_change (pre ++ r ∷ rs) r.tran) (change_at pre rs r e)
