-- Two maps that were changed from one are equal where they agree at the rows that were changed.
use Rattle.std.proofs.Common.{◌≡◌, ℕ, Bool, true, false, cond, ◌||◌, List, [], ◌∷◌, map, refl, sym, ap, subst, ◌∙◌, true≢false}
use Rattle.std.specs.Prelude.{Option, Some, None}
use Rattle.std.specs.List.{list_any, AllByRecursion}
use Rattle.std.specs.Ordering.{eq_by_cmp}
use Rattle.std.specs.Cmp.{Equal-is}
use Rattle.std.specs.FinMap as finite
use Rattle.std.specs.FinMap.{get-insert, get-remove, same_map}
use denote.Ref.{Bor}
use Rattle.ds_model.specs.declared.script.Op.{Op}
use Rattle.ds_model.specs.declared.script.Op.TheVariants as op
use Rattle.ds_model.specs.declared.log.Body.{Body}
use Rattle.ds_model.specs.declared.log.Body.TheVariants as body
use Rattle.ds_model.specs.declared.log.LogRecord.{LogRecord}
use Rattle.ds_model.specs.Rows.{Spot, Rows, spot_cmp, spot_cmp_total}
use Rattle.ds_model.specs.Effect.{after_op, after_ops, after_tran, aborts}
use Rattle.ds_model.specs.Logs.{set_row, after_body, after_records}
use Rattle.spot_map.specs.Undo.{exact_spots}
use Rattle.report_check.specs.Effects.{AgreeAtOp, AgreeAtBody, AgreeAtRecord}

abbrev same_spot : Spot → Spot → Bool
same_spot q s = eq_by_cmp spot_cmp q s

is_spot : (q s : Spot) → same_spot q s ≡ true → q ≡ s
is_spot q s e = exact_spots q s ((Equal-is (spot_cmp q s)).0 e)

-- whether the operation changes this row
op_touches : Spot → Op → Bool
op_touches q (op.Get table key) = false
op_touches q (op.Getu table key) = false
op_touches q (op.Put table key value) = same_spot q (table, key)
op_touches q (op.Del table key) = same_spot q (table, key)
op_touches q (op.Scan table low high) = false
op_touches q (op.Raise flag) = false
op_touches q (op.Await flag) = false
op_touches q op.LoseCache = false
op_touches q op.Abort = false

body_touches : Spot → Body → Bool
body_touches q body.Commit = false
body_touches q (body.RowChange c) = same_spot q (c.table, c.key)
body_touches q (body.Compensation c undone) = false
body_touches q (body.System patches) = false
body_touches q body.Ended = false
body_touches q (body.Checkpoint offset) = false
body_touches q body.RestartEnd = false

unset : (rows : Rows) (q s : Spot) (v : List ℕ) → same_spot q s ≡ false → finite.get (finite.insert rows s v) q ≡ finite.get rows q
unset rows q s v e = get-insert spot_cmp_total rows s v q ∙ ap (λ b. cond b (Some v) (finite.get rows q)) e

unremoved : (rows : Rows) (q s : Spot) → same_spot q s ≡ false → finite.get (finite.remove rows s) q ≡ finite.get rows q
unremoved rows q s e = get-remove spot_cmp_total rows s q ∙ ap (λ b. cond b None (finite.get rows q)) e

op_leaves : (rows : Rows) (q : Spot) (o : Op) → op_touches q o ≡ false → finite.get (after_op rows o) q ≡ finite.get rows q
unfolding op_touches
op_leaves rows q (op.Get table key) e = refl
op_leaves rows q (op.Getu table key) e = refl
op_leaves rows q (op.Put table key value) e = unset rows q (table, key) value e
op_leaves rows q (op.Del table key) e = unremoved rows q (table, key) e
op_leaves rows q (op.Scan table low high) e = refl
op_leaves rows q (op.Raise flag) e = refl
op_leaves rows q (op.Await flag) e = refl
op_leaves rows q op.LoseCache e = refl
op_leaves rows q op.Abort e = refl

set_leaves : (rows : Rows) (q : Spot) (table key : ℕ) (v : Option (List ℕ)) → same_spot q (table, key) ≡ false → finite.get (set_row rows table key v) q ≡ finite.get rows q
set_leaves rows q table key None e = unremoved rows q (table, key) e
set_leaves rows q table key (Some v) e = unset rows q (table, key) v e

body_leaves : (rows : Rows) (q : Spot) (b : Body) → body_touches q b ≡ false → finite.get (after_body rows b) q ≡ finite.get rows q
unfolding body_touches
body_leaves rows q body.Commit e = refl
body_leaves rows q (body.RowChange c) e = set_leaves rows q c.table c.key c.after e
body_leaves rows q (body.Compensation c undone) e = refl
body_leaves rows q (body.System patches) e = refl
body_leaves rows q body.Ended e = refl
body_leaves rows q (body.Checkpoint offset) e = refl
body_leaves rows q body.RestartEnd e = refl

neither_first : (a b : Bool) → (a || b) ≡ false → a ≡ false
neither_first true b e = absurd (true≢false e)
neither_first false b e = refl

neither_second : (a b : Bool) → (a || b) ≡ false → b ≡ false
neither_second true b e = absurd (true≢false e)
neither_second false b e = e

ops_leave : (rows : Rows) (q : Spot) (ops : List Op) → list_any (op_touches q) ops ≡ false → finite.get (after_ops rows ops) q ≡ finite.get rows q
ops_leave rows q [] e = refl
ops_leave rows q (o ∷ ops) e =
    ops_leave (after_op rows o) q ops (neither_second (op_touches q o) (list_any (op_touches q) ops) e)
    ∙ op_leaves rows q o (neither_first (op_touches q o) (list_any (op_touches q) ops) e)

records_leave : (rows : Rows) (q : Spot) (rs : List LogRecord) → list_any (λ (r : LogRecord). body_touches q r.body) rs ≡ false → finite.get (after_records rows rs) q ≡ finite.get rows q
records_leave rows q [] e = refl
records_leave rows q (r ∷ rs) e =
    records_leave (after_body rows r.body) q rs (neither_second (body_touches q r.body) (list_any (λ (r : LogRecord). body_touches q r.body) rs) e)
    ∙ body_leaves rows q r.body (neither_first (body_touches q r.body) (list_any (λ (r : LogRecord). body_touches q r.body) rs) e)

tran_when : (b : Bool) (rows done : Rows) (q : Spot) → finite.get done q ≡ finite.get rows q → finite.get (cond b rows done) q ≡ finite.get rows q
tran_when true rows done q e = refl
tran_when false rows done q e = e

tran_leaves : (rows : Rows) (q : Spot) (ops : List Op) → list_any (op_touches q) ops ≡ false → finite.get (after_tran rows ops) q ≡ finite.get rows q
tran_leaves rows q ops e = tran_when (aborts ops) rows (after_ops rows ops) q (ops_leave rows q ops e)

module _ (a b : Rows) where
  at_spot : (q : Spot) (table key : ℕ) → same_spot q (table, key) ≡ true → finite.get a (table, key) ≡ finite.get b (table, key) → finite.get a q ≡ finite.get b q
  at_spot q table key e h =
      let s : Spot = (table, key) in
      subst (λ (x : Spot). finite.get a x ≡ finite.get b x) (sym (is_spot q s e)) h

  at_op : (q : Spot) (o : Op) → op_touches q o ≡ true → AgreeAtOp a b o → finite.get a q ≡ finite.get b q
  unfolding op_touches
  at_op q (op.Get table key) e h = absurd (true≢false (sym e))
  at_op q (op.Getu table key) e h = absurd (true≢false (sym e))
  at_op q (op.Put table key value) e h = at_spot q table key e h
  at_op q (op.Del table key) e h = at_spot q table key e h
  at_op q (op.Scan table low high) e h = absurd (true≢false (sym e))
  at_op q (op.Raise flag) e h = absurd (true≢false (sym e))
  at_op q (op.Await flag) e h = absurd (true≢false (sym e))
  at_op q op.LoseCache e h = absurd (true≢false (sym e))
  at_op q op.Abort e h = absurd (true≢false (sym e))

  at_body : (q : Spot) (r : Body) → body_touches q r ≡ true → AgreeAtBody a b r → finite.get a q ≡ finite.get b q
  unfolding body_touches
  at_body q body.Commit e h = absurd (true≢false (sym e))
  at_body q (body.RowChange c) e h = at_spot q c.table c.key e h
  at_body q (body.Compensation c undone) e h = absurd (true≢false (sym e))
  at_body q (body.System patches) e h = absurd (true≢false (sym e))
  at_body q body.Ended e h = absurd (true≢false (sym e))
  at_body q (body.Checkpoint offset) e h = absurd (true≢false (sym e))
  at_body q body.RestartEnd e h = absurd (true≢false (sym e))

  -- one of the elements settles it
  at_one : {X : Type 0} (touches : X → Bool) (P : X → Type 0) (q : Spot) → ((x : X) → touches x ≡ true → P x → finite.get a q ≡ finite.get b q) → (xs : List X)
      → list_any touches xs ≡ true → AllByRecursion P xs → finite.get a q ≡ finite.get b q
  at_one touches P q so [] e h = absurd (true≢false (sym e))
  at_one touches P q so (x ∷ xs) e h =
      elim (touches x) as (λ t. touches x ≡ t → (t || list_any touches xs) ≡ true → finite.get a q ≡ finite.get b q) [
        | true ↦ λ is whole. so x is h.0
        | false ↦ λ is whole. at_one touches P q so xs whole h.1
      ] refl e

  -- at each row
  agree_at_each : (start : Rows) (ops : List Op) (rs : List LogRecord) → a ≡ after_tran start ops → b ≡ after_records start rs
      → AllByRecursion (AgreeAtOp a b) ops → AllByRecursion (AgreeAtRecord a b) rs → (q : Spot) → finite.get a q ≡ finite.get b q
  agree_at_each start ops rs is_a is_b h g q =
      elim (list_any (op_touches q) ops) as (λ t. list_any (op_touches q) ops ≡ t → finite.get a q ≡ finite.get b q) [
        | true ↦ λ e. at_one (op_touches q) (AgreeAtOp a b) q (at_op q) ops e h
        | false ↦ λ e.
            elim (list_any (λ (r : LogRecord). body_touches q r.body) rs) as (λ u. list_any (λ (r : LogRecord). body_touches q r.body) rs ≡ u → finite.get a q ≡ finite.get b q) [
              | true ↦ λ f. at_one (λ (r : LogRecord). body_touches q r.body) (AgreeAtRecord a b) q (λ r. at_body q r.body) rs f g
              | false ↦ λ f.
                  ap (λ (m : Rows). finite.get m q) is_a ∙ tran_leaves start q ops e
                  ∙ sym (ap (λ (m : Rows). finite.get m q) is_b ∙ records_leave start q rs f)
            ] refl
      ] refl

  pub agree_everywhere : (start : Rows) (ops : List Op) (rs : List LogRecord) → a ≡ after_tran start ops → b ≡ after_records start rs
      → AllByRecursion (AgreeAtOp a b) ops → AllByRecursion (AgreeAtRecord a b) rs → a ≡ b
  agree_everywhere start ops rs is_a is_b h g = same_map spot_cmp_total exact_spots a b (agree_at_each start ops rs is_a is_b h g)

  agree_op : a ≡ b → (o : Op) → AgreeAtOp a b o
  agree_op e (op.Get table key) = tt
  agree_op e (op.Getu table key) = tt
  agree_op e (op.Put table key value) = ap (λ (m : Rows). finite.get m (table, key)) e
  agree_op e (op.Del table key) = ap (λ (m : Rows). finite.get m (table, key)) e
  agree_op e (op.Scan table low high) = tt
  agree_op e (op.Raise flag) = tt
  agree_op e (op.Await flag) = tt
  agree_op e op.LoseCache = tt
  agree_op e op.Abort = tt

  agree_body : a ≡ b → (r : Body) → AgreeAtBody a b r
  agree_body e body.Commit = tt
  agree_body e (body.RowChange c) = ap (λ (m : Rows). finite.get m (c.table, c.key)) e
  agree_body e (body.Compensation c undone) = tt
  agree_body e (body.System patches) = tt
  agree_body e body.Ended = tt
  agree_body e (body.Checkpoint offset) = tt
  agree_body e body.RestartEnd = tt

  each : {X : Type 0} (P : X → Type 0) → ((x : X) → P x) → (xs : List X) → AllByRecursion P xs
  each P so [] = tt
  each P so (x ∷ xs) = (so x, each P so xs)

  pub agree_ops : a ≡ b → (ops : List Op) → AllByRecursion (AgreeAtOp a b) ops
  agree_ops e ops = each (AgreeAtOp a b) (agree_op e) ops

  pub agree_records : a ≡ b → (rs : List (Bor LogRecord)) → AllByRecursion (λ (r : Bor LogRecord). AgreeAtRecord a b r.now) rs
  agree_records e rs = each (λ (r : Bor LogRecord). AgreeAtRecord a b r.now) (λ r. agree_body e r.now.body) rs

  pub seen_records : (rs : List (Bor LogRecord)) → AllByRecursion (λ (r : Bor LogRecord). AgreeAtRecord a b r.now) rs → AllByRecursion (AgreeAtRecord a b) (map (λ (r : Bor LogRecord). r.now) rs)
  seen_records [] h = tt
  seen_records (r ∷ rs) h = (h.0, seen_records rs h.1)

  pub one_effect : (start before : Rows) (ops : List Op) (rs : List (Bor LogRecord)) → before ≡ start → a ≡ after_tran start ops → b ≡ after_records before (map (λ (r : Bor LogRecord). r.now) rs)
      → AllByRecursion (AgreeAtOp a b) ops → AllByRecursion (λ (r : Bor LogRecord). AgreeAtRecord a b r.now) rs → b ≡ a
  one_effect start before ops rs same is_a is_b h g =
      let seen = map (λ (r : Bor LogRecord). r.now) rs in
      sym (agree_everywhere start ops seen is_a (is_b ∙ ap (λ (m : Rows). after_records m seen) same) h (seen_records rs g))
