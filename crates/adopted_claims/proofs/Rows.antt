-- The rows of a transaction, from its records.
use Rattle.std.proofs.Common.{◌≡◌, ℕ, refl, sym, ◌∙◌, ap, subst, Bool, true, false, List, [], ◌∷◌, ◌++◌}
use Rattle.std.specs.Prelude.{◌==◌, ◌&&◌, ◌||◌, map, reverse}
use Rattle.std.specs.List.{AllByRecursion, flat_map}
use Rattle.std.proofs.lemmas.Bool.{eq-eqb, or_left, or_right}
use Rattle.std.proofs.lemmas.List.{reverse-append}
use Rattle.ds_model.specs.Rows.{Spot}
use Rattle.ds_model.specs.declared.log.Body.{Body}
use Rattle.ds_model.specs.declared.log.Body.TheVariants as body
use Rattle.ds_model.specs.declared.log.LogRecord.{LogRecord}
use Rattle.ds_model.specs.declared.log.RowChange.{RowChange}
use Rattle.log_rows.specs.Rows.{has_row, is_change_of, touches}
use Rattle.log_trans.specs.declared.opened.OpenTran.{OpenTran}
use Rattle.member_trans.specs.declared.fate.Change.{Change}
use Rattle.member_marks.specs.Rollbacks.{row_changed, row_of, spots_of}
use Rattle.group_member.specs.Adopting.{change_in, changes_in, changes_left, row_in, rows_in, rows_left}
use Rattle.group_member.specs.Adopting.{row_of as row_in_body}
use Rattle.lock_protocol.specs.Machine.{World}
use Rattle.lock_world.specs.Rollbacks.{HasClaimed}
use Rattle.lock_world.specs.Views.{rollback_owner}
use Rattle.restart_records.specs.Trans.{opened_among}
use Rattle.restart_claims.specs.Claims.{ClaimsTell, HasRows, SpotsClaimed}
use Rattle.adopted_claims.specs.Rows.{AdoptedHave, RowsTouched}

-- ---- lists
all_both : {X : Type 0} (P : X → Type 0) (xs ys : List X) → AllByRecursion P xs → AllByRecursion P ys → AllByRecursion P (xs ++ ys)
all_both P [] ys h k = k
all_both P (x ∷ xs) ys h k = (h.0, all_both P xs ys h.1 k)

all_as : {X : Type 0} (P Q : X → Type 0) (xs : List X) → ((x : X) → P x → Q x) → AllByRecursion P xs → AllByRecursion Q xs
all_as P Q [] f h = tt
all_as P Q (x ∷ xs) f h = (f x h.0, all_as P Q xs f h.1)

all_back : {X : Type 0} (P : X → Type 0) (xs : List X) → AllByRecursion P xs → AllByRecursion P (reverse xs)
all_back P [] h = tt
all_back {X} P (x ∷ xs) h = subst (λ (z : List X). AllByRecursion P z) (sym (reverse-append (x ∷ []) xs)) (all_both P (reverse xs) (x ∷ []) (all_back P xs h.1) (h.0, tt))

-- ---- the rows of records
-- these are rows that one of the records changes
abbrev AreRows : List LogRecord → List Spot → Type 0
AreRows rs spots = AllByRecursion (λ (s : Spot). has_row rs s ≡ true) spots

own_row : (c : RowChange) → ((c.table == c.table) && (c.key == c.key)) ≡ true
own_row c = ap (λ (b : Bool). b && (c.key == c.key)) (eq-eqb c.table c.table refl) ∙ eq-eqb c.key c.key refl

more_rows : (r : LogRecord) (rs : List LogRecord) (spots : List Spot) → AreRows rs spots → AreRows (r ∷ rs) spots
more_rows r rs spots h = all_as (λ (s : Spot). has_row rs s ≡ true) (λ (s : Spot). has_row (r ∷ rs) s ≡ true) spots (λ s e. or_right (is_change_of s r.body) (has_row rs s) e) h

row_first : (r : LogRecord) (rs : List LogRecord) (c : RowChange) → r.body ≡ body.RowChange c → has_row (r ∷ rs) (c.table, c.key) ≡ true
row_first r rs c is = or_left (is_change_of (c.table, c.key) r.body) (has_row rs (c.table, c.key)) (ap (λ (z : Body). is_change_of (c.table, c.key) z) is ∙ own_row c)

changes_rows : (rs : List LogRecord) → AreRows rs (map row_of (flat_map change_in rs))
changes_rows [] = tt
changes_rows (r ∷ rs) = by (more_rows r rs (map row_of (flat_map change_in rs)) (changes_rows rs)) r.body refl
  where
    by : AreRows (r ∷ rs) (map row_of (flat_map change_in rs)) → (b : Body) → r.body ≡ b → AreRows (r ∷ rs) (map row_of (changes_in r (row_in_body b) ++ flat_map change_in rs))
    by rest (body.RowChange c) is = (row_first r rs c is, rest)
    by rest (body.Compensation c undone) is = rest
    by rest (body.System patches) is = rest
    by rest body.Commit is = rest
    by rest body.Ended is = rest
    by rest (body.Checkpoint offset) is = rest
    by rest body.RestartEnd is = rest

undone_rows : (rs : List LogRecord) → AreRows rs (map row_changed (flat_map row_in rs))
undone_rows [] = tt
undone_rows (r ∷ rs) = by (more_rows r rs (map row_changed (flat_map row_in rs)) (undone_rows rs)) r.body refl
  where
    by : AreRows (r ∷ rs) (map row_changed (flat_map row_in rs)) → (b : Body) → r.body ≡ b → AreRows (r ∷ rs) (map row_changed (rows_in (row_in_body b) ++ flat_map row_in rs))
    by rest (body.RowChange c) is = (row_first r rs c is, rest)
    by rest (body.Compensation c undone) is = rest
    by rest (body.System patches) is = rest
    by rest body.Commit is = rest
    by rest body.Ended is = rest
    by rest (body.Checkpoint offset) is = rest
    by rest body.RestartEnd is = rest

-- ---- those of a transaction
abbrev Touches : OpenTran → Spot → Type 0
Touches t s = touches t s ≡ true

pub rows_touched : RowsTouched
rows_touched t =
    let stands : AreRows t.undo (map row_of (changes_left t)) = changes_rows t.undo in
    let back : AreRows t.undone (map row_changed (rows_left t)) = undone_rows t.undone in
    all_both (Touches t) (reverse (map row_of (changes_left t))) (map row_changed (rows_left t))
    (all_back (Touches t) (map row_of (changes_left t)) (all_as (λ (s : Spot). has_row t.undo s ≡ true) (Touches t) (map row_of (changes_left t)) (λ s e. or_left (has_row t.undo s) (has_row t.undone s) e) stands))
    (all_as (λ (s : Spot). has_row t.undone s ≡ true) (Touches t) (map row_changed (rows_left t)) (λ s e. or_right (has_row t.undo s) (has_row t.undone s) e) back)

pub adopted_have : ClaimsTell → SpotsClaimed → AdoptedHave
adopted_have tell spots bytes w s claimed read up =
    all_as (HasRows w s.member) (λ (t : OpenTran). HasClaimed w s.member (rollback_owner t.id) (spots_of (changes_left t) (rows_left t))) (opened_among s.trans.list)
    (λ t has. spots w s.member t (spots_of (changes_left t) (rows_left t)) has (rows_touched t)) (tell bytes w s claimed read up)
