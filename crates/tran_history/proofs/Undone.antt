-- Changes that are taken back, the last first.
use Rattle.std.proofs.Common.{◌≡◌, ℕ, List, [], ◌∷◌, ◌++◌, Option, Some, None, refl, sym, ap, ◌∙◌}
use Rattle.std.specs.FinMap as finite
use Rattle.ds_model.specs.Rows.{Rows}
use Rattle.ds_model.specs.Logs.{set_row}
use Rattle.spot_map.specs.Undo.{insert-insert_back, remove-insert_new, insert-remove_back, remove-absent}
use Rattle.tran_history.specs.declared.change.Change.{Change}
use Rattle.tran_history.specs.Changes.{undone}

abbrev back : Rows → Change → Rows
back rows c = set_row rows c.table c.key c.before

undone-push : (rows : Rows) (cs : List Change) (c : Change) → undone rows (cs ++ c ∷ []) ≡ undone (back rows c) cs
undone-push rows [] c = refl
undone-push rows (x ∷ cs) c = ap (λ (m : Rows). back m x) (undone-push rows cs c)

-- one change is taken back
pub one_undone : (rows now start : Rows) (cs left : List Change) (c : Change)
    → cs ≡ left ++ c ∷ [] → now ≡ back rows c → undone rows cs ≡ start → undone now left ≡ start
one_undone rows now start cs left c is now_is before =
    ap (λ (m : Rows). undone m left) now_is ∙ sym (undone-push rows left c) ∙ ap (undone rows) (sym is) ∙ before

-- one change is noted
noted : (rows now : Rows) (cs : List Change) (c : Change) → back now c ≡ rows → undone now (cs ++ c ∷ []) ≡ undone rows cs
noted rows now cs c is = undone-push now cs c ∙ ap (λ (m : Rows). undone m cs) is

put_back : (m : Rows) (table key : ℕ) (v : List ℕ) (before : Option (List ℕ)) → finite.get m (table, key) ≡ before → set_row (finite.insert m (table, key) v) table key before ≡ m
put_back m table key v None is = remove-insert_new m (table, key) v is
put_back m table key v (Some w) is = insert-insert_back m (table, key) v w is

del_back : (m : Rows) (table key : ℕ) (before : Option (List ℕ)) → finite.get m (table, key) ≡ before → set_row (finite.remove m (table, key)) table key before ≡ m
del_back m table key None is = let same = remove-absent m (table, key) is in ap (λ (n : Rows). finite.remove n (table, key)) same ∙ same
del_back m table key (Some w) is = insert-remove_back m (table, key) w is

pub noted_put : (m : Rows) (table key : ℕ) (v : List ℕ) (before : Option (List ℕ)) (cs ds : List Change) → ds ≡ cs ++ record { table = table; key = key; before = before } ∷ [] → before ≡ finite.get m (table, key) → undone (finite.insert m (table, key) v) ds ≡ undone m cs
noted_put m table key v before cs ds are is = ap (undone (finite.insert m (table, key) v)) are ∙ noted m (finite.insert m (table, key) v) cs (record { table = table; key = key; before = before }) (put_back m table key v before (sym is))

pub noted_del : (m : Rows) (table key : ℕ) (before : Option (List ℕ)) (cs ds : List Change) → ds ≡ cs ++ record { table = table; key = key; before = before } ∷ [] → before ≡ finite.get m (table, key) → undone (finite.remove m (table, key)) ds ≡ undone m cs
noted_del m table key before cs ds are is = ap (undone (finite.remove m (table, key))) are ∙ noted m (finite.remove m (table, key)) cs (record { table = table; key = key; before = before }) (del_back m table key before (sym is))
