-- A sound report tells a sound history.
use Rattle.std.proofs.Common.{◌≡◌, ℕ, zero, suc, Bool, true, false, cond, leb, List, [], ◌∷◌, map, drop, refl, sym, ap, subst, ◌∙◌}
use Rattle.std.specs.List.Sorted.{IsPermutation}
use Rattle.std.proofs.lemmas.List.Sorted.{IsPermutation-refl, IsPermutation-cons, IsPermutation-trans, IsPermutation-middle}
use Rattle.ds_model.specs.declared.script.Op.{Op}
use Rattle.ds_model.specs.declared.script.Script.{Script}
use Rattle.ds_model.specs.declared.fate.Fate.{Fate}
use Rattle.ds_model.specs.declared.fate.Fate.TheVariants as fate
use Rattle.ds_model.specs.declared.history.Entry.{Entry}
use Rattle.ds_model.specs.declared.report.ReportEntry.{ReportEntry}
use Rattle.ds_model.specs.declared.report.Told.{Told}
use Rattle.ds_model.specs.Rows.{Rows}
use Rattle.ds_model.specs.Transactions.{Placed, placed}
use Rattle.ds_model.specs.History.{played, is_committed, after_fate, FateIsLegal, replay, IsLegal, PrintIsLegal, ArePrintsLegal, IsInOrder}
use Rattle.ds_model.specs.Told.{told_of, entry_of}
use Rattle.report_check.specs.Numbered.{put_by, sorted_by}
use Rattle.report_check.specs.Order.{front_of, AreOthers}
use Rattle.report_check.specs.Laws.{EachStandsOnce, settled_fate, settled, TellsSoundHistory, TellsSoundAlone}
use Rattle.report_check.proofs.Ordered.{in_order_yes, in_order_needs}

-- ---- the order by numbers moves items alone

module _ {X : Type 0} (number : X → ℕ) where
  put_moves_when : (b : Bool) (x y : X) (ys us : List X) → IsPermutation (x ∷ ys) us → IsPermutation (x ∷ y ∷ ys) (cond b (x ∷ y ∷ ys) (y ∷ us))
  put_moves_when true x y ys us h = IsPermutation-refl (x ∷ y ∷ ys)
  put_moves_when false x y ys us h = IsPermutation-trans (x ∷ y ∷ ys) (y ∷ x ∷ ys) (y ∷ us) (IsPermutation-middle (x ∷ []) y ys) (IsPermutation-cons y (x ∷ ys) us h)

  put_moves : (x : X) (ys : List X) → IsPermutation (x ∷ ys) (put_by number x ys)
  put_moves x [] = IsPermutation-refl (x ∷ [])
  put_moves x (y ∷ ys) = put_moves_when (leb (number x) (number y)) x y ys (put_by number x ys) (put_moves x ys)

  order_moves : (xs : List X) → IsPermutation xs (sorted_by number xs)
  order_moves [] = IsPermutation-refl []
  order_moves (x ∷ xs) =
      IsPermutation-trans (x ∷ xs) (x ∷ sorted_by number xs) (put_by number x (sorted_by number xs)) (IsPermutation-cons x xs (sorted_by number xs) (order_moves xs)) (put_moves x (sorted_by number xs))

pub stands_once : EachStandsOnce
stands_once script opening entries logs had s = subst (IsPermutation (map played entries)) s.each_once (order_moves (λ (p : Placed). p.1.number) (map played entries))

-- ---- settled reads

same_commit : (rows : Rows) (ops : List Op) (f : Fate) → is_committed (settled_fate rows ops f) ≡ is_committed f
same_commit rows ops (fate.Committed true reads) = refl
same_commit rows ops (fate.Committed false reads) = refl
same_commit rows ops (fate.Refused refusal) = refl
same_commit rows ops fate.Stopped = refl

same_after : (at rows : Rows) (ops : List Op) (f : Fate) → after_fate rows ops (settled_fate at ops f) ≡ after_fate rows ops f
same_after at rows ops (fate.Committed true reads) = refl
same_after at rows ops (fate.Committed false reads) = refl
same_after at rows ops (fate.Refused refusal) = refl
same_after at rows ops fate.Stopped = refl

same_told : (s : Script) (rows : Rows) (ops : List Op) (f : Fate) → told_of s ops (settled_fate rows ops f) ≡ told_of s ops f
same_told s rows ops (fate.Committed true reads) = refl
same_told s rows ops (fate.Committed false reads) = refl
same_told s rows ops (fate.Refused refusal) = refl
same_told s rows ops fate.Stopped = refl

settles : (rows : Rows) (ops : List Op) (f : Fate) → PrintIsLegal rows ops f → FateIsLegal rows ops (settled_fate rows ops f)
settles rows ops (fate.Committed true reads) h = h
settles rows ops (fate.Committed false reads) h = refl
settles rows ops (fate.Refused refusal) h = tt
settles rows ops fate.Stopped h = tt

same_played : (rows : Rows) (es : List Entry) → map played (settled rows es) ≡ map played es
same_played rows [] = refl
same_played rows (e ∷ es) = ap (λ (l : List Placed). played e ∷ l) (same_played (after_fate rows e.tran.ops e.fate) es)

all_told : (s : Script) (rows : Rows) (es : List Entry) → map (entry_of s) (settled rows es) ≡ map (entry_of s) es
all_told s rows [] = refl
all_told s rows (e ∷ es) =
    ap (λ (t : Told). let it : ReportEntry = record { name = e.tran.name; member = e.member; told = t } in it ∷ map (entry_of s) (settled (after_fate rows e.tran.ops e.fate) es)) (same_told s rows e.tran.ops e.fate)
    ∙ ap (λ (l : List ReportEntry). entry_of s e ∷ l) (all_told s (after_fate rows e.tran.ops e.fate) es)

all_legal : (rows : Rows) (es : List Entry) → ArePrintsLegal rows es → IsLegal rows (settled rows es)
all_legal rows [] h = tt
all_legal rows (e ∷ es) h =
    let later : Rows = after_fate rows e.tran.ops e.fate in
    (settles rows e.tran.ops e.fate h.0, subst (λ (m : Rows). IsLegal m (settled later es)) (sym (same_after rows rows e.tran.ops e.fate)) (all_legal later es h.1))

same_replay : (rows : Rows) (es : List Entry) → replay rows (settled rows es) ≡ replay rows es
same_replay rows [] = refl
same_replay rows (e ∷ es) =
    let later : Rows = after_fate rows e.tran.ops e.fate in
    ap (λ (m : Rows). replay m (settled later es)) (same_after rows rows e.tran.ops e.fate) ∙ same_replay later es

same_front : (rows : Rows) (es : List Entry) → front_of (settled rows es) ≡ front_of es
same_front rows [] = refl
same_front rows (e ∷ es) =
    ap (λ b. cond b (suc (front_of (settled (after_fate rows e.tran.ops e.fate) es))) 0) (same_commit rows e.tran.ops e.fate)
    ∙ ap (λ n. cond (is_committed e.fate) (suc n) 0) (same_front (after_fate rows e.tran.ops e.fate) es)

same_others : (rows : Rows) (n low : ℕ) (es : List Entry) → AreOthers low (drop n es) → AreOthers low (drop n (settled rows es))
same_others rows zero low [] h = tt
same_others rows zero low (e ∷ es) h = (same_commit rows e.tran.ops e.fate ∙ h.0, h.1, same_others (after_fate rows e.tran.ops e.fate) zero e.tran.number es h.2)
same_others rows (suc n) low [] h = tt
same_others rows (suc n) low (e ∷ es) h = same_others (after_fate rows e.tran.ops e.fate) n low es h

same_order : (rows : Rows) (es : List Entry) → IsInOrder es → IsInOrder (settled rows es)
same_order rows es h =
    in_order_yes (settled rows es) (subst (λ n. AreOthers 0 (drop n (settled rows es))) (sym (same_front rows es)) (same_others rows (front_of es) 0 es (in_order_needs es h)))

pub tells_history : TellsSoundHistory
tells_history script opening entries logs had s = record {
  sound = record {
    each_once = subst (λ (l : List Placed). IsPermutation l (placed script)) (sym (same_played opening entries)) (stands_once script opening entries logs had s);
    order = same_order opening entries s.order;
    legal = all_legal opening entries s.ends.legal;
  };
  told = all_told script opening entries;
  rows = same_replay opening entries ∙ s.ends.rows;
}

pub tells_alone : TellsSoundAlone
tells_alone script opening entries s = record {
  sound = record {
    each_once = subst (λ (l : List Placed). IsPermutation l (placed script)) (sym (same_played opening entries)) (subst (IsPermutation (map played entries)) s.each_once (order_moves (λ (p : Placed). p.1.number) (map played entries)));
    order = same_order opening entries s.order;
    legal = all_legal opening entries s.legal;
  };
  told = all_told script opening entries;
  rows = same_replay opening entries;
}
