-- What a log leaves open beside the transactions of a restart.
use Rattle.std.proofs.Common.{◌≡◌, ℕ, ◌≤◌, refl, sym, ◌∙◌, ap, subst, arith, Bool, true, false, cond, inl, inr, List, [], ◌∷◌, ◌++◌, take, drop, length}
use Rattle.std.specs.Prelude.{◌≢◌, ◌⊎◌, ◌==◌, ◌&&◌, ◌||◌, map, filter}
use Rattle.std.specs.List.{AllByRecursion}
use Rattle.std.proofs.lemmas.Bool.{and_parts, both_ways, eqb-true, or_cases, or_left, or_right}
use Rattle.std.proofs.lemmas.List.{take-append-drop}
use Rattle.ds_model.specs.RecordBytes.{log_bytes}
use Rattle.ds_model.specs.Rows.{Spot}
use Rattle.ds_model.specs.declared.log.LogRecord.{LogRecord}
use Rattle.log_appends.specs.Appends.{AreBehind, AreLastFrom}
use Rattle.log_opens.specs.Opens.{has_opened}
use Rattle.log_rows.specs.Rows.{BothTell, IsOpenIn, has_changed, has_row, is_closed, touches}
use Rattle.log_trans.specs.declared.opened.OpenTran.{OpenTran}
use Rattle.log_trans.specs.Courses.{open_trans}
use Rattle.restart_records.specs.declared.trans.RestartStage.{RestartStage}
use Rattle.restart_records.specs.declared.trans.RestartStage.TheVariants as stage
use Rattle.restart_records.specs.declared.trans.RestartTran.{RestartTran}
use Rattle.restart_records.specs.Trans.{is_open, kept_in, open_of, opened_among}
use Rattle.restart_marks.specs.State.{RestartState}
use Rattle.restart_closing.specs.Closing.{HasEnd, IsClosedIn, LeavesOpen, RestartCloses, TranCloses, left_among, one_left, trans_of}
use Rattle.restart_closing.specs.Leaving.{HandsAll, IsOfLeft, NoneIsLeft, OverAreClosed, RestsOpen, StopsOpen, has_left, is_left}
use Rattle.restart_closing.proofs.Logs.{Facts, IsBack, changed_before, each, front_all, none_names}

never : false ≡ true → ⊥
never e = cc

-- ---- one that is over is closed
pub over_closed : OverAreClosed
over_closed log rest pend s c = each (TranCloses log pend) (λ (x : RestartTran). x.stage ≡ stage.Over → IsClosedIn log x.tran.id) (λ x h. h.over) s.trans.list c.trans.list

-- ---- each is over where none is counted as left
over_stage : (s : RestartStage) → one_left s ≡ 0 → s ≡ stage.Over
over_stage stage.Open e = cc
over_stage stage.Ended e = cc
over_stage stage.Over e = refl

none_among : (list : List RestartTran) → left_among list ≡ 0 → AllByRecursion (λ (x : RestartTran). x.stage ≡ stage.Over) list
none_among [] none = tt
none_among (x ∷ xs) none = (over_stage x.stage (omega (arith, none)), none_among xs (omega (arith, none)))

pub none_left : NoneIsLeft
none_left log rest pend s c short none = none_among s.trans.list (let few = c.trans.left short in omega (arith, few, none))

-- ---- what is handed over

-- a row of the transaction is one of what is handed over of it
or_apart : (a b d : Bool) → ((a || b) || d) ≡ true → (a || (d || b)) ≡ true
or_apart true b d e = refl
or_apart false true true e = refl
or_apart false true false e = refl
or_apart false false true e = refl
or_apart false false false e = e

pub still_touches : BothTell → (x : RestartTran) (s : Spot) → touches x.tran s ≡ true → touches (open_of x) s ≡ true
still_touches law x s h =
    let n : ℕ = kept_in x in
    let whole : has_row x.tran.undo s ≡ (has_row (take n x.tran.undo) s || has_row (drop n x.tran.undo) s) =
    ap (λ (z : List LogRecord). has_row z s) (sym (take-append-drop n x.tran.undo)) ∙ law.rows (take n x.tran.undo) (drop n x.tran.undo) s in
    let apart : ((has_row (take n x.tran.undo) s || has_row (drop n x.tran.undo) s) || has_row x.tran.undone s) ≡ true = ap (λ (b : Bool). b || has_row x.tran.undone s) (sym whole) ∙ h in
    ap (λ (b : Bool). has_row (take n x.tran.undo) s || b) (law.rows x.tran.undone (drop n x.tran.undo) s)
    ∙ or_apart (has_row (take n x.tran.undo) s) (has_row (drop n x.tran.undo) s) (has_row x.tran.undone s) apart

-- one of the restart's has changed the row: it is handed over, or its Ended record is put
abbrev HandsOrEnds : List ℕ → List RestartTran → ℕ → Spot → Type 0
HandsOrEnds log list id s = (IsClosedIn log id) ⊎ (has_opened (opened_among list) id s ≡ true)

no_end : (log : List ℕ) (id : ℕ) → HasEnd log [] id → IsClosedIn log id
no_end log id (inl closed) = closed
no_end log id (inr waits) = absurd (never waits)

hands : BothTell → (log : List ℕ) (list : List RestartTran) (id : ℕ) (s : Spot) → AllByRecursion (TranCloses log []) list → has_opened (trans_of list) id s ≡ true → HandsOrEnds log list id s
hands law log [] id s all h = absurd (never h)
hands law log (x ∷ xs) id s all h = by (or_cases ((x.tran.id == id) && touches x.tran s) (has_opened (trans_of xs) id s) h) (hands law log xs id s all.1)
  where
    rest : List RestartTran
    rest = filter is_open xs

    own : (b : Bool) → is_open x ≡ b → (x.tran.id == id) ≡ true → touches x.tran s ≡ true → (IsClosedIn log id) ⊎ (has_opened (map open_of (cond b (x ∷ rest) rest)) id s ≡ true)
    own true opened same touched =
        let here : ((x.tran.id == id) && touches (open_of x) s) ≡ true = ap (λ (b : Bool). b && touches (open_of x) s) same ∙ still_touches law x s touched in
        inr (or_left ((x.tran.id == id) && touches (open_of x) s) (has_opened (map open_of rest) id s) here)
    own false shut same touched = inl (subst (IsClosedIn log) (eqb-true x.tran.id id same) (no_end log x.tran.id (all.0.ended shut)))

    more : (b : Bool) → HandsOrEnds log xs id s → (IsClosedIn log id) ⊎ (has_opened (map open_of (cond b (x ∷ rest) rest)) id s ≡ true)
    more b (inl closed) = inl closed
    more true (inr opened) = inr (or_right ((x.tran.id == id) && touches (open_of x) s) (has_opened (map open_of rest) id s) opened)
    more false (inr opened) = inr opened

    by : (((x.tran.id == id) && touches x.tran s) ≡ true) ⊎ (has_opened (trans_of xs) id s ≡ true) → (has_opened (trans_of xs) id s ≡ true → HandsOrEnds log xs id s) → HandsOrEnds log (x ∷ xs) id s
    by (inl e) go = let p = and_parts (x.tran.id == id) (touches x.tran s) e in own (is_open x) refl p.0 p.1
    by (inr e) go = more (is_open x) (go e)

pub hands_all : BothTell → HandsAll
hands_all law log rest s read c start back last id spot some changed = by ((c.read read).opens start back last id spot some changed)
  where
    on : HandsOrEnds log s.trans.list id spot → (is_closed back id ≡ true) ⊎ (has_opened (opened_among s.trans.list) id spot ≡ true)
    on (inl closed) = inl (closed start back last)
    on (inr opened) = inr opened

    by : (is_closed back id ≡ true) ⊎ (has_opened (trans_of s.trans.list) id spot ≡ true) → (is_closed back id ≡ true) ⊎ (has_opened (opened_among s.trans.list) id spot ≡ true)
    by (inl closed) = inl closed
    by (inr opened) = on (hands law log s.trans.list id spot c.trans.list opened)

-- ---- where it stops

-- one of the restart's has changed the row: it isn't over, or it is closed
lefts : (log : List ℕ) (pend : List LogRecord) (list : List RestartTran) (id : ℕ) (s : Spot) → AllByRecursion (TranCloses log pend) list → has_opened (trans_of list) id s ≡ true → (IsClosedIn log id) ⊎ (has_left list id s ≡ true)
lefts log pend [] id s all h = absurd (never h)
lefts log pend (x ∷ xs) id s all h = by (or_cases ((x.tran.id == id) && touches x.tran s) (has_opened (trans_of xs) id s) h) (lefts log pend xs id s all.1)
  where
    own : (z : RestartStage) → x.stage ≡ z → ((x.tran.id == id) && touches x.tran s) ≡ true → (IsClosedIn log id) ⊎ (((is_left z && ((x.tran.id == id) && touches x.tran s)) || has_left xs id s) ≡ true)
    own stage.Open is e = inr (or_left ((x.tran.id == id) && touches x.tran s) (has_left xs id s) e)
    own stage.Ended is e = inr (or_left ((x.tran.id == id) && touches x.tran s) (has_left xs id s) e)
    own stage.Over is e = inl (subst (IsClosedIn log) (eqb-true x.tran.id id (and_parts (x.tran.id == id) (touches x.tran s) e).0) (all.0.over is))

    more : (IsClosedIn log id) ⊎ (has_left xs id s ≡ true) → (IsClosedIn log id) ⊎ (has_left (x ∷ xs) id s ≡ true)
    more (inl closed) = inl closed
    more (inr e) = inr (or_right (is_left x.stage && ((x.tran.id == id) && touches x.tran s)) (has_left xs id s) e)

    by : (((x.tran.id == id) && touches x.tran s) ≡ true) ⊎ (has_opened (trans_of xs) id s ≡ true) → (has_opened (trans_of xs) id s ≡ true → (IsClosedIn log id) ⊎ (has_left xs id s ≡ true)) → (IsClosedIn log id) ⊎ (has_left (x ∷ xs) id s ≡ true)
    by (inl e) go = own x.stage refl e
    by (inr e) go = more (go e)

or_first : (a b : Bool) → (a || b) ≡ false → a ≡ false
or_first true b e = e
or_first false b e = refl

-- behind last records of the log records of a restart stand
stopped : Facts → (log rest : List ℕ) (pend : List LogRecord) (s : RestartState) (start : ℕ) (back front : List LogRecord)
    → s.own.is_read ≡ true → RestartCloses log rest pend s → AreLastFrom log start back → ((id : ℕ) (spot : Spot) → has_changed (back ++ front) id spot ≡ true → has_changed back id spot ≡ true)
    → AllByRecursion (IsOfLeft s.trans.list) (open_trans (back ++ front))
stopped facts log rest pend s start back front read c last same = each (IsOpenIn (back ++ front)) (IsOfLeft s.trans.list) left (open_trans (back ++ front)) (facts.opens (back ++ front))
  where
    left : (t : OpenTran) → IsOpenIn (back ++ front) t → IsOfLeft s.trans.list t
    left t is spot touched = by ((c.read read).opens start back last t.id spot is.numbered (same t.id spot (is.changed spot touched)))
      where
        unclosed : is_closed back t.id ≡ false
        unclosed = or_first (is_closed back t.id) (is_closed front t.id) (sym (facts.both.closed back front t.id) ∙ is.unclosed)

        on : (IsClosedIn log t.id) ⊎ (has_left s.trans.list t.id spot ≡ true) → has_left s.trans.list t.id spot ≡ true
        on (inl closed) = absurd (both_ways (is_closed back t.id) unclosed (closed start back last))
        on (inr e) = e

        by : (is_closed back t.id ≡ true) ⊎ (has_opened (trans_of s.trans.list) t.id spot ≡ true) → has_left s.trans.list t.id spot ≡ true
        by (inl closed) = absurd (both_ways (is_closed back t.id) unclosed closed)
        by (inr opened) = on (lefts log pend s.trans.list t.id spot c.trans.list opened)

pub stops_open : Facts → StopsOpen
stops_open facts log rest pend s n start records read c last =
    subst (λ (z : List LogRecord). AllByRecursion (IsOfLeft s.trans.list) (open_trans z)) (sym are.are)
    (stopped facts log rest pend s start are.back are.front read c are.last (λ id spot h. changed_before facts.both are.back are.front id spot (front_all IsBack are.front are.rest (subst (AllByRecursion IsBack) are.split c.waits.back)) h))
  where
    are : AreBehind log pend n start records
    are = facts.last log pend n start records c.whole c.waits.allowed (none_names pend c.waits.back) (subst (λ (z : List ℕ). AreLastFrom (log ++ take n z) start records) c.waits.spelled last)

pub rests_open : Facts → RestsOpen
rests_open facts log rest pend s start records read c last =
    subst (λ (z : List LogRecord). AllByRecursion (IsOfLeft s.trans.list) (open_trans z)) (none_behind records)
    (stopped facts log rest pend s start records [] read c (facts.without log rest start records c.whole c.is_rest last) (λ id spot h. ap (λ (z : List LogRecord). has_changed z id spot) (sym (none_behind records)) ∙ h))
  where
    none_behind : (xs : List LogRecord) → xs ++ [] ≡ xs
    none_behind [] = refl
    none_behind (x ∷ xs) = ap (λ (z : List LogRecord). x ∷ z) (none_behind xs)
