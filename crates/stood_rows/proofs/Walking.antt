-- Records that are gone through one after the other.
use Rattle.std.proofs.Common.{◌≡◌, ℕ, zero, suc, ◌+◌, ◌<◌, List, [], ◌∷◌, ◌++◌, length, get_or, take, drop, sym, ap, subst, ◌∙◌, append_assoc, arith}
use Rattle.std.proofs.lemmas.List.{append-nil, take-append-drop, drop_more}
use Rattle.ds_model.specs.declared.log.LogRecord.{LogRecord}
use Rattle.ds_base.specs.declared.names.PageId.{PageId}
use Rattle.ds_model.specs.declared.log.Body.{Body}
use Rattle.ds_model.specs.declared.log.Body.TheVariants as body
use Rattle.sound_disk.specs.Rows_there.{BodyStood, BeforesAgree}
use Rattle.stood_rows.specs.Standing.{IsUnstood, IsFirstUnstood}

pub next : (e rs : List LogRecord) (r : LogRecord) (k : ℕ) → (e ++ r ∷ []) ++ take k rs ≡ e ++ (r ∷ take k rs)
next e rs r k = append_assoc e (r ∷ []) (take k rs)

agrees_at : (e rs : List LogRecord) (k : ℕ) (r : LogRecord) → BeforesAgree e rs → k < length rs → BodyStood (e ++ take k rs) (get_or rs k r).lrsn (get_or rs k r).body
agrees_at e [] k r h lt = absurd (omega arith)
agrees_at e (x ∷ rs) zero r h lt = subst (λ (l : List LogRecord). BodyStood l x.lrsn x.body) (sym (append-nil e)) h.0
agrees_at e (x ∷ rs) (suc k) r h lt = subst (λ (l : List LogRecord). BodyStood l (get_or rs k r).lrsn (get_or rs k r).body) (next e rs x k) (agrees_at (e ++ x ∷ []) rs k r h.1 (omega arith))

-- ---- the first that doesn't

unmet : (earlier : List LogRecord) (lrsn : ℕ) (b : Body) (id : PageId) → IsUnstood earlier lrsn b id → BodyStood earlier lrsn b → ⊥
unmet earlier lrsn (body.RowChange c) id w s = w.0 s
unmet earlier lrsn (body.Compensation c undone) id w s = w.0 s
unmet earlier lrsn (body.System patches) id w s = w.taken (λ table key place some few name is. s table key place some few is)
unmet earlier lrsn body.Commit id w s = w
unmet earlier lrsn body.Ended id w s = w
unmet earlier lrsn (body.Checkpoint offset) id w s = w
unmet earlier lrsn body.RestartEnd id w s = w

pub first_unstood : (rs : List LogRecord) (k : ℕ) (r : LogRecord) (id : PageId) → k < length rs → BeforesAgree [] (take k rs) → IsUnstood (take k rs) (get_or rs k r).lrsn (get_or rs k r).body id → IsFirstUnstood rs id
first_unstood rs k r id lt h w = record {
  first = take k rs;
  it = get_or rs k r;
  rest = drop (k + 1) rs;
  split = sym (take-append-drop k rs) ∙ ap (λ (l : List LogRecord). take k rs ++ l) (drop_more rs k r lt);
  before = h;
  wrong = w;
  lacking = λ agree. unmet (take k rs) (get_or rs k r).lrsn (get_or rs k r).body id w (agrees_at [] rs k r agree lt);
}
