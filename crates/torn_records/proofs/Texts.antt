-- Bodies that a text fills.
use Rattle.std.proofs.Common.{lit≤, ◌≡◌, ◌≢◌, ℕ, zero, suc, ◌-◌, ◌<◌, ◌≤◌, true, false, List, [], ◌∷◌, ◌++◌, length, take, replicate, refl, sym, ap, subst, ◌∙◌, append_assoc, arith}
use Rattle.std.specs.Int.{w64, to_be_bytes}
use Rattle.std.proofs.lemmas.List.{length-replicate, length-append, take-replicate}
use Rattle.byteorder.specs.Numbers.{length-bytes_high_first}
use Rattle.ds_model.specs.declared.log.LogRecord.{LogRecord}
use Rattle.ds_model.specs.declared.log.RowChange.{RowChange}
use Rattle.ds_model.specs.declared.log.Body.{Body}
use Rattle.ds_model.specs.declared.log.Body.TheVariants as body
use Rattle.ds_model.specs.declared.log.Version.{Version}
use Rattle.ds_model.specs.RecordBytes.{width_of, kind_of, is_of_tran, lrsn_bytes, change_bytes, body_bytes, ChangeIsAllowed, IsNumber, BodyIsAllowed, IsAllowed}
use Rattle.torn_records.specs.Mixes.{mix, Fills}
use Rattle.torn_records.specs.Templates.{shape_of, state_text, change_text}
use Rattle.torn_records.specs.Fronts.{HasText, IsRowChangeIn, IsCompensationIn}
use Rattle.torn_records.proofs.Telling.{Means}
use Rattle.torn_records.proofs.Mixing.{mix_same, join}
use Rattle.torn_records.proofs.Numbers.{number_mixed}
use Rattle.torn_records.proofs.Changes.{change_mixed, change_long}

-- ---- a state's text

pub some_text : (shape : ℕ) → shape ≢ 0 → shape < 102 → state_text shape ≡ 2 ∷ (shape - 1) ∷ take (shape - 1) (replicate 100 0x21)
some_text zero some lt = absurd (some refl)
some_text (suc n) some lt =
    let less : suc n - 1 ≡ n = omega arith in
    let front : replicate n 0x21 ≡ take n (replicate 100 0x21) = sym (take-replicate n 100 0x21 (omega arith)) in
    ap (λ (l : List ℕ). 2 ∷ n ∷ l) front ∙ ap (λ (k : ℕ). 2 ∷ k ∷ take k (replicate 100 0x21)) (sym less)

state_short : (shape : ℕ) → shape < 102 → length (state_text shape) ≤ 103
state_short zero lt = lit≤ tt
state_short (suc n) lt = omega (arith, length-replicate {A = ℕ} n 0x21, lt)

pub change_short : (before after : ℕ) → before < 102 → after < 102 → length (change_text before after) ≤ 300
change_short before after b a =
    omega (arith, state_short before b, state_short after a, length-append (state_text before) (state_text after))

-- ---- changes

change_fills : (v : Version) (c : RowChange) → ChangeIsAllowed c → Fills v (body.RowChange c) (change_text (shape_of c.before) (shape_of c.after))
change_fills v c h = record {
  long = change_long c;
  fills = λ n. let m = change_mixed n c h in record { body = body.RowChange m.change; kind_is = refl; tran_is = refl; allowed = m.allowed; is = m.is };
}

compensation_fills : (v : Version) (c : RowChange) (undone : ℕ) → ChangeIsAllowed c → IsNumber v undone → Fills v (body.Compensation c undone) (change_text (shape_of c.before) (shape_of c.after) ++ lrsn_bytes v 0)
compensation_fills v c undone h is =
    let text = change_text (shape_of c.before) (shape_of c.after) in
    record {
      long = omega (arith, change_long c, length-append text (lrsn_bytes v 0), length-append (change_bytes c) (lrsn_bytes v undone), length-bytes_high_first (width_of v) 0, length-bytes_high_first (width_of v) undone);
      fills = λ n.
          let m = change_mixed n c h in
          let u = number_mixed (width_of v) undone 0 (n - length (change_bytes c)) in
          record {
            body = body.Compensation m.change u.value;
            kind_is = refl;
            tran_is = refl;
            allowed = (m.allowed, u.below);
            is = join n (change_bytes c) text (lrsn_bytes v undone) (lrsn_bytes v 0) (change_bytes m.change) (lrsn_bytes v u.value) (sym (change_long c)) m.is u.is;
          };
    }

pub row_change_text : (v : Version) (before after : ℕ) (r : LogRecord) → IsAllowed r → IsRowChangeIn v before after r → HasText v 1 true (change_text before after) r
row_change_text v before after r h i =
    let allowed : ChangeIsAllowed i.change = subst (λ (b : Body). BodyIsAllowed r.version b) i.is h.body_is in
    let own = change_fills v i.change allowed in
    let shaped : Fills v (body.RowChange i.change) (change_text before after) = subst (λ (a : ℕ). Fills v (body.RowChange i.change) (change_text before a)) i.after_is (subst (λ (b : ℕ). Fills v (body.RowChange i.change) (change_text b (shape_of i.change.after))) i.before_is own) in
    record { version_is = i.version_is; kind_is = ap kind_of i.is; tran_is = ap is_of_tran i.is; fills = subst (λ (b : Body). Fills v b (change_text before after)) (sym i.is) shaped }

pub compensation_text : (v : Version) (before after : ℕ) (r : LogRecord) → IsAllowed r → IsCompensationIn v before after r → HasText v 2 true (change_text before after ++ lrsn_bytes v 0) r
compensation_text v before after r h i =
    let both : ChangeIsAllowed i.change × IsNumber r.version i.undone = subst (λ (b : Body). BodyIsAllowed r.version b) i.is h.body_is in
    let number : IsNumber v i.undone = subst (λ (x : Version). IsNumber x i.undone) i.version_is both.1 in
    let it : Body = body.Compensation i.change i.undone in
    let own = compensation_fills v i.change i.undone both.0 number in
    let shaped : Fills v it (change_text before after ++ lrsn_bytes v 0) = subst (λ (a : ℕ). Fills v it (change_text before a ++ lrsn_bytes v 0)) i.after_is (subst (λ (b : ℕ). Fills v it (change_text b (shape_of i.change.after) ++ lrsn_bytes v 0)) i.before_is own) in
    record { version_is = i.version_is; kind_is = ap kind_of i.is; tran_is = ap is_of_tran i.is; fills = subst (λ (b : Body). Fills v b (change_text before after ++ lrsn_bytes v 0)) (sym i.is) shaped }

-- ---- the other bodies without patches

empty_fills : (v : Version) (b : Body) → body_bytes v b ≡ [] → BodyIsAllowed v b → Fills v b []
empty_fills v b none h = record {
  long = ap length (sym none);
  fills = λ n. record { body = b; kind_is = refl; tran_is = refl; allowed = h; is = none ∙ sym (ap (λ (l : List ℕ). mix n l []) none ∙ mix_same n []) };
}

offset_fills : (v : Version) (offset : ℕ) → Fills v (body.Checkpoint offset) (to_be_bytes w64 0)
offset_fills v offset = record {
  long = refl;
  fills = λ n. let m = number_mixed 8 offset 0 n in record { body = body.Checkpoint m.value; kind_is = refl; tran_is = refl; allowed = m.below; is = m.is };
}

pub commit_text : (r : LogRecord) → r.body ≡ body.Commit → HasText r.version 4 true [] r
commit_text r is = record { version_is = refl; kind_is = ap kind_of is; tran_is = ap is_of_tran is; fills = subst (λ (b : Body). Fills r.version b []) (sym is) (empty_fills r.version body.Commit refl tt) }

pub ended_text : (r : LogRecord) → r.body ≡ body.Ended → HasText r.version 5 true [] r
ended_text r is = record { version_is = refl; kind_is = ap kind_of is; tran_is = ap is_of_tran is; fills = subst (λ (b : Body). Fills r.version b []) (sym is) (empty_fills r.version body.Ended refl tt) }

pub restart_text : (r : LogRecord) → r.body ≡ body.RestartEnd → HasText r.version 7 false [] r
restart_text r is = record { version_is = refl; kind_is = ap kind_of is; tran_is = ap is_of_tran is; fills = subst (λ (b : Body). Fills r.version b []) (sym is) (empty_fills r.version body.RestartEnd refl tt) }

pub checkpoint_text : (r : LogRecord) (offset : ℕ) → r.body ≡ body.Checkpoint offset → HasText r.version 6 false (to_be_bytes w64 0) r
checkpoint_text r offset is = record { version_is = refl; kind_is = ap kind_of is; tran_is = ap is_of_tran is; fills = subst (λ (b : Body). Fills r.version b (to_be_bytes w64 0)) (sym is) (offset_fills r.version offset) }

pub row_change_means : (v : Version) (before after : ℕ) (text : List ℕ) → text ≡ change_text before after → Means (IsRowChangeIn v before after) (HasText v 1 true text)
row_change_means v before after text is r h i = subst (λ (l : List ℕ). HasText v 1 true l r) (sym is) (row_change_text v before after r h i)

pub compensation_means : (v : Version) (before after : ℕ) (change text : List ℕ) → change ≡ change_text before after → text ≡ change ++ lrsn_bytes v 0 → Means (IsCompensationIn v before after) (HasText v 2 true text)
compensation_means v before after change text change-is is r h i =
    subst (λ (l : List ℕ). HasText v 2 true l r) (ap (λ (l : List ℕ). l ++ lrsn_bytes v 0) (sym change-is) ∙ sym is) (compensation_text v before after r h i)

-- ---- what the code puts

pub state_put : (old mid new : List ℕ) (shape : ℕ) → shape ≢ 0 → shape < 102 → mid ≡ old ++ (2 ∷ (shape - 1) ∷ []) → new ≡ mid ++ take (shape - 1) (replicate 100 0x21) → new ≡ old ++ state_text shape
state_put old mid new shape some lt first second =
    second ∙ ap (λ (l : List ℕ). l ++ take (shape - 1) (replicate 100 0x21)) first
    ∙ append_assoc old (2 ∷ (shape - 1) ∷ []) (take (shape - 1) (replicate 100 0x21))
    ∙ ap (λ (l : List ℕ). old ++ l) (sym (some_text shape some lt))
