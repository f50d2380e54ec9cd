-- Lines are spelled by their words, and read from them again.
use Rattle.std.proofs.Common.{◌≡◌, ℕ, true, false, List, [], ◌∷◌, ◌++◌, Some, None, refl, ap, sym, ◌∙◌, append_assoc, decimal, codes}
use Rattle.std.specs.List.{flat_map, join_with_byte}
use Rattle.ds_model.specs.declared.lock.Name.TheVariants as lock
use Rattle.ds_model.specs.declared.report.ToldRefusal.TheVariants as refusal
use Rattle.ds_model.specs.ReportText.{cycle_text}
use Rattle.report_line.specs.declared.line.ReportLine.{ReportLine}
use Rattle.report_line.specs.declared.line.ReportLine.TheVariants as lines
use Rattle.report_line.specs.Lines.{line_text}
use Rattle.report_line.specs.Bodies.{line_body}

join_names : (w : List ℕ) (ws : List (List ℕ)) → join_with_byte 32 (w ∷ ws) ≡ w ++ flat_map cycle_text ws
join_names [] [] = refl
join_names (b ∷ w) [] = ap (λ (rest : List ℕ). b ∷ rest) (join_names w [])
join_names w (v ∷ ws) = ap (λ (rest : List ℕ). w ++ (32 ∷ rest)) (join_names v ws)

deadlock_words : (name : List ℕ) (member : ℕ) (cycle : List (List ℕ)) → line_text (lines.Refused name member (refusal.Deadlock cycle)) ≡ line_body (lines.Refused name member (refusal.Deadlock cycle)) ++ 10 ∷ []
deadlock_words name member cycle =
    let spread : line_text (lines.Refused name member (refusal.Deadlock cycle)) ≡ (codes "refused" ++ (32 ∷ (name ++ (32 ∷ ((77 ∷ decimal member) ++ (32 ∷ (codes "deadlock" ++ flat_map cycle_text cycle))))))) ++ 10 ∷ [] = simp append_assoc in
    spread ∙ ap (λ (rest : List ℕ). (codes "refused" ++ (32 ∷ (name ++ (32 ∷ ((77 ∷ decimal member) ++ (32 ∷ rest)))))) ++ 10 ∷ []) (sym (join_names (codes "deadlock") cycle))

spot_value : (w t k v : List ℕ) → (((((w ++ 32 ∷ []) ++ t) ++ 32 ∷ []) ++ k) ++ (32 ∷ 61 ∷ v)) ++ 10 ∷ [] ≡ (w ++ (32 ∷ (t ++ (32 ∷ (k ++ (32 ∷ 61 ∷ v)))))) ++ 10 ∷ []
spot_value w t k v = simp append_assoc

pub by_words : (l : ReportLine) → line_text l ≡ line_body l ++ 10 ∷ []
by_words lines.Opening = refl
by_words (lines.Committed name member true) = simp append_assoc
by_words (lines.Committed name member false) = simp append_assoc
by_words (lines.Refused name member (refusal.Held (lock.Space table) by)) = simp append_assoc
by_words (lines.Refused name member (refusal.Held (lock.Row table key) by)) = simp append_assoc
by_words (lines.Refused name member (refusal.Held (lock.Page page) by)) = simp append_assoc
by_words (lines.Refused name member (refusal.Held (lock.Set set) by)) = simp append_assoc
by_words (lines.Refused name member (refusal.Retained (lock.Space table) by)) = simp append_assoc
by_words (lines.Refused name member (refusal.Retained (lock.Row table key) by)) = simp append_assoc
by_words (lines.Refused name member (refusal.Retained (lock.Page page) by)) = simp append_assoc
by_words (lines.Refused name member (refusal.Retained (lock.Set set) by)) = simp append_assoc
by_words (lines.Refused name member (refusal.Deadlock cycle)) = deadlock_words name member cycle
by_words (lines.Refused name member (refusal.SpaceFull table pages)) = simp append_assoc
by_words (lines.Refused name member (refusal.RecordsFull limit)) = simp append_assoc
by_words (lines.Refused name member (refusal.LrsnEnd at)) = simp append_assoc
by_words (lines.Refused name member refusal.Memory) = simp append_assoc
by_words (lines.Refused name member refusal.Aborted) = simp append_assoc
by_words (lines.Stopped name member) = simp append_assoc
by_words (lines.Read table key None) = simp append_assoc
by_words (lines.Read table key (Some value)) = spot_value (codes "read") (decimal table) (decimal key) value
by_words (lines.Scan table low high count) = simp append_assoc
by_words (lines.Cause c) = simp append_assoc
by_words (lines.Event e) = simp append_assoc
by_words (lines.Rows count) = simp append_assoc
by_words (lines.Row r) = spot_value (codes "row") (decimal r.table) (decimal r.key) r.value
by_words (lines.End status) = simp append_assoc
