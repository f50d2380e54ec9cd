-- Each text that is read spells a script.
use Rattle.std.proofs.Common.{◌≡◌, ℕ, ◌+◌, ◌<◌, ◌≤◌, Bool, true, false, nat_lt, nat_le, if◌then◌else◌, List, [], ◌∷◌, ◌++◌, length, map, Option, Some, None, Result, Ok, Err, IfOk, refl, sym, ap, ◌∙◌, subst, arith, append-nil}
use Rattle.std.specs.List.{flat_map}
use Rattle.std.proofs.lemmas.Bool.{leb-false}
use Rattle.ds_model.specs.declared.script.Part.{Part}
use Rattle.ds_model.specs.declared.script.Phase.{Phase}
use Rattle.ds_model.specs.declared.script.Script.{Script}
use Rattle.ds_model.specs.declared.script.ScriptFault.{ScriptFault}
use Rattle.ds_model.specs.declared.script.FaultKind.{FaultKind}
use Rattle.ds_model.specs.declared.script.FaultKind.TheVariants as fault
use Rattle.ds_model.specs.Transactions.{placed_phase}
use Rattle.ds_model.specs.Scripts.{Differ, IsScript}
use Rattle.script_line.specs.declared.line.Keyword.{Keyword}
use Rattle.script_line.specs.declared.line.Line.{Line}
use Rattle.script_line.specs.declared.line.Line.TheVariants as line
use Rattle.script_line.specs.Words.{and_then, mapped}
use Rattle.script_line.specs.Lines.{is_skipped, keyword_in, line_in}
use Rattle.script_line.specs.Canonical.{IsLine, keyword_for}
use Rattle.script_text.specs.declared.draft.Place.{Place}
use Rattle.script_text.specs.declared.draft.Place.TheVariants as place
use Rattle.script_text.specs.declared.draft.Draft.{Draft}
use Rattle.script_text.specs.TextLines.{TextLine, lines_of}
use Rattle.script_text.specs.SoFar.{has_number, has_name, names_so_far, members_failed, members_playing}
use Rattle.script_text.specs.Drafts.{begun_at, closed, closed_at, failed_again, in_phase, is_one_too_many, may_stand, may_use_flags, member_at, op_taken, open_ops, part_begun, phases_begun, place_fault, restart_of, restarted_at, start, step_line, tran_begun}
use Rattle.script_text.specs.Reading.{at_line, go_on, or_end, read_lines, script_of, script_of_closed, step, step_bytes, step_words, unless}
use Rattle.script_text.proofs.Kept.{Closes, Counts, Is, IsDraft, name_of, again_keeps, close_keeps, end_keeps, fail_keeps, in_phase_keeps, member_keeps, op_keeps, restart_keeps, tran_keeps}

-- ---- results

if_mapped : {A B : Type 0} (f : A → B) (r : Result A FaultKind) (P : A → Type 0) (Q : B → Type 0) → ((a : A) → P a → Q (f a)) → IfOk r P → IfOk (mapped f r) Q
if_mapped f (Ok a) P Q k h = k a h
if_mapped f (Err e) P Q k h = tt

if_err : {A : Type 0} (b : Bool) (kind : FaultKind) (r : Result A FaultKind) (Q : A → Type 0) → (b ≡ false → IfOk r Q) → IfOk (if b then Err kind else r) Q
if_err true kind r Q h = tt
if_err false kind r Q h = h refl

if_ok : {A : Type 0} (b : Bool) (kind : FaultKind) (r : Result A FaultKind) (Q : A → Type 0) → (b ≡ true → IfOk r Q) → IfOk (if b then r else Err kind) Q
if_ok true kind r Q h = h refl
if_ok false kind r Q h = tt

-- ---- the lines

same_member : (p : Place) (member : ℕ) → member_at p ≡ Some member → (parts : List Part) (part : Part) → p ≡ place.Part parts part → part.member ≡ member
same_member p member h parts part e = let s : Some part.member ≡ Some member = ap member_at (sym e) ∙ h in cc

restarts : (m : ℕ) (d : Draft) (o : Option ℕ) → member_at d.place ≡ o → Is m d → IfOk (restart_of d o) (Is m)
restarts m d None e h = tt
restarts m d (Some member) e h = if_ok (has_number (members_failed d) member) _ (restarted_at d d.place) (Is m) (λ k. restart_keeps m d.phases d.groupfails d.count d.place member h k (same_member d.place member e))

line_keeps : (m : ℕ) (d : Draft) (l : Line) → Is m d → IsLine m l → is_one_too_many d (keyword_for l) ≡ false → IfOk (step_line d l) (Is m)
line_keeps m d line.GroupFail h i k =
    if_mapped failed_again (closed_at d d.place) (Closes m (begun_at (length d.phases) d.place)) (Is m)
    (λ e c. again_keeps m (begun_at (length d.phases) d.place) e.phases e.groupfails e.count e.place h.phases_short c)
    (close_keeps m d.phases d.groupfails d.count d.place h)
line_keeps m d line.Phase h i k =
    if_mapped in_phase (closed_at d d.place) (Closes m (begun_at (length d.phases) d.place)) (Is m)
    (λ e c. in_phase_keeps m (begun_at (length d.phases) d.place) e (leb-false 1024 (phases_begun d) k) c)
    (close_keeps m d.phases d.groupfails d.count d.place h)
line_keeps m d (line.Member member) h i k = if_err (has_number (members_playing d) member) _ (part_begun d d.place member) (Is m) (λ e. member_keeps m d.phases d.groupfails d.count d.place member h i e)
line_keeps m d line.Restart h i k = restarts m d (member_at d.place) refl h
line_keeps m d (line.Fail at) h i k = fail_keeps m d.phases d.groupfails d.count d.place at h i
line_keeps m d (line.Tran name wait) h i k = if_err (has_name (names_so_far d) name) _ (tran_begun d d.place name wait) (Is m) (λ e. tran_keeps m d.phases d.groupfails d.count d.place name wait h i (leb-false 65536 d.count k) e)
line_keeps m d (line.Operation o) h i k = if_ok (may_use_flags d o) _ (op_taken d d.place o) (Is m) (λ e. op_keeps m d.phases d.groupfails d.count d.place o h i (leb-false 64 (open_ops d.place) k) e)
line_keeps m d line.End h i k = end_keeps m d.phases d.groupfails d.count d.place h

placed_keeps : (a b : Bool) (m : ℕ) (r : Result Draft FaultKind) → (b ≡ false → IfOk r (Is m)) → IfOk (unless (if a then (if b then Some fault.TooLong else None) else Some fault.Word) r) (Is m)
placed_keeps true true m r h = tt
placed_keeps true false m r h = h refl
placed_keeps false b m r h = tt

refused : (o : Option FaultKind) (kind : FaultKind) (m : ℕ) → IfOk (unless {A = Draft} o (Err kind)) (Is m)
refused None kind m = tt
refused (Some k) kind m = tt

pub record Laws (m : ℕ) (bytes : List ℕ) : Type 0 where
  pub range : (l : Line) → line_in m bytes ≡ Ok l → IsLine m l
  pub keyword : (l : Line) → line_in m bytes ≡ Ok l → keyword_in bytes ≡ Some (keyword_for l)

words_keep : (m : ℕ) (d : Draft) (bytes : List ℕ) (r : Result Line FaultKind) → Laws m bytes → line_in m bytes ≡ r → Is m d → IfOk (unless (place_fault d (keyword_in bytes)) (and_then (step_line d) r)) (Is m)
words_keep m d bytes (Ok l) laws e h =
    subst (λ (o : Option Keyword). IfOk (unless (place_fault d o) (step_line d l)) (Is m)) (sym (laws.keyword l e))
    (placed_keeps (may_stand d.place (keyword_for l)) (is_one_too_many d (keyword_for l)) m (step_line d l) (λ k. line_keeps m d l h (laws.range l e) k))
words_keep m d bytes (Err kind) laws e h = refused (place_fault d (keyword_in bytes)) kind m

skip_keeps : (b : Bool) (m : ℕ) (d : Draft) (r : Result Draft FaultKind) → Is m d → IfOk r (Is m) → IfOk (if b then Ok d else r) (Is m)
skip_keeps true m d r h k = h
skip_keeps false m d r h k = k

step_keeps : (m : ℕ) (d : Draft) (l : TextLine) → Laws m l.bytes → Is m d → IfOk (step m d l) (Is m)
step_keeps m d l laws h =
    if_err (nat_lt 4194304 l.end) _ (step_bytes m d l.bytes) (Is m)
    (λ e. skip_keeps (is_skipped l.bytes) m d (step_words m d l.bytes) h (words_keep m d l.bytes (line_in m l.bytes) laws refl h))

-- ---- the whole

whole : (m number old : ℕ) (r : Result Draft FaultKind) (s : Script) → old ≤ 1024 → IfOk r (Closes m old) → at_line number (or_end r) ≡ Ok s → IsScript m s
whole m number old (Ok e) s k h i =
    let same : script_of_closed e ≡ s = cc in
    subst (IsScript m) same (record {
      phases_short = omega (arith, h.begun);
      phases_are = h.phases_are;
      trans_short = omega (arith, h.counts.fits, h.counts.adds);
      numbers = h.counts.numbers;
      names = subst Differ (append-nil (map name_of (flat_map placed_phase e.phases))) h.counts.differ;
    })
whole m number old (Err kind) s k h i = cc

goes : (m number : ℕ) (r : Result Draft FaultKind) (more : Draft → Result Script ScriptFault) (s : Script) → IfOk r (Is m) → ((e : Draft) → Is m e → more e ≡ Ok s → IsScript m s) → go_on number more r ≡ Ok s → IsScript m s
goes m number (Ok e) more s h k i = k e h i
goes m number (Err kind) more s h k i = cc

lines_keep : (m number : ℕ) (d : Draft) (ls : List TextLine) (s : Script) → ((bytes : List ℕ) → Laws m bytes) → Is m d → read_lines m number d ls ≡ Ok s → IsScript m s
lines_keep m number d [] s laws h k = whole m number (begun_at (length d.phases) d.place) (closed d) s h.phases_short (close_keeps m d.phases d.groupfails d.count d.place h) k
lines_keep m number d (l ∷ ls) s laws h k = goes m number (step m d l) (λ e. read_lines m (number + 1) e ls) s (step_keeps m d l (laws l.bytes) h) (λ e i j. lines_keep m (number + 1) e ls s laws i j) k

start_is : (m : ℕ) → Is m start
start_is m = record { phases_short = omega arith; phases_are = tt; place_is = tt; counts = record { fits = omega arith; adds = omega arith; numbers = refl; differ = tt } }

pub read_is : (m : ℕ) (bytes : List ℕ) (s : Script) → ((line : List ℕ) → Laws m line) → script_of m bytes ≡ Ok s → IsScript m s
unfolding script_of
read_is m bytes s laws h = lines_keep m 1 start (lines_of bytes) s laws (start_is m) h
