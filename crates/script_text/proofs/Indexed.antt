-- The indexes hold what the draft says behind each step.
use Rattle.std.proofs.Common.{◌≡◌, ℕ, Bool, true, false, ◌||◌, eqb, List, [], ◌∷◌, ◌++◌, IfOk, OnOk, Result, Ok, Err, bytes_eq, refl, sym, ap, ◌∙◌, subst}
use Rattle.std.proofs.lemmas.List.Folds.{list_any-append}
use Rattle.ds_model.specs.declared.script.FaultKind.{FaultKind}
use Rattle.script_line.specs.declared.line.LineError.{LineError}
use Rattle.script_text.specs.declared.draft.Draft.{Draft}
use Rattle.script_text.specs.declared.marks.Marks.{Marks}
use Rattle.script_text.specs.declared.names.Names.{Names}
use Rattle.script_text.specs.declared.reader.Reader.{Reader}
use Rattle.script_text.specs.SoFar.{has_number, has_name, names_so_far, members_failed, members_failing, members_playing, flags_raised_by_others, flags_raised_now}
use Rattle.script_text.specs.Indexes.{is_marked, is_kept, IsIndexed, IsStep}
use Rattle.script_text.proofs.SoFar.{Says, SaysFails, has_more, has_pushed}

pub on_step : (next : Result Draft FaultKind) (now : Draft) (r : Result (Unit {0}) LineError) (P : Draft → Type 0) → IsStep next now r → IfOk next P → OnOk r (P now)
on_step next now (Ok done) P h k = subst (λ (o : Result Draft FaultKind). IfOk o P) h k
on_step next now (Err e) P h k = tt

pub at_step : (next : Result Draft FaultKind) (now : Draft) (P : Draft → Type 0) → next ≡ Ok now → IfOk next P → P now
at_step next now P h k = subst (λ (o : Result Draft FaultKind). IfOk o P) h k

or_none : (b : Bool) → (b || false) ≡ b
or_none b = elim b as (λ t. (t || false) ≡ t) [ true ↦ refl | false ↦ refl ]

name_pushed : (names : List (List ℕ)) (name q : List ℕ) → has_name (names ++ name ∷ []) q ≡ (has_name names q || bytes_eq q name)
name_pushed names name q = list_any-append (λ x. bytes_eq q x) names (name ∷ []) ∙ ap (λ b. has_name names q || b) (or_none (bytes_eq q name))

pub fails_indexed : (r : Reader) (e : Draft) (marks : Marks) (m : ℕ) → IsIndexed r → SaysFails e r.draft m → ((n : ℕ) → is_marked marks n ≡ (is_marked r.failing n || eqb m n)) → IsIndexed (record r { draft = e; failing = marks })
fails_indexed r e marks m h s k = record {
  names_are = λ q. h.names_are q ∙ ap (λ ns. has_name ns q) (sym s.names_say);
  failed_are = λ n. h.failed_are n ∙ ap (λ xs. has_number xs n) (sym s.failed_say);
  failing_are = λ n. k n ∙ ap (λ b. b || eqb m n) (h.failing_are n) ∙ sym (s.failing_say n);
  playing_are = λ n. h.playing_are n ∙ ap (λ xs. has_number xs n) (sym s.playing_say);
  raised_are = λ n. h.raised_are n ∙ ap (λ xs. has_number xs n) (sym s.raised_say);
  raising_are = λ n. h.raising_are n ∙ ap (λ xs. has_number xs n) (sym s.now_say);
}

abbrev pub SaysNamed : Draft → Draft → List ℕ → Type 0
SaysNamed e d name = Says e (names_so_far d ++ name ∷ []) (members_failed d) (members_failing d) (members_playing d) (flags_raised_by_others d) (flags_raised_now d)

pub named_indexed : (r : Reader) (e : Draft) (names : Names) (name : List ℕ) → IsIndexed r → SaysNamed e r.draft name → ((q : List ℕ) → is_kept names q ≡ (is_kept r.names q || bytes_eq q name)) → IsIndexed (record r { draft = e; names = names })
named_indexed r e names name h s k = record {
  names_are = λ q. k q ∙ ap (λ b. b || bytes_eq q name) (h.names_are q) ∙ sym (name_pushed (names_so_far r.draft) name q) ∙ ap (λ ns. has_name ns q) (sym s.names_say);
  failed_are = λ n. h.failed_are n ∙ ap (λ xs. has_number xs n) (sym s.failed_say);
  failing_are = λ n. h.failing_are n ∙ ap (λ xs. has_number xs n) (sym s.failing_say);
  playing_are = λ n. h.playing_are n ∙ ap (λ xs. has_number xs n) (sym s.playing_say);
  raised_are = λ n. h.raised_are n ∙ ap (λ xs. has_number xs n) (sym s.raised_say);
  raising_are = λ n. h.raising_are n ∙ ap (λ xs. has_number xs n) (sym s.now_say);
}

abbrev pub SaysClosed : Draft → Draft → Type 0
SaysClosed e d = Says e (names_so_far d) (members_failed d ++ members_failing d) [] [] [] []

pub closed_indexed : (r : Reader) (e : Draft) (failed failing playing raised : Marks) → IsIndexed r → SaysClosed e r.draft
    → ((n : ℕ) → is_marked failed n ≡ (is_marked r.failed n || is_marked r.failing n)) → ((n : ℕ) → is_marked failing n ≡ false) → ((n : ℕ) → is_marked playing n ≡ false) → ((n : ℕ) → is_marked raised n ≡ false)
    → flags_raised_now r.draft ≡ []
    → IsIndexed (record r { draft = e; failed = failed; failing = failing; playing = playing; raised = raised })
closed_indexed r e failed failing playing raised h s k l m o p = record {
  names_are = λ q. h.names_are q ∙ ap (λ ns. has_name ns q) (sym s.names_say);
  failed_are = λ n.
      k n ∙ ap (λ b. b || is_marked r.failing n) (h.failed_are n) ∙ ap (λ b. has_number (members_failed r.draft) n || b) (h.failing_are n)
      ∙ sym (has_more (members_failed r.draft) (members_failing r.draft) n) ∙ ap (λ xs. has_number xs n) (sym s.failed_say);
  failing_are = λ n. l n ∙ ap (λ xs. has_number xs n) (sym s.failing_say);
  playing_are = λ n. m n ∙ ap (λ xs. has_number xs n) (sym s.playing_say);
  raised_are = λ n. o n ∙ ap (λ xs. has_number xs n) (sym s.raised_say);
  raising_are = λ n. h.raising_are n ∙ ap (λ xs. has_number xs n) p ∙ ap (λ xs. has_number xs n) (sym s.now_say);
}

abbrev pub SaysSame : Draft → Draft → Type 0
SaysSame e d = Says e (names_so_far d) (members_failed d) (members_failing d) (members_playing d) (flags_raised_by_others d) (flags_raised_now d)

pub same_indexed : (r : Reader) (e : Draft) → IsIndexed r → SaysSame e r.draft → IsIndexed (record r { draft = e })
same_indexed r e h s = record {
  names_are = λ q. h.names_are q ∙ ap (λ ns. has_name ns q) (sym s.names_say);
  failed_are = λ n. h.failed_are n ∙ ap (λ xs. has_number xs n) (sym s.failed_say);
  failing_are = λ n. h.failing_are n ∙ ap (λ xs. has_number xs n) (sym s.failing_say);
  playing_are = λ n. h.playing_are n ∙ ap (λ xs. has_number xs n) (sym s.playing_say);
  raised_are = λ n. h.raised_are n ∙ ap (λ xs. has_number xs n) (sym s.raised_say);
  raising_are = λ n. h.raising_are n ∙ ap (λ xs. has_number xs n) (sym s.now_say);
}

abbrev pub SaysEnded : Draft → Draft → Type 0
SaysEnded e d = Says e (names_so_far d) (members_failed d) (members_failing d) (members_playing d) (flags_raised_by_others d ++ flags_raised_now d) []

pub ended_indexed : (r : Reader) (e : Draft) (raised raising : Marks) → IsIndexed r → SaysEnded e r.draft
    → ((n : ℕ) → is_marked raised n ≡ (is_marked r.raised n || is_marked r.raising n)) → ((n : ℕ) → is_marked raising n ≡ false)
    → IsIndexed (record r { draft = e; raised = raised; raising = raising })
ended_indexed r e raised raising h s k l = record {
  names_are = λ q. h.names_are q ∙ ap (λ ns. has_name ns q) (sym s.names_say);
  failed_are = λ n. h.failed_are n ∙ ap (λ xs. has_number xs n) (sym s.failed_say);
  failing_are = λ n. h.failing_are n ∙ ap (λ xs. has_number xs n) (sym s.failing_say);
  playing_are = λ n. h.playing_are n ∙ ap (λ xs. has_number xs n) (sym s.playing_say);
  raised_are = λ n.
      k n ∙ ap (λ b. b || is_marked r.raising n) (h.raised_are n) ∙ ap (λ b. has_number (flags_raised_by_others r.draft) n || b) (h.raising_are n)
      ∙ sym (has_more (flags_raised_by_others r.draft) (flags_raised_now r.draft) n) ∙ ap (λ xs. has_number xs n) (sym s.raised_say);
  raising_are = λ n. l n ∙ ap (λ xs. has_number xs n) (sym s.now_say);
}
