-- Numbers along a log.
use Rattle.std.proofs.Common.{◌≡◌, ℕ, ◌+◌, ◌<◌, ◌≤◌, Bool, true, false, cond, List, [], ◌∷◌, refl, sym, ap, ◌∙◌, subst, arith, inl, inr}
use Rattle.std.specs.Prelude.{filter, ◌==◌, ◌&&◌, ◌||◌}
use Rattle.std.specs.List.{AllByRecursion, list_any}
use Rattle.std.proofs.lemmas.Bool.{both_ways, cases_Bool, cases_lt, cond-false, cond-true, eq-eqb, eqb-true, or_cases, false≢true}
use Rattle.ds_base.specs.declared.names.PageId.{PageId}
use Rattle.ds_model.specs.declared.log.LogRecord.{LogRecord}
use Rattle.log_record.specs.Changes.{is_drawn}
use Rattle.page_chain.specs.Chains.{touches}
use Rattle.page_protocol.specs.Moves.{World}
use Rattle.log_tells.specs.Told.{Told, Fill, LogsTell, Rise, chain_of, drawn_in, is_between, is_of, part_of, records_of}
use Rattle.log_tells.specs.Leads.{LaterTells}
use Rattle.log_tells.proofs.Lists.{all_filter, all_weaker}
use Rattle.log_tells.proofs.Places.{before, behind, between, fill_none, part_is}
use Rattle.log_tells.proofs.Chains.{rise_filter}
use Rattle.log_tells.proofs.Numbers.{pick}

any_drawn : (number : ℕ) (rs : List LogRecord) → list_any (λ (r : LogRecord). is_drawn r.body && (r.lrsn == number)) rs ≡ list_any (λ (r : LogRecord). r.lrsn == number) (drawn_in rs)
any_drawn number [] = refl
any_drawn number (r ∷ rs) = elim (cases_Bool (is_drawn r.body)) [ inl e ↦ rw (e, any_drawn number rs) | inr e ↦ rw (e, any_drawn number rs) ]

rise_above : (low : ℕ) (ts : List Told) → Rise low ts → AllByRecursion (λ (t : Told). low < t.it.lrsn) ts
rise_above low [] h = tt
rise_above low (t ∷ ts) h = (h.0, all_weaker (λ (u : Told). t.it.lrsn < u.it.lrsn) (λ (u : Told). low < u.it.lrsn) ts (λ u lt. higher low t.it.lrsn u.it.lrsn h.0 lt) (rise_above t.it.lrsn ts h.1))
  where
    higher : (a b c : ℕ) → a < b → b < c → a < c
    higher a b c x y = omega (arith, x, y)

abbrev Late : ℕ → ℕ → Told → Type 0
Late s number t = s ≤ t.place → number < t.it.lrsn

late : (s number lo to low : ℕ) (ts : List Told) → Fill lo to ts → Rise low ts → list_any (λ (r : LogRecord). r.lrsn == number) (records_of (filter (is_between 0 s) ts)) ≡ true → AllByRecursion (Late s number) ts
late s number lo to low [] f r e = tt
late s number lo to low (t ∷ ts) f r e = elim (cases_lt lo s) [
  | inl lt ↦ (
    early lt,
    elim (or_cases (t.it.lrsn == number) (list_any (λ (r : LogRecord). r.lrsn == number) (records_of (filter (is_between 0 s) ts))) (here lt)) [
      | inl is ↦ all_weaker (λ (u : Told). t.it.lrsn < u.it.lrsn) (Late s number) ts (λ u h le. same u (eqb-true t.it.lrsn number is) h) (rise_above t.it.lrsn ts r.1)
      | inr more ↦ late s number (lo + 1) to t.it.lrsn ts f.1 r.1 more
    ],
  )
  | inr ge ↦ absurd (false≢true (sym (ap (λ us. list_any (λ (r : LogRecord). r.lrsn == number) (records_of us)) (fill_none lo to 0 s (t ∷ ts) f ge)) ∙ e))
]
  where
    early : lo < s → s ≤ t.place → number < t.it.lrsn
    early lt le = let at = f.0 in absurd (omega (arith, lt, le, at))

    same : (u : Told) → t.it.lrsn ≡ number → t.it.lrsn < u.it.lrsn → number < u.it.lrsn
    same u is h = omega (arith, is, h)

    here : lo < s → ((t.it.lrsn == number) || list_any (λ (r : LogRecord). r.lrsn == number) (records_of (filter (is_between 0 s) ts))) ≡ true
    here lt = let at = f.0 in
        sym (ap (λ us. list_any (λ (r : LogRecord). r.lrsn == number) (records_of us))
        (cond-true (is_between 0 s t) (t ∷ filter (is_between 0 s) ts) (filter (is_between 0 s) ts) (between 0 s t (omega arith) (omega (arith, at, lt))))) ∙ e

all_unfilter : (P : Told → Type 0) (p : Told → Bool) (ts : List Told) → AllByRecursion P (filter p ts) → AllByRecursion (λ (t : Told). p t ≡ true → P t) ts
all_unfilter P p [] h = tt
all_unfilter P p (t ∷ ts) h = let both = split (p t) refl h in (both.0, all_unfilter P p ts both.1)
  where
    split : (b : Bool) → p t ≡ b → AllByRecursion P (cond b (t ∷ filter p ts) (filter p ts)) → (p t ≡ true → P t) × AllByRecursion P (filter p ts)
    split true e k = ((λ x. k.0), k.1)
    split false e k = ((λ x. absurd (both_ways (p t) e x)), k)

pub later : LaterTells
later name w content told logs n i number t e lt le = elim (cases_lt ((w.pages n).place i) (w.group.stable m)) [ inl x ↦ x | inr ge ↦ absurd (never ge) ]
  where
    m : ℕ
    m = (w.pages n).author i

    any : list_any (λ (r : LogRecord). r.lrsn == number) (records_of (filter (is_between 0 (w.group.stable m)) (filter (is_of m) told))) ≡ true
    any = ap (list_any (λ (r : LogRecord). r.lrsn == number)) (sym (part_is m 0 (w.group.stable m) told) ∙ sym (t.disk m)) ∙ sym (any_drawn number (logs m)) ∙ e

    all : AllByRecursion (λ (u : Told). is_of m u ≡ true → Late (w.group.stable m) number u) (chain_of (name n) told)
    all = all_filter (λ (u : Told). is_of m u ≡ true → Late (w.group.stable m) number u) (λ (u : Told). touches (name n) u.it) told
        (all_unfilter (Late (w.group.stable m) number) (is_of m) told
        (late (w.group.stable m) number 0 (w.group.written m) 0 (filter (is_of m) told) (t.drawn.logs m) (rise_filter 0 (is_of m) told t.drawn.rise) any))

    never : w.group.stable m ≤ (w.pages n).place i → ⊥
    never ge =
        let s = pick (w.pages n) 0 i i (chain_of (name n) told) (λ (u : Told). is_of m u ≡ true → Late (w.group.stable m) number u) (t.drawn.chains n) (omega arith) lt all in
        let above = s.holds (eq-eqb s.t.member m s.member) (subst (λ x. w.group.stable m ≤ x) (sym s.place) ge) in
        let is = s.lrsn in
        omega (arith, above, is, le)
