-- Transactions of members that are left out are stopped, member by member.
use Rattle.std.proofs.Common.{◌≡◌, ℕ, ◌==◌, ◌&&◌, inl, inr, Bool, true, List, [], ◌∷◌, ◌++◌, ap, subst, ◌∙◌, append_assoc}
use Rattle.std.specs.List.{AllByRecursion, list_any}
use Rattle.std.proofs.lemmas.Bool.{and_from, and_parts, eqb-true, or_cases, or_left, or_right}
use Rattle.ds_model.specs.declared.fate.Fate.TheVariants as fate
use Rattle.ds_model.specs.declared.history.Entry.{Entry}
use Rattle.ds_model.specs.declared.script.Part.{Part}
use Rattle.ds_model.specs.declared.script.Phase.{Phase}
use Rattle.list_structure.specs.declared.standing.MemberStatus.{MemberStatus}
use Rattle.script_fates.specs.Fated.{FatesState, StopsOnly, has_tran, is_in_part}
use Rattle.group_crew.specs.Beginning.{is_left_out_in}
use Rattle.script_phases.specs.Phases.{is_left_out}

-- a transaction of a member that is left out
left_out_has : (phase : Phase) (statuses : List MemberStatus) (member n : ℕ) (parts : List Part) → is_left_out phase statuses member ≡ true
    → list_any (λ (p : Part). (member == p.member) && has_tran p.trans n) parts ≡ true → list_any (λ (p : Part). is_left_out phase statuses p.member && has_tran p.trans n) parts ≡ true
left_out_has phase statuses member n [] out has = cc
left_out_has phase statuses member n (part ∷ parts) out has =
    elim (or_cases ((member == part.member) && has_tran part.trans n) (list_any (λ (p : Part). (member == p.member) && has_tran p.trans n) parts) has) [
      | inl here ↦ (
          let both = and_parts (member == part.member) (has_tran part.trans n) here in
          let its : is_left_out phase statuses part.member ≡ true = subst (λ (m : ℕ). is_left_out phase statuses m ≡ true) (eqb-true member part.member both.0) out in
          or_left (is_left_out phase statuses part.member && has_tran part.trans n) (list_any (λ (p : Part). is_left_out phase statuses p.member && has_tran p.trans n) parts)
          (and_from (is_left_out phase statuses part.member) (has_tran part.trans n) its both.1)
          )
      | inr later ↦ or_right (is_left_out phase statuses part.member && has_tran part.trans n) (list_any (λ (p : Part). is_left_out phase statuses p.member && has_tran p.trans n) parts)
          (left_out_has phase statuses member n parts out later)
    ]

weaker : (may also : ℕ → Bool) (more : List Entry) → ((n : ℕ) → may n ≡ true → also n ≡ true)
    → AllByRecursion (λ (e : Entry). (e.fate ≡ fate.Stopped) × (may e.tran.number ≡ true)) more → AllByRecursion (λ (e : Entry). (e.fate ≡ fate.Stopped) × (also e.tran.number ≡ true)) more
weaker may also [] leads all = tt
weaker may also (e ∷ es) leads all = ((all.0.0, leads e.tran.number all.0.1), weaker may also es leads all.1)

together : (P : Entry → Type 0) (xs ys : List Entry) → AllByRecursion P xs → AllByRecursion P ys → AllByRecursion P (xs ++ ys)
together P [] ys first second = second
together P (x ∷ xs) ys first second = (first.0, together P xs ys first.1 second)

-- some are stopped, and then others, of which all are among those that may be
pub stops_more : (may also : ℕ → Bool) (old mid new : FatesState) → ((n : ℕ) → may n ≡ true → also n ≡ true) → StopsOnly also old mid → StopsOnly may mid new → StopsOnly also old new
stops_more may also old mid new leads first second = (
  (
    first.0.0 ++ second.0.0,
    together (λ (e : Entry). (e.fate ≡ fate.Stopped) × (also e.tran.number ≡ true)) first.0.0 second.0.0 first.0.1 (weaker may also second.0.0 leads second.0.1),
    second.0.2 ∙ (ap (λ (es : List Entry). es ++ second.0.0) first.0.2 ∙ append_assoc old.entries first.0.0 second.0.0),
  ),
  second.1 ∙ first.1,
)

pub left_out_more : (phase : Phase) (statuses : List MemberStatus) (member : ℕ) (old mid new : FatesState)
    → is_left_out phase statuses member ≡ true → StopsOnly (is_left_out_in phase statuses) old mid → StopsOnly (is_in_part phase member) mid new → StopsOnly (is_left_out_in phase statuses) old new
left_out_more phase statuses member old mid new out first second =
    stops_more (is_in_part phase member) (is_left_out_in phase statuses) old mid new (λ n. left_out_has phase statuses member n phase.parts out) first second
