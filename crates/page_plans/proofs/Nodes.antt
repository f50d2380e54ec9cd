-- Pages whose header may stand: their names, and how many entries they have.
use Rattle.std.proofs.Common.{◌≡◌, ℕ, suc, zero, ◌<◌, ◌≤◌, refl, sym, ap, ◌∙◌, arith, Bool, true, false, List, [], ◌∷◌, length, get_or, lit<, Option, Some, None, Result, Ok, if◌then◌else◌}
use Rattle.std.specs.Prelude.{nat_le, ◌==◌}
use Rattle.std.proofs.lemmas.Bool.Decides.{nat_tests}
use Rattle.ds_base.specs.declared.names.PageId.{PageId}
use Rattle.page_format.specs.Fields.{number_in}
use Rattle.page_format.specs.Header.{header_of, header_in, fields, first_fault, judged, empty_header, most, is_zeros}
use Rattle.page_format.specs.declared.header.Header.{Header}
use Rattle.page_format.specs.declared.header.NotAPage.{NotAPage}
use Rattle.index_leaf.specs.Entries.{count_of}
use Rattle.index_leaf.specs.Changes.{id_of}
use Rattle.page_format.specs.declared.header.PageKind.{PageKind}
use Rattle.page_format.specs.declared.header.PageKind.TheVariants as kind
use Rattle.page_plans.specs.Faults.{number_of, is_kind, kind_fault, headed_fault, page_fault, IsNodeKind}

passed : (f : ℕ × Bool) (fs : List (ℕ × Bool)) → first_fault (f ∷ fs) ≡ None → (f.1 ≡ true) × (first_fault fs ≡ None)
passed f fs h = grind arith

-- no field is at fault
pub passed_at : (fs : List (ℕ × Bool)) (i : ℕ) (d : ℕ × Bool) → first_fault fs ≡ None → i < length fs → (get_or fs i d).1 ≡ true
passed_at [] i d h lt = absurd (omega arith)
passed_at (f ∷ fs) zero d h lt = (passed f fs h).0
passed_at (f ∷ fs) (suc i) d h lt = passed_at fs i d (passed f fs h).1 (omega arith)

-- ---- room

test_none : (b c : Bool) (m n : ℕ) → (if b then None else if c then Some m else Some n) ≡ None → b ≡ true
test_none true c m n h = refl
test_none false true m n h = absurd (cc)
test_none false false m n h = absurd (cc)

no_header : (k : PageKind) → IsNodeKind k → kind_fault k kind.Empty ≡ None → ⊥
no_header k n fits = grind arith

no_header_of : (k : PageKind) → 1 ≤ number_of k → kind_fault k kind.Empty ≡ None → ⊥
no_header_of k n fits = grind arith

header_kept : (z : Bool) (o : Option ℕ) (g : Header) (k : PageKind) → IsNodeKind k → headed_fault k (if z then Ok empty_header else judged o g) ≡ None → (o ≡ None) × (is_kind k g.kind ≡ true)
header_kept true o g k n fits = absurd (no_header k n fits)
header_kept false None g k n fits = (refl, test_none (is_kind k g.kind) (is_kind kind.Empty g.kind) 0 4 fits)
header_kept false (Some at) g k n fits = absurd (cc)

most_of : (k h : PageKind) → IsNodeKind k → is_kind k h ≡ true → most h ≡ 252
most_of k h n is = grind arith

le_of : (a b : ℕ) → nat_le a b ≡ true → a ≤ b
le_of a b h = grind arith

pub room_of : (page : List ℕ) (id : PageId) (wanted : PageKind) → IsNodeKind wanted → page_fault wanted id page ≡ None → count_of page ≤ 252
unfolding header_of count_of
room_of page id wanted node fits =
    let kept = header_kept (is_zeros page) (first_fault (fields page id)) (header_in page) wanted node fits in
    let last : nat_le (header_in page).count (most (header_in page).kind) ≡ true = passed_at (fields page id) 6 (0, true) kept.0 (lit< tt) in
    let le : (header_in page).count ≤ most (header_in page).kind = le_of _ _ last in
    let limit : most (header_in page).kind ≡ 252 = most_of wanted (header_in page).kind node kept.1 in
    omega (arith, le, limit)

-- ---- names

named_kept : (z : Bool) (o : Option ℕ) (g : Header) (k : PageKind) → 1 ≤ number_of k → headed_fault k (if z then Ok empty_header else judged o g) ≡ None → o ≡ None
named_kept true o g k n fits = absurd (no_header_of k n fits)
named_kept false None g k n fits = refl
named_kept false (Some at) g k n fits = absurd (cc)

pub eq_of : (a b : ℕ) → (a == b) ≡ true → a ≡ b
eq_of a b h = grind (arith, nat_tests)

same_name : (a b : PageId) → a.set ≡ b.set → a.number ≡ b.number → a ≡ b
same_name a b set number = ap (λ (n : ℕ). let i : PageId = record { set = a.set; number = n } in i) number ∙ ap (λ (s : ℕ). let i : PageId = record { set = s; number = b.number } in i) set

-- a page that isn't empty bears its name
pub name_of : (page : List ℕ) (id : PageId) (wanted : PageKind) → 1 ≤ number_of wanted → page_fault wanted id page ≡ None → id_of page ≡ id
unfolding header_of id_of
name_of page id wanted some fits =
    let kept = named_kept (is_zeros page) (first_fault (fields page id)) (header_in page) wanted some fits in
    let set : number_in page 6 2 ≡ id.set = eq_of _ _ (passed_at (fields page id) 3 (0, true) kept (lit< tt)) in
    let number : number_in page 8 4 ≡ id.number = eq_of _ _ (passed_at (fields page id) 4 (0, true) kept (lit< tt)) in
    same_name (record { set = number_in page 6 2; number = number_in page 8 4 }) id set number

pub name_by : (found : Result Header NotAPage) (fault : Option ℕ) (h : Header) (page : List ℕ) (id : PageId) (wanted : PageKind) → found ≡ Ok h → found ≡ header_of page id → fault ≡ kind_fault wanted h.kind → 1 ≤ number_of wanted → fault ≡ None
    → id_of page ≡ id
name_by found fault h page id wanted ok is kind_is some none =
    name_of page id wanted some (ap (λ (r : Result Header NotAPage). headed_fault wanted r) (sym is ∙ ok) ∙ (sym kind_is ∙ none))
