-- Which pages stand to the right of leaves.
use Rattle.std.proofs.Common.{◌≡◌, ℕ, zero, suc, Bool, true, false, ◌&&◌, ◌||◌, cond, List, [], ◌∷◌, Option, Some, is_some, refl, sym, ap, ◌∙◌, arith}
use Rattle.std.specs.Prelude.{◌==◌, slice_get, if◌then◌else◌}
use Rattle.std.specs.Ordering.{nat_cmp, eq_by_cmp, is_eq, ordering_then}
use Rattle.std.specs.declared.cmp.Ordering.{Ordering}
use Rattle.std.specs.declared.cmp.Ordering.TheVariants.{Less, Equal, Greater}
use Rattle.std.specs.FinMap.{get, insert, empty, get-insert, get-empty}
use Rattle.std.proofs.lemmas.Bool.Decides.{nat_tests}
use Rattle.ds_model.specs.Rows.{spot_cmp, spot_cmp_total}
use Rattle.table_pages.proofs.Booleans.{and_left, and_right, and_both, equal, itself}
use Rattle.index_links.specs.declared.nodes.Node.{Node}
use Rattle.index_links.specs.Links.{has_right, Rights, with_right, rights_from, reached_in}

-- ---- spots

both_equal : (o p : Ordering) → is_eq (ordering_then o p) ≡ (is_eq o && is_eq p)
both_equal Less p = refl
both_equal Equal p = refl
both_equal Greater p = refl

same_number : (q k : ℕ) → eq_by_cmp nat_cmp q k ≡ (k == q)
same_number q k = grind (arith, nat_tests)

same_spot : (table key j : ℕ) → eq_by_cmp spot_cmp (table, key) (table, j) ≡ (j == key)
same_spot table key j =
    both_equal (nat_cmp table table) (nat_cmp key j)
    ∙ ap (λ (b : Bool). b && is_eq (nat_cmp key j)) (same_number table table ∙ itself table)
    ∙ same_number key j

-- ---- rights

-- the node is a leaf to whose right the page stands
pub is_left : ℕ → Node → Bool
is_left n node = has_right node && (node.right == n)

test_some : (e b : Bool) (o : Option Bool) → is_some (cond e (Some b) o) ≡ (e || is_some o)
test_some true b o = refl
test_some false b o = refl

put_by : (b : Bool) (table n : ℕ) (rights : Rights) (node : Node) → has_right node ≡ b → reached_in (if b then insert rights (table, node.right) true else rights) table n ≡ ((b && (node.right == n)) || reached_in rights table n)
put_by true table n rights node is =
    ap is_some (get-insert spot_cmp_total rights (table, node.right) true (table, n))
    ∙ test_some (eq_by_cmp spot_cmp (table, n) (table, node.right)) true (get rights (table, n))
    ∙ ap (λ (e : Bool). e || reached_in rights table n) (same_spot table n node.right)
put_by false table n rights node is = refl

-- before, or by one of these
by_any : Bool → List Node → ℕ → Bool
by_any before [] n = before
by_any before (node ∷ rest) n = by_any (is_left n node || before) rest n

rights_told : (table n : ℕ) (rights : Rights) (nodes : List Node) → reached_in (rights_from table rights nodes) table n ≡ by_any (reached_in rights table n) nodes n
unfolding by_any is_left
rights_told table n rights [] = refl
rights_told table n rights (node ∷ rest) =
    rights_told table n (with_right table rights node) rest
    ∙ ap (λ (b : Bool). by_any b rest n) (put_by (has_right node) table n rights node refl)

node_same : (a b : Node) → Some a ≡ Some b → a ≡ b
node_same a b q = cc

or_true : (a b : Bool) → b ≡ true → (a || b) ≡ true
or_true true b h = refl
or_true false b h = h

or_first : (a b : Bool) → a ≡ true → (a || b) ≡ true
or_first true b h = refl
or_first false b h = absurd cc

any_before : (nodes : List Node) (n : ℕ) (before : Bool) → before ≡ true → by_any before nodes n ≡ true
unfolding by_any
any_before [] n before h = h
any_before (node ∷ rest) n before h = any_before rest n (is_left n node || before) (or_true (is_left n node) before h)

any_at : (nodes : List Node) (n : ℕ) (before : Bool) (i : ℕ) (node : Node) → slice_get nodes i ≡ Some node → is_left n node ≡ true → by_any before nodes n ≡ true
unfolding by_any
any_at [] n before i node g h = absurd cc
any_at (x ∷ xs) n before zero node g h = any_before xs n (is_left n x || before) (or_first (is_left n x) before (ap (is_left n) (node_same x node g) ∙ h))
any_at (x ∷ xs) n before (suc i) node g h = any_at xs n (is_left n x || before) i node g h

pub record HasLeft (nodes : List Node) (n : ℕ) : Type 0 where
  pub i : ℕ
  pub node : Node
  pub got : slice_get nodes i ≡ Some node
  pub has : has_right node ≡ true
  pub right : node.right ≡ n

left_is : (n : ℕ) (node : Node) → is_left n node ≡ true → (has_right node ≡ true) × (node.right ≡ n)
unfolding is_left
left_is n node h = (and_left (has_right node) (node.right == n) h, equal node.right n (and_right (has_right node) (node.right == n) h))

further : (x : Node) (xs : List Node) (n : ℕ) → HasLeft xs n → HasLeft (x ∷ xs) n
further x xs n h = record { i = suc h.i; node = h.node; got = h.got; has = h.has; right = h.right }

cons_of : (x : Node) (xs : List Node) (n : ℕ) (b : Bool) → is_left n x ≡ b → (by_any false xs n ≡ true → HasLeft xs n) → by_any (b || false) xs n ≡ true → HasLeft (x ∷ xs) n
cons_of x xs n true is ih h = let l = left_is n x is in record { i = 0; node = x; got = refl; has = l.0; right = l.1 }
cons_of x xs n false is ih h = further x xs n (ih h)

any_of : (nodes : List Node) (n : ℕ) → by_any false nodes n ≡ true → HasLeft nodes n
unfolding by_any
any_of [] n h = absurd cc
any_of (x ∷ xs) n h = cons_of x xs n (is_left n x) refl (any_of xs n) h

none_before : (table n : ℕ) → reached_in empty table n ≡ false
none_before table n = ap is_some (get-empty {X = Bool} spot_cmp (table, n))

told : (table n : ℕ) (nodes : List Node) → reached_in (rights_from table empty nodes) table n ≡ by_any false nodes n
told table n nodes = rights_told table n empty nodes ∙ ap (λ (b : Bool). by_any b nodes n) (none_before table n)

pub reached_left : (table n : ℕ) (nodes : List Node) → reached_in (rights_from table empty nodes) table n ≡ true → HasLeft nodes n
reached_left table n nodes h = any_of nodes n (sym (told table n nodes) ∙ h)

pub left_reached : (table n : ℕ) (nodes : List Node) → HasLeft nodes n → reached_in (rights_from table empty nodes) table n ≡ true
unfolding is_left
left_reached table n nodes h =
    told table n nodes ∙ any_at nodes n false h.i h.node h.got (and_both (has_right h.node) (h.node.right == n) h.has (ap (λ (m : ℕ). m == n) h.right ∙ itself n))
