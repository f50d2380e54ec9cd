-- The patches of a plan are of the pages of its action, to which its looks lead.
use Rattle.std.proofs.Common.{◌≡◌, ℕ, ◌+◌, ◌⊎◌, inl, inr, refl, sym, ap, subst, ◌∙◌, arith, Bool, true, false, ◌||◌, ◌&&◌, List, [], ◌∷◌, ◌++◌, Option, None, Some, Result, Ok, Err, if◌then◌else◌}
use Rattle.std.specs.Prelude.{◌==◌}
use Rattle.std.specs.List.{AllByRecursion}
use Rattle.std.proofs.lemmas.Bool.Decides.{nat_tests}
use Rattle.ds_base.specs.declared.names.PageId.{PageId}
use Rattle.ds_base.specs.declared.names.Place.{Place}
use Rattle.page_format.specs.Header.{header_of}
use Rattle.page_format.specs.declared.header.Header.{Header}
use Rattle.page_format.specs.declared.header.NotAPage.{NotAPage}
use Rattle.page_format.specs.declared.header.PageKind.TheVariants as kind
use Rattle.page_format.specs.declared.patch.Patch.{Patch}
use Rattle.ds_base.specs.Pages.{same_page, heap_page, index_page}
use Rattle.heap_space.specs.Changes.{give_patches, front_patches}
use Rattle.heap_space.specs.Changes as heap
use Rattle.heap_space.specs.Next.{last_page_of, given_of, next_place}
use Rattle.heap_space.specs.declared.next.SpaceFull.{SpaceFull}
use Rattle.index_leaf.specs.declared.step.Look.{Look as Found}
use Rattle.index_leaf.specs.Search.{look_of as look_in}
use Rattle.index_leaf.specs.Changes.{id_of, next_page_of, insert_patches, left_patches, right_patches, right_id, moved_patch}
use Rattle.index_leaf.specs.Changes as index
use Rattle.index_leaf.specs.Entries.{count_of}
use Rattle.index_leaf.specs.declared.layout.Entry.{Entry}
use Rattle.page_redo.specs.Rows as redo
use Rattle.page_plans.specs.declared.action.Action.{Action}
use Rattle.page_plans.specs.declared.action.Action.TheVariants as action
use Rattle.page_plans.specs.declared.action.Look.{Look}
use Rattle.page_plans.specs.declared.action.Look.TheVariants as look
use Rattle.page_plans.specs.Names.{three_pages as first_three, action_page}
use Rattle.page_plans.specs.Faults.{page_fault, unless_one, search_fault}
use Rattle.page_plans.specs.Looks.{unless_fault, limited, slot_from, slot_by, branch_found, draws, goes_on, place_in, look_of, leaf_look, leaf_found, branch_look, header_look, index_header_look, full_page_look, split_page_look, heap_page_look, split_off}
use Rattle.page_plans.specs.Plans.{one_plan, three_plan, slot_at, slot_patches, split_at, split_patches, branch_plan, entry_of}
use Rattle.page_plans.specs.Pages.{is_the, IsOf, PatchesAreOfPages, LooksLeadOn}
use Rattle.page_plans.proofs.Nodes.{name_of, eq_of}

-- ---- one of three

same_self : (p : PageId) → same_page p p ≡ true
same_self p = grind (arith, nat_tests)

or_left : (a b : Bool) → a ≡ true → (a || b) ≡ true
or_left true b h = refl
or_left false b h = absurd (cc)

or_right : (a b : Bool) → b ≡ true → (a || b) ≡ true
or_right true b h = refl
or_right false b h = h

the_page : (o : Option PageId) (id : PageId) → o ≡ Some id → is_the id o ≡ true
the_page o id is = subst (λ (p : Option PageId). is_the id p ≡ true) (sym is) (same_self id)

zeroth : (a : Action) (place : Option Place) (p : Patch) → action_page a 0 place ≡ Some p.page → IsOf a place p
zeroth a place p is = or_left _ _ (the_page (action_page a 0 place) p.page is)

first : (a : Action) (place : Option Place) (p : Patch) → action_page a 1 place ≡ Some p.page → IsOf a place p
first a place p is = or_right _ _ (or_left _ _ (the_page (action_page a 1 place) p.page is))

second : (a : Action) (place : Option Place) (p : Patch) → action_page a 2 place ≡ Some p.page → IsOf a place p
second a place p is = or_right _ _ (or_right _ _ (the_page (action_page a 2 place) p.page is))

-- ---- plans that were made

when_some : (b : Bool) (qs ps : List Patch) → (if b then Some qs else None) ≡ Some ps → (b ≡ true) × (qs ≡ ps)
when_some true qs ps h = (refl, cc)
when_some false qs ps h = absurd (cc)

both_true : (a b : Bool) → (a && b) ≡ true → (a ≡ true) × (b ≡ true)
both_true true b h = (refl, h)
both_true false b h = absurd (cc)

all_both : (P : Patch → Type 0) (ps qs : List Patch) → AllByRecursion P ps → AllByRecursion P qs → AllByRecursion P (ps ++ qs)
all_both P [] qs hp hq = hq
all_both P (p ∷ ps) qs hp hq = (hp.0, all_both P ps qs hp.1 hq)

-- ---- names

fault_none : (o : Option ℕ) (l : Look) → draws (unless_fault o l) ≡ true → (o ≡ None) × (draws l ≡ true)
fault_none None l h = (refl, h)
fault_none (Some at) l h = absurd (cc)

fault_gone : (o : Option ℕ) (l : Look) → goes_on (unless_fault o l) ≡ true → o ≡ None
fault_gone None l h = refl
fault_gone (Some at) l h = absurd (cc)

first_of : (o other : Option ℕ) → redo.or_fault o other ≡ None → o ≡ None
first_of None other h = refl
first_of (Some at) other h = absurd (cc)

leaf_named : (table key leaf : ℕ) (page : List ℕ) → draws (leaf_look table key leaf page) ≡ true → id_of page ≡ index_page table leaf
leaf_named table key leaf page h =
    name_of page (index_page table leaf) kind.Leaf (omega arith) (first_of _ _ (fault_none _ _ h).0)

branch_named : (table branch low child : ℕ) (page : List ℕ) → draws (branch_look table branch low child page) ≡ true → id_of page ≡ index_page table branch
branch_named table branch low child page h =
    name_of page (index_page table branch) kind.Branch (omega arith) (first_of _ _ (fault_none _ _ h).0)

node_named : (page : List ℕ) (id : PageId) (o : Option ℕ) → page_fault kind.Leaf id page ≡ o → unless_one o (page_fault kind.Branch id page) ≡ None → id_of page ≡ id
node_named page id None is h = name_of page id kind.Leaf (omega arith) is
node_named page id (Some at) is h = name_of page id kind.Branch (omega arith) h

full_named : (table left : ℕ) (next : Place) (page : List ℕ) → goes_on (full_page_look table left (Some next) page) ≡ true → id_of page ≡ index_page table left
full_named table left next page h = node_named page (index_page table left) (page_fault kind.Leaf (index_page table left) page) refl (fault_gone _ _ h)

place_none : (o : Option ℕ) (l : Look) (place : Place) → place_in (unless_fault o l) ≡ Some place → (o ≡ None) × (place_in l ≡ Some place)
place_none None l place h = (refl, h)
place_none (Some at) l place h = absurd (cc)

header_named : (table left : ℕ) (page : List ℕ) (place : Place) → place_in (index_header_look table left page) ≡ Some place → id_of page ≡ index_page table 0
header_named table left page place h = name_of page (index_page table 0) kind.IndexHeader (omega arith) (place_none _ _ place h).0

-- ---- each action

format_by : (P : Patch → Type 0) (table : ℕ) → ((p : Patch) → p.page ≡ index_page table 0 → P p) → ((p : Patch) → p.page ≡ index_page table 1 → P p) → ((p : Patch) → p.page ≡ index_page table 2 → P p)
    → AllByRecursion P (index.format_patches table)
format_by P table h k l = (h _ refl, (h _ refl, (k _ refl, (k _ refl, (k _ refl, (l _ refl, tt))))))

index_pages : (table : ℕ) (place : Option Place) → AllByRecursion (IsOf (action.FormatIndex table) place) (index.format_patches table)
index_pages table place =
    let a : Action = action.FormatIndex table in
    format_by (IsOf a place) table
    (λ p is. zeroth a place p (ap (λ (i : PageId). Some i) (sym is)))
    (λ p is. first a place p (ap (λ (i : PageId). Some i) (sym is)))
    (λ p is. second a place p (ap (λ (i : PageId). Some i) (sym is)))

heap_by : (P : Patch → Type 0) (table : ℕ) → ((p : Patch) → p.page ≡ heap_page table 0 → P p) → AllByRecursion P (heap.format_patches table)
unfolding heap.format_patches
heap_by P table h = (h _ refl, tt)

heap_pages : (table : ℕ) (place : Option Place) → AllByRecursion (IsOf (action.FormatHeap table) place) (heap.format_patches table)
heap_pages table place = heap_by (IsOf (action.FormatHeap table) place) table (λ p is. zeroth (action.FormatHeap table) place p (ap (λ (i : PageId). Some i) (sym is)))

-- the patches of an entry are of the page that is named
insert_pages : (P : Patch → Type 0) (page : List ℕ) (e : Entry) → ((p : Patch) → p.page ≡ id_of page → P p) → AllByRecursion P (insert_patches page e)
unfolding moved_patch
insert_pages P page e h = (h _ refl, (h _ refl, tt))

give_when : (b : Bool) (P : Patch → Type 0) (table : ℕ) (place : Place) (key : ℕ) → ((p : Patch) → p.page ≡ heap_page table 0 → P p) → ((p : Patch) → p.page ≡ heap_page table place.page → P p)
    → AllByRecursion P (heap.last_patch table place ∷ (if b then heap.front_patch 2 (heap_page table place.page) ∷ [] else []) ++ (heap.count_patch table place ∷ heap.slot_patch table place key ∷ []))
give_when true P table place key h k = (h _ refl, (k _ refl, (k _ refl, (k _ refl, tt))))
give_when false P table place key h k = (h _ refl, (k _ refl, (k _ refl, tt)))

give_pages : (P : Patch → Type 0) (table : ℕ) (place : Place) (key : ℕ) → ((p : Patch) → p.page ≡ heap_page table 0 → P p) → ((p : Patch) → p.page ≡ heap_page table place.page → P p) → AllByRecursion P (give_patches table place key)
unfolding give_patches
give_pages P table place key h k = give_when (place.slot == 0) P table place key h k

slot_pages : (table key leaf : ℕ) (o : Option Place) (b c : List ℕ) (ps : List Patch) → slot_at table key leaf o b c ≡ Some ps → AllByRecursion (IsOf (action.GiveSlot table key leaf) o) ps
slot_pages table key leaf None b c ps h = absurd (cc)
slot_pages table key leaf (Some place) b c ps h =
    let a : Action = action.GiveSlot table key leaf in
    let made = when_some _ (slot_patches table key place c) ps h in
    let name : id_of c ≡ index_page table leaf = leaf_named table key leaf c (both_true _ _ made.0).1 in
    subst (λ (qs : List Patch). AllByRecursion (IsOf a (Some place)) qs) made.1
    (all_both (IsOf a (Some place)) (give_patches table place key) (insert_patches c (entry_of key place))
    (give_pages (IsOf a (Some place)) table place key (λ p is. zeroth a (Some place) p (ap (λ (i : PageId). Some i) (sym is))) (λ p is. first a (Some place) p (ap (λ (i : PageId). Some i) (sym is))))
    (insert_pages (IsOf a (Some place)) c (entry_of key place) (λ p is. second a (Some place) p (ap (λ (i : PageId). Some i) (sym (is ∙ name))))))

split_by : (P : Patch → Type 0) (header left : List ℕ) (next : ℕ) → ((p : Patch) → p.page ≡ id_of header → P p) → ((p : Patch) → p.page ≡ id_of left → P p) → ((p : Patch) → p.page ≡ right_id left next → P p)
    → AllByRecursion P (split_patches header left next)
split_by P header left next h k l =
    (h _ refl, (k _ refl, (k _ refl, (k _ refl, (l _ refl, (l _ refl, (l _ refl, (l _ refl, tt))))))))

split_pages : (table left : ℕ) (o : Option Place) (x y z : List ℕ) (ps : List Patch) → place_in (index_header_look table left x) ≡ o → split_at table left o x y z ≡ Some ps → AllByRecursion (IsOf (action.Split table left) o) ps
split_pages table left None x y z ps from h = absurd (cc)
split_pages table left (Some next) x y z ps from h =
    let a : Action = action.Split table left in
    let made = when_some _ (split_patches x y next.page) ps h in
    let top : id_of x ≡ index_page table 0 = header_named table left x next from in
    let name : id_of y ≡ index_page table left = full_named table left next y (both_true _ _ made.0).0 in
    let new : right_id y next.page ≡ index_page table next.page = ap (λ (i : PageId). let j : PageId = record { set = i.set; number = next.page } in j) name in
    subst (λ (qs : List Patch). AllByRecursion (IsOf a (Some next)) qs) made.1
    (split_by (IsOf a (Some next)) x y next.page
    (λ p is. zeroth a (Some next) p (ap (λ (i : PageId). Some i) (sym (is ∙ top))))
    (λ p is. first a (Some next) p (ap (λ (i : PageId). Some i) (sym (is ∙ name))))
    (λ p is. second a (Some next) p (ap (λ (i : PageId). Some i) (sym (is ∙ new)))))

branch_pages : (table branch low child : ℕ) (place : Option Place) (page : List ℕ) (ps : List Patch) → branch_plan table branch low child page ≡ Some ps → AllByRecursion (IsOf (action.BranchEntry table branch low child) place) ps
branch_pages table branch low child place page ps h =
    let a : Action = action.BranchEntry table branch low child in
    let made = when_some _ (insert_patches page (entry_of low (split_off child))) ps h in
    let name : id_of page ≡ index_page table branch = branch_named table branch low child page made.0 in
    subst (λ (qs : List Patch). AllByRecursion (IsOf a place) qs) made.1
    (insert_pages (IsOf a place) page (entry_of low (split_off child)) (λ p is. zeroth a place p (ap (λ (i : PageId). Some i) (sym (is ∙ name)))))

-- ---- all actions

one_pages : (a : Action) (limit : ℕ) (x : List ℕ) (ps : List Patch) → one_plan a x ≡ Some ps → AllByRecursion (IsOf a (place_in (look_of a limit 0 None x))) ps
one_pages (action.FormatIndex table) limit x ps h = absurd (cc)
one_pages (action.FormatHeap table) limit x ps h =
    let made = when_some _ (heap.format_patches table) ps h in
    let o : Option Place = place_in (look_of (action.FormatHeap table) limit 0 None x) in
    subst (λ (qs : List Patch). AllByRecursion (IsOf (action.FormatHeap table) o) qs) made.1 (heap_pages table o)
one_pages (action.GiveSlot table key leaf) limit x ps h = absurd (cc)
one_pages (action.Split table left) limit x ps h = absurd (cc)
one_pages (action.BranchEntry table branch low child) limit x ps h = branch_pages table branch low child (place_in (look_of (action.BranchEntry table branch low child) limit 0 None x)) x ps h
one_pages (action.RowChange table key at after) limit x ps h = absurd (cc)

three_pages : (a : Action) (limit : ℕ) (x y z : List ℕ) (ps : List Patch) → three_plan a limit x y z ≡ Some ps → AllByRecursion (IsOf a (place_in (look_of a limit 0 None x))) ps
three_pages (action.FormatIndex table) limit x y z ps h =
    let made = when_some _ (index.format_patches table) ps h in
    let o : Option Place = place_in (look_of (action.FormatIndex table) limit 0 None x) in
    subst (λ (qs : List Patch). AllByRecursion (IsOf (action.FormatIndex table) o) qs) made.1 (index_pages table o)
three_pages (action.FormatHeap table) limit x y z ps h = absurd (cc)
three_pages (action.GiveSlot table key leaf) limit x y z ps h = slot_pages table key leaf (place_in (header_look table limit x)) y z ps h
three_pages (action.Split table left) limit x y z ps h = split_pages table left (place_in (index_header_look table left x)) x y z ps refl h
three_pages (action.BranchEntry table branch low child) limit x y z ps h = absurd (cc)
three_pages (action.RowChange table key at after) limit x y z ps h = absurd (cc)

pub patches_are_of_pages : PatchesAreOfPages
patches_are_of_pages a limit None y z ps h = absurd (cc)
patches_are_of_pages a limit (Some x) None None ps h = one_pages a limit x ps h
patches_are_of_pages a limit (Some x) None (Some z) ps h = absurd (cc)
patches_are_of_pages a limit (Some x) (Some y) None ps h = absurd (cc)
patches_are_of_pages a limit (Some x) (Some y) (Some z) ps h = three_pages a limit x y z ps h

-- ---- where looks lead

same_next : (p next : PageId) (q to : Option Place) → ◌≡◌ {A = Look} (look.Next p q) (look.Next next to) → (p ≡ next) × (q ≡ to)
same_next p next q to h = (cc, cc)

if_done : (b : Bool) (l : Look) (next : PageId) (to : Option Place) → (if b then l else look.Done) ≡ look.Next next to → l ≡ look.Next next to
if_done true l next to h = h
if_done false l next to h = absurd (cc)

if_damaged : (b : Bool) (l : Look) (at : ℕ) (next : PageId) (to : Option Place) → (if b then l else look.Damaged at) ≡ look.Next next to → l ≡ look.Next next to
if_damaged true l at next to h = h
if_damaged false l at next to h = absurd (cc)

else_next : (b : Bool) (l : Look) (at : ℕ) (next : PageId) (to : Option Place) → (if b then look.Damaged at else l) ≡ look.Next next to → l ≡ look.Next next to
else_next true l at next to h = absurd (cc)
else_next false l at next to h = h

unless_next : (o : Option ℕ) (l : Look) (next : PageId) (to : Option Place) → unless_fault o l ≡ look.Next next to → l ≡ look.Next next to
unless_next None l next to h = h
unless_next (Some at) l next to h = absurd (cc)

-- the look at the page of this number, of three
record OneOf (nth : ℕ) (a b c : Look) (is : Look) : Type 0 where
  at : (nth ≡ 0) × (a ≡ is) ⊎ (nth ≡ 1) × (b ≡ is) ⊎ (nth ≡ 2) × (c ≡ is)

choose_when : (nth : ℕ) (p q r : Bool) (a b c : Look) (next : PageId) (to : Option Place) → (nth == 0) ≡ p → (nth == 1) ≡ q → (nth == 2) ≡ r
    → (if p then a else if q then b else if r then c else look.Done) ≡ look.Next next to → OneOf nth a b c (look.Next next to)
choose_when nth true q r a b c next to is0 is1 is2 h = record { at = inl (eq_of nth 0 is0, h) }
choose_when nth false true r a b c next to is0 is1 is2 h = record { at = inr (inl (eq_of nth 1 is1, h)) }
choose_when nth false false true a b c next to is0 is1 is2 h = record { at = inr (inr (eq_of nth 2 is2, h)) }
choose_when nth false false false a b c next to is0 is1 is2 h = absurd (cc)

LeadsTo : Action → ℕ → Option Place → PageId → Type 0
LeadsTo a nth to next = action_page a (nth + 1) to ≡ Some next

by_three : (a : Action) (nth : ℕ) (x y z : Look) (next : PageId) (to : Option Place) → OneOf nth x y z (look.Next next to)
    → (x ≡ look.Next next to → action_page a 1 to ≡ Some next) → (y ≡ look.Next next to → action_page a 2 to ≡ Some next) → (z ≡ look.Next next to → ⊥) → action_page a (nth + 1) to ≡ Some next
by_three a nth x y z next to one f g h = by one.at
  where
    by : (nth ≡ 0) × (x ≡ look.Next next to) ⊎ (nth ≡ 1) × (y ≡ look.Next next to) ⊎ (nth ≡ 2) × (z ≡ look.Next next to) → action_page a (nth + 1) to ≡ Some next
    by (inl e) = subst (λ (n : ℕ). action_page a (n + 1) to ≡ Some next) (sym e.0) (f e.1)
    by (inr (inl e)) = subst (λ (n : ℕ). action_page a (n + 1) to ≡ Some next) (sym e.0) (g e.1)
    by (inr (inr e)) = absurd (h e.1)

from_slot : (table key leaf : ℕ) (r : Result Place SpaceFull) (next : PageId) (to : Option Place) → slot_from table r ≡ look.Next next to → action_page (action.GiveSlot table key leaf) 1 to ≡ Some next
from_slot table key leaf (Ok place) next to h =
    let e = same_next (heap_page table place.page) next (Some place) to h in
    subst (λ (o : Option Place). action_page (action.GiveSlot table key leaf) 1 o ≡ Some next) e.1 (ap (λ (i : PageId). Some i) e.0)
from_slot table key leaf (Err full) next to h = absurd (cc)

from_header : (table key leaf limit : ℕ) (page : List ℕ) (r : Result Header NotAPage) (next : PageId) (to : Option Place) → slot_by table limit page r ≡ look.Next next to → action_page (action.GiveSlot table key leaf) 1 to ≡ Some next
from_header table key leaf limit page (Ok h) next to is =
    from_slot table key leaf (next_place (last_page_of page) (given_of page) (limited limit)) next to (if_damaged _ _ _ next to (if_done _ _ next to is))
from_header table key leaf limit page (Err e) next to is = absurd (cc)

-- a place that goes on with a look
from_place : (a : Action) (n : ℕ) (p : PageId) (at : Place) (next : PageId) (to : Option Place) → action_page a n (Some at) ≡ Some p → ◌≡◌ {A = Look} (look.Next p (Some at)) (look.Next next to) → action_page a n to ≡ Some next
from_place a n p at next to has is =
    let e = same_next p next (Some at) to is in
    subst (λ (o : Option Place). action_page a n o ≡ Some next) e.1 (has ∙ ap (λ (i : PageId). Some i) e.0)

from_rows : (table key leaf : ℕ) (place : Option Place) (page : List ℕ) (next : PageId) (to : Option Place) → heap_page_look table leaf place page ≡ look.Next next to → action_page (action.GiveSlot table key leaf) 2 to ≡ Some next
from_rows table key leaf None page next to h = absurd (cc)
from_rows table key leaf (Some at) page next to h = from_place (action.GiveSlot table key leaf) 2 (index_page table leaf) at next to refl (unless_next _ _ next to h)

no_found : (table key : ℕ) (f : Found) (count : ℕ) (b : Bool) (next : PageId) (to : Option Place) → (count == 252) ≡ b → leaf_found table key f count ≡ look.Next next to → ⊥
no_found table key f count b next to is h = grind arith

from_index : (table left : ℕ) (page : List ℕ) (next : PageId) (to : Option Place) → index_header_look table left page ≡ look.Next next to → action_page (action.Split table left) 1 to ≡ Some next
from_index table left page next to h =
    from_place (action.Split table left) 1 (index_page table left) (split_off (next_page_of page)) next to refl (else_next _ _ _ next to (unless_next _ _ next to h))

from_full : (table left : ℕ) (place : Option Place) (page : List ℕ) (next : PageId) (to : Option Place) → full_page_look table left place page ≡ look.Next next to → action_page (action.Split table left) 2 to ≡ Some next
from_full table left None page next to h = absurd (cc)
from_full table left (Some at) page next to h = from_place (action.Split table left) 2 (index_page table at.page) at next to refl (if_done _ _ next to (unless_next _ _ next to h))

no_row : (o : Option ℕ) (next : PageId) (to : Option Place) → unless_fault o look.Draw ≡ look.Next next to → ⊥
no_row None next to h = absurd (cc)
no_row (Some at) next to h = absurd (cc)

from_new : (table : ℕ) (place : Option Place) (page : List ℕ) (next : PageId) (to : Option Place) → split_page_look table place page ≡ look.Next next to → ⊥
from_new table None page next to h = absurd (cc)
from_new table (Some at) page next to h = no_row (page_fault kind.Empty (index_page table at.page) page) next to h

plain : (table n m : ℕ) (next : PageId) (to : Option Place) → first_three table n ≡ Some (index_page table m) → ◌≡◌ {A = Look} (look.Next (index_page table m) None) (look.Next next to) → action_page (action.FormatIndex table) n to ≡ Some next
plain table n m next to has h = has ∙ ap (λ (i : PageId). Some i) (same_next (index_page table m) next None to h).0

no_branch : (table branch low child : ℕ) (f : Found) (count : ℕ) (next : PageId) (to : Option Place) → branch_found table branch low child f count ≡ look.Next next to → ⊥
no_branch table branch low child f count next to h = grind arith

no_draw : (b : Bool) (next : PageId) (to : Option Place) → (if b then look.Draw else look.Done) ≡ look.Next next to → ⊥
no_draw true next to h = absurd (cc)
no_draw false next to h = absurd (cc)

pub looks_lead_on : LooksLeadOn
looks_lead_on (action.FormatIndex table) limit nth place to page next h =
    by_three (action.FormatIndex table) nth _ _ _ next to (choose_when nth (nth == 0) (nth == 1) (nth == 2) _ _ _ next to refl refl refl h)
    (λ e. plain table 1 1 next to refl (if_done _ _ next to e))
    (λ e. plain table 2 2 next to refl (unless_next _ _ next to e))
    (λ e. no_row _ next to e)
looks_lead_on (action.FormatHeap table) limit nth place to page next h = absurd (no_draw _ next to h)
looks_lead_on (action.GiveSlot table key leaf) limit nth place to page next h =
    by_three (action.GiveSlot table key leaf) nth _ _ _ next to (choose_when nth (nth == 0) (nth == 1) (nth == 2) _ _ _ next to refl refl refl h)
    (λ e. from_header table key leaf limit page (header_of page (heap_page table 0)) next to e)
    (λ e. from_rows table key leaf place page next to e)
    (λ e. no_found table key (look_in page key) (count_of page) (count_of page == 252) next to refl (unless_next (search_fault kind.Leaf (index_page table leaf) key page) _ next to e))
looks_lead_on (action.Split table left) limit nth place to page next h =
    by_three (action.Split table left) nth _ _ _ next to (choose_when nth (nth == 0) (nth == 1) (nth == 2) _ _ _ next to refl refl refl h)
    (λ e. from_index table left page next to e)
    (λ e. from_full table left place page next to e)
    (λ e. from_new table place page next to e)
looks_lead_on (action.BranchEntry table branch low child) limit nth place to page next h =
    absurd (no_branch table branch low child (look_in page low) (count_of page) next to (unless_next (search_fault kind.Branch (index_page table branch) low page) _ next to (if_done (nth == 0) (branch_look table branch low child page) next to h)))
looks_lead_on (action.RowChange table key at after) limit nth place to page next h = absurd (no_row (redo.row_fault (heap_page table at.page) at.slot key page) next to (if_done (nth == 0) (unless_fault (redo.row_fault (heap_page table at.page) at.slot key page) look.Draw) next to h))
