-- A plan has a patch for each page of its action.
use Rattle.std.proofs.Common.{◌≡◌, ℕ, refl, ap, subst, ◌∙◌, arith, Bool, true, false, ◌||◌, List, [], ◌∷◌, ◌++◌, Option, None, Some, if◌then◌else◌}
use Rattle.std.specs.Prelude.{◌==◌}
use Rattle.std.specs.List.{list_any}
use Rattle.std.proofs.lemmas.Bool.{and_from, and_parts, eq-eqb}
use Rattle.std.proofs.lemmas.List.Folds.{list_any-append}
use Rattle.std.proofs.lemmas.Option.{none-some, same_Some}
use Rattle.ds_base.specs.declared.names.PageId.{PageId}
use Rattle.ds_base.specs.declared.names.Place.{Place}
use Rattle.ds_base.specs.Pages.{same_page, heap_page, index_page}
use Rattle.page_format.specs.declared.header.PageKind.TheVariants as kind
use Rattle.page_format.specs.declared.patch.Patch.{Patch}
use Rattle.heap_space.specs.Changes.{give_patches, front_patches}
use Rattle.heap_space.specs.Changes as heap
use Rattle.index_leaf.specs.Changes.{id_of, insert_patches, left_patches, right_patches, right_id}
use Rattle.index_leaf.specs.Changes as index
use Rattle.page_redo.specs.Rows.{or_fault}
use Rattle.page_plans.specs.declared.action.Action.{Action}
use Rattle.page_plans.specs.declared.action.Action.TheVariants as action
use Rattle.page_plans.specs.declared.action.Look.{Look}
use Rattle.page_plans.specs.Names.{action_page}
use Rattle.page_plans.specs.Faults.{page_fault, unless_one}
use Rattle.page_plans.specs.Looks.{unless_fault, branch_look, draws, full_page_look, goes_on, header_look, index_header_look, leaf_look, look_of, place_in, split_off}
use Rattle.page_plans.specs.Plans.{branch_plan, entry_of, one_plan, plan_of, slot_at, slot_patches, split_at, split_patches, three_plan}
use Rattle.page_plans.specs.Pages.{place_at}
use Rattle.page_plans.proofs.Nodes.{name_of}

-- ---- one of the patches is for the page
pub record HasPatch (id : PageId) (ps : List Patch) : Type 0 where
  pub is : list_any (λ (p : Patch). same_page p.page id) ps ≡ true

same_self : (id : PageId) → same_page id id ≡ true
same_self id = and_from (id.set == id.set) (id.number == id.number) (eq-eqb id.set id.set refl) (eq-eqb id.number id.number refl)

or_left : (a b : Bool) → a ≡ true → (a || b) ≡ true
or_left true b e = refl
or_left false b e = absurd (cc e)

or_right : (a b : Bool) → b ≡ true → (a || b) ≡ true
or_right true b e = refl
or_right false b e = e

here : (p : Patch) (ps : List Patch) (id : PageId) → p.page ≡ id → HasPatch id (p ∷ ps)
here p ps id e = record { is = or_left (same_page p.page id) (list_any (λ (q : Patch). same_page q.page id) ps) (subst (λ z. same_page p.page z ≡ true) e (same_self p.page)) }

later : (p : Patch) (ps : List Patch) (id : PageId) → HasPatch id ps → HasPatch id (p ∷ ps)
later p ps id h = record { is = or_right (same_page p.page id) (list_any (λ (q : Patch). same_page q.page id) ps) h.is }

in_front : (ps qs : List Patch) (id : PageId) → HasPatch id ps → HasPatch id (ps ++ qs)
in_front ps qs id h = record {
  is = list_any-append (λ (p : Patch). same_page p.page id) ps qs
      ∙ or_left (list_any (λ (p : Patch). same_page p.page id) ps) (list_any (λ (p : Patch). same_page p.page id) qs) h.is;
}

behind : (ps qs : List Patch) (id : PageId) → HasPatch id qs → HasPatch id (ps ++ qs)
behind ps qs id h = record {
  is = list_any-append (λ (p : Patch). same_page p.page id) ps qs
      ∙ or_right (list_any (λ (p : Patch). same_page p.page id) ps) (list_any (λ (p : Patch). same_page p.page id) qs) h.is;
}

for_page : (q id : PageId) (ps : List Patch) → Some q ≡ Some id → HasPatch q ps → HasPatch id ps
for_page q id ps e h = subst (λ z. HasPatch z ps) (same_Some q id e) h

-- ---- so is one for each page of the action
pub record Covers (a : Action) (o : Option Place) (ps : List Patch) : Type 0 where
  pub zeroth : (id : PageId) → action_page a 0 o ≡ Some id → HasPatch id ps
  pub first : (id : PageId) → action_page a 1 o ≡ Some id → HasPatch id ps
  pub second : (id : PageId) → action_page a 2 o ≡ Some id → HasPatch id ps

-- ---- plans that were made
made : (b : Bool) (qs ps : List Patch) → (if b then Some qs else None) ≡ Some ps → (b ≡ true) × (qs ≡ ps)
made true qs ps e = (refl, same_Some qs ps e)
made false qs ps e = absurd (none-some ps e)

-- ---- names
drawn_sound : (o : Option ℕ) (l : Look) → draws (unless_fault o l) ≡ true → o ≡ None
drawn_sound None l e = refl
drawn_sound (Some at) l e = absurd (cc e)

gone_sound : (o : Option ℕ) (l : Look) → goes_on (unless_fault o l) ≡ true → o ≡ None
gone_sound None l e = refl
gone_sound (Some at) l e = absurd (cc e)

placed_sound : (o : Option ℕ) (l : Look) (place : Place) → place_in (unless_fault o l) ≡ Some place → o ≡ None
placed_sound None l place e = refl
placed_sound (Some at) l place e = absurd (none-some place e)

first_sound : (o other : Option ℕ) → or_fault o other ≡ None → o ≡ None
first_sound None other e = refl
first_sound (Some at) other e = e

leaf_named : (table key leaf : ℕ) (page : List ℕ) → draws (leaf_look table key leaf page) ≡ true → id_of page ≡ index_page table leaf
leaf_named table key leaf page e = name_of page (index_page table leaf) kind.Leaf (omega arith) (first_sound _ _ (drawn_sound _ _ e))

branch_named : (table branch low child : ℕ) (page : List ℕ) → draws (branch_look table branch low child page) ≡ true → id_of page ≡ index_page table branch
branch_named table branch low child page e = name_of page (index_page table branch) kind.Branch (omega arith) (first_sound _ _ (drawn_sound _ _ e))

node_named : (page : List ℕ) (id : PageId) (o : Option ℕ) → page_fault kind.Leaf id page ≡ o → unless_one o (page_fault kind.Branch id page) ≡ None → id_of page ≡ id
node_named page id None is e = name_of page id kind.Leaf (omega arith) is
node_named page id (Some at) is e = name_of page id kind.Branch (omega arith) e

full_named : (table left : ℕ) (next : Place) (page : List ℕ) → goes_on (full_page_look table left (Some next) page) ≡ true → id_of page ≡ index_page table left
full_named table left next page e = node_named page (index_page table left) (page_fault kind.Leaf (index_page table left) page) refl (gone_sound _ _ e)

header_named : (table left : ℕ) (page : List ℕ) (place : Place) → place_in (index_header_look table left page) ≡ Some place → id_of page ≡ index_page table 0
header_named table left page place e = name_of page (index_page table 0) kind.IndexHeader (omega arith) (placed_sound _ _ place e)

-- ---- formats
index_covers : (table : ℕ) (o : Option Place) → Covers (action.FormatIndex table) o (index.format_patches table)
index_covers table o = record {
  zeroth = λ id e. for_page (index_page table 0) id (index.format_patches table) e (here _ _ (index_page table 0) refl);
  first = λ id e. for_page (index_page table 1) id (index.format_patches table) e (later _ _ (index_page table 1) (later _ _ (index_page table 1) (here _ _ (index_page table 1) refl)));
  second = λ id e. for_page (index_page table 2) id (index.format_patches table) e
      (later _ _ (index_page table 2) (later _ _ (index_page table 2) (later _ _ (index_page table 2) (later _ _ (index_page table 2) (later _ _ (index_page table 2) (here _ _ (index_page table 2) refl))))));
}

heap_has : (table : ℕ) → HasPatch (heap_page table 0) (heap.format_patches table)
unfolding heap.format_patches
heap_has table = here _ _ (heap_page table 0) refl

heap_covers : (table : ℕ) (o : Option Place) → Covers (action.FormatHeap table) o (heap.format_patches table)
heap_covers table o = record {
  zeroth = λ id e. for_page (heap_page table 0) id (heap.format_patches table) e (heap_has table);
  first = λ id e. absurd (none-some id e);
  second = λ id e. absurd (none-some id e);
}

-- ---- entries
insert_has : (page : List ℕ) (e : _) (id : PageId) → id_of page ≡ id → HasPatch id (insert_patches page e)
insert_has page e id is = here _ _ id is

given_header : (table : ℕ) (place : Place) (key : ℕ) → HasPatch (heap_page table 0) (give_patches table place key)
unfolding give_patches
given_header table place key = here _ _ (heap_page table 0) refl

given_rows : (table : ℕ) (place : Place) (key : ℕ) → HasPatch (heap_page table place.page) (give_patches table place key)
unfolding give_patches
given_rows table place key =
    let id = heap_page table place.page in
    let last : List Patch = heap.count_patch table place ∷ heap.slot_patch table place key ∷ [] in
    later (heap.last_patch table place) (front_patches table place ++ last) id (behind (front_patches table place) last id (here _ _ id refl))

slot_covers : (table key leaf : ℕ) (o : Option Place) (b c : List ℕ) (ps : List Patch) → slot_at table key leaf o b c ≡ Some ps → Covers (action.GiveSlot table key leaf) o ps
slot_covers table key leaf None b c ps e = absurd (none-some ps e)
slot_covers table key leaf (Some place) b c ps e =
    let it = made _ (slot_patches table key place c) ps e in
    let given = give_patches table place key in
    let entered = insert_patches c (entry_of key place) in
    let name : id_of c ≡ index_page table leaf = leaf_named table key leaf c (and_parts _ _ it.0).1 in
    subst (λ (qs : List Patch). Covers (action.GiveSlot table key leaf) (Some place) qs) it.1
    (record {
      zeroth = λ id e. for_page (heap_page table 0) id (given ++ entered) e (in_front given entered (heap_page table 0) (given_header table place key));
      first = λ id e. for_page (heap_page table place.page) id (given ++ entered) e (in_front given entered (heap_page table place.page) (given_rows table place key));
      second = λ id e. for_page (index_page table leaf) id (given ++ entered) e (behind given entered (index_page table leaf) (insert_has c (entry_of key place) (index_page table leaf) name));
    })

-- ---- a split
split_covers : (table left : ℕ) (o : Option Place) (x y z : List ℕ) (ps : List Patch) → place_in (index_header_look table left x) ≡ o → split_at table left o x y z ≡ Some ps → Covers (action.Split table left) o ps
split_covers table left None x y z ps from e = absurd (none-some ps e)
split_covers table left (Some next) x y z ps from e =
    let it = made _ (split_patches x y next.page) ps e in
    let top : id_of x ≡ index_page table 0 = header_named table left x next from in
    let name : id_of y ≡ index_page table left = full_named table left next y (and_parts _ _ it.0).0 in
    let new : right_id y next.page ≡ index_page table next.page = ap (λ (i : PageId). let j : PageId = record { set = i.set; number = next.page } in j) name in
    let front = left_patches y next.page in
    let back = right_patches y next.page in
    subst (λ (qs : List Patch). Covers (action.Split table left) (Some next) qs) it.1
    (record {
      zeroth = λ id e. for_page (index_page table 0) id (split_patches x y next.page) e (here _ _ (index_page table 0) top);
      first = λ id e. for_page (index_page table left) id (split_patches x y next.page) e (later _ (front ++ back) (index_page table left) (in_front front back (index_page table left) (here _ _ (index_page table left) name)));
      second = λ id e. for_page (index_page table next.page) id (split_patches x y next.page) e (later _ (front ++ back) (index_page table next.page) (behind front back (index_page table next.page) (here _ _ (index_page table next.page) new)));
    })

branch_covers : (table branch low child : ℕ) (o : Option Place) (page : List ℕ) (ps : List Patch) → branch_plan table branch low child page ≡ Some ps → Covers (action.BranchEntry table branch low child) o ps
branch_covers table branch low child o page ps e =
    let entered = insert_patches page (entry_of low (split_off child)) in
    let it = made _ entered ps e in
    let name : id_of page ≡ index_page table branch = branch_named table branch low child page it.0 in
    subst (λ (qs : List Patch). Covers (action.BranchEntry table branch low child) o qs) it.1
    (record {
      zeroth = λ id e. for_page (index_page table branch) id entered e (insert_has page (entry_of low (split_off child)) (index_page table branch) name);
      first = λ id e. absurd (none-some id e);
      second = λ id e. absurd (none-some id e);
    })

-- ---- all actions
one_covers : (a : Action) (limit : ℕ) (x : List ℕ) (ps : List Patch) → one_plan a x ≡ Some ps → Covers a (place_in (look_of a limit 0 None x)) ps
one_covers (action.FormatIndex table) limit x ps e = absurd (none-some ps e)
one_covers (action.FormatHeap table) limit x ps e =
    let o = place_in (look_of (action.FormatHeap table) limit 0 None x) in
    subst (λ (qs : List Patch). Covers (action.FormatHeap table) o qs) (made _ (heap.format_patches table) ps e).1 (heap_covers table o)
one_covers (action.GiveSlot table key leaf) limit x ps e = absurd (none-some ps e)
one_covers (action.Split table left) limit x ps e = absurd (none-some ps e)
one_covers (action.BranchEntry table branch low child) limit x ps e = branch_covers table branch low child (place_in (look_of (action.BranchEntry table branch low child) limit 0 None x)) x ps e
one_covers (action.RowChange table key at after) limit x ps e = absurd (none-some ps e)

three_covers : (a : Action) (limit : ℕ) (x y z : List ℕ) (ps : List Patch) → three_plan a limit x y z ≡ Some ps → Covers a (place_in (look_of a limit 0 None x)) ps
three_covers (action.FormatIndex table) limit x y z ps e =
    let o = place_in (look_of (action.FormatIndex table) limit 0 None x) in
    subst (λ (qs : List Patch). Covers (action.FormatIndex table) o qs) (made _ (index.format_patches table) ps e).1 (index_covers table o)
three_covers (action.FormatHeap table) limit x y z ps e = absurd (none-some ps e)
three_covers (action.GiveSlot table key leaf) limit x y z ps e = slot_covers table key leaf (place_in (header_look table limit x)) y z ps e
three_covers (action.Split table left) limit x y z ps e = split_covers table left (place_in (index_header_look table left x)) x y z ps refl e
three_covers (action.BranchEntry table branch low child) limit x y z ps e = absurd (none-some ps e)
three_covers (action.RowChange table key at after) limit x y z ps e = absurd (none-some ps e)

pub plan_covers : (a : Action) (limit : ℕ) (x y z : Option (List ℕ)) (ps : List Patch) → plan_of a limit x y z ≡ Some ps → Covers a (place_at a limit x) ps
plan_covers a limit None y z ps e = absurd (none-some ps e)
plan_covers a limit (Some x) None None ps e = one_covers a limit x ps e
plan_covers a limit (Some x) None (Some z) ps e = absurd (none-some ps e)
plan_covers a limit (Some x) (Some y) None ps e = absurd (none-some ps e)
plan_covers a limit (Some x) (Some y) (Some z) ps e = three_covers a limit x y z ps e
