-- What a node answers after an insertion.
use Rattle.std.proofs.Common.{◌≡◌, ℕ, suc, ◌+◌, ◌-◌, ◌*◌, ◌<◌, ◌≤◌, ◌⊎◌, refl, sym, ap, ◌∙◌, subst, inl, inr, arith, Bool, true, false, List, [], ◌∷◌, ◌++◌, length, get_or, Option, Some, None, if◌then◌else◌}
use Rattle.std.proofs.lemmas.Bool.{eqb-true, eqb-false, ne_eqb}
use Rattle.std.proofs.lemmas.List.{length-append}
use Rattle.std.proofs.lemmas.List.Edits.{length-between}
use Rattle.std.specs.Prelude.{leb, ◌==◌, ◌&&◌, slice_range, Contains}
use Rattle.page_format.specs.Fields.{patched, set_lrsn}
use Rattle.index_leaf.specs.declared.layout.Entry.{Entry}
use Rattle.index_leaf.specs.declared.step.Look.TheVariants.{Down, Found}
use Rattle.index_leaf.specs.Entries.{count_of, low_of, high_of, right_field, entries_of, IsRising}
use Rattle.index_leaf.specs.Search.{is_branch, is_beyond, floor, find, down_to, how_many, look_of}
use Rattle.index_leaf.specs.Changes.{spelt, entry_bytes, moved_patch, insert_patches, all_patched, entered, id_of, count_patch}
use Rattle.index_leaf.specs.Nodes.{IsNode, ReadsAs, CanTake, HasTaken, AllLieInPage, all_stamped, none_within}
use Rattle.index_leaf.proofs.Places.{length_entries, page_end}
use Rattle.index_leaf.proofs.Writes.{length_patched, byte_before, byte_behind, length_spelt, length_entry}
use Rattle.index_leaf.proofs.Enlarged.{placed, enters}
use Rattle.index_leaf.proofs.Stamps.{low_same, high_same, right_same, length_stamp, stamp_reads, stamped_once}
use Rattle.index_leaf.proofs.Steps.{by_parts}
use Rattle.index_leaf.proofs.Larger.{find_here, find_other, rising_entered, floor_entered, length_entered, contains_entered}

-- ---- the same fields give the same answers

pub reads_look : (page new : List ℕ) (key : ℕ) → ReadsAs page new → look_of new key ≡ look_of page key
reads_look page new key h =
    ap (λ (kind : ℕ). by_parts (is_beyond (high_of new) key) (kind == 4) (right_field new) (floor (entries_of new) key) (find (entries_of new) key)) h.kind
    ∙ ap (λ (es : List Entry). by_parts (is_beyond (high_of new) key) (is_branch page) (right_field new) (floor es key) (find es key)) h.entries
    ∙ ap (λ (high : Option ℕ). by_parts (is_beyond high key) (is_branch page) (right_field new) (floor (entries_of page) key) (find (entries_of page) key)) h.high_key
    ∙ ap (λ (right : ℕ). by_parts (is_beyond (high_of page) key) (is_branch page) right (floor (entries_of page) key) (find (entries_of page) key)) h.right_page

pub count_is : (page : List ℕ) → count_of page ≡ length (entries_of page)
count_is page = sym (length_entries page 64 (count_of page))

pub reads_node : (page new : List ℕ) → length new ≡ 4096 → ReadsAs page new → IsNode page → IsNode new
reads_node page new l h n =
    let count : count_of new ≡ count_of page = count_is new ∙ ap length h.entries ∙ sym (count_is page) in
    let room = n.room in
    record {
      whole = l;
      room = omega (arith, count, room);
      rising = subst IsRising (sym h.entries) n.rising;
      from_low = λ e c. subst (λ (b : ℕ). b ≤ e.key) (sym h.low_key) (n.from_low e (subst (λ (es : List Entry). Contains es e) h.entries c));
      below_high = λ e c. subst (λ (o : Option ℕ). is_beyond o e.key ≡ false) (sym h.high_key) (n.below_high e (subst (λ (es : List Entry). Contains es e) h.entries c));
    }

-- ---- the fields after an insertion

counted_length : (page : List ℕ) (n : ℕ) → length page ≡ 4096 → length (patched page 26 (spelt 2 (n + 1))) ≡ 4096
counted_length page n l = let c = length_spelt 2 (n + 1) in length_patched page (spelt 2 (n + 1)) 26 (omega (arith, c, l)) ∙ l

moved_length : (page : List ℕ) (e : Entry) (p n : ℕ) → length page ≡ 4096 → p ≤ n → n < 252 → length (entry_bytes e ++ slice_range page (64 + 16 * p) (64 + 16 * n)) ≡ 16 + 16 * (n - p)
moved_length page e p n l le lt =
    let le_entry = length_entry e in
    let lr = length-between page (64 + 16 * p) (64 + 16 * n) (omega arith) in
    let la = length-append (entry_bytes e) (slice_range page (64 + 16 * p) (64 + 16 * n)) in
    omega (arith, le_entry, lr, la)

placed_length : (page : List ℕ) (e : Entry) (p n : ℕ) → length page ≡ 4096 → p ≤ n → n < 252 → length (placed page e p n) ≡ 4096
placed_length page e p n l le lt =
    let c = counted_length page n l in
    let m = moved_length page e p n l le lt in
    length_patched (patched page 26 (spelt 2 (n + 1))) (entry_bytes e ++ slice_range page (64 + 16 * p) (64 + 16 * n)) (64 + 16 * p) (omega (arith, c, m)) ∙ c

placed_byte : (page : List ℕ) (e : Entry) (p n k : ℕ) → length page ≡ 4096 → p ≤ n → n < 252 → k < 64 → (k < 26) ⊎ (28 ≤ k) → get_or (placed page e p n) k 0 ≡ get_or page k 0
placed_byte page e p n k l le lt head (inl front) =
    let c = counted_length page n l in
    byte_before (patched page 26 (spelt 2 (n + 1))) (entry_bytes e ++ slice_range page (64 + 16 * p) (64 + 16 * n)) (64 + 16 * p) k (omega (arith, c)) (omega arith)
    ∙ byte_before page (spelt 2 (n + 1)) 26 k (omega arith) front
placed_byte page e p n k l le lt head (inr past) =
    let c = counted_length page n l in
    let w = length_spelt 2 (n + 1) in
    byte_before (patched page 26 (spelt 2 (n + 1))) (entry_bytes e ++ slice_range page (64 + 16 * p) (64 + 16 * n)) (64 + 16 * p) k (omega (arith, c)) (omega arith)
    ∙ byte_behind page (spelt 2 (n + 1)) 26 k (omega arith) (omega (arith, w))

pub taken : (page : List ℕ) (e : Entry) → CanTake page e → HasTaken page (all_patched page (insert_patches page e)) e
unfolding moved_patch
taken page e h =
    let p = how_many (entries_of page) e.key in
    let n = count_of page in
    let l = h.whole in
    let lt = h.room in
    let up : p ≤ n = page_end page 64 n e.key in
    let count : n ≡ p + (n - p) = omega (arith, up) in
    record {
      whole = placed_length page e p n l up lt;
      kind = placed_byte page e p n 4 l up lt (omega arith) (inl (omega arith));
      entries = enters page e p (n - p) l refl count (omega (arith, up, lt)) h.key h.leads_to h.slot;
      low_key = low_same page (placed page e p n) (λ k le lt2. placed_byte page e p n k l up lt lt2 (inr le));
      high_key = high_same page (placed page e p n) (λ k le lt2. placed_byte page e p n k l up lt lt2 (inr le));
      right_page = right_same page (placed page e p n) (λ k le lt2. placed_byte page e p n k l up lt lt2 (inr le));
    }

pub taken_reads : (page new last : List ℕ) (e : Entry) → HasTaken page new e → length last ≡ 4096 → ReadsAs new last → HasTaken page last e
taken_reads page new last e h l r = record {
  whole = l;
  kind = r.kind ∙ h.kind;
  entries = r.entries ∙ h.entries;
  low_key = r.low_key ∙ h.low_key;
  high_key = r.high_key ∙ h.high_key;
  right_page = r.right_page ∙ h.right_page;
}

insert_clear : (page : List ℕ) (e : Entry) → CanTake page e → AllLieInPage (insert_patches page e)
unfolding moved_patch
insert_clear page e h =
    let p = how_many (entries_of page) e.key in
    let n = count_of page in
    let l = h.whole in
    let lt = h.room in
    let up : p ≤ n = page_end page 64 n e.key in
    let c = length_spelt 2 (n + 1) in
    let m = moved_length page e p n l up lt in
    (omega (arith, c), (omega (arith, m, up, lt), tt))

stamped_all : (page : List ℕ) (e : Entry) (lrsn : ℕ) → CanTake page e → all_stamped lrsn page (insert_patches page e) ≡ set_lrsn (all_patched page (insert_patches page e)) lrsn
stamped_all page e lrsn h =
    stamped_once lrsn page (count_patch (id_of page) (count_of page + 1)) (moved_patch page e (how_many (entries_of page) e.key) ∷ []) h.whole (insert_clear page e h)

pub taken_stamped : (page : List ℕ) (e : Entry) (lrsn : ℕ) → CanTake page e → HasTaken page (all_stamped lrsn page (insert_patches page e)) e
taken_stamped page e lrsn h =
    let t = taken page e h in
    let new = all_patched page (insert_patches page e) in
    subst (λ (last : List ℕ). HasTaken page last e) (sym (stamped_all page e lrsn h))
    (taken_reads page new (set_lrsn new lrsn) e t (length_stamp new lrsn t.whole) (stamp_reads new lrsn t.whole))

-- ---- the answers after an insertion

taken_look : (page new : List ℕ) (e : Entry) (key : ℕ) → HasTaken page new e
    → look_of new key ≡ by_parts (is_beyond (high_of page) key) (is_branch page) (right_field page) (floor (entered (entries_of page) e) key) (find (entered (entries_of page) e) key)
taken_look page new e key h =
    ap (λ (kind : ℕ). by_parts (is_beyond (high_of new) key) (kind == 4) (right_field new) (floor (entries_of new) key) (find (entries_of new) key)) h.kind
    ∙ ap (λ (es : List Entry). by_parts (is_beyond (high_of new) key) (is_branch page) (right_field new) (floor es key) (find es key)) h.entries
    ∙ ap (λ (high : Option ℕ). by_parts (is_beyond high key) (is_branch page) (right_field new) (floor (entered (entries_of page) e) key) (find (entered (entries_of page) e) key)) h.high_key
    ∙ ap (λ (right : ℕ). by_parts (is_beyond (high_of page) key) (is_branch page) right (floor (entered (entries_of page) e) key) (find (entered (entries_of page) e) key)) h.right_page

pub taken_right : (page new : List ℕ) (e : Entry) (key : ℕ) → HasTaken page new e → is_beyond (high_of page) key ≡ true → look_of new key ≡ look_of page key
taken_right page new e key h beyond = taken_look page new e key h ∙ rw beyond refl

leaf_answer : (page : List ℕ) (e : Entry) (key : ℕ) (b : Bool) → (key == e.key) ≡ b → is_branch page ≡ false → is_beyond (high_of page) e.key ≡ false → find (entries_of page) e.key ≡ None
    → by_parts (is_beyond (high_of page) key) (is_branch page) (right_field page) (floor (entered (entries_of page) e) key) (find (entered (entries_of page) e) key) ≡ (if b then Found e.place else look_of page key)
leaf_answer page e key true here leaf inside none =
    let same = eqb-true key e.key here in
    let found = find_here (entries_of page) e none in
    subst (λ (k : ℕ). by_parts (is_beyond (high_of page) k) (is_branch page) (right_field page) (floor (entered (entries_of page) e) k) (find (entered (entries_of page) e) k) ≡ Found e.place) (sym same)
    (rw (inside, leaf, found) refl)
leaf_answer page e key false here leaf inside none =
    let other : (e.key == key) ≡ false = ne_eqb e.key key (λ is. eqb-false key e.key here (sym is)) in
    let found = find_other (entries_of page) e key other in
    rw (leaf, found) refl

pub taken_leaf : (page new : List ℕ) (e : Entry) (key : ℕ) → HasTaken page new e → is_branch page ≡ false → is_beyond (high_of page) e.key ≡ false → find (entries_of page) e.key ≡ None
    → look_of new key ≡ (if key == e.key then Found e.place else look_of page key)
taken_leaf page new e key h leaf inside none = taken_look page new e key h ∙ leaf_answer page e key (key == e.key) refl leaf inside none

down_by : (e : Entry) (o : Option Entry) (b : Bool) → down_to (if b then Some e else o) ≡ (if b then Down e.place.page else down_to o)
down_by e o true = refl
down_by e o false = refl

pub taken_branch : (page new : List ℕ) (e : Entry) (key : ℕ) → HasTaken page new e → is_branch page ≡ true → IsRising (entries_of page) → is_beyond (high_of page) key ≡ false
    → look_of new key ≡ (if leb e.key key && none_within (entries_of page) e.key key then Down e.place.page else look_of page key)
taken_branch page new e key h branch s inside =
    let greatest = floor_entered (entries_of page) e key s in
    taken_look page new e key h
    ∙ rw (inside, branch, greatest) (down_by e (floor (entries_of page) key) (leb e.key key && none_within (entries_of page) e.key key))

pub taken_rising : (page new : List ℕ) (e : Entry) → HasTaken page new e → IsRising (entries_of page) → find (entries_of page) e.key ≡ None → IsRising (entries_of new)
taken_rising page new e h s none = subst IsRising (sym h.entries) (rising_entered (entries_of page) e s none)

pub taken_node : (page new : List ℕ) (e : Entry) → HasTaken page new e → IsNode page → count_of page < 252 → low_of page ≤ e.key → is_beyond (high_of page) e.key ≡ false → find (entries_of page) e.key ≡ None → IsNode new
taken_node page new e h n room low inside none =
    let count : count_of new ≡ suc (count_of page) = count_is new ∙ ap length h.entries ∙ length_entered (entries_of page) e ∙ ap suc (sym (count_is page)) in
    record {
      whole = h.whole;
      room = omega (arith, count, room);
      rising = taken_rising page new e h n.rising none;
      from_low = λ y c. subst (λ (b : ℕ). b ≤ y.key) (sym h.low_key)
          (elim (contains_entered (entries_of page) e y (subst (λ (es : List Entry). Contains es y) h.entries c)) as (λ _. low_of page ≤ y.key) [
            | inl old ↦ n.from_low y old
            | inr is ↦ subst (λ (z : Entry). low_of page ≤ z.key) is low
          ]);
      below_high = λ y c. subst (λ (o : Option ℕ). is_beyond o y.key ≡ false) (sym h.high_key)
          (elim (contains_entered (entries_of page) e y (subst (λ (es : List Entry). Contains es y) h.entries c)) as (λ _. is_beyond (high_of page) y.key ≡ false) [
            | inl old ↦ n.below_high y old
            | inr is ↦ subst (λ (z : Entry). is_beyond (high_of page) z.key ≡ false) is inside
          ]);
    }
