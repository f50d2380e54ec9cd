-- Pages that records make one after the other, and marks of those on disk.
use Rattle.std.proofs.Common.{◌≡◌, ℕ, ◌+◌, ◌<◌, ◌≤◌, Bool, true, false, cond, List, [], ◌∷◌, ◌++◌, length, get_or, take, Option, Some, None, inl, inr, refl, sym, ap, subst, ◌∙◌, arith, append_assoc, if◌then◌else◌}
use Rattle.std.specs.Prelude.{◌⊎◌, ◌↔◌, ◌==◌, ◌&&◌, ◌||◌, not, IsTrue, is_some}
use Rattle.std.specs.Str.{bytes_eq}
use Rattle.std.specs.List.{list_any}
use Rattle.std.specs.Map.{lookup}
use Rattle.std.specs.BTreeMap.{is_at}
use Rattle.std.specs.Ordering.{nat_cmp, is_eq, ordering_then}
use Rattle.std.specs.declared.cmp.Ordering.{Ordering}
use Rattle.std.specs.declared.cmp.Ordering.TheVariants.{Less, Equal, Greater}
use Rattle.std.proofs.lemmas.Bool.Decides.{nat_tests}
use Rattle.std.proofs.lemmas.List.{append-nil, take_all, take_more}
use Rattle.std.proofs.lemmas.List.Folds.{list_any-append}
use Rattle.std.proofs.lemmas.Slice.Eq.{bytes_eq-Decides}
use Rattle.ds_base.specs.Pages.{same_page}
use Rattle.ds_base.specs.declared.names.PageId.{PageId}
use Rattle.ds_model.specs.declared.log.LogRecord.{LogRecord}
use Rattle.page_format.specs.declared.patch.Patch.{Patch}
use Rattle.page_format.specs.Fields.{lrsn_of}
use Rattle.page_images.specs.Images.{Images, zeros}
use Rattle.page_chain.specs.Chains.{changes_of, touches, version_from, version_of, images_of, after_record, IsVersion, LeavesOthers}
use Rattle.page_redo.specs.Pages.{has_page, with_page, pages_from, pages_of}
use Rattle.page_records.specs.Pages.{page_cmp}
use Rattle.sound_disk.specs.Versions.{current}
use Rattle.redone_pages.specs.Redone.{Redone}
use Rattle.redone_pages.specs.Ranges.{HasPage}
use Rattle.disk_versions.specs.declared.met.Mark.{Mark}
use Rattle.disk_versions.specs.declared.met.MetPages.{MetPages}
use Rattle.disk_versions.specs.Met.{IsMarked, IsKnown, mark_of, AreMetOn, AreMet, HaveMarks, IsFresh, IsNextMark, MeetsAlso}
use Rattle.ds_disk.specs.Contents.{Contents, WhenTold, Becomes, Same}
use Rattle.ds_disk.specs.Pages.{page_at}
use Rattle.redone_pages.specs.declared.range.TableRange.{TableRange}
use Rattle.disk_versions.proofs.Reading.{told_before, told_by_both}
use Rattle.disk_versions.proofs.Pages.{decide}

abbrev Entries : Type 0
Entries = List (PageId × Mark)

-- what the map has at a page
abbrev held : Entries → PageId → Option Mark
held es q = lookup (is_at (page_cmp q)) es

abbrev pub IsPut : PageId → Mark → Entries → Entries → Type 0
IsPut id m before after = (q : PageId) → held after q ≡ cond (is_at (page_cmp id) q) (Some m) (held before q)

abbrev pub MetBy : Images → Redone → Entries → Type 0
MetBy at made es = (q : PageId) → HasPage made.range q → IsKnown q made.records made.records (at q) (held es q)

abbrev pub OnBy : Images → Redone → Entries → List LogRecord → List PageId → Type 0
OnBy at made es first pages = (q : PageId) → HasPage made.range q → IsKnown q (if has_page pages q then made.records else first) made.records (at q) (held es q)

abbrev pub MeetsBy : Images → Redone → List PageId → Entries → Entries → Type 0
MeetsBy at made ids es fs = (first : List LogRecord) (it : LogRecord) (pages : List PageId) → made.records ≡ first ++ it ∷ [] → OnBy at made es first pages → OnBy at made fs first (pages ++ ids)

abbrev HaveBy : Redone → List PageId → Entries → Entries → Type 0
HaveBy made pages es fs = ((q : PageId) → is_some (held es q) ≡ true → is_some (held fs q) ≡ true) × ((q : PageId) → HasPage made.range q → has_page pages q ≡ true → is_some (held fs q) ≡ true)

-- ---- the names of pages

tie : (m n : ℕ) → is_eq (nat_cmp m n) ≡ (m == n)
tie m n = grind (arith, nat_tests)

tie_then : (r s : Ordering) → is_eq (ordering_then r s) ≡ (is_eq r && is_eq s)
tie_then Less s = refl
tie_then Equal s = refl
tie_then Greater s = refl

named : (a b : PageId) → is_at (page_cmp a) b ≡ same_page a b
named a b =
    tie_then (nat_cmp a.set b.set) (nat_cmp a.number b.number)
    ∙ ap (λ (x : Bool). x && is_eq (nat_cmp a.number b.number)) (tie a.set b.set)
    ∙ ap (λ (x : Bool). (a.set == b.set) && x) (tie a.number b.number)

same_name : (a b : PageId) → same_page a b ≡ true → a ≡ b
same_name a b h =
    let p : a.set ≡ b.set = grind arith in
    let q : a.number ≡ b.number = grind arith in
    λ i. record { set = p i; number = q i }

-- ---- tests

or_left : (a b : Bool) → (a || b) ≡ false → a ≡ false
or_left true b h = absurd cc
or_left false b h = refl

or_right : (a b : Bool) → (a || b) ≡ false → b ≡ false
or_right true b h = absurd cc
or_right false b h = h

or_none : (a : Bool) → (a || false) ≡ a
or_none true = refl
or_none false = refl

or_more : (a b c : Bool) → ((a || b) || c) ≡ (a || (b || c))
or_more true b c = refl
or_more false b c = refl

or_either : (a b : Bool) → (a || b) ≡ true → (a ≡ true) ⊎ (b ≡ true)
or_either true b h = inl refl
or_either false b h = inr h

or_first : (a b : Bool) → a ≡ true → (a || b) ≡ true
or_first true b h = refl
or_first false b h = absurd cc

or_second : (a b : Bool) → b ≡ true → (a || b) ≡ true
or_second true b h = refl
or_second false b h = h

-- ---- the pages that a record changes

has_more : (ps : List PageId) (id q : PageId) → has_page (ps ++ id ∷ []) q ≡ (has_page ps q || same_page id q)
has_more ps id q = list_any-append (λ (p : PageId). same_page p q) ps (id ∷ []) ∙ ap (λ (b : Bool). has_page ps q || b) (or_none (same_page id q))

with_if : (ps : List PageId) (id q : PageId) (b : Bool) → has_page ps id ≡ b → has_page (if b then ps else ps ++ id ∷ []) q ≡ (has_page ps q || same_page id q)
with_if ps id q true h =
    decide (same_page id q) (has_page ps q ≡ (has_page ps q || same_page id q))
    (λ e. let there : has_page ps q ≡ true = subst (λ (i : PageId). has_page ps i ≡ true) (same_name id q e) h in there ∙ sym (or_first (has_page ps q) (same_page id q) there))
    (λ e. sym (or_none (has_page ps q)) ∙ ap (λ (b : Bool). has_page ps q || b) (sym e))
with_if ps id q false h = has_more ps id q

pages_have : (q : PageId) (ps : List PageId) (patches : List Patch) → has_page (pages_from ps patches) q ≡ (has_page ps q || list_any (λ (p : Patch). same_page p.page q) patches)
pages_have q ps [] = sym (or_none (has_page ps q))
pages_have q ps (p ∷ patches) =
    pages_have q (with_page ps p.page) patches
    ∙ ap (λ (b : Bool). b || list_any (λ (x : Patch). same_page x.page q) patches) (with_if ps p.page q (has_page ps p.page) refl)
    ∙ or_more (has_page ps q) (same_page p.page q) (list_any (λ (x : Patch). same_page x.page q) patches)

touched : (q : PageId) (it : LogRecord) → has_page (pages_of it) q ≡ touches q it
touched q it = pages_have q [] (changes_of it.body)

-- ---- versions of a page

front_or_all : (rs first rest : List LogRecord) (it : LogRecord) → rs ++ it ∷ [] ≡ first ++ rest → (first ≡ rs ++ it ∷ []) ⊎ ((more : List LogRecord) × (rs ≡ first ++ more))
front_or_all rs [] rest it e = inr (rs, refl)
front_or_all [] (x ∷ []) rest it e = inl (cc)
front_or_all [] (x ∷ y ∷ first) rest it e = absurd cc
front_or_all (r ∷ rs) (x ∷ first) rest it e =
    let head : r ≡ x = cc in
    let tail : rs ++ it ∷ [] ≡ first ++ rest = cc in
    elim (front_or_all rs first rest it tail) [
      | inl is ↦ (inl (cc (head, is)))
      | inr is ↦ (inr (is.0, cc (head, is.1)))
    ]

more_is : (id : PageId) (rs : List LogRecord) (it : LogRecord) (page : List ℕ) → IsVersion id rs page → IsVersion id (rs ++ it ∷ []) page
more_is id rs it page v = record {
  first = v.first;
  rest = v.rest ++ it ∷ [];
  whole = ap (λ (l : List LogRecord). l ++ it ∷ []) v.whole ∙ append_assoc v.first v.rest (it ∷ []);
  bytes = v.bytes;
}

last_or : (id : PageId) (rs : List LogRecord) (it : LogRecord) (page : List ℕ) → IsVersion id (rs ++ it ∷ []) page → IsVersion id rs page ⊎ (page ≡ version_of id (rs ++ it ∷ []))
last_or id rs it page v = elim (front_or_all rs v.first v.rest it v.whole) [
  | inl is ↦ (inr (v.bytes ∙ ap (version_of id) is))
  | inr is ↦ (inl (record { first = v.first; rest = is.0; whole = is.1; bytes = v.bytes }))
]

all_is : (id : PageId) (rs : List LogRecord) (page : List ℕ) → page ≡ version_of id rs → IsVersion id rs page
all_is id rs page e = record { first = rs; rest = []; whole = sym (append-nil rs); bytes = e }

untouched : LeavesOthers → (id : PageId) (page : List ℕ) (rs : List LogRecord) → list_any (touches id) rs ≡ false → version_from id page rs ≡ page
untouched law id page [] h = refl
untouched law id page (r ∷ rs) h =
    ap (λ (p : List ℕ). version_from id p rs) (law r id page (or_left (touches id r) (list_any (touches id) rs) h))
    ∙ untouched law id page rs (or_right (touches id r) (list_any (touches id) rs) h)

pub zeros_of : LeavesOthers → (id : PageId) (rs : List LogRecord) (page : List ℕ) → list_any (touches id) rs ≡ false → IsVersion id rs page → page ≡ zeros
zeros_of law id rs page none v =
    v.bytes
    ∙ untouched law id zeros v.first
    (or_left (list_any (touches id) v.first) (list_any (touches id) v.rest) (sym (list_any-append (touches id) v.first v.rest) ∙ ap (list_any (touches id)) (sym v.whole) ∙ none))

pub zeros_are : (id : PageId) (rs : List LogRecord) (page : List ℕ) → page ≡ zeros → IsVersion id rs page
zeros_are id rs page e = record { first = []; rest = rs; whole = refl; bytes = e }

version_push : (id : PageId) (page : List ℕ) (rs : List LogRecord) (r : LogRecord) → version_from id page (rs ++ r ∷ []) ≡ after_record id (version_from id page rs) r
version_push id page [] r = refl
version_push id page (x ∷ rs) r = version_push id (after_record id page x) rs r

fewer_is : LeavesOthers → (id : PageId) (rs : List LogRecord) (it : LogRecord) (page : List ℕ) → touches id it ≡ false → IsVersion id (rs ++ it ∷ []) page → IsVersion id rs page
fewer_is law id rs it page none v = elim (last_or id rs it page v) [
  | inl is ↦ is
  | inr is ↦ (all_is id rs page (is ∙ version_push id zeros rs it ∙ law it id (version_of id rs) none))
]

-- ---- a mark that is new

fresh_is : LeavesOthers → (id : PageId) (rs : List LogRecord) (page : List ℕ) (m : Mark) → list_any (touches id) rs ≡ false → IsFresh page m → IsMarked id rs rs page m
fresh_is law id rs page m none fresh = record {
  number = fresh.number;
  before = λ v. fresh.met.1 (zeros_of law id rs (current page) none v);
  behind = λ t. zeros_are id rs (current page) (fresh.met.0 t);
}

there : (es fs : Entries) (id q : PageId) (m : Mark) → IsPut id m es fs → same_page id q ≡ true → held fs q ≡ Some m
there es fs id q m put e = put q ∙ ap (λ (b : Bool). cond b (Some m) (held es q)) (named id q ∙ e)

elsewhere : (es fs : Entries) (id q : PageId) (m : Mark) → IsPut id m es fs → same_page id q ≡ false → held fs q ≡ held es q
elsewhere es fs id q m put e = put q ∙ ap (λ (b : Bool). cond b (Some m) (held es q)) (named id q ∙ e)

pub put_met : LeavesOthers → (at : Images) (made : Redone) (es fs : Entries) (id : PageId) (m : Mark) → IsPut id m es fs → held es id ≡ None → IsFresh (at id) m → MetBy at made es → MetBy at made fs
put_met law at made es fs id m put none fresh met = λ q has.
    decide (same_page id q) (IsKnown q made.records made.records (at q) (held fs q))
    (λ e.
    let name : id ≡ q = same_name id q e in
    subst (λ (o : Option Mark). IsKnown q made.records made.records (at q) o) (sym (there es fs id q m put e))
    (fresh_is law q made.records (at q) m (subst (λ (o : Option Mark). IsKnown q made.records made.records (at q) o) (ap (held es) (sym name) ∙ none) (met q has))
    (subst (λ (i : PageId). IsFresh (at i) m) name fresh)))
    (λ e. subst (λ (o : Option Mark). IsKnown q made.records made.records (at q) o) (sym (elsewhere es fs id q m put e)) (met q has))

some_there : (o : Option Mark) (m : Mark) → o ≡ Some m → is_some o ≡ true
some_there o m e = ap is_some e

pub put_marks : (made : Redone) (es fs : Entries) (id : PageId) (m : Mark) → IsPut id m es fs → HaveBy made (id ∷ []) es fs
put_marks made es fs id m put = (
  (λ q is. decide (same_page id q) (is_some (held fs q) ≡ true) (λ e. some_there (held fs q) m (there es fs id q m put e)) (λ e. ap is_some (elsewhere es fs id q m put e) ∙ is)),
  (λ q has here. some_there (held fs q) m (there es fs id q m put (sym (or_none (same_page id q)) ∙ here))),
)

-- a page that has one already, and a page of another table
pub marks_stay : (made : Redone) (es : Entries) (id : PageId) → (HasPage made.range id → is_some (held es id) ≡ true) → HaveBy made (id ∷ []) es es
marks_stay made es id some = (
  (λ q is. is),
  (λ q has here.
      let name : id ≡ q = same_name id q (sym (or_none (same_page id q)) ∙ here) in
      subst (λ (i : PageId). is_some (held es i) ≡ true) name (some (subst (λ (i : PageId). HasPage made.range i) (sym name) has))),
)

pub no_marks : (made : Redone) (es : Entries) → HaveBy made [] es es
no_marks made es = ((λ q is. is), (λ q has here. absurd cc))

pub more_marks : (made : Redone) (pages : List PageId) (id : PageId) (es fs gs : Entries) → HaveBy made pages es fs → HaveBy made (id ∷ []) fs gs → HaveBy made (pages ++ id ∷ []) es gs
more_marks made pages id es fs gs h k = (
  (λ q is. k.0 q (h.0 q is)),
  (λ q has here. elim (or_either (has_page pages q) (same_page id q) (sym (has_more pages id q) ∙ here)) [
    | inl e ↦ (k.0 q (h.1 q has e))
    | inr e ↦ (k.1 q has (or_first (same_page id q) false e))
  ]),
)

-- ---- one record more

abbrev KnownAs : PageId → List LogRecord → List LogRecord → List ℕ → Option Mark → Type 0
KnownAs q first records page o = IsKnown q first records page o

start_of : (q : PageId) (records : List LogRecord) (it : LogRecord) (page : List ℕ) (o : Option Mark) → (touches q it ≡ true → is_some o ≡ true) → IsKnown q records records page o → IsKnown q records (records ++ it ∷ []) page o
start_of q records it page None some known =
    list_any-append (touches q) records (it ∷ [])
    ∙ ap (λ (b : Bool). b || (touches q it || false)) known
    ∙ or_none (touches q it)
    ∙ decide (touches q it) (touches q it ≡ false) (λ e. absurd (cc (some e))) (λ e. e)
start_of q records it page (Some m) some known = record {
  number = known.number;
  before = known.before;
  behind = λ t. more_is q records it (current page) (known.behind t);
}

pub starts : (at : Images) (made : Redone) (next : Redone) (it : LogRecord) (es : Entries) → next.range ≡ made.range → next.records ≡ made.records ++ it ∷ [] → ((q : PageId) → HasPage made.range q → has_page (pages_of it) q ≡ true → is_some (held es q) ≡ true)
    → MetBy at made es → OnBy at next es made.records []
starts at made next it es range records marks met = λ q has.
    let in_range : HasPage made.range q = subst (λ r. HasPage r q) range has in
    subst (λ (rs : List LogRecord). IsKnown q made.records rs (at q) (held es q)) (sym records)
    (start_of q made.records it (at q) (held es q) (λ e. marks q in_range (touched q it ∙ e)) (met q in_range))

-- ---- a page that is met

weaker : (q : PageId) (first records : List LogRecord) (it : LogRecord) (page : List ℕ) (m : Mark) (b : Bool) → records ≡ first ++ it ∷ [] → IsMarked q (if b then records else first) records page m → IsMarked q first records page m
weaker q first records it page m true whole is = record {
  number = is.number;
  before = λ v. is.before (subst (λ (rs : List LogRecord). IsVersion q rs (current page)) (sym whole) (more_is q first it (current page) v));
  behind = is.behind;
}
weaker q first records it page m false whole is = is

met_before : (q : PageId) (first records : List LogRecord) (it : LogRecord) (page : List ℕ) (m : Mark) (b : Bool) → records ≡ first ++ it ∷ [] → IsMarked q first records page m → b ≡ (m.is_met || bytes_eq (version_of q records) (current page)) → IsVersion q records (current page) → b ≡ true
met_before q first records it page m b whole is now v = elim (last_or q first it (current page) (subst (λ (rs : List LogRecord). IsVersion q rs (current page)) whole v)) [
  | inl is_first ↦ (now ∙ or_first m.is_met (bytes_eq (version_of q records) (current page)) (is.before is_first))
  | inr is_last ↦ (now ∙ or_second m.is_met (bytes_eq (version_of q records) (current page)) ((bytes_eq-Decides (version_of q records) (current page)).1 (ap (version_of q) whole ∙ sym is_last)))
]

met_behind : (q : PageId) (first records : List LogRecord) (page : List ℕ) (m : Mark) (b : Bool) → IsMarked q first records page m → b ≡ (m.is_met || bytes_eq (version_of q records) (current page)) → b ≡ true → IsVersion q records (current page)
met_behind q first records page m b is now t = elim (or_either m.is_met (bytes_eq (version_of q records) (current page)) (sym now ∙ t)) [
  | inl e ↦ (is.behind e)
  | inr e ↦ (all_is q records (current page) (sym ((bytes_eq-Decides (version_of q records) (current page)).0 e)))
]

met_now : (q : PageId) (first records : List LogRecord) (it : LogRecord) (page : List ℕ) (m next : Mark) → records ≡ first ++ it ∷ [] → IsMarked q first records page m → IsNextMark (version_of q records) page m next → IsMarked q records records page next
met_now q first records it page m next whole is now =
    let exact : next.is_met ≡ (m.is_met || bytes_eq (version_of q records) (current page)) = now.1 is.number in
    record {
      number = now.0 ∙ is.number;
      before = λ v. met_before q first records it page m next.is_met whole is exact v;
      behind = λ t. met_behind q first records page m next.is_met is exact t;
    }

-- behind one page more, another is as it was
other_page : (at : Images) (made : Redone) (first : List LogRecord) (pages : List PageId) (id q : PageId) (o p : Option Mark) → same_page id q ≡ false → p ≡ o → IsKnown q (if has_page pages q then made.records else first) made.records (at q) o
    → IsKnown q (if has_page (pages ++ id ∷ []) q then made.records else first) made.records (at q) p
other_page at made first pages id q o p e same known =
    let has : has_page (pages ++ id ∷ []) q ≡ has_page pages q = has_more pages id q ∙ ap (λ (b : Bool). has_page pages q || b) e ∙ or_none (has_page pages q) in
    subst (λ (b : Bool). IsKnown q (if b then made.records else first) made.records (at q) p) (sym has)
    (subst (λ (x : Option Mark). IsKnown q (if has_page pages q then made.records else first) made.records (at q) x) (sym same) known)

this_page : (at : Images) (made : Redone) (first : List LogRecord) (pages : List PageId) (id q : PageId) (p : Option Mark) → same_page id q ≡ true → IsKnown q made.records made.records (at q) p
    → IsKnown q (if has_page (pages ++ id ∷ []) q then made.records else first) made.records (at q) p
this_page at made first pages id q p e known =
    let has : has_page (pages ++ id ∷ []) q ≡ true = has_more pages id q ∙ or_second (has_page pages q) (same_page id q) e in
    subst (λ (b : Bool). IsKnown q (if b then made.records else first) made.records (at q) p) (sym has) known

pub meets_one : (at : Images) (made : Redone) (es fs : Entries) (id : PageId) (m next : Mark) → held es id ≡ Some m → IsPut id next es fs → IsNextMark (version_of id made.records) (at id) m next → MeetsBy at made (id ∷ []) es fs
meets_one at made es fs id m next has_mark put now = λ first it pages whole known q has.
    decide (same_page id q) (IsKnown q (if has_page (pages ++ id ∷ []) q then made.records else first) made.records (at q) (held fs q))
    (λ e.
    let name : id ≡ q = same_name id q e in
    let its : held es q ≡ Some m = ap (held es) (sym name) ∙ has_mark in
    let was : IsMarked q (if has_page pages q then made.records else first) made.records (at q) m =
    subst (λ (o : Option Mark). IsKnown q (if has_page pages q then made.records else first) made.records (at q) o) its (known q has) in
    this_page at made first pages id q (held fs q) e
    (subst (λ (o : Option Mark). IsKnown q made.records made.records (at q) o) (sym (there es fs id q next put e))
    (met_now q first made.records it (at q) m next whole (weaker q first made.records it (at q) m (has_page pages q) whole was)
    (subst (λ (i : PageId). IsNextMark (version_of i made.records) (at i) m next) name now))))
    (λ e. other_page at made first pages id q (held es q) (held fs q) e (elsewhere es fs id q next put e) (known q has))

-- a page without a mark, and one of another table
pub meets_none : (at : Images) (made : Redone) (es : Entries) (id : PageId) → (HasPage made.range id → held es id ≡ None) → MeetsBy at made (id ∷ []) es es
meets_none at made es id none = λ first it pages whole known q has.
    decide (same_page id q) (IsKnown q (if has_page (pages ++ id ∷ []) q then made.records else first) made.records (at q) (held es q))
    (λ e.
    let name : id ≡ q = same_name id q e in
    let its : held es q ≡ None = ap (held es) (sym name) ∙ none (subst (λ (i : PageId). HasPage made.range i) (sym name) has) in
    this_page at made first pages id q (held es q) e
    (subst (λ (o : Option Mark). IsKnown q made.records made.records (at q) o) (sym its)
    (subst (λ (o : Option Mark). IsKnown q (if has_page pages q then made.records else first) made.records (at q) o) its (known q has))))
    (λ e. other_page at made first pages id q (held es q) (held es q) e refl (known q has))

pub meets_nothing : (at : Images) (made : Redone) (es : Entries) → MeetsBy at made [] es es
meets_nothing at made es = λ first it pages whole known. subst (λ (ps : List PageId). OnBy at made es first ps) (sym (append-nil pages)) known

pub meets_more : (at : Images) (made : Redone) (ids : List PageId) (id : PageId) (es fs gs : Entries) → MeetsBy at made ids es fs → MeetsBy at made (id ∷ []) fs gs → MeetsBy at made (ids ++ id ∷ []) es gs
meets_more at made ids id es fs gs h k = λ first it pages whole known.
    subst (λ (ps : List PageId). OnBy at made gs first ps) (append_assoc pages ids (id ∷ [])) (k first it (pages ++ ids) whole (h first it pages whole known))

-- ---- all pages of a record

known_all : LeavesOthers → (q : PageId) (first : List LogRecord) (it : LogRecord) (records : List LogRecord) (page : List ℕ) (o : Option Mark) → records ≡ first ++ it ∷ [] → touches q it ≡ false → IsKnown q first records page o → IsKnown q records records page o
known_all law q first it records page None whole none known = known
known_all law q first it records page (Some m) whole none known = record {
  number = known.number;
  before = λ v. known.before (fewer_is law q first it (current page) none (subst (λ (rs : List LogRecord). IsVersion q rs (current page)) whole v));
  behind = known.behind;
}

pub ends : LeavesOthers → (at : Images) (made : Redone) (first : List LogRecord) (it : LogRecord) (es : Entries) → made.records ≡ first ++ it ∷ [] → OnBy at made es first (pages_of it) → MetBy at made es
ends law at made first it es whole known = λ q has.
    decide (has_page (pages_of it) q) (IsKnown q made.records made.records (at q) (held es q))
    (λ e. subst (λ (b : Bool). IsKnown q (if b then made.records else first) made.records (at q) (held es q)) e (known q has))
    (λ e.
    known_all law q first it made.records (at q) (held es q) whole (sym (touched q it) ∙ e)
    (subst (λ (b : Bool). IsKnown q (if b then made.records else first) made.records (at q) (held es q)) e (known q has)))

-- ---- in the words of what is held

pub fresh_met : LeavesOthers → (at : Images) (old new : MetPages) (id : PageId) (m : Mark) → new.made ≡ old.made → IsPut id m old.marks.entries new.marks.entries → mark_of old id ≡ None → IsFresh (at id) m → AreMet at old → AreMet at new
fresh_met law at old new id m same put none fresh met =
    subst (λ (made : Redone). MetBy at made new.marks.entries) (sym same) (put_met law at old.made old.marks.entries new.marks.entries id m put none fresh met)

pub marked_meets : (at : Images) (old new : MetPages) (id : PageId) (m next : Mark) → new.made ≡ old.made → mark_of old id ≡ Some m → IsPut id next old.marks.entries new.marks.entries → IsNextMark (images_of old.made.records id) (at id) m next → MeetsAlso at (id ∷ []) old new
marked_meets at old new id m next same is put now = λ first it pages whole known.
    subst (λ (made : Redone). OnBy at made new.marks.entries first (pages ++ id ∷ [])) (sym same)
    (meets_one at old.made old.marks.entries new.marks.entries id m next is put now first it pages whole known)

pub meets_both : (at : Images) (ids : List PageId) (id : PageId) (old now new : MetPages) → now.made ≡ old.made → MeetsAlso at ids old now → MeetsAlso at (id ∷ []) now new → MeetsAlso at (ids ++ id ∷ []) old new
meets_both at ids id old now new same h k = λ first it pages whole known.
    subst (λ (ps : List PageId). AreMetOn at new first ps) (append_assoc pages ids (id ∷ []))
    (k first it (pages ++ ids) (ap (λ (made : Redone). made.records) same ∙ whole) (h first it pages whole known))

pub marks_both : (pages : List PageId) (id : PageId) (old now new : MetPages) → now.made ≡ old.made → HaveMarks pages old now → HaveMarks (id ∷ []) now new → HaveMarks (pages ++ id ∷ []) old new
marks_both pages id old now new same h k = record {
  stay = λ q is. k.stay q (h.stay q is);
  there = λ q has here. elim (or_either (has_page pages q) (same_page id q) (sym (has_more pages id q) ∙ here)) [
    | inl e ↦ (k.stay q (h.there q has e))
    | inr e ↦ (k.there q (subst (λ (made : Redone). HasPage made.range q) (sym same) has) (or_first (same_page id q) false e))
  ];
}

differ : (m n : ℕ) (b : Bool) → b ≡ (m == n) → b ≡ false → m ≡ n → ⊥
differ m n b is off e = let yes : (m == n) ≡ true = grind (arith, nat_tests) in absurd (cc (is, yes, off))

pub unlike : (image page : List ℕ) (lrsn : ℕ) (b : Bool) → b ≡ (lrsn_of image == lrsn) → b ≡ false → lrsn ≡ lrsn_of page → false ≡ bytes_eq image page
unlike image page lrsn b is off e =
    decide (bytes_eq image page) (false ≡ bytes_eq image page)
    (λ same.
    let equal : lrsn_of image ≡ lrsn = ap lrsn_of ((bytes_eq-Decides image page).0 same) ∙ sym e in
    absurd (differ (lrsn_of image) lrsn b is off equal))
    (λ no. sym no)

pub zero_version : LeavesOthers → (at : Images) (met : MetPages) (id : PageId) (page : List ℕ) (b : Bool) → mark_of met id ≡ None → HasPage met.made.range id → AreMet at met → IsTrue b ↔ (page ≡ zeros) → IsTrue b ↔ IsVersion id met.made.records page
zero_version law at met id page b none has known is =
    let free : list_any (touches id) met.made.records ≡ false = subst (λ (o : Option Mark). IsKnown id met.made.records met.made.records (at id) o) none (known id has) in
    (λ t. zeros_are id met.made.records page (is.0 t), λ v. is.1 (zeros_of law id met.made.records page free v))

pub mark_version : (at : Images) (met : MetPages) (id : PageId) (m : Mark) (page : List ℕ) → mark_of met id ≡ Some m → HasPage met.made.range id → AreMet at met → page ≡ current (at id) → IsTrue m.is_met ↔ IsVersion id met.made.records page
mark_version at met id m page is has known its =
    let marked : IsMarked id met.made.records met.made.records (at id) m = subst (λ (o : Option Mark). IsKnown id met.made.records met.made.records (at id) o) is (known id has) in
    (λ t. subst (λ (p : List ℕ). IsVersion id met.made.records p) (sym its) (marked.behind t), λ v. marked.before (subst (λ (p : List ℕ). IsVersion id met.made.records p) its v))

-- the pages after one record more
pub took : LeavesOthers → (at : Images) (old marked redone met : MetPages) (it : LogRecord) {xs ys : List PageId} → xs ≡ pages_of it → ys ≡ pages_of it → marked.made ≡ old.made → HaveMarks xs old marked → (AreMet at old → AreMet at marked)
    → redone.made.records ≡ marked.made.records ++ it ∷ [] → redone.made.range ≡ marked.made.range → met.made ≡ redone.made → MeetsAlso at ys redone met → redone.marks ≡ marked.marks → AreMet at old → AreMet at met
took law at old marked redone met it {xs} {ys} xs_are ys_are same marks keeps records range still meets also known =
    let there : HaveMarks (pages_of it) old marked = subst (λ (ps : List PageId). HaveMarks ps old marked) xs_are marks in
    let on : MeetsAlso at (pages_of it) redone met = subst (λ (ps : List PageId). MeetsAlso at ps redone met) ys_are meets in
    let begun : OnBy at redone.made marked.marks.entries marked.made.records [] =
    starts at marked.made redone.made it marked.marks.entries range records (λ q has. there.there q (subst (λ (made : Redone). HasPage made.range q) same has)) (keeps known)
    in
    ends law at met.made marked.made.records it met.marks.entries (ap (λ (made : Redone). made.records) still ∙ records)
    (on marked.made.records it [] records (subst (λ m. OnBy at redone.made m.entries marked.made.records []) (sym also) begun))

-- ---- loops over the pages of a record

pub marks_next : (pages : List PageId) (i : ℕ) (d : PageId) (old now new : MetPages) → i < length pages → now.made ≡ old.made → HaveMarks (take i pages) old now → HaveMarks (get_or pages i d ∷ []) now new → HaveMarks (take (i + 1) pages) old new
marks_next pages i d old now new lt same h k = subst (λ (ps : List PageId). HaveMarks ps old new) (sym (take_more pages i d lt)) (marks_both (take i pages) (get_or pages i d) old now new same h k)

pub meets_next : (a b : Option Contents) (pages : List PageId) (i : ℕ) (d : PageId) (old now new : MetPages) → i < length pages → now.made ≡ old.made → WhenTold a (λ (c : Contents). MeetsAlso (page_at c.pages) (take i pages) old now) → Becomes a b Same
    → WhenTold b (λ (c : Contents). MeetsAlso (page_at c.pages) (get_or pages i d ∷ []) now new) → WhenTold a (λ (c : Contents). MeetsAlso (page_at c.pages) (take (i + 1) pages) old new)
meets_next a b pages i d old now new lt made h same k =
    told_by_both a (λ (c : Contents). MeetsAlso (page_at c.pages) (take i pages) old now) (λ (c : Contents). MeetsAlso (page_at c.pages) (get_or pages i d ∷ []) now new) (λ (c : Contents). MeetsAlso (page_at c.pages) (take (i + 1) pages) old new)
    (λ c x y.
    subst (λ (ps : List PageId). MeetsAlso (page_at c.pages) ps old new) (sym (take_more pages i d lt)) (meets_both (page_at c.pages) (take i pages) (get_or pages i d) old now new made x y))
    h (told_before a b (λ (c : Contents). MeetsAlso (page_at c.pages) (get_or pages i d ∷ []) now new) same k)

pub meets_whole : (a : Option Contents) (pages : List PageId) (i : ℕ) (old new : MetPages) → length pages ≤ i → WhenTold a (λ (c : Contents). MeetsAlso (page_at c.pages) (take i pages) old new) → WhenTold a (λ (c : Contents). MeetsAlso (page_at c.pages) pages old new)
meets_whole a pages i old new le h = subst (λ (ps : List PageId). WhenTold a (λ (c : Contents). MeetsAlso (page_at c.pages) ps old new)) (take_all i pages le) h

pub met_next : (a b : Option Contents) (old now new : MetPages) → WhenTold a (λ (c : Contents). AreMet (page_at c.pages) old → AreMet (page_at c.pages) now) → Becomes a b Same → WhenTold b (λ (c : Contents). AreMet (page_at c.pages) now → AreMet (page_at c.pages) new)
    → WhenTold a (λ (c : Contents). AreMet (page_at c.pages) old → AreMet (page_at c.pages) new)
met_next a b old now new h same k =
    told_by_both a (λ (c : Contents). AreMet (page_at c.pages) old → AreMet (page_at c.pages) now) (λ (c : Contents). AreMet (page_at c.pages) now → AreMet (page_at c.pages) new) (λ (c : Contents). AreMet (page_at c.pages) old → AreMet (page_at c.pages) new)
    (λ c x y known. y (x known)) h (told_before a b (λ (c : Contents). AreMet (page_at c.pages) now → AreMet (page_at c.pages) new) same k)

-- a page of another table, and one without a mark
pub other_meets : (at : Images) (met : MetPages) (id : PageId) (range : TableRange) (b : Bool) → range ≡ met.made.range → IsTrue b ↔ HasPage range id → b ≡ false → MeetsAlso at (id ∷ []) met met
other_meets at met id range b same is off = meets_none at met.made met.marks.entries id (λ has. absurd (cc (off, is.1 (subst (λ (r : TableRange). HasPage r id) (sym same) has))))

pub unmarked_meets : (at : Images) (met : MetPages) (id : PageId) → mark_of met id ≡ None → MeetsAlso at (id ∷ []) met met
unmarked_meets at met id none = meets_none at met.made met.marks.entries id (λ has. none)

pub off_of : (b : Bool) → not b ≡ true → b ≡ false
off_of true h = absurd cc
off_of false h = refl
