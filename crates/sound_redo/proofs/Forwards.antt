-- Redo over the pages of a sound disk: no field is in its way.
use Rattle.std.proofs.Common.{◌≡◌, ℕ, ◌<◌, ◌≤◌, Bool, true, false, cond, ◌&&◌, ◌||◌, nat_lt, List, [], ◌∷◌, ◌++◌, Option, None, Result, Ok, Err, refl, sym, ap, subst, ◌∙◌, arith, append_assoc}
use Rattle.std.specs.Prelude.{◌==◌, filter}
use Rattle.std.specs.List.{AllByRecursion, list_any}
use Rattle.std.proofs.lemmas.Bool.Decides.{nat_tests}
use Rattle.std.proofs.lemmas.List.{append-nil}
use Rattle.ds_base.specs.Pages.{same_page, heap_page}
use Rattle.ds_base.specs.declared.names.PageId.{PageId}
use Rattle.ds_model.specs.declared.log.LogRecord.{LogRecord}
use Rattle.ds_model.specs.declared.log.RowChange.{RowChange}
use Rattle.ds_model.specs.declared.log.Body.{Body}
use Rattle.ds_model.specs.declared.log.Body.TheVariants as body
use Rattle.ds_model.specs.declared.log.Version.{Version}
use Rattle.ds_model.specs.RecordBytes.{IsAllowed, PatchIsAllowed, BodyIsAllowed}
use Rattle.page_format.specs.Fields.{lrsn_of, is_old, renewed}
use Rattle.page_format.specs.Header.{header_of}
use Rattle.page_format.specs.declared.header.Header.{Header}
use Rattle.page_format.specs.declared.header.NotAPage.{NotAPage}
use Rattle.page_format.specs.declared.patch.Patch.{Patch}
use Rattle.heap_space.specs.Written.{written}
use Rattle.page_images.specs.Images.{zeros}
use Rattle.page_chain.specs.Chains.{changes_of, touches, version_of, IsVersion, Follows, AreInOrder, AreRecords, GrowsByRecords, LeavesOthers, BearsItsNumber}
use Rattle.page_redo.specs.Rows.{change_fault}
use Rattle.page_redo.specs.Forward.{lies_in_page, patches_of, has_patch, body_fault, Forward, unless, after_one, go_on, forward_from, headed, brought_forward}
use Rattle.sound_disk.specs.Versions.{is_page, current}
use Rattle.sound_disk.specs.Rows_there.{Stood, BodyStood, BeforesAgree}
use Rattle.sound_disk.specs.Laws.{last_number}
use Rattle.sound_redo.specs.Laws.{FindsNothing}

-- what is proved of versions and of redo elsewhere
pub record IsKnown : Type 0 where
  pub grows : GrowsByRecords
  pub others : LeavesOthers
  pub number : BearsItsNumber
  pub zero : lrsn_of zeros ≡ 0

-- ---- parts of records

allowed_front : (xs ys : List LogRecord) → AllByRecursion IsAllowed (xs ++ ys) → AllByRecursion IsAllowed xs
allowed_front [] ys h = tt
allowed_front (x ∷ xs) ys h = (h.0, allowed_front xs ys h.1)

allowed_rest : (xs ys : List LogRecord) → AllByRecursion IsAllowed (xs ++ ys) → AllByRecursion IsAllowed ys
allowed_rest [] ys h = h
allowed_rest (x ∷ xs) ys h = allowed_rest xs ys h.1

order_front : (low : ℕ) (xs ys : List LogRecord) → AreInOrder low (xs ++ ys) → AreInOrder low xs
order_front low [] ys h = tt
order_front low (x ∷ xs) ys h = (h.0, order_front x.lrsn xs ys h.1)

order_rest : (low : ℕ) (xs ys : List LogRecord) → AreInOrder low (xs ++ ys) → AreInOrder (last_number low xs) ys
order_rest low [] ys h = h
order_rest low (x ∷ xs) ys h = order_rest x.lrsn xs ys h.1

are_front : (xs ys : List LogRecord) → AreRecords (xs ++ ys) → AreRecords xs
are_front xs ys h = (allowed_front xs ys h.0, order_front 0 xs ys h.1)

befores_rest : (earlier xs ys : List LogRecord) → BeforesAgree earlier (xs ++ ys) → BeforesAgree (earlier ++ xs) ys
befores_rest earlier [] ys h = subst (λ (l : List LogRecord). BeforesAgree l ys) (sym (append-nil earlier)) h
befores_rest earlier (x ∷ xs) ys h = subst (λ (l : List LogRecord). BeforesAgree l ys) (append_assoc earlier (x ∷ []) xs) (befores_rest (earlier ++ x ∷ []) xs ys h.1)

-- ---- the numbers of versions

no_less : (low : ℕ) (r : LogRecord) (ps : List Patch) → Follows low r ps → low ≤ r.lrsn
no_less low r [] h = h
no_less low r (p ∷ ps) h = omega (arith, h)

greater : (low : ℕ) (r : LogRecord) (ps : List Patch) (id : PageId) → Follows low r ps → list_any (λ (p : Patch). same_page p.page id) ps ≡ true → low < r.lrsn
greater low r [] id h e = absurd cc
greater low r (p ∷ ps) id h e = h

-- one record more
record Step (id : PageId) (earlier : List LogRecord) (r : LogRecord) : Type 0 where
  rises : lrsn_of (version_of id earlier) ≤ lrsn_of (version_of id (earlier ++ r ∷ []))
  bounded : lrsn_of (version_of id (earlier ++ r ∷ [])) ≤ r.lrsn
  has : touches id r ≡ true → r.lrsn ≤ lrsn_of (version_of id (earlier ++ r ∷ []))

same_version : IsKnown → (id : PageId) (earlier : List LogRecord) (r : LogRecord) → touches id r ≡ false → version_of id (earlier ++ r ∷ []) ≡ version_of id earlier
same_version k id earlier r e = k.grows earlier r id ∙ k.others r id (version_of id earlier) e

step_when : IsKnown → (b : Bool) (low : ℕ) (id : PageId) (earlier : List LogRecord) (r : LogRecord) → touches id r ≡ b → lrsn_of (version_of id earlier) ≤ low → AreRecords (earlier ++ r ∷ []) → Follows low r (changes_of r.body) → Step id earlier r
step_when k true low id earlier r e le are follows =
    let is : lrsn_of (version_of id (earlier ++ r ∷ [])) ≡ r.lrsn = k.number earlier r id are e in
    let up : low ≤ r.lrsn = no_less low r (changes_of r.body) follows in
    record { rises = omega (arith, is, up, le); bounded = omega (arith, is); has = λ t. omega (arith, is) }
step_when k false low id earlier r e le are follows =
    let is : lrsn_of (version_of id (earlier ++ r ∷ [])) ≡ lrsn_of (version_of id earlier) = ap lrsn_of (same_version k id earlier r e) in
    let up : low ≤ r.lrsn = no_less low r (changes_of r.body) follows in
    record { rises = omega (arith, is); bounded = omega (arith, is, up, le); has = λ t. absurd (cc (e, t)) }

-- no record of these that changes the page has a number above that of the version, whose number is no higher than the last record's
record Within (id : PageId) (all earlier rest : List LogRecord) (low : ℕ) : Type 0 where
  rises : lrsn_of (version_of id earlier) ≤ lrsn_of (version_of id all)
  bounded : lrsn_of (version_of id all) ≤ last_number low rest
  has : AllByRecursion (λ (r : LogRecord). touches id r ≡ true → r.lrsn ≤ lrsn_of (version_of id all)) rest

within : IsKnown → (id : PageId) (all earlier rest : List LogRecord) (low : ℕ) → earlier ++ rest ≡ all → AreRecords all → lrsn_of (version_of id earlier) ≤ low → AreInOrder low rest → Within id all earlier rest low
within k id all earlier [] low e are le order =
    let is : lrsn_of (version_of id all) ≡ lrsn_of (version_of id earlier) = ap (λ (l : List LogRecord). lrsn_of (version_of id l)) (sym e ∙ append-nil earlier) in
    record { rises = omega (arith, is); bounded = omega (arith, is, le); has = tt }
within k id all earlier (r ∷ rs) low e are le order =
    let on : (earlier ++ r ∷ []) ++ rs ≡ all = append_assoc earlier (r ∷ []) rs ∙ e in
    let front : AreRecords (earlier ++ r ∷ []) = are_front (earlier ++ r ∷ []) rs (subst AreRecords (sym on) are) in
    let one = step_when k (touches id r) low id earlier r refl le front order.0 in
    let more = within k id all (earlier ++ r ∷ []) rs r.lrsn on are one.bounded order.1 in
    record {
      rises = omega (arith, one.rises, more.rises);
      bounded = more.bounded;
      has = (λ t. let h = one.has t in omega (arith, h, more.rises), more.has);
    }

-- ---- what a record does

lies : (p : Patch) → PatchIsAllowed p → lies_in_page p ≡ true
lies p h = let inside = h.within in grind (arith, nat_tests)

filter_when : (b : Bool) (p : Patch) (ps qs : List Patch) → b ≡ true → qs ≡ ps → cond b (p ∷ qs) qs ≡ p ∷ ps
filter_when true p ps qs e same = ap (λ (l : List Patch). p ∷ l) same
filter_when false p ps qs e same = absurd cc

all_lie : (ps : List Patch) → AllByRecursion PatchIsAllowed ps → filter lies_in_page ps ≡ ps
all_lie [] h = refl
all_lie (p ∷ ps) h = filter_when (lies_in_page p) p ps (filter lies_in_page ps) (lies p h.0) (all_lie ps h.1)

body_patches : (v : Version) (b : Body) → BodyIsAllowed v b → patches_of b ≡ changes_of b
body_patches v (body.RowChange c) h = refl
body_patches v (body.Compensation c undone) h = refl
body_patches v (body.System ps) h = all_lie ps h.each
body_patches v body.Commit h = refl
body_patches v body.Ended h = refl
body_patches v (body.Checkpoint offset) h = refl
body_patches v body.RestartEnd h = refl

has_same : (id : PageId) (r : LogRecord) → IsAllowed r → has_patch id (patches_of r.body) ≡ touches id r
has_same id r allowed = ap (λ (ps : List Patch). has_patch id ps) (body_patches r.version r.body allowed.body_is)

abbrev left : List ℕ → Forward
left page = record { page = page; outcome = Ok false }

one_of : (above has : Bool) (id : PageId) (page : List ℕ) (r : LogRecord) → Forward
one_of above has id page r = cond (above && has) (unless (body_fault id page r.body) id page r) (record { page = page; outcome = Ok false })

passed_if : (a h : Bool) (f : Forward) (page : List ℕ) → (h ≡ true → a ≡ false) → cond (a && h) f (record { page = page; outcome = Ok false }) ≡ left page
passed_if true true f page e = absurd (cc (e refl))
passed_if true false f page e = refl
passed_if false h f page e = refl

-- a record that doesn't change the page, or is no higher than its number, is passed over
passed : (id : PageId) (page : List ℕ) (r : LogRecord) → IsAllowed r → (touches id r ≡ true → r.lrsn ≤ lrsn_of page) → after_one id page r ≡ left page
passed id page r allowed le =
    passed_if (nat_lt (lrsn_of page) r.lrsn) (has_patch id (patches_of r.body)) (unless (body_fault id page r.body) id page r) page
    (λ h. not_below (lrsn_of page) r.lrsn (le (sym (has_same id r allowed) ∙ h)))
  where
    not_below : (n m : ℕ) → m ≤ n → nat_lt n m ≡ false
    not_below n m h = grind (arith, nat_tests)

or_none : (b : Bool) → (b || false) ≡ b
or_none true = refl
or_none false = refl

pass_one : (id : PageId) (page : List ℕ) (b : Bool) (r : LogRecord) (rs : List LogRecord) → after_one id page r ≡ left page → forward_from id page b (r ∷ rs) ≡ forward_from id page b rs
pass_one id page b r rs e =
    ap (λ (f : Forward). go_on (λ p a. forward_from id p a rs) b f.page f.outcome) e
    ∙ ap (λ (a : Bool). forward_from id page a rs) (or_none b)

pass_all : (id : PageId) (page : List ℕ) (b : Bool) (xs ys : List LogRecord) → AllByRecursion IsAllowed xs → AllByRecursion (λ (r : LogRecord). touches id r ≡ true → r.lrsn ≤ lrsn_of page) xs
    → forward_from id page b (xs ++ ys) ≡ forward_from id page b ys
pass_all id page b [] ys allowed h = refl
pass_all id page b (x ∷ xs) ys allowed h = pass_one id page b x (xs ++ ys) (passed id page x allowed.0 h.0) ∙ pass_all id page b xs ys allowed.1 h.1

-- ---- no field is in the way

and_left : (a b : Bool) → (a && b) ≡ true → a ≡ true
and_left true b h = refl
and_left false b h = h

and_right : (a b : Bool) → (a && b) ≡ true → b ≡ true
and_right true b h = h
and_right false b h = absurd cc

or_one : (a : Bool) → (a || false) ≡ true → a ≡ true
or_one a h = sym (or_none a) ∙ h

equal : (m n : ℕ) → (m == n) ≡ true → m ≡ n
equal m n e = grind (arith, nat_tests)

abbrev id_from : ℕ → ℕ → PageId
id_from set number = record { set = set; number = number }

same_id : (a b : PageId) → same_page a b ≡ true → a ≡ b
same_id a b h =
    let s : a.set ≡ b.set = equal a.set b.set (and_left (a.set == b.set) (a.number == b.number) h) in
    let n : a.number ≡ b.number = equal a.number b.number (and_right (a.set == b.set) (a.number == b.number) h) in
    ap (λ (k : ℕ). id_from k a.number) s ∙ ap (λ (k : ℕ). id_from b.set k) n

change_stood : (earlier : List LogRecord) (c : RowChange) (id : PageId) → Stood earlier c → same_page (heap_page c.table c.place.page) id ≡ true → change_fault id c (version_of id earlier) ≡ None
change_stood earlier c id s e = subst (λ (q : PageId). change_fault q c (version_of q earlier) ≡ None) (same_id (heap_page c.table c.place.page) id e) s.slot

body_stood : (earlier : List LogRecord) (lrsn : ℕ) (b : Body) (id : PageId) → BodyStood earlier lrsn b → list_any (λ (p : Patch). same_page p.page id) (changes_of b) ≡ true → body_fault id (version_of id earlier) b ≡ None
body_stood earlier lrsn (body.RowChange c) id s e = change_stood earlier c id s (or_one (same_page (heap_page c.table c.place.page) id) e)
body_stood earlier lrsn (body.Compensation c undone) id s e = change_stood earlier c id s (or_one (same_page (heap_page c.table c.place.page) id) e)
body_stood earlier lrsn (body.System ps) id s e = refl
body_stood earlier lrsn body.Commit id s e = refl
body_stood earlier lrsn body.Ended id s e = refl
body_stood earlier lrsn (body.Checkpoint offset) id s e = refl
body_stood earlier lrsn body.RestartEnd id s e = refl

applied_if : (a h : Bool) (o : Option ℕ) (id : PageId) (page : List ℕ) (r : LogRecord) (f : Forward) → a ≡ true → h ≡ true → o ≡ None → cond (a && h) (unless o id page r) f ≡ record { page = written id r.lrsn (patches_of r.body) page; outcome = Ok true }
applied_if true true o id page r f x y e = ap (λ (q : Option ℕ). unless q id page r) e
applied_if true false o id page r f x y e = absurd cc
applied_if false h o id page r f x y e = absurd cc

abbrev done : List ℕ → Forward
done page = record { page = page; outcome = Ok true }

-- a record that changes the page and is above its number makes the next version of it
applied : IsKnown → (id : PageId) (earlier : List LogRecord) (r : LogRecord) → IsAllowed r → touches id r ≡ true → lrsn_of (version_of id earlier) < r.lrsn → BodyStood earlier r.lrsn r.body
    → after_one id (version_of id earlier) r ≡ done (version_of id (earlier ++ r ∷ []))
applied k id earlier r allowed t lt stood =
    let page : List ℕ = version_of id earlier in
    let b : (patches_of r.body) ≡ changes_of r.body = body_patches r.version r.body allowed.body_is in
    applied_if (nat_lt (lrsn_of page) r.lrsn) (has_patch id (patches_of r.body)) (body_fault id page r.body) id page r (record { page = page; outcome = Ok false })
    (below (lrsn_of page) r.lrsn lt) (has_same id r allowed ∙ t) (body_stood earlier r.lrsn r.body id stood t)
    ∙ ap (λ (ps : List Patch). done (written id r.lrsn ps page)) b
    ∙ ap done (sym (k.grows earlier r id))
  where
    below : (n m : ℕ) → n < m → nat_lt n m ≡ true
    below n m h = grind (arith, nat_tests)

go_done : (id : PageId) (page next : List ℕ) (b : Bool) (r : LogRecord) (rs : List LogRecord) → after_one id page r ≡ done next → forward_from id page b (r ∷ rs) ≡ forward_from id next (b || true) rs
go_done id page next b r rs e = ap (λ (f : Forward). go_on (λ p a. forward_from id p a rs) b f.page f.outcome) e

finds_when : IsKnown → (t : Bool) (id : PageId) (low : ℕ) (b : Bool) (earlier : List LogRecord) (r : LogRecord) (rs : List LogRecord) → touches id r ≡ t → IsAllowed r → lrsn_of (version_of id earlier) ≤ low → Follows low r (changes_of r.body) → BodyStood earlier r.lrsn r.body
    → ((a : Bool) → FindsNothing (forward_from id (version_of id (earlier ++ r ∷ [])) a rs).outcome)
    → FindsNothing (forward_from id (version_of id earlier) b (r ∷ rs)).outcome
finds_when k true id low b earlier r rs t allowed le follows stood more =
    let up : low < r.lrsn = greater low r (changes_of r.body) id follows t in
    let is = applied k id earlier r allowed t (omega (arith, le, up)) stood in
    subst (λ (f : Forward). FindsNothing f.outcome) (sym (go_done id (version_of id earlier) (version_of id (earlier ++ r ∷ [])) b r rs is)) (more (b || true))
finds_when k false id low b earlier r rs t allowed le follows stood more =
    let still = passed id (version_of id earlier) r allowed (λ e. absurd (cc (t, e))) in
    subst (λ (f : Forward). FindsNothing f.outcome) (sym (pass_one id (version_of id earlier) b r rs still))
    (subst (λ (p : List ℕ). FindsNothing (forward_from id p b rs).outcome) (same_version k id earlier r t) (more b))

finds : IsKnown → (id : PageId) (all earlier rest : List LogRecord) (low : ℕ) (b : Bool) → earlier ++ rest ≡ all → AreRecords all → lrsn_of (version_of id earlier) ≤ low → AllByRecursion IsAllowed rest → AreInOrder low rest → BeforesAgree earlier rest
    → FindsNothing (forward_from id (version_of id earlier) b rest).outcome
finds k id all earlier [] low b e are le allowed order stood = tt
finds k id all earlier (r ∷ rs) low b e are le allowed order stood =
    let on : (earlier ++ r ∷ []) ++ rs ≡ all = append_assoc earlier (r ∷ []) rs ∙ e in
    let front : AreRecords (earlier ++ r ∷ []) = are_front (earlier ++ r ∷ []) rs (subst AreRecords (sym on) are) in
    let one = step_when k (touches id r) low id earlier r refl le front order.0 in
    finds_when k (touches id r) id low b earlier r rs refl allowed.0 le order.0 stood.0
    (λ a. finds k id all (earlier ++ r ∷ []) rs r.lrsn a on are one.bounded allowed.1 order.1 stood.1)

-- ---- a page of the disk

version_finds : IsKnown → (id : PageId) (first rest : List LogRecord) → AreRecords (first ++ rest) → BeforesAgree [] (first ++ rest) → FindsNothing (forward_from id (version_of id first) false (first ++ rest)).outcome
version_finds k id first rest are befores =
    let front : AreRecords first = are_front first rest are in
    let w = within k id first [] first 0 refl front (omega (arith, k.zero)) front.1 in
    let over = pass_all id (version_of id first) false first rest front.0 w.has in
    subst (λ (f : Forward). FindsNothing f.outcome) (sym over)
    (finds k id (first ++ rest) first rest (last_number 0 first) false refl are w.bounded (allowed_rest first rest are.0) (order_rest 0 first rest are.1) (befores_rest [] first rest befores))

headed_finds : (id : PageId) (page : List ℕ) (rs : List LogRecord) (h : Result Header NotAPage) → is_page h ≡ true → FindsNothing (forward_from id page false rs).outcome → FindsNothing (headed id page rs h).outcome
headed_finds id page rs (Ok h) e f = f
headed_finds id page rs (Err x) e f = absurd cc

current_is : (page : List ℕ) → is_old page ≡ false → current page ≡ page
current_is page e = ap (λ (b : Bool). cond b (renewed page) page) e

pub redo_finds_nothing : IsKnown → (id : PageId) (page : List ℕ) (records : List LogRecord) → AreRecords records → BeforesAgree [] records → is_page (header_of page id) ≡ true → IsVersion id records (current page) → is_old page ≡ false
    → FindsNothing (brought_forward id page records).outcome
redo_finds_nothing k id page records are befores header v new =
    let e : records ≡ v.first ++ v.rest = v.whole in
    let p : version_of id v.first ≡ page = sym v.bytes ∙ current_is page new in
    let f = version_finds k id v.first v.rest (subst AreRecords e are) (subst (λ (l : List LogRecord). BeforesAgree [] l) e befores) in
    let g : FindsNothing (forward_from id page false records).outcome =
    subst (λ (q : List ℕ). FindsNothing (forward_from id q false records).outcome) p
    (subst (λ (l : List LogRecord). FindsNothing (forward_from id (version_of id v.first) false l).outcome) (sym e) f) in
    headed_finds id page records (header_of page id) header g
