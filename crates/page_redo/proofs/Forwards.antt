-- Pages brought forward, and redo.
use Rattle.std.proofs.Common.{◌≡◌, ℕ, ◌+◌, ◌<◌, ◌≤◌, Bool, true, false, cond, ◌&&◌, ◌||◌, nat_lt, nat_le, List, [], ◌∷◌, ◌++◌, length, filter, Option, None, Some, Result, Ok, Err, refl, sym, ap, subst, ◌∙◌, arith}
use Rattle.std.proofs.lemmas.Bool.Decides.{nat_tests}
use Rattle.std.specs.List.{list_any, AllByRecursion}
use Rattle.ds_base.specs.declared.names.PageId.{PageId}
use Rattle.ds_model.specs.declared.log.LogRecord.{LogRecord}
use Rattle.ds_model.specs.declared.log.Body.{Body}
use Rattle.ds_model.specs.declared.log.Body.TheVariants as body
use Rattle.ds_model.specs.declared.log.Version.{Version}
use Rattle.ds_model.specs.RecordBytes.{IsAllowed, PatchIsAllowed, BodyIsAllowed}
use Rattle.page_format.specs.Fields.{lrsn_of}
use Rattle.page_format.specs.Header.{header_of}
use Rattle.page_format.specs.declared.header.Header.{Header}
use Rattle.page_format.specs.declared.header.NotAPage.{NotAPage}
use Rattle.page_format.specs.declared.patch.Patch.{Patch}
use Rattle.heap_space.specs.Written.{written}
use Rattle.ds_base.specs.Pages.{same_page}
use Rattle.page_chain.specs.Chains.{changes_of, touches, after_record, version_of, redo, AreRecords, LeavesOthers, RedoReaches}
use Rattle.page_redo.specs.declared.fault.FieldFault.{FieldFault}
use Rattle.page_redo.specs.Forward.{lies_in_page, patches_of, has_patch, body_fault, Forward, unless, after_one, go_on, forward_from, headed, brought_forward, IsRedo, ReachesLast, NeedsItsOwn}

-- ---- the patches of a record that a log may hold

lies : (p : Patch) → PatchIsAllowed p → lies_in_page p ≡ true
lies p h = let within = h.within in grind (arith, nat_tests)

filter_when : (b : Bool) (p : Patch) (ps qs : List Patch) → b ≡ true → qs ≡ ps → cond b (p ∷ qs) qs ≡ p ∷ ps
filter_when true p ps qs e same = ap (λ (l : List Patch). p ∷ l) same
filter_when false p ps qs e same = absurd (cc)

all_lie : (ps : List Patch) → AllByRecursion PatchIsAllowed ps → filter lies_in_page ps ≡ ps
all_lie [] h = refl
all_lie (p ∷ ps) h = filter_when (lies_in_page p) p ps (filter lies_in_page ps) (lies p h.0) (all_lie ps h.1)

body_patches : (v : Version) (b : Body) → BodyIsAllowed v b → patches_of b ≡ changes_of b
body_patches v (body.RowChange c) h = refl
body_patches v (body.Compensation c undone) h = refl
body_patches v (body.System ps) h = all_lie ps h.each
body_patches v body.Commit h = refl
body_patches v body.Ended h = refl
body_patches v (body.Checkpoint offset) h = refl
body_patches v body.RestartEnd h = refl

-- ---- one record

-- what redo makes of the page by one record
one_of : PageId → List ℕ → LogRecord → List ℕ
one_of id page r = cond (nat_lt (lrsn_of page) r.lrsn) (after_record id page r) page

unless_ok : (o : Option ℕ) (id : PageId) (page : List ℕ) (r : LogRecord) (b : Bool) → (unless o id page r).outcome ≡ Ok b → (unless o id page r).page ≡ written id r.lrsn (patches_of r.body) page
unless_ok None id page r b e = refl
unless_ok (Some at) id page r b e = absurd (cc)

abbrev one_when : Bool → Bool → PageId → List ℕ → LogRecord → Forward
one_when above has id page r = cond (above && has) (unless (body_fault id page r.body) id page r) (record { page = page; outcome = Ok false })

one_cases : LeavesOthers → (above has : Bool) (id : PageId) (page : List ℕ) (r : LogRecord) (b : Bool) → has ≡ touches id r → patches_of r.body ≡ changes_of r.body
    → (one_when above has id page r).outcome ≡ Ok b → (one_when above has id page r).page ≡ cond above (after_record id page r) page
one_cases others true true id page r b e same ok = unless_ok (body_fault id page r.body) id page r b ok ∙ ap (λ (ps : List Patch). written id r.lrsn ps page) same
one_cases others true false id page r b e same ok = sym (others r id page (sym e))
one_cases others false true id page r b e same ok = refl
one_cases others false false id page r b e same ok = refl

one_is : LeavesOthers → (id : PageId) (page : List ℕ) (r : LogRecord) (b : Bool) → IsAllowed r → (after_one id page r).outcome ≡ Ok b
    → (after_one id page r).page ≡ cond (nat_lt (lrsn_of page) r.lrsn) (after_record id page r) page
one_is others id page r b allowed ok =
    let same = body_patches r.version r.body allowed.body_is in
    one_cases others (nat_lt (lrsn_of page) r.lrsn) (has_patch id (patches_of r.body)) id page r b (ap (has_patch id) same) same ok

-- ---- several records

go_ok : (more : List ℕ → Bool → Forward) (applied : Bool) (page : List ℕ) (o : Result Bool FieldFault) (b : Bool) → (go_on more applied page o).outcome ≡ Ok b
    → (c : Bool) × (o ≡ Ok c) × (go_on more applied page o ≡ more page (applied || c))
go_ok more applied page (Ok c) b e = (c, refl, refl)
go_ok more applied page (Err f) b e = absurd (cc)

pub from_is : LeavesOthers → (id : PageId) (page : List ℕ) (applied b : Bool) (rs : List LogRecord) → AllByRecursion IsAllowed rs → (forward_from id page applied rs).outcome ≡ Ok b
    → (forward_from id page applied rs).page ≡ redo id page rs
from_is others id page applied b [] allowed ok = refl
from_is others id page applied b (r ∷ rs) allowed ok =
    let next = after_one id page r in
    let more : List ℕ → Bool → Forward = λ p c. forward_from id p c rs in
    let g = go_ok more applied next.page next.outcome b ok in
    let one = one_is others id page r g.0 allowed.0 g.1 in
    let on : (forward_from id next.page (applied || g.0) rs).outcome ≡ Ok b = ap (λ (f : Forward). f.outcome) (sym g.2) ∙ ok in
    ap (λ (f : Forward). f.page) g.2
    ∙ from_is others id next.page (applied || g.0) b rs allowed.1 on
    ∙ ap (λ (p : List ℕ). redo id p rs) one

headed_is : LeavesOthers → (id : PageId) (page : List ℕ) (rs : List LogRecord) (b : Bool) (h : Result Header NotAPage) → AllByRecursion IsAllowed rs → (headed id page rs h).outcome ≡ Ok b → (headed id page rs h).page ≡ redo id page rs
headed_is others id page rs b (Ok h) allowed ok = from_is others id page false b rs allowed ok
headed_is others id page rs b (Err e) allowed ok = absurd (cc)

pub is_redo : LeavesOthers → IsRedo
is_redo others id page rs b allowed ok = headed_is others id page rs b (header_of page id) allowed ok

pub reaches_last : LeavesOthers → RedoReaches → ReachesLast
reaches_last others reaches id first rest b are ok = is_redo others id (version_of id first) (first ++ rest) b are.0 ok ∙ reaches first rest id are

-- ---- records of other pages

kept_any : (b : Bool) (id : PageId) (p : Patch) (qs ps : List Patch) → (same_page p.page id || has_patch id ps) ≡ false → (has_patch id ps ≡ false → has_patch id qs ≡ false) → has_patch id (cond b (p ∷ qs) qs) ≡ false
kept_any true id p qs ps e more = grind (arith, more)
kept_any false id p qs ps e more = grind (arith, more)

none_lies : (id : PageId) (ps : List Patch) → has_patch id ps ≡ false → has_patch id (filter lies_in_page ps) ≡ false
none_lies id [] e = refl
none_lies id (p ∷ ps) e = kept_any (lies_in_page p) id p (filter lies_in_page ps) ps e (none_lies id ps)

none_of : (id : PageId) (b : Body) → has_patch id (changes_of b) ≡ false → has_patch id (patches_of b) ≡ false
none_of id (body.RowChange c) e = e
none_of id (body.Compensation c undone) e = e
none_of id (body.System ps) e = none_lies id ps e
none_of id body.Commit e = refl
none_of id body.Ended e = refl
none_of id (body.Checkpoint offset) e = refl
none_of id body.RestartEnd e = refl

other_one : (above has : Bool) (id : PageId) (page : List ℕ) (r : LogRecord) → has ≡ false → one_when above has id page r ≡ record { page = page; outcome = Ok false }
other_one true false id page r e = refl
other_one false false id page r e = refl
other_one above true id page r e = absurd (cc)

or_false : (b : Bool) → (b || false) ≡ b
or_false true = refl
or_false false = refl

passes : (id : PageId) (page : List ℕ) (applied : Bool) (r : LogRecord) (rs : List LogRecord) → touches id r ≡ false → forward_from id page applied (r ∷ rs) ≡ forward_from id page applied rs
passes id page applied r rs e =
    let still : after_one id page r ≡ record { page = page; outcome = Ok false } = other_one (nat_lt (lrsn_of page) r.lrsn) (has_patch id (patches_of r.body)) id page r (none_of id r.body e) in
    ap (λ (f : Forward). go_on (λ p b. forward_from id p b rs) applied f.page f.outcome) still
    ∙ ap (λ (b : Bool). forward_from id page b rs) (or_false applied)

own_when : (b : Bool) (id : PageId) (page : List ℕ) (applied : Bool) (r : LogRecord) (rs qs : List LogRecord) → touches id r ≡ b → ((p : List ℕ) (c : Bool) → forward_from id p c qs ≡ forward_from id p c rs)
    → forward_from id page applied (cond b (r ∷ qs) qs) ≡ forward_from id page applied (r ∷ rs)
own_when true id page applied r rs qs e more = go_same (after_one id page r).outcome
  where
    go_same : (o : Result Bool FieldFault) → go_on (λ p b. forward_from id p b qs) applied (after_one id page r).page o ≡ go_on (λ p b. forward_from id p b rs) applied (after_one id page r).page o
    go_same (Ok one) = more (after_one id page r).page (applied || one)
    go_same (Err fault) = refl
own_when false id page applied r rs qs e more = more page applied ∙ sym (passes id page applied r rs e)

own_from : (id : PageId) (rs : List LogRecord) (page : List ℕ) (applied : Bool) → forward_from id page applied (filter (touches id) rs) ≡ forward_from id page applied rs
own_from id [] page applied = refl
own_from id (r ∷ rs) page applied = own_when (touches id r) id page applied r rs (filter (touches id) rs) refl (own_from id rs)

own_headed : (id : PageId) (page : List ℕ) (rs : List LogRecord) (h : Result Header NotAPage) → headed id page (filter (touches id) rs) h ≡ headed id page rs h
own_headed id page rs (Ok h) = own_from id rs page false
own_headed id page rs (Err e) = refl

pub needs_its_own : NeedsItsOwn
needs_its_own id page rs = own_headed id page rs (header_of page id)
