-- Pages that a rebuild needn't write.
use Rattle.std.proofs.Common.{◌≡◌, ℕ, ◌≤◌, Bool, true, false, cond, List, [], ◌∷◌, Option, Some, None, Result, Ok, Err, refl, sym, ap, ◌∙◌, subst, arith}
use Rattle.std.specs.Prelude.{filter, nat_lt, ◌||◌, ◌&&◌}
use Rattle.std.specs.List.{list_any}
use Rattle.std.proofs.lemmas.Bool.{cond-false, or_parts}
use Rattle.ds_base.specs.declared.names.PageId.{PageId}
use Rattle.ds_model.specs.declared.log.LogRecord.{LogRecord}
use Rattle.page_format.specs.Fields.{lrsn_of}
use Rattle.page_format.specs.Header.{header_of}
use Rattle.page_format.specs.declared.header.Header.{Header}
use Rattle.page_format.specs.declared.header.NotAPage.{NotAPage}
use Rattle.log_record.specs.declared.log.Log.{Log}
use Rattle.log_merge.specs.Merging.{all_records, in_order}
use Rattle.page_chain.specs.Chains.{touches, redo, LeavesOthers}
use Rattle.page_redo.specs.declared.fault.FieldFault.{FieldFault}
use Rattle.page_redo.specs.Forward.{Forward, after_one, body_fault, brought_forward, forward_from, go_on, has_patch, headed, patches_of, unless}
use Rattle.page_protocol.specs.Moves.{World, IsRead}
use Rattle.page_protocol.specs.Always.{Good}
use Rattle.page_protocol.specs.Words.{RebuildIsPossible}
use Rattle.log_tells.specs.Told.{Told, HaveParts, IsTold}
use Rattle.log_tells.specs.Leads.{IsCovered, RebuildBrings, RebuildLeads, UnchangedIsRead, UntouchedIsRead, VersionsDiffer, records_by}
use Rattle.log_tells.proofs.Leading.{disk_read}
use Rattle.log_tells.proofs.Moving.{coherent}
use Rattle.log_tells.proofs.Redoing.{redo_own}

-- ---- no record changes the page

none_of : (id : PageId) (rs : List LogRecord) → list_any (touches id) rs ≡ false → filter (touches id) rs ≡ []
none_of id [] e = refl
none_of id (r ∷ rs) e =
    let both = or_parts (touches id r) (list_any (touches id) rs) e in
    cond-false (touches id r) (r ∷ filter (touches id) rs) (filter (touches id) rs) both.0 ∙ none_of id rs both.1

redo_none : LeavesOthers → (id : PageId) (page : List ℕ) (rs : List LogRecord) → list_any (touches id) rs ≡ false → redo id page rs ≡ page
redo_none leaves id page rs e = redo_own leaves id page rs ∙ ap (redo id page) (none_of id rs e)

-- ---- none was applied

one_same : (id : PageId) (page : List ℕ) (r : LogRecord) → (after_one id page r).outcome ≡ Ok false → (after_one id page r).page ≡ page
one_same id page r = when (nat_lt (lrsn_of page) r.lrsn && has_patch id (patches_of r.body)) (body_fault id page r.body)
  where
    when : (b : Bool) (o : Option ℕ) → (cond b (unless o id page r) (record { page = page; outcome = Ok false })).outcome ≡ Ok false → (cond b (unless o id page r) (record { page = page; outcome = Ok false })).page ≡ page
    when true (Some at) e = cc
    when true None e = cc
    when false o e = refl

run_same : (id : PageId) (rs : List LogRecord) (page : List ℕ) (applied : Bool) → (forward_from id page applied rs).outcome ≡ Ok false → (applied ≡ false) × ((forward_from id page applied rs).page ≡ page)
run_same id [] page true e = cc
run_same id [] page false e = (refl, refl)
run_same id (r ∷ rs) page applied e = step (after_one id page r) (one_same id page r) (λ p b. run_same id rs p b) applied e
  where
    both : (a b : Bool) → (a || b) ≡ false → (a ≡ false) × (b ≡ false)
    both a b h = or_parts a b h

    by : (p : List ℕ) (o : Result Bool FieldFault) → (o ≡ Ok false → p ≡ page)
        → ((q : List ℕ) (b : Bool) → (forward_from id q b rs).outcome ≡ Ok false → (b ≡ false) × ((forward_from id q b rs).page ≡ q)) → (applied : Bool)
        → (go_on (λ q b. forward_from id q b rs) applied p o).outcome ≡ Ok false → (applied ≡ false) × ((go_on (λ q b. forward_from id q b rs) applied p o).page ≡ page)
    by p (Err fault) same rest applied e = cc
    by p (Ok one) same rest applied e =
        let left = rest p (applied || one) e in
        let parts = both applied one left.0 in
        (parts.0, left.1 ∙ same (ap Ok parts.1))

    step : (f : Forward) → (f.outcome ≡ Ok false → f.page ≡ page)
        → ((p : List ℕ) (b : Bool) → (forward_from id p b rs).outcome ≡ Ok false → (b ≡ false) × ((forward_from id p b rs).page ≡ p)) → (applied : Bool)
        → (go_on (λ p b. forward_from id p b rs) applied f.page f.outcome).outcome ≡ Ok false
        → (applied ≡ false) × ((go_on (λ p b. forward_from id p b rs) applied f.page f.outcome).page ≡ page)
    step f same rest applied e = by f.page f.outcome same rest applied e

brought_same : (id : PageId) (page : List ℕ) (rs : List LogRecord) → (brought_forward id page rs).outcome ≡ Ok false → (brought_forward id page rs).page ≡ page
brought_same id page rs e = by (header_of page id) e
  where
    by : (h : Result Header NotAPage) → (headed id page rs h).outcome ≡ Ok false → (headed id page rs h).page ≡ page
    by (Err x) e = cc
    by (Ok x) e = (run_same id rs page false e).1

-- ---- so the disk's version is the one that is read

settled : VersionsDiffer → (name : ℕ → PageId) (w : World) (content : ℕ → ℕ → List ℕ) (told : List Told) (n v : ℕ) → Good w → IsTold name w content told → w.down ≡ false → w.group.lost ≡ true
    → IsRead w.group (w.pages n) v → content n (w.pages n).disk ≡ content n v → IsRead w.group (w.pages n) (w.pages n).disk
settled differ name w content told n v good t up lost has e =
    subst (IsRead w.group (w.pages n)) (sym (differ name w content told n (w.pages n).disk v good t there has.short e)) has
  where
    there : (w.pages n).disk ≤ (w.pages n).last
    there = let low = disk_read w.group (w.pages n) v (coherent w good up n) lost has in let short = has.short in omega (arith, low, short)

pub untouched : LeavesOthers → RebuildIsPossible → VersionsDiffer → RebuildLeads → UntouchedIsRead
untouched leaves possible differ leads name w content told from logs n good t up lost h covered none =
    let v = (possible w good up lost n).0 in
    let has = (possible w good up lost n).2 in
    settled differ name w content told n v good t up lost has
    (sym (redo_none leaves (name n) (content n (w.pages n).disk) (in_order (all_records logs)) none) ∙ leads name w content told from logs n v good t up lost h covered has)

pub unchanged : RebuildIsPossible → VersionsDiffer → RebuildBrings → UnchangedIsRead
unchanged possible differ brings name w content told from logs n good t up lost h covered e =
    let v = (possible w good up lost n).0 in
    let has = (possible w good up lost n).2 in
    settled differ name w content told n v good t up lost has
    (sym (brought_same (name n) (content n (w.pages n).disk) (in_order (all_records logs)) e) ∙ brings name w content told from logs n v false good t up lost h covered has e)
