-- A page to which no record was applied is as it was.
use Rattle.std.proofs.Common.{◌≡◌, ℕ, Bool, true, false, cond, refl, ap, ◌∙◌, List, [], ◌∷◌, Option, Some, None, Result, Ok, Err}
use Rattle.std.specs.Prelude.{◌&&◌, ◌||◌, nat_lt}
use Rattle.std.proofs.lemmas.Bool.{or_parts}
use Rattle.ds_base.specs.declared.names.PageId.{PageId}
use Rattle.ds_model.specs.declared.log.LogRecord.{LogRecord}
use Rattle.page_format.specs.Fields.{lrsn_of}
use Rattle.page_format.specs.Header.{header_of}
use Rattle.page_format.specs.declared.header.Header.{Header}
use Rattle.page_format.specs.declared.header.NotAPage.{NotAPage}
use Rattle.page_redo.specs.declared.fault.FieldFault.{FieldFault}
use Rattle.page_redo.specs.Forward.{Forward, after_one, body_fault, brought_forward, forward_from, go_on, has_patch, headed, patches_of, unless}
use Rattle.places_redo.specs.Picked.{brought_at, picked}

one_same : (id : PageId) (page : List ℕ) (r : LogRecord) → (after_one id page r).outcome ≡ Ok false → (after_one id page r).page ≡ page
one_same id page r = when (nat_lt (lrsn_of page) r.lrsn && has_patch id (patches_of r.body)) (body_fault id page r.body)
  where
    when : (b : Bool) (o : Option ℕ) → (cond b (unless o id page r) (record { page = page; outcome = Ok false })).outcome ≡ Ok false → (cond b (unless o id page r) (record { page = page; outcome = Ok false })).page ≡ page
    when true (Some at) e = cc
    when true None e = cc
    when false o e = refl

run_same : (id : PageId) (rs : List LogRecord) (page : List ℕ) (applied : Bool) → (forward_from id page applied rs).outcome ≡ Ok false → (applied ≡ false) × ((forward_from id page applied rs).page ≡ page)
run_same id [] page true e = cc
run_same id [] page false e = (refl, refl)
run_same id (r ∷ rs) page applied e = step (after_one id page r) (one_same id page r) (λ p b. run_same id rs p b) applied e
  where
    both : (a b : Bool) → (a || b) ≡ false → (a ≡ false) × (b ≡ false)
    both a b h = or_parts a b h

    by : (p : List ℕ) (o : Result Bool FieldFault) → (o ≡ Ok false → p ≡ page) → ((q : List ℕ) (b : Bool) → (forward_from id q b rs).outcome ≡ Ok false → (b ≡ false) × ((forward_from id q b rs).page ≡ q)) → (applied : Bool)
        → (go_on (λ q b. forward_from id q b rs) applied p o).outcome ≡ Ok false → (applied ≡ false) × ((go_on (λ q b. forward_from id q b rs) applied p o).page ≡ page)
    by p (Err fault) same rest applied e = cc
    by p (Ok one) same rest applied e =
        let left = rest p (applied || one) e in
        let parts = both applied one left.0 in
        (parts.0, left.1 ∙ same (ap Ok parts.1))

    step : (f : Forward) → (f.outcome ≡ Ok false → f.page ≡ page) → ((p : List ℕ) (b : Bool) → (forward_from id p b rs).outcome ≡ Ok false → (b ≡ false) × ((forward_from id p b rs).page ≡ p)) → (applied : Bool)
        → (go_on (λ p b. forward_from id p b rs) applied f.page f.outcome).outcome ≡ Ok false → (applied ≡ false) × ((go_on (λ p b. forward_from id p b rs) applied f.page f.outcome).page ≡ page)
    step f same rest applied e = by f.page f.outcome same rest applied e

forward_same : (id : PageId) (page : List ℕ) (rs : List LogRecord) → (brought_forward id page rs).outcome ≡ Ok false → (brought_forward id page rs).page ≡ page
forward_same id page rs e = by (header_of page id) e
  where
    by : (h : Result Header NotAPage) → (headed id page rs h).outcome ≡ Ok false → (headed id page rs h).page ≡ page
    by (Err x) e = cc
    by (Ok x) e = (run_same id rs page false e).1

pub brought_same : (id : PageId) (page : List ℕ) (records : List LogRecord) (places : List ℕ) → (brought_at id page records places).outcome ≡ Ok false → (brought_at id page records places).page ≡ page
unfolding brought_at
brought_same id page records places e = forward_same id page (picked records places) e
