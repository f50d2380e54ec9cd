-- Each version of which logs tell is the page of zeros after patches that lie in pages.
use Rattle.std.proofs.Common.{◌≡◌, ℕ, zero, suc, ap, ◌∙◌, Bool, true, false, List, [], ◌∷◌, length, take, Option, Some, None}
use Rattle.std.specs.Prelude.{filter, if◌then◌else◌}
use Rattle.std.specs.List.{AllByRecursion}
use Rattle.std.proofs.lemmas.List.{length-replicate}
use Rattle.ds_base.specs.declared.names.PageId.{PageId}
use Rattle.ds_model.specs.RecordBytes.{BodyIsAllowed, ChangeIsAllowed, IsAllowed, StateIsAllowed}
use Rattle.ds_model.specs.declared.log.Body.{Body}
use Rattle.ds_model.specs.declared.log.Body.TheVariants as body
use Rattle.ds_model.specs.declared.log.LogRecord.{LogRecord}
use Rattle.ds_model.specs.declared.log.RowChange.{RowChange}
use Rattle.ds_model.specs.declared.log.Version.{Version}
use Rattle.page_format.specs.Fields.{page_size}
use Rattle.index_leaf.specs.Changes.{zeros as zero_bytes}
use Rattle.page_images.specs.Images.{zeros}
use Rattle.page_chain.specs.Chains.{after_record, changes_of, version_from}
use Rattle.log_tells.specs.Told.{IsDrawn, Told, chain_of, records_of}
use Rattle.page_numbers.specs.Numbers.{LieWithin}
use Rattle.page_numbers.specs.Recorded.{IsShort}
use Rattle.page_numbers.specs.Whole.{ToldAreWhole}
use Rattle.page_numbers.proofs.Drawn.{patches_lie}
use Rattle.page_numbers.proofs.Sizes.{has_slot}
use Rattle.page_numbers.proofs.Stamps.{Laws, written_whole}

-- ---- a record's patches lie in pages
short_of : (o : Option (List ℕ)) → StateIsAllowed o → IsShort o
short_of None allowed = tt
short_of (Some value) allowed = allowed.0

row_lies : (c : RowChange) → ChangeIsAllowed c → LieWithin (changes_of (body.RowChange c))
row_lies c h = ((has_slot c h.slot_in (short_of c.after h.after_is)).lies, tt)

body_lies : (v : Version) (b : Body) → BodyIsAllowed v b → LieWithin (changes_of b)
body_lies v (body.RowChange c) h = row_lies c h
body_lies v (body.Compensation c undone) h = row_lies c h.0
body_lies v (body.System patches) h = patches_lie patches h.each
body_lies v body.Commit h = tt
body_lies v body.Ended h = tt
body_lies v (body.Checkpoint offset) h = tt
body_lies v body.RestartEnd h = tt

zeros_whole : length zeros ≡ page_size
unfolding zero_bytes
zeros_whole = length-replicate page_size (let zero : ℕ = 0 in zero)

all_whole : Laws → (id : PageId) (records : List LogRecord) (page : List ℕ) → length page ≡ page_size → AllByRecursion IsAllowed records → length (version_from id page records) ≡ page_size
all_whole laws id [] page whole allowed = whole
all_whole laws id (r ∷ records) page whole allowed =
    all_whole laws id records (after_record id page r) (written_whole laws id r.lrsn (changes_of r.body) page whole (body_lies r.version r.body allowed.0.body_is)) allowed.1

-- ---- those of a page's chain
drawn_allowed : (counter : ℕ) (told : List Told) → AllByRecursion (IsDrawn counter) told → AllByRecursion (λ (t : Told). IsAllowed t.it) told
drawn_allowed counter [] each = tt
drawn_allowed counter (t ∷ told) each = (each.0.allowed, drawn_allowed counter told each.1)

chosen : (b : Bool) (P : Told → Type 0) (t : Told) (rest : List Told) → P t → AllByRecursion P rest → AllByRecursion P (if b then t ∷ rest else rest)
chosen true P t rest x all = (x, all)
chosen false P t rest x all = all

filtered : (f : Told → Bool) (P : Told → Type 0) (told : List Told) → AllByRecursion P told → AllByRecursion P (filter f told)
filtered f P [] all = tt
filtered f P (t ∷ told) all = chosen (f t) P t (filter f told) all.0 (filtered f P told all.1)

first_ones : (P : Told → Type 0) (n : ℕ) (told : List Told) → AllByRecursion P told → AllByRecursion P (take n told)
first_ones P zero told all = tt
first_ones P (suc n) [] all = tt
first_ones P (suc n) (t ∷ told) all = (all.0, first_ones P n told all.1)

of_records : (told : List Told) → AllByRecursion (λ (t : Told). IsAllowed t.it) told → AllByRecursion IsAllowed (records_of told)
of_records [] all = tt
of_records (t ∷ told) all = (all.0, of_records told all.1)

pub told_whole : Laws → ToldAreWhole
told_whole laws name w content told is n i within =
    let allowed = drawn_allowed w.group.counter told is.each in
    let chain = chain_of (name n) told in
    let chained = filtered _ (λ (t : Told). IsAllowed t.it) told allowed in
    ap length (is.versions n i within)
    ∙ all_whole laws (name n) (records_of (take i chain)) zeros zeros_whole (of_records (take i chain) (first_ones (λ (t : Told). IsAllowed t.it) i chain chained))
