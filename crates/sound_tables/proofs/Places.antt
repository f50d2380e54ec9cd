-- Rows stay in their places where the records of other patches leave each slot its key.
use Rattle.std.proofs.Common.{◌≡◌, ℕ, ◌≤◌, Bool, true, false, List, [], ◌∷◌, ◌++◌, Option, Some, None, Ok, refl, sym, ap, subst, ◌∙◌, arith, append_assoc}
use Rattle.std.specs.Prelude.{nat_lt, if◌then◌else◌}
use Rattle.std.specs.List.{AllByRecursion}
use Rattle.std.proofs.Math.Path.{fun_ext}
use Rattle.std.proofs.lemmas.Bool.{ltb-true}
use Rattle.std.proofs.lemmas.List.{append-nil}
use Rattle.ds_base.specs.Pages.{heap_page}
use Rattle.ds_base.specs.declared.names.PageId.{PageId}
use Rattle.ds_model.specs.declared.log.LogRecord.{LogRecord}
use Rattle.ds_model.specs.declared.log.RowChange.{RowChange}
use Rattle.ds_model.specs.declared.log.Body.{Body}
use Rattle.ds_model.specs.declared.log.Body.TheVariants as body
use Rattle.ds_model.specs.declared.log.Version.{Version}
use Rattle.ds_model.specs.RecordBytes.{IsAllowed, ChangeIsAllowed, BodyIsAllowed}
use Rattle.page_format.specs.Header.{first_fault, fields, header_in, is_zeros, empty_header, judged, header_of}
use Rattle.page_format.specs.declared.patch.Patch.{Patch}
use Rattle.heap_space.specs.Layout.{slot_at}
use Rattle.heap_space.specs.Slots.{content, slot_in, fault_in}
use Rattle.page_images.specs.Images.{Images, after_change}
use Rattle.page_chain.specs.Chains.{row_patch, changes_of, images_of, Follows, AreInOrder}
use Rattle.page_redo.specs.Rows.{or_fault, kind_fault, key_fault, slot_fault, headed_fault, change_fault}
use Rattle.sound_disk.specs.Layouts.{count_in}
use Rattle.log_record.specs.declared.log.Log.{Log}
use Rattle.sound_disk.specs.Whole_logs.{AreWholeLogs}
use Rattle.sound_disk.specs.Transactions.{AreTransactions}
use Rattle.sound_disk.specs.Rows_there.{key_in, IsPlaceOf, Stood, SlotsStay, BodyStood, BeforesAgree}
use Rattle.sound_disk.specs.Tables.{AreTables}
use Rattle.sound_disk.specs.Versions.{merged}
use Rattle.sound_tables.specs.Keeping.{HasItsSlot, RowsStayInPlace, IsMadeBy, FindsItsSlot}
use Rattle.sound_tables.proofs.Kept_tables.{IsBehind, place_behind, change_found}
use Rattle.sound_tables.proofs.Pages_behind.{Known, is_behind}

-- ---- a change that met its row has its slot

or_second : (f g : Option ℕ) → or_fault f g ≡ None → g ≡ None
or_second None g h = h
or_second (Some at) g h = absurd cc

if_true : (b : Bool) (x : Option ℕ) (at : ℕ) → (if b then x else Some at) ≡ None → b ≡ true
if_true true x at h = refl
if_true false x at h = absurd cc

slot_given : (page : List ℕ) (slot key : ℕ) → slot_fault slot key page (header_in page) ≡ None → nat_lt slot (count_in page) ≡ true
slot_given page slot key h =
    if_true (nat_lt slot (count_in page)) (or_fault (fault_in page slot) (key_fault key (slot_at slot) (content (slot_in page slot)))) 26 h

given_when : (z : Bool) (fault : Option ℕ) (page : List ℕ) (slot key : ℕ) → headed_fault slot key page (if z then Ok empty_header else judged fault (header_in page)) ≡ None → nat_lt slot (count_in page) ≡ true
given_when true fault page slot key h = absurd cc
given_when false (Some at) page slot key h = absurd cc
given_when false None page slot key h =
    let second : slot_fault slot key page (header_in page) ≡ None = or_second (kind_fault (header_in page).kind) (slot_fault slot key page (header_in page)) h in
    slot_given page slot key second

given_by : (id : PageId) (page : List ℕ) (c : RowChange) → change_fault id c page ≡ None → nat_lt c.place.slot (count_in page) ≡ true
unfolding header_of
given_by id page c h = given_when (is_zeros page) (first_fault (fields page id)) page c.place.slot c.key h

slot_of : (rs : List LogRecord) (c : RowChange) → Stood rs c → IsPlaceOf (images_of rs) c.table c.key c.place
slot_of rs c h =
    let page = images_of rs (heap_page c.table c.place.page) in
    record { given = ltb-true c.place.slot (count_in page) (given_by (heap_page c.table c.place.page) page c h.slot); key_is = ap key_in h.there }

-- ---- behind a row's change

slot_stays : Known → (rs : List LogRecord) (r : LogRecord) (c : RowChange) → IsBehind (images_of rs) (images_of (rs ++ r ∷ [])) c r.lrsn → IsPlaceOf (images_of rs) c.table c.key c.place → (v : Version) (b : Body) → BodyIsAllowed v b
    → HasItsSlot (images_of rs) b → HasItsSlot (images_of (rs ++ r ∷ [])) b
slot_stays k rs r c pages slot v (body.RowChange d) allowed h = place_behind k.page (images_of rs) (images_of (rs ++ r ∷ [])) c r.lrsn pages slot d.table allowed.table_in.0 d.key d.place h
slot_stays k rs r c pages slot v (body.Compensation d n) allowed h = place_behind k.page (images_of rs) (images_of (rs ++ r ∷ [])) c r.lrsn pages slot d.table allowed.0.table_in.0 d.key d.place h
slot_stays k rs r c pages slot v (body.System patches) allowed h = tt
slot_stays k rs r c pages slot v body.Commit allowed h = tt
slot_stays k rs r c pages slot v body.Ended allowed h = tt
slot_stays k rs r c pages slot v (body.Checkpoint offset) allowed h = tt
slot_stays k rs r c pages slot v body.RestartEnd allowed h = tt

each_with : (P Q R : LogRecord → Type 0) (rs : List LogRecord) (r : LogRecord) → ((s : LogRecord) → P s → Q s → R s) → AllByRecursion P rs → AllByRecursion Q rs → R r → AllByRecursion R (rs ++ r ∷ [])
each_with P Q R [] r f p q h = (h, tt)
each_with P Q R (s ∷ rs) r f p q h = (f s p.0 q.0, each_with P Q R rs r f p.1 q.1 h)

-- ---- with one record more

abbrev pub InPlace : List LogRecord → Type 0
InPlace rs = AllByRecursion (λ (s : LogRecord). HasItsSlot (images_of rs) s.body) rs

each_more : (P : LogRecord → Type 0) (rs : List LogRecord) (r : LogRecord) → AllByRecursion P rs → P r → AllByRecursion P (rs ++ r ∷ [])
each_more P [] r h k = (k, tt)
each_more P (s ∷ rs) r h k = (h.0, each_more P rs r h.1 k)

-- a row's change
row_with : Known → (rs : List LogRecord) (r : LogRecord) (c : RowChange) → changes_of r.body ≡ row_patch c ∷ [] → AllByRecursion IsAllowed rs → IsAllowed r → ChangeIsAllowed c → 1 ≤ r.lrsn → Stood rs c
    → HasItsSlot (images_of rs) r.body → InPlace rs → InPlace (rs ++ r ∷ [])
row_with k rs r c is all allowed change low stood own h =
    let pages = is_behind k rs r c is all allowed change low in
    let slot = slot_of rs c stood in
    each_with (λ (s : LogRecord). IsAllowed s) (λ (s : LogRecord). HasItsSlot (images_of rs) s.body) (λ (s : LogRecord). HasItsSlot (images_of (rs ++ r ∷ [])) s.body) rs r
    (λ s a b. slot_stays k rs r c pages slot s.version s.body a.body_is b) all h
    (slot_stays k rs r c pages slot r.version r.body allowed.body_is own)

-- a record that changes no page
none_with : Known → (rs : List LogRecord) (r : LogRecord) → changes_of r.body ≡ [] → HasItsSlot (images_of (rs ++ r ∷ [])) r.body → InPlace rs → InPlace (rs ++ r ∷ [])
none_with k rs r none own h =
    let same : images_of rs ≡ images_of (rs ++ r ∷ []) = fun_ext (λ id. sym (k.grows rs r id ∙ ap (λ (ps : List Patch). after_change r.lrsn ps (images_of rs) id) none)) in
    each_more (λ (s : LogRecord). HasItsSlot (images_of (rs ++ r ∷ [])) s.body) rs r
    (subst (λ (at : Images). AllByRecursion (λ (s : LogRecord). HasItsSlot at s.body) rs) same h) own

-- other patches
slot_kept : (before after : Images) (v : Version) (b : Body) → SlotsStay before after → BodyIsAllowed v b → HasItsSlot before b → HasItsSlot after b
slot_kept before after v (body.RowChange d) stay allowed h = stay d.table d.key d.place allowed.table_in allowed.slot_in h
slot_kept before after v (body.Compensation d n) stay allowed h = stay d.table d.key d.place allowed.0.table_in allowed.0.slot_in h
slot_kept before after v (body.System ps) stay allowed h = tt
slot_kept before after v body.Commit stay allowed h = tt
slot_kept before after v body.Ended stay allowed h = tt
slot_kept before after v (body.Checkpoint offset) stay allowed h = tt
slot_kept before after v body.RestartEnd stay allowed h = tt

patches_with : Known → (rs : List LogRecord) (r : LogRecord) (patches : List Patch) → changes_of r.body ≡ patches → AllByRecursion IsAllowed rs → SlotsStay (images_of rs) (after_change r.lrsn patches (images_of rs)) → HasItsSlot (images_of (rs ++ r ∷ [])) r.body
    → InPlace rs → InPlace (rs ++ r ∷ [])
patches_with k rs r patches is all stay own h =
    let grown : after_change r.lrsn patches (images_of rs) ≡ images_of (rs ++ r ∷ []) = fun_ext (λ id. ap (λ (ps : List Patch). after_change r.lrsn ps (images_of rs) id) (sym is) ∙ sym (k.grows rs r id)) in
    let next : SlotsStay (images_of rs) (images_of (rs ++ r ∷ [])) = subst (SlotsStay (images_of rs)) grown stay in
    each_with (λ (s : LogRecord). IsAllowed s) (λ (s : LogRecord). HasItsSlot (images_of rs) s.body) (λ (s : LogRecord). HasItsSlot (images_of (rs ++ r ∷ [])) s.body) rs r
    (λ s a b. slot_kept (images_of rs) (images_of (rs ++ r ∷ [])) s.version s.body next a.body_is b) all h own

places_with : Known → (rs : List LogRecord) (r : LogRecord) (low : ℕ) (b : Body) → r.body ≡ b → AllByRecursion IsAllowed rs → IsAllowed r → BodyIsAllowed r.version b → Follows low r (changes_of b) → BodyStood rs r.lrsn b → InPlace rs → InPlace (rs ++ r ∷ [])
places_with k rs r low (body.RowChange c) is all allowed fits order stood h =
    row_with k rs r c (ap changes_of is) all allowed fits (omega (arith, order)) stood (subst (HasItsSlot (images_of rs)) (sym is) (slot_of rs c stood)) h
places_with k rs r low (body.Compensation c n) is all allowed fits order stood h =
    row_with k rs r c (ap changes_of is) all allowed fits.0 (omega (arith, order)) stood (subst (HasItsSlot (images_of rs)) (sym is) (slot_of rs c stood)) h
places_with k rs r low (body.System patches) is all allowed fits order stood h = patches_with k rs r patches (ap changes_of is) all stood (subst (HasItsSlot (images_of (rs ++ r ∷ []))) (sym is) tt) h
places_with k rs r low body.Commit is all allowed fits order stood h = none_with k rs r (ap changes_of is) (subst (HasItsSlot (images_of (rs ++ r ∷ []))) (sym is) tt) h
places_with k rs r low body.Ended is all allowed fits order stood h = none_with k rs r (ap changes_of is) (subst (HasItsSlot (images_of (rs ++ r ∷ []))) (sym is) tt) h
places_with k rs r low (body.Checkpoint offset) is all allowed fits order stood h = none_with k rs r (ap changes_of is) (subst (HasItsSlot (images_of (rs ++ r ∷ []))) (sym is) tt) h
places_with k rs r low body.RestartEnd is all allowed fits order stood h = none_with k rs r (ap changes_of is) (subst (HasItsSlot (images_of (rs ++ r ∷ []))) (sym is) tt) h

-- ---- all records

places_from : Known → (earlier rs : List LogRecord) (low : ℕ) → AllByRecursion IsAllowed earlier → AllByRecursion IsAllowed rs → AreInOrder low rs → BeforesAgree earlier rs → InPlace earlier → InPlace (earlier ++ rs)
places_from k earlier [] low all more order stood h = subst InPlace (sym (append-nil earlier)) h
places_from k earlier (r ∷ rs) low all more order stood h =
    subst InPlace (append_assoc earlier (r ∷ []) rs)
    (places_from k (earlier ++ r ∷ []) rs r.lrsn (each_more IsAllowed earlier r all more.0) more.1 order.1 stood.1
    (places_with k earlier r low r.body refl all more.0 more.0.body_is order.0 stood.0 h))

pub in_place : Known → (bytes : List (List ℕ)) (logs : List Log) → AreWholeLogs 1 bytes logs → AreTransactions logs → AreTables logs → RowsStayInPlace logs
in_place k bytes logs w h t = let rs = k.merged bytes logs w h in places_from k [] (merged logs) 0 tt rs.0 rs.1 t.befores tt

-- ---- a change of one of them

each_at : (P : LogRecord → Type 0) (front : List LogRecord) (it : LogRecord) (back : List LogRecord) → AllByRecursion P (front ++ it ∷ back) → P it
each_at P [] it back h = h.0
each_at P (x ∷ xs) it back h = each_at P xs it back h.1

-- what holds of all records holds of the one that made the change
pub of_made : (P : LogRecord → Type 0) (rs : List LogRecord) (c : RowChange) → AllByRecursion P rs → (m : IsMadeBy rs c) → P m.it
of_made P rs c h m = each_at P m.front m.it m.back (subst (AllByRecursion P) m.split h)

pub change_allowed : (v : Version) (b : Body) (c : RowChange) → b ≡ body.RowChange c → BodyIsAllowed v b → ChangeIsAllowed c
change_allowed v b c is h = subst (BodyIsAllowed v) is h

pub made_found : Known → FindsItsSlot
made_found k bytes logs c w h t m =
    let rs = merged logs in
    let allowed : IsAllowed m.it = of_made IsAllowed rs c (k.merged bytes logs w h).0 m in
    let fits : ChangeIsAllowed c = change_allowed m.it.version m.it.body c m.changes allowed.body_is in
    let own : HasItsSlot (images_of rs) m.it.body = of_made (λ (s : LogRecord). HasItsSlot (images_of rs) s.body) rs c (in_place k bytes logs w h t) m in
    change_found rs c fits (subst (HasItsSlot (images_of rs)) m.changes own) (t.tables c.table fits.table_in)
