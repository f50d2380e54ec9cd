-- A recovery leads to last versions.
use Rattle.std.proofs.Common.{◌≡◌, ℕ, ◌+◌, Bool, true, false, cond, List, [], ◌∷◌, ◌++◌, Result, Ok, Err, refl, sym, ap, subst, ◌∙◌}
use Rattle.ds_base.specs.declared.names.PageId.{PageId}
use Rattle.ds_disk.specs.Contents.{Contents}
use Rattle.ds_disk.specs.Pages.{page_at}
use Rattle.ds_model.specs.declared.log.LogRecord.{LogRecord}
use Rattle.log_record.specs.declared.log.Log.{Log}
use Rattle.log_record.specs.Logs.{Parts, parts_in, parts_of}
use Rattle.page_chain.specs.Chains.{version_of, IsVersion, AreRecords}
use Rattle.page_images.specs.Images.{Images, zeros}
use Rattle.page_redo.specs.declared.fault.FieldFault.{FieldFault}
use Rattle.page_redo.specs.Forward.{brought_forward, ReachesLast}
use Rattle.page_redo.specs.Pages.{has_page}
use Rattle.sound_disk.specs.Whole_logs.{AreWholeLogs}
use Rattle.sound_disk.specs.Transactions.{AreTransactions}
use Rattle.sound_disk.specs.Versions.{merged, last_images}
use Rattle.sound_disk.specs.Laws.{AreRead, AreMerged}
use Rattle.table_image_text.specs.Image.{page_in}
use Rattle.copy_recover.specs.Recovered.{holds, place_in, taken_from, written_names, recovered, with_written, IsOk}
use Rattle.copy_recover.specs.Recovering.{AreLogsOf, IsRecovered}
use Rattle.recovery_laws.specs.Laws.{HoldsVersions, AreRecovered, RecoversLast}
use Rattle.copy_recover.proofs.Name_lists.{decide}

-- ---- the logs are those that were read

same_log : (a b : Log) → a.member ≡ b.member → parts_of a ≡ parts_of b → a ≡ b
same_log a b p q = λ i. record { member = p i; records = (q i).records; length = (q i).size; tail = (q i).tail }

same_parts : (bytes : List ℕ) (p q : Parts) → parts_in bytes ≡ Ok p → parts_in bytes ≡ Ok q → p ≡ q
same_parts bytes p q h k = cc

pub same_logs : AreRead → (m : ℕ) (bytes : List (List ℕ)) (logs others : List Log) → AreWholeLogs m bytes logs → AreLogsOf m bytes others → others ≡ logs
same_logs read m [] [] [] h k = refl
same_logs read m [] [] (o ∷ others) h k = absurd k
same_logs read m [] (l ∷ logs) others h k = absurd h
same_logs read m (b ∷ bytes) [] others h k = absurd h
same_logs read m (b ∷ bytes) (l ∷ logs) [] h k = absurd k
same_logs read m (b ∷ bytes) (l ∷ logs) (o ∷ others) h k =
    let one = same_log o l (k.0 ∙ sym h.0.member_is) (same_parts b (parts_of o) (parts_of l) k.1.is_read (read m b l h.0)) in
    let rest = same_logs read (m + 1) bytes logs others h.1 k.2 in
    ap (λ (x : Log). x ∷ others) one ∙ ap (λ (xs : List Log). l ∷ xs) rest

-- ---- a page is brought forward to its last version

reaches : ReachesLast → (id : PageId) (page : List ℕ) (records : List LogRecord) (applied : Bool) → AreRecords records → IsVersion id records page
    → (brought_forward id page records).outcome ≡ Ok applied → (brought_forward id page records).page ≡ version_of id records
reaches last id page records applied are v ok =
    let both = v.first ++ v.rest in
    let at_front : (brought_forward id page both).outcome ≡ Ok applied → (brought_forward id page both).page ≡ version_of id both =
    subst (λ (p : List ℕ). (brought_forward id p both).outcome ≡ Ok applied → (brought_forward id p both).page ≡ version_of id both) (sym v.bytes)
    (last id v.first v.rest applied (subst (λ (rs : List LogRecord). AreRecords rs) v.whole are))
    in
    subst (λ (rs : List LogRecord). (brought_forward id page rs).outcome ≡ Ok applied → (brought_forward id page rs).page ≡ version_of id rs) (sym v.whole) at_front ok

reaches_ok : ReachesLast → (id : PageId) (page : List ℕ) (records : List LogRecord) → AreRecords records → IsVersion id records page
    → (o : Result Bool FieldFault) → (brought_forward id page records).outcome ≡ o → IsOk o → (brought_forward id page records).page ≡ version_of id records
reaches_ok last id page records are v (Ok applied) is h = reaches last id page records applied are v is
reaches_ok last id page records are v (Err f) is h = absurd h

pub is_version : (image : List ℕ) (table : ℕ) (records : List LogRecord) (id : PageId) → HoldsVersions image table records → IsVersion id records (taken_from image table id)
is_version image table records id h =
    decide (holds image table id) _
    (λ e. h id e)
    (λ e. record { first = []; rest = records; whole = refl; bytes = ap (λ (b : Bool). cond b (page_in image (place_in image table id)) zeros) e })

page_reached : ReachesLast → (image : List ℕ) (table : ℕ) (records : List LogRecord) (id : PageId) → AreRecords records → HoldsVersions image table records
    → IsOk (recovered image table records id).outcome → (recovered image table records id).page ≡ version_of id records
unfolding recovered
page_reached last image table records id are h ok =
    reaches_ok last id (taken_from image table id) records are (is_version image table records id h) (brought_forward id (taken_from image table id) records).outcome refl ok

chosen : (b : Bool) (x y z : List ℕ) → (b ≡ true → x ≡ y) → cond b x z ≡ cond b y z
chosen true x y z h = h refl
chosen false x y z h = refl

written_is : (image : List ℕ) (table : ℕ) (records : List LogRecord) (names : List PageId) (at : Images) (id : PageId)
    → with_written image table records names at id ≡ cond (has_page names id) (recovered image table records id).page (at id)
unfolding with_written
written_is image table records names at id = refl

with_same_logs : ReachesLast → AreMerged → (c d : Contents) (image : List ℕ) (table pages : ℕ) (logs : List Log) → AreWholeLogs 1 c.logs logs → AreTransactions logs → HoldsVersions image table (merged logs)
    → (h : IsRecovered c d image table pages) → h.logs ≡ logs → AreRecovered c d logs (written_names image table (merged logs))
with_same_logs last are_merged c d image table pages logs whole trans versions h same =
    let are = are_merged c.logs logs whole trans in
    let named : (id : PageId) → has_page (written_names image table (merged logs)) id ≡ true → IsOk (recovered image table (merged logs) id).outcome =
    subst (λ (l : List Log). (id : PageId) → has_page (written_names image table (merged l)) id ≡ true → IsOk (recovered image table (merged l) id).outcome) same h.in_order
    in
    let pages_are : (id : PageId) → page_at d.pages id ≡ with_written image table (merged logs) (written_names image table (merged logs)) (page_at c.pages) id =
    subst (λ (l : List Log). (id : PageId) → page_at d.pages id ≡ with_written image table (merged l) (written_names image table (merged l)) (page_at c.pages) id) same h.pages_are
    in
    record {
      pages = λ id.
          pages_are id
          ∙ written_is image table (merged logs) (written_names image table (merged logs)) (page_at c.pages) id
          ∙ chosen (has_page (written_names image table (merged logs)) id) (recovered image table (merged logs) id).page (last_images logs id) (page_at c.pages id)
          (λ e. page_reached last image table (merged logs) id are versions (named id e));
      logs_stay = h.logs_stay;
    }

pub recovers_last : ReachesLast → AreRead → AreMerged → RecoversLast
recovers_last last read are_merged c d image table pages logs whole trans versions h =
    with_same_logs last are_merged c d image table pages logs whole trans versions h (same_logs read 1 c.logs logs h.logs whole h.taken.logs_are.are)
