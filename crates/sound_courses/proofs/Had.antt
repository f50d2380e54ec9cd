-- The pages of a disk have what the records of its logs change, where each is as all records leave it.
use Rattle.std.proofs.Common.{◌≡◌, ℕ, ◌+◌, ◌≤◌, Bool, true, false, cond, List, [], ◌∷◌, ◌++◌, refl, sym, subst, append_assoc, arith, inl, inr}
use Rattle.std.specs.Prelude.{◌||◌, ◌==◌, nat_le, not}
use Rattle.std.specs.List.{list_any, list_all, AllByRecursion}
use Rattle.std.proofs.lemmas.Bool.{and_from, both_ways, cond_both, le-leb, or_left, or_right}
use Rattle.ds_base.specs.Pages.{same_page}
use Rattle.ds_base.specs.declared.names.PageId.{PageId}
use Rattle.ds_model.specs.RecordBytes.{IsAllowed}
use Rattle.ds_model.specs.declared.log.LogRecord.{LogRecord}
use Rattle.ds_model.specs.declared.log.Body.{Body}
use Rattle.ds_model.specs.declared.log.Body.TheVariants as body
use Rattle.log_record.specs.declared.log.Log.{Log}
use Rattle.log_merge.specs.Merging.{all_records, in_order, is_merged, kept, NoneFalls, StandsIn, KeepsOrders}
use Rattle.page_chain.specs.Chains.{changes_of, touches, version_of, AreInOrder, AreRecords}
use Rattle.page_format.specs.Fields.{lrsn_of}
use Rattle.page_format.specs.declared.patch.Patch.{Patch}
use Rattle.page_images.specs.Images.{Images}
use Rattle.sound_disk.specs.Checkpoints.{is_in_pages, changes_pages}
use Rattle.sound_disk.specs.Versions.{merged, last_images}
use Rattle.sound_disk.specs.Whole_logs.{AreWholeLogs}
use Rattle.sound_plans.specs.Queues.{records_for}
use Rattle.sound_restarts.proofs.Page_writes.{same_self}
use Rattle.sound_restarts.proofs.Versions.{VersionLaws, version_rises}

-- ---- the last version of each page that the record changes has its change

abbrev pub IsHad : List LogRecord → LogRecord → Type 0
IsHad all r = (id : PageId) → touches id r ≡ true → r.lrsn ≤ lrsn_of (version_of id all)

allowed_front : (xs ys : List LogRecord) → AllByRecursion IsAllowed (xs ++ ys) → AllByRecursion IsAllowed xs
allowed_front [] ys h = tt
allowed_front (x ∷ xs) ys h = (h.0, allowed_front xs ys h.1)

order_front : (low : ℕ) (xs ys : List LogRecord) → AreInOrder low (xs ++ ys) → AreInOrder low xs
order_front low [] ys h = tt
order_front low (x ∷ xs) ys h = (h.0, order_front x.lrsn xs ys h.1)

are_front : (xs ys : List LogRecord) → AreRecords (xs ++ ys) → AreRecords xs
are_front xs ys h = (allowed_front xs ys h.0, order_front 0 xs ys h.1)

had_one : VersionLaws → (earlier : List LogRecord) (r : LogRecord) (rest : List LogRecord) → AreRecords ((earlier ++ r ∷ []) ++ rest) → IsHad ((earlier ++ r ∷ []) ++ rest) r
had_one k earlier r rest are id t =
    let up = version_rises k id (earlier ++ r ∷ []) rest are in
    let is : lrsn_of (version_of id (earlier ++ r ∷ [])) ≡ r.lrsn = k.number earlier r id (are_front (earlier ++ r ∷ []) rest are) t in
    omega (arith, up, is)

had_from : VersionLaws → (earlier rest : List LogRecord) → AreRecords (earlier ++ rest) → AllByRecursion (IsHad (earlier ++ rest)) rest
had_from k earlier [] are = tt
had_from k earlier (r ∷ rs) are =
    let on : (earlier ++ r ∷ []) ++ rs ≡ earlier ++ r ∷ rs = append_assoc earlier (r ∷ []) rs in
    let all : AreRecords ((earlier ++ r ∷ []) ++ rs) = subst AreRecords (sym on) are in
    subst (λ (l : List LogRecord). IsHad l r × AllByRecursion (IsHad l) rs) on (had_one k earlier r rs all, had_from k (earlier ++ r ∷ []) rs all)

-- ---- in each log

all_in : (P : LogRecord → Type 0) (xs ys : List LogRecord) → StandsIn xs ys → AllByRecursion P ys → AllByRecursion P xs
all_in P [] ys h all = tt
all_in P (x ∷ xs) [] h all = absurd h
all_in P (x ∷ xs) (y ∷ ys) (inl h) all = (subst P (sym h.0) all.0, all_in P xs ys h.1 all.1)
all_in P (x ∷ xs) (y ∷ ys) (inr h) all = all_in P (x ∷ xs) ys h all.1

any_merged : (b : Body) (id : PageId) → list_any (λ (p : Patch). same_page p.page id) (changes_of b) ≡ true → is_merged b ≡ true
any_merged (body.RowChange c) id h = refl
any_merged (body.Compensation c undone) id h = refl
any_merged (body.System ps) id h = refl
any_merged body.Commit id h = refl
any_merged body.Ended id h = absurd cc
any_merged (body.Checkpoint offset) id h = absurd cc
any_merged body.RestartEnd id h = absurd cc

one_of : (all : List LogRecord) (b : Bool) (r : LogRecord) (rs : List LogRecord) → is_merged r.body ≡ b → AllByRecursion (IsHad all) (cond b (r ∷ rs) rs) → IsHad all r × AllByRecursion (IsHad all) rs
one_of all true r rs e h = (h.0, h.1)
one_of all false r rs e h = (λ id t. absurd (both_ways (is_merged r.body) e (any_merged r.body id t)), h)

not_kept : (all rs : List LogRecord) → AllByRecursion (IsHad all) (kept rs) → AllByRecursion (IsHad all) rs
not_kept all [] h = tt
not_kept all (r ∷ rs) h = let one = one_of all (is_merged r.body) r (kept rs) refl h in (one.0, not_kept all rs one.1)

each_log : (all : List LogRecord) (logs : List Log) → KeepsOrders logs all → AllByRecursion (IsHad all) all → AllByRecursion (λ (l : Log). AllByRecursion (IsHad all) l.records) logs
each_log all [] h had = tt
each_log all (l ∷ logs) h had = (not_kept all l.records (all_in (IsHad all) (kept l.records) all h.0 had), each_log all logs h.1 had)

none_falls : (m : ℕ) (bytes : List (List ℕ)) (logs : List Log) → AreWholeLogs m bytes logs → NoneFalls logs
none_falls m [] [] h = tt
none_falls m [] (l ∷ logs) h = absurd h
none_falls m (b ∷ bytes) [] h = absurd h
none_falls m (b ∷ bytes) (l ∷ logs) h = (h.0.rising, none_falls (m + 1) bytes logs h.1)

of_member : (P : LogRecord → Type 0) (logs : List Log) (m : ℕ) → AllByRecursion (λ (l : Log). AllByRecursion P l.records) logs → AllByRecursion P (records_for logs m)
of_member P [] m h = tt
of_member P (l ∷ logs) m h = cond_both (l.member == m) l.records (records_for logs m) (AllByRecursion P) (λ _. h.0) (λ _. of_member P logs m h.1)

-- ---- in the pages

patches_in : (at : Images) (lrsn : ℕ) (ps : List Patch) → ((id : PageId) → list_any (λ (p : Patch). same_page p.page id) ps ≡ true → lrsn ≤ lrsn_of (at id)) → list_all (λ (p : Patch). nat_le lrsn (lrsn_of (at p.page))) ps ≡ true
patches_in at lrsn [] each = refl
patches_in at lrsn (p ∷ ps) each =
    and_from (nat_le lrsn (lrsn_of (at p.page))) (list_all (λ (q : Patch). nat_le lrsn (lrsn_of (at q.page))) ps)
    (le-leb lrsn (lrsn_of (at p.page)) (each p.page (or_left (same_page p.page p.page) (list_any (λ (q : Patch). same_page q.page p.page) ps) (same_self p.page))))
    (patches_in at lrsn ps (λ id t. each id (or_right (same_page p.page id) (list_any (λ (q : Patch). same_page q.page id) ps) t)))

records_in : (at : Images) (all rs : List LogRecord) → ((id : PageId) → lrsn_of (version_of id all) ≤ lrsn_of (at id)) → AllByRecursion (IsHad all) rs → list_all (λ (r : LogRecord). not (changes_pages r) || is_in_pages at r) rs ≡ true
records_in at all [] up h = refl
records_in at all (r ∷ rs) up h =
    and_from (not (changes_pages r) || is_in_pages at r) (list_all (λ (q : LogRecord). not (changes_pages q) || is_in_pages at q) rs)
    (or_right (not (changes_pages r)) (is_in_pages at r) (patches_in at r.lrsn (changes_of r.body) (λ id t. let low = h.0 id t in let high = up id in omega (arith, low, high))))
    (records_in at all rs up h.1)

abbrev pub OrdersKept : Type 0
OrdersKept = (logs : List Log) → NoneFalls logs → KeepsOrders logs (in_order (all_records logs))

-- where no page has a lower number than the last version, the pages have the records of each log
pub all_in_pages : VersionLaws → OrdersKept → (at : Images) (bytes : List (List ℕ)) (logs : List Log) (member : ℕ) → AreWholeLogs 1 bytes logs → AreRecords (merged logs) → ((id : PageId) → lrsn_of (last_images logs id) ≤ lrsn_of (at id))
    → list_all (λ (r : LogRecord). not (changes_pages r) || is_in_pages at r) (records_for logs member) ≡ true
all_in_pages k orders at bytes logs member w are up =
    records_in at (merged logs) (records_for logs member) up
    (of_member (IsHad (merged logs)) logs member (each_log (merged logs) logs (orders logs (none_falls 1 bytes logs w)) (had_from k [] (merged logs) are)))
