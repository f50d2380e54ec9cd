-- The pages of the disk are versions by the records and one more.
use Rattle.std.proofs.Common.{◌≡◌, ℕ, ◌+◌, ◌-◌, Bool, true, false, List, [], ◌∷◌, ◌++◌, length, Option, Some, inl, inr, refl, sym, ap, subst, ◌∙◌, arith, append_assoc}
use Rattle.std.specs.Prelude.{not, ◌||◌, ◌&&◌, slice_get}
use Rattle.std.specs.List.{list_any}
use Rattle.std.proofs.lemmas.Bool.{or_cases, or_left, or_right, and_from, and_parts, both_ways}
use Rattle.std.proofs.lemmas.List.{length_push}
use Rattle.std.proofs.lemmas.List.Folds.{list_any-append}
use Rattle.ds_base.specs.declared.names.PageId.{PageId}
use Rattle.ds_model.specs.declared.log.LogRecord.{LogRecord}
use Rattle.ds_model.specs.declared.log.Body.{Body}
use Rattle.ds_model.specs.declared.log.Body.TheVariants as body
use Rattle.ds_model.specs.RecordBytes.{is_written}
use Rattle.page_format.specs.Fields.{is_old}
use Rattle.log_record.specs.declared.log.Log.{Log}
use Rattle.log_merge.specs.Merging.{kept}
use Rattle.page_images.specs.Images.{Images}
use Rattle.page_chain.specs.Chains.{IsVersion}
use Rattle.restart_plan.specs.Opened.{is_restart_end}
use Rattle.restart_plan.specs.Renewal.{is_old as is_old_record, is_ended, asks_renewal, must_renew}
use Rattle.sound_disk.specs.Versions.{merged, current, AreVersions}
use Rattle.sound_disk.specs.Laws.{with_record}
use Rattle.sound_appends.specs.Appends.{Appends}
use Rattle.sound_appends.specs.Laws.{StandsBehind, AreRenewedBefore}

-- ---- renewal

last_got : (rs : List LogRecord) (r : LogRecord) → slice_get (rs ++ r ∷ []) (length rs) ≡ Some r
last_got [] r = refl
last_got (x ∷ xs) r = last_got xs r

last_is : (rs : List LogRecord) (r : LogRecord) → slice_get (rs ++ r ∷ []) (length (rs ++ r ∷ []) - 1) ≡ Some r
last_is rs r =
    let size : length (rs ++ r ∷ []) ≡ length rs + 1 = length_push rs r in
    let place : length rs ≡ length (rs ++ r ∷ []) - 1 = omega (arith, size) in
    subst (λ (k : ℕ). slice_get (rs ++ r ∷ []) k ≡ Some r) place (last_got rs r)

not_ended : (w e : Bool) → e ≡ false → not (w && e) ≡ true
not_ended true e h = ap not h
not_ended false e h = refl

asks_still : (log : Log) (r : LogRecord) → is_restart_end r.body ≡ false → asks_renewal log ≡ true → asks_renewal (with_record log r) ≡ true
asks_still log r none h =
    let old : list_any (λ (s : LogRecord). is_old_record s) log.records ≡ true = (and_parts (list_any (λ (s : LogRecord). is_old_record s) log.records) (not (is_ended (slice_get log.records (length log.records - 1)))) h).0 in
    and_from (list_any (λ (s : LogRecord). is_old_record s) (log.records ++ r ∷ [])) (not (is_ended (slice_get (log.records ++ r ∷ []) (length (log.records ++ r ∷ []) - 1))))
    (list_any-append (λ (s : LogRecord). is_old_record s) log.records (r ∷ []) ∙ or_left (list_any (λ (s : LogRecord). is_old_record s) log.records) (is_old_record r || false) old)
    (ap (λ (o : Option LogRecord). not (is_ended o)) (last_is log.records r) ∙ not_ended (is_written r.version) (is_restart_end r.body) none)

renews_still : (front : List Log) (log : Log) (back : List Log) (r : LogRecord) → is_restart_end r.body ≡ false → must_renew (front ++ log ∷ back) ≡ true → must_renew (front ++ with_record log r ∷ back) ≡ true
renews_still [] log back r none h = elim (or_cases (asks_renewal log) (must_renew back) h) [
  | inl e ↦ or_left (asks_renewal (with_record log r)) (must_renew back) (asks_still log r none e)
  | inr e ↦ or_right (asks_renewal (with_record log r)) (must_renew back) e
]
renews_still (x ∷ xs) log back r none h = elim (or_cases (asks_renewal x) (must_renew (xs ++ log ∷ back)) h) [
  | inl e ↦ or_left (asks_renewal x) (must_renew (xs ++ with_record log r ∷ back)) e
  | inr e ↦ or_right (asks_renewal x) (must_renew (xs ++ with_record log r ∷ back)) (renews_still xs log back r none e)
]

-- a page of version 1 stands only where pages are still to be renewed
renewing : (at : Images) (id : PageId) (front : List Log) (log : Log) (back : List Log) (r : LogRecord) (b : Body) → r.body ≡ b → AreRenewedBefore at b → is_old (at id) ≡ true → must_renew (front ++ log ∷ back) ≡ true
    → must_renew (front ++ with_record log r ∷ back) ≡ true
renewing at id front log back r (body.RowChange change) is none old h = renews_still front log back r (ap is_restart_end is) h
renewing at id front log back r (body.Compensation change undone) is none old h = renews_still front log back r (ap is_restart_end is) h
renewing at id front log back r (body.System patches) is none old h = renews_still front log back r (ap is_restart_end is) h
renewing at id front log back r body.Commit is none old h = renews_still front log back r (ap is_restart_end is) h
renewing at id front log back r body.Ended is none old h = renews_still front log back r (ap is_restart_end is) h
renewing at id front log back r (body.Checkpoint offset) is none old h = renews_still front log back r (ap is_restart_end is) h
renewing at id front log back r body.RestartEnd is none old h = absurd (both_ways (is_old (at id)) (none id) old)

-- ---- versions

version_with : (id : PageId) (records more : List LogRecord) (page : List ℕ) → IsVersion id records page → IsVersion id (records ++ more) page
version_with id records more page h = record {
  first = h.first;
  rest = h.rest ++ more;
  whole = ap (λ (rs : List LogRecord). rs ++ more) h.whole ∙ append_assoc h.first h.rest more;
  bytes = h.bytes;
}

pub keeps_versions : StandsBehind → (at : Images) (logs after : List Log) (r : LogRecord) → Appends logs r after → AreRenewedBefore at r.body → AreVersions at logs → AreVersions at after
keeps_versions behind at logs after r h none v = λ id. record {
  header = (v id).header;
  version = subst (λ (rs : List LogRecord). IsVersion id rs (current (at id))) (sym (behind logs after r h)) (version_with id (merged logs) (kept (r ∷ [])) (current (at id)) (v id).version);
  renewing = λ old. subst (λ (ls : List Log). must_renew ls ≡ true) (sym h.after_are)
      (renewing at id h.front h.log h.back r r.body refl none old (subst (λ (ls : List Log). must_renew ls ≡ true) h.logs_are ((v id).renewing old)));
}
