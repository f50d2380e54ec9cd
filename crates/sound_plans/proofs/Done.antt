-- Before a Checkpoint that is appended nothing needs to be read again.
use Rattle.std.proofs.Common.{◌≡◌, ℕ, Bool, true, false, List, [], ◌∷◌, length, inl, inr, refl, ap}
use Rattle.std.specs.Prelude.{◌⊎◌, ◌==◌, not, ◌||◌, ◌&&◌}
use Rattle.std.specs.List.{list_all}
use Rattle.std.proofs.lemmas.Bool.{and_from, and_parts}
use Rattle.ds_model.specs.declared.log.LogRecord.{LogRecord}
use Rattle.log_record.specs.declared.log.Log.{Log}
use Rattle.page_images.specs.Images.{Images}
use Rattle.sound_disk.specs.Checkpoints.{is_in_pages, changes_pages, is_done}
use Rattle.sound_disk.specs.Settled.{has_ended}
use Rattle.sound_plans.specs.Opens.{course_of, EndsWhereNothingIsLeft}
use Rattle.sound_plans.specs.Queues.{records_for, IsSettled, SettledIsDone}

done_if : (c i z e : Bool) → e ≡ true → (not c || i) ≡ true → (not c || (i && (z || e))) ≡ true
done_if false i z e h k = refl
done_if true true true e h k = refl
done_if true true false e h k = h
done_if true false z e h k = absurd cc

all_done : (at : Images) (rs xs : List LogRecord) → ((t : ℕ) → has_ended rs t ≡ true) → list_all (λ (r : LogRecord). not (changes_pages r) || is_in_pages at r) xs ≡ true → list_all (is_done at rs) xs ≡ true
all_done at rs [] e h = refl
all_done at rs (x ∷ xs) e h =
    let p = and_parts (not (changes_pages x) || is_in_pages at x) (list_all (λ (r : LogRecord). not (changes_pages r) || is_in_pages at r) xs) h in
    and_from (is_done at rs x) (list_all (is_done at rs) xs) (done_if (changes_pages x) (is_in_pages at x) (x.tran == 0) (has_ended rs x.tran) (e x.tran) p.0) (all_done at rs xs e p.1)

nothing_left : (logs : List Log) (m t : ℕ) → IsSettled logs m t → ((course_of (records_for logs m) t).is_committed ≡ true) ⊎ (length (course_of (records_for logs m) t).undo ≡ 0)
nothing_left logs m t (inl e) = inl e
nothing_left logs m t (inr e) = inr (ap (λ (us : List LogRecord). length us) e)

pub settled_is_done : EndsWhereNothingIsLeft → SettledIsDone
settled_is_done law at logs m settled pages = all_done at (records_for logs m) (records_for logs m) (λ t. law (records_for logs m) t (nothing_left logs m t (settled t))) pages
