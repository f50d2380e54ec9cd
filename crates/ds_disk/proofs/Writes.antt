-- What a page write, an append and a cut leave on a disk in memory: pages and logs of bytes.
use Rattle.std.specs.Prelude.{◌≡◌, ◌⊎◌, ℕ, List, ◌++◌, length, take, Bool, true, false, ◌&&◌, cond, eqb, Some, None, Result, Ok, Err, IfOk, IsErrOf}
use Rattle.std.specs.FinMap as map
use Rattle.std.proofs.Common.{inl, inr, refl, sym, ap, subst, ◌∙◌, arith}
use Rattle.std.proofs.lemmas.Bool.{and_from}
use Rattle.ds_base.specs.declared.names.PageId.{PageId}
use Rattle.ds_disk.specs.Answers.{Answers, Appended}
use Rattle.ds_disk.specs.Contents.{Contents, log_of, with_log, Becomes, Same}
use Rattle.ds_disk.specs.Logs.{logs_have_bytes, empty_logs_have}
use Rattle.ds_disk.specs.Pages.{Pages, AreBytes}
use Rattle.ds_disk.specs.Written.{have_bytes, none_have, written_have}
use Rattle.ds_disk.specs.Conditions.{Condition, course, counted, after, Answered}
use Rattle.ds_disk.specs.Memory.{Memory, Ends, EndsOrWants, append_left, cut_left, is_done, is_whole, nothing, page_left, told}
use Rattle.ds_disk.specs.declared.disk.DiskError.{DiskError}
use Rattle.ds_disk.specs.declared.disk.DiskError.TheVariants.{Failed, NoMemory}
use Rattle.ds_disk.specs.declared.disk.DiskOp.{DiskOp}
use Rattle.ds_disk.specs.declared.disk.DiskOp.TheVariants.{WritePage, AppendLog, CutLog}
use Rattle.ds_disk.specs.declared.plan.Course.{Course}
use Rattle.ds_disk.specs.declared.plan.Course.TheVariants.{Runs, Fails, Dies}
use Rattle.ds_disk.proofs.Appends.{torn}

-- ---- pages

pub written_stays : (pages new : Pages) (id : PageId) (page : List ℕ) → new ≡ map.insert pages id page → AreBytes page → have_bytes pages ≡ true → have_bytes new ≡ true
written_stays pages new id page is are h = ap have_bytes is ∙ written_have pages id page are h

-- ---- what is whole

pub parts_whole : (c : Contents) → (length c.logs ≡ 32) × (have_bytes c.pages ≡ true) × (logs_have_bytes c.logs ≡ true) → is_whole c ≡ true
parts_whole c h = and_from (eqb (length c.logs) 32) (have_bytes c.pages && logs_have_bytes c.logs) (ap (λ (n : ℕ). eqb n 32) h.0) (and_from (have_bytes c.pages) (logs_have_bytes c.logs) h.1 h.2)

-- ---- a new disk

abbrev of_parts : Pages → List (List ℕ) → Contents
of_parts pages logs = record { pages = pages; logs = logs }

nothing_whole : is_whole nothing ≡ true
nothing_whole = parts_whole nothing (refl, none_have, empty_logs_have)

pub nothing_told : (pages : Pages) (logs : List (List ℕ)) → pages ≡ map.empty → logs ≡ nothing.logs → cond (is_whole (of_parts pages logs)) (Some (of_parts pages logs)) None ≡ Some nothing
nothing_told pages logs p l =
    ap (λ (q : Pages). cond (is_whole (of_parts q logs)) (Some (of_parts q logs)) None) p
    ∙ ap (λ (q : List (List ℕ)). cond (is_whole (of_parts map.empty q)) (Some (of_parts map.empty q)) None) l
    ∙ ap (λ (b : Bool). cond b (Some nothing) None) nothing_whole

-- ---- what is told behind a write

told_if : (b e : Bool) (c d : Contents) (P : Contents → Contents → Type 0) → (b ≡ true → e ≡ true) → P c d → Becomes (cond b (Some c) None) (cond e (Some d) None) P
told_if true e c d P h p = subst (λ (z : Bool). Becomes (Some c) (cond z (Some d) None) P) (sym (h refl)) p
told_if false e c d P h p = tt

runs_alive : (b : Bool) (way : Course) → cond b way Fails ≡ Runs → b ≡ true
runs_alive true way e = refl
runs_alive false way e = absurd cc

done_alive : (b : Bool) (way : Course) → is_done (cond b way Fails) ≡ true → b ≡ true
done_alive true way e = refl
done_alive false way e = absurd cc

-- Done is what a call leaves where it runs, and Torn what it may leave where the disk dies in it.
module _ (op : DiskOp) (old new : Memory) (result : Result (Unit {0}) DiskError) (left : Course → Contents) (Done Torn : Contents → Contents → Type 0) (whole : is_whole new.contents ≡ true)
    (runs : Done old.contents (left Runs)) (fails : left Fails ≡ old.contents) (dies : (k : ℕ) → Torn old.contents (left (Dies k))) where
  tells : (P : Contents → Contents → Type 0) → P old.contents new.contents → Becomes (told old) (told new) P
  tells P p = told_if (is_whole old.contents) (is_whole new.contents) old.contents new.contents P (λ _. whole) p

  abbrev Well : Type 0
  Well = (old.condition.alive ≡ true) × (new.condition.alive ≡ true) × Becomes (told old) (told new) Done

  ok_by : (way : Course) → course op old.condition ≡ way → Answered way result (λ _. Unit {0}) → new.condition ≡ after way (counted op old.condition) → new.contents ≡ left way → IfOk result (λ _. Well)
  ok_by Runs is a h c =
      let alive : old.condition.alive ≡ true = runs_alive old.condition.alive _ is in
      let well : Well = (alive, ap (λ (x : Condition). x.alive) h ∙ alive, tells Done (subst (Done old.contents) (sym c) runs)) in
      elim result as (λ (r : Result (Unit {0}) DiskError). IfOk r (λ _. Well)) [
        | Ok x ↦ well
        | Err e ↦ tt
      ]
  ok_by Fails is a h c = subst (λ (r : Result (Unit {0}) DiskError). IfOk r (λ _. Well)) (sym a) tt
  ok_by (Dies k) is a h c = subst (λ (r : Result (Unit {0}) DiskError). IfOk r (λ _. Well)) (sym a) tt

  failed_by : (way : Course) → Answered way result (λ _. Unit {0}) → new.condition ≡ after way (counted op old.condition) → new.contents ≡ left way
      → IsErrOf result Failed → ((new.condition.alive ≡ old.condition.alive) × Becomes (told old) (told new) Same) ⊎ ((new.condition.alive ≡ false) × Becomes (told old) (told new) Torn)
  failed_by Runs a h c f = absurd (grind arith)
  failed_by Fails a h c f = inl (ap (λ (x : Condition). x.alive) h, tells Same (c ∙ fails))
  failed_by (Dies k) a h c f = inr (ap (λ (x : Condition). x.alive) h, tells Torn (subst (Torn old.contents) (sym c) (dies k)))

  wants_by : (way : Course) → Answered way result (λ _. Unit {0}) → IsErrOf result NoMemory → ⊥
  wants_by Runs a f = grind arith
  wants_by Fails a f = grind arith
  wants_by (Dies k) a f = grind arith

  abbrev Ended : Type 0
  Ended = EndsOrWants op old new result left

  pub call_ok : Ended → IfOk result (λ _. Well)
  call_ok (inl e) = ok_by (course op old.condition) refl e.answer e.condition e.contents
  call_ok (inr w) = subst (λ (r : Result (Unit {0}) DiskError). IfOk r (λ _. Well)) (sym w.answer) tt

  pub call_failed : Ended → IsErrOf result Failed → ((new.condition.alive ≡ old.condition.alive) × Becomes (told old) (told new) Same) ⊎ ((new.condition.alive ≡ false) × Becomes (told old) (told new) Torn)
  call_failed (inl e) f = failed_by (course op old.condition) e.answer e.condition e.contents f
  call_failed (inr w) f = absurd (grind (arith, w.answer, f))

  pub call_wants : Ended → IsErrOf result NoMemory → (old.condition.alive ≡ true) × (new.condition.alive ≡ true) × Becomes (told old) (told new) Same
  call_wants (inl e) f = absurd (wants_by (course op old.condition) e.answer f)
  call_wants (inr w) f =
      let alive : old.condition.alive ≡ true = done_alive old.condition.alive _ w.keeps in
      (alive, ap (λ (x : Condition). x.alive) w.condition ∙ alive, tells Same w.contents)

  pub call_answers : Ended → Answers old.condition.alive new.condition.alive (told old) (told new) result (λ _. Done) Torn
  call_answers e = record { ok = call_ok e; failed = call_failed e; no_memory = call_wants e }

-- ---- calls

abbrev IsOr : Contents → Contents → Contents → Type 0
IsOr put c d = (d ≡ c) ⊎ (d ≡ put)

torn_if : (b : Bool) (c put : Contents) → IsOr put c (cond b put c)
torn_if true c put = inr refl
torn_if false c put = inl refl

module _ (old new : Memory) (result : Result (Unit {0}) DiskError) (whole : is_whole new.contents ≡ true) where
  pub write_answers : (id : PageId) (page : List ℕ) → EndsOrWants WritePage old new result (λ way. page_left way old.contents id page)
      → Answers old.condition.alive new.condition.alive (told old) (told new) result (λ _ c d. d ≡ record c { pages = map.insert c.pages id page }) (λ c d. (d ≡ c) ⊎ (d ≡ record c { pages = map.insert c.pages id page }))
  write_answers id page =
      call_answers WritePage old new result (λ way. page_left way old.contents id page) (λ c d. d ≡ record c { pages = map.insert c.pages id page }) (λ c d. (d ≡ c) ⊎ (d ≡ record c { pages = map.insert c.pages id page })) whole refl refl
      (λ k. torn_if (is_done (Dies k)) old.contents (record old.contents { pages = map.insert old.contents.pages id page }))

  pub append_answers : (member : ℕ) (bytes : List ℕ) → EndsOrWants AppendLog old new result (λ way. append_left way old.contents member bytes)
      → Answers old.condition.alive new.condition.alive (told old) (told new) result (λ _ c d. d ≡ with_log c member (log_of c.logs member ++ bytes)) (Appended member bytes)
  append_answers member bytes =
      call_answers AppendLog old new result (λ way. append_left way old.contents member bytes) (λ c d. d ≡ with_log c member (log_of c.logs member ++ bytes)) (Appended member bytes) whole refl refl
      (λ k. torn k old.contents member bytes)

  pub cut_answers : (member n : ℕ) → Ends CutLog old new result (λ _. Unit {0}) (cut_left (course CutLog old.condition) old.contents member n)
      → Answers old.condition.alive new.condition.alive (told old) (told new) result (λ _ c d. d ≡ with_log c member (take n (log_of c.logs member))) (λ c d. (d ≡ c) ⊎ (d ≡ with_log c member (take n (log_of c.logs member))))
  cut_answers member n ends =
      call_answers CutLog old new result (λ way. cut_left way old.contents member n) (λ c d. d ≡ with_log c member (take n (log_of c.logs member))) (λ c d. (d ≡ c) ⊎ (d ≡ with_log c member (take n (log_of c.logs member)))) whole refl refl
      (λ k. torn_if (is_done (Dies k)) old.contents (with_log old.contents member (take n (log_of old.contents.logs member)))) (inl ends)
