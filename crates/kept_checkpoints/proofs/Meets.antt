-- What is needed of pages is what the seventh clause of a sound disk says of them.
use Rattle.std.proofs.Common.{◌≡◌, ℕ, Bool, true, false, cond, List, [], ◌∷◌, ◌++◌, length, refl, sym, ap, ◌∙◌, arith}
use Rattle.std.specs.Prelude.{◌==◌, nat_le, not, ◌||◌, ◌&&◌}
use Rattle.std.specs.List.{list_all, flat_map}
use Rattle.std.proofs.lemmas.Bool.Decides.{nat_tests}
use Rattle.std.proofs.lemmas.List.Folds.{list_all-append, list_all-map}
use Rattle.ds_base.specs.declared.names.PageId.{PageId}
use Rattle.ds_base.specs.Pages.{same_page}
use Rattle.ds_model.specs.declared.log.LogRecord.{LogRecord}
use Rattle.log_record.specs.declared.log.Log.{Log}
use Rattle.page_format.specs.Fields.{lrsn_of}
use Rattle.page_format.specs.declared.patch.Patch.{Patch}
use Rattle.page_images.specs.Images.{Images}
use Rattle.page_chain.specs.Chains.{changes_of}
use Rattle.page_redo.specs.Pages.{has_page, with_page, pages_from, pages_of}
use Rattle.sound_disk.specs.Settled.{has_ended}
use Rattle.sound_disk.specs.Checkpoints.{start_of, records_before, changes_pages, is_in_pages, is_done, AreCheckpointed}
use Rattle.kept_checkpoints.specs.Offsets.{OffsetsFit}
use Rattle.kept_checkpoints.specs.Needs.{need_of, is_unended, needs_by, needs_in, needs_of, is_met}

-- ---- tests

same_name : (a b : PageId) → same_page a b ≡ true → a ≡ b
same_name a b h =
    let p : a.set ≡ b.set = grind arith in
    let q : a.number ≡ b.number = grind arith in
    λ i. record { set = p i; number = q i }

and_true : (a : Bool) → a ≡ (a && true)
and_true true = refl
and_true false = refl

and_and : (a b c : Bool) → ((a && b) && c) ≡ (a && (b && c))
and_and true b c = refl
and_and false b c = refl

and_mixed : (a b c : Bool) → ((a && c) && (b && c)) ≡ ((a && b) && c)
and_mixed true true true = refl
and_mixed true true false = refl
and_mixed true false true = refl
and_mixed true false false = refl
and_mixed false true true = refl
and_mixed false true false = refl
and_mixed false false true = refl
and_mixed false false false = refl

not_not : (a : Bool) → not (not a) ≡ a
not_not true = refl
not_not false = refl

not_or : (a b : Bool) → not (a || b) ≡ (not a && not b)
not_or true b = refl
not_or false b = refl

and_left : (a b : Bool) → (a && b) ≡ true → a ≡ true
and_left true b h = refl
and_left false b h = h

and_right : (a b : Bool) → (a && b) ≡ true → b ≡ true
and_right true b h = h
and_right false b h = absurd cc

and_both : (a b : Bool) → a ≡ true → b ≡ true → (a && b) ≡ true
and_both true b h k = k
and_both false b h k = h

or_right : (a b : Bool) → (a || b) ≡ true → a ≡ false → b ≡ true
or_right true b h k = absurd cc
or_right false b h k = h

first_twice : (a b c : Bool) → c ≡ a → (a && b) ≡ ((a && b) && c)
first_twice true true c h = sym h
first_twice true false c h = refl
first_twice false b c h = refl

rest_twice : (a b c : Bool) → b ≡ (b && c) → (a && b) ≡ ((a && b) && c)
rest_twice true b c h = h
rest_twice false b c h = refl

decide : (b : Bool) (P : Type 0) → (b ≡ true → P) → (b ≡ false → P) → P
decide true P f g = f refl
decide false P f g = g refl

some_there : (p : Patch) (ps : List Patch) → (length (p ∷ ps) == 0) ≡ false
some_there p ps = grind (arith, nat_tests)

-- ---- the pages of patches, each once

all_if_has : (f : PageId → Bool) (pages : List PageId) (id : PageId) → has_page pages id ≡ true → list_all f pages ≡ (list_all f pages && f id)
all_if_has f [] id h = absurd cc
all_if_has f (p ∷ ps) id h =
    decide (same_page p id) _
    (λ e. first_twice (f p) (list_all f ps) (f id) (ap f (sym (same_name p id e))))
    (λ e. rest_twice (f p) (list_all f ps) (f id) (all_if_has f ps id (or_right (same_page p id) (has_page ps id) h e)))

all_with : (f : PageId → Bool) (pages : List PageId) (id : PageId) → list_all f (with_page pages id) ≡ (list_all f pages && f id)
all_with f pages id =
    decide (has_page pages id) _
    (λ e. ap (λ (b : Bool). list_all f (cond b pages (pages ++ id ∷ []))) e ∙ all_if_has f pages id e)
    (λ e. ap (λ (b : Bool). list_all f (cond b pages (pages ++ id ∷ []))) e ∙ list_all-append f pages (id ∷ []) ∙ ap (λ (b : Bool). list_all f pages && b) (sym (and_true (f id))))

all_pages : (f : PageId → Bool) (pages : List PageId) (ps : List Patch) → list_all f (pages_from pages ps) ≡ (list_all f pages && list_all (λ (p : Patch). f p.page) ps)
all_pages f pages [] = and_true (list_all f pages)
all_pages f pages (p ∷ ps) =
    all_pages f (with_page pages p.page) ps
    ∙ ap (λ (b : Bool). b && list_all (λ (p : Patch). f p.page) ps) (all_with f pages p.page)
    ∙ and_and (list_all f pages) (f p.page) (list_all (λ (p : Patch). f p.page) ps)

-- ---- one record

all_and : (f : Patch → Bool) (c : Bool) (p : Patch) (ps : List Patch) → list_all (λ (p : Patch). f p && c) (p ∷ ps) ≡ (list_all f (p ∷ ps) && c)
all_and f c p [] = sym (and_true (f p && c)) ∙ ap (λ (b : Bool). b && c) (and_true (f p))
all_and f c p (q ∷ qs) = ap (λ (b : Bool). (f p && c) && b) (all_and f c q qs) ∙ and_mixed (f p) (list_all f (q ∷ qs)) c

each_done : (f : Patch → Bool) (c : Bool) (ps : List Patch) → list_all (λ (p : Patch). f p && c) ps ≡ (not (not (length ps == 0)) || (list_all f ps && c))
each_done f c [] = refl
each_done f c (p ∷ ps) = all_and f c p ps ∙ ap (λ (b : Bool). not (not b) || (list_all f (p ∷ ps) && c)) (sym (some_there p ps))

pub met_by : (at : Images) (records : List LogRecord) (r : LogRecord) → list_all (is_met at) (needs_by records r) ≡ is_done at records r
met_by at records r =
    list_all-map (is_met at) (need_of (is_unended records r) r.lrsn) (pages_of r)
    ∙ all_pages (λ (id : PageId). is_met at (need_of (is_unended records r) r.lrsn id)) [] (changes_of r.body)
    ∙ each_done (λ (p : Patch). nat_le r.lrsn (lrsn_of (at p.page))) (not (is_unended records r)) (changes_of r.body)
    ∙ ap (λ (b : Bool). not (changes_pages r) || (is_in_pages at r && b)) (not_not ((r.tran == 0) || has_ended records r.tran))

-- ---- the records of all logs

all_flat : {X Y : Type 0} (f : Y → Bool) (g : X → List Y) (d : X → Bool) (xs : List X) → ((x : X) → list_all f (g x) ≡ d x) → list_all f (flat_map g xs) ≡ list_all d xs
all_flat f g d [] h = refl
all_flat f g d (x ∷ xs) h =
    list_all-append f (g x) (flat_map g xs)
    ∙ ap (λ (b : Bool). b && list_all f (flat_map g xs)) (h x)
    ∙ ap (λ (b : Bool). d x && b) (all_flat f g d xs h)

met_log : (at : Images) (l : Log) → list_all (is_met at) (needs_in l.records) ≡ list_all (is_done at l.records) (records_before (start_of l.records) 0 l.records)
met_log at l = all_flat (is_met at) (needs_by l.records) (is_done at l.records) (records_before (start_of l.records) 0 l.records) (met_by at l.records)

pub are_met : (at : Images) (logs : List Log) → AreCheckpointed at logs → list_all (is_met at) (needs_of logs) ≡ true
are_met at [] h = refl
are_met at (l ∷ ls) h = list_all-append (is_met at) (needs_in l.records) (needs_of ls) ∙ and_both _ _ (met_log at l ∙ h.0.before) (are_met at ls h.1)

pub they_tell : (at : Images) (logs : List Log) → OffsetsFit logs → list_all (is_met at) (needs_of logs) ≡ true → AreCheckpointed at logs
they_tell at [] o h = tt
they_tell at (l ∷ ls) o h =
    let both = sym (list_all-append (is_met at) (needs_in l.records) (needs_of ls)) ∙ h in
    (record { offsets = o.0; before = sym (met_log at l) ∙ and_left _ _ both }, they_tell at ls o.1 (and_right (list_all (is_met at) (needs_in l.records)) _ both))
