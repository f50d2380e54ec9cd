-- A member fails: what its log hadn't on disk is gone.
use Rattle.std.proofs.Common.{◌≡◌, ◌≢◌, ℕ, ◌<◌, ◌≤◌, Bool, true, false, List, [], ◌∷◌, refl, sym, ap, ◌∙◌, subst, arith, inl, inr}
use Rattle.std.specs.Prelude.{filter, ◌⊎◌, ◌&&◌, nat_le, nat_lt}
use Rattle.std.proofs.lemmas.Bool.{and_left, and_right, and_parts, cases_eq, cases_lt, cond-false, eqb-true, le-ltb, lt-leb, lt-ltb, ltb-true}
use Rattle.ds_base.specs.declared.names.PageId.{PageId}
use Rattle.ds_model.specs.declared.log.LogRecord.{LogRecord}
use Rattle.page_protocol.specs.Page.{put}
use Rattle.page_protocol.specs.Moves.{World, Fail}
use Rattle.page_protocol.specs.Always.{AlwaysGood, Good, KeepsGood}
use Rattle.log_tells.specs.Told.{Told, LogsTell, drawn_in, is_between, is_of, part_of, records_of}
use Rattle.log_tells.specs.Keeps.{ArePending, ForcesPend, LogsGoOn, StaysTold, appended, is_within}
use Rattle.told_pages.specs.Runs.{AllTell, FailRuns, FailsOnce, IsAppendedBy}
use Rattle.told_pages.proofs.Moves.{Leaves, last_of, leaves, never, rises, some_record}
use Rattle.told_pages.proofs.Runs.{all_appended, along, put_here, put_there}

abbrev in_part : ℕ → ℕ → ℕ → Told → Bool
in_part m from to t = is_of m t && is_between from to t

-- ---- parts
within_when : (p q : Told → Bool) (x : Told) (xs : List Told) (b c : Bool) → p x ≡ b → q x ≡ c → (p x ≡ true → q x ≡ true) → filter p (filter q xs) ≡ filter p xs → filter p (filter q (x ∷ xs)) ≡ filter p (x ∷ xs)
within_when p q x xs true c e f h ih = rw (h e, e, ih)
within_when p q x xs false true e f h ih = rw (f, e, ih)
within_when p q x xs false false e f h ih = rw (f, e, ih)

within : (p q : Told → Bool) (xs : List Told) → ((x : Told) → p x ≡ true → q x ≡ true) → filter p (filter q xs) ≡ filter p xs
within p q [] h = refl
within p q (x ∷ xs) h = within_when p q x xs (p x) (q x) refl refl (h x) (within p q xs h)

-- a part that ends where a log is cut, or before
part_cut : (lengths : ℕ → ℕ) (m from to : ℕ) (told : List Told) → to ≤ lengths m → part_of m from to (filter (is_within lengths) told) ≡ part_of m from to told
part_cut lengths m from to told le = ap records_of (within (in_part m from to) (is_within lengths) told in_it)
  where
    low : (place : ℕ) → place < to → place < lengths m
    low place lt = omega (arith, lt, le)

    in_it : (t : Told) → in_part m from to t ≡ true → is_within lengths t ≡ true
    in_it t e =
        let both = and_parts (is_of m t) (is_between from to t) e in
        let places = and_parts (nat_le from t.place) (nat_lt t.place to) both.1 in
        subst (λ k. nat_lt t.place (lengths k) ≡ true) (sym (eqb-true t.member m both.0)) (lt-ltb t.place (lengths m) (low t.place (ltb-true t.place to places.1)))

-- one that ends where it begins has nothing
none_between : (a : ℕ) (t : Told) → is_between a a t ≡ false
none_between a t = elim (cases_lt t.place a) [
  | inl lt ↦ and_left (nat_le a t.place) (nat_lt t.place a) (lt-leb a t.place lt)
  | inr le ↦ and_right (nat_le a t.place) (nat_lt t.place a) (le-ltb t.place a le)
]

part_none : (m a : ℕ) (told : List Told) → part_of m a a told ≡ []
part_none m a [] = refl
part_none m a (t ∷ told) = ap records_of (cond-false (in_part m a a t) (t ∷ filter (in_part m a a) told) (filter (in_part m a a) told) (and_right (is_of m t) (is_between a a t) (none_between a t))) ∙ part_none m a told

-- ---- the failure
module _ (stays : StaysTold) (keeps : KeepsGood) (always : AlwaysGood) (go : LogsGoOn) (pend : ForcesPend) (name : ℕ → PageId) (w v : World) (content after : ℕ → ℕ → List ℕ) (told : List Told) (logs buffers : ℕ → List LogRecord) (m : ℕ) (front rest : List LogRecord)
    (f : FailsOnce m w v content after) (a : IsAppendedBy w v told buffers m front rest) (t : AllTell name w content told logs buffers) where
  abbrev x : World
  x = f.up_to

  abbrev y : World
  y = f.failed

  good_x : Good x
  good_x = always f.set f.before w x f.good f.run

  good_y : Good y
  good_y = keeps f.set x y (Fail m f.cut) good_x f.step

  counter_y : y.group.counter ≡ x.group.counter
  counter_y = ap (λ (z : World). z.group.counter) f.step.2

  counter_x : x.group.counter ≡ w.group.counter
  counter_x =
      let one = rises stays keeps true f.set w x f.before f.good f.plain f.run in
      let two = rises stays keeps false f.set y v f.behind good_y f.quiet f.rest in
      let mid = counter_y in
      let all = a.counter in
      omega (arith, one, two, mid, all)

  to_x : Leaves true w x
  to_x = leaves stays keeps true f.set w x f.before f.good f.running f.plain f.run counter_x

  from_y : Leaves false y v
  from_y = leaves stays keeps false f.set y v f.behind good_y (ap (λ (z : World). z.down) f.step.2) f.quiet f.rest (a.counter ∙ sym counter_x ∙ sym counter_y)

  stable_y : (j : ℕ) → v.group.stable j ≡ x.group.stable j
  stable_y j = from_y.stable refl j ∙ ap (λ (z : World). z.group.stable j) f.step.2

  abbrev lengths : ℕ → ℕ
  lengths = put x.group.written m (x.group.stable m)

  written_y : (j : ℕ) → y.group.written j ≡ lengths j
  written_y j = ap (λ (z : World). z.group.written j) f.step.2

  at_x : AllTell name x content told (appended logs m front) (put buffers m rest)
  at_x = all_appended go pend name w x content content told logs buffers m front rest f.good f.running (λ n i le. refl)
      (record { counter = counter_x; split = a.split; rises = subst (λ z. w.group.stable m ≤ z) (stable_y m) a.rises; part = a.part ∙ ap (λ z. part_of m (w.group.stable m) z told) (stable_y m); others = λ j ne. sym (stable_y j) ∙ a.others j ne }) to_x good_x t

  abbrev left : List Told
  left = filter (is_within lengths) told

  disk_y : LogsTell name y content left (appended logs m front)
  disk_y = go name f.set x y (Fail m f.cut) some_record [] content content told (appended logs m front) good_x at_x.disk f.step tt (record { kept = λ n i le. refl; behind = λ n e. never e }) tt

  pending_y : (j : ℕ) → ArePending y left j (put buffers m [] j)
  pending_y j = subst (λ z. drawn_in (put buffers m [] j) ≡ part_of j z (y.group.written j) left) (sym (ap (λ (z : World). z.group.stable j) f.step.2))
      (subst (λ z. drawn_in (put buffers m [] j) ≡ part_of j (x.group.stable j) z left) (sym (written_y j)) (by (cases_eq j m)))
    where
      by : (j ≡ m) ⊎ (j ≢ m) → drawn_in (put buffers m [] j) ≡ part_of j (x.group.stable j) (lengths j) left
      by (inl e) = subst (λ z. drawn_in (put buffers m [] z) ≡ part_of z (x.group.stable z) (lengths z) left) (sym e)
          (ap drawn_in (put_here buffers m []) ∙ sym (ap (λ z. part_of m (x.group.stable m) z left) (put_here x.group.written m (x.group.stable m)) ∙ part_none m (x.group.stable m) left))
      by (inr ne) =
          ap drawn_in (put_there buffers m j [] ne ∙ sym (put_there buffers m j rest ne)) ∙ at_x.pending j
          ∙ ap (λ z. part_of j (x.group.stable j) z told) (sym (put_there x.group.written m j (x.group.stable m) ne))
          ∙ sym (part_cut lengths j (x.group.stable j) (lengths j) told (omega arith))

  kept_y : (n i : ℕ) → i ≤ (y.pages n).last → after n i ≡ content n i
  kept_y n i le = f.kept n i (low (ap (λ (z : World). (z.pages n).last) f.step.2) (f.step.1 n).short (last_of true w x to_x n))
    where
      low : (y.pages n).last ≡ f.cut n → f.cut n ≤ (x.pages n).last → (x.pages n).last ≡ (w.pages n).last → i ≤ (w.pages n).last
      low one two three = omega (arith, le, one, two, three)

  lengths_are : lengths ≡ v.group.written
  lengths_are = λ i j. sym (from_y.written j ∙ written_y j) i

  pub all_failed : AllTell name v after (filter (is_within v.group.written) told) (appended logs m front) (put buffers m [])
  all_failed = subst (λ ls. AllTell name v after (filter (is_within ls) told) (appended logs m front) (put buffers m [])) lengths_are
      (along name y v content after left (appended logs m front) (put buffers m []) kept_y from_y (record { disk = disk_y; pending = pending_y }))

pub fails : StaysTold → KeepsGood → AlwaysGood → LogsGoOn → ForcesPend → FailRuns
fails stays keeps always go pend name w v content after told logs buffers m front rest f a t = all_failed stays keeps always go pend name w v content after told logs buffers m front rest f a t
