-- What the moves of a group restart leave of the world of pages, beside what is left of the group.
use Rattle.std.proofs.Common.{◌≡◌, ◌≢◌, ℕ, ◌+◌, ◌<◌, ◌≤◌, refl, sym, ◌∙◌, ap, subst, arith, Bool, true, false, inl, inr, List, [], ◌∷◌, ◌++◌}
use Rattle.std.specs.Prelude.{◌==◌, ◌&&◌}
use Rattle.std.proofs.lemmas.Bool.{and_from, and_parts, cases_eq, cond-false, cond-true, eq-eqb, eqb-true, false_from_ne_true, ne_eqb}
use Rattle.page_format.specs.Fields.{lrsn_of}
use Rattle.page_protocol.specs.Page.{Page, all_fail, brought_forward, compensate, put}
use Rattle.page_protocol.specs.Moves.{Compensate, Forward, GroupFail, Move, Run, World, all_failed, longer}
use Rattle.page_protocol.specs.Down.{Grounded}
use Rattle.page_protocol.specs.Always.{AlwaysGood, Stands}
use Rattle.page_world.specs.Groups.{CompensatesMoves, DownTied, Remains, content_with}
use Rattle.page_world.specs.Numbers.{set_of}
use Rattle.page_groups.specs.Falls.{appended}
use Rattle.page_recoveries.specs.Given.{AreDrawnTo, Fallen}
use Rattle.fallen_pages.specs.Stands.{OthersLast}

-- ---- a function with another value in one place
pub put_here : {A : Type 0} → (f : ℕ → A) (n : ℕ) (x : A) → put f n x n ≡ x
put_here f n x = cond-true (n == n) x (f n) (eq-eqb n n refl)

pub put_there : {A : Type 0} → (f : ℕ → A) (n k : ℕ) (x : A) → k ≢ n → put f n x k ≡ f k
put_there f n k x ne = cond-false (k == n) x (f k) (ne_eqb k n ne)

pub put_each : {A : Type 0} → (P : ℕ → A → Type 0) (f : ℕ → A) (n : ℕ) (x : A) → P n x → ((k : ℕ) → k ≢ n → P k (f k)) → (k : ℕ) → P k (put f n x k)
put_each P f n x here there k = elim (cases_eq k n) [
  | inl e ↦ subst (λ z. P k z) (sym (cond-true (k == n) x (f k) (eq-eqb k n e))) (subst (λ z. P z x) (sym e) here)
  | inr ne ↦ subst (λ z. P k z) (sym (put_there f n k x ne)) (there k ne)
]

-- ---- moves behind moves
pub run_on : (w mid v : World) (xs ys : List Move) → Run set_of w xs mid → Run set_of mid ys v → Run set_of w (xs ++ ys) v
run_on w mid v [] ys r q = subst (λ x. Run set_of x ys v) r q
run_on w mid v (e ∷ es) ys r q = (r.0, r.1, run_on r.0 mid v es ys r.2 q)

-- ---- each page by itself, while the group is down
pub grounded : (w : World) (r : Remains) (content : ℕ → ℕ → List ℕ) → Fallen w r content → (n : ℕ) → Grounded w.group (w.pages n)
grounded w r content b n = subst (λ (z : Bool). Stands z w.group (w.pages n)) b.tied.down (b.good.stands n)

abbrev PageShown : (ℕ → List ℕ) → Page → Type 0
PageShown content p = (i : ℕ) → i < p.last → lrsn_of (content (i + 1)) ≡ p.lrsn i

-- ---- a page is brought to its last version
abbrev pub forward : World → ℕ → World
forward w n = record { down = true; group = w.group; pages = put w.pages n (brought_forward (w.pages n) (w.pages n).last) }

module _ (always : AlwaysGood) (w : World) (r : Remains) (content : ℕ → ℕ → List ℕ) (b : Fallen w r content) (n : ℕ) where
  abbrev there : Page
  there = brought_forward (w.pages n) (w.pages n).last

  pub forward_run : Run set_of w (Forward n (w.pages n).last ∷ []) (forward w n)
  forward_run = (forward w n, (b.tied.down, (grounded w r content b n).within, omega arith, refl), refl)

  pub forward_fallen : (disk : ℕ → List ℕ) → disk n ≡ content n (w.pages n).last → ((k : ℕ) → k ≢ n → disk k ≡ r.disk k) → Fallen (forward w n) (record r { disk = disk }) content
  forward_fallen disk here others = record {
    good = always set_of (Forward n (w.pages n).last ∷ []) w (forward w n) b.good forward_run;
    tied = record {
      down = refl;
      counter = b.tied.counter;
      stable = b.tied.stable;
      written = b.tied.written;
      disk = put_each (λ k (p : Page). disk k ≡ content k p.disk) w.pages n there here (λ k ne. others k ne ∙ b.tied.disk k);
      clean = put_each (λ k (p : Page). p.changed ≡ false) w.pages n there (b.tied.clean n) (λ k ne. b.tied.clean k);
    };
    shown = put_each (λ k (p : Page). PageShown (content k) p) w.pages n there (b.shown n) (λ k ne. b.shown k);
  }

  pub forward_last : (left now : ℕ → Bool) → OthersLast w left → ((k : ℕ) → k ≢ n → now k ≡ false → left k ≡ false) → OthersLast (forward w n) now
  forward_last left now last fewer = put_each (λ k (p : Page). now k ≡ false → p.disk ≡ p.last) w.pages n there (λ e. refl) (λ k ne e. last k (fewer k ne e))

  pub forward_drawn : (counter : ℕ) → AreDrawnTo w counter → AreDrawnTo (forward w n) counter
  forward_drawn counter drawn = put_each (λ k (p : Page). (i : ℕ) → i < p.last → p.place i < w.group.stable (p.author i) → p.lrsn i ≤ counter) w.pages n there (drawn n) (λ k ne. drawn k)

  pub forward_top : (forward w n).pages n ≡ there
  forward_top = put_here w.pages n there

-- ---- the greatest number is known: the group fails once more, as far as the world knows, and nothing is cut
abbrev pub counted_world : World → ℕ → World
counted_world w counter = record { down = true; group = all_failed w.group counter; pages = λ n. all_fail (w.pages n) (w.pages n).last }

module _ (always : AlwaysGood) (w : World) (r : Remains) (content : ℕ → ℕ → List ℕ) (b : Fallen w r content) (counter : ℕ) (drawn : AreDrawnTo w counter) where
  abbrev pub counted_moves : List Move
  counted_moves = GroupFail (λ n. (w.pages n).last) counter ∷ []

  pub counted_run : Run set_of w counted_moves (counted_world w counter)
  counted_run = (counted_world w counter, ((λ n. record { short = omega arith; kept = (grounded w r content b n).all_stable; gone = λ i le lt. absurd (apart (w.pages n).last i le lt) }), (λ n i lt. drawn n i lt ((grounded w r content b n).all_stable i lt)), refl), refl)
    where
      apart : (last i : ℕ) → last ≤ i → i < last → ⊥
      apart last i le lt = omega (arith, le, lt)

  pub counted_fallen : Fallen (counted_world w counter) (record r { counter = counter }) content
  counted_fallen = record {
    good = always set_of counted_moves w (counted_world w counter) b.good counted_run;
    tied = record { down = refl; counter = refl; stable = b.tied.stable; written = b.tied.stable; disk = b.tied.disk; clean = λ n. refl };
    shown = b.shown;
  }

-- ---- a compensation is appended to the log of a member
abbrev pub compensated : World → ℕ → ℕ → World
compensated w n m = record { down = true; group = longer w.group m; pages = put w.pages n (compensate (w.pages n) m (w.group.stable m) (w.group.counter + 1)) }

module _ (always : AlwaysGood) (law : CompensatesMoves) (w : World) (r : Remains) (content : ℕ → ℕ → List ℕ) (b : Fallen w r content) (n m : ℕ) (bytes : List ℕ) (number : lrsn_of bytes ≡ r.counter + 1) where
  abbrev changed : Page
  changed = compensate (w.pages n) m (w.group.stable m) (w.group.counter + 1)

  abbrev pub compensated_content : ℕ → ℕ → List ℕ
  compensated_content = content_with content n ((w.pages n).last + 1) bytes

  pub compensated_run : Run set_of w (Compensate n m ∷ []) (compensated w n m)
  compensated_run = (compensated w n m, (b.tied.down, refl), refl)

  -- the bytes of a version
  new_at : (k v : ℕ) → k ≡ n → v ≡ (w.pages n).last + 1 → compensated_content k v ≡ bytes
  new_at k v e f = cond-true ((k == n) && (v == (w.pages n).last + 1)) bytes (content k v) (and_from (k == n) (v == (w.pages n).last + 1) (eq-eqb k n e) (eq-eqb v ((w.pages n).last + 1) f))

  old_at : (k v : ℕ) → (((k == n) && (v == (w.pages n).last + 1)) ≡ true → ⊥) → compensated_content k v ≡ content k v
  old_at k v ne = cond-false ((k == n) && (v == (w.pages n).last + 1)) bytes (content k v) (false_from_ne_true ((k == n) && (v == (w.pages n).last + 1)) ne)

  shown_here : PageShown (compensated_content n) changed
  shown_here i l = elim (cases_eq i (w.pages n).last) [
    | inl e ↦ ap lrsn_of (new_at n (i + 1) refl (ap (λ z. z + 1) e)) ∙ number ∙ ap (λ z. z + 1) (sym b.tied.counter) ∙ sym (cond-true (i == (w.pages n).last) (w.group.counter + 1) ((w.pages n).lrsn i) (eq-eqb i (w.pages n).last e))
    | inr ne ↦ ap lrsn_of (old_at n (i + 1) (λ x. ne (same (eqb-true (i + 1) ((w.pages n).last + 1) (and_parts (n == n) (i + 1 == (w.pages n).last + 1) x).1))))
        ∙ b.shown n i (below (w.pages n).last l ne) ∙ sym (cond-false (i == (w.pages n).last) (w.group.counter + 1) ((w.pages n).lrsn i) (ne_eqb i (w.pages n).last ne))
  ]
    where
      same : i + 1 ≡ (w.pages n).last + 1 → i ≡ (w.pages n).last
      same x = omega (arith, x)

      below : (last : ℕ) → i < last + 1 → i ≢ last → i < last
      below last lt ne = omega (arith, lt, ne)

  shown_there : (k : ℕ) → k ≢ n → PageShown (compensated_content k) (w.pages k)
  shown_there k ne i l = ap lrsn_of (old_at k (i + 1) (λ x. ne (eqb-true k n (and_parts (k == n) (i + 1 == (w.pages n).last + 1) x).0))) ∙ b.shown k i l

  pub compensated_fallen : Fallen (compensated w n m) (appended r m) compensated_content
  compensated_fallen =
      let moved = law w r content n m bytes b.good b.tied in
      record {
        good = always set_of (Compensate n m ∷ []) w (compensated w n m) b.good compensated_run;
        tied = subst (λ (z : World). DownTied z (appended r m) compensated_content) (moved.run.2 ∙ moved.run.1.1) moved.tied;
        shown = put_each (λ k (p : Page). PageShown (compensated_content k) p) w.pages n changed shown_here shown_there;
      }

  pub compensated_last : (now : ℕ → Bool) → OthersLast w (λ k. false) → ((k : ℕ) → now k ≡ false → k ≢ n) → OthersLast (compensated w n m) now
  compensated_last now last apart = put_each (λ k (p : Page). now k ≡ false → p.disk ≡ p.last) w.pages n changed (λ e. absurd (apart n e refl)) (λ k ne e. last k refl)

  pub compensated_top : compensated_content n ((compensated w n m).pages n).last ≡ bytes
  compensated_top = ap (λ (p : Page). compensated_content n p.last) (put_here w.pages n changed) ∙ new_at n ((w.pages n).last + 1) refl refl

-- ---- a page is written anew, and shows the same number
module _ (w : World) (r : Remains) (content : ℕ → ℕ → List ℕ) (b : Fallen w r content) (n : ℕ) (bytes : List ℕ) (number : lrsn_of bytes ≡ lrsn_of (r.disk n)) where
  abbrev on_disk : ℕ
  on_disk = (w.pages n).disk

  abbrev pub renewed_content : ℕ → ℕ → List ℕ
  renewed_content = content_with content n (w.pages n).disk bytes

  same_at : (k v : ℕ) → k ≡ n → v ≡ on_disk → renewed_content k v ≡ bytes
  same_at k v e f = cond-true ((k == n) && (v == on_disk)) bytes (content k v) (and_from (k == n) (v == on_disk) (eq-eqb k n e) (eq-eqb v on_disk f))

  other_at : (k v : ℕ) → (((k == n) && (v == on_disk)) ≡ true → ⊥) → renewed_content k v ≡ content k v
  other_at k v ne = cond-false ((k == n) && (v == on_disk)) bytes (content k v) (false_from_ne_true ((k == n) && (v == on_disk)) ne)

  disk_at : (k : ℕ) → put r.disk n bytes k ≡ renewed_content k (w.pages k).disk
  disk_at = put_each (λ k bs. bs ≡ renewed_content k (w.pages k).disk) r.disk n bytes (sym (same_at n on_disk refl refl)) (λ k ne. b.tied.disk k ∙ sym (other_at k (w.pages k).disk (λ z. ne (eqb-true k n (and_parts (k == n) ((w.pages k).disk == on_disk) z).0))))

  shown_at : (k i : ℕ) → i < (w.pages k).last → lrsn_of (renewed_content k (i + 1)) ≡ (w.pages k).lrsn i
  shown_at k i l = elim (cases_eq k n) [
    | inl e ↦ elim (cases_eq (i + 1) on_disk) [
      | inl f ↦ ap lrsn_of (same_at k (i + 1) e f) ∙ number ∙ ap lrsn_of (b.tied.disk n ∙ ap (content n) (sym f) ∙ ap (λ z. content z (i + 1)) (sym e)) ∙ b.shown k i l
      | inr ne ↦ ap lrsn_of (other_at k (i + 1) (λ z. ne (eqb-true (i + 1) on_disk (and_parts (k == n) (i + 1 == on_disk) z).1))) ∙ b.shown k i l
    ]
    | inr ne ↦ ap lrsn_of (other_at k (i + 1) (λ z. ne (eqb-true k n (and_parts (k == n) (i + 1 == on_disk) z).0))) ∙ b.shown k i l
  ]

  pub renewed_fallen : Fallen w (record r { disk = put r.disk n bytes }) renewed_content
  renewed_fallen = record { good = b.good; tied = record { down = b.tied.down; counter = b.tied.counter; stable = b.tied.stable; written = b.tied.written; disk = disk_at; clean = b.tied.clean }; shown = shown_at }
