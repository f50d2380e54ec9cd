-- The failure of a group, and the steps of its restart: the numbers that versions show.
use Rattle.std.proofs.Common.{◌≡◌, ◌≢◌, ℕ, ◌+◌, ◌<◌, ◌≤◌, refl, sym, ◌∙◌, ap, subst, arith, Bool, true, inl, inr, List, [], ◌∷◌}
use Rattle.std.specs.Prelude.{◌==◌, ◌&&◌, if◌then◌else◌}
use Rattle.std.proofs.lemmas.Bool.{and_from, and_parts, cases_eq, cond-false, cond-true, eq-eqb, eqb-true, false_from_ne_true, ne_eqb}
use Rattle.ds_disk.specs.Contents.{Contents}
use Rattle.page_format.specs.Fields.{lrsn_of}
use Rattle.page_protocol.specs.Page.{Page, all_fail, brought_forward, compensate, put}
use Rattle.page_protocol.specs.Moves.{World, Run, GroupFail, Forward, Compensate, Append, AreDrawnBy, IsWholeCut, all_failed, longer}
use Rattle.page_protocol.specs.Always.{AlwaysGood, Good}
use Rattle.page_protocol.specs.Words.{GroupFailureIsPossible}
use Rattle.page_world.specs.Groups.{AppendsMoves, CompensatesMoves, ForwardsMoves, Remains, content_with}
use Rattle.page_world.specs.Numbers.{page_number, set_of}
use Rattle.page_members.specs.Members.{Shows, WritesShow}
use Rattle.page_groups.specs.Falls.{AreDrawnTo, CompensationsGo, FallsTo, GroupsFall, GroupsFallAgain, PageGoes, PagesGo, RecordsGo, RenewalsGo, appended, remains}

abbrev IsShown : World → (ℕ → ℕ → List ℕ) → Type 0
IsShown w content = (n i : ℕ) → i < (w.pages n).last → lrsn_of (content n (i + 1)) ≡ (w.pages n).lrsn i

shown_as : (w v : World) (content : ℕ → ℕ → List ℕ) → w ≡ v → IsShown v content → IsShown w content
shown_as w v content e s = subst (λ z. IsShown z content) (sym e) s

-- ---- the group fails
shown_cut : (w : World) (content : ℕ → ℕ → List ℕ) (cut : ℕ → ℕ) (counter : ℕ) → ((n : ℕ) → cut n ≤ (w.pages n).last) → IsShown w content
    → IsShown (record { down = true; group = all_failed w.group counter; pages = λ n. all_fail (w.pages n) (cut n) }) content
shown_cut w content cut counter short s n i l = (let most = short n in s n i (omega (arith, l, most)))

-- of each page's changes those are left that the logs have on disk
drawn_by : (w : World) (counter n cut : ℕ) → AreDrawnTo w counter → IsWholeCut w.group (w.pages n) cut → AreDrawnBy (w.pages n) cut counter
drawn_by w counter n cut drawn s i l = (let most = s.short in drawn n i (omega (arith, l, most)) (s.kept i l))

abbrev fallen_world : World → (ℕ → ℕ) → ℕ → World
fallen_world w cut counter = record { down = true; group = all_failed w.group counter; pages = λ n. all_fail (w.pages n) (cut n) }

-- the disk and the logs stay, and a good world stands beside them
left_fallen : AlwaysGood → GroupFailureIsPossible → (w : World) (r : Remains) (content : ℕ → ℕ → List ℕ) (counter : ℕ) → Good w → AreDrawnTo w counter → r.counter ≡ counter → ((m : ℕ) → w.group.stable m ≡ r.stable m) → ((n : ℕ) → r.disk n ≡ content n (w.pages n).disk) → IsShown w content → FallsTo w r content
left_fallen always possible w r content counter good drawn counted stable disk shown = record {
  moves = GroupFail cut counter ∷ [];
  world = fallen_world w cut counter;
  run = run;
  fallen = record {
    good = always set_of (GroupFail cut counter ∷ []) w (fallen_world w cut counter) good run;
    tied = record { down = refl; counter = sym counted; stable = stable; written = stable; disk = disk; clean = λ n. refl };
    shown = shown_cut w content cut counter (λ n. (possible w good n).1.short) shown;
  };
}
  where
    cut : ℕ → ℕ
    cut n = (possible w good n).0

    run : Run set_of w (GroupFail cut counter ∷ []) (fallen_world w cut counter)
    run = (fallen_world w cut counter, ((λ n. (possible w good n).1), (λ n. drawn_by w counter n (cut n) drawn (possible w good n).1), refl), refl)

pub falls : AlwaysGood → GroupFailureIsPossible → GroupsFall
falls always possible w g content forced counter b drawn =
    left_fallen always possible w (remains g counter) content counter b.good drawn refl b.tied.stable (λ n. (b.tied.pages n).disk) b.numbered.shown

pub falls_again : AlwaysGood → GroupFailureIsPossible → GroupsFallAgain
falls_again always possible w r content counter b drawn = left_fallen always possible w (record r { counter = counter }) content counter b.good drawn refl b.tied.stable b.tied.disk b.shown

-- ---- one page changes
abbrev PageShown : (ℕ → List ℕ) → Page → Type 0
PageShown content p = (i : ℕ) → i < p.last → lrsn_of (content (i + 1)) ≡ p.lrsn i

shown_put : (w : World) (content : ℕ → ℕ → List ℕ) (n : ℕ) (q : Page) → PageShown (content n) q → ((j : ℕ) → j ≢ n → PageShown (content j) (w.pages j)) → (j : ℕ) → PageShown (content j) (put w.pages n q j)
shown_put w content n q here there j = elim (cases_eq j n) [
  | inl e ↦ subst (PageShown (content j)) (sym (cond-true (j == n) q (w.pages j) (eq-eqb j n e))) (subst (λ z. PageShown (content z) q) (sym e) here)
  | inr ne ↦ subst (PageShown (content j)) (sym (cond-false (j == n) q (w.pages j) (ne_eqb j n ne))) (there j ne)
]

pub pages_go : AlwaysGood → ForwardsMoves → WritesShow → PagesGo
pages_go good law show d e w r content id bytes x b s told is led =
    let n = page_number id in
    let moved = law w r content n led.version b.tied led.later led.there in
    subst (λ z. PageGoes w e (record r { disk = put r.disk n z }) content) (sym led.same)
    (record {
      falls = record {
        moves = Forward n led.version ∷ [];
        world = moved.world;
        run = moved.run;
        fallen = record {
          good = good set_of (Forward n led.version ∷ []) w moved.world b.good moved.run;
          tied = moved.tied;
          shown = shown_as moved.world (record { down = true; group = w.group; pages = put w.pages n (brought_forward (w.pages n) led.version) }) content (moved.run.2 ∙ moved.run.1.3) (shown_put w content n (brought_forward (w.pages n) led.version) (b.shown n) (λ j ne. b.shown j));
        };
      };
      drive = subst (λ z. Shows e (put r.disk n z)) led.same (show d e r.disk s x id bytes told is);
    })

-- ---- a page of an older format
pub renewals_go : WritesShow → RenewalsGo
renewals_go show d e w r content id bytes x b s told is number = record {
  falls = record {
    moves = [];
    world = w;
    run = refl;
    fallen = record { good = b.good; tied = record { down = b.tied.down; counter = b.tied.counter; stable = b.tied.stable; written = b.tied.written; disk = disk; clean = b.tied.clean }; shown = shown };
  };
  drive = show d e r.disk s x id bytes told is;
}
  where
    n : ℕ
    n = page_number id

    v : ℕ
    v = (w.pages (page_number id)).disk

    now : ℕ → ℕ → List ℕ
    now = content_with content (page_number id) (w.pages (page_number id)).disk bytes

    here : (k u : ℕ) → k ≡ n → u ≡ v → now k u ≡ bytes
    here k u e f = cond-true ((k == n) && (u == v)) bytes (content k u) (and_from (k == n) (u == v) (eq-eqb k n e) (eq-eqb u v f))

    other : (k u : ℕ) → (((k == n) && (u == v)) ≡ true → ⊥) → now k u ≡ content k u
    other k u ne = cond-false ((k == n) && (u == v)) bytes (content k u) (false_from_ne_true ((k == n) && (u == v)) ne)

    disk : (k : ℕ) → put r.disk n bytes k ≡ now k (w.pages k).disk
    disk k = elim (cases_eq k n) [
      | inl e ↦ cond-true (k == n) bytes (r.disk k) (eq-eqb k n e) ∙ sym (here k (w.pages k).disk e (ap (λ z. (w.pages z).disk) e))
      | inr ne ↦ cond-false (k == n) bytes (r.disk k) (ne_eqb k n ne) ∙ b.tied.disk k ∙ sym (other k (w.pages k).disk (λ z. ne (eqb-true k n (and_parts (k == n) ((w.pages k).disk == v) z).0)))
    ]

    shown : (k i : ℕ) → i < (w.pages k).last → lrsn_of (now k (i + 1)) ≡ (w.pages k).lrsn i
    shown k i l = elim (cases_eq k n) [
      | inl e ↦ elim (cases_eq (i + 1) v) [
        | inl f ↦ ap lrsn_of (here k (i + 1) e f) ∙ number ∙ ap lrsn_of (b.tied.disk n ∙ ap (content n) (sym f) ∙ ap (λ z. content z (i + 1)) (sym e)) ∙ b.shown k i l
        | inr ne ↦ ap lrsn_of (other k (i + 1) (λ z. ne (eqb-true (i + 1) v (and_parts (k == n) (i + 1 == v) z).1))) ∙ b.shown k i l
      ]
      | inr ne ↦ ap lrsn_of (other k (i + 1) (λ z. ne (eqb-true k n (and_parts (k == n) (i + 1 == v) z).0))) ∙ b.shown k i l
    ]

-- ---- records
pub records_go : AlwaysGood → AppendsMoves → RecordsGo
records_go good law w r content m b =
    let moved = law w r content m b.tied in
    record {
      moves = Append m ∷ [];
      world = moved.world;
      run = moved.run;
      fallen = record {
        good = good set_of (Append m ∷ []) w moved.world b.good moved.run;
        tied = moved.tied;
        shown = shown_as moved.world (record { down = true; group = longer w.group m; pages = w.pages }) content (moved.run.2 ∙ moved.run.1.1) b.shown;
      };
    }

pub compensations_go : AlwaysGood → CompensatesMoves → CompensationsGo
compensations_go good law w r content n m bytes b number =
    let moved = law w r content n m bytes b.good b.tied in
    record {
      moves = Compensate n m ∷ [];
      world = moved.world;
      run = moved.run;
      fallen = record {
        good = good set_of (Compensate n m ∷ []) w moved.world b.good moved.run;
        tied = moved.tied;
        shown = shown_as moved.world (record { down = true; group = longer w.group m; pages = put w.pages n q }) now (moved.run.2 ∙ moved.run.1.1) (shown_put w now n q here there);
      };
    }
  where
    now : ℕ → ℕ → List ℕ
    now = content_with content n ((w.pages n).last + 1) bytes

    q : Page
    q = compensate (w.pages n) m (w.group.stable m) (w.group.counter + 1)

    here : PageShown (now n) q
    here i l = elim (cases_eq i (w.pages n).last) [
      | inl e ↦ ap lrsn_of (cond-true ((n == n) && (i + 1 == (w.pages n).last + 1)) bytes (content n (i + 1)) (and_from (n == n) (i + 1 == (w.pages n).last + 1) (eq-eqb n n refl) (eq-eqb (i + 1) ((w.pages n).last + 1) (ap (λ z. z + 1) e))))
          ∙ number ∙ ap (λ z. z + 1) (sym b.tied.counter) ∙ sym (cond-true (i == (w.pages n).last) (w.group.counter + 1) ((w.pages n).lrsn i) (eq-eqb i (w.pages n).last e))
      | inr ne ↦ ap lrsn_of (cond-false ((n == n) && (i + 1 == (w.pages n).last + 1)) bytes (content n (i + 1)) (false_from_ne_true ((n == n) && (i + 1 == (w.pages n).last + 1)) (λ x. ne (same (eqb-true (i + 1) ((w.pages n).last + 1) (and_parts (n == n) (i + 1 == (w.pages n).last + 1) x).1)))))
          ∙ b.shown n i (omega (arith, l, ne)) ∙ sym (cond-false (i == (w.pages n).last) (w.group.counter + 1) ((w.pages n).lrsn i) (ne_eqb i (w.pages n).last ne))
    ]
      where
        same : i + 1 ≡ (w.pages n).last + 1 → i ≡ (w.pages n).last
        same x = omega (arith, x)

    there : (j : ℕ) → j ≢ n → PageShown (now j) (w.pages j)
    there j ne i l =
        ap lrsn_of (cond-false ((j == n) && (i + 1 == (w.pages n).last + 1)) bytes (content j (i + 1)) (false_from_ne_true ((j == n) && (i + 1 == (w.pages n).last + 1)) (λ x. ne (eqb-true j n (and_parts (j == n) (i + 1 == (w.pages n).last + 1) x).0))))
        ∙ b.shown j i l
