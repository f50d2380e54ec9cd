-- A group that fails as a whole, restarts over its disk, and begins.
use Rattle.std.proofs.Common.{◌≡◌, ℕ, ◌+◌, ◌≤◌, refl, sym, ◌∙◌, ap, subst, arith, Bool, true, false, inl, inr, List, Option, Some, None}
use Rattle.std.specs.Prelude.{◌==◌, ◌&&◌, if◌then◌else◌, nat_le}
use Rattle.std.proofs.lemmas.Bool.{both_ways, cond-true, cond-false, cases_eq, eqb-true, and_parts, false_from_ne_true, le-leb}
use Rattle.list_structure.specs.declared.standing.MemberStatus.{MemberStatus}
use Rattle.list_structure.specs.declared.standing.MemberStatus.TheVariants as standing
use Rattle.list_structure.specs.Standings.{status_of}
use Rattle.cache_structure.specs.Directory.{Directory}
use Rattle.page_protocol.specs.Page.{Page, Group, Up, put, all_fail, brought_forward, compensate, risen}
use Rattle.page_protocol.specs.Moves.{World, IsWholeCut, AreDrawnBy, all_failed, longer, all_up, blank}
use Rattle.page_protocol.specs.Down.{Grounded}
use Rattle.page_protocol.specs.Always.{Good, Stands}
use Rattle.page_protocol.specs.Words.{GroupFailureIsPossible}
use Rattle.page_world.specs.Holdings.{Copy, Holdings, held_of, with_facility, as_status}
use Rattle.page_world.specs.Tied.{PageTied, content_of, AreApart}
use Rattle.page_world.specs.Groups.{Remains, DownTied, AreDrawn, FallsMoves, FallsAgain, ForwardsMoves, AppendsMoves, content_with, CompensatesMoves, IsMade, RisesMoves, StartsTied}
use Rattle.page_world.proofs.Copies.{put_here, put_there}

-- ---- the group fails
drawn_by : (w : World) (counter n cut : ℕ) → AreDrawn w counter → IsWholeCut w.group (w.pages n) cut → AreDrawnBy (w.pages n) cut counter
drawn_by w counter n cut drawn s i lt = drawn n i (s.kept i lt)

abbrev down_world : World → (ℕ → ℕ) → ℕ → World
down_world w cut counter = record { down = true; group = all_failed w.group counter; pages = λ n. all_fail (w.pages n) (cut n) }

pub falls : GroupFailureIsPossible → FallsMoves
falls possible w g content counter good t drawn = (
  cut,
  record {
    world = down_world w cut counter;
    run = (down_world w cut counter, ((λ n. (possible w good n).1), (λ n. drawn_by w counter n (cut n) drawn (possible w good n).1), refl), refl);
    tied = record { down = refl; counter = refl; stable = t.stable; written = t.stable; disk = λ n. (t.pages n).disk; clean = λ n. refl };
  },
)
  where
    cut : ℕ → ℕ
    cut n = (possible w good n).0

pub falls_again : GroupFailureIsPossible → FallsAgain
falls_again possible w r content counter good t drawn = (
  cut,
  record {
    world = down_world w cut counter;
    run = (down_world w cut counter, ((λ n. (possible w good n).1), (λ n. drawn_by w counter n (cut n) drawn (possible w good n).1), refl), refl);
    tied = record { down = refl; counter = refl; stable = t.stable; written = t.stable; disk = t.disk; clean = λ n. refl };
  },
)
  where
    cut : ℕ → ℕ
    cut n = (possible w good n).0

-- ---- the restart
pub forwards : ForwardsMoves
forwards w r content n version t low high = record {
  world = world;
  run = (world, (t.down, low, high, refl), refl);
  tied = record {
    down = refl;
    counter = t.counter;
    stable = t.stable;
    written = t.written;
    disk = λ k. elim (cases_eq k n) [
      | inl e ↦ subst (λ z. put r.disk n (content n version) z ≡ content z (put w.pages n (brought_forward (w.pages n) version) z).disk) (sym e)
          (put_here r.disk n (content n version) ∙ sym (ap (λ (p : Page). content n p.disk) (put_here w.pages n (brought_forward (w.pages n) version))))
      | inr ne ↦ put_there r.disk n k (content n version) ne ∙ t.disk k ∙ sym (ap (λ (p : Page). content k p.disk) (put_there w.pages n k (brought_forward (w.pages n) version) ne))
    ];
    clean = λ k. elim (cases_eq k n) [
      | inl e ↦ subst (λ z. (put w.pages n (brought_forward (w.pages n) version) z).changed ≡ false) (sym e) (ap (λ (p : Page). p.changed) (put_here w.pages n (brought_forward (w.pages n) version)) ∙ t.clean n)
      | inr ne ↦ ap (λ (p : Page). p.changed) (put_there w.pages n k (brought_forward (w.pages n) version) ne) ∙ t.clean k
    ];
  };
}
  where
    world : World
    world = record { down = true; group = w.group; pages = put w.pages n (brought_forward (w.pages n) version) }

pub appends : AppendsMoves
appends w r content m t = record {
  world = record { down = true; group = longer w.group m; pages = w.pages };
  run = (record { down = true; group = longer w.group m; pages = w.pages }, (t.down, refl), refl);
  tied = record {
    down = refl;
    counter = ap (λ x. x + 1) t.counter;
    stable = λ k. elim (k == m) as (λ b. (if b then w.group.stable m + 1 else w.group.stable k) ≡ (if b then r.stable m + 1 else r.stable k)) [ true ↦ ap (λ x. x + 1) (t.stable m) | false ↦ t.stable k ];
    written = λ k. elim (k == m) as (λ b. (if b then w.group.stable m + 1 else w.group.written k) ≡ (if b then r.stable m + 1 else r.stable k)) [ true ↦ ap (λ x. x + 1) (t.stable m) | false ↦ t.written k ];
    disk = t.disk;
    clean = t.clean;
  };
}

grounded : (w : World) (r : Remains) (content : ℕ → ℕ → List ℕ) → Good w → DownTied w r content → (n : ℕ) → Grounded w.group (w.pages n)
grounded w r content good t n = subst (λ b. Stands b w.group (w.pages n)) t.down (good.stands n)

-- a version that was there
old_at : (content : ℕ → ℕ → List ℕ) (n last k v : ℕ) (bytes : List ℕ) → (k ≡ n → v ≤ last) → content k v ≡ content_with content n (last + 1) bytes k v
old_at content n last k v bytes low = sym (cond-false ((k == n) && (v == last + 1)) bytes (content k v) (false_from_ne_true ((k == n) && (v == last + 1)) never))
  where
    above : (v last : ℕ) → v ≤ last → v ≡ last + 1 → ⊥
    above v last le e = omega (arith, le, e)

    never : ((k == n) && (v == last + 1)) ≡ true → ⊥
    never e = let both = and_parts (k == n) (v == last + 1) e in above v last (low (eqb-true k n both.0)) (eqb-true v (last + 1) both.1)

pub compensates : CompensatesMoves
compensates w r content n m bytes good t = record {
  world = world;
  run = (world, (t.down, refl), refl);
  tied = record {
    down = refl;
    counter = ap (λ x. x + 1) t.counter;
    stable = λ k. elim (k == m) as (λ b. (if b then w.group.stable m + 1 else w.group.stable k) ≡ (if b then r.stable m + 1 else r.stable k)) [ true ↦ ap (λ x. x + 1) (t.stable m) | false ↦ t.stable k ];
    written = λ k. elim (k == m) as (λ b. (if b then w.group.stable m + 1 else w.group.written k) ≡ (if b then r.stable m + 1 else r.stable k)) [ true ↦ ap (λ x. x + 1) (t.stable m) | false ↦ t.written k ];
    disk = λ k. t.disk k ∙ old_at content n (w.pages n).last k (w.pages k).disk bytes (low k) ∙ ap (content_with content n ((w.pages n).last + 1) bytes k) (sym (same k).0);
    clean = λ k. (same k).1 ∙ t.clean k;
  };
}
  where
    world : World
    world = record { down = true; group = longer w.group m; pages = put w.pages n (compensate (w.pages n) m (w.group.stable m) (w.group.counter + 1)) }

    low : (k : ℕ) → k ≡ n → (w.pages k).disk ≤ (w.pages n).last
    low k e = subst (λ z. (w.pages z).disk ≤ (w.pages n).last) (sym e) (grounded w r content good t n).within

    same : (k : ℕ) → ((if k == n then compensate (w.pages n) m (w.group.stable m) (w.group.counter + 1) else w.pages k).disk ≡ (w.pages k).disk) × ((if k == n then compensate (w.pages n) m (w.group.stable m) (w.group.counter + 1) else w.pages k).changed ≡ (w.pages k).changed)
    same k = elim (cases_eq k n) [
      | inl e ↦ subst (λ z. ((if z == n then compensate (w.pages n) m (w.group.stable m) (w.group.counter + 1) else w.pages z).disk ≡ (w.pages z).disk) × ((if z == n then compensate (w.pages n) m (w.group.stable m) (w.group.counter + 1) else w.pages z).changed ≡ (w.pages z).changed)) (sym e)
          (ap (λ (p : Page). p.disk) (put_here w.pages n (compensate (w.pages n) m (w.group.stable m) (w.group.counter + 1))), ap (λ (p : Page). p.changed) (put_here w.pages n (compensate (w.pages n) m (w.group.stable m) (w.group.counter + 1))))
      | inr ne ↦ (ap (λ (p : Page). p.disk) (put_there w.pages n k (compensate (w.pages n) m (w.group.stable m) (w.group.counter + 1)) ne), ap (λ (p : Page). p.changed) (put_there w.pages n k (compensate (w.pages n) m (w.group.stable m) (w.group.counter + 1)) ne))
    ]

-- ---- the group begins
-- a page of which nobody has anything
record IsUntouched (p : Page) : Type 0 where
  bytes : p.bytes ≡ None
  changed : p.changed ≡ false
  castout : p.castout ≡ None
  bits : (m : ℕ) → p.bit m ≡ false
  unfilled : (m : ℕ) → (p.frame m).filled ≡ false
  unmarked : (m : ℕ) → (p.frame m).marked ≡ false
  indirect : (m : ℕ) → (p.frame m).direct ≡ false
  owner : p.owner ≡ None
  part : p.sole ≡ false

fresh_tied : (g : Holdings) (p : Page) (content : ℕ → List ℕ) (n : ℕ) → IsMade g → IsUntouched p → g.disk n ≡ content p.disk → PageTied (held_of g n) p content
fresh_tied g p content n s u disk = subst (λ (d : Directory). PageTied (held_of (with_facility g (record g.facility { directory = d })) n) p content) (sym s.directory) (record {
  bytes = sym (ap (content_of content) u.bytes);
  changed = sym u.changed;
  there = λ e. absurd (both_ways p.changed u.changed e);
  castout = sym u.castout;
  written = λ m e. absurd (none_held m e);
  disk = disk;
  bit = λ m. no_bit (g.copies m n).placed (g.copies m n).noted ∙ sym (u.bits m);
  own = λ m x y z. absurd (both_ways false refl z);
  filled = λ m. ap (λ (c : Copy). c.filled) (s.copies m n) ∙ sym (u.unfilled m);
  marked = λ m. ap (λ (c : Copy). c.marked) (s.copies m n) ∙ sym (u.unmarked m);
  same = λ m x. absurd (both_ways (p.frame m).filled (u.unfilled m) x);
  indirect = u.indirect;
  buffer = λ m x e. absurd (none_held m e);
  sent = λ m x e. absurd (none_held m e);
  owner = u.owner ∙ sym (s.owner n);
  part = u.part;
})
  where
    none_held : (m : ℕ) → p.castout ≡ Some m → ⊥
    none_held m e = let both : ◌≡◌ {A = Option ℕ} None (Some m) = sym u.castout ∙ e in cc both

    no_bit : (x y : Bool) → (x && (y && false)) ≡ false
    no_bit true true = refl
    no_bit true false = refl
    no_bit false y = refl

up_status : (ss : List MemberStatus) (m members : ℕ) → m ≤ members → status_of ss m ≡ (if nat_le m members then standing.Up else standing.Down) → Up ≡ as_status (status_of ss m)
up_status ss m members le e = sym (ap as_status (e ∙ cond-true (nat_le m members) standing.Up standing.Down (le-leb m members le)))

made_status : (g : Holdings) (m : ℕ) → IsMade g → 1 ≤ m → m ≤ g.facility.lists.members → Up ≡ as_status (status_of g.facility.lists.statuses m)
made_status g m s a b = up_status g.facility.lists.statuses m g.facility.lists.members b (s.lists.statuses.each m (a, within m g.facility.lists.members b s.few))
  where
    within : (m n : ℕ) → m ≤ n → n ≤ 32 → m ≤ 32
    within m n a b = omega (arith, a, b)

made_apart : (g : Holdings) → IsMade g → AreApart g
made_apart g s m n k x y e = absurd (both_ways false refl (sym (ap (λ (c : Copy). c.placed) (s.copies m n)) ∙ x))

untouched : (g : Group) (p : Page) → Grounded g p → p.changed ≡ false → IsUntouched (risen p)
untouched g p s clean = record { bytes = s.no_bytes; changed = clean; castout = s.no_castout; bits = s.no_bits; unfilled = s.no_frames; unmarked = s.unmarked; indirect = s.undirect; owner = s.no_owner; part = s.no_sole }

pub rises : RisesMoves
rises w r g content good t last s disk stable counter = record {
  world = record { down = false; group = all_up w.group; pages = λ n. risen (w.pages n) };
  run = (record { down = false; group = all_up w.group; pages = λ n. risen (w.pages n) }, (t.down, last, refl), refl);
  tied = record {
    running = refl;
    lost = sym (ap (λ (d : Directory). d.lost) s.directory);
    counter = t.counter ∙ sym counter;
    status = λ m a b. made_status g m s a b;
    stable = λ m. t.stable m ∙ sym (stable m);
    written = λ m. t.written m ∙ sym (s.written m ∙ stable m);
    apart = made_apart g s;
    pages = λ n. fresh_tied g (risen (w.pages n)) (content n) n s (untouched w.group (w.pages n) (grounded w r content good t n) (t.clean n)) (disk n ∙ t.disk n);
  };
}

pub starts : StartsTied
starts g content s disk stable counter = record {
  running = refl;
  lost = sym (ap (λ (d : Directory). d.lost) s.directory);
  counter = sym counter;
  status = λ m a b. made_status g m s a b;
  stable = λ m. sym (stable m);
  written = λ m. sym (s.written m ∙ stable m);
  apart = made_apart g s;
  pages = λ n. fresh_tied g blank (content n) n s (record { bytes = refl; changed = refl; castout = refl; bits = λ m. refl; unfilled = λ m. refl; unmarked = λ m. refl; indirect = λ m. refl; owner = refl; part = refl }) (disk n);
}
