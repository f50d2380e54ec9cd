-- A member that fails: the numbers of what is left, and all else of the others.
use Rattle.std.proofs.Common.{◌≡◌, ◌≢◌, ℕ, ◌<◌, ◌≤◌, refl, sym, ap, subst, ◌∙◌, false, List, [], ◌∷◌, arith, slice_set}
use Rattle.std.specs.Prelude.{◌-◌, ◌==◌}
use Rattle.std.proofs.lemmas.Bool.{cond-false, ne_eqb}
use Rattle.std.proofs.lemmas.List.{get_or-set_other}
use Rattle.cache_structure.specs.Directory.{Directory, after_fail}
use Rattle.cache_structure.specs.Sound.{IsSound}
use Rattle.list_structure.specs.declared.standing.MemberStatus.{MemberStatus}
use Rattle.list_structure.specs.declared.standing.MemberStatus.TheVariants as standing
use Rattle.list_structure.specs.States.{ListsState}
use Rattle.list_structure.specs.Standings.{status_of}
use Rattle.facility.specs.States.{Held, MemberFailed}
use Rattle.page_protocol.specs.Page.{fail}
use Rattle.page_protocol.specs.Moves.{World, Fail, IsCut, failed}
use Rattle.page_protocol.specs.Always.{AlwaysGood}
use Rattle.page_world.specs.Numbers.{set_of}
use Rattle.page_world.specs.Holdings.{no_copy, no_cast, Holdings, with_facility}
use Rattle.page_world.specs.Failing.{without, FailsMoves}
use Rattle.page_events.specs.Given.{AreNumbered}
use Rattle.page_events.specs.Beside.{SameOthers}
use Rattle.page_members.specs.Members.{FailuresGo}

-- the chains are cut, and show the same numbers
cut_numbered : (w : World) (content : ℕ → ℕ → List ℕ) (forced : ℕ → ℕ) (m : ℕ) (cut : ℕ → ℕ) → ((n : ℕ) → IsCut w.group m (w.pages n) (cut n)) → AreNumbered w content forced
    → AreNumbered (record { down = false; group = failed w.group m; pages = λ n. fail (w.pages n) m (cut n) }) content forced
cut_numbered w content forced m cut is t = record {
  shown = λ n i l. t.shown n i (within n i l);
  stable = λ n i l le. t.stable n i (within n i l) le;
  drawn = t.drawn;
}
  where
    within : (n i : ℕ) → i < cut n → i < (w.pages n).last
    within n i l = let short = (is n).short in omega (arith, l, short)

-- the standings of the others
other_place : (m k : ℕ) → 1 ≤ m → 1 ≤ k → k ≢ m → k - 1 ≢ m - 1
other_place m k a b ne e = ne (omega (arith, a, b, e))

status_kept : (statuses : List MemberStatus) (m k : ℕ) (s : MemberStatus) → 1 ≤ m → 1 ≤ k → k ≢ m → status_of (slice_set statuses (m - 1) s) k ≡ status_of statuses k
status_kept statuses m k s a b ne = get_or-set_other statuses (m - 1) (k - 1) s standing.Down (other_place m k a b ne)

others_fail : (g : Holdings) (forced : ℕ → ℕ) (m : ℕ) (v : Held) → 1 ≤ m → MemberFailed g.facility m v → SameOthers g (with_facility (without g m) v) forced forced m
others_fail g forced m v least f = record {
  members = ap (λ (z : ListsState). z.members) f.lists.others;
  statuses = λ k l ne. ap (λ (z : ListsState). status_of z.statuses k) f.lists.others ∙ status_kept g.facility.lists.statuses m k standing.Failed least l ne;
  counter = (let e = f.counter in omega (arith, e));
  log = λ k ne. refl;
  stable = λ k ne. refl;
  written = λ k ne. cond-false (k == m) (g.stable m) (g.written k) (ne_eqb k m ne);
  copies = λ k n ne. cond-false (k == m) no_copy (g.copies k n) (ne_eqb k m ne);
  casts = λ k n ne. cond-false (k == m) no_cast (g.casts k n) (ne_eqb k m ne);
  keeps = λ k n ne e. e;
  takes = λ k n ne e. e;
}

pub failures_go : ((d : Directory) (member : ℕ) → IsSound d → IsSound (after_fail d member)) → AlwaysGood → FailsMoves → FailuresGo
failures_go sound good law w g content forced m v b least f =
    let it = law w g content m v b.good b.tied least f in
    let moves = Fail m it.0 ∷ [] in
    let step = it.1.run.1 in
    let now : it.1.world ≡ record { down = false; group = failed w.group m; pages = λ n. fail (w.pages n) m (it.0 n) } = it.1.run.2 ∙ step.2 in
    record {
      moves = moves;
      world = it.1.world;
      run = it.1.run;
      stands = record {
        good = good set_of moves w it.1.world b.good it.1.run;
        tied = it.1.tied;
        numbered = subst (λ z. AreNumbered z content forced) (sym now) (cut_numbered w content forced m it.0 step.1 b.numbered);
        sound = subst IsSound (sym f.directory) (sound g.facility.directory m b.sound);
      };
      others = others_fail g forced m v least f;
    }
