-- A member whose restart begins, and ends.
use Rattle.std.proofs.Common.{ℕ, refl, sym, subst, ◌∙◌, false, List, [], ◌∷◌, arith}
use Rattle.cache_structure.specs.Sound.{IsSound}
use Rattle.list_structure.specs.declared.standing.MemberStatus.{MemberStatus}
use Rattle.facility.specs.States.{Held}
use Rattle.page_protocol.specs.Moves.{World, Restart, Open, opened, restarting}
use Rattle.page_protocol.specs.Always.{AlwaysGood}
use Rattle.page_world.specs.Numbers.{set_of}
use Rattle.page_world.specs.Holdings.{Holdings, StandsAs, with_facility}
use Rattle.page_world.specs.Failing.{OpensMoves, RestartsMoves}
use Rattle.page_events.specs.Given.{AreNumbered}
use Rattle.page_events.specs.Beside.{SameOthers}
use Rattle.page_members.specs.Members.{OpensGo, RestartsGo}

others_stand : (g : Holdings) (forced : ℕ → ℕ) (m : ℕ) (v : Held) (s : MemberStatus) → StandsAs g.facility v m s → SameOthers g (with_facility g v) forced forced m
others_stand g forced m v s x = record {
  members = x.members;
  statuses = λ k l ne. x.others k l ne;
  counter = (let e = x.counter in omega (arith, e));
  log = λ k ne. refl;
  stable = λ k ne. refl;
  written = λ k ne. refl;
  copies = λ k n ne. refl;
  casts = λ k n ne. refl;
  keeps = λ k n ne e. e;
  takes = λ k n ne e. e;
}

-- the standing of a member alone changes
restart_numbered : (w : World) (content : ℕ → ℕ → List ℕ) (forced : ℕ → ℕ) (m : ℕ) → AreNumbered w content forced → AreNumbered (record { down = false; group = restarting w.group m; pages = w.pages }) content forced
restart_numbered w content forced m t = record { shown = t.shown; stable = t.stable; drawn = t.drawn }

open_numbered : (w : World) (content : ℕ → ℕ → List ℕ) (forced : ℕ → ℕ) (m : ℕ) → AreNumbered w content forced → AreNumbered (record { down = false; group = opened w.group m; pages = w.pages }) content forced
open_numbered w content forced m t = record { shown = t.shown; stable = t.stable; drawn = t.drawn }

pub restarts_go : AlwaysGood → RestartsMoves → RestartsGo
restarts_go good law w g content forced m v b least among was stands =
    let it = law w g content m v b.tied least among was stands in
    record {
      moves = Restart m ∷ [];
      world = it.world;
      run = it.run;
      stands = record {
        good = good set_of (Restart m ∷ []) w it.world b.good it.run;
        tied = it.tied;
        numbered = subst (λ z. AreNumbered z content forced) (sym (it.run.2 ∙ it.run.1.2)) (restart_numbered w content forced m b.numbered);
        sound = subst IsSound (sym stands.directory) b.sound;
      };
      others = others_stand g forced m v _ stands;
    }

pub opens_go : AlwaysGood → OpensMoves → OpensGo
opens_go good law w g content forced m v b least among was free stands =
    let it = law w g content m v b.tied least among was free stands in
    record {
      moves = Open m ∷ [];
      world = it.world;
      run = it.run;
      stands = record {
        good = good set_of (Open m ∷ []) w it.world b.good it.run;
        tied = it.tied;
        numbered = subst (λ z. AreNumbered z content forced) (sym (it.run.2 ∙ it.run.1.3)) (open_numbered w content forced m b.numbered);
        sound = subst IsSound (sym stands.directory) b.sound;
      };
      others = others_stand g forced m v _ stands;
    }
