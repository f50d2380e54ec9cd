-- The group begins again.
use Rattle.std.proofs.Common.{◌≡◌, ℕ, ◌+◌, ◌<◌, ◌≤◌, refl, sym, ◌∙◌, subst, arith, true, false, List, [], ◌∷◌}
use Rattle.ds_base.specs.declared.names.Sizes.{Sizes}
use Rattle.page_format.specs.Fields.{lrsn_of}
use Rattle.cache_structure.specs.Directory.{empty_directory}
use Rattle.cache_structure.specs.Sound.{IsSound}
use Rattle.list_structure.specs.States.{IsNew as AreNewLists}
use Rattle.facility.specs.States.{IsMade}
use Rattle.member_resources.specs.Events as event
use Rattle.page_protocol.specs.Page.{risen}
use Rattle.page_protocol.specs.Moves.{World, Rise, all_up}
use Rattle.page_protocol.specs.Always.{AlwaysGood, Good}
use Rattle.page_world.specs.Groups.{IsMade as IsMadeGroup, Remains, RisesMoves}
use Rattle.page_world.specs.Numbers.{set_of}
use Rattle.page_intents.specs.Numbers.{AreNumbered}
use Rattle.page_groups.specs.Groups.{MembersBegin, made_over}
use Rattle.page_groups.specs.Falls.{Fallen, GroupsRise}

made_group : (r : Remains) (u : event.World) (sizes : Sizes) → IsMade sizes r.counter u.facility → sizes.members ≤ 32 → IsMadeGroup (made_over u.facility r.disk r.stable)
made_group r u sizes f few =
    let kept = f.lists_new.members_kept in
    record {
      size = sizes.cache;
      frames = sizes.pool;
      agents = sizes.agents;
      few = subst (λ z. z ≤ 32) (sym kept) few;
      directory = f.directory_empty;
      lists = subst (λ z. AreNewLists u.facility.lists z sizes.agents) (sym kept) f.lists_new;
      written = λ m. refl;
      copies = λ m n. refl;
      casts = λ m n. refl;
      owner = λ n. refl;
    }

-- no log is known yet
risen_numbered : (w v : World) (r : Remains) (content : ℕ → ℕ → List ℕ) → Fallen w r content → Good v → v ≡ record { down = false; group = all_up w.group; pages = λ n. risen (w.pages n) } → AreNumbered v content (λ m. 0)
risen_numbered w v r content b good e = record {
  shown = subst (λ (z : World). (n i : ℕ) → i < (z.pages n).last → lrsn_of (content n (i + 1)) ≡ (z.pages n).lrsn i) (sym e) b.shown;
  stable = λ n i l le. (let some = (good.numbered n).positive i l in absurd (omega (arith, some, le)));
  drawn = λ m. omega arith;
}

pub groups_rise : AlwaysGood → RisesMoves → MembersBegin → ((size frames : ℕ) → IsSound (empty_directory size frames)) → GroupsRise
groups_rise always law begin empty w r content u sizes hs b all f shows few new =
    let moved = law w r (made_over u.facility r.disk r.stable) content b.good b.tied all (made_group r u sizes f few) (λ n. refl) (λ m. refl) f.counter_at in
    let good = always set_of (Rise ∷ []) w moved.world b.good moved.run in
    record {
      moves = Rise ∷ [];
      world = moved.world;
      run = moved.run;
      stands = record {
        group = record {
          good = good;
          tied = moved.tied;
          numbered = risen_numbered w moved.world r content b good (moved.run.2 ∙ moved.run.1.2);
          sound = subst IsSound (sym f.directory_empty) (empty sizes.cache sizes.pool);
        };
        facility = refl;
        drive = shows;
        named = λ m e. (new m e).marks.member_is;
        each = λ m e. (begin u.facility r.disk r.stable r.counter sizes m (hs m) f few e (new m e)).0;
        casts = λ m e. (begin u.facility r.disk r.stable r.counter sizes m (hs m) f few e (new m e)).1;
      };
    }
