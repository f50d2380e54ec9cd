-- What a crew may do next, and what its members' events leave as it is.
use Rattle.std.specs.Prelude.{◌≡◌, ℕ, ◌*◌, Bool, true, false, nat_lt, count_by, map, is_some}
use Rattle.ds_base.specs.declared.names.Sizes.{Sizes}
use Rattle.cache_structure.specs.Directory.{Directory}
use Rattle.group_crew.specs.declared.crew.Crew.{Crew}
use Rattle.group_member.specs.declared.part.MemberPart.{MemberPart}
use Rattle.script_phases.specs.Progresses.{own_choice}
use Rattle.group_crew.specs.Ready.{is_ready}

-- whether the choice of the event is ready
abbrev pub is_ready_in : {C P : Type 0} → Crew C P → ℕ → Bool
is_ready_in {C} {P} crew event =
    is_ready (is_some crew.restart) (own_choice (is_some crew.restart) crew.progress crew.script) (map (λ p. p.ready) crew.parts.items) event

-- more than half of the cache's entries are changed
abbrev pub is_half : Sizes → Directory → Bool
is_half sizes d = nat_lt sizes.cache (2 * count_by (λ e. e.changed) d.entries)

-- what is ready has to be found again
abbrev pub stale : {P : Type 0} → MemberPart P → MemberPart P
stale {P} part = record part { is_stale = true }

-- a member but for what is found to be ready
abbrev pub unlooked : {P : Type 0} → MemberPart P → MemberPart P
unlooked {P} part = record part { ready = 0; is_stale = false }

-- what a look for ready choices leaves as it is
pub record Looks {C P : Type 0} (old new : Crew C P) : Type 0 where
  pub rest : new ≡ record old { parts = new.parts; progress = record old.progress { is_idle = new.progress.is_idle }; is_own_stale = new.is_own_stale }
  pub parts : map unlooked new.parts.items ≡ map unlooked old.parts.items

-- what no event of a member changes
pub record Keeps {C P : Type 0} (old new : Crew C P) : Type 0 where
  pub script : new.script ≡ old.script
  pub begun : new.progress.begun ≡ old.progress.begun
  pub restart : new.restart ≡ old.restart
