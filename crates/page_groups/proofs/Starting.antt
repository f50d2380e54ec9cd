-- A group as it was made, over an empty disk.
use Rattle.std.proofs.Common.{◌≡◌, ℕ, zero, suc, ◌+◌, ◌≤◌, refl, sym, ap, subst, ◌∙◌, true, false, List, [], Option, Some, None, length, replicate, arith}
use Rattle.std.specs.Prelude.{nat_le, is_some, slice_index_or}
use Rattle.std.proofs.lemmas.Bool.{and_parts, both_ways, cond-true, leb-true}
use Rattle.std.proofs.lemmas.List.{length-replicate}
use Rattle.std.proofs.lemmas.Option.{none-some}
use Rattle.ds_base.specs.declared.names.PageId.{PageId}
use Rattle.ds_base.specs.declared.names.Sizes.{Sizes}
use Rattle.ds_model.specs.declared.lock.Name.TheVariants as name
use Rattle.cache_structure.specs.Directory.{empty_directory}
use Rattle.cache_structure.specs.Sound.{IsSound}
use Rattle.lock_manager.specs.declared.claim.Claim.{Claim}
use Rattle.lock_manager.specs.Claims.{mode_in}
use Rattle.list_structure.specs.declared.standing.MemberStatus.TheVariants.{Up, Down}
use Rattle.list_structure.specs.Standings.{status_of}
use Rattle.list_structure.specs.States.{IsNew as AreNewLists}
use Rattle.facility.specs.States.{Held as Facility, IsMade}
use Rattle.page_index.specs.Places.{AreApart, page_at as placed_at}
use Rattle.page_index.proofs.CallerLemmas.{finds}
use Rattle.member_pool.specs.Frames.{find_page, free_frame, page_of}
use Rattle.member_pool.specs.Heads.{HeadState, all_free}
use Rattle.member_log.specs.Buffers.{LogBuffer}
use Rattle.member_marks.specs.Claims.{has_page}
use Rattle.member_resources.specs.Held.{Held, IsNew, zeros}
use Rattle.member_resources.specs.Settled.{kept_of}
use Rattle.member_resources.specs.Events as event
use Rattle.page_protocol.specs.Moves.{start}
use Rattle.page_protocol.specs.Always.{StartsGood}
use Rattle.page_world.specs.Numbers.{page_at}
use Rattle.page_world.specs.Groups.{IsMade as IsMadeGroup, StartsTied}
use Rattle.page_intents.specs.Numbers.{AreNumbered}
use Rattle.page_intents.specs.Stands.{copy_in, copy_of, IsUp}
use Rattle.page_intents.specs.Castouts.{cast_of, HasCast}
use Rattle.page_members.specs.Members.{Shows}
use Rattle.page_groups.specs.Groups.{GroupStands, GroupsStart, MembersBegin, among, made, made_over}

-- ---- free frames
free_at : (n f : ℕ) → placed_at page_of (replicate n free_frame) f ≡ None
free_at zero f = refl
free_at (suc n) zero = refl
free_at (suc n) (suc f) = free_at n f

none_found : (n : ℕ) (id : PageId) → find_page (replicate n free_frame) id ≡ None
none_found n id = by (find_page (replicate n free_frame) id) refl
  where
    by : (o : Option ℕ) → find_page (replicate n free_frame) id ≡ o → find_page (replicate n free_frame) id ≡ None
    by None e = e
    by (Some f) e = absurd (none-some id (sym (free_at n f) ∙ finds page_of (replicate n free_frame) id f e))

free_apart : (n : ℕ) → AreApart page_of (replicate n free_frame)
free_apart n f g id x y = absurd (none-some id (sym (free_at n f) ∙ x))

-- ---- no claims
abbrev no_claims : List Claim
no_claims = []

none_at : (n o : ℕ) → slice_index_or (replicate n no_claims) o [] ≡ no_claims
none_at zero o = refl
none_at (suc n) zero = refl
none_at (suc n) (suc o) = none_at n o

-- ---- a member that holds nothing
module _ (f : Facility) (pages : ℕ → List ℕ) (stable : ℕ → ℕ) (counter : ℕ) (sizes : Sizes) (is : IsMade sizes counter f) (few : sizes.members ≤ 32) where
  no_page : (m : ℕ) (h : Held) → IsNew m sizes h → (id : PageId) → has_page h.marks id ≡ false
  no_page m h new id =
      ap (λ (z : List (List Claim)). is_some (mode_in (slice_index_or z 0 []) (name.Page id))) new.marks.holders
      ∙ ap (λ (z : List Claim). is_some (mode_in z (name.Page id))) (none_at (sizes.agents + 1) 0)

  stands_up : (m : ℕ) (h : Held) → among sizes.members m ≡ true → IsNew m sizes h → IsUp (made_over f pages stable) (λ k. 0) (kept_of h)
  stands_up m h e new =
      let parts = and_parts (nat_le 1 m) (nat_le m sizes.members) e in
      let least : 1 ≤ m = leb-true 1 m parts.0 in
      let most : m ≤ sizes.members = leb-true m sizes.members parts.1 in
      let member = new.marks.member_is in
      let heads = new.marks.heads in
      let log = new.marks.log in
      let lists = is.lists_new in
      let last : h.marks.log.last ≡ 0 = ap (λ (z : LogBuffer). z.last) log in
      record {
        least = subst (λ z. 1 ≤ z) (sym member) least;
        among = subst (λ z. z ≤ f.lists.members) (sym member) (subst (λ z. m ≤ z) (sym lists.members_kept) most);
        up = ap (status_of f.lists.statuses) member ∙ lists.statuses.each m (least, omega (arith, most, few)) ∙ cond-true (nat_le m sizes.members) Up Down parts.1;
        log = sym (ap (λ (z : LogBuffer). z.stable) log);
        last = omega (arith, last);
        pending = record { records = []; spelled = ap (λ (z : LogBuffer). z.pending) log; counted = omega arith };
        apart = subst (λ (z : HeadState). AreApart page_of z.frames) (sym heads) (free_apart sizes.pool);
        each = ap length new.pages ∙ length-replicate sizes.pool zeros ∙ sym (ap (λ (z : HeadState). length z.frames) heads ∙ length-replicate sizes.pool free_frame);
        copies = λ n. sym (ap (λ (z : HeadState). copy_of z h.pages n) heads ∙ ap (copy_in (all_free sizes.pool) h.pages) (none_found sizes.pool (page_at n)));
        owns = λ n x. absurd (both_ways (has_page h.marks (page_at n)) (no_page m h new (page_at n)) x);
        no_more = λ n x y. none-some h.marks.member y;
      }

  casts_none : (m : ℕ) (h : Held) → IsNew m sizes h → HasCast (made_over f pages stable) h.marks.member h.cast h.buffer
  casts_none m h new n = sym (ap (λ z. cast_of z h.buffer n) new.cast)

pub members_begin : MembersBegin
members_begin f pages stable counter sizes m h is few e new = (stands_up f pages stable counter sizes is few m h e new, casts_none f pages stable counter sizes is few m h new)

-- ---- over empty logs
module _ (starts : StartsTied) (good : StartsGood) (empty : (size frames : ℕ) → IsSound (empty_directory size frames)) (u : event.World) (pages : ℕ → List ℕ) (sizes : Sizes) (hs : ℕ → Held) (f : IsMade sizes 0 u.facility) (few : sizes.members ≤ 32) where
  made_group : IsMadeGroup (made u.facility pages)
  made_group =
      let kept = f.lists_new.members_kept in
      record {
        size = sizes.cache;
        frames = sizes.pool;
        agents = sizes.agents;
        few = subst (λ z. z ≤ 32) (sym kept) few;
        directory = f.directory_empty;
        lists = subst (λ z. AreNewLists u.facility.lists z sizes.agents) (sym kept) f.lists_new;
        written = λ m. refl;
        copies = λ m n. refl;
        casts = λ m n. refl;
        owner = λ n. refl;
      }

  starts_numbered : AreNumbered start (λ n v. pages n) (λ m. 0)
  starts_numbered = record { shown = λ n i l. absurd (omega (arith, l)); stable = λ n i l le. absurd (omega (arith, l)); drawn = λ m. omega arith }

  pub starts_group : Shows u.drive pages → ((m : ℕ) → among sizes.members m ≡ true → IsNew m sizes (hs m)) → GroupStands start u (made u.facility pages) (λ n v. pages n) (λ m. 0) (among sizes.members) hs
  starts_group shows new = record {
    group = record {
      good = good;
      tied = starts (made u.facility pages) (λ n v. pages n) made_group (λ n. refl) (λ m. refl) f.counter_at;
      numbered = starts_numbered;
      sound = subst IsSound (sym f.directory_empty) (empty sizes.cache sizes.pool);
    };
    facility = refl;
    drive = shows;
    named = λ m e. (new m e).marks.member_is;
    each = λ m e. (members_begin u.facility pages (λ k. 0) 0 sizes m (hs m) f few e (new m e)).0;
    casts = λ m e. (members_begin u.facility pages (λ k. 0) 0 sizes m (hs m) f few e (new m e)).1;
  }

pub groups_start : StartsTied → StartsGood → ((size frames : ℕ) → IsSound (empty_directory size frames)) → GroupsStart
groups_start starts good empty u pages sizes hs f shows few new = starts_group starts good empty u pages sizes hs f few shows new
