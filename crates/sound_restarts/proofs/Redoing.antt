-- The redo of a group restart over a sound disk, call by call.
use Rattle.std.proofs.Common.{◌≡◌, ℕ, ◌≤◌, Bool, true, false, cond, List, [], ◌∷◌, drop, Result, inl, inr, refl, sym, ap, subst, ◌∙◌, arith}
use Rattle.std.specs.Prelude.{◌||◌, nat_lt, slice_get}
use Rattle.std.specs.List.{list_any}
use Rattle.page_chain.specs.Chains.{touches}
use Rattle.std.proofs.lemmas.Bool.{both_ways, cases_Bool, cond-false, le-ltb, or_left, or_right}
use Rattle.ds_base.specs.Pages.{same_page}
use Rattle.ds_base.specs.declared.names.PageId.{PageId}
use Rattle.ds_base.specs.declared.names.Volume.TheVariants as volume
use Rattle.ds_disk.specs.Contents.{Contents}
use Rattle.ds_disk.specs.Pages.{page_at}
use Rattle.ds_model.specs.declared.log.LogRecord.{LogRecord}
use Rattle.log_record.specs.declared.log.Log.{Log}
use Rattle.log_trans.specs.Numbers.{greatest}
use Rattle.log_merge.specs.Merging.{all_records}
use Rattle.page_format.specs.Fields.{lrsn_of, lrsn_at, is_old}
use Rattle.page_redo.specs.declared.fault.FieldFault.{FieldFault}
use Rattle.page_redo.specs.Forward.{Forward, brought_forward}
use Rattle.page_redo.specs.Pages.{has_page}
use Rattle.page_records.specs.declared.places.PageRecords.{PageRecords}
use Rattle.page_records.specs.Places.{by_page}
use Rattle.page_versions.proofs.Search.{rise}
use Rattle.places_redo.specs.Picked.{brought_at}
use Rattle.restart_plan.specs.declared.greatest.Greatest.{Greatest}
use Rattle.restart_plan.specs.declared.plan.Plan.{Plan}
use Rattle.restart_plan.specs.Plans.{plan_of}
use Rattle.group_restart.specs.declared.stage.Stage.TheVariants as stage
use Rattle.group_restart.specs.Machine.{Restart}
use Rattle.group_restart.specs.Disk.{with_page as with_hand}
use Rattle.group_restart.specs.PageNumbers.{with_page_number}
use Rattle.group_restart.specs.Course.{Next, with_plan, with_greatest, page_or, next_redo, raised, numbered_by, take_raised, forwarded, take_page, take_done}
use Rattle.sound_disk.specs.Versions.{current, last_images}
use Rattle.sound_restarts.specs.Redo.{IsSoundNow, with_page, IsLast, IsBrought, PlanSuits, PlanOfAllSuits, NoneOldElsewhere, names_of, HasRestOf, Redoes, with_hand_page, RedoLeads, RedoBegins, RedoReads, RedoWrites}
use Rattle.sound_restarts.proofs.Bringing.{DiskLaws, last_new, last_within, page_within, last_keeps, brings_forward, never_written}
use Rattle.sound_restarts.proofs.Brought.{current_new}
use Rattle.sound_restarts.proofs.Listed_pages.{all_places, not_listed, not_above, brought_all, left_last}
use Rattle.sound_restarts.proofs.Numbers.{greatest_is}
use Rattle.sound_restarts.proofs.Page_writes.{put_at, put_has, same_name, same_self}

-- ---- the next page

abbrev with_pages : Restart → List PageRecords → Restart
with_pages h pages = record h { plan = record h.plan { pages = pages } }

-- the first of these pages is next, and the others are behind it
abbrev next_of : List PageRecords → Restart → Next
next_of pages h = page_or (with_pages h (drop 1 pages)) (slice_get pages 0)

next_is : (h : Restart) (pages : List PageRecords) → h.plan.pages ≡ pages → next_redo h ≡ next_of pages h
unfolding next_redo
next_is h pages e = ap (λ (ps : List PageRecords). next_of ps h) e

rest_of : (p q : Plan) (pages : List PageRecords) → HasRestOf p q → HasRestOf p (record q { pages = pages })
rest_of p q pages h = record { ends = h.ends; closings = h.closings; undo = h.undo; endings = h.endings; renews = h.renews; greatest = h.greatest }

leads_of : (pages : List PageRecords) (p : Plan) (h : Restart) (c : Contents) (logs : List Log) → Redoes pages p h c logs → RedoLeads (next_of pages h) p c logs
leads_of [] p h c logs r = inr (record {
  behind = with_pages h [];
  goes = refl;
  brought = record { now = r.brought.now; last = r.brought.last; asks = r.brought.asks; rest = rest_of p h.plan [] r.brought.rest };
})
leads_of (q ∷ qs) p h c logs r = inl (
  refl,
  record {
    brought = record { now = r.brought.now; last = r.brought.last; asks = r.brought.asks; rest = rest_of p h.plan qs r.brought.rest };
    merged_is = r.merged_is;
    rise = r.rise;
    places = r.places;
    brings = r.brings;
    number = r.number;
  },
)

leads : (pages : List PageRecords) (p : Plan) (h : Restart) (c : Contents) (logs : List Log) → h.plan.pages ≡ pages → Redoes pages p h c logs → RedoLeads (next_redo h) p c logs
leads pages p h c logs e r = subst (λ (n : Next). RedoLeads n p c logs) (sym (next_is h pages e)) (leads_of pages p h c logs r)

-- ---- the first page

plan_number : (logs : List Log) → (plan_of logs).greatest.lrsn ≡ greatest (all_records logs)
unfolding plan_of
plan_number logs = greatest_is logs

pub plan_of_all_suits : DiskLaws → PlanOfAllSuits
unfolding plan_of
plan_of_all_suits k c logs now = record { pages_are = refl; brings = λ id. brings_forward k c logs id now; number = plan_number logs }

pub none_old_elsewhere : DiskLaws → NoneOldElsewhere
unfolding plan_of
none_old_elsewhere k c logs id now e = (never_written k c logs id now e).1

-- what isn't listed is as all records leave it
not_brought : DiskLaws → (p : Plan) (c : Contents) (logs : List Log) (id : PageId) → PlanSuits p c logs → list_any (touches id) p.merged ≡ false → IsLast c logs id
not_brought k p c logs id suits none = left_last k.own id (page_at c.pages id) (last_images logs id) p.merged none (suits.brings id)

pub redo_begins : DiskLaws → RedoBegins
redo_begins k p h c logs b =
    leads (by_page p.merged) p h c logs (b.pages_are ∙ b.suits.pages_are) (record {
      brought = record {
        now = b.now;
        last = λ id e. not_brought k p c logs id b.suits (not_listed id p.merged e);
        asks = b.asks;
        rest = b.rest;
      };
      merged_is = b.merged_is;
      rise = rise p.merged;
      places = all_places p.merged;
      brings = λ id _. b.suits.brings id;
      number = b.suits.number;
    })

-- ---- the page at hand is brought forward

-- no page has a greater number than the logs
same_greatest : (g : Greatest) (id : PageId) (page : List ℕ) → lrsn_of page ≤ g.lrsn → with_page_number g id page ≡ g
unfolding with_page_number
same_greatest g id page le = cond-false (nat_lt g.lrsn (lrsn_of page)) (record { lrsn = lrsn_of page; volume = volume.Page id; at = lrsn_at }) g (le-ltb g.lrsn (lrsn_of page) le)

or_both : (a b : Bool) → a ≡ false → b ≡ false → (a || b) ≡ false
or_both true b h k = absurd cc
or_both false b h k = k

either_page : (id q : PageId) (pages : List PageId) (P : Type 0) → has_page pages q ≡ false → (id ≡ q → P) → (has_page (id ∷ pages) q ≡ false → P) → P
either_page id q pages P e f g =
    elim (cases_Bool (same_page id q)) as (λ _. P) [
      | inl s ↦ f (same_name id q s)
      | inr n ↦ g (or_both (same_page id q) (has_page pages q) n e)
    ]

-- the page at hand, and what the redo has come to
record Hands (id : PageId) (b : Bool) (p : Plan) (h : Restart) (c : Contents) (logs : List Log) : Type 0 where
  redoes : Redoes (with_hand_page id h) p h c logs
  hand_is : h.page ≡ cond b (last_images logs id) (page_at c.pages id)
  is_last : current h.page ≡ last_images logs id

raised_leads : (b : Bool) (id : PageId) (p : Plan) (h : Restart) (c : Contents) (logs : List Log) → Hands id b p h c logs → RedoLeads (raised h id b) p c logs
raised_leads true id p h c logs r = inl (
  refl,
  (
    record {
      brought = record { now = r.redoes.brought.now; last = r.redoes.brought.last; asks = r.redoes.brought.asks; rest = r.redoes.brought.rest };
      merged_is = r.redoes.merged_is;
      rise = r.redoes.rise;
      places = r.redoes.places;
      brings = r.redoes.brings;
      number = r.redoes.number;
    },
    r.hand_is,
  ),
)
raised_leads false id p h c logs r =
    leads h.plan.pages p h c logs refl (record {
      brought = record {
        now = r.redoes.brought.now;
        last = λ q e.
            either_page id q (names_of h.plan.pages) (IsLast c logs q) e
            (λ s. subst (IsLast c logs) s (ap current (sym r.hand_is) ∙ r.is_last)) (r.redoes.brought.last q);
        asks = r.redoes.brought.asks;
        rest = r.redoes.brought.rest;
      };
      merged_is = r.redoes.merged_is;
      rise = r.redoes.rise.1;
      places = r.redoes.places.1;
      brings = λ q e. r.redoes.brings q (or_right (same_page id q) (has_page (names_of h.plan.pages) q) e);
      number = r.redoes.number;
    })

numbered_leads : (b : Bool) (id : PageId) (p : Plan) (h : Restart) (c : Contents) (logs : List Log) → Hands id b p h c logs → lrsn_of h.page ≤ greatest (all_records logs) → RedoLeads (take_raised h id b) p c logs
unfolding take_raised
numbered_leads b id p h c logs r le =
    let n : h.plan.greatest.lrsn ≡ greatest (all_records logs) = ap (λ (g : Greatest). g.lrsn) r.redoes.brought.rest.greatest ∙ r.redoes.number in
    let same : with_page_number h.plan.greatest id h.page ≡ h.plan.greatest = same_greatest h.plan.greatest id h.page (omega (arith, le, n)) in
    let back : h ≡ numbered_by h id = ap (λ (g : Greatest). with_plan h (with_greatest h.plan g)) (sym same) in
    subst (λ (k : Restart). RedoLeads (raised k id b) p c logs) back (raised_leads b id p h c logs r)

-- ---- the page is read

hand_within : DiskLaws → (b : Bool) (c : Contents) (logs : List Log) (id : PageId) (page : List ℕ) → IsSoundNow c logs → page ≡ cond b (last_images logs id) (page_at c.pages id) → lrsn_of page ≤ greatest (all_records logs)
hand_within k true c logs id page h e = let le = last_within k c logs id h.sound in let n = ap lrsn_of e in omega (arith, le, n)
hand_within k false c logs id page h e = let le = page_within k c logs id h in let n = ap lrsn_of e in omega (arith, le, n)

-- what was made of the page that was read
outcome_leads : DiskLaws → (p : Plan) (h : Restart) (id : PageId) (c : Contents) (logs : List Log) (f : Forward) → Redoes (with_hand_page id h) p h c logs → IsBrought (page_at c.pages id) (last_images logs id) f
    → RedoLeads (forwarded (with_hand h f.page) id f.outcome) p c logs
outcome_leads k p h id c logs f r is =
    subst (λ (o : Result Bool FieldFault). RedoLeads (forwarded (with_hand h f.page) id o) p c logs) (sym is.outcome_is)
    (numbered_leads is.is_raised id p (with_hand h f.page) c logs
    (record {
      redoes = record {
        brought = record { now = r.brought.now; last = r.brought.last; asks = r.brought.asks; rest = r.brought.rest };
        merged_is = r.merged_is;
        rise = r.rise;
        places = r.places;
        brings = r.brings;
        number = r.number;
      };
      hand_is = is.page_is;
      is_last = is.is_last;
    })
    (hand_within k is.is_raised c logs id f.page r.brought.now is.page_is))

abbrev forward_of : Restart → PageId → List ℕ → Forward
forward_of h id page = brought_at id page h.plan.merged h.places

brought_is : DiskLaws → (p : Plan) (h : Restart) (id : PageId) (c : Contents) (logs : List Log) → Redoes (with_hand_page id h) p h c logs → forward_of h id (page_at c.pages id) ≡ brought_forward id (page_at c.pages id) p.merged
brought_is k p h id c logs r =
    ap (λ (rs : List LogRecord). brought_at id (page_at c.pages id) rs h.places) r.merged_is
    ∙ ap (λ (ns : List ℕ). brought_at id (page_at c.pages id) p.merged ns) r.places.0
    ∙ brought_all k.own id (page_at c.pages id) p.merged

pub redo_reads : DiskLaws → RedoReads
unfolding take_page
redo_reads k p h id c logs r =
    let is : IsBrought (page_at c.pages id) (last_images logs id) (forward_of h id (page_at c.pages id)) =
    subst (IsBrought (page_at c.pages id) (last_images logs id)) (sym (brought_is k p h id c logs r)) (r.brings id (or_left (same_page id id) (has_page (names_of h.plan.pages) id) (same_self id))) in
    outcome_leads k p h id c logs (forward_of h id (page_at c.pages id)) r is

-- ---- the page is written

-- the others that are left are as they were
put_other : (c : Contents) (id q : PageId) (page : List ℕ) → same_page id q ≡ false → page_at (with_page c id page).pages q ≡ page_at c.pages q
put_other c id q page e = put_at c id q page ∙ ap (λ (b : Bool). cond b page (page_at c.pages q)) e

not_it : (b : Bool) (id q : PageId) (pages : List PageId) → same_page id q ≡ b → has_page pages id ≡ false → has_page pages q ≡ true → b ≡ false
not_it false id q pages e none h = refl
not_it true id q pages e none h = absurd (both_ways (has_page pages id) none (ap (has_page pages) (same_name id q e) ∙ h))

brings_still : (p : Plan) (c : Contents) (logs : List Log) (id q : PageId) (page : List ℕ) → same_page id q ≡ false
    → IsBrought (page_at c.pages q) (last_images logs q) (brought_forward q (page_at c.pages q) p.merged) → IsBrought (page_at (with_page c id page).pages q) (last_images logs q) (brought_forward q (page_at (with_page c id page).pages q) p.merged)
brings_still p c logs id q page e h = subst (λ (x : List ℕ). IsBrought x (last_images logs q) (brought_forward q x p.merged)) (sym (put_other c id q page e)) h

pub redo_writes : DiskLaws → RedoWrites
redo_writes k p h id c logs r =
    let both = last_keeps k c logs id r.0.brought.now in
    let new : is_old (last_images logs id) ≡ false = last_new k c logs id r.0.brought.now.sound in
    subst (λ (page : List ℕ). IsSoundNow (with_page c id page) logs × RedoLeads (take_done h (stage.RedoWrite id)) p (with_page c id page) logs) (sym r.1) (
      both.0,
      leads h.plan.pages p h (with_page c id (last_images logs id)) logs refl (record {
        brought = record {
          now = both.0;
          last = λ q e.
              put_has (λ (n : PageId) (x : List ℕ). has_page (names_of h.plan.pages) n ≡ false → current x ≡ last_images logs n) c id q (last_images logs id)
              (λ _. current_new (last_images logs id) new)
              (λ n e'. r.0.brought.last q (or_both (same_page id q) (has_page (names_of h.plan.pages) q) n e')) e;
          asks = r.0.brought.asks;
          rest = r.0.brought.rest;
        };
        merged_is = r.0.merged_is;
        places = r.0.places.1;
        rise = r.0.rise.1;
        brings = λ q e.
            brings_still p c logs id q (last_images logs id) (not_it (same_page id q) id q (names_of h.plan.pages) refl (not_above id h.plan.pages r.0.rise.0) e)
            (r.0.brings q (or_right (same_page id q) (has_page (names_of h.plan.pages) q) e));
        number = r.0.number;
      }),
    )
