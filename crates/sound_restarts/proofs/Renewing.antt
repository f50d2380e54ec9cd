-- The renewal of a group restart over a sound disk, call by call.
use Rattle.std.proofs.Common.{◌≡◌, ℕ, ◌+◌, ◌<◌, ◌≤◌, Bool, true, false, cond, List, Option, Some, None, Result, Ok, inl, inr, refl, sym, ap, subst, ◌∙◌, arith}
use Rattle.std.specs.Prelude.{◌==◌, nat_lt}
use Rattle.std.proofs.lemmas.Bool.{both_ways, cases_Bool, cases_lt, cond_both, ltb-true, ltb-false, ne_eqb}
use Rattle.ds_base.specs.declared.names.PageId.{PageId}
use Rattle.ds_disk.specs.Contents.{Contents}
use Rattle.ds_disk.specs.Pages.{page_at}
use Rattle.log_record.specs.declared.log.Log.{Log}
use Rattle.page_format.specs.Fields.{is_old, renewed}
use Rattle.page_format.specs.Header.{header_of}
use Rattle.page_format.specs.declared.header.NotAPage.{NotAPage}
use Rattle.group_restart.specs.declared.stage.Stage.TheVariants as stage
use Rattle.group_restart.specs.Machine.{Restart}
use Rattle.group_restart.specs.Disk.{with_page as with_hand}
use Rattle.group_restart.specs.Renewal.{page_of, first_page, last_by, last_behind}
use Rattle.group_restart.specs.Course.{Next, go, next_ending, renewal_or, next_renewal, begin_renewal, renew_page, looked_at, take_old}
use Rattle.sound_disk.specs.Versions.{current, last_images}
use Rattle.sound_restarts.specs.Redo.{IsSoundNow, with_page}
use Rattle.sound_restarts.specs.Undo.{AreLast}
use Rattle.sound_restarts.specs.Renewal.{Counts, IsCounted, ComesBefore, IsWithin, Looks, RenewLeads, RenewalBegins, RenewalReads, RenewalWrites}
use Rattle.sound_restarts.proofs.Renewed.{renewed_new}
use Rattle.sound_restarts.proofs.Brought.{current_new, current_old}
use Rattle.sound_restarts.proofs.Page_writes.{put_here, put_has}
use Rattle.sound_restarts.proofs.Bringing.{DiskLaws, old_page, renewal_keeps}
use Rattle.sound_restarts.proofs.Counted.{NumberOfPart, SetIsCounted, set_is_counted, old_is_counted, disk_counts}

same_id : (a b : PageId) → a.set ≡ b.set → a.number ≡ b.number → a ≡ b
same_id a b p q = λ i. record { set = p i; number = q i }

same_count : (logs : List Log) (set m n : ℕ) → Counts logs set m → Counts logs set n → m ≡ n
same_count logs set m n h k = cc

-- a page that isn't counted isn't of version 1
uncounted : DiskLaws → (c : Contents) (logs : List Log) (id : PageId) → IsSoundNow c logs → AreLast c logs → (IsCounted logs id → ⊥) → is_old (page_at c.pages id) ≡ false
uncounted k c logs id h last none =
    elim (cases_Bool (is_old (page_at c.pages id))) as (λ _. is_old (page_at c.pages id) ≡ false) [
      | inl old ↦ absurd (none (old_is_counted k c logs id h (last id) old))
      | inr new ↦ new
    ]

-- ---- the next page

-- up to this page, and with it, no page is of version 1
record IsRenewedThrough (id : PageId) (h : Restart) (c : Contents) (logs : List Log) : Type 0 where
  now : IsSoundNow c logs
  last : AreLast c logs
  set_from : 1 ≤ id.set
  set_to : id.set ≤ 128
  counts : Counts logs id.set h.last
  within : id.number ≤ h.last
  new : (q : PageId) → ComesBefore q id → is_old (page_at c.pages q) ≡ false
  here : is_old (page_at c.pages id) ≡ false

module _ (k : DiskLaws) (id : PageId) (h : Restart) (c : Contents) (logs : List Log) (t : IsRenewedThrough id h c logs) where
  abbrev IsNew : PageId → Type 0
  IsNew q = is_old (page_at c.pages q) ≡ false

  up_to : (q : PageId) → q.set ≡ id.set → q.number < id.number + 1 → IsNew q
  up_to q e lt =
      elim (cases_lt q.number id.number) as (λ _. IsNew q) [
        | inl less ↦ t.new q (inr (e, less))
        | inr le ↦ subst IsNew (sym (same_id q id e (omega (arith, lt, le)))) t.here
      ]

  past_last : (q : PageId) → q.set ≡ id.set → h.last < q.number → IsNew q
  past_last q e lt =
      uncounted k c logs q t.now t.last
      (λ is.
      let same : is.last ≡ h.last = same_count logs id.set is.last h.last (subst (λ (n : ℕ). Counts logs n is.last) e is.counts) t.counts in
      let few = is.within in
      let never : ⊥ = omega (arith, same, few, lt) in
      never)

  -- behind the last page of its set
  in_set : h.last ≤ id.number → (q : PageId) → q.set ≡ id.set → IsNew q
  in_set most q e =
      elim (cases_lt q.number (id.number + 1)) as (λ _. IsNew q) [
        | inl lt ↦ up_to q e lt
        | inr past ↦ past_last q e (omega (arith, most, past))
      ]

  before_more : (q : PageId) → ComesBefore q (page_of id.set (id.number + 1)) → IsNew q
  before_more q (inl lt) = t.new q (inl lt)
  before_more q (inr same) = up_to q same.0 same.1

  before_set : h.last ≤ id.number → (q : PageId) → ComesBefore q (page_of (id.set + 1) 0) → IsNew q
  before_set most q (inl lt) =
      elim (cases_lt q.set id.set) as (λ _. IsNew q) [
        | inl less ↦ t.new q (inl less)
        | inr le ↦ in_set most q (omega (arith, lt, le))
      ]
  before_set most q (inr same) = absurd (let few = same.1 in let never : ⊥ = omega (arith, few) in never)

  all_new : h.last ≤ id.number → 128 ≤ id.set → (q : PageId) → IsNew q
  all_new most sets q =
      elim (cases_lt q.set (id.set + 1)) as (λ _. IsNew q) [
        | inl lt ↦ before_set most q (inl lt)
        | inr past ↦ uncounted k c logs q t.now t.last (λ is. let few = is.set_to in let never : ⊥ = omega (arith, few, past, sets) in never)
      ]

  leads_in_set : nat_lt id.number h.last ≡ true → RenewLeads (go h (stage.RenewRead (page_of id.set (id.number + 1)))) c logs
  leads_in_set e =
      let less = ltb-true id.number h.last e in
      inl (
        refl,
        record {
          to = record { now = t.now; last = t.last; set_from = t.set_from; set_to = t.set_to; new = before_more };
          known = inr (record { counts = t.counts; within = omega (arith, less) });
        },
      )

  leads_to_set : h.last ≤ id.number → nat_lt id.set 128 ≡ true → RenewLeads (go h (stage.RenewRead (page_of (id.set + 1) 0))) c logs
  leads_to_set most e =
      let less = ltb-true id.set 128 e in
      inl (
        refl,
        record {
          to = record { now = t.now; last = t.last; set_from = omega arith; set_to = omega (arith, less); new = before_set most };
          known = inl refl;
        },
      )

  ends : h.last ≤ id.number → nat_lt id.set 128 ≡ false → RenewLeads (next_ending h) c logs
  ends most e = inr (record { behind = h; goes = refl; now = t.now; last = t.last; new = all_new most (ltb-false id.set 128 e) })

  next_leads : RenewLeads (next_renewal h id) c logs
  unfolding next_renewal
  next_leads =
      cond_both (nat_lt id.number h.last) (Some (page_of id.set (id.number + 1))) (cond (nat_lt id.set 128) (Some (page_of (id.set + 1) 0)) None) (λ (o : Option PageId). RenewLeads (renewal_or h o) c logs)
      leads_in_set
      (λ e.
      let most = ltb-false id.number h.last e in
      cond_both (nat_lt id.set 128) (Some (page_of (id.set + 1) 0)) None (λ (o : Option PageId). RenewLeads (renewal_or h o) c logs) (leads_to_set most) (ends most))

-- ---- the first page

none_before : (q : PageId) → ComesBefore q first_page → 1 ≤ q.set → ⊥
none_before q (inl lt) from = omega (arith, lt, from)
none_before q (inr same) from = let few = same.1 in omega (arith, few)

pub renewal_begins : DiskLaws → RenewalBegins
unfolding begin_renewal
renewal_begins k h c logs now last asks =
    cond_both h.renews (go h (stage.RenewRead first_page)) (next_ending h) (λ (n : Next). RenewLeads n c logs)
    (λ _. inl (
      refl,
      record {
        to = record { now = now; last = last; set_from = omega arith; set_to = omega arith; new = λ q before. uncounted k c logs q now last (λ is. none_before q before is.set_from) };
        known = inl refl;
      },
    ))
    (λ e. inr (record {
      behind = h;
      goes = refl;
      now = now;
      last = last;
      new = λ id.
          elim (cases_Bool (is_old (page_at c.pages id))) as (λ _. is_old (page_at c.pages id) ≡ false) [
            | inl old ↦ absurd (both_ways h.renews e (asks id old))
            | inr new ↦ new
          ];
    }))

-- ---- the page is read

-- what the restart knows of the set then
record Knows (id : PageId) (h : Restart) (c : Contents) (logs : List Log) : Type 0 where
  last : ℕ
  told : last_behind h.last id (page_at c.pages id) ≡ Ok last
  counts : Counts logs id.set last
  within : id.number ≤ last

header_known : DiskLaws → NumberOfPart → (id : PageId) (h : Restart) (c : Contents) (logs : List Log) → Looks id h c logs → id.number ≡ 0 → Knows id h c logs
header_known k number id h c logs r zero =
    let s : SetIsCounted (last_images logs) id.set = set_is_counted c logs id r.to.now (record { from = r.to.set_from; to = r.to.set_to }) in
    let at : id ≡ page_of id.set 0 = same_id id (page_of id.set 0) refl zero in
    record {
      last = s.last;
      told = disk_counts k number c logs id h.last r.to.now (r.to.last id) ∙ ap (λ (q : PageId). last_behind h.last q (last_images logs q)) at ∙ s.counts;
      counts = s.counts;
      within = omega (arith, zero);
    }

inner_known : DiskLaws → NumberOfPart → (id : PageId) (h : Restart) (c : Contents) (logs : List Log) → Looks id h c logs → IsWithin id h logs → 1 ≤ id.number → Knows id h c logs
inner_known k number id h c logs r w one =
    let s : SetIsCounted (last_images logs) id.set = set_is_counted c logs id r.to.now (record { from = r.to.set_from; to = r.to.set_to }) in
    let same : s.last ≡ h.last = same_count logs id.set s.last h.last s.counts w.counts in
    let few = w.within in
    let some : (id.number == 0) ≡ false = ne_eqb id.number 0 (λ e. let never : ⊥ = omega (arith, e, one) in never) in
    record {
      last = h.last;
      told = disk_counts k number c logs id h.last r.to.now (r.to.last id)
          ∙ ap (λ (b : Bool). last_by (cond b 0 h.last) (header_of (last_images logs id) id) (last_images logs id)) some
          ∙ s.inner id.number h.last one (omega (arith, same, few));
      counts = w.counts;
      within = w.within;
    }

knows : DiskLaws → NumberOfPart → (id : PageId) (h : Restart) (c : Contents) (logs : List Log) → Looks id h c logs → Knows id h c logs
knows k number id h c logs r =
    elim r.known as (λ _. Knows id h c logs) [
      | inl zero ↦ header_known k number id h c logs r zero
      | inr w ↦ elim (cases_lt id.number 1) as (λ _. Knows id h c logs) [
        | inl lt ↦ header_known k number id h c logs r (omega (arith, lt))
        | inr one ↦ inner_known k number id h c logs r w one
      ]
    ]

-- a page of version 1 is written next
read_leads : DiskLaws → (id : PageId) (h : Restart) (c : Contents) (logs : List Log) → Looks id h c logs → (w : Knows id h c logs) → RenewLeads (renew_page (record (with_hand h (page_at c.pages id)) { last = w.last }) id) c logs
unfolding renew_page
read_leads k id h c logs r w =
    let j : Restart = record (with_hand h (page_at c.pages id)) { last = w.last } in
    cond_both (is_old (page_at c.pages id)) (go (record (record (with_hand h (page_at c.pages id)) { last = w.last }) { page = renewed (page_at c.pages id) }) (stage.RenewWrite id))
    (next_renewal (record (with_hand h (page_at c.pages id)) { last = w.last }) id) (λ (n : Next). RenewLeads n c logs)
    (λ old. inl (
      refl,
      record {
        to = record { now = r.to.now; last = r.to.last; set_from = r.to.set_from; set_to = r.to.set_to; new = r.to.new };
        known = record { counts = w.counts; within = w.within };
        old = old;
        hand_is = refl;
      },
    ))
    (λ new. next_leads k id j c logs (record {
      now = r.to.now;
      last = r.to.last;
      set_from = r.to.set_from;
      set_to = r.to.set_to;
      counts = w.counts;
      within = w.within;
      new = r.to.new;
      here = new;
    }))

pub renewal_reads : DiskLaws → NumberOfPart → RenewalReads
unfolding take_old
renewal_reads k number h id c logs r =
    let w : Knows id h c logs = knows k number id h c logs r in
    subst (λ (o : Result ℕ NotAPage). RenewLeads (looked_at (with_hand h (page_at c.pages id)) id o) c logs) (sym w.told) (read_leads k id h c logs r w)

-- ---- the page is written

pub renewal_writes : DiskLaws → RenewalWrites
renewal_writes k h id c logs r =
    let new : is_old (renewed (page_at c.pages id)) ≡ false = renewed_new (page_at c.pages id) (old_page k c logs id r.to.now r.old).whole in
    let now : IsSoundNow (with_page c id (renewed (page_at c.pages id))) logs = renewal_keeps k c logs id r.to.now r.old in
    subst (λ (page : List ℕ). IsSoundNow (with_page c id page) logs × RenewLeads (next_renewal h id) (with_page c id page) logs) (sym r.hand_is) (
      now,
      next_leads k id h (with_page c id (renewed (page_at c.pages id))) logs (record {
        now = now;
        last = λ q.
            put_has (λ (n : PageId) (x : List ℕ). current x ≡ last_images logs n) c id q (renewed (page_at c.pages id))
            (current_new (renewed (page_at c.pages id)) new ∙ sym (current_old (page_at c.pages id) r.old) ∙ r.to.last id) (λ _. r.to.last q);
        set_from = r.to.set_from;
        set_to = r.to.set_to;
        counts = r.known.counts;
        within = r.known.within;
        new = λ q before. put_has (λ (n : PageId) (x : List ℕ). is_old x ≡ false) c id q (renewed (page_at c.pages id)) new (λ _. r.to.new q before);
        here = ap is_old (put_here c id (renewed (page_at c.pages id))) ∙ new;
      }),
    )
