-- A changed page is written.
use Rattle.std.proofs.Common.{◌≡◌, ℕ, zero, suc, ◌+◌, ◌<◌, ◌≤◌, refl, sym, ap, subst, ◌∙◌, Bool, true, false, inl, inr, List, [], ◌∷◌, slice_get, arith}
use Rattle.std.specs.Prelude.{◌⊎◌, ◌++◌, nat_le}
use Rattle.std.proofs.lemmas.Grind.{common_steps}
use Rattle.std.proofs.lemmas.Bool.{cases_eq, cases_lt}
use Rattle.std.proofs.lemmas.Option.{same_Some}
use Rattle.cache_structure.specs.declared.face.WriteReply.{WriteReply}
use Rattle.cache_structure.specs.declared.face.WriteReply.TheVariants as write
use Rattle.cache_structure.specs.Replies.{write_reply}
use Rattle.facility.specs.declared.command.Reply.{Reply}
use Rattle.facility.specs.declared.command.Reply.TheVariants as reply
use Rattle.facility.specs.States.{Held}
use Rattle.facility.specs.CacheCommands.{WritesPage, reply_to_write}
use Rattle.page_format.specs.Fields.{lrsn_of}
use Rattle.member_pool.specs.declared.frame.Frame.{Frame}
use Rattle.member_intents.specs.declared.outcome.Sent.{Sent}
use Rattle.member_marks.specs.State.{MarksState}
use Rattle.member_marks.specs.Frames.{frame_in, is_placed, with_registered}
use Rattle.member_pool.specs.Heads.{written}
use Rattle.member_needs.specs.Frames.{stable_in}
use Rattle.member_effects.specs.Kept.{Kept}
use Rattle.member_effects.specs.Changes.{bytes_at, with_marks}
use Rattle.member_effects.specs.Frames.{written_after}
use Rattle.needs_law.specs.Lawful.{WritesFrame}
use Rattle.page_protocol.specs.Page.{Page, Group, AllStable}
use Rattle.page_protocol.specs.Moves.{World, At, Write}
use Rattle.page_protocol.specs.Coherent.{Coherent}
use Rattle.page_protocol.specs.Always.{Stands}
use Rattle.page_world.specs.Numbers.{page_number, AreNumbered as Numbers}
use Rattle.page_world.specs.Holdings.{Copy, Holdings}
use Rattle.page_world.specs.Cache.{entry_moves, written_copy, WritesMoves}
use Rattle.page_world.specs.Refusals.{WriteRefused}
use Rattle.page_intents.specs.Stands.{copy_at, behind, Goes}
use Rattle.page_intents.specs.Frames.{Begins, written_kept, WriteGoes}
use Rattle.page_intents.proofs.Heads.{rest_itself, sets_written, sets_none, head_rest}
use Rattle.page_intents.proofs.Chains.{at_entry}
use Rattle.page_intents.proofs.Standing.{is_live_up, goes_by, quiet_by, same_members, has_copy, has_frame, leaves_set}

-- ---- its changes are stable
at_most : (a b : ℕ) → nat_le a b ≡ true → a ≤ b
at_most a b e = grind (arith, common_steps)

told : (n : ℕ) (pages : List (List ℕ)) (at : ℕ) → stable_in n (slice_get pages at) ≡ true → lrsn_of (bytes_at pages at) ≤ n
told n [] at e = absurd (cc e)
told n (x ∷ xs) zero e = at_most (lrsn_of x) n e
told n (x ∷ xs) (suc at) e = told n xs at e

-- the last change of a chain, behind any of it
newest : (i last : ℕ) → i < last → (j : ℕ) × (last ≡ j + 1) × (i ≤ j)
newest i zero l = absurd (omega (arith, l))
newest i (suc j) l = (j, omega arith, omega (arith, l))

no_greater : (lrsn : ℕ → ℕ) (last i j : ℕ) → ((i j : ℕ) → i < j → j < last → lrsn i < lrsn j) → i ≤ j → j < last → lrsn i ≤ lrsn j
no_greater lrsn last i j rise le l = elim (cases_eq i j) [
  | inl e ↦ (let same : lrsn i ≡ lrsn j = ap lrsn e in omega (arith, same))
  | inr ne ↦ (let less = rise i j (omega (arith, le, ne)) l in omega (arith, less))
]

pub coherent : (w : World) (g : Group) (p : Page) (b : Bool) → b ≡ false → Stands b g p → Coherent g p
coherent w g p true e s = absurd (cc e)
coherent w g p false e s = s

pub all_stable : Numbers → (w : World) (g : Holdings) (content : ℕ → ℕ → List ℕ) (forced : ℕ → ℕ) (k : Kept) (at : ℕ) (out : Sent) → Begins w g content forced k
    → (lawful : WritesFrame k.marks k.pages at out) → AllStable w.group (w.pages (page_number lawful.page)) (w.pages (page_number lawful.page)).last
all_stable numbers w g content forced k at out b lawful i l = elim (cases_lt i p.shared) [
  | inl less ↦ co.stable i less
  | inr le ↦ b.numbered.stable n i l (subst (λ z. p.lrsn i ≤ forced z) (sym (author le)) (below le))
]
  where
    n : ℕ
    n = page_number lawful.page

    m : ℕ
    m = k.marks.member

    p : Page
    p = w.pages n

    co : Coherent w.group p
    co = coherent w w.group p w.down b.tied.running (b.good.stands n)

    copy : g.copies m n ≡ copy_at k.marks.heads k.pages at
    copy = has_copy numbers g forced k at lawful.page b.up lawful.placed

    marked : (p.frame m).marked ≡ true
    marked = sym ((b.tied.pages n).marked m) ∙ ap (λ (z : Copy). z.marked) copy ∙ lawful.changed

    author : p.shared ≤ i → p.author i ≡ m
    author le = same_Some (p.author i) m (sym (co.own i le l) ∙ co.marked_own m marked)

    bytes : bytes_at k.pages at ≡ content n p.last
    bytes = sym (ap (λ (z : Copy). z.bytes) copy) ∙ (b.tied.pages n).same m (co.marked_filled m marked) ∙ ap (content n) (co.marked_last m marked)

    below : p.shared ≤ i → p.lrsn i ≤ forced m
    below le =
        let j = newest i p.last l in
        let short : j.0 < p.last = omega (arith, j.1) in
        let shows : lrsn_of (bytes_at k.pages at) ≡ p.lrsn j.0 = ap lrsn_of (bytes ∙ ap (content n) j.1) ∙ b.numbered.shown n j.0 short in
        let limit = told k.marks.log.stable k.pages at lawful.stable in
        let least = no_greater p.lrsn p.last i j.0 (b.good.numbered n).rise j.2 short in
        omega (arith, shows, limit, least, b.up.log)

-- ---- the reply
abbrev Left : World → Holdings → (ℕ → ℕ → List ℕ) → (ℕ → ℕ) → Kept → ℕ → Held → Reply → Type 0
Left w g content forced k at v a = Goes w content forced (behind g v k.marks.member (written_kept k at a)) k.marks (written_kept k at a)

pub write_goes : Numbers → WritesMoves → WriteRefused → WriteGoes
write_goes numbers writes refused w g content forced k at out answer v b lawful r = by (write_reply g.facility.directory lawful.page) refl
  where
    so : (a : Reply) → answer ≡ a → Left w g content forced k at v a → Left w g content forced k at v answer
    so a e h = subst (λ z. Left w g content forced k at v z) (sym e) h

    refuse : (a : Reply) → answer ≡ a → (a ≡ reply.CacheFull) ⊎ (a ≡ reply.Lost) → written_after k.marks at a ≡ k.marks → Left w g content forced k at v a
    refuse a e which same =
        let no = refused g.facility v k.marks.member at lawful.page (bytes_at k.pages at) answer (subst (λ z. (z ≡ reply.CacheFull) ⊎ (z ≡ reply.Lost)) (sym e) which) r in
        let n = page_number lawful.page in
        let c = has_copy numbers g forced k at lawful.page b.up lawful.placed in
        subst (λ (z : MarksState). Goes w content forced (behind g v k.marks.member (with_marks k z)) k.marks (with_marks k z)) (sym same)
        (quiet_by w g content forced v k k n b.tied b.numbered b.up
        (leaves_set numbers g forced k k at (frame_in k.marks.heads at) lawful.page (g.copies k.marks.member n) b.up lawful.placed (rest_itself k.marks) (sets_none k.marks.heads at) refl refl (λ q _. refl) (sym c)) no)

    by : (x : WriteReply) → write_reply g.facility.directory lawful.page ≡ x → Left w g content forced k at v answer
    by write.Written e =
        let n = page_number lawful.page in
        let m = k.marks.member in
        let is : answer ≡ reply.Written = r.0 ∙ ap reply_to_write e in
        let c = has_copy numbers g forced k at lawful.page b.up lawful.placed in
        let f : Frame = record (frame_in k.marks.heads at) { changed = false; registered = true } in
        so reply.Written is
        (goes_by w g content forced v k (written_kept k at reply.Written) n (written_copy (g.copies m n)) (entry_moves g.facility.directory lawful.page ++ At n (Write m) ∷ []) b.numbered b.up
        (leaves_set numbers g forced k (written_kept k at reply.Written) at f lawful.page (written_copy (g.copies m n)) b.up lawful.placed (head_rest (is_placed k.marks.heads at) k.marks (with_registered (written k.marks.heads at) at true))
        (sets_written k.marks at lawful.page lawful.placed) refl refl (λ q _. refl) (ap written_copy (sym c)))
        (same_members g.facility v _ r.1 (record { members = refl; statuses = refl; counter = refl })) (at_entry g.facility.directory lawful.page n (Write m))
        (writes w g content m at lawful.page (bytes_at k.pages at) v b.good b.tied b.sound (is_live_up g forced k b.up) (has_frame numbers g forced k at lawful.page b.up lawful.placed)
        (ap (λ (z : Copy). z.marked) c ∙ lawful.changed) (ap (λ (z : Copy). z.bytes) c) (all_stable numbers w g content forced k at out b lawful) (subst (λ z. WritesPage g.facility m lawful.page at (bytes_at k.pages at) z v) is r)))
    by write.CacheFull e = let is : answer ≡ reply.CacheFull = r.0 ∙ ap reply_to_write e in so reply.CacheFull is (refuse reply.CacheFull is (inl refl) refl)
    by write.Lost e = let is : answer ≡ reply.Lost = r.0 ∙ ap reply_to_write e in so reply.Lost is (refuse reply.Lost is (inr refl) refl)
