-- A page is read into its frame, by the facility or from disk.
use Rattle.std.proofs.Common.{◌≡◌, ◌≢◌, ℕ, ◌<◌, refl, sym, ap, subst, ◌∙◌, Bool, true, false, inl, inr, List, [], ◌∷◌, length, Option, Some, None, slice_set}
use Rattle.std.specs.Prelude.{◌⊎◌, ◌++◌, ◌||◌, if◌then◌else◌, is_some, unwrap_or}
use Rattle.std.proofs.lemmas.List.{length-set, get_or-set_same, get_or-set_other}
use Rattle.ds_base.specs.declared.names.PageId.{PageId}
use Rattle.cache_structure.specs.declared.face.ReadReply.{ReadReply}
use Rattle.cache_structure.specs.declared.face.ReadReply.TheVariants as read
use Rattle.cache_structure.specs.Directory.{bytes_of, is_full_for}
use Rattle.cache_structure.specs.Replies.{read_reply}
use Rattle.facility.specs.declared.command.Reply.{Reply}
use Rattle.facility.specs.declared.command.Reply.TheVariants as reply
use Rattle.facility.specs.States.{Held}
use Rattle.facility.specs.CacheCommands.{ReadsPage, reply_to_read}
use Rattle.member_pool.specs.declared.frame.Frame.{Frame}
use Rattle.member_marks.specs.State.{MarksState}
use Rattle.member_marks.specs.Frames.{frame_in, is_placed, with_registered, with_filled, after_registered, after_filled}
use Rattle.member_effects.specs.Kept.{Kept}
use Rattle.member_effects.specs.Changes.{bytes_at}
use Rattle.member_effects.specs.Frames.{read_after}
use Rattle.page_protocol.specs.Moves.{World, At, Read, ReadDisk}
use Rattle.page_world.specs.Numbers.{page_number, AreNumbered}
use Rattle.page_world.specs.Holdings.{Copy, Holdings}
use Rattle.page_world.specs.Cache.{entry_moves, found_copy, empty_copy, FindsMoves, RegistersMoves}
use Rattle.page_world.specs.Frames.{filled_copy, FillsMoves}
use Rattle.page_world.specs.Refusals.{ReadRefused}
use Rattle.page_intents.specs.Stands.{copy_at, IsUp, behind, Goes}
use Rattle.page_intents.specs.Frames.{read_pages, read_kept, filled_kept, ReadGoes, FillGoes}
use Rattle.page_intents.proofs.Heads.{Sets, SameRest, rest_itself, rest_on, sets_registered, sets_both, sets_filled, sets_none, within, copy_with, head_rest}
use Rattle.page_intents.proofs.Chains.{at_one, at_entry}
use Rattle.page_intents.proofs.Standing.{Leaves, is_live_up, goes_by, quiet_by, same_members, has_copy, has_frame, leaves_set}

-- ---- the bytes
chosen_length : (b : Bool) (xs ys : List (List ℕ)) → length ys ≡ length xs → length (if b then xs else ys) ≡ length xs
chosen_length true xs ys e = refl
chosen_length false xs ys e = e

chosen_at : (b : Bool) (xs ys : List (List ℕ)) (at : ℕ) (bytes : List ℕ) → bytes_at ys at ≡ bytes → bytes_at (if b then xs else ys) at ≡ (if b then bytes_at xs at else bytes)
chosen_at true xs ys at bytes e = refl
chosen_at false xs ys at bytes e = e

chosen_same : (b : Bool) (xs ys : List (List ℕ)) (q : ℕ) → bytes_at ys q ≡ bytes_at xs q → bytes_at (if b then xs else ys) q ≡ bytes_at xs q
chosen_same true xs ys q e = refl
chosen_same false xs ys q e = e

pub set_at : (pages : List (List ℕ)) (at : ℕ) (bytes : List ℕ) → at < length pages → bytes_at (slice_set pages at bytes) at ≡ bytes
set_at pages at bytes l = get_or-set_same pages at bytes [] l

pub set_other : (pages : List (List ℕ)) (at q : ℕ) (bytes : List ℕ) → q ≢ at → bytes_at (slice_set pages at bytes) q ≡ bytes_at pages q
set_other pages at q bytes ne = get_or-set_other pages at q bytes [] ne

-- what was lent comes back as it was
lent_same : (b : Bool) (old page bytes : List ℕ) → bytes ≡ page → (b ≡ false → page ≡ old) → (if b then old else bytes) ≡ old
lent_same true old page bytes e h = refl
lent_same false old page bytes e h = e ∙ h refl

-- ---- what a read leaves
leaves_read : AreNumbered → (g : Holdings) (forced : ℕ → ℕ) (k : Kept) (t : MarksState) (at : ℕ) (f : Frame) (id : PageId) (c : Copy) (bytes : List ℕ) → IsUp g forced k → (frame_in k.marks.heads at).page ≡ Some id → SameRest k.marks t → Sets k.marks.heads t.heads at f
    → f.page ≡ (frame_in k.marks.heads at).page → copy_with at f (if (frame_in k.marks.heads at).changed then bytes_at k.pages at else bytes) ≡ c
    → Leaves k (record { marks = t; pages = read_pages k at bytes }) (page_number id) c
leaves_read numbers g forced k t at f id c bytes up placed rest s page copy =
    let h = k.marks.heads in
    let b = (frame_in h at).changed in
    let l = subst (λ z. at < z) (sym up.each) (within h at id placed) in
    leaves_set numbers g forced k (record { marks = t; pages = read_pages k at bytes }) at f id c up placed rest s page
    (chosen_length b k.pages (slice_set k.pages at bytes) (length-set k.pages at bytes))
    (λ q ne. chosen_same b k.pages (slice_set k.pages at bytes) q (set_other k.pages at q bytes ne))
    (ap (copy_with at f) (chosen_at b k.pages (slice_set k.pages at bytes) at bytes (set_at k.pages at bytes l)) ∙ copy)

both_rest : (s : MarksState) (at : ℕ) (b : Bool) → SameRest s (after_filled (after_registered s at true) at b)
both_rest s at b =
    let t = after_registered s at true in
    rest_on s t (after_filled t at b) (head_rest (is_placed s.heads at) s (with_registered s.heads at true)) (head_rest (is_placed t.heads at) t (with_filled t.heads at b))

-- a page without bytes in the cache leaves the bytes that were lent
no_bytes : (page : List ℕ) (l full : Bool) (o : Option (List ℕ)) → (if l then read.Lost else if full then read.CacheFull else if is_some o then read.Found else read.NoData) ≡ read.NoData → (if l then page else unwrap_or o page) ≡ page
no_bytes page true full o e = absurd (cc e)
no_bytes page false true o e = absurd (cc e)
no_bytes page false false None e = refl
no_bytes page false false (Some x) e = absurd (cc e)

abbrev Left : World → Holdings → (ℕ → ℕ → List ℕ) → (ℕ → ℕ) → Kept → ℕ → List ℕ → Held → Reply → Type 0
Left w g content forced k at bytes v a = Goes w content forced (behind g v k.marks.member (read_kept k at a bytes)) k.marks (read_kept k at a bytes)

pub read_goes : AreNumbered → FindsMoves → RegistersMoves → ReadRefused → ReadGoes
read_goes numbers finds registers refused w g content forced k at out page bytes answer v b lawful lent r = by (read_reply g.facility.directory lawful.page) refl
  where
    so : (a : Reply) → answer ≡ a → Left w g content forced k at bytes v a → Left w g content forced k at bytes v answer
    so a e h = subst (λ z. Left w g content forced k at bytes v z) (sym e) h

    refuse : (a : Reply) → answer ≡ a → (a ≡ reply.CacheFull) ⊎ (a ≡ reply.Lost) → read_after k.marks at a ≡ k.marks → Left w g content forced k at bytes v a
    refuse a e which same =
        let no = refused g.facility v k.marks.member at lawful.page page bytes answer (subst (λ z. (z ≡ reply.CacheFull) ⊎ (z ≡ reply.Lost)) (sym e) which) r in
        let n = page_number lawful.page in
        let c = has_copy numbers g forced k at lawful.page b.up lawful.placed in
        let f = frame_in k.marks.heads at in
        let old = lent_same f.changed (bytes_at k.pages at) page bytes no.1 lent in
        subst (λ (z : MarksState). Goes w content forced (behind g v k.marks.member (record { marks = z; pages = read_pages k at bytes })) k.marks (record { marks = z; pages = read_pages k at bytes })) (sym same)
        (quiet_by w g content forced v k (record { marks = k.marks; pages = read_pages k at bytes }) n b.tied b.numbered b.up
        (leaves_read numbers g forced k k.marks at f lawful.page (g.copies k.marks.member n) bytes b.up lawful.placed (rest_itself k.marks) (sets_none k.marks.heads at) refl (ap (copy_with at f) old ∙ sym c)) no.0)

    by : (x : ReadReply) → read_reply g.facility.directory lawful.page ≡ x → Left w g content forced k at bytes v answer
    by read.Found e =
        let n = page_number lawful.page in
        let m = k.marks.member in
        let is : answer ≡ reply.Found = r.0 ∙ ap reply_to_read e in
        let c = has_copy numbers g forced k at lawful.page b.up lawful.placed in
        let f : Frame = record (frame_in k.marks.heads at) { registered = true; filled = true } in
        so reply.Found is
        (goes_by w g content forced v k (read_kept k at reply.Found bytes) n (found_copy (g.copies m n) bytes) (entry_moves g.facility.directory lawful.page ++ At n (Read m false) ∷ []) b.numbered b.up
        (leaves_read numbers g forced k (read_after k.marks at reply.Found) at f lawful.page (found_copy (g.copies m n) bytes) bytes b.up lawful.placed (both_rest k.marks at true) (sets_both k.marks at true lawful.page lawful.placed) refl
        (ap (λ (z : Copy). found_copy z bytes) (sym c)))
        (same_members g.facility v _ r.1 (record { members = refl; statuses = refl; counter = refl })) (at_entry g.facility.directory lawful.page n (Read m false))
        (finds w g content m at lawful.page page bytes v b.good b.tied b.sound (is_live_up g forced k b.up) (has_frame numbers g forced k at lawful.page b.up lawful.placed) (subst (λ z. ReadsPage g.facility m lawful.page at page z v bytes) is r)))
    by read.NoData e =
        let n = page_number lawful.page in
        let m = k.marks.member in
        let d = g.facility.directory in
        let is : answer ≡ reply.NoData = r.0 ∙ ap reply_to_read e in
        let c = has_copy numbers g forced k at lawful.page b.up lawful.placed in
        let u = after_registered k.marks at true in
        let filled = (frame_in u.heads at).changed in
        let changed = (frame_in k.marks.heads at).changed in
        let same : filled ≡ changed = ap (λ (z : Frame). z.changed) (sets_registered k.marks at true lawful.page lawful.placed).is in
        let f : Frame = record (frame_in k.marks.heads at) { registered = true; filled = filled } in
        let old : (if changed then bytes_at k.pages at else bytes) ≡ bytes_at k.pages at = lent_same changed (bytes_at k.pages at) page bytes (r.2 ∙ no_bytes page d.lost (is_full_for d lawful.page) (bytes_of d lawful.page) e) lent in
        let copy : copy_with at f (if changed then bytes_at k.pages at else bytes) ≡ empty_copy (copy_at k.marks.heads k.pages at) =
        (λ i. record { placed = true; index = at; filled = same i; marked = changed; noted = true; bytes = old i }) in
        so reply.NoData is
        (goes_by w g content forced v k (read_kept k at reply.NoData bytes) n (empty_copy (g.copies m n)) (entry_moves d lawful.page ++ At n (Read m false) ∷ []) b.numbered b.up
        (leaves_read numbers g forced k (read_after k.marks at reply.NoData) at f lawful.page (empty_copy (g.copies m n)) bytes b.up lawful.placed (both_rest k.marks at filled) (sets_both k.marks at filled lawful.page lawful.placed) refl
        (copy ∙ ap empty_copy (sym c)))
        (same_members g.facility v _ r.1 (record { members = refl; statuses = refl; counter = refl })) (at_entry d lawful.page n (Read m false))
        (registers w g content m at lawful.page page bytes v b.good b.tied b.sound (is_live_up g forced k b.up) (has_frame numbers g forced k at lawful.page b.up lawful.placed) (subst (λ z. ReadsPage g.facility m lawful.page at page z v bytes) is r)))
    by read.CacheFull e = let is : answer ≡ reply.CacheFull = r.0 ∙ ap reply_to_read e in so reply.CacheFull is (refuse reply.CacheFull is (inl refl) refl)
    by read.Lost e = let is : answer ≡ reply.Lost = r.0 ∙ ap reply_to_read e in so reply.Lost is (refuse reply.Lost is (inr refl) refl)

-- ---- from disk
or_first : (a b : Bool) → a ≡ true → (a || b) ≡ true
or_first true b e = refl
or_first false b e = absurd (cc e)

pub fill_goes : AreNumbered → FillsMoves → FillGoes
fill_goes numbers fills w g content forced k at out b lawful =
    let n = page_number lawful.page in
    let m = k.marks.member in
    let bytes = g.disk n in
    let old = frame_in k.marks.heads at in
    let f : Frame = record old { filled = true } in
    let c = has_copy numbers g forced k at lawful.page b.up lawful.placed in
    let l = subst (λ z. at < z) (sym b.up.each) (within k.marks.heads at lawful.page lawful.placed) in
    let noted : (old.registered || true) ≡ (old.registered || old.filled) = or_first old.registered true lawful.registered ∙ sym (or_first old.registered old.filled lawful.registered) in
    let copy : copy_with at f (bytes_at (slice_set k.pages at bytes) at) ≡ filled_copy (copy_at k.marks.heads k.pages at) bytes =
    (λ i. record { placed = true; index = at; filled = true; marked = old.changed; noted = noted i; bytes = set_at k.pages at bytes l i }) in
    goes_by w g content forced g.facility k (filled_kept k at bytes) n (filled_copy (g.copies m n) bytes) (At n (ReadDisk m) ∷ []) b.numbered b.up
    (leaves_set numbers g forced k (filled_kept k at bytes) at f lawful.page (filled_copy (g.copies m n) bytes) b.up lawful.placed (head_rest (is_placed k.marks.heads at) k.marks (with_filled k.marks.heads at true))
    (sets_filled k.marks at true lawful.page lawful.placed) refl (length-set k.pages at bytes) (λ q ne. set_other k.pages at q bytes ne)
    (copy ∙ ap (λ (z : Copy). filled_copy z bytes) (sym c)))
    (record { members = refl; statuses = refl; counter = refl }) (at_one n (ReadDisk m))
    (fills w g content m n b.tied (is_live_up g forced k b.up) (ap (λ (z : Copy). z.filled) c ∙ lawful.unfilled))
