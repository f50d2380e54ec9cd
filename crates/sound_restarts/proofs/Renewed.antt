-- A page of version 1 is brought forward as it would be in version 2.
use Rattle.std.proofs.Common.{◌≡◌, ℕ, ◌+◌, ◌-◌, ◌^◌, ◌<◌, ◌≤◌, Bool, true, false, cond, List, [], ◌∷◌, ◌++◌, length, take, drop, Option, Some, None, Result, Ok, Err, inl, inr, refl, sym, ap, subst, ◌∙◌, arith}
use Rattle.std.specs.Prelude.{◌⊎◌, ◌||◌, ◌&&◌, nat_lt, filter, min}
use Rattle.std.specs.List.{AllByRecursion}
use Rattle.std.proofs.lemmas.Bool.{and_parts, leb-true}
use Rattle.std.proofs.lemmas.List.{length-append, length-drop, length-take}
use Rattle.byteorder.specs.Endian.{big_bytes}
use Rattle.byteorder.specs.Numbers.{length-bytes_high_first}
use Rattle.ds_base.specs.Pages.{same_page}
use Rattle.ds_base.specs.declared.names.PageId.{PageId}
use Rattle.ds_model.specs.RecordBytes.{IsAllowed, BodyIsAllowed}
use Rattle.ds_model.specs.declared.log.LogRecord.{LogRecord}
use Rattle.ds_model.specs.declared.log.RowChange.{RowChange}
use Rattle.ds_model.specs.declared.log.Body.{Body}
use Rattle.ds_model.specs.declared.log.Body.TheVariants as body
use Rattle.ds_model.specs.declared.log.Version.{Version}
use Rattle.heap_space.specs.Layout.{slot_at}
use Rattle.heap_space.specs.Slots.{slot_in, fault_in, content, fields}
use Rattle.heap_space.specs.Written.{after_patch, written}
use Rattle.page_format.specs.Fields.{lrsn_of, is_old, patched, set_version, set_lrsn, renewed}
use Rattle.page_format.specs.Header.{header_of, first_fault}
use Rattle.page_format.specs.declared.header.Header.{Header}
use Rattle.page_format.specs.declared.header.NotAPage.{NotAPage}
use Rattle.page_format.specs.declared.patch.Patch.{Patch}
use Rattle.page_images.specs.Parts.{part, IsOffStamp, AreWithin}
use Rattle.page_redo.specs.declared.fault.FieldFault.{FieldFault}
use Rattle.page_redo.specs.Rows.{or_fault, kind_fault, key_fault, headed_fault, change_fault}
use Rattle.page_redo.specs.Forward.{lies_in_page, patches_of, has_patch, body_fault, Forward, unless, after_one, go_on, forward_from, headed, brought_forward}
use Rattle.sound_disk.specs.Versions.{is_page}
use Rattle.sound_restarts.proofs.Stamped.{Agree, same_patched, renewed_agrees}
use Rattle.sound_restarts.proofs.Versions.{row_within, stamp_new}

-- what is proved of pages that are renewed
pub record RenewalLaws : Type 0 where
  pub header : (page : List ℕ) (id : PageId) → length page ≡ 4096 → is_old page ≡ true → lrsn_of page < 2 ^ 80 → header_of (renewed page) id ≡ header_of page id
  pub kept : (page : List ℕ) (at width : ℕ) → length page ≡ 4096 → IsOffStamp at width → part at width (renewed page) ≡ part at width page
  pub stamp : (page : List ℕ) (lrsn : ℕ) → length page ≡ 4096 → lrsn < 2 ^ 80 → lrsn_of (set_lrsn page lrsn) ≡ lrsn

-- a whole page of version 1, with a number of the format
pub record IsOldPage (page : List ℕ) : Type 0 where
  pub whole : length page ≡ 4096
  pub old : is_old page ≡ true
  pub number : lrsn_of page < 2 ^ 80

pub renewed_number : RenewalLaws → (page : List ℕ) → IsOldPage page → lrsn_of (renewed page) ≡ lrsn_of page
unfolding renewed
renewed_number k page h = k.stamp page (lrsn_of page) h.whole h.number

pub renewed_new : (page : List ℕ) → length page ≡ 4096 → is_old (renewed page) ≡ false
unfolding renewed
renewed_new page l = stamp_new page (lrsn_of page) (omega (arith, l))

-- ---- a page is as long as it is in version 2

old_length : (page : List ℕ) → is_old page ≡ true → 6 ≤ length page
old_length [] e = absurd cc
old_length (a ∷ []) e = absurd cc
old_length (a ∷ b ∷ []) e = absurd cc
old_length (a ∷ b ∷ c ∷ []) e = absurd cc
old_length (a ∷ b ∷ c ∷ d ∷ []) e = absurd cc
old_length (a ∷ b ∷ c ∷ d ∷ e' ∷ []) e = absurd cc
old_length (a ∷ b ∷ c ∷ d ∷ e' ∷ f ∷ page) e = omega arith

length_put : (page bytes : List ℕ) (at : ℕ) → length (patched page at bytes) ≡ min at (length page) + length bytes + (length page - (at + length bytes))
unfolding patched
length_put page bytes at =
    omega (arith, length-append (take at page ++ bytes) (drop (at + length bytes) page), length-append (take at page) bytes, length-take at page, length-drop (at + length bytes) page)

version_length : (page : List ℕ) → 6 ≤ length page → length (set_version page) ≡ length page
unfolding set_version
version_length page le = omega (arith, length_put page (2 ∷ []) 5, le)

renewed_length : (page : List ℕ) → 6 ≤ length page → length (renewed page) ≡ 4096 → length page ≡ 4096
unfolding renewed set_lrsn
renewed_length page le h =
    let w = length-bytes_high_first 10 (lrsn_of page) in
    let v = version_length page le in
    omega (arith, length_put (set_version page) (big_bytes 10 (lrsn_of page)) 16, w, v, h)

pub whole_before : (page : List ℕ) → is_old page ≡ true → length (renewed page) ≡ 4096 → length page ≡ 4096
whole_before page e h = renewed_length page (old_length page e) h

-- ---- slots and headers

slot_same : RenewalLaws → (page : List ℕ) (slot : ℕ) → IsOldPage page → slot_in (renewed page) slot ≡ slot_in page slot
slot_same k page slot h = k.kept page (slot_at slot) 128 h.whole (inr (omega arith), inr (omega arith))

fault_same : RenewalLaws → (page : List ℕ) (slot : ℕ) → IsOldPage page → fault_in (renewed page) slot ≡ fault_in page slot
unfolding fault_in
fault_same k page slot h = ap (λ (bytes : List ℕ). first_fault (fields (slot_at slot) bytes)) (slot_same k page slot h)

headed_same : RenewalLaws → (page : List ℕ) (slot key : ℕ) (h : Result Header NotAPage) → IsOldPage page → headed_fault slot key (renewed page) h ≡ headed_fault slot key page h
headed_same k page slot key (Err e) old = refl
headed_same k page slot key (Ok h) old =
    ap (λ (o : Option ℕ). or_fault (kind_fault h.kind) (cond (nat_lt slot h.count) (or_fault o (key_fault key (slot_at slot) (content (slot_in (renewed page) slot)))) (Some 26))) (fault_same k page slot old)
    ∙ ap (λ (bytes : List ℕ). or_fault (kind_fault h.kind) (cond (nat_lt slot h.count) (or_fault (fault_in page slot) (key_fault key (slot_at slot) (content bytes))) (Some 26))) (slot_same k page slot old)

pub change_same : RenewalLaws → (id : PageId) (page : List ℕ) (c : RowChange) → IsOldPage page → change_fault id c (renewed page) ≡ change_fault id c page
change_same k id page c old =
    headed_same k page c.place.slot c.key (header_of (renewed page) id) old ∙ ap (headed_fault c.place.slot c.key page) (k.header page id old.whole old.old old.number)

body_same : RenewalLaws → (id : PageId) (page : List ℕ) (b : Body) → IsOldPage page → body_fault id (renewed page) b ≡ body_fault id page b
body_same k id page (body.RowChange c) old = change_same k id page c old
body_same k id page (body.Compensation c undone) old = change_same k id page c old
body_same k id page (body.System ps) old = refl
body_same k id page body.Commit old = refl
body_same k id page body.Ended old = refl
body_same k id page (body.Checkpoint offset) old = refl
body_same k id page body.RestartEnd old = refl

-- ---- what a record writes

written_when : (b : Bool) (id : PageId) (lrsn : ℕ) (p : Patch) (ps : List Patch) (page other : List ℕ) → Agree page other → p.offset + length p.bytes ≤ 4096 → (b || has_patch id ps) ≡ true
    → (has_patch id ps ≡ true → written id lrsn ps page ≡ written id lrsn ps other) → written id lrsn ps (cond b (after_patch lrsn page p) page) ≡ written id lrsn ps (cond b (after_patch lrsn other p) other)
written_when true id lrsn p ps page other a lies h more = ap (λ (q : List ℕ). written id lrsn ps q) (same_patched lrsn page other p a lies)
written_when false id lrsn p ps page other a lies h more = more h

written_same : (id : PageId) (lrsn : ℕ) (ps : List Patch) (page other : List ℕ) → Agree page other → AreWithin ps → has_patch id ps ≡ true → written id lrsn ps page ≡ written id lrsn ps other
written_same id lrsn [] page other a lie h = absurd cc
written_same id lrsn (p ∷ ps) page other a lie h = written_when (same_page p.page id) id lrsn p ps page other a lie.0 h (λ e. written_same id lrsn ps page other a lie.1 e)

within_if : (b : Bool) (p : Patch) (ps : List Patch) → (b ≡ true → p.offset + length p.bytes ≤ 4096) → AreWithin ps → AreWithin (cond b (p ∷ ps) ps)
within_if true p ps h rest = (h refl, rest)
within_if false p ps h rest = rest

filtered_within : (ps : List Patch) → AreWithin (filter lies_in_page ps)
filtered_within [] = tt
filtered_within (p ∷ ps) = within_if (lies_in_page p) p (filter lies_in_page ps) (λ e. leb-true (p.offset + length p.bytes) 4096 e) (filtered_within ps)

body_within : (v : Version) (b : Body) → BodyIsAllowed v b → AreWithin (patches_of b)
body_within v (body.RowChange c) h = row_within c h
body_within v (body.Compensation c undone) h = row_within c h.0
body_within v (body.System ps) h = filtered_within ps
body_within v body.Commit h = tt
body_within v body.Ended h = tt
body_within v (body.Checkpoint offset) h = tt
body_within v body.RestartEnd h = tt

-- ---- records in turn

abbrev pub left : List ℕ → Bool → Forward
left page applied = record { page = page; outcome = Ok applied }

abbrev pub IsFault : Result Bool FieldFault → Type 0
IsFault (Ok b) = ⊥
IsFault (Err e) = Unit {0}

-- both come to the same; or both are left as they are; or a field is in the way
abbrev pub Alike : Bool → List ℕ → List ℕ → Forward → Forward → Type 0
Alike b page other f g = (f ≡ g) ⊎ (((f ≡ left page b) × (g ≡ left other b)) ⊎ IsFault g.outcome)

one_when : (c : Bool) (o : Option ℕ) (id : PageId) (r : LogRecord) (page other : List ℕ) → (c ≡ true → written id r.lrsn (patches_of r.body) page ≡ written id r.lrsn (patches_of r.body) other)
    → Alike false page other (cond c (unless o id page r) (left page false)) (cond c (unless o id other r) (left other false))
one_when true None id r page other same = inl (ap (λ (p : List ℕ). left p true) (same refl))
one_when true (Some at) id r page other same = inr (inr tt)
one_when false o id r page other same = inr (inl (refl, refl))

abbrev one_by : ℕ → Option ℕ → PageId → List ℕ → LogRecord → Forward
one_by number o id page r = cond (nat_lt number r.lrsn && has_patch id (patches_of r.body)) (unless o id page r) (left page false)

one_alike : RenewalLaws → (id : PageId) (page : List ℕ) (r : LogRecord) → IsAllowed r → IsOldPage page → Alike false page (renewed page) (after_one id page r) (after_one id (renewed page) r)
one_alike k id page r allowed old =
    let same : after_one id (renewed page) r ≡ one_by (lrsn_of page) (body_fault id page r.body) id (renewed page) r =
    ap (λ (n : ℕ). one_by n (body_fault id (renewed page) r.body) id (renewed page) r) (renewed_number k page old)
    ∙ ap (λ (o : Option ℕ). one_by (lrsn_of page) o id (renewed page) r) (body_same k id page r.body old) in
    subst (λ (g : Forward). Alike false page (renewed page) (after_one id page r) g) (sym same)
    (one_when (nat_lt (lrsn_of page) r.lrsn && has_patch id (patches_of r.body)) (body_fault id page r.body) id r page (renewed page)
    (λ e. sym (written_same id r.lrsn (patches_of r.body) (renewed page) page (renewed_agrees page old.whole) (body_within r.version r.body allowed.body_is)
    (and_parts (nat_lt (lrsn_of page) r.lrsn) (has_patch id (patches_of r.body)) e).1)))

or_none : (b : Bool) → (b || false) ≡ b
or_none true = refl
or_none false = refl

abbrev more_of : PageId → List LogRecord → Bool → Forward → Forward
more_of id rs b f = go_on (λ p a. forward_from id p a rs) b f.page f.outcome

fault_stays : (id : PageId) (rs : List LogRecord) (b : Bool) (page : List ℕ) (o : Result Bool FieldFault) → IsFault o → IsFault (go_on (λ p a. forward_from id p a rs) b page o).outcome
fault_stays id rs b page (Ok a) h = absurd h
fault_stays id rs b page (Err e) h = tt

all_alike : RenewalLaws → (id : PageId) (page : List ℕ) (b : Bool) (rs : List LogRecord) → AllByRecursion IsAllowed rs → IsOldPage page → Alike b page (renewed page) (forward_from id page b rs) (forward_from id (renewed page) b rs)
all_alike k id page b [] allowed old = inr (inl (refl, refl))
all_alike k id page b (r ∷ rs) allowed old =
    elim (one_alike k id page r allowed.0 old) as (λ _. Alike b page (renewed page) (forward_from id page b (r ∷ rs)) (forward_from id (renewed page) b (r ∷ rs))) [
      | inl same ↦ inl (ap (more_of id rs b) same)
      | inr some ↦ elim some as (λ _. Alike b page (renewed page) (forward_from id page b (r ∷ rs)) (forward_from id (renewed page) b (r ∷ rs))) [
        | inl both ↦
            let one : forward_from id page b (r ∷ rs) ≡ forward_from id page b rs = ap (more_of id rs b) both.0 ∙ ap (λ (a : Bool). forward_from id page a rs) (or_none b) in
            let two : forward_from id (renewed page) b (r ∷ rs) ≡ forward_from id (renewed page) b rs = ap (more_of id rs b) both.1 ∙ ap (λ (a : Bool). forward_from id (renewed page) a rs) (or_none b) in
            subst (λ (f : Forward). Alike b page (renewed page) f (forward_from id (renewed page) b (r ∷ rs))) (sym one)
            (subst (λ (g : Forward). Alike b page (renewed page) (forward_from id page b rs) g) (sym two) (all_alike k id page b rs allowed.1 old))
        | inr fault ↦ inr (inr (fault_stays id rs b (after_one id (renewed page) r).page (after_one id (renewed page) r).outcome fault))
      ]
    ]

-- ---- the page

headed_is : (id : PageId) (page : List ℕ) (rs : List LogRecord) (h : Result Header NotAPage) → is_page h ≡ true → headed id page rs h ≡ forward_from id page false rs
headed_is id page rs (Ok h) e = refl
headed_is id page rs (Err x) e = absurd cc

pub brought_is : (id : PageId) (page : List ℕ) (rs : List LogRecord) → is_page (header_of page id) ≡ true → brought_forward id page rs ≡ forward_from id page false rs
brought_is id page rs e = headed_is id page rs (header_of page id) e

pub brought_alike : RenewalLaws → (id : PageId) (page : List ℕ) (rs : List LogRecord) → AllByRecursion IsAllowed rs → IsOldPage page → is_page (header_of page id) ≡ true
    → Alike false page (renewed page) (brought_forward id page rs) (brought_forward id (renewed page) rs)
brought_alike k id page rs allowed old e =
    let header : is_page (header_of (renewed page) id) ≡ true = ap (λ (h : Result Header NotAPage). is_page h) (k.header page id old.whole old.old old.number) ∙ e in
    subst (λ (f : Forward). Alike false page (renewed page) f (brought_forward id (renewed page) rs)) (sym (brought_is id page rs e))
    (subst (λ (g : Forward). Alike false page (renewed page) (forward_from id page false rs) g) (sym (brought_is id (renewed page) rs header)) (all_alike k id page false rs allowed old))
