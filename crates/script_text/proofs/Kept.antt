-- What holds of a draft, and of each script that is read.
use Rattle.std.proofs.Common.{◌≡◌, ◌⊎◌, ℕ, zero, suc, ◌+◌, ◌-◌, ◌<◌, ◌≤◌, Bool, true, false, not, ◌&&◌, nat_lt, nat_le, eqb, if◌then◌else◌, List, [], ◌∷◌, ◌++◌, length, map, drop, Option, Some, None, Result, Ok, Err, IfOk, Contains, refl, sym, ap, ◌∙◌, subst, arith, append_assoc, append-nil, length-append, inl, inr}
use Rattle.std.specs.List.{flat_map, AllByRecursion}
use Rattle.std.proofs.lemmas.Bool.{eqb-true, leb-false, and_parts, not-true}
use Rattle.std.proofs.lemmas.List.{map_push}
use Rattle.ds_model.specs.declared.script.Op.{Op}
use Rattle.ds_model.specs.declared.script.Op.TheVariants as op
use Rattle.ds_model.specs.declared.script.FailAt.{FailAt}
use Rattle.ds_model.specs.declared.script.Tran.{Tran}
use Rattle.ds_model.specs.declared.script.Part.{Part}
use Rattle.ds_model.specs.declared.script.Phase.{Phase}
use Rattle.ds_model.specs.declared.script.FaultKind.{FaultKind}
use Rattle.ds_model.specs.declared.script.FaultKind.TheVariants as fault
use Rattle.ds_model.specs.Transactions.{Placed, placed_part, placed_phase}
use Rattle.ds_model.specs.Scripts.{AreParts, ArePhases, Differ, FailIsAllowed, IsName, IsOp, IsPart, IsTran, Lacks, LeavesFlags, TranLeavesFlags, counted, flag_raised, flags_raised, part_raises, phase_fails}
use Rattle.script_text.specs.declared.draft.Place.{Place}
use Rattle.script_text.specs.declared.draft.Place.TheVariants as place
use Rattle.script_text.specs.declared.draft.Draft.{Draft}
use Rattle.script_text.specs.SoFar.{has_number, has_name, open_name, phase_with, names_so_far, members_failed, members_playing, flags_raised_by_others}
use Rattle.script_text.specs.Drafts.{begun_at, draft_at, closed_at, failed_again, in_phase, part_of, part_begun, restarted, restarted_at, failing, fail_at, tran_begun, is_first, may_use_flags, open_ops, op_taken, tran_of, with_tran, tran_ended}
use Rattle.script_text.proofs.Lists.{all_append, all_push}
use Rattle.script_text.proofs.SoFar.{push_flat}
use Rattle.script_text.proofs.Members.{contains_number, lacks_number, lacks_name, differ_push, fewer}

-- ---- the transactions that are ended, and the open one

abbrev pub ended : List Phase → Place → List Placed
ended phases place.Outside = flat_map placed_phase phases
ended phases (place.Phase parts) = flat_map placed_phase phases ++ flat_map placed_part parts
ended phases (place.Part parts part) = flat_map placed_phase phases ++ (flat_map placed_part parts ++ placed_part part)
ended phases (place.Tran parts part name wait ops) = flat_map placed_phase phases ++ (flat_map placed_part parts ++ placed_part part)

abbrev pub open_count : Place → ℕ
open_count place.Outside = 0
open_count (place.Phase parts) = 0
open_count (place.Part parts part) = 0
open_count (place.Tran parts part name wait ops) = 1

abbrev pub name_of : Placed → List ℕ
name_of p = p.1.name

abbrev pub number_of : Placed → ℕ
number_of p = p.1.number

pub record Counts (c : ℕ) (xs : List Placed) (o : ℕ) (names : List (List ℕ)) : Type 0 where
  pub fits : c ≤ 65536
  pub adds : c ≡ length xs + o
  pub numbers : map number_of xs ≡ counted 1 (length xs)
  pub differ : Differ (map name_of xs ++ names)

-- ---- places

pub record IsNext (members : ℕ) (failed : List ℕ) (parts : List Part) (part : Part) : Type 0 where
  pub new : Lacks (map (λ (p : Part). p.member) parts) part.member
  pub is_part : IsPart members failed (flat_map part_raises parts) part

pub record IsOpen (parts : List Part) (part : Part) (name : List ℕ) (ops : List Op) : Type 0 where
  pub named : IsName name
  pub short : length ops ≤ 64
  pub ops_are : AllByRecursion IsOp ops
  pub later : (part.trans ≡ [] → ⊥) → AllByRecursion LeavesFlags ops
  pub own : AllByRecursion (Lacks (flat_map part_raises parts)) (flags_raised ops)

abbrev pub IsPlace : ℕ → List ℕ → Place → Type 0
IsPlace members failed place.Outside = Unit {0}
IsPlace members failed (place.Phase parts) = AreParts members failed [] [] parts
IsPlace members failed (place.Part parts part) = AreParts members failed [] [] parts × IsNext members failed parts part
IsPlace members failed (place.Tran parts part name wait ops) = AreParts members failed [] [] parts × IsNext members failed parts part × IsOpen parts part name ops

pub record IsDraft (members : ℕ) (phases : List Phase) (c : ℕ) (p : Place) : Type 0 where
  pub phases_short : begun_at (length phases) p ≤ 1024
  pub phases_are : ArePhases members [] phases
  pub place_is : IsPlace members (flat_map phase_fails phases) p
  pub counts : Counts c (ended phases p) (open_count p) (open_name p)

abbrev pub Is : ℕ → Draft → Type 0
Is members d = IsDraft members d.phases d.count d.place

-- ---- one part more, one phase more

parts_push : (m : ℕ) (f r h : List ℕ) (ps : List Part) (p : Part) → AreParts m f r h ps → Lacks (h ++ map (λ (p : Part). p.member) ps) p.member → IsPart m f (r ++ flat_map part_raises ps) p → AreParts m f r h (ps ++ p ∷ [])
parts_push m f r h [] p a l i = (subst (λ xs. Lacks xs p.member) (append-nil h) l, subst (λ xs. IsPart m f xs p) (append-nil r) i, tt)
parts_push m f r h (q ∷ ps) p a l i = (
  a.0,
  a.1,
  parts_push m f (r ++ part_raises q) (h ++ q.member ∷ []) ps p a.2
      (subst (λ xs. Lacks xs p.member) (sym (append_assoc h (q.member ∷ []) (map (λ (p : Part). p.member) ps))) l)
      (subst (λ xs. IsPart m f xs p) (sym (append_assoc r (part_raises q) (flat_map part_raises ps))) i),
)

one_part : (m : ℕ) (f : List ℕ) (ps : List Part) (p : Part) → AreParts m f [] [] ps → IsNext m f ps p → AreParts m f [] [] (ps ++ p ∷ [])
one_part m f ps p a n = parts_push m f [] [] ps p a n.new n.is_part

phases_push : (m : ℕ) (f : List ℕ) (ps : List Phase) (p : Phase) → ArePhases m f ps → AreParts m (f ++ flat_map phase_fails ps) [] [] p.parts → ArePhases m f (ps ++ p ∷ [])
phases_push m f [] p a k = (subst (λ xs. AreParts m xs [] [] p.parts) (append-nil f) k, tt)
phases_push m f (q ∷ ps) p a k = (a.0, phases_push m (f ++ phase_fails q) ps p a.1 (subst (λ xs. AreParts m xs [] [] p.parts) (sym (append_assoc f (phase_fails q) (flat_map phase_fails ps))) k))

recount : (c o : ℕ) (xs ys : List Placed) (names : List (List ℕ)) → xs ≡ ys → Counts c xs o names → Counts c ys o names
recount c o xs ys names e h = subst (λ zs. Counts c zs o names) e h

-- ---- the steps

pub record Closes (members : ℕ) (old : ℕ) (e : Draft) : Type 0 where
  pub outside : e.place ≡ place.Outside
  pub begun : length e.phases ≡ old
  pub phases_are : ArePhases members [] e.phases
  pub counts : Counts e.count (flat_map placed_phase e.phases) 0 []

close_phase : (m : ℕ) (phases : List Phase) (g c : ℕ) (parts : List Part) → ArePhases m [] phases → AreParts m (flat_map phase_fails phases) [] [] parts → Counts c (flat_map placed_phase phases ++ flat_map placed_part parts) 0 [] → Closes m (length phases + 1) (draft_at (phases ++ phase_with g parts ∷ []) 0 c place.Outside)
close_phase m phases g c parts a k n = record {
  outside = refl;
  begun = omega (arith, length-append {A = Phase});
  phases_are = phases_push m [] phases (phase_with g parts) a k;
  counts = recount c 0 _ _ [] (sym (push_flat placed_phase phases (phase_with g parts))) n;
}

pub close_keeps : (m : ℕ) (phases : List Phase) (g c : ℕ) (p : Place) → IsDraft m phases c p → IfOk (closed_at (draft_at phases g c p) p) (λ e. Closes m (begun_at (length phases) p) e)
close_keeps m phases g c place.Outside h = record { outside = refl; begun = refl; phases_are = h.phases_are; counts = h.counts }
close_keeps m phases g c (place.Phase parts) h = close_phase m phases g c parts h.phases_are h.place_is h.counts
close_keeps m phases g c (place.Part parts part) h =
    close_phase m phases g c (parts ++ part ∷ []) h.phases_are (one_part m (flat_map phase_fails phases) parts part h.place_is.0 h.place_is.1)
    (recount c 0 _ _ [] (ap (λ xs. flat_map placed_phase phases ++ xs) (sym (push_flat placed_part parts part))) h.counts)
close_keeps m phases g c (place.Tran parts part name wait ops) h = tt

pub again_keeps : (m old : ℕ) (phases : List Phase) (g c : ℕ) (p : Place) → old ≤ 1024 → Closes m old (draft_at phases g c p) → Is m (failed_again (draft_at phases g c p))
again_keeps m old phases g c place.Outside h k = record { phases_short = omega (arith, k.begun); phases_are = k.phases_are; place_is = tt; counts = k.counts }
again_keeps m old phases g c (place.Phase parts) h k = let e = k.outside in cc
again_keeps m old phases g c (place.Part parts part) h k = let e = k.outside in cc
again_keeps m old phases g c (place.Tran parts part name wait ops) h k = let e = k.outside in cc

pub in_phase_keeps : (m old : ℕ) (d : Draft) → old < 1024 → Closes m old d → Is m (in_phase d)
in_phase_keeps m old d h k = record {
  phases_short = omega (arith, k.begun);
  phases_are = k.phases_are;
  place_is = tt;
  counts = recount d.count 0 _ _ [] (sym (append-nil (flat_map placed_phase d.phases))) k.counts;
}

part_is : (m : ℕ) (f r : List ℕ) (member : ℕ) → (1 ≤ member) × (member ≤ m) → IsPart m f r (part_of member)
part_is m f r member h = record { member_in = h; restarts = λ e. cc; fail_in = tt; trans_are = tt; first_alone = tt; raises_its_own = tt }

begin_keeps : (m : ℕ) (phases : List Phase) (g c : ℕ) (parts : List Part) (member : ℕ) → IsDraft m phases c (place.Phase parts) → (1 ≤ member) × (member ≤ m) → has_number (map (λ (p : Part). p.member) parts) member ≡ false → Is m (draft_at phases g c (place.Part parts (part_of member)))
begin_keeps m phases g c parts member h i k = record {
  phases_short = h.phases_short;
  phases_are = h.phases_are;
  place_is = (h.place_is, record { new = lacks_number (map (λ (p : Part). p.member) parts) member k; is_part = part_is m (flat_map phase_fails phases) (flat_map part_raises parts) member i });
  counts = recount c 0 _ _ [] (ap (λ xs. flat_map placed_phase phases ++ xs) (sym (append-nil (flat_map placed_part parts)))) h.counts;
}

pub member_keeps : (m : ℕ) (phases : List Phase) (g c : ℕ) (p : Place) (member : ℕ) → IsDraft m phases c p → (1 ≤ member) × (member ≤ m) → has_number (members_playing (draft_at phases g c p)) member ≡ false → IfOk (part_begun (draft_at phases g c p) p member) (λ e. Is m e)
member_keeps m phases g c place.Outside member h i k = tt
member_keeps m phases g c (place.Phase parts) member h i k = begin_keeps m phases g c parts member h i k
member_keeps m phases g c (place.Part parts part) member h i k =
    begin_keeps m phases g c (parts ++ part ∷ []) member (record {
      phases_short = h.phases_short;
      phases_are = h.phases_are;
      place_is = one_part m (flat_map phase_fails phases) parts part h.place_is.0 h.place_is.1;
      counts = recount c 0 _ _ [] (ap (λ xs. flat_map placed_phase phases ++ xs) (sym (push_flat placed_part parts part))) h.counts;
    }) i k
member_keeps m phases g c (place.Tran parts part name wait ops) member h i k = tt

pub restart_keeps : (m : ℕ) (phases : List Phase) (g c : ℕ) (p : Place) (member : ℕ) → IsDraft m phases c p → has_number (flat_map phase_fails phases) member ≡ true → ((parts : List Part) (part : Part) → p ≡ place.Part parts part → part.member ≡ member) → IfOk (restarted_at (draft_at phases g c p) p) (λ e. Is m e)
restart_keeps m phases g c place.Outside member h k s = tt
restart_keeps m phases g c (place.Phase parts) member h k s = tt
restart_keeps m phases g c (place.Part parts part) member h k s =
    let i = h.place_is.1 in
    record {
      phases_short = h.phases_short;
      phases_are = h.phases_are;
      place_is = (
        h.place_is.0,
        record {
          new = i.new;
          is_part = record {
            member_in = i.is_part.member_in;
            restarts = λ e. subst (Contains (flat_map phase_fails phases)) (sym (s parts part refl)) (contains_number (flat_map phase_fails phases) member k);
            fail_in = i.is_part.fail_in;
            trans_are = i.is_part.trans_are;
            first_alone = i.is_part.first_alone;
            raises_its_own = i.is_part.raises_its_own;
          };
        },
      );
      counts = h.counts;
    }
restart_keeps m phases g c (place.Tran parts part name wait ops) member h k s = tt

pub fail_keeps : (m : ℕ) (phases : List Phase) (g c : ℕ) (p : Place) (at : FailAt) → IsDraft m phases c p → FailIsAllowed (Some at) → IfOk (fail_at (draft_at phases g c p) p at) (λ e. Is m e)
fail_keeps m phases g c place.Outside at h k = tt
fail_keeps m phases g c (place.Phase parts) at h k = tt
fail_keeps m phases g c (place.Part parts part) at h k =
    let i = h.place_is.1 in
    record {
      phases_short = h.phases_short;
      phases_are = h.phases_are;
      place_is = (
        h.place_is.0,
        record {
          new = i.new;
          is_part = record {
            member_in = i.is_part.member_in;
            restarts = i.is_part.restarts;
            fail_in = k;
            trans_are = i.is_part.trans_are;
            first_alone = i.is_part.first_alone;
            raises_its_own = i.is_part.raises_its_own;
          };
        },
      );
      counts = h.counts;
    }
fail_keeps m phases g c (place.Tran parts part name wait ops) at h k = tt

-- the names of the phases that have begun are those of the ended transactions
pub names_ended : (phases : List Phase) (g c : ℕ) (parts : List Part) (part : Part) → names_so_far (draft_at phases g c (place.Part parts part)) ≡ map name_of (ended phases (place.Part parts part))
names_ended phases g c parts part =
    append-nil (map name_of (flat_map placed_phase (phases ++ phase_with g (parts ++ part ∷ []) ∷ [])))
    ∙ ap (map name_of) (push_flat placed_phase phases (phase_with g (parts ++ part ∷ [])) ∙ ap (λ xs. flat_map placed_phase phases ++ xs) (push_flat placed_part parts part))

pub tran_keeps : (m : ℕ) (phases : List Phase) (g c : ℕ) (p : Place) (name : List ℕ) (wait : Bool) → IsDraft m phases c p → IsName name → c < 65536 → has_name (names_so_far (draft_at phases g c p)) name ≡ false → IfOk (tran_begun (draft_at phases g c p) p name wait) (λ e. Is m e)
tran_keeps m phases g c place.Outside name wait h i l k = tt
tran_keeps m phases g c (place.Phase parts) name wait h i l k = tt
tran_keeps m phases g c (place.Part parts part) name wait h i l k =
    let names = map name_of (ended phases (place.Part parts part)) in
    let lacks = lacks_name (map name_of (ended phases (place.Part parts part))) name (ap (λ ns. has_name ns name) (sym (names_ended phases g c parts part)) ∙ k) in
    record {
      phases_short = h.phases_short;
      phases_are = h.phases_are;
      place_is = (h.place_is.0, h.place_is.1, record { named = i; short = omega arith; ops_are = tt; later = λ e. tt; own = tt });
      counts = record {
        fits = omega arith;
        adds = omega (arith, h.counts.adds);
        numbers = h.counts.numbers;
        differ = differ_push (map name_of (ended phases (place.Part parts part))) name (subst Differ (append-nil (map name_of (ended phases (place.Part parts part)))) h.counts.differ) lacks;
      };
    }
tran_keeps m phases g c (place.Tran parts part n w ops) name wait h i l k = tt

-- ---- an operation

none_of : (ts : List Tran) → eqb (length ts) 0 ≡ true → ts ≡ []
none_of [] h = refl
none_of (t ∷ ts) h = absurd (omega (arith, eqb-true (length (t ∷ ts)) 0 h))

op_leaves : (d : Draft) (parts : List Part) (part : Part) (name : List ℕ) (wait : Bool) (ops : List Op) (o : Op) → d.place ≡ place.Tran parts part name wait ops → may_use_flags d o ≡ true → (part.trans ≡ [] → ⊥) → LeavesFlags o
op_leaves d parts part name wait ops (op.Get table key) e h k = tt
op_leaves d parts part name wait ops (op.Getu table key) e h k = tt
op_leaves d parts part name wait ops (op.Put table key value) e h k = tt
op_leaves d parts part name wait ops (op.Del table key) e h k = tt
op_leaves d parts part name wait ops (op.Scan table low high) e h k = tt
op_leaves d parts part name wait ops (op.Raise flag) e h k = k (none_of part.trans (ap is_first (sym e) ∙ (and_parts (is_first d.place) _ h).0))
op_leaves d parts part name wait ops (op.Await flag) e h k = k (none_of part.trans (ap is_first (sym e) ∙ h))
op_leaves d parts part name wait ops op.LoseCache e h k = tt
op_leaves d parts part name wait ops op.Abort e h k = tt

op_raises : (phases : List Phase) (g c : ℕ) (parts : List Part) (part : Part) (name : List ℕ) (wait : Bool) (ops : List Op) (o : Op) → may_use_flags (draft_at phases g c (place.Tran parts part name wait ops)) o ≡ true → AllByRecursion (Lacks (flat_map part_raises parts)) (flag_raised o)
op_raises phases g c parts part name wait ops (op.Get table key) h = tt
op_raises phases g c parts part name wait ops (op.Getu table key) h = tt
op_raises phases g c parts part name wait ops (op.Put table key value) h = tt
op_raises phases g c parts part name wait ops (op.Del table key) h = tt
op_raises phases g c parts part name wait ops (op.Scan table low high) h = tt
op_raises phases g c parts part name wait ops (op.Raise flag) h =
    let others = flat_map part_raises (parts ++ part ∷ []) in
    let free = not-true (has_number (flat_map part_raises (parts ++ part ∷ [])) flag) (and_parts (eqb (length part.trans) 0) _ h).1 in
    let lacks = lacks_number (flat_map part_raises (parts ++ part ∷ [])) flag free in
    (fewer (flat_map part_raises parts) (part_raises part) flag (subst (λ xs. Lacks xs flag) (push_flat part_raises parts part) lacks), tt)
op_raises phases g c parts part name wait ops (op.Await flag) h = tt
op_raises phases g c parts part name wait ops op.LoseCache h = tt
op_raises phases g c parts part name wait ops op.Abort h = tt

pub op_keeps : (m : ℕ) (phases : List Phase) (g c : ℕ) (p : Place) (o : Op) → IsDraft m phases c p → IsOp o → open_ops p < 64 → may_use_flags (draft_at phases g c p) o ≡ true → IfOk (op_taken (draft_at phases g c p) p o) (λ e. Is m e)
op_keeps m phases g c place.Outside o h i l k = tt
op_keeps m phases g c (place.Phase parts) o h i l k = tt
op_keeps m phases g c (place.Part parts part) o h i l k = tt
op_keeps m phases g c (place.Tran parts part name wait ops) o h i l k =
    let q = h.place_is.2 in
    record {
      phases_short = h.phases_short;
      phases_are = h.phases_are;
      place_is = (
        h.place_is.0,
        h.place_is.1,
        record {
          named = q.named;
          short = omega (arith, length-append {A = Op});
          ops_are = all_push IsOp ops o q.ops_are i;
          later = λ e. all_push LeavesFlags ops o (q.later e) (op_leaves (draft_at phases g c (place.Tran parts part name wait ops)) parts part name wait ops o refl k e);
          own = subst (AllByRecursion (Lacks (flat_map part_raises parts))) (sym (push_flat flag_raised ops o)) (all_append (Lacks (flat_map part_raises parts)) (flags_raised ops) (flag_raised o) q.own (op_raises phases g c parts part name wait ops o k));
        },
      );
      counts = h.counts;
    }

-- ---- the end of a transaction

alone_push : (ts : List Tran) (t : Tran) → AllByRecursion TranLeavesFlags (drop 1 ts) → ((ts ≡ [] → ⊥) → TranLeavesFlags t) → AllByRecursion TranLeavesFlags (drop 1 (ts ++ t ∷ []))
alone_push [] t h k = tt
alone_push (u ∷ ts) t h k = all_push TranLeavesFlags ts t h (k (λ e. cc))

abbrev placed_tran : ℕ → Tran → Placed
placed_tran m t = (m, t)

pub ended_more : (phases : List Phase) (parts : List Part) (part : Part) (t : Tran) → ended phases (place.Part parts (with_tran part t)) ≡ ended phases (place.Part parts part) ++ placed_tran part.member t ∷ []
ended_more phases parts part t =
    ap (λ xs. flat_map placed_phase phases ++ (flat_map placed_part parts ++ xs)) (map_push (placed_tran part.member) part.trans t)
    ∙ ap (λ xs. flat_map placed_phase phases ++ xs) (sym (append_assoc (flat_map placed_part parts) (placed_part part) (placed_tran part.member t ∷ [])))
    ∙ sym (append_assoc (flat_map placed_phase phases) (flat_map placed_part parts ++ placed_part part) (placed_tran part.member t ∷ []))

counted_push : (c n : ℕ) → counted c (suc n) ≡ counted c n ++ (c + n) ∷ []
counted_push c zero = ap (λ (m : ℕ). m ∷ []) (omega arith)
counted_push c (suc n) = ap (λ (ms : List ℕ). c ∷ ms) (counted_push (c + 1) n ∙ ap (λ (m : ℕ). counted (c + 1) n ++ m ∷ []) (omega arith))

count_end : (c : ℕ) (xs : List Placed) (x : Placed) → Counts c xs 1 (x.1.name ∷ []) → x.1.number ≡ c → Counts c (xs ++ x ∷ []) 0 []
count_end c xs x h e =
    let long : suc (length xs) ≡ length (xs ++ x ∷ []) = omega (arith, length-append {A = Placed}) in
    let last : x.1.number ≡ 1 + length xs = omega (arith, h.adds) in
    record {
      fits = h.fits;
      adds = omega (arith, h.adds, length-append {A = Placed});
      numbers = map_push number_of xs x ∙ ap (λ (ns : List ℕ). ns ++ x.1.number ∷ []) h.numbers ∙ ap (λ (n : ℕ). counted 1 (length xs) ++ n ∷ []) last ∙ sym (counted_push 1 (length xs)) ∙ ap (counted 1) long;
      differ = subst Differ (sym (append-nil (map name_of (xs ++ x ∷ [])) ∙ map_push name_of xs x)) h.differ;
    }

abbrev raises_of : Tran → List ℕ
raises_of t = flags_raised t.ops

pub end_keeps : (m : ℕ) (phases : List Phase) (g c : ℕ) (p : Place) → IsDraft m phases c p → IfOk (tran_ended (draft_at phases g c p) p) (λ e. Is m e)
end_keeps m phases g c place.Outside h = tt
end_keeps m phases g c (place.Phase parts) h = tt
end_keeps m phases g c (place.Part parts part) h = tt
end_keeps m phases g c (place.Tran parts part name wait ops) h =
    let i = h.place_is.1.is_part in
    let q = h.place_is.2 in
    record {
      phases_short = h.phases_short;
      phases_are = h.phases_are;
      place_is = (
        h.place_is.0,
        record {
          new = h.place_is.1.new;
          is_part = record {
            member_in = i.member_in;
            restarts = i.restarts;
            fail_in = i.fail_in;
            trans_are = all_push IsTran part.trans (tran_of name c wait ops) i.trans_are (record { named = q.named; short = q.short; ops_are = q.ops_are });
            first_alone = alone_push part.trans (tran_of name c wait ops) i.first_alone q.later;
            raises_its_own = subst (AllByRecursion (Lacks (flat_map part_raises parts))) (sym (push_flat raises_of part.trans (tran_of name c wait ops))) (all_append (Lacks (flat_map part_raises parts)) (part_raises part) (flags_raised ops) i.raises_its_own q.own);
          };
        },
      );
      counts = recount c 0 _ _ [] (sym (ended_more phases parts part (tran_of name c wait ops))) (count_end c (ended phases (place.Part parts part)) (placed_tran part.member (tran_of name c wait ops)) h.counts refl);
    }
