-- The restarts of members begin one by one.
use Rattle.std.proofs.Common.{◌≡◌, inl, inr, ℕ, zero, suc, ◌+◌, ◌<◌, ◌≤◌, Bool, true, false, Option, None, Some, IfSome, slice_get, List, [], ◌∷◌, ◌++◌, length, map, take, slice_set, slice_index_or, refl, sym, ap, subst, ◌∙◌, if◌then◌else◌, arith}
use Rattle.std.specs.List.{AllZip}
use Rattle.std.proofs.lemmas.List.{get_or-set_other, map_more, map_push, take_more, take_more_set}
use Rattle.std.proofs.lemmas.List.Elements.{AllZip-push}
use Rattle.ds_model.specs.declared.script.Phase.{Phase}
use Rattle.list_structure.specs.Bells.{CanRing, rung}
use Rattle.list_structure.specs.States.{ListsState}
use Rattle.group_member.specs.declared.part.MemberPart.{MemberPart}
use Rattle.group_member.specs.Members.{Member, member_of}
use Rattle.group_crew.specs.Beginning.{AllRestart, CannotBegin, CannotRing, PartStaysOrKnows, Rang, RestartBegins, RestartKnows, Restarts, StaysOrKnows, begins_restart, lists_begun, restarting}
use Rattle.group_crew.specs.Ends.{known_at}
use Rattle.group_crew.specs.States.{known_by}

-- the lists are alike from a place on
abbrev pub SameFrom : {A : Type 0} → ℕ → List A → List A → Type 0
SameFrom {A} i xs ys = (k : ℕ) (d : A) → i ≤ k → slice_index_or xs k d ≡ slice_index_or ys k d

pub same_more : {A : Type 0} (i : ℕ) (xs ys : List A) (x : A) → SameFrom i xs ys → SameFrom (i + 1) (slice_set xs i x) ys
same_more i xs ys x same k d above = get_or-set_other xs i k x d (omega arith) ∙ same k d (omega arith)

pub restart_made : {P : Type 0} (b : Bool) (old new : MemberPart P) (l m : ListsState)
    → new ≡ record old { restart = new.restart } → (b ≡ false → (new ≡ old) × (m ≡ l)) → (b ≡ true → RestartBegins old l new m) → Restarts b (member_of old) (member_of new)
restart_made {P} true old new l m rest same begun = ((begun refl).fresh, ap (member_of {P = P}) rest)
restart_made {P} false old new l m rest same begun = ap (member_of {P = P}) (same refl).0

pub lists_made : {P : Type 0} (b : Bool) (old new : MemberPart P) (l m : ListsState)
    → (b ≡ false → (new ≡ old) × (m ≡ l)) → (b ≡ true → RestartBegins old l new m) → m ≡ (if b then restarting l old.id else l)
lists_made true old new l m same begun = (begun refl).lists_are
lists_made false old new l m same begun = (same refl).1

-- one more behind the others
behind : (phase : Phase) (l m : ListsState) (olds news : List Member) (old new : Member)
    → AllRestart phase l olds news m → Restarts (begins_restart phase m.statuses old.id) old new → AllRestart phase l (olds ++ old ∷ []) (news ++ new ∷ []) (lists_begun phase m old.id)
behind phase l m [] [] old new all its =
    (subst (λ (n : ListsState). Restarts (begins_restart phase n.statuses old.id) old new) all its, ap (λ (n : ListsState). lists_begun phase n old.id) all)
behind phase l m [] (x ∷ xs) old new all its = absurd all
behind phase l m (x ∷ xs) [] old new all its = absurd all
behind phase l m (x ∷ xs) (y ∷ ys) old new all its = (all.0, behind phase (lists_begun phase l x.id) m xs ys old new all.1 its)

pub restarts_more : {P : Type 0} (phase : Phase) (l m n : ListsState) (parts items : List (MemberPart P)) (i : ℕ) (d new : MemberPart P)
    → i < length parts → i < length items → SameFrom i items parts → AllRestart phase l (map member_of (take i parts)) (map member_of (take i items)) m
    → Restarts (begins_restart phase m.statuses (slice_index_or items i d).id) (member_of (slice_index_or items i d)) (member_of new) → n ≡ lists_begun phase m (slice_index_or items i d).id
    → AllRestart phase l (map member_of (take (i + 1) parts)) (map member_of (take (i + 1) (slice_set items i new))) n
restarts_more {P} phase l m n parts items i d new within there same all its lists =
    let old : MemberPart P = slice_index_or items i d in
    let is : slice_index_or items i d ≡ slice_index_or parts i d = same i d (omega arith) in
    let before : List Member = map (member_of {P = P}) (take i parts) in
    let after : List Member = map (member_of {P = P}) (take i items) in
    let next : AllRestart phase l (before ++ member_of old ∷ []) (after ++ member_of new ∷ []) (lists_begun phase m old.id) = behind phase l m before after (member_of old) (member_of new) all its in
    let olds : before ++ member_of old ∷ [] ≡ map (member_of {P = P}) (take (i + 1) parts) =
    ap (λ (x : MemberPart P). before ++ member_of x ∷ []) is ∙ sym (map_more (member_of {P = P}) parts i d within) in
    let news : after ++ member_of new ∷ [] ≡ map (member_of {P = P}) (take (i + 1) (slice_set items i new)) =
    sym (ap (map (member_of {P = P})) (take_more_set items i new there) ∙ map_push (member_of {P = P}) (take i items) new) in
    subst (λ (xs : List Member). AllRestart phase l xs (map member_of (take (i + 1) (slice_set items i new))) n) olds
    (subst (λ (ys : List Member). AllRestart phase l (before ++ member_of old ∷ []) ys n) news
    (subst (λ (k : ListsState). AllRestart phase l (before ++ member_of old ∷ []) (after ++ member_of new ∷ []) k) (sym lists) next))

-- ---- what they know

pub part_knows : {P : Type 0} (b : Bool) (old new : MemberPart P) → (b ≡ false → new ≡ old) → (b ≡ true → RestartKnows old new) → PartStaysOrKnows old new
part_knows true old new same knows = inr (knows refl)
part_knows {P} false old new same knows = inl (ap (member_of {P = P}) (same refl))

-- one more
pub knows_more : {P : Type 0} (parts items : List (MemberPart P)) (i : ℕ) (d new : MemberPart P)
    → i < length parts → i < length items → SameFrom i items parts → AllZip PartStaysOrKnows (take i parts) (take i items) → PartStaysOrKnows (slice_index_or items i d) new
    → AllZip PartStaysOrKnows (take (i + 1) parts) (take (i + 1) (slice_set items i new))
knows_more {P} parts items i d new within there same all its =
    let old : MemberPart P = slice_index_or items i d in
    let next : AllZip PartStaysOrKnows (take i parts ++ old ∷ []) (take i items ++ new ∷ []) = AllZip-push (PartStaysOrKnows {P = P}) (take i parts) (take i items) old new all its in
    let olds : take i parts ++ old ∷ [] ≡ take (i + 1) parts = ap (λ (x : MemberPart P). take i parts ++ x ∷ []) (same i d (omega arith)) ∙ sym (take_more parts i d within) in
    subst (λ (xs : List (MemberPart P)). AllZip PartStaysOrKnows xs (take (i + 1) (slice_set items i new))) olds
    (subst (λ (ys : List (MemberPart P)). AllZip PartStaysOrKnows (take i parts ++ old ∷ []) ys) (sym (take_more_set items i new there)) next)

-- so it is of the member at each place
pub stay_or_know : {P : Type 0} (olds news : List (MemberPart P)) → AllZip PartStaysOrKnows olds news
    → (at : ℕ) → IfSome (slice_get (map member_of olds) at) (λ (m : Member). IfSome (slice_get (map member_of news) at) (StaysOrKnows (known_at (map known_by olds) at) m))
stay_or_know [] [] all at = tt
stay_or_know [] (y ∷ ys) all at = absurd all
stay_or_know (x ∷ xs) [] all at = absurd all
stay_or_know (x ∷ xs) (y ∷ ys) all zero = all.0
stay_or_know (x ∷ xs) (y ∷ ys) all (suc at) = stay_or_know xs ys all.1 at

-- ---- the bells

-- the restart of one more member rings them, or not
pub rang_more : (b : Bool) (bells : List ℕ) (i id : ℕ) (l m : ListsState) → m ≡ (if b then restarting l id else l) → Rang bells i l.bells → Rang bells (i + 1) m.bells
rang_more true bells i id l m is rang = record { rings = suc rang.rings; few = omega (arith, rang.few); are = ap (λ (n : ListsState). n.bells) is ∙ ap rung rang.are }
rang_more false bells i id l m is rang = record { rings = rang.rings; few = omega (arith, rang.few); are = ap (λ (n : ListsState). n.bells) is ∙ rang.are }

pub none_rang : (bells : List ℕ) (i : ℕ) → Rang bells i bells
none_rang bells i = record { rings = 0; few = omega arith; are = refl }

-- after so many rings they can't ring again
pub cannot_ring : (bells : List ℕ) (i most : ℕ) (now : List ℕ) → Rang bells i now → i ≤ most → ¬ CanRing now → CannotRing bells most
cannot_ring bells i most now rang few silent = record { rings = rang.rings; few = omega (arith, rang.few); ends = subst (λ (b : List ℕ). ¬ CanRing b) rang.are silent }

pub cannot_begin : (o : Option Phase) (bells : List ℕ) (members : ℕ) → CannotRing bells members → CannotBegin o bells members
cannot_begin None bells members cannot = tt
cannot_begin (Some phase) bells members cannot = cannot
