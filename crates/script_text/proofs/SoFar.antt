-- How each step changes what a draft says.
use Rattle.std.proofs.Common.{◌≡◌, ℕ, ◌+◌, Bool, true, false, ◌||◌, eqb, List, [], ◌∷◌, ◌++◌, map, Option, Some, None, IfOk, Result, Ok, Err, refl, sym, ap, ◌∙◌, subst, append_assoc, append-nil}
use Rattle.std.specs.List.{flat_map, list_any}
use Rattle.std.proofs.lemmas.List.{map_push}
use Rattle.std.proofs.lemmas.List.Concat.{flat_map-append}
use Rattle.std.proofs.lemmas.List.Folds.{list_any-append}
use Rattle.ds_model.specs.declared.script.Op.{Op}
use Rattle.ds_model.specs.declared.script.FailAt.{FailAt}
use Rattle.ds_model.specs.declared.script.Tran.{Tran}
use Rattle.ds_model.specs.declared.script.Part.{Part}
use Rattle.ds_model.specs.declared.script.Phase.{Phase}
use Rattle.ds_model.specs.Transactions.{Placed, placed_part, placed_phase}
use Rattle.ds_model.specs.Scripts.{failing_as, flag_raised, flags_raised, part_raises, phase_fails}
use Rattle.script_text.specs.declared.draft.Place.{Place}
use Rattle.script_text.specs.declared.draft.Place.TheVariants as place
use Rattle.script_text.specs.declared.draft.Draft.{Draft}
use Rattle.script_text.specs.SoFar.{has_number, has_name, parts_of, phase_with, names_so_far, members_failed, members_failing, members_playing, flags_raised_by_others, flags_raised_now}
use Rattle.script_text.specs.Drafts.{draft_at, moved, closed_at, failed_again, in_phase, part_of, part_begun, restarted, restarted_at, member_at, failing, fail_at, tran_begun, op_taken, tran_of, with_tran, tran_ended}

pub record Says (e : Draft) (names : List (List ℕ)) (failed failing playing raised now : List ℕ) : Type 0 where
  pub names_say : names_so_far e ≡ names
  pub failed_say : members_failed e ≡ failed
  pub failing_say : members_failing e ≡ failing
  pub playing_say : members_playing e ≡ playing
  pub raised_say : flags_raised_by_others e ≡ raised
  pub now_say : flags_raised_now e ≡ now

-- ---- lists with one more

pub push_flat : {A B : Type 0} (f : A → List B) (xs : List A) (x : A) → flat_map f (xs ++ x ∷ []) ≡ flat_map f xs ++ f x
push_flat f xs x = flat_map-append f xs (x ∷ []) ∙ ap (λ ys. flat_map f xs ++ ys) (append-nil (f x))

abbrev name_of : Placed → List ℕ
name_of p = p.1.name

abbrev names_in : List Phase → List (List ℕ)
names_in ps = map name_of (flat_map placed_phase ps)

abbrev names_of_parts : List Part → List (List ℕ)
names_of_parts ps = map name_of (flat_map placed_part ps)

map_appended : {A B : Type 0} (f : A → B) (xs ys : List A) → map f (xs ++ ys) ≡ map f xs ++ map f ys
map_appended f [] ys = refl
map_appended f (x ∷ xs) ys = ap (λ zs. f x ∷ zs) (map_appended f xs ys)

pub names_form : (phases : List Phase) (g : ℕ) (parts : List Part) → names_in (phases ++ phase_with g parts ∷ []) ≡ names_in phases ++ names_of_parts parts
names_form phases g parts = ap (map name_of) (push_flat placed_phase phases (phase_with g parts)) ∙ map_appended name_of (flat_map placed_phase phases) (flat_map placed_part parts)

names_push : (parts : List Part) (x : Part) → names_of_parts (parts ++ x ∷ []) ≡ names_of_parts parts ++ map name_of (placed_part x)
names_push parts x = ap (map name_of) (push_flat placed_part parts x) ∙ map_appended name_of (flat_map placed_part parts) (placed_part x)

-- the names with a last part that is x
names_last : (phases : List Phase) (g : ℕ) (parts : List Part) (x : Part) → names_in (phases ++ phase_with g (parts ++ x ∷ []) ∷ []) ≡ names_in phases ++ (names_of_parts parts ++ map name_of (placed_part x))
names_last phases g parts x = names_form phases g (parts ++ x ∷ []) ∙ ap (λ ns. names_in phases ++ ns) (names_push parts x)

-- x and y have the same transactions
same_names : (phases : List Phase) (g h : ℕ) (parts : List Part) (x y : Part) → map name_of (placed_part x) ≡ map name_of (placed_part y) → names_in (phases ++ phase_with g (parts ++ x ∷ []) ∷ []) ≡ names_in (phases ++ phase_with h (parts ++ y ∷ []) ∷ [])
same_names phases g h parts x y e =
    names_last phases g parts x ∙ ap (λ ns. names_in phases ++ (names_of_parts parts ++ ns)) e ∙ sym (names_last phases h parts y)

-- a last part without transactions
names_idle : (phases : List Phase) (g : ℕ) (parts : List Part) (x : Part) → x.trans ≡ [] → names_in (phases ++ phase_with g (parts ++ x ∷ []) ∷ []) ≡ names_in (phases ++ phase_with g parts ∷ [])
names_idle phases g parts x e =
    names_last phases g parts x
    ∙ ap (λ (ts : List Tran). names_in phases ++ (names_of_parts parts ++ map name_of (map (λ (t : Tran). let it : Placed = (x.member, t) in it) ts))) e
    ∙ ap (λ ns. names_in phases ++ ns) (append-nil (names_of_parts parts)) ∙ sym (names_form phases g parts)

same_push : {A B : Type 0} (f : A → List B) (xs : List A) (x y : A) → f x ≡ f y → flat_map f (xs ++ x ∷ []) ≡ flat_map f (xs ++ y ∷ [])
same_push f xs x y e = push_flat f xs x ∙ ap (λ ys. flat_map f xs ++ ys) e ∙ sym (push_flat f xs y)

none_push : {A B : Type 0} (f : A → List B) (xs : List A) (x : A) → f x ≡ [] → flat_map f (xs ++ x ∷ []) ≡ flat_map f xs
none_push f xs x e = push_flat f xs x ∙ ap (λ ys. flat_map f xs ++ ys) e ∙ append-nil (flat_map f xs)

abbrev member_of : Part → ℕ
member_of p = p.member

abbrev fails_of : Part → List ℕ
fails_of p = failing_as p.member p.fail

-- ---- the steps

-- what the open phase lets fail is failed
pub closed_says : (phases : List Phase) (g c : ℕ) (p : Place) → IfOk (closed_at (draft_at phases g c p) p) (λ e. Says e (names_so_far (draft_at phases g c p)) (members_failed (draft_at phases g c p) ++ members_failing (draft_at phases g c p)) [] [] [] [] × (e.place ≡ place.Outside))
closed_says phases g c place.Outside = (record { names_say = refl; failed_say = sym (append-nil (flat_map phase_fails phases)); failing_say = refl; playing_say = refl; raised_say = refl; now_say = refl }, refl)
closed_says phases g c (place.Phase parts) = (
  record {
    names_say = ap (λ ps. names_in ps ++ []) (append-nil (phases ++ phase_with g parts ∷ []));
    failed_say = push_flat phase_fails phases (phase_with g parts);
    failing_say = refl;
    playing_say = refl;
    raised_say = refl;
    now_say = refl;
  },
  refl,
)
closed_says phases g c (place.Part parts part) = (
  record {
    names_say = ap (λ ps. names_in ps ++ []) (append-nil (phases ++ phase_with g (parts ++ part ∷ []) ∷ []));
    failed_say = push_flat phase_fails phases (phase_with g (parts ++ part ∷ []));
    failing_say = refl;
    playing_say = refl;
    raised_say = refl;
    now_say = refl;
  },
  refl,
)
closed_says phases g c (place.Tran parts part name wait ops) = tt

abbrev SaysSame : Draft → Draft → Type 0
SaysSame e d = Says e (names_so_far d) (members_failed d) (members_failing d) (members_playing d) (flags_raised_by_others d) (flags_raised_now d)

pub again_says : (phases : List Phase) (g c : ℕ) (p : Place) → p ≡ place.Outside → SaysSame (failed_again (draft_at phases g c p)) (draft_at phases g c p)
again_says phases g c place.Outside h = record { names_say = refl; failed_say = refl; failing_say = refl; playing_say = refl; raised_say = refl; now_say = refl }
again_says phases g c (place.Phase parts) h = cc
again_says phases g c (place.Part parts part) h = cc
again_says phases g c (place.Tran parts part name wait ops) h = cc

pub in_phase_says : (phases : List Phase) (g c : ℕ) (p : Place) → p ≡ place.Outside → SaysSame (in_phase (draft_at phases g c p)) (draft_at phases g c p)
in_phase_says phases g c place.Outside h = record {
  names_say = ap (λ ns. ns ++ []) (names_form phases g [] ∙ append-nil (names_in phases) ∙ ap names_in (sym (append-nil phases)));
  failed_say = refl;
  failing_say = refl;
  playing_say = refl;
  raised_say = refl;
  now_say = refl;
}
in_phase_says phases g c (place.Phase parts) h = cc
in_phase_says phases g c (place.Part parts part) h = cc
in_phase_says phases g c (place.Tran parts part name wait ops) h = cc

abbrev SaysMember : Draft → Draft → ℕ → Type 0
SaysMember e d m = Says e (names_so_far d) (members_failed d) (members_failing d) (members_playing d ++ m ∷ []) (flags_raised_by_others d) (flags_raised_now d)

begun_says : (phases : List Phase) (g c : ℕ) (parts : List Part) (m : ℕ) → SaysMember (draft_at phases g c (place.Part parts (part_of m))) (draft_at phases g c (place.Phase parts)) m
begun_says phases g c parts m = record {
  names_say = ap (λ ns. ns ++ []) (names_idle phases g parts (part_of m) refl);
  failed_say = refl;
  failing_say = none_push fails_of parts (part_of m) refl;
  playing_say = map_push member_of parts (part_of m);
  raised_say = none_push part_raises parts (part_of m) refl;
  now_say = refl;
}

pub part_begun_says : (phases : List Phase) (g c : ℕ) (p : Place) (m : ℕ) → IfOk (part_begun (draft_at phases g c p) p m) (λ e. SaysMember e (draft_at phases g c p) m)
part_begun_says phases g c place.Outside m = tt
part_begun_says phases g c (place.Phase parts) m = begun_says phases g c parts m
part_begun_says phases g c (place.Part parts part) m =
    let b = begun_says phases g c (parts ++ part ∷ []) m in
    record { names_say = b.names_say; failed_say = b.failed_say; failing_say = b.failing_say; playing_say = b.playing_say; raised_say = b.raised_say; now_say = b.now_say }
part_begun_says phases g c (place.Tran parts part name wait ops) m = tt

pub restarted_says : (phases : List Phase) (g c : ℕ) (p : Place) → IfOk (restarted_at (draft_at phases g c p) p) (λ e. SaysSame e (draft_at phases g c p))
restarted_says phases g c place.Outside = tt
restarted_says phases g c (place.Phase parts) = tt
restarted_says phases g c (place.Part parts part) = record {
  names_say = ap (λ ns. ns ++ []) (same_names phases g g parts (restarted part) part refl);
  failed_say = refl;
  failing_say = same_push fails_of parts (restarted part) part refl;
  playing_say = map_push member_of parts (restarted part) ∙ sym (map_push member_of parts part);
  raised_say = same_push part_raises parts (restarted part) part refl;
  now_say = refl;
}
restarted_says phases g c (place.Tran parts part name wait ops) = tt

-- a member fails, whether or not it did before
pub record SaysFails (e d : Draft) (m : ℕ) : Type 0 where
  pub names_say : names_so_far e ≡ names_so_far d
  pub failed_say : members_failed e ≡ members_failed d
  pub failing_say : (n : ℕ) → has_number (members_failing e) n ≡ (has_number (members_failing d) n || eqb m n)
  pub playing_say : members_playing e ≡ members_playing d
  pub raised_say : flags_raised_by_others e ≡ flags_raised_by_others d
  pub now_say : flags_raised_now e ≡ flags_raised_now d

or_false : (b : Bool) → (b || false) ≡ b
or_false true = refl
or_false false = refl

or_twice : (a b : Bool) → (a || b) ≡ ((a || b) || b)
or_twice true b = refl
or_twice false true = refl
or_twice false false = refl

pub has_more : (xs ys : List ℕ) (n : ℕ) → has_number (xs ++ ys) n ≡ (has_number xs n || has_number ys n)
has_more xs ys n = list_any-append (λ x. eqb x n) xs ys

pub has_pushed : (xs : List ℕ) (m n : ℕ) → has_number (xs ++ m ∷ []) n ≡ (has_number xs n || eqb m n)
has_pushed xs m n = has_more xs (m ∷ []) n ∙ ap (λ b. has_number xs n || b) (or_false (eqb m n))

fails_twice : (xs : List ℕ) (m n : ℕ) (o : Option FailAt) → has_number (xs ++ m ∷ []) n ≡ (has_number (xs ++ failing_as m o) n || eqb m n)
fails_twice xs m n None = has_pushed xs m n ∙ ap (λ ys. has_number ys n || eqb m n) (sym (append-nil xs))
fails_twice xs m n (Some at) = has_pushed xs m n ∙ or_twice (has_number xs n) (eqb m n) ∙ ap (λ b. b || eqb m n) (sym (has_pushed xs m n))

pub fail_says : (phases : List Phase) (g c : ℕ) (p : Place) (at : FailAt) (m : ℕ) → member_at p ≡ Some m → IfOk (fail_at (draft_at phases g c p) p at) (λ e. SaysFails e (draft_at phases g c p) m)
fail_says phases g c place.Outside at m h = tt
fail_says phases g c (place.Phase parts) at m h = tt
fail_says phases g c (place.Part parts part) at m h =
    let same : part.member ≡ m = cc in
    subst (λ (k : ℕ). SaysFails (draft_at phases g c (place.Part parts (failing at part))) (draft_at phases g c (place.Part parts part)) k) same (record {
      names_say = ap (λ ns. ns ++ []) (same_names phases g g parts (failing at part) part refl);
      failed_say = refl;
      failing_say = λ n.
          ap (λ xs. has_number xs n) (push_flat fails_of parts (failing at part))
          ∙ fails_twice (flat_map fails_of parts) part.member n part.fail
          ∙ ap (λ xs. has_number xs n || eqb part.member n) (sym (push_flat fails_of parts part));
      playing_say = map_push member_of parts (failing at part) ∙ sym (map_push member_of parts part);
      raised_say = same_push part_raises parts (failing at part) part refl;
      now_say = refl;
    })
fail_says phases g c (place.Tran parts part name wait ops) at m h = tt

pub tran_begun_says : (phases : List Phase) (g c : ℕ) (p : Place) (name : List ℕ) (wait : Bool) → IfOk (tran_begun (draft_at phases g c p) p name wait) (λ e. Says e (names_so_far (draft_at phases g c p) ++ name ∷ []) (members_failed (draft_at phases g c p)) (members_failing (draft_at phases g c p)) (members_playing (draft_at phases g c p)) (flags_raised_by_others (draft_at phases g c p)) (flags_raised_now (draft_at phases g c p)))
tran_begun_says phases g c place.Outside name wait = tt
tran_begun_says phases g c (place.Phase parts) name wait = tt
tran_begun_says phases g c (place.Part parts part) name wait = record {
  names_say = ap (λ ns. ns ++ name ∷ []) (sym (append-nil (names_in (phases ++ phase_with g (parts ++ part ∷ []) ∷ []))));
  failed_say = refl;
  failing_say = refl;
  playing_say = refl;
  raised_say = refl;
  now_say = refl;
}
tran_begun_says phases g c (place.Tran parts part n w ops) name wait = tt

pub op_taken_says : (phases : List Phase) (g c : ℕ) (p : Place) (o : Op) → IfOk (op_taken (draft_at phases g c p) p o) (λ e. Says e (names_so_far (draft_at phases g c p)) (members_failed (draft_at phases g c p)) (members_failing (draft_at phases g c p)) (members_playing (draft_at phases g c p)) (flags_raised_by_others (draft_at phases g c p)) (flags_raised_now (draft_at phases g c p) ++ flag_raised o))
op_taken_says phases g c place.Outside o = tt
op_taken_says phases g c (place.Phase parts) o = tt
op_taken_says phases g c (place.Part parts part) o = tt
op_taken_says phases g c (place.Tran parts part name wait ops) o = record {
  names_say = refl;
  failed_say = refl;
  failing_say = refl;
  playing_say = refl;
  raised_say = refl;
  now_say = push_flat flag_raised ops o;
}

abbrev raises_of : Tran → List ℕ
raises_of t = flags_raised t.ops

names_with : (m : ℕ) (ts : List Tran) (t : Tran) → map name_of (map (λ (u : Tran). let it : Placed = (m, u) in it) (ts ++ t ∷ [])) ≡ map name_of (map (λ (u : Tran). let it : Placed = (m, u) in it) ts) ++ t.name ∷ []
names_with m [] t = refl
names_with m (u ∷ ts) t = ap (λ ns. u.name ∷ ns) (names_with m ts t)

pub tran_ended_says : (phases : List Phase) (g c : ℕ) (p : Place) → IfOk (tran_ended (draft_at phases g c p) p) (λ e. Says e (names_so_far (draft_at phases g c p)) (members_failed (draft_at phases g c p)) (members_failing (draft_at phases g c p)) (members_playing (draft_at phases g c p)) (flags_raised_by_others (draft_at phases g c p) ++ flags_raised_now (draft_at phases g c p)) [])
tran_ended_says phases g c place.Outside = tt
tran_ended_says phases g c (place.Phase parts) = tt
tran_ended_says phases g c (place.Part parts part) = tt
tran_ended_says phases g c (place.Tran parts part name wait ops) =
    let t = tran_of name c wait ops in
    let x = with_tran part (tran_of name c wait ops) in
    record {
      names_say =
          append-nil (names_in (phases ++ phase_with g (parts ++ with_tran part (tran_of name c wait ops) ∷ []) ∷ []))
          ∙ names_last phases g parts (with_tran part (tran_of name c wait ops))
          ∙ ap (λ ns. names_in phases ++ (names_of_parts parts ++ ns)) (names_with part.member part.trans (tran_of name c wait ops))
          ∙ ap (λ ns. names_in phases ++ ns) (sym (append_assoc (names_of_parts parts) (map name_of (placed_part part)) (name ∷ [])))
          ∙ sym (append_assoc (names_in phases) (names_of_parts parts ++ map name_of (placed_part part)) (name ∷ []))
          ∙ ap (λ ns. ns ++ name ∷ []) (sym (names_last phases g parts part));
      failed_say = refl;
      failing_say = same_push fails_of parts (with_tran part (tran_of name c wait ops)) part refl;
      playing_say = map_push member_of parts (with_tran part (tran_of name c wait ops)) ∙ sym (map_push member_of parts part);
      raised_say =
          push_flat part_raises parts (with_tran part (tran_of name c wait ops))
          ∙ ap (λ fs. flat_map part_raises parts ++ fs) (push_flat raises_of part.trans (tran_of name c wait ops))
          ∙ sym (append_assoc (flat_map part_raises parts) (part_raises part) (flags_raised ops))
          ∙ ap (λ fs. fs ++ flags_raised ops) (sym (push_flat part_raises parts part));
      now_say = refl;
    }
