-- The lists of who waits, after pairs come and go.
use Rattle.std.proofs.Common.{◌≡◌, ◌<◌, ◌≤◌, get_or, take, ℕ, ◌+◌, Bool, true, false, cond, List, [], ◌∷◌, ◌++◌, refl, sym, ap, ◌∙◌, arith}
use Rattle.std.specs.Prelude.{◌&&◌, ◌||◌, not, Option, Some, None, length, nat_le, sum_by}
use Rattle.std.specs.Option.{option_map_or, option_map, unwrap_or}
use Rattle.std.specs.List.{list_any}
use Rattle.std.specs.Map.{lookup, remove_entry, values_of}
use Rattle.std.specs.BTreeMap.{BTreeMap, is_at, get}
use Rattle.std.specs.declared.vec.Vec.{Vec}
use Rattle.std.proofs.lemmas.List.Folds.{list_any-append, list_any_more}
use Rattle.std.proofs.lemmas.Map.Entries.{sum_by-remove_entry}
use Rattle.ds_base.specs.declared.names.TranId.{TranId}
use Rattle.list_structure.specs.declared.wait.Wait.{Wait}
use Rattle.deadlock_cycle.specs.Cycles.{same_tran, waits_for}
use Rattle.deadlock_cycle.specs.Waiting.{TranKey, key_cmp, key_of, waiters_of, is_waiting, is_pair_of, pairs_left}

-- equal keys are those of equal transactions
pub same_key : (a b : TranId) → is_at (key_cmp (key_of a)) (key_of b) ≡ same_tran a b
same_key a b = grind arith

pub same_is : (a b : TranId) → same_tran a b ≡ true → a ≡ b
same_is a b h =
    let m : a.member ≡ b.member = grind arith in
    let n : a.number ≡ b.number = grind arith in
    let P : ℕ → TranId = λ k. record { member = k; number = a.number } in
    let Q : ℕ → TranId = λ k. record { member = b.member; number = k } in
    ap P m ∙ ap Q n

pub same_self : (a : TranId) → same_tran a a ≡ true
same_self a = grind arith

and_not_true : (b : Bool) → false ≡ (b && not true)
and_not_true true = refl
and_not_true false = refl

and_not_false : (b : Bool) → b ≡ (b && not false)
and_not_false true = refl
and_not_false false = refl

one_more : (b s : Bool) → (b || (s || false)) ≡ (b || (s && true))
one_more true s = refl
one_more false true = refl
one_more false false = refl

no_more : (b s : Bool) → b ≡ (b || (s && false))
no_more true s = refl
no_more false true = refl
no_more false false = refl

module _ {A : Type 0} where
  -- the list of a holder
  abbrev pub held_by : List (TranKey × Vec TranId A) → TranId → List TranId
  held_by es b = option_map_or (λ v. v.items) (lookup (is_at (key_cmp (key_of b))) es) []

  gone : (s : Bool) (held : Option (Vec TranId A)) (a : TranId) → list_any (λ w. same_tran w a) (option_map_or (λ v. v.items) (cond s None held) []) ≡ (list_any (λ w. same_tran w a) (option_map_or (λ v. v.items) held []) && not s)
  gone true held a = and_not_true _
  gone false held a = and_not_false _

  -- the pairs of one holder are taken out
  pub taken : (old new : BTreeMap TranKey (Vec TranId A)) (h : TranId) → ((q : TranKey) → get key_cmp new q ≡ cond (is_at (key_cmp (key_of h)) q) None (get key_cmp old q)) → (a b : TranId) → is_waiting new a b ≡ (is_waiting old a b && not (same_tran h b))
  taken old new h updates a b =
      ap (λ o. list_any (λ w. same_tran w a) (option_map_or (λ v. v.items) o [])) (updates (key_of b))
      ∙ gone (is_at (key_cmp (key_of h)) (key_of b)) (get key_cmp old (key_of b)) a
      ∙ ap (λ s. is_waiting old a b && not s) (same_key h b)

  put : (s : Bool) (held : Option (Vec TranId A)) (list : Vec TranId A) (t a : TranId) → (s ≡ true → list.items ≡ option_map_or (λ v. v.items) held [] ++ t ∷ []) → list_any (λ w. same_tran w a) (option_map_or (λ v. v.items) (cond s (Some list) held) []) ≡ (list_any (λ w. same_tran w a) (option_map_or (λ v. v.items) held []) || (same_tran t a && s))
  put true held list t a items =
      ap (list_any (λ w. same_tran w a)) (items refl)
      ∙ list_any-append (λ w. same_tran w a) (option_map_or (λ v. v.items) held []) (t ∷ [])
      ∙ one_more _ (same_tran t a)
  put false held list t a items = no_more _ (same_tran t a)

  -- a list of entries with one pair more
  pub added : (old new : List (TranKey × Vec TranId A)) (w : Wait) (list : Vec TranId A) → ((q : TranKey) → lookup (is_at (key_cmp q)) new ≡ cond (is_at (key_cmp (key_of w.holder)) q) (Some list) (lookup (is_at (key_cmp q)) old)) → list.items ≡ held_by old w.holder ++ w.waiter ∷ [] → (a b : TranId) → list_any (λ t. same_tran t a) (held_by new b) ≡ (list_any (λ t. same_tran t a) (held_by old b) || is_pair_of w a b)
  added old new w list updates items a b =
      ap (λ o. list_any (λ t. same_tran t a) (option_map_or (λ v. v.items) o [])) (updates (key_of b))
      ∙ ap (λ s. list_any (λ t. same_tran t a) (option_map_or (λ v. v.items) (cond s (Some list) (lookup (is_at (key_cmp (key_of b))) old)) [])) (same_key w.holder b)
      ∙ put (same_tran w.holder b) (lookup (is_at (key_cmp (key_of b))) old) list w.waiter a
      (λ e. items ∙ ap (λ h. held_by old h ++ w.waiter ∷ []) (same_is w.holder b e))

  length_held : (held : Option (Vec TranId A)) → length (option_map_or (λ v. v.items) held []) ≡ unwrap_or (option_map (λ v. length v.items) held) 0
  length_held None = refl
  length_held (Some v) = refl

  -- the pairs that are left, and those of the holder
  pub fewer : (old new : BTreeMap TranKey (Vec TranId A)) (h : TranId) → new.entries ≡ remove_entry (is_at (key_cmp (key_of h))) old.entries → pairs_left new + length (waiters_of old h) ≡ pairs_left old
  fewer old new h entries =
      ap (λ es. sum_by (λ v. length v.items) (values_of es) + length (waiters_of old h)) entries
      ∙ ap (λ n. sum_by (λ v. length v.items) (values_of (remove_entry (is_at (key_cmp (key_of h))) old.entries)) + n) (length_held (get key_cmp old (key_of h)))
      ∙ sum_by-remove_entry (λ v. length v.items) (is_at (key_cmp (key_of h))) old.entries

-- a pair whose waiter may be taken
kept_more : (x p n : Bool) → (p ≡ true → n ≡ true) → ((x && n) || p) ≡ ((x || p) && n)
kept_more true true true h = refl
kept_more true true false h = sym (h refl)
kept_more true false true h = refl
kept_more true false false h = refl
kept_more false true n h = sym (h refl)
kept_more false false true h = refl
kept_more false false false h = refl

-- a pair whose waiter may not
left_out : (x p n : Bool) → (p ≡ true → n ≡ false) → (x && n) ≡ ((x || p) && n)
left_out true p n h = refl
left_out false true n h = sym (h refl)
left_out false false n h = refl

pub pair_below : (w : Wait) (a b : TranId) (top : ℕ) → w.waiter.number ≤ top → is_pair_of w a b ≡ true → nat_le a.number top ≡ true
pair_below w a b top h p = grind arith

pub pair_above : (w : Wait) (a b : TranId) (top : ℕ) → top < w.waiter.number → is_pair_of w a b ≡ true → nat_le a.number top ≡ false
pair_above w a b top h p = grind arith

module _ (waits : List Wait) (i : ℕ) (w : Wait) (a b : TranId) (top : ℕ) (l : i < length waits) (at : w ≡ get_or waits i w) where
  more : waits_for (take (i + 1) waits) a b ≡ (waits_for (take i waits) a b || is_pair_of w a b)
  more = list_any_more (λ v. is_pair_of v a b) waits i w l ∙ ap (λ v. waits_for (take i waits) a b || is_pair_of v a b) (sym at)

  pub take_pair : w.waiter.number ≤ top → ((waits_for (take i waits) a b && nat_le a.number top) || is_pair_of w a b) ≡ (waits_for (take (i + 1) waits) a b && nat_le a.number top)
  take_pair h = kept_more (waits_for (take i waits) a b) (is_pair_of w a b) (nat_le a.number top) (pair_below w a b top h) ∙ ap (λ s. s && nat_le a.number top) (sym more)

  pub leave_pair : top < w.waiter.number → (waits_for (take i waits) a b && nat_le a.number top) ≡ (waits_for (take (i + 1) waits) a b && nat_le a.number top)
  leave_pair h = left_out (waits_for (take i waits) a b) (is_pair_of w a b) (nat_le a.number top) (pair_above w a b top h) ∙ ap (λ s. s && nat_le a.number top) (sym more)
