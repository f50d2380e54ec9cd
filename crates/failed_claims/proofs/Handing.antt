-- How the claims of one slot after the other are handed over.
use Rattle.std.proofs.Common.{◌≡◌, ℕ, zero, suc, ◌+◌, ◌≤◌, refl, sym, ◌∙◌, ap, subst, arith, Bool, true, false, inl, inr, List, [], ◌∷◌, Option, Some, None}
use Rattle.std.specs.Prelude.{◌≢◌, ◌⊎◌, ◌==◌, ◌&&◌, nat_le, nat_lt, if◌then◌else◌}
use Rattle.std.proofs.lemmas.Bool.{and_parts, eq-eqb, eqb-false, eqb-true, leb-false, leb-true, ltb-true, ne_eqb}
use Rattle.ds_model.specs.Rows.{Spot}
use Rattle.lock_names.specs.declared.mode.Mode.{Mode}
use Rattle.lock_names.specs.declared.mode.Mode.TheVariants.{IX, X}
use Rattle.lock_names.specs.Modes.{is_recorded, join_of}
use Rattle.lock_protocol.specs.Machine.{Covers, World, given_up, handed_on, retained_claim}
use Rattle.lock_protocol.specs.Moves.{GiveUp, Postpone}
use Rattle.lock_world.specs.Books.{IsBook}
use Rattle.lock_world.specs.Rollbacks.{row_of, space_of}
use Rattle.lock_world.specs.Views.{claim_in, rollback_owner}
use Rattle.member_trans.specs.declared.fate.Owner.{Owner}
use Rattle.member_trans.specs.declared.fate.Owner.TheVariants as owner
use Rattle.member_marks.specs.Claims.{is_agent}
use Rattle.member_marks.specs.State.{MarksState, agents_of, slot_tran, tran_of}
use Rattle.log_numbers.specs.Numbers.{AreCounted, NamesApart, RollbacksNamed}
use Rattle.strict_locking.specs.Rows.{HasLocked, IsTaken, name_of, number_of}
use Rattle.failed_claims.specs.Failing.{HandedOver, HandsOver, HoldsRow, IsLeft}

-- ---- what a failure leaves of a claim
recorded_row : (c : Mode) → join_of c X ≡ c → is_recorded c ≡ true
unfolding join_of is_recorded
recorded_row c e = grind arith

recorded_space : (c : Mode) → join_of c IX ≡ c → is_recorded c ≡ true
unfolding join_of is_recorded
recorded_space c e = grind arith

kept_as : (c m : Mode) → join_of c m ≡ c → (b : Bool) → is_recorded c ≡ b → b ≡ true → Covers (if b then Some c else None) m
kept_as c m e true is so = e
kept_as c m e false is so = absurd cc

pub left_row : (o : Option Mode) → Covers o X → Covers (retained_claim o) X
left_row None c = absurd c
left_row (Some x) c = kept_as x X c (is_recorded x) refl (recorded_row x c)

pub left_space : (o : Option Mode) → Covers o IX → Covers (retained_claim o) IX
left_space None c = absurd c
left_space (Some x) c = kept_as x IX c (is_recorded x) refl (recorded_space x c)

-- ---- one slot
-- the claims of this owner are gone, and then the slot's are this owner's
abbrev handed : World → ℕ → ℕ → ℕ → World
handed w m a to = handed_on (given_up w m (λ o n. o == to)) m a to

same_self : (n : ℕ) → (n == n) ≡ true
same_self n = eq-eqb n n refl

gone_at : (w : World) (m to c : ℕ) → (given_up w m (λ o n. o == to)).claims m to c ≡ None
gone_at w m to c = ap (λ (b : Bool). if b && (to == to) then None else w.claims m to c) (same_self m) ∙ ap (λ (b : Bool). if b then None else w.claims m to c) (same_self to)

still_at : (w : World) (m to o c : ℕ) → o ≢ to → (given_up w m (λ o n. o == to)).claims m o c ≡ w.claims m o c
still_at w m to o c ne = ap (λ (b : Bool). if b && (o == to) then None else w.claims m o c) (same_self m) ∙ ap (λ (b : Bool). if b then None else w.claims m o c) (ne_eqb o to ne)

got_at : (w : World) (m a to c : ℕ) → a ≢ to → (handed w m a to).claims m to c ≡ w.claims m a c
got_at w m a to c ne =
    let g : World = given_up w m (λ o n. o == to) in
    ap (λ (b : Bool). if b && (to == to) then g.claims m a c else if b && (to == a) then None else g.claims m to c) (same_self m)
    ∙ (ap (λ (b : Bool). if b then g.claims m a c else if to == a then None else g.claims m to c) (same_self to) ∙ still_at w m to a c ne)

kept_at : (w : World) (m a to o c : ℕ) → o ≢ to → o ≢ a → (handed w m a to).claims m o c ≡ w.claims m o c
kept_at w m a to o c other own =
    let g : World = given_up w m (λ o n. o == to) in
    ap (λ (b : Bool). if b && (o == to) then g.claims m a c else if b && (o == a) then None else g.claims m o c) (same_self m)
    ∙ (ap (λ (b : Bool). if b then g.claims m a c else if o == a then None else g.claims m o c) (ne_eqb o to other)
    ∙ (ap (λ (b : Bool). if b then None else g.claims m o c) (ne_eqb o a own) ∙ still_at w m to o c other))

lost_at : (w : World) (m a to c : ℕ) → a ≢ to → (handed w m a to).claims m a c ≡ None
lost_at w m a to c ne =
    let g : World = given_up w m (λ o n. o == to) in
    ap (λ (b : Bool). if b && (a == to) then g.claims m a c else if b && (a == a) then None else g.claims m a c) (same_self m)
    ∙ (ap (λ (b : Bool). if b then g.claims m a c else if a == a then None else g.claims m a c) (ne_eqb a to ne) ∙ ap (λ (b : Bool). if b then None else g.claims m a c) (same_self a))

-- a name that no transaction claims
still_free : (w : World) (m a to c : ℕ) → a ≢ 0 → a ≢ to → ((q : ℕ) → q ≢ 0 → w.claims m q c ≡ None) → (q : ℕ) → q ≢ 0 → (handed w m a to).claims m q c ≡ None
still_free w m a to c some far none q other = at_to (q == to) refl
  where
    at_own : (b : Bool) → (q == a) ≡ b → q ≢ to → (handed w m a to).claims m q c ≡ None
    at_own true same ne = ap (λ (z : ℕ). (handed w m a to).claims m z c) (eqb-true q a same) ∙ lost_at w m a to c far
    at_own false differ ne = kept_at w m a to q c ne (eqb-false q a differ) ∙ none q other

    at_to : (b : Bool) → (q == to) ≡ b → (handed w m a to).claims m q c ≡ None
    at_to true same = ap (λ (z : ℕ). (handed w m a to).claims m z c) (eqb-true q to same) ∙ (got_at w m a to c far ∙ none a some)
    at_to false differ = at_own (q == a) refl (eqb-false q to differ)

others_at : (w : World) (m a to k o c : ℕ) → k ≢ m → (handed w m a to).claims k o c ≡ w.claims k o c
others_at w m a to k o c ne =
    let g : World = given_up w m (λ o n. o == to) in
    ap (λ (b : Bool). if b && (o == to) then g.claims m a c else if b && (o == a) then None else g.claims k o c) (ne_eqb k m ne)
    ∙ ap (λ (b : Bool). if b && (o == to) then None else w.claims k o c) (ne_eqb k m ne)

row_as : (w v : World) (m o q : ℕ) (spot : Spot) → ((c : ℕ) → v.claims m q c ≡ w.claims m o c) → HoldsRow w m o spot → HoldsRow v m q spot
row_as w v m o q spot same h = (subst (λ (z : Option Mode). Covers z IX) (sym (same (space_of spot))) h.0, subst (λ (z : Option Mode). Covers z X) (sym (same (row_of spot))) h.1)

-- ---- where the claims of an owner are, as long as the first so many slots are to be done
abbrev where_is : ℕ → Owner → ℕ → ℕ
where_is n (owner.Slot slot) id = if nat_le slot n then slot else rollback_owner id
where_is n (owner.Rollback k) id = rollback_owner id

abbrev Placed : ℕ → World → MarksState → Type 0
Placed n w s = (id : ℕ) (spot : Spot) → id ≢ 0 → (l : HasLocked s id spot) → HoldsRow w s.member (where_is n l.by id) spot

record Facts : Type 0 where
  apart : NamesApart
  named : RollbacksNamed

-- the transaction has the name
first_is : RollbacksNamed → (s : MarksState) (o : Owner) (id : ℕ) → IsTaken s o → name_of s o ≡ id → (tran_of s o).first ≡ id
first_is law s (owner.Slot slot) id taken named = named
first_is law s (owner.Rollback k) id taken named = law s k taken ∙ named

slot_apart : (a b : ℕ) → owner.Slot a ≡ owner.Slot b → a ≡ b
slot_apart a b e = cc

kinds_apart : (a b : ℕ) → owner.Slot a ≡ owner.Rollback b → ⊥
kinds_apart a b e = cc

not_far : (a f : ℕ) → a ≤ 16 → a ≢ rollback_owner f
not_far a f le e = absurd (let q = e in omega (arith, le, q))

owners_apart : (a f : ℕ) → a ≢ f → rollback_owner a ≢ rollback_owner f
owners_apart a f ne e = ne (let q = e in omega (arith, q))

module _ (facts : Facts) (s : MarksState) (counter : ℕ) (counted : AreCounted counter s) where
  -- no other owner has the name of this slot
  other_name : (a : ℕ) (o : Owner) (id : ℕ) → (slot_tran s a).first ≢ 0 → IsTaken s o → name_of s o ≡ id → (owner.Slot a ≡ o → ⊥) → id ≢ (slot_tran s a).first
  other_name a o id some taken named other e = other (facts.apart counter s (owner.Slot a) o counted some (sym e ∙ sym (first_is facts.named s o id taken named)))

  -- the slot behind the last of them is done
  one_done : (w : World) (n : ℕ) → suc n ≤ 16 → (slot_tran s (suc n)).first ≢ 0 → Placed (suc n) w s → Placed n (handed w s.member (suc n) (rollback_owner (slot_tran s (suc n)).first)) s
  one_done w n few named placed id spot some l = by l.by l.taken l.named (placed id spot some l)
    where
      to : ℕ
      to = rollback_owner (slot_tran s (suc n)).first

      next : World
      next = handed w s.member (suc n) to

      from_far : (q : ℕ) → q ≢ (slot_tran s (suc n)).first → HoldsRow w s.member (rollback_owner q) spot → HoldsRow next s.member (rollback_owner q) spot
      from_far q ne h = row_as w next s.member (rollback_owner q) (rollback_owner q) spot
          (λ c. kept_at w s.member (suc n) to (rollback_owner q) c (owners_apart q (slot_tran s (suc n)).first ne) (λ e. not_far (suc n) q few (sym e))) h

      from_slot : (slot : ℕ) → (slot_tran s slot).first ≡ id → (owner.Slot (suc n) ≡ owner.Slot slot → ⊥) → IsTaken s (owner.Slot slot) → (a b : Bool) → nat_le slot (suc n) ≡ a → nat_le slot n ≡ b → HoldsRow w s.member (if a then slot else rollback_owner id) spot
          → HoldsRow next s.member (if b then slot else rollback_owner id) spot
      from_slot slot is other taken true true low under h =
          let le : slot ≤ n = leb-true slot n under in
          row_as w next s.member slot slot spot (λ c. kept_at w s.member (suc n) to slot c (not_far slot (slot_tran s (suc n)).first (omega (arith, le, few))) (λ e. absurd (let q = e in omega (arith, le, q)))) h
      from_slot slot is other taken true false low above h =
          absurd (other (ap (λ (z : ℕ). owner.Slot z) (let le = leb-true slot (suc n) low in let gt = leb-false slot n above in omega (arith, le, gt))))
      from_slot slot is other taken false true high under h = absurd (let le = leb-true slot n under in let gt = leb-false slot (suc n) high in omega (arith, le, gt))
      from_slot slot is other taken false false high above h = from_far id (other_name (suc n) (owner.Slot slot) id named taken is other) h

      here : (b : Bool) → nat_le (suc n) n ≡ b → (a : Bool) → nat_le (suc n) (suc n) ≡ a → (slot_tran s (suc n)).first ≡ id → HoldsRow w s.member (if a then suc n else rollback_owner id) spot → HoldsRow next s.member (if b then suc n else rollback_owner id) spot
      here true high a low is h = absurd (let le = leb-true (suc n) n high in omega (arith, le))
      here false high false low is h = absurd (let gt = leb-false (suc n) (suc n) low in omega (arith, gt))
      here false high true low is h = subst (λ (z : ℕ). HoldsRow next s.member (rollback_owner z) spot) is
          (row_as w next s.member (suc n) to spot (λ c. got_at w s.member (suc n) to c (not_far (suc n) (slot_tran s (suc n)).first few)) h)

      by : (o : Owner) → IsTaken s o → name_of s o ≡ id → HoldsRow w s.member (where_is (suc n) o id) spot → HoldsRow next s.member (where_is n o id) spot
      by (owner.Rollback k) taken is h = from_far id (other_name (suc n) (owner.Rollback k) id named taken is (kinds_apart (suc n) k)) h
      by (owner.Slot slot) taken is h = split (slot == suc n) refl
        where
          split : (b : Bool) → (slot == suc n) ≡ b → HoldsRow next s.member (where_is n (owner.Slot slot) id) spot
          split true e =
              let same : slot ≡ suc n = eqb-true slot (suc n) e in
              subst (λ (z : ℕ). HoldsRow next s.member (where_is n (owner.Slot z) id) spot) (sym same)
              (here (nat_le (suc n) n) refl (nat_le (suc n) (suc n)) refl (sym (ap (λ (z : ℕ). (slot_tran s z).first) same) ∙ is) (subst (λ (z : ℕ). HoldsRow w s.member (where_is (suc n) (owner.Slot z) id) spot) same h))
          split false e = from_slot slot is (λ q. eqb-false slot (suc n) e (sym (slot_apart (suc n) slot q))) taken (nat_le slot (suc n)) (nat_le slot n) refl refl h

  -- a slot whose transaction has no name has changed nothing
  none_done : (w : World) (n : ℕ) → (slot_tran s (suc n)).first ≡ 0 → Placed (suc n) w s → Placed n w s
  none_done w n none placed id spot some l = by l.by l.named (placed id spot some l)
    where
      under : (slot : ℕ) → (slot ≡ suc n → ⊥) → (a b : Bool) → nat_le slot (suc n) ≡ a → nat_le slot n ≡ b → HoldsRow w s.member (if a then slot else rollback_owner id) spot → HoldsRow w s.member (if b then slot else rollback_owner id) spot
      under slot other true true low le h = h
      under slot other true false low gt h = absurd (other (let le = leb-true slot (suc n) low in let q = leb-false slot n gt in omega (arith, le, q)))
      under slot other false true high le h = absurd (let q = leb-true slot n le in let gt = leb-false slot (suc n) high in omega (arith, q, gt))
      under slot other false false high gt h = h

      by : (o : Owner) → name_of s o ≡ id → HoldsRow w s.member (where_is (suc n) o id) spot → HoldsRow w s.member (where_is n o id) spot
      by (owner.Rollback k) is h = h
      by (owner.Slot slot) is h = under slot (λ e. some (sym is ∙ (ap (λ (z : ℕ). (slot_tran s z).first) e ∙ none))) (nat_le slot (suc n)) (nat_le slot n) refl refl h

  -- ---- all slots up to this one
  none_left : (slot id : ℕ) (spot : Spot) (w : World) → IsTaken s (owner.Slot slot) → (b : Bool) → nat_le slot 0 ≡ b → HoldsRow w s.member (if b then slot else rollback_owner id) spot → HoldsRow w s.member (rollback_owner id) spot
  none_left slot id spot w taken true le q = absurd (let a = leb-true slot 0 le in let p = ltb-true 0 slot (and_parts (nat_lt 0 slot) (nat_le slot (agents_of s)) taken.0).0 in omega (arith, a, p))
  none_left slot id spot w taken false gt q = q

  all_done : (id : ℕ) (spot : Spot) (w : World) (o : Owner) → IsTaken s o → HoldsRow w s.member (where_is 0 o id) spot → HoldsRow w s.member (rollback_owner id) spot
  all_done id spot w (owner.Rollback k) taken h = h
  all_done id spot w (owner.Slot slot) taken h = none_left slot id spot w taken (nat_le slot 0) refl h

  hand_over : (entry : ℕ → ℕ) (n : ℕ) (w : World) → n ≤ 16 → Placed n w s → HandedOver entry w s
  hand_over entry zero w few placed = record { moves = []; own = tt; world = w; run = refl; same = refl; others = λ k o c ne. refl; free = λ o c ne none. none o ne; rows = λ id spot some l. all_done id spot w l.by l.taken (placed id spot some l) }
  hand_over entry (suc n) w few placed = by (hand_over entry n) ((slot_tran s (suc n)).first == 0) refl
    where
      less : n ≤ 16
      less = omega (arith, few)

      to : ℕ
      to = rollback_owner (slot_tran s (suc n)).first

      free : World
      free = given_up w s.member (λ o c. o == to)

      next : World
      next = handed w s.member (suc n) to

      by : ((v : World) → n ≤ 16 → Placed n v s → HandedOver entry v s) → (b : Bool) → ((slot_tran s (suc n)).first == 0) ≡ b → HandedOver entry w s
      by go_on true none = go_on w less (none_done w n (eqb-true (slot_tran s (suc n)).first 0 none) placed)
      by go_on false named =
          let rest : HandedOver entry next s = go_on next less (one_done w n few (eqb-false (slot_tran s (suc n)).first 0 named) placed) in
          record {
            moves = GiveUp s.member (λ o c. o == to) ∷ Postpone s.member (suc n) to ∷ rest.moves;
            own = (refl, (refl, rest.own));
            world = rest.world;
            run = (free, refl, (next, (not_far (suc n) (slot_tran s (suc n)).first few, λ c. gone_at w s.member to c, refl), rest.run));
            same = rest.same;
            others = λ k o c ne. rest.others k o c ne ∙ others_at w s.member (suc n) to k o c ne;
            free = λ o c ne none. rest.free o c ne (still_free w s.member (suc n) to c (λ e. absurd (let q = e in omega (arith, q))) (not_far (suc n) (slot_tran s (suc n)).first few) none);
            rows = rest.rows;
          }

  -- ---- so it begins
  begins : (w : World) (n : ℕ) → n ≡ agents_of s → IsLeft w s → Placed n w s
  begins w n all left id spot some l = by l.by l.taken l.named l.space l.row
    where
      held : (o : ℕ) → Covers (claim_in s.locks o (space_of spot)) IX → Covers (claim_in s.locks o (row_of spot)) X → HoldsRow w s.member o spot
      held o space row = (subst (λ (z : Option Mode). Covers z IX) (sym (left o (space_of spot))) (left_space (claim_in s.locks o (space_of spot)) space), subst (λ (z : Option Mode). Covers z X) (sym (left o (row_of spot))) (left_row (claim_in s.locks o (row_of spot)) row))

      by : (o : Owner) → IsTaken s o → name_of s o ≡ id → Covers (claim_in s.locks (number_of o) (space_of spot)) IX → Covers (claim_in s.locks (number_of o) (row_of spot)) X → HoldsRow w s.member (where_is n o id) spot
      by (owner.Rollback k) taken is space row = subst (λ (z : ℕ). HoldsRow w s.member (rollback_owner z) spot) is (held (rollback_owner k) space row)
      by (owner.Slot slot) taken is space row = subst (λ (b : Bool). HoldsRow w s.member (if b then slot else rollback_owner id) spot)
          (sym (ap (λ (z : ℕ). nat_le slot z) all ∙ (and_parts (nat_lt 0 slot) (nat_le slot (agents_of s)) taken.0).1)) (held slot space row)

pub hands_over : NamesApart → RollbacksNamed → HandsOver
hands_over apart named entry w s counter counted book left =
    let facts : Facts = record { apart = apart; named = named } in
    hand_over facts s counter counted entry (agents_of s) w book.few (begins facts s counter counted w (agents_of s) refl left)
