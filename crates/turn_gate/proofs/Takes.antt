-- What a seat has once it is served, and while it has the slot.
use Rattle.std.proofs.Common.{◌≡◌, ℕ, ◌+◌, List, [], ◌∷◌, ◌++◌, Option, Some, None, map, length, length-append, get_or, sym, ap, ◌∙◌, subst}
use lib.ListN.{length-map}
use Rattle.atomic_table.specs.Table.{Me}
use Rattle.turn_gate.specs.declared.view.Knowledge.{Knowledge}
use Rattle.turn_gate.specs.declared.view.View.{View}
use Rattle.turn_gate.specs.declared.kept.Kept.{Kept}
use Rattle.turn_gate.specs.Known.{sees, AllSo}
use Rattle.turn_gate.specs.Ruled.{holder}
use Rattle.turn_gate.specs.Told.{Good, ended_of}

abbrev opened : {A : Type 0} → A → Option A → A
opened a None = a
opened a (Some b) = b

-- one slot has one value
pub one_value : {A : Type 0} (a b : A) → ◌≡◌ {A = List (ℕ × Option A)} ((0, Some a) ∷ []) ((0, Some b) ∷ []) → a ≡ b
one_value {A} a b e = ap (λ (l : List (ℕ × Option A)). opened a (get_or l 0 (0, Some a)).1) e

abbrev pub My : Type 0 → Type 0 → Type 0 → Type 0
My T B E = Me (Option (Kept T)) (View B E)

module _ {T B E : Type 0} where
  -- the seat that has the slot
  pub has_slot : (m : My T B E) (t : ℕ) (ks : List (Knowledge B E)) (l : List (ℕ × Option (Kept T))) → m ≡ (holder t ks, l) → m ≡ (holder m.0.ticket m.0.seats, l)
  has_slot m t ks l is = is ∙ (λ i. (holder (sym is i).0.ticket (sym is i).0.seats, l))

  module _ (event_of : E → ℕ) (start : T → B) (story : T → List E) (sound : T → Type 0) where
    -- one value has one journal
    pub functional : (y : Option (Kept T)) (b : B) (xs ys : List E) → Good event_of start story sound y b xs → Good event_of start story sound y b ys → xs ≡ ys
    functional None b xs ys h k = absurd h
    functional (Some x) b xs ys h k = sym h.1 ∙ k.1

    -- the journal's length, with one event more
    pub counted : (y : Kept T) (b : B) (seen : List E) (e : E) (n : ℕ) → Good event_of start story sound (Some y) b (seen ++ e ∷ []) → n ≡ length y.journal.items → n ≡ length seen + 1
    counted y b seen e n good is = is ∙ (ap length good.2 ∙ (length-map (seen ++ e ∷ []) event_of ∙ length-append seen (e ∷ [])))

    module _ (caller : E → ℕ) where
      -- What the seat has once it took the slot: ks is what it knew before
      abbrev pub Took : List (Knowledge B E) → My T B E → Type 0
      Took ks m =
          (b : B) × (log : List E) × (kept : Kept T) × (m ≡ (holder m.0.ticket m.0.seats, (0, Some kept) ∷ [])) × Good event_of start story sound (Some kept) b log × AllSo caller b log kept.ended ks
          × (m.0.seats ≡ map (sees log kept.ended) ks)

      pub taken : (before m m' : My T B E) (b : B) (log : List E) (y : Option (Kept T)) → m ≡ before → m.1 ≡ [] → Good event_of start story sound y b log → AllSo caller b log (ended_of y) m.0.seats
          → m' ≡ (holder m.0.ticket (map (sees log (ended_of y)) m.0.seats), (0, y) ∷ m.1) → Took before.0.seats m'
      taken before m m' b log None same free good all is = absurd good
      taken before m m' b log (Some kept) same free good all is =
          subst (λ (q : My T B E). Took q.0.seats m') same (
            b,
            log,
            kept,
            has_slot m' m.0.ticket _ _ (is ∙ ap (λ l. (holder m.0.ticket (map (sees log kept.ended) m.0.seats), (0, Some kept) ∷ l)) free),
            good,
            all,
            ap (λ (q : My T B E). q.0.seats) is,
          )

      -- the value that is in hand is the one that the seat took
      pub entered : (ks ls : List (Knowledge B E)) (m m' : My T B E) (value : Kept T) → ls ≡ ks → Took ls m → m.1 ≡ (0, Some value) ∷ [] → m'.0 ≡ m.0
          → (b : B) × (log : List E) × Good event_of start story sound (Some value) b log × AllSo caller b log value.ended ks × (m'.0.seats ≡ map (sees log value.ended) ks)
      entered ks ls m m' value same took slot still =
          let is : took.2 ≡ value = one_value took.2 value (sym (ap (λ (q : My T B E). q.1) took.3) ∙ slot) in
          let all = subst (λ (q : Kept T × List (Knowledge B E)). Good event_of start story sound (Some q.0) took.0 took.1 × AllSo caller took.0 took.1 q.0.ended q.1 × (m'.0.seats ≡ map (sees took.1 q.0.ended) q.1)) (λ i. (is i, same i))
          (took.4, took.5, ap (λ (v : View B E). v.seats) still ∙ took.6) in
          (took.0, took.1, all.0, all.1, all.2)
