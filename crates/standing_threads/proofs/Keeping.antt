-- Each step keeps the rule of a lane.
use Rattle.std.proofs.Common.{◌≡◌, ℕ, zero, suc, List, [], ◌∷◌, ◌++◌, inl, inr, sym, refl, ap, ◌∙◌, subst}
use Rattle.std.specs.Prelude.{Option, Some, None, slice_set}
use mathlib.Core.Option.{some, some-injective, some-ne-none}
use lib.ListN.{get_elem?}
use Rattle.crossbeam_queue.specs.Fifo.{Pushes, Pops, Forks, Learns}
use Rattle.standing_threads.specs.declared.message.Message.{Message}
use Rattle.standing_threads.specs.declared.message.Message.TheVariants as said
use Rattle.standing_threads.specs.declared.message.Side.{Side}
use Rattle.standing_threads.specs.declared.message.Side.TheVariants as side
use Rattle.standing_threads.specs.Lanes.{sent, Meets, Follows, IsOut, MayWork, IsLane, IsBack}

module _ {T : Type 0} where
  -- the views of the two ends
  abbrev two : Option T → Option (Message T) → List (Side T)
  two out hand = side.Leads out ∷ side.Stands hand ∷ []

  whole_at : (port : ℕ) (v : Side T) → get_elem? (side.Both ∷ []) port ≡ some v → v ≡ side.Both
  whole_at zero v e = sym (some-injective side.Both v e)
  whole_at (suc k) v e = absurd (some-ne-none v (sym e))

  whole_first : (port : ℕ) (v : Side T) → get_elem? (side.Both ∷ []) port ≡ some v → port ≡ 0
  whole_first zero v e = refl
  whole_first (suc k) v e = absurd (some-ne-none v (sym e))

  -- where the view at a place is the leading end's, the place is the first
  lead_at : (out o : Option T) (hand : Option (Message T)) (port : ℕ) → get_elem? (two out hand) port ≡ some (side.Leads o) → (port ≡ 0) × (out ≡ o)
  lead_at out o hand zero e = let same : side.Leads out ≡ side.Leads o = some-injective (side.Leads out) (side.Leads o) e in (refl, cc)
  lead_at out o hand (suc zero) e = let same : side.Stands hand ≡ side.Leads o = some-injective (side.Stands hand) (side.Leads o) e in absurd (cc)
  lead_at out o hand (suc (suc k)) e = absurd (some-ne-none (side.Leads o) (sym e))

  -- where it is the standing end's, the place is the second
  post_at : (out : Option T) (hand h : Option (Message T)) (port : ℕ) → get_elem? (two out hand) port ≡ some (side.Stands h) → (port ≡ 1) × (hand ≡ h)
  post_at out hand h zero e = let same : side.Leads out ≡ side.Stands h = some-injective (side.Leads out) (side.Stands h) e in absurd (cc)
  post_at out hand h (suc zero) e = let same : side.Stands hand ≡ side.Stands h = some-injective (side.Stands hand) (side.Stands h) e in (refl, cc)
  post_at out hand h (suc (suc k)) e = absurd (some-ne-none (side.Stands h) (sym e))

  leads_not_whole : (o : Option T) → ¬ (side.Leads o ≡ side.Both)
  leads_not_whole o e = cc

  stands_not_whole : (h : Option (Message T)) → ¬ (side.Stands h ≡ side.Both)
  stands_not_whole h e = cc

  none_whole : (out : Option T) (hand : Option (Message T)) (port : ℕ) (v : Side T) → v ≡ side.Both → ¬ (get_elem? (two out hand) port ≡ some v)
  none_whole out hand zero v is e = leads_not_whole out (some-injective (side.Leads out) v e ∙ is)
  none_whole out hand (suc zero) v is e = stands_not_whole hand (some-injective (side.Stands hand) v e ∙ is)
  none_whole out hand (suc (suc k)) v is e = some-ne-none v (sym e)

module _ {T : Type 0} (ready : T → Type 0) (leaves : T → T → Type 0) where
  -- where there is an end, there are two
  ends : (items : List (Message T)) (views : List (Side T)) (port : ℕ) (v : Side T) → ¬ (v ≡ side.Both) → IsLane ready leaves items views → get_elem? views port ≡ some v
      → (out : Option T) × (hand : Option (Message T)) × (views ≡ two out hand) × IsOut ready leaves out items hand
  ends items views port v other (inl h) at = absurd (other (whole_at port v (subst (λ vs. get_elem? vs port ≡ some v) h.1 at)))
  ends items views port v other (inr h) at = h

  -- as the leading end sees it
  lead_sees : (items : List (Message T)) (views : List (Side T)) (port : ℕ) (o : Option T) → IsLane ready leaves items views → get_elem? views port ≡ some (side.Leads o)
      → (hand : Option (Message T)) × ((w : Side T) → slice_set views port w ≡ w ∷ side.Stands hand ∷ []) × IsOut ready leaves o items hand
  lead_sees items views port o h at =
      let s = ends items views port (side.Leads o) (leads_not_whole o) h at in
      let here = lead_at s.0 o s.1 port (subst (λ vs. get_elem? vs port ≡ some (side.Leads o)) s.2 at) in
      (s.1, (λ w i. slice_set (s.2 i) (here.0 i) w), subst (λ out. IsOut ready leaves out items s.1) here.1 s.3)

  -- as the standing end sees it
  post_sees : (items : List (Message T)) (views : List (Side T)) (port : ℕ) (hand : Option (Message T)) → IsLane ready leaves items views → get_elem? views port ≡ some (side.Stands hand)
      → (out : Option T) × ((w : Side T) → slice_set views port w ≡ side.Leads out ∷ w ∷ []) × IsOut ready leaves out items hand
  post_sees items views port hand h at =
      let s = ends items views port (side.Stands hand) (stands_not_whole hand) h at in
      let here = post_at s.0 s.1 hand port (subst (λ vs. get_elem? vs port ≡ some (side.Stands hand)) s.2 at) in
      (s.0, (λ w i. slice_set (s.2 i) (here.0 i) w), subst (λ x. IsOut ready leaves s.0 items x) here.1 s.3)

  sends_there : (n port : ℕ) (x : T) → ready x → Pushes (IsLane ready leaves) n port (side.Leads None) (said.ToDo x) (λ w. w ≡ side.Leads (Some x))
  sends_there n port x is_ready items views room h at =
      let s = lead_sees items views port None h at in
      let out : IsOut ready leaves (Some x) (items ++ said.ToDo x ∷ []) s.0 = (said.ToDo x, (refl, is_ready), inl (ap (λ l. l ++ said.ToDo x ∷ []) s.2.0, s.2.1)) in
      (side.Leads (Some x), inr (Some x, s.0, s.1 (side.Leads (Some x)), out), refl)

  -- a value is sent
  pub sends : (n port : ℕ) (v : Side T) (x : T) → v ≡ side.Leads None → ready x → Pushes (IsLane ready leaves) n port v (said.ToDo x) (λ w. w ≡ sent (said.ToDo x))
  sends n port v x is is_ready = subst (λ u. Pushes (IsLane ready leaves) n port u (said.ToDo x) (λ w. w ≡ side.Leads (Some x))) (sym is) (sends_there n port x is_ready)

  -- where nothing is out, the lane is empty
  pub sends_free : (port : ℕ) (v : Side T) → v ≡ side.Leads None → Learns (IsLane ready leaves) port v (λ items. items ≡ [])
  sends_free port v is items views h at = let s = lead_sees items views port None h (subst (λ u. get_elem? views port ≡ some u) is at) in s.2.0

  got_back : (x : T) (m : Message T) (items : List (Message T)) (hand : Option (Message T)) → IsOut ready leaves (Some x) (m ∷ items) hand → Meets ready leaves x m × IsOut ready leaves None items hand
  got_back x m items hand h = elim h.2 [
    | inl e ↦ let same : m ≡ h.0 = cc e.0 in let none : items ≡ [] = cc e.0 in (subst (Meets ready leaves x) (sym same) h.1, (none, e.1))
    | inr e ↦ absurd (cc e.0)
  ]

  gets_there : (port : ℕ) (x : T) → Pops (IsLane ready leaves) port (side.Leads (Some x)) (IsBack ready leaves (side.Leads (Some x)))
  gets_there port x m items views h at =
      let s = lead_sees (m ∷ items) views port (Some x) h at in
      let back = got_back x m items s.0 s.2 in
      (side.Leads None, inr (None, s.0, s.1 (side.Leads None), back.1), λ y is. (refl, let same : x ≡ y = cc is in subst (λ z. Meets ready leaves z m) same back.0))

  -- a value comes back
  pub gets : (port : ℕ) (v : Side T) (x : T) → v ≡ side.Leads (Some x) → Pops (IsLane ready leaves) port v (IsBack ready leaves v)
  gets port v x is = subst (λ u. Pops (IsLane ready leaves) port u (IsBack ready leaves u)) (sym is) (gets_there port x)

  may_work : (x : T) (m : Message T) → Meets ready leaves x m → MayWork ready m
  may_work x (said.ToDo z) h = h.1
  may_work x (said.Done y) h = tt

  taken : (out : Option T) (m : Message T) (items : List (Message T)) → IsOut ready leaves out (m ∷ items) None → IsOut ready leaves out items (Some m) × MayWork ready m
  taken None m items h = absurd (cc h.0)
  taken (Some x) m items h = elim h.2 [
    | inl e ↦ let same : m ≡ h.0 = cc e.0 in let none : items ≡ [] = cc e.0 in let meets = subst (Meets ready leaves x) (sym same) h.1 in ((m, meets, inr (none, refl)), may_work x m meets)
    | inr e ↦ absurd (cc e.0)
  ]

  takes_there : (port : ℕ) → Pops (IsLane ready leaves) port (side.Stands None) (λ m w. (w ≡ side.Stands (Some m)) × MayWork ready m)
  takes_there port m items views h at =
      let s = post_sees (m ∷ items) views port None h at in
      let out = taken s.0 m items s.2 in
      (side.Stands (Some m), inr (s.0, Some m, s.1 (side.Stands (Some m)), out.0), (refl, out.1))

  -- the standing thread takes a message
  pub takes : (port : ℕ) (v : Side T) → v ≡ side.Stands None → Pops (IsLane ready leaves) port v (λ m w. (w ≡ side.Stands (Some m)) × MayWork ready m)
  takes port v is = subst (λ u. Pops (IsLane ready leaves) port u (λ m w. (w ≡ side.Stands (Some m)) × MayWork ready m)) (sym is) (takes_there port)

  in_hand : (out : Option T) (items : List (Message T)) (m : Message T) → IsOut ready leaves out items (Some m) → items ≡ []
  in_hand None items m h = h.0
  in_hand (Some x) items m h = elim h.2 [
    | inl e ↦ absurd (cc e.1)
    | inr e ↦ e.0
  ]

  put_on : (out : Option T) (items : List (Message T)) (m n : Message T) → Follows ready leaves m n → IsOut ready leaves out items (Some m) → IsOut ready leaves out (items ++ n ∷ []) None
  put_on None items m n follows h = absurd (cc h.1)
  put_on (Some x) items m n follows h = elim h.2 [
    | inl e ↦ absurd (cc e.1)
    | inr e ↦ let same : h.0 ≡ m = cc e.1 in (n, follows x (subst (Meets ready leaves x) same h.1), inl (ap (λ l. l ++ n ∷ []) e.0, refl))
  ]

  puts_there : (k port : ℕ) (m n : Message T) → Follows ready leaves m n → Pushes (IsLane ready leaves) k port (side.Stands (Some m)) n (λ w. w ≡ side.Stands None)
  puts_there k port m n follows items views room h at =
      let s = post_sees items views port (Some m) h at in
      (side.Stands None, inr (s.0, None, s.1 (side.Stands None), put_on s.0 items m n follows s.2), refl)

  -- the standing thread sends a message on that stands for what it took
  pub puts : (k port : ℕ) (v : Side T) (m n : Message T) → v ≡ side.Stands (Some m) → Follows ready leaves m n → Pushes (IsLane ready leaves) k port v n (λ w. w ≡ side.Stands None)
  puts k port v m n is follows = subst (λ u. Pushes (IsLane ready leaves) k port u n (λ w. w ≡ side.Stands None)) (sym is) (puts_there k port m n follows)

  -- while it has one in hand, the lane is empty
  pub puts_free : (port : ℕ) (v : Side T) (m : Message T) → v ≡ side.Stands (Some m) → Learns (IsLane ready leaves) port v (λ items. items ≡ [])
  puts_free port v m is items views h at = let s = post_sees items views port (Some m) h (subst (λ u. get_elem? views port ≡ some u) is at) in in_hand s.0 items m s.2

  -- a lane begins empty
  pub begins : IsLane ready leaves [] (side.Both ∷ [])
  begins = inl (refl, refl)

  whole_sees : (items : List (Message T)) (views : List (Side T)) (port : ℕ) (v : Side T) → v ≡ side.Both → IsLane ready leaves items views → get_elem? views port ≡ some v → (items ≡ []) × (views ≡ side.Both ∷ []) × (port ≡ 0)
  whole_sees items views port v is (inl h) at = (h.0, h.1, whole_first port v (subst (λ vs. get_elem? vs port ≡ some v) h.1 at))
  whole_sees items views port v is (inr h) at = absurd (none_whole h.0 h.1 port v is (subst (λ vs. get_elem? vs port ≡ some v) h.2 at))

  -- the two ends are told apart
  pub forks : (port : ℕ) (v : Side T) → v ≡ side.Both → Forks (IsLane ready leaves) port v (side.Leads None) (side.Stands None)
  forks port v is items views h at =
      let s = whole_sees items views port v is h at in
      inr (None, None, (λ i. slice_set (s.1 i) (s.2 i) (side.Leads None) ++ side.Stands None ∷ []), (s.0, refl))
