-- Rows in pages.
use Rattle.std.proofs.Common.{◌≡◌, ℕ, zero, suc, ◌+◌, ◌-◌, ◌<◌, ◌≤◌, sym, ap, ◌∙◌, arith, true, false, inl, inr, ◌⊎◌, Option, Some, None}
use Rattle.std.specs.Prelude.{◌≢◌}
use Rattle.std.proofs.lemmas.Bool.{cases_eq, cases_Bool, both_ways}
use Rattle.page_protocol.specs.Page.{Page, Group, Up, change, write, write_direct, rebuild, fail, given_up}
use Rattle.page_protocol.specs.Moves.{IsCut}
use Rattle.page_protocol.specs.Coherent.{Coherent}
use Rattle.page_protocol.specs.Words.{IsUsable}
use Rattle.page_protocol.specs.Rows.{Tags, value_at, Claims, Changes, AreSound, AreClaimed, ReadsLastValue, tagged, KeepsClaimed}
use Rattle.page_protocol.proofs.LinkRuns.{clean_whole, last_of_sole}

-- where no change from v on is of the row
same_value : (t : Tags) (r v d : ℕ) → ((i : ℕ) → v ≤ i → i < v + d → t.row i ≢ r) → value_at t (d + v) r ≡ value_at t v r
same_value t r v d other = go d other
  where
    go : (d : ℕ) → ((i : ℕ) → v ≤ i → i < v + d → t.row i ≢ r) → value_at t (d + v) r ≡ value_at t v r
    go zero o = ap (λ n. value_at t n r) (omega arith)
    go (suc d) o =
        let e : suc d + v ≡ suc (d + v) = omega arith in
        let ne = o (d + v) (omega arith) (omega arith) in
        let ih = go d (λ i a b. o i a (omega arith)) in
        ap (λ n. value_at t n r) e ∙ grind (arith, ne, ih)

-- a frame that may be used has the last version or the shared one, and of an own page the last
version_of : (g : Group) (p : Page) (m : ℕ) → Coherent g p → g.status m ≡ Up → IsUsable g p m → ((p.frame m).version ≡ p.last) ⊎ (((p.frame m).version ≡ p.shared) × (p.owner ≡ Some m → p.shared ≡ p.last))
version_of g p m s up may = elim (cases_Bool (p.frame m).marked) [
  | inl h ↦ inl (s.marked_last m h)
  | inr h ↦ elim may.1 [
    | inl bit ↦ inr (s.valid m may.0 bit h, λ own. clean_whole g p m s own up h)
    | inr sole ↦ inr (s.sole_valid m sole.0 sole.1 up may.0 h, λ own. clean_whole g p m s own up h)
  ]
]

-- no change beyond the shared version is of a row that another transaction claims
not_mine : (g : Group) (p : Page) (tags : Tags) (home : ℕ → ℕ) (claims : Claims) (t r m i : ℕ) → Coherent g p → AreClaimed p tags home claims → AreSound claims → home t ≡ m → claims t r ≢ None → (p.owner ≡ Some m → p.shared ≡ p.last) → p.sole ≡ false → p.shared ≤ i → i < p.last → tags.row i ≢ r
not_mine g p tags home claims t r m i s u alone at has whole part low high e =
    let c : claims (tags.tran i) r ≡ Some Changes = ap (claims (tags.tran i)) (sym e) ∙ u.claimed i part low high in
    elim (cases_eq (tags.tran i) t) [
      | inl same ↦ let own : p.owner ≡ Some m = s.own i low high ∙ ap Some (sym (u.at_home i low high) ∙ ap home same ∙ at) in let w = whole own in absurd (omega (arith, w, low, high))
      | inr ne ↦ has (alone (tags.tran i) t r ne c)
    ]

reads_part : (g : Group) (p : Page) (tags : Tags) (home : ℕ → ℕ) (claims : Claims) (t r m : ℕ) → Coherent g p → AreClaimed p tags home claims → AreSound claims
    → home t ≡ m → g.status m ≡ Up → IsUsable g p m → claims t r ≢ None → p.sole ≡ false → value_at tags (p.frame m).version r ≡ value_at tags p.last r
reads_part g p tags home claims t r m s u alone at up may has part = elim (version_of g p m s up may) [
  | inl e ↦ ap (λ n. value_at tags n r) e
  | inr e ↦ ap (λ n. value_at tags n r) e.0 ∙ sym (ap (λ n. value_at tags n r) (omega (arith, s.within)) ∙ same_value tags r p.shared (p.last - p.shared) (λ i a b. not_mine g p tags home claims t r m i s u alone at has e.1 part a (omega (arith, s.within, b))))
]

pub reads_last : ReadsLastValue
reads_last g p tags home claims t r m s u alone at up may has = elim (cases_Bool p.sole) [
  | inl sole ↦ ap (λ n. value_at tags n r) (last_of_sole g p m s up may sole)
  | inr part ↦ reads_part g p tags home claims t r m s u alone at up may has part
]

change_claimed : (g : Group) (p : Page) (tags : Tags) (home : ℕ → ℕ) (claims : Claims) (t r m at number : ℕ) (v : Option ℕ) → Coherent g p → AreClaimed p tags home claims → home t ≡ m → claims t r ≡ Some Changes → AreClaimed (change p m at number) (tagged tags p.last r v t) home claims
change_claimed g p tags home claims t r m at number v s u h c = grind arith

write_claimed : (g : Group) (p : Page) (tags : Tags) (home : ℕ → ℕ) (claims : Claims) (m : ℕ) → Coherent g p → (p.frame m).marked ≡ true → AreClaimed (write p m) tags home claims
write_claimed g p tags home claims m s marked = grind arith

direct_claimed : (g : Group) (p : Page) (tags : Tags) (home : ℕ → ℕ) (claims : Claims) (m : ℕ) → Coherent g p → (p.frame m).marked ≡ true → AreClaimed (write_direct p m) tags home claims
direct_claimed g p tags home claims m s marked = grind arith

rebuild_claimed : (p : Page) (tags : Tags) (home : ℕ → ℕ) (claims : Claims) (n : ℕ) → p.shared ≤ n → AreClaimed p tags home claims → AreClaimed (rebuild p n) tags home claims
rebuild_claimed p tags home claims n high u = grind (arith, high)

fail_claimed : (g : Group) (p : Page) (tags : Tags) (home : ℕ → ℕ) (claims : Claims) (m n : ℕ) → IsCut g m p n → AreClaimed p tags home claims → AreClaimed (fail p m n) tags home claims
fail_claimed g p tags home claims m n cut u = grind arith

release_claimed : (g : Group) (p : Page) (tags : Tags) (home : ℕ → ℕ) (claims after : Claims) (t m : ℕ) → Coherent g p → AreClaimed p tags home claims → home t ≡ m → g.status m ≡ Up
    → ((i : ℕ) → i < p.last → tags.tran i ≡ t → ((p.frame m).marked ≡ false) ⊎ (p.sole ≡ true)) → ((u r : ℕ) → u ≢ t → after u r ≡ claims u r) → AreClaimed p tags home after
release_claimed g p tags home claims after t m s u at up clean same = record {
  claimed = λ i part a b. same (tags.tran i) (tags.row i) (λ e. ended i part a b e) ∙ u.claimed i part a b;
  at_home = u.at_home;
}
  where
    ended : (i : ℕ) → p.sole ≡ false → p.shared ≤ i → i < p.last → tags.tran i ≡ t → ⊥
    ended i part a b e = let h = u.at_home i a b in let o = s.own i a b in let own : p.owner ≡ Some m = o ∙ ap Some (sym h ∙ ap home e ∙ at) in let n = s.newest m own (omega arith) up in elim (clean i b e) [ inl c ↦ both_ways _ c n | inr sole ↦ both_ways _ part sole ]

give_claimed : (p : Page) (tags : Tags) (home : ℕ → ℕ) (claims : Claims) → p.shared ≡ p.last → AreClaimed (given_up p) tags home claims
give_claimed p tags home claims e = grind (arith, e)

pub keeps : KeepsClaimed
keeps = record { by_change = change_claimed; by_write = write_claimed; by_direct_write = direct_claimed; by_rebuild = rebuild_claimed; by_fail = fail_claimed; by_release = release_claimed; by_giving_up = give_claimed }
