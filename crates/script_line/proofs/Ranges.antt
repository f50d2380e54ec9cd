-- Tests of words, and what they say.
use Rattle.std.proofs.Common.{◌≡◌, ◌⊎◌, inl, inr, ℕ, ◌≤◌, nat_le, List, Option, None, Some, Ok, length, ◌∷◌, refl, ok_or}
use Rattle.std.specs.Bool.{Decides}
use Rattle.std.specs.List.{list_all}
use Rattle.std.specs.Option.{SomeIff}
use Rattle.std.proofs.lemmas.Bool.Decides.{Decides-and, Decides-or, Decides-like, Decides-eqb, Decides-by_and}
use Rattle.std.proofs.lemmas.Bool.{false_from_ne_true, leb-true, le-leb}
use Rattle.ds_base.specs.Values.{IsValueByte, IsValue}
use Rattle.ds_model.specs.declared.script.FaultKind.TheVariants as fault
use Rattle.ds_model.specs.Scripts.{IsNameByte, IsName}
use Rattle.script_line.specs.Words.{is_between, is_value, value_of, is_name_byte, is_name, name_in, value_in}

le_Decides : (m n : ℕ) → Decides (nat_le m n) (m ≤ n)
le_Decides m n = (leb-true m n, le-leb m n)

pub between_Decides : (least greatest n : ℕ) → Decides (is_between least greatest n) ((least ≤ n) × (n ≤ greatest))
between_Decides least greatest n = Decides-and _ _ (le_Decides least n) (le_Decides n greatest)

pub value_Decides : (bytes : List ℕ) → Decides (is_value bytes) (IsValue bytes)
value_Decides bytes = Decides-and _ _ (le_Decides (length bytes) 100) (Decides-by_and (is_between 0x21 0x7e) IsValueByte (list_all (is_between 0x21 0x7e)) (between_Decides 0x21 0x7e) refl (λ _ _. refl) bytes)

pub value_found : (bytes : List ℕ) (found : Option (List ℕ)) → SomeIff found (IsValue bytes) bytes → ok_or found fault.Value ≡ value_of bytes
value_found bytes None h = rw (false_from_ne_true (is_value bytes) (λ e. h ((value_Decides bytes).0 e))) refl
value_found bytes (Some v) h = rw ((value_Decides bytes).1 h.0, h.1) refl

name_byte_split : (b : ℕ) → ((((((48 ≤ b) × (b ≤ 57)) ⊎ ((65 ≤ b) × (b ≤ 90))) ⊎ ((97 ≤ b) × (b ≤ 122))) ⊎ (b ≡ 45)) ⊎ (b ≡ 95)) → IsNameByte b
name_byte_split b (inl (inl (inl (inl h)))) = inl h
name_byte_split b (inl (inl (inl (inr h)))) = inr (inl h)
name_byte_split b (inl (inl (inr h))) = inr (inr (inl h))
name_byte_split b (inl (inr h)) = inr (inr (inr (inl h)))
name_byte_split b (inr h) = inr (inr (inr (inr h)))

name_byte_joined : (b : ℕ) → IsNameByte b → ((((((48 ≤ b) × (b ≤ 57)) ⊎ ((65 ≤ b) × (b ≤ 90))) ⊎ ((97 ≤ b) × (b ≤ 122))) ⊎ (b ≡ 45)) ⊎ (b ≡ 95))
name_byte_joined b (inl h) = inl (inl (inl (inl h)))
name_byte_joined b (inr (inl h)) = inl (inl (inl (inr h)))
name_byte_joined b (inr (inr (inl h))) = inl (inl (inr h))
name_byte_joined b (inr (inr (inr (inl h)))) = inl (inr h)
name_byte_joined b (inr (inr (inr (inr h)))) = inr h

name_byte_Decides : (b : ℕ) → Decides (is_name_byte b) (IsNameByte b)
name_byte_Decides b = Decides-like (is_name_byte b) (name_byte_split b) (name_byte_joined b)
    (Decides-or _ _ (Decides-or _ _ (Decides-or _ _ (Decides-or _ _ (between_Decides 48 57 b) (between_Decides 65 90 b)) (between_Decides 97 122 b)) (Decides-eqb b 45)) (Decides-eqb b 95))

pub name_Decides : (name : List ℕ) → Decides (is_name name) (IsName name)
name_Decides name = Decides-like (is_name name) (λ h. (h.0.0, h.0.1, h.1)) (λ h. ((h.0, h.1), h.2))
    (Decides-and _ _ (between_Decides 1 16 (length name)) (Decides-by_and is_name_byte IsNameByte (list_all is_name_byte) name_byte_Decides refl (λ _ _. refl) name))

pub name_is : (name : List ℕ) → IsName name → name_in name ≡ Ok name
name_is name h = rw ((name_Decides name).1 h) refl

pub value_is : (value : List ℕ) → IsValue value → value_in (61 ∷ value) ≡ Ok value
value_is value h = rw ((value_Decides value).1 h) refl
