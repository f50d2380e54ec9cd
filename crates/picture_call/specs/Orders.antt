-- What the words of a command line order.
use Rattle.std.specs.Prelude.{ℕ, ◌==◌, Bool, false, ◌&&◌, ◌||◌, if◌then◌else◌, nat_le, List, [], ◌∷◌, ◌++◌, map, Option, Some, None, option_and_then, option_map, is_none, unwrap_or, codes}
use Rattle.std.specs.Prelude.{String}
use Rattle.std.specs.Global.{Global}
use Rattle.std.specs.Str.{bytes_eq}
use Rattle.std.specs.String.{string_bytes}
use Rattle.number_text.specs.Numbers.{number_of}
use Rattle.run_picture.specs.declared.cut.Cut.{Cut}
use Rattle.ds_base.specs.declared.names.Sizes.{Sizes}
use Rattle.group_words.specs.Orders.{order_of as play_order_of}
use Rattle.group_words.specs.declared.order.Order.{Order as PlayOrder}
use Rattle.group_words.specs.declared.order.Order.TheVariants as plays
use Rattle.picture_call.specs.declared.order.Order.{Order}
use Rattle.picture_call.specs.declared.order.Order.TheVariants as orders

abbrev pub texts : List (String Global) → List (List ℕ)
texts words = map string_bytes words

abbrev pub whole : Cut
whole = record { from = None; to = None }

-- each option stands once
abbrev pub with_number : Cut → List ℕ → ℕ → Option Cut
with_number cut option n =
    if bytes_eq option (codes "--from") && is_none cut.from then Some (record { from = Some n; to = cut.to })
    else (if bytes_eq option (codes "--to") && is_none cut.to then Some (record { from = cut.from; to = Some n }) else None)

abbrev pub with_option : Cut → List ℕ → List ℕ → Option Cut
with_option cut option value = option_and_then (with_number cut option) (number_of value)

-- an option and its number in one word, which are cut at the first `=` (61)
abbrev pub with_parted : Cut → List ℕ → List ℕ → Option Cut
with_parted cut option [] = None
with_parted cut option (b ∷ bytes) = if b == 61 then with_option cut option bytes else with_parted cut (option ++ b ∷ []) bytes

abbrev pub with_joined : Cut → List ℕ → Option Cut
with_joined cut word = with_parted cut [] word

abbrev pub is_option : List ℕ → Bool
is_option word = bytes_eq word (codes "--from") || bytes_eq word (codes "--to")

-- ---- one option in two words or in one, or both

abbrev pub two_words : List ℕ → List ℕ → Option Cut
two_words a b = if is_option a then with_option whole a b else option_and_then (λ cut. with_joined cut b) (with_joined whole a)

abbrev pub three_words : List ℕ → List ℕ → List ℕ → Option Cut
three_words a b c = if is_option a then option_and_then (λ cut. with_joined cut c) (with_option whole a b) else option_and_then (λ cut. with_option cut b c) (with_joined whole a)

abbrev pub four_words : List ℕ → List ℕ → List ℕ → List ℕ → Option Cut
four_words a b c d = option_and_then (λ cut. with_option cut c d) (with_option whole a b)

abbrev pub cut_of : List (List ℕ) → Option Cut
cut_of [] = Some whole
cut_of (a ∷ []) = with_joined whole a
cut_of (a ∷ b ∷ []) = two_words a b
cut_of (a ∷ b ∷ c ∷ []) = three_words a b c
cut_of (a ∷ b ∷ c ∷ d ∷ []) = four_words a b c d
cut_of _ = None

abbrev pub is_in_order : Cut → Bool
is_in_order cut = nat_le 1 (unwrap_or cut.from 1) && nat_le (unwrap_or cut.from 1) (unwrap_or cut.to (unwrap_or cut.from 1))

abbrev pub drawn : Cut → Option Order
drawn cut = if is_in_order cut then Some (orders.Draw cut) else None

abbrev pub draw_order : List (List ℕ) → Option Order
draw_order words = option_and_then drawn (cut_of words)

-- the sizes of an order to play
abbrev pub sizes_of : PlayOrder → Option Sizes
sizes_of (plays.Play sizes seed trace) = Some sizes
sizes_of plays.Show = None
sizes_of (plays.Make n) = None
sizes_of (plays.Work n sizes) = None
sizes_of plays.Check = None
sizes_of (plays.Copy table) = None
sizes_of (plays.Recover table) = None

-- those that `play` takes from these options
abbrev pub sizes_in : List (List ℕ) → Option Sizes
sizes_in options = option_and_then sizes_of (play_order_of (codes "play" ∷ options))

abbrev pub is_why : List (List ℕ) → Bool
is_why [] = false
is_why (first ∷ []) = false
is_why (first ∷ name ∷ options) = bytes_eq first (codes "why")

abbrev pub options_in : List (List ℕ) → List (List ℕ)
options_in [] = []
options_in (first ∷ []) = []
options_in (first ∷ name ∷ options) = options

abbrev pub order_of : List (List ℕ) → Option Order
order_of words = if is_why words then option_map orders.Why (sizes_in (options_in words)) else draw_order words

-- the name behind `why`
abbrev pub name_in : List (List ℕ) → List ℕ
name_in (first ∷ name ∷ options) = name
name_in _ = []
