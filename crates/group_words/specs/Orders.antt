-- What the words of a command line order.
use Rattle.std.specs.Prelude.{ℕ, ◌≤◌, Bool, false, nat_le, ◌&&◌, ◌||◌, ◌==◌, if◌then◌else◌, List, [], ◌∷◌, map, Option, Some, None, option_map, option_and_then, is_some, codes}
use Rattle.std.specs.Prelude.{String}
use Rattle.std.specs.Global.{Global}
use Rattle.std.specs.List.{list_all}
use Rattle.std.specs.Str.{bytes_eq}
use Rattle.std.specs.String.{string_bytes}
use Rattle.ds_base.specs.Ids.{IsMember}
use Rattle.ds_base.specs.declared.names.Sizes.{Sizes}
use Rattle.number_text.specs.Numbers.{number_of}
use Rattle.group_words.specs.Options.{given_of, number_given, number_for, are_allowed, suits_work}
use Rattle.group_words.specs.Parsed.{is_well_formed}
use Rattle.group_words.specs.declared.given.Given.{Given}
use Rattle.group_words.specs.declared.setting.Setting.TheVariants.{Members, Agents, Locks, Records, Cache, Pool, Pages, Seed, Trace}
use Rattle.group_words.specs.declared.order.Order.{Order}
use Rattle.group_words.specs.declared.order.Order.TheVariants.{Play, Show, Make, Work, Check, Copy, Recover}

abbrev pub sizes_of : List Given → Sizes
sizes_of given = record {
  members = number_for Members given;
  agents = number_for Agents given;
  locks = number_for Locks given;
  records = number_for Records given;
  cache = number_for Cache given;
  pool = number_for Pool given;
  pages = number_for Pages given;
}

abbrev pub play_with : List Given → Option Order
play_with given = if are_allowed given then Some (Play (sizes_of given) (number_given Seed given) (number_for Trace given == 1)) else None

abbrev pub play_order : List (List ℕ) → Option Order
play_order words = option_and_then play_with (given_of words)

abbrev pub show_order : List (List ℕ) → Option Order
show_order [] = Some Show
show_order (word ∷ words) = None

abbrev pub check_order : List (List ℕ) → Option Order
check_order [] = Some Check
check_order (word ∷ words) = None

-- the table of this number
abbrev pub table_of : ℕ → Option ℕ
table_of n = if nat_le 1 n && nat_le n 64 then Some n else None

abbrev pub table_in : List (List ℕ) → Option ℕ
table_in (number ∷ []) = option_and_then table_of (number_of number)
table_in _ = None

abbrev pub copy_order : List (List ℕ) → Option Order
copy_order words = option_map Copy (table_in words)

abbrev pub recover_order : List (List ℕ) → Option Order
recover_order words = option_map Recover (table_in words)

abbrev pub make_order : List (List ℕ) → Option Order
make_order (number ∷ []) = option_map Make (number_of number)
make_order _ = None

abbrev pub work_with : ℕ → List Given → Option Order
work_with n given = if are_allowed given && list_all suits_work given then Some (Work n (sizes_of given)) else None

abbrev pub work_given : ℕ → List (List ℕ) → Option Order
work_given n words = option_and_then (work_with n) (given_of words)

abbrev pub work_order : List (List ℕ) → Option Order
work_order [] = None
work_order (number ∷ words) = option_and_then (λ n. work_given n words) (number_of number)

abbrev pub order_under : List ℕ → List (List ℕ) → Option Order
order_under command words =
    if bytes_eq command (codes "play") then play_order words
    else if bytes_eq command (codes "show") then show_order words
    else if bytes_eq command (codes "make") then make_order words
    else if bytes_eq command (codes "work") then work_order words
    else if bytes_eq command (codes "check") then check_order words
    else if bytes_eq command (codes "copy") then copy_order words
    else if bytes_eq command (codes "recover") then recover_order words
    else None

-- the order that the words of a command line give, without the program's name
abbrev pub order_of : List (List ℕ) → Option Order
order_of [] = None
order_of (command ∷ words) = order_under command words

abbrev pub texts : List (String Global) → List (List ℕ)
texts words = map string_bytes words

-- one word or more, each of which may be one of an option's
abbrev pub may_be_options : List (List ℕ) → Bool
may_be_options [] = false
may_be_options (word ∷ words) = list_all is_well_formed (word ∷ words)

-- a number, and words that may be options
abbrev pub may_be_work : List (List ℕ) → Bool
may_be_work [] = false
may_be_work (number ∷ words) = is_some (number_of number) && may_be_options words

-- the sizes of a group are in the ranges of their options
pub record AreSizes (sizes : Sizes) : Type 0 where
  pub members : IsMember sizes.members
  pub locks : 1 ≤ sizes.locks
  pub pool : 4 ≤ sizes.pool
  pub pages : (1 ≤ sizes.pages) × (sizes.pages ≤ 65536)

-- those of a group that plays, or does measured work
abbrev pub HasSizes : Order → Type 0
HasSizes (Play sizes seed trace) = AreSizes sizes
HasSizes Show = Unit {0}
HasSizes (Make n) = Unit {0}
HasSizes (Work n sizes) = AreSizes sizes
HasSizes Check = Unit {0}
HasSizes (Copy table) = Unit {0}
HasSizes (Recover table) = Unit {0}

-- the words are those of a command that takes options, and words that may be options stand behind it
abbrev pub may_have_options : List (List ℕ) → Bool
may_have_options [] = false
may_have_options (command ∷ words) = (bytes_eq command (codes "play") && may_be_options words) || (bytes_eq command (codes "work") && may_be_work words)
