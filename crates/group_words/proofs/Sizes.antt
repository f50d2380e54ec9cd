-- The sizes of a group are in the ranges of their options.
use Rattle.std.proofs.Common.{◌≡◌, ℕ, ◌≤◌, Bool, true, false, if◌then◌else◌, ◌&&◌, List, [], ◌∷◌, Option, Some, None, option_and_then, option_map, subst, codes, arith, refl, sym, ap}
use Rattle.std.specs.List.{list_all}
use Rattle.std.specs.Str.{bytes_eq}
use Rattle.number_text.specs.Numbers.{number_of}
use Rattle.group_words.specs.Options.{rule_of, given_of, is_for, is_in_range, number_for, are_allowed, suits_work}
use Rattle.group_words.specs.Orders.{sizes_of, play_with, play_order, show_order, check_order, table_in, make_order, work_with, work_given, work_order, order_under, order_of, AreSizes, HasSizes}
use Rattle.group_words.specs.declared.given.Given.{Given}
use Rattle.group_words.specs.declared.setting.Setting.{Setting}
use Rattle.group_words.specs.declared.setting.Setting.TheVariants.{Members, Locks, Pool, Pages}
use Rattle.group_words.specs.declared.order.Order.{Order}
use Rattle.group_words.specs.declared.order.Order.TheVariants.{Play, Make, Work, Copy, Recover}
use Rattle.group_words.proofs.Ranges.{names_tell, allowed_fits}

given_reaches : (s : Setting) (given : Given) → is_for s given ≡ true → is_in_range given ≡ true → (rule_of s).least ≤ given.number
given_reaches s given e h =
    let low : (rule_of given.setting).least ≡ (rule_of s).least = ap (λ t. (rule_of t).least) (sym (names_tell s given.setting e)) in
    grind arith

next_reaches : (s : Setting) (first : Given) (given : List Given) (b : Bool) → is_for s first ≡ b → is_in_range first ≡ true → (rule_of s).least ≤ number_for s given → (rule_of s).least ≤ number_for s (first ∷ given)
next_reaches s first given true e h more = rw e (given_reaches s first e h)
next_reaches s first given false e h more = rw e more

reaches : (s : Setting) (given : List Given) → (rule_of s).least ≤ (rule_of s).usual → list_all is_in_range given ≡ true → (rule_of s).least ≤ number_for s given
reaches s [] fits h = fits
reaches s (first ∷ given) fits h = next_reaches s first given (is_for s first) refl (grind arith) (reaches s given fits (grind arith))

first_of_two : (a b : Bool) → (a && b) ≡ true → a ≡ true
first_of_two true b h = refl
first_of_two false b h = h

-- what is allowed has such sizes
sizes_in : (given : List Given) → are_allowed given ≡ true → AreSizes (sizes_of given)
sizes_in given h =
    let each : list_all is_in_range given ≡ true = first_of_two _ _ h in
    record {
      members = (reaches Members given (omega arith) each, allowed_fits Members given h);
      locks = reaches Locks given (omega arith) each;
      pool = reaches Pool given (omega arith) each;
      pages = (reaches Pages given (omega arith) each, allowed_fits Pages given h);
    }

-- the same of an order that may not be there
abbrev IfThere : Option Order → Type 0
IfThere None = Unit {0}
IfThere (Some o) = HasSizes o

either : (b : Bool) (x y : Option Order) → IfThere x → IfThere y → IfThere (if b then x else y)
either true x y h k = h
either false x y h k = k

then_there : {A : Type 0} (f : A → Option Order) (x : Option A) → ((y : A) → IfThere (f y)) → IfThere (option_and_then f x)
then_there f None h = tt
then_there f (Some y) h = h y

play_at : (given : List Given) (b : Bool) (seed : Option ℕ) (trace : Bool) → (b ≡ true → are_allowed given ≡ true) → IfThere (if b then Some (Play (sizes_of given) seed trace) else None)
play_at given true seed trace h = sizes_in given (h refl)
play_at given false seed trace h = tt

work_at : (n : ℕ) (given : List Given) (b : Bool) → (b ≡ true → are_allowed given ≡ true) → IfThere (if b then Some (Work n (sizes_of given)) else None)
work_at n given true h = sizes_in given (h refl)
work_at n given false h = tt

there_play : (words : List (List ℕ)) → IfThere (play_order words)
there_play words = then_there play_with (given_of words) (λ given. play_at given (are_allowed given) _ _ (λ e. e))

there_work : (words : List (List ℕ)) → IfThere (work_order words)
there_work [] = tt
there_work (number ∷ words) = then_there (λ n. work_given n words) (number_of number)
    (λ n. then_there (work_with n) (given_of words) (λ given. work_at n given (are_allowed given && list_all suits_work given) (first_of_two (are_allowed given) (list_all suits_work given))))

there_show : (words : List (List ℕ)) → IfThere (show_order words)
there_show [] = tt
there_show (word ∷ words) = tt

there_check : (words : List (List ℕ)) → IfThere (check_order words)
there_check [] = tt
there_check (word ∷ words) = tt

there_number : (o : Option ℕ) → IfThere (option_map Make o)
there_number None = tt
there_number (Some n) = tt

there_make : (words : List (List ℕ)) → IfThere (make_order words)
there_make [] = tt
there_make (number ∷ []) = there_number (number_of number)
there_make (number ∷ word ∷ words) = tt

there_copy : (o : Option ℕ) → IfThere (option_map Copy o)
there_copy None = tt
there_copy (Some table) = tt

there_recover : (o : Option ℕ) → IfThere (option_map Recover o)
there_recover None = tt
there_recover (Some table) = tt

there_under : (command : List ℕ) (words : List (List ℕ)) → IfThere (order_under command words)
there_under command words = either (bytes_eq command (codes "play")) _ _ (there_play words)
    (either (bytes_eq command (codes "show")) _ _ (there_show words)
    (either (bytes_eq command (codes "make")) _ _ (there_make words)
    (either (bytes_eq command (codes "work")) _ _ (there_work words)
    (either (bytes_eq command (codes "check")) _ _ (there_check words)
    (either (bytes_eq command (codes "copy")) _ _ (there_copy (table_in words))
    (either (bytes_eq command (codes "recover")) _ _ (there_recover (table_in words)) tt))))))

there : (words : List (List ℕ)) → IfThere (order_of words)
there [] = tt
there (command ∷ words) = there_under command words

pub has_sizes : (words : List (List ℕ)) (o : Order) → order_of words ≡ Some o → HasSizes o
has_sizes words o e = subst IfThere e (there words)
