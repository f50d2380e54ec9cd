-- The page that a command reads or fills.
use Rattle.std.specs.Prelude.{ℕ, ◌≡◌, Bool, true, false, not, if◌then◌else◌, List}
use Rattle.facility.specs.declared.command.Command.{Command}
use Rattle.facility.specs.declared.command.Command.TheVariants as command
use Rattle.facility.specs.declared.command.Reply.{Reply}
use Rattle.facility.specs.States as facility
use Rattle.facility.specs.Commands.{CanExecute, Executes}
use Rattle.restart_resources.specs.Held.{Held, with_page}

-- whether the page in hand is lent; a changed page keeps its bytes
abbrev pub is_hand : Held → Command → Bool
is_hand h (command.Read page index) = not h.marks.hand.changed
is_hand h (command.Write page index) = true
is_hand h _ = false

abbrev pub lent_bytes : Held → Bool → List ℕ
lent_bytes h true = h.page
lent_bytes h false = h.spare

abbrev pub with_bytes : Held → Bool → List ℕ → Held
with_bytes h true page = with_page h page
with_bytes h false page = record h { spare = page }

-- the command was executed over the page that is lent, and nothing but that page is changed
pub record Executed (h : Held) (w : facility.Held) (c : Command) (lends : Bool) (answer : Reply) (k : Held) (v : facility.Held) : Type 0 where
  pub executes : Executes w h.marks.member c (lent_bytes h lends) answer v (lent_bytes k lends)
  pub back : k ≡ with_bytes h lends (lent_bytes k lends)

-- the member has given the command
pub record Gives (h : Held) (w : facility.Held) (c : Command) (answer : Reply) (k : Held) (v : facility.Held) : Type 0 where
  pub can : CanExecute w h.marks.member c
  pub executed : Executed h w c (is_hand h c) answer k v
