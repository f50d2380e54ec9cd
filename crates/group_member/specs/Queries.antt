-- Which queries a member may answer while it restarts.
use Rattle.std.specs.Prelude.{Bool, false, is_some, Option, Some, None, if◌then◌else◌}
use Rattle.ds_model.specs.declared.lock.Name.{Name}
use Rattle.ds_model.specs.declared.lock.Name.TheVariants as name
use Rattle.list_structure.specs.declared.query.Asker.{Asker}
use Rattle.member_intents.specs.declared.intent.Intent.{Intent}
use Rattle.member_intents.specs.declared.intent.Intent.TheVariants as intent
use Rattle.restart_marks.specs.State.{RestartState}
use Rattle.restart_marks.specs.Moves.{is_claimed}
use Rattle.group_member.specs.declared.restarting.Restarting.{Restarting}

-- the restart has the lock of this page
abbrev pub is_claimed_in : RestartState → Name → Bool
is_claimed_in s (name.Space table) = false
is_claimed_in s (name.Row table key) = false
is_claimed_in s (name.Page page) = is_claimed s page
is_claimed_in s (name.Set number) = false

abbrev pub is_held : Option Restarting → Name → Bool
is_held None n = false
is_held (Some r) n = is_claimed_in r.resources.marks n

-- who has asked about which lock, where the intent is to answer that
abbrev pub query_in : Intent → Option (Asker × Name)
query_in (intent.Answer asker n m) = Some (asker, n)
query_in _ = None

-- who has asked about a page whose lock the restart has
abbrev pub asker_in : Option Restarting → Option (Asker × Name) → Option Asker
asker_in restart None = None
asker_in restart (Some query) = if is_held restart query.1 then Some query.0 else None

-- the intent answers a query about a page whose lock the restart has
abbrev pub answers_held : Option Restarting → Intent → Bool
answers_held restart i = is_some (asker_in restart (query_in i))
