-- What an event says of its transaction, in words, where it matters.
use Rattle.std.specs.Prelude.{ℕ, ◌&&◌, if◌then◌else◌, List, Option, Some, None, codes}
use Rattle.std.specs.Str.{bytes_eq}
use denote.Ref.{Bor}
use Rattle.ds_model.specs.declared.report.EventLine.{EventLine}

abbrev pub text_in : Option (Bor (List ℕ)) → Option (List ℕ)
text_in None = None
text_in (Some text) = Some text.now

-- a lock was asked for
unfoldable pub lock_phrase : List ℕ → Option (List ℕ)
lock_phrase reply =
    if bytes_eq reply (codes "contention") then Some (codes "it asks for a lock in which another member has an interest")
    else if bytes_eq reply (codes "retained") then Some (codes "it asks for a lock that a failed member retains")
    else if bytes_eq reply (codes "records-full") then Some (codes "it asks for a lock, and the lock structure is full")
    else None

unfoldable pub grant_phrase : List ℕ → Option (List ℕ)
grant_phrase reply =
    if bytes_eq reply (codes "granted") then Some (codes "it gets the lock")
    else if bytes_eq reply (codes "moved") then Some (codes "it asks again, since the lock's entry has changed")
    else None

-- what it does in a wait
unfoldable pub wait_phrase : List ℕ → Option (List ℕ)
wait_phrase command =
    if bytes_eq command (codes "ask") then Some (codes "it asks that member")
    else if bytes_eq command (codes "wait") then Some (codes "it waits")
    else if bytes_eq command (codes "unwait") then Some (codes "it waits no more")
    else None

-- what it does by itself
unfoldable pub own_phrase : List ℕ → Option (List ℕ)
own_phrase command =
    if bytes_eq command (codes "raise") then Some (codes "it raises a flag")
    else if bytes_eq command (codes "lose") then Some (codes "it loses the cache")
    else if bytes_eq command (codes "log-append") then Some (codes "it makes its log stable")
    else if bytes_eq command (codes "end") then Some (codes "it is over")
    else wait_phrase command

unfoldable pub answered_phrase : List ℕ → List ℕ → Option (List ℕ)
answered_phrase command reply =
    if bytes_eq command (codes "obtain") then lock_phrase reply
    else if bytes_eq command (codes "grant") then grant_phrase reply
    else if bytes_eq command (codes "flag") && bytes_eq reply (codes "not-raised") then Some (codes "it finds a flag that isn't raised")
    else if bytes_eq command (codes "draw") && bytes_eq reply (codes "drawn") then Some (codes "it draws the number of its commit")
    else own_phrase command

unfoldable pub phrase_of : EventLine → Option (List ℕ)
phrase_of e =
    if bytes_eq e.reply (codes "failed") then Some (codes "it meets a failure of the disk")
    else answered_phrase e.command e.reply
