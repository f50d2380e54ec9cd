-- What events mark over the lanes: phases, failures, and what mends them.
use Rattle.std.specs.Prelude.{ℕ, Bool, true, false, not, ◌==◌, ◌&&◌, if◌then◌else◌, List, Option, Some, None, codes}
use Rattle.std.specs.Str.{bytes_eq}
use Rattle.ds_model.specs.declared.report.EventLine.{EventLine}
use Rattle.picture_text.specs.declared.picture.Kind.{Kind}
use Rattle.picture_text.specs.declared.picture.Kind.TheVariants as kinds
use Rattle.run_picture.specs.declared.mark.Mark.{Mark}
use Rattle.run_picture.specs.declared.mark.Mark.TheVariants as marks

-- an event of the group: a phase begins, or the group fails
abbrev pub group_mark : ℕ → Option Mark
group_mark choice =
    if choice == 0 then Some marks.Phase
    else if choice == 1 then Some marks.GroupFailure
    else None

-- what was done
unfoldable pub done_mark : List ℕ → Option Mark
done_mark command =
    if bytes_eq command (codes "lose") then Some marks.Loss
    else if bytes_eq command (codes "set-status") then Some marks.Up
    else if bytes_eq command (codes "rebuilt") then Some marks.Rebuilt
    else None

-- an event of a member
unfoldable pub member_mark : EventLine → Option Mark
member_mark e =
    if bytes_eq e.command (codes "fail") then Some marks.Failure
    else if bytes_eq e.command (codes "log-length") && (e.choice == 0) then Some marks.Restart
    else if bytes_eq e.reply (codes "done") then done_mark e.command
    else if bytes_eq e.reply (codes "failed") then Some marks.DiskFailure
    else None

abbrev pub mark_of : EventLine → Option Mark
mark_of e = if e.member == 0 then group_mark e.choice else member_mark e

abbrev pub is_phase : Mark → Bool
is_phase marks.Phase = true
is_phase _ = false

-- phases are drawn by themselves, and so are all other marks
abbrev pub is_of : Bool → Mark → Bool
is_of true m = is_phase m
is_of false m = not (is_phase m)

abbrev pub mark_kind : Mark → Kind
mark_kind marks.Phase = kinds.Phase
mark_kind marks.GroupFailure = kinds.Failure
mark_kind marks.Loss = kinds.Failure
mark_kind marks.Failure = kinds.Failure
mark_kind marks.DiskFailure = kinds.Failure
mark_kind marks.Up = kinds.Mended
mark_kind marks.Rebuilt = kinds.Mended
mark_kind marks.Restart = kinds.Mended

abbrev pub mark_words : Mark → List ℕ
mark_words marks.Phase = codes "phase "
mark_words marks.GroupFailure = codes "group fails"
mark_words marks.Loss = codes "cache lost"
mark_words marks.Failure = codes "fails"
mark_words marks.DiskFailure = codes "disk fails"
mark_words marks.Up = codes "is up"
mark_words marks.Rebuilt = codes "cache rebuilt"
mark_words marks.Restart = codes "restarts"
