-- A line adds at most one transaction and at most one failure of the group.
use Rattle.std.proofs.Common.{◌≡◌, ℕ, ◌+◌, ◌≤◌, Bool, true, false, nat_lt, if◌then◌else◌, List, IfOk, Option, Some, None, Result, Ok, Err, arith}
use Rattle.ds_model.specs.declared.script.FaultKind.{FaultKind}
use Rattle.ds_model.specs.declared.script.FailAt.{FailAt}
use Rattle.ds_model.specs.declared.script.Op.{Op}
use Rattle.script_line.specs.declared.line.Keyword.{Keyword}
use Rattle.script_line.specs.declared.line.Line.{Line}
use Rattle.script_line.specs.declared.line.Line.TheVariants as line
use Rattle.script_line.specs.Words.{and_then, mapped}
use Rattle.script_line.specs.Lines.{is_skipped, keyword_in, line_in}
use Rattle.script_text.specs.declared.draft.Place.{Place}
use Rattle.script_text.specs.declared.draft.Place.TheVariants as place
use Rattle.script_text.specs.declared.draft.Draft.{Draft}
use Rattle.script_text.specs.TextLines.{TextLine}
use Rattle.script_text.specs.SoFar.{has_number, has_name, names_so_far, members_failed, members_playing}
use Rattle.script_text.specs.Drafts.{draft_at, closed_at, failed_again, in_phase, place_fault, part_begun, restart_of, restarted_at, member_at, fail_at, tran_begun, may_use_flags, op_taken, tran_ended, step_line}
use Rattle.script_text.specs.Reading.{unless, step_words, step_bytes, step}

pub record Grows (old new : Draft) : Type 0 where
  pub groupfails_by_one : new.groupfails ≤ old.groupfails + 1
  pub count_by_one : new.count ≤ old.count + 1

abbrev FromTo : Draft → Result Draft FaultKind → Type 0
FromTo d r = IfOk r (λ e. Grows d e)

test_err : (b : Bool) (kind : FaultKind) (d : Draft) (r : Result Draft FaultKind) → FromTo d r → FromTo d (if b then Err kind else r)
test_err true kind d r h = tt
test_err false kind d r h = h

test_ok : (b : Bool) (kind : FaultKind) (d : Draft) (r : Result Draft FaultKind) → FromTo d r → FromTo d (if b then r else Err kind)
test_ok true kind d r h = h
test_ok false kind d r h = tt

closed_grows : (d : Draft) (p : Place) → FromTo d (mapped failed_again (closed_at d p)) × FromTo d (mapped in_phase (closed_at d p))
closed_grows d place.Outside = (record { groupfails_by_one = omega arith; count_by_one = omega arith }, record { groupfails_by_one = omega arith; count_by_one = omega arith })
closed_grows d (place.Phase parts) = (record { groupfails_by_one = omega arith; count_by_one = omega arith }, record { groupfails_by_one = omega arith; count_by_one = omega arith })
closed_grows d (place.Part parts part) = (record { groupfails_by_one = omega arith; count_by_one = omega arith }, record { groupfails_by_one = omega arith; count_by_one = omega arith })
closed_grows d (place.Tran parts part name wait ops) = (tt, tt)

begun_grows : (d : Draft) (p : Place) (m : ℕ) → FromTo d (part_begun d p m)
begun_grows d place.Outside m = tt
begun_grows d (place.Phase parts) m = record { groupfails_by_one = omega arith; count_by_one = omega arith }
begun_grows d (place.Part parts part) m = record { groupfails_by_one = omega arith; count_by_one = omega arith }
begun_grows d (place.Tran parts part name wait ops) m = tt

restarted_grows : (d : Draft) (p : Place) → FromTo d (restarted_at d p)
restarted_grows d place.Outside = tt
restarted_grows d (place.Phase parts) = tt
restarted_grows d (place.Part parts part) = record { groupfails_by_one = omega arith; count_by_one = omega arith }
restarted_grows d (place.Tran parts part name wait ops) = tt

restart_grows : (d : Draft) (o : Option ℕ) → FromTo d (restart_of d o)
restart_grows d None = tt
restart_grows d (Some m) = test_ok (has_number (members_failed d) m) _ d (restarted_at d d.place) (restarted_grows d d.place)

fail_grows : (d : Draft) (p : Place) (at : FailAt) → FromTo d (fail_at d p at)
fail_grows d place.Outside at = tt
fail_grows d (place.Phase parts) at = tt
fail_grows d (place.Part parts part) at = record { groupfails_by_one = omega arith; count_by_one = omega arith }
fail_grows d (place.Tran parts part name wait ops) at = tt

tran_grows : (d : Draft) (p : Place) (name : List ℕ) (wait : Bool) → FromTo d (tran_begun d p name wait)
tran_grows d place.Outside name wait = tt
tran_grows d (place.Phase parts) name wait = tt
tran_grows d (place.Part parts part) name wait = record { groupfails_by_one = omega arith; count_by_one = omega arith }
tran_grows d (place.Tran parts part n w ops) name wait = tt

op_grows : (d : Draft) (p : Place) (o : Op) → FromTo d (op_taken d p o)
op_grows d place.Outside o = tt
op_grows d (place.Phase parts) o = tt
op_grows d (place.Part parts part) o = tt
op_grows d (place.Tran parts part name wait ops) o = record { groupfails_by_one = omega arith; count_by_one = omega arith }

end_grows : (d : Draft) (p : Place) → FromTo d (tran_ended d p)
end_grows d place.Outside = tt
end_grows d (place.Phase parts) = tt
end_grows d (place.Part parts part) = tt
end_grows d (place.Tran parts part name wait ops) = record { groupfails_by_one = omega arith; count_by_one = omega arith }

line_grows : (d : Draft) (l : Line) → FromTo d (step_line d l)
line_grows d line.GroupFail = (closed_grows d d.place).0
line_grows d line.Phase = (closed_grows d d.place).1
line_grows d (line.Member m) = test_err (has_number (members_playing d) m) _ d (part_begun d d.place m) (begun_grows d d.place m)
line_grows d line.Restart = restart_grows d (member_at d.place)
line_grows d (line.Fail at) = fail_grows d d.place at
line_grows d (line.Tran name wait) = test_err (has_name (names_so_far d) name) _ d (tran_begun d d.place name wait) (tran_grows d d.place name wait)
line_grows d (line.Operation o) = test_ok (may_use_flags d o) _ d (op_taken d d.place o) (op_grows d d.place o)
line_grows d line.End = end_grows d d.place

read_grows : (d : Draft) (r : Result Line FaultKind) → FromTo d (and_then (step_line d) r)
read_grows d (Ok l) = line_grows d l
read_grows d (Err kind) = tt

unless_grows : (d : Draft) (o : Option FaultKind) (r : Result Draft FaultKind) → FromTo d r → FromTo d (unless o r)
unless_grows d None r h = h
unless_grows d (Some kind) r h = tt

skip_grows : (b : Bool) (d : Draft) (r : Result Draft FaultKind) → FromTo d r → FromTo d (if b then Ok d else r)
skip_grows true d r h = record { groupfails_by_one = omega arith; count_by_one = omega arith }
skip_grows false d r h = h

pub step_grows : (members : ℕ) (d : Draft) (l : TextLine) → FromTo d (step members d l)
step_grows members d l =
    test_err (nat_lt 4194304 l.end) _ d (step_bytes members d l.bytes)
    (skip_grows (is_skipped l.bytes) d (step_words members d l.bytes)
    (unless_grows d (place_fault d (keyword_in l.bytes)) _ (read_grows d (line_in members l.bytes))))
