use Rattle.std.proofs.Common.{◌≡◌, ℕ, codes, length, ◌++◌, subst}
use Rattle.std.specs.List.{count_by}
use Rattle.group_run.specs.Summary.{is_committed, is_refused, is_stopped, count_text, fates_text}
use Rattle.group_run.proofs.Pieces.{four}
use Rattle.group_run.proofs.summary.put_fates.Goals as goal

pub returns : goal.returns
unfolding fates_text
returns c =
    let entries = c.args.entries.now in
    let out = c.args.out.now in
    let second : c.put_number-2.new.out ≡ c.put_number.new.out ++ count_text (codes " committed ") (count_by is_committed entries) = subst (λ (n : ℕ). c.put_number-2.new.out ≡ c.put_number.new.out ++ count_text (codes " committed ") n) c.count_committed.ensures c.in_ok-put_number-2.ensures in
    let third : c.put_number-3.new.out ≡ c.put_number-2.new.out ++ count_text (codes " refused ") (count_by is_refused entries) = subst (λ (n : ℕ). c.put_number-3.new.out ≡ c.put_number-2.new.out ++ count_text (codes " refused ") n) c.count_refused.ensures c.in_ok-put_number-3.ensures in
    let fourth : c.put_number-4.new.out ≡ c.put_number-3.new.out ++ count_text (codes " stopped ") (count_by is_stopped entries) = subst (λ (n : ℕ). c.put_number-4.new.out ≡ c.put_number-3.new.out ++ count_text (codes " stopped ") n) c.count_stopped.ensures c.in_ok-put_number-4.ensures in
    four out (count_text (codes " transactions ") (length entries)) (count_text (codes " committed ") (count_by is_committed entries)) (count_text (codes " refused ") (count_by is_refused entries)) (count_text (codes " stopped ") (count_by is_stopped entries)) c.put_number.new.out c.put_number-2.new.out c.put_number-3.new.out c.put_number-4.new.out c.in_ok-put_number.ensures second third fourth
