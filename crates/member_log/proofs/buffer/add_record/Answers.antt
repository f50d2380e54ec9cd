use Rattle.std.proofs.Common.{◌≡◌, ℕ, ◌+◌, ◌≤◌, List, ◌++◌, length, take, drop, sym, ap, ◌∙◌, append_assoc, arith, length-append}
use Rattle.std.proofs.lemmas.List.{take-append-drop, take_at, length-take-le}
use Rattle.log_record.specs.Given.{record_bytes}
use Rattle.member_log.proofs.buffer.add_record.Goals as goal

-- what is written begins with this text, so the text stands behind what was there before
stands : (used : ℕ) (before written after text : List ℕ) → used ≤ length before → take (length text) written ≡ text
    → take (used + length text) (take used before ++ (written ++ after)) ≡ take used before ++ text
stands used before written after text within is =
    let front : List ℕ = take used before in
    let rest : List ℕ = drop (length text) written in
    let whole : written ≡ text ++ rest = sym (take-append-drop (length text) written) ∙ ap (λ (t : List ℕ). t ++ rest) is in
    let grouped : front ++ (written ++ after) ≡ (front ++ text) ++ (rest ++ after) =
    ap (λ (w : List ℕ). front ++ (w ++ after)) whole
    ∙ ap (λ (t : List ℕ). front ++ t) (append_assoc text rest after)
    ∙ sym (append_assoc front text (rest ++ after)) in
    ap (take (used + length text)) grouped
    ∙ take_at (front ++ text) (rest ++ after) (used + length text) (omega (arith, length-append front text, length-take-le used before within))

pub returns-clause-bytes : goal.returns-clause-bytes
returns-clause-bytes c =
    let text : List ℕ = record_bytes c.args.it.now in
    let count : c.write_record.result ≡ length text = c.write_record.ensures.count in
    let is : take (length text) c.write_record.new.into ≡ text = rw count at c.write_record.ensures.bytes in
    rw count (stands c.args.used c.args.buffer.now c.write_record.new.into _ text (omega (arith, c.requires.room)) is)
