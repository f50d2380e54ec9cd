use Rattle.std.proofs.Common.{◌∙◌, ◌++◌, ◌-◌, ap, List, ℕ, length, take, drop}
use Rattle.std.proofs.lemmas.List.{take_rest}
use Rattle.report_check.specs.Commits.{commits_of}
use Rattle.report_check.proofs.commits.commits_behind.Goals as goal

pub returns : goal.returns
returns c =
    let records = c.args.records.now in
    let had = c.args.had in
    c.in_ok-put_commits.ensures
    ∙ ap (λ (l : List ℕ). l ++ commits_of (take (length records - had) (drop had records))) c.new-trans.ensures.items
    ∙ ap commits_of (take_rest records had)
