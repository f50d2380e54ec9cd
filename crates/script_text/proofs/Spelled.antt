-- Scripts as lists of lines, and the text of lines.
use Rattle.std.proofs.Common.{◌≡◌, ℕ, zero, suc, Bool, true, false, List, [], ◌∷◌, ◌++◌, map, replicate, Option, Some, None, refl, sym, ap, ◌∙◌, append_assoc, append-nil, codes}
use Rattle.std.specs.Fmt.{decimal}
use Rattle.std.specs.List.{flat_map}
use Rattle.std.proofs.lemmas.List.Concat.{flat_map-append}
use Rattle.ds_model.specs.declared.script.Op.{Op}
use Rattle.ds_model.specs.declared.script.FailAt.{FailAt}
use Rattle.ds_model.specs.declared.script.FailAt.TheVariants as fail_at
use Rattle.ds_model.specs.declared.script.Tran.{Tran}
use Rattle.ds_model.specs.declared.script.Part.{Part}
use Rattle.ds_model.specs.declared.script.Phase.{Phase}
use Rattle.ds_model.specs.declared.script.Script.{Script}
use Rattle.ds_model.specs.ScriptText.{fail_text, groupfail_text, op_text, part_text, phase_text, restart_text, script_text, tran_text, wait_text, line}
use Rattle.script_line.specs.declared.line.Line.{Line}
use Rattle.script_line.specs.declared.line.Line.TheVariants as lines
use Rattle.script_line.specs.Canonical.{op_line_text, text_of}

abbrev pub tran_lines : Tran → List Line
tran_lines t = lines.Tran t.name t.wait ∷ (map lines.Operation t.ops ++ lines.End ∷ [])

abbrev pub restart_lines : Bool → List Line
restart_lines true = lines.Restart ∷ []
restart_lines false = []

abbrev pub fail_lines : Option FailAt → List Line
fail_lines None = []
fail_lines (Some at) = lines.Fail at ∷ []

abbrev pub part_lines : Part → List Line
part_lines p = lines.Member p.member ∷ (restart_lines p.restart ++ (fail_lines p.fail ++ flat_map tran_lines p.trans))

abbrev pub groupfail_lines : ℕ → List Line
groupfail_lines n = replicate n lines.GroupFail

abbrev pub phase_lines : Phase → List Line
phase_lines p = groupfail_lines p.groupfails ++ lines.Phase ∷ flat_map part_lines p.parts

abbrev pub script_lines : Script → List Line
script_lines s = flat_map phase_lines s.phases ++ groupfail_lines s.groupfails

abbrev pub line_text : Line → List ℕ
line_text l = line (text_of l)

abbrev pub spelled : List Line → List ℕ
spelled ls = flat_map line_text ls

spelled-append : (xs ys : List Line) → spelled (xs ++ ys) ≡ spelled xs ++ spelled ys
spelled-append xs ys = flat_map-append line_text xs ys

-- ---- the text of a script is that of its lines

module _ (op_law : (o : Op) → op_text o ≡ line (op_line_text o)) where
  ops_text : (os : List Op) → flat_map op_text os ≡ spelled (map lines.Operation os)
  ops_text [] = refl
  ops_text (o ∷ os) = ap (λ (t : List ℕ). t ++ flat_map op_text os) (op_law o) ∙ ap (λ (t : List ℕ). line (op_line_text o) ++ t) (ops_text os)

  tran_is : (t : Tran) → tran_text t ≡ spelled (tran_lines t)
  tran_is t =
      append_assoc (line (codes "tran " ++ t.name ++ wait_text t.wait)) (flat_map op_text t.ops) (line (codes "end"))
      ∙ ap (λ (x : List ℕ). line (codes "tran " ++ t.name ++ wait_text t.wait) ++ (x ++ line (codes "end"))) (ops_text t.ops)
      ∙ ap (λ (x : List ℕ). line (codes "tran " ++ t.name ++ wait_text t.wait) ++ x) (sym (spelled-append (map lines.Operation t.ops) (lines.End ∷ [])))

  trans_are : (ts : List Tran) → flat_map tran_text ts ≡ spelled (flat_map tran_lines ts)
  trans_are [] = refl
  trans_are (t ∷ ts) =
      ap (λ (x : List ℕ). x ++ flat_map tran_text ts) (tran_is t) ∙ ap (λ (x : List ℕ). spelled (tran_lines t) ++ x) (trans_are ts)
      ∙ sym (spelled-append (tran_lines t) (flat_map tran_lines ts))

  restart_is : (b : Bool) → restart_text b ≡ spelled (restart_lines b)
  restart_is true = refl
  restart_is false = refl

  fail_is : (o : Option FailAt) → fail_text o ≡ spelled (fail_lines o)
  fail_is None = refl
  fail_is (Some (fail_at.Command n)) = sym (append-nil (line (codes "fail command " ++ decimal n)))
  fail_is (Some (fail_at.Commit n)) = sym (append-nil (line (codes "fail commit " ++ decimal n)))
  fail_is (Some (fail_at.Committed n)) = sym (append-nil (line (codes "fail committed " ++ decimal n)))
  fail_is (Some (fail_at.Raise flag)) = sym (append-nil (line (codes "fail raise " ++ decimal flag)))

  regroup : (a b c d : List ℕ) → a ++ b ++ c ++ d ≡ a ++ (b ++ (c ++ d))
  regroup a b c d = simp append_assoc

  part_is : (p : Part) → part_text p ≡ spelled (part_lines p)
  part_is p =
      regroup (line (codes "member " ++ decimal p.member)) (restart_text p.restart) (fail_text p.fail) (flat_map tran_text p.trans)
      ∙ ap (λ (x : List ℕ). line (codes "member " ++ decimal p.member) ++ x)
      (ap (λ (x : List ℕ). x ++ (fail_text p.fail ++ flat_map tran_text p.trans)) (restart_is p.restart)
      ∙ ap (λ (x : List ℕ). spelled (restart_lines p.restart) ++ (x ++ flat_map tran_text p.trans)) (fail_is p.fail)
      ∙ ap (λ (x : List ℕ). spelled (restart_lines p.restart) ++ (spelled (fail_lines p.fail) ++ x)) (trans_are p.trans)
      ∙ ap (λ (x : List ℕ). spelled (restart_lines p.restart) ++ x) (sym (spelled-append (fail_lines p.fail) (flat_map tran_lines p.trans)))
      ∙ sym (spelled-append (restart_lines p.restart) (fail_lines p.fail ++ flat_map tran_lines p.trans)))

  parts_are : (ps : List Part) → flat_map part_text ps ≡ spelled (flat_map part_lines ps)
  parts_are [] = refl
  parts_are (p ∷ ps) =
      ap (λ (x : List ℕ). x ++ flat_map part_text ps) (part_is p) ∙ ap (λ (x : List ℕ). spelled (part_lines p) ++ x) (parts_are ps)
      ∙ sym (spelled-append (part_lines p) (flat_map part_lines ps))

  groupfails_are : (n : ℕ) → groupfail_text n ≡ spelled (groupfail_lines n)
  groupfails_are zero = refl
  groupfails_are (suc n) = ap (λ (x : List ℕ). line (codes "groupfail") ++ x) (groupfails_are n)

  phase_is : (p : Phase) → phase_text p ≡ spelled (phase_lines p)
  phase_is p =
      append_assoc (groupfail_text p.groupfails) (line (codes "phase")) (flat_map part_text p.parts)
      ∙ ap (λ (x : List ℕ). x ++ (line (codes "phase") ++ flat_map part_text p.parts)) (groupfails_are p.groupfails)
      ∙ ap (λ (x : List ℕ). spelled (groupfail_lines p.groupfails) ++ (line (codes "phase") ++ x)) (parts_are p.parts)
      ∙ sym (spelled-append (groupfail_lines p.groupfails) (lines.Phase ∷ flat_map part_lines p.parts))

  phases_are : (ps : List Phase) → flat_map phase_text ps ≡ spelled (flat_map phase_lines ps)
  phases_are [] = refl
  phases_are (p ∷ ps) =
      ap (λ (x : List ℕ). x ++ flat_map phase_text ps) (phase_is p) ∙ ap (λ (x : List ℕ). spelled (phase_lines p) ++ x) (phases_are ps)
      ∙ sym (spelled-append (phase_lines p) (flat_map phase_lines ps))

  pub script_is : (s : Script) → script_text s ≡ spelled (script_lines s)
  script_is s =
      ap (λ (x : List ℕ). x ++ groupfail_text s.groupfails) (phases_are s.phases) ∙ ap (λ (x : List ℕ). spelled (flat_map phase_lines s.phases) ++ x) (groupfails_are s.groupfails)
      ∙ sym (spelled-append (flat_map phase_lines s.phases) (groupfail_lines s.groupfails))
