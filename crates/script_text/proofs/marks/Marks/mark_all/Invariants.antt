use Rattle.std.proofs.Common.{◌≡◌, ℕ, ◌<◌, ◌≤◌, ◌||◌, false, get_or}
use Rattle.script_text.proofs.marks.Marks.mark_all.Given as goal

abbrev pub invariant-loop-number : goal.invariant-loop-number
invariant-loop-number l = record {
  done : (n : ℕ) → n < l.number → get_or l.self.marks n false ≡ (get_or l.initial.self.marks n false || get_or l.other.marks n false);
  left : (n : ℕ) → l.number ≤ n → get_or l.self.marks n false ≡ get_or l.initial.self.marks n false;
}
