-- How long the lines of an output are at most.
use Prim.Native.Nat.{ℕ, ◌+◌, ◌^◌, ◌≤◌, ◌<◌}
use native.Mathlib.Omega.{arith}
use mathlib.Core.List.{List}
use lib.ListN.{length, length-append}
use Rattle.wording.specs.Word.{bytes}
use Rattle.printing.specs.NumberLine.{number_line}
use Rattle.answers.specs.Answers.{answer_text, refused_text}
use Rattle.wording.proofs.Digits.{few-digits}

line_short : (key : List ℕ) (v : ℕ) → v < 2 ^ 32 → length (number_line key v) ≤ length key + 11
unfolding number_line
line_short key v h = simp length-append (omega (arith, few-digits 9 v (omega arith)))

-- what a command answered, in three lines of ten digits at most
pub answer_short : (answer removed added : ℕ) → answer < 2 ^ 32 → removed < 2 ^ 32 → added < 2 ^ 32 → length (answer_text answer removed added) ≤ 54
unfolding answer_text
answer_short answer removed added a r d =
    simp length-append
    (omega (arith, line_short (bytes "answer=") answer a, line_short (bytes "removed=") removed r, line_short (bytes "added=") added d))

-- a refusal and where it is
pub refused_short : (number at : ℕ) → number < 2 ^ 32 → at < 2 ^ 32 → length (refused_text number at) ≤ 33
unfolding refused_text
refused_short number at n a = simp length-append (omega (arith, line_short (bytes "refused=") number n, line_short (bytes "at=") at a))
