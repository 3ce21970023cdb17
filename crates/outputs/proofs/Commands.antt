-- The output for the commands of a text, one command at a time.
use Prim.Native.Nat.{ℕ, zero, suc, ◌+◌, ◌≤◌}
use native.Mathlib.Omega.{arith}
use mathlib.Core.Path.{◌≡◌, refl, ap, sym, ◌∙◌}
use mathlib.Core.Bool.{Bool, true, false}
use mathlib.Core.List.{List, ◌++◌}
use lib.Dec.{eqb}
use lib.ListN.{length, length-append}
use borrow.Author.Tests.{ne_eqb, eqb-true}
use Rattle.rights.specs.declared.Header.{Header}
use Rattle.rights.specs.declared.Command.{Command}
use Rattle.rights.specs.Command.{outcome}
use Rattle.wording.specs.Word.{Kind, act_line, layer_line, by_line, to_line, perm_line, key}
use Rattle.wording.specs.Line.{line_text}
use Rattle.wording.specs.Lines.{lines_text, command_lines, command_values, command_text}
use Rattle.wording.specs.Records.{register_text}
use Rattle.wording.specs.CommandReader.{command_read}
use Rattle.wording.proofs.CommandText.{command_read-written}
use Rattle.answers.specs.Answers.{refused_text}
use Rattle.outputs.specs.Output.{answer_lines, commands_by, commands_output}

line_long : (k : Kind) (v : ℕ) → length (key k) + 1 ≤ length (line_text k v)
unfolding line_text
line_long k v = simp length-append (omega arith)

-- five keys and five LF
pub command_long : (c : Command) → 26 ≤ length (command_text c)
unfolding command_text lines_text command_lines command_values key
command_long c =
    simp length-append
    (omega (arith, line_long act_line c.act, line_long layer_line c.layer.0, line_long by_line c.by.0, line_long to_line c.to.0, line_long perm_line c.perm))

-- what stands behind a command is shorter than the text by the command
pub command_shorter : (text : List ℕ) → (command_read text).answer ≡ 0 → length (command_read text).rest + 26 ≤ length text
command_shorter text e =
    let parts = ap length (command_read-written text e) in
    omega (arith, parts, length-append (command_text (command_read text).command) (command_read text).rest, command_long (command_read text).command)

module _ (h : Header) where
  -- where the text has ended, however many commands there may be
  ended : (k : ℕ) (R : List ℕ) (at : ℕ) (text : List ℕ) → length text ≡ 0 → commands_by k h R at text ≡ register_text h R
  unfolding commands_by
  ended zero R at text none = refl
  ended (suc k) R at text none = rw none

  -- the output behind the first command of the text, with so many commands at most
  behind : ℕ → List ℕ → ℕ → List ℕ → List ℕ
  behind k R at text = commands_by k h (outcome h R (command_read text).command).cells (at + (command_read text).next) (command_read text).rest

  one_more :
      (k l : ℕ) (R : List ℕ) (at : ℕ) (text : List ℕ) → ((command_read text).answer ≡ 0 → behind k R at text ≡ behind l R at text) →
      commands_by (suc k) h R at text ≡ commands_by (suc l) h R at text
  unfolding commands_by behind
  one_more k l R at text same = go (eqb (command_read text).answer 0) refl
    where
      go : (t : Bool) → eqb (command_read text).answer 0 ≡ t → commands_by (suc k) h R at text ≡ commands_by (suc l) h R at text
      go true e = rw (e, same (eqb-true (command_read text).answer 0 e))
      go false e = rw e

  -- the text's length is enough
  enough : (k l : ℕ) (R : List ℕ) (at : ℕ) (text : List ℕ) → length text ≤ k → length text ≤ l → commands_by k h R at text ≡ commands_by l h R at text
  unfolding behind
  enough zero l R at text a b = ended zero R at text (omega arith) ∙ sym (ended l R at text (omega arith))
  enough (suc k) zero R at text a b = ended (suc k) R at text (omega arith) ∙ sym (ended zero R at text (omega arith))
  enough (suc k) (suc l) R at text a b =
      one_more k l R at text
      (λ e. enough k l _ _ (command_read text).rest (omega (arith, command_shorter text e)) (omega (arith, command_shorter text e)))

  module _ (R : List ℕ) (at : ℕ) (text : List ℕ) where
    -- 'At the end the register text.'
    pub output_ended : length text ≡ 0 → commands_output h R at text ≡ register_text h R
    unfolding commands_output
    output_ended none = ended (length text) R at text none

    first : 1 ≤ length text → commands_output h R at text ≡ commands_by (suc (length text)) h R at text
    unfolding commands_output
    first some = enough (length text) (suc (length text)) R at text (omega arith) (omega arith)

    -- a refused text ends the output
    pub output-refused : 1 ≤ length text → ((command_read text).answer ≡ 0 → ⊥) → commands_output h R at text ≡ refused_text (command_read text).answer (at + (command_read text).at)
    unfolding commands_by
    output-refused some bad = first some ∙ rw (ne_eqb (length text) 0 (λ e. omega (arith, e)), ne_eqb (command_read text).answer 0 bad)

    -- a command's answer, and what follows on the register that it left
    pub output-answered :
        1 ≤ length text → (command_read text).answer ≡ 0 →
        commands_output h R at text ≡
        answer_lines (outcome h R (command_read text).command) ++
        commands_output h (outcome h R (command_read text).command).cells (at + (command_read text).next) (command_read text).rest
    unfolding commands_by commands_output
    output-answered some good =
        let less = command_shorter text good in
        first some
        ∙ rw (ne_eqb (length text) 0 (λ e. omega (arith, e)), good)
        (ap (λ (later : List ℕ). answer_lines (outcome h R (command_read text).command) ++ later)
        (enough (length text) (length (command_read text).rest) _ _ (command_read text).rest (omega arith) (omega arith)))
