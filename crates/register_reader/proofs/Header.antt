-- The three lines of a header, by what has been read of them so far.
use Prim.Native.Nat.{ℕ}
use mathlib.Core.Path.{◌≡◌, refl}
use mathlib.Core.List.{List, [], ◌∷◌}
use Rattle.wording.specs.Word.{Kind, n_line, soa_line, layer_line}
use Rattle.wording.specs.Lines.{header_lines, header_of}
use Rattle.lines.specs.Read.{line_at}
use Rattle.std.specs.declared.option.Option.TheVariants.{None}
use Rattle.std.specs.declared.result.Result.TheVariants.{Ok, Err}
use Rattle.numbers.proofs.Byte.{offset-drop}
use Rattle.lines.proofs.SoFar.{LinesSoFar, start, lines_stop, lines_all}
use Rattle.register_reader.specs.Told.{header_read, header_in}

pub header_start : (text : List ℕ) → LinesSoFar text header_lines (n_line ∷ soa_line ∷ layer_line ∷ []) [] 0
unfolding header_lines
header_start text = start text header_lines

module _ {text vs : List ℕ} {at : ℕ} where
  pub header-bad : {kinds : List Kind} {k : Kind} → LinesSoFar text header_lines (k ∷ kinds) vs at → line_at text at k ≡ None → Err at ≡ header_in text
  unfolding header_in header_read
  header-bad s e = rw (lines_stop s e, offset-drop text at s.within) refl

  pub header-got : LinesSoFar text header_lines [] vs at → Ok (header_of vs, at) ≡ header_in text
  unfolding header_in header_read
  header-got s = rw (lines_all s, offset-drop text at s.within) refl
