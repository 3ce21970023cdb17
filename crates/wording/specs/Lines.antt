-- Lines of given kinds one after the other: the header of a register, and a command.
use Rattle.std.specs.Prelude.{ℕ, ◌-◌, Bool, true, false, ◌&&◌, List, [], ◌∷◌, ◌++◌, length, get_or}
use Rattle.rights.specs.declared.Header.{Header}
use Rattle.rights.specs.declared.Command.{Command}
use Rattle.wording.specs.Word.{Kind, n_line, soa_line, layer_line, act_line, by_line, to_line, perm_line, form}
use Rattle.wording.specs.Line.{value, bad, line_of, line_text, fits}

-- where in the text the part stands that it ends with
unfoldable pub offset : List ℕ → List ℕ → ℕ
offset text rest = length text - length rest

-- what was read and what stands behind it, or what begins with the first bad line (nothing, if lines are missing)
pub data Reading (A : Type 0) : Type 0 where
  got : A → List ℕ → Reading A
  bad_at : List ℕ → Reading A

-- not of 01: what was read first put before the rest of what was read, by which lines and records are read one after the other
unfoldable pub and_before : {A : Type 0} → A → Reading (List A) → Reading (List A)
and_before a (got read rest) = got (a ∷ read) rest
and_before a (bad_at line) = bad_at line

-- the values of one line of each kind, in order
unfoldable pub lines_of : List Kind → List ℕ → Reading (List ℕ)
lines_of [] text = got [] text
lines_of (k ∷ kinds) text = elim (line_of k text) [ value v rest ↦ and_before v (lines_of kinds rest) | bad ↦ bad_at text ]

-- the lines of these kinds with these values
unfoldable pub lines_text : List Kind → List ℕ → List ℕ
lines_text [] vs = []
lines_text (k ∷ kinds) [] = []
lines_text (k ∷ kinds) (v ∷ vs) = line_text k v ++ lines_text kinds vs

-- there is a value for each line, and each can be had
unfoldable pub all_fit : List Kind → List ℕ → Bool
all_fit [] [] = true
all_fit [] (v ∷ vs) = false
all_fit (k ∷ kinds) [] = false
all_fit (k ∷ kinds) (v ∷ vs) = fits (form k) v && all_fit kinds vs

-- 01: 'Header: `n=`, `soa=`, `layer=`.'
unfoldable pub header_lines : List Kind
header_lines = n_line ∷ soa_line ∷ layer_line ∷ []

-- n, SOA and layer, from the values of the header's lines in their order
unfoldable pub header_of : List ℕ → Header
header_of vs = record { n = get_or vs 0 0; soa = record { 0 = get_or vs 1 0 }; layer = record { 0 = get_or vs 2 0 } }

-- the values of the header's lines, in their order
unfoldable pub header_values : Header → List ℕ
header_values h = h.n ∷ h.soa.0 ∷ h.layer.0 ∷ []

-- the header as text, the first part of 01's 'A register's text is header, rows 0 to n − 1, end.'
unfoldable pub header_text : Header → List ℕ
header_text h = lines_text header_lines (header_values h)

-- 01: 'A command is five lines: `act=` .., `layer=`, `by=`, `to=`, `perm=`'
unfoldable pub command_lines : List Kind
command_lines = act_line ∷ layer_line ∷ by_line ∷ to_line ∷ perm_line ∷ []

-- a command, from the values of its five lines in their order
unfoldable pub command_of : List ℕ → Command
command_of vs =
    record {
      act = get_or vs 0 0;
      layer = record { 0 = get_or vs 1 0 };
      by = record { 0 = get_or vs 2 0 };
      to = record { 0 = get_or vs 3 0 };
      perm = get_or vs 4 0;
    }

-- the values of a command's five lines, in their order
unfoldable pub command_values : Command → List ℕ
command_values c = c.act ∷ c.layer.0 ∷ c.by.0 ∷ c.to.0 ∷ c.perm ∷ []

-- a command as text: 'A command is five lines'
unfoldable pub command_text : Command → List ℕ
command_text c = lines_text command_lines (command_values c)
