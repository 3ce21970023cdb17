-- Texts as the definitions read them: the input of 01's example, and texts that are refused. All is found by computing.
use Prim.Native.Nat.{ℕ}
use mathlib.Core.Path.{◌≡◌, refl}
use mathlib.Core.List.{List, [], ◌∷◌, ◌++◌, map}
use lib.ListN.{length, replicate}
use Rattle.rights.specs.Below.{any_below, all_below, table}
use Rattle.rights.specs.Permission.{code, decoded, any_permission, stronger, serves}
use Rattle.rights.specs.Cell.{has, cell_of, carries, union, lowered, restrict}
use Rattle.rights.specs.Register.{cell, register}
use Rattle.rights.specs.Level.{is_in, linked, reached, levels_among, every_office, levels, level_in}
use Rattle.rights.specs.Sound.{headed, sound, sound_by, sound_cell, barred, first_of, unless}
use Rattle.rights.specs.Restriction.{is_cell}
use Rattle.rights.specs.Deletion.{granted_cell, granted}
use Rattle.rights.specs.Maps.{map_of, map_c, map_header, drawn, bytes_of}
use Rattle.rights.specs.Cases.{command, WGD}
use Rattle.wording.specs.Word.{bytes, key, form, acts, perms, word_for, end_text}
use Rattle.wording.specs.Line.{after_word, is_digit, extended, goes_on, digits, number, chosen, value_of, behind_key, line_of, numeral_by, numeral, word_of, line_text}
use Rattle.wording.specs.Lines.{offset, and_before, lines_of, lines_text, header_lines, header_of, header_values, header_text, command_lines, command_of, command_values, command_text}
use Rattle.wording.specs.Records.{first, record_text, records_text, by_may, to_may, perm_may, with_perm, with_to, with_by, record_from, records_from, joined, record_of, cell_records, row_records_up_to, row_records, row_text, register_text}
use Rattle.wording.specs.RegisterReader.{with_header, behind_header, content_of, any_record, outside, forbidden, nothing, added, filled, read_refusal, content_refusal, RegisterRead, no_header, register_done, register_refused, judged, register_read}
use Rattle.wording.specs.CommandReader.{command_judged, command_read, no_command}

-- 01's input, which is map C
abbrev map_text : List ℕ
map_text = bytes "n=3\nsoa=0\nlayer=7\nby=0\nto=1\nperm=TT\nby=1\nto=2\nperm=TT\nby=2\nto=1\nperm=TT\nend=register\n"

-- 01's command: wgd 7, 0, 1, none
abbrev cut : List ℕ
cut = bytes "act=wgd\nlayer=7\nby=0\nto=1\nperm=none\n"

-- a text with the answer and the offset that it gets
record Case : Type 0 where
  answer : ℕ
  at : ℕ
  text : List ℕ

abbrev refused_texts : List Case
refused_texts =
    -- a leading zero, at layer=
    record { answer = 13; at = 10; text = bytes "n=3\nsoa=0\nlayer=07\nend=register\n" } ∷
    -- 65536, at layer=
    record { answer = 13; at = 10; text = bytes "n=3\nsoa=0\nlayer=65536\nend=register\n" } ∷
    -- a record told twice, at its second perm=
    record { answer = 13; at = 46; text = bytes "n=3\nsoa=0\nlayer=7\nby=0\nto=1\nperm=TT\nby=0\nto=1\nperm=TT\nend=register\n" } ∷
    -- a smaller by=, whatever follows
    record { answer = 13; at = 36; text = bytes "n=3\nsoa=0\nlayer=7\nby=1\nto=2\nperm=TT\nby=0\nto" } ∷
    -- a smaller to=
    record { answer = 13; at = 41; text = bytes "n=3\nsoa=0\nlayer=7\nby=0\nto=2\nperm=TT\nby=0\nto=1\nperm=TT\nend=register\n" } ∷
    -- none in a record
    record { answer = 13; at = 28; text = bytes "n=3\nsoa=0\nlayer=7\nby=0\nto=1\nperm=none\nend=register\n" } ∷
    -- no LF at the end
    record { answer = 13; at = 18; text = bytes "n=3\nsoa=0\nlayer=7\nend=register" } ∷
    -- lines are missing
    record { answer = 13; at = 36; text = bytes "n=3\nsoa=0\nlayer=7\nby=0\nto=1\nperm=TT\n" } ∷
    -- CR before LF
    record { answer = 13; at = 0; text = bytes "n=3\r\nsoa=0\nlayer=7\nend=register\n" } ∷
    -- SOA ≥ n
    record { answer = 1; at = 0; text = bytes "n=3\nsoa=3\nlayer=7\nend=register\n" } ∷
    -- n = 4 in a buffer for 3
    record { answer = 2; at = 0; text = bytes "n=4\nsoa=0\nlayer=7\nend=register\n" } ∷
    -- office 3 of 3, and before that a record to SOA
    record { answer = 6; at = 0; text = bytes "n=3\nsoa=0\nlayer=7\nby=0\nto=0\nperm=FF\nby=0\nto=3\nperm=TT\nend=register\n" } ∷
    -- a record to SOA
    record { answer = 7; at = 0; text = bytes "n=3\nsoa=0\nlayer=7\nby=0\nto=0\nperm=FF\nend=register\n" } ∷
    -- a record of an office that holds nothing
    record { answer = 3; at = 0; text = bytes "n=3\nsoa=0\nlayer=7\nby=1\nto=2\nperm=FF\nend=register\n" } ∷ []

-- a text is refused so: the answer and the offset of the case, and all else as a refusal leaves it
abbrev refused_so : Case → RegisterRead
refused_so c = register_refused c.text (replicate 9 99) c.answer c.at

abbrev read_so : Case → RegisterRead
read_so c = register_read c.text (replicate 9 99)

-- a quoted text stands for its bytes
pub bytes_of_lem : bytes "n=\n" ≡ 110 ∷ 61 ∷ 10 ∷ []
bytes_of_lem = refl

-- the register of 01's input is read, with the command behind it left over, and written again; the command is read and written
-- again; a command with a bad line is refused; the texts above are refused
pub examples :
    (register_read (map_text ++ cut) (replicate 10 99) ≡
    record { answer = 0; at = 0; header = map_header map_c; buffer = bytes_of map_c ++ (0 ∷ []); next = length map_text; rest = cut }) ×
    (register_text (map_header map_c) (bytes_of map_c) ≡ map_text) ×
    (command_read cut ≡ record { answer = 0; at = 0; command = WGD 0 1; next = length cut; rest = [] }) ×
    (command_text (WGD 0 1) ≡ cut) ×
    (command_read map_text ≡ record { answer = 13; at = 0; command = no_command; next = length map_text; rest = [] }) ×
    (map read_so refused_texts ≡ map refused_so refused_texts)
unfolding map_c map_of map_header bytes_of drawn WGD command any_below all_below table code decoded any_permission stronger serves has cell_of carries union lowered restrict cell register is_in linked reached levels_among every_office levels level_in headed sound sound_by sound_cell barred first_of unless is_cell granted_cell granted key form acts perms word_for end_text after_word is_digit extended goes_on digits number chosen value_of behind_key line_of numeral_by numeral word_of line_text offset and_before lines_of lines_text header_lines header_of header_values header_text command_lines command_of command_values command_text first record_text records_text by_may to_may perm_may with_perm with_to with_by record_from records_from joined record_of cell_records row_records_up_to row_records row_text register_text with_header behind_header content_of any_record outside forbidden nothing added filled read_refusal content_refusal no_header register_done register_refused judged register_read command_judged command_read no_command
examples = (refl, refl, refl, refl, refl, refl)
