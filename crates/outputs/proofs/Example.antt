-- The example of 01: what the definitions give for it is found by computing.
use mathlib.Core.Path.{◌≡◌, refl}
use Rattle.rights.specs.Below.{any_below, all_below, sum_below, table}
use Rattle.rights.specs.Permission.{code, any_permission, is_code, decoded, entitles, stronger, serves}
use Rattle.rights.specs.Cell.{has, cell_of, size, carries, union, without, lowered, restrict}
use Rattle.rights.specs.Register.{cell, register}
use Rattle.rights.specs.Level.{is_in, linked, reached, levels_among, every_office, levels, level_in}
use Rattle.rights.specs.Sound.{headed, whole, barred, sound_cell, sound_by, sound, first_of, unless, register_refusal}
use Rattle.rights.specs.Restriction.{restricted, empty_where, is_cell, rows_to, sweep, emptied}
use Rattle.rights.specs.Deletion.{granted_cell, granted, wgd}
use Rattle.rights.specs.Tally.{missing}
use Rattle.rights.specs.Command.{is_grant, well_formed, grant_refusal, deletion_refusal, form_refusal, refusal, carried_out, done, outcome}
use Rattle.wording.specs.Word.{bytes, key, form, acts, perms, word_for, end_text}
use Rattle.wording.specs.Line.{after_word, is_digit, extended, goes_on, digits, number, chosen, value_of, behind_key, line_of, numeral_by, numeral, word_of, line_text}
use Rattle.wording.specs.Lines.{offset, and_before, lines_of, lines_text, header_lines, header_of, header_values, header_text, command_lines, command_of}
use Rattle.wording.specs.Records.{first, record_text, records_text, by_may, to_may, perm_may, with_perm, with_to, with_by, record_from, records_from, joined, record_of, cell_records, row_records_up_to, row_records, row_text, register_text}
use Rattle.wording.specs.RegisterReader.{with_header, behind_header, content_of, any_record, outside, forbidden, nothing, added, filled, read_refusal, content_refusal, register_done, judged, register_read}
use Rattle.wording.specs.CommandReader.{command_judged, command_read}
use Rattle.printing.specs.NumberLine.{number_line}
use Rattle.answers.specs.Answers.{answer_text, refused_text}
use Rattle.outputs.specs.Output.{answer_lines, commands_by, commands_output, behind_register, output}

-- 01, 'Program `regrun`': its input and the 'Whole output'
pub example :
    output
    (bytes
    "n=3\nsoa=0\nlayer=7\nby=0\nto=1\nperm=TT\nby=1\nto=2\nperm=TT\nby=2\nto=1\nperm=TT\nend=register\nact=wgd\nlayer=7\nby=0\nto=1\nperm=none\n") ≡
    bytes "answer=0\nremoved=3\nadded=0\nn=3\nsoa=0\nlayer=7\nend=register\n"
unfolding
    any_below all_below sum_below table
    code any_permission is_code decoded entitles stronger serves
    has cell_of size carries union without lowered restrict
    cell register
    is_in linked reached levels_among every_office levels level_in
    headed whole barred sound_cell sound_by sound first_of unless register_refusal
    restricted empty_where is_cell rows_to sweep emptied
    granted_cell granted wgd
    missing
    is_grant well_formed grant_refusal deletion_refusal form_refusal refusal carried_out done outcome
    key form acts perms word_for end_text
    after_word is_digit extended goes_on digits number chosen value_of behind_key line_of numeral_by numeral word_of line_text
    offset and_before lines_of lines_text header_lines header_of header_values header_text command_lines command_of
    first record_text records_text by_may to_may perm_may with_perm with_to with_by record_from records_from joined record_of cell_records row_records_up_to row_records row_text register_text
    with_header behind_header content_of any_record outside forbidden nothing added filled read_refusal content_refusal register_done judged register_read
    command_judged command_read
    number_line
    answer_text refused_text
    answer_lines commands_by commands_output behind_register output
example = refl
