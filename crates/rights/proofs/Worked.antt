-- The worked cases of 01: one list, and one statement that the definitions give each result.
use mathlib.Core.Path.{◌≡◌, refl}
use mathlib.Core.Bool.{true}
use Rattle.rights.specs.Below.{any_below, all_below, sum_below, table, first_below}
use Rattle.rights.specs.Permission.{code, any_permission, is_code, decoded, entitles, stronger, serves, need, passing}
use Rattle.rights.specs.Cell.{has, cell_of, size, carries, union, without, lowered, restrict}
use Rattle.rights.specs.Register.{cell, register}
use Rattle.rights.specs.Level.{is_in, linked, reached, levels_among, every_office, other_than, levels, independent_levels, level_in, holds_by, holds}
use Rattle.rights.specs.Sound.{headed, whole, barred, sound_cell, sound_by, sound, first_of, unless, register_refusal}
use Rattle.rights.specs.Restriction.{restricted, empty_where, is_cell, row_to, rows_to, columns_to, sweep, emptied}
use Rattle.rights.specs.Deletion.{granted_cell, granted, wgd, handed_cell, handed_over, row_settled, wld, column_step, sld, losers, strong_round, same, until_rest, sgd}
use Rattle.rights.specs.Tally.{missing}
use Rattle.rights.specs.Command.{is_grant, well_formed, may_grant, grant_refusal, deletion_refusal, form_refusal, refusal, carried_out, refused, done, outcome}
use Rattle.rights.specs.Question.{single, nearer, links_away, fewest_links, last_of, smallest, picked_chain, question_form_refusal, question_refusal, shown, not_shown, answered}
use Rattle.rights.specs.Maps.{map_of, map_header, drawn, bytes_of, map_a, map_b, map_c, map_d, map_e, map_f, map_g, map_h}
use Rattle.rights.specs.Cases.{command, GRANT, WLD, WGD, SLD, SGD, left_by_one, left_by_four, left_by_seven, cases}
use Rattle.rights.specs.Run.{answered_with, followed_by, untouched, in_turn, run_outcome}
use Rattle.rights.specs.Agreement.{unanswered, answers_of, same_numbers, buffer, agrees, all_agree}

pub worked : all_agree cases ≡ true
unfolding
    any_below all_below sum_below table first_below
    code any_permission is_code decoded entitles stronger serves need passing
    has cell_of size carries union without lowered restrict
    cell register
    is_in linked reached levels_among every_office other_than levels independent_levels level_in holds_by holds
    headed whole barred sound_cell sound_by sound first_of unless register_refusal
    restricted empty_where is_cell row_to rows_to columns_to sweep emptied
    granted_cell granted wgd handed_cell handed_over row_settled wld column_step sld losers strong_round same until_rest sgd
    missing
    is_grant well_formed may_grant grant_refusal deletion_refusal form_refusal refusal carried_out refused done outcome
    single nearer links_away fewest_links last_of smallest picked_chain question_form_refusal question_refusal shown not_shown answered
    map_of map_header drawn bytes_of map_a map_b map_c map_d map_e map_f map_g map_h
    command GRANT WLD WGD SLD SGD left_by_one left_by_four left_by_seven cases
    answered_with followed_by untouched in_turn run_outcome
    unanswered answers_of same_numbers buffer agrees all_agree
worked = refl
