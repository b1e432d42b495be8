-- Every definition that computing keys or a picture goes through, named once: a proof that computes says `unfolding computing`.
use Rattle.std.proofs.Common.{ℕ, List}
use Rattle.spec.specs.Bytes.{class}
use Rattle.spec.specs.Text.{copies, span, skip_forward, skip_back, line_end, line_start, column, newlines, line_of, line_count, lines_below, nth_line, last_in_line, at_column, first_nonblank, clamp}
use Rattle.spec.specs.Motions.{is_empty_line, white_span, skip_white, word_passed, next_word, skip_white_back, word_start, previous_word, word_last, word_end, nth_found, find_in_line, left_by, right_by, in_line, down_by, up_by, line_end_by, words_on, words_back, word_ends_on, to_line, found_by, motion_target, region, lines_region}
use Rattle.spec.specs.Keys.{key_of}
use Rattle.spec.specs.Editor.{Ed, initial}
use Rattle.spec.specs.History.{edit, recorded, finish, finish_in_column, cancel, unmade, remade, newest_place, undo_once, redo_once}
use Rattle.spec.specs.Commands.{clamp_cursor, start_insert, yanked, delete_lines, delete_bytes, delete_region, yank_region, change_region, operate, move_to, run_motion, operate_lines, delete_chars_by, write_over, join_once, join_by, put_lines_below, put_lines_above, put_bytes, put_after_by, put_before_by, insert_at, insert_line, undo_by, redo_by, run_action, type_byte, erase_byte, leave_insert, insert_key}
use Rattle.spec.specs.Dispatch.{argument_key, digit_key, operator_key, awaiter_key, command_key, normal_key, noted, typed_key, replay, repeat_last, repeats, pending_count, follow, scrolled, key}
use Rattle.spec.specs.Screen.{text_row, digits_before, decimal, status_row, text_rows, picture}
use Rattle.spec.specs.Worked.{after}

unfoldable pub computing : Ed → List ℕ → Ed
unfolding class copies span skip_forward skip_back line_end line_start column newlines line_of line_count lines_below nth_line last_in_line at_column first_nonblank clamp is_empty_line white_span skip_white word_passed next_word skip_white_back word_start previous_word word_last word_end nth_found find_in_line left_by right_by in_line down_by up_by line_end_by words_on words_back word_ends_on to_line found_by motion_target region lines_region key_of initial edit recorded finish finish_in_column cancel unmade remade newest_place undo_once redo_once clamp_cursor start_insert yanked delete_lines delete_bytes delete_region yank_region change_region operate move_to run_motion operate_lines delete_chars_by write_over join_once join_by put_lines_below put_lines_above put_bytes put_after_by put_before_by insert_at insert_line undo_by redo_by run_action type_byte erase_byte leave_insert insert_key argument_key digit_key operator_key awaiter_key command_key normal_key noted typed_key replay repeat_last repeats pending_count follow scrolled key text_row digits_before decimal status_row text_rows picture after
computing e ks = after e ks
