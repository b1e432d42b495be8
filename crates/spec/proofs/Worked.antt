-- The worked keys, done by the definitions.
use Rattle.std.proofs.Common.{refl}
use Rattle.spec.proofs.Computing.{computing}
use Rattle.spec.specs.Worked.{WorkedMotions, WorkedLines, WorkedChanges, WorkedHistory, WorkedScreen, WorkedKeys}

worked_motions : WorkedMotions
unfolding computing
worked_motions = record { keys_3w = refl; keys_G = refl; keys_2G = refl; keys_jj0b = refl; keys_$b = refl; keys_je = refl }

worked_lines : WorkedLines
unfolding computing
worked_lines = record { keys_ddp = refl; keys_5dd = refl; keys_Gdd = refl; keys_dk = refl; keys_3J = refl }

worked_changes : WorkedChanges
unfolding computing
worked_changes = record { keys_cwslow_escape_w_repeat = refl; keys_cwslow_escape_w_repeat_u = refl; keys_cwslow_escape_w_repeat_uu = refl; keys_dwjj_repeat = refl; keys_2jdw = refl; keys_25rZ = refl; keys_3rZ = refl }

worked_history : WorkedHistory
unfolding computing
worked_history = record { keys_ohello_escape_u_control_R = refl; keys_xxuux = refl; keys_xxuux_redo = refl }

worked_screen : WorkedScreen
unfolding computing
worked_screen = record { keys_jjj$ = refl }

pub worked_keys : WorkedKeys
worked_keys = record { motions = worked_motions; lines = worked_lines; changes = worked_changes; history = worked_history; screen = worked_screen }
