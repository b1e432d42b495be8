-- Editors to which the theorems on history apply, and what they then say of them: each is one that keys lead to.
use Rattle.std.specs.Prelude.{◌≡◌, ℕ, true, false, List, [], ◌∷◌, ◌++◌, length, codes}
use Rattle.spec.specs.Bytes.{ascii, newline, escape, control_r}
use Rattle.spec.specs.Text.{Text}
use Rattle.spec.specs.Motions.{times}
use Rattle.spec.specs.Keys.{no_prefix}
use Rattle.spec.specs.Editor.{Ed, initial}
use Rattle.spec.specs.History.{undo_once, redo_once}
use Rattle.spec.specs.Commands.{join_once}
use Rattle.spec.specs.Dispatch.{noted, typed_key, key}
use Rattle.spec.specs.Promises.{ReachableFrom, all_undone}
use Rattle.spec.specs.HistoryLaws.{undoable, repeated, Passed, Moved}
use Rattle.spec.specs.Worked.{after}

-- three lines
abbrev pub short : Text
short = codes "abc" ++ (newline ∷ codes "d" ++ (newline ∷ codes "e"))

-- after keys, on 8 rows and 12 columns
abbrev pub typed : List ℕ → Ed
typed ks = after (initial short 8 12) ks

-- x and J: two units to undo
abbrev pub two_units : Ed
two_units = typed (codes "xJ")

pub record TwoUnits : Type 0 where
  pub reachable : ReachableFrom short 8 12 two_units
  pub not_inserting : two_units.inserting ≡ false
  pub units : length two_units.undo ≡ 2
  pub text : two_units.text ≡ codes "bc d" ++ (newline ∷ codes "e")
  pub one_undone : (undo_once two_units).text ≡ codes "bc" ++ (newline ∷ codes "d" ++ (newline ∷ codes "e"))
  pub all_undone_text : (all_undone two_units).text ≡ short

-- and u: one to undo, one to redo
abbrev pub one_each : Ed
one_each = typed (codes "xJu")

pub record OneEach : Type 0 where
  pub reachable : ReachableFrom short 8 12 one_each
  pub not_inserting : one_each.inserting ≡ false
  pub nothing_pending : one_each.command.pending ≡ no_prefix
  pub undo : length one_each.undo ≡ 1
  pub redo : length one_each.redo ≡ 1
  pub undone : (key one_each (ascii "u")).text ≡ short
  pub redone : (key one_each control_r).text ≡ two_units.text

-- a letter typed while inserting: an open change, which undo knows nothing of yet
abbrev pub open_insert : Ed
open_insert = typed (codes "xiZ")

pub record OpenInsert : Type 0 where
  pub reachable : ReachableFrom short 8 12 open_insert
  pub inserting : open_insert.inserting ≡ true
  pub changes : length open_insert.command.changes ≡ 1
  pub undo : length open_insert.undo ≡ 1
  pub known : length (undoable (key open_insert (ascii "Y"))) ≡ 3
  pub text : (key open_insert (ascii "Y")).text ≡ codes "ZYbc" ++ (newline ∷ codes "d" ++ (newline ∷ codes "e"))

-- a repeat with a count: two units come at one key, and between them an editor is passed
abbrev pub to_repeat : Ed
to_repeat = typed (codes "x2")

pub record Repeated : Type 0 where
  pub reachable : ReachableFrom short 8 12 to_repeat
  pub units : length (key to_repeat (ascii ".")).undo ≡ 3
  pub between : Passed to_repeat (ascii ".") (repeated to_repeat 1)
  pub between_text : (repeated to_repeat 1).text ≡ codes "c" ++ (newline ∷ codes "d" ++ (newline ∷ codes "e"))

-- the keys of an insert typed again: between them the editor inserts
abbrev pub to_type : Ed
to_type = typed (codes "iZ" ++ (escape ∷ []))

abbrev pub half_typed : Ed
half_typed = typed_key (typed_key (repeated to_type 0) (ascii "i")) (ascii "Z")

pub record TypedAgain : Type 0 where
  pub reachable : ReachableFrom short 8 12 to_type
  pub text : (key to_type (ascii ".")).text ≡ codes "ZZabc" ++ (newline ∷ codes "d" ++ (newline ∷ codes "e"))
  pub between : Passed to_type (ascii ".") half_typed
  pub inserting : half_typed.inserting ≡ true
  pub changes : length half_typed.command.changes ≡ 1

-- three lines joined at one key
abbrev pub to_join : Ed
to_join = typed (codes "3")

pub record Joined : Type 0 where
  pub reachable : ReachableFrom short 8 12 to_join
  pub text : (key to_join (ascii "J")).text ≡ codes "abc d e"
  pub between : Passed to_join (ascii "J") (times 1 join_once (noted to_join (ascii "J")))
  pub between_text : (times 1 join_once (noted to_join (ascii "J"))).text ≡ codes "abc d" ++ (newline ∷ codes "e")

-- two units undone at one key, and then redone at one
abbrev pub to_undo : Ed
to_undo = typed (codes "xJ2")

abbrev pub to_redo : Ed
to_redo = typed (codes "xJ2u2")

pub record MovedTwice : Type 0 where
  pub undo_reachable : ReachableFrom short 8 12 to_undo
  pub undone : (key to_undo (ascii "u")).text ≡ short
  pub undone_between : Moved to_undo (ascii "u") (times 1 undo_once (noted to_undo (ascii "u")))
  pub redo_reachable : ReachableFrom short 8 12 to_redo
  pub redone : (key to_redo control_r).text ≡ two_units.text
  pub redone_between : Moved to_redo control_r (times 1 redo_once (noted to_redo control_r))

pub record HistoryWitnesses : Type 0 where
  pub two_units : TwoUnits
  pub one_each : OneEach
  pub open_insert : OpenInsert
  pub repeated : Repeated
  pub typed_again : TypedAgain
  pub joined : Joined
  pub moved_twice : MovedTwice
