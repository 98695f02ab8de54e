-- What words ask for, by their first word and how many there are.
use Rattle.std.specs.Prelude.{ℕ, Bool, true, false, List, [], ◌∷◌, if◌then◌else◌, codes}
use Rattle.ll_top.specs.declared.forms.words.Command.{Command}
use Rattle.ll_top.specs.declared.forms.words.Command.TheVariants as command
use Rattle.ll_top.specs.forms.Words.{is_word}

pub data Kind : Type 0 where
  nothing : Kind
  a_run : Kind
  a_session : Kind
  a_deepening : Kind
  a_print : Kind
  a_check : Kind
  a_conversion : Kind
  a_make : Kind
  a_made_run : Kind

-- two words and no more
abbrev pub are_two : List (List ℕ) → Bool
are_two (w ∷ v ∷ []) = true
are_two words = false

-- the first word, and whether two words follow it
abbrev pub by_first : List ℕ → Bool → Kind
by_first w two =
    if is_word w (codes "run") then a_run
    else if is_word w (codes "session") then a_session
    else if is_word w (codes "deepen") then a_deepening
    else if is_word w (codes "print") then a_print
    else if is_word w (codes "check") then a_check
    else if is_word w (codes "cover") then a_check
    else if is_word w (codes "convert") then a_conversion
    else if is_word w (codes "make") then if two then a_make else a_made_run
    else nothing

-- a word tells it, and for a make how many follow
abbrev pub kind_of : List (List ℕ) → Kind
kind_of [] = nothing
kind_of (w ∷ ws) = by_first w (are_two ws)

-- what asks for a command
abbrev pub command_kind : Command → Kind
command_kind (command.Run run) = a_run
command_kind (command.Session session) = a_session
command_kind (command.Deepen deepen) = a_deepening
command_kind (command.Print name) = a_print
command_kind (command.Check check) = a_check
command_kind (command.Convert convert) = a_conversion
command_kind (command.Make make) = a_make
command_kind (command.MadeRun run) = a_made_run

-- who asks for this says how many search
abbrev pub has_team : Kind → Bool
has_team a_run = true
has_team a_session = true
has_team a_deepening = true
has_team a_made_run = true
has_team kind = false
