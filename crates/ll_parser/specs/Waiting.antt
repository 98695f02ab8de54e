-- What waits while a formula is read, as the machine over raw trees has it.
use Rattle.std.specs.Prelude.{◌≡◌, ℕ, ◌<◌, ◌≤◌, List, [], ◌∷◌, ◌++◌, length, take, drop, reverse, All, codes, Option, Some, None}
use Rattle.ll_lexer.specs.declared.Place.{Place}
use Rattle.ll_parser.specs.declared.Level.{Level}
use Rattle.ll_parser.specs.declared.Level.TheVariants.{Close}
use Rattle.ll_parser.specs.declared.RawAt.{RawAt}
use Rattle.ll_parser.specs.declared.waiting.Word.{Word}
use Rattle.ll_parser.specs.declared.waiting.Word.TheVariants as word
use Rattle.ll_parser.specs.declared.waiting.Prefix.{Prefix}
use Rattle.ll_parser.specs.declared.waiting.Prefix.TheVariants as prefix
use Rattle.ll_parser.specs.declared.waiting.Frame.{Frame}
use Rattle.ll_parser.specs.declared.waiting.Frame.TheVariants as frame
use Rattle.ll_parser.specs.declared.formulas.Mode.{Mode}
use Rattle.ll_parser.specs.declared.formulas.Mode.TheVariants as mode
use Rattle.ll_parser.specs.declared.waiting.Waiting.{Waiting}
use Rattle.ll_parser.specs.Tokens.{Tok}
use Rattle.ll_parser.specs.Raw.{Raw, RawList, raws_then, cons_raw, sign_raw}
use Rattle.ll_parser.specs.Grammar.{Word as GrammarWord, lower, upper}
use Rattle.ll_parser.specs.Flat.{Pending, operand, loading, in_bracket, in_brace, in_quantifier, in_atom, in_argument, in_group, cell, added, multiplied}
use Rattle.ll_parser.specs.Flat.{valuing, testing, in_expression, in_left_side, Flat, want, part, whole, binder, slash, term_want, term_part, term_whole}
use Rattle.ll_parser.specs.Flat.{plain, led, lead_want, item_want, item, build, reduce, gather, end_with, operate, close_number, end_expression}
use Rattle.ll_parser.specs.Flat.{final_expression}
use Rattle.ll_parser.specs.Nodes.{Node, identifier, raw_in, raws_in, raw_trees, raw_at}
use Rattle.ll_parser.specs.Seen.{places}

-- the texts of names, of which the signs are the first
abbrev pub known : List (List ℕ) → List (List ℕ)
known texts = codes "::" ∷ codes "+" ∷ codes "-" ∷ codes "*" ∷ texts

-- a word with its text
abbrev pub word_view : List (List ℕ) → Word → GrammarWord
word_view texts (word.Name n) = lower (identifier texts n)
word_view texts (word.Variable n) = upper (identifier texts n)

-- the trees of arguments
abbrev pub args_view : List Raw → List RawAt → RawList
args_view trees args = raws_in trees (places args)

-- the front of a formula, where these arguments wait
abbrev pub prefix_view : List (List ℕ) → List Raw → List RawAt → Prefix → Pending
prefix_view texts trees args (prefix.Operator o at left) = operand o at (raw_in trees left.0)
prefix_view texts trees args (prefix.Load at n from) = loading at (identifier texts n) (args_view trees (drop from args))
prefix_view texts trees args (prefix.Quantifier q at n) = in_quantifier q at (identifier texts n)

abbrev pub frame_view : List (List ℕ) → List Raw → List RawAt → Frame → Pending
frame_view texts trees args (frame.Front p) = prefix_view texts trees args p
frame_view texts trees args frame.Bracket = in_bracket
frame_view texts trees args (frame.Brace at) = in_brace at
frame_view texts trees args (frame.Atom w from) = in_atom (word_view texts w) (args_view trees (drop from args))
frame_view texts trees args (frame.Application w from) = in_argument (word_view texts w) (args_view trees (drop from args))
frame_view texts trees args frame.Group = in_group
frame_view texts trees args (frame.Cell at first) = cell at (raw_in trees first.0)
frame_view texts trees args (frame.Sum o at first) = added o at (raw_in trees first.0)
frame_view texts trees args (frame.Product at first) = multiplied at (raw_in trees first.0)
frame_view texts trees args (frame.Is at first) = valuing at (raw_in trees first.0)
frame_view texts trees args (frame.Comparison o at first) = testing o at (raw_in trees first.0)
frame_view texts trees args frame.NumberGroup = in_expression
frame_view texts trees args frame.LeadGroup = in_left_side

-- how many of so many arguments wait below a frame
abbrev pub prefix_base : ℕ → Prefix → ℕ
prefix_base n (prefix.Operator o at left) = n
prefix_base n (prefix.Load at name from) = from
prefix_base n (prefix.Quantifier q at name) = n

abbrev pub base : ℕ → Frame → ℕ
base n (frame.Front p) = prefix_base n p
base n frame.Bracket = n
base n (frame.Brace at) = n
base n (frame.Atom w from) = from
base n (frame.Application w from) = from
base n frame.Group = n
base n (frame.Cell at first) = n
base n (frame.Sum o at first) = n
base n (frame.Product at first) = n
base n (frame.Is at first) = n
base n (frame.Comparison o at first) = n
base n frame.NumberGroup = n
base n frame.LeadGroup = n

-- the arguments that wait below a frame
abbrev pub prefix_left : List RawAt → Prefix → List RawAt
prefix_left args (prefix.Operator o at left) = args
prefix_left args (prefix.Load at name from) = take from args
prefix_left args (prefix.Quantifier q at name) = args

abbrev pub left : List RawAt → Frame → List RawAt
left args (frame.Front p) = prefix_left args p
left args frame.Bracket = args
left args (frame.Brace at) = args
left args (frame.Atom w from) = take from args
left args (frame.Application w from) = take from args
left args frame.Group = args
left args (frame.Cell at first) = args
left args (frame.Sum o at first) = args
left args (frame.Product at first) = args
left args (frame.Is at first) = args
left args (frame.Comparison o at first) = args
left args frame.NumberGroup = args
left args frame.LeadGroup = args

-- frames, the newest first
abbrev pub frames_view : List (List ℕ) → List Raw → List RawAt → List Frame → List Pending
frames_view texts trees args [] = []
frames_view texts trees args (f ∷ fs) = frame_view texts trees args f ∷ frames_view texts trees (left args f) fs

-- frames, the newest last, over nodes and arguments
unfoldable pub pending : List (List ℕ) → List Node → List RawAt → List Frame → List Pending
pending texts nodes args frames = frames_view texts (raw_trees texts nodes) args (reverse frames)

-- all that waits
abbrev pub waiting : List (List ℕ) → Waiting → List Pending
waiting texts w = pending texts w.forms w.args.items w.frames.items

-- the tree at a place
abbrev pub tree : List (List ℕ) → Waiting → RawAt → Raw
tree texts w at = raw_at texts w.forms at.0

-- the trees of the arguments from a place on
abbrev pub args_from : List (List ℕ) → Waiting → ℕ → RawList
args_from texts w from = args_view (raw_trees texts w.forms) (drop from w.args.items)

-- what waits below the arguments from a place on
abbrev pub waiting_below : List (List ℕ) → Waiting → ℕ → List Pending
waiting_below texts w from = pending texts w.forms (take from w.args.items) w.frames.items

-- what waits once a frame is put on
abbrev pub pushed : List (List ℕ) → Waiting → Frame → List Pending
pushed texts w f = frame_view texts (raw_trees texts w.forms) w.args.items f ∷ pending texts w.forms (left w.args.items f) w.frames.items

-- the state of the machine
abbrev pub mode_view : List (List ℕ) → Waiting → Mode → Flat
mode_view texts w mode.Operand = want (waiting texts w)
mode_view texts w (mode.Atom x from) = part (word_view texts x) (args_from texts w from) (waiting_below texts w from)
mode_view texts w (mode.Formula at) = whole (tree texts w at) (waiting texts w)
mode_view texts w (mode.Binder q at) = binder q at (waiting texts w)
mode_view texts w (mode.Slash q at x) = slash q at (word_view texts x) (waiting texts w)
mode_view texts w mode.Term = term_want (waiting texts w)
mode_view texts w (mode.Application x from) = term_part (word_view texts x) (args_from texts w from) (waiting_below texts w from)
mode_view texts w (mode.WholeTerm at) = term_whole (tree texts w at) (waiting texts w)
mode_view texts w (mode.Plain at) = plain (tree texts w at) (waiting texts w)
mode_view texts w mode.LeadUnit = lead_want (waiting texts w)
mode_view texts w (mode.Lead at) = led (tree texts w at) (waiting texts w)
mode_view texts w mode.Unit = item_want (waiting texts w)
mode_view texts w (mode.Expression at) = item (tree texts w at) (waiting texts w)

-- ---- places are those of nodes, and arguments those that wait

-- where there are so many nodes, and so many arguments wait
abbrev pub PrefixFits : ℕ → ℕ → Prefix → Type 0
PrefixFits nodes n (prefix.Operator o at left) = left.0 < nodes
PrefixFits nodes n (prefix.Load at name from) = from ≤ n
PrefixFits nodes n (prefix.Quantifier q at name) = Unit {0}

abbrev pub FrameFits : ℕ → ℕ → Frame → Type 0
FrameFits nodes n (frame.Front p) = PrefixFits nodes n p
FrameFits nodes n frame.Bracket = Unit {0}
FrameFits nodes n (frame.Brace at) = Unit {0}
FrameFits nodes n (frame.Atom w from) = from ≤ n
FrameFits nodes n (frame.Application w from) = from ≤ n
FrameFits nodes n frame.Group = Unit {0}
FrameFits nodes n (frame.Cell at first) = first.0 < nodes
FrameFits nodes n (frame.Sum o at first) = first.0 < nodes
FrameFits nodes n (frame.Product at first) = first.0 < nodes
FrameFits nodes n (frame.Is at first) = first.0 < nodes
FrameFits nodes n (frame.Comparison o at first) = first.0 < nodes
FrameFits nodes n frame.NumberGroup = Unit {0}
FrameFits nodes n frame.LeadGroup = Unit {0}

-- the newest first
abbrev pub FramesFit : ℕ → ℕ → List Frame → Type 0
FramesFit nodes n [] = Unit {0}
FramesFit nodes n (f ∷ fs) = FrameFits nodes n f × FramesFit nodes (base n f) fs

-- the frames fit where the first n arguments wait for them
pub record FitsTo (nodes n : ℕ) (ats : List RawAt) (fs : List Frame) : Type 0 where
  pub args : All (λ a. a.0 < nodes) ats
  pub within : n ≤ length ats
  pub frames : FramesFit nodes n (reverse fs)

abbrev pub FitsBelow : Waiting → ℕ → Type 0
FitsBelow w n = FitsTo (length w.forms) n w.args.items w.frames.items

-- and all arguments
abbrev pub IsSound : Waiting → Type 0
IsSound w = FitsBelow w (length w.args.items)

-- nothing was read
pub record IsNew (w : Waiting) : Type 0 where
  pub forms : w.forms ≡ []
  pub args : w.args.items ≡ []
  pub frames : w.frames.items ≡ []

-- the place of a node
abbrev pub IsNode : Waiting → RawAt → Type 0
IsNode w at = at.0 < length w.forms

-- a frame fits on top
pub record CanWait (w : Waiting) (f : Frame) : Type 0 where
  pub fits : FitsBelow w (base (length w.args.items) f)
  pub frame : FrameFits (length w.forms) (length w.args.items) f

-- the places of a mode are those of nodes, and its arguments wait
abbrev pub ModeFits : Waiting → Mode → Type 0
ModeFits w mode.Operand = IsSound w
ModeFits w (mode.Atom x from) = FitsBelow w from
ModeFits w (mode.Formula at) = IsSound w × IsNode w at
ModeFits w (mode.Binder q at) = IsSound w
ModeFits w (mode.Slash q at x) = IsSound w
ModeFits w mode.Term = IsSound w
ModeFits w (mode.Application x from) = FitsBelow w from
ModeFits w (mode.WholeTerm at) = IsSound w × IsNode w at
ModeFits w (mode.Plain at) = IsSound w × IsNode w at
ModeFits w mode.LeadUnit = IsSound w
ModeFits w (mode.Lead at) = IsSound w × IsNode w at
ModeFits w mode.Unit = IsSound w
ModeFits w (mode.Expression at) = IsSound w × IsNode w at

-- ---- what calls leave, whatever the texts of the names are

-- the nodes are those, or more behind them
pub record Extends (old new : List Node) : Type 0 where
  pub more : List Node
  pub is : new ≡ old ++ more

-- whatever extends the new nodes extends the old ones
abbrev pub Grows : List Node → List Node → Type 0
Grows old new = (later : List Node) → Extends new later → Extends old later

-- the next state is that of the mode, or there is none
abbrev pub Gives : Waiting → Option Mode → (List (List ℕ) → Option Flat) → Type 0
Gives w None next = (texts : List (List ℕ)) → next (known texts) ≡ None
Gives w (Some m) next = ModeFits w m × ((texts : List (List ℕ)) → next (known texts) ≡ Some (mode_view (known texts) w m))

-- nothing waits, and the tree is that at the place; or there is none
abbrev pub GivesTree : Waiting → Option RawAt → (List (List ℕ) → Option Raw) → Type 0
GivesTree w None next = (texts : List (List ℕ)) → next (known texts) ≡ None
GivesTree w (Some at) next = (IsSound w × IsNode w at × (w.frames.items ≡ [])) × ((texts : List (List ℕ)) → next (known texts) ≡ Some (tree (known texts) w at))

-- a node was added, whose tree is this one; all else shows what it showed
pub record Added (old new : Waiting) (at : RawAt) (raw : List (List ℕ) → Raw) : Type 0 where
  pub inside : IsNode new at
  pub is : (texts : List (List ℕ)) → tree (known texts) new at ≡ raw (known texts)
  pub nodes : (i : RawAt) → IsNode old i → IsNode new i
  pub trees : (texts : List (List ℕ)) (i : RawAt) → IsNode old i → tree (known texts) new i ≡ tree (known texts) old i
  pub fits : IsSound old → IsSound new
  pub fits_below : (n : ℕ) → FitsBelow old n → FitsBelow new n
  pub waits : (texts : List (List ℕ)) → IsSound old → waiting (known texts) new ≡ waiting (known texts) old
  pub waits_below : (texts : List (List ℕ)) (n : ℕ) → FitsBelow old n → waiting_below (known texts) new n ≡ waiting_below (known texts) old n
  pub arguments : (texts : List (List ℕ)) (n : ℕ) → FitsBelow old n → args_from (known texts) new n ≡ args_from (known texts) old n
  pub args : new.args.items ≡ old.args.items
  pub frames : new.frames.items ≡ old.frames.items

-- a frame was put on
pub record Pushed (old new : Waiting) (f : Frame) : Type 0 where
  pub fits : IsSound new
  pub forms : new.forms ≡ old.forms
  pub waits : (texts : List (List ℕ)) → waiting (known texts) new ≡ pushed (known texts) old f

-- the newest frame was taken off
pub record Dropped (old new : Waiting) (f : Frame) : Type 0 where
  pub can : IsSound old → CanWait new f
  pub forms : new.forms ≡ old.forms
  pub waits : (texts : List (List ℕ)) → waiting (known texts) old ≡ pushed (known texts) new f
  pub smaller : length new.frames.items < length old.frames.items

-- a place shows this tree, and this waits
pub record ShowsTree (w : Waiting) (at : RawAt) (raw : List (List ℕ) → Raw) (rest : List (List ℕ) → List Pending) : Type 0 where
  pub fits : IsSound w
  pub inside : IsNode w at
  pub is : (texts : List (List ℕ)) → tree (known texts) w at ≡ raw (known texts)
  pub waits : (texts : List (List ℕ)) → waiting (known texts) w ≡ rest (known texts)

-- and the frames are the same
pub record IsBuilt (old new : Waiting) (at : RawAt) (raw : List (List ℕ) → Raw) (rest : List (List ℕ) → List Pending) : Type 0 where
  pub leaves : ShowsTree new at raw rest
  pub frames : new.frames.items ≡ old.frames.items

-- the head at work has one more argument
pub record HasMore (old new : Waiting) (from : ℕ) (raw : List (List ℕ) → Raw) : Type 0 where
  pub fits : FitsBelow new from
  pub arguments : (texts : List (List ℕ)) → args_from (known texts) new from ≡ raws_then (args_from (known texts) old from) (raw (known texts))
  pub waits : (texts : List (List ℕ)) → waiting_below (known texts) new from ≡ waiting_below (known texts) old from

-- the front of a formula was taken off, since the level takes it
pub record Popped (level : Level) (old new : Waiting) (p : Prefix) : Type 0 where
  pub can : CanWait new (frame.Front p)
  pub forms : new.forms ≡ old.forms
  pub reduces : (texts : List (List ℕ)) (r : Raw) → reduce level r (waiting (known texts) old)
      ≡ reduce level (build (prefix_view (known texts) (raw_trees (known texts) new.forms) new.args.items p) r)
      (pending (known texts) new.forms (prefix_left new.args.items p) new.frames.items)
  pub smaller : length new.frames.items < length old.frames.items

-- an operand with all that the level takes
pub record Reduced (level : Level) (old new : Waiting) (i j : RawAt) : Type 0 where
  pub fits : IsSound new
  pub inside : IsNode new j
  pub reduces : (texts : List (List ℕ)) → reduce level (tree (known texts) old i) (waiting (known texts) old)
      ≡ (tree (known texts) new j, waiting (known texts) new)

-- a term with all cells
pub record Gathered (old new : Waiting) (i j : RawAt) : Type 0 where
  pub fits : IsSound new
  pub inside : IsNode new j
  pub gathers : (texts : List (List ℕ)) → gather (tree (known texts) old i) (waiting (known texts) old) ≡ (tree (known texts) new j, waiting (known texts) new)

-- a cell was taken off
pub record PoppedCell (old new : Waiting) (at : Place) (first : RawAt) : Type 0 where
  pub fits : IsSound new
  pub inside : IsNode new first
  pub forms : new.forms ≡ old.forms
  pub gathers : (texts : List (List ℕ)) (r : Raw) → gather r (waiting (known texts) old)
      ≡ gather (cons_raw at (tree (known texts) new first) r) (waiting (known texts) new)
  pub smaller : length new.frames.items < length old.frames.items

-- no cell is the newest
pub record HasNoCell (old new : Waiting) : Type 0 where
  pub same : new ≡ old
  pub gathers : (texts : List (List ℕ)) (r : Raw) → gather r (waiting (known texts) old) ≡ (r, waiting (known texts) old)

-- the level takes nothing
pub record TakesNone (level : Level) (old new : Waiting) : Type 0 where
  pub same : new ≡ old
  pub reduces : (texts : List (List ℕ)) (r : Raw) → reduce level r (waiting (known texts) old) ≡ (r, waiting (known texts) old)

-- ---- whole-number goals

-- an expression with what it ends, where this is what it takes
pub record EndsWith (take : Raw → List Pending → Raw × List Pending) (old new : Waiting) (i j : RawAt) : Type 0 where
  pub fits : IsSound new
  pub inside : IsNode new j
  pub takes : (texts : List (List ℕ)) → take (tree (known texts) old i) (waiting (known texts) old) ≡ (tree (known texts) new j, waiting (known texts) new)

-- a sign was taken off, with what stands in front of it
pub record PoppedSign (take : Raw → List Pending → Raw × List Pending) (sign : List ℕ) (old new : Waiting) (at : Place) (left : RawAt) : Type 0 where
  pub fits : IsSound new
  pub inside : IsNode new left
  pub forms : new.forms ≡ old.forms
  pub takes : (texts : List (List ℕ)) (r : Raw)
      → take r (waiting (known texts) old) ≡ (sign_raw sign at (tree (known texts) new left) r, waiting (known texts) new)

-- an expression takes nothing
pub record TakesNothing (take : Raw → List Pending → Raw × List Pending) (old new : Waiting) : Type 0 where
  pub same : new ≡ old
  pub takes : (texts : List (List ℕ)) (r : Raw) → take r (waiting (known texts) old) ≡ (r, waiting (known texts) old)

-- a place shows the goal that an expression ends, and its sign waits no more
pub record IsGoal (old new : Waiting) (i j : RawAt) : Type 0 where
  pub fits : IsSound new
  pub inside : IsNode new j
  pub goes_on : (texts : List (List ℕ)) (t : Tok)
      → end_expression (tree (known texts) old i) (waiting (known texts) old) t ≡ operate (tree (known texts) new j) (waiting (known texts) new) t
  pub ends : (texts : List (List ℕ)) → final_expression (tree (known texts) old i) (waiting (known texts) old)
      ≡ (let q = reduce Close (tree (known texts) new j) (waiting (known texts) new) in end_with q.0 q.1)

-- no goal waits for an expression
pub record HasNoGoal (old new : Waiting) : Type 0 where
  pub same : new ≡ old
  pub goes_on : (texts : List (List ℕ)) (r : Raw) (t : Tok) → end_expression r (waiting (known texts) old) t ≡ close_number r (waiting (known texts) old) t
  pub ends : (texts : List (List ℕ)) (r : Raw) → final_expression r (waiting (known texts) old) ≡ None
