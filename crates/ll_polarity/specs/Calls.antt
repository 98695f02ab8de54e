-- The names whose arguments are being put in, and what comes of them.
use Rattle.std.specs.Prelude.{◌≡◌, ℕ, suc, ◌<◌, List, [], ◌∷◌, ◌++◌, length}
use Rattle.ll_bank.specs.declared.At.{At}
use Rattle.ll_bank.specs.Term.{Term}
use Rattle.ll_bank.specs.Nodes.{Nodes, term_tree, term_trees, HasTerm, AllInTerms, ShowsTerm}
use Rattle.ll_parser.specs.declared.RawAt.{RawAt}
use Rattle.ll_parser.specs.Nodes.{Node, raw_at}
use Rattle.ll_parser.specs.Raw.{RawList, none, more}
use Rattle.ll_polarity.specs.declared.put_terms.Call.{Call}
use Rattle.ll_polarity.specs.declared.put_terms.Turn.{Turn}
use Rattle.ll_polarity.specs.declared.put_terms.Turn.TheVariants as turn
use Rattle.ll_polarity.specs.Reading.{Met, Read}
use Rattle.ll_polarity.specs.Named.{IsNamed}
use Rattle.ll_polarity.specs.Built.{Around, applied, built_term, built_terms, arguments, raws_past}
use Rattle.ll_polarity.specs.Standing.{front_term}

-- where a term stands: the texts of the names, the nodes of the raw trees, and what is round it
pub record Site : Type 0 where
  pub texts : List (List ℕ)
  pub forms : List Node
  pub around : Around

-- the arguments of a name from one on
abbrev pub arguments_from : List (List ℕ) → List Node → ℕ → Call → RawList
arguments_from texts forms number c = raws_past number (arguments (raw_at texts forms c.at.0))

-- a name with the arguments that are put in, the term t, and those behind it
abbrev pub gives : Site → Nodes → Call → Read Term → Read Term
gives s bank c t =
    let ts = built_terms s.around t.met (arguments_from s.texts s.forms (suc (length c.args.items)) c) in
    record { it = applied (front_term c.front) (term_trees bank c.args.items ++ t.it ∷ ts.it); met = ts.met }

-- a name with the arguments that are put in and those behind them
abbrev pub goes_on : Site → Nodes → Call → Met → Read Term
goes_on s bank c met =
    let ts = built_terms s.around met (arguments_from s.texts s.forms (length c.args.items) c) in
    record { it = applied (front_term c.front) (term_trees bank c.args.items ++ ts.it); met = ts.met }

-- what comes next
abbrev pub opens : Site → Nodes → Turn → Met → Read Term
opens s bank (turn.Read at) met = built_term s.around met (raw_at s.texts s.forms at.0)
opens s bank (turn.Resume c) met = goes_on s bank c met
opens s bank (turn.Give t) met = record { it = term_tree bank t.0; met = met }

-- what the names that wait, the newest last, make of a term
abbrev pub finished : Site → Nodes → List Call → Read Term → Read Term
finished s bank [] t = t
finished s bank (c ∷ cs) t = gives s bank c (finished s bank cs t)

-- the place is that of a raw tree whose names have texts
pub record IsReady (texts : List (List ℕ)) (forms : List Node) (at : ℕ) : Type 0 where
  pub inside : at < length forms
  pub named : IsNamed (raw_at texts forms at)

pub record CallFits (texts : List (List ℕ)) (forms : List Node) (bank : Nodes) (c : Call) : Type 0 where
  pub ready : IsReady texts forms c.at.0
  pub args : AllInTerms bank c.args.items

abbrev pub CallsFit : List (List ℕ) → List Node → Nodes → List Call → Type 0
CallsFit texts forms bank [] = Unit {0}
CallsFit texts forms bank (c ∷ cs) = CallFits texts forms bank c × CallsFit texts forms bank cs

abbrev pub TurnFits : List (List ℕ) → List Node → Nodes → Turn → Type 0
TurnFits texts forms bank (turn.Read at) = IsReady texts forms at.0
TurnFits texts forms bank (turn.Resume c) = CallFits texts forms bank c
TurnFits texts forms bank (turn.Give t) = HasTerm bank t.0

-- a term was begun: its name waits for the first argument, or it is whole
abbrev pub IsBegun : RawAt → Turn → Type 0
IsBegun at (turn.Read other) = ⊥
IsBegun at (turn.Resume c) = (c.at ≡ at) × (c.args.items ≡ [])
IsBegun at (turn.Give t) = Unit {0}

-- a name waits for its next argument
pub record Waits (forms : List Node) (old new : Nodes) (calls later : List Call) (c : Call) (arg : RawAt) : Type 0 where
  pub waiting : later ≡ calls ++ c ∷ []
  pub bank : new ≡ old
  pub inside : arg.0 < length forms
  pub next : (texts : List (List ℕ)) → arguments_from texts forms (length c.args.items) c
      ≡ more (raw_at texts forms arg.0) (arguments_from texts forms (suc (length c.args.items)) c)

-- a name has all its arguments
pub record Ends (forms : List Node) (old new : Nodes) (calls later : List Call) (c : Call) (t : At) : Type 0 where
  pub waiting : later ≡ calls
  pub shows : ShowsTerm new t.0 (applied (front_term c.front) (term_trees old c.args.items))
  pub last : (texts : List (List ℕ)) → arguments_from texts forms (length c.args.items) c ≡ none

abbrev pub IsResumed : List Node → Nodes → Nodes → List Call → List Call → Call → Turn → Type 0
IsResumed forms old new calls later c (turn.Read arg) = Waits forms old new calls later c arg
IsResumed forms old new calls later c (turn.Resume other) = ⊥
IsResumed forms old new calls later c (turn.Give t) = Ends forms old new calls later c t

-- a name with one more argument
pub record HasOneMore (c later : Call) (t : At) : Type 0 where
  pub front : later.front ≡ c.front
  pub at : later.at ≡ c.at
  pub args : later.args.items ≡ c.args.items ++ t ∷ []

abbrev pub IsGiven : Call → At → Turn → Type 0
IsGiven c t (turn.Read at) = ⊥
IsGiven c t (turn.Resume later) = HasOneMore c later t
IsGiven c t (turn.Give u) = ⊥
