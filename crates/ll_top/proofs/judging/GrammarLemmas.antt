-- The faults of reading texts, by the role of a text.
use Rattle.std.proofs.Common.{◌≡◌, ℕ, List}
use Rattle.std.specs.Prelude.{Result, Ok, Err, IfErr, MatchResult}
use Rattle.ll_lexer.specs.declared.Place.{Place}
use Rattle.ll_lexer.specs.declared.Fault.{Fault}
use Rattle.ll_lexer.specs.declared.TextFault.{TextFault}
use Rattle.ll_lexer.specs.declared.TextFault.TheVariants as text_fault
use Rattle.ll_lexer.specs.Reading.{LexedText, IsLexed, IsCause as IsLexedCause}
use Rattle.ll_parser.specs.Tokens.{Tok, toks_of}
use Rattle.ll_parser.specs.Text.{programs, queries}
use Rattle.ll_parser.specs.Raw.{ProgramTree, Raw}
use Rattle.ll_parser.specs.Reads.{Reads, HasFault as HasTokenFault, IsCause as IsTokenCause}
use Rattle.ll_top.specs.declared.texts.judge.Role.{Role}
use Rattle.ll_top.specs.declared.texts.judge.Role.TheVariants.{Program, Query, Proof}
use Rattle.ll_top.specs.texts.Judging.{HasGrammarFault, IsReadingCause, lexical, grammatical, most_open}

-- the tokens of a text are read by the grammar as a program, or as a query
abbrev pub IsOfGrammar : Role → LexedText → Type 0
IsOfGrammar Program lexed = (tree : ProgramTree) × Reads programs most_open (toks_of lexed) tree
IsOfGrammar Query lexed = (tree : Raw) × Reads queries most_open (toks_of lexed) tree
IsOfGrammar Proof lexed = ⊥

-- what holds of programs and of queries, by the role of a text
pub one-grammar-fault : ((limit : ℕ) (ts : List Tok) (end : Place) (f g : Fault) → HasTokenFault programs limit ts end f → HasTokenFault programs limit ts end g
    → f ≡ g)
    → ((limit : ℕ) (ts : List Tok) (end : Place) (f g : Fault) → HasTokenFault queries limit ts end f → HasTokenFault queries limit ts end g → f ≡ g)
    → (role : Role) (l : LexedText) (f g : Fault) → HasGrammarFault role l f → HasGrammarFault role l g → f ≡ g
one-grammar-fault p q Program l f g h k = p most_open (toks_of l) l.end f g h k
one-grammar-fault p q Query l f g h k = q most_open (toks_of l) l.end f g h k
one-grammar-fault p q Proof l f g h k = absurd h

pub no-grammar-fault : ((limit : ℕ) (ts : List Tok) (end : Place) (t : ProgramTree) (f : Fault) → Reads programs limit ts t
    → HasTokenFault programs limit ts end f → ⊥)
    → ((limit : ℕ) (ts : List Tok) (end : Place) (t : Raw) (f : Fault) → Reads queries limit ts t → HasTokenFault queries limit ts end f → ⊥)
    → (role : Role) (l : LexedText) (f : Fault) → IsOfGrammar role l → HasGrammarFault role l f → ⊥
no-grammar-fault p q Program l f h k = p most_open (toks_of l) l.end h.0 f h.1 k
no-grammar-fault p q Query l f h k = q most_open (toks_of l) l.end h.0 f h.1 k
no-grammar-fault p q Proof l f h k = h

-- a text's fault, by its tokens
pub not-lexed : (role : Role) (text : List ℕ) (e : TextFault) → IsLexedCause text e → IsReadingCause role text e
not-lexed role text (text_fault.Text f) h = lexical h
not-lexed role text text_fault.OutOfMemory h = tt

program-wrong : (text : List ℕ) (l : LexedText) (e : TextFault) → l.text ≡ text → IsLexed l → IsTokenCause programs most_open (toks_of l) l.end e
    → IsReadingCause Program text e
program-wrong text l (text_fault.Text f) s h g = grammatical l s h g
program-wrong text l text_fault.OutOfMemory s h g = tt

query-wrong : (text : List ℕ) (l : LexedText) (e : TextFault) → l.text ≡ text → IsLexed l → IsTokenCause queries most_open (toks_of l) l.end e
    → IsReadingCause Query text e
query-wrong text l (text_fault.Text f) s h g = grammatical l s h g
query-wrong text l text_fault.OutOfMemory s h g = tt

-- a text that is read, or not
pub program-unread : {A : Type 0} (Good : A → Type 0) (text : List ℕ) (l : LexedText) (r : Result A TextFault) → l.text ≡ text → IsLexed l
    → MatchResult r Good (λ e. IsTokenCause programs most_open (toks_of l) l.end e) → IfErr r (λ e. IsReadingCause Program text e)
program-unread Good text l (Ok x) s h g = tt
program-unread Good text l (Err e) s h g = program-wrong text l e s h g

pub query-unread : {A : Type 0} (Good : A → Type 0) (text : List ℕ) (l : LexedText) (r : Result A TextFault) → l.text ≡ text → IsLexed l
    → MatchResult r Good (λ e. IsTokenCause queries most_open (toks_of l) l.end e) → IfErr r (λ e. IsReadingCause Query text e)
query-unread Good text l (Ok x) s h g = tt
query-unread Good text l (Err e) s h g = query-wrong text l e s h g
