-- What the text of a query asks: one problem, or it has one fault.
use Rattle.std.proofs.Common.{◌≡◌, ◌⊎◌, ℕ, List, [], ◌∷◌, map, refl, sym, ◌∙◌, ap, subst, inl, inr}
use Rattle.std.specs.Prelude.{Result, Ok, Err, IfErr, MatchResult}
use Rattle.ll_lexer.specs.declared.Place.{Place}
use Rattle.ll_lexer.specs.declared.Fault.{Fault}
use Rattle.ll_lexer.specs.declared.TextFault.{TextFault}
use Rattle.ll_lexer.specs.declared.TextFault.TheVariants as text_fault
use Rattle.ll_lexer.specs.Reading.{LexedText, IsLexed, HasFault, IsCause as IsLexedCause}
use Rattle.ll_laws.specs.Problem.{ProblemTree}
use Rattle.ll_parser.specs.Tokens.{Tok, toks_of}
use Rattle.ll_parser.specs.Text.{queries}
use Rattle.ll_parser.specs.Raw.{ProgramTree, Raw}
use Rattle.ll_parser.specs.Reads.{Reads, HasFault as HasTokenFault, IsCause as IsTokenCause}
use Rattle.ll_polarity.specs.Faults.{heading, program_faults, query_faults}
use Rattle.ll_polarity.specs.Asks.{ProgramPart, part_of, problem_with, IsFirst, HasQueryFault}
use Rattle.ll_polarity.specs.Causes.{IsCauseOf}
use Rattle.ll_session.specs.Reading.{most_open, IsQueryText, IsQueryFault, lexical, grammatical, of_scope, TextAsks, IsUnreadCause}
use Rattle.ll_session.proofs.Lexes.{lexed-or-not}

-- ---- causes

pub not-lexed : (text : List ℕ) (e : TextFault) → IsLexedCause text e → IsUnreadCause text e
not-lexed text (text_fault.Text f) h = λ program. lexical h
not-lexed text text_fault.OutOfMemory h = tt

wrong : (text : List ℕ) (l : LexedText) (e : TextFault) → l.text ≡ text → IsLexed l → IsTokenCause queries most_open (toks_of l) l.end e → IsUnreadCause text e
wrong text l (text_fault.Text f) s h g = λ program. grammatical l s h g
wrong text l text_fault.OutOfMemory s h g = tt

-- a text that is read, or not
pub unread : {A : Type 0} (Good : A → Type 0) (text : List ℕ) (l : LexedText) (r : Result A TextFault) → l.text ≡ text → IsLexed l
    → MatchResult r Good (λ e. IsTokenCause queries most_open (toks_of l) l.end e) → IfErr r (λ e. IsUnreadCause text e)
unread Good text l (Ok x) s h g = tt
unread Good text l (Err e) s h g = wrong text l e s h g

-- a text that is not read asks nothing of any part
pub unread-asks : (part : ProgramPart) (text : List ℕ) (e : TextFault) → IsUnreadCause text e
    → IsCauseOf (λ f. (program : ProgramTree) → part ≡ part_of program → IsQueryFault program text f) e
unread-asks part text (text_fault.Text f) h = λ program is. h program
unread-asks part text text_fault.OutOfMemory h = tt

pub unasked : (part : ProgramPart) (text : List ℕ) (tree : Raw) (e : TextFault) → IsQueryText text tree
    → IsCauseOf (λ f. (program : ProgramTree) → part ≡ part_of program → HasQueryFault program tree f) e
    → IsCauseOf (λ f. (program : ProgramTree) → part ≡ part_of program → IsQueryFault program text f) e
unasked part text tree (text_fault.Text f) q h = λ program is. of_scope tree q (h program is)
unasked part text tree text_fault.OutOfMemory q h = tt

-- ---- one problem or one fault

-- of faults one is the first
pub one-first : (f g : Fault) (fs : List Fault) → IsFirst f fs → IsFirst g fs → f ≡ g
one-first f g fs h k = let a = h.1 in let b = k.1 in cc

-- where there are no faults none is
pub none-first : (f : Fault) (fs : List Fault) → fs ≡ [] → IsFirst f fs → ⊥
none-first f fs e h = let a = h.1 in cc

-- where texts have one list of tokens, and tokens one tree, the text of a query is one query's
pub query-once : ((a b : LexedText) → a.text ≡ b.text → IsLexed a → IsLexed b → a ≡ b)
    → ((limit : ℕ) (ts : List Tok) (r s : Raw) → Reads queries limit ts r → Reads queries limit ts s → r ≡ s)
    → (text : List ℕ) (p q : Raw) → IsQueryText text p → IsQueryText text q → p ≡ q
query-once same one_tree text p q h k =
    let s = same h.lexed k.lexed (h.of_text ∙ sym k.of_text) h.is_lexed k.is_lexed in
    one_tree most_open (toks_of k.lexed) p q (subst (λ l. Reads queries most_open (toks_of l) p) s h.reads) k.reads

module _ (same : (a b : LexedText) → a.text ≡ b.text → IsLexed a → IsLexed b → a ≡ b) (one : (text : List ℕ) (f g : Fault) → HasFault text f → HasFault text g
    → f ≡ g)
    (not_both : (a : LexedText) (f : Fault) → IsLexed a → HasFault a.text f → ⊥)
    (either_query : (limit : ℕ) (ts : List Tok) (end : Place) → ((r : Raw) × Reads queries limit ts r) ⊎ ((f : Fault) × HasTokenFault queries limit ts end f))
    (one_tree : (limit : ℕ) (ts : List Tok) (r s : Raw) → Reads queries limit ts r → Reads queries limit ts s → r ≡ s)
    (one_token : (limit : ℕ) (ts : List Tok) (end : Place) (f g : Fault) → HasTokenFault queries limit ts end f → HasTokenFault queries limit ts end g → f ≡ g)
    (no_token : (limit : ℕ) (ts : List Tok) (end : Place) (r : Raw) (f : Fault) → Reads queries limit ts r → HasTokenFault queries limit ts end f → ⊥) where
  -- the tokens of a text, whichever way they were found
  same-tokens : {text : List ℕ} (a b : LexedText) → a.text ≡ text → b.text ≡ text → IsLexed a → IsLexed b → a ≡ b
  same-tokens a b e d h k = same a b (e ∙ sym d) h k

  apart : {text : List ℕ} (l : LexedText) (f : Fault) → l.text ≡ text → IsLexed l → HasFault text f → ⊥
  apart l f e h g = not_both l f h (subst (λ t. HasFault t f) (sym e) g)

  -- a fault of reading, of a text that is read
  read-no-fault : (text : List ℕ) (tree : Raw) (l : LexedText) (f : Fault) → IsQueryText text tree → l.text ≡ text → IsLexed l
      → HasTokenFault queries most_open (toks_of l) l.end f → ⊥
  read-no-fault text tree l f q e h g =
      let s = same-tokens {text = text} l q.lexed e q.of_text h q.is_lexed in
      no_token most_open (toks_of q.lexed) q.lexed.end tree f q.reads (subst (λ x. HasTokenFault queries most_open (toks_of x) x.end f) s g)

  pub one-fault : (program : ProgramTree) (text : List ℕ) (f g : Fault) → IsQueryFault program text f → IsQueryFault program text g → f ≡ g
  one-fault program text f g (lexical h) (lexical k) = one text f g h k
  one-fault program text f g (lexical h) (grammatical l e k b) = absurd (apart l f e k h)
  one-fault program text f g (lexical h) (of_scope t r k) = absurd (apart r.lexed f r.of_text r.is_lexed h)
  one-fault program text f g (grammatical l e h b) (lexical k) = absurd (apart l g e h k)
  one-fault program text f g (grammatical l e h b) (grammatical m d j c) =
      let s = same-tokens {text = text} l m e d h j in
      one_token most_open (toks_of m) m.end f g (subst (λ x. HasTokenFault queries most_open (toks_of x) x.end f) s b) c
  one-fault program text f g (grammatical l e h b) (of_scope t r k) = absurd (read-no-fault text t l f r e h b)
  one-fault program text f g (of_scope t r h) (lexical k) = absurd (apart r.lexed g r.of_text r.is_lexed k)
  one-fault program text f g (of_scope t r h) (grammatical l e k b) = absurd (read-no-fault text t l g r e k b)
  one-fault program text f g (of_scope t r h) (of_scope u s k) =
      one-first f g (query_faults (map heading program.modules) u) (subst (λ x. HasQueryFault program x f) (query-once same one_tree text t u r s) h) k

  pub one-problem : (program : ProgramTree) (text : List ℕ) (bound : ℕ) (p q : ProblemTree) → TextAsks program text bound p → TextAsks program text bound q
      → p ≡ q
  one-problem program text bound p q h k =
      h.asks.is ∙ (ap (λ tree. problem_with (part_of program) tree bound) (query-once same one_tree text h.tree k.tree h.is_query k.is_query) ∙ sym k.asks.is)

  pub asks-no-fault : (program : ProgramTree) (text : List ℕ) (bound : ℕ) (p : ProblemTree) (f : Fault) → TextAsks program text bound p
      → IsQueryFault program text f → ⊥
  asks-no-fault program text bound p f h (lexical k) = apart h.is_query.lexed f h.is_query.of_text h.is_query.is_lexed k
  asks-no-fault program text bound p f h (grammatical l e k b) = read-no-fault text h.tree l f h.is_query e k b
  asks-no-fault program text bound p f h (of_scope t r k) =
      none-first f (query_faults (map heading program.modules) t)
      (subst (λ x. query_faults (map heading program.modules) x ≡ []) (query-once same one_tree text h.tree t h.is_query r) h.asks.query_faultless) k

  -- a text that is read asks a problem, or has a fault of scope or sorting
  read-asks : (program : ProgramTree) → program_faults program ≡ [] → (bound : ℕ) (text : List ℕ) (tree : Raw) → IsQueryText text tree → (faults : List Fault)
      → query_faults (map heading program.modules) tree ≡ faults
      → ((p : ProblemTree) × TextAsks program text bound p) ⊎ ((f : Fault) × IsQueryFault program text f)
  read-asks program none bound text tree q [] e =
      inl (
        problem_with (part_of program) tree bound,
        record {
          tree = tree;
          is_query = q;
          asks =
              record { program_faultless = none; query_faultless = e; is = refl };
        },
      )
  read-asks program none bound text tree q (f ∷ fs) e = inr (f, of_scope tree q (fs, e))

  pub asks-or-fails : (program : ProgramTree) → program_faults program ≡ [] → (bound : ℕ) (text : List ℕ)
      → ((p : ProblemTree) × TextAsks program text bound p) ⊎ ((f : Fault) × IsQueryFault program text f)
  asks-or-fails program none bound text = elim (lexed-or-not text) [
    | inl l ↦ elim (either_query most_open (toks_of l.0) l.0.end) [
      | inl r ↦ read-asks program none bound text r.0 (record { lexed = l.0; of_text = l.1.0; is_lexed = l.1.1; reads = r.1 })
          (query_faults (map heading program.modules) r.0) refl
      | inr f ↦ inr (f.0, grammatical l.0 l.1.0 l.1.1 f.1)
    ]
    | inr f ↦ inr (f.0, lexical f.1)
  ]
