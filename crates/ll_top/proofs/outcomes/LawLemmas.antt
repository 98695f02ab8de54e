-- Texts determine what a run, a print, a check and a cover come to.
use Rattle.std.proofs.Common.{◌≡◌, ◌<◌, ◌≤◌, ◌^◌, ℕ, List, [], ◌∷◌, length, Option, Some, None, refl, ap, sym, subst, ◌∙◌, arith}
use Rattle.std.specs.Prelude.{IsSomeAnd, map, false}
use Rattle.std.specs.List.{list_any, position_from, IsDistinct}
use Rattle.ll_edge.specs.Texts.{Texts, text_of}
use Rattle.ll_laws.specs.Problem.{ProblemTree}
use Rattle.ll_laws.specs.Output.{run_status}
use Rattle.ll_laws.specs.Fault.{Fault as FaultAt}
use Rattle.ll_cover.specs.Covering.{NamesFirst}
use Rattle.ll_cover.proofs.CallerLemmas.{first_once}
use Rattle.ll_laws.specs.Line.{DerivationLines, trees_of, counts_numbers}
use Rattle.ll_laws.specs.Shows.{Tree}
use Rattle.ll_laws.specs.Verdict.{DerivationShows, first_fault}
use Rattle.ll_top.proofs.verdicts.CountingLemmas.{none-counts}
use Rattle.std.specs.Str.{bytes_eq}
use Rattle.ll_bank.specs.Names.{with_names}
use Rattle.ll_prooftext.specs.Mentions.{text_names}
use Rattle.ll_lexer.specs.declared.Fault.{Fault}
use Rattle.ll_lexer.specs.Reading.{LexedText, IsLexed, HasFault, IsLexedOnce, HasFaultOnce, IsLexedOrFaulty}
use Rattle.ll_parser.specs.Tokens.{Tok, toks_of}
use Rattle.ll_parser.specs.Raw.{Raw, ProgramTree}
use Rattle.ll_parser.specs.Text.{programs, queries}
use Rattle.ll_parser.specs.Reads.{Reads}
use Rattle.ll_parser.specs.Printed.{program_text}
use Rattle.ll_polarity.specs.Faults.{heading, program_faults, query_faults}
use Rattle.ll_polarity.specs.Asks.{part_of, problem_with, HasProgramFault, HasQueryFault}
use Rattle.ll_top.specs.declared.texts.judge.Role.{Role}
use Rattle.ll_top.specs.declared.texts.judge.Role.TheVariants.{Program, Query}
use Rattle.ll_top.specs.forms.Words.{RunWords, SessionWords, DeepenWords, CheckWords, ConvertWords}
use Rattle.ll_make.specs.Kinds.{query_text}
use Rattle.ll_top.specs.Making.{make_text}
use Rattle.ll_top.specs.forms.Making.{MadeRunWords}
use Rattle.ll_top.specs.MadeRuns.{MadeRunComesTo, last_line}
use Rattle.ll_top.specs.texts.Faults.{Cause, Absent, Oversized, Faulty, fault_text, cause_status}
use Rattle.ll_top.specs.texts.Judging.{HasGrammarFault, IsProgramText, IsQueryText, IsReadingFault, lexical, grammatical, IsFaultless, IsProgramFault}
use Rattle.ll_top.specs.texts.Judging.{of_program_reading, of_program_scope, IsQueryFault, of_query_reading, of_query_scope, IsTextFault, of_program, of_query}
use Rattle.ll_top.specs.texts.Judging.{TextsAsk, most_open, IsCheckFault, of_run_texts, of_proof, TextsGive}
use Rattle.ll_top.specs.checks.Verdicts.{yes_text, no_text, covered_text, too_long_text, counts_text}
use Rattle.ll_top.specs.texts.Outcome.{AnyName, NoName, name_of, IsRead, Reaches, first, later, run_texts, ReadFails, absent, unreadable, oversized, RunFails}
use Rattle.ll_top.specs.texts.Outcome.{not_read, faulty}
use Rattle.ll_top.specs.texts.Outcome.{RunAsks, IsPrintedAs, PrintFails, source_not_read, faulty_source, PrintComesTo, printed, print_failed, longest_text}
use Rattle.ll_top.specs.Outcome.{status_of_run, text_of_run, RunComesTo, ran, failed}
use Rattle.ll_top.specs.checks.Outcome.{name_in_check, check_texts, CheckFails, texts_not_read, faulty_text, CheckGives}
use Rattle.ll_top.specs.checks.Outcome.{bound_in, IsRefuted, IsCovered, CountsAt, CheckComesTo, shown, refuted, covered, too_long, counting, check_failed}
use Rattle.ll_top.proofs.judging.GrammarLemmas.{IsOfGrammar}
use Rattle.ll_top.proofs.calls.DistinctNames.{none-differ, differ-names, differ-problem}
use Rattle.ll_prooftext.specs.Versions.{IsTextIn, IsProofText, HasFaultIn}
use Rattle.ll_prooftext.specs.Sizes.{text_in}
use Rattle.ll_session.specs.Queries.{QueryLine, HaveQueries}
use Rattle.ll_session.proofs.CallerLemmas.{one-first, none-first, query-once}
use Rattle.ll_top.specs.Sessions.{SessionComesTo}
use Rattle.ll_top.specs.Deepening.{DeepenComesTo}
use Rattle.ll_top.specs.texts.Converting.{own_names, IsConverted, ConvertFails, proof_not_read}
use Rattle.ll_top.specs.texts.Converting.{faulty_proof, too_long_as, ConvertComesTo, converted, convert_failed}
use Rattle.ll_top.proofs.outcomes.SessionLaws.{sessions-one}
use Rattle.ll_top.proofs.outcomes.DeepenLaws.{deepens-one}
use Rattle.ll_top.proofs.outcomes.OneText.{some-same}

-- ---- texts

-- what is known of the reading of texts: each has one list of tokens or one fault; these have one tree or one fault by the grammar; and the
-- text of a derivation is of one derivation or has one fault
pub record Laws : Type 0 where
  pub same : IsLexedOnce
  pub one : HasFaultOnce
  pub not_both : IsLexedOrFaulty
  pub one_grammar : (role : Role) (l : LexedText) (f g : Fault) → HasGrammarFault role l f → HasGrammarFault role l g → f ≡ g
  pub no_grammar : (role : Role) (l : LexedText) (f : Fault) → IsOfGrammar role l → HasGrammarFault role l f → ⊥
  pub one_tree : (limit : ℕ) (ts : List Tok) (p q : ProgramTree) → Reads programs limit ts p → Reads programs limit ts q → p ≡ q
  pub one_goal : (limit : ℕ) (ts : List Tok) (p q : Raw) → Reads queries limit ts p → Reads queries limit ts q → p ≡ q
  pub one_derivation : (names : List (List ℕ)) (text : List ℕ) (v w : ℕ) (d e : DerivationLines) → IsDistinct bytes_eq names → length text < 2 ^ 64
      → IsTextIn v names text d → IsTextIn w names text e → (v ≡ w) × (d ≡ e)
  pub one_proof : (text : List ℕ) (f g : Fault) → length text < 2 ^ 64 → HasFaultIn text f → HasFaultIn text g → f ≡ g
  pub no_proof_fault : (names : List (List ℕ)) (text : List ℕ) (v : ℕ) (d : DerivationLines) (f : Fault) → IsDistinct bytes_eq names → length text < 2 ^ 64
      → IsTextIn v names text d → HasFaultIn text f → ⊥

module _ (laws : Laws) where
  apart : (text : List ℕ) (l : LexedText) (f : Fault) → l.text ≡ text → IsLexed l → HasFault text f → ⊥
  apart text l f e h g = laws.not_both l f h (subst (λ t. HasFault t f) (sym e) g)

  -- a fault by the grammar, of the same text
  moved : (role : Role) (l m : LexedText) (f : Fault) → l ≡ m → HasGrammarFault role l f → HasGrammarFault role m f
  moved role l m f e h = subst (λ x. HasGrammarFault role x f) e h

  one-reading-fault : (role : Role) (text : List ℕ) (f g : Fault) → IsReadingFault role text f → IsReadingFault role text g → f ≡ g
  one-reading-fault role text f g (lexical h) (lexical k) = laws.one text f g h k
  one-reading-fault role text f g (lexical h) (grammatical l e k b) = absurd (apart text l f e k h)
  one-reading-fault role text f g (grammatical l e h b) (lexical k) = absurd (apart text l g e h k)
  one-reading-fault role text f g (grammatical l e h b) (grammatical m d j c) =
      laws.one_grammar role m f g (moved role l m f (laws.same l m (e ∙ sym d) h j) b) c

  -- a text whose tokens are read by the grammar
  read-no-fault : (role : Role) (text : List ℕ) (l : LexedText) (f : Fault) → l.text ≡ text → IsLexed l → IsOfGrammar role l → IsReadingFault role text f → ⊥
  read-no-fault role text l f e h r (lexical k) = apart text l f e h k
  read-no-fault role text l f e h r (grammatical m d j c) = laws.no_grammar role l f r (moved role m l f (laws.same m l (d ∙ sym e) j h) c)

  -- ---- programs

  program-no-fault : (text : List ℕ) (tree : ProgramTree) (f : Fault) → IsProgramText text tree → IsReadingFault Program text f → ⊥
  program-no-fault text tree f p h = read-no-fault Program text p.lexed f p.of_text p.is_lexed (tree, p.reads) h

  pub one-program : (text : List ℕ) (p q : ProgramTree) → IsProgramText text p → IsProgramText text q → p ≡ q
  one-program text p q h k =
      let s = laws.same h.lexed k.lexed (h.of_text ∙ sym k.of_text) h.is_lexed k.is_lexed in
      laws.one_tree most_open (toks_of k.lexed) p q (subst (λ l. Reads programs most_open (toks_of l) p) s h.reads) k.reads

  -- ---- queries

  query-no-fault : (text : List ℕ) (tree : Raw) (f : Fault) → IsQueryText text tree → IsReadingFault Query text f → ⊥
  query-no-fault text tree f p h = read-no-fault Query text p.lexed f p.of_text p.is_lexed (tree, p.reads) h

  -- ---- scope and sorting

  pub one-program-fault : (text : List ℕ) (f g : Fault) → IsProgramFault text f → IsProgramFault text g → f ≡ g
  one-program-fault text f g (of_program_reading h) (of_program_reading k) = one-reading-fault Program text f g h k
  one-program-fault text f g (of_program_reading h) (of_program_scope t r k) = absurd (program-no-fault text t f r h)
  one-program-fault text f g (of_program_scope t r h) (of_program_reading k) = absurd (program-no-fault text t g r k)
  one-program-fault text f g (of_program_scope t r h) (of_program_scope u s k) =
      one-first f g (program_faults u) (subst (λ x. HasProgramFault x f) (one-program text t u r s) h) k

  pub faultless-no-fault : (text : List ℕ) (t : ProgramTree) (f : Fault) → IsFaultless text t → IsProgramFault text f → ⊥
  faultless-no-fault text t f p (of_program_reading h) = program-no-fault text t f p.is_program h
  faultless-no-fault text t f p (of_program_scope u s h) = none-first f (program_faults u)
      (subst (λ x. program_faults x ≡ []) (one-program text t u p.is_program s) p.faultless) h

  one-query-fault : (program : ProgramTree) (text : List ℕ) (f g : Fault) → IsQueryFault program text f → IsQueryFault program text g → f ≡ g
  one-query-fault program text f g (of_query_reading h) (of_query_reading k) = one-reading-fault Query text f g h k
  one-query-fault program text f g (of_query_reading h) (of_query_scope t r k) = absurd (query-no-fault text t f r h)
  one-query-fault program text f g (of_query_scope t r h) (of_query_reading k) = absurd (query-no-fault text t g r k)
  one-query-fault program text f g (of_query_scope t r h) (of_query_scope u s k) =
      one-first f g (query_faults (map heading program.modules) u) (subst (λ x. HasQueryFault program x f) (query-once laws.same laws.one_goal text t u r s) h)
      k

  -- two texts have one fault
  one-fault : (program query : List ℕ) (r s : Role) (f g : Fault) → IsTextFault program query r f → IsTextFault program query s g → (r ≡ s) × (f ≡ g)
  one-fault program query _ _ f g (of_program h) (of_program k) = (refl, one-program-fault program f g h k)
  one-fault program query _ _ f g (of_program h) (of_query t l k) = absurd (faultless-no-fault program t f l h)
  one-fault program query _ _ f g (of_query t l h) (of_program k) = absurd (faultless-no-fault program t g l k)
  one-fault program query _ _ f g (of_query t l h) (of_query u m k) =
      (refl, one-query-fault u query f g (subst (λ x. IsQueryFault x query f) (one-program program t u l.is_program m.is_program) h) k)

  -- texts that ask a problem have no fault
  pub asks-no-fault : (program query : List ℕ) (bound : ℕ) (p : ProblemTree) (role : Role) (f : Fault) → TextsAsk program query bound p
      → IsTextFault program query role f → ⊥
  asks-no-fault program query bound p _ f a (of_program h) =
      faultless-no-fault program a.program_tree f (record { is_program = a.is_program; faultless = a.asks.program_faultless }) h
  asks-no-fault program query bound p _ f a (of_query t l (of_query_reading h)) = query-no-fault query a.query_tree f a.is_query h
  asks-no-fault program query bound p _ f a (of_query t l (of_query_scope u s h)) =
      let e = one-program program a.program_tree t a.is_program l.is_program in
      let g = query-once laws.same laws.one_goal query a.query_tree u a.is_query s in
      none-first f (query_faults (map heading t.modules) u) (subst (λ x. query_faults (map heading x.modules) u ≡ []) e
      (subst (λ x. query_faults (map heading a.program_tree.modules) x ≡ []) g a.asks.query_faultless)) h

  -- and they ask one
  one-asked : (program query : List ℕ) (bound : ℕ) (p q : ProblemTree) → TextsAsk program query bound p → TextsAsk program query bound q → p ≡ q
  one-asked program query bound p q a b =
      let e = one-program program a.program_tree b.program_tree a.is_program b.is_program in
      let g = query-once laws.same laws.one_goal query a.query_tree b.query_tree a.is_query b.is_query in
      a.asks.is ∙ (ap (λ x. problem_with (part_of x) a.query_tree bound) e ∙ (ap (λ x. problem_with (part_of b.program_tree) x bound) g ∙ sym b.asks.is))

  -- ---- derivations

  short : (text : List ℕ) → length text ≤ longest_text → length text < 2 ^ 64
  short text l = omega arith

  -- three texts have one fault
  one-check-fault : (program query proof : List ℕ) (r s : Role) (f g : Fault) → length proof ≤ longest_text → IsCheckFault program query proof r f
      → IsCheckFault program query proof s g → (r ≡ s) × (f ≡ g)
  one-check-fault program query proof r s f g l (of_run_texts h) (of_run_texts k) = one-fault program query r s f g h k
  one-check-fault program query proof r _ f g l (of_run_texts h) (of_proof b p a k) = absurd (asks-no-fault program query b p r f a h)
  one-check-fault program query proof _ s f g l (of_proof b p a h) (of_run_texts k) = absurd (asks-no-fault program query b p s g a k)
  one-check-fault program query proof _ _ f g l (of_proof b p a h) (of_proof c q d k) = (refl, laws.one_proof proof f g (short proof l) h k)

  -- the names of a problem that texts ask differ, and so do they with those that a derivation's text mentions
  pub given-differ : (program query proof : List ℕ) (bound : ℕ) (p : ProblemTree) → TextsAsk program query bound p
      → IsDistinct bytes_eq (with_names p.names (text_names proof))
  given-differ program query proof bound p a =
      differ-names p.names (text_names proof) (subst (λ x. IsDistinct bytes_eq x.names) (sym a.asks.is) (differ-problem a.program_tree a.query_tree bound))

  -- a text of a derivation is of one
  one-proof-text : (names : List (List ℕ)) (text : List ℕ) (d e : DerivationLines) → IsDistinct bytes_eq names → length text ≤ longest_text
      → IsProofText names text d → IsProofText names text e → d ≡ e
  one-proof-text names text d e n l a b = (laws.one_derivation names text a.version b.version d e n (short text l) a.is_text b.is_text).1

  proof-no-fault : (names : List (List ℕ)) (text : List ℕ) (d : DerivationLines) (f : Fault) → IsDistinct bytes_eq names → length text ≤ longest_text
      → IsProofText names text d → HasFaultIn text f → ⊥
  proof-no-fault names text d f n l a h = laws.no_proof_fault names text a.version d f n (short text l) a.is_text h

  -- texts that give a problem and a derivation have no fault
  gives-no-fault : (program query proof : List ℕ) (bound : ℕ) (p : ProblemTree) (d : DerivationLines) (role : Role) (f : Fault) → length proof ≤ longest_text
      → TextsGive program query proof bound p d → IsCheckFault program query proof role f → ⊥
  gives-no-fault program query proof bound p d role f l a (of_run_texts h) = asks-no-fault program query bound p role f a.asks h
  gives-no-fault program query proof bound p d _ f l a (of_proof c q b h) =
      proof-no-fault (with_names p.names (text_names proof)) proof d f (given-differ program query proof bound p a.asks) l a.is_text h

  -- and they give one problem and one derivation
  one-given : (program query proof : List ℕ) (bound : ℕ) (p q : ProblemTree) (d e : DerivationLines) → length proof ≤ longest_text
      → TextsGive program query proof bound p d → TextsGive program query proof bound q e → (p ≡ q) × (d ≡ e)
  one-given program query proof bound p q d e l a b =
      let o = one-asked program query bound p q a.asks b.asks in
      let moved = subst (λ x. IsProofText (with_names x.names (text_names proof)) proof d) o a.is_text in
      (o, one-proof-text (with_names q.names (text_names proof)) proof d e (given-differ program query proof bound q b.asks) l moved b.is_text)

  -- ---- reading

  module _ (texts : Texts) where
    pub one-read : (name a b : List ℕ) → IsRead (Some texts) name a → IsRead (Some texts) name b → a ≡ b
    one-read name a b h k = some-same a b (text_of texts name) h.found k.found

    abbrev IsNotRead : List ℕ → Type 0
    IsNotRead name = (text : List ℕ) → IsRead (Some texts) name text → ⊥

    -- a text that is absent or too long is not read
    absent-not-read : (name : List ℕ) → text_of texts name ≡ None → IsNotRead name
    absent-not-read name e text h = let f = h.found in cc

    long-not-read : (name : List ℕ) (found : Option (List ℕ)) → text_of texts name ≡ found → IsSomeAnd found (λ text. longest_text < length text)
        → IsNotRead name
    long-not-read name None e l text h = absurd l
    long-not-read name (Some other) e l text h =
        let s : other ≡ text = some-same other text (text_of texts name) e h.found in
        let w = h.within in
        let len = ap length s in
        omega arith

    -- it is the turn of one text that is not read
    one-turn : (names : List (List ℕ)) (a b : List ℕ) → Reaches (Some texts) names a → Reaches (Some texts) names b → IsNotRead a → IsNotRead b → a ≡ b
    one-turn names a b first first h k = refl
    one-turn names a b first (later text r s) h k = absurd (h text r)
    one-turn names a b (later text r s) first h k = absurd (k text r)
    one-turn names a b (later text r s) (later other q t) h k = one-turn _ a b s t h k

    -- all texts of these names are read
    abbrev AreRead : List (List ℕ) → Type 0
    AreRead [] = Unit {0}
    AreRead (name ∷ names) = ((text : List ℕ) × IsRead (Some texts) name text) × AreRead names

    turn-read : (names : List (List ℕ)) (name : List ℕ) → AreRead names → Reaches (Some texts) names name → IsNotRead name → ⊥
    turn-read _ name r first h = h r.0.0 r.0.1
    turn-read (other ∷ names) name r (later text q s) h = turn-read names name r.1 s h

    none-long : (name : List ℕ) (found : Option (List ℕ)) → text_of texts name ≡ found → text_of texts name ≡ None
        → IsSomeAnd found (λ text. longest_text < length text) → ⊥
    none-long name None e f l = l
    none-long name (Some text) e f l = cc

    module _ (names : List (List ℕ)) where
      -- the same text is absent and too long
      clash : (a b : List ℕ) → Reaches (Some texts) names a → Reaches (Some texts) names b → text_of texts a ≡ None
          → IsSomeAnd (text_of texts b) (λ text. longest_text < length text) → ⊥
      clash a b r s e l =
          let same_name = one-turn names a b r s (absent-not-read a e) (long-not-read b (text_of texts b) refl l) in
          none-long b (text_of texts b) refl (subst (λ n. text_of texts n ≡ None) same_name e) l

      pub unread-once : (c d : Cause) → ReadFails (Some texts) AnyName NoName names c → ReadFails (Some texts) AnyName NoName names d → c ≡ d
      unread-once _ _ (absent a r w e) (absent b s x f) = ap Absent (one-turn names a b r s (absent-not-read a e) (absent-not-read b f))
      unread-once _ _ (absent a r w e) (oversized b s l) = absurd (clash a b r s e l)
      unread-once _ _ (oversized a r l) (absent b s x f) = absurd (clash b a s r f l)
      unread-once _ _ (oversized a r l) (oversized b s m) = ap Oversized
          (one-turn names a b r s (long-not-read a (text_of texts a) refl l) (long-not-read b (text_of texts b) refl m))
      unread-once _ _ (unreadable a r w) _ = absurd w
      unread-once _ _ _ (unreadable b s w) = absurd w

      pub read-or-not : (c : Cause) → AreRead names → ReadFails (Some texts) AnyName NoName names c → ⊥
      read-or-not _ r (absent b s x f) = turn-read names b r s (absent-not-read b f)
      read-or-not _ r (unreadable b s w) = w
      read-or-not _ r (oversized b s m) = turn-read names b r s (long-not-read b (text_of texts b) refl m)

    -- ---- runs

    module _ (run : RunWords) where
      both-read : (p q : List ℕ) → IsRead (Some texts) run.program p → IsRead (Some texts) run.query q → AreRead (run_texts run)
      both-read p q h k = ((p, h), ((q, k), tt))

      pub fails-once : (c d : Cause) → RunFails (Some texts) AnyName NoName run c → RunFails (Some texts) AnyName NoName run d → c ≡ d
      fails-once _ _ (not_read c r) (not_read d s) = unread-once (run_texts run) c d r s
      fails-once _ _ (not_read c r) (faulty p q role f h k t) = absurd (read-or-not (run_texts run) c (both-read p q h k) r)
      fails-once _ _ (faulty p q role f h k t) (not_read d s) = absurd (read-or-not (run_texts run) d (both-read p q h k) s)
      fails-once _ _ (faulty p q r g h k t) (faulty u v s f m n w) =
          let moved = subst (λ x. IsTextFault x v r g) (one-read run.program p u h m) (subst (λ x. IsTextFault p x r g) (one-read run.query q v k n) t) in
          let e = one-fault u v r s g f moved w in
          ap (λ x. Faulty (name_of run x) g) e.0 ∙ ap (Faulty (name_of run s)) e.1

      asks-moved : (p q : List ℕ) (problem : ProblemTree) → IsRead (Some texts) run.program p → IsRead (Some texts) run.query q
          → RunAsks (Some texts) run problem → TextsAsk p q run.bound problem
      asks-moved p q problem h k a =
          subst (λ x. TextsAsk x q run.bound problem) (one-read run.program a.program p a.program_read h)
          (subst (λ x. TextsAsk a.program x run.bound problem) (one-read run.query a.query q a.query_read k) a.asks)

      pub asks-not-fails : (p : ProblemTree) (c : Cause) → RunAsks (Some texts) run p → RunFails (Some texts) AnyName NoName run c → ⊥
      asks-not-fails p _ a (not_read c r) = read-or-not (run_texts run) c (both-read a.program a.query a.program_read a.query_read) r
      asks-not-fails p _ a (faulty u v role f m n w) = asks-no-fault u v run.bound p role f (asks-moved u v p m n a) w

      pub one-problem : (p q : ProblemTree) → RunAsks (Some texts) run p → RunAsks (Some texts) run q → p ≡ q
      one-problem p q a b = one-asked b.program b.query run.bound p q (asks-moved b.program b.query p b.program_read b.query_read a) b.asks

      pub run-once : (s t : ℕ) (u v : List ℕ) → RunComesTo (Some texts) AnyName NoName run s u → RunComesTo (Some texts) AnyName NoName run t v
          → (s ≡ t) × (u ≡ v)
      run-once s t u v (ran p a e f) (ran q b g h) = let o = one-problem p q a b in
          (e ∙ (ap (status_of_run run.first) o ∙ sym g), f ∙ (ap (text_of_run run.first run.proofs) o ∙ sym h))
      run-once s t u v (ran p a e f) (failed c b g h) = absurd (asks-not-fails p c a b)
      run-once s t u v (failed c b g h) (ran p a e f) = absurd (asks-not-fails p c a b)
      run-once s t u v (failed c a e f) (failed d b g h) = let o = fails-once c d a b in (e ∙ (ap cause_status o ∙ sym g), f ∙ (ap fault_text o ∙ sym h))

    -- ---- deepenings

    pub deepen-once : (deepen : DeepenWords) (s t : ℕ) (u v : List ℕ) → DeepenComesTo (Some texts) AnyName NoName deepen s u
        → DeepenComesTo (Some texts) AnyName NoName deepen t v → (s ≡ t) × (u ≡ v)
    deepen-once deepen s t u v c d = deepens-one texts one-problem asks-not-fails fails-once deepen s t u v c d

    -- ---- sessions

    module _ (one_list : (program : ProgramTree) (bound line : ℕ) (lines : List (List ℕ)) (queries others : List QueryLine)
        → HaveQueries program bound line lines queries → HaveQueries program bound line lines others → queries ≡ others) where
      pub session-once : (session : SessionWords) (s t : ℕ) (u v : List ℕ) → SessionComesTo (Some texts) AnyName NoName session s u
          → SessionComesTo (Some texts) AnyName NoName session t v → (s ≡ t) × (u ≡ v)
      session-once session s t u v c d =
          sessions-one texts one-read unread-once (λ first second p q h k cause r. read-or-not (first ∷ second ∷ []) cause ((p, h), ((q, k), tt)) r) one-program
          one-program-fault faultless-no-fault one_list session s t u v c d

    -- ---- prints

    module _ (name : List ℕ) where
      print-fails-once : (c d : Cause) → PrintFails (Some texts) AnyName NoName name c → PrintFails (Some texts) AnyName NoName name d → c ≡ d
      print-fails-once _ _ (source_not_read c r) (source_not_read d s) = unread-once (name ∷ []) c d r s
      print-fails-once _ _ (source_not_read c r) (faulty_source p f h t) = absurd (read-or-not (name ∷ []) c ((p, h), tt) r)
      print-fails-once _ _ (faulty_source p f h t) (source_not_read c r) = absurd (read-or-not (name ∷ []) c ((p, h), tt) r)
      print-fails-once _ _ (faulty_source p f h t) (faulty_source q g k u) =
          ap (Faulty name) (one-reading-fault Program q f g (subst (λ x. IsReadingFault Program x f) (one-read name p q h k) t) u)

      printed-not-fails : (bytes : List ℕ) (c : Cause) → IsPrintedAs (Some texts) name bytes → PrintFails (Some texts) AnyName NoName name c → ⊥
      printed-not-fails bytes _ a (source_not_read c r) = read-or-not (name ∷ []) c ((a.text, a.text_read), tt) r
      printed-not-fails bytes _ a (faulty_source q f k t) = program-no-fault q a.tree f
          (subst (λ x. IsProgramText x a.tree) (one-read name a.text q a.text_read k) a.is_program) t

      printed-once : (u v : List ℕ) → IsPrintedAs (Some texts) name u → IsPrintedAs (Some texts) name v → u ≡ v
      printed-once u v a b =
          a.is
          ∙ (ap program_text (one-program b.text a.tree b.tree
          (subst (λ x. IsProgramText x a.tree) (one-read name a.text b.text a.text_read b.text_read) a.is_program) b.is_program) ∙ sym b.is)

      pub print-once : (s t : ℕ) (u v : List ℕ) → PrintComesTo (Some texts) AnyName NoName name s u → PrintComesTo (Some texts) AnyName NoName name t v
          → (s ≡ t) × (u ≡ v)
      print-once s t u v (printed a e) (printed b g) = (e ∙ sym g, printed-once u v a b)
      print-once s t u v (printed a e) (print_failed c b g h) = absurd (printed-not-fails u c a b)
      print-once s t u v (print_failed c b g h) (printed a e) = absurd (printed-not-fails v c a b)
      print-once s t u v (print_failed c a e f) (print_failed d b g h) = let o = print-fails-once c d a b in
          (e ∙ (ap cause_status o ∙ sym g), f ∙ (ap fault_text o ∙ sym h))

    -- ---- checks

    module _ (check : CheckWords) where
      all-read : (p q r : List ℕ) → IsRead (Some texts) check.program p → IsRead (Some texts) check.query q → IsRead (Some texts) check.proof r
          → AreRead (check_texts check)
      all-read p q r h k l = ((p, h), ((q, k), ((r, l), tt)))

      check-fails-once : (c d : Cause) → CheckFails (Some texts) AnyName NoName check c → CheckFails (Some texts) AnyName NoName check d → c ≡ d
      check-fails-once _ _ (texts_not_read c r) (texts_not_read d s) = unread-once (check_texts check) c d r s
      check-fails-once _ _ (texts_not_read c x) (faulty_text p q r role f h k l t) = absurd (read-or-not (check_texts check) c (all-read p q r h k l) x)
      check-fails-once _ _ (faulty_text p q r role f h k l t) (texts_not_read d x) = absurd (read-or-not (check_texts check) d (all-read p q r h k l) x)
      check-fails-once _ _ (faulty_text p q r role g h k l t) (faulty_text u v w s f m n o z) =
          let moved = subst (λ x. IsCheckFault x v w role g) (one-read check.program p u h m)
          (subst (λ x. IsCheckFault p x w role g) (one-read check.query q v k n) (subst (λ x. IsCheckFault p q x role g) (one-read check.proof r w l o) t))
          in
          let e = one-check-fault u v w role s g f o.within moved z in
          ap (λ x. Faulty (name_in_check check x) g) e.0 ∙ ap (Faulty (name_in_check check s)) e.1

      gives-moved : (p q r : List ℕ) (problem : ProblemTree) (d : DerivationLines) → IsRead (Some texts) check.program p → IsRead (Some texts) check.query q
          → IsRead (Some texts) check.proof r → CheckGives (Some texts) check problem d
          → TextsGive p q r (bound_in check) problem d
      gives-moved p q r problem d h k l a =
          subst (λ x. TextsGive x q r (bound_in check) problem d) (one-read check.program a.program p a.program_read h)
          (subst (λ x. TextsGive a.program x r (bound_in check) problem d) (one-read check.query a.query q a.query_read k)
          (subst (λ x. TextsGive a.program a.query x (bound_in check) problem d) (one-read check.proof a.proof r a.proof_read l) a.give))

      gives-not-fails : (p : ProblemTree) (d : DerivationLines) (c : Cause) → CheckGives (Some texts) check p d → CheckFails (Some texts) AnyName NoName check c
          → ⊥
      gives-not-fails p d _ a (texts_not_read c x) = read-or-not (check_texts check) c
          (all-read a.program a.query a.proof a.program_read a.query_read a.proof_read) x
      gives-not-fails p d _ a (faulty_text u v w role f h k l t) = gives-no-fault u v w (bound_in check) p d role f l.within (gives-moved u v w p d h k l a) t

      pub given-once : (p q : ProblemTree) (d e : DerivationLines) → CheckGives (Some texts) check p d → CheckGives (Some texts) check q e → (p ≡ q) × (d ≡ e)
      given-once p q d e a b = one-given b.program b.query b.proof (bound_in check) p q d e b.proof_read.within
          (gives-moved b.program b.query b.proof p d b.program_read b.query_read b.proof_read a) b.give

      shown-or-refuted : (p q : ProblemTree) (d e : DerivationLines) (n r : ℕ) → CheckGives (Some texts) check p d → DerivationShows p d
          → CheckGives (Some texts) check q e → IsRefuted q e n r → ⊥
      shown-or-refuted p q d e n r a h b k = let o = given-once p q d e a b in
          k.not_shown (subst (DerivationShows q) o.1 (subst (λ x. DerivationShows x d) o.0 h))

      -- a derivation has one tree
      one-tree-of : (d : DerivationLines) (t u : Tree) → trees_of d.nodes ≡ Some (t ∷ []) → trees_of d.nodes ≡ Some (u ∷ []) → t ≡ u
      one-tree-of d t u h k = let e = some-same (t ∷ []) (u ∷ []) (trees_of d.nodes) h k in cc

      refuted-once : (p q : ProblemTree) (d e : DerivationLines) (n m r s : ℕ) → CheckGives (Some texts) check p d → IsRefuted p d n r
          → CheckGives (Some texts) check q e → IsRefuted q e m s → no_text n r ≡ no_text m s
      refuted-once p q d e n m r s a h b k =
          let o = given-once p q d e a b in
          let t = one-tree-of e h.tree k.tree (subst (λ x. trees_of x.nodes ≡ Some (h.tree ∷ [])) o.1 h.is_tree) k.is_tree in
          let f = subst (λ x. first_fault x d h.tree ≡ FaultAt n r) o.0 h.fault in
          let moved = subst (λ x. first_fault q x h.tree ≡ FaultAt n r) o.1 f in
          let g : FaultAt n r ≡ FaultAt m s = sym (subst (λ x. first_fault q e x ≡ FaultAt n r) t moved) ∙ k.fault in
          let same_node : n ≡ m = cc in
          let same_reason : r ≡ s = cc in
          ap (λ x. no_text x r) same_node ∙ ap (no_text m) same_reason

      -- a derivation that shows the query is covered, or too long, or counts numbers
      covered-once : (p q : ProblemTree) (d e : DerivationLines) (m n : ℕ) → CheckGives (Some texts) check p d → IsCovered p d m
          → CheckGives (Some texts) check q e → IsCovered q e n → m ≡ n
      covered-once p q d e m n a h b k =
          let o = given-once p q d e a b in
          first_once q e m n (subst (λ x. NamesFirst q x m) o.1 (subst (λ x. NamesFirst x d m) o.0 h.first)) k.first

      short-or-long : (p q : ProblemTree) (d e : DerivationLines) → CheckGives (Some texts) check p d → length d.nodes ≤ p.bound
          → CheckGives (Some texts) check q e → q.bound < length e.nodes → ⊥
      short-or-long p q d e a h b k =
          let o = given-once p q d e a b in let x = ap (λ (z : ProblemTree). z.bound) o.0 in let y = ap (λ (z : DerivationLines). length z.nodes) o.1 in
          omega arith

      covered-or-counts : (p q : ProblemTree) (d e : DerivationLines) (m n : ℕ) → CheckGives (Some texts) check p d → IsCovered p d m
          → CheckGives (Some texts) check q e → CountsAt q e n → ⊥
      covered-or-counts p q d e m n a h b k =
          let o = given-once p q d e a b in
          let none = none-counts 1 e.nodes (subst (λ x. list_any counts_numbers x.nodes ≡ false) o.1 h.shows.numberless) in
          let f = k.first in
          let w : None ≡ Some n = sym none ∙ f in cc

      counts-once : (p q : ProblemTree) (d e : DerivationLines) (m n : ℕ) → CheckGives (Some texts) check p d → CountsAt p d m
          → CheckGives (Some texts) check q e → CountsAt q e n → m ≡ n
      counts-once p q d e m n a h b k =
          let o = given-once p q d e a b in
          some-same m n (position_from counts_numbers 1 e.nodes) (subst (λ x. position_from counts_numbers 1 x.nodes ≡ Some m) o.1 h.first) k.first

      too-long-once : (p q : ProblemTree) (d e : DerivationLines) → CheckGives (Some texts) check p d → CheckGives (Some texts) check q e
          → too_long_text (length d.nodes) p.bound ≡ too_long_text (length e.nodes) q.bound
      too-long-once p q d e a b =
          let o = given-once p q d e a b in
          ap (λ (x : DerivationLines). too_long_text (length x.nodes) p.bound) o.1 ∙ ap (λ (x : ProblemTree). too_long_text (length e.nodes) x.bound) o.0

      pub check-once : (s t : ℕ) (u v : List ℕ) → CheckComesTo (Some texts) AnyName NoName check s u → CheckComesTo (Some texts) AnyName NoName check t v
          → (s ≡ t) × (u ≡ v)
      check-once s t u v (shown p d w a x e f) (shown q c z b y g h) = let o = given-once p q d c a b in
          (e ∙ sym g, f ∙ (ap (λ x. yes_text (length x.nodes)) o.1 ∙ sym h))
      check-once s t u v (shown p d w a x e f) (refuted q c n r b y g h) = absurd (shown-or-refuted p q d c n r a x b y)
      check-once s t u v (shown p d w a x e f) (covered q c n z b y g h) = absurd (let k = sym w ∙ z in cc)
      check-once s t u v (shown p d w a x e f) (too_long q c z b y g h) = absurd (let k = sym w ∙ z in cc)
      check-once s t u v (shown p d w a x e f) (counting q c n z b y g h) = absurd (let k = sym w ∙ z in cc)
      check-once s t u v (shown p d w a x e f) (check_failed c b g h) = absurd (gives-not-fails p d c a b)
      check-once s t u v (refuted q c n r b y g h) (shown p d w a x e f) = absurd (shown-or-refuted p q d c n r a x b y)
      check-once s t u v (refuted p d n r a x e f) (refuted q c m l b y g h) = (e ∙ sym g, f ∙ (refuted-once p q d c n m r l a x b y ∙ sym h))
      check-once s t u v (refuted q c n r b y g h) (covered p d m w a x e f) = absurd (shown-or-refuted p q d c n r a x.shows.shows b y)
      check-once s t u v (refuted q c n r b y g h) (too_long p d w a x e f) = absurd (shown-or-refuted p q d c n r a x.shows b y)
      check-once s t u v (refuted q c n r b y g h) (counting p d m w a x e f) = absurd (shown-or-refuted p q d c n r a x.shows b y)
      check-once s t u v (refuted p d n r a x e f) (check_failed c b g h) = absurd (gives-not-fails p d c a b)
      check-once s t u v (covered q c n z b y g h) (shown p d w a x e f) = absurd (let k = sym w ∙ z in cc)
      check-once s t u v (covered p d m w a x e f) (refuted q c n r b y g h) = absurd (shown-or-refuted p q d c n r a x.shows.shows b y)
      check-once s t u v (covered p d m w a x e f) (covered q c n z b y g h) = (e ∙ sym g, f ∙ (ap covered_text (covered-once p q d c m n a x b y) ∙ sym h))
      check-once s t u v (covered p d m w a x e f) (too_long q c z b y g h) = absurd (short-or-long p q d c a x.within b y.beyond)
      check-once s t u v (covered p d m w a x e f) (counting q c n z b y g h) = absurd (covered-or-counts p q d c m n a x b y)
      check-once s t u v (covered p d m w a x e f) (check_failed c b g h) = absurd (gives-not-fails p d c a b)
      check-once s t u v (too_long q c z b y g h) (shown p d w a x e f) = absurd (let k = sym w ∙ z in cc)
      check-once s t u v (too_long p d w a x e f) (refuted q c n r b y g h) = absurd (shown-or-refuted p q d c n r a x.shows b y)
      check-once s t u v (too_long q c z b y g h) (covered p d m w a x e f) = absurd (short-or-long p q d c a x.within b y.beyond)
      check-once s t u v (too_long p d w a x e f) (too_long q c z b y g h) = (e ∙ sym g, f ∙ (too-long-once p q d c a b ∙ sym h))
      check-once s t u v (too_long q c z b y g h) (counting p d m w a x e f) = absurd (short-or-long p q d c a x.within b y.beyond)
      check-once s t u v (too_long p d w a x e f) (check_failed c b g h) = absurd (gives-not-fails p d c a b)
      check-once s t u v (counting q c n z b y g h) (shown p d w a x e f) = absurd (let k = sym w ∙ z in cc)
      check-once s t u v (counting p d m w a x e f) (refuted q c n r b y g h) = absurd (shown-or-refuted p q d c n r a x.shows b y)
      check-once s t u v (counting q c n z b y g h) (covered p d m w a x e f) = absurd (covered-or-counts p q d c m n a x b y)
      check-once s t u v (counting p d m w a x e f) (too_long q c z b y g h) = absurd (short-or-long p q d c a x.within b y.beyond)
      check-once s t u v (counting p d m w a x e f) (counting q c n z b y g h) = (e ∙ sym g, f ∙ (ap counts_text (counts-once p q d c m n a x b y) ∙ sym h))
      check-once s t u v (counting p d m w a x e f) (check_failed c b g h) = absurd (gives-not-fails p d c a b)
      check-once s t u v (check_failed c b g h) (shown p d w a x e f) = absurd (gives-not-fails p d c a b)
      check-once s t u v (check_failed c b g h) (refuted p d n r a x e f) = absurd (gives-not-fails p d c a b)
      check-once s t u v (check_failed c b g h) (covered p d n w a x e f) = absurd (gives-not-fails p d c a b)
      check-once s t u v (check_failed c b g h) (too_long p d w a x e f) = absurd (gives-not-fails p d c a b)
      check-once s t u v (check_failed c b g h) (counting p d n w a x e f) = absurd (gives-not-fails p d c a b)
      check-once s t u v (check_failed c a e f) (check_failed d b g h) = let o = check-fails-once c d a b in
          (e ∙ (ap cause_status o ∙ sym g), f ∙ (ap fault_text o ∙ sym h))

    -- ---- conversions

    module _ (convert : ConvertWords) where
      converted-once : (version : ℕ) (p q u v : List ℕ) → IsRead (Some texts) convert.proof p → IsRead (Some texts) convert.proof q → IsConverted p version u
          → IsConverted q version v → u ≡ v
      converted-once version p q u v r s a b =
          let a = subst (λ x. IsConverted x version u) (one-read convert.proof p q r s) a in
          let o = one-proof-text (own_names q) q a.derivation b.derivation (differ-names [] (text_names q) none-differ) s.within a.is_text b.is_text in
          a.is ∙ (ap (text_in version (own_names q)) o ∙ sym b.is)

      converted-no-fault : (version : ℕ) (p q u : List ℕ) (f : Fault) → IsRead (Some texts) convert.proof p → IsRead (Some texts) convert.proof q
          → IsConverted p version u → HasFaultIn q f → ⊥
      converted-no-fault version p q u f r s a h =
          let a = subst (λ x. IsConverted x version u) (one-read convert.proof p q r s) a in
          proof-no-fault (own_names q) q a.derivation f (differ-names [] (text_names q) none-differ) s.within a.is_text h

      short-or-too-long : (p q u v : List ℕ) → IsRead (Some texts) convert.proof p → IsRead (Some texts) convert.proof q → IsConverted p convert.version u
          → IsConverted q convert.version v → length u ≤ longest_text → longest_text < length v → ⊥
      short-or-too-long p q u v r s a b l m = let e = ap length (converted-once convert.version p q u v r s a b) in omega arith

      convert-fails-once : (c d : Cause) → ConvertFails (Some texts) AnyName NoName convert c → ConvertFails (Some texts) AnyName NoName convert d → c ≡ d
      convert-fails-once _ _ (proof_not_read c r) (proof_not_read d s) = unread-once (convert.proof ∷ []) c d r s
      convert-fails-once _ _ (proof_not_read c r) (faulty_proof p f h k) = absurd (read-or-not (convert.proof ∷ []) c ((p, h), tt) r)
      convert-fails-once _ _ (proof_not_read c r) (too_long_as p u h k l) = absurd (read-or-not (convert.proof ∷ []) c ((p, h), tt) r)
      convert-fails-once _ _ (faulty_proof p f h k) (proof_not_read c r) = absurd (read-or-not (convert.proof ∷ []) c ((p, h), tt) r)
      convert-fails-once _ _ (faulty_proof p f h k) (faulty_proof q g m n) =
          ap (Faulty convert.proof) (laws.one_proof q f g (short q m.within) (subst (λ x. HasFaultIn x f) (one-read convert.proof p q h m) k) n)
      convert-fails-once _ _ (faulty_proof p f h k) (too_long_as q u m n l) = absurd (converted-no-fault convert.version q p u f m h n k)
      convert-fails-once _ _ (too_long_as p u h k l) (proof_not_read c r) = absurd (read-or-not (convert.proof ∷ []) c ((p, h), tt) r)
      convert-fails-once _ _ (too_long_as q u m n l) (faulty_proof p f h k) = absurd (converted-no-fault convert.version q p u f m h n k)
      convert-fails-once _ _ (too_long_as p u h k l) (too_long_as q v m n o) = refl

      converted-not-fails : (p u : List ℕ) (c : Cause) → IsRead (Some texts) convert.proof p → IsConverted p convert.version u → length u ≤ longest_text
          → ConvertFails (Some texts) AnyName NoName convert c → ⊥
      converted-not-fails p u _ h a l (proof_not_read c r) = read-or-not (convert.proof ∷ []) c ((p, h), tt) r
      converted-not-fails p u _ h a l (faulty_proof q f m n) = converted-no-fault convert.version p q u f h m a n
      converted-not-fails p u _ h a l (too_long_as q v m n o) = short-or-too-long p q u v h m a n l o

      pub converts-one : (s t : ℕ) (u v : List ℕ) → ConvertComesTo (Some texts) AnyName NoName convert s u
          → ConvertComesTo (Some texts) AnyName NoName convert t v
          → (s ≡ t) × (u ≡ v)
      converts-one s t u v (converted p r a l e) (converted q h b m g) = (e ∙ sym g, converted-once convert.version p q u v r h a b)
      converts-one s t u v (converted p r a l e) (convert_failed c b g h) = absurd (converted-not-fails p u c r a l b)
      converts-one s t u v (convert_failed c b g h) (converted p r a l e) = absurd (converted-not-fails p v c r a l b)
      converts-one s t u v (convert_failed c a e f) (convert_failed d b g h) = let o = convert-fails-once c d a b in
          (e ∙ (ap cause_status o ∙ sym g), f ∙ (ap fault_text o ∙ sym h))

    -- ---- runs of programs that are made

    pub made-once : (run : MadeRunWords) (s t : ℕ) (u v : List ℕ) → MadeRunComesTo run s u → MadeRunComesTo run t v → (s ≡ t) × (u ≡ v)
    made-once run s t u v a b =
        let o = one-asked (make_text run.make) (query_text run.make.kind) run.bound a.problem b.problem a.asks b.asks in
        (a.status_is ∙ (ap run_status o ∙ sym b.status_is), a.is ∙ (ap last_line o ∙ sym b.is))
