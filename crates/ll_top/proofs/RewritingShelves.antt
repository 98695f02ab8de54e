-- Over a shelf on which a program is laid out anew each call comes to the same.
use Rattle.std.proofs.Common.{◌≡◌, ◌⊎◌, ◌<◌, ℕ, List, [], ◌∷◌, length, ap, sym, subst, ◌∙◌, refl, Bool, true, false, Some, None, inl, inr, arith}
use Rattle.std.specs.Prelude.{IsSomeAnd}
use Rattle.std.specs.Str.{bytes_eq}
use Rattle.std.proofs.lemmas.Slice.Eq.{bytes_eq-Decides}
use Rattle.ll_edge.specs.Texts.{Texts, text_of}
use Rattle.ll_laws.specs.Line.{DerivationLines}
use Rattle.ll_laws.specs.Problem.{ProblemTree}
use Rattle.ll_lexer.specs.declared.Fault.{Fault}
use Rattle.ll_parser.specs.Raw.{ProgramTree}
use Rattle.ll_parser.specs.Printed.{program_text}
use Rattle.ll_session.specs.Queries.{QueryLine, AreQueries}
use Rattle.ll_top.specs.forms.Words.{RunWords, SessionWords, DeepenWords, CheckWords, ConvertWords}
use Rattle.ll_top.specs.declared.texts.judge.Role.{Role}
use Rattle.ll_top.specs.declared.texts.judge.Role.TheVariants.{Program}
use Rattle.ll_top.specs.texts.Faults.{Cause, Faulty}
use Rattle.ll_top.specs.texts.Judging.{IsProgramText, IsFaultless, IsReadingFault, IsProgramFault, of_program_reading, IsTextFault}
use Rattle.ll_top.specs.texts.Judging.{TextsAsk, IsCheckFault, TextsGive}
use Rattle.ll_top.specs.texts.Outcome.{AnyName, NoName, longest_text, IsRead, Reaches, first, later, ReadFails, absent, unreadable, oversized, run_texts}
use Rattle.ll_top.specs.texts.Outcome.{RunFails, not_read, faulty, RunAsks, source_not_read, faulty_source, PrintComesTo, printed}
use Rattle.ll_top.specs.texts.Outcome.{print_failed}
use Rattle.ll_top.specs.texts.Converting.{proof_not_read, faulty_proof, too_long_as, ConvertComesTo, converted, convert_failed}
use Rattle.ll_top.specs.checks.Outcome.{check_texts, name_in_check, texts_not_read, faulty_text, bound_in, CheckGives, CheckComesTo, shown, refuted}
use Rattle.ll_top.specs.checks.Outcome.{covered, too_long, counting, check_failed}
use Rattle.ll_top.specs.Outcome.{RunComesTo, ran, failed}
use Rattle.ll_top.specs.Sessions.{session_not_read, faulty_program, SessionComesTo, replied, session_failed}
use Rattle.ll_top.specs.Deepening.{run_within, DeepenComesTo, deepened, deepen_failed}
use Rattle.ll_top.specs.Calls.{ComesTo, misused, runs, sessions, deepens, prints, checks, converts, makes, runs_made}
use Rattle.ll_top.specs.Rewriting.{AreOfOneProgram, IsLaidOutAnew, NamesPrograms, LayoutIsAside}
use Rattle.ll_top.proofs.RewritingTexts.{printed-same, one-turned, second-faultless, no-fault, asks-on, fault-on, check-fault-on, give-on, queries-on}
use Rattle.ll_top.proofs.outcomes.LawLemmas.{Laws, one-program, one-read}

-- the text of a program: as it was, or another one of the same program
abbrev IsLike : List ℕ → List ℕ → Type 0
IsLike text other = (text ≡ other) ⊎ AreOfOneProgram text other

-- a text with another one that is like it and was read
record IsReadAnew (new : Texts) (name text : List ℕ) : Type 0 where
  other : List ℕ
  read : IsRead (Some new) name other
  like : IsLike text other

module _ (laws : Laws) where
  -- ---- texts that are alike

  asks-like : (text other query : List ℕ) (bound : ℕ) (p : ProblemTree) → IsLike text other → TextsAsk text query bound p → TextsAsk other query bound p
  asks-like text other query bound p (inl e) a = subst (λ x. TextsAsk x query bound p) e a
  asks-like text other query bound p (inr o) a = asks-on laws text other o query bound p a

  fault-like : (text other query : List ℕ) (role : Role) (f : Fault) → IsLike text other → IsTextFault text query role f → IsTextFault other query role f
  fault-like text other query role f (inl e) h = subst (λ x. IsTextFault x query role f) e h
  fault-like text other query role f (inr o) h = fault-on laws text other o query role f h

  check-like : (text other query proof : List ℕ) (role : Role) (f : Fault) → IsLike text other → IsCheckFault text query proof role f
      → IsCheckFault other query proof role f
  check-like text other query proof role f (inl e) h = subst (λ x. IsCheckFault x query proof role f) e h
  check-like text other query proof role f (inr o) h = check-fault-on laws text other o query proof role f h

  give-like : (text other query proof : List ℕ) (bound : ℕ) (p : ProblemTree) (d : DerivationLines) → IsLike text other
      → TextsGive text query proof bound p d → TextsGive other query proof bound p d
  give-like text other query proof bound p d (inl e) g = subst (λ x. TextsGive x query proof bound p d) e g
  give-like text other query proof bound p d (inr o) g = give-on laws text other o query proof bound p d g

  program-like : (text other : List ℕ) (f : Fault) → IsLike text other → IsProgramFault text f → IsProgramFault other f
  program-like text other f (inl e) h = subst (λ x. IsProgramFault x f) e h
  program-like text other f (inr o) h = absurd (no-fault laws text other o f h)

  -- ---- shelves

  module _ (name : List ℕ) (old new : Texts) (s : IsLaidOutAnew name old new) where
    by-name : {A : Type 0} (n : List ℕ) → (n ≡ name → A) → ((n ≡ name → ⊥) → A) → A
    by-name {A} n same other = step (bytes_eq n name) refl
      where
        step : (b : Bool) → bytes_eq n name ≡ b → A
        step true e = same ((bytes_eq-Decides n name).0 e)
        step false e = other (λ q. let k : bytes_eq n name ≡ true = (bytes_eq-Decides n name).1 q in let y : ⊥ = cc in y)

    kept : (n text : List ℕ) → (n ≡ name → ⊥) → IsRead (Some old) n text → IsRead (Some new) n text
    kept n text apart h = record { found = sym (s.others n apart) ∙ h.found; within = h.within }

    anew : (n text : List ℕ) → IsRead (Some old) n text → IsReadAnew new n text
    anew n text h =
        by-name {A = IsReadAnew new n text} n (λ e. record {
          other = s.other;
          read = subst (λ x. IsRead (Some new) x s.other) (sym e) s.new_read;
          like = inr (subst (λ x. AreOfOneProgram x s.other)
              (one-read laws old name s.text text s.old_read (subst (λ x. IsRead (Some old) x text) e h)) s.one);
        }) (λ apart. record { other = text; read = kept n text apart h; like = inl refl })

    reaches-on : (names : List (List ℕ)) (n : List ℕ) → Reaches (Some old) names n → Reaches (Some new) names n
    reaches-on _ n first = first
    reaches-on _ n (later {read = m} {names = names} text r h) = let k = anew m text r in later k.other k.read (reaches-on names n h)

    absent-apart : (n : List ℕ) → text_of old n ≡ None → n ≡ name → ⊥
    absent-apart n e q = let f : text_of old name ≡ None = subst (λ x. text_of old x ≡ None) q e in let g = s.old_read.found in cc

    long-apart : (n : List ℕ) → IsSomeAnd (text_of old n) (λ text. longest_text < length text) → n ≡ name → ⊥
    long-apart n l q =
        let f : IsSomeAnd (text_of old name) (λ text. longest_text < length text) =
        subst (λ x. IsSomeAnd (text_of old x) (λ text. longest_text < length text)) q l in
        let g : longest_text < length s.text = subst (λ x. IsSomeAnd x (λ text. longest_text < length text)) s.old_read.found f in
        let w = s.old_read.within in
        omega (arith, g, w)

    unread-on : (names : List (List ℕ)) (c : Cause) → ReadFails (Some old) AnyName NoName names c → ReadFails (Some new) AnyName NoName names c
    unread-on names _ (absent n r w e) = absent n (reaches-on names n r) w (sym (s.others n (absent-apart n e)) ∙ e)
    unread-on names _ (unreadable n r w) = absurd w
    unread-on names _ (oversized n r l) =
        oversized n (reaches-on names n r) (subst (λ x. IsSomeAnd x (λ text. longest_text < length text)) (s.others n (long-apart n l)) l)

    -- ---- calls

    module _ (run : RunWords) (apart : run.query ≡ name → ⊥) where
      run-asks : (p : ProblemTree) → RunAsks (Some old) run p → RunAsks (Some new) run p
      run-asks p a =
          let k = anew run.program a.program a.program_read in
          record {
            program = k.other;
            query = a.query;
            program_read = k.read;
            query_read = kept run.query a.query apart a.query_read;
            asks = asks-like a.program k.other a.query run.bound p k.like a.asks;
          }

      run-fails : (c : Cause) → RunFails (Some old) AnyName NoName run c → RunFails (Some new) AnyName NoName run c
      run-fails c (not_read _ h) = not_read c (unread-on (run_texts run) c h)
      run-fails _ (faulty program query role f h g t) =
          let k = anew run.program program h in
          faulty k.other query role f k.read (kept run.query query apart g) (fault-like program k.other query role f k.like t)

      run-on : (status : ℕ) (text : List ℕ) → RunComesTo (Some old) AnyName NoName run status text → RunComesTo (Some new) AnyName NoName run status text
      run-on status text (ran p a e f) = ran p (run-asks p a) e f
      run-on status text (failed c h e f) = failed c (run-fails c h) e f

    deepen-on : (deepen : DeepenWords) → (deepen.query ≡ name → ⊥) → (status : ℕ) (text : List ℕ)
        → DeepenComesTo (Some old) AnyName NoName deepen status text → DeepenComesTo (Some new) AnyName NoName deepen status text
    deepen-on deepen apart status text (deepened n p a d e f) = deepened n p (run-asks (run_within deepen n) apart p a) d e f
    deepen-on deepen apart status text (deepen_failed c h e f) =
        deepen_failed c (run-fails (run_within deepen deepen.series.from) apart c h) e f

    queries-like : (text other : List ℕ) → IsLike text other → (tree : ProgramTree) → IsFaultless text tree → (queries : List ℕ) (bound : ℕ)
        (qs : List QueryLine) → AreQueries tree queries bound qs
        → (other_tree : ProgramTree) × IsFaultless other other_tree × AreQueries other_tree queries bound qs
    queries-like text other (inl e) tree l queries bound qs h = (tree, subst (λ x. IsFaultless x tree) e l, h)
    queries-like text other (inr o) tree l queries bound qs h =
        (o.other_tree, second-faultless laws text other o, queries-on laws text other o tree l queries bound qs h)

    module _ (session : SessionWords) (apart : session.queries ≡ name → ⊥) where
      session-on : (status : ℕ) (text : List ℕ) → SessionComesTo (Some old) AnyName NoName session status text
          → SessionComesTo (Some new) AnyName NoName session status text
      session-on status text (replied queries a e f) =
          let k = anew session.program a.program a.program_read in
          let q = queries-like a.program k.other k.like a.tree a.faultless a.text session.bound queries a.are in
          replied queries (record {
            program = k.other;
            text = a.text;
            program_read = k.read;
            queries_read = kept session.queries a.text apart a.queries_read;
            tree = q.0;
            faultless = q.1;
            are = q.2;
          }) e f
      session-on status text (session_failed c (session_not_read _ h) e f) =
          session_failed c (session_not_read c (unread-on (session.program ∷ session.queries ∷ []) c h)) e f
      session-on status text (session_failed c (faulty_program program queries g h i j) e f) =
          let k = anew session.program program h in
          session_failed (Faulty session.program g)
          (faulty_program k.other queries g k.read (kept session.queries queries apart i) (program-like program k.other g k.like j)) e f

    module _ (check : CheckWords) (query : check.query ≡ name → ⊥) (proof : check.proof ≡ name → ⊥) where
      gives-on : (p : ProblemTree) (d : DerivationLines) → CheckGives (Some old) check p d → CheckGives (Some new) check p d
      gives-on p d g =
          let k = anew check.program g.program g.program_read in
          record {
            program = k.other;
            query = g.query;
            proof = g.proof;
            program_read = k.read;
            query_read = kept check.query g.query query g.query_read;
            proof_read = kept check.proof g.proof proof g.proof_read;
            give = give-like g.program k.other g.query g.proof (bound_in check) p d k.like g.give;
          }

      check-on : (status : ℕ) (text : List ℕ) → CheckComesTo (Some old) AnyName NoName check status text
          → CheckComesTo (Some new) AnyName NoName check status text
      check-on status text (shown p d b g h e f) = shown p d b (gives-on p d g) h e f
      check-on status text (refuted p d n r g h e f) = refuted p d n r (gives-on p d g) h e f
      check-on status text (covered p d n b g h e f) = covered p d n b (gives-on p d g) h e f
      check-on status text (too_long p d b g h e f) = too_long p d b (gives-on p d g) h e f
      check-on status text (counting p d n b g h e f) = counting p d n b (gives-on p d g) h e f
      check-on status text (check_failed c (texts_not_read _ h) e f) = check_failed c (texts_not_read c (unread-on (check_texts check) c h)) e f
      check-on status text (check_failed _ (faulty_text p q d role g h i j t) e f) =
          let k = anew check.program p h in
          check_failed (Faulty (name_in_check check role) g)
          (faulty_text k.other q d role g k.read (kept check.query q query i) (kept check.proof d proof j) (check-like p k.other q d role g k.like t)) e f

    printed-like : (text other : List ℕ) → IsLike text other → (tree : ProgramTree) → IsProgramText text tree
        → (other_tree : ProgramTree) × IsProgramText other other_tree × (program_text other_tree ≡ program_text tree)
    printed-like text other (inl e) tree h = (tree, subst (λ x. IsProgramText x tree) e h, refl)
    printed-like text other (inr o) tree h =
        let q = one-program laws text o.tree tree o.is_faultless.is_program h in
        (o.other_tree, o.is_other, printed-same o.tree o.other_tree o.same ∙ ap program_text q)

    reading-like : (text other : List ℕ) → IsLike text other → (f : Fault) → IsReadingFault Program text f → IsReadingFault Program other f
    reading-like text other (inl e) f h = subst (λ x. IsReadingFault Program x f) e h
    reading-like text other (inr o) f h = absurd (no-fault laws text other o f (of_program_reading h))

    print-on : (n : List ℕ) (status : ℕ) (text : List ℕ) → PrintComesTo (Some old) AnyName NoName n status text
        → PrintComesTo (Some new) AnyName NoName n status text
    print-on n status text (printed p e) =
        let k = anew n p.text p.text_read in
        let q = printed-like p.text k.other k.like p.tree p.is_program in
        printed (record { text = k.other; tree = q.0; text_read = k.read; is_program = q.1; is = p.is ∙ sym q.2 }) e
    print-on n status text (print_failed c (source_not_read _ h) e f) = print_failed c (source_not_read c (unread-on (n ∷ []) c h)) e f
    print-on n status text (print_failed _ (faulty_source p g h t) e f) =
        let k = anew n p h in
        print_failed (Faulty n g) (faulty_source k.other g k.read (reading-like p k.other k.like g t)) e f

    convert-on : (convert : ConvertWords) → (convert.proof ≡ name → ⊥) → (status : ℕ) (text : List ℕ)
        → ConvertComesTo (Some old) AnyName NoName convert status text → ConvertComesTo (Some new) AnyName NoName convert status text
    convert-on convert apart status text (converted proof h c l e) = converted proof (kept convert.proof proof apart h) c l e
    convert-on convert apart status text (convert_failed c (proof_not_read _ h) e f) =
        convert_failed c (proof_not_read c (unread-on (convert.proof ∷ []) c h)) e f
    convert-on convert apart status text (convert_failed c (faulty_proof proof g h t) e f) =
        convert_failed c (faulty_proof proof g (kept convert.proof proof apart h) t) e f
    convert-on convert apart status text (convert_failed c (too_long_as proof more h i l) e f) =
        convert_failed c (too_long_as proof more (kept convert.proof proof apart h) i l) e f

    pub call-on : (words : List (List ℕ)) → NamesPrograms words name → (status : ℕ) (text : List ℕ) → ComesTo words (Some old) AnyName NoName status text
        → ComesTo words (Some new) AnyName NoName status text
    call-on words n status text (misused k b e f) = misused k b e f
    call-on words n status text (runs run r c) = runs run r (run-on run (n.run run r) status text c)
    call-on words n status text (sessions session r c) = sessions session r (session-on session (n.session session r) status text c)
    call-on words n status text (deepens deepen r c) = deepens deepen r (deepen-on deepen (n.deepen deepen r) status text c)
    call-on words n status text (prints p r c) = prints p r (print-on p status text c)
    call-on words n status text (checks check r c) = checks check r (check-on check (n.query check r) (n.proof check r) status text c)
    call-on words n status text (converts convert r c) = converts convert r (convert-on convert (n.convert convert r) status text c)
    call-on words n status text (makes make r c) = makes make r c
    call-on words n status text (runs_made run r c) = runs_made run r c

  anew-turned : (name : List ℕ) (old new : Texts) → IsLaidOutAnew name old new → IsLaidOutAnew name new old
  anew-turned name old new s = record {
    text = s.other;
    other = s.text;
    old_read = s.new_read;
    new_read = s.old_read;
    one = one-turned s.text s.other s.one;
    others = λ n apart. sym (s.others n apart);
  }

  pub layout-aside : LayoutIsAside
  layout-aside words name old new s n status text =
      (λ c. call-on name old new s words n status text c, λ c. call-on name new old (anew-turned name old new s) words n status text c)
