-- Words and texts determine what a session writes.
use Rattle.std.proofs.Common.{◌≡◌, ℕ, ap, sym, subst, ◌∙◌, List, [], ◌∷◌}
use Rattle.std.specs.Prelude.{Some}
use Rattle.ll_edge.specs.Texts.{Texts}
use Rattle.ll_lexer.specs.declared.Fault.{Fault}
use Rattle.ll_parser.specs.Raw.{ProgramTree}
use Rattle.ll_session.specs.Lines.{lines}
use Rattle.ll_session.specs.Queries.{QueryLine, AreQueries, HaveQueries}
use Rattle.ll_top.specs.texts.Faults.{Cause, Faulty, fault_text, cause_status}
use Rattle.ll_top.specs.forms.Words.{SessionWords}
use Rattle.ll_top.specs.texts.Judging.{IsProgramText, IsFaultless, IsProgramFault}
use Rattle.ll_top.specs.texts.Outcome.{AnyName, NoName, IsRead, ReadFails}
use Rattle.ll_top.specs.Sessions.{replies_text, SessionAsks, SessionFails, session_not_read, faulty_program, SessionComesTo, replied, session_failed}

-- what is known of texts: one is read of a name, or one of two is not; it is one program, or has one fault, and not both; and the lines of one
-- have one list of queries
module _ (texts : Texts) (one_read : (name a b : List ℕ) → IsRead (Some texts) name a → IsRead (Some texts) name b → a ≡ b)
    (one_unread : (names : List (List ℕ)) (c d : Cause) → ReadFails (Some texts) AnyName NoName names c → ReadFails (Some texts) AnyName NoName names d → c ≡ d)
    (both_read : (first second p q : List ℕ) → IsRead (Some texts) first p → IsRead (Some texts) second q → (c : Cause)
    → ReadFails (Some texts) AnyName NoName (first ∷ second ∷ []) c → ⊥)
    (one_program : (text : List ℕ) (p q : ProgramTree) → IsProgramText text p → IsProgramText text q → p ≡ q)
    (one_fault : (text : List ℕ) (f g : Fault) → IsProgramFault text f → IsProgramFault text g → f ≡ g)
    (no_fault : (text : List ℕ) (tree : ProgramTree) (f : Fault) → IsFaultless text tree → IsProgramFault text f → ⊥)
    (one_list : (program : ProgramTree) (bound line : ℕ) (lines : List (List ℕ)) (queries others : List QueryLine)
    → HaveQueries program bound line lines queries → HaveQueries program bound line lines others → queries ≡ others)
    (session : SessionWords) where
  abbrev Asks : List QueryLine → Type 0
  Asks = SessionAsks (Some texts) session

  abbrev Fails : Cause → Type 0
  Fails = SessionFails (Some texts) AnyName NoName session

  -- the queries are those of the same text, over the same program
  queries-once : (queries others : List QueryLine) → Asks queries → Asks others → queries ≡ others
  queries-once queries others a b =
      let program = one_read session.program a.program b.program a.program_read b.program_read in
      let text = one_read session.queries a.text b.text a.queries_read b.queries_read in
      let tree = one_program b.program a.tree b.tree (subst (λ x. IsProgramText x a.tree) program a.faultless.is_program) b.faultless.is_program in
      one_list b.tree session.bound 1 (lines b.text) queries others
      (subst (λ x. AreQueries x b.text session.bound queries) tree (subst (λ x. AreQueries a.tree x session.bound queries) text a.are)) b.are

  cause-once : (c d : Cause) → Fails c → Fails d → c ≡ d
  cause-once _ _ (session_not_read c r) (session_not_read d s) = one_unread (session.program ∷ session.queries ∷ []) c d r s
  cause-once _ _ (session_not_read c r) (faulty_program p q f h k t) = absurd (both_read session.program session.queries p q h k c r)
  cause-once _ _ (faulty_program p q f h k t) (session_not_read d s) = absurd (both_read session.program session.queries p q h k d s)
  cause-once _ _ (faulty_program p q f h k t) (faulty_program u v g l m w) =
      ap (Faulty session.program) (one_fault u f g (subst (λ x. IsProgramFault x f) (one_read session.program p u h l) t) w)

  asks-or-fails : (queries : List QueryLine) (c : Cause) → Asks queries → Fails c → ⊥
  asks-or-fails queries _ a (session_not_read c r) = both_read session.program session.queries a.program a.text a.program_read a.queries_read c r
  asks-or-fails queries _ a (faulty_program p q f h k t) = no_fault a.program a.tree f a.faultless
      (subst (λ x. IsProgramFault x f) (one_read session.program p a.program h a.program_read) t)

  pub sessions-one : (s t : ℕ) (u v : List ℕ) → SessionComesTo (Some texts) AnyName NoName session s u → SessionComesTo (Some texts) AnyName NoName session t v
      → (s ≡ t) × (u ≡ v)
  sessions-one s t u v (replied queries a e f) (replied others b g h) =
      (e ∙ sym g, f ∙ (ap (replies_text session.proofs session.queries) (queries-once queries others a b) ∙ sym h))
  sessions-one s t u v (replied queries a e f) (session_failed c b g h) = absurd (asks-or-fails queries c a b)
  sessions-one s t u v (session_failed c b g h) (replied queries a e f) = absurd (asks-or-fails queries c a b)
  sessions-one s t u v (session_failed c a e f) (session_failed d b g h) = let o = cause-once c d a b in
      (e ∙ (ap cause_status o ∙ sym g), f ∙ (ap fault_text o ∙ sym h))
