-- The replies of a session, from line to line and up to the whole call.
use Rattle.std.proofs.Common.{◌≡◌, ℕ, refl, ap, sym, subst, ◌∙◌, Bool, List, [], ◌∷◌, ◌++◌}
use Rattle.std.specs.Prelude.{Option, Result, Err, IfOk}
use Rattle.std.specs.Io.KnownBytes.{append_known}
use Rattle.std.proofs.lemmas.List.{append-nil}
use Rattle.ll_edge.specs.Counts.{Rose}
use Rattle.ll_edge.specs.Pieces.{AppendsFront}
use Rattle.ll_edge.specs.Texts.{Texts}
use Rattle.ll_index.specs.declared.index.Index.{Index}
use Rattle.ll_index.specs.Index.{HasIndex}
use Rattle.ll_laws.specs.Problem.{ProblemTree}
use Rattle.ll_laws.specs.Sound.{Every}
use Rattle.ll_laws.specs.Valid.{IsValid}
use Rattle.ll_order.specs.Outlets.{Gives}
use Rattle.ll_top.specs.Shown.{WritesReplies}
use Rattle.ll_lexer.specs.declared.TextFault.{TextFault}
use Rattle.ll_lexer.specs.declared.TextFault.TheVariants as text_fault
use Rattle.ll_parser.specs.Raw.{ProgramTree}
use Rattle.ll_polarity.specs.Asks.{ProgramPart}
use Rattle.ll_session.specs.Queries.{QueryLine, IsProgramOf}
use Rattle.ll_session.specs.Reading.{TextAsks}
use Rattle.ll_session.specs.Replied.{Answers, StopsShort, refused, not_begun}
use Rattle.ll_top.specs.declared.texts.judge.Role.{Role}
use Rattle.ll_top.specs.declared.texts.judge.Role.TheVariants.{Program, Query}
use Rattle.ll_top.specs.declared.texts.refusing.TextRefusal.{TextRefusal}
use Rattle.ll_top.specs.declared.texts.refusing.TextRefusal.TheVariants as text
use Rattle.ll_top.specs.declared.texts.refusing.Refusal.{Refusal}
use Rattle.ll_top.specs.declared.texts.refusing.Refusal.TheVariants.{Text, Unwritable, OutOfMemory}
use Rattle.ll_top.specs.forms.Words.{SessionWords}
use Rattle.ll_top.specs.texts.Judging.{IsPartOf, IsProgramCause}
use Rattle.ll_top.specs.texts.Outcome.{IsRead, Reaches, first, later, ReadFails}
use Rattle.ll_top.specs.texts.CallEnds.{nothing}
use Rattle.ll_top.specs.texts.Endings.{refusal_of, cause_of, IsNotRead}
use Rattle.ll_top.specs.OwnEnds.{EndsOwn, NoneFails}
use Rattle.ll_top.specs.Running.{IsRunRefusal}
use Rattle.ll_top.specs.Sessions.{reply_text, replies_text, session_not_read, faulty_program, SessionComesTo, replied}
use Rattle.ll_top.specs.SessionEnds.{name_in_session, RefusesText, WritesReply, CutsReply, RepliesTo, TextsComeTo, RefusesProgram}
use Rattle.ll_top.proofs.writing.GivenLemmas.{given-written, front-given, refused-written}
use Rattle.ll_top.proofs.judging.PrepareLemmas.{not-read}
use Rattle.ll_top.proofs.outcomes.OwnLemmas.{ends-more, stopped}

-- ---- replies that were written

module _ (proofs : Bool) (name : List ℕ) where
  abbrev Takes : Option (List ℕ) → QueryLine → Option (List ℕ) → Type 0
  Takes = WritesReply proofs name

  abbrev Breaks : Option (List ℕ) → QueryLine → Option (List ℕ) → Type 0
  Breaks = CutsReply proofs name

  abbrev reply : Option (List ℕ) → QueryLine → List ℕ
  reply w q = reply_text proofs name q

  abbrev replies : Option (List ℕ) → List QueryLine → List ℕ
  replies w qs = replies_text proofs name qs

  module _ (program : ProgramTree) (text : List ℕ) (bound : ℕ) (before after : Option (List ℕ)) where
    -- all of them were written
    pub replies-written : (count : ℕ) → Answers Takes Breaks program text bound before count after
        → (written : List ℕ) × RepliesTo proofs name program text bound 0 written × (after ≡ append_known before written)
    replies-written count a = (
      replies_text proofs name a.queries,
      record { queries = a.queries; are = a.are; succeeds = refl; is = refl },
      given-written Takes Breaks (λ w. w) reply replies (λ w. refl) (λ x q y h. h.0) (λ x q y qs h. refl) (λ x q qs. (replies_text proofs name qs, refl))
          (λ x q y h. h) before after a.queries a.given,
    )

    each-valid : (x y : Option (List ℕ)) (queries : List QueryLine) → Gives Takes x queries y → Every (λ q. IfOk q.asked IsValid) queries
    each-valid x y [] g = tt
    each-valid x y (q ∷ queries) (z, h, g) = (h.1, each-valid z y queries g)

    pub replies-valid : (count : ℕ) → Answers Takes Breaks program text bound before count after → WritesReplies proofs name program text bound before after
    unfolding replies-written
    replies-valid count a =
        record { queries = a.queries; are = a.are; valid = each-valid before after a.queries a.given; written = (replies-written count a).2 }

    -- only a prefix of them was
    pub replies-cut : StopsShort Takes Breaks program text bound before after
        → (written : List ℕ) × (RepliesTo proofs name program text bound 0 written × AppendsFront before written after)
    replies-cut (refused queries are r) = (
      replies_text proofs name queries,
      (
        record { queries = queries; are = are; succeeds = refl; is = refl },
        subst (λ t. AppendsFront before t after) (append-nil (replies_text proofs name queries))
            (refused-written Takes Breaks (λ w. w) reply replies (λ w. refl) (λ x q y h. h.0) (λ x q y qs h. refl) (λ x q qs.
            (replies_text proofs name qs, refl))
            (λ x q y h. h) before after queries [] r),
      ),
    )
    replies-cut (not_begun front back are g) = (
      replies_text proofs name (front ++ back),
      (
        record { queries = front ++ back; are = are; succeeds = refl; is = refl },
        subst (λ t. AppendsFront before t after) (append-nil (replies_text proofs name (front ++ back)))
            (front-given Takes Breaks (λ w. w) reply replies (λ w. refl) (λ x q y h. h.0) (λ x q y qs h. refl) (λ x q qs. (replies_text proofs name qs, refl))
            (λ x q y h. h) before after front back [] g),
      ),
    )

    pub lines-stopped : {A : Type 0} (status_of : A → ℕ) (faults more : ℕ) (e : Refusal) → IsRunRefusal faults more e
        → StopsShort Takes Breaks program text bound before after
        → EndsOwn (RepliesTo proofs name program text bound) status_of NoneFails (Rose faults more) before after (Err e)
    lines-stopped status_of faults more e h s =
        let r = replies-cut s in stopped (RepliesTo proofs name program text bound) status_of NoneFails before after faults more 0 r.0 e h r.1.0 r.1.1

-- ---- the index of a program

-- the problems that queries ask of a program have its clauses
pub query-indexed : (program : ProgramTree) (part : ProgramPart) (text : List ℕ) (bound : ℕ) (problem : ProblemTree) (index : Index) → IsProgramOf program part
    → TextAsks program text bound problem → HasIndex part.clauses index
    → HasIndex problem.clauses index
query-indexed program part text bound problem index is asked h =
    subst (λ clauses. HasIndex clauses index) (ap (λ (p : ProgramPart). p.clauses) is.is ∙ sym (ap (λ (p : ProblemTree). p.clauses) asked.asks.is)) h

-- ---- two texts

-- the program that a text is was loaded
pub loaded-program : (program : List ℕ) (part : ProgramPart) (p : IsPartOf program part) → IsProgramOf p.tree part
loaded-program program part p = record { whole = p.whole; faultless = p.is_faultless.faultless; is = p.is }

pub lines-ended : {A : Type 0} (status_of : A → ℕ) (proofs : Bool) (name program text : List ℕ) (bound : ℕ) (part : ProgramPart) (w : Type 0)
    (before after : Option (List ℕ)) (r : Result A Refusal) → IsPartOf program part
    → ((tree : ProgramTree) → IsProgramOf tree part → EndsOwn (RepliesTo proofs name tree text bound) status_of NoneFails w before after r)
    → EndsOwn (TextsComeTo proofs name program text bound) status_of (RefusesProgram program) w before after r
lines-ended status_of proofs name program text bound part w before after r p h =
    ends-more (RepliesTo proofs name p.tree text bound) (TextsComeTo proofs name program text bound) status_of NoneFails (RefusesProgram program) w before after
    r
    (λ s t c. record { tree = p.tree; faultless = p.is_faultless; replies = c }) (λ role refusal f. absurd f) (h p.tree (loaded-program program part p))

-- the program has a fault, or memory ran out
pub not-loaded : {A : Type 0} (Comes : ℕ → List ℕ → Type 0) (status_of : A
    → ℕ) (program : List ℕ) (w : Type 0) (before : Option (List ℕ)) (fault : TextFault) (e : Refusal) → e ≡ refusal_of Program fault
    → IsProgramCause program fault
    → EndsOwn Comes status_of (RefusesProgram program) w before before (Err e)
not-loaded Comes status_of program w before (text_fault.Text f) e r h =
    subst (λ x. EndsOwn Comes status_of (RefusesProgram program) w before before (Err x)) (sym r) ((refl, h), refl)
not-loaded Comes status_of program w before text_fault.OutOfMemory e r h =
    subst (λ x. EndsOwn Comes status_of (RefusesProgram program) w before before (Err x)) (sym r) (nothing refl)

-- ---- the texts of a session

module _ {A : Type 0} (told : Option Texts) (absence read_failed : List ℕ → Type 0) (session : SessionWords) (status_of : A → ℕ) (w : Type 0) where
  abbrev Comes : ℕ → List ℕ → Type 0
  Comes = SessionComesTo told absence read_failed session

  -- a text was not read
  text-not-read : (name : List ℕ) (role : Role) (before : Option (List ℕ)) (e : Refusal) → Reaches told (session.program ∷ session.queries ∷ []) name
      → name ≡ name_in_session session role
      → IsNotRead told absence read_failed name role e → EndsOwn Comes status_of (RefusesText told absence read_failed session) w before before (Err e)
  text-not-read name role before (Text other refusal) r n h = (
    subst (λ x. RefusesText told absence read_failed session x refusal) (sym h.0)
        (session_not_read (cause_of (name_in_session session role) refusal)
        (subst (λ x. ReadFails told absence read_failed (session.program ∷ session.queries ∷ []) (cause_of x refusal)) n
        (not-read told absence read_failed (session.program ∷ session.queries ∷ []) name refusal r h.1))),
    refl,
  )
  text-not-read name role before Unwritable r n h = absurd h
  text-not-read name role before OutOfMemory r n h = nothing refl

  pub program-not-read : (before : Option (List ℕ)) (e : Refusal) → IsNotRead told absence read_failed session.program Program e
      → EndsOwn Comes status_of (RefusesText told absence read_failed session) w before before (Err e)
  program-not-read before e h = text-not-read session.program Program before e first refl h

  pub queries-not-read : (program : List ℕ) (before : Option (List ℕ)) (e : Refusal) → IsRead told session.program program
      → IsNotRead told absence read_failed session.queries Query e
      → EndsOwn Comes status_of (RefusesText told absence read_failed session) w before before (Err e)
  queries-not-read program before e p h = text-not-read session.queries Query before e (later program p first) refl h

  -- both were
  module _ (program query : List ℕ) (p : IsRead told session.program program) (q : IsRead told session.queries query) where
    comes : (s : ℕ) (t : List ℕ) → TextsComeTo session.proofs session.queries program query session.bound s t → Comes s t
    comes s t c =
        replied c.replies.queries (record {
          program = program;
          text = query;
          program_read = p;
          queries_read = q;
          tree = c.tree;
          faultless = c.faultless;
          are =
              c.replies.are;
        }) c.replies.succeeds c.replies.is

    refuses : (role : Role) (refusal : TextRefusal) → RefusesProgram program role refusal → RefusesText told absence read_failed session role refusal
    refuses role (text.Faulty f) h = subst (λ x. RefusesText told absence read_failed session x (text.Faulty f)) (sym h.0)
        (faulty_program program query f p q h.1)
    refuses role text.Absent h = absurd h
    refuses role text.Unreadable h = absurd h
    refuses role text.Oversized h = absurd h

    pub texts-ended : (before after : Option (List ℕ)) (r : Result A Refusal)
        → EndsOwn (TextsComeTo session.proofs session.queries program query session.bound) status_of (RefusesProgram program) w before after r
        → EndsOwn Comes status_of (RefusesText told absence read_failed session) w before after r
    texts-ended before after r h = ends-more (TextsComeTo session.proofs session.queries program query session.bound) Comes status_of (RefusesProgram program)
        (RefusesText told absence read_failed session) w before after r comes refuses h
