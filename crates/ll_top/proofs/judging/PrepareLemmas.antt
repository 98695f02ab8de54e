-- From the reading and judging of two texts to what a run comes to.
use Rattle.std.proofs.Common.{◌≡◌, ℕ, List, [], ◌∷◌, Option, refl, sym, subst}
use Rattle.std.specs.Prelude.{Result, Ok, Err, IfOk, IfErr, Vec}
use Rattle.std.specs.Vec.{vec_items}
use Rattle.ll_edge.specs.Log.{Entry, ToldFits, Reads, Handed, ShelfKept, Met, NoText, Unreadable}
use Rattle.ll_edge.proofs.CallerLemmas.{met_later}
use Rattle.ll_edge.specs.Texts.{Texts}
use Rattle.ll_laws.specs.Problem.{ProblemTree}
use Rattle.ll_lexer.specs.declared.TextFault.{TextFault}
use Rattle.ll_lexer.specs.declared.TextFault.TheVariants as text_fault
use Rattle.ll_parser.specs.Raw.{Raw, ProgramTree}
use Rattle.ll_polarity.specs.Causes.{IsCauseOf}
use Rattle.ll_polarity.specs.Asks.{ProgramPart, part_of, HasProgramFault, HasQueryFault}
use Rattle.ll_top.specs.declared.texts.judge.Role.{Role}
use Rattle.ll_top.specs.declared.texts.judge.Role.TheVariants.{Program, Query, Proof}
use Rattle.ll_top.specs.declared.texts.refusing.TextRefusal.{TextRefusal}
use Rattle.ll_top.specs.declared.texts.refusing.TextRefusal.TheVariants as text
use Rattle.ll_top.specs.declared.texts.refusing.Refusal.{Refusal}
use Rattle.ll_top.specs.declared.texts.refusing.Refusal.TheVariants.{Text, Unwritable, OutOfMemory}
use Rattle.ll_top.specs.forms.Words.{RunWords}
use Rattle.ll_top.specs.texts.Judging.{IsProgramText, IsQueryText, IsReadingCause, of_program_reading, of_program_scope, of_query_reading, of_query_scope}
use Rattle.ll_top.specs.texts.Judging.{of_program, of_query, IsPartOf, IsProgramCause, IsQueryCause}
use Rattle.ll_top.specs.texts.Outcome.{name_of, IsRead, Reaches, first, later, run_texts, ReadFails, absent, unreadable, oversized, RunFails, not_read, faulty}
use Rattle.ll_top.specs.texts.Outcome.{ReadsWhatAsks, IsPrintedAs, source_not_read, faulty_source}
use Rattle.ll_top.specs.texts.Endings.{refusal_of, cause_of, IsTextNotRead, IsNotRead, IsFaultOf, Judges, Prepares, IsNotPrinted, IsMadeOf, IsNotMadeOf}
use Rattle.ll_top.specs.texts.Endings.{IsNoDerivation}
use Rattle.ll_prooftext.specs.Versions.{IsCauseIn}

-- ---- texts that are not read

-- the text whose turn it is was not read
pub not-read : (told : Option Texts) (absence read_failed : List ℕ → Type 0) (names : List (List ℕ)) (name : List ℕ) (refusal : TextRefusal)
    → Reaches told names name
    → IsTextNotRead told absence read_failed name refusal → ReadFails told absence read_failed names (cause_of name refusal)
not-read told absence read_failed names name text.Absent r h = absent name r h.0 h.1
not-read told absence read_failed names name text.Unreadable r h = unreadable name r h
not-read told absence read_failed names name text.Oversized r h = oversized name r h
not-read told absence read_failed names name (text.Faulty fault) r h = absurd h

pub program-refused : (told : Option Texts) (absence read_failed : List ℕ → Type 0) (run : RunWords) (e : Refusal)
    → IsNotRead told absence read_failed run.program Program e → Prepares told absence read_failed run (Err e)
program-refused told absence read_failed run (Text role refusal) h =
    subst (λ r. RunFails told absence read_failed run (cause_of (name_of run r) refusal)) (sym h.0)
    (not_read (cause_of run.program refusal) (not-read told absence read_failed (run_texts run) run.program refusal first h.1))
program-refused told absence read_failed run Unwritable h = absurd h
program-refused told absence read_failed run OutOfMemory h = tt

pub query-refused : (told : Option Texts) (absence read_failed : List ℕ → Type 0) (run : RunWords) (program : List ℕ) (e : Refusal)
    → IsRead told run.program program
    → IsNotRead told absence read_failed run.query Query e → Prepares told absence read_failed run (Err e)
query-refused told absence read_failed run program (Text role refusal) p h =
    subst (λ r. RunFails told absence read_failed run (cause_of (name_of run r) refusal)) (sym h.0)
    (not_read (cause_of run.query refusal) (not-read told absence read_failed (run_texts run) run.query refusal (later program p first) h.1))
query-refused told absence read_failed run program Unwritable p h = absurd h
query-refused told absence read_failed run program OutOfMemory p h = tt

-- with counts that rose later on
not-read-later : (told : Option Texts) (absence absence' read_failed read_failed' : List ℕ → Type 0) (name : List ℕ) (role : Role) (e : Refusal)
    → (absence name → absence' name) → (read_failed name → read_failed' name)
    → IsNotRead told absence read_failed name role e → IsNotRead told absence' read_failed' name role e
not-read-later told a a' r r' name role (Text other text.Absent) f g h = (h.0, (f h.1.0, h.1.1))
not-read-later told a a' r r' name role (Text other text.Unreadable) f g h = (h.0, g h.1)
not-read-later told a a' r r' name role (Text other text.Oversized) f g h = h
not-read-later told a a' r r' name role (Text other (text.Faulty fault)) f g h = h
not-read-later told a a' r r' name role Unwritable f g h = h
not-read-later told a a' r r' name role OutOfMemory f g h = h

-- with calls of the shelf before those that read
pub not-read-after : {S : Type 0} {texts : S → Option Texts} {faults absences : S → ℕ} {log : S → List Entry} {first before : S} (after : S)
    (told : Option Texts) (name : List ℕ) (role : Role) (e : Refusal) → ShelfKept texts faults absences log first before
    → IsNotRead told (Met absences log before after NoText) (Met faults log before after Unreadable) name role e
    → IsNotRead told (Met absences log first after NoText) (Met faults log first after Unreadable) name role e
not-read-after {faults} {absences} {log} {first = f} {before} after told name role e kept h =
    not-read-later told (Met absences log before after NoText) (Met absences log f after NoText) (Met faults log before after Unreadable)
    (Met faults log f after Unreadable) name role e (met_later {count = absences} {after = after} {answer = NoText} {name = name} kept kept.absences_kept)
    (met_later {count = faults} {after = after} {answer = Unreadable} {name = name} kept kept.faults_kept) h

-- ---- texts that are read

pub prepared : (told : Option Texts) (absence read_failed : List ℕ → Type 0) (run : RunWords) (program query : List ℕ) → IsRead told run.program program
    → IsRead told run.query query → (r : Result ProblemTree Refusal) → Judges program query run.bound r
    → Prepares told absence read_failed run r
prepared told absence read_failed run program query p q (Ok problem) h = record { program = program; query = query; program_read = p; query_read = q; asks = h }
prepared told absence read_failed run program query p q (Err (Text role refusal)) h = by role refusal h
  where
    by : (role : Role) (refusal : TextRefusal) → IsFaultOf program query role refusal
        → RunFails told absence read_failed run (cause_of (name_of run role) refusal)
    by role (text.Faulty f) g = faulty program query role f p q g
    by role text.Absent g = absurd g
    by role text.Unreadable g = absurd g
    by role text.Oversized g = absurd g
prepared told absence read_failed run program query p q (Err Unwritable) h = absurd h
prepared told absence read_failed run program query p q (Err OutOfMemory) h = tt

-- the texts ask what was judged
pub asks-read : (run : RunWords) (before mid after : List Entry) (program query : List ℕ) (r : Result ProblemTree Refusal)
    → Reads run.program before mid program (Handed []) → Reads run.query mid after query (Handed []) → Judges program query run.bound r
    → IfOk r (ReadsWhatAsks run before after)
asks-read run before mid after program query (Ok p) one other h =
    record { program = program; query = query; between = mid; program_read = one; query_read = other; asks = h }
asks-read run before mid after program query (Err e) one other h = tt

-- ---- judging

pub program-judged : (program query : List ℕ) (bound : ℕ) (fault : TextFault) (r : Refusal) → r ≡ refusal_of Program fault → IsProgramCause program fault
    → Judges program query bound (Err r)
program-judged program query bound (text_fault.Text f) r e h = subst (λ x. Judges program query bound (Err x)) (sym e) (of_program h)
program-judged program query bound text_fault.OutOfMemory r e h = subst (λ x. Judges program query bound (Err x)) (sym e) tt

pub query-judged : (program query : List ℕ) (bound : ℕ) (part : ProgramPart) (fault : TextFault) (r : Refusal) → r ≡ refusal_of Query fault
    → IsPartOf program part → IsQueryCause part query fault → Judges program query bound (Err r)
query-judged program query bound part (text_fault.Text f) r e p h =
    subst (λ x. Judges program query bound (Err x)) (sym e) (of_query p.tree p.is_faultless (h p.tree p.is))
query-judged program query bound part text_fault.OutOfMemory r e p h = subst (λ x. Judges program query bound (Err x)) (sym e) tt

-- a program's text that is not read, or not loaded
pub program-unread : (text : List ℕ) (e : TextFault) → IsReadingCause Program text e → IsProgramCause text e
program-unread text (text_fault.Text f) h = of_program_reading h
program-unread text text_fault.OutOfMemory h = tt

program-unloaded : (text : List ℕ) (tree : ProgramTree) (e : TextFault) → IsProgramText text tree → IsCauseOf (HasProgramFault tree) e
    → IsProgramCause text e
program-unloaded text tree (text_fault.Text f) p h = of_program_scope tree p h
program-unloaded text tree text_fault.OutOfMemory p h = tt

pub program-loaded : {A : Type 0} (text : List ℕ) (tree : ProgramTree) (r : Result A TextFault) → IsProgramText text tree
    → IfErr r (IsCauseOf (HasProgramFault tree)) → IfErr r (IsProgramCause text)
program-loaded text tree (Ok x) p h = tt
program-loaded text tree (Err e) p h = program-unloaded text tree e p h

-- a query's text that is not read, or asks nothing
pub query-unread : (part : ProgramPart) (text : List ℕ) (e : TextFault) → IsReadingCause Query text e → IsQueryCause part text e
query-unread part text (text_fault.Text f) h = λ program is. of_query_reading h
query-unread part text text_fault.OutOfMemory h = tt

query-unasked : (part : ProgramPart) (text : List ℕ) (tree : Raw) (e : TextFault) → IsQueryText text tree
    → IsCauseOf (λ fault. (program : ProgramTree) → part ≡ part_of program → HasQueryFault program tree fault) e → IsQueryCause part text e
query-unasked part text tree (text_fault.Text f) q h = λ program is. of_query_scope tree q (h program is)
query-unasked part text tree text_fault.OutOfMemory q h = tt

pub query-asked : {A : Type 0} (part : ProgramPart) (text : List ℕ) (tree : Raw) (r : Result A TextFault) → IsQueryText text tree
    → IfErr r (IsCauseOf (λ fault. (program : ProgramTree) → part ≡ part_of program → HasQueryFault program tree fault)) → IfErr r (IsQueryCause part text)
query-asked part text tree (Ok x) q h = tt
query-asked part text tree (Err e) q h = query-unasked part text tree e q h

-- ---- prints

-- the text was not read
pub source-refused : (told : Option Texts) (absence read_failed : List ℕ → Type 0) (name : List ℕ) (e : Refusal)
    → IsNotRead told absence read_failed name Program e
    → IsNotPrinted told absence read_failed name e
source-refused told absence read_failed name (Text role refusal) h =
    source_not_read (cause_of name refusal) (not-read told absence read_failed (name ∷ []) name refusal first h.1)
source-refused told absence read_failed name Unwritable h = absurd h
source-refused told absence read_failed name OutOfMemory h = tt

-- the text was read, and judged
pub source-printed : (told : Option Texts) (name source bytes : List ℕ) → IsRead told name source → IsMadeOf source bytes → IsPrintedAs told name bytes
source-printed told name source bytes h m = record { text = source; tree = m.tree; text_read = h; is_program = m.is_program; is = m.is }

pub source-judged : (told : Option Texts) (absence read_failed : List ℕ → Type 0) (name source : List ℕ) (e : Refusal) → IsRead told name source
    → IsNotMadeOf source e
    → IsNotPrinted told absence read_failed name e
source-judged told absence read_failed name source (Text role (text.Faulty f)) h m = faulty_source source f h m
source-judged told absence read_failed name source (Text role text.Absent) h m = absurd m
source-judged told absence read_failed name source (Text role text.Unreadable) h m = absurd m
source-judged told absence read_failed name source (Text role text.Oversized) h m = absurd m
source-judged told absence read_failed name source Unwritable h m = absurd m
source-judged told absence read_failed name source OutOfMemory h m = tt

pub source-faulty : (source : List ℕ) (fault : TextFault) (e : Refusal) → e ≡ refusal_of Program fault → IsReadingCause Program source fault
    → IsNotMadeOf source e
source-faulty source (text_fault.Text f) e r h = subst (IsNotMadeOf source) (sym r) h
source-faulty source text_fault.OutOfMemory e r h = subst (IsNotMadeOf source) (sym r) tt

module _ (before after : List Entry) (name source : List ℕ) (read : (told : Option Texts) → ToldFits told before after → IsRead told name source) where
  pub source-made : {A : Type 0} (r : Result (Vec ℕ A) Refusal) → IfOk r (λ bytes. IsMadeOf source (vec_items bytes))
      → IfOk r (λ bytes. (told : Option Texts) → ToldFits told before after → IsPrintedAs told name (vec_items bytes))
  source-made (Ok bytes) m = λ told fits. source-printed told name source (vec_items bytes) (read told fits) m
  source-made (Err e) m = tt

  pub source-unprinted : {A : Type 0} (absence read_failed : List ℕ → Type 0) (r : Result A Refusal) → IfErr r (IsNotMadeOf source)
      → IfErr r (λ e. (told : Option Texts) → ToldFits told before after → IsNotPrinted told absence read_failed name e)
  source-unprinted absence read_failed (Ok x) m = tt
  source-unprinted absence read_failed (Err e) m = λ told fits. source-judged told absence read_failed name source e (read told fits) m

-- ---- derivations

pub derivation-refused : (proof : List ℕ) (fault : TextFault) (e : Refusal) → e ≡ refusal_of Proof fault → IsCauseIn proof fault → IsNoDerivation proof e
derivation-refused proof (text_fault.Text f) e r h = subst (IsNoDerivation proof) (sym r) (refl, h)
derivation-refused proof text_fault.OutOfMemory e r h = subst (IsNoDerivation proof) (sym r) tt
