-- A check says yes to each derivation that a run prints.
use Rattle.std.proofs.Common.{◌≡◌, ℕ, ◌≤◌, List, length, Some, ap, sym, subst, refl, arith}
use Rattle.std.specs.Prelude.{Option, None, is_some, Contains}
use Rattle.ll_bank.specs.Names.{with_names}
use Rattle.ll_edge.specs.Texts.{Texts}
use Rattle.ll_lexer.specs.Reading.{LexedText, IsLexed}
use Rattle.ll_lexer.proofs.CallerLemmas.{few-tokens}
use Rattle.ll_laws.specs.declared.Event.TheVariants.{Answer}
use Rattle.ll_laws.specs.Answered.{Answered}
use Rattle.ll_laws.specs.Problem.{ProblemTree, problem_events}
use Rattle.ll_laws.specs.Dealt.{asked_terms, dealt, HasNodeForEachStep}
use Rattle.ll_laws.specs.Line.{DerivationLines}
use Rattle.ll_laws.specs.Laws.{AnswersAreShown}
use Rattle.ll_laws.specs.ProofText.{proof_text}
use Rattle.ll_laws.specs.Verdict.{DerivationShows}
use Rattle.ll_parser.specs.Text.{programs, queries}
use Rattle.ll_parser.specs.Reads.{IsWhole}
use Rattle.ll_parser.proofs.CallerLemmas.{whole-read}
use Rattle.ll_polarity.proofs.CallerLemmas.{asked_problem_valid}
use Rattle.ll_prooftext.specs.Mentions.{text_names}
use Rattle.ll_prooftext.specs.Versions.{IsProofText}
use Rattle.ll_top.specs.spelled.Laws.{AnswersAreSpelled, SpelledIsRead}
use Rattle.ll_top.specs.forms.Words.{RunWords, CheckWords}
use Rattle.ll_top.specs.texts.Judging.{TextsAsk}
use Rattle.ll_top.specs.texts.Outcome.{AnyName, NoName, IsRead, RunAsks}
use Rattle.ll_top.specs.checks.Verdicts.{yes_text}
use Rattle.ll_top.specs.checks.Outcome.{bound_in, CheckGives, CheckComesTo, shown}
use Rattle.ll_top.specs.Calls.{checks}
use Rattle.ll_top.specs.Accepted.{PrintedIsAccepted}
use Rattle.ll_top.proofs.RunBounds.{run-bounded}

-- a text of at most 16,777,216 bytes has at most as many tokens
pub few : (lexed : LexedText) (text : List ℕ) → IsLexed lexed → lexed.text ≡ text → length text ≤ 16777216 → length lexed.tokens ≤ 16777216
few lexed text h e le = let q = ap length e in omega (arith, few-tokens lexed h, q, le)

module _ (texts : Texts) (run : RunWords) (p : ProblemTree) (asks : RunAsks (Some texts) run p) where
  program-whole : IsWhole programs asks.asks.program_tree
  program-whole =
      let t = asks.asks.is_program in
      whole-read programs t.lexed asks.asks.program_tree t.is_lexed (few t.lexed asks.program t.is_lexed t.of_text asks.program_read.within) t.reads

  query-whole : IsWhole queries asks.asks.query_tree
  query-whole =
      let t = asks.asks.is_query in
      whole-read queries t.lexed asks.asks.query_tree t.is_lexed (few t.lexed asks.query t.is_lexed t.of_text asks.query_read.within) t.reads

-- no text asks for a bound, so the same texts ask the same problem with any other
other-bound : (program query : List ℕ) (bound other : ℕ) (p : ProblemTree) → TextsAsk program query bound p
    → TextsAsk program query other (record p { bound = other })
other-bound program query bound other p t = record {
  program_tree = t.program_tree;
  query_tree = t.query_tree;
  is_program = t.is_program;
  is_query = t.is_query;
  asks = record {
    program_faultless = t.asks.program_faultless;
    query_faultless = t.asks.query_faultless;
    is = ap (λ (z : ProblemTree). let x : ProblemTree = record z { bound = other } in x) t.asks.is;
  };
}

-- and a derivation shows it or not whatever the bound
shows-other : (p : ProblemTree) (d : DerivationLines) (other : ℕ) → DerivationShows p d → DerivationShows (record p { bound = other }) d
shows-other p d other s = record { tree = s.tree; is_tree = s.is_tree; count = s.count; shows = s.shows }

-- what is known of a derivation that a run prints
pub record Printed (p : ProblemTree) (a : Answered) (d : DerivationLines) : Type 0 where
  pub text : IsProofText (with_names p.names (text_names (proof_text p.names d))) (proof_text p.names d) d
  pub shows : DerivationShows p d
  pub asked : d.asked ≡ asked_terms p a
  pub count : HasNodeForEachStep a d

module _ (shown_law : AnswersAreShown) (spelled_law : AnswersAreSpelled) (read_law : SpelledIsRead) (texts : Texts) (run : RunWords) (p : ProblemTree)
    (asks : RunAsks (Some texts) run p) (a : Answered) (d : DerivationLines) where
  pub printed : run.bound ≤ 1000000 → Contains (problem_events p) (Answer a) → dealt p a ≡ Some d → Printed p a d
  printed le found is =
      let t = asks.asks in
      let program = program-whole texts run p asks in let query = query-whole texts run p asks in
      let s = shown_law p a (asked_problem_valid t.program_tree t.query_tree run.bound p t.asks program query le) found in
      let same : s.0 ≡ d = cc (s.1, is) in
      record {
        text =
            read_law p.names (text_names (proof_text p.names d)) d (spelled_law t.program_tree t.query_tree run.bound p a d program query le t.asks found is);
        shows = subst (DerivationShows p) same s.4;
        asked = subst (λ (z : DerivationLines). z.asked ≡ asked_terms p a) same s.2;
        count = subst (λ (z : DerivationLines). length z.nodes ≡ length a.steps) same s.5;
      }

  -- a check of the printed text says yes
  pub says-yes : (later : Texts) (check : CheckWords) → Printed p a d → check.bound ≡ None → IsRead (Some later) check.program asks.program
      → IsRead (Some later) check.query asks.query → IsRead (Some later) check.proof (proof_text p.names d)
      → CheckComesTo (Some later) AnyName NoName check 0 (yes_text (length a.steps))
  says-yes later check facts unbounded program query proof =
      let gives : CheckGives (Some later) check (record p { bound = bound_in check }) d = record {
        program = asks.program;
        query = asks.query;
        proof = proof_text p.names d;
        program_read = program;
        query_read = query;
        proof_read = proof;
        give = record { asks = other-bound asks.program asks.query run.bound (bound_in check) p asks.asks; is_text = facts.text };
      } in
      shown (record p { bound = bound_in check }) d (ap (λ (o : Option ℕ). is_some o) unbounded) gives
      (shows-other p d (bound_in check) facts.shows) refl (ap yes_text (sym facts.count))

pub accepted : AnswersAreShown → AnswersAreSpelled → SpelledIsRead → PrintedIsAccepted
accepted shown_law spelled_law read_law words other run check texts later p a d is_run asks found is is_check unbounded program query proof =
    let facts = printed shown_law spelled_law read_law texts run p asks a d (run-bounded words run is_run) found is in
    checks check is_check (says-yes shown_law spelled_law read_law texts run p asks a d later check facts unbounded program query proof)
