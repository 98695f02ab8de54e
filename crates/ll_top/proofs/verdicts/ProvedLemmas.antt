-- Where a check ends with status 0, the query follows.
use Rattle.std.proofs.Common.{◌≡◌, ℕ, List, Option, true, sym, subst, ◌∙◌, arith}
use Rattle.std.specs.List.{list_all}
use Rattle.ll_bank.specs.Term.{is_closed}
use Rattle.ll_edge.specs.Texts.{Texts}
use Rattle.ll_laws.specs.Problem.{ProblemTree}
use Rattle.ll_laws.specs.Line.{DerivationLines}
use Rattle.ll_laws.specs.Verdict.{DerivationShows}
use Rattle.ll_prooftext.specs.Versions.{IsProofText, IsTextIn, first_version, second_version}
use Rattle.ll_top.specs.textbook.Laws.{ShownFollows}
use Rattle.ll_top.specs.forms.Words.{CheckWords}
use Rattle.ll_top.specs.texts.Faults.{Cause, Usage, Absent, Unreadable, Oversized, OversizedAs, Faulty, cause_status}
use Rattle.ll_top.specs.texts.Endings.{Refuses, line, cut}
use Rattle.ll_top.specs.declared.checks.finding.Finding.{Finding}
use Rattle.ll_top.specs.checks.Endings.{status_of_finding, finding_text, ComesToFinding}
use Rattle.ll_top.specs.checks.Outcome.{CheckGives, CheckComesTo, shown, refuted, covered, too_long, counting, check_failed, IsProved}

pub cause-not-zero : (cause : Cause) → cause_status cause ≡ 0 → ⊥
cause-not-zero (Usage number) e = omega (arith, e)
cause-not-zero (Absent name) e = omega (arith, e)
cause-not-zero (Unreadable name) e = omega (arith, e)
cause-not-zero (Oversized name) e = omega (arith, e)
cause-not-zero (OversizedAs name version) e = omega (arith, e)
cause-not-zero (Faulty name fault) e = omega (arith, e)

-- a call that writes the line of its cause does not end with status 0
pub refused-not-zero : (cause : Cause) (write_failed : Type 0) (before after : Option (List ℕ)) (status : ℕ)
    → Refuses cause write_failed before after status → status ≡ 0 → ⊥
refused-not-zero cause w before after status (line s a) zero = cause-not-zero cause (sym s ∙ zero)
refused-not-zero cause w before after status (cut s f a) zero = omega (arith, s, zero)

closed-asked : (names : List (List ℕ)) (text : List ℕ) (d : DerivationLines) → IsProofText names text d → list_all is_closed d.asked ≡ true
closed-asked names text d t = by t.is_text
  where
    by : {version : ℕ} → IsTextIn version names text d → list_all is_closed d.asked ≡ true
    by (first_version v n is) = is.spelled.whole.asked
    by (second_version v n is) = is.spelled.whole.asked

module _ (follows : ShownFollows) (told : Option Texts) (check : CheckWords) where
  proved-of : (p : ProblemTree) (d : DerivationLines) → CheckGives told check p d → DerivationShows p d → IsProved told check
  proved-of p d g s =
      let f = follows p d s (closed-asked _ g.proof d g.give.is_text) in
      record { problem = p; derivation = d; gives = g; filling = f.0; follows = f.1 }

  module _ (absence read_failed : List ℕ → Type 0) where
    pub comes-proved : (status : ℕ) (text : List ℕ) → status ≡ 0 → CheckComesTo told absence read_failed check status text → IsProved told check
    comes-proved status text zero (shown p d b g s e t) = proved-of p d g s
    comes-proved status text zero (refuted p d node reason g r e t) = absurd (omega (arith, e, zero))
    comes-proved status text zero (covered p d number b g c e t) = proved-of p d g c.shows.shows
    comes-proved status text zero (too_long p d b g l e t) = absurd (omega (arith, e, zero))
    comes-proved status text zero (counting p d node b g l e t) = absurd (omega (arith, e, zero))
    comes-proved status text zero (check_failed cause f e t) = absurd (cause-not-zero cause (sym e ∙ zero))

    pub is-proved : (finding : Finding) → status_of_finding finding ≡ 0 → ComesToFinding told absence read_failed check finding → IsProved told check
    is-proved finding zero h = comes-proved (status_of_finding finding) (finding_text finding) zero h
