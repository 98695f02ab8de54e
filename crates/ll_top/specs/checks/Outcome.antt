-- What a check and a cover come to, by their words and the texts on the shelf.
use Rattle.std.specs.Prelude.{◌≡◌, ◌≤◌, ◌<◌, ◌⊎◌, ℕ, true, false, List, [], ◌∷◌, length, Option, Some, is_some, unwrap_or}
use Rattle.std.specs.List.{position_from}
use Rattle.ll_edge.specs.Texts.{Texts}
use Rattle.ll_laws.specs.Problem.{ProblemTree}
use Rattle.ll_laws.specs.Shows.{Tree}
use Rattle.ll_laws.specs.Fault.{Fault as FaultAt}
use Rattle.ll_laws.specs.Line.{DerivationLines, trees_of, counts_numbers}
use Rattle.ll_laws.specs.Verdict.{DerivationShows, first_fault}
use Rattle.ll_laws.specs.Completeness.{ShowsClosed}
use Rattle.ll_top.specs.textbook.Follows.{IsFilling, Follows}
use Rattle.ll_cover.specs.Covering.{NamesFirst}
use Rattle.ll_lexer.specs.declared.Fault.{Fault}
use Rattle.ll_top.specs.declared.texts.judge.Role.{Role}
use Rattle.ll_top.specs.declared.texts.judge.Role.TheVariants.{Program, Query, Proof}
use Rattle.ll_top.specs.forms.Words.{CheckWords, IsCheck}
use Rattle.ll_top.specs.texts.Faults.{Cause, Faulty, fault_text, cause_status}
use Rattle.ll_top.specs.checks.Verdicts.{yes_text, no_text, covered_text, too_long_text, counts_text}
use Rattle.ll_top.specs.texts.Judging.{IsCheckFault, TextsGive}
use Rattle.ll_top.specs.texts.Outcome.{IsRead, ReadFails}

-- the texts that a check reads, in order
abbrev pub check_texts : CheckWords → List (List ℕ)
check_texts check = check.program ∷ check.query ∷ check.proof ∷ []

-- the name of a check's text
abbrev pub name_in_check : CheckWords → Role → List ℕ
name_in_check check Program = check.program
name_in_check check Query = check.query
name_in_check check Proof = check.proof

-- Why a check ends with a fault line: its texts are not all read; or one of them has a fault, where they are judged in the same order.
pub data CheckFails (told : Option Texts) (absence read_failed : List ℕ → Type 0) (check : CheckWords) : Cause → Type 0 where
  texts_not_read : (cause : Cause) → ReadFails told absence read_failed (check_texts check) cause → CheckFails told absence read_failed check cause
  faulty_text : (program query proof : List ℕ) (role : Role) (f : Fault) → IsRead told check.program program → IsRead told check.query query
      → IsRead told check.proof proof
      → IsCheckFault program query proof role f → CheckFails told absence read_failed check (Faulty (name_in_check check role) f)

-- the bound of a cover; that of a check is 0, and no check looks at it
abbrev pub bound_in : CheckWords → ℕ
bound_in check = unwrap_or check.bound 0

-- the texts of a check were read, and give this problem and this derivation
pub record CheckGives (told : Option Texts) (check : CheckWords) (p : ProblemTree) (d : DerivationLines) : Type 0 where
  pub program : List ℕ
  pub query : List ℕ
  pub proof : List ℕ
  pub program_read : IsRead told check.program program
  pub query_read : IsRead told check.query query
  pub proof_read : IsRead told check.proof proof
  pub give : TextsGive program query proof (bound_in check) p d

-- the derivation does not show the query: this is its first node that does not fit, and its first reason
pub record IsRefuted (p : ProblemTree) (d : DerivationLines) (node reason : ℕ) : Type 0 where
  pub not_shown : DerivationShows p d → ⊥
  pub tree : Tree
  pub is_tree : trees_of d.nodes ≡ Some (tree ∷ [])
  pub fault : first_fault p d tree ≡ FaultAt node reason

-- an answer of the problem's search covers the derivation, and this is the number of the first that does
pub record IsCovered (p : ProblemTree) (d : DerivationLines) (number : ℕ) : Type 0 where
  pub shows : ShowsClosed p d
  pub within : length d.nodes ≤ p.bound
  pub first : NamesFirst p d number

-- the derivation shows the query, with more nodes than the bound
pub record IsTooLong (p : ProblemTree) (d : DerivationLines) : Type 0 where
  pub shows : DerivationShows p d
  pub beyond : p.bound < length d.nodes

-- the derivation shows the query, with no more nodes than the bound, and this is its first node of a whole-number goal, counted from 1
pub record CountsAt (p : ProblemTree) (d : DerivationLines) (node : ℕ) : Type 0 where
  pub shows : DerivationShows p d
  pub within : length d.nodes ≤ p.bound
  pub first : position_from counts_numbers 1 d.nodes ≡ Some node

-- What a check comes to: yes, with the number of nodes; no, with the first node that does not fit; or a fault line, each with its status.
-- A cover comes to the number of an answer in place of yes; or to why it looks for none: the nodes are more than the bound, or else one of
-- them is of a whole-number goal.
pub data CheckComesTo (told : Option Texts) (absence read_failed : List ℕ → Type 0) (check : CheckWords) (status : ℕ) (text : List ℕ) : Type 0 where
  shown : (p : ProblemTree) (d : DerivationLines) → is_some check.bound ≡ false → CheckGives told check p d → DerivationShows p d → status ≡ 0
      → text ≡ yes_text (length d.nodes) → CheckComesTo told absence read_failed check status text
  refuted : (p : ProblemTree) (d : DerivationLines) (node reason : ℕ) → CheckGives told check p d → IsRefuted p d node reason → status ≡ 9
      → text ≡ no_text node reason → CheckComesTo told absence read_failed check status text
  covered : (p : ProblemTree) (d : DerivationLines) (number : ℕ) → is_some check.bound ≡ true → CheckGives told check p d → IsCovered p d number → status ≡ 0
      → text ≡ covered_text number
      → CheckComesTo told absence read_failed check status text
  too_long : (p : ProblemTree) (d : DerivationLines) → is_some check.bound ≡ true → CheckGives told check p d → IsTooLong p d → status ≡ 11
      → text ≡ too_long_text (length d.nodes) p.bound
      → CheckComesTo told absence read_failed check status text
  counting : (p : ProblemTree) (d : DerivationLines) (node : ℕ) → is_some check.bound ≡ true → CheckGives told check p d → CountsAt p d node → status ≡ 11
      → text ≡ counts_text node
      → CheckComesTo told absence read_failed check status text
  check_failed : (cause : Cause) → CheckFails told absence read_failed check cause → status ≡ cause_status cause → text ≡ fault_text cause
      → CheckComesTo told absence read_failed check status text

-- The texts of a check give a derivation whose terms fill the query's variables; and the query with these terms follows from the program, by as
-- many nodes (derivability after Hodas and Miller 1994).
pub record IsProved (told : Option Texts) (check : CheckWords) : Type 0 where
  pub problem : ProblemTree
  pub derivation : DerivationLines
  pub gives : CheckGives told check problem derivation
  pub filling : IsFilling problem derivation.asked
  pub follows : Follows problem (length derivation.nodes) derivation.asked

-- the words are those of a check, or of a cover, whose derivation does not show the query
pub record IsDenied (words : List (List ℕ)) (told : Option Texts) : Type 0 where
  pub check : CheckWords
  pub is_check : IsCheck words check
  pub problem : ProblemTree
  pub derivation : DerivationLines
  pub gives : CheckGives told check problem derivation
  pub not_shown : DerivationShows problem derivation → ⊥

-- the words are those of a cover whose derivation shows the query with no more nodes than the bound, none of them of a whole-number goal; and
-- an answer of the search covers it
pub record IsCoveredCall (words : List (List ℕ)) (told : Option Texts) : Type 0 where
  pub check : CheckWords
  pub is_check : IsCheck words check
  pub problem : ProblemTree
  pub derivation : DerivationLines
  pub gives : CheckGives told check problem derivation
  pub number : ℕ
  pub covered : IsCovered problem derivation number

-- the words are those of a cover whose derivation shows the query with more nodes than the bound, or with one of a whole-number goal
pub record IsUncoveredCall (words : List (List ℕ)) (told : Option Texts) : Type 0 where
  pub check : CheckWords
  pub is_check : IsCheck words check
  pub problem : ProblemTree
  pub derivation : DerivationLines
  pub gives : CheckGives told check problem derivation
  pub why : IsTooLong problem derivation ⊎ ((node : ℕ) × CountsAt problem derivation node)
