-- What a text of version 2 is read as: a derivation, or its first fault.
use Rattle.std.specs.Prelude.{◌≡◌, ◌≢◌, ◌&&◌, ℕ, suc, ◌+◌, ◌<◌, List, [], ◌∷◌, ◌++◌, length, take, slice_get, All, Option, Some, None, IsTrue, ◌⊎◌, codes}
use Rattle.std.specs.List.{IsDistinct, list_all}
use Rattle.std.specs.Str.{bytes_eq}
use Rattle.ll_bank.specs.Term.{Term, is_closed}
use Rattle.ll_lexer.specs.declared.Fault.{Fault}
use Rattle.ll_lexer.specs.declared.TextFault.{TextFault}
use Rattle.ll_lexer.specs.declared.TextFault.TheVariants as fault
use Rattle.ll_lexer.specs.Reading.{place_at}
use Rattle.ll_laws.specs.Line.{Line, DerivationLines, is_line}
use Rattle.ll_prooftext.specs.Admitted.{IsSpelledTerm, IsSpelledLine, IsSpelled}
use Rattle.ll_prooftext.specs.Table.{table}
use Rattle.ll_prooftext.specs.ProofText2.{proof_text2}
use Rattle.ll_prooftext.specs.Reading.{Want, text_lines, first_word, missing, is_none, HasBadField, HasNoVersion}
use Rattle.ll_prooftext.specs.Sharing.{AreShares, IsLet, IsStep, AreEach}
use Rattle.ll_prooftext.specs.SharedLines.{want_over}

-- ---- the texts of derivations

-- the text of the derivation in version 2, with or without the last LF
pub record IsText2Of (names : List (List ℕ)) (text : List ℕ) (d : DerivationLines) : Type 0 where
  pub spelled : IsSpelled names d
  pub is : (text ≡ proof_text2 names d) ⊎ (text ++ 10 ∷ [] ≡ proof_text2 names d)

-- the first row that is not that of the derivation's table at its number, or is past the table's end
pub record IsOff (rows : List Term) (d : DerivationLines) (k : ℕ) : Type 0 where
  pub within : k < length rows
  pub same : take k rows ≡ take k (table d)
  pub off : slice_get rows k ≢ slice_get (table d) k

-- ---- whole texts

-- The first lines are rows, and those of a derivation over them that lacks so many nodes. The rows need not be the table of the derivation.
pub record BeginsOver (lines rest : List (List ℕ)) (lacking : ℕ) : Type 0 where
  pub names : List (List ℕ)
  pub rows : List Term
  pub asked : List Term
  pub nodes : List Line
  pub shares : List (List ℕ)
  pub lets : List (List ℕ)
  pub steps : List (List ℕ)
  pub is : lines ≡ codes "proof 2" ∷ (shares ++ (lets ++ (steps ++ rest)))
  pub are_rows : AreShares names rows shares
  pub are_asked : AreEach (IsLet names rows) asked lets
  pub are_nodes : AreEach (IsStep names rows) nodes steps
  pub closed : IsTrue (list_all is_closed asked)
  pub ordered : IsTrue (list_all is_line nodes)
  pub spelled_rows : All (IsSpelledTerm names) rows
  pub spelled_terms : All (IsSpelledTerm names) asked
  pub spelled_nodes : All (IsSpelledLine names) nodes
  pub still : missing 1 nodes ≡ Some lacking

-- the derivation of these first lines
abbrev pub derivation : {lines rest : List (List ℕ)} {k : ℕ} → BeginsOver lines rest k → DerivationLines
derivation b = record { asked = b.asked; nodes = b.nodes }

-- the number of the line behind these first lines
abbrev pub line_behind : {lines rest : List (List ℕ)} {k : ℕ} → BeginsOver lines rest k → ℕ
line_behind b = length b.rows + length b.asked + length b.nodes + 2

-- what follows a first word behind these lines
abbrev pub want_behind : {lines rest : List (List ℕ)} {k : ℕ} → BeginsOver lines rest k → List ℕ → Option Want
want_behind b = want_over (length b.rows) (is_none b.asked && is_none b.nodes) (is_none b.nodes)

-- the first fault of the text: line by line, and in a line from its front; and behind all lines the first row that is off
pub data HasFault2 (text : List ℕ) : Fault → Type 0 where
  version2 : HasNoVersion (codes "proof 2") (text_lines text) → HasFault2 text (record { at = record { line = 1; column = 1 }; kind = 14 })
  unknown_word2 : (bytes : List ℕ) (more : List (List ℕ)) (k : ℕ) (b : BeginsOver (text_lines text) (bytes ∷ more) (suc k))
      → want_behind b (first_word bytes) ≡ None → HasFault2 text (record { at = record { line = line_behind b; column = 1 }; kind = 13 })
  bad_field2 : (bytes : List ℕ) (more : List (List ℕ)) (k column : ℕ) (b : BeginsOver (text_lines text) (bytes ∷ more) (suc k))
      → HasBadField (want_behind b) bytes column → HasFault2 text (record { at = record { line = line_behind b; column = column }; kind = 14 })
  nodes_missing2 : (k : ℕ) → BeginsOver (text_lines text) [] (suc k) → HasFault2 text (record { at = place_at text (length text); kind = 15 })
  left_over2 : (bytes : List ℕ) (more : List (List ℕ)) (b : BeginsOver (text_lines text) (bytes ∷ more) 0)
      → HasFault2 text (record { at = record { line = line_behind b; column = 1 }; kind = 16 })
  off_table : (k : ℕ) (b : BeginsOver (text_lines text) [] 0) → IsDistinct bytes_eq b.names → IsOff b.rows (derivation b) k
      → HasFault2 text (record { at = record { line = k + 2; column = 1 }; kind = 18 })

-- why the text was not read: its first fault, or that memory ran out
abbrev pub IsCause2 : List ℕ → TextFault → Type 0
IsCause2 text (fault.Text f) = HasFault2 text f
IsCause2 text fault.OutOfMemory = Unit {0}
