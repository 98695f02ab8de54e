-- What is written of a whole program is read again as this program, places aside.
use Rattle.std.proofs.Common.{◌≡◌, sym, ◌∙◌}
use Rattle.std.proofs.lemmas.List.Elements.{recursion_from_All}
use Rattle.ll_lexer.specs.Reading.{LexedText, IsLexed}
use Rattle.ll_parser.specs.Tokens.{toks_of, IsSpelled}
use Rattle.ll_parser.specs.Raw.{ProgramTree}
use Rattle.ll_parser.specs.Text.{program_tokens, programs}
use Rattle.ll_parser.specs.Reads.{Reads, IsWhole}
use Rattle.ll_parser.specs.Printed.{program_text}
use Rattle.ll_parser.specs.Bare.{bare_program}
use Rattle.ll_parser.proofs.printing.PrintedTree.{printed_program}
use Rattle.ll_parser.proofs.machines.BareTexts.{program-same}
use Rattle.ll_parser.proofs.printing.PrintedReads.{printed-reads, printed-spelled}
use Rattle.ll_parser.proofs.printing.ProgramTexts.{program-text}
use Rattle.ll_parser.proofs.printing.WrittenLexed.{program-lexed}

pub written-read : (p : ProgramTree) → IsWhole programs p → (lexed : LexedText) × (lexed.text ≡ program_text p) × IsLexed lexed × (q : ProgramTree)
    × Reads programs 1000 (toks_of lexed) q × (bare_program q ≡ bare_program p)
written-read p h =
    let t = program-lexed (printed_program p) (recursion_from_All IsSpelled (program_tokens (printed_program p)) (printed-spelled p h)) in
    let q = program-same 1000 (program_tokens (printed_program p)) (toks_of t.lexed) p (sym t.same) (printed-reads p h) in
    (t.lexed, t.bytes_are ∙ program-text p h, t.is_lexed, q.0, q.1, q.2)
