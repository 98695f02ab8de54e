-- A program that is made has no fault.
use Rattle.std.proofs.Common.{ℕ, zero, suc, arith}
use Rattle.ll_make.specs.declared.kind.MakeKind.{MakeKind}
use Rattle.ll_make.specs.declared.kind.MakeKind.TheVariants.{Perm, Choice, Chain}
use Rattle.ll_make.specs.Kinds.{InRange}
use Rattle.ll_make.specs.Programs.{program_text}
use Rattle.ll_top.specs.Faultless.{IsFaultlessProgram}
use Rattle.ll_top.proofs.made.Shapes.{perm_clauses, choice_clauses, chain_clauses}
use Rattle.ll_top.proofs.made.Whole.{ReadsPrinted, clauses-read}
use Rattle.ll_top.proofs.made.Lists.{perm-clauses, choice-clauses}
use Rattle.ll_top.proofs.made.Chains.{chain-clauses}

pub program-read : ReadsPrinted → (kind : MakeKind) (n : ℕ) → InRange kind n → IsFaultlessProgram (program_text kind n)
program-read law Perm n h = clauses-read law (perm_clauses n) (program_text Perm n) (perm-clauses n h.1)
program-read law Choice zero h = absurd (let l = h.0 in omega arith)
program-read law Choice (suc n) h = clauses-read law (choice_clauses n) (program_text Choice (suc n)) (choice-clauses n (let g = h.1 in omega arith))
program-read law Chain n h = clauses-read law (chain_clauses n) (program_text Chain n) (chain-clauses n h.0 h.1)
