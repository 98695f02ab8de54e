use Rattle.std.proofs.Common.{codes, refl, sym}
use Rattle.ll_lexer.specs.declared.TokenKind.TheVariants.{True, Erase, Forall, Exists, Is, Module, Local, Linear, Any}
use Rattle.ll_lexer.specs.Spelling.{fixed_spellings, kind_of}
use Rattle.ll_lexer.proofs.Longest.{keyword, other_word, NoKeyword, name-spelled, variable-spelled}
use Rattle.ll_lexer.proofs.lexeme.word_kind.Goals as goal

pub returns-then-eq : goal.returns-then-eq
unfolding fixed_spellings kind_of
returns-then-eq c = keyword (codes "true") c.as_slice.result.now c.args.word.now True c.as_slice.ensures c.if-eq.ensures refl

pub returns-then-eq-2 : goal.returns-then-eq-2
unfolding fixed_spellings kind_of
returns-then-eq-2 c = keyword (codes "erase") c.as_slice-else-eq.result.now c.args.word.now Erase c.as_slice-else-eq.ensures c.if-eq-2.ensures refl

pub returns-then-eq-3 : goal.returns-then-eq-3
unfolding fixed_spellings kind_of
returns-then-eq-3 c = keyword (codes "forall") c.as_slice-else-eq-2.result.now c.args.word.now Forall c.as_slice-else-eq-2.ensures c.if-eq-3.ensures refl

pub returns-then-eq-4 : goal.returns-then-eq-4
unfolding fixed_spellings kind_of
returns-then-eq-4 c = keyword (codes "exists") c.as_slice-else-eq-3.result.now c.args.word.now Exists c.as_slice-else-eq-3.ensures c.if-eq-4.ensures refl

pub returns-then-eq-5 : goal.returns-then-eq-5
unfolding fixed_spellings kind_of
returns-then-eq-5 c = keyword (codes "is") c.as_slice-else-eq-4.result.now c.args.word.now Is c.as_slice-else-eq-4.ensures c.if-eq-5.ensures refl

pub returns-then-eq-6 : goal.returns-then-eq-6
unfolding fixed_spellings kind_of
returns-then-eq-6 c = keyword (codes "MODULE") c.as_slice-else-eq-5.result.now c.args.word.now Module c.as_slice-else-eq-5.ensures c.if-eq-6.ensures refl

pub returns-then-eq-7 : goal.returns-then-eq-7
unfolding fixed_spellings kind_of
returns-then-eq-7 c = keyword (codes "LOCAL") c.as_slice-else-eq-6.result.now c.args.word.now Local c.as_slice-else-eq-6.ensures c.if-eq-7.ensures refl

pub returns-then-eq-8 : goal.returns-then-eq-8
unfolding fixed_spellings kind_of
returns-then-eq-8 c = keyword (codes "LINEAR") c.as_slice-else-eq-7.result.now c.args.word.now Linear c.as_slice-else-eq-7.ensures c.if-eq-8.ensures refl

pub returns-then-eq-9 : goal.returns-then-eq-9
unfolding fixed_spellings kind_of
returns-then-eq-9 c = keyword (codes "_") c.as_slice-else-eq-8.result.now c.args.word.now Any c.as_slice-else-eq-8.ensures c.if-eq-9.ensures refl

pub returns-then-is_lower : goal.returns-then-is_lower
returns-then-is_lower c =
    let n : NoKeyword c.args.word.now = record {
      true_word = other_word (codes "true") c.as_slice.result.now c.args.word.now c.as_slice.ensures c.if-eq.ensures;
      erase_word = other_word (codes "erase") c.as_slice-else-eq.result.now c.args.word.now c.as_slice-else-eq.ensures c.if-eq-2.ensures;
      forall_word = other_word (codes "forall") c.as_slice-else-eq-2.result.now c.args.word.now c.as_slice-else-eq-2.ensures c.if-eq-3.ensures;
      exists_word = other_word (codes "exists") c.as_slice-else-eq-3.result.now c.args.word.now c.as_slice-else-eq-3.ensures c.if-eq-4.ensures;
      is_word = other_word (codes "is") c.as_slice-else-eq-4.result.now c.args.word.now c.as_slice-else-eq-4.ensures c.if-eq-5.ensures;
      module_word = other_word (codes "MODULE") c.as_slice-else-eq-5.result.now c.args.word.now c.as_slice-else-eq-5.ensures c.if-eq-6.ensures;
      local_word = other_word (codes "LOCAL") c.as_slice-else-eq-6.result.now c.args.word.now c.as_slice-else-eq-6.ensures c.if-eq-7.ensures;
      linear_word = other_word (codes "LINEAR") c.as_slice-else-eq-7.result.now c.args.word.now c.as_slice-else-eq-7.ensures c.if-eq-8.ensures;
      bar = other_word (codes "_") c.as_slice-else-eq-8.result.now c.args.word.now c.as_slice-else-eq-8.ensures c.if-eq-9.ensures;
    } in
    name-spelled c.args.word.now c.requires (sym c.if-is_lower.ensures) n

pub returns-else-is_lower : goal.returns-else-is_lower
returns-else-is_lower c =
    let n : NoKeyword c.args.word.now = record {
      true_word = other_word (codes "true") c.as_slice.result.now c.args.word.now c.as_slice.ensures c.if-eq.ensures;
      erase_word = other_word (codes "erase") c.as_slice-else-eq.result.now c.args.word.now c.as_slice-else-eq.ensures c.if-eq-2.ensures;
      forall_word = other_word (codes "forall") c.as_slice-else-eq-2.result.now c.args.word.now c.as_slice-else-eq-2.ensures c.if-eq-3.ensures;
      exists_word = other_word (codes "exists") c.as_slice-else-eq-3.result.now c.args.word.now c.as_slice-else-eq-3.ensures c.if-eq-4.ensures;
      is_word = other_word (codes "is") c.as_slice-else-eq-4.result.now c.args.word.now c.as_slice-else-eq-4.ensures c.if-eq-5.ensures;
      module_word = other_word (codes "MODULE") c.as_slice-else-eq-5.result.now c.args.word.now c.as_slice-else-eq-5.ensures c.if-eq-6.ensures;
      local_word = other_word (codes "LOCAL") c.as_slice-else-eq-6.result.now c.args.word.now c.as_slice-else-eq-6.ensures c.if-eq-7.ensures;
      linear_word = other_word (codes "LINEAR") c.as_slice-else-eq-7.result.now c.args.word.now c.as_slice-else-eq-7.ensures c.if-eq-8.ensures;
      bar = other_word (codes "_") c.as_slice-else-eq-8.result.now c.args.word.now c.as_slice-else-eq-8.ensures c.if-eq-9.ensures;
    } in
    variable-spelled c.args.word.now c.requires (sym c.if-is_lower.ensures) n
