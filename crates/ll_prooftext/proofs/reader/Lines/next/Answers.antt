use Rattle.std.proofs.Common.{refl, ap, length, length-append, arith}
use Rattle.ll_prooftext.proofs.reading.LinesRead.{took, took_last, no_line}
use Rattle.ll_prooftext.proofs.reader.Lines.next.Goals as goal

pub returns-then-is_empty : goal.returns-then-is_empty
returns-then-is_empty c = no_line c.args.self.now c.args.self.now c.is_empty.ensures c.if-is_empty.true refl

pub overflow_add-self : goal.overflow_add-self
overflow_add-self c = omega arith

pub returns-in-Some : goal.returns-in-Some
returns-in-Some c = took _ _ _ c.split_before.result.1.now c.in-Some.rest.now c.is_empty.ensures c.if-is_empty.false c.requires.begins c.split_before.ensures.is
    c.split_before.ensures.free c.in-Some.ensures refl refl refl

pub overflow_cast-self : goal.overflow_cast-self
overflow_cast-self c = let l = ap length c.split_before.ensures.is in let a = length-append c.split_before.result.0.now c.split_before.result.1.now in
    omega arith

pub overflow_add-self-2 : goal.overflow_add-self-2
overflow_add-self-2 c = let l = ap length c.split_before.ensures.is in let a = length-append c.split_before.result.0.now c.split_before.result.1.now in
    omega arith

pub returns : goal.returns
returns c = took_last _ _ _ c.split_before.result.1.now c.is_empty.ensures c.if-is_empty.false c.requires.begins c.split_before.ensures.is
    c.split_before.ensures.free c.split_before.ensures.stops c.in_default.ensures refl refl refl
