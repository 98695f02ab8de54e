use Rattle.std.proofs.Common.{codes}
use Rattle.ll_prooftext.specs.declared.rows.NodeWord.TheVariants as word
use Rattle.ll_prooftext.specs.LaterWords.{later_words}
use Rattle.ll_prooftext.proofs.reading.RowsRead.{found, unlike, not_listed}
use Rattle.ll_prooftext.proofs.rows.later_word.Goals as goal

pub returns-then-eq : goal.returns-then-eq
returns-then-eq c = found c.args.word.now c.as_slice.result.now word.Lolli c.if-eq.ensures c.as_slice.ensures

pub returns-then-eq-2 : goal.returns-then-eq-2
returns-then-eq-2 c = found c.args.word.now c.as_slice-else-eq.result.now word.Imp c.if-eq-2.ensures c.as_slice-else-eq.ensures

pub returns-then-eq-3 : goal.returns-then-eq-3
returns-then-eq-3 c = found c.args.word.now c.as_slice-else-eq-2.result.now word.Forall c.if-eq-3.ensures c.as_slice-else-eq-2.ensures

pub returns-then-eq-4 : goal.returns-then-eq-4
returns-then-eq-4 c = found c.args.word.now c.as_slice-else-eq-3.result.now word.Exists c.if-eq-4.ensures c.as_slice-else-eq-3.ensures

pub returns-then-eq-5 : goal.returns-then-eq-5
returns-then-eq-5 c = found c.args.word.now c.as_slice-else-eq-4.result.now word.Use c.if-eq-5.ensures c.as_slice-else-eq-4.ensures

pub returns-then-eq-6 : goal.returns-then-eq-6
returns-then-eq-6 c = found c.args.word.now c.as_slice-else-eq-5.result.now word.Num c.if-eq-6.ensures c.as_slice-else-eq-5.ensures

pub returns-then-eq-7 : goal.returns-then-eq-7
returns-then-eq-7 c = found c.args.word.now c.as_slice-else-eq-6.result.now word.Clause c.if-eq-7.ensures c.as_slice-else-eq-6.ensures

pub returns-else-eq-7 : goal.returns-else-eq-7
returns-else-eq-7 c = let w = c.args.word.now in not_listed later_words w (
  unlike w c.as_slice.result.now (codes "lolli") c.if-eq.ensures c.as_slice.ensures,
  (
    unlike w c.as_slice-else-eq.result.now (codes "imp") c.if-eq-2.ensures c.as_slice-else-eq.ensures,
    (
      unlike w c.as_slice-else-eq-2.result.now (codes "forall") c.if-eq-3.ensures c.as_slice-else-eq-2.ensures,
      (
        unlike w c.as_slice-else-eq-3.result.now (codes "exists") c.if-eq-4.ensures c.as_slice-else-eq-3.ensures,
        (
          unlike w c.as_slice-else-eq-4.result.now (codes "use") c.if-eq-5.ensures c.as_slice-else-eq-4.ensures,
          (
            unlike w c.as_slice-else-eq-5.result.now (codes "num") c.if-eq-6.ensures c.as_slice-else-eq-5.ensures,
            (unlike w c.as_slice-else-eq-6.result.now (codes "clause") c.if-eq-7.ensures c.as_slice-else-eq-6.ensures, tt),
          ),
        ),
      ),
    ),
  ),
)
