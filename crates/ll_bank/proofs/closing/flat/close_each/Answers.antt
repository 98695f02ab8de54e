use Rattle.std.specs.Prelude.{IfSome, slice_index_or}
use Rattle.std.proofs.Common.{subst}
use Rattle.ll_bank.specs.declared.At.{At}
use Rattle.ll_bank.specs.Closing.{env_in, under}
use Rattle.ll_bank.specs.Nodes.{term_tree, ShowsTerm}
use Rattle.ll_bank.specs.Term.{close}
use Rattle.ll_bank.proofs.closes.Filling.{filled-none, filled-more}
use Rattle.ll_bank.proofs.closing.flat.close_each.Goals as goal

pub loop-index-init : goal.loop-index-init
loop-index-init c = record { filled = filled-none c.args.bank.now c.args.values c.args.level c.args.terms.now }

pub loop-index-preserved : goal.loop-index-preserved
loop-index-preserved c =
    let first = c.args.bank.now in let now = c.loop-index.bank in let next = c.closed_bare.new.bank in
    let here = subst (λ f. IfSome f (λ (image : At). ShowsTerm next image.0 (close (under (env_in now c.args.values) c.args.level)
    (term_tree now (slice_index_or c.loop-index.terms c.loop-index.index (record { 0 = 0 })).0)))) c.in-Some.is c.in_ok-image.ensures.shows in
    record {
      filled = filled-more first now c.args.values c.args.level c.args.terms.now c.loop-index.terms c.loop-index.index (record { 0 = 0 })
          c.requires.inside c.loop-index-test.true c.loop-index.invariant.filled next c.in-Some.image c.requires.values c.in_ok-image.ensures.keeps here;
    }
