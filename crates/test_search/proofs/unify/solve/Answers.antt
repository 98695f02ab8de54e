use Rattle.std.proofs.Common.{◌-◌, length, subst, sym}
use Rattle.std.proofs.lemmas.List.Elements.{All-take, All-drop}
use Rattle.ll_bank.specs.declared.At.{At}
use Rattle.test_search.specs.Levelled.{IsLevelled, AreLevelled}
use Rattle.test_search.proofs.Levels.{all-levelled}
use Rattle.test_search.proofs.unify.solve.Goals as goal

pub mgu-requires-clause-left_levels : goal.mgu-requires-clause-left_levels
mgu-requires-clause-left_levels c =
    all-levelled c.build.new.bank (length c.args.levels.now) c.split_at-2.result.1.now
    (subst (AreLevelled c.build.new.bank (length c.args.levels.now)) (sym c.split_at-2.ensures.back)
    (All-drop (λ (a : At). IsLevelled c.build.new.bank (length c.args.levels.now) a.0) (length c.split_at.result.0.now - c.args.pairs)
    c.split_at.result.0.now (subst (AreLevelled c.build.new.bank (length c.args.levels.now)) (sym c.split_at.ensures.front)
    (All-take (λ (a : At). IsLevelled c.build.new.bank (length c.args.levels.now) a.0) (c.len-2.result - c.args.pairs) c.deref.result.now
    (subst (AreLevelled c.build.new.bank (length c.args.levels.now)) (sym c.deref.ensures.value) (rw c.in-Some.is at c.in_ok-made.ensures))))))

pub mgu-requires-clause-right_levels : goal.mgu-requires-clause-right_levels
mgu-requires-clause-right_levels c =
    all-levelled c.build.new.bank (length c.args.levels.now) c.split_at.result.1.now
    (subst (AreLevelled c.build.new.bank (length c.args.levels.now)) (sym c.split_at.ensures.back)
    (All-drop (λ (a : At). IsLevelled c.build.new.bank (length c.args.levels.now) a.0) (c.len-2.result - c.args.pairs) c.deref.result.now
    (subst (AreLevelled c.build.new.bank (length c.args.levels.now)) (sym c.deref.ensures.value) (rw c.in-Some.is at c.in_ok-made.ensures))))
