use Rattle.std.proofs.Common.{◌≤◌, ◌-◌, sym, ap, subst, ◌∙◌, length, arith}
use Rattle.std.specs.Prelude.{IfOk, IfSome, IfNone}
use Rattle.ll_bank.specs.declared.At.{At}
use Rattle.ll_bank.specs.declared.Head.{Head}
use Rattle.ll_bank.specs.declared.Head.TheVariants.{Bound}
use Rattle.ll_bank.specs.Term.{Con, close_head, place}
use Rattle.ll_bank.specs.Nodes.{ShowsTerm}
use Rattle.ll_bank.specs.Closing.{env_in, under}
use Rattle.ll_bank.proofs.Trees.{Extends-refl}
use Rattle.ll_bank.proofs.closes.Values.{head_low, head_out, head_past}
use Rattle.ll_bank.proofs.closing.flat.bare_head.Goals as goal

pub returns-then-number-level-clause-shows : goal.returns-then-number-level-clause-shows
returns-then-number-level-clause-shows c =
    let env = env_in c.args.bank.now c.args.values in
    subst (λ (h : Head). ShowsTerm c.args.bank.now c.args.at.0 (close_head (under env c.args.level) h)) (sym c.in-Bound.is)
    (record {
      inside = c.requires.inside;
      tree = c.requires.head
          ∙ (ap (λ h. Con h) c.in-Bound.is ∙ sym (head_low env c.args.level c.in-Bound.bound c.if-number-level.true));
    })

pub returns-in-Some-clause-shows : goal.returns-in-Some-clause-shows
returns-in-Some-clause-shows c =
    let bank = c.args.bank.now in let new = c.value.new.bank in let env = env_in bank c.args.values in
    let shown = subst (λ f. IfSome f (λ (at : At). ShowsTerm new at.0 (place env (c.in-Bound.bound - c.args.level) c.args.level))) c.in-Some.is
    (c.in_ok-value-in-Bound.ensures.shows c.args.level) in
    subst (λ (h : Head). ShowsTerm new c.in-Some.value.0 (close_head (under env c.args.level) h)) (sym c.in-Bound.is)
    (record {
      inside = shown.inside;
      tree = shown.tree ∙ sym (head_out env c.args.level c.in-Bound.bound (let l = c.if-number-level.false in omega (arith, l)));
    })

pub returns-in-None-clause-shows : goal.returns-in-None-clause-shows
returns-in-None-clause-shows c =
    let bank = c.args.bank.now in let env = env_in bank c.args.values in
    let past = subst (λ f. IfNone f (length env ≤ c.in-Bound.bound - c.args.level)) c.in-None.is c.in_ok-value-in-Bound.ensures.none in
    let head = ap (λ j. Con (Bound (c.in-Bound.bound - j))) (c.count.ensures bank)
    ∙ sym (head_past bank c.args.values c.args.level c.in-Bound.bound (let l = c.if-number-level.false in omega (arith, l)) past) in
    subst (λ (h : Head). IfOk c.app.result (λ image. ShowsTerm c.app.new.self image.0 (close_head (under env c.args.level) h))) (sym c.in-Bound.is)
    (subst (λ u. IfOk c.app.result (λ image. ShowsTerm c.app.new.self image.0 u)) head c.app.ensures.shows)

pub returns-then-number-level-clause-keeps : goal.returns-then-number-level-clause-keeps
returns-then-number-level-clause-keeps c = Extends-refl c.args.bank.now

pub returns-in-Name-clause-keeps : goal.returns-in-Name-clause-keeps
returns-in-Name-clause-keeps c = Extends-refl c.args.bank.now

pub returns-in-Eigen-clause-keeps : goal.returns-in-Eigen-clause-keeps
returns-in-Eigen-clause-keeps c = Extends-refl c.args.bank.now
