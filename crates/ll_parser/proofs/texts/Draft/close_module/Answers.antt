use Rattle.std.proofs.Common.{refl, sym, ◌∙◌}
use Rattle.std.proofs.lemmas.Result.{IfOk-from_err}
use Rattle.ll_parser.proofs.stored.Drafting.{closes-none, closes-some}
use Rattle.ll_parser.proofs.texts.Draft.close_module.Goals as goal

pub returns-in_default : goal.returns-in_default
returns-in_default c =
    closes-none c.args.self.now c.take.new.self c.requires (sym c.take.ensures.value ∙ c.in_default.is) c.take.ensures.after

pub returns-in_ok-push : goal.returns-in_ok-push
returns-in_ok-push c =
    closes-some c.args.self.now (record {
      waiting = c.args.self.now.waiting;
      clauses = c.args.self.now.clauses;
      modules = c.push.new.self;
      current = c.take.new.self;
    }) c.in-Some.module c.requires (sym c.take.ensures.value ∙ c.in-Some.is) c.take.ensures.after refl refl c.in_ok-push.ensures.items

pub returns-in_err-push : goal.returns-in_err-push
returns-in_err-push c = IfOk-from_err c.from_residual.result _ c.from_residual.ensures.0
