use Rattle.std.proofs.Common.{◌∙◌, ap}
use Rattle.ll_index.specs.declared.laws.First.TheVariants.{Open}
use Rattle.ll_index.specs.declared.chains.Chains.{Chains}
use Rattle.ll_index.specs.declared.key.Key.TheVariants.{Named}
use Rattle.ll_index.specs.Keys.{first_place}
use Rattle.ll_index.proofs.index.Index.looked_up.Goals as goal

pub returns : goal.returns
returns c = record {
  by_sign = c.ne-by_sign.ensures;
  own = c.first-own.ensures ∙ ap (λ (ch : Chains). first_place ch (Named c.args.name c.args.arity c.args.first) c.args.end) c.chains-chains.ensures;
  second = c.first_open.ensures ∙ ap (λ (ch : Chains). first_place ch (Named c.args.name c.args.arity Open) c.args.end) c.chains-chains.ensures;
}
