use Rattle.std.proofs.Common.{sym, ◌∙◌}
use Rattle.std.proofs.lemmas.Result.{IfOk-from_err}
use Rattle.std.specs.HashMap.{get_by}
use Rattle.std.specs.Str.{bytes_eq}
use Rattle.std.proofs.lemmas.Map.Text.{hash_map_updates_str}
use Rattle.ll_polarity.proofs.putting.Placing.{put_in, stays}
use Rattle.ll_polarity.proofs.modules.Modules.add.Goals as goal

pub returns-in_ok-insert : goal.returns-in_ok-insert
returns-in_ok-insert c = λ ms at known.
    put_in (λ w. get_by (λ k. bytes_eq w k.now) c.args.self.now.places) ms c.args.name.now c.args.place at known
    (λ w. get_by (λ k. bytes_eq w k.now) c.insert.new.self) (sym c.contains_key.ensures ∙ c.if-not-contains_key.true)
    (hash_map_updates_str c.args.name.now c.args.self.now.places c.insert.new.self _ c.in_ok-insert.ensures.updates)

pub returns-else-not-contains_key : goal.returns-else-not-contains_key
returns-else-not-contains_key c = λ ms at known.
    stays (λ w. get_by (λ k. bytes_eq w k.now) c.args.self.now.places) ms c.args.name.now c.args.place at known
    (sym c.contains_key.ensures ∙ c.if-not-contains_key.false)

pub returns-in_err-insert : goal.returns-in_err-insert
returns-in_err-insert c = IfOk-from_err c.from_residual.result _ c.from_residual.ensures.0
