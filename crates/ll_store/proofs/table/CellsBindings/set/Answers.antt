use Rattle.std.proofs.Common.{refl, ap, ◌∙◌, Some}
use Rattle.ll_store.specs.declared.cells.Cell.{Cell}
use Rattle.ll_store.specs.Cells.{with_to}
use Rattle.std.proofs.lemmas.Result.{on_ok_weaker}
use Rattle.ll_store.specs.Tables.{table_of}
use Rattle.ll_store.proofs.TableLemmas.{map-update, map-update-same}
use Rattle.ll_store.proofs.table.CellsBindings.set.Goals as goal

pub returns-clause-set : goal.returns-clause-set
returns-clause-set c =
    let old = c.args.self.now.cells in
    on_ok_weaker c.bind.result
    (λ e. record {
      bound = ap (λ cs. (table_of cs).bound) e ∙ map-update (λ (d : Cell). d.to) (with_to (Some c.args.to)) (Some c.args.to) old c.args.var (λ d. refl);
      levels = ap (λ cs. (table_of cs).levels) e ∙ map-update-same (λ (d : Cell). d.level) (with_to (Some c.args.to)) old c.args.var (λ d. refl);
    })
    c.bind.ensures.cells
