use Rattle.std.proofs.Common.{refl, ap, ◌∙◌}
use Rattle.ll_store.specs.declared.cells.Cell.{Cell}
use Rattle.ll_store.specs.Cells.{with_level}
use Rattle.std.proofs.lemmas.Result.{on_ok_weaker}
use Rattle.ll_store.specs.Tables.{table_of}
use Rattle.ll_store.proofs.TableLemmas.{map-update, map-update-same}
use Rattle.ll_store.proofs.table.CellsBindings.lower.Goals as goal

pub returns-clause-level : goal.returns-clause-level
returns-clause-level c =
    let old = c.args.self.now.cells in
    on_ok_weaker c.lower.result
    (λ e. record {
      levels = ap (λ cs. (table_of cs).levels) e ∙ map-update (λ (d : Cell). d.level) (with_level c.args.level) c.args.level old c.args.var (λ d. refl);
      bound = ap (λ cs. (table_of cs).bound) e ∙ map-update-same (λ (d : Cell). d.to) (with_level c.args.level) old c.args.var (λ d. refl);
    })
    c.lower.ensures.cells
