-- Machines without their stores.
use Rattle.ll_store.specs.Tables.{table_of}
use Rattle.ll_store.specs.Stored.{State}
use Rattle.ll_freeze.specs.declared.rest.Rest.{Rest}
use Rattle.ll_freeze.specs.Parts.{Parts}

-- the parts of a machine that has this and a store in this state
abbrev pub parts_with : Rest → State → Parts
parts_with r s =
    record {
      problem = r.problem.now;
      modules = r.modules.now;
      bank = s.nodes;
      bound = (table_of s.cells).bound;
      levels = (table_of s.cells).levels;
      resources = r.context.present;
      agenda = r.agenda;
      top = r.top;
      left = r.left;
      eigens = r.eigens;
      terms = r.terms.items;
      steps = r.steps.items;
    }
