use Rattle.ll_printer.proofs.Printing.{begins_same}
use Rattle.ll_parser.specs.Printed.{module_text}
use Rattle.ll_parser.specs.Nodes.{shown_module}
use Rattle.std.proofs.lemmas.Result.{IfOk-from_err}
use Rattle.ll_printer.proofs.Lines.{module-word, module-name, module-params, module-locals, name-refused, params-refused, locals-refused, last-refused}
use Rattle.ll_printer.proofs.Lines.{last-written}
use Rattle.ll_printer.proofs.programs.write_module.Goals as goal
use Rattle.ll_list_laws.proofs.CallerLemmas.{OnErr-always as on_err, OnErr-weaker as on_refused, OnOk-weaker as on_ok}

pub returns-in_err-write_name-clause-begun : goal.returns-in_err-write_name-clause-begun
returns-in_err-write_name-clause-begun c =
    on_err _ (name-refused c.args.source.now.names.now c.args.source.now.forms.now c.args.module.now c.args.out.now.items c.extend_from_slice.new.self.items
    c.write_name.new.out.items
    (module-word c.args.source.now.names.now c.args.source.now.forms.now c.args.module.now c.args.out.now.items c.extend_from_slice.new.self.items
    c.in_ok-extend_from_slice.ensures.items) c.in_err-write_name.ensures.begun)

pub returns-in_err-write_names-clause-begun : goal.returns-in_err-write_names-clause-begun
returns-in_err-write_names-clause-begun c =
    on_err _ (params-refused c.args.source.now.names.now c.args.source.now.forms.now c.args.module.now c.args.out.now.items c.write_name.new.out.items
    c.write_names.new.out.items c.as_slice.result.now c.as_slice.ensures.value
    (module-name c.args.source.now.names.now c.args.source.now.forms.now c.args.module.now c.args.out.now.items c.extend_from_slice.new.self.items
    c.write_name.new.out.items (module-word c.args.source.now.names.now c.args.source.now.forms.now c.args.module.now c.args.out.now.items
    c.extend_from_slice.new.self.items c.in_ok-extend_from_slice.ensures.items) c.in_ok-write_name.ensures.text) c.in_err-write_names.ensures.begun)

pub returns-in_err-write_locals-clause-begun : goal.returns-in_err-write_locals-clause-begun
returns-in_err-write_locals-clause-begun c =
    on_err _ (locals-refused c.args.source.now.names.now c.args.source.now.forms.now c.args.module.now c.args.out.now.items c.write_names.new.out.items
    c.write_locals.new.out.items c.as_slice-2.result.now c.as_slice-2.ensures.value
    (module-params c.args.source.now.names.now c.args.source.now.forms.now c.args.module.now c.args.out.now.items c.write_name.new.out.items
    c.write_names.new.out.items c.as_slice.result.now c.as_slice.ensures.value
    (module-name c.args.source.now.names.now c.args.source.now.forms.now c.args.module.now c.args.out.now.items c.extend_from_slice.new.self.items
    c.write_name.new.out.items (module-word c.args.source.now.names.now c.args.source.now.forms.now c.args.module.now c.args.out.now.items
    c.extend_from_slice.new.self.items c.in_ok-extend_from_slice.ensures.items) c.in_ok-write_name.ensures.text) c.in_ok-write_names.ensures.text)
    c.in_err-write_locals.ensures.begun)

pub returns-clause-begun : goal.returns-clause-begun
returns-clause-begun c =
    on_refused c.write_clauses.result (last-refused c.args.source.now.names.now c.args.source.now.forms.now c.args.module.now c.args.out.now.items
    c.write_locals.new.out.items c.write_clauses.new.out.items c.as_slice-3.result.now c.as_slice-3.ensures.value
    (module-locals c.args.source.now.names.now c.args.source.now.forms.now c.args.module.now c.args.out.now.items c.write_names.new.out.items
    c.write_locals.new.out.items c.as_slice-2.result.now c.as_slice-2.ensures.value
    (module-params c.args.source.now.names.now c.args.source.now.forms.now c.args.module.now c.args.out.now.items c.write_name.new.out.items
    c.write_names.new.out.items c.as_slice.result.now c.as_slice.ensures.value
    (module-name c.args.source.now.names.now c.args.source.now.forms.now c.args.module.now c.args.out.now.items c.extend_from_slice.new.self.items
    c.write_name.new.out.items (module-word c.args.source.now.names.now c.args.source.now.forms.now c.args.module.now c.args.out.now.items
    c.extend_from_slice.new.self.items c.in_ok-extend_from_slice.ensures.items) c.in_ok-write_name.ensures.text) c.in_ok-write_names.ensures.text)
    c.in_ok-write_locals.ensures.text)) c.write_clauses.ensures.begun

pub returns-in_err-extend_from_slice-clause-text : goal.returns-in_err-extend_from_slice-clause-text
returns-in_err-extend_from_slice-clause-text c = IfOk-from_err c.from_residual.result _ c.from_residual.ensures.0

pub returns-in_err-write_locals-clause-text : goal.returns-in_err-write_locals-clause-text
returns-in_err-write_locals-clause-text c = IfOk-from_err c.from_residual-in_err-write_locals.result _ c.from_residual-in_err-write_locals.ensures.0

pub returns-in_err-write_name-clause-text : goal.returns-in_err-write_name-clause-text
returns-in_err-write_name-clause-text c = IfOk-from_err c.from_residual-in_err-write_name.result _ c.from_residual-in_err-write_name.ensures.0

pub returns-in_err-write_names-clause-text : goal.returns-in_err-write_names-clause-text
returns-in_err-write_names-clause-text c = IfOk-from_err c.from_residual-in_err-write_names.result _ c.from_residual-in_err-write_names.ensures.0

pub returns-clause-text : goal.returns-clause-text
returns-clause-text c =
    on_ok c.write_clauses.result (last-written c.args.source.now.names.now c.args.source.now.forms.now c.args.module.now c.args.out.now.items
    c.write_locals.new.out.items c.write_clauses.new.out.items c.as_slice-3.result.now c.as_slice-3.ensures.value
    (module-locals c.args.source.now.names.now c.args.source.now.forms.now c.args.module.now c.args.out.now.items c.write_names.new.out.items
    c.write_locals.new.out.items c.as_slice-2.result.now c.as_slice-2.ensures.value
    (module-params c.args.source.now.names.now c.args.source.now.forms.now c.args.module.now c.args.out.now.items c.write_name.new.out.items
    c.write_names.new.out.items c.as_slice.result.now c.as_slice.ensures.value
    (module-name c.args.source.now.names.now c.args.source.now.forms.now c.args.module.now c.args.out.now.items c.extend_from_slice.new.self.items
    c.write_name.new.out.items (module-word c.args.source.now.names.now c.args.source.now.forms.now c.args.module.now c.args.out.now.items
    c.extend_from_slice.new.self.items c.in_ok-extend_from_slice.ensures.items) c.in_ok-write_name.ensures.text) c.in_ok-write_names.ensures.text)
    c.in_ok-write_locals.ensures.text)) c.write_clauses.ensures.text

pub returns-in_err-extend_from_slice-clause-begun : goal.returns-in_err-extend_from_slice-clause-begun
returns-in_err-extend_from_slice-clause-begun c =
    on_err _ (begins_same (module_text (shown_module c.args.source.now.names.now
    c.args.source.now.forms.now c.args.module.now)) c.args.out.now.items c.extend_from_slice.new.self.items c.in_err-extend_from_slice.ensures.items)
