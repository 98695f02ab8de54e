use Rattle.std.proofs.Common.{ap, sym, length}
use Rattle.ll_bank.specs.declared.FormNode.TheVariants.{Top, One, Atom, With, Tensor, Plus, Bang, Lolli, Imp, Forall, Exists, Use, Is, Less, Most}
use Rattle.ll_bank.specs.Nodes.{node_of}
use Rattle.ll_bank.specs.Opened.{form_parts}
use Rattle.ll_bank.proofs.PartLemmas.{form_node_seen}
use Rattle.ll_bank.proofs.closing.form.part_count.Goals as goal

pub form_at-requires : goal.form_at-requires
form_at-requires c = c.requires

pub returns-in-Top : goal.returns-in-Top
returns-in-Top c = λ level. ap (λ node. length (form_parts node level))
    (sym (form_node_seen c.args.bank.now c.args.form.0 (node_of Top) c.in-Top.ensures.node))

pub returns-in-One : goal.returns-in-One
returns-in-One c = λ level. ap (λ node. length (form_parts node level))
    (sym (form_node_seen c.args.bank.now c.args.form.0 (node_of One) c.in-One.ensures.node))

pub returns-in-Atom : goal.returns-in-Atom
returns-in-Atom c = λ level. ap (λ node. length (form_parts node level))
    (sym (form_node_seen c.args.bank.now c.args.form.0 (node_of (Atom c.in-Atom.field-0)) c.in-Atom.ensures.node))

pub returns-in-With : goal.returns-in-With
returns-in-With c = λ level. ap (λ node. length (form_parts node level))
    (sym (form_node_seen c.args.bank.now c.args.form.0 (node_of (With c.in-With.field-0 c.in-With.field-1)) c.in-With.ensures.node))

pub returns-in-Tensor : goal.returns-in-Tensor
returns-in-Tensor c = λ level. ap (λ node. length (form_parts node level))
    (sym (form_node_seen c.args.bank.now c.args.form.0 (node_of (Tensor c.in-Tensor.field-0 c.in-Tensor.field-1)) c.in-Tensor.ensures.node))

pub returns-in-Plus : goal.returns-in-Plus
returns-in-Plus c = λ level. ap (λ node. length (form_parts node level))
    (sym (form_node_seen c.args.bank.now c.args.form.0 (node_of (Plus c.in-Plus.field-0 c.in-Plus.field-1)) c.in-Plus.ensures.node))

pub returns-in-Bang : goal.returns-in-Bang
returns-in-Bang c = λ level. ap (λ node. length (form_parts node level))
    (sym (form_node_seen c.args.bank.now c.args.form.0 (node_of (Bang c.in-Bang.field-0)) c.in-Bang.ensures.node))

pub returns-in-Lolli : goal.returns-in-Lolli
returns-in-Lolli c = λ level. ap (λ node. length (form_parts node level))
    (sym (form_node_seen c.args.bank.now c.args.form.0 (node_of (Lolli c.in-Lolli.field-0 c.in-Lolli.field-1)) c.in-Lolli.ensures.node))

pub returns-in-Imp : goal.returns-in-Imp
returns-in-Imp c = λ level. ap (λ node. length (form_parts node level))
    (sym (form_node_seen c.args.bank.now c.args.form.0 (node_of (Imp c.in-Imp.field-0 c.in-Imp.field-1)) c.in-Imp.ensures.node))

pub returns-in-Forall : goal.returns-in-Forall
returns-in-Forall c = λ level. ap (λ node. length (form_parts node level))
    (sym (form_node_seen c.args.bank.now c.args.form.0 (node_of (Forall c.in-Forall.field-0)) c.in-Forall.ensures.node))

pub returns-in-Exists : goal.returns-in-Exists
returns-in-Exists c = λ level. ap (λ node. length (form_parts node level))
    (sym (form_node_seen c.args.bank.now c.args.form.0 (node_of (Exists c.in-Exists.field-0)) c.in-Exists.ensures.node))

pub returns-in-Use : goal.returns-in-Use
returns-in-Use c = λ level. ap (λ node. length (form_parts node level))
    (sym (form_node_seen c.args.bank.now c.args.form.0 (node_of (Use c.in-Use.field-0 c.in-Use.field-1 c.in-Use.field-2)) c.in-Use.ensures.node))

pub returns-in-Is : goal.returns-in-Is
returns-in-Is c = λ level. ap (λ node. length (form_parts node level))
    (sym (form_node_seen c.args.bank.now c.args.form.0 (node_of (Is c.in-Is.field-0 c.in-Is.field-1)) c.in-Is.ensures.node))

pub returns-in-Less : goal.returns-in-Less
returns-in-Less c = λ level. ap (λ node. length (form_parts node level))
    (sym (form_node_seen c.args.bank.now c.args.form.0 (node_of (Less c.in-Less.field-0 c.in-Less.field-1)) c.in-Less.ensures.node))

pub returns-in-Most : goal.returns-in-Most
returns-in-Most c = λ level. ap (λ node. length (form_parts node level))
    (sym (form_node_seen c.args.bank.now c.args.form.0 (node_of (Most c.in-Most.field-0 c.in-Most.field-1)) c.in-Most.ensures.node))
