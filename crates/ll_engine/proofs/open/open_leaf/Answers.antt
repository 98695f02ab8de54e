use Rattle.std.proofs.Common.{◌++◌, append_assoc, refl, ap, sym, ◌∙◌, length, [], ◌∷◌}
use Rattle.std.proofs.lemmas.List.{append-nil}
use Rattle.std.proofs.lemmas.Result.{IfOk-from_err}
use Rattle.ll_bank.specs.Term.{Var}
use Rattle.ll_bank.specs.Nodes.{form_tree}
use Rattle.ll_laws.specs.Leaf.{ways}
use Rattle.ll_bank.proofs.CallerLemmas.{Extends-trans}
use Rattle.ll_agenda.specs.Frames.{items_at}
use Rattle.ll_agenda.proofs.CallerLemmas.{Extends-refl as frames-refl, Extends-trans as frames-trans}
use Rattle.ll_engine.proofs.inferences.WayLemmas.{way_start, way_side, way_lolli, way_imp, way_in, way_end, way_none}
use Rattle.ll_engine.proofs.inferences.WayLemmas.{stands, part_stands, side_smaller, no_ways}
use Rattle.ll_engine.proofs.open.open_leaf.Goals as goal

pub loop-atom-init : goal.loop-atom-init
loop-atom-init c = record {
  way =
      way_start c.args.bank.now (items_at c.args.agenda.now c.args.rest) (length c.args.terms.now.items) c.args.leaf.clause.0 c.args.leaf.number
      c.args.agenda.now c.args.terms.now.items c.args.rest c.requires.inside c.requires.clause c.requires.among
      (record { inside = c.requires.top; list = refl }) c.requires.terms c.requires.variables;
  frames = frames-refl c.args.agenda.now;
  more = record { more = []; is = sym (append-nil c.args.terms.now.items) };
}

pub returns-in-Atom-clause-opened : goal.returns-in-Atom-clause-opened
returns-in-Atom-clause-opened c = let l = c.loop-atom in let own = c.in_ok-environment-in-Atom in
    way_end c.args.bank.now (items_at c.args.agenda.now c.args.rest) (length c.args.terms.now.items) c.args.leaf.clause.0 c.args.leaf.number
    l.bank l.agenda l.terms.items l.form l.number l.top l.invariant.way c.deref.result.now c.len-from.result own.environment c.deref.ensures.value
    (c.len-from.ensures ∙ c.args.terms.now.ok.0) own.ensures.end own.ensures.count c.in-Atom.atom c.in-Atom.ensures.shown.tree c.in-Atom.ensures.shown.parts

pub loop-atom-preserved-in-With : goal.loop-atom-preserved-in-With
loop-atom-preserved-in-With c = let l = c.loop-atom in record {
  way = way_side c.args.bank.now (items_at c.args.agenda.now c.args.rest) (length c.args.terms.now.items) c.args.leaf.clause.0 c.args.leaf.number
      l.bank l.agenda l.terms.items l.form l.number l.top l.invariant.way c.in-With.left c.in-With.right c.in-With.ensures.shown.parts c.in_ok-side-in-With.side
      c.in-With.ensures.shown.tree c.in_ok-side-in-With.ensures;
  frames = l.invariant.frames;
  more = l.invariant.more;
}

pub loop-atom-preserved-in-Lolli : goal.loop-atom-preserved-in-Lolli
loop-atom-preserved-in-Lolli c = let l = c.loop-atom in let own = c.in_ok-environment-in-Lolli in record {
  way = way_lolli c.args.bank.now (items_at c.args.agenda.now c.args.rest) (length c.args.terms.now.items) c.args.leaf.clause.0 c.args.leaf.number
      l.bank l.agenda l.terms.items l.form l.number l.top l.invariant.way c.deref-in-Lolli.result.now c.len-from.result own.environment
      c.deref-in-Lolli.ensures.value (c.len-from.ensures ∙ c.args.terms.now.ok.0) own.ensures.end own.ensures.count
      c.in-Lolli.premise c.in-Lolli.next c.in-Lolli.ensures.shown.parts
      c.push.new.self c.in_ok-top-in-Lolli.top c.in-Lolli.ensures.shown.tree c.in_ok-top-in-Lolli.ensures.list;
  frames = frames-trans l.invariant.frames c.push.ensures.keeps;
  more = l.invariant.more;
}

pub loop-atom-preserved-in-Imp : goal.loop-atom-preserved-in-Imp
loop-atom-preserved-in-Imp c = let l = c.loop-atom in let own = c.in_ok-environment-in-Imp in let free = c.in_ok-free-in-Imp.ensures in record {
  way = way_imp c.args.bank.now (items_at c.args.agenda.now c.args.rest) (length c.args.terms.now.items) c.args.leaf.clause.0 c.args.leaf.number
      l.bank l.agenda l.terms.items l.form l.number l.top l.invariant.way c.deref-in-Imp.result.now c.len-from.result own.environment
      c.deref-in-Imp.ensures.value (c.len-from.ensures ∙ c.args.terms.now.ok.0) own.ensures.end own.ensures.count
      c.in-Imp.premise c.in-Imp.next c.in-Imp.ensures.shown.parts
      c.in_ok-free-in-Imp.free c.form.new.self c.push-in-Imp.new.self c.in_ok-top-in-Imp.top c.in-Imp.ensures.shown.tree free.keeps free.shows.inside
      free.shows.tree c.in_ok-top-in-Imp.ensures.list;
  frames = frames-trans l.invariant.frames c.push-in-Imp.ensures.keeps;
  more = l.invariant.more;
}

pub loop-atom-preserved : goal.loop-atom-preserved
loop-atom-preserved c = record {
  way =
      let v = c.in_ok-variable-in-Forall.variable in let shows = c.in_ok-variable-in-Forall.ensures.shows in
      way_in c.args.bank.now (items_at c.args.agenda.now c.args.rest) (length c.args.terms.now.items) c.args.leaf.clause.0 c.args.leaf.number c.loop-atom.bank
      c.loop-atom.agenda c.loop-atom.terms.items c.loop-atom.form c.loop-atom.number c.loop-atom.top c.loop-atom.invariant.way c.in-Forall.body v
      c.var.new.self c.push-in-Forall.new.self.items c.in-Forall.ensures.shown.tree c.in-Forall.ensures.shown.parts c.in_ok-variable-in-Forall.ensures.keeps
      shows.inside
      (shows.tree ∙ ap Var (c.len.ensures ∙ c.loop-atom.terms.ok.0)) c.in_ok-push-in-Forall.ensures.items;
  frames = c.loop-atom.invariant.frames;
  more = record {
    more = c.loop-atom.invariant.more.more ++ c.in_ok-variable-in-Forall.variable ∷ [];
    is =
        c.in_ok-push-in-Forall.ensures.items ∙ (ap (λ ts. ts ++ c.in_ok-variable-in-Forall.variable ∷ []) c.loop-atom.invariant.more.is
        ∙ append_assoc c.args.terms.now.items c.loop-atom.invariant.more.more (c.in_ok-variable-in-Forall.variable ∷ []));
  };
}

pub returns-in_err-free-in-Imp-clause-keeps : goal.returns-in_err-free-in-Imp-clause-keeps
returns-in_err-free-in-Imp-clause-keeps c = Extends-trans c.loop-atom.invariant.way.keeps c.form.ensures.keeps

pub returns-in_err-top-in-Imp-clause-keeps : goal.returns-in_err-top-in-Imp-clause-keeps
returns-in_err-top-in-Imp-clause-keeps c = Extends-trans c.loop-atom.invariant.way.keeps c.form.ensures.keeps

pub returns-in_err-push-in-Forall-clause-keeps : goal.returns-in_err-push-in-Forall-clause-keeps
returns-in_err-push-in-Forall-clause-keeps c = Extends-trans c.loop-atom.invariant.way.keeps c.var.ensures.keeps

pub form_at-requires : goal.form_at-requires
form_at-requires c = let l = c.loop-atom in
    stands c.args.bank.now (items_at c.args.agenda.now c.args.rest) (length c.args.terms.now.items) c.args.leaf.clause.0 c.args.leaf.number
    l.bank l.agenda l.terms.items l.form l.number l.top l.invariant.way

pub returns-in-Atom-clause-keeps : goal.returns-in-Atom-clause-keeps
returns-in-Atom-clause-keeps c = c.loop-atom.invariant.way.keeps

pub returns-in-Atom-clause-frames : goal.returns-in-Atom-clause-frames
returns-in-Atom-clause-frames c = c.loop-atom.invariant.frames

pub returns-in-Atom-clause-more : goal.returns-in-Atom-clause-more
returns-in-Atom-clause-more c = c.loop-atom.invariant.more

pub side_of-requires : goal.side_of-requires
side_of-requires c = let l = c.loop-atom in
    part_stands c.args.bank.now (items_at c.args.agenda.now c.args.rest) (length c.args.terms.now.items) c.args.leaf.clause.0 c.args.leaf.number
    l.bank l.agenda l.terms.items l.form l.number l.top l.invariant.way c.in-With.left c.in-With.ensures.shown.parts.0

pub returns-in_err-side-in-With-clause-keeps : goal.returns-in_err-side-in-With-clause-keeps
returns-in_err-side-in-With-clause-keeps c = c.loop-atom.invariant.way.keeps

pub loop-atom-smaller-in-With : goal.loop-atom-smaller-in-With
loop-atom-smaller-in-With c = let l = c.loop-atom in
    side_smaller (ways (form_tree l.bank c.in-With.left.0)) l.form c.in-With.left c.in-With.right l.number c.in_ok-side-in-With.side
    c.in-With.ensures.shown.parts c.in_ok-side-in-With.ensures

pub returns-in_err-top-in-Lolli-clause-keeps : goal.returns-in_err-top-in-Lolli-clause-keeps
returns-in_err-top-in-Lolli-clause-keeps c = c.loop-atom.invariant.way.keeps

pub push-requires : goal.push-requires
push-requires c = c.loop-atom.invariant.way.shows.inside

pub loop-atom-smaller-in-Lolli : goal.loop-atom-smaller-in-Lolli
loop-atom-smaller-in-Lolli c = c.in-Lolli.ensures.shown.parts.1

pub push-requires-in-Imp : goal.push-requires-in-Imp
push-requires-in-Imp c = c.loop-atom.invariant.way.shows.inside

pub loop-atom-smaller-in-Imp : goal.loop-atom-smaller-in-Imp
loop-atom-smaller-in-Imp c = c.in-Imp.ensures.shown.parts.1

pub form-requires : goal.form-requires
form-requires c = let l = c.loop-atom in
    part_stands c.args.bank.now (items_at c.args.agenda.now c.args.rest) (length c.args.terms.now.items) c.args.leaf.clause.0 c.args.leaf.number
    l.bank l.agenda l.terms.items l.form l.number l.top l.invariant.way c.in-Imp.premise c.in-Imp.ensures.shown.parts.0

pub returns-in_err-variable-in-Forall-clause-keeps : goal.returns-in_err-variable-in-Forall-clause-keeps
returns-in_err-variable-in-Forall-clause-keeps c = Extends-trans c.loop-atom.invariant.way.keeps c.var.ensures.keeps

pub loop-atom-smaller : goal.loop-atom-smaller
loop-atom-smaller c = c.in-Forall.ensures.shown.parts

pub unreachable-requires : goal.unreachable-requires
unreachable-requires c = let l = c.loop-atom in let d = c.in_default in
    way_none c.args.bank.now (items_at c.args.agenda.now c.args.rest) (length c.args.terms.now.items) c.args.leaf.clause.0 c.args.leaf.number
    l.bank l.agenda l.terms.items l.form l.number l.top l.invariant.way c.form_at.result c.form_at.ensures.shown.tree
    (no_ways l.bank c.form_at.result d.not-Atom d.not-With d.not-Lolli d.not-Imp d.not-Forall)

pub returns-in_err-side-in-With-clause-opened : goal.returns-in_err-side-in-With-clause-opened
returns-in_err-side-in-With-clause-opened c = IfOk-from_err c.from_residual-in_err-side-in-With.result _ c.from_residual-in_err-side-in-With.ensures.0

pub returns-in_err-side-in-With-clause-frames : goal.returns-in_err-side-in-With-clause-frames
returns-in_err-side-in-With-clause-frames c = IfOk-from_err c.from_residual-in_err-side-in-With.result _ c.from_residual-in_err-side-in-With.ensures.0

pub returns-in_err-side-in-With-clause-more : goal.returns-in_err-side-in-With-clause-more
returns-in_err-side-in-With-clause-more c = IfOk-from_err c.from_residual-in_err-side-in-With.result _ c.from_residual-in_err-side-in-With.ensures.0

pub returns-in_err-top-in-Lolli-clause-opened : goal.returns-in_err-top-in-Lolli-clause-opened
returns-in_err-top-in-Lolli-clause-opened c = IfOk-from_err c.from_residual-in_err-top-in-Lolli.result _ c.from_residual-in_err-top-in-Lolli.ensures.0

pub returns-in_err-top-in-Lolli-clause-frames : goal.returns-in_err-top-in-Lolli-clause-frames
returns-in_err-top-in-Lolli-clause-frames c = IfOk-from_err c.from_residual-in_err-top-in-Lolli.result _ c.from_residual-in_err-top-in-Lolli.ensures.0

pub returns-in_err-top-in-Lolli-clause-more : goal.returns-in_err-top-in-Lolli-clause-more
returns-in_err-top-in-Lolli-clause-more c = IfOk-from_err c.from_residual-in_err-top-in-Lolli.result _ c.from_residual-in_err-top-in-Lolli.ensures.0

pub returns-in_err-free-in-Imp-clause-opened : goal.returns-in_err-free-in-Imp-clause-opened
returns-in_err-free-in-Imp-clause-opened c = IfOk-from_err c.from_residual-in_err-free-in-Imp.result _ c.from_residual-in_err-free-in-Imp.ensures.0

pub returns-in_err-free-in-Imp-clause-frames : goal.returns-in_err-free-in-Imp-clause-frames
returns-in_err-free-in-Imp-clause-frames c = IfOk-from_err c.from_residual-in_err-free-in-Imp.result _ c.from_residual-in_err-free-in-Imp.ensures.0

pub returns-in_err-free-in-Imp-clause-more : goal.returns-in_err-free-in-Imp-clause-more
returns-in_err-free-in-Imp-clause-more c = IfOk-from_err c.from_residual-in_err-free-in-Imp.result _ c.from_residual-in_err-free-in-Imp.ensures.0

pub returns-in_err-top-in-Imp-clause-opened : goal.returns-in_err-top-in-Imp-clause-opened
returns-in_err-top-in-Imp-clause-opened c = IfOk-from_err c.from_residual-in_err-top-in-Imp.result _ c.from_residual-in_err-top-in-Imp.ensures.0

pub returns-in_err-top-in-Imp-clause-frames : goal.returns-in_err-top-in-Imp-clause-frames
returns-in_err-top-in-Imp-clause-frames c = IfOk-from_err c.from_residual-in_err-top-in-Imp.result _ c.from_residual-in_err-top-in-Imp.ensures.0

pub returns-in_err-top-in-Imp-clause-more : goal.returns-in_err-top-in-Imp-clause-more
returns-in_err-top-in-Imp-clause-more c = IfOk-from_err c.from_residual-in_err-top-in-Imp.result _ c.from_residual-in_err-top-in-Imp.ensures.0

pub returns-in_err-variable-in-Forall-clause-opened : goal.returns-in_err-variable-in-Forall-clause-opened
returns-in_err-variable-in-Forall-clause-opened c =
    IfOk-from_err c.from_residual-in_err-variable-in-Forall.result _ c.from_residual-in_err-variable-in-Forall.ensures.0

pub returns-in_err-variable-in-Forall-clause-frames : goal.returns-in_err-variable-in-Forall-clause-frames
returns-in_err-variable-in-Forall-clause-frames c =
    IfOk-from_err c.from_residual-in_err-variable-in-Forall.result _ c.from_residual-in_err-variable-in-Forall.ensures.0

pub returns-in_err-variable-in-Forall-clause-more : goal.returns-in_err-variable-in-Forall-clause-more
returns-in_err-variable-in-Forall-clause-more c =
    IfOk-from_err c.from_residual-in_err-variable-in-Forall.result _ c.from_residual-in_err-variable-in-Forall.ensures.0

pub returns-in_err-push-in-Forall-clause-opened : goal.returns-in_err-push-in-Forall-clause-opened
returns-in_err-push-in-Forall-clause-opened c = IfOk-from_err c.from_residual-in_err-push-in-Forall.result _ c.from_residual-in_err-push-in-Forall.ensures.0

pub returns-in_err-push-in-Forall-clause-frames : goal.returns-in_err-push-in-Forall-clause-frames
returns-in_err-push-in-Forall-clause-frames c = IfOk-from_err c.from_residual-in_err-push-in-Forall.result _ c.from_residual-in_err-push-in-Forall.ensures.0

pub returns-in_err-push-in-Forall-clause-more : goal.returns-in_err-push-in-Forall-clause-more
returns-in_err-push-in-Forall-clause-more c = IfOk-from_err c.from_residual-in_err-push-in-Forall.result _ c.from_residual-in_err-push-in-Forall.ensures.0

pub returns-in_err-environment-in-Atom-clause-keeps : goal.returns-in_err-environment-in-Atom-clause-keeps
returns-in_err-environment-in-Atom-clause-keeps c = c.loop-atom.invariant.way.keeps

pub returns-in_err-environment-in-Atom-clause-opened : goal.returns-in_err-environment-in-Atom-clause-opened
returns-in_err-environment-in-Atom-clause-opened c =
    IfOk-from_err c.from_residual.result _ c.from_residual.ensures.0

pub returns-in_err-environment-in-Atom-clause-frames : goal.returns-in_err-environment-in-Atom-clause-frames
returns-in_err-environment-in-Atom-clause-frames c =
    IfOk-from_err c.from_residual.result _ c.from_residual.ensures.0

pub returns-in_err-environment-in-Atom-clause-more : goal.returns-in_err-environment-in-Atom-clause-more
returns-in_err-environment-in-Atom-clause-more c =
    IfOk-from_err c.from_residual.result _ c.from_residual.ensures.0

pub returns-in_err-environment-in-Lolli-clause-keeps : goal.returns-in_err-environment-in-Lolli-clause-keeps
returns-in_err-environment-in-Lolli-clause-keeps c = c.loop-atom.invariant.way.keeps

pub returns-in_err-environment-in-Lolli-clause-opened : goal.returns-in_err-environment-in-Lolli-clause-opened
returns-in_err-environment-in-Lolli-clause-opened c =
    IfOk-from_err c.from_residual-in_err-environment-in-Lolli.result _ c.from_residual-in_err-environment-in-Lolli.ensures.0

pub returns-in_err-environment-in-Lolli-clause-frames : goal.returns-in_err-environment-in-Lolli-clause-frames
returns-in_err-environment-in-Lolli-clause-frames c =
    IfOk-from_err c.from_residual-in_err-environment-in-Lolli.result _ c.from_residual-in_err-environment-in-Lolli.ensures.0

pub returns-in_err-environment-in-Lolli-clause-more : goal.returns-in_err-environment-in-Lolli-clause-more
returns-in_err-environment-in-Lolli-clause-more c =
    IfOk-from_err c.from_residual-in_err-environment-in-Lolli.result _ c.from_residual-in_err-environment-in-Lolli.ensures.0

pub returns-in_err-environment-in-Imp-clause-keeps : goal.returns-in_err-environment-in-Imp-clause-keeps
returns-in_err-environment-in-Imp-clause-keeps c = c.loop-atom.invariant.way.keeps

pub returns-in_err-environment-in-Imp-clause-opened : goal.returns-in_err-environment-in-Imp-clause-opened
returns-in_err-environment-in-Imp-clause-opened c =
    IfOk-from_err c.from_residual-in_err-environment-in-Imp.result _ c.from_residual-in_err-environment-in-Imp.ensures.0

pub returns-in_err-environment-in-Imp-clause-frames : goal.returns-in_err-environment-in-Imp-clause-frames
returns-in_err-environment-in-Imp-clause-frames c =
    IfOk-from_err c.from_residual-in_err-environment-in-Imp.result _ c.from_residual-in_err-environment-in-Imp.ensures.0

pub returns-in_err-environment-in-Imp-clause-more : goal.returns-in_err-environment-in-Imp-clause-more
returns-in_err-environment-in-Imp-clause-more c =
    IfOk-from_err c.from_residual-in_err-environment-in-Imp.result _ c.from_residual-in_err-environment-in-Imp.ensures.0
