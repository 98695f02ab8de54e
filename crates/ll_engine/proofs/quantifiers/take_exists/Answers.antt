use Rattle.std.proofs.Common.{refl, ap, sym, subst, ◌∙◌, ◌≡◌, ℕ, length, map}
use Rattle.std.proofs.lemmas.List.{length-map, map-append}
use Rattle.ll_bank.specs.Term.{Var}
use Rattle.ll_bank.specs.Form.{instantiate}
use Rattle.ll_bank.specs.Nodes.{Nodes, ShowsTerm, form_tree}
use Rattle.ll_bank.proofs.CallerLemmas.{Extends-trans}
use Rattle.ll_agenda.specs.Frames.{items_at}
use Rattle.ll_store.specs.declared.cells.Cell.{Cell}
use Rattle.ll_store.specs.declared.store.Store.{Store}
use Rattle.ll_freeze.specs.declared.machine.Machine.{Machine}
use Rattle.ll_freeze.specs.Parts.{Parts, parts_of}
use Rattle.ll_freeze.proofs.CallerLemmas.{later_then, store_then, context_same}
use Rattle.ll_engine.proofs.machine.Keeping.{store_extends, later_terms}
use Rattle.ll_engine.proofs.inferences.Quantifying.{opens_shown, body_shown, value_shown}
use Rattle.ll_engine.proofs.quantifiers.take_exists.Goals as goal

pub returns : goal.returns
returns c =
    let m = c.args.machine.now in let new = c.go_on.new.machine in let n = length (parts_of m).levels in
    let fresh : Store = c.fresh.new.self in
    let store : Store = record fresh { bank = c.instantiate.new.self } in
    let mid : Machine = record m { store = store; terms = c.push.new.self } in
    let go = c.in_ok-go_on.ensures.goes in
    let cells = c.in_ok-number.ensures.cells in
    let same : fresh.bank ≡ m.store.bank = c.fresh.ensures.bank in
    let e : c.in_ok-number.number ≡ n = c.in_ok-number.ensures.number ∙ sym (length-map m.store.cells.cells (λ (d : Cell). d.level)) in
    let v : ShowsTerm c.var.new.self c.in_ok-value.value.0 (Var n) =
    subst (λ (k : ℕ). ShowsTerm c.var.new.self c.in_ok-value.value.0 (Var k)) e c.in_ok-value.ensures.shows in
    let grows = subst (λ (b : Nodes). Rattle.ll_bank.specs.Nodes.Extends b c.var.new.self) same c.in_ok-value.ensures.keeps in
    record {
      opens = record {
        opens =
            opens_shown (parts_of m) (parts_of mid) (parts_of new) refl refl refl refl refl c.in_ok-goal.goal
            (instantiate (form_tree m.store.bank c.args.body.0) (Var n)) (items_at m.agenda c.args.rest)
            (Extends-trans grows c.in_ok-goal.ensures.keeps)
            (body_shown m.store.bank c.var.new.self c.instantiate.new.self c.args.body.0 c.in_ok-goal.goal.0 c.in_ok-value.value.0 (Var n) grows c.requires.body
            v
            c.in_ok-goal.ensures.shows) _ go c.closed.ensures;
        bound = ap (λ (x : Parts). x.bound) go.same ∙ (ap (λ cs. map (λ (d : Cell). d.to) cs) cells ∙ map-append (λ (d : Cell). d.to) m.store.cells.cells _);
        levels = ap (λ (x : Parts). x.levels) go.same ∙ (ap (λ cs. map (λ (d : Cell). d.level) cs) cells
            ∙ map-append (λ (d : Cell). d.level) m.store.cells.cells _);
        value = c.in_ok-value.value;
        shows =
            subst (λ (b : Nodes). ShowsTerm b c.in_ok-value.value.0 (Var n)) (sym (ap (λ (x : Parts). x.bank) go.same))
            (value_shown c.var.new.self c.instantiate.new.self c.in_ok-value.value.0 (Var n) c.in_ok-goal.ensures.keeps v);
        terms = ap (λ (x : Parts). x.terms) go.same ∙ c.in_ok-push.ensures.items;
        eigens = ap (λ (x : Parts). x.eigens) go.same;
      };
      later =
          later_then m mid new
          (later_terms m mid refl refl (store_then _ _ _ c.fresh.ensures.marks
          (store_extends fresh store (Extends-trans c.in_ok-value.ensures.keeps c.in_ok-goal.ensures.keeps) refl))
          (context_same m.context) refl _ c.in_ok-push.ensures.items refl)
          c.in_ok-go_on.ensures.later;
    }
