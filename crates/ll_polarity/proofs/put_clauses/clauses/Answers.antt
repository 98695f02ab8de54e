use Rattle.std.proofs.Common.{◌≡◌, ℕ, ◌+◌, ◌*◌, ◌<◌, ◌≤◌, List, [], false, None, length, get_or, take, take_all, refl, sym, subst, ap, ◌∙◌, arith}
use Rattle.std.proofs.lemmas.Result.{IfOk-from_err}
use Rattle.std.proofs.lemmas.List.{take_more}
use Rattle.std.specs.Prelude.{◌^◌, unwrap_or}
use Rattle.ll_bank.proofs.CallerLemmas.{Extends-refl, Extends-trans}
use Rattle.ll_laws.specs.Shown.{clause_tree}
use Rattle.ll_laws.specs.Valid.{ClauseSide}
use Rattle.ll_parser.specs.declared.RawClause.{RawClause}
use Rattle.ll_parser.specs.Nodes.{raw_at, shown_clause}
use Rattle.ll_parser.specs.Weights.{weight}
use Rattle.ll_polarity.specs.declared.front.Place.{Place}
use Rattle.ll_polarity.specs.Asks.{read_clause}
use Rattle.ll_polarity.specs.Faults.{Heading, form_faults}
use Rattle.ll_polarity.specs.Places.{place_in}
use Rattle.ll_polarity.specs.Reading.{module_in}
use Rattle.ll_polarity.specs.Scope.{Scope, Scoped}
use Rattle.ll_polarity.specs.Standing.{StandsIn}
use Rattle.ll_polarity.proofs.putting.Clauses.{AreRead, read_more, room_next}
use Rattle.ll_polarity.proofs.put_clauses.clauses.Goals as goal

not_below_none : (k : ℕ) → k < 0 → ⊥
not_below_none k h = omega arith

-- the binders are as before
stands_again : (texts : List (List ℕ)) (s t : Scoped) (p : Place) → StandsIn texts s p → t.scope ≡ s.scope → t.texts ≡ texts → StandsIn texts t p
stands_again texts s t p stands scope same = record {
  distinct = stands.distinct;
  same = same;
  depth = subst (λ (x : Scope). p.depth ≤ length x) (sym scope) stands.depth;
  room = subst (λ (x : Scope). length x + unwrap_or p.quantified 0 < 2 ^ 32) (sym scope) stands.room;
}

pub loop-raw-init : goal.loop-raw-init
loop-raw-init c = record {
  read = rw c.new-put.ensures.items (record {
    show = λ ms heads same h. refl;
    met = λ ms. refl;
    inside = λ k d l. absurd (not_below_none k l);
    keeps =
        Extends-refl c.args.bank.now;
  });
  scope = refl;
  texts = c.requires.stands.same;
}

pub clause-requires-clause-stands : goal.clause-requires-clause-stands
clause-requires-clause-stands c =
    stands_again c.args.text.now.names.now c.args.binders.now c.loop-raw.binders (record { quantified = None; depth = 0 }) c.requires.stands
    c.loop-raw.invariant.scope c.loop-raw.invariant.texts

pub clause-requires-clause-ready : goal.clause-requires-clause-ready
clause-requires-clause-ready c =
    let d : RawClause = record { linear = false; form = record { 0 = 0 } } in
    c.requires.ready c.loop-raw.raw-index d c.loop-raw-test.true

pub clause-requires-clause-room : goal.clause-requires-clause-room
clause-requires-clause-room c =
    let d : RawClause = record { linear = false; form = record { 0 = 0 } } in
    subst (λ (n : ℕ). length c.loop-raw.met.names + n + 6 * weight (raw_at c.args.text.now.names.now c.args.text.now.forms.now
    (get_or c.args.from.now c.loop-raw.raw-index d).form.0) < 2 ^ 32) (sym (ap length c.loop-raw.invariant.scope))
    (room_next c.args.text.now.names.now c.args.text.now.forms.now c.args.binders.now.scope c.args.met.now.names c.loop-raw.met.names c.args.from.now
    c.loop-raw.raw-index (length c.args.binders.now.scope) d (c.loop-raw.invariant.read.met []) c.loop-raw-test.true c.requires.room)

pub returns-in_err-next-clause-keeps : goal.returns-in_err-next-clause-keeps
returns-in_err-next-clause-keeps c = Extends-trans c.loop-raw.invariant.read.keeps c.clause.ensures.keeps

pub returns-in_err-push-clause-keeps : goal.returns-in_err-push-clause-keeps
returns-in_err-push-clause-keeps c = Extends-trans c.loop-raw.invariant.read.keeps c.clause.ensures.keeps

pub loop-raw-preserved : goal.loop-raw-preserved
loop-raw-preserved c =
    let d : RawClause = record { linear = false; form = record { 0 = 0 } } in
    let texts = c.args.text.now.names.now in
    let forms = c.args.text.now.forms.now in
    let places = place_in c.args.text.now.modules.now.places in
    let raw : RawClause = get_or c.args.from.now c.loop-raw.raw-index d in
    let shows = subst (λ (s : Scope). (ms : List (List ℕ)) (heads : List Heading) → ((w : List ℕ) → places w ≡ module_in ms w)
    → form_faults heads ClauseSide s (raw_at texts forms raw.form.0) ≡ []
    → clause_tree c.clause.new.bank c.in_ok-next.next ≡ (read_clause ms s c.loop-raw.met.names (shown_clause texts forms raw)).it) c.loop-raw.invariant.scope
    c.in_ok-next.ensures.shows in
    let met = subst (λ (s : Scope). (ms : List (List ℕ)) → c.clause.new.met.names
    ≡ (read_clause ms s c.loop-raw.met.names (shown_clause texts forms raw)).names) c.loop-raw.invariant.scope c.in_ok-next.ensures.names in
    record {
      read = subst (λ (xs : List RawClause). AreRead texts forms places c.args.binders.now.scope c.args.met.now.names c.args.bank.now c.clause.new.bank xs
          c.push.new.self.items c.clause.new.met.names)
          (sym (take_more c.args.from.now c.loop-raw.raw-index d c.loop-raw-test.true))
          (read_more texts forms places c.args.binders.now.scope c.args.met.now.names c.args.bank.now c.loop-raw.bank c.clause.new.bank
          (take c.loop-raw.raw-index c.args.from.now) raw c.loop-raw.put.items c.push.new.self.items c.in_ok-next.next c.loop-raw.met.names
          c.clause.new.met.names
          c.loop-raw.invariant.read shows met c.in_ok-next.ensures.inside c.in_ok-next.ensures.keeps c.in_ok-push.ensures.items);
      scope = c.in_ok-next.ensures.scope ∙ c.loop-raw.invariant.scope;
      texts = c.in_ok-next.ensures.texts;
    }

pub returns : goal.returns
returns c =
    let read = subst (λ (xs : List RawClause). AreRead c.args.text.now.names.now c.args.text.now.forms.now (place_in c.args.text.now.modules.now.places)
    c.args.binders.now.scope c.args.met.now.names c.args.bank.now c.loop-raw.bank xs c.loop-raw.put.items c.loop-raw.met.names)
    (take_all c.loop-raw.raw-index c.args.from.now c.loop-raw-test.false) c.loop-raw.invariant.read in
    record {
      shows = read.show;
      names = read.met;
      inside = read.inside;
      scope = c.loop-raw.invariant.scope;
      texts = c.loop-raw.invariant.texts;
      keeps = read.keeps;
    }

pub returns-in_err-next-clause-inside : goal.returns-in_err-next-clause-inside
returns-in_err-next-clause-inside c = IfOk-from_err c.from_residual.result _ c.from_residual.ensures.0

pub returns-in_err-next-clause-names : goal.returns-in_err-next-clause-names
returns-in_err-next-clause-names c = IfOk-from_err c.from_residual.result _ c.from_residual.ensures.0

pub returns-in_err-next-clause-scope : goal.returns-in_err-next-clause-scope
returns-in_err-next-clause-scope c = IfOk-from_err c.from_residual.result _ c.from_residual.ensures.0

pub returns-in_err-next-clause-shows : goal.returns-in_err-next-clause-shows
returns-in_err-next-clause-shows c = IfOk-from_err c.from_residual.result _ c.from_residual.ensures.0

pub returns-in_err-next-clause-texts : goal.returns-in_err-next-clause-texts
returns-in_err-next-clause-texts c = IfOk-from_err c.from_residual.result _ c.from_residual.ensures.0

pub returns-in_err-push-clause-inside : goal.returns-in_err-push-clause-inside
returns-in_err-push-clause-inside c = IfOk-from_err c.from_residual-in_err-push.result _ c.from_residual-in_err-push.ensures.0

pub returns-in_err-push-clause-names : goal.returns-in_err-push-clause-names
returns-in_err-push-clause-names c = IfOk-from_err c.from_residual-in_err-push.result _ c.from_residual-in_err-push.ensures.0

pub returns-in_err-push-clause-scope : goal.returns-in_err-push-clause-scope
returns-in_err-push-clause-scope c = IfOk-from_err c.from_residual-in_err-push.result _ c.from_residual-in_err-push.ensures.0

pub returns-in_err-push-clause-shows : goal.returns-in_err-push-clause-shows
returns-in_err-push-clause-shows c = IfOk-from_err c.from_residual-in_err-push.result _ c.from_residual-in_err-push.ensures.0

pub returns-in_err-push-clause-texts : goal.returns-in_err-push-clause-texts
returns-in_err-push-clause-texts c = IfOk-from_err c.from_residual-in_err-push.result _ c.from_residual-in_err-push.ensures.0
