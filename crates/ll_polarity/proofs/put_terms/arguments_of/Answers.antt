use Rattle.std.proofs.Common.{◌≡◌, ◌<◌, ℕ, suc, [], length, refl, sym, subst, ap, ◌∙◌, arith, ◌∷◌, length-append}
use Rattle.std.proofs.lemmas.Result.{IfOk-from_err}
use Rattle.ll_bank.proofs.CallerLemmas.{Extends-refl, Extends-trans}
use Rattle.ll_bank.specs.Term.{Term}
use Rattle.std.specs.Prelude.{List}
use Rattle.ll_parser.specs.Nodes.{raw_at}
use Rattle.ll_parser.specs.Raw.{none, more}
use Rattle.ll_parser.specs.Weights.{weights}
use Rattle.ll_polarity.specs.Reading.{Read}
use Rattle.ll_polarity.specs.Built.{built_terms, arguments, raws_past}
use Rattle.ll_polarity.specs.Standing.{met_of, around}
use Rattle.ll_polarity.specs.Calls.{Site}
use Rattle.ll_polarity.proofs.putting.Calling.{named_argument, args_room, args_more, args_end, less_more}
use Rattle.ll_polarity.specs.Spots.{texts_of, forms_of}
use Rattle.ll_polarity.proofs.put_terms.arguments_of.Goals as goal

pub arguments-init : goal.arguments-init
arguments-init c =
    rw c.new-args.ensures.items (record { means = refl; inside = λ k d l. absurd (omega arith); keeps = Extends-refl c.args.bank.now })

pub term-requires-clause-ready : goal.term-requires-clause-ready
term-requires-clause-ready c =
    let e = c.in-Some.ensures (texts_of c.args.spot.now) in
    record {
      inside = e.0;
      named = named_argument (texts_of c.args.spot.now) (forms_of c.args.spot.now) c.args.at.0 c.len.result c.in-Some.arg _
          c.requires.ready.named e.1;
    }

pub term-requires-clause-room : goal.term-requires-clause-room
term-requires-clause-room c =
    let a = around c.args.spot.now.place c.args.spot.now.binders.now.scope in
    let s : Site = record { texts = (texts_of c.args.spot.now); forms = (forms_of c.args.spot.now); around = a } in
    let target : Read (List Term) = built_terms a (met_of (texts_of c.args.spot.now) c.args.met.now)
    (arguments (raw_at (texts_of c.args.spot.now) (forms_of c.args.spot.now) c.args.at.0)) in
    let l : c.len.result ≡ length c.arguments.args.items = omega (arith, c.len.ensures, c.arguments.args.ok.0) in
    let raw = raw_at (texts_of c.args.spot.now) (forms_of c.args.spot.now) c.args.at.0 in
    let e = subst (λ (k : ℕ). raws_past k (arguments raw) ≡ more (raw_at (texts_of c.args.spot.now) (forms_of c.args.spot.now) c.in-Some.arg.0)
    (raws_past (suc k) (arguments raw)))
    l (c.in-Some.ensures (texts_of c.args.spot.now)).1 in
    args_room s target c.args.bank.now c.args.at.0 c.arguments.bank c.arguments.args.items (met_of (texts_of c.args.spot.now) c.arguments.met) c.in-Some.arg _
    c.arguments.invariant e c.requires.room

pub arguments-smaller : goal.arguments-smaller
arguments-smaller c =
    let l : c.len.result ≡ length c.arguments.args.items = omega (arith, c.len.ensures, c.arguments.args.ok.0) in
    let raw = raw_at (texts_of c.args.spot.now) (forms_of c.args.spot.now) c.args.at.0 in
    let e = subst (λ (k : ℕ). raws_past k (arguments raw) ≡ more (raw_at (texts_of c.args.spot.now) (forms_of c.args.spot.now) c.in-Some.arg.0)
    (raws_past (suc k) (arguments raw)))
    l (c.in-Some.ensures (texts_of c.args.spot.now)).1 in
    let n : length c.push.new.self.items ≡ suc (length c.arguments.args.items) =
    ap length c.in_ok-push.ensures.items ∙ (length-append c.arguments.args.items (c.in_ok-put.put ∷ []) ∙ omega arith) in
    subst (λ (k : ℕ). weights (raws_past k (arguments raw)) < weights (raws_past (length c.arguments.args.items) (arguments raw))) (sym n)
    (less_more (arguments raw) (length c.arguments.args.items) (raw_at (texts_of c.args.spot.now) (forms_of c.args.spot.now) c.in-Some.arg.0) e)

pub arguments-preserved : goal.arguments-preserved
arguments-preserved c =
    let a = around c.args.spot.now.place c.args.spot.now.binders.now.scope in
    let s : Site = record { texts = (texts_of c.args.spot.now); forms = (forms_of c.args.spot.now); around = a } in
    let target : Read (List Term) = built_terms a (met_of (texts_of c.args.spot.now) c.args.met.now)
    (arguments (raw_at (texts_of c.args.spot.now) (forms_of c.args.spot.now) c.args.at.0)) in
    let l : c.len.result ≡ length c.arguments.args.items = omega (arith, c.len.ensures, c.arguments.args.ok.0) in
    let raw = raw_at (texts_of c.args.spot.now) (forms_of c.args.spot.now) c.args.at.0 in
    let e = subst (λ (k : ℕ). raws_past k (arguments raw) ≡ more (raw_at (texts_of c.args.spot.now) (forms_of c.args.spot.now) c.in-Some.arg.0)
    (raws_past (suc k) (arguments raw)))
    l (c.in-Some.ensures (texts_of c.args.spot.now)).1 in
    args_more s target c.args.bank.now c.args.at.0 c.arguments.bank c.term.new.bank c.arguments.args.items c.push.new.self.items
    (met_of (texts_of c.args.spot.now) c.arguments.met) (met_of (texts_of c.args.spot.now) c.term.new.met) c.in-Some.arg c.in_ok-put.put
    c.arguments.invariant e c.in_ok-put.ensures.shows c.in_ok-put.ensures.met c.in_ok-put.ensures.keeps c.in_ok-push.ensures.items

pub returns-in_err-push-clause-inside : goal.returns-in_err-push-clause-inside
returns-in_err-push-clause-inside c = IfOk-from_err c.from_residual-in_err-push.result _ c.from_residual-in_err-push.ensures.0

pub returns-in_err-push-clause-met : goal.returns-in_err-push-clause-met
returns-in_err-push-clause-met c = IfOk-from_err c.from_residual-in_err-push.result _ c.from_residual-in_err-push.ensures.0

pub returns-in_err-push-clause-show : goal.returns-in_err-push-clause-show
returns-in_err-push-clause-show c = IfOk-from_err c.from_residual-in_err-push.result _ c.from_residual-in_err-push.ensures.0

pub returns-in_err-put-clause-inside : goal.returns-in_err-put-clause-inside
returns-in_err-put-clause-inside c = IfOk-from_err c.from_residual.result _ c.from_residual.ensures.0

pub returns-in_err-put-clause-met : goal.returns-in_err-put-clause-met
returns-in_err-put-clause-met c = IfOk-from_err c.from_residual.result _ c.from_residual.ensures.0

pub returns-in_err-put-clause-show : goal.returns-in_err-put-clause-show
returns-in_err-put-clause-show c = IfOk-from_err c.from_residual.result _ c.from_residual.ensures.0

pub argument-requires : goal.argument-requires
argument-requires c = c.requires.ready.inside

pub term-requires-clause-stands : goal.term-requires-clause-stands
term-requires-clause-stands c = c.requires.stands

pub returns-in_err-put-clause-keeps : goal.returns-in_err-put-clause-keeps
returns-in_err-put-clause-keeps c = Extends-trans c.arguments.invariant.keeps c.term.ensures.keeps

pub returns-in_err-push-clause-keeps : goal.returns-in_err-push-clause-keeps
returns-in_err-push-clause-keeps c = Extends-trans c.arguments.invariant.keeps c.term.ensures.keeps

pub returns-clause-inside : goal.returns-clause-inside
returns-clause-inside c = c.arguments.invariant.inside

pub returns-clause-keeps : goal.returns-clause-keeps
returns-clause-keeps c = c.arguments.invariant.keeps

pub returns-clause-show : goal.returns-clause-show
returns-clause-show c =
    let a = around c.args.spot.now.place c.args.spot.now.binders.now.scope in
    let s : Site = record { texts = (texts_of c.args.spot.now); forms = (forms_of c.args.spot.now); around = a } in
    let target : Read (List Term) = built_terms a (met_of (texts_of c.args.spot.now) c.args.met.now)
    (arguments (raw_at (texts_of c.args.spot.now) (forms_of c.args.spot.now) c.args.at.0)) in
    let l : c.len.result ≡ length c.arguments.args.items = omega (arith, c.len.ensures, c.arguments.args.ok.0) in
    let raw = raw_at (texts_of c.args.spot.now) (forms_of c.args.spot.now) c.args.at.0 in
    (args_end s target c.args.bank.now c.args.at.0 c.arguments.bank c.arguments.args.items (met_of (texts_of c.args.spot.now) c.arguments.met)
    c.arguments.invariant
    (subst (λ (k : ℕ). raws_past k (arguments raw) ≡ none) l (c.in_default.ensures (texts_of c.args.spot.now)))).0

pub returns-clause-met : goal.returns-clause-met
returns-clause-met c =
    let a = around c.args.spot.now.place c.args.spot.now.binders.now.scope in
    let s : Site = record { texts = (texts_of c.args.spot.now); forms = (forms_of c.args.spot.now); around = a } in
    let target : Read (List Term) = built_terms a (met_of (texts_of c.args.spot.now) c.args.met.now)
    (arguments (raw_at (texts_of c.args.spot.now) (forms_of c.args.spot.now) c.args.at.0)) in
    let l : c.len.result ≡ length c.arguments.args.items = omega (arith, c.len.ensures, c.arguments.args.ok.0) in
    let raw = raw_at (texts_of c.args.spot.now) (forms_of c.args.spot.now) c.args.at.0 in
    (args_end s target c.args.bank.now c.args.at.0 c.arguments.bank c.arguments.args.items (met_of (texts_of c.args.spot.now) c.arguments.met)
    c.arguments.invariant
    (subst (λ (k : ℕ). raws_past k (arguments raw) ≡ none) l (c.in_default.ensures (texts_of c.args.spot.now)))).1
