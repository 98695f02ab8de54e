use Rattle.std.proofs.Common.{◌≡◌, ℕ, suc, ◌+◌, ◌*◌, ◌<◌, ◌≤◌, List, length, refl, sym, subst, ap, arith, rules}
use Rattle.std.proofs.lemmas.Result.{IfOk-from_err}
use Rattle.std.specs.Prelude.{◌^◌, unwrap_or}
use Rattle.ll_bank.specs.Form.{One, Top}
use Rattle.ll_bank.proofs.CallerLemmas.{Extends-refl}
use Rattle.ll_parser.specs.Nodes.{raw_at, raws_in, raw_trees}
use Rattle.ll_parser.specs.Seen.{places}
use Rattle.ll_parser.specs.Raw.{raw_place}
use Rattle.ll_parser.specs.Weights.{weight}
use Rattle.ll_polarity.specs.declared.put_forms.Frame.TheVariants as frame
use Rattle.ll_polarity.specs.Named.{IsNamed}
use Rattle.ll_polarity.specs.Built.{IsNumberGoal}
use Rattle.ll_polarity.specs.Standing.{around, met_of}
use Rattle.ll_polarity.specs.Grounds.{ground}
use Rattle.ll_polarity.proofs.naming.Named.{number-within}
use Rattle.ll_polarity.proofs.putting.Framing.{always, part_ready, two_below, begun_gives, begun_read, stands_entered, scope_entered, around_entered}
use Rattle.ll_polarity.proofs.put_forms.begun.Goals as goal

one_more : (n : ℕ) → n ≤ n + 1
one_more n = omega arith

-- less is left to do in a part, and in a left operand
part_less : (n : ℕ) → 1 + 5 * n < 5 * suc n
part_less n = omega arith

left_less : (m n : ℕ) → 1 + 5 * n + 5 * m < 5 * suc (m + n)
left_less m n = omega arith

-- the number of quantifiers round a part fits with one more
low_depth : (depth scope q w left : ℕ) → depth ≤ scope → scope + q + 5 * w < 2 ^ 32 → w ≡ suc left → depth < 4294967295
low_depth depth scope q w left h k more = omega arith

pub goes_in-requires-clause-name : goal.goes_in-requires-clause-name
goes_in-requires-clause-name c =
    let texts = c.args.text.now.names.now in
    subst (λ (ts : List (List ℕ)). c.in-Forall.name.name < length ts) (sym c.requires.stands.same)
    (number-within texts c.in-Forall.name (subst IsNamed (c.in-Forall.ensures.tree texts) c.requires.ready.named).0)

pub goes_in-requires-clause-depth : goal.goes_in-requires-clause-depth
goes_in-requires-clause-depth c =
    low_depth c.args.fronts.now.place.depth (length c.args.binders.now.scope) (unwrap_or c.args.fronts.now.place.quantified 0)
    (weight (raw_at c.args.text.now.names.now c.args.text.now.forms.now c.args.at.0))
    (weight (raw_at c.args.text.now.names.now c.args.text.now.forms.now c.in-Forall.body.0)) c.requires.stands.depth c.requires.high
    (ap weight (c.in-Forall.ensures.tree c.args.text.now.names.now))

pub goes_in-requires-in-Exists-clause-name : goal.goes_in-requires-in-Exists-clause-name
goes_in-requires-in-Exists-clause-name c =
    let texts = c.args.text.now.names.now in
    subst (λ (ts : List (List ℕ)). c.in-Exists.name.name < length ts) (sym c.requires.stands.same)
    (number-within texts c.in-Exists.name (subst IsNamed (c.in-Exists.ensures.tree texts) c.requires.ready.named).0)

pub goes_in-requires-in-Exists-clause-depth : goal.goes_in-requires-in-Exists-clause-depth
goes_in-requires-in-Exists-clause-depth c =
    low_depth c.args.fronts.now.place.depth (length c.args.binders.now.scope) (unwrap_or c.args.fronts.now.place.quantified 0)
    (weight (raw_at c.args.text.now.names.now c.args.text.now.forms.now c.args.at.0))
    (weight (raw_at c.args.text.now.names.now c.args.text.now.forms.now c.in-Exists.body.0)) c.requires.stands.depth c.requires.high
    (ap weight (c.in-Exists.ensures.tree c.args.text.now.names.now))

pub loads-requires-clause-name : goal.loads-requires-clause-name
loads-requires-clause-name c =
    let texts = c.args.text.now.names.now in
    number-within texts c.in-Load.name (subst IsNamed (c.in-Load.ensures.tree texts) c.requires.ready.named).0

pub loads-requires-clause-goal : goal.loads-requires-clause-goal
loads-requires-clause-goal c = c.in-Load.ensures.parts.1

pub returns-in-True : goal.returns-in-True
returns-in-True c =
    let texts = c.args.text.now.names.now in let a = around c.args.fronts.now.place c.args.binders.now.scope in let met = met_of texts c.args.met.now in
    record {
      step = begun_gives c.gives.result (ground c.args.text.now) c.gives.new.bank a met met c.args.fronts.now.frames.items One (c.in-True.ensures.tree texts)
          refl
          (two_below 0) c.gives.ensures.step;
      stands = always c.gives.result _ c.requires.stands;
      scope = always c.gives.result _ (one_more (length c.args.binders.now.scope));
      keeps = c.gives.ensures.keeps;
    }

pub returns-in-Erase : goal.returns-in-Erase
returns-in-Erase c =
    let texts = c.args.text.now.names.now in let a = around c.args.fronts.now.place c.args.binders.now.scope in let met = met_of texts c.args.met.now in
    record {
      step = begun_gives c.gives-in-Erase.result (ground c.args.text.now) c.gives-in-Erase.new.bank a met met c.args.fronts.now.frames.items Top
          (c.in-Erase.ensures.tree texts) refl
          (two_below 0) c.gives-in-Erase.ensures.step;
      stands = always c.gives-in-Erase.result _ c.requires.stands;
      scope = always c.gives-in-Erase.result _ (one_more (length c.args.binders.now.scope));
      keeps = c.gives-in-Erase.ensures.keeps;
    }

pub returns-in-Braces : goal.returns-in-Braces
returns-in-Braces c =
    let texts = c.args.text.now.names.now in let a = around c.args.fronts.now.place c.args.binders.now.scope in let met = met_of texts c.args.met.now in
    record {
      step = begun_read c.waits.result (ground c.args.text.now) c.args.bank.now a a met met c.args.fronts.now.frames.items c.waits.new.frames.items
          (frame.Braces) c.in-Braces.goal (c.in-Braces.ensures.tree texts) refl tt
          (part_ready texts c.args.text.now.forms.now c.args.at.0 c.in-Braces.goal.0 c.in-Braces.ensures.parts c.requires.ready.inside
          (subst IsNamed (c.in-Braces.ensures.tree texts) c.requires.ready.named)) (part_less (weight (raw_at texts c.args.text.now.forms.now
          c.in-Braces.goal.0)))
          c.waits.ensures.step c.waits.ensures.frames (always c.waits.result _ refl);
      stands = always c.waits.result _ c.requires.stands;
      scope = always c.waits.result _ (one_more (length c.args.binders.now.scope));
      keeps = Extends-refl c.args.bank.now;
    }

pub returns-in-Forall : goal.returns-in-Forall
returns-in-Forall c =
    let texts = c.args.text.now.names.now in let a = around c.args.fronts.now.place c.args.binders.now.scope in let met = met_of texts c.args.met.now in
    record {
      step = begun_read c.goes_in.result (ground c.args.text.now) c.args.bank.now a (around c.goes_in.new.fronts.place c.goes_in.new.binders.scope) met met
          c.args.fronts.now.frames.items c.goes_in.new.fronts.frames.items
          (frame.Forall c.in-Forall.name.name) c.in-Forall.body (c.in-Forall.ensures.tree texts) refl tt
          (part_ready texts c.args.text.now.forms.now c.args.at.0 c.in-Forall.body.0 c.in-Forall.ensures.parts c.requires.ready.inside
          (subst IsNamed (c.in-Forall.ensures.tree texts) c.requires.ready.named).1) (part_less (weight (raw_at texts c.args.text.now.forms.now
          c.in-Forall.body.0)))
          c.goes_in.ensures.step c.goes_in.ensures.frames (around_entered c.goes_in.result c.args.fronts.now.place c.goes_in.new.fronts.place c.args.binders.now
          c.goes_in.new.binders texts
          c.in-Forall.name.name c.goes_in.ensures.place c.goes_in.ensures.binders c.requires.stands.same);
      stands = stands_entered c.goes_in.result texts c.args.fronts.now.place c.goes_in.new.fronts.place c.args.binders.now c.goes_in.new.binders
          c.in-Forall.name.name
          (weight (raw_at texts c.args.text.now.forms.now c.args.at.0)) (weight (raw_at texts c.args.text.now.forms.now c.in-Forall.body.0))
          c.requires.stands c.goes_in.ensures.place
          c.goes_in.ensures.binders c.requires.high (ap weight (c.in-Forall.ensures.tree texts));
      scope = scope_entered c.goes_in.result c.args.binders.now c.goes_in.new.binders c.in-Forall.name.name c.goes_in.ensures.binders;
      keeps = Extends-refl c.args.bank.now;
    }

pub returns-in-Exists : goal.returns-in-Exists
returns-in-Exists c =
    let texts = c.args.text.now.names.now in let a = around c.args.fronts.now.place c.args.binders.now.scope in let met = met_of texts c.args.met.now in
    record {
      step = begun_read c.goes_in-in-Exists.result (ground c.args.text.now) c.args.bank.now a (around c.goes_in-in-Exists.new.fronts.place
          c.goes_in-in-Exists.new.binders.scope) met met c.args.fronts.now.frames.items c.goes_in-in-Exists.new.fronts.frames.items
          (frame.Exists c.in-Exists.name.name) c.in-Exists.body (c.in-Exists.ensures.tree texts) refl tt
          (part_ready texts c.args.text.now.forms.now c.args.at.0 c.in-Exists.body.0 c.in-Exists.ensures.parts c.requires.ready.inside
          (subst IsNamed (c.in-Exists.ensures.tree texts) c.requires.ready.named).1) (part_less (weight (raw_at texts c.args.text.now.forms.now
          c.in-Exists.body.0)))
          c.goes_in-in-Exists.ensures.step c.goes_in-in-Exists.ensures.frames (around_entered c.goes_in-in-Exists.result c.args.fronts.now.place
          c.goes_in-in-Exists.new.fronts.place c.args.binders.now c.goes_in-in-Exists.new.binders texts
          c.in-Exists.name.name c.goes_in-in-Exists.ensures.place c.goes_in-in-Exists.ensures.binders c.requires.stands.same);
      stands = stands_entered c.goes_in-in-Exists.result texts c.args.fronts.now.place c.goes_in-in-Exists.new.fronts.place c.args.binders.now
          c.goes_in-in-Exists.new.binders c.in-Exists.name.name
          (weight (raw_at texts c.args.text.now.forms.now c.args.at.0)) (weight (raw_at texts c.args.text.now.forms.now c.in-Exists.body.0))
          c.requires.stands c.goes_in-in-Exists.ensures.place
          c.goes_in-in-Exists.ensures.binders c.requires.high (ap weight (c.in-Exists.ensures.tree texts));
      scope = scope_entered c.goes_in-in-Exists.result c.args.binders.now c.goes_in-in-Exists.new.binders c.in-Exists.name.name
          c.goes_in-in-Exists.ensures.binders;
      keeps = Extends-refl c.args.bank.now;
    }

pub loads-requires-clause-load : goal.loads-requires-clause-load
loads-requires-clause-load c =
    let texts = c.args.text.now.names.now in (
      raw_place (raw_at texts c.args.text.now.forms.now c.args.at.0),
      raws_in (raw_trees texts c.args.text.now.forms.now) (places c.in-Load.field-1.now),
      c.in-Load.ensures.tree texts,
    )

pub returns-in-Load : goal.returns-in-Load
returns-in-Load c =
    let texts = c.args.text.now.names.now in let a = around c.args.fronts.now.place c.args.binders.now.scope in let met = met_of texts c.args.met.now in
    record {
      step = c.loads.ensures.step;
      stands = always c.loads.result _ c.requires.stands;
      scope = always c.loads.result _ (one_more (length c.args.binders.now.scope));
      keeps = c.loads.ensures.keeps;
    }

pub returns-in-Binary : goal.returns-in-Binary
returns-in-Binary c =
    let texts = c.args.text.now.names.now in let a = around c.args.fronts.now.place c.args.binders.now.scope in let met = met_of texts c.args.met.now in
    record {
      step = begun_read c.waits-in-Binary.result (ground c.args.text.now) c.args.bank.now a a met met c.args.fronts.now.frames.items
          c.waits-in-Binary.new.frames.items
          (frame.Left c.in-Binary.op c.in-Binary.right) c.in-Binary.left (c.in-Binary.ensures.tree texts) refl
          (part_ready texts c.args.text.now.forms.now c.args.at.0 c.in-Binary.right.0 c.in-Binary.ensures.parts.1 c.requires.ready.inside
          (subst IsNamed (c.in-Binary.ensures.tree texts) c.requires.ready.named).1)
          (part_ready texts c.args.text.now.forms.now c.args.at.0 c.in-Binary.left.0 c.in-Binary.ensures.parts.0 c.requires.ready.inside
          (subst IsNamed (c.in-Binary.ensures.tree texts) c.requires.ready.named).0) (left_less (weight (raw_at texts c.args.text.now.forms.now
          c.in-Binary.left.0)) (weight (raw_at texts c.args.text.now.forms.now c.in-Binary.right.0)))
          c.waits-in-Binary.ensures.step c.waits-in-Binary.ensures.frames (always c.waits-in-Binary.result _ refl);
      stands = always c.waits-in-Binary.result _ c.requires.stands;
      scope = always c.waits-in-Binary.result _ (one_more (length c.args.binders.now.scope));
      keeps = Extends-refl c.args.bank.now;
    }

pub number_goal-requires-clause-number : goal.number_goal-requires-clause-number
number_goal-requires-clause-number c = subst IsNumberGoal (sym (c.in-Is.ensures.tree c.args.text.now.names.now)) tt

pub returns-in-Is : goal.returns-in-Is
returns-in-Is c = record {
  step = c.number_goal.ensures.step c.args.fronts.now.frames.items;
  stands = always c.number_goal.result _ c.requires.stands;
  scope = always c.number_goal.result _ (one_more (length c.args.binders.now.scope));
  keeps = c.number_goal.ensures.keeps;
}

pub number_goal-requires-in-Less-clause-number : goal.number_goal-requires-in-Less-clause-number
number_goal-requires-in-Less-clause-number c = subst IsNumberGoal (sym (c.in-Less.ensures.tree c.args.text.now.names.now)) tt

pub returns-in-Less : goal.returns-in-Less
returns-in-Less c = record {
  step = c.number_goal-in-Less.ensures.step c.args.fronts.now.frames.items;
  stands = always c.number_goal-in-Less.result _ c.requires.stands;
  scope = always c.number_goal-in-Less.result _ (one_more (length c.args.binders.now.scope));
  keeps = c.number_goal-in-Less.ensures.keeps;
}

pub number_goal-requires-in-Most-clause-number : goal.number_goal-requires-in-Most-clause-number
number_goal-requires-in-Most-clause-number c = subst IsNumberGoal (sym (c.in-Most.ensures.tree c.args.text.now.names.now)) tt

pub returns-in-Most : goal.returns-in-Most
returns-in-Most c = record {
  step = c.number_goal-in-Most.ensures.step c.args.fronts.now.frames.items;
  stands = always c.number_goal-in-Most.result _ c.requires.stands;
  scope = always c.number_goal-in-Most.result _ (one_more (length c.args.binders.now.scope));
  keeps = c.number_goal-in-Most.ensures.keeps;
}

pub returns-in_err-form-in-Head-clause-scope : goal.returns-in_err-form-in-Head-clause-scope
returns-in_err-form-in-Head-clause-scope c = IfOk-from_err c.from_residual.result _ c.from_residual.ensures.0

pub returns-in_err-form-in-Head-clause-stands : goal.returns-in_err-form-in-Head-clause-stands
returns-in_err-form-in-Head-clause-stands c = IfOk-from_err c.from_residual.result _ c.from_residual.ensures.0

pub returns-in_err-form-in-Head-clause-step : goal.returns-in_err-form-in-Head-clause-step
returns-in_err-form-in-Head-clause-step c = IfOk-from_err c.from_residual.result _ c.from_residual.ensures.0

pub node-requires : goal.node-requires
node-requires c = c.requires.ready.inside

pub loads-requires-clause-stands : goal.loads-requires-clause-stands
loads-requires-clause-stands c = c.requires.stands

pub loads-requires-clause-ready : goal.loads-requires-clause-ready
loads-requires-clause-ready c = c.requires.ready

pub loads-requires-clause-room : goal.loads-requires-clause-room
loads-requires-clause-room c = c.requires.room

pub atom-requires-clause-stands : goal.atom-requires-clause-stands
atom-requires-clause-stands c = c.requires.stands

pub atom-requires-clause-ready : goal.atom-requires-clause-ready
atom-requires-clause-ready c = c.requires.ready

pub returns-in_err-form-in-Head-clause-keeps : goal.returns-in_err-form-in-Head-clause-keeps
returns-in_err-form-in-Head-clause-keeps c = c.atom.ensures.keeps

pub number_goal-requires-clause-stands : goal.number_goal-requires-clause-stands
number_goal-requires-clause-stands c = c.requires.stands

pub number_goal-requires-clause-ready : goal.number_goal-requires-clause-ready
number_goal-requires-clause-ready c = c.requires.ready

pub number_goal-requires-clause-room : goal.number_goal-requires-clause-room
number_goal-requires-clause-room c = c.requires.room

pub number_goal-requires-in-Less-clause-stands : goal.number_goal-requires-in-Less-clause-stands
number_goal-requires-in-Less-clause-stands c = c.requires.stands

pub number_goal-requires-in-Less-clause-ready : goal.number_goal-requires-in-Less-clause-ready
number_goal-requires-in-Less-clause-ready c = c.requires.ready

pub number_goal-requires-in-Less-clause-room : goal.number_goal-requires-in-Less-clause-room
number_goal-requires-in-Less-clause-room c = c.requires.room

pub number_goal-requires-in-Most-clause-stands : goal.number_goal-requires-in-Most-clause-stands
number_goal-requires-in-Most-clause-stands c = c.requires.stands

pub number_goal-requires-in-Most-clause-ready : goal.number_goal-requires-in-Most-clause-ready
number_goal-requires-in-Most-clause-ready c = c.requires.ready

pub number_goal-requires-in-Most-clause-room : goal.number_goal-requires-in-Most-clause-room
number_goal-requires-in-Most-clause-room c = c.requires.room

pub returns-in_ok-form-in-Head-clause-step : goal.returns-in_ok-form-in-Head-clause-step
returns-in_ok-form-in-Head-clause-step c = search rules

pub returns-in_ok-form-in-Head-clause-stands : goal.returns-in_ok-form-in-Head-clause-stands
returns-in_ok-form-in-Head-clause-stands c = c.requires.stands

pub returns-in_ok-form-in-Head-clause-scope : goal.returns-in_ok-form-in-Head-clause-scope
returns-in_ok-form-in-Head-clause-scope c = one_more (length c.args.binders.now.scope)

pub returns-in_ok-form-in-Head-clause-keeps : goal.returns-in_ok-form-in-Head-clause-keeps
returns-in_ok-form-in-Head-clause-keeps c = c.atom.ensures.keeps
