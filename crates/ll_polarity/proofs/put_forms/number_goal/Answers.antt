use Rattle.std.proofs.Common.{◌≡◌, ℕ, ◌+◌, List, refl, subst}
use Rattle.ll_bank.specs.Form.{Num, Is, Less, Most}
use Rattle.ll_bank.specs.Nodes.{term_tree}
use Rattle.ll_bank.proofs.CallerLemmas.{Extends-trans}
use Rattle.ll_lexer.specs.declared.Place.{Place}
use Rattle.ll_parser.specs.Nodes.{raw_at, raw_trees, build_raw}
use Rattle.ll_parser.specs.declared.RawAt.{RawAt}
use Rattle.ll_parser.specs.declared.RawNode.{RawNode}
use Rattle.ll_parser.specs.declared.RawNode.TheVariants as seen
use Rattle.ll_parser.specs.Seen.{node_of}
use Rattle.ll_parser.specs.Raw.{Raw, raw_place}
use Rattle.ll_parser.specs.Weights.{weight}
use Rattle.ll_polarity.specs.Named.{IsNamed}
use Rattle.ll_polarity.specs.Built.{IsNumberGoal, built_form}
use Rattle.ll_polarity.specs.Places.{place_in}
use Rattle.ll_polarity.specs.Standing.{around, met_of, HasRoom}
use Rattle.ll_polarity.specs.Grounds.{ground}
use Rattle.ll_polarity.proofs.putting.Framing.{part_ready, two_below, begun_gives, sides_read}
use Rattle.ll_polarity.specs.Spots.{texts_of, forms_of}
use Rattle.ll_polarity.proofs.put_forms.number_goal.Goals as goal

not_other : (texts : List (List ℕ)) (trees : List Raw) (at : Place) (v : RawNode) → ((l r : RawAt) → v ≡ seen.Is l r → ⊥)
    → ((l r : RawAt) → v ≡ seen.Less l r → ⊥) → ((l r : RawAt) → v ≡ seen.Most l r → ⊥) → IsNumberGoal (build_raw texts trees (node_of at v)) → ⊥
not_other texts trees at seen.True a b c h = h
not_other texts trees at seen.Erase a b c h = h
not_other texts trees at (seen.Braces g) a b c h = h
not_other texts trees at (seen.Forall n g) a b c h = h
not_other texts trees at (seen.Exists n g) a b c h = h
not_other texts trees at (seen.Load n args g) a b c h = h
not_other texts trees at (seen.Binary o l r) a b c h = h
not_other texts trees at (seen.Head n args) a b c h = h
not_other texts trees at seen.Any a b c h = h
not_other texts trees at (seen.Int z) a b c h = h
not_other texts trees at (seen.Is l r) a b c h = a l r refl
not_other texts trees at (seen.Less l r) a b c h = b l r refl
not_other texts trees at (seen.Most l r) a b c h = c l r refl

pub unreachable-requires : goal.unreachable-requires
unreachable-requires c =
    let texts = (texts_of c.args.spot.now) in
    not_other texts (raw_trees texts (forms_of c.args.spot.now)) (raw_place (raw_at texts (forms_of c.args.spot.now) c.args.at.0)) c.node.result
    c.in_default.not-Is c.in_default.not-Less c.in_default.not-Most (subst IsNumberGoal (c.node.ensures.tree texts) c.requires.number)

pub both_sides-requires-clause-left : goal.both_sides-requires-clause-left
both_sides-requires-clause-left c =
    let texts = (texts_of c.args.spot.now) in
    part_ready texts (forms_of c.args.spot.now) c.args.at.0 c.in-Is.left.0 c.in-Is.ensures.parts.0 c.requires.ready.inside
    (subst IsNamed (c.in-Is.ensures.tree texts) c.requires.ready.named).0

pub both_sides-requires-clause-right : goal.both_sides-requires-clause-right
both_sides-requires-clause-right c =
    let texts = (texts_of c.args.spot.now) in
    part_ready texts (forms_of c.args.spot.now) c.args.at.0 c.in-Is.right.0 c.in-Is.ensures.parts.1 c.requires.ready.inside
    (subst IsNamed (c.in-Is.ensures.tree texts) c.requires.ready.named).1

pub both_sides-requires-clause-room : goal.both_sides-requires-clause-room
both_sides-requires-clause-room c =
    let texts = (texts_of c.args.spot.now) in
    subst (λ (r : Raw). HasRoom (built_form (place_in c.args.spot.now.text.now.modules.now.places)
    (around c.args.spot.now.place c.args.spot.now.binders.now.scope)
    (met_of texts c.args.met.now) r).met) (c.in-Is.ensures.tree texts) c.requires.room

pub both_sides-requires-in-Less-clause-left : goal.both_sides-requires-in-Less-clause-left
both_sides-requires-in-Less-clause-left c =
    let texts = (texts_of c.args.spot.now) in
    part_ready texts (forms_of c.args.spot.now) c.args.at.0 c.in-Less.left.0 c.in-Less.ensures.parts.0 c.requires.ready.inside
    (subst IsNamed (c.in-Less.ensures.tree texts) c.requires.ready.named).0

pub both_sides-requires-in-Less-clause-right : goal.both_sides-requires-in-Less-clause-right
both_sides-requires-in-Less-clause-right c =
    let texts = (texts_of c.args.spot.now) in
    part_ready texts (forms_of c.args.spot.now) c.args.at.0 c.in-Less.right.0 c.in-Less.ensures.parts.1 c.requires.ready.inside
    (subst IsNamed (c.in-Less.ensures.tree texts) c.requires.ready.named).1

pub both_sides-requires-in-Less-clause-room : goal.both_sides-requires-in-Less-clause-room
both_sides-requires-in-Less-clause-room c =
    let texts = (texts_of c.args.spot.now) in
    subst (λ (r : Raw). HasRoom (built_form (place_in c.args.spot.now.text.now.modules.now.places)
    (around c.args.spot.now.place c.args.spot.now.binders.now.scope)
    (met_of texts c.args.met.now) r).met) (c.in-Less.ensures.tree texts) c.requires.room

pub both_sides-requires-in-Most-clause-left : goal.both_sides-requires-in-Most-clause-left
both_sides-requires-in-Most-clause-left c =
    let texts = (texts_of c.args.spot.now) in
    part_ready texts (forms_of c.args.spot.now) c.args.at.0 c.in-Most.left.0 c.in-Most.ensures.parts.0 c.requires.ready.inside
    (subst IsNamed (c.in-Most.ensures.tree texts) c.requires.ready.named).0

pub both_sides-requires-in-Most-clause-right : goal.both_sides-requires-in-Most-clause-right
both_sides-requires-in-Most-clause-right c =
    let texts = (texts_of c.args.spot.now) in
    part_ready texts (forms_of c.args.spot.now) c.args.at.0 c.in-Most.right.0 c.in-Most.ensures.parts.1 c.requires.ready.inside
    (subst IsNamed (c.in-Most.ensures.tree texts) c.requires.ready.named).1

pub both_sides-requires-in-Most-clause-room : goal.both_sides-requires-in-Most-clause-room
both_sides-requires-in-Most-clause-room c =
    let texts = (texts_of c.args.spot.now) in
    subst (λ (r : Raw). HasRoom (built_form (place_in c.args.spot.now.text.now.modules.now.places)
    (around c.args.spot.now.place c.args.spot.now.binders.now.scope)
    (met_of texts c.args.met.now) r).met) (c.in-Most.ensures.tree texts) c.requires.room

pub returns-in_ok-sides-in-Is : goal.returns-in_ok-sides-in-Is
returns-in_ok-sides-in-Is c =
    let texts = (texts_of c.args.spot.now) in let a = around c.args.spot.now.place c.args.spot.now.binders.now.scope in let met = met_of texts c.args.met.now in
    record {
      step = λ frames.
          let met' = met_of texts c.both_sides.new.met in let t = term_tree c.both_sides.new.bank c.in_ok-sides-in-Is.sides.left.0 in
          let u = term_tree c.both_sides.new.bank c.in_ok-sides-in-Is.sides.right.0 in
          let l = raw_at texts (forms_of c.args.spot.now) c.in-Is.left.0 in let r = raw_at texts (forms_of c.args.spot.now) c.in-Is.right.0 in
          begun_gives c.gives.result (ground c.args.spot.now.text.now) c.gives.new.bank a met met' frames (Num Is t u)
          (c.in-Is.ensures.tree texts)
          (sides_read Is a met met' l r t u c.in_ok-sides-in-Is.ensures.left.tree c.in_ok-sides-in-Is.ensures.right.tree c.in_ok-sides-in-Is.ensures.met)
          (two_below (weight l + weight r)) c.gives.ensures.step;
      keeps = Extends-trans c.both_sides.ensures.keeps c.gives.ensures.keeps;
    }

pub gives-requires : goal.gives-requires
gives-requires c = (c.in_ok-sides-in-Is.ensures.left.inside, c.in_ok-sides-in-Is.ensures.right.inside)

pub returns-in_ok-sides-in-Less : goal.returns-in_ok-sides-in-Less
returns-in_ok-sides-in-Less c =
    let texts = (texts_of c.args.spot.now) in let a = around c.args.spot.now.place c.args.spot.now.binders.now.scope in let met = met_of texts c.args.met.now in
    record {
      step = λ frames.
          let met' = met_of texts c.both_sides-in-Less.new.met in let t = term_tree c.both_sides-in-Less.new.bank c.in_ok-sides-in-Less.sides.left.0 in
          let u = term_tree c.both_sides-in-Less.new.bank c.in_ok-sides-in-Less.sides.right.0 in
          let l = raw_at texts (forms_of c.args.spot.now) c.in-Less.left.0 in let r = raw_at texts (forms_of c.args.spot.now) c.in-Less.right.0 in
          begun_gives c.gives-in-Less.result (ground c.args.spot.now.text.now) c.gives-in-Less.new.bank a met met' frames (Num Less t u)
          (c.in-Less.ensures.tree texts)
          (sides_read Less a met met' l r t u c.in_ok-sides-in-Less.ensures.left.tree c.in_ok-sides-in-Less.ensures.right.tree
          c.in_ok-sides-in-Less.ensures.met)
          (two_below (weight l + weight r)) c.gives-in-Less.ensures.step;
      keeps = Extends-trans c.both_sides-in-Less.ensures.keeps c.gives-in-Less.ensures.keeps;
    }

pub gives-requires-in-Less : goal.gives-requires-in-Less
gives-requires-in-Less c = (c.in_ok-sides-in-Less.ensures.left.inside, c.in_ok-sides-in-Less.ensures.right.inside)

pub returns-in_ok-sides-in-Most : goal.returns-in_ok-sides-in-Most
returns-in_ok-sides-in-Most c =
    let texts = (texts_of c.args.spot.now) in let a = around c.args.spot.now.place c.args.spot.now.binders.now.scope in let met = met_of texts c.args.met.now in
    record {
      step = λ frames.
          let met' = met_of texts c.both_sides-in-Most.new.met in let t = term_tree c.both_sides-in-Most.new.bank c.in_ok-sides-in-Most.sides.left.0 in
          let u = term_tree c.both_sides-in-Most.new.bank c.in_ok-sides-in-Most.sides.right.0 in
          let l = raw_at texts (forms_of c.args.spot.now) c.in-Most.left.0 in let r = raw_at texts (forms_of c.args.spot.now) c.in-Most.right.0 in
          begun_gives c.gives-in-Most.result (ground c.args.spot.now.text.now) c.gives-in-Most.new.bank a met met' frames (Num Most t u)
          (c.in-Most.ensures.tree texts)
          (sides_read Most a met met' l r t u c.in_ok-sides-in-Most.ensures.left.tree c.in_ok-sides-in-Most.ensures.right.tree
          c.in_ok-sides-in-Most.ensures.met)
          (two_below (weight l + weight r)) c.gives-in-Most.ensures.step;
      keeps = Extends-trans c.both_sides-in-Most.ensures.keeps c.gives-in-Most.ensures.keeps;
    }

pub gives-requires-in-Most : goal.gives-requires-in-Most
gives-requires-in-Most c = (c.in_ok-sides-in-Most.ensures.left.inside, c.in_ok-sides-in-Most.ensures.right.inside)
