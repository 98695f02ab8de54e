-- What a piece owes once a batch was split off its engine.
use Rattle.std.proofs.Common.{◌≡◌, ◌<◌, List, [], ◌∷◌, ◌++◌, length, refl, sym, ap, ◌∙◌, subst, arith, append_assoc, append-nil, Option, Some, None}
use Rattle.std.proofs.Common.{◌≤◌, le_refl, le_trans, IsSomeAnd}
use Rattle.std.specs.Arc.{arc_value}
use Rattle.std.specs.declared.sync.Arc.{Arc}
use Rattle.std.specs.declared.alloc.Global.{Global}
use Rattle.std.proofs.Math.ListN.{length-append}
use Rattle.ll_list_laws.proofs.CallerLemmas.{some_is as some_of}
use Rattle.ll_laws.specs.declared.Event.{Event}
use Rattle.ll_laws.specs.Search.{cut_count}
use Rattle.ll_pool.specs.Turns.{EndsWith, IsRest}
use Rattle.ll_pool.specs.declared.data.OpenPiece.{OpenPiece}
use Rattle.ll_freeze.specs.Frozen.{FrozenSight, alternatives_in}
use Rattle.ll_engine.specs.Seen.{Owing}
use Rattle.ll_engine.specs.Splits.{Splits, SplitsTo}
use Rattle.ll_crew.specs.Runs.{SharesTo}
use Rattle.ll_crew.specs.declared.piece.Shared.{Shared}
use Rattle.ll_crew.specs.declared.piece.Shared.TheVariants.{Published}
use Rattle.ll_crew.specs.Alternatives.{events_in, cost_in}
use Rattle.ll_crew.specs.Pieces.{Owes, OwesAll, OwesAfter}

cancel_right : {X : Type 0} (xs ys zs : List X) → xs ++ zs ≡ ys ++ zs → xs ≡ ys
cancel_right [] [] zs e = refl
cancel_right [] (y ∷ ys) zs e = absurd (let l = ap length e in let a = length-append ys zs in omega arith)
cancel_right (x ∷ xs) [] zs e = absurd (let l = ap length e in let a = length-append xs zs in omega arith)
cancel_right (x ∷ xs) (y ∷ ys) zs e =
    let h : x ≡ y = cc in let t : xs ++ zs ≡ ys ++ zs = cc in
    λ i. h i ∷ cancel_right xs ys zs t i

pub split_some : (old new : Owing) (o : Option FrozenSight) (b : FrozenSight) → o ≡ Some b → Splits old o new → SplitsTo old b new
split_some old new o b e s = subst (λ x. Splits old x new) e s

module _ (events : List Event) (old new : Owing) (b : FrozenSight) (s : SplitsTo old b new) where
  whole_events : (x : OpenPiece) → Owes x events old [] → x.owes.events ≡ (events ++ new.events) ++ events_in (alternatives_in b)
  whole_events x h = h.events ∙ (ap (λ l. events ++ l) (append-nil old.events ∙ s.events)
      ∙ sym (append_assoc events new.events (events_in (alternatives_in b))))

  pub ends_for : (piece : Option OpenPiece) → OwesAll piece events old [] → IsSomeAnd piece (λ (x : OpenPiece). EndsWith x.owes (alternatives_in b))
  ends_for None h = absurd h
  ends_for (Some x) h = let c = h.cost in let d = s.cost in record { rest = events ++ new.events; events = whole_events x h; cost = omega arith }

  rest_owes : (whole rest : OpenPiece) → Owes whole events old [] → IsRest (alternatives_in b) whole rest → Owes rest events new []
  rest_owes whole rest h r =
      let c = h.cost in let d = s.cost in let e = r.cost in
      record {
        done = h.done;
        events = cancel_right rest.owes.events (events ++ new.events) (events_in (alternatives_in b)) (r.events ∙ whole_events whole h)
            ∙ ap (λ l. events ++ l) (sym (append-nil new.events));
        cost = omega arith;
        made = ap cut_count s.made ∙ h.made;
      }

  pub shared_after : (before after : Option OpenPiece) → OwesAll before events old []
      → IsSomeAnd before (λ (whole : OpenPiece). IsSomeAnd after (λ (rest : OpenPiece). IsRest (alternatives_in b) whole rest))
      → OwesAfter after events old new None
  shared_after None after h g = absurd h
  shared_after (Some whole) None h g = absurd g
  shared_after (Some whole) (Some rest) h g = record { owes = rest_owes whole rest h g; problem = s.problem; work = s.work; of = λ batch e. absurd (cc) }

  back_owes : (x : OpenPiece) (batch : Arc FrozenSight Global) → arc_value batch ≡ b → Owes x events old []
      → Owes x events new (alternatives_in (arc_value batch))
  back_owes x batch e h =
      let c = h.cost in let d = s.cost in let same : cost_in (alternatives_in (arc_value batch)) ≡ cost_in (alternatives_in b) =
      ap (λ n. cost_in (alternatives_in n)) e in
      record {
        done = h.done;
        events = whole_events x h ∙ (append_assoc events new.events (events_in (alternatives_in b))
            ∙ ap (λ n. events ++ (new.events ++ events_in (alternatives_in n))) (sym e));
        cost = omega arith;
        made = ap cut_count s.made ∙ h.made;
      }

  pub back_after : (before after : Option OpenPiece) (batch : Arc FrozenSight Global) → OwesAll before events old [] → after ≡ before → arc_value batch ≡ b
      → OwesAfter after events old new (Some batch)
  back_after None after batch h e is = absurd h
  back_after (Some x) after batch h e is = subst (λ a. OwesAfter a events old new (Some batch)) (sym e) (record {
    owes = back_owes x batch is h;
    problem = s.problem;
    work = s.work;
    of = λ other f. let same : batch ≡ other = some_of batch other f in
        ap (λ (n : Arc FrozenSight Global). (arc_value n).problem) (sym same) ∙ (ap (λ (n : FrozenSight). n.problem) is ∙ s.of);
  })

-- where nothing was split off the piece owes what it did
pub nothing_after : (piece : Option OpenPiece) (events : List Event) (old new : Owing) (o : Option FrozenSight) → o ≡ None → Splits old o new
    → OwesAll piece events old [] → OwesAfter piece events old new None
nothing_after piece events old new o e s owes =
    let same : new ≡ old = (subst (λ x. Splits old x new) e s).0 in
    subst (λ n. OwesAfter piece events old n None) (sym same) (record {
      owes = owes;
      problem = refl;
      work = le_refl old.work;
      of = λ batch f. absurd (cc);
    })

-- the oldest choice point was published
pub published : (piece : Option OpenPiece) (events : List Event) (old new : Owing) (shared : Shared) → shared ≡ Published → SharesTo piece events old new shared
    → OwesAfter piece events old new None × (new.points < old.points)
published piece events old new shared e h = subst (SharesTo piece events old new) e h

pub shares_as : (piece : Option OpenPiece) (events : List Event) (old new : Owing) (shared shared' : Shared) → shared ≡ shared'
    → SharesTo piece events old new shared → SharesTo piece events old new shared'
shares_as piece events old new shared shared' e h = subst (SharesTo piece events old new) e h

-- after some sharings, and one more
pub after_on : (piece : Option OpenPiece) (events : List Event) (old now new : Owing) (back : Option (Arc FrozenSight Global))
    → now.problem ≡ old.problem → now.work ≤ old.work → OwesAfter piece events now new back → OwesAfter piece events old new back
after_on piece events old now new back same less o = record {
  owes = o.owes;
  problem = o.problem ∙ same;
  work = le_trans o.work less;
  of = λ batch e. o.of batch e ∙ same;
}
