-- Terms are put into a bank step by step.
use Rattle.std.proofs.Common.{◌≡◌, ℕ, zero, suc, ◌+◌, ◌*◌, ◌<◌, List, [], ◌∷◌, ◌++◌, length, slice_get, All, Option, Some, None, refl, sym, subst, ap, ◌∙◌}
use Rattle.std.proofs.Common.{arith, length-append, append_assoc}
use Rattle.std.specs.Prelude.{MatchOption}
use Rattle.std.proofs.lemmas.List.{append-nil, map-append}
use Rattle.std.proofs.lemmas.List.Elements.{All-push}
use Rattle.std.proofs.lemmas.Option.{slice_get_within, get_or_from_slice_get}
use Rattle.ll_bank.specs.declared.At.{At}
use Rattle.ll_bank.specs.Term.{Term}
use Rattle.ll_bank.specs.Nodes.{Nodes, term_tree, term_trees, HasTerm, AllInTerms, ShowsTerm, Extends}
use Rattle.ll_bank.proofs.CallerLemmas.{Extends-trans, AllInTerms-extends, term_trees-extends}
use Rattle.ll_parser.specs.declared.RawAt.{RawAt}
use Rattle.ll_parser.specs.Tokens.{Identifier}
use Rattle.ll_parser.specs.Nodes.{Node, raw_in, raws_in, raw_at, raw_trees}
use Rattle.ll_parser.specs.Seen.{places}
use Rattle.ll_parser.specs.Raw.{Raw, truth, erasure, braces, universal, existential, load, binary, is_goal, less_goal, most_goal, anything, int, RawList, none}
use Rattle.ll_parser.specs.Raw.{more}
use Rattle.ll_parser.specs.Raw as raw
use Rattle.ll_parser.specs.Weights.{weight, weights}
use Rattle.ll_parser.proofs.CallerLemmas.{weight_some}
use Rattle.ll_polarity.specs.declared.put_terms.Call.{Call}
use Rattle.ll_polarity.specs.declared.put_terms.Turn.{Turn}
use Rattle.ll_polarity.specs.declared.put_terms.Turn.TheVariants as turn
use Rattle.ll_polarity.specs.Scope.{meaning}
use Rattle.ll_polarity.specs.Reading.{Met, Read, read_name}
use Rattle.ll_polarity.specs.Named.{IsNamed, AreNamed}
use Rattle.ll_polarity.specs.Built.{Around, put_term, applied, built_term, built_terms, arguments, raws_past}
use Rattle.ll_polarity.specs.Standing.{front_term, HasRoom}
use Rattle.ll_polarity.specs.Calls.{Site, arguments_from, gives, goes_on, opens, finished, IsReady, CallFits, CallsFit, TurnFits, IsBegun, IsResumed, IsGiven}
use Rattle.ll_polarity.proofs.reading.Grows.{Longer, longer_refl, longer_trans, longer_term, longer_terms}
use Rattle.ll_polarity.proofs.reading.Building.{met_term, met_terms}

-- ---- what was met only grows

pub longer_built : (a : Around) (met : Met) (r : Raw) → Longer met (built_term a met r).met
longer_built a met r = subst (Longer met) (sym (met_term a met r)) (longer_term a.scope met r)

pub longer_builts : (a : Around) (met : Met) (rs : RawList) → Longer met (built_terms a met rs).met
longer_builts a met rs = subst (Longer met) (sym (met_terms a met rs)) (longer_terms a.scope met rs)

pub room_before : {old new : Met} → Longer old new → HasRoom new → HasRoom old
room_before l r = record { names = omega (arith, l.names.longer, r.names); variables = omega (arith, l.variables, r.variables) }

pub room_head : (a : Around) (met : Met) (n : Identifier) (args : RawList) → HasRoom (built_term a met (raw.head n args)).met
    → HasRoom (read_name (meaning a.scope n.text) met n.text).met
room_head a met n args r = room_before (longer_builts a (read_name (meaning a.scope n.text) met n.text).met args) r

-- ---- arguments by their numbers

pub past_places : (trees : List Raw) (ps : List RawAt) (k : ℕ)
    → MatchOption (slice_get ps k) (raws_past k (raws_in trees (places ps)) ≡ none)
    (λ arg. raws_past k (raws_in trees (places ps)) ≡ more (raw_in trees arg.0) (raws_past (suc k) (raws_in trees (places ps))))
past_places trees [] zero = refl
past_places trees [] (suc k) = refl
past_places trees (p ∷ ps) zero = refl
past_places trees (p ∷ ps) (suc k) = past_places trees ps k

-- the argument with a number, or none
pub found_argument : (texts : List (List ℕ)) (forms : List Node) (at k : ℕ) (args : List RawAt) (o : Option RawAt) → o ≡ slice_get args k
    → All (λ a. a.0 < at) args → at < length forms
    → arguments (raw_at texts forms at) ≡ raws_in (raw_trees texts forms) (places args)
    → MatchOption o (raws_past k (arguments (raw_at texts forms at)) ≡ none)
    (λ arg. (arg.0 < length forms) × (raws_past k (arguments (raw_at texts forms at))
    ≡ more (raw_at texts forms arg.0) (raws_past (suc k) (arguments (raw_at texts forms at)))))
found_argument texts forms at k args o e below inside is =
    subst (λ rs. MatchOption o (raws_past k rs ≡ none) (λ arg. (arg.0 < length forms)
    × (raws_past k rs ≡ more (raw_at texts forms arg.0) (raws_past (suc k) rs)))) (sym is)
    (by o (sym e) (subst (λ p. MatchOption p (raws_past k rs ≡ none) (λ arg. raws_past k rs ≡ more (raw_at texts forms arg.0) (raws_past (suc k) rs))) (sym e)
    (past_places (raw_trees texts forms) args k)))
  where
    rs : RawList
    rs = raws_in (raw_trees texts forms) (places args)

    by : (p : Option RawAt) → slice_get args k ≡ p → MatchOption p (raws_past k rs ≡ none)
        (λ arg. raws_past k rs ≡ more (raw_at texts forms arg.0) (raws_past (suc k) rs))
        → MatchOption p (raws_past k rs ≡ none) (λ arg. (arg.0 < length forms) × (raws_past k rs ≡ more (raw_at texts forms arg.0) (raws_past (suc k) rs)))
    by None q m = m
    by (Some arg) q m =
        let l = slice_get_within args k arg q in
        let b = subst (λ a. a.0 < at) (get_or_from_slice_get args k arg arg q) (below k arg l) in (omega arith, m)

-- ---- names that wait

module _ (s : Site) where
  finished-then : (bank : Nodes) (cs : List Call) (c : Call) (t : Read Term) → finished s bank (cs ++ c ∷ []) t ≡ finished s bank cs (gives s bank c t)
  finished-then bank [] c t = refl
  finished-then bank (x ∷ cs) c t = ap (gives s bank x) (finished-then bank cs c t)

  gives_extends : {old new : Nodes} (e : Extends old new) (c : Call) (t : Read Term) → AllInTerms old c.args.items → gives s new c t ≡ gives s old c t
  gives_extends e c t h =
      let us = built_terms s.around t.met (arguments_from s.texts s.forms (suc (length c.args.items)) c) in
      ap (λ ts. let x : Read Term = record { it = applied (front_term c.front) (ts ++ t.it ∷ us.it); met = us.met } in x) (term_trees-extends e c.args.items h)

  finished_extends : {old new : Nodes} (e : Extends old new) (cs : List Call) (t : Read Term) → CallsFit s.texts s.forms old cs
      → finished s new cs t ≡ finished s old cs t
  finished_extends e [] t h = refl
  finished_extends {old} {new} e (c ∷ cs) t h = gives_extends e c (finished s new cs t) h.0.args ∙ ap (gives s old c) (finished_extends e cs t h.1)

  longer_finished : (bank : Nodes) (cs : List Call) (t : Read Term) → Longer t.met (finished s bank cs t).met
  longer_finished bank [] t = longer_refl t.met
  longer_finished bank (c ∷ cs) t = longer_trans (longer_finished bank cs t)
      (longer_builts s.around (finished s bank cs t).met (arguments_from s.texts s.forms (suc (length c.args.items)) c))

module _ (texts : List (List ℕ)) (forms : List Node) where
  pub calls_extend : {old new : Nodes} (e : Extends old new) (cs : List Call) → CallsFit texts forms old cs → CallsFit texts forms new cs
  calls_extend e [] h = tt
  calls_extend e (c ∷ cs) h = (record { ready = h.0.ready; args = AllInTerms-extends e c.args.items h.0.args }, calls_extend e cs h.1)

  pub calls-then : (bank : Nodes) (cs : List Call) (c : Call) → CallsFit texts forms bank cs → CallFits texts forms bank c
      → CallsFit texts forms bank (cs ++ c ∷ [])
  calls-then bank [] c h k = (k, tt)
  calls-then bank (x ∷ cs) c h k = (h.0, calls-then bank cs c h.1 k)

  pub calls-before : (bank : Nodes) (cs : List Call) (c : Call) → CallsFit texts forms bank (cs ++ c ∷ [])
      → CallsFit texts forms bank cs × CallFits texts forms bank c
  calls-before bank [] c h = (tt, h.0)
  calls-before bank (x ∷ cs) c h = let i = calls-before bank cs c h.1 in ((h.0, i.0), i.1)

named_past : (k : ℕ) (rs : RawList) (r : Raw) (rest : RawList) → AreNamed rs → raws_past k rs ≡ more r rest → IsNamed r
named_past zero none r rest h e = absurd (cc)
named_past zero (more x rs) r rest h e = subst IsNamed (ap first_of e) h.0
  where
    first_of : RawList → Raw
    first_of none = x
    first_of (more y ys) = y
named_past (suc k) none r rest h e = absurd (cc)
named_past (suc k) (more x rs) r rest h e = named_past k rs r rest h.1 e

named_arguments : (r : Raw) → IsNamed r → AreNamed (arguments r)
named_arguments (truth at) h = tt
named_arguments (erasure at) h = tt
named_arguments (braces at r) h = tt
named_arguments (universal at n r) h = tt
named_arguments (existential at n r) h = tt
named_arguments (load at m args r) h = h.1
named_arguments (binary o at l r) h = tt
named_arguments (is_goal at l r) h = tt
named_arguments (less_goal at l r) h = tt
named_arguments (most_goal at l r) h = tt
named_arguments (raw.head n args) h = h.1
named_arguments (anything at) h = tt
named_arguments (int at z) h = tt

-- the next argument of a raw tree whose names have texts
pub named_argument : (texts : List (List ℕ)) (forms : List Node) (at k : ℕ) (arg : RawAt) (rest : RawList) → IsNamed (raw_at texts forms at)
    → raws_past k (arguments (raw_at texts forms at)) ≡ more (raw_at texts forms arg.0) rest → IsNamed (raw_at texts forms arg.0)
named_argument texts forms at k arg rest h e = named_past k (arguments (raw_at texts forms at)) (raw_at texts forms arg.0) rest
    (named_arguments (raw_at texts forms at) h) e

-- a name was begun, and waits for its first argument
pub begun_head : (s : Site) (bank : Nodes) (c : Call) (met now : Met) (n : Identifier) (args : RawList) → raw_at s.texts s.forms c.at.0 ≡ raw.head n args
    → c.args.items ≡ [] → (let f = read_name (meaning s.around.scope n.text) met n.text in
    front_term c.front ≡ put_term s.around.quantified s.around.depth f.it → now ≡ f.met
    → goes_on s bank c now ≡ built_term s.around met (raw_at s.texts s.forms c.at.0))
begun_head s bank c met now n args tree empty front is =
    (λ i. let ts = built_terms s.around (is i) (raws_past (length (empty i)) (arguments (tree i))) in
    let x : Read Term = record { it = applied (front i) (term_trees bank (empty i) ++ ts.it); met = ts.met } in x)
    ∙ ap (built_term s.around met) (sym tree)

-- ---- the measure

pub light_arguments : (r : Raw) → weights (arguments r) < weight r
light_arguments (truth at) = omega arith
light_arguments (erasure at) = omega arith
light_arguments (braces at r) = omega arith
light_arguments (universal at n r) = omega arith
light_arguments (existential at n r) = omega arith
light_arguments (load at m args r) = omega arith
light_arguments (binary o at l r) = omega arith
light_arguments (is_goal at l r) = omega arith
light_arguments (less_goal at l r) = omega arith
light_arguments (most_goal at l r) = omega arith
light_arguments (raw.head n args) = omega arith
light_arguments (anything at) = omega arith
light_arguments (int at z) = omega arith

module _ (texts : List (List ℕ)) (forms : List Node) where
  abbrev pub calls_left : List Call → ℕ
  calls_left [] = 0
  calls_left (c ∷ cs) = 3 + 5 * weights (arguments_from texts forms (suc (length c.args.items)) c) + calls_left cs

  abbrev pub turn_left : Turn → ℕ
  turn_left (turn.Read at) = 5 * weight (raw_at texts forms at.0)
  turn_left (turn.Resume c) = 4 + 5 * weights (arguments_from texts forms (length c.args.items) c)
  turn_left (turn.Give t) = 2

  calls_left-then : (cs : List Call) (c : Call) → calls_left (cs ++ c ∷ []) ≡ calls_left cs
      + (3 + 5 * weights (arguments_from texts forms (suc (length c.args.items)) c))
  calls_left-then [] c = omega arith
  calls_left-then (x ∷ cs) c = omega (arith, calls_left-then cs c)

  pub less_begun : (at : RawAt) (next : Turn) → IsBegun at next → turn_left next < turn_left (turn.Read at)
  less_begun at (turn.Read other) h = absurd h
  less_begun at (turn.Resume c) h =
      rw (ap length h.1, h.0) (omega (arith, light_arguments (raw_at texts forms at.0)))
  less_begun at (turn.Give t) h = omega (arith, weight_some (raw_at texts forms at.0))

  pub less_resumed : (old new : Nodes) (calls later : List Call) (c : Call) (next : Turn) → IsResumed forms old new calls later c next
      → calls_left later + turn_left next < calls_left calls + turn_left (turn.Resume c)
  less_resumed old new calls later c (turn.Read arg) h =
      rw h.waiting (omega (arith, calls_left-then calls c, ap weights (h.next texts)))
  less_resumed old new calls later c (turn.Resume other) h = absurd h
  less_resumed old new calls later c (turn.Give t) h = rw h.waiting (omega arith)

  pub less_given : (calls later : List Call) (c : Call) (t : At) (next : Turn) → calls ≡ later ++ c ∷ [] → IsGiven c t next
      → calls_left later + turn_left next < calls_left calls + turn_left (turn.Give t)
  less_given calls later c t (turn.Read at) e h = absurd h
  less_given calls later c t (turn.Give u) e h = absurd h
  less_given calls later c t (turn.Resume d) e h =
      let l : length d.args.items ≡ suc (length c.args.items) = ap length h.args ∙ (length-append c.args.items (t ∷ []) ∙ omega arith) in
      rw (e, l, h.at) (omega (arith, calls_left-then later c))

-- ---- the invariant

pub record IsOnTheWay (s : Site) (target : Read Term) (first bank : Nodes) (calls : List Call) (next : Turn) (met : Met) : Type 0 where
  pub means : finished s bank calls (opens s bank next met) ≡ target
  pub waiting : CallsFit s.texts s.forms bank calls
  pub turn : TurnFits s.texts s.forms bank next
  pub keeps : Extends first bank

-- what is met stays small where it is small in the end
pub room_on_the_way : {s : Site} {target : Read Term} {first bank : Nodes} {calls : List Call} {next : Turn} {met : Met}
    → IsOnTheWay s target first bank calls next met → HasRoom target.met → HasRoom (opens s bank next met).met
room_on_the_way {s} {bank} {calls} {next} {met} w r = room_before
    (subst (λ t. Longer (opens s bank next met).met t.met) w.means (longer_finished s bank calls (opens s bank next met))) r

module _ {s : Site} {target : Read Term} {first : Nodes} where
  -- the turn is known
  pub at_turn : {bank : Nodes} {calls : List Call} {was next : Turn} {met : Met} → was ≡ next → IsOnTheWay s target first bank calls was met
      → IsOnTheWay s target first bank calls next met
  at_turn {bank} {calls} {met} e = subst (λ (t : Turn). IsOnTheWay s target first bank calls t met) e

  pub way_begun : {old new : Nodes} {calls : List Call} {at : RawAt} {next : Turn} {met later : Met} → IsOnTheWay s target first old calls (turn.Read at) met
      → opens s new next later ≡ built_term s.around met (raw_at s.texts s.forms at.0) → TurnFits s.texts s.forms new next → Extends old new
      → IsOnTheWay s target first new calls next later
  way_begun {old} {new} {calls} {next} {later} w is fits keeps = record {
    means = finished_extends s keeps calls (opens s new next later) w.waiting ∙ (ap (finished s old calls) is ∙ w.means);
    waiting = calls_extend s.texts s.forms keeps calls w.waiting;
    turn = fits;
    keeps = Extends-trans w.keeps keeps;
  }

  pub way_resumed : {old new : Nodes} {calls later : List Call} {c : Call} {met : Met} (next : Turn) → IsOnTheWay s target first old calls (turn.Resume c) met
      → IsResumed s.forms old new calls later c next → Extends old new → IsOnTheWay s target first new later next met
  way_resumed (turn.Resume other) w h keeps = absurd h
  way_resumed {old} {new} {calls} {c} {met} (turn.Read arg) w h keeps = record {
    means =
        ap (λ cs. finished s new cs (built_term s.around met (raw_at s.texts s.forms arg.0))) h.waiting
        ∙ (finished-then s new calls c (built_term s.around met (raw_at s.texts s.forms arg.0))
        ∙ (finished_extends s keeps calls (gives s new c (built_term s.around met (raw_at s.texts s.forms arg.0))) w.waiting
        ∙ (ap (finished s old calls) (gives_extends s keeps c (built_term s.around met (raw_at s.texts s.forms arg.0)) w.turn.args
        ∙ ap (λ rs. let ts = built_terms s.around met rs in let x : Read Term =
        record { it = applied (front_term c.front) (term_trees old c.args.items ++ ts.it); met = ts.met } in x) (sym (h.next s.texts)))
        ∙ w.means)));
    waiting = subst (CallsFit s.texts s.forms new) (sym h.waiting)
        (calls-then s.texts s.forms new calls c (calls_extend s.texts s.forms keeps calls w.waiting)
        (record { ready = w.turn.ready; args = AllInTerms-extends keeps c.args.items w.turn.args }));
    turn = record { inside = h.inside; named = named_argument s.texts s.forms c.at.0 (length c.args.items) arg _ w.turn.ready.named (h.next s.texts) };
    keeps = Extends-trans w.keeps keeps;
  }
  way_resumed {old} {new} {calls} {c} {met} (turn.Give t) w h keeps = record {
    means =
        ap (λ cs. finished s new cs (record { it = term_tree new t.0; met = met })) h.waiting
        ∙ (finished_extends s keeps calls (record { it = term_tree new t.0; met = met }) w.waiting
        ∙ (ap (λ u. finished s old calls (record { it = u; met = met }))
        (h.shows.tree ∙ ap (applied (front_term c.front)) (sym (append-nil (term_trees old c.args.items))))
        ∙ (ap (λ rs. finished s old calls (let ts = built_terms s.around met rs in
        let x : Read Term = record { it = applied (front_term c.front) (term_trees old c.args.items ++ ts.it); met = ts.met } in x)) (sym (h.last s.texts))
        ∙ w.means)));
    waiting = subst (CallsFit s.texts s.forms new) (sym h.waiting) (calls_extend s.texts s.forms keeps calls w.waiting);
    turn = h.shows.inside;
    keeps = Extends-trans w.keeps keeps;
  }

  pub way_given : {bank : Nodes} {calls later : List Call} {t : At} {met : Met} (c : Call) (next : Turn)
      → IsOnTheWay s target first bank calls (turn.Give t) met
      → calls ≡ later ++ c ∷ [] → IsGiven c t next → IsOnTheWay s target first bank later next met
  way_given c (turn.Read at) w e h = absurd h
  way_given c (turn.Give u) w e h = absurd h
  way_given {bank} {later} {t} {met} c (turn.Resume d) w e h =
      let fit = calls-before s.texts s.forms bank later c (subst (CallsFit s.texts s.forms bank) e w.waiting) in
      record {
        means = ap (finished s bank later) same ∙ (sym (finished-then s bank later c now) ∙ (ap (λ cs. finished s bank cs now) (sym e) ∙ w.means));
        waiting = fit.0;
        turn = record {
          ready = subst (λ a. IsReady s.texts s.forms a.0) (sym h.at) fit.1.ready;
          args = subst (AllInTerms bank) (sym h.args) (all_then fit.1.args w.turn);
        };
        keeps = w.keeps;
      }
    where
      now : Read Term
      now = record { it = term_tree bank t.0; met = met }

      all_then : AllInTerms bank c.args.items → HasTerm bank t.0 → AllInTerms bank (c.args.items ++ t ∷ [])
      all_then h k = All-push (λ a. a.0 < length bank.terms) c.args.items t h k

      same : goes_on s bank d met ≡ gives s bank c now
      same =
          let ts = term_trees bank c.args.items in
          let l : length d.args.items ≡ suc (length c.args.items) = ap length h.args ∙ (length-append c.args.items (t ∷ []) ∙ omega arith) in
          let a : term_trees bank d.args.items ≡ ts ++ term_tree bank t.0 ∷ [] =
          ap (term_trees bank) h.args ∙ map-append (λ x. term_tree bank x.0) c.args.items (t ∷ []) in
          let r : arguments_from s.texts s.forms (length d.args.items) d ≡ arguments_from s.texts s.forms (suc (length c.args.items)) c =
          λ i. raws_past (l i) (arguments (raw_at s.texts s.forms (h.at i).0)) in
          let us = built_terms s.around met (arguments_from s.texts s.forms (suc (length c.args.items)) c) in
          (λ i. let vs = built_terms s.around met (r i) in let x : Read Term = record { it = applied (front_term (h.front i)) (a i ++ vs.it); met = vs.met } in
          x)
          ∙ ap (λ zs. let x : Read Term = record { it = applied (front_term c.front) zs; met = us.met } in x) (append_assoc ts (term_tree bank t.0 ∷ []) us.it)

  pub way_ends : {bank : Nodes} {calls : List Call} {t : At} {met : Met} → IsOnTheWay s target first bank calls (turn.Give t) met → calls ≡ []
      → ShowsTerm bank t.0 target.it × (met ≡ target.met)
  way_ends {bank} {t} {met} w e =
      let m : record { it = term_tree bank t.0; met = met } ≡ target =
      sym (ap (λ cs. finished s bank cs (record { it = term_tree bank t.0; met = met })) e) ∙ w.means in
      (record { inside = w.turn; tree = ap (λ x. x.it) m }, ap (λ x. x.met) m)

-- ---- the arguments of a load

pub record AreOnTheWay (s : Site) (target : Read (List Term)) (first bank : Nodes) (at : ℕ) (args : List At) (met : Met) : Type 0 where
  pub means : (let ts = built_terms s.around met (raws_past (length args) (arguments (raw_at s.texts s.forms at))) in
      let x : Read (List Term) = record { it = term_trees bank args ++ ts.it; met = ts.met } in x) ≡ target
  pub inside : AllInTerms bank args
  pub keeps : Extends first bank

module _ (s : Site) (target : Read (List Term)) (first : Nodes) (at : ℕ) where
  pub args_room : (bank : Nodes) (args : List At) (met : Met) (arg : RawAt) (rest : RawList) → AreOnTheWay s target first bank at args met
      → raws_past (length args) (arguments (raw_at s.texts s.forms at)) ≡ more (raw_at s.texts s.forms arg.0) rest → HasRoom target.met
      → HasRoom (built_term s.around met (raw_at s.texts s.forms arg.0)).met
  args_room bank args met arg rest w e r =
      let t = built_term s.around met (raw_at s.texts s.forms arg.0) in
      let m : (built_terms s.around t.met rest).met ≡ target.met = ap (λ rs. (built_terms s.around met rs).met) (sym e) ∙ ap (λ x. x.met) w.means in
      room_before (longer_builts s.around t.met rest) (subst HasRoom (sym m) r)

  pub args_more : (old new : Nodes) (args later : List At) (met now : Met) (arg : RawAt) (t : At) → AreOnTheWay s target first old at args met
      → raws_past (length args) (arguments (raw_at s.texts s.forms at))
      ≡ more (raw_at s.texts s.forms arg.0) (raws_past (suc (length args)) (arguments (raw_at s.texts s.forms at)))
      → ShowsTerm new t.0 (built_term s.around met (raw_at s.texts s.forms arg.0)).it → now ≡ (built_term s.around met (raw_at s.texts s.forms arg.0)).met
      → Extends old new
      → later ≡ args ++ t ∷ [] → AreOnTheWay s target first new at later now
  args_more old new args later met now arg t w e shows is keeps added = record {
    means =
        let l : length later ≡ suc (length args) = ap length added ∙ (length-append args (t ∷ []) ∙ omega arith) in
        let u = built_term s.around met (raw_at s.texts s.forms arg.0) in
        let a : term_trees new later ≡ term_trees old args ++ u.it ∷ [] =
        ap (term_trees new) added ∙ (map-append (λ x. term_tree new x.0) args (t ∷ []) ∙ (λ i. term_trees-extends keeps args w.inside i ++ shows.tree i ∷ []))
        in
        let us = built_terms s.around u.met (raws_past (suc (length args)) (arguments (raw_at s.texts s.forms at))) in
        (λ i. let vs = built_terms s.around (is i) (raws_past (l i) (arguments (raw_at s.texts s.forms at))) in
        let x : Read (List Term) = record { it = a i ++ vs.it; met = vs.met } in x)
        ∙ (ap (λ zs. let x : Read (List Term) = record { it = zs; met = us.met } in x) (append_assoc (term_trees old args) (u.it ∷ []) us.it)
        ∙ (ap (λ rs. let vs = built_terms s.around met rs in let x : Read (List Term) = record { it = term_trees old args ++ vs.it; met = vs.met } in x) (sym e)
        ∙ w.means));
    inside = subst (AllInTerms new) (sym added) (All-push (λ a. a.0 < length new.terms) args t (AllInTerms-extends keeps args w.inside) shows.inside);
    keeps = Extends-trans w.keeps keeps;
  }

  pub args_end : (bank : Nodes) (args : List At) (met : Met) → AreOnTheWay s target first bank at args met
      → raws_past (length args) (arguments (raw_at s.texts s.forms at)) ≡ none
      → (term_trees bank args ≡ target.it) × (met ≡ target.met)
  args_end bank args met w e =
      let m = ap (λ rs. let vs = built_terms s.around met rs in let x : Read (List Term) = record { it = term_trees bank args ++ vs.it; met = vs.met } in
      x) (sym e) ∙ w.means in
      (sym (append-nil (term_trees bank args)) ∙ ap (λ x. x.it) m, ap (λ x. x.met) m)

pub less_more : (rs : RawList) (k : ℕ) (r : Raw) → raws_past k rs ≡ more r (raws_past (suc k) rs) → weights (raws_past (suc k) rs) < weights (raws_past k rs)
less_more rs k r e = let w = ap weights e in omega (arith, weight_some r)
