-- What is left of a walk after terms and faults were put next.
use Rattle.std.proofs.Common.{◌≡◌, ℕ, suc, ◌+◌, ◌*◌, ◌<◌, ◌≤◌, Bool, true, false, true≢false, List, [], ◌∷◌, ◌++◌, length, map, Option, Some, None, slice_get}
use Rattle.std.proofs.Common.{refl, sym, subst, ap, ◌∙◌, arith, append_assoc}
use Rattle.std.specs.Prelude.{option_to_list, find, ◌==◌, Result, Ok, Err, OnOk}
use Rattle.std.specs.HashMap.{HashMap}
use Rattle.std.specs.declared.hash.FoldHasher.{FoldHasher}
use Rattle.std.specs.declared.hash.BuildHasherDefault.{BuildHasherDefault}
use Rattle.std.proofs.lemmas.Bool.Decides.{Decides-eqb}
use Rattle.std.proofs.lemmas.List.Elements.{recursion_from_All}
use Rattle.std.proofs.lemmas.Option.{get_or_from_slice_get}
use Rattle.std.specs.List.{AllByRecursion}
use denote.Ref.{Bor}
use Rattle.ll_lexer.specs.declared.Place.{Place}
use Rattle.ll_lexer.specs.declared.Fault.{Fault}
use Rattle.ll_parser.specs.declared.Named.{Named}
use Rattle.ll_parser.specs.declared.RawAt.{RawAt}
use Rattle.ll_parser.specs.declared.RawNode.TheVariants as seen
use Rattle.ll_parser.specs.Raw.{Raw, load, head, raw_place, RawList}
use Rattle.ll_parser.specs.Nodes.{Node, raw_at, raws_in, raw_trees, identifier}
use Rattle.ll_parser.specs.Seen.{places, IsRawNode}
use Rattle.ll_polarity.specs.declared.pending.Side as code
use Rattle.ll_polarity.specs.declared.pending.Part.{Part}
use Rattle.ll_polarity.specs.declared.pending.Part.TheVariants.{Form, Term, Found, Close}
use Rattle.ll_polarity.specs.Scope.{Binder, Scope, Scoped, meaning}
use Rattle.ll_polarity.specs.Faults.{Heading, unless, may_be_head, count, applied_fault, term_faults, terms_faults, on_goal_side, is_named, load_fault}
use Rattle.ll_polarity.specs.Faults.{form_faults}
use Rattle.ll_polarity.specs.Headings.{AreFound}
use Rattle.ll_polarity.specs.Named.{IsNamed, AreNamed}
use Rattle.ll_polarity.specs.Pending.{side_of, size, sizes, scope_after, pending_faults, IsReady, AreReady, pending_size, IsOpened}

five : (a b c d e : List Fault) → a ++ (b ++ (c ++ (d ++ e))) ≡ (((a ++ b) ++ c) ++ d) ++ e
five a b c d e = sym (append_assoc ((a ++ b) ++ c) d e ∙ (append_assoc (a ++ b) c (d ++ e) ∙ append_assoc a b (c ++ (d ++ e))))

-- ---- faults

scope-found : (scope : Scope) (fs : List Fault) (ps : List Part) → scope_after scope (map Found fs ++ ps) ≡ scope_after scope ps
scope-found scope [] ps = refl
scope-found scope (f ∷ fs) ps = scope-found scope fs ps

scope-terms : (scope : Scope) (args : List RawAt) (ps : List Part) → scope_after scope (map Term args ++ ps) ≡ scope_after scope ps
scope-terms scope [] ps = refl
scope-terms scope (a ∷ args) ps = scope-terms scope args ps

pub unless-few : (b : Bool) (kind : ℕ) (at : Place) → length (unless b kind at) ≤ 1
unless-few true kind at = omega arith
unless-few false kind at = omega arith

option-few : (o : Option Fault) → length (option_to_list o) ≤ 1
option-few None = omega arith
option-few (Some f) = omega arith

module _ (texts : List (List ℕ)) (nodes : List Node) where
  abbrev trees : List Raw
  trees = raw_trees texts nodes

  faults-found : (ms : List Heading) (scope : Scope) (fs : List Fault) (ps : List Part)
      → pending_faults texts nodes ms scope (map Found fs ++ ps) ≡ fs ++ pending_faults texts nodes ms scope ps
  faults-found ms scope [] ps = refl
  faults-found ms scope (f ∷ fs) ps = ap (λ gs. f ∷ gs) (faults-found ms scope fs ps)

  ready-found : (fs : List Fault) (ps : List Part) → AreReady texts nodes ps → AreReady texts nodes (map Found fs ++ ps)
  ready-found [] ps h = h
  ready-found (f ∷ fs) ps h = ready-found fs ps h

  size-found : (fs : List Fault) (ps : List Part) → pending_size texts nodes (map Found fs ++ ps) ≡ length fs + pending_size texts nodes ps
  size-found [] ps = omega arith
  size-found (f ∷ fs) ps = let i = size-found fs ps in omega arith

  -- ---- terms

  faults-terms : (ms : List Heading) (scope : Scope) (args : List RawAt) (ps : List Part)
      → pending_faults texts nodes ms scope (map Term args ++ ps) ≡ terms_faults scope (raws_in trees (places args)) ++ pending_faults texts nodes ms scope ps
  faults-terms ms scope [] ps = refl
  faults-terms ms scope (a ∷ args) ps =
      let x = term_faults scope (raw_at texts nodes a.0) in
      ap (λ gs. x ++ gs) (faults-terms ms scope args ps) ∙ sym
      (append_assoc x (terms_faults scope (raws_in trees (places args))) (pending_faults texts nodes ms scope ps))

  ready-terms : (at : ℕ) (args : List RawAt) (ps : List Part) → at < length nodes → AllByRecursion (λ (a : RawAt). a.0 < at) args
      → AreNamed (raws_in trees (places args)) → AreReady texts nodes ps
      → AreReady texts nodes (map Term args ++ ps)
  ready-terms at [] ps l below named h = h
  ready-terms at (a ∷ args) ps l below named h = let b = below.0 in ((omega arith, named.0), ready-terms at args ps l below.1 named.1 h)

  size-terms : (args : List RawAt) (ps : List Part) → pending_size texts nodes (map Term args ++ ps) ≡ 3 * sizes (raws_in trees (places args))
      + pending_size texts nodes ps
  size-terms [] ps = omega arith
  size-terms (a ∷ args) ps = let i = size-terms args ps in omega arith

  count-raws : (args : List RawAt) → count (raws_in trees (places args)) ≡ length args
  count-raws [] = refl
  count-raws (a ∷ args) = ap suc (count-raws args)

  module _ (params : HashMap (Bor (List ℕ)) ℕ (BuildHasherDefault FoldHasher)) where
    -- the fault of a name with arguments
    pub applied-none : (scope : Scope) (n : Named) (args : List RawAt) → (length args == 0) ≡ true
        → unless true 9 n.at ≡ applied_fault scope (identifier texts n) (raws_in trees (places args))
    applied-none scope n [] e = refl
    applied-none scope n (a ∷ args) e = let l = (Decides-eqb (length (a ∷ args)) 0).0 e in absurd (let h : suc (length args) ≡ 0 = l in omega arith)

    pub applied-some : (scope : Scope) (n : Named) (args : List RawAt) → (length args == 0) ≡ false
        → unless (may_be_head (meaning scope (identifier texts n).text)) 9 n.at ≡ applied_fault scope (identifier texts n) (raws_in trees (places args))
    applied-some scope n [] e = absurd (true≢false e)
    applied-some scope n (a ∷ args) e = refl

    -- a name with arguments, after faults of its own
    opened-args : (scope : Scope) (at : ℕ) (n : Named) (args : List RawAt) (fs : List Fault) (old : List Part) → at < length nodes
        → AllByRecursion (λ (a : RawAt). a.0 < at) args
        → AreNamed (raws_in trees (places args)) → length fs ≤ 1
        → IsOpened texts nodes params (λ ms. fs ++ terms_faults scope (raws_in trees (places args)))
        (3 * size (head (identifier texts n) (raws_in trees (places args)))) scope old scope (map Found fs ++ (map Term args ++ old))
    opened-args scope at n args fs old l below named few = record {
      faults_stay = λ ms known.
          faults-found ms scope fs (map Term args ++ old)
          ∙ (ap (λ gs. fs ++ gs) (faults-terms ms scope args old)
          ∙ sym (append_assoc fs (terms_faults scope (raws_in trees (places args))) (pending_faults texts nodes ms scope old)));
      ready = λ h. ready-found fs (map Term args ++ old) (ready-terms at args old l below named h);
      scope_stays = scope-found scope fs (map Term args ++ old) ∙ scope-terms scope args old;
      smaller = let i = size-found fs (map Term args ++ old) in let j = size-terms args old in omega arith;
    }

    -- an atom
    pub opened-head : (side : code.Side) (scope : Scope) (at : RawAt) (n : Named) (args : Bor (List RawAt)) (old new : List Part) → IsReady texts nodes at
        → IsRawNode nodes at.0 (seen.Head n args)
        → new ≡ map Found (unless (may_be_head (meaning scope (identifier texts n).text)) 9 n.at) ++ (map Term args.now ++ old)
        → IsOpened texts nodes params (λ ms. form_faults ms (side_of side) scope (raw_at texts nodes at.0)) (3 * size (raw_at texts nodes at.0)) scope old scope
        new
    opened-head side scope at n args old new ready node is =
        let r = head (identifier texts n) (raws_in trees (places args.now)) in
        let named : IsNamed r = subst IsNamed (node.tree texts) ready.1 in
        subst (λ z. IsOpened texts nodes params (λ ms. form_faults ms (side_of side) scope (raw_at texts nodes at.0)) (3 * size (raw_at texts nodes at.0)) scope
        old scope z) (sym is)
        (subst (λ z. IsOpened texts nodes params (λ ms. form_faults ms (side_of side) scope z) (3 * size z) scope old scope
        (map Found (unless (may_be_head (meaning scope (identifier texts n).text)) 9 n.at) ++ (map Term args.now ++ old)))
        (sym (node.tree texts))
        (opened-args scope at.0 n args.now (unless (may_be_head (meaning scope (identifier texts n).text)) 9 n.at) old ready.0
        (recursion_from_All (λ (a : RawAt). a.0 < at.0) args.now node.parts) named.1
        (unless-few (may_be_head (meaning scope (identifier texts n).text)) 9 n.at)))

    -- a term with arguments or without
    pub opened-term : (scope : Scope) (at : RawAt) (n : Named) (args : Bor (List RawAt)) (fits : Bool) (old new : List Part) → IsReady texts nodes at
        → IsRawNode nodes at.0 (seen.Head n args)
        → unless fits 9 n.at ≡ applied_fault scope (identifier texts n) (raws_in trees (places args.now))
        → new ≡ map Found (unless fits 9 n.at) ++ (map Term args.now ++ old)
        → IsOpened texts nodes params (λ ms. term_faults scope (raw_at texts nodes at.0)) (3 * size (raw_at texts nodes at.0)) scope old scope new
    opened-term scope at n args fits old new ready node fault is =
        let r = head (identifier texts n) (raws_in trees (places args.now)) in
        let named : IsNamed r = subst IsNamed (node.tree texts) ready.1 in
        subst (λ z. IsOpened texts nodes params (λ ms. term_faults scope (raw_at texts nodes at.0)) (3 * size (raw_at texts nodes at.0)) scope old scope z)
        (sym is)
        (subst (λ z. IsOpened texts nodes params (λ ms. term_faults scope z) (3 * size z) scope old scope
        (map Found (unless fits 9 n.at) ++ (map Term args.now ++ old))) (sym (node.tree texts))
        (subst (λ fs. IsOpened texts nodes params (λ ms. fs ++ terms_faults scope (raws_in trees (places args.now))) (3 * size r) scope old scope
        (map Found (unless fits 9 n.at) ++ (map Term args.now ++ old))) fault
        (opened-args scope at.0 n args.now (unless fits 9 n.at) old ready.0 (recursion_from_All (λ (a : RawAt). a.0 < at.0) args.now node.parts) named.1
        (unless-few fits 9 n.at))))

    -- a load
    pub opened-load : (side : code.Side) (scope : Scope) (at : RawAt) (n : Named) (args : Bor (List RawAt)) (goal : RawAt) (o : Option Fault) (text : List ℕ)
        (place : Place) (old new : List Part)
        → IsReady texts nodes at → IsRawNode nodes at.0 (seen.Load n args goal) → slice_get texts n.name ≡ Some text
        → place ≡ raw_place (raw_at texts nodes at.0)
        → ((ms : List Heading) → AreFound params ms → option_to_list o
        ≡ load_fault (find (is_named text) ms) (record { text = text; at = n.at }) (length args.now))
        → new ≡ map Found (option_to_list o) ++ (map Term args.now ++ (map Found (unless (on_goal_side (side_of side)) 8 place) ++ Form side goal ∷ old))
        → IsOpened texts nodes params (λ ms. form_faults ms (side_of side) scope (raw_at texts nodes at.0)) (3 * size (raw_at texts nodes at.0)) scope old scope
        new
    opened-load side scope at n args goal o text place old new ready node there stands fault is =
        subst (λ z. IsOpened texts nodes params (λ ms. form_faults ms (side_of side) scope (raw_at texts nodes at.0)) (3 * size (raw_at texts nodes at.0)) scope
        old scope z) (sym is)
        (subst (λ z. IsOpened texts nodes params (λ ms. form_faults ms (side_of side) scope z) (3 * size z) scope old scope
        (map Found first ++ (map Term args.now ++ (map Found second ++ Form side goal ∷ old)))) (sym (node.tree texts)) opened)
      where
        first : List Fault
        first = option_to_list o

        second : List Fault
        second = unless (on_goal_side (side_of side)) 8 place

        rs : RawList
        rs = raws_in trees (places args.now)

        r : Raw
        r = load (raw_place (raw_at texts nodes at.0)) (identifier texts n) (raws_in trees (places args.now)) (raw_at texts nodes goal.0)

        opened : IsOpened texts nodes params (λ ms. form_faults ms (side_of side) scope r) (3 * size r) scope old scope
            (map Found first ++ (map Term args.now ++ (map Found second ++ Form side goal ∷ old)))
        opened = record {
          faults_stay = λ ms known.
              let tf = terms_faults scope rs in let ff = form_faults ms (side_of side) scope (raw_at texts nodes goal.0) in
              let after = pending_faults texts nodes ms scope old in
              let lf = load_fault (find (is_named (identifier texts n).text) ms) (identifier texts n) (count rs) in
              let own : first ≡ lf =
              fault ms known
              ∙ (ap (λ t. load_fault (find (is_named t) ms) (record { text = t; at = n.at }) (length args.now))
              (sym (get_or_from_slice_get texts n.name text [] there))
              ∙ ap (load_fault (find (is_named (identifier texts n).text) ms) (identifier texts n)) (sym (count-raws args.now))) in
              faults-found ms scope first (map Term args.now ++ (map Found second ++ Form side goal ∷ old))
              ∙ (ap (λ gs. first ++ gs) (faults-terms ms scope args.now (map Found second ++ Form side goal ∷ old)
              ∙ ap (λ gs. tf ++ gs) (faults-found ms scope second (Form side goal ∷ old)))
              ∙ (five first tf second ff after
              ∙ (ap (λ gs. gs ++ tf ++ second ++ ff ++ after) own ∙ ap (λ p. lf ++ tf ++ unless (on_goal_side (side_of side)) 8 p ++ ff ++ after) stands)));
          ready = λ h.
              let named : IsNamed r = subst IsNamed (node.tree texts) ready.1 in let b = node.parts.1 in let l = ready.0 in
              ready-found first (map Term args.now ++ (map Found second ++ Form side goal ∷ old))
              (ready-terms at.0 args.now (map Found second ++ Form side goal ∷ old) ready.0
              (recursion_from_All (λ (a : RawAt). a.0 < at.0) args.now node.parts.0) named.1
              (ready-found second (Form side goal ∷ old) ((omega arith, named.2), h)));
          scope_stays = scope-found scope first (map Term args.now ++ (map Found second ++ Form side goal ∷ old))
              ∙ (scope-terms scope args.now (map Found second ++ Form side goal ∷ old) ∙ scope-found scope second (Form side goal ∷ old));
          smaller =
              let i = size-found first (map Term args.now ++ (map Found second ++ Form side goal ∷ old)) in
              let j = size-terms args.now (map Found second ++ Form side goal ∷ old) in let k = size-found second (Form side goal ∷ old) in
              let a = option-few o in let b = unless-few (on_goal_side (side_of side)) 8 place in omega arith;
        }

    -- ---- parts in front of others

    module _ (scope : Scope) (old : List Part) where
      pub opened-faults : (fs : List Fault) → length fs ≤ 1 → IsOpened texts nodes params (λ ms. fs) 2 scope old scope (map Found fs ++ old)
      opened-faults fs few = record {
        faults_stay = λ ms known. faults-found ms scope fs old;
        ready = λ h. ready-found fs old h;
        scope_stays = scope-found scope fs old;
        smaller = let i = size-found fs old in omega arith;
      }

      pub opened-last : (s : code.Side) (at : RawAt) → IsReady texts nodes at
          → IsOpened texts nodes params (λ ms. form_faults ms (side_of s) scope (raw_at texts nodes at.0)) (3 * size (raw_at texts nodes at.0) + 1) scope old
          scope (Form s at ∷ old)
      opened-last s at h = record { faults_stay = λ ms known. refl; ready = λ k. (h, k); scope_stays = refl; smaller = omega arith }

      -- a body in the scope of its quantifier
      pub opened-body : (s : code.Side) (at : RawAt) (b : Binder) → IsReady texts nodes at
          → IsOpened texts nodes params (λ ms. form_faults ms (side_of s) (b ∷ scope) (raw_at texts nodes at.0)) (3 * size (raw_at texts nodes at.0) + 2) scope
          old (b ∷ scope) (Form s at ∷ (Close ∷ old))
      opened-body s at b h = record { faults_stay = λ ms known. refl; ready = λ k. (h, k); scope_stays = refl; smaller = omega arith }

      module _ (after : Scope) (new : List Part) (faults : List Heading → List Fault) (room : ℕ)
          (opened : IsOpened texts nodes params faults room scope old after new) where
        pub fault-before : (fs : List Fault) → length fs ≤ 1
            → IsOpened texts nodes params (λ ms. fs ++ faults ms) (1 + room) scope old after (map Found fs ++ new)
        fault-before fs few = record {
          faults_stay = λ ms known.
              faults-found ms after fs new
              ∙ (ap (λ gs. fs ++ gs) (opened.faults_stay ms known) ∙ sym (append_assoc fs (faults ms) (pending_faults texts nodes ms scope old)));
          ready = λ h. ready-found fs new (opened.ready h);
          scope_stays = scope-found after fs new ∙ opened.scope_stays;
          smaller = let i = size-found fs new in let k = opened.smaller in omega arith;
        }

        pub form-before : (s : code.Side) (at : RawAt) → IsReady texts nodes at
            → IsOpened texts nodes params (λ ms. form_faults ms (side_of s) after (raw_at texts nodes at.0) ++ faults ms)
            (3 * size (raw_at texts nodes at.0) + room) scope old after (Form s at ∷ new)
        form-before s at h = record {
          faults_stay = λ ms known.
              let fs = form_faults ms (side_of s) after (raw_at texts nodes at.0) in
              ap (λ gs. fs ++ gs) (opened.faults_stay ms known) ∙ sym (append_assoc fs (faults ms) (pending_faults texts nodes ms scope old));
          ready = λ k. (h, opened.ready k);
          scope_stays = opened.scope_stays;
          smaller = let k = opened.smaller in omega arith;
        }

    -- the same faults in other words
    pub opened-as : (scope after : Scope) (old new : List Part) (room : ℕ) (faults same : List Heading → List Fault)
        → IsOpened texts nodes params faults room scope old after new → ((ms : List Heading) → faults ms ≡ same ms)
        → IsOpened texts nodes params same room scope old after new
    opened-as scope after old new room faults same o e = record {
      faults_stay = λ ms known. o.faults_stay ms known ∙ ap (λ fs. fs ++ pending_faults texts nodes ms scope old) (e ms);
      ready = o.ready;
      scope_stays = o.scope_stays;
      smaller = o.smaller;
    }

    -- so is a formula that begins as is seen, where there is room
    pub opened-seen : (side : code.Side) (scope after : Scope) (at : RawAt) (old new : List Part) (room : ℕ) {seen : Raw} → raw_at texts nodes at.0 ≡ seen
        → IsOpened texts nodes params (λ ms. form_faults ms (side_of side) scope seen) room scope old after new → room ≤ 3 * size seen
        → IsOpened texts nodes params (λ ms. form_faults ms (side_of side) scope (raw_at texts nodes at.0)) (3 * size (raw_at texts nodes at.0)) scope old
        after new
    opened-seen side scope after at old new room {seen} tree o l =
        subst (λ (z : Raw). IsOpened texts nodes params (λ ms. form_faults ms (side_of side) scope z) (3 * size z) scope old after new) (sym tree)
        (record { faults_stay = o.faults_stay; ready = o.ready; scope_stays = o.scope_stays; smaller = let k = o.smaller in omega arith })

    -- so is a formula whose parts a call puts next, of which these are faults of its own
    pub opened-result : {T E : Type 0} (r : Result T E) (side : code.Side) (scope after : Scope) (at : RawAt) (old new : List Part)
        (build : List Fault → List Part) (fs gs : List Fault) (room : ℕ) {seen : Raw} → raw_at texts nodes at.0 ≡ seen → OnOk r (new ≡ build fs) → fs ≡ gs
        → IsOpened texts nodes params (λ ms. form_faults ms (side_of side) scope seen) room scope old after (build gs) → room ≤ 3 * size seen
        → OnOk r (IsOpened texts nodes params (λ ms. form_faults ms (side_of side) scope (raw_at texts nodes at.0)) (3 * size (raw_at texts nodes at.0)) scope
        old after new)
    opened-result (Ok x) side scope after at old new build fs gs room {seen} tree is same o l =
        subst (λ (z : List Part). IsOpened texts nodes params (λ ms. form_faults ms (side_of side) scope (raw_at texts nodes at.0))
        (3 * size (raw_at texts nodes at.0)) scope old after z) (sym (is ∙ ap build same)) (opened-seen side scope after at old (build gs) room tree o l)
    opened-result (Err e) side scope after at old new build fs gs room tree is same o l = tt

    -- so is a quantifier whose body a call puts next
    pub opened-quantifier : {T E : Type 0} (r : Result T E) (side : code.Side) (before later : Scoped) (at : RawAt) (old new parts : List Part) (b : Binder)
        (room : ℕ) {seen : Raw} → raw_at texts nodes at.0 ≡ seen → OnOk r (new ≡ parts)
        → OnOk r (later ≡ record before { scope = b ∷ before.scope })
        → IsOpened texts nodes params (λ ms. form_faults ms (side_of side) before.scope seen) room before.scope old (b ∷ before.scope) parts
        → room ≤ 3 * size seen
        → OnOk r (IsOpened texts nodes params (λ ms. form_faults ms (side_of side) before.scope (raw_at texts nodes at.0)) (3 * size (raw_at texts nodes at.0))
        before.scope old later.scope new)
    opened-quantifier (Ok x) side before later at old new parts b room {seen} tree is entered o l =
        subst (λ (z : List Part). IsOpened texts nodes params (λ ms. form_faults ms (side_of side) before.scope (raw_at texts nodes at.0))
        (3 * size (raw_at texts nodes at.0)) before.scope old later.scope z) (sym is)
        (subst (λ (z : Scope). IsOpened texts nodes params (λ ms. form_faults ms (side_of side) before.scope (raw_at texts nodes at.0))
        (3 * size (raw_at texts nodes at.0)) before.scope old z parts) (sym (ap (λ y. y.scope) entered))
        (opened-seen side before.scope (b ∷ before.scope) at old parts room tree o l))
    opened-quantifier (Err e) side before later at old new parts b room tree is entered o l = tt

-- of a result
pub ok-each : {T E : Type 0} (r : Result T E) (P Q : Type 0) → (P → Q) → OnOk r P → OnOk r Q
ok-each (Ok x) P Q f p = f p
ok-each (Err e) P Q f p = tt

pub ok-always : {T E : Type 0} (r : Result T E) (P : Type 0) → P → OnOk r P
ok-always (Ok x) P p = p
ok-always (Err e) P p = tt

pub ok-texts : {T E : Type 0} (r : Result T E) (before later : Scoped) (b : Binder) (texts : List (List ℕ))
    → OnOk r (later ≡ record before { scope = b ∷ before.scope }) → before.texts ≡ texts → OnOk r (later.texts ≡ texts)
ok-texts (Ok x) before later b texts entered same = ap (λ y. y.texts) entered ∙ same
ok-texts (Err e) before later b texts entered same = tt
