-- The nodes that a walker has told so far.
use Rattle.std.proofs.Common.{◌≡◌, ℕ, zero, suc, ◌+◌, ◌<◌, ◌≤◌, refl, ap, sym, subst, ◌∙◌, arith, List, [], ◌∷◌, ◌++◌, map, length, drop, append_assoc}
use Rattle.std.proofs.Common.{slice_index_or}
use Rattle.std.proofs.lemmas.List.{map-append, append-nil as append-none, drop_all}
use Rattle.std.proofs.lemmas.List.Elements.{All-nil, All-push}
use Rattle.ll_bank.specs.declared.At.{At}
use Rattle.ll_bank.specs.Nodes.{Nodes, no_nodes, term_trees}
use Rattle.ll_laws.specs.declared.Module.{Module}
use Rattle.ll_laws.specs.declared.Rule.{Rule}
use Rattle.ll_laws.specs.declared.Step.{Step}
use Rattle.ll_laws.specs.Line.{Line}
use Rattle.ll_laws.specs.ShownLines.{line_of, HasLine, HasLines}
use Rattle.ll_trace.specs.declared.walk.Walker.{Walker}
use Rattle.ll_trace.specs.Walk.{Walk, Told, Lost, Tells, tell, after_node, told, IsTold}
use Rattle.ll_trace.specs.Walker.{trees, walk_of, IsInside, MayStep, Steps, AreNodes, IsPartWay}

drop-next : (cs : List Step) (k : ℕ) (d : Step) → k < length cs → drop k cs ≡ slice_index_or cs k d ∷ drop (k + 1) cs
drop-next [] k d l = absurd (omega (arith, l))
drop-next (c ∷ cs) zero d l = refl
drop-next (c ∷ cs) (suc k) d l = drop-next cs k d (omega (arith, l))
    ∙ ap (λ n. slice_index_or cs k d ∷ drop n (c ∷ cs)) (let e : suc (k + 1) ≡ suc k + 1 = omega arith in e)

tells-now : (t : Told) (go : Walk → List Line) (n : ℕ) → length (after_node t go) ≡ suc n → IsTold t
tells-now Lost go n h = absurd (omega (arith, h))
tells-now (Tells m w) go n h = tt

module _ (forms : Nodes) (modules : List Module) (terms : List At) (steps : List Step) (first : Walker) where
  -- the nodes of these steps from where the walker stands
  abbrev ahead : Nodes → List Step → Walker → List Line
  ahead bank cs w = told (trees forms modules) (term_trees bank terms) cs (walk_of forms (trees forms modules) w)

  pub part_start : (rules : List Rule) → rules ≡ [] → IsInside forms (length modules) first → first.used ≤ length terms
      → length (ahead no_nodes steps first) ≡ length steps → IsPartWay forms modules terms steps first 0 first rules
  part_start rules e i u m = record {
    so_far = λ bank. ap (λ (rs : List Rule). map (line_of bank) rs ++ ahead bank steps first) (sym e);
    more = m;
    inside = i;
    used = u;
    places = λ bank h. subst (HasLines bank) (sym e) (All-nil (HasLine bank));
  }

  pub part_may : (k : ℕ) (w : Walker) (rules : List Rule) (x : Step) → IsPartWay forms modules terms steps first k w rules → k < length steps
      → MayStep forms modules terms w (slice_index_or steps k x)
  part_may k w rules x p l =
      let c = slice_index_or steps k x in
      tells-now (tell (trees forms modules) (term_trees no_nodes terms) (walk_of forms (trees forms modules) w) c)
      (told (trees forms modules) (term_trees no_nodes terms) (drop (k + 1) steps)) (length (drop (k + 1) steps))
      (subst (λ (cs : List Step). length (ahead no_nodes cs w) ≡ length cs) (drop-next steps k x l) p.more)

  pub part_more : (k next : ℕ) (w new : Walker) (rules more : List Rule) (d : Step) (rule : Rule) → IsPartWay forms modules terms steps first k w rules
      → k < length steps
      → Steps forms modules terms w (slice_index_or steps k d) rule new → more ≡ rules ++ rule ∷ [] → next ≡ k + 1
      → IsPartWay forms modules terms steps first next new more
  part_more k next w new rules more x rule p l s m n =
      let c = slice_index_or steps k x in
      let d : drop k steps ≡ c ∷ drop next steps = drop-next steps k x l ∙ ap (λ j. c ∷ drop j steps) (sym n) in
      let one : (bank : Nodes) → ahead bank (drop k steps) w ≡ line_of bank rule ∷ ahead bank (drop next steps) new = λ bank.
      ap (λ (cs : List Step). ahead bank cs w) d ∙ ap (λ t. after_node t (told (trees forms modules) (term_trees bank terms) (drop next steps))) (s.told bank)
      in
      let many = ap (λ (ns : List Line). length ns) (one no_nodes) in
      let same = p.more in
      let fewer = ap (λ (cs : List Step). length cs) d in
      record {
        so_far = λ bank.
            p.so_far bank
            ∙ (ap (λ ns. map (line_of bank) rules ++ ns) (one bank)
            ∙ (sym (append_assoc (map (line_of bank) rules) (line_of bank rule ∷ []) (ahead bank (drop next steps) new))
            ∙ ap (λ ns. ns ++ ahead bank (drop next steps) new) (sym (ap (map (line_of bank)) m ∙ map-append (line_of bank) rules (rule ∷ [])))));
        more = omega (arith, many, same, fewer);
        inside = s.inside;
        used = s.used;
        places = λ bank h. subst (HasLines bank) (sym m) (All-push (HasLine bank) rules rule (p.places bank h) (s.places bank h));
      }

  pub part_end : (w : Walker) (rules : List Rule) (k : ℕ) → length steps ≤ k → IsPartWay forms modules terms steps first k w rules
      → AreNodes forms modules terms steps first rules
  part_end w rules k e p =
      record {
        told =
            λ bank. sym (p.so_far bank ∙ (ap (λ (cs : List Step). map (line_of bank) rules ++ ahead bank cs w) (drop_all k steps e)
            ∙ append-none (map (line_of bank) rules)));
        places = p.places;
      }
