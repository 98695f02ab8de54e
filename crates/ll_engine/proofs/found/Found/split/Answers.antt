use Rattle.std.proofs.Common.{◌≡◌, ◌<◌, List, [], ◌∷◌, refl, sym, subst, reverse, length, arith, rules}
use Rattle.ll_laws.specs.declared.Candidate.{Candidate}
use Rattle.ll_engine.specs.Matches.{all_found}
use Rattle.ll_engine.proofs.found.Found.split.Goals as goal

short : {A : Type 0} (xs : List A) → length xs < 2 → reverse xs ≡ xs
short [] h = refl
short (x ∷ []) h = refl
short (x ∷ y ∷ zs) h = absurd (omega arith)

pub returns-clause-none : goal.returns-clause-none
returns-clause-none c = _

pub returns-then-len-lt2-clause-some : goal.returns-then-len-lt2-clause-some
returns-then-len-lt2-clause-some c =
    let few : length c.args.self.others.items < 2 = omega (arith, c.len.ensures, c.args.self.others.ok.0, c.if-len-lt2.true) in
    subst (λ (ys : List Candidate). all_found c.args.self ≡ c.in_ok-first.first ∷ ys) (sym (short c.args.self.others.items few)) (search rules)
