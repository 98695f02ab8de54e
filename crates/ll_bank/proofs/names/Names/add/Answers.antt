use Rattle.std.proofs.Common.{◌≡◌, ℕ, [], ◌∷◌, ◌++◌, Option, Some, None, ap, sym, subst, ◌∙◌}
use Rattle.std.specs.List.{IsDistinct}
use Rattle.std.specs.Str.{bytes_eq}
use Rattle.ll_bank.specs.Names.{number_of, front_texts}
use Rattle.ll_bank.proofs.NameLaws.{slice_get-number_of, with_name-present, with_name-absent, number_of-pushed, IsDistinct-pushed, pushed_behind}
use Rattle.ll_bank.proofs.names.Names.add.Goals as goal

-- the text was there
pub returns-in-Some-clause-number : goal.returns-in-Some-clause-number
returns-in-Some-clause-number c = subst (λ texts. number_of texts c.args.text.now ≡ Some c.in-Some.number) c.self.view_is (sym c.in-Some.ensures.number)

pub returns-in-Some-clause-text : goal.returns-in-Some-clause-text
returns-in-Some-clause-text c = slice_get-number_of c.args.self.now c.args.text.now c.in-Some.number (returns-in-Some-clause-number c)

pub returns-in-Some-clause-added : goal.returns-in-Some-clause-added
returns-in-Some-clause-added c = sym (with_name-present c.args.self.now c.args.text.now c.in-Some.number (returns-in-Some-clause-number c))

-- the text was added
pub push-requires : goal.push-requires
push-requires c = c.in_default.ensures.neither

missing : (c : goal.In_ok-push) → number_of c.args.self.now c.args.text.now ≡ None
missing c = subst (λ texts. number_of texts c.args.text.now ≡ None) c.self.view_is (sym c.in_default.ensures.number)

pushed : (c : goal.In_ok-push) → front_texts c.self.inside.front ++ c.push.new.self ≡ c.args.self.now ++ c.args.text.now ∷ []
pushed c =
    pushed_behind (front_texts c.self.inside.front) c.self.inside.rest c.push.new.self c.args.self.now c.args.text.now c.self.view_is
    c.in_ok-push.ensures.pushed

pub returns-clause-added : goal.returns-clause-added
returns-clause-added c = pushed c ∙ sym (with_name-absent c.args.self.now c.args.text.now (missing c))

pub returns-clause-distinct : goal.returns-clause-distinct
returns-clause-distinct c =
    subst (IsDistinct bytes_eq) (sym (pushed c)) (IsDistinct-pushed c.args.self.now c.args.text.now
    (subst (IsDistinct bytes_eq) c.self.view_is c.self.invariant) (missing c))

pub invariant_of-self-2 : goal.invariant_of-self-2
invariant_of-self-2 c = returns-clause-distinct c

pub returns-clause-number : goal.returns-clause-number
returns-clause-number c =
    ap (λ texts. number_of texts c.args.text.now) (pushed c)
    ∙ (number_of-pushed c.args.self.now c.args.text.now (missing c) ∙ ap (λ n. let o : Option ℕ = Some n in o) (sym c.len-next.ensures.len))

pub returns-clause-text : goal.returns-clause-text
returns-clause-text c = slice_get-number_of _ c.args.text.now c.len-next.result (returns-clause-number c)
