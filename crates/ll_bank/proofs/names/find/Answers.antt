use Rattle.std.proofs.Common.{◌≡◌, ℕ, ◌+◌, Option, Some, None, length, ap, sym, subst, ◌∙◌}
use Rattle.ll_bank.specs.Names.{number_of}
use Rattle.ll_bank.proofs.NameLaws.{number_of-front, number_of-behind, number_of-neither}
use Rattle.ll_bank.proofs.names.find.Goals as goal

pub returns-in-Some-find-clause-number : goal.returns-in-Some-find-clause-number
returns-in-Some-find-clause-number c =
    let here = subst (λ ts. number_of ts c.args.text.now ≡ Some c.in-Some-find.place) c.deref.ensures (sym c.in-Some-find.ensures) in
    rw c.in-Some.is (sym (number_of-front c.in-Some.texts.value c.args.rest.now c.args.text.now c.in-Some-find.place here))

pub returns-in-None-clause-number : goal.returns-in-None-clause-number
returns-in-None-clause-number c =
    let none = subst (λ ts. number_of ts c.args.text.now ≡ None) c.deref.ensures (sym c.in_default-find.ensures) in
    rw c.in-Some.is (sym (number_of-neither c.in-Some.texts.value c.args.rest.now c.args.text.now none (sym c.in-None.ensures)))

pub returns-in-Some-find-2-clause-number : goal.returns-in-Some-find-2-clause-number
returns-in-Some-find-2-clause-number c =
    let none = subst (λ ts. number_of ts c.args.text.now ≡ None) c.deref.ensures (sym c.in_default-find.ensures) in
    let before = c.len.ensures.len ∙ ap length c.deref-in-Some-find-2.ensures in
    rw c.in-Some.is (ap (λ n. let o : Option ℕ = Some (n + c.in-Some-find-2.place) in o) before
    ∙ sym (number_of-behind c.in-Some.texts.value c.args.rest.now c.args.text.now c.in-Some-find-2.place none (sym c.in-Some-find-2.ensures)))

pub returns-in-Some-find-clause-neither : goal.returns-in-Some-find-clause-neither
returns-in-Some-find-clause-neither c = _

pub returns-in-Some-find-2-clause-neither : goal.returns-in-Some-find-2-clause-neither
returns-in-Some-find-2-clause-neither c = _
