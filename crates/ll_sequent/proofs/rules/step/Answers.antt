use Rattle.std.proofs.Common.{map, subst, List, sym, ap, ◌∙◌}
use Rattle.std.proofs.lemmas.Result.{IfOk-from_err}
use Rattle.std.specs.Prelude.{IfOk}
use Rattle.ll_list_laws.proofs.CallerLemmas.{IfOk-each}
use Rattle.ll_bank.specs.declared.At.{At}
use Rattle.ll_bank.specs.Nodes.{term_tree, AllInTerms}
use Rattle.ll_bank.proofs.CallerLemmas.{Extends-refl}
use Rattle.ll_laws.specs.Number.{operators_of}
use Rattle.ll_laws.specs.Shown.{module_tree}
use Rattle.ll_laws.specs.Line.{Line, OneLine, EraseLine, TensorLine, WithLine, LeftLine, RightLine, BangLine, ExistsLine, NumLine}
use Rattle.ll_sequent.specs.Copied.{copied_places}
use Rattle.ll_sequent.specs.Judging.{Holds, IsStep}
use Rattle.ll_sequent.proofs.CopyLemmas.{copied_inside}
use Rattle.ll_sequent.specs.Sequents.{sequent_in}
use Rattle.ll_sequent.proofs.RuleLemmas.{makes_step, made_step, made_step_by}
use Rattle.ll_sequent.specs.declared.sequents.Resource.{Resource}
use Rattle.ll_sequent.specs.Constants.{forms_of, AllInForms}
use Rattle.ll_sequent.proofs.ForallLemmas.{forms_held}
use Rattle.ll_sequent.proofs.rules.step.Goals as goal

pub returns-in-One-clause-is : goal.returns-in-One-clause-is
returns-in-One-clause-is c = rw c.in-One.is (makes_step c.args.bank.now OneLine c.args.sequent c.one.result c.args.free.now.items c.one.ensures
    (operators_of c.args.names.now) (map (module_tree c.args.bank.now) c.args.modules.now) c.requires.holds)

pub returns-in-One-clause-keeps : goal.returns-in-One-clause-keeps
returns-in-One-clause-keeps c = Extends-refl c.args.bank.now

pub returns-in-Erase-clause-is : goal.returns-in-Erase-clause-is
returns-in-Erase-clause-is c = rw c.in-Erase.is (makes_step c.args.bank.now EraseLine c.args.sequent c.erase.result c.args.free.now.items c.erase.ensures
    (operators_of c.args.names.now) (map (module_tree c.args.bank.now) c.args.modules.now) c.requires.holds)

pub returns-in-Erase-clause-keeps : goal.returns-in-Erase-clause-keeps
returns-in-Erase-clause-keeps c = Extends-refl c.args.bank.now

pub returns-in-With-clause-is : goal.returns-in-With-clause-is
returns-in-With-clause-is c = rw c.in-With.is (made_step c.args.bank.now WithLine c.args.sequent c.with.result c.args.free.now.items c.with.ensures
    (operators_of c.args.names.now) (map (module_tree c.args.bank.now) c.args.modules.now) c.requires.holds)

pub returns-in-With-clause-keeps : goal.returns-in-With-clause-keeps
returns-in-With-clause-keeps c = Extends-refl c.args.bank.now

pub returns-in-Left-clause-is : goal.returns-in-Left-clause-is
returns-in-Left-clause-is c = rw c.in-Left.is (made_step c.args.bank.now LeftLine c.args.sequent c.left.result c.args.free.now.items c.left.ensures
    (operators_of c.args.names.now) (map (module_tree c.args.bank.now) c.args.modules.now) c.requires.holds)

pub returns-in-Left-clause-keeps : goal.returns-in-Left-clause-keeps
returns-in-Left-clause-keeps c = Extends-refl c.args.bank.now

pub returns-in-Right-clause-is : goal.returns-in-Right-clause-is
returns-in-Right-clause-is c = rw c.in-Right.is (made_step c.args.bank.now RightLine c.args.sequent c.right.result c.args.free.now.items c.right.ensures
    (operators_of c.args.names.now) (map (module_tree c.args.bank.now) c.args.modules.now) c.requires.holds)

pub returns-in-Right-clause-keeps : goal.returns-in-Right-clause-keeps
returns-in-Right-clause-keeps c = Extends-refl c.args.bank.now

pub returns-in-Bang-clause-is : goal.returns-in-Bang-clause-is
returns-in-Bang-clause-is c = rw c.in-Bang.is (made_step c.args.bank.now BangLine c.args.sequent c.bang.result c.args.free.now.items c.bang.ensures
    (operators_of c.args.names.now) (map (module_tree c.args.bank.now) c.args.modules.now) c.requires.holds)

pub returns-in-Bang-clause-keeps : goal.returns-in-Bang-clause-keeps
returns-in-Bang-clause-keeps c = Extends-refl c.args.bank.now

pub returns-in-Tensor-clause-keeps : goal.returns-in-Tensor-clause-keeps
returns-in-Tensor-clause-keeps c = Extends-refl c.args.bank.now

pub returns-in-Lolli-clause-keeps : goal.returns-in-Lolli-clause-keeps
returns-in-Lolli-clause-keeps c = Extends-refl c.args.bank.now

pub returns-in-Imp-clause-keeps : goal.returns-in-Imp-clause-keeps
returns-in-Imp-clause-keeps c = Extends-refl c.args.bank.now

pub returns-in-Num-clause-keeps : goal.returns-in-Num-clause-keeps
returns-in-Num-clause-keeps c = Extends-refl c.args.bank.now

pub returns-in_err-values-in-Clause-clause-keeps : goal.returns-in_err-values-in-Clause-clause-keeps
returns-in_err-values-in-Clause-clause-keeps c = Extends-refl c.args.bank.now

pub returns-in-Tensor-clause-is : goal.returns-in-Tensor-clause-is
returns-in-Tensor-clause-is c =
    let P : Line → Type 0 = λ l. IfOk c.tensor.result (IsStep (operators_of c.args.names.now) (map (module_tree c.args.bank.now) c.args.modules.now) l
    (sequent_in c.args.bank.now c.args.free.now.items c.args.sequent) c.args.bank.now c.args.free.now.items c.args.free.now.items) in
    rw c.in-Tensor.is
    (subst P (λ i. TensorLine (c.deref.ensures.value i) (c.deref-in-Tensor.ensures.value i))
    (made_step c.args.bank.now (TensorLine c.deref.result.now c.deref-in-Tensor.result.now) c.args.sequent c.tensor.result c.args.free.now.items
    c.tensor.ensures (operators_of c.args.names.now) (map (module_tree c.args.bank.now) c.args.modules.now) c.requires.holds))

pub returns-in-Exists-clause-is : goal.returns-in-Exists-clause-is
returns-in-Exists-clause-is c =
    let P : At → Type 0 = λ v. IfOk c.exists.result (IsStep (operators_of c.args.names.now) (map (module_tree c.args.bank.now) c.args.modules.now)
    (ExistsLine (term_tree c.args.bank.now v.0)) (sequent_in c.args.bank.now c.args.free.now.items c.args.sequent) c.exists.new.bank c.args.free.now.items
    c.args.free.now.items) in
    rw c.in-Exists.is (subst P c.copy_at-value.ensures (IfOk-each c.exists.result _ _ (λ step h. h (operators_of c.args.names.now)
    (map (module_tree c.args.bank.now) c.args.modules.now) c.args.free.now.items c.requires.holds) c.exists.ensures.is))

pub forall-requires-clause-free : goal.forall-requires-clause-free
forall-requires-clause-free c =
    let P : List Resource → Type 0 = λ rs. AllInForms c.args.bank.now (forms_of rs) in
    subst P (sym c.deref-in-Forall.ensures.value) (forms_held (map (module_tree c.args.bank.now) c.args.modules.now) c.args.bank.now c.args.free.now.items
    c.requires.holds.unbounded)

pub forall-requires-clause-bounded : goal.forall-requires-clause-bounded
forall-requires-clause-bounded c = forms_held (map (module_tree c.args.bank.now) c.args.modules.now) c.args.bank.now c.args.sequent.bounded.items
    c.requires.holds.sequent.bounded

pub returns-in-Num-clause-is : goal.returns-in-Num-clause-is
returns-in-Num-clause-is c = rw c.in-Num.is (made_step_by (operators_of c.args.names.now) c.args.bank.now NumLine c.args.sequent
    c.num.result c.args.free.now.items c.num.ensures (map (module_tree c.args.bank.now) c.args.modules.now) c.requires.holds)

pub returns-in-Lolli-clause-is : goal.returns-in-Lolli-clause-is
returns-in-Lolli-clause-is c =
    let e = rw c.deref-in-Lolli.ensures.value at c.lolli.ensures in
    rw c.in-Lolli.is (IfOk-each c.lolli.result _ _ (λ step h. h (operators_of c.args.names.now) (map (module_tree c.args.bank.now) c.args.modules.now)
    c.requires.holds) e)

pub returns-in-Imp-clause-is : goal.returns-in-Imp-clause-is
returns-in-Imp-clause-is c = rw c.in-Imp.is (IfOk-each c.imp.result _ _ (λ step h. h (operators_of c.args.names.now)
    (map (module_tree c.args.bank.now) c.args.modules.now) c.requires.holds) c.imp.ensures)

pub returns-in-Forall-clause-is : goal.returns-in-Forall-clause-is
returns-in-Forall-clause-is c =
    let e = rw c.deref-in-Forall.ensures.value at c.forall.ensures.is in
    rw c.in-Forall.is (IfOk-each c.forall.result _ _ (λ step h. h (operators_of c.args.names.now) (map (module_tree c.args.bank.now) c.args.modules.now)
    c.requires.holds) e)

pub returns-in-Use-clause-is : goal.returns-in-Use-clause-is
returns-in-Use-clause-is c =
    rw c.in-Use.is (IfOk-each c.load.result _ _ (λ step h. h (operators_of c.args.names.now) c.args.free.now.items c.requires.holds) c.load.ensures.is)

pub returns-in_ok-values-in-Clause-clause-is : goal.returns-in_ok-values-in-Clause-clause-is
returns-in_ok-values-in-Clause-clause-is c =
    let places = c.deref-in-Clause-2.ensures.value ∙ (c.in_ok-values-in-Clause.ensures
    ∙ ap (λ ts. copied_places c.args.copies.now ts) c.deref-in-Clause.ensures.value) in
    let e = rw (places, c.deref-in-Clause-3.ensures.value, c.deref-in-Clause-4.ensures.value) at c.clause.ensures.is in
    rw c.in-Clause.is (IfOk-each c.clause.result _ _ (λ step h. h (operators_of c.args.names.now)) e)

pub clause-requires-clause-inside : goal.clause-requires-clause-inside
clause-requires-clause-inside c =
    let below = rw c.in-Clause.is at c.requires.reach in
    let places = c.deref-in-Clause-2.ensures.value ∙ (c.in_ok-values-in-Clause.ensures
    ∙ ap (λ ts. copied_places c.args.copies.now ts) c.deref-in-Clause.ensures.value) in
    let P : List At → Type 0 = AllInTerms c.args.bank.now in
    subst P (sym places) (copied_inside c.args.bank.now c.args.copies.now c.in-Clause.terms.items c.requires.inside below)

pub one-requires : goal.one-requires
one-requires c = c.requires.holds.sequent.goal.inside

pub erase-requires : goal.erase-requires
erase-requires c = c.requires.holds.sequent.goal.inside

pub tensor-requires : goal.tensor-requires
tensor-requires c = c.requires.holds.sequent.goal.inside

pub with-requires : goal.with-requires
with-requires c = c.requires.holds.sequent.goal.inside

pub left-requires : goal.left-requires
left-requires c = c.requires.holds.sequent.goal.inside

pub right-requires : goal.right-requires
right-requires c = c.requires.holds.sequent.goal.inside

pub bang-requires : goal.bang-requires
bang-requires c = c.requires.holds.sequent.goal.inside

pub lolli-requires : goal.lolli-requires
lolli-requires c = c.requires.holds.sequent.goal.inside

pub imp-requires : goal.imp-requires
imp-requires c = c.requires.holds.sequent.goal.inside

pub num-requires : goal.num-requires
num-requires c = c.requires.holds.sequent.goal.inside

pub forall-requires-clause-goal : goal.forall-requires-clause-goal
forall-requires-clause-goal c = c.requires.holds.sequent.goal.inside

pub forall-requires-clause-heads : goal.forall-requires-clause-heads
forall-requires-clause-heads c = c.requires.holds.sequent.goal.sound.heads

pub exists-requires-clause-goal : goal.exists-requires-clause-goal
exists-requires-clause-goal c = c.requires.holds.sequent.goal.inside

pub exists-requires-clause-heads : goal.exists-requires-clause-heads
exists-requires-clause-heads c = c.requires.holds.sequent.goal.sound.heads

pub load-requires-clause-has : goal.load-requires-clause-has
load-requires-clause-has c = c.requires.has

pub load-requires-clause-modules : goal.load-requires-clause-modules
load-requires-clause-modules c = c.requires.modules

pub load-requires-clause-sequent : goal.load-requires-clause-sequent
load-requires-clause-sequent c = c.requires.holds.sequent

pub returns-in-Forall-clause-keeps : goal.returns-in-Forall-clause-keeps
returns-in-Forall-clause-keeps c = c.forall.ensures.keeps

pub returns-in-Exists-clause-keeps : goal.returns-in-Exists-clause-keeps
returns-in-Exists-clause-keeps c = c.exists.ensures.keeps

pub returns-in-Use-clause-keeps : goal.returns-in-Use-clause-keeps
returns-in-Use-clause-keeps c = c.load.ensures.keeps

pub returns-in_ok-values-in-Clause-clause-keeps : goal.returns-in_ok-values-in-Clause-clause-keeps
returns-in_ok-values-in-Clause-clause-keeps c = c.clause.ensures.keeps

pub clause-requires-clause-has : goal.clause-requires-clause-has
clause-requires-clause-has c = c.requires.has

pub clause-requires-clause-holds : goal.clause-requires-clause-holds
clause-requires-clause-holds c =
    let P : List Resource → Type 0 = λ rs. Holds (map (module_tree c.args.bank.now) c.args.modules.now) c.args.bank.now rs c.args.sequent in
    subst P (sym c.deref-in-Clause-4.ensures.value) c.requires.holds

pub returns-in_err-values-in-Clause-clause-is : goal.returns-in_err-values-in-Clause-clause-is
returns-in_err-values-in-Clause-clause-is c = IfOk-from_err c.from_residual.result _ c.from_residual.ensures.0
