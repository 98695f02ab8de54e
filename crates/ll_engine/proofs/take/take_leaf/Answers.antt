use Rattle.std.proofs.Common.{refl, ap, sym, subst}
use Rattle.std.specs.List.{Contains}
use Rattle.std.proofs.lemmas.Result.{IfOk-weaker}
use Rattle.ll_store.specs.Tables.{table_of}
use Rattle.ll_laws.specs.Attempt.{tries}
use Rattle.ll_freeze.specs.Parts.{parts_of}
use Rattle.ll_freeze.proofs.CallerLemmas.{later_same, later_then}
use Rattle.ll_engine.proofs.machine.ReadLemmas.{fits_table}
use Rattle.ll_engine.proofs.machine.Keeping.{store_extends, later_store}
use Rattle.ll_engine.proofs.inferences.Asking.{within, begins, heads, vars, front_shown, args_read, is_asked}
use Rattle.ll_engine.proofs.inferences.Closing.{IsGrown, attempts_same}
use Rattle.ll_engine.proofs.inferences.TakeLemmas.{at_their_labels}
use Rattle.ll_engine.proofs.inferences.TakingLemmas.{no_entry}
use Rattle.ll_engine.proofs.take.take_leaf.Goals as goal
use Rattle.ll_engine.proofs.take.take_leaf.Goals.{After-read_args}

-- the machine has places of the arguments, in a bank that may have more
grows : (c : After-read_args) → IsGrown (parts_of c.args.machine.now) (parts_of (record (c.args.machine.now) { store = c.read_args.new.store }))
grows c = let e = c.read_args.ensures.cells in record {
  problem = refl;
  modules = refl;
  bank = c.read_args.ensures.keeps;
  bound = ap (λ x. (table_of x.cells).bound) e;
  levels = ap (λ x. (table_of x.cells).levels) e;
  resources = refl;
  left = refl;
  eigens = refl;
  terms = refl;
  steps = refl;
  top = c.requires.fits.top;
}

pub returns-in_default-clause-attempts : goal.returns-in_default-clause-attempts
returns-in_default-clause-attempts c =
    let m = parts_of c.args.machine.now in
    no_entry m _ _ c.args.candidate (front_shown m c.args.atom c.args.position c.requires.fits c.requires.front) c.in_default.ensures.none

pub returns-in_default-clause-later : goal.returns-in_default-clause-later
returns-in_default-clause-later c = later_same c.args.machine.now

pub place_with-requires : goal.place_with-requires
place_with-requires c = at_their_labels (parts_of c.args.machine.now) c.requires.fits

pub sign_of_atom-sign-requires-clause-inside : goal.sign_of_atom-sign-requires-clause-inside
sign_of_atom-sign-requires-clause-inside c = c.requires.front.seen.parts

pub sign_of_atom-sign-requires-clause-begins : goal.sign_of_atom-sign-requires-clause-begins
sign_of_atom-sign-requires-clause-begins c = begins (parts_of c.args.machine.now) c.args.atom c.args.position c.requires.fits c.requires.front

pub read_args-requires-clause-table : goal.read_args-requires-clause-table
read_args-requires-clause-table c = fits_table (parts_of c.args.machine.now) c.requires.fits

pub read_args-requires-clause-within : goal.read_args-requires-clause-within
read_args-requires-clause-within c = within (parts_of c.args.machine.now) c.args.atom c.args.position c.requires.fits c.requires.front

pub read_args-requires-clause-atom : goal.read_args-requires-clause-atom
read_args-requires-clause-atom c = c.requires.front.seen.parts

pub read_args-requires-clause-heads : goal.read_args-requires-clause-heads
read_args-requires-clause-heads c = heads (parts_of c.args.machine.now) c.args.atom c.args.position c.requires.fits c.requires.front

pub read_args-requires-clause-vars : goal.read_args-requires-clause-vars
read_args-requires-clause-vars c = vars (parts_of c.args.machine.now) c.args.atom c.args.position c.requires.fits c.requires.front

pub read_args-requires-clause-begins : goal.read_args-requires-clause-begins
read_args-requires-clause-begins c = begins (parts_of c.args.machine.now) c.args.atom c.args.position c.requires.fits c.requires.front

pub take_leaf_of-requires-clause-fits : goal.take_leaf_of-requires-clause-fits
take_leaf_of-requires-clause-fits c =
    let r = grows (goal.at.take_leaf_of-requires-clause-fits c).After-read_args in
    (args_read (parts_of c.args.machine.now) c.args.atom c.args.position c.requires.fits c.requires.front _ r refl refl).fits

pub take_leaf_of-requires-clause-front : goal.take_leaf_of-requires-clause-front
take_leaf_of-requires-clause-front c =
    let r = grows (goal.at.take_leaf_of-requires-clause-front c).After-read_args in
    is_asked (parts_of c.args.machine.now) c.args.atom c.args.position c.requires.fits c.requires.front _ r refl refl
    c.sign_of_atom-sign.result c.read_args.new.args.items c.sign_of_atom-sign.ensures c.in_ok-read_args.ensures.built

pub take_leaf_of-requires-clause-candidate : goal.take_leaf_of-requires-clause-candidate
take_leaf_of-requires-clause-candidate c =
    let r = grows (goal.at.take_leaf_of-requires-clause-candidate c).After-read_args in
    subst (λ s. Contains (tries s) c.args.candidate)
    (sym (args_read (parts_of c.args.machine.now) c.args.atom c.args.position c.requires.fits c.requires.front _ r refl refl).state) c.requires.candidate

pub returns-clause-attempts : goal.returns-clause-attempts
returns-clause-attempts c =
    let r = grows (goal.at.returns-clause-attempts c).After-read_args in
    let w = args_read (parts_of c.args.machine.now) c.args.atom c.args.position c.requires.fits c.requires.front _ r refl refl in
    IfOk-weaker c.take_leaf_of.result _ _ (λ b h. attempts_same (parts_of c.args.machine.now) _ _ c.args.candidate b w h) c.take_leaf_of.ensures.attempts

pub returns-clause-later : goal.returns-clause-later
returns-clause-later c =
    let m = c.args.machine.now in
    IfOk-weaker c.take_leaf_of.result _ _
    (λ b h. later_then m _ _ (later_store m (record m { store = c.read_args.new.store; args = c.read_args.new.args }) refl refl
    (store_extends m.store c.read_args.new.store c.read_args.ensures.keeps c.read_args.ensures.cells) refl refl refl refl) h) c.take_leaf_of.ensures.later
