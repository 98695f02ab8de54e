use Rattle.std.proofs.Common.{refl}
use Rattle.ll_parser.proofs.stored.Shown.{finished-load, rest-of}
use Rattle.std.proofs.Common.{◌<◌, ◌≤◌, length, All, sym, subst, arith}
use Rattle.std.proofs.lemmas.Result.{IfOk-from_err}
use Rattle.ll_parser.specs.declared.RawAt.{RawAt}
use Rattle.ll_parser.proofs.stored.Shown.{all-dropped}
use Rattle.ll_parser.proofs.machines.Handing.{grows-one}
use Rattle.ll_parser.proofs.waiting.Waiting.finish_load.Goals as goal

pub returns-clause-gives : goal.returns-clause-gives
returns-clause-gives c = record {
  leaves = finished-load c.args.self.now (record { forms = c.add_load.new.self; args = c.truncate.new.self; frames = c.args.self.now.frames }) c.args.at
      c.args.name c.args.goal c.in_ok-load.load c.args.from _
      (rest-of c.as_slice-args.result.now c.args.self.now.args.items c.args.from c.as_slice-args.ensures.value) c.requires.fits c.in_ok-load.ensures.place
      c.in_ok-load.ensures.added c.truncate.ensures.items refl;
  frames = refl;
}

pub add_load-requires-clause-args : goal.add_load-requires-clause-args
add_load-requires-clause-args c =
    subst (All (λ (a : RawAt). a.0 < length c.args.self.now.forms))
    (sym (rest-of c.as_slice-args.result.now c.args.self.now.args.items c.args.from c.as_slice-args.ensures.value))
    (all-dropped (length c.args.self.now.forms) c.args.from c.args.self.now.args.items c.requires.fits.args)

pub add_load-requires-clause-goal : goal.add_load-requires-clause-goal
add_load-requires-clause-goal c = c.requires.goal

pub returns-in_err-load-clause-gives : goal.returns-in_err-load-clause-gives
returns-in_err-load-clause-gives c = IfOk-from_err c.from_residual.result _ c.from_residual.ensures.0

pub returns-in_err-load-clause-grows : goal.returns-in_err-load-clause-grows
returns-in_err-load-clause-grows c = IfOk-from_err c.from_residual.result _ c.from_residual.ensures.0

pub returns-clause-grows : goal.returns-clause-grows
returns-clause-grows c = grows-one c.args.self.now.forms c.add_load.new.self _ c.in_ok-load.ensures.added

pub offset_bounds-args-from : goal.offset_bounds-args-from
offset_bounds-args-from c = omega (arith, c.args.self.now.args.ok, c.requires.fits.within)

pub slice_bounds-add_load-count : goal.slice_bounds-add_load-count
slice_bounds-add_load-count c = subst (λ xs. c.args.from ≤ length xs) (sym c.as_slice-args.ensures.value) c.requires.fits.within
