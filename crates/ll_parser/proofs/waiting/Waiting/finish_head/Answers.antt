use Rattle.std.proofs.lemmas.Result.{IfOk-from_err}
use Rattle.std.proofs.Common.{refl}
use Rattle.ll_parser.proofs.stored.Shown.{finished-head, rest-of}
use Rattle.std.proofs.Common.{◌<◌, length, All, sym, subst}
use Rattle.ll_parser.specs.declared.RawAt.{RawAt}
use Rattle.ll_parser.proofs.stored.Shown.{all-dropped}
use Rattle.ll_parser.proofs.machines.Handing.{grows-one}
use Rattle.ll_parser.proofs.waiting.Waiting.finish_head.Goals as goal

pub returns-clause-gives : goal.returns-clause-gives
returns-clause-gives c =
    finished-head c.args.self.now (record { forms = c.add_head.new.self; args = c.truncate.new.self; frames = c.args.self.now.frames }) c.args.name
    c.in_ok-at.at c.args.from _
    (rest-of c.as_slice-args.result.now c.args.self.now.args.items c.args.from c.as_slice-args.ensures.value) c.requires c.in_ok-at.ensures.place
    c.in_ok-at.ensures.added c.truncate.ensures.items refl

pub returns-in_err-at-clause-gives : goal.returns-in_err-at-clause-gives
returns-in_err-at-clause-gives c = IfOk-from_err c.from_residual.result _ c.from_residual.ensures.0

pub returns-in_err-at-clause-grows : goal.returns-in_err-at-clause-grows
returns-in_err-at-clause-grows c = IfOk-from_err c.from_residual.result _ c.from_residual.ensures.0

pub add_head-requires : goal.add_head-requires
add_head-requires c =
    subst (All (λ (a : RawAt). a.0 < length c.args.self.now.forms))
    (sym (rest-of c.as_slice-args.result.now c.args.self.now.args.items c.args.from c.as_slice-args.ensures.value))
    (all-dropped (length c.args.self.now.forms) c.args.from c.args.self.now.args.items c.requires.args)

pub returns-clause-grows : goal.returns-clause-grows
returns-clause-grows c = grows-one c.args.self.now.forms c.add_head.new.self _ c.in_ok-at.ensures.added
