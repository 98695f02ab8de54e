use Rattle.std.proofs.Common.{◌≡◌, ◌-◌, length, get_or, false, ap, sym, ◌∙◌, arith}
use Rattle.std.specs.Prelude.{reverse, Some}
use Rattle.std.proofs.lemmas.List.{length-reverse, get_or-reverse}
use Rattle.ll_resources.specs.Seen.{seen}
use Rattle.ll_resources.specs.declared.state.Stored.{Stored}
use Rattle.ll_resources.proofs.SeenLemmas.{get-seen}
use Rattle.ll_resources.proofs.state.State.entry.Goals as goal

pub returns : goal.returns
returns g c =
    let x = c.index-stored.result.now in let f = c.args.from_front in
    let es = c.args.self.now.entries.items in let bs = c.args.self.now.live.items in
    let n : c.len.result ≡ length es = omega (arith, c.len.ensures, c.args.self.now.entries.ok.0) in
    let at : x ≡ get_or es (length es - 1 - f) x = c.index-stored.ensures ∙ ap (λ m. get_or es (m - 1 - f) x) n in
    let back : get_or (reverse es) f x ≡ x = get_or-reverse es f x c.requires ∙ sym at in
    let k = length-reverse es in
    get-seen (reverse es) (reverse bs) f x (omega (arith, k, c.requires))
    ∙ (ap (λ (y : Stored g.row.C.Denot). Some (seen y (get_or (reverse bs) f false))) back
    ∙ ap (λ b. Some (seen x b)) (sym (c.mark_at.ensures ∙ ap (λ xs. get_or (reverse xs) f false) c.as_slice.ensures.value)))
