use Rattle.std.proofs.Common.{◌≡◌, ◌∙◌, take, arith, ◌≤◌, length}
use Rattle.std.proofs.lemmas.List.{take-append-le, take_all}
use Rattle.ll_prooftext.proofs.write.Goals as goal

pub returns-in-Err-clause-refused : goal.returns-in-Err-clause-refused
returns-in-Err-clause-refused c =
    let old = c.args.out.now.items in let b = c.in-Err.ensures.begun in
    let n : c.len-before.result ≡ length old = c.len-before.ensures ∙ c.args.out.now.ok.0 in
    let fits : length old ≤ length old = omega arith in
    c.truncate.ensures.items
    ∙ ((λ i. take (n i) (b.is i)) ∙ (take-append-le (length old) old b.written fits ∙ take_all (length old) old fits))
