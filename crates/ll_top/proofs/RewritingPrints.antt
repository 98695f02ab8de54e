-- What a print writes is the program that it was made of.
use Rattle.std.proofs.Common.{◌≡◌, ℕ, List, ap, sym, subst, ◌∙◌, refl, Some}
use Rattle.ll_edge.specs.Texts.{Texts}
use Rattle.ll_lexer.specs.Reading.{LexedText, IsLexed}
use Rattle.ll_parser.specs.Bare.{bare_program}
use Rattle.ll_parser.specs.Printed.{program_text}
use Rattle.ll_parser.specs.Raw.{ProgramTree}
use Rattle.ll_parser.specs.Reads.{Reads, IsWhole}
use Rattle.ll_parser.specs.Text.{programs}
use Rattle.ll_parser.specs.Tokens.{toks_of}
use Rattle.ll_parser.proofs.CallerLemmas.{whole-read}
use Rattle.ll_top.specs.forms.Words.{IsPrint}
use Rattle.ll_top.proofs.wording.FirstWords.{bad-not-in-form, print-in-form, print-kind}
use Rattle.ll_top.specs.texts.Judging.{IsProgramText}
use Rattle.ll_top.specs.texts.Outcome.{AnyName, NoName, IsPrintedAs, PrintComesTo, printed, print_failed}
use Rattle.ll_top.proofs.verdicts.ProvedLemmas.{cause-not-zero}
use Rattle.ll_top.specs.Calls.{ComesTo, misused, prints}
use Rattle.ll_top.specs.Rewriting.{PrintedIsPrinted, PrintedIsAside}
use Rattle.ll_top.proofs.Accepted.{few}
use Rattle.ll_top.proofs.RewritingTexts.{printed-same}
use Rattle.ll_top.proofs.RewritingShelves.{layout-aside}
use Rattle.ll_top.proofs.outcomes.CallLemmas.{comes-kind}
use Rattle.ll_top.proofs.outcomes.LawLemmas.{Laws, one-program, one-read}
use Rattle.ll_top.proofs.outcomes.OneText.{some-same}

-- what is printed of a whole program is read as it again
abbrev pub IsReadAgain : Type 0
IsReadAgain =
    (p : ProgramTree) → IsWhole programs p → (lexed : LexedText) × (lexed.text ≡ program_text p) × IsLexed lexed × (q : ProgramTree)
    × Reads programs 1000 (toks_of lexed) q × (bare_program q ≡ bare_program p)

-- the words of a print come to what it comes to
print-of : (words : List (List ℕ)) (texts : Texts) (name : List ℕ) (status : ℕ) (text : List ℕ) → IsPrint words name
    → ComesTo words (Some texts) AnyName NoName status text → PrintComesTo (Some texts) AnyName NoName name status text
print-of words texts name status text is (prints other r c) =
    subst (λ n. PrintComesTo (Some texts) AnyName NoName n status text) (some-same other name _ r.program is.program) c
print-of words texts name status text is (misused n b s t) = absurd (bad-not-in-form words n b (print-in-form words is.form))
print-of words texts name status text is c =
    absurd (let k = sym (print-kind words is.form) ∙ comes-kind words (Some texts) AnyName NoName status text c refl in cc)

-- a text that was printed is that of a program that was read
printed-of : (texts : Texts) (name text : List ℕ) → PrintComesTo (Some texts) AnyName NoName name 0 text → IsPrintedAs (Some texts) name text
printed-of texts name text (printed p e) = p
printed-of texts name text (print_failed c h e f) = absurd (cause-not-zero c (sym e))

-- and it is read as this program again
record IsAgain (text : List ℕ) (tree : ProgramTree) : Type 0 where
  other : ProgramTree
  is_program : IsProgramText text other
  same : bare_program other ≡ bare_program tree

again : IsReadAgain → (texts : Texts) (name text : List ℕ) (p : IsPrintedAs (Some texts) name text) → IsAgain text p.tree
again law texts name text p =
    let h = p.is_program in
    let r = law p.tree (whole-read programs h.lexed p.tree h.is_lexed (few h.lexed p.text h.is_lexed h.of_text p.text_read.within) h.reads) in
    record {
      other = r.3;
      is_program = record { lexed = r.0; of_text = r.1 ∙ sym p.is; is_lexed = r.2; reads = r.4 };
      same = r.5;
    }

pub printed-again : IsReadAgain → PrintedIsPrinted
printed-again law words other name more text texts later is comes is_other read =
    let p = printed-of texts name text (print-of words texts name 0 text is comes) in
    let a = again law texts name text p in
    prints more is_other (printed (record {
      text = text;
      tree = a.other;
      text_read = read;
      is_program = a.is_program;
      is = p.is ∙ sym (printed-same p.tree a.other a.same);
    }) refl)

pub printed-aside : Laws → IsReadAgain → PrintedIsAside
printed-aside laws law words other name source text tree old new is comes read faultless there others names =
    let p = printed-of old name text (print-of words old name 0 text is comes) in
    let a = again law old name text p in
    let e = one-read laws old name p.text source p.text_read read in
    let f = one-program laws source p.tree tree (subst (λ x. IsProgramText x p.tree) e p.is_program) faultless.is_program in
    layout-aside laws other name old new (record {
      text = source;
      other = text;
      old_read = read;
      new_read = there;
      one = record {
        tree = tree;
        other_tree = a.other;
        is_faultless = faultless;
        is_other = a.is_program;
        same = a.same ∙ ap bare_program f;
      };
      others = others;
    }) names
