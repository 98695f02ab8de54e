-- What contracts see of a derivation: its lines, with terms in place of places in its bank.
use Rattle.std.specs.Prelude.{◌≡◌, ℕ, zero, suc, List, [], ◌∷◌, map, All, slice_index, slice_index_or, Option, Some, None, refl}
use Rattle.std.specs.Coded.{Coded, code_by, coded×, coded_list, coded_option, coded_ℕ}
use Rattle.ll_bank.specs.Term.{Term, Var}
use Rattle.ll_bank.specs.Codes.{coded_term}
use Rattle.ll_bank.specs.Nodes.{Nodes, term_tree, term_trees, HasTerm, AllInTerms}
use Rattle.ll_laws.specs.declared.Part.{Part}
use Rattle.ll_laws.specs.declared.Part.TheVariants.{Bounded, Unbounded}
use Rattle.ll_laws.specs.declared.Rule.{Rule}
use Rattle.ll_laws.specs.declared.Rule.TheVariants.{One, Erase, Tensor, With, Left, Right, Bang, Lolli, Imp, Forall, Exists, Use, Clause, Num}
use Rattle.ll_laws.specs.Line.{PartLine, Labels, Free, Line, OneLine, EraseLine, WithLine, LeftLine, RightLine, BangLine, UseLine, TensorLine, LolliLine}
use Rattle.ll_laws.specs.Line.{ImpLine, ForallLine, ExistsLine, ClauseLine, DerivationLines, NumLine}

-- a part
abbrev pub part_line : Part → PartLine
part_line (Bounded s) = Labels s.items
part_line Unbounded = Free

-- a rule, as it is shown in a bank
abbrev pub line_of : Nodes → Rule → Line
line_of bank One = OneLine
line_of bank Erase = EraseLine
line_of bank (Tensor s t) = TensorLine s.items t.items
line_of bank With = WithLine
line_of bank Left = LeftLine
line_of bank Right = RightLine
line_of bank Bang = BangLine
line_of bank (Lolli n) = LolliLine n
line_of bank (Imp n) = ImpLine n
line_of bank (Forall c) = ForallLine c
line_of bank (Exists t) = ExistsLine (term_tree bank t.0)
line_of bank Use = UseLine
line_of bank Num = NumLine
line_of bank (Clause n k ts ps) = ClauseLine n k (term_trees bank ts.items) (map part_line ps.items)

-- the places of a rule are in the bank
abbrev pub HasLine : Nodes → Rule → Type 0
HasLine bank (Exists t) = HasTerm bank t.0
HasLine bank (Clause n k ts ps) = AllInTerms bank ts.items
HasLine bank _ = Unit {0}

-- the places of all rules are in the bank
abbrev pub HasLines : Nodes → List Rule → Type 0
HasLines bank rs = All (HasLine bank) rs

-- ---- by which a proof tells derivations apart

-- a part, told apart
abbrev part_code : Coded PartLine
part_code = code_by (Option (List ℕ)) (coded_option (coded_list coded_ℕ)) split join same
  where
    split : PartLine → Option (List ℕ)
    split (Labels s) = Some s
    split Free = None

    join : Option (List ℕ) → PartLine
    join (Some s) = Labels s
    join None = Free

    same : (p : PartLine) → join (split p) ≡ p
    same (Labels s) = refl
    same Free = refl

-- the fields of a line under one number for its rule
abbrev Fields : Type 0
Fields = ℕ × (List ℕ × (List ℕ × (List Term × List PartLine)))

-- the line of these fields
abbrev line_by : ℕ → List ℕ → List ℕ → List Term → List PartLine → Line
line_by zero m n ts ps = OneLine
line_by (suc zero) m n ts ps = EraseLine
line_by (suc (suc zero)) m n ts ps = WithLine
line_by (suc (suc (suc zero))) m n ts ps = LeftLine
line_by (suc (suc (suc (suc zero)))) m n ts ps = RightLine
line_by (suc (suc (suc (suc (suc zero))))) m n ts ps = BangLine
line_by (suc (suc (suc (suc (suc (suc zero)))))) m n ts ps = UseLine
line_by (suc (suc (suc (suc (suc (suc (suc zero))))))) m n ts ps = TensorLine m n
line_by (suc (suc (suc (suc (suc (suc (suc (suc zero)))))))) m n ts ps = LolliLine (slice_index m 0)
line_by (suc (suc (suc (suc (suc (suc (suc (suc (suc zero))))))))) m n ts ps = ImpLine (slice_index m 0)
line_by (suc (suc (suc (suc (suc (suc (suc (suc (suc (suc zero)))))))))) m n ts ps = ForallLine (slice_index m 0)
line_by (suc (suc (suc (suc (suc (suc (suc (suc (suc (suc (suc zero))))))))))) m n ts ps = ExistsLine (slice_index_or ts 0 (Var 0))
line_by (suc (suc (suc (suc (suc (suc (suc (suc (suc (suc (suc (suc zero)))))))))))) m n ts ps = ClauseLine (slice_index m 0) (slice_index n 0) ts ps
line_by k m n ts ps = NumLine

-- the fields of a line
abbrev fields : Line → Fields
fields OneLine = (0, ([], ([], ([], []))))
fields EraseLine = (1, ([], ([], ([], []))))
fields WithLine = (2, ([], ([], ([], []))))
fields LeftLine = (3, ([], ([], ([], []))))
fields RightLine = (4, ([], ([], ([], []))))
fields BangLine = (5, ([], ([], ([], []))))
fields UseLine = (6, ([], ([], ([], []))))
fields (TensorLine s t) = (7, (s, (t, ([], []))))
fields (LolliLine n) = (8, (n ∷ [], ([], ([], []))))
fields (ImpLine n) = (9, (n ∷ [], ([], ([], []))))
fields (ForallLine c) = (10, (c ∷ [], ([], ([], []))))
fields (ExistsLine t) = (11, ([], ([], (t ∷ [], []))))
fields (ClauseLine n k ts ps) = (12, (n ∷ [], (k ∷ [], (ts, ps))))
fields NumLine = (13, ([], ([], ([], []))))

-- a line has its fields
pub fields-line : (l : Line) → (let f = fields l in line_by f.0 f.1.0 f.1.1.0 f.1.1.1.0 f.1.1.1.1) ≡ l
fields-line OneLine = refl
fields-line EraseLine = refl
fields-line WithLine = refl
fields-line LeftLine = refl
fields-line RightLine = refl
fields-line BangLine = refl
fields-line UseLine = refl
fields-line (TensorLine s t) = refl
fields-line (LolliLine n) = refl
fields-line (ImpLine n) = refl
fields-line (ForallLine c) = refl
fields-line (ExistsLine t) = refl
fields-line (ClauseLine n k ts ps) = refl
fields-line NumLine = refl

-- a line, told apart
abbrev line_code : Coded Line
line_code =
    code_by Fields (coded× coded_ℕ (coded× (coded_list coded_ℕ) (coded× (coded_list coded_ℕ) (coded× (coded_list coded_term) (coded_list part_code))))) fields
    (λ f. line_by f.0 f.1.0 f.1.1.0 f.1.1.1.0 f.1.1.1.1) fields-line

-- a derivation, told apart
abbrev pub derivation_code : Coded DerivationLines
derivation_code =
    code_by (List Term × List Line) (coded× (coded_list coded_term) (coded_list line_code)) (λ d. (d.asked, d.nodes)) (λ p. record { asked = p.0; nodes = p.1 })
    (λ _. refl)
