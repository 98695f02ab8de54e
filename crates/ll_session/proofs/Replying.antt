-- Lines that are replied to, one after the other.
use Rattle.std.proofs.Common.{◌≡◌, ℕ, ◌+◌, true, false, List, [], ◌∷◌, ◌++◌, length, refl, sym, subst, arith, append_assoc, append-nil, length-append}
use Rattle.std.specs.Prelude.{Result, Ok, Err, IfOk, OnOk, OnErr}
use Rattle.ll_list_laws.proofs.CallerLemmas.{OnOk-weaker as on-ok, OnErr-weaker as on-err}
use Rattle.ll_lexer.specs.declared.Fault.{Fault}
use Rattle.ll_laws.specs.Problem.{ProblemTree}
use Rattle.ll_order.specs.Outlets.{Gives}
use Rattle.ll_parser.specs.Raw.{ProgramTree}
use Rattle.ll_session.specs.Lines.{lines, is_query_line}
use Rattle.ll_session.specs.Queries.{QueryLine, LineAsks, HaveQueries, no_line, passed, asked, AreQueries}
use Rattle.ll_session.specs.Replied.{Answers, StopsShort, refused, not_begun, Replies, RefusesLine, line_refused, line_not_begun, IsAnsweredTo}

-- ---- answers that may be refused

pub err-at : {T E A : Type 0} (Q P : A → Type 0) (r : Result T E) (a : A) → Q a → OnErr r ((b : A) → Q b → P b) → OnErr r (P a)
err-at Q P (Ok x) a q h = tt
err-at Q P (Err e) a q h = h a q

-- what holds for every value with a property holds for one
pub ok-at : {T E A : Type 0} (Q : A → Type 0) (P : A → T → Type 0) (r : Result T E) (a : A) → Q a → IfOk r (λ x. (b : A) → Q b → P b x) → IfOk r (P a)
ok-at Q P (Ok x) a q h = h a q
ok-at Q P (Err e) a q h = tt

-- ---- replies

module _ {R : Type 0} (takes breaks : R → QueryLine → R → Type 0) where
  gives-more : (before between after : R) (xs : List QueryLine) (x : QueryLine) → Gives takes before xs between → takes between x after
      → Gives takes before (xs ++ x ∷ []) after
  gives-more before between after [] x g h = subst (λ u. (v : R) × takes u x v × (after ≡ v)) g (after, h, refl)
  gives-more before between after (y ∷ ys) x g h = (g.0, g.1, gives-more g.0 between after ys x g.2 h)

  module _ (program : ProgramTree) (text : List ℕ) (bound : ℕ) (before : R) where
    -- no reply was begun
    pub none-begun : ((at : ℕ) (texts : List (List ℕ)) → (queries : List QueryLine) × HaveQueries program bound at texts queries)
        → StopsShort takes breaks program text bound before before
    none-begun some = let all = some 1 (lines text) in not_begun [] all.0 all.1 refl

    -- before the first line
    pub none-answered : IsAnsweredTo takes breaks program text bound before 0 0 text before
    none-answered = record { done = []; given = refl; count_is = refl; goes_on = λ queries h. h }

    module _ (line count : ℕ) (rest first behind : List ℕ) (now : R) (split : lines rest ≡ first ∷ lines behind)
        (so_far : IsAnsweredTo takes breaks program text bound before line count rest now) where
      -- a line that is no query
      pub line-passed : is_query_line first ≡ false → IsAnsweredTo takes breaks program text bound before (line + 1) count behind now
      line-passed e = record {
        done = so_far.done;
        given = so_far.given;
        count_is = so_far.count_is;
        goes_on = λ queries h. so_far.goes_on queries (subst (λ l. HaveQueries program bound (line + 1) l queries) (sym split) (passed e h));
      }

      module _ (is : is_query_line first ≡ true) where
        -- the queries from this line on
        from-line : (what : Result ProblemTree Fault) → LineAsks program bound (line + 1) first what → (queries : List QueryLine)
            → HaveQueries program bound (line + 1 + 1) (lines behind) queries
            → AreQueries program text bound (so_far.done ++ record { line = line + 1; asked = what } ∷ queries)
        from-line what a queries h = so_far.goes_on (record { line = line + 1; asked = what } ∷ queries)
            (subst (λ l. HaveQueries program bound (line + 1) l (record { line = line + 1; asked = what } ∷ queries)) (sym split) (asked what is a h))

        -- a line that was replied to
        pub line-answered : (after : R) → Replies takes breaks program bound (line + 1) first now after
            → IsAnsweredTo takes breaks program text bound before (line + 1) (count + 1) behind after
        line-answered after r =
            let query : QueryLine = record { line = line + 1; asked = r.what } in record {
              done = so_far.done ++ query ∷ [];
              given = gives-more before now after so_far.done query so_far.given r.taken;
              count_is = let c = so_far.count_is in let l = length-append so_far.done (query ∷ []) in omega arith;
              goes_on = λ queries h. subst (λ l. AreQueries program text bound l) (sym (append_assoc so_far.done (query ∷ []) queries))
                  (from-line r.what r.asks queries h);
            }

        -- a line that was not
        pub line-refused : ((at : ℕ) (texts : List (List ℕ)) → (queries : List QueryLine) × HaveQueries program bound at texts queries) → (after : R)
            → RefusesLine takes breaks program bound (line + 1) first now after
            → StopsShort takes breaks program text bound before after
        line-refused some after (line_refused what a b) =
            let query : QueryLine = record { line = line + 1; asked = what } in let later = some (line + 1 + 1) (lines behind) in
            refused (so_far.done ++ query ∷ later.0) (from-line what a later.0 later.1)
            record { front = so_far.done; refused = query; back = later.0; between = now; order = refl; given = so_far.given; broke = b }
        line-refused some after (line_not_begun e) =
            let later = some (line + 1) (lines rest) in not_begun so_far.done later.0 (so_far.goes_on later.0 later.1)
            (subst (λ u. Gives takes before so_far.done u) (sym e) so_far.given)

    -- behind the last line
    pub all-answered : (line count : ℕ) (rest : List ℕ) (now : R) → length rest ≡ 0 → IsAnsweredTo takes breaks program text bound before line count rest now
        → Answers takes breaks program text bound before count now
    all-answered line count (b ∷ bs) now e so_far = absurd (omega arith)
    all-answered line count [] now e so_far = record {
      queries = so_far.done;
      are = subst (λ l. AreQueries program text bound l) (append-nil so_far.done) (so_far.goes_on [] no_line);
      count_is = so_far.count_is;
      given = so_far.given;
    }
