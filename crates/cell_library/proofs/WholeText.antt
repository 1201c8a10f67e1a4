-- Whole libraries.
use Rattle.std.proofs.Common.{◌≡◌, ◌≢◌, ◌<◌, ℕ, Bool, true, false, cond, List, [], ◌∷◌, Option, Some, None, codes, refl, sym, ap, ◌∙◌, subst, inl, inr, arith}
use Rattle.std.specs.Str.{bytes_eq}
use Rattle.std.proofs.lemmas.Slice.Eq.{bytes_eq-Decides}
use Rattle.liberty_text.specs.Cuts as cuts
use Rattle.liberty_text.specs.Cuts.{Token, Cuts}
use Rattle.liberty_text.specs.Tokens.{tokens_of, is_nil, IsWhole}
use Rattle.liberty_text.proofs.Row.{cut_tokens, tokens_cut}
use Rattle.liberty_text.proofs.Runs.{chosen}
use Rattle.liberty_statements.specs.Grammar.{Arg, quoted, worded, Args, no_args, some_args, Piece, a_word, a_comma, an_open, a_close, Value, quoted_value, pieces, Statement, group, complex, simple, Statements, none, first, more_words, arg_tokens, next_arg, more_args, args_tokens, piece_token, more_pieces, value_tokens, end_tokens, statement_tokens, statements_tokens, depth_of_all}
use Rattle.liberty_statements.specs.Reading.{◌>>=◌, behind, as_value, begins, symbol_at, args_end_at, statements_at, body_at, ended}
use Rattle.liberty_statements.proofs.Again.{args_end_again, body_again}
use Rattle.liberty_statements.proofs.Found.{right_args_end, right_body, end_is}
use Rattle.liberty_statements.proofs.Less.{symbol_is}
use Rattle.liberty_statements.proofs.Many.{bind_some, as_some, behind_some}
use Rattle.liberty_statements.proofs.Steps.{body_is}
use Rattle.cell_library.specs.Judged.{PlainCell}
use Rattle.cell_library.specs.Spelled.{Spelled, Means}
use Rattle.cell_library.specs.Read.{Pairwise}
use Rattle.cell_library.specs.Steps.{cells_in, keyword_at, head_at, if_ended, library_at}
use Rattle.cell_library.specs.Texts.{cells_of}
use Rattle.cell_library.proofs.Says.{cells_are, cells_mean}

-- no token of the grammar is a wrong piece
word_whole : (w : List ℕ) → cuts.word w ≢ cuts.wrong
word_whole w h = cc

text_whole : (w : List ℕ) → cuts.text w ≢ cuts.wrong
text_whole w h = cc

symbol_whole : (s : ℕ) → cuts.symbol s ≢ cuts.wrong
symbol_whole s h = cc

words_whole : (ws : List (List ℕ)) (rest : List Token) → IsWhole rest → IsWhole (more_words ws rest)
words_whole [] rest h = h
words_whole (w ∷ ws) rest h = (symbol_whole 58, (word_whole w, words_whole ws rest h))

arg_whole : (a : Arg) (rest : List Token) → IsWhole rest → IsWhole (arg_tokens a rest)
arg_whole (quoted v) rest h = (text_whole v, h)
arg_whole (worded w ws) rest h = (word_whole w, words_whole ws rest h)

next_whole : (a : Bool × Arg) (rest : List Token) → IsWhole rest → IsWhole (next_arg a rest)
next_whole (true, a) rest h = (symbol_whole 44, arg_whole a rest h)
next_whole (false, a) rest h = arg_whole a rest h

more_whole : (xs : List (Bool × Arg)) (rest : List Token) → IsWhole rest → IsWhole (more_args xs rest)
more_whole [] rest h = h
more_whole (a ∷ xs) rest h = next_whole a (more_args xs rest) (more_whole xs rest h)

args_whole : (xs : Args) (rest : List Token) → IsWhole rest → IsWhole (args_tokens xs rest)
args_whole no_args rest h = h
args_whole (some_args a xs) rest h = arg_whole a (more_args xs rest) (more_whole xs rest h)

piece_whole : (p : Piece) → piece_token p ≢ cuts.wrong
piece_whole (a_word w) h = cc
piece_whole a_comma h = cc
piece_whole an_open h = cc
piece_whole a_close h = cc

pieces_whole : (ps : List Piece) (rest : List Token) → IsWhole rest → IsWhole (more_pieces ps rest)
pieces_whole [] rest h = h
pieces_whole (p ∷ ps) rest h = (piece_whole p, pieces_whole ps rest h)

value_whole : (v : Value) (rest : List Token) → IsWhole rest → IsWhole (value_tokens v rest)
value_whole (quoted_value v) rest h = (text_whole v, h)
value_whole (pieces p ps) rest h = (piece_whole p, pieces_whole ps rest h)

end_whole : (e : Bool) (rest : List Token) → IsWhole rest → IsWhole (end_tokens e rest)
end_whole true rest h = (symbol_whole 59, h)
end_whole false rest h = h

mutual
  statement_whole : (s : Statement) (rest : List Token) → IsWhole rest → IsWhole (statement_tokens s rest)
  statement_whole (group n xs ss e) rest h =
      let inner = statements_whole ss (cuts.symbol 125 ∷ end_tokens e rest) (symbol_whole 125, end_whole e rest h) in
      (word_whole n, (symbol_whole 40, args_whole xs (cuts.symbol 41 ∷ cuts.symbol 123 ∷ statements_tokens ss (cuts.symbol 125 ∷ end_tokens e rest)) (symbol_whole 41, (symbol_whole 123, inner))))
  statement_whole (complex n xs e) rest h = (word_whole n, (symbol_whole 40, args_whole xs (cuts.symbol 41 ∷ end_tokens e rest) (symbol_whole 41, end_whole e rest h)))
  statement_whole (simple n v) rest h = (word_whole n, (symbol_whole 58, value_whole v (cuts.symbol 59 ∷ rest) (symbol_whole 59, h)))

  statements_whole : (ss : Statements) (rest : List Token) → IsWhole rest → IsWhole (statements_tokens ss rest)
  statements_whole none rest h = h
  statements_whole (first s ss) rest h = statement_whole s (statements_tokens ss rest) (statements_whole ss rest h)

abbrev library_group : Args → Statements → Bool → Statement
library_group xs inner e = group (codes "library") xs inner e

-- what stands there is read
head_it : List Token → Option (List Token)
head_it b = symbol_at 123 b

head_again : (xs : Args) (rest : List Token) → head_at (cuts.word (codes "library") ∷ cuts.symbol 40 ∷ args_tokens xs (cuts.symbol 41 ∷ cuts.symbol 123 ∷ rest)) ≡ Some rest
unfolding head_at
head_again xs rest = ap (λ o. behind o >>= (λ b. symbol_at 123 b)) (args_end_again xs (cuts.symbol 123 ∷ rest))

end_again : (e : Bool) → is_nil (ended (end_tokens e [])) ≡ true
end_again true = refl
end_again false = refl

inner_again : (inner : Statements) (rest : List Token) → depth_of_all inner < 100 → statements_at (body_at 99) (statements_tokens inner (cuts.symbol 125 ∷ rest)) ≡ Some (inner, rest)
inner_again inner rest h = sym (body_is 100 99 (statements_tokens inner (cuts.symbol 125 ∷ rest)) refl) ∙ body_again 100 inner rest h

abbrev cells_it : List PlainCell × List Token → Option (List PlainCell)
cells_it c = if_ended c.0 c.1

abbrev inner_it : List Token → Option (List PlainCell)
inner_it inner = as_value cells_in (statements_at (body_at 99) inner) >>= cells_it

library_is : (ts : List Token) → library_at ts ≡ head_at ts >>= inner_it
unfolding library_at
library_is ts = refl

library_again : (xs : Args) (inner : Statements) (e : Bool) → depth_of_all inner < 100 → library_at (statement_tokens (library_group xs inner e) []) ≡ Some (cells_in inner)
library_again xs inner e h =
    let rest : List Token = statements_tokens inner (cuts.symbol 125 ∷ end_tokens e []) in
    library_is (statement_tokens (library_group xs inner e) [])
    ∙ (ap (λ o. o >>= inner_it) (head_again xs rest)
    ∙ (ap (λ o. as_value cells_in o >>= cells_it) (inner_again inner (end_tokens e []) h)
    ∙ ap (λ b. cond b (Some (cells_in inner)) None) (end_again e)))

-- what is spelled is read
pub spelled_is_read : (bytes : List ℕ) (cells : List PlainCell) → Spelled bytes cells → library_at (tokens_of bytes) ≡ Some cells
spelled_is_read bytes cells s =
    let deep : depth_of_all s.inner < 100 = omega (arith, s.nests) in
    ap library_at (cut_tokens s.cut) ∙ (library_again s.args s.inner s.has_end deep ∙ ap (λ (cs : List PlainCell). Some cs) (sym (cells_are (cells_of s.inner) cells s.mean)))

-- what is read stands there
keyword_is : (ts rest : List Token) → keyword_at ts ≡ Some rest → ts ≡ cuts.word (codes "library") ∷ cuts.symbol 40 ∷ rest
keyword_is [] rest h = absurd (cc)
keyword_is (cuts.word w ∷ ts) rest h = elim (chosen (bytes_eq w (codes "library")) (symbol_at 40 ts) None (Some rest) h) [
  | inl e ↦ ap (λ v. cuts.word v ∷ ts) ((bytes_eq-Decides w (codes "library")).0 e.0) ∙ ap (λ r. cuts.word (codes "library") ∷ r) (symbol_is 40 ts rest e.1)
  | inr e ↦ absurd (cc (e.1))
]
keyword_is (cuts.text w ∷ ts) rest h = absurd (cc)
keyword_is (cuts.symbol w ∷ ts) rest h = absurd (cc)
keyword_is (cuts.wrong ∷ ts) rest h = absurd (cc)

abbrev after_args : List Token → Option (List Token)
after_args b = symbol_at 123 b

abbrev after_keyword : List Token → Option (List Token)
after_keyword a = behind (args_end_at a) >>= after_args

head_stands : (ts rest : List Token) → head_at ts ≡ Some rest → (xs : Args) × (ts ≡ cuts.word (codes "library") ∷ cuts.symbol 40 ∷ args_tokens xs (cuts.symbol 41 ∷ cuts.symbol 123 ∷ rest))
unfolding head_at
head_stands ts rest h =
    let a = bind_some (keyword_at ts) after_keyword rest h in
    let b = bind_some (behind (args_end_at a.0)) after_args rest a.2 in
    let x = behind_some (args_end_at a.0) b.0 b.1 in (
      x.0,
      keyword_is ts a.0 a.1 ∙ (ap (λ (r : List Token). cuts.word (codes "library") ∷ cuts.symbol 40 ∷ r) (right_args_end a.0 (x.0, b.0) x.1)
          ∙ ap (λ (r : List Token). cuts.word (codes "library") ∷ cuts.symbol 40 ∷ args_tokens x.0 (cuts.symbol 41 ∷ r)) (symbol_is 123 b.0 rest b.2)),
    )

nil_is : (ts : List Token) → is_nil ts ≡ true → ts ≡ []
nil_is [] h = refl
nil_is (t ∷ ts) h = absurd (cc)

record Stands (ts : List Token) (cells : List PlainCell) : Type 0 where
  args : Args
  inner : Statements
  has_end : Bool
  whole : ts ≡ statement_tokens (library_group args inner has_end) []
  nests : depth_of_all inner < 100
  cells_is : cells ≡ cells_in inner

library_stands : (ts : List Token) (cells : List PlainCell) → library_at ts ≡ Some cells → Stands ts cells
library_stands ts cells h =
    let i = bind_some (head_at ts) inner_it cells (sym (library_is ts) ∙ h) in
    let c = bind_some (as_value cells_in (statements_at (body_at 99) i.0)) cells_it cells i.2 in
    let s = as_some cells_in (statements_at (body_at 99) i.0) c.0 c.1 in
    let head = head_stands ts i.0 i.1 in
    let body = right_body 100 i.0 s.0 (body_is 100 99 i.0 refl ∙ s.1) in
    elim (chosen (is_nil (ended c.0.1)) (Some c.0.0) None (Some cells) c.2) [
      | inl e ↦
          let same : c.0.0 ≡ cells = cc (e.1) in
          let last : ended s.0.1 ≡ [] = ap ended s.3 ∙ nil_is (ended c.0.1) e.0 in
          record {
            args = head.0;
            inner = s.0.0;
            has_end = begins 59 s.0.1;
            whole = head.1 ∙ (ap (λ (r : List Token). cuts.word (codes "library") ∷ cuts.symbol 40 ∷ args_tokens head.0 (cuts.symbol 41 ∷ cuts.symbol 123 ∷ r)) body.0
                ∙ ap (λ (r : List Token). cuts.word (codes "library") ∷ cuts.symbol 40 ∷ args_tokens head.0 (cuts.symbol 41 ∷ cuts.symbol 123 ∷ statements_tokens s.0.0 (cuts.symbol 125 ∷ r))) (end_is s.0.1 ∙ ap (end_tokens (begins 59 s.0.1)) last));
            nests = body.1;
            cells_is = sym same ∙ sym s.2;
          }
      | inr e ↦ absurd (cc (e.1))
    ]

-- what is read is spelled
pub read_is_spelled : (bytes : List ℕ) (cells : List PlainCell) → library_at (tokens_of bytes) ≡ Some cells → Spelled bytes cells
read_is_spelled bytes cells h =
    let s = library_stands (tokens_of bytes) cells h in
    let whole : IsWhole (tokens_of bytes) = subst IsWhole (sym s.whole) (statement_whole (library_group s.args s.inner s.has_end) [] tt) in
    record {
      args = s.args;
      inner = s.inner;
      has_end = s.has_end;
      cut = subst (Cuts bytes) s.whole (tokens_cut bytes whole);
      nests = omega (arith, s.nests);
      mean = subst (Pairwise Means (cells_of s.inner)) (sym s.cells_is) (cells_mean (cells_of s.inner));
    }

pub none_spelled : (bytes : List ℕ) → library_at (tokens_of bytes) ≡ None → (cells : List PlainCell) → Spelled bytes cells → ⊥
none_spelled bytes h cells s = let e : None ≡ Some cells = sym h ∙ spelled_is_read bytes cells s in cc

-- no text spells two libraries
pub one_library : (bytes : List ℕ) (cells more : List PlainCell) → Spelled bytes cells → Spelled bytes more → cells ≡ more
one_library bytes cells more s r = let e : Some cells ≡ Some more = sym (spelled_is_read bytes cells s) ∙ spelled_is_read bytes more r in cc
