-- One more line, and one more stream.
use Rattle.std.proofs.Common.{◌≡◌, ◌<◌, ◌+◌, ◌++◌, ◌∷◌, [], ℕ, List, length, take, refl, sym, ap, ap₂, ◌∙◌, arith}
use Rattle.std.specs.List.{flat_map, enumerate_from}
use Rattle.std.proofs.lemmas.List.{flat_map_more, length-take-le, take_more}
use Rattle.agm_net.specs.Plain.{PlainNet}
use Rattle.agm_net.specs.Trace.{Row, row_at, IsTrace}
use Rattle.stimulus.specs.declared.stimuli.Stream.{Stream}
use Rattle.sim_text.specs.Steps.{AddsStream}
use Rattle.sim_text.specs.Text.{step_line, stream_text, AreTraces, IsSimText}

enumerate_more : {X : Type 0} (n : ℕ) (xs : List X) (x : X) → enumerate_from n (xs ++ x ∷ []) ≡ enumerate_from n xs ++ (n + length xs, x) ∷ []
enumerate_more n [] x = let none : n ≡ n + 0 = omega arith in ap (λ (k : ℕ). (k, x) ∷ []) none
enumerate_more n (y ∷ ys) x =
    let place : n + 1 + length ys ≡ n + length (y ∷ ys) = omega arith in
    ap (λ es. (n, y) ∷ es) (enumerate_more (n + 1) ys x ∙ ap (λ (k : ℕ). enumerate_from (n + 1) ys ++ (k, x) ∷ []) place)

-- a text of numbered items, with one item more
pub text_more : {X : Type 0} (f : ℕ × X → List ℕ) (old : List ℕ) (k : ℕ) (xs : List X) (x : X) → k ≡ length xs → (old ++ flat_map f (enumerate_from 0 xs)) ++ f (k, x) ≡ old ++ flat_map f (enumerate_from 0 (xs ++ x ∷ []))
text_more f old k xs x e =
    let place : k ≡ 0 + length xs = omega arith in
    flat_map_more f old (enumerate_from 0 xs) (k, x)
    ∙ ap (λ es. old ++ flat_map f es) (ap (λ (i : ℕ). enumerate_from 0 xs ++ (i, x) ∷ []) place ∙ sym (enumerate_more 0 xs x))

-- one line more of a stream
pub line_more : (net : PlainNet) (number k : ℕ) (table : List Row) (row : Row) (old text new : List ℕ) → k < length table → row ≡ row_at table k → text ≡ old ++ stream_text net (number, take k table)
    → new ≡ text ++ step_line net number (k, row) → new ≡ old ++ stream_text net (number, take (k + 1) table)
line_more net number k table row old text new lt same before more =
    let place : k ≡ length (take k table) = sym (length-take-le k table (omega arith)) in
    more
    ∙ ap₂ (λ (t : List ℕ) (r : Row). t ++ step_line net number (k, r)) before same
    ∙ text_more (step_line net number) old k (take k table) (row_at table k) place
    ∙ ap (λ (ts : List Row). old ++ stream_text net (number, ts)) (sym (take_more table k [] lt))

as_many : (net : PlainNet) (ss : List Stream) (ts : List (List Row)) → AreTraces net ss ts → length ss ≡ length ts
as_many net [] [] h = refl
as_many net (s ∷ ss) (t ∷ ts) h = let rest = as_many net ss ts h.1 in omega arith
as_many net [] (t ∷ ts) h = absurd h
as_many net (s ∷ ss) [] h = absurd h

traces_more : (net : PlainNet) (ss : List Stream) (ts : List (List Row)) (s : Stream) (t : List Row) → AreTraces net ss ts → IsTrace net s.initial s.steps t → AreTraces net (ss ++ s ∷ []) (ts ++ t ∷ [])
traces_more net [] [] s t h trace = (trace, tt)
traces_more net (r ∷ ss) (u ∷ ts) s t h trace = (h.0, traces_more net ss ts s t h.1 trace)
traces_more net [] (u ∷ ts) s t h trace = absurd h
traces_more net (r ∷ ss) [] s t h trace = absurd h

-- one stream more
pub stream_more : (net : PlainNet) (ss : List Stream) (k : ℕ) (s : Stream) (text new : List ℕ) → k ≡ length ss → IsSimText net ss text → AddsStream net k s text new → IsSimText net (ss ++ s ∷ []) new
stream_more net ss k s text new e h a =
    let place : k ≡ length h.tables = e ∙ as_many net ss h.tables h.traces in
    record {
      tables = h.tables ++ a.table ∷ [];
      traces = traces_more net ss h.tables s a.table h.traces a.trace;
      text_is = a.text_is ∙ (ap (λ (t : List ℕ). t ++ stream_text net (k, a.table)) h.text_is ∙ text_more (stream_text net) [] k h.tables a.table place);
    }
