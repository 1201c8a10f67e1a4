-- First bytes of a text that is written in pieces.
use Rattle.std.proofs.Common.{◌≡◌, ◌≤◌, ◌+◌, ◌++◌, ℕ, Some, Option, Result, Ok, Err, OnErr, List, length, take, min, sym, ap, ◌∙◌, arith}
use Rattle.std.proofs.lemmas.List.{take_min, take-append-le}
use Rattle.std.proofs.Math.Seq.{take-append-add}
use Rattle.agm_shelf.specs.Shelf.{Contents, text_of, GrowsByFront}

-- what holds of any answer holds of an error
pub on_err_any : {T E P : Type 0} (r : Result T E) → P → OnErr r P
on_err_any (Ok x) p = tt
on_err_any (Err e) p = p

-- first bytes of a piece, after all before it, are first bytes of the whole
pub take-joined : (front piece more : List ℕ) (n : ℕ) → take (length front + min n (length piece)) (front ++ (piece ++ more)) ≡ front ++ take n piece
take-joined front piece more n =
    let short : min n (length piece) ≤ length piece = omega arith in
    take-append-add front (piece ++ more) (min n (length piece)) ∙ ap (λ xs. front ++ xs) (take-append-le (min n (length piece)) piece more short ∙ take_min n piece)

-- a text that grows by first bytes of its next piece is some first bytes of the whole
pub front_grows : (before now : Contents) (pending : Option (List ℕ)) (name text rest piece more : List ℕ) → pending ≡ Some name → text_of (before name) ++ rest ≡ text → rest ≡ piece ++ more → GrowsByFront piece (before (text_of pending)) (now (text_of pending)) → (n : ℕ) × (now name ≡ Some (take n text))
front_grows before now pending name text rest piece more named joined cut grows =
    let at_name : GrowsByFront piece (before name) (now name) = rw named at grows in
    let whole : text ≡ text_of (before name) ++ (piece ++ more) = sym joined ∙ ap (λ xs. text_of (before name) ++ xs) cut in
    (length (text_of (before name)) + min at_name.0 (length piece), at_name.1 ∙ ap (λ xs. Some xs) (sym (take-joined (text_of (before name)) piece more at_name.0) ∙ ap (λ xs. take (length (text_of (before name)) + min at_name.0 (length piece)) xs) (sym whole)))
