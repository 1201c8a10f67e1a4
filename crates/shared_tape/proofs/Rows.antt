-- Lists that grow by the item that was read.
use Rattle.std.proofs.Common.{◌≡◌, ◌+◌, ◌++◌, ◌∷◌, [], ℕ, Bool, slice_get, take, map, Some, sym, ap, ◌∙◌, zero-add}
use Rattle.std.specs.List.{range_with_len}
use Rattle.std.proofs.lemmas.List.{take_more}
use Rattle.std.proofs.lemmas.List.FromFn.{map-range_with_len_more}
use Rattle.std.proofs.lemmas.Option.{slice_get_within, get_or_from_slice_get}
use Rattle.agm_net.specs.Trace.{Row}

pub bit_more : (row : Row) (k : ℕ) (x : Bool) → slice_get row k ≡ Some x → take (k + 1) row ≡ take k row ++ x ∷ []
bit_more row k x at = take_more row k x (slice_get_within row k x at) ∙ ap (λ y. take k row ++ y ∷ []) (get_or_from_slice_get row k x x at)

-- one share more
pub share_more : (f : ℕ → Bool) (k : ℕ) (now row : Row) (x : Bool) → now ≡ map f (range_with_len 0 k) → x ≡ f k → row ≡ now ++ x ∷ [] → row ≡ map f (range_with_len 0 (k + 1))
share_more f k now row x before is more = more ∙ (ap (λ xs. xs ++ x ∷ []) before ∙ (ap (λ y. map f (range_with_len 0 k) ++ y ∷ []) is ∙ sym (map-range_with_len_more f 0 k k (zero-add k))))
