-- What the name of a port says of its bits: by `HasRole` of agm_net, as functions. The law `shares_are_named` ties the two.
use Rattle.std.specs.Prelude.{◌==◌, ◌^◌, ◌∷◌, ℕ, Bool, false, not, ◌&&◌, ◌||◌, cond, nat_lt, eqb, List, [], Option, Some, None, codes, drop, length}
use Rattle.std.specs.List.{list_all, starts_with}
use Rattle.std.specs.Option.{option_map, option_map_or}
use Rattle.std.specs.Char.{is_digit}
use Rattle.std.specs.Str.Parse.{digits_value}

-- whether digits spell a number below 2^32 without a leading zero
abbrev pub is_index : List ℕ → Bool
is_index [] = false
is_index (c ∷ cs) =
    list_all (λ b. is_digit b 10) (c ∷ cs) && ((not (c == 48) || (length cs == 0)) && nat_lt (digits_value 10 (c ∷ cs)) (2 ^ 32))

abbrev pub index_of : List ℕ → Option ℕ
index_of digits = cond (is_index digits) (Some (digits_value 10 digits)) None

-- an index, with the text behind it if there is one
abbrev pub with_text : Option ℕ → List ℕ → Option (ℕ × List ℕ)
with_text index [] = None
with_text index (c ∷ cs) = option_map (λ i. (i, c ∷ cs)) index

-- what stands before the first `_`, and behind it
abbrev pub before_line : List ℕ → List ℕ
before_line [] = []
before_line (c ∷ cs) = cond (c == 95) [] (c ∷ before_line cs)

abbrev pub behind_line : List ℕ → List ℕ
behind_line [] = []
behind_line (c ∷ cs) = cond (c == 95) cs (behind_line cs)

-- The share index of a port's name, and what is shared: x of `agm_s<i>_x`, and nothing more of `agm_q_s<i>`. Other names are of no share.
abbrev pub share_of : List ℕ → Option (ℕ × List ℕ)
share_of name =
    cond (starts_with eqb name (codes "agm_s"))
    (with_text (index_of (before_line (drop 5 name))) (behind_line (drop 5 name)))
    (cond (starts_with eqb name (codes "agm_q_s")) (option_map (λ i. (i, [])) (index_of (drop 7 name))) None)

abbrev pub is_share : ℕ → List ℕ → Bool
is_share i name = option_map_or (λ s. s.0 == i) (share_of name) false
