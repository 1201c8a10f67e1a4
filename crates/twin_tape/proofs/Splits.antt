-- A row of input bits is its random bits and the others, in one way.
use Rattle.std.proofs.Common.{◌≡◌, List, [], ◌∷◌, length, drop, filter, refl, ap, arith}
use Rattle.agm_net.specs.Trace.{Row}
use Rattle.probe_cones.specs.Inputs.{BitRole, random_bit, share_bit, open_bit, is_random, joined, picked}
use Rattle.twin_tape.proofs.Sources.{is_other}

pub join_of_split : (rs : List BitRole) (row : Row) → length row ≡ length rs → joined rs (picked is_other rs row) (picked is_random rs row) ≡ row
join_of_split [] [] e = refl
join_of_split [] (b ∷ row) e = absurd (omega arith)
join_of_split (r ∷ rs) [] e = absurd (omega arith)
join_of_split (random_bit ∷ rs) (b ∷ row) e = ap (λ l. b ∷ l) (join_of_split rs row (omega arith))
join_of_split (share_bit i s ∷ rs) (b ∷ row) e = ap (λ l. b ∷ l) (join_of_split rs row (omega arith))
join_of_split (open_bit ∷ rs) (b ∷ row) e = ap (λ l. b ∷ l) (join_of_split rs row (omega arith))

pub random_of_join : (rs : List BitRole) (others random : Row) → length random ≡ length (filter is_random rs) → picked is_random rs (joined rs others random) ≡ random
random_of_join [] others [] e = refl
random_of_join [] others (b ∷ random) e = absurd (omega arith)
random_of_join (random_bit ∷ rs) others [] e = absurd (omega arith)
random_of_join (random_bit ∷ rs) others (b ∷ random) e = ap (λ l. b ∷ l) (random_of_join rs others random (omega arith))
random_of_join (share_bit i s ∷ rs) others random e = random_of_join rs (drop 1 others) random e
random_of_join (open_bit ∷ rs) others random e = random_of_join rs (drop 1 others) random e

pub others_of_join : (rs : List BitRole) (others random : Row) → length others ≡ length (filter is_other rs) → picked is_other rs (joined rs others random) ≡ others
others_of_join [] [] random e = refl
others_of_join [] (b ∷ others) random e = absurd (omega arith)
others_of_join (random_bit ∷ rs) others random e = others_of_join rs others (drop 1 random) e
others_of_join (share_bit i s ∷ rs) [] random e = absurd (omega arith)
others_of_join (share_bit i s ∷ rs) (b ∷ others) random e = ap (λ l. b ∷ l) (others_of_join rs others random (omega arith))
others_of_join (open_bit ∷ rs) [] random e = absurd (omega arith)
others_of_join (open_bit ∷ rs) (b ∷ others) random e = ap (λ l. b ∷ l) (others_of_join rs others random (omega arith))
