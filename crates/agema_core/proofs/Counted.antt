-- Words of no command, by how many they are.
use Rattle.std.proofs.Common.{◌≡◌, ◌<◌, ◌≤◌, ◌+◌, ℕ, Bool, true, false, nat_lt, List, [], ◌∷◌, None, map, length, get_or, refl, ap, arith}
use Rattle.std.proofs.lemmas.Bool.Decides.{nat_tests}
use Rattle.agema_core.specs.Command.{command_of}

below : (n m : ℕ) → nat_lt n m ≡ true → n < m
below n m h = grind (arith, nat_tests)

from : (n m : ℕ) → nat_lt n m ≡ false → m ≤ n
from n m h = grind (arith, nat_tests)

short : {X : Type 0} (f : X → List ℕ) (ws : List X) → length ws < 2 → None ≡ command_of (map f ws)
short f [] h = refl
short f (a ∷ []) h = refl
short f (a ∷ b ∷ ws) h = absurd (omega (arith, h))

middle : {X : Type 0} (f : X → List ℕ) (ws : List X) → 5 ≤ length ws → length ws < 7 → None ≡ command_of (map f ws)
middle f [] g h = absurd (omega (arith, g))
middle f (a ∷ []) g h = absurd (omega (arith, g))
middle f (a ∷ b ∷ []) g h = absurd (omega (arith, g))
middle f (a ∷ b ∷ c ∷ []) g h = absurd (omega (arith, g))
middle f (a ∷ b ∷ c ∷ d ∷ []) g h = absurd (omega (arith, g))
middle f (a ∷ b ∷ c ∷ d ∷ e ∷ []) g h = refl
middle f (a ∷ b ∷ c ∷ d ∷ e ∷ i ∷ []) g h = refl
middle f (a ∷ b ∷ c ∷ d ∷ e ∷ i ∷ j ∷ ws) g h = absurd (omega (arith, h))

eight : {X : Type 0} (f : X → List ℕ) (ws : List X) → 8 ≤ length ws → length ws < 9 → None ≡ command_of (map f ws)
eight f [] g h = absurd (omega (arith, g))
eight f (a ∷ []) g h = absurd (omega (arith, g))
eight f (a ∷ b ∷ []) g h = absurd (omega (arith, g))
eight f (a ∷ b ∷ c ∷ []) g h = absurd (omega (arith, g))
eight f (a ∷ b ∷ c ∷ d ∷ []) g h = absurd (omega (arith, g))
eight f (a ∷ b ∷ c ∷ d ∷ e ∷ []) g h = absurd (omega (arith, g))
eight f (a ∷ b ∷ c ∷ d ∷ e ∷ i ∷ []) g h = absurd (omega (arith, g))
eight f (a ∷ b ∷ c ∷ d ∷ e ∷ i ∷ j ∷ []) g h = absurd (omega (arith, g))
eight f (a ∷ b ∷ c ∷ d ∷ e ∷ i ∷ j ∷ k ∷ []) g h = refl
eight f (a ∷ b ∷ c ∷ d ∷ e ∷ i ∷ j ∷ k ∷ l ∷ ws) g h = absurd (omega (arith, h))

long : {X : Type 0} (f : X → List ℕ) (ws : List X) → 10 ≤ length ws → None ≡ command_of (map f ws)
long f [] g = absurd (omega (arith, g))
long f (a ∷ []) g = absurd (omega (arith, g))
long f (a ∷ b ∷ []) g = absurd (omega (arith, g))
long f (a ∷ b ∷ c ∷ []) g = absurd (omega (arith, g))
long f (a ∷ b ∷ c ∷ d ∷ []) g = absurd (omega (arith, g))
long f (a ∷ b ∷ c ∷ d ∷ e ∷ []) g = absurd (omega (arith, g))
long f (a ∷ b ∷ c ∷ d ∷ e ∷ i ∷ []) g = absurd (omega (arith, g))
long f (a ∷ b ∷ c ∷ d ∷ e ∷ i ∷ j ∷ []) g = absurd (omega (arith, g))
long f (a ∷ b ∷ c ∷ d ∷ e ∷ i ∷ j ∷ k ∷ []) g = absurd (omega (arith, g))
long f (a ∷ b ∷ c ∷ d ∷ e ∷ i ∷ j ∷ k ∷ l ∷ []) g = absurd (omega (arith, g))
long f (a ∷ b ∷ c ∷ d ∷ e ∷ i ∷ j ∷ k ∷ l ∷ m ∷ ws) g = refl

pub none_short : {X : Type 0} (f : X → List ℕ) (ws : List X) → nat_lt (length ws) 2 ≡ true → None ≡ command_of (map f ws)
none_short f ws h = short f ws (below (length ws) 2 h)

pub none_middle : {X : Type 0} (f : X → List ℕ) (ws : List X) → nat_lt (length ws) 5 ≡ false → nat_lt (length ws) 7 ≡ true → None ≡ command_of (map f ws)
none_middle f ws g h = middle f ws (from (length ws) 5 g) (below (length ws) 7 h)

-- nine words and their texts
pub nine_texts : {X : Type 0} (f : X → List ℕ) (ws : List X) (a b c d e i j k l : X) → 9 ≤ length ws → length ws < 10
    → a ≡ get_or ws 0 a → b ≡ get_or ws 1 b → c ≡ get_or ws 2 c → d ≡ get_or ws 3 d → e ≡ get_or ws 4 e → i ≡ get_or ws 5 i → j ≡ get_or ws 6 j → k ≡ get_or ws 7 k → l ≡ get_or ws 8 l
    → f a ∷ f b ∷ f c ∷ f d ∷ f e ∷ f i ∷ f j ∷ f k ∷ f l ∷ [] ≡ map f ws
nine_texts f [] a b c d e i j k l g h = absurd (omega (arith, g))
nine_texts f (v ∷ []) a b c d e i j k l g h = absurd (omega (arith, g))
nine_texts f (v ∷ v1 ∷ []) a b c d e i j k l g h = absurd (omega (arith, g))
nine_texts f (v ∷ v1 ∷ v2 ∷ []) a b c d e i j k l g h = absurd (omega (arith, g))
nine_texts f (v ∷ v1 ∷ v2 ∷ v3 ∷ []) a b c d e i j k l g h = absurd (omega (arith, g))
nine_texts f (v ∷ v1 ∷ v2 ∷ v3 ∷ v4 ∷ []) a b c d e i j k l g h = absurd (omega (arith, g))
nine_texts f (v ∷ v1 ∷ v2 ∷ v3 ∷ v4 ∷ v5 ∷ []) a b c d e i j k l g h = absurd (omega (arith, g))
nine_texts f (v ∷ v1 ∷ v2 ∷ v3 ∷ v4 ∷ v5 ∷ v6 ∷ []) a b c d e i j k l g h = absurd (omega (arith, g))
nine_texts f (v ∷ v1 ∷ v2 ∷ v3 ∷ v4 ∷ v5 ∷ v6 ∷ v7 ∷ []) a b c d e i j k l g h = absurd (omega (arith, g))
nine_texts f (v ∷ v1 ∷ v2 ∷ v3 ∷ v4 ∷ v5 ∷ v6 ∷ v7 ∷ v8 ∷ []) a b c d e i j k l g h = λ p0 p1 p2 p3 p4 p5 p6 p7 p8. (let q : f a ≡ f v = ap f p0 in let q1 : f b ≡ f v1 = ap f p1 in let q2 : f c ≡ f v2 = ap f p2 in let q3 : f d ≡ f v3 = ap f p3 in let q4 : f e ≡ f v4 = ap f p4 in let q5 : f i ≡ f v5 = ap f p5 in let q6 : f j ≡ f v6 = ap f p6 in let q7 : f k ≡ f v7 = ap f p7 in let q8 : f l ≡ f v8 = ap f p8 in cc)
nine_texts f (v ∷ v1 ∷ v2 ∷ v3 ∷ v4 ∷ v5 ∷ v6 ∷ v7 ∷ v8 ∷ v9 ∷ vs) a b c d e i j k l g h = absurd (omega (arith, h))

pub none_eight : {X : Type 0} (f : X → List ℕ) (ws : List X) → nat_lt (length ws) 8 ≡ false → nat_lt (length ws) 9 ≡ true → None ≡ command_of (map f ws)
none_eight f ws g h = eight f ws (from (length ws) 8 g) (below (length ws) 9 h)

pub none_long : {X : Type 0} (f : X → List ℕ) (ws : List X) → nat_lt (length ws) 10 ≡ false → None ≡ command_of (map f ws)
none_long f ws g = long f ws (from (length ws) 10 g)
