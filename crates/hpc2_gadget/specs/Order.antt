-- The order in which the parts of a gadget are made, by which their names are new.
use Rattle.std.specs.Prelude.{◌≡◌, ◌<◌, ◌+◌, ◌-◌, ◌*◌, ◌/◌, ◌%◌, ℕ, List, max, min}
use Rattle.std.specs.List.{AllByRecursion}
use Rattle.agm_net.specs.Label.{part_name, HasNumbers}
use Rattle.agm_net.specs.declared.label.PartKind.{PartKind}
use Rattle.agm_net.specs.declared.label.PartKind.TheVariants.{Clk, A, B, R, Rr, Bb, Vx, V, Na, Ux, U, Wx, W, Mx, M, S, C}

-- 1 where i is greater than j
abbrev pub turn : ℕ → ℕ → ℕ
turn i j = min 1 (i - j)

-- the first number of the parts of the pair of two indices; there are twenty for each pair
abbrev pub cell : ℕ → ℕ → ℕ
cell i j = 97 + (max i j * 320 + min i j * 20)

-- how many of the other indices of i come before j, and the index before which so many come
abbrev pub place_of : ℕ → ℕ → ℕ
place_of i j = j - turn j i

abbrev pub partner : ℕ → ℕ → ℕ
partner i p = p + min 1 (p + 1 - i)

-- the last of the other indices of i, of n
abbrev pub last_partner : ℕ → ℕ → ℕ
last_partner n i = n - 1 - (1 - min 1 (n - 1 - i))

-- the number of a part of a gadget on n shares
abbrev pub rank : ℕ → PartKind → ℕ → ℕ → ℕ
rank n Clk i j = 0
rank n A i j = 1 + i
rank n B i j = 17 + i
rank n Na i j = 33 + i
rank n Bb i j = 49 + i * 3
rank n Mx i j = 50 + i * 3
rank n M i j = 51 + i * 3
rank n R i j = cell i j
rank n Rr i j = cell i j + 1
rank n Vx i j = cell i j + (2 + turn i j * 6)
rank n V i j = cell i j + (3 + turn i j * 6)
rank n Ux i j = cell i j + (4 + turn i j * 6)
rank n U i j = cell i j + (5 + turn i j * 6)
rank n Wx i j = cell i j + (6 + turn i j * 6)
rank n W i j = cell i j + (7 + turn i j * 6)
rank n S i j = cell i (partner i ((j - 1) / 2)) + (14 + (turn i (partner i ((j - 1) / 2)) * 2 + (j - 1) % 2))
rank n C i j = cell i (last_partner n i) + (15 + turn i (last_partner n i) * 2)

-- the numbers that parts have
abbrev pub IsIndex : ℕ → PartKind → ℕ → ℕ → Type 0
IsIndex n kind i j = (i < 32) × (j < 32) × HasNumbers (n - 1) kind i j

-- among these names each part of gadget g has a number below r
abbrev pub Below : ℕ → ℕ → ℕ → List (List ℕ) → Type 0
Below n g r names = AllByRecursion (λ name. (kind : PartKind) (i j : ℕ) → IsIndex n kind i j → name ≡ part_name n g kind i j → rank n kind i j < r) names
