-- Formulas over wires: their values, and the wires that stand in them.
use Rattle.std.specs.Prelude.{◌==◌, ℕ, Bool, true, false, not, ◌&&◌, ◌||◌, cond, nat_lt}
use Rattle.agm_net.specs.declared.expr.Expr.{Expr, Zero, One, Wire, Not', And', Or', Xor', Mux'}

-- exclusive or
abbrev pub xor : Bool → Bool → Bool
xor false y = y
xor true y = not y

-- An expression apart from where its parts lie in memory. `f_mux s x y` is y where s is 1, else x.
pub data Formula : Type 0 where
  f_zero : Formula
  f_one : Formula
  f_wire : ℕ → Formula
  f_not : Formula → Formula
  f_and : Formula → Formula → Formula
  f_or : Formula → Formula → Formula
  f_xor : Formula → Formula → Formula
  f_mux : Formula → Formula → Formula → Formula

abbrev pub formula_of : Expr → Formula
formula_of Zero = f_zero
formula_of One = f_one
formula_of (Wire k) = f_wire k
formula_of (Not' p x) = f_not (formula_of x)
formula_of (And' p x q y) = f_and (formula_of x) (formula_of y)
formula_of (Or' p x q y) = f_or (formula_of x) (formula_of y)
formula_of (Xor' p x q y) = f_xor (formula_of x) (formula_of y)
formula_of (Mux' p s q x r y) = f_mux (formula_of s) (formula_of x) (formula_of y)

-- the value of a formula where wire w has the bit `bit w`
abbrev pub value : (ℕ → Bool) → Formula → Bool
value bit f_zero = false
value bit f_one = true
value bit (f_wire w) = bit w
value bit (f_not x) = not (value bit x)
value bit (f_and x y) = value bit x && value bit y
value bit (f_or x y) = value bit x || value bit y
value bit (f_xor x y) = xor (value bit x) (value bit y)
value bit (f_mux s x y) = cond (value bit s) (value bit y) (value bit x)

-- whether wire w stands in a formula
abbrev pub stands : ℕ → Formula → Bool
stands w f_zero = false
stands w f_one = false
stands w (f_wire v) = v == w
stands w (f_not x) = stands w x
stands w (f_and x y) = stands w x || stands w y
stands w (f_or x y) = stands w x || stands w y
stands w (f_xor x y) = stands w x || stands w y
stands w (f_mux s x y) = stands w s || (stands w x || stands w y)

-- whether each wire that stands in a formula is below n
abbrev pub reads_below : ℕ → Formula → Bool
reads_below n f_zero = true
reads_below n f_one = true
reads_below n (f_wire v) = nat_lt v n
reads_below n (f_not x) = reads_below n x
reads_below n (f_and x y) = reads_below n x && reads_below n y
reads_below n (f_or x y) = reads_below n x && reads_below n y
reads_below n (f_xor x y) = reads_below n x && reads_below n y
reads_below n (f_mux s x y) = reads_below n s && (reads_below n x && reads_below n y)
