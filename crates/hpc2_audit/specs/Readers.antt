-- Who reads each wire of a net.
use Rattle.std.specs.Prelude.{◌≡◌, ◌≢◌, ◌<◌, ◌==◌, ℕ, cond, List, [], ◌∷◌, length, slice_set, slice_index_or, IsTrue}
use Rattle.agm_net.specs.Formula.{Formula, f_zero, f_one, f_wire, f_not, f_and, f_or, f_xor, f_mux}
use Rattle.agm_net.specs.Label.{is_reader}
use Rattle.agm_net.specs.Plain.{Line, PlainNet, Stored}
use Rattle.hpc2_audit.specs.declared.readers.Readers.{Readers}
use Rattle.hpc2_audit.specs.declared.readers.Readers.TheVariants.{Nobody, One as JustOne, Several}

abbrev pub readers_at : List Readers → ℕ → Readers
readers_at readers w = slice_index_or readers w Nobody

-- the readers with one more
abbrev pub joined : Readers → ℕ → Readers
joined Nobody u = JustOne u
joined (JustOne v) u = cond (v == u) (JustOne v) Several
joined Several u = Several

abbrev pub noted : List Readers → ℕ → ℕ → List Readers
noted readers u w = slice_set readers w (joined (readers_at readers w) u)

-- with a reader of all wires that stand in a formula
abbrev pub noted_all : ℕ → Formula → List Readers → List Readers
noted_all u f_zero readers = readers
noted_all u f_one readers = readers
noted_all u (f_wire w) readers = noted readers u w
noted_all u (f_not x) readers = noted_all u x readers
noted_all u (f_and x y) readers = noted_all u y (noted_all u x readers)
noted_all u (f_or x y) readers = noted_all u y (noted_all u x readers)
noted_all u (f_xor x y) readers = noted_all u y (noted_all u x readers)
noted_all u (f_mux s x y) readers = noted_all u y (noted_all u x (noted_all u s readers))

abbrev pub noted_lines : List Line → List Readers → List Readers
noted_lines [] readers = readers
noted_lines (l ∷ ls) readers = noted_lines ls (noted_all l.0 l.1 readers)

abbrev pub noted_registers : List Stored → List Readers → List Readers
noted_registers [] readers = readers
noted_registers (r ∷ rs) readers = noted_registers rs (noted (noted_all r.q r.next readers) r.q r.clock)

-- what readers say of those that read
abbrev pub Read : Readers → (ℕ → Type 0) → Type 0
Read Nobody reads = (u : ℕ) → reads u → Prim.⊥
Read (JustOne v) reads = reads v × ((u : ℕ) → reads u → u ≡ v)
Read Several reads = (u v : ℕ) × (u ≢ v) × reads u × reads v

-- the readers of each wire of a net
pub record AreReaders (net : PlainNet) (readers : List Readers) : Type 0 where
  pub as_many : length readers ≡ length net.wires
  pub told : (w : ℕ) → w < length net.wires → Read (readers_at readers w) (λ u. IsTrue (is_reader net u w))
