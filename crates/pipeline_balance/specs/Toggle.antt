-- An example: a register q that becomes q ^ (x & y), and the signals of its pipeline with one gadget.
use Rattle.std.specs.Prelude.{ℕ, zero, suc, Bool, false, ◌&&◌, ◌-◌, ◌/◌, ◌%◌, [], ◌∷◌, nat_lt}
use Rattle.agm_net.specs.Formula.{xor}
use Rattle.logic_graph.specs.declared.nodes.XanNode.TheVariants.{Input, Q, Xor, And}
use Rattle.pipeline_balance.specs.Machines.{Machine}
use Rattle.pipeline_balance.specs.Signals.{Signal, selected}
use Rattle.pipeline_balance.specs.Pipelines.{Signals}

abbrev pub toggle : Machine
toggle = record { nodes = Input 0 ∷ Input 1 ∷ Q 0 ∷ And 0 1 ∷ Xor 2 3 ∷ []; sinks = 2 ∷ 4 ∷ []; inputs = 2; outputs = 1; registers = 1 }

-- sources stand at level 0, the product and the sum at level 2
abbrev pub toggle_level : ℕ → ℕ
toggle_level zero = 0
toggle_level (suc zero) = 0
toggle_level (suc (suc zero)) = 0
toggle_level (suc (suc (suc k))) = 2

-- a delay register whose power-up bit is 0
abbrev pub delayed : Signal → Signal
delayed x zero = false
delayed x (suc t) = x t

-- a gadget's answer
abbrev pub product : (late early : Signal) → Signal
product late early = delayed (λ t. late t && delayed early t)

-- the register and its two delay stages
pub record Stages : Type 0 where
  pub first : Bool
  pub second : Bool
  pub third : Bool

module _ (x y initial load : Signal) where
  abbrev pub step : Bool → Bool → Bool → Stages → Stages
  step masked begin loads now = record { first = selected loads begin (xor now.third masked); second = now.first; third = now.second }

  abbrev pub stages : ℕ → Stages
  stages zero = record { first = false; second = false; third = false }
  stages (suc t) = step (product (delayed x) y t) (initial t) (load t) (stages t)

  abbrev pub toggle_node : ℕ → Signal
  toggle_node zero = x
  toggle_node (suc zero) = y
  toggle_node (suc (suc zero)) = λ t. (stages t).first
  toggle_node (suc (suc (suc zero))) = product (delayed x) y
  toggle_node (suc (suc (suc (suc k)))) = λ t. xor (stages t).third (product (delayed x) y t)

  abbrev pub toggle_given : ℕ → Signal
  toggle_given zero = x
  toggle_given (suc i) = y

  abbrev pub toggle_signals : Signals
  toggle_signals = record {
    node = toggle_node;
    given = toggle_given;
    state = λ r t. (stages t).first;
    initial = λ r. initial;
    load = load;
    output = λ o t. (stages t).third;
  }

-- inputs and initial values in the cycles of a schedule with three streams
abbrev pub fed : (inputs : (stream k i : ℕ) → Bool) → ℕ → Signal
fed inputs i t = inputs ((t - 1) % 3) ((t - 1) / 3) i

abbrev pub driven_toggle : (initial : (stream r : ℕ) → Bool) (inputs : (stream k i : ℕ) → Bool) → Signals
driven_toggle initial inputs = toggle_signals (fed inputs 0) (fed inputs 1) (λ t. initial t 0) (λ t. nat_lt t 3)
