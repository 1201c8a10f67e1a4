-- Signals of sharings, and what a builder's calls say of them.
use Rattle.std.specs.Prelude.{◌≡◌, ◌<◌, ◌+◌, ℕ, Bool, List}
use Rattle.share_wiring.specs.Wiring.{Wiring, IsSharing}
use Rattle.share_wiring.specs.Adds.{recombined, Extends, AddsFact}
use Rattle.pipeline_balance.specs.Signals.{Signal}
use Rattle.pipeline_balance.specs.Pipelines.{Signals}
use Rattle.pipeline_balance.specs.Sound.{KeepsSound}

-- what n shares recombine to in each cycle; a public wire is a sharing of one share
abbrev pub shared : ℕ → (ℕ → ℕ → Bool) → List ℕ → Signal
shared n bits shares t = recombined n (bits t) shares

-- Where the values of nodes stand: the wires of each node's sharing, how many shares it has, and its level.
pub record Places : Type 0 where
  pub shares : ℕ → List ℕ
  pub size : ℕ → ℕ
  pub level : ℕ → ℕ

-- places that agree on the nodes below a bound
pub record Agree (bound : ℕ) (p q : Places) : Type 0 where
  pub shares : (k : ℕ) → k < bound → q.shares k ≡ p.shares k
  pub size : (k : ℕ) → k < bound → q.size k ≡ p.size k
  pub level : (k : ℕ) → k < bound → q.level k ≡ p.level k

-- signals whose nodes stand at places
abbrev pub placed : (ℕ → ℕ → Bool) → Places → Signals → Signals
placed bits p s = record { node = λ k. shared (p.size k) bits (p.shares k); given = s.given; state = s.state; initial = s.initial; load = s.load; output = s.output }

-- What calls do that make a sharing, in a net on s shares: earlier wires and ports stay, so many gadgets are begun and so many random
-- bits given, the net stays sound, and each trace of the new net is one of the old net and keeps a fact.
pub record Makes (s : ℕ) (old now : Wiring) (n gadgets random : ℕ) (z : List ℕ) (fact : ℕ → (ℕ → ℕ → Bool) → Type 0) : Type 0 where
  pub extends : Extends old now
  pub ports : now.ports ≡ old.ports
  pub begun : now.gadgets ≡ old.gadgets + gadgets
  pub given : now.given ≡ old.given + random
  pub sound : KeepsSound s old now
  pub shares : IsSharing now.wires n z
  pub value : AddsFact old now fact

-- The same of calls, whatever they make.
pub record Adds (s : ℕ) (old now : Wiring) (gadgets random : ℕ) (fact : ℕ → (ℕ → ℕ → Bool) → Type 0) : Type 0 where
  pub extends : Extends old now
  pub ports : now.ports ≡ old.ports
  pub begun : now.gadgets ≡ old.gadgets + gadgets
  pub given : now.given ≡ old.given + random
  pub sound : KeepsSound s old now
  pub value : AddsFact old now fact
