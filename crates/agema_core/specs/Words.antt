-- The words of a command.
use Rattle.std.specs.Prelude.{◌≡◌, ◌≤◌, ◌<◌, ◌++◌, ℕ, List, [], ◌∷◌, length, codes}
use Rattle.std.specs.Fmt.{decimal}
use Rattle.hex.specs.Hex.{encode_lower}
use Rattle.share_wiring.specs.declared.report.Mode.{Mode}
use Rattle.share_wiring.specs.declared.report.Balance.{Balance}
use Rattle.masked_writer.specs.Report.{mode_text, balance_text}
use Rattle.agema_core.specs.Seed.{IsSeed}

-- what the words of a `mask` command say
pub record Mask : Type 0 where
  pub library : List ℕ
  pub net : List ℕ
  pub order : ℕ
  pub mode : Mode
  pub balance : Balance
  pub out : List ℕ

-- what the words of a `sim` command say
pub record Sim : Type 0 where
  pub library : List ℕ
  pub net : List ℕ
  pub stimulus : List ℕ

-- what the words of a `report` command say
pub record Reporting : Type 0 where
  pub out : List ℕ

-- what the words of an `audit` command say
pub record Auditing : Type 0 where
  pub out : List ℕ
  pub order : ℕ

-- an order that can be asked for
abbrev pub IsOrder : ℕ → Type 0
IsOrder d = (1 ≤ d) × (d ≤ 7)

-- the words are `mask LIB NET D MODE BALANCE OUT`, with D from 1 to 7, and none is empty
pub record IsMask (words : List (List ℕ)) (m : Mask) : Type 0 where
  pub words_are : words ≡ codes "mask" ∷ m.library ∷ m.net ∷ decimal m.order ∷ mode_text m.mode ∷ balance_text m.balance ∷ m.out ∷ []
  pub order_fits : IsOrder m.order
  pub has_library : 0 < length m.library
  pub has_net : 0 < length m.net
  pub has_out : 0 < length m.out

-- the words are `sim LIB NET STIM`, and none is empty
pub record IsSim (words : List (List ℕ)) (s : Sim) : Type 0 where
  pub words_are : words ≡ codes "sim" ∷ s.library ∷ s.net ∷ s.stimulus ∷ []
  pub has_library : 0 < length s.library
  pub has_net : 0 < length s.net
  pub has_stimulus : 0 < length s.stimulus

-- the words are `report OUT`, and none is empty
pub record IsReporting (words : List (List ℕ)) (r : Reporting) : Type 0 where
  pub words_are : words ≡ codes "report" ∷ r.out ∷ []
  pub has_out : 0 < length r.out

-- the words are `audit OUT D`, with D from 1 to 7, and none is empty
pub record IsAuditing (words : List (List ℕ)) (a : Auditing) : Type 0 where
  pub words_are : words ≡ codes "audit" ∷ a.out ∷ decimal a.order ∷ []
  pub order_fits : IsOrder a.order
  pub has_out : 0 < length a.out

-- what the words of a `cones` command say
pub record Probing : Type 0 where
  pub out : List ℕ
  pub order : ℕ
  pub probes : List ℕ

-- the words are `cones OUT D PROBES`, with D from 1 to 7, and none is empty
pub record IsProbing (words : List (List ℕ)) (p : Probing) : Type 0 where
  pub words_are : words ≡ codes "cones" ∷ p.out ∷ decimal p.order ∷ p.probes ∷ []
  pub order_fits : IsOrder p.order
  pub has_out : 0 < length p.out
  pub has_probes : 0 < length p.probes

-- what the words of a `both` command say
pub record Comparing : Type 0 where
  pub masking : Mask
  pub stimulus : List ℕ
  pub seed : List ℕ

-- the words are `both LIB NET D MODE BALANCE OUT STIM SEED`, those of `mask` with a stimulus and a seed, and STIM is not empty
pub record IsComparing (words : List (List ℕ)) (c : Comparing) : Type 0 where
  pub head : List (List ℕ)
  pub is_mask : IsMask (codes "mask" ∷ head) c.masking
  pub words_are : words ≡ codes "both" ∷ (head ++ c.stimulus ∷ encode_lower c.seed ∷ [])
  pub has_stimulus : 0 < length c.stimulus
  pub seed_fits : IsSeed c.seed

-- what a command asks for
pub data Request : Type 0 where
  mask : Mask → Request
  sim : Sim → Request
  reporting : Reporting → Request
  auditing : Auditing → Request
  probing : Probing → Request
  comparing : Comparing → Request

-- the words are a command that asks for this
abbrev pub Asks : List (List ℕ) → Request → Type 0
Asks words (mask m) = IsMask words m
Asks words (sim s) = IsSim words s
Asks words (reporting r) = IsReporting words r
Asks words (auditing a) = IsAuditing words a
Asks words (probing p) = IsProbing words p
Asks words (comparing c) = IsComparing words c

-- an order that is asked for is one that can be
abbrev pub HasOrder : Request → Type 0
HasOrder (mask m) = IsOrder m.order
HasOrder (sim s) = Unit {0}
HasOrder (reporting r) = Unit {0}
HasOrder (auditing a) = IsOrder a.order
HasOrder (probing p) = IsOrder p.order
HasOrder (comparing c) = IsOrder c.masking.order
