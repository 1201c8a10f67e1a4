-- The names of an original's ports, as masking wants them.
use Rattle.std.proofs.Common.{◌≡◌, ◌+◌, ℕ, Bool, true, false, List, [], ◌∷◌, Option, Some, None, refl, IsTrue, codes, nat_eq}
use Rattle.std.specs.List.{AllByRecursion, flat_map, enumerate_from, starts_with}
use Rattle.agm_net.specs.Plain.{PlainNet}
use Rattle.agm_net.specs.WellFormed.{WellFormed}
use Rattle.agm_net.specs.Writable.{IsWritable}
use Rattle.agm_net.specs.declared.port.Port.{Port}
use Rattle.agm_net.specs.declared.port.Range.{Range}
use Rattle.annotations.specs.Rules.{Broken, NoneBroken, rules_of, use_rules, no_secure, annotation_rules}
use Rattle.bound_names.specs.Named.{HasSmallNumbers, IsNamed}
use Rattle.pipeline_balance.specs.Apart.{HasNames}
use Rattle.share_wiring.specs.Built.{IsSmallRange}
use Rattle.verilog_reader.specs.Plain.{PlainModule}
use Rattle.agema_texts.proofs.OpenClock.{none_first, none_rest}

not_true : (b : Bool) → (IsTrue b → Prim.⊥) → b ≡ false
not_true true h = absurd (h refl)
not_true false h = refl

free_ports : (top : PlainModule) (net : PlainNet) (n : ℕ) (ports : List Port) → NoneBroken (Broken top net) (flat_map rules_of (enumerate_from n ports))
    → AllByRecursion (λ p. starts_with nat_eq p.name (codes "agm_") ≡ false) ports
free_ports top net n [] none = tt
free_ports top net n (p ∷ ps) none = (
  not_true (starts_with nat_eq p.name (codes "agm_")) none.0,
  free_ports top net (n + 1) ps (none_rest (Broken top net) (rules_of (n, p)) (flat_map rules_of (enumerate_from (n + 1) ps)) none),
)

written_names : (ports : List Port) → AllByRecursion IsNamed ports → AllByRecursion (λ p. IsWritable p.name) ports
written_names [] h = tt
written_names (p ∷ ps) h = (h.0.0, written_names ps h.1)

small_range : (range : Option Range) → HasSmallNumbers range → IsSmallRange range
small_range None h = tt
small_range (Some r) h = h

small_ranges : (ports : List Port) → AllByRecursion IsNamed ports → AllByRecursion (λ p. IsSmallRange p.range) ports
small_ranges [] h = tt
small_ranges (p ∷ ps) h = (small_range p.range h.0.1, small_ranges ps h.1)

-- a bound net that keeps the rules of annotations has the names that masking wants
pub has_names : (top : PlainModule) (net : PlainNet) → WellFormed net → NoneBroken (Broken top net) (annotation_rules net) → AllByRecursion IsNamed net.ports → HasNames net
has_names top net well none named = record {
  well = well;
  free = free_ports top net 0 net.ports (none_first (Broken top net) (flat_map rules_of (enumerate_from 0 net.ports)) (no_secure ∷ use_rules net) none);
  written = written_names net.ports named;
  small = small_ranges net.ports named;
}
