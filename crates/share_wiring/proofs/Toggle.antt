-- The worked example: the toggle.
use Rattle.std.proofs.Common.{◌≡◌, ◌<◌, ◌==◌, ◌↔◌, ℕ, zero, suc, Bool, true, false, not, List, [], ◌∷◌, Some, None, map, IsTrue, count_by, nat_lt, slice_get, slice_index_or, refl, ap, subst, inl, inr, arith, codes, zero-lt-suc}
use Rattle.std.specs.Option.{option_map_or}
use Rattle.std.proofs.lemmas.Bool.{eqb-true}
use Rattle.agm_net.specs.Loop.{HasNoLoop}
use Rattle.agm_net.specs.Plain.{Stored, bit_names}
use Rattle.agm_net.specs.Secret.{IsSecret}
use Rattle.agm_net.specs.WellFormed.{WellFormed, drivers, is_clock_port}
use Rattle.agm_net.specs.declared.mark.Mark.TheVariants.{Clock}
use Rattle.agm_net.specs.declared.port.Way.TheVariants.{Input, Output}
use Rattle.agm_net.specs.declared.port.Port.{Port}
use Rattle.agm_net.proofs.InOrder.{no_loop_in_order}
use Rattle.agm_net.proofs.Lists.{all_of_one}
use Rattle.share_wiring.specs.ReportOf.{IsShared, shared, public, none, ReportOf}
use Rattle.share_wiring.specs.Same.{TellsSecrets}
use Rattle.share_wiring.specs.Worked.{port, toggle, toggle_marks, toggle_report}
use Rattle.share_wiring.specs.declared.report.Mode.TheVariants.{Naive}
use Rattle.share_wiring.specs.declared.report.Balance.TheVariants.{Pipe}
use Rattle.share_wiring.proofs.Lists.{row_once}
use Rattle.share_wiring.proofs.Decide.{each_passes, names_differ, they_are_fresh}

-- the bits of a port are named as the port
abbrev IsNamed : Port → Type 0
IsNamed p = map (slice_get toggle.wires) p.bits ≡ map (λ name. Some name) (bit_names p.name p.range)

pub is_net : WellFormed toggle
is_net = record {
  in_range = refl;
  ports_right = record {
    ports_differ = names_differ (map (λ p. p.name) toggle.ports) refl;
    bits_named = λ n p at. all_of_one IsNamed toggle.ports n p (refl, (refl, (refl, (refl, tt)))) at;
    one_port = λ w. row_once 0 4 w;
    clock_fits = λ c e. (let is : 0 ≡ c = cc in subst (λ k. IsTrue (option_map_or is_clock_port (slice_get toggle.ports k) false)) is refl);
  };
  wires_differ = names_differ toggle.wires refl;
  one_driver = λ w lt. eqb-true (drivers toggle w) 1 (each_passes (λ v. drivers toggle v == 1) 6 w refl lt);
}

pub has_no_loop : HasNoLoop toggle
has_no_loop = no_loop_in_order toggle (λ w. nat_lt w 4) (they_are_fresh (λ w. nat_lt w 4) toggle.lines refl)

-- ---- secrets

-- the state depends on x through the register
pub state_is_secret : IsSecret toggle toggle_marks 3
state_is_secret = (5 ∷ 4 ∷ 1 ∷ [], (refl, (refl, (refl, tt))), refl)

secret : (w : ℕ) → w < 6 → 0 < w → IsSecret toggle toggle_marks w
secret zero lt some = absurd (omega arith)
secret (suc zero) lt some = ([], tt, refl)
secret (suc (suc zero)) lt some = ([], tt, refl)
secret (suc (suc (suc zero))) lt some = state_is_secret
secret (suc (suc (suc (suc zero)))) lt some = (1 ∷ [], (refl, tt), refl)
secret (suc (suc (suc (suc (suc zero))))) lt some = (4 ∷ 1 ∷ [], (refl, (refl, tt)), refl)
secret (suc (suc (suc (suc (suc (suc w)))))) lt some = absurd (omega arith)

clock_is_public : IsSecret toggle toggle_marks 0 → ⊥
clock_is_public ([], c, is) = let no : false ≡ true = is in cc
clock_is_public (v ∷ vs, c, is) = let no : false ≡ true = c.0 in cc

pub secrets : (w : ℕ) → w < 6 → (0 < w) ↔ IsSecret toggle toggle_marks w
secrets zero lt = ((λ some. absurd (omega arith)), λ is. absurd (clock_is_public is))
secrets (suc w) lt = ((λ some. secret (suc w) lt some), λ is. zero-lt-suc w)

pub tells : TellsSecrets toggle toggle_marks (true ∷ [])
tells = record {
  one_each = refl;
  tells = one;
}
  where
    one : (n : ℕ) (r : Stored) → slice_get toggle.registers n ≡ Some r → IsTrue (slice_index_or (true ∷ []) n false) ↔ IsSecret toggle toggle_marks r.q
    one zero r at = let is : 3 ≡ r.q = cc in ((λ h. subst (IsSecret toggle toggle_marks) is state_is_secret), λ h. refl)
    one (suc n) r at = absurd (cc)

-- ---- the report

-- the toggle has one register, whose state is secret
pub one_secret : (kinds : List Bool) → TellsSecrets toggle toggle_marks kinds → kinds ≡ true ∷ []
one_secret [] told = absurd (let long = told.one_each in omega arith)
one_secret (b ∷ []) told = let is : b ≡ true = (told.tells 0 _ refl).1 state_is_secret in ap (λ k. k ∷ []) is
one_secret (b ∷ c ∷ ks) told = absurd (let long = told.one_each in omega arith)

registers : (kinds : List Bool) → TellsSecrets toggle toggle_marks kinds → (1 ≡ count_by (λ s. s) kinds) × (0 ≡ count_by not kinds)
registers kinds told = rw (one_secret kinds told) (refl, refl)

clock_port : IsShared toggle toggle_marks (port (codes "clk") Input None 0) Clock → ⊥
clock_port (inl secure) = cc
clock_port (inr out) = let no : Input ≡ Output = out.0 in cc

pub reported : ReportOf toggle toggle_marks 1 Naive Pipe 1 2 toggle_report
reported = record {
  order_is = refl;
  mode_is = refl;
  balance_is = refl;
  gadgets_are = refl;
  random_is = refl;
  latency_is = refl;
  period_is = refl;
  streams_are = refl;
  registers_are = registers;
  ports_are = public clock_port (shared (inl refl) (shared (inl refl) (shared (inr (refl, (0, 3, zero-lt-suc 0, refl, state_is_secret))) none)));
}
