-- An original with the names that masking wants has ports with different names, none of which is empty or begins with `agm_`.
use Rattle.std.proofs.Common.{◌≡◌, ◌≢◌, ◌<◌, ◌+◌, ◌^◌, ◌++◌, ℕ, zero, suc, false, List, [], ◌∷◌, Option, None, Some, map, take, drop, codes, nat_eq, sym, subst, arith}
use Rattle.std.specs.List.{AllByRecursion, starts_with}
use Rattle.agm_net.specs.Plain.{PlainNet, data_ports, ports_but}
use Rattle.agm_net.specs.WellFormed.{WellFormed}
use Rattle.agm_net.specs.Writable.{IsWritable}
use Rattle.agm_net.specs.declared.port.Port.{Port}
use Rattle.share_wiring.specs.Built.{AreDistinct}
use Rattle.share_wiring.specs.Shape.{Shape, header_of}
use Rattle.share_wiring.specs.declared.report.Report.{Report}
use Rattle.pipeline_balance.specs.Apart.{Apart, AreApart, HasNames}
use Rattle.pipeline_balance.specs.Sublists.{IsSublist, none, kept, left}
use Rattle.pipeline_balance.proofs.Beside.{sublist_apart}
use Rattle.pipeline_balance.proofs.Originally.{ports_apart}
use Rattle.pipeline_balance.proofs.Standing.{user_name}
use Rattle.pipeline_balance.proofs.Sublists.{of_sublist, whole, sublist_of_images}
use Rattle.whole_networks.specs.Whole.{HasUserName, IsMaskedNet}

-- ---- all ports but one

left_out : (c : ℕ) (ps : List Port) → IsSublist (take c ps ++ drop (suc c) ps) ps
left_out zero [] = none
left_out (suc c) [] = none
left_out zero (p ∷ ps) = left (whole ps)
left_out (suc c) (p ∷ ps) = kept (left_out c ps)

ports_left : (clock : Option ℕ) (ps : List Port) → IsSublist (ports_but clock ps) ps
ports_left None ps = whole ps
ports_left (Some c) ps =
    let next : c + 1 ≡ suc c = omega arith in
    subst (λ k. IsSublist (take c ps ++ drop k ps) ps) (sym next) (left_out c ps)

-- ---- names

user_names : (ps : List Port) → AllByRecursion (λ p. starts_with nat_eq p.name (codes "agm_") ≡ false) ps → AllByRecursion (λ p. IsWritable p.name) ps → AllByRecursion HasUserName ps
user_names [] free written = tt
user_names (p ∷ ps) free written = ((user_name p.name free.0, written.0.0), user_names ps free.1 written.1)

names_differ : (ps : List Port) → AreApart (map header_of ps) → AreDistinct (map (λ p. p.name) ps)
names_differ [] apart = tt
names_differ (p ∷ ps) apart = (each ps apart.0, names_differ ps apart.1)
  where
    each : (qs : List Port) → AllByRecursion (Apart (header_of p)) (map header_of qs) → AllByRecursion (λ name. p.name ≢ name) (map (λ q. q.name) qs)
    each [] h = tt
    each (q ∷ qs) h = (h.0.names, each qs h.1)

pub is_masked : (original : PlainNet) (report : Report) (net : PlainNet) → HasNames original → report.order < 2 ^ 32 → WellFormed net → Shape original report net → IsMaskedNet original report net
is_masked original report net named few well shape =
    let some = ports_left original.clock original.ports in
    record {
      well = well;
      shape = shape;
      users = of_sublist HasUserName (data_ports original) original.ports some (user_names original.ports named.free named.written);
      differ = names_differ (data_ports original)
          (sublist_apart (map header_of (data_ports original)) (map header_of original.ports) (sublist_of_images header_of (data_ports original) original.ports some) (ports_apart original named.well));
      few = few;
    }
