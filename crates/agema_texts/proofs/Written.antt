-- What is written for a net.
use Rattle.std.proofs.Common.{◌≡◌, ◌+◌, ℕ, List, [], ◌∷◌, Option, map, refl, ap, ap₂, sym, subst, ◌∙◌, ◌≤◌, arith}
use Rattle.agm_net.specs.Network.{Hpc2, HasGadgets}
use Rattle.agm_net.specs.Plain.{PlainNet}
use Rattle.agm_net.specs.Renumbered.{Renumbered}
use Rattle.agm_net.specs.WellFormed.{WellFormed}
use Rattle.pipeline_balance.specs.Apart.{HasNames}
use Rattle.whole_networks.specs.Kept.{RenumberedIsNet, RenumberedIsNetwork, RenumberedHasGadgets}
use Rattle.whole_networks.specs.Whole.{IsSecure, NamedNetworksAreSecure}
use Rattle.agm_net.specs.declared.mark.Mark.{Mark}
use Rattle.share_wiring.specs.ReportOf.{ReportOf}
use Rattle.share_wiring.specs.Same.{Same}
use Rattle.share_wiring.specs.declared.report.Report.{Report}
use Rattle.share_wiring.specs.declared.report.Mode.TheVariants.{Naive}
use Rattle.share_wiring.specs.declared.report.Balance.TheVariants.{Pipe}
use Rattle.design_binds.specs.WrittenNet.{IsTextOf}
use Rattle.net_design.specs.Design.{module_of}
use Rattle.agema_texts.specs.Comparing.{IsMadeOf}
use Rattle.agema_texts.specs.Width.{NaiveCosts}
use Rattle.agema_texts.proofs.PortNames.{shared_names}

-- a net that was made and what is written of it, by the law that a renumbered net computes the same
pub made_net : (original : PlainNet) (marks : List Mark) (order : ℕ) (out : List ℕ) (net : PlainNet) (report : Report) (gadgets latency : ℕ)
    → ((original : PlainNet) (marks : List Mark) (report : Report) (net other : PlainNet) → Same original marks report net → Renumbered net other → Same original marks report other)
    → RenumberedIsNet → RenumberedIsNetwork → RenumberedHasGadgets → NamedNetworksAreSecure → HasNames original → WellFormed net
    → Hpc2 net order → HasGadgets net order gadgets → order ≤ 7
    → NaiveCosts original marks gadgets latency → ReportOf original marks order Naive Pipe gadgets latency report → Same original marks report net → IsTextOf out net
    → IsMadeOf original marks order net report out
made_net original marks order out net report gadgets latency carries keeps_net keeps_network keeps_gadgets are_secure names well network counted last costs reported same text =
    let other = text.other in
    let r = text.same in
    let N : ℕ → Type 0 = λ d. Hpc2 other d in
    let S : ℕ → Type 0 = λ d. IsSecure other d in
    let kept = keeps_network net other order network r in
    let same_other = carries original marks report net other same r in
    let order_is = reported.order_is in
    let secure = are_secure original report other names (omega (arith, order_is, last)) (keeps_net net other well r) same_other.shape (subst N (sym order_is) kept) in
    record {
      masks = record {
        masked = other;
        report = report;
        gadgets = gadgets;
        latency = latency;
        costs = costs;
        gives = (module_of net ∷ [], text.spelled, text.binds);
        one_module = (net, r, text.spelled);
        reported = reported;
        file_is = refl;
        line_is = refl;
        same = same_other;
        network = kept;
        counted = keeps_gadgets net other order gadgets counted r;
        secure = subst S order_is secure;
      };
      report_is = refl;
      renumbered = r;
      well = well;
      masked_well = keeps_net net other well r;
      no_loop = same.no_loop;
      written = shared_names reported.ports_are names.written;
    }
