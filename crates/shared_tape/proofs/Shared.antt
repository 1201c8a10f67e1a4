-- The tape for a stimulus that fits.
use Rattle.std.proofs.Common.{◌≡◌, ◌<◌, ℕ, Bool, Some, List, length, get_or, sym, ap, ap₂, subst, ◌∙◌}
use Rattle.agm_net.specs.Plain.{PlainNet, input_bits}
use Rattle.agm_net.specs.Trace.{Row}
use Rattle.share_wiring.specs.ReportOf.{streams_of}
use Rattle.share_wiring.specs.Same.{TellsSecrets}
use Rattle.share_wiring.specs.Schedule.{stream_at}
use Rattle.share_wiring.specs.declared.report.Report.{Report}
use Rattle.stimulus.specs.Fits.{Fits}
use Rattle.stimulus.specs.declared.stimuli.Stream.{Stream}
use Rattle.shared_tape.specs.Filled.{filled, AreStreams}
use Rattle.shared_tape.specs.Inputs.{inputs_of, width_of}
use Rattle.shared_tape.specs.Rows.{tape_rows, tape_width}
use Rattle.shared_tape.specs.SharedTape.{SharedTape, named_marks}
use Rattle.shared_tape.specs.declared.inputs.Input.{Input}
use Rattle.shared_tape.proofs.Filling.{IsWide, each_wide}
use Rattle.shared_tape.proofs.Wide.{inputs_wide, rows_wide}

-- streams that fit are as wide as the net, and as long as they are
pub are_streams : (net : PlainNet) (limit : ℕ) (given streams : List Stream) (fits : Fits net (Some limit) given) (registers width steps : ℕ) → streams ≡ given → registers ≡ length net.registers → width ≡ length (input_bits net)
    → (AreStreams registers width fits.steps streams → steps ≡ fits.steps) → AreStreams registers width steps streams
are_streams net limit given streams fits registers width steps same many wide long =
    let own : AreStreams registers width fits.steps given = λ k d lt. (let h = fits.each k d lt in (h.initial ∙ sym many, h.count, λ j e less. h.rows j e less ∙ sym wide)) in
    let here : AreStreams registers width fits.steps streams = subst (AreStreams registers width fits.steps) (sym same) own in
    subst (λ n. AreStreams registers width n streams) (sym (long here)) here

module _ (net : PlainNet) (r : Report) (seed : List ℕ) (streams : List Stream) (secrets : List Bool) (inputs : List Input) (width steps : ℕ)
    (some : 0 < r.period) (turns : r.streams ≡ streams_of r.balance r.period) (tells : TellsSecrets net (named_marks net r) secrets) (is : inputs ≡ inputs_of net r) (wide : width ≡ length (input_bits net))
    (are : AreStreams (length secrets) width steps streams) (rows : List Row) (rows_are : rows ≡ tape_rows seed r secrets inputs (filled (length secrets) width r.streams steps streams) steps) where
  as_wide : width ≡ width_of inputs
  as_wide = wide ∙ (sym (inputs_wide net r) ∙ ap width_of (sym is))

  pub rectangular : (k : ℕ) (d : Row) → k < length rows → length (get_or rows k d) ≡ tape_width r.order secrets inputs
  rectangular =
      rows_wide seed r secrets inputs (filled (length secrets) width r.streams steps streams) steps some turns
      (λ s lt. subst (λ n. IsWide (length secrets) n steps (stream_at (filled (length secrets) width r.streams steps streams) s)) as_wide (each_wide (length secrets) width r.streams steps streams are s lt)) rows rows_are

  pub shared_tape : SharedTape net r streams seed rows
  shared_tape =
      record {
        steps = steps;
        as_long = λ k d lt. (are k d lt).1;
        secrets = secrets;
        tells = tells;
        rows_are = rows_are
            ∙ (ap (λ ins. tape_rows seed r secrets ins (filled (length secrets) width r.streams steps streams) steps) is
            ∙ ap₂ (λ m n. tape_rows seed r secrets (inputs_of net r) (filled m n r.streams steps streams) steps) tells.one_each wide);
      }

-- streams that fit are as long as the tape's
pub fits_are : (net : PlainNet) (r : Report) (seed : List ℕ) (streams : List Stream) (rows : List Row) → Fits net (Some r.streams) streams → (shared : SharedTape net r streams seed rows)
    → AreStreams (length net.registers) (length (input_bits net)) shared.steps streams
fits_are net r seed streams rows fits shared = λ k d lt. (let h = fits.each k d lt in (h.initial, shared.as_long k d lt, h.rows))
