-- Rows of wires and repeated bits, one more at a time.
use Rattle.std.proofs.Common.{◌≡◌, ◌≤◌, ◌<◌, ◌+◌, ◌-◌, ◌++◌, ℕ, zero, suc, List, [], ◌∷◌, map, ap, sym, ◌∙◌, append_assoc, arith}
use Rattle.std.proofs.lemmas.List.FromFn.{map-range_with_len_more}
use Rattle.form_bits.specs.Forms.{run, repeated}
use Rattle.form_bits.specs.declared.types.Bit.{Bit}
use Rattle.form_bits.specs.declared.types.Bit.TheVariants.{Wire}

pub run_next : (start k : ℕ) → start ≤ k → run start (k + 1 - start) ≡ run start (k - start) ++ Wire k ∷ []
run_next start k h =
    let long : k + 1 - start ≡ (k - start) + 1 = omega arith in
    let last : start + (k - start) ≡ k = omega arith in
    ap (λ n. run start n) long ∙ map-range_with_len_more (λ j. Wire j) start (k - start) k last

pub repeated_next : (bits : List Bit) (n k : ℕ) → k < n → repeated (n - k) bits ≡ bits ++ repeated (n - (k + 1)) bits
repeated_next bits n k h =
    let more : n - k ≡ suc (n - (k + 1)) = omega arith in
    ap (λ m. repeated m bits) more

pub run_on : (new old first : List Bit) (start k : ℕ) → start ≤ k → old ≡ first ++ run start (k - start) → new ≡ old ++ Wire k ∷ [] → new ≡ first ++ run start (k + 1 - start)
run_on new old first start k h was now =
    now ∙ (ap (λ (bs : List Bit). bs ++ Wire k ∷ []) was ∙ (append_assoc first (run start (k - start)) (Wire k ∷ []) ∙ ap (λ bs. first ++ bs) (sym (run_next start k h))))

pub repeated_on : (new old once whole : List Bit) (n k : ℕ) → k < n → old ++ repeated (n - k) once ≡ whole → new ≡ old ++ once → new ++ repeated (n - (k + 1)) once ≡ whole
repeated_on new old once whole n k h was now =
    ap (λ (bs : List Bit). bs ++ repeated (n - (k + 1)) once) now
    ∙ (append_assoc old once (repeated (n - (k + 1)) once) ∙ (ap (λ bs. old ++ bs) (sym (repeated_next once n k h)) ∙ was))
